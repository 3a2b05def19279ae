-- The text of a program (docs/C_SUBSET.md, "The text").
use Rattle.std.specs.Prelude.{ℕ, ◌+◌, Bool, List, [], ◌∷◌, ◌++◌, flat_map, Option, Some, None}
use Rattle.dt_values.specs.declared.width.Width.{Width}
use Rattle.dt_values.specs.declared.set.SetDef.{SetDef}
use Rattle.c_subset.specs.Programs.{Name, Pattern, Extraction, Prefix, Program, prefix_of}
use Rattle.c_subset.specs.Programs.{LoadBlock, load_block, LoadSwitch, no_switch, load_switch, LoadCases}
use Rattle.c_subset.specs.Programs.{no_load_case, or_load_case}
use Rattle.c_tokens.specs.Words.{hex_length}
use Rattle.c_print.specs.ExprLayout.{assign_line}
use Rattle.c_print.specs.Lines.{static_text, head_line, set_head_line, member_line, set_end_line, typedef_line}
use Rattle.c_print.specs.Lines.{prototype_line, close_line, extraction_head_line, assignment_line, empty_line}
use Rattle.c_print.specs.Lines.{head_of_decoder, union_head_line, union_set_line, union_end_lines, mark_line}
use Rattle.c_print.specs.Lines.{extract_line, call_line, if_line, switch_line, case_line, break_line, end_lines}
use Rattle.c_print.specs.Lines.{head_of_load, load_line, return_line}
use Rattle.c_print.specs.Marked.{Part, if_mask, switch_by, extract_to, assign_to, call_to}
use Rattle.c_print.specs.Marked.{Block, no_part, and_part, and_mark, Branches, no_branch, or_branch}

-- statements so many spaces from the left, of the decoder and the prefix with these names
abbrev mutual
  pub part_text : Width → Name → Name → ℕ → Part → List ℕ
  part_text w d p level (if_mask m v block) =
      if_line (hex_length w) level m v ++ (block_text w d p (level + 4) block ++ close_line level)
  part_text w d p level (switch_by m branches) =
      switch_line (hex_length w) level m ++ (branches_text w d p level branches ++ close_line level)
  part_text w d p level (extract_to x s) = extract_line level d x s
  part_text w d p level (assign_to s a e) = assign_line w level (Some s) a e
  part_text w d p level (call_to n s) = call_line level p n s

  pub block_text : Width → Name → Name → ℕ → Block → List ℕ
  block_text w d p level no_part = []
  block_text w d p level (and_part part more) = part_text w d p level part ++ block_text w d p level more
  block_text w d p level (and_mark file line more) = mark_line level file line ++ block_text w d p level more

  pub branches_text : Width → Name → Name → ℕ → Branches → List ℕ
  branches_text w d p level no_branch = []
  branches_text w d p level (or_branch v block branches) =
      case_line (hex_length w) level v
      ++ (block_text w d p (level + 4) block ++ (break_line (level + 4) ++ branches_text w d p level branches))

abbrev pub set_text : SetDef → List ℕ
set_text s = set_head_line ++ (flat_map member_line s.members ++ set_end_line s.name)

-- a pattern's typedef and its prototype, static or not
abbrev pub pattern_text : Prefix → Pattern → List ℕ
pattern_text prefix p = typedef_line p ++ (static_text prefix.is_static ++ prototype_line prefix.name p.name)

abbrev pub extraction_text : Width → Name → Extraction → List ℕ
extraction_text w decoder e =
    extraction_head_line w decoder e.format e.set ++ (flat_map (assignment_line w 4 None) e.assigns ++ close_line 0)

abbrev pub decoder_head_text : Width → Name → Bool → List ℕ
decoder_head_text w decoder is_static = empty_line ++ (static_text is_static ++ head_of_decoder w decoder)

-- the union, where there is a pattern
abbrev pub union_text : List Pattern → List Name → List ℕ
union_text [] sets = []
union_text (p ∷ ps) sets = union_head_line ++ (flat_map union_set_line sets ++ union_end_lines)

-- the load block, so many spaces from the left
abbrev pub loaded_text : ℕ → Name → Option (ℕ × ℕ) → List ℕ
loaded_text level d None = []
loaded_text level d (Some bytes) = load_line level d bytes.0 bytes.1

abbrev mutual
  pub load_text : Width → Name → ℕ → LoadBlock → List ℕ
  load_text w d level (load_block bytes more) =
      loaded_text level d bytes ++ (load_switch_text w d level more ++ return_line level)

  pub load_switch_text : Width → Name → ℕ → LoadSwitch → List ℕ
  load_switch_text w d level no_switch = []
  load_switch_text w d level (load_switch m cs) =
      switch_line (hex_length w) level m ++ (load_cases_text w d level cs ++ close_line level)

  pub load_cases_text : Width → Name → ℕ → LoadCases → List ℕ
  load_cases_text w d level no_load_case = []
  load_cases_text w d level (or_load_case v b cs) =
      case_line (hex_length w) level v ++ (load_text w d (level + 4) b ++ load_cases_text w d level cs)

abbrev pub load_head_text : Width → Name → Bool → List ℕ
load_head_text w decoder is_static = empty_line ++ (static_text is_static ++ head_of_load w decoder)

-- the load function, where there is one
abbrev pub load_function_text : Width → Name → Bool → Option LoadBlock → List ℕ
load_function_text w d is_static None = []
load_function_text w d is_static (Some block) =
    load_head_text w d is_static ++ (load_text w d 4 block ++ close_line 0)

-- the decoder with this body, and behind it the load function
abbrev pub decoder_text : Program → Block → List ℕ
decoder_text p body =
    decoder_head_text p.width p.decoder p.decoder_static
    ++ (union_text p.patterns p.union_sets
    ++ (block_text p.width p.decoder (prefix_of p.prefix).name 4 body
    ++ (end_lines ++ load_function_text p.width p.decoder p.decoder_static p.load)))

-- the text of a program whose body has marks
abbrev pub text_of : Program → Block → List ℕ
text_of p body =
    head_line
    ++ (flat_map set_text p.sets
    ++ (flat_map (pattern_text (prefix_of p.prefix)) p.patterns
    ++ (flat_map (extraction_text p.width p.decoder) p.extracts
    ++ decoder_text p body)))
