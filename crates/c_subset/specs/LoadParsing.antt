-- The readers of the load function (the C subset, docs/C_SUBSET.md).
use Rattle.std.specs.Prelude.{ℕ, zero, suc, Bool, List, [], ◌∷◌, ◌++◌, Option, Some, None, codes}
use Rattle.dt_values.specs.declared.width.Width.{Width}
use Rattle.c_tokens.specs.Front.{number_at}
use Rattle.c_tokens.specs.Marks.{open_round, close_round, open_brace, semicolon, comma, asterisk, equals}
use Rattle.c_tokens.specs.Parsing.{Parse, begins, is_nothing, behind, closed, both, made, choose, nothing, found}
use Rattle.c_tokens.specs.Parsing.{guarded, many}
use Rattle.c_tokens.specs.Tokens.{Token, word}
use Rattle.c_subset.specs.Programs.{Name, LoadBlock, load_block, word_type, static_spelled, return_insn_spelled}
use Rattle.c_subset.specs.StmtParsing.{block_end, switch_word, switch_head_at, starts_case, case_head_at, has_item}
use Rattle.c_subset.specs.View.{load_switch_from}

abbrev pub insn_word : List Token
insn_word = word (codes "insn") ∷ []

-- insn =
abbrev pub insn_assigned : List Token
insn_assigned = word (codes "insn") ∷ equals ∷ []

-- F_load_bytes
abbrev pub load_bytes_word : Name → List Token
load_bytes_word d = word (d ++ codes "_load_bytes") ∷ []

-- (ctx, insn,
abbrev pub bytes_open : List Token
bytes_open = open_round ∷ word (codes "ctx") ∷ comma ∷ word (codes "insn") ∷ comma ∷ []

abbrev pub bytes_end : List Token
bytes_end = close_round ∷ semicolon ∷ []

-- insn = F_load_bytes(ctx, insn, FROM, TO);
unfoldable pub bytes_at : Name → Parse (ℕ × ℕ)
bytes_at d =
    behind insn_assigned (behind (load_bytes_word d) (behind bytes_open
    (both number_at (behind (comma ∷ []) (closed number_at bytes_end)))))

-- the same where it is there
unfoldable pub maybe_bytes_at : Name → Parse (Option (ℕ × ℕ))
maybe_bytes_at d = choose (begins insn_word) (made Some (bytes_at d)) (found None)

unfoldable pub load_case_at : Width → Parse LoadBlock → Parse (ℕ × LoadBlock)
load_case_at w inner = both (case_head_at w) inner

-- a switch with at least one case
unfoldable pub load_switch_at : Width → Parse LoadBlock → Parse (ℕ × List (ℕ × LoadBlock))
load_switch_at w inner =
    both (switch_head_at w) (closed (guarded has_item (many starts_case (load_case_at w inner))) block_end)

-- the same where it is there
unfoldable pub maybe_switch_at : Width → Parse LoadBlock → Parse (Option (ℕ × List (ℕ × LoadBlock)))
maybe_switch_at w inner = choose (begins switch_word) (made Some (load_switch_at w inner)) (found None)

abbrev pub block_of : Option (ℕ × ℕ) × Option (ℕ × List (ℕ × LoadBlock)) → LoadBlock
block_of x = load_block x.0 (load_switch_from x.1)

-- a block, with what reads the blocks of its cases
unfoldable pub load_block_at : Width → Name → Parse LoadBlock → Parse LoadBlock
load_block_at w d inner =
    made block_of (both (maybe_bytes_at d) (closed (maybe_switch_at w inner) return_insn_spelled))

-- the blocks of cases, whose braces nest less deep than the number
unfoldable pub load_inner_at : Width → Name → ℕ → Parse LoadBlock
load_inner_at w d zero = nothing
load_inner_at w d (suc braces) = load_block_at w d (load_inner_at w d braces)

-- a block whose braces nest no deeper than the number
unfoldable pub load_at : Width → Name → ℕ → Parse LoadBlock
load_at w d braces = load_block_at w d (load_inner_at w d braces)

-- uintW_t behind static, where it is so
abbrev pub load_type : Width → Bool → List Token
load_type w is_static = static_spelled is_static ++ word (word_type w) ∷ []

-- F_load
abbrev pub load_word : Name → List Token
load_word d = word (d ++ codes "_load") ∷ []

-- (DisasContext *ctx) {
abbrev pub load_open : List Token
load_open = open_round ∷ word (codes "DisasContext") ∷ asterisk ∷ word (codes "ctx") ∷ close_round ∷ open_brace ∷ []

-- uintW_t insn = 0;
abbrev pub insn_zero : Width → List Token
insn_zero w = word (word_type w) ∷ word (codes "insn") ∷ equals ∷ word (codes "0") ∷ semicolon ∷ []

unfoldable pub some_load_at : Width → Name → Bool → ℕ → Parse LoadBlock
some_load_at w d is_static braces =
    behind (load_type w is_static) (behind (load_word d) (behind load_open (behind (insn_zero w)
    (closed (load_at w d braces) block_end))))

-- the load function, where a token is left
unfoldable pub load_function_at : Width → Name → Bool → ℕ → Parse (Option LoadBlock)
load_function_at w d is_static braces =
    choose is_nothing (found None) (made Some (some_load_at w d is_static braces))
