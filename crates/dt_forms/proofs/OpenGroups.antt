-- Groups that are open: where they open, and that a file that breaks no rule closes them.
use Rattle.std.proofs.Common.{◌≡◌, ℕ, ◌+◌, ◌-◌, false, List, [], ◌∷◌, ◌++◌, length, get_or, map, Option, Some, None, refl, ap, ap₂, ◌∙◌, sym, subst, arith}
use Rattle.std.specs.List.{All}
use Rattle.std.proofs.lemmas.List.Elements.{All-head, All-tail, All-nil, All-push, All-take}
use Rattle.std.proofs.lemmas.Option.{slice_get-get_or}
use Rattle.dt_lines.specs.Lines.{logical_lines}
use Rattle.dt_lines.specs.Spans.{line_seen}
use Rattle.dt_lines.specs.declared.line.Logical.{Logical}
use Rattle.dt_fields.specs.Faults.{token, where_broken}
use Rattle.dt_fields.specs.declared.rule.Rule.TheVariants as rule
use Rattle.dt_scope.specs.declared.kind.Kind.{Kind}
use Rattle.dt_scope.specs.declared.kind.Kind.TheVariants.{Brace, Bracket}
use Rattle.dt_scope.specs.declared.kind.Opening.{Opening}
use Rattle.dt_model.specs.declared.options.Options.{Options}
use Rattle.dt_scope.specs.Groups.{innermost, innermost_kind}
use Rattle.dt_scope.specs.Marks.{opens, closes, pattern_mark}
use Rattle.dt_scope.specs.Scope.{Scope, nothing_defined}
use Rattle.dt_forms.specs.declared.head.Head.{Head}
use Rattle.dt_forms.specs.declared.head.Head.TheVariants as head
use Rattle.dt_forms.specs.FileLines.{FileLine, all_lines, file_lines, in_file, line_position, lines_of_files}
use Rattle.dt_forms.specs.Heads.{head_of}
use Rattle.dt_forms.specs.Models.{marks_in_files}
use Rattle.dt_forms.specs.Positions.{IsFoundOpening, OpensWith, first_token_at, first_token_in, leading_token}
use Rattle.dt_forms.specs.Rules.{after_head, after_line, after_lines, after_tokens, begun, faults_from, faults_of_file, faults_of_files, unclosed_faults}
use Rattle.dt_forms.specs.Structure.{closing_rows, extra_rows, indentation_row, is_mismatched, is_unopened, structure_rows}
use Rattle.dt_forms.specs.declared.source.Source.{Source}
use Rattle.dt_forms.specs.Sources.{IsSourceAt}
use Rattle.dt_forms.proofs.Faults.{after_append, faults_append}
use Rattle.dt_forms.proofs.HeadTokens.{opening_is_first}
use Rattle.dt_forms.proofs.LineOrder.{HasFirstToken, all_found, tokens_found}
use Rattle.dt_patterns.proofs.Unbroken.{both_empty, not_broken}

-- the kind that a line closes is that of the innermost group, where it breaks no rule
kind_by : (kind : Kind) (inner : Option Kind) → is_mismatched kind inner ≡ false → is_unopened kind inner ≡ false
    → inner ≡ Some kind
kind_by Brace None h k = absurd (cc)
kind_by Brace (Some Brace) h k = refl
kind_by Brace (Some Bracket) h k = absurd (cc)
kind_by Bracket None h k = absurd (cc)
kind_by Bracket (Some Brace) h k = absurd (cc)
kind_by Bracket (Some Bracket) h k = refl

pub closes_innermost : (scope : Scope) (indent : ℕ) (first : List ℕ) (rest : List (List ℕ)) (kind : Kind)
    → structure_rows scope indent first rest (head.Closes kind) ≡ [] → innermost_kind scope.groups ≡ Some kind
closes_innermost scope indent first rest kind h =
    let inner : Option Kind = innermost_kind scope.groups in
    let rows = (both_empty (closing_rows inner first rest kind) (indentation_row (length scope.groups - 1) indent) h).0
    in
    let kinds = both_empty (where_broken (is_mismatched kind inner) (rule.L3, token first))
    (where_broken (is_unopened kind inner) (rule.L4, token first))
    (both_empty (extra_rows rule.L2 rest) _ rows).1 in
    kind_by kind inner (not_broken (is_mismatched kind inner) (rule.L3, token first) kinds.0)
    (not_broken (is_unopened kind inner) (rule.L4, token first) kinds.1)

-- no group is open where none is the innermost
none_open : (os : List Opening) → innermost os ≡ None → os ≡ []
none_open [] h = refl
none_open (o ∷ os) h = absurd (let there : innermost (o ∷ os) ≡ Some (get_or (o ∷ os) (length (o ∷ os) - 1) o) =
    slice_get-get_or (o ∷ os) (length (o ∷ os) - 1) o (omega arith) in let no = sym h ∙ there in cc)

not_unclosed : (file : ℕ) (text : List ℕ) (inner : Option Opening) → unclosed_faults file text inner ≡ [] → inner ≡ None
not_unclosed file text None h = refl
not_unclosed file text (Some o) h = absurd (cc)

-- what a file that breaks no rule leaves
pub file_kept : (options : Options) (scope : Scope) (file : ℕ) (text : List ℕ)
    → faults_of_file options scope file text ≡ []
    → (faults_from options scope (file_lines file text) ≡ [])
    × ((after_lines options scope (file_lines file text)).groups ≡ [])
file_kept options scope file text h =
    let after : Scope = after_lines options scope (file_lines file text) in
    let parts = both_empty (faults_from options scope (file_lines file text))
    (unclosed_faults file text (innermost after.groups)) h in
    (parts.0, none_open after.groups (not_unclosed file text (innermost after.groups) parts.1))

pub begun_closed : (scope : Scope) → scope.groups ≡ [] → begun scope ≡ scope
begun_closed scope h = ap (λ (os : List Opening). record scope { groups = os }) (sym h)

-- files that break no rule: none of their lines does, and the last leaves no group open
pub files_kept : (options : Options) (scope : Scope) (file : ℕ) (texts : List (List ℕ)) → scope.groups ≡ []
    → faults_of_files options scope file texts ≡ []
    → (faults_from options scope (lines_of_files file texts) ≡ [])
    × ((after_lines options scope (lines_of_files file texts)).groups ≡ [])
files_kept options scope file [] closed h = (refl, closed)
files_kept options scope file (text ∷ texts) closed h =
    let lines : List FileLine = file_lines file text in
    let more : List FileLine = lines_of_files (file + 1) texts in
    let after : Scope = after_lines options scope lines in
    let begins : begun scope ≡ scope = begun_closed scope closed in
    let all : faults_of_file options scope file text ++ faults_of_files options after (file + 1) texts ≡ [] =
    sym (ap (λ s. faults_of_file options s file text
    ++ faults_of_files options (after_lines options s lines) (file + 1) texts) begins) ∙ h in
    let parts = both_empty (faults_of_file options scope file text)
    (faults_of_files options after (file + 1) texts) all in
    let here = file_kept options scope file text parts.0 in
    let there = files_kept options after (file + 1) texts here.1 parts.1 in (
      faults_append options scope lines more ∙ ap₂ (λ fs gs. fs ++ gs) here.0 there.0,
      ap (λ (s : Scope). s.groups) (after_append options scope lines more) ∙ there.1,
    )

module _ (options : Options) (text : List ℕ) where
  head_opens : (scope : Scope) (l : FileLine) (first : List ℕ) (rest : List (List ℕ)) (hd : Head) → head_of first ≡ hd
      → first_token_in (logical_lines text) l.line.line ≡ first
      → All (IsFoundOpening text) scope.groups
      → All (IsFoundOpening text) (after_head options scope (line_position l) first rest hd).groups
  head_opens scope l first rest (head.Opens kind) e here all =
      let o : Opening = record { kind = kind; file = l.file; line = l.line.line } in
      All-push (IsFoundOpening text) scope.groups o all (here ∙ opening_is_first first kind e)
  head_opens scope l first rest (head.Closes kind) e here all =
      All-take (IsFoundOpening text) (length scope.groups - 1) scope.groups all
  head_opens scope l first rest (head.Field name) e here all = all
  head_opens scope l first rest (head.Set name) e here all = all
  head_opens scope l first rest (head.Format name) e here all = all
  head_opens scope l first rest (head.Pattern name) e here all = all
  head_opens scope l first rest head.None e here all = all

  tokens_open : (scope : Scope) (l : FileLine) (tokens : List (List ℕ))
      → first_token_in (logical_lines text) l.line.line ≡ leading_token tokens
      → All (IsFoundOpening text) scope.groups
      → All (IsFoundOpening text) (after_tokens options scope (line_position l) tokens).groups
  tokens_open scope l [] here all = all
  tokens_open scope l (first ∷ rest) here all = head_opens scope l first rest (head_of first) refl here all

  lines_open : (scope : Scope) (ls : List FileLine)
      → All (λ l. first_token_in (logical_lines text) l.line.line ≡ leading_token l.line.tokens) ls
      → All (IsFoundOpening text) scope.groups → All (IsFoundOpening text) (after_lines options scope ls).groups
  lines_open scope [] found all = all
  lines_open scope (l ∷ ls) found all =
      lines_open (after_line options scope l) ls
      (All-tail (λ (m : FileLine). first_token_in (logical_lines text) m.line.line
      ≡ leading_token m.line.tokens) l ls found)
      (tokens_open scope l l.line.tokens (All-head
      (λ (m : FileLine). first_token_in (logical_lines text) m.line.line ≡ leading_token m.line.tokens) l ls found) all)

  -- the groups that a file leaves open, which begins with none
  pub openings_found : (scope : Scope) (file : ℕ) → scope.groups ≡ []
      → All (IsFoundOpening text) (after_lines options scope (file_lines file text)).groups
  openings_found scope file closed =
      lines_open scope (file_lines file text) (tokens_found file text)
      (subst (λ (os : List Opening). All (IsFoundOpening text) os) (sym closed) (All-nil (IsFoundOpening text)))

-- the same of the lines as they were read
pub openings_after : (options : Options) (file : ℕ) (s : Source) (bytes : List ℕ) (lines : List Logical)
    (old new : Scope) → IsSourceAt file s → bytes ≡ s.bytes → lines ≡ s.lines → old.groups ≡ []
    → new ≡ after_lines options old (map (in_file file) (map (line_seen bytes) lines))
    → All (IsFoundOpening s.bytes) new.groups
openings_after options file s bytes lines old new is e f closed after =
    let read : map (line_seen bytes) lines ≡ logical_lines s.bytes =
    ap₂ (λ bs (ls : List Logical). map (line_seen bs) ls) e f ∙ is.lines in
    let same : new ≡ after_lines options old (file_lines file s.bytes) =
    after ∙ ap (λ ls. after_lines options old (map (in_file file) ls)) read in
    subst (λ (x : Scope). All (IsFoundOpening s.bytes) x.groups) (sym same)
    (openings_found options s.bytes old file closed)

-- what opens groups stands first on its line
module _ (options : Options) (texts : List (List ℕ)) where
  head_marks : (scope : Scope) (l : FileLine) (first : List ℕ) (rest : List (List ℕ)) (hd : Head) → head_of first ≡ hd
      → first_token_at texts (line_position l) ≡ first
      → All (OpensWith texts) scope.marks → All (OpensWith texts)
      (after_head options scope (line_position l) first rest hd).marks
  head_marks scope l first rest (head.Opens kind) e here all =
      All-push (OpensWith texts) scope.marks (opens kind l.file l.line.line) all (here ∙ opening_is_first first kind e)
  head_marks scope l first rest (head.Closes kind) e here all =
      All-push (OpensWith texts) scope.marks (closes kind) all tt
  head_marks scope l first rest (head.Field name) e here all = all
  head_marks scope l first rest (head.Set name) e here all = all
  head_marks scope l first rest (head.Format name) e here all = all
  head_marks scope l first rest (head.Pattern name) e here all =
      All-push (OpensWith texts) scope.marks (pattern_mark (length scope.patterns)) all tt
  head_marks scope l first rest head.None e here all = all

  tokens_mark : (scope : Scope) (l : FileLine) (tokens : List (List ℕ))
      → first_token_at texts (line_position l) ≡ leading_token tokens
      → All (OpensWith texts) scope.marks → All (OpensWith texts)
      (after_tokens options scope (line_position l) tokens).marks
  tokens_mark scope l [] here all = all
  tokens_mark scope l (first ∷ rest) here all = head_marks scope l first rest (head_of first) refl here all

  lines_mark : (scope : Scope) (ls : List FileLine) → All (HasFirstToken texts) ls → All (OpensWith texts) scope.marks
      → All (OpensWith texts) (after_lines options scope ls).marks
  lines_mark scope [] found all = all
  lines_mark scope (l ∷ ls) found all =
      lines_mark (after_line options scope l) ls (All-tail (HasFirstToken texts) l ls found)
      (tokens_mark scope l l.line.tokens (All-head (HasFirstToken texts) l ls found) all)

  pub groups_open : All (OpensWith texts) (marks_in_files options texts)
  groups_open = lines_mark nothing_defined (all_lines texts) (all_found texts) (All-nil (OpensWith texts))
