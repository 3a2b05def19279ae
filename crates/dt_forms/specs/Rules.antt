-- The rules of the lines of pattern files, mostly as scripts/decodetree.py checks them. The order of the rules is this
-- project's.
use Rattle.std.specs.Prelude.{ℕ, ◌+◌, ◌-◌, List, [], ◌∷◌, ◌++◌, length, map, take, Option, Some, None}
use Rattle.dt_values.specs.Widths.{width_bits}
use Rattle.dt_lines.specs.Lines.{Line, physical_lines}
use Rattle.dt_lines.specs.declared.line.Position.{Position}
use Rattle.dt_fields.specs.declared.rule.Rule.TheVariants as rule
use Rattle.dt_fields.specs.Faults.{Broken, token, first}
use Rattle.dt_fields.specs.FieldLines.{field_line_faults, line_field}
use Rattle.dt_fields.specs.SetLines.{set_line_faults, line_set}
use Rattle.dt_forms.specs.declared.head.Head.{Head}
use Rattle.dt_forms.specs.declared.head.Head.TheVariants as head
use Rattle.dt_model.specs.declared.options.Options.{Options}
use Rattle.dt_scope.specs.declared.kind.Kind.{Kind}
use Rattle.dt_scope.specs.declared.kind.Opening.{Opening}
use Rattle.dt_scope.specs.Groups.{innermost}
use Rattle.dt_scope.specs.Marks.{opens, closes}
use Rattle.dt_forms.specs.FileLines.{FileLine, file_lines, line_position}
use Rattle.dt_forms.specs.Heads.{head_of, opening_text}
use Rattle.dt_patterns.specs.FormatLines.{after_format, format_faults}
use Rattle.dt_patterns.specs.PatternLines.{after_pattern, pattern_faults}
use Rattle.dt_forms.specs.Structure.{indentation_row, structure_rows}
use Rattle.dt_scope.specs.Scope.{Scope, nothing_defined, pattern_names}

-- the rules of what a line defines
abbrev pub definition_faults : Options → Scope → List ℕ → List (List ℕ) → Head → List Broken
definition_faults options scope first rest (head.Opens kind) = []
definition_faults options scope first rest (head.Closes kind) = []
definition_faults options scope first rest (head.Field name) =
    field_line_faults (width_bits options.width) scope.fields (first ∷ rest)
definition_faults options scope first rest (head.Set name) =
    set_line_faults scope.sets (pattern_names scope.patterns) (first ∷ rest)
definition_faults options scope first rest (head.Format name) = format_faults options scope name rest
definition_faults options scope first rest (head.Pattern name) = pattern_faults options scope name rest
definition_faults options scope first rest head.None = []

abbrev pub head_faults : Options → Scope → ℕ → List ℕ → List (List ℕ) → Head → List Broken
head_faults options scope indent first rest h =
    structure_rows scope indent first rest h ++ definition_faults options scope first rest h

-- the rules that a line with these tokens breaks, in order; a line without tokens has L1 alone
abbrev pub faults_in : Options → Scope → ℕ → List (List ℕ) → List Broken
faults_in options scope indent [] = indentation_row (length scope.groups) indent
faults_in options scope indent (first ∷ rest) = head_faults options scope indent first rest (head_of first)

-- those of a line, which sees what the lines before it define
abbrev pub faults_of_line : Options → Scope → Line → List Broken
faults_of_line options scope l = faults_in options scope l.indent l.tokens

-- what a line adds
abbrev pub after_opening : Scope → Opening → Scope
after_opening scope o = record scope {
  groups = scope.groups ++ o ∷ [];
  marks = scope.marks ++ opens o.kind o.file o.line ∷ [];
}

abbrev pub after_closing : Scope → Kind → Scope
after_closing scope kind = record scope {
  groups = take (length scope.groups - 1) scope.groups;
  marks = scope.marks ++ closes kind ∷ [];
}

abbrev pub after_head : Options → Scope → Position → List ℕ → List (List ℕ) → Head → Scope
after_head options scope position first rest (head.Opens kind) =
    after_opening scope (record { kind = kind; file = position.file; line = position.line })
after_head options scope position first rest (head.Closes kind) = after_closing scope kind
after_head options scope position first rest (head.Field name) =
    record scope { fields = scope.fields ++ line_field (first ∷ rest) ∷ [] }
after_head options scope position first rest (head.Set name) =
    record scope { sets = scope.sets ++ line_set (first ∷ rest) ∷ [] }
after_head options scope position first rest (head.Format name) = after_format options scope name rest
after_head options scope position first rest (head.Pattern name) = after_pattern options scope position name rest
after_head options scope position first rest head.None = scope

abbrev pub after_tokens : Options → Scope → Position → List (List ℕ) → Scope
after_tokens options scope position [] = scope
after_tokens options scope position (first ∷ rest) = after_head options scope position first rest (head_of first)

abbrev pub after_line : Options → Scope → FileLine → Scope
after_line options scope l = after_tokens options scope (line_position l) l.line.tokens

-- what lines define, behind others
abbrev pub after_lines : Options → Scope → List FileLine → Scope
after_lines options scope [] = scope
after_lines options scope (l ∷ ls) = after_lines options (after_line options scope l) ls

-- what the lines before a line define
abbrev pub scope_before : Options → List FileLine → Scope
scope_before options lines = after_lines options nothing_defined lines

-- a fault: the place of the file, from 0, the line, and the rule with its detail
pub record Fault : Type 0 where
  pub file : ℕ
  pub line : ℕ
  pub broken : Broken

abbrev pub fault_on : FileLine → Broken → Fault
fault_on l b = record { file = l.file; line = l.line.line; broken = b }

-- the faults of lines, in order of line and rule; the first sees this scope, and each other also what those before it add
abbrev pub faults_from : Options → Scope → List FileLine → List Fault
faults_from options scope [] = []
faults_from options scope (l ∷ ls) =
    map (fault_on l) (faults_of_line options scope l.line) ++ faults_from options (after_line options scope l) ls

-- L6 on the last physical line of a file where a group is open at its end: the opening token of the innermost one
abbrev pub unclosed_fault : ℕ → List ℕ → Opening → Fault
unclosed_fault file text o = record {
  file = file;
  line = length (physical_lines text);
  broken = (rule.L6, token (opening_text o.kind));
}

abbrev pub unclosed_faults : ℕ → List ℕ → Option Opening → List Fault
unclosed_faults file text None = []
unclosed_faults file text (Some o) = unclosed_fault file text o ∷ []

-- the faults of the file at this place, whose lines see this scope: those of its lines, and then of its end
abbrev pub faults_of_file : Options → Scope → ℕ → List ℕ → List Fault
faults_of_file options scope file text =
    faults_from options scope (file_lines file text)
    ++ unclosed_faults file text (innermost (after_lines options scope (file_lines file text)).groups)

-- each file begins with no open group
abbrev pub begun : Scope → Scope
begun scope = record scope { groups = [] }

-- the faults of files, of which the first has this place, in order of file, line and rule
abbrev pub faults_of_files : Options → Scope → ℕ → List (List ℕ) → List Fault
faults_of_files options scope file [] = []
faults_of_files options scope file (text ∷ texts) =
    faults_of_file options (begun scope) file text
    ++ faults_of_files options (after_lines options (begun scope) (file_lines file text)) (file + 1) texts

-- the first rule of the least line that breaks one, in files of which the first has place 0
abbrev pub first_fault : Options → List (List ℕ) → Option Fault
first_fault options texts = first (faults_of_files options nothing_defined 0 texts)
