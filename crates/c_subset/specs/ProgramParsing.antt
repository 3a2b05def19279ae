-- The reader of a whole program (the C subset, docs/C_SUBSET.md).
use Rattle.std.specs.Prelude.{ℕ, Bool, true, false, List, [], ◌∷◌, Option, Some, None, option_map, option_and_then, cond}
use Rattle.c_tokens.specs.Tokens.{Token}
use Rattle.c_tokens.specs.Parsing.{Parse, then_each, both, closed, made, is_nothing}
use Rattle.c_subset.specs.Programs.{Name, Stmts, Pattern, Program, LoadBlock, decoder_end_spelled}
use Rattle.c_subset.specs.DeclarationParsing.{Declared, declared_at}
use Rattle.c_subset.specs.SetParsing.{union_at}
use Rattle.c_subset.specs.StmtParsing.{Scope, stmts_at}
use Rattle.c_subset.specs.LoadParsing.{load_function_at}

-- what a reader reads where it takes all tokens
abbrev pub all_taken : {A : Type 0} → A × List Token → Option A
all_taken x = cond (is_nothing x.1) (Some x.0) None

abbrev pub read_whole : {A : Type 0} → Parse A → List Token → Option A
read_whole p tokens = option_and_then all_taken (p tokens)

abbrev pub is_some_pattern : List Pattern → Bool
is_some_pattern [] = false
is_some_pattern (p ∷ ps) = true

abbrev pub scope_for : Declared → Scope
scope_for d = record { width = d.width; decoder = d.decoder; prefix = option_map (λ prefix. prefix.name) d.prefix }

-- the union's sets, the statements and the load function
abbrev pub Defined : Type 0
Defined = List Name × (Stmts × Option LoadBlock)

-- the statements, up to the decoder's end; braces inside its own nest no deeper than the number
unfoldable pub body_at : ℕ → Declared → Parse Stmts
body_at braces d = closed (stmts_at (scope_for d) braces) decoder_end_spelled

-- what stands behind the decoder's head
unfoldable pub defined_at : ℕ → Declared → Parse Defined
defined_at braces d =
    both (union_at (is_some_pattern d.patterns))
    (both (body_at braces d) (load_function_at d.width d.decoder d.decoder_static braces))

abbrev pub program_from : Declared × Defined → Program
program_from x = record {
  width = x.0.width;
  sets = x.0.sets;
  prefix = x.0.prefix;
  patterns = x.0.patterns;
  extracts = x.0.extracts;
  decoder = x.0.decoder;
  decoder_static = x.0.decoder_static;
  union_sets = x.1.0;
  body = x.1.1.0;
  load = x.1.1.1;
}

unfoldable pub program_at : ℕ → Parse Program
program_at braces = made program_from (then_each declared_at (defined_at braces))
