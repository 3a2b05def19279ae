-- The reader of all that stands before the decoder's body (the C subset, docs/C_SUBSET.md).
use Rattle.std.specs.Prelude.{List, Bool, Option}
use Rattle.dt_values.specs.declared.width.Width.{Width}
use Rattle.dt_values.specs.declared.set.SetDef.{SetDef}
use Rattle.c_tokens.specs.Parsing.{Parse, both, made}
use Rattle.c_subset.specs.Programs.{Name, Prefix, Pattern, Extraction}
use Rattle.c_subset.specs.SetParsing.{sets_at}
use Rattle.c_subset.specs.PatternParsing.{patterns_at}
use Rattle.c_subset.specs.ExtractParsing.{Head, extracts_at}

-- what is declared before the decoder's body
pub record Declared : Type 0 where
  pub sets : List SetDef
  pub prefix : Option Prefix
  pub patterns : List Pattern
  pub extracts : List Extraction
  pub decoder : Name
  pub decoder_static : Bool
  pub width : Width

abbrev pub Parts : Type 0
Parts = List SetDef × ((Option Prefix × List Pattern) × (List Extraction × Head))

abbrev pub declared_of : Parts → Declared
declared_of x = record {
  sets = x.0;
  prefix = x.1.0.0;
  patterns = x.1.0.1;
  extracts = x.1.1.0;
  decoder = x.1.1.1.decoder;
  decoder_static = x.1.1.1.is_static;
  width = x.1.1.1.width;
}

unfoldable pub declared_at : Parse Declared
declared_at = made declared_of (both sets_at (both patterns_at extracts_at))
