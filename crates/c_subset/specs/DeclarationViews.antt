-- What the code's functions, heads and declarations stand for (the C subset, docs/C_SUBSET.md).
use Rattle.std.specs.Prelude.{map, option_map}
use Rattle.c_subset.specs.View.{assignment_of, extraction_of, pattern_of, prefix_seen}
use Rattle.c_subset.specs.DeclarationParsing.{Declared}
use Rattle.c_subset.specs.ExtractParsing.{Function, Head}
use Rattle.c_subset.specs.declared.declarations.Declared.{Declared as MadeDeclared}
use Rattle.c_subset.specs.declared.extracts.Function.{Function as MadeFunction}
use Rattle.c_subset.specs.declared.extracts.Head.{Head as MadeHead}

abbrev pub function_seen : MadeFunction → Function
function_seen f = record { name = f.name.now; set = f.set; width = f.width; assigns = map assignment_of f.assigns.items }

abbrev pub head_seen : MadeHead → Head
head_seen h = record { is_static = h.is_static; decoder = h.decoder; width = h.width }

abbrev pub declared_seen : MadeDeclared → Declared
declared_seen d = record {
  sets = d.sets;
  prefix = option_map prefix_seen d.prefix;
  patterns = map pattern_of d.patterns;
  extracts = map extraction_of d.extracts;
  decoder = d.decoder;
  decoder_static = d.decoder_static;
  width = d.width;
}
