use Rattle.std.proofs.Common.{◌≡◌, ◌++◌, map, option_map}
use Rattle.c_subset.specs.View.{extraction_of}
use Rattle.c_subset.specs.DeclarationViews.{function_seen, head_seen}
use Rattle.c_subset.specs.ExtractParsing.{extractions_under}
use Rattle.c_subset.proofs.extracts.extractions_under.Given as goal

abbrev pub invariant-loop-function : goal.invariant-loop-function
invariant-loop-function l =
    option_map (λ es. map extraction_of l.extracts.items ++ es)
    (extractions_under (head_seen l.head) (map function_seen l.function-iterator.rest.items))
    ≡ extractions_under (head_seen l.head) (map function_seen l.fn.functions.items)
