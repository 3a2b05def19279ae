-- The readers of load blocks go down by their braces, and the loop over cases reads them one after another.
use Rattle.std.proofs.Common.{◌+◌, ◌*◌, length, map}
use Rattle.c_subset.specs.ReadView.{load_case_of}
use Rattle.c_subset.specs.StmtParsing.{starts_case}
use Rattle.c_subset.specs.LoadParsing.{load_case_at, load_inner_at}
use Rattle.c_tokens.proofs.Loops.{Reading}
use Rattle.c_subset.proofs.loads.+load_blocks.Given as goal

abbrev pub decreases-load_inner_at : goal.decreases-load_inner_at
decreases-load_inner_at l = 6 * l.braces

abbrev pub decreases-load_case_at : goal.decreases-load_case_at
decreases-load_case_at l = 6 * l.braces + 1

abbrev pub decreases-load_cases_at : goal.decreases-load_cases_at
decreases-load_cases_at l = 6 * l.braces + 2

abbrev pub decreases-load_switch_at : goal.decreases-load_switch_at
decreases-load_switch_at l = 6 * l.braces + 3

abbrev pub decreases-maybe_switch_at : goal.decreases-maybe_switch_at
decreases-maybe_switch_at l = 6 * l.braces + 4

abbrev pub decreases-load_block_at : goal.decreases-load_block_at
decreases-load_block_at l = 6 * l.braces + 5

abbrev pub invariant-load_cases_at-more : goal.invariant-load_cases_at-more
invariant-load_cases_at-more l =
    Reading starts_case (load_case_at l.width (load_inner_at l.width l.decoder l.braces)) l.initial.tokens
    (map load_case_of l.cases.items) l.tokens

abbrev pub decreases-load_cases_at-more : goal.decreases-load_cases_at-more
decreases-load_cases_at-more l = length l.tokens
