use Rattle.std.proofs.Common.{◌≡◌, ◌+◌, ◌*◌, drop}
use Rattle.dt_values.specs.Widths.{width_bits}
use Rattle.c_eval.specs.Loads.{after_case}
use Rattle.c_eval.specs.LoadView.{load_cases_of, loaded_seen}
use Rattle.c_eval.proofs.load.+load.Given as goal

abbrev pub decreases-load_block : goal.decreases-load_block
decreases-load_block l = 2 * goal.size-load_block l

abbrev pub decreases-load_case : goal.decreases-load_case
decreases-load_case l = 2 * goal.size-load_case l + 1

abbrev pub invariant-load_case-loop-case : goal.invariant-load_case-loop-case
invariant-load_case-loop-case l =
    after_case (width_bits l.width) l.input l.value (load_cases_of (drop l.case-index l.cases)) (loaded_seen l.at)
    ≡ after_case (width_bits l.width) l.input l.value (load_cases_of l.cases) (loaded_seen l.at)
