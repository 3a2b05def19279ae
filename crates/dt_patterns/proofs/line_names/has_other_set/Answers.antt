use Rattle.std.proofs.Common.{◌∙◌, sym}
use Rattle.dt_patterns.proofs.OtherSets.{no_other}
use Rattle.dt_patterns.proofs.line_names.has_other_set.Goals as goal

pub returns-else-has_name : goal.returns-else-has_name
returns-else-has_name c =
    c.if-has_name.false
    ∙ sym (no_other c.args.formats.now c.args.patterns.now c.args.set c.args.name (sym c.has_name.ensures
    ∙ c.if-has_name.false))
