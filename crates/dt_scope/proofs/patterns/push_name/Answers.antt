use Rattle.std.proofs.Common.{◌∙◌, ap, sym}
use Rattle.std.specs.List.{list_any}
use Rattle.dt_values.specs.Types.{is_text}
use Rattle.dt_scope.proofs.PatternNames.{set_more}
use Rattle.dt_scope.proofs.patterns.push_name.Goals as goal

pub returns-in-Ok-clause-set : goal.returns-in-Ok-clause-set
returns-in-Ok-clause-set c = λ name.
    set_more c.args.names.now.items c.args.name_set.now.keys _ c.args.name c.in-Ok.ensures.keys c.requires name
    ∙ ap (list_any (is_text name)) (sym c.in_ok-push.ensures.items)
