use Rattle.std.proofs.Common.{ap, ◌∙◌, ◌++◌, ◌∷◌, []}
use Rattle.dt_model.specs.Trees.{items_of}
use Rattle.dt_scope.specs.Marks.{grouped}
use Rattle.dt_scope.proofs.Spelling.{closed, same_kind}
use Rattle.dt_scope.proofs.groups.Groups.close.Goals as goal

pub returns-clause-spelled : goal.returns-clause-spelled
returns-clause-spelled c =
    closed _ _ c.in-Some.open c.args.self.now.entries.items _ c.grouped.result c.args.kind c.in-Some.ensures.items
    (c.in_ok-push_last.ensures ∙ ap (λ v. v.items ++ c.grouped.result ∷ []) c.replace-entries.ensures.after)
    (c.grouped.ensures ∙ ap (λ v. grouped c.args.kind c.in-Some.open.opening.file c.in-Some.open.opening.line
    (items_of v.items)) c.replace-entries.ensures.value)
    (same_kind _ _ c.in-Some.open c.args.kind c.in-Some.ensures.items c.requires)
