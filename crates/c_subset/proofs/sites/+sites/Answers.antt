use Rattle.std.proofs.Common.{◌<◌, ◌^◌, length, rules, subst}
use Rattle.c_subset.specs.Sites.{call_sites_in}
use Rattle.c_subset.specs.declared.program.Stmt.{the_lemmas}
use Rattle.c_subset.proofs.StmtViews.{seen_switch}
use Rattle.c_subset.proofs.sites.+sites.Goals as goal

pub calls_of_statement-calls_of_cases-requires : goal.calls_of_statement-calls_of_cases-requires
calls_of_statement-calls_of_cases-requires t c =
    let seen = seen_switch _ _ _ _ c.in-Switch.is c.deref-in-Switch.ensures.value in
    (search (rules, the_lemmas), subst (λ s. length (call_sites_in s) < 2 ^ 64) seen c.requires)
