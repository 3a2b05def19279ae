-- How calls and statements are counted, one by one.
use Rattle.std.proofs.Common.{◌≡◌, ℕ, ◌+◌, ◌≤◌, length, arith, length-append}
use Rattle.c_subset.specs.Programs.{Stmt, on_mask, switch, extract, assign, call, Stmts, done, then, Cases, no_case}
use Rattle.c_subset.specs.Programs.{or_case}
use Rattle.c_subset.specs.Sites.{call_sites_in, call_sites, call_sites_of_cases, calls_in, statements_from}
use Rattle.c_subset.specs.Sites.{statements_in, statements_of_cases}

pub calls_then : (s : Stmt) (ss : Stmts) → calls_in (then s ss) ≡ length (call_sites_in s) + calls_in ss
calls_then s ss = length-append (call_sites_in s) (call_sites ss)

pub calls_or_case : (v : ℕ) (ss : Stmts) (cs : Cases)
    → length (call_sites_of_cases (or_case v ss cs)) ≡ calls_in ss + length (call_sites_of_cases cs)
calls_or_case v ss cs = length-append (call_sites ss) (call_sites_of_cases cs)

mutual
  in_statement : (s : Stmt) → length (call_sites_in s) ≤ statements_from s
  in_statement (on_mask m v ss) = omega (arith, calls_are_statements ss)
  in_statement (switch m cs) = omega (arith, in_cases cs)
  in_statement (extract x s) = omega arith
  in_statement (assign s a e) = omega arith
  in_statement (call n s) = omega arith

  -- each call is a statement
  pub calls_are_statements : (ss : Stmts) → calls_in ss ≤ statements_in ss
  calls_are_statements done = omega arith
  calls_are_statements (then s ss) = omega (arith, calls_then s ss, in_statement s, calls_are_statements ss)

  in_cases : (cs : Cases) → length (call_sites_of_cases cs) ≤ statements_of_cases cs
  in_cases no_case = omega arith
  in_cases (or_case v ss cs) = omega (arith, calls_or_case v ss cs, calls_are_statements ss, in_cases cs)
