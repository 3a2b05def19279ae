-- Where a program calls translators (docs/C_SUBSET.md, "The text"), and how many statements it has.
use Rattle.std.specs.Prelude.{ℕ, ◌+◌, List, [], ◌∷◌, ◌++◌, length}
use Rattle.c_subset.specs.Programs.{Name, Stmt, on_mask, switch, extract, assign, call, Stmts, done, then, Cases}
use Rattle.c_subset.specs.Programs.{no_case, or_case}

-- the patterns' names at the call sites of statements, from first to last, inside blocks too
abbrev mutual
  pub call_sites_in : Stmt → List Name
  call_sites_in (on_mask mask value block) = call_sites block
  call_sites_in (switch mask cases) = call_sites_of_cases cases
  call_sites_in (extract format set) = []
  call_sites_in (assign set name e) = []
  call_sites_in (call name set) = name ∷ []

  pub call_sites : Stmts → List Name
  call_sites done = []
  call_sites (then s ss) = call_sites_in s ++ call_sites ss

  pub call_sites_of_cases : Cases → List Name
  call_sites_of_cases no_case = []
  call_sites_of_cases (or_case value block cases) = call_sites block ++ call_sites_of_cases cases

abbrev pub calls_in : Stmts → ℕ
calls_in ss = length (call_sites ss)

-- how many statements there are, inside blocks too
abbrev mutual
  pub statements_from : Stmt → ℕ
  statements_from (on_mask mask value block) = 1 + statements_in block
  statements_from (switch mask cases) = 1 + statements_of_cases cases
  statements_from (extract format set) = 1
  statements_from (assign set name e) = 1
  statements_from (call name set) = 1

  pub statements_in : Stmts → ℕ
  statements_in done = 0
  statements_in (then s ss) = statements_from s + statements_in ss

  pub statements_of_cases : Cases → ℕ
  statements_of_cases no_case = 0
  statements_of_cases (or_case value block cases) = statements_in block + statements_of_cases cases
