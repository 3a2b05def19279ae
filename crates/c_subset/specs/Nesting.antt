-- How deep the braces inside a body and a load function nest.
use Rattle.std.specs.Prelude.{ℕ, zero, suc}
use Rattle.c_subset.specs.Programs.{Stmt, on_mask, switch, extract, assign, call, Stmts, done, then, Cases, no_case}
use Rattle.c_subset.specs.Programs.{or_case, LoadBlock, load_block, LoadSwitch, no_switch, load_switch, LoadCases}
use Rattle.c_subset.specs.Programs.{no_load_case, or_load_case}

-- the braces of statements nest no deeper than the number
abbrev mutual
  pub StmtWithin : ℕ → Stmt → Type 0
  StmtWithin zero (on_mask m v ss) = ⊥
  StmtWithin (suc braces) (on_mask m v ss) = StmtsWithin braces ss
  StmtWithin zero (switch m cs) = ⊥
  StmtWithin (suc braces) (switch m cs) = CasesWithin braces cs
  StmtWithin braces (extract x s) = Unit {0}
  StmtWithin braces (assign s a e) = Unit {0}
  StmtWithin braces (call n s) = Unit {0}

  pub StmtsWithin : ℕ → Stmts → Type 0
  StmtsWithin braces done = Unit {0}
  StmtsWithin braces (then s ss) = StmtWithin braces s × StmtsWithin braces ss

  pub CasesWithin : ℕ → Cases → Type 0
  CasesWithin braces no_case = Unit {0}
  CasesWithin braces (or_case v ss cs) = StmtsWithin braces ss × CasesWithin braces cs

-- and those of a load block
abbrev mutual
  pub LoadWithin : ℕ → LoadBlock → Type 0
  LoadWithin braces (load_block bytes more) = LoadSwitchWithin braces more

  pub LoadSwitchWithin : ℕ → LoadSwitch → Type 0
  LoadSwitchWithin braces no_switch = Unit {0}
  LoadSwitchWithin zero (load_switch m cs) = ⊥
  LoadSwitchWithin (suc braces) (load_switch m cs) = LoadCasesWithin braces cs

  pub LoadCasesWithin : ℕ → LoadCases → Type 0
  LoadCasesWithin braces no_load_case = Unit {0}
  LoadCasesWithin braces (or_load_case v b cs) = LoadWithin braces b × LoadCasesWithin braces cs
