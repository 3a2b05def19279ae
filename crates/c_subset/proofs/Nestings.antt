-- Any statements nest within some number of braces, and within any greater one.
use Rattle.std.proofs.Common.{ℕ, zero, suc, ◌≤◌, ◌+◌, arith}
use Rattle.c_subset.specs.Programs.{Stmt, on_mask, switch, extract, assign, call, Stmts, done, then, Cases, no_case}
use Rattle.c_subset.specs.Programs.{or_case, LoadBlock, load_block, LoadSwitch, no_switch, load_switch, LoadCases}
use Rattle.c_subset.specs.Programs.{no_load_case, or_load_case}
use Rattle.c_subset.specs.Nesting.{StmtWithin, StmtsWithin, CasesWithin, LoadWithin, LoadSwitchWithin, LoadCasesWithin}

mutual
  stmt_more : (m n : ℕ) (s : Stmt) → m ≤ n → StmtWithin m s → StmtWithin n s
  stmt_more zero n (on_mask v x ss) l h = absurd h
  stmt_more (suc m) zero (on_mask v x ss) l h = absurd (omega (arith, l))
  stmt_more (suc m) (suc n) (on_mask v x ss) l h = more_within m n ss (omega (arith, l)) h
  stmt_more zero n (switch v cs) l h = absurd h
  stmt_more (suc m) zero (switch v cs) l h = absurd (omega (arith, l))
  stmt_more (suc m) (suc n) (switch v cs) l h = cases_more m n cs (omega (arith, l)) h
  stmt_more m zero (extract x s) l h = tt
  stmt_more m (suc n) (extract x s) l h = tt
  stmt_more m zero (assign s a e) l h = tt
  stmt_more m (suc n) (assign s a e) l h = tt
  stmt_more m zero (call x s) l h = tt
  stmt_more m (suc n) (call x s) l h = tt

  pub more_within : (m n : ℕ) (ss : Stmts) → m ≤ n → StmtsWithin m ss → StmtsWithin n ss
  more_within m n done l h = tt
  more_within m n (then s ss) l h = (stmt_more m n s l h.0, more_within m n ss l h.1)

  cases_more : (m n : ℕ) (cs : Cases) → m ≤ n → CasesWithin m cs → CasesWithin n cs
  cases_more m n no_case l h = tt
  cases_more m n (or_case v ss cs) l h = (more_within m n ss l h.0, cases_more m n cs l h.1)

mutual
  stmt_some : (s : Stmt) → (n : ℕ) × StmtWithin n s
  stmt_some (on_mask v x ss) = let inner = within_some ss in (suc inner.0, inner.1)
  stmt_some (switch v cs) = let inner = cases_some cs in (suc inner.0, inner.1)
  stmt_some (extract x s) = (zero, tt)
  stmt_some (assign s a e) = (zero, tt)
  stmt_some (call x s) = (zero, tt)

  pub within_some : (ss : Stmts) → (n : ℕ) × StmtsWithin n ss
  within_some done = (zero, tt)
  within_some (then s ss) =
      let first = stmt_some s in
      let more = within_some ss in (
        first.0 + more.0,
        (
          stmt_more first.0 (first.0 + more.0) s (omega arith) first.1,
          more_within more.0 (first.0 + more.0) ss (omega arith) more.1,
        ),
      )

  cases_some : (cs : Cases) → (n : ℕ) × CasesWithin n cs
  cases_some no_case = (zero, tt)
  cases_some (or_case v ss cs) =
      let block = within_some ss in
      let more = cases_some cs in (
        block.0 + more.0,
        (
          more_within block.0 (block.0 + more.0) ss (omega arith) block.1,
          cases_more more.0 (block.0 + more.0) cs (omega arith) more.1,
        ),
      )

mutual
  pub more_load_within : (m n : ℕ) (b : LoadBlock) → m ≤ n → LoadWithin m b → LoadWithin n b
  more_load_within m n (load_block bytes more) l h = load_switch_more m n more l h

  load_switch_more : (m n : ℕ) (more : LoadSwitch) → m ≤ n → LoadSwitchWithin m more → LoadSwitchWithin n more
  load_switch_more m zero no_switch l h = tt
  load_switch_more m (suc n) no_switch l h = tt
  load_switch_more zero n (load_switch v cs) l h = absurd h
  load_switch_more (suc m) zero (load_switch v cs) l h = absurd (omega (arith, l))
  load_switch_more (suc m) (suc n) (load_switch v cs) l h = load_cases_more m n cs (omega (arith, l)) h

  load_cases_more : (m n : ℕ) (cs : LoadCases) → m ≤ n → LoadCasesWithin m cs → LoadCasesWithin n cs
  load_cases_more m n no_load_case l h = tt
  load_cases_more m n (or_load_case v b cs) l h = (more_load_within m n b l h.0, load_cases_more m n cs l h.1)

mutual
  pub load_within_some : (b : LoadBlock) → (n : ℕ) × LoadWithin n b
  load_within_some (load_block bytes more) = load_switch_some more

  load_switch_some : (more : LoadSwitch) → (n : ℕ) × LoadSwitchWithin n more
  load_switch_some no_switch = (zero, tt)
  load_switch_some (load_switch v cs) = let inner = load_cases_some cs in (suc inner.0, inner.1)

  load_cases_some : (cs : LoadCases) → (n : ℕ) × LoadCasesWithin n cs
  load_cases_some no_load_case = (zero, tt)
  load_cases_some (or_load_case v b cs) =
      let block = load_within_some b in
      let more = load_cases_some cs in (
        block.0 + more.0,
        (
          more_load_within block.0 (block.0 + more.0) b (omega arith) block.1,
          load_cases_more more.0 (block.0 + more.0) cs (omega arith) more.1,
        ),
      )
