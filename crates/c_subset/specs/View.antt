-- The plain program that a program stands for (the C subset, docs/C_SUBSET.md).
use Rattle.std.specs.Prelude.{ℕ, List, [], ◌∷◌, Bool, Option, Some, None, map, option_map, Vec}
use Rattle.std.specs.declared.alloc.Global.{Global}
use Rattle.c_exprs.specs.Exprs.{Assignment}
use Rattle.c_exprs.specs.View.{term_of}
use Rattle.c_exprs.specs.declared.expr.Expr.{Expr}
use Rattle.c_subset.specs.Programs.{Name, Stmt, on_mask, switch, extract, assign, call, Stmts, done, then, Cases, no_case}
use Rattle.c_subset.specs.Programs.{or_case, LoadBlock, load_block, LoadSwitch, no_switch, load_switch, LoadCases}
use Rattle.c_subset.specs.Programs.{no_load_case, or_load_case, Pattern, Extraction, Prefix, Program}
use Rattle.c_subset.specs.declared.program.Extract.{Extract}
use Rattle.c_subset.specs.declared.program.Program.{Program as Made}
use Rattle.c_subset.specs.declared.program.Stmt.{Stmt as MadeStmt, fold-Stmt}
use Rattle.c_subset.specs.declared.program.Stmt.TheOpen.{Stmt-F}
use Rattle.c_subset.specs.declared.load.LoadBlock.{LoadBlock as MadeLoad, fold-LoadBlock}
use Rattle.c_subset.specs.declared.load.LoadBlock.TheOpen.{LoadBlock-F}

abbrev pub assignment_of : Name × Expr → Assignment
assignment_of p = record { argument = p.0; value = term_of p.1 }

abbrev pub stmts_from : List Stmt → Stmts
stmts_from [] = done
stmts_from (s ∷ ss) = then s (stmts_from ss)

abbrev pub cases_from : List (ℕ × Stmts) → Cases
cases_from [] = no_case
cases_from (c ∷ cs) = or_case c.0 c.1 (cases_from cs)

-- one level of a statement, with each statement inside already seen as its plain one
abbrev pub stmt_step : Stmt-F Stmt → Stmt
stmt_step (Stmt-F.If m v ss) = on_mask m v (stmts_from ss.items)
stmt_step (Stmt-F.Switch m cs) = switch m (cases_from (map (λ c. (c.0, stmts_from c.1.items)) cs.items))
stmt_step (Stmt-F.Extract x s) = extract x s
stmt_step (Stmt-F.Assign s a e) = assign s a (term_of e)
stmt_step (Stmt-F.Call n s) = call n s

abbrev pub stmt_of : MadeStmt → Stmt
stmt_of = fold-Stmt Stmt stmt_step

abbrev pub stmts_of : List MadeStmt → Stmts
stmts_of ss = stmts_from (map stmt_of ss)

abbrev pub case_of : ℕ × Vec MadeStmt Global → ℕ × Stmts
case_of c = (c.0, stmts_of c.1.items)

abbrev pub cases_of : List (ℕ × Vec MadeStmt Global) → Cases
cases_of cs = cases_from (map case_of cs)

abbrev pub load_cases_from : List (ℕ × LoadBlock) → LoadCases
load_cases_from [] = no_load_case
load_cases_from (c ∷ cs) = or_load_case c.0 c.1 (load_cases_from cs)

abbrev pub load_switch_from : Option (ℕ × List (ℕ × LoadBlock)) → LoadSwitch
load_switch_from None = no_switch
load_switch_from (Some x) = load_switch x.0 (load_cases_from x.1)

-- one level of a load block, with each block inside already seen as its plain one
abbrev pub load_step : LoadBlock-F LoadBlock → LoadBlock
load_step b = load_block b.load (load_switch_from (option_map (λ x. (x.0, x.1.items)) b.switch))

abbrev pub load_of : MadeLoad → LoadBlock
load_of = fold-LoadBlock LoadBlock load_step

abbrev pub pattern_of : Name × Name → Pattern
pattern_of p = record { name = p.0; set = p.1 }

abbrev pub extraction_of : Extract → Extraction
extraction_of e = record { format = e.format; set = e.set; assigns = map assignment_of e.assigns }

abbrev pub prefix_seen : Name × Bool → Prefix
prefix_seen p = record { name = p.0; is_static = p.1 }

abbrev pub program_of : Made → Program
program_of p = record {
  width = p.width;
  sets = p.sets;
  prefix = option_map prefix_seen p.prefix;
  patterns = map pattern_of p.patterns;
  extracts = map extraction_of p.extracts;
  decoder = p.decoder;
  decoder_static = p.decoder_static;
  union_sets = p.union_sets;
  body = stmts_of p.body;
  load = option_map load_of p.load;
}
