-- A program has at most as many statements as its text has bytes.
use Rattle.std.proofs.Common.{ℕ, ◌<◌, ◌≤◌, ◌^◌, List, length, Result, Ok, Err, arith, length-append}
use Rattle.std.specs.Prelude.{IfOk}
use Rattle.dt_values.specs.declared.width.Width.{Width}
use Rattle.c_tokens.specs.Tokens.{Token}
use Rattle.c_tokens.proofs.Fewer.{tokens_fewer}
use Rattle.c_subset.specs.Programs.{Name, Stmt, on_mask, switch, extract, assign, call, Stmts, done, then, Cases}
use Rattle.c_subset.specs.Programs.{no_case, or_case, Program, prefix_of, stmt_spelled, stmts_spelled, cases_spelled}
use Rattle.c_subset.specs.Programs.{spelling}
use Rattle.c_subset.specs.ReadAnswers.{IsRead}
use Rattle.c_subset.specs.Sites.{statements_from, statements_in, statements_of_cases}
use Rattle.c_subset.specs.Spells.{Spells}
use Rattle.c_subset.specs.View.{program_of}
use Rattle.c_subset.specs.declared.fault.CFault.{CFault}
use Rattle.c_subset.specs.declared.program.Program.{Program as Made}

-- at most as many statements as tokens that spell them
module _ (w : Width) (d p : Name) where
  mutual
    statement_fewer : (s : Stmt) → statements_from s ≤ length (stmt_spelled w d p s)
    statement_fewer (on_mask m v ss) = omega (arith, length-append {A = Token}, statements_fewer ss)
    statement_fewer (switch m cs) = omega (arith, length-append {A = Token}, cases_fewer cs)
    statement_fewer (extract x s) = omega arith
    statement_fewer (assign s a e) = omega arith
    statement_fewer (call n s) = omega arith

    statements_fewer : (ss : Stmts) → statements_in ss ≤ length (stmts_spelled w d p ss)
    statements_fewer done = omega arith
    statements_fewer (then s ss) =
        omega (arith, length-append {A = Token}, statement_fewer s, statements_fewer ss)

    cases_fewer : (cs : Cases) → statements_of_cases cs ≤ length (cases_spelled w d p cs)
    cases_fewer no_case = omega arith
    cases_fewer (or_case v ss cs) =
        omega (arith, length-append {A = Token}, statements_fewer ss, cases_fewer cs)

program_fewer : (p : Program) → statements_in p.body ≤ length (spelling p)
unfolding spelling
program_fewer p =
    omega (arith, length-append {A = Token}, statements_fewer p.width p.decoder (prefix_of p.prefix).name p.body)

text_fewer : (text : List ℕ) (p : Program) → Spells text p → statements_in p.body ≤ length text
text_fewer text p h = omega (arith, program_fewer p, tokens_fewer text (spelling p) h.tokens)

-- what is read of fewer than 2 ^ 64 bytes has fewer statements than that
pub read_few : (text : List ℕ) (r : Result Made CFault) → length text < 2 ^ 64 → IsRead text r
    → IfOk r (λ program. statements_in (program_of program).body < 2 ^ 64)
read_few text (Ok p) few h = omega (arith, few, text_fewer text (program_of p) h)
read_few text (Err f) few h = tt
