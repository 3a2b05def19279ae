-- What stops the reading of a text, and what is read of its tokens.
use Rattle.std.proofs.Common.{◌≡◌, ℕ, List, Option, Some, None, Result, Ok, Err, refl, sym, subst}
use Rattle.std.specs.Prelude.{IsErrOf}
use Rattle.c_tokens.specs.Before.{tokens_before}
use Rattle.c_tokens.specs.Depth.{IsTooDeep}
use Rattle.c_tokens.specs.Gives.{Fails}
use Rattle.c_tokens.specs.Tokens.{Token, tokens_of}
use Rattle.c_tokens.specs.declared.fault.ReadFault.{ReadFault}
use Rattle.c_tokens.specs.declared.fault.ReadFault.TheVariants as read
use Rattle.c_subset.specs.ProgramParsing.{program_at, read_whole}
use Rattle.c_subset.specs.Programs.{Program}
use Rattle.c_subset.specs.ReadAnswers.{IsDistinct, IsRead}
use Rattle.c_subset.specs.ReadFaults.{fault_of}
use Rattle.c_subset.specs.Spells.{Spells}
use Rattle.c_subset.specs.declared.fault.CFault.{CFault}
use Rattle.c_subset.specs.declared.fault.CFault.TheVariants as faults
use Rattle.c_subset.specs.declared.program.Program.{Program as Made}
use Rattle.c_subset.proofs.ProgramsRead.{no_tokens, none_read, read_spells, same_names}

-- the text has no tokens, or memory ran out
pub no_tokens_read : (text : List ℕ) (f : ReadFault) → (f ≡ read.NotSubset → tokens_of text ≡ None)
    → IsRead text (Err (fault_of f))
no_tokens_read text read.NotSubset h = no_tokens text (h refl)
no_tokens_read text read.NoMemory h = tt

module _ (text : List ℕ) (tokens : List Token) (has : tokens_of text ≡ Some tokens)
    (flat : ¬ IsTooDeep (tokens_before text)) where
  -- the tokens are those of no program, or memory ran out
  pub no_program_read : (f : ReadFault) → Fails f (read_whole (program_at 127) tokens) → IsRead text (Err (fault_of f))
  no_program_read read.NotSubset h = none_read text tokens has flat h
  no_program_read read.NoMemory h = tt

  pub program_read : (p : Program) (r : Result Made CFault) → read_whole (program_at 127) tokens ≡ Some p
      → IsDistinct p r → IsRead text r
  program_read p (Ok q) read h = subst (Spells text) (sym h.0) (read_spells text tokens p has read h.1)
  program_read p (Err faults.NotSubset) read h = same_names text tokens p has flat read h
  program_read p (Err faults.TooDeep) read h = h
  program_read p (Err faults.NoMemory) read h = tt
