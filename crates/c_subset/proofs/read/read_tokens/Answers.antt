use Rattle.std.proofs.Common.{Err, subst, sym}
use Rattle.c_subset.specs.ReadAnswers.{IsRead}
use Rattle.c_subset.specs.View.{program_of}
use Rattle.c_subset.specs.declared.fault.CFault.{CFault}
use Rattle.c_subset.proofs.Answering.{no_program_read, program_read}
use Rattle.c_subset.proofs.read.read_tokens.Goals as goal

pub returns-in-Ok : goal.returns-in-Ok
returns-in-Ok c = λ text has flat.
    program_read text _ has flat (program_of c.in-Ok.program) c.refuse_same_names.result c.in-Ok.ensures
    c.refuse_same_names.ensures

pub returns-in-Err : goal.returns-in-Err
returns-in-Err c = λ text has flat.
    subst (λ (f : CFault). IsRead text (Err f)) (sym c.from.ensures)
    (no_program_read text _ has flat c.in-Err.fault c.in-Err.ensures)
