use Rattle.dt_text.proofs.Putting.{puts_more}
use Rattle.dt_model.specs.Models.{definitions_in}
use Rattle.c_writer.specs.Parts.{named_pattern, parts_of}
use Rattle.c_writer.proofs.Lines.{puts_own, puts_last}
use Rattle.c_writer.proofs.statements.write_body.Goals as goal

pub returns : goal.returns
returns g c =
    puts_more c.write_comment_line.ensures
    (puts_more (rw (
      c.format_of-format.ensures,
      c.set_of-set.ensures,
      c.items.ensures,
      c.items-2.ensures,
      c.items-3.ensures,
    ) at c.write_extract_line.ensures)
    (puts_own (parts_of c.args.options.now (definitions_in c.args.model.now)) c.args.level
    (named_pattern c.args.model.now.sets c.args.model.now.formats c.args.pattern.now) (puts_more c.write_own_assignments.ensures
    (puts_last _ (rw (c.set_of-set.ensures, c.items-2.ensures, c.items-3.ensures) at c.write_call_line.ensures)))))
