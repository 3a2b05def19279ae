use Rattle.dt_text.proofs.Putting.{puts_more}
use Rattle.std.specs.Prelude.{map}
use Rattle.dt_model.specs.Models.{definitions_in}
use Rattle.c_writer.specs.Parts.{named_pattern, parts_of}
use Rattle.c_writer.proofs.Lines.{puts_last, puts_tests, puts_union}
use Rattle.c_writer.proofs.text.write_decoder.Goals as goal

pub returns : goal.returns
returns g c =
    puts_more c.write_decoder_head.ensures
    (puts_more (puts_union _ _ (rw c.requires.used.sets at c.write_union_where_patterns.ensures))
    (puts_more (puts_tests (parts_of c.args.options.now (definitions_in c.args.model.now))
    (map (named_pattern c.args.model.now.sets c.args.model.now.formats) c.args.model.now.patterns) (rw c.items.ensures at c.write_tests.ensures)) (puts_last _ c.write_end.ensures)))
