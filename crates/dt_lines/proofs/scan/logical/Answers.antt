use Rattle.dt_lines.proofs.Seeing.{lines_by_text, lines_by_place}
use Rattle.dt_lines.proofs.scan.logical.Goals as goal

pub returns-clause-lines : goal.returns-clause-lines
returns-clause-lines c = lines_by_text c.args.bytes.now _ c.in_ok-read_lines.ensures.lines

pub returns-clause-places : goal.returns-clause-places
returns-clause-places c = lines_by_place c.args.bytes.now _ c.in_ok-read_lines.ensures.file.spans c.in_ok-read_lines.ensures.lines
