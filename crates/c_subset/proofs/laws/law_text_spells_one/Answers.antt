use Rattle.c_subset.proofs.ProgramsRead.{spelled_once}
use Rattle.c_subset.proofs.laws.law_text_spells_one.Goals as goal

pub returns : goal.returns
returns c = spelled_once
