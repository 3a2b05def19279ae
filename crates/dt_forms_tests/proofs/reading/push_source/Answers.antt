use Rattle.std.proofs.Common.{◌≡◌, length, vec_len, rules}
use Rattle.dt_forms.proofs.ReadSources.{one_source_more}
use Rattle.dt_forms_tests.proofs.reading.push_source.Goals as goal

pub returns-clause-sources : goal.returns-clause-sources
returns-clause-sources c =
    let count : vec_len c.args.files.now ≡ length c.args.files.now.items = search rules in
    one_source_more c.args.files.now.items c.push.new.self.items (vec_len c.args.files.now) c.args.file count c.in_ok-push.ensures.items c.requires.sources c.requires.last
