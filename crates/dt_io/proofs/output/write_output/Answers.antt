use Rattle.std.proofs.Common.{ap, rules}
use Rattle.dt_io.specs.Outputs.{BesideFile}
use Rattle.dt_io.proofs.Named.{part_file}
use Rattle.dt_io.proofs.output.write_output.Goals as goal

pub returns-in-Err : goal.returns-in-Err
returns-in-Err g c =
    let writes = c.in-Err.ensures.writes in
    record {
      all = tt;
      part = part_file _ _ _ _ _ c.in_ok-create.ensures.files writes.part
          (ap (λ (b : BesideFile). b.others) writes.only.rest);
      cause = search rules;
      only = search rules;
    }
