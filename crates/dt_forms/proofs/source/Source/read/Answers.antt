use Rattle.std.proofs.Common.{◌≤◌, length, rules}
use Rattle.dt_lines.specs.declared.limits.TheConstants.{LARGEST_FILE}
use Rattle.dt_lines.specs.Faults.{line_fault}
use Rattle.dt_forms.proofs.BrokenFiles.{broken_file, whole_without_memory}
use Rattle.dt_forms.proofs.ReadSources.{is_source}
use Rattle.dt_forms.proofs.source.Source.read.Goals as goal

pub returns-clause-source : goal.returns-clause-source
returns-clause-source c =
    let same = c.as_slice.ensures.value in
    let small : length c.args.bytes.items ≤ LARGEST_FILE = search rules in
    is_source c.args.file c.args.bytes.items
    (record { bytes = c.of.result; lines = c.of-2.result; last_line = c.line_count-last_line.result })
    c.in-Ok.lines.items c.of.ensures c.of-2.ensures
    (rw same at c.in-Ok.ensures.lines) (rw same at c.in-Ok.ensures.places)
    (rw same at c.in-Ok.ensures.spans) c.in-Ok.ensures.file
    (rw c.as_slice-2.ensures.value at c.line_count-last_line.ensures) small

pub returns-in-Err-clause-broken : goal.returns-in-Err-clause-broken
returns-in-Err-clause-broken c =
    let same = c.as_slice.ensures.value in
    broken_file _ c.args.bytes.items c.args.file
    (line_fault c.args.bytes.items) c.in-Err.fault c.model_fault.result c.model_fault.ensures
    (rw same at c.in-Err.ensures.too_many_lines) (λ line. rw same at (c.in-Err.ensures.long_name line))

pub returns-in-Err-clause-memory : goal.returns-in-Err-clause-memory
returns-in-Err-clause-memory c = λ none.
    let same = c.as_slice.ensures.value in
    whole_without_memory _ c.args.file (line_fault c.args.bytes.items) c.in-Err.fault c.model_fault.result
    c.model_fault.ensures
    (rw same at c.in-Err.ensures.too_many_lines) (λ line. rw same at (c.in-Err.ensures.long_name line)) (cc)
