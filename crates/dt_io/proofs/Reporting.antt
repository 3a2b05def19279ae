-- A text that is said, whether it is taken or not.
use Rattle.std.proofs.Common.{ℕ, List, length, ap, sym, ◌∙◌, arith, inl, inr}
use Rattle.std.specs.Prelude.{Result, Ok, Err}
use Rattle.std.proofs.lemmas.List.{take_all}
use Rattle.dt_io.specs.Bytes.{extend}
use Rattle.dt_io.specs.Sinks.{SinkSeen, Writes, Reports}

-- what is written is said
pub reports : {Rest T E : Type 0} (r : Result T E) (before after : SinkSeen Rest) (text : List ℕ)
    → Writes before after text r → Reports before after text
reports (Ok u) before after text w = record {
  prefix = (length text, w.all ∙ ap (extend before.written) (sym (take_all (length text) text (omega arith))));
  all = inl w.all;
  only = w.only;
}
reports (Err e) before after text w = record {
  prefix = (w.part.count, w.part.part);
  all = inr w.cause;
  only = w.only;
}
