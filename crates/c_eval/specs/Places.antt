-- Where an expression is evaluated, by the width of a word.
use Rattle.std.specs.Prelude.{ℕ, List, ℤ, Option}
use Rattle.dt_values.specs.declared.width.Width.{Width}
use Rattle.dt_host.specs.Hosts.{Answers}
use Rattle.c_eval.specs.Meaning.{Place, helper_bits}

abbrev pub place_of : Width → ℕ → (Option (List ℕ) → List ℕ → Option ℤ) → Answers → Place
place_of width word held answer = record { bits = helper_bits width; word = word; held = held; answer = answer }
