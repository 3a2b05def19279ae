-- A token that is read: its text, and how many bits a word has where it stands.
use Rattle.std.specs.Prelude.{ℕ, List}
use Rattle.dt_values.specs.Widths.{width_bits}
use Rattle.dt_lines.specs.Spans.{text_at}
use Rattle.dt_scope.specs.declared.gather.ReadToken.{ReadToken}

abbrev pub text_of : ReadToken → List ℕ
text_of read = text_at read.source.now read.token

abbrev pub bits_of : ReadToken → ℕ
bits_of read = width_bits read.width
