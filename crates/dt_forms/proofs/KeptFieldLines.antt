-- The field of a line that breaks no rule.
use Rattle.std.proofs.Common.{◌≡◌, ℕ, ◌&&◌, Bool, true, false, List, [], ◌∷◌, Option, Some, None, take, drop}
use Rattle.std.specs.Prelude.{All, IsTrue, codes, if◌then◌else◌}
use Rattle.std.proofs.lemmas.List.Elements.{All-nil, All-push}
use Rattle.dt_values.specs.Types.{is_text}
use Rattle.dt_fields.specs.FieldLines.{begins_field, field_line_faults, field_with_token, field_with_tokens, line_field, no_field}
use Rattle.dt_fields.specs.FieldTokens.{function, segment, other, field_token, is_signed, parts_token, segment_token, without_sign}
use Rattle.dt_fields.specs.Numbers.{decimal, is_number}
use Rattle.dt_fields.specs.Parts.{parts_at_byte}
use Rattle.dt_fields.specs.Tables.{FieldTable}
use Rattle.dt_fields.specs.declared.field.FieldDef.{FieldDef}
use Rattle.dt_fields.specs.declared.segment.Segment.TheVariants.{Bits}
use Rattle.dt_fields.proofs.KeptFields.{unbroken_field_is_sound}
use Rattle.dt_model.specs.Sound.{IsOfWord}
use Rattle.dt_patterns.proofs.LineValues.{IsKeptField}

abbrev OfWord : FieldDef → Type 0
OfWord field = All IsOfWord field.segments

parts_of_word : (before : FieldDef) (place len : List ℕ) → OfWord before
    → OfWord (field_with_token before (segment_token place len))
parts_of_word before place len h = by (is_number place && is_number (without_sign len))
  where
    by : (b : Bool) → OfWord (field_with_token before
        (if b then segment (Bits (decimal place) (decimal (without_sign len)) (is_signed len)) else other))
    by true = All-push IsOfWord before.segments (Bits (decimal place) (decimal (without_sign len)) (is_signed len)) h tt
    by false = h

token_of_word : (before : FieldDef) (text : List ℕ) → OfWord before
    → OfWord (field_with_token before (field_token text))
token_of_word before text h = by (is_text (take 10 text) (codes "!function="))
  where
    behind : (parts : Option (List ℕ × List ℕ)) → OfWord (field_with_token before (parts_token parts))
    behind None = h
    behind (Some parts) = parts_of_word before parts.0 parts.1 h

    by : (b : Bool) → OfWord (field_with_token before
        (if b then function (drop 10 text) else parts_token (parts_at_byte 58 text)))
    by true = h
    by false = behind (parts_at_byte 58 text)

tokens_of_word : (before : FieldDef) (tokens : List (List ℕ)) → OfWord before → OfWord (field_with_tokens before tokens)
tokens_of_word before [] h = h
tokens_of_word before (t ∷ ts) h = tokens_of_word (field_with_token before (field_token t)) ts
    (token_of_word before t h)

line_of_word : (tokens : List (List ℕ)) → OfWord (line_field tokens).1
line_of_word [] = All-nil IsOfWord
line_of_word (t ∷ ts) = tokens_of_word no_field ts (All-nil IsOfWord)

pub line_is_kept : (width : ℕ) (fields : FieldTable) (tokens : List (List ℕ)) → IsTrue (begins_field tokens)
    → field_line_faults width fields tokens ≡ [] → IsKeptField width (line_field tokens).1
line_is_kept width fields tokens begins none =
    (unbroken_field_is_sound width fields tokens begins none, line_of_word tokens)
