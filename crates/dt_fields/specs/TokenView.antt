-- What the tokens that this project's readers keep stand for, and what tokens have made so far.
use Rattle.std.specs.Prelude.{IsTrue}
use Rattle.std.specs.Char.{is_ascii_digit}
use Rattle.std.specs.List.{list_all}
use Rattle.dt_fields.specs.declared.segment.Segment.TheVariants.{Bits}
use Rattle.dt_fields.specs.declared.field_tokens.FieldToken.{FieldToken as KeptField}
use Rattle.dt_fields.specs.declared.field_tokens.FieldToken.TheVariants as kept_field
use Rattle.dt_values.specs.declared.set.SetDef.{SetDef}
use Rattle.dt_fields.specs.declared.set_lines.SetDraft.{SetDraft}
use Rattle.dt_fields.specs.declared.set_tokens.SetToken.{SetToken as KeptSet}
use Rattle.dt_fields.specs.declared.set_tokens.SetToken.TheVariants as kept_set
use Rattle.dt_fields.specs.FieldTokens.{FieldToken, function, segment, other}
use Rattle.dt_fields.specs.Numbers.{decimal}
use Rattle.dt_fields.specs.SetTokens.{SetToken, outside_mark, argument, other as other_argument}

abbrev pub token_seen : KeptField → FieldToken
token_seen (kept_field.Function name) = function name.now
token_seen (kept_field.Bits pos len signed) = segment (Bits (decimal pos.now) (decimal len.now) signed)
token_seen kept_field.Other = other

-- the numbers of a token are digits
abbrev pub HasDigits : KeptField → Type 0
HasDigits (kept_field.Function name) = Unit {0}
HasDigits (kept_field.Bits pos len signed) = IsTrue (list_all is_ascii_digit pos.now) × IsTrue (list_all is_ascii_digit len.now)
HasDigits kept_field.Other = Unit {0}

abbrev pub set_token_seen : KeptSet → SetToken
set_token_seen kept_set.Outside = outside_mark
set_token_seen (kept_set.Argument m) = argument m
set_token_seen kept_set.Other = other_argument

-- the set that tokens have made so far
abbrev pub set_of_draft : SetDraft → SetDef
set_of_draft draft = record { name = draft.name; members = draft.members.items; outside = draft.outside }
