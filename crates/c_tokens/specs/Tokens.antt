-- The tokens of a C text, read byte by byte (C17, 6.4 and 6.4.9; the C subset, docs/C_SUBSET.md).
use Rattle.std.specs.Prelude.{ℕ, ◌==◌, if◌then◌else◌, List, [], ◌∷◌, ◌++◌, Option, Some, None, option_map}
use Rattle.std.specs.Prelude.{option_and_then}
use Rattle.dt_values.specs.Names.{is_name_byte}
use Rattle.c_tokens.specs.Bytes.{is_white, is_mark}

pub data Token : Type 0 where
  word : List ℕ → Token
  mark : ℕ → Token
  double_equals : Token
  arrow : Token

-- what a byte is to the tokens
pub data Kind : Type 0 where
  letter : Kind
  space : Kind
  star : Kind
  slash : Kind
  equals : Kind
  dash : Kind
  above : Kind
  single : Kind
  other : Kind

abbrev pub kind : ℕ → Kind
kind b =
    if is_name_byte b then letter
    else (if is_white b then space
    else (if b == 42 then star
    else (if b == 47 then slash
    else (if b == 61 then equals
    else (if b == 45 then dash
    else (if b == 62 then above
    else (if is_mark b then single
    else other)))))))

-- where in the text a byte stands
pub data Mode : Type 0 where
  between : Mode
  in_word : List ℕ → Mode
  after_equals : Mode
  after_dash : Mode
  after_slash : Mode
  in_comment : Mode
  after_star : Mode

-- the tokens that ended, and where the text goes on
abbrev pub Read : Type 0
Read = List Token × Mode

abbrev pub put : List Token → Read → Read
put tokens r = (tokens ++ r.0, r.1)

abbrev pub begin : Kind → ℕ → Option Read
begin letter b = Some ([], in_word (b ∷ []))
begin space b = Some ([], between)
begin star b = Some (mark b ∷ [], between)
begin slash b = Some ([], after_slash)
begin equals b = Some ([], after_equals)
begin dash b = Some ([], after_dash)
begin above b = None
begin single b = Some (mark b ∷ [], between)
begin other b = None

abbrev pub in_word_step : List ℕ → Kind → ℕ → Option Read
in_word_step w letter b = Some ([], in_word (w ++ b ∷ []))
in_word_step w k b = option_map (put (word w ∷ [])) (begin k b)

abbrev pub after_equals_step : Kind → ℕ → Option Read
after_equals_step equals b = Some (double_equals ∷ [], between)
after_equals_step k b = option_map (put (mark 61 ∷ [])) (begin k b)

abbrev pub after_dash_step : Kind → ℕ → Option Read
after_dash_step above b = Some (arrow ∷ [], between)
after_dash_step k b = option_map (put (mark 45 ∷ [])) (begin k b)

abbrev pub after_slash_step : Kind → Option Read
after_slash_step star = Some ([], in_comment)
after_slash_step k = None

abbrev pub in_comment_step : Kind → Mode
in_comment_step star = after_star
in_comment_step k = in_comment

abbrev pub after_star_step : Kind → Mode
after_star_step slash = between
after_star_step star = after_star
after_star_step k = in_comment

abbrev pub step : Mode → Kind → ℕ → Option Read
step between k b = begin k b
step (in_word w) k b = in_word_step w k b
step after_equals k b = after_equals_step k b
step after_dash k b = after_dash_step k b
step after_slash k b = after_slash_step k
step in_comment k b = Some ([], in_comment_step k)
step after_star k b = Some ([], after_star_step k)

-- one reading, and then what else is read
abbrev pub and_then : (Mode → Option Read) → Option Read → Option Read
and_then more r = option_and_then (λ s. option_map (put s.0) (more s.1)) r

unfoldable pub read : List ℕ → Mode → Option Read
read [] m = Some ([], m)
read (b ∷ bs) m = and_then (read bs) (step m (kind b) b)

-- the last token, where the text ends
abbrev pub ends : Mode → Option (List Token)
ends between = Some []
ends (in_word w) = Some (word w ∷ [])
ends after_equals = Some (mark 61 ∷ [])
ends after_dash = Some (mark 45 ∷ [])
ends after_slash = None
ends in_comment = None
ends after_star = None

abbrev pub whole : Option Read → Option (List Token)
whole r = option_and_then (λ s. option_map (λ last. s.0 ++ last) (ends s.1)) r

-- None where a byte is in no token, or a comment isn't closed
abbrev pub tokens_of : List ℕ → Option (List Token)
tokens_of text = whole (read text between)
