-- What a text is read as by its first byte.
use Rattle.std.proofs.Common.{◌≡◌, ℕ, List, ◌∷◌, Bool, true, false, Some, None, refl, sym, ap, ◌∙◌}
use Rattle.dt_values.specs.Names.{is_name_byte}
use Rattle.c_tokens.specs.Bytes.{is_white, is_mark}
use Rattle.c_tokens.specs.Tokens.{mark, Kind, letter, space, star, slash, equals, dash, above, single, other, kind}
use Rattle.c_tokens.specs.Tokens.{between, after_equals, after_dash, after_slash, begin}
use Rattle.c_tokens.proofs.Bytes.{Says, of_kind, white_kind, mark_begins}
use Rattle.c_tokens.specs.Reading.{Reading, reading, no_token, with_first}
use Rattle.c_tokens.proofs.Reading.{passes, gives, stops}

pub slash_first : (rest : List ℕ) (b : ℕ) (r : Reading) → b ≡ 47 → reading rest after_slash ≡ r
    → reading (b ∷ rest) between ≡ r
slash_first rest b r is more =
    ap (λ c. reading (c ∷ rest) between) is ∙ passes 47 rest between after_slash refl ∙ more

pub equals_first : (rest : List ℕ) (b : ℕ) (r : Reading) → b ≡ 61 → reading rest after_equals ≡ r
    → reading (b ∷ rest) between ≡ r
equals_first rest b r is more =
    ap (λ c. reading (c ∷ rest) between) is ∙ passes 61 rest between after_equals refl ∙ more

pub dash_first : (rest : List ℕ) (b : ℕ) (r : Reading) → b ≡ 45 → reading rest after_dash ≡ r
    → reading (b ∷ rest) between ≡ r
dash_first rest b r is more =
    ap (λ c. reading (c ∷ rest) between) is ∙ passes 45 rest between after_dash refl ∙ more

pub white_first : (rest : List ℕ) (b : ℕ) → is_white b ≡ true → reading (b ∷ rest) between ≡ reading rest between
white_first rest b h = passes b rest between between (ap (λ k. begin k b) (white_kind b h))

pub mark_first : (rest : List ℕ) (b : ℕ) → is_mark b ≡ true
    → reading (b ∷ rest) between ≡ with_first (Some (mark b)) (reading rest between)
mark_first rest b h = gives (mark b) b rest between between (mark_begins b h)

not_both : (x : Bool) → x ≡ true → x ≡ false → ⊥
not_both x h k = let e : true ≡ false = sym h ∙ k in cc

-- none of the bytes that begin a token
none_by : (k : Kind) (b : ℕ) → Says k b → (b ≡ 47 → ⊥) → (b ≡ 61 → ⊥) → (b ≡ 45 → ⊥) → is_name_byte b ≡ false
    → is_white b ≡ false → is_mark b ≡ false → begin k b ≡ None
none_by letter b says n47 n61 n45 name white marks = absurd (not_both (is_name_byte b) says name)
none_by space b says n47 n61 n45 name white marks = absurd (not_both (is_white b) says white)
none_by star b says n47 n61 n45 name white marks = absurd (not_both (is_mark b) (ap is_mark says) marks)
none_by slash b says n47 n61 n45 name white marks = absurd (n47 says)
none_by equals b says n47 n61 n45 name white marks = absurd (n61 says)
none_by dash b says n47 n61 n45 name white marks = absurd (n45 says)
none_by above b says n47 n61 n45 name white marks = refl
none_by single b says n47 n61 n45 name white marks = absurd (not_both (is_mark b) says marks)
none_by other b says n47 n61 n45 name white marks = refl

pub none_first : (rest : List ℕ) (b : ℕ) → (b ≡ 47 → ⊥) → (b ≡ 61 → ⊥) → (b ≡ 45 → ⊥) → is_name_byte b ≡ false
    → is_white b ≡ false → is_mark b ≡ false
    → reading (b ∷ rest) between ≡ no_token
none_first rest b n47 n61 n45 name white no_mark =
    stops b rest between (none_by (kind b) b (of_kind b (kind b) refl) n47 n61 n45 name white no_mark) refl

pub ruleset first_bytes = (white_first, mark_first, equals_first, dash_first, slash_first, none_first)
