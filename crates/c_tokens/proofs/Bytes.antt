-- What a byte's kind says of the byte.
use Rattle.std.proofs.Common.{◌≡◌, ℕ, Bool, true, false, ◌||◌, ◌&&◌, ◌==◌, List, [], ◌∷◌, ◌++◌, Some, refl, arith}
use Rattle.std.proofs.Common.{subst, ◌⊎◌, inl, inr}
use Rattle.std.specs.Prelude.{IsTrue, if◌then◌else◌}
use Rattle.std.proofs.lemmas.Bool.Decides.{nat_tests}
use Rattle.dt_values.specs.Names.{is_name_byte}
use Rattle.std.specs.List.{list_all}
use Rattle.c_tokens.specs.Bytes.{Letters, is_among, white_bytes, is_white, mark_bytes, is_mark}
use Rattle.c_tokens.specs.Tokens.{mark, Kind, letter, space, star, slash, equals, dash, above, single, other, kind}
use Rattle.c_tokens.specs.Tokens.{between, begin}

abbrev pub Says : Kind → ℕ → Type 0
Says letter b = IsTrue (is_name_byte b)
Says space b = IsTrue (is_white b)
Says star b = b ≡ 42
Says slash b = b ≡ 47
Says equals b = b ≡ 61
Says dash b = b ≡ 45
Says above b = b ≡ 62
Says single b = IsTrue (is_mark b)
Says other b = Unit {0}

says_by : (b : ℕ) (test : Bool) (k l : Kind) → (IsTrue test → Says k b) → Says l b → Says (if test then k else l) b
says_by b true k l h g = h refl
says_by b false k l h g = g

equal_by : (b n : ℕ) → IsTrue (b == n) → b ≡ n
equal_by b n h = grind (arith, nat_tests)

pub kind_says : (b : ℕ) → Says (kind b) b
kind_says b =
    says_by b (is_name_byte b) letter _ (λ h. h)
    (says_by b (is_white b) space _ (λ h. h)
    (says_by b (b == 42) star _ (equal_by b 42)
    (says_by b (b == 47) slash _ (equal_by b 47)
    (says_by b (b == 61) equals _ (equal_by b 61)
    (says_by b (b == 45) dash _ (equal_by b 45)
    (says_by b (b == 62) above _ (equal_by b 62)
    (says_by b (is_mark b) single other (λ h. h) tt)))))))

pub of_kind : (b : ℕ) (k : Kind) → kind b ≡ k → Says k b
of_kind b k e = subst (λ l. Says l b) e (kind_says b)

pub letter_kind : (b : ℕ) → IsTrue (is_name_byte b) → kind b ≡ letter
letter_kind b h = rw h refl

pub both_true : (a b : Bool) → IsTrue (a && b) → IsTrue a × IsTrue b
both_true true b h = (refl, h)
both_true false b h = cc

pub letters_first : (b : ℕ) (bs : List ℕ) → Letters (b ∷ bs) → kind b ≡ letter
letters_first b bs h = letter_kind b (both_true (is_name_byte b) (list_all is_name_byte bs) h).0

pub letters_rest : (b : ℕ) (bs : List ℕ) → Letters (b ∷ bs) → Letters bs
letters_rest b bs h = (both_true (is_name_byte b) (list_all is_name_byte bs) h).1

pub letters-cons : (b : ℕ) (bs : List ℕ) → IsTrue (is_name_byte b) → Letters bs → Letters (b ∷ bs)
letters-cons b bs h k = rw h k

pub letters-append : (a b : List ℕ) → Letters a → Letters b → Letters (a ++ b)
letters-append [] b h k = k
letters-append (x ∷ a) b h k =
    let p = both_true (is_name_byte x) (list_all is_name_byte a) h in
    letters-cons x (a ++ b) p.0 (letters-append a b p.1 k)

-- what holds of each of some bytes holds of one that is among them
abbrev Each : (ℕ → Type 0) → List ℕ → Type 0
Each P [] = Unit {0}
Each P (b ∷ bs) = P b × Each P bs

either_true : (a b : Bool) → IsTrue (a || b) → IsTrue a ⊎ IsTrue b
either_true true b h = inl refl
either_true false b h = inr h

among_by : (P : ℕ → Type 0) (b byte : ℕ) (more : Bool) → P b → (IsTrue more → P byte)
    → IsTrue (b == byte) ⊎ IsTrue more → P byte
among_by P b byte more h rest (inl e) = subst P (equal_by b byte e) h
among_by P b byte more h rest (inr e) = rest e

among : (P : ℕ → Type 0) (bs : List ℕ) (byte : ℕ) → Each P bs → IsTrue (is_among bs byte) → P byte
among P [] byte h k = absurd (cc)
among P (b ∷ bs) byte h k = among_by P b byte (is_among bs byte) h.0 (λ e. among P bs byte h.1 e)
    (either_true (b == byte) (is_among bs byte) k)

pub white_kind : (b : ℕ) → IsTrue (is_white b) → kind b ≡ space
white_kind b h = among (λ c. kind c ≡ space) white_bytes b (refl, (refl, (refl, (refl, (refl, (refl, tt)))))) h

pub mark_begins : (b : ℕ) → IsTrue (is_mark b) → begin (kind b) b ≡ Some (mark b ∷ [], between)
mark_begins b h = among (λ c. begin (kind c) c ≡ Some (mark c ∷ [], between)) mark_bytes b
    (refl, (refl, (refl, (refl, (refl, (refl, (refl, (refl, (refl, (refl, tt)))))))))) h

pub letter_or_not : (k : Kind) → (k ≡ letter) ⊎ (k ≡ letter → ⊥)
letter_or_not letter = inl refl
letter_or_not space = inr (λ e. cc)
letter_or_not star = inr (λ e. cc)
letter_or_not slash = inr (λ e. cc)
letter_or_not equals = inr (λ e. cc)
letter_or_not dash = inr (λ e. cc)
letter_or_not above = inr (λ e. cc)
letter_or_not single = inr (λ e. cc)
letter_or_not other = inr (λ e. cc)

pub star_or_not : (k : Kind) → (k ≡ star) ⊎ (k ≡ star → ⊥)
star_or_not letter = inr (λ e. cc)
star_or_not space = inr (λ e. cc)
star_or_not star = inl refl
star_or_not slash = inr (λ e. cc)
star_or_not equals = inr (λ e. cc)
star_or_not dash = inr (λ e. cc)
star_or_not above = inr (λ e. cc)
star_or_not single = inr (λ e. cc)
star_or_not other = inr (λ e. cc)

pub slash_or_not : (k : Kind) → (k ≡ slash) ⊎ (k ≡ slash → ⊥)
slash_or_not letter = inr (λ e. cc)
slash_or_not space = inr (λ e. cc)
slash_or_not star = inr (λ e. cc)
slash_or_not slash = inl refl
slash_or_not equals = inr (λ e. cc)
slash_or_not dash = inr (λ e. cc)
slash_or_not above = inr (λ e. cc)
slash_or_not single = inr (λ e. cc)
slash_or_not other = inr (λ e. cc)

pub equals_or_not : (k : Kind) → (k ≡ equals) ⊎ (k ≡ equals → ⊥)
equals_or_not letter = inr (λ e. cc)
equals_or_not space = inr (λ e. cc)
equals_or_not star = inr (λ e. cc)
equals_or_not slash = inr (λ e. cc)
equals_or_not equals = inl refl
equals_or_not dash = inr (λ e. cc)
equals_or_not above = inr (λ e. cc)
equals_or_not single = inr (λ e. cc)
equals_or_not other = inr (λ e. cc)

pub above_or_not : (k : Kind) → (k ≡ above) ⊎ (k ≡ above → ⊥)
above_or_not letter = inr (λ e. cc)
above_or_not space = inr (λ e. cc)
above_or_not star = inr (λ e. cc)
above_or_not slash = inr (λ e. cc)
above_or_not equals = inr (λ e. cc)
above_or_not dash = inr (λ e. cc)
above_or_not above = inl refl
above_or_not single = inr (λ e. cc)
above_or_not other = inr (λ e. cc)
