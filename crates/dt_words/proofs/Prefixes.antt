-- What stands behind a prefix.
use Rattle.std.proofs.Common.{◌≡◌, ◌≢◌, ℕ, ◌==◌, ◌&&◌, nat_eq, Bool, true, false, List, ◌++◌, length, take, drop}
use Rattle.std.proofs.Common.{Option, Some, None, if◌then◌else◌, Bor, refl, ap, subst, sym, ◌∙◌}
use Rattle.std.specs.Option.{MatchOption}
use Rattle.std.specs.Str.Pattern.{FindsTextPrefix, StripsPrefix}
use Rattle.std.specs.Cmp.Lexicographic.{pointwise, bytes_decides}
use Rattle.std.proofs.lemmas.List.{take-append-drop}
use Rattle.std.proofs.Math.Seq.{take-append_seam}
use Rattle.dt_words.specs.Roles.{is_short}
use Rattle.dt_words.specs.View.{value_seen}

none_behind : (word short : List ℕ) → ((rest : List ℕ) → word ≢ short ++ rest) → (b : Bool)
    → pointwise nat_eq (take 2 word) short ≡ b → None ≡ (if b then Some (drop 2 word) else None)
none_behind word short lacks true is =
    absurd (lacks (drop 2 word)
    (sym (take-append-drop 2 word) ∙ ap (λ xs. xs ++ drop 2 word) ((bytes_decides (take 2 word) short).0 is)))
none_behind word short lacks false is = refl

short_front : (word short : List ℕ) → length short ≡ 2 → word ≡ short ++ drop 2 word
    → pointwise nat_eq (take 2 word) short ≡ true
short_front word short two split =
    (bytes_decides (take 2 word) short).1
    (ap (λ n. take n word) (sym two) ∙ ap (take (length short)) split ∙ take-append_seam short (drop 2 word))

some_behind : (word short rest : List ℕ) (n : ℕ) → length short ≡ 2 → n ≡ length short → word ≡ short ++ drop n word
    → rest ≡ drop n word
    → Some rest ≡ (if is_short word short then Some (drop 2 word) else None)
some_behind word short rest n two is split cut =
    let m : n ≡ 2 = is ∙ two in
    let front : pointwise nat_eq (take 2 word) short ≡ true =
    short_front word short two (subst (λ n. word ≡ short ++ drop n word) m split) in
    ap Some (cut ∙ ap (λ n. drop n word) m)
    ∙ ap (λ b. if b then Some (drop 2 word) else None)
    (sym (ap (λ n. (n == 2) && pointwise nat_eq (take 2 word) short) two ∙ front))

pub behind_prefix : (word short : List ℕ) (r : Option (Bor (List ℕ))) → length short ≡ 2
    → MatchOption r (FindsTextPrefix short word None) (λ x. StripsPrefix (FindsTextPrefix short) word x.now)
    → value_seen r ≡ (if is_short word short then Some (drop 2 word) else None)
behind_prefix word short None two h = none_behind word short h (pointwise nat_eq (take 2 word) short) refl
    ∙ ap (λ n. if (n == 2) && pointwise nat_eq (take 2 word) short then Some (drop 2 word) else None) (sym two)
behind_prefix word short (Some x) two h = some_behind word short x.now h.0 two h.1.0 h.1.1 h.2
