-- How text is put piece after piece.
use Rattle.std.proofs.Common.{◌≡◌, ℕ, ◌+◌, ◌-◌, ◌/◌, ◌%◌, ◌<◌, ◌≤◌, List, [], ◌∷◌, ◌++◌, length, take, get_or, map}
use Rattle.std.proofs.Common.{Bool, true, false, Option, Some, None, refl, sym, ap, ◌∙◌, subst}
use Rattle.std.proofs.Common.{arith, append_assoc, append-nil, length-append}
use Rattle.std.specs.Prelude.{flat_map}
use Rattle.std.proofs.lemmas.List.{take-append-le, take_more, map-append, flat_map_more}
use Rattle.std.proofs.Math.Seq.{take-append-add}
use Rattle.std.specs.Fmt.{digit_glyph}
use Rattle.dt_io.specs.Bytes.{extend, AppendsPart}
use Rattle.dt_io.specs.Sinks.{SinkSeen, IsOnlyWritten, WriteFailed}
use Rattle.dt_io.proofs.Extending.{extend-extend}
use Rattle.dt_text.specs.Hexadecimal.{hex}
use Rattle.dt_text.proofs.Hexadecimal.{hex_more}
use Rattle.dt_text.specs.Pieces.{Piece, piece_text, pieces_text}
use Rattle.dt_text.specs.Puts.{State, Puts}

extend_nothing : (known : Option (List ℕ)) → extend known [] ≡ known
extend_nothing None = refl
extend_nothing (Some xs) = ap Some (append-nil xs)

-- in a text of two: a part of the first, and the first with a part of the second
part_of_first : (before after : Option (List ℕ)) (s t : List ℕ)
    → AppendsPart before after s → AppendsPart before after (s ++ t)
part_of_first before after s t p =
    let h : p.count ≤ length s = let k = p.short in omega arith in
    record {
      count = p.count;
      short = let k = p.short in omega (arith, length-append s t);
      part = p.part ∙ ap (extend before) (sym (take-append-le p.count s t h));
    }

part_of_second : (before mid after : Option (List ℕ)) (s t : List ℕ)
    → mid ≡ extend before s → AppendsPart mid after t → AppendsPart before after (s ++ t)
part_of_second before mid after s t e p = record {
  count = length s + p.count;
  short = let k = p.short in omega (arith, length-append s t);
  part =
      p.part
      ∙ ap (λ x. extend x (take p.count t)) e
      ∙ extend-extend before s (take p.count t)
      ∙ ap (extend before) (sym (take-append-add s t p.count));
}

-- what is only written, and then again
only_more : {Rest : Type 0} (a b c : SinkSeen Rest) → IsOnlyWritten a b → IsOnlyWritten b c → IsOnlyWritten a c
only_more a b c p q = record {
  faults = let x = p.faults in let y = q.faults in omega arith;
  rest = q.rest ∙ p.rest;
}

pub puts_nothing : {Rest : Type 0} (s : State Rest) → Puts s s []
puts_nothing s = record {
  all = λ h. (h, sym (extend_nothing s.sink.written));
  part = λ e f. cc;
  still = λ h. refl;
  only = record { faults = omega arith; rest = refl };
}

-- a failure in one of two texts
failure_of : {Rest : Type 0} (a b c : State Rest) (s t : List ℕ) (failed : Bool) → b.failed ≡ failed
    → Puts a b s → Puts b c t → a.failed ≡ false → c.failed ≡ true
    → AppendsPart a.sink.written c.sink.written (s ++ t) × WriteFailed a.sink c.sink
failure_of a b c s t true is p q e f =
    let broke = p.part e is in
    let part = part_of_first a.sink.written b.sink.written s t broke.0 in
    let same = sym (q.still is) in (
      subst (λ x. AppendsPart a.sink.written x.sink.written (s ++ t)) same part,
      subst (λ x. WriteFailed a.sink x.sink) same broke.1,
    )
failure_of a b c s t false is p q e f =
    let broke = q.part is f in (
      part_of_second a.sink.written b.sink.written c.sink.written s t (p.all is).1 broke.0,
      let x = broke.1 in let y = p.only.faults in omega arith,
    )

-- one text behind another
pub puts_more : {Rest : Type 0} {a b c : State Rest} {s t : List ℕ} → Puts a b s → Puts b c t → Puts a c (s ++ t)
puts_more {a = a} {b = b} {c = c} {s = s} {t = t} p q = record {
  all = λ h.
      let last = q.all h in
      let first = p.all last.0 in
      (first.0, last.1 ∙ ap (λ x. extend x t) first.1 ∙ extend-extend a.sink.written s t);
  part = λ e f. failure_of a b c s t b.failed refl p q e f;
  still = λ h. let first = p.still h in q.still (ap (λ x. x.failed) first ∙ h) ∙ first;
  only = only_more a.sink b.sink c.sink p.only q.only;
}

-- A loop over a list, whose text F has a part for each element.
module _ {X : Type 0} (F : List X → List ℕ) (part : X → List ℕ)
    (by_parts : (xs : List X) (x : X) → F (xs ++ x ∷ []) ≡ F xs ++ part x) where
  pub puts_item : {Rest : Type 0} {a b c : State Rest} (xs : List X) (i : ℕ) (x : X) → i < length xs → x ≡ get_or xs i x
      → Puts a b (F (take i xs)) → Puts b c (part x) → Puts a c (F (take (i + 1) xs))
  puts_item {a = a} {c = c} xs i x h is p q =
      let more = take_more xs i x h ∙ ap (λ y. take i xs ++ y ∷ []) (sym is) in
      let e : F (take (i + 1) xs) ≡ F (take i xs) ++ part x = ap F more ∙ by_parts (take i xs) x in
      subst (λ s. Puts a c s) (sym e) (puts_more p q)

pub flat_push : {X : Type 0} (f : X → List ℕ) (xs : List X) (x : X) → flat_map f (xs ++ x ∷ []) ≡ flat_map f xs ++ f x
flat_push f xs x = sym (flat_map_more f [] xs x)

pub pieces_push : {X : Type 0} (view : X → Piece) (xs : List X) (x : X)
    → pieces_text (map view (xs ++ x ∷ [])) ≡ pieces_text (map view xs) ++ piece_text (view x)
unfolding pieces_text
pieces_push view [] x = append-nil (piece_text (view x))
pieces_push view (y ∷ xs) x =
    ap (λ l. piece_text (view y) ++ l) (pieces_push view xs x)
    ∙ sym (append_assoc (piece_text (view y)) (pieces_text (map view xs)) (piece_text (view x)))

pub no_pieces : {X : Type 0} (view : X → Piece) → pieces_text (map view []) ≡ []
unfolding pieces_text
no_pieces view = refl

-- the last digit behind the others
pub puts_hex : {Rest : Type 0} {a b c : State Rest} (k n d : ℕ) → 0 < k → Puts a b (hex (k - 1) (n / 16))
    → d ≡ digit_glyph false (n % 16) → Puts b c (d ∷ []) → Puts a c (hex k n)
puts_hex {a = a} {c = c} k n d h p e q =
    subst (λ s. Puts a c s) (ap (λ x. hex (k - 1) (n / 16) ++ x ∷ []) e ∙ sym (hex_more k n h)) (puts_more p q)

-- a list whose elements have a text each
pub puts_flat : {Rest X : Type 0} {a b c : State Rest} (f : X → List ℕ) (xs : List X) (i : ℕ) (x : X)
    → i < length xs → x ≡ get_or xs i x
    → Puts a b (flat_map f (take i xs)) → Puts b c (f x) → Puts a c (flat_map f (take (i + 1) xs))
puts_flat f xs i x h is p q = puts_item (flat_map f) f (flat_push f) xs i x h is p q

-- the same, of what the elements stand for
seen_push : {X Y : Type 0} (f : Y → List ℕ) (view : X → Y) (xs : List X) (x : X)
    → flat_map f (map view (xs ++ x ∷ [])) ≡ flat_map f (map view xs) ++ f (view x)
seen_push f view xs x = ap (flat_map f) (map-append view xs (x ∷ [])) ∙ flat_push f (map view xs) (view x)

pub puts_seen : {Rest X Y : Type 0} {a b c : State Rest} (f : Y → List ℕ) (view : X → Y) (xs : List X) (i : ℕ) (x : X)
    → i < length xs → x ≡ get_or xs i x
    → Puts a b (flat_map f (map view (take i xs))) → Puts b c (f (view x))
    → Puts a c (flat_map f (map view (take (i + 1) xs)))
puts_seen f view xs i x h is p q =
    puts_item (λ ys. flat_map f (map view ys)) (λ y. f (view y)) (seen_push f view) xs i x h is p q

-- pieces
pub puts_pieces : {Rest X : Type 0} {a b c : State Rest} (view : X → Piece) (xs : List X) (i : ℕ) (x : X)
    → i < length xs → x ≡ get_or xs i x
    → Puts a b (pieces_text (map view (take i xs))) → Puts b c (piece_text (view x))
    → Puts a c (pieces_text (map view (take (i + 1) xs)))
puts_pieces view xs i x h is p q = puts_item (λ ps. pieces_text (map view ps)) _ (pieces_push view) xs i x h is p q
