-- How a text is read piece by piece.
use Rattle.std.proofs.Common.{◌≡◌, ℕ, zero, suc, List, [], ◌∷◌, ◌++◌, replicate, Option, Some, None, option_map, refl}
use Rattle.std.proofs.Common.{sym, ap, ◌∙◌, arith, append_assoc, append-nil}
use Rattle.c_tokens.specs.Tokens.{Token, mark, kind, Mode, between, in_word, after_equals, after_dash, after_slash}
use Rattle.c_tokens.specs.Tokens.{in_comment, after_star, Read, put, begin, in_word_step, step, read, and_then, ends}
use Rattle.c_tokens.specs.Tokens.{whole}
use Rattle.c_tokens.specs.Bytes.{Letters, IsWord}
use Rattle.dt_text.specs.Pieces.{Piece, text, name, spaces, piece_text, pieces_text}
use Rattle.c_tokens.proofs.Bytes.{letters_first, letters_rest}

-- the names of pieces are words
abbrev pub Named : Piece → Type 0
Named (text bs) = Unit {0}
Named (name bs) = IsWord bs
Named (spaces n) = Unit {0}

abbrev pub AllNamed : List Piece → Type 0
AllNamed [] = Unit {0}
AllNamed (p ∷ ps) = Named p × AllNamed ps

-- what a piece reads as, whatever its name is; None says only that this isn't known
abbrev pub name_seen : List ℕ → Mode → Option Read
name_seen bs between = Some ([], in_word bs)
name_seen bs (in_word w) = Some ([], in_word (w ++ bs))
name_seen bs in_comment = Some ([], in_comment)
name_seen bs after_dash = Some (mark 45 ∷ [], in_word bs)
name_seen bs m = None

abbrev pub spaces_seen : Mode → Option Read
spaces_seen between = Some ([], between)
spaces_seen in_comment = Some ([], in_comment)
spaces_seen m = None

abbrev pub piece_seen : Piece → Mode → Option Read
piece_seen (text bs) m = read bs m
piece_seen (name bs) m = name_seen bs m
piece_seen (spaces n) m = spaces_seen m

unfoldable pub see : List Piece → Mode → Option Read
see [] m = Some ([], m)
see (p ∷ ps) m = and_then (see ps) (piece_seen p m)

-- what stands first is put before what is read later
pub put-put : (ts us : List Token) (r : Option Read)
    → option_map (put ts) (option_map (put us) r) ≡ option_map (put (ts ++ us)) r
put-put ts us None = refl
put-put ts us (Some r) = ap (λ l. Some (l, r.1)) (sym (append_assoc ts us r.0))

pub put-and_then : (ts : List Token) (more : Mode → Option Read) (r : Option Read)
    → and_then more (option_map (put ts) r) ≡ option_map (put ts) (and_then more r)
put-and_then ts more None = refl
put-and_then ts more (Some r) = sym (put-put ts r.0 (more r.1))

pub and_then_assoc : (f g : Mode → Option Read) (r : Option Read)
    → and_then g (and_then f r) ≡ and_then (λ m. and_then g (f m)) r
and_then_assoc f g None = refl
and_then_assoc f g (Some r) = put-and_then r.0 g (f r.1)

pub put_none : (r : Option Read) → option_map (put []) r ≡ r
put_none None = refl
put_none (Some r) = refl

pub and_then_same : (f g : Mode → Option Read) (r : Option Read) → ((m : Mode) → f m ≡ g m)
    → and_then f r ≡ and_then g r
and_then_same f g None e = refl
and_then_same f g (Some r) e = ap (option_map (put r.0)) (e r.1)

-- a text of two parts is read as its first part, and then its second
pub read-append : (a b : List ℕ) (m : Mode) → read (a ++ b) m ≡ and_then (read b) (read a m)
unfolding read
read-append [] b m = sym (put_none (read b m))
read-append (x ∷ a) b m = and_then_same (read (a ++ b)) (λ n. and_then (read b) (read a n)) (step m (kind x) x)
    (read-append a b) ∙ sym (and_then_assoc (read a) (read b) (step m (kind x) x))

pub see-append : (ps qs : List Piece) (m : Mode) → see (ps ++ qs) m ≡ and_then (see qs) (see ps m)
unfolding see
see-append [] qs m = sym (put_none (see qs m))
see-append (p ∷ ps) qs m = and_then_same (see (ps ++ qs)) (λ n. and_then (see qs) (see ps n)) (piece_seen p m)
    (see-append ps qs) ∙ sym (and_then_assoc (see ps) (see qs) (piece_seen p m))

-- the rest of a word, a word, and a name in a comment
pub rest_of_word : (bs w : List ℕ) → Letters bs → read bs (in_word w) ≡ Some ([], in_word (w ++ bs))
unfolding read
rest_of_word [] w h = ap (λ l. Some ([], in_word l)) (sym (append-nil w))
rest_of_word (b ∷ bs) w h =
    ap (λ k. and_then (read bs) (in_word_step w k b)) (letters_first b bs h)
    ∙ put_none _
    ∙ rest_of_word bs (w ++ b ∷ []) (letters_rest b bs h)
    ∙ ap (λ l. Some ([], in_word l)) (append_assoc w (b ∷ []) bs)

pub whole_word : (bs : List ℕ) → IsWord bs → read bs between ≡ Some ([], in_word bs)
unfolding read
whole_word [] h = absurd (omega (arith, h.some))
whole_word (b ∷ bs) h = ap (λ k. and_then (read bs) (begin k b)) (letters_first b bs h.letters) ∙ put_none _
    ∙ rest_of_word bs (b ∷ []) (letters_rest b bs h.letters)

word_after_dash : (bs : List ℕ) → IsWord bs → read bs after_dash ≡ Some (mark 45 ∷ [], in_word bs)
unfolding read
word_after_dash [] h = absurd (omega (arith, h.some))
word_after_dash (b ∷ bs) h = ap (λ k. and_then (read bs) (step after_dash k b)) (letters_first b bs h.letters)
    ∙ ap (option_map (put (mark 45 ∷ []))) (rest_of_word bs (b ∷ []) (letters_rest b bs h.letters))

in_a_comment : (bs : List ℕ) → Letters bs → read bs in_comment ≡ Some ([], in_comment)
unfolding read
in_a_comment [] h = refl
in_a_comment (b ∷ bs) h = ap (λ k. and_then (read bs) (step in_comment k b)) (letters_first b bs h) ∙ put_none _
    ∙ in_a_comment bs (letters_rest b bs h)

spaces_between : (n : ℕ) → read (replicate n 32) between ≡ Some ([], between)
unfolding read
spaces_between zero = refl
spaces_between (suc n) = put_none _ ∙ spaces_between n

spaces_in_comment : (n : ℕ) → read (replicate n 32) in_comment ≡ Some ([], in_comment)
unfolding read
spaces_in_comment zero = refl
spaces_in_comment (suc n) = put_none _ ∙ spaces_in_comment n

pub no_read : {A : Type 0} {r : Read} → None ≡ Some r → A
no_read e = absurd (cc)

name_as_seen : (bs : List ℕ) (m : Mode) (r : Read) → IsWord bs → name_seen bs m ≡ Some r → read bs m ≡ Some r
name_as_seen bs between r h e = whole_word bs h ∙ e
name_as_seen bs (in_word w) r h e = rest_of_word bs w h.letters ∙ e
name_as_seen bs in_comment r h e = in_a_comment bs h.letters ∙ e
name_as_seen bs after_equals r h e = no_read e
name_as_seen bs after_dash r h e = word_after_dash bs h ∙ e
name_as_seen bs after_slash r h e = no_read e
name_as_seen bs after_star r h e = no_read e

spaces_as_seen : (n : ℕ) (m : Mode) (r : Read) → spaces_seen m ≡ Some r → read (replicate n 32) m ≡ Some r
spaces_as_seen n between r e = spaces_between n ∙ e
spaces_as_seen n in_comment r e = spaces_in_comment n ∙ e
spaces_as_seen n (in_word w) r e = no_read e
spaces_as_seen n after_equals r e = no_read e
spaces_as_seen n after_dash r e = no_read e
spaces_as_seen n after_slash r e = no_read e
spaces_as_seen n after_star r e = no_read e

piece_as_seen : (p : Piece) (m : Mode) (r : Read) → Named p → piece_seen p m ≡ Some r → read (piece_text p) m ≡ Some r
piece_as_seen (text bs) m r h e = e
piece_as_seen (name bs) m r h e = name_as_seen bs m r h e
piece_as_seen (spaces n) m r h e = spaces_as_seen n m r e

-- what and_then gives comes from a first part and a second
pub record Parts (more : Mode → Option Read) (first : Option Read) (r : Read) : Type 0 where
  pub one : Read
  pub two : Read
  pub one_is : first ≡ Some one
  pub two_is : more one.1 ≡ Some two
  pub whole : put one.0 two ≡ r

parts_second : (more : Mode → Option Read) (s : Read) (t : Option Read) (r : Read) → more s.1 ≡ t
    → option_map (put s.0) t ≡ Some r → Parts more (Some s) r
parts_second more s None r is e = no_read e
parts_second more s (Some u) r is e = record { one = s; two = u; one_is = refl; two_is = is; whole = (cc) }

parts : (more : Mode → Option Read) (first : Option Read) (r : Read) → and_then more first ≡ Some r → Parts more first r
parts more None r e = no_read e
parts more (Some s) r e = parts_second more s (more s.1) r refl e

pub read_parts : (a b : List ℕ) (m : Mode) (s t : Read) → read a m ≡ Some s → read b s.1 ≡ Some t
    → read (a ++ b) m ≡ Some (put s.0 t)
read_parts a b m s t e f = read-append a b m ∙ ap (and_then (read b)) e ∙ ap (option_map (put s.0)) f

-- what pieces are seen as is what their text is read as
pub as_seen : (ps : List Piece) (m : Mode) (r : Read) → AllNamed ps → see ps m ≡ Some r
    → read (pieces_text ps) m ≡ Some r
unfolding see pieces_text read
as_seen [] m r h e = e
as_seen (p ∷ ps) m r h e =
    let q = parts (see ps) (piece_seen p m) r e in
    read_parts (piece_text p) (pieces_text ps) m q.one q.two (piece_as_seen p m q.one h.0 q.one_is)
    (as_seen ps q.one.1 q.two h.1 q.two_is) ∙ ap Some q.whole

pub put_more : (ts us : List Token) (o : Option (List Token))
    → option_map (λ l. (ts ++ us) ++ l) o ≡ option_map (λ l. ts ++ l) (option_map (λ l. us ++ l) o)
put_more ts us None = refl
put_more ts us (Some l) = ap Some (append_assoc ts us l)

pub put_ends : (ts : List Token) (r : Option Read)
    → whole (option_map (put ts) r) ≡ option_map (λ us. ts ++ us) (whole r)
put_ends ts None = refl
put_ends ts (Some r) = put_more ts r.0 (ends r.1)
