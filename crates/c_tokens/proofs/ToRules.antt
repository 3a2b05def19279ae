-- What is read follows the rules of the tokens.
use Rattle.std.proofs.Common.{◌≡◌, ℕ, List, [], ◌∷◌, ◌++◌, Option, Some, None, option_map, ◌⊎◌, inl, inr, refl, sym, ap}
use Rattle.std.proofs.Common.{◌∙◌, subst, append_assoc, arith}
use Rattle.std.specs.Prelude.{IsTrue, codes}
use Rattle.dt_values.specs.Names.{is_name_byte}
use Rattle.c_tokens.specs.Bytes.{is_mark, IsWord}
use Rattle.c_tokens.specs.Tokens.{Token, word, mark, double_equals, arrow, Kind, letter, space, star, slash, equals}
use Rattle.c_tokens.specs.Tokens.{dash, above, single, other, kind, between, in_word, after_equals, after_dash}
use Rattle.c_tokens.specs.Tokens.{after_slash, in_comment, after_star, Read, put, begin, and_then, read, whole}
use Rattle.c_tokens.specs.Tokens.{tokens_of, in_word_step, after_equals_step, after_dash_step, after_slash_step}
use Rattle.c_tokens.specs.Tokens.{in_comment_step, after_star_step}
use Rattle.c_tokens.specs.Lexed.{Begins, HasNoEnd, IsLexed, nothing, white, comment, longest_word, two_equals}
use Rattle.c_tokens.specs.Lexed.{one_equals, dash_above, one_dash, one_mark}
use Rattle.c_tokens.proofs.Bytes.{Says, of_kind, letter_kind, letters-cons, letter_or_not, star_or_not, slash_or_not}
use Rattle.c_tokens.proofs.Bytes.{equals_or_not, above_or_not}
use Rattle.c_tokens.proofs.Seeing.{put_none, put_ends}
use Rattle.c_tokens.proofs.WordBytes.{word-append}
use Rattle.c_tokens.proofs.Ends.{read_ends_word, read_ends_equals, read_ends_dash, slash_step, comment_step, star_step}

-- the end of a comment, and the tokens behind it
record Closes (text : List ℕ) (tokens : List Token) : Type 0 where
  inside : List ℕ
  rest : List ℕ
  no_end : HasNoEnd inside
  splits : text ≡ inside ++ (42 ∷ 47 ∷ rest)
  lexed : IsLexed rest tokens

-- what the text has tokens for, behind what was read before it
record Follows (text : List ℕ) : Type 0 where
  from_between : (ts : List Token) → whole (read text between) ≡ Some ts → IsLexed text ts
  from_word : (w : List ℕ) (ts : List Token) → IsWord w → whole (read text (in_word w)) ≡ Some ts
      → IsLexed (w ++ text) ts
  from_equals : (ts : List Token) → whole (read text after_equals) ≡ Some ts → IsLexed (61 ∷ text) ts
  from_dash : (ts : List Token) → whole (read text after_dash) ≡ Some ts → IsLexed (45 ∷ text) ts
  from_slash : (ts : List Token) → whole (read text after_slash) ≡ Some ts → IsLexed (47 ∷ text) ts
  from_comment : (ts : List Token) → whole (read text in_comment) ≡ Some ts → Closes text ts
  from_star : (ts : List Token) → whole (read text after_star) ≡ Some ts → Closes (42 ∷ text) ts

some_same : {A : Type 0} (x y : A) → Some x ≡ Some y → x ≡ y
some_same x y e = cc

no_some : {A : Type 0} {B : Type 0} (y : B) → None ≡ Some y → A
no_some y e = absurd (cc)

-- the tokens behind a first one
record Behind (t : Token) (r : Option (List Token)) (ts : List Token) : Type 0 where
  others : List Token
  is : r ≡ Some others
  joined : t ∷ others ≡ ts

behind : (t : Token) (r : Option (List Token)) (ts : List Token) → option_map (λ us. (t ∷ []) ++ us) r ≡ Some ts
    → Behind t r ts
behind t None ts e = no_some ts e
behind t (Some us) ts e = record { others = us; is = refl; joined = some_same (t ∷ us) ts e }

behind_token : (t : Token) (r : Option Read) (ts : List Token) → whole (option_map (put (t ∷ [])) r) ≡ Some ts
    → Behind t (whole r) ts
behind_token t r ts e = behind t (whole r) ts (sym (put_ends (t ∷ []) r) ∙ e)

unput : (r : Option Read) (ts : List Token) → whole (option_map (put []) r) ≡ Some ts → whole r ≡ Some ts
unput r ts e = ap whole (sym (put_none r)) ∙ e

as_tokens : (text : List ℕ) (ts us : List Token) → ts ≡ us → IsLexed text ts → IsLexed text us
as_tokens text ts us e l = subst (λ x. IsLexed text x) e l

as_byte : (b c : ℕ) (prefix text : List ℕ) (ts : List Token) → b ≡ c → IsLexed (prefix ++ (c ∷ text)) ts
    → IsLexed (prefix ++ (b ∷ text)) ts
as_byte b c prefix text ts e l = subst (λ x. IsLexed (prefix ++ (x ∷ text)) ts) (sym e) l

-- nothing is left
no_more : Follows []
unfolding read
no_more = record {
  from_between = λ ts e. as_tokens [] [] ts (some_same [] ts e) nothing;
  from_word = λ w ts h e. as_tokens (w ++ []) (word w ∷ []) ts (some_same (word w ∷ []) ts e)
      (longest_word w [] [] h (λ b. b) nothing);
  from_equals = λ ts e. as_tokens (61 ∷ []) (mark 61 ∷ []) ts (some_same (mark 61 ∷ []) ts e)
      (one_equals [] [] (λ b. b) nothing);
  from_dash = λ ts e. as_tokens (45 ∷ []) (mark 45 ∷ []) ts (some_same (mark 45 ∷ []) ts e)
      (one_dash [] [] (λ b. b) nothing);
  from_slash = λ ts e. no_some ts e;
  from_comment = λ ts e. no_some ts e;
  from_star = λ ts e. no_some ts e;
}

one_letter : (b : ℕ) → IsTrue (is_name_byte b) → IsWord (b ∷ [])
one_letter b h = record { some = omega arith; letters = letters-cons b [] h refl }

one_token : (b : ℕ) (bs : List ℕ) (ts : List Token) → IsTrue (is_mark b) → Follows bs
    → whole (option_map (put (mark b ∷ [])) (read bs between)) ≡ Some ts → IsLexed (b ∷ bs) ts
one_token b bs ts h f e =
    let more = behind_token (mark b) (read bs between) ts e in
    as_tokens (b ∷ bs) (mark b ∷ more.others) ts more.joined
    (one_mark b bs more.others h (f.from_between more.others more.is))

-- a byte that begins a token, or none
between_by : (k : Kind) (b : ℕ) (bs : List ℕ) (ts : List Token) → Says k b → Follows bs
    → whole (and_then (read bs) (begin k b)) ≡ Some ts → IsLexed (b ∷ bs) ts
between_by letter b bs ts h f e = f.from_word (b ∷ []) ts (one_letter b h) (unput _ ts e)
between_by space b bs ts h f e = white b bs ts h (f.from_between ts (unput _ ts e))
between_by star b bs ts h f e = one_token b bs ts (ap is_mark h) f e
between_by slash b bs ts h f e = as_byte b 47 [] bs ts h (f.from_slash ts (unput _ ts e))
between_by equals b bs ts h f e = as_byte b 61 [] bs ts h (f.from_equals ts (unput _ ts e))
between_by dash b bs ts h f e = as_byte b 45 [] bs ts h (f.from_dash ts (unput _ ts e))
between_by above b bs ts h f e = no_some ts e
between_by single b bs ts h f e = one_token b bs ts h f e
between_by other b bs ts h f e = no_some ts e

between_step : (b : ℕ) (bs : List ℕ) → Follows bs → (ts : List Token) → whole (read (b ∷ bs) between) ≡ Some ts
    → IsLexed (b ∷ bs) ts
unfolding read
between_step b bs f ts e = between_by (kind b) b bs ts (of_kind b (kind b) refl) f e

-- a byte behind a word
word_by : (b : ℕ) (bs w : List ℕ) (ts : List Token) → Follows bs → IsWord w
    → whole (read (b ∷ bs) (in_word w)) ≡ Some ts → (kind b ≡ letter) ⊎ (kind b ≡ letter → ⊥)
    → IsLexed (w ++ (b ∷ bs)) ts
unfolding read
word_by b bs w ts f h e (inl k) =
    let longer = word-append w (b ∷ []) h (letters-cons b [] (of_kind b letter k) refl) in
    let goes_on = unput (read bs (in_word (w ++ b ∷ []))) ts
    (ap (λ x. whole (and_then (read bs) (in_word_step w x b))) (sym k) ∙ e) in
    subst (λ x. IsLexed x ts) (append_assoc w (b ∷ []) bs) (f.from_word (w ++ b ∷ []) ts longer goes_on)
word_by b bs w ts f h e (inr n) =
    let more = behind_token (word w) (read (b ∷ bs) between) ts (ap whole (sym (read_ends_word b bs w n)) ∙ e) in
    as_tokens (w ++ (b ∷ bs)) (word w ∷ more.others) ts more.joined
    (longest_word w (b ∷ bs) more.others h (λ l. n (letter_kind b l)) (between_step b bs f more.others more.is))

-- a byte behind `=`
equals_by : (b : ℕ) (bs : List ℕ) (ts : List Token) → Follows bs → whole (read (b ∷ bs) after_equals) ≡ Some ts
    → (kind b ≡ equals) ⊎ (kind b ≡ equals → ⊥) → IsLexed (61 ∷ b ∷ bs) ts
unfolding read
equals_by b bs ts f e (inl k) =
    let more = behind_token double_equals (read bs between) ts
    (ap (λ x. whole (and_then (read bs) (after_equals_step x b))) (sym k) ∙ e) in
    as_byte b 61 (61 ∷ []) bs ts (of_kind b equals k)
    (as_tokens (61 ∷ 61 ∷ bs) (double_equals ∷ more.others) ts more.joined
    (two_equals bs more.others (f.from_between more.others more.is)))
equals_by b bs ts f e (inr n) =
    let more = behind_token (mark 61) (read (b ∷ bs) between) ts (ap whole (sym (read_ends_equals b bs n)) ∙ e) in
    as_tokens (61 ∷ b ∷ bs) (mark 61 ∷ more.others) ts more.joined
    (one_equals (b ∷ bs) more.others (λ l. n (ap kind l)) (between_step b bs f more.others more.is))

-- a byte behind `-`
dash_by : (b : ℕ) (bs : List ℕ) (ts : List Token) → Follows bs → whole (read (b ∷ bs) after_dash) ≡ Some ts
    → (kind b ≡ above) ⊎ (kind b ≡ above → ⊥) → IsLexed (45 ∷ b ∷ bs) ts
unfolding read
dash_by b bs ts f e (inl k) =
    let more = behind_token arrow (read bs between) ts
    (ap (λ x. whole (and_then (read bs) (after_dash_step x b))) (sym k) ∙ e) in
    as_byte b 62 (45 ∷ []) bs ts (of_kind b above k)
    (as_tokens (45 ∷ 62 ∷ bs) (arrow ∷ more.others) ts more.joined
    (dash_above bs more.others (f.from_between more.others more.is)))
dash_by b bs ts f e (inr n) =
    let more = behind_token (mark 45) (read (b ∷ bs) between) ts (ap whole (sym (read_ends_dash b bs n)) ∙ e) in
    as_tokens (45 ∷ b ∷ bs) (mark 45 ∷ more.others) ts more.joined
    (one_dash (b ∷ bs) more.others (λ l. n (ap kind l)) (between_step b bs f more.others more.is))

-- a comment as the rules have it
as_comment : (text : List ℕ) (ts : List Token) → Closes text ts → IsLexed (47 ∷ 42 ∷ text) ts
as_comment text ts c = subst (λ x. IsLexed (47 ∷ 42 ∷ x) ts)
    (append_assoc c.inside (42 ∷ 47 ∷ []) c.rest ∙ sym c.splits) (comment c.inside c.rest ts c.no_end c.lexed)

-- a byte behind `/`
slash_by : (b : ℕ) (bs : List ℕ) (ts : List Token) → Follows bs → whole (read (b ∷ bs) after_slash) ≡ Some ts
    → (kind b ≡ star) ⊎ (kind b ≡ star → ⊥) → IsLexed (47 ∷ b ∷ bs) ts
unfolding read
slash_by b bs ts f e (inl k) =
    let goes_on = unput (read bs in_comment) ts
    (ap (λ x. whole (and_then (read bs) (after_slash_step x))) (sym k) ∙ e) in
    as_byte b 42 (47 ∷ []) bs ts (of_kind b star k) (as_comment bs ts (f.from_comment ts goes_on))
slash_by b bs ts f e (inr n) = no_some ts (ap (λ x. whole (and_then (read bs) x)) (sym (slash_step (kind b) n)) ∙ e)

-- one byte more in a comment
first_same : (x y : ℕ) (xs ys : List ℕ) → x ∷ xs ≡ y ∷ ys → (x ≡ y) × (xs ≡ ys)
first_same x y xs ys e = ((cc), (cc))

no_end_more : (b : ℕ) (inside : List ℕ) → (b ≡ 42 → ¬ Begins (λ c. c ≡ 47) inside) → HasNoEnd inside
    → HasNoEnd (b ∷ inside)
no_end_more b inside apart h [] suffix e =
    let q = first_same b 42 inside (47 ∷ suffix) e in
    apart q.0 (subst (λ x. Begins (λ c. c ≡ 47) x) (sym q.1) refl)
no_end_more b inside apart h (f ∷ prefix) suffix e =
    h prefix suffix (first_same b f inside (prefix ++ codes "*/" ++ suffix) e).1

begins-append : (P : ℕ → Type 0) (a b : List ℕ) → Begins P a → Begins P (a ++ b)
begins-append P [] b h = absurd h
begins-append P (x ∷ a) b h = h

closes_more : (b : ℕ) (text : List ℕ) (ts : List Token) → (b ≡ 42 → ¬ Begins (λ c. c ≡ 47) text) → Closes text ts
    → Closes (b ∷ text) ts
closes_more b text ts apart c = record {
  inside = b ∷ c.inside;
  rest = c.rest;
  no_end = no_end_more b c.inside
      (λ e begins. apart e (subst (λ x. Begins (λ d. d ≡ 47) x) (sym c.splits)
      (begins-append (λ d. d ≡ 47) c.inside (42 ∷ 47 ∷ c.rest) begins))) c.no_end;
  splits = ap (λ l. b ∷ l) c.splits;
  lexed = c.lexed;
}

as_first : (b c : ℕ) (prefix text : List ℕ) (ts : List Token) → b ≡ c → Closes (prefix ++ (c ∷ text)) ts
    → Closes (prefix ++ (b ∷ text)) ts
as_first b c prefix text ts e l = subst (λ x. Closes (prefix ++ (x ∷ text)) ts) (sym e) l

comment_by : (b : ℕ) (bs : List ℕ) (ts : List Token) → Follows bs → whole (read (b ∷ bs) in_comment) ≡ Some ts
    → (kind b ≡ star) ⊎ (kind b ≡ star → ⊥) → Closes (b ∷ bs) ts
unfolding read
comment_by b bs ts f e (inl k) =
    as_first b 42 [] bs ts (of_kind b star k)
    (f.from_star ts (unput (read bs after_star) ts
    (ap (λ x. whole (and_then (read bs) (Some ([], in_comment_step x)))) (sym k) ∙ e)))
comment_by b bs ts f e (inr n) =
    closes_more b bs ts (λ is. absurd (n (ap kind is)))
    (f.from_comment ts (unput (read bs in_comment) ts
    (ap (λ x. whole (and_then (read bs) (Some ([], x)))) (sym (comment_step (kind b) n)) ∙ e)))

closes_here : (bs : List ℕ) (ts : List Token) → IsLexed bs ts → Closes (42 ∷ 47 ∷ bs) ts
closes_here bs ts l = record { inside = []; rest = bs; no_end = nothing_ends; splits = refl; lexed = l } where
  nothing_ends : HasNoEnd []
  nothing_ends [] suffix e = cc
  nothing_ends (f ∷ prefix) suffix e = cc

star_no_slash : (bs : List ℕ) → ¬ Begins (λ c. c ≡ 47) (42 ∷ bs)
star_no_slash bs e = omega (arith, e)

star_by : (b : ℕ) (bs : List ℕ) (ts : List Token) → Follows bs → whole (read (b ∷ bs) after_star) ≡ Some ts
    → (kind b ≡ star) ⊎ (kind b ≡ star → ⊥) → (kind b ≡ slash) ⊎ (kind b ≡ slash → ⊥) → Closes (42 ∷ b ∷ bs) ts
unfolding read
star_by b bs ts f e (inl k) d =
    as_first b 42 (42 ∷ []) bs ts (of_kind b star k)
    (closes_more 42 (42 ∷ bs) ts (λ is. star_no_slash bs)
    (f.from_star ts (unput (read bs after_star) ts
    (ap (λ x. whole (and_then (read bs) (Some ([], after_star_step x)))) (sym k) ∙ e))))
star_by b bs ts f e (inr n) (inl k) =
    as_first b 47 (42 ∷ []) bs ts (of_kind b slash k)
    (closes_here bs ts (f.from_between ts
    (unput (read bs between) ts (ap (λ x. whole (and_then (read bs) (Some ([], after_star_step x)))) (sym k) ∙ e))))
star_by b bs ts f e (inr n) (inr m) =
    closes_more 42 (b ∷ bs) ts (λ is l. m (ap kind l))
    (closes_more b bs ts (λ is. absurd (n (ap kind is)))
    (f.from_comment ts (unput (read bs in_comment) ts
    (ap (λ x. whole (and_then (read bs) (Some ([], x)))) (sym (star_step (kind b) n m)) ∙ e))))

one_more : (b : ℕ) (bs : List ℕ) → Follows bs → Follows (b ∷ bs)
one_more b bs f = record {
  from_between = between_step b bs f;
  from_word = λ w ts h e. word_by b bs w ts f h e (letter_or_not (kind b));
  from_equals = λ ts e. equals_by b bs ts f e (equals_or_not (kind b));
  from_dash = λ ts e. dash_by b bs ts f e (above_or_not (kind b));
  from_slash = λ ts e. slash_by b bs ts f e (star_or_not (kind b));
  from_comment = λ ts e. comment_by b bs ts f e (star_or_not (kind b));
  from_star = λ ts e. star_by b bs ts f e (star_or_not (kind b)) (slash_or_not (kind b));
}

follows : (text : List ℕ) → Follows text
follows [] = no_more
follows (b ∷ bs) = one_more b bs (follows bs)

pub lexed_by_rules : (text : List ℕ) (tokens : List Token) → tokens_of text ≡ Some tokens → IsLexed text tokens
lexed_by_rules text tokens e = (follows text).from_between tokens e
