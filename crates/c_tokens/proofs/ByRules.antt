-- What the rules of the tokens give is what is read.
use Rattle.std.proofs.Common.{◌≡◌, ℕ, List, [], ◌∷◌, ◌++◌, Some, option_map, ◌⊎◌, inl, inr, refl, ap, ◌∙◌, subst}
use Rattle.std.proofs.Common.{append_assoc}
use Rattle.std.specs.Prelude.{IsTrue, codes}
use Rattle.dt_values.specs.Names.{is_name_byte}
use Rattle.c_tokens.specs.Bytes.{is_white, is_mark, IsWord}
use Rattle.c_tokens.specs.Tokens.{Token, word, mark, double_equals, arrow, letter, star, slash, equals, above, kind}
use Rattle.c_tokens.specs.Tokens.{Mode, between, in_word, after_equals, after_dash, in_comment, after_star, put, begin}
use Rattle.c_tokens.specs.Tokens.{and_then, read, whole, tokens_of, in_comment_step, after_star_step}
use Rattle.c_tokens.specs.Lexed.{Begins, HasNoEnd, IsLexed, nothing, white, comment, longest_word, two_equals}
use Rattle.c_tokens.specs.Lexed.{one_equals, dash_above, one_dash, one_mark}
use Rattle.c_tokens.proofs.Bytes.{of_kind, white_kind, mark_begins, star_or_not, slash_or_not}
use Rattle.c_tokens.proofs.Seeing.{put_none, put_ends, read-append, whole_word}
use Rattle.c_tokens.proofs.Ends.{read_ends_word, read_ends_equals, read_ends_dash, comment_step, star_step}

white_read : (b : ℕ) (text : List ℕ) → IsTrue (is_white b) → read (b ∷ text) between ≡ read text between
unfolding read
white_read b text h = ap (λ k. and_then (read text) (begin k b)) (white_kind b h) ∙ put_none _

mark_read : (b : ℕ) (text : List ℕ) → IsTrue (is_mark b)
    → read (b ∷ text) between ≡ option_map (put (mark b ∷ [])) (read text between)
unfolding read
mark_read b text h = ap (and_then (read text)) (mark_begins b h)

word_read : (bytes text : List ℕ) → IsWord bytes → read (bytes ++ text) between ≡ read text (in_word bytes)
word_read bytes text h = read-append bytes text between ∙ ap (and_then (read text)) (whole_word bytes h) ∙ put_none _

two_equals_read : (text : List ℕ)
    → read (61 ∷ 61 ∷ text) between ≡ option_map (put (double_equals ∷ [])) (read text between)
unfolding read
two_equals_read text = put_none _

equals_read : (text : List ℕ) → read (61 ∷ text) between ≡ read text after_equals
unfolding read
equals_read text = put_none _

dash_above_read : (text : List ℕ) → read (45 ∷ 62 ∷ text) between ≡ option_map (put (arrow ∷ [])) (read text between)
unfolding read
dash_above_read text = put_none _

dash_read : (text : List ℕ) → read (45 ∷ text) between ≡ read text after_dash
unfolding read
dash_read text = put_none _

-- one token, and those of what stands behind it
first_token : (t : Token) (r : List ℕ) (ts : List Token) → tokens_of r ≡ Some ts
    → whole (option_map (put (t ∷ [])) (read r between)) ≡ Some (t ∷ ts)
first_token t r ts e = put_ends (t ∷ []) (read r between) ∙ ap (option_map (λ us. t ∷ us)) e

behind_word : (w text : List ℕ) (ts : List Token) → ¬ Begins (λ byte. IsTrue (is_name_byte byte)) text
    → tokens_of text ≡ Some ts → whole (read text (in_word w)) ≡ Some (word w ∷ ts)
unfolding read
behind_word w [] ts h e = ap (option_map (λ us. word w ∷ us)) e
behind_word w (b ∷ bs) ts h e = ap whole (read_ends_word b bs w (λ k. h (of_kind b letter k)))
    ∙ first_token (word w) (b ∷ bs) ts e

behind_equals : (text : List ℕ) (ts : List Token) → ¬ Begins (λ byte. byte ≡ 61) text → tokens_of text ≡ Some ts
    → whole (read text after_equals) ≡ Some (mark 61 ∷ ts)
unfolding read
behind_equals [] ts h e = ap (option_map (λ us. mark 61 ∷ us)) e
behind_equals (b ∷ bs) ts h e = ap whole (read_ends_equals b bs (λ k. h (of_kind b equals k)))
    ∙ first_token (mark 61) (b ∷ bs) ts e

behind_dash : (text : List ℕ) (ts : List Token) → ¬ Begins (λ byte. byte ≡ 62) text → tokens_of text ≡ Some ts
    → whole (read text after_dash) ≡ Some (mark 45 ∷ ts)
unfolding read
behind_dash [] ts h e = ap (option_map (λ us. mark 45 ∷ us)) e
behind_dash (b ∷ bs) ts h e = ap whole (read_ends_dash b bs (λ k. h (of_kind b above k)))
    ∙ first_token (mark 45) (b ∷ bs) ts e

no_end_rest : (b : ℕ) (bs : List ℕ) → HasNoEnd (b ∷ bs) → HasNoEnd bs
no_end_rest b bs h prefix suffix e = h (b ∷ prefix) suffix (ap (λ l. b ∷ l) e)

no_end_as : (b c : ℕ) (bs : List ℕ) → b ≡ c → HasNoEnd (b ∷ bs) → HasNoEnd (c ∷ bs)
no_end_as b c bs e h = subst (λ x. HasNoEnd (x ∷ bs)) e h

-- what is read of the rest of a comment, and its end
abbrev rest_read : List ℕ → List ℕ → Mode → Type 0
rest_read inside text m = read (inside ++ (42 ∷ 47 ∷ text)) m ≡ read text between

comment_by : (b : ℕ) (bs text : List ℕ) → HasNoEnd (b ∷ bs) → (HasNoEnd bs → rest_read bs text in_comment)
    → (HasNoEnd (42 ∷ bs) → rest_read bs text after_star) → (kind b ≡ star) ⊎ (kind b ≡ star → ⊥)
    → rest_read bs text (in_comment_step (kind b))
comment_by b bs text h goes starred (inl e) = ap (λ k. read (bs ++ (42 ∷ 47 ∷ text)) (in_comment_step k)) e
    ∙ starred (no_end_as b 42 bs (of_kind b star e) h)
comment_by b bs text h goes starred (inr n) = ap (read (bs ++ (42 ∷ 47 ∷ text))) (comment_step (kind b) n)
    ∙ goes (no_end_rest b bs h)

star_by : (b : ℕ) (bs text : List ℕ) → HasNoEnd (42 ∷ b ∷ bs) → (HasNoEnd bs → rest_read bs text in_comment)
    → (HasNoEnd (42 ∷ bs) → rest_read bs text after_star) → (kind b ≡ star) ⊎ (kind b ≡ star → ⊥)
    → (kind b ≡ slash) ⊎ (kind b ≡ slash → ⊥) → rest_read bs text (after_star_step (kind b))
star_by b bs text h goes starred (inl e) d = ap (λ k. read (bs ++ (42 ∷ 47 ∷ text)) (after_star_step k)) e
    ∙ starred (no_end_as b 42 bs (of_kind b star e) (no_end_rest 42 (b ∷ bs) h))
star_by b bs text h goes starred (inr n) (inl e) = absurd (h [] bs (ap (λ c. 42 ∷ c ∷ bs) (of_kind b slash e)))
star_by b bs text h goes starred (inr n) (inr m) = ap (read (bs ++ (42 ∷ 47 ∷ text))) (star_step (kind b) n m)
    ∙ goes (no_end_rest b bs (no_end_rest 42 (b ∷ bs) h))

-- a comment is read up to its end
mutual
  unfolding read

  in_comment_read : (inside text : List ℕ) → HasNoEnd inside → rest_read inside text in_comment
  in_comment_read [] text h = put_none _ ∙ put_none _
  in_comment_read (b ∷ bs) text h = put_none _
      ∙ comment_by b bs text h (in_comment_read bs text) (after_star_read bs text) (star_or_not (kind b))

  after_star_read : (inside text : List ℕ) → HasNoEnd (42 ∷ inside) → rest_read inside text after_star
  after_star_read [] text h = put_none _ ∙ put_none _
  after_star_read (b ∷ bs) text h = put_none _
      ∙ star_by b bs text h (in_comment_read bs text) (after_star_read bs text) (star_or_not (kind b))
      (slash_or_not (kind b))

comment_read : (inside text : List ℕ) → HasNoEnd inside
    → read (codes "/*" ++ inside ++ codes "*/" ++ text) between ≡ read text between
unfolding read
comment_read inside text h = ap (λ l. read (47 ∷ 42 ∷ l) between) (append_assoc inside (42 ∷ 47 ∷ []) text)
    ∙ put_none _ ∙ put_none _ ∙ in_comment_read inside text h

nothing_read : tokens_of [] ≡ Some []
unfolding read
nothing_read = refl

pub read_by_rules : {text : List ℕ} {tokens : List Token} → IsLexed text tokens → tokens_of text ≡ Some tokens
read_by_rules nothing = nothing_read
read_by_rules (white b text tokens h l) = ap whole (white_read b text h) ∙ read_by_rules l
read_by_rules (comment inside text tokens h l) = ap whole (comment_read inside text h) ∙ read_by_rules l
read_by_rules (longest_word bytes text tokens h n l) = ap whole (word_read bytes text h)
    ∙ behind_word bytes text tokens n (read_by_rules l)
read_by_rules (two_equals text tokens l) = ap whole (two_equals_read text)
    ∙ first_token double_equals text tokens (read_by_rules l)
read_by_rules (one_equals text tokens n l) = ap whole (equals_read text) ∙ behind_equals text tokens n (read_by_rules l)
read_by_rules (dash_above text tokens l) = ap whole (dash_above_read text)
    ∙ first_token arrow text tokens (read_by_rules l)
read_by_rules (one_dash text tokens n l) = ap whole (dash_read text) ∙ behind_dash text tokens n (read_by_rules l)
read_by_rules (one_mark b text tokens h l) = ap whole (mark_read b text h)
    ∙ first_token (mark b) text tokens (read_by_rules l)
