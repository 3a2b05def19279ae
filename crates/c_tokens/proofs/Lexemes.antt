-- What stands first in a text, and what is read behind it.
use Rattle.std.proofs.Common.{◌≡◌, ℕ, ◌<◌, ◌≤◌, ◌+◌, Bool, true, false, ◌==◌, List, [], ◌∷◌, ◌++◌, length, take, drop}
use Rattle.std.proofs.Common.{get_or, Some, refl, sym, ap, ◌∙◌, subst, arith, append_assoc, append-nil, length-take}
use Rattle.std.proofs.Common.{zero, suc, drop-cons, add-one}
use Rattle.std.specs.Prelude.{IsTrue}
use Rattle.std.proofs.lemmas.Bool.Decides.{nat_tests}
use Rattle.std.proofs.lemmas.List.{take_more, drop_all, take-append-drop}
use Rattle.dt_values.specs.Names.{is_name_byte}
use Rattle.c_tokens.specs.Bytes.{Letters}
use Rattle.c_tokens.specs.Lexed.{Begins}
use Rattle.c_tokens.specs.Tokens.{word, mark, double_equals, arrow, letter, star, slash, equals, above, kind, Mode}
use Rattle.c_tokens.specs.Tokens.{between, in_word, after_equals, after_dash, after_slash, in_comment, after_star}
use Rattle.c_tokens.specs.Tokens.{begin, in_word_step, in_comment_step, after_star_step, read}
use Rattle.c_tokens.proofs.Bytes.{of_kind, letters_first, letters_rest, letters-append, letters-cons}
use Rattle.c_tokens.proofs.Ends.{word_step, equals_step, dash_step, slash_step, comment_step, star_step}
use Rattle.c_tokens.specs.Before.{before}
use Rattle.c_tokens.specs.Reading.{reading, no_token, with_first}
use Rattle.c_tokens.proofs.Reading.{passes, gives, stops, pends}

-- `==` and `=`
pub two_equals : (text rest : List ℕ) → text ≡ 61 ∷ rest
    → reading text after_equals ≡ with_first (Some double_equals) (reading rest between)
two_equals text rest e = ap (λ l. reading l after_equals) e ∙ gives double_equals 61 rest after_equals between refl

pub one_equals : (text : List ℕ) → ¬ Begins (λ b. b ≡ 61) text
    → reading text after_equals ≡ with_first (Some (mark 61)) (reading text between)
unfolding reading before read
one_equals [] h = refl
one_equals (b ∷ bs) h = pends (mark 61) b bs after_equals (equals_step (kind b) b (λ k. h (of_kind b equals k))) refl

-- `->` and `-`
pub dash_above : (text rest : List ℕ) → text ≡ 62 ∷ rest
    → reading text after_dash ≡ with_first (Some arrow) (reading rest between)
dash_above text rest e = ap (λ l. reading l after_dash) e ∙ gives arrow 62 rest after_dash between refl

pub one_dash : (text : List ℕ) → ¬ Begins (λ b. b ≡ 62) text
    → reading text after_dash ≡ with_first (Some (mark 45)) (reading text between)
unfolding reading before read
one_dash [] h = refl
one_dash (b ∷ bs) h = pends (mark 45) b bs after_dash (dash_step (kind b) b (λ k. h (of_kind b above k))) refl

-- a slash begins a comment, or nothing
pub slash_star : (text inside : List ℕ) → text ≡ 42 ∷ inside → reading text after_slash ≡ reading inside in_comment
slash_star text inside e = ap (λ l. reading l after_slash) e ∙ passes 42 inside after_slash in_comment refl

pub slash_alone : (text : List ℕ) → ¬ Begins (λ b. b ≡ 42) text → reading text after_slash ≡ no_token
unfolding reading before read
slash_alone [] h = refl
slash_alone (b ∷ bs) h = stops b bs after_slash (slash_step (kind b) (λ k. h (of_kind b star k))) refl

-- inside of a comment, behind a star or not
abbrev pub comment_mode : Bool → Mode
comment_mode true = after_star
comment_mode false = in_comment

by_star : (b : ℕ) (test : Bool) → (b == 42) ≡ test → in_comment_step (kind b) ≡ comment_mode test
by_star b true e = let same : b ≡ 42 = grind (arith, nat_tests) in ap (λ x. in_comment_step (kind x)) same
by_star b false e =
    let other : b ≡ 42 → ⊥ = λ same. grind (arith, nat_tests) in
    comment_step (kind b) (λ k. other (of_kind b star k))

by_star_again : (b : ℕ) (test : Bool) → (b ≡ 47 → ⊥) → (b == 42) ≡ test → after_star_step (kind b) ≡ comment_mode test
by_star_again b true h e = let same : b ≡ 42 = grind (arith, nat_tests) in ap (λ x. after_star_step (kind x)) same
by_star_again b false h e =
    let other : b ≡ 42 → ⊥ = λ same. grind (arith, nat_tests) in
    star_step (kind b) (λ k. other (of_kind b star k)) (λ k. h (of_kind b slash k))

goes_on : (starred : Bool) (b : ℕ) (bs : List ℕ) → (IsTrue starred → b ≡ 47 → ⊥)
    → reading (b ∷ bs) (comment_mode starred) ≡ reading bs (comment_mode (b == 42))
goes_on true b bs h =
    passes b bs after_star (comment_mode (b == 42)) (ap (λ m. Some ([], m)) (by_star_again b (b == 42) (h refl) refl))
goes_on false b bs h =
    passes b bs in_comment (comment_mode (b == 42)) (ap (λ m. Some ([], m)) (by_star b (b == 42) refl))

pub comment_goes_on : (text : List ℕ) (at b : ℕ) (starred : Bool) → at < length text → b ≡ get_or text at 0
    → (IsTrue starred → b ≡ 47 → ⊥)
    → reading text in_comment ≡ reading (drop at text) (comment_mode starred)
    → reading text in_comment ≡ reading (drop (at + 1) text) (comment_mode (b == 42))
comment_goes_on text at b starred h e apart is =
    let first : drop at text ≡ b ∷ drop (at + 1) text = rw (e, add-one) (drop-cons text at 0 h) in
    is ∙ ap (λ l. reading l (comment_mode starred)) first ∙ goes_on starred b (drop (at + 1) text) apart

pub comment_ends : (text : List ℕ) (at b : ℕ) (starred : Bool) → at < length text → b ≡ get_or text at 0
    → IsTrue starred → b ≡ 47
    → reading text in_comment ≡ reading (drop at text) (comment_mode starred)
    → reading text in_comment ≡ reading (drop (at + 1) text) between
comment_ends text at b true h e behind_star is47 is =
    let first : drop at text ≡ 47 ∷ drop (at + 1) text = rw (add-one, sym is47, e) (drop-cons text at 0 h) in
    is ∙ ap (λ l. reading l after_star) first ∙ passes 47 (drop (at + 1) text) after_star between refl
comment_ends text at b false h e behind_star is47 is = absurd (cc)

nothing_inside : (starred : Bool) → reading [] (comment_mode starred) ≡ no_token
unfolding reading before read
nothing_inside true = refl
nothing_inside false = refl

pub comment_unclosed : (text : List ℕ) (at : ℕ) (starred : Bool) → length text ≤ at
    → reading text in_comment ≡ reading (drop at text) (comment_mode starred)
    → reading text in_comment ≡ no_token
comment_unclosed text at starred h is = is ∙ ap (λ l. reading l (comment_mode starred)) (drop_all at text h)
    ∙ nothing_inside starred

-- the longest run of name bytes
abbrev BeginsName : List ℕ → Type 0
BeginsName = Begins (λ byte. IsTrue (is_name_byte byte))

rest_of_word : (bs w rest : List ℕ) → Letters bs → reading (bs ++ rest) (in_word w) ≡ reading rest (in_word (w ++ bs))
rest_of_word [] w rest h = ap (λ l. reading rest (in_word l)) (sym (append-nil w))
rest_of_word (b ∷ bs) w rest h =
    passes b (bs ++ rest) (in_word w) (in_word (w ++ b ∷ [])) (ap (λ k. in_word_step w k b) (letters_first b bs h))
    ∙ rest_of_word bs (w ++ b ∷ []) rest (letters_rest b bs h)
    ∙ ap (λ l. reading rest (in_word l)) (append_assoc w (b ∷ []) bs)

behind_word : (w rest : List ℕ) → ¬ BeginsName rest
    → reading rest (in_word w) ≡ with_first (Some (word w)) (reading rest between)
unfolding reading before read
behind_word w [] h = refl
behind_word w (b ∷ bs) h = pends (word w) b bs (in_word w) (word_step (kind b) w b (λ k. h (of_kind b letter k))) refl

whole_word : (w rest : List ℕ) → 0 < length w → Letters w → ¬ BeginsName rest
    → reading (w ++ rest) between ≡ with_first (Some (word w)) (reading rest between)
whole_word [] rest some h stop = absurd (omega arith)
whole_word (b ∷ bs) rest some h stop =
    passes b (bs ++ rest) between (in_word (b ∷ [])) (ap (λ k. begin k b) (letters_first b bs h))
    ∙ rest_of_word bs (b ∷ []) rest (letters_rest b bs h)
    ∙ behind_word (b ∷ bs) rest stop

pub some_taken : (text : List ℕ) (n : ℕ) → BeginsName text → ¬ BeginsName (drop n text) → 0 < n
some_taken text zero begins stop = absurd (stop begins)
some_taken text (suc n) begins stop = omega arith

pub word_first : (text : List ℕ) (n : ℕ) → n ≤ length text → Letters (take n text) → BeginsName text
    → ¬ BeginsName (drop n text)
    → reading text between ≡ with_first (Some (word (take n text))) (reading (drop n text) between)
word_first text n h letters begins stop =
    ap (λ l. reading l between) (sym (take-append-drop n text))
    ∙ whole_word (take n text) (drop n text)
    (omega (arith, length-take n text, some_taken text n begins stop)) letters stop

pub letters_more : (text : List ℕ) (i : ℕ) → i < length text → Letters (take i text)
    → is_name_byte (get_or text i 0) ≡ true → Letters (take (i + 1) text)
letters_more text i h k e =
    subst Letters (sym (take_more text i 0 h))
    (letters-append (take i text) (get_or text i 0 ∷ []) k (letters-cons (get_or text i 0) [] e refl))

pub word_stops : (text : List ℕ) (i : ℕ) → i < length text → is_name_byte (get_or text i 0) ≡ false
    → ¬ BeginsName (drop i text)
word_stops text i h e b =
    let c : BeginsName (get_or text i 0 ∷ drop (suc i) text) = subst BeginsName (drop-cons text i 0 h) b in
    let f : true ≡ false = sym c ∙ e in
    cc

pub word_ends : (text : List ℕ) (i : ℕ) → length text ≤ i → ¬ BeginsName (drop i text)
word_ends text i h b = subst BeginsName (drop_all i text h) b

pub ruleset comment_steps = (comment_goes_on, comment_ends, comment_unclosed)

pub ruleset word_steps = (letters_more, word_stops, word_ends)
