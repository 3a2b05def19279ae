-- A text has at most as many tokens as bytes.
use Rattle.std.proofs.Common.{◌≡◌, ℕ, ◌+◌, ◌≤◌, suc, List, [], ◌∷◌, ◌++◌, length, Option, Some, None, option_map, refl, sym}
use Rattle.std.proofs.Common.{ap, subst, ◌∙◌, arith, length-append}
use Rattle.std.specs.Prelude.{option_and_then}
use Rattle.c_tokens.specs.Tokens.{Token, word, mark, double_equals, arrow, Kind, letter, space, star, slash, equals, dash}
use Rattle.c_tokens.specs.Tokens.{above, single, other, kind, Mode, between, in_word, after_equals, after_dash}
use Rattle.c_tokens.specs.Tokens.{after_slash, in_comment, after_star, Read, put, begin, in_word_step, step, and_then}
use Rattle.c_tokens.specs.Tokens.{read, ends, whole, tokens_of}
use Rattle.c_tokens.proofs.Exact.{bind_some, map_some, some_is}

-- a token that has begun
abbrev begun : Mode → ℕ
begun between = 0
begun (in_word w) = 1
begun after_equals = 1
begun after_dash = 1
begun after_slash = 0
begun in_comment = 0
begun after_star = 0

-- no more tokens end, and begin, than this
abbrev AtMost : ℕ → Option Read → Type 0
AtMost n r = (x : Read) → r ≡ Some x → length x.0 + begun x.1 ≤ n

some_at_most : (n : ℕ) (x : Read) → length x.0 + begun x.1 ≤ n → AtMost n (Some x)
some_at_most n x h y e = subst (λ (z : Read). length z.0 + begun z.1 ≤ n) (some_is x y e) h

none_at_most : (n : ℕ) → AtMost n None
none_at_most n x e = absurd cc

begin_at_most : (k : Kind) (b : ℕ) → AtMost 1 (begin k b)
begin_at_most letter b = some_at_most 1 _ (omega arith)
begin_at_most space b = some_at_most 1 _ (omega arith)
begin_at_most star b = some_at_most 1 _ (omega arith)
begin_at_most slash b = some_at_most 1 _ (omega arith)
begin_at_most equals b = some_at_most 1 _ (omega arith)
begin_at_most dash b = some_at_most 1 _ (omega arith)
begin_at_most above b = none_at_most 1
begin_at_most single b = some_at_most 1 _ (omega arith)
begin_at_most other b = none_at_most 1

-- one token ended before
put_at_most : (t : Token) (r : Option Read) → AtMost 1 r → AtMost 2 (option_map (put (t ∷ [])) r)
put_at_most t None h = none_at_most 2
put_at_most t (Some x) h = some_at_most 2 _ (omega (arith, h x refl))

in_word_at_most : (w : List ℕ) (k : Kind) (b : ℕ) → AtMost 2 (in_word_step w k b)
in_word_at_most w letter b = some_at_most 2 _ (omega arith)
in_word_at_most w space b = put_at_most (word w) _ (begin_at_most space b)
in_word_at_most w star b = put_at_most (word w) _ (begin_at_most star b)
in_word_at_most w slash b = put_at_most (word w) _ (begin_at_most slash b)
in_word_at_most w equals b = put_at_most (word w) _ (begin_at_most equals b)
in_word_at_most w dash b = put_at_most (word w) _ (begin_at_most dash b)
in_word_at_most w above b = put_at_most (word w) _ (begin_at_most above b)
in_word_at_most w single b = put_at_most (word w) _ (begin_at_most single b)
in_word_at_most w other b = put_at_most (word w) _ (begin_at_most other b)

equals_at_most : (k : Kind) (b : ℕ) → AtMost 2 (step after_equals k b)
equals_at_most letter b = put_at_most (mark 61) _ (begin_at_most letter b)
equals_at_most space b = put_at_most (mark 61) _ (begin_at_most space b)
equals_at_most star b = put_at_most (mark 61) _ (begin_at_most star b)
equals_at_most slash b = put_at_most (mark 61) _ (begin_at_most slash b)
equals_at_most equals b = some_at_most 2 _ (omega arith)
equals_at_most dash b = put_at_most (mark 61) _ (begin_at_most dash b)
equals_at_most above b = put_at_most (mark 61) _ (begin_at_most above b)
equals_at_most single b = put_at_most (mark 61) _ (begin_at_most single b)
equals_at_most other b = put_at_most (mark 61) _ (begin_at_most other b)

dash_at_most : (k : Kind) (b : ℕ) → AtMost 2 (step after_dash k b)
dash_at_most letter b = put_at_most (mark 45) _ (begin_at_most letter b)
dash_at_most space b = put_at_most (mark 45) _ (begin_at_most space b)
dash_at_most star b = put_at_most (mark 45) _ (begin_at_most star b)
dash_at_most slash b = put_at_most (mark 45) _ (begin_at_most slash b)
dash_at_most equals b = put_at_most (mark 45) _ (begin_at_most equals b)
dash_at_most dash b = put_at_most (mark 45) _ (begin_at_most dash b)
dash_at_most above b = some_at_most 2 _ (omega arith)
dash_at_most single b = put_at_most (mark 45) _ (begin_at_most single b)
dash_at_most other b = put_at_most (mark 45) _ (begin_at_most other b)

slash_at_most : (k : Kind) (b : ℕ) → AtMost 1 (step after_slash k b)
slash_at_most letter b = none_at_most 1
slash_at_most space b = none_at_most 1
slash_at_most star b = some_at_most 1 _ (omega arith)
slash_at_most slash b = none_at_most 1
slash_at_most equals b = none_at_most 1
slash_at_most dash b = none_at_most 1
slash_at_most above b = none_at_most 1
slash_at_most single b = none_at_most 1
slash_at_most other b = none_at_most 1

comment_at_most : (k : Kind) (b : ℕ) → AtMost 1 (step in_comment k b)
comment_at_most letter b = some_at_most 1 _ (omega arith)
comment_at_most space b = some_at_most 1 _ (omega arith)
comment_at_most star b = some_at_most 1 _ (omega arith)
comment_at_most slash b = some_at_most 1 _ (omega arith)
comment_at_most equals b = some_at_most 1 _ (omega arith)
comment_at_most dash b = some_at_most 1 _ (omega arith)
comment_at_most above b = some_at_most 1 _ (omega arith)
comment_at_most single b = some_at_most 1 _ (omega arith)
comment_at_most other b = some_at_most 1 _ (omega arith)

star_at_most : (k : Kind) (b : ℕ) → AtMost 1 (step after_star k b)
star_at_most letter b = some_at_most 1 _ (omega arith)
star_at_most space b = some_at_most 1 _ (omega arith)
star_at_most star b = some_at_most 1 _ (omega arith)
star_at_most slash b = some_at_most 1 _ (omega arith)
star_at_most equals b = some_at_most 1 _ (omega arith)
star_at_most dash b = some_at_most 1 _ (omega arith)
star_at_most above b = some_at_most 1 _ (omega arith)
star_at_most single b = some_at_most 1 _ (omega arith)
star_at_most other b = some_at_most 1 _ (omega arith)

-- a byte adds one token at most
step_at_most : (m : Mode) (k : Kind) (b : ℕ) → AtMost (1 + begun m) (step m k b)
step_at_most between k b = begin_at_most k b
step_at_most (in_word w) k b = in_word_at_most w k b
step_at_most after_equals k b = equals_at_most k b
step_at_most after_dash k b = dash_at_most k b
step_at_most after_slash k b = slash_at_most k b
step_at_most in_comment k b = comment_at_most k b
step_at_most after_star k b = star_at_most k b

read_at_most : (bs : List ℕ) (m : Mode) → AtMost (length bs + begun m) (read bs m)
unfolding read
read_at_most [] m x e = some_at_most (length {A = ℕ} [] + begun m) ([], m) (omega arith) x e
read_at_most (b ∷ bs) m x e =
    let s = bind_some (λ (s : Read). option_map (put s.0) (read bs s.1)) (step m (kind b) b) x e in
    let t = map_some (put s.0.0) (read bs s.0.1) x s.2 in
    let first = step_at_most m (kind b) b s.0 s.1 in
    let rest = read_at_most bs s.0.1 t.0 t.1 in
    let same : length (s.0.0 ++ t.0.0) + begun t.0.1 ≡ length x.0 + begun x.1 =
    ap (λ (r : Read). length r.0 + begun r.1) t.2 in
    omega (arith, first, rest, same, length-append s.0.0 t.0.0)

last_at_most : (m : Mode) (last : List Token) → ends m ≡ Some last → length last ≤ begun m
last_at_most between last e = let same = some_is [] last e in omega (arith, ap length same)
last_at_most (in_word w) last e = let same = some_is (word w ∷ []) last e in omega (arith, ap length same)
last_at_most after_equals last e = let same = some_is (mark 61 ∷ []) last e in omega (arith, ap length same)
last_at_most after_dash last e = let same = some_is (mark 45 ∷ []) last e in omega (arith, ap length same)
last_at_most after_slash last e = absurd cc
last_at_most in_comment last e = absurd cc
last_at_most after_star last e = absurd cc

pub tokens_fewer : (text : List ℕ) (tokens : List Token) → tokens_of text ≡ Some tokens → length tokens ≤ length text
tokens_fewer text tokens e =
    let s = bind_some (λ (s : Read). option_map (λ last. s.0 ++ last) (ends s.1)) (read text between) tokens e in
    let t = map_some (λ last. s.0.0 ++ last) (ends s.0.1) tokens s.2 in
    let all = read_at_most text between s.0 s.1 in
    let last = last_at_most s.0.1 t.0 t.1 in
    omega (arith, all, last, ap length t.2, length-append s.0.0 t.0)
