-- The reader of patterns: of their typedefs and prototypes (the C subset, docs/C_SUBSET.md).
use Rattle.std.specs.Prelude.{ℕ, nat_eq, ◌&&◌, Bool, true, false, List, [], ◌∷◌, ◌++◌, Option, Some, None, codes}
use Rattle.std.specs.Bool.{beq}
use Rattle.std.specs.Cmp.Lexicographic.{pointwise}
use Rattle.c_tokens.specs.Tokens.{Token, word}
use Rattle.c_tokens.specs.Marks.{open_round, close_round, semicolon, comma, asterisk}
use Rattle.c_tokens.specs.Parsing.{Parse, begins, behind, closed, then_each, both, made, choose, guarded, many, found}
use Rattle.c_tokens.specs.Parsing.{word_as}
use Rattle.c_tokens.specs.WordParsing.{name_before}
use Rattle.c_subset.specs.Programs.{Name, Pattern, Prefix}
use Rattle.c_subset.specs.SetParsing.{arg_at, same_names}

abbrev pub static_word : List Token
static_word = word (codes "static") ∷ []

-- static, or nothing
unfoldable pub static_at : Parse Bool
static_at = choose (begins static_word) (behind static_word (found true)) (found false)

abbrev pub bool_word : List Token
bool_word = word (codes "bool") ∷ []

-- (DisasContext *ctx,
abbrev pub context_run : List Token
context_run = open_round ∷ word (codes "DisasContext") ∷ asterisk ∷ word (codes "ctx") ∷ comma ∷ []

abbrev pub typedef_word : List Token
typedef_word = word (codes "typedef") ∷ []

abbrev pub typedef_of : Name × Name → Pattern
typedef_of x = record { name = x.1; set = x.0 }

-- typedef arg_S arg_NAME;
unfoldable pub typedef_at : Parse Pattern
typedef_at = made typedef_of (behind typedef_word (both arg_at (closed arg_at (semicolon ∷ []))))

abbrev pub prototype_close : List Token
prototype_close = asterisk ∷ word (codes "a") ∷ close_round ∷ semicolon ∷ []

-- (DisasContext *ctx, arg_NAME *a);
unfoldable pub parameters_at : Parse Name
parameters_at = behind context_run (closed arg_at prototype_close)

-- whether a prototype is static, the prefix of its function, and the name of its parameter's struct
abbrev pub Prototype : Type 0
Prototype = Bool × (Name × Name)

abbrev pub is_prototype_of : Name → Prototype → Bool
is_prototype_of name x = same_names (name, x.1.1)

abbrev pub prototype_prefix : Prototype → Prefix
prototype_prefix x = record { name = x.1.0; is_static = x.0 }

-- [static ]bool P_NAME(DisasContext *ctx, arg_NAME *a); of which the name is known
unfoldable pub prototype_at : Name → Parse Prefix
prototype_at name =
    made prototype_prefix
    (guarded (is_prototype_of name)
    (both static_at (behind bool_word (both (word_as (name_before (codes "_" ++ name))) parameters_at))))

-- a pattern, and the prefix of its prototype
unfoldable pub prefixed_at : Parse (Pattern × Prefix)
prefixed_at = then_each typedef_at (λ p. prototype_at p.name)

abbrev pub same_prefix : Prefix → Prefix → Bool
same_prefix a b = beq a.is_static b.is_static && pointwise nat_eq a.name b.name

abbrev pub has_prefix : Prefix → Pattern × Prefix → Bool
has_prefix prefix x = same_prefix prefix x.1

abbrev pub only_pattern : Pattern × Prefix → Pattern
only_pattern x = x.0

-- a pattern whose prototype has this prefix
unfoldable pub pattern_at : Prefix → Parse Pattern
pattern_at prefix = made only_pattern (guarded (has_prefix prefix) prefixed_at)

unfoldable pub starts_pattern : List Token → Bool
starts_pattern ts = begins typedef_word ts

abbrev pub put_first : Pattern → List Pattern → List Pattern
put_first p ps = p ∷ ps

abbrev pub with_first : (Pattern × Prefix) × List Pattern → Option Prefix × List Pattern
with_first x = (Some x.0.1, x.0.0 ∷ x.1)

-- patterns, at least one: the first tells the prefix
unfoldable pub some_patterns_at : Parse (Option Prefix × List Pattern)
some_patterns_at = made with_first (then_each prefixed_at (λ x. many starts_pattern (pattern_at x.1)))

-- patterns with their one prefix, and none without a pattern
unfoldable pub patterns_at : Parse (Option Prefix × List Pattern)
patterns_at = choose starts_pattern some_patterns_at (found (None, []))
