-- The readers of argument sets and of the decoder's union (the C subset, docs/C_SUBSET.md).
use Rattle.std.specs.Prelude.{ℕ, nat_eq, not, Bool, true, false, List, [], ◌∷◌, codes}
use Rattle.std.specs.Cmp.Lexicographic.{pointwise}
use Rattle.dt_values.specs.Types.{type_of}
use Rattle.dt_values.specs.declared.ctype.Member.{Member}
use Rattle.dt_values.specs.declared.set.SetDef.{SetDef}
use Rattle.c_tokens.specs.Tokens.{Token, word}
use Rattle.c_tokens.specs.Marks.{open_brace, close_brace, semicolon}
use Rattle.c_tokens.specs.Parsing.{Parse, begins, behind, closed, both, made, guarded, many, found}
use Rattle.c_tokens.specs.Front.{name_at, name_behind_at}
use Rattle.c_subset.specs.Programs.{Name}

-- arg_S
unfoldable pub arg_at : Parse Name
arg_at = name_behind_at (codes "arg_")

-- what stands between braces goes on until one closes
unfoldable pub is_inside : List Token → Bool
is_inside ts = not (begins (close_brace ∷ []) ts)

abbrev pub member_of : Name × Name → Member
member_of x = record { ctype = type_of x.0; name = x.1 }

-- TYPE NAME;
unfoldable pub member_at : Parse Member
member_at = made member_of (both name_at (closed name_at (semicolon ∷ [])))

abbrev pub set_open : List Token
set_open = word (codes "typedef") ∷ word (codes "struct") ∷ open_brace ∷ []

abbrev pub set_of : List Member × Name → SetDef
set_of x = record { name = x.1; members = x.0; outside = false }

-- typedef struct { .. } arg_S;
unfoldable pub set_at : Parse SetDef
set_at =
    made set_of
    (behind set_open (both (closed (many is_inside member_at) (close_brace ∷ [])) (closed arg_at (semicolon ∷ []))))

unfoldable pub starts_set : List Token → Bool
starts_set ts = begins set_open ts

unfoldable pub sets_at : Parse (List SetDef)
sets_at = many starts_set set_at

abbrev pub same_names : Name × Name → Bool
same_names x = pointwise nat_eq x.0 x.1

abbrev pub first_name : Name × Name → Name
first_name x = x.0

-- arg_S f_S; with one name twice
unfoldable pub union_set_at : Parse Name
union_set_at =
    made first_name (guarded same_names (both arg_at (closed (name_behind_at (codes "f_")) (semicolon ∷ []))))

abbrev pub union_open : List Token
union_open = word (codes "union") ∷ open_brace ∷ []

abbrev pub union_close : List Token
union_close = close_brace ∷ word (codes "u") ∷ semicolon ∷ []

-- union { .. } u; where there is a pattern
unfoldable pub union_at : Bool → Parse (List Name)
union_at false = found []
union_at true = behind union_open (closed (many is_inside union_set_at) union_close)
