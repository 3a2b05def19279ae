-- The rules of set lines, `&name` and its tokens, mostly as scripts/decodetree.py checks them. Their order is this
-- project's, and so are the limit, A4 and the patterns' names of A3.
use Rattle.std.specs.Prelude.{ℕ, ◌||◌, Bool, true, false, List, [], ◌∷◌, ◌++◌, length, drop, is_some, nat_le}
use Rattle.std.specs.List.{list_any}
use Rattle.dt_values.specs.Types.{is_text}
use Rattle.dt_values.specs.Members.{has_member}
use Rattle.dt_fields.specs.declared.rule.Rule.TheVariants as rule
use Rattle.dt_values.specs.declared.set.SetDef.{SetDef}
use Rattle.dt_values.specs.declared.set.TheConstants.{MOST_ARGUMENTS}
use Rattle.dt_fields.specs.CNames.{is_keyword}
use Rattle.dt_fields.specs.Faults.{Broken, where_broken, token, named}
use Rattle.dt_fields.specs.Heads.{begins}
use Rattle.dt_values.specs.SetsByName.{set_at}
use Rattle.dt_fields.specs.SetTokens.{SetToken, outside_mark, argument, other, set_token}

abbrev pub empty_set : List ℕ → SetDef
empty_set name = record { name = name; members = []; outside = false }

-- a token adds an argument or the mark to what the tokens before it have made
abbrev pub set_with_token : SetDef → SetToken → SetDef
set_with_token set outside_mark = record { name = set.name; members = set.members; outside = true }
set_with_token set (argument m) = record { name = set.name; members = set.members ++ m ∷ []; outside = set.outside }
set_with_token set other = set

abbrev pub set_with_tokens : SetDef → List (List ℕ) → SetDef
set_with_tokens set [] = set
set_with_tokens set (t ∷ ts) = set_with_tokens (set_with_token set (set_token t)) ts

-- the set of this name and these tokens
abbrev pub set_of : List ℕ → List (List ℕ) → SetDef
set_of name tokens = set_with_tokens (empty_set name) tokens

abbrev pub is_no_form : SetToken → Bool
is_no_form outside_mark = false
is_no_form (argument m) = false
is_no_form other = true

abbrev pub is_named_as_keyword : SetToken → Bool
is_named_as_keyword outside_mark = false
is_named_as_keyword (argument m) = is_keyword m.name
is_named_as_keyword other = false

abbrev pub is_named_before : SetDef → SetToken → Bool
is_named_before before outside_mark = false
is_named_before before (argument m) = has_member before.members m.name
is_named_before before other = false

abbrev pub is_past_last : SetDef → SetToken → Bool
is_past_last before outside_mark = false
is_past_last before (argument m) = nat_le MOST_ARGUMENTS (length before.members)
is_past_last before other = false

-- a set has the name, or a pattern
abbrev pub is_taken : List SetDef → List (List ℕ) → List ℕ → Bool
is_taken sets patterns name = is_some (set_at sets name) || list_any (is_text name) patterns

-- the rules of a token, behind those before it
abbrev pub set_token_rows : SetDef → List ℕ → SetToken → List Broken
set_token_rows before text t =
    where_broken (is_no_form t) (rule.A1, token text)
    ++ (where_broken (is_named_as_keyword t) (rule.A4, token text)
    ++ (where_broken (is_named_before before t) (rule.A2, token text)
    ++ where_broken (is_past_last before t) (rule.A5, token text)))

-- those of all tokens, in order
abbrev pub set_token_faults : SetDef → List (List ℕ) → List Broken
set_token_faults before [] = []
set_token_faults before (t ∷ ts) =
    set_token_rows before t (set_token t) ++ set_token_faults (set_with_token before (set_token t)) ts

-- the rule of the whole line
abbrev pub whole_set_faults : List SetDef → List (List ℕ) → List ℕ → List Broken
whole_set_faults sets patterns name = where_broken (is_taken sets patterns name) (rule.A3, named name)

-- the rules that the line of this name and these tokens breaks, in order
abbrev pub set_faults : List SetDef → List (List ℕ) → List ℕ → List (List ℕ) → List Broken
set_faults sets patterns name tokens = set_token_faults (empty_set name) tokens ++ whole_set_faults sets patterns name

-- the first of these tokens is `&` and a name
abbrev pub begins_set : List (List ℕ) → Bool
begins_set tokens = begins 38 tokens

-- the rules that a set line with these tokens breaks, in order: it sees the sets and the patterns' names before it
abbrev pub set_line_faults : List SetDef → List (List ℕ) → List (List ℕ) → List Broken
set_line_faults sets patterns [] = []
set_line_faults sets patterns (t ∷ ts) = set_faults sets patterns (drop 1 t) ts

-- the set that it defines
abbrev pub line_set : List (List ℕ) → SetDef
line_set [] = empty_set []
line_set (t ∷ ts) = set_of (drop 1 t) ts
