-- What a script word says: the outcomes of calls and the answers of functions, as items between commas.
use Rattle.std.specs.Prelude.{ℕ, ◌-◌, ◌^◌, ◌==◌, ◌&&◌, Bool, true, false, nat_lt, nat_le, List, [], ◌∷◌, length, take, drop}
use Rattle.std.specs.Prelude.{map, filter_map, Option, Some, None, option_map, ℤ, pos, neg_ℤ, codes, if◌then◌else◌}
use Rattle.std.specs.List.{list_all, slice_split}
use Rattle.dt_values.specs.Types.{is_text}
use Rattle.dt_values.specs.Names.{is_name}
use Rattle.dt_host.specs.declared.script.Answer.{Answer}
use Rattle.dt_words.specs.Numbers.{is_digit, number_of, value}
use Rattle.dt_words.specs.declared.script.Item.{Item}
use Rattle.dt_words.specs.declared.script.Item.TheVariants as item

-- the number that these decimal digits are, if there is a digit and the number is at most so large
abbrev pub decimal_up_to : ℕ → List ℕ → Option ℕ
decimal_up_to most digits =
    if nat_lt 0 (length digits) && (list_all (is_digit 10) digits && nat_le (value 10 digits) most)
    then Some (value 10 digits)
    else None

-- the integer that is so much below 0
abbrev pub negative : ℕ → ℤ
negative n = neg_ℤ (pos n)

-- decimal digits, with a dash before them where the integer is negative; from -2^31 to 2^31 - 1
abbrev pub integer_of : List ℕ → Option ℤ
integer_of text =
    if is_text (take 1 text) (codes "-") then option_map negative (decimal_up_to (2 ^ 31) (drop 1 text))
    else option_map pos (decimal_up_to (2 ^ 31 - 1) text)

-- the name that a text is
abbrev pub name_of : List ℕ → Option (List ℕ)
name_of text = if is_name text then Some text else None

-- what a function is asked with: a dash stands for no argument
abbrev pub argument_of : List ℕ → Option (Option ℤ)
argument_of text = if is_text text (codes "-") then Some None else option_map Some (integer_of text)

-- an answer, where each of its parts can be read
abbrev pub answer_from : Option ℕ → Option (List ℕ) → Option (Option ℤ) → Option ℤ → Option Answer
answer_from (Some calls) (Some function) (Some arg) (Some answer) =
    Some (record { calls = calls; function = function; arg = arg; answer = answer })
answer_from calls function arg answer = None

-- an answer's parts are four: the number of calls before it, the function, its argument, and the answer
abbrev pub answer_in : List (List ℕ) → Option Answer
answer_in (calls ∷ function ∷ arg ∷ answer ∷ []) =
    answer_from (number_of calls) (name_of function) (argument_of arg) (integer_of answer)
answer_in parts = None

abbrev pub is_colon : ℕ → Bool
is_colon b = b == 58

-- an answer, with its parts between colons
abbrev pub answer_of : List ℕ → Option Answer
answer_of text = answer_in (slice_split is_colon text)

-- an item: the outcome true, the outcome false, or an answer
abbrev pub item_of : List ℕ → Option Item
item_of text =
    if is_text text (codes "t") then Some (item.Outcome true)
    else if is_text text (codes "f") then Some (item.Outcome false)
    else option_map item.Answer (answer_of text)

abbrev pub is_comma : ℕ → Bool
is_comma b = b == 44

-- the texts of the items, between commas
abbrev pub item_texts : List ℕ → List (List ℕ)
item_texts text = slice_split is_comma text

-- one more in front, where both can be read
abbrev pub with_first : {A : Type 0} → Option A → Option (List A) → Option (List A)
with_first None more = None
with_first (Some a) more = option_map (λ rest. a ∷ rest) more

-- all of these, where each can be read
abbrev pub all_read : {A : Type 0} → List (Option A) → Option (List A)
all_read [] = Some []
all_read (a ∷ more) = with_first a (all_read more)

-- the items of a script; a dash alone is the script with none
abbrev pub script_of : List ℕ → Option (List Item)
script_of text = if is_text text (codes "-") then Some [] else all_read (map item_of (item_texts text))

-- the outcome that an item is, if it is one
abbrev pub outcome_in : Item → Option Bool
outcome_in (item.Outcome outcome) = Some outcome
outcome_in (item.Answer answer) = None

-- the answer that an item is, if it is one
abbrev pub reply_in : Item → Option Answer
reply_in (item.Outcome outcome) = None
reply_in (item.Answer answer) = Some answer

-- the outcomes in order
abbrev pub outcomes_in : List Item → List Bool
outcomes_in items = filter_map outcome_in items

-- the answers in order
abbrev pub answers_in : List Item → List Answer
answers_in items = filter_map reply_in items

-- the outcomes and the answers of these items
abbrev pub lists_of : List Item → List Bool × List Answer
lists_of items = (outcomes_in items, answers_in items)
