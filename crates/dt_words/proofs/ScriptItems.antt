-- The items of a script one by one.
use Rattle.std.proofs.Common.{◌≡◌, ℕ, Bool, false, ◌&&◌, List, [], ◌∷◌, ◌++◌, map, Option, Some, None, is_some}
use Rattle.std.proofs.Common.{refl, ap, sym, ◌∙◌, append_assoc, if◌then◌else◌}
use Rattle.std.specs.Prelude.{codes}
use Rattle.std.specs.List.{list_all}
use Rattle.std.specs.Option.{option_map}
use Rattle.dt_values.specs.Types.{is_text}
use Rattle.dt_host.specs.declared.script.Answer.{Answer}
use Rattle.dt_words.specs.Scripts.{all_read, answers_in, item_of, item_texts, lists_of, outcomes_in, script_of, with_first}
use Rattle.dt_words.specs.declared.script.Item.{Item}
use Rattle.dt_words.specs.declared.script.Item.TheVariants as item

-- the lists of these items, behind others
abbrev pub behind : List Bool → List Answer → List Item → List Bool × List Answer
behind outcomes answers items = (outcomes ++ outcomes_in items, answers ++ answers_in items)

pub behind_none : (items : Option (List Item)) → option_map (behind [] []) items ≡ option_map lists_of items
behind_none None = refl
behind_none (Some items) = refl

pub behind_outcome : (outcomes : List Bool) (answers : List Answer) (outcome : Bool) (more : Option (List Item))
    → option_map (behind outcomes answers) (with_first (Some (item.Outcome outcome)) more)
    ≡ option_map (behind (outcomes ++ outcome ∷ []) answers) more
behind_outcome outcomes answers outcome None = refl
behind_outcome outcomes answers outcome (Some items) =
    ap (λ kept. Some (kept, answers ++ answers_in items)) (sym (append_assoc outcomes (outcome ∷ []) (outcomes_in items)))

pub behind_answer : (outcomes : List Bool) (answers : List Answer) (answer : Answer) (more : Option (List Item))
    → option_map (behind outcomes answers) (with_first (Some (item.Answer answer)) more)
    ≡ option_map (behind outcomes (answers ++ answer ∷ [])) more
behind_answer outcomes answers answer None = refl
behind_answer outcomes answers answer (Some items) =
    ap (λ replies. Some (outcomes ++ outcomes_in items, replies)) (sym (append_assoc answers (answer ∷ []) (answers_in items)))

some_first : {A : Type 0} (a : Option A) (more : Option (List A))
    → is_some (with_first a more) ≡ (is_some a && is_some more)
some_first None more = refl
some_first (Some a) None = refl
some_first (Some a) (Some rest) = refl

-- all can be read where each can
pub each_read : {A : Type 0} (read : List ℕ → Option A) (texts : List (List ℕ))
    → is_some (all_read (map read texts)) ≡ list_all (λ text. is_some (read text)) texts
each_read read [] = refl
each_read read (text ∷ texts) =
    some_first (read text) (all_read (map read texts)) ∙ ap (λ b. is_some (read text) && b) (each_read read texts)

-- a text that isn't a dash is a script where each item can be read
pub is_read : (text : List ℕ) (each : Bool) → is_text text (codes "-") ≡ false
    → each ≡ list_all (λ item. is_some (item_of item)) (item_texts text) → each ≡ is_some (script_of text)
is_read text each no_dash is =
    is
    ∙ sym (each_read item_of (item_texts text))
    ∙ ap (λ dash. is_some (if dash then Some [] else all_read (map item_of (item_texts text)))) (sym no_dash)
