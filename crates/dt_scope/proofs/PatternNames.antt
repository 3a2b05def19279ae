-- The names of patterns, one pattern more at a time.
use Rattle.std.proofs.Common.{◌≡◌, ℕ, ◌||◌, nat_eq, List, [], ◌∷◌, ◌++◌, ap, sym, ◌∙◌}
use Rattle.std.specs.List.{list_any}
use Rattle.std.specs.Cmp.Lexicographic.{pointwise}
use Rattle.indexmap.specs.IndexSet.{insert_key}
use Rattle.dt_values.specs.Types.{is_text}
use Rattle.dt_fields.proofs.AmongNames.{among-insert_key, among_push}
use Rattle.dt_scope.specs.Names.{IsSetOf}

-- a name more
pub set_more : (names keys more : List (List ℕ)) (n : List ℕ) → more ≡ insert_key (pointwise nat_eq) keys n
    → IsSetOf names keys → IsSetOf (names ++ n ∷ []) more
set_more names keys more n is same x =
    ap (list_any (is_text x)) is ∙ among-insert_key keys n x ∙ ap (λ b. b || is_text x n) (same x)
    ∙ sym (among_push names n x)
