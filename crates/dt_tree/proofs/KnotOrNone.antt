-- Exclusive lists of entries in order are parted, or they have a first knot.
use Rattle.std.proofs.Common.{◌≡◌, List, [], ◌⊎◌, Option, Some, None, inl, inr, map}
use Rattle.std.specs.Prelude.{AllPairs}
use Rattle.dt_lines.specs.declared.line.Position.{Position}
use Rattle.dt_model.specs.Patterns.{FlatPattern}
use Rattle.dt_model.specs.Sound.{IsEarlier, positions_of}
use Rattle.dt_model.specs.Trees.{Items}
use Rattle.dt_model.specs.View.{pattern_seen}
use Rattle.dt_model.specs.declared.pattern.Pattern.{Pattern}
use Rattle.dt_tree.specs.Answers.{IsAnswerIn}
use Rattle.dt_tree.specs.EmptyGroups.{empty_groups}
use Rattle.dt_tree.specs.Entries.{exclusive_lists}
use Rattle.dt_tree.specs.Knots.{AreParted, IsFirstKnotIn}
use Rattle.dt_tree.proofs.Building.{first_found}
use Rattle.dt_tree.proofs.Filled.{every_filled}
use Rattle.dt_tree.proofs.Order.{items_positions, order_seen}
use Rattle.dt_tree.proofs.Rising.{all_rising}
use Rattle.dt_tree.proofs.SomeFirstKnot.{some_answer}

by_found : (patterns : List FlatPattern) (is : Items) (found : Option (List Position))
    → AllPairs IsEarlier (items_positions patterns is) → IsAnswerIn patterns (exclusive_lists is) found
    → AreParted patterns (exclusive_lists is)
    ⊎ ((shown : List Position) × IsFirstKnotIn patterns (exclusive_lists is) shown)
by_found patterns is None up answer = inl answer
by_found patterns is (Some shown) up answer =
    inr (shown, first_found patterns (exclusive_lists is) shown (all_rising patterns is up) answer)

pub some_first_knot : (patterns : List Pattern) (is : Items) → AllPairs IsEarlier (positions_of patterns is)
    → empty_groups is ≡ []
    → AreParted (map pattern_seen patterns) (exclusive_lists is)
    ⊎ ((shown : List Position) × IsFirstKnotIn (map pattern_seen patterns) (exclusive_lists is) shown)
some_first_knot patterns is up none =
    let answer = some_answer (map pattern_seen patterns) (exclusive_lists is) (every_filled is none) in
    by_found (map pattern_seen patterns) is answer.0 (order_seen patterns is up) answer.1
