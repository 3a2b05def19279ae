-- One line more of those that entries are.
use Rattle.std.proofs.Common.{◌≡◌, ℕ, List, [], ◌∷◌, ◌++◌, ◌-◌, length, map, refl, Some, arith, ◌+◌, ap, ◌∙◌, sym, rules, append_assoc}
use Rattle.std.proofs.lemmas.List.{append-nil, map_push, length_push, get_or_push}
use Rattle.std.proofs.lemmas.Option.{slice_get-get_or}
use Rattle.std.specs.Option.{option_map}
use Rattle.dt_scope.specs.declared.kind.Kind.{Kind}
use Rattle.dt_scope.specs.declared.kind.Opening.{Opening}
use Rattle.dt_scope.specs.declared.kind.Kind.TheVariants.{Brace, Bracket}
use Rattle.dt_model.specs.declared.entry.Entry.{Entry, One, Overlap, Exclusive, the_lemmas}
use Rattle.dt_model.specs.declared.entry.Group.{Group}
use Rattle.dt_scope.specs.declared.groups.Open.{Open}
use Rattle.dt_model.specs.Trees.{one, overlap, exclusive, cluster, Items, item_of, items_of}
use Rattle.dt_scope.specs.Marks.{grouped, Mark, opens, closes, pattern_mark, spelled, spelled_item}
use Rattle.dt_scope.specs.Groups.{innermost, innermost_kind, spelled_open, spelled_groups}

pub view_one : (n : ℕ) → item_of (One n) ≡ one n
view_one n = search (rules, the_lemmas)

pub view_overlap : (g : Group) → item_of (Overlap g) ≡ overlap (cluster g.file g.line (items_of g.entries.items))
view_overlap g = search (rules, the_lemmas)

pub view_exclusive : (g : Group) → item_of (Exclusive g) ≡ exclusive (cluster g.file g.line (items_of g.entries.items))
view_exclusive g = search (rules, the_lemmas)

pub spelled_push : (es : List Entry) (e : Entry)
    → spelled (items_of (es ++ e ∷ [])) ≡ spelled (items_of es) ++ spelled_item (item_of e)
spelled_push [] e = append-nil (spelled_item (item_of e))
spelled_push (x ∷ es) e = ap (λ ms. spelled_item (item_of x) ++ ms) (spelled_push es e)
    ∙ sym (append_assoc (spelled_item (item_of x)) (spelled (items_of es)) (spelled_item (item_of e)))

pub groups_push : (os : List Open) (o : Open) → spelled_groups (os ++ o ∷ []) ≡ spelled_groups os ++ spelled_open o
groups_push [] o = append-nil (spelled_open o)
groups_push (x ∷ os) o = ap (λ ms. spelled_open x ++ ms) (groups_push os o)
    ∙ sym (append_assoc (spelled_open x) (spelled_groups os) (spelled_open o))

pub spelled_grouped : (kind : Kind) (file line : ℕ) (is : Items)
    → spelled_item (grouped kind file line is) ≡ opens kind file line ∷ (spelled is ++ closes kind ∷ [])
spelled_grouped Brace file line is = refl
spelled_grouped Bracket file line is = refl

-- a group is opened
pub opened : (os now : List Open) (o : Open) (es left : List Entry) → now ≡ os ++ o ∷ [] → o.before.items ≡ es
    → left ≡ []
    → spelled_groups now ++ spelled (items_of left) ≡ (spelled_groups os ++ spelled (items_of es))
    ++ opens o.opening.kind o.opening.file o.opening.line ∷ []
opened os now o es left e f none =
    ap (λ xs. spelled_groups now ++ spelled (items_of xs)) none
    ∙ append-nil (spelled_groups now)
    ∙ ap spelled_groups e
    ∙ groups_push os o
    ∙ ap (λ xs. spelled_groups os ++ (spelled (items_of xs) ++ opens o.opening.kind o.opening.file o.opening.line ∷ []))
    f
    ∙ sym (append_assoc (spelled_groups os) (spelled (items_of es))
    (opens o.opening.kind o.opening.file o.opening.line ∷ []))

-- a group is closed
pub closed : (os was : List Open) (o : Open) (inner now : List Entry) (e : Entry) (kind : Kind) → was ≡ os ++ o ∷ []
    → now ≡ o.before.items ++ e ∷ [] → item_of e ≡ grouped kind o.opening.file o.opening.line (items_of inner)
    → o.opening.kind ≡ kind
    → spelled_groups os ++ spelled (items_of now) ≡ (spelled_groups was ++ spelled (items_of inner)) ++ closes kind ∷ []
closed os was o inner now e kind w n i k =
    let before : List Mark = spelled (items_of o.before.items) in
    let mark : List Mark = opens kind o.opening.file o.opening.line ∷ [] in
    let body : List Mark = spelled (items_of inner) in
    let end : List Mark = closes kind ∷ [] in
    ap (λ xs. spelled_groups os ++ spelled (items_of xs)) n
    ∙ ap (λ ms. spelled_groups os ++ ms) (spelled_push o.before.items e)
    ∙ ap (λ x. spelled_groups os ++ (before ++ spelled_item x)) i
    ∙ ap (λ ms. spelled_groups os ++ (before ++ ms))
    (spelled_grouped kind o.opening.file o.opening.line (items_of inner))
    ∙ ap (λ ms. spelled_groups os ++ ms) (sym (append_assoc before mark (body ++ end)))
    ∙ sym (append_assoc (spelled_groups os) (before ++ mark) (body ++ end))
    ∙ sym (ap (λ ms. (spelled_groups os ++ (before ++ opens ms o.opening.file o.opening.line ∷ [])) ++ (body ++ end)) k)
    ∙ sym (ap (λ ms. ms ++ (body ++ end)) (ap spelled_groups w ∙ groups_push os o))
    ∙ sym (append_assoc (spelled_groups was) body end)

last_of : (ks : List Opening) (k : Opening) → innermost (ks ++ k ∷ []) ≡ Some k
last_of ks k =
    let long : length (ks ++ k ∷ []) ≡ length ks + 1 = length_push ks k in
    slice_get-get_or (ks ++ k ∷ []) (length (ks ++ k ∷ []) - 1) k (omega arith)
    ∙ ap Some (get_or_push ks k k (length (ks ++ k ∷ []) - 1) (omega arith))

some_same : {x y : Kind} → Some x ≡ Some y → x ≡ y
some_same h = cc

innermost_of : (os was : List Open) (o : Open) → was ≡ os ++ o ∷ []
    → innermost (map (λ x. x.opening) was) ≡ Some o.opening
innermost_of os was o e = ap (λ xs. innermost (map (λ x. x.opening) xs)) e
    ∙ ap innermost (map_push (λ x. x.opening) os o) ∙ last_of (map (λ x. x.opening) os) o.opening

pub same_kind : (os was : List Open) (o : Open) (kind : Kind) → was ≡ os ++ o ∷ []
    → innermost_kind (map (λ x. x.opening) was) ≡ Some kind → o.opening.kind ≡ kind
same_kind os was o kind e h = some_same (sym (ap (option_map (λ x. x.kind)) (innermost_of os was o e)) ∙ h)

-- a pattern is added
pub pattern_added : (os : List Open) (es now : List Entry) (n : ℕ) → now ≡ es ++ One n ∷ []
    → spelled_groups os ++ spelled (items_of now) ≡ (spelled_groups os ++ spelled (items_of es)) ++ pattern_mark n ∷ []
pattern_added os es now n e =
    ap (λ xs. spelled_groups os ++ spelled (items_of xs)) e
    ∙ ap (λ ms. spelled_groups os ++ ms) (spelled_push es (One n)
    ∙ ap (λ x. spelled (items_of es) ++ spelled_item x) (view_one n))
    ∙ sym (append_assoc (spelled_groups os) (spelled (items_of es)) (pattern_mark n ∷ []))

no_groups : (os : List Open) → map (λ o. o.opening) os ≡ [] → spelled_groups os ≡ []
no_groups [] h = refl
no_groups (o ∷ os) h = absurd (let e : length (o.opening ∷ map (λ x. x.opening) os) ≡ 0 = ap length h in omega arith)

-- where no group is open, the entries are all
pub all_closed : (os : List Open) (es : List Entry) → map (λ o. o.opening) os ≡ []
    → spelled (items_of es) ≡ spelled_groups os ++ spelled (items_of es)
all_closed os es h = sym (ap (λ ms. ms ++ spelled (items_of es)) (no_groups os h))
