-- What lists of patterns fix alike.
use Rattle.std.proofs.Common.{◌≡◌, ℕ, ◌+◌, ◌<◌, List, [], ◌∷◌, ◌++◌, length, map, take, get_or, Option, refl, ap, ◌∙◌, sym, subst, append_assoc, arith, inl, inr}
use Rattle.std.specs.Prelude.{Contains}
use Rattle.std.specs.Int.{bit_at}
use Rattle.std.proofs.lemmas.List.{append-nil, take_more, map-append}
use Rattle.std.proofs.lemmas.List.Elements.{Contains-append_cases, Contains-append_left, Contains-append_right, Contains-push_cases}
use Rattle.dt_model.specs.Patterns.{FlatPattern}
use Rattle.dt_model.specs.declared.entry.Entry.{Entry}
use Rattle.dt_model.specs.Trees.{item_of, items_of, numbers_in, numbers_of}
use Rattle.dt_tree.specs.declared.fixed.FixedBits.{FixedBits}
use Rattle.dt_tree.specs.Entries.{below, pattern_at}
use Rattle.dt_tree.specs.Knots.{FixesTo}
use Rattle.dt_tree.specs.Commons.{IsCommon, IsCommonOf, IsJoin}

pub none_common : (o : Option FixedBits) (xs ys : List FlatPattern) → xs ≡ [] → IsCommonOf o ys
    → IsCommonOf o (xs ++ ys)
none_common o xs ys none h = subst (λ (zs : List FlatPattern). IsCommonOf o zs) (sym (ap (λ zs. zs ++ ys) none)) h

pub common_none : (o : Option FixedBits) (xs ys : List FlatPattern) → IsCommonOf o xs → ys ≡ []
    → IsCommonOf o (xs ++ ys)
common_none o xs ys h none = subst (λ (zs : List FlatPattern). IsCommonOf o zs)
    (sym (ap (λ zs. xs ++ zs) none ∙ append-nil xs)) h

pub common_both : (p q r : FlatPattern) (xs ys : List FlatPattern) → IsCommon p xs → IsCommon q ys → IsJoin p q r
    → IsCommon r (xs ++ ys)
common_both p q r xs ys a b j = record {
  says = λ n v all. j.says n v
      (a.says n v (record { each = λ x h. all.each x (Contains-append_left xs ys x h) }))
      (b.says n v (record { each = λ x h. all.each x (Contains-append_right xs ys x h) }));
  known = λ n v f. record {
    each = λ x h. elim (Contains-append_cases xs ys x h) [
      | inl k ↦ (a.known n v (j.first n v f)).each x k
      | inr k ↦ (b.known n v (j.second n v f)).each x k
    ];
  };
}

numbers_push : (es : List Entry) (e : Entry)
    → numbers_of (items_of (es ++ e ∷ [])) ≡ numbers_of (items_of es) ++ numbers_in (item_of e)
numbers_push [] e = append-nil (numbers_in (item_of e))
numbers_push (x ∷ es) e = ap (λ ns. numbers_in (item_of x) ++ ns) (numbers_push es e)
    ∙ sym (append_assoc (numbers_in (item_of x)) (numbers_of (items_of es)) (numbers_in (item_of e)))

-- the patterns below one entry more
pub below_more : (patterns : List FlatPattern) (es : List Entry) (i : ℕ) (e d : Entry) → i < length es
    → e ≡ get_or es i d
    → map (pattern_at patterns) (numbers_of (items_of (take (i + 1) es)))
    ≡ map (pattern_at patterns) (numbers_of (items_of (take i es))) ++ below patterns (item_of e)
below_more patterns es i e d h is =
    ap (λ xs. map (pattern_at patterns) (numbers_of (items_of xs))) (take_more es i d h
    ∙ ap (λ x. take i es ++ x ∷ []) (sym is))
    ∙ ap (map (pattern_at patterns)) (numbers_push (take i es) e)
    ∙ map-append (pattern_at patterns) (numbers_of (items_of (take i es))) (numbers_in (item_of e))

pub common_more : (patterns : List FlatPattern) (es : List Entry) (i : ℕ) (e d : Entry) (now : Option FixedBits)
    → i < length es → e ≡ get_or es i d
    → IsCommonOf now (map (pattern_at patterns) (numbers_of (items_of (take i es))) ++ below patterns (item_of e))
    → IsCommonOf now (map (pattern_at patterns) (numbers_of (items_of (take (i + 1) es))))
common_more patterns es i e d now h is k =
    subst (λ (xs : List FlatPattern). IsCommonOf now xs) (sym (below_more patterns es i e d h is)) k

pub one_pattern : (fixed p : FlatPattern) → fixed.fixed_mask ≡ p.fixed_mask → fixed.fixed_bits ≡ p.fixed_bits
    → IsCommon fixed (p ∷ [])
one_pattern fixed p m e = record {
  says = λ b v all. let at : FixesTo p b v = all.each p (0, omega arith, refl) in
      record { tested = ap (λ (x : ℕ). bit_at x b) m ∙ at.tested; value = ap (λ (x : ℕ). bit_at x b) e ∙ at.value };
  known = λ b v f. record {
    each = λ q h. only q h (λ x. FixesTo x b v)
        (record {
          tested = ap (λ (x : ℕ). bit_at x b) (sym m) ∙ f.tested;
          value =
              ap (λ (x : ℕ). bit_at x b) (sym e) ∙ f.value;
        });
  };
}
  where
    only : (q : FlatPattern) → Contains (p ∷ []) q → (P : FlatPattern → Type 0) → P p → P q
    only q h P x = elim (Contains-push_cases [] p q h) [
      | inl n ↦ absurd (let l : n.0 < 0 = n.1 in omega arith)
      | inr e ↦
          subst P e x
    ]
