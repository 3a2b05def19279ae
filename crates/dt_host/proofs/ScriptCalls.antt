-- A script in memory and the plain one of its lists.
use Rattle.std.proofs.Common.{◌≡◌, ℕ, zero, suc, ◌+◌, ◌<◌, ◌≤◌, ◌^◌, ◌&&◌, ◌==◌, ◌⊎◌, inl, inr, Bool, true, false, cond, List, [], ◌∷◌, ◌++◌, length, map, take, ℤ, Option, None, refl, ap, ap₂, sym, subst, ◌∙◌, arith}
use Rattle.std.specs.Prelude.{All, nat_le, nat_lt, slice_get, unwrap_or}
use Rattle.std.proofs.lemmas.Bool.{leb-true, leb-false}
use Rattle.std.proofs.lemmas.Bool.Decides.{nat_tests}
use Rattle.std.proofs.lemmas.List.{take_all, take_at, append-nil, append_assoc, length_push}
use Rattle.std.proofs.lemmas.List.Elements.{All-head, All-tail}
use Rattle.dt_values.specs.Types.{is_text}
use Rattle.dt_host.specs.Alike.{AreAlike, state_after}
use Rattle.dt_host.specs.Hosts.{Answer, Call, answer_at, fits, is_same_argument, outcome_at}
use Rattle.dt_host.specs.Scripts.{IsAfter, ScriptMemory, after_call, after_calls, kept_call, memory_host, one_more, plain_script, up_to_end}
use Rattle.dt_host.specs.declared.script.Call.{Call as KeptCall}

-- ---- lists say nothing of more than 2 ^ 64 calls
no_item : (outcomes : List Bool) (k : ℕ) → length outcomes ≤ k → slice_get outcomes k ≡ None
no_item [] k le = refl
no_item (o ∷ os) zero le = absurd (omega arith)
no_item (o ∷ os) (suc k) le = no_item os k (omega arith)

size_by : (b : Bool) (k : ℕ) → nat_le k (2 ^ 64) ≡ b → (up_to_end k ≡ k) ⊎ ((2 ^ 64 ≤ k) × (up_to_end k ≡ 2 ^ 64))
size_by true k e = let le : k ≤ 2 ^ 64 = leb-true _ _ e in inl (omega arith)
size_by false k e = let lt : 2 ^ 64 < k = leb-false _ _ e in inr (omega arith, omega arith)

by_size : (k : ℕ) → (up_to_end k ≡ k) ⊎ ((2 ^ 64 ≤ k) × (up_to_end k ≡ 2 ^ 64))
by_size k = size_by (nat_le k (2 ^ 64)) k refl

kept_outcome : (outcomes : List Bool) (k : ℕ) → length outcomes ≤ 2 ^ 64 → (up_to_end k ≡ k) ⊎ ((2 ^ 64 ≤ k) × (up_to_end k ≡ 2 ^ 64))
    → outcome_at outcomes (up_to_end k) ≡ outcome_at outcomes k
kept_outcome outcomes k few (inl e) = ap (outcome_at outcomes) e
kept_outcome outcomes k few (inr (le, e)) =
    ap (outcome_at outcomes) e
    ∙ ap (λ o. unwrap_or o true) (no_item outcomes (2 ^ 64) few ∙ sym (no_item outcomes k (omega arith)))

-- an answer of a list that speaks of less than 2 ^ 64 calls
abbrev pub IsSmall : Answer → Type 0
IsSmall a = a.calls < 2 ^ 64

fits_none : (a : Answer) (k : ℕ) (function : List ℕ) (argument : Option ℤ) → a.calls < 2 ^ 64 → 2 ^ 64 ≤ k → fits k function argument a ≡ false
fits_none a k function argument small le =
    let other : (a.calls == k) ≡ false = grind (arith, nat_tests) in
    ap (λ b. b && (is_text function a.function && is_same_argument argument a.argument)) other

answer_past : (answers : List Answer) (j k : ℕ) (function : List ℕ) (argument : Option ℤ) → All IsSmall answers → 2 ^ 64 ≤ j → 2 ^ 64 ≤ k
    → answer_at answers j function argument ≡ answer_at answers k function argument
answer_past [] j k function argument small lj lk = refl
answer_past (a ∷ more) j k function argument small lj lk =
    let here = All-head IsSmall a more small in
    ap (λ b. cond b a.answer (answer_at more j function argument)) (fits_none a j function argument here lj)
    ∙ answer_past more j k function argument (All-tail IsSmall a more small) lj lk
    ∙ sym (ap (λ b. cond b a.answer (answer_at more k function argument)) (fits_none a k function argument here lk))

kept_answer : (answers : List Answer) (k : ℕ) (function : List ℕ) (argument : Option ℤ) → All IsSmall answers → (up_to_end k ≡ k) ⊎ ((2 ^ 64 ≤ k) × (up_to_end k ≡ 2 ^ 64))
    → answer_at answers (up_to_end k) function argument ≡ answer_at answers k function argument
kept_answer answers k function argument small (inl e) = ap (λ n. answer_at answers n function argument) e
kept_answer answers k function argument small (inr (le, e)) =
    ap (λ n. answer_at answers n function argument) e ∙ answer_past answers (2 ^ 64) k function argument small (omega arith) le

more_kept : (k : ℕ) → one_more (up_to_end k) ≡ up_to_end (k + 1)
more_kept k = omega arith

pub script_alike : (start : ScriptMemory) → length start.outcomes ≤ 2 ^ 64 → All IsSmall start.answers → AreAlike (IsAfter start) memory_host (plain_script start)
script_alike start few small = record {
  outcomes = λ s k c h. ap₂ outcome_at h.outcomes h.count ∙ kept_outcome start.outcomes k few (by_size k);
  states = λ s k c h. record { outcomes = h.outcomes; answers = h.answers; count = ap one_more h.count ∙ more_kept k };
  answers = λ s k function argument h. ap₂ (λ l n. answer_at l n function argument) h.answers h.count ∙ kept_answer start.answers k function argument small (by_size k);
}

-- ---- the calls that are kept
pushed_by : (b : Bool) (room : ℕ) (calls more : List KeptCall) (c : KeptCall) → nat_lt (length calls) room ≡ b → length calls ≤ room
    → take room (cond b (calls ++ c ∷ []) calls ++ more) ≡ take room (calls ++ c ∷ more)
pushed_by true room calls more c e le = ap (take room) (append_assoc calls (c ∷ []) more)
pushed_by false room calls more c e le =
    let past : room < suc (length calls) = leb-false _ _ e in
    let full : length calls ≡ room = omega arith in
    take_at calls more room full ∙ sym (take_at calls (c ∷ more) room full)

pushed_within : (b : Bool) (room : ℕ) (calls : List KeptCall) (c : KeptCall) → nat_lt (length calls) room ≡ b → length calls ≤ room
    → length (cond b (calls ++ c ∷ []) calls) ≤ room
pushed_within true room calls c e le = let lt : suc (length calls) ≤ room = leb-true _ _ e in subst (λ n. n ≤ room) (sym (length_push calls c)) (omega arith)
pushed_within false room calls c e le = le

pub calls_kept : (s : ScriptMemory) (cs : List Call) (k : ℕ) → length s.calls ≤ s.room → s.count ≡ up_to_end k
    → state_after memory_host s cs ≡ after_calls s cs (k + length cs)
calls_kept s [] k le is =
    let same : s.calls ≡ take s.room (s.calls ++ []) = sym (ap (take s.room) (append-nil s.calls) ∙ take_all s.room s.calls le) in
    let e : k ≡ k + 0 = omega arith in
    ap₂ (λ cs n. let t : ScriptMemory = record s { calls = cs; count = n } in t) same (is ∙ ap up_to_end e)
calls_kept s (c ∷ cs) k le is =
    let next = after_call s c in
    let within = pushed_within (nat_lt (length s.calls) s.room) s.room s.calls (kept_call c) refl le in
    let e : (k + 1) + length cs ≡ k + suc (length cs) = omega arith in
    calls_kept next cs (k + 1) within (ap one_more is ∙ more_kept k)
    ∙ ap₂ (λ cs n. let t : ScriptMemory = record s { calls = cs; count = n } in t)
    (pushed_by (nat_lt (length s.calls) s.room) s.room s.calls (map kept_call cs) (kept_call c) refl le) (ap up_to_end e)

pub plain_count : (s : ScriptMemory) (cs : List Call) (k : ℕ) → state_after (plain_script s) k cs ≡ k + length cs
plain_count s [] k = omega arith
plain_count s (c ∷ cs) k = let e : (k + 1) + length cs ≡ k + suc (length cs) = omega arith in plain_count s cs (k + 1) ∙ e
