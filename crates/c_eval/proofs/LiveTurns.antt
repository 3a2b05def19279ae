-- The live set in memory, and what its arguments hold.
use Rattle.std.proofs.Common.{◌≡◌, ℕ, Bool, true, false, cond, List, [], ◌∷◌, ◌++◌, Option, Some, None, option_map}
use Rattle.std.proofs.Common.{option_and_then, refl, ap, ap₂, sym, ◌∙◌, subst}
use Rattle.std.specs.Prelude.{unwrap_or, IfSome}
use Rattle.std.proofs.lemmas.Slice.Eq.{bytes_eq-Decides}
use Rattle.dt_values.specs.Types.{is_text}
use Rattle.dt_values.specs.declared.ctype.Member.{Member}
use Rattle.dt_values.specs.SetsByName.{set_at}
use Rattle.dt_values.specs.declared.set.SetDef.{SetDef}
use Rattle.c_subset.specs.Programs.{Name, Program}
use Rattle.c_eval.specs.Lists.{members_at}
use Rattle.c_eval.specs.LiveSet.{held_in, arguments_of, live_seen, live_with}
use Rattle.c_exprs.specs.Exprs.{Assignment, Term}
use Rattle.dt_values.specs.Members.{type_in}
use Rattle.dt_host.specs.Hosts.{Host}
use Rattle.c_eval.specs.Meaning.{helper_bits}
use Rattle.c_eval.specs.Places.{place_of}
use Rattle.c_eval.specs.Runs.{Held, Live, Standing, all_assigned, all_lost, assigned, assigns_in, declared_members}
use Rattle.c_eval.specs.Runs.{held_after_assignment, held_after_extraction, held_of, in_decoder, place_in_decoder}
use Rattle.c_eval.specs.declared.live.Live.{Live as Made}

-- ---- sets of the text, and then those outside of it
abbrev found_by : SetDef → List SetDef → Name → Bool → Option (List Member)
found_by x xs name b = option_map (λ (s : SetDef). s.members) (cond b (Some x) (set_at xs name))

first_by : (x : SetDef) (xs ys : List SetDef) (name : Name) (ms : List Member) (b : Bool) → is_text name x.name ≡ b
    → (members_at xs name ≡ Some ms → members_at (xs ++ ys) name ≡ Some ms)
    → members_at (x ∷ xs) name ≡ Some ms → members_at (x ∷ (xs ++ ys)) name ≡ Some ms
first_by x xs ys name ms true h more e = ap (found_by x (xs ++ ys) name) h ∙ (sym (ap (found_by x xs name) h) ∙ e)
first_by x xs ys name ms false h more e =
    ap (found_by x (xs ++ ys) name) h ∙ more (sym (ap (found_by x xs name) h) ∙ e)

pub members_first : (xs ys : List SetDef) (name : Name) (ms : List Member) → members_at xs name ≡ Some ms
    → members_at (xs ++ ys) name ≡ Some ms
members_first [] ys name ms e = absurd (cc)
members_first (x ∷ xs) ys name ms e =
    first_by x xs ys name ms (is_text name x.name) refl (members_first xs ys name ms) e

after_by : (x : SetDef) (xs ys : List SetDef) (name : Name) (b : Bool) → is_text name x.name ≡ b
    → (members_at xs name ≡ None → members_at (xs ++ ys) name ≡ members_at ys name)
    → members_at (x ∷ xs) name ≡ None → members_at (x ∷ (xs ++ ys)) name ≡ members_at ys name
after_by x xs ys name true h more e =
    let found : Some x.members ≡ None = sym (ap (found_by x xs name) h) ∙ e in absurd (cc)
after_by x xs ys name false h more e =
    ap (found_by x (xs ++ ys) name) h ∙ more (sym (ap (found_by x xs name) h) ∙ e)

pub members_after : (xs ys : List SetDef) (name : Name) → members_at xs name ≡ None
    → members_at (xs ++ ys) name ≡ members_at ys name
members_after [] ys name e = refl
members_after (x ∷ xs) ys name e = after_by x xs ys name (is_text name x.name) refl (members_after xs ys name) e

-- ---- a set that is made live
pub live_here : (program : Program) (outside : List SetDef) (l : Made) (set : Name) → is_text set l.set ≡ true
    → live_seen program outside l ≡ live_with set (held_of (Some (live_seen program outside l)) set)
live_here program outside l set e =
    ap₂ live_with (sym ((bytes_eq-Decides set l.set).0 e))
    (sym (ap (λ b. cond b (live_seen program outside l).held all_lost) e))

pub live_other : (program : Program) (outside : List SetDef) (l made : Made) (set : Name) → is_text set l.set ≡ false
    → made.set ≡ set
    → ((ms : List Member) → held_in ms made.items made.held ≡ all_lost)
    → live_seen program outside made ≡ live_with set (held_of (Some (live_seen program outside l)) set)
live_other program outside l made set e is lost =
    ap₂ live_with is (lost (arguments_of program outside made.set)
    ∙ sym (ap (λ b. cond b (live_seen program outside l).held all_lost) e))

pub live_first : (program : Program) (outside : List SetDef) (made : Made) (set : Name) → made.set ≡ set
    → ((ms : List Member) → held_in ms made.items made.held ≡ all_lost)
    → live_seen program outside made ≡ live_with set (held_of None set)
live_first program outside made set is lost = ap₂ live_with is (lost (arguments_of program outside made.set))

-- ---- a set that was assigned to
pub arguments_are : (program : Program) (outside : List SetDef) (set : Name) (ms : List Member)
    → Some ms ≡ declared_members program outside set → arguments_of program outside set ≡ ms
arguments_are program outside set ms e = sym (ap (λ o. unwrap_or o []) e)

pub seen_made : (program : Program) (outside : List SetDef) (set : Name) (ms : List Member) (result : Option Made)
    (held : Option Held)
    → Some ms ≡ declared_members program outside set
    → option_map (λ (l : Made). held_in ms l.items l.held) result ≡ held
    → IfSome result (λ (l : Made). l.set ≡ set)
    → option_map (live_seen program outside) result ≡ option_map (live_with set) held
seen_made program outside set ms None held declared e is = ap (option_map (live_with set)) e
seen_made program outside set ms (Some l) held declared e is =
    ap (λ x. Some x) (ap₂ live_with is (ap (λ xs. held_in xs l.items l.held) (ap (arguments_of program outside) is
    ∙ arguments_are program outside set ms declared)))
    ∙ ap (option_map (live_with set)) e

module _ {S : Type 0} (program : Program) (outside : List SetDef) (host : Host S) (word : ℕ) (set : Name)
    (ms : List Member) (declared : Some ms ≡ declared_members program outside set)
    (r : Standing S) (live : Option Made) (state : S) (live_is : r.live ≡ option_map (live_seen program outside) live)
    (state_is : r.state ≡ state)
    (start : Made) (start_is : start.set ≡ set)
    (seen : live_seen program outside start ≡ live_with set (held_of (option_map (live_seen program outside) live) set))
  where
    held_first : held_in ms start.items start.held ≡ held_of r.live set
    held_first =
        ap (λ xs. held_in xs start.items start.held)
        (sym (ap (arguments_of program outside) start_is ∙ arguments_are program outside set ms declared))
        ∙ ap (λ (l : Live). l.held) seen
        ∙ ap (λ (v : Option Live). held_of v set) (sym live_is)

    moved : (result : Option Made) → IfSome result (λ (l : Made). l.set ≡ start.set)
        → IfSome result (λ (l : Made). l.set ≡ set)
    moved None h = h
    moved (Some l) h = h ∙ start_is

    pub seen_assigned : (name : Name) (e : Term) (result : Option Made)
        → option_map (λ (l : Made). held_in ms l.items l.held) result
        ≡ assigned (place_of program.width word (in_decoder (option_map (live_seen program outside) live))
        (host.answer state)) (type_in ms name) name e (held_in ms start.items start.held)
        → IfSome result (λ (l : Made). l.set ≡ start.set)
        → option_map (live_seen program outside) result
        ≡ option_map (live_with set) (held_after_assignment program outside host word set name e r)
    seen_assigned name e result is same =
        seen_made program outside set ms result (held_after_assignment program outside host word set name e r) declared
        (is
        ∙ ap (λ held. assigned (place_of program.width word (in_decoder (option_map (live_seen program outside) live))
        (host.answer state)) (type_in ms name) name e held) held_first
        ∙ ap (λ (v : Option Live). assigned (place_of program.width word (in_decoder v) (host.answer state))
        (type_in ms name) name e (held_of r.live set)) (sym live_is)
        ∙ ap (λ s. assigned (place_of program.width word (in_decoder r.live) (host.answer s)) (type_in ms name) name e
        (held_of r.live set)) (sym state_is)
        ∙ ap (option_and_then (λ members. assigned (place_in_decoder program host word r) (type_in members name) name e
        (held_of r.live set))) declared)
        (moved result same)

    pub seen_extracted : (format : Name) (assigns : List Assignment) (result : Option Made)
        → Some assigns ≡ assigns_in program.extracts format set
        → option_map (λ (l : Made). held_in ms l.items l.held) result
        ≡ all_assigned (helper_bits program.width) word (host.answer state) ms assigns
        (held_in ms start.items start.held)
        → IfSome result (λ (l : Made). l.set ≡ start.set)
        → option_map (live_seen program outside) result
        ≡ option_map (live_with set) (held_after_extraction program outside host word format set r)
    seen_extracted format assigns result found is same =
        seen_made program outside set ms result (held_after_extraction program outside host word format set r) declared
        (is
        ∙ ap (all_assigned (helper_bits program.width) word (host.answer state) ms assigns) held_first
        ∙ ap (λ s. all_assigned (helper_bits program.width) word (host.answer s) ms assigns (held_of r.live set))
        (sym state_is)
        ∙ ap (option_and_then (λ given. all_assigned (helper_bits program.width) word (host.answer r.state) ms given
        (held_of r.live set))) found
        ∙ ap (option_and_then (λ members. option_and_then
        (λ given. all_assigned (helper_bits program.width) word (host.answer r.state) members given
        (held_of r.live set)) (assigns_in program.extracts format set))) declared)
        (moved result same)
