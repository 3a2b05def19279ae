-- What a program of the C subset does at a word (docs/C_SUBSET.md, "The meaning of a run").
use Rattle.std.specs.Prelude.{ℕ, ◌+◌, ℤ, ◌==◌, ◌&&◌, bit_and, Bool, true, false, cond}
use Rattle.std.specs.Prelude.{List, [], ◌∷◌, ◌++◌, map, Option, Some, None, option_map, option_and_then}
use Rattle.std.specs.List.{list_any}
use Rattle.dt_values.specs.Stored.{stored}
use Rattle.dt_values.specs.Types.{is_text}
use Rattle.dt_values.specs.declared.ctype.CType.{CType}
use Rattle.dt_values.specs.declared.ctype.Member.{Member}
use Rattle.dt_values.specs.SetsByName.{set_at}
use Rattle.dt_values.specs.declared.set.SetDef.{SetDef}
use Rattle.c_exprs.specs.Exprs.{Term, Assignment}
use Rattle.c_subset.specs.Programs.{Name, Stmt, on_mask, switch, extract, assign, call, Stmts, done, then, Cases}
use Rattle.c_subset.specs.Programs.{no_case, or_case, Extraction, Program}
use Rattle.dt_values.specs.Members.{type_in}
use Rattle.dt_host.specs.Hosts.{Answers, Call, Host}
use Rattle.c_eval.specs.Meaning.{Place, helper_bits, value_at}

-- how a run ended
pub data Ended : Type 0 where
  ended_true : Ended
  ended_false : Ended
  stuck : Ended

-- what arguments hold; None is a lost value
abbrev pub Held : Type 0
Held = Name → Option ℤ

abbrev pub all_lost : Held
all_lost name = None

-- the same, but for one argument that holds this number
abbrev pub put : Name → ℤ → Held → Held
put name z held other = cond (is_text other name) (Some z) (held other)

-- the set that is live in the union, and what its arguments hold
pub record Live : Type 0 where
  pub set : Name
  pub held : Held

-- where a run stands: the live set, if there is one, the calls made, in order, the number of tests, and the host's
-- state
pub record Standing (S : Type 0) : Type 0 where
  pub live : Option Live
  pub calls : List Call
  pub tests : ℕ
  pub state : S

-- after a statement a run goes on, or it has ended
pub data Turn (S : Type 0) : Type 0 where
  going : Standing S → Turn S
  ended : Ended → Standing S → Turn S

abbrev pub go_on : {S : Type 0} → Turn S → (Standing S → Turn S) → Turn S
go_on (going r) next = next r
go_on (ended e r) next = ended e r

-- a set is declared where it has its typedef in the text, or where it is one of those outside
abbrev pub declared_set : Program → List SetDef → Name → Option SetDef
declared_set program outside set = set_at (program.sets ++ outside) set

abbrev pub declared_members : Program → List SetDef → Name → Option (List Member)
declared_members program outside set = option_map (λ s. s.members) (declared_set program outside set)

-- what the extraction of this format, for this set, assigns
abbrev pub assigns_in : List Extraction → Name → Name → Option (List Assignment)
assigns_in [] format set = None
assigns_in (e ∷ es) format set =
    cond (is_text format e.format && is_text set e.set) (Some e.assigns) (assigns_in es format set)

-- a pattern is declared with this set
abbrev pub is_pattern_declared : Program → Name → Name → Bool
is_pattern_declared program name set = list_any (λ p. is_text name p.name && is_text set p.set) program.patterns

-- what the arguments of a set hold: nothing where it isn't live
abbrev pub held_of : Option Live → Name → Held
held_of None set = all_lost
held_of (Some live) set = cond (is_text set live.set) live.held all_lost

-- an extraction names no set for an argument, and the decoder names one
abbrev pub in_extraction : Held → Option Name → Name → Option ℤ
in_extraction held None name = held name
in_extraction held (Some set) name = None

abbrev pub in_decoder : Option Live → Option Name → Name → Option ℤ
in_decoder live None name = None
in_decoder live (Some set) name = held_of live set name

-- An assignment evaluates its expression first, and stores by the argument's type. None where it is stuck.
abbrev pub assigned : Place → Option CType → Name → Term → Held → Option Held
assigned at ctype name e held =
    option_and_then (λ t. option_map (λ z. put name (stored t z) held) (value_at at e)) ctype

abbrev pub place_in_extraction : ℕ → ℕ → Answers → Held → Place
place_in_extraction bits word answer held =
    record { bits = bits; word = word; held = in_extraction held; answer = answer }

-- assignments in order
abbrev pub all_assigned : ℕ → ℕ → Answers → List Member → List Assignment → Held → Option Held
all_assigned bits word answer members [] held = Some held
all_assigned bits word answer members (a ∷ more) held =
    option_and_then (all_assigned bits word answer members more)
    (assigned (place_in_extraction bits word answer held) (type_in members a.argument) a.argument a.value held)

-- an `if`, or a `switch`, counts one test
abbrev pub after_test : {S : Type 0} → Standing S → Standing S
after_test r = record { live = r.live; calls = r.calls; tests = r.tests + 1; state = r.state }

-- a block runs where its test holds
abbrev pub run_block : {S : Type 0} → Bool → (Standing S → Turn S) → Standing S → Turn S
run_block true block r = block r
run_block false block r = going r

-- a set becomes live, or stays so, with what its arguments hold; None is stuck
abbrev pub make_live : {S : Type 0} → Name → Option Held → Standing S → Turn S
make_live set (Some held) r =
    going (record {
      live = Some (record { set = set; held = held });
      calls = r.calls;
      tests = r.tests;
      state = r.state;
    })
make_live set None r = ended stuck r

-- what the arguments of a set hold after an extraction, where both are declared
abbrev pub held_after_extraction : {S : Type 0} → Program → List SetDef → Host S → ℕ → Name → Name → Standing S
    → Option Held
held_after_extraction program outside host word format set r =
    option_and_then (λ members. option_and_then
    (λ assigns. all_assigned (helper_bits program.width) word (host.answer r.state) members assigns
    (held_of r.live set))
    (assigns_in program.extracts format set)) (declared_members program outside set)

abbrev pub place_in_decoder : {S : Type 0} → Program → Host S → ℕ → Standing S → Place
place_in_decoder program host word r =
    record { bits = helper_bits program.width; word = word; held = in_decoder r.live; answer = host.answer r.state }

-- and after an assignment, where the set is declared
abbrev pub held_after_assignment : {S : Type 0} → Program → List SetDef → Host S → ℕ → Name → Name → Term → Standing S
    → Option Held
held_after_assignment program outside host word set name e r =
    option_and_then (λ members. assigned (place_in_decoder program host word r) (type_in members name) name e
    (held_of r.live set)) (declared_members program outside set)

-- all the values, where none is lost
abbrev pub all_values : List (Option ℤ) → Option (List ℤ)
all_values [] = Some []
all_values (v ∷ vs) = option_and_then (λ x. option_map (λ xs. x ∷ xs) (all_values vs)) v

-- what a call of a declared pattern hands over: the values of its set, which is live, and none of them is lost
abbrev pub values_to_hand : Bool → Option Live → Name → List Member → Option (List ℤ)
values_to_hand false live set members = None
values_to_hand true None set members = None
values_to_hand true (Some live) set members =
    cond (is_text set live.set) (all_values (map (λ m. live.held m.name) members)) None

abbrev pub values_of_call : Program → List SetDef → Name → Name → Option Live → Option (List ℤ)
values_of_call program outside name set live =
    option_and_then (values_to_hand (is_pattern_declared program name set) live set)
    (declared_members program outside set)

-- after a call no set is live
abbrev pub after_call : {S : Type 0} → Host S → Call → Standing S → Standing S
after_call host c r = record { live = None; calls = r.calls ++ c ∷ []; tests = r.tests; state = host.next r.state c }

-- true ends the run
abbrev pub end_or_go_on : {S : Type 0} → Bool → Standing S → Turn S
end_or_go_on true r = ended ended_true r
end_or_go_on false r = going r

abbrev pub make_call : {S : Type 0} → Host S → Call → Standing S → Turn S
make_call host c r = end_or_go_on (host.outcome r.state c) (after_call host c r)

-- A call of this pattern hands over these values. Without them it is stuck.
abbrev pub run_call : {S : Type 0} → Option (List ℤ) → Host S → Name → Standing S → Turn S
run_call (Some values) host name r = make_call host (record { name = name; values = values }) r
run_call None host name r = ended stuck r

abbrev mutual
  pub run_one : {S : Type 0} → Program → List SetDef → Host S → ℕ → Stmt → Standing S → Turn S
  run_one program outside host word (on_mask mask value block) r =
      run_block (bit_and word mask == value) (run_all program outside host word block) (after_test r)
  run_one program outside host word (switch mask cases) r =
      run_first program outside host word (bit_and word mask) cases (after_test r)
  run_one program outside host word (extract format set) r =
      make_live set (held_after_extraction program outside host word format set r) r
  run_one program outside host word (assign set name e) r =
      make_live set (held_after_assignment program outside host word set name e r) r
  run_one program outside host word (call name set) r =
      run_call (values_of_call program outside name set r.live) host name r

  -- one after another
  pub run_all : {S : Type 0} → Program → List SetDef → Host S → ℕ → Stmts → Standing S → Turn S
  run_all program outside host word done r = going r
  run_all program outside host word (then s ss) r =
      go_on (run_one program outside host word s r) (run_all program outside host word ss)

  -- the block of the first case of this value, if there is one
  pub run_first : {S : Type 0} → Program → List SetDef → Host S → ℕ → ℕ → Cases → Standing S → Turn S
  run_first program outside host word value no_case r = going r
  run_first program outside host word value (or_case v block cases) r =
      cond (value == v) (run_all program outside host word block r)
      (run_first program outside host word value cases r)

-- a run as a whole: its calls, in order, how it ended, the number of tests, and the host's last state
pub record Run (S : Type 0) : Type 0 where
  pub calls : List Call
  pub ended : Ended
  pub tests : ℕ
  pub state : S

abbrev pub run_at : {S : Type 0} → Ended → Standing S → Run S
run_at e r = record { calls = r.calls; ended = e; tests = r.tests; state = r.state }

-- the end of the statements gives false
abbrev pub whole_run : {S : Type 0} → Turn S → Run S
whole_run (going r) = run_at ended_false r
whole_run (ended e r) = run_at e r

abbrev pub at_start : {S : Type 0} → S → Standing S
at_start state = record { live = None; calls = []; tests = 0; state = state }

-- the run of a program, beside the sets that are declared outside of it, at a word, from a state of the host
abbrev pub run_of : {S : Type 0} → Program → List SetDef → Host S → ℕ → S → Run S
run_of program outside host word state = whole_run (run_all program outside host word program.body (at_start state))
