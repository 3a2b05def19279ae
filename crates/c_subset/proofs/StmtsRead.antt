-- Statements are read exactly.
use Rattle.std.proofs.Common.{◌≡◌, ℕ, zero, suc, ◌<◌, ◌^◌, List, [], ◌∷◌, ◌++◌, length, Bool, true, false, cond}
use Rattle.std.proofs.Common.{Option, Some, None, refl, sym, ap, subst, ◌∙◌, arith, append_assoc, length-append, ◌⊎◌}
use Rattle.std.proofs.Common.{inl, inr, lit<}
use Rattle.std.specs.Prelude.{codes, flat_map, IsSome, nat_eq, is_some, not, ◌||◌}
use Rattle.std.specs.List.{AllByRecursion}
use Rattle.std.specs.Cmp.Lexicographic.{pointwise}
use Rattle.dt_values.specs.Names.{IsName}
use Rattle.dt_values.specs.declared.width.Width.{Width}
use Rattle.dt_values.specs.Widths.{width_bits}
use Rattle.c_exprs.proofs.ExprsRead.{SetAssignment, SetAssignmentKeeps, set_assignment_reads}
use Rattle.c_tokens.specs.Front.{name_behind_at, hexadecimal_at}
use Rattle.c_tokens.specs.Marks.{close_brace, semicolon, hex_word}
use Rattle.c_tokens.specs.Parsing.{Parse, after, begins}
use Rattle.c_tokens.specs.Tokens.{Token, word}
use Rattle.c_tokens.proofs.Exact.{Reads, Any, Stops, Starts, begins_again, behind_reads, closed_reads, both_reads}
use Rattle.c_tokens.proofs.Exact.{Made, made_reads, choose_reads, known_reads, guarded_reads, nothing_reads}
use Rattle.c_tokens.proofs.Exact.{word_reads, weaken_reads, many_reads, bytes_are, bytes_self}
use Rattle.c_tokens.proofs.WordsRead.{behind_decodes, hex_word_decodes}
use Rattle.c_subset.specs.Keeps.{StmtKeeps, StmtsKeep, CasesKeep, IsSomeCase, StmtHasCases, StmtsHaveCases}
use Rattle.c_subset.specs.Keeps.{CasesHaveCases, StmtBelow, StmtsBelow, CasesBelow, HasNoCall, HaveNoCall}
use Rattle.c_subset.specs.Keeps.{CasesHaveNoCall}
use Rattle.c_subset.specs.Nesting.{StmtWithin, StmtsWithin, CasesWithin}
use Rattle.c_subset.specs.Programs.{Name, Stmt, on_mask, switch, extract, assign, call, Stmts, done, then, Cases}
use Rattle.c_subset.specs.Programs.{no_case, or_case, stmt_spelled, stmts_spelled, cases_spelled, case_spelled}
use Rattle.c_subset.specs.Programs.{break_spelled}
use Rattle.c_subset.specs.View.{stmts_from, cases_from}
use Rattle.c_subset.specs.StmtParsing.{Scope, live_open, live_set_at, extract_of, extract_end, extract_at, call_of}
use Rattle.c_subset.specs.StmtParsing.{call_open, call_end, prefixed_call_at, call_at, assign_of, assign_at, if_open}
use Rattle.c_subset.specs.StmtParsing.{if_middle, block_open, block_end, if_head_at, if_of, if_at, switch_word}
use Rattle.c_subset.specs.StmtParsing.{switch_open, switch_head_at, case_word, starts_case, case_head_at, case_at}
use Rattle.c_subset.specs.StmtParsing.{has_item, switch_of, switch_at, if_word, u_word, stmt_at, return_word}
use Rattle.c_subset.specs.StmtParsing.{starts_stmt, block_at, inner_at, stmts_at}

-- without a prefix no call is spelled
abbrev pub prefix_name : Option Name → Name
prefix_name None = []
prefix_name (Some prefix) = prefix

abbrev pub spelled : Scope → Stmt → List Token
spelled g s = stmt_spelled g.width g.decoder (prefix_name g.prefix) s

abbrev pub all_spelled : Scope → Stmts → List Token
all_spelled g ss = stmts_spelled g.width g.decoder (prefix_name g.prefix) ss

abbrev pub Below : Width → ℕ → Type 0
Below w n = n < 2 ^ width_bits w

pub hex_reads : (w : Width) → Reads Any (Below w) (λ n. hex_word w n ∷ []) (hexadecimal_at w)
unfolding hexadecimal_at
hex_reads w = word_reads (hex_word_decodes w)

pub behind_name_reads : (fixed : List ℕ) → Reads Any IsName (λ x. word (fixed ++ x) ∷ []) (name_behind_at fixed)
unfolding name_behind_at
behind_name_reads fixed = word_reads (behind_decodes fixed)

live_set_reads : Reads Any IsName (λ s. word (codes "f_" ++ s) ∷ []) live_set_at
unfolding live_set_at
live_set_reads = behind_name_reads (codes "f_")

-- the heads of a switch and of a case
pub switch_head_reads : (w : Width)
    → Reads Any (Below w) (λ m. switch_open ++ (hex_word w m ∷ block_open)) (switch_head_at w)
unfolding switch_head_at
switch_head_reads w =
    known_reads (λ m h. h) (λ m h. h) (λ m h. refl)
    (behind_reads switch_open (closed_reads block_open (λ rest. tt) (hex_reads w)))

pub case_head_reads : (w : Width) → Reads Any (Below w) (case_spelled w) (case_head_at w)
unfolding case_head_at
case_head_reads w =
    known_reads (λ m h. h) (λ m h. h) (λ m h. refl)
    (behind_reads case_word (closed_reads _ (λ rest. tt) (hex_reads w)))

-- what stands behind a list of statements ends it
block_stops : (rest : List Token) → Stops starts_stmt (close_brace ∷ rest)
unfolding starts_stmt begins after
block_stops rest = refl

break_stops : (rest : List Token) → Stops starts_stmt (word (codes "break") ∷ rest)
unfolding starts_stmt begins after
break_stops rest = refl

pub return_stops : (rest : List Token) → Stops starts_stmt (word (codes "return") ∷ rest)
unfolding starts_stmt begins after
return_stops rest = refl

-- the statements one by one; B is what may stand inside braces
abbrev Ifs : Width → (Stmts → Type 0) → (ℕ × ℕ) × Stmts → Type 0
Ifs w B x = (Below w x.0.0 × Below w x.0.1) × B x.1

if_reads : (g : Scope) (B : Stmts → Type 0) (inner : Parse Stmts)
    → Reads (Stops starts_stmt) B (all_spelled g) inner
    → Reads Any (Made if_of (Ifs g.width B)) (spelled g) (if_at g.width inner)
unfolding if_at if_head_at
if_reads g B inner r =
    made_reads if_of (spelled g) (λ x h. refl)
    (both_reads (λ y rest h k. tt)
    (behind_reads if_open (both_reads (λ y rest h k. tt) (hex_reads g.width)
    (behind_reads if_middle (closed_reads block_open (λ rest. tt) (hex_reads g.width)))))
    (closed_reads block_end block_stops r))

abbrev TwoNames : Name × Name → Type 0
TwoNames x = IsName x.0 × IsName x.1

abbrev Calls : Option Name → Name × Name → Type 0
Calls prefix x = IsSome prefix × TwoNames x

no_calls : (x : Stmt) → Made call_of (Calls None) x → ⊥
no_calls x h = let e : false ≡ true = h.1.0 in cc

call_there : (prefix : Name) (x : Stmt) → Made call_of (Calls (Some prefix)) x → Made call_of TwoNames x
call_there prefix x h = (h.0, h.1.1, h.2)

call_back : (prefix : Name) (x : Stmt) → Made call_of TwoNames x → Made call_of (Calls (Some prefix)) x
call_back prefix x h = (h.0, (refl, h.1), h.2)

call_reads : (w : Width) (d : Name) (prefix : Option Name)
    → Reads Any (Made call_of (Calls prefix)) (stmt_spelled w d (prefix_name prefix)) (call_at prefix)
unfolding prefixed_call_at
call_reads w d None = known_reads no_calls (λ x h. absurd h) (λ x h. refl) (nothing_reads (stmt_spelled w d []))
call_reads w d (Some p) =
    known_reads (call_there p) (call_back p) (λ x h. refl)
    (made_reads call_of (stmt_spelled w d p) (λ x h. refl)
    (behind_reads call_open
    (both_reads (λ y rest h k. tt) (behind_name_reads (p ++ codes "_"))
    (behind_reads live_open (closed_reads call_end (λ rest. tt) live_set_reads)))))

extract_reads : (g : Scope) → Reads Any (Made extract_of TwoNames) (spelled g) (extract_at g.decoder)
unfolding extract_at
extract_reads g =
    made_reads extract_of (spelled g) (λ x h. refl)
    (both_reads (λ y rest h k. tt) (behind_name_reads (g.decoder ++ codes "_extract_"))
    (behind_reads live_open (closed_reads extract_end (λ rest. tt) live_set_reads)))

assign_reads : (g : Scope) → Reads Any (Made assign_of SetAssignmentKeeps) (spelled g) (assign_at g.width)
unfolding assign_at
assign_reads g = made_reads assign_of (spelled g) (λ x h. refl) (set_assignment_reads g.width)

-- the cases of a switch
abbrev one_case : Scope → ℕ × Stmts → List Token
one_case g c = case_spelled g.width c.0 ++ (all_spelled g c.1 ++ break_spelled)

abbrev CaseWith : Width → (Stmts → Type 0) → ℕ × Stmts → Type 0
CaseWith w B c = Below w c.0 × B c.1

case_reads : (g : Scope) (B : Stmts → Type 0) (inner : Parse Stmts)
    → Reads (Stops starts_stmt) B (all_spelled g) inner
    → Reads Any (CaseWith g.width B) (one_case g) (case_at g.width inner)
unfolding case_at
case_reads g B inner r =
    known_reads (λ x h. h) (λ x h. h) (λ x h. refl)
    (both_reads (λ y rest h k. tt) (case_head_reads g.width)
    (closed_reads break_spelled (λ rest. break_stops (semicolon ∷ rest)) r))

case_starts : (g : Scope) (B : Stmts → Type 0) → Starts (CaseWith g.width B) (one_case g) starts_case
unfolding starts_case begins after
case_starts g B = record { first = λ x rest h. refl; some = λ x h. omega arith }

pub cases_stop : (rest : List Token) → Stops starts_case (close_brace ∷ rest)
unfolding starts_case begins after
cases_stop rest = refl

abbrev Switches : Width → (Stmts → Type 0) → ℕ × List (ℕ × Stmts) → Type 0
Switches w B x = Below w x.0 × (AllByRecursion (CaseWith w B) x.1 × (has_item x.1 ≡ true))

cases_same : (g : Scope) (cs : List (ℕ × Stmts))
    → cases_spelled g.width g.decoder (prefix_name g.prefix) (cases_from cs) ≡ flat_map (one_case g) cs
cases_same g [] = refl
cases_same g (c ∷ cs) =
    ap (λ l. case_spelled g.width c.0 ++ (all_spelled g c.1 ++ (break_spelled ++ l))) (cases_same g cs)
    ∙ ap (λ l. case_spelled g.width c.0 ++ l)
    (sym (append_assoc (all_spelled g c.1) break_spelled (flat_map (one_case g) cs)))

switch_same : (g : Scope) (B : Stmts → Type 0) (x : ℕ × List (ℕ × Stmts)) → Switches g.width B x
    → spelled g (switch_of x)
    ≡ (switch_open ++ (hex_word g.width x.0 ∷ block_open)) ++ (flat_map (one_case g) x.1 ++ block_end)
switch_same g B x h =
    ap (λ l. (switch_open ++ (hex_word g.width x.0 ∷ block_open)) ++ (l ++ block_end)) (cases_same g x.1)

switch_reads : (g : Scope) (B : Stmts → Type 0) (inner : Parse Stmts)
    → Reads (Stops starts_stmt) B (all_spelled g) inner
    → Reads Any (Made switch_of (Switches g.width B)) (spelled g) (switch_at g.width inner)
unfolding switch_at
switch_reads g B inner r =
    made_reads switch_of (spelled g) (switch_same g B)
    (both_reads (λ y rest h k. tt) (switch_head_reads g.width)
    (closed_reads block_end cases_stop
    (guarded_reads has_item (many_reads starts_case (case_starts g B) (case_reads g B inner r)))))

-- which statement it is, by its first tokens
true_or_false : (b : Bool) → (b ≡ true) ⊎ (b ≡ false)
true_or_false true = inl refl
true_or_false false = inr refl

words_differ : (v w : List ℕ) → (v ≡ w → ⊥) → pointwise nat_eq v w ≡ false
words_differ v w h = elim (true_or_false (pointwise nat_eq v w)) [
  | inl e ↦ absurd (h (bytes_are v w e))
  | inr e ↦ e
]

no_first : (v w : List ℕ) (fs ts : List Token) → (v ≡ w → ⊥) → begins (word v ∷ fs) (word w ∷ ts) ≡ false
unfolding begins after
no_first v w fs ts h = ap (λ b. is_some (cond b (after fs ts) None)) (words_differ v w h)

-- an extraction's function is longer than each other word that stands there
long : (w d x : List ℕ) → length w < 9 → w ≡ (d ++ codes "_extract_") ++ x → ⊥
long w d x h e =
    omega (arith, length-append (d ++ codes "_extract_") x, length-append d (codes "_extract_"), ap length e)

abbrev Begins : Scope → List Token → List Token → Bool → Stmt → Type 0
Begins g fixed rest b x = begins fixed (spelled g x ++ rest) ≡ b

no_extract : (g : Scope) (w : List ℕ) (fs : List Token) (x : Stmt) (rest : List Token) → length w < 9
    → Made extract_of TwoNames x → Begins g (word w ∷ fs) rest false x
no_extract g w fs x rest lt h =
    subst (Begins g (word w ∷ fs) rest false) h.2 (no_first w _ fs _ (long w g.decoder h.0.0 lt))

abbrev Last : Stmt → Type 0
Last x = Made assign_of SetAssignmentKeeps x ⊎ Made extract_of TwoNames x

abbrev FromSwitch : Scope → (Stmts → Type 0) → Stmt → Type 0
FromSwitch g B x = Made switch_of (Switches g.width B) x ⊎ Last x

abbrev FromCall : Scope → (Stmts → Type 0) → Stmt → Type 0
FromCall g B x = Made call_of (Calls g.prefix) x ⊎ FromSwitch g B x

abbrev AnyStmt : Scope → (Stmts → Type 0) → Stmt → Type 0
AnyStmt g B x = Made if_of (Ifs g.width B) x ⊎ FromCall g B x

call_no_if : (g : Scope) (z : Name × Name) (rest : List Token) → Begins g if_open rest false (call_of z)
unfolding begins after
call_no_if g z rest = refl

switch_no_if : (g : Scope) (z : ℕ × List (ℕ × Stmts)) (fs rest : List Token)
    → Begins g (word (codes "if") ∷ fs) rest false (switch_of z)
unfolding begins after
switch_no_if g z fs rest = refl

assign_no_if : (g : Scope) (z : SetAssignment) (fs rest : List Token)
    → Begins g (word (codes "if") ∷ fs) rest false (assign_of z)
unfolding begins after
assign_no_if g z fs rest = refl

assign_no_switch : (g : Scope) (z : SetAssignment) (rest : List Token) → Begins g switch_word rest false (assign_of z)
unfolding begins after
assign_no_switch g z rest = refl

no_if_last : (g : Scope) (fs : List Token) (x : Stmt) (rest : List Token) → Last x
    → Begins g (word (codes "if") ∷ fs) rest false x
no_if_last g fs x rest (inl h) = subst (Begins g (word (codes "if") ∷ fs) rest false) h.2 (assign_no_if g h.0 fs rest)
no_if_last g fs x rest (inr h) = no_extract g (codes "if") fs x rest (lit< tt) h

no_if_switch : (g : Scope) (B : Stmts → Type 0) (fs : List Token) (x : Stmt) (rest : List Token) → FromSwitch g B x
    → Begins g (word (codes "if") ∷ fs) rest false x
no_if_switch g B fs x rest (inl h) =
    subst (Begins g (word (codes "if") ∷ fs) rest false) h.2 (switch_no_if g h.0 fs rest)
no_if_switch g B fs x rest (inr h) = no_if_last g fs x rest h

no_if : (g : Scope) (B : Stmts → Type 0) (x : Stmt) (rest : List Token) → FromCall g B x → Any rest
    → Begins g if_open rest false x
no_if g B x rest (inl h) k = subst (Begins g if_open rest false) h.2 (call_no_if g h.0 rest)
no_if g B x rest (inr h) k = no_if_switch g B _ x rest h

no_switch : (g : Scope) (x : Stmt) (rest : List Token) → Last x → Any rest → Begins g switch_word rest false x
no_switch g x rest (inl h) k = subst (Begins g switch_word rest false) h.2 (assign_no_switch g h.0 rest)
no_switch g x rest (inr h) k = no_extract g (codes "switch") [] x rest (lit< tt) h

is_if : (g : Scope) (B : Stmts → Type 0) (x : Stmt) (rest : List Token) → Made if_of (Ifs g.width B) x → Any rest
    → Begins g if_open rest true x
is_if g B x rest h k = subst (Begins g if_open rest true) h.2 (begins_again if_open _)

is_call : (g : Scope) (x : Stmt) (rest : List Token) → Made call_of (Calls g.prefix) x → Any rest
    → Begins g if_word rest true x
is_call g x rest h k = subst (Begins g if_word rest true) h.2 (begins_again if_word _)

is_switch : (g : Scope) (B : Stmts → Type 0) (x : Stmt) (rest : List Token) → Made switch_of (Switches g.width B) x
    → Any rest → Begins g switch_word rest true x
is_switch g B x rest h k = subst (Begins g switch_word rest true) h.2 (begins_again switch_word _)

is_assign : (g : Scope) (x : Stmt) (rest : List Token) → Made assign_of SetAssignmentKeeps x → Any rest
    → Begins g u_word rest true x
is_assign g x rest h k = subst (Begins g u_word rest true) h.2 (begins_again u_word _)

-- a statement whose blocks have B
abbrev CasesWith : Width → (Stmts → Type 0) → Cases → Type 0
CasesWith w B no_case = Unit {0}
CasesWith w B (or_case v ss cs) = (Below w v × B ss) × CasesWith w B cs

abbrev StmtWith : Scope → (Stmts → Type 0) → Stmt → Type 0
StmtWith g B (on_mask m v ss) = (Below g.width m × Below g.width v) × B ss
StmtWith g B (switch m cs) = Below g.width m × (IsSomeCase cs × CasesWith g.width B cs)
StmtWith g B (extract x s) = IsName x × IsName s
StmtWith g B (assign s a e) = SetAssignmentKeeps ((s, a), e)
StmtWith g B (call n s) = IsSome g.prefix × (IsName n × IsName s)

abbrev cases_list : Cases → List (ℕ × Stmts)
cases_list no_case = []
cases_list (or_case v ss cs) = (v, ss) ∷ cases_list cs

cases_list_is : (cs : Cases) → cases_from (cases_list cs) ≡ cs
cases_list_is no_case = refl
cases_list_is (or_case v ss cs) = ap (or_case v ss) (cases_list_is cs)

cases_there : (w : Width) (B : Stmts → Type 0) (cs : Cases) → CasesWith w B cs
    → AllByRecursion (CaseWith w B) (cases_list cs)
cases_there w B no_case h = tt
cases_there w B (or_case v ss cs) h = (h.0, cases_there w B cs h.1)

some_there : (cs : Cases) → IsSomeCase cs → has_item (cases_list cs) ≡ true
some_there no_case h = absurd h
some_there (or_case v ss cs) h = refl

cases_back : (w : Width) (B : Stmts → Type 0) (cs : List (ℕ × Stmts)) → AllByRecursion (CaseWith w B) cs
    → CasesWith w B (cases_from cs)
cases_back w B [] h = tt
cases_back w B (c ∷ cs) h = (h.0, cases_back w B cs h.1)

some_back : (cs : List (ℕ × Stmts)) → has_item cs ≡ true → IsSomeCase (cases_from cs)
some_back [] h = absurd cc
some_back (c ∷ cs) h = tt

stmt_there : (g : Scope) (B : Stmts → Type 0) (x : Stmt) → StmtWith g B x → AnyStmt g B x
stmt_there g B (on_mask m v ss) h = inl (((m, v), ss), h, refl)
stmt_there g B (switch m cs) h =
    inr (inr (inl (
      (m, cases_list cs),
      (h.0, (cases_there g.width B cs h.1.1, some_there cs h.1.0)),
      ap (switch m) (cases_list_is cs),
    )))
stmt_there g B (extract x s) h = inr (inr (inr (inr ((x, s), h, refl))))
stmt_there g B (assign s a e) h = inr (inr (inr (inl (((s, a), e), h, refl))))
stmt_there g B (call n s) h = inr (inl ((n, s), h, refl))

stmt_back : (g : Scope) (B : Stmts → Type 0) (x : Stmt) → AnyStmt g B x → StmtWith g B x
stmt_back g B x (inl h) = subst (StmtWith g B) h.2 h.1
stmt_back g B x (inr (inl h)) = subst (StmtWith g B) h.2 h.1
stmt_back g B x (inr (inr (inl h))) =
    subst (StmtWith g B) h.2 (h.1.0, (some_back h.0.1 h.1.1.1, cases_back g.width B h.0.1 h.1.1.0))
stmt_back g B x (inr (inr (inr (inl h)))) = subst (StmtWith g B) h.2 h.1
stmt_back g B x (inr (inr (inr (inr h)))) = subst (StmtWith g B) h.2 h.1

stmt_reads : (g : Scope) (B : Stmts → Type 0) (inner : Parse Stmts)
    → Reads (Stops starts_stmt) B (all_spelled g) inner
    → Reads Any (StmtWith g B) (spelled g) (stmt_at g inner)
unfolding stmt_at
stmt_reads g B inner r =
    known_reads (stmt_there g B) (stmt_back g B) (λ x h. refl)
    (choose_reads (begins if_open) (is_if g B) (no_if g B) (if_reads g B inner r)
    (choose_reads (begins if_word) (is_call g) (λ x rest h k. no_if_switch g B [] x rest h)
    (call_reads g.width g.decoder g.prefix)
    (choose_reads (begins switch_word) (is_switch g B) (no_switch g) (switch_reads g B inner r)
    (choose_reads (begins u_word) (is_assign g) (λ x rest h k. no_extract g (codes "u") [] x rest (lit< tt) h)
    (assign_reads g) (extract_reads g)))))

-- statements one after another
no_brace : (w : List ℕ) (ts : List Token) → begins block_end (word w ∷ ts) ≡ false
unfolding begins after
no_brace w ts = refl

starts_word : (w : List ℕ) (ts : List Token) → (codes "break" ≡ w → ⊥) → (codes "return" ≡ w → ⊥)
    → starts_stmt (word w ∷ ts) ≡ true
unfolding starts_stmt
starts_word w ts h k =
    ap (λ b. not (begins block_end (word w ∷ ts) || (b || begins return_word (word w ∷ ts))))
    (no_first (codes "break") w [] ts h)
    ∙ ap (λ b. not (begins block_end (word w ∷ ts) || b)) (no_first (codes "return") w [] ts k)
    ∙ ap (λ b. not (b || false)) (no_brace w ts)

differ : (v w : List ℕ) → pointwise nat_eq v w ≡ false → v ≡ w → ⊥
differ v w h e = let f : true ≡ false = sym (bytes_self v) ∙ ap (pointwise nat_eq v) e ∙ h in cc

stmt_starts : (g : Scope) (B : Stmts → Type 0) (x : Stmt) (rest : List Token) → StmtWith g B x
    → starts_stmt (spelled g x ++ rest) ≡ true
stmt_starts g B (on_mask m v ss) rest h =
    starts_word (codes "if") _ (differ (codes "break") (codes "if") refl) (differ (codes "return") (codes "if") refl)
stmt_starts g B (switch m cs) rest h =
    starts_word (codes "switch") _
    (differ (codes "break") (codes "switch") refl) (differ (codes "return") (codes "switch") refl)
stmt_starts g B (extract x s) rest h =
    starts_word _ _ (long (codes "break") g.decoder x (lit< tt)) (long (codes "return") g.decoder x (lit< tt))
stmt_starts g B (assign s a e) rest h =
    starts_word (codes "u") _ (differ (codes "break") (codes "u") refl) (differ (codes "return") (codes "u") refl)
stmt_starts g B (call n s) rest h =
    starts_word (codes "if") _ (differ (codes "break") (codes "if") refl) (differ (codes "return") (codes "if") refl)

stmt_some : (g : Scope) (B : Stmts → Type 0) (x : Stmt) → StmtWith g B x → 0 < length (spelled g x)
stmt_some g B (on_mask m v ss) h = omega arith
stmt_some g B (switch m cs) h = omega arith
stmt_some g B (extract x s) h = omega arith
stmt_some g B (assign s a e) h = omega arith
stmt_some g B (call n s) h = omega arith

abbrev StmtsWith : Scope → (Stmts → Type 0) → Stmts → Type 0
StmtsWith g B done = Unit {0}
StmtsWith g B (then s ss) = StmtWith g B s × StmtsWith g B ss

abbrev stmts_list : Stmts → List Stmt
stmts_list done = []
stmts_list (then s ss) = s ∷ stmts_list ss

stmts_list_is : (ss : Stmts) → stmts_from (stmts_list ss) ≡ ss
stmts_list_is done = refl
stmts_list_is (then s ss) = ap (then s) (stmts_list_is ss)

list_there : (g : Scope) (B : Stmts → Type 0) (ss : Stmts) → StmtsWith g B ss
    → AllByRecursion (StmtWith g B) (stmts_list ss)
list_there g B done h = tt
list_there g B (then s ss) h = (h.0, list_there g B ss h.1)

list_back : (g : Scope) (B : Stmts → Type 0) (ss : List Stmt) → AllByRecursion (StmtWith g B) ss
    → StmtsWith g B (stmts_from ss)
list_back g B [] h = tt
list_back g B (s ∷ ss) h = (h.0, list_back g B ss h.1)

stmts_same : (g : Scope) (ss : List Stmt) → all_spelled g (stmts_from ss) ≡ flat_map (spelled g) ss
stmts_same g [] = refl
stmts_same g (s ∷ ss) = ap (λ l. spelled g s ++ l) (stmts_same g ss)

block_reads : (g : Scope) (B : Stmts → Type 0) (inner : Parse Stmts)
    → Reads (Stops starts_stmt) B (all_spelled g) inner
    → Reads (Stops starts_stmt) (StmtsWith g B) (all_spelled g) (block_at g inner)
unfolding block_at
block_reads g B inner r =
    known_reads (λ ss h. (stmts_list ss, list_there g B ss h, stmts_list_is ss))
    (λ ss h. subst (StmtsWith g B) h.2 (list_back g B h.0 h.1)) (λ ss h. refl)
    (made_reads stmts_from (all_spelled g) (λ ss h. stmts_same g ss)
    (many_reads starts_stmt (record { first = stmt_starts g B; some = stmt_some g B }) (stmt_reads g B inner r)))

-- nested less deep than the number
abbrev Inside : Scope → ℕ → Stmts → Type 0
Inside g zero ss = ⊥
Inside g (suc braces) ss = StmtsWith g (Inside g braces) ss

inner_reads : (g : Scope) (braces : ℕ) → Reads (Stops starts_stmt) (Inside g braces) (all_spelled g) (inner_at g braces)
unfolding inner_at
inner_reads g zero = weaken_reads (nothing_reads (all_spelled g))
inner_reads g (suc braces) = block_reads g (Inside g braces) (inner_at g braces) (inner_reads g braces)

within_reads : (g : Scope) (braces : ℕ)
    → Reads (Stops starts_stmt) (StmtsWith g (Inside g braces)) (all_spelled g) (stmts_at g braces)
unfolding stmts_at
within_reads g braces = block_reads g (Inside g braces) (inner_at g braces) (inner_reads g braces)

-- the rules of a body
pub record BodyKeeps (g : Scope) (braces : ℕ) (ss : Stmts) : Type 0 where
  pub keep : StmtsKeep ss
  pub cases : StmtsHaveCases ss
  pub below : StmtsBelow (2 ^ width_bits g.width) ss
  pub calls : g.prefix ≡ None → HaveNoCall ss
  pub within : StmtsWithin braces ss

record CasesKept (g : Scope) (braces : ℕ) (cs : Cases) : Type 0 where
  keep : CasesKeep cs
  cases : CasesHaveCases cs
  below : CasesBelow (2 ^ width_bits g.width) cs
  calls : g.prefix ≡ None → CasesHaveNoCall cs
  within : CasesWithin braces cs

record StmtKept (g : Scope) (braces : ℕ) (s : Stmt) : Type 0 where
  keep : StmtKeeps s
  cases : StmtHasCases s
  below : StmtBelow (2 ^ width_bits g.width) s
  calls : g.prefix ≡ None → HasNoCall s
  within : StmtWithin braces s

called : (prefix : Option Name) → (prefix ≡ None → ⊥) → IsSome prefix
called None h = absurd (h refl)
called (Some p) h = refl

no_prefix : (prefix : Option Name) → IsSome prefix → prefix ≡ None → ⊥
no_prefix prefix h e = let k : false ≡ true = subst (λ x. IsSome x) e h in cc

mutual
  kept_stmt : (g : Scope) (braces : ℕ) (s : Stmt) → StmtKept g braces s → StmtWith g (Inside g braces) s
  kept_stmt g zero (on_mask m v ss) h = absurd h.within
  kept_stmt g (suc braces) (on_mask m v ss) h = (
    (h.below.0, h.below.1),
    kept_stmts g braces ss (record {
      keep = h.keep;
      cases = h.cases;
      below = h.below.2;
      calls = h.calls;
      within = h.within;
    }),
  )
  kept_stmt g zero (switch m cs) h = absurd h.within
  kept_stmt g (suc braces) (switch m cs) h = (
    h.below.0,
    (
      h.cases.0,
      kept_cases g braces cs (record {
        keep = h.keep;
        cases = h.cases.1;
        below = h.below.1;
        calls = h.calls;
        within = h.within;
      }),
    ),
  )
  kept_stmt g braces (extract x s) h = h.keep
  kept_stmt g braces (assign s a e) h = ((h.keep.0, h.keep.1), (h.keep.2, h.keep.3))
  kept_stmt g braces (call n s) h = (called g.prefix h.calls, h.keep)

  kept_stmts : (g : Scope) (braces : ℕ) (ss : Stmts) → BodyKeeps g braces ss → StmtsWith g (Inside g braces) ss
  kept_stmts g braces done h = tt
  kept_stmts g braces (then s ss) h = (
    kept_stmt g braces s (record {
      keep = h.keep.0;
      cases = h.cases.0;
      below = h.below.0;
      calls = λ e. (h.calls e).0;
      within = h.within.0;
    }),
    kept_stmts g braces ss (record {
      keep = h.keep.1;
      cases = h.cases.1;
      below = h.below.1;
      calls = λ e. (h.calls e).1;
      within = h.within.1;
    }),
  )

  kept_cases : (g : Scope) (braces : ℕ) (cs : Cases) → CasesKept g braces cs
      → CasesWith g.width (Inside g (suc braces)) cs
  kept_cases g braces no_case h = tt
  kept_cases g braces (or_case v ss cs) h = (
    (
      h.below.0,
      kept_stmts g braces ss (record {
        keep = h.keep.0;
        cases = h.cases.0;
        below = h.below.1;
        calls = λ e. (h.calls e).0;
        within = h.within.0;
      }),
    ),
    kept_cases g braces cs (record {
      keep = h.keep.1;
      cases = h.cases.1;
      below = h.below.2;
      calls = λ e. (h.calls e).1;
      within = h.within.1;
    }),
  )

no_cases : (w : Width) (g : Scope) (cs : Cases) → IsSomeCase cs → CasesWith w (Inside g zero) cs → ⊥
no_cases w g no_case h k = h
no_cases w g (or_case v ss cs) h k = k.0.1

mutual
  stmt_kept : (g : Scope) (braces : ℕ) (s : Stmt) → StmtWith g (Inside g braces) s → StmtKept g braces s
  stmt_kept g zero (on_mask m v ss) h = absurd h.1
  stmt_kept g (suc braces) (on_mask m v ss) h =
      let k = stmts_kept g braces ss h.1 in
      record { keep = k.keep; cases = k.cases; below = (h.0.0, h.0.1, k.below); calls = k.calls; within = k.within }
  stmt_kept g zero (switch m cs) h = absurd (no_cases g.width g cs h.1.0 h.1.1)
  stmt_kept g (suc braces) (switch m cs) h =
      let k = cases_kept g braces cs h.1.1 in
      record { keep = k.keep; cases = (h.1.0, k.cases); below = (h.0, k.below); calls = k.calls; within = k.within }
  stmt_kept g braces (extract x s) h = record { keep = h; cases = tt; below = tt; calls = λ e. tt; within = tt }
  stmt_kept g braces (assign s a e) h =
      record { keep = (h.0.0, h.0.1, h.1.0, h.1.1); cases = tt; below = tt; calls = λ e. tt; within = tt }
  stmt_kept g braces (call n s) h =
      record { keep = h.1; cases = tt; below = tt; calls = no_prefix g.prefix h.0; within = tt }

  stmts_kept : (g : Scope) (braces : ℕ) (ss : Stmts) → StmtsWith g (Inside g braces) ss → BodyKeeps g braces ss
  stmts_kept g braces done h = record { keep = tt; cases = tt; below = tt; calls = λ e. tt; within = tt }
  stmts_kept g braces (then s ss) h =
      let k = stmt_kept g braces s h.0 in
      let l = stmts_kept g braces ss h.1 in
      record {
        keep = (k.keep, l.keep);
        cases = (k.cases, l.cases);
        below = (k.below, l.below);
        calls = λ e. (k.calls e, l.calls e);
        within = (k.within, l.within);
      }

  cases_kept : (g : Scope) (braces : ℕ) (cs : Cases) → CasesWith g.width (Inside g (suc braces)) cs
      → CasesKept g braces cs
  cases_kept g braces no_case h = record { keep = tt; cases = tt; below = tt; calls = λ e. tt; within = tt }
  cases_kept g braces (or_case v ss cs) h =
      let k = stmts_kept g braces ss h.0.1 in
      let l = cases_kept g braces cs h.1 in
      record {
        keep = (k.keep, l.keep);
        cases = (k.cases, l.cases);
        below = (h.0.0, k.below, l.below);
        calls = λ e. (k.calls e, l.calls e);
        within = (k.within, l.within);
      }

pub body_reads : (g : Scope) (braces : ℕ)
    → Reads (Stops starts_stmt) (BodyKeeps g braces)
    (stmts_spelled g.width g.decoder (prefix_name g.prefix)) (stmts_at g braces)
body_reads g braces = known_reads (kept_stmts g braces) (stmts_kept g braces) (λ ss h. refl) (within_reads g braces)

-- each item takes a token
pub stmt_shorter : (g : Scope) (braces : ℕ) (ts : List Token) (x : Stmt) (rest : List Token)
    → stmt_at g (inner_at g braces) ts ≡ Some (x, rest) → length rest < length ts
stmt_shorter g braces ts x rest e =
    let r = stmt_reads g (Inside g braces) (inner_at g braces) (inner_reads g braces) in
    let s = r.sound ts x rest e in
    omega (arith, ap length s.1, length-append (spelled g x) rest, stmt_some g (Inside g braces) x s.0)

pub case_shorter : (g : Scope) (braces : ℕ) (ts : List Token) (x : ℕ × Stmts) (rest : List Token)
    → case_at g.width (inner_at g braces) ts ≡ Some (x, rest) → length rest < length ts
case_shorter g braces ts x rest e =
    let r = case_reads g (Inside g braces) (inner_at g braces) (inner_reads g braces) in
    let s = r.sound ts x rest e in
    omega (arith, ap length s.1, length-append (one_case g x) rest)
