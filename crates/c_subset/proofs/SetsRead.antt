-- Argument sets and the decoder's union are read exactly.
use Rattle.std.proofs.Common.{◌<◌, length, Some}
use Rattle.std.proofs.Common.{◌≡◌, ℕ, List, [], ◌∷◌, ◌++◌, Bool, true, false, refl, sym, ap, subst, ◌∙◌, arith, append_assoc}
use Rattle.std.specs.Prelude.{codes, flat_map, if◌then◌else◌}
use Rattle.std.specs.List.{All, AllByRecursion}
use Rattle.dt_values.specs.Names.{IsName}
use Rattle.dt_values.specs.Types.{is_text, type_of, type_name}
use Rattle.dt_values.specs.declared.ctype.CType.{CType}
use Rattle.dt_values.specs.declared.ctype.CType.TheVariants.{Int, I8, I16, I32, I64, U8, U16, U32, U64, Other}
use Rattle.dt_values.specs.declared.ctype.Member.{Member}
use Rattle.dt_values.specs.declared.set.SetDef.{SetDef}
use Rattle.c_tokens.specs.Tokens.{Token, word}
use Rattle.c_tokens.specs.Marks.{close_brace, semicolon, arg_, f_}
use Rattle.c_tokens.specs.Parsing.{after, begins}
use Rattle.c_tokens.specs.Front.{name_behind_at}
use Rattle.c_tokens.proofs.Exact.{Reads, Any, Stops, Starts, behind_reads, closed_reads, both_reads, Made, made_reads}
use Rattle.c_tokens.proofs.Exact.{known_reads, guarded_reads, found_reads, word_reads, many_reads, bytes_are, bytes_self}
use Rattle.c_tokens.proofs.WordsRead.{behind_decodes}
use Rattle.c_exprs.proofs.SegmentsRead.{name_reads}
use Rattle.c_subset.specs.Programs.{Name, Pattern, member_spelled, set_spelled, union_set_spelled, union_spelled}
use Rattle.c_subset.specs.Keeps.{IsTypeKept}
use Rattle.c_subset.specs.ProgramParsing.{is_some_pattern}
use Rattle.c_subset.specs.SetParsing.{arg_at, is_inside, member_of, member_at, set_open, set_of, set_at, starts_set}
use Rattle.c_subset.specs.SetParsing.{sets_at, same_names, first_name, union_set_at, union_open, union_close, union_at}
use Rattle.c_subset.proofs.Each.{each_there, each_back, both_there, one_of_both}
use Rattle.c_subset.proofs.ReadLoops.{shorter}

-- the rules of a set that its own text decides
pub record SetNamed (s : SetDef) : Type 0 where
  pub named : IsName s.name
  pub inside : s.outside ≡ false
  pub arguments_named : All (λ m. IsName m.name) s.members
  pub types : All (λ m. IsTypeKept m.ctype) s.members

pub arg_reads : Reads Any IsName (λ s. arg_ s ∷ []) arg_at
unfolding arg_at name_behind_at
arg_reads = word_reads (behind_decodes (codes "arg_"))

named_cases : (b : Bool) (t e : CType) (name : Name) → (b ≡ true → type_name t ≡ name) → type_name e ≡ name
    → type_name (if b then t else e) ≡ name
named_cases true t e name h k = h refl
named_cases false t e name h k = k

named_if : (t e : CType) (text name : Name) → type_name t ≡ text → type_name e ≡ name
    → type_name (if is_text name text then t else e) ≡ name
named_if t e text name h k = named_cases (is_text name text) t e name (λ same. h ∙ sym (bytes_are name text same)) k

-- the type of a name is called by it
pub name_of_type : (name : Name) → type_name (type_of name) ≡ name
name_of_type name =
    named_if _ _ (codes "int") name refl
    (named_if _ _ (codes "int8_t") name refl
    (named_if _ _ (codes "int16_t") name refl
    (named_if _ _ (codes "int32_t") name refl
    (named_if _ _ (codes "int64_t") name refl
    (named_if _ _ (codes "uint8_t") name refl
    (named_if _ _ (codes "uint16_t") name refl
    (named_if _ _ (codes "uint32_t") name refl
    (named_if _ _ (codes "uint64_t") name refl refl))))))))

other_is : (n m : Name) → type_of n ≡ Other m → m ≡ n
other_is n m e = sym (ap type_name e) ∙ name_of_type n

kept_at : (n : Name) (t : CType) → IsName n → type_of n ≡ t → IsTypeKept t
kept_at n Int h e = tt
kept_at n I8 h e = tt
kept_at n I16 h e = tt
kept_at n I32 h e = tt
kept_at n I64 h e = tt
kept_at n U8 h e = tt
kept_at n U16 h e = tt
kept_at n U32 h e = tt
kept_at n U64 h e = tt
kept_at n (Other m) h e = let is = other_is n m e in
    (subst IsName (sym is) h, subst (λ x. type_of x ≡ Other m) (sym is) e)

-- each type that is kept is that of its name
type_back : (t : CType) → IsTypeKept t → IsName (type_name t) × (type_of (type_name t) ≡ t)
type_back Int h = (refl, refl)
type_back I8 h = (refl, refl)
type_back I16 h = (refl, refl)
type_back I32 h = (refl, refl)
type_back I64 h = (refl, refl)
type_back U8 h = (refl, refl)
type_back U16 h = (refl, refl)
type_back U32 h = (refl, refl)
type_back U64 h = (refl, refl)
type_back (Other name) h = h

-- an argument
abbrev MemberKeeps : Member → Type 0
MemberKeeps m = IsName m.name × IsTypeKept m.ctype

abbrev NamesKeep : Name × Name → Type 0
NamesKeep x = IsName x.0 × IsName x.1

member_there : (m : Member) → MemberKeeps m → Made member_of NamesKeep m
member_there m h =
    let t = type_back m.ctype h.1 in
    ((type_name m.ctype, m.name), (t.0, h.0), λ i. record { ctype = t.1 i; name = m.name })

member_back : (m : Member) → Made member_of NamesKeep m → MemberKeeps m
member_back m h = subst MemberKeeps h.2 (h.1.1, kept_at h.0.0 (type_of h.0.0) h.1.0 refl)

member_reads : Reads Any MemberKeeps member_spelled member_at
unfolding member_at
member_reads =
    known_reads member_there member_back (λ m h. refl)
    (made_reads {P = NamesKeep} member_of member_spelled
    (λ x h. ap (λ n. word n ∷ word x.1 ∷ semicolon ∷ []) (name_of_type x.0))
    (both_reads (λ y rest h k. tt) name_reads (closed_reads (semicolon ∷ []) (λ rest. tt) name_reads)))

member_starts : Starts MemberKeeps member_spelled is_inside
unfolding is_inside begins after
member_starts = record { first = λ x rest h. refl; some = λ x h. omega arith }

pub brace_stops : (rest : List Token) → Stops is_inside (close_brace ∷ rest)
unfolding is_inside begins after
brace_stops rest = refl

-- a set
abbrev SetParts : Type 0
SetParts = List Member × Name

abbrev PartsKeep : SetParts → Type 0
PartsKeep x = AllByRecursion MemberKeeps x.0 × IsName x.1

set_there : (s : SetDef) → SetNamed s → Made set_of PartsKeep s
set_there s h = (
  (s.members, s.name),
  (both_there (λ m. IsName m.name) (λ m. IsTypeKept m.ctype) MemberKeeps (λ m n t. (n, t)) s.members h.arguments_named h.types, h.named),
  λ i. record { name = s.name; members = s.members; outside = sym h.inside i },
)

set_back : (s : SetDef) → Made set_of PartsKeep s → SetNamed s
set_back s h = subst SetNamed h.2 (record {
  named = h.1.1;
  inside = refl;
  arguments_named = one_of_both (λ m. IsName m.name) MemberKeeps (λ m k. k.0) h.0.0 h.1.0;
  types = one_of_both (λ m. IsTypeKept m.ctype) MemberKeeps (λ m k. k.1) h.0.0 h.1.0;
})

set_reads : Reads Any SetNamed set_spelled set_at
unfolding set_at
set_reads =
    known_reads set_there set_back (λ s h. refl)
    (made_reads {P = PartsKeep} set_of set_spelled
    (λ x h. ap (λ l. set_open ++ l) (sym (append_assoc (flat_map member_spelled x.0) (close_brace ∷ []) (arg_ x.1 ∷ semicolon ∷ []))))
    (behind_reads set_open (both_reads (λ y rest h k. tt)
    (closed_reads (close_brace ∷ []) brace_stops (many_reads is_inside member_starts member_reads))
    (closed_reads (semicolon ∷ []) (λ rest. tt) arg_reads))))

set_starts : Starts SetNamed set_spelled starts_set
unfolding starts_set begins after
set_starts = record { first = λ x rest h. refl; some = λ x h. omega arith }

pub sets_reads : Reads (Stops starts_set) (All SetNamed) (flat_map set_spelled) sets_at
unfolding sets_at
sets_reads =
    known_reads (each_there SetNamed) (each_back SetNamed) (λ x h. refl)
    (many_reads starts_set set_starts set_reads)

-- a line of the union: one name twice
abbrev OneName : Name × Name → Type 0
OneName x = (IsName x.0 × IsName x.1) × (same_names x ≡ true)

f_reads : Reads Any IsName (λ s. f_ s ∷ []) (name_behind_at (codes "f_"))
unfolding name_behind_at
f_reads = word_reads (behind_decodes (codes "f_"))

union_set_reads : Reads Any IsName union_set_spelled union_set_at
unfolding union_set_at
union_set_reads =
    known_reads (λ s h. ((s, s), ((h, h), bytes_self s), refl)) (λ s h. subst IsName h.2 h.1.0.0) (λ s h. refl)
    (made_reads {P = OneName} first_name union_set_spelled
    (λ x h. ap (λ n. arg_ x.0 ∷ f_ n ∷ semicolon ∷ []) (bytes_are x.0 x.1 h.1))
    (guarded_reads same_names
    (both_reads (λ y rest h k. tt) arg_reads (closed_reads (semicolon ∷ []) (λ rest. tt) f_reads))))

union_set_starts : Starts IsName union_set_spelled is_inside
unfolding is_inside begins after
union_set_starts = record { first = λ x rest h. refl; some = λ x h. omega arith }

-- no set is in the union where there is no pattern
abbrev pub UnionKeeps : Bool → List Name → Type 0
UnionKeeps false sets = sets ≡ []
UnionKeeps true sets = All IsName sets

abbrev pub union_lines : Bool → List Name → List Token
union_lines false sets = []
union_lines true sets = union_open ++ (flat_map union_set_spelled sets ++ union_close)

pub union_reads : (some : Bool) → Reads Any (UnionKeeps some) (union_lines some) (union_at some)
unfolding union_at
union_reads false = found_reads []
union_reads true =
    known_reads (each_there IsName) (each_back IsName) (λ x h. refl)
    (behind_reads union_open (closed_reads union_close (λ rest. brace_stops _)
    (many_reads is_inside union_set_starts union_set_reads)))

pub union_same : (ps : List Pattern) (sets : List Name) → union_spelled ps sets ≡ union_lines (is_some_pattern ps) sets
union_same [] sets = refl
union_same (p ∷ ps) sets = refl

-- each item takes tokens
pub member_shorter : (ts : List Token) (x : Member) (rest : List Token) → member_at ts ≡ Some (x, rest)
    → length rest < length ts
member_shorter = shorter member_reads member_starts

pub set_shorter : (ts : List Token) (x : SetDef) (rest : List Token) → set_at ts ≡ Some (x, rest)
    → length rest < length ts
set_shorter = shorter set_reads set_starts

pub union_set_shorter : (ts : List Token) (x : Name) (rest : List Token) → union_set_at ts ≡ Some (x, rest)
    → length rest < length ts
union_set_shorter = shorter union_set_reads union_set_starts
