-- The rules that each program of the C subset keeps (the C subset, docs/C_SUBSET.md).
use Rattle.std.specs.Prelude.{◌≡◌, ◌≢◌, ◌↔◌, ℕ, ◌<◌, ◌≤◌, ◌^◌, true, false, List, [], map, length}
use Rattle.std.specs.Prelude.{Option, Some, None, IsSome, IfSome}
use Rattle.std.specs.List.{All, AllPairs}
use Rattle.dt_values.specs.Names.{IsName}
use Rattle.dt_values.specs.Widths.{width_bits}
use Rattle.dt_values.specs.Types.{type_of}
use Rattle.dt_values.specs.declared.ctype.CType.{CType}
use Rattle.dt_values.specs.declared.ctype.CType.TheVariants.{Other}
use Rattle.dt_values.specs.declared.set.SetDef.{SetDef}
use Rattle.dt_values.specs.declared.set.TheConstants.{MOST_ARGUMENTS}
use Rattle.c_exprs.specs.Forms.{AssignmentKeeps, StandsIn, TermKeeps}
use Rattle.c_subset.specs.Programs.{Name, Stmt, on_mask, switch, extract, assign, call, Stmts, done, then}
use Rattle.c_subset.specs.Programs.{Cases, no_case, or_case, Pattern, Extraction, Program, LoadBlock, load_block}
use Rattle.c_subset.specs.Programs.{LoadSwitch, no_switch, load_switch, LoadCases, no_load_case, or_load_case}

abbrev pub AllDiffer : List Name → Type 0
AllDiffer names = AllPairs (λ x y. x ≢ y) names

-- any name but `int` and the eight of fixed size, which are types of their own
abbrev pub IsTypeKept : CType → Type 0
IsTypeKept (Other name) = IsName name × (type_of name ≡ Other name)
IsTypeKept known = Unit {0}

-- a set that the text declares, and its arguments
pub record SetKeeps (s : SetDef) : Type 0 where
  pub named : IsName s.name
  pub inside : s.outside ≡ false
  pub few : length s.members ≤ MOST_ARGUMENTS
  pub arguments_named : All (λ m. IsName m.name) s.members
  pub arguments_differ : AllDiffer (map (λ m. m.name) s.members)
  pub types : All (λ m. IsTypeKept m.ctype) s.members

pub record PatternNamed (p : Pattern) : Type 0 where
  pub name : IsName p.name
  pub set : IsName p.set

pub record ExtractionKeeps (e : Extraction) : Type 0 where
  pub format : IsName e.format
  pub set : IsName e.set
  pub assigns : All AssignmentKeeps e.assigns

-- the formats, patterns, sets and arguments that statements speak of are names, and expressions keep their rules
abbrev mutual
  pub StmtKeeps : Stmt → Type 0
  StmtKeeps (on_mask m v ss) = StmtsKeep ss
  StmtKeeps (switch m cs) = CasesKeep cs
  StmtKeeps (extract x s) = IsName x × IsName s
  StmtKeeps (assign s a e) = IsName s × IsName a × TermKeeps e × StandsIn true e
  StmtKeeps (call n s) = IsName n × IsName s

  pub StmtsKeep : Stmts → Type 0
  StmtsKeep done = Unit {0}
  StmtsKeep (then s ss) = StmtKeeps s × StmtsKeep ss

  pub CasesKeep : Cases → Type 0
  CasesKeep no_case = Unit {0}
  CasesKeep (or_case v ss cs) = StmtsKeep ss × CasesKeep cs

-- a switch has at least one case, at any depth
abbrev pub IsSomeCase : Cases → Type 0
IsSomeCase no_case = ⊥
IsSomeCase (or_case v ss cs) = Unit {0}

abbrev mutual
  pub StmtHasCases : Stmt → Type 0
  StmtHasCases (on_mask m v ss) = StmtsHaveCases ss
  StmtHasCases (switch m cs) = IsSomeCase cs × CasesHaveCases cs
  StmtHasCases (extract x s) = Unit {0}
  StmtHasCases (assign s a e) = Unit {0}
  StmtHasCases (call n s) = Unit {0}

  pub StmtsHaveCases : Stmts → Type 0
  StmtsHaveCases done = Unit {0}
  StmtsHaveCases (then s ss) = StmtHasCases s × StmtsHaveCases ss

  pub CasesHaveCases : Cases → Type 0
  CasesHaveCases no_case = Unit {0}
  CasesHaveCases (or_case v ss cs) = StmtsHaveCases ss × CasesHaveCases cs

-- masks and values are below the limit, at any depth
abbrev mutual
  pub StmtBelow : ℕ → Stmt → Type 0
  StmtBelow limit (on_mask m v ss) = (m < limit) × (v < limit) × StmtsBelow limit ss
  StmtBelow limit (switch m cs) = (m < limit) × CasesBelow limit cs
  StmtBelow limit (extract x s) = Unit {0}
  StmtBelow limit (assign s a e) = Unit {0}
  StmtBelow limit (call n s) = Unit {0}

  pub StmtsBelow : ℕ → Stmts → Type 0
  StmtsBelow limit done = Unit {0}
  StmtsBelow limit (then s ss) = StmtBelow limit s × StmtsBelow limit ss

  pub CasesBelow : ℕ → Cases → Type 0
  CasesBelow limit no_case = Unit {0}
  CasesBelow limit (or_case v ss cs) = (v < limit) × StmtsBelow limit ss × CasesBelow limit cs

-- no call stands among the statements, at any depth
abbrev mutual
  pub HasNoCall : Stmt → Type 0
  HasNoCall (on_mask m v ss) = HaveNoCall ss
  HasNoCall (switch m cs) = CasesHaveNoCall cs
  HasNoCall (extract x s) = Unit {0}
  HasNoCall (assign s a e) = Unit {0}
  HasNoCall (call n s) = ⊥

  pub HaveNoCall : Stmts → Type 0
  HaveNoCall done = Unit {0}
  HaveNoCall (then s ss) = HasNoCall s × HaveNoCall ss

  pub CasesHaveNoCall : Cases → Type 0
  CasesHaveNoCall no_case = Unit {0}
  CasesHaveNoCall (or_case v ss cs) = HaveNoCall ss × CasesHaveNoCall cs

-- the numbers of the bytes that are loaded are below 2 ^ 32, at any depth
abbrev pub BytesFit : Option (ℕ × ℕ) → Type 0
BytesFit None = Unit {0}
BytesFit (Some bytes) = (bytes.0 < 2 ^ 32) × (bytes.1 < 2 ^ 32)

abbrev mutual
  pub LoadFits : LoadBlock → Type 0
  LoadFits (load_block bytes more) = BytesFit bytes × LoadSwitchFits more

  pub LoadSwitchFits : LoadSwitch → Type 0
  LoadSwitchFits no_switch = Unit {0}
  LoadSwitchFits (load_switch m cs) = LoadCasesFit cs

  pub LoadCasesFit : LoadCases → Type 0
  LoadCasesFit no_load_case = Unit {0}
  LoadCasesFit (or_load_case v b cs) = LoadFits b × LoadCasesFit cs

-- masks and values of the load function are below the limit, at any depth
abbrev mutual
  pub LoadBelow : ℕ → LoadBlock → Type 0
  LoadBelow limit (load_block bytes more) = LoadSwitchBelow limit more

  pub LoadSwitchBelow : ℕ → LoadSwitch → Type 0
  LoadSwitchBelow limit no_switch = Unit {0}
  LoadSwitchBelow limit (load_switch m cs) = (m < limit) × LoadCasesBelow limit cs

  pub LoadCasesBelow : ℕ → LoadCases → Type 0
  LoadCasesBelow limit no_load_case = Unit {0}
  LoadCasesBelow limit (or_load_case v b cs) = (v < limit) × LoadBelow limit b × LoadCasesBelow limit cs

-- a switch of the load function has at least one case, at any depth
abbrev pub IsSomeLoadCase : LoadCases → Type 0
IsSomeLoadCase no_load_case = ⊥
IsSomeLoadCase (or_load_case v b cs) = Unit {0}

abbrev mutual
  pub LoadHasCases : LoadBlock → Type 0
  LoadHasCases (load_block bytes more) = LoadSwitchHasCases more

  pub LoadSwitchHasCases : LoadSwitch → Type 0
  LoadSwitchHasCases no_switch = Unit {0}
  LoadSwitchHasCases (load_switch m cs) = IsSomeLoadCase cs × LoadCasesHaveCases cs

  pub LoadCasesHaveCases : LoadCases → Type 0
  LoadCasesHaveCases no_load_case = Unit {0}
  LoadCasesHaveCases (or_load_case v b cs) = LoadHasCases b × LoadCasesHaveCases cs

pub record KeepsRules (p : Program) : Type 0 where
  pub sets_keep : All SetKeeps p.sets
  pub sets_differ : AllDiffer (map (λ s. s.name) p.sets)
  pub prefix_with_patterns : IsSome p.prefix ↔ (p.patterns ≢ [])
  pub prefix_named : IfSome p.prefix (λ prefix. IsName prefix.name)
  pub patterns_named : All PatternNamed p.patterns
  pub patterns_differ : AllDiffer (map (λ q. q.name) p.patterns)
  pub extracts_keep : All ExtractionKeeps p.extracts
  pub formats_differ : AllDiffer (map (λ e. e.format) p.extracts)
  pub decoder_named : IsName p.decoder
  pub union_sets_named : All IsName p.union_sets
  pub union_sets_differ : AllDiffer p.union_sets
  pub union_with_patterns : p.patterns ≡ [] → p.union_sets ≡ []
  pub body_keeps : StmtsKeep p.body
  pub body_cases : StmtsHaveCases p.body
  pub body_below : StmtsBelow (2 ^ width_bits p.width) p.body
  pub calls_with_patterns : p.patterns ≡ [] → HaveNoCall p.body
  pub load_fits : IfSome p.load LoadFits
  pub load_below : IfSome p.load (LoadBelow (2 ^ width_bits p.width))
  pub load_cases : IfSome p.load LoadHasCases
