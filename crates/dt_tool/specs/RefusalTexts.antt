-- The code of each refusal with its text, as messages show them (docs/COMMANDS.md, "Rules").
use Rattle.std.specs.Prelude.{ℕ, List, codes}
use Rattle.dt_tool.specs.declared.refusal.Refusal.{Refusal}
use Rattle.dt_tool.specs.declared.refusal.Refusal.TheVariants as refusal

abbrev pub refusal_text : Refusal → List ℕ
refusal_text refusal.K0 = codes "K0 file too large"
refusal_text refusal.C1 = codes "C1 not in the subset"
refusal_text refusal.C2 = codes "C2 too deep"
refusal_text refusal.E1 = codes "E1 word too wide"
refusal_text refusal.E2 = codes "E2 undeclared set"
