use Rattle.std.proofs.Common.{take}
use Rattle.std.specs.Prelude.{codes, flat_map}
use Rattle.dt_text.specs.Puts.{Puts}
use Rattle.dt_fields.specs.declared.rule.Rule.TheVariants as rule
use Rattle.dt_forms.specs.View.{texts_of}
use Rattle.dt_tool.specs.Messages as said
use Rattle.dt_tool.proofs.messages.write_notes.Given as goal

abbrev pub invariant-loop-position : goal.invariant-loop-position
invariant-loop-position g l =
    Puts (g.W.Out.state l.initial.out) (g.W.Out.state l.out)
    (flat_map (said.entry_text (codes "note") rule.H2 l.inputs.names.now (texts_of l.inputs.sources.now))
    (take l.position-index l.positions))
