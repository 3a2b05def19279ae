use Rattle.std.proofs.Common.{ℕ, List, ap, subst, ◌∙◌}
use Rattle.std.specs.Prelude.{option_map, unwrap_or}
use Rattle.dt_text.specs.Puts.{Puts}
use Rattle.dt_text.proofs.Putting.{puts_more}
use Rattle.c_subset.specs.Programs.{Program}
use Rattle.c_subset.specs.View.{program_of}
use Rattle.c_eval.specs.Loads.{load_of}
use Rattle.dt_tool.specs.RunTexts.{bytes_of_word}
use Rattle.dt_values.specs.Widths.{width_bits}
use Rattle.dt_tool.proofs.RunLines.{loaded_lines}
use Rattle.dt_tool.proofs.run_text.write_loaded.Goals as goal

pub returns-in-Some : goal.returns-in-Some
returns-in-Some g c =
    let p : Program = program_of c.args.program.now in
    let s = c.args.script.now in
    let made = c.bytes_of_word-bytes in
    subst (λ (text : List ℕ). Puts (g.W.Out.state c.args.out.now) (g.W.Out.state c.write_run.new.out) text)
    (loaded_lines s.outcomes s.answers p (load_of p (bytes_of_word (width_bits c.args.program.now.width) c.args.word))
    c.in-Some.word c.from.result made.result.loaded
    (c.in-Some.ensures.word ∙ ap (λ (bs : List ℕ). option_map (λ (l : ℕ × ℕ). l.0) (load_of p bs)) made.ensures)
    (c.from.ensures ∙ c.in-Some.ensures.loaded
    ∙ ap (λ (bs : List ℕ). unwrap_or (option_map (λ (l : ℕ × ℕ). l.1) (load_of p bs)) made.result.loaded) made.ensures))
    (puts_more c.write_number.ensures c.write_run.ensures)
