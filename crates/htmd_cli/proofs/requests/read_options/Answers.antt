-- Nothing is asked for before the first option; an option more is known, or its value is read in memory.
use Rattle.std.proofs.Common.{rules, ◌∙◌, ◌+◌, ap, sym, refl, arith, is_some}
use Rattle.std.proofs.lemmas.Grind.{common_steps}
use Rattle.htmd_cli.specs.Options.{meaning, known_options, is_read_in_memory}
use Rattle.htmd_cli.proofs.OptionsLemmas.{asked_first, known_more, memory_fault, second, unknown_later, untaken_at}
use Rattle.htmd_cli.proofs.OptionsLemmas.{untaken_later}
use Rattle.htmd_cli.proofs.requests.read_options.Goals.{in-Ok, in-Err-Memory}
use Rattle.htmd_cli.proofs.requests.read_options.Goals as goal

pub loop-option-init : goal.loop-option-init
loop-option-init c = record {
  known = λ _. refl;
  forgotten = λ _. refl;
  unknown = λ e. e;
  untaken = λ e. e;
  so_far = λ _. asked_first _ c.args.options.now c.new-request.ensures;
}

pub loop-option-preserved : goal.loop-option-preserved
loop-option-preserved c =
    let options = c.args.options.now in
    let option = c.option-item.result in
    let i = c.loop-option.option-index in
    let text = c.as_str.ensures.value in
    record {
      known = grind (arith, common_steps);
      forgotten = λ none. elim c.match-take.branch [
        | in-Ok w ↦ known_more options option i (omega arith) c.option-item.is
            (ap (λ s. is_some (meaning known_options s)) (sym text) ∙ w.in-Ok.ensures.known)
            (c.loop-option.invariant.forgotten none)
        | in-Err-Memory w ↦ known_more options option i (omega arith) c.option-item.is
            (ap (λ s. is_some (meaning known_options s)) (sym text)
            ∙ second (is_read_in_memory c.as_str.result.now)
            (is_some (meaning known_options c.as_str.result.now)) (memory_fault w.in-Err-Memory.field-0 _ _
            (search rules) w.in-Err-Memory.ensures.fault) (ap is_read_in_memory text
            ∙ untaken_at options option i (omega arith) c.option-item.is (c.loop-option.invariant.untaken none)))
            (c.loop-option.invariant.forgotten none)
      ];
      unknown = λ e. unknown_later options (i + 1) e;
      untaken = λ e. untaken_later options (i + 1) e;
      so_far = grind (arith, common_steps);
    }
