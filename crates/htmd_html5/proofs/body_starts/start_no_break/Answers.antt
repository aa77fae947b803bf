-- The steps follow one another.
use Rattle.std.proofs.Common.{◌≡◌, ◌∙◌, ap, subst, OnOk}
use Rattle.htmd_html5.specs.BodyStarts.{close_no_break, start_formatting}
use Rattle.htmd_html5.specs.Tokens.{tag_of}
use Rattle.htmd_html5_state.specs.State.{StateValue}
use Rattle.htmd_html5.proofs.body_starts.start_no_break.Goals as goal

pub returns : goal.returns
returns c =
    subst
    (λ (s : StateValue). OnOk c.start_formatting.result
    (c.start_formatting.new.state ≡ start_formatting (tag_of c.args.tag) s))
    (c.in_ok-close_no_break.ensures ∙ ap close_no_break c.in_ok-reconstruct.ensures) c.start_formatting.ensures
