-- Two names are equal where their numbers are.
use Rattle.htmd_html5_state.proofs.TagLemmas.{number-tests}
use Rattle.htmd_html5_state.proofs.names.TagName.is.Goals as goal

pub returns : goal.returns
returns c = simp (c.number.ensures.value, c.number-2.ensures.value) (number-tests c.args.self c.args.other)
