-- What is left to prove of `is_squeezed`.
use Rattle.std.proofs.Common.{◌∙◌, ap, sym, false}
use Rattle.htmd_text.specs.Replacement.{is_squeezed}
use Rattle.htmd_text.proofs.WhiteSpaceLemmas.{squeezed_stays, same_is_squeezed}
use Rattle.htmd_text.proofs.white_space.is_squeezed.Goals as goal

pub returns-clause-stays : goal.returns-clause-stays
returns-clause-stays c = λ is.
    squeezed_stays c.args.text.now false (ap (is_squeezed false) (sym c.as_bytes.ensures.value)
    ∙ sym c.has_single_spaces.ensures ∙ is)

pub returns-clause-changes : goal.returns-clause-changes
returns-clause-changes c = λ same.
    c.has_single_spaces.ensures ∙ ap (is_squeezed false) c.as_bytes.ensures.value
    ∙ same_is_squeezed c.args.text.now same
