use Rattle.std.proofs.Common.{◌∙◌, sym, ap}
use Rattle.htmd_shown.specs.Belows.{below_of, below_of_sign}
use Rattle.htmd_shown.proofs.BelowsLemmas.{text_below}
use Rattle.htmd_shown.proofs.ShapesLemmas.{text_shape}
use Rattle.htmd_shown.proofs.sight.Seen.of_text.Goals as goal

pub returns-clause-summed : goal.returns-clause-summed
returns-clause-summed c =
    c.of_sign.ensures ∙ ap below_of_sign c.of_text.ensures ∙ text_below c.args.text.now c.utf8.text
    ∙ ap below_of (sym (text_shape c.args.text))
