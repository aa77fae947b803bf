use Rattle.std.proofs.Common.{◌∙◌, sym, ap}
use Rattle.htmd_lexical.specs.Attributes.{pairs_of}
use Rattle.htmd_shown.specs.Belows.{below_of}
use Rattle.htmd_shown.proofs.BelowsLemmas.{image_below}
use Rattle.htmd_shown.proofs.ShapesLemmas.{image_shape}
use Rattle.htmd_shown.proofs.sight.Seen.of_image.Goals as goal

pub returns-clause-summed : goal.returns-clause-summed
returns-clause-summed c =
    c.of_image.ensures
    ∙ image_below c.args.address (pairs_of c.args.attrs.now) c.text_of.result.now c.is_some.result
    c.is_some.ensures c.text_of.ensures
    ∙ ap below_of (sym (image_shape c.args.address c.args.attrs))
