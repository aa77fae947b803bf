use Rattle.std.proofs.Common.{refl, ap, ◌∙◌}
use Rattle.std.proofs.lemmas.Str.Ascii.{trim_ascii_is}
use Rattle.htmd_selectors.specs.SeriesReading.{named_series}
use Rattle.htmd_selectors.proofs.series.series_of.Goals as goal

pub returns : goal.returns
returns c =
    c.named_series.ensures
    ∙ ap named_series (trim_ascii_is c.args.text.now c.trim_ascii.result.now _ refl c.trim_ascii.ensures.value)
