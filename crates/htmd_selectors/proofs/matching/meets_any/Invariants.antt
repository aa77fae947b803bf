use Rattle.std.proofs.Common.{◌≡◌, drop}
use Rattle.htmd_selectors.specs.ElementViews.{element_of}
use Rattle.htmd_selectors.specs.Matching as spec
use Rattle.htmd_selectors.specs.Views.{compounds_of}
use Rattle.htmd_selectors.proofs.matching.meets_any.Given as goal

abbrev pub invariant-loop-compound : goal.invariant-loop-compound
invariant-loop-compound l =
    spec.meets_any (element_of l.e) (compounds_of (drop l.compound-index l.compounds))
    ≡ spec.meets_any (element_of l.e) (compounds_of l.compounds)
