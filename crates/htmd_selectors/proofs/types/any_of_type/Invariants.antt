use Rattle.std.proofs.Common.{◌≡◌, drop}
use Rattle.htmd_selectors.specs.Types as spec
use Rattle.htmd_selectors.specs.Views.{compounds_of}
use Rattle.htmd_selectors.proofs.types.any_of_type.Given as goal

abbrev pub invariant-loop-compound : goal.invariant-loop-compound
invariant-loop-compound l =
    spec.any_of_type (compounds_of (drop l.compound-index l.compounds))
    ≡ spec.any_of_type (compounds_of l.compounds)
