-- Both begin at the same place.
use Rattle.std.proofs.Common.{◌≡◌, ◌∙◌, ap, subst, IfOk, Option, List, ℕ, string_bytes}
use Rattle.std.specs.Prelude.{option_map}
use Rattle.htmd_files.specs.Paths.{Place, place}
use Rattle.htmd_files.specs.PlaceViews.{place_in}
use Rattle.htmd_files.specs.Relative.{relative_place}
use Rattle.htmd_files.proofs.PathsLemmas.{relative_found}
use Rattle.htmd_files.proofs.places.relative.Goals as goal

pub returns : goal.returns
returns c =
    let from = c.in_ok-from.from in
    let to = c.in_ok-to.to in
    subst
    (λ (x : Option (List ℕ)). IfOk c.way_between.result (λ w. option_map (λ path. string_bytes path) w ≡ x))
    (relative_found from.is_absolute to.is_absolute from.names.items to.names.items c.as_slice.result.now
    c.as_slice-2.result.now c.if-from-to.false c.as_slice.ensures.value c.as_slice-2.ensures.value
    ∙ (ap (λ (x : Place). relative_place x (place_in to)) c.in_ok-from.ensures
    ∙ ap (λ (x : Place). relative_place (place c.args.from.now) x) c.in_ok-to.ensures))
    c.way_between.ensures
