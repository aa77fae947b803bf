use Rattle.std.proofs.Common.{ap, ◌∙◌, string_bytes, ◌++◌, List, ℕ, ◌≡◌}
use Rattle.htmd_files.specs.Paths.{joined}
use Rattle.htmd_files.specs.Relative.{ups}
use Rattle.htmd_files.specs.PlaceViews.{texts}
use Rattle.htmd_files.proofs.PathsLemmas.{not_up, up_then_down}
use Rattle.htmd_files.proofs.places.up_and_down.Goals as goal

pub returns-then-contains : goal.returns-then-contains
returns-then-contains c =
    not_up c.args.left.now (texts c.args.names.now) c.contains.result c.contains.ensures.value c.if-contains.true

pub returns : goal.returns
returns c =
    let b = c.new-path.ensures.bytes in
    let u = c.in_ok-push_ups.ensures in
    let j = c.in_ok-push_joined.ensures in
    let e : string_bytes c.push_joined.new.path ≡ ups (texts c.args.left.now) ++ joined (texts c.args.names.now) =
    j ∙ (ap (λ (x : List ℕ). x ++ joined (texts c.args.names.now))
    (u ∙ ap (λ (x : List ℕ). x ++ ups (texts c.args.left.now)) b)) in
    up_then_down c.args.left.now (texts c.args.names.now) c.contains.result _ c.contains.ensures.value
    c.if-contains.false e
