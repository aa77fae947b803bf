-- `..` is added where no name is left to take away.
use Rattle.std.proofs.Common.{◌≡◌, ◌-◌, List, ℕ, reverse, length, Some, None, Bor, ap, true}
use Rattle.std.specs.Prelude.{slice_get}
use Rattle.htmd_files.specs.Paths.{is_up}
use Rattle.htmd_files.specs.PlaceViews.{texts}
use Rattle.htmd_files.proofs.PathsLemmas.{name_pushed, last_read, none_left, up_again, up_first}
use Rattle.htmd_files.proofs.places.Place.leave.Goals as goal

pub returns-in_ok-push-in-Some-clause-ok : goal.returns-in_ok-push-in-Some-clause-ok
returns-in_ok-push-in-Some-clause-ok c =
    let names : List (Bor (List ℕ)) = c.args.self.now.names.items in
    let v = c.in-Some.ensures.value in
    let s = c.as_slice.ensures.value in
    let e : slice_get names (length names - 1) ≡ Some c.in-Some.last = cc in
    let q = c.eq.ensures in
    let t = c.if-eq.true in
    let u : is_up c.in-Some.last.now ≡ true = cc in
    let w = last_read names c.in-Some.last e in
    up_again c.args.self.now.is_absolute _ (reverse (texts names)) c.args.name.now c.in-Some.last.now w.0 c.requires u
    w.1
    (name_pushed names c.push.new.self.items c.args.name c.in_ok-push-in-Some.ensures.items)

pub returns-in_ok-push-in-None-clause-ok : goal.returns-in_ok-push-in-None-clause-ok
returns-in_ok-push-in-None-clause-ok c =
    let names : List (Bor (List ℕ)) = c.args.self.now.names.items in
    let v = c.in-None.ensures.value in
    let s = c.as_slice.ensures.value in
    let e : slice_get names (length names - 1) ≡ None = cc in
    up_first c.args.self.now.is_absolute _ (reverse (texts names)) c.args.name.now c.requires
    c.if-not-self.true
    (ap (λ (x : List (Bor (List ℕ))). reverse (texts x)) (none_left names e))
    (name_pushed names c.push-then-not-self.new.self.items c.args.name c.in_ok-push-in-None.ensures.items)
