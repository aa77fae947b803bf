-- Both have names.
use Rattle.std.proofs.Common.{◌≡◌, ◌<◌, subst, length, IfOk, Option, List, ℕ, string_bytes, arith}
use Rattle.std.specs.Prelude.{option_map}
use Rattle.std.proofs.lemmas.Bool.Decides.{nat_tests}
use Rattle.htmd_files.proofs.PathsLemmas.{way_of_files}
use Rattle.htmd_files.proofs.places.way_between.Goals as goal

pub returns : goal.returns
returns c =
    let l : 0 < length c.args.from.now = grind (arith, nat_tests) in
    let m : 0 < length c.args.to.now = grind (arith, nat_tests) in
    subst (λ (x : Option (List ℕ)). IfOk c.way.result (λ w. option_map (λ path. string_bytes path) w ≡ x))
    (way_of_files c.args.from.now c.args.to.now c.folder_of.result.now l m c.folder_of.ensures.value) c.way.ensures
