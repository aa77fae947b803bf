use Rattle.std.proofs.Common.{◌≡◌, subst, IfOk, Option, List, ℕ, string_bytes}
use Rattle.std.specs.Prelude.{option_map}
use Rattle.htmd_files.proofs.PathsLemmas.{way_past}
use Rattle.htmd_files.proofs.places.way.Goals as goal

pub returns : goal.returns
returns c =
    subst
    (λ (x : Option (List ℕ)). IfOk c.up_and_down.result (λ w. option_map (λ path. string_bytes path) w ≡ x))
    (way_past c.args.folder.now c.args.names.now c.folder_of.result.now c.split_at.result.1.now
    c.split_at-2.result.1.now c.shared_len-shared.result c.folder_of.ensures.value c.shared_len-shared.ensures.value
    c.split_at.ensures.back c.split_at-2.ensures.back)
    c.up_and_down.ensures
