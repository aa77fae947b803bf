-- What the loop of `alignments_values` keeps.
use Rattle.std.proofs.Common.{◌≡◌, map, take}
use Rattle.serde_json.specs.View.{items_of, items_view}
use Rattle.htmd_document.specs.Mdast.{alignment_data}
use Rattle.htmd_document.proofs.mdast.alignments_values.Given as goal

abbrev pub invariant-loop-a : goal.invariant-loop-a
invariant-loop-a l = items_view l.values.items ≡ items_of (take l.a-index (map alignment_data l.alignments))
