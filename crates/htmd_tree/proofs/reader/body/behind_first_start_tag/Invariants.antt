-- No start tag of a body stands in what is gone.
use Rattle.std.proofs.Common.{◌≡◌, length}
use Rattle.htmd_tree.specs.Bodies as spec
use Rattle.htmd_tree.proofs.reader.body.behind_first_start_tag.Given as goal
use denote.Text.{Utf8}
use denote.Shadow.{shadow}

abbrev pub invariant-loop-behind : goal.invariant-loop-behind
invariant-loop-behind l = record {
  is_text : shadow (Utf8 l.rest);
  same : spec.behind_first_start_tag l.rest ≡ spec.behind_first_start_tag l.html;
}

abbrev pub decreases-loop-behind : goal.decreases-loop-behind
decreases-loop-behind l = length l.rest
