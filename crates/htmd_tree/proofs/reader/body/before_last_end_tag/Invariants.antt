-- The front is cut from the text, and no end tag of a body stands after it.
use Rattle.std.proofs.Common.{◌≡◌, ◌≤◌, false, length, take, drop}
use Rattle.htmd_tree.specs.Bodies as spec
use Rattle.htmd_tree.proofs.reader.body.before_last_end_tag.Given as goal
use denote.Text.{Utf8}
use denote.Shadow.{shadow}

abbrev pub invariant-loop-place : goal.invariant-loop-place
invariant-loop-place l = record {
  is_text : shadow (Utf8 l.front);
  within : length l.front ≤ length l.text;
  is_front : l.front ≡ take (length l.front) l.text;
  none_behind : spec.holds_end_tag (drop (length l.front) l.text) ≡ false;
}

abbrev pub decreases-loop-place : goal.decreases-loop-place
decreases-loop-place l = length l.front
