-- What the loop of `without_white_end` keeps.
use Rattle.std.proofs.Common.{◌≡◌, length}
use Rattle.std.specs.Str.{chars, IsUtf8}
use Rattle.htmd_text.specs.Trims.{trimmed_end}
use Rattle.htmd_shown.specs.Spaces.{is_white}
use Rattle.htmd_shown.proofs.spaces.without_white_end.Given as goal

abbrev pub invariant-loop-c : goal.invariant-loop-c
invariant-loop-c l = record {
  utf8 : IsUtf8 l.front;
  value : trimmed_end is_white (chars l.front) ≡ trimmed_end is_white (chars l.text);
}

abbrev pub decreases-loop-c : goal.decreases-loop-c
decreases-loop-c l = length l.front
