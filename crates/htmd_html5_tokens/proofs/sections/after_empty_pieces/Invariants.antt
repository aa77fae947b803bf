-- Nothing but what denotes nothing stood before what is left.
use Rattle.std.proofs.Common.{◌≡◌, length}
use Rattle.htmd_html5_tokens.specs.NextToken.{after_empty_pieces}
use Rattle.htmd_html5_tokens.proofs.sections.after_empty_pieces.Given as goal
use denote.Shadow.{shadow}
use denote.Text.{Utf8}

abbrev pub invariant-loop-after : goal.invariant-loop-after
invariant-loop-after l = record {
  text : shadow (Utf8 l.rest);
  same : after_empty_pieces l.foreign l.rest ≡ after_empty_pieces l.foreign l.text;
}

abbrev pub decreases-loop-after : goal.decreases-loop-after
decreases-loop-after l = length l.rest
