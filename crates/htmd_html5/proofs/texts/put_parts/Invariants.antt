-- What is left to put is the same all along.
use Rattle.std.proofs.Common.{◌≡◌, length}
use Rattle.htmd_html5.specs.Texts.{put_text}
use Rattle.htmd_html5.proofs.texts.put_parts.Given as goal
use denote.Shadow.{shadow}
use denote.Text.{Utf8}

abbrev pub invariant-loop-rest : goal.invariant-loop-rest
invariant-loop-rest l = record {
  text : shadow (Utf8 l.rest);
  reads : put_text l.rest l.state ≡ put_text l.text l.fn.state;
}

abbrev pub decreases-loop-rest : goal.decreases-loop-rest
decreases-loop-rest l = length l.rest
