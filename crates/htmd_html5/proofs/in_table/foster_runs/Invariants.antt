-- What is left to put is the same all along.
use Rattle.std.proofs.Common.{◌≡◌, length}
use Rattle.htmd_html5.specs.InTable.{foster_runs}
use Rattle.htmd_html5.proofs.in_table.foster_runs.Given as goal
use denote.Shadow.{shadow}
use denote.Text.{Utf8}

abbrev pub invariant-loop-rest : goal.invariant-loop-rest
invariant-loop-rest l = record {
  text : shadow (Utf8 l.rest);
  reads : foster_runs (length l.rest) l.rest l.state ≡ foster_runs (length l.text) l.text l.fn.state;
}

abbrev pub decreases-loop-rest : goal.decreases-loop-rest
decreases-loop-rest l = length l.rest
