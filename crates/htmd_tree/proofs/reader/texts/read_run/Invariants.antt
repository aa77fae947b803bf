-- What the loop of `read_run` keeps.
use Rattle.std.proofs.Common.{◌≡◌, ◌<◌, Bool, false, List, [], length}
use Rattle.std.specs.String.{string_bytes}
use Rattle.htmd_grammar.specs.HtmlDocuments.{above_body}
use Rattle.htmd_grammar.specs.Rules.{project}
use Rattle.htmd_grammar.specs.ReaderSteps.{OpenElement, Reaches}
use Rattle.htmd_tree.specs.TextRuns.{is_run_end, in_run, TellsOfText}
use Rattle.htmd_tree.proofs.reader.texts.read_run.Given as goal
use denote.Shadow.{shadow}
use denote.Text.{Utf8}

abbrev pub invariant-loop-around : goal.invariant-loop-around
invariant-loop-around l = record {
  text : shadow (Utf8 l.rest);
  shorter : length l.rest < length l.text;
  longer : 0 < length (string_bytes l.run);
  deep : l.around.too_deep ≡ false;
  steps : (scripting : Bool) (fs : List OpenElement) → TellsOfText scripting l.around l.name fs
      → is_run_end l.around.alone l.name l.text ≡ false
      → Reaches (project scripting) above_body (in_run fs [] l.text) (in_run fs (string_bytes l.run) l.rest);
}

abbrev pub decreases-loop-around : goal.decreases-loop-around
decreases-loop-around l = length l.rest
