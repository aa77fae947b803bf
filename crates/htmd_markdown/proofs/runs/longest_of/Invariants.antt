-- What the loop of `longest_of` keeps.
use Rattle.std.proofs.Common.{◌≡◌, ◌≤◌, drop, max}
use Rattle.htmd_markdown.specs.Runs.{longest_run}
use Rattle.htmd_markdown.proofs.RunsLemmas.{longest_with}
use Rattle.htmd_markdown.proofs.runs.longest_of.Given as goal

abbrev pub invariant-loop-b : goal.invariant-loop-b
invariant-loop-b l = record {
  least : l.run ≤ l.longest;
  most : l.run ≤ l.b-index;
  value : max l.longest (longest_with l.character l.run (drop l.b-index l.text)) ≡ longest_run l.character l.text;
}
