-- It didn't stand anywhere so far.
use Rattle.std.proofs.Common.{◌≡◌, drop}
use Rattle.htmd_lexical.specs.CharacterClasses.{holds_in_any_case}
use Rattle.htmd_commonmark_reader.proofs.html_blocks.holds.Given as goal

abbrev pub invariant-loop-at : goal.invariant-loop-at
invariant-loop-at l = holds_in_any_case l.signs (drop l.at l.text) ≡ holds_in_any_case l.signs l.text
