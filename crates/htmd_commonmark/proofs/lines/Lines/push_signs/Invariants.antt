-- The signs so far are written.
use Rattle.std.proofs.Common.{◌≡◌}
use Rattle.std.specs.Prelude.{replicate}
use Rattle.htmd_lexical.specs.Characters.{number_sign}
use Rattle.htmd_commonmark.specs.Pages.{wrote}
use Rattle.htmd_commonmark.proofs.lines.Lines.push_signs.Given as goal

abbrev pub invariant-loop-i : goal.invariant-loop-i
invariant-loop-i l = l.self ≡ wrote l.fn.self (replicate l._i number_sign)
