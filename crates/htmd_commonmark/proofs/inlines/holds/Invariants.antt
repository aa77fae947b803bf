use Rattle.std.proofs.Common.{◌≡◌, drop}
use Rattle.htmd_commonmark.specs.InlineMarkdown as spec
use Rattle.htmd_commonmark.proofs.inlines.holds.Given as goal

-- what was passed holds none
abbrev pub invariant-loop-i : goal.invariant-loop-i
invariant-loop-i l = spec.holds l.signs (drop l.i l.text) ≡ spec.holds l.signs l.text
