-- The range of a pointer has its character.
use Rattle.std.proofs.Common.{◌≡◌, ◌∙◌, sym, refl, ◌+◌, ◌-◌, ◌<◌, ◌^◌, ◌==◌, false, arith}
use Rattle.std.proofs.lemmas.Bool.{eqb-true, false_from_ne_true}
use Rattle.std.specs.Char.{InScalarRange}
use Rattle.htmd_encodings.proofs.RangesLemmas.{pointer-scalar, scalar-below}
use Rattle.htmd_encodings.proofs.gb18030.by_ranges.Goals as goal

pub overflow_sub-pointer : goal.overflow_sub-pointer
overflow_sub-pointer c =
    rw c.range_of-first.ensures (pointer-scalar c.args.pointer c.if-is_unused.ensures.cases).0

pub overflow_add-number : goal.overflow_add-number
overflow_add-number c =
    let found = c.range_of-first.result in
    let is_character : InScalarRange (found.1 + (c.args.pointer - found.0)) =
    rw c.range_of-first.ensures (pointer-scalar c.args.pointer c.if-is_unused.ensures.cases).1 in
    let below : found.1 + (c.args.pointer - found.0) < 2 ^ 32 = scalar-below _ is_character in
    omega arith

pub character_of-requires : goal.character_of-requires
character_of-requires c =
    rw c.range_of-first.ensures (pointer-scalar c.args.pointer c.if-is_unused.ensures.cases).1

pub returns : goal.returns
returns c =
    let other : (c.args.pointer == 7457) ≡ false =
    false_from_ne_true (c.args.pointer == 7457) (λ e. c.if-pointer-eq7457.false (eqb-true _ _ e)) in
    c.character_of.ensures ∙ rw (c.range_of-first.ensures, sym c.if-is_unused.ensures.value, other) refl
