-- One more byte, and the end of the text.
use Rattle.std.proofs.Common.{◌≡◌, ℕ, ◌+◌, ◌<◌, List, length, drop, sym, ap, ◌∙◌, arith}
use Rattle.std.specs.Prelude.{◌||◌}
use Rattle.std.specs.List.{between}
use Rattle.std.proofs.lemmas.List.{drop_more, drop_all}
use Rattle.std.proofs.lemmas.Slice.{between_to_end}
use Rattle.htmd_commonmark.specs.References.{begins_reference, holds_reference}
use Rattle.htmd_commonmark.proofs.reference.holds_reference.Goals as goal

holds_more : (s : List ℕ) (i : ℕ) → i < length s
    → holds_reference (drop i s) ≡ (begins_reference (drop i s) || holds_reference (drop (i + 1) s))
holds_more s i lt =
    ap holds_reference (drop_more s i 0 lt)
    ∙ ap (λ l. begins_reference l || holds_reference (drop (i + 1) s)) (sym (drop_more s i 0 lt))

pub returns-then-begins_reference : goal.returns-then-begins_reference
returns-then-begins_reference c =
    let s = c.args.text.now in
    let i = c.loop-i.i in
    let rest : between i (length s) s ≡ drop i s = between_to_end s i (length s) (omega arith) in
    let here = ap begins_reference (sym rest) ∙ sym c.begins_reference.ensures ∙ c.if-begins_reference.true in
    sym (sym c.loop-i.invariant ∙ holds_more s i c.loop-i-test.true
    ∙ ap (λ t. t || holds_reference (drop (i + 1) s)) here)

pub loop-i-preserved : goal.loop-i-preserved
loop-i-preserved c =
    let s = c.args.text.now in
    let i = c.loop-i.i in
    let rest : between i (length s) s ≡ drop i s = between_to_end s i (length s) (omega arith) in
    let none = ap begins_reference (sym rest) ∙ sym c.begins_reference.ensures ∙ c.if-begins_reference.false in
    sym (sym c.loop-i.invariant ∙ holds_more s i c.loop-i-test.true
    ∙ ap (λ t. t || holds_reference (drop (i + 1) s)) none)

pub returns : goal.returns
returns c = sym (sym c.loop-i.invariant ∙ ap holds_reference (drop_all c.loop-i.i c.args.text.now (omega arith)))
