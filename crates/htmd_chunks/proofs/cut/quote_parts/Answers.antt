use Rattle.std.proofs.Common.{◌≡◌, ◌<◌, ◌∙◌, ◌++◌, ◌∷◌, [], inl, inr, length, ap, arith}
use Rattle.std.proofs.lemmas.Bool.Decides.{nat_tests}
use Rattle.htmd_document.specs.declared.document.Block as source
use Rattle.htmd_chunks.specs.declared.joint.Joint.TheVariants as joint
use Rattle.htmd_chunks.proofs.PartsLemmas.{GoesOn, quote-more}
use Rattle.htmd_chunks.proofs.ShapesLemmas.{quote_shape}
use Rattle.htmd_chunks.proofs.cut.quote_parts.Goals.{then-not-is_empty+in_ok-push+in_ok-extend_from_slice}
use Rattle.htmd_chunks.proofs.cut.quote_parts.Goals.{else-not-is_empty}
use Rattle.htmd_chunks.proofs.cut.quote_parts.Goals as goal

pub loop-part-preserved : goal.loop-part-preserved
loop-part-preserved c =
    let parts = c.loop-part.parts in
    let part = c.in-Some.part in
    let continues = c.if-not-is_empty.continues in
    let how : GoesOn parts.items continues.items (joint.Quote ∷ part.continues.items) =
    elim c.if-not-is_empty.branch [
      | then-not-is_empty+in_ok-push+in_ok-extend_from_slice w ↦
          let some : 0 < length parts.items =
          grind (arith, nat_tests, parts.ok.0, c.is_empty.ensures, w.if-not-is_empty.true) in
          inr (
            some,
            ap (λ v. v.items) w.continues-is ∙ w.in_ok-extend_from_slice.ensures.items
                ∙ ap (λ l. l ++ w.deref.result.now) (w.in_ok-push.ensures.items
                ∙ ap (λ l. l ++ joint.Quote ∷ []) c.new-continues.ensures.items)
                ∙ ap (λ l. joint.Quote ∷ l) w.deref.ensures.value,
          )
      | else-not-is_empty w ↦
          let none : length parts.items ≡ 0 =
          grind (arith, nat_tests, parts.ok.0, c.is_empty.ensures, w.if-not-is_empty.false) in
          inl (none, ap (λ v. v.items) w.continues-is ∙ c.new-continues.ensures.items)
    ] in
    quote-more parts.items c.push-in-loop-part.new.self.items c.loop-part.yielded part
    (record { block = source.Quote part.blocks; continues = continues }) c.loop-part.invariant
    c.in_ok-push-2.ensures.items (quote_shape part.blocks) how
