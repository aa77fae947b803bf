use Rattle.std.proofs.Common.{◌≡◌, ◌<◌, ◌∙◌, ◌++◌, ◌∷◌, [], inl, inr, length, ap, refl, arith}
use Rattle.std.proofs.lemmas.Bool.Decides.{nat_tests}
use Rattle.htmd_chunks.proofs.PartsLemmas.{GoesOn, leaf-more}
use Rattle.htmd_chunks.proofs.cut.leaf_parts.Goals.{then-not-is_empty+in_ok-push, else-not-is_empty}
use Rattle.htmd_chunks.proofs.cut.leaf_parts.Goals as goal

pub loop-block-preserved : goal.loop-block-preserved
loop-block-preserved c =
    let parts = c.loop-block.parts in
    let continues = c.if-not-is_empty.continues in
    let how : GoesOn parts.items continues.items (c.args.joint ∷ []) =
    elim c.if-not-is_empty.branch [
      | then-not-is_empty+in_ok-push w ↦
          let some : 0 < length parts.items =
          grind (arith, nat_tests, parts.ok.0, c.is_empty.ensures, w.if-not-is_empty.true) in
          inr (
            some,
            ap (λ v. v.items) w.continues-is ∙ w.in_ok-push.ensures.items
                ∙ ap (λ l. l ++ c.args.joint ∷ []) c.new-continues.ensures.items,
          )
      | else-not-is_empty w ↦
          let none : length parts.items ≡ 0 =
          grind (arith, nat_tests, parts.ok.0, c.is_empty.ensures, w.if-not-is_empty.false) in
          inl (none, ap (λ v. v.items) w.continues-is ∙ c.new-continues.ensures.items)
    ] in
    leaf-more c.args.joint parts.items c.push-in-loop-block.new.self.items c.loop-block.yielded c.in-Some.block
    (record { block = c.in-Some.block; continues = continues }) c.loop-block.invariant c.in_ok-push-2.ensures.items refl
    how
