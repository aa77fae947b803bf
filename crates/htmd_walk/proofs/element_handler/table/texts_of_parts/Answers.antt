use Rattle.std.proofs.Common.{rules, ◌≡◌, ◌+◌, sym, ap, ◌∙◌, take, drop, length, min}
use Rattle.htmd_walk.specs.Tables.{with_parts}
use Rattle.htmd_walk.specs.TableViews.{parts_view, texts_view}
use Rattle.htmd_walk.specs.Views.{results_view}
use Rattle.htmd_walk.proofs.TableTextsLemmas.{part_at, parts_end}
use Rattle.htmd_walk.proofs.element_handler.table.texts_of_parts.Goals as goal

pub loop-part-preserved : goal.loop-part-preserved
loop-part-preserved c =
    let parts = c.args.parts.now in
    let rest = c.loop-part.rest.now in
    let i = c.loop-part.part-index in
    let own = c.split_at.result.0.now in
    let behind = c.split_at.result.1.now in
    let count : c.min.result ≡ min (length c.part-item.result.nodes.items) (length rest) = search rules in
    ap (λ t. with_parts t (parts_view (drop (i + 1) parts)) (results_view behind)) c.in_ok-push.ensures
    ∙ sym (part_at (texts_view c.loop-part.texts) parts i c.part-item.result rest own behind c.loop-part-test.true
    c.part-item.is (c.split_at.ensures.front ∙ ap (λ n. take n rest) count)
    (c.split_at.ensures.back ∙ ap (λ n. drop n rest) count))
    ∙ c.loop-part.invariant

pub returns : goal.returns
returns c =
    sym (parts_end (texts_view c.loop-part.texts) c.args.parts.now c.loop-part.part-index
    (results_view c.loop-part.rest.now) c.loop-part-test.false)
    ∙ c.loop-part.invariant
