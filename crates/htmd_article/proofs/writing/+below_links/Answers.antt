-- What is left to prove of the functions of the cycle `below_links`.
use Rattle.std.proofs.Common.{◌≡◌, ◌+◌, ◌<◌, ◌++◌, List, length, OnOk, drop, sym, ap, ◌∙◌}
use Rattle.std.proofs.Common.{subst}
use Rattle.htmd_nodes.specs.Items.{Item, item_at, depth_at}
use Rattle.htmd_nodes.specs.Layout.{forest_items}
use Rattle.htmd_article.specs.PartViews.{parts_of}
use Rattle.htmd_article.specs.TopLinks.{without_links}
use Rattle.htmd_article.specs.Writing.{written}
use Rattle.htmd_article.proofs.BelowLemmas.{links_kept, nothing_kept, block_kept}
use Rattle.htmd_article.proofs.LaidLemmas.{item_at-kept, within-kept}
use Rattle.htmd_article.proofs.TurnsLemmas.{slice-rest}
use Rattle.htmd_article.proofs.WritingLemmas.{laid, linkless_over}
use Rattle.htmd_article.proofs.writing.+below_links.Goals.{push_below_links-in-Links}
use Rattle.htmd_article.proofs.writing.+below_links.Goals.{push_below_links-in-Nothing+in_ok-push_part-in-Nothing}
use Rattle.htmd_article.proofs.writing.+below_links.Goals as goal

pub push_below_links-returns-in-Block : goal.push_below_links-returns-in-Block
push_below_links-returns-in-Block t c =
    subst (λ (ys : List Item). OnOk c.push_parts-in-Block.result (c.push_parts-in-Block.new.out ≡ ys))
    (ap (λ ps. laid c.push_block.new.out c.args.under (written c.args.in_title (parts_of ps)))
    (slice-rest c.args.parts.now (c.loop-i.i + 1))
    ∙ block_kept c.args.out.now c.loop-i.out c.args.under c.args.in_title c.args.parts.now c.loop-i.i
    c.index-parts-i.result c.loop-i-test.true c.index-parts-i.is c.loop-i.invariant.same c.loop-i.invariant.rest
    c.push_block.new.out c.loop-i.invariant.within (sym c.place_of.ensures ∙ c.in-Block.is)
    c.in_ok-push_block-in-Block.ensures) c.push_parts-in-Block.ensures

pub push_below_links-loop-i-preserved : goal.push_below_links-loop-i-preserved
push_below_links-loop-i-preserved t c =
    let out = c.loop-i.out in
    let under = c.args.under in
    let mid = c.match-place_of.out in
    let later = written c.args.in_title (without_links (parts_of (drop (c.loop-i.i + 1) c.args.parts.now))) in
    let depth = depth_at c.args.out.now under + 1 in
    elim c.match-place_of.branch [
      | push_below_links-in-Links w ↦ record {
        within = subst (λ (xs : List Item). under < length xs) (sym w.out-is) c.loop-i.invariant.within;
        same = ap (λ (xs : List Item). item_at xs under) w.out-is ∙ c.loop-i.invariant.same;
        rest =
            ap (λ (xs : List Item). xs ++ forest_items depth under (length xs) later) w.out-is
            ∙ links_kept c.args.out.now out under c.args.in_title c.args.parts.now c.loop-i.i c.index-parts-i.result
            c.loop-i-test.true c.index-parts-i.is c.loop-i.invariant.same c.loop-i.invariant.rest
            (sym c.place_of.ensures ∙ w.in-Links.is);
      }
      | push_below_links-in-Nothing+in_ok-push_part-in-Nothing w ↦ record {
        within = within-kept out mid _ under (w.out-is ∙ w.in_ok-push_part-in-Nothing.ensures)
            c.loop-i.invariant.within;
        same =
            item_at-kept out mid _ under (w.out-is ∙ w.in_ok-push_part-in-Nothing.ensures) c.loop-i.invariant.within
            ∙ c.loop-i.invariant.same;
        rest =
            nothing_kept c.args.out.now out under c.args.in_title c.args.parts.now c.loop-i.i c.index-parts-i.result
            c.loop-i-test.true c.index-parts-i.is c.loop-i.invariant.same c.loop-i.invariant.rest mid
            (sym c.place_of.ensures ∙ w.in-Nothing.is) (w.out-is ∙ w.in_ok-push_part-in-Nothing.ensures);
      }
    ]

pub push_block-returns-in_ok-push_below_links : goal.push_block-returns-in_ok-push_below_links
push_block-returns-in_ok-push_below_links t c =
    linkless_over c.args.out.now c.args.under c.args.in_title c.args.part.now c.add_node.new.out
    c.push_below_links.new.out c.in-Some.id c.in_title_below-in_title.result (sym c.goes.ensures ∙ c.if-goes.false)
    (sym c.in-Some.is ∙ c.in_ok-id.ensures.id) c.in_ok-id.ensures.out c.in_title_below-in_title.ensures
    (c.in_ok-push_below_links.ensures
    ∙ ap (λ ps. laid c.add_node.new.out c.in-Some.id
    (written c.in_title_below-in_title.result (without_links (parts_of ps)))) c.as_slice.ensures.value)
