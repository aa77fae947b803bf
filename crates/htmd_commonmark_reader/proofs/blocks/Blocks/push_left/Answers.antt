-- A lazy line, or the end of containers.
use Rattle.std.proofs.Common.{◌≡◌, ◌∙◌, ◌&&◌, true, false, ap, ap₂, sym, subst}
use Rattle.std.proofs.lemmas.Result.{on_ok_weaker}
use Rattle.htmd_commonmark_reading.specs.BlockStarts.{started}
use Rattle.htmd_commonmark_reading.specs.Boxes.{closed, joined, was_blank}
use Rattle.htmd_commonmark_reading.specs.Containers.{after_container, may_be_lazy}
use Rattle.htmd_commonmark_reading.specs.LeafBlocks.{begun}
use Rattle.htmd_commonmark_reader.specs.LineStarts.{start_of}
use Rattle.htmd_commonmark_reader.specs.LineViews.{line_of}
use Rattle.htmd_commonmark_reader.specs.OpenBlocks.{HoldsBox, inner_leaf}
use Rattle.htmd_commonmark_reader.proofs.BlockStepsLemmas.{is_no_start, left_lazy, left_other, something_starts}
use Rattle.htmd_commonmark_reader.proofs.OpenBlocksLemmas.{inner_lazy}
use Rattle.htmd_commonmark_reader.proofs.blocks.Blocks.push_left.Goals as goal

pub returns-then-is_lazy_row : goal.returns-then-is_lazy_row
returns-then-is_lazy_row c =
    let l = line_of c.args.line in
    let n = c.push_lazily.new.self in
    on_ok_weaker c.push_lazily.result (λ e p done g o size h.
    let b = may_be_lazy o l in
    let flag : c.may_be_lazy-is_lazy.result ≡ b =
    c.may_be_lazy-is_lazy.ensures (inner_leaf o) h.inner ∙ inner_lazy o l in
    let start : start_of l c.line_start-start.result ≡ started (after_container b) l =
    c.line_start-start.ensures.start ∙ ap (λ a. started a l) (c.container.ensures ∙ ap after_container flag) in
    let test : (b && is_no_start (started (after_container b) l)) ≡ true =
    sym (ap₂ (λ x y. x && y) flag (something_starts l c.line_start-start.result ∙ ap is_no_start start))
    ∙ sym c.is_lazy_row.ensures ∙ c.if-is_lazy_row.true in
    subst (λ x. HoldsBox p x n) (left_lazy b done g o l (started (after_container b) l) test) (e p done g o h))
    c.push_lazily.ensures

pub returns : goal.returns
returns c =
    let l = line_of c.args.line in
    let n = c.begin.new.self in
    on_ok_weaker c.begin.result (λ e p done g o size h.
    let b = may_be_lazy o l in
    let flag : c.may_be_lazy-is_lazy.result ≡ b =
    c.may_be_lazy-is_lazy.ensures (inner_leaf o) h.inner ∙ inner_lazy o l in
    let start : start_of l c.line_start-start.result ≡ started (after_container b) l =
    c.line_start-start.ensures.start ∙ ap (λ a. started a l) (c.container.ensures ∙ ap after_container flag) in
    let test : (b && is_no_start (started (after_container b) l)) ≡ false =
    sym (ap₂ (λ x y. x && y) flag (something_starts l c.line_start-start.result ∙ ap is_no_start start))
    ∙ sym c.is_lazy_row.ensures ∙ c.if-is_lazy_row.false in
    let ps = joined done (closed g o) in
    subst (λ x. HoldsBox p x n) (left_other b done g o l (started (after_container b) l) test)
    (subst (λ s. HoldsBox p (begun ps (was_blank g o) l s) n) start
    (e p ps (was_blank g o) (c.in_ok-close_to.ensures p done g o size h))))
    c.begin.ensures
