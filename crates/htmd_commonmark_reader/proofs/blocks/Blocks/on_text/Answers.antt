-- Text, or something that ends the paragraph.
use Rattle.std.proofs.Common.{◌∙◌, false, sym, subst}
use Rattle.std.proofs.lemmas.Result.{on_ok_weaker}
use Rattle.htmd_commonmark_reading.specs.Boxes as boxes
use Rattle.htmd_commonmark_reading.specs.LeafBlocks as leaves
use Rattle.htmd_commonmark_reader.specs.LineStarts.{start_of}
use Rattle.htmd_commonmark_reader.specs.LineViews.{line_of}
use Rattle.htmd_commonmark_reader.specs.OpenBlocks.{HoldsBox}
use Rattle.htmd_commonmark_reader.proofs.BlockStepsLemmas.{nothing_starts, something_starts, text_other, closed_by}
use Rattle.htmd_commonmark_reader.proofs.blocks.Blocks.on_text.Goals as goal

pub returns-then-is_nothing : goal.returns-then-is_nothing
returns-then-is_nothing c =
    let l = line_of c.args.line in
    let start = c.line_start-start.result in
    let n = c.on_row.new.self in
    on_ok_weaker c.on_row.result (λ e p done g ls s h i.
    subst (λ t. HoldsBox p (leaves.on_text done g ls s l t) n)
    (sym (nothing_starts l start (sym c.is_nothing.ensures ∙ c.if-is_nothing.true))
    ∙ c.line_start-start.ensures.start)
    (e p done g ls s h i)) c.on_row.ensures

pub returns : goal.returns
returns c =
    let l = line_of c.args.line in
    let start = c.line_start-start.result in
    let o = c.args.self.now in
    let mid = c.close_paragraph.new.self in
    let n = c.open.new.self in
    on_ok_weaker c.open.result (λ e p done g ls s h i.
    let leaf = boxes.paragraph ls s in
    let ps = boxes.joined done (boxes.closed_leaf g leaf) in
    subst (λ t. HoldsBox p (leaves.on_text done g ls s l t) n) c.line_start-start.ensures.start
    (subst (λ b. HoldsBox p b n)
    (text_other done g ls s l (start_of l start)
    (sym (something_starts l start) ∙ sym c.is_nothing.ensures ∙ c.if-is_nothing.false))
    (e p ps false
    (closed_by p done g (λ b. boxes.closed_leaf b leaf) (λ _. false) o mid h
    (c.in_ok-close_paragraph.ensures ls s i))))) c.open.ensures
