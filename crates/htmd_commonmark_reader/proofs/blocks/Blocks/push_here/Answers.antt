-- By the leaf that is open.
use Rattle.std.proofs.Common.{◌≡◌, sym, subst, rules}
use Rattle.std.proofs.lemmas.Result.{on_ok_weaker}
use Rattle.htmd_commonmark_reading.specs.Boxes as boxes
use Rattle.htmd_commonmark_reading.specs.Boxes.{nothing}
use Rattle.htmd_commonmark_reading.specs.Containers.{fed}
use Rattle.htmd_commonmark_reading.specs.LeafBlocks.{begun}
use Rattle.htmd_commonmark_reader.specs.LineViews.{line_of}
use Rattle.htmd_commonmark_reader.specs.OpenBlocks.{HoldsBox, inner_leaf}
use Rattle.htmd_commonmark_reader.specs.OpenLeaves.{IsLeaf}
use Rattle.htmd_commonmark_reader.specs.declared.leaves.Leaf.TheVariants as variant
use Rattle.htmd_commonmark_reader.proofs.OpenBlocksLemmas.{emptied_here, here}
use Rattle.htmd_commonmark_reader.proofs.blocks.Blocks.push_here.Goals as goal

pub returns-in-Nothing : goal.returns-in-Nothing
returns-in-Nothing c =
    let old = c.args.self.now in
    let n = c.begin.new.self in
    let l = line_of c.args.line in
    let leaf : old.leaf ≡ variant.Nothing = search rules in
    let left : c.replace.new.dest ≡ variant.Nothing = search rules in
    on_ok_weaker c.begin.result (λ e p done g o k h.
    let i = subst (λ x. IsLeaf x (inner_leaf o)) leaf h.inner in
    subst (λ q. HoldsBox p (fed done g q l) n) (sym (here o nothing k i))
    (subst (λ s. HoldsBox p (begun done g l s) n) c.line_start.ensures.start
    (e p done g (emptied_here p done g o old c.replace.new.dest left k h)))) c.begin.ensures

pub returns-in-Paragraph : goal.returns-in-Paragraph
returns-in-Paragraph c =
    let old = c.args.self.now in
    let n = c.on_paragraph.new.self in
    let l = line_of c.args.line in
    let leaf : old.leaf ≡ variant.Paragraph c.in-Paragraph.paragraph = search rules in
    let left : c.replace.new.dest ≡ variant.Nothing = search rules in
    on_ok_weaker c.on_paragraph.result (λ e p done g o k h.
    let i = subst (λ x. IsLeaf x (inner_leaf o)) leaf h.inner in
    subst (λ q. HoldsBox p (fed done g q l) n)
    (sym (here o (boxes.leaf (boxes.paragraph i.0 i.1)) k i.2))
    (e p done g i.0 i.1 (emptied_here p done g o old c.replace.new.dest left k h) i.3)) c.on_paragraph.ensures

pub returns-in-Indented : goal.returns-in-Indented
returns-in-Indented c =
    let old = c.args.self.now in
    let n = c.on_code.new.self in
    let l = line_of c.args.line in
    let leaf : old.leaf ≡ variant.Indented c.in-Indented.code = search rules in
    let left : c.replace.new.dest ≡ variant.Nothing = search rules in
    on_ok_weaker c.on_code.result (λ e p done g o k h.
    let i = subst (λ x. IsLeaf x (inner_leaf o)) leaf h.inner in
    subst (λ q. HoldsBox p (fed done g q l) n) (sym (here o (boxes.leaf (boxes.indented i.0)) k i.1))
    (e p done g i.0 (emptied_here p done g o old c.replace.new.dest left k h) i.2)) c.on_code.ensures

pub returns-in-Fenced : goal.returns-in-Fenced
returns-in-Fenced c =
    let old = c.args.self.now in
    let n = c.on_fence.new.self in
    let l = line_of c.args.line in
    let leaf : old.leaf ≡ variant.Fenced c.in-Fenced.code = search rules in
    let left : c.replace.new.dest ≡ variant.Nothing = search rules in
    on_ok_weaker c.on_fence.result (λ e p done g o k h.
    let i = subst (λ x. IsLeaf x (inner_leaf o)) leaf h.inner in
    subst (λ q. HoldsBox p (fed done g q l) n)
    (sym (here o (boxes.leaf (boxes.fenced i.0 i.1 i.2 i.3 i.4)) k i.5))
    (e p done g i.0 i.1 i.2 i.3 i.4 (emptied_here p done g o old c.replace.new.dest left k h) i.6)) c.on_fence.ensures

pub returns-in-Html : goal.returns-in-Html
returns-in-Html c =
    let old = c.args.self.now in
    let n = c.on_html.new.self in
    let l = line_of c.args.line in
    let leaf : old.leaf ≡ variant.Html c.in-Html.html = search rules in
    let left : c.replace.new.dest ≡ variant.Nothing = search rules in
    on_ok_weaker c.on_html.result (λ e p done g o k h.
    let i = subst (λ x. IsLeaf x (inner_leaf o)) leaf h.inner in
    subst (λ q. HoldsBox p (fed done g q l) n) (sym (here o (boxes.leaf (boxes.raw i.0 i.1)) k i.2))
    (e p done g i.0 i.1 (emptied_here p done g o old c.replace.new.dest left k h) i.3)) c.on_html.ensures

pub returns-in-Table : goal.returns-in-Table
returns-in-Table c =
    let old = c.args.self.now in
    let n = c.on_table.new.self in
    let l = line_of c.args.line in
    let leaf : old.leaf ≡ variant.Table c.in-Table.table = search rules in
    let left : c.replace.new.dest ≡ variant.Nothing = search rules in
    on_ok_weaker c.on_table.result (λ e p done g o k h.
    let i = subst (λ x. IsLeaf x (inner_leaf o)) leaf h.inner in
    subst (λ q. HoldsBox p (fed done g q l) n) (sym (here o (boxes.leaf (boxes.table i.0 i.1 i.2)) k i.3))
    (e p done g i.0 i.1 i.2 (emptied_here p done g o old c.replace.new.dest left k h) i.4)) c.on_table.ensures
