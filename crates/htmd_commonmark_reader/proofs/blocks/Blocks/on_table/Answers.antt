-- One more row, or the end of a table.
use Rattle.std.proofs.Common.{◌∙◌, ◌∷◌, ◌++◌, [], false, sym, subst, refl, ap}
use Rattle.std.proofs.lemmas.Result.{on_ok_weaker}
use Rattle.htmd_commonmark_reading.specs.BlockStarts.{Start, started, alone}
use Rattle.htmd_commonmark_reading.specs.Boxes as boxes
use Rattle.htmd_commonmark_reading.specs.LeafBlocks.{after_leaf, begun, is_row, with_leaf}
use Rattle.htmd_commonmark_reading.specs.Tables.{cells}
use Rattle.htmd_commonmark_reader.specs.LineViews.{line_of}
use Rattle.htmd_commonmark_reader.specs.OpenBlocks.{HoldsBox}
use Rattle.htmd_commonmark_reader.specs.declared.blocks.Blocks.{Blocks}
use Rattle.htmd_commonmark_reader.specs.declared.leaves.Leaf.TheVariants.{Table}
use Rattle.htmd_commonmark_reader.proofs.BlockStepsLemmas.{box_true, box_false, closed_by, set_leaf}
use Rattle.htmd_commonmark_reader.proofs.blocks.Blocks.on_table.Goals as goal

pub returns-then-is_table_row : goal.returns-then-is_table_row
returns-then-is_table_row c = λ p done g alignments header ls h i.
    let o = c.args.self.now in
    let l = line_of c.args.line in
    let more = ls ++ (l.text ∷ []) in
    let n : Blocks = record {
      closed = o.closed;
      definitions = o.definitions;
      boxes = o.boxes;
      is_empty = o.is_empty;
      gap = o.gap;
      leaf = Table c.push.new.self;
    } in
    box_true p (with_leaf done g (boxes.table alignments header more))
    (after_leaf done g (boxes.table alignments header ls) l (started alone l))
    (is_row (cells l.text) (started alone l)) n
    (ap (is_row (cells l.text)) (sym c.line_start-start.ensures.start) ∙ sym c.is_table_row.ensures
    ∙ c.if-is_table_row.true)
    (set_leaf p done g (boxes.table alignments header more) o n h
    (record { closed_is = refl; definitions_are = refl; boxes_are = refl; none = refl; gap_is = refl })
    (alignments, header, more, refl, c.in_ok-push.ensures alignments header ls i))

pub returns : goal.returns
returns c =
    let o = c.args.self.now in
    let mid = c.close.new.self in
    let n = c.begin.new.self in
    let l = line_of c.args.line in
    on_ok_weaker c.begin.result (λ e p done g alignments header ls h i.
    let leaf = boxes.table alignments header ls in
    let ps = boxes.joined done (boxes.closed_leaf g leaf) in
    box_false p (with_leaf done g (boxes.table alignments header (ls ++ (l.text ∷ []))))
    (after_leaf done g leaf l (started alone l)) (is_row (cells l.text) (started alone l)) n
    (ap (is_row (cells l.text)) (sym c.line_start-start.ensures.start) ∙ sym c.is_table_row.ensures
    ∙ c.if-is_table_row.false)
    (subst (λ (s : Start). HoldsBox p (begun ps false l s) n) c.line_start-start.ensures.start
    (e p ps false
    (closed_by p done g (λ b. boxes.closed_leaf b leaf) (λ _. false) o mid h
    (c.in_ok-close.ensures (boxes.leaf leaf) (alignments, header, ls, refl, i))))))
    c.begin.ensures
