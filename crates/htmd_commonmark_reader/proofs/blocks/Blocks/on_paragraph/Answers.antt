-- A blank line, an underline, or another line.
use Rattle.std.proofs.Common.{◌∙◌, ◌∷◌, ◌++◌, [], true, false, sym, subst}
use Rattle.std.proofs.lemmas.Result.{on_ok_weaker}
use Rattle.htmd_commonmark_reading.specs.BlockStarts.{started, under}
use Rattle.htmd_commonmark_reading.specs.Boxes as boxes
use Rattle.htmd_commonmark_reading.specs.LeafBlocks as leaves
use Rattle.htmd_commonmark_reading.specs.Lines.{is_blank}
use Rattle.htmd_commonmark_reading.specs.LinkDefinitions.{definitions}
use Rattle.htmd_commonmark_reader.specs.LineViews.{line_of}
use Rattle.htmd_commonmark_reader.specs.OpenBlocks.{HoldsBox}
use Rattle.htmd_commonmark_reader.specs.declared.blocks.Blocks.{Blocks}
use Rattle.htmd_commonmark_reader.proofs.BlockStepsLemmas.{box_true, box_false, closed_by, gap_set}
use Rattle.htmd_commonmark_reader.proofs.blocks.Blocks.on_paragraph.Goals as goal

pub returns-then-is_blank : goal.returns-then-is_blank
returns-then-is_blank c = λ p done g ls s h i.
    let l = line_of c.args.line in
    let o = c.args.self.now in
    let mid = c.close_paragraph.new.self in
    let n : Blocks = record {
      closed = mid.closed;
      definitions = mid.definitions;
      boxes = mid.boxes;
      is_empty = mid.is_empty;
      gap = true;
      leaf = mid.leaf;
    } in
    let leaf = boxes.paragraph ls s in
    let ps = boxes.joined done (boxes.closed_leaf g leaf) in
    box_true p (boxes.box ps true boxes.nothing)
    (leaves.on_underline done g (leaves.underline_of l) (definitions (boxes.joined_lines (ls ++ (s ∷ []))))
    (leaves.on_text done g ls s l (started under l))) (is_blank l) n
    (sym c.is_blank.ensures ∙ c.if-is_blank.true)
    (gap_set p ps false true mid
    (closed_by p done g (λ b. boxes.closed_leaf b leaf) (λ _. false) o mid h
    (c.in_ok-close_paragraph.ensures ls s i)))

pub returns-in-Some : goal.returns-in-Some
returns-in-Some c =
    let l = line_of c.args.line in
    let n = c.on_underline.new.self in
    on_ok_weaker c.on_underline.result (λ e p done g ls s h i.
    let d = definitions (boxes.joined_lines (ls ++ (s ∷ []))) in
    let other = leaves.on_text done g ls s l (started under l) in
    box_false p (boxes.box (boxes.joined done (boxes.closed_leaf g (boxes.paragraph ls s))) true boxes.nothing)
    (leaves.on_underline done g (leaves.underline_of l) d other) (is_blank l) n
    (sym c.is_blank.ensures ∙ c.if-is_blank.false)
    (subst (λ u. HoldsBox p (leaves.on_underline done g u d other) n) c.in-Some.ensures (e p done g ls s h i)))
    c.on_underline.ensures

pub returns-in-None : goal.returns-in-None
returns-in-None c =
    let l = line_of c.args.line in
    let n = c.on_text.new.self in
    on_ok_weaker c.on_text.result (λ e p done g ls s h i.
    let d = definitions (boxes.joined_lines (ls ++ (s ∷ []))) in
    let other = leaves.on_text done g ls s l (started under l) in
    box_false p (boxes.box (boxes.joined done (boxes.closed_leaf g (boxes.paragraph ls s))) true boxes.nothing)
    (leaves.on_underline done g (leaves.underline_of l) d other) (is_blank l) n
    (sym c.is_blank.ensures ∙ c.if-is_blank.false)
    (subst (λ u. HoldsBox p (leaves.on_underline done g u d other) n) c.in-None.ensures (e p done g ls s h i)))
    c.on_text.ensures
