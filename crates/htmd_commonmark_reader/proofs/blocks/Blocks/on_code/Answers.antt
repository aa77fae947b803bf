-- One more line of code, or its end.
use Rattle.std.proofs.Common.{◌∙◌, ◌||◌, ◌∷◌, ◌++◌, [], nat_le, sym, subst}
use Rattle.std.proofs.lemmas.Result.{on_ok_weaker}
use Rattle.htmd_commonmark_reading.specs.BlockStarts.{started, alone}
use Rattle.htmd_commonmark_reading.specs.Boxes as boxes
use Rattle.htmd_commonmark_reading.specs.LeafBlocks.{after_leaf, begun, with_leaf}
use Rattle.htmd_commonmark_reading.specs.Lines as lines
use Rattle.htmd_commonmark_reader.specs.LineViews.{line_of}
use Rattle.htmd_commonmark_reader.specs.OpenBlocks.{HoldsBox}
use Rattle.htmd_commonmark_reader.proofs.BlockStepsLemmas.{box_false, closed_by}
use Rattle.htmd_commonmark_reader.proofs.blocks.Blocks.on_code.Goals as goal

pub returns : goal.returns
returns c =
    let o = c.args.self.now in
    let mid = c.close_code.new.self in
    let n = c.begin.new.self in
    let l = line_of c.args.line in
    on_ok_weaker c.begin.result (λ e p done g ls h i.
    let ps = boxes.joined done (boxes.closed_leaf g (boxes.indented ls)) in
    box_false p (with_leaf done g (boxes.indented (ls ++ ((lines.cut 4 l).text ∷ []))))
    (after_leaf done g (boxes.indented ls) l (started alone l)) (lines.is_blank l || nat_le 4 (lines.indent l)) n
    (sym c.is_code_row.ensures ∙ c.if-is_code_row.false)
    (subst (λ s. HoldsBox p (begun ps (boxes.ends_blank ls) l s) n) c.line_start.ensures.start
    (e p ps (boxes.ends_blank ls)
    (closed_by p done g (λ b. boxes.closed_leaf b (boxes.indented ls)) (λ _. boxes.ends_blank ls) o mid h
    (c.in_ok-close_code.ensures ls i)))))
    c.begin.ensures
