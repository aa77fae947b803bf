-- Text below definitions alone, or a heading.
use Rattle.std.proofs.Common.{◌∙◌, ◌∷◌, ◌++◌, [], false, ap, sym, subst}
use Rattle.std.proofs.lemmas.Result.{on_ok_weaker}
use Rattle.htmd_lexical.specs.CharacterClasses.{is_empty}
use Rattle.htmd_commonmark_reading.specs.BlockStarts.{started, under}
use Rattle.htmd_commonmark_reading.specs.Boxes as boxes
use Rattle.htmd_commonmark_reading.specs.LeafBlocks as leaves
use Rattle.htmd_commonmark_reading.specs.LinkDefinitions.{definitions}
use Rattle.htmd_commonmark_reader.specs.LineViews.{line_of}
use Rattle.htmd_commonmark_reader.specs.OpenBlocks.{Closes}
use Rattle.htmd_commonmark_reader.proofs.BlockStepsLemmas.{box_true, box_false, closed_by}
use Rattle.htmd_commonmark_reader.proofs.blocks.Blocks.on_underline.Goals as goal

pub returns-then-is_alone : goal.returns-then-is_alone
returns-then-is_alone c =
    let l = line_of c.args.line in
    let n = c.on_text.new.self in
    on_ok_weaker c.on_text.result (λ e p done g ls s h i.
    let d = definitions (boxes.joined_lines (ls ++ (s ∷ []))) in
    let other = leaves.on_text done g ls s l (started under l) in
    let same = c.as_str.ensures.value ∙ c.in_ok-text.ensures ls s i in
    box_true p other
    (boxes.box (boxes.joined done (boxes.parts_of g (boxes.headed c.args.level) d)) false boxes.nothing)
    (is_empty d.rest) n
    (sym (ap (λ t. is_empty (definitions t).rest) same) ∙ sym c.in_ok-is_alone.ensures
    ∙ c.if-is_alone.true)
    (e p done g ls s h i)) c.on_text.ensures

pub returns : goal.returns
returns c =
    let l = line_of c.args.line in
    let o = c.args.self.now in
    let n = c.push_text.new.self in
    on_ok_weaker c.push_text.result (λ e p done g ls s h i.
    let d = definitions (boxes.joined_lines (ls ++ (s ∷ []))) in
    let other = leaves.on_text done g ls s l (started under l) in
    let same = c.as_str.ensures.value ∙ c.in_ok-text.ensures ls s i in
    let again = c.as_str-2.ensures.value ∙ c.in_ok-text.ensures ls s i in
    box_false p other
    (boxes.box (boxes.joined done (boxes.parts_of g (boxes.headed c.args.level) d)) false boxes.nothing)
    (is_empty d.rest) n
    (sym (ap (λ t. is_empty (definitions t).rest) same) ∙ sym c.in_ok-is_alone.ensures
    ∙ c.if-is_alone.false)
    (closed_by p done g (λ b. boxes.parts_of b (boxes.headed c.args.level) d) (λ _. false) o n h
    (subst (λ t. Closes (boxes.parts_of o.gap (boxes.headed c.args.level) (definitions t)) false o n) again e)))
    c.push_text.ensures
