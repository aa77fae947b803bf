-- A fence that closes code, or one more line of it.
use Rattle.std.proofs.Common.{◌≡◌, ◌∙◌, ◌∷◌, ◌++◌, [], true, false, ap₂, sym}
use Rattle.std.proofs.lemmas.Result.{on_ok_weaker}
use Rattle.htmd_commonmark_reading.specs.BlockStarts.{closes_fence}
use Rattle.htmd_commonmark_reading.specs.Boxes as boxes
use Rattle.htmd_commonmark_reading.specs.LeafBlocks.{ended, with_leaf}
use Rattle.htmd_commonmark_reading.specs.Lines as lines
use Rattle.htmd_commonmark_reader.specs.ClosedParts.{leaf_of}
use Rattle.htmd_commonmark_reader.specs.LineViews.{line_of}
use Rattle.htmd_commonmark_reader.specs.declared.closed.ClosedLeaf.TheVariants.{Code}
use Rattle.htmd_commonmark_reader.proofs.BlockStepsLemmas.{box_true, closed_one}
use Rattle.htmd_commonmark_reader.proofs.blocks.Blocks.on_fence.Goals as goal

pub returns-then-closes_fence : goal.returns-then-closes_fence
returns-then-closes_fence c =
    let o = c.args.self.now in
    let n = c.push_leaf.new.self in
    let l = line_of c.args.line in
    let code = c.args.code in
    on_ok_weaker c.push_leaf.result (λ e p done g columns sign count info ls h i.
    let closes : closes_fence sign count l ≡ true =
    sym (ap₂ (λ s k. closes_fence s k l) i.sign_is i.count_is) ∙ sym c.closes_fence.ensures
    ∙ c.if-closes_fence.true in
    box_true p (ended done g (boxes.fenced columns sign count info ls))
    (with_leaf done g (boxes.fenced columns sign count info (ls ++ ((lines.cut columns l).text ∷ []))))
    (closes_fence sign count l) n closes
    (closed_one p done g false (leaf_of (Code code.language code.rows.text))
    (boxes.code (boxes.language info) (boxes.joined_lines ls)) o n h (ap₂ boxes.code i.language_is i.rows.text) e))
    c.push_leaf.ensures
