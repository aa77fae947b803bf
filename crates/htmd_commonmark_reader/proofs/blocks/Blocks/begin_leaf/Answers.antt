-- Each leaf.
use Rattle.std.proofs.Common.{sym, subst, false}
use Rattle.std.proofs.lemmas.Result.{on_ok_weaker}
use Rattle.htmd_commonmark_reading.specs.BlockStarts.{opened}
use Rattle.htmd_commonmark_reading.specs.Boxes as boxes
use Rattle.htmd_commonmark_reader.specs.LineStarts.{start_of}
use Rattle.htmd_commonmark_reader.specs.LineViews.{line_of}
use Rattle.htmd_commonmark_reader.specs.OpenBlocks.{HoldsBox}
use Rattle.htmd_commonmark_reader.proofs.BlockStepsLemmas.{closed_by}
use Rattle.htmd_commonmark_reader.proofs.blocks.Blocks.begin_leaf.Goals as goal

pub returns-in-Code : goal.returns-in-Code
returns-in-Code c =
    let l = line_of c.args.line in
    let n = c.begin_code.new.self in
    on_ok_weaker c.begin_code.result (λ e p done g h.
    subst (λ t. HoldsBox p (opened done g l (start_of l t)) n) (sym c.in-Code.is) (e p done g h)) c.begin_code.ensures

pub returns-in-Heading : goal.returns-in-Heading
returns-in-Heading c =
    let l = line_of c.args.line in
    let o = c.args.self.now in
    let n = c.push_heading.new.self in
    let t = c.in-Heading.heading in
    on_ok_weaker c.push_heading.result (λ e p done g h.
    subst (λ t. HoldsBox p (opened done g l (start_of l t)) n) (sym c.in-Heading.is)
    (closed_by p done g (λ b. boxes.one_closed_block b (boxes.headed t.level t.text.now)) (λ _. false) o n h e))
    c.push_heading.ensures

pub returns-in-Html : goal.returns-in-Html
returns-in-Html c =
    let l = line_of c.args.line in
    let n = c.begin_html.new.self in
    on_ok_weaker c.begin_html.result (λ e p done g h.
    subst (λ t. HoldsBox p (opened done g l (start_of l t)) n) (sym c.in-Html.is) (e p done g h)) c.begin_html.ensures

pub returns-in-Rule : goal.returns-in-Rule
returns-in-Rule c =
    let l = line_of c.args.line in
    let o = c.args.self.now in
    let n = c.push_leaf.new.self in
    on_ok_weaker c.push_leaf.result (λ e p done g h.
    subst (λ t. HoldsBox p (opened done g l (start_of l t)) n) (sym c.in-Rule.is)
    (closed_by p done g (λ b. boxes.one_closed_block b boxes.rule) (λ _. false) o n h e))
    c.push_leaf.ensures
