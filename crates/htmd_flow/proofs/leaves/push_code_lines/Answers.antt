-- One more line.
use Rattle.std.proofs.Common.{◌≡◌, ◌∙◌, sym, ap, take, length, map, lit<, arith}
use Rattle.std.specs.List.{slice_split}
use Rattle.std.proofs.lemmas.List.{length_push, take_all}
use Rattle.std.proofs.lemmas.Iterator.Splits.{YieldsList-from_str_split}
use Rattle.std.proofs.lemmas.Iterator.Consumers.{YieldsList-turn, YieldsList-end}
use Rattle.htmd_lexical.specs.Characters.{line_feed}
use Rattle.htmd_text.specs.Trims.{is_line_feed}
use Rattle.htmd_shown.specs.AllTexts.{lines_of}
use Rattle.htmd_flow.specs.Flows.{code_parts}
use Rattle.htmd_flow.specs.Paragraphs.{fed, fed_all}
use Rattle.htmd_flow.specs.Parts.{edge}
use Rattle.htmd_flow.specs.ParagraphViews.{writing_in}
use Rattle.htmd_flow.specs.PartViews.{around_of}
use Rattle.htmd_flow.proofs.LeavesLemmas.{code_more}
use Rattle.htmd_flow.proofs.leaves.push_code_lines.Goals as goal

pub loop-line-preserved : goal.loop-line-preserved
loop-line-preserved c =
    let inside = c.without_line_feeds_around.result.now in
    let around = map around_of c.args.around.now in
    let same = ap (slice_split is_line_feed) c.without_line_feeds_around.ensures in
    let turn = YieldsList-turn (YieldsList-from_str_split line_feed inside (lit< tt) (cc) (cc) (cc))
    c.loop-line.yielded _ c.loop-line.yielded_by _ _ c.in-Some.line c.in-Some.is c.next.ensures.steps in
    let fed_line = c.in_ok-edge.ensures ∙ ap (λ w. fed w edge) c.in_ok-run.ensures in
    let step = code_more (lines_of c.args.text.now) around (writing_in c.args.out.now) (writing_in c.loop-line.out)
    (length c.loop-line.yielded) c.in-Some.line.now (rw (sym same) turn) c.loop-line.invariant in
    rw (length_push c.loop-line.yielded c.in-Some.line) (fed_line ∙ step)

pub returns : goal.returns
returns c =
    let inside = c.without_line_feeds_around.result.now in
    let same = ap (slice_split is_line_feed) c.without_line_feeds_around.ensures in
    let all = YieldsList-end (YieldsList-from_str_split line_feed inside (lit< tt) (cc) (cc) (cc))
    c.loop-line.yielded _ c.loop-line.yielded_by _ _ c.in-None.is c.next.ensures.steps in
    let whole : take (length c.loop-line.yielded) (lines_of c.args.text.now) ≡ lines_of c.args.text.now =
    take_all (length c.loop-line.yielded) (lines_of c.args.text.now)
    (omega (arith, all.1, ap length same)) in
    c.loop-line.invariant
    ∙ ap (λ lines. fed_all (writing_in c.args.out.now) (code_parts lines (map around_of c.args.around.now))) whole
