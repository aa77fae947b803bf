-- What a text in which all lines count gives.
use Rattle.std.proofs.Common.{◌∙◌, sym, ap}
use Rattle.htmd_document.specs.Documents.{code_block}
use Rattle.htmd_lexical.specs.Attributes.{pairs_of}
use Rattle.htmd_shown.specs.AllTexts.{with_line_feeds, all_text_among, lines_of, without_last_line_feed}
use Rattle.htmd_shown.specs.SimpleViews.{simples_of}
use Rattle.htmd_shown.specs.Spaces.{is_blank_text}
use Rattle.htmd_flow.specs.Flows.{code_parts}
use Rattle.htmd_flow.specs.FlowViews.{context_in}
use Rattle.htmd_flow.specs.Languages.{language_of_block}
use Rattle.htmd_flow.specs.Levels.{list_of}
use Rattle.htmd_flow.specs.Paragraphs.{fed, fed_all}
use Rattle.htmd_flow.specs.ParagraphViews.{writing_in}
use Rattle.htmd_flow.specs.Parts.{edge, whole}
use Rattle.htmd_flow.proofs.FeedLemmas.{on_ok}
use Rattle.htmd_flow.proofs.LeavesLemmas.{text_blank, text_flat, text_block}
use Rattle.htmd_flow.proofs.NodesLemmas.{trees_are}
use Rattle.htmd_flow.proofs.leaves.push_verbatim.Goals as goal

pub returns-then-is_blank_text : goal.returns-then-is_blank_text
returns-then-is_blank_text c =
    let context = context_in c.args.place.now c.args.around.now in
    let s = with_line_feeds (all_text_among (simples_of c.args.content.now)) in
    let bytes = c.as_str.ensures.value ∙ c.in_ok-text.ensures in
    c.in_ok-edge.ensures
    ∙ text_blank (writing_in c.args.out.now) (pairs_of c.args.attrs.now) (simples_of c.args.content.now) s context
    (ap is_blank_text (sym bytes) ∙ sym c.is_blank_text.ensures ∙ c.if-is_blank_text.true)

pub returns-then-place : goal.returns-then-place
returns-then-place c =
    let context = context_in c.args.place.now c.args.around.now in
    let s = with_line_feeds (all_text_among (simples_of c.args.content.now)) in
    let bytes = c.as_str.ensures.value ∙ c.in_ok-text.ensures in
    let bytes_again = c.as_str-then-place.ensures.value ∙ c.in_ok-text.ensures in
    on_ok c.push_code_lines.result c.push_code_lines.ensures (λ e. e
    ∙ ap (λ w. fed_all w (code_parts (lines_of c.as_str-then-place.result.now) context.around)) c.in_ok-edge.ensures
    ∙ ap (λ x. fed_all (fed (writing_in c.args.out.now) edge) (code_parts (lines_of x) context.around)) bytes_again
    ∙ text_flat (writing_in c.args.out.now) (pairs_of c.args.attrs.now) (simples_of c.args.content.now) s context
    (ap is_blank_text (sym bytes) ∙ sym c.is_blank_text.ensures ∙ c.if-is_blank_text.false) c.if-place.true)

pub returns : goal.returns
returns c =
    let context = context_in c.args.place.now c.args.around.now in
    let attributes = pairs_of c.args.attrs.now in
    let s = with_line_feeds (all_text_among (simples_of c.args.content.now)) in
    let bytes = c.as_str.ensures.value ∙ c.in_ok-text.ensures in
    let bytes_again = c.as_str-2.ensures.value ∙ c.in_ok-text.ensures in
    let name = language_of_block attributes (list_of (simples_of c.args.content.now)) context.near in
    let language = c.language_of_block-language.ensures
    ∙ ap (λ ts. language_of_block attributes ts context.near) (sym (trees_are c.args.content.now)) in
    on_ok c.edge-2.result c.edge-2.ensures (λ e. e
    ∙ ap (λ w. fed w edge) (c.in_ok-block.ensures
    ∙ ap (λ b. fed (writing_in c.edge.new.self) (whole b)) (c.in_ok-code_block.ensures
    ∙ ap (λ l. code_block l (without_last_line_feed c.as_str-2.result.now)) language
    ∙ ap (λ x. code_block name (without_last_line_feed x)) bytes_again)
    ∙ ap (λ w. fed w (whole (code_block name (without_last_line_feed s)))) c.in_ok-edge.ensures)
    ∙ text_block (writing_in c.args.out.now) attributes (simples_of c.args.content.now) s context
    (ap is_blank_text (sym bytes) ∙ sym c.is_blank_text.ensures ∙ c.if-is_blank_text.false) c.if-place.false)
