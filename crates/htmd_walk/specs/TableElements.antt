-- The handler of table.
use Rattle.std.specs.Prelude.{Bool, not, ◌&&◌, ◌||◌, if◌then◌else◌, List, Option, Some, None}
use Rattle.std.specs.Option.{option_map}
use Rattle.htmd_text.specs.Trims.{trimmed_text, is_line_feed, some_text}
use Rattle.htmd_lexical.specs.BlankLines.{with_blank_lines}
use Rattle.htmd_walk.specs.Handling.{ElementView, ResultView, PlanView, HandlerMeaning, contents_of_each, final_result}
use Rattle.htmd_walk.specs.Handling.{without_definitions, content_of_fallback, OutcomeView, children_too}
use Rattle.htmd_walk.specs.Outputs.{is_markdown_alone}
use Rattle.htmd_walk.specs.ElementPlans.{raw_block_result, unless_attributes, optional_markdown, markdown_result}
use Rattle.htmd_walk.specs.TableLayouts.{layout_at, nodes_of, has_lines}
use Rattle.htmd_walk.specs.Tables.{has_table_form, with_parts, no_texts, table_text}

-- If no HTML is written, a table without the form of one isn't a table.
abbrev pub is_left_out : ElementView → Bool
is_left_out view = is_markdown_alone view.options && not (has_table_form view.items view.node)

-- the captions and cells, each by itself
abbrev pub table_plan : ElementView → PlanView
table_plan view =
    unless_attributes view (if is_left_out view then content_of_fallback else contents_of_each
    (nodes_of (layout_at view).parts))

-- in Faithful a table with a cell that isn't Markdown is raw HTML; without headers and rows the children's
-- content is asked for
abbrev pub table_outcome : ElementView → List ResultView → OutcomeView
table_outcome view contents =
    let texts = with_parts no_texts (layout_at view).parts contents in
    if is_markdown_alone view.options || texts.markdown_translated
    then (if has_lines (layout_at view)
    then final_result (markdown_result (table_text texts))
    else children_too)
    else final_result (Some (raw_block_result view))

-- what the next handler gives stays as it is; the children's content is put between blank lines
abbrev pub table_result : ElementView → ResultView → Option ResultView
table_result view content =
    if is_left_out view then Some content
    else optional_markdown (option_map with_blank_lines (some_text (trimmed_text is_line_feed content.content)))

abbrev pub tables : HandlerMeaning
tables = record {
  plan = table_plan;
  finish = λ view content definitions. without_definitions (table_result view content);
  finish_each = table_outcome;
  append = λ definitions. None;
}
