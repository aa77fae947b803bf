-- The handlers of tr, and of tbody, thead and caption.
use Rattle.std.specs.Prelude.{ℕ, List, [], ◌∷◌, Option, Some, codes}
use Rattle.htmd_text.specs.Trims.{trimmed_text, is_line_feed}
use Rattle.htmd_lexical.specs.BlankLines.{with_blank_lines}
use Rattle.htmd_walk.specs.Handling.{ElementView, ResultView, HandlerMeaning, of_plan}
use Rattle.htmd_walk.specs.ElementPlans.{unless_attributes, plan_under}

-- the content with blank lines around, Markdown if all before it is
abbrev pub part_result : ElementView → ResultView → Option ResultView
part_result view content = Some (record {
  content = with_blank_lines (trimmed_text is_line_feed content.content);
  markdown_translated = view.markdown_translated;
})

-- in Faithful without attributes, and under a parent with one of these tags
abbrev pub parts_under : List (List ℕ) → HandlerMeaning
parts_under tags = of_plan (λ view. unless_attributes view (plan_under tags view)) part_result

abbrev pub table_rows : HandlerMeaning
table_rows = parts_under (codes "tbody" ∷ codes "thead" ∷ [])

-- tbody, thead and caption
abbrev pub table_parts : HandlerMeaning
table_parts = parts_under (codes "table" ∷ [])
