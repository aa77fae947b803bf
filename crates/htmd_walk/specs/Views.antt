-- What the types of the source stand for.
use Rattle.std.specs.Prelude.{ℕ, List, map, Option, Some, None, string_bytes, String}
use Rattle.std.specs.Global.{Global}
use Rattle.std.specs.Option.{option_copied}
use Rattle.htmd_nodes.specs.NumberedTrees.{NumberedForest}
use Rattle.htmd_walk.specs.declared.element_handler.Element.{Element}
use Rattle.htmd_walk.specs.declared.element_handler.HandlerResult.{HandlerResult}
use Rattle.htmd_walk.specs.declared.element_handler.Plan.{Plan}
use Rattle.htmd_walk.specs.declared.element_handler.Plan.TheVariants.{Skip, Text, RawHtml, Children, Descendant}
use Rattle.htmd_walk.specs.declared.element_handler.Plan.TheVariants.{Fallback}
use Rattle.htmd_walk.specs.Handling.{ElementView, ResultView, PlanView, nothing, this_result, raw_html}
use Rattle.htmd_walk.specs.Handling.{content_of_children, content_of_descendant, content_of_fallback}
use Rattle.htmd_walk.specs.Groups.{group_children, children_at}
use Rattle.htmd_walk.specs.Outputs.{Output}
use Rattle.htmd_walk.specs.Elements.{Answer, Contents}

abbrev pub result_view : HandlerResult → ResultView
result_view r = record { content = string_bytes r.content; markdown_translated = r.markdown_translated }

abbrev pub optional_result : Option HandlerResult → Option ResultView
optional_result None = None
optional_result (Some r) = Some (result_view r)

-- a text, if there is one
abbrev pub optional_text : Option (String Global) → Option (List ℕ)
optional_text None = None
optional_text (Some s) = Some (string_bytes s)

abbrev pub results_view : List HandlerResult → List ResultView
results_view results = map result_view results

abbrev pub answer_view : Option HandlerResult → List (List ℕ) → Answer
answer_view r definitions = record { result = optional_result r; definitions = definitions }

abbrev pub contents_view : List HandlerResult → List (List ℕ) → Contents
contents_view results definitions = record { results = results_view results; definitions = definitions }

abbrev pub output_view : HandlerResult → List (List ℕ) → Output
output_view r definitions = record {
  text = string_bytes r.content;
  markdown_translated = r.markdown_translated;
  definitions = definitions;
}

abbrev pub plan_view : Plan → PlanView
plan_view Skip = nothing
plan_view (Text r) = this_result (result_view r)
plan_view RawHtml = raw_html
plan_view Children = content_of_children
plan_view (Descendant d) = content_of_descendant d
plan_view Fallback = content_of_fallback

abbrev pub element_view : Element → ElementView
element_view e = record {
  items = e.tree.now;
  node = e.node;
  text = option_copied e.text;
  options = e.options.now;
  markdown_translated = e.markdown_translated;
}

-- the children that an element shows: of a group, only the joined text
abbrev pub element_children : Element → NumberedForest
element_children e = group_children (option_copied e.text) (children_at e.tree.now e.node)
