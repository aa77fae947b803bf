-- What the handlers of an element's tag make of it.
use Rattle.std.specs.Prelude.{ℕ, Bool, true, false, if◌then◌else◌, List, [], ◌∷◌, ◌++◌, drop, Option, Some, None}
use Rattle.htmd_text.specs.Blocks.{is_block}
use Rattle.htmd_nodes.specs.Items.{Data, element_node, data_at}
use Rattle.htmd_nodes.specs.NumberedTrees.{NumberedForest, tree_of, value_tree}
use Rattle.htmd_nodes.specs.Ancestors.{Ancestor}
use Rattle.htmd_values.specs.Serialisation.{serialisation, start_tag, end_tag, is_void}
use Rattle.htmd_values.specs.RawBlocks.{raw_block}
use Rattle.htmd_walk.specs.Handling.{ElementView, ResultView, PlanView, nothing, this_result, raw_html}
use Rattle.htmd_walk.specs.Handling.{content_of_children, content_of_descendant, content_of_fallback, contents_of_each}
use Rattle.htmd_walk.specs.Handling.{OutcomeView, final_result, children_too, Finish, HandlerMeaning}
use Rattle.htmd_walk.specs.Choice.{indexes, handlers_at}
use Rattle.htmd_walk.specs.Groups.{only_text}
use Rattle.htmd_walk.specs.Outputs.{Conversion, Output, Writes, result_of, is_markdown_alone}
use Rattle.htmd_walk.specs.Children.{content_inside, content_alone, descendant_tree}

-- an element where it stands: how what is in it is written, what its handlers are shown, the ancestors
-- of its children (itself the first), and its children
pub record Occurrence : Type 0 where
  pub write : Writes
  pub conversion : Conversion
  pub view : ElementView
  pub inside : List Ancestor
  pub children : NumberedForest

-- what an element leaves: a result or nothing, and the link definitions of the conversion so far
pub record Answer : Type 0 where
  pub result : Option ResultView
  pub definitions : List (List ℕ)

abbrev pub answer_of : Output → Answer
answer_of out = record { result = Some (result_of out); definitions = out.definitions }

abbrev pub without_result : List (List ℕ) → Answer
without_result definitions = record { result = None; definitions = definitions }

-- the children's content
abbrev pub content_of : Occurrence → List (List ℕ) → Output
content_of at definitions = content_inside at.write at.inside at.children definitions

-- ---- raw HTML

-- what is raw HTML isn't Markdown
abbrev pub raw_result : List ℕ → ResultView
raw_result s = record { content = s; markdown_translated = false }

-- how an element ends
abbrev pub end_of_element : List ℕ → List ℕ
end_of_element name = if is_void name then [] else end_tag name

-- for a block element its whole subtree as it was handed in, for another its content between its tags
abbrev pub raw_element : Occurrence → Data → List (List ℕ) → Answer
raw_element at (element_node name attributes) definitions =
    if is_block name
    then record {
      result = Some (raw_result (raw_block (serialisation (value_tree (tree_of at.conversion.items at.view.node)))));
      definitions = definitions;
    }
    else (let out = content_of at definitions in record {
      result = Some (raw_result ((start_tag name attributes ++ out.text) ++ end_of_element name));
      definitions = out.definitions;
    })
raw_element at content definitions = without_result definitions

abbrev pub raw_answer : Occurrence → List (List ℕ) → Answer
raw_answer at definitions = raw_element at (data_at at.conversion.items at.view.node) definitions

-- ---- what a handler asks for

abbrev pub finish_answer : Finish → List (List ℕ) → Answer
finish_answer finish definitions = record { result = finish.result; definitions = definitions ++ finish.added }

abbrev pub with_finish : HandlerMeaning → ElementView → Output → Answer
with_finish handler view out = finish_answer (handler.finish view (result_of out) out.definitions) out.definitions

-- if the rest of the list gave nothing, there is nothing to finish
abbrev pub after_fallback : HandlerMeaning → ElementView → Option ResultView → List (List ℕ) → Answer
after_fallback handler view None definitions = without_result definitions
after_fallback handler view (Some result) definitions =
    finish_answer (handler.finish view result definitions) definitions

-- the results of nodes, each handed over by itself
pub record Contents : Type 0 where
  pub results : List ResultView
  pub definitions : List (List ℕ)

abbrev pub contents_alone : Occurrence → List ℕ → List (List ℕ) → Contents
contents_alone at [] definitions = record { results = []; definitions = definitions }
contents_alone at (d ∷ ds) definitions =
    let tree = descendant_tree at.conversion.items at.view.text d in
    let out = content_alone at.write at.conversion tree d definitions in
    let rest = contents_alone at ds out.definitions in
    record { results = result_of out ∷ rest.results; definitions = rest.definitions }

-- what is made of them, or then of the children's content
abbrev pub outcome_answer : HandlerMeaning → Occurrence → List (List ℕ) → OutcomeView → Answer
outcome_answer handler at definitions (final_result result) = record { result = result; definitions = definitions }
outcome_answer handler at definitions children_too = with_finish handler at.view (content_of at definitions)

abbrev pub each_answer : HandlerMeaning → Occurrence → Contents → Answer
each_answer handler at contents =
    outcome_answer handler at contents.definitions (handler.finish_each at.view contents.results)

-- one handler's answer, given that of the rest of the list
abbrev pub plan_answer : HandlerMeaning → Occurrence → List (List ℕ) → PlanView → Answer → Answer
plan_answer handler at definitions nothing rest = without_result definitions
plan_answer handler at definitions (this_result result) rest =
    record { result = Some result; definitions = definitions }
plan_answer handler at definitions raw_html rest = raw_answer at definitions
plan_answer handler at definitions content_of_children rest = with_finish handler at.view (content_of at definitions)
plan_answer handler at definitions (content_of_descendant d) rest =
    let tree = descendant_tree at.conversion.items at.view.text d in
    with_finish handler at.view (content_alone at.write at.conversion tree d definitions)
plan_answer handler at definitions content_of_fallback rest =
    after_fallback handler at.view rest.result rest.definitions
plan_answer handler at definitions (contents_of_each nodes) rest =
    each_answer handler at (contents_alone at nodes definitions)

-- with no handler left: the children's content, or raw HTML
abbrev pub without_handler : Occurrence → List (List ℕ) → Answer
without_handler at definitions =
    if is_markdown_alone at.conversion.config.options then answer_of (content_of at definitions)
    else raw_answer at definitions

-- the first handler of the list answers
abbrev pub first_answer : List HandlerMeaning → Occurrence → List (List ℕ) → Answer
first_answer [] at definitions = without_handler at definitions
first_answer (handler ∷ handlers) at definitions =
    plan_answer handler at definitions (handler.plan at.view) (first_answer handlers at definitions)

-- what the handlers of a tag make of an element, from the one after this many newer ones on
abbrev pub answer_after : ℕ → List ℕ → Occurrence → List (List ℕ) → Answer
answer_after skipped tag at definitions =
    let config = at.conversion.config in
    first_answer (handlers_at config.handlers (drop skipped (indexes tag config.registered))) at definitions

-- what a handler is shown of an element
abbrev pub view_at : Conversion → ℕ → Bool → NumberedForest → ElementView
view_at conversion id markdown_translated children = record {
  items = conversion.items;
  node = id;
  text = only_text children;
  options = conversion.config.options;
  markdown_translated = markdown_translated;
}

-- an element with these children; all before it counts as Markdown
abbrev pub occurrence_at : Writes → Conversion → ℕ → List Ancestor → NumberedForest → Occurrence
occurrence_at write conversion id inside children = record {
  write = write;
  conversion = conversion;
  view = view_at conversion id true children;
  inside = inside;
  children = children;
}
