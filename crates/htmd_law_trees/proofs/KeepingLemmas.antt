-- What each handler keeps true of the definitions, a conversion keeps.
use Rattle.std.proofs.Common.{◌≡◌, ℕ, zero, suc, Bool, true, false, cond, List, [], ◌∷◌, ◌++◌, Option, Some, None}
use Rattle.std.proofs.Common.{refl, sym, drop, subst}
use Rattle.htmd_text.specs.Blocks.{is_block}
use Rattle.htmd_nodes.specs.Items.{Data, document_node, doctype_node, text_node, comment_node, element_node, data_at}
use Rattle.htmd_nodes.specs.NumberedTrees.{NumberedTree, document, doctype, text, comment, element, NumberedForest}
use Rattle.htmd_nodes.specs.NumberedTrees.{none}
use Rattle.htmd_nodes.specs.NumberedTrees.{more}
use Rattle.htmd_nodes.specs.Ancestors.{Ancestor}
use Rattle.htmd_values.specs.Serialisation.{comment_of}
use Rattle.htmd_walk.specs.Handling.{ElementView, ResultView, PlanView, nothing, this_result, raw_html}
use Rattle.htmd_walk.specs.Handling.{content_of_children}
use Rattle.htmd_walk.specs.Handling.{content_of_descendant, content_of_fallback, contents_of_each, OutcomeView}
use Rattle.htmd_walk.specs.Handling.{final_result, children_too, HandlerMeaning}
use Rattle.htmd_walk.specs.OrdinaryText.{in_pre_or_code}
use Rattle.htmd_walk.specs.Choice.{indexes, handler_at, handlers_at}
use Rattle.htmd_walk.specs.Groups.{groups_of}
use Rattle.htmd_walk.specs.Outputs.{Conversion, Output, push_text, Context, context_of, Writes, is_markdown_alone}
use Rattle.htmd_walk.specs.Children.{is_block_tree, before_child, trim_after, write_children, write_groups, trims_first}
use Rattle.htmd_walk.specs.Children.{content_alone, descendant_tree}
use Rattle.htmd_walk.specs.Elements.{Occurrence, Answer, content_of, raw_element, raw_answer, after_fallback}
use Rattle.htmd_walk.specs.Elements.{contents_alone, outcome_answer, plan_answer, first_answer, answer_after}
use Rattle.htmd_walk.specs.Elements.{occurrence_at}
use Rattle.htmd_walk.specs.Rendering.{write_node, written_within}
use Rattle.htmd_walk.proofs.BeginningsLemmas.{result-definitions}

-- what a handler adds keeps it, for elements that are shown like this
abbrev pub HandlerKeeps : (List (List ℕ) → Type 0) → ElementView → HandlerMeaning → Type 0
HandlerKeeps P view handler = (content : ResultView) (definitions : List (List ℕ)) → P definitions
    → P (definitions ++ (handler.finish view content definitions).added)

abbrev pub HandlersKeep : (List (List ℕ) → Type 0) → Conversion → Type 0
HandlersKeep P conversion =
    (index : ℕ) (view : ElementView) → view.options ≡ conversion.config.options
    → HandlerKeeps P view (handler_at conversion.config.handlers index)

module _ (P : List (List ℕ) → Type 0) where
  abbrev Keeps : Writes → Type 0
  Keeps write = (tree : NumberedTree) (context : Context) (out : Output) → P out.definitions
      → P (write tree context out).definitions

  keeps-if : (b : Bool) (x y : Output) → P x.definitions → P y.definitions → P (cond b x y).definitions
  keeps-if true x y p q = p
  keeps-if false x y p q = q

  keeps-either : (b : Bool) (x y : Answer) → P x.definitions → P y.definitions → P (cond b x y).definitions
  keeps-either true x y p q = p
  keeps-either false x y p q = q

  -- ---- the children of a node

  keeps-before : (b : Bool) (out : Output) → P out.definitions → P (before_child b out).definitions
  keeps-before true out p = p
  keeps-before false out p = p

  keeps-children : (write : Writes) → Keeps write → (inside : List Ancestor) (trees : NumberedForest) (trim : Bool)
      (out : Output) → P out.definitions → P (write_children write inside trees trim out).definitions
  keeps-children write g inside none trim out p = p
  keeps-children write g inside (more tree trees) trim out p =
      let before = before_child (is_block_tree tree) out in
      let after = write tree (context_of inside (in_pre_or_code inside) trim) before in
      keeps-children write g inside trees (trim_after (is_block_tree tree) before after trim) after
      (g tree (context_of inside (in_pre_or_code inside) trim) before (keeps-before (is_block_tree tree) out p))

  keeps-groups : (write : Writes) → Keeps write
      → (inside : List Ancestor) (children : NumberedForest) (out : Output)
      → P out.definitions → P (write_groups write inside children out).definitions
  keeps-groups write g inside children out p =
      keeps-children write g inside (groups_of children) (trims_first inside) out p

  -- ---- an element

  module _ (at : Occurrence) (g : Keeps at.write) where
    keeps-content : (definitions : List (List ℕ)) → P definitions → P (content_of at definitions).definitions
    keeps-content definitions p = keeps-groups at.write g at.inside at.children _ p

    keeps-alone : (tree : NumberedTree) (d : ℕ) (definitions : List (List ℕ)) → P definitions
        → P (content_alone at.write at.conversion tree d definitions).definitions
    keeps-alone tree d definitions p = g tree _ _ p

    keeps-raw_element : (content : Data) (definitions : List (List ℕ)) → P definitions
        → P (raw_element at content definitions).definitions
    keeps-raw_element document_node definitions p = p
    keeps-raw_element doctype_node definitions p = p
    keeps-raw_element (text_node s) definitions p = p
    keeps-raw_element (comment_node s) definitions p = p
    keeps-raw_element (element_node name attributes) definitions p =
        keeps-either (is_block name) _ _ p (keeps-content definitions p)

    keeps-raw : (definitions : List (List ℕ)) → P definitions → P (raw_answer at definitions).definitions
    keeps-raw definitions p = keeps-raw_element (data_at at.conversion.items at.view.node) definitions p

    keeps-contents : (nodes : List ℕ) (definitions : List (List ℕ)) → P definitions
        → P (contents_alone at nodes definitions).definitions
    keeps-contents [] definitions p = p
    keeps-contents (d ∷ ds) definitions p =
        let tree = descendant_tree at.conversion.items at.view.text d in
        keeps-contents ds (content_alone at.write at.conversion tree d definitions).definitions
        (keeps-alone tree d definitions p)

    keeps-fallback : (handler : HandlerMeaning) → HandlerKeeps P at.view handler → (r : Option ResultView)
        (definitions : List (List ℕ)) → P definitions
        → P (after_fallback handler at.view r definitions).definitions
    keeps-fallback handler k None definitions p = p
    keeps-fallback handler k (Some r) definitions p = k r definitions p

    keeps-outcome : (handler : HandlerMeaning) → HandlerKeeps P at.view handler → (outcome : OutcomeView)
        (definitions : List (List ℕ)) → P definitions
        → P (outcome_answer handler at definitions outcome).definitions
    keeps-outcome handler k (final_result result) definitions p = p
    keeps-outcome handler k children_too definitions p = k _ _ (keeps-content definitions p)

    keeps-plan : (handler : HandlerMeaning) → HandlerKeeps P at.view handler → (definitions : List (List ℕ))
        (plan : PlanView) (rest : Answer) → P definitions → P rest.definitions
        → P (plan_answer handler at definitions plan rest).definitions
    keeps-plan handler k definitions nothing rest p q = p
    keeps-plan handler k definitions (this_result r) rest p q = p
    keeps-plan handler k definitions raw_html rest p q = keeps-raw definitions p
    keeps-plan handler k definitions content_of_children rest p q = k _ _ (keeps-content definitions p)
    keeps-plan handler k definitions (content_of_descendant d) rest p q =
        k _ _ (keeps-alone (descendant_tree at.conversion.items at.view.text d) d definitions p)
    keeps-plan handler k definitions content_of_fallback rest p q =
        keeps-fallback handler k rest.result rest.definitions q
    keeps-plan handler k definitions (contents_of_each nodes) rest p q =
        keeps-outcome handler k (handler.finish_each at.view (contents_alone at nodes definitions).results) _
        (keeps-contents nodes definitions p)

    module _ (keeps : HandlersKeep P at.conversion) (same : at.view.options ≡ at.conversion.config.options) where
      keeps-first : (places : List ℕ) (definitions : List (List ℕ)) → P definitions
          → P (first_answer (handlers_at at.conversion.config.handlers places) at definitions).definitions
      keeps-first [] definitions p =
          keeps-either (is_markdown_alone at.conversion.config.options) _ _ (keeps-content definitions p)
          (keeps-raw definitions p)
      keeps-first (place ∷ places) definitions p =
          let handler = handler_at at.conversion.config.handlers place in
          keeps-plan handler (keeps place at.view same) definitions (handler.plan at.view) _ p
          (keeps-first places definitions p)

      keeps-answer : (skipped : ℕ) (tag : List ℕ) (definitions : List (List ℕ)) → P definitions
          → P (answer_after skipped tag at definitions).definitions
      keeps-answer skipped tag definitions p =
          keeps-first (drop skipped (indexes tag at.conversion.config.registered)) definitions p

  -- ---- a node

  keeps-node : (write : Writes) → Keeps write → (conversion : Conversion) → HandlersKeep P conversion
      → Keeps (write_node write conversion)
  keeps-node write g conversion keeps (document id children) context out p = keeps-groups write g _ children out p
  keeps-node write g conversion keeps (doctype id) context out p = p
  keeps-node write g conversion keeps (text id s) context out p = p
  keeps-node write g conversion keeps (comment id s) context out p =
      keeps-if (is_markdown_alone conversion.config.options) out (push_text out (comment_of s)) p p
  keeps-node write g conversion keeps (element id name attributes children) context out p =
      let at = occurrence_at write conversion id (record { tag = name; attributes = attributes } ∷ context.ancestors)
      children in
      subst P (sym (result-definitions out (in_pre_or_code context.ancestors)
      (answer_after 0 name at out.definitions).result _))
      (keeps-answer at g keeps refl 0 name out.definitions p)

  pub keeps-within : (n : ℕ) (conversion : Conversion) → HandlersKeep P conversion
      → (tree : NumberedTree) (context : Context) (out : Output) → P out.definitions
      → P (written_within n conversion tree context out).definitions
  unfolding written_within
  keeps-within zero conversion keeps tree context out p = p
  keeps-within (suc n) conversion keeps tree context out p =
      keeps-node (written_within n conversion) (keeps-within n conversion keeps) conversion keeps tree context out p
