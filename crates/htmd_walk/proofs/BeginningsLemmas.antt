-- Definitions only grow.
use Rattle.std.proofs.Common.{◌≡◌, ℕ, zero, suc, List, [], ◌∷◌, ◌++◌, Option, Some, None, drop, refl}
use Rattle.std.proofs.Common.{sym, ap, ◌∙◌, Bool, true, false, cond}
use Rattle.std.proofs.lemmas.List.{append_assoc, append-nil}
use Rattle.htmd_text.specs.Blocks.{is_block}
use Rattle.htmd_nodes.specs.Items.{Data, document_node, doctype_node, text_node, comment_node, element_node, data_at}
use Rattle.htmd_nodes.specs.NumberedTrees.{NumberedTree, document, doctype, text, comment, element, NumberedForest}
use Rattle.htmd_nodes.specs.NumberedTrees.{none}
use Rattle.htmd_nodes.specs.NumberedTrees.{more}
use Rattle.htmd_nodes.specs.Ancestors.{Ancestor}
use Rattle.htmd_values.specs.Serialisation.{comment_of}
use Rattle.htmd_walk.specs.Handling.{ElementView, ResultView, PlanView, nothing, this_result, raw_html}
use Rattle.htmd_walk.specs.Handling.{content_of_children}
use Rattle.htmd_walk.specs.Handling.{content_of_descendant, content_of_fallback, contents_of_each, HandlerMeaning}
use Rattle.htmd_walk.specs.Handling.{OutcomeView, final_result, children_too}
use Rattle.htmd_walk.specs.OrdinaryText.{in_pre_or_code}
use Rattle.htmd_walk.specs.Choice.{indexes, handlers_at}
use Rattle.htmd_walk.specs.Groups.{groups_of}
use Rattle.htmd_walk.specs.Outputs.{Conversion, Output, push_text, Context, context_of, Writes, is_markdown_alone}
use Rattle.htmd_walk.specs.Children.{is_block_tree, before_child, trim_after, write_children, write_groups, trims_first}
use Rattle.htmd_walk.specs.Children.{content_alone, descendant_tree}
use Rattle.htmd_walk.specs.Elements.{Occurrence, Answer, content_of, raw_element, raw_answer, after_fallback}
use Rattle.htmd_walk.specs.Elements.{Contents, contents_alone, outcome_answer, plan_answer, first_answer, answer_after}
use Rattle.htmd_walk.specs.Elements.{occurrence_at, each_answer}
use Rattle.htmd_walk.specs.Rendering.{with_result, write_node, written_within}

-- the second list goes on where the first ends
pub record IsBeginning (old whole : List (List ℕ)) : Type 0 where
  pub rest : List (List ℕ)
  pub is : whole ≡ old ++ rest

pub beginning-refl : (a : List (List ℕ)) → IsBeginning a a
beginning-refl a = record { rest = []; is = sym (append-nil a) }

pub beginning-more : (a b : List (List ℕ)) → IsBeginning a (a ++ b)
beginning-more a b = record { rest = b; is = refl }

pub beginning-trans : {a b c : List (List ℕ)} → IsBeginning a b → IsBeginning b c → IsBeginning a c
beginning-trans {a} {b} {c} p q =
    record { rest = p.rest ++ q.rest; is = q.is ∙ ap (λ x. x ++ q.rest) p.is ∙ append_assoc a p.rest q.rest }

pub beginning-to : {a b c : List (List ℕ)} → IsBeginning a b → b ≡ c → IsBeginning a c
beginning-to p e = record { rest = p.rest; is = sym e ∙ p.is }

abbrev pub Grows : Writes → Type 0
Grows write = (tree : NumberedTree) (context : Context) (out : Output)
    → IsBeginning out.definitions (write tree context out).definitions

grows-if : (b : Bool) (a : List (List ℕ)) (x y : Output) → IsBeginning a x.definitions
    → IsBeginning a y.definitions
    → IsBeginning a (cond b x y).definitions
grows-if true a x y p q = p
grows-if false a x y p q = q

grows-either : (b : Bool) (a : List (List ℕ)) (x y : Answer) → IsBeginning a x.definitions
    → IsBeginning a y.definitions
    → IsBeginning a (cond b x y).definitions
grows-either true a x y p q = p
grows-either false a x y p q = q

-- ---- the children of a node

pub grows-before : (b : Bool) (out : Output) → IsBeginning out.definitions (before_child b out).definitions
grows-before true out = beginning-refl out.definitions
grows-before false out = beginning-refl out.definitions

pub grows-children : (write : Writes) → Grows write
    → (inside : List Ancestor) (trees : NumberedForest) (trim : Bool)
    (out : Output) → IsBeginning out.definitions (write_children write inside trees trim out).definitions
grows-children write g inside none trim out = beginning-refl out.definitions
grows-children write g inside (more tree trees) trim out =
    let before = before_child (is_block_tree tree) out in
    let after = write tree (context_of inside (in_pre_or_code inside) trim) before in
    beginning-trans (grows-before (is_block_tree tree) out)
    (beginning-trans (g tree (context_of inside (in_pre_or_code inside) trim) before)
    (grows-children write g inside trees (trim_after (is_block_tree tree) before after trim) after))

pub grows-groups : (write : Writes) → Grows write
    → (inside : List Ancestor) (children : NumberedForest) (out : Output)
    → IsBeginning out.definitions (write_groups write inside children out).definitions
grows-groups write g inside children out = grows-children write g inside (groups_of children) (trims_first inside) out

-- ---- an element

module _ (at : Occurrence) (g : Grows at.write) where
  pub grows-content : (definitions : List (List ℕ))
      → IsBeginning definitions (content_of at definitions).definitions
  grows-content definitions = grows-groups at.write g at.inside at.children _

  pub grows-alone : (tree : NumberedTree) (d : ℕ) (definitions : List (List ℕ))
      → IsBeginning definitions (content_alone at.write at.conversion tree d definitions).definitions
  grows-alone tree d definitions = g tree _ _

  grows-raw_element : (content : Data) (definitions : List (List ℕ))
      → IsBeginning definitions (raw_element at content definitions).definitions
  grows-raw_element document_node definitions = beginning-refl definitions
  grows-raw_element doctype_node definitions = beginning-refl definitions
  grows-raw_element (text_node s) definitions = beginning-refl definitions
  grows-raw_element (comment_node s) definitions = beginning-refl definitions
  grows-raw_element (element_node name attributes) definitions =
      grows-either (is_block name) definitions _ _ (beginning-refl definitions) (grows-content definitions)

  pub grows-raw : (definitions : List (List ℕ)) → IsBeginning definitions (raw_answer at definitions).definitions
  grows-raw definitions = grows-raw_element (data_at at.conversion.items at.view.node) definitions

  pub grows-contents : (nodes : List ℕ) (definitions : List (List ℕ))
      → IsBeginning definitions (contents_alone at nodes definitions).definitions
  grows-contents [] definitions = beginning-refl definitions
  grows-contents (d ∷ ds) definitions =
      let tree = descendant_tree at.conversion.items at.view.text d in
      beginning-trans (grows-alone tree d definitions)
      (grows-contents ds (content_alone at.write at.conversion tree d definitions).definitions)

  pub grows-fallback : (handler : HandlerMeaning) (view : ElementView) (r : Option ResultView)
      (definitions : List (List ℕ))
      → IsBeginning definitions (after_fallback handler view r definitions).definitions
  grows-fallback handler view None definitions = beginning-refl definitions
  grows-fallback handler view (Some r) definitions = beginning-more definitions _

  grows-outcome : (handler : HandlerMeaning) (outcome : OutcomeView) (definitions : List (List ℕ))
      → IsBeginning definitions (outcome_answer handler at definitions outcome).definitions
  grows-outcome handler (final_result result) definitions = beginning-refl definitions
  grows-outcome handler children_too definitions = beginning-trans (grows-content definitions) (beginning-more _ _)

  pub grows-each : (handler : HandlerMeaning) (contents : Contents)
      → IsBeginning contents.definitions (each_answer handler at contents).definitions
  grows-each handler contents =
      grows-outcome handler (handler.finish_each at.view contents.results) contents.definitions

  grows-plan : (handler : HandlerMeaning) (definitions : List (List ℕ)) (p : PlanView) (rest : Answer)
      → IsBeginning definitions rest.definitions
      → IsBeginning definitions (plan_answer handler at definitions p rest).definitions
  grows-plan handler definitions nothing rest h = beginning-refl definitions
  grows-plan handler definitions (this_result r) rest h = beginning-refl definitions
  grows-plan handler definitions raw_html rest h = grows-raw definitions
  grows-plan handler definitions content_of_children rest h = beginning-trans (grows-content definitions)
      (beginning-more _ _)
  grows-plan handler definitions (content_of_descendant d) rest h =
      beginning-trans (grows-alone (descendant_tree at.conversion.items at.view.text d) d definitions)
      (beginning-more _ _)
  grows-plan handler definitions content_of_fallback rest h =
      beginning-trans h (grows-fallback handler at.view rest.result rest.definitions)
  grows-plan handler definitions (contents_of_each nodes) rest h =
      beginning-trans (grows-contents nodes definitions) (grows-each handler (contents_alone at nodes definitions))

  pub grows-first : (handlers : List HandlerMeaning) (definitions : List (List ℕ))
      → IsBeginning definitions (first_answer handlers at definitions).definitions
  grows-first [] definitions =
      grows-either (is_markdown_alone at.conversion.config.options) definitions _ _ (grows-content definitions)
      (grows-raw definitions)
  grows-first (handler ∷ handlers) definitions =
      grows-plan handler definitions (handler.plan at.view) (first_answer handlers at definitions)
      (grows-first handlers definitions)

  pub grows-answer : (skipped : ℕ) (tag : List ℕ) (definitions : List (List ℕ))
      → IsBeginning definitions (answer_after skipped tag at definitions).definitions
  grows-answer skipped tag definitions =
      grows-first (handlers_at at.conversion.config.handlers
      (drop skipped (indexes tag at.conversion.config.registered))) definitions

-- ---- a node

pub result-definitions : (out : Output) (whole : Bool) (r : Option ResultView)
    (definitions : List (List ℕ)) → (with_result out whole r definitions).definitions ≡ definitions
result-definitions out whole None definitions = refl
result-definitions out whole (Some r) definitions = refl

grows-node : (write : Writes) → Grows write → (conversion : Conversion) → Grows (write_node write conversion)
grows-node write g conversion (document id children) context out = grows-groups write g _ children out
grows-node write g conversion (doctype id) context out = beginning-refl out.definitions
grows-node write g conversion (text id s) context out = beginning-refl out.definitions
grows-node write g conversion (comment id s) context out =
    grows-if (is_markdown_alone conversion.config.options) out.definitions out (push_text out (comment_of s))
    (beginning-refl out.definitions) (beginning-refl out.definitions)
grows-node write g conversion (element id name attributes children) context out =
    let at = occurrence_at write conversion id (record { tag = name; attributes = attributes } ∷ context.ancestors)
    children in
    beginning-to (grows-answer at g 0 name out.definitions)
    (sym (result-definitions out (in_pre_or_code context.ancestors)
    (answer_after 0 name at out.definitions).result _))

pub grows-within : (n : ℕ) (conversion : Conversion) → Grows (written_within n conversion)
unfolding written_within
grows-within zero conversion tree context out = beginning-refl out.definitions
grows-within (suc n) conversion tree context out = grows-node (written_within n conversion) (grows-within n conversion)
    conversion tree context out
