-- A conversion that adds no definition gives the same, whatever the definitions so far.
use Rattle.std.proofs.Common.{◌≡◌, ℕ, zero, suc, Bool, true, false, cond, List, [], ◌∷◌, ◌++◌, Option, Some, None}
use Rattle.std.proofs.Common.{refl, sym, ap, ◌∙◌, drop}
use Rattle.std.proofs.lemmas.List.{append-nil, append_assoc, append_cancel_left}
use Rattle.htmd_text.specs.Blocks.{is_block}
use Rattle.htmd_nodes.specs.Items.{Data, document_node, doctype_node, text_node, comment_node, element_node, data_at}
use Rattle.htmd_nodes.specs.NumberedTrees.{NumberedTree, document, doctype, text, comment, element, NumberedForest}
use Rattle.htmd_nodes.specs.NumberedTrees.{none}
use Rattle.htmd_nodes.specs.NumberedTrees.{more}
use Rattle.htmd_nodes.specs.Ancestors.{Ancestor}
use Rattle.htmd_values.specs.Serialisation.{comment_of, start_tag}
use Rattle.htmd_lexical.specs.AttributePairs.{AttributePair}
use Rattle.htmd_walk.proofs.BeginningsLemmas.{IsBeginning}
use Rattle.htmd_walk.specs.Handling.{ElementView, ResultView, PlanView, nothing, this_result, raw_html}
use Rattle.htmd_walk.specs.Handling.{content_of_children}
use Rattle.htmd_walk.specs.Handling.{content_of_descendant, content_of_fallback, contents_of_each, OutcomeView}
use Rattle.htmd_walk.specs.Handling.{final_result, children_too, Finish, HandlerMeaning}
use Rattle.htmd_walk.specs.OrdinaryText.{in_pre_or_code}
use Rattle.htmd_walk.specs.Choice.{indexes, handler_at, handlers_at}
use Rattle.htmd_walk.specs.Groups.{groups_of}
use Rattle.htmd_walk.specs.Outputs.{Conversion, Output, push_text, Context, context_of, Writes, is_markdown_alone}
use Rattle.htmd_walk.specs.Outputs.{result_of}
use Rattle.htmd_walk.specs.Children.{is_block_tree, before_child, trim_after, write_children, write_groups, trims_first}
use Rattle.htmd_walk.specs.Children.{content_alone, descendant_tree}
use Rattle.htmd_walk.specs.Elements.{Occurrence, Answer, content_of, raw_element, raw_answer, after_fallback}
use Rattle.htmd_walk.specs.Elements.{finish_answer}
use Rattle.htmd_walk.specs.Elements.{Contents, contents_alone, outcome_answer, each_answer, plan_answer, first_answer}
use Rattle.htmd_walk.specs.Elements.{answer_after, occurrence_at, with_finish, answer_of, raw_result, end_of_element}
use Rattle.htmd_walk.specs.Rendering.{with_result, with_answer, end_of_document, write_node, written_within}
use Rattle.htmd_walk.specs.Staying.{HandlerStays, HandlersStay}
use Rattle.htmd_walk.proofs.BeginningsLemmas.{Grows, beginning-more, grows-children, grows-content, grows-alone}
use Rattle.htmd_walk.proofs.BeginningsLemmas.{grows-contents, grows-fallback, grows-each, grows-first, grows-within}
use Rattle.htmd_walk.proofs.BeginningsLemmas.{result-definitions}

-- the same, with these definitions
abbrev pub with_definitions : List (List ℕ) → Output → Output
with_definitions definitions out = record {
  text = out.text;
  markdown_translated = out.markdown_translated;
  definitions = definitions;
}

abbrev pub answer_with : List (List ℕ) → Answer → Answer
answer_with definitions answer = record { result = answer.result; definitions = definitions }

abbrev pub contents_with : List (List ℕ) → Contents → Contents
contents_with definitions contents = record { results = contents.results; definitions = definitions }

-- ---- lists that only grow

nothing_before : (a b : List (List ℕ)) → a ++ b ≡ [] → a ≡ []
nothing_before [] b e = refl
nothing_before (x ∷ a) b e = cc

pub nothing_added : (a b : List (List ℕ)) → a ++ b ≡ a → b ≡ []
nothing_added a b e = append_cancel_left a b [] (e ∙ sym (append-nil a))

-- what grows twice, and is what it was, has not grown the first time
pub unmoved : {a b c : List (List ℕ)} → IsBeginning a b → IsBeginning b c → c ≡ a → b ≡ a
unmoved {a} {b} {c} p q e =
    let rest : p.rest ++ q.rest ≡ [] =
    nothing_added a (p.rest ++ q.rest)
    (sym (q.is ∙ ap (λ x. x ++ q.rest) p.is ∙ append_assoc a p.rest q.rest) ∙ e) in
    p.is ∙ ap (λ x. a ++ x) (nothing_before p.rest q.rest rest) ∙ append-nil a

-- ---- the children of a node

abbrev pub Stays : Writes → Type 0
Stays write = (tree : NumberedTree) (context : Context) (out : Output) (others : List (List ℕ))
    → (write tree context out).definitions ≡ out.definitions
    → write tree context (with_definitions others out) ≡ with_definitions others (write tree context out)

before-definitions : (b : Bool) (out : Output) → (before_child b out).definitions ≡ out.definitions
before-definitions true out = refl
before-definitions false out = refl

before-with : (b : Bool) (out : Output) (others : List (List ℕ))
    → before_child b (with_definitions others out) ≡ with_definitions others (before_child b out)
before-with true out others = refl
before-with false out others = refl

pub stays-children : (write : Writes) → Grows write → Stays write
    → (inside : List Ancestor) (trees : NumberedForest) (trim : Bool) (out : Output) (others : List (List ℕ))
    → (write_children write inside trees trim out).definitions ≡ out.definitions
    → write_children write inside trees trim (with_definitions others out)
    ≡ with_definitions others (write_children write inside trees trim out)
stays-children write g s inside none trim out others e = refl
stays-children write g s inside (more tree trees) trim out others e =
    let b = is_block_tree tree in
    let context = context_of inside (in_pre_or_code inside) trim in
    let before = before_child b out in
    let after = write tree context before in
    let next = trim_after b before after trim in
    let rest : Output → Output → Output =
    λ x y. write_children write inside trees (trim_after b x y trim) y in
    let whole : (rest before after).definitions ≡ before.definitions = e ∙ sym (before-definitions b out) in
    let first : after.definitions ≡ before.definitions =
    unmoved (g tree context before) (grows-children write g inside trees next after) whole in
    ap (λ x. rest x (write tree context x)) (before-with b out others)
    ∙ ap (rest (with_definitions others before)) (s tree context before others first)
    ∙ stays-children write g s inside trees next after others (whole ∙ sym first)

pub stays-groups : (write : Writes) → Grows write → Stays write
    → (inside : List Ancestor) (children : NumberedForest) (out : Output) (others : List (List ℕ))
    → (write_groups write inside children out).definitions ≡ out.definitions
    → write_groups write inside children (with_definitions others out)
    ≡ with_definitions others (write_groups write inside children out)
stays-groups write g s inside children out others e =
    stays-children write g s inside (groups_of children) (trims_first inside) out others e

-- ---- what a handler finishes with

stays-finished : (handler : HandlerMeaning) → HandlerStays handler → (view : ElementView) (content : ResultView)
    (definitions others : List (List ℕ))
    → (finish_answer (handler.finish view content definitions) definitions).definitions ≡ definitions
    → finish_answer (handler.finish view content others) others
    ≡ answer_with others (finish_answer (handler.finish view content definitions) definitions)
stays-finished handler h view content definitions others e =
    let finish = handler.finish view content definitions in
    let none_added : finish.added ≡ [] = nothing_added definitions finish.added e in
    ap (λ (f : Finish). finish_answer f others) (h view content definitions others none_added)
    ∙ ap (λ l. answer_with l (finish_answer finish definitions))
    (ap (λ x. others ++ x) none_added ∙ append-nil others)

stays-with_finish : (handler : HandlerMeaning) → HandlerStays handler → (view : ElementView) (out : Output)
    (others : List (List ℕ)) → (with_finish handler view out).definitions ≡ out.definitions
    → with_finish handler view (with_definitions others out) ≡ answer_with others (with_finish handler view out)
stays-with_finish handler h view out others e =
    stays-finished handler h view (result_of out) out.definitions others e

stays-fallback : (handler : HandlerMeaning) → HandlerStays handler → (view : ElementView) (r : Option ResultView)
    (definitions others : List (List ℕ)) → (after_fallback handler view r definitions).definitions ≡ definitions
    → after_fallback handler view r others ≡ answer_with others (after_fallback handler view r definitions)
stays-fallback handler h view None definitions others e = refl
stays-fallback handler h view (Some r) definitions others e =
    stays-finished handler h view r definitions others e

stays-either : (b : Bool) (definitions others : List (List ℕ)) (x y x' y' : Answer)
    → (x.definitions ≡ definitions → x' ≡ answer_with others x)
    → (y.definitions ≡ definitions → y' ≡ answer_with others y)
    → (cond b x y).definitions ≡ definitions → cond b x' y' ≡ answer_with others (cond b x y)
stays-either true definitions others x y x' y' p q e = p e
stays-either false definitions others x y x' y' p q e = q e

-- ---- an element

abbrev between_tags : List ℕ → List AttributePair → Output → Answer
between_tags name attributes out = record {
  result = Some (raw_result ((start_tag name attributes ++ out.text) ++ end_of_element name));
  definitions = out.definitions;
}

module _ (at : Occurrence) (g : Grows at.write) (s : Stays at.write) where
  stays-content : (definitions others : List (List ℕ)) → (content_of at definitions).definitions ≡ definitions
      → content_of at others ≡ with_definitions others (content_of at definitions)
  stays-content definitions others e = stays-groups at.write g s at.inside at.children _ others e

  stays-alone : (tree : NumberedTree) (d : ℕ) (definitions others : List (List ℕ))
      → (content_alone at.write at.conversion tree d definitions).definitions ≡ definitions
      → content_alone at.write at.conversion tree d others
      ≡ with_definitions others (content_alone at.write at.conversion tree d definitions)
  stays-alone tree d definitions others e = s tree _ _ others e

  stays-raw_element : (content : Data) (definitions others : List (List ℕ))
      → (raw_element at content definitions).definitions ≡ definitions
      → raw_element at content others ≡ answer_with others (raw_element at content definitions)
  stays-raw_element document_node definitions others e = refl
  stays-raw_element doctype_node definitions others e = refl
  stays-raw_element (text_node t) definitions others e = refl
  stays-raw_element (comment_node t) definitions others e = refl
  stays-raw_element (element_node name attributes) definitions others e =
      stays-either (is_block name) definitions others _ _ _ _ (λ _. refl)
      (λ k. ap (between_tags name attributes) (stays-content definitions others k)) e

  stays-raw : (definitions others : List (List ℕ)) → (raw_answer at definitions).definitions ≡ definitions
      → raw_answer at others ≡ answer_with others (raw_answer at definitions)
  stays-raw definitions others e = stays-raw_element (data_at at.conversion.items at.view.node) definitions others e

  stays-contents : (nodes : List ℕ) (definitions others : List (List ℕ))
      → (contents_alone at nodes definitions).definitions ≡ definitions
      → contents_alone at nodes others ≡ contents_with others (contents_alone at nodes definitions)
  stays-contents [] definitions others e = refl
  stays-contents (d ∷ ds) definitions others e =
      let tree = descendant_tree at.conversion.items at.view.text d in
      let out = content_alone at.write at.conversion tree d definitions in
      let rest : Output → Contents → Contents =
      λ o c. record { results = result_of o ∷ c.results; definitions = c.definitions } in
      let first : out.definitions ≡ definitions =
      unmoved (grows-alone at g tree d definitions) (grows-contents at g ds out.definitions) e in
      ap (λ (o : Output). rest o (contents_alone at ds o.definitions)) (stays-alone tree d definitions others first)
      ∙ ap (rest out) (stays-contents ds out.definitions others (e ∙ sym first))

  module _ (handler : HandlerMeaning) (h : HandlerStays handler) where
    -- content, and then what is made of it
    stays-made : (definitions others : List (List ℕ)) (out out' : Output) → IsBeginning definitions out.definitions
        → (out.definitions ≡ definitions → out' ≡ with_definitions others out)
        → (with_finish handler at.view out).definitions ≡ definitions
        → with_finish handler at.view out' ≡ answer_with others (with_finish handler at.view out)
    stays-made definitions others out out' b k e =
        let first : out.definitions ≡ definitions = unmoved b (beginning-more out.definitions _) e in
        ap (with_finish handler at.view) (k first)
        ∙ stays-with_finish handler h at.view out others (e ∙ sym first)

    stays-outcome : (outcome : OutcomeView) (definitions others : List (List ℕ))
        → (outcome_answer handler at definitions outcome).definitions ≡ definitions
        → outcome_answer handler at others outcome
        ≡ answer_with others (outcome_answer handler at definitions outcome)
    stays-outcome (final_result result) definitions others e = refl
    stays-outcome children_too definitions others e =
        stays-made definitions others (content_of at definitions) (content_of at others)
        (grows-content at g definitions) (stays-content definitions others) e

    stays-plan : (definitions others : List (List ℕ)) (plan : PlanView) (rest rest' : Answer)
        → IsBeginning definitions rest.definitions
        → (rest.definitions ≡ definitions → rest' ≡ answer_with others rest)
        → (plan_answer handler at definitions plan rest).definitions ≡ definitions
        → plan_answer handler at others plan rest'
        ≡ answer_with others (plan_answer handler at definitions plan rest)
    stays-plan definitions others nothing rest rest' b k e = refl
    stays-plan definitions others (this_result r) rest rest' b k e = refl
    stays-plan definitions others raw_html rest rest' b k e = stays-raw definitions others e
    stays-plan definitions others content_of_children rest rest' b k e =
        stays-made definitions others (content_of at definitions) (content_of at others)
        (grows-content at g definitions) (stays-content definitions others) e
    stays-plan definitions others (content_of_descendant d) rest rest' b k e =
        let tree = descendant_tree at.conversion.items at.view.text d in
        stays-made definitions others (content_alone at.write at.conversion tree d definitions)
        (content_alone at.write at.conversion tree d others) (grows-alone at g tree d definitions)
        (stays-alone tree d definitions others) e
    stays-plan definitions others content_of_fallback rest rest' b k e =
        let first : rest.definitions ≡ definitions =
        unmoved b (grows-fallback at g handler at.view rest.result rest.definitions) e in
        ap (λ (a : Answer). after_fallback handler at.view a.result a.definitions) (k first)
        ∙ stays-fallback handler h at.view rest.result rest.definitions others (e ∙ sym first)
    stays-plan definitions others (contents_of_each nodes) rest rest' b k e =
        let contents = contents_alone at nodes definitions in
        let first : contents.definitions ≡ definitions =
        unmoved (grows-contents at g nodes definitions) (grows-each at g handler contents) e in
        ap (each_answer handler at) (stays-contents nodes definitions others first)
        ∙ stays-outcome (handler.finish_each at.view contents.results) contents.definitions others (e ∙ sym first)

  module _ (stay : HandlersStay at.conversion.config) where
    stays-first : (places : List ℕ) (definitions others : List (List ℕ))
        → (first_answer (handlers_at at.conversion.config.handlers places) at definitions).definitions ≡ definitions
        → first_answer (handlers_at at.conversion.config.handlers places) at others
        ≡ answer_with others (first_answer (handlers_at at.conversion.config.handlers places) at definitions)
    stays-first [] definitions others e =
        stays-either (is_markdown_alone at.conversion.config.options) definitions others _ _ _ _
        (λ k. ap answer_of (stays-content definitions others k)) (stays-raw definitions others) e
    stays-first (place ∷ places) definitions others e =
        let handler = handler_at at.conversion.config.handlers place in
        let handlers = handlers_at at.conversion.config.handlers places in
        stays-plan handler (stay place) definitions others (handler.plan at.view)
        (first_answer handlers at definitions) (first_answer handlers at others)
        (grows-first at g handlers definitions) (stays-first places definitions others) e

    pub stays-answer : (skipped : ℕ) (tag : List ℕ) (definitions others : List (List ℕ))
        → (answer_after skipped tag at definitions).definitions ≡ definitions
        → answer_after skipped tag at others ≡ answer_with others (answer_after skipped tag at definitions)
    stays-answer skipped tag definitions others e =
        stays-first (drop skipped (indexes tag at.conversion.config.registered)) definitions others e

-- ---- a node

stays-if : (b : Bool) (out x y : Output) (others : List (List ℕ)) → x.definitions ≡ out.definitions
    → y.definitions ≡ out.definitions
    → cond b (with_definitions others x) (with_definitions others y) ≡ with_definitions others (cond b x y)
stays-if true out x y others p q = refl
stays-if false out x y others p q = refl

result-with : (out : Output) (whole : Bool) (r : Option ResultView) (definitions others : List (List ℕ))
    → with_result (with_definitions others out) whole r others
    ≡ with_definitions others (with_result out whole r definitions)
result-with out whole None definitions others = refl
result-with out whole (Some r) definitions others = refl

stays-node : (write : Writes) → Grows write → Stays write → (conversion : Conversion)
    → HandlersStay conversion.config → Stays (write_node write conversion)
stays-node write g s conversion stay (document id children) context out others e =
    ap (end_of_document out.markdown_translated) (stays-groups write g s _ children out others e)
stays-node write g s conversion stay (doctype id) context out others e = refl
stays-node write g s conversion stay (text id t) context out others e = refl
stays-node write g s conversion stay (comment id t) context out others e =
    stays-if (is_markdown_alone conversion.config.options) out out (push_text out (comment_of t)) others refl refl
stays-node write g s conversion stay (element id name attributes children) context out others e =
    let at = occurrence_at write conversion id (record { tag = name; attributes = attributes } ∷ context.ancestors)
    children in
    let answer = answer_after 0 name at out.definitions in
    let kept : answer.definitions ≡ out.definitions =
    sym (result-definitions out (in_pre_or_code context.ancestors) answer.result answer.definitions) ∙ e in
    ap (with_answer (with_definitions others out) (in_pre_or_code context.ancestors))
    (stays-answer at g s stay 0 name out.definitions others kept)
    ∙ result-with out (in_pre_or_code context.ancestors) answer.result answer.definitions others

pub stays-within : (n : ℕ) (conversion : Conversion) → HandlersStay conversion.config
    → Stays (written_within n conversion)
unfolding written_within
stays-within zero conversion stay tree context out others e = refl
stays-within (suc n) conversion stay tree context out others e =
    stays-node (written_within n conversion) (grows-within n conversion) (stays-within n conversion stay) conversion
    stay tree context out others e
