-- A node, by what it is.
use Rattle.std.proofs.Common.{◌≡◌, ◌≤◌, ◌++◌, ◌∙◌, ℕ, suc, List}
use Rattle.std.proofs.Common.{true, false, sym, ap, subst, string_bytes}
use Rattle.std.specs.Option.{option_copied}
use Rattle.std.proofs.lemmas.Result.{on_ok_weaker}
use Rattle.htmd_values.specs.Serialisation.{comment_of}
use Rattle.htmd_nodes.specs.Items.{data_at, element_node}
use Rattle.htmd_nodes.specs.NumberedTrees.{tree_of, height}
use Rattle.htmd_nodes.specs.Ancestors.{ancestors_of}
use Rattle.htmd_lexical.specs.Attributes.{pairs_of}
use Rattle.htmd_nodes.specs.Views.{data_of}
use Rattle.htmd_walk.specs.OrdinaryText.{parent_is_pre, written_text}
use Rattle.htmd_walk.specs.Groups.{group_children, children_at}
use Rattle.htmd_walk.specs.Outputs.{Output, conversion_of, context_of, is_markdown_alone}
use Rattle.htmd_walk.specs.Elements.{Answer, answer_after, occurrence_at}
use Rattle.htmd_walk.specs.Rendering.{written_within, is_text, inside_of}
use Rattle.htmd_walk.specs.Views.{answer_view, optional_result, output_view}
use Rattle.htmd_walk.proofs.RenderingLemmas.{text_written, doctype_written, comment_written, document_written}
use Rattle.htmd_walk.proofs.RememberingLemmas.{remembered-answer, result_put}
use Rattle.htmd_walk.specs.Walking.{occurrence_of}
use Rattle.htmd_walk.proofs.dom_walker.Walk.+walk.Goals as goal

pub walk_node-returns-in_ok-walk_children-in-Document :
    goal.walk_node-returns-in_ok-walk_children-in-Document
walk_node-returns-in_ok-walk_children-in-Document g t c =
    let config = g.R.Registry.config c.args.self.now.registry.now in
    let items = c.args.self.now.tree.now in
    let visit = c.args.visit.now in
    let v = conversion_of config items in
    λ n h.
    ap (λ s. record {
      text = s;
      markdown_translated = c.args.out.now.markdown_translated;
      definitions =
          c.walk_children.new.links;
    }) c.trim_end_document_white_space.ensures
    ∙ document_written config items
    (option_copied visit.joined) c.data.ensures.tree visit.node c.requires.here.within n visit.context.preformatted
    visit.context.trim (output_view c.args.out.now c.args.links.now)
    (output_view c.walk_children.new.out c.walk_children.new.links) h (sym c.data.ensures.value
    ∙ ap data_of c.in-Document.is) c.in_ok-walk_children-in-Document.ensures

pub walk_node-returns-in-Doctype : goal.walk_node-returns-in-Doctype
walk_node-returns-in-Doctype g t c =
    let config = g.R.Registry.config c.args.self.now.registry.now in
    let items = c.args.self.now.tree.now in
    let visit = c.args.visit.now in
    let v = conversion_of config items in
    λ n h. doctype_written config items
    (option_copied visit.joined) c.data.ensures.tree visit.node c.requires.here.within n
    (context_of (ancestors_of items visit.node) visit.context.preformatted visit.context.trim)
    (output_view c.args.out.now c.args.links.now) h (sym c.data.ensures.value ∙ ap data_of c.in-Doctype.is)

pub walk_node-returns-then-is_markdown_alone : goal.walk_node-returns-then-is_markdown_alone
walk_node-returns-then-is_markdown_alone g t c =
    let config = g.R.Registry.config c.args.self.now.registry.now in
    let items = c.args.self.now.tree.now in
    let visit = c.args.visit.now in
    let v = conversion_of config items in
    λ n h. comment_written config items
    (option_copied visit.joined) c.data.ensures.tree visit.node c.requires.here.within n
    (string_bytes c.in-Comment.text) true
    (context_of (ancestors_of items visit.node) visit.context.preformatted visit.context.trim)
    (output_view c.args.out.now c.args.links.now) h (sym c.data.ensures.value ∙ ap data_of c.in-Comment.is)
    (sym c.if-is_markdown_alone.true ∙ c.is_markdown_alone.ensures ∙ ap is_markdown_alone c.options.ensures.value)

pub walk_node-returns-else-is_markdown_alone : goal.walk_node-returns-else-is_markdown_alone
walk_node-returns-else-is_markdown_alone g t c =
    let config = g.R.Registry.config c.args.self.now.registry.now in
    let items = c.args.self.now.tree.now in
    let visit = c.args.visit.now in
    let v = conversion_of config items in
    let put : List ℕ → Output = λ s. record {
      text = string_bytes c.args.out.now.content ++ s;
      markdown_translated =
          c.args.out.now.markdown_translated;
      definitions = c.args.links.now;
    } in
    on_ok_weaker c.push_comment.result (λ p n h.
    ap (λ s. record {
      text = s;
      markdown_translated = c.args.out.now.markdown_translated;
      definitions =
          c.args.links.now;
    }) p
    ∙ ap (λ s. put (comment_of s)) c.as_str.ensures.value
    ∙ comment_written config items
    (option_copied visit.joined) c.data.ensures.tree visit.node c.requires.here.within n
    (string_bytes c.in-Comment.text) false
    (context_of (ancestors_of items visit.node) visit.context.preformatted visit.context.trim)
    (output_view c.args.out.now c.args.links.now) h (sym c.data.ensures.value ∙ ap data_of c.in-Comment.is)
    (sym c.if-is_markdown_alone.false ∙ c.is_markdown_alone.ensures ∙ ap is_markdown_alone c.options.ensures.value))
    c.push_comment.ensures

pub walk_node-returns-in-Text : goal.walk_node-returns-in-Text
walk_node-returns-in-Text g t c =
    let config = g.R.Registry.config c.args.self.now.registry.now in
    let items = c.args.self.now.tree.now in
    let visit = c.args.visit.now in
    let out = string_bytes c.args.out.now.content in
    let in_pre = parent_is_pre (ancestors_of items visit.node) in
    let put : List ℕ → Output = λ s. record {
      text = out ++ written_text visit.context.preformatted in_pre visit.context.trim out s;
      markdown_translated = c.args.out.now.markdown_translated;
      definitions = c.args.links.now;
    } in
    on_ok_weaker c.write_text.result (λ p n h.
    ap (λ s. record {
      text = s;
      markdown_translated = c.args.out.now.markdown_translated;
      definitions =
          c.args.links.now;
    }) p
    ∙ ap put c.as_str-in-Text.ensures.value
    ∙ text_written config items
    (option_copied visit.joined) c.data.ensures.tree visit.node c.requires.here.within n (string_bytes c.in-Text.text)
    (context_of (ancestors_of items visit.node) visit.context.preformatted visit.context.trim)
    (output_view c.args.out.now c.args.links.now) h (sym c.data.ensures.value ∙ ap data_of c.in-Text.is))
    c.write_text.ensures

pub walk_node-returns-in-Some :
    goal.walk_node-returns-in-Some
walk_node-returns-in-Some g t c =
    let config = g.R.Registry.config c.args.self.now.registry.now in
    let items = c.args.self.now.tree.now in
    let visit = c.args.visit.now in
    let v = conversion_of config items in
    let joined = option_copied visit.joined in
    let name = c.in-Element.name in
    let attributes = pairs_of c.in-Element.attrs.items in
    let old = c.args.links.now in
    let is : data_at items visit.node ≡ element_node name attributes =
    sym c.data.ensures.value ∙ ap data_of c.in-Element.is in
    let answered : ℕ → List ℕ → Answer = λ m tag. answer_after 0 tag
    (occurrence_at (written_within m v) v visit.node
    (inside_of items visit.node) (group_children joined (children_at items visit.node))) old in
    let known = optional_result c.in-Some.known.now.result in
    let made : (m : ℕ) → height (tree_of items visit.node) ≤ suc m
    → ◌≡◌ {A = Answer} (record { result = known; definitions = old }) (answered m name) = λ m k.
    remembered-answer v visit.node joined name attributes known m old is c.in-Some.ensures.0 c.in-Some.ensures.1 k in
    on_ok_weaker c.append_copy.result (λ p n h. p old
    ∙ result_put config items joined c.data.ensures.tree visit.node
    c.requires.here.within name attributes is (output_view c.args.out.now old) known old made n
    visit.context.preformatted visit.context.trim visit.context.preformatted h
    (c.requires.here.context (ap is_text is))) c.append_copy.ensures

pub walk_node-returns-in_ok-given-in-Element :
    goal.walk_node-returns-in_ok-given-in-Element
walk_node-returns-in_ok-given-in-Element g t c =
    let config = g.R.Registry.config c.args.self.now.registry.now in
    let items = c.args.self.now.tree.now in
    let visit = c.args.visit.now in
    let v = conversion_of config items in
    let joined = option_copied visit.joined in
    let name = c.in-Element.name in
    let attributes = pairs_of c.in-Element.attrs.items in
    let old = c.args.links.now in
    let is : data_at items visit.node ≡ element_node name attributes =
    sym c.data.ensures.value ∙ ap data_of c.in-Element.is in
    let answered : ℕ → List ℕ → Answer = λ m tag. answer_after 0 tag
    (occurrence_at (written_within m v) v visit.node
    (inside_of items visit.node) (group_children joined (children_at items visit.node))) old in
    let new = c.walk_element.new.links in
    let given = optional_result c.in_ok-given-in-Element.given in
    let made : (m : ℕ) → height (tree_of items visit.node) ≤ suc m
    → answer_view c.in_ok-given-in-Element.given new ≡ answered m name = λ m k.
    c.in_ok-given-in-Element.ensures m
    (subst (λ d. height (tree_of items d) ≤ suc m) (sym c.element-element.ensures.node) k)
    ∙ ap (λ tag. answer_after 0 tag (occurrence_of m v c.element-element.result) old) c.element-element.ensures.tag
    ∙ ap (λ at. answer_after 0 c.as_str-in-Element.result.now at old) (c.element-element.ensures.occurrence m)
    ∙ ap (answered m) c.as_str-in-Element.ensures in
    on_ok_weaker c.append_result.result (λ p n h. p new
    ∙ result_put config items joined c.data.ensures.tree visit.node
    c.requires.here.within name attributes is (output_view c.args.out.now old) given new made n
    visit.context.preformatted visit.context.trim visit.context.preformatted h
    (c.requires.here.context (ap is_text is))) c.append_result.ensures
