-- The content of an element, with its handlers passed over, as raw HTML or where it is asked for.
use Rattle.std.proofs.Common.{◌≡◌, ◌<◌, ◌∙◌, ℕ, List, [], ◌∷◌, ◌++◌, Bool}
use Rattle.std.proofs.Common.{Some, sym, ap, subst, length, codes}
use Rattle.std.proofs.Common.{string_bytes}
use Rattle.std.specs.Option.{option_copied}
use Rattle.std.specs.Str.{bytes_eq}
use Rattle.htmd_nodes.specs.Items.{Item, element_node, data_at}
use Rattle.htmd_nodes.specs.Ancestors.{ancestor_of, ancestors_of}
use Rattle.htmd_lexical.specs.Attributes.{pairs_of}
use Rattle.htmd_walk.specs.OrdinaryText.{in_pre_or_code, parent_is_pre, written_text}
use Rattle.htmd_walk.specs.Groups.{only_text, group_children, children_at}
use Rattle.htmd_walk.specs.Outputs.{Output, conversion_of}
use Rattle.htmd_walk.specs.Children.{trims_first}
use Rattle.htmd_walk.specs.Elements.{Occurrence, Answer}
use Rattle.htmd_walk.specs.Rendering.{inside_of}
use Rattle.htmd_walk.specs.Views.{element_children}
use Rattle.htmd_walk.specs.Walking.{occurrence_of}
use Rattle.htmd_walk.proofs.WalkingLemmas.{two_levels, text_inside}
use Rattle.htmd_walk.specs.Passing.{IsPassed, passed_text}
use Rattle.htmd_walk.specs.Spans.{is_span}
use Rattle.htmd_walk.proofs.PassingLemmas.{passed_answer, passed_result, passed-inside}
use Rattle.htmd_walk.proofs.dom_walker.Walk.+walk.Goals as goal

pub content-returns-in-Some : goal.content-returns-in-Some
content-returns-in-Some g t c =
    let v = conversion_of (g.R.Registry.config c.args.self.now.registry.now) c.args.self.now.tree.now in
    let e = c.args.element.now in
    let at : ℕ → Occurrence = λ n. occurrence_of n v e in
    let inside = inside_of c.args.self.now.tree.now c.args.element.now.node in
    let element =
    (subst (λ (x : List Item). data_at x c.args.element.now.node ≡ element_node c.args.element.now.tag.now
    (pairs_of c.args.element.now.attrs.now)) c.requires.here.tree c.args.element.now.is_element) in
    let shows : Some c.in-Some.text.now ≡ only_text (element_children e) = sym (ap option_copied c.in-Some.is)
    ∙ c.args.element.now.shows in
    let here : Some c.in-Some.text.now ≡ only_text (group_children (option_copied c.args.element.now.text)
    (children_at c.args.self.now.tree.now c.args.element.now.node)) = shows
    ∙ ap (λ (x : List Item). only_text (group_children (option_copied c.args.element.now.text)
    (children_at x c.args.element.now.node))) c.requires.here.tree in
    let in_pre : bytes_eq c.args.element.now.tag.now (codes "pre") ≡ parent_is_pre inside =
    sym (ap (λ x. bytes_eq (ancestor_of x).tag (codes "pre")) element) in
    let text : Bool → Bool → Bool → List ℕ → List ℕ =
    λ p q b s. s ++ written_text p q b s c.in-Some.text.now in
    let put : List ℕ → Bool → Output =
    λ s b. record { text = s; markdown_translated = b; definitions = c.args.links.now } in
    λ n l.
    ap (λ s. put s c.empty_result-out.result.markdown_translated) (c.in_ok-append_text.ensures
    ∙ ap (text c.args.element.now.preformatted c.eq-in_pre.result c.trims_first.result)
    c.empty_result-out.ensures.content
    ∙ ap (λ p. text p c.eq-in_pre.result c.trims_first.result []) c.requires.here.inside
    ∙ ap (λ q. text (in_pre_or_code inside) q c.trims_first.result []) (c.eq-in_pre.ensures ∙ in_pre)
    ∙ ap (λ b. text (in_pre_or_code inside) (parent_is_pre inside) b []) c.trims_first.ensures)
    ∙ ap (put (text (in_pre_or_code inside) (parent_is_pre inside) (trims_first inside) []))
    c.empty_result-out.ensures.markdown_translated
    ∙ text_inside n v inside (element_children e) c.in-Some.text.now c.args.links.now shows
    (two_levels c.args.self.now.tree.now c.args.self.now.is_tree c.args.element.now.node
    (subst (λ (x : List Item). c.args.element.now.node < length x) c.requires.here.tree c.args.element.now.within)
    c.args.element.now.tag.now (pairs_of c.args.element.now.attrs.now) (option_copied c.args.element.now.text)
    c.in-Some.text.now n element here l)

pub walk_element-returns : goal.walk_element-returns
walk_element-returns g t c =
    let v = conversion_of (g.R.Registry.config c.args.self.now.registry.now) c.args.self.now.tree.now in
    let e = c.args.element.now in
    let at : ℕ → Occurrence = λ n. occurrence_of n v e in
    let tag = c.args.element.now.tag.now in
    let attributes = pairs_of c.args.element.now.attrs.now in
    let above = ancestors_of c.args.element.now.tree.now c.args.element.now.node in
    let whole = in_pre_or_code above in
    let text = string_bytes c.in_ok-content.content.content in
    let passed : IsPassed v.config (element_node tag attributes) =
    subst (IsPassed v.config) (sym (ap (λ (x : List Item). data_at x c.args.element.now.node) c.requires.here.tree)
    ∙ c.args.element.now.is_element) (c.goes_past.ensures c.if-not-goes_past.false) in
    let inside : c.args.element.now.preformatted
    ≡ in_pre_or_code (record { tag = tag; attributes = attributes } ∷ above) =
    c.requires.here.inside
    ∙ ap (λ (x : List Item). in_pre_or_code (inside_of x c.args.element.now.node)) (sym c.requires.here.tree)
    ∙ ap (λ x. in_pre_or_code (ancestor_of x ∷ above)) c.args.element.now.is_element in
    let kept : List ℕ → Bool → Answer = λ s b. record {
      result = Some (record { content = s; markdown_translated = b });
      definitions = c.content.new.links;
    } in
    let written : string_bytes c.passed_on.result.content ≡ passed_text (is_span tag) whole text =
    c.passed_on.ensures.content
    ∙ ap (λ b. passed_text (is_span tag) b text) inside
    ∙ passed-inside tag attributes above text in
    λ n l. ap (λ s. kept s c.passed_on.result.markdown_translated) written
    ∙ ap (kept (passed_text (is_span tag) whole text)) c.passed_on.ensures.markdown_translated
    ∙ ap (passed_result (is_span tag) whole) (c.in_ok-content.ensures n l)
    ∙ passed_answer (at n) tag attributes c.args.links.now passed c.args.element.now.is_element
    c.requires.here.options
