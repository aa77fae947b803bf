-- Where the walk goes past, the registrations of the tag say what its handlers would give.
use Rattle.std.proofs.Common.{◌≡◌, ◌∙◌, ap, sym, not, true, false}
use Rattle.std.specs.Option.{is_some}
use Rattle.htmd_nodes.specs.Items.{element_node, data_at}
use Rattle.htmd_lexical.specs.Attributes.{pairs_of}
use Rattle.htmd_nodes.specs.Views.{data_of}
use Rattle.htmd_walk.specs.Choice.{indexes, handlers_at}
use Rattle.htmd_walk.specs.Outputs.{is_markdown_alone}
use Rattle.htmd_walk.specs.Spans.{is_span, formula_mark}
use Rattle.htmd_walk.proofs.PassingLemmas.{passed-plain, no_handlers, none_after, not-false, not-true, no_value}
use Rattle.htmd_walk.proofs.PassingLemmas.{span_tag}
use Rattle.htmd_walk.proofs.dom_walker.Walk.goes_past.Goals as goal

pub returns-then-ne : goal.returns-then-ne
returns-then-ne g c = λ t.
    let config = g.R.Registry.config c.args.self.now.registry.now in
    let tag = c.as_str-tag.result.now in
    let attributes = pairs_of c.in-Element.attrs.items in
    let is : data_at c.args.tree.now c.args.node ≡ element_node tag attributes =
    sym c.data.ensures.value ∙ ap data_of c.in-Element.is
    ∙ ap (λ s. element_node s attributes) (sym c.as_str-tag.ensures) in
    let alone : is_markdown_alone config.options ≡ true =
    ap is_markdown_alone (sym c.options.ensures.value) ∙ sym c.is_markdown_alone.ensures
    ∙ c.if-not-is_markdown_alone.false in
    passed-plain config tag attributes (data_at c.args.tree.now c.args.node) false is alone
    (not-true (sym c.ne.ensures ∙ c.if-ne.true))
    (no_handlers config tag (none_after c.find.result (c.is_none.ensures ∙ ap not t) ∙ c.find.ensures.value))

pub returns : goal.returns
returns g c = λ t.
    let config = g.R.Registry.config c.args.self.now.registry.now in
    let tag = c.as_str-tag.result.now in
    let attributes = pairs_of c.in-Element.attrs.items in
    let is : data_at c.args.tree.now c.args.node ≡ element_node tag attributes =
    sym c.data.ensures.value ∙ ap data_of c.in-Element.is
    ∙ ap (λ s. element_node s attributes) (sym c.as_str-tag.ensures) in
    let alone : is_markdown_alone config.options ≡ true =
    ap is_markdown_alone (sym c.options.ensures.value) ∙ sym c.is_markdown_alone.ensures
    ∙ c.if-not-is_markdown_alone.false in
    let span : is_span tag ≡ true = not-false (sym c.ne.ensures ∙ c.if-ne.false) in
    passed-plain config tag attributes (data_at c.args.tree.now c.args.node) true is alone span (
      ap (λ s. handlers_at config.handlers (indexes s config.registered)) (span_tag tag span)
          ∙ c.has_span_handler_alone.ensures c.if-not-has_span_handler_alone.false,
      ap (λ xs. is_some (formula_mark (pairs_of xs))) (sym c.as_slice.ensures.value)
          ∙ ap is_some (sym c.formula_mark.ensures)
          ∙ no_value c.formula_mark.result (c.is_none-2.ensures ∙ ap not t),
    )
