-- The element is shown as the definition shows it.
use Rattle.std.proofs.Common.{refl, ap, ◌∙◌}
use Rattle.std.specs.Option.{option_copied}
use Rattle.htmd_walk.specs.Groups.{group_children, children_at}
use Rattle.htmd_walk.specs.Outputs.{conversion_of}
use Rattle.htmd_walk.specs.Rendering.{written_within, is_text, inside_of}
use Rattle.htmd_walk.specs.Walking.{shown_occurrence}
use Rattle.htmd_walk.proofs.WalkingLemmas.{shown-same}
use Rattle.htmd_walk.proofs.dom_walker.Walk.element.Goals as goal

pub preformatted_inside-requires-clause-context : goal.preformatted_inside-requires-clause-context
preformatted_inside-requires-clause-context g c = c.requires.visit.context (ap is_text c.requires.element)

pub returns-clause-here : goal.returns-clause-here
returns-clause-here g c =
    record { tree = refl; options = c.options.ensures.value; inside = c.preformatted_inside.ensures }

pub returns-clause-occurrence : goal.returns-clause-occurrence
returns-clause-occurrence g c n =
    let items = c.args.self.now.tree.now in
    let v = conversion_of (g.R.Registry.config c.args.self.now.registry.now) items in
    let node = c.args.visit.now.node in
    let text = option_copied c.text_shown.result in
    shown-same (written_within n v) v node (inside_of items node) (group_children text (children_at items node)) text
    c.options.result.now c.args.markdown_translated c.text_shown.ensures.shows c.options.ensures.value
    ∙ ap (shown_occurrence n v node c.args.markdown_translated) c.text_shown.ensures.children
