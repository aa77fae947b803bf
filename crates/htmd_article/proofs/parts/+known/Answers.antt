-- What is left to prove of `known`.
use Rattle.std.proofs.Common.{rules, ◌<◌, length, map, refl, ap, ◌∙◌}
use Rattle.htmd_nodes.proofs.ItemsLemmas.{child_read}
use Rattle.htmd_nodes.specs.Views.{data_of}
use Rattle.htmd_article.specs.Parts.{facts_of}
use Rattle.htmd_article.specs.PartViews.{part_of, parts_of}
use Rattle.htmd_article.proofs.KnownLemmas.{known_at}
use Rattle.htmd_article.proofs.MadeLemmas.{known_made}
use Rattle.htmd_article.proofs.TurnsLemmas.{whole-made}
use Rattle.htmd_article.proofs.parts.+known.Goals as goal

pub known-requires : goal.known-requires
known-requires t c =
    let below = child_read c.args.tree.now c.args.id c.children-children.result.now c.loop-child.child-index
    c.child-item.result c.children-children.ensures.tree c.requires c.children-children.ensures.value
    c.loop-child-test.true c.child-item.is in
    let after : c.args.id < c.child-item.result = below.0 in
    let within : c.child-item.result < length c.args.tree.now = below.1 in
    (search rules, within)

pub returns : goal.returns
returns t c =
    let link = c.is_link_below-is_link.result in
    let items = c.args.tree.now in
    known_made _ items c.args.id c.args.is_linked link c.children-children.result.now c.data-node.ensures.tree
    c.requires c.data-node.ensures.value c.is_link_below-is_link.ensures c.children-children.ensures.value
    (whole-made part_of (λ ids. map (known_at items link) ids) c.loop-child.parts.items c.children-children.result.now
    c.loop-child.child-index refl c.loop-child-test.false c.loop-child.invariant)
    (c.in_ok-facts.ensures
    ∙ ap (λ ps. facts_of (data_of c.data-node.result.now) c.args.is_linked (parts_of ps)) c.as_slice.ensures.value)
