-- What is left to prove of the functions of the cycle `titles`.
use Rattle.std.proofs.Common.{rules, ◌≡◌, ◌∙◌, ◌<◌, length, sym, ap, arith, true, false}
use Rattle.std.specs.Prelude.{if◌then◌else◌, codes}
use Rattle.std.specs.Str.{bytes_eq}
use Rattle.htmd_nodes.specs.Items.{children_of}
use Rattle.htmd_nodes.specs.NumberedTrees.{tree_of, forest_of}
use Rattle.htmd_nodes.specs.Views.{data_of}
use Rattle.htmd_nodes.proofs.ItemsLemmas.{child_read}
use Rattle.htmd_trimming.specs.Titles.{some_shows, hold_h1}
use Rattle.htmd_trimming.proofs.TitlesLemmas.{h1_over, node-h1, h1-other}
use Rattle.htmd_trimming.proofs.titles.+titles.Goals as goal

pub hold_h1-holds_h1-requires : goal.hold_h1-holds_h1-requires
hold_h1-holds_h1-requires t c =
    let read = child_read c.args.tree.now c.args.node c.children-child-items.result.now c.loop-child.child-index
    c.child-item.result c.children-child-items.ensures.tree c.requires c.children-child-items.ensures.value
    (omega arith) c.child-item.is in
    let after : c.args.node < c.child-item.result = read.0 in
    let within : c.child-item.result < length c.args.tree.now = read.1 in
    (search rules, within)

pub holds_h1-returns-in-Document : goal.holds_h1-returns-in-Document
holds_h1-returns-in-Document t c =
    let trees = forest_of (tree_of c.args.tree.now) (children_of c.args.tree.now c.args.node) in
    let below = hold_h1 trees in
    let shown = some_shows trees in
    c.hold_h1.ensures
    ∙ (sym (ap (λ x. h1_over (data_of x) shown below) c.in-Document.is)
    ∙ node-h1 c.args.tree.now c.args.node (data_of c.data.result.now) c.data.ensures.tree c.requires
    c.data.ensures.value)

pub holds_h1-returns-then-is : goal.holds_h1-returns-then-is
holds_h1-returns-then-is t c =
    let trees = forest_of (tree_of c.args.tree.now) (children_of c.args.tree.now c.args.node) in
    let below = hold_h1 trees in
    let shown = some_shows trees in
    let named : bytes_eq c.in-Element.name (codes "h1") ≡ true = sym c.is.ensures ∙ c.if-is.true in
    c.some_shows.ensures
    ∙ (sym (ap (λ b. if b then shown else below) named)
    ∙ (sym (ap (λ x. h1_over (data_of x) shown below) c.in-Element.is)
    ∙ node-h1 c.args.tree.now c.args.node (data_of c.data.result.now) c.data.ensures.tree c.requires
    c.data.ensures.value))

pub holds_h1-returns-else-is : goal.holds_h1-returns-else-is
holds_h1-returns-else-is t c =
    let trees = forest_of (tree_of c.args.tree.now) (children_of c.args.tree.now c.args.node) in
    let below = hold_h1 trees in
    let shown = some_shows trees in
    let other : bytes_eq c.in-Element.name (codes "h1") ≡ false = sym c.is.ensures ∙ c.if-is.false in
    c.hold_h1-else-is.ensures
    ∙ (sym (ap (λ b. if b then shown else below) other)
    ∙ (sym (ap (λ x. h1_over (data_of x) shown below) c.in-Element.is)
    ∙ node-h1 c.args.tree.now c.args.node (data_of c.data.result.now) c.data.ensures.tree c.requires
    c.data.ensures.value))

pub holds_h1-returns-in_default : goal.holds_h1-returns-in_default
holds_h1-returns-in_default t c =
    let trees = forest_of (tree_of c.args.tree.now) (children_of c.args.tree.now c.args.node) in
    let below = hold_h1 trees in
    let shown = some_shows trees in
    sym (h1-other c.data.result.now shown below c.in_default.not-Document c.in_default.not-Element)
    ∙ node-h1 c.args.tree.now c.args.node (data_of c.data.result.now) c.data.ensures.tree c.requires
    c.data.ensures.value
