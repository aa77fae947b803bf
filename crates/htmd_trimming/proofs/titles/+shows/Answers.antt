-- What is left to prove of the functions of the cycle `shows`.
use Rattle.std.proofs.Common.{rules, ◌≡◌, ◌∙◌, ◌<◌, length, sym, ap, arith, true, false}
use Rattle.std.specs.Prelude.{◌||◌, not}
use Rattle.htmd_lexical.specs.Attributes.{pairs_of}
use Rattle.htmd_nodes.specs.Items.{children_of}
use Rattle.htmd_nodes.specs.NumberedTrees.{tree_of, forest_of}
use Rattle.htmd_nodes.specs.Views.{data_of}
use Rattle.htmd_nodes.proofs.ItemsLemmas.{child_read}
use Rattle.htmd_shown.specs.Images.{is_image}
use Rattle.htmd_shown.specs.Spaces.{is_blank_text}
use Rattle.htmd_trimming.specs.Titles.{some_shows}
use Rattle.htmd_trimming.proofs.TitlesLemmas.{shows_over, node-shows, shows-other}
use Rattle.htmd_trimming.proofs.titles.+shows.Goals as goal

pub some_shows-shows-requires : goal.some_shows-shows-requires
some_shows-shows-requires t c =
    let read = child_read c.args.tree.now c.args.node c.children-child-items.result.now c.loop-child.child-index
    c.child-item.result c.children-child-items.ensures.tree c.requires c.children-child-items.ensures.value
    (omega arith) c.child-item.is in
    let after : c.args.node < c.child-item.result = read.0 in
    let within : c.child-item.result < length c.args.tree.now = read.1 in
    (search rules, within)

pub shows-returns-in-Text : goal.shows-returns-in-Text
shows-returns-in-Text t c =
    let below = some_shows (forest_of (tree_of c.args.tree.now) (children_of c.args.tree.now c.args.node)) in
    ap not c.is_blank_text.ensures
    ∙ (ap (λ s. not (is_blank_text s)) c.as_str.ensures.value
    ∙ (sym (ap (λ x. shows_over (data_of x) below) c.in-Text.is)
    ∙ node-shows c.args.tree.now c.args.node (data_of c.data.result.now) c.data.ensures.tree c.requires
    c.data.ensures.value))

pub shows-returns-then-is_image : goal.shows-returns-then-is_image
shows-returns-then-is_image t c =
    let below = some_shows (forest_of (tree_of c.args.tree.now) (children_of c.args.tree.now c.args.node)) in
    let seen : is_image c.in-Element.name (pairs_of c.in-Element.attrs.items) ≡ true =
    sym (ap (λ x. is_image c.in-Element.name (pairs_of x)) c.as_slice.ensures.value)
    ∙ (sym c.is_image.ensures ∙ c.if-is_image.true) in
    c.if-is_image.true
    ∙ (sym (ap (λ b. b || below) seen)
    ∙ (sym (ap (λ x. shows_over (data_of x) below) c.in-Element.is)
    ∙ node-shows c.args.tree.now c.args.node (data_of c.data.result.now) c.data.ensures.tree c.requires
    c.data.ensures.value))

pub shows-returns-else-is_image : goal.shows-returns-else-is_image
shows-returns-else-is_image t c =
    let below = some_shows (forest_of (tree_of c.args.tree.now) (children_of c.args.tree.now c.args.node)) in
    let other : is_image c.in-Element.name (pairs_of c.in-Element.attrs.items) ≡ false =
    sym (ap (λ x. is_image c.in-Element.name (pairs_of x)) c.as_slice.ensures.value)
    ∙ (sym c.is_image.ensures ∙ c.if-is_image.false) in
    c.some_shows.ensures
    ∙ (sym (ap (λ b. b || below) other)
    ∙ (sym (ap (λ x. shows_over (data_of x) below) c.in-Element.is)
    ∙ node-shows c.args.tree.now c.args.node (data_of c.data.result.now) c.data.ensures.tree c.requires
    c.data.ensures.value))

pub shows-returns-in_default : goal.shows-returns-in_default
shows-returns-in_default t c =
    let below = some_shows (forest_of (tree_of c.args.tree.now) (children_of c.args.tree.now c.args.node)) in
    sym (shows-other c.data.result.now below c.in_default.not-Text c.in_default.not-Element)
    ∙ node-shows c.args.tree.now c.args.node (data_of c.data.result.now) c.data.ensures.tree c.requires
    c.data.ensures.value
