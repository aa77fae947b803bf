use Rattle.std.proofs.Common.{◌≡◌, ◌∙◌, ◌+◌, drop, length, sym, ap, false}
use Rattle.htmd_nodes.specs.NumberedTrees.{more, tree_of, forest_of}
use Rattle.htmd_nodes.specs.Views.{data_of}
use Rattle.htmd_shown.proofs.NodesLemmas.{forest_at, within_at}
use Rattle.htmd_trimming.specs.FateViews as views
use Rattle.htmd_trimming.specs.Formulas.{holds_math, is_formula}
use Rattle.htmd_trimming.proofs.FormulasLemmas.{passed-on, found-here, found-before, found-other}
use Rattle.htmd_trimming.proofs.formulas.is_formula.Goals as goal
use Rattle.htmd_trimming.proofs.formulas.is_formula.Goals.{then-found-via-then-found}
use Rattle.htmd_trimming.proofs.formulas.is_formula.Goals.{then-found-via-else-found+then-not-is_math}
use Rattle.htmd_trimming.proofs.formulas.is_formula.Goals.{then-not-is_blank+else-found+else-not-is_math}
use Rattle.htmd_trimming.proofs.formulas.is_formula.Goals.{else-not-is_blank}

pub returns-then-found : goal.returns-then-found
returns-then-found c =
    let items = c.args.tree.now in
    let ids = c.args.nodes.now in
    let i = c.loop-node.node-index in
    let id = c.node-item.result in
    let tree = tree_of items id in
    let rest = forest_of (tree_of items) (drop (i + 1) ids) in
    let within = within_at (length items) ids i id c.requires c.loop-node-test.true c.node-item.is in
    let whole = c.data-data.ensures.tree in
    let d = data_of c.data-data.result.now in
    let so_far : holds_math c.loop-node.found (more tree rest) ≡ is_formula (forest_of (tree_of items) ids) =
    sym (ap (holds_math c.loop-node.found) (forest_at (tree_of items) ids i id c.loop-node-test.true c.node-item.is))
    ∙ c.loop-node.invariant in
    let other : views.is_blank d ≡ false = sym c.is_blank.ensures ∙ c.if-not-is_blank.true in
    elim c.then-found.branch [
      | then-found-via-then-found w ↦
          sym (ap (λ b. holds_math b (more tree rest)) w.if-found.true
          ∙ found-before items whole id within d c.data-data.ensures.value rest other)
          ∙ so_far
      | then-found-via-else-found+then-not-is_math w ↦
          sym (found-other items whole id within d c.data-data.ensures.value c.loop-node.found rest
          other (sym w.is_math.ensures ∙ w.if-not-is_math.true))
          ∙ so_far
    ]

pub loop-node-preserved : goal.loop-node-preserved
loop-node-preserved c =
    let items = c.args.tree.now in
    let ids = c.args.nodes.now in
    let i = c.loop-node.node-index in
    let id = c.node-item.result in
    let tree = tree_of items id in
    let rest = forest_of (tree_of items) (drop (i + 1) ids) in
    let within = within_at (length items) ids i id c.requires c.loop-node-test.true c.node-item.is in
    let whole = c.data-data.ensures.tree in
    let d = data_of c.data-data.result.now in
    let so_far : holds_math c.loop-node.found (more tree rest) ≡ is_formula (forest_of (tree_of items) ids) =
    sym (ap (holds_math c.loop-node.found) (forest_at (tree_of items) ids i id c.loop-node-test.true c.node-item.is))
    ∙ c.loop-node.invariant in
    elim c.if-not-is_blank.branch [
      | then-not-is_blank+else-found+else-not-is_math w ↦
          ap (λ b. holds_math b rest) w.found-is
          ∙ (sym (ap (λ b. holds_math b (more tree rest)) w.if-found.false
          ∙ found-here items whole id within d c.data-data.ensures.value rest
          (sym c.is_blank.ensures ∙ w.if-not-is_blank.true) (sym w.is_math.ensures ∙ w.if-not-is_math.false))
          ∙ so_far)
      | else-not-is_blank w ↦
          ap (λ b. holds_math b rest) w.found-is
          ∙ (sym (passed-on items whole id within d c.data-data.ensures.value c.loop-node.found rest
          (sym c.is_blank.ensures ∙ w.if-not-is_blank.false))
          ∙ so_far)
    ]
