use Rattle.std.proofs.Common.{◌∙◌, sym}
use Rattle.htmd_nodes.specs.NumberedTrees.{tree_of, forest_of}
use Rattle.htmd_shown.specs.SightViews.{sight_of}
use Rattle.htmd_shown.proofs.WalkLemmas.{no_script, passed_on}
use Rattle.htmd_shown.proofs.sight.Sight.follows_after.Goals as goal

pub returns-then-not-scripts : goal.returns-then-not-scripts
returns-then-not-scripts c =
    let items = c.args.self.now.tree.now in
    sym (no_script (sight_of c.args.self.now).skip (forest_of (tree_of items) c.args.rest.now)
    (c.requires.scripts c.if-not-scripts.true))

pub returns-then-is_passed : goal.returns-then-is_passed
returns-then-is_passed c =
    let items = c.args.self.now.tree.now in
    passed_on (sight_of c.args.self.now).skip (tree_of items c.args.node) (forest_of (tree_of items) c.args.rest.now)
    c.args.follows c.requires.follows (sym c.is_passed.ensures ∙ c.if-is_passed.true)
