use Rattle.std.proofs.Common.{sym}
use Rattle.htmd_nodes.specs.NumberedTrees.{tree_of, forest_of}
use Rattle.htmd_shown.specs.SightViews.{sight_of}
use Rattle.htmd_shown.proofs.WalkLemmas.{no_script}
use Rattle.htmd_shown.proofs.sight.Sight.script_follows.Goals as goal

pub returns-then-not-scripts : goal.returns-then-not-scripts
returns-then-not-scripts c =
    let items = c.args.self.now.tree.now in
    sym (no_script (sight_of c.args.self.now).skip (forest_of (tree_of items) c.args.nodes.now)
    (c.requires.scripts c.if-not-scripts.true))
