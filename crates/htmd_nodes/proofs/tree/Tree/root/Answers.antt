-- The texts of a tree are strings.
use Rattle.std.proofs.Common.{subst}
use Rattle.htmd_nodes.specs.Items.{HoldTexts}
use Rattle.htmd_nodes.proofs.EntriesLemmas.{texts_hold}
use Rattle.htmd_nodes.proofs.tree.Tree.root.Goals as goal

pub returns-clause-texts : goal.returns-clause-texts
returns-clause-texts c = subst HoldTexts c.self.view_is (texts_hold c.self.inside.entries.items)
