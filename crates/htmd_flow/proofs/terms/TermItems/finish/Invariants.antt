use Rattle.std.proofs.Common.{◌≡◌, map}
use Rattle.htmd_flow.specs.Flows.{term_item}
use Rattle.htmd_flow.specs.ListViews.{item_of}
use Rattle.htmd_flow.specs.ParagraphViews.{writing_in}
use Rattle.htmd_flow.proofs.terms.TermItems.finish.Given as goal

abbrev pub invariant-loop-item : goal.invariant-loop-item
invariant-loop-item l = map item_of l.items.items ≡ map term_item (map writing_in l.yielded)
