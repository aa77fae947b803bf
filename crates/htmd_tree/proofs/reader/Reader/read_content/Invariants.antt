-- What the loop of `read_content` keeps.
use Rattle.std.proofs.Common.{Bool, List, length}
use Rattle.htmd_grammar.specs.ReaderSteps.{OpenElement}
use Rattle.htmd_tree.specs.OpenNodes.{Holds, IsReading}
use Rattle.htmd_tree.specs.Advances.{HasRead}
use Rattle.htmd_tree.proofs.reader.Reader.read_content.Given as goal

abbrev pub invariant-loop-self : goal.invariant-loop-self
invariant-loop-self l =
    IsReading l.self
    × ((has_doctype : Bool) (fs : List OpenElement) → Holds l.fn.self has_doctype fs
    → HasRead l.fn.self l.self has_doctype fs)

abbrev pub decreases-loop-self : goal.decreases-loop-self
decreases-loop-self l = length l.self.rest.now
