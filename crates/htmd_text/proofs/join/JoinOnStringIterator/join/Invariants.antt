-- What the loop of `join` keeps.
use Rattle.std.proofs.Common.{◌≡◌, ◌<◌, length, map}
use Rattle.std.specs.Iterator.{items_left}
use Rattle.std.specs.String.{string_bytes}
use Rattle.htmd_text.specs.Joins.{joined_texts}
use Rattle.htmd_text.proofs.JoinsLemmas.{Loop}
use Rattle.htmd_text.proofs.join.JoinOnStringIterator.join.Given as goal

abbrev pub invariant-loop-item : goal.invariant-loop-item
invariant-loop-item g l =
    Loop g.Self.Iterator (λ xs. (0 < length xs)
    × (string_bytes l.joined ≡ joined_texts l.fn.separator (map g.Self.Item.AsStr.text xs))) l.fn.self l.self

abbrev pub decreases-loop-item : goal.decreases-loop-item
decreases-loop-item g l = items_left g.Self.Iterator.remaining l.self
