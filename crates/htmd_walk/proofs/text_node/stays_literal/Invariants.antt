use Rattle.std.proofs.Common.{◌≡◌, ◌&&◌, false, drop}
use Rattle.htmd_walk.specs.UnescapedTexts.{stays_literal}
use Rattle.htmd_walk.proofs.text_node.stays_literal.Given as goal

-- what is left decides with what was seen
abbrev pub invariant-loop-b : goal.invariant-loop-b
invariant-loop-b l = (l.plain && stays_literal l.after_space (drop l.b-index l.bytes)) ≡ stays_literal false l.bytes
