use Rattle.std.proofs.Common.{◌≡◌, map, take}
use Rattle.htmd_nodes.specs.Tags.{tag_text}
use Rattle.htmd_walk.proofs.element_handler.element_handlers.texts_of.Given as goal

abbrev pub invariant-loop-tag : goal.invariant-loop-tag
invariant-loop-tag l = map (λ t. t.now) l.texts.items ≡ map tag_text (take l.tag-index l.tags)
