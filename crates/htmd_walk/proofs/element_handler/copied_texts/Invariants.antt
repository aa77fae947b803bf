use Rattle.std.proofs.Common.{◌≡◌, map, take, string_bytes}
use Rattle.htmd_walk.proofs.element_handler.copied_texts.Given as goal

abbrev pub invariant-loop-text : goal.invariant-loop-text
invariant-loop-text l =
    map (λ s. string_bytes s) l.copy.items ≡ map (λ s. string_bytes s) (take l.text-index l.texts)
