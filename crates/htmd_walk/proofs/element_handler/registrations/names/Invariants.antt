use Rattle.std.proofs.Common.{◌≡◌, map, take, All, string_bytes}
use Rattle.htmd_walk.proofs.element_handler.registrations.names.Given as goal

abbrev pub invariant-loop-tag : goal.invariant-loop-tag
invariant-loop-tag l = record {
  names : map (λ p. string_bytes p.1) l.names.items ≡ map (λ t. t.now) (take l.tag-index l.tags);
  same : All (λ p. string_bytes p.0 ≡ string_bytes p.1) l.names.items;
}
