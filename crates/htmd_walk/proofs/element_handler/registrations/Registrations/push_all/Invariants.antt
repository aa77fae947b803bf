use Rattle.std.proofs.Common.{◌≡◌, ◌≤◌, ◌+◌, ◌++◌, map, reverse, All, string_bytes, vec_len, vec_capacity}
use Rattle.std.specs.HashMap.{spare}
use Rattle.htmd_walk.specs.Choice.{tags_at}
use Rattle.htmd_walk.specs.TagIndexes.{tag_index}
use Rattle.htmd_walk.proofs.element_handler.registrations.Registrations.push_all.Given as goal

abbrev pub invariant-loop-key : goal.invariant-loop-key
invariant-loop-key l = record {
  same : All (λ p. string_bytes p.0 ≡ string_bytes p.1) l.names.items;
  positions : vec_len l.names ≤ spare l.self.newest;
  room : vec_len l.self.all + vec_len l.names ≤ vec_capacity l.self.all;
  whole : map tag_index l.self.all.items ++ tags_at l.index (map (λ p. string_bytes p.1) (reverse l.names.items))
      ≡ map tag_index l.fn.self.all.items
      ++ tags_at l.index (map (λ p. string_bytes p.1) (reverse l.fn.names.items));
}

abbrev pub decreases-loop-key : goal.decreases-loop-key
decreases-loop-key l = vec_len l.names
