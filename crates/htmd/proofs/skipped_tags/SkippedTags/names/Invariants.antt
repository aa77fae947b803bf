use Rattle.std.proofs.Common.{◌≡◌, map, take, string_bytes}
use Rattle.htmd.proofs.skipped_tags.SkippedTags.names.Given as goal

abbrev pub invariant-loop-name : goal.invariant-loop-name
invariant-loop-name l = map (λ name. name.now) l.names.items ≡ map string_bytes (take l.name-index l.name-items)
