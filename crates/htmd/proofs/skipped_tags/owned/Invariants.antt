use Rattle.std.proofs.Common.{◌≡◌, map, take, string_bytes}
use Rattle.htmd.proofs.skipped_tags.owned.Given as goal

abbrev pub invariant-loop-name : goal.invariant-loop-name
invariant-loop-name l = map string_bytes l.owned.items ≡ map (λ name. name.now) (take l.name-index l.names)
