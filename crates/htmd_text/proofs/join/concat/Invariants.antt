-- The texts so far are put together.
use Rattle.std.proofs.Common.{◌≡◌, string_bytes, take}
use Rattle.std.specs.List.{flat_map}
use Rattle.htmd_text.proofs.join.concat.Given as goal

abbrev pub invariant-loop-text : goal.invariant-loop-text
invariant-loop-text l = string_bytes l.all ≡ flat_map (λ text. text.now) (take l.text-index l.texts)
