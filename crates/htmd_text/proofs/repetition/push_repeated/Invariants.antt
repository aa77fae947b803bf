-- What was put so far, and that there is room for the rest.
use Rattle.std.proofs.Common.{◌≡◌, ◌-◌, ◌+◌, ◌≤◌, ◌++◌, replicate}
use Rattle.std.specs.String.{string_bytes, string_len, string_capacity}
use Rattle.htmd_text.proofs.repetition.push_repeated.Given as goal

abbrev pub invariant-loop : goal.invariant-loop
invariant-loop l = record {
  put : string_bytes l.text ≡ string_bytes l.fn.text ++ replicate l.counter l.character;
  room : string_len l.text + (l.count - l.counter) ≤ string_capacity l.text;
}
