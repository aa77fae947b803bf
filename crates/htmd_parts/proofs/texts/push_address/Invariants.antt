-- What was put so far and what is to come.
use Rattle.std.proofs.Common.{◌≡◌, ◌++◌, drop, string_bytes}
use Rattle.htmd_commonmark_reading.specs.Rendering.{escaped_address}
use Rattle.htmd_parts.proofs.texts.push_address.Given as goal

abbrev pub invariant-loop-byte : goal.invariant-loop-byte
invariant-loop-byte l =
    string_bytes l.out ++ escaped_address (drop l.byte-index l.address)
    ≡ string_bytes l.fn.out ++ escaped_address l.address
