-- The rest of the text against the rest of the address.
use Rattle.std.proofs.Common.{◌≡◌}
use Rattle.std.specs.Str.{bytes_eq}
use Rattle.htmd_markdown.specs.Addresses.{escaped_address}
use Rattle.htmd_markdown.proofs.WrittenBytesLemmas.{rest_written}
use Rattle.htmd_markdown.proofs.address.is_written_address.Given as goal

abbrev pub invariant-loop-byte : goal.invariant-loop-byte
invariant-loop-byte l = bytes_eq l.text (escaped_address l.address) ≡ bytes_eq l.rest
    (rest_written l.address l.byte-index)
