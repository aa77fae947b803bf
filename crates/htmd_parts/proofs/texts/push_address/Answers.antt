-- One more byte, and all.
use Rattle.std.proofs.Common.{refl, string_bytes}
use Rattle.htmd_commonmark_reading.specs.Rendering.{address_byte, escaped_address}
use Rattle.htmd_parts.proofs.OrderLemmas.{turn, end}
use Rattle.htmd_parts.proofs.texts.push_address.Goals as goal

pub loop-byte-preserved : goal.loop-byte-preserved
loop-byte-preserved c =
    turn escaped_address address_byte (λ b s. refl) c.args.address.now c.loop-byte.byte-index 0
    (string_bytes c.loop-byte.out) (string_bytes c.push_address_byte.new.out) _ c.loop-byte-test.true
    c.in_ok-push_address_byte.ensures c.loop-byte.invariant

pub returns : goal.returns
returns c =
    end escaped_address refl c.args.address.now c.loop-byte.byte-index (string_bytes c.loop-byte.out) _
    c.loop-byte-test.false c.loop-byte.invariant
