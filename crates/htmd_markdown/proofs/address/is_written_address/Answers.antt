-- One more byte of the address.
use Rattle.std.proofs.Common.{◌∙◌, ◌+◌, ◌++◌, length, get_or, sym, ap, arith}
use Rattle.std.specs.Str.{bytes_eq}
use Rattle.htmd_markdown.specs.WrittenBytes.{written_byte}
use Rattle.htmd_markdown.proofs.WrittenBytesLemmas.{rest_written, written_more, written_all, is_empty_is}
use Rattle.htmd_markdown.proofs.address.is_written_address.Goals as goal

pub loop-byte-preserved : goal.loop-byte-preserved
loop-byte-preserved c =
    let s = c.args.address.now in
    let i = c.loop-byte.byte-index in
    let byte = ap (λ bytes. get_or bytes i 0) c.as_bytes-byte-items.ensures.value in
    let more = written_more s i (omega (arith, ap length c.as_bytes-byte-items.ensures.value)) in
    c.loop-byte.invariant
    ∙ ap (bytes_eq c.loop-byte.rest.now) (more ∙ ap (λ b. written_byte b ++ rest_written s (i + 1)) (sym byte))
    ∙ c.in-Some.ensures (rest_written s (i + 1))

pub returns : goal.returns
returns c =
    let all = written_all c.args.address.now c.loop-byte.byte-index
    (omega (arith, ap length c.as_bytes-byte-items.ensures.value)) in
    c.is_empty.ensures ∙ is_empty_is c.loop-byte.rest.now
    ∙ sym (c.loop-byte.invariant ∙ ap (bytes_eq c.loop-byte.rest.now) all)

pub returns-in-None : goal.returns-in-None
returns-in-None c =
    let s = c.args.address.now in
    let i = c.loop-byte.byte-index in
    let byte = ap (λ bytes. get_or bytes i 0) c.as_bytes-byte-items.ensures.value in
    let more = written_more s i (omega (arith, ap length c.as_bytes-byte-items.ensures.value)) in
    sym (c.loop-byte.invariant
    ∙ ap (bytes_eq c.loop-byte.rest.now) (more ∙ ap (λ b. written_byte b ++ rest_written s (i + 1)) (sym byte))
    ∙ c.in-None.ensures (rest_written s (i + 1)))
