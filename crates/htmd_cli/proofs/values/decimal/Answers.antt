-- All digits were read; or what isn't a digit is there, or one digit too many.
use Rattle.std.proofs.Common.{◌∙◌, ◌^◌, ap, sym, drop, Some, arith}
use Rattle.htmd_cli.specs.Options.{below, number_behind}
use Rattle.htmd_cli.proofs.OptionsLemmas.{number_ends, number_is}
use Rattle.htmd_cli.proofs.values.decimal.Goals as goal

pub returns-in_default : goal.returns-in_default
returns-in_default c =
    let s = c.as_bytes-byte-items.result.now in
    let i = c.loop-byte.byte-index in
    let n = c.loop-byte.number in
    sym (number_ends n s i (omega arith) c.in_default.ensures)
    ∙ (ap (λ x. below (2 ^ 64) (number_behind (Some n) (drop i x))) c.as_bytes-byte-items.ensures.value
    ∙ c.loop-byte.invariant.so_far)

pub returns : goal.returns
returns c =
    let s = c.as_bytes-byte-items.result.now in
    let i = c.loop-byte.byte-index in
    let n = c.loop-byte.number in
    number_is n s i c.loop-byte.invariant.fits (omega arith)
    ∙ (ap (λ x. below (2 ^ 64) (number_behind (Some n) (drop i x))) c.as_bytes-byte-items.ensures.value
    ∙ c.loop-byte.invariant.so_far)
