-- The first byte that is not of a scheme, or the end.
use Rattle.std.proofs.Common.{length, sym, arith}
use Rattle.std.proofs.lemmas.List.Sums.{prefix_len_is}
use Rattle.htmd_commonmark.specs.Addresses.{is_scheme_character}
use Rattle.htmd_commonmark.proofs.address.scheme_len.Goals as goal

pub returns-then-not-is_scheme_character : goal.returns-then-not-is_scheme_character
returns-then-not-is_scheme_character c =
    sym (prefix_len_is is_scheme_character c.args.bytes.now c.loop-len.len 0 (omega arith) c.loop-len.invariant
    (λ _. cc))

pub returns : goal.returns
returns c =
    sym (prefix_len_is is_scheme_character c.args.bytes.now (length c.args.bytes.now) 0 (omega arith)
    (λ k lt. c.loop-len.invariant k (omega arith)) (λ lt. absurd (omega arith)))
