-- A set may be cut where its first address ends.
use Rattle.std.proofs.Common.{rules, ◌≡◌, ℕ, ◌-◌, subst, sym, take}
use Rattle.std.specs.List.{suffix_len}
use Rattle.std.specs.Str.{IsCharBoundary}
use Rattle.htmd_addresses.specs.AddressSets.{is_comma, word_len}
use Rattle.htmd_addresses.proofs.SetsLemmas.{address_boundary}
use Rattle.htmd_addresses.proofs.sets.address_len.Goals as goal

pub returns-clause-boundary : goal.returns-clause-boundary
returns-clause-boundary c =
    let s = c.args.set.now in
    let n = c.trailing_len.result in
    let counted : n ≡ suffix_len is_comma (take (word_len s) s) = search rules in
    let place = c.word_len-len.ensures.value in
    subst (λ (k : ℕ). IsCharBoundary s (k - n)) (sym place)
    (address_boundary s n (subst (λ (k : ℕ). IsCharBoundary s k) place c.word_len-len.ensures.boundary) counted)
