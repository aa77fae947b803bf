-- A set may be cut in front of its first address.
use Rattle.std.proofs.Common.{ℕ, ap, subst, sym, ◌∙◌}
use Rattle.std.specs.Str.{IsCharBoundary}
use Rattle.htmd_addresses.specs.AddressSets.{before_len, is_before}
use Rattle.htmd_addresses.proofs.SetsLemmas.{before_of_ascii}
use Rattle.htmd_text.proofs.TrimsLemmas.{start_boundary}
use Rattle.htmd_addresses.proofs.sets.first_candidate.Goals as goal

pub split_at-requires : goal.split_at-requires
split_at-requires c =
    let s = c.args.set.now in
    subst (λ (k : ℕ). IsCharBoundary s k) (sym (c.before_len.ensures ∙ ap before_len c.as_bytes.ensures.value))
    (start_boundary is_before s c.utf8.set before_of_ascii)
