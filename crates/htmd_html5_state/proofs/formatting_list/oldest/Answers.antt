-- One more element.
use Rattle.std.proofs.Common.{◌∙◌, ◌+◌, ◌++◌, ◌∷◌, [], ℕ, sym, ap, arith}
use Rattle.std.proofs.lemmas.List.{length_push}
use Rattle.htmd_html5_state.proofs.FormattingLemmas.{last_of-push, since-more}
use Rattle.htmd_html5_state.proofs.formatting_list.oldest.Goals as goal

pub loop-older-preserved : goal.loop-older-preserved
loop-older-preserved c =
    let inv = c.loop-older.invariant in
    let n = c.in-Some-entry.node in (
      inv.0 ++ n ∷ [],
      ap (λ (k : ℕ). k + 1) inv.1 ∙ sym (length_push inv.0 n),
      omega (arith, inv.2, c.in-Some.ensures.shorter),
      sym (last_of-push inv.0 n),
      since-more inv.0 _ c.loop-older.rest.now c.in-Some.older.now c.in-Some.entry n c.in-Some.ensures.list
          c.in-Some-entry.is inv.4,
    )
