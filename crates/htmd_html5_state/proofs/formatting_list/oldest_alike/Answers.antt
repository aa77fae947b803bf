-- One more element that is alike.
use Rattle.std.proofs.Common.{◌≡◌, ◌∙◌, ◌+◌, ◌++◌, ◌∷◌, [], ℕ, true, sym, ap, arith}
use Rattle.std.proofs.lemmas.List.{length_push}
use Rattle.htmd_html5_state.specs.Nodes.{KindValue, same_element}
use Rattle.htmd_html5_state.specs.Formatting.{is_alike}
use Rattle.htmd_html5_state.specs.Views.{kind_seen}
use Rattle.htmd_html5_state.proofs.FormattingLemmas.{last_of-push, filter-more}
use Rattle.htmd_html5_state.proofs.formatting_list.oldest_alike.Goals as goal

pub loop-older-preserved-then-are_alike : goal.loop-older-preserved-then-are_alike
loop-older-preserved-then-are_alike c =
    let inv = c.loop-older.invariant in
    let n = c.in-Some-entry.node in
    let passes : is_alike c.args.document.now (kind_seen c.args.kind) n ≡ true =
    ap (λ (k : KindValue). same_element k (kind_seen c.args.kind)) (sym c.kind.ensures)
    ∙ (sym c.are_alike.ensures ∙ c.if-are_alike.true) in (
      inv.0 ++ n ∷ [],
      ap (λ (k : ℕ). k + 1) inv.1 ∙ sym (length_push inv.0 n),
      omega (arith, inv.2, c.in-Some.ensures.shorter),
      sym (last_of-push inv.0 n),
      filter-more inv.0 _ c.loop-older.rest.now c.in-Some.older.now c.in-Some.entry n c.in-Some.ensures.list
          c.in-Some-entry.is (is_alike c.args.document.now (kind_seen c.args.kind)) passes inv.4,
    )
