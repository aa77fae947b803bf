use Rattle.std.proofs.Common.{rules, ◌≡◌, ◌+◌, ◌-◌, ◌++◌, ◌∷◌, [], ℕ, List, arith, get_or, drop, cond, ap, ◌∙◌}
use Rattle.std.specs.Borrow.{Bor}
use Rattle.std.specs.Str.{bytes_eq}
use Rattle.htmd_selectors.specs.declared.matching.Counts.{Counts}
use Rattle.htmd_selectors.specs.Types.{occurrences, type_counts}
use Rattle.htmd_selectors.specs.TypeViews.{names_of, seen_of}
use Rattle.htmd_selectors.proofs.TypesLemmas.{counts-turn, names-turn, seen-few}
use Rattle.htmd_selectors.proofs.types.type_counts.Goals as goal

pub see-requires : goal.see-requires
see-requires c =
    let few = c.loop-name.invariant.few
    (get_or c.args.names.now c.loop-name.name-index (record { ref_ptr = (0, 0); now = [] })).now in
    omega (arith, few)

pub loop-name-preserved : goal.loop-name-preserved
loop-name-preserved c =
    let names : List (Bor (List ℕ)) = c.args.names.now in
    let i : ℕ = c.loop-name.name-index in
    let none : Bor (List ℕ) = record { ref_ptr = (0, 0); now = [] } in
    let name : List ℕ = (get_or names i none).now in
    let state = c.loop-name.invariant.state in
    let old = c.loop-name.seen in
    let new = c.see.new.seen in
    let more : (n : List ℕ) → seen_of new n ≡ cond (bytes_eq name n) 1 0 + seen_of old n =
    λ n. c.in_ok-before.ensures.seen n in
    let turn = names-turn names i none (omega arith) in
    let total : c.times.result ≡ occurrences name (names_of names)
    = c.times.ensures ∙ c.in_ok-totals.ensures name in
    let seen : c.in_ok-before.before ≡ occurrences name state.0 = c.in_ok-before.ensures.count ∙ state.1 name in
    let after : c.saturating_sub-after.result ≡ c.times.result - c.in_ok-before.before - 1 = search rules in
    let pushed : c.push.new.self.items ≡ c.loop-name.counts.items
    ++ (record { before = c.in_ok-before.before; after = c.times.result - c.in_ok-before.before - 1 }) ∷ [] =
    c.in_ok-push.ensures.items
    ∙ ap (λ k. c.loop-name.counts.items ++ (record { before = c.in_ok-before.before; after = k }) ∷ []) after in
    record {
      few = λ n. seen-few old new name n i (more n) (c.loop-name.invariant.few n);
      state = (
        name ∷ state.0,
        (λ n. more n ∙ ap (λ m. cond (bytes_eq name n) 1 0 + m) (state.1 n)),
        (λ n. omega (arith, ap (occurrences n) turn, state.2 n)),
        ap (λ (x : List Counts). x ++ type_counts (name ∷ state.0) (names_of (drop (i + 1) names))) pushed
            ∙ counts-turn state.0 names i none (names_of names) c.loop-name.counts.items c.times.result
            c.in_ok-before.before (omega arith) state.2 state.3 total seen,
      );
    }
