-- Where a value in quotation marks ends.
use Rattle.std.proofs.Common.{List, [], drop, eqb, false, not, refl, sym, true, ℕ, ◌∙◌, ◌∷◌, ◌≡◌}
use Rattle.std.proofs.lemmas.Bool.{not-false, not-true}
use Rattle.htmd_lexical.proofs.Cases.{test}
use Rattle.htmd_lexical.specs.CharacterClasses.{behind_run, first_is, is_empty, leading_run}
use Rattle.htmd_lexical.specs.TagReading.{attribute, is_other, malformed, quoted_value}

-- what ends a run of other characters
quote_behind : (q : ℕ) (s : List ℕ)
    → first_is q (behind_run (is_other q) s) ≡ not (is_empty (behind_run (is_other q) s))
quote_behind q [] = refl
quote_behind q (b ∷ s) = test (eqb b q) (λ e. rw (e, e) refl) (λ e. rw e (quote_behind q s))

pub quote_lacks : (q : ℕ) (name s behind : List ℕ) → behind ≡ behind_run (is_other q) s
    → first_is q behind ≡ false
    → malformed ≡ quoted_value q name s
quote_lacks q name s behind e f =
    let k : not (is_empty (behind_run (is_other q) s)) ≡ false = sym (quote_behind q s) ∙ rw e at f in
    let m : is_empty (behind_run (is_other q) s) ≡ true = not-false _ k in
    rw m refl

pub quote_ends : (q : ℕ) (name s value behind rest : List ℕ) → value ≡ leading_run (is_other q) s
    → behind ≡ behind_run (is_other q) s → first_is q behind ≡ true → rest ≡ drop 1 behind
    → attribute name value rest ≡ quoted_value q name s
quote_ends q name s value behind rest d e f g =
    let k : not (is_empty (behind_run (is_other q) s)) ≡ true = sym (quote_behind q s) ∙ rw e at f in
    let m : is_empty (behind_run (is_other q) s) ≡ false = not-true _ k in
    rw (m, d, g, e) refl
