-- References in place of line feeds, piece by piece.
use Rattle.std.proofs.Common.{List, [], ap, inl, inr, not, refl, subst, sym, true, ℕ, ◌++◌, ◌∙◌, ◌∷◌, ◌≡◌, ◌⊎◌}
use Rattle.std.specs.Prelude.{◌==◌}
use Rattle.std.proofs.lemmas.Bool.{and_parts}
use Rattle.htmd_lexical.specs.CharacterClasses.{lacks}
use Rattle.htmd_values.specs.RawBlocks.{RefersToLineFeeds, line_feed_reference, nothing, reference, same}

pub refers_same : (s : List ℕ) → RefersToLineFeeds s s
refers_same [] = nothing
refers_same (b ∷ s) = same b (refers_same s)

pub refers_nothing : (x : List ℕ) → RefersToLineFeeds [] x → x ≡ []
refers_nothing x nothing = refl

-- the first byte stands there, or it is a line feed and its reference stands there
pub refers_first : (b : ℕ) (s x : List ℕ) → RefersToLineFeeds (b ∷ s) x
    → ((t : List ℕ) × (x ≡ b ∷ t) × RefersToLineFeeds s t)
    ⊎ ((t : List ℕ) × (b ≡ 10) × (x ≡ line_feed_reference ++ t)
    × RefersToLineFeeds s t)
refers_first b s x (same {t = t} c r) = inl (t, refl, r)
refers_first b s x (reference {t = t} r) = inr (t, refl, refl, r)

pub refers_split : (a b x : List ℕ) → RefersToLineFeeds (a ++ b) x
    → (y z : List ℕ) × (x ≡ y ++ z) × RefersToLineFeeds a y × RefersToLineFeeds b z
refers_split [] b x r = ([], x, refl, nothing, r)
refers_split (c ∷ a) b x r = elim (refers_first c (a ++ b) x r) [
  | inl w ↦ let i =
      refers_split a b w.0 w.2 in (c ∷ i.0, i.1, w.1 ∙ ap (λ (y : List ℕ). c ∷ y) i.2, same c i.3, i.4)
  | inr w ↦
      let i = refers_split a b w.0 w.3 in (
        line_feed_reference ++ i.0,
        i.1,
        w.2 ∙ ap (λ (y : List ℕ). line_feed_reference ++ y) i.2,
        subst (λ (n : ℕ). RefersToLineFeeds (n ∷ a) (line_feed_reference ++ i.0)) (sym w.1) (reference i.3),
        i.4,
      )
]

-- without line feeds nothing changes
pub refers_plain : (a x : List ℕ) → lacks 10 a ≡ true → RefersToLineFeeds a x → x ≡ a
refers_plain [] x l r = refers_nothing x r
refers_plain (c ∷ a) x l r =
    let p = and_parts (not (c == 10)) (lacks 10 a) l in
    elim (refers_first c a x r) [
      | inl w ↦ w.1 ∙ ap (λ (y : List ℕ). c ∷ y) (refers_plain a w.0 p.1 w.2)
      | inr w ↦ absurd (let q = rw w.1 at p.0 in cc)
    ]
