-- Labels without white space around them.
use Rattle.std.proofs.Common.{◌≡◌, ℕ, zero, suc, ◌+◌, ◌<◌, true, false, List, [], ◌∷◌, length, take, get_or}
use Rattle.std.proofs.Common.{refl, arith, ap, ◌∙◌}
use Rattle.std.specs.List.{list_all}
use Rattle.std.specs.Char.{is_ascii_whitespace}
use Rattle.htmd_lexical.proofs.Cases.{test}
use Rattle.htmd_encodings.specs.Labels.{without_end}

-- all is white
pub all_white : (s : List ℕ) → ((k : ℕ) → k < length s → is_ascii_whitespace (get_or s k 0) ≡ true)
    → list_all is_ascii_whitespace s ≡ true
all_white [] h = refl
all_white (b ∷ s) h = rw (h 0 (omega arith)) (all_white s (λ k l. h (suc k) (omega arith)))

-- not all is
not_all_white : (s : List ℕ) (n : ℕ) → n < length s → is_ascii_whitespace (get_or s n 0) ≡ false
    → list_all is_ascii_whitespace s ≡ false
not_all_white [] n l e = absurd (omega arith)
not_all_white (b ∷ s) zero l e = rw e refl
not_all_white (b ∷ s) (suc n) l e =
    test (is_ascii_whitespace b) (λ w. rw w (not_all_white s n (omega arith) e)) (λ w. rw w refl)

end_from : (s : List ℕ) (n : ℕ) → n < length s → is_ascii_whitespace (get_or s n 0) ≡ false
    → ((k : ℕ) → n < k → k < length s → is_ascii_whitespace (get_or s k 0) ≡ true)
    → take (suc n) s ≡ without_end s
end_from [] n l e h = absurd (omega arith)
end_from (b ∷ s) zero l e h =
    rw (not_all_white (b ∷ s) 0 l e)
    (ap (λ t. b ∷ t) (nothing s (all_white s (λ k m. h (suc k) (omega arith) (omega arith)))))
  where
    nothing : (s : List ℕ) → list_all is_ascii_whitespace s ≡ true → [] ≡ without_end s
    nothing [] e = refl
    nothing (b ∷ s) e = rw e refl
end_from (b ∷ s) (suc n) l e h =
    rw (not_all_white (b ∷ s) (suc n) l e)
    (ap (λ t. b ∷ t) (end_from s n (omega arith) e (λ k m o. h (suc k) (omega arith) (omega arith))))

pub end_at : (s : List ℕ) (n : ℕ) → n < length s → is_ascii_whitespace (get_or s n 0) ≡ false
    → ((k : ℕ) → n < k → k < length s → is_ascii_whitespace (get_or s k 0) ≡ true)
    → take (n + 1) s ≡ without_end s
end_at s n l e h =
    let m : n + 1 ≡ suc n = omega arith in ap (λ k. take k s) m ∙ end_from s n l e h

pub no_end : (s : List ℕ) → ((k : ℕ) → k < length s → is_ascii_whitespace (get_or s k 0) ≡ true)
    → [] ≡ without_end s
no_end [] h = refl
no_end (b ∷ s) h = rw (all_white (b ∷ s) h) refl
