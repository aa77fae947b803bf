-- Folders whose names are borrowed.
use Rattle.std.proofs.Common.{◌≡◌, ℕ, ◌+◌, ◌-◌, ◌<◌, ◌≤◌, ◌==◌, List, [], ◌∷◌, ◌++◌, length, take, drop, get_or, refl}
use Rattle.std.proofs.Common.{sym, ap, ◌∙◌}
use Rattle.std.proofs.Common.{Bor, Option, Some, None, true, false, add-zero}
use Rattle.std.specs.Option.{option_copied, option_map}
use Rattle.std.specs.List.{common_prefix_len, slice_get}
use Rattle.std.specs.Str.{bytes_eq}
use Rattle.std.proofs.lemmas.Bool.{cond-true, cond-false}
use Rattle.std.proofs.lemmas.List.{length-map, take-map, drop_all, drop_more}
use Rattle.std.proofs.lemmas.Option.{slice_get-map}
use Rattle.htmd_addresses.specs.PageViews.{names_of}
use Rattle.htmd_addresses.specs.Paths.{Folder, above, parent, up, up_from, enter, enter_all}

module _ (names all : List (Bor (List ℕ))) (last : Option (Bor (Bor (List ℕ)))) (same : names ≡ all)
    (read : option_copied last ≡ slice_get names (length names - 1)) where
  -- up from a folder, by its last name
  up-read : (o : Option (Bor (Bor (List ℕ)))) → last ≡ o
      → up (names_of all) ≡ up_from (names_of all) (option_map (λ name. name.now) (option_copied o))
  up-read o is =
      ap (up_from (names_of all))
      (ap (λ n. slice_get (names_of all) (n - 1)) (length-map all (λ name. name.now))
      ∙ (slice_get-map (λ (name : Bor (List ℕ)). name.now) all (length all - 1)
      ∙ (ap (λ (l : List (Bor (List ℕ))). option_map (λ name. name.now) (slice_get l (length l - 1))) (sym same)
      ∙ ap (option_map (λ name. name.now)) (sym read ∙ ap option_copied is))))

  pub up-none : last ≡ None → up (names_of all) ≡ names_of all ++ parent ∷ []
  up-none is = up-read None is

  pub up-root : (name : Bor (Bor (List ℕ))) → last ≡ Some name → (length name.now.now == 0) ≡ true
      → up (names_of all) ≡ names_of all
  up-root name is e = up-read (Some name) is ∙ cond-true _ _ _ e

  pub up-parent : (name : Bor (Bor (List ℕ))) → last ≡ Some name → (length name.now.now == 0) ≡ false
      → bytes_eq name.now.now parent ≡ true → up (names_of all) ≡ names_of all ++ parent ∷ []
  up-parent name is e f = up-read (Some name) is ∙ (cond-false _ _ _ e ∙ cond-true _ _ _ f)

  pub up-name : (name : Bor (Bor (List ℕ))) → last ≡ Some name → (length name.now.now == 0) ≡ false
      → bytes_eq name.now.now parent ≡ false → up (names_of all) ≡ names_of (take (length all - 1) all)
  up-name name is e f =
      up-read (Some name) is
      ∙ (cond-false _ _ _ e
      ∙ (cond-false _ _ _ f
      ∙ (ap (λ n. take (n - 1) (names_of all)) (length-map all (λ name. name.now))
      ∙ take-map (λ (name : Bor (List ℕ)). name.now) (length all - 1) all)))

-- a folder by one name more of a path
pub enter_all-turn : (folder : Folder) (names : List (List ℕ)) (i : ℕ) (name : List ℕ) → i < length names
    → name ≡ get_or names i name
    → enter_all folder (drop i names) ≡ enter_all (enter folder name) (drop (i + 1) names)
enter_all-turn folder names i name l is =
    ap (enter_all folder) (drop_more names i name l ∙ ap (λ n. n ∷ drop (i + 1) names) (sym is))

-- where the second of two folders ends, no names are the same
none-same : (names : List (List ℕ)) → common_prefix_len bytes_eq names [] ≡ 0
none-same [] = refl
none-same (name ∷ names) = refl

pub same-at_end : (from to : List (Bor (List ℕ))) (same : ℕ) → length to ≤ same
    → same + common_prefix_len bytes_eq (names_of (drop same from)) (names_of (drop same to)) ≡ same
same-at_end from to same past =
    ap (λ (l : List (Bor (List ℕ))). same + common_prefix_len bytes_eq (names_of (drop same from)) (names_of l))
    (drop_all same to past)
    ∙ (ap (λ n. same + n) (none-same (names_of (drop same from))) ∙ add-zero same)

-- a folder that loses as many names as another one has
pub above_taken : (below folder : List (Bor (List ℕ))) (n : ℕ) → n ≡ length folder - length below
    → names_of (take n folder) ≡ above (names_of below) (names_of folder)
above_taken below folder n e =
    sym (take-map (λ (name : Bor (List ℕ)). name.now) n folder)
    ∙ ap (λ k. take k (names_of folder))
    (e ∙ (ap (λ k. k - length below) (sym (length-map folder (λ name. name.now)))
    ∙ ap (λ k. length (names_of folder) - k) (sym (length-map below (λ name. name.now)))))
