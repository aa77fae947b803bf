-- What is a reference before a space is one without what is behind it.
use Rattle.std.proofs.Common.{◌≡◌, ℕ, Bool, true, false, not, cond, List, [], ◌∷◌, ◌++◌, refl, sym, ap, ◌∙◌, codes}
use Rattle.std.proofs.Common.{Some}
use Rattle.std.specs.Prelude.{◌==◌, ◌&&◌, find}
use Rattle.std.specs.Char.{is_ascii_digit, is_ascii_hexdigit, is_ascii_alphanumeric, is_ascii_alphabetic}
use Rattle.htmd_lexical.specs.Characters.{space, number_sign, semicolon, is_one_of}
use Rattle.htmd_lexical.specs.CharacterClasses.{first_is}
use Rattle.htmd_commonmark.specs.References.{is_semicolon, ends_behind, is_run, is_number, is_reference}

pub mono-and : (a b d : Bool) → (b ≡ true → d ≡ true) → (a && b) ≡ true → (a && d) ≡ true
mono-and true b d g e = g e
mono-and false b d g e = absurd (cc)

ends-before : (p : ℕ → Bool) (z f : List ℕ) → p space ≡ false → ends_behind p (z ++ space ∷ f) ≡ true
    → ends_behind p z ≡ true
ends-before p [] f none h =
    absurd (let bad : false ≡ true =
    ap (λ e. is_semicolon (cond (not e) (Some space) (find (λ b. not (p b)) f))) (sym none) ∙ h in cc)
ends-before p (b ∷ z) f none h =
    elim (p b)
    as (λ e. is_semicolon (cond (not e) (Some b) (find (λ c. not (p c)) (z ++ space ∷ f))) ≡ true
    → is_semicolon (cond (not e) (Some b) (find (λ c. not (p c)) z)) ≡ true) [
      | true ↦ λ k. ends-before p z f none k
      | false ↦ λ k. k
    ] h

run-before : (p : ℕ → Bool) (z f : List ℕ) → p space ≡ false → is_run p (z ++ space ∷ f) ≡ true
    → is_run p z ≡ true
run-before p [] f none h = ends-before p [] f none h
run-before p (b ∷ z) f none h =
    mono-and (not (first_is semicolon (b ∷ z))) (ends_behind p ((b ∷ z) ++ space ∷ f)) (ends_behind p (b ∷ z))
    (ends-before p (b ∷ z) f none) h

number-before : (z f : List ℕ) → is_number (z ++ space ∷ f) ≡ true → is_number z ≡ true
number-before [] f h = run-before is_ascii_digit [] f refl h
number-before (b ∷ z) f h =
    elim (is_one_of (codes "xX") b)
    as (λ e. cond e (is_run is_ascii_hexdigit (z ++ space ∷ f)) (is_run is_ascii_digit (b ∷ (z ++ space ∷ f)))
    ≡ true
    → cond e (is_run is_ascii_hexdigit z) (is_run is_ascii_digit (b ∷ z)) ≡ true) [
      | true ↦ λ k. run-before is_ascii_hexdigit z f refl k
      | false ↦ λ k. run-before is_ascii_digit (b ∷ z) f refl k
    ] h

pub reference-before : (z f : List ℕ) → is_reference (z ++ space ∷ f) ≡ true → is_reference z ≡ true
reference-before [] f h = absurd (cc)
reference-before (b ∷ z) f h =
    elim (b == number_sign)
    as (λ e. cond e (is_number (z ++ space ∷ f)) (is_ascii_alphabetic b && ends_behind is_ascii_alphanumeric
    (z ++ space ∷ f))
    ≡ true → cond e (is_number z) (is_ascii_alphabetic b && ends_behind is_ascii_alphanumeric z) ≡ true) [
      | true ↦ λ k. number-before z f k
      | false ↦ λ k.
          mono-and (is_ascii_alphabetic b) (ends_behind is_ascii_alphanumeric (z ++ space ∷ f))
          (ends_behind is_ascii_alphanumeric z) (ends-before is_ascii_alphanumeric z f refl) k
    ] h
