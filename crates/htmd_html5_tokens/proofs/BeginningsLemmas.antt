-- Where a text may be cut: before what ends a part of it. That begins with an ASCII character.
use Rattle.std.proofs.Common.{◌≡◌, ℕ, ◌+◌, ◌<◌, Bool, true, false, List, [], ◌∷◌, length, drop, get_or}
use Rattle.std.proofs.Common.{refl, ap, ◌∙◌, arith}
use Rattle.std.proofs.lemmas.Bool.Decides.{nat_tests}
use Rattle.std.proofs.lemmas.List.{get_or-drop}
use Rattle.std.specs.Prelude.{◌==◌}
use Rattle.std.specs.Str.{IsCharBoundary}
use Rattle.htmd_lexical.proofs.Cases.{test}
use Rattle.htmd_lexical.specs.CharacterClasses.{first_is, up_to, behind_run, is_empty}
use Rattle.htmd_lexical.specs.TagReading.{is_other}
use Rattle.htmd_lexical.proofs.CharacterClassesLemmas.{up_to-le-length, stops_at}
pub use Rattle.htmd_scanning.proofs.BeginningsLemmas.{cut_after_beginning}
use Rattle.htmd_html5_tokens.specs.Comments.{ends_comment}
use Rattle.htmd_html5_tokens.specs.NextToken.{ends_section, begins_markup}

abbrev pub BeginsAscii : List ℕ → Type 0
BeginsAscii t = (0 < length t) × (get_or t 0 0 < 128)

pub cut_up_to : (stop : List ℕ → Bool) (s : List ℕ) (n : ℕ) → n ≡ length (up_to stop s)
    → ((t : List ℕ) → stop t ≡ true → BeginsAscii t) → IsCharBoundary s n
cut_up_to stop s n e h =
    let w = up_to-le-length stop s in (
      omega (arith, e),
      λ l high.
          let at : stop (drop n s) ≡ true =
          ap (λ k. stop (drop k s)) e ∙ stops_at stop s (omega (arith, e)) in
          let a = h (drop n s) at in
          let z : n + 0 ≡ n = omega arith in
          let b : get_or s n 0 < 128 = omega (arith, a.1, get_or-drop n s 0 0, ap (λ k. get_or s k 0) z) in
          absurd (omega arith),
    )

pub same : (x y : ℕ) → (x == y) ≡ true → x ≡ y
same x y h = grind (arith, nat_tests)

pub comment_end_begins : (t : List ℕ) → ends_comment t ≡ true → BeginsAscii t
comment_end_begins [] e = absurd (cc)
comment_end_begins (b ∷ t) e =
    test (b == 45) (λ q. (omega arith, omega (arith, same b 45 q)))
    (λ q. absurd (let f : false ≡ true = rw q at e in cc))

pub section_end_begins : (t : List ℕ) → ends_section t ≡ true → BeginsAscii t
section_end_begins [] e = absurd (cc)
section_end_begins (b ∷ t) e =
    test (b == 93) (λ q. (omega arith, omega (arith, same b 93 q)))
    (λ q. absurd (let f : false ≡ true = rw q at e in cc))

pub markup_begins : (t : List ℕ) → begins_markup t ≡ true → BeginsAscii t
markup_begins [] e = absurd (cc)
markup_begins (b ∷ t) e =
    test (b == 60) (λ q. (omega arith, omega (arith, same b 60 q)))
    (λ q. absurd (let f : false ≡ true = rw q at e in cc))

-- a run of other characters is followed by the character or by nothing
pub other_ends : (q : ℕ) (s : List ℕ) → first_is q (behind_run (is_other q) s) ≡ false
    → is_empty (behind_run (is_other q) s) ≡ true
other_ends q [] e = refl
other_ends q (b ∷ s) e =
    test (b == q) (λ f. absurd (let g : true ≡ false = rw (f, f) at e in cc))
    (λ f. let g = rw f at e in rw f (other_ends q s g))

pub other_drops : (q : ℕ) (s : List ℕ) → first_is q (behind_run (is_other q) s) ≡ false
    → behind_run (is_other q) s ≡ drop 1 (behind_run (is_other q) s)
other_drops q s e = nothing (behind_run (is_other q) s) (other_ends q s e)
  where
    nothing : (t : List ℕ) → is_empty t ≡ true → t ≡ drop 1 t
    nothing [] e = refl
    nothing (b ∷ t) e = absurd (cc)

-- what doesn't begin with a character of its own is nothing
pub other_filled : (q : ℕ) (s : List ℕ) → first_is q (behind_run (is_other q) s) ≡ true
    → is_empty (behind_run (is_other q) s) ≡ false
other_filled q s e = filled (behind_run (is_other q) s) e
  where
    filled : (t : List ℕ) → first_is q t ≡ true → is_empty t ≡ false
    filled [] e = absurd (cc)
    filled (b ∷ t) e = refl
