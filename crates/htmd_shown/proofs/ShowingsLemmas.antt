-- Letters and signs among texts and nodes.
use Rattle.std.proofs.Common.{◌≡◌, ℕ, ◌+◌, ◌<◌, ◌≤◌, Bool, true, false, not, ◌||◌, ◌&&◌, nat_lt, List, [], ◌∷◌, ◌++◌}
use Rattle.std.proofs.Common.{length, drop, get_or, filter, suc, refl, ap, sym, ◌∙◌, arith}
use Rattle.std.proofs.lemmas.Bool.Decides.{nat_tests}
use Rattle.std.proofs.lemmas.List.Folds.{list_any-append}
use Rattle.std.proofs.lemmas.Map.Views.{any-filter_same}
use Rattle.std.proofs.lemmas.List.{drop_all}
use Rattle.std.specs.List.{list_any}
use Rattle.std.specs.Str.{chars, IsUtf8}
use Rattle.htmd_shown.specs.declared.simple.Simple.{Simple}
use Rattle.htmd_shown.specs.Attributes.{is_filled}
use Rattle.htmd_shown.specs.Belows.{is_nothing, sign_of}
use Rattle.htmd_shown.specs.Marks.{is_seen, is_usual_sign, letters, letters_of, letters_among}
use Rattle.htmd_shown.specs.Showings.{code_shows, show_usual_sign}
use Rattle.htmd_shown.specs.ShownTexts.{shown_text}
use Rattle.htmd_shown.specs.SimpleViews.{simple_of, simples_of}
use Rattle.htmd_shown.specs.Spaces.{is_blank_text}
use Rattle.htmd_shown.proofs.BlanksLemmas.{blank_letters, letters_shown}
use Rattle.htmd_shown.proofs.NodesLemmas.{nodes_at}

-- ---- letters

pub filled-more : (n : ℕ) → nat_lt 0 (suc n) ≡ true
filled-more n = grind (arith, nat_tests)

filled-sign : (cs : List ℕ) → not (is_nothing (sign_of cs)) ≡ is_filled cs
filled-sign [] = refl
filled-sign (c ∷ []) = refl
filled-sign (c ∷ d ∷ cs) = sym (filled-more (suc (length cs)))

-- a text has letters if it isn't blank
pub whole-letters : (s : List ℕ) → IsUtf8 s → not (is_blank_text (shown_text s)) ≡ is_filled (letters s)
whole-letters s u = ap not (blank_letters s u) ∙ filled-sign (letters s)

pub shown-letters : (s : List ℕ) → IsUtf8 s
    → not (is_blank_text (shown_text s)) ≡ is_filled (letters (shown_text s))
shown-letters s u = whole-letters s u ∙ ap is_filled (sym (letters_shown s u))

pub filled-append : (xs ys : List ℕ) → is_filled (xs ++ ys) ≡ (is_filled xs || is_filled ys)
filled-append [] ys = refl
filled-append (x ∷ xs) ys =
    filled-more (length (xs ++ ys)) ∙ sym (ap (λ b. b || is_filled ys) (filled-more (length xs)))

-- something of these from one on
pub letters-at : (xs : List Simple) (i : ℕ) (x : Simple) → i < length xs → x ≡ get_or xs i x
    → code_shows (simples_of (drop i xs))
    ≡ (is_filled (letters_of (simple_of x)) || code_shows (simples_of (drop (i + 1) xs)))
letters-at xs i x h is =
    ap code_shows (nodes_at xs i x h is)
    ∙ filled-append (letters_of (simple_of x)) (letters_among (simples_of (drop (i + 1) xs)))

pub letters-end : (xs : List Simple) (i : ℕ) → length xs ≤ i → code_shows (simples_of (drop i xs)) ≡ false
letters-end xs i h = ap (λ ys. code_shows (simples_of ys)) (drop_all i xs h)

-- ---- usual signs

sign-seen : (c : ℕ) → is_usual_sign c ≡ true → is_seen c ≡ true
sign-seen c h = grind (arith, nat_tests)

pub whole-signs : (s : List ℕ) → list_any is_usual_sign (chars s) ≡ list_any is_usual_sign (letters s)
whole-signs s = sym (any-filter_same is_usual_sign is_seen true sign-seen (chars s))

pub shown-signs : (s : List ℕ) → IsUtf8 s
    → list_any is_usual_sign (chars s) ≡ list_any is_usual_sign (letters (shown_text s))
shown-signs s u = whole-signs s ∙ ap (list_any is_usual_sign) (sym (letters_shown s u))

-- between dollar signs
pub framed-signs : (cs : List ℕ)
    → list_any is_usual_sign ((0x24 ∷ cs) ++ 0x24 ∷ []) ≡ list_any is_usual_sign cs
framed-signs cs =
    list_any-append is_usual_sign cs (0x24 ∷ []) ∙ or-false (list_any is_usual_sign cs)
  where
    or-false : (b : Bool) → (b || false) ≡ b
    or-false true = refl
    or-false false = refl

pub signs-at : (xs : List Simple) (i : ℕ) (x : Simple) → i < length xs → x ≡ get_or xs i x
    → show_usual_sign (simples_of (drop i xs))
    ≡ (list_any is_usual_sign (letters_of (simple_of x)) || show_usual_sign (simples_of (drop (i + 1) xs)))
signs-at xs i x h is =
    ap show_usual_sign (nodes_at xs i x h is)
    ∙ list_any-append is_usual_sign (letters_of (simple_of x)) (letters_among (simples_of (drop (i + 1) xs)))

pub signs-end : (xs : List Simple) (i : ℕ) → length xs ≤ i → show_usual_sign (simples_of (drop i xs)) ≡ false
signs-end xs i h = ap (λ ys. show_usual_sign (simples_of ys)) (drop_all i xs h)
