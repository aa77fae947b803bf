-- Parts of a text in UTF-8 are in UTF-8.
use Rattle.std.proofs.Common.{◌≡◌, ℕ, ◌<◌, Bool, true, false, List, [], ◌∷◌, ◌++◌, length, drop, refl, subst, arith}
use Rattle.std.proofs.Common.{◌&&◌}
use Rattle.std.specs.Prelude.{nat_lt, ◌==◌}
use Rattle.std.specs.Char.{encode_utf8}
use Rattle.std.specs.List.{list_all}
use Rattle.std.specs.Str.{IsUtf8}
use Rattle.std.proofs.lemmas.Bool.{and_parts, eqb-true}
use Rattle.std.proofs.lemmas.Bool.Decides.{nat_tests}
use Rattle.std.proofs.lemmas.Str.{IsUtf8-take, IsUtf8-drop, IsUtf8-past_char}
use Rattle.htmd_lexical.proofs.Cases.{test}
use Rattle.htmd_lexical.specs.CharacterClasses.{first_is, begins_with, begins_in_any_case, leading_run, behind_run}
use Rattle.htmd_lexical.specs.CharacterClasses.{up_to, onward}
use Rattle.htmd_lexical.specs.ByteOrderMarks.{byte_order_mark, behind_mark}
use Rattle.htmd_lexical.specs.TagReading.{is_other}
use Rattle.htmd_lexical.proofs.BooleanLemmas.{and_false}
use Rattle.htmd_lexical.proofs.RunsLemmas.{take_run, drop_run, behind_last}
use Rattle.htmd_lexical.proofs.CharacterClassesLemmas.{take_up_to, drop_up_to}
use Rattle.htmd_lexical.proofs.AnyCaseLemmas.{begins_within, lead_behind}
use Rattle.htmd_html5_tokens.proofs.RunCuts.{cut_before_ascii}
use Rattle.htmd_html5_tokens.proofs.ReferencesLemmas.{cut_after_first}
use Rattle.htmd_html5_tokens.proofs.BeginningsLemmas.{cut_after_beginning, BeginsAscii, cut_up_to, other_drops}

-- ---- runs

-- a run that ASCII characters alone end
pub open_run_utf8 : (p : ℕ → Bool) (s : List ℕ) → ((b : ℕ) → p b ≡ false → b < 128) → IsUtf8 s
    → IsUtf8 (leading_run p s) × IsUtf8 (behind_run p s)
open_run_utf8 p s h u =
    let cut = cut_before_ascii p s h in
    (subst IsUtf8 (take_run p s) (IsUtf8-take s _ u cut), subst IsUtf8 (drop_run p s) (IsUtf8-drop s _ u cut))

-- after a run of ASCII characters
pub after_ascii_utf8 : (p : ℕ → Bool) (s : List ℕ) → ((b : ℕ) → p b ≡ true → b < 128) → IsUtf8 s
    → IsUtf8 (behind_run p s)
after_ascii_utf8 p s h u = subst IsUtf8 (drop_run p s) (IsUtf8-drop s _ u (behind_last p s _ u h refl))

outside_other : (q b : ℕ) → nat_lt q 128 ≡ true → is_other q b ≡ false → b < 128
outside_other q b l e = grind (arith, nat_tests)

-- what stands before a character, and from there on
pub other_run_utf8 : (q : ℕ) (s : List ℕ) → nat_lt q 128 ≡ true → IsUtf8 s
    → IsUtf8 (leading_run (is_other q) s) × IsUtf8 (behind_run (is_other q) s)
other_run_utf8 q s a u = open_run_utf8 (is_other q) s (λ b. outside_other q b a) u

-- ---- after what a text begins with

pub after_first_utf8 : (b : ℕ) (s : List ℕ) → b < 128 → first_is b s ≡ true → IsUtf8 s → IsUtf8 (drop 1 s)
after_first_utf8 b s l e u = IsUtf8-drop s 1 u (cut_after_first s 0 b u l e)

pub after_beginning_utf8 : (p s : List ℕ) → list_all (λ b. nat_lt b 128) p ≡ true → begins_with p s ≡ true
    → IsUtf8 s → IsUtf8 (drop (length p) s)
after_beginning_utf8 p s a e u = IsUtf8-drop s (length p) u (cut_after_beginning p s u e a)

pub after_any_case_utf8 : (p s : List ℕ) → list_all (λ b. nat_lt b 128) p ≡ true → 0 < length p
    → begins_in_any_case p s ≡ true → IsUtf8 s → IsUtf8 (drop (length p) s)
after_any_case_utf8 p s a l e u = IsUtf8-drop s (length p) u (begins_within p s e, lead_behind p s u e a l)

-- after a run of other characters, and the character that ends it
pub after_other_utf8 : (q : ℕ) (s : List ℕ) → nat_lt q 128 ≡ true → IsUtf8 s
    → IsUtf8 (drop 1 (behind_run (is_other q) s))
after_other_utf8 q s a u =
    let rest = (other_run_utf8 q s a u).1 in
    test (first_is q (behind_run (is_other q) s))
    (λ e. after_first_utf8 q (behind_run (is_other q) s) (low q a) e rest)
    (λ e. subst IsUtf8 (other_drops q s e) rest)
  where
    low : (b : ℕ) → nat_lt b 128 ≡ true → b < 128
    low b e = grind (arith, nat_tests)

-- ---- up to what ends a part

pub up_to_utf8 : (stop : List ℕ → Bool) (s : List ℕ) → ((t : List ℕ) → stop t ≡ true → BeginsAscii t)
    → IsUtf8 s → IsUtf8 (up_to stop s) × IsUtf8 (onward stop s)
up_to_utf8 stop s h u =
    let cut = cut_up_to stop s (length (up_to stop s)) refl h in
    (subst IsUtf8 (take_up_to stop s) (IsUtf8-take s _ u cut), subst IsUtf8 (drop_up_to stop s) (IsUtf8-drop s _ u cut))

-- ---- a byte order mark

mark_utf8 : (s : List ℕ) → IsUtf8 s → begins_with byte_order_mark s ≡ true → IsUtf8 (drop 3 s)
unfolding encode_utf8
mark_utf8 [] u e = absurd (cc)
mark_utf8 (b ∷ []) u e = let q = rw (and_false (b == 0xEF)) at e in absurd (cc)
mark_utf8 (b ∷ c ∷ []) u e = let q = simp and_false at e in absurd (cc)
mark_utf8 (b ∷ c ∷ d ∷ s) u e =
    let p = and_parts (b == 0xEF) ((c == 0xBB) && ((d == 0xBF) && true)) e in
    let q = and_parts (c == 0xBB) ((d == 0xBF) && true) p.1 in
    let r = and_parts (d == 0xBF) true q.1 in
    let whole : b ∷ c ∷ d ∷ s ≡ encode_utf8 0xFEFF ++ s =
    rw (eqb-true b 0xEF p.0, eqb-true c 0xBB q.0, eqb-true d 0xBF r.0) refl in
    IsUtf8-past_char (b ∷ c ∷ d ∷ s) s 0xFEFF u whole

pub unmarked_utf8 : (s : List ℕ) → IsUtf8 s → IsUtf8 (behind_mark s)
unmarked_utf8 s u = test (begins_with byte_order_mark s) (λ t. rw t (mark_utf8 s u t)) (λ t. rw t u)
