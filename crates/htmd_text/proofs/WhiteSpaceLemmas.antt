-- A text whose white space is squeezed piece by piece.
use Rattle.std.proofs.Common.{◌≡◌, ℕ, suc, ◌+◌, ◌<◌, ◌≤◌, Bool, true, false, cond, List, [], ◌∷◌, ◌++◌, length, get_or}
use Rattle.std.proofs.Common.{take, drop, refl, sym, ap, ◌∙◌, arith, append_assoc, ⊎_elim, eq-eqb}
use Rattle.std.specs.Prelude.{◌==◌, ◌&&◌, ◌||◌, not, slice_index}
use Rattle.std.specs.List.{between}
use Rattle.std.specs.Str.{IsCharBoundary, IsUtf8}
use Rattle.std.proofs.lemmas.Bool.{and_parts, cases_Bool, false_from_ne_true, false≢true}
use Rattle.std.proofs.lemmas.Bool.Decides.{nat_tests}
use Rattle.std.proofs.lemmas.List.{drop_more, drop_all, drop-drop, get_or-drop, append-nil}
use Rattle.std.proofs.lemmas.List.Edits.{between_more, between_none}
use Rattle.std.proofs.lemmas.Slice.{between_to_end}
use Rattle.std.proofs.lemmas.Str.{IsCharBoundary-start, IsCharBoundary-after_ascii}
use Rattle.htmd_lexical.specs.Characters.{space}
use Rattle.htmd_lexical.specs.WhiteSpace.{is_ascii_white_space, begins_with_white_space}
use Rattle.htmd_text.specs.SqueezedTexts.{squeezed_text}
use Rattle.htmd_lexical.proofs.CharacterClassesLemmas.{white_is_ascii}
use Rattle.htmd_text.specs.Replacement.{IsReplaced, is_squeezed}

shorter : (w v : Bool) (b : ℕ) (s rest : List ℕ) → length rest ≤ length s
    → length (cond w (cond v rest (space ∷ rest)) (b ∷ rest)) ≤ suc (length s)
shorter true true b s rest le = omega (arith, le)
shorter true false b s rest le = omega (arith, le)
shorter false v b s rest le = omega (arith, le)

-- no text becomes longer
pub squeezed_le : (s : List ℕ) → length (squeezed_text s) ≤ length s
squeezed_le [] = omega arith
squeezed_le (b ∷ s) =
    shorter (is_ascii_white_space b) (begins_with_white_space s) b s (squeezed_text s) (squeezed_le s)

same_rest : (w v : Bool) (b : ℕ) (s rest : List ℕ) → length rest ≤ length s
    → cond w (cond v rest (space ∷ rest)) (b ∷ rest) ≡ b ∷ s → rest ≡ s
same_rest true true b s rest le same = absurd (omega (arith, le, ap length same))
same_rest true false b s rest le same = cc
same_rest false v b s rest le same = cc

-- a text that is squeezed already stays so without its first byte
pub squeezed_tail : (b : ℕ) (s : List ℕ) → squeezed_text (b ∷ s) ≡ b ∷ s → squeezed_text s ≡ s
squeezed_tail b s same = same_rest (is_ascii_white_space b) (begins_with_white_space s) b s (squeezed_text s)
    (squeezed_le s) same

-- white space before more of it goes
pub inner_replaced : (b : ℕ) (s : List ℕ) → is_ascii_white_space b ≡ true → begins_with_white_space s ≡ true
    → IsReplaced (b ∷ s) []
inner_replaced b s white more =
    let whole : squeezed_text (b ∷ s) ≡ squeezed_text s = rw (white, more) refl in
    record { white = white; whole = whole }

pub space_stays : (s : List ℕ) → begins_with_white_space s ≡ false
    → squeezed_text (space ∷ s) ≡ space ∷ squeezed_text s
space_stays s last = rw last refl

pub other_stays : (b : ℕ) (s : List ℕ) → is_ascii_white_space b ≡ false
    → squeezed_text (b ∷ s) ≡ b ∷ squeezed_text s
other_stays b s other = rw other refl

-- What was there, what was written, the piece that waits, and what the rest becomes, are the whole.
pub record Squeezing (start s out : List ℕ) (from i : ℕ) : Type 0 where
  pub in_order : from ≤ i
  pub cut : IsCharBoundary s from
  pub whole : out ++ (between from i s ++ squeezed_text (drop i s)) ≡ start ++ squeezed_text s

pub squeezing_none : (start s : List ℕ) → IsUtf8 s → Squeezing start s start 0 0
squeezing_none start s text = record {
  in_order = omega arith;
  cut = IsCharBoundary-start s text;
  whole = refl;
}

rest_of : (s : List ℕ) (i : ℕ) → drop 1 (drop i s) ≡ drop (i + 1) s
rest_of s i = drop-drop 1 i s

pub squeezing_stays : (start s out : List ℕ) (from i : ℕ) → i < length s
    → squeezed_text (drop i s) ≡ take 1 (drop i s)
    ++ squeezed_text (drop 1 (drop i s)) → Squeezing start s out from i
    → Squeezing start s out from (i + 1)
squeezing_stays start s out from i lt stays was = record {
  in_order = omega (arith, was.in_order);
  cut = was.cut;
  whole =
      let rest = squeezed_text (drop (i + 1) s) in
      let first : squeezed_text (drop i s) ≡ get_or s i 0 ∷ rest =
      stays ∙ ap (λ l. take 1 l ++ squeezed_text (drop 1 l)) (drop_more s i 0 lt) in
      let piece = between_more s from i 0 was.in_order lt in
      let grown : between from (i + 1) s ++ rest ≡ between from i s ++ get_or s i 0 ∷ rest =
      ap (λ l. l ++ rest) piece ∙ append_assoc (between from i s) (get_or s i 0 ∷ []) rest in
      ap (λ l. out ++ l) (grown ∙ ap (λ l. between from i s ++ l) (sym first)) ∙ was.whole;
}

pub squeezing_all : (start s out : List ℕ) (from i : ℕ) → length s ≤ i → Squeezing start s out from i
    → out ++ drop from s ≡ start ++ squeezed_text s
squeezing_all start s out from i past was =
    let piece : drop from s ≡ between from i s = sym (between_to_end s from i past) in
    let none : squeezed_text (drop i s) ≡ [] = ap squeezed_text (drop_all i s past) in
    ap (λ l. out ++ l) (piece ∙ sym (append-nil (between from i s)) ∙ ap (λ l. between from i s ++ l) (sym none))
    ∙ was.whole

pub squeezing_replaced : (start s out instead : List ℕ) (from i : ℕ) → IsUtf8 s → i < length s
    → IsReplaced (drop i s) instead
    → Squeezing start s out from i → Squeezing start s ((out ++ between from i s) ++ instead) (i + 1) (i + 1)
squeezing_replaced start s out instead from i text lt here was = record {
  in_order = omega arith;
  cut =
      let place : slice_index (drop i s) 0 ≡ get_or s i 0 = get_or-drop i s 0 0
      ∙ ap (λ n. get_or s n 0) (omega arith) in
      let ascii = white_is_ascii (slice_index (drop i s) 0) here.white in
      IsCharBoundary-after_ascii s i text lt (omega arith);
  whole =
      let rest : squeezed_text (drop i s) ≡ instead ++ squeezed_text (drop (i + 1) s) = here.whole
      ∙ ap (λ l. instead ++ squeezed_text l) (rest_of s i) in
      rw (between_none s (i + 1), append_assoc, append_assoc) (ap (λ l. out ++ (between from i s ++ l)) (sym rest)
      ∙ was.whole);
}

-- ---- a text whose white space is only spaces

no_white_behind : (s : List ℕ) → is_squeezed true s ≡ true → begins_with_white_space s ≡ false
no_white_behind [] e = refl
no_white_behind (b ∷ s) e =
    false_from_ne_true _ (λ white. let front = (and_parts _ (is_squeezed (is_ascii_white_space b) s) e).0 in
    absurd (false≢true (rw white at front)))

space_here : (white after_white : Bool) (b : ℕ) → white ≡ true
    → (not white || (not after_white && (b == space))) ≡ true
    → b ≡ space
space_here false after_white b e front = absurd (false≢true e)
space_here true after_white b e front = let test = (and_parts (not after_white) (b == space) front).1 in
    grind (arith, nat_tests)

pub squeezed_stays : (s : List ℕ) (after_white : Bool) → is_squeezed after_white s ≡ true
    → squeezed_text s ≡ s
squeezed_stays [] after_white e = refl
squeezed_stays (b ∷ s) after_white e =
    let alone = not after_white && (b == space) in
    let parts = and_parts (not (is_ascii_white_space b) || alone) (is_squeezed (is_ascii_white_space b) s) e in
    let rest = squeezed_stays s (is_ascii_white_space b) parts.1 in
    ⊎_elim
    (λ white.
    let front : (not (is_ascii_white_space b) || alone) ≡ true = parts.0 in
    let same : b ≡ space = space_here (is_ascii_white_space b) after_white b white front in
    let behind = no_white_behind s (ap (λ w. is_squeezed w s) (sym white) ∙ parts.1) in
    rw same (space_stays s behind ∙ ap (λ l. space ∷ l) rest))
    (λ other. other_stays b s other ∙ ap (λ l. b ∷ l) rest)
    (cases_Bool (is_ascii_white_space b))

-- a text without white space in front may come after some
behind_white : (s : List ℕ) → begins_with_white_space s ≡ false → is_squeezed true s ≡ is_squeezed false s
behind_white [] last = refl
behind_white (b ∷ s) last =
    ap (λ w. (not w || (false && (b == space))) && is_squeezed (is_ascii_white_space b) s) last
    ∙ sym (ap (λ w. (not w || (true && (b == space))) && is_squeezed (is_ascii_white_space b) s) last)

-- a text that squeezing leaves as it is: each white space stands alone
stays_squeezed : (w v : Bool) (b : ℕ) (s rest : List ℕ) → is_ascii_white_space b ≡ w
    → begins_with_white_space s ≡ v
    → length rest ≤ length s → cond w (cond v rest (space ∷ rest)) (b ∷ rest) ≡ b ∷ s
    → is_squeezed false s ≡ true
    → is_squeezed false (b ∷ s) ≡ true
stays_squeezed true true b s rest white more le same alone = absurd (omega (arith, le, ap length same))
stays_squeezed true false b s rest white last le same alone =
    let first : space ≡ b = cc in
    ap (λ w. (not w || (true && (b == space))) && is_squeezed w s) white
    ∙ ap (λ t. t && is_squeezed true s) (eq-eqb b space (sym first))
    ∙ behind_white s last ∙ alone
stays_squeezed false v b s rest other w le same alone =
    ap (λ w. (not w || (true && (b == space))) && is_squeezed w s) other ∙ alone

-- a text that stays is one that the test finds squeezed
pub same_is_squeezed : (s : List ℕ) → squeezed_text s ≡ s → is_squeezed false s ≡ true
same_is_squeezed [] same = refl
same_is_squeezed (b ∷ s) same =
    stays_squeezed (is_ascii_white_space b) (begins_with_white_space s) b s (squeezed_text s) refl refl
    (squeezed_le s) same (same_is_squeezed s (squeezed_tail b s same))
