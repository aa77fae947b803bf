-- A text with backslashes, written piece by piece.
use Rattle.std.proofs.Common.{◌≡◌, ℕ, suc, zero, ◌+◌, ◌<◌, ◌≤◌, Bool, true, false, cond, List, [], ◌∷◌, ◌++◌, length}
use Rattle.std.proofs.Common.{get_or, drop, refl, sym, ap, ◌∙◌, arith, append_assoc, add-one, Option, Some, None}
use Rattle.std.specs.Prelude.{◌==◌, ◌&&◌, not, is_none, slice_index}
use Rattle.std.specs.List.{between, list_any}
use Rattle.std.proofs.lemmas.Bool.{or_parts, or_from, and_parts, and_left, and_right, not-true}
use Rattle.std.proofs.lemmas.Bool.Decides.{nat_tests}
use Rattle.std.specs.Char.{is_ascii}
use Rattle.std.specs.Str.{IsCharBoundary, IsUtf8}
use Rattle.std.proofs.lemmas.List.{append-nil, drop_more, drop_all}
use Rattle.std.proofs.lemmas.List.Edits.{between_more, between_none}
use Rattle.std.proofs.lemmas.Slice.{between_to_end}
use Rattle.std.proofs.lemmas.Str.{IsCharBoundary-start, IsCharBoundary-before_ascii}
use Rattle.htmd_text.specs.EscapedPlaces.{with_backslashes, is_always_escaped, is_place}
use Rattle.htmd_lexical.specs.Characters.{backslash, less_than_sign}
use Rattle.htmd_text.specs.declared.escape.EscapeKind.{EscapeKind}
use Rattle.htmd_text.specs.declared.escape.EscapeKind.TheVariants.{Html, Markdown}
use Rattle.htmd_text.specs.EscapeKinds.{is_escaped_by, is_special, needs_no_escape}

rest_marked : (marked : ℕ → Bool) (s : List ℕ) (i : ℕ) → i < length s → marked i ≡ true
    → with_backslashes marked i (drop i s) ≡ backslash ∷ get_or s i 0
    ∷ with_backslashes marked (i + 1) (drop (i + 1) s)
rest_marked marked s i lt here = rw (drop_more s i 0 lt, here, add-one) refl

rest_plain : (marked : ℕ → Bool) (s : List ℕ) (i : ℕ) → i < length s → marked i ≡ false
    → with_backslashes marked i (drop i s) ≡ get_or s i 0 ∷ with_backslashes marked (i + 1) (drop (i + 1) s)
rest_plain marked s i lt plain = rw (drop_more s i 0 lt, plain, add-one) refl

longer : (m : Bool) (b n : ℕ) (rest : List ℕ) → n ≤ length rest
    → suc n ≤ length (cond m (backslash ∷ b ∷ rest) (b ∷ rest))
longer true b n rest le = omega (arith, le)
longer false b n rest le = omega (arith, le)

stays_or_grows : (marked : ℕ → Bool) (k : ℕ) (s : List ℕ) → length s ≤ length (with_backslashes marked k s)
stays_or_grows marked k [] = omega arith
stays_or_grows marked k (b ∷ s) = longer (marked k) b (length s) (with_backslashes marked (suc k) s)
    (stays_or_grows marked (suc k) s)

-- a text with an escaped place becomes longer
pub grows : (marked : ℕ → Bool) (k : ℕ) (s : List ℕ) (i : ℕ) → i < length s → marked (k + i) ≡ true
    → length s < length (with_backslashes marked k s)
grows marked k [] i lt here = absurd (omega arith)
grows marked k (b ∷ s) zero lt here =
    let first : marked k ≡ true = ap marked (omega arith) ∙ here in
    rw first (omega (arith, stays_or_grows marked (suc k) s))
grows marked k (b ∷ s) (suc i) lt here =
    longer (marked k) b (suc (length s)) (with_backslashes marked (suc k) s)
    (grows marked (suc k) s i (omega arith) (ap marked (omega arith) ∙ here))

-- What was written, the piece that waits, and what the rest becomes, are the whole.
pub record Writing (marked : ℕ → Bool) (s out : List ℕ) (from i : ℕ) : Type 0 where
  pub in_order : from ≤ i
  pub cut : IsCharBoundary s from
  pub whole : out ++ (between from i s ++ with_backslashes marked i (drop i s)) ≡ with_backslashes marked 0 s
  pub not_begun : out ≡ [] → from ≡ 0
  pub not_needed : with_backslashes marked 0 s ≡ s → out ≡ []

pub writing_none : (marked : ℕ → Bool) (s out : List ℕ) → IsUtf8 s → out ≡ [] → Writing marked s out 0 0
writing_none marked s out text none = record {
  in_order = omega arith;
  cut = IsCharBoundary-start s text;
  whole = rw none refl;
  not_begun = λ _. refl;
  not_needed = λ _. none;
}

pub writing_plain : (marked : ℕ → Bool) (s out : List ℕ) (from i : ℕ) → i < length s → marked i ≡ false
    → Writing marked s out from i → Writing marked s out from (i + 1)
writing_plain marked s out from i lt plain was = record {
  in_order = omega (arith, was.in_order);
  cut = was.cut;
  whole =
      let rest = with_backslashes marked (i + 1) (drop (i + 1) s) in
      let piece = between_more s from i 0 was.in_order lt in
      let grown : between from (i + 1) s ++ rest ≡ between from i s ++ get_or s i 0 ∷ rest =
      ap (λ l. l ++ rest) piece ∙ append_assoc (between from i s) (get_or s i 0 ∷ []) rest in
      ap (λ l. out ++ l) (grown ∙ ap (λ l. between from i s ++ l) (sym (rest_plain marked s i lt plain)))
      ∙ was.whole;
  not_begun = was.not_begun;
  not_needed = was.not_needed;
}

not_nil : (out : List ℕ) (b : ℕ) → out ++ b ∷ [] ≡ [] → ⊥
not_nil [] b e = cc
not_nil (x ∷ out) b e = cc

pub below_ascii_end : (b : ℕ) → is_ascii b ≡ true → b < 128
below_ascii_end b e = grind (arith, nat_tests)

pub writing_marked : (marked : ℕ → Bool) (s out : List ℕ) (from i : ℕ) → i < length s → marked i ≡ true
    → is_ascii (get_or s i 0) ≡ true → Writing marked s out from i
    → Writing marked s ((out ++ between from i s) ++ backslash ∷ []) i (i + 1)
writing_marked marked s out from i lt here ascii was = record {
  in_order = omega arith;
  cut = IsCharBoundary-before_ascii s i lt (below_ascii_end (get_or s i 0) ascii);
  whole =
      let rest = with_backslashes marked (i + 1) (drop (i + 1) s) in
      let piece : between i (i + 1) s ≡ get_or s i 0 ∷ [] =
      between_more s i i 0 (omega arith) lt ∙ ap (λ l. l ++ get_or s i 0 ∷ []) (between_none s i) in
      rw (piece, append_assoc, append_assoc)
      (ap (λ l. out ++ (between from i s ++ l)) (sym (rest_marked marked s i lt here)) ∙ was.whole);
  not_begun = λ e. absurd (not_nil (out ++ between from i s) backslash e);
  not_needed =
      λ same. absurd (omega (arith, grows marked 0 s i lt (ap marked (omega arith) ∙ here), ap length same));
}

pub writing_all : (marked : ℕ → Bool) (s out : List ℕ) (from i : ℕ) → length s ≤ i
    → Writing marked s out from i
    → out ++ between from (length s) s ≡ with_backslashes marked 0 s
writing_all marked s out from i past was =
    let piece : between from (length s) s ≡ between from i s = between_to_end s from (length s) (omega arith)
    ∙ sym (between_to_end s from i past) in
    let ended : with_backslashes marked i (drop i s) ≡ [] =
    ap (λ l. with_backslashes marked i l) (drop_all i s past) in
    rw piece (ap (λ l. out ++ l) (sym (append-nil (between from i s)) ∙ ap (λ l. between from i s ++ l) (sym ended))
    ∙ was.whole)

-- nothing was written, and the text is at its end
pub writing_nothing : (marked : ℕ → Bool) (s out : List ℕ) (from i : ℕ) → length s ≤ i → length out ≡ 0
    → Writing marked s out from i → s ≡ with_backslashes marked 0 s
writing_nothing marked s [] from i past none was =
    sym (between_to_end s 0 (length s) (omega arith))
    ∙ ap (λ k. between k (length s) s) (sym (was.not_begun refl)) ∙ writing_all marked s [] from i past was
writing_nothing marked s (b ∷ out) from i past none was = absurd (omega arith)

-- ---- a text without special characters has no escaped place

pub special_at : (s : List ℕ) (k : ℕ) → list_any is_special s ≡ false → is_special (slice_index s k) ≡ false
special_at [] k none = refl
special_at (b ∷ s) zero none = (or_parts (is_special b) (list_any is_special s) none).0
special_at (b ∷ s) (suc k) none = special_at s k (or_parts (is_special b) (list_any is_special s) none).1

pub no_place : (o : Option ℕ) (k : ℕ) → is_none o ≡ true → is_place o k ≡ false
no_place None k e = refl
no_place (Some place) k e = cc

plain_unmarked : (kind : EscapeKind) (s : List ℕ) (k : ℕ) → needs_no_escape kind s ≡ true
    → is_escaped_by kind s k ≡ false
plain_unmarked Html s k plain =
    let other = or_parts (is_always_escaped (slice_index s k)) (slice_index s k == less_than_sign)
    (special_at s k (not-true _ plain)) in
    and_left _ _ (and_left _ _ other.1)
plain_unmarked (Markdown begins_block item_dot) s k plain =
    let parts = and_parts (not begins_block && is_none item_dot) (not (list_any is_special s)) plain in
    let front = and_parts (not begins_block) (is_none item_dot) parts.0 in
    let other = or_parts (is_always_escaped (slice_index s k)) (slice_index s k == less_than_sign)
    (special_at s k (not-true _ parts.1)) in
    or_from _ _ (or_from _ _ (or_from _ _ other.0 (and_left _ _ other.1))
    (and_right (k == 0) begins_block (not-true _ front.0))) (no_place item_dot k front.1)

pub unmarked_stays : (marked : ℕ → Bool) (k : ℕ) (s : List ℕ) → ((i : ℕ) → marked i ≡ false)
    → with_backslashes marked k s ≡ s
unmarked_stays marked k [] none = refl
unmarked_stays marked k (b ∷ s) none = rw (none k) (ap (λ l. b ∷ l) (unmarked_stays marked (suc k) s none))

pub plain_stays : (kind : EscapeKind) (s : List ℕ) → needs_no_escape kind s ≡ true
    → with_backslashes (is_escaped_by kind s) 0 s
    ≡ s
plain_stays kind s plain = unmarked_stays (is_escaped_by kind s) 0 s (λ k. plain_unmarked kind s k plain)
