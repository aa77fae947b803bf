-- What the characters of a text in UTF-8 stand for is in UTF-8.
use Rattle.std.proofs.Common.{◌≡◌, ◌∙◌, ℕ, zero, suc, ◌+◌, ◌<◌, ◌≤◌, Bool, true, false, List, [], ◌∷◌, length, drop}
use Rattle.std.proofs.Common.{refl, sym, ap, subst, arith, codes, Option, Some, None, length-drop}
use Rattle.std.specs.Prelude.{◌==◌, ◌&&◌, not, nat_lt, ◌-◌}
use Rattle.std.specs.Char.{encode_utf8, IsScalar, is_ascii_alphanumeric, is_ascii_digit, is_ascii_hexdigit}
use Rattle.std.specs.Char.{is_ascii_uppercase}
use Rattle.std.specs.List.{list_all, slice_index}
use Rattle.std.specs.Str.{IsUtf8, is_utf8, chars, bytes_eq}
use Rattle.std.proofs.Math.Utf8.{scalar}
use Rattle.std.proofs.lemmas.Bool.{and_parts, eqb-true, eqb-false, not-true}
use Rattle.std.proofs.lemmas.Bool.Decides.{nat_tests}
use Rattle.std.proofs.lemmas.List.{drop-drop}
use Rattle.std.proofs.lemmas.Str.{IsUtf8-take, IsUtf8-drop, IsUtf8-nil, IsUtf8-append, IsUtf8-encode}
use Rattle.std.proofs.lemmas.Str.{IsUtf8-from_is_utf8}
use Rattle.htmd_lexical.proofs.Cases.{test}
use Rattle.htmd_lexical.specs.CharacterClasses.{is_empty, first_is, begins_with, begins_in_any_case, leading_run}
use Rattle.htmd_lexical.specs.CharacterClasses.{behind_run}
use Rattle.htmd_lexical.specs.Numbers.{number, is_between}
use Rattle.htmd_lexical.proofs.LeadingRunsLemmas.{halts, front_all, back_halts}
use Rattle.htmd_lexical.proofs.RunsLemmas.{take_run, drop_run, behind_last, behind_within}
use Rattle.htmd_html5_tokens.specs.NamedReferences.{NamedReference, capital_names, small_names, old_names, named_in}
use Rattle.htmd_html5_tokens.specs.NamedReferences.{named, first_in, longest_old}
use Rattle.htmd_html5_tokens.specs.References.{Piece, ampersand_itself, replacement_character, windows_characters}
use Rattle.htmd_html5_tokens.specs.References.{is_no_character, character_numbered, semicolon_len, numbered, goes_on}
use Rattle.htmd_html5_tokens.specs.References.{after_number_sign, old_reference, reference_or, reference_by_name}
use Rattle.htmd_html5_tokens.specs.References.{after_ampersand}
use Rattle.htmd_html5_tokens.specs.Contents.{has_references, is_text, is_value, piece_at, decoded}
use Rattle.htmd_html5_tokens.specs.AppendedCharacters.{is_literal}
use Rattle.htmd_html5_tokens.proofs.ReferencesLemmas.{cut_after_first, old_front}
use Rattle.htmd_html5_tokens.proofs.ContentsLemmas.{decoded_skip, plain_pushed, plain_cut, cut_after_slash}
use Rattle.htmd_html5_tokens.proofs.ContentsLemmas.{cut_after_special}
use Rattle.htmd_law_html5.proofs.Utf8Parts.{after_first_utf8, after_any_case_utf8}

-- ---- the characters of references by number

window_scalar : (cs : List ℕ) (i : ℕ) → list_all scalar cs ≡ true → scalar (slice_index cs i) ≡ true
window_scalar [] i e = refl
window_scalar (c ∷ cs) zero e = (and_parts (scalar c) (list_all scalar cs) e).0
window_scalar (c ∷ cs) (suc i) e = window_scalar cs i ((and_parts (scalar c) (list_all scalar cs) e).1)

other_scalar : (n : ℕ) → is_no_character n ≡ false → IsScalar n
other_scalar n e =
    test (nat_lt n 0xD800) (λ t. grind (arith, nat_tests))
    (λ f. test (nat_lt 0xDFFF n) (λ g. grind (arith, nat_tests)) (λ g. absurd (grind (arith, nat_tests))))

numbered_scalar : (n : ℕ) → IsScalar (character_numbered n)
unfolding character_numbered
numbered_scalar n =
    test (is_no_character n) (λ e. rw e refl)
    (λ e. test (is_between 0x80 0x9F n) (λ f. rw (e, f) (window_scalar windows_characters (n - 0x80) refl))
    (λ f. rw (e, f) (other_scalar n e)))

-- ---- pieces

-- a piece's characters are UTF-8, and so is what follows it
pub record PieceUtf8 (s : List ℕ) (p : Piece) : Type 0 where
  pub characters : IsUtf8 p.characters
  pub rest : IsUtf8 (drop p.following s)

ascii_utf8 : IsUtf8 (38 ∷ [])
unfolding encode_utf8
ascii_utf8 = (38 ∷ [], (refl, refl))

itself_utf8 : (s : List ℕ) → IsUtf8 s → PieceUtf8 s ampersand_itself
itself_utf8 s u = record { characters = ascii_utf8; rest = u }

-- a number takes digits, and one `;` that follows
digits_rest : (p : ℕ → Bool) (from : ℕ) (s : List ℕ) → ((b : ℕ) → p b ≡ true → b < 128)
    → IsUtf8 (drop from s)
    → IsUtf8 (drop (from + length (leading_run p (drop from s)) + semicolon_len (behind_run p (drop from s))) s)
digits_rest p from s low v = subst IsUtf8 same (end_utf8 after after_utf8)
  where
    len : ℕ
    len = length (leading_run p (drop from s))

    after : List ℕ
    after = behind_run p (drop from s)

    after_utf8 : IsUtf8 after
    after_utf8 =
        subst IsUtf8 (drop_run p (drop from s))
        (IsUtf8-drop (drop from s) len v (behind_last p (drop from s) len v low refl))

    end_utf8 : (t : List ℕ) → IsUtf8 t → IsUtf8 (drop (semicolon_len t) t)
    end_utf8 t w = test (first_is 59 t) (λ e. rw e (after_first_utf8 59 t (omega arith) e w)) (λ e. rw e w)

    same : drop (semicolon_len after) after ≡ drop (from + len + semicolon_len after) s
    same =
        ap (drop (semicolon_len after)) (sym (drop_run p (drop from s)) ∙ drop-drop len from s)
        ∙ drop-drop (semicolon_len after) (from + len) s

number_utf8 : (p : ℕ → Bool) (base from : ℕ) (s : List ℕ) → ((b : ℕ) → p b ≡ true → b < 128)
    → IsUtf8 s → IsUtf8 (drop from s) → PieceUtf8 s (numbered p base from (drop from s))
number_utf8 p base from s low u v =
    test (is_empty (leading_run p (drop from s))) (λ e. rw e (itself_utf8 s u))
    (λ e. rw e (record {
      characters = IsUtf8-encode _ (numbered_scalar (number base 0 (leading_run p (drop from s))));
      rest = digits_rest p from s low v;
    }))

hexadecimal_low : (b : ℕ) → is_ascii_hexdigit b ≡ true → b < 128
hexadecimal_low b e = grind (arith, nat_tests)

decimal_low : (b : ℕ) → is_ascii_digit b ≡ true → b < 128
decimal_low b e = grind (arith, nat_tests)

number_sign_utf8 : (s : List ℕ) → IsUtf8 s → IsUtf8 (drop 1 s) → PieceUtf8 s (after_number_sign (drop 1 s))
number_sign_utf8 s u v =
    test (begins_in_any_case (codes "x") (drop 1 s))
    (λ e. rw e (subst (λ (t : List ℕ). PieceUtf8 s (numbered is_ascii_hexdigit 16 2 t)) (sym (drop-drop 1 1 s))
    (number_utf8 is_ascii_hexdigit 16 2 s hexadecimal_low u
    (subst IsUtf8 (drop-drop 1 1 s) (after_any_case_utf8 (codes "x") (drop 1 s) refl (omega arith) e v)))))
    (λ e. rw e (number_utf8 is_ascii_digit 10 1 s decimal_low u v))

-- ---- the characters of references by name

abbrev has_utf8 : NamedReference → Bool
has_utf8 r = is_utf8 r.characters

record Utf8Rows (rows : List NamedReference) : Type 0 where
  all : list_all has_utf8 rows ≡ true

-- a test holds of each number below another
abbrev all_below : ℕ → (ℕ → Bool) → Bool
all_below zero p = true
all_below (suc k) p = p k && all_below k p

below_all : (k : ℕ) (p : ℕ → Bool) (i : ℕ) → all_below k p ≡ true → i < k → p i ≡ true
below_all zero p i e l = absurd (omega arith)
below_all (suc k) p i e l =
    let h = and_parts (p k) (all_below k p) e in
    test (i == k) (λ t. subst (λ (n : ℕ). p n ≡ true) (sym (eqb-true i k t)) h.0)
    (λ t. let other = eqb-false i k t in below_all k p i h.1 (omega arith))

-- the rows of both cases
abbrev rows_are_utf8 : ℕ → Bool
rows_are_utf8 b = list_all has_utf8 (capital_names b) && list_all has_utf8 (small_names b)

-- letters are below 123
rows_utf8 : all_below 123 rows_are_utf8 ≡ true
unfolding capital_names small_names is_utf8 chars encode_utf8
rows_utf8 = refl

letter_below : (b : ℕ) → is_ascii_alphanumeric b ≡ true → b < 123
letter_below b e = grind (arith, nat_tests)

rows_at : (b : ℕ) → is_ascii_alphanumeric b ≡ true → Utf8Rows (capital_names b) × Utf8Rows (small_names b)
rows_at b e =
    let h = and_parts (list_all has_utf8 (capital_names b)) (list_all has_utf8 (small_names b))
    (below_all 123 rows_are_utf8 b rows_utf8 (letter_below b e)) in
    (record { all = h.0 }, record { all = h.1 })

old_utf8 : Utf8Rows old_names
unfolding old_names is_utf8 chars encode_utf8
old_utf8 = record { all = refl }

named_in_utf8 : (rows : List NamedReference) (n characters : List ℕ) → Utf8Rows rows
    → named_in rows n ≡ Some characters → IsUtf8 characters
named_in_utf8 [] n characters h e = absurd (cc)
named_in_utf8 (r ∷ rows) n characters h e =
    let p = and_parts (has_utf8 r) (list_all has_utf8 rows) h.all in
    test (bytes_eq n r.name)
    (λ t. let f : Some r.characters ≡ Some characters = rw t at e in
    let same : r.characters ≡ characters = cc in
    subst IsUtf8 same (IsUtf8-from_is_utf8 r.characters p.0))
    (λ t. let f = rw t at e in named_in_utf8 rows n characters (record { all = p.1 }) f)

named_utf8 : (n characters : List ℕ) → list_all is_ascii_alphanumeric n ≡ true → named n ≡ Some characters
    → IsUtf8 characters
named_utf8 [] characters a e = absurd (cc)
named_utf8 (b ∷ n) characters a e =
    let rows = rows_at b (and_parts (is_ascii_alphanumeric b) (list_all is_ascii_alphanumeric n) a).0 in
    test (is_ascii_uppercase b) (λ t. named_in_utf8 (capital_names b) (b ∷ n) characters rows.0 (rw t at e))
    (λ t. named_in_utf8 (small_names b) (b ∷ n) characters rows.1 (rw t at e))

first_in_utf8 : (rows : List NamedReference) (s : List ℕ) (r : NamedReference) → Utf8Rows rows
    → first_in rows s ≡ Some r → IsUtf8 r.characters
first_in_utf8 [] s r h e = absurd (cc)
first_in_utf8 (q ∷ rows) s r h e =
    let p = and_parts (has_utf8 q) (list_all has_utf8 rows) h.all in
    test (begins_with q.name s)
    (λ t. let f : Some q ≡ Some r = rw t at e in
    let same : q ≡ r = cc in
    subst (λ (x : NamedReference). IsUtf8 x.characters) same (IsUtf8-from_is_utf8 q.characters p.0))
    (λ t. let f = rw t at e in first_in_utf8 rows s r (record { all = p.1 }) f)

-- ---- references by name

old_reference_utf8 : (in_value : Bool) (o : Option NamedReference) (s : List ℕ) → o ≡ longest_old s → IsUtf8 s
    → PieceUtf8 s (old_reference in_value o s)
old_reference_utf8 in_value None s e u = itself_utf8 s u
old_reference_utf8 in_value (Some r) s e u =
    test (in_value && goes_on (drop (length r.name) s)) (λ t. rw t (itself_utf8 s u))
    (λ t. rw t (record {
      characters = first_in_utf8 old_names s r old_utf8 (sym e);
      rest = IsUtf8-drop s (length r.name) u (old_front s r e u).1;
    }))

after_name : (s : List ℕ) → IsUtf8 s → first_is 59 (behind_run is_ascii_alphanumeric s) ≡ true
    → IsUtf8 (drop (suc (length (leading_run is_ascii_alphanumeric s))) s)
after_name s u e =
    let len : ℕ = length (leading_run is_ascii_alphanumeric s) in
    let one : len + 1 ≡ suc len = omega arith in
    subst (λ n. IsUtf8 (drop n s)) one (IsUtf8-drop s (len + 1) u
    (cut_after_first s len 59 u (omega arith) (ap (first_is 59) (drop_run is_ascii_alphanumeric s) ∙ e)))

known_utf8 : (s : List ℕ) (o : Option (List ℕ)) (other : Piece) → IsUtf8 s
    → first_is 59 (behind_run is_ascii_alphanumeric s) ≡ true → o ≡ named (leading_run is_ascii_alphanumeric s)
    → PieceUtf8 s other → PieceUtf8 s (reference_or (suc (length (leading_run is_ascii_alphanumeric s))) o other)
known_utf8 s None other u e f h = h
known_utf8 s (Some characters) other u e f h = record {
  characters = named_utf8 (leading_run is_ascii_alphanumeric s) characters (front_all is_ascii_alphanumeric s) (sym f);
  rest = after_name s u e;
}

name_utf8 : (in_value : Bool) (s : List ℕ) → IsUtf8 s → PieceUtf8 s (reference_by_name in_value s)
name_utf8 in_value s u =
    let old = old_reference_utf8 in_value (longest_old s) s refl u in
    test (first_is 59 (behind_run is_ascii_alphanumeric s))
    (λ e. rw e (known_utf8 s (named (leading_run is_ascii_alphanumeric s)) _ u e refl old)) (λ e. rw e old)

reference_utf8 : (in_value : Bool) (s : List ℕ) → IsUtf8 s → PieceUtf8 s (after_ampersand in_value s)
reference_utf8 in_value s u =
    test (first_is 35 s) (λ e. rw e (number_sign_utf8 s u (after_first_utf8 35 s (omega arith) e u)))
    (λ e. rw e (name_utf8 in_value s u))

-- ---- what begins with a byte that is no plain one

pub replacement_utf8 : IsUtf8 (encode_utf8 replacement_character)
unfolding encode_utf8
replacement_utf8 = (replacement_character ∷ [], (refl, refl))

piece_utf8 : (r : _) (b : ℕ) (s : List ℕ) → IsUtf8 (b ∷ []) → IsUtf8 s → PieceUtf8 s (piece_at r b s)
piece_utf8 r b s one u =
    test (b == 38 && has_references r) (λ e. rw e (reference_utf8 (is_value r) s u))
    (λ e. test (b == 60 && (is_text r && begins_with (codes "/>") s))
    (λ f. rw (e, f) (record {
      characters = IsUtf8-nil;
      rest = IsUtf8-drop s 2 u (cut_after_slash s u
          (and_parts (is_text r) _ (and_parts (b == 60) _ f).1).1);
    }))
    (λ f. test (b == 0 && not (is_text r)) (λ g. rw (e, f, g) (record { characters = replacement_utf8; rest = u }))
    (λ g. rw (e, f, g) (record { characters = one; rest = u }))))

-- ---- a whole text

decoded_rest : (r : _) (k : ℕ) (s : List ℕ) → halts (is_literal r) s ≡ true → length s ≤ suc k → IsUtf8 s
    → ((t : List ℕ) → length t ≤ k → IsUtf8 t → IsUtf8 (decoded r 0 t)) → IsUtf8 (decoded r 0 s)
decoded_rest r k [] h l u go = IsUtf8-nil
decoded_rest r k (b ∷ s) h l u go =
    let off : is_literal r b ≡ false = not-true (is_literal r b) h in
    let cut = cut_after_special r (b ∷ s) u (omega arith) off in
    let piece = piece_utf8 r b s (IsUtf8-take (b ∷ s) 1 u cut) (IsUtf8-drop (b ∷ s) 1 u cut) in
    let n : ℕ = (piece_at r b s).following in
    IsUtf8-append (piece_at r b s).characters (decoded r n s) piece.characters
    (subst IsUtf8 (sym (decoded_skip r n s)) (go (drop n s) (omega (arith, length-drop n s)) piece.rest))

decoded_within : (r : _) (k : ℕ) (s : List ℕ) → length s ≤ k → IsUtf8 s → IsUtf8 (decoded r 0 s)
decoded_within r zero [] l u = IsUtf8-nil
decoded_within r zero (b ∷ s) l u = absurd (omega arith)
decoded_within r (suc k) s l u =
    subst IsUtf8 (plain_pushed r [] s front front rest (length front) refl (sym (take_run (is_literal r) s))
    (sym (drop_run (is_literal r) s)) refl) (IsUtf8-append front (decoded r 0 rest) front_utf8
    (decoded_rest r k rest (back_halts (is_literal r) s) (omega (arith, behind_within (is_literal r) s)) rest_utf8
    (λ t m v. decoded_within r k t m v)))
  where
    front : List ℕ
    front = leading_run (is_literal r) s

    rest : List ℕ
    rest = behind_run (is_literal r) s

    front_utf8 : IsUtf8 front
    front_utf8 = subst IsUtf8 (take_run (is_literal r) s) (IsUtf8-take s (length front) u (plain_cut r s _ refl))

    rest_utf8 : IsUtf8 rest
    rest_utf8 = subst IsUtf8 (drop_run (is_literal r) s) (IsUtf8-drop s (length front) u (plain_cut r s _ refl))

pub decoded_utf8 : (r : _) (s : List ℕ) → IsUtf8 s → IsUtf8 (decoded r 0 s)
decoded_utf8 r s u = decoded_within r (length s) s (omega arith) u
