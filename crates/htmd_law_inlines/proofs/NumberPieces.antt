-- A reference to a definition by its number closes the bracket before its text.
use Rattle.std.proofs.Common.{◌≡◌, ◌∙◌, refl, ap, sym, Bool, ℕ, zero, suc, ◌+◌, ◌<◌, ◌≤◌, ◌-◌, true, false, List, []}
use Rattle.std.proofs.Common.{◌∷◌, ◌++◌, Option, Some, length, arith}
use Rattle.std.specs.Prelude.{reverse, nat_lt, nat_le, not, ◌==◌, ◌/◌, ◌%◌, if◌then◌else◌}
use Rattle.std.specs.Str.{IsUtf8, bytes_eq, chars}
use Rattle.std.proofs.lemmas.Str.{IsUtf8-append, encode_ascii, chars-encodes}
use Rattle.htmd_law_inlines.proofs.WalkPieces.{ascii_utf8}
use Rattle.std.specs.Fmt.{decimal, digits, digits_onto, digit_glyph}
use Rattle.std.specs.List.{list_all, flat_map}
use Rattle.std.specs.Char.{is_ascii_digit, to_ascii_lowercase}
use Rattle.std.proofs.lemmas.Bool.{and_parts, and_from, le-ltb, eqb-true, eq-eqb, le-leb, leb-true, lt-ltb}
use Rattle.std.proofs.lemmas.Bool.{agree_below_at}
use Rattle.std.proofs.lemmas.List.{append_assoc, length-append, reverse-append, reverse-reverse}
use Rattle.htmd_lexical.specs.CharacterClasses.{is_empty, behind_run}
use Rattle.htmd_commonmark.specs.InlineMarkdown.{reference_number}
use Rattle.htmd_commonmark_reading.specs.LinkDefinitions.{until_sign, label, label_key, label_text, past_white}
use Rattle.htmd_commonmark_reading.specs.LinkDefinitions.{single_spaced, folded}
use Rattle.htmd_commonmark_reading.specs.Characters.{is_white}
use Rattle.htmd_commonmark_reading.specs.Markup.{no_inlines, link}
use Rattle.htmd_commonmark_reading.specs.DelimiterRuns.{Token, finished, processed}
use Rattle.htmd_commonmark_reading.specs.Brackets.{References, target_of, reference_target, before_end, Brackets}
use Rattle.htmd_commonmark_reading.specs.Brackets.{bracket, and_tokens, without_links, linked, scanned, token_step}
use Rattle.htmd_law_inlines.proofs.Pieces.{steps_to, pushed}
use Rattle.htmd_law_inlines.proofs.TextPieces.{test, differs, skips}
use lib.Utf8.{encodes, scalar, scalars}

-- ---- texts that are the same

pub bytes_same : (s t : List ℕ) → bytes_eq s t ≡ true → s ≡ t
bytes_same [] [] h = refl
bytes_same [] (d ∷ t) h = absurd (cc)
bytes_same (c ∷ s) [] h = absurd (cc)
bytes_same (c ∷ s) (d ∷ t) h =
    let p = and_parts (c == d) (bytes_eq s t) h in
    ap (λ x. x ∷ s) (eqb-true c d p.0) ∙ ap (λ l. d ∷ l) (bytes_same s t p.1)

pub same_bytes : (s : List ℕ) → bytes_eq s s ≡ true
same_bytes [] = refl
same_bytes (c ∷ s) = and_from (c == c) (bytes_eq s s) (eq-eqb c c refl) (same_bytes s)

-- ---- numbers

glyph : (n : ℕ) → is_ascii_digit (digit_glyph false (n % 10)) ≡ true
glyph n =
    let m = n % 10 in
    let e : digit_glyph false m ≡ 48 + m = rw (lt-ltb m 10 (omega arith)) refl in
    ap is_ascii_digit e
    ∙ and_from (nat_le 48 (48 + m)) (nat_le (48 + m) 57) (le-leb 48 (48 + m) (omega arith))
    (le-leb (48 + m) 57 (omega arith))

digits_are : (k n : ℕ) (acc : List ℕ) → list_all is_ascii_digit acc ≡ true
    → list_all is_ascii_digit (digits_onto k 10 false n acc) ≡ true
digits_are zero n acc h = h
digits_are (suc k) n acc h =
    let next : list_all is_ascii_digit (digit_glyph false (n % 10) ∷ acc) ≡ true =
    and_from (is_ascii_digit (digit_glyph false (n % 10))) (list_all is_ascii_digit acc) (glyph n) h in
    test (n / 10 == 0) (λ e. rw e next) (λ e. rw e (digits_are k (n / 10) (digit_glyph false (n % 10) ∷ acc) next))

pub decimal_digits : (n : ℕ) → list_all is_ascii_digit (decimal n) ≡ true
unfolding digits
decimal_digits n = digits_are 64 n [] refl

digit_utf8 : (d : ℕ) → is_ascii_digit d ≡ true → IsUtf8 (d ∷ [])
digit_utf8 d h =
    let p = and_parts (nat_le 48 d) (nat_le d 57) h in
    let l : d < 128 = let x = leb-true d 57 p.1 in omega arith in
    ascii_utf8 d l (agree_below_at scalar (λ x. true) 128 d refl l)

digits_utf8 : (s : List ℕ) → list_all is_ascii_digit s ≡ true → IsUtf8 s
digits_utf8 [] h = ([], (refl, refl))
digits_utf8 (d ∷ s) h =
    let p = and_parts (is_ascii_digit d) (list_all is_ascii_digit s) h in
    IsUtf8-append (d ∷ []) s (digit_utf8 d p.0) (digits_utf8 s p.1)

pub decimal_utf8 : (n : ℕ) → IsUtf8 (decimal n)
decimal_utf8 n = digits_utf8 (decimal n) (decimal_digits n)

-- digits up to a closing bracket
pub digits_until : (n r : List ℕ) → list_all is_ascii_digit n ≡ true
    → until_sign 93 91 false (n ++ (93 ∷ r)) ≡ Some (record { front = n; rest = r })
digits_until [] r h = refl
digits_until (d ∷ n) r h =
    let p = and_parts (is_ascii_digit d) (list_all is_ascii_digit n) h in
    rw (
      differs is_ascii_digit d 93 p.0 refl,
      differs is_ascii_digit d 91 p.0 refl,
      differs is_ascii_digit d 92 p.0 refl,
      digits_until n r p.1,
    ) refl

-- a reference behind a text, whose number is defined
pub closes_by_number : (refs : References) (n : ℕ) (a : List ℕ) (t : Option (List ℕ)) (ks before text : List ℕ)
    (ts : List Token) (below : Brackets) → list_all is_ascii_digit (decimal n) ≡ true
    → is_empty (label_key (decimal n)) ≡ false
    → target_of refs (label_key (decimal n)) ks ≡ Some (record { address = a; title = t; rest = ks })
    → scanned refs (reference_number n ++ ks) 0 before (bracket false true text ts below)
    ≡ scanned refs ks 0 (pushed (reference_number n) before)
    (and_tokens (without_links below) (finished (link a t (processed ts) no_inlines) ∷ []))
closes_by_number refs n a t ks before text ts below h k d =
    let tail = 91 ∷ (decimal n ++ (93 ∷ [])) in
    let new = and_tokens (without_links below) (finished (link a t (processed ts) no_inlines) ∷ []) in
    let content = before_end text (93 ∷ (tail ++ ks)) in
    let more : length (tail ++ ks) - length ks ≡ length tail = let l = length-append tail ks in omega arith in
    let found : label (tail ++ ks) ≡ Some (record { front = decimal n; rest = ks }) =
    ap (until_sign 93 91 false) (append_assoc (decimal n) (93 ∷ []) ks) ∙ digits_until (decimal n) ks h in
    steps_to refs 93 (tail ++ ks) before (bracket false true text ts below)
    (token_step (without_links below) (link a t (processed ts) no_inlines) (length (tail ++ ks) - length ks))
    (ap (λ o. linked false ts below (tail ++ ks) (reference_target refs content (tail ++ ks) o)) found
    ∙ ap (λ e. linked false ts below (tail ++ ks) (if not e then target_of refs (label_key (decimal n)) ks
    else target_of refs (label_key content) (if is_empty (decimal n) then ks else tail ++ ks))) k
    ∙ ap (linked false ts below (tail ++ ks)) d)
    ∙ ap (λ n. scanned refs (tail ++ ks) n (93 ∷ before) new) more
    ∙ skips refs tail ks (93 ∷ before) new

-- ---- the label of a number

no_white : (d : ℕ) → is_ascii_digit d ≡ true → is_white d ≡ false
no_white d h =
    rw (differs is_ascii_digit d 32 h refl, differs is_ascii_digit d 9 h refl, differs is_ascii_digit d 10 h refl) refl

digits_bare : (s : List ℕ) → list_all is_ascii_digit s ≡ true → past_white s ≡ s
digits_bare [] h = refl
digits_bare (d ∷ s) h = rw (no_white d (and_parts (is_ascii_digit d) (list_all is_ascii_digit s) h).0) refl

all_append : (p : ℕ → Bool) (s t : List ℕ) → list_all p s ≡ true → list_all p t ≡ true
    → list_all p (s ++ t) ≡ true
all_append p [] t h k = k
all_append p (c ∷ s) t h k =
    let q = and_parts (p c) (list_all p s) h in and_from (p c) (list_all p (s ++ t)) q.0 (all_append p s t q.1 k)

pub all_reverse : (p : ℕ → Bool) (s : List ℕ) → list_all p s ≡ true → list_all p (reverse s) ≡ true
all_reverse p [] h = refl
all_reverse p (c ∷ s) h =
    let q = and_parts (p c) (list_all p s) h in
    ap (list_all p) (reverse-append (c ∷ []) s)
    ∙ all_append p (reverse s) (c ∷ []) (all_reverse p s q.1) (rw q.0 refl)

digits_spaced : (s : List ℕ) → list_all is_ascii_digit s ≡ true → single_spaced s ≡ s
digits_spaced [] h = refl
digits_spaced (d ∷ s) h =
    let q = and_parts (is_ascii_digit d) (list_all is_ascii_digit s) h in
    rw (no_white d q.0) (ap (λ l. d ∷ l) (digits_spaced s q.1))

digits_label : (s : List ℕ) → list_all is_ascii_digit s ≡ true → label_text s ≡ s
digits_label s h =
    ap (λ l. single_spaced (reverse (behind_run is_white (reverse l)))) (digits_bare s h)
    ∙ ap (λ l. single_spaced (reverse l)) (digits_bare (reverse s) (all_reverse is_ascii_digit s h))
    ∙ ap single_spaced (reverse-reverse s) ∙ digits_spaced s h

digit_small : (d : ℕ) → is_ascii_digit d ≡ true → d < 128
digit_small d h = let x = leb-true d 57 (and_parts (nat_le 48 d) (nat_le d 57) h).1 in omega arith

digits_encoded : (s : List ℕ) → list_all is_ascii_digit s ≡ true → (encodes s ≡ s) × (scalars s ≡ true)
digits_encoded [] h = (refl, refl)
digits_encoded (d ∷ s) h =
    let q = and_parts (is_ascii_digit d) (list_all is_ascii_digit s) h in
    let l = digit_small d q.0 in
    let next = digits_encoded s q.1 in (
      ap (λ x. x ++ encodes s) (encode_ascii d l) ∙ ap (λ x. d ∷ x) next.0,
      and_from (scalar d) (scalars s) (agree_below_at scalar (λ x. true) 128 d refl l) next.1,
    )

digits_chars : (s : List ℕ) → list_all is_ascii_digit s ≡ true → chars s ≡ s
digits_chars s h = let e = digits_encoded s h in ap chars (sym e.0) ∙ chars-encodes s e.1

folded_digit : (d : ℕ) → is_ascii_digit d ≡ true → folded d ≡ d ∷ []
folded_digit d h =
    let l = digit_small d h in
    rw (lt-ltb d 128 l) (ap (λ c. c ∷ []) (digit_lower d h))
  where
    digit_lower : (d : ℕ) → is_ascii_digit d ≡ true → to_ascii_lowercase d ≡ d
    digit_lower d h =
        let y = leb-true d 57 (and_parts (nat_le 48 d) (nat_le d 57) h).1 in
        rw (lt-ltb d 65 (omega arith)) refl

digits_folded : (s : List ℕ) → list_all is_ascii_digit s ≡ true → flat_map folded s ≡ s
digits_folded [] h = refl
digits_folded (d ∷ s) h =
    let q = and_parts (is_ascii_digit d) (list_all is_ascii_digit s) h in
    ap (λ l. l ++ flat_map folded s) (folded_digit d q.0) ∙ ap (λ l. d ∷ l) (digits_folded s q.1)

digits_length : (k n : ℕ) (acc : List ℕ) → length (digits_onto k 10 false n acc) ≤ k + length acc
digits_length zero n acc = omega arith
digits_length (suc k) n acc =
    let next = digits_length k (n / 10) (digit_glyph false (n % 10) ∷ acc) in
    test (n / 10 == 0) (λ e. rw e (omega arith)) (λ e. rw e (omega arith))

digits_full : (k n d : ℕ) (acc : List ℕ) → is_empty (digits_onto k 10 false n (d ∷ acc)) ≡ false
digits_full zero n d acc = refl
digits_full (suc k) n d acc =
    test (n / 10 == 0) (λ e. rw e refl) (λ e. rw e (digits_full k (n / 10) (digit_glyph false (n % 10)) (d ∷ acc)))

decimal_full : (n : ℕ) → is_empty (decimal n) ≡ false
unfolding digits
decimal_full n =
    test (n / 10 == 0) (λ e. rw e refl) (λ e. rw e (digits_full 63 (n / 10) (digit_glyph false (n % 10)) []))

decimal_short : (n : ℕ) → length (decimal n) ≤ 64
unfolding digits
decimal_short n = let x = digits_length 64 n [] in omega arith

-- a number is its label
pub label_is : (n : ℕ) → label_key (decimal n) ≡ decimal n
label_is n =
    let h = decimal_digits n in
    let s = decimal n in
    let c = digits_chars s h in
    let l : nat_lt 999 (length (chars s)) ≡ false =
    let x = decimal_short n in ap (λ l. nat_lt 999 (length l)) c ∙ le-ltb 999 (length s) (omega arith) in
    ap (λ b. if b then [] else flat_map folded (chars (label_text s))) l
    ∙ ap (λ l. flat_map folded (chars l)) (digits_label s h) ∙ ap (flat_map folded) c ∙ digits_folded s h

pub label_of_number : (n : ℕ) → is_empty (label_key (decimal n)) ≡ false
label_of_number n = ap is_empty (label_is n) ∙ decimal_full n
