-- A text without white space at its end, cut one character at a time.
use Rattle.std.proofs.Common.{◌≡◌, ℕ, ◌+◌, ◌-◌, ◌<◌, Bool, true, false, cond, List, [], ◌∷◌, ◌++◌}
use Rattle.std.proofs.Common.{length, take}
use Rattle.std.proofs.Common.{refl, sym, ap, subst, ◌∙◌, arith, encode_utf8_all}
use Rattle.std.specs.Prelude.{encode_utf8}
use Rattle.std.specs.Char.{IsScalar, len_utf8}
use Rattle.std.specs.List.{prefix_len, suffix_len}
use Rattle.std.specs.Str.{chars, IsUtf8, IsCharBoundary}
use Rattle.std.proofs.Math.Seq.{take-append_seam}
use Rattle.std.proofs.lemmas.List.{append-nil, length-append, take-append-le, take_all, reverse-append}
use Rattle.std.proofs.lemmas.List.Sums.{suffix_len-le-length}
use Rattle.std.proofs.lemmas.Str.{chars-append, chars_past_char, chars-nil, IsUtf8-encode, length-encode, encodes-chars}
use Rattle.std.proofs.lemmas.Str.{IsCharBoundary-at_seam, IsUtf8-take}
use Rattle.htmd_text.specs.Trims.{trimmed_end}

-- ---- the last character

one-character : (c : ℕ) → IsScalar c → chars (encode_utf8 c) ≡ c ∷ []
one-character c scalar =
    chars_past_char (encode_utf8 c) [] c (IsUtf8-encode c scalar) (sym (append-nil (encode_utf8 c)))
    ∙ ap (λ l. c ∷ l) chars-nil

pub record LastCut (s : List ℕ) (c n : ℕ) : Type 0 where
  pub characters : chars s ≡ chars (take n s) ++ c ∷ []
  pub utf8 : IsUtf8 (take n s)
  pub boundary : IsCharBoundary s n
  pub shorter : n < length s

pub last-cut : (s rest : List ℕ) (c n : ℕ) → IsUtf8 s → IsScalar c → s ≡ rest ++ encode_utf8 c
    → n ≡ length s - len_utf8 c → 0 < len_utf8 c → LastCut s c n
last-cut s rest c n text scalar whole size some =
    let total : length s ≡ length rest + length (encode_utf8 c) = ap length whole
    ∙ length-append rest (encode_utf8 c)
    in
    let same : n ≡ length rest = omega (arith, size, total, length-encode c) in
    let front : take n s ≡ rest =
    ap (take n) whole ∙ (ap (λ m. take m (rest ++ encode_utf8 c)) same ∙ take-append_seam rest (encode_utf8 c)) in
    let cut : IsCharBoundary s n =
    subst (λ (m : ℕ). IsCharBoundary s m) (sym same)
    (IsCharBoundary-at_seam s rest (encode_utf8 c) whole (IsUtf8-encode c scalar)) in
    let text-before : IsUtf8 (take n s) = IsUtf8-take s n text cut in
    record {
      characters = ap chars (whole ∙ ap (λ r. r ++ encode_utf8 c) (sym front))
          ∙ (chars-append (take n s) (encode_utf8 c) text-before
          ∙ ap (λ l. chars (take n s) ++ l) (one-character c scalar));
      utf8 = text-before;
      boundary = cut;
      shorter = omega (arith, same, total, length-encode c);
    }

-- ---- what passes at the end of a list

suffix-snoc : (p : ℕ → Bool) (xs : List ℕ) (x : ℕ)
    → suffix_len p (xs ++ x ∷ []) ≡ cond (p x) (1 + suffix_len p xs) 0
suffix-snoc p xs x = ap (prefix_len p) (reverse-append xs (x ∷ []))

length-snoc : (xs : List ℕ) (x : ℕ) → length (xs ++ x ∷ []) ≡ length xs + 1
length-snoc xs x = length-append xs (x ∷ [])

-- one that passes is cut, and one that doesn't stays with all before it
pub trimmed-passing : (p : ℕ → Bool) (xs : List ℕ) (x : ℕ) → p x ≡ true
    → trimmed_end p (xs ++ x ∷ []) ≡ trimmed_end p xs
trimmed-passing p xs x h =
    let suffix : suffix_len p (xs ++ x ∷ []) ≡ 1 + suffix_len p xs =
    suffix-snoc p xs x ∙ ap (λ b. cond b (1 + suffix_len p xs) 0) h in
    let within = suffix_len-le-length p xs in
    let size : length (xs ++ x ∷ []) - suffix_len p (xs ++ x ∷ []) ≡ length xs - suffix_len p xs =
    omega (arith, suffix, length-snoc xs x) in
    ap (λ n. take n (xs ++ x ∷ [])) size
    ∙ take-append-le (length xs - suffix_len p xs) xs (x ∷ []) (omega arith)

pub trimmed-failing : (p : ℕ → Bool) (xs : List ℕ) (x : ℕ) → p x ≡ false
    → trimmed_end p (xs ++ x ∷ []) ≡ xs ++ x ∷ []
trimmed-failing p xs x h =
    let suffix : suffix_len p (xs ++ x ∷ []) ≡ 0 =
    suffix-snoc p xs x ∙ ap (λ b. cond b (1 + suffix_len p xs) 0) h in
    take_all (length (xs ++ x ∷ []) - suffix_len p (xs ++ x ∷ [])) (xs ++ x ∷ []) (omega (arith, suffix))

pub trimmed-empty : (p : ℕ → Bool) → trimmed_end p [] ≡ []
trimmed-empty p = refl

-- ---- the loop of `without_white_end`

pub trim-white : (p : ℕ → Bool) (s front : List ℕ) (c n : ℕ) → LastCut s c n → p c ≡ true
    → front ≡ take n s
    → trimmed_end p (chars front) ≡ trimmed_end p (chars s)
trim-white p s front c n cut h e =
    ap (λ l. trimmed_end p (chars l)) e
    ∙ (sym (trimmed-passing p (chars (take n s)) c h) ∙ ap (trimmed_end p) (sym cut.characters))

pub trim-plain : (p : ℕ → Bool) (s : List ℕ) (c n : ℕ) → IsUtf8 s → LastCut s c n → p c ≡ false
    → s ≡ encode_utf8_all (trimmed_end p (chars s))
trim-plain p s c n text cut h =
    sym (encodes-chars s text) ∙ ap encode_utf8_all (cut.characters
    ∙ (sym (trimmed-failing p (chars (take n s)) c h) ∙ ap (trimmed_end p) (sym cut.characters)))

pub trim-none : (p : ℕ → Bool) (s given : List ℕ) → given ≡ s → length given ≡ 0
    → s ≡ encode_utf8_all (trimmed_end p (chars s))
trim-none p s [] e h =
    sym e ∙ ap (λ cs. encode_utf8_all (trimmed_end p cs)) (sym chars-nil) ∙ ap
    (λ l. encode_utf8_all (trimmed_end p (chars l))) e
trim-none p s (b ∷ given) e h = absurd (omega arith)
