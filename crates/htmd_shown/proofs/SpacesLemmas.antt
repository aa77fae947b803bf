-- The last space of a text, and where characters are cut off its front.
use Rattle.std.proofs.Common.{◌≡◌, ℕ, suc, ◌+◌, ◌-◌, ◌==◌, ◌<◌, ◌≤◌, true, false, List, [], ◌∷◌, ◌++◌, length, get_or}
use Rattle.std.proofs.Common.{take, drop}
use Rattle.std.proofs.Common.{Bool, ◌&&◌, zero, refl, sym, ap, subst, ◌∙◌, arith, encode_utf8_all}
use Rattle.std.specs.Char.{len_utf8}
use Rattle.std.specs.Str.{chars, IsUtf8, IsCharBoundary}
use Rattle.std.proofs.lemmas.List.{take-append-drop, length-append}
use Rattle.std.proofs.Math.Seq.{drop-append_seam}
use Rattle.std.proofs.lemmas.Str.{encodes-append, length-encode, encodes-chars, scalars-chars, chars-encodes}
use Rattle.std.proofs.lemmas.Str.{IsCharBoundary-at_seam}
use Rattle.std.proofs.lemmas.Str.{len_utf8_bounds, IsUtf8-past_char, chars_past_char}
use Rattle.std.specs.Prelude.{encode_utf8}
use Rattle.htmd_lexical.specs.Characters.{space}
use Rattle.htmd_shown.specs.Spaces.{ends_with_space}
use lib.Utf8.{scalar, scalars}

pub last-space : (s : List ℕ) → 1 ≤ length s → (get_or s (length s - 1) 0 == space) ≡ ends_with_space s
last-space [] h = absurd (omega arith)
last-space (b ∷ []) h = refl
last-space (b ∷ c ∷ s) h =
    let less : (length (b ∷ c ∷ s)) - 1 ≡ suc (length (c ∷ s) - 1) = omega arith in
    ap (λ n. get_or (b ∷ c ∷ s) n 0 == space) less ∙ last-space (c ∷ s) (omega arith)

-- ---- characters, and what follows them

and-right : (a b : Bool) → (a && b) ≡ true → b ≡ true
and-right true b h = h
and-right false b h = cc

scalars-drop : (k : ℕ) (cs : List ℕ) → scalars cs ≡ true → scalars (drop k cs) ≡ true
scalars-drop zero cs h = h
scalars-drop (suc k) [] h = h
scalars-drop (suc k) (c ∷ cs) h = scalars-drop k cs (and-right (scalar c) (scalars cs) h)

pub record FrontCut (s : List ℕ) (n k : ℕ) : Type 0 where
  pub characters : chars s ≡ take k (chars s) ++ chars (drop n s)
  pub utf8 : IsUtf8 (drop n s)
  pub boundary : IsCharBoundary s n

-- the text may be cut after so many characters
pub front-cut : (s : List ℕ) (n k : ℕ) → IsUtf8 s → n ≡ length (encode_utf8_all (take k (chars s)))
    → FrontCut s n k
front-cut s n k text size =
    let cs : List ℕ = chars s in
    let front : List ℕ = encode_utf8_all (take k cs) in
    let after : List ℕ = encode_utf8_all (drop k cs) in
    let rest : scalars (drop k cs) ≡ true = scalars-drop k cs (scalars-chars s text) in
    let whole : s ≡ front ++ after =
    sym (encodes-chars s text) ∙ (ap encode_utf8_all (sym (take-append-drop k cs)) ∙ encodes-append (take k cs)
    (drop k cs)) in
    let back : drop n s ≡ after =
    ap (drop n) whole ∙ (ap (λ m. drop m (front ++ after)) size ∙ drop-append_seam front after) in
    record {
      characters = sym (take-append-drop k cs)
          ∙ ap (λ xs. take k cs ++ xs) (sym (ap chars back ∙ chars-encodes (drop k cs) rest));
      utf8 = subst IsUtf8 (sym back) (drop k cs, (rest, refl));
      boundary = rw size (IsCharBoundary-at_seam s front after whole (drop k cs, (rest, refl)));
    }

-- a character that is there takes some bytes
pub front-some : (c : ℕ) (more : List ℕ) → 0 < length (encode_utf8_all (c ∷ more))
front-some c more =
    let parts : length (encode_utf8_all (c ∷ more)) ≡ length (encode_utf8 c) + length (encode_utf8_all more) =
    length-append (encode_utf8 c) (encode_utf8_all more) in
    omega (arith, parts, length-encode c, (len_utf8_bounds c).0)

-- ---- a character, and what follows it

pub record CharacterCut (s : List ℕ) (c n : ℕ) : Type 0 where
  pub characters : chars s ≡ c ∷ chars (drop n s)
  pub utf8 : IsUtf8 (drop n s)
  pub boundary : IsCharBoundary s n

pub character-cut : (s rest : List ℕ) (c n : ℕ) → IsUtf8 s → s ≡ encode_utf8 c ++ rest → n ≡ len_utf8 c
    → CharacterCut s c n
character-cut s rest c n text whole size =
    let same : n ≡ length (encode_utf8 c) = size ∙ sym (length-encode c) in
    let after : IsUtf8 rest = IsUtf8-past_char s rest c text whole in
    let back : drop n s ≡ rest =
    ap (drop n) whole ∙ (ap (λ m. drop m (encode_utf8 c ++ rest)) same ∙ drop-append_seam (encode_utf8 c) rest) in
    record {
      characters = chars_past_char s rest c text whole ∙ ap (λ r. c ∷ chars r) (sym back);
      utf8 = subst IsUtf8 (sym back) after;
      boundary = rw same (IsCharBoundary-at_seam s (encode_utf8 c) rest whole after);
    }
