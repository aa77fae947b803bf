-- How the escapes and references of a text are resolved piece by piece.
use Rattle.std.proofs.Common.{◌≡◌, ℕ, zero, suc, ◌+◌, ◌-◌, ◌<◌, ◌≤◌, min, Bool, true, false, not, ◌&&◌, List, [], ◌∷◌}
use Rattle.std.proofs.Common.{◌++◌, length, take, drop, get_or, refl, ap, sym, ◌∙◌, arith, append_assoc, subst}
use Rattle.std.proofs.Common.{◌⊎◌, inl, inr, Option, Some, None, codes}
use Rattle.std.proofs.lemmas.Bool.{and_parts, cases_lt}
use Rattle.std.proofs.lemmas.Bool.Decides.{nat_tests}
use Rattle.std.proofs.lemmas.List.{drop-drop, length-drop, length-take-le}
use Rattle.std.proofs.lemmas.Slice.{between_to_end}
use Rattle.std.proofs.lemmas.Str.{IsCharBoundary-after_ascii}
use Rattle.std.specs.Char.{encode_utf8, is_ascii_punctuation, is_ascii_alphanumeric, is_ascii_digit, is_ascii_hexdigit}
use Rattle.std.specs.Prelude.{◌==◌, nat_le, nat_lt}
use Rattle.std.specs.Str.{IsUtf8, IsCharBoundary}
use Rattle.htmd_lexical.proofs.Cases.{test}
use Rattle.htmd_lexical.specs.Characters.{is_one_of}
use Rattle.htmd_lexical.specs.CharacterClasses.{is_empty, first_is, leading_run, behind_run}
use Rattle.htmd_lexical.proofs.CharacterClassesLemmas.{take_leading_run, drop_leading_run}
use Rattle.htmd_scanning.proofs.RunCuts.{cut_before_ascii}
use Rattle.htmd_lexical.specs.Numbers.{number}
use Rattle.htmd_html5_tokens.specs.NamedReferences.{named}
use Rattle.htmd_html5_tokens.proofs.ReferencesLemmas.{cut_after_first}
use Rattle.htmd_commonmark_reading.specs.Characters.{Piece, itself, referenced, reference, resolved, numbered}
use Rattle.htmd_commonmark_reading.specs.Characters.{number_reference, name_meaning, name_reference}
use Rattle.htmd_commonmark_reading.specs.Characters.{begins_with_punctuation, character_numbered}
use Rattle.htmd_commonmark_reader.specs.Pieces.{piece_in, is_literal, HasPushed}

-- after this many bytes of a piece
pub resolved_skip : (piece : ℕ → List ℕ → Piece) (n : ℕ) (s : List ℕ)
    → resolved piece n s ≡ resolved piece 0 (drop n s)
resolved_skip piece zero [] = refl
resolved_skip piece (suc n) [] = refl
resolved_skip piece zero (b ∷ s) = refl
resolved_skip piece (suc n) (b ∷ s) = resolved_skip piece n s

no : (x : Bool) → not x ≡ true → x ≡ false
no true e = cc
no false e = refl

-- ---- literal characters

literal_piece : (escapes : Bool) (b : ℕ) (s : List ℕ) → is_literal escapes b ≡ true
    → piece_in escapes b s ≡ itself b
literal_piece true b s e =
    let h = and_parts (not (b == 38)) (not (b == 92)) e in rw (no (b == 92) h.1, no (b == 38) h.0) refl
literal_piece false b s e =
    let h = and_parts (not (b == 38)) true e in rw (no (b == 38) h.0) refl

resolved_literals : (escapes : Bool) (s : List ℕ)
    → resolved (piece_in escapes) 0 s
    ≡ leading_run (is_literal escapes) s ++ resolved (piece_in escapes) 0 (behind_run (is_literal escapes) s)
resolved_literals escapes [] = refl
resolved_literals escapes (b ∷ s) =
    test (is_literal escapes b)
    (λ e. let p = literal_piece escapes b s e in rw (p, e, resolved_literals escapes s) refl)
    (λ e. rw e refl)

pub literals_pushed : (escapes : Bool) (before s after front rest : List ℕ) (len : ℕ)
    → len ≡ length (leading_run (is_literal escapes) s) → front ≡ take len s → rest ≡ drop len s
    → after ≡ before ++ front
    → HasPushed escapes before s after rest
literals_pushed escapes before s after front rest len e f g h =
    let x : front ≡ leading_run (is_literal escapes) s =
    f ∙ ap (λ n. take n s) e ∙ take_leading_run (is_literal escapes) s in
    let y : rest ≡ behind_run (is_literal escapes) s =
    g ∙ ap (λ n. drop n s) e ∙ drop_leading_run (is_literal escapes) s in
    rw (h, x, y, append_assoc, sym (resolved_literals escapes s)) refl

special_is_ascii : (escapes : Bool) (b : ℕ) → is_literal escapes b ≡ false → b < 128
special_is_ascii true b e = grind (arith, nat_tests)
special_is_ascii false b e = grind (arith, nat_tests)

pub literals_cut : (escapes : Bool) (s : List ℕ) (len : ℕ) → len ≡ length (leading_run (is_literal escapes) s)
    → IsCharBoundary s len
literals_cut escapes s len e =
    subst (IsCharBoundary s) (sym e) (cut_before_ascii (is_literal escapes) s (special_is_ascii escapes))

-- ---- other pieces

reference_piece : (escapes : Bool) (s : List ℕ) → piece_in escapes 38 s ≡ referenced 38 s
reference_piece true s = refl
reference_piece false s = refl

pub reference_pushed : (escapes : Bool) (before s after rest characters : List ℕ) (n : ℕ)
    → ◌≡◌ {A = Option Piece} (Some (record { meaning = characters; following = n })) (reference s)
    → after ≡ before ++ characters → rest ≡ drop n s
    → HasPushed escapes before (38 ∷ s) after rest
reference_pushed escapes before s after rest characters n e f g =
    let p : referenced 38 s ≡ record { meaning = characters; following = n } = rw (sym e) refl in
    rw (reference_piece escapes s, p, f, g, append_assoc, sym (resolved_skip (piece_in escapes) n s)) refl

pub ampersand_pushed : (escapes : Bool) (before s after : List ℕ)
    → ◌≡◌ {A = Option Piece} None (reference s) → after ≡ before ++ 38 ∷ []
    → HasPushed escapes before (38 ∷ s) after s
ampersand_pushed escapes before s after e f =
    let p : referenced 38 s ≡ itself 38 = rw (sym e) refl in
    rw (reference_piece escapes s, p, f, append_assoc) refl

punctuation_is_ascii : (b : ℕ) → is_ascii_punctuation b ≡ true → b < 128
punctuation_is_ascii b e = grind (arith, nat_tests)

pub punctuation_cut : (s : List ℕ) → IsUtf8 s → begins_with_punctuation s ≡ true → IsCharBoundary s 1
punctuation_cut [] u e = absurd (cc)
punctuation_cut (b ∷ s) u e = IsCharBoundary-after_ascii (b ∷ s) 0 u (omega arith) (punctuation_is_ascii b e)

-- after a character that isn't literal the text may be cut
pub special_cut : (escapes : Bool) (s : List ℕ) → IsUtf8 s → 0 < length s
    → is_literal escapes (get_or s 0 0) ≡ false
    → IsCharBoundary s 1
special_cut escapes s u l e = IsCharBoundary-after_ascii s 0 u l (special_is_ascii escapes (get_or s 0 0) e)

-- ---- references by name

module _ (s : List ℕ) (n : ℕ) (run : n ≡ length (leading_run is_ascii_alphanumeric s)) where
  name_here : leading_run is_ascii_alphanumeric s ≡ take n s
  name_here = sym (ap (λ k. take k s) run ∙ take_leading_run is_ascii_alphanumeric s)

  semicolon_here : (b : Bool) → b ≡ first_is 59 (take (length s - n) (drop n s))
      → first_is 59 (behind_run is_ascii_alphanumeric s) ≡ b
  semicolon_here b e =
      let tail : take (length s - n) (drop n s) ≡ behind_run is_ascii_alphanumeric s =
      between_to_end s n (length s) (omega arith) ∙ ap (λ k. drop k s) run
      ∙ drop_leading_run is_ascii_alphanumeric s in
      ap (first_is 59) (sym tail) ∙ sym e

  pub no_semicolon : (b : Bool) → b ≡ first_is 59 (take (length s - n) (drop n s)) → b ≡ false
      → ◌≡◌ {A = Option Piece} None (name_reference s)
  no_semicolon b e f = rw (semicolon_here b e ∙ f) refl

  pub name_missing : (b : Bool) → b ≡ first_is 59 (take (length s - n) (drop n s)) → b ≡ true
      → None ≡ named (take n s) → ◌≡◌ {A = Option Piece} None (name_reference s)
  name_missing b e f none_ =
      let missing : named (leading_run is_ascii_alphanumeric s) ≡ None = ap named name_here ∙ sym none_ in
      rw (semicolon_here b e ∙ f, missing) refl

  pub name_known : (b : Bool) (characters : List ℕ) → b ≡ first_is 59 (take (length s - n) (drop n s))
      → b ≡ true → Some characters ≡ named (take n s)
      → ◌≡◌ {A = Option Piece} (Some (record { meaning = characters; following = n + 1 })) (name_reference s)
  name_known b characters e f some_ =
      let known : named (leading_run is_ascii_alphanumeric s) ≡ Some characters = ap named name_here ∙ sym some_ in
      let k : suc (length (leading_run is_ascii_alphanumeric s)) ≡ n + 1 = omega (arith, run) in
      rw (semicolon_here b e ∙ f, known, k) refl

-- ---- references by number

abbrev limit : ℕ
limit = 0x11_0000

beyond : (n : ℕ) → limit ≤ n → 0xFFFD ≡ character_numbered n
beyond n l =
    let above : nat_lt 0x10_FFFF n ≡ true = grind (arith, nat_tests) in
    let zero : (n == 0) ≡ false = grind (arith, nat_tests) in
    rw (zero, above) refl

-- numbers from the limit on are all alike
limited : (n : ℕ) → character_numbered (min n limit) ≡ character_numbered n
limited n = go (cases_lt n limit)
  where
    go : (n < limit) ⊎ (limit ≤ n) → character_numbered (min n limit) ≡ character_numbered n
    go (inl l) = let same : min n limit ≡ n = omega arith in ap character_numbered same
    go (inr l) =
        let same : min n limit ≡ limit = omega arith in
        ap character_numbered same ∙ sym (beyond limit (omega arith)) ∙ beyond n l

filled : (s : List ℕ) → 0 < length s → is_empty s ≡ false
filled [] l = absurd (omega arith)
filled (b ∷ s) l = refl

pub numbered_known : (base before len most n v : ℕ) (s : List ℕ) (b : Bool) → (len ≡ 0 → ⊥) → len ≤ most
    → before + len ≤ length s
    → b ≡ first_is 59 (take (length s - (before + len)) (drop (before + len) s)) → b ≡ true
    → n ≡ min (number base 0 (take (before + len - before) (drop before s))) limit
    → v ≡ character_numbered n
    → ◌≡◌ {A = Option Piece} (Some (record { meaning = encode_utf8 v; following = before + len + 1 }))
    (numbered base before most (take len (drop before s)) (drop len (drop before s)))
numbered_known base before len most n v s b z m w e f d c =
    let digits : List ℕ = take len (drop before s) in
    let size : length digits ≡ len = length-take-le len (drop before s) (omega (arith, length-drop before s)) in
    let closed : first_is 59 (drop len (drop before s)) ≡ true =
    ap (first_is 59) (drop-drop len before s ∙ sym (between_to_end s (before + len) (length s) (omega arith)))
    ∙ sym e ∙ f in
    let some : is_empty digits ≡ false = filled digits (omega (arith, size)) in
    let few : nat_le (length digits) most ≡ true = grind (arith, nat_tests) in
    let k : before + len - before ≡ len = omega arith in
    let value : character_numbered (number base 0 digits) ≡ v =
    sym (limited (number base 0 digits))
    ∙ ap (λ j. character_numbered (min (number base 0 (take j (drop before s))) limit)) (sym k)
    ∙ ap character_numbered (sym d) ∙ sym c in
    let place : before + length digits + 1 ≡ before + len + 1 = omega (arith, size) in
    rw (closed, some, few, value, place) refl

run_parts : (p : ℕ → Bool) (t : List ℕ) (n : ℕ) → n ≡ length (leading_run p t)
    → (take n t ≡ leading_run p t) × (drop n t ≡ behind_run p t)
run_parts p t n e =
    (ap (λ k. take k t) e ∙ take_leading_run p t, ap (λ k. drop k t) e ∙ drop_leading_run p t)

pub number_short : (s : List ℕ) → length s < 2 → ◌≡◌ {A = Option Piece} None (number_reference (drop 1 s))
number_short [] l = refl
number_short (b ∷ []) l = refl
number_short (b ∷ c ∷ s) l = absurd (omega arith)

pub number_hex : (s : List ℕ) (n : ℕ) (r : Option Piece) → 2 ≤ length s
    → is_one_of (codes "xX") (get_or s 1 0) ≡ true
    → n ≡ length (leading_run is_ascii_hexdigit (take (length s - 2) (drop 2 s)))
    → r ≡ numbered 16 2 6 (take n (drop 2 s)) (drop n (drop 2 s))
    → r ≡ number_reference (drop 1 s)
number_hex [] n r l x e d = absurd (omega arith)
number_hex (b ∷ []) n r l x e d = absurd (omega arith)
number_hex (b ∷ c ∷ s) n r l x e d =
    let all : take (length (b ∷ c ∷ s) - 2) s ≡ s =
    between_to_end (b ∷ c ∷ s) 2 (length (b ∷ c ∷ s)) (omega arith) in
    let h = run_parts is_ascii_hexdigit s n (e ∙ ap (λ t. length (leading_run is_ascii_hexdigit t)) all) in
    rw (d, x, h.0, h.1) refl

pub number_decimal : (s : List ℕ) (n : ℕ) (r : Option Piece) → 2 ≤ length s
    → is_one_of (codes "xX") (get_or s 1 0) ≡ false
    → n ≡ length (leading_run is_ascii_digit (take (length s - 1) (drop 1 s)))
    → r ≡ numbered 10 1 7 (take n (drop 1 s)) (drop n (drop 1 s))
    → r ≡ number_reference (drop 1 s)
number_decimal [] n r l x e d = absurd (omega arith)
number_decimal (b ∷ []) n r l x e d = absurd (omega arith)
number_decimal (b ∷ c ∷ s) n r l x e d =
    let all : take (length (b ∷ c ∷ s) - 1) (c ∷ s) ≡ c ∷ s =
    between_to_end (b ∷ c ∷ s) 1 (length (b ∷ c ∷ s)) (omega arith) in
    let h = run_parts is_ascii_digit (c ∷ s) n (e ∙ ap (λ t. length (leading_run is_ascii_digit t)) all) in
    rw (d, x, h.0, h.1) refl

-- ---- after a reference a text may be cut

abbrev following_of : Option Piece → ℕ
following_of None = 0
following_of (Some p) = p.following

run_cut : (p : ℕ → Bool) (s : List ℕ) (from end : ℕ) → IsUtf8 s
    → end ≡ from + length (leading_run p (drop from s)) + 1
    → first_is 59 (behind_run p (drop from s)) ≡ true
    → IsCharBoundary s end
run_cut p s from end u k e =
    let at = from + length (leading_run p (drop from s)) in
    let same : drop at s ≡ behind_run p (drop from s) =
    sym (drop-drop (length (leading_run p (drop from s))) from s) ∙ drop_leading_run p (drop from s) in
    subst (IsCharBoundary s) (sym k) (cut_after_first s at 59 u (omega arith) (ap (first_is 59) same ∙ e))

name_cut : (s characters : List ℕ) (n : ℕ) → IsUtf8 s
    → ◌≡◌ {A = Option Piece} (Some (record { meaning = characters; following = n })) (name_reference s)
    → IsCharBoundary s n
name_cut s characters n u e =
    test (first_is 59 (behind_run is_ascii_alphanumeric s))
    (λ q. let f = rw q at e in
    run_cut is_ascii_alphanumeric s 0 n u
    (known _ (named (leading_run is_ascii_alphanumeric s)) f ∙ omega arith) q)
    (λ q. let f = rw q at e in absurd (cc))
  where
    known : (k : ℕ) (m : Option (List ℕ))
        → ◌≡◌ {A = Option Piece} (Some (record { meaning = characters; following = n })) (name_meaning k m)
        → n ≡ suc k
    known k None e = absurd (cc)
    known k (Some m) e = ap following_of e

numbered_end : (base before most n : ℕ) (digits rest characters : List ℕ)
    → ◌≡◌ {A = Option Piece} (Some (record { meaning = characters; following = n }))
    (numbered base before most digits rest)
    → (first_is 59 rest ≡ true) × (n ≡ before + length digits + 1)
numbered_end base before most n digits rest characters e =
    test (first_is 59 rest && not (is_empty digits) && nat_le (length digits) most)
    (λ q. let f = rw q at e in (
      (and_parts (first_is 59 rest) (not (is_empty digits))
          ((and_parts (first_is 59 rest && not (is_empty digits)) (nat_le (length digits) most) q).0)).0,
      ap following_of f,
    ))
    (λ q. let f = rw q at e in absurd (cc))

number_cut : (s characters : List ℕ) (n : ℕ) → IsUtf8 s
    → ◌≡◌ {A = Option Piece} (Some (record { meaning = characters; following = n }))
    (number_reference (drop 1 s))
    → IsCharBoundary s n
number_cut [] characters n u e = absurd (cc)
number_cut (b ∷ []) characters n u e = absurd (cc)
number_cut (b ∷ c ∷ s) characters n u e =
    test (is_one_of (codes "xX") c)
    (λ q. let f = rw q at e in
    let h = numbered_end 16 2 6 n (leading_run is_ascii_hexdigit s) (behind_run is_ascii_hexdigit s) characters f in
    run_cut is_ascii_hexdigit (b ∷ c ∷ s) 2 n u h.1 h.0)
    (λ q. let f = rw q at e in
    let h = numbered_end 10 1 7 n (leading_run is_ascii_digit (c ∷ s)) (behind_run is_ascii_digit (c ∷ s))
    characters f in
    run_cut is_ascii_digit (b ∷ c ∷ s) 1 n u h.1 h.0)

pub reference_cut : (s characters : List ℕ) (n : ℕ) → IsUtf8 s
    → ◌≡◌ {A = Option Piece} (Some (record { meaning = characters; following = n })) (reference s)
    → IsCharBoundary s n
reference_cut s characters n u e =
    test (first_is 35 s)
    (λ q. let f = rw q at e in number_cut s characters n u f)
    (λ q. let f = rw q at e in name_cut s characters n u f)
