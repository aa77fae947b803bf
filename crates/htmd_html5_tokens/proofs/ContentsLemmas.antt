-- How the characters of a text are read piece by piece.
use Rattle.std.proofs.Common.{◌≡◌, ℕ, zero, suc, ◌+◌, ◌<◌, ◌≤◌, Bool, true, false, not, ◌&&◌, List, [], ◌∷◌, ◌++◌}
use Rattle.std.proofs.Common.{length, take, drop, get_or, refl, ap, sym, ◌∙◌, arith, append_assoc, subst, codes}
use Rattle.std.proofs.lemmas.Bool.{and_parts}
use Rattle.std.proofs.lemmas.Bool.Decides.{nat_tests}
use Rattle.std.proofs.lemmas.List.{drop_more}
use Rattle.std.proofs.lemmas.Str.{IsCharBoundary-after_ascii}
use Rattle.std.specs.Char.{encode_utf8, is_ascii_uppercase, to_ascii_lowercase}
use Rattle.std.specs.List.{list_all}
use Rattle.std.specs.Prelude.{◌==◌, nat_lt}
use Rattle.std.specs.Str.{IsUtf8, IsCharBoundary}
use Rattle.htmd_lexical.proofs.Cases.{test}
use Rattle.htmd_lexical.specs.CharacterClasses.{leading_run, behind_run, begins_with}
use Rattle.htmd_lexical.proofs.CharacterClassesLemmas.{take_leading_run, drop_leading_run}
use Rattle.htmd_html5_tokens.specs.References.{Piece, after_ampersand, replacement_character}
use Rattle.htmd_html5_tokens.specs.Contents.{has_references, is_text, is_value, name_of, piece_at, decoded}
use Rattle.htmd_html5_tokens.specs.AppendedCharacters.{is_literal, is_small, HasPushed}
use Rattle.htmd_html5_tokens.specs.declared.contents.Reading.{Reading}
use Rattle.htmd_html5_tokens.specs.declared.contents.Reading.TheVariants.{Text, EscapableRawText, RawText}
use Rattle.htmd_html5_tokens.specs.declared.contents.Reading.TheVariants.{AttributeValue}
use Rattle.htmd_scanning.proofs.RunCuts.{cut_before_ascii}

-- ---- pieces

-- after this many bytes of a piece
pub decoded_skip : (r : Reading) (n : ℕ) (s : List ℕ) → decoded r n s ≡ decoded r 0 (drop n s)
decoded_skip r zero [] = refl
decoded_skip r (suc n) [] = refl
decoded_skip r zero (b ∷ s) = refl
decoded_skip r (suc n) (b ∷ s) = decoded_skip r n s

abbrev itself : ℕ → Piece
itself b = record { following = 0; characters = b ∷ [] }

-- a byte that is none of the three
other_piece : (r : Reading) (b : ℕ) (s : List ℕ) → (b == 38) ≡ false → (b == 60) ≡ false
    → (b == 0) ≡ false
    → piece_at r b s ≡ itself b
other_piece r b s amp less null = rw (amp, less, null) refl

no : (x : Bool) → not x ≡ true → x ≡ false
no true e = cc
no false e = refl

plain_piece : (r : Reading) (b : ℕ) (s : List ℕ) → is_literal r b ≡ true → piece_at r b s ≡ itself b
plain_piece Text b s e =
    let h = and_parts (not (b == 38)) (not (b == 60)) e in
    test (b == 0) (λ z. rw (no (b == 38) h.0, no (b == 60) h.1, z) refl)
    (λ z. rw (no (b == 38) h.0, no (b == 60) h.1, z) refl)
plain_piece EscapableRawText b s e =
    let h = and_parts (not (b == 38)) (not (b == 0)) e in
    test (b == 60) (λ z. rw (no (b == 38) h.0, no (b == 0) h.1, z) refl)
    (λ z. rw (no (b == 38) h.0, no (b == 0) h.1, z) refl)
plain_piece RawText b s e =
    test (b == 38) (λ y. test (b == 60) (λ z. rw (no (b == 0) e, y, z) refl) (λ z. rw (no (b == 0) e, y, z) refl))
    (λ y. test (b == 60) (λ z. rw (no (b == 0) e, y, z) refl) (λ z. rw (no (b == 0) e, y, z) refl))
plain_piece AttributeValue b s e =
    let h = and_parts (not (b == 38)) (not (b == 0)) e in
    test (b == 60) (λ z. rw (no (b == 38) h.0, no (b == 0) h.1, z) refl)
    (λ z. rw (no (b == 38) h.0, no (b == 0) h.1, z) refl)

-- ---- literal characters

decoded_plain : (r : Reading) (s : List ℕ)
    → decoded r 0 s ≡ leading_run (is_literal r) s ++ decoded r 0 (behind_run (is_literal r) s)
decoded_plain r [] = refl
decoded_plain r (b ∷ s) =
    test (is_literal r b) (λ e. let p = plain_piece r b s e in rw (p, e, decoded_plain r s) refl) (λ e. rw e refl)

same_test : (x : Bool) → (x && x) ≡ x
same_test true = refl
same_test false = refl

-- of two that are the same, one test is enough
pub neither_twice : (s : List ℕ)
    → list_all (λ b. not (b == 0) && not (b == 0)) s ≡ list_all (is_literal RawText) s
neither_twice [] = refl
neither_twice (b ∷ s) = rw (same_test (not (b == 0)), neither_twice s) refl

-- past literal characters
pub run_past : (p : ℕ → Bool) (s : List ℕ) (n : ℕ) → n ≤ length s → list_all p (take n s) ≡ true
    → n + length (leading_run p (drop n s)) ≡ length (leading_run p s)
run_past p s zero le e = omega arith
run_past p [] (suc n) le e = absurd (omega arith)
run_past p (b ∷ s) (suc n) le e =
    let both = and_parts (p b) (list_all p (take n s)) e in
    let rest = run_past p s n (omega arith) both.1 in
    rw both.0 (omega (arith, rest))

-- a text of literal characters
pub decoded_itself : (r : Reading) (s : List ℕ) → list_all (is_literal r) s ≡ true → decoded r 0 s ≡ s
decoded_itself r [] e = refl
decoded_itself r (b ∷ s) e =
    let both = and_parts (is_literal r b) (list_all (is_literal r) s) e in
    rw (plain_piece r b s both.0, decoded_itself r s both.1) refl

-- a character that is no capital
small_lower : (b : ℕ) → is_ascii_uppercase b ≡ false → to_ascii_lowercase b ≡ b
small_lower b e =
    test (nat_lt b 65) (λ low. rw low refl)
    (λ low. test (nat_lt b 91) (λ high. absurd (grind (arith, nat_tests))) (λ high. rw (low, high) refl))

-- a name without capitals and U+0000
pub name_itself : (s : List ℕ) → list_all is_small s ≡ true → name_of s ≡ s
name_itself [] e = refl
name_itself (b ∷ s) e =
    let both = and_parts (is_small b) (list_all is_small s) e in
    let small = and_parts (not (b == 0)) (not (is_ascii_uppercase b)) both.0 in
    rw (plain_piece RawText b s small.0, small_lower b (no (is_ascii_uppercase b) small.1), name_itself s both.1) refl

pub plain_pushed : (r : Reading) (before s after front rest : List ℕ) (len : ℕ)
    → len ≡ length (leading_run (is_literal r) s) → front ≡ take len s → rest ≡ drop len s
    → after ≡ before ++ front
    → HasPushed r before s after rest
plain_pushed r before s after front rest len e f g h =
    let x : front ≡ leading_run (is_literal r) s = f ∙ ap (λ n. take n s) e
    ∙ take_leading_run (is_literal r) s in
    let y : rest ≡ behind_run (is_literal r) s = g ∙ ap (λ n. drop n s) e ∙ drop_leading_run (is_literal r) s in
    rw (h, x, y, append_assoc, sym (decoded_plain r s)) refl

special_is_ascii : (r : Reading) (b : ℕ) → is_literal r b ≡ false → b < 128
special_is_ascii Text b e = grind (arith, nat_tests)
special_is_ascii EscapableRawText b e = grind (arith, nat_tests)
special_is_ascii RawText b e = grind (arith, nat_tests)
special_is_ascii AttributeValue b e = grind (arith, nat_tests)

pub plain_cut : (r : Reading) (s : List ℕ) (len : ℕ) → len ≡ length (leading_run (is_literal r) s)
    → IsCharBoundary s len
plain_cut r s len e = subst (IsCharBoundary s) (sym e) (cut_before_ascii (is_literal r) s (special_is_ascii r))

-- ---- other pieces

pub special_has_references : (r : Reading) (b : ℕ) → is_literal r b ≡ false → b ≡ 38
    → has_references r ≡ true
special_has_references Text b e k = refl
special_has_references EscapableRawText b e k = refl
special_has_references RawText b e k = absurd (let f : false ≡ true = sym (rw k at e) in cc)
special_has_references AttributeValue b e k = refl

-- `<` is special only in a text
pub special_is_text : (r : Reading) (b : ℕ) → is_literal r b ≡ false → b ≡ 60 → r ≡ Text
special_is_text Text b e k = refl
special_is_text EscapableRawText b e k = absurd (let f : false ≡ true = sym (rw k at e) in cc)
special_is_text RawText b e k = absurd (let f : false ≡ true = sym (rw k at e) in cc)
special_is_text AttributeValue b e k = absurd (let f : false ≡ true = sym (rw k at e) in cc)

-- a piece of `&`
pub reference_pushed : (r : Reading) (before s after rest characters : List ℕ) (n : ℕ) → has_references r ≡ true
    → ◌≡◌ {A = Piece} (record { following = n; characters = characters }) (after_ampersand (is_value r) s)
    → after ≡ before ++ characters → rest ≡ drop n s
    → HasPushed r before (38 ∷ s) after rest
reference_pushed r before s after rest characters n h e f g =
    let p : piece_at r 38 s ≡ record { following = n; characters = characters } = rw h (sym e) in
    rw (p, f, g, append_assoc, sym (decoded_skip r n s)) refl

pub nothing_pushed : (before s rest : List ℕ) → begins_with (codes "/>") s ≡ true → rest ≡ drop 2 s
    → HasPushed Text before (60 ∷ s) before rest
nothing_pushed before s rest e g =
    let p : piece_at Text 60 s ≡ record { following = 2; characters = [] } = rw e refl in
    rw (p, g, sym (decoded_skip Text 2 s)) refl

pub less_than_pushed : (before s after : List ℕ) → begins_with (codes "/>") s ≡ false
    → after ≡ before ++ 60 ∷ []
    → HasPushed Text before (60 ∷ s) after s
less_than_pushed before s after e f =
    let p : piece_at Text 60 s ≡ itself 60 = rw e refl in
    rw (p, f, append_assoc) refl

null_is : (r : Reading) (b : ℕ) → is_literal r b ≡ false → (b ≡ 38 → ⊥) → (b ≡ 60 → ⊥)
    → (b ≡ 0) × (is_text r ≡ false)
null_is Text b e amp less = absurd (grind (arith, nat_tests))
null_is EscapableRawText b e amp less = (grind (arith, nat_tests), refl)
null_is RawText b e amp less = (grind (arith, nat_tests), refl)
null_is AttributeValue b e amp less = (grind (arith, nat_tests), refl)

pub null_pushed : (r : Reading) (b : ℕ) (before s after : List ℕ) → is_literal r b ≡ false
    → (b ≡ 38 → ⊥)
    → (b ≡ 60 → ⊥) → after ≡ before ++ encode_utf8 replacement_character
    → HasPushed r before (b ∷ s) after s
null_pushed r b before s after e amp less f =
    let h = null_is r b e amp less in
    let p : piece_at r b s ≡ record { following = 0; characters = encode_utf8 replacement_character } =
    rw (h.0, h.1) refl in
    rw (p, f, append_assoc) refl

-- the text is its first character and what follows it
pub first_and_rest : (s rest : List ℕ) → 0 < length s → rest ≡ drop 1 s → s ≡ get_or s 0 0 ∷ rest
first_and_rest s rest l e = rw e (drop_more s 0 0 l)

same : (x y : ℕ) → (x == y) ≡ true → x ≡ y
same x y h = grind (arith, nat_tests)

-- after the two characters of `/>` the text may be cut
pub cut_after_slash : (s : List ℕ) → IsUtf8 s → begins_with (codes "/>") s ≡ true → IsCharBoundary s 2
cut_after_slash [] u e = absurd (cc)
cut_after_slash (b ∷ []) u e = absurd (let q = and_parts (b == 47) false e in let f = q.1 in cc)
cut_after_slash (b ∷ c ∷ s) u e =
    let q = and_parts (b == 47) ((c == 62) && true) e in
    let r = and_parts (c == 62) true q.1 in
    IsCharBoundary-after_ascii (b ∷ c ∷ s) 1 u (omega arith) (omega (arith, same c 62 r.0))

-- after a special character it may be cut, too
pub cut_after_special : (r : Reading) (s : List ℕ) → IsUtf8 s → 0 < length s
    → is_literal r (get_or s 0 0) ≡ false
    → IsCharBoundary s 1
cut_after_special r s u l e = IsCharBoundary-after_ascii s 0 u l (special_is_ascii r (get_or s 0 0) e)
