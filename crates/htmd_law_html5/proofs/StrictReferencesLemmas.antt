-- References of the strict grammar stand for the same characters by the lenient reader.
use Rattle.std.proofs.Common.{◌≡◌, ◌⊎◌, ℕ, zero, suc, ◌+◌, Bool, true, false, not, ◌&&◌, ◌||◌, List, [], ◌∷◌, ◌++◌}
use Rattle.std.proofs.Common.{length, drop, Option, Some, None, refl, sym, ap, ◌∙◌, arith, inl, inr, codes}
use Rattle.std.specs.Prelude.{◌==◌}
use Rattle.std.specs.Char.{encode_utf8, is_ascii_alphanumeric, is_ascii_digit, is_ascii_hexdigit, is_ascii_alphabetic}
use Rattle.std.specs.List.{list_all}
use Rattle.std.specs.Str.{bytes_eq}
use Rattle.std.proofs.lemmas.Bool.{and_parts, or_parts, not-true, eqb-true}
use Rattle.std.proofs.lemmas.Bool.Decides.{nat_tests}
use Rattle.std.proofs.lemmas.List.{append-nil}
use Rattle.htmd_lexical.proofs.Cases.{test}
use Rattle.htmd_lexical.specs.CharacterClasses.{is_empty, first_is, begins_with, begins_in_any_case, leading_run}
use Rattle.htmd_lexical.specs.CharacterClasses.{behind_run, lacks, up_to, onward}
use Rattle.htmd_grammar.specs.References.{stands, number_at, numbered, may_be_numbered, named}
use Rattle.htmd_lexical.specs.Numbers.{number, is_between}
use Rattle.htmd_grammar.specs.References.{behind_number_sign, behind_ampersand, piece_at, decode}
use Rattle.htmd_grammar.specs.RawContent.{begins_markup}
use Rattle.htmd_grammar.specs.Rules.{NamedCharacter, character_named, named_characters}
use Rattle.htmd_lexical.proofs.BooleanLemmas.{if_then}
use Rattle.htmd_lexical.proofs.BytesLemmas.{same_bytes}
use Rattle.htmd_grammar.proofs.ReferencesLemmas.{stands_same, put_parts}
use Rattle.htmd_grammar.proofs.TextLemmas.{Stops, run_head, run_stops, stops_not}
use Rattle.htmd_html5_tokens.specs.NamedReferences.{NamedReference, first_in, old_names, longest_old}
use Rattle.htmd_html5_tokens.specs.References.{character_numbered, is_no_character, after_number_sign, after_ampersand}
use Rattle.htmd_html5_tokens.specs.Contents.{has_references, is_text, decoded}
use Rattle.htmd_html5_tokens.specs.Tokens.{Read, text}
use Rattle.htmd_html5_tokens.specs.RawTexts.{reading_of}
use Rattle.htmd_html5_tokens.specs.NextToken.{goes_on, read_text}
use Rattle.htmd_lexical.specs.declared.content_model.RawElement.TheVariants.{Title}
use Rattle.htmd_law_html5.specs.StrictReferences.{in_tag, after_title, counts, is_bare_reference, IsUnambiguousAt}
use Rattle.htmd_law_html5.specs.StrictReferences.{IsUnambiguous, value_spelled, ReferencesAgree}
use Rattle.htmd_law_html5.proofs.StrictPlaces.{has_bare_in, in_title, in_any_value, in_text}
use Rattle.htmd_html5_tokens.specs.NextToken as next
use Rattle.htmd_html5_tokens.specs.NamedReferences as table
use Rattle.htmd_html5_tokens.specs.References as lenient
use Rattle.htmd_html5_tokens.specs.Contents as contents

abbrev piece : ℕ → List ℕ → lenient.Piece
piece n v = record { following = n; characters = v }

-- ---- references by number

numbered_itself : (c : ℕ) → may_be_numbered c ≡ true → character_numbered c ≡ c
unfolding character_numbered may_be_numbered
numbered_itself c e =
    let off : is_no_character c ≡ false = grind (arith, nat_tests) in
    let low : is_between 0x80 0x9F c ≡ false = grind (arith, nat_tests) in
    rw (off, low) refl

digits_first : (p : ℕ → Bool) (s : List ℕ) → first_is 59 (behind_run p s) ≡ true → first_is 59 s ≡ false
    → is_empty (leading_run p s) ≡ false
digits_first p [] e f = absurd (cc)
digits_first p (b ∷ s) e f = test (p b) (λ t. rw t refl) (λ t. absurd (let k = rw (t, f) at e in cc))

number_same : (p : ℕ → Bool) (base from m : ℕ) (s v : List ℕ) → number_at p base from s ≡ stands m v
    → lenient.numbered p base from s ≡ piece m v
number_same p base from m s v e =
    elim (if_then (first_is 59 (behind_run p s) && not (first_is 59 s))
    (numbered (suc (from + length (leading_run p s))) (number base 0 (leading_run p s))) _ (stands m v) e) [
      | inl w ↦ elim (if_then (may_be_numbered (number base 0 (leading_run p s)))
          (stands (suc (from + length (leading_run p s))) _) _ (stands m v) w.1) [
            | inl u ↦
                let ends = and_parts (first_is 59 (behind_run p s)) (not (first_is 59 s)) w.0 in
                let filled = digits_first p s ends.0 (not-true (first_is 59 s) ends.1) in
                let parts = stands_same (suc (from + length (leading_run p s))) m _ v u.1 in
                let size : from + length (leading_run p s) + 1 ≡ m = omega (arith, parts.0) in
                rw (filled, ends.0, numbered_itself (number base 0 (leading_run p s)) u.0, size, parts.1) refl
            | inr u ↦ absurd (let z = u.1 in cc)
          ]
      | inr w ↦ absurd (let z = w.1 in cc)
    ]

number_sign_same : (s v : List ℕ) (m : ℕ) → behind_number_sign s ≡ stands m v → after_number_sign s ≡ piece
    m v
number_sign_same [] v m e = absurd (cc)
number_sign_same (b ∷ s) v m e =
    test (begins_in_any_case (codes "x") (b ∷ s))
    (λ t. let w = rw t at e in rw t (number_same is_ascii_hexdigit 16 2 m s v w))
    (λ t. let w = rw t at e in rw t (number_same is_ascii_digit 10 1 m (b ∷ s) v w))

-- ---- references by name

abbrev is_this : List ℕ → Option (List ℕ) → Bool
is_this v None = false
is_this v (Some u) = bytes_eq u v

-- a name of the strict grammar stands for its character in the table too
abbrev is_in_table : NamedCharacter → Bool
is_in_table entry = is_this (encode_utf8 entry.character) (table.named entry.name)

all_in_table : list_all is_in_table named_characters ≡ true
unfolding encode_utf8 table.capital_names table.small_names
all_in_table = refl

this_one : (v : List ℕ) (o : Option (List ℕ)) → is_this v o ≡ true → o ≡ Some v
this_one v None e = absurd (cc)
this_one v (Some u) e = ap (λ (x : List ℕ). Some x) (same_bytes u v e)

found_in_table : (entries : List NamedCharacter) (w : List ℕ) (c : ℕ) → list_all is_in_table entries ≡ true
    → character_named entries w ≡ Some c → table.named w ≡ Some (encode_utf8 c)
found_in_table [] w c a e = absurd (cc)
found_in_table (entry ∷ entries) w c a e =
    let h = and_parts (is_in_table entry) (list_all is_in_table entries) a in
    test (bytes_eq w entry.name)
    (λ t. let f : Some entry.character ≡ Some c = rw t at e in
    let k : entry.character ≡ c = cc in
    ap table.named (same_bytes w entry.name t) ∙ this_one (encode_utf8 entry.character) (table.named entry.name) h.0
    ∙ ap (λ n. Some (encode_utf8 n)) k)
    (λ t. let f = rw t at e in found_in_table entries w c h.1 f)

name_same : (n : ℕ) (w v : List ℕ) (m : ℕ) (o : Option ℕ) → character_named named_characters w ≡ o
    → named n o ≡ stands m v → (n ≡ m) × (table.named w ≡ Some v)
name_same n w v m None q e = absurd (cc)
name_same n w v m (Some c) q e =
    let parts = stands_same n m (encode_utf8 c) v e in
    (parts.0, found_in_table named_characters w c all_in_table q ∙ ap (λ (x : List ℕ). Some x) parts.1)

-- no name begins with `;`
abbrev has_no_semicolon : NamedReference → Bool
has_no_semicolon r = not (first_is 59 r.name) && not (is_empty r.name)

begins_none : (rows : List NamedReference) (s : List ℕ) → list_all has_no_semicolon rows ≡ true
    → first_in rows (59 ∷ s) ≡ None
begins_none [] s a = refl
begins_none (r ∷ rows) s a =
    let h = and_parts (has_no_semicolon r) (list_all has_no_semicolon rows) a in
    rw (other r.name h.0, begins_none rows s h.1) refl
  where
    other : (n : List ℕ) → (not (first_is 59 n) && not (is_empty n)) ≡ true → begins_with n (59 ∷ s) ≡ false
    other [] e = absurd (cc)
    other (b ∷ n) e =
        let k = not-true (b == 59) (and_parts (not (b == 59)) true e).0 in
        let q : (59 == b) ≡ false = grind (arith, nat_tests, k) in
        rw q refl

old_begin_letters : list_all has_no_semicolon old_names ≡ true
unfolding old_names
old_begin_letters = refl

none_at_semicolon : (s : List ℕ) → first_is 59 s ≡ true → longest_old s ≡ None
none_at_semicolon [] e = absurd (cc)
none_at_semicolon (b ∷ s) e = rw (eqb-true b 59 e) (begins_none old_names s old_begin_letters)

not_bare : (z : Bool) (s : List ℕ) → is_bare_reference z s ≡ false → first_is 59
    (behind_run is_ascii_alphanumeric s) ≡ false → counts z (longest_old s) s ≡ false
not_bare z s e f = test (counts z (longest_old s) s) (λ t. absurd (let w = rw (t, f) at e in cc)) (λ t. t)

-- a name that doesn't count leaves `&` as it is
no_reference : (z : Bool) (o : Option NamedReference) (s : List ℕ) → counts z o s ≡ false
    → lenient.old_reference z o s ≡ lenient.ampersand_itself
no_reference z None s e = refl
no_reference z (Some r) s e =
    test (z && lenient.goes_on (drop (length r.name) s)) (λ t. rw t refl) (λ t. absurd (let w = rw t at e in cc))

run_empty : (p : ℕ → Bool) (s : List ℕ) → first_is 59 s ≡ true → p 59 ≡ false → leading_run p s ≡ []
run_empty p [] e f = refl
run_empty p (b ∷ s) e f = rw (eqb-true b 59 e, f) refl

ampersand_same : (in_value : Bool) (s v : List ℕ) (m : ℕ) → behind_ampersand named_characters s ≡ stands m v
    → is_bare_reference in_value s ≡ false → after_ampersand in_value s ≡ piece m v
ampersand_same z s v m e b =
    test (first_is 35 s)
    (λ t. let w = rw t at e in rw t (number_sign_same (drop 1 s) v m w))
    (λ t. let w = rw t at e in
    test (first_is 59 (behind_run is_ascii_alphanumeric s)) (λ q. test (first_is 59 s)
    (λ x. let y = rw (q, x) at w in
    let parts = stands_same 0 m (38 ∷ []) v y in
    rw (t, q, run_empty is_ascii_alphanumeric s x refl, none_at_semicolon s x, ← parts.0, ← parts.1) refl)
    (λ x. let y = rw (q, x) at w in
    let parts = name_same (suc (length (leading_run is_ascii_alphanumeric s))) (leading_run is_ascii_alphanumeric s) v m
    _ refl y in
    rw (t, q, parts.1, parts.0) refl))
    (λ q. let y = rw q at w in
    let parts = stands_same 0 m (38 ∷ []) v y in
    rw (t, q) (no_reference z (longest_old s) s (not_bare z s b q) ∙ rw (← parts.0, ← parts.1) refl)))

-- ---- what begins at a byte

piece_same : (r : _) (b : ℕ) (s v : List ℕ) (m : ℕ) → has_references r ≡ true
    → piece_at named_characters b s ≡ stands m v
    → (b == 13) ≡ false → (b == 0) ≡ false → (b == 38 && is_bare_reference (contents.is_value r) s) ≡ false
    → (is_text r ≡ true → (b == 60 && begins_with (codes "/>") s) ≡ false)
    → contents.piece_at r b s ≡ piece m v
piece_same r b s v m refs e cr null bare less =
    test (b == 38)
    (λ t. let w = rw t at e in
    let z = rw t at bare in
    rw (t, refs) (ampersand_same (contents.is_value r) s v m w z))
    (λ t. let w = rw (t, cr) at e in
    let parts = stands_same 0 m (b ∷ []) v w in
    test (b == 60) (λ y. test (is_text r)
    (λ x. let z = rw y at less x in rw (t, y, x, z, null, ← parts.0, ← parts.1) refl)
    (λ x. rw (t, y, x, null, ← parts.0, ← parts.1) refl)) (λ y. rw (t, y, null, ← parts.0, ← parts.1) refl))

-- ---- runs

-- where no markup begins there is no `</`
pub no_slash : (b : ℕ) (s : List ℕ) → begins_markup (b ∷ s) ≡ false →
    (b == 60 && begins_with (codes "/>") s) ≡ false
no_slash b [] e = test (b == 60) (λ t. rw t refl) (λ t. rw t refl)
no_slash b (c ∷ s) e =
    test (b == 60) (λ t. test (c == 47) (λ q. absurd (letter c q (rw t at e))) (λ q. rw (t, q) refl))
    (λ t. rw t refl)
  where
    letter : (c : ℕ) → (c == 47) ≡ true → (is_ascii_alphabetic c || (c == 47) || (c == 33) ||
        (c == 63)) ≡ false → ⊥
    letter c q e = grind (arith, nat_tests)

decoded_same : (r : _) → has_references r ≡ true → (n : ℕ) (s u : List ℕ)
    → lacks 13 s ≡ true → lacks 0 s ≡ true → has_bare_in (contents.is_value r) s ≡ false
    → (is_text r ≡ true → up_to begins_markup s ≡ s)
    → decode named_characters n s ≡ Some u → decoded r n s ≡ u
decoded_same r refs n [] u cr null bare less e = cc
decoded_same r refs zero (b ∷ s) u cr null bare less e =
    let c = and_parts (not (b == 13)) (lacks 13 s) cr in
    let z = and_parts (not (b == 0)) (lacks 0 s) null in
    let a = or_parts (b == 38 && is_bare_reference (contents.is_value r) s)
    (has_bare_in (contents.is_value r) s) bare in
    let p = put_parts (piece_at named_characters b s) (λ n. decode named_characters n s) u e in
    let here = piece_same r b s p.1 p.0 refs p.3 (not-true (b == 13) c.0) (not-true (b == 0) z.0) a.0
    (λ t. no_slash b s (run_head begins_markup b s (less t)).0) in
    let rest = decoded_same r refs p.0 s p.2 c.1 z.1 a.1 (λ t. (run_head begins_markup b s (less t)).1) p.4 in
    rw (here, rest) (sym p.5)
decoded_same r refs (suc n) (b ∷ s) u cr null bare less e =
    let c = and_parts (not (b == 13)) (lacks 13 s) cr in
    let z = and_parts (not (b == 0)) (lacks 0 s) null in
    let a = or_parts (b == 38 && is_bare_reference (contents.is_value r) s)
    (has_bare_in (contents.is_value r) s) bare in
    decoded_same r refs n s u c.1 z.1 a.1 (λ t. (run_head begins_markup b s (less t)).1) e

-- ---- the token of a text

-- what is no markup for the strict grammar is none for the lenient reader
pub less_markup : (s : List ℕ) → begins_markup s ≡ false → next.begins_markup s ≡ false
less_markup [] e = refl
less_markup (b ∷ []) e = test (b == 60) (λ t. rw t refl) (λ t. rw t refl)
less_markup (b ∷ c ∷ s) e =
    test (b == 60) (λ t. rw t (less c (goes_on s) (rw t at e))) (λ t. rw t refl)
  where
    less : (c : ℕ) (g : Bool) → (is_ascii_alphabetic c || (c == 47) || (c == 33) || (c == 63)) ≡ false
        → (is_ascii_alphabetic c || (c == 33) || (c == 63) || (c == 47 && g)) ≡ false
    less c g e = grind (arith, nat_tests)

pub markup_for_both : (s : List ℕ) → next.begins_markup s ≡ true → begins_markup s ≡ true
markup_for_both s e =
    test (begins_markup s) (λ t. t) (λ t. absurd (let w : true ≡ false = sym e ∙ less_markup s t in cc))

-- nothing comes, or markup
abbrev pub Ending : List ℕ → Type 0
Ending rest = (rest ≡ []) ⊎ (next.begins_markup rest ≡ true)

pub ending_for_both : (rest : List ℕ) → Ending rest → Stops false [] rest
ending_for_both rest (inl e) = inl e
ending_for_both rest (inr e) = inr (markup_for_both rest e)

pub text_run : (s rest : List ℕ) → up_to begins_markup s ≡ s → Ending rest
    → (up_to next.begins_markup (s ++ rest) ≡ s) × (onward next.begins_markup (s ++ rest) ≡ rest)
text_run [] rest e (inl w) = rw w (refl, refl)
text_run [] rest e (inr w) = run_stops next.begins_markup rest w
text_run (b ∷ s) rest e h =
    let p = run_head begins_markup b s e in
    let q = less_markup (b ∷ (s ++ rest)) (stops_not false [] b s rest (ending_for_both rest h) p.0) in
    let i = text_run s rest p.1 h in
    (rw (q, i.0) refl, rw (q, i.1) refl)

text_same : (r : _) (s u rest : List ℕ) → has_references r ≡ true → contents.is_value r ≡ false
    → IsUnambiguous s → decode named_characters 0 s ≡ Some u → up_to begins_markup s ≡ s
    → ◌≡◌ {A = Read} (record { token = text (decoded r 0 s); rest = rest })
    (record { token = text u; rest = rest })
text_same r s u rest f z h e l =
    let bare : has_bare_in (contents.is_value r) s ≡ false = rw z (in_text s l h.references_end) in
    rw (decoded_same r f 0 s u h.line_feeds h.no_null bare (λ t. l) e) refl

pub text_read : (s u rest : List ℕ) → IsUnambiguous s → decode named_characters 0 s ≡ Some u
    → up_to begins_markup s ≡ s → Ending rest → read_text (s ++ rest) ≡ record { token = text u; rest = rest }
text_read s u rest h e l k =
    let r = text_run s rest l k in
    rw (r.0, r.1) (search (text_same, h, e, l))

value_any : (r : _) (s u : List ℕ) → has_references r ≡ true → is_text r ≡ false
    → contents.is_value r ≡ true → IsUnambiguousAt in_tag s → decode named_characters 0 s ≡ Some u
    → decoded r 0 s ≡ u
value_any r s u f t z h e =
    let bare : has_bare_in (contents.is_value r) s ≡ false = rw z (in_any_value in_tag s h.references_end) in
    decoded_same r f 0 s u h.line_feeds h.no_null bare (λ q. absurd (let w = sym t ∙ q in cc)) e

pub value_same : (s u : List ℕ) → IsUnambiguousAt in_tag s → decode named_characters 0 s ≡ Some u
    → value_spelled s ≡ u
value_same s u h e = search (value_any, h, e)

pub title_same : (s u : List ℕ) → IsUnambiguousAt after_title s → decode named_characters 0 s ≡ Some u
    → decoded (reading_of Title) 0 s ≡ u
title_same s u h e =
    decoded_same (reading_of Title) refl 0 s u h.line_feeds h.no_null (in_title s h.references_end)
    (λ t. absurd (cc)) e

pub references_same : ReferencesAgree
references_same s u e = (
  λ h l. ap read_text (sym (append-nil s)) ∙ text_read s u [] h e l (inl refl),
  λ h. title_same s u h e,
  λ h. value_same s u h e,
)
