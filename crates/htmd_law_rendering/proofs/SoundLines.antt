-- Raw tags that are read in a line without carriage returns and U+0000 have none either.
use Rattle.std.proofs.Common.{◌≡◌, ℕ, zero, suc, Bool, true, false, List, [], ◌∷◌, ◌++◌, refl, Option, Some, None, drop}
use Rattle.std.proofs.Common.{length}
use Rattle.std.specs.Prelude.{◌&&◌, ◌==◌, nat_le, codes, if◌then◌else◌}
use Rattle.std.proofs.lemmas.Bool.{and_parts, and_from}
use Rattle.htmd_lexical.specs.Characters.{exclamation_mark, left_square_bracket, less_than_sign, line_feed}
use Rattle.htmd_lexical.specs.Characters.{right_square_bracket, space, tilde}
use Rattle.htmd_lexical.specs.CharacterClasses.{first_is, begins_with, leading_run, behind_run}
use Rattle.htmd_document.specs.NormalDocuments.{is_code_byte}
use Rattle.htmd_commonmark_reading.specs.BlockStarts.{is_same}
use Rattle.htmd_commonmark_reading.specs.Brackets.{References, Target, target, Brackets, outermost, bracket, and_tokens}
use Rattle.htmd_commonmark_reading.specs.Brackets.{without_links, Step, no_step, token_step, letter_step, sign_of}
use Rattle.htmd_commonmark_reading.specs.Brackets.{as_text}
use Rattle.htmd_commonmark_reading.specs.Brackets.{linked, before_end, closing_step, opening_step}
use Rattle.htmd_commonmark_reading.specs.Brackets.{blanks, piece_step, code_with}
use Rattle.htmd_commonmark_reading.specs.Brackets.{Kind, blank, line_end, slash, grave}
use Rattle.htmd_commonmark_reading.specs.Brackets.{sign, angle_bracket, and_sign, exclamation, opening, closing, other}
use Rattle.htmd_commonmark_reading.specs.Brackets.{kind, step_of, scanned, all_tokens, inlines}
use Rattle.htmd_commonmark_reading.specs.Characters.{past_blanks, escape, is_white, referenced, dereferenced}
use Rattle.htmd_commonmark_reading.specs.DelimiterRuns.{Token, finished, run, run_of, processed}
use Rattle.htmd_commonmark_reading.specs.InlineTokens as token
use Rattle.htmd_commonmark_reading.specs.InlineTokens.{before_graves, is_grave_accent, uri, email, link_to, if_tag}
use Rattle.htmd_commonmark_reading.specs.InlineTokens.{if_email, if_uri, angle}
use Rattle.htmd_commonmark_reading.specs.Lists.{is_task, is_checked, item_text}
use Rattle.htmd_commonmark_reading.specs.Markup.{Inlines, no_inlines, letter, line_break, task, letters, signs}
use Rattle.htmd_commonmark_reading.specs.RawTags.{raw_tag}
use Rattle.htmd_law_texts.proofs.TextLines.{all_drop}
use Rattle.htmd_law_rendering.proofs.SoundTags.{is_sound, IsSoundIf, behind-sound, tag-sound}
use Rattle.htmd_law_rendering.proofs.SoundRuns.{has_sound_tags, signs-sound, letters-sound, AreSound, processed-sound}

append-sound : (ts us : List Token) → AreSound ts → AreSound us → AreSound (ts ++ us)
append-sound [] us h k = k
append-sound (finished x ∷ ts) us h k = (h.0, append-sound ts us h.1 k)
append-sound (run r ∷ ts) us h k = append-sound ts us h k

-- ---- the stack of brackets

abbrev SoundBrackets : Brackets → Type 0
SoundBrackets (outermost ts) = AreSound ts
SoundBrackets (bracket i a s ts below) = AreSound ts × SoundBrackets below

abbrev SoundStep : Step → Type 0
SoundStep step = SoundBrackets step.brackets

tokens-sound : (b : Brackets) (us : List Token) → SoundBrackets b → AreSound us → SoundBrackets (and_tokens b us)
tokens-sound (outermost ts) us h k = append-sound ts us h k
tokens-sound (bracket i a s ts below) us h k = (append-sound ts us h.0 k, h.1)

links-sound : (b : Brackets) → SoundBrackets b → SoundBrackets (without_links b)
links-sound (outermost ts) h = h
links-sound (bracket true a s ts below) h = (h.0, links-sound below h.1)
links-sound (bracket false a s ts below) h = (h.0, links-sound below h.1)

token-sound : (b : Brackets) (x : Inlines) (n : ℕ) → SoundBrackets b → has_sound_tags x ≡ true
    → SoundStep (token_step b x n)
token-sound b x n h k = tokens-sound b (finished x ∷ []) h (k, tt)

text-sound : (i : Bool) (ts : List Token) (below : Brackets) → AreSound ts → SoundBrackets below
    → SoundStep (as_text i ts below)
text-sound i ts below h k =
    let end = finished (letter right_square_bracket no_inlines) ∷ [] in
    tokens-sound below (finished (letters (sign_of i) no_inlines) ∷ ts ++ end) k
    (letters-sound (sign_of i) no_inlines refl, append-sound ts end h (refl, tt))

linked-sound : (i : Bool) (ts : List Token) (below : Brackets) (s : List ℕ) (t : Option Target) → AreSound ts
    → SoundBrackets below → SoundStep (linked i ts below s t)
linked-sound i ts below s None h k = text-sound i ts below h k
linked-sound true ts below s (Some t) h k =
    tokens-sound below (finished _ ∷ []) k
    (and_from (has_sound_tags (processed ts)) true (processed-sound ts h) refl, tt)
linked-sound false ts below s (Some t) h k =
    tokens-sound (without_links below) (finished _ ∷ []) (links-sound below k)
    (and_from (has_sound_tags (processed ts)) true (processed-sound ts h) refl, tt)

closing-step : (refs : References) (b : Brackets) (s : List ℕ) → SoundBrackets b
    → SoundStep (closing_step refs b s)
closing-step refs (outermost ts) s h =
    token-sound (outermost ts) (letter right_square_bracket no_inlines) 0 h refl
closing-step refs (bracket i false text ts below) s h = text-sound i ts below h.0 h.1
closing-step refs (bracket i true text ts below) s h =
    linked-sound i ts below s (target refs (before_end text (right_square_bracket ∷ s)) s) h.0 h.1

-- ---- what `<` begins

tag-content : (o : Option (List ℕ)) → IsSoundIf o → has_sound_tags (if_tag o).content ≡ true
tag-content None h = refl
tag-content (Some s) h = and_from (is_sound (less_than_sign ∷ s)) true h refl

link-content : (address s : List ℕ) → has_sound_tags (link_to address s) ≡ true
link-content address s =
    and_from (has_sound_tags (letters s no_inlines)) true (letters-sound s no_inlines refl) refl

email-content : (o : Option (List ℕ)) (p : token.Piece) → has_sound_tags p.content ≡ true
    → has_sound_tags (if_email o p).content ≡ true
email-content None p h = h
email-content (Some s) p h = link-content (codes "mailto:" ++ s) s

uri-content : (o : Option (List ℕ)) (p : token.Piece) → has_sound_tags p.content ≡ true
    → has_sound_tags (if_uri o p).content ≡ true
uri-content None p h = h
uri-content (Some s) p h = link-content (dereferenced s) (dereferenced s)

angle-content : (s : List ℕ) → is_sound s ≡ true → has_sound_tags (angle s).content ≡ true
angle-content s h =
    uri-content (uri s) (if_email (email s) (if_tag (raw_tag s)))
    (email-content (email s) (if_tag (raw_tag s)) (tag-content (raw_tag s) (tag-sound s h)))

-- ---- each character

either : (t : Bool) (x y : Step) → SoundStep x → SoundStep y → SoundStep (if t then x else y)
either true x y h k = h
either false x y h k = k

code-sound : (b : Brackets) (n : ℕ) (o : Option (List ℕ)) → SoundBrackets b → SoundStep (code_with b n o)
code-sound b n None h = tokens-sound b (finished _ ∷ []) h (signs-sound 96 (suc n) no_inlines refl, tt)
code-sound b n (Some s) h = tokens-sound b (finished _ ∷ []) h (refl, tt)

break-sound : (t : Bool) → has_sound_tags (if t then line_break no_inlines else letter space no_inlines) ≡ true
break-sound true = refl
break-sound false = refl

step-sound : (k : Kind) (refs : References) (b : Brackets) (before : List ℕ) (c : ℕ) (s : List ℕ)
    → is_sound s ≡ true → SoundBrackets b → SoundStep (step_of k refs b before c s)
step-sound blank refs b before c s t h =
    either (first_is line_feed (past_blanks s)) (no_step b) (letter_step b c) h
    (token-sound b (letter c no_inlines) 0 h refl)
step-sound line_end refs b before c s t h =
    token-sound b _ (blanks s) h (break-sound (begins_with (codes "  ") before))
step-sound slash refs b before c s t h =
    either (first_is line_feed s) (token_step b (line_break no_inlines) (suc (blanks (drop 1 s))))
    (piece_step b (escape s)) (token-sound b (line_break no_inlines) (suc (blanks (drop 1 s))) h refl)
    (token-sound b (letters (escape s).meaning no_inlines) (escape s).following h
    (letters-sound (escape s).meaning no_inlines refl))
step-sound grave refs b before c s t h =
    let n = length (leading_run is_grave_accent s) in
    code-sound b n (before_graves (suc n) 0 (behind_run is_grave_accent s)) h
step-sound sign refs b before c s t h =
    let n = length (leading_run (is_same c) s) in
    let r = run_of c (suc n) before (behind_run (is_same c) s) in
    either ((c == tilde) && nat_le 2 n) (token_step b (signs c (suc n) no_inlines) n)
    (record { brackets = and_tokens b (run r ∷ []); more = n })
    (token-sound b (signs c (suc n) no_inlines) n h (signs-sound c (suc n) no_inlines refl))
    (tokens-sound b (run r ∷ []) h tt)
step-sound angle_bracket refs b before c s t h =
    token-sound b (angle s).content (angle s).following h (angle-content s t)
step-sound and_sign refs b before c s t h =
    let p = referenced c s in
    token-sound b (letters p.meaning no_inlines) p.following h (letters-sound p.meaning no_inlines refl)
step-sound exclamation refs b before c s t h =
    either (first_is left_square_bracket s) (opening_step b true s 1) (letter_step b exclamation_mark) (tt, h)
    (token-sound b (letter exclamation_mark no_inlines) 0 h refl)
step-sound opening refs b before c s t h = (tt, h)
step-sound closing refs b before c s t h = closing-step refs b s h
step-sound other refs b before c s t h = token-sound b (letter c no_inlines) 0 h refl

scanned-sound : (refs : References) (s : List ℕ) (n : ℕ) (before : List ℕ) (b : Brackets) → is_sound s ≡ true
    → SoundBrackets b → SoundBrackets (scanned refs s n before b)
scanned-sound refs [] n before b t h = h
scanned-sound refs (c ∷ s) (suc n) before b t h =
    scanned-sound refs s n (c ∷ before) b (and_parts (is_code_byte c) (is_sound s) t).1 h
scanned-sound refs (c ∷ s) zero before b t h =
    let rest = (and_parts (is_code_byte c) (is_sound s) t).1 in
    let step = step_of (kind c) refs b before c s in
    scanned-sound refs s step.more (c ∷ before) step.brackets rest (step-sound (kind c) refs b before c s rest h)

all-sound : (b : Brackets) → SoundBrackets b → AreSound (all_tokens b)
all-sound (outermost ts) h = h
all-sound (bracket i a s ts below) h =
    append-sound (all_tokens below) (finished (letters (sign_of i) no_inlines) ∷ ts) (all-sound below h.1)
    (letters-sound (sign_of i) no_inlines refl, h.0)

pub inlines-sound : (refs : References) (s : List ℕ) → is_sound s ≡ true
    → has_sound_tags (inlines refs s) ≡ true
inlines-sound refs s h =
    processed-sound (all_tokens (scanned refs s 0 [] (outermost [])))
    (all-sound (scanned refs s 0 [] (outermost [])) (scanned-sound refs s 0 [] (outermost []) h tt))

pub item-sound : (refs : References) (s : List ℕ) → is_sound s ≡ true
    → has_sound_tags (item_text refs s) ≡ true
item-sound refs s h = by_test (is_task s)
  where
    by_test : (t : Bool)
        → has_sound_tags (if t then task (is_checked s) (inlines refs (behind_run is_white (drop 3 s)))
        else inlines refs s) ≡ true
    by_test true =
        inlines-sound refs (behind_run is_white (drop 3 s))
        (behind-sound is_white (drop 3 s) (all_drop is_code_byte 3 s h))
    by_test false = inlines-sound refs s h
