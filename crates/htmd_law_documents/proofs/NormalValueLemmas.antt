-- Values of attributes in normal documents: addresses, titles, descriptions and languages.
use Rattle.std.proofs.Common.{◌≡◌, ℕ, suc, ◌-◌, Bool, true, false, cond, not, ◌&&◌, ◌||◌, List, [], ◌∷◌, ◌++◌, filter}
use Rattle.std.proofs.Common.{take, drop, length, refl, sym, ap, ◌∙◌, arith, subst, Option, Some, None, zero}
use Rattle.std.specs.Prelude.{encode_utf8, encode_utf8_all, ◌==◌, nat_lt, nat_le, codes}
use Rattle.std.specs.List.{list_any, list_all, flat_map, prefix_len, suffix_len, slice_split, onto_first}
use Rattle.std.specs.Option.{option_or, unwrap_or}
use Rattle.std.specs.Str.{IsUtf8, is_utf8, chars, bytes_eq}
use Rattle.std.proofs.lemmas.Bool.Decides.{nat_tests}
use Rattle.std.proofs.lemmas.Str.{IsUtf8-from_is_utf8, is_utf8-from_IsUtf8, IsUtf8-take, IsUtf8-drop, IsUtf8-nil}
use Rattle.std.proofs.lemmas.Str.{scalars-chars, encodes-chars, encode_ascii, chars-nil}
use Rattle.std.proofs.lemmas.List.{append-nil}
use Rattle.htmd_lexical.specs.Characters.{space}
use Rattle.htmd_lexical.specs.CharacterClasses.{first_is, is_empty}
use Rattle.htmd_shown.specs.Spaces.{ends_with_space, is_blank_text}
use Rattle.htmd_lexical.specs.AttributePairs.{AttributePair}
use Rattle.htmd_lexical.specs.WhiteSpace.{is_ascii_white_space}
use Rattle.htmd_lexical.proofs.Cases.{test}
use Rattle.htmd_text.specs.Joins.{joined_texts}
use Rattle.htmd_text.specs.Trims.{trimmed_start, trimmed_text}
use Rattle.htmd_text.proofs.TrimsLemmas.{OfAscii, start_boundary, end_boundary}
use Rattle.htmd_shown.specs.Attributes.{value_of, text_of, is_filled, words, in_line, title_of_value, title_of}
use Rattle.htmd_shown.specs.Attributes.{is_space_or_control, is_in_address, address, is_in_name}
use Rattle.htmd_shown.specs.SimpleTrees.{Simple}
use Rattle.htmd_flow.specs.Languages.{longest_name, is_name, is_none, name_if, first_name, language_named, only_code}
use Rattle.htmd_flow.specs.Languages.{found_languages, language_of_block}
use Rattle.htmd_shown.specs.ShownTexts.{is_shown, shown_text}
use Rattle.htmd_document.specs.NormalInlines.{is_line_byte, is_line, is_kept, is_attribute, is_title, has_double_space}
use Rattle.htmd_document.specs.NormalInlines.{has_title}
use Rattle.htmd_document.specs.Formats.{Abbreviation}
use Rattle.htmd_document.specs.NormalDocuments.{is_language_byte, is_language, has_language}
use Rattle.htmd_law_documents.specs.TreeForms.{is_text_value}
use Rattle.htmd_law_documents.proofs.VisibleLemmas.{both-true, scalars-filter, shown-shows}
use Rattle.htmd_law_documents.proofs.PiecesLemmas.{in_line-shows}
use Rattle.htmd_law_documents.proofs.NormalTextLemmas.{and-true, or-false, not-false, false-true, true-false}
use Rattle.htmd_law_documents.proofs.NormalTextLemmas.{all-append, PassesWide, encode-passes, ends-append, first-append}
use Rattle.htmd_law_documents.proofs.NormalTextLemmas.{filled-append, double-append, to-text}
use Rattle.htmd_law_documents.proofs.NormalLettersLemmas.{shown-characters, line-characters}
use Rattle.htmd_law_documents.proofs.NormalLeafLemmas.{IsWord, word-code, IsId}
use Rattle.htmd_law_documents.proofs.NormalCharacterLemmas.{is_solid, solid-single, solid-begins, solid-ends}
use Rattle.htmd_law_documents.proofs.NormalPartsLemmas.{is_text_character, IsRun}

-- ---- bytes and characters

pub all-less : (p q : ℕ → Bool) → ((b : ℕ) → p b ≡ true → q b ≡ true) → (s : List ℕ)
    → list_all p s ≡ true
    → list_all q s ≡ true
all-less p q f [] h = refl
all-less p q f (b ∷ s) h =
    let parts = both-true (p b) (list_all p s) h in and-true (f b parts.0) (all-less p q f s parts.1)

pub all-both : (p q : ℕ → Bool) (s : List ℕ) → list_all p s ≡ true → list_all q s ≡ true
    → list_all (λ b. p b && q b) s ≡ true
all-both p q [] g h = refl
all-both p q (b ∷ s) g h =
    let a = both-true (p b) (list_all p s) g in
    let c = both-true (q b) (list_all q s) h in
    and-true (and-true a.0 c.0) (all-both p q s a.1 c.1)

pub all-drop : (p : ℕ → Bool) (n : ℕ) (s : List ℕ) → list_all p s ≡ true → list_all p (drop n s) ≡ true
all-drop p zero s h = h
all-drop p (suc n) [] h = refl
all-drop p (suc n) (b ∷ s) h = all-drop p n s (both-true (p b) (list_all p s) h).1

pub all-take : (p : ℕ → Bool) (n : ℕ) (s : List ℕ) → list_all p s ≡ true → list_all p (take n s) ≡ true
all-take p zero s h = refl
all-take p (suc n) [] h = refl
all-take p (suc n) (b ∷ s) h =
    let parts = both-true (p b) (list_all p s) h in and-true parts.0 (all-take p n s parts.1)

all-first : (p : ℕ → Bool) (s t : List ℕ) → list_all p (s ++ t) ≡ true → list_all p s ≡ true
all-first p [] t h = refl
all-first p (b ∷ s) t h =
    let parts = both-true (p b) (list_all p (s ++ t)) h in and-true parts.0 (all-first p s t parts.1)

all-last : (p : ℕ → Bool) (s t : List ℕ) → list_all p (s ++ t) ≡ true → list_all p t ≡ true
all-last p [] t h = h
all-last p (b ∷ s) t h = all-last p s t (both-true (p b) (list_all p (s ++ t)) h).1

pub encodes-pass : (p : ℕ → Bool) → PassesWide p → (cs : List ℕ) → list_all p cs ≡ true
    → list_all p (encode_utf8_all cs) ≡ true
encodes-pass p wide [] h = refl
encodes-pass p wide (c ∷ cs) h =
    let parts = both-true (p c) (list_all p cs) h in
    all-append p (encode_utf8 c) (encode_utf8_all cs) (encode-passes p wide c parts.0) (encodes-pass p wide cs parts.1)

character-passes : (p : ℕ → Bool) → PassesWide p → (c : ℕ) → list_all p (encode_utf8 c) ≡ true → p c
    ≡ true
character-passes p wide c h = test (nat_lt c 128)
    (λ e. (both-true (p c) true (sym (ap (list_all p) (encode_ascii c (grind (arith, nat_tests)))) ∙ h)).0)
    (λ e. wide c (grind (arith, nat_tests)))

decodes-pass : (p : ℕ → Bool) → PassesWide p → (cs : List ℕ) → list_all p (encode_utf8_all cs) ≡ true
    → list_all p cs ≡ true
decodes-pass p wide [] h = refl
decodes-pass p wide (c ∷ cs) h =
    and-true (character-passes p wide c (all-first p (encode_utf8 c) (encode_utf8_all cs) h))
    (decodes-pass p wide cs (all-last p (encode_utf8 c) (encode_utf8_all cs) h))

pub chars-pass : (p : ℕ → Bool) → PassesWide p → (s : List ℕ) → IsUtf8 s → list_all p s ≡ true
    → list_all p (chars s) ≡ true
chars-pass p wide s u h = decodes-pass p wide (chars s) (ap (list_all p) (encodes-chars s u) ∙ h)

-- ---- texts without U+0000

pub record IsClean (s : List ℕ) : Type 0 where
  pub utf8 : IsUtf8 s
  pub seen : list_all is_text_character s ≡ true
  -- each of its characters shows
  pub shown : list_all is_shown (chars s) ≡ true

-- such a text, of which something shows
abbrev pub IsBlack : List ℕ → Type 0
IsBlack s = IsClean s × (is_blank_text s ≡ false)

pub clean-nil : IsClean []
clean-nil = record { utf8 = IsUtf8-nil; seen = refl; shown = ap (list_all is_shown) chars-nil }

pub text-wide : PassesWide is_text_character
text-wide b l = grind (arith, nat_tests)

pub text-run : (s : List ℕ) → IsUtf8 s → list_all is_text_character s ≡ true → IsRun s
text-run s u h = record { scalar = scalars-chars s u; seen = chars-pass is_text_character text-wide s u h }

pub clean-run : (s : List ℕ) → IsClean s → IsRun s
clean-run s h = text-run s h.utf8 h.seen

pub utf8-trimmed : (p : ℕ → Bool) → OfAscii p → (s : List ℕ) → IsUtf8 s → IsUtf8 (trimmed_text p s)
utf8-trimmed p ascii s h =
    let start : List ℕ = trimmed_start p s in
    IsUtf8-take start (length start - suffix_len p start)
    (IsUtf8-drop s (prefix_len p s) h (start_boundary p s h ascii))
    (end_boundary p start ascii)

pub seen-trimmed : (p : ℕ → Bool) (s : List ℕ) → list_all is_text_character s ≡ true
    → list_all is_text_character (trimmed_text p s) ≡ true
seen-trimmed p s h =
    let start : List ℕ = trimmed_start p s in
    all-take is_text_character (length start - suffix_len p start) start
    (all-drop is_text_character (prefix_len p s) s h)

seen-shown : (cs : List ℕ) → list_all is_text_character (filter is_shown cs) ≡ true
seen-shown [] = refl
seen-shown (c ∷ cs) = either (is_shown c) refl (seen-shown cs)
  where
    text : (c : ℕ) → is_shown c ≡ true → is_text_character c ≡ true
    text c e = grind (arith, nat_tests)

    either : (b : Bool) → is_shown c ≡ b → list_all is_text_character (filter is_shown cs) ≡ true
        → list_all is_text_character (cond b (c ∷ filter is_shown cs) (filter is_shown cs)) ≡ true
    either true e h = and-true (text c e) h
    either false e h = h

-- what shows of a text
pub shown-clean : (s : List ℕ) → IsUtf8 s → IsClean (shown_text s)
shown-clean s u = record {
  utf8 = (shown-shows s u).utf8;
  seen = encodes-pass is_text_character text-wide (filter is_shown (chars s)) (seen-shown (chars s));
  shown = shown-characters s u;
}

-- ---- addresses

kept-filter : (cs : List ℕ) → list_all is_kept (filter is_in_address cs) ≡ true
kept-filter [] = refl
kept-filter (c ∷ cs) = either (is_in_address c) refl (kept-filter cs)
  where
    kept : (c : ℕ) → is_in_address c ≡ true → is_kept c ≡ true
    kept c e = grind (arith, nat_tests)

    either : (b : Bool) → is_in_address c ≡ b → list_all is_kept (filter is_in_address cs) ≡ true
        → list_all is_kept (cond b (c ∷ filter is_in_address cs) (filter is_in_address cs)) ≡ true
    either true e h = and-true (kept c e) h
    either false e h = h

kept-wide : PassesWide is_kept
kept-wide b l = grind (arith, nat_tests)

control-ascii : OfAscii is_space_or_control
control-ascii b e = grind (arith, nat_tests)

pub address-fine : (s : List ℕ) → IsUtf8 s → is_attribute (address s) ≡ true
address-fine s h =
    let t : List ℕ = trimmed_text is_space_or_control s in
    let cs : List ℕ = filter is_in_address (chars t) in
    and-true
    (is_utf8-from_IsUtf8 (encode_utf8_all cs) (
      cs,
      (
        scalars-filter is_in_address (chars t)
            (scalars-chars t (utf8-trimmed is_space_or_control control-ascii s h)),
        refl,
      ),
    ))
    (encodes-pass is_kept kept-wide cs (kept-filter (chars t)))

-- ---- pieces

abbrev pub AllPieces : (ℕ → Bool) → List (List ℕ) → Type 0
AllPieces p [] = Unit {0}
AllPieces p (s ∷ pieces) = (list_all p s ≡ true) × AllPieces p pieces

onto-pieces : (p : ℕ → Bool) (b : ℕ) (pieces : List (List ℕ)) → p b ≡ true → AllPieces p pieces
    → AllPieces p (onto_first b pieces)
onto-pieces p b [] e h = (and-true e refl, tt)
onto-pieces p b (s ∷ pieces) e h = (and-true e h.0, h.1)

-- no piece has what parts them, and all have what the text has
pub pieces-pass : (p q : ℕ → Bool) (s : List ℕ) → list_all q s ≡ true
    → AllPieces (λ b. not (p b) && q b) (slice_split p s)
pieces-pass p q [] h = (refl, tt)
pieces-pass p q (b ∷ s) h =
    let parts = both-true (q b) (list_all q s) h in
    let rest : AllPieces (λ b. not (p b) && q b) (slice_split p s) = pieces-pass p q s parts.1 in
    test (p b)
    (λ e. subst (λ (c : Bool). AllPieces (λ b. not (p b) && q b) (cond c ([] ∷ slice_split p s)
    (onto_first b (slice_split p s)))) (sym e) (refl, rest))
    (λ e. subst (λ (c : Bool). AllPieces (λ b. not (p b) && q b) (cond c ([] ∷ slice_split p s)
    (onto_first b (slice_split p s)))) (sym e)
    (onto-pieces (λ b. not (p b) && q b) b (slice_split p s) (and-true (not-false e) parts.0) rest))

-- words that are filled
abbrev AllWords : (ℕ → Bool) → List (List ℕ) → Type 0
AllWords p [] = Unit {0}
AllWords p (s ∷ words) = (list_all p s ≡ true) × (is_filled s ≡ true) × AllWords p words

filled-words : (p : ℕ → Bool) (pieces : List (List ℕ)) → AllPieces p pieces
    → AllWords p (filter is_filled pieces)
filled-words p [] h = tt
filled-words p (s ∷ pieces) h = test (is_filled s)
    (λ e. subst (λ (c : Bool). AllWords p (cond c (s ∷ filter is_filled pieces) (filter is_filled pieces))) (sym e)
    (h.0, e, filled-words p pieces h.1))
    (λ e. subst (λ (c : Bool). AllWords p (cond c (s ∷ filter is_filled pieces) (filter is_filled pieces))) (sym e)
    (filled-words p pieces h.1))

abbrev is_word_byte : (ℕ → Bool) → ℕ → Bool
is_word_byte q b = not (is_ascii_white_space b) && q b

words-fine : (q : ℕ → Bool) (s : List ℕ) → list_all q s ≡ true → AllWords (is_word_byte q) (words s)
words-fine q s h =
    filled-words (is_word_byte q) (slice_split is_ascii_white_space s) (pieces-pass is_ascii_white_space q s h)

-- ---- in one line

plain-word : (b : ℕ) → is_word_byte is_text_character b ≡ true → is_line_byte b ≡ true
plain-word b e = grind (arith, nat_tests)

word-no_space : (b : ℕ) → is_word_byte is_text_character b ≡ true → not (b == space) ≡ true
word-no_space b e = grind (arith, nat_tests)

more-plain : (ws : List (List ℕ)) → AllWords (is_word_byte is_text_character) ws
    → list_all is_line_byte (flat_map (λ next. (space ∷ []) ++ next) ws) ≡ true
more-plain [] h = refl
more-plain (w ∷ ws) h =
    all-append is_line_byte ((space ∷ []) ++ w) (flat_map (λ next. (space ∷ []) ++ next) ws)
    (and-true refl (all-less (is_word_byte is_text_character) is_line_byte plain-word w h.0)) (more-plain ws h.2)

joined-plain : (ws : List (List ℕ)) → AllWords (is_word_byte is_text_character) ws
    → list_all is_line_byte (joined_texts (space ∷ []) ws) ≡ true
joined-plain [] h = refl
joined-plain (w ∷ ws) h =
    all-append is_line_byte w (flat_map (λ next. (space ∷ []) ++ next) ws)
    (all-less (is_word_byte is_text_character) is_line_byte plain-word w h.0) (more-plain ws h.2)

pub in_line-line : (s : List ℕ) → IsUtf8 s → is_line (in_line s) ≡ true
in_line-line s u =
    let t : List ℕ = shown_text s in
    and-true (is_utf8-from_IsUtf8 (in_line s) (in_line-shows s u).utf8)
    (joined-plain (words t) (words-fine is_text_character t (shown-clean s u).seen))

plain-text : (b : ℕ) → is_line_byte b ≡ true → is_text_character b ≡ true
plain-text b e = grind (arith, nat_tests)

plain-kept : (b : ℕ) → is_line_byte b ≡ true → is_kept b ≡ true
plain-kept b e = grind (arith, nat_tests)

pub in_line-clean : (s : List ℕ) → IsUtf8 s → IsClean (in_line s)
in_line-clean s u =
    let parts = both-true (is_utf8 (in_line s)) (list_all is_line_byte (in_line s)) (in_line-line s u) in
    record {
      utf8 = (in_line-shows s u).utf8;
      seen = all-less is_line_byte is_text_character plain-text (in_line s) parts.1;
      shown = line-characters s u;
    }

-- ---- words in one line

filled-some : (s : List ℕ) → is_filled s ≡ true → is_empty s ≡ false
filled-some [] e = absurd (none e)
  where
    none : is_filled [] ≡ true → ⊥
    none e = grind (arith, nat_tests)
filled-some (b ∷ s) e = refl

word-solid : (b : ℕ) → is_word_byte is_text_character b ≡ true → is_solid b ≡ true
word-solid b e = and-true (plain-word b e) (word-no_space b e)

solid-of : (w : List ℕ) → list_all (is_word_byte is_text_character) w ≡ true → list_all is_solid w ≡ true
solid-of w h = all-less (is_word_byte is_text_character) is_solid word-solid w h

abbrev more_words : List (List ℕ) → List ℕ
more_words ws = flat_map (λ next. (space ∷ []) ++ next) ws

-- single spaces between words, and none at the end
record IsRest (t : List ℕ) : Type 0 where
  single : has_double_space t ≡ false
  ends : ends_with_space t ≡ false

word-rest : (w t : List ℕ) → list_all is_solid w ≡ true → is_empty w ≡ false → IsRest t → IsRest (w ++ t)
word-rest w t h some r = record {
  single = double-append w t (solid-single w h) r.single (ap (λ b. b && first_is space t) (solid-ends w h));
  ends = last t r;
}
  where
    last : (t : List ℕ) → IsRest t → ends_with_space (w ++ t) ≡ false
    last [] r = ap ends_with_space (append-nil w) ∙ solid-ends w h
    last (b ∷ t) r = ends-append w b t ∙ r.ends

space-rest : (t : List ℕ) → is_empty t ≡ false → first_is space t ≡ false → IsRest t
    → IsRest (space ∷ t)
space-rest [] some f r = true-false some
space-rest (b ∷ t) some f r = record { single = or-false f r.single; ends = r.ends }

words-rest : (ws : List (List ℕ)) → AllWords (is_word_byte is_text_character) ws → IsRest (more_words ws)
words-rest [] h = record { single = refl; ends = refl }
words-rest (w ∷ ws) h =
    let solid : list_all is_solid w ≡ true = solid-of w h.0 in
    let some : is_empty w ≡ false = filled-some w h.1 in
    space-rest (w ++ more_words ws) (filled-append w (more_words ws) some)
    (first-append w (more_words ws) some ∙ solid-begins w solid)
    (word-rest w (more_words ws) solid some (words-rest ws h.2))

joined-word : (ws : List (List ℕ)) → AllWords (is_word_byte is_text_character) ws
    → is_line (joined_texts (space ∷ []) ws) ≡ true → is_filled (joined_texts (space ∷ []) ws) ≡ true
    → IsWord (joined_texts (space ∷ []) ws)
joined-word [] h l e = true-false (sym (ap not (filled-some [] e)))
joined-word (w ∷ ws) h l e =
    let solid : list_all is_solid w ≡ true = solid-of w h.0 in
    let some : is_empty w ≡ false = filled-some w h.1 in
    let rest : IsRest (w ++ more_words ws) = word-rest w (more_words ws) solid some (words-rest ws h.2) in
    record {
      text = to-text (w ++ more_words ws)
          (record { line = l; some = filled-append w (more_words ws) some; single = rest.single });
      begins = first-append w (more_words ws) some ∙ solid-begins w solid;
      ends = rest.ends;
    }

pub in_line-word : (s : List ℕ) → IsUtf8 s → is_filled (in_line s) ≡ true → IsWord (in_line s)
in_line-word s u e =
    let t : List ℕ = shown_text s in
    joined-word (words t) (words-fine is_text_character t (shown-clean s u).seen) (in_line-line s u) e

-- an id that is in one line
pub in_line-id : (s : List ℕ) → IsUtf8 s → is_filled (in_line s) ≡ true → IsId (in_line s)
in_line-id s u e = word-code (in_line s) (in_line-word s u e)

-- ---- titles

record IsSeen (s : List ℕ) : Type 0 where
  plain : list_any is_line_byte s ≡ true
  black : list_any (λ b. not (b == space)) s ≡ true

any-first : (p : ℕ → Bool) (b : ℕ) (s : List ℕ) → p b ≡ true → list_any p (b ∷ s) ≡ true
any-first p b s e = ap (λ c. c || list_any p s) e

joined-seen : (ws : List (List ℕ)) → AllWords (is_word_byte is_text_character) ws
    → is_filled (joined_texts (space ∷ []) ws) ≡ true → IsSeen (joined_texts (space ∷ []) ws)
joined-seen [] h e = false-true e
joined-seen ([] ∷ ws) h e = false-true h.1
joined-seen ((b ∷ w) ∷ ws) h e =
    let first = both-true (is_word_byte is_text_character b) (list_all (is_word_byte is_text_character) w) h.0 in
    record {
      plain = any-first is_line_byte b (w ++ flat_map (λ next. (space ∷ []) ++ next) ws) (plain-word b first.0);
      black = any-first (λ c. not (c == space)) b (w ++ flat_map (λ next. (space ∷ []) ++ next) ws)
          (word-no_space b first.0);
    }

pub title-fine : (o : Option (List ℕ)) → ((s : List ℕ) → o ≡ Some s → IsUtf8 s)
    → is_title (title_of_value o) ≡ true
title-fine None h = refl
title-fine (Some s) h =
    let u : IsUtf8 s = h s refl in
    let t : List ℕ = shown_text s in
    let parts = both-true (is_utf8 (in_line s)) (list_all is_line_byte (in_line s)) (in_line-line s u) in
    test (is_filled (in_line s))
    (λ e.
    let seen : IsSeen (in_line s) = joined-seen (words t) (words-fine is_text_character t (shown-clean s u).seen) e in
    subst (λ (c : Bool). is_title (cond c (Some (in_line s)) None) ≡ true) (sym e)
    (and-true (and-true (and-true parts.0 (all-less is_line_byte is_kept plain-kept (in_line s) parts.1)) seen.plain)
    seen.black))
    (λ e. subst (λ (c : Bool). is_title (cond c (Some (in_line s)) None) ≡ true) (sym e) refl)

-- ---- names of languages

name-byte : (b : ℕ) → is_in_name b ≡ true → is_language_byte b ≡ true
name-byte b e = grind (arith, nat_tests)

name-fine : (s : List ℕ) → has_language (name_if s) ≡ true
name-fine s = either (is_name s) (λ e.
    let parts = both-true (is_filled s && nat_le (length s) longest_name) (list_all is_in_name s) e in
    let filled = both-true (is_filled s) (nat_le (length s) longest_name) parts.0 in
    and-true (not-false (filled-some s filled.0)) (all-less is_in_name is_language_byte name-byte s parts.1))
  where
    either : (b : Bool) → (b ≡ true → is_language s ≡ true) → has_language (cond b (Some s) None) ≡ true
    either true f = f refl
    either false f = refl

either-language : (a b : Option (List ℕ)) → has_language a ≡ true → has_language b ≡ true
    → has_language (option_or a b) ≡ true
either-language None b g h = h
either-language (Some s) b g h = g

first-name : (found : List (List ℕ)) → has_language (first_name found) ≡ true
first-name [] = refl
first-name (s ∷ found) = either-language (name_if s) (first_name found) (name-fine s) (first-name found)

named-fine : (o : Option (List ℕ)) → has_language o ≡ true → has_language (language_named o) ≡ true
named-fine None h = refl
named-fine (Some s) h = either (is_none s)
  where
    either : (b : Bool) → has_language (cond b None (Some s)) ≡ true
    either true = refl
    either false = h

pub language-fine : (attributes : List AttributePair) (trees : List Simple) (near : List (List AttributePair))
    → has_language (language_of_block attributes trees near) ≡ true
language-fine attributes trees near =
    let found : List (List ℕ) = found_languages (only_code trees ++ attributes ∷ []) near in
    named-fine (first_name found) (first-name found)

-- ---- the values of an element

abbrev pub AreTexts : List AttributePair → Type 0
AreTexts attributes = (name s : List ℕ) → value_of name attributes ≡ Some s → IsUtf8 s

pub texts-of : (attributes : List AttributePair) → list_all is_text_value attributes ≡ true → AreTexts attributes
texts-of [] h name s e = absurd (clash e)
  where
    clash : None ≡ Some s → ⊥
    clash p = (cc)
texts-of (a ∷ attributes) h name s e =
    let parts = both-true (is_text_value a) (list_all is_text_value attributes) h in
    either (bytes_eq a.name name) (IsUtf8-from_is_utf8 a.value parts.0) (texts-of attributes parts.1 name s) e
  where
    here : Some a.value ≡ Some s → IsUtf8 a.value → IsUtf8 s
    here p c = subst IsUtf8 (same p) c
      where
        same : Some a.value ≡ Some s → a.value ≡ s
        same q = ap (λ o. unwrap_or o []) q

    either : (b : Bool) → IsUtf8 a.value → (value_of name attributes ≡ Some s → IsUtf8 s)
        → cond b (Some a.value) (value_of name attributes) ≡ Some s → IsUtf8 s
    either true c f p = here p c
    either false c f p = f p

pub value-text : (attributes : List AttributePair) (name : List ℕ) → AreTexts attributes
    → IsUtf8 (text_of name attributes)
value-text attributes name h = at (value_of name attributes) refl
  where
    at : (o : Option (List ℕ)) → value_of name attributes ≡ o → IsUtf8 (unwrap_or o [])
    at None e = IsUtf8-nil
    at (Some s) e = h name s e

pub title_of-fine : (attributes : List AttributePair) → AreTexts attributes → is_title (title_of attributes)
    ≡ true
title_of-fine attributes h = title-fine (value_of (codes "title") attributes) (h (codes "title"))

-- the title of an abbreviation, if there is one
abbrev pub IsTitled : Option (List ℕ) → Type 0
IsTitled None = Unit {0}
IsTitled (Some title) = has_title (Abbreviation title) ≡ true

titled-fine : (o : Option (List ℕ)) → ((s : List ℕ) → o ≡ Some s → IsUtf8 s) → IsTitled (title_of_value o)
titled-fine None h = tt
titled-fine (Some s) h = test (is_filled (in_line s))
    (λ e. subst (λ (c : Bool). IsTitled (cond c (Some (in_line s)) None)) (sym e) (in_line-id s (h s refl) e))
    (λ e. subst (λ (c : Bool). IsTitled (cond c (Some (in_line s)) None)) (sym e) tt)

pub title_of-titled : (attributes : List AttributePair) → AreTexts attributes → IsTitled (title_of attributes)
title_of-titled attributes h = titled-fine (value_of (codes "title") attributes) (h (codes "title"))
