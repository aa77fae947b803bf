-- What is in one line is as it is in one line.
use Rattle.std.proofs.Common.{◌≡◌, ℕ, Bool, true, false, not, List, [], ◌∷◌, ◌++◌, filter, refl, ap, ◌∙◌}
use Rattle.std.proofs.Common.{Option, Some, None}
use Rattle.std.specs.Prelude.{encode_utf8_all, codes}
use Rattle.std.specs.List.{list_all, flat_map, slice_split, onto_first}
use Rattle.std.specs.Str.{chars, IsUtf8}
use Rattle.std.proofs.lemmas.Bool.{and_parts, and_from, not-true}
use Rattle.std.proofs.lemmas.List.{append-nil}
use Rattle.std.proofs.lemmas.Str.{encodes-chars}
use Rattle.htmd_lexical.specs.AttributePairs.{AttributePair}
use Rattle.htmd_lexical.specs.Characters.{space}
use Rattle.htmd_lexical.specs.WhiteSpace.{is_ascii_white_space}
use Rattle.htmd_lexical.proofs.Cases.{test}
use Rattle.htmd_lexical.proofs.BytesLemmas.{bytes_same}
use Rattle.htmd_text.specs.Joins.{joined_texts}
use Rattle.htmd_shown.specs.Attributes.{is_filled, words, in_line, value_of, title_of_value, title_of}
use Rattle.htmd_shown.specs.ShownTexts.{is_shown, shown_text}
use Rattle.htmd_law_documents.proofs.NormalLettersLemmas.{line-characters}
use Rattle.htmd_law_documents.proofs.NormalValueLemmas.{AreTexts, in_line-clean}
use Rattle.htmd_law_documents.proofs.PiecesLemmas.{onto}
use Rattle.htmd_law_returning.specs.SettledDocuments.{is_one_line, is_settled_title}

abbrev is_word_byte : ℕ → Bool
is_word_byte b = not (is_ascii_white_space b)

-- ---- words

abbrev AreFree : List (List ℕ) → Type 0
AreFree [] = Unit {0}
AreFree (w ∷ ws) = (list_all is_word_byte w ≡ true) × AreFree ws

onto-free : (b : ℕ) (ws : List (List ℕ)) → is_word_byte b ≡ true → AreFree ws → AreFree (onto_first b ws)
onto-free b [] e h = (rw e refl, tt)
onto-free b (w ∷ ws) e h = (and_from (is_word_byte b) (list_all is_word_byte w) e h.0, h.1)

pieces-free : (s : List ℕ) → AreFree (slice_split is_ascii_white_space s)
pieces-free [] = (refl, tt)
pieces-free (b ∷ s) =
    test (is_ascii_white_space b) (λ e. rw e (refl, pieces-free s))
    (λ e. rw e (onto-free b (slice_split is_ascii_white_space s) (rw e refl) (pieces-free s)))

-- words that are filled
abbrev AreWords : List (List ℕ) → Type 0
AreWords [] = Unit {0}
AreWords (w ∷ ws) = (list_all is_word_byte w ≡ true) × (is_filled w ≡ true) × AreWords ws

filled-words : (ws : List (List ℕ)) → AreFree ws → AreWords (filter is_filled ws)
filled-words [] h = tt
filled-words (w ∷ ws) h =
    test (is_filled w) (λ e. rw e (h.0, e, filled-words ws h.1)) (λ e. rw e (filled-words ws h.1))

-- ---- joined and split again

abbrev not_empty : List (List ℕ) → Bool
not_empty [] = false
not_empty (w ∷ ws) = true

split-word : (w t : List ℕ) → list_all is_word_byte w ≡ true
    → slice_split is_ascii_white_space (w ++ t) ≡ onto w (slice_split is_ascii_white_space t)
split-word [] t h = none_before (slice_split is_ascii_white_space t) (some t)
  where
    none_before : (ws : List (List ℕ)) → not_empty ws ≡ true → ws ≡ onto [] ws
    none_before [] e = absurd (cc)
    none_before (w ∷ ws) e = refl

    filled_first : (b : ℕ) (ws : List (List ℕ)) → not_empty (onto_first b ws) ≡ true
    filled_first b [] = refl
    filled_first b (w ∷ ws) = refl

    some : (t : List ℕ) → not_empty (slice_split is_ascii_white_space t) ≡ true
    some [] = refl
    some (b ∷ t) =
        test (is_ascii_white_space b) (λ e. rw e refl)
        (λ e. rw e (filled_first b (slice_split is_ascii_white_space t)))
split-word (b ∷ w) t h =
    let k = and_parts (is_word_byte b) (list_all is_word_byte w) h in
    rw (not-true (is_ascii_white_space b) k.0) (ap (onto_first b) (split-word w t k.1)
    ∙ first_onto b w (slice_split is_ascii_white_space t))
  where
    first_onto : (b : ℕ) (w : List ℕ) (ws : List (List ℕ)) → onto_first b (onto w ws) ≡ onto (b ∷ w) ws
    first_onto b w [] = refl
    first_onto b w (v ∷ ws) = refl

abbrev behind : List (List ℕ) → List ℕ
behind ws = flat_map (λ next. (space ∷ []) ++ next) ws

-- the words behind the first one, with the first piece
split-behind : (w : List ℕ) (ws : List (List ℕ)) → list_all is_word_byte w ≡ true → AreWords ws
    → slice_split is_ascii_white_space (w ++ behind ws) ≡ w ∷ ws
split-behind w [] e h =
    split-word w [] e ∙ ap (λ v. v ∷ []) (append-nil w)
split-behind w (v ∷ ws) e h =
    split-word w (behind (v ∷ ws)) e
    ∙ ap (λ us. onto w ([] ∷ us)) (split-behind v ws h.0 h.2) ∙ ap (λ u. u ∷ v ∷ ws) (append-nil w)

all-filled : (ws : List (List ℕ)) → AreWords ws → filter is_filled ws ≡ ws
all-filled [] h = refl
all-filled (w ∷ ws) h = rw h.1 (ap (λ vs. w ∷ vs) (all-filled ws h.2))

words-joined : (ws : List (List ℕ)) → AreWords ws → words (joined_texts (space ∷ []) ws) ≡ ws
words-joined [] h = refl
words-joined (w ∷ ws) h =
    ap (filter is_filled) (split-behind w ws h.0 h.2) ∙ all-filled (w ∷ ws) h

-- ---- one line

shown-filtered : (cs : List ℕ) → list_all is_shown cs ≡ true → filter is_shown cs ≡ cs
shown-filtered [] e = refl
shown-filtered (c ∷ cs) e =
    let k = and_parts (is_shown c) (list_all is_shown cs) e in
    rw k.0 (ap (λ ds. c ∷ ds) (shown-filtered cs k.1))

shown-same : (s : List ℕ) → IsUtf8 s → list_all is_shown (chars s) ≡ true → shown_text s ≡ s
shown-same s u e = ap encode_utf8_all (shown-filtered (chars s) e) ∙ encodes-chars s u

line-again : (s : List ℕ) → IsUtf8 s → in_line (in_line s) ≡ in_line s
line-again s u =
    let ws : List (List ℕ) = words (shown_text s) in
    let all = filled-words (slice_split is_ascii_white_space (shown_text s)) (pieces-free (shown_text s)) in
    ap (λ t. joined_texts (space ∷ []) (words t))
    (shown-same (in_line s) (in_line-clean s u).utf8 (line-characters s u))
    ∙ ap (joined_texts (space ∷ [])) (words-joined ws all)

pub one-line : (s : List ℕ) → IsUtf8 s → is_one_line (in_line s) ≡ true
one-line s u = rw (line-again s u) (bytes_same (in_line s))

value-settled : (o : Option (List ℕ)) → ((s : List ℕ) → o ≡ Some s → IsUtf8 s)
    → is_settled_title (title_of_value o) ≡ true
value-settled None h = refl
value-settled (Some s) h =
    test (is_filled (in_line s)) (λ e. rw e (one-line s (h s refl))) (λ e. rw e refl)

pub title-settled : (attributes : List AttributePair) → AreTexts attributes
    → is_settled_title (title_of attributes) ≡ true
title-settled attributes h = value-settled (value_of (codes "title") attributes) (h (codes "title"))
