-- Code blocks: the text of one as a page shows it, and the language that its class names.
use Rattle.std.proofs.Common.{◌≡◌, ℕ, Bool, true, false, not, ◌&&◌, ◌||◌, ◌==◌, cond, List, []}
use Rattle.std.proofs.Common.{◌∷◌, ◌++◌, refl, sym}
use Rattle.std.proofs.Common.{ap, ◌∙◌, arith, codes, length, length-append, ◌+◌, ◌≤◌, filter}
use Rattle.std.proofs.Common.{encode_utf8_all, Option, Some, None}
use Rattle.std.specs.Prelude.{nat_le, flat_map}
use Rattle.std.specs.Option.{option_or}
use Rattle.std.specs.List.{list_all, list_any, slice_split, onto_first}
use Rattle.std.specs.Str.{chars, IsUtf8, is_utf8}
use Rattle.std.proofs.lemmas.Bool.{and_parts}
use Rattle.std.proofs.lemmas.Bool.Decides.{nat_tests}
use Rattle.std.proofs.lemmas.List.Folds.{list_all-append, list_any-append}
use Rattle.std.proofs.lemmas.Str.{chars-append, chars-nil, encodes-chars, IsUtf8-append, IsUtf8-from_is_utf8}
use Rattle.htmd_lexical.specs.Characters.{line_feed, carriage_return, null}
use Rattle.htmd_lexical.specs.WhiteSpace.{is_ascii_white_space}
use Rattle.htmd_lexical.specs.AttributePairs.{AttributePair}
use Rattle.htmd_document.specs.NormalDocuments.{is_code_byte}
use Rattle.htmd_document_of_tree.specs.Limits.{characters}
use Rattle.htmd_shown.specs.declared.facts.Facts.{Facts}
use Rattle.htmd_shown.specs.declared.role.Role.TheVariants as role
use Rattle.htmd_shown.specs.AllTexts.{with_line_feeds, without_last_line_feed}
use Rattle.htmd_shown.specs.Attributes.{words, is_filled, is_in_name}
use Rattle.htmd_shown.specs.ShownTexts.{is_shown, shown_text}
use Rattle.htmd_shown.specs.SimpleTrees.{Simples, element}
use Rattle.htmd_shown.specs.Spaces.{is_white, is_blank_text}
use Rattle.htmd_shown.specs.TextViews.{is_return}
use Rattle.htmd_shown.proofs.LineEndsLemmas.{no-returns, feed_cut}
use Rattle.htmd_flow.specs.Languages.{is_name, is_none, first_name, language_named, language_of_block, prefixed}
use Rattle.htmd_flow.specs.Languages.{own_beginnings, named, data_of, longest_name}
use Rattle.htmd_values.specs.ValueTrees as value
use Rattle.htmd_law_rendering.specs.RenderedTrees.{code_trees, pairs_of_language}
use Rattle.htmd_law_rendering.specs.SpelledTrees.{value_forest}
use Rattle.htmd_law_returning.specs.SettledDocuments.{is_settled_code, has_settled_language}
use Rattle.htmd_law_returning.proofs.BareLemmas.{has_no_name}
use Rattle.htmd_law_returning.proofs.StartLemmas.{true-false, from-not}
use lib.Utf8.{encode}
use Rattle.htmd_lexical.proofs.Cases.{test}
use Rattle.htmd_shown.specs.Marks.{is_seen, letters}

-- ---- the text

-- the text of a code block, which a line's end follows on a page
abbrev pub with_end : List ℕ → List ℕ
with_end s = s ++ line_feed ∷ []

end-characters : chars (line_feed ∷ []) ≡ line_feed ∷ []
unfolding chars encode
end-characters = refl

end-utf8 : is_utf8 (line_feed ∷ []) ≡ true
unfolding is_utf8 chars encode
end-utf8 = refl

all-shown : (cs : List ℕ) → list_all is_shown cs ≡ true → filter is_shown cs ≡ cs
all-shown [] h = refl
all-shown (c ∷ cs) h =
    let parts = and_parts (is_shown c) (list_all is_shown cs) h in
    ap (λ b. cond b (c ∷ filter is_shown cs) (filter is_shown cs)) parts.0
    ∙ ap (λ xs. c ∷ xs) (all-shown cs parts.1)

no-return : (b : ℕ) → is_code_byte b ≡ true → is_return b ≡ false
no-return b h = from-not (b == carriage_return) (and_parts (not (b == carriage_return)) (not (b == null)) h).0

no-returns-in : (s : List ℕ) → list_all is_code_byte s ≡ true → list_any is_return s ≡ false
no-returns-in [] h = refl
no-returns-in (b ∷ s) h =
    let parts = and_parts (is_code_byte b) (list_all is_code_byte s) h in
    ap (λ x. x || list_any is_return s) (no-return b parts.0) ∙ no-returns-in s parts.1

-- the text of a code block with the line's end after it
pub record IsShownCode (s : List ℕ) : Type 0 where
  pub tree : value_forest (code_trees s) ≡ value.more (value.text (with_end s)) value.none
  pub shown : shown_text (with_end s) ≡ with_end s
  pub black : is_blank_text (with_end s) ≡ false
  pub feeds : with_line_feeds (with_end s) ≡ with_end s
  pub cut : without_last_line_feed (with_end s) ≡ s
  pub longer : characters s ≤ characters (with_end s)
  pub seen : is_filled (letters (with_end s)) ≡ true

-- not white space alone
some-seen : (cs : List ℕ) → list_all is_shown cs ≡ true → list_all is_white cs ≡ false
    → is_filled (filter is_seen cs) ≡ true
some-seen [] h e = true-false e
some-seen (c ∷ cs) h e =
    let parts = and_parts (is_shown c) (list_all is_shown cs) h in
    test (is_white c)
    (λ w. rw (parts.0, w) (some-seen cs parts.1 (sym (ap (λ b. b && list_all is_white cs) w) ∙ e)))
    (λ w. rw (parts.0, w) (some-filled c (filter is_seen cs)))
  where
    some-filled : (b : ℕ) (bs : List ℕ) → is_filled (b ∷ bs) ≡ true
    some-filled b bs = grind (arith, nat_tests)

code-tree : (s : List ℕ) → is_blank_text s ≡ false
    → value_forest (code_trees s) ≡ value.more (value.text (with_end s)) value.none
code-tree [] h = true-false (sym (ap (list_all is_white) chars-nil) ∙ h)
code-tree (b ∷ s) h = refl

pub code-shows : (s : List ℕ) → is_settled_code s ≡ true → list_all is_code_byte s ≡ true → IsShownCode s
code-shows s settled normal =
    let parts = and_parts (is_utf8 s && list_all is_shown (chars s)) (not (is_blank_text s)) settled in
    let own = and_parts (is_utf8 s) (list_all is_shown (chars s)) parts.0 in
    let u : IsUtf8 s = IsUtf8-from_is_utf8 s own.0 in
    let v : IsUtf8 (with_end s) =
    IsUtf8-append s (line_feed ∷ []) u (IsUtf8-from_is_utf8 (line_feed ∷ []) end-utf8) in
    let black : is_blank_text s ≡ false = from-not (is_blank_text s) parts.1 in
    let cs : chars (with_end s) ≡ chars s ++ line_feed ∷ [] =
    chars-append s (line_feed ∷ []) u ∙ ap (λ xs. chars s ++ xs) end-characters in
    let all : list_all is_shown (chars (with_end s)) ≡ true =
    ap (list_all is_shown) cs ∙ (list_all-append is_shown (chars s) (line_feed ∷ []) ∙ ap
    (λ b. b && true) own.1) in
    record {
      tree = code-tree s black;
      shown = ap encode_utf8_all (all-shown (chars (with_end s)) all) ∙ encodes-chars (with_end s) v;
      black = ap (list_all is_white) cs
          ∙ (list_all-append is_white (chars s) (line_feed ∷ []) ∙ ap (λ b. b && true) black);
      feeds = no-returns (with_end s) v
          (list_any-append is_return s (line_feed ∷ []) ∙ ap (λ b. b || false) (no-returns-in s normal));
      cut = feed_cut s;
      longer = longer (chars s) (chars (with_end s))
          (ap length cs ∙ length-append (chars s) (line_feed ∷ []));
      seen = some-seen (chars (with_end s)) all (ap (list_all is_white) cs
          ∙ (list_all-append is_white (chars s) (line_feed ∷ []) ∙ ap (λ b. b && true) black));
    }
  where
    longer : (s t : List ℕ) → length t ≡ length s + 1 → length s ≤ length t
    longer s t h = omega (arith, h)

-- ---- the language

split-one : (p : ℕ → Bool) (s : List ℕ) → list_all (λ b. not (p b)) s ≡ true → slice_split p s ≡ s ∷ []
split-one p [] h = refl
split-one p (b ∷ s) h =
    let parts = and_parts (not (p b)) (list_all (λ c. not (p c)) s) h in
    ap (λ c. cond c ([] ∷ slice_split p s) (onto_first b (slice_split p s))) (from-not (p b) parts.0)
    ∙ ap (onto_first b) (split-one p s parts.1)

in-name : (b : ℕ) → is_in_name b ≡ true → not (is_ascii_white_space b) ≡ true
in-name b h = grind (arith, nat_tests, h)

all-in-name : (s : List ℕ) → list_all is_in_name s ≡ true → list_all (λ b. not (is_ascii_white_space b)) s
    ≡ true
all-in-name [] h = refl
all-in-name (b ∷ s) h =
    let parts = and_parts (is_in_name b) (list_all is_in_name s) h in
    ap (λ x. x && list_all (λ c. not (is_ascii_white_space c)) s) (in-name b parts.0) ∙ all-in-name s parts.1

one-filled : (b : ℕ) (s : List ℕ) → is_filled (b ∷ s) ≡ true
one-filled b s = grind (arith, nat_tests)

-- a class of one word
class-word : (s : List ℕ) → list_all is_in_name s ≡ true
    → words (codes "language-" ++ s) ≡ (codes "language-" ++ s) ∷ []
class-word s h =
    ap (filter is_filled) (split-one is_ascii_white_space (codes "language-" ++ s) (all-in-name s h))
    ∙ ap (λ b. cond b ((codes "language-" ++ s) ∷ []) []) (one-filled 0x6C (codes "anguage-" ++ s))

prefix-found : (s : List ℕ) → list_all is_in_name s ≡ true → is_filled s ≡ true
    → prefixed own_beginnings (pairs_of_language (Some s)) ≡ s ∷ []
prefix-found s h filled = rw (class-word s h, filled) refl

pub language-found : (id : ℕ) (facts : Facts) (content : Simples) (language : Option (List ℕ))
    → has_settled_language language ≡ true
    → language_of_block [] (element id role.Code facts (pairs_of_language language) content ∷ []) [] ≡ language
language-found id facts content None h = refl
language-found id facts content (Some s) h =
    let parts = and_parts (is_name s) (not (is_none s)) h in
    let name = and_parts (is_filled s && nat_le (length s) longest_name) (list_all is_in_name s) parts.0 in
    let filled = and_parts (is_filled s) (nat_le (length s) longest_name) name.0 in
    let own : List (List AttributePair) = pairs_of_language (Some s) ∷ [] ∷ [] in
    let later : List (List ℕ) = prefixed own_beginnings [] ++ [] in
    let words_in : List (List ℕ) = flat_map named own in
    let said_in : List (List ℕ) = flat_map data_of own in
    ap (λ ps. language_named (first_name ((((ps ++ later) ++ words_in) ++ said_in) ++ [])))
    (prefix-found s name.1 filled.0)
    ∙ (ap (λ b. language_named (option_or (cond b (Some s) None)
    (first_name (((later ++ words_in) ++ said_in) ++ [])))) parts.0
    ∙ ap (λ b. cond b None (Some s)) (from-not (is_none s) parts.1))

-- no link leads there
pub language-nameless : (language : Option (List ℕ)) → has_no_name (pairs_of_language language) ≡ true
language-nameless None = refl
language-nameless (Some s) = refl
