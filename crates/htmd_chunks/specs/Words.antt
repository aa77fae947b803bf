-- The words of a paragraph, its sentences, and what it is cut into.
use Rattle.std.specs.Prelude.{ℕ, ◌+◌, ◌-◌, Bool, true, false, not, ◌&&◌, ◌==◌, nat_le}
use Rattle.std.specs.Prelude.{if◌then◌else◌}
use Rattle.std.specs.Prelude.{List, [], ◌∷◌, ◌++◌, length, map, reverse, take, Option, Some, None, codes}
use Rattle.std.specs.List.{sum_by, flat_map}
use Rattle.htmd_lexical.specs.Characters.{space, is_one_of}
use Rattle.htmd_document.specs.Documents.{Inline, text, code, formatted, link, image, anchor, line_break, task}
use Rattle.htmd_document.specs.Documents.{Inlines, no_inlines, inline, inlines_of}
use Rattle.htmd_commonmark.specs.BlockMarkdown.{line_of}
use Rattle.htmd_commonmark.specs.CharacterKinds.{first_character, last_character, is_space}
use Rattle.htmd_commonmark.specs.InlineMarkdown.{written_line}
use Rattle.htmd_commonmark.specs.declared.line.LineKind.TheVariants.{Paragraph}
use Rattle.htmd_commonmark.specs.declared.options.DocumentOptions.{DocumentOptions}
use Rattle.htmd_chunks.specs.Runs.{is_none, runs, together}
use Rattle.htmd_chunks.specs.Sizes.{text_size, cost}
use Rattle.htmd_chunks.specs.declared.bounds.Bounds.{Bounds}
use Rattle.htmd_chunks.specs.declared.size.Margin.{Margin}

-- what stands in a word
abbrev pub Word : Type 0
Word = List Inline

-- ---- words

abbrev pub is_shown : Option ℕ → Bool
is_shown None = false
is_shown (Some c) = not (is_space c)

-- something that isn't white space stands at the end of a text so far, or before it
abbrev pub shows_before : Bool → List ℕ → Bool
shows_before before [] = before
shows_before before (b ∷ s) = is_shown (last_character (b ∷ s))

-- the same of the rest of a text, or behind it
abbrev pub shows_behind : Bool → List ℕ → Bool
shows_behind behind [] = behind
shows_behind behind (b ∷ s) = is_shown (first_character (b ∷ s))

-- A text cut at each space between characters that aren't white space; so far stands this. `before` and `behind`:
-- something shows beside the text.
abbrev pub cut_text : Bool → Bool → List ℕ → List ℕ → List (List ℕ)
cut_text before behind so_far [] = so_far ∷ []
cut_text before behind so_far (b ∷ s) =
    if (b == space) && shows_before before so_far && shows_behind behind s
    then so_far ∷ cut_text false behind [] s
    else cut_text before behind (so_far ++ b ∷ []) s

abbrev pub is_break : Inline → Bool
is_break line_break = true
is_break _ = false

abbrev pub begins_shown : Inlines → Bool
begins_shown no_inlines = false
begins_shown (inline x rest) = not (is_break x)

-- a word with this behind
abbrev pub with_text : Word → List ℕ → Word
with_text word [] = word
with_text word (b ∷ s) = word ++ text (b ∷ s) ∷ []

-- what a text's parts end: the word so far, and each part but the last
abbrev pub ended : Word → List (List ℕ) → List Word
ended word [] = []
ended word (s ∷ []) = []
ended word (s ∷ next ∷ parts) = with_text word s ∷ ended [] (next ∷ parts)

-- the word that the last part begins or goes on
abbrev pub begun : Word → List (List ℕ) → Word
begun word [] = word
begun word (s ∷ []) = with_text word s
begun word (s ∷ next ∷ parts) = begun [] (next ∷ parts)

-- of what follows the word so far: only texts are cut, and beside a break or the box of a task nothing shows
abbrev pub words_from : Bool → Word → Inlines → List Word
words_from before word no_inlines = word ∷ []
words_from before word (inline (text s) rest) =
    let parts = cut_text before (begins_shown rest) [] s in
    ended word parts ++ words_from true (begun word parts) rest
words_from before word (inline (code s) rest) = words_from true (word ++ code s ∷ []) rest
words_from before word (inline (formatted format content) rest) =
    words_from true (word ++ formatted format content ∷ []) rest
words_from before word (inline (link address title content) rest) =
    words_from true (word ++ link address title content ∷ []) rest
words_from before word (inline (image address title description) rest) =
    words_from true (word ++ image address title description ∷ []) rest
words_from before word (inline (anchor id) rest) = words_from true (word ++ anchor id ∷ []) rest
words_from before word (inline line_break rest) = words_from false (word ++ line_break ∷ []) rest
words_from before word (inline (task is_checked) rest) = words_from false (word ++ task is_checked ∷ []) rest

abbrev pub words_of : Inlines → List Word
words_of xs = words_from false [] xs

-- ---- words with a space between them

-- a text right behind an inline, one with it if it is a text
abbrev pub text_after : Inline → List ℕ → List Inline
text_after (text t) s = text (t ++ s) ∷ []
text_after x s = x ∷ text s ∷ []

abbrev pub with_text_behind : List Inline → List ℕ → List Inline
with_text_behind [] s = text s ∷ []
with_text_behind (x ∷ []) s = text_after x s
with_text_behind (x ∷ y ∷ xs) s = x ∷ with_text_behind (y ∷ xs) s

-- an inline behind others, a text together with the text that ends them
abbrev pub with_inline : List Inline → Inline → List Inline
with_inline xs (text s) = with_text_behind xs s
with_inline xs x = xs ++ x ∷ []

-- the text that a word begins with, and what stands behind it
abbrev pub text_in : Inline → List ℕ
text_in (text s) = s
text_in _ = []

abbrev pub first_text : Word → List ℕ
first_text [] = []
first_text (x ∷ word) = text_in x

abbrev pub without_text : Inline → Word → Word
without_text (text s) word = word
without_text x word = x ∷ word

abbrev pub behind_text : Word → Word
behind_text [] = []
behind_text (x ∷ word) = without_text x word

-- a word behind others, and a space between them
abbrev pub with_word : List Inline → Word → List Inline
with_word xs word = with_text_behind xs (space ∷ first_text word) ++ behind_text word

abbrev pub further_words : List Inline → List Word → List Inline
further_words xs [] = xs
further_words xs (word ∷ words) = further_words (with_word xs word) words

abbrev pub put_together : List Word → List Inline
put_together [] = []
put_together (word ∷ words) = further_words word words

-- ---- sentences

abbrev pub begins_with_sign : List ℕ → Bool
begins_with_sign [] = false
begins_with_sign (b ∷ s) = is_one_of (codes ".!?") b

abbrev pub ends_with_sign : Inline → Bool
ends_with_sign (text s) = begins_with_sign (reverse s)
ends_with_sign _ = false

-- the word is the last of a sentence
abbrev pub ends_sentence : Word → Bool
ends_sentence [] = false
ends_sentence (x ∷ []) = ends_with_sign x
ends_sentence (x ∷ y ∷ word) = ends_sentence (y ∷ word)

-- the words of each sentence, the first one begun
abbrev pub sentences_from : List Word → List Word → List (List Word)
sentences_from sentence [] = if is_none sentence then [] else sentence ∷ []
sentences_from sentence (word ∷ words) =
    if ends_sentence word then (sentence ++ word ∷ []) ∷ sentences_from [] words
    else sentences_from (sentence ++ word ∷ []) words

-- ---- what is cut off

-- a word as long as when it is written alone
abbrev pub word_cost : DocumentOptions → Margin → Word → ℕ
word_cost options m word =
    cost m (text_size (written_line (line_of options Paragraph) [] (inlines_of word)).text)

-- words with spaces between them
abbrev pub words_cost : DocumentOptions → Margin → List Word → ℕ
words_cost options m words = sum_by (word_cost options m) words + (length words - 1)

-- a sentence, or each word of one that is too large
abbrev pub units_of : Bounds → Margin → List Word → List (List Word)
units_of c m sentence =
    if nat_le (words_cost c.options m sentence) c.most then sentence ∷ [] else map (λ word. word ∷ []) sentence

abbrev pub word_units : Bounds → Margin → Inlines → List (List Word)
word_units c m content = flat_map (units_of c m) (sentences_from [] (words_of content))

abbrev pub units_cost : DocumentOptions → Margin → List (List Word) → ℕ
units_cost options m units = words_cost options m (together units)

-- the inlines of each part of a paragraph
abbrev pub paragraph_parts : Bounds → Margin → ℕ → Inlines → List (List Inline)
paragraph_parts c m first content =
    map (λ units. put_together (together units))
    (runs (units_cost c.options m) c.most first (word_units c m content))

-- the least part
abbrev pub least_words : Bounds → Margin → Inlines → ℕ
least_words c m content = units_cost c.options m (take 1 (word_units c m content))
