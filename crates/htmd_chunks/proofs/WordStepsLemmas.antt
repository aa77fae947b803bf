-- Words, sentences and lines of a paragraph, one more at a time.
use Rattle.std.proofs.Common.{◌≡◌, ℕ, suc, ◌+◌, ◌-◌, ◌<◌, ◌≤◌, Bool, true, false, cond}
use Rattle.std.proofs.Common.{List, [], ◌∷◌, ◌++◌, length, map}
use Rattle.std.proofs.Common.{take, drop, get_or, reverse, refl, sym, ap, ◌∙◌, arith, String, string_bytes}
use Rattle.std.specs.Prelude.{nat_le, codes, Vec}
use Rattle.std.specs.List.{flat_map}
use Rattle.std.specs.declared.alloc.Global.{Global}
use Rattle.std.proofs.lemmas.List.{append-nil, append_assoc, drop_more, get_or-reverse, length-map, length-reverse}
use Rattle.std.proofs.lemmas.List.{length-take-le, map-append, map_push, take-map}
use Rattle.std.proofs.lemmas.List.Sums.{sum-map}
use Rattle.htmd_lexical.specs.Characters.{is_one_of, space}
use Rattle.htmd_document.specs.declared.document.Inline as source
use Rattle.htmd_document.specs.declared.document.Inline.TheBlock.{Text, Code, Formatted', Element', Anchor, Link'}
use Rattle.htmd_document.specs.declared.document.Inline.TheBlock.{Image, LineBreak, Task}
use Rattle.htmd_document.specs.declared.document.Inline.TheFolds.{fold_out-Inline}
use Rattle.htmd_document.specs.DocumentViews.{inline_of, inline_step}
use Rattle.htmd_document.specs.Documents.{Inline, text, code, formatted, link, image, anchor, line_break, task}
use Rattle.htmd_document.specs.Documents.{Inlines, inline}
use Rattle.htmd_commonmark.specs.declared.options.DocumentOptions.{DocumentOptions}
use Rattle.htmd_chunks.specs.Runs.{is_none}
use Rattle.htmd_chunks.specs.Words.{Word, words_from, with_text_behind, with_inline, with_word, put_together}
use Rattle.htmd_chunks.specs.Words.{text_after, begins_with_sign, ends_with_sign}
use Rattle.htmd_chunks.specs.Words.{ends_sentence, sentences_from, units_of, words_cost, word_cost}
use Rattle.htmd_chunks.specs.WordViews.{word_of, words_in}
use Rattle.htmd_chunks.specs.UnitViews.{unit_of_words, one_word, sentence_bytes, sentence_units}
use Rattle.htmd_chunks.specs.declared.bounds.Bounds.{Bounds}
use Rattle.htmd_chunks.specs.declared.size.Margin.{Margin}
use Rattle.htmd_chunks.specs.declared.units.Unit.{Unit}
use Rattle.htmd_chunks.proofs.WordsLemmas.{text-at_end, text-twice, further-append}

-- ---- inlines that are no text

abbrev pub is_text : Inline → Bool
is_text (text s) = true
is_text _ = false

-- something shows beside it
abbrev pub shows : Inline → Bool
shows line_break = false
shows (task is_checked) = false
shows _ = true

pub words-on : (before : Bool) (word : Word) (x : Inline) (rest : Inlines) → is_text x ≡ false
    → words_from before word (inline x rest) ≡ words_from (shows x) (word ++ x ∷ []) rest
words-on before word (text s) rest other = absurd (cc)
words-on before word (code s) rest other = refl
words-on before word (formatted f content) rest other = refl
words-on before word (link a t content) rest other = refl
words-on before word (image a t d) rest other = refl
words-on before word (anchor id) rest other = refl
words-on before word line_break rest other = refl
words-on before word (task b) rest other = refl

-- the same of the source
pub no-text : (x : source.Inline) → ((s : String Global) → x ≡ Text s → ⊥) → is_text (inline_of x) ≡ false
unfolding source.out-Inline denote.Hole.Carrier.out
no-text (Text s) other = absurd (other s refl)
no-text (Code s) other = rw (fold_out-Inline Inline inline_step (Code s)) refl
no-text (Formatted' f n r) other = rw (fold_out-Inline Inline inline_step (Formatted' f n r)) refl
no-text (Element' e n r) other = rw (fold_out-Inline Inline inline_step (Element' e n r)) refl
no-text (source.Abbreviation' t n r) other = rw (fold_out-Inline Inline inline_step (source.Abbreviation' t n r)) refl
no-text (Anchor i) other = rw (fold_out-Inline Inline inline_step (Anchor i)) refl
no-text (Link' a t n r) other = rw (fold_out-Inline Inline inline_step (Link' a t n r)) refl
no-text (Image a t d) other = rw (fold_out-Inline Inline inline_step (Image a t d)) refl
no-text LineBreak other = rw (fold_out-Inline Inline inline_step LineBreak) refl
no-text (Task b) other = rw (fold_out-Inline Inline inline_step (Task b)) refl

pub inline-text : (s : String Global) → inline_of (Text s) ≡ text (string_bytes s)
unfolding source.out-Inline denote.Hole.Carrier.out
inline-text s = fold_out-Inline Inline inline_step (Text s)

pub with-other : (xs : List Inline) (x : Inline) → is_text x ≡ false → with_inline xs x ≡ xs ++ x ∷ []
with-other xs (text s) other = absurd (cc)
with-other xs (code s) other = refl
with-other xs (formatted f content) other = refl
with-other xs (link a t content) other = refl
with-other xs (image a t d) other = refl
with-other xs (anchor id) other = refl
with-other xs line_break other = refl
with-other xs (task b) other = refl

after-other : (x : Inline) (s : List ℕ) → is_text x ≡ false → text_after x s ≡ x ∷ text s ∷ []
after-other (text t) s other = absurd (cc)
after-other (code t) s other = refl
after-other (formatted f content) s other = refl
after-other (link a t content) s other = refl
after-other (image a t d) s other = refl
after-other (anchor id) s other = refl
after-other line_break s other = refl
after-other (task b) s other = refl

sign-other : (x : Inline) → is_text x ≡ false → ends_with_sign x ≡ false
sign-other (text t) other = absurd (cc)
sign-other (code t) other = refl
sign-other (formatted f content) other = refl
sign-other (link a t content) other = refl
sign-other (image a t d) other = refl
sign-other (anchor id) other = refl
sign-other line_break other = refl
sign-other (task b) other = refl

-- ---- a text behind inlines, by the last of them

pub behind-none : (old : List source.Inline) (now : List source.Inline) (s : List ℕ) → old ≡ []
    → map inline_of now ≡ map inline_of old ++ text s ∷ []
    → map inline_of now ≡ with_text_behind (map inline_of old) s
behind-none old now s none is =
    is ∙ ap (λ l. map inline_of l ++ text s ∷ []) none
    ∙ ap (λ l. with_text_behind (map inline_of l) s) (sym none)

pub behind-text : (old rest now : List source.Inline) (last longer : String Global) (s : List ℕ)
    → old ≡ rest ++ Text last ∷ [] → string_bytes longer ≡ string_bytes last ++ s
    → now ≡ rest ++ Text longer ∷ []
    → map inline_of now ≡ with_text_behind (map inline_of old) s
behind-text old rest now last longer s was grown is =
    let ys = map inline_of rest in
    ap (map inline_of) is ∙ map_push inline_of rest (Text longer)
    ∙ ap (λ x. ys ++ x ∷ []) (inline-text longer ∙ ap text grown)
    ∙ sym (text-at_end ys (text (string_bytes last)) [] s)
    ∙ ap (λ x. with_text_behind (ys ++ x ∷ []) s) (sym (inline-text last))
    ∙ ap (λ l. with_text_behind l s) (sym (ap (map inline_of) was ∙ map_push inline_of rest (Text last)))

pub behind-other : (old rest pushed now : List source.Inline) (x : source.Inline) (s : List ℕ)
    → old ≡ rest ++ x ∷ [] → pushed ≡ rest ++ x ∷ [] → is_text (inline_of x) ≡ false
    → map inline_of now ≡ map inline_of pushed ++ text s ∷ []
    → map inline_of now ≡ with_text_behind (map inline_of old) s
behind-other old rest pushed now x s was again other is =
    let ys = map inline_of rest in
    let whole : map inline_of old ≡ ys ++ inline_of x ∷ [] = ap (map inline_of) was ∙ map_push inline_of rest x in
    is ∙ ap (λ l. map inline_of l ++ text s ∷ []) (again ∙ sym was)
    ∙ ap (λ l. l ++ text s ∷ []) whole
    ∙ append_assoc ys (inline_of x ∷ []) (text s ∷ [])
    ∙ ap (λ l. ys ++ l) (sym (after-other (inline_of x) s other))
    ∙ sym (text-at_end ys (inline_of x) [] s) ∙ ap (λ l. with_text_behind l s) (sym whole)

-- ---- signs

pub last-sign : (s : List ℕ) (d : ℕ) → 1 ≤ length s
    → is_one_of (codes ".!?") (get_or s (length s - 1) d) ≡ begins_with_sign (reverse s)
last-sign [] d some = absurd (omega arith)
last-sign (b ∷ s) d some = by-last (b ∷ s) d some
  where
    first : (s : List ℕ) (d : ℕ) → 1 ≤ length s
        → is_one_of (codes ".!?") (get_or s 0 d) ≡ begins_with_sign s
    first [] d some = absurd (omega arith)
    first (b ∷ s) d some = refl

    by-last : (s : List ℕ) (d : ℕ) → 1 ≤ length s
        → is_one_of (codes ".!?") (get_or s (length s - 1) d) ≡ begins_with_sign (reverse s)
    by-last s d some =
        let size : length (reverse s) ≡ length s = length-reverse s in
        let place : length s - 1 - 0 ≡ length s - 1 = omega arith in
        ap (is_one_of (codes ".!?")) (sym (get_or-reverse s 0 d (omega arith) ∙ ap (λ k. get_or s k d) place))
        ∙ first (reverse s) d (omega arith)

pub sentence-last-inline : (xs : List source.Inline) (x : source.Inline) → 1 ≤ length xs
    → x ≡ get_or xs (length xs - 1) x → ends_with_sign (inline_of x) ≡ ends_sentence (map inline_of xs)
sentence-last-inline [] x some is = absurd (omega arith)
sentence-last-inline (y ∷ []) x some is = ap (λ z. ends_with_sign (inline_of z)) is
sentence-last-inline (y ∷ z ∷ xs) x some is =
    let less : length (y ∷ z ∷ xs) - 1 ≡ suc (length (z ∷ xs) - 1) = omega arith in
    sentence-last-inline (z ∷ xs) x (omega arith) (is ∙ ap (λ n. get_or (y ∷ z ∷ xs) n x) less)

pub no-sign : (x : source.Inline) → ((s : String Global) → x ≡ Text s → ⊥)
    → false ≡ ends_with_sign (inline_of x)
no-sign x other = sym (sign-other (inline_of x) (no-text x other))

-- ---- a word behind others

pub word-put : (xs : List Inline) (x : Inline) (rest : Word)
    → with_inline (with_text_behind xs (space ∷ [])) x ++ rest ≡ with_word xs (x ∷ rest)
word-put xs (text s) rest = ap (λ l. l ++ rest) (text-twice xs (space ∷ []) s)
word-put xs (code s) rest = append_assoc (with_text_behind xs (space ∷ [])) (code s ∷ []) rest
word-put xs (formatted f content) rest =
    append_assoc (with_text_behind xs (space ∷ [])) (formatted f content ∷ []) rest
word-put xs (link a t content) rest = append_assoc (with_text_behind xs (space ∷ [])) (link a t content ∷ []) rest
word-put xs (image a t d) rest = append_assoc (with_text_behind xs (space ∷ [])) (image a t d ∷ []) rest
word-put xs (anchor id) rest = append_assoc (with_text_behind xs (space ∷ [])) (anchor id ∷ []) rest
word-put xs line_break rest = append_assoc (with_text_behind xs (space ∷ [])) (line_break ∷ []) rest
word-put xs (task b) rest = append_assoc (with_text_behind xs (space ∷ [])) (task b ∷ []) rest

pub no-word-put : (xs : List Inline) → with_text_behind xs (space ∷ []) ≡ with_word xs []
no-word-put xs = sym (append-nil (with_text_behind xs (space ∷ [])))

pub put-more : (words : List Word) (w : Word) → is_none words ≡ false
    → put_together (words ++ w ∷ []) ≡ with_word (put_together words) w
put-more [] w some = absurd (cc)
put-more (v ∷ words) w some = further-append v words (w ∷ [])

-- ---- the next words

first-words : (all : List (Vec source.Inline Global)) (i : ℕ) → take i (words_in all) ≡ words_in (take i all)
first-words all i = take-map word_of i all

pub words-taken : (all : List (Vec source.Inline Global)) (i : ℕ) → take i all ≡ take (i + 1) all
    → put_together (take i (words_in all)) ≡ put_together (take (i + 1) (words_in all))
words-taken all i same =
    ap put_together (first-words all i ∙ ap words_in same ∙ sym (first-words all (i + 1)))

pub first-taken : (all : List (Vec source.Inline Global)) (i : ℕ) (word : Vec source.Inline Global) → i ≡ 0
    → take i all ++ word ∷ [] ≡ take (i + 1) all → word_of word ≡ put_together (take (i + 1) (words_in all))
first-taken all i word none more =
    let one : take (i + 1) all ≡ word ∷ [] = sym more ∙ ap (λ k. take k all ++ word ∷ []) none in
    sym (ap put_together (first-words all (i + 1) ∙ ap words_in one))

pub more-taken : (all : List (Vec source.Inline Global)) (i : ℕ) (word : Vec source.Inline Global) → 0 < i
    → i < length all → take i all ++ word ∷ [] ≡ take (i + 1) all
    → with_word (put_together (take i (words_in all))) (word_of word) ≡ put_together (take (i + 1) (words_in all))
more-taken all i word some within more =
    let before = first-words all i in
    let size : length (words_in (take i all)) ≡ i = length-map (take i all) word_of
    ∙ length-take-le i all (omega arith) in
    ap (λ ws. with_word (put_together ws) (word_of word)) before
    ∙ sym (put-more (words_in (take i all)) (word_of word) (some-words (words_in (take i all)) (omega (arith, size))))
    ∙ ap put_together (sym (first-words all (i + 1) ∙ ap words_in (sym more)
    ∙ map_push word_of (take i all) word))
  where
    some-words : (ws : List Word) → 0 < length ws → is_none ws ≡ false
    some-words [] some = absurd (omega arith)
    some-words (w ∷ ws) some = refl

-- ---- sentences

pub word-split : (words : List (Vec source.Inline Global)) (i : ℕ) (word : Vec source.Inline Global)
    → i < length words → word ≡ get_or words i word
    → words_in (drop i words) ≡ word_of word ∷ words_in (drop (i + 1) words)
word-split words i word within is =
    ap words_in (drop_more words i word within) ∙ ap (λ w. word_of w ∷ words_in (drop (i + 1) words)) (sym is)

pub sentence-ended : (begun : List Word) (word : Word) (rest : List Word) → ends_sentence word ≡ true
    → sentences_from begun (word ∷ rest) ≡ (begun ++ word ∷ []) ∷ sentences_from [] rest
sentence-ended begun word rest ends = rw ends refl

pub sentence-on : (begun : List Word) (word : Word) (rest : List Word) → ends_sentence word ≡ false
    → sentences_from begun (word ∷ rest) ≡ sentences_from (begun ++ word ∷ []) rest
sentence-on begun word rest on = rw on refl

none-behind : (begun : List Word) (word : Word) → is_none (begun ++ word ∷ []) ≡ false
none-behind [] word = refl
none-behind (w ∷ begun) word = refl

-- the last word ends a sentence in either case
pub sentence-last : (begun : List Word) (word : Word)
    → sentences_from begun (word ∷ []) ≡ (begun ++ word ∷ []) ∷ []
sentence-last begun word =
    ap (λ b. cond (ends_sentence word) ((begun ++ word ∷ []) ∷ []) (cond b [] ((begun ++ word ∷ []) ∷ [])))
    (none-behind begun word)
    ∙ either (ends_sentence word) ((begun ++ word ∷ []) ∷ [])
  where
    either : (b : Bool) (l : List (List Word)) → cond b l l ≡ l
    either true l = refl
    either false l = refl

-- ---- units

alone : (options : DocumentOptions) (m : Margin) (words : List Word)
    → map (unit_of_words options m) (map (λ word. word ∷ []) words)
    ≡ map one_word (map (word_cost options m) words)
alone options m [] = refl
alone options m (w ∷ words) =
    ap (λ u. u ∷ map (unit_of_words options m) (map (λ word. word ∷ []) words)) (one options m w)
    ∙ ap (λ l. one_word (word_cost options m w) ∷ l) (alone options m words)
  where
    one : (options : DocumentOptions) (m : Margin) (w : Word)
        → unit_of_words options m (w ∷ []) ≡ one_word (word_cost options m w)
    one options m w =
        let same : words_cost options m (w ∷ []) ≡ word_cost options m w = omega arith in ap one_word same

pub units-are : (c : Bounds) (m : Margin) (sentence : List Word)
    → map (unit_of_words c.options m) (units_of c m sentence)
    ≡ sentence_units c.most (map (word_cost c.options m) sentence)
units-are c m sentence =
    let costs = map (word_cost c.options m) sentence in
    let count : length costs ≡ length sentence = length-map sentence (word_cost c.options m) in
    let bytes : words_cost c.options m sentence ≡ sentence_bytes costs =
    omega (arith, sum-map (word_cost c.options m) sentence, count) in
    let whole : ◌≡◌ {A = Unit} (unit_of_words c.options m sentence)
    (record { count = length costs; bytes = sentence_bytes costs }) =
    same (length sentence) (length costs) (words_cost c.options m sentence) (sentence_bytes costs) (sym count) bytes in
    either (nat_le (words_cost c.options m sentence) c.most) sentence
    ∙ ap (λ n. cond (nat_le n c.most) (unit_of_words c.options m sentence ∷ []) (map one_word costs)) bytes
    ∙ ap (λ u. cond (nat_le (sentence_bytes costs) c.most) (u ∷ []) (map one_word costs)) whole
  where
    same : (a b k n : ℕ) → a ≡ b → k ≡ n
        → ◌≡◌ {A = Unit} (record { count = a; bytes = k }) (record { count = b; bytes = n })
    same a b k n p q = cc

    either : (b : Bool) (sentence : List Word)
        → map (unit_of_words c.options m) (cond b (sentence ∷ []) (map (λ word. word ∷ []) sentence))
        ≡ cond b (unit_of_words c.options m sentence ∷ []) (map one_word (map (word_cost c.options m) sentence))
    either true sentence = refl
    either false sentence = alone c.options m sentence

-- ---- the loop's steps

-- a sentence that ends
pub sentence-done : (c : Bounds) (m : Margin) (begun : List Word) (word : Word) (rest : List Word)
    (units next all : List Unit) (costs : List ℕ) → costs ≡ map (word_cost c.options m) (begun ++ word ∷ [])
    → sentences_from begun (word ∷ rest) ≡ (begun ++ word ∷ []) ∷ sentences_from [] rest
    → next ≡ units ++ sentence_units c.most costs
    → units ++ map (unit_of_words c.options m) (flat_map (units_of c m) (sentences_from begun (word ∷ rest)))
    ≡ all
    → next ++ map (unit_of_words c.options m) (flat_map (units_of c m) (sentences_from [] rest)) ≡ all
sentence-done c m begun word rest units next all costs taken ends pushed whole =
    let f = unit_of_words c.options m in
    let sentence = begun ++ word ∷ [] in
    let later = flat_map (units_of c m) (sentences_from [] rest) in
    ap (λ l. l ++ map f later) (pushed ∙ ap (λ l. units ++ sentence_units c.most l) taken)
    ∙ append_assoc units (sentence_units c.most (map (word_cost c.options m) sentence)) (map f later)
    ∙ ap (λ l. units ++ (l ++ map f later)) (sym (units-are c m sentence))
    ∙ ap (λ l. units ++ l) (sym (map-append f (units_of c m sentence) later))
    ∙ ap (λ l. units ++ map f (flat_map (units_of c m) l)) (sym ends) ∙ whole

-- one that goes on
pub sentence-more : (c : Bounds) (m : Margin) (begun : List Word) (word : Word) (rest : List Word)
    (units all : List Unit)
    → sentences_from begun (word ∷ rest) ≡ sentences_from (begun ++ word ∷ []) rest
    → units ++ map (unit_of_words c.options m) (flat_map (units_of c m) (sentences_from begun (word ∷ rest)))
    ≡ all
    → units ++ map (unit_of_words c.options m) (flat_map (units_of c m) (sentences_from (begun ++ word ∷ []) rest))
    ≡ all
sentence-more c m begun word rest units all on whole =
    ap (λ l. units ++ map (unit_of_words c.options m) (flat_map (units_of c m) l)) (sym on) ∙ whole
