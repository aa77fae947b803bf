-- Words with a space between them are the paragraph.
use Rattle.std.proofs.Common.{◌≡◌, ℕ, Bool, true, false, not, cond, List, [], ◌∷◌, ◌++◌, map, refl}
use Rattle.std.proofs.Common.{sym, ap, ◌∙◌}
use Rattle.std.proofs.Common.{append_assoc, subst}
use Rattle.std.specs.Prelude.{◌&&◌, ◌||◌, ◌==◌, nat_le}
use Rattle.std.specs.List.{flat_map}
use Rattle.std.proofs.lemmas.Bool.{eqb-true}
use Rattle.std.proofs.lemmas.List.{append-nil}
use Rattle.htmd_lexical.specs.Characters.{space}
use Rattle.htmd_document.specs.Documents.{Inline, text, code, formatted, link, image, anchor, line_break, task}
use Rattle.htmd_document.specs.Documents.{Inlines, no_inlines, inline, inlines_of, Block, paragraph}
use Rattle.htmd_document.specs.Formats.{Format}
use Rattle.htmd_document.specs.NormalDocuments.{is_normal_paragraph}
use Rattle.htmd_document.specs.NormalInlines.{is_line, has_double_space, is_normal, are_normal, meets, has_none}
use Rattle.htmd_document.specs.NormalInlines.{is_text as is_normal_text, are_whole, is_normal_line, is_normal_item}
use Rattle.htmd_document.specs.NormalInlines.{first_passes, last_passes, begins_with_space, ends_with_space, is_break}
use Rattle.htmd_document.specs.NormalInlines.{are_anchors, anchors_stand_well}
use Rattle.htmd_chunks.specs.Cuts.{block_part, leaf_parts}
use Rattle.htmd_chunks.specs.Joins.{listed_inlines}
use Rattle.htmd_chunks.specs.Runs.{runs, together}
use Rattle.htmd_chunks.specs.Words.{Word, text_after, with_text_behind, first_text, behind_text, with_word}
use Rattle.htmd_chunks.specs.Words.{further_words}
use Rattle.htmd_chunks.specs.Words.{put_together, with_text, ended, begun, cut_text, shows_before, shows_behind}
use Rattle.htmd_chunks.specs.Words.{words_from}
use Rattle.htmd_chunks.specs.Words.{words_of, begins_shown, ends_sentence, sentences_from, words_cost, units_of}
use Rattle.htmd_chunks.specs.Words.{word_units}
use Rattle.htmd_chunks.specs.Words.{units_cost, paragraph_parts}
use Rattle.htmd_chunks.specs.declared.bounds.Bounds.{Bounds}
use Rattle.htmd_chunks.specs.declared.joint.Joint.TheVariants as joint
use Rattle.htmd_chunks.specs.declared.size.Margin.{Margin}
use Rattle.htmd_chunks.proofs.FillingsLemmas.{merged, AreParts, parts_of, go_on-so}
use Rattle.htmd_chunks.proofs.RunsLemmas.{and_left, and_right, together-append, runs-together, runs-some, IsSomething}
use Rattle.htmd_chunks.proofs.RunsLemmas.{something}
use Rattle.htmd_chunks.proofs.RunsLemmas.{HaveItems, no_units, unit_of, have-append, RunsHave, no_runs, run_of}
use Rattle.htmd_chunks.proofs.RunsLemmas.{runs-have}

-- ---- kinds of inlines

-- a text, or an inline that no text becomes one with
pub data Kind : Inline → Type 0 where
  a_text : (s : List ℕ) → Kind (text s)
  other : (x : Inline) → ((w : Word) → behind_text (x ∷ w) ≡ x ∷ w)
      → ((w : Word) → first_text (x ∷ w) ≡ [])
      → ((s : List ℕ) → text_after x s ≡ x ∷ text s ∷ []) → Kind x

pub kind_of : (x : Inline) → Kind x
kind_of (text s) = a_text s
kind_of (code s) = other (code s) (λ w. refl) (λ w. refl) (λ t. refl)
kind_of (formatted f content) = other (formatted f content) (λ w. refl) (λ w. refl) (λ t. refl)
kind_of (link a t content) = other (link a t content) (λ w. refl) (λ w. refl) (λ t. refl)
kind_of (image a t d) = other (image a t d) (λ w. refl) (λ w. refl) (λ t. refl)
kind_of (anchor id) = other (anchor id) (λ w. refl) (λ w. refl) (λ t. refl)
kind_of line_break = other line_break (λ w. refl) (λ w. refl) (λ t. refl)
kind_of (task b) = other (task b) (λ w. refl) (λ w. refl) (λ t. refl)

-- ---- texts behind inlines

after-twice : (x : Inline) (s t : List ℕ) → Kind x → with_text_behind (text_after x s) t ≡ text_after x (s ++ t)
after-twice x s t (a_text r) = ap (λ l. text l ∷ []) (append_assoc r s t)
after-twice x s t (other y b f after) =
    ap (λ l. with_text_behind l t) (after s) ∙ sym (after (s ++ t))

after-some : (y : Inline) (s : List ℕ) → Kind y → IsSomething (text_after y s)
after-some y s (a_text r) = something (text (r ++ s)) []
after-some y s (other z b f after) =
    subst (λ (l : List Inline). IsSomething l) (sym (after s)) (something z (text s ∷ []))

behind-some : (ys : List Inline) (s : List ℕ) → IsSomething (with_text_behind ys s)
behind-some [] s = something (text s) []
behind-some (y ∷ []) s = after-some y s (kind_of y)
behind-some (y ∷ z ∷ ys) s = something y (with_text_behind (z ∷ ys) s)

behind-cons : (x : Inline) (ys : List Inline) (t : List ℕ) → IsSomething ys
    → with_text_behind (x ∷ ys) t ≡ x ∷ with_text_behind ys t
behind-cons x ys t (something y rest) = refl

pub text-twice : (xs : List Inline) (s t : List ℕ)
    → with_text_behind (with_text_behind xs s) t ≡ with_text_behind xs (s ++ t)
text-twice [] s t = refl
text-twice (x ∷ []) s t = after-twice x s t (kind_of x)
text-twice (x ∷ y ∷ xs) s t =
    behind-cons x (with_text_behind (y ∷ xs) s) t (behind-some (y ∷ xs) s)
    ∙ ap (λ l. x ∷ l) (text-twice (y ∷ xs) s t)

pub text-at_end : (a : List Inline) (y : Inline) (ys : List Inline) (t : List ℕ)
    → with_text_behind (a ++ (y ∷ ys)) t ≡ a ++ with_text_behind (y ∷ ys) t
text-at_end [] y ys t = refl
text-at_end (x ∷ []) y ys t = refl
text-at_end (x ∷ z ∷ zs) y ys t = ap (λ l. x ∷ l) (text-at_end (z ∷ zs) y ys t)

-- ---- words behind words

assoc-one : (xs : List Inline) (v : Word) (x : Inline) → Kind x
    → with_word xs (with_word (x ∷ []) v) ≡ with_word (with_word xs (x ∷ [])) v
assoc-one xs v x (a_text s) =
    let t = space ∷ first_text v in
    sym (ap (λ l. with_text_behind l t ++ behind_text v) (append-nil (with_text_behind xs (space ∷ s)))
    ∙ ap (λ l. l ++ behind_text v) (text-twice xs (space ∷ s) t))
assoc-one xs v x (other y behind first after) =
    let t = space ∷ first_text v in
    let a = with_text_behind xs (space ∷ []) in
    let rest : Word = text t ∷ behind_text v in
    ap (λ l. with_word xs (l ++ behind_text v)) (after t)
    ∙ ap (λ l. with_text_behind xs (space ∷ l) ++ behind_text (y ∷ rest)) (first rest)
    ∙ ap (λ l. a ++ l) (behind rest)
    ∙ sym (ap (λ l. with_text_behind (with_text_behind xs (space ∷ l) ++ behind_text (y ∷ [])) t
    ++ behind_text v)
    (first [])
    ∙ ap (λ l. with_text_behind (a ++ l) t ++ behind_text v) (behind [])
    ∙ ap (λ l. l ++ behind_text v) (text-at_end a y [] t)
    ∙ ap (λ l. (a ++ l) ++ behind_text v) (after t)
    ∙ append_assoc a (y ∷ text t ∷ []) (behind_text v))

assoc-more : (xs : List Inline) (v : Word) (y : Inline) (w : Word) (x : Inline) → Kind x
    → with_word xs (with_word (x ∷ y ∷ w) v) ≡ with_word (with_word xs (x ∷ y ∷ w)) v
assoc-more xs v y w x (a_text s) =
    let t = space ∷ first_text v in
    let a = with_text_behind xs (space ∷ s) in
    sym (ap (λ l. l ++ behind_text v) (text-at_end a y w t)
    ∙ append_assoc a (with_text_behind (y ∷ w) t) (behind_text v))
assoc-more xs v y w x (other z behind first after) =
    let t = space ∷ first_text v in
    let a = with_text_behind xs (space ∷ []) in
    let rest : Word = with_text_behind (y ∷ w) t ++ behind_text v in
    ap (λ l. with_text_behind xs (space ∷ l) ++ behind_text (z ∷ rest)) (first rest)
    ∙ ap (λ l. a ++ l) (behind rest)
    ∙ sym (ap (λ l. with_text_behind (with_text_behind xs (space ∷ l) ++ behind_text (z ∷ y ∷ w)) t
    ++ behind_text v)
    (first (y ∷ w))
    ∙ ap (λ l. with_text_behind (a ++ l) t ++ behind_text v) (behind (y ∷ w))
    ∙ ap (λ l. l ++ behind_text v) (text-at_end a z (y ∷ w) t)
    ∙ append_assoc a (z ∷ with_text_behind (y ∷ w) t) (behind_text v))

pub word-assoc : (xs : List Inline) (w v : Word) → with_word xs (with_word w v) ≡ with_word (with_word xs w) v
word-assoc xs [] v =
    let t = space ∷ first_text v in
    sym (ap (λ l. with_text_behind l t ++ behind_text v) (append-nil (with_text_behind xs (space ∷ [])))
    ∙ ap (λ l. l ++ behind_text v) (text-twice xs (space ∷ []) t))
word-assoc xs (x ∷ []) v = assoc-one xs v x (kind_of x)
word-assoc xs (x ∷ y ∷ w) v = assoc-more xs v y w x (kind_of x)

pub words-behind : (xs : List Inline) (w : Word) (ws : List Word)
    → with_word xs (further_words w ws) ≡ further_words (with_word xs w) ws
words-behind xs w [] = refl
words-behind xs w (v ∷ ws) =
    words-behind xs (with_word w v) ws ∙ ap (λ l. further_words l ws) (word-assoc xs w v)

pub further-append : (xs : List Inline) (vs ws : List Word)
    → further_words xs (vs ++ ws) ≡ further_words (further_words xs vs) ws
further-append xs [] ws = refl
further-append xs (v ∷ vs) ws = further-append (with_word xs v) vs ws

-- ---- inlines as lists

listed-of : (xs : List Inline) → listed_inlines (inlines_of xs) ≡ xs
listed-of [] = refl
listed-of (x ∷ xs) = ap (λ l. x ∷ l) (listed-of xs)

of-listed : (xs : Inlines) → inlines_of (listed_inlines xs) ≡ xs
of-listed no_inlines = refl
of-listed (inline x xs) = ap (λ l. inline x l) (of-listed xs)

-- ---- sentences

sentences-together : (sentence words : List Word) → together (sentences_from sentence words) ≡ sentence ++ words
sentences-together [] [] = refl
sentences-together (w ∷ ws) [] = refl
sentences-together sentence (word ∷ words) =
    elim (ends_sentence word)
    as (λ b. together (cond b ((sentence ++ word ∷ []) ∷ sentences_from [] words)
    (sentences_from (sentence ++ word ∷ []) words)) ≡ sentence ++ word ∷ words) [
      | true ↦
          ap (λ l. (sentence ++ word ∷ []) ++ l) (sentences-together [] words)
          ∙ append_assoc sentence (word ∷ []) words
      | false ↦ sentences-together (sentence ++ word ∷ []) words ∙ append_assoc sentence (word ∷ []) words
    ]

mutual
  sentences-have : (w : Word) (ws words : List Word) → HaveItems (sentences_from (w ∷ ws) words)
  sentences-have w ws [] = unit_of w ws [] no_units
  sentences-have w ws (word ∷ words) =
      elim (ends_sentence word)
      as (λ b. HaveItems (cond b ((w ∷ ws ++ word ∷ []) ∷ sentences_from [] words)
      (sentences_from (w ∷ ws ++ word ∷ []) words))) [
        | true ↦ unit_of w (ws ++ word ∷ []) (sentences_from [] words) (all-sentences-have words)
        | false ↦ sentences-have w (ws ++ word ∷ []) words
      ]

  all-sentences-have : (words : List Word) → HaveItems (sentences_from [] words)
  all-sentences-have [] = no_units
  all-sentences-have (v ∷ vs) =
      elim (ends_sentence v)
      as (λ b. HaveItems (cond b ((v ∷ []) ∷ sentences_from [] vs) (sentences_from (v ∷ []) vs))) [
        | true ↦ unit_of v [] (sentences_from [] vs) (all-sentences-have vs)
        | false ↦ sentences-have v [] vs
      ]

-- ---- units

alone-together : (ws : List Word) → together (map (λ word. word ∷ []) ws) ≡ ws
alone-together [] = refl
alone-together (w ∷ ws) = ap (λ l. w ∷ l) (alone-together ws)

alone-have : (ws : List Word) → HaveItems (map (λ word. word ∷ []) ws)
alone-have [] = no_units
alone-have (w ∷ ws) = unit_of w [] (map (λ word. word ∷ []) ws) (alone-have ws)

units-together : (c : Bounds) (m : Margin) (sentence : List Word) → together (units_of c m sentence) ≡ sentence
units-together c m sentence =
    elim (nat_le (words_cost c.options m sentence) c.most)
    as (λ b. together (cond b (sentence ∷ []) (map (λ word. word ∷ []) sentence)) ≡ sentence) [
      | true ↦ append-nil sentence
      | false ↦ alone-together sentence
    ]

all-units-together : (c : Bounds) (m : Margin) (sentences : List (List Word))
    → together (flat_map (units_of c m) sentences) ≡ together sentences
all-units-together c m [] = refl
all-units-together c m (s ∷ rest) =
    together-append (units_of c m s) (flat_map (units_of c m) rest)
    ∙ ap (λ l. l ++ together (flat_map (units_of c m) rest)) (units-together c m s)
    ∙ ap (λ l. s ++ l) (all-units-together c m rest)

all-units-have : (c : Bounds) (m : Margin) (sentences : List (List Word)) → HaveItems sentences
    → HaveItems (flat_map (units_of c m) sentences)
all-units-have c m sentences no_units = no_units
all-units-have c m sentences (unit_of w ws rest others) =
    have-append (units_of c m (w ∷ ws)) (flat_map (units_of c m) rest)
    (elim (nat_le (words_cost c.options m (w ∷ ws)) c.most)
    as (λ b. HaveItems (cond b ((w ∷ ws) ∷ []) (map (λ word. word ∷ []) (w ∷ ws)))) [
      | true ↦ unit_of w ws [] no_units
      | false ↦ alone-have (w ∷ ws)
    ])
    (all-units-have c m rest others)

pub word_units-together : (c : Bounds) (m : Margin) (content : Inlines)
    → together (word_units c m content) ≡ words_of content
word_units-together c m content =
    all-units-together c m (sentences_from [] (words_of content)) ∙ sentences-together [] (words_of content)

pub word_units-have : (c : Bounds) (m : Margin) (content : Inlines) → HaveItems (word_units c m content)
word_units-have c m content =
    all-units-have c m (sentences_from [] (words_of content)) (all-sentences-have (words_of content))

-- ---- parts

pub paragraphs-merged : (xs : List Inline) (yss : List (List Inline))
    → merged (paragraph (inlines_of xs))
    (map (block_part (joint.Paragraph ∷ [])) (map (λ ys. paragraph (inlines_of ys)) yss))
    ≡ paragraph (inlines_of (further_words xs yss))
paragraphs-merged xs [] = refl
paragraphs-merged xs (ys ∷ yss) =
    ap (λ l. merged (paragraph (inlines_of (with_word l (listed_inlines (inlines_of ys)))))
    (map (block_part (joint.Paragraph ∷ [])) (map (λ zs. paragraph (inlines_of zs)) yss))) (listed-of xs)
    ∙ ap (λ l. merged (paragraph (inlines_of (with_word xs l)))
    (map (block_part (joint.Paragraph ∷ [])) (map (λ zs. paragraph (inlines_of zs)) yss))) (listed-of ys)
    ∙ paragraphs-merged (with_word xs ys) yss

runs-glued : (xs : List Inline) (parts : List (List (List Word))) → RunsHave parts
    → further_words xs (map (λ units. put_together (together units)) parts)
    ≡ further_words xs (together (together parts))
runs-glued xs parts no_runs = refl
runs-glued xs parts (run_of w ws units rest have) =
    let run = w ∷ (ws ++ together units) in
    runs-glued (with_word xs (further_words w (ws ++ together units))) rest have
    ∙ ap (λ l. further_words l (together (together rest))) (words-behind xs w (ws ++ together units))
    ∙ sym (further-append xs run (together (together rest)))
    ∙ ap (further_words xs) (sym (together-append ((w ∷ ws) ∷ units) (together rest)))

paragraph-of : (content : Inlines) (words : List Word) (parts : List (List (List Word))) → RunsHave parts
    → IsSomething parts → together (together parts) ≡ words → put_together words ≡ listed_inlines content
    → AreParts (paragraph content) (leaf_parts joint.Paragraph (map (λ xs. paragraph (inlines_of xs))
    (map (λ units. put_together (together units)) parts)))
paragraph-of content words parts no_runs some is whole = elim some [ ]
paragraph-of content words parts (run_of w ws units rest have) some is whole =
    let first = further_words w (ws ++ together units) in
    let yss = map (λ us. put_together (together us)) rest in
    let bs = map (λ xs. paragraph (inlines_of xs)) yss in
    subst (λ (b : Block). AreParts b
    (block_part [] (paragraph (inlines_of first)) ∷ map (block_part (joint.Paragraph ∷ [])) bs))
    (paragraphs-merged first yss
    ∙ ap (λ l. paragraph (inlines_of l))
    (runs-glued first rest have
    ∙ sym (further-append w (ws ++ together units) (together (together rest)))
    ∙ ap put_together (sym (together-append ((w ∷ ws) ∷ units) (together rest)) ∙ is)
    ∙ whole)
    ∙ ap paragraph (of-listed content))
    (parts_of (block_part [] (paragraph (inlines_of first))) (map (block_part (joint.Paragraph ∷ [])) bs)
    (go_on-so joint.Paragraph bs))

-- ---- a text in parts

-- parts with a space between them
abbrev spaced : List (List ℕ) → List ℕ
spaced [] = []
spaced (p ∷ []) = p
spaced (p ∷ q ∷ parts) = p ++ space ∷ spaced (q ∷ parts)

pub cut-some : (before behind : Bool) (so_far s : List ℕ) → IsSomething (cut_text before behind so_far s)
cut-some before behind so_far [] = something so_far []
cut-some before behind so_far (b ∷ s) =
    elim ((b == space) && shows_before before so_far && shows_behind behind s)
    as (λ e. IsSomething (cond e (so_far ∷ cut_text false behind [] s)
    (cut_text before behind (so_far ++ b ∷ []) s))) [
      | true ↦ something so_far (cut_text false behind [] s)
      | false ↦ cut-some before behind (so_far ++ b ∷ []) s
    ]

spaced-more : (p : List ℕ) (parts : List (List ℕ)) → IsSomething parts
    → spaced (p ∷ parts) ≡ p ++ space ∷ spaced parts
spaced-more p parts (something q rest) = refl

cut-step : (b : ℕ) (so_far s : List ℕ) (x y : Bool) (apart on : List (List ℕ)) → IsSomething apart
    → spaced apart ≡ s → spaced on ≡ (so_far ++ b ∷ []) ++ s → (e : Bool) → (b == space) ≡ e
    → spaced (cond ((e && x) && y) (so_far ∷ apart) on) ≡ so_far ++ b ∷ s
cut-step b so_far s true true apart on some left right true e =
    spaced-more so_far apart some
    ∙ ap (λ l. so_far ++ space ∷ l) left ∙ ap (λ c. so_far ++ c ∷ s) (sym (eqb-true b space e))
cut-step b so_far s true false apart on some left right true e = right ∙ append_assoc so_far (b ∷ []) s
cut-step b so_far s false y apart on some left right true e = right ∙ append_assoc so_far (b ∷ []) s
cut-step b so_far s x y apart on some left right false e = right ∙ append_assoc so_far (b ∷ []) s

cut-spaced : (before behind : Bool) (so_far s : List ℕ) → spaced (cut_text before behind so_far s) ≡ so_far ++ s
cut-spaced before behind so_far [] = sym (append-nil so_far)
cut-spaced before behind so_far (b ∷ s) =
    cut-step b so_far s (shows_before before so_far) (shows_behind behind s) (cut_text false behind [] s)
    (cut_text before behind (so_far ++ b ∷ []) s) (cut-some false behind [] s) (cut-spaced false behind [] s)
    (cut-spaced before behind (so_far ++ b ∷ []) s) (b == space) refl

-- ---- texts apart

abbrev pub is_text : Inline → Bool
is_text (text s) = true
is_text _ = false

-- nothing follows, or another inline than a text
pub data NotText : Inlines → Type 0 where
  nothing_more : NotText no_inlines
  not_text : (x : Inline) (rest : Inlines) → is_text x ≡ false → NotText (inline x rest)

-- no text is empty, and none stands beside another
data AreApart : Inlines → Type 0 where
  apart_end : AreApart no_inlines
  apart_text : (b : ℕ) (s : List ℕ) (rest : Inlines) → NotText rest → AreApart rest
      → AreApart (inline (text (b ∷ s)) rest)
  apart_other : (x : Inline) (rest : Inlines) → is_text x ≡ false → AreApart rest → AreApart (inline x rest)

-- no text becomes one with the inline
pub record IsOther (x : Inline) : Type 0 where
  pub behind : (w : Word) → behind_text (x ∷ w) ≡ x ∷ w
  pub first : (w : Word) → first_text (x ∷ w) ≡ []
  pub after : (s : List ℕ) → text_after x s ≡ x ∷ text s ∷ []

pub text-kind : (x : Inline) → Kind x → is_text x ≡ false → IsOther x
text-kind x (a_text s) e = absurd (cc)
text-kind x (other y b f t) e = record { behind = b; first = f; after = t }

-- a text behind these is one of its own
abbrev Ends : List Inline → Type 0
Ends xs = (t : List ℕ) → with_text_behind xs t ≡ xs ++ text t ∷ []

ends-other : (xs : List Inline) (x : Inline) → is_text x ≡ false → Ends (xs ++ x ∷ [])
ends-other xs x e = λ t.
    text-at_end xs x [] t ∙ ap (λ l. xs ++ l) ((text-kind x (kind_of x) e).after t)
    ∙ sym (append_assoc xs (x ∷ []) (text t ∷ []))

data Ready : Inlines → List Inline → Type 0 where
  ready_end : (xs : List Inline) → Ready no_inlines xs
  ready_other : (x : Inline) (rest : Inlines) (xs : List Inline) → is_text x ≡ false → Ready (inline x rest) xs
  ready_text : (s : List ℕ) (rest : Inlines) (xs : List Inline) → Ends xs → Ready (inline (text s) rest) xs

ready-not_text : (rest : Inlines) (xs : List Inline) → NotText rest → Ready rest xs
ready-not_text rest xs nothing_more = ready_end xs
ready-not_text rest xs (not_text x others e) = ready_other x others xs e

ready-ends : (rest : Inlines) (xs : List Inline) → AreApart rest → Ends xs → Ready rest xs
ready-ends rest xs apart_end ends = ready_end xs
ready-ends rest xs (apart_text b s others not apart) ends = ready_text (b ∷ s) others xs ends
ready-ends rest xs (apart_other x others e apart) ends = ready_other x others xs e

-- ---- words of what follows a word

abbrev pub prefixed : Inline → List Word → List Word
prefixed x [] = []
prefixed x (w ∷ ws) = (x ∷ w) ∷ ws

with_text-cons : (x : Inline) (w : Word) (p : List ℕ) → with_text (x ∷ w) p ≡ x ∷ with_text w p
with_text-cons x w [] = refl
with_text-cons x w (b ∷ p) = refl

prefix-parts : (x : Inline) (w : Word) (rest : Inlines) (parts : List (List ℕ))
    → ((v : Word) → words_from true (x ∷ v) rest ≡ prefixed x (words_from true v rest))
    → ended (x ∷ w) parts ++ words_from true (begun (x ∷ w) parts) rest
    ≡ prefixed x (ended w parts ++ words_from true (begun w parts) rest)
prefix-parts x w rest [] all = all w
prefix-parts x w rest (p ∷ []) all =
    ap (λ v. words_from true v rest) (with_text-cons x w p) ∙ all (with_text w p)
prefix-parts x w rest (p ∷ q ∷ parts) all =
    ap (λ v. v ∷ (ended [] (q ∷ parts) ++ words_from true (begun [] (q ∷ parts)) rest)) (with_text-cons x w p)

pub prefix-first : (before : Bool) (x : Inline) (w : Word) (rest : Inlines)
    → words_from before (x ∷ w) rest ≡ prefixed x (words_from before w rest)
prefix-first before x w no_inlines = refl
prefix-first before x w (inline (text s) rest) =
    prefix-parts x w rest (cut_text before (begins_shown rest) [] s) (λ v. prefix-first true x v rest)
prefix-first before x w (inline (code s) rest) = prefix-first true x (w ++ code s ∷ []) rest
prefix-first before x w (inline (formatted f c) rest) = prefix-first true x (w ++ formatted f c ∷ []) rest
prefix-first before x w (inline (link a t c) rest) = prefix-first true x (w ++ link a t c ∷ []) rest
prefix-first before x w (inline (image a t d) rest) = prefix-first true x (w ++ image a t d ∷ []) rest
prefix-first before x w (inline (anchor id) rest) = prefix-first true x (w ++ anchor id ∷ []) rest
prefix-first before x w (inline line_break rest) = prefix-first false x (w ++ line_break ∷ []) rest
prefix-first before x w (inline (task t) rest) = prefix-first false x (w ++ task t ∷ []) rest

-- an inline that is no text goes on the word
pub words-other : (before : Bool) (w : Word) (x : Inline) (rest : Inlines) → is_text x ≡ false
    → (b : Bool) × (words_from before w (inline x rest) ≡ words_from b (w ++ x ∷ []) rest)
words-other before w (text s) rest e = absurd (cc)
words-other before w (code s) rest e = (true, refl)
words-other before w (formatted f c) rest e = (true, refl)
words-other before w (link a t c) rest e = (true, refl)
words-other before w (image a t d) rest e = (true, refl)
words-other before w (anchor id) rest e = (true, refl)
words-other before w line_break rest e = (false, refl)
words-other before w (task t) rest e = (false, refl)

-- ---- glued

-- words with spaces between them, the first right behind inlines
abbrev glued : List Inline → List Word → List Inline
glued xs [] = xs
glued xs (w ∷ ws) = further_words (xs ++ w) ws

put-glued : (ws : List Word) → put_together ws ≡ glued [] ws
put-glued [] = refl
put-glued (w ∷ ws) = refl

part-behind : (ys : List Inline) (p : List ℕ) → with_word ys (with_text [] p) ≡ with_text_behind ys (space ∷ p)
part-behind ys [] = append-nil (with_text_behind ys (space ∷ []))
part-behind ys (b ∷ p) = append-nil (with_text_behind ys (space ∷ b ∷ p))

behind-prefixed : (ys : List Inline) (q : List ℕ) (ws : List Word) → IsSomething ws
    → further_words ys (prefixed (text q) ws) ≡ glued (with_text_behind ys (space ∷ q)) ws
behind-prefixed ys q ws (something w rest) = refl

other-prefixed : (ys : List Inline) (x : Inline) (ws : List Word) → is_text x ≡ false → IsSomething ws
    → further_words ys (prefixed x ws) ≡ glued (with_text_behind ys (space ∷ [])) (prefixed x ws)
other-prefixed ys x ws e (something w rest) =
    let kind = text-kind x (kind_of x) e in
    ap (λ l. further_words (with_text_behind ys (space ∷ l) ++ behind_text (x ∷ w)) rest) (kind.first w)
    ∙ ap (λ l. further_words (with_text_behind ys (space ∷ []) ++ l) rest) (kind.behind w)

append-something : (vs ws : List Word) → IsSomething ws → IsSomething (vs ++ ws)
append-something [] ws some = some
append-something (v ∷ vs) ws some = something v (vs ++ ws)

pub words-some : (before : Bool) (w : Word) (rest : Inlines) → IsSomething (words_from before w rest)
words-some before w no_inlines = something w []
words-some before w (inline (text s) rest) =
    let parts = cut_text before (begins_shown rest) [] s in
    append-something (ended w parts) (words_from true (begun w parts) rest) (words-some true (begun w parts) rest)
words-some before w (inline (code s) rest) = words-some true (w ++ code s ∷ []) rest
words-some before w (inline (formatted f c) rest) = words-some true (w ++ formatted f c ∷ []) rest
words-some before w (inline (link a t c) rest) = words-some true (w ++ link a t c ∷ []) rest
words-some before w (inline (image a t d) rest) = words-some true (w ++ image a t d ∷ []) rest
words-some before w (inline (anchor id) rest) = words-some true (w ++ anchor id ∷ []) rest
words-some before w (inline line_break rest) = words-some false (w ++ line_break ∷ []) rest
words-some before w (inline (task t) rest) = words-some false (w ++ task t ∷ []) rest

-- what follows the last part of a text, behind words
last-part : (ys : List Inline) (q : List ℕ) (rest : Inlines) → NotText rest
    → ((xs : List Inline) → glued xs (words_from true [] rest) ≡ xs ++ listed_inlines rest)
    → further_words ys (words_from true (with_text [] q) rest)
    ≡ with_text_behind ys (space ∷ q) ++ listed_inlines rest
last-part ys (b ∷ q) rest not all =
    ap (further_words ys) (prefix-first true (text (b ∷ q)) [] rest)
    ∙ behind-prefixed ys (b ∷ q) (words_from true [] rest) (words-some true [] rest)
    ∙ all (with_text_behind ys (space ∷ b ∷ q))
last-part ys [] rest nothing_more all = refl
last-part ys [] rest (not_text x others e) all =
    let step = words-other true [] x others e in
    let same : words_from true [] (inline x others) ≡ prefixed x (words_from step.0 [] others) =
    step.1 ∙ prefix-first step.0 x [] others in
    ap (further_words ys) same
    ∙ other-prefixed ys x (words_from step.0 [] others) e (words-some step.0 [] others)
    ∙ ap (glued (with_text_behind ys (space ∷ []))) (sym same)
    ∙ all (with_text_behind ys (space ∷ []))

-- the parts of a text behind words
parts-glued : (ys : List Inline) (q : List ℕ) (parts : List (List ℕ)) (rest : Inlines) → NotText rest
    → ((xs : List Inline) → glued xs (words_from true [] rest) ≡ xs ++ listed_inlines rest)
    → further_words ys (ended [] (q ∷ parts) ++ words_from true (begun [] (q ∷ parts)) rest)
    ≡ with_text_behind ys (space ∷ spaced (q ∷ parts)) ++ listed_inlines rest
parts-glued ys q [] rest not all = last-part ys q rest not all
parts-glued ys q (r ∷ parts) rest not all =
    ap (λ l. further_words l (ended [] (r ∷ parts) ++ words_from true (begun [] (r ∷ parts)) rest))
    (part-behind ys q)
    ∙ parts-glued (with_text_behind ys (space ∷ q)) r parts rest not all
    ∙ ap (λ l. l ++ listed_inlines rest) (text-twice ys (space ∷ q) (space ∷ spaced (r ∷ parts)))

-- a text behind a part of one
behind-part : (zs : List Inline) (w : Word) (p t : List ℕ) → Ends (zs ++ w)
    → with_text_behind (zs ++ with_text w p) t ≡ (zs ++ w) ++ text (p ++ t) ∷ []
behind-part zs w [] t ends = ends t
behind-part zs w (b ∷ p) t ends =
    ap (λ l. with_text_behind l t) (sym (append_assoc zs w (text (b ∷ p) ∷ [])))
    ∙ text-at_end (zs ++ w) (text (b ∷ p)) [] t

filled-text : (w : Word) (rest : Inlines) (s : List ℕ) → IsSomething s
    → with_text w s ++ listed_inlines rest ≡ w ++ text s ∷ listed_inlines rest
filled-text w rest s (something b t) = append_assoc w (text (b ∷ t) ∷ []) (listed_inlines rest)

text-glued : (xs : List Inline) (w : Word) (s : List ℕ) (parts : List (List ℕ)) (rest : Inlines)
    → IsSomething parts → spaced parts ≡ s → IsSomething s → NotText rest → Ends (xs ++ w)
    → ((ys : List Inline) (v : Word) → glued ys (words_from true v rest) ≡ ys ++ (v ++ listed_inlines rest))
    → glued xs (ended w parts ++ words_from true (begun w parts) rest) ≡ xs ++ (w ++ text s ∷ listed_inlines rest)
text-glued xs w s parts rest (something p []) is some not ends all =
    all xs (with_text w p)
    ∙ ap (λ l. xs ++ l) (ap (λ t. with_text w t ++ listed_inlines rest) is ∙ filled-text w rest s some)
text-glued xs w s parts rest (something p (q ∷ more)) is some not ends all =
    parts-glued (xs ++ with_text w p) q more rest not (λ ys. all ys [])
    ∙ ap (λ l. l ++ listed_inlines rest) (behind-part xs w p (space ∷ spaced (q ∷ more)) ends)
    ∙ ap (λ t. ((xs ++ w) ++ text t ∷ []) ++ listed_inlines rest) is
    ∙ append_assoc (xs ++ w) (text s ∷ []) (listed_inlines rest)
    ∙ append_assoc xs w (text s ∷ listed_inlines rest)

ends-of : (zs : List Inline) (s : List ℕ) (rest : Inlines) → Ready (inline (text s) rest) zs → Ends zs
ends-of zs s rest (ready_text t others ys ends) = ends
ends-of zs s rest (ready_other y others ys e) = absurd (cc)

words-glued : (content : Inlines) → AreApart content → (before : Bool) (xs : List Inline) (w : Word)
    → Ready content (xs ++ w) → glued xs (words_from before w content) ≡ xs ++ (w ++ listed_inlines content)
words-glued content apart_end before xs w ready = ap (λ l. xs ++ l) (sym (append-nil w))
words-glued content (apart_other x rest e apart) before xs w ready =
    let step = words-other before w x rest e in
    let ends : Ends (xs ++ (w ++ x ∷ [])) =
    subst (λ (l : List Inline). Ends l) (append_assoc xs w (x ∷ [])) (ends-other (xs ++ w) x e) in
    ap (glued xs) step.1
    ∙ words-glued rest apart step.0 xs (w ++ x ∷ []) (ready-ends rest (xs ++ (w ++ x ∷ [])) apart ends)
    ∙ ap (λ l. xs ++ l) (append_assoc w (x ∷ []) (listed_inlines rest))
words-glued content (apart_text b s rest not apart) before xs w ready =
    let parts = cut_text before (begins_shown rest) [] (b ∷ s) in
    text-glued xs w (b ∷ s) parts rest (cut-some before (begins_shown rest) [] (b ∷ s))
    (cut-spaced before (begins_shown rest) [] (b ∷ s)) (something b s) not (ends-of (xs ++ w) (b ∷ s) rest ready)
    (λ ys v. words-glued rest apart true ys v (ready-not_text rest (ys ++ v) not))

-- ---- normal inlines are apart

pub not-text : (in_link : Bool) (around : List Format) (s : List ℕ) (rest : Inlines) → meets (text s) rest ≡ true
    → NotText rest
not-text in_link around s no_inlines e = nothing_more
not-text in_link around s (inline (text t) rest) e = absurd (cc)
not-text in_link around s (inline (code t) rest) e = not_text (code t) rest refl
not-text in_link around s (inline (formatted f c) rest) e = not_text (formatted f c) rest refl
not-text in_link around s (inline (link a t c) rest) e = not_text (link a t c) rest refl
not-text in_link around s (inline (image a t d) rest) e = not_text (image a t d) rest refl
not-text in_link around s (inline (anchor id) rest) e = not_text (anchor id) rest refl
not-text in_link around s (inline line_break rest) e = not_text line_break rest refl
not-text in_link around s (inline (task t) rest) e = not_text (task t) rest refl

not-empty : (rest : Inlines) → is_normal_text [] ≡ true → AreApart (inline (text []) rest)
not-empty rest e =
    let bad : false ≡ true =
    and_right (is_line []) false (and_left (is_line [] && false) (not (has_double_space [])) e) in
    absurd (cc)

apart-normal : (in_link : Bool) (around : List Format) (xs : Inlines) → are_normal in_link around xs ≡ true
    → AreApart xs
apart-normal in_link around no_inlines e = apart_end
apart-normal in_link around (inline (text []) rest) e =
    not-empty rest (and_left (is_normal in_link around (text [])) (meets (text []) rest)
    (and_left (is_normal in_link around (text []) && meets (text []) rest) (are_normal in_link around rest) e))
apart-normal in_link around (inline (text (b ∷ s)) rest) e =
    apart_text b s rest
    (not-text in_link around (b ∷ s) rest
    (and_right (is_normal in_link around (text (b ∷ s))) (meets (text (b ∷ s)) rest)
    (and_left (is_normal in_link around (text (b ∷ s)) && meets (text (b ∷ s)) rest)
    (are_normal in_link around rest) e)))
    (apart-normal in_link around rest
    (and_right (is_normal in_link around (text (b ∷ s)) && meets (text (b ∷ s)) rest)
    (are_normal in_link around rest) e))
apart-normal in_link around (inline (code s) rest) e =
    apart_other (code s) rest refl (apart-normal in_link around rest
    (and_right (is_normal in_link around (code s) && meets (code s) rest) (are_normal in_link around rest) e))
apart-normal in_link around (inline (formatted f c) rest) e =
    apart_other (formatted f c) rest refl (apart-normal in_link around rest
    (and_right (is_normal in_link around (formatted f c) && meets (formatted f c) rest)
    (are_normal in_link around rest) e))
apart-normal in_link around (inline (link a t c) rest) e =
    apart_other (link a t c) rest refl (apart-normal in_link around rest
    (and_right (is_normal in_link around (link a t c) && meets (link a t c) rest)
    (are_normal in_link around rest) e))
apart-normal in_link around (inline (image a t d) rest) e =
    apart_other (image a t d) rest refl (apart-normal in_link around rest
    (and_right (is_normal in_link around (image a t d) && meets (image a t d) rest)
    (are_normal in_link around rest) e))
apart-normal in_link around (inline (anchor id) rest) e =
    apart_other (anchor id) rest refl (apart-normal in_link around rest
    (and_right (is_normal in_link around (anchor id) && meets (anchor id) rest)
    (are_normal in_link around rest) e))
apart-normal in_link around (inline line_break rest) e =
    apart_other line_break rest refl (apart-normal in_link around rest
    (and_right (is_normal in_link around line_break && meets line_break rest)
    (are_normal in_link around rest) e))
apart-normal in_link around (inline (task t) rest) e =
    apart_other (task t) rest refl (apart-normal in_link around rest
    (and_right (is_normal in_link around (task t) && meets (task t) rest)
    (are_normal in_link around rest) e))

apart-line : (xs : Inlines) → is_normal_line xs ≡ true → AreApart xs
apart-line xs e = apart-normal false [] xs (and_right (are_whole xs) (are_normal false [] xs) e)

apart-item : (xs : Inlines) → is_normal_item xs ≡ true → AreApart xs
apart-item no_inlines e = apart_end
apart-item (inline (task t) rest) e =
    apart_other (task t) rest refl (apart-normal false [] rest (and_right
    (first_passes begins_with_space rest && not (last_passes ends_with_space rest) && not (last_passes is_break rest))
    (are_normal false [] rest) e))
apart-item (inline (text s) rest) e = apart-line (inline (text s) rest) e
apart-item (inline (code s) rest) e = apart-line (inline (code s) rest) e
apart-item (inline (formatted f c) rest) e = apart-line (inline (formatted f c) rest) e
apart-item (inline (link a t c) rest) e = apart-line (inline (link a t c) rest) e
apart-item (inline (image a t d) rest) e = apart-line (inline (image a t d) rest) e
apart-item (inline (anchor id) rest) e = apart-line (inline (anchor id) rest) e
apart-item (inline line_break rest) e = apart-line (inline line_break rest) e

apart-either : (in_item : Bool) (xs : Inlines) → (cond in_item (is_normal_item xs) (is_normal_line xs)) ≡ true
    → AreApart xs
apart-either true xs e = apart-item xs e
apart-either false xs e = apart-line xs e

apart-paragraph : (in_item : Bool) (xs : Inlines) → is_normal_paragraph in_item xs ≡ true → AreApart xs
apart-paragraph in_item xs e =
    let inner = cond in_item (is_normal_item xs) (is_normal_line xs) in
    apart-either in_item xs (and_right (not (has_none xs)) inner
    (and_left (not (has_none xs) && inner) (are_anchors xs || anchors_stand_well xs) e))

-- ---- all words

pub words-whole : (content : Inlines) (in_item : Bool) → is_normal_paragraph in_item content ≡ true
    → put_together (words_of content) ≡ listed_inlines content
words-whole content in_item normal =
    let apart = apart-paragraph in_item content normal in
    let alone : Ends [] = λ t. refl in
    put-glued (words_of content) ∙ words-glued content apart false [] [] (ready-ends content [] apart alone)

pub units-runs : (taken : List (List Word) → ℕ) (most first : ℕ) (units : List (List Word)) → HaveItems units
    → IsSomething units → RunsHave (runs taken most first units)
units-runs taken most first units no_units some = elim some [ ]
units-runs taken most first units (unit_of w ws rest have) some = runs-have taken most first w ws [] rest have

pub units-some : (words : List Word) (units : List (List Word)) → IsSomething words → together units ≡ words
    → IsSomething units
units-some words [] (something w ws) is = absurd (cc)
units-some words (u ∷ units) some is = something u units

pub paragraph-parts : (c : Bounds) (m : Margin) (first : ℕ) (in_item : Bool) (content : Inlines)
    → is_normal_paragraph in_item content ≡ true
    → AreParts (paragraph content)
    (leaf_parts joint.Paragraph (map (λ xs. paragraph (inlines_of xs)) (paragraph_parts c m first content)))
paragraph-parts c m first in_item content normal =
    let words = words_of content in
    let units = word_units c m content in
    let have = word_units-have c m content in
    paragraph-of content words (runs (units_cost c.options m) c.most first units)
    (units-runs (units_cost c.options m) c.most first units have
    (units-some words units (words-some false [] content) (word_units-together c m content)))
    (runs-some (units_cost c.options m) c.most first units)
    (ap together (runs-together (units_cost c.options m) c.most first units) ∙ word_units-together c m content)
    (words-whole content in_item normal)
