-- What paragraphs are cut into fits, or is one word.
use Rattle.std.proofs.Common.{◌≡◌, ℕ, ◌≤◌, Bool, true, false, cond, List, [], ◌∷◌, ◌++◌, map, refl, sym, ap}
use Rattle.std.proofs.Common.{subst, ◌⊎◌, inl, inr, arith, leb-true, append-nil, length, take}
use Rattle.std.specs.Prelude.{nat_le}
use Rattle.std.specs.List.{flat_map}
use Rattle.htmd_document.specs.Documents.{Inline, Inlines, inlines_of, Block, paragraph}
use Rattle.htmd_document.specs.NormalDocuments.{is_normal_block}
use Rattle.htmd_markdown.specs.declared.line_break.BrStyle.{BrStyle}
use Rattle.htmd_commonmark.specs.declared.options.DocumentOptions.{DocumentOptions}
use Rattle.htmd_chunks.specs.Cuts.{cut, leaf_parts}
use Rattle.htmd_chunks.specs.Least.{least}
use Rattle.htmd_chunks.specs.Measures.{block_cost}
use Rattle.htmd_chunks.specs.Pieces.{piece_options}
use Rattle.htmd_chunks.specs.Runs.{is_none, runs, together}
use Rattle.htmd_chunks.specs.ShortPieces.{is_least}
use Rattle.htmd_chunks.specs.Words.{Word, words_of, put_together, ends_sentence, sentences_from, words_cost, units_of}
use Rattle.htmd_chunks.specs.Words.{word_units, units_cost}
use Rattle.htmd_chunks.specs.declared.joint.Joint.TheVariants as joint
use Rattle.htmd_chunks.specs.declared.size.Margin.{Margin}
use Rattle.htmd_chunks.proofs.JoinedWordsLemmas.{WordOk, together-cost}
use Rattle.htmd_chunks.proofs.RunsLemmas.{IsSomething, something}
use Rattle.htmd_chunks.proofs.ShortCodeLemmas.{maps-twice}
use Rattle.htmd_chunks.proofs.ShortPartsLemmas.{bounds, BlockFit, FirstBlock, CutWell}
use Rattle.htmd_chunks.proofs.ShortRunsLemmas.{Each, of_none, of_more, each-behind, runs-well, leaf-well}
use Rattle.htmd_chunks.proofs.WordPartsLemmas.{WordDone, paragraph-done}
use Rattle.htmd_chunks.proofs.WordsLemmas.{word_units-together, units-some, words-some}

-- words that stay together: they fit, or are one
record UnitOk (options : DocumentOptions) (m : Margin) (most : ℕ) (unit : List Word) : Type 0 where
  each : Each (WordDone options.br_style) unit
  some : is_none unit ≡ false
  short : (words_cost (piece_options options) m unit ≤ most) ⊎ (length unit ≡ 1)

record SentenceOk (style : BrStyle) (sentence : List Word) : Type 0 where
  each : Each (WordDone style) sentence
  some : is_none sentence ≡ false

none-behind : (xs : List Word) (w : Word) → is_none (xs ++ w ∷ []) ≡ false
none-behind [] w = refl
none-behind (x ∷ xs) w = refl

sentences-each : (style : BrStyle) (sentence words : List Word) → Each (WordDone style) sentence
    → Each (WordDone style) words → Each (SentenceOk style) (sentences_from sentence words)
sentences-each style [] words begun of_none = of_none
sentences-each style (w ∷ ws) words begun of_none =
    of_more (w ∷ ws) [] (record { each = begun; some = refl }) of_none
sentences-each style sentence words begun (of_more word rest done others) =
    let next = sentence ++ word ∷ [] in
    let more = each-behind (WordDone style) sentence (word ∷ []) begun (of_more word [] done of_none) in
    elim (ends_sentence word)
    as (λ e. Each (SentenceOk style) (cond e (next ∷ sentences_from [] rest) (sentences_from next rest))) [
      | true ↦
          of_more next (sentences_from [] rest) (record { each = more; some = none-behind sentence word })
          (sentences-each style [] rest of_none others)
      | false ↦ sentences-each style next rest more others
    ]

words-apart : (options : DocumentOptions) (m : Margin) (most : ℕ) (words : List Word)
    → Each (WordDone options.br_style) words → Each (UnitOk options m most) (map (λ word. word ∷ []) words)
words-apart options m most words of_none = of_none
words-apart options m most words (of_more w rest done others) =
    of_more (w ∷ []) (map (λ word. word ∷ []) rest)
    (record { each = of_more w [] done of_none; some = refl; short = inr refl })
    (words-apart options m most rest others)

units-each : (options : DocumentOptions) (m : Margin) (most : ℕ) (sentences : List (List Word))
    → Each (SentenceOk options.br_style) sentences
    → Each (UnitOk options m most) (flat_map (units_of (bounds options most) m) sentences)
units-each options m most sentences of_none = of_none
units-each options m most sentences (of_more sentence rest ok others) =
    each-behind (UnitOk options m most) (units_of (bounds options most) m sentence)
    (flat_map (units_of (bounds options most) m) rest)
    (elim (nat_le (words_cost (piece_options options) m sentence) most)
    as (λ e. nat_le (words_cost (piece_options options) m sentence) most ≡ e
    → Each (UnitOk options m most) (cond e (sentence ∷ []) (map (λ word. word ∷ []) sentence))) [
      | true ↦ λ fit.
          of_more sentence [] (record {
            each = ok.each;
            some = ok.some;
            short = inl (leb-true (words_cost (piece_options options) m sentence) most fit);
          }) of_none
      | false ↦ λ over. words-apart options m most sentence ok.each
    ] refl)
    (units-each options m most rest others)

run-words : (options : DocumentOptions) (m : Margin) (most : ℕ) (run : List (List Word))
    → Each (UnitOk options m most) run
    → Each (WordDone options.br_style) (together run)
run-words options m most run of_none = of_none
run-words options m most run (of_more unit rest ok others) =
    each-behind (WordDone options.br_style) unit (together rest) ok.each (run-words options m most rest others)

words-ok : (style : BrStyle) (words : List Word) → Each (WordDone style) words → Each (WordOk style) words
words-ok style words of_none = of_none
words-ok style words (of_more w rest done others) = of_more w rest done.ok (words-ok style rest others)

run-cost : (options : DocumentOptions) (m : Margin) (most : ℕ) (unit : List Word) (run : List (List Word))
    → Each (UnitOk options m most) (unit ∷ run)
    → block_cost (piece_options options) m (paragraph (inlines_of (put_together (together (unit ∷ run)))))
    ≤ units_cost (piece_options options) m (unit ∷ run)
run-cost options m most [] run (of_more u us ok others) = absurd (let none = ok.some in cc)
run-cost options m most (w ∷ ws) run each =
    together-cost options m w (ws ++ together run)
    (words-ok options.br_style (w ∷ (ws ++ together run)) (run-words options m most ((w ∷ ws) ∷ run) each))

one-unit : (options : DocumentOptions) (m : Margin) (most : ℕ) (unit : List Word) → UnitOk options m most unit
    → (units_cost (piece_options options) m (unit ∷ []) ≤ most)
    ⊎ (is_least (paragraph (inlines_of (put_together (together (unit ∷ []))))) ≡ true)
one-unit options m most unit ok =
    elim ok.short
    as (λ s. (units_cost (piece_options options) m (unit ∷ []) ≤ most)
    ⊎ (is_least (paragraph (inlines_of (put_together (together (unit ∷ []))))) ≡ true)) [
      | inl fit ↦ inl (omega (arith, ap (words_cost (piece_options options) m) (append-nil unit), fit))
      | inr one ↦ inr (single unit ok.each one)
    ]
  where
    single : (unit : List Word) → Each (WordDone options.br_style) unit → length unit ≡ 1
        → is_least (paragraph (inlines_of (put_together (together (unit ∷ []))))) ≡ true
    single unit of_none is = absurd (omega (arith, is))
    single unit (of_more w [] done others) is = ap (λ ws. nat_le (length ws) 1) done.alone
    single unit (of_more w (v ∷ rest) done others) is = absurd (omega (arith, is))

pub paragraph-well : (options : DocumentOptions) (m : Margin) (most first : ℕ) (in_item : Bool) (content : Inlines)
    → is_normal_block in_item (paragraph content) ≡ true
    → CutWell options m most first (least (bounds options most) m (paragraph content))
    (cut (bounds options most) m first (paragraph content))
paragraph-well options m most first in_item content normal =
    let o = piece_options options in
    let c = bounds options most in
    let style = options.br_style in
    let words = words_of content in
    let units = word_units c m content in
    let taken = units_cost o m in
    let each = units-each options m most (sentences_from [] words)
    (sentences-each style [] words of_none (paragraph-done style in_item content normal)) in
    let some = units-some words units (words-some false [] content) (word_units-together c m content) in
    let rs = runs taken most first units in
    let put : List (List Word) → List Inline = (λ us. put_together (together us)) in
    let f : List (List Word) → Block = (λ us. paragraph (inlines_of (put us))) in
    subst (λ bs. CutWell options m most first (taken (take 1 units)) (leaf_parts joint.Paragraph bs))
    (sym (maps-twice (λ xs. paragraph (inlines_of xs)) put rs))
    (leaf-well f joint.Paragraph (FirstBlock options m most first (taken (take 1 units))) (BlockFit options m most) rs
    (runs-well options m most first taken (UnitOk options m most) f
    (λ unit run each_here. run-cost options m most unit run each_here)
    (λ unit ok. one-unit options m most unit ok)
    units each (λ is. absurd (no-units units some is))))
  where
    no-units : (us : List (List Word)) → IsSomething us → us ≡ [] → ⊥
    no-units us (something u rest) is = cc
