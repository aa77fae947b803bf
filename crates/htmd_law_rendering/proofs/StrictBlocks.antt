-- The blocks of what is read stand where the strict grammar allows them, and so their HTML is read.
use Rattle.std.proofs.Common.{◌≡◌, ℕ, Bool, true, false, ◌&&◌, List, [], ◌∷◌, ◌++◌, drop, refl}
use Rattle.std.proofs.Common.{sym, subst, codes, arith, Option, Some, None}
use Rattle.std.specs.Prelude.{⊤, ◌==◌, nat_le}
use Rattle.std.proofs.lemmas.Bool.{and_parts}
use Rattle.htmd_lexical.proofs.Cases.{test}
use Rattle.htmd_lexical.specs.AttributePairs.{AttributePair}
use Rattle.htmd_lexical.specs.CharacterClasses.{lacks}
use Rattle.htmd_document.specs.FlatDocuments.{lines_of}
use Rattle.htmd_document.specs.declared.document.Alignment.{Alignment}
use Rattle.htmd_values.specs.Serialisation.{is_void}
use Rattle.htmd_grammar.specs.Grammar.{reads}
use Rattle.htmd_grammar.specs.HtmlDocuments.{above_body, below_body}
use Rattle.htmd_grammar.specs.Nesting.{Context, parent_name, is_allowed}
use Rattle.htmd_grammar.specs.RawContent.{content_of, holds_text_alone}
use Rattle.htmd_grammar.specs.Rules.{project}
use Rattle.htmd_grammar.proofs.Uniqueness.{unique_in}
use Rattle.htmd_commonmark_reading.specs.Markup.{Inlines, Block, paragraph, heading, code_block, quote}
use Rattle.htmd_commonmark_reading.specs.Markup.{thematic_break, list, table, html_block, Blocks, no_blocks, block}
use Rattle.htmd_commonmark_reading.specs.Markup.{Items, no_items, item}
use Rattle.htmd_commonmark_reading.specs.Rendering.{first_alignment, is_bare, html_of}
use Rattle.htmd_law_rendering.specs.RenderedTrees.{element_before, line_end, inlines_trees, pairs_of_alignment}
use Rattle.htmd_law_rendering.specs.RenderedTrees.{cells_trees, lines_before, row_trees, rows_trees, body_trees}
use Rattle.htmd_law_rendering.specs.RenderedTrees.{table_trees, heading_name, pairs_of_language, code_trees}
use Rattle.htmd_law_rendering.specs.RenderedTrees.{code_block_tree, list_name, pairs_of_start, begun_line}
use Rattle.htmd_law_rendering.specs.RenderedTrees.{block_trees}
use Rattle.htmd_law_rendering.specs.RenderedTrees.{blocks_trees, items_trees, spelled_of, trees_of, Open, with_html}
use Rattle.htmd_law_rendering.specs.RenderedTrees.{blocks_open}
use Rattle.htmd_law_rendering.specs.SpelledTrees.{SpelledForest, none, all_spelled}
use Rattle.htmd_law_rendering.specs.PlainReadings.{are_paired, cells_are_paired, rows_are_paired, block_is_paired}
use Rattle.htmd_law_rendering.specs.PlainReadings.{names_with_html, blocks_unopened, each_is_paired}
use Rattle.htmd_law_rendering.specs.PlainReadings.{blocks_are_paired}
use Rattle.htmd_law_rendering.specs.PlainReadings.{items_are_paired, are_strict, cells_are_strict}
use Rattle.htmd_law_rendering.specs.PlainReadings.{rows_are_strict, block_is_strict, blocks_are_strict, takes_blocks}
use Rattle.htmd_law_rendering.specs.PlainReadings.{below_open, lines_are_strict, stands_right}
use Rattle.htmd_law_rendering.specs.PlainReadings.{items_are_strict, IsPlain}
use Rattle.htmd_law_rendering.specs.RenderingLaws.{RenderedIsRead}
use Rattle.htmd_law_rendering.proofs.RawLemmas.{names_of}
use Rattle.htmd_law_rendering.proofs.RenderedLemmas.{rendered, pairs-end}
use Rattle.htmd_law_rendering.proofs.FlowLemmas.{lines-fit as tags-fit}
use Rattle.htmd_law_rendering.proofs.FlowLemmas.{AreFlow, Around, around-of, around-all, takes-from, IsFit}
use Rattle.htmd_law_rendering.proofs.TagLemmas.{IsTreeName}
use Rattle.htmd_law_rendering.proofs.FittingLemmas.{FitPairs, Fits, trees-read}
use Rattle.htmd_law_rendering.proofs.PlaceLemmas.{TakesInlines, TakesBlocks, HasNoLink, takes, not-alone}
use Rattle.htmd_law_rendering.proofs.PlaceLemmas.{holds_inlines}
use Rattle.htmd_law_rendering.proofs.PlaceLemmas.{by_level, code-allowed, p-allowed, pre-allowed, hr-allowed}
use Rattle.htmd_law_rendering.proofs.PlaceLemmas.{blockquote-allowed, table-allowed, list-allowed, heading-allowed}
use Rattle.htmd_law_rendering.proofs.PlaceLemmas.{li-allowed, thead-allowed, tbody-allowed, head_row-allowed}
use Rattle.htmd_law_rendering.proofs.PlaceLemmas.{body_row-allowed, th-allowed, td-allowed, quote-takes, li-takes}
use Rattle.htmd_law_rendering.proofs.StrictLemmas.{alignment-pairs, text-fits, line-fits, inline-text, inlines-fit}
use Rattle.htmd_law_rendering.proofs.StrictLemmas.{closed-fits, alone-fit}

module _ (z : Bool) where
  -- an element that ends a line
  element-fits : (n : List ℕ) (attributes : List AttributePair) (ks rest : SpelledForest) (c : Context)
      → is_allowed z c n ≡ true → is_void n ≡ false → IsTreeName n → FitPairs attributes
      → content_of n (all_spelled ks) ≡ all_spelled ks → holds_text_alone z (parent_name c) ≡ false
      → Fits z (n ∷ c) ks → Fits z c rest → Fits z c (element_before n attributes ks (line_end rest))
  element-fits n attributes ks rest c a v t p k o h f = ((a, t, p, rw v (k, h)), tt, line-fits z rest c o f)

  -- and whose content stands in lines of its own
  lines-fit : (n : List ℕ) (attributes : List AttributePair) (content rest : SpelledForest) (c : Context)
      → is_allowed z c n ≡ true → is_void n ≡ false → IsTreeName n → FitPairs attributes
      → content_of n (all_spelled (line_end content)) ≡ all_spelled (line_end content)
      → holds_text_alone z n ≡ false → holds_text_alone z (parent_name c) ≡ false
      → Fits z (n ∷ c) content → Fits z c rest → Fits z c (lines_before n attributes content rest)
  lines-fit n attributes content rest c a v t p k i o h f =
      element-fits n attributes (line_end content) rest c a v t p k o (line-fits z content (n ∷ c) i h) f

  -- ---- tables

  module _ (n : List ℕ) (allowed : (c : Context) → is_allowed z (codes "tr" ∷ c) n ≡ true)
      (void : is_void n ≡ false) (named : IsTreeName n) (whole : (s : List ℕ) → content_of n s ≡ s)
      (holds : holds_inlines n ≡ true) (no_link : (c : Context) → HasNoLink c → HasNoLink (n ∷ c)) where
    cells-fit : (alignments : List Alignment) (cs : List Inlines) (d : Context) → cells_are_paired cs ≡ true
        → cells_are_strict cs ≡ true → HasNoLink d → Fits z (codes "tr" ∷ d) (cells_trees n alignments cs)
    cells-fit alignments [] d h s o = tt
    cells-fit alignments (x ∷ cs) d h s o =
        let p = and_parts (are_paired x) (cells_are_paired cs) h in
        let q = and_parts (are_strict false x) (cells_are_strict cs) s in
        element-fits n (pairs_of_alignment (first_alignment alignments)) (inlines_trees x none)
        (cells_trees n (drop 1 alignments) cs) (codes "tr" ∷ d) (allowed d) void named
        (alignment-pairs (first_alignment alignments)) (whole (all_spelled (inlines_trees x none)))
        (not-alone z (codes "tr") refl)
        (alone-fit z x (n ∷ codes "tr" ∷ d) p.0 q.0 (takes z n (codes "tr" ∷ d) holds)
        (no_link (codes "tr" ∷ d) o))
        (cells-fit (drop 1 alignments) cs d p.1 q.1 o)

    row-fit : (alignments : List Alignment) (cs : List Inlines) (rest : SpelledForest) (d : Context)
        → is_allowed z d (codes "tr") ≡ true → holds_text_alone z (parent_name d) ≡ false
        → cells_are_paired cs ≡ true → cells_are_strict cs ≡ true → HasNoLink d → Fits z d rest
        → Fits z d (row_trees n alignments cs rest)
    unfolding is_void
    row-fit alignments cs rest d a i h s o f =
        lines-fit (codes "tr") [] (cells_trees n alignments cs) rest d a refl (refl, refl) (tt, refl) refl
        (not-alone z (codes "tr") refl) i (cells-fit alignments cs d h s o) f

  body_row-fit : (alignments : List Alignment) (cs : List Inlines) (rest : SpelledForest) (d : Context)
      → is_allowed z d (codes "tr") ≡ true → holds_text_alone z (parent_name d) ≡ false
      → cells_are_paired cs ≡ true → cells_are_strict cs ≡ true → HasNoLink d → Fits z d rest
      → Fits z d (row_trees (codes "td") alignments cs rest)
  unfolding is_void
  body_row-fit =
      row-fit (codes "td") (td-allowed z) refl (refl, refl) (λ s. refl) refl (λ c h. h)

  head_row-fit : (alignments : List Alignment) (cs : List Inlines) (rest : SpelledForest) (d : Context)
      → is_allowed z d (codes "tr") ≡ true → holds_text_alone z (parent_name d) ≡ false
      → cells_are_paired cs ≡ true → cells_are_strict cs ≡ true → HasNoLink d → Fits z d rest
      → Fits z d (row_trees (codes "th") alignments cs rest)
  unfolding is_void
  head_row-fit =
      row-fit (codes "th") (th-allowed z) refl (refl, refl) (λ s. refl) refl (λ c h. h)

  rows-fit : (alignments : List Alignment) (rs : List (List Inlines)) (c : Context) → rows_are_paired rs ≡ true
      → rows_are_strict rs ≡ true → HasNoLink c → Fits z (codes "tbody" ∷ c) (rows_trees alignments rs)
  rows-fit alignments [] c h s o = tt
  rows-fit alignments (r ∷ rs) c h s o =
      let p = and_parts (cells_are_paired r) (rows_are_paired rs) h in
      let q = and_parts (cells_are_strict r) (rows_are_strict rs) s in
      body_row-fit alignments r (rows_trees alignments rs) (codes "tbody" ∷ c) (body_row-allowed z c)
      (not-alone z (codes "tbody") refl) p.0 q.0 o (rows-fit alignments rs c p.1 q.1 o)

  body-fit : (alignments : List Alignment) (rs : List (List Inlines)) (c : Context) → rows_are_paired rs ≡ true
      → rows_are_strict rs ≡ true → HasNoLink c → Fits z (codes "table" ∷ c) (body_trees alignments rs)
  unfolding is_void
  body-fit alignments [] c h s o = tt
  body-fit alignments (r ∷ rs) c h s o =
      lines-fit (codes "tbody") [] (rows_trees alignments (r ∷ rs)) none (codes "table" ∷ c)
      (tbody-allowed z c) refl (refl, refl) (tt, refl) refl (not-alone z (codes "tbody") refl)
      (not-alone z (codes "table") refl) (rows-fit alignments (r ∷ rs) (codes "table" ∷ c) h s o) tt

  table-fits : (alignments : List Alignment) (header : List Inlines) (rs : List (List Inlines))
      (rest : SpelledForest) (c : Context) → cells_are_paired header ≡ true → rows_are_paired rs ≡ true
      → cells_are_strict header ≡ true → rows_are_strict rs ≡ true → TakesBlocks z c → Fits z c rest
      → Fits z c (table_trees alignments header rs rest)
  unfolding is_void
  table-fits alignments header rs rest c h k s e b f =
      let row = row_trees (codes "th") alignments header none in
      let i = b.takes_inlines in
      lines-fit (codes "table") [] (lines_before (codes "thead") [] row (body_trees alignments rs)) rest c
      (table-allowed z c b) refl (refl, refl) (tt, refl) refl (not-alone z (codes "table") refl) i.not_alone
      (lines-fit (codes "thead") [] row (body_trees alignments rs) (codes "table" ∷ c) (thead-allowed z c) refl
      (refl, refl) (tt, refl) refl (not-alone z (codes "thead") refl) (not-alone z (codes "table") refl)
      (head_row-fit alignments header none (codes "thead" ∷ codes "table" ∷ c)
      (head_row-allowed z (codes "table" ∷ c)) (not-alone z (codes "thead") refl) h s b.no_link tt)
      (body-fit alignments rs c k e b.no_link))
      f

  -- ---- leaves

  language-pairs : (language : Option (List ℕ)) → FitPairs (pairs_of_language language)
  language-pairs None = (tt, refl)
  language-pairs (Some s) = ((refl, refl, refl, tt), refl)

  code-text : (s : List ℕ) (c : Context) → TakesInlines z c → Fits z c (code_trees s)
  code-text [] c t = tt
  code-text (b ∷ s) c t =
      text-fits z (b ∷ s) (line_end none) c (inline-text z (b ∷ s) c t) (line-fits z none c t.not_alone tt)

  code_block-fits : (language : Option (List ℕ)) (s : List ℕ) (rest : SpelledForest) (c : Context)
      → TakesBlocks z c → Fits z c rest
      → Fits z c (element_before (codes "pre") [] (code_block_tree language s) (line_end rest))
  unfolding is_void
  code_block-fits language s rest c b f =
      let inner = takes z (codes "pre") c refl in
      element-fits (codes "pre") [] (code_block_tree language s) rest c (pre-allowed z c b) refl (refl, refl)
      (tt, refl) refl (b.takes_inlines).not_alone (
        (
          code-allowed z (codes "pre" ∷ c) inner,
          (refl, refl),
          language-pairs language,
          (
            refl,
            code-text s (codes "code" ∷ codes "pre" ∷ c) (takes z (codes "code") (codes "pre" ∷ c) refl),
          ),
        ),
        tt,
        tt,
      ) f

  -- what holds of the names of headings
  record IsHeading (n : List ℕ) : Type 0 where
    not_void : is_void n ≡ false
    named : IsTreeName n
    whole : (s : List ℕ) → content_of n s ≡ s
    holds : holds_inlines n ≡ true
    no_link : (c : Context) → HasNoLink c → HasNoLink (n ∷ c)

  heading-facts : (level : ℕ) → nat_le 1 level ≡ true → nat_le level 6 ≡ true
      → IsHeading (heading_name level)
  unfolding is_void
  heading-facts level l m =
      by_level IsHeading level l m
      (record { not_void = refl; named = (refl, refl); whole = λ s. refl; holds = refl; no_link = λ c h. h })
      (record { not_void = refl; named = (refl, refl); whole = λ s. refl; holds = refl; no_link = λ c h. h })
      (record { not_void = refl; named = (refl, refl); whole = λ s. refl; holds = refl; no_link = λ c h. h })
      (record { not_void = refl; named = (refl, refl); whole = λ s. refl; holds = refl; no_link = λ c h. h })
      (record { not_void = refl; named = (refl, refl); whole = λ s. refl; holds = refl; no_link = λ c h. h })
      (record { not_void = refl; named = (refl, refl); whole = λ s. refl; holds = refl; no_link = λ c h. h })

  heading-fits : (level : ℕ) (xs : Inlines) (rest : SpelledForest) (c : Context) → are_paired xs ≡ true
      → nat_le 1 level ≡ true → nat_le level 6 ≡ true → are_strict false xs ≡ true → TakesBlocks z c
      → Fits z c rest → Fits z c (element_before (heading_name level) [] (inlines_trees xs none) (line_end rest))
  heading-fits level xs rest c h k m s b f =
      let n = heading_name level in
      let i = heading-facts level k m in
      element-fits n [] (inlines_trees xs none) rest c (heading-allowed z c b level k m) i.not_void i.named (tt, refl)
      (i.whole (all_spelled (inlines_trees xs none))) (b.takes_inlines).not_alone
      (alone-fit z xs (n ∷ c) h s (takes z n c i.holds) (i.no_link c b.no_link)) f

  -- ---- blocks

  start-pairs : (start : Option ℕ) → FitPairs (pairs_of_start start)
  start-pairs None = (tt, refl)
  start-pairs (Some n) = test (n == 1) (λ e. rw e (tt, refl))
      (λ e. rw e ((refl, refl, refl, tt), refl))

  list-named : (start : Option ℕ) → IsTreeName (list_name start)
  list-named None = (refl, refl)
  list-named (Some n) = (refl, refl)

  list-not-void : (start : Option ℕ) → is_void (list_name start) ≡ false
  unfolding is_void
  list-not-void None = refl
  list-not-void (Some n) = refl

  list-whole : (start : Option ℕ) (s : List ℕ) → content_of (list_name start) s ≡ s
  list-whole None s = refl
  list-whole (Some n) s = refl

  list-not-alone : (start : Option ℕ) → holds_text_alone z (list_name start) ≡ false
  list-not-alone None = not-alone z (codes "ul") refl
  list-not-alone (Some n) = not-alone z (codes "ol") refl

  begun-fits : (l bare : Bool) (ts : SpelledForest) (c : Context) → Around z c → Fits z c ts
      → Fits z c (begun_line l bare ts)
  begun-fits true true ts c a f = f
  begun-fits true false ts c a f = line-fits z ts c a.not_alone f
  begun-fits false true ts c a f = f
  begun-fits false false ts c a f = f

  -- a block that is no HTML block
  abbrev own_is_strict : Context → Option (List (List ℕ)) → Block → Bool
  own_is_strict c ns (html_block s) = true
  own_is_strict c ns b = takes_blocks (below_open c ns) && block_is_strict c ns b

  html-fit : (b : Block) (o : Open) (left : Option (List (List ℕ))) (ns : List (List ℕ)) (c : Context)
      → names_with_html b left ≡ Some ns → (stands_right c left b && block_is_strict c left b) ≡ true
      → TakesBlocks z c → ((ms : List (List ℕ)) → left ≡ Some ms → IsFit z c o ms)
      → (own_is_strict c (Some ns) b ≡ true) × IsFit z c (with_html b o) ns
  html-fit (paragraph xs) o left ns c u s b i =
      (subst (λ k. own_is_strict c k (paragraph xs) ≡ true) u s, i ns u)
  html-fit (heading level xs) o left ns c u s b i =
      (subst (λ k. own_is_strict c k (heading level xs) ≡ true) u s, i ns u)
  html-fit (code_block language t) o left ns c u s b i =
      (subst (λ k. own_is_strict c k (code_block language t) ≡ true) u s, i ns u)
  html-fit (quote bs) o left ns c u s b i = (subst (λ k. own_is_strict c k (quote bs) ≡ true) u s, i ns u)
  html-fit thematic_break o left ns c u s b i = (subst (λ k. own_is_strict c k thematic_break ≡ true) u s, i ns u)
  html-fit (list start is_tight items) o left ns c u s b i =
      (subst (λ k. own_is_strict c k (list start is_tight items) ≡ true) u s, i ns u)
  html-fit (table alignments header rs) o left ns c u s b i =
      (subst (λ k. own_is_strict c k (table alignments header rs) ≡ true) u s, i ns u)
  html-fit (html_block t) o left ns c u s b i =
      (refl, tags-fit z (lines_of t) o left ns c u (and_parts true (lines_are_strict c (lines_of t) left) s).1 b i)

  -- where a block that is no HTML block stands
  abbrev IsOwn : Block → Type 0 → Type 0
  IsOwn (html_block s) A = ⊤
  IsOwn b A = A

  from-own : (b : Block) (c : Context) (ns : List (List ℕ))
      → (takes_blocks (ns ++ c) && block_is_strict c (Some ns) b) ≡ true → Around z (ns ++ c)
      → TakesBlocks z (ns ++ c) × (block_is_strict c (Some ns) b ≡ true)
  from-own b c ns s a =
      let p = and_parts (takes_blocks (ns ++ c)) (block_is_strict c (Some ns) b) s in
      (takes-from z (ns ++ c) a p.0, p.1)

  own-takes : (b : Block) (c : Context) (ns : List (List ℕ)) → own_is_strict c (Some ns) b ≡ true
      → Around z (ns ++ c) → IsOwn b (TakesBlocks z (ns ++ c) × (block_is_strict c (Some ns) b ≡ true))
  own-takes (paragraph xs) c ns s a = from-own (paragraph xs) c ns s a
  own-takes (heading level xs) c ns s a = from-own (heading level xs) c ns s a
  own-takes (code_block language t) c ns s a = from-own (code_block language t) c ns s a
  own-takes (quote bs) c ns s a = from-own (quote bs) c ns s a
  own-takes thematic_break c ns s a = from-own thematic_break c ns s a
  own-takes (list start is_tight items) c ns s a = from-own (list start is_tight items) c ns s a
  own-takes (table alignments header rs) c ns s a = from-own (table alignments header rs) c ns s a
  own-takes (html_block t) c ns s a = tt

  mutual
    unfolding is_void

    -- below the elements that lines have opened
    block-fits : (tight : Bool) (b : Block) (rest : SpelledForest) (c : Context) (ns : List (List ℕ))
        → block_is_paired b ≡ true → IsOwn b (TakesBlocks z (ns ++ c) × (block_is_strict c (Some ns) b ≡ true))
        → Fits z (ns ++ c) rest → Fits z (ns ++ c) (block_trees tight b rest)
    block-fits true (paragraph xs) rest c ns h k f =
        let b = k.0 in
        let s = k.1 in
        inlines-fit z xs (ns ++ c) rest h s b.takes_inlines b.no_link f
    block-fits false (paragraph xs) rest c ns h k f =
        let b = k.0 in
        let s = k.1 in
        let d = ns ++ c in
        element-fits (codes "p") [] (inlines_trees xs none) rest d (p-allowed z d b) refl (refl, refl) (tt, refl) refl
        (b.takes_inlines).not_alone
        (alone-fit z xs (codes "p" ∷ d) h s (takes z (codes "p") d refl) b.no_link) f
    block-fits tight (heading level xs) rest c ns h k f =
        let b = k.0 in
        let s = k.1 in
        let p = and_parts (nat_le 1 level && nat_le level 6) (are_strict false xs) s in
        let q = and_parts (nat_le 1 level) (nat_le level 6) p.0 in
        heading-fits level xs rest (ns ++ c) h q.0 q.1 p.1 b f
    block-fits tight (code_block language u) rest c ns h k f = code_block-fits language u rest (ns ++ c) k.0 f
    block-fits tight (quote bs) rest c ns h k f =
        let b = k.0 in
        let s = k.1 in
        let d = ns ++ c in
        let p = pairs-end bs h in
        let i = open-fits false false bs (codes "blockquote" ∷ d) [] p.0 p.1 s (quote-takes z d b) in
        lines-fit (codes "blockquote") [] (blocks_trees false false bs) rest d (blockquote-allowed z d b) refl
        (refl, refl) (tt, refl) refl (not-alone z (codes "blockquote") refl) (b.takes_inlines).not_alone
        (closed-fits z (blocks_open false false bs) (codes "blockquote" ∷ d) i.named i.fits) f
    block-fits tight thematic_break rest c ns h k f =
        let b = k.0 in
        let s = k.1 in (
          (hr-allowed z (ns ++ c) b, (refl, refl), (tt, refl), refl),
          tt,
          line-fits z rest (ns ++ c) (b.takes_inlines).not_alone f,
        )
    block-fits tight (list start is_tight items) rest c ns h k f =
        let b = k.0 in
        let s = k.1 in
        let d = ns ++ c in
        let content = items_trees is_tight items in
        lines-fit (list_name start) (pairs_of_start start) content rest d (list-allowed z d b start)
        (list-not-void start) (list-named start) (start-pairs start)
        (list-whole start (all_spelled (line_end content))) (list-not-alone start) (b.takes_inlines).not_alone
        (items-fit is_tight start items d h s b) f
    block-fits tight (table alignments header rs) rest c ns h k f =
        let b = k.0 in
        let s = k.1 in
        let p = and_parts (cells_are_paired header) (rows_are_paired rs) h in
        let q = and_parts (cells_are_strict header) (rows_are_strict rs) s in
        table-fits alignments header rs rest (ns ++ c) p.0 p.1 q.0 q.1 b f
    block-fits tight (html_block s) rest c ns h k f = f

    open-fits : (tight l : Bool) (bs : Blocks) (c : Context) (ns : List (List ℕ)) → blocks_unopened bs ≡ Some ns
        → each_is_paired bs ≡ true → blocks_are_strict c bs ≡ true → TakesBlocks z c
        → IsFit z c (blocks_open tight l bs) ns
    open-fits tight l no_blocks c ns u h s b =
        let x : [] ≡ ns = cc in
        record { fits = (tt, tt); named = x; flow = subst AreFlow x tt; ends = tt }
    open-fits tight l (block x bs) c ns u h s b =
        let p = and_parts (block_is_paired x) (each_is_paired bs) h in
        let left = blocks_unopened bs in
        let q = and_parts (stands_right c left x && block_is_strict c left x) (blocks_are_strict c bs) s in
        let bare = is_bare tight x in
        let i = html-fit x (blocks_open tight bare bs) left ns c u q.0 b
        (λ ms f. open-fits tight bare bs c ms f p.1 q.1 b) in
        let o = with_html x (blocks_open tight bare bs) in
        let here = names_of o.behind ++ c in
        let around = around-all z (names_of o.behind) c (subst AreFlow (sym i.1.named) i.1.flow) (around-of z c b) in
        let strict = subst (λ ks. own_is_strict c (Some ks) x ≡ true) (sym i.1.named) i.0 in
        let own = block-fits tight x o.first c (names_of o.behind) p.0 (own-takes x c (names_of o.behind) strict around)
        i.1.fits.0 in
        record {
          fits = (begun-fits l bare (block_trees tight x o.first) here around own, i.1.fits.1);
          named = i.1.named;
          flow = i.1.flow;
          ends = i.1.ends;
        }

    items-fit : (tight : Bool) (start : Option ℕ) (items : Items) (c : Context) → items_are_paired items ≡ true
        → items_are_strict (codes "li" ∷ list_name start ∷ c) items ≡ true → TakesBlocks z c
        → Fits z (list_name start ∷ c) (items_trees tight items)
    items-fit tight start no_items c h s b = tt
    items-fit tight start (item bs rest) c h s b =
        let p = and_parts (blocks_are_paired bs) (items_are_paired rest) h in
        let r = pairs-end bs p.0 in
        let within = codes "li" ∷ list_name start ∷ c in
        let q = and_parts (blocks_are_strict within bs) (items_are_strict within rest) s in
        let i = open-fits tight true bs within [] r.0 r.1 q.0 (li-takes z c b start) in
        element-fits (codes "li") [] (blocks_trees tight true bs) (items_trees tight rest) (list_name start ∷ c)
        (li-allowed z c b start) refl (refl, refl) (tt, refl) refl (list-not-alone start)
        (closed-fits z (blocks_open tight true bs) within i.named i.fits) (items-fit tight start rest c p.1 q.1 b)

  body-takes : TakesBlocks z below_body
  body-takes = record {
    takes_inlines = takes z (codes "body") above_body refl;
    no_link = refl;
    no_paragraph = refl;
    no_heading = refl;
  }

  pub plain-fits : (bs : Blocks) → IsPlain bs → Fits z below_body (spelled_of bs)
  plain-fits bs p =
      let q = pairs-end bs p.paired in
      let i = open-fits false false bs below_body [] q.0 q.1 p.strict body-takes in
      closed-fits z (blocks_open false false bs) below_body i.named i.fits

  pub rendered-reads : (bs : Blocks) → IsPlain bs → reads (project z) below_body (html_of bs) (trees_of bs)
  rendered-reads bs p =
      let e = rendered bs p.paired in
      let l = p.shallow in
      subst (λ s. reads (project z) below_body s (trees_of bs)) (sym e)
      (trees-read z (spelled_of bs) below_body (plain-fits bs p)
      (subst (λ s. lacks 13 s ≡ true) e p.no_returns) (omega arith))

pub read : RenderedIsRead
read z bs p = record {
  denotes = rendered-reads z bs p;
  alone = λ us k. unique_in (project z) (codes "body") above_body (html_of bs) us (trees_of bs) k
      (rendered-reads z bs p);
}
