-- Where a document in normal form is seen, the blocks of what is read are strict.
use Rattle.std.proofs.Common.{◌≡◌, ℕ, Bool, true, false, not, ◌&&◌, List, [], ◌∷◌, refl, sym, ap, ◌∙◌, Some, None}
use Rattle.std.proofs.Common.{◌++◌, length, codes, subst}
use Rattle.std.specs.List.{list_all}
use Rattle.std.specs.Prelude.{◌||◌, ◌==◌, nat_le}
use Rattle.std.proofs.lemmas.Bool.{and_parts, and_from}
use Rattle.htmd_lexical.proofs.Cases.{test}
use Rattle.htmd_document.specs.Documents as document
use Rattle.htmd_document.specs.FlatDocuments.{lines_of}
use Rattle.htmd_document.specs.NormalInlines as normal
use Rattle.htmd_document.specs.NormalInlines.{is_normal_line, is_normal_item, are_anchors, anchors_stand_well}
use Rattle.htmd_document.specs.NormalDocuments.{is_normal_paragraph, is_level, is_normal_heading, has_cell}
use Rattle.htmd_document.specs.NormalDocuments.{ends_filled}
use Rattle.htmd_document.specs.NormalDocuments.{are_normal_cells, is_normal_row, is_normal_list, is_flat_block}
use Rattle.htmd_document.specs.NormalDocuments.{are_flat_blocks, are_flat_items}
use Rattle.htmd_document.specs.TightItems.{is_filled}
use Rattle.htmd_grammar.specs.HtmlDocuments.{below_body}
use Rattle.htmd_grammar.specs.Nesting.{Context}
use Rattle.htmd_commonmark_reading.specs.Markup.{Inlines, no_inlines, letter, code, formatted, link, image}
use Rattle.htmd_commonmark_reading.specs.Markup.{line_break}
use Rattle.htmd_commonmark_reading.specs.Markup.{task, raw, Block, paragraph, heading, code_block, quote}
use Rattle.htmd_commonmark_reading.specs.Markup.{thematic_break, list, table, html_block, Blocks, no_blocks, block}
use Rattle.htmd_commonmark_reading.specs.Markup.{Items, no_items, item}
use Rattle.htmd_commonmark_reading.specs.Elements.{Stack, outside, with_block, nested_block, nested, nested_items}
use Rattle.htmd_commonmark_reading.specs.Reading.{read}
use Rattle.htmd_commonmark_reading.specs.SeenMarkup.{seen_inlines, seen_row, seen_rows, has_none, has_no_cell}
use Rattle.htmd_commonmark_reading.specs.SeenMarkup.{filled_front, without_empty_end, seen_block, seen_blocks}
use Rattle.htmd_commonmark_reading.specs.SeenMarkup.{seen_items}
use Rattle.htmd_commonmark_reading.specs.SeenMarkup.{document_inlines, document_row, document_rows, document_block}
use Rattle.htmd_commonmark_reading.specs.SeenMarkup.{document_blocks, document_items}
use Rattle.htmd_law_rendering.specs.PlainReadings.{are_strict, cells_are_strict, rows_are_strict, block_is_strict}
use Rattle.htmd_law_rendering.specs.PlainReadings.{blocks_unopened, blocks_are_strict, items_are_strict}
use Rattle.htmd_law_rendering.specs.PlainReadings.{block_elements_are_strict, elements_are_strict}
use Rattle.htmd_law_rendering.specs.PlainReadings.{item_elements_are_strict, takes_blocks, stands_right}
use Rattle.htmd_law_rendering.specs.PlainReadings.{names_with_html, lines_are_strict}
use Rattle.htmd_law_rendering.specs.RenderedTrees.{list_name}
use Rattle.htmd_law_rendering.specs.RenderingLaws.{SeenIsStrict}
use Rattle.htmd_law_rendering.proofs.PlacedStacks.{context_of, stack_is_strict, block-parted, Placed}
use Rattle.htmd_law_rendering.proofs.PlacedStacks.{placed-before, context-next, lines-parted}
use Rattle.htmd_law_rendering.proofs.PairedBlocks.{both-some, one-some, two-some, no-cells, Stepped, parts, no-parts}
use Rattle.htmd_law_rendering.proofs.StrictSeen.{inlines-strict}
use Rattle.htmd_law_rendering.proofs.StrictDocuments.{are_apart, line-apart, item-apart, document-strict}

-- ---- leaves

paragraph-apart : (in_item : Bool) (xs : document.Inlines) → is_normal_paragraph in_item xs ≡ true
    → are_apart false xs ≡ true
paragraph-apart true xs e =
    let p = and_parts (not (normal.has_none xs) && is_normal_item xs) (are_anchors xs || anchors_stand_well xs) e in
    item-apart xs (and_parts (not (normal.has_none xs)) (is_normal_item xs) p.0).1
paragraph-apart false xs e =
    let p = and_parts (not (normal.has_none xs) && is_normal_line xs) (are_anchors xs || anchors_stand_well xs) e in
    line-apart xs (and_parts (not (normal.has_none xs)) (is_normal_line xs) p.0).1

heading-apart : (level : ℕ) (xs : document.Inlines) → is_normal_heading level xs ≡ true
    → (is_level level ≡ true) × (are_apart false xs ≡ true)
heading-apart level xs e =
    let p = and_parts (is_level level && not (normal.has_none xs) && is_normal_line xs) (anchors_stand_well xs) e in
    let q = and_parts (is_level level && not (normal.has_none xs)) (is_normal_line xs) p.0 in
    ((and_parts (is_level level) (not (normal.has_none xs)) q.0).0, line-apart xs q.1)

-- ---- tables

lines_of_cells : (cells : List document.Inlines) → are_normal_cells cells ≡ true
    → list_all is_normal_line cells ≡ true
lines_of_cells cells e =
    (and_parts (list_all is_normal_line cells) (list_all anchors_stand_well cells) e).0

row-strict : (r : List Inlines) (d : List document.Inlines) → document_row (seen_row r) ≡ Some d
    → list_all is_normal_line d ≡ true → cells_are_strict r ≡ true
row-strict [] d e h = refl
row-strict (c ∷ cs) d e h =
    let k = both-some (document_inlines (seen_inlines c)) (document_row (seen_row cs)) d e in
    let x : k.0 ∷ k.1 ≡ d = k.4 in
    let p = and_parts (is_normal_line k.0) (list_all is_normal_line k.1)
    (subst (λ y. list_all is_normal_line y ≡ true) (sym x) h) in
    and_from (are_strict false c) (cells_are_strict cs) (document-strict c k.0 k.2 (line-apart k.0 p.0))
    (row-strict cs k.1 k.3 p.1)

nothing : (c xs : Inlines) → seen_inlines c ≡ xs → has_none xs ≡ true → are_strict false c ≡ true
nothing c no_inlines s e = inlines-strict c (rw s refl) (rw s refl)
nothing c (letter b xs) s e = absurd (cc)
nothing c (code t xs) s e = absurd (cc)
nothing c (formatted f content xs) s e = absurd (cc)
nothing c (link a t content xs) s e = absurd (cc)
nothing c (image a t content xs) s e = absurd (cc)
nothing c (line_break xs) s e = absurd (cc)
nothing c (task b xs) s e = absurd (cc)
nothing c (raw t xs) s e = absurd (cc)

filled-strict : (cs : List Inlines) (d : List document.Inlines) → document_row (filled_front (seen_row cs)) ≡ Some d
    → list_all is_normal_line d ≡ true → cells_are_strict cs ≡ true
filled-strict [] d e h = refl
filled-strict (c ∷ cs) d e h =
    test (has_none (seen_inlines c) && has_no_cell (filled_front (seen_row cs)))
    (λ t.
    let p = and_parts (has_none (seen_inlines c)) (has_no_cell (filled_front (seen_row cs))) t in
    let n = no-cells (filled_front (seen_row cs)) p.1 in
    and_from (are_strict false c) (cells_are_strict cs) (nothing c (seen_inlines c) refl p.0)
    (filled-strict cs [] (ap document_row n) refl))
    (λ t.
    let w = rw t at e in
    let k = both-some (document_inlines (seen_inlines c)) (document_row (filled_front (seen_row cs))) d w in
    let p = and_parts (is_normal_line k.0) (list_all is_normal_line k.1)
    (subst (λ y. list_all is_normal_line y ≡ true) (sym k.4) h) in
    and_from (are_strict false c) (cells_are_strict cs) (document-strict c k.0 k.2 (line-apart k.0 p.0))
    (filled-strict cs k.1 k.3 p.1))

body_row-strict : (r : List Inlines) (d : List document.Inlines)
    → document_row (without_empty_end (seen_row r)) ≡ Some d → list_all is_normal_line d ≡ true
    → cells_are_strict r ≡ true
body_row-strict [] d e h = refl
body_row-strict (c ∷ cs) d e h =
    let k = both-some (document_inlines (seen_inlines c)) (document_row (filled_front (seen_row cs))) d e in
    let p = and_parts (is_normal_line k.0) (list_all is_normal_line k.1)
    (subst (λ y. list_all is_normal_line y ≡ true) (sym k.4) h) in
    and_from (are_strict false c) (cells_are_strict cs) (document-strict c k.0 k.2 (line-apart k.0 p.0))
    (filled-strict cs k.1 k.3 p.1)

rows-strict : (columns : ℕ) (rs : List (List Inlines)) (d : List (List document.Inlines))
    → document_rows (seen_rows rs) ≡ Some d → list_all (is_normal_row columns) d ≡ true
    → rows_are_strict rs ≡ true
rows-strict columns [] d e h = refl
rows-strict columns (r ∷ rs) d e h =
    let k = both-some (document_row (without_empty_end (seen_row r))) (document_rows (seen_rows rs)) d e in
    let p = and_parts (is_normal_row columns k.0) (list_all (is_normal_row columns) k.1)
    (subst (λ y. list_all (is_normal_row columns) y ≡ true) (sym k.4) h) in
    let q = and_parts (nat_le (length k.0) columns && ends_filled k.0) (are_normal_cells k.0) p.0 in
    and_from (cells_are_strict r) (rows_are_strict rs) (body_row-strict r k.0 k.2 (lines_of_cells k.0 q.1))
    (rows-strict columns rs k.1 k.3 p.1)

-- ---- blocks

-- before a block: what was open may stand where it does, with these names of end tags behind
abbrev Before : Context → Block → List (List ℕ) → Stack → Type 0
Before c b ns o =
    (stack_is_strict c o ≡ true)
    × (ms : List (List ℕ)) × (names_with_html b (Some ns) ≡ Some ms) × Placed None ms o

-- one that is added
added-before : (c : Context) (o p : Stack) (e : document.Block) (ns : List (List ℕ)) → with_block o e ≡ p
    → stack_is_strict c p ≡ true → Placed None ns p → (stack_is_strict c o ≡ true) × Placed None ns o
added-before c o p e ns k h m = (
  (block-parted c o e (subst (λ q. stack_is_strict c q ≡ true) (sym k) h)).0,
  placed-before ns o e (subst (Placed None ns) (sym k) m),
)

before-block : (c : Context) (b : Block) (d : document.Block) (o p : Stack) (ns : List (List ℕ))
    → takes_blocks c ≡ true → Stepped b d o p → stack_is_strict c p ≡ true → Placed None ns p
    → Before c b ns o
before-block c (paragraph xs) d o p ns t k h m =
    let a = added-before c o p k.0 ns k.2 h m in (a.0, ns, refl, a.1)
before-block c (heading level xs) d o p ns t k h m =
    let a = added-before c o p k.0 ns k.2 h m in (a.0, ns, refl, a.1)
before-block c (code_block language s) d o p ns t k h m =
    let a = added-before c o p k.0 ns k.2 h m in (a.0, ns, refl, a.1)
before-block c (quote bs) d o p ns t k h m =
    let a = added-before c o p k.0 ns k.2 h m in (a.0, ns, refl, a.1)
before-block c thematic_break d o p ns t k h m =
    let a = added-before c o p k.0 ns k.2 h m in (a.0, ns, refl, a.1)
before-block c (list start tight items) d o p ns t k h m =
    let a = added-before c o p k.0 ns k.2 h m in (a.0, ns, refl, a.1)
before-block c (table alignments header rows) d o p ns t k h m =
    let a = added-before c o p k.0 ns k.2 h m in (a.0, ns, refl, a.1)
before-block c (html_block s) d o p ns t k h m =
    let i = lines-parted c (lines_of s) o p ns t k h m in (i.0, i.2, i.3, i.4)

-- where an added block stands, if it takes a place for blocks
record Here (c : Context) (o : Stack) (ns : List (List ℕ)) (made : document.Block) : Type 0 where
  strict : block_elements_are_strict (context_of c o) made ≡ true
  place : takes_blocks (context_of c o) ≡ true → ns ++ c ≡ context_of c o

here : (c : Context) (o p : Stack) (e made : document.Block) (ns : List (List ℕ)) → takes_blocks c ≡ true
    → with_block o e ≡ p → made ≡ e → stack_is_strict c p ≡ true → Placed None ns p → Here c o ns made
here c o p e made ns t k x h m =
    let a = added-before c o p e ns k h m in
    let parted = block-parted c o e (subst (λ q. stack_is_strict c q ≡ true) (sym k) h) in
    record {
      strict = subst (λ y. block_elements_are_strict (context_of c o) y ≡ true) (sym x) parted.1;
      place = λ b. context-next c ns o t a.0 b a.1;
    }

-- and what it is
standing : (c : Context) (o : Stack) (ns : List (List ℕ)) (own : Bool) → takes_blocks (context_of c o) ≡ true
    → ns ++ c ≡ context_of c o → own ≡ true → (takes_blocks (ns ++ c) && own) ≡ true
standing c o ns own t e h =
    and_from (takes_blocks (ns ++ c)) own (subst (λ y. takes_blocks y ≡ true) (sym e) t) h

record IsStrictHere (c : Context) (bs : Blocks) (o : Stack) : Type 0 where
  stack : stack_is_strict c o ≡ true
  blocks : blocks_are_strict c bs ≡ true
  names : List (List ℕ)
  unopened : blocks_unopened bs ≡ Some names
  placed : Placed None names o

mutual
  block-strict : (c : Context) (in_item : Bool) (b : Block) (d : document.Block) (o p : Stack) (ns : List (List ℕ))
      → takes_blocks c ≡ true → document_block (seen_block b) ≡ Some d → is_flat_block in_item d ≡ true
      → Stepped b d o p → stack_is_strict c p ≡ true → Placed None ns p
      → (stands_right c (Some ns) b && block_is_strict c (Some ns) b) ≡ true
  block-strict c i (paragraph xs) d o p ns t e h s q m =
      let k = one-some document.paragraph (document_inlines (seen_inlines xs)) d e in
      let x : Some (document.paragraph k.0) ≡ Some s.0 = ap nested_block k.2 ∙ s.1 in
      let a = here c o p s.0 (document.paragraph k.0) ns t s.2 (cc) q m in
      standing c o ns (are_strict false xs) a.strict (a.place a.strict)
      (document-strict xs k.0 k.1 (paragraph-apart i k.0 (ap (is_flat_block i) k.2 ∙ h)))
  block-strict c i (heading level xs) d o p ns t e h s q m =
      let k = one-some (document.heading level) (document_inlines (seen_inlines xs)) d e in
      let x : Some (document.heading level k.0) ≡ Some s.0 = ap nested_block k.2 ∙ s.1 in
      let a = here c o p s.0 (document.heading level k.0) ns t s.2 (cc) q m in
      let r = heading-apart level k.0 (ap (is_flat_block i) k.2 ∙ h) in
      standing c o ns (nat_le 1 level && nat_le level 6 && are_strict false xs) a.strict (a.place a.strict)
      (and_from (nat_le 1 level && nat_le level 6) (are_strict false xs) r.0 (document-strict xs k.0 k.1 r.1))
  block-strict c i (code_block language u) d o p ns t e h s q m =
      let y : document.code_block language u ≡ d = cc in
      let x : Some (document.code_block language u) ≡ Some s.0 = ap nested_block y ∙ s.1 in
      let a = here c o p s.0 (document.code_block language u) ns t s.2 (cc) q m in
      standing c o ns true a.strict (a.place a.strict) refl
  block-strict c i (quote bs) d o p ns t e h s q m =
      let k = one-some document.quote (document_blocks (seen_blocks bs)) d e in
      let n = one-some document.quote (nested (Some (outside document.no_blocks)) k.0) s.0
      (ap nested_block k.2 ∙ s.1) in
      let a = here c o p s.0 (document.quote n.0) ns t s.2 n.2 q m in
      let w = and_parts (takes_blocks (context_of c o))
      (elements_are_strict (codes "blockquote" ∷ context_of c o) n.0) a.strict in
      let place = a.place w.0 in
      let inner = blocks-strict (codes "blockquote" ∷ ns ++ c) refl false bs k.0 (outside document.no_blocks) n.0 k.1
      (and_parts (is_filled k.0) (are_flat_blocks false k.0) (ap (is_flat_block i) k.2 ∙ h)).1 n.1
      (subst (λ y. elements_are_strict (codes "blockquote" ∷ y) n.0 ≡ true) (sym place) w.1) in
      standing c o ns (blocks_are_strict (codes "blockquote" ∷ ns ++ c) bs) w.0 place inner.blocks
  block-strict c i thematic_break d o p ns t e h s q m =
      let y : document.thematic_break ≡ d = cc in
      let x : Some document.thematic_break ≡ Some s.0 = ap nested_block y ∙ s.1 in
      let a = here c o p s.0 document.thematic_break ns t s.2 (cc) q m in
      standing c o ns true a.strict (a.place a.strict) refl
  block-strict c i (list start tight items) d o p ns t e h s q m =
      let k = one-some (document.list start tight) (document_items (seen_items items)) d e in
      let n = one-some (document.list start tight) (nested_items k.0) s.0 (ap nested_block k.2 ∙ s.1) in
      let a = here c o p s.0 (document.list start tight n.0) ns t s.2 n.2 q m in
      let w = and_parts (takes_blocks (context_of c o))
      (item_elements_are_strict (codes "li" ∷ list_name start ∷ context_of c o) n.0) a.strict in
      let place = a.place w.0 in
      standing c o ns (items_are_strict (codes "li" ∷ list_name start ∷ ns ++ c) items) w.0 place
      (items-strict (codes "li" ∷ list_name start ∷ ns ++ c) refl items k.0 n.0 k.1
      (and_parts (is_normal_list start tight k.0) (are_flat_items k.0) (ap (is_flat_block i) k.2 ∙ h)).1 n.1
      (subst (λ y. item_elements_are_strict (codes "li" ∷ list_name start ∷ y) n.0 ≡ true) (sym place) w.1))
  block-strict c i (table alignments header rows) d o p ns t e h s q m =
      let k = two-some (document.table alignments) (document_row (seen_row header)) (document_rows (seen_rows rows))
      d e in
      let x : Some (document.table alignments k.0 k.1) ≡ Some s.0 = ap nested_block k.4 ∙ s.1 in
      let a = here c o p s.0 (document.table alignments k.0 k.1) ns t s.2 (cc) q m in
      let r = and_parts (has_cell k.0 && (length alignments == length k.0) && are_normal_cells k.0)
      (list_all (is_normal_row (length k.0)) k.1) (ap (is_flat_block i) k.4 ∙ h) in
      let u = and_parts (has_cell k.0 && (length alignments == length k.0)) (are_normal_cells k.0) r.0 in
      standing c o ns (cells_are_strict header && rows_are_strict rows) a.strict (a.place a.strict)
      (and_from (cells_are_strict header) (rows_are_strict rows)
      (row-strict header k.0 k.2 (lines_of_cells k.0 u.1)) (rows-strict (length k.0) rows k.1 k.3 r.1))
  block-strict c i (html_block u) d o p ns t e h s q m =
      and_from true (lines_are_strict c (lines_of u) (Some ns)) refl (lines-parted c (lines_of u) o p ns t s q m).1

  blocks-strict : (c : Context) → takes_blocks c ≡ true → (in_item : Bool) (bs : Blocks) (flat : document.Blocks)
      (o : Stack) (d : document.Blocks) → document_blocks (seen_blocks bs) ≡ Some flat
      → are_flat_blocks in_item flat ≡ true → nested (Some o) flat ≡ Some d
      → elements_are_strict c d ≡ true
      → IsStrictHere c bs o
  blocks-strict c t i no_blocks flat o d e h n q =
      let x = no-parts flat o d e n in
      record {
        stack = subst (λ p. stack_is_strict c p ≡ true) x q;
        blocks = refl;
        names = [];
        unopened = refl;
        placed = subst (Placed None []) x refl;
      }
  blocks-strict c t i (block b bs) flat o d e h n q =
      let k = parts b bs flat o d e n in
      let r = and_parts (is_flat_block i k.first) (are_flat_blocks false k.rest)
      (ap (are_flat_blocks i) k.are_both ∙ h) in
      let j = blocks-strict c t false bs k.rest k.behind d k.is_rest r.1 k.goes_on q in
      let before = before-block c b k.first o k.behind j.names t k.step j.stack j.placed in
      let own = block-strict c i b k.first o k.behind j.names t k.is_first r.0 k.step j.stack j.placed in
      record {
        stack = before.0;
        blocks = and_from (stands_right c (blocks_unopened bs) b && block_is_strict c (blocks_unopened bs) b)
            (blocks_are_strict c bs)
            (subst (λ y. (stands_right c y b && block_is_strict c y b) ≡ true) (sym j.unopened) own) j.blocks;
        names = before.1;
        unopened = ap (names_with_html b) j.unopened ∙ before.2;
        placed = before.3;
      }

  items-strict : (c : Context) → takes_blocks c ≡ true → (items : Items) (d e : document.Items)
      → document_items (seen_items items) ≡ Some d → are_flat_items d ≡ true → nested_items d ≡ Some e
      → item_elements_are_strict c e ≡ true → items_are_strict c items ≡ true
  items-strict c t no_items d e h f n q = refl
  items-strict c t (item bs rest) d e h f n q =
      let k = two-some document.item (document_blocks (seen_blocks bs)) (document_items (seen_items rest)) d h in
      let r = and_parts (are_flat_blocks true k.0) (are_flat_items k.1) (ap are_flat_items k.4 ∙ f) in
      let m = two-some document.item (nested (Some (outside document.no_blocks)) k.0) (nested_items k.1) e
      (ap nested_items k.4 ∙ n) in
      let w = and_parts (elements_are_strict c m.0) (item_elements_are_strict c m.1)
      (ap (item_elements_are_strict c) m.4 ∙ q) in
      and_from (blocks_are_strict c bs) (items_are_strict c rest)
      (blocks-strict c t true bs k.0 (outside document.no_blocks) m.0 k.2 r.0 m.2 w.0).blocks
      (items-strict c t rest k.1 m.1 k.3 r.1 m.3 w.1)

pub seen-strict : SeenIsStrict
seen-strict s flat d e h n t =
    (blocks-strict below_body refl false (read s) flat (outside document.no_blocks) d e h n t).blocks
