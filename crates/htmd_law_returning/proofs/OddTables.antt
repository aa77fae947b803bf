-- Tables that a rich page has otherwise: nothing shows in the header, or a row has more cells.
use Rattle.std.proofs.Common.{◌≡◌, ℕ, suc, Bool, true, false, not, ◌&&◌, ◌||◌, List, [], ◌∷◌}
use Rattle.std.proofs.Common.{length, map, refl}
use Rattle.std.proofs.Common.{ap, ◌∙◌}
use Rattle.std.specs.Prelude.{nat_le}
use Rattle.std.proofs.lemmas.Bool.{and_parts, and_from}
use Rattle.htmd_document.specs.Documents as documents
use Rattle.htmd_document.specs.Documents.{Inlines as Line}
use Rattle.htmd_commonmark_reading.specs.Markup.{Inlines, Block, paragraph, heading, code_block, quote}
use Rattle.htmd_commonmark_reading.specs.Markup.{thematic_break, list, table, html_block, Blocks, no_blocks, block}
use Rattle.htmd_commonmark_reading.specs.Markup.{Items, no_items, item}
use Rattle.htmd_commonmark_reading.specs.SeenMarkup.{seen_row}
use Rattle.htmd_law_returning.specs.FittedRows.{are_fitted, block_has_fitted_rows, blocks_have_fitted_rows}
use Rattle.htmd_law_returning.specs.FittedRows.{items_have_fitted_rows}
use Rattle.htmd_law_returning.specs.SettledDocuments.{shows_header, has_bare_header, have_bare_headers}
use Rattle.htmd_law_returning.specs.SettledDocuments.{items_have_bare_headers}
use Rattle.htmd_law_returning.proofs.BlockTrees.{page_block, page_blocks, page_items, cut_block, cut_blocks, cut_items}
use Rattle.htmd_law_returning.proofs.BlockTrees.{lines_in, all_lines_in}
use Rattle.htmd_law_returning.proofs.EncodedReadings.{addressed_row, addressed_block, addressed_blocks, addressed_items}
use Rattle.htmd_law_returning.proofs.FlatLemmas.{IsAny}
use Rattle.htmd_law_returning.proofs.RichTableLemmas.{are_narrow}
use Rattle.htmd_law_returning.proofs.SeenBlocks.{line_rows, line_block, line_blocks, line_items}
use Rattle.htmd_law_returning.proofs.SoftLines.{soft_cells, soft_rows, soft_block, soft_blocks, soft_items}

abbrev mutual
  pub has_odd_table : documents.Block → Bool
  has_odd_table (documents.quote bs) = have_odd_tables bs
  has_odd_table (documents.list start is_tight items) = items_have_odd_tables items
  has_odd_table (documents.table alignments header rows) =
      not (shows_header header && are_narrow (length header) rows)
  has_odd_table (documents.element name attributes bs) = have_odd_tables bs
  has_odd_table b = false

  pub have_odd_tables : documents.Blocks → Bool
  have_odd_tables documents.no_blocks = false
  have_odd_tables (documents.block b bs) = has_odd_table b || have_odd_tables bs

  pub items_have_odd_tables : documents.Items → Bool
  items_have_odd_tables documents.no_items = false
  items_have_odd_tables (documents.item bs rest) = have_odd_tables bs || items_have_odd_tables rest

-- so are those of flat documents, and headers in which nothing shows
pub odd-any : IsAny has_odd_table have_odd_tables items_have_odd_tables
odd-any = record {
  none = refl;
  more = λ b bs. refl;
  in_quote = λ bs. refl;
  in_list = λ start is_tight items. refl;
  no_item = refl;
  more_items = λ bs rest. refl;
  in_element = λ name attributes bs. refl;
  in_tags = λ s. refl;
  in_line = λ xs. refl;
}

pub bare-any : IsAny has_bare_header have_bare_headers items_have_bare_headers
bare-any = record {
  none = refl;
  more = λ b bs. refl;
  in_quote = λ bs. refl;
  in_list = λ start is_tight items. refl;
  no_item = refl;
  more_items = λ bs rest. refl;
  in_element = λ name attributes bs. refl;
  in_tags = λ s. refl;
  in_line = λ xs. refl;
}

-- ---- of what is read with rows that fit

none-of : (a b : Bool) → (a || b) ≡ false → (a ≡ false) × (b ≡ false)
none-of true b h = absurd (cc)
none-of false b h = (refl, h)

module _ (change : List ℕ → List ℕ) where
  -- cells as the page has them
  abbrev own_row : List Inlines → List Line
  own_row cells = lines_in (addressed_row change (seen_row (soft_cells cells)))

  abbrev own_rows : List (List Inlines) → List (List Line)
  own_rows rows = all_lines_in (map (addressed_row change) (line_rows (soft_rows rows)))

  same-length : (cells : List Inlines) → length (own_row cells) ≡ length cells
  same-length [] = refl
  same-length (c ∷ cs) = ap suc (same-length cs)

  rows-narrow : (k : ℕ) (rows : List (List Inlines)) → are_fitted k rows ≡ true
      → are_narrow k (own_rows rows) ≡ true
  rows-narrow k [] h = refl
  rows-narrow k (r ∷ rs) h =
      let parts = and_parts (nat_le (length r) k) (are_fitted k rs) h in
      and_from (nat_le (length (own_row r)) k) (are_narrow k (own_rows rs))
      (ap (λ n. nat_le n k) (same-length r) ∙ parts.0) (rows-narrow k rs parts.1)

  -- what is read, as the page has it
  abbrev own_block : Block → documents.Block
  own_block b = page_block (addressed_block change (line_block (soft_block b)))

  abbrev pub own_blocks : Blocks → documents.Blocks
  own_blocks bs = page_blocks (addressed_blocks change (line_blocks (soft_blocks bs)))

  abbrev own_items : Items → documents.Items
  own_items items = page_items (addressed_items change (line_items (soft_items items)))

  mutual
    block-even : (b : Block) → block_has_fitted_rows b ≡ true
        → has_bare_header (cut_block (own_block b)) ≡ false
        → has_odd_table (own_block b) ≡ false
    block-even (paragraph xs) h e = refl
    block-even (heading level xs) h e = refl
    block-even (code_block language s) h e = refl
    block-even (quote bs) h e = none-odd bs h e
    block-even thematic_break h e = refl
    block-even (list start is_tight items) h e = items-even items h e
    block-even (table alignments header rows) h e =
        ap (λ b. not (b && are_narrow (length (own_row header)) (own_rows rows)))
        (from-bare (shows_header (own_row header)) e)
        ∙ (ap (λ k. not (are_narrow k (own_rows rows))) (same-length header)
        ∙ ap not (rows-narrow (length header) rows h))
      where
        from-bare : (b : Bool) → not b ≡ false → b ≡ true
        from-bare true h = refl
        from-bare false h = absurd (cc)
    block-even (html_block s) h e = refl

    pub none-odd : (bs : Blocks) → blocks_have_fitted_rows bs ≡ true
        → have_bare_headers (cut_blocks (own_blocks bs)) ≡ false → have_odd_tables (own_blocks bs) ≡ false
    none-odd no_blocks h e = refl
    none-odd (block b bs) h e =
        let parts = and_parts (block_has_fitted_rows b) (blocks_have_fitted_rows bs) h in
        let none = none-of (has_bare_header (cut_block (own_block b))) (have_bare_headers (cut_blocks (own_blocks bs)))
        e in
        ap (λ x. x || have_odd_tables (own_blocks bs)) (block-even b parts.0 none.0) ∙ none-odd bs parts.1 none.1

    items-even : (items : Items) → items_have_fitted_rows items ≡ true
        → items_have_bare_headers (cut_items (own_items items)) ≡ false
        → items_have_odd_tables (own_items items) ≡ false
    items-even no_items h e = refl
    items-even (item bs rest) h e =
        let parts = and_parts (blocks_have_fitted_rows bs) (items_have_fitted_rows rest) h in
        let none = none-of (have_bare_headers (cut_blocks (own_blocks bs)))
        (items_have_bare_headers (cut_items (own_items rest))) e in
        ap (λ x. x || items_have_odd_tables (own_items rest)) (none-odd bs parts.0 none.0)
        ∙ items-even rest parts.1 none.1
