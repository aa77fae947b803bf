-- The pieces of a normal document are good, so its blocks are read back.
use Rattle.std.proofs.Common.{◌≡◌, ◌∙◌, refl, sym, ap, subst, ℕ, suc, ◌≤◌, Bool, true, false, not, List, [], ◌∷◌, ◌++◌}
use Rattle.std.proofs.Common.{length, map, arith}
use Rattle.std.proofs.lemmas.Bool.Decides.{nat_tests}
use Rattle.std.proofs.lemmas.List.{append-nil}
use Rattle.std.specs.Prelude.{◌&&◌, ◌||◌, nat_le, nat_lt, if◌then◌else◌, Option, Some, None}
use Rattle.htmd_document.specs.declared.document.Alignment.{Alignment}
use Rattle.htmd_document.specs.Documents.{Inlines, Block, Blocks, Items, paragraph, heading, code_block, quote}
use Rattle.htmd_document.specs.Documents.{thematic_break, list, table, element, tags, no_blocks, block, no_items, item}
use Rattle.htmd_document.specs.TightItems.{is_paragraph, goes_on_a_paragraph, is_one_or_none}
use Rattle.htmd_commonmark.specs.declared.blocks.Place.{Place}
use Rattle.htmd_commonmark.specs.declared.line.LineKind.TheVariants.{Heading, Cell}
use Rattle.htmd_commonmark.specs.declared.markers.Sign.{Sign}
use Rattle.htmd_commonmark.specs.declared.markers.Markers.{Markers}
use Rattle.htmd_commonmark.specs.declared.markers.Markers.TheVariants.{Bullets, Numbers}
use Rattle.htmd_commonmark.specs.declared.options.DocumentOptions.{DocumentOptions}
use Rattle.htmd_commonmark.specs.InlineMarkdown.{written_line}
use Rattle.htmd_commonmark.specs.BlockMarkdown.{line_of, has_break, is_setext, is_underlined, underlined, number_signs}
use Rattle.htmd_commonmark.specs.BlockMarkdown.{item_count, markers_of, place_in_item, place_in_quote}
use Rattle.htmd_commonmark.specs.BlockMarkdown.{behind_first, sign_of, written_blocks, written_block, written_heading}
use Rattle.htmd_commonmark.specs.BlockMarkdown.{written_cells, written_rows, written_table}
use Rattle.htmd_commonmark.specs.TableLines.{with_escaped_bars, table_text}
use Rattle.htmd_commonmark.specs.BlockMarkdown as writing
use Rattle.htmd_commonmark.specs.DocumentMarkdown.{outermost}
use Rattle.htmd_commonmark_reading.specs.Lines.{spaces}
use Rattle.htmd_commonmark_reading.specs.Boxes.{ClosedBlock, text, headed, code, rule, html, grid}
use Rattle.htmd_commonmark_reading.specs.BlockStarts.{under}
use Rattle.htmd_law_blocks.specs.LineTexts.{IsBlack, IsNotOf, lines_of}
use Rattle.htmd_law_blocks.specs.DocumentParts.{paragraph_text, heading_text, cell_texts, after_cells, row_texts, table_rows}
use Rattle.htmd_law_blocks.specs.DocumentParts.{item_sign, item_number}
use Rattle.htmd_law_blocks.specs.NormalBlocks.{is_level, HasBlock, HasItem, HasCell, FitColumns, may_be_tight, fits_list}
use Rattle.htmd_law_blocks.specs.NormalBlocks.{IsNormalBlock, AreNormalBlocks, AreNormalItems}
use Rattle.htmd_law_blocks.specs.DocumentTexts.{IsHeading, AreCellTexts, AreRowTexts, FirstTexts, FurtherTexts}
use Rattle.htmd_law_blocks.specs.DocumentTexts.{BlockTexts, ItemTexts}
use Rattle.htmd_law_blocks.proofs.ChainsLemmas.{First, Last, container, other}
use Rattle.htmd_law_blocks.proofs.PiecesLemmas.{Marker, Piece, Pieces, no_pieces, piece, each, quoted, item_lines}
use Rattle.htmd_law_blocks.proofs.PiecesLemmas.{piece_lines, pieces_lines}
use Rattle.htmd_law_blocks.proofs.PiecesLemmas.{IsApart, Allowed, Follows, Strong, is_boxed, IsGood, IsContent}
use Rattle.htmd_law_blocks.proofs.PiecesLemmas.{IsFilled, AreGood, piece_first, kind_of}
use Rattle.htmd_law_blocks.proofs.PiecesLemmas as pieces
use Rattle.htmd_law_blocks.proofs.TextsLemmas.{AreClean}
use Rattle.htmd_law_blocks.proofs.PieceTextsLemmas.{CleanPiece, CleanPieces}
use Rattle.htmd_law_blocks.proofs.CellsLemmas.{AreTrimmed, escaped_cells}
use Rattle.htmd_law_blocks.proofs.TablesLemmas.{IsSomeCells, TableLines, AreRowsOf, table_lines}
use Rattle.htmd_law_blocks.proofs.FlatLemmas.{one_clean, Flat, paragraph_flat, rule_flat, heading_flat, underlined_flat}
use Rattle.htmd_law_blocks.proofs.FlatLemmas.{code_flat, tags_flat, table_flat, Apart, paragraph_apart, heading_apart}
use Rattle.htmd_law_blocks.proofs.FlatLemmas.{underlined_apart, code_apart, tags_apart, rule_apart, table_apart}
use Rattle.htmd_law_blocks.proofs.DocumentPieces.{marker_at, fewer_spaces, spaces_bounds, flat_piece, first_pieces}
use Rattle.htmd_law_blocks.proofs.DocumentPieces.{further_pieces, block_pieces, item_pieces, IsPiece, block_piece}
use Rattle.htmd_law_blocks.proofs.DocumentMarkers.{IsBullet, AreMarkers, next_markers, markers_are, marker_is}
use Rattle.htmd_law_blocks.proofs.DocumentMarkers.{marker_clean, IsOther, other_marker}

-- ---- headings

middle : (a b c : Bool) → (a && b && c) ≡ true → b ≡ true
middle true true c h = refl
middle true false c h = absurd (cc)
middle false true c h = absurd (cc)
middle false false c h = absurd (cc)

low_level : (o : DocumentOptions) (level : ℕ) (content : Inlines) → is_underlined o level content ≡ true
    → nat_le level 2 ≡ true
low_level o level content h =
    let w : nat_lt level 3 ≡ true = middle (is_setext o.heading_style) (nat_lt level 3) (not (has_break content)) h in
    grind (arith, nat_tests)

first_level : (level : ℕ) → is_level level ≡ true → nat_le 1 level ≡ true
first_level level h = go (nat_le 1 level) refl
  where
    go : (b : Bool) → nat_le 1 level ≡ b → nat_le 1 level ≡ true
    go true e = e
    go false e = absurd (let w = rw e at h in cc)

-- a heading's text by whether it is underlined
abbrev heading_by : Bool → ℕ → List ℕ → List ℕ → List ℕ
heading_by b level x y = if b then underlined level x else number_signs level ++ y

written_as : (o : DocumentOptions) (ds : List (List ℕ)) (level : ℕ) (content : Inlines)
    → (written_heading o ds level content).text
    ≡ heading_by (is_underlined o level content) level (paragraph_text o ds content)
    (written_line (line_of o Heading) ds content).text
written_as o ds level content = go (is_underlined o level content) refl
  where
    go : (b : Bool) → is_underlined o level content ≡ b
        → (written_heading o ds level content).text
        ≡ heading_by (is_underlined o level content) level (paragraph_text o ds content)
        (written_line (line_of o Heading) ds content).text
    go true e = rw e refl
    go false e = rw e refl

heading_cases : (b : Bool) (level : ℕ) (x y : List ℕ) → is_level level ≡ true →
    (b ≡ true → nat_le level 2 ≡ true)
    → IsHeading b (if b then x else y)
    → Flat (heading_by b level x y) (headed level (if b then x else y)) × Apart (heading_by b level x y)
heading_cases true level x y h low t =
    (underlined_flat level x (first_level level h) (low refl) t, underlined_apart level x t)
heading_cases false level x y h low t = (heading_flat level y h t, heading_apart level y h)

heading_good : (o : DocumentOptions) (ds : List (List ℕ)) (level : ℕ) (content : Inlines) → is_level
    level ≡ true
    → IsHeading (is_underlined o level content) (heading_text o ds level content)
    → Flat (written_heading o ds level content).text (headed level (heading_text o ds level content))
    × Apart (written_heading o ds level content).text
heading_good o ds level content h t =
    let r = heading_cases (is_underlined o level content) level (paragraph_text o ds content)
    (written_line (line_of o Heading) ds content).text h (low_level o level content) t in
    let e = sym (written_as o ds level content) in
    (subst (λ (s : List ℕ). Flat s (headed level (heading_text o ds level content))) e r.0, subst Apart e r.1)

-- ---- tables

cells_written : (o : DocumentOptions) (ds : List (List ℕ)) (xs : List Inlines)
    → ((written_cells (line_of o Cell) ds xs).cells ≡ escaped_cells (cell_texts o ds xs))
    × ((written_cells (line_of o Cell) ds xs).definitions ≡ after_cells o ds xs)
cells_written o ds [] = (refl, refl)
cells_written o ds (x ∷ xs) =
    let w = written_line (line_of o Cell) ds x in
    let r = cells_written o w.definitions xs in
    (ap (λ (y : List (List ℕ)). with_escaped_bars w.text ∷ y) r.0, r.1)

rows_written : (o : DocumentOptions) (ds : List (List ℕ)) (rows : List (List Inlines))
    → (written_rows (line_of o Cell) ds rows).rows ≡ map escaped_cells (row_texts o ds rows)
rows_written o ds [] = refl
rows_written o ds (row ∷ rows) =
    let w = written_cells (line_of o Cell) ds row in
    let r = cells_written o ds row in
    ap (λ (y : List (List ℕ)). y ∷ (written_rows (line_of o Cell) w.definitions rows).rows) r.0
    ∙ ap (λ (y : List (List ℕ)). escaped_cells (cell_texts o ds row)
    ∷ (written_rows (line_of o Cell) y rows).rows) r.1
    ∙ ap (λ (y : List (List (List ℕ))). escaped_cells (cell_texts o ds row) ∷ y)
    (rows_written o (after_cells o ds row) rows)

texts_length : (o : DocumentOptions) (ds : List (List ℕ)) (xs : List Inlines)
    → length (cell_texts o ds xs) ≡ length xs
texts_length o ds [] = refl
texts_length o ds (x ∷ xs) = ap suc (texts_length o (written_line (line_of o Cell) ds x).definitions xs)

cell_trimmed : (ts : List (List ℕ)) → AreCellTexts ts → AreTrimmed ts
cell_trimmed [] h = tt
cell_trimmed (t ∷ ts) h = (h.0.trimmed, cell_trimmed ts h.1)

cell_clean : (ts : List (List ℕ)) → AreCellTexts ts → AreClean ts
cell_clean [] h = tt
cell_clean (t ∷ ts) h = (one_clean t h.0.plain h.0.one_line, cell_clean ts h.1)

some_texts : (o : DocumentOptions) (ds : List (List ℕ)) (xs : List Inlines) → HasCell xs → IsSomeCells
    (cell_texts o ds xs)
some_texts o ds [] h = absurd h
some_texts o ds (x ∷ xs) h = tt

rows_of : (o : DocumentOptions) (ds : List (List ℕ)) (n : ℕ) (rows : List (List Inlines)) → FitColumns n rows
    → AreRowTexts (row_texts o ds rows) → AreRowsOf n (row_texts o ds rows)
rows_of o ds n [] h w = tt
rows_of o ds n (row ∷ rows) h w =
    let ts = cell_texts o ds row in (
      omega (arith, texts_length o ds row, h.0),
      some_texts o ds row h.1,
      cell_trimmed ts w.0,
      cell_clean ts w.0,
      rows_of o (after_cells o ds row) n rows h.2
          w.1,
    )

table_by : (al : List Alignment) (hs : List (List ℕ)) (rows : List (List (List ℕ))) → IsSomeCells hs
    → length al ≡ length hs → AreTrimmed hs → AreClean hs → AreRowsOf (length hs) rows
    → TableLines al hs rows (table_text al (escaped_cells hs) (map escaped_cells rows))
table_by al [] rows s a t c r = absurd s
table_by al (h ∷ hs) rows s a t c r = table_lines al h hs rows a t c r

table_good : (o : DocumentOptions) (ds : List (List ℕ)) (al : List Alignment) (header : List Inlines)
    (rows : List (List Inlines)) → HasCell header → length al ≡ length header → FitColumns (length header) rows
    → AreCellTexts (cell_texts o ds header) → AreRowTexts (row_texts o (after_cells o ds header) rows)
    → TableLines al (cell_texts o ds header) (row_texts o (after_cells o ds header) rows)
    (written_table o ds al header rows).text
table_good o ds al header rows s a n t u =
    let hs = cell_texts o ds header in
    let es = after_cells o ds header in
    let rs = row_texts o es rows in
    let w = written_cells (line_of o Cell) ds header in
    let r = cells_written o ds header in
    let len = texts_length o ds header in
    let e : table_text al (escaped_cells hs) (map escaped_cells rs) ≡ (written_table o ds al header rows).text =
    sym (ap (λ (x : List (List ℕ)). table_text al x (written_rows (line_of o Cell) w.definitions rows).rows) r.0
    ∙ ap (λ (x : List (List ℕ)). table_text al (escaped_cells hs) (written_rows (line_of o Cell) x rows).rows) r.1
    ∙ ap (table_text al (escaped_cells hs)) (rows_written o es rows)) in
    subst (TableLines al hs rs) e
    (table_by al hs rs (some_texts o ds header s) (a ∙ sym len) (cell_trimmed hs t) (cell_clean hs t)
    (subst (λ (i : ℕ). AreRowsOf i rs) (sym len) (rows_of o es (length header) rows n u)))

-- ---- good pieces

-- the first piece with this gap, and what follows it
abbrev FirstGood : Bool → Pieces → Type 0
FirstGood g no_pieces = ⊥
FirstGood g (piece f p ps) =
    (f ≡ g) × IsGood p × AreGood (is_boxed p) ps × CleanPiece p × CleanPieces ps

-- pieces after any other
abbrev AfterGood : Pieces → Type 0
AfterGood ps = ((m : Last) → AreGood m ps) × CleanPieces ps

nothing_after : AfterGood no_pieces
nothing_after = ((λ m. tt), tt)

to_filled : (ps : Pieces) → FirstGood false ps → IsFilled ps × CleanPieces ps
to_filled no_pieces h = absurd h
to_filled (piece f p ps) h = ((h.0, h.1, h.2), (h.3, h.4))

with_gap : (f : Bool) → f ≡ true → (m : Last) (p : Piece) → Follows f m p
with_gap true e m p = tt
with_gap false e m p = absurd (cc)

to_after : (g : Bool) (ps : Pieces) → g ≡ true → FirstGood g ps → AfterGood ps
to_after g no_pieces e h = absurd h
to_after g (piece f p ps) e h = ((λ m. (with_gap f (h.0 ∙ e) m p, h.1, h.2)), (h.3, h.4))

flat_first : (g : Bool) (s : List ℕ) (p : ClosedBlock) (rest : Pieces) → Flat s p → AfterGood rest
    → FirstGood g (piece g (flat_piece s p) rest)
flat_first g s p rest f r = (refl, f.reads, r.0 (kind_of p), (f.clean, f.full), r.1)

-- the lines of the first piece
abbrev FirstLine : (List ℕ → Type 0) → Pieces → Type 0
FirstLine P no_pieces = ⊥
FirstLine P (piece f p ps) = First P (piece_lines p)

to_content : (mk : Marker) (ps : Pieces) → IsFilled ps → FirstLine (IsApart mk.number mk.sign) ps → IsContent mk
    ps
to_content mk no_pieces h a = absurd h
to_content mk (piece f p ps) h a = (h.0, h.1, h.2, a)

any_first : (P : List ℕ → Type 0) → ((l : List ℕ) → P l) → (ls : List (List ℕ)) → First IsBlack ls
    → First P ls
any_first P h [] b = absurd b
any_first P h (l ∷ ls) b = h l

-- ---- the first line of an item

other_first : (s : Sign) (ls : List (List ℕ)) → First IsBlack ls → First (IsNotOf 42) ls × First (IsNotOf 45) ls
    → First (IsOther s) ls
other_first Sign.Asterisk ls b a = a.0
other_first Sign.Hyphen ls b a = a.1
other_first Sign.FullStop ls b a = any_first (λ l. Unit {0}) (λ l. tt) ls b
other_first Sign.Parenthesis ls b a = any_first (λ l. Unit {0}) (λ l. tt) ls b

quoted_other : (ls : List (List ℕ)) → First IsBlack (each quoted ls)
    → First (IsNotOf 42) (each quoted ls) × First (IsNotOf 45) (each quoted ls)
quoted_other [] b = absurd b
quoted_other ([] ∷ ls) b = (refl, refl)
quoted_other ((c ∷ s) ∷ ls) b = (refl, refl)

marker_other : (s : Sign) (mk : Marker) (n : ℕ) (ls : List (List ℕ)) →
    ((t : List ℕ) → IsOther s (mk.text ++ t))
    → First (IsOther s) (item_lines mk n ls)
marker_other s mk n [] h = subst (IsOther s) (append-nil mk.text) (h [])
marker_other s mk n (l ∷ ls) h = h (spaces (suc n) l)

-- the first line of a block at the beginning of an item of bullets
block_other : (o : DocumentOptions) (outer : Sign) (t : Bool) (ds : List (List ℕ)) (b : Block) (rest : Pieces)
    → IsBullet outer → IsNormalBlock b
    → BlockTexts o (record { outer = Some outer; in_item = true; tight = t }) None ds b
    → FirstGood false (block_pieces o (record { outer = Some outer; in_item = true; tight = t }) None ds false b rest)
    → FirstLine (IsOther outer) (block_pieces o (record { outer = Some outer; in_item = true; tight = t }) None ds
    false b rest)
block_other o outer t ds (paragraph content) rest u h w g =
    other_first outer (lines_of (paragraph_text o ds content)) g.1.black
    (paragraph_apart (paragraph_text o ds content) w)
block_other o outer t ds (heading level content) rest u h w g =
    other_first outer (lines_of (written_heading o ds level content).text) g.1.black
    (heading_good o ds level content h w).1
block_other o outer t ds (code_block language s) rest u h w g =
    other_first outer (piece_lines (flat_piece (written_block o
    (record { outer = Some outer; in_item = true; tight = t }) None ds (code_block language s)).text
    (code language s)))
    g.1.black (code_apart o.code_block_fence language s)
block_other o outer t ds (quote content) rest u h w g =
    let ls = pieces_lines (first_pieces o (place_in_quote true) ds content) in
    let b = piece_first (pieces.quote (first_pieces o (place_in_quote true) ds content)) g.1 in
    other_first outer (each quoted ls) b (quoted_other ls b)
block_other o outer t ds thematic_break rest u h w g =
    other_first outer (lines_of (writing.rule o.hr_style true)) g.1.black (rule_apart o.hr_style)
block_other o outer t ds (element name attributes content) rest u h w g = absurd h
block_other o outer t ds (tags s) rest u h w g = other_first outer (lines_of s) g.1.black (tags_apart s h)
block_other o outer t ds (list start is_tight no_items) rest u h w g = absurd h.0
block_other o outer t ds (list start is_tight (item first others)) rest u h w g =
    let m = markers_of o None (Some outer) start (suc (item_count others)) in
    marker_other outer (marker_at m 0) (fewer_spaces m 0)
    (pieces_lines (first_pieces o (place_in_item m is_tight) ds first))
    (λ s. other_marker o outer start (item_count others) s u h.1)
block_other o outer t ds (table alignments header rows) rest u h w g =
    other_first outer (lines_of (written_block o (record { outer = Some outer; in_item = true; tight = t }) None ds
    (table alignments header rows)).text)
    g.1.black
    (table_apart alignments (cell_texts o ds header) (row_texts o (after_cells o ds header) rows)
    (written_block o (record { outer = Some outer; in_item = true; tight = t }) None ds
    (table alignments header rows)).text
    (table_good o ds alignments header rows h.0 h.1 h.2 w.0 w.1))

first_any : (ps : Pieces) → FirstGood false ps → FirstLine (λ l. Unit {0}) ps
first_any no_pieces h = absurd h
first_any (piece f p ps) h = any_first (λ l. Unit {0}) (λ l. tt) (piece_lines p) (piece_first p h.1)

-- the first line of an item's content doesn't make a break of its marker
content_apart : (o : DocumentOptions) (m : Markers) (t : Bool) (k n : ℕ) (ds : List (List ℕ)) (b : Block)
    (rest : Pieces)
    → AreMarkers m k n → IsNormalBlock b → BlockTexts o (place_in_item m t) None ds b
    → FirstGood false (block_pieces o (place_in_item m t) None ds false b rest)
    → FirstLine (IsApart (item_number m k) (item_sign m)) (block_pieces o (place_in_item m t) None ds false b rest)
content_apart o (Bullets Sign.Asterisk spacing) t k n ds b rest u h w g =
    block_other o Sign.Asterisk t ds b rest u h w g
content_apart o (Bullets Sign.Hyphen spacing) t k n ds b rest u h w g = block_other o Sign.Hyphen t ds b rest u h w g
content_apart o (Bullets Sign.FullStop spacing) t k n ds b rest u h w g = absurd u
content_apart o (Bullets Sign.Parenthesis spacing) t k n ds b rest u h w g = absurd u
content_apart o (Numbers start highest delimiter spacing) t k n ds b rest u h w g =
    first_any (block_pieces o (place_in_item (Numbers start highest delimiter spacing) t) None ds false b rest) g

few_spaces : (m : Markers) (k : ℕ) → fewer_spaces m k ≤ 3
few_spaces m k = let b = (spaces_bounds m k).1 in omega (arith, b)

-- an item goes on a list
goes_on : (f : Bool) (mk : Marker) (n : ℕ) (c : Pieces) → Follows f container (pieces.item mk n c)
goes_on true mk n c = tt
goes_on false mk n c = tt

tight_place : (t : Bool) (bs : Blocks) → fits_list t bs ≡ true → t ≡ true → may_be_tight bs ≡ true
tight_place true bs h e = h
tight_place false bs h e = absurd (cc)

-- ---- tight items

fits_true : (b : Blocks) (x : Bool) → (x || false) ≡ true → x ≡ true
fits_true b true h = refl
fits_true b false h = absurd (cc)

and_left : (a b : Bool) → (a && b) ≡ true → a ≡ true
and_left true b h = refl
and_left false b h = absurd (cc)

and_right : (a b : Bool) → (a && b) ≡ true → b ≡ true
and_right true b h = h
and_right false b h = absurd (cc)

one_allowed : (start : Option ℕ) (o : DocumentOptions) (before outer : Option Sign) (n : ℕ)
    → is_one_or_none start ≡ true → Allowed under (item_number (markers_of o before outer start n) 0)
one_allowed None o before outer n h = tt
one_allowed (Some s) o before outer n h = grind (arith, nat_tests)

-- the first piece may follow a piece that is no box
abbrev FirstFollows : Last → Pieces → Type 0
FirstFollows m no_pieces = ⊥
FirstFollows m (piece f p ps) = Follows f m p

some_strong : (mk : Marker) (ps : Pieces) → IsPiece ps → Allowed under mk.number → Strong mk ps
some_strong mk no_pieces h a = absurd h
some_strong mk (piece f p ps) h a = a

follows_by : (g : Bool) (mk : Marker) (n : ℕ) (c : Pieces) → Strong mk c → Follows g other (pieces.item mk n c)
follows_by true mk n c h = tt
follows_by false mk n c h = h

-- a list that goes on a paragraph
list_follows : (o : DocumentOptions) (p : Place) (before : Option Sign) (ds : List (List ℕ)) (g : Bool) (b : Block)
    (rest : Pieces) → IsNormalBlock b → goes_on_a_paragraph b ≡ true
    → FirstFollows other (block_pieces o p before ds g b rest)
list_follows o p before ds g (paragraph content) rest h e = absurd (cc)
list_follows o p before ds g (heading level content) rest h e = absurd (cc)
list_follows o p before ds g (code_block language s) rest h e = absurd (cc)
list_follows o p before ds g (quote content) rest h e = absurd (cc)
list_follows o p before ds g thematic_break rest h e = absurd (cc)
list_follows o p before ds g (element name attributes content) rest h e = absurd (cc)
list_follows o p before ds g (tags s) rest h e = absurd (cc)
list_follows o p before ds g (table alignments header rows) rest h e = absurd (cc)
list_follows o p before ds g (list start t no_items) rest h e = absurd h.0
list_follows o p before ds g (list start t (item no_blocks others)) rest h e =
    absurd (let w = and_right (is_one_or_none start) false e in cc)
list_follows o p before ds g (list start t (item (block b bs) others)) rest h e =
    let m = markers_of o before p.outer start (suc (item_count others)) in
    let q = place_in_item m t in
    let more = further_pieces o (behind_first q) (sign_of o None q.outer b) (written_block o q None ds b).definitions
    bs in
    let c = block_pieces o q None ds false b more in
    follows_by g (marker_at m 0) (fewer_spaces m 0) c
    (some_strong (marker_at m 0) c (block_piece o q None ds false b more h.2.1.0)
    (one_allowed start o before p.outer (suc (item_count others)) (and_left (is_one_or_none start) true e)))

goes_after : (g : Bool) (ps : Pieces) → FirstGood g ps → FirstFollows other ps → AreGood other ps × CleanPieces
    ps
goes_after g no_pieces h f = absurd h
goes_after g (piece f p ps) h w = ((w, h.1, h.2), (h.3, h.4))

-- a paragraph, and right after it what may follow
close_first : (o : DocumentOptions) (p : Place) (ds : List (List ℕ)) (b : Block) (rest : Pieces) → is_paragraph
    b ≡ true
    → BlockTexts o p None ds b → AreGood other rest × CleanPieces rest
    → FirstGood false (block_pieces o p None ds false b rest)
close_first o p ds (paragraph content) rest h w r =
    let f = paragraph_flat (paragraph_text o ds content) w in
    (refl, f.reads, r.0, (f.clean, f.full), r.1)
close_first o p ds (heading level content) rest h w r = absurd (cc)
close_first o p ds (code_block language s) rest h w r = absurd (cc)
close_first o p ds (quote content) rest h w r = absurd (cc)
close_first o p ds thematic_break rest h w r = absurd (cc)
close_first o p ds (element name attributes content) rest h w r = absurd (cc)
close_first o p ds (tags s) rest h w r = absurd (cc)
close_first o p ds (list start t items) rest h w r = absurd (cc)
close_first o p ds (table alignments header rows) rest h w r = absurd (cc)

-- an item's content
content_of : (o : DocumentOptions) (m : Markers) (t : Bool) (k n : ℕ) (ds : List (List ℕ)) (first : Blocks)
    → AreMarkers m k n → AreNormalBlocks first → FirstTexts o (place_in_item m t) ds first
    → (HasBlock first → FirstGood false (first_pieces o (place_in_item m t) ds first))
    → IsContent (marker_at m k) (first_pieces o (place_in_item m t) ds first)
    × CleanPieces (first_pieces o (place_in_item m t) ds first)
content_of o m t k n ds no_blocks u h w g = (tt, tt)
content_of o m t k n ds (block b rest) u h w g =
    let p = place_in_item m t in
    let more = further_pieces o (behind_first p) (sign_of o None p.outer b) (written_block o p None ds b).definitions
    rest in
    let c = block_pieces o p None ds false b more in
    let f = to_filled c (g tt) in
    (to_content (marker_at m k) c f.0 (content_apart o m t k n ds b more u h.0 w.0 (g tt)), f.1)

either : {R : Type 0} → (t s : Bool) → t ≡ s → (t ≡ false → R) → (t ≡ true → R) → R
either t true e a b = b e
either t false e a b = a e

not_tight : (t : Bool) → t ≡ false → not t ≡ true
not_tight true e = absurd (cc)
not_tight false e = refl

mutual
  block_good : (o : DocumentOptions) (p : Place) (before : Option Sign) (ds : List (List ℕ)) (g : Bool) (b : Block)
      (rest : Pieces) → IsNormalBlock b → BlockTexts o p before ds b → AfterGood rest
      → FirstGood g (block_pieces o p before ds g b rest)
  block_good o p before ds g (paragraph content) rest h w r =
      flat_first g (paragraph_text o ds content) (text (paragraph_text o ds content)) rest
      (paragraph_flat (paragraph_text o ds content) w) r
  block_good o p before ds g (heading level content) rest h w r =
      flat_first g (written_heading o ds level content).text (headed level (heading_text o ds level content)) rest
      (heading_good o ds level content h w).0 r
  block_good o p before ds g (code_block language s) rest h w r =
      flat_first g (written_block o p before ds (code_block language s)).text (code language s) rest
      (code_flat o.code_block_fence language s h.0 h.1) r
  block_good o p before ds g (quote content) rest h w r =
      let q = place_in_quote p.in_item in
      let f = to_filled (first_pieces o q ds content) (blocks_good o q ds content (λ e. absurd (cc)) h.0 h.1 w) in
      (refl, f.0, r.0 container, f.1, r.1)
  block_good o p before ds g thematic_break rest h w r =
      flat_first g (writing.rule o.hr_style p.in_item) rule rest (rule_flat o.hr_style p.in_item) r
  block_good o p before ds g (element name attributes content) rest h w r = absurd h
  block_good o p before ds g (tags s) rest h w r = flat_first g s (html s) rest (tags_flat s h) r
  block_good o p before ds g (list start t items) rest h w r =
      items_good o (markers_of o before p.outer start (item_count items)) t 0 ds g items rest
      (markers_are o before p.outer start (item_count items) h.1) h.0 h.2 w r
  block_good o p before ds g (table alignments header rows) rest h w r =
      let s = (written_block o p before ds (table alignments header rows)).text in
      flat_first g s (grid alignments (cell_texts o ds header) (table_rows o ds header rows)) rest
      (table_flat alignments (cell_texts o ds header) (row_texts o (after_cells o ds header) rows) s
      (table_good o ds alignments header rows h.0 h.1 h.2 w.0 w.1) (h.1 ∙ sym (texts_length o ds header))
      (some_texts o ds header h.0)) r

  blocks_good : (o : DocumentOptions) (p : Place) (ds : List (List ℕ)) (bs : Blocks)
      → (p.tight ≡ true → may_be_tight bs ≡ true) → HasBlock bs → AreNormalBlocks bs → FirstTexts o p ds
      bs
      → FirstGood false (first_pieces o p ds bs)
  blocks_good o p ds no_blocks f n h w = absurd n
  blocks_good o p ds (block b no_blocks) f n h w = block_good o p None ds false b no_pieces h.0 w.0 nothing_after
  blocks_good o p ds (block b (block c no_blocks)) f n h w =
      let q = behind_first p in
      let before = sign_of o None p.outer b in
      let es = (written_block o p None ds b).definitions in
      let more = further_pieces o q before es (block c no_blocks) in
      either p.tight p.tight refl
      (λ e. block_good o p None ds false b more h.0 w.0 (further_good o q before es (block c no_blocks) e h.1 w.1))
      (λ e. close_first o p ds b more (and_left (is_paragraph b) (goes_on_a_paragraph c) (f e)) w.0
      (goes_after (not p.tight) more
      (block_good o q before es (not p.tight) c no_pieces h.1.0 w.1.0 nothing_after)
      (list_follows o q before es (not p.tight) c no_pieces h.1.0
      (and_right (is_paragraph b) (goes_on_a_paragraph c) (f e)))))
  blocks_good o p ds (block b (block c (block d bs))) f n h w =
      let q = behind_first p in
      let before = sign_of o None p.outer b in
      let es = (written_block o p None ds b).definitions in
      let more = further_pieces o q before es (block c (block d bs)) in
      either p.tight p.tight refl
      (λ e. block_good o p None ds false b more h.0 w.0
      (further_good o q before es (block c (block d bs)) e h.1 w.1))
      (λ e. absurd (let x = f e in cc))

  further_good : (o : DocumentOptions) (p : Place) (before : Option Sign) (ds : List (List ℕ)) (bs : Blocks)
      → p.tight ≡ false → AreNormalBlocks bs → FurtherTexts o p before ds bs
      → AfterGood (further_pieces o p before ds bs)
  further_good o p before ds no_blocks e h w = nothing_after
  further_good o p before ds (block b rest) e h w =
      let after = sign_of o before p.outer b in
      let es = (written_block o p before ds b).definitions in
      let more = further_pieces o p after es rest in
      to_after (not p.tight) (block_pieces o p before ds (not p.tight) b more) (not_tight p.tight e)
      (block_good o p before ds (not p.tight) b more h.0 w.0 (further_good o p after es rest e h.1 w.1))

  items_good : (o : DocumentOptions) (m : Markers) (t : Bool) (k : ℕ) (ds : List (List ℕ)) (g : Bool)
      (items : Items)
      (rest : Pieces) → AreMarkers m k (item_count items) → HasItem items → AreNormalItems t items
      → ItemTexts o m t ds items → AfterGood rest → FirstGood g (item_pieces o m t k ds g items rest)
  items_good o m t k ds g no_items rest u n h w r = absurd n
  items_good o m t k ds g (item first no_items) rest u n h w r =
      let p = place_in_item m t in
      let c = content_of o m t k 1 ds first u h.1 w.0
      (λ s. blocks_good o p ds first (tight_place t first h.0) s h.1 w.0) in
      (refl, (marker_is m k 0 u, few_spaces m k, c.0), r.0 container, (marker_clean m k 0 u, c.1), r.1)
  items_good o m t k ds g (item first (item second others)) rest u n h w r =
      let p = place_in_item m t in
      let i = suc (item_count others) in
      let c = content_of o m t k (suc i) ds first u h.1 w.0
      (λ s. blocks_good o p ds first (tight_place t first h.0) s h.1 w.0) in
      let es = (written_blocks o p ds first).definitions in
      let next = items_good o m t (suc k) es (not t) (item second others) rest (next_markers m k i u) tt h.2 w.1 r in
      let d = first_pieces o p es second in (
        refl,
        (marker_is m k i u, few_spaces m k, c.0),
        (goes_on (not t) (marker_at m (suc k)) (fewer_spaces m (suc k)) d, next.1, next.2),
        (marker_clean m k i u, c.1),
        (next.3, next.4),
      )

-- ---- the pieces of a document

pub document_filled : (o : DocumentOptions) (d : Blocks) → HasBlock d → AreNormalBlocks d
    → FirstTexts o outermost [] d
    → IsFilled (first_pieces o outermost [] d) × CleanPieces (first_pieces o outermost [] d)
document_filled o d n h w =
    to_filled (first_pieces o outermost [] d) (blocks_good o outermost [] d (λ e. absurd (cc)) n h w)
