-- A document as pieces: their parts are the document's, and their text is what is written of it.
use Rattle.std.proofs.Common.{◌≡◌, ◌∙◌, refl, sym, ap, ℕ, suc, ◌≤◌, Bool, true, false, not, List, [], ◌+◌, ◌-◌, ◌++◌}
use Rattle.std.proofs.Common.{length, append_assoc, arith}
use Rattle.std.specs.Prelude.{Option, None}
use Rattle.htmd_document.specs.Documents.{Block, Blocks, Items, paragraph, heading, code_block, quote}
use Rattle.htmd_document.specs.Documents.{thematic_break, list, table, element, tags, no_blocks, block, no_items, item}
use Rattle.htmd_commonmark.specs.declared.blocks.Place.{Place}
use Rattle.htmd_commonmark.specs.declared.markers.Sign.{Sign}
use Rattle.htmd_commonmark.specs.declared.markers.Markers.{Markers}
use Rattle.htmd_commonmark.specs.declared.markers.Markers.TheVariants.{Bullets, Numbers}
use Rattle.htmd_commonmark.specs.declared.options.DocumentOptions.{DocumentOptions}
use Rattle.htmd_commonmark.specs.Pages as pages
use Rattle.htmd_commonmark.specs.BlockMarkdown.{marker, bounded, item_count, markers_of, separator, place_in_item}
use Rattle.htmd_commonmark.specs.BlockMarkdown.{place_in_quote, behind_first, sign_of, written_blocks, further_blocks}
use Rattle.htmd_commonmark.specs.BlockMarkdown.{written_block, further_items}
use Rattle.htmd_commonmark.specs.BlockMarkdown as writing
use Rattle.htmd_commonmark_reading.specs.Boxes.{quoting, listing, ClosedBlock, text, headed, code, rule, html, grid, boxed}
use Rattle.htmd_commonmark_reading.specs.Boxes.{ClosedBlocks, no_closed_blocks, closed_block}
use Rattle.htmd_law_blocks.specs.LineTexts.{lines_of}
use Rattle.htmd_law_blocks.specs.DocumentParts.{paragraph_text, heading_text, cell_texts, table_rows}
use Rattle.htmd_law_blocks.specs.DocumentParts.{item_sign, item_number, item_columns, first_parts, further_parts}
use Rattle.htmd_law_blocks.specs.DocumentParts.{block_parts, item_parts}
use Rattle.htmd_law_blocks.specs.NormalBlocks.{HasItem, IsNormalBlock, AreNormalBlocks, AreNormalItems}
use Rattle.htmd_law_blocks.proofs.PiecesLemmas.{Marker, Piece, Pieces, no_pieces, piece, columns, content_columns}
use Rattle.htmd_law_blocks.proofs.PiecesLemmas.{pieces_parts}
use Rattle.htmd_law_blocks.proofs.PiecesLemmas as pieces
use Rattle.htmd_law_blocks.proofs.PieceTextsLemmas.{pieces_text, further_text}
use Rattle.htmd_law_blocks.proofs.FlatLemmas.{lines_back}

abbrev pub marker_at : Markers → ℕ → Marker
marker_at markers k =
    record { text = marker markers k; sign = item_sign markers; number = item_number markers k }

-- the spaces after a marker, less one
abbrev pub fewer_spaces : Markers → ℕ → ℕ
fewer_spaces markers k = writing.spaces markers k - 1

abbrev pub flat_piece : List ℕ → ClosedBlock → Piece
flat_piece s p = pieces.flat (lines_of s) p no_closed_blocks

abbrev mutual
  pub first_pieces : DocumentOptions → Place → List (List ℕ) → Blocks → Pieces
  first_pieces options place definitions no_blocks = no_pieces
  first_pieces options place definitions (block first rest) =
      block_pieces options place None definitions false first
      (further_pieces options (behind_first place) (sign_of options None place.outer first)
      (written_block options place None definitions first).definitions rest)

  pub further_pieces : DocumentOptions → Place → Option Sign → List (List ℕ) → Blocks → Pieces
  further_pieces options place before definitions no_blocks = no_pieces
  further_pieces options place before definitions (block first rest) =
      block_pieces options place before definitions (not place.tight) first
      (further_pieces options place (sign_of options before place.outer first)
      (written_block options place before definitions first).definitions rest)

  pub block_pieces : DocumentOptions → Place → Option Sign → List (List ℕ) → Bool → Block → Pieces →
      Pieces
  block_pieces options place before definitions gap (paragraph content) rest =
      piece gap (flat_piece (written_block options place before definitions (paragraph content)).text
      (text (paragraph_text options definitions content))) rest
  block_pieces options place before definitions gap (heading level content) rest =
      piece gap (flat_piece (written_block options place before definitions (heading level content)).text
      (headed level (heading_text options definitions level content))) rest
  block_pieces options place before definitions gap (code_block language s) rest =
      piece gap (flat_piece (written_block options place before definitions (code_block language s)).text
      (code language s))
      rest
  block_pieces options place before definitions gap (quote content) rest =
      piece gap (pieces.quote (first_pieces options (place_in_quote place.in_item) definitions content)) rest
  block_pieces options place before definitions gap thematic_break rest =
      piece gap (flat_piece (written_block options place before definitions thematic_break).text rule) rest
  block_pieces options place before definitions gap (element name attributes content) rest =
      piece gap (flat_piece [] (html [])) rest
  block_pieces options place before definitions gap (tags s) rest = piece gap (flat_piece s (html s)) rest
  block_pieces options place before definitions gap (list start is_tight items) rest =
      item_pieces options (markers_of options before place.outer start (item_count items)) is_tight 0 definitions gap
      items
      rest
  block_pieces options place before definitions gap (table alignments header rows) rest =
      piece gap (flat_piece (written_block options place before definitions (table alignments header rows)).text
      (grid alignments (cell_texts options definitions header)
      (table_rows options definitions header rows))) rest

  pub item_pieces : DocumentOptions → Markers → Bool → ℕ → List (List ℕ) → Bool → Items → Pieces →
      Pieces
  item_pieces options markers is_tight k definitions gap no_items rest = rest
  item_pieces options markers is_tight k definitions gap (item first others) rest =
      piece gap
      (pieces.item (marker_at markers k) (fewer_spaces markers k)
      (first_pieces options (place_in_item markers is_tight) definitions first))
      (item_pieces options markers is_tight (suc k)
      (written_blocks options (place_in_item markers is_tight) definitions first).definitions (not is_tight) others
      rest)

-- ---- spaces

bounds : (s : ℕ) → (1 ≤ bounded s) × (bounded s ≤ 4)
bounds s = (omega arith, omega arith)

pub spaces_bounds : (m : Markers) (k : ℕ) → (1 ≤ writing.spaces m k) × (writing.spaces m k ≤ 4)
spaces_bounds (Bullets bullet spacing) k = bounds spacing
spaces_bounds (Numbers start highest delimiter spacing) k = (omega arith, omega arith)

pub spaces_again : (m : Markers) (k : ℕ) → suc (fewer_spaces m k) ≡ writing.spaces m k
spaces_again m k = let b = (spaces_bounds m k).0 in omega (arith, b)

-- ---- parts

abbrev pub IsPiece : Pieces → Type 0
IsPiece no_pieces = ⊥
IsPiece (piece g p ps) = Unit {0}

pub items_piece : (o : DocumentOptions) (m : Markers) (t : Bool) (k : ℕ) (ds : List (List ℕ)) (g : Bool)
    (items : Items)
    (rest : Pieces) → HasItem items → IsPiece (item_pieces o m t k ds g items rest)
items_piece o m t k ds g no_items rest h = absurd h
items_piece o m t k ds g (item first others) rest h = tt

pub block_piece : (o : DocumentOptions) (p : Place) (before : Option Sign) (ds : List (List ℕ)) (g : Bool) (b : Block)
    (rest : Pieces) → IsNormalBlock b → IsPiece (block_pieces o p before ds g b rest)
block_piece o p before ds g (paragraph content) rest h = tt
block_piece o p before ds g (heading level content) rest h = tt
block_piece o p before ds g (code_block language s) rest h = tt
block_piece o p before ds g (quote content) rest h = tt
block_piece o p before ds g thematic_break rest h = tt
block_piece o p before ds g (element name attributes content) rest h = tt
block_piece o p before ds g (tags s) rest h = tt
block_piece o p before ds g (list start is_tight items) rest h =
    items_piece o (markers_of o before p.outer start (item_count items)) is_tight 0 ds g items rest h.0
block_piece o p before ds g (table alignments header rows) rest h = tt

some_columns : (m : Marker) (n : ℕ) (ps : Pieces) → IsPiece ps → content_columns m n ps ≡ columns m n
some_columns m n no_pieces h = absurd h
some_columns m n (piece g p ps) h = refl

same_columns : (o : DocumentOptions) (m : Markers) (t : Bool) (k : ℕ) (ds : List (List ℕ)) (bs : Blocks)
    → AreNormalBlocks bs
    → content_columns (marker_at m k) (fewer_spaces m k) (first_pieces o (place_in_item m t) ds bs)
    ≡ item_columns m k bs
same_columns o m t k ds no_blocks h = omega arith
same_columns o m t k ds (block first rest) h =
    let p = place_in_item m t in
    let ps = first_pieces o p ds (block first rest) in
    let e : columns (marker_at m k) (fewer_spaces m k) ≡ length (marker m k) + writing.spaces m k =
    let b = spaces_again m k in omega (arith, b) in
    some_columns (marker_at m k) (fewer_spaces m k) ps
    (block_piece o p None ds false first
    (further_pieces o (behind_first p) (sign_of o None p.outer first) (written_block o p None ds first).definitions
    rest) h.0)
    ∙ e

mutual
  pub first_same : (o : DocumentOptions) (p : Place) (ds : List (List ℕ)) (bs : Blocks) → AreNormalBlocks bs
      → pieces_parts (first_pieces o p ds bs) ≡ first_parts o p ds bs
  first_same o p ds no_blocks h = refl
  first_same o p ds (block first rest) h =
      let q = behind_first p in
      let before = sign_of o None p.outer first in
      let es = (written_block o p None ds first).definitions in
      block_same o p None ds false first (further_pieces o q before es rest) (further_parts o q before es rest) h.0
      (further_same o q before es rest h.1)

  further_same : (o : DocumentOptions) (p : Place) (before : Option Sign) (ds : List (List ℕ)) (bs : Blocks)
      → AreNormalBlocks bs → pieces_parts (further_pieces o p before ds bs) ≡ further_parts o p before ds bs
  further_same o p before ds no_blocks h = refl
  further_same o p before ds (block first rest) h =
      let after = sign_of o before p.outer first in
      let es = (written_block o p before ds first).definitions in
      block_same o p before ds (not p.tight) first (further_pieces o p after es rest)
      (further_parts o p after es rest) h.0
      (further_same o p after es rest h.1)

  block_same : (o : DocumentOptions) (p : Place) (before : Option Sign) (ds : List (List ℕ)) (g : Bool) (b : Block)
      (rest : Pieces) (rs : ClosedBlocks) → IsNormalBlock b → pieces_parts rest ≡ rs
      → pieces_parts (block_pieces o p before ds g b rest) ≡ block_parts o p before ds g b rs
  block_same o p before ds g (paragraph content) rest rs h e = ap (closed_block g (text (paragraph_text o ds content)))
      e
  block_same o p before ds g (heading level content) rest rs h e =
      ap (closed_block g (headed level (heading_text o ds level content))) e
  block_same o p before ds g (code_block language s) rest rs h e = ap (closed_block g (code language s)) e
  block_same o p before ds g (quote content) rest rs h e =
      ap (λ (x : ClosedBlocks). closed_block g (boxed quoting x) (pieces_parts rest))
      (first_same o (place_in_quote p.in_item) ds content h.1)
      ∙ ap (closed_block g (boxed quoting (first_parts o (place_in_quote p.in_item) ds content))) e
  block_same o p before ds g thematic_break rest rs h e = ap (closed_block g rule) e
  block_same o p before ds g (element name attributes content) rest rs h e = absurd h
  block_same o p before ds g (tags s) rest rs h e = ap (closed_block g (html s)) e
  block_same o p before ds g (list start t items) rest rs h e =
      items_same o (markers_of o before p.outer start (item_count items)) t 0 ds g items rest rs h.2 e
  block_same o p before ds g (table alignments header rows) rest rs h e =
      ap (closed_block g (grid alignments (cell_texts o ds header) (table_rows o ds header rows))) e

  items_same : (o : DocumentOptions) (m : Markers) (t : Bool) (k : ℕ) (ds : List (List ℕ)) (g : Bool)
      (items : Items)
      (rest : Pieces) (rs : ClosedBlocks) → AreNormalItems t items → pieces_parts rest ≡ rs
      → pieces_parts (item_pieces o m t k ds g items rest) ≡ item_parts o m t k ds g items rs
  items_same o m t k ds g no_items rest rs h e = e
  items_same o m t k ds g (item first others) rest rs h e =
      let p = place_in_item m t in
      let es = (written_blocks o p ds first).definitions in
      let more = item_pieces o m t (suc k) es (not t) others rest in
      let kind = λ (c : ℕ). listing (item_sign m) (item_number m k) c in
      ap (λ (c : ℕ). closed_block g (boxed (kind c) (pieces_parts (first_pieces o p ds first))) (pieces_parts more))
      (same_columns o m t k ds first h.1)
      ∙ ap (λ (x : ClosedBlocks). closed_block g (boxed (kind (item_columns m k first)) x) (pieces_parts more))
      (first_same o p ds first h.1)
      ∙ ap (closed_block g (boxed (kind (item_columns m k first)) (first_parts o p ds first)))
      (items_same o m t (suc k) es (not t) others rest rs h.2 e)

-- ---- text

not_not : (b : Bool) → not (not b) ≡ b
not_not true = refl
not_not false = refl

abbrev pub HasGap : Bool → Pieces → Type 0
HasGap g no_pieces = ⊥
HasGap g (piece f p ps) = f ≡ g

-- one piece's text before the others
flat_text : (g : Bool) (s : List ℕ) (p : ClosedBlock) (rest : Pieces)
    → pieces_text (piece g (flat_piece s p) rest) ≡ s ++ further_text rest
flat_text g s p rest = ap (λ (x : List ℕ). x ++ further_text rest) (lines_back s)

-- a later piece has a separator before it
further_by : (g : Bool) (ps : Pieces) (s : List ℕ) → HasGap g ps → pieces_text ps ≡ s
    → further_text ps ≡ separator (not g) ++ s
further_by g no_pieces s h e = absurd h
further_by g (piece f p ps) s h e =
    ap (λ (x : Bool). separator (not x) ++ pieces_text (piece f p ps)) h
    ∙ ap (λ (x : List ℕ). separator (not g) ++ x) e

pub block_gap : (o : DocumentOptions) (p : Place) (before : Option Sign) (ds : List (List ℕ)) (g : Bool) (b : Block)
    (rest : Pieces) → IsNormalBlock b → HasGap g (block_pieces o p before ds g b rest)
block_gap o p before ds g (paragraph content) rest h = refl
block_gap o p before ds g (heading level content) rest h = refl
block_gap o p before ds g (code_block language s) rest h = refl
block_gap o p before ds g (quote content) rest h = refl
block_gap o p before ds g thematic_break rest h = refl
block_gap o p before ds g (element name attributes content) rest h = refl
block_gap o p before ds g (tags s) rest h = refl
block_gap o p before ds g (list start is_tight no_items) rest h = absurd h.0
block_gap o p before ds g (list start is_tight (item first others)) rest h = refl
block_gap o p before ds g (table alignments header rows) rest h = refl

item_written : (m : Markers) (k : ℕ) (s t : List ℕ) (more : Pieces) → s ≡ t
    → pages.indented (marker m k) (suc (fewer_spaces m k)) s ++ further_text more
    ≡ pages.indented (marker m k) (writing.spaces m k) t ++ further_text more
item_written m k s t more e =
    ap (λ (x : List ℕ). pages.indented (marker m k) (suc (fewer_spaces m k)) x ++ further_text more) e
    ∙ ap (λ (n : ℕ). pages.indented (marker m k) n t ++ further_text more) (spaces_again m k)

mutual
  pub first_written : (o : DocumentOptions) (p : Place) (ds : List (List ℕ)) (bs : Blocks) → AreNormalBlocks bs
      → pieces_text (first_pieces o p ds bs) ≡ (written_blocks o p ds bs).text
  first_written o p ds no_blocks h = refl
  first_written o p ds (block first rest) h =
      let q = behind_first p in
      let before = sign_of o None p.outer first in
      let es = (written_block o p None ds first).definitions in
      block_written o p None ds false first (further_pieces o q before es rest) h.0
      ∙ ap (λ (x : List ℕ). (written_block o p None ds first).text ++ x) (further_written o q before es rest h.1)

  further_written : (o : DocumentOptions) (p : Place) (before : Option Sign) (ds : List (List ℕ)) (bs : Blocks)
      → AreNormalBlocks bs → further_text (further_pieces o p before ds bs) ≡ (further_blocks o p before ds
      bs).text
  further_written o p before ds no_blocks h = refl
  further_written o p before ds (block first rest) h =
      let after = sign_of o before p.outer first in
      let w = written_block o p before ds first in
      let more = further_pieces o p after w.definitions rest in
      let s = w.text ++ further_text more in
      further_by (not p.tight) (block_pieces o p before ds (not p.tight) first more) s
      (block_gap o p before ds (not p.tight) first more h.0) (block_written o p before ds (not p.tight) first more h.0)
      ∙ ap (λ (b : Bool). separator b ++ s) (not_not p.tight)
      ∙ sym (append_assoc (separator p.tight) w.text (further_text more))
      ∙ ap (λ (x : List ℕ). (separator p.tight ++ w.text) ++ x) (further_written o p after w.definitions rest h.1)

  block_written : (o : DocumentOptions) (p : Place) (before : Option Sign) (ds : List (List ℕ)) (g : Bool) (b : Block)
      (rest : Pieces) → IsNormalBlock b
      → pieces_text (block_pieces o p before ds g b rest) ≡ (written_block o p before ds b).text ++ further_text
      rest
  block_written o p before ds g (paragraph content) rest h =
      flat_text g (written_block o p before ds (paragraph content)).text (text (paragraph_text o ds content)) rest
  block_written o p before ds g (heading level content) rest h =
      flat_text g (written_block o p before ds (heading level content)).text
      (headed level (heading_text o ds level content)) rest
  block_written o p before ds g (code_block language s) rest h =
      flat_text g (written_block o p before ds (code_block language s)).text (code language s) rest
  block_written o p before ds g (quote content) rest h =
      ap (λ (x : List ℕ). pages.quoted x ++ further_text rest)
      (first_written o (place_in_quote p.in_item) ds content h.1)
  block_written o p before ds g thematic_break rest h =
      flat_text g (written_block o p before ds thematic_break).text rule rest
  block_written o p before ds g (element name attributes content) rest h = absurd h
  block_written o p before ds g (tags s) rest h = flat_text g s (html s) rest
  block_written o p before ds g (list start t no_items) rest h = absurd h.0
  block_written o p before ds g (list start t (item first others)) rest h =
      let m = markers_of o before p.outer start (item_count (item first others)) in
      let q = place_in_item m t in
      let w = written_blocks o q ds first in
      let more = item_pieces o m t 1 w.definitions (not t) others rest in
      let s = pages.indented (marker m 0) (writing.spaces m 0) w.text in
      item_written m 0 (pieces_text (first_pieces o q ds first)) w.text more (first_written o q ds first h.2.1)
      ∙ ap (λ (x : List ℕ). s ++ x) (more_written o m t 1 w.definitions others rest h.2.2)
      ∙ sym (append_assoc s (further_items o m t 1 w.definitions others).text (further_text rest))
  block_written o p before ds g (table alignments header rows) rest h =
      flat_text g (written_block o p before ds (table alignments header rows)).text
      (grid alignments (cell_texts o ds header) (table_rows o ds header rows)) rest

  more_written : (o : DocumentOptions) (m : Markers) (t : Bool) (k : ℕ) (ds : List (List ℕ)) (items : Items)
      (rest : Pieces) → AreNormalItems t items
      → further_text (item_pieces o m t k ds (not t) items rest)
      ≡ (further_items o m t k ds items).text ++ further_text rest
  more_written o m t k ds no_items rest h = refl
  more_written o m t k ds (item first others) rest h =
      let p = place_in_item m t in
      let w = written_blocks o p ds first in
      let more = item_pieces o m t (suc k) w.definitions (not t) others rest in
      let s = pages.indented (marker m k) (writing.spaces m k) w.text in
      let u = (further_items o m t (suc k) w.definitions others).text in
      ap (λ (b : Bool). separator b ++ pieces_text (item_pieces o m t k ds (not t) (item first others) rest))
      (not_not t)
      ∙ ap (λ (x : List ℕ). separator t ++ x)
      (item_written m k (pieces_text (first_pieces o p ds first)) w.text more (first_written o p ds first h.1))
      ∙ ap (λ (x : List ℕ). separator t ++ (s ++ x)) (more_written o m t (suc k) w.definitions others rest h.2)
      ∙ sym (append_assoc (separator t) s (u ++ further_text rest))
      ∙ sym (append_assoc (separator t ++ s) u (further_text rest))
