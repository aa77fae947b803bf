-- What is written of flat blocks is as long as their size says.
use Rattle.std.proofs.Common.{◌≡◌, ℕ, zero, suc, ◌+◌, ◌^◌, ◌<◌, ◌≤◌, Bool, true, false, not, cond, List, []}
use Rattle.std.proofs.Common.{◌∷◌, ◌++◌, length, map, refl, sym, ap, ◌∙◌, append_assoc, append-nil, length-append}
use Rattle.std.proofs.Common.{arith}
use Rattle.std.proofs.Common.{Option, Some, None}
use Rattle.std.specs.Prelude.{◌==◌, ◌&&◌, replicate, nat_le}
use Rattle.std.specs.Fmt.{decimal}
use Rattle.std.specs.List.{list_any, slice_split}
use Rattle.std.proofs.lemmas.Bool.{and_parts, or_parts}
use Rattle.std.proofs.lemmas.Bool.Decides.{nat_tests}
use Rattle.std.proofs.lemmas.Fmt.{decimal-digits_of, decimal_by_steps}
use Rattle.std.proofs.lemmas.List.{length-map}
use Rattle.htmd_lexical.specs.Characters.{line_feed}
use Rattle.htmd_text.specs.Digits.{digits}
use Rattle.htmd_text.specs.Joins.{joined_texts}
use Rattle.htmd_text.specs.Trims.{is_line_feed}
use Rattle.htmd_markdown.specs.Fences.{symbol_of, info_string, fence_len}
use Rattle.htmd_markdown.specs.declared.fence.CodeBlockFence.{CodeBlockFence}
use Rattle.htmd_markdown.specs.declared.fence.CodeBlockFence.TheVariants.{Tildes, Backticks}
use Rattle.htmd_markdown.specs.declared.thematic_break.HrStyle.{HrStyle}
use Rattle.htmd_markdown.specs.declared.thematic_break.HrStyle.TheVariants.{Dashes, Asterisks, Underscores}
use Rattle.htmd_document.specs.declared.document.Alignment.{Alignment}
use Rattle.htmd_document.specs.Documents.{Inlines, Block, Blocks, Items, paragraph, heading, code_block, quote}
use Rattle.htmd_document.specs.Documents.{thematic_break, list, table, element, tags, no_blocks, block, no_items, item}
use Rattle.htmd_document.specs.NormalDocuments.{are_short_numbers}
use Rattle.htmd_document.specs.TightItems.{is_filled}
use Rattle.htmd_commonmark.specs.BlockMarkdown.{line_of, underlined, number_signs, is_underlined, written_heading, rule}
use Rattle.htmd_commonmark.specs.BlockMarkdown.{WrittenCells, WrittenRows, written_cells, written_rows, written_table}
use Rattle.htmd_commonmark.specs.BlockMarkdown.{sign_text, bullet_of, delimiter_of, marker, spaces, item_count}
use Rattle.htmd_commonmark.specs.BlockMarkdown.{markers_of, separator, place_in_item, place_in_quote, behind_first}
use Rattle.htmd_commonmark.specs.BlockMarkdown.{sign_of, written_blocks, further_blocks, written_block, written_items}
use Rattle.htmd_commonmark.specs.BlockMarkdown.{further_items}
use Rattle.htmd_commonmark.specs.DocumentMarkdown.{outermost, flat_markdown, written_definitions}
use Rattle.htmd_commonmark.specs.InlineMarkdown.{written_line}
use Rattle.htmd_commonmark.specs.Pages.{IsMarker, quoted_line, indented}
use Rattle.htmd_commonmark.specs.TableLines.{with_escaped_bars, table_text, lines_of, column_widths, line_width}
use Rattle.htmd_commonmark.specs.TableLines.{longest_padded, narrowest}
use Rattle.htmd_commonmark.specs.WrittenText.{Written}
use Rattle.htmd_commonmark.specs.declared.blocks.Place.{Place}
use Rattle.htmd_commonmark.specs.declared.line.LineKind.{LineKind}
use Rattle.htmd_commonmark.specs.declared.line.LineKind.TheVariants.{Paragraph, Heading, Cell}
use Rattle.htmd_commonmark.specs.declared.markers.Markers.{Markers}
use Rattle.htmd_commonmark.specs.declared.markers.Sign.{Sign}
use Rattle.htmd_commonmark.specs.declared.options.DocumentOptions.{DocumentOptions}
use Rattle.htmd_commonmark.proofs.BlocksLemmas.{sign_is_marker, number_is_marker}
use Rattle.htmd_chunks.specs.Measures.{marker_len, spaces_len, item_width, block_size, blocks_size}
use Rattle.htmd_chunks.specs.Measures.{further_size, item_size, items_size, further_items_size}
use Rattle.htmd_chunks.specs.Pieces.{piece_options}
use Rattle.htmd_chunks.specs.Rows.{cell_texts}
use Rattle.htmd_chunks.specs.Sizes.{nothing, plus, text_size, gap_size, quoted_size, indented_size}
use Rattle.htmd_chunks.specs.declared.bounds.ListShape.{ListShape}
use Rattle.htmd_chunks.specs.declared.size.Size.{Size}
use Rattle.htmd_chunks.proofs.BegunTextsLemmas.{at, inlines-apart, begins-append, replicate-begins}
use Rattle.htmd_chunks.proofs.RunsLemmas.{IsSomething, something}
use Rattle.htmd_chunks.proofs.SizesLemmas.{begins_well, same_size, some-lines, size-behind, size-apart, size-quoted}
use Rattle.htmd_chunks.proofs.SizesLemmas.{item-indented, item-empty}

-- ---- what can be measured

abbrev pub paragraph_text : DocumentOptions → Inlines → List ℕ
paragraph_text options content = (written_line (line_of (piece_options options) Paragraph) [] content).text

abbrev pub has_item : Items → Bool
has_item no_items = false
has_item (item first rest) = true

-- flat blocks, each with something in its first line
abbrev mutual
  pub is_ready : DocumentOptions → Block → Bool
  is_ready options (paragraph content) = begins_well (paragraph_text options content)
  is_ready options (heading level content) = begins_well (paragraph_text options content)
  is_ready options (code_block language s) = true
  is_ready options (quote content) = is_filled content && are_ready options content
  is_ready options thematic_break = true
  is_ready options (list start is_tight items) =
      (has_item items && are_short_numbers start (item_count items)) && are_ready_items options items
  is_ready options (table alignments header rows) = true
  is_ready options (element name attributes content) = false
  is_ready options (tags s) = begins_well s

  pub are_ready : DocumentOptions → Blocks → Bool
  are_ready options no_blocks = true
  are_ready options (block first rest) = is_ready options first && are_ready options rest

  pub are_ready_items : DocumentOptions → Items → Bool
  are_ready_items options no_items = true
  are_ready_items options (item first rest) = are_ready options first && are_ready_items options rest

-- the size of what is written, and no more definitions
abbrev pub Writes : Written → Size → List (List ℕ) → Type 0
Writes w size definitions = (text_size w.text ≡ size) × (w.definitions ≡ definitions)

-- ---- leaves

pub leaf-alone : (options : DocumentOptions) (b : Block)
    → (written_block (piece_options options) outermost None [] b).definitions ≡ []
    → text_size (flat_markdown (piece_options options) (block b no_blocks))
    ≡ text_size (written_block (piece_options options) outermost None [] b).text
leaf-alone options b none =
    let w = written_block (piece_options options) outermost None [] b in
    ap (λ ds. text_size ((w.text ++ []) ++ written_definitions ds)) none
    ∙ ap text_size (append-nil (w.text ++ []) ∙ append-nil w.text)

-- what is written anywhere as it is alone
leaf-written : (options : DocumentOptions) (place : Place) (before : Option Sign) (ds : List (List ℕ)) (b : Block)
    → written_block (piece_options options) place before ds b
    ≡ at (written_block (piece_options options) outermost None [] b).text ds
    → (written_block (piece_options options) outermost None [] b).definitions ≡ []
    → Writes (written_block (piece_options options) place before ds b)
    (text_size (flat_markdown (piece_options options) (block b no_blocks))) ds
leaf-written options place before ds b is none = (
  ap (λ (w : Written). text_size w.text) is ∙ sym (leaf-alone options b none),
  ap (λ (w : Written). w.definitions) is,
)

pub line-apart : (options : DocumentOptions) (kind : LineKind) (ds : List (List ℕ)) (content : Inlines)
    → written_line (line_of (piece_options options) kind) ds content
    ≡ at (written_line (line_of (piece_options options) kind) [] content).text ds
line-apart options kind ds content = inlines-apart kind options.br_style false [] ds None content

heading-apart : (options : DocumentOptions) (ds : List (List ℕ)) (level : ℕ) (content : Inlines)
    → written_heading (piece_options options) ds level content
    ≡ at (written_heading (piece_options options) [] level content).text ds
heading-apart options ds level content =
    let below : List (List ℕ) → Written =
    (λ es. let w = written_line (line_of (piece_options options) Paragraph) es content in
    record { text = underlined level w.text; definitions = w.definitions }) in
    let behind : List (List ℕ) → Written =
    (λ es. let w = written_line (line_of (piece_options options) Heading) es content in
    record { text = number_signs level ++ w.text; definitions = w.definitions }) in
    elim (is_underlined (piece_options options) level content)
    as (λ e. cond e (below ds) (behind ds) ≡ at (cond e (below []) (behind [])).text ds) [
      | true ↦
          ap (λ (w : Written). at (underlined level w.text) w.definitions) (line-apart options Paragraph ds content)
      | false ↦
          ap (λ (w : Written). at (number_signs level ++ w.text) w.definitions)
          (line-apart options Heading ds content)
    ]

rule-size : (style : HrStyle) (in_item : Bool)
    → text_size (rule style in_item) ≡ record { bytes = 5; full = 1; empty = 0 }
rule-size style true = refl
rule-size Dashes false = refl
rule-size Asterisks false = refl
rule-size Underscores false = refl

abbrev cells_of : List (List ℕ) → List (List ℕ) → WrittenCells
cells_of cells definitions = record { cells = cells; definitions = definitions }

abbrev rows_of : List (List (List ℕ)) → List (List ℕ) → WrittenRows
rows_of rows definitions = record { rows = rows; definitions = definitions }

pub cells-apart : (options : DocumentOptions) (ds : List (List ℕ)) (cells : List Inlines)
    → written_cells (line_of (piece_options options) Cell) ds cells
    ≡ record { cells = cell_texts (piece_options options) cells; definitions = ds }
cells-apart options ds [] = refl
cells-apart options ds (content ∷ rest) =
    let line = line_of (piece_options options) Cell in
    let now = with_escaped_bars (written_line line [] content).text in
    ap (λ (w : Written). let o = written_cells line w.definitions rest in
    cells_of (with_escaped_bars w.text ∷ o.cells) o.definitions)
    (line-apart options Cell ds content)
    ∙ ap (λ (o : WrittenCells). cells_of (now ∷ o.cells) o.definitions)
    (cells-apart options ds rest)

pub rows-apart : (options : DocumentOptions) (ds : List (List ℕ)) (rows : List (List Inlines))
    → written_rows (line_of (piece_options options) Cell) ds rows
    ≡ record { rows = map (cell_texts (piece_options options)) rows; definitions = ds }
rows-apart options ds [] = refl
rows-apart options ds (row ∷ rest) =
    let line = line_of (piece_options options) Cell in
    ap (λ (w : WrittenCells). let o = written_rows line w.definitions rest in
    rows_of (w.cells ∷ o.rows) o.definitions)
    (cells-apart options ds row)
    ∙ ap (λ (o : WrittenRows). rows_of (cell_texts (piece_options options) row ∷ o.rows) o.definitions)
    (rows-apart options ds rest)

pub table-apart : (options : DocumentOptions) (ds : List (List ℕ)) (alignments : List Alignment)
    (header : List Inlines) (rows : List (List Inlines))
    → written_table (piece_options options) ds alignments header rows
    ≡ at (table_text alignments (cell_texts (piece_options options) header)
    (map (cell_texts (piece_options options)) rows)) ds
table-apart options ds alignments header rows =
    let line = line_of (piece_options options) Cell in
    let head = cell_texts (piece_options options) header in
    ap (λ (w : WrittenCells). let body = written_rows line w.definitions rows in
    at (table_text alignments w.cells body.rows) body.definitions)
    (cells-apart options ds header)
    ∙ ap (λ (body : WrittenRows). at (table_text alignments head body.rows) body.definitions)
    (rows-apart options ds rows)

-- ---- markers

digits-length : (n : ℕ) → n < 2 ^ 64 → length (decimal n) ≡ digits n
digits-length zero small =
    decimal_by_steps (λ n ds. n ≡ 0 → length ds ≡ 1) (λ n lt is. refl)
    (λ n ds le was is. absurd (omega (arith, le, is)))
    0 small refl
digits-length (suc n) small =
    let some : (suc n == 0) ≡ false = grind (arith, nat_tests) in
    ap length (decimal-digits_of (suc n) (omega arith) small) ∙ length-map _ _ ∙ rw some refl

sign-length : (sign : Sign) → length (sign_text sign) ≡ 1
sign-length Sign.Asterisk = refl
sign-length Sign.Hyphen = refl
sign-length Sign.FullStop = refl
sign-length Sign.Parenthesis = refl

-- the marker of an item and the spaces behind it are as wide as they are measured
pub record Fits (options : DocumentOptions) (markers : Markers) (l : ListShape) (k : ℕ) : Type 0 where
  pub marker_fits : length (marker markers k) ≡ marker_len l.start k
  pub spaces_fit : spaces markers k ≡ spaces_len (piece_options options) l.start l.count k
  pub is_marker : IsMarker (marker markers k)

markers-fit : (options : DocumentOptions) (before outer : Option Sign) (start : Option ℕ) (is_tight : Bool)
    (count k : ℕ)
    → are_short_numbers start count ≡ true → k < count
    → Fits options (markers_of (piece_options options) before outer start count)
    (record { start = start; is_tight = is_tight; count = count }) k
markers-fit options before outer None is_tight count k short within =
    let sign = bullet_of options.bullet_list_marker before outer in
    record { marker_fits = sign-length sign; spaces_fit = refl; is_marker = sign_is_marker sign }
markers-fit options before outer (Some n) is_tight count k short within =
    let sign = delimiter_of before in
    let le : n + count ≤ 1000000000 = grind (arith, nat_tests, short) in
    let small : n + k < 2 ^ 64 = omega (arith, le, within) in
    record {
      marker_fits =
          length-append (decimal (n + k)) (sign_text sign)
          ∙ ap (λ i. i + length (sign_text sign)) (digits-length (n + k) small)
          ∙ ap (λ i. digits (n + k) + i) (sign-length sign);
      spaces_fit = refl;
      is_marker = number_is_marker (n + k) sign small;
    }

-- ---- each block begins well

marker-begins : (s : List ℕ) → IsMarker s → begins_well s ≡ true
marker-begins [] is = absurd (let none = is.some in cc)
marker-begins (b ∷ s) is = ap not (or_parts (is_line_feed b) (list_any is_line_feed s) is.line).0

signs-begin : (level : ℕ) (s : List ℕ) → begins_well (number_signs level ++ s) ≡ true
signs-begin zero s = refl
signs-begin (suc level) s = refl

heading-begins : (options : DocumentOptions) (level : ℕ) (content : Inlines)
    → begins_well (paragraph_text options content) ≡ true
    → begins_well (written_heading (piece_options options) [] level content).text ≡ true
heading-begins options level content well =
    let o = piece_options options in
    let s = paragraph_text options content in
    let below : Written = at (underlined level s) (written_line (line_of o Paragraph) [] content).definitions in
    let behind : Written = at (number_signs level ++ (written_line (line_of o Heading) [] content).text)
    (written_line (line_of o Heading) [] content).definitions in
    elim (is_underlined o level content) as (λ e. begins_well (cond e below behind).text ≡ true) [
      | true ↦ begins-append (s ++ line_feed ∷ []) _ (begins-append s (line_feed ∷ []) well)
      | false ↦ signs-begin level (written_line (line_of o Heading) [] content).text
    ]

symbol-begins : (fence : CodeBlockFence) → not (is_line_feed (symbol_of fence)) ≡ true
symbol-begins Tildes = refl
symbol-begins Backticks = refl

code-block-begins : (fence : CodeBlockFence) (info s : List ℕ)
    → begins_well (((((replicate (fence_len (symbol_of fence) s) (symbol_of fence) ++ info) ++ line_feed ∷ []) ++ s)
    ++ line_feed ∷ []) ++ replicate (fence_len (symbol_of fence) s) (symbol_of fence)) ≡ true
code-block-begins fence info s =
    let f = replicate (fence_len (symbol_of fence) s) (symbol_of fence) in
    begins-append ((((f ++ info) ++ line_feed ∷ []) ++ s) ++ line_feed ∷ []) f
    (begins-append (((f ++ info) ++ line_feed ∷ []) ++ s) (line_feed ∷ [])
    (begins-append ((f ++ info) ++ line_feed ∷ []) s
    (begins-append (f ++ info) (line_feed ∷ [])
    (begins-append f info
    (replicate-begins (fence_len (symbol_of fence) s) (symbol_of fence) (omega arith) (symbol-begins fence))))))

quote-begins : (lines : List (List ℕ)) → IsSomething lines
    → begins_well (joined_texts (line_feed ∷ []) (map quoted_line lines)) ≡ true
quote-begins lines (something [] rest) = refl
quote-begins lines (something (b ∷ l) rest) = refl

rule-begins : (style : HrStyle) (in_item : Bool) → begins_well (rule style in_item) ≡ true
rule-begins style true = refl
rule-begins Dashes false = refl
rule-begins Asterisks false = refl
rule-begins Underscores false = refl

table-begins : (alignments : List Alignment) (header : List (List ℕ)) (rows : List (List (List ℕ)))
    → begins_well (table_text alignments header rows) ≡ true
table-begins alignments header rows =
    let widths = column_widths header rows in
    elim (nat_le (line_width widths) longest_padded)
    as (λ e. begins_well (cond e (lines_of true widths widths alignments header rows)
    (lines_of false (replicate (length widths) 0) (replicate (length widths) narrowest) alignments header rows))
    ≡ true) [
      | true ↦ refl
      | false ↦ refl
    ]

items-begin : (options : DocumentOptions) (markers : Markers) (is_tight : Bool) (ds : List (List ℕ)) (items : Items)
    → has_item items ≡ true → IsMarker (marker markers 0)
    → begins_well (written_items (piece_options options) markers is_tight ds items).text ≡ true
items-begin options markers is_tight ds no_items some is = absurd (cc)
items-begin options markers is_tight ds (item first rest) some is =
    begins-append (indented (marker markers 0) (spaces markers 0) _) _
    (begins-append (marker markers 0 ++ _) _
    (begins-append (marker markers 0) _ (marker-begins (marker markers 0) is)))

block-begins : (options : DocumentOptions) (place : Place) (before : Option Sign) (ds : List (List ℕ)) (b : Block)
    → is_ready options b ≡ true
    → begins_well (written_block (piece_options options) place before ds b).text ≡ true
block-begins options place before ds (paragraph content) ready =
    ap (λ (w : Written). begins_well w.text) (line-apart options Paragraph ds content) ∙ ready
block-begins options place before ds (heading level content) ready =
    ap (λ (w : Written). begins_well w.text) (heading-apart options ds level content)
    ∙ heading-begins options level content ready
block-begins options place before ds (code_block language s) ready =
    code-block-begins options.code_block_fence (info_string language) s
block-begins options place before ds (quote content) ready =
    let s = (written_blocks (piece_options options) (place_in_quote place.in_item) ds content).text in
    quote-begins (slice_split is_line_feed s) (some-lines s)
block-begins options place before ds thematic_break ready = rule-begins options.hr_style place.in_item
block-begins options place before ds (list start is_tight items) ready =
    let p = and_parts (has_item items && are_short_numbers start (item_count items)) (are_ready_items options items)
    ready in
    let q = and_parts (has_item items) (are_short_numbers start (item_count items)) p.0 in
    items-begin options (markers_of (piece_options options) before place.outer start (item_count items)) is_tight ds
    items
    q.0
    (markers-fit options before place.outer start is_tight (item_count items) 0 q.1 (some-items items q.0)).is_marker
  where
    some-items : (items : Items) → has_item items ≡ true → 0 < item_count items
    some-items no_items some = absurd (cc)
    some-items (item first rest) some = omega arith
block-begins options place before ds (table alignments header rows) ready =
    ap (λ (w : Written). begins_well w.text) (table-apart options ds alignments header rows)
    ∙ table-begins alignments (cell_texts (piece_options options) header)
    (map (cell_texts (piece_options options)) rows)
block-begins options place before ds (element name attributes content) ready = absurd (cc)
block-begins options place before ds (tags s) ready = ready

-- ---- sums

behind : (is_tight : Bool) (s t : List ℕ)
    → text_size ((s ++ separator is_tight) ++ t) ≡ plus (plus (text_size s) (gap_size is_tight)) (text_size t)
behind true s t = ap text_size (append_assoc s (line_feed ∷ []) t) ∙ size-behind s t
behind false s t = size-apart s t

plus-three : (s g b f : Size) → plus (plus (plus s g) b) f ≡ plus s (plus (plus g b) f)
plus-three s g b f =
    same_size (plus (plus (plus s g) b) f) (plus s (plus (plus g b) f)) (omega arith) (omega arith) (omega arith)

-- one more, and others behind it
one-more : (is_tight : Bool) (s t others : List ℕ) (b f : Size) → text_size t ≡ b
    → text_size (((s ++ separator is_tight) ++ t) ++ others)
    ≡ plus (text_size ((s ++ separator is_tight) ++ t)) f
    → text_size (s ++ ((separator is_tight ++ t) ++ others))
    ≡ plus (text_size s) (plus (plus (gap_size is_tight) b) f)
one-more is_tight s t others b f is behind_it =
    ap text_size
    (sym (append_assoc s (separator is_tight ++ t) others)
    ∙ ap (λ l. l ++ others) (sym (append_assoc s (separator is_tight) t)))
    ∙ behind_it
    ∙ ap (λ z. plus z f) (behind is_tight s t ∙ ap (plus (plus (text_size s) (gap_size is_tight))) is)
    ∙ plus-three (text_size s) (gap_size is_tight) b f

abbrev line_of_bytes : ℕ → Size
line_of_bytes n = record { bytes = n; full = 1; empty = 0 }

-- an item, by what stands in it
item-written : (options : DocumentOptions) (markers : Markers) (l : ListShape) (ds : List (List ℕ)) (k : ℕ)
    (content : Blocks) → Fits options markers l k → are_ready options content ≡ true
    → (is_filled content ≡ true
    → Writes (written_blocks (piece_options options) (place_in_item markers l.is_tight) ds content)
    (blocks_size (piece_options options) l.is_tight content) ds)
    → (text_size (indented (marker markers k) (spaces markers k)
    (written_blocks (piece_options options) (place_in_item markers l.is_tight) ds content).text)
    ≡ item_size (piece_options options) l k content)
    × ((written_blocks (piece_options options) (place_in_item markers l.is_tight) ds content).definitions ≡ ds)
item-written options markers l ds k no_blocks fit ready inner = (
  item-empty (marker markers k) (spaces markers k) fit.is_marker ∙ ap line_of_bytes fit.marker_fits,
  refl,
)
item-written options markers l ds k (block first rest) fit ready inner =
    let o = piece_options options in
    let p = and_parts (is_ready options first) (are_ready options rest) ready in
    let place = place_in_item markers l.is_tight in
    let w = written_blocks o place ds (block first rest) in
    let is = inner refl in (
      item-indented (marker markers k) (spaces markers k) w.text fit.is_marker
          (begins-append (written_block o place None ds first).text _ (block-begins options place None ds first p.0))
          ∙ ap (λ n. indented_size n (text_size w.text))
          (ap (λ n. n + spaces markers k) fit.marker_fits ∙ ap (λ n. marker_len l.start k + n) fit.spaces_fit)
          ∙ ap (indented_size (item_width o l k)) is.0,
      is.1,
    )

-- ---- all of it

mutual
  pub block-written : (options : DocumentOptions) (place : Place) (before : Option Sign) (ds : List (List ℕ))
      (b : Block)
      → is_ready options b ≡ true
      → Writes (written_block (piece_options options) place before ds b) (block_size (piece_options options) b) ds
  block-written options place before ds (paragraph content) ready =
      leaf-written options place before ds (paragraph content) (line-apart options Paragraph ds content)
      (ap (λ (w : Written). w.definitions) (line-apart options Paragraph [] content))
  block-written options place before ds (heading level content) ready =
      leaf-written options place before ds (heading level content) (heading-apart options ds level content)
      (ap (λ (w : Written). w.definitions) (heading-apart options [] level content))
  block-written options place before ds (code_block language s) ready =
      leaf-written options place before ds (code_block language s) refl refl
  block-written options place before ds (quote content) ready =
      let w = written_blocks (piece_options options) (place_in_quote place.in_item) ds content in
      let p = and_parts (is_filled content) (are_ready options content) ready in
      let inner = blocks-written options (place_in_quote place.in_item) ds content p.0 p.1 in (
        size-quoted w.text ∙ ap quoted_size inner.0,
        inner.1,
      )
  block-written options place before ds thematic_break ready = (
    rule-size options.hr_style place.in_item
        ∙ sym (leaf-alone options thematic_break refl ∙ rule-size options.hr_style false),
    refl,
  )
  block-written options place before ds (list start is_tight items) ready =
      let l : ListShape = record { start = start; is_tight = is_tight; count = item_count items } in
      let markers = markers_of (piece_options options) before place.outer start (item_count items) in
      let p = and_parts (has_item items && are_short_numbers start (item_count items)) (are_ready_items options items)
      ready in
      let q = and_parts (has_item items) (are_short_numbers start (item_count items)) p.0 in
      items-written options markers l ds items q.0
      (λ k within. markers-fit options before place.outer start is_tight (item_count items) k q.1 within)
      (omega arith) p.1
  block-written options place before ds (table alignments header rows) ready =
      let o = piece_options options in
      leaf-written options place before ds (table alignments header rows)
      (table-apart options ds alignments header rows
      ∙ ap (λ (w : Written). at w.text ds) (sym (table-apart options [] alignments header rows)))
      (ap (λ (w : Written). w.definitions) (table-apart options [] alignments header rows))
  block-written options place before ds (element name attributes content) ready = absurd (cc)
  block-written options place before ds (tags s) ready = leaf-written options place before ds (tags s) refl refl

  pub blocks-written : (options : DocumentOptions) (place : Place) (ds : List (List ℕ)) (bs : Blocks)
      → is_filled bs ≡ true → are_ready options bs ≡ true
      → Writes (written_blocks (piece_options options) place ds bs)
      (blocks_size (piece_options options) place.tight bs) ds
  blocks-written options place ds no_blocks some ready = absurd (cc)
  blocks-written options place ds (block first rest) some ready =
      let p = and_parts (is_ready options first) (are_ready options rest) ready in
      let w = written_block (piece_options options) place None ds first in
      let now = block-written options place None ds first p.0 in
      let later = further-written options (behind_first place) (sign_of (piece_options options) None place.outer first)
      w.definitions w.text rest p.1 in (
        later.0 ∙ ap (λ z. plus z (further_size (piece_options options) place.tight rest)) now.0,
        later.1 ∙ now.1,
      )

  further-written : (options : DocumentOptions) (place : Place) (before : Option Sign) (ds : List (List ℕ))
      (s : List ℕ) (bs : Blocks) → are_ready options bs ≡ true
      → (text_size (s ++ (further_blocks (piece_options options) place before ds bs).text)
      ≡ plus (text_size s) (further_size (piece_options options) place.tight bs))
      × ((further_blocks (piece_options options) place before ds bs).definitions ≡ ds)
  further-written options place before ds s no_blocks ready = (
    ap text_size (append-nil s) ∙ same_size (text_size s) (plus (text_size s) nothing) (omega arith) (omega arith)
        (omega arith),
    refl,
  )
  further-written options place before ds s (block first rest) ready =
      let p = and_parts (is_ready options first) (are_ready options rest) ready in
      let w = written_block (piece_options options) place before ds first in
      let now = block-written options place before ds first p.0 in
      let sign = sign_of (piece_options options) before place.outer first in
      let later = further-written options place sign w.definitions
      ((s ++ separator place.tight) ++ w.text) rest p.1 in (
        one-more place.tight s w.text (further_blocks (piece_options options) place sign w.definitions rest).text
            (block_size (piece_options options) first) (further_size (piece_options options) place.tight rest) now.0
            later.0,
        later.1 ∙ now.1,
      )

  items-written : (options : DocumentOptions) (markers : Markers) (l : ListShape) (ds : List (List ℕ)) (items : Items)
      → has_item items ≡ true → ((k : ℕ) → k < l.count → Fits options markers l k)
      → item_count items ≤ l.count
      → are_ready_items options items ≡ true
      → Writes (written_items (piece_options options) markers l.is_tight ds items)
      (items_size (piece_options options) l 0 items) ds
  items-written options markers l ds no_items some fit within ready = absurd (cc)
  items-written options markers l ds (item first rest) some fit within ready =
      let o = piece_options options in
      let p = and_parts (are_ready options first) (are_ready_items options rest) ready in
      let w = written_blocks o (place_in_item markers l.is_tight) ds first in
      let t = indented (marker markers 0) (spaces markers 0) w.text in
      let now = item-written options markers l ds 0 first (fit 0 (omega (arith, within))) p.0
      (λ has. blocks-written options (place_in_item markers l.is_tight) ds first has p.0) in
      let later = further-items-written options markers l 1 w.definitions t rest fit (omega (arith, within)) p.1 in (
        later.0 ∙ ap (λ z. plus z (further_items_size o l 1 rest)) now.0,
        later.1 ∙ now.1,
      )

  further-items-written : (options : DocumentOptions) (markers : Markers) (l : ListShape) (k : ℕ)
      (ds : List (List ℕ))
      (s : List ℕ) (items : Items) → ((j : ℕ) → j < l.count → Fits options markers l j)
      → k + item_count items ≤ l.count → are_ready_items options items ≡ true
      → (text_size (s ++ (further_items (piece_options options) markers l.is_tight k ds items).text)
      ≡ plus (text_size s) (further_items_size (piece_options options) l k items))
      × ((further_items (piece_options options) markers l.is_tight k ds items).definitions ≡ ds)
  further-items-written options markers l k ds s no_items fit within ready = (
    ap text_size (append-nil s) ∙ same_size (text_size s) (plus (text_size s) nothing) (omega arith) (omega arith)
        (omega arith),
    refl,
  )
  further-items-written options markers l k ds s (item first rest) fit within ready =
      let o = piece_options options in
      let p = and_parts (are_ready options first) (are_ready_items options rest) ready in
      let w = written_blocks o (place_in_item markers l.is_tight) ds first in
      let t = indented (marker markers k) (spaces markers k) w.text in
      let now = item-written options markers l ds k first (fit k (omega (arith, within))) p.0
      (λ has. blocks-written options (place_in_item markers l.is_tight) ds first has p.0) in
      let later = further-items-written options markers l (suc k) w.definitions
      ((s ++ separator l.is_tight) ++ t) rest fit (omega (arith, within)) p.1 in (
        one-more l.is_tight s t (further_items o markers l.is_tight (suc k) w.definitions rest).text
            (item_size o l k first) (further_items_size o l (suc k) rest) now.0 later.0,
        later.1 ∙ now.1,
      )
