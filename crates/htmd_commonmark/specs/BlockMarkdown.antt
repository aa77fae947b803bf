-- What is written of blocks, one below the other (CommonMark 0.31.2, 4 and 5).
use Rattle.std.specs.Prelude.{ℕ, suc, ◌+◌, ◌-◌, Bool, true, false, not, ◌&&◌, ◌||◌, ◌==◌, nat_lt, min, max, List}
use Rattle.std.specs.Prelude.{if◌then◌else◌, [], ◌∷◌, ◌++◌, length, replicate, Option, Some, None, codes}
use Rattle.std.specs.Fmt.{decimal}
use Rattle.std.specs.Str.{chars}
use Rattle.htmd_lexical.specs.Characters.{line_feed, number_sign}
use Rattle.htmd_markdown.specs.declared.heading.HeadingStyle.{HeadingStyle}
use Rattle.htmd_markdown.specs.declared.heading.HeadingStyle.TheVariants.{Atx, Setex}
use Rattle.htmd_markdown.specs.declared.list.BulletListMarker.{BulletListMarker}
use Rattle.htmd_markdown.specs.declared.list.BulletListMarker.TheVariants.{Asterisk, Dash}
use Rattle.htmd_markdown.specs.declared.thematic_break.HrStyle.{HrStyle}
use Rattle.htmd_markdown.specs.declared.thematic_break.HrStyle.TheVariants.{Underscores}
use Rattle.htmd_markdown.specs.Headings.{underline}
use Rattle.htmd_markdown.specs.ListItems.{aligned_spaces}
use Rattle.htmd_markdown.specs.ThematicBreaks as breaks
use Rattle.htmd_document.specs.declared.document.Alignment.{Alignment}
use Rattle.htmd_document.specs.Documents.{Inline, Inlines, text, code, formatted, link, image, anchor}
use Rattle.htmd_document.specs.Documents.{line_break, task}
use Rattle.htmd_document.specs.Documents.{no_inlines, inline, Block, Blocks, Items, paragraph, heading, code_block}
use Rattle.htmd_document.specs.Documents.{quote}
use Rattle.htmd_document.specs.Documents.{thematic_break, list, table, element, tags, no_blocks, block, no_items, item}
use Rattle.htmd_commonmark.specs.declared.blocks.Place.{Place}
use Rattle.htmd_commonmark.specs.declared.line.Line.{Line}
use Rattle.htmd_commonmark.specs.declared.line.LineKind.{LineKind}
use Rattle.htmd_commonmark.specs.declared.line.LineKind.TheVariants.{Paragraph, Heading, Cell}
use Rattle.htmd_commonmark.specs.declared.markers.Sign.{Sign}
use Rattle.htmd_commonmark.specs.declared.markers.Markers.{Markers}
use Rattle.htmd_commonmark.specs.declared.markers.Markers.TheVariants.{Bullets, Numbers}
use Rattle.htmd_commonmark.specs.declared.options.DocumentOptions.{DocumentOptions}
use Rattle.htmd_commonmark.specs.Fences.{fence}
use Rattle.htmd_commonmark.specs.InlineMarkdown.{written_line}
use Rattle.htmd_commonmark.specs.Pages.{quoted, indented}
use Rattle.htmd_commonmark.specs.TableLines.{with_escaped_bars, table_text}
use Rattle.htmd_commonmark.specs.WrittenText.{Written}

abbrev pub line_of : DocumentOptions → LineKind → Line
line_of options kind =
    record { kind = kind; br_style = options.br_style; link_style = options.link_style; in_link = false }

-- ---- headings

-- a break is among the inlines, at any depth
abbrev mutual
  pub has_break : Inlines → Bool
  has_break no_inlines = false
  has_break (inline x rest) = is_or_has_break x || has_break rest

  pub is_or_has_break : Inline → Bool
  is_or_has_break line_break = true
  is_or_has_break (formatted format content) = has_break content
  is_or_has_break (link address title content) = has_break content
  is_or_has_break (text s) = false
  is_or_has_break (code s) = false
  is_or_has_break (image address title description) = false
  is_or_has_break (anchor id) = false
  is_or_has_break (task is_checked) = false

abbrev pub is_setext : HeadingStyle → Bool
is_setext Setex = true
is_setext Atx = false

-- Levels 1 and 2 are underlined if that is asked for, but not with a break, since a heading is one line here.
abbrev pub is_underlined : DocumentOptions → ℕ → Inlines → Bool
is_underlined options level content =
    is_setext options.heading_style && nat_lt level 3 && not (has_break content)

-- under the text a line as long as it is, of one sign at least (CommonMark 0.31.2, 4.3)
abbrev pub underlined : ℕ → List ℕ → List ℕ
underlined level s = (s ++ line_feed ∷ []) ++ replicate (max (length (chars s)) 1) (underline level)

-- as many `#` as the level, and a space (4.2)
abbrev pub number_signs : ℕ → List ℕ
number_signs level = replicate level number_sign ++ codes " "

abbrev pub written_heading : DocumentOptions → List (List ℕ) → ℕ → Inlines → Written
written_heading options definitions level content =
    if is_underlined options level content
    then (let w = written_line (line_of options Paragraph) definitions content in
    record { text = underlined level w.text; definitions = w.definitions })
    else (let w = written_line (line_of options Heading) definitions content in
    record { text = number_signs level ++ w.text; definitions = w.definitions })

-- ---- breaks

-- in an item underscores, which begin no item
abbrev pub rule : HrStyle → Bool → List ℕ
rule style in_item = if in_item then breaks.line Underscores else breaks.line style

-- ---- tables

-- the texts of cells, with the definitions of the links in them
pub record WrittenCells : Type 0 where
  pub cells : List (List ℕ)
  pub definitions : List (List ℕ)

abbrev pub written_cells : Line → List (List ℕ) → List Inlines → WrittenCells
written_cells line definitions [] = record { cells = []; definitions = definitions }
written_cells line definitions (content ∷ rest) =
    let cell = written_line line definitions content in
    let others = written_cells line cell.definitions rest in
    record { cells = with_escaped_bars cell.text ∷ others.cells; definitions = others.definitions }

pub record WrittenRows : Type 0 where
  pub rows : List (List (List ℕ))
  pub definitions : List (List ℕ)

abbrev pub written_rows : Line → List (List ℕ) → List (List Inlines) → WrittenRows
written_rows line definitions [] = record { rows = []; definitions = definitions }
written_rows line definitions (row ∷ rest) =
    let cells = written_cells line definitions row in
    let others = written_rows line cells.definitions rest in
    record { rows = cells.cells ∷ others.rows; definitions = others.definitions }

abbrev pub written_table : DocumentOptions → List (List ℕ) → List Alignment → List Inlines
    → List (List Inlines)
    → Written
written_table options definitions alignments header rows =
    let head = written_cells (line_of options Cell) definitions header in
    let body = written_rows (line_of options Cell) head.definitions rows in
    record { text = table_text alignments head.cells body.rows; definitions = body.definitions }

-- ---- lists

-- what a sign is written as
abbrev pub sign_text : Sign → List ℕ
sign_text Sign.Asterisk = codes "*"
sign_text Sign.Hyphen = codes "-"
sign_text Sign.FullStop = codes "."
sign_text Sign.Parenthesis = codes ")"

-- beside the list stands one with this sign
abbrev pub is_beside : Sign → Option Sign → Bool
is_beside Sign.Asterisk (Some Sign.Asterisk) = true
is_beside Sign.Hyphen (Some Sign.Hyphen) = true
is_beside Sign.FullStop (Some Sign.FullStop) = true
is_beside Sign.Parenthesis (Some Sign.Parenthesis) = true
is_beside _ _ = false

abbrev pub usual_bullet : BulletListMarker → Sign
usual_bullet Asterisk = Sign.Asterisk
usual_bullet Dash = Sign.Hyphen

abbrev pub other_bullet : BulletListMarker → Sign
other_bullet Asterisk = Sign.Hyphen
other_bullet Dash = Sign.Asterisk

-- A list after one with the usual bullet, and one that begins an item of such a list, have the other bullet, so that
-- they don't go on as one list (5.3).
abbrev pub bullet_of : BulletListMarker → Option Sign → Option Sign → Sign
bullet_of style before outer =
    if is_beside (usual_bullet style) before || is_beside (usual_bullet style) outer
    then other_bullet style
    else usual_bullet style

-- what ends the numbers of a list: the other sign after a list with full stops
abbrev pub delimiter_of : Option Sign → Sign
delimiter_of before = if is_beside Sign.FullStop before then Sign.Parenthesis else Sign.FullStop

-- the spaces after a marker: at least 1, and at most 4, since with more a reader sees code (5.2)
abbrev pub bounded : ℕ → ℕ
bounded spacing = min (max spacing 1) 4

-- the marker of the item at this place, the first at 0
abbrev pub marker : Markers → ℕ → List ℕ
marker (Bullets bullet spacing) k = sign_text bullet
marker (Numbers start highest delimiter spacing) k = decimal (start + k) ++ sign_text delimiter

-- the spaces after it: contents stand in one column, as far as they go
abbrev pub spaces : Markers → ℕ → ℕ
spaces (Bullets bullet spacing) k = bounded spacing
spaces (Numbers start highest delimiter spacing) k = bounded (aligned_spaces spacing highest (start + k))

-- the bullet that a list at the beginning of an item doesn't take
abbrev pub outer_of : Markers → Option Sign
outer_of (Bullets bullet spacing) = Some bullet
outer_of (Numbers start highest delimiter spacing) = None

abbrev pub item_count : Items → ℕ
item_count no_items = 0
item_count (item first rest) = suc (item_count rest)

-- the markers of a list of so many items with this start or none, by the sign of the list before it and by the item
-- that it begins
abbrev pub markers_of : DocumentOptions → Option Sign → Option Sign → Option ℕ → ℕ → Markers
markers_of options before outer None count =
    Bullets (bullet_of options.bullet_list_marker before outer) options.ul_bullet_spacing
markers_of options before outer (Some start) count =
    Numbers start (start + count - 1) (delimiter_of before) options.ol_number_spacing

-- ---- all of it

-- Tight blocks stand in lines that follow each other, others between blank lines.
abbrev pub separator : Bool → List ℕ
separator is_tight = if is_tight then codes "\n" else codes "\n\n"

abbrev pub place_in_item : Markers → Bool → Place
place_in_item markers is_tight = record { outer = outer_of markers; in_item = true; tight = is_tight }

abbrev pub place_in_quote : Bool → Place
place_in_quote in_item = record { outer = None; in_item = in_item; tight = false }

abbrev pub behind_first : Place → Place
behind_first place = record place { outer = None }

-- where the block at this place of others stands
abbrev pub place_at : Place → ℕ → Place
place_at place k = if k == 0 then place else behind_first place

-- the sign of a list, so that the next one has another
abbrev pub list_sign : DocumentOptions → Option Sign → Option Sign → Option ℕ → Sign
list_sign options before outer None = bullet_of options.bullet_list_marker before outer
list_sign options before outer (Some start) = delimiter_of before

abbrev pub sign_of : DocumentOptions → Option Sign → Option Sign → Block → Option Sign
sign_of options before outer (list start is_tight items) = Some (list_sign options before outer start)
sign_of options before outer (paragraph content) = None
sign_of options before outer (heading level content) = None
sign_of options before outer (code_block language s) = None
sign_of options before outer (quote content) = None
sign_of options before outer thematic_break = None
sign_of options before outer (table alignments header rows) = None
sign_of options before outer (element name attributes content) = None
sign_of options before outer (tags s) = None

-- What is written of flat blocks, which have no elements. `before`: the sign of the list that stands before;
-- `definitions`: those of the links so far.
abbrev mutual
  -- the first block and then the others
  pub written_blocks : DocumentOptions → Place → List (List ℕ) → Blocks → Written
  written_blocks options place definitions no_blocks = record { text = []; definitions = definitions }
  written_blocks options place definitions (block first rest) =
      let w = written_block options place None definitions first in
      let others =
      further_blocks options (behind_first place) (sign_of options None place.outer first) w.definitions rest in
      record { text = w.text ++ others.text; definitions = others.definitions }

  -- each block after a separator
  pub further_blocks : DocumentOptions → Place → Option Sign → List (List ℕ) → Blocks → Written
  further_blocks options place before definitions no_blocks = record { text = []; definitions = definitions }
  further_blocks options place before definitions (block first rest) =
      let w = written_block options place before definitions first in
      let others = further_blocks options place (sign_of options before place.outer first) w.definitions rest in
      record { text = separator place.tight ++ w.text ++ others.text; definitions = others.definitions }

  pub written_block : DocumentOptions → Place → Option Sign → List (List ℕ) → Block → Written
  written_block options place before definitions (paragraph content) =
      written_line (line_of options Paragraph) definitions content
  written_block options place before definitions (heading level content) =
      written_heading options definitions level content
  written_block options place before definitions (code_block language s) =
      record { text = fence s language options.code_block_fence; definitions = definitions }
  written_block options place before definitions (quote content) =
      let w = written_blocks options (place_in_quote place.in_item) definitions content in
      record { text = quoted w.text; definitions = w.definitions }
  written_block options place before definitions thematic_break =
      record { text = rule options.hr_style place.in_item; definitions = definitions }
  written_block options place before definitions (list start is_tight items) =
      written_items options (markers_of options before place.outer start (item_count items)) is_tight definitions items
  written_block options place before definitions (table alignments header rows) =
      written_table options definitions alignments header rows
  written_block options place before definitions (element name attributes content) =
      record { text = []; definitions = definitions }
  written_block options place before definitions (tags s) = record { text = s; definitions = definitions }

  -- the first item and then the others
  pub written_items : DocumentOptions → Markers → Bool → List (List ℕ) → Items → Written
  written_items options markers is_tight definitions no_items = record { text = []; definitions = definitions }
  written_items options markers is_tight definitions (item first rest) =
      let w = written_blocks options (place_in_item markers is_tight) definitions first in
      let others = further_items options markers is_tight 1 w.definitions rest in
      record {
        text = indented (marker markers 0) (spaces markers 0) w.text ++ others.text;
        definitions = others.definitions;
      }

  -- each item after a separator, the first at this place
  pub further_items : DocumentOptions → Markers → Bool → ℕ → List (List ℕ) → Items → Written
  further_items options markers is_tight k definitions no_items = record { text = []; definitions = definitions }
  further_items options markers is_tight k definitions (item first rest) =
      let w = written_blocks options (place_in_item markers is_tight) definitions first in
      let others = further_items options markers is_tight (suc k) w.definitions rest in
      record {
        text = separator is_tight ++ indented (marker markers k) (spaces markers k) w.text ++ others.text;
        definitions = others.definitions;
      }
