-- Links that are no references have no definitions.
use Rattle.std.proofs.Common.{◌≡◌, ◌<◌, ◌^◌, ℕ, suc, Bool, true, false, cond, List, [], ◌∷◌, ◌++◌, length, Some}
use Rattle.std.proofs.Common.{None, refl, ap, ◌∙◌, Option, arith}
use Rattle.std.specs.Prelude.{codes}
use Rattle.htmd_lexical.specs.Characters.{right_square_bracket}
use Rattle.htmd_markdown.specs.declared.link.LinkStyle.{LinkStyle}
use Rattle.htmd_markdown.specs.declared.link.LinkStyle.TheVariants.{Inlined, InlinedPreferAutolinks, Referenced}
use Rattle.htmd_document.specs.declared.document.Alignment.{Alignment}
use Rattle.htmd_document.specs.Documents.{Inline, text, code, formatted, link, image, anchor, line_break, task}
use Rattle.htmd_document.specs.Documents.{Inlines, no_inlines, inline, Block, paragraph, heading, code_block, quote}
use Rattle.htmd_document.specs.Documents.{thematic_break, list, table, element, tags, Blocks, no_blocks, block}
use Rattle.htmd_document.specs.Documents.{Items, no_items, item}
use Rattle.htmd_document.specs.FlatDocuments.{flattened}
use Rattle.htmd_commonmark.specs.BlockMarkdown.{line_of, is_underlined, underlined, number_signs, written_heading}
use Rattle.htmd_commonmark.specs.BlockMarkdown.{written_cells, written_rows, written_table, item_count, markers_of}
use Rattle.htmd_commonmark.specs.BlockMarkdown.{place_in_item, place_in_quote, behind_first, sign_of, written_blocks}
use Rattle.htmd_commonmark.specs.BlockMarkdown.{further_blocks, written_block, written_items, further_items}
use Rattle.htmd_commonmark.specs.DocumentMarkdown.{outermost}
use Rattle.htmd_commonmark.specs.InlineEnds.{follows}
use Rattle.htmd_commonmark.specs.InlineMarkdown.{is_autolinked, autolink, with_address, in_link, sides_of, written}
use Rattle.htmd_commonmark.specs.InlineMarkdown.{with_inline, written_line}
use Rattle.htmd_commonmark.specs.Marks.{mark_for}
use Rattle.htmd_commonmark.specs.WrittenText.{Written, wrote}
use Rattle.htmd_commonmark.specs.declared.blocks.Place.{Place}
use Rattle.htmd_commonmark.specs.declared.inline_ends.Following.{Following}
use Rattle.htmd_commonmark.specs.declared.line.Line.{Line}
use Rattle.htmd_commonmark.specs.declared.line.LineKind.TheVariants.{Paragraph, Heading, Cell}
use Rattle.htmd_commonmark.specs.declared.markers.Markers.{Markers}
use Rattle.htmd_commonmark.specs.declared.markers.Sign.{Sign}
use Rattle.htmd_commonmark.specs.declared.options.DocumentOptions.{DocumentOptions}
use Rattle.htmd_law_blocks.specs.BlockLaws.{definition_lines}
use Rattle.htmd_law_reading.specs.ReadingLaws.{HasFewDefinitions}

abbrev is_referenced : LinkStyle → Bool
is_referenced Referenced = true
is_referenced _ = false

address-none : (style : LinkStyle) (w : Written) (address : List ℕ) (name : Option (List ℕ))
    → is_referenced style ≡ false → (with_address style w address name).definitions ≡ w.definitions
address-none Inlined w address name e = refl
address-none InlinedPreferAutolinks w address name e = refl
address-none Referenced w address name e = absurd (cc)

-- ---- lines

mutual
  written-none : (line : Line) → is_referenced line.link_style ≡ false → (w : Written) (closing : Option ℕ)
      (xs : Inlines) → (written line w closing xs).definitions ≡ w.definitions
  written-none line e w closing no_inlines = refl
  written-none line e w closing (inline x rest) =
      let f = follows line.kind closing rest in
      written-none line e (with_inline line w f x) closing rest ∙ inline-none line e w f x

  inline-none : (line : Line) → is_referenced line.link_style ≡ false → (w : Written) (f : Following) (x : Inline)
      → (with_inline line w f x).definitions ≡ w.definitions
  inline-none line e w f (text s) = refl
  inline-none line e w f (code s) = refl
  inline-none line e w f (formatted format content) =
      let mark = mark_for format (sides_of line w.text f content) in
      written-none line e (wrote w mark.opener) (Some mark.sign) content
  inline-none line e w f (link address name content) =
      let after = written (in_link line) (wrote w (codes "[")) (Some right_square_bracket) content in
      elim (is_autolinked line address name content)
      as (λ b. (cond b (wrote w (autolink address)) (with_address line.link_style after address name)).definitions
      ≡ w.definitions) [
        | true ↦ refl
        | false ↦
            address-none line.link_style after address name e
            ∙ written-none (in_link line) e (wrote w (codes "[")) (Some right_square_bracket) content
      ]
  inline-none line e w f (image address name description) = refl
  inline-none line e w f (anchor id) = refl
  inline-none line e w f line_break = refl
  inline-none line e w f (task is_checked) = refl

line-none : (line : Line) → is_referenced line.link_style ≡ false → (definitions : List (List ℕ)) (xs : Inlines)
    → (written_line line definitions xs).definitions ≡ definitions
line-none line e definitions xs = written-none line e (record { text = []; definitions = definitions }) None xs

-- ---- blocks

module _ (options : DocumentOptions) (e : is_referenced options.link_style ≡ false) where
  heading-none : (definitions : List (List ℕ)) (level : ℕ) (content : Inlines)
      → (written_heading options definitions level content).definitions ≡ definitions
  heading-none definitions level content =
      let under = written_line (line_of options Paragraph) definitions content in
      let one = written_line (line_of options Heading) definitions content in
      let a : Written = record { text = underlined level under.text; definitions = under.definitions } in
      let b : Written = record { text = number_signs level ++ one.text; definitions = one.definitions } in
      elim (is_underlined options level content) as (λ c. (cond c a b).definitions ≡ definitions) [
        | true ↦ line-none (line_of options Paragraph) e definitions content
        | false ↦ line-none (line_of options Heading) e definitions content
      ]

  cells-none : (definitions : List (List ℕ)) (cells : List Inlines)
      → (written_cells (line_of options Cell) definitions cells).definitions ≡ definitions
  cells-none definitions [] = refl
  cells-none definitions (content ∷ rest) =
      cells-none (written_line (line_of options Cell) definitions content).definitions rest
      ∙ line-none (line_of options Cell) e definitions content

  rows-none : (definitions : List (List ℕ)) (rows : List (List Inlines))
      → (written_rows (line_of options Cell) definitions rows).definitions ≡ definitions
  rows-none definitions [] = refl
  rows-none definitions (row ∷ rest) =
      rows-none (written_cells (line_of options Cell) definitions row).definitions rest ∙ cells-none definitions row

  table-none : (definitions : List (List ℕ)) (alignments : List Alignment) (header : List Inlines)
      (rows : List (List Inlines)) → (written_table options definitions alignments header rows).definitions
      ≡ definitions
  table-none definitions alignments header rows =
      rows-none (written_cells (line_of options Cell) definitions header).definitions rows
      ∙ cells-none definitions header

  mutual
    blocks-none : (place : Place) (definitions : List (List ℕ)) (bs : Blocks)
        → (written_blocks options place definitions bs).definitions ≡ definitions
    blocks-none place definitions no_blocks = refl
    blocks-none place definitions (block first rest) =
        further-none (behind_first place) (sign_of options None place.outer first)
        (written_block options place None definitions first).definitions rest
        ∙ block-none place None definitions first

    further-none : (place : Place) (before : Option Sign) (definitions : List (List ℕ)) (bs : Blocks)
        → (further_blocks options place before definitions bs).definitions ≡ definitions
    further-none place before definitions no_blocks = refl
    further-none place before definitions (block first rest) =
        further-none place (sign_of options before place.outer first)
        (written_block options place before definitions first).definitions rest
        ∙ block-none place before definitions first

    block-none : (place : Place) (before : Option Sign) (definitions : List (List ℕ)) (b : Block)
        → (written_block options place before definitions b).definitions ≡ definitions
    block-none place before definitions (paragraph content) =
        line-none (line_of options Paragraph) e definitions content
    block-none place before definitions (heading level content) = heading-none definitions level content
    block-none place before definitions (code_block language s) = refl
    block-none place before definitions (quote content) =
        blocks-none (place_in_quote place.in_item) definitions content
    block-none place before definitions thematic_break = refl
    block-none place before definitions (list start is_tight items) =
        items-none (markers_of options before place.outer start (item_count items)) is_tight definitions items
    block-none place before definitions (table alignments header rows) =
        table-none definitions alignments header rows
    block-none place before definitions (element name attributes content) = refl
    block-none place before definitions (tags s) = refl

    items-none : (markers : Markers) (is_tight : Bool) (definitions : List (List ℕ)) (items : Items)
        → (written_items options markers is_tight definitions items).definitions ≡ definitions
    items-none markers is_tight definitions no_items = refl
    items-none markers is_tight definitions (item first rest) =
        more-none markers is_tight 1
        (written_blocks options (place_in_item markers is_tight) definitions first).definitions rest
        ∙ blocks-none (place_in_item markers is_tight) definitions first

    more-none : (markers : Markers) (is_tight : Bool) (k : ℕ) (definitions : List (List ℕ)) (items : Items)
        → (further_items options markers is_tight k definitions items).definitions ≡ definitions
    more-none markers is_tight k definitions no_items = refl
    more-none markers is_tight k definitions (item first rest) =
        more-none markers is_tight (suc k)
        (written_blocks options (place_in_item markers is_tight) definitions first).definitions rest
        ∙ blocks-none (place_in_item markers is_tight) definitions first

  pub none-few : (d : Blocks) → HasFewDefinitions options d
  none-few d = few (definition_lines options (flattened d)) (blocks-none outermost [] (flattened d))
    where
      few : (lines : List (List ℕ)) → lines ≡ [] → length lines < 2 ^ 64
      few [] h = omega arith
      few (line ∷ lines) h = absurd (cc)

pub inline-few : (options : DocumentOptions) → options.link_style ≡ Inlined → (d : Blocks)
    → HasFewDefinitions options d
inline-few options h d = none-few options (ap is_referenced h) d
