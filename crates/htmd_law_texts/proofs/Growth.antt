-- The definitions that are written grow in order: each line defines the next number.
use Rattle.std.proofs.Common.{◌≡◌, ◌∙◌, refl, ap, sym, subst, ℕ, suc, ◌+◌, Bool, true, false, List, [], ◌∷◌, ◌++◌}
use Rattle.std.proofs.Common.{Option, Some, None, codes, append_assoc, arith}
use Rattle.std.specs.Prelude.{length, ◌&&◌, if◌then◌else◌}
use Rattle.std.specs.List.{list_all}
use Rattle.std.specs.Str.{is_utf8}
use Rattle.std.proofs.lemmas.Bool.{and_parts}
use Rattle.htmd_document.specs.Formats.{Format}
use Rattle.htmd_document.specs.Documents.{Inline, text, code, formatted, link, image, line_break, task}
use Rattle.htmd_document.specs.Documents.{Inlines, no_inlines, inline, Block, Blocks, Items, paragraph, heading}
use Rattle.htmd_document.specs.Documents.{code_block, quote}
use Rattle.htmd_document.specs.Documents.{thematic_break, list, table, element, tags, no_blocks, block, no_items, item}
use Rattle.htmd_markdown.specs.declared.link.LinkStyle.{LinkStyle}
use Rattle.htmd_markdown.specs.declared.link.LinkStyle.TheVariants.{Inlined, InlinedPreferAutolinks, Referenced}
use Rattle.htmd_document.specs.Documents.{anchor}
use Rattle.htmd_commonmark.specs.declared.blocks.Place.{Place}
use Rattle.htmd_commonmark.specs.declared.line.Line.{Line}
use Rattle.htmd_commonmark.specs.declared.line.LineKind.{LineKind}
use Rattle.htmd_commonmark.specs.declared.line.LineKind.TheVariants.{Paragraph, Heading, Cell}
use Rattle.htmd_commonmark.specs.declared.inline_ends.Following.{Following}
use Rattle.htmd_commonmark.specs.declared.markers.Sign.{Sign}
use Rattle.htmd_commonmark.specs.declared.markers.Markers.{Markers}
use Rattle.htmd_commonmark.specs.declared.options.DocumentOptions.{DocumentOptions}
use Rattle.htmd_commonmark.specs.BlockMarkdown.{line_of, is_underlined, written_heading, written_cells, written_rows}
use Rattle.htmd_commonmark.specs.BlockMarkdown.{item_count, markers_of, place_in_item, place_in_quote, behind_first}
use Rattle.htmd_commonmark.specs.BlockMarkdown.{sign_of, written_blocks, further_blocks, written_block, written_items}
use Rattle.htmd_commonmark.specs.BlockMarkdown.{further_items}
use Rattle.htmd_commonmark.specs.InlineEnds.{follows}
use Rattle.htmd_commonmark.specs.InlineMarkdown.{written, with_inline, written_line, with_address, is_autolinked}
use Rattle.htmd_commonmark.specs.InlineMarkdown.{in_link, sides_of, written_task}
use Rattle.htmd_commonmark.specs.Marks.{mark_for}
use Rattle.htmd_commonmark.specs.WrittenText.{Written, wrote}
use Rattle.htmd_document.specs.NormalInlines.{is_normal, are_normal, is_normal_line, is_normal_item, meets, is_title}
use Rattle.htmd_document.specs.NormalInlines.{is_kept}
use Rattle.htmd_law_inlines.proofs.TextPieces.{test}
use Rattle.htmd_document.specs.NormalDocuments.{is_normal_heading, are_flat_blocks, is_flat_block, are_flat_items}
use Rattle.htmd_law_texts.proofs.NormalForm.{paragraph_parts, heading_parts, quote_parts, list_parts, table_parts}
use Rattle.htmd_law_texts.proofs.PieceFirsts.{format_parts}
use Rattle.htmd_law_texts.proofs.WrittenLines.{link_parts}
use Rattle.std.specs.Prelude.{bytes_eq, ◌==◌}
use Rattle.std.specs.Fmt.{decimal}
use Rattle.std.proofs.lemmas.Bool.{and_from, eq-eqb}
use Rattle.std.proofs.lemmas.List.{append-nil, length-append}
use Rattle.htmd_commonmark.specs.InlineMarkdown as writing
use Rattle.htmd_commonmark_reading.specs.LinkDefinitions.{definition}
use Rattle.htmd_law_inlines.specs.ReadBack.{are_numbered, is_number}
use Rattle.htmd_law_inlines.proofs.NumberPieces.{label_is}
use Rattle.htmd_law_texts.proofs.DefinitionLines.{AreDefined, definition_read}
use Rattle.htmd_law_texts.proofs.LineLaws.{line_parts}

-- ---- lines that define numbers

-- the line defines this number
pub record Defines (n : ℕ) (l : List ℕ) : Type 0 where
  pub address : List ℕ
  pub title : Option (List ℕ)
  pub is : l ≡ writing.definition n address title
  pub kept : list_all is_kept address ≡ true
  pub titled : is_title title ≡ true

-- the lines define the numbers from this on
abbrev pub Numbered : ℕ → List (List ℕ) → Type 0
Numbered n [] = Unit {0}
Numbered n (l ∷ ls) = Defines n l × Numbered (suc n) ls

pub are_defined : (n : ℕ) (ls : List (List ℕ)) → Numbered n ls → AreDefined ls
are_defined n [] d = tt
are_defined n (l ∷ ls) d = (
  record { number = n; address = d.0.address; title = d.0.title; is = d.0.is; kept = d.0.kept; titled = d.0.titled },
  are_defined (suc n) ls d.1,
)

same_bytes : (s : List ℕ) → bytes_eq s s ≡ true
same_bytes [] = refl
same_bytes (c ∷ s) = and_from (c == c) (bytes_eq s s) (eq-eqb c c refl) (same_bytes s)

pub numbers_are : (n : ℕ) (ls : List (List ℕ)) → Numbered n ls → are_numbered n ls ≡ true
numbers_are n [] d = refl
numbers_are n (l ∷ ls) d =
    let read = ap definition (d.0.is ∙ sym (append-nil (writing.definition n d.0.address d.0.title)))
    ∙ definition_read n d.0.address d.0.title [] d.0.kept tt in
    and_from (is_number n (definition l)) (are_numbered (suc n) ls)
    (ap (is_number n) read ∙ ap (λ k. bytes_eq k (decimal n)) (label_is n) ∙ same_bytes (decimal n))
    (numbers_are (suc n) ls d.1)

pub numbered_append : (n : ℕ) (ls ms : List (List ℕ)) → Numbered n ls → Numbered (n + length ls) ms
    → Numbered n (ls ++ ms)
numbered_append n [] ms a b = subst (λ i. Numbered i ms) (let e : n + 0 ≡ n = omega arith in e) b
numbered_append n (l ∷ ls) ms a b =
    let e : n + suc (length ls) ≡ suc n + length ls = omega arith in
    (a.0, numbered_append (suc n) ls ms a.1 (subst (λ i. Numbered i ms) e b))

-- ---- growth

-- lines that were added define the next numbers
pub record Grown (ds es : List (List ℕ)) : Type 0 where
  pub more : List (List ℕ)
  pub is : es ≡ ds ++ more
  pub numbered : Numbered (suc (length ds)) more

pub grown_same : (ds : List (List ℕ)) → Grown ds ds
grown_same ds = record { more = []; is = sym (append-nil ds); numbered = tt }

pub grown_trans : (ds es fs : List (List ℕ)) → Grown ds es → Grown es fs → Grown ds fs
grown_trans ds es fs a b =
    let l = ap length a.is in
    let m = length-append ds a.more in
    let n : suc (length es) ≡ suc (length ds) + length a.more = omega arith in
    record {
      more = a.more ++ b.more;
      is = b.is ∙ ap (λ x. x ++ b.more) a.is ∙ append_assoc ds a.more b.more;
      numbered = numbered_append (suc (length ds)) a.more b.more a.numbered
          (subst (λ i. Numbered i b.more) n b.numbered);
    }

-- what grows from the first number on stays so
pub grown_numbered : (ds es : List (List ℕ)) → Grown ds es → Numbered 1 ds → Numbered 1 es
grown_numbered ds es g d =
    let n : suc (length ds) ≡ 1 + length ds = omega arith in
    subst (Numbered 1) (sym g.is) (numbered_append 1 ds g.more d (subst (λ i. Numbered i g.more) n g.numbered))

-- ---- inlines

address_grown : (style : LinkStyle) (w : Written) (a : List ℕ) (t : Option (List ℕ)) → list_all is_kept a ≡ true
    → is_title t ≡ true → Grown w.definitions (with_address style w a t).definitions
address_grown Inlined w a t h k = grown_same w.definitions
address_grown InlinedPreferAutolinks w a t h k = grown_same w.definitions
address_grown Referenced w a t h k = record {
  more = writing.definition (suc (length w.definitions)) a t ∷ [];
  is = refl;
  numbered = (record { address = a; title = t; is = refl; kept = h; titled = k }, tt);
}

mutual
  pub all_grown : (line : Line) (w : Written) (closing : Option ℕ) (around : List Format) (xs : Inlines)
      → are_normal line.in_link around xs ≡ true → Grown w.definitions (written line w closing xs).definitions
  all_grown line w closing around no_inlines h = grown_same w.definitions
  all_grown line w closing around (inline x rest) h =
      let f = follows line.kind closing rest in
      let w' = with_inline line w f x in
      let q = and_parts (is_normal line.in_link around x && meets x rest) (are_normal line.in_link around rest) h in
      grown_trans w.definitions w'.definitions (written line w' closing rest).definitions
      (one_grown line w f around x (and_parts (is_normal line.in_link around x) (meets x rest) q.0).0)
      (all_grown line w' closing around rest q.1)

  one_grown : (line : Line) (w : Written) (f : Following) (around : List Format) (x : Inline)
      → is_normal line.in_link around x ≡ true → Grown w.definitions (with_inline line w f x).definitions
  one_grown line w f around (text s) h = grown_same w.definitions
  one_grown line w f around (code s) h = grown_same w.definitions
  one_grown line w f around (formatted format content) h =
      let m = mark_for format (sides_of line w.text f content) in
      all_grown line (wrote w m.opener) (Some m.sign) (format ∷ around) content
      (format_parts line.in_link around format content h).3
  one_grown line w f around (link a t content) h =
      let q = link_parts line.in_link around a t content h in
      let after = written (in_link line) (wrote w (codes "[")) (Some 93) content in
      test (is_autolinked line a t content)
      (λ e. rw e (grown_same w.definitions))
      (λ e. rw e (grown_trans w.definitions after.definitions (with_address line.link_style after a t).definitions
      (all_grown (in_link line) (wrote w (codes "[")) (Some 93) around content q.4)
      (address_grown line.link_style after a t (and_parts (is_utf8 a) (list_all is_kept a) q.1).1 q.2)))
  one_grown line w f around (image a t description) h = grown_same w.definitions
  one_grown line w f around (anchor id) h = grown_same w.definitions
  one_grown line w f around line_break h = grown_same w.definitions
  one_grown line w f around (task is_checked) h = absurd (cc)

pub line_grown : (options : DocumentOptions) (kind : LineKind) (definitions : List (List ℕ)) (xs : Inlines)
    → is_normal_line xs ≡ true → Grown definitions
    (written_line (line_of options kind) definitions xs).definitions
line_grown options kind definitions xs h =
    all_grown (line_of options kind) (record { text = []; definitions = definitions }) None [] xs (line_parts xs h).all

pub item_grown : (options : DocumentOptions) (definitions : List (List ℕ)) (xs : Inlines) → is_normal_item xs
    ≡ true
    → Grown definitions (written_line (line_of options Paragraph) definitions xs).definitions
item_grown options definitions no_inlines h = grown_same definitions
item_grown options definitions (inline (task c) rest) h =
    all_grown (line_of options Paragraph) (record { text = written_task c; definitions = definitions }) None [] rest
    (and_parts _ (are_normal false [] rest) h).1
item_grown options definitions (inline (text s) rest) h =
    line_grown options Paragraph definitions (inline (text s) rest) h
item_grown options definitions (inline (code s) rest) h =
    line_grown options Paragraph definitions (inline (code s) rest) h
item_grown options definitions (inline (formatted g content) rest) h =
    line_grown options Paragraph definitions (inline (formatted g content) rest) h
item_grown options definitions (inline (link a t content) rest) h =
    line_grown options Paragraph definitions (inline (link a t content) rest) h
item_grown options definitions (inline (image a t e) rest) h =
    line_grown options Paragraph definitions (inline (image a t e) rest) h
item_grown options definitions (inline (anchor id) rest) h =
    line_grown options Paragraph definitions (inline (anchor id) rest) h
item_grown options definitions (inline line_break rest) h =
    line_grown options Paragraph definitions (inline line_break rest) h

-- the inlines of a paragraph, of which a task may be the first in an item
inlines_grown : (options : DocumentOptions) (definitions : List (List ℕ)) (begins_item : Bool) (xs : Inlines)
    → (if begins_item then is_normal_item xs else is_normal_line xs) ≡ true
    → Grown definitions (written_line (line_of options Paragraph) definitions xs).definitions
inlines_grown options definitions true xs h = item_grown options definitions xs h
inlines_grown options definitions false xs h = line_grown options Paragraph definitions xs h

heading_grown : (options : DocumentOptions) (definitions : List (List ℕ)) (level : ℕ) (xs : Inlines)
    → is_normal_heading level xs ≡ true → Grown definitions
    (written_heading options definitions level xs).definitions
heading_grown options definitions level xs h =
    let p = (heading_parts level xs h).2 in
    test (is_underlined options level xs)
    (λ e. rw e (line_grown options Paragraph definitions xs p))
    (λ e. rw e (line_grown options Heading definitions xs p))

pub cells_grown : (options : DocumentOptions) (definitions : List (List ℕ)) (cells : List Inlines)
    → list_all is_normal_line cells ≡ true
    → Grown definitions (written_cells (line_of options Cell) definitions cells).definitions
cells_grown options definitions [] h = grown_same definitions
cells_grown options definitions (xs ∷ cells) h =
    let p = and_parts (is_normal_line xs) (list_all is_normal_line cells) h in
    let es = (written_line (line_of options Cell) definitions xs).definitions in
    grown_trans definitions es (written_cells (line_of options Cell) es cells).definitions
    (line_grown options Cell definitions xs p.0) (cells_grown options es cells p.1)

pub rows_grown : (options : DocumentOptions) (definitions : List (List ℕ)) (rows : List (List Inlines))
    → list_all (list_all is_normal_line) rows ≡ true
    → Grown definitions (written_rows (line_of options Cell) definitions rows).definitions
rows_grown options definitions [] h = grown_same definitions
rows_grown options definitions (cells ∷ rows) h =
    let p = and_parts (list_all is_normal_line cells) (list_all (list_all is_normal_line) rows) h in
    let es = (written_cells (line_of options Cell) definitions cells).definitions in
    grown_trans definitions es (written_rows (line_of options Cell) es rows).definitions
    (cells_grown options definitions cells p.0) (rows_grown options es rows p.1)

-- ---- blocks

mutual
  pub blocks_grown : (options : DocumentOptions) (place : Place) (definitions : List (List ℕ)) (b : Bool)
      (bs : Blocks)
      → are_flat_blocks b bs ≡ true → Grown definitions
      (written_blocks options place definitions bs).definitions
  blocks_grown options place definitions b no_blocks h = grown_same definitions
  blocks_grown options place definitions b (block first rest) h =
      let p = and_parts (is_flat_block b first) (are_flat_blocks false rest) h in
      let es = (written_block options place None definitions first).definitions in
      let sign = sign_of options None place.outer first in
      grown_trans definitions es (further_blocks options (behind_first place) sign es rest).definitions
      (block_grown options place None definitions b first p.0)
      (further_grown options (behind_first place) sign es rest p.1)

  pub further_grown : (options : DocumentOptions) (place : Place) (before : Option Sign) (definitions : List (List ℕ))
      (bs : Blocks) → are_flat_blocks false bs ≡ true
      → Grown definitions (further_blocks options place before definitions bs).definitions
  further_grown options place before definitions no_blocks h = grown_same definitions
  further_grown options place before definitions (block first rest) h =
      let p = and_parts (is_flat_block false first) (are_flat_blocks false rest) h in
      let es = (written_block options place before definitions first).definitions in
      let sign = sign_of options before place.outer first in
      grown_trans definitions es (further_blocks options place sign es rest).definitions
      (block_grown options place before definitions false first p.0) (further_grown options place sign es rest p.1)

  pub block_grown : (options : DocumentOptions) (place : Place) (before : Option Sign) (definitions : List (List ℕ))
      (b : Bool) (x : Block) → is_flat_block b x ≡ true
      → Grown definitions (written_block options place before definitions x).definitions
  block_grown options place before definitions b (paragraph content) h =
      inlines_grown options definitions b content (paragraph_parts b content h)
  block_grown options place before definitions b (heading level content) h =
      heading_grown options definitions level content h
  block_grown options place before definitions b (code_block language s) h = grown_same definitions
  block_grown options place before definitions b (quote content) h =
      blocks_grown options (place_in_quote place.in_item) definitions false content (quote_parts b content h).1
  block_grown options place before definitions b thematic_break h = grown_same definitions
  block_grown options place before definitions b (element name attributes content) h = grown_same definitions
  block_grown options place before definitions b (tags s) h = grown_same definitions
  block_grown options place before definitions b (list start is_tight items) h =
      items_grown options (markers_of options before place.outer start (item_count items)) is_tight definitions items
      (list_parts b start is_tight items h).1
  block_grown options place before definitions b (table alignments header rows) h =
      let p = table_parts alignments header rows h in
      let es = (written_cells (line_of options Cell) definitions header).definitions in
      grown_trans definitions es (written_rows (line_of options Cell) es rows).definitions
      (cells_grown options definitions header p.0) (rows_grown options es rows p.1)

  items_grown : (options : DocumentOptions) (markers : Markers) (is_tight : Bool) (definitions : List (List ℕ))
      (items : Items) → are_flat_items items ≡ true
      → Grown definitions (written_items options markers is_tight definitions items).definitions
  items_grown options markers is_tight definitions no_items h = grown_same definitions
  items_grown options markers is_tight definitions (item first rest) h =
      let p = and_parts (are_flat_blocks true first) (are_flat_items rest) h in
      let es = (written_blocks options (place_in_item markers is_tight) definitions first).definitions in
      grown_trans definitions es (further_items options markers is_tight 1 es rest).definitions
      (blocks_grown options (place_in_item markers is_tight) definitions true first p.0)
      (further_items_grown options markers is_tight 1 es rest p.1)

  pub further_items_grown : (options : DocumentOptions) (markers : Markers) (is_tight : Bool) (k : ℕ)
      (definitions : List (List ℕ)) (items : Items) → are_flat_items items ≡ true
      → Grown definitions (further_items options markers is_tight k definitions items).definitions
  further_items_grown options markers is_tight k definitions no_items h = grown_same definitions
  further_items_grown options markers is_tight k definitions (item first rest) h =
      let p = and_parts (are_flat_blocks true first) (are_flat_items rest) h in
      let es = (written_blocks options (place_in_item markers is_tight) definitions first).definitions in
      grown_trans definitions es (further_items options markers is_tight (suc k) es rest).definitions
      (blocks_grown options (place_in_item markers is_tight) definitions true first p.0)
      (further_items_grown options markers is_tight (suc k) es rest p.1)
