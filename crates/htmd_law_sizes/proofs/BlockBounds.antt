-- How long what is written of blocks is at most.
use Rattle.std.proofs.Common.{◌≡◌, refl, ℕ, suc, ◌+◌, ◌*◌, ◌≤◌, Bool, true, false, List, [], ◌∷◌, ◌++◌}
use Rattle.std.proofs.Common.{length, arith}
use Rattle.std.specs.Prelude.{if◌then◌else◌, ◌==◌, max, codes, Option, Some, None}
use Rattle.std.proofs.lemmas.List.{length-append}
use Rattle.std.specs.Fmt.{decimal}
use Rattle.std.specs.Str.{chars}
use Rattle.htmd_lexical.specs.Characters.{line_feed, number_sign}
use Rattle.htmd_text.specs.Trims.{is_line_feed}
use Rattle.htmd_markdown.specs.declared.fence.CodeBlockFence.{CodeBlockFence}
use Rattle.htmd_markdown.specs.declared.fence.CodeBlockFence.TheVariants.{Tildes, Backticks}
use Rattle.htmd_markdown.specs.declared.thematic_break.HrStyle.{HrStyle}
use Rattle.htmd_markdown.specs.declared.thematic_break.HrStyle.TheVariants.{Dashes, Asterisks, Underscores}
use Rattle.htmd_markdown.specs.Fences.{symbol_of, info_string, fence_len}
use Rattle.htmd_markdown.specs.Headings.{underline}
use Rattle.htmd_markdown.specs.ThematicBreaks as breaks
use Rattle.htmd_markdown.proofs.RunsLemmas.{longest_run-le-length}
use Rattle.htmd_document.specs.declared.document.Alignment.{Alignment}
use Rattle.htmd_document.specs.Documents.{Inlines, Block, Blocks, Items, paragraph, heading, code_block, quote}
use Rattle.htmd_document.specs.Documents.{thematic_break, list, table, element, tags, no_blocks, block, no_items, item}
use Rattle.htmd_commonmark.specs.declared.blocks.Place.{Place}
use Rattle.htmd_commonmark.specs.declared.line.LineKind.TheVariants.{Paragraph, Heading, Cell}
use Rattle.htmd_commonmark.specs.declared.markers.Sign.{Sign}
use Rattle.htmd_commonmark.specs.declared.markers.Markers.{Markers}
use Rattle.htmd_commonmark.specs.declared.options.DocumentOptions.{DocumentOptions}
use Rattle.htmd_commonmark.specs.Fences.{fence}
use Rattle.htmd_commonmark.specs.InlineMarkdown.{written_line}
use Rattle.htmd_commonmark.specs.Pages.{indented}
use Rattle.htmd_commonmark.specs.WrittenText.{Written}
use Rattle.htmd_commonmark.specs.BlockMarkdown.{line_of, is_underlined, underlined, number_signs, written_heading, rule}
use Rattle.htmd_commonmark.specs.BlockMarkdown.{written_cells, written_rows, written_table, sign_text, bullet_of}
use Rattle.htmd_commonmark.specs.BlockMarkdown.{delimiter_of, marker, spaces, item_count, markers_of, separator}
use Rattle.htmd_commonmark.specs.BlockMarkdown.{place_in_item, place_in_quote, behind_first, sign_of, written_blocks}
use Rattle.htmd_commonmark.specs.BlockMarkdown.{further_blocks, written_block, written_items, further_items}
use Rattle.htmd_document_of_tree.proofs.TextLengths.{characters_le}
use Rattle.htmd_law_sizes.specs.DocumentSizes.{size_of_option, size_of_inlines, size_of_rows, size_of, size_of_block}
use Rattle.htmd_law_sizes.specs.DocumentSizes.{size_of_items, width_of_marker, margin_of, margin_of_block}
use Rattle.htmd_law_sizes.specs.DocumentSizes.{margin_of_items}
use Rattle.htmd_law_sizes.proofs.CountsLemmas.{tally, tally_append, Cost, empty, whole, cost_append, within, fixed, repeated}
use Rattle.htmd_law_sizes.proofs.CountsLemmas.{feeds_of, tally_le}
use Rattle.htmd_law_sizes.proofs.PieceBounds.{decimal_cost}
use Rattle.htmd_law_sizes.proofs.InlineBounds.{lines_size, line_cost}
use Rattle.htmd_law_sizes.proofs.TableBounds.{own, cells_cost, rows_cost, table_cost}
use Rattle.htmd_law_sizes.proofs.LineBounds.{quote_cost, item_cost}
use Rattle.htmd_law_sizes.proofs.RoomLemmas.{room, room_suc, room_add, room_indented}

-- what is written has room within a margin, and the definitions grow by at most 75 bytes for each unit of size
pub record Fits (definitions : List (List ℕ)) (w : Written) (g n : ℕ) : Type 0 where
  pub long : length w.text ≤ room g n
  pub fed : tally is_line_feed w.text ≤ 4 * n
  pub defined : lines_size w.definitions ≤ lines_size definitions + 75 * n

-- and so it is with a blank line
record FitsApart (definitions : List (List ℕ)) (w : Written) (g n : ℕ) : Type 0 where
  long : length w.text + 2 ≤ room g n
  fed : tally is_line_feed w.text + 2 ≤ 4 * n
  defined : lines_size w.definitions ≤ lines_size definitions + 75 * n

-- ---- flat blocks

-- 181 bytes for each unit of size are room in any margin
flat : (definitions : List (List ℕ)) (w : Written) (g n : ℕ) {a f : ℕ} → Cost is_line_feed w.text a f
    → a + 2 ≤ 181 * n → f + 2 ≤ 4 * n → lines_size w.definitions ≤ lines_size definitions + 75 * n
    → FitsApart definitions w g n
flat definitions w g n c h i j = record {
  long = omega (arith, c.long, h);
  fed = omega (arith, c.passing, i);
  defined = j;
}

underline_plain : (level : ℕ) → is_line_feed (underline level) ≡ false
underline_plain level = go (level == 1)
  where
    go : (t : Bool) → is_line_feed (if t then 61 else 45) ≡ false
    go true = refl
    go false = refl

underlined_cost : (level : ℕ) (s : List ℕ) {a n : ℕ} → Cost is_line_feed s a n
    → Cost is_line_feed (underlined level s) (2 * a + 2) (n + 1)
underlined_cost level s {a} c =
    let k = max (length (chars s)) 1 in
    within
    (cost_append (cost_append c line_end) (repeated is_line_feed (underline level) (underline_plain level) k))
    (omega (arith, characters_le s, c.long)) (omega arith)
  where
    line_end : Cost is_line_feed (line_feed ∷ []) 1 1
    line_end = record { long = omega arith; passing = omega arith }

heading_fits : (o : DocumentOptions) (definitions : List (List ℕ)) (g level : ℕ) (content : Inlines)
    → FitsApart definitions (written_heading o definitions level content) g (suc (level + size_of_inlines content))
heading_fits o definitions g level content = go (is_underlined o level content)
  where
    n : ℕ
    n = suc (level + size_of_inlines content)

    under : Written
    under =
        record {
          text = underlined level (written_line (line_of o Paragraph) definitions content).text;
          definitions = (written_line (line_of o Paragraph) definitions content).definitions;
        }

    headed : Written
    headed =
        record {
          text = number_signs level ++ (written_line (line_of o Heading) definitions content).text;
          definitions = (written_line (line_of o Heading) definitions content).definitions;
        }

    go : (t : Bool) → FitsApart definitions (if t then under else headed) g n
    go true =
        let c = line_cost (line_of o Paragraph) definitions content in
        flat definitions under g n
        (underlined_cost level (written_line (line_of o Paragraph) definitions content).text (feeds_of c.cost))
        (omega arith) (omega arith) (omega (arith, c.defined))
    go false =
        let c = line_cost (line_of o Heading) definitions content in
        flat definitions headed g n
        (cost_append
        (cost_append (repeated is_line_feed number_sign refl level) (fixed is_line_feed (codes " ") 1 refl refl))
        (feeds_of c.cost))
        (omega arith) (omega arith) (omega (arith, c.defined))

symbol_plain : (symbol : CodeBlockFence) → is_line_feed (symbol_of symbol) ≡ false
symbol_plain Tildes = refl
symbol_plain Backticks = refl

info_cost : (language : Option (List ℕ))
    → Cost is_line_feed (info_string language) (size_of_option language) (size_of_option language)
info_cost None = empty is_line_feed
info_cost (Some s) = record { long = omega arith; passing = tally_le is_line_feed s }

fence_cost : (s : List ℕ) (language : Option (List ℕ)) (symbol : CodeBlockFence)
    → Cost is_line_feed (fence s language symbol) (8 + 3 * length s + size_of_option language)
    (2 + length s + size_of_option language)
fence_cost s language symbol =
    let k = fence_len (symbol_of symbol) s in
    let r = repeated is_line_feed (symbol_of symbol) (symbol_plain symbol) k in
    within
    (cost_append
    (cost_append (cost_append (cost_append (cost_append r (info_cost language)) line_end) (own s)) line_end) r)
    (omega (arith, longest_run-le-length (symbol_of symbol) s)) (omega (arith, tally_le is_line_feed s))
  where
    line_end : Cost is_line_feed (line_feed ∷ []) 1 1
    line_end = record { long = omega arith; passing = omega arith }

style_cost : (style : HrStyle) → Cost is_line_feed (breaks.line style) 5 0
style_cost Dashes = fixed is_line_feed (codes "- - -") 5 refl refl
style_cost Asterisks = fixed is_line_feed (codes "* * *") 5 refl refl
style_cost Underscores = fixed is_line_feed (codes "_ _ _") 5 refl refl

rule_cost : (style : HrStyle) (t : Bool) → Cost is_line_feed (rule style t) 5 0
rule_cost style true = style_cost Underscores
rule_cost style false = style_cost style

table_fits : (o : DocumentOptions) (definitions : List (List ℕ)) (g : ℕ) (al : List Alignment)
    (header : List Inlines)
    (rows : List (List Inlines))
    → FitsApart definitions (written_table o definitions al header rows) g (suc (size_of_rows (header ∷ rows)))
table_fits o definitions g al header rows =
    let head = written_cells (line_of o Cell) definitions header in
    let body = written_rows (line_of o Cell) head.definitions rows in
    let h = cells_cost (line_of o Cell) definitions header in
    let b = rows_cost (line_of o Cell) head.definitions rows in
    flat definitions (written_table o definitions al header rows) g (suc (size_of_rows (header ∷ rows)))
    (table_cost al head.cells body.rows)
    (omega (arith, h.long, b.long)) (omega (arith, h.fed, b.fed)) (omega (arith, h.defined, b.defined))

-- ---- markers

sign_cost : (sign : Sign) → Cost is_line_feed (sign_text sign) 1 0
sign_cost Sign.Asterisk = fixed is_line_feed (codes "*") 1 refl refl
sign_cost Sign.Hyphen = fixed is_line_feed (codes "-") 1 refl refl
sign_cost Sign.FullStop = fixed is_line_feed (codes ".") 1 refl refl
sign_cost Sign.Parenthesis = fixed is_line_feed (codes ")") 1 refl refl

-- the markers of a list stand in one line, and have their width
record HaveWidth (m : Markers) (start : Option ℕ) : Type 0 where
  narrow : (k : ℕ) → length (marker m k) + spaces m k ≤ width_of_marker start k
  plain : (k : ℕ) → tally is_line_feed (marker m k) ≡ 0

none : (s : List ℕ) (a : ℕ) → Cost is_line_feed s a 0 → tally is_line_feed s ≡ 0
none s a c = omega (arith, c.passing)

number_cost : (n : ℕ) (sign : Sign) → Cost is_line_feed (decimal n ++ sign_text sign) (length (decimal n) + 1) 0
number_cost n sign =
    let d = feeds_of (decimal_cost n) in
    let e : Cost is_line_feed (decimal n) (length (decimal n)) 0 = record { long = omega arith; passing = d.passing } in
    cost_append e (sign_cost sign)

have_width : (o : DocumentOptions) (before outer : Option Sign) (start : Option ℕ) (count : ℕ)
    → HaveWidth (markers_of o before outer start count) start
have_width o before outer None count = record {
  narrow = λ k. let c = sign_cost bullet in omega (arith, c.long);
  plain = λ k. none (sign_text bullet) 1 (sign_cost bullet);
}
  where
    bullet : Sign
    bullet = bullet_of o.bullet_list_marker before outer
have_width o before outer (Some start) count = record {
  narrow = λ k. let c = number_cost (start + k) (delimiter_of before) in omega (arith, c.long);
  plain = λ k. let c = number_cost (start + k) (delimiter_of before) in none _ _ c;
}

separator_cost : (t : Bool) → Cost is_line_feed (separator t) 2 2
separator_cost true = record { long = omega arith; passing = omega arith }
separator_cost false = record { long = omega arith; passing = omega arith }

-- ---- all of it

-- nothing is written of nothing
nothing_fits : (definitions : List (List ℕ)) (g : ℕ)
    → Fits definitions (record { text = []; definitions = definitions }) g 0
nothing_fits definitions g = record { long = omega arith; fed = omega arith; defined = omega arith }

-- an item of this text
item_fits : (m : Markers) (start : Option ℕ) (k g h n : ℕ) (definitions : List (List ℕ)) (w : Written)
    → HaveWidth m start → Fits definitions w g n → width_of_marker start k + g ≤ h
    → FitsApart definitions
    (record { text = indented (marker m k) (spaces m k) w.text; definitions = w.definitions }) h (suc n)
item_fits m start k g h n definitions w u f i =
    let x = length (marker m k) + spaces m k in
    let a = u.narrow k in
    let c = item_cost (marker m k) (spaces m k) x w.text (u.plain k) refl in
    let r = room_indented x g h n (length w.text) (tally is_line_feed w.text) (omega (arith, a, i)) f.long f.fed in
    record {
      long = omega (arith, c.long, r);
      fed = omega (arith, c.passing, f.fed);
      defined = omega (arith, f.defined);
    }

-- the first of some, and then the others
first_and : (definitions : List (List ℕ)) (w v : Written) (g m n : ℕ) → FitsApart definitions w g m
    → Fits w.definitions v g n
    → Fits definitions (record { text = w.text ++ v.text; definitions = v.definitions }) g (m + n)
first_and definitions w v g m n f i = record {
  long = omega (arith, length-append w.text v.text, f.long, i.long, room_add g m n);
  fed = omega (arith, tally_append is_line_feed w.text v.text, f.fed, i.fed);
  defined = omega (arith, f.defined, i.defined);
}

-- the same after a separator
next_and : (t : Bool) (definitions : List (List ℕ)) (w v : Written) (g m n : ℕ) → FitsApart definitions w g m
    → Fits w.definitions v g n
    → Fits definitions (record { text = separator t ++ w.text ++ v.text; definitions = v.definitions }) g (m + n)
next_and t definitions w v g m n f i =
    let s = separator_cost t in
    record {
      long = omega (
        arith,
        length-append (separator t ++ w.text) v.text,
        length-append (separator t) w.text,
        s.long,
        f.long,
        i.long,
        room_add g m n,
      );
      fed = omega (
        arith,
        tally_append is_line_feed (separator t ++ w.text) v.text,
        tally_append is_line_feed (separator t) w.text,
        s.passing,
        f.fed,
        i.fed,
      );
      defined = omega (arith, f.defined, i.defined);
    }

mutual
  block_fits : (o : DocumentOptions) (p : Place) (before : Option Sign) (definitions : List (List ℕ)) (b : Block)
      (g : ℕ)
      → margin_of_block b ≤ g
      → FitsApart definitions (written_block o p before definitions b) g (size_of_block b)
  block_fits o p before definitions (paragraph content) g h =
      let c = line_cost (line_of o Paragraph) definitions content in
      flat definitions (written_line (line_of o Paragraph) definitions content) g (suc (size_of_inlines content))
      (feeds_of c.cost) (omega arith) (omega arith) (omega (arith, c.defined))
  block_fits o p before definitions (heading level content) g h = heading_fits o definitions g level content
  block_fits o p before definitions (code_block language s) g h =
      flat definitions (record { text = fence s language o.code_block_fence; definitions = definitions }) g
      (suc (size_of_option language + length s)) (fence_cost s language o.code_block_fence) (omega arith) (omega arith)
      (omega arith)
  block_fits o p before definitions (quote content) g h =
      let q = place_in_quote p.in_item in
      let w = written_blocks o q definitions content in
      let f = blocks_fit o q definitions content (margin_of content) (omega arith) in
      let c = quote_cost w.text in
      let n = size_of content in
      let r = room_indented 2 (margin_of content) g n (length w.text) (tally is_line_feed w.text) h f.long f.fed in
      record {
        long = omega (arith, c.long, r);
        fed = omega (arith, c.passing, f.fed);
        defined = omega (arith, f.defined);
      }
  block_fits o p before definitions thematic_break g h =
      flat definitions (record { text = rule o.hr_style p.in_item; definitions = definitions }) g 1
      (rule_cost o.hr_style p.in_item) (omega arith) (omega arith) (omega arith)
  block_fits o p before definitions (list start t items) g h =
      let m = markers_of o before p.outer start (item_count items) in
      let f = items_fit o m start t definitions items g (have_width o before p.outer start (item_count items)) h in
      record {
        long = omega (arith, f.long, room_suc g (size_of_items items));
        fed = omega (arith, f.fed);
        defined = omega (arith, f.defined);
      }
  block_fits o p before definitions (table al header rows) g h = table_fits o definitions g al header rows
  block_fits o p before definitions (element name attributes content) g h =
      flat definitions (record { text = []; definitions = definitions }) g
      (size_of_block (element name attributes content)) (empty is_line_feed) (omega arith) (omega arith) (omega arith)
  block_fits o p before definitions (tags s) g h =
      flat definitions (record { text = s; definitions = definitions }) g (suc (length s)) (whole is_line_feed s)
      (omega arith) (omega arith) (omega arith)

  pub blocks_fit : (o : DocumentOptions) (p : Place) (definitions : List (List ℕ)) (bs : Blocks) (g : ℕ)
      → margin_of bs ≤ g → Fits definitions (written_blocks o p definitions bs) g (size_of bs)
  blocks_fit o p definitions no_blocks g h = nothing_fits definitions g
  blocks_fit o p definitions (block b rest) g h =
      let w = written_block o p None definitions b in
      let v = further_blocks o (behind_first p) (sign_of o None p.outer b) w.definitions rest in
      first_and definitions w v g (size_of_block b) (size_of rest)
      (block_fits o p None definitions b g (omega (arith, h)))
      (further_fit o (behind_first p) (sign_of o None p.outer b) w.definitions rest g (omega (arith, h)))

  further_fit : (o : DocumentOptions) (p : Place) (before : Option Sign) (definitions : List (List ℕ)) (bs : Blocks)
      (g : ℕ)
      → margin_of bs ≤ g → Fits definitions (further_blocks o p before definitions bs) g (size_of bs)
  further_fit o p before definitions no_blocks g h = nothing_fits definitions g
  further_fit o p before definitions (block b rest) g h =
      let w = written_block o p before definitions b in
      let v = further_blocks o p (sign_of o before p.outer b) w.definitions rest in
      next_and p.tight definitions w v g (size_of_block b) (size_of rest)
      (block_fits o p before definitions b g (omega (arith, h)))
      (further_fit o p (sign_of o before p.outer b) w.definitions rest g (omega (arith, h)))

  items_fit : (o : DocumentOptions) (m : Markers) (start : Option ℕ) (t : Bool) (definitions : List (List ℕ))
      (items : Items) (g : ℕ) → HaveWidth m start → margin_of_items start 0 items ≤ g
      → Fits definitions (written_items o m t definitions items) g (size_of_items items)
  items_fit o m start t definitions no_items g u h = nothing_fits definitions g
  items_fit o m start t definitions (item first rest) g u h =
      let w = written_blocks o (place_in_item m t) definitions first in
      let f = blocks_fit o (place_in_item m t) definitions first (margin_of first) (omega arith) in
      let x : Written = record { text = indented (marker m 0) (spaces m 0) w.text; definitions = w.definitions } in
      first_and definitions x (further_items o m t 1 w.definitions rest) g (suc (size_of first)) (size_of_items rest)
      (item_fits m start 0 (margin_of first) g (size_of first) definitions w u f (omega (arith, h)))
      (more_items_fit o m start t 1 w.definitions rest g u (omega (arith, h)))

  more_items_fit : (o : DocumentOptions) (m : Markers) (start : Option ℕ) (t : Bool) (k : ℕ)
      (definitions : List (List ℕ)) (items : Items) (g : ℕ) → HaveWidth m start
      → margin_of_items start k items ≤ g
      → Fits definitions (further_items o m t k definitions items) g (size_of_items items)
  more_items_fit o m start t k definitions no_items g u h = nothing_fits definitions g
  more_items_fit o m start t k definitions (item first rest) g u h =
      let w = written_blocks o (place_in_item m t) definitions first in
      let f = blocks_fit o (place_in_item m t) definitions first (margin_of first) (omega arith) in
      let x : Written = record { text = indented (marker m k) (spaces m k) w.text; definitions = w.definitions } in
      next_and t definitions x (further_items o m t (suc k) w.definitions rest) g (suc (size_of first))
      (size_of_items rest)
      (item_fits m start k (margin_of first) g (size_of first) definitions w u f (omega (arith, h)))
      (more_items_fit o m start t (suc k) w.definitions rest g u (omega (arith, h)))
