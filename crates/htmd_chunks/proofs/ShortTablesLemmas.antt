-- What a table is cut into fits, or has one row.
use Rattle.std.proofs.Common.{◌≡◌, ℕ, zero, suc, ◌+◌, ◌-◌, ◌≤◌, Bool, true, false, not, cond, List, [], ◌∷◌, ◌++◌}
use Rattle.std.proofs.Common.{length, map, refl, sym, ap, ◌∙◌, arith, append_assoc, append-nil, length-append}
use Rattle.std.proofs.Common.{inr, Option, Some, None, take, eqb-true, codes}
use Rattle.std.specs.Prelude.{◌&&◌, ◌==◌, nat_le, replicate}
use Rattle.std.specs.List.{list_all, list_any}
use Rattle.std.specs.Str.{is_utf8}
use Rattle.std.proofs.lemmas.Bool.{and_parts, or_from, or_parts}
use Rattle.std.proofs.lemmas.List.Folds.{list_any-append}
use Rattle.htmd_lexical.specs.Characters.{line_feed, space, vertical_bar, right_square_bracket, asterisk, underscore}
use Rattle.htmd_lexical.specs.Characters.{tilde}
use Rattle.htmd_lexical.specs.Characters.{ampersand, less_than_sign, greater_than_sign, quotation_mark, backslash}
use Rattle.htmd_lexical.specs.CharacterClasses.{is_empty}
use Rattle.htmd_text.specs.EscapedPlaces.{with_backslashes}
use Rattle.htmd_text.specs.Trims.{is_line_feed}
use Rattle.htmd_markdown.specs.CodeSpans.{meets_delimiter, smallest_unused_len, delimited_text, space_if}
use Rattle.htmd_markdown.specs.declared.line_break.BrStyle.{BrStyle}
use Rattle.htmd_document.specs.declared.document.Alignment.{Alignment}
use Rattle.htmd_document.specs.Documents.{Inline, text, code, formatted, link, image, anchor, line_break, task}
use Rattle.htmd_document.specs.Documents.{Inlines, no_inlines, inline, table}
use Rattle.htmd_document.specs.Formats.{Format, Emphasis, Strong, Deleted, Superscript, Subscript, Inserted}
use Rattle.htmd_document.specs.Formats.{Underlined, Marked, Small, Keyboard, Abbreviation}
use Rattle.htmd_document.specs.NormalDocuments.{is_normal_block, has_cell, are_normal_cells}
use Rattle.htmd_document.specs.NormalDocuments.{is_normal_row, ends_filled}
use Rattle.htmd_document.specs.NormalInlines.{is_line_byte, is_line, is_text, has_double_space, is_trimmed, has_none}
use Rattle.htmd_document.specs.NormalInlines.{is_kept, is_attribute, is_title, meets, are_whole, is_barred, has_title}
use Rattle.htmd_document.specs.NormalInlines.{is_normal, are_normal, is_normal_line, anchors_stand_well}
use Rattle.htmd_document.specs.Tags.{in_value, escaped_value}
use Rattle.htmd_document.specs.Tags as html
use Rattle.htmd_commonmark.specs.declared.inline_ends.Following.{Following}
use Rattle.htmd_commonmark.specs.declared.line.Line.{Line}
use Rattle.htmd_commonmark.specs.declared.line.LineKind.TheVariants.{Cell}
use Rattle.htmd_commonmark.specs.declared.marks.Sides.{Sides}
use Rattle.htmd_commonmark.specs.declared.options.DocumentOptions.{DocumentOptions}
use Rattle.htmd_commonmark.specs.Addresses.{is_escaped, piece, escaped_in, needs_brackets, destination, title}
use Rattle.htmd_commonmark.specs.Columns.{width_of}
use Rattle.htmd_commonmark.specs.InlineEnds.{follows}
use Rattle.htmd_commonmark.specs.InlineMarkdown.{written, with_inline, sides_of, place_of, written_code, needs_tags}
use Rattle.htmd_commonmark.specs.InlineMarkdown.{place_in_tags, written_resource, place_of_description}
use Rattle.htmd_commonmark.specs.Marks.{Mark, mark_for, fits, row, tags_of}
use Rattle.htmd_commonmark.specs.References.{is_reference}
use Rattle.htmd_commonmark.specs.TableLines.{in_cell, with_escaped_bars, padded_cell, barred_cells, line, dashes}
use Rattle.htmd_commonmark.specs.TableLines.{is_left, is_right, colon_if, delimiters, shown_cells, rows_text, lines_of}
use Rattle.htmd_commonmark.specs.TableLines.{column_widths, line_width, longest_padded, narrowest, table_text}
use Rattle.htmd_commonmark.specs.TextEscapes.{is_marked, escaped}
use Rattle.htmd_commonmark.specs.WrittenText.{Written, wrote}
use Rattle.htmd_chunks.specs.Cuts.{cut}
use Rattle.htmd_chunks.specs.Least.{least}
use Rattle.htmd_chunks.specs.Measures.{block_cost}
use Rattle.htmd_chunks.specs.Pieces.{piece_options}
use Rattle.htmd_chunks.specs.Rows.{cell_text, cell_texts, rows_cost}
use Rattle.htmd_chunks.specs.Runs.{runs}
use Rattle.htmd_chunks.specs.Sizes.{plus, text_size, gap_size, cost}
use Rattle.htmd_chunks.specs.declared.joint.Joint.TheVariants as joint
use Rattle.htmd_chunks.specs.declared.size.Margin.{Margin}
use Rattle.htmd_chunks.specs.declared.size.Size.{Size}
use Rattle.htmd_chunks.proofs.BegunTextsLemmas.{line_in, at}
use Rattle.htmd_chunks.proofs.ShortPartsLemmas.{bounds, BlockFit, FirstBlock, CutWell}
use Rattle.htmd_chunks.proofs.ShortRunsLemmas.{Each, of_none, of_more, runs-well, leaf-well}
use Rattle.htmd_chunks.proofs.SizesLemmas.{same_size, lines, size-behind, full-text, behind-marker}
use Rattle.htmd_chunks.proofs.WrittenSizesLemmas.{leaf-alone, table-apart}

-- ---- texts in one line

abbrev pub InLine : List ℕ → Type 0
InLine s = list_any is_line_feed s ≡ false

pub in-append : (s t : List ℕ) → InLine s → InLine t → InLine (s ++ t)
in-append s t one two =
    list_any-append is_line_feed s t ∙ or_from (list_any is_line_feed s) (list_any is_line_feed t) one two

in-either : (e : Bool) (s t : List ℕ) → InLine s → InLine t → InLine (cond e s t)
in-either true s t one two = one
in-either false s t one two = two

in-repeat : (n b : ℕ) → (b == 10) ≡ false → InLine (replicate n b)
in-repeat zero b other = refl
in-repeat (suc n) b other =
    or_from (is_line_feed b) (list_any is_line_feed (replicate n b)) other (in-repeat n b other)

in-parts : (b : ℕ) (s : List ℕ) → InLine (b ∷ s) → ((b == 10) ≡ false) × InLine s
in-parts b s h = or_parts (is_line_feed b) (list_any is_line_feed s) h

-- a byte that passes what line feeds don't
other-byte : (p : ℕ → Bool) (b : ℕ) → p 10 ≡ false → p b ≡ true → (b == 10) ≡ false
other-byte p b none h =
    elim (b == 10) as (λ e. (b == 10) ≡ e → e ≡ false) [
      | true ↦ λ is. absurd (let x : true ≡ false = sym h ∙ ap p (eqb-true b 10 is) ∙ none in cc)
      | false ↦ λ is. refl
    ] refl

in-all : (p : ℕ → Bool) (s : List ℕ) → p 10 ≡ false → list_all p s ≡ true → InLine s
in-all p [] none h = refl
in-all p (b ∷ s) none h =
    let q = and_parts (p b) (list_all p s) h in
    or_from (is_line_feed b) (list_any is_line_feed s) (other-byte p b none q.0) (in-all p s none q.1)

in-line : (s : List ℕ) → is_line s ≡ true → InLine s
in-line s h = in-all is_line_byte s refl (and_parts (is_utf8 s) (list_all is_line_byte s) h).1

in-text : (s : List ℕ) → is_text s ≡ true → InLine s
in-text s h =
    in-line s (and_parts (is_line s) (not (is_empty s))
    (and_parts (is_line s && not (is_empty s)) (not (has_double_space s)) h).0).0

pub in-line-text : (s : List ℕ) → is_text s ≡ true → InLine s
in-line-text s h = in-text s h

in-attribute : (s : List ℕ) → is_attribute s ≡ true → InLine s
in-attribute s h = in-all is_kept s refl (and_parts (is_utf8 s) (list_all is_kept s) h).1

-- ---- escapes

in-backslashes : (marked : ℕ → Bool) (k : ℕ) (s : List ℕ) → InLine s → InLine (with_backslashes marked k s)
in-backslashes marked k [] h = refl
in-backslashes marked k (b ∷ s) h =
    let p = in-parts b s h in
    let rest = with_backslashes marked (suc k) s in
    let more = or_from (is_line_feed b) (list_any is_line_feed rest) p.0 (in-backslashes marked (suc k) s p.1) in
    in-either (marked k) (backslash ∷ b ∷ rest) (b ∷ rest) more more

one-byte : (b : ℕ) → (b == 10) ≡ false → InLine (b ∷ [])
one-byte b other = or_from (is_line_feed b) false other refl

in-signs : (signs s : List ℕ) → InLine s → InLine (escaped_in signs s)
in-signs signs [] h = refl
in-signs signs (b ∷ s) h =
    let p = in-parts b s h in
    in-append (piece signs b s) (escaped_in signs s)
    (in-either (is_escaped signs b s) (backslash ∷ b ∷ [])
    (cond ((b == ampersand) && is_reference s) (codes "&amp;") (b ∷ []))
    (one-byte b p.0) (in-either ((b == ampersand) && is_reference s) (codes "&amp;") (b ∷ []) refl (one-byte b p.0)))
    (in-signs signs s p.1)

in-value : (s : List ℕ) → InLine s → InLine (escaped_value s)
in-value [] h = refl
in-value (b ∷ s) h =
    let p = in-parts b s h in
    in-append (in_value b) (escaped_value s)
    (in-either (b == ampersand) (codes "&amp;") _ refl
    (in-either (b == less_than_sign) (codes "&lt;") _ refl
    (in-either (b == greater_than_sign) (codes "&gt;") _ refl
    (in-either (b == quotation_mark) (codes "&quot;") _ refl
    (in-either (b == vertical_bar) (codes "&#124;") _ refl
    (in-either (b == right_square_bracket) (codes "&#93;") (b ∷ []) refl (one-byte b p.0)))))))
    (in-value s p.1)

in-bars : (s : List ℕ) → InLine s → InLine (with_escaped_bars s)
in-bars [] h = refl
in-bars (b ∷ s) h =
    let p = in-parts b s h in
    in-append (in_cell b) (with_escaped_bars s)
    (in-either (b == vertical_bar) (codes "\\|") (b ∷ []) refl (one-byte b p.0)) (in-bars s p.1)

-- ---- addresses and titles

in-destination : (s : List ℕ) → InLine s → InLine (destination s)
in-destination s h =
    in-either (needs_brackets s) ((codes "<" ++ escaped_in (codes "<>") s) ++ codes ">") (escaped_in (codes "()<>") s)
    (in-append (codes "<" ++ escaped_in (codes "<>") s) (codes ">")
    (in-append (codes "<") (escaped_in (codes "<>") s) refl (in-signs (codes "<>") s h)) refl)
    (in-signs (codes "()<>") s h)

in-title : (t : Option (List ℕ)) → is_title t ≡ true → InLine (title t)
in-title None h = refl
in-title (Some s) h =
    let a = is_attribute s in
    let q = and_parts (a && list_any is_line_byte s) (list_any (λ b. not (b == space)) s) h in
    let kept = (and_parts a (list_any is_line_byte s) q.0).0 in
    in-append (codes " \"" ++ escaped_in (codes "\"") s) (codes "\"")
    (in-append (codes " \"") (escaped_in (codes "\"") s) refl (in-signs (codes "\"") s (in-attribute s kept))) refl

in-resource : (address : List ℕ) (t : Option (List ℕ)) → is_attribute address ≡ true → is_title t ≡ true
    → InLine (written_resource address t)
in-resource address t a b =
    in-append ((codes "](" ++ destination address) ++ title t) (codes ")")
    (in-append (codes "](" ++ destination address) (title t)
    (in-append (codes "](") (destination address) refl (in-destination address (in-attribute address a)))
    (in-title t b)) refl

-- ---- inlines

in-code : (l : Line) (s : List ℕ) → is_text s ≡ true → InLine (written_code l s)
in-code l s h =
    let n = smallest_unused_len s in
    let padded = meets_delimiter s in
    let plain = in-text s h in
    let pad : InLine (space_if padded) = in-either padded (space ∷ []) [] refl refl in
    let signs = in-repeat n 96 refl in
    in-either (needs_tags l s) ((codes "<code>" ++ escaped (place_in_tags l) s) ++ codes "</code>")
    (delimited_text padded n s)
    (in-append (codes "<code>" ++ escaped (place_in_tags l) s) (codes "</code>")
    (in-append (codes "<code>") (escaped (place_in_tags l) s) refl
    (in-backslashes (is_marked (place_in_tags l) s) 0 s plain)) refl)
    (in-append (((replicate n 96 ++ space_if padded) ++ s) ++ space_if padded) (replicate n 96)
    (in-append ((replicate n 96 ++ space_if padded) ++ s) (space_if padded)
    (in-append (replicate n 96 ++ space_if padded) s
    (in-append (replicate n 96) (space_if padded) signs pad) plain) pad) signs)

-- both marks of a format
abbrev MarkIn : Mark → Type 0
MarkIn mark = InLine mark.opener × InLine mark.closer

mark-either : (e : Bool) (a b : Mark) → MarkIn a → MarkIn b → MarkIn (cond e a b)
mark-either true a b one two = one
mark-either false a b one two = two

mark-in : (format : Format) (s : Sides) → has_title format ≡ true → MarkIn (mark_for format s)
mark-in Emphasis s h =
    mark-either (fits asterisk s) (row asterisk (codes "*"))
    (cond (fits underscore s) (row underscore (codes "_")) (tags_of Emphasis)) (refl, refl)
    (mark-either (fits underscore s) (row underscore (codes "_")) (tags_of Emphasis) (refl, refl) (refl, refl))
mark-in Strong s h =
    mark-either (fits asterisk s) (row asterisk (codes "**"))
    (cond (fits underscore s) (row underscore (codes "__")) (tags_of Strong)) (refl, refl)
    (mark-either (fits underscore s) (row underscore (codes "__")) (tags_of Strong) (refl, refl) (refl, refl))
mark-in Deleted s h =
    mark-either (fits tilde s) (row tilde (codes "~~")) (tags_of Deleted) (refl, refl) (refl, refl)
mark-in Superscript s h = (refl, refl)
mark-in Subscript s h = (refl, refl)
mark-in Inserted s h = (refl, refl)
mark-in Underlined s h = (refl, refl)
mark-in Marked s h = (refl, refl)
mark-in Small s h = (refl, refl)
mark-in Keyboard s h = (refl, refl)
mark-in (Abbreviation t) s h = (
  in-append (codes "<abbr title=\"" ++ escaped_value t) (codes "\">")
      (in-append (codes "<abbr title=\"") (escaped_value t) refl
      (in-value t (in-text t (and_parts (is_text t) (is_trimmed t) h).0))) refl,
  refl,
)

in-anchor : (id : List ℕ) → InLine id → InLine (html.anchor id)
in-anchor id h =
    in-append ((codes "<a id=\"" ++ escaped_value id) ++ codes "\">") (codes "</a>")
    (in-append (codes "<a id=\"" ++ escaped_value id) (codes "\">")
    (in-append (codes "<a id=\"") (escaped_value id) refl (in-value id h)) refl) refl

mutual
  in-inlines : (style : BrStyle) (in_link : Bool) (around : List Format) (w : Written) (closing : Option ℕ)
      (xs : Inlines) → are_normal in_link around xs ≡ true → InLine w.text
      → InLine (written (line_in Cell style in_link) w closing xs).text
  in-inlines style in_link around w closing no_inlines normal h = h
  in-inlines style in_link around w closing (inline x rest) normal h =
      let l = line_in Cell style in_link in
      let f = follows Cell closing rest in
      let p = and_parts (is_normal in_link around x && meets x rest) (are_normal in_link around rest) normal in
      in-inlines style in_link around (with_inline l w f x) closing rest p.1
      (in-inline style in_link around w f x (and_parts (is_normal in_link around x) (meets x rest) p.0).0 h)

  in-inline : (style : BrStyle) (in_link : Bool) (around : List Format) (w : Written) (f : Following) (x : Inline)
      → is_normal in_link around x ≡ true → InLine w.text
      → InLine (with_inline (line_in Cell style in_link) w f x).text
  in-inline style in_link around w f (text s) normal h =
      let place = place_of (line_in Cell style in_link) w.text f.after in
      in-append w.text (escaped place s) h (in-backslashes (is_marked place s) 0 s (in-text s normal))
  in-inline style in_link around w f (code s) normal h =
      in-append w.text (written_code (line_in Cell style in_link) s) h
      (in-code (line_in Cell style in_link) s (and_parts (is_text s) (is_trimmed s) normal).0)
  in-inline style in_link around w f (formatted format content) normal h =
      let l = line_in Cell style in_link in
      let mark = mark_for format (sides_of l w.text f content) in
      let a = not (is_barred around format) in
      let b = has_title format in
      let c = not (has_none content) in
      let d = are_whole content in
      let p = and_parts (a && b && c && d) (are_normal in_link (format ∷ around) content) normal in
      let q = and_parts (a && b && c) d p.0 in
      let r = and_parts (a && b) c q.0 in
      let marks = mark-in format (sides_of l w.text f content) (and_parts a b r.0).1 in
      in-append (written l (wrote w mark.opener) (Some mark.sign) content).text mark.closer
      (in-inlines style in_link (format ∷ around) (wrote w mark.opener) (Some mark.sign) content p.1
      (in-append w.text mark.opener h marks.0)) marks.1
  in-inline style in_link around w f (link address name content) normal h =
      let a = not in_link in
      let b = is_attribute address in
      let c = is_title name in
      let d = not (has_none content) in
      let p = and_parts (a && b && c && d) (are_normal true around content) normal in
      let q = and_parts (a && b && c) d p.0 in
      let r = and_parts (a && b) c q.0 in
      in-append (written (line_in Cell style true) (wrote w (codes "[")) (Some right_square_bracket) content).text
      (written_resource address name)
      (in-inlines style true around (wrote w (codes "[")) (Some right_square_bracket) content p.1
      (in-append w.text (codes "[") h refl))
      (in-resource address name (and_parts a b r.0).1 r.1)
  in-inline style in_link around w f (image address name description) normal h =
      let a = is_attribute address in
      let b = is_title name in
      let p = and_parts (a && b) (is_line description) normal in
      let q = and_parts a b p.0 in
      let d = escaped place_of_description description in
      in-append w.text ((codes "![" ++ d) ++ written_resource address name) h
      (in-append (codes "![" ++ d) (written_resource address name)
      (in-append (codes "![") d refl
      (in-backslashes (is_marked place_of_description description) 0 description (in-line description p.1)))
      (in-resource address name q.0 q.1))
  in-inline style in_link around w f (anchor id) normal h =
      let p = and_parts (not in_link && is_text id) (is_trimmed id) normal in
      in-append w.text (html.anchor id) h (in-anchor id (in-text id (and_parts (not in_link) (is_text id) p.0).1))
  in-inline style in_link around w f line_break normal h = in-append w.text (codes "<br>") h refl
  in-inline style in_link around w f (task is_checked) normal h = absurd (cc)

in-cell : (options : DocumentOptions) (content : Inlines) → is_normal_line content ≡ true
    → InLine (cell_text (piece_options options) content)
in-cell options content normal =
    let p = and_parts (are_whole content) (are_normal false [] content) normal in
    in-bars (written (line_in Cell options.br_style false) (at [] []) None content).text
    (in-inlines options.br_style false [] (at [] []) None content p.1 refl)

-- ---- lines of a table

abbrev AllIn : List (List ℕ) → Type 0
AllIn cells = Each InLine cells

in-cells : (options : DocumentOptions) (cells : List Inlines) → list_all is_normal_line cells ≡ true
    → AllIn (cell_texts (piece_options options) cells)
in-cells options [] normal = of_none
in-cells options (content ∷ cells) normal =
    let p = and_parts (is_normal_line content) (list_all is_normal_line cells) normal in
    of_more (cell_text (piece_options options) content) (cell_texts (piece_options options) cells)
    (in-cell options content p.0) (in-cells options cells p.1)

in-barred : (cells : List (List ℕ)) (widths : List ℕ) → AllIn cells → InLine (barred_cells cells widths)
in-barred cells widths of_none = refl
in-barred cells [] (of_more cell rest here others) = refl
in-barred cells (width ∷ widths) (of_more cell rest here others) =
    let pad = replicate (width - width_of cell) space in
    in-append (padded_cell cell width) (vertical_bar ∷ barred_cells rest widths)
    (in-append (space ∷ []) (cell ++ (pad ++ space ∷ [])) refl
    (in-append cell (pad ++ space ∷ []) here
    (in-append pad (space ∷ []) (in-repeat (width - width_of cell) space refl) refl)))
    (in-append (vertical_bar ∷ []) (barred_cells rest widths) refl (in-barred rest widths others))

in-colon : (e : Bool) → InLine (colon_if e)
in-colon true = refl
in-colon false = refl

in-delimiters : (alignments : List Alignment) (widths : List ℕ) → InLine (delimiters alignments widths)
in-delimiters [] widths = refl
in-delimiters (alignment ∷ alignments) [] = refl
in-delimiters (alignment ∷ alignments) (width ∷ widths) =
    let first = colon_if (is_left alignment) in
    let middle = replicate (width - 2) 45 in
    let last = colon_if (is_right alignment) in
    in-append ((codes " " ++ dashes alignment width) ++ codes " |") (delimiters alignments widths)
    (in-append (codes " " ++ dashes alignment width) (codes " |")
    (in-append (codes " ") ((first ++ middle) ++ last) refl
    (in-append (first ++ middle) last
    (in-append first middle (in-colon (is_left alignment)) (in-repeat (width - 2) 45 refl))
    (in-colon (is_right alignment)))) refl)
    (in-delimiters alignments widths)

in-empties : (n : ℕ) → AllIn (replicate n [])
in-empties zero = of_none
in-empties (suc n) = of_more [] (replicate n []) refl (in-empties n)

in-shown : (padded : Bool) (columns : ℕ) (cells : List (List ℕ)) → AllIn cells
    → AllIn (shown_cells padded columns cells)
in-shown true columns cells all =
    each-append cells (replicate (columns - length cells) []) all (in-empties (columns - length cells))
  where
    each-append : (xs ys : List (List ℕ)) → AllIn xs → AllIn ys → AllIn (xs ++ ys)
    each-append xs ys of_none more = more
    each-append xs ys (of_more x rest here others) more =
        of_more x (rest ++ ys) here (each-append rest ys others more)
in-shown false columns cells all = all

-- a line of cells takes its bytes
bar-line : (s : List ℕ) → InLine s
    → text_size (vertical_bar ∷ s) ≡ record { bytes = length (vertical_bar ∷ s); full = 1; empty = 0 }
bar-line s h =
    let plain : InLine (vertical_bar ∷ s) = in-append (vertical_bar ∷ []) s refl h in
    full-text (vertical_bar ∷ s)
    (ap lines (sym (append-nil (vertical_bar ∷ s))) ∙ behind-marker (vertical_bar ∷ s) [] plain refl
    ∙ ap (λ t. t ∷ []) (append-nil (vertical_bar ∷ s))) refl

-- so many lines
abbrev size_of : ℕ → ℕ → Size
size_of bytes full = record { bytes = bytes; full = full; empty = 0 }

rows-size : (padded : Bool) (widths : List ℕ) (s : List ℕ) (k : ℕ) (rows : List (List (List ℕ)))
    → text_size s ≡ size_of (length s) k → Each AllIn rows
    → text_size (s ++ rows_text padded widths rows) ≡ size_of (length (s ++ rows_text padded widths rows))
    (k + length rows)
rows-size padded widths s k rows is of_none =
    ap text_size (append-nil s) ∙ is
    ∙ same_size (size_of (length s) k) (size_of (length (s ++ [])) (k + 0)) (ap length (sym (append-nil s)))
    (omega arith) refl
rows-size padded widths s k rows is (of_more cells rest here others) =
    let l = line (shown_cells padded (length widths) cells) widths in
    let next = s ++ line_feed ∷ l in
    let size : text_size next ≡ size_of (length next) (suc k) =
    size-behind s l
    ∙ ap (λ z. plus (plus z (gap_size true)) (text_size l)) is
    ∙ ap (plus (plus (size_of (length s) k) (gap_size true)))
    (bar-line (barred_cells (shown_cells padded (length widths) cells) widths)
    (in-barred (shown_cells padded (length widths) cells) widths (in-shown padded (length widths) cells here)))
    ∙ same_size (plus (plus (size_of (length s) k) (gap_size true)) (size_of (length l) 1))
    (size_of (length next) (suc k))
    (omega (arith, length-append s (line_feed ∷ l))) (omega arith) refl in
    let all = append_assoc s (line_feed ∷ l) (rows_text padded widths rest) in
    ap text_size (sym all) ∙ rows-size padded widths next (suc k) rest size others
    ∙ same_size (size_of (length (next ++ rows_text padded widths rest)) (suc k + length rest))
    (size_of (length (s ++ (line_feed ∷ l ++ rows_text padded widths rest))) (k + suc (length rest)))
    (ap length all) (omega arith) refl

lines-size : (padded : Bool) (widths dashed : List ℕ) (alignments : List Alignment) (header : List (List ℕ))
    (rows : List (List (List ℕ))) → AllIn header → Each AllIn rows
    → text_size (lines_of padded widths dashed alignments header rows)
    ≡ size_of (length (lines_of padded widths dashed alignments header rows)) (2 + length rows)
lines-size padded widths dashed alignments header rows head all =
    let first = line header widths in
    let second = vertical_bar ∷ delimiters alignments dashed in
    let front = first ++ line_feed ∷ second in
    let size : text_size front ≡ size_of (length front) 2 =
    size-behind first second
    ∙ ap (λ z. plus (plus z (gap_size true)) (text_size second))
    (bar-line (barred_cells header widths) (in-barred header widths head))
    ∙ ap (plus (plus (size_of (length first) 1) (gap_size true)))
    (bar-line (delimiters alignments dashed) (in-delimiters alignments dashed))
    ∙ same_size (plus (plus (size_of (length first) 1) (gap_size true)) (size_of (length second) 1))
    (size_of (length front) 2)
    (omega (arith, length-append first (line_feed ∷ second))) refl refl in
    rows-size padded widths front 2 rows size all

table-size : (alignments : List Alignment) (header : List (List ℕ)) (rows : List (List (List ℕ)))
    → AllIn header → Each AllIn rows
    → text_size (table_text alignments header rows)
    ≡ size_of (length (table_text alignments header rows)) (2 + length rows)
table-size alignments header rows head all =
    let widths = column_widths header rows in
    let padded = lines_of true widths widths alignments header rows in
    let plain = lines_of false (replicate (length widths) 0) (replicate (length widths) narrowest) alignments header
    rows in
    elim (nat_le (line_width widths) longest_padded)
    as (λ e. text_size (cond e padded plain) ≡ size_of (length (cond e padded plain)) (2 + length rows)) [
      | true ↦ lines-size true widths widths alignments header rows head all
      | false ↦
          lines-size false (replicate (length widths) 0) (replicate (length widths) narrowest) alignments header rows
          head all
    ]

-- ---- all of it

abbrev RowOk : List Inlines → Type 0
RowOk cells = list_all is_normal_line cells ≡ true

rows-in : (options : DocumentOptions) (rows : List (List Inlines)) → Each RowOk rows
    → Each AllIn (map (cell_texts (piece_options options)) rows)
rows-in options rows of_none = of_none
rows-in options rows (of_more row rest here others) =
    of_more (cell_texts (piece_options options) row) (map (cell_texts (piece_options options)) rest)
    (in-cells options row here) (rows-in options rest others)

map-length : {X Y : Type 0} (f : X → Y) (xs : List X) → length (map f xs) ≡ length xs
map-length f [] = refl
map-length f (x ∷ xs) = ap (λ n. suc n) (map-length f xs)

table-cost : (options : DocumentOptions) (m : Margin) (alignments : List Alignment) (header : List Inlines)
    (rows : List (List Inlines)) → RowOk header → Each RowOk rows
    → block_cost (piece_options options) m (table alignments header rows)
    ≤ rows_cost (piece_options options) m alignments header rows
table-cost options m alignments header rows head all =
    let o = piece_options options in
    let texts = map (cell_texts o) rows in
    let t = table_text alignments (cell_texts o header) texts in
    let is = table-apart options [] alignments header rows in
    let size = table-size alignments (cell_texts o header) texts (in-cells options header head)
    (rows-in options rows all) in
    let count : 2 + length texts ≡ length rows + 2 = omega (arith, map-length (cell_texts o) rows) in
    omega (
      arith,
      ap (cost m) (leaf-alone options (table alignments header rows) (ap (λ (w : Written). w.definitions) is)),
      ap (λ (w : Written). cost m (text_size w.text)) is,
      ap (cost m) size,
      ap (λ n. cost m (size_of (length t) n)) count,
    )

each-row : (columns : ℕ) (rows : List (List Inlines)) → list_all (is_normal_row columns) rows ≡ true
    → Each RowOk rows
each-row columns [] all = of_none
each-row columns (row ∷ rows) all =
    let p = and_parts (is_normal_row columns row) (list_all (is_normal_row columns) rows) all in
    let q = and_parts (nat_le (length row) columns && ends_filled row) (are_normal_cells row) p.0 in
    of_more row rows (and_parts (list_all is_normal_line row) (list_all anchors_stand_well row) q.1).0
    (each-row columns rows p.1)

pub table-well : (options : DocumentOptions) (m : Margin) (most first : ℕ) (alignments : List Alignment)
    (header : List Inlines) (rows : List (List Inlines))
    → is_normal_block false (table alignments header rows) ≡ true
    → CutWell options m most first (least (bounds options most) m (table alignments header rows))
    (cut (bounds options most) m first (table alignments header rows))
table-well options m most first alignments header rows normal =
    let o = piece_options options in
    let a = has_cell header in
    let b = length alignments == length header in
    let c = are_normal_cells header in
    let d = list_all (is_normal_row (length header)) rows in
    let q = and_parts (a && b && c) d normal in
    let head = (and_parts (list_all is_normal_line header) (list_all anchors_stand_well header)
    (and_parts (a && b) c q.0).1).0 in
    let taken = rows_cost o m alignments header in
    leaf-well (table alignments header) joint.Table
    (FirstBlock options m most first (taken (take 1 rows))) (BlockFit options m most) (runs taken most first rows)
    (runs-well options m most first taken RowOk (table alignments header)
    (λ row more each. table-cost options m alignments header (row ∷ more) head each)
    (λ row ok. inr refl) rows (each-row (length header) rows q.1)
    (λ is. (table-cost options m alignments header [] head of_none, refl)))
