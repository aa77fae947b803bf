-- Flat blocks take no more than the blocks that they stand for, whose elements are measured alone.
use Rattle.std.proofs.Common.{◌≡◌, ℕ, suc, ◌*◌, ◌≤◌, Bool, true, false, not, cond, List, [], ◌∷◌, ◌++◌, length}
use Rattle.std.proofs.Common.{refl, sym, ap, ◌∙◌, subst, append-nil, arith, Option, Some, None, le_refl}
use Rattle.std.proofs.Common.{mul-le-mul}
use Rattle.std.specs.Prelude.{◌&&◌, ◌||◌, nat_le}
use Rattle.std.proofs.lemmas.Bool.{and_parts, not-true}
use Rattle.htmd_lexical.specs.Characters.{line_feed}
use Rattle.htmd_document.specs.DocumentLimits.{most_nested}
use Rattle.htmd_document.specs.Documents.{Inlines, Block, Blocks, Items, paragraph, heading, code_block, quote}
use Rattle.htmd_document.specs.Documents.{thematic_break, list, table, element, tags, no_blocks, block, no_items, item}
use Rattle.htmd_document.specs.Documents.{BlockAttribute}
use Rattle.htmd_document.specs.FlatDocuments.{line_before, element_before, text_in_line, flat_before, flat_all}
use Rattle.htmd_document.specs.FlatDocuments.{flat_items}
use Rattle.htmd_document.specs.FlatDocuments.{flattened}
use Rattle.htmd_document.specs.NormalDocuments.{item_count as count_of}
use Rattle.htmd_document.specs.NormalDocuments.{IsNormal, is_normal_block, are_normal_blocks, are_normal_items}
use Rattle.htmd_document.specs.NormalDocuments.{is_normal_paragraph, is_normal_heading, is_normal_list, is_level}
use Rattle.htmd_document.specs.NormalDocuments.{is_normal_element, has_filled_item, are_short_numbers}
use Rattle.htmd_document.specs.NormalDocuments.{has_right_distance, depth_among}
use Rattle.htmd_document.specs.NormalInlines.{has_none, is_normal_line, is_normal_item, are_anchors, anchors_stand_well}
use Rattle.htmd_document.specs.Tags.{element_tag, end_of_element, element_line}
use Rattle.htmd_document.specs.TightItems.{is_filled, are_tags}
use Rattle.htmd_document.specs.declared.document.BlockElement.{BlockElement}
use Rattle.htmd_commonmark.specs.BlockMarkdown.{item_count, written_blocks}
use Rattle.htmd_commonmark.specs.DocumentMarkdown.{outermost, markdown_of, written_definitions}
use Rattle.htmd_commonmark.specs.declared.options.DocumentOptions.{DocumentOptions}
use Rattle.htmd_chunks.specs.Measures.{block_size, blocks_size, further_size, item_size, items_size, further_items_size}
use Rattle.htmd_chunks.specs.Measures.{item_width}
use Rattle.htmd_chunks.specs.Pieces.{piece_options}
use Rattle.htmd_chunks.specs.Sizes.{plus, text_size, gap_size, quoted_size, indented_size, cost}
use Rattle.htmd_chunks.specs.declared.bounds.ListShape.{ListShape}
use Rattle.htmd_chunks.specs.declared.size.Margin.{Margin}
use Rattle.htmd_chunks.specs.declared.size.Size.{Size}
use Rattle.htmd_chunks.proofs.BegunTextsLemmas.{normal-begins, item-begins, begins-append}
use Rattle.htmd_chunks.proofs.SizesLemmas.{begins_well, same_size, size-behind}
use Rattle.htmd_chunks.proofs.WrittenSizesLemmas.{paragraph_text, has_item, are_ready, are_ready_items}
use Rattle.htmd_chunks.proofs.WrittenSizesLemmas.{blocks-written}

-- ---- one size within another

pub record AtMost (a b : Size) : Type 0 where
  pub bytes : a.bytes ≤ b.bytes
  pub full : a.full ≤ b.full
  pub empty : a.empty ≤ b.empty

pub most-same : (a b : Size) → a ≡ b → AtMost a b
most-same a b is =
    subst (AtMost a) is
    (record { bytes = le_refl a.bytes; full = le_refl a.full; empty = le_refl a.empty })

pub most-trans : (a b c : Size) → AtMost a b → AtMost b c → AtMost a c
most-trans a b c p q = record {
  bytes = omega (arith, p.bytes, q.bytes);
  full = omega (arith, p.full, q.full);
  empty = omega (arith, p.empty, q.empty);
}

pub most-plus : (a b c d : Size) → AtMost a b → AtMost c d → AtMost (plus a c) (plus b d)
most-plus a b c d p q = record {
  bytes = omega (arith, p.bytes, q.bytes);
  full = omega (arith, p.full, q.full);
  empty = omega (arith, p.empty, q.empty);
}

pub most-quoted : (a b : Size) → AtMost a b → AtMost (quoted_size a) (quoted_size b)
most-quoted a b p = record {
  bytes = omega (arith, p.bytes, p.full, p.empty);
  full = omega (arith, p.full, p.empty);
  empty = omega arith;
}

pub most-indented : (v w : ℕ) (a b : Size) → v ≤ w → AtMost a b
    → AtMost (indented_size v a) (indented_size w b)
most-indented v w a b le p = record {
  bytes = omega (arith, p.bytes, product v w a.full b.full le p.full);
  full = p.full;
  empty = p.empty;
}
  where
    product : (v w m n : ℕ) → v ≤ w → m ≤ n → v * m ≤ w * n
    product v w m n le more = mul-le-mul le more

pub most-cost : (m : Margin) (a b : Size) → AtMost a b → cost m a ≤ cost m b
most-cost m a b p =
    omega (arith, p.bytes, mul-le-mul p.full (le_refl m.full), mul-le-mul p.empty (le_refl m.empty))

-- ---- lines of tags

abbrev pub begins_with_tags : Blocks → Bool
begins_with_tags no_blocks = false
begins_with_tags (block b rest) = are_tags b

tags-size : (options : DocumentOptions) (s : List ℕ) → block_size (piece_options options) (tags s) ≡ text_size s
tags-size options s = ap text_size (append-nil (s ++ []) ∙ append-nil s)

-- the sizes of blocks behind a line of tags
abbrev with_line : Bool → DocumentOptions → Bool → List ℕ → Blocks → Size
with_line merged options t line rest =
    cond merged (plus (plus (text_size line) (gap_size true)) (blocks_size (piece_options options) t rest))
    (plus (text_size line) (further_size (piece_options options) t rest))

line-size : (options : DocumentOptions) (t : Bool) (line : List ℕ) (rest : Blocks)
    → blocks_size (piece_options options) t (line_before line rest)
    ≡ with_line (begins_with_tags rest) options t line rest
line-size options t line no_blocks =
    ap (λ z. plus z (further_size (piece_options options) t no_blocks)) (tags-size options line)
line-size options t line (block (paragraph content) bs) =
    ap (λ z. plus z (further_size (piece_options options) t (block (paragraph content) bs))) (tags-size options line)
line-size options t line (block (heading level content) bs) =
    ap (λ z. plus z (further_size (piece_options options) t (block (heading level content) bs)))
    (tags-size options line)
line-size options t line (block (code_block language s) bs) =
    ap (λ z. plus z (further_size (piece_options options) t (block (code_block language s) bs)))
    (tags-size options line)
line-size options t line (block (quote content) bs) =
    ap (λ z. plus z (further_size (piece_options options) t (block (quote content) bs))) (tags-size options line)
line-size options t line (block thematic_break bs) =
    ap (λ z. plus z (further_size (piece_options options) t (block thematic_break bs))) (tags-size options line)
line-size options t line (block (list start is_tight items) bs) =
    ap (λ z. plus z (further_size (piece_options options) t (block (list start is_tight items) bs)))
    (tags-size options line)
line-size options t line (block (table alignments header rows) bs) =
    ap (λ z. plus z (further_size (piece_options options) t (block (table alignments header rows) bs)))
    (tags-size options line)
line-size options t line (block (element name attributes content) bs) =
    ap (λ z. plus z (further_size (piece_options options) t (block (element name attributes content) bs)))
    (tags-size options line)
line-size options t line (block (tags s) bs) =
    let o = piece_options options in
    let further = further_size o t bs in
    ap (λ z. plus z further) (tags-size options (line ++ line_feed ∷ s) ∙ size-behind line s)
    ∙ same_size (plus (plus (plus (text_size line) (gap_size true)) (text_size s)) further)
    (plus (plus (text_size line) (gap_size true)) (plus (text_size s) further)) (omega arith) (omega arith)
    (omega arith)
    ∙ ap (λ z. plus (plus (text_size line) (gap_size true)) (plus z further)) (sym (tags-size options s))

line-tagged : (line : List ℕ) (rest : Blocks) → begins_with_tags (line_before line rest) ≡ true
line-tagged line no_blocks = refl
line-tagged line (block (paragraph content) bs) = refl
line-tagged line (block (heading level content) bs) = refl
line-tagged line (block (code_block language s) bs) = refl
line-tagged line (block (quote content) bs) = refl
line-tagged line (block thematic_break bs) = refl
line-tagged line (block (list start is_tight items) bs) = refl
line-tagged line (block (table alignments header rows) bs) = refl
line-tagged line (block (element name attributes content) bs) = refl
line-tagged line (block (tags s) bs) = refl

tagged-filled : (bs : Blocks) → begins_with_tags bs ≡ true → is_filled bs ≡ true
tagged-filled no_blocks h = absurd (cc)
tagged-filled (block b rest) h = refl

-- the gap before blocks
gap-first : (o : DocumentOptions) (t : Bool) (bs : Blocks) → is_filled bs ≡ true
    → further_size o t bs ≡ plus (gap_size t) (blocks_size o t bs)
gap-first o t no_blocks some = absurd (cc)
gap-first o t (block b rest) some =
    same_size (plus (plus (gap_size t) (block_size o b)) (further_size o t rest))
    (plus (gap_size t) (plus (block_size o b) (further_size o t rest))) (omega arith) (omega arith) (omega arith)

gap-least : (t : Bool) → AtMost (gap_size true) (gap_size t)
gap-least true = most-same (gap_size true) (gap_size true) refl
gap-least false = record { bytes = omega arith; full = omega arith; empty = omega arith }

gap-most : (t : Bool) → AtMost (gap_size t) (gap_size false)
gap-most true = gap-least false
gap-most false = most-same (gap_size false) (gap_size false) refl

-- ---- the same behind less

-- Blocks take at most what others take and this. What begins with tags there does here.
record Below (options : DocumentOptions) (t : Bool) (r s : Blocks) (d : Size) : Type 0 where
  further : AtMost (further_size (piece_options options) t r) (plus (further_size (piece_options options) false s) d)
  tagged : begins_with_tags s ≡ true → begins_with_tags r ≡ true
  first : begins_with_tags s ≡ true
      → AtMost (blocks_size (piece_options options) t r) (plus (blocks_size (piece_options options) false s) d)

below-block : (options : DocumentOptions) (t : Bool) (r s : Blocks) (d : Size) (b : Block) → Below options t r s d
    → Below options t (block b r) (block b s) d
below-block options t r s d b below =
    let o = piece_options options in
    let size = block_size o b in
    let more = below.further in
    let gap = gap-most t in
    record {
      further = record {
        bytes = omega (arith, more.bytes, gap.bytes);
        full = omega (arith, more.full, gap.full);
        empty = omega (arith, more.empty, gap.empty);
      };
      tagged = λ h. h;
      first = λ h. record {
        bytes = omega (arith, more.bytes);
        full = omega (arith, more.full);
        empty = omega (arith, more.empty);
      };
    }

line-first : (options : DocumentOptions) (t : Bool) (r s : Blocks) (d : Size) (line : List ℕ)
    → Below options t r s d → (e f : Bool) → begins_with_tags r ≡ e → begins_with_tags s ≡ f
    → AtMost (with_line e options t line r) (plus (with_line f options false line s) d)
line-first options t r s d line below true true re se =
    let more = below.first se in record {
      bytes = omega (arith, more.bytes);
      full = omega (arith, more.full);
      empty = omega (arith, more.empty);
    }
line-first options t r s d line below true false re se =
    let o = piece_options options in
    let more = below.further in
    let gap = gap-least t in
    let split = gap-first o t r (tagged-filled r re) in
    record {
      bytes = omega (arith, more.bytes, gap.bytes, ap (λ z. z.bytes) split);
      full = omega (arith, more.full, gap.full, ap (λ z. z.full) split);
      empty = omega (arith, more.empty, gap.empty, ap (λ z. z.empty) split);
    }
line-first options t r s d line below false true re se =
    absurd (let x : true ≡ false = sym (below.tagged se) ∙ re in cc)
line-first options t r s d line below false false re se =
    let more = below.further in record {
      bytes = omega (arith, more.bytes);
      full = omega (arith, more.full);
      empty = omega (arith, more.empty);
    }

below-line : (options : DocumentOptions) (t : Bool) (r s : Blocks) (d : Size) (line : List ℕ)
    → Below options t r s d
    → Below options t (line_before line r) (line_before line s) d
below-line options t r s d line below =
    let o = piece_options options in
    let r' = line_before line r in
    let s' = line_before line s in
    let inside : AtMost (blocks_size o t r') (plus (blocks_size o false s') d) =
    subst (λ z. AtMost z (plus (blocks_size o false s') d)) (sym (line-size options t line r))
    (subst (λ z. AtMost (with_line (begins_with_tags r) options t line r) (plus z d))
    (sym (line-size options false line s))
    (line-first options t r s d line below (begins_with_tags r) (begins_with_tags s) refl refl)) in
    let gap = gap-most t in
    let split-r = gap-first o t r' (tagged-filled r' (line-tagged line r)) in
    let split-s = gap-first o false s' (tagged-filled s' (line-tagged line s)) in
    record {
      further = record {
        bytes = omega (arith, inside.bytes, gap.bytes, ap (λ z. z.bytes) split-r, ap (λ z. z.bytes) split-s);
        full = omega (arith, inside.full, gap.full, ap (λ z. z.full) split-r, ap (λ z. z.full) split-s);
        empty = omega (arith, inside.empty, gap.empty, ap (λ z. z.empty) split-r, ap (λ z. z.empty) split-s);
      };
      tagged = λ h. line-tagged line r;
      first = λ h. inside;
    }

mutual
  below-before : (options : DocumentOptions) (t : Bool) (r s : Blocks) (d : Size) (b : Block) → Below options t r s d
      → Below options t (flat_before b r) (flat_before b s) d
  below-before options t r s d (paragraph content) below = below-block options t r s d (paragraph content) below
  below-before options t r s d (heading level content) below =
      below-block options t r s d (heading level content) below
  below-before options t r s d (code_block language text) below =
      below-block options t r s d (code_block language text) below
  below-before options t r s d (quote content) below =
      below-block options t r s d (quote (flat_all content no_blocks)) below
  below-before options t r s d thematic_break below = below-block options t r s d thematic_break below
  below-before options t r s d (list start is_tight items) below =
      below-block options t r s d (list start is_tight (flat_items items)) below
  below-before options t r s d (table alignments header rows) below =
      below-block options t r s d (table alignments header rows) below
  below-before options t r s d (element name attributes content) below =
      let end = end_of_element name in
      let inside = below-all options t (line_before end r) (line_before end s) d content
      (below-line options t r s d end below) in
      let r' = flat_all content (line_before end r) in
      let s' = flat_all content (line_before end s) in
      elim (text_in_line content)
      as (λ e. Below options t (element_before name attributes e r' r) (element_before name attributes e s' s) d) [
        | Some text ↦ below-line options t r s d (element_line name attributes text) below
        | None ↦ below-line options t r' s' d (element_tag name attributes) inside
      ]
  below-before options t r s d (tags text) below = below-block options t r s d (tags text) below

  below-all : (options : DocumentOptions) (t : Bool) (r s : Blocks) (d : Size) (bs : Blocks) → Below options t r s d
      → Below options t (flat_all bs r) (flat_all bs s) d
  below-all options t r s d no_blocks below = below
  below-all options t r s d (block b bs) below =
      below-before options t (flat_all bs r) (flat_all bs s) d b (below-all options t r s d bs below)

below-none : (options : DocumentOptions) (t : Bool) (r : Blocks)
    → Below options t r no_blocks (further_size (piece_options options) t r)
below-none options t r = record {
  further = record { bytes = omega arith; full = omega arith; empty = omega arith };
  tagged = λ h. absurd (cc);
  first = λ h. absurd (cc);
}

-- ---- flat blocks of normal ones can be measured

line-ready : (options : DocumentOptions) (line : List ℕ) (rest : Blocks) → begins_well line ≡ true
    → are_ready options rest ≡ true → are_ready options (line_before line rest) ≡ true
line-ready options line no_blocks well ready = ap (λ e. e && true) well
line-ready options line (block (paragraph content) bs) well ready =
    ap (λ e. e && are_ready options (block (paragraph content) bs)) well ∙ ready
line-ready options line (block (heading level content) bs) well ready =
    ap (λ e. e && are_ready options (block (heading level content) bs)) well ∙ ready
line-ready options line (block (code_block language s) bs) well ready =
    ap (λ e. e && are_ready options (block (code_block language s) bs)) well ∙ ready
line-ready options line (block (quote content) bs) well ready =
    ap (λ e. e && are_ready options (block (quote content) bs)) well ∙ ready
line-ready options line (block thematic_break bs) well ready =
    ap (λ e. e && are_ready options (block thematic_break bs)) well ∙ ready
line-ready options line (block (list start is_tight items) bs) well ready =
    ap (λ e. e && are_ready options (block (list start is_tight items) bs)) well ∙ ready
line-ready options line (block (table alignments header rows) bs) well ready =
    ap (λ e. e && are_ready options (block (table alignments header rows) bs)) well ∙ ready
line-ready options line (block (element name attributes content) bs) well ready = absurd (cc)
line-ready options line (block (tags s) bs) well ready =
    let p = and_parts (begins_well s) (are_ready options bs) ready in
    ap (λ e. e && are_ready options bs) (begins-append line (line_feed ∷ s) well) ∙ p.1

both : (a b : Bool) → a ≡ true → b ≡ true → (a && b) ≡ true
both a b p q = ap (λ e. e && b) p ∙ q

flat-filled : (b : Block) (rest : Blocks) → is_filled (flat_before b rest) ≡ true
flat-filled (paragraph content) rest = refl
flat-filled (heading level content) rest = refl
flat-filled (code_block language s) rest = refl
flat-filled (quote content) rest = refl
flat-filled thematic_break rest = refl
flat-filled (list start is_tight items) rest = refl
flat-filled (table alignments header rows) rest = refl
flat-filled (element name attributes content) rest =
    let inside = flat_all content (line_before (end_of_element name) rest) in
    elim (text_in_line content) as (λ e. is_filled (element_before name attributes e inside rest) ≡ true) [
      | Some s ↦
          tagged-filled (line_before (element_line name attributes s) rest)
          (line-tagged (element_line name attributes s) rest)
      | None ↦
          tagged-filled (line_before (element_tag name attributes) inside)
          (line-tagged (element_tag name attributes) inside)
    ]
flat-filled (tags s) rest = refl

all-filled : (bs : Blocks) → is_filled bs ≡ true → is_filled (flat_all bs no_blocks) ≡ true
all-filled no_blocks some = absurd (cc)
all-filled (block b bs) some = flat-filled b (flat_all bs no_blocks)

same-count : (items : Items) → count_of items ≡ item_count items
same-count no_items = refl
same-count (item first rest) = ap (λ n. suc n) (same-count rest)

flat-count : (items : Items) → item_count (flat_items items) ≡ item_count items
flat-count no_items = refl
flat-count (item first rest) = ap (λ n. suc n) (flat-count rest)

filled-item : (items : Items) → has_filled_item items ≡ true → has_item items ≡ true
filled-item no_items some = absurd (cc)
filled-item (item first rest) some = refl

paragraph-ready : (options : DocumentOptions) (in_item : Bool) (content : Inlines)
    → is_normal_paragraph in_item content ≡ true → begins_well (paragraph_text options content) ≡ true
paragraph-ready options in_item content normal =
    let line = cond in_item (is_normal_item content) (is_normal_line content) in
    let p = and_parts (not (has_none content) && line) (are_anchors content || anchors_stand_well content) normal in
    let q = and_parts (not (has_none content)) line p.0 in
    let some = not-true (has_none content) q.0 in
    elim in_item
    as (λ e. cond e (is_normal_item content) (is_normal_line content) ≡ true
    → begins_well (paragraph_text options content) ≡ true) [
      | true ↦ λ h. item-begins options.br_style content some h
      | false ↦ λ h. normal-begins options.br_style content some h
    ] q.1

heading-ready : (options : DocumentOptions) (level : ℕ) (content : Inlines)
    → is_normal_heading level content ≡ true
    → begins_well (paragraph_text options content) ≡ true
heading-ready options level content normal =
    let p = and_parts (is_level level && not (has_none content) && is_normal_line content) (anchors_stand_well content)
    normal in
    let q = and_parts (is_level level && not (has_none content)) (is_normal_line content) p.0 in
    let r = and_parts (is_level level) (not (has_none content)) q.0 in
    normal-begins options.br_style content (not-true (has_none content) r.1) q.1

list-ready : (options : DocumentOptions) (start : Option ℕ) (is_tight : Bool) (items : Items)
    → is_normal_list start is_tight items ≡ true
    → (has_item items && are_short_numbers start (item_count items)) ≡ true
list-ready options start is_tight items normal =
    let p = and_parts (has_filled_item items && are_short_numbers start (count_of items))
    (has_right_distance is_tight items) normal in
    let q = and_parts (has_filled_item items) (are_short_numbers start (count_of items)) p.0 in
    both (has_item items) (are_short_numbers start (item_count items)) (filled-item items q.0)
    (ap (are_short_numbers start) (sym (same-count items)) ∙ q.1)

mutual
  pub ready-before : (options : DocumentOptions) (in_item : Bool) (b : Block) (rest : Blocks)
      → is_normal_block in_item b ≡ true → are_ready options rest ≡ true
      → are_ready options (flat_before b rest) ≡ true
  ready-before options in_item (paragraph content) rest normal ready =
      both (begins_well (paragraph_text options content)) (are_ready options rest)
      (paragraph-ready options in_item content normal) ready
  ready-before options in_item (heading level content) rest normal ready =
      both (begins_well (paragraph_text options content)) (are_ready options rest)
      (heading-ready options level content normal) ready
  ready-before options in_item (code_block language s) rest normal ready = ready
  ready-before options in_item (quote content) rest normal ready =
      let p = and_parts (is_filled content) (are_normal_blocks false content) normal in
      let inner = flat_all content no_blocks in
      both (is_filled inner && are_ready options inner) (are_ready options rest)
      (both (is_filled inner) (are_ready options inner) (all-filled content p.0)
      (ready-all options false content no_blocks p.1 refl)) ready
  ready-before options in_item thematic_break rest normal ready = ready
  ready-before options in_item (list start is_tight items) rest normal ready =
      let flat = flat_items items in
      let p = and_parts (is_normal_list start is_tight flat) (are_normal_items items) normal in
      both ((has_item flat && are_short_numbers start (item_count flat)) && are_ready_items options flat)
      (are_ready options rest)
      (both (has_item flat && are_short_numbers start (item_count flat)) (are_ready_items options flat)
      (list-ready options start is_tight flat p.0) (ready-items options items p.1)) ready
  ready-before options in_item (table alignments header rows) rest normal ready = ready
  ready-before options in_item (element name attributes content) rest normal ready =
      let p = and_parts (is_normal_element name attributes content) (are_normal_blocks false content) normal in
      let end = line_before (end_of_element name) rest in
      let inside = flat_all content end in
      let inner : are_ready options inside ≡ true =
      ready-all options false content end p.1 (line-ready options (end_of_element name) rest refl ready) in
      elim (text_in_line content) as (λ e. are_ready options (element_before name attributes e inside rest) ≡ true) [
        | Some s ↦ line-ready options (element_line name attributes s) rest refl ready
        | None ↦ line-ready options (element_tag name attributes) inside refl inner
      ]
  ready-before options in_item (tags s) rest normal ready = absurd (cc)

  pub ready-all : (options : DocumentOptions) (in_item : Bool) (bs rest : Blocks)
      → are_normal_blocks in_item bs ≡ true
      → are_ready options rest ≡ true → are_ready options (flat_all bs rest) ≡ true
  ready-all options in_item no_blocks rest normal ready = ready
  ready-all options in_item (block b bs) rest normal ready =
      let p = and_parts (is_normal_block in_item b) (are_normal_blocks false bs) normal in
      ready-before options in_item b (flat_all bs rest) p.0 (ready-all options false bs rest p.1 ready)

  ready-items : (options : DocumentOptions) (items : Items) → are_normal_items items ≡ true
      → are_ready_items options (flat_items items) ≡ true
  ready-items options no_items normal = refl
  ready-items options (item first rest) normal =
      let p = and_parts (are_normal_blocks true first) (are_normal_items rest) normal in
      both (are_ready options (flat_all first no_blocks)) (are_ready_items options (flat_items rest))
      (ready-all options true first no_blocks p.0 refl) (ready-items options rest p.1)

-- ---- flat blocks take no more

-- flat blocks alone
written-alone : (options : DocumentOptions) (bs : Blocks) → is_filled bs ≡ true
    → are_ready options bs ≡ true
    → text_size ((written_blocks (piece_options options) outermost [] bs).text
    ++ written_definitions (written_blocks (piece_options options) outermost [] bs).definitions)
    ≡ blocks_size (piece_options options) false bs
written-alone options bs some ready =
    let w = written_blocks (piece_options options) outermost [] bs in
    let is = blocks-written options outermost [] bs some ready in
    ap (λ ds. text_size (w.text ++ written_definitions ds)) is.1 ∙ ap text_size (append-nil w.text) ∙ is.0

item-filled : (o : DocumentOptions) (l : ListShape) (k : ℕ) (bs : Blocks) → is_filled bs ≡ true
    → item_size o l k bs ≡ indented_size (item_width o l k) (blocks_size o l.is_tight bs)
item-filled o l k no_blocks some = absurd (cc)
item-filled o l k (block b bs) some = refl

-- an item, by what stands in it
most-item : (options : DocumentOptions) (l : ListShape) (k : ℕ) (content : Blocks)
    → AtMost (blocks_size (piece_options options) l.is_tight (flat_all content no_blocks))
    (blocks_size (piece_options options) l.is_tight content)
    → AtMost (item_size (piece_options options) l k (flat_all content no_blocks))
    (item_size (piece_options options) l k content)
most-item options l k no_blocks inner = most-same _ _ refl
most-item options l k (block b bs) inner =
    let o = piece_options options in
    let width = item_width o l k in
    let flat = flat_before b (flat_all bs no_blocks) in
    subst (λ z. AtMost z (indented_size width (blocks_size o l.is_tight (block b bs))))
    (sym (item-filled o l k flat (flat-filled b (flat_all bs no_blocks))))
    (most-indented width width (blocks_size o l.is_tight flat) (blocks_size o l.is_tight (block b bs)) (le_refl width)
    inner)

mutual
  -- a block before others
  most-before : (options : DocumentOptions) (in_item t : Bool) (b : Block) (rest : Blocks)
      → is_normal_block in_item b ≡ true
      → AtMost (blocks_size (piece_options options) t (flat_before b rest))
      (plus (block_size (piece_options options) b) (further_size (piece_options options) t rest))
  most-before options in_item t (paragraph content) rest normal = most-same _ _ refl
  most-before options in_item t (heading level content) rest normal = most-same _ _ refl
  most-before options in_item t (code_block language s) rest normal = most-same _ _ refl
  most-before options in_item t (quote content) rest normal =
      let o = piece_options options in
      let p = and_parts (is_filled content) (are_normal_blocks false content) normal in
      most-plus (quoted_size (blocks_size o false (flat_all content no_blocks)))
      (quoted_size (blocks_size o false content)) (further_size o t rest) (further_size o t rest)
      (most-quoted (blocks_size o false (flat_all content no_blocks)) (blocks_size o false content)
      (most-all options false false content p.1)) (most-same _ _ refl)
  most-before options in_item t thematic_break rest normal = most-same _ _ refl
  most-before options in_item t (list start is_tight items) rest normal =
      let o = piece_options options in
      let l : ListShape = record { start = start; is_tight = is_tight; count = item_count items } in
      let p = and_parts (is_normal_list start is_tight (flat_items items)) (are_normal_items items) normal in
      most-plus (block_size o (list start is_tight (flat_items items))) (block_size o (list start is_tight items))
      (further_size o t rest) (further_size o t rest)
      (subst (λ n. AtMost (items_size o (record { start = start; is_tight = is_tight; count = n }) 0
      (flat_items items))
      (items_size o l 0 items)) (sym (flat-count items)) (most-items options l 0 items p.1))
      (most-same _ _ refl)
  most-before options in_item t (table alignments header rows) rest normal = most-same _ _ refl
  most-before options in_item t (element name attributes content) rest normal =
      let o = piece_options options in
      let b = element name attributes content in
      let alone = flat_before b no_blocks in
      let below = below-before options t rest no_blocks (further_size o t rest) b (below-none options t rest) in
      let ready = ready-before options in_item b no_blocks normal refl in
      subst (λ z. AtMost (blocks_size o t (flat_before b rest)) (plus z (further_size o t rest)))
      (sym (written-alone options alone (flat-filled b no_blocks) ready))
      (below.first (element-tagged name attributes content no_blocks))
    where
      element-tagged : (name : BlockElement) (attributes : List BlockAttribute) (content rest : Blocks)
          → begins_with_tags (flat_before (element name attributes content) rest) ≡ true
      element-tagged name attributes content rest =
          let inside = flat_all content (line_before (end_of_element name) rest) in
          elim (text_in_line content)
          as (λ e. begins_with_tags (element_before name attributes e inside rest) ≡ true) [
            | Some s ↦ line-tagged (element_line name attributes s) rest
            | None ↦ line-tagged (element_tag name attributes) inside
          ]
  most-before options in_item t (tags s) rest normal = absurd (cc)

  most-further : (options : DocumentOptions) (in_item t : Bool) (bs : Blocks) → are_normal_blocks in_item bs ≡ true
      → AtMost (further_size (piece_options options) t (flat_all bs no_blocks))
      (further_size (piece_options options) t bs)
  most-further options in_item t no_blocks normal = most-same _ _ refl
  most-further options in_item t (block b bs) normal =
      let o = piece_options options in
      let p = and_parts (is_normal_block in_item b) (are_normal_blocks false bs) normal in
      let rest = flat_all bs no_blocks in
      let first = most-before options in_item t b rest p.0 in
      let later = most-further options false t bs p.1 in
      let split = gap-first o t (flat_before b rest) (flat-filled b rest) in
      record {
        bytes = omega (arith, first.bytes, later.bytes, ap (λ z. z.bytes) split);
        full = omega (arith, first.full, later.full, ap (λ z. z.full) split);
        empty = omega (arith, first.empty, later.empty, ap (λ z. z.empty) split);
      }

  pub most-all : (options : DocumentOptions) (in_item t : Bool) (bs : Blocks) → are_normal_blocks in_item bs ≡ true
      → AtMost (blocks_size (piece_options options) t (flat_all bs no_blocks))
      (blocks_size (piece_options options) t bs)
  most-all options in_item t no_blocks normal = most-same _ _ refl
  most-all options in_item t (block b bs) normal =
      let o = piece_options options in
      let p = and_parts (is_normal_block in_item b) (are_normal_blocks false bs) normal in
      let rest = flat_all bs no_blocks in
      most-trans (blocks_size o t (flat_before b rest)) (plus (block_size o b) (further_size o t rest))
      (plus (block_size o b) (further_size o t bs)) (most-before options in_item t b rest p.0)
      (most-plus (block_size o b) (block_size o b) (further_size o t rest) (further_size o t bs)
      (most-same _ _ refl) (most-further options false t bs p.1))

  most-items : (options : DocumentOptions) (l : ListShape) (k : ℕ) (items : Items) → are_normal_items items ≡ true
      → AtMost (items_size (piece_options options) l k (flat_items items))
      (items_size (piece_options options) l k items)
  most-items options l k no_items normal = most-same _ _ refl
  most-items options l k (item first rest) normal =
      let o = piece_options options in
      let p = and_parts (are_normal_blocks true first) (are_normal_items rest) normal in
      most-plus (item_size o l k (flat_all first no_blocks)) (item_size o l k first)
      (further_items_size o l (suc k) (flat_items rest)) (further_items_size o l (suc k) rest)
      (most-item options l k first (most-all options true l.is_tight first p.0))
      (most-further-items options l (suc k) rest p.1)

  most-further-items : (options : DocumentOptions) (l : ListShape) (k : ℕ) (items : Items)
      → are_normal_items items ≡ true
      → AtMost (further_items_size (piece_options options) l k (flat_items items))
      (further_items_size (piece_options options) l k items)
  most-further-items options l k no_items normal = most-same _ _ refl
  most-further-items options l k (item first rest) normal =
      let o = piece_options options in
      let p = and_parts (are_normal_blocks true first) (are_normal_items rest) normal in
      most-plus (plus (gap_size l.is_tight) (item_size o l k (flat_all first no_blocks)))
      (plus (gap_size l.is_tight) (item_size o l k first))
      (further_items_size o l (suc k) (flat_items rest)) (further_items_size o l (suc k) rest)
      (most-plus (gap_size l.is_tight) (gap_size l.is_tight) (item_size o l k (flat_all first no_blocks))
      (item_size o l k first) (most-same _ _ refl)
      (most-item options l k first (most-all options true l.is_tight first p.0)))
      (most-further-items options l (suc k) rest p.1)

-- ---- a document

pub blocks-fit : (options : DocumentOptions) (d : Blocks) → are_normal_blocks false d ≡ true
    → length (markdown_of (piece_options options) d) ≤ (blocks_size (piece_options options) false d).bytes
blocks-fit options no_blocks normal = omega arith
blocks-fit options (block b bs) normal =
    let o = piece_options options in
    let d = block b bs in
    let flat = flattened d in
    let size = written-alone options flat (flat-filled b (flat_all bs no_blocks))
    (ready-all options false d no_blocks normal refl) in
    let within = most-all options false false d normal in
    omega (arith, ap (λ z. z.bytes) size, within.bytes)

pub document-fits : (options : DocumentOptions) (d : Blocks) → IsNormal d
    → length (markdown_of (piece_options options) d) ≤ (blocks_size (piece_options options) false d).bytes
document-fits options d normal =
    blocks-fit options d (and_parts (are_normal_blocks false d) (nat_le (depth_among d) most_nested) normal).0
