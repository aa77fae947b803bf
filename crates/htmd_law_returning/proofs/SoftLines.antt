-- What is read with each tag of a break as a break: it is seen alike, and its trees stand for those that it then has.
use Rattle.std.proofs.Common.{◌≡◌, ℕ, Bool, true, false, List, [], ◌∷◌, refl, sym, ap, ◌∙◌, subst}
use Rattle.std.proofs.Common.{codes, drop, inr}
use Rattle.std.proofs.Common.{cond}
use Rattle.std.specs.Prelude.{⊤, ◌&&◌}
use Rattle.std.specs.Str.{bytes_eq}
use Rattle.std.proofs.lemmas.Bool.{and_parts, and_from}
use Rattle.htmd_lexical.proofs.BytesLemmas.{same_bytes}
use Rattle.htmd_lexical.proofs.Cases.{test}
use Rattle.htmd_lexical.specs.AttributePairs.{AttributePair}
use Rattle.htmd_lexical.specs.Characters.{line_feed, space}
use Rattle.htmd_document.specs.declared.document.Alignment.{Alignment}
use Rattle.htmd_document.specs.FlatDocuments.{lines_of}
use Rattle.htmd_document.specs.Tags.{element_name}
use Rattle.htmd_grammar.specs.Nesting.{is_table, is_tbody}
use Rattle.htmd_values.specs.ValueTrees as value
use Rattle.htmd_values.specs.ValueTrees.{ValueForest}
use Rattle.htmd_commonmark_reading.specs.Elements as lines
use Rattle.htmd_commonmark_reading.specs.Elements.{Line, line_of}
use Rattle.htmd_commonmark_reading.specs.Markup.{Inlines, no_inlines, letter, code, formatted, link, image, line_break}
use Rattle.htmd_commonmark_reading.specs.Markup.{task, raw, letters, plain_text, Block, paragraph, heading}
use Rattle.htmd_commonmark_reading.specs.Markup.{code_block, quote, thematic_break, list, table, html_block, Blocks}
use Rattle.htmd_commonmark_reading.specs.Markup.{no_blocks, block, Items, no_items, item}
use Rattle.htmd_commonmark_reading.specs.Rendering.{first_alignment, is_bare}
use Rattle.htmd_commonmark_reading.specs.SeenMarkup.{breaks, role, Tags, outside, with_seen, all_seen, with_raw, seen}
use Rattle.htmd_commonmark_reading.specs.SeenMarkup.{seen_inlines, seen_row, seen_rows, without_empty_end, seen_block}
use Rattle.htmd_commonmark_reading.specs.SeenMarkup.{seen_blocks, seen_items}
use Rattle.htmd_law_inlines.specs.PlainReadings.{is_untagged, is_break_tag, is_read_plainly}
use Rattle.htmd_law_rendering.specs.RawTags.{RawTag, opening, closing, breaking, unknown, raw_tag, form_of_break}
use Rattle.htmd_law_rendering.specs.RenderedTrees as trees
use Rattle.htmd_law_rendering.specs.RenderedTrees.{text_before, line_end, element_before, format_name, pairs_of_format}
use Rattle.htmd_law_rendering.specs.RenderedTrees.{pairs_of_link, pairs_of_image, pairs_of_box, Behind, Open}
use Rattle.htmd_law_rendering.specs.RenderedTrees.{inlines_open, inlines_trees, pairs_of_alignment, cells_trees}
use Rattle.htmd_law_rendering.specs.RenderedTrees.{lines_before, row_trees, rows_trees, body_trees, table_trees}
use Rattle.htmd_law_rendering.specs.RenderedTrees.{heading_name, code_block_tree, list_name, pairs_of_start}
use Rattle.htmd_law_rendering.specs.RenderedTrees.{paragraph_trees, begun_line, block_trees, blocks_trees, items_trees}
use Rattle.htmd_law_rendering.specs.RenderedTrees.{trees_of, blocks_open, pairs_of_element, section_name}
use Rattle.htmd_law_rendering.specs.RenderedTrees.{left_of_section, bounds_section, outside_section, ends_of}
use Rattle.htmd_law_rendering.specs.RenderedTrees.{is_caption, in_table, before_caption}
use Rattle.htmd_law_rendering.specs.SpelledTrees.{SpelledForest, none, more, text, element, lone, section}
use Rattle.htmd_law_rendering.specs.SpelledTrees.{spaced, short, value_forest, lone_text}
use Rattle.htmd_law_returning.proofs.StandLemmas.{Stands, stands-same, begins_filled, end-lacks, text-filled}
use Rattle.htmd_law_returning.proofs.StandLemmas.{text-stands, element-stands, is_break, stands-behind}

abbrev pub softened : Inlines → Inlines
softened no_inlines = no_inlines
softened (letter c xs) = letter c (softened xs)
softened (code s xs) = code s (softened xs)
softened (formatted f content xs) = formatted f (softened content) (softened xs)
softened (link a t content xs) = link a t (softened content) (softened xs)
softened (image a t content xs) = image a t content (softened xs)
softened (line_break xs) = line_break (softened xs)
softened (task d xs) = task d (softened xs)
softened (raw s xs) = cond (is_break_tag s) (line_break (softened xs)) (raw s (softened xs))

abbrev pub soft_cells : List Inlines → List Inlines
soft_cells [] = []
soft_cells (c ∷ cs) = softened c ∷ soft_cells cs

abbrev pub soft_rows : List (List Inlines) → List (List Inlines)
soft_rows [] = []
soft_rows (r ∷ rs) = soft_cells r ∷ soft_rows rs

abbrev mutual
  pub soft_block : Block → Block
  soft_block (paragraph xs) = paragraph (softened xs)
  soft_block (heading level xs) = heading level (softened xs)
  soft_block (code_block language s) = code_block language s
  soft_block (quote bs) = quote (soft_blocks bs)
  soft_block thematic_break = thematic_break
  soft_block (list start tight items) = list start tight (soft_items items)
  soft_block (table alignments header rows) = table alignments (soft_cells header) (soft_rows rows)
  soft_block (html_block s) = html_block s

  pub soft_blocks : Blocks → Blocks
  soft_blocks no_blocks = no_blocks
  soft_blocks (block b bs) = block (soft_block b) (soft_blocks bs)

  pub soft_items : Items → Items
  soft_items no_items = no_items
  soft_items (item bs rest) = item (soft_blocks bs) (soft_items rest)

-- ---- tags of breaks

-- what holds of each tag of a break
by-break : (P : List ℕ → Type 0) → P (codes "<br>") → P (codes "<br/>") → P (codes "<br />")
    → (s : List ℕ) → is_break_tag s ≡ true → P s
by-break P a b c s e =
    test (bytes_eq s (codes "<br>"))
    (λ q. subst P (sym (same_bytes s (codes "<br>") q)) a)
    (λ q. test (bytes_eq s (codes "<br/>"))
    (λ r. subst P (sym (same_bytes s (codes "<br/>") r)) b)
    (λ r. test (bytes_eq s (codes "<br />"))
    (λ t. subst P (sym (same_bytes s (codes "<br />") t)) c)
    (λ t. let w : false ≡ true = rw (q, r, t) at e in absurd (cc))))

break-breaks : (s : List ℕ) → is_break_tag s ≡ true → role s ≡ breaks
break-breaks s e = by-break (λ t. role t ≡ breaks) refl refl refl s e

break-tag : (s : List ℕ) → is_break_tag s ≡ true → raw_tag s ≡ breaking (form_of_break s)
break-tag s e = by-break (λ t. raw_tag t ≡ breaking (form_of_break t)) refl refl refl s e

-- ---- what is seen

soft-seen : (xs : Inlines) (b : Tags) → seen b (softened xs) ≡ seen b xs
soft-seen no_inlines b = refl
soft-seen (letter c xs) b = soft-seen xs (with_seen b (letter c no_inlines))
soft-seen (code s xs) b = soft-seen xs (with_seen b (code s no_inlines))
soft-seen (formatted f content xs) b =
    ap (λ u. seen (with_seen b (formatted f (all_seen u no_inlines) no_inlines)) (softened xs))
    (soft-seen content (outside no_inlines))
    ∙ soft-seen xs (with_seen b (formatted f (all_seen (seen (outside no_inlines) content) no_inlines) no_inlines))
soft-seen (link a t content xs) b =
    ap (λ u. seen (with_seen b (link a t (all_seen u no_inlines) no_inlines)) (softened xs))
    (soft-seen content (outside no_inlines))
    ∙ soft-seen xs (with_seen b (link a t (all_seen (seen (outside no_inlines) content) no_inlines) no_inlines))
soft-seen (image a t content xs) b =
    soft-seen xs (with_seen b (image a t
    (letters (plain_text (all_seen (seen (outside no_inlines) content) no_inlines)) no_inlines) no_inlines))
soft-seen (line_break xs) b = soft-seen xs (with_seen b (line_break no_inlines))
soft-seen (task d xs) b = soft-seen xs (with_seen b (task d no_inlines))
soft-seen (raw s xs) b =
    test (is_break_tag s)
    (λ t. ap (λ u. seen b (cond u (line_break (softened xs)) (raw s (softened xs)))) t
    ∙ (soft-seen xs (with_seen b (line_break no_inlines))
    ∙ ap (λ r. seen (with_raw b s r) xs) (sym (break-breaks s t))))
    (λ t. ap (λ u. seen b (cond u (line_break (softened xs)) (raw s (softened xs)))) t
    ∙ soft-seen xs (with_raw b s (role s)))

pub line-seen : (xs : Inlines) → seen_inlines (softened xs) ≡ seen_inlines xs
line-seen xs = ap (λ u. all_seen u no_inlines) (soft-seen xs (outside no_inlines))

row-seen : (cs : List Inlines) → seen_row (soft_cells cs) ≡ seen_row cs
row-seen [] = refl
row-seen (c ∷ cs) =
    ap (λ x. x ∷ seen_row (soft_cells cs)) (line-seen c) ∙ ap (λ xs. seen_inlines c ∷ xs) (row-seen cs)

rows-seen : (rs : List (List Inlines)) → seen_rows (soft_rows rs) ≡ seen_rows rs
rows-seen [] = refl
rows-seen (r ∷ rs) =
    ap (λ x. without_empty_end x ∷ seen_rows (soft_rows rs)) (row-seen r)
    ∙ ap (λ xs. without_empty_end (seen_row r) ∷ xs) (rows-seen rs)

mutual
  block-seen : (b : Block) → seen_block (soft_block b) ≡ seen_block b
  block-seen (paragraph xs) = ap paragraph (line-seen xs)
  block-seen (heading level xs) = ap (heading level) (line-seen xs)
  block-seen (code_block language s) = refl
  block-seen (quote bs) = ap quote (blocks-seen bs)
  block-seen thematic_break = refl
  block-seen (list start tight items) = ap (list start tight) (items-seen items)
  block-seen (table alignments header rows) =
      ap (λ x. table alignments x (seen_rows (soft_rows rows))) (row-seen header)
      ∙ ap (table alignments (seen_row header)) (rows-seen rows)
  block-seen (html_block s) = refl

  pub blocks-seen : (bs : Blocks) → seen_blocks (soft_blocks bs) ≡ seen_blocks bs
  blocks-seen no_blocks = refl
  blocks-seen (block b bs) =
      ap (λ x. block x (seen_blocks (soft_blocks bs))) (block-seen b) ∙ ap (block (seen_block b)) (blocks-seen bs)

  items-seen : (items : Items) → seen_items (soft_items items) ≡ seen_items items
  items-seen no_items = refl
  items-seen (item bs rest) =
      ap (λ x. item x (seen_items (soft_items rest))) (blocks-seen bs) ∙ ap (item (seen_blocks bs)) (items-seen rest)

-- no tags of breaks are left
pub soft-plain : (may : Bool) (xs : Inlines) → is_read_plainly may xs ≡ true
    → is_read_plainly false (softened xs) ≡ true
soft-plain may no_inlines h = refl
soft-plain may (letter c xs) h = soft-plain may xs h
soft-plain may (code s xs) h = soft-plain may xs h
soft-plain may (formatted f content xs) h =
    let p = and_parts (is_read_plainly may content) (is_read_plainly may xs) h in
    and_from (is_read_plainly false (softened content)) (is_read_plainly false (softened xs))
    (soft-plain may content p.0) (soft-plain may xs p.1)
soft-plain may (link a t content xs) h =
    let p = and_parts (is_read_plainly may content) (is_read_plainly may xs) h in
    and_from (is_read_plainly false (softened content)) (is_read_plainly false (softened xs))
    (soft-plain may content p.0) (soft-plain may xs p.1)
soft-plain may (image a t content xs) h =
    let p = and_parts (is_untagged content) (is_read_plainly may xs) h in
    and_from (is_untagged content) (is_read_plainly false (softened xs)) p.0 (soft-plain may xs p.1)
soft-plain may (line_break xs) h = soft-plain may xs h
soft-plain may (task d xs) h = soft-plain may xs h
soft-plain may (raw s xs) h =
    let rest = soft-plain may xs (and_parts _ (is_read_plainly may xs) h).1 in
    test (is_break_tag s) (λ t. rw t rest) (λ t. rw (t, t) rest)

-- ---- trees that stand for others

abbrev AreBehind : List Behind → List Behind → Type 0
AreBehind [] [] = ⊤
AreBehind (b ∷ bs) (c ∷ cs) =
    (b.name ≡ c.name) × Stands (value_forest b.trees) (value_forest c.trees) × (begins_filled c.trees ≡ true)
    × AreBehind bs cs
AreBehind bs cs = ⊥

record AreOpen (o p : Open) : Type 0 where
  first : Stands (value_forest o.first) (value_forest p.first)
  filled : begins_filled p.first ≡ true
  behind : AreBehind o.behind p.behind

text-open : (s : List ℕ) (o p : Open) → AreOpen o p
    → AreOpen (trees.onto (text_before s) o) (trees.onto (text_before s) p)
text-open s o p h = record {
  first = text-stands s o.first p.first h.first;
  filled = text-filled s p.first h.filled;
  behind = h.behind;
}

element-open : (name : List ℕ) (attributes : List AttributePair) (inside content : SpelledForest) (o p : Open)
    → Stands (value_forest inside) (value_forest content) → AreOpen o p
    → AreOpen (trees.onto (element_before name attributes inside) o)
    (trees.onto (element_before name attributes content) p)
element-open name attributes inside content o p e h = record {
  first = element-stands spaced spaced name attributes inside content o.first p.first e h.first;
  filled = refl;
  behind = h.behind;
}

opened-open : (name : List ℕ) (attributes : List AttributePair) (us ts : SpelledForest) (bs cs : List Behind)
    → Stands (value_forest us) (value_forest ts) → begins_filled ts ≡ true → AreBehind bs cs
    → AreOpen (trees.opened name attributes us bs) (trees.opened name attributes ts cs)
opened-open name attributes us ts [] [] h f k = record { first = h; filled = f; behind = tt }
opened-open name attributes us ts (b ∷ bs) (c ∷ cs) h f k = record {
  first = element-stands spaced spaced name attributes us ts b.trees c.trees h k.1;
  filled = refl;
  behind = k.3;
}
opened-open name attributes us ts [] (c ∷ cs) h f k = absurd k
opened-open name attributes us ts (b ∷ bs) [] h f k = absurd k

tag-open : (r : RawTag) (o p : Open) → AreOpen o p → AreOpen (trees.with_raw r o) (trees.with_raw r p)
tag-open (opening name attributes) o p h =
    opened-open name attributes o.first p.first o.behind p.behind h.first h.filled h.behind
tag-open (closing name) o p h = record { first = refl; filled = refl; behind = (refl, h.first, h.filled, h.behind) }
tag-open (breaking form) o p h = record {
  first = element-stands form form (codes "br") [] none none o.first p.first refl h.first;
  filled = refl;
  behind = h.behind;
}
tag-open unknown o p h = h

-- a tag of a break stands for a break
break-open : (s : List ℕ) (xs : Inlines) (us ts : SpelledForest) → is_break_tag s ≡ true
    → AreOpen (inlines_open xs us) (inlines_open (softened xs) ts)
    → AreOpen (trees.with_raw (raw_tag s) (inlines_open xs us)) (inlines_open (line_break (softened xs)) ts)
break-open s xs us ts t h =
    let o = inlines_open xs us in
    let p = inlines_open (softened xs) ts in
    rw (break-tag s t) (record {
      first = (
        value_forest none,
        value_forest o.first,
        refl,
        refl,
        inr (end-lacks (value_forest o.first) p.first h.filled h.first),
      );
      filled = refl;
      behind = h.behind;
    })

line-open : (xs : Inlines) (us ts : SpelledForest) → Stands (value_forest us) (value_forest ts)
    → begins_filled ts ≡ true → AreOpen (inlines_open xs us) (inlines_open (softened xs) ts)
line-open no_inlines us ts h f = record { first = h; filled = f; behind = tt }
line-open (letter c xs) us ts h f =
    text-open (c ∷ []) (inlines_open xs us) (inlines_open (softened xs) ts) (line-open xs us ts h f)
line-open (code s xs) us ts h f =
    let content = text_before s none in
    element-open (codes "code") [] content content (inlines_open xs us) (inlines_open (softened xs) ts)
    (stands-same (value_forest content)) (line-open xs us ts h f)
line-open (formatted m content xs) us ts h f =
    element-open (format_name m) (pairs_of_format m) (inlines_open content none).first
    (inlines_open (softened content) none).first (inlines_open xs us) (inlines_open (softened xs) ts)
    (line-open content none none refl refl).first (line-open xs us ts h f)
line-open (link a t content xs) us ts h f =
    element-open (codes "a") (pairs_of_link a t) (inlines_open content none).first
    (inlines_open (softened content) none).first (inlines_open xs us) (inlines_open (softened xs) ts)
    (line-open content none none refl refl).first (line-open xs us ts h f)
line-open (image a t content xs) us ts h f =
    element-open (codes "img") (pairs_of_image a t (plain_text content)) none none (inlines_open xs us)
    (inlines_open (softened xs) ts) refl (line-open xs us ts h f)
line-open (line_break xs) us ts h f =
    let o = trees.onto line_end (inlines_open xs us) in
    let p = trees.onto line_end (inlines_open (softened xs) ts) in
    element-open (codes "br") [] none none o p refl
    (text-open (line_feed ∷ []) (inlines_open xs us) (inlines_open (softened xs) ts) (line-open xs us ts h f))
line-open (task d xs) us ts h f =
    let o = inlines_open xs us in
    let p = inlines_open (softened xs) ts in
    let rest = text-open (space ∷ []) o p (line-open xs us ts h f) in
    record {
      first = element-stands short short (codes "input") (pairs_of_box d) none none (text_before (space ∷ []) o.first)
          (text_before (space ∷ []) p.first) refl rest.first;
      filled = refl;
      behind = rest.behind;
    }
line-open (raw s xs) us ts h f =
    let rest = line-open xs us ts h f in
    let o = inlines_open xs us in
    test (is_break_tag s)
    (λ t. subst (λ u. AreOpen (trees.with_raw (raw_tag s) o)
    (inlines_open (cond u (line_break (softened xs)) (raw s (softened xs))) ts)) (sym t) (break-open s xs us ts t rest))
    (λ t. subst (λ u. AreOpen (trees.with_raw (raw_tag s) o)
    (inlines_open (cond u (line_break (softened xs)) (raw s (softened xs))) ts)) (sym t)
    (tag-open (raw_tag s) o (inlines_open (softened xs) ts) rest))

line-alone : (xs : Inlines)
    → Stands (value_forest (inlines_trees xs none)) (value_forest (inlines_trees (softened xs) none))
line-alone xs = (line-open xs none none refl refl).first

-- ---- lines of HTML blocks

-- rows in their section
abbrev in_section : ValueForest → ValueForest → ValueForest
in_section value.none rest = rest
in_section (value.more (value.text s) ts) rest = value.more (value.text s) (in_section ts rest)
in_section ts rest = value.more (value.element section_name [] ts) rest

section-values : (ts rest : SpelledForest)
    → value_forest (trees.sectioned ts rest) ≡ in_section (value_forest ts) (value_forest rest)
section-values none rest = refl
section-values (more (text s) ts) rest = ap (value.more (value.text s)) (section-values ts rest)
section-values (more (element form name attributes content) ts) rest = refl
section-values (more (lone name attributes s) ts) rest = refl
section-values (more (section rows) ts) rest = refl

rows-in : (us ts vs ws : ValueForest) → Stands us ts → Stands vs ws → Stands (in_section us vs) (in_section ts ws)
rows-in us value.none vs ws h k = subst (λ x. Stands (in_section x vs) ws) (sym h) k
rows-in us (value.more (value.text s) ts) vs ws h k =
    subst (λ x. Stands (in_section x vs) (value.more (value.text s) (in_section ts ws))) (sym h.1)
    (in_section h.0 vs, refl, rows-in h.0 ts vs ws h.2 k)
rows-in us (value.more (value.element name attributes content) ts) vs ws h k =
    subst (λ x. Stands (in_section x vs) (in_section (value.more (value.element name attributes content) ts) ws))
    (sym h.2) (
      value.more (value.element name attributes h.0) h.1,
      vs,
      refl,
      (h.0, h.1, refl, h.3, h.4),
      stands-behind (is_break section_name) vs ws k,
    )
rows-in us (value.more (value.comment s) ts) vs ws h k =
    subst (λ x. Stands (in_section x vs) (in_section (value.more (value.comment s) ts) ws)) (sym h.1)
    (value.more (value.comment s) h.0, vs, refl, (h.0, refl, h.2), stands-behind (is_break section_name) vs ws k)
rows-in us (value.more (value.document children) ts) vs ws h k =
    subst (λ x. Stands (in_section x vs) (in_section (value.more (value.document children) ts) ws)) (sym h.1) (
      value.more (value.document children) h.0,
      vs,
      refl,
      (h.0, refl, h.2),
      stands-behind (is_break section_name) vs ws k,
    )
rows-in us (value.more value.doctype ts) vs ws h k =
    subst (λ x. Stands (in_section x vs) (in_section (value.more value.doctype ts) ws)) (sym h.1)
    (value.more value.doctype h.0, vs, refl, (h.0, refl, h.2), stands-behind (is_break section_name) vs ws k)

rows-filled : (ts rest : SpelledForest) → begins_filled ts ≡ true → begins_filled rest ≡ true
    → begins_filled (trees.sectioned ts rest) ≡ true
rows-filled none rest f g = g
rows-filled (more (text []) ts) rest f g = f
rows-filled (more (text (c ∷ s)) ts) rest f g = refl
rows-filled (more (element form name attributes content) ts) rest f g = refl
rows-filled (more (lone name attributes s) ts) rest f g = refl
rows-filled (more (section rows) ts) rest f g = refl

left-open : (us ts : SpelledForest) (bs cs : List Behind) → Stands (value_forest us) (value_forest ts)
    → begins_filled ts ≡ true → AreBehind bs cs → AreOpen (left_of_section us bs) (left_of_section ts cs)
left-open us ts [] [] h f k = record { first = h; filled = f; behind = tt }
left-open us ts (b ∷ bs) (c ∷ cs) h f k =
    test (is_tbody b.name)
    (λ t. let u : is_tbody c.name ≡ true = subst (λ n. is_tbody n ≡ true) k.0 t in
    rw (t, u) (record {
      first = rw (section-values us b.trees, section-values ts c.trees)
          (rows-in (value_forest us) (value_forest ts) (value_forest b.trees) (value_forest c.trees) h k.1);
      filled = rows-filled ts c.trees f k.2;
      behind = k.3;
    }))
    (λ t. let u : is_tbody c.name ≡ false = subst (λ n. is_tbody n ≡ false) k.0 t in
    rw (t, u) (record { first = h; filled = f; behind = k }))
left-open us ts [] (c ∷ cs) h f k = absurd k
left-open us ts (b ∷ bs) [] h f k = absurd k

outside-open : (n : List ℕ) (o p : Open) → AreOpen o p → AreOpen (outside_section n o) (outside_section n p)
outside-open n o p h =
    test (bounds_section n)
    (λ t. rw t (left-open o.first p.first o.behind p.behind h.first h.filled h.behind)) (λ t. rw t h)

ends-open : (n : List ℕ) (o p : Open) → AreOpen o p → AreOpen (ends_of n o) (ends_of n p)
ends-open n o p h =
    let rest = tag-open (closing n) o p h in
    test (is_table n)
    (λ t. rw t (tag-open (closing section_name) (trees.with_raw (closing n) o) (trees.with_raw (closing n) p) rest))
    (λ t. rw t rest)

end-open : (o p : Open) → AreOpen o p → AreOpen (trees.onto line_end o) (trees.onto line_end p)
end-open o p h = text-open (line_feed ∷ []) o p h

behind-table : (bs cs : List Behind) → AreBehind bs cs → in_table bs ≡ in_table cs
behind-table [] [] k = refl
behind-table (b ∷ bs) (c ∷ cs) k = ap is_table k.0
behind-table [] (c ∷ cs) k = absurd k
behind-table (b ∷ bs) [] k = absurd k

-- left of a caption a section again
before-open : (n : List ℕ) (o p : Open) → AreOpen o p → AreOpen (before_caption n o) (before_caption n p)
before-open n o p h =
    let same = ap (λ b. is_caption n && b) (behind-table o.behind p.behind h.behind) in
    test (is_caption n && in_table o.behind) (λ t. rw (t, sym same ∙ t) (tag-open (closing section_name) o p h))
    (λ t. rw (t, sym same ∙ t) h)

tags-open : (line : Line) (o p : Open) → AreOpen o p → AreOpen (trees.with_line line o) (trees.with_line line p)
tags-open (lines.opening name attributes) o p h =
    let n = element_name name in
    let us = outside_section n o in
    let ts = outside_section n p in
    let tag = opening n (pairs_of_element attributes) in
    before-open n (trees.with_raw tag (trees.onto line_end us)) (trees.with_raw tag (trees.onto line_end ts))
    (tag-open tag (trees.onto line_end us) (trees.onto line_end ts) (end-open us ts (outside-open n o p h)))
tags-open (lines.closing name) o p h =
    let n = element_name name in
    let us = outside_section n o in
    let ts = outside_section n p in
    ends-open n (trees.onto line_end us) (trees.onto line_end ts) (end-open us ts (outside-open n o p h))
tags-open (lines.whole name attributes s) o p h =
    let n = element_name name in
    let us = outside_section n o in
    let ts = outside_section n p in
    let there = outside-open n o p h in
    let rest = end-open us ts there in
    let vs = value_forest (line_end us.first) in
    let alone = λ (ws : SpelledForest). more (lone n (pairs_of_element attributes) s) (line_end ws) in
    before-open n (trees.onto alone us) (trees.onto alone ts) (record {
      first = (
        lone_text s,
        vs,
        refl,
        stands-same (lone_text s),
        stands-behind (is_break n) vs (value_forest (line_end ts.first)) rest.first,
      );
      filled = refl;
      behind = there.behind;
    })
tags-open lines.unknown o p h = h

lines-open : (ss : List (List ℕ)) (o p : Open) → AreOpen o p
    → AreOpen (trees.with_lines ss o) (trees.with_lines ss p)
lines-open [] o p h = h
lines-open (s ∷ ss) o p h =
    tags-open (line_of s) (trees.with_lines ss o) (trees.with_lines ss p) (lines-open ss o p h)

html-open : (b : Block) (o p : Open) → AreOpen o p
    → AreOpen (trees.with_html b o) (trees.with_html (soft_block b) p)
html-open (paragraph xs) o p h = h
html-open (heading level xs) o p h = h
html-open (code_block language s) o p h = h
html-open (quote bs) o p h = h
html-open thematic_break o p h = h
html-open (list start tight items) o p h = h
html-open (table alignments header rows) o p h = h
html-open (html_block s) o p h = lines-open (lines_of s) o p h

-- ---- blocks

-- trees that stand for others, which begin with no empty text
abbrev Stand : SpelledForest → SpelledForest → Type 0
Stand us ts = Stands (value_forest us) (value_forest ts) × (begins_filled ts ≡ true)

end-stand : (us ts : SpelledForest) → Stand us ts → Stand (line_end us) (line_end ts)
end-stand us ts h = (text-stands (line_feed ∷ []) us ts h.0, text-filled (line_feed ∷ []) ts h.1)

element-stand : (name : List ℕ) (attributes : List AttributePair) (inside content us ts : SpelledForest)
    → Stands (value_forest inside) (value_forest content) → Stand us ts
    → Stand (element_before name attributes inside us) (element_before name attributes content ts)
element-stand name attributes inside content us ts h e =
    (element-stands spaced spaced name attributes inside content us ts h e.0, refl)

lines-stand : (name : List ℕ) (attributes : List AttributePair) (inside content us ts : SpelledForest)
    → Stand inside content → Stand us ts
    → Stand (lines_before name attributes inside us) (lines_before name attributes content ts)
lines-stand name attributes inside content us ts h e =
    element-stand name attributes (line_end inside) (line_end content) (line_end us) (line_end ts)
    (end-stand inside content h).0 (end-stand us ts e)

none-stand : Stand none none
none-stand = (refl, refl)

cells-stand : (name : List ℕ) (alignments : List Alignment) (cs : List Inlines)
    → Stand (cells_trees name alignments cs) (cells_trees name alignments (soft_cells cs))
cells-stand name alignments [] = none-stand
cells-stand name alignments (c ∷ cs) =
    let us = cells_trees name (drop 1 alignments) cs in
    let ts = cells_trees name (drop 1 alignments) (soft_cells cs) in
    element-stand name (pairs_of_alignment (first_alignment alignments)) (inlines_trees c none)
    (inlines_trees (softened c) none) (line_end us) (line_end ts) (line-alone c)
    (end-stand us ts (cells-stand name (drop 1 alignments) cs))

row-stand : (name : List ℕ) (alignments : List Alignment) (cs : List Inlines) (us ts : SpelledForest) → Stand us ts
    → Stand (row_trees name alignments cs us) (row_trees name alignments (soft_cells cs) ts)
row-stand name alignments cs us ts h =
    lines-stand (codes "tr") [] (cells_trees name alignments cs) (cells_trees name alignments (soft_cells cs)) us ts
    (cells-stand name alignments cs) h

rows-stand : (alignments : List Alignment) (rs : List (List Inlines))
    → Stand (rows_trees alignments rs) (rows_trees alignments (soft_rows rs))
rows-stand alignments [] = none-stand
rows-stand alignments (r ∷ rs) =
    row-stand (codes "td") alignments r (rows_trees alignments rs) (rows_trees alignments (soft_rows rs))
    (rows-stand alignments rs)

body-stand : (alignments : List Alignment) (rs : List (List Inlines))
    → Stand (body_trees alignments rs) (body_trees alignments (soft_rows rs))
body-stand alignments [] = none-stand
body-stand alignments (r ∷ rs) =
    lines-stand (codes "tbody") [] (rows_trees alignments (r ∷ rs)) (rows_trees alignments (soft_rows (r ∷ rs)))
    none none (rows-stand alignments (r ∷ rs)) none-stand

table-stand : (alignments : List Alignment) (header : List Inlines) (rows : List (List Inlines))
    (us ts : SpelledForest) → Stand us ts
    → Stand (table_trees alignments header rows us) (table_trees alignments (soft_cells header) (soft_rows rows) ts)
table-stand alignments header rows us ts h =
    let first = row_trees (codes "th") alignments header none in
    let soft_first = row_trees (codes "th") alignments (soft_cells header) none in
    let body = body_trees alignments rows in
    let soft_body = body_trees alignments (soft_rows rows) in
    lines-stand (codes "table") [] (lines_before (codes "thead") [] first body)
    (lines_before (codes "thead") [] soft_first soft_body) us ts
    (lines-stand (codes "thead") [] first soft_first body soft_body
    (row-stand (codes "th") alignments header none none none-stand) (body-stand alignments rows)) h

bare-soft : (is_tight : Bool) (b : Block) → is_bare is_tight (soft_block b) ≡ is_bare is_tight b
bare-soft is_tight (paragraph xs) = refl
bare-soft is_tight (heading level xs) = refl
bare-soft is_tight (code_block language s) = refl
bare-soft is_tight (quote bs) = refl
bare-soft is_tight thematic_break = refl
bare-soft is_tight (list start tight items) = refl
bare-soft is_tight (table alignments header rows) = refl
bare-soft is_tight (html_block s) = refl

begun-stand : (is_in_line bare : Bool) (us ts : SpelledForest) → Stand us ts
    → Stand (begun_line is_in_line bare us) (begun_line is_in_line bare ts)
begun-stand true false us ts h = end-stand us ts h
begun-stand true true us ts h = h
begun-stand false bare us ts h = h

paragraph-stand : (is_tight : Bool) (xs : Inlines) (us ts : SpelledForest) → Stand us ts
    → Stand (paragraph_trees is_tight xs us) (paragraph_trees is_tight (softened xs) ts)
paragraph-stand true xs us ts h = let own = line-open xs us ts h.0 h.1 in (own.first, own.filled)
paragraph-stand false xs us ts h =
    element-stand (codes "p") [] (inlines_trees xs none) (inlines_trees (softened xs) none) (line_end us) (line_end ts)
    (line-alone xs) (end-stand us ts h)

mutual
  block-stand : (is_tight : Bool) (b : Block) (us ts : SpelledForest) → Stand us ts
      → Stand (block_trees is_tight b us) (block_trees is_tight (soft_block b) ts)
  block-stand is_tight (paragraph xs) us ts h = paragraph-stand is_tight xs us ts h
  block-stand is_tight (heading level xs) us ts h =
      element-stand (heading_name level) [] (inlines_trees xs none) (inlines_trees (softened xs) none) (line_end us)
      (line_end ts) (line-alone xs) (end-stand us ts h)
  block-stand is_tight (code_block language s) us ts h =
      let content = code_block_tree language s in
      element-stand (codes "pre") [] content content (line_end us) (line_end ts)
      (stands-same (value_forest content)) (end-stand us ts h)
  block-stand is_tight (quote bs) us ts h =
      let own = blocks-open false false bs in
      lines-stand (codes "blockquote") [] (blocks_trees false false bs) (blocks_trees false false (soft_blocks bs))
      us ts (own.first, own.filled) h
  block-stand is_tight thematic_break us ts h =
      element-stand (codes "hr") [] none none (line_end us) (line_end ts) refl (end-stand us ts h)
  block-stand is_tight (list start tight items) us ts h =
      lines-stand (list_name start) (pairs_of_start start) (items_trees tight items)
      (items_trees tight (soft_items items)) us ts (items-stand tight items) h
  block-stand is_tight (table alignments header rows) us ts h = table-stand alignments header rows us ts h
  block-stand is_tight (html_block s) us ts h = h

  blocks-open : (is_tight is_in_line : Bool) (bs : Blocks)
      → AreOpen (blocks_open is_tight is_in_line bs) (blocks_open is_tight is_in_line (soft_blocks bs))
  blocks-open is_tight is_in_line no_blocks = record { first = refl; filled = refl; behind = tt }
  blocks-open is_tight is_in_line (block b bs) =
      let bare = is_bare is_tight b in
      let later = blocks_open is_tight bare bs in
      let soft_later = blocks_open is_tight bare (soft_blocks bs) in
      let us = (trees.with_html b later).first in
      let ts = (trees.with_html (soft_block b) soft_later).first in
      let rest = html-open b later soft_later (blocks-open is_tight bare bs) in
      let own = begun-stand is_in_line bare (block_trees is_tight b us) (block_trees is_tight (soft_block b) ts)
      (block-stand is_tight b us ts (rest.first, rest.filled)) in
      subst (λ x. AreOpen (blocks_open is_tight is_in_line (block b bs))
      (trees.onto (λ vs. begun_line is_in_line x (block_trees is_tight (soft_block b) vs))
      (trees.with_html (soft_block b) (blocks_open is_tight x (soft_blocks bs)))))
      (sym (bare-soft is_tight b)) (record { first = own.0; filled = own.1; behind = rest.behind })

  items-stand : (is_tight : Bool) (items : Items)
      → Stand (items_trees is_tight items) (items_trees is_tight (soft_items items))
  items-stand is_tight no_items = none-stand
  items-stand is_tight (item bs rest) =
      let us = items_trees is_tight rest in
      let ts = items_trees is_tight (soft_items rest) in
      element-stand (codes "li") [] (blocks_trees is_tight true bs) (blocks_trees is_tight true (soft_blocks bs))
      (line_end us) (line_end ts) (blocks-open is_tight true bs).first (end-stand us ts (items-stand is_tight rest))

pub softened-stands : (bs : Blocks) → Stands (trees_of bs) (trees_of (soft_blocks bs))
softened-stands bs = (blocks-open false false bs).first
