-- Blocks that are normal, as facts.
use Rattle.std.proofs.Common.{◌≡◌, ℕ, ◌≤◌, Bool, true, false, cond, List, [], ◌∷◌, ◌++◌, refl, sym, ap, ◌∙◌, ◌||◌}
use Rattle.std.proofs.Common.{arith, subst, ◌⊎◌, inl, inr, max}
use Rattle.std.specs.Prelude.{nat_le, not, ◌&&◌}
use Rattle.std.proofs.lemmas.Bool.Decides.{nat_tests}
use Rattle.htmd_document.specs.DocumentLimits.{most_nested}
use Rattle.htmd_document.specs.Documents.{Inlines, no_inlines, inline, text, code, image, line_break, task, link}
use Rattle.htmd_document.specs.Documents.{anchor}
use Rattle.htmd_document.specs.Documents.{Block, paragraph, heading, code_block, quote, thematic_break, list, table}
use Rattle.htmd_document.specs.Documents.{element, tags}
use Rattle.htmd_document.specs.FlatDocuments.{flat_items}
use Rattle.htmd_document.specs.Documents.{Blocks, no_blocks, block, Items, no_items, item, blocks_of}
use Rattle.htmd_document.specs.Documents as value
use Rattle.htmd_document.specs.LoneAnchors.{is_alone, stand_alone, stand_inside, all_stand}
use Rattle.htmd_document.specs.LoneAnchors.{items_stand_well}
use Rattle.htmd_document.specs.TightItems.{is_filled}
use Rattle.htmd_document.specs.NormalInlines.{begins_with_space, has_none, first_passes}
use Rattle.htmd_document.specs.NormalInlines.{are_whole, are_normal, is_normal_line}
use Rattle.htmd_document.specs.NormalInlines.{is_normal_item, are_anchors, anchors_stand_well}
use Rattle.htmd_document.specs.NormalDocuments.{is_normal_paragraph, is_normal_heading, is_normal_code, is_normal_list}
use Rattle.htmd_document.specs.NormalDocuments.{is_normal_element}
use Rattle.htmd_document.specs.NormalDocuments.{is_normal_table, is_normal_block, are_normal_blocks, are_normal_items}
use Rattle.htmd_document.specs.NormalDocuments.{depth_of, depth_among, IsNormal}
use Rattle.htmd_law_documents.specs.TableLengths.{has_right_length, has_right_tables, have_right_tables}
use Rattle.htmd_law_documents.specs.TableLengths.{items_have_right_tables}
use Rattle.htmd_law_documents.proofs.VisibleLemmas.{both-true}
use Rattle.htmd_law_documents.proofs.NormalTextLemmas.{and-true, not-false, false-true}
use Rattle.htmd_law_documents.proofs.NormalLineLemmas.{IsWhole}
use Rattle.htmd_law_documents.proofs.NormalStandLemmas.{Stands, stand-well}

-- inlines of one line, in which anchors stand before what shows
abbrev pub IsLineWell : Inlines → Type 0
IsLineWell content = (is_normal_line content ≡ true) × Stands false content

-- a task, and what stands after it
pub record IsTaskLine (content : Inlines) : Type 0 where
  pub is_checked : Bool
  pub rest : Inlines
  pub is : content ≡ inline (task is_checked) rest
  pub begins : first_passes begins_with_space rest ≡ true
  pub whole : IsWhole false [] rest
  pub stands : Stands false rest

-- a line that isn't empty, in which anchors stand alone or before what shows
abbrev pub IsLineParagraph : Inlines → Type 0
IsLineParagraph content =
    (is_normal_line content ≡ true) × (has_none content ≡ false)
    × ((are_anchors content || anchors_stand_well content) ≡ true)

-- a line, or a task in an item
abbrev pub IsParagraph : Bool → Inlines → Type 0
IsParagraph in_item content = IsLineParagraph content ⊎ ((in_item ≡ true) × IsTaskLine content)

-- paragraphs of anchors alone stand well among these blocks, whatever is in them
abbrev pub these_stand : Bool → Blocks → Bool
these_stand is_end no_blocks = true
these_stand is_end (block b bs) = (not (is_alone b) || stand_alone is_end bs) && these_stand is_end bs

abbrev mutual
  pub Nearly : Bool → Block → Type 0
  Nearly in_item (paragraph content) = IsParagraph in_item content
  Nearly in_item (heading level content) = is_normal_heading level content ≡ true
  Nearly in_item (code_block language s) = is_normal_code language s ≡ true
  Nearly in_item (quote content) =
      (is_filled content ≡ true) × NearlyAll false content × (these_stand false content ≡ true)
  Nearly in_item thematic_break = Unit {0}
  Nearly in_item (element name attributes content) =
      (is_normal_element name attributes content ≡ true) × NearlyAll false content
      × (these_stand false content ≡ true)
  Nearly in_item (tags s) = ⊥
  Nearly in_item (list start is_tight items) = (is_normal_list start is_tight (flat_items items) ≡ true)
      × NearlyItems items
  Nearly in_item (table alignments header rows) =
      (is_normal_table alignments header rows ≡ true) × (has_right_length header rows ≡ true)

  pub NearlyAll : Bool → Blocks → Type 0
  NearlyAll in_item no_blocks = Unit {0}
  NearlyAll in_item (block first rest) = Nearly in_item first × NearlyAll false rest

  pub NearlyItems : Items → Type 0
  NearlyItems no_items = Unit {0}
  NearlyItems (item first rest) = NearlyAll true first × NearlyItems rest × (these_stand false first ≡ true)

-- ---- so they are normal

line-no_task : (in_item : Bool) (content : Inlines) → is_normal_line content ≡ true
    → cond in_item (is_normal_item content) (is_normal_line content) ≡ true
line-no_task false content h = h
line-no_task true no_inlines h = h
line-no_task true (inline (text s) xs) h = h
line-no_task true (inline (code s) xs) h = h
line-no_task true (inline (value.formatted f ys) xs) h = h
line-no_task true (inline (link a t ys) xs) h = h
line-no_task true (inline (image a t d) xs) h = h
line-no_task true (inline (anchor i) xs) h = h
line-no_task true (inline line_break xs) h = h
line-no_task true (inline (task b) xs) h =
    let parts = both-true (are_whole (inline (task b) xs)) (are_normal false [] (inline (task b) xs)) h in
    false-true parts.1

task-line : (content : Inlines) → IsTaskLine content → is_normal_paragraph true content ≡ true
task-line content h =
    ap (is_normal_paragraph true) h.is
    ∙ and-true
    (and-true (and-true (and-true h.begins (not-false h.whole.no_space)) (not-false h.whole.no_break)) h.whole.normal)
    (stand-well h.rest h.stands)

mutual
  nearly-normal : (b : Block) (in_item : Bool) → Nearly in_item b → is_normal_block in_item b ≡ true
  nearly-normal (paragraph content) in_item (inl h) =
      and-true (and-true (not-false h.1) (line-no_task in_item content h.0)) h.2
  nearly-normal (paragraph content) in_item (inr h) =
      subst (λ (i : Bool). is_normal_paragraph i content ≡ true) (sym h.0) (task-line content h.1)
  nearly-normal (heading level content) in_item h = h
  nearly-normal (code_block language t) in_item h = h
  nearly-normal (quote content) in_item h = and-true h.0 (all-normal content false h.1)
  nearly-normal thematic_break in_item h = refl
  nearly-normal (element name attributes content) in_item h = and-true h.0 (all-normal content false h.1)
  nearly-normal (tags s) in_item h = absurd h
  nearly-normal (list start is_tight items) in_item h = and-true h.0 (items-normal items h.1)
  nearly-normal (table alignments header rows) in_item h = h.0

  all-normal : (bs : Blocks) (in_item : Bool) → NearlyAll in_item bs → are_normal_blocks in_item bs ≡ true
  all-normal no_blocks in_item h = refl
  all-normal (block first rest) in_item h = and-true (nearly-normal first in_item h.0) (all-normal rest false h.1)

  items-normal : (items : Items) → NearlyItems items → are_normal_items items ≡ true
  items-normal no_items h = refl
  items-normal (item first rest) h = and-true (all-normal first true h.0) (items-normal rest h.1)

pub document-normal : (d : Blocks) → NearlyAll false d → depth_among d ≤ most_nested → IsNormal d
document-normal d h n = and-true (all-normal d false h) (within (depth_among d) n)
  where
    within : (k : ℕ) → k ≤ most_nested → nat_le k most_nested ≡ true
    within k l = grind (arith, nat_tests)

-- ---- and tables have the right length

mutual
  nearly-right : (b : Block) (in_item : Bool) → Nearly in_item b → has_right_tables b ≡ true
  nearly-right (paragraph content) in_item h = refl
  nearly-right (heading level content) in_item h = refl
  nearly-right (code_block language t) in_item h = refl
  nearly-right (quote content) in_item h = all-right content false h.1
  nearly-right thematic_break in_item h = refl
  nearly-right (element name attributes content) in_item h = all-right content false h.1
  nearly-right (tags s) in_item h = absurd h
  nearly-right (list start is_tight items) in_item h = items-right items h.1
  nearly-right (table alignments header rows) in_item h = h.1

  pub all-right : (bs : Blocks) (in_item : Bool) → NearlyAll in_item bs → have_right_tables bs ≡ true
  all-right no_blocks in_item h = refl
  all-right (block first rest) in_item h = and-true (nearly-right first in_item h.0) (all-right rest false h.1)

  items-right : (items : Items) → NearlyItems items → items_have_right_tables items ≡ true
  items-right no_items h = refl
  items-right (item first rest) h = and-true (all-right first true h.0) (items-right rest h.1)

-- ---- and anchors alone stand right before code blocks

mutual
  nearly-stand : (b : Block) (in_item : Bool) → Nearly in_item b → stand_inside b ≡ true
  nearly-stand (paragraph content) in_item h = refl
  nearly-stand (heading level content) in_item h = refl
  nearly-stand (code_block language t) in_item h = refl
  nearly-stand (quote content) in_item h = all-standing content false false h.1 h.2
  nearly-stand thematic_break in_item h = refl
  nearly-stand (element name attributes content) in_item h = all-standing content false false h.1 h.2
  nearly-stand (tags s) in_item h = absurd h
  nearly-stand (list start is_tight items) in_item h = items-standing items h.1
  nearly-stand (table alignments header rows) in_item h = refl

  pub all-standing : (bs : Blocks) (in_item is_end : Bool) → NearlyAll in_item bs → these_stand is_end bs ≡ true
      → all_stand is_end bs ≡ true
  all-standing no_blocks in_item is_end h s = refl
  all-standing (block first rest) in_item is_end h s =
      let p = both-true (not (is_alone first) || stand_alone is_end rest) (these_stand is_end rest) s in
      and-true (and-true (nearly-stand first in_item h.0) p.0) (all-standing rest false is_end h.1 p.1)

  items-standing : (items : Items) → NearlyItems items → items_stand_well items ≡ true
  items-standing no_items h = refl
  items-standing (item first rest) h = and-true (all-standing first true false h.0 h.2) (items-standing rest h.1)

-- ---- blocks in a row

-- a block with at most so many lists and quotes in each other
abbrev pub Fine : ℕ → Bool → Block → Type 0
Fine n in_item b = Nearly in_item b × (depth_of b ≤ n)

abbrev pub AllFine : ℕ → Bool → List Block → Type 0
AllFine n in_item [] = Unit {0}
AllFine n in_item (b ∷ bs) = Fine n in_item b × AllFine n false bs

nearly-first : (b : Block) (in_item : Bool) → Nearly false b → Nearly in_item b
nearly-first (paragraph content) in_item (inl h) = inl h
nearly-first (paragraph content) in_item (inr h) = false-true h.0
nearly-first (heading level content) in_item h = h
nearly-first (code_block language s) in_item h = h
nearly-first (quote content) in_item h = h
nearly-first thematic_break in_item h = h
nearly-first (element name attributes content) in_item h = h
nearly-first (tags s) in_item h = h
nearly-first (list start is_tight items) in_item h = h
nearly-first (table alignments header rows) in_item h = h

pub fine-any : (n : ℕ) (in_item : Bool) (bs : List Block) → AllFine n false bs → AllFine n in_item bs
fine-any n in_item [] h = tt
fine-any n in_item (b ∷ bs) h = ((nearly-first b in_item h.0.0, h.0.1), h.1)

pub fine-more : (n : ℕ) (in_item : Bool) (xs ys : List Block) → AllFine n in_item xs → AllFine n false ys
    → AllFine n in_item (xs ++ ys)
fine-more n in_item [] ys g h = fine-any n in_item ys h
fine-more n in_item (x ∷ xs) ys g h = (g.0, fine-more n false xs ys g.1 h)

pub fine-first : (n : ℕ) (in_item : Bool) (xs ys : List Block) → xs ≡ [] → AllFine n in_item ys
    → AllFine n in_item (xs ++ ys)
fine-first n in_item xs ys e h = subst (λ (zs : List Block). AllFine n in_item (zs ++ ys)) (sym e) h

-- so they are as blocks
pub record FineBlocks (n : ℕ) (in_item : Bool) (bs : Blocks) : Type 0 where
  pub nearly : NearlyAll in_item bs
  pub depth : depth_among bs ≤ n
  pub stand : these_stand false bs ≡ true

-- at the end of a document or not
pub record FineRow (n : ℕ) (in_item : Bool) (bs : Blocks) : Type 0 where
  pub nearly : NearlyAll in_item bs
  pub depth : depth_among bs ≤ n

pub row-fine : (n : ℕ) (in_item : Bool) (bs : List Block) → AllFine n in_item bs
    → FineRow n in_item (blocks_of bs)
row-fine n in_item [] h = record { nearly = tt; depth = omega arith }
row-fine n in_item (b ∷ bs) h =
    let rest : FineRow n false (blocks_of bs) = row-fine n false bs h.1 in
    record { nearly = (h.0.0, rest.nearly); depth = most (depth_of b) (depth_among (blocks_of bs)) n h.0.1 rest.depth }
  where
    most : (a c n : ℕ) → a ≤ n → c ≤ n → max a c ≤ n
    most a c n g h = omega arith

pub blocks-fine : (n : ℕ) (in_item : Bool) (bs : List Block) → AllFine n in_item bs
    → these_stand false (blocks_of bs) ≡ true → FineBlocks n in_item (blocks_of bs)
blocks-fine n in_item bs h s =
    let row = row-fine n in_item bs h in record { nearly = row.nearly; depth = row.depth; stand = s }
