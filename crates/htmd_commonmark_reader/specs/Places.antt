-- Closed blocks as parts: where among them the reader is, and what one more adds.
use Rattle.std.specs.Prelude.{ℕ, Bool, true, false, List, [], ◌∷◌, drop, reverse, Option, Some, None}
use Rattle.htmd_commonmark_reading.specs.Boxes as box
use Rattle.htmd_commonmark_reading.specs.Boxes.{ClosedBlock}
use Rattle.htmd_commonmark_reading.specs.Brackets.{References, inlines}
use Rattle.htmd_commonmark_reading.specs.Lists.{item_text, cell_inlines, row_inlines}
use Rattle.htmd_commonmark_reading.specs.Markup as markup
use Rattle.htmd_commonmark_reading.specs.Markup.{Inlines}
use Rattle.htmd_commonmark_reader.specs.ClosedParts.{ClosedPart, begin, end, definition, single}
use Rattle.htmd_commonmark_reader.specs.ItemMarks.{first_mark}
use Rattle.htmd_commonmark_reader.specs.declared.block_parts.OpenBox.{OpenBox}
use Rattle.htmd_commonmark_reader.specs.declared.block_parts.OpenBox.TheVariants.{Quote, Item}
use Rattle.htmd_commonmark_reader.specs.declared.block_parts.OpenList.{OpenList}
use Rattle.htmd_commonmark_reader.specs.declared.block_parts.Place as declared
use Rattle.htmd_commonmark_reader.specs.declared.lists.ItemMark.{ItemMark}
use Rattle.htmd_parts.specs.Parts as part
use Rattle.htmd_parts.specs.Parts.{Part, begun, ended}

-- The open containers, the innermost first; the list that the next block goes on with; has an item just begun? The
-- marks of the items to come.
pub record Place : Type 0 where
  pub boxes : List OpenBox
  pub list : Option OpenList
  pub is_first : Bool
  pub marks : List ItemMark

abbrev pub placed : List OpenBox → Option OpenList → Bool → List ItemMark → Place
placed bs l f ms = record { boxes = bs; list = l; is_first = f; marks = ms }

abbrev pub place_of : declared.Place → Place
place_of p = placed (reverse p.boxes.items) p.list p.is_first (reverse p.marks.items)

-- is the innermost container an item of a tight list?
abbrev pub is_tight_in : List OpenBox → Bool
is_tight_in [] = false
is_tight_in (Quote ∷ bs) = false
is_tight_in (Item l goes_on ∷ bs) = l.is_tight

-- ---- items

-- the list of an item, which begins one or goes on with one
abbrev pub entered : Option OpenList → Option ℕ → Bool → OpenList
entered None number is_tight = record { is_tight = is_tight; is_numbered = part.is_numbered number }
entered (Some l) number is_tight = l

abbrev pub list_begun : Option OpenList → Option ℕ → Bool → List Part → List Part
list_begun None number is_tight rest = begun (part.list number is_tight) ∷ rest
list_begun (Some l) number is_tight rest = rest

abbrev pub innermost : List OpenBox → Option OpenBox
innermost [] = None
innermost (b ∷ bs) = Some b

-- the end of a container, and of the list whose last item it is
abbrev pub box_ended : Option OpenBox → List Part → List Part
box_ended None rest = rest
box_ended (Some Quote) rest = ended part.quote_end ∷ rest
box_ended (Some (Item l true)) rest = ended part.item_end ∷ rest
box_ended (Some (Item l false)) rest = ended part.item_end ∷ ended (part.list_end l.is_numbered) ∷ rest

abbrev pub list_behind : Option OpenBox → Option OpenList
list_behind None = None
list_behind (Some Quote) = None
list_behind (Some (Item l true)) = Some l
list_behind (Some (Item l false)) = None

-- ---- leaves

abbrev pub text_of : Bool → References → List ℕ → Inlines
text_of true refs s = item_text refs s
text_of false refs s = inlines refs s

-- the parts of a leaf, which an item may begin with, before others
abbrev pub leaf_parts : References → Bool → Bool → ClosedBlock → List Part → List Part
leaf_parts refs is_first is_tight (box.text s) rest =
    part.block_parts is_tight (markup.paragraph (text_of is_first refs s)) rest
leaf_parts refs is_first is_tight (box.headed level s) rest =
    part.block_parts is_tight (markup.heading level (inlines refs s)) rest
leaf_parts refs is_first is_tight (box.code language s) rest = part.code_block language s ∷ rest
leaf_parts refs is_first is_tight box.rule rest = part.thematic_break ∷ rest
leaf_parts refs is_first is_tight (box.html s) rest = part.html_block s ∷ rest
leaf_parts refs is_first is_tight (box.grid alignments header rows) rest =
    part.table_parts alignments (cell_inlines refs header) (row_inlines refs rows) rest
leaf_parts refs is_first is_tight (box.defined d) rest = rest
leaf_parts refs is_first is_tight (box.boxed kind ps) rest = rest

-- ---- one more part of what is closed

abbrev pub item_begun : Place → Option ℕ → List Part → List Part
item_begun p number rest = list_begun p.list number (first_mark p.marks).is_tight (begun part.item ∷ rest)

abbrev pub step_parts : References → Place → ClosedPart → List Part → List Part
step_parts refs p (begin g box.quoting) rest = begun part.quote ∷ rest
step_parts refs p (begin g (box.listing sign number columns)) rest = item_begun p number rest
step_parts refs p end rest = box_ended (innermost p.boxes) rest
step_parts refs p (definition g) rest = rest
step_parts refs p (single g b) rest = leaf_parts refs p.is_first (is_tight_in p.boxes) b rest

abbrev pub in_quote : Place → Place
in_quote p = placed (Quote ∷ p.boxes) None false p.marks

abbrev pub in_item : Place → Option ℕ → Place
in_item p number =
    let mark = first_mark p.marks in
    placed (Item (entered p.list number mark.is_tight) mark.goes_on ∷ p.boxes) None true (drop 1 p.marks)

abbrev pub behind_box : Place → Place
behind_box p = placed (drop 1 p.boxes) (list_behind (innermost p.boxes)) false p.marks

abbrev pub behind_block : Place → Place
behind_block p = placed p.boxes None false p.marks

abbrev pub place_after : Place → ClosedPart → Place
place_after p (begin g box.quoting) = in_quote p
place_after p (begin g (box.listing sign number columns)) = in_item p number
place_after p end = behind_box p
place_after p (definition g) = behind_block p
place_after p (single g b) = behind_block p

-- the parts of what is closed from a place on
abbrev pub run_parts : References → Place → List ClosedPart → List Part
run_parts refs p [] = []
run_parts refs p (c ∷ cs) = step_parts refs p c (run_parts refs (place_after p c) cs)
