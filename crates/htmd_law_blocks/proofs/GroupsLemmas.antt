-- The closed blocks of a document are grouped into its lists.
use Rattle.std.proofs.Common.{◌≡◌, ◌∙◌, refl, sym, ap, subst, ℕ, suc, Bool, true, false, not, List, [], ◌+◌, arith}
use Rattle.std.proofs.lemmas.Bool.Decides.{nat_tests}
use Rattle.std.specs.Prelude.{◌==◌, ◌&&◌, ◌||◌, Option, Some, None}
use Rattle.htmd_document.specs.Documents as documents
use Rattle.htmd_document.specs.TightItems.{is_short}
use Rattle.htmd_markdown.specs.declared.list.BulletListMarker.{BulletListMarker}
use Rattle.htmd_markdown.specs.declared.list.BulletListMarker.TheVariants.{Asterisk, Dash}
use Rattle.htmd_commonmark.specs.declared.blocks.Place.{Place}
use Rattle.htmd_commonmark.specs.declared.markers.Sign.{Sign}
use Rattle.htmd_commonmark.specs.declared.markers.Markers.{Markers}
use Rattle.htmd_commonmark.specs.declared.options.DocumentOptions.{DocumentOptions}
use Rattle.htmd_commonmark.specs.BlockMarkdown.{item_count, markers_of, list_sign, bullet_of, delimiter_of}
use Rattle.htmd_commonmark.specs.BlockMarkdown.{place_in_item, place_in_quote, behind_first, sign_of, written_blocks}
use Rattle.htmd_commonmark.specs.BlockMarkdown.{written_block}
use Rattle.htmd_commonmark.specs.DocumentMarkdown.{outermost}
use Rattle.htmd_commonmark_reading.specs.Boxes.{ClosedBlocks, no_closed_blocks, closed_block}
use Rattle.htmd_commonmark_reading.specs.Brackets.{References, inlines}
use Rattle.htmd_commonmark_reading.specs.Lists.{Gapped, no_gapped, shown, hidden, listed, plain, any_gap, inner_gap}
use Rattle.htmd_commonmark_reading.specs.Lists.{one_item, with_item, with_closed_block, gapped, item_gapped, item_text}
use Rattle.htmd_commonmark_reading.specs.Lists.{cell_inlines, row_inlines}
use Rattle.htmd_commonmark_reading.specs.Markup.{Inlines, Blocks, Items, paragraph, heading, code_block, quote}
use Rattle.htmd_commonmark_reading.specs.Markup.{thematic_break, table, html_block, block, no_items, item}
use Rattle.htmd_law_blocks.specs.DocumentParts.{paragraph_text, heading_text, cell_texts, table_rows}
use Rattle.htmd_law_blocks.specs.DocumentParts.{sign_byte, item_sign, item_number, first_parts, further_parts}
use Rattle.htmd_law_blocks.specs.DocumentParts.{block_parts, item_parts, document_parts}
use Rattle.htmd_law_blocks.specs.DocumentBlocks.{first_read, further_read, block_read, items_read, document_read}
use Rattle.htmd_law_blocks.specs.NormalBlocks.{HasItem, is_spread, IsNormalBlock, AreNormalBlocks, AreNormalItems}

-- ---- the blocks of a document with the blank lines before them

abbrev block_gaps : References → (List ℕ → Inlines) → DocumentOptions → Place → Option Sign
    → List (List ℕ) → Bool
    → documents.Block → Gapped → Gapped
block_gaps refs reads o p before ds g (documents.list start t items) rest =
    listed g (item_sign (markers_of o before p.outer start (item_count items))) start t
    (items_read refs o (markers_of o before p.outer start (item_count items)) t ds items) rest
block_gaps refs reads o p before ds g (documents.paragraph content) rest =
    shown g (block_read refs reads o p before ds (documents.paragraph content)) rest
block_gaps refs reads o p before ds g (documents.heading level content) rest =
    shown g (block_read refs reads o p before ds (documents.heading level content)) rest
block_gaps refs reads o p before ds g (documents.code_block language s) rest =
    shown g (block_read refs reads o p before ds (documents.code_block language s)) rest
block_gaps refs reads o p before ds g (documents.quote content) rest =
    shown g (block_read refs reads o p before ds (documents.quote content)) rest
block_gaps refs reads o p before ds g documents.thematic_break rest =
    shown g (block_read refs reads o p before ds documents.thematic_break) rest
block_gaps refs reads o p before ds g (documents.element name attributes content) rest =
    shown g (block_read refs reads o p before ds (documents.element name attributes content)) rest
block_gaps refs reads o p before ds g (documents.tags s) rest =
    shown g (block_read refs reads o p before ds (documents.tags s)) rest
block_gaps refs reads o p before ds g (documents.table alignments header rows) rest =
    shown g (block_read refs reads o p before ds (documents.table alignments header rows)) rest

abbrev further_gaps : References → DocumentOptions → Place → Option Sign → List (List ℕ)
    → documents.Blocks → Gapped
further_gaps refs o p before ds documents.no_blocks = no_gapped
further_gaps refs o p before ds (documents.block first rest) =
    block_gaps refs (inlines refs) o p before ds (not p.tight) first
    (further_gaps refs o p (sign_of o before p.outer first) (written_block o p before ds first).definitions rest)

abbrev first_gaps : References → (List ℕ → Inlines) → DocumentOptions → Place → List (List ℕ)
    → documents.Blocks → Gapped
first_gaps refs reads o p ds documents.no_blocks = no_gapped
first_gaps refs reads o p ds (documents.block first rest) =
    block_gaps refs reads o p None ds false first
    (further_gaps refs o (behind_first p) (sign_of o None p.outer first) (written_block o p None ds first).definitions
    rest)

-- ---- they are the blocks

block_plain : (refs : References) (reads : List ℕ → Inlines) (o : DocumentOptions) (p : Place)
    (before : Option Sign)
    (ds : List (List ℕ)) (g : Bool) (b : documents.Block) (rest : Gapped)
    → plain (block_gaps refs reads o p before ds g b rest) ≡ block (block_read refs reads o p before ds b)
    (plain rest)
block_plain refs reads o p before ds g (documents.list start t items) rest = refl
block_plain refs reads o p before ds g (documents.paragraph content) rest = refl
block_plain refs reads o p before ds g (documents.heading level content) rest = refl
block_plain refs reads o p before ds g (documents.code_block language s) rest = refl
block_plain refs reads o p before ds g (documents.quote content) rest = refl
block_plain refs reads o p before ds g documents.thematic_break rest = refl
block_plain refs reads o p before ds g (documents.element name attributes content) rest = refl
block_plain refs reads o p before ds g (documents.tags s) rest = refl
block_plain refs reads o p before ds g (documents.table alignments header rows) rest = refl

further_plain : (refs : References) (o : DocumentOptions) (p : Place) (before : Option Sign) (ds : List (List ℕ))
    (bs : documents.Blocks) → plain (further_gaps refs o p before ds bs) ≡ further_read refs o p before ds bs
further_plain refs o p before ds documents.no_blocks = refl
further_plain refs o p before ds (documents.block first rest) =
    let after = sign_of o before p.outer first in
    let es = (written_block o p before ds first).definitions in
    block_plain refs (inlines refs) o p before ds (not p.tight) first (further_gaps refs o p after es rest)
    ∙ ap (block (block_read refs (inlines refs) o p before ds first)) (further_plain refs o p after es rest)

first_plain : (refs : References) (reads : List ℕ → Inlines) (o : DocumentOptions) (p : Place)
    (ds : List (List ℕ))
    (bs : documents.Blocks) → plain (first_gaps refs reads o p ds bs) ≡ first_read refs reads o p ds bs
first_plain refs reads o p ds documents.no_blocks = refl
first_plain refs reads o p ds (documents.block first rest) =
    let q = behind_first p in
    let after = sign_of o None p.outer first in
    let es = (written_block o p None ds first).definitions in
    block_plain refs reads o p None ds false first (further_gaps refs o q after es rest)
    ∙ ap (block (block_read refs reads o p None ds first)) (further_plain refs o q after es rest)

-- ---- where blank lines stand

block_any : (refs : References) (reads : List ℕ → Inlines) (o : DocumentOptions) (p : Place) (before : Option Sign)
    (ds : List (List ℕ)) (g : Bool) (b : documents.Block) (rest : Gapped)
    → any_gap (block_gaps refs reads o p before ds g b rest) ≡ (g || any_gap rest)
block_any refs reads o p before ds g (documents.list start t items) rest = refl
block_any refs reads o p before ds g (documents.paragraph content) rest = refl
block_any refs reads o p before ds g (documents.heading level content) rest = refl
block_any refs reads o p before ds g (documents.code_block language s) rest = refl
block_any refs reads o p before ds g (documents.quote content) rest = refl
block_any refs reads o p before ds g documents.thematic_break rest = refl
block_any refs reads o p before ds g (documents.element name attributes content) rest = refl
block_any refs reads o p before ds g (documents.tags s) rest = refl
block_any refs reads o p before ds g (documents.table alignments header rows) rest = refl

block_inner : (refs : References) (reads : List ℕ → Inlines) (o : DocumentOptions) (p : Place)
    (before : Option Sign)
    (ds : List (List ℕ)) (g : Bool) (b : documents.Block) (rest : Gapped)
    → inner_gap (block_gaps refs reads o p before ds g b rest) ≡ any_gap rest
block_inner refs reads o p before ds g (documents.list start t items) rest = refl
block_inner refs reads o p before ds g (documents.paragraph content) rest = refl
block_inner refs reads o p before ds g (documents.heading level content) rest = refl
block_inner refs reads o p before ds g (documents.code_block language s) rest = refl
block_inner refs reads o p before ds g (documents.quote content) rest = refl
block_inner refs reads o p before ds g documents.thematic_break rest = refl
block_inner refs reads o p before ds g (documents.element name attributes content) rest = refl
block_inner refs reads o p before ds g (documents.tags s) rest = refl
block_inner refs reads o p before ds g (documents.table alignments header rows) rest = refl

abbrev is_some : documents.Blocks → Bool
is_some documents.no_blocks = false
is_some (documents.block b bs) = true

further_any : (refs : References) (o : DocumentOptions) (p : Place) (before : Option Sign) (ds : List (List ℕ))
    (bs : documents.Blocks) → any_gap (further_gaps refs o p before ds bs) ≡ (not p.tight && is_some bs)
further_any refs o p before ds documents.no_blocks = sym (never (not p.tight))
  where
    never : (b : Bool) → (b && false) ≡ false
    never true = refl
    never false = refl
further_any refs o p before ds (documents.block first rest) =
    let after = sign_of o before p.outer first in
    let es = (written_block o p before ds first).definitions in
    block_any refs (inlines refs) o p before ds (not p.tight) first (further_gaps refs o p after es rest)
    ∙ ap (λ (b : Bool). not p.tight || b) (further_any refs o p after es rest) ∙ absorbed (not p.tight)
    (is_some rest)
  where
    absorbed : (a b : Bool) → (a || (a && b)) ≡ (a && true)
    absorbed true b = refl
    absorbed false b = refl

first_inner : (refs : References) (reads : List ℕ → Inlines) (o : DocumentOptions) (p : Place)
    (ds : List (List ℕ))
    (bs : documents.Blocks) → inner_gap (first_gaps refs reads o p ds bs) ≡ (not p.tight && not (is_short bs))
first_inner refs reads o p ds documents.no_blocks = sym (never (not p.tight))
  where
    never : (b : Bool) → (b && false) ≡ false
    never true = refl
    never false = refl
first_inner refs reads o p ds (documents.block first rest) =
    let q = behind_first p in
    let after = sign_of o None p.outer first in
    let es = (written_block o p None ds first).definitions in
    block_inner refs reads o p None ds false first (further_gaps refs o q after es rest)
    ∙ further_any refs o q after es rest
    ∙ ap (λ (b : Bool). not p.tight && b) (same rest)
  where
    same : (rest : documents.Blocks) → is_some rest ≡ not (is_short (documents.block first rest))
    same documents.no_blocks = refl
    same (documents.block c cs) = refl

-- ---- lists that follow each other have different signs

abbrev IsApartFrom : ℕ → Gapped → Type 0
IsApartFrom sign no_gapped = Unit {0}
IsApartFrom sign (shown g b rest) = Unit {0}
IsApartFrom sign (hidden g rest) = Unit {0}
IsApartFrom sign (listed g other start t items rest) = (sign == other) ≡ false

abbrev IsAfter : Option Sign → Gapped → Type 0
IsAfter None rest = Unit {0}
IsAfter (Some s) rest = IsApartFrom (sign_byte s) rest

bullets_apart : (style : BulletListMarker) (s : Sign) → (sign_byte s == sign_byte
    (bullet_of style (Some s) None)) ≡ false
bullets_apart Asterisk Sign.Asterisk = refl
bullets_apart Asterisk Sign.Hyphen = refl
bullets_apart Asterisk Sign.FullStop = refl
bullets_apart Asterisk Sign.Parenthesis = refl
bullets_apart Dash Sign.Asterisk = refl
bullets_apart Dash Sign.Hyphen = refl
bullets_apart Dash Sign.FullStop = refl
bullets_apart Dash Sign.Parenthesis = refl

delimiters_apart : (s : Sign) → (sign_byte s == sign_byte (delimiter_of (Some s))) ≡ false
delimiters_apart Sign.Asterisk = refl
delimiters_apart Sign.Hyphen = refl
delimiters_apart Sign.FullStop = refl
delimiters_apart Sign.Parenthesis = refl

list_apart : (o : DocumentOptions) (s : Sign) (start : Option ℕ) (n : ℕ)
    → (sign_byte s == item_sign (markers_of o (Some s) None start n)) ≡ false
list_apart o s None n = bullets_apart o.bullet_list_marker s
list_apart o s (Some start) n = delimiters_apart s

block_apart : (refs : References) (o : DocumentOptions) (p : Place) (s : Sign) (ds : List (List ℕ)) (g : Bool)
    (b : documents.Block) (rest : Gapped) → p.outer ≡ None
    → IsApartFrom (sign_byte s) (block_gaps refs (inlines refs) o p (Some s) ds g b rest)
block_apart refs o p s ds g (documents.list start t items) rest e =
    ap (λ (x : Option Sign). sign_byte s == item_sign (markers_of o (Some s) x start (item_count items))) e
    ∙ list_apart o s start (item_count items)
block_apart refs o p s ds g (documents.paragraph content) rest e = tt
block_apart refs o p s ds g (documents.heading level content) rest e = tt
block_apart refs o p s ds g (documents.code_block language x) rest e = tt
block_apart refs o p s ds g (documents.quote content) rest e = tt
block_apart refs o p s ds g documents.thematic_break rest e = tt
block_apart refs o p s ds g (documents.element name attributes content) rest e = tt
block_apart refs o p s ds g (documents.tags x) rest e = tt
block_apart refs o p s ds g (documents.table alignments header rows) rest e = tt

further_apart : (refs : References) (o : DocumentOptions) (p : Place) (before : Option Sign) (ds : List (List ℕ))
    (bs : documents.Blocks) → p.outer ≡ None → IsAfter before (further_gaps refs o p before ds bs)
further_apart refs o p None ds bs e = tt
further_apart refs o p (Some s) ds documents.no_blocks e = tt
further_apart refs o p (Some s) ds (documents.block first rest) e =
    block_apart refs o p s ds (not p.tight) first
    (further_gaps refs o p (sign_of o (Some s) p.outer first) (written_block o p (Some s) ds first).definitions rest) e

sign_is : (o : DocumentOptions) (before outer : Option Sign) (start : Option ℕ) (n : ℕ)
    → sign_byte (list_sign o before outer start) ≡ item_sign (markers_of o before outer start n)
sign_is o before outer None n = refl
sign_is o before outer (Some start) n = refl

number_is : (o : DocumentOptions) (before outer : Option Sign) (start : Option ℕ) (n : ℕ)
    → item_number (markers_of o before outer start n) 0 ≡ start
number_is o before outer None n = refl
number_is o before outer (Some start) n = let e : start + 0 ≡ start = omega arith in ap (λ (i : ℕ). Some i) e

-- ---- items

pub alone_item : (g : Bool) (sign : ℕ) (number : Option ℕ) (c rest : Gapped) → IsApartFrom sign rest
    → with_item g sign number c rest ≡ one_item g sign number c rest
alone_item g sign number c no_gapped h = refl
alone_item g sign number c (shown f b rest) h = refl
alone_item g sign number c (hidden f rest) h = refl
alone_item g sign number c (listed f other start t items rest) h = rw h refl

same_sign : (s : ℕ) → (s == s) ≡ true
same_sign s = grind (arith, nat_tests)

merged_item : (g h : Bool) (sign : ℕ) (number other : Option ℕ) (t : Bool) (c : Gapped) (items : Items)
    (rest : Gapped)
    → with_item g sign number c (listed h sign other t items rest)
    ≡ listed g sign number (not (inner_gap c) && not h && t) (item (plain c) items) rest
merged_item g h sign number other t c items rest = rw (same_sign sign) refl

all_tight : (l q r : Bool) → (not (l && q) && not l && not (l && r)) ≡ not (l && true)
all_tight true true r = refl
all_tight true false r = refl
all_tight false q r = refl

still_tight : (t s : Bool) → (t || s) ≡ true → not (not t && s) ≡ t
still_tight true s h = refl
still_tight false true h = refl
still_tight false false h = absurd (cc)

-- closed blocks of which the first is read so
abbrev gap_first : References → (List ℕ → Inlines) → ClosedBlocks → Gapped
gap_first refs reads no_closed_blocks = no_gapped
gap_first refs reads (closed_block g p ps) = with_closed_block refs reads g p (gapped refs ps)

gapped_first : (refs : References) (ps : ClosedBlocks) → gapped refs ps ≡ gap_first refs (inlines refs) ps
gapped_first refs no_closed_blocks = refl
gapped_first refs (closed_block g p ps) = refl

item_gapped_first : (refs : References) (ps : ClosedBlocks) → item_gapped refs ps
    ≡ gap_first refs (item_text refs) ps
item_gapped_first refs no_closed_blocks = refl
item_gapped_first refs (closed_block g p ps) = refl

-- an item is no text
item_first : (refs : References) (reads : List ℕ → Inlines) (o : DocumentOptions) (m : Markers) (t : Bool)
    (ds : List (List ℕ)) (g : Bool) (items : documents.Items) (rs : ClosedBlocks) → HasItem items
    → gap_first refs reads (item_parts o m t 0 ds g items rs) ≡ gapped refs (item_parts o m t 0 ds g items rs)
item_first refs reads o m t ds g documents.no_items rs h = absurd h
item_first refs reads o m t ds g (documents.item first others) rs h = refl

-- an item before what is no list of its sign
item_alone : (g : Bool) (sign : ℕ) (number : Option ℕ) (c d rest rs : Gapped) (l x : Bool) (bs : Blocks) → c ≡ d
    → rs ≡ rest → IsApartFrom sign rest → inner_gap d ≡ (l && x) → plain d ≡ bs
    → with_item g sign number c rs ≡ listed g sign number (not (l && x)) (item bs no_items) rest
item_alone g sign number c d rest rs l x bs e f a i p =
    ap (λ (y : Gapped). with_item g sign number y rs) e
    ∙ ap (with_item g sign number d) f
    ∙ alone_item g sign number d rest a
    ∙ ap (λ (b : Bool). listed g sign number (not b) (item (plain d) no_items) rest) i
    ∙ ap (λ (b : Blocks). listed g sign number (not (l && x)) (item b no_items) rest) p

-- an item before others of its list
item_merged : (g : Bool) (sign : ℕ) (number other : Option ℕ) (c d rs rest : Gapped) (l x r : Bool) (bs : Blocks)
    (items : Items) → c ≡ d → rs ≡ listed l sign other (not (l && r)) items rest → inner_gap d ≡ (l && x)
    → plain d ≡ bs
    → with_item g sign number c rs ≡ listed g sign number (not (l && true)) (item bs items) rest
item_merged g sign number other c d rs rest l x r bs items e f i p =
    ap (λ (y : Gapped). with_item g sign number y rs) e
    ∙ ap (with_item g sign number d) f
    ∙ merged_item g l sign number other (not (l && r)) d items rest
    ∙ ap (λ (b : Bool). listed g sign number (not b && not l && not (l && r)) (item (plain d) items) rest) i
    ∙ ap (λ (b : Bool). listed g sign number b (item (plain d) items) rest) (all_tight l x r)
    ∙ ap (λ (b : Blocks). listed g sign number (not (l && true)) (item b items) rest) p

mutual
  block_grouped : (refs : References) (reads : List ℕ → Inlines) (o : DocumentOptions) (p : Place)
      (before : Option Sign) (ds : List (List ℕ)) (g : Bool) (b : documents.Block) (rs : ClosedBlocks) (rest : Gapped)
      → IsNormalBlock b → gapped refs rs ≡ rest → IsAfter (sign_of o before p.outer b) rest
      → gap_first refs reads (block_parts o p before ds g b rs) ≡ block_gaps refs reads o p before ds g b rest
  block_grouped refs reads o p before ds g (documents.paragraph content) rs rest h e a =
      ap (shown g (paragraph (reads (paragraph_text o ds content)))) e
  block_grouped refs reads o p before ds g (documents.heading level content) rs rest h e a =
      ap (shown g (heading level (inlines refs (heading_text o ds level content)))) e
  block_grouped refs reads o p before ds g (documents.code_block language s) rs rest h e a =
      ap (shown g (code_block language s)) e
  block_grouped refs reads o p before ds g (documents.quote content) rs rest h e a =
      let q = place_in_quote p.in_item in
      let ps = first_parts o q ds content in
      ap (λ (x : Gapped). shown g (quote (plain x)) (gapped refs rs))
      (gapped_first refs ps ∙ first_grouped refs (inlines refs) o q ds content h.1)
      ∙ ap (λ (x : Blocks). shown g (quote x) (gapped refs rs)) (first_plain refs (inlines refs) o q ds content)
      ∙ ap (shown g (quote (first_read refs (inlines refs) o q ds content))) e
  block_grouped refs reads o p before ds g documents.thematic_break rs rest h e a = ap (shown g thematic_break) e
  block_grouped refs reads o p before ds g (documents.element name attributes content) rs rest h e a = absurd h
  block_grouped refs reads o p before ds g (documents.tags s) rs rest h e a = ap (shown g (html_block s)) e
  block_grouped refs reads o p before ds g (documents.table alignments header rows) rs rest h e a =
      ap (shown g (table alignments (cell_inlines refs (cell_texts o ds header))
      (row_inlines refs (table_rows o ds header rows)))) e
  block_grouped refs reads o p before ds g (documents.list start t items) rs rest h e a =
      let n = item_count items in
      let m = markers_of o before p.outer start n in
      let is = items_read refs o m t ds items in
      let apart = subst (λ (s : ℕ). IsApartFrom s rest) (sign_is o before p.outer start n) a in
      item_first refs reads o m t ds g items rs h.0
      ∙ items_grouped refs o m t 0 ds g items rs rest h.0 h.2 e apart
      ∙ ap (λ (x : Option ℕ). listed g (item_sign m) x (not (not t && is_spread items)) is rest)
      (number_is o before p.outer start n)
      ∙ ap (λ (x : Bool). listed g (item_sign m) start x is rest) (still_tight t (is_spread items) h.3)

  first_grouped : (refs : References) (reads : List ℕ → Inlines) (o : DocumentOptions) (p : Place)
      (ds : List (List ℕ)) (bs : documents.Blocks) → AreNormalBlocks bs
      → gap_first refs reads (first_parts o p ds bs) ≡ first_gaps refs reads o p ds bs
  first_grouped refs reads o p ds documents.no_blocks h = refl
  first_grouped refs reads o p ds (documents.block first rest) h =
      let q = behind_first p in
      let after = sign_of o None p.outer first in
      let es = (written_block o p None ds first).definitions in
      block_grouped refs reads o p None ds false first (further_parts o q after es rest)
      (further_gaps refs o q after es rest) h.0 (further_grouped refs o q after es rest refl h.1)
      (further_apart refs o q after es rest refl)

  further_grouped : (refs : References) (o : DocumentOptions) (p : Place) (before : Option Sign)
      (ds : List (List ℕ)) (bs : documents.Blocks) → p.outer ≡ None → AreNormalBlocks bs
      → gapped refs (further_parts o p before ds bs) ≡ further_gaps refs o p before ds bs
  further_grouped refs o p before ds documents.no_blocks n h = refl
  further_grouped refs o p before ds (documents.block first rest) n h =
      let after = sign_of o before p.outer first in
      let es = (written_block o p before ds first).definitions in
      let rs = further_parts o p after es rest in
      gapped_first refs (block_parts o p before ds (not p.tight) first rs)
      ∙ block_grouped refs (inlines refs) o p before ds (not p.tight) first rs (further_gaps refs o p after es rest)
      h.0
      (further_grouped refs o p after es rest n h.1) (further_apart refs o p after es rest n)

  items_grouped : (refs : References) (o : DocumentOptions) (m : Markers) (t : Bool) (k : ℕ) (ds : List (List ℕ))
      (g : Bool) (items : documents.Items) (rs : ClosedBlocks) (rest : Gapped) → HasItem items
      → AreNormalItems t items
      → gapped refs rs ≡ rest → IsApartFrom (item_sign m) rest
      → gapped refs (item_parts o m t k ds g items rs)
      ≡ listed g (item_sign m) (item_number m k) (not (not t && is_spread items)) (items_read refs o m t ds items)
      rest
  items_grouped refs o m t k ds g documents.no_items rs rest n h e a = absurd n
  items_grouped refs o m t k ds g (documents.item first documents.no_items) rs rest n h e a =
      let p = place_in_item m t in
      let c = item_gapped refs (first_parts o p ds first) in
      item_alone g (item_sign m) (item_number m k) c (first_gaps refs (item_text refs) o p ds first) rest
      (gapped refs rs)
      (not t) (not (is_short first)) (first_read refs (item_text refs) o p ds first)
      (item_gapped_first refs (first_parts o p ds first) ∙ first_grouped refs (item_text refs) o p ds first h.1) e a
      (first_inner refs (item_text refs) o p ds first) (first_plain refs (item_text refs) o p ds first)
  items_grouped refs o m t k ds g (documents.item first (documents.item second others)) rs rest n h e a =
      let p = place_in_item m t in
      let c = item_gapped refs (first_parts o p ds first) in
      let es = (written_blocks o p ds first).definitions in
      let more = documents.item second others in
      item_merged g (item_sign m) (item_number m k) (item_number m (suc k)) c
      (first_gaps refs (item_text refs) o p ds first) (gapped refs (item_parts o m t (suc k) es (not t) more rs)) rest
      (not t) (not (is_short first)) (is_spread more) (first_read refs (item_text refs) o p ds first)
      (items_read refs o m t es more)
      (item_gapped_first refs (first_parts o p ds first) ∙ first_grouped refs (item_text refs) o p ds first h.1)
      (items_grouped refs o m t (suc k) es (not t) (documents.item second others) rs rest tt h.2 e a)
      (first_inner refs (item_text refs) o p ds first) (first_plain refs (item_text refs) o p ds first)

-- the closed blocks of a document are its blocks
pub document_grouped : (refs : References) (o : DocumentOptions) (d : documents.Blocks) → AreNormalBlocks d
    → plain (gapped refs (document_parts o d)) ≡ document_read refs o d
document_grouped refs o d h =
    ap plain (gapped_first refs (document_parts o d) ∙ first_grouped refs (inlines refs) o outermost [] d h)
    ∙ first_plain refs (inlines refs) o outermost [] d
