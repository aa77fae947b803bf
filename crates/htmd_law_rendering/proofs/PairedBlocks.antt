-- Where a document is seen, the raw tags of its blocks pair, and so do lines of tags.
use Rattle.std.proofs.Common.{◌≡◌, ℕ, true, ◌&&◌, List, [], ◌∷◌, refl, sym, ap, ◌∙◌, Option, Some, None}
use Rattle.std.proofs.Common.{subst}
use Rattle.std.proofs.lemmas.Bool.{and_parts, and_from}
use Rattle.htmd_lexical.proofs.Cases.{test}
use Rattle.htmd_document.specs.Documents as documents
use Rattle.htmd_document.specs.FlatDocuments.{lines_of}
use Rattle.htmd_commonmark_reading.specs.Markup.{Inlines, no_inlines, letter, code, formatted, link, image}
use Rattle.htmd_commonmark_reading.specs.Markup.{line_break}
use Rattle.htmd_commonmark_reading.specs.Markup.{task, raw, Block, paragraph, heading, code_block, quote}
use Rattle.htmd_commonmark_reading.specs.Markup.{thematic_break, list, table, html_block, Blocks, no_blocks, block}
use Rattle.htmd_commonmark_reading.specs.Markup.{Items, no_items, item}
use Rattle.htmd_commonmark_reading.specs.Elements.{Stack, outside, with_block, with_lines, with_flat, nested_block}
use Rattle.htmd_commonmark_reading.specs.Elements.{nested, nested_items, nested_document}
use Rattle.htmd_commonmark_reading.specs.Reading.{read, flat_document, nested_of}
use Rattle.htmd_commonmark_reading.specs.SeenMarkup.{seen_inlines, seen_row, seen_rows, has_none, has_no_cell}
use Rattle.htmd_commonmark_reading.specs.SeenMarkup.{filled_front, without_empty_end, seen_block, seen_blocks}
use Rattle.htmd_commonmark_reading.specs.SeenMarkup.{seen_items}
use Rattle.htmd_commonmark_reading.specs.SeenMarkup.{document_inlines, and_list, document_row, document_rows}
use Rattle.htmd_commonmark_reading.specs.SeenMarkup.{option_of}
use Rattle.htmd_commonmark_reading.specs.SeenMarkup.{option_of_both, document_block, document_blocks, document_items}
use Rattle.htmd_law_rendering.specs.PlainReadings.{are_paired, cells_are_paired, rows_are_paired, block_is_paired}
use Rattle.htmd_law_rendering.specs.PlainReadings.{is_nothing_left, names_with_lines, names_with_html}
use Rattle.htmd_law_rendering.specs.PlainReadings.{blocks_unopened}
use Rattle.htmd_law_rendering.specs.PlainReadings.{each_is_paired, items_are_paired}
use Rattle.htmd_law_rendering.specs.RenderingLaws.{SeenIsPaired}
use Rattle.htmd_law_rendering.proofs.NestedStacks.{Matches, same-names, lines-names, kept, last}
use Rattle.htmd_law_rendering.proofs.PairedLemmas.{inlines-pair, document-pairs}

pub both-some : {A : Type 0} (x : Option A) (xs : Option (List A)) (d : List A) → and_list x xs ≡ Some d
    → (a : A) × (b : List A) × (x ≡ Some a) × (xs ≡ Some b) × (a ∷ b ≡ d)
both-some None xs d e = absurd (cc)
both-some (Some a) None d e = absurd (cc)
both-some (Some a) (Some b) d e = (a, b, refl, refl, cc)

pub one-some : {A B : Type 0} (f : A → B) (x : Option A) (d : B) → option_of f x ≡ Some d
    → (a : A) × (x ≡ Some a) × (f a ≡ d)
one-some f None d e = absurd (cc)
one-some f (Some a) d e = (a, refl, cc)

pub two-some : {A B C : Type 0} (f : A → B → C) (x : Option A) (y : Option B) (d : C)
    → option_of_both f x y ≡ Some d
    → (a : A) × (b : B) × (x ≡ Some a) × (y ≡ Some b) × (f a b ≡ d)
two-some f None y d e = absurd (cc)
two-some f (Some a) None d e = absurd (cc)
two-some f (Some a) (Some b) d e = (a, b, refl, refl, cc)

-- ---- tables

row-pairs : (r : List Inlines) (d : List documents.Inlines) → document_row (seen_row r) ≡ Some d
    → cells_are_paired r ≡ true
row-pairs [] d e = refl
row-pairs (c ∷ cs) d e =
    let k = both-some (document_inlines (seen_inlines c)) (document_row (seen_row cs)) d e in
    and_from (are_paired c) (cells_are_paired cs) (document-pairs c k.0 k.2) (row-pairs cs k.1 k.3)

nothing : (c xs : Inlines) → seen_inlines c ≡ xs → has_none xs ≡ true → are_paired c ≡ true
nothing c no_inlines s e = inlines-pair c (rw s refl)
nothing c (letter b xs) s e = absurd (cc)
nothing c (code t xs) s e = absurd (cc)
nothing c (formatted f content xs) s e = absurd (cc)
nothing c (link a t content xs) s e = absurd (cc)
nothing c (image a t content xs) s e = absurd (cc)
nothing c (line_break xs) s e = absurd (cc)
nothing c (task b xs) s e = absurd (cc)
nothing c (raw t xs) s e = absurd (cc)

pub no-cells : (cs : List Inlines) → has_no_cell cs ≡ true → cs ≡ []
no-cells [] e = refl
no-cells (c ∷ cs) e = absurd (cc)

filled-pairs : (cs : List Inlines) (d : List documents.Inlines) → document_row (filled_front (seen_row cs)) ≡ Some d
    → cells_are_paired cs ≡ true
filled-pairs [] d e = refl
filled-pairs (c ∷ cs) d e =
    test (has_none (seen_inlines c) && has_no_cell (filled_front (seen_row cs)))
    (λ t.
    let p = and_parts (has_none (seen_inlines c)) (has_no_cell (filled_front (seen_row cs))) t in
    let n = no-cells (filled_front (seen_row cs)) p.1 in
    and_from (are_paired c) (cells_are_paired cs) (nothing c (seen_inlines c) refl p.0)
    (filled-pairs cs [] (ap document_row n)))
    (λ t.
    let w = rw t at e in
    let k = both-some (document_inlines (seen_inlines c)) (document_row (filled_front (seen_row cs))) d w in
    and_from (are_paired c) (cells_are_paired cs) (document-pairs c k.0 k.2) (filled-pairs cs k.1 k.3))

body_row-pairs : (r : List Inlines) (d : List documents.Inlines)
    → document_row (without_empty_end (seen_row r)) ≡ Some d
    → cells_are_paired r ≡ true
body_row-pairs [] d e = refl
body_row-pairs (c ∷ cs) d e =
    let k = both-some (document_inlines (seen_inlines c)) (document_row (filled_front (seen_row cs))) d e in
    and_from (are_paired c) (cells_are_paired cs) (document-pairs c k.0 k.2) (filled-pairs cs k.1 k.3)

rows-pair : (rs : List (List Inlines)) (d : List (List documents.Inlines)) → document_rows (seen_rows rs) ≡ Some d
    → rows_are_paired rs ≡ true
rows-pair [] d e = refl
rows-pair (r ∷ rs) d e =
    let k = both-some (document_row (without_empty_end (seen_row r))) (document_rows (seen_rows rs)) d e in
    and_from (cells_are_paired r) (rows_are_paired rs) (body_row-pairs r k.0 k.2) (rows-pair rs k.1 k.3)

-- ---- what a block makes of the stack

abbrev pub Stepped : Block → documents.Block → Stack → Stack → Type 0
Stepped (html_block s) d o p = with_lines (Some o) (lines_of s) ≡ Some p
Stepped b d o p = (e : documents.Block) × (nested_block d ≡ Some e) × (with_block o e ≡ p)

plainly : (made : Option documents.Block) (o p : Stack) → option_of_both with_block (Some o) made ≡ Some p
    → (e : documents.Block) × (made ≡ Some e) × (with_block o e ≡ p)
plainly None o p h = absurd (cc)
plainly (Some e) o p h = (e, refl, cc)

abbrev GoesOn : documents.Block → Stack → Stack → Type 0
GoesOn d o p = with_flat (Some o) d (nested_block d) ≡ Some p

abbrev IsAdded : documents.Block → Stack → Stack → Type 0
IsAdded d o p = (e : documents.Block) × (nested_block d ≡ Some e) × (with_block o e ≡ p)

added : (d own : documents.Block) (o p : Stack) → own ≡ d → (GoesOn own o p → IsAdded own o p) → GoesOn d o p
    → IsAdded d o p
added d own o p e f g = subst (λ x. IsAdded x o p) e (f (subst (λ x. GoesOn x o p) (sym e) g))

pub stepped : (b : Block) (d : documents.Block) (o p : Stack) → document_block (seen_block b) ≡ Some d
    → GoesOn d o p → Stepped b d o p
stepped (paragraph xs) d o p h g =
    let k = one-some documents.paragraph (document_inlines (seen_inlines xs)) d h in
    added d (documents.paragraph k.0) o p k.2 (plainly (nested_block (documents.paragraph k.0)) o p) g
stepped (heading level xs) d o p h g =
    let k = one-some (documents.heading level) (document_inlines (seen_inlines xs)) d h in
    added d (documents.heading level k.0) o p k.2 (plainly (nested_block (documents.heading level k.0)) o p) g
stepped (code_block language s) d o p h g =
    let x : documents.code_block language s ≡ d = cc in
    added d (documents.code_block language s) o p x (plainly (nested_block (documents.code_block language s)) o p) g
stepped (quote bs) d o p h g =
    let k = one-some documents.quote (document_blocks (seen_blocks bs)) d h in
    added d (documents.quote k.0) o p k.2 (plainly (nested_block (documents.quote k.0)) o p) g
stepped thematic_break d o p h g =
    let x : documents.thematic_break ≡ d = cc in
    added d documents.thematic_break o p x (plainly (nested_block documents.thematic_break) o p) g
stepped (list start tight items) d o p h g =
    let k = one-some (documents.list start tight) (document_items (seen_items items)) d h in
    added d (documents.list start tight k.0) o p k.2 (plainly (nested_block (documents.list start tight k.0)) o p) g
stepped (table alignments header rows) d o p h g =
    let k = two-some (documents.table alignments) (document_row (seen_row header)) (document_rows (seen_rows rows))
    d h in
    let own = documents.table alignments k.0 k.1 in
    added d own o p k.4 (plainly (nested_block own) o p) g
stepped (html_block s) d o p h g =
    let x : documents.tags s ≡ d = cc in subst (λ y. GoesOn y o p) (sym x) g

-- the names of what is open before a block
abbrev pub NamesBefore : Block → Option (List (List ℕ)) → Stack → Type 0
NamesBefore b left o = (ms : List (List ℕ)) × (names_with_html b left ≡ Some ms) × Matches ms o

added-names : (ns : List (List ℕ)) (o p : Stack) (e : documents.Block) → with_block o e ≡ p → Matches ns p
    → Matches ns o
added-names ns o p e k m = same-names ns o e (subst (Matches ns) (sym k) m)

step-names : (b : Block) (d : documents.Block) (o p : Stack) (left : Option (List (List ℕ))) (ns : List (List ℕ))
    → Stepped b d o p → left ≡ Some ns → Matches ns p → NamesBefore b left o
step-names (paragraph xs) d o p left ns k h m = (ns, h, added-names ns o p k.0 k.2 m)
step-names (heading level xs) d o p left ns k h m = (ns, h, added-names ns o p k.0 k.2 m)
step-names (code_block language s) d o p left ns k h m = (ns, h, added-names ns o p k.0 k.2 m)
step-names (quote bs) d o p left ns k h m = (ns, h, added-names ns o p k.0 k.2 m)
step-names thematic_break d o p left ns k h m = (ns, h, added-names ns o p k.0 k.2 m)
step-names (list start tight items) d o p left ns k h m = (ns, h, added-names ns o p k.0 k.2 m)
step-names (table alignments header rows) d o p left ns k h m = (ns, h, added-names ns o p k.0 k.2 m)
step-names (html_block s) d o p left ns k h m =
    let i = lines-names (lines_of s) o p ns k m in (i.0, ap (names_with_lines (lines_of s)) h ∙ i.1, i.2)

-- the first block of a flat document, and the others
pub record Parts (b : Block) (bs : Blocks) (flat : documents.Blocks) (o : Stack) (d : documents.Blocks) : Type 0 where
  pub first : documents.Block
  pub rest : documents.Blocks
  pub is_first : document_block (seen_block b) ≡ Some first
  pub is_rest : document_blocks (seen_blocks bs) ≡ Some rest
  pub are_both : documents.block first rest ≡ flat
  pub behind : Stack
  pub step : Stepped b first o behind
  pub goes_on : nested (Some behind) rest ≡ Some d

pub parts : (b : Block) (bs : Blocks) (flat : documents.Blocks) (o : Stack) (d : documents.Blocks)
    → document_blocks (seen_blocks (block b bs)) ≡ Some flat → nested (Some o) flat ≡ Some d
    → Parts b bs flat o d
parts b bs flat o d h n =
    let k = two-some documents.block (document_block (seen_block b)) (document_blocks (seen_blocks bs)) flat h in
    let m = kept (with_flat (Some o) k.0 (nested_block k.0)) k.1 d (ap (nested (Some o)) k.4 ∙ n) in
    record {
      first = k.0;
      rest = k.1;
      is_first = k.2;
      is_rest = k.3;
      are_both = k.4;
      behind = m.0;
      step = stepped b k.0 o m.0 k.2 m.1;
      goes_on = m.2;
    }

pub no-parts : (flat : documents.Blocks) (o : Stack) (d : documents.Blocks)
    → document_blocks (seen_blocks no_blocks) ≡ Some flat → nested (Some o) flat ≡ Some d → outside d ≡ o
no-parts flat o d h n = let x : documents.no_blocks ≡ flat = cc in last o d (ap (nested (Some o)) x ∙ n)

-- ---- blocks

-- the names of what is open here are those of end tags behind, and all pair
pub record Pairs (bs : Blocks) (o : Stack) : Type 0 where
  pub names : List (List ℕ)
  pub unopened : blocks_unopened bs ≡ Some names
  pub matches : Matches names o
  pub each : each_is_paired bs ≡ true

all-paired : (bs : Blocks) → Pairs bs (outside documents.no_blocks)
    → (is_nothing_left (blocks_unopened bs) && each_is_paired bs) ≡ true
all-paired bs i =
    and_from (is_nothing_left (blocks_unopened bs)) (each_is_paired bs)
    (ap is_nothing_left (i.unopened ∙ ap Some i.matches)) i.each

mutual
  block-pairs : (b : Block) (d : documents.Block) (o p : Stack) → document_block (seen_block b) ≡ Some d
      → Stepped b d o p → block_is_paired b ≡ true
  block-pairs (paragraph xs) d o p h s =
      let k = one-some documents.paragraph (document_inlines (seen_inlines xs)) d h in document-pairs xs k.0 k.1
  block-pairs (heading level xs) d o p h s =
      let k = one-some (documents.heading level) (document_inlines (seen_inlines xs)) d h in document-pairs xs k.0 k.1
  block-pairs (code_block language t) d o p h s = refl
  block-pairs (quote bs) d o p h s =
      let k = one-some documents.quote (document_blocks (seen_blocks bs)) d h in
      let m = one-some documents.quote (nested (Some (outside documents.no_blocks)) k.0) s.0
      (ap nested_block k.2 ∙ s.1) in
      all-paired bs (blocks-pair bs k.0 (outside documents.no_blocks) m.0 k.1 m.1)
  block-pairs thematic_break d o p h s = refl
  block-pairs (list start tight items) d o p h s =
      let k = one-some (documents.list start tight) (document_items (seen_items items)) d h in
      let m = one-some (documents.list start tight) (nested_items k.0) s.0 (ap nested_block k.2 ∙ s.1) in
      items-pair items k.0 m.0 k.1 m.1
  block-pairs (table alignments header rows) d o p h s =
      let k = two-some (documents.table alignments) (document_row (seen_row header)) (document_rows (seen_rows rows))
      d h in
      and_from (cells_are_paired header) (rows_are_paired rows) (row-pairs header k.0 k.2) (rows-pair rows k.1 k.3)
  block-pairs (html_block t) d o p h s = refl

  -- what is not opened here is open before
  pub blocks-pair : (bs : Blocks) (flat : documents.Blocks) (o : Stack) (d : documents.Blocks)
      → document_blocks (seen_blocks bs) ≡ Some flat → nested (Some o) flat ≡ Some d
      → Pairs bs o
  blocks-pair no_blocks flat o d h n =
      record { names = []; unopened = refl; matches = subst (Matches []) (no-parts flat o d h n) refl; each = refl }
  blocks-pair (block b bs) flat o d h n =
      let k = parts b bs flat o d h n in
      let i = blocks-pair bs k.rest k.behind d k.is_rest k.goes_on in
      let m = step-names b k.first o k.behind (blocks_unopened bs) i.names k.step i.unopened i.matches in
      record {
        names = m.0;
        unopened = m.1;
        matches = m.2;
        each = and_from (block_is_paired b) (each_is_paired bs)
            (block-pairs b k.first o k.behind k.is_first k.step) i.each;
      }

  items-pair : (items : Items) (d e : documents.Items) → document_items (seen_items items) ≡ Some d
      → nested_items d ≡ Some e → items_are_paired items ≡ true
  items-pair no_items d e h n = refl
  items-pair (item bs rest) d e h n =
      let k = two-some documents.item (document_blocks (seen_blocks bs)) (document_items (seen_items rest)) d h in
      let m = two-some documents.item (nested (Some (outside documents.no_blocks)) k.0) (nested_items k.1) e
      (ap nested_items k.4 ∙ n) in
      and_from (is_nothing_left (blocks_unopened bs) && each_is_paired bs) (items_are_paired rest)
      (all-paired bs (blocks-pair bs k.0 (outside documents.no_blocks) m.0 k.2 m.2)) (items-pair rest k.1 m.1 k.3 m.3)

pub seen-pairs : SeenIsPaired
seen-pairs s d e =
    let k = found (flat_document s) d e in
    all-paired (read s) (blocks-pair (read s) k.0 (outside documents.no_blocks) d k.1 k.2)
  where
    found : (o : Option documents.Blocks) (d : documents.Blocks) → nested_of o ≡ Some d
        → (flat : documents.Blocks) × (o ≡ Some flat) × (nested_document flat ≡ Some d)
    found None d e = absurd (cc)
    found (Some flat) d e = (flat, refl, e)
