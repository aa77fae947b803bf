-- What is closed, part after part, has the parts of the blocks that the definitions make of it.
use Rattle.std.proofs.Common.{◌≡◌, ℕ, Bool, true, false, List, [], ◌∷◌, ◌++◌, refl, sym, ap, ◌∙◌}
use Rattle.std.proofs.Common.{append_assoc, reverse, take, ◌-◌}
use Rattle.std.specs.Prelude.{Option, Some, None, not, ◌&&◌, ◌==◌, if◌then◌else◌}
use Rattle.std.proofs.lemmas.List.{reverse-append, reverse-reverse, append-nil}
use Rattle.htmd_commonmark_reading.specs.Boxes as box
use Rattle.htmd_commonmark_reading.specs.Boxes.{ClosedBlock, ClosedBlocks}
use Rattle.htmd_commonmark_reading.specs.Brackets.{References, inlines}
use Rattle.htmd_commonmark_reading.specs.Lists as spec
use Rattle.htmd_commonmark_reading.specs.Lists.{Gapped, no_gapped, shown, hidden, listed, plain, with_item, gapped}
use Rattle.htmd_commonmark_reading.specs.Lists.{item_gapped, with_closed_block, cell_inlines, row_inlines}
use Rattle.htmd_commonmark_reading.specs.Markup.{Block, Blocks, Items, no_items, item, paragraph, heading, code_block}
use Rattle.htmd_commonmark_reading.specs.Markup.{thematic_break, html_block, table, quote}
use Rattle.htmd_commonmark_reader.specs.ClosedParts.{ClosedPart, begin, end, definition, single, closed_parts}
use Rattle.htmd_commonmark_reader.specs.ClosedParts.{part_of, parts_of}
use Rattle.htmd_commonmark_reader.specs.ItemMarks.{first_mark, survey}
use Rattle.htmd_commonmark_reader.specs.Places.{Place, placed, place_after, is_tight_in, innermost, step_parts}
use Rattle.htmd_commonmark_reader.specs.Places.{entered, list_begun, box_ended, list_behind}
use Rattle.htmd_commonmark_reader.specs.Places.{text_of, leaf_parts, run_parts}
use Rattle.htmd_commonmark_reader.specs.declared.closed.Closed.{Closed}
use Rattle.htmd_commonmark_reader.specs.declared.block_parts.OpenBox.{OpenBox}
use Rattle.htmd_commonmark_reader.specs.declared.block_parts.OpenBox.TheVariants.{Quote, Item}
use Rattle.htmd_commonmark_reader.specs.declared.block_parts.OpenList.{OpenList}
use Rattle.htmd_commonmark_reader.specs.declared.lists.ItemMark.{ItemMark}
use Rattle.htmd_commonmark_reader.proofs.ItemMarksLemmas.{ahead_of, inner-gap, mark_of, marks_in, marks-of}
use Rattle.htmd_commonmark_reader.proofs.TablePartsLemmas.{inlines-more, table-more}
use Rattle.htmd_parts.specs.PartViews.{all_parts_of}
use Rattle.htmd_parts.specs.Parts as part
use Rattle.htmd_parts.specs.Parts.{Part, begun, ended, block_parts, blocks_parts, items_parts}
use Rattle.htmd_parts.specs.declared.parts.Part as declared_part

-- the parts of blocks, where a list may go on with one that has begun
abbrev going_on : Option OpenList → Bool → Gapped → List Part → List Part
going_on None t x out = blocks_parts t (plain x) out
going_on (Some l) t no_gapped out = out
going_on (Some l) t (shown g b rest) out = blocks_parts t (plain (shown g b rest)) out
going_on (Some l) t (hidden g rest) out = blocks_parts t (plain (hidden g rest)) out
going_on (Some l) t (listed g sign start is_tight items rest) out =
    items_parts l.is_tight items (ended (part.list_end l.is_numbered) ∷ blocks_parts t (plain rest) out)

-- the blocks of a container, or of an item
abbrev gapped_in : Bool → References → ClosedBlocks → Gapped
gapped_in true refs ps = item_gapped refs ps
gapped_in false refs ps = gapped refs ps

first-block : (f : Bool) (refs : References) (g : Bool) (p : ClosedBlock) (ps : ClosedBlocks)
    → with_closed_block refs (text_of f refs) g p (gapped refs ps) ≡ gapped_in f refs (box.closed_block g p ps)
first-block true refs g p ps = refl
first-block false refs g p ps = refl

shows : (l : Option OpenList) (t g : Bool) (b : Block) (x : Gapped) (out : List Part)
    → block_parts t b (blocks_parts t (plain x) out) ≡ going_on l t (shown g b x) out
shows None t g b x out = refl
shows (Some l) t g b x out = refl

hides : (l : Option OpenList) (t g : Bool) (x : Gapped) (out : List Part)
    → blocks_parts t (plain x) out ≡ going_on l t (hidden g x) out
hides None t g x out = refl
hides (Some l) t g x out = refl

-- ---- an item

-- an item, the blocks behind it, and what ends its list
abbrev item_run : Option OpenList → Bool → Option ℕ → ItemMark → Gapped → Gapped → List Part → List Part
item_run l t number m content rest out =
    let o : OpenBox = Item (entered l number m.is_tight) m.goes_on in
    list_begun l number m.is_tight (begun part.item
    ∷ blocks_parts (entered l number m.is_tight).is_tight (plain content)
    (box_ended (Some o) (going_on (list_behind (Some o)) t rest out)))

abbrev marked : Bool → Bool → ItemMark
marked t goes = record { is_tight = t; goes_on = goes }

same-list : (number : Option ℕ) (bs : Blocks) (items : Items) (out : List Part) {x y : Bool} → x ≡ y
    → begun (part.list number x) ∷ items_parts x (item bs items)
    (ended (part.list_end (part.is_numbered number)) ∷ out)
    ≡ begun (part.list number y) ∷ items_parts y (item bs items)
    (ended (part.list_end (part.is_numbered number)) ∷ out)
same-list number bs items out e = ap (λ t. begun (part.list number t)
    ∷ items_parts t (item bs items) (ended (part.list_end (part.is_numbered number)) ∷ out)) e

alone : (l : Option OpenList) (t g : Bool) (sign : ℕ) (number : Option ℕ) (content rest : Gapped) (out : List Part)
    → list_begun l number (not (ahead_of content).inner_gap) (begun part.item
    ∷ blocks_parts (entered l number (not (ahead_of content).inner_gap)).is_tight (plain content)
    (ended part.item_end ∷ ended (part.list_end (entered l number (not (ahead_of content).inner_gap)).is_numbered)
    ∷ blocks_parts t (plain rest) out))
    ≡ going_on l t (spec.one_item g sign number content rest) out
alone None t g sign number content rest out =
    same-list number (plain content) no_items (blocks_parts t (plain rest) out) (sym (ap not (inner-gap content)))
alone (Some k) t g sign number content rest out = refl

either : (b : Bool) (l : Option OpenList) (t g h u : Bool) (sign other : ℕ) (number start : Option ℕ)
    (content more : Gapped) (items : Items) (out : List Part)
    → item_run l t number (marked (if b then not (ahead_of content).inner_gap && not h && u
    else not (ahead_of content).inner_gap) b) content (listed h other start u items more) out
    ≡ going_on l t (if b
    then listed g sign number (not (spec.inner_gap content) && not h && u) (item (plain content) items) more
    else spec.one_item g sign number content (listed h other start u items more)) out
either true None t g h u sign other number start content more items out =
    same-list number (plain content) items (blocks_parts t (plain more) out)
    (ap (λ x. not x && not h && u) (sym (inner-gap content)))
either true (Some k) t g h u sign other number start content more items out = refl
either false l t g h u sign other number start content more items out =
    alone l t g sign number content (listed h other start u items more) out

item-step : (l : Option OpenList) (t g : Bool) (sign : ℕ) (number : Option ℕ) (content rest : Gapped)
    (out : List Part)
    → item_run l t number (mark_of sign content rest) content rest out
    ≡ going_on l t (with_item g sign number content rest) out
item-step l t g sign number content no_gapped out = alone l t g sign number content no_gapped out
item-step l t g sign number content (shown h b rest) out = alone l t g sign number content (shown h b rest) out
item-step l t g sign number content (hidden h rest) out = alone l t g sign number content (hidden h rest) out
item-step l t g sign number content (listed h other start u items rest) out =
    either (sign == other) l t g h u sign other number start content rest items out

-- ---- all blocks

runs : (refs : References) (ps : ClosedBlocks) (cs : List ClosedPart) (bs : List OpenBox) (l : Option OpenList)
    (f : Bool) (ms : List ItemMark) (out : List Part)
    → ((k : Option OpenList) (h : Bool) → run_parts refs (placed bs k h ms) cs ≡ out)
    → run_parts refs (placed bs l f (marks_in refs ps ms)) (closed_parts ps cs)
    ≡ going_on l (is_tight_in bs) (gapped_in f refs ps) out
runs refs box.no_closed_blocks cs bs l f ms out h = h l f ∙ nothing_more l f
  where
    nothing_more : (l : Option OpenList) (f : Bool)
        → out ≡ going_on l (is_tight_in bs) (gapped_in f refs box.no_closed_blocks) out
    nothing_more None true = refl
    nothing_more None false = refl
    nothing_more (Some k) true = refl
    nothing_more (Some k) false = refl
runs refs (box.closed_block g (box.text s) ps) cs bs l f ms out h =
    let t = is_tight_in bs in
    ap (leaf_parts refs f t (box.text s)) (runs refs ps cs bs None false ms out h)
    ∙ shows l t g (paragraph (text_of f refs s)) (gapped refs ps) out
    ∙ ap (λ x. going_on l t x out) (first-block f refs g (box.text s) ps)
runs refs (box.closed_block g (box.headed level s) ps) cs bs l f ms out h =
    let t = is_tight_in bs in
    ap (leaf_parts refs f t (box.headed level s)) (runs refs ps cs bs None false ms out h)
    ∙ shows l t g (heading level (inlines refs s)) (gapped refs ps) out
    ∙ ap (λ x. going_on l t x out) (first-block f refs g (box.headed level s) ps)
runs refs (box.closed_block g (box.code language s) ps) cs bs l f ms out h =
    let t = is_tight_in bs in
    ap (leaf_parts refs f t (box.code language s)) (runs refs ps cs bs None false ms out h)
    ∙ shows l t g (code_block language s) (gapped refs ps) out
    ∙ ap (λ x. going_on l t x out) (first-block f refs g (box.code language s) ps)
runs refs (box.closed_block g box.rule ps) cs bs l f ms out h =
    let t = is_tight_in bs in
    ap (leaf_parts refs f t box.rule) (runs refs ps cs bs None false ms out h)
    ∙ shows l t g thematic_break (gapped refs ps) out
    ∙ ap (λ x. going_on l t x out) (first-block f refs g box.rule ps)
runs refs (box.closed_block g (box.html s) ps) cs bs l f ms out h =
    let t = is_tight_in bs in
    ap (leaf_parts refs f t (box.html s)) (runs refs ps cs bs None false ms out h)
    ∙ shows l t g (html_block s) (gapped refs ps) out
    ∙ ap (λ x. going_on l t x out) (first-block f refs g (box.html s) ps)
runs refs (box.closed_block g (box.grid alignments header rows) ps) cs bs l f ms out h =
    let t = is_tight_in bs in
    ap (leaf_parts refs f t (box.grid alignments header rows)) (runs refs ps cs bs None false ms out h)
    ∙ shows l t g (table alignments (cell_inlines refs header) (row_inlines refs rows)) (gapped refs ps) out
    ∙ ap (λ x. going_on l t x out) (first-block f refs g (box.grid alignments header rows) ps)
runs refs (box.closed_block g (box.defined d) ps) cs bs l f ms out h =
    let t = is_tight_in bs in
    runs refs ps cs bs None false ms out h
    ∙ hides l t g (gapped refs ps) out
    ∙ ap (λ x. going_on l t x out) (first-block f refs g (box.defined d) ps)
runs refs (box.closed_block g (box.boxed box.quoting qs) ps) cs bs l f ms out h =
    let t = is_tight_in bs in
    ap (λ r. begun part.quote ∷ r) (runs refs qs (end ∷ closed_parts ps cs) (Quote ∷ bs) None false
    (marks_in refs ps ms) (ended part.quote_end ∷ blocks_parts t (plain (gapped refs ps)) out)
    (λ _ _. ap (λ r. ended part.quote_end ∷ r) (runs refs ps cs bs None false ms out h)))
    ∙ shows l t g (quote (plain (gapped refs qs))) (gapped refs ps) out
    ∙ ap (λ x. going_on l t x out) (first-block f refs g (box.boxed box.quoting qs) ps)
runs refs (box.closed_block g (box.boxed (box.listing sign number columns) qs) ps) cs bs l f ms out h =
    let t = is_tight_in bs in
    let m = mark_of sign (item_gapped refs qs) (gapped refs ps) in
    let o : OpenBox = Item (entered l number m.is_tight) m.goes_on in
    ap (λ r. list_begun l number m.is_tight (begun part.item ∷ r))
    (runs refs qs (end ∷ closed_parts ps cs) (o ∷ bs)
    None true (marks_in refs ps ms) (box_ended (Some o) (going_on (list_behind (Some o)) t (gapped refs ps) out))
    (λ _ _. ap (box_ended (Some o)) (runs refs ps cs bs (list_behind (Some o)) false ms out h)))
    ∙ item-step l t g sign number (item_gapped refs qs) (gapped refs ps) out
    ∙ ap (λ x. going_on l t x out) (first-block f refs g (box.boxed (box.listing sign number columns) qs) ps)

pub whole : (refs : References) (ps : ClosedBlocks)
    → run_parts refs (placed [] None false (marks_in refs ps [])) (closed_parts ps [])
    ≡ part.parts_of (plain (gapped refs ps))
whole refs ps = runs refs ps [] [] None false [] [] (λ _ _. refl)

-- ---- one after the other

list-more : (l : Option OpenList) (number : Option ℕ) (t : Bool) (out rest : List Part)
    → list_begun l number t (out ++ rest) ≡ list_begun l number t out ++ rest
list-more None number t out rest = refl
list-more (Some k) number t out rest = refl

ended-more : (b : Option OpenBox) (out rest : List Part) → box_ended b (out ++ rest) ≡ box_ended b out ++ rest
ended-more None out rest = refl
ended-more (Some Quote) out rest = refl
ended-more (Some (Item l true)) out rest = refl
ended-more (Some (Item l false)) out rest = refl

leaf-more : (refs : References) (f t : Bool) (p : ClosedBlock) (rest : List Part)
    → leaf_parts refs f t p rest ≡ leaf_parts refs f t p [] ++ rest
leaf-more refs f t (box.text s) rest =
    ap (λ l. begun (part.paragraph t) ∷ l)
    (inlines-more (text_of f refs s) (ended (part.paragraph_end t) ∷ []) rest)
leaf-more refs f t (box.headed level s) rest =
    ap (λ l. begun (part.heading level) ∷ l)
    (inlines-more (inlines refs s) (ended (part.heading_end level) ∷ []) rest)
leaf-more refs f t (box.code language s) rest = refl
leaf-more refs f t box.rule rest = refl
leaf-more refs f t (box.html s) rest = refl
leaf-more refs f t (box.grid alignments header rows) rest =
    table-more alignments (cell_inlines refs header) (row_inlines refs rows) [] rest
leaf-more refs f t (box.defined d) rest = refl
leaf-more refs f t (box.boxed kind ps) rest = refl

step-more : (refs : References) (p : Place) (c : ClosedPart) (rest : List Part)
    → step_parts refs p c rest ≡ step_parts refs p c [] ++ rest
step-more refs p (begin g box.quoting) rest = refl
step-more refs p (begin g (box.listing sign number columns)) rest =
    list-more p.list number (first_mark p.marks).is_tight (begun part.item ∷ []) rest
step-more refs p end rest = ended-more (innermost p.boxes) [] rest
step-more refs p (definition g) rest = refl
step-more refs p (single g b) rest = leaf-more refs p.is_first (is_tight_in p.boxes) b rest

-- what is to come behind what has been, with these blocks left, the first one last
abbrev pub all_from : References → Place → List Closed → List Part → List Part
all_from refs p blocks out = out ++ run_parts refs p (parts_of (reverse blocks))

pub run-turn : (refs : References) (p q : Place) (out now total : List Part) (blocks left : List Closed) (b : Closed)
    → blocks ≡ left ++ b ∷ [] → q ≡ place_after p (part_of b)
    → now ≡ out ++ step_parts refs p (part_of b) []
    → all_from refs p blocks out ≡ total → all_from refs q left now ≡ total
run-turn refs p q out now total blocks left b e k n h =
    let c = part_of b in
    let reversed : reverse blocks ≡ b ∷ reverse left = ap reverse e ∙ reverse-append left (b ∷ []) in
    let more = run_parts refs (place_after p c) (parts_of (reverse left)) in
    ap (λ r. now ++ run_parts refs r (parts_of (reverse left))) k
    ∙ ap (λ l. l ++ more) n ∙ append_assoc out (step_parts refs p c []) more
    ∙ ap (λ l. out ++ l) (sym (step-more refs p c more))
    ∙ ap (λ l. out ++ run_parts refs p (parts_of l)) (sym reversed)
    ∙ h

none-left : (xs ys : List Closed) (n : ℕ) → n ≡ 0 → ys ≡ take (n - 1) xs → xs ≡ ys ++ [] → xs ≡ []
none-left xs ys n e k h = h ∙ append-nil ys ∙ k ∙ ap (λ m. take (m - 1) xs) e

module _ (refs : References) (blocks : List Closed) (marks : List ItemMark)
    (known : reverse marks ≡ (survey (parts_of blocks)).marks) where
  first-run : (bs : List OpenBox) (ys : List Closed) (xs : List declared_part.Part) → bs ≡ []
      → ys ≡ reverse blocks
      → xs ≡ [] → all_from refs (placed (reverse bs) None false (reverse marks)) ys (all_parts_of xs)
      ≡ run_parts refs (placed [] None false (survey (parts_of blocks)).marks) (parts_of blocks)
  first-run bs ys xs e k h =
      ap (λ l. all_from refs (placed (reverse bs) None false (reverse marks)) ys (all_parts_of l)) h
      ∙ ap (λ l. run_parts refs (placed (reverse l) None false (reverse marks)) (parts_of (reverse ys))) e
      ∙ ap (λ l. run_parts refs (placed [] None false (reverse marks)) (parts_of l))
      (ap reverse k ∙ reverse-reverse blocks)
      ∙ ap (λ l. run_parts refs (placed [] None false l) (parts_of blocks)) known

  pub run-end : (bs : List OpenBox) (ys left rest : List Closed) (xs : List declared_part.Part) (n : ℕ) (p : Place)
      (out : List Part) → bs ≡ [] → ys ≡ reverse blocks → xs ≡ [] → n ≡ 0 → rest ≡ take (n - 1) left
      → left ≡ rest ++ [] → all_from refs p left out
      ≡ all_from refs (placed (reverse bs) None false (reverse marks)) ys (all_parts_of xs)
      → (ps : ClosedBlocks) → parts_of blocks ≡ closed_parts ps []
      → out ≡ part.parts_of (plain (gapped refs ps))
  run-end bs ys left rest xs n p out e k h none taken popped all ps is =
      sym (append-nil out)
      ∙ ap (λ l. all_from refs p l out) (sym (none-left left rest n none taken popped))
      ∙ all ∙ first-run bs ys xs e k h
      ∙ ap (λ cs. run_parts refs (placed [] None false (survey cs).marks) cs) is
      ∙ ap (λ ms. run_parts refs (placed [] None false ms) (closed_parts ps [])) (marks-of refs ps)
      ∙ whole refs ps
