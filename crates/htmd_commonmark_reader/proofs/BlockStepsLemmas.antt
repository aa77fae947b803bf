-- What becomes of a box with each line.
use Rattle.std.proofs.Common.{◌≡◌, ◌∙◌, ℕ, ◌&&◌, Bool, true, false, List, [], ◌∷◌, ◌++◌, length}
use Rattle.std.proofs.Common.{nat_lt, map, arith, Option, Some, None, refl, ap, ap₂, sym, subst, if◌then◌else◌}
use Rattle.htmd_commonmark_reading.specs.Lines.{Line, is_blank, spaces}
use Rattle.htmd_commonmark_reading.specs.Boxes.{ClosedBlock, ClosedBlocks, Open, nothing, leaf, Box}
use Rattle.htmd_commonmark_reading.specs.Boxes.{box, joined, one_closed_block}
use Rattle.htmd_document.specs.declared.document.Alignment.{Alignment}
use Rattle.htmd_commonmark_reading.specs.Boxes as boxes
use Rattle.htmd_commonmark_reading.specs.Boxes.{Leaf, closed, closed_leaf, was_blank, paragraph, raw, table, text}
use Rattle.htmd_commonmark_reading.specs.Boxes.{joined_lines}
use Rattle.htmd_commonmark_reading.specs.LinkDefinitions.{definitions}
use Rattle.htmd_commonmark_reader.specs.ClosedParts.{kind_of, parts_of}
use Rattle.htmd_commonmark_reader.specs.Definitions.{held_of}
use Rattle.htmd_commonmark_reader.specs.OpenLeaves.{are_none, IsLeaf}
use Rattle.htmd_commonmark_reading.specs.BlockStarts.{Start, no_start, whole, first_line, opened, has_end}
use Rattle.htmd_commonmark_reading.specs.Containers.{lazily, left}
use Rattle.htmd_commonmark_reading.specs.LeafBlocks.{begun, is_header}
use Rattle.htmd_commonmark_reading.specs.LeafBlocks as leaves
use Rattle.htmd_commonmark_reading.specs.Tables.{cells}
use Rattle.htmd_commonmark_reader.specs.HtmlBlocks.{are_no_ends}
use Rattle.htmd_commonmark_reader.specs.LineStarts.{start_of, is_nothing}
use Rattle.htmd_commonmark_reader.specs.declared.starts.LineStart.{LineStart}
use Rattle.htmd_commonmark_reader.specs.declared.starts.LineStart.TheVariants.{Nothing, Code, Heading, Fence, Html}
use Rattle.htmd_commonmark_reader.specs.declared.starts.LineStart.TheVariants.{Rule, Quote, Item}
use Rattle.htmd_commonmark_reader.specs.OpenBlocks.{Before, Holds, HoldsBox, Closes, before_table, table_row}
use Rattle.htmd_commonmark_reader.specs.declared.blocks.Blocks.{Blocks}
use Rattle.std.proofs.lemmas.Bool.Decides.{nat_tests}
use Rattle.htmd_commonmark_reader.proofs.OpenBlocksLemmas.{added}
use Rattle.htmd_commonmark_reader.proofs.OpenLeavesLemmas.{cells_spaces}

-- the box where a condition decides
pub box_true : (p : Before) (x y : Box) (b : Bool) (n : Blocks) → b ≡ true → HoldsBox p x n
    → HoldsBox p (if b then x else y) n
box_true p x y b n e h =
    let same : x ≡ (if b then x else y) = rw e refl in subst (λ z. HoldsBox p z n) same h

pub box_false : (p : Before) (x y : Box) (b : Bool) (n : Blocks) → b ≡ false → HoldsBox p y n
    → HoldsBox p (if b then x else y) n
box_false p x y b n e h =
    let same : y ≡ (if b then x else y) = rw e refl in subst (λ z. HoldsBox p z n) same h

-- what is closed, by the gap before it
pub closed_by : (p : Before) (done : ClosedBlocks) (g : Bool) (qs : Bool → ClosedBlocks) (w : Bool → Bool)
    (old new : Blocks) → Holds p done g nothing old → Closes (qs old.gap) (w old.gap) old new
    → Holds p (joined done (qs g)) (w g) nothing new
closed_by p done g qs w old new h c =
    added p done (qs g) g (w g) old new h (subst (λ b. Closes (qs b) (w b) old new) h.gap c)

-- one block
pub closed_one : (p : Before) (done : ClosedBlocks) (g h : Bool) (b c : ClosedBlock) (old new : Blocks)
    → Holds p done g nothing old → b ≡ c → Closes (one_closed_block old.gap b) h old new
    → Holds p (joined done (one_closed_block g c)) h nothing new
closed_one p done g h b c old new x e y =
    subst (λ d. Holds p (joined done (one_closed_block g d)) h nothing new) e
    (closed_by p done g (λ k. one_closed_block k b) (λ _. h) old new x y)

-- ---- what a line starts

abbrev pub is_no_start : Start → Bool
is_no_start no_start = true
is_no_start (whole p) = false
is_no_start (first_line o) = false

pub nothing_starts : (l : Line) (s : LineStart) → is_nothing s ≡ true → start_of l s ≡ no_start
nothing_starts l Nothing e = refl
nothing_starts l (Code c) e = absurd (cc)
nothing_starts l (Heading h) e = absurd (cc)
nothing_starts l (Fence f) e = absurd (cc)
nothing_starts l (Html end is_whole) e = absurd (cc)
nothing_starts l Rule e = absurd (cc)
nothing_starts l (Quote r) e = absurd (cc)
nothing_starts l (Item sign number i) e = absurd (cc)

pub something_starts : (l : Line) (s : LineStart) → is_nothing s ≡ is_no_start (start_of l s)
something_starts l Nothing = refl
something_starts l (Code c) = refl
something_starts l (Heading h) = refl
something_starts l (Fence f) = refl
something_starts l (Html end true) = refl
something_starts l (Html end false) = refl
something_starts l Rule = refl
something_starts l (Quote r) = refl
something_starts l (Item sign number i) = refl

pub text_other : (done : ClosedBlocks) (g : Bool) (ls : List (List ℕ)) (s : List ℕ) (l : Line) (t : Start)
    → is_no_start t ≡ false
    → opened (joined done (closed_leaf g (paragraph ls s))) false l t ≡ leaves.on_text done g ls s l t
text_other done g ls s l no_start e = absurd (cc)
text_other done g ls s l (whole p) e = refl
text_other done g ls s l (first_line o) e = refl

pub left_other : (b : Bool) (done : ClosedBlocks) (g : Bool) (o : Open) (l : Line) (t : Start)
    → (b && is_no_start t) ≡ false
    → begun (joined done (closed g o)) (was_blank g o) l t ≡ left b done g o l t
left_other false done g o l t e = refl
left_other true done g o l no_start e = absurd (cc)
left_other true done g o l (whole p) e = refl
left_other true done g o l (first_line i) e = refl

pub left_lazy : (b : Bool) (done : ClosedBlocks) (g : Bool) (o : Open) (l : Line) (t : Start)
    → (b && is_no_start t) ≡ true → box done g (lazily o l) ≡ left b done g o l t
left_lazy false done g o l t e = absurd (cc)
left_lazy true done g o l no_start e = refl
left_lazy true done g o l (whole p) e = absurd (cc)
left_lazy true done g o l (first_line i) e = absurd (cc)

-- ---- leaves

pub html_box : (done : ClosedBlocks) (g : Bool) (ends ls : List (List ℕ)) (l : Line)
    → (if are_no_ends ends && is_blank l
    then box (joined done (closed_leaf g (raw ends ls))) true nothing
    else if has_end ends l.text
    then leaves.ended done g (raw ends (ls ++ (l.text ∷ [])))
    else leaves.with_leaf done g (raw ends (ls ++ (l.text ∷ []))))
    ≡ leaves.on_html done g ends ls l
html_box done g [] ls l = refl
html_box done g (e ∷ es) ls l = refl

-- under a paragraph, by the alignments of a table's row
abbrev pub by_row : ClosedBlocks → Bool → List (List ℕ) → List ℕ → Line → Option (List Alignment) → Box
by_row done g ls s l None = leaves.with_leaf done g (leaves.longer ls s l)
by_row done g ls s l (Some a) = leaves.table_after done g ls s a

row_if : (done : ClosedBlocks) (g : Bool) (ls : List (List ℕ)) (s : List ℕ) (l : Line) (a : List Alignment)
    (h : Bool)
    → by_row done g ls s l (if h then Some a else None)
    ≡ (if h then leaves.table_after done g ls s a else leaves.with_leaf done g (leaves.longer ls s l))
row_if done g ls s l a true = refl
row_if done g ls s l a false = refl

pub row_box : (done : ClosedBlocks) (g : Bool) (ls : List (List ℕ)) (s : List ℕ) (l : Line)
    (o : Option (List Alignment)) → by_row done g ls s l (table_row s o) ≡ leaves.table_or_text done g ls s l o
row_box done g ls s l None = refl
row_box done g ls s l (Some a) = row_if done g ls s l a (is_header s a)

some_row : (cs : List (List ℕ)) → nat_lt 0 (length cs) ≡ leaves.is_row cs no_start
some_row [] = refl
some_row (c ∷ cs) = grind (arith, nat_tests)

pub row_test : (n : ℕ) (r : List ℕ) (count : ℕ) (t : Start) → count ≡ length (cells r) → t ≡ no_start
    → nat_lt 0 count ≡ leaves.is_row (cells (spaces n r)) t
row_test n r count t e f =
    ap (nat_lt 0) e ∙ some_row (cells r)
    ∙ ap₂ leaves.is_row (sym (cells_spaces n r)) (sym f)

-- ---- a leaf that is open now

-- all but the leaf is as it was
pub record Keeps (old new : Blocks) : Type 0 where
  pub closed_is : new.closed ≡ old.closed
  pub definitions_are : new.definitions ≡ old.definitions
  pub boxes_are : new.boxes ≡ old.boxes
  pub none : new.is_empty ≡ old.is_empty
  pub gap_is : new.gap ≡ old.gap

pub set_leaf : (p : Before) (done : ClosedBlocks) (g : Bool) (f : Leaf) (old new : Blocks)
    → Holds p done g nothing old → Keeps old new → IsLeaf new.leaf (leaf f) → Holds p done g (leaf f) new
set_leaf p done g f old new h k i = record {
  parts = ap (λ v. parts_of v.items) k.closed_is ∙ h.parts;
  found = ap (λ v. map held_of v.items) k.definitions_are ∙ h.found;
  kinds = ap (λ v. map kind_of v.kinds.items) k.boxes_are ∙ h.kinds;
  none = k.none ∙ h.none;
  gap = k.gap_is ∙ h.gap;
  inner = i;
}

-- ---- tables

pub earlier_none : (p : Before) (done : ClosedBlocks) (g : Bool) (ls : List (List ℕ)) (x : Blocks)
    → are_none ls ≡ true → Holds p done g nothing x → HoldsBox p (before_table done g ls) x
earlier_none p done g [] x e h = h
earlier_none p done g (l ∷ ls) x e h = absurd (cc)

pub earlier_some : (p : Before) (done : ClosedBlocks) (g : Bool) (ls : List (List ℕ)) (old new : Blocks)
    → are_none ls ≡ false → Holds p done g nothing old
    → Closes (boxes.parts_of old.gap text (definitions (joined_lines ls))) false old new
    → HoldsBox p (before_table done g ls) new
earlier_some p done g [] old new e h c = absurd (cc)
earlier_some p done g (l ∷ ls) old new e h c =
    closed_by p done g (λ b. boxes.parts_of b text (definitions (joined_lines (l ∷ ls)))) (λ _. false) old new h c

pub table_set : (p : Before) (done : ClosedBlocks) (g : Bool) (ls : List (List ℕ)) (s : List ℕ)
    (a : List Alignment) (old new : Blocks) → HoldsBox p (before_table done g ls) old → Keeps old new
    → IsLeaf new.leaf (leaf (table a (cells s) [])) → HoldsBox p (leaves.table_after done g ls s a) new
table_set p done g [] s a old new h k i = set_leaf p done g (table a (cells s) []) old new h k i
table_set p done g (l ∷ ls) s a old new h k i =
    set_leaf p (joined done (boxes.parts_of g text (definitions (joined_lines (l ∷ ls))))) false
    (table a (cells s) []) old new h k i

-- a blank line follows
pub gap_set : (p : Before) (done : ClosedBlocks) (g h : Bool) (b : Blocks) → Holds p done g nothing b
    → Holds p done h nothing (record {
      closed = b.closed;
      definitions = b.definitions;
      boxes = b.boxes;
      is_empty = b.is_empty;
      gap = h;
      leaf = b.leaf;
    })
gap_set p done g h b x = record {
  parts = x.parts;
  found = x.found;
  kinds = x.kinds;
  none = x.none;
  gap = refl;
  inner = x.inner;
}
