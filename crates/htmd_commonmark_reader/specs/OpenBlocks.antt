-- What is closed and what is open, as the reader holds it: of open blocks what is closed in one flat list, the
-- containers that are open, and what is so in the innermost one.
use Rattle.std.specs.Prelude.{◌≡◌, ℕ, zero, suc, Bool, true, false, ◌&&◌, List, [], ◌∷◌, ◌++◌, map}
use Rattle.std.specs.Prelude.{◌-◌, if◌then◌else◌, length, take, drop, replicate, Option, Some, None}
use Rattle.htmd_document.specs.declared.document.Alignment.{Alignment}
use Rattle.htmd_commonmark_reading.specs.LeafBlocks.{is_header}
use Rattle.htmd_commonmark_reading.specs.LinkDefinitions.{Definition, definitions}
use Rattle.htmd_commonmark_reading.specs.Lines.{Line}
use Rattle.htmd_commonmark_reading.specs.Boxes.{Container, quoting, listing, ClosedBlock, text, headed, ClosedBlocks}
use Rattle.htmd_commonmark_reading.specs.Boxes as boxes
use Rattle.htmd_commonmark_reading.specs.Boxes.{box, joined_lines}
use Rattle.htmd_commonmark_reading.specs.Boxes.{no_closed_blocks, closed_block, Open, nothing, leaf, within, Box}
use Rattle.htmd_commonmark_reading.specs.Boxes.{joined}
use Rattle.htmd_commonmark_reading.specs.Containers.{taken}
use Rattle.htmd_commonmark_reading.specs.Lists.{collected}
use Rattle.htmd_commonmark_reader.specs.ClosedParts.{ClosedPart, begin, end, definition, closed_parts, parts_of}
use Rattle.htmd_commonmark_reader.specs.ClosedParts.{kind_of}
use Rattle.htmd_commonmark_reader.specs.Definitions.{held_of, encoded}
use Rattle.htmd_commonmark_reader.specs.OpenLeaves.{IsLeaf}
use Rattle.htmd_commonmark_reader.specs.declared.blocks.Blocks.{Blocks}

-- ---- the open blocks of a box

abbrev pub open_parts : ClosedBlocks → Bool → Open → List ClosedPart
open_parts done g nothing = closed_parts done []
open_parts done g (leaf f) = closed_parts done []
open_parts done g (within k d h o) = closed_parts done (begin g k ∷ open_parts d h o)

abbrev pub open_found : ClosedBlocks → Open → List Definition
open_found done nothing = collected done
open_found done (leaf f) = collected done
open_found done (within k d h o) = collected done ++ open_found d o

abbrev pub open_kinds : Open → List Container
open_kinds nothing = []
open_kinds (leaf f) = []
open_kinds (within k d h o) = k ∷ open_kinds o

abbrev pub is_none : ClosedBlocks → Bool
is_none no_closed_blocks = true
is_none (closed_block g p ps) = false

-- nothing is closed in the innermost container
abbrev pub inner_none : ClosedBlocks → Open → Bool
inner_none done nothing = is_none done
inner_none done (leaf f) = is_none done
inner_none done (within k d h o) = inner_none d o

abbrev pub inner_gap : Bool → Open → Bool
inner_gap g nothing = g
inner_gap g (leaf f) = g
inner_gap g (within k d h o) = inner_gap h o

-- what is open there
abbrev pub inner_leaf : Open → Open
inner_leaf nothing = nothing
inner_leaf (leaf f) = leaf f
inner_leaf (within k d h o) = inner_leaf o

-- ---- a box that is in others

-- what is closed before the content of a box, and the containers that the box is in
pub record Before : Type 0 where
  pub parts : List ClosedPart
  pub found : List Definition
  pub kinds : List Container

abbrev pub nothing_before : Before
nothing_before = record { parts = []; found = []; kinds = [] }

-- before the content of a container that is open in a box
abbrev pub deeper : Before → ClosedBlocks → Bool → Container → Before
deeper p done g k = record {
  parts = p.parts ++ closed_parts done (begin g k ∷ []);
  found = p.found ++ collected done;
  kinds = p.kinds ++ (k ∷ []);
}

-- the reader holds this box
pub record Holds (p : Before) (done : ClosedBlocks) (g : Bool) (o : Open) (b : Blocks) : Type 0 where
  pub parts : parts_of b.closed.items ≡ p.parts ++ open_parts done g o
  pub found : map held_of b.definitions.items ≡ map encoded (p.found ++ open_found done o)
  pub kinds : map kind_of b.boxes.kinds.items ≡ p.kinds ++ open_kinds o
  pub none : b.is_empty ≡ inner_none done o
  pub gap : b.gap ≡ inner_gap g o
  pub inner : IsLeaf b.leaf (inner_leaf o)

abbrev pub HoldsBox : Before → Box → Blocks → Type 0
HoldsBox p x b = Holds p x.done x.gap x.inner b

-- ---- what is closed

-- these blocks are closed, and this is the gap after them
pub record Closes (ps : ClosedBlocks) (g : Bool) (old new : Blocks) : Type 0 where
  pub parts : parts_of new.closed.items ≡ parts_of old.closed.items ++ closed_parts ps []
  pub found : map held_of new.definitions.items ≡ map held_of old.definitions.items ++ map encoded (collected ps)
  pub boxes : new.boxes ≡ old.boxes
  pub none : new.is_empty ≡ (old.is_empty && is_none ps)
  pub gap : new.gap ≡ g
  pub inner : new.leaf ≡ old.leaf

-- what is so before something, and not behind it
abbrev pub before_first : Bool → ℕ → Bool
before_first b zero = b
before_first b (suc n) = false

abbrev pub definition_marks : Bool → ℕ → List ClosedPart
definition_marks g zero = []
definition_marks g (suc n) = definition_marks g n ++ (definition (before_first g n) ∷ [])

-- what a text leaves, without or with the level of its heading
abbrev pub whole_of : Option ℕ → List ℕ → ClosedBlock
whole_of None s = text s
whole_of (Some level) s = headed level s

abbrev pub no_quote : List Container → Bool
no_quote [] = true
no_quote (quoting ∷ ks) = false
no_quote (listing sign number columns ∷ ks) = no_quote ks

-- ---- tables

-- what is closed before the header of a table
abbrev pub before_table : ClosedBlocks → Bool → List (List ℕ) → Box
before_table done g [] = box done g nothing
before_table done g (l ∷ ls) =
    box (joined done (boxes.parts_of g text (definitions (joined_lines (l ∷ ls))))) false nothing

-- the alignments of a row below this header, if it is one of a table
abbrev pub table_row : List ℕ → Option (List Alignment) → Option (List Alignment)
table_row header None = None
table_row header (Some alignments) = if is_header header alignments then Some alignments else None

-- ---- containers that end

-- containers are ended until so many are left
pub record Ends (depth : ℕ) (old new : Blocks) : Type 0 where
  pub parts : parts_of new.closed.items
      ≡ parts_of old.closed.items ++ replicate (length old.boxes.kinds.items - depth) end
  pub definitions : new.definitions ≡ old.definitions
  pub boxes : new.boxes.kinds.items ≡ take depth old.boxes.kinds.items
  pub none : new.is_empty ≡ false
  pub gap : new.gap ≡ (old.gap && no_quote (map kind_of (drop depth old.boxes.kinds.items)))
  pub inner : new.leaf ≡ old.leaf

-- ---- what containers take

pub record Passed : Type 0 where
  pub count : ℕ
  pub rest : Line

abbrev pub passed_no_more : Line → Passed
passed_no_more l = record { count = 0; rest = l }

abbrev pub passed_one_more : Passed → Passed
passed_one_more p = record { count = suc p.count; rest = p.rest }

abbrev pub is_last : List Container → Bool
is_last [] = true
is_last (k ∷ ks) = false

-- how many containers take a line, and what they leave of it; the flag: the innermost one holds nothing
abbrev pub passed : List Container → Bool → Line → Passed
passed [] e l = passed_no_more l
passed (k ∷ ks) e l =
    elim (taken k (is_last ks && e) l) [
      | Some r ↦ passed_one_more (passed ks e r)
      | None ↦ passed_no_more l
    ]
