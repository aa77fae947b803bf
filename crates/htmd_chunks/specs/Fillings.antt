-- What a piece is filled with, as long as something fits.
use Rattle.std.specs.Prelude.{ℕ, ◌+◌, Bool, not, ◌&&◌, ◌||◌, nat_le, if◌then◌else◌, List, [], ◌∷◌}
use Rattle.std.specs.Prelude.{◌++◌, option_map, replicate}
use Rattle.htmd_document.specs.Documents.{Block, Blocks, list, no_blocks, blocks_of, items_of}
use Rattle.htmd_document.specs.FlatDocuments.{flat_items}
use Rattle.htmd_document.specs.NormalDocuments.{is_spread}
use Rattle.htmd_chunks.specs.Runs.{is_none}
use Rattle.htmd_chunks.specs.declared.bounds.ListShape.{ListShape}
use Rattle.htmd_chunks.specs.declared.joint.Joint.{Joint}
use Rattle.htmd_chunks.specs.declared.joint.Joint.TheVariants as joint

-- blocks of a piece, and how they go on with those before: how two blocks are one, from the outermost
pub record Part : Type 0 where
  pub blocks : List Block
  pub continues : List Joint

-- a part of one block
pub record BlockPart : Type 0 where
  pub block : Block
  pub continues : List Joint

-- the parts so far, what stands in the next one, its bytes, how many it may have, and how it goes on
pub record Filling : Type 0 where
  pub done : List Part
  pub now : List Block
  pub used : ℕ
  pub free : ℕ
  pub continues : List Joint

abbrev pub filling : ℕ → Filling
filling first = record { done = []; now = []; used = 0; free = first; continues = [] }

abbrev pub part_in : Filling → Part
part_in f = record { blocks = f.now; continues = f.continues }

abbrev pub parts_in : Filling → List Part
parts_in f = f.done ++ part_in f ∷ []

-- the next part may have `most` bytes
abbrev pub flushed : ℕ → Filling → Filling
flushed most f = record { done = parts_in f; now = []; used = 0; free = most; continues = [] }

-- the gap before what comes next
abbrev pub gap_in : ℕ → Filling → ℕ
gap_in gap f = if is_none f.now then 0 else gap

-- this many bytes fit
abbrev pub has_room : ℕ → Filling → ℕ → Bool
has_room gap f bytes = nat_le (f.used + gap_in gap f + bytes) f.free

-- flushed if something stands there and this doesn't fit
abbrev pub with_room : ℕ → ℕ → Filling → ℕ → Filling
with_room most gap f bytes = if is_none f.now || has_room gap f bytes then f else flushed most f

abbrev pub with_blocks : ℕ → Filling → List Block → ℕ → Filling
with_blocks gap f blocks bytes =
    record f { now = f.now ++ blocks; used = f.used + gap_in gap f + bytes }

-- blocks that stay together
abbrev pub with_whole : ℕ → ℕ → Filling → List Block → ℕ → Filling
with_whole most gap f blocks bytes = with_blocks gap (with_room most gap f bytes) blocks bytes

-- headings that fill a part of their own where the least of what is behind them has no room, or else stand before it;
-- `heads`: what they take with the gaps
abbrev pub with_heads : ℕ → ℕ → Filling → List Block → ℕ → ℕ → Filling
with_heads most gap f headings heads least =
    let g = with_room most gap f least in
    if is_none g.now && not (is_none headings) && not (nat_le least g.free)
    then flushed most (with_blocks gap g headings heads)
    else with_blocks gap g headings heads

-- the parts of a block behind the first
abbrev pub with_further : ℕ → Filling → List BlockPart → Filling
with_further most f [] = f
with_further most f (p ∷ parts) =
    with_further most (record (flushed most f) { now = p.block ∷ []; continues = p.continues }) parts

-- the parts of a block; the last takes so many bytes
abbrev pub with_parts : ℕ → Filling → List BlockPart → ℕ → Filling
with_parts most f [] last = record f { used = f.used + last }
with_parts most f (p ∷ []) last = record f { now = f.now ++ p.block ∷ []; used = f.used + last }
with_parts most f (p ∷ q ∷ parts) last =
    record (with_further most (record f { now = f.now ++ p.block ∷ [] }) (q ∷ parts)) { used = last }

-- ---- items

-- the parts of a list so far, and what stands in the next one, whose first item is at this place of the list
pub record ListFilling : Type 0 where
  pub done : List BlockPart
  pub now : List Blocks
  pub first : ℕ
  pub used : ℕ
  pub free : ℕ
  pub continues : List Joint

abbrev pub list_filling : ℕ → ListFilling
list_filling first = record { done = []; now = []; first = 0; used = 0; free = first; continues = [] }

-- how the parts of a list go on
abbrev pub list_joint : ListShape → Joint
list_joint l = if l.is_tight then joint.List else joint.LooseList

-- Items from this place on. A list with one item that has no blank line in it can't be loose.
abbrev pub list_of : ListShape → ℕ → List Blocks → Block
list_of l first items =
    let content = items_of items in
    list (option_map (λ start. start + first) l.start) (l.is_tight || not (is_spread (flat_items content))) content

abbrev pub list_part : ListShape → ListFilling → BlockPart
list_part l f = record { block = list_of l f.first f.now; continues = f.continues }

abbrev pub list_parts_in : ListShape → ListFilling → List BlockPart
list_parts_in l f = f.done ++ list_part l f ∷ []

-- the next part begins with the item at this place, and goes on so within the list
abbrev pub list_flushed : ℕ → ListShape → ListFilling → ℕ → List Joint → ListFilling
list_flushed most l f place within =
    record {
      done = list_parts_in l f;
      now = [];
      first = place;
      used = 0;
      free = most;
      continues = list_joint l ∷ within;
    }

abbrev pub list_gap_in : ℕ → ListFilling → ℕ
list_gap_in gap f = if is_none f.now then 0 else gap

abbrev pub list_with_room : ℕ → ℕ → ListShape → ListFilling → ℕ → ℕ → ListFilling
list_with_room most gap l f place bytes =
    if is_none f.now || nat_le (f.used + list_gap_in gap f + bytes) f.free then f
    else list_flushed most l f place []

-- items that stay together, the first at this place
abbrev pub with_whole_items : ℕ → ℕ → ListShape → ListFilling → ℕ → List Blocks → ℕ → ListFilling
with_whole_items most gap l f place items bytes =
    let g = list_with_room most gap l f place bytes in
    record g { now = g.now ++ items; used = g.used + list_gap_in gap g + bytes }

-- the parts of the item at this place, behind the first
abbrev pub with_further_items : ℕ → ListShape → ListFilling → ℕ → List Part → ListFilling
with_further_items most l f place [] = f
with_further_items most l f place (p ∷ parts) =
    with_further_items most l
    (record (list_flushed most l f place (joint.Item ∷ p.continues)) { now = blocks_of p.blocks ∷ [] }) place parts

-- The parts of the item at this place, each an item of its own; `heads` and `last`: what stands before the first one
-- and what the last one takes.
abbrev pub with_item_parts : ℕ → ℕ → ListShape → ListFilling → ℕ → List Part → ℕ → ℕ
    → ListFilling
with_item_parts most gap l f place [] heads last = record f { used = f.used + gap + heads + last }
with_item_parts most gap l f place (p ∷ []) heads last =
    record f { now = f.now ++ blocks_of p.blocks ∷ []; used = f.used + gap + heads + last }
with_item_parts most gap l f place (p ∷ q ∷ parts) heads last =
    record (with_further_items most l (record f { now = f.now ++ blocks_of p.blocks ∷ [] }) place (q ∷ parts)) {
      used = last;
    }

-- empty items behind, which take so many bytes
abbrev pub with_empty_items : ListFilling → ℕ → ℕ → ListFilling
with_empty_items f count bytes =
    record f { now = f.now ++ replicate count no_blocks; used = f.used + bytes }
