-- Fillings joined: what is put behind stands behind.
use Rattle.std.proofs.Common.{◌≡◌, ℕ, true, false, not, cond, List, [], ◌∷◌, ◌++◌, map, refl}
use Rattle.std.proofs.Common.{sym, ap}
use Rattle.std.proofs.Common.{◌∙◌}
use Rattle.std.specs.Prelude.{◌&&◌, ◌||◌, nat_le}
use Rattle.htmd_document.specs.Documents.{Block, Blocks, no_blocks, block, blocks_of}
use Rattle.htmd_chunks.specs.Cuts.{block_part}
use Rattle.htmd_chunks.specs.Fillings.{BlockPart, Filling, part_in, parts_in, flushed, has_room, with_room}
use Rattle.htmd_chunks.specs.Fillings.{with_blocks, with_whole, with_heads, with_further, with_parts}
use Rattle.htmd_chunks.specs.Joins.{blocks_behind, join, join_block}
use Rattle.htmd_chunks.specs.Runs.{is_none}
use Rattle.htmd_chunks.specs.declared.joint.Joint.{Joint}
use Rattle.htmd_chunks.proofs.JoinsLemmas.{behind-none, behind-assoc, blocks_of-append, join-behind, join-last}
use Rattle.htmd_chunks.proofs.JoinsLemmas.{parts_joined, parts_joined-append}

-- all parts behind blocks
abbrev pub joined_in : Blocks → Filling → Blocks
joined_in d f = parts_joined d (parts_in f)

pub joined_in-is : (d : Blocks) (f : Filling)
    → joined_in d f ≡ join f.continues (parts_joined d f.done) (blocks_of f.now)
joined_in-is d f = parts_joined-append d f.done (part_in f ∷ [])

-- nothing stands in a part that goes on only where it begins with a block of its own
pub data IsBegun : List Joint → List Block → Type 0 where
  own : (now : List Block) → IsBegun [] now
  filled : (how : List Joint) (b : Block) (bs : List Block) → IsBegun how (b ∷ bs)

pub join-grown : (how : List Joint) (a : Blocks) (now bs : List Block) → IsBegun how now
    → join how a (blocks_of (now ++ bs)) ≡ blocks_behind (join how a (blocks_of now)) (blocks_of bs)
join-grown how a now bs (own xs) =
    ap (blocks_behind a) (blocks_of-append xs bs) ∙ sym (behind-assoc a (blocks_of xs) (blocks_of bs))
join-grown how a now bs (filled joints b xs) =
    ap (λ l. join joints a (block b l)) (blocks_of-append xs bs)
    ∙ join-behind joints a b (blocks_of xs) (blocks_of bs)

pub begun-grown : (how : List Joint) (now bs : List Block) → IsBegun how now → IsBegun how (now ++ bs)
begun-grown how now bs (own xs) = own (xs ++ bs)
begun-grown how now bs (filled joints b xs) = filled joints b (xs ++ bs)

-- blocks put behind
pub blocks-joined : (d : Blocks) (gap : ℕ) (f : Filling) (bs : List Block) (bytes : ℕ) → IsBegun f.continues f.now
    → joined_in d (with_blocks gap f bs bytes) ≡ blocks_behind (joined_in d f) (blocks_of bs)
blocks-joined d gap f bs bytes begun =
    joined_in-is d (with_blocks gap f bs bytes)
    ∙ join-grown f.continues (parts_joined d f.done) f.now bs begun
    ∙ ap (λ l. blocks_behind l (blocks_of bs)) (sym (joined_in-is d f))

pub flushed-joined : (d : Blocks) (most : ℕ) (f : Filling) → joined_in d (flushed most f) ≡ joined_in d f
flushed-joined d most f = joined_in-is d (flushed most f) ∙ behind-none (joined_in d f)

pub room-joined : (d : Blocks) (most gap : ℕ) (f : Filling) (bytes : ℕ)
    → joined_in d (with_room most gap f bytes) ≡ joined_in d f
room-joined d most gap f bytes =
    elim (is_none f.now || has_room gap f bytes) as (λ b. joined_in d (cond b f (flushed most f)) ≡ joined_in d f) [
      | true ↦ refl
      | false ↦ flushed-joined d most f
    ]

pub room-begun : (most gap : ℕ) (f : Filling) (bytes : ℕ) → IsBegun f.continues f.now
    → IsBegun (with_room most gap f bytes).continues (with_room most gap f bytes).now
room-begun most gap f bytes begun =
    elim (is_none f.now || has_room gap f bytes)
    as (λ b. IsBegun (cond b f (flushed most f)).continues (cond b f (flushed most f)).now) [
      | true ↦ begun
      | false ↦ own []
    ]

pub whole-joined : (d : Blocks) (most gap : ℕ) (f : Filling) (bs : List Block) (bytes : ℕ)
    → IsBegun f.continues f.now
    → joined_in d (with_whole most gap f bs bytes) ≡ blocks_behind (joined_in d f) (blocks_of bs)
whole-joined d most gap f bs bytes begun =
    blocks-joined d gap (with_room most gap f bytes) bs bytes (room-begun most gap f bytes begun)
    ∙ ap (λ l. blocks_behind l (blocks_of bs)) (room-joined d most gap f bytes)

pub whole-begun : (most gap : ℕ) (f : Filling) (bs : List Block) (bytes : ℕ) → IsBegun f.continues f.now
    → IsBegun (with_whole most gap f bs bytes).continues (with_whole most gap f bs bytes).now
whole-begun most gap f bs bytes begun =
    let g = with_room most gap f bytes in
    begun-grown g.continues g.now bs (room-begun most gap f bytes begun)

-- headings before a block that is cut
pub heads-joined : (d : Blocks) (most gap : ℕ) (f : Filling) (hs : List Block) (heads least : ℕ)
    → IsBegun f.continues f.now
    → joined_in d (with_heads most gap f hs heads least) ≡ blocks_behind (joined_in d f) (blocks_of hs)
heads-joined d most gap f hs heads least begun =
    let g = with_room most gap f least in
    let behind : joined_in d (with_blocks gap g hs heads) ≡ blocks_behind (joined_in d f) (blocks_of hs) =
    blocks-joined d gap g hs heads (room-begun most gap f least begun)
    ∙ ap (λ l. blocks_behind l (blocks_of hs)) (room-joined d most gap f least) in
    elim (is_none g.now && not (is_none hs) && not (nat_le least g.free))
    as (λ b. joined_in d (cond b (flushed most (with_blocks gap g hs heads)) (with_blocks gap g hs heads))
    ≡ blocks_behind (joined_in d f) (blocks_of hs)) [
      | true ↦ flushed-joined d most (with_blocks gap g hs heads) ∙ behind
      | false ↦ behind
    ]

pub heads-begun : (most gap : ℕ) (f : Filling) (hs : List Block) (heads least : ℕ) → IsBegun f.continues f.now
    → IsBegun (with_heads most gap f hs heads least).continues (with_heads most gap f hs heads least).now
heads-begun most gap f hs heads least begun =
    let g = with_room most gap f least in
    let h = with_blocks gap g hs heads in
    elim (is_none g.now && not (is_none hs) && not (nat_le least g.free))
    as (λ b. IsBegun (cond b (flushed most h) h).continues (cond b (flushed most h) h).now) [
      | true ↦ own []
      | false ↦ begun-grown g.continues g.now hs (room-begun most gap f least begun)
    ]

-- ---- parts of one block

-- two blocks as these names say
abbrev pub merge : List Joint → Block → Block → Block
merge [] x y = x
merge (name ∷ within) x y = join_block name within x y

-- parts joined behind the first
abbrev pub merged : Block → List BlockPart → Block
merged x [] = x
merged x (p ∷ parts) = merged (merge p.continues x p.block) parts

-- each goes on with the one before
pub data GoOn : List BlockPart → Type 0 where
  no_parts : GoOn []
  goes_on : (b : Block) (name : Joint) (within : List Joint) (parts : List BlockPart) → GoOn parts
      → GoOn (record { block = b; continues = name ∷ within } ∷ parts)

pub go_on-so : (name : Joint) (bs : List Block) → GoOn (map (block_part (name ∷ [])) bs)
go_on-so name [] = no_parts
go_on-so name (b ∷ bs) = goes_on b name [] (map (block_part (name ∷ [])) bs) (go_on-so name bs)

-- the parts are of this block
pub data AreParts : Block → List BlockPart → Type 0 where
  parts_of : (p : BlockPart) (parts : List BlockPart) → GoOn parts → AreParts (merged p.block parts) (p ∷ parts)

pub further-joined : (d : Blocks) (most : ℕ) (f : Filling) (a : Blocks) (x : Block) (parts : List BlockPart)
    → GoOn parts → joined_in d f ≡ blocks_behind a (block x no_blocks)
    → joined_in d (with_further most f parts) ≡ blocks_behind a (block (merged x parts) no_blocks)
further-joined d most f a x parts no_parts is = is
further-joined d most f a x parts (goes_on b name within rest others) is =
    let g : Filling = record (flushed most f) { now = b ∷ []; continues = name ∷ within } in
    further-joined d most g a (join_block name within x b) rest others
    (joined_in-is d g ∙ ap (λ l. join (name ∷ within) l (block b no_blocks)) is ∙ join-last name within a x b)

pub further-begun : (most : ℕ) (f : Filling) (parts : List BlockPart) → GoOn parts → IsBegun f.continues f.now
    → IsBegun (with_further most f parts).continues (with_further most f parts).now
further-begun most f parts no_parts begun = begun
further-begun most f parts (goes_on b name within rest others) begun =
    let g : Filling = record (flushed most f) { now = b ∷ []; continues = name ∷ within } in
    further-begun most g rest others (filled (name ∷ within) b [])

pub parts-joined : (d : Blocks) (most : ℕ) (f : Filling) (b : Block) (parts : List BlockPart) (last : ℕ)
    → AreParts b parts → IsBegun f.continues f.now
    → joined_in d (with_parts most f parts last) ≡ blocks_behind (joined_in d f) (block b no_blocks)
parts-joined d most f b parts last (parts_of p [] go_on) begun =
    blocks-joined d 0 f (p.block ∷ []) 0 begun
parts-joined d most f b parts last (parts_of p (q ∷ rest) go_on) begun =
    further-joined d most (record f { now = f.now ++ p.block ∷ [] }) (joined_in d f) p.block (q ∷ rest) go_on
    (blocks-joined d 0 f (p.block ∷ []) 0 begun)

pub parts-begun : (most : ℕ) (f : Filling) (b : Block) (parts : List BlockPart) (last : ℕ)
    → AreParts b parts → IsBegun f.continues f.now
    → IsBegun (with_parts most f parts last).continues (with_parts most f parts last).now
parts-begun most f b parts last (parts_of p [] go_on) begun = begun-grown f.continues f.now (p.block ∷ []) begun
parts-begun most f b parts last (parts_of p (q ∷ rest) go_on) begun =
    further-begun most (record f { now = f.now ++ p.block ∷ [] }) (q ∷ rest) go_on
    (begun-grown f.continues f.now (p.block ∷ []) begun)
