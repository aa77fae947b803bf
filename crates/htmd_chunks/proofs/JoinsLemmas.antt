-- Blocks and parts one after the other.
use Rattle.std.proofs.Common.{◌≡◌, List, [], ◌∷◌, ◌++◌, refl, sym, ap}
use Rattle.htmd_document.specs.Documents.{Block, Blocks, no_blocks, block, blocks_of}
use Rattle.htmd_chunks.specs.Fillings.{Part}
use Rattle.htmd_chunks.specs.Joins.{blocks_behind, join, join_block, joined_behind}
use Rattle.htmd_chunks.specs.Pieces.{Heading, listed, pieces_from, begin, path_behind_all}
use Rattle.htmd_chunks.specs.declared.joint.Joint.{Joint}
use Rattle.std.specs.Prelude.{ℕ, length, ◌+◌}

-- ---- blocks

pub behind-none : (a : Blocks) → blocks_behind a no_blocks ≡ a
behind-none no_blocks = refl
behind-none (block b rest) = ap (λ l. block b l) (behind-none rest)

pub behind-assoc : (a b c : Blocks)
    → blocks_behind (blocks_behind a b) c ≡ blocks_behind a (blocks_behind b c)
behind-assoc no_blocks b c = refl
behind-assoc (block x rest) b c = ap (λ l. block x l) (behind-assoc rest b c)

pub blocks_of-append : (xs ys : List Block) → blocks_of (xs ++ ys) ≡ blocks_behind (blocks_of xs) (blocks_of ys)
blocks_of-append [] ys = refl
blocks_of-append (x ∷ xs) ys = ap (λ l. block x l) (blocks_of-append xs ys)

pub blocks_of-listed : (d : Blocks) → blocks_of (listed d) ≡ d
blocks_of-listed no_blocks = refl
blocks_of-listed (block b rest) = ap (λ l. block b l) (blocks_of-listed rest)

-- ---- joining

pub join-none : (how : List Joint) (b : Blocks) → join how no_blocks b ≡ b
join-none [] b = refl
join-none (name ∷ within) b = refl

-- what goes on behind a block that there is
pub join-behind : (how : List Joint) (a : Blocks) (b : Block) (bs c : Blocks)
    → join how a (block b (blocks_behind bs c)) ≡ blocks_behind (join how a (block b bs)) c
join-behind [] a b bs c = sym (behind-assoc a (block b bs) c)
join-behind (name ∷ within) no_blocks b bs c = refl
join-behind (name ∷ within) (block x no_blocks) b bs c = refl
join-behind (name ∷ within) (block x (block y zs)) b bs c =
    ap (λ l. block x l) (join-behind (name ∷ within) (block y zs) b bs c)

-- the last block is joined, and those before it stay
pub join-last : (name : Joint) (within : List Joint) (a : Blocks) (x y : Block)
    → join (name ∷ within) (blocks_behind a (block x no_blocks)) (block y no_blocks)
    ≡ blocks_behind a (block (join_block name within x y) no_blocks)
join-last name within no_blocks x y = refl
join-last name within (block b no_blocks) x y = refl
join-last name within (block b (block c cs)) x y = ap (λ l. block b l) (join-last name within (block c cs) x y)

-- ---- parts

-- joined in order behind blocks
abbrev pub parts_joined : Blocks → List Part → Blocks
parts_joined d [] = d
parts_joined d (p ∷ parts) = parts_joined (join p.continues d (blocks_of p.blocks)) parts

pub parts_joined-append : (d : Blocks) (ps qs : List Part)
    → parts_joined d (ps ++ qs) ≡ parts_joined (parts_joined d ps) qs
parts_joined-append d [] qs = refl
parts_joined-append d (p ∷ ps) qs = parts_joined-append (join p.continues d (blocks_of p.blocks)) ps qs

-- pieces are joined as their parts
pub pieces-joined : (d : Blocks) (path : List Heading) (next : ℕ) (parts : List Part)
    → joined_behind d (pieces_from path next parts) ≡ parts_joined d parts
pieces-joined d path next [] = refl
pieces-joined d path next (p ∷ parts) =
    pieces-joined (join p.continues d (blocks_of p.blocks)) (path_behind_all path p.blocks)
    (begin next p.continues + length p.blocks) parts
