-- Where a document is cut: before headings, the highest first, and then block by block.
use Rattle.std.specs.Prelude.{ℕ, zero, suc, ◌+◌, ◌-◌, Bool, true, false, not, ◌&&◌, ◌==◌, nat_le, nat_lt}
use Rattle.std.specs.Prelude.{if◌then◌else◌, List, []}
use Rattle.std.specs.Prelude.{◌∷◌, ◌++◌, length, map, take, drop}
use Rattle.std.specs.List.{sum_by}
use Rattle.htmd_document.specs.Documents.{Block, heading, blocks_of}
use Rattle.htmd_chunks.specs.Cuts.{split}
use Rattle.htmd_chunks.specs.Fillings.{Part}
use Rattle.htmd_chunks.specs.Least.{is_heading}
use Rattle.htmd_chunks.specs.Measures.{blocks_size, block_cost}
use Rattle.htmd_chunks.specs.Sizes.{no_margin, cost}
use Rattle.htmd_chunks.specs.declared.bounds.Bounds.{Bounds}
use Rattle.htmd_chunks.specs.declared.sections.Section.{Section}

-- ---- parts between headings

abbrev pub is_of_level : ℕ → Block → Bool
is_of_level level (heading n content) = n == level
is_of_level level _ = false

-- they end with a block that is no heading
abbrev pub end_in_other : List Block → Bool
end_in_other [] = false
end_in_other (b ∷ []) = not (is_heading b)
end_in_other (b ∷ c ∷ bs) = end_in_other (c ∷ bs)

-- cut before each heading of this level behind a block that is none
abbrev pub level_parts : ℕ → List Block → List Block → List (List Block)
level_parts level begun [] = begun ∷ []
level_parts level begun (b ∷ bs) =
    if is_of_level level b && end_in_other begun then begun ∷ level_parts level (b ∷ []) bs
    else level_parts level (begun ++ b ∷ []) bs

-- ---- sections

abbrev pub total_cost : Bounds → List Block → ℕ
total_cost c bs = cost no_margin (blocks_size c.options false (blocks_of bs))

-- the same from the bytes of each block, with two between two
abbrev pub block_costs : Bounds → List Block → List ℕ
block_costs c bs = map (λ b. block_cost c.options no_margin b) bs

abbrev pub total : List ℕ → ℕ
total costs = sum_by (λ n. n + 2) costs - 2

-- so many blocks, which fit in a piece
abbrev pub fitting : ℕ → List Section
fitting zero = []
fitting (suc n) = record { count = suc n; fits = true } ∷ []

-- Neighbouring parts that fit together are one section; what doesn't fit is cut further. `count`, `used`: the blocks
-- of the section so far, and what they take.
abbrev pub gathered : Bounds → (List Block → List Section) → ℕ → ℕ → List (List Block) → List Section
gathered c further count used [] = fitting count
gathered c further count used (part ∷ parts) =
    let taken = total_cost c part in
    if nat_lt 0 count && nat_le (used + 2 + taken) c.most
    then gathered c further (count + length part) (used + 2 + taken) parts
    else fitting count ++ (if nat_le taken c.most then gathered c further (length part) taken parts
    else further part ++ gathered c further 0 0 parts)

-- by headings of these levels
abbrev pub sections : Bounds → List ℕ → List Block → List Section
sections c [] bs = record { count = length bs; fits = false } ∷ []
sections c (level ∷ levels) bs = gathered c (λ part. sections c levels part) 0 0 (level_parts level [] bs)

abbrev pub all_levels : List ℕ
all_levels = 1 ∷ 2 ∷ 3 ∷ 4 ∷ 5 ∷ 6 ∷ []

-- ---- the parts of a document

abbrev pub section_parts : Bounds → Bool → List Block → List Part
section_parts c true bs = record { blocks = bs; continues = [] } ∷ []
section_parts c false bs = split c no_margin false c.most (blocks_of bs)

abbrev pub parts_by : Bounds → List Section → List Block → List Part
parts_by c [] bs = []
parts_by c (s ∷ rest) bs = section_parts c s.fits (take s.count bs) ++ parts_by c rest (drop s.count bs)

abbrev pub document_parts : Bounds → List Block → List Part
document_parts c [] = []
document_parts c (b ∷ bs) = parts_by c (sections c all_levels (b ∷ bs)) (b ∷ bs)
