-- The parts of a document fit, or can't be cut.
use Rattle.std.proofs.Common.{◌≡◌, ℕ, zero, suc, ◌+◌, ◌<◌, ◌≤◌, Bool, true, false, cond, List, [], ◌∷◌, ◌++◌}
use Rattle.std.proofs.Common.{length, map, take, drop, refl, sym, ap, ◌∙◌, subst, ◌⊎◌, inl, inr, arith, leb-true}
use Rattle.std.proofs.Common.{get_or}
use Rattle.std.proofs.Common.{append_assoc, append-nil, length-append}
use Rattle.std.specs.Prelude.{◌&&◌, nat_le, nat_lt, All}
use Rattle.std.proofs.lemmas.Bool.{and_parts}
use Rattle.htmd_document.specs.Documents.{Block, Blocks, blocks_of}
use Rattle.htmd_document.specs.DocumentLimits.{most_nested}
use Rattle.htmd_document.specs.NormalDocuments.{IsNormal, is_normal_block, are_normal_blocks, depth_among}
use Rattle.htmd_commonmark.specs.DocumentMarkdown.{markdown_of}
use Rattle.htmd_commonmark.specs.declared.options.DocumentOptions.{DocumentOptions}
use Rattle.htmd_chunks.specs.Cuts.{filled}
use Rattle.htmd_chunks.specs.Fillings.{Part, parts_in}
use Rattle.htmd_chunks.specs.Least.{least_among}
use Rattle.htmd_chunks.specs.Measures.{blocks_size, gap}
use Rattle.htmd_chunks.specs.Pieces.{Piece, Heading, piece_options, begin, path_above, path_behind_all}
use Rattle.htmd_chunks.specs.Pieces.{pieces_from, listed, chunks_of}
use Rattle.htmd_chunks.specs.Runs.{is_none, together}
use Rattle.htmd_chunks.specs.Sections.{is_of_level, end_in_other, level_parts, fitting, gathered, sections}
use Rattle.htmd_chunks.specs.Sections.{all_levels, section_parts, parts_by, document_parts}
use Rattle.htmd_chunks.specs.ShortPieces.{may_be_longer}
use Rattle.htmd_chunks.specs.SizeLaws.{PiecesAreShort}
use Rattle.htmd_chunks.specs.Sizes.{no_margin, cost}
use Rattle.htmd_chunks.specs.declared.sections.Section.{Section}
use Rattle.htmd_chunks.proofs.CostsLemmas.{costs-behind, gap_if}
use Rattle.htmd_chunks.proofs.FlatSizesLemmas.{document-fits}
use Rattle.htmd_chunks.proofs.JoinsLemmas.{blocks_of-listed}
use Rattle.htmd_chunks.proofs.NormalPiecesLemmas.{pieces_are_normal}
use Rattle.htmd_chunks.proofs.ShortCutsLemmas.{fill-first, first-fresh}
use Rattle.htmd_chunks.proofs.ShortItemsLemmas.{FirstPart}
use Rattle.htmd_chunks.proofs.ShortPartsLemmas.{bounds, taken_by, Fit, AllParts, no_more, one_more, Parts, parts_are}
use Rattle.htmd_chunks.proofs.ShortPartsLemmas.{fresh, good-parts}
use Rattle.htmd_chunks.proofs.ShortRunsLemmas.{Each, of_none, of_more, each-behind}

-- each part of a document
abbrev pub PartFit : DocumentOptions → ℕ → Part → Type 0
PartFit options most p = Fit options no_margin false most p.blocks

-- ---- sections

-- blocks in sections, of which those that are said to fit do
data Fine (options : DocumentOptions) (most : ℕ) : List Section → List Block → Type 0 where
  fine_end : Fine options most [] []
  fine_more : (xs ys : List Block) (fits : Bool) (rest : List Section)
      → (fits ≡ true → taken_by options no_margin false xs ≤ most) → Fine options most rest ys
      → Fine options most (record { count = length xs; fits = fits } ∷ rest) (xs ++ ys)

fine-behind : (options : DocumentOptions) (most : ℕ) (ss ts : List Section) (xs ys : List Block)
    → Fine options most ss xs → Fine options most ts ys → Fine options most (ss ++ ts) (xs ++ ys)
fine-behind options most ss ts xs ys fine_end more = more
fine-behind options most ss ts xs ys (fine_more us vs fits rest le others) more =
    subst (Fine options most (record { count = length us; fits = fits } ∷ (rest ++ ts))) (sym (append_assoc us vs ys))
    (fine_more us (vs ++ ys) fits (rest ++ ts) le (fine-behind options most rest ts vs ys others more))

one-section : (options : DocumentOptions) (most : ℕ) (xs : List Block) (fits : Bool)
    → (fits ≡ true → taken_by options no_margin false xs ≤ most)
    → Fine options most (record { count = length xs; fits = fits } ∷ []) xs
one-section options most xs fits le =
    subst (Fine options most (record { count = length xs; fits = fits } ∷ [])) (append-nil xs)
    (fine_more xs [] fits [] le fine_end)

-- blocks so far take no more than was counted
abbrev Counted : DocumentOptions → List Block → ℕ → Type 0
Counted options begun used = is_none begun ≡ false → taken_by options no_margin false begun ≤ used

fitting-fine : (options : DocumentOptions) (most used : ℕ) (begun : List Block) → Counted options begun used
    → used ≤ most
    → Fine options most (fitting (length begun)) begun
fitting-fine options most used [] counted le = fine_end
fitting-fine options most used (b ∷ bs) counted le =
    one-section options most (b ∷ bs) true (λ is. omega (arith, counted refl, le))

more-counted : (options : DocumentOptions) (begun part : List Block) (used : ℕ) → is_none begun ≡ false
    → taken_by options no_margin false begun ≤ used
    → taken_by options no_margin false (begun ++ part) ≤ used + 2 + taken_by options no_margin false part
more-counted options begun [] used some le =
    omega (arith, ap (taken_by options no_margin false) (append-nil begun), le)
more-counted options begun (b ∷ bs) used some le =
    omega (
      arith,
      costs-behind (piece_options options) no_margin false begun (b ∷ bs) refl,
      ap (λ e. gap_if e (gap no_margin false)) some,
      le,
    )

some-begun : (begun : List Block) → nat_lt 0 (length begun) ≡ true → is_none begun ≡ false
some-begun [] some = absurd (cc)
some-begun (b ∷ bs) some = refl

gathered-fine : (options : DocumentOptions) (most : ℕ) (further : List Block → List Section)
    → ((part : List Block) → Fine options most (further part) part)
    → (begun : List Block) (used : ℕ) (parts : List (List Block)) → Counted options begun used → used ≤ most
    → Fine options most (gathered (bounds options most) further (length begun) used parts) (begun ++ together parts)
gathered-fine options most further all begun used [] counted le =
    subst (Fine options most (fitting (length begun))) (sym (append-nil begun))
    (fitting-fine options most used begun counted le)
gathered-fine options most further all begun used (part ∷ parts) counted le =
    let c = bounds options most in
    let taken = taken_by options no_margin false part in
    let rest = cond (nat_le taken most) (gathered c further (length part) taken parts)
    (further part ++ gathered c further 0 0 parts) in
    let apart : Fine options most rest (part ++ together parts) =
    elim (nat_le taken most)
    as (λ e. nat_le taken most ≡ e → Fine options most (cond e (gathered c further (length part) taken parts)
    (further part ++ gathered c further 0 0 parts)) (part ++ together parts)) [
      | true ↦ λ fit.
          gathered-fine options most further all part taken parts
          (λ some. omega arith) (leb-true taken most fit)
      | false ↦ λ over.
          fine-behind options most (further part) (gathered c further 0 0 parts) part (together parts) (all part)
          (gathered-fine options most further all [] 0 parts (λ some. absurd (cc)) (omega arith))
    ] refl in
    elim (nat_lt 0 (length begun) && nat_le (used + 2 + taken) most)
    as (λ e. (nat_lt 0 (length begun) && nat_le (used + 2 + taken) most) ≡ e
    → Fine options most (cond e (gathered c further (length begun + length part) (used + 2 + taken) parts)
    (fitting (length begun) ++ rest)) (begun ++ (part ++ together parts))) [
      | true ↦ λ fit.
          (let p = and_parts (nat_lt 0 (length begun)) (nat_le (used + 2 + taken) most) fit in
          let some = some-begun begun p.0 in
          let next = begun ++ part in
          let good = gathered-fine options most further all next (used + 2 + taken) parts
          (λ has. more-counted options begun part used some (counted some))
          (leb-true (used + 2 + taken) most p.1) in
          subst (λ n. Fine options most (gathered c further n (used + 2 + taken) parts)
          (begun ++ (part ++ together parts)))
          (length-append begun part)
          (subst (Fine options most (gathered c further (length next) (used + 2 + taken) parts))
          (append_assoc begun part (together parts)) good))
      | false ↦ λ over.
          fine-behind options most (fitting (length begun)) rest begun (part ++ together parts)
          (fitting-fine options most used begun counted le) apart
    ] refl

levels-together : (level : ℕ) (begun bs : List Block) → together (level_parts level begun bs) ≡ begun ++ bs
levels-together level begun [] = refl
levels-together level begun (b ∷ bs) =
    elim (is_of_level level b && end_in_other begun)
    as (λ e. together (cond e (begun ∷ level_parts level (b ∷ []) bs) (level_parts level (begun ++ b ∷ []) bs))
    ≡ begun ++ b ∷ bs) [
      | true ↦ ap (λ l. begun ++ l) (levels-together level (b ∷ []) bs)
      | false ↦ levels-together level (begun ++ b ∷ []) bs ∙ append_assoc begun (b ∷ []) bs
    ]

sections-fine : (options : DocumentOptions) (most : ℕ) (levels : List ℕ) (bs : List Block)
    → Fine options most (sections (bounds options most) levels bs) bs
sections-fine options most [] bs = one-section options most bs false (λ is. absurd (cc))
sections-fine options most (level ∷ levels) bs =
    subst (Fine options most (sections (bounds options most) (level ∷ levels) bs)) (levels-together level [] bs)
    (gathered-fine options most (λ part. sections (bounds options most) levels part)
    (λ part. sections-fine options most levels part) [] 0 (level_parts level [] bs) (λ some. absurd (cc))
    (omega arith))

-- ---- parts

parts-each : (options : DocumentOptions) (most : ℕ) (parts : List Part)
    → AllParts (Fit options no_margin false most) parts → Each (PartFit options most) parts
parts-each options most parts no_more = of_none
parts-each options most parts (one_more p rest some here others) =
    of_more p rest here (parts-each options most rest others)

first-each : (options : DocumentOptions) (most least : ℕ) (parts : List Part)
    → Parts (FirstPart options no_margin false most most least) (Fit options no_margin false most) parts
    → Each (PartFit options most) parts
first-each options most least parts (parts_are p rest some here others) =
    of_more p rest (here.short refl) (parts-each options most rest others)

section-fit : (options : DocumentOptions) (most : ℕ) (fits : Bool) (bs : List Block)
    → are_normal_blocks false (blocks_of bs) ≡ true
    → (fits ≡ true → taken_by options no_margin false bs ≤ most)
    → Each (PartFit options most) (section_parts (bounds options most) fits bs)
section-fit options most true bs normal le = of_more (record { blocks = bs; continues = [] }) [] (inl (le refl)) of_none
section-fit options most false [] normal le =
    of_more (record { blocks = []; continues = [] }) [] (inl (omega arith)) of_none
section-fit options most false (b ∷ bs) normal le =
    let c = bounds options most in
    let content = blocks_of (b ∷ bs) in
    let least = least_among c no_margin false 0 content in
    let f = filled c no_margin false (fresh [] most []) [] content in
    let good = fill-first options most no_margin false most least false true [] most [] [] content refl refl normal
    (first-fresh options no_margin false most most least) in
    first-each options most least (parts_in f)
    (good-parts options no_margin false most (FirstPart options no_margin false most most least) good.0 f good.1)

take-front : {X : Type 0} (xs ys : List X) → take (length xs) (xs ++ ys) ≡ xs
take-front [] ys = refl
take-front (x ∷ xs) ys = ap (λ l. x ∷ l) (take-front xs ys)

drop-front : {X : Type 0} (xs ys : List X) → drop (length xs) (xs ++ ys) ≡ ys
drop-front [] ys = refl
drop-front (x ∷ xs) ys = drop-front xs ys

normal-apart : (xs ys : List Block) → are_normal_blocks false (blocks_of (xs ++ ys)) ≡ true
    → (are_normal_blocks false (blocks_of xs) ≡ true) × (are_normal_blocks false (blocks_of ys) ≡ true)
normal-apart [] ys normal = (refl, normal)
normal-apart (x ∷ xs) ys normal =
    let p = and_parts (is_normal_block false x) (are_normal_blocks false (blocks_of (xs ++ ys))) normal in
    let q = normal-apart xs ys p.1 in
    (ap (λ e. e && are_normal_blocks false (blocks_of xs)) p.0 ∙ q.0, q.1)

fine-parts : (options : DocumentOptions) (most : ℕ) (ss : List Section) (bs : List Block)
    → are_normal_blocks false (blocks_of bs) ≡ true → Fine options most ss bs
    → Each (PartFit options most) (parts_by (bounds options most) ss bs)
fine-parts options most ss bs normal fine_end = of_none
fine-parts options most ss bs normal (fine_more xs ys fits rest le others) =
    let c = bounds options most in
    let p = normal-apart xs ys normal in
    subst (λ l. Each (PartFit options most) (section_parts c fits l ++ parts_by c rest (drop (length xs) (xs ++ ys))))
    (sym (take-front xs ys))
    (subst (λ l. Each (PartFit options most) (section_parts c fits xs ++ parts_by c rest l)) (sym (drop-front xs ys))
    (each-behind (PartFit options most) (section_parts c fits xs) (parts_by c rest ys)
    (section-fit options most fits xs p.0 le) (fine-parts options most rest ys p.1 others)))

document-fit : (options : DocumentOptions) (most : ℕ) (bs : List Block)
    → are_normal_blocks false (blocks_of bs) ≡ true
    → Each (PartFit options most) (document_parts (bounds options most) bs)
document-fit options most [] normal = of_none
document-fit options most (b ∷ bs) normal =
    fine-parts options most (sections (bounds options most) all_levels (b ∷ bs)) (b ∷ bs) normal
    (sections-fine options most all_levels (b ∷ bs))

-- ---- pieces

-- the blocks of a piece take no more than asked
abbrev PieceFit : DocumentOptions → ℕ → Piece → Type 0
PieceFit options most p =
    (cost no_margin (blocks_size (piece_options options) false p.blocks) ≤ most) ⊎ (may_be_longer p.blocks ≡ true)

-- the piece of a part
abbrev piece_of : List Heading → ℕ → Part → Piece
piece_of path next p =
    record {
      path = map (λ h. h.text) (path_above path p.blocks);
      start = begin next p.continues;
      continues = p.continues;
      blocks = blocks_of p.blocks;
    }

all-more : (P : Piece → Type 0) (p : Piece) (rest : List Piece) → P p → All P rest → All P (p ∷ rest)
all-more P p rest here others = λ k d lt. at k d lt
  where
    at : (k : ℕ) (d : Piece) → k < suc (length rest) → P (get_or (p ∷ rest) k d)
    at zero d lt = here
    at (suc k) d lt = others k d (omega (arith, lt))

pieces-fit : (options : DocumentOptions) (most : ℕ) (path : List Heading) (next : ℕ) (parts : List Part)
    → Each (PartFit options most) parts → All (PieceFit options most) (pieces_from path next parts)
pieces-fit options most path next parts of_none = λ k d lt. absurd (omega (arith, lt))
pieces-fit options most path next parts (of_more p rest here others) =
    let behind = path_behind_all path p.blocks in
    let start = begin next p.continues + length p.blocks in
    all-more (PieceFit options most) (piece_of path next p) (pieces_from behind start rest) here
    (pieces-fit options most behind start rest others)

-- a normal piece is written as long as it is measured
short-piece : (options : DocumentOptions) (most : ℕ) (bs : Blocks) → IsNormal bs
    → (cost no_margin (blocks_size (piece_options options) false bs) ≤ most) ⊎ (may_be_longer bs ≡ true)
    → (length (markdown_of (piece_options options) bs) ≤ most) ⊎ (may_be_longer bs ≡ true)
short-piece options most bs normal (inl le) = inl (omega (arith, document-fits options bs normal, le))
short-piece options most bs normal (inr longer) = inr longer

pub pieces-short : PiecesAreShort
pieces-short options most document normal =
    let blocks = (and_parts (are_normal_blocks false document) (nat_le (depth_among document) most_nested) normal).0 in
    let inside : are_normal_blocks false (blocks_of (listed document)) ≡ true =
    ap (are_normal_blocks false) (blocks_of-listed document) ∙ blocks in
    let fit = pieces-fit options most [] 0 (document_parts (bounds options most) (listed document))
    (document-fit options most (listed document) inside) in
    λ k d lt. short-piece options most (get_or (chunks_of options most document) k d).blocks
    (pieces_are_normal options most document normal k d lt).0 (fit k d lt)
