-- The pieces of a normal document are normal.
use Rattle.std.proofs.Common.{◌≡◌, ℕ, zero, suc, ◌+◌, ◌≤◌, Bool, true, false, cond, List, [], ◌∷◌, ◌++◌, length}
use Rattle.std.proofs.Common.{take, drop, refl, sym, subst, arith, length-drop}
use Rattle.std.specs.Prelude.{◌&&◌, nat_le, nat_lt, All}
use Rattle.std.proofs.lemmas.Bool.{and_from}
use Rattle.std.proofs.lemmas.Bool.Decides.{nat_tests}
use Rattle.std.proofs.lemmas.List.{take-append-drop}
use Rattle.htmd_document.specs.DocumentLimits.{most_nested}
use Rattle.htmd_document.specs.Documents.{Block, blocks_of}
use Rattle.htmd_document.specs.NormalDocuments.{are_normal_blocks, depth_among, IsNormal}
use Rattle.htmd_document.specs.TightItems.{is_filled}
use Rattle.htmd_chunks.specs.ChunkLaws.{PiecesAreNormal}
use Rattle.htmd_chunks.specs.Cuts.{filled}
use Rattle.htmd_chunks.specs.Fillings.{Part, filling}
use Rattle.htmd_chunks.specs.Pieces.{Heading, Piece, pieces_from, begin, path_behind_all, piece_options, listed}
use Rattle.htmd_chunks.specs.Runs.{is_none}
use Rattle.htmd_chunks.specs.Sections.{is_of_level, end_in_other, level_parts, total_cost, fitting, gathered, sections}
use Rattle.htmd_chunks.specs.Sections.{all_levels, section_parts, parts_by, document_parts}
use Rattle.htmd_chunks.specs.Sizes.{no_margin}
use Rattle.htmd_chunks.specs.declared.bounds.Bounds.{Bounds}
use Rattle.htmd_chunks.specs.declared.sections.Section.{Section}
use Rattle.htmd_chunks.proofs.NormalCutsLemmas.{all-good, begun-state, filled-state}
use Rattle.htmd_chunks.proofs.NormalListsLemmas.{good-normal, normal-fine}
use Rattle.htmd_chunks.proofs.NormalPartsLemmas.{Fits, fits-head, fits-back, AreGood, good-append}
use Rattle.htmd_chunks.proofs.NormalWordsLemmas.{not-so}
use Rattle.htmd_chunks.proofs.PiecesLemmas.{listed-of}
use Rattle.htmd_chunks.proofs.RunsLemmas.{and_left, and_right}
use Rattle.htmd_chunks.proofs.SectionsLemmas.{total_count, sections-count}

-- ---- no part between headings is empty

abbrev AllSome : List (List Block) → Type 0
AllSome [] = Unit {0}
AllSome (bs ∷ rest) = (is_none bs ≡ false) × AllSome rest

ends-some : (bs : List Block) → end_in_other bs ≡ true → is_none bs ≡ false
ends-some [] e = not-so _ e
ends-some (b ∷ bs) e = refl

put-some : (bs : List Block) (b : Block) (rest : List Block) → is_none ((bs ++ b ∷ []) ++ rest) ≡ false
put-some [] b rest = refl
put-some (x ∷ bs) b rest = refl

level-some : (level : ℕ) (begun bs : List Block) → is_none (begun ++ bs) ≡ false
    → AllSome (level_parts level begun bs)
level-some level [] [] some = not-so _ (sym some)
level-some level (x ∷ begun) [] some = (refl, tt)
level-some level begun (b ∷ bs) some =
    at (is_of_level level b) (end_in_other begun) (ends-some begun) (level-some level (b ∷ []) bs refl)
    (level-some level (begun ++ b ∷ []) bs (put-some begun b bs))
  where
    at : (x y : Bool) → (y ≡ true → is_none begun ≡ false) → AllSome (level_parts level (b ∷ []) bs)
        → AllSome (level_parts level (begun ++ b ∷ []) bs)
        → AllSome (cond (x && y) (begun ∷ level_parts level (b ∷ []) bs)
        (level_parts level (begun ++ b ∷ []) bs))
    at true true here apart on = (here refl, apart)
    at true false here apart on = on
    at false y here apart on = on

-- ---- no section is empty

abbrev AllCount : List Section → Type 0
AllCount [] = Unit {0}
AllCount (s ∷ rest) = (1 ≤ s.count) × AllCount rest

count-append : (ss ts : List Section) → AllCount ss → AllCount ts → AllCount (ss ++ ts)
count-append [] ts g h = h
count-append (s ∷ ss) ts g h = (g.0, count-append ss ts g.1 h)

fitting-counts : (count : ℕ) → AllCount (fitting count)
fitting-counts zero = tt
fitting-counts (suc n) = (omega arith, tt)

gathered-counts : (c : Bounds) (further : List Block → List Section)
    → ((part : List Block) → is_none part ≡ false → AllCount (further part))
    → (count used : ℕ) (parts : List (List Block)) → AllSome parts
    → AllCount (gathered c further count used parts)
gathered-counts c further all count used [] some = fitting-counts count
gathered-counts c further all count used (part ∷ parts) some =
    let taken = total_cost c part in
    let together = gathered c further (count + length part) (used + 2 + taken) parts in
    let alone = gathered c further (length part) taken parts in
    let apart = further part ++ gathered c further 0 0 parts in
    let rest : AllCount (cond (nat_le taken c.most) alone apart) =
    elim (nat_le taken c.most) as (λ e. AllCount (cond e alone apart)) [
      | true ↦ gathered-counts c further all (length part) taken parts some.1
      | false ↦
          count-append (further part) (gathered c further 0 0 parts) (all part some.0)
          (gathered-counts c further all 0 0 parts some.1)
    ] in
    elim (nat_lt 0 count && nat_le (used + 2 + taken) c.most)
    as (λ e. AllCount (cond e together (fitting count ++ cond (nat_le taken c.most) alone apart))) [
      | true ↦ gathered-counts c further all (count + length part) (used + 2 + taken) parts some.1
      | false ↦
          count-append (fitting count) (cond (nat_le taken c.most) alone apart) (fitting-counts count) rest
    ]

some-length : (bs : List Block) → is_none bs ≡ false → 1 ≤ length bs
some-length [] e = not-so _ (sym e)
some-length (b ∷ bs) e = omega arith

sections-counts : (c : Bounds) (levels : List ℕ) (bs : List Block) → is_none bs ≡ false
    → AllCount (sections c levels bs)
sections-counts c [] bs some = (some-length bs some, tt)
sections-counts c (level ∷ levels) bs some =
    gathered-counts c (λ part. sections c levels part) (sections-counts c levels) 0 0 (level_parts level [] bs)
    (level-some level [] bs some)

-- ---- parts

section-good : (n : ℕ) (c : Bounds) (fits : Bool) (bs : List Block) → is_none bs ≡ false → Fits n false false bs
    → AreGood n false false (section_parts c fits bs)
section-good n c true bs some fine = (record { some = some; fits = fine }, tt)
section-good n c false bs some fine =
    let f = filled c no_margin false (filling c.most) [] (blocks_of bs) in
    all-good n false false f
    (filled-state n false false c no_margin (filling c.most) [] (blocks_of bs)
    (begun-state n false false c.most (blocks_of bs)
    (subst (Fits n false false) (sym (listed-of bs)) fine) (filled-of bs some)))
  where
    filled-of : (bs : List Block) → is_none bs ≡ false → is_filled (blocks_of bs) ≡ true
    filled-of [] e = not-so _ (sym e)
    filled-of (b ∷ bs) e = refl

parts-good : (n : ℕ) (c : Bounds) (ss : List Section) (bs : List Block) → AllCount ss
    → total_count ss ≡ length bs → Fits n false false bs → AreGood n false false (parts_by c ss bs)
parts-good n c [] bs counts is fine = tt
parts-good n c (s ∷ ss) bs counts is fine =
    let front = take s.count bs in
    let back = drop s.count bs in
    let both = subst (Fits n false false) (sym (take-append-drop s.count bs)) fine in
    let left : total_count ss ≡ length back = omega (arith, is, length-drop s.count bs) in
    good-append n false false (section_parts c s.fits front) (parts_by c ss back)
    (section-good n c s.fits front (taken s.count bs counts.0 (some-of (length bs) is))
    (fits-head n false false front back both))
    (parts-good n c ss back counts.1 left (fits-back n false false front back both))
  where
    taken : (k : ℕ) (xs : List Block) → 1 ≤ k → 1 ≤ length xs → is_none (take k xs) ≡ false
    taken zero xs h g = absurd (omega arith)
    taken (suc k) [] h g = absurd (omega arith)
    taken (suc k) (x ∷ xs) h g = refl

    some-of : (k : ℕ) → s.count + total_count ss ≡ k → 1 ≤ k
    some-of k e = omega (arith, counts.0)

document-good : (n : ℕ) (c : Bounds) (bs : List Block) → Fits n false false bs
    → AreGood n false false (document_parts c bs)
document-good n c [] fine = tt
document-good n c (b ∷ bs) fine =
    parts-good n c (sections c all_levels (b ∷ bs)) (b ∷ bs) (sections-counts c all_levels (b ∷ bs) refl)
    (sections-count c all_levels (b ∷ bs)) fine

-- ---- pieces

abbrev IsNormalPiece : Piece → Type 0
IsNormalPiece p = IsNormal p.blocks × (is_filled p.blocks ≡ true)

pieces-good : (path : List Heading) (next : ℕ) (parts : List Part) → AreGood most_nested false false parts
    → All IsNormalPiece (pieces_from path next parts)
pieces-good path next [] good k d within = absurd (omega arith)
pieces-good path next (p ∷ parts) good zero d within =
    let all = good-normal most_nested false false p.blocks good.0 in
    let bs = blocks_of p.blocks in (
      and_from (are_normal_blocks false bs) (nat_le (depth_among bs) most_nested) all.0
          (enough (depth_among bs) all.1),
      all.2,
    )
  where
    enough : (k : ℕ) → k ≤ most_nested → nat_le k most_nested ≡ true
    enough k h = grind (arith, nat_tests)
pieces-good path next (p ∷ parts) good (suc k) d within =
    pieces-good (path_behind_all path p.blocks) (begin next p.continues + length p.blocks) parts good.1 k d
    (omega arith)

pub pieces_are_normal : PiecesAreNormal
pieces_are_normal options most document normal =
    let bounds : Bounds = record { most = most; options = piece_options options } in
    let blocks = are_normal_blocks false document in
    let deep = nat_le (depth_among document) most_nested in
    pieces-good [] 0 (document_parts bounds (listed document))
    (document-good most_nested bounds (listed document)
    (record {
      fine = normal-fine most_nested false document (and_left blocks deep normal)
          (depth (depth_among document) (and_right blocks deep normal));
      tight = λ e. not-so _ e;
    }))
  where
    depth : (k : ℕ) → nat_le k most_nested ≡ true → k ≤ most_nested
    depth k h = grind (arith, nat_tests)
