-- The parts of a document are joined to it.
use Rattle.std.proofs.Common.{◌≡◌, ℕ, zero, suc, ◌+◌, Bool, true, false, cond, List, [], ◌∷◌, ◌++◌, length, take}
use Rattle.std.proofs.Common.{drop, refl, sym}
use Rattle.std.proofs.Common.{ap, ◌∙◌, arith, length-append, length-drop, add-zero}
use Rattle.std.specs.Prelude.{◌&&◌, nat_le, nat_lt}
use Rattle.std.proofs.lemmas.List.{take-append-drop}
use Rattle.htmd_document.specs.Documents.{Block, Blocks, no_blocks, blocks_of}
use Rattle.htmd_document.specs.NormalDocuments.{is_normal_block, are_normal_blocks}
use Rattle.htmd_chunks.specs.Fillings.{filling}
use Rattle.htmd_chunks.specs.Joins.{blocks_behind}
use Rattle.htmd_chunks.specs.Sections.{is_of_level, end_in_other, level_parts, total_cost, fitting, gathered}
use Rattle.htmd_chunks.specs.Sections.{sections}
use Rattle.htmd_chunks.specs.Sections.{section_parts, parts_by, document_parts, all_levels}
use Rattle.htmd_chunks.specs.Sizes.{no_margin}
use Rattle.htmd_chunks.specs.declared.bounds.Bounds.{Bounds}
use Rattle.htmd_chunks.specs.declared.sections.Section.{Section}
use Rattle.htmd_chunks.proofs.CutsLemmas.{filled-joined}
use Rattle.htmd_chunks.proofs.FillingsLemmas.{own}
use Rattle.htmd_chunks.proofs.JoinsLemmas.{behind-none, behind-assoc, blocks_of-append, parts_joined}
use Rattle.htmd_chunks.proofs.JoinsLemmas.{parts_joined-append}
use Rattle.htmd_chunks.proofs.RunsLemmas.{and_left, and_right}

-- ---- sections have all blocks

abbrev pub total_count : List Section → ℕ
total_count [] = 0
total_count (s ∷ rest) = s.count + total_count rest

abbrev pub total_length : List (List Block) → ℕ
total_length [] = 0
total_length (bs ∷ rest) = length bs + total_length rest

total_count-append : (ss ts : List Section) → total_count (ss ++ ts) ≡ total_count ss + total_count ts
total_count-append [] ts = omega arith
total_count-append (s ∷ ss) ts = omega (arith, total_count-append ss ts)

fitting-count : (count : ℕ) → total_count (fitting count) ≡ count
fitting-count zero = refl
fitting-count (suc n) = add-zero (suc n)

level_parts-length : (level : ℕ) (begun bs : List Block)
    → total_length (level_parts level begun bs) ≡ length begun + length bs
level_parts-length level begun [] = refl
level_parts-length level begun (b ∷ bs) =
    elim (is_of_level level b && end_in_other begun)
    as (λ e. total_length (cond e (begun ∷ level_parts level (b ∷ []) bs)
    (level_parts level (begun ++ b ∷ []) bs))
    ≡ length begun + suc (length bs)) [
      | true ↦ omega (arith, level_parts-length level (b ∷ []) bs)
      | false ↦ omega (arith, level_parts-length level (begun ++ b ∷ []) bs, length-append begun (b ∷ []))
    ]

gathered-count : (c : Bounds) (further : List Block → List Section)
    → ((part : List Block) → total_count (further part) ≡ length part)
    → (count used : ℕ) (parts : List (List Block))
    → total_count (gathered c further count used parts) ≡ count + total_length parts
gathered-count c further all count used [] = fitting-count count ∙ sym (add-zero count)
gathered-count c further all count used (part ∷ parts) =
    let taken = total_cost c part in
    let together = gathered c further (count + length part) (used + 2 + taken) parts in
    let alone = gathered c further (length part) taken parts in
    let apart = further part ++ gathered c further 0 0 parts in
    let rest = cond (nat_le taken c.most) alone apart in
    let rest_count : total_count rest ≡ length part + total_length parts =
    elim (nat_le taken c.most)
    as (λ e. total_count (cond e alone apart) ≡ length part + total_length parts) [
      | true ↦ gathered-count c further all (length part) taken parts
      | false ↦
          total_count-append (further part) (gathered c further 0 0 parts)
          ∙ omega (arith, all part, gathered-count c further all 0 0 parts)
    ] in
    elim (nat_lt 0 count && nat_le (used + 2 + taken) c.most)
    as (λ e. total_count (cond e together (fitting count ++ rest)) ≡ count + (length part + total_length parts)) [
      | true ↦ omega (arith, gathered-count c further all (count + length part) (used + 2 + taken) parts)
      | false ↦
          total_count-append (fitting count) rest ∙ omega (arith, fitting-count count, rest_count)
    ]

pub sections-count : (c : Bounds) (levels : List ℕ) (bs : List Block)
    → total_count (sections c levels bs) ≡ length bs
sections-count c [] bs = add-zero (length bs)
sections-count c (level ∷ levels) bs =
    gathered-count c (λ part. sections c levels part) (sections-count c levels) 0 0 (level_parts level [] bs)
    ∙ omega (arith, level_parts-length level [] bs)

-- ---- normal blocks, in parts

normal-take : (n : ℕ) (bs : List Block) → are_normal_blocks false (blocks_of bs) ≡ true
    → are_normal_blocks false (blocks_of (take n bs)) ≡ true
normal-take zero bs normal = refl
normal-take (suc n) [] normal = refl
normal-take (suc n) (b ∷ bs) normal =
    let first = and_left (is_normal_block false b) (are_normal_blocks false (blocks_of bs)) normal in
    let rest = normal-take n bs (and_right (is_normal_block false b) (are_normal_blocks false (blocks_of bs)) normal) in
    ap (λ x. x && are_normal_blocks false (blocks_of (take n bs))) first ∙ rest

normal-drop : (n : ℕ) (bs : List Block) → are_normal_blocks false (blocks_of bs) ≡ true
    → are_normal_blocks false (blocks_of (drop n bs)) ≡ true
normal-drop zero bs normal = normal
normal-drop (suc n) [] normal = refl
normal-drop (suc n) (b ∷ bs) normal =
    normal-drop n bs (and_right (is_normal_block false b) (are_normal_blocks false (blocks_of bs)) normal)

-- ---- parts

section-joined : (c : Bounds) (d : Blocks) (fits : Bool) (bs : List Block)
    → are_normal_blocks false (blocks_of bs) ≡ true
    → parts_joined d (section_parts c fits bs) ≡ blocks_behind d (blocks_of bs)
section-joined c d true bs normal = refl
section-joined c d false bs normal =
    filled-joined c no_margin false d (filling c.most) [] (blocks_of bs) false (own []) normal
    ∙ ap (λ a. blocks_behind a (blocks_of bs)) (behind-none (blocks_behind d no_blocks) ∙ behind-none d)

parts_by-joined : (c : Bounds) (d : Blocks) (ss : List Section) (bs : List Block) → total_count ss ≡ length bs
    → are_normal_blocks false (blocks_of bs) ≡ true
    → parts_joined d (parts_by c ss bs) ≡ blocks_behind d (blocks_of bs)
parts_by-joined c d [] [] is normal = sym (behind-none d)
parts_by-joined c d [] (b ∷ bs) is normal = absurd (omega arith)
parts_by-joined c d (s ∷ ss) bs is normal =
    let front = take s.count bs in
    let back = drop s.count bs in
    let count : total_count ss ≡ length back = omega (arith, length-drop s.count bs) in
    parts_joined-append d (section_parts c s.fits front) (parts_by c ss back)
    ∙ ap (λ a. parts_joined a (parts_by c ss back)) (section-joined c d s.fits front (normal-take s.count bs normal))
    ∙ parts_by-joined c (blocks_behind d (blocks_of front)) ss back count (normal-drop s.count bs normal)
    ∙ behind-assoc d (blocks_of front) (blocks_of back)
    ∙ ap (blocks_behind d) (sym (blocks_of-append front back) ∙ ap blocks_of (take-append-drop s.count bs))

pub document-joined : (c : Bounds) (bs : List Block) → are_normal_blocks false (blocks_of bs) ≡ true
    → parts_joined no_blocks (document_parts c bs) ≡ blocks_of bs
document-joined c [] normal = refl
document-joined c (b ∷ bs) normal =
    parts_by-joined c no_blocks (sections c all_levels (b ∷ bs)) (b ∷ bs) (sections-count c all_levels (b ∷ bs))
    normal
