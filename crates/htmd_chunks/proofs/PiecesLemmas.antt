-- Headings above, and one more piece.
use Rattle.std.proofs.Common.{◌≡◌, ℕ, zero, suc, ◌+◌, true, false, cond, List, [], ◌∷◌, ◌++◌, map, take, drop, refl}
use Rattle.std.proofs.Common.{sym, ap, ◌∙◌, append_assoc, add-one}
use Rattle.std.specs.Prelude.{filter, nat_lt}
use Rattle.std.proofs.lemmas.List.{drop-map, take-map}
use Rattle.htmd_document.specs.Documents as value
use Rattle.htmd_document.specs.DocumentViews.{block_of}
use Rattle.htmd_document.specs.declared.document.Block.{Block}
use Rattle.htmd_chunks.specs.ChunkViews.{heading_of}
use Rattle.htmd_chunks.specs.Fillings.{Part}
use Rattle.htmd_chunks.specs.Pieces.{above, listed}
use Rattle.htmd_chunks.specs.Sections.{section_parts, parts_by}
use Rattle.htmd_chunks.specs.declared.bounds.Bounds.{Bounds}
use Rattle.htmd_chunks.specs.declared.pieces.Heading.{Heading}
use Rattle.htmd_chunks.specs.declared.sections.Section.{Section}

pub above-views : (level : ℕ) (path : List Heading)
    → map heading_of (filter (λ h. nat_lt h.level level) path) ≡ above level (map heading_of path)
above-views level [] = refl
above-views level (h ∷ path) =
    elim (nat_lt h.level level)
    as (λ b. map heading_of (cond b (h ∷ filter (λ h. nat_lt h.level level) path)
    (filter (λ h. nat_lt h.level level) path))
    ≡ cond b (heading_of h ∷ above level (map heading_of path)) (above level (map heading_of path))) [
      | true ↦ ap (λ l. heading_of h ∷ l) (above-views level path)
      | false ↦ above-views level path
    ]

-- ---- the next of a list

some_next : {A : Type 0} (xs : List A) (i : ℕ) (x : A) (rest : List A) → drop i xs ≡ x ∷ rest
    → (take (suc i) xs ≡ take i xs ++ x ∷ []) × (drop (suc i) xs ≡ rest)
some_next [] zero x rest next = absurd (cc)
some_next [] (suc i) x rest next = absurd (cc)
some_next (y ∷ xs) zero x rest next =
    let first : y ≡ x = cc in
    let later : xs ≡ rest = cc in (
      ap (λ z. z ∷ []) first,
      later,
    )
some_next (y ∷ xs) (suc i) x rest next = let h = some_next xs i x rest next in (ap (λ l. y ∷ l) h.0, h.1)

none_next : {A : Type 0} (xs : List A) (i : ℕ) → drop i xs ≡ []
    → (take (suc i) xs ≡ take i xs) × (drop (suc i) xs ≡ [])
none_next [] zero next = (refl, refl)
none_next [] (suc i) next = (refl, refl)
none_next (y ∷ xs) zero next = absurd (cc)
none_next (y ∷ xs) (suc i) next = let h = none_next xs i next in (ap (λ l. y ∷ l) h.0, h.1)

pub some_taken : {A : Type 0} (all : List A) (i : ℕ) (x : A) (taken taken2 rest rest2 : List A)
    → taken ≡ take i all
    → rest ≡ drop i all → rest ≡ x ∷ rest2 → taken2 ≡ taken ++ x ∷ []
    → (taken2 ≡ take (i + 1) all) × (rest2 ≡ drop (i + 1) all)
some_taken all i x taken taken2 rest rest2 so_far left next put =
    let h = some_next all i x rest2 (sym left ∙ next) in (
      put ∙ ap (λ l. l ++ x ∷ []) so_far ∙ sym h.0 ∙ ap (λ k. take k all) (sym (add-one i)),
      sym h.1 ∙ ap (λ k. drop k all) (sym (add-one i)),
    )

pub none_taken : {A : Type 0} (all : List A) (i : ℕ) (taken taken2 rest rest2 : List A) → taken ≡ take i all
    → rest ≡ drop i all → rest ≡ [] → rest2 ≡ [] → taken2 ≡ taken
    → (taken2 ≡ take (i + 1) all) × (rest2 ≡ drop (i + 1) all)
none_taken all i taken taken2 rest rest2 so_far left none none2 put =
    let h = none_next all i (sym left ∙ none) in (
      put ∙ so_far ∙ sym h.0 ∙ ap (λ k. take k all) (sym (add-one i)),
      none2 ∙ sym h.1 ∙ ap (λ k. drop k all) (sym (add-one i)),
    )

-- ---- the parts of a section more

pub section_step : (c : Bounds) (all parts parts2 : List Part) (s : Section) (rest : List Section)
    (left taken left2 : List Block) (more : List Section)
    → all ≡ parts ++ parts_by c more (map block_of left) → more ≡ s ∷ rest
    → taken ≡ take s.count left → left2 ≡ drop s.count left
    → parts2 ≡ parts ++ section_parts c s.fits (map block_of taken)
    → all ≡ parts2 ++ parts_by c rest (map block_of left2)
section_step c all parts parts2 s rest left taken left2 more so_far next takes leaves put =
    let here : map block_of taken ≡ take s.count (map block_of left) =
    ap (map block_of) takes ∙ sym (take-map block_of s.count left) in
    let later : map block_of left2 ≡ drop s.count (map block_of left) =
    ap (map block_of) leaves ∙ sym (drop-map block_of s.count left) in
    so_far ∙ ap (λ m. parts ++ parts_by c m (map block_of left)) next
    ∙ ap (λ l. parts ++ (section_parts c s.fits l ++ parts_by c rest (drop s.count (map block_of left)))) (sym here)
    ∙ ap (λ l. parts ++ (section_parts c s.fits (map block_of taken) ++ parts_by c rest l)) (sym later)
    ∙ sym (append_assoc parts (section_parts c s.fits (map block_of taken)) (parts_by c rest (map block_of left2)))
    ∙ ap (λ l. l ++ parts_by c rest (map block_of left2)) (sym put)

pub listed-of : (bs : List value.Block) → listed (value.blocks_of bs) ≡ bs
listed-of [] = refl
listed-of (b ∷ bs) = ap (λ l. b ∷ l) (listed-of bs)
