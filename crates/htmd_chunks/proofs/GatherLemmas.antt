-- Sections as they are gathered, and blocks as they are put into parts between headings.
use Rattle.std.proofs.Common.{◌≡◌, ℕ, zero, suc, ◌+◌, ◌-◌, Bool, true, false, not, ◌<◌, ◌≤◌, List, [], ◌∷◌, ◌++◌}
use Rattle.std.proofs.Common.{length, map, take, drop, get_or, refl, sym, ap, ◌∙◌, add-one, arith}
use Rattle.std.specs.Prelude.{◌&&◌, nat_le, nat_lt}
use Rattle.std.specs.List.{sum_by}
use Rattle.std.proofs.Math.Seq.{drop-cons}
use Rattle.std.proofs.lemmas.List.Sums.{sum_by-cons}
use Rattle.std.proofs.lemmas.List.{map-append, take_more, get_or-drop, length-drop, length-map, drop-map, take-map}
use Rattle.htmd_document.specs.Documents as value
use Rattle.htmd_document.specs.Documents.{blocks_of}
use Rattle.htmd_document.specs.DocumentViews.{block_of}
use Rattle.htmd_document.specs.declared.document.Block.{Block}
use Rattle.htmd_chunks.specs.Least.{is_heading}
use Rattle.htmd_chunks.specs.Measures.{block_size, block_cost, blocks_size, further_size}
use Rattle.htmd_chunks.specs.Sections.{is_of_level, end_in_other, level_parts, total_cost, block_costs, total, fitting}
use Rattle.htmd_chunks.specs.Sections.{gathered}
use Rattle.htmd_chunks.specs.Sizes.{no_margin, cost}
use Rattle.htmd_chunks.specs.declared.bounds.Bounds.{Bounds}
use Rattle.htmd_chunks.specs.declared.sections.Section.{Section}
use Rattle.htmd_chunks.specs.declared.size.Size.{Size}

-- ---- what blocks take

alone : (s : Size) → cost no_margin s ≡ s.bytes
alone s = omega arith

further-is : (c : Bounds) (bs : List value.Block)
    → sum_by (λ n. n + 2) (block_costs c bs) ≡ (further_size c.options false (blocks_of bs)).bytes
further-is c [] = refl
further-is c (b ∷ bs) =
    let later = further-is c bs in
    let here = alone (block_size c.options b) in
    let both = sum_by-cons (λ n. n + 2) (block_cost c.options no_margin b) (block_costs c bs) in
    omega (arith, later, here, both)

pub total-is : (c : Bounds) (bs : List value.Block) → total (block_costs c bs) ≡ total_cost c bs
total-is c [] = refl
total-is c (b ∷ bs) =
    let later = further-is c bs in
    let here = alone (block_size c.options b) in
    let all = alone (blocks_size c.options false (blocks_of (b ∷ bs))) in
    let both = sum_by-cons (λ n. n + 2) (block_cost c.options no_margin b) (block_costs c bs) in
    omega (arith, later, here, all, both)

-- ---- one more part

module _ (c : Bounds) (further : List value.Block → List Section) (count used : ℕ) (part : List value.Block)
    (parts : List (List value.Block)) where
  pub gather_more : (nat_lt 0 count && nat_le (used + 2 + total_cost c part) c.most) ≡ true
      → gathered c further count used (part ∷ parts)
      ≡ gathered c further (count + length part) (used + 2 + total_cost c part) parts
  gather_more h = rw h

  pub gather_alone : (nat_lt 0 count && nat_le (used + 2 + total_cost c part) c.most) ≡ false
      → nat_le (total_cost c part) c.most ≡ true → gathered c further count used (part ∷ parts)
      ≡ fitting count ++ gathered c further (length part) (total_cost c part) parts
  gather_alone h fits = rw (h, fits)

  pub gather_cut : (nat_lt 0 count && nat_le (used + 2 + total_cost c part) c.most) ≡ false
      → nat_le (total_cost c part) c.most ≡ false → gathered c further count used (part ∷ parts)
      ≡ fitting count ++ (further part ++ gathered c further 0 0 parts)
  gather_cut h over = rw (h, over)

-- ---- parts between headings

pub slice_more : {A : Type 0} (xs : List A) (from i : ℕ) (x : A) → from ≤ i → i < length xs
    → x ≡ get_or xs i x
    → take ((i + 1) - from) (drop from xs) ≡ take (i - from) (drop from xs) ++ x ∷ []
slice_more xs from i x after within is =
    let k = i - from in
    let count : (i + 1) - from ≡ k + 1 = omega arith in
    let at : from + k ≡ i = omega arith in
    ap (λ n. take n (drop from xs)) count ∙ take_more (drop from xs) k x (omega (arith, length-drop from xs))
    ∙ ap (λ y. take k (drop from xs) ++ y ∷ [])
    (get_or-drop from xs k x ∙ ap (λ n. get_or xs n x) at ∙ sym is)

ends-more : (bs : List value.Block) (b : value.Block) → end_in_other (bs ++ b ∷ []) ≡ not (is_heading b)
ends-more [] b = refl
ends-more (c ∷ []) b = refl
ends-more (c ∷ d ∷ bs) b = ends-more (d ∷ bs) b

-- what stands in the part so far ends with the block before
pub ends-before : (bs : List Block) (from i : ℕ) (b : Block) → from < i → i ≤ length bs
    → b ≡ get_or bs (i - 1) b
    → end_in_other (map block_of (take (i - from) (drop from bs))) ≡ not (is_heading (block_of b))
ends-before bs from zero b after within is = absurd (omega arith)
ends-before bs from (suc i) b after within is =
    let here : b ≡ get_or bs i b = is ∙ ap (λ k. get_or bs k b) (omega arith) in
    let count : suc i - from ≡ (i + 1) - from = omega arith in
    ap (λ k. end_in_other (map block_of (take k (drop from bs)))) count
    ∙ ap (λ l. end_in_other (map block_of l)) (slice_more bs from i b (omega arith) (omega arith) here)
    ∙ ap end_in_other (map-append block_of (take (i - from) (drop from bs)) (b ∷ []))
    ∙ ends-more (map block_of (take (i - from) (drop from bs))) (block_of b)

pub none-before : (bs : List Block) (from i : ℕ) → i ≤ from
    → end_in_other (map block_of (take (i - from) (drop from bs))) ≡ false
none-before bs from i before =
    let none : i - from ≡ 0 = omega arith in
    ap (λ k. end_in_other (map block_of (take k (drop from bs)))) none

behind_one : (bs : List Block) (i : ℕ) (b : Block) → i < length bs → b ≡ get_or bs i b
    → map block_of (drop i bs) ≡ block_of b ∷ map block_of (drop (i + 1) bs)
behind_one bs i b within is =
    ap (map block_of) (drop-cons bs i b within)
    ∙ ap (λ x. block_of x ∷ map block_of (drop (suc i) bs)) (sym is)
    ∙ ap (λ k. block_of b ∷ map block_of (drop k bs)) (sym (add-one i))

-- the block goes on the part
pub part_more : (level : ℕ) (bs : List Block) (from i : ℕ) (b : Block) → from ≤ i → i < length bs
    → b ≡ get_or bs i b
    → (is_of_level level (block_of b) && end_in_other (map block_of (take (i - from) (drop from bs)))) ≡ false
    → level_parts level (map block_of (take (i - from) (drop from bs))) (map block_of (drop i bs))
    ≡ level_parts level (map block_of (take ((i + 1) - from) (drop from bs))) (map block_of (drop (i + 1) bs))
part_more level bs from i b after within is goes =
    let begun = map block_of (take (i - from) (drop from bs)) in
    ap (level_parts level begun) (behind_one bs i b within is)
    ∙ on_part level begun (block_of b) (map block_of (drop (i + 1) bs)) goes
    ∙ ap (λ l. level_parts level l (map block_of (drop (i + 1) bs)))
    (sym (map-append block_of (take (i - from) (drop from bs)) (b ∷ []))
    ∙ ap (map block_of) (sym (slice_more bs from i b after within is))) where
      on_part : (level : ℕ) (begun : List value.Block) (b : value.Block) (rest : List value.Block)
          → (is_of_level level b && end_in_other begun) ≡ false
          → level_parts level begun (b ∷ rest) ≡ level_parts level (begun ++ b ∷ []) rest
      on_part level begun b rest h = rw h

-- or it begins another
pub part_begun : (level : ℕ) (bs : List Block) (from i : ℕ) (b : Block) → i < length bs → b ≡ get_or bs i b
    → (is_of_level level (block_of b) && end_in_other (map block_of (take (i - from) (drop from bs)))) ≡ true
    → level_parts level (map block_of (take (i - from) (drop from bs))) (map block_of (drop i bs))
    ≡ map block_of (take (i - from) (drop from bs))
    ∷ level_parts level (map block_of (take ((i + 1) - i) (drop i bs))) (map block_of (drop (i + 1) bs))
part_begun level bs from i b within is begins =
    let begun = map block_of (take (i - from) (drop from bs)) in
    let rest = map block_of (drop (i + 1) bs) in
    let none : i - i ≡ 0 = omega arith in
    let one : take ((i + 1) - i) (drop i bs) ≡ b ∷ [] =
    slice_more bs i i b (omega arith) within is ∙ ap (λ k. take k (drop i bs) ++ b ∷ []) none in
    ap (level_parts level begun) (behind_one bs i b within is)
    ∙ begins_one level begun (block_of b) rest begins
    ∙ ap (λ l. begun ∷ level_parts level (map block_of l) rest) (sym one) where
      begins_one : (level : ℕ) (begun : List value.Block) (b : value.Block) (rest : List value.Block)
          → (is_of_level level b && end_in_other begun) ≡ true
          → level_parts level begun (b ∷ rest) ≡ begun ∷ level_parts level (b ∷ []) rest
      begins_one level begun b rest h = rw h

pub at_index : {A : Type 0} (xs : List A) (i : ℕ) → i < length xs → (x : A) × (x ≡ get_or xs i x)
at_index [] i within = absurd (omega arith)
at_index (x ∷ xs) zero within = (x, refl)
at_index (x ∷ xs) (suc i) within = at_index xs i (omega arith)

pub and-false : (a b : Bool) → b ≡ false → (a && b) ≡ false
and-false true b none = none
and-false false b none = refl

-- the state of the loop by other names
pub same_state : (c : Bounds) (further : List value.Block → List Section) (level : ℕ) (bs : List Block) (i : ℕ)
    (all done done2 : List Section) (count count2 used used2 from from2 : ℕ) → done2 ≡ done → count2 ≡ count
    → used2 ≡ used → from2 ≡ from
    → all ≡ done ++ gathered c further count used
    (level_parts level (map block_of (take (i - from) (drop from bs))) (map block_of (drop i bs)))
    → all ≡ done2 ++ gathered c further count2 used2
    (level_parts level (map block_of (take (i - from2) (drop from2 bs))) (map block_of (drop i bs)))
same_state c further level bs i all done done2 count count2 used used2 from from2 dones counts useds froms h =
    rw (dones, counts, useds, froms) h

-- the costs of a slice are a slice of the costs
pub slice_costs : (c : Bounds) (bs : List Block) (costs : List ℕ) (from n : ℕ)
    → costs ≡ block_costs c (map block_of bs)
    → take n (drop from costs) ≡ block_costs c (map block_of (take n (drop from bs)))
slice_costs c bs costs from n all =
    let each : value.Block → ℕ = λ b. block_cost c.options no_margin b in
    ap (λ l. take n (drop from l)) all ∙ ap (take n) (drop-map each from (map block_of bs))
    ∙ take-map each n (drop from (map block_of bs))
    ∙ ap (λ l. map each (take n l)) (drop-map block_of from bs)
    ∙ ap (map each) (take-map block_of n (drop from bs))

pub rest_costs : (c : Bounds) (bs : List Block) (costs : List ℕ) (from : ℕ)
    → costs ≡ block_costs c (map block_of bs)
    → take (length costs - from) (drop from costs)
    ≡ block_costs c (map block_of (take (length bs - from) (drop from bs)))
rest_costs c bs costs from all =
    let count : length costs ≡ length bs =
    ap length all ∙ length-map (map block_of bs) (λ b. block_cost c.options no_margin b)
    ∙ length-map bs block_of in
    ap (λ n. take (n - from) (drop from costs)) count ∙ slice_costs c bs costs from (length bs - from) all
