-- In a normal document each list and each quote puts at most 14 bytes before a line.
use Rattle.std.proofs.Common.{◌≡◌, refl, ℕ, suc, ◌+◌, ◌*◌, ◌≤◌, Bool, true, false, ap, arith}
use Rattle.std.proofs.lemmas.Bool.Decides.{nat_tests}
use Rattle.std.proofs.lemmas.Fmt.{length-decimal-le}
use Rattle.std.specs.Prelude.{◌&&◌, nat_le, Option, Some, None}
use Rattle.htmd_document.specs.DocumentLimits.{most_nested}
use Rattle.htmd_document.specs.Documents.{Block, Blocks, Items, paragraph, heading, code_block, quote}
use Rattle.htmd_document.specs.Documents.{thematic_break, list, table, element, tags, no_blocks, block, no_items, item}
use Rattle.htmd_document.specs.TightItems.{is_filled}
use Rattle.htmd_document.specs.FlatDocuments.{flat_items}
use Rattle.htmd_document.specs.DocumentLimits.{greatest_start}
use Rattle.htmd_document.specs.NormalDocuments.{item_count, are_short_numbers, has_filled_item, has_right_distance}
use Rattle.htmd_document.specs.NormalDocuments.{is_normal_block, are_normal_blocks, are_normal_items, depth_of}
use Rattle.htmd_document.specs.NormalDocuments.{depth_among, depth_of_items, is_normal_element, IsNormal}
use Rattle.htmd_law_sizes.specs.DocumentSizes.{width_of_marker, margin_of, margin_of_block, margin_of_items}

left : (a b : Bool) → (a && b) ≡ true → a ≡ true
left true b h = refl
left false b h = absurd (cc)

right : (a b : Bool) → (a && b) ≡ true → b ≡ true
right true b h = h
right false b h = absurd (cc)

-- the second of three
second : (a b c : Bool) → (a && b && c) ≡ true → b ≡ true
second true true c h = refl
second true false c h = absurd (cc)
second false b c h = absurd (cc)

at_most : (a b : ℕ) → nat_le a b ≡ true → a ≤ b
at_most a b h = grind (arith, nat_tests)

-- a number of nine digits at most, a sign and four spaces
narrow : (start : Option ℕ) (k count n : ℕ) → n ≡ k + suc count → are_short_numbers start n ≡ true
    → width_of_marker start k ≤ 14
narrow None k count n e h = omega arith
narrow (Some start) k count n e h =
    let i = at_most (start + n) (greatest_start + 1) h in
    let d = length-decimal-le 9 (start + k) (omega arith) (omega (arith, e, i)) (omega (arith, e, i)) in
    omega (arith, d)

flat_count : (items : Items) → item_count (flat_items items) ≡ item_count items
flat_count no_items = refl
flat_count (item first rest) = ap suc (flat_count rest)

mutual
  block_margin : (t : Bool) (b : Block) → is_normal_block t b ≡ true → margin_of_block b ≤ 14 * depth_of b
  block_margin t (paragraph content) h = omega arith
  block_margin t (heading level content) h = omega arith
  block_margin t (code_block language s) h = omega arith
  block_margin t (quote content) h =
      omega (arith, blocks_margin false content (right (is_filled content) (are_normal_blocks false content) h))
  block_margin t thematic_break h = omega arith
  block_margin t (list start is_tight items) h =
      let a = has_filled_item (flat_items items) in
      let b = are_short_numbers start (item_count (flat_items items)) in
      let c = has_right_distance is_tight (flat_items items) in
      let d = are_normal_items items in
      let i = left (a && b && c) d h in
      let n = flat_count items in
      items_margin start 0 (item_count (flat_items items)) items (omega (arith, n)) (second a b c i)
      (right (a && b && c) d h)
  block_margin t (table alignments header rows) h = omega arith
  block_margin t (element name attributes content) h =
      blocks_margin false content
      (right (is_normal_element name attributes content) (are_normal_blocks false content) h)
  block_margin t (tags s) h = omega arith

  blocks_margin : (t : Bool) (bs : Blocks) → are_normal_blocks t bs ≡ true → margin_of bs ≤ 14 * depth_among bs
  blocks_margin t no_blocks h = omega arith
  blocks_margin t (block b rest) h =
      let i = block_margin t b (left (is_normal_block t b) (are_normal_blocks false rest) h) in
      let j = blocks_margin false rest (right (is_normal_block t b) (are_normal_blocks false rest) h) in
      omega (arith, i, j)

  items_margin : (start : Option ℕ) (k n : ℕ) (items : Items) → n ≡ k + item_count items
      → are_short_numbers start n ≡ true → are_normal_items items ≡ true
      → margin_of_items start k items ≤ 14 * suc (depth_of_items items)
  items_margin start k n no_items e h i = omega arith
  items_margin start k n (item first rest) e h i =
      let a = narrow start k (item_count rest) n e h in
      let b = blocks_margin true first (left (are_normal_blocks true first) (are_normal_items rest) i) in
      let c = items_margin start (suc k) n rest (omega (arith, e)) h
      (right (are_normal_blocks true first) (are_normal_items rest) i) in
      omega (arith, a, b, c)

-- 32 lists and quotes stand in each other at most
pub normal_margin : (d : Blocks) → IsNormal d → margin_of d ≤ 448
normal_margin d h =
    let a = are_normal_blocks false d in
    let b = nat_le (depth_among d) most_nested in
    let i = blocks_margin false d (left a b h) in
    let j = at_most (depth_among d) most_nested (right a b h) in
    omega (arith, i, j)
