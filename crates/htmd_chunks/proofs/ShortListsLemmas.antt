-- Parts of lists that are filled item by item fit, or can't be cut.
use Rattle.std.proofs.Common.{◌≡◌, ℕ, zero, suc, ◌+◌, ◌-◌, ◌/◌, ◌<◌, ◌≤◌, Bool, true, false, not, List, [], ◌∷◌}
use Rattle.std.proofs.Common.{length, refl, sym, ap, subst, arith, leb-true}
use Rattle.std.proofs.Common.{Option, Some, None, le_refl}
use Rattle.std.specs.Prelude.{◌||◌, nat_le, option_map}
use Rattle.std.proofs.lemmas.Bool.Decides.{nat_tests}
use Rattle.htmd_text.specs.Digits.{digits}
use Rattle.htmd_text.proofs.DigitsLemmas.{digits_more, digits_one}
use Rattle.htmd_markdown.specs.ListItems.{aligned_spaces}
use Rattle.htmd_document.specs.Documents.{Blocks, no_blocks, block, Items, no_items, item, items_of}
use Rattle.htmd_document.specs.FlatDocuments.{flat_items}
use Rattle.htmd_document.specs.NormalDocuments.{is_spread}
use Rattle.htmd_commonmark.specs.BlockMarkdown.{bounded, item_count}
use Rattle.htmd_commonmark.specs.declared.options.DocumentOptions.{DocumentOptions}
use Rattle.htmd_chunks.specs.Fillings.{list_of}
use Rattle.htmd_chunks.specs.Measures.{marker_len, item_width, block_size}
use Rattle.htmd_chunks.specs.Measures.{further_size, item_size, items_size, further_items_size, block_cost}
use Rattle.htmd_chunks.specs.Pieces.{piece_options}
use Rattle.htmd_chunks.specs.Sizes.{plus, gap_size, cost}
use Rattle.htmd_chunks.specs.declared.bounds.ListShape.{ListShape}
use Rattle.htmd_chunks.specs.declared.size.Margin.{Margin}
use Rattle.htmd_chunks.proofs.FlatSizesLemmas.{AtMost, most-same, most-plus, most-indented, most-cost}

-- ---- a part of a list takes no more than its items in the whole

gap-tight : (s t : Bool) → (t ≡ true → s ≡ true) → AtMost (gap_size s) (gap_size t)
gap-tight true true h = most-same (gap_size true) (gap_size true) refl
gap-tight true false h = record { bytes = omega arith; full = omega arith; empty = omega arith }
gap-tight false true h = absurd (let x : false ≡ true = h refl in cc)
gap-tight false false h = most-same (gap_size false) (gap_size false) refl

further-tight : (o : DocumentOptions) (s t : Bool) (bs : Blocks) → (t ≡ true → s ≡ true)
    → AtMost (further_size o s bs) (further_size o t bs)
further-tight o s t no_blocks h = most-same _ _ refl
further-tight o s t (block b rest) h =
    most-plus (plus (gap_size s) (block_size o b)) (plus (gap_size t) (block_size o b)) (further_size o s rest)
    (further_size o t rest)
    (most-plus (gap_size s) (gap_size t) (block_size o b) (block_size o b) (gap-tight s t h) (most-same _ _ refl))
    (further-tight o s t rest h)

-- the part of a list from this place on
record PartOf (o : DocumentOptions) (l whole : ListShape) (place : ℕ) : Type 0 where
  tight : whole.is_tight ≡ true → l.is_tight ≡ true
  width : (k : ℕ) → k < l.count → item_width o l k ≤ item_width o whole (place + k)
  marker : (k : ℕ) → marker_len l.start k ≡ marker_len whole.start (place + k)

item-most : (o : DocumentOptions) (l whole : ListShape) (place k : ℕ) (content : Blocks) → PartOf o l whole place
    → k < l.count → AtMost (item_size o l k content) (item_size o whole (place + k) content)
item-most o l whole place k no_blocks part within = record {
  bytes = omega (arith, part.marker k);
  full = omega arith;
  empty = omega arith;
}
item-most o l whole place k (block b bs) part within =
    most-indented (item_width o l k) (item_width o whole (place + k))
    (plus (block_size o b) (further_size o l.is_tight bs)) (plus (block_size o b) (further_size o whole.is_tight bs))
    (part.width k within)
    (most-plus (block_size o b) (block_size o b) (further_size o l.is_tight bs) (further_size o whole.is_tight bs)
    (most-same _ _ refl) (further-tight o l.is_tight whole.is_tight bs part.tight))

further-items-most : (o : DocumentOptions) (l whole : ListShape) (place k : ℕ) (items : Items)
    → PartOf o l whole place
    → k + item_count items ≤ l.count
    → AtMost (further_items_size o l k items) (further_items_size o whole (place + k) items)
further-items-most o l whole place k no_items part within = most-same _ _ refl
further-items-most o l whole place k (item first rest) part within =
    let next : suc (place + k) ≡ place + suc k = omega arith in
    most-plus (plus (gap_size l.is_tight) (item_size o l k first))
    (plus (gap_size whole.is_tight) (item_size o whole (place + k) first)) (further_items_size o l (suc k) rest)
    (further_items_size o whole (suc (place + k)) rest)
    (most-plus (gap_size l.is_tight) (gap_size whole.is_tight) (item_size o l k first)
    (item_size o whole (place + k) first) (gap-tight l.is_tight whole.is_tight part.tight)
    (item-most o l whole place k first part (omega (arith, within))))
    (subst (λ n. AtMost (further_items_size o l (suc k) rest) (further_items_size o whole n rest)) (sym next)
    (further-items-most o l whole place (suc k) rest part (omega (arith, within))))

items-most : (o : DocumentOptions) (l whole : ListShape) (place : ℕ) (items : Items) → PartOf o l whole place
    → item_count items ≤ l.count → AtMost (items_size o l 0 items) (items_size o whole place items)
items-most o l whole place no_items part within = most-same _ _ refl
items-most o l whole place (item first rest) part within =
    let here : place + 0 ≡ place = omega arith in
    let next : place + 1 ≡ suc place = omega arith in
    most-plus (item_size o l 0 first) (item_size o whole place first) (further_items_size o l 1 rest)
    (further_items_size o whole (suc place) rest)
    (subst (λ n. AtMost (item_size o l 0 first) (item_size o whole n first)) here
    (item-most o l whole place 0 first part (omega (arith, within))))
    (subst (λ n. AtMost (further_items_size o l 1 rest) (further_items_size o whole n rest)) next
    (further-items-most o l whole place 1 rest part (omega (arith, within))))

counted : (items : List Blocks) → item_count (items_of items) ≡ length items
counted [] = refl
counted (x ∷ items) = ap (λ n. suc n) (counted items)

-- ---- widths

digits-some : (n : ℕ) → 1 ≤ digits n
digits-some n =
    elim (nat_le 10 n) as (λ e. nat_le 10 n ≡ e → 1 ≤ digits n) [
      | true ↦ λ large. omega (arith, digits_more n (leb-true 10 n large))
      | false ↦ λ small. (let lt : n < 10 = grind (arith, nat_tests, small) in omega (arith, digits_one n lt))
    ] refl

digits-within : (fuel m n : ℕ) → n ≤ fuel → m ≤ n → digits m ≤ digits n
digits-within zero m n enough le = omega (arith, ap digits (let same : m ≡ n = omega (arith, enough, le) in same))
digits-within (suc fuel) m n enough le =
    elim (nat_le 10 m) as (λ e. nat_le 10 m ≡ e → digits m ≤ digits n) [
      | true ↦ λ large. (let first : 10 ≤ m = leb-true 10 m large in
          omega (
            arith,
            digits_more m first,
            digits_more n (omega (arith, first, le)),
            digits-within fuel (m / 10) (n / 10) (omega (arith, enough, first, le)) (omega (arith, le)),
          ))
      | false ↦ λ small. (let lt : m < 10 = grind (arith, nat_tests, small) in
          omega (arith, digits_one m lt, digits-some n))
    ] refl

digits-most : (m n : ℕ) → m ≤ n → digits m ≤ digits n
digits-most m n le = digits-within n m n (le_refl n) le

aligned-most : (spacing high more number : ℕ) → high ≤ more
    → bounded (aligned_spaces spacing high number) ≤ bounded (aligned_spaces spacing more number)
aligned-most spacing high more number le =
    let d : digits high ≤ digits more = digits-most high more le in
    omega (arith, d)

widths : (o : DocumentOptions) (start : Option ℕ) (t s : Bool) (count n place : ℕ) → place + n ≤ count
    → (t ≡ true → s ≡ true)
    → PartOf o (record { start = option_map (λ i. i + place) start; is_tight = s; count = n })
    (record { start = start; is_tight = t; count = count }) place
widths o None t s count n place within tight = record {
  tight = tight;
  width = λ k lt. omega arith;
  marker = λ k. refl;
}
widths o (Some i) t s count n place within tight =
    let same : (k : ℕ) → (i + place) + k ≡ i + (place + k) = (λ k. omega arith) in
    record {
      tight = tight;
      width = λ k lt.
          (let a = aligned-most o.ol_number_spacing ((i + place) + n - 1) (i + count - 1) ((i + place) + k)
          (omega (arith, within, lt)) in
          omega (
            arith,
            a,
            ap digits (same k),
            ap (λ j. bounded (aligned_spaces o.ol_number_spacing (i + count - 1) j)) (same k),
          ));
      marker = λ k. ap (λ j. digits j + 1) (same k);
    }

-- what a part of a list takes
abbrev pub items_taken : DocumentOptions → Margin → ListShape → ℕ → List Blocks → ℕ
items_taken options m l k items = cost m (items_size (piece_options options) l k (items_of items))

pub part-most : (options : DocumentOptions) (m : Margin) (l : ListShape) (place : ℕ) (items : List Blocks)
    → place + length items ≤ l.count
    → block_cost (piece_options options) m (list_of l place items) ≤ items_taken options m l place items
part-most options m l place items within =
    let o = piece_options options in
    let content = items_of items in
    let t = l.is_tight || not (is_spread (flat_items content)) in
    let p : ListShape =
    record { start = option_map (λ i. i + place) l.start; is_tight = t; count = item_count content } in
    most-cost m (items_size o p 0 content) (items_size o l place content)
    (items-most o p l place content
    (widths o l.start l.is_tight t l.count (item_count content) place (omega (arith, counted items, within))
    (λ is. ap (λ e. e || not (is_spread (flat_items content))) is))
    (le_refl (item_count content)))
