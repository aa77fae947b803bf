-- What normal blocks are cut into is normal.
use Rattle.std.proofs.Common.{◌≡◌, ℕ, suc, ◌+◌, ◌-◌, ◌≤◌, Bool, true, false, cond, List, [], ◌∷◌, ◌++◌, map}
use Rattle.std.proofs.Common.{refl, sym, ap, ◌∙◌, subst, append_assoc, arith, ◌⊎◌, inl, inr, max}
use Rattle.std.specs.Prelude.{◌&&◌, nat_le, replicate}
use Rattle.std.proofs.lemmas.Bool.{and_from}
use Rattle.htmd_document.specs.Documents.{Block, paragraph, heading, code_block, quote, thematic_break, list, table}
use Rattle.htmd_document.specs.Documents.{element, tags, Blocks, no_blocks, block, blocks_of, Items, no_items, item}
use Rattle.htmd_document.specs.Documents.{items_of}
use Rattle.htmd_document.specs.FlatDocuments.{flattened, flat_items}
use Rattle.htmd_document.specs.NormalDocuments.{is_normal_block, are_normal_blocks, are_normal_items}
use Rattle.htmd_document.specs.NormalDocuments.{depth_among, depth_of_items, is_normal_list, are_short_numbers}
use Rattle.htmd_document.specs.NormalDocuments.{has_filled_item, has_right_distance, may_be_tight, are_tight}
use Rattle.htmd_document.specs.NormalDocuments.{item_count as count_of}
use Rattle.htmd_document.specs.TightItems.{is_filled}
use Rattle.htmd_commonmark.specs.BlockMarkdown.{item_count}
use Rattle.htmd_chunks.specs.Cuts.{block_part, whole as whole_block, quote_part, quote_parts, cost_of_last}
use Rattle.htmd_chunks.specs.Cuts.{cost_of_last_blocks}
use Rattle.htmd_chunks.specs.Cuts.{cut, filled, items_filled}
use Rattle.htmd_chunks.specs.Fillings.{Part, BlockPart, Filling, filling, part_in, parts_in, with_whole, with_heads}
use Rattle.htmd_chunks.specs.Fillings.{with_parts, ListFilling, list_filling, list_parts_in, list_with_room}
use Rattle.htmd_chunks.specs.Fillings.{list_gap_in, with_whole_items, with_item_parts, with_empty_items}
use Rattle.htmd_chunks.specs.Least.{is_heading, is_too_large, least, least_among, empties_before, group_cost}
use Rattle.htmd_chunks.specs.Measures.{gap, block_cost, heads_cost, empties_cost, item_width}
use Rattle.htmd_chunks.specs.Pieces.{listed}
use Rattle.htmd_chunks.specs.Runs.{is_none}
use Rattle.htmd_chunks.specs.Sizes.{in_quote, in_item as in_list}
use Rattle.htmd_chunks.specs.declared.bounds.Bounds.{Bounds}
use Rattle.htmd_chunks.specs.declared.bounds.ListShape.{ListShape}
use Rattle.htmd_chunks.specs.declared.size.Margin.{Margin}
use Rattle.htmd_chunks.proofs.CutsLemmas.{cut-parts, items-joined, items-placed}
use Rattle.htmd_chunks.proofs.ListsLemmas.{at_start, at_first, placed-parts, empties-first}
use Rattle.htmd_chunks.proofs.NormalLeavesLemmas.{code-cut, table-cut, paragraph-cut}
use Rattle.htmd_chunks.proofs.NormalListsLemmas.{good-normal, normal-fine, FineItem, item-fits, ListState, closed-list}
use Rattle.htmd_chunks.proofs.NormalListsLemmas.{room-list, whole-list, begun-list, empties-list, list-pieces}
use Rattle.htmd_chunks.proofs.NormalListsLemmas.{flat-count}
use Rattle.htmd_chunks.proofs.NormalPartsLemmas.{Fits, IsGood, AreGood, good-append, IsPart, ArePieces, Pieces, alone}
use Rattle.htmd_chunks.proofs.NormalPartsLemmas.{pieces-of, State, first_in, fine-next, whole-state, heads-state}
use Rattle.htmd_chunks.proofs.NormalPartsLemmas.{parts-state}
use Rattle.htmd_chunks.proofs.NormalWordsLemmas.{not-so}
use Rattle.htmd_chunks.proofs.RunsLemmas.{and_left, and_right}

-- ---- quotes

quote-one : (in_item : Bool) (content : Blocks) (bs : List Block) → IsGood (depth_among content) false false bs
    → IsPart in_item (quote content) (quote (blocks_of bs))
quote-one in_item content bs h =
    let all = good-normal (depth_among content) false false bs h in
    record {
      normal = and_from (is_filled (blocks_of bs)) (are_normal_blocks false (blocks_of bs)) all.2 all.0;
      depth = deeper (depth_among (blocks_of bs)) (depth_among content) all.1;
      plain = refl;
      same = λ e. not-so _ e;
    }
  where
    deeper : (a c : ℕ) → a ≤ c → suc a ≤ suc c
    deeper a c h = omega arith

quote-rest : (content : Blocks) (parts : List Part) → AreGood (depth_among content) false false parts
    → ArePieces (quote content) (map quote_part parts)
quote-rest content [] good = tt
quote-rest content (p ∷ parts) good =
    (quote-one false content p.blocks good.0, quote-rest content parts good.1)

quote-pieces : (in_item : Bool) (content : Blocks) (parts : List Part)
    → AreGood (depth_among content) false false parts → is_none parts ≡ false
    → Pieces in_item (quote content) (quote_parts parts)
quote-pieces in_item content [] good some = not-so _ (sym some)
quote-pieces in_item content (p ∷ parts) good some =
    pieces-of in_item (quote content) (block_part [] (quote (blocks_of p.blocks))) (map quote_part parts) refl
    (quote-one in_item content p.blocks good.0) (λ e. not-so _ e) (quote-rest content parts good.1)

-- ---- what is filled

some-parts : (f : Filling) → is_none (parts_in f) ≡ false
some-parts f = at f.done
  where
    at : (ps : List Part) → is_none (ps ++ part_in f ∷ []) ≡ false
    at [] = refl
    at (p ∷ ps) = refl

without-end : (xs : List Block) (P : List Block → Type 0) → P (xs ++ []) → P xs
without-end xs P h = subst P (append-none xs) h
  where
    append-none : (xs : List Block) → xs ++ [] ≡ xs
    append-none [] = refl
    append-none (x ∷ xs) = ap (λ l. x ∷ l) (append-none xs)

pub all-good : (n : ℕ) (in_item is_tight : Bool) (f : Filling) → State n in_item is_tight f []
    → AreGood n in_item is_tight (parts_in f)
all-good n in_item is_tight f s =
    good-append n in_item is_tight f.done (part_in f ∷ []) s.done (
      record {
        some = without-end f.now (λ l. is_none l ≡ false) s.some;
        fits = without-end f.now (Fits n in_item is_tight) s.fits;
      },
      tt,
    )

pub begun-state : (n : ℕ) (in_item is_tight : Bool) (first : ℕ) (bs : Blocks)
    → Fits n in_item is_tight (listed bs)
    → is_filled bs ≡ true → State n in_item is_tight (filling first) ([] ++ listed bs)
begun-state n in_item is_tight first no_blocks fits some = not-so _ some
begun-state n in_item is_tight first (block b bs) fits some = record { done = tt; fits = fits; some = refl }

moved-state : (n : ℕ) (in_item is_tight : Bool) (f : Filling) (heads : List Block) (b : Block) (ys : List Block)
    → State n in_item is_tight f (heads ++ b ∷ ys) → State n in_item is_tight f ((heads ++ b ∷ []) ++ ys)
moved-state n in_item is_tight f heads b ys s =
    subst (State n in_item is_tight f) (sym (append_assoc heads (b ∷ []) ys)) s

some-behind : (heads : List Block) (b : Block) → is_none (heads ++ b ∷ []) ≡ false
some-behind [] b = refl
some-behind (h ∷ heads) b = refl

-- ---- items

-- all items are normal, tight where they have to be, and no deeper than that
record FineRest (n : ℕ) (is_tight : Bool) (items : Items) : Type 0 where
  normal : are_normal_items items ≡ true
  depth : depth_of_items items ≤ n
  tight : is_tight ≡ true → are_tight (flat_items items) ≡ true

rest-fine : (n : ℕ) (is_tight : Bool) (first : Blocks) (rest : Items) → FineRest n is_tight (item first rest)
    → FineItem n is_tight first × FineRest n is_tight rest
rest-fine n is_tight first rest h =
    let normal = are_normal_blocks true first in
    let others = are_normal_items rest in
    let tight = may_be_tight (flattened first) in
    let all_tight = are_tight (flat_items rest) in (
      record {
        normal = and_left normal others h.normal;
        depth = one (depth_among first) (depth_of_items rest) h.depth;
        tight = λ e. and_left tight all_tight (h.tight e);
      },
      record {
        normal = and_right normal others h.normal;
        depth = other (depth_among first) (depth_of_items rest) h.depth;
        tight = λ e. and_right tight all_tight (h.tight e);
      },
    )
  where
    one : (a c : ℕ) → max a c ≤ n → a ≤ n
    one a c h = omega arith

    other : (a c : ℕ) → max a c ≤ n → c ≤ n
    other a c h = omega arith

-- items from this place on, with so many empty ones before it, are normal and stand in the list
record FineFrom (n : ℕ) (l : ListShape) (k before : ℕ) (items : Items) : Type 0 where
  fine : FineRest n l.is_tight items
  count : k + item_count items ≤ l.count
  enough : before ≤ k + empties_before items

tight-items : (is_tight : Bool) (items : Items) → is_tight ≡ true → has_right_distance is_tight items ≡ true
    → are_tight items ≡ true
tight-items true items e h = h
tight-items false items e h = not-so _ e

-- a list of empty items alone isn't cut
either-pieces : (in_item : Bool) (b : Block) (parts : List BlockPart) (e : Bool)
    → (e ≡ true → Pieces in_item b parts) → Pieces in_item b (cond e parts (whole_block b))
either-pieces in_item b parts true pieces = pieces refl
either-pieces in_item b parts false pieces = alone (block_part [] b)

mutual
  pub cut-pieces : (c : Bounds) (m : Margin) (first : ℕ) (in_item : Bool) (b : Block)
      → is_normal_block in_item b ≡ true → Pieces in_item b (cut c m first b)
  cut-pieces c m first in_item (quote content) normal =
      let n = depth_among content in
      let f = filled c (in_quote m) false (filling first) [] content in
      let some = and_left (is_filled content) (are_normal_blocks false content) normal in
      let fits : Fits n false false (listed content) =
      record {
        fine = normal-fine n false content (and_right (is_filled content) (are_normal_blocks false content) normal)
            (omega arith);
        tight = λ e. not-so _ e;
      } in
      quote-pieces in_item content (parts_in f)
      (all-good n false false f
      (filled-state n false false c (in_quote m) (filling first) [] content
      (begun-state n false false first content fits some)))
      (some-parts f)
  cut-pieces c m first in_item (list start is_tight items) normal =
      let l : ListShape = record { start = start; is_tight = is_tight; count = item_count items } in
      let f = items_filled c m l (list_filling first) 0 (empties_before items) items in
      let flat = flat_items items in
      let shape = and_left (is_normal_list start is_tight flat) (are_normal_items items) normal in
      let inside = and_right (is_normal_list start is_tight flat) (are_normal_items items) normal in
      let numbers = are_short_numbers start (count_of flat) in
      let counted = and_left (has_filled_item flat && numbers) (has_right_distance is_tight flat) shape in
      let short : are_short_numbers start (item_count items) ≡ true =
      ap (are_short_numbers start) (sym (flat-count items)) ∙ and_right (has_filled_item flat) numbers counted in
      let right = and_right (has_filled_item flat && numbers) (has_right_distance is_tight flat) shape in
      let rest : FineRest (depth_of_items items) is_tight items =
      record { normal = inside; depth = omega arith; tight = λ e. tight-items is_tight flat e right } in
      let from : FineFrom (depth_of_items items) l 0 (empties_before items) items =
      record { fine = rest; count = omega arith; enough = omega arith } in
      either-pieces in_item (list start is_tight items) (list_parts_in l f) (has_filled_item items) (λ some.
      let s = items-state c m l items short (list_filling first) 0 (empties_before items) items from
      (record { done = tt; now = tt; count = omega arith; filled = inl refl }) (inr some) in
      list-pieces in_item l items (list_parts_in l f)
      (placed-parts l f.done f.first f.continues f.now
      (items-placed c m l (list_filling first) 0 (empties_before items) items at_first))
      (closed-list l items short f l.count s.0 (omega arith) s.1)
      (items-joined c m l (list_filling first) 0 (empties_before items) items (at_start []) inside (inr some)
      ∙ empties-first items))
  cut-pieces c m first in_item (table alignments header rows) normal =
      table-cut c m first in_item alignments header rows normal
  cut-pieces c m first in_item (code_block language s) normal = code-cut c m first in_item language s normal
  cut-pieces c m first in_item (paragraph content) normal = paragraph-cut c m first in_item content normal
  cut-pieces c m first in_item (heading level content) normal = alone (block_part [] (heading level content))
  cut-pieces c m first in_item thematic_break normal = alone (block_part [] thematic_break)
  cut-pieces c m first in_item (element name attributes content) normal =
      alone (block_part [] (element name attributes content))
  cut-pieces c m first in_item (tags s) normal = alone (block_part [] (tags s))

  pub filled-state : (n : ℕ) (in_item is_tight : Bool) (c : Bounds) (m : Margin) (f : Filling) (heads : List Block)
      (blocks : Blocks) → State n in_item is_tight f (heads ++ listed blocks)
      → State n in_item is_tight (filled c m is_tight f heads blocks) []
  filled-state n in_item is_tight c m f [] no_blocks s = s
  filled-state n in_item is_tight c m f (h ∷ heads) no_blocks s =
      whole-state n in_item is_tight c.most (gap m is_tight) f (h ∷ heads)
      (heads_cost c.options m is_tight (h ∷ heads) - gap m is_tight) [] refl s
  filled-state n in_item is_tight c m f heads (block first rest) s =
      let gap_bytes = gap m is_tight in
      let taken = heads_cost c.options m is_tight heads in
      let g = with_heads c.most gap_bytes f heads taken (taken + least c m first) in
      let room = g.free - g.used in
      let parts = cut c m room first in
      let last = cost_of_last c m parts in
      let cut_off = with_parts c.most g parts last in
      let together = taken + block_cost c.options m first in
      let kept = with_whole c.most gap_bytes f (heads ++ first ∷ []) together in
      let moved = moved-state n in_item is_tight f heads first (listed rest) s in
      let g_state = heads-state n in_item is_tight c.most gap_bytes f heads taken (taken + least c m first) first
      (listed rest) s in
      let normal = (fine-next n in_item g.now first (listed rest) g_state.fits.fine).0 in
      elim (is_heading first)
      as (λ b. State n in_item is_tight (cond b (filled c m is_tight f (heads ++ first ∷ []) rest)
      (filled c m is_tight (cond (is_too_large c m taken first) cut_off kept) [] rest)) []) [
        | true ↦ filled-state n in_item is_tight c m f (heads ++ first ∷ []) rest moved
        | false ↦
            elim (is_too_large c m taken first)
            as (λ b. State n in_item is_tight (filled c m is_tight (cond b cut_off kept) [] rest) []) [
              | true ↦
                  filled-state n in_item is_tight c m cut_off [] rest
                  (parts-state n in_item is_tight c.most g first parts last (listed rest) g_state
                  (cut-parts c m room (first_in in_item g.now) first normal)
                  (cut-pieces c m room (first_in in_item g.now) first normal))
              | false ↦
                  filled-state n in_item is_tight c m kept [] rest
                  (whole-state n in_item is_tight c.most gap_bytes f (heads ++ first ∷ []) together (listed rest)
                  (some-behind heads first) moved)
            ]
      ]

  items-state : (c : Bounds) (m : Margin) (l : ListShape) (whole : Items)
      (short : are_short_numbers l.start l.count ≡ true) (f : ListFilling) (k before : ℕ) (items : Items)
      → FineFrom (depth_of_items whole) l k before items
      → ListState l whole short f ((k + empties_before items) - before)
      → (has_filled_item (items_of f.now) ≡ true) ⊎ (has_filled_item items ≡ true)
      → ListState l whole short (items_filled c m l f k before items) l.count
      × (has_filled_item (items_of (items_filled c m l f k before items).now) ≡ true)
  items-state c m l whole short f k before no_items o s (inl some) = (
    record { done = s.done; now = s.now; count = reach (f.first) _ s.count o.count; filled = s.filled },
    some,
  )
    where
      reach : (a b : ℕ) → a + b ≤ (k + 0) - before → k + 0 ≤ l.count → a + b ≤ l.count
      reach a b h g = omega arith
  items-state c m l whole short f k before no_items o s (inr some) = not-so _ some
  items-state c m l whole short f k before (item no_blocks rest) o s some =
      let e = empties_before rest in
      let next : ListState l whole short f ((suc k + e) - before) =
      subst (ListState l whole short f) (at k e before) s in
      items-state c m l whole short f (suc k) before rest
      (record {
        fine = (rest-fine (depth_of_items whole) l.is_tight no_blocks rest o.fine).1;
        count = on k (item_count rest) o.count;
        enough = more before k e o.enough;
      })
      next some
    where
      at : (k e before : ℕ) → (k + suc e) - before ≡ (suc k + e) - before
      at k e before = omega arith

      on : (k n : ℕ) → k + suc n ≤ l.count → suc k + n ≤ l.count
      on k n h = omega arith

      more : (before k e : ℕ) → before ≤ k + suc e → before ≤ suc k + e
      more before k e h = omega arith
  items-state c m l whole short f k before (item (block b bs) rest) o s some =
      let content = block b bs in
      let place = k - before in
      let heads = empties_cost m l place before in
      let after = empties_before rest in
      let all = group_cost c m l k heads content after in
      let within = in_list (item_width c.options l k) m in
      let between = gap m l.is_tight in
      let group = replicate before no_blocks ++ content ∷ replicate after no_blocks in
      let kept = with_whole_items c.most between l f place group all in
      let least_bytes = heads + least_among c within l.is_tight 0 content in
      let g = list_with_room c.most between l f place least_bytes in
      let room = g.free - (g.used + list_gap_in between g + heads) in
      let filling_in = filled c within l.is_tight (filling room) [] content in
      let parts = parts_in filling_in in
      let h : ListFilling = record g { now = g.now ++ replicate before no_blocks } in
      let last = cost_of_last_blocks c within l.is_tight parts in
      let begun = with_item_parts c.most between l h k parts heads last in
      let cut_off = with_empty_items begun after (empties_cost m l (suc k) after) in
      let n = depth_of_items whole in
      let fine = rest-fine n l.is_tight content rest o.fine in
      let here : ListState l whole short f place =
      subst (ListState l whole short f) (same k before) s in
      let enough : before ≤ k = plain before k o.enough in
      let counts = item_count rest in
      let inside : suc k ≤ l.count = last_in k counts l.count o.count in
      let others : FineFrom n l (suc k) 0 rest =
      record {
        fine = fine.1;
        count = on k counts l.count o.count;
        enough = omega arith;
      } in
      let good = all-good n true l.is_tight filling_in
      (filled-state n true l.is_tight c within (filling room) [] (block b bs)
      (begun-state n true l.is_tight room content (item-fits n l.is_tight content fine.0) refl)) in
      let kept_state = whole-list l whole short c.most between f k before after content all here
      enough (before_in k l.count inside) fine.0 refl in
      let g_state = room-list l whole short c.most between f place least_bytes here
      (place_in k before l.count inside) in
      let begun_state = begun-list l whole short c.most between g k before parts heads last g_state
      enough inside good (some-parts filling_in) in
      let cut_state = empties-list l whole short begun k after (empties_cost m l (suc k) after)
      begun_state.0 begun_state.1 in
      elim (nat_le all c.most)
      as (λ e. ListState l whole short (items_filled c m l (cond e kept cut_off) (suc k) 0 rest) l.count
      × (has_filled_item (items_of (items_filled c m l (cond e kept cut_off) (suc k) 0 rest).now) ≡ true)) [
        | true ↦
            items-state c m l whole short kept (suc k) 0 rest others
            (subst (ListState l whole short kept) (less_none (suc k + after)) kept_state.0)
            (inl kept_state.1)
        | false ↦
            items-state c m l whole short cut_off (suc k) 0 rest others
            (subst (ListState l whole short cut_off) (less_none (suc k + after)) cut_state.0)
            (inl cut_state.1)
      ]
    where
      less_none : (n : ℕ) → n ≡ n - 0
      less_none n = omega arith

      same : (k before : ℕ) → (k + 0) - before ≡ k - before
      same k before = omega arith

      plain : (before k : ℕ) → before ≤ k + 0 → before ≤ k
      plain before k h = omega arith

      last_in : (k n count : ℕ) → k + suc n ≤ count → suc k ≤ count
      last_in k n count h = omega arith

      on : (k n count : ℕ) → k + suc n ≤ count → suc k + n ≤ count
      on k n count h = omega arith

      before_in : (k count : ℕ) → suc k ≤ count → k ≤ count
      before_in k count h = omega arith

      place_in : (k before count : ℕ) → suc k ≤ count → k - before ≤ count
      place_in k before count h = omega arith
