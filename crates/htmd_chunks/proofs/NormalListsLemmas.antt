-- What lists are cut into is normal.
use Rattle.std.proofs.Common.{◌≡◌, ℕ, zero, suc, ◌+◌, ◌-◌, ◌≤◌, Bool, true, false, not, cond, List, [], ◌∷◌, ◌++◌}
use Rattle.std.proofs.Common.{length, refl, sym, ap, ◌∙◌, subst, append_assoc, arith, ◌⊎◌, inl, inr, length-append, max}
use Rattle.std.specs.Prelude.{◌&&◌, ◌||◌, nat_le, replicate, option_map, Option, Some, None}
use Rattle.std.proofs.lemmas.Bool.{and_from}
use Rattle.std.proofs.lemmas.Bool.Decides.{nat_tests}
use Rattle.std.proofs.lemmas.List.{length-replicate}
use Rattle.htmd_document.specs.DocumentLimits.{greatest_start}
use Rattle.htmd_document.specs.Documents.{Block, paragraph, heading, code_block, quote, thematic_break, list, table}
use Rattle.htmd_document.specs.Documents.{element, tags, Blocks, no_blocks, block, blocks_of, Items, no_items, item}
use Rattle.htmd_document.specs.Documents.{items_of}
use Rattle.htmd_document.specs.FlatDocuments.{line_before, element_before, flat_before, flat_all, flattened, flat_items}
use Rattle.htmd_document.specs.FlatDocuments.{text_in_line, flat_block}
use Rattle.htmd_document.specs.NormalDocuments.{is_normal_block, are_normal_blocks, are_normal_items, depth_of}
use Rattle.htmd_document.specs.NormalDocuments.{depth_among, depth_of_items, are_short_numbers, has_filled_item}
use Rattle.htmd_document.specs.NormalDocuments.{may_be_tight, are_tight, is_spread, has_right_distance, is_normal_list}
use Rattle.htmd_document.specs.NormalDocuments.{item_count as count_of}
use Rattle.htmd_document.specs.TightItems.{is_filled, begins_with_blocks, is_one_or_none, is_short, is_tight_item}
use Rattle.htmd_document.specs.TightItems.{goes_on_a_paragraph}
use Rattle.htmd_document.specs.Tags.{end_of_element, element_line, element_tag}
use Rattle.htmd_commonmark.specs.BlockMarkdown.{item_count}
use Rattle.htmd_chunks.specs.Fillings.{Part, BlockPart, ListFilling, list_of, list_part, list_parts_in, list_flushed}
use Rattle.htmd_chunks.specs.Fillings.{list_gap_in, list_with_room, with_whole_items, with_further_items}
use Rattle.htmd_chunks.specs.Fillings.{with_item_parts}
use Rattle.htmd_chunks.specs.Fillings.{with_empty_items}
use Rattle.htmd_chunks.specs.Joins.{items_behind, join, join_items}
use Rattle.htmd_chunks.specs.Pieces.{listed}
use Rattle.htmd_chunks.specs.Runs.{is_none}
use Rattle.htmd_chunks.specs.declared.bounds.ListShape.{ListShape}
use Rattle.htmd_chunks.specs.declared.joint.Joint.{Joint}
use Rattle.htmd_chunks.specs.declared.joint.Joint.TheVariants as joint
use Rattle.htmd_chunks.proofs.JoinsLemmas.{blocks_of-listed}
use Rattle.htmd_chunks.proofs.ListsLemmas.{items_in, within_of, all_items, AreOfList, of_list, same-start}
use Rattle.htmd_chunks.proofs.NormalFlatLemmas.{LinesOrOther, are_lines, other_block, lines_or, line-other}
use Rattle.htmd_chunks.proofs.NormalPartsLemmas.{AllFine, Fits, IsGood, AreGood, IsPart, ArePieces, Pieces, pieces-of}
use Rattle.htmd_chunks.proofs.NormalWordsLemmas.{not-so}
use Rattle.htmd_chunks.proofs.RunsLemmas.{and_left, and_right}

-- ---- blocks as values

fine-normal : (n : ℕ) (in_item : Bool) (bs : List Block) → AllFine n in_item bs
    → are_normal_blocks in_item (blocks_of bs) ≡ true
fine-normal n in_item [] h = refl
fine-normal n in_item (b ∷ bs) h =
    and_from (is_normal_block in_item b) (are_normal_blocks false (blocks_of bs)) h.0.0 (fine-normal n false bs h.1)

fine-depth : (n : ℕ) (in_item : Bool) (bs : List Block) → AllFine n in_item bs → depth_among (blocks_of bs) ≤ n
fine-depth n in_item [] h = omega arith
fine-depth n in_item (b ∷ bs) h = most (depth_of b) (depth_among (blocks_of bs)) n h.0.1 (fine-depth n false bs h.1)
  where
    most : (a c n : ℕ) → a ≤ n → c ≤ n → max a c ≤ n
    most a c n g h = omega arith

pub good-normal : (n : ℕ) (in_item is_tight : Bool) (bs : List Block) → IsGood n in_item is_tight bs
    → (are_normal_blocks in_item (blocks_of bs) ≡ true) × (depth_among (blocks_of bs) ≤ n)
    × (is_filled (blocks_of bs) ≡ true)
good-normal n in_item is_tight bs h = (
  fine-normal n in_item bs h.fits.fine,
  fine-depth n in_item bs h.fits.fine,
  some bs h.some,
)
  where
    some : (bs : List Block) → is_none bs ≡ false → is_filled (blocks_of bs) ≡ true
    some [] e = absurd (cc)
    some (b ∷ bs) e = refl

pub normal-fine : (n : ℕ) (in_item : Bool) (bs : Blocks) → are_normal_blocks in_item bs ≡ true
    → depth_among bs ≤ n
    → AllFine n in_item (listed bs)
normal-fine n in_item no_blocks h d = tt
normal-fine n in_item (block b bs) h d =
    let normal = is_normal_block in_item b in
    let others = are_normal_blocks false bs in (
      (and_left normal others h, first (depth_of b) (depth_among bs) d),
      normal-fine n false bs (and_right normal others h) (rest (depth_of b) (depth_among bs) d),
    )
  where
    first : (a c : ℕ) → max a c ≤ n → a ≤ n
    first a c h = omega arith

    rest : (a c : ℕ) → max a c ≤ n → c ≤ n
    rest a c h = omega arith

-- ---- something stands in flat blocks

line-filled : (l : List ℕ) (r : Blocks) → is_filled (line_before l r) ≡ true
line-filled l no_blocks = refl
line-filled l (block b r) = at b (lines_or b)
  where
    at : (b : Block) → LinesOrOther b → is_filled (line_before l (block b r)) ≡ true
    at b (are_lines s) = refl
    at b (other_block d e) = ap is_filled (line-other l d r e)

before-filled : (b : Block) (r : Blocks) → is_filled (flat_before b r) ≡ true
before-filled (paragraph content) r = refl
before-filled (heading level content) r = refl
before-filled (code_block language s) r = refl
before-filled (quote content) r = refl
before-filled thematic_break r = refl
before-filled (list start t items) r = refl
before-filled (table alignments header rows) r = refl
before-filled (element name attributes content) r =
    at (text_in_line content) (flat_all content (line_before (end_of_element name) r))
  where
    at : (t : Option (List ℕ)) (i : Blocks) → is_filled (element_before name attributes t i r) ≡ true
    at (Some s) i = line-filled (element_line name attributes s) r
    at None i = line-filled (element_tag name attributes) i
before-filled (tags s) r = refl

flat-filled : (bs : Blocks) → is_filled (flattened bs) ≡ is_filled bs
flat-filled no_blocks = refl
flat-filled (block b bs) = before-filled b (flat_all bs no_blocks)

flat-has : (items : Items) → has_filled_item (flat_items items) ≡ has_filled_item items
flat-has no_items = refl
flat-has (item first rest) =
    ap (λ b. b || has_filled_item (flat_items rest)) (flat-filled first)
    ∙ ap (λ b. is_filled first || b) (flat-has rest)

flat-begins : (items : Items) → begins_with_blocks (flat_items items) ≡ begins_with_blocks items
flat-begins no_items = refl
flat-begins (item first rest) = flat-filled first

pub flat-count : (items : Items) → count_of (flat_items items) ≡ item_count items
flat-count no_items = refl
flat-count (item first rest) = ap suc (flat-count rest)

-- ---- items in a row

pub record FineItem (n : ℕ) (is_tight : Bool) (bs : Blocks) : Type 0 where
  pub normal : are_normal_blocks true bs ≡ true
  pub depth : depth_among bs ≤ n
  pub tight : is_tight ≡ true → may_be_tight (flattened bs) ≡ true

abbrev pub FineItems : ℕ → Bool → List Blocks → Type 0
FineItems n is_tight [] = Unit {0}
FineItems n is_tight (bs ∷ rest) = FineItem n is_tight bs × FineItems n is_tight rest

items-append : (n : ℕ) (is_tight : Bool) (xs ys : List Blocks) → FineItems n is_tight xs → FineItems n is_tight ys
    → FineItems n is_tight (xs ++ ys)
items-append n is_tight [] ys g h = h
items-append n is_tight (x ∷ xs) ys g h = (g.0, items-append n is_tight xs ys g.1 h)

empty-items : (n : ℕ) (is_tight : Bool) (count : ℕ) → FineItems n is_tight (replicate count no_blocks)
empty-items n is_tight zero = tt
empty-items n is_tight (suc count) =
    (record { normal = refl; depth = omega arith; tight = λ e. refl }, empty-items n is_tight count)

good-item : (n : ℕ) (is_tight : Bool) (bs : List Block) → IsGood n true is_tight bs
    → FineItem n is_tight (blocks_of bs)
good-item n is_tight bs h =
    let all = good-normal n true is_tight bs h in
    record { normal = all.0; depth = all.1; tight = h.fits.tight }

pub item-fits : (n : ℕ) (is_tight : Bool) (bs : Blocks) → FineItem n is_tight bs
    → Fits n true is_tight (listed bs)
item-fits n is_tight bs h =
    record {
      fine = normal-fine n true bs h.normal h.depth;
      tight = λ e. ap (λ d. may_be_tight (flattened d)) (blocks_of-listed bs) ∙ h.tight e;
    }

some-front : (xs ys : List Blocks) → has_filled_item (items_of xs) ≡ true
    → has_filled_item (items_of (xs ++ ys)) ≡ true
some-front [] ys h = not-so _ h
some-front (x ∷ xs) ys h = at (is_filled x) (has_filled_item (items_of xs)) h (some-front xs ys)
  where
    at : (a b : Bool) → (a || b) ≡ true → (b ≡ true → has_filled_item (items_of (xs ++ ys)) ≡ true)
        → (a || has_filled_item (items_of (xs ++ ys))) ≡ true
    at true b h more = refl
    at false b h more = more h

some-back : (xs ys : List Blocks) → has_filled_item (items_of ys) ≡ true
    → has_filled_item (items_of (xs ++ ys)) ≡ true
some-back [] ys h = h
some-back (x ∷ xs) ys h = at (is_filled x) (some-back xs ys h)
  where
    at : (a : Bool) → has_filled_item (items_of (xs ++ ys)) ≡ true
        → (a || has_filled_item (items_of (xs ++ ys))) ≡ true
    at true h = refl
    at false h = h

some-here : (bs : Blocks) (rest : List Blocks) → is_filled bs ≡ true
    → has_filled_item (items_of (bs ∷ rest)) ≡ true
some-here bs rest h = ap (λ b. b || has_filled_item (items_of rest)) h

fine-items : (n : ℕ) (is_tight : Bool) (xs : List Blocks) → FineItems n is_tight xs
    → (are_normal_items (items_of xs) ≡ true) × (depth_of_items (items_of xs) ≤ n)
    × (is_tight ≡ true → are_tight (flat_items (items_of xs)) ≡ true)
fine-items n is_tight [] h = (refl, omega arith, λ e. refl)
fine-items n is_tight (x ∷ xs) h =
    let rest = fine-items n is_tight xs h.1 in (
      and_from (are_normal_blocks true x) (are_normal_items (items_of xs)) h.0.normal rest.0,
      most (depth_among x) (depth_of_items (items_of xs)) h.0.depth rest.1,
      λ e. and_from (may_be_tight (flattened x)) (are_tight (flat_items (items_of xs))) (h.0.tight e) (rest.2 e),
    )
  where
    most : (a c : ℕ) → a ≤ n → c ≤ n → max a c ≤ n
    most a c g h = omega arith

-- ---- a part of a list

count-items : (xs : List Blocks) → count_of (flat_items (items_of xs)) ≡ length xs
count-items [] = refl
count-items (x ∷ xs) = ap suc (count-items xs)

short-part : (start : Option ℕ) (first count whole : ℕ) → are_short_numbers start whole ≡ true
    → first + count ≤ whole → are_short_numbers (option_map (λ s. s + first) start) count ≡ true
short-part None first count whole short l = refl
short-part (Some s) first count whole short l = at s first count whole (greatest_start + 1) short l
  where
    at : (s first count whole most : ℕ) → nat_le (s + whole) most ≡ true → first + count ≤ whole
        → nat_le ((s + first) + count) most ≡ true
    at s first count whole most short l = grind (arith, nat_tests)

alone-tight : (items : Items) → is_spread items ≡ false → are_tight items ≡ true
alone-tight no_items e = refl
alone-tight (item first no_items) e =
    at (is_short first) (is_tight_item first) e
  where
    at : (a b : Bool) → not a ≡ false → ((a || b) && true) ≡ true
    at true b e = refl
    at false b e = absurd (cc)
alone-tight (item first (item second rest)) e = absurd (cc)

part-distance : (is_tight : Bool) (items : Items) → (is_tight ≡ true → are_tight items ≡ true)
    → has_right_distance (is_tight || not (is_spread items)) items ≡ true
part-distance true items tight = tight refl
part-distance false items tight = at (is_spread items) refl
  where
    at : (b : Bool) → is_spread items ≡ b → has_right_distance (not b) items ≡ true
    at true e = e
    at false e = alone-tight items e

list-part : (l : ListShape) (items : Items) (first : ℕ) (xs : List Blocks)
    → FineItems (depth_of_items items) l.is_tight xs → has_filled_item (items_of xs) ≡ true
    → are_short_numbers l.start l.count ≡ true → first + length xs ≤ l.count
    → IsPart false (list l.start l.is_tight items) (list_of l first xs)
list-part l items first xs fine some short within =
    let content = items_of xs in
    let flat = flat_items content in
    let all = fine-items (depth_of_items items) l.is_tight xs fine in
    let tight = l.is_tight || not (is_spread flat) in
    let begun = option_map (λ s. s + first) l.start in
    let numbers : are_short_numbers begun (count_of flat) ≡ true =
    ap (are_short_numbers begun) (count-items xs) ∙ short-part l.start first (length xs) l.count short within in
    let shape : is_normal_list begun tight flat ≡ true =
    and_from (has_filled_item flat && are_short_numbers begun (count_of flat)) (has_right_distance tight flat)
    (and_from (has_filled_item flat) (are_short_numbers begun (count_of flat)) (flat-has content ∙ some) numbers)
    (part-distance l.is_tight flat all.2) in
    record {
      normal = and_from (is_normal_list begun tight flat) (are_normal_items content) shape all.0;
      depth = deeper (depth_of_items content) (depth_of_items items) all.1;
      plain = refl;
      same = λ e. not-so _ e;
    }
  where
    deeper : (a c : ℕ) → a ≤ c → suc a ≤ suc c
    deeper a c h = omega arith

-- ---- what is filled so far

module _ (l : ListShape) (items : Items) (short : are_short_numbers l.start l.count ≡ true) where
  abbrev the_whole : Block
  the_whole = list l.start l.is_tight items

  abbrev pub FineRow : List Blocks → Type 0
  FineRow xs = FineItems (depth_of_items items) l.is_tight xs

  -- up to this place, and whatever it holds fills it
  pub record ListState (f : ListFilling) (place : ℕ) : Type 0 where
    pub done : ArePieces the_whole f.done
    pub now : FineRow f.now
    pub count : f.first + length f.now ≤ place
    pub filled : (is_none f.now ≡ true) ⊎ (has_filled_item (items_of f.now) ≡ true)

  pieces-behind : (ps qs : List BlockPart) → ArePieces the_whole ps → ArePieces the_whole qs
      → ArePieces the_whole (ps ++ qs)
  pieces-behind [] qs g h = h
  pieces-behind (p ∷ ps) qs g h = (g.0, pieces-behind ps qs g.1 h)

  pub closed-list : (f : ListFilling) (place : ℕ) → ListState f place → place ≤ l.count
      → has_filled_item (items_of f.now) ≡ true → ArePieces the_whole (list_parts_in l f)
  closed-list f place s within some =
      pieces-behind f.done (list_part l f ∷ []) s.done
      (list-part l items f.first f.now s.now some short (least (f.first + length f.now) s.count), tt)
    where
      least : (a : ℕ) → a ≤ place → a ≤ l.count
      least a h = omega arith

  here-filled : (xs : List Blocks) → (is_none xs ≡ true) ⊎ (has_filled_item (items_of xs) ≡ true)
      → is_none xs ≡ false → has_filled_item (items_of xs) ≡ true
  here-filled xs (inl none) some = not-so _ (sym some ∙ none)
  here-filled xs (inr filled) some = filled

  pub room-list : (most gap : ℕ) (f : ListFilling) (place bytes : ℕ) → ListState f place → place ≤ l.count
      → ListState (list_with_room most gap l f place bytes) place
  room-list most gap f place bytes s within =
      at (is_none f.now) refl (nat_le (f.used + list_gap_in gap f + bytes) f.free)
    where
      at : (e : Bool) → is_none f.now ≡ e → (r : Bool)
          → ListState (cond (e || r) f (list_flushed most l f place [])) place
      at true is r = s
      at false is true = s
      at false is false =
          record {
            done = closed-list f place s within (here-filled f.now s.filled is);
            now = tt;
            count = omega arith;
            filled = inl refl;
          }

  -- items put behind
  pub put-list : (f g : ListFilling) (xs : List Blocks) (place next : ℕ) → ListState f place → FineRow xs
      → has_filled_item (items_of xs) ≡ true → place + length xs ≤ next → g.done ≡ f.done
      → g.first ≡ f.first
      → g.now ≡ f.now ++ xs → ListState g next × (has_filled_item (items_of g.now) ≡ true)
  put-list f g xs place next s fine some within done first now =
      let filled : has_filled_item (items_of g.now) ≡ true =
      ap (λ ys. has_filled_item (items_of ys)) now ∙ some-back f.now xs some in
      let count : f.first + length (f.now ++ xs) ≤ next =
      add f.first (length f.now) (length xs) (length (f.now ++ xs)) s.count (length-append f.now xs) within in (
        record {
          done = subst (ArePieces the_whole) (sym done) s.done;
          now = subst FineRow (sym now) (items-append (depth_of_items items) l.is_tight f.now xs s.now fine);
          count = subst (λ k. k + length g.now ≤ next) (sym first)
              (subst (λ (ys : List Blocks). f.first + length ys ≤ next) (sym now) count);
          filled = inr filled;
        },
        filled,
      )
    where
      add : (a b c d : ℕ) → a + b ≤ place → d ≡ b + c → place + c ≤ next → a + d ≤ next
      add a b c d h e g = omega arith

  -- ---- parts of an item

  pub further-list : (most : ℕ) (f : ListFilling) (k : ℕ) (parts : List Part) → ListState f (suc k)
      → has_filled_item (items_of f.now) ≡ true → suc k ≤ l.count
      → AreGood (depth_of_items items) true l.is_tight parts
      → ListState (with_further_items most l f k parts) (suc k)
      × (has_filled_item (items_of (with_further_items most l f k parts).now) ≡ true)
  further-list most f k [] s some within good = (s, some)
  further-list most f k (p ∷ parts) s some within good =
      let g : ListFilling =
      record (list_flushed most l f k (joint.Item ∷ p.continues)) { now = blocks_of p.blocks ∷ [] } in
      let filled = some-here (blocks_of p.blocks) []
      (good-normal (depth_of_items items) true l.is_tight p.blocks good.0).2 in
      further-list most g k parts
      (record {
        done = closed-list f (suc k) s within some;
        now = (good-item (depth_of_items items) l.is_tight p.blocks good.0, tt);
        count = omega arith;
        filled = inr filled;
      })
      filled within good.1

  row-length : (before after : ℕ) (bs : Blocks)
      → length (replicate before no_blocks ++ bs ∷ replicate after no_blocks) ≡ before + suc after
  row-length before after bs =
      length-append (replicate before no_blocks) (bs ∷ replicate after no_blocks)
      ∙ ap (λ k. k + suc (length (replicate after no_blocks))) (length-replicate before no_blocks)
      ∙ ap (λ k. before + suc k) (length-replicate after no_blocks)

  -- an item between empty ones
  row-fine : (before after : ℕ) (bs : Blocks) → FineItem (depth_of_items items) l.is_tight bs
      → FineRow (replicate before no_blocks ++ bs ∷ replicate after no_blocks)
  row-fine before after bs fine =
      let n = depth_of_items items in
      items-append n l.is_tight (replicate before no_blocks) (bs ∷ replicate after no_blocks)
      (empty-items n l.is_tight before) (fine, empty-items n l.is_tight after)

  row-filled : (before after : ℕ) (bs : Blocks) → is_filled bs ≡ true
      → has_filled_item (items_of (replicate before no_blocks ++ bs ∷ replicate after no_blocks)) ≡ true
  row-filled before after bs filled =
      some-back (replicate before no_blocks) (bs ∷ replicate after no_blocks)
      (some-here bs (replicate after no_blocks) filled)

  pub whole-list : (most gap : ℕ) (f : ListFilling) (k before after : ℕ) (bs : Blocks) (bytes : ℕ)
      → ListState f (k - before) → before ≤ k → k ≤ l.count → FineItem (depth_of_items items) l.is_tight bs
      → is_filled bs ≡ true
      → ListState (with_whole_items most gap l f (k - before)
      (replicate before no_blocks ++ bs ∷ replicate after no_blocks) bytes) (suc k + after)
      × (has_filled_item (items_of (with_whole_items most gap l f (k - before)
      (replicate before no_blocks ++ bs ∷ replicate after no_blocks) bytes).now) ≡ true)
  whole-list most gap f k before after bs bytes s enough within fine filled =
      let row = replicate before no_blocks ++ bs ∷ replicate after no_blocks in
      let g = list_with_room most gap l f (k - before) bytes in
      put-list g (with_whole_items most gap l f (k - before) row bytes) row (k - before) (suc k + after)
      (room-list most gap f (k - before) bytes s (omega arith)) (row-fine before after bs fine)
      (row-filled before after bs filled) (reach (length row) (row-length before after bs)) refl refl refl
    where
      reach : (n : ℕ) → n ≡ before + suc after → (k - before) + n ≤ suc k + after
      reach n e = omega (arith, enough)

  pub begun-list : (most gap : ℕ) (g : ListFilling) (k before : ℕ) (parts : List Part) (heads last : ℕ)
      → ListState g (k - before) → before ≤ k → suc k ≤ l.count
      → AreGood (depth_of_items items) true l.is_tight parts → is_none parts ≡ false
      → ListState (with_item_parts most gap l (record g { now = g.now ++ replicate before no_blocks }) k parts heads
      last) (suc k)
      × (has_filled_item (items_of (with_item_parts most gap l
      (record g { now = g.now ++ replicate before no_blocks }) k parts heads last).now) ≡ true)
  begun-list most gap g k before [] heads last s enough within good some = not-so _ (sym some)
  begun-list most gap g k before (p ∷ []) heads last s enough within good some =
      let h : ListFilling = record g { now = g.now ++ replicate before no_blocks } in
      let bs = blocks_of p.blocks in
      put-list g (with_item_parts most gap l h k (p ∷ []) heads last) (replicate before no_blocks ++ bs ∷ [])
      (k - before) (suc k) s
      (row-fine before 0 bs (good-item (depth_of_items items) l.is_tight p.blocks good.0))
      (row-filled before 0 bs (good-normal (depth_of_items items) true l.is_tight p.blocks good.0).2)
      (reach (length (replicate before no_blocks ++ bs ∷ [])) (row-length before 0 bs)) refl refl
      (append_assoc g.now (replicate before no_blocks) (bs ∷ []))
    where
      reach : (n : ℕ) → n ≡ before + 1 → (k - before) + n ≤ suc k
      reach n e = omega (arith, enough)
  begun-list most gap g k before (p ∷ q ∷ rest) heads last s enough within good some =
      let bs = blocks_of p.blocks in
      let h : ListFilling = record g { now = (g.now ++ replicate before no_blocks) ++ bs ∷ [] } in
      let begun = put-list g h (replicate before no_blocks ++ bs ∷ []) (k - before) (suc k) s
      (row-fine before 0 bs (good-item (depth_of_items items) l.is_tight p.blocks good.0))
      (row-filled before 0 bs (good-normal (depth_of_items items) true l.is_tight p.blocks good.0).2)
      (reach (length (replicate before no_blocks ++ bs ∷ [])) (row-length before 0 bs)) refl refl
      (append_assoc g.now (replicate before no_blocks) (bs ∷ [])) in
      let more = further-list most h k (q ∷ rest) begun.0 begun.1 within good.1 in (
        record {
          done = more.0.done;
          now = more.0.now;
          count = more.0.count;
          filled = more.0.filled;
        },
        more.1,
      )
    where
      reach : (n : ℕ) → n ≡ before + 1 → (k - before) + n ≤ suc k
      reach n e = omega (arith, enough)

  pub empties-list : (f : ListFilling) (k after bytes : ℕ) → ListState f (suc k)
      → has_filled_item (items_of f.now) ≡ true
      → ListState (with_empty_items f after bytes) (suc k + after)
      × (has_filled_item (items_of (with_empty_items f after bytes).now) ≡ true)
  empties-list f k after bytes s some =
      let n = depth_of_items items in
      let row = replicate after no_blocks in
      let filled = some-front f.now row some in (
        record {
          done = s.done;
          now = items-append n l.is_tight f.now row s.now (empty-items n l.is_tight after);
          count = add f.first (length f.now) (length row) (length (f.now ++ row)) s.count
              (length-append f.now row) (length-replicate after no_blocks);
          filled = inr filled;
        },
        filled,
      )
    where
      add : (a b c d : ℕ) → a + b ≤ suc k → d ≡ b + c → c ≡ after → a + d ≤ suc k + after
      add a b c d h e g = omega arith

-- ---- the first part of a list goes on a paragraph as the list does

-- two items or more, of which this is the first
data BeginsWith (x : Blocks) : Items → Type 0 where
  begins_so : (y : Blocks) (zs : Items) → BeginsWith x (item x (item y zs))

join-keeps : (x y : Blocks) (zs : Items) (within : List Joint) (b : Items)
    → BeginsWith x (join_items within (item x (item y zs)) b)
join-keeps x y zs [] b = begins_so y (items_behind zs b)
join-keeps x y zs (joint.List ∷ within) b = begins_so y (items_behind zs b)
join-keeps x y zs (joint.LooseList ∷ within) b = begins_so y (items_behind zs b)
join-keeps x y no_items (joint.Item ∷ within) no_items = begins_so y no_items
join-keeps x y no_items (joint.Item ∷ within) (item first rest) = begins_so (join within y first) rest
join-keeps x y (item z zs) (joint.Item ∷ within) b = begins_so y (join_items (joint.Item ∷ within) (item z zs) b)
join-keeps x y zs (joint.Quote ∷ within) b = begins_so y (items_behind zs b)
join-keeps x y zs (joint.Table ∷ within) b = begins_so y (items_behind zs b)
join-keeps x y zs (joint.Code ∷ within) b = begins_so y (items_behind zs b)
join-keeps x y zs (joint.Paragraph ∷ within) b = begins_so y (items_behind zs b)

all-keep : (x : Blocks) (is : Items) (rest : List BlockPart) → BeginsWith x is → BeginsWith x (all_items is rest)
all-keep x is [] h = h
all-keep x is (p ∷ rest) (begins_so y zs) =
    let next = join_items (within_of p.continues) (item x (item y zs)) (items_in p.block) in
    all-keep x next rest (join-keeps x y zs (within_of p.continues) (items_in p.block))

begins-is : (x : Blocks) (is : Items) → BeginsWith x is → begins_with_blocks is ≡ is_filled x
begins-is x is (begins_so y zs) = refl

first-begins : (first : List Blocks) (rest : List BlockPart) → has_filled_item (items_of first) ≡ true
    → begins_with_blocks (all_items (items_of first) rest) ≡ true → begins_with_blocks (items_of first) ≡ true
first-begins [] rest some h = not-so _ some
first-begins (x ∷ []) rest some h = at (is_filled x) some
  where
    at : (b : Bool) → (b || false) ≡ true → b ≡ true
    at true e = refl
    at false e = e
first-begins (x ∷ y ∷ ys) rest some h =
    let is = item x (item y (items_of ys)) in
    sym (begins-is x (all_items is rest) (all-keep x is rest (begins_so y (items_of ys)))) ∙ h

first-goes : (l : ListShape) (items : Items) (first : List Blocks) (rest : List BlockPart)
    → has_filled_item (items_of first) ≡ true → all_items (items_of first) rest ≡ items
    → goes_on_a_paragraph (list l.start l.is_tight (flat_items items)) ≡ true
    → goes_on_a_paragraph (flat_block (list_of l 0 first)) ≡ true
first-goes l items first rest some is h =
    let start = is_one_or_none l.start in
    let begins = begins_with_blocks (flat_items items) in
    let here : begins_with_blocks (items_of first) ≡ true =
    first-begins first rest some
    (ap begins_with_blocks is ∙ sym (flat-begins items) ∙ and_right start begins h) in
    and_from (is_one_or_none (option_map (λ s. s + 0) l.start)) (begins_with_blocks (flat_items (items_of first)))
    (ap is_one_or_none (same-start l.start) ∙ and_left start begins h)
    (flat-begins (items_of first) ∙ here)

part-filled : (in_item : Bool) (l : ListShape) (place : ℕ) (xs : List Blocks)
    → is_normal_block in_item (list_of l place xs) ≡ true → has_filled_item (items_of xs) ≡ true
part-filled in_item l place xs h =
    let content = items_of xs in
    let flat = flat_items content in
    let begun = option_map (λ s. s + place) l.start in
    let tight = l.is_tight || not (is_spread flat) in
    let numbers = are_short_numbers begun (count_of flat) in
    let shape = and_left (is_normal_list begun tight flat) (are_normal_items content) h in
    sym (flat-has content)
    ∙ and_left (has_filled_item flat) numbers
    (and_left (has_filled_item flat && numbers) (has_right_distance tight flat) shape)

pub list-pieces : (in_item : Bool) (l : ListShape) (items : Items) (parts : List BlockPart) → AreOfList l parts
    → ArePieces (list l.start l.is_tight items) parts → all_items no_items parts ≡ items
    → Pieces in_item (list l.start l.is_tight items) parts
list-pieces in_item l items parts (of_list first rest go_on) pieces is =
    let b = list l.start l.is_tight items in
    let part = pieces.0 in
    let some = part-filled false l 0 first part.normal in
    pieces-of in_item b (record { block = list_of l 0 first; continues = [] }) rest refl
    (record { normal = part.normal; depth = part.depth; plain = refl; same = λ e. not-so _ e })
    (first-goes l items first rest some is) pieces.1
