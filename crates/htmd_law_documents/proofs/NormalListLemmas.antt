-- Lists of normal documents.
use Rattle.std.proofs.Common.{◌≡◌, ℕ, suc, ◌+◌, ◌≤◌, Bool, true, false, cond, not, ◌&&◌, ◌||◌, List, [], ◌∷◌, ◌++◌, map}
use Rattle.std.proofs.Common.{refl, sym, ap, ◌∙◌, arith, subst, length, fold, max, Option, Some, None}
use Rattle.std.specs.Prelude.{ℤ, pos, negsuc, nat_le}
use Rattle.std.specs.List.{list_all}
use Rattle.std.proofs.lemmas.Bool.Decides.{nat_tests}
use Rattle.htmd_lexical.proofs.Cases.{test}
use Rattle.htmd_document.specs.Documents.{Items, items_of, list}
use Rattle.htmd_document.specs.FlatDocuments.{flattened, flat_items}
use Rattle.htmd_flow.proofs.FlatItemsLemmas.{filled-flat}
use Rattle.htmd_flow.specs.Lists.{ListItem, are_filled, is_tight, is_close, is_lone}
use Rattle.htmd_document.specs.TightItems.{is_filled, is_tight_item, is_short}
use Rattle.htmd_flow.specs.Lists.{list_of, numbered, new_number, Groups, groups_at, with_number, with_item}
use Rattle.htmd_flow.specs.Lists.{numbered_lists, lists_of, lists_if_filled, from_one, start_of, greatest_in}
use Rattle.htmd_flow.specs.Lists.{most_numbered}
use Rattle.htmd_document.specs.DocumentLimits.{greatest_start}
use Rattle.htmd_flow.specs.Parts.{Part}
use Rattle.htmd_document.specs.NormalDocuments.{item_count, are_short_numbers, has_filled_item, are_tight}
use Rattle.htmd_document.specs.NormalDocuments.{is_spread, has_right_distance, depth_of_items}
use Rattle.htmd_document.specs.NormalDocuments.{depth_among}
use Rattle.htmd_law_documents.proofs.VisibleLemmas.{both-true}
use Rattle.htmd_law_documents.proofs.NormalTextLemmas.{and-true, not-false, false-true}
use Rattle.htmd_law_documents.proofs.NormalBlockLemmas.{NearlyItems, FineBlocks}
use Rattle.htmd_law_documents.proofs.NormalPartsLemmas.{FineParts, fine-append, fine-whole}

-- ---- items

abbrev pub FineItems : ℕ → List ListItem → Type 0
FineItems n [] = Unit {0}
FineItems n (i ∷ items) = FineBlocks n true i.blocks × FineItems n items

items-append : (n : ℕ) (xs ys : List ListItem) → FineItems n xs → FineItems n ys → FineItems n (xs ++ ys)
items-append n [] ys g h = h
items-append n (x ∷ xs) ys g h = (g.0, items-append n xs ys g.1 h)

abbrev inner : List ListItem → Items
inner items = items_of (map (λ (i : ListItem). i.blocks) items)

inner-nearly : (n : ℕ) (items : List ListItem) → FineItems n items → NearlyItems (inner items)
inner-nearly n [] h = tt
inner-nearly n (i ∷ items) h = (h.0.nearly, inner-nearly n items h.1, h.0.stand)

inner-depth : (n : ℕ) (items : List ListItem) → FineItems n items → depth_of_items (inner items) ≤ n
inner-depth n [] h = omega arith
inner-depth n (i ∷ items) h = most (depth_among i.blocks) (depth_of_items (inner items)) n h.0.depth
    (inner-depth n items h.1)
  where
    most : (a c n : ℕ) → a ≤ n → c ≤ n → max a c ≤ n
    most a c n g h = omega arith

inner-count : (items : List ListItem) → item_count (flat_items (inner items)) ≡ length items
inner-count [] = refl
inner-count (i ∷ items) = ap suc (inner-count items)

inner-filled : (items : List ListItem) → has_filled_item (flat_items (inner items)) ≡ are_filled items
inner-filled [] = refl
inner-filled (i ∷ items) =
    ap (λ b. b || has_filled_item (flat_items (inner items))) (filled-flat i.blocks)
    ∙ ap (λ b. is_filled i.blocks || b) (inner-filled items)

-- ---- tight and loose

or-right : (a : Bool) {b : Bool} → b ≡ true → (a || b) ≡ true
or-right true e = refl
or-right false e = e

close-tight : (items : List ListItem) → list_all is_close items ≡ true
    → are_tight (flat_items (inner items)) ≡ true
close-tight [] e = refl
close-tight (i ∷ items) e =
    let parts = both-true (is_close i) (list_all is_close items) e in
    let here = both-true (not (i.has_paragraph && _)) (is_tight_item (flattened i.blocks)) parts.0 in
    and-true (or-right (is_short (flattened i.blocks)) here.1) (close-tight items parts.1)

lone-tight : (items : List ListItem) → is_lone items ≡ true → are_tight (flat_items (inner items)) ≡ true
lone-tight [] e = false-true e
lone-tight (i ∷ []) e = and-true (ap (λ b. b || is_tight_item (flattened i.blocks)) e) refl
lone-tight (i ∷ j ∷ items) e = false-true e

loose-spread : (items : List ListItem) → are_filled items ≡ true → is_lone items ≡ false
    → is_spread (flat_items (inner items)) ≡ true
loose-spread [] f e = false-true f
loose-spread (i ∷ []) f e = not-false e
loose-spread (i ∷ j ∷ items) f e = refl

either-tight : (a b : Bool) (items : List ListItem) → is_lone items ≡ a → list_all is_close items ≡ b
    → are_filled items ≡ true → has_right_distance (a || b) (flat_items (inner items)) ≡ true
either-tight true b items e f g = lone-tight items e
either-tight false true items e f g = close-tight items f
either-tight false false items e f g = loose-spread items g e

distance : (items : List ListItem) → are_filled items ≡ true
    → has_right_distance (is_tight items) (flat_items (inner items))
    ≡ true
distance items f = either-tight (is_lone items) (list_all is_close items) items refl refl f

-- ---- numbers

from_one-short : (count : ℕ) → are_short_numbers (from_one count) count ≡ true
from_one-short count = test (nat_le count greatest_start)
    (λ e. ap (λ b. are_short_numbers (cond b (Some 1) None) count) e ∙ one count e)
    (λ e. ap (λ b. are_short_numbers (cond b (Some 1) None) count) e)
  where
    one : (count : ℕ) → nat_le count greatest_start ≡ true → nat_le (1 + count) (greatest_start + 1) ≡ true
    one count l = grind (arith, nat_tests)

start-short : (nested : ℕ) (z : ℤ) (count : ℕ) → are_short_numbers (start_of nested z count) count ≡ true
start-short nested (pos n) count = test (nat_le (n + count) (greatest_in nested + 1))
    (λ e. ap (λ b. are_short_numbers (cond b (Some n) (from_one count)) count) e ∙ less nested (n + count) e)
    (λ e. ap (λ b. are_short_numbers (cond b (Some n) (from_one count)) count) e ∙ from_one-short count)
  where
    small : (k : ℕ) → nat_le k (99 + 1) ≡ true → nat_le k (greatest_start + 1) ≡ true
    small k l = grind (arith, nat_tests)

    at : (b : Bool) (k : ℕ) → nat_le k (cond b 99 greatest_start + 1) ≡ true
        → nat_le k (greatest_start + 1) ≡ true
    at true k l = small k l
    at false k l = l

    less : (nested k : ℕ) → nat_le k (greatest_in nested + 1) ≡ true → nat_le k (greatest_start + 1) ≡ true
    less nested k l = at (nat_le most_numbered nested) k l
start-short nested (negsuc n) count = from_one-short count

list-fine : (n : ℕ) (start : Option ℕ) (items : List ListItem) → FineItems n items → are_filled items ≡ true
    → are_short_numbers start (length items) ≡ true → FineParts false (suc n) (list_of start items ∷ [])
list-fine n start items h f s =
    let numbers : are_short_numbers start (item_count (flat_items (inner items))) ≡ true =
    ap (are_short_numbers start) (inner-count items) ∙ s in
    fine-whole false (suc n) (list start (is_tight items) (inner items)) refl (
      (and-true (and-true (inner-filled items ∙ f) numbers) (distance items f), inner-nearly n items h),
      deeper (depth_of_items (inner items)) n (inner-depth n items h),
    )
  where
    deeper : (d n : ℕ) → d ≤ n → suc d ≤ suc n
    deeper d n l = omega arith

numbered-fine : (n nested : ℕ) (start : ℤ) (items : List ListItem) → FineItems n items
    → FineParts false (suc n) (numbered nested start items)
numbered-fine n nested start items h = test (are_filled items)
    (λ e. subst (λ (b : Bool). FineParts false (suc n) (cond b made [])) (sym e)
    (list-fine n (start_of nested start (length items)) items h e (start-short nested start (length items))))
    (λ e. subst (λ (b : Bool). FineParts false (suc n) (cond b made [])) (sym e) tt)
  where
    made : List Part
    made = list_of (start_of nested start (length items)) items ∷ []

-- ---- groups

record GroupsFine (n : ℕ) (g : Groups) : Type 0 where
  done : FineParts false (suc n) g.done
  group : FineItems n g.group

number-fine : (o : Option ℤ) (n : ℕ) (g : Groups) (i : ListItem) → GroupsFine n g → FineBlocks n true i.blocks
    → GroupsFine n (with_number g i o)
number-fine None n g i h f = record {
  done = h.done;
  group = items-append n g.group (i ∷ []) h.group (f, tt);
}
number-fine (Some v) n g i h f = record {
  done = fine-append false (suc n) g.done (numbered g.nested g.start g.group) h.done
      (numbered-fine n g.nested g.start g.group h.group);
  group = (f, tt);
}

groups-fine : (items : List ListItem) (n : ℕ) (g : Groups) → GroupsFine n g → FineItems n items
    → GroupsFine n (fold with_item g items)
groups-fine [] n g h f = h
groups-fine (i ∷ items) n g h f =
    groups-fine items n (with_item g i) (number-fine (new_number g.next i.value) n g i h f.0) f.1

numbered_lists-fine : (n nested : ℕ) (start : ℤ) (items : List ListItem) → FineItems n items
    → FineParts false (suc n) (numbered_lists nested start items)
numbered_lists-fine n nested start items h =
    let g : Groups = fold with_item (groups_at nested start) items in
    let all : GroupsFine n g = groups-fine items n (groups_at nested start) (record { done = tt; group = tt }) h in
    fine-append false (suc n) g.done (numbered g.nested g.start g.group) all.done
    (numbered-fine n g.nested g.start g.group all.group)

lists_of-fine : (n nested : ℕ) (start : Option ℤ) (items : List ListItem) → FineItems n items
    → are_filled items ≡ true → FineParts false (suc n) (lists_of nested start items)
lists_of-fine n nested None items h e = list-fine n None items h e refl
lists_of-fine n nested (Some start) items h e = numbered_lists-fine n nested start items h

pub lists-fine : (n nested : ℕ) (start : Option ℤ) (items : List ListItem) → FineItems n items
    → FineParts false (suc n) (lists_if_filled nested start items)
lists-fine n nested start items h = test (are_filled items)
    (λ e. subst (λ (b : Bool). FineParts false (suc n) (cond b (lists_of nested start items) [])) (sym e)
    (lists_of-fine n nested start items h e))
    (λ e. subst (λ (b : Bool). FineParts false (suc n) (cond b (lists_of nested start items) [])) (sym e) tt)
