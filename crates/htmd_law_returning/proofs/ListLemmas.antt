-- Lists: the items of one, its numbers, and whether it is tight.
use Rattle.std.proofs.Common.{◌≡◌, ℕ, suc, ◌+◌, ◌≤◌, Bool, true, false, not, ◌&&◌}
use Rattle.std.proofs.Common.{◌||◌, ◌==◌, cond}
use Rattle.std.proofs.Common.{List, [], ◌∷◌, ◌++◌, length, map, fold, refl, sym, ap, ◌∙◌, arith}
use Rattle.std.proofs.Common.{codes, Option, Some, None}
use Rattle.std.specs.Prelude.{ℤ, pos, nat_le}
use Rattle.std.specs.Fmt.{decimal}
use Rattle.std.specs.List.{list_all}
use Rattle.std.proofs.lemmas.Bool.{and_parts}
use Rattle.std.proofs.lemmas.Bool.Decides.{nat_tests}
use Rattle.std.proofs.lemmas.List.{append_assoc, append-nil}
use Rattle.std.specs.Option.{unwrap_or}
use Rattle.htmd_lexical.specs.AttributePairs.{AttributePair}
use Rattle.htmd_lexical.proofs.Cases.{test}
use Rattle.htmd_document.specs.Documents.{Block, Blocks, no_blocks, block, list, element, tags, Items, no_items, item}
use Rattle.htmd_document.specs.Documents.{items_of, BlockAttribute}
use Rattle.htmd_document.specs.declared.document.BlockElement.{BlockElement}
use Rattle.htmd_document.specs.FlatDocuments.{flat_items, flattened, flat_before, flat_all, line_before, element_before}
use Rattle.htmd_document.specs.FlatDocuments.{text_in_line}
use Rattle.htmd_document.specs.Tags.{element_tag, end_of_element, element_line}
use Rattle.htmd_document.specs.NormalDocuments.{has_filled_item, item_count, is_spread, are_tight, may_be_tight}
use Rattle.htmd_document.specs.NormalDocuments.{has_right_distance, are_short_numbers}
use Rattle.htmd_document.specs.TightItems.{is_filled, is_short, is_tight_item}
use Rattle.htmd_document.specs.DocumentLimits.{greatest_start}
use Rattle.htmd_flow.specs.Flows.{start_of}
use Rattle.htmd_flow.specs.Lists as lists
use Rattle.htmd_flow.specs.Lists.{ListItem, holds_paragraph}
use Rattle.htmd_flow.specs.Parts.{whole}
use Rattle.htmd_shown.specs.ClassWords.{has_class, mathjax_words}
use Rattle.htmd_shown.specs.Repeats.{is_copied}
use Rattle.htmd_law_rendering.specs.RenderedTrees.{pairs_of_start}
use Rattle.htmd_law_returning.specs.SettledDocuments.{has_fitting_numbers, is_right_list, show_loose}
use Rattle.htmd_law_returning.specs.SettledDocuments.{are_tight_items, stay_tight}
use Rattle.htmd_law_returning.proofs.BareLemmas.{has_no_name}
use Rattle.htmd_law_returning.proofs.NumberLemmas.{number-read}
use Rattle.htmd_law_returning.proofs.StartLemmas.{false-true, from-not}

-- ---- items

-- what a page makes of items
abbrev pub made_items : Bool → Items → List ListItem
made_items is_tight no_items = []
made_items is_tight (item bs rest) =
    record { value = None; has_paragraph = not is_tight && holds_paragraph bs; blocks = bs }
    ∷ made_items is_tight rest

pub same-items : (is_tight : Bool) (items : Items) → items_of (map (λ (i : ListItem). i.blocks)
    (made_items is_tight items)) ≡ items
same-items is_tight no_items = refl
same-items is_tight (item bs rest) = ap (item bs) (same-items is_tight rest)

made-count : (is_tight : Bool) (items : Items) → length (made_items is_tight items) ≡ item_count items
made-count is_tight no_items = refl
made-count is_tight (item bs rest) = ap suc (made-count is_tight rest)

-- ---- what shows in them

line-filled : (line : List ℕ) (rest : Blocks) → is_filled (line_before line rest) ≡ true
line-filled line (block (tags s) bs) = refl
line-filled line rest = refl

element-filled : (name : BlockElement) (attributes : List BlockAttribute) (t : Option (List ℕ)) (inner rest : Blocks)
    → is_filled (element_before name attributes t inner rest) ≡ true
element-filled name attributes None inner rest = line-filled (element_tag name attributes) inner
element-filled name attributes (Some s) inner rest = line-filled (element_line name attributes s) rest

pub before-filled : (b : Block) (rest : Blocks) → is_filled (flat_before b rest) ≡ true
before-filled (element name attributes content) rest =
    element-filled name attributes (text_in_line content) (flat_all content (line_before (end_of_element name) rest))
    rest
before-filled b rest = refl

pub flat-filled : (bs : Blocks) → is_filled (flattened bs) ≡ is_filled bs
flat-filled no_blocks = refl
flat-filled (block b bs) = before-filled b (flattened bs)

are-filled : (is_tight : Bool) (items : Items)
    → has_filled_item (flat_items items) ≡ lists.are_filled (made_items is_tight items)
are-filled is_tight no_items = refl
are-filled is_tight (item bs rest) = rw (flat-filled bs, are-filled is_tight rest) refl

-- ---- which are tight

pub tight-items : (is_tight : Bool) (items : Items) → has_right_distance is_tight (flat_items items) ≡ true
    → is_tight ≡ true → are_tight (flat_items items) ≡ true
tight-items true items distance e = distance
tight-items false items distance e = false-true e

all-close : (items : Items) → are_tight_items items ≡ true
    → list_all lists.is_close (made_items true items) ≡ true
all-close no_items e = refl
all-close (item bs rest) e =
    let tights = and_parts (is_tight_item (flattened bs)) (are_tight_items rest) e in
    ap (λ b. b && list_all lists.is_close (made_items true rest)) tights.0 ∙ all-close rest tights.1

-- an item by which a list is seen to be loose
loose-item : (p t : Bool) → (p || not t) ≡ true → (not (p && p) && t) ≡ false
loose-item true t e = refl
loose-item false true e = false-true e
loose-item false false e = refl

none-close : (items : Items) → show_loose items ≡ true
    → list_all lists.is_close (made_items false items) ≡ false
none-close no_items e = false-true e
none-close (item bs rest) e =
    let is_tight : Bool = is_tight_item (flattened bs) in
    let own : Bool = not (holds_paragraph bs && holds_paragraph bs) && is_tight in
    test (holds_paragraph bs || not is_tight)
    (λ q. ap (λ b. b && list_all lists.is_close (made_items false rest)) (loose-item (holds_paragraph bs) is_tight q))
    (λ q. ap (λ b. own && b) (none-close rest (sym (ap (λ b. b || show_loose rest) q) ∙ e)) ∙ no-more own)
  where
    no-more : (b : Bool) → (b && false) ≡ false
    no-more true = refl
    no-more false = refl

none-lone : (items : Items) → is_spread (flat_items items) ≡ true → lists.is_lone (made_items false items)
    ≡ false
none-lone no_items h = refl
none-lone (item bs no_items) h = from-not (is_short (flattened bs)) h
none-lone (item bs (item cs rest)) h = refl

-- one item, or items that a tight list may have
close-distance : (items : Items) → stay_tight items ≡ true → are_tight (flat_items items) ≡ true
    → lists.is_tight (made_items true items) ≡ true
close-distance no_items stay tight = refl
close-distance (item bs no_items) stay tight =
    ap (λ b. is_short (flattened bs) || b) (and-true (is_tight_item (flattened bs)))
    ∙ (and_parts (may_be_tight (flattened bs)) true tight).0
  where
    and-true : (b : Bool) → (b && true) ≡ b
    and-true true = refl
    and-true false = refl
close-distance (item bs (item cs rest)) stay tight = all-close (item bs (item cs rest)) stay

pub right-distance : (is_tight : Bool) (items : Items) → is_right_list is_tight items ≡ true
    → has_right_distance is_tight (flat_items items) ≡ true
    → lists.is_tight (made_items is_tight items) ≡ is_tight
right-distance true items right distance = close-distance items right distance
right-distance false items right distance =
    ap (λ b. b || list_all lists.is_close (made_items false items)) (none-lone items distance)
    ∙ none-close items right

-- ---- numbers

pub start-kept : (n : ℕ) → n ≤ greatest_start + 1 → start_of (pairs_of_start (Some n)) ≡ pos n
start-kept n h = test (n == 1)
    (λ e.
    let same : 1 ≡ n = grind (arith, nat_tests, e) in
    ap (λ b. start_of (cond b [] (record { name = codes "start"; value = decimal n } ∷ []))) e ∙ ap pos same)
    (λ e.
    ap (λ b. start_of (cond b [] (record { name = codes "start"; value = decimal n } ∷ []))) e
    ∙ ap (λ o. unwrap_or o (pos 1)) (number-read n (omega (arith, h)) (omega (arith, h))))

pub start-fresh : (before : Option (List AttributePair)) (start : Option ℕ)
    → is_copied before (pairs_of_start start) ≡ false
start-fresh None start = refl
start-fresh (Some b) None = refl
start-fresh (Some b) (Some n) = test (n == 1)
    (λ e. ap (λ x. is_copied (Some b) (cond x [] (record { name = codes "start"; value = decimal n } ∷ []))) e)
    (λ e. ap (λ x. is_copied (Some b) (cond x [] (record { name = codes "start"; value = decimal n } ∷ []))) e)

pub start-plain : (start : Option ℕ) → has_class mathjax_words (pairs_of_start start) ≡ false
start-plain None = refl
start-plain (Some n) = test (n == 1)
    (λ e. ap (λ x. has_class mathjax_words (cond x [] (record { name = codes "start"; value = decimal n } ∷ []))) e)
    (λ e. ap (λ x. has_class mathjax_words (cond x [] (record { name = codes "start"; value = decimal n } ∷ []))) e)

pub start-nameless : (start : Option ℕ) → has_no_name (pairs_of_start start) ≡ true
start-nameless None = refl
start-nameless (Some n) = test (n == 1)
    (λ e. ap (λ x. has_no_name (cond x [] (record { name = codes "start"; value = decimal n } ∷ []))) e)
    (λ e. ap (λ x. has_no_name (cond x [] (record { name = codes "start"; value = decimal n } ∷ []))) e)

-- ---- the lists

-- items without numbers of their own are one group
record IsGroup (nested : ℕ) (start next : ℤ) (group : List ListItem) (is_tight : Bool)
    (items : Items) : Type 0 where
  last : ℤ
  is : fold lists.with_item
      (record { nested = nested; done = []; start = start; next = next; group = group }) (made_items is_tight items)
      ≡ record { nested = nested; done = []; start = start; next = last; group = group ++ made_items is_tight items }

one-group : (nested : ℕ) (start next : ℤ) (group : List ListItem) (is_tight : Bool) (items : Items)
    → IsGroup nested start next group is_tight items
one-group nested start next group is_tight no_items = record {
  last = next;
  is = ap (λ g. record { nested = nested; done = []; start = start; next = next; group = g }) (sym (append-nil group));
}
one-group nested start next group is_tight (item bs rest) =
    let i : ListItem = record { value = None; has_paragraph = not is_tight && holds_paragraph bs; blocks = bs } in
    let more = one-group nested start (lists.following next) (group ++ i ∷ []) is_tight rest in
    record {
      last = more.last;
      is = more.is
          ∙ ap (λ g. record { nested = nested; done = []; start = start; next = more.last; group = g })
          (append_assoc group (i ∷ []) (made_items is_tight rest));
    }

flat-count : (items : Items) → item_count (flat_items items) ≡ item_count items
flat-count no_items = refl
flat-count (item bs rest) = ap suc (flat-count rest)

-- the numbers of a normal list that fit stay
numbers-kept : (nested n count : ℕ) → has_fitting_numbers nested (Some n) count ≡ true
    → are_short_numbers (Some n) count ≡ true → lists.start_of nested (pos n) count ≡ Some n
numbers-kept nested n count low short = test (nat_le (n + count) (lists.greatest_in nested + 1))
    (λ e. ap (λ b. cond b (Some n) (lists.from_one count)) e)
    (λ e.
    let one : n ≡ 1 = first e in
    let few : nat_le count greatest_start ≡ true = grind (arith, nat_tests, short, one) in
    ap (λ b. cond b (Some n) (lists.from_one count)) e
    ∙ (ap (λ b. cond b (Some 1) None) few ∙ ap (λ m. Some m) (sym one)))
  where
    first : nat_le (n + count) (lists.greatest_in nested + 1) ≡ false → n ≡ 1
    first e = test (n == 1)
        (λ q. grind (arith, nat_tests, q))
        (λ q. false-true (sym e ∙ (sym (ap (λ b. b || nat_le (n + count) (lists.greatest_in nested + 1)) q)
        ∙ low)))

-- the start that a page says
abbrev pub said_start : Option ℕ → Option ℤ
said_start None = None
said_start (Some n) = Some (pos n)

pub list-made : (nested : ℕ) (start : Option ℕ) (is_tight : Bool) (items : Items)
    → has_fitting_numbers nested start (item_count items) ≡ true → has_filled_item (flat_items items) ≡ true
    → are_short_numbers start (item_count (flat_items items)) ≡ true
    → lists.is_tight (made_items is_tight items) ≡ is_tight
    → lists.lists_if_filled nested (said_start start) (made_items is_tight items)
    ≡ whole (list start is_tight items) ∷ []
list-made nested None is_tight items low filled short right =
    ap (λ b. cond b (lists.bullets (made_items is_tight items)) []) (sym (are-filled is_tight items) ∙ filled)
    ∙ (ap (λ t. whole (list None t (items_of (map (λ (i : ListItem). i.blocks)
    (made_items is_tight items)))) ∷ [])
    right
    ∙ ap (λ xs. whole (list None is_tight xs) ∷ []) (same-items is_tight items))
list-made nested (Some n) is_tight items low filled short right =
    let all : List ListItem = made_items is_tight items in
    let some : lists.are_filled all ≡ true = sym (are-filled is_tight items) ∙ filled in
    let group = one-group nested (pos n) (pos n) [] is_tight items in
    ap (λ b. cond b (lists.numbered_lists nested (pos n) all) []) some
    ∙ (ap lists.ended group.is
    ∙ (ap (λ b. cond b (lists.list_of (lists.start_of nested (pos n) (length all)) all ∷ []) []) some
    ∙ (ap (λ c. lists.list_of (lists.start_of nested (pos n) c) all ∷ []) (made-count is_tight items)
    ∙ (ap (λ o. lists.list_of o all ∷ []) (numbers-kept nested n (item_count items) low
    (sym (ap (are_short_numbers (Some n)) (flat-count items)) ∙ short))
    ∙ (ap (λ t. whole (list (Some n) t (items_of (map (λ (i : ListItem). i.blocks) all))) ∷ []) right
    ∙ ap (λ xs. whole (list (Some n) is_tight xs) ∷ []) (same-items is_tight items))))))
