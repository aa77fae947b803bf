-- Lists: which are tight, and where the numbers of a list begin anew.
use Rattle.std.specs.Prelude.{ℕ, ◌+◌, Bool, false, not, ◌&&◌, ◌||◌, nat_le, if◌then◌else◌}
use Rattle.std.specs.Prelude.{List, [], ◌∷◌, ◌++◌, length, map, Option, Some, None, ℤ, pos, negsuc, ◌+ℤ◌, int_lt, fold}
use Rattle.std.specs.List.{list_any, list_all}
use Rattle.std.specs.Ordering.{int_eq}
use Rattle.htmd_shown.specs.Attributes.{greatest_number}
use Rattle.htmd_document.specs.Documents.{list, Blocks, no_blocks, block, items_of}
use Rattle.htmd_document.specs.FlatDocuments.{flattened}
use Rattle.htmd_flow.specs.Parts.{Part, whole}
use Rattle.htmd_document.specs.TightItems.{is_filled, is_paragraph, is_tight_item, is_short}
use Rattle.htmd_document.specs.DocumentLimits.{greatest_start}

-- an item: its number, if it says one, whether a paragraph stands right in it, and its blocks
pub record ListItem : Type 0 where
  pub value : Option ℤ
  pub has_paragraph : Bool
  pub blocks : Blocks

-- something shows in one of them
abbrev pub are_filled : List ListItem → Bool
are_filled items = list_any (λ (i : ListItem). is_filled i.blocks) items

abbrev pub holds_paragraph : Blocks → Bool
holds_paragraph no_blocks = false
holds_paragraph (block b bs) = is_paragraph b || holds_paragraph bs

-- ---- tight lists

-- a paragraph that stands right in an item, and shows, makes the list loose
abbrev pub is_close : ListItem → Bool
is_close i = not (i.has_paragraph && holds_paragraph i.blocks) && is_tight_item (flattened i.blocks)

abbrev pub is_lone : List ListItem → Bool
is_lone [] = false
is_lone (i ∷ []) = is_short (flattened i.blocks)
is_lone (i ∷ j ∷ items) = false

-- a list that a reader can't see to be loose is tight
abbrev pub is_tight : List ListItem → Bool
is_tight items = is_lone items || list_all is_close items

-- ---- the lists of items

abbrev pub list_of : Option ℕ → List ListItem → Part
list_of start items =
    whole (list start (is_tight items) (items_of (map (λ (i : ListItem). i.blocks) items)))

abbrev pub bullets : List ListItem → List Part
bullets items = list_of None items ∷ []

-- with more items than 999,999,999 it has no numbers
abbrev pub from_one : ℕ → Option ℕ
from_one count = if nat_le count greatest_start then Some 1 else None

-- lists and quotes around a list whose numbers have two digits at most
abbrev pub most_numbered : ℕ
most_numbered = 8

-- the greatest number in so many lists and quotes
abbrev pub greatest_in : ℕ → ℕ
greatest_in nested = if nat_le most_numbered nested then 99 else greatest_start

-- the number that a list in so many lists and quotes begins with: below 0, or with a number past the greatest, it
-- begins at 1
abbrev pub start_of : ℕ → ℤ → ℕ → Option ℕ
start_of nested (pos n) count = if nat_le (n + count) (greatest_in nested + 1) then Some n else from_one count
start_of nested (negsuc n) count = from_one count

-- a group of items with numbers one after another; one without anything to see is none
abbrev pub numbered : ℕ → ℤ → List ListItem → List Part
numbered nested start items =
    if are_filled items then list_of (start_of nested start (length items)) items ∷ [] else []

-- the number that an item begins anew with: it says one, and that isn't the next
abbrev pub new_number : ℤ → Option ℤ → Option ℤ
new_number next None = None
new_number next (Some v) = if int_eq v next then None else Some v

-- the number after this one; after the greatest comes one that no item says
abbrev pub following : ℤ → ℤ
following z = if int_lt z (pos (greatest_number + 1)) then z +ℤ pos 1 else z

-- the lists so far, in so many lists and quotes, and the items of the last one: the number that it begins with, and the
-- next number
pub record Groups : Type 0 where
  pub nested : ℕ
  pub done : List Part
  pub start : ℤ
  pub next : ℤ
  pub group : List ListItem

abbrev pub groups_at : ℕ → ℤ → Groups
groups_at nested start = record { nested = nested; done = []; start = start; next = start; group = [] }

abbrev pub with_number : Groups → ListItem → Option ℤ → Groups
with_number g i None = record g { next = following g.next; group = g.group ++ i ∷ [] }
with_number g i (Some v) = record g {
  done = g.done ++ numbered g.nested g.start g.group;
  start = v;
  next = following v;
  group = i ∷ [];
}

abbrev pub with_item : Groups → ListItem → Groups
with_item g i = with_number g i (new_number g.next i.value)

abbrev pub ended : Groups → List Part
ended g = g.done ++ numbered g.nested g.start g.group

-- the lists of the items of an `ol`: where an item says a number that isn't the next one, a new list begins
abbrev pub numbered_lists : ℕ → ℤ → List ListItem → List Part
numbered_lists nested start items = ended (fold with_item (groups_at nested start) items)

-- the lists of items: numbered from a start, or with bullets where there is none
abbrev pub lists_of : ℕ → Option ℤ → List ListItem → List Part
lists_of nested None items = bullets items
lists_of nested (Some start) items = numbered_lists nested start items

-- none where nothing shows in them
abbrev pub lists_if_filled : ℕ → Option ℤ → List ListItem → List Part
lists_if_filled nested start items = if are_filled items then lists_of nested start items else []
