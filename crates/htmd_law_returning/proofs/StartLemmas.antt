-- Where a paragraph may begin, and what tests say.
use Rattle.std.proofs.Common.{◌≡◌, Bool, true, false, not, List, [], ◌∷◌, refl, sym}
use Rattle.std.specs.Prelude.{encode_utf8}
use Rattle.htmd_lexical.specs.Characters.{space}
use Rattle.htmd_document.specs.Documents.{Block, paragraph, Blocks, no_blocks, block, Inlines, inline, task}
use Rattle.htmd_flow.specs.Paragraphs.{Writing, begun}
use lib.Utf8.{encode}

-- what is written: blocks, an item, or one line
pub data Mode : Type 0 where
  in_blocks : Mode
  in_item : Mode
  one_line : Mode

abbrev pub is_flat_mode : Mode → Bool
is_flat_mode in_blocks = false
is_flat_mode in_item = false
is_flat_mode one_line = true

abbrev pub is_item_mode : Mode → Bool
is_item_mode in_blocks = false
is_item_mode in_item = true
is_item_mode one_line = false

-- where a paragraph may begin after these blocks
abbrev pub clean : Mode → List Block → Writing
clean mode done = record (begun (is_item_mode mode) (is_flat_mode mode)) { done = done }

-- ---- tasks

-- a paragraph that begins with a task
abbrev pub has_task : Inlines → Bool
has_task (inline (task d) xs) = true
has_task xs = false

abbrev pub is_boxed : Block → Bool
is_boxed (paragraph xs) = has_task xs
is_boxed b = false

abbrev pub begins_boxed : Blocks → Bool
begins_boxed no_blocks = false
begins_boxed (block b bs) = is_boxed b

-- it stands first in an item
abbrev pub May : Bool → Mode → List Block → Type 0
May boxed mode done = boxed ≡ true → (mode ≡ in_item) × (done ≡ [])

-- ---- tests

pub false-true : {A : Type 0} → false ≡ true → A
false-true e = absurd (clash e)
  where
    clash : false ≡ true → ⊥
    clash p = (cc)

pub true-false : {A : Type 0} → true ≡ false → A
true-false e = false-true (sym e)

pub from-not : (a : Bool) → not a ≡ true → a ≡ false
from-not true e = false-true e
from-not false e = refl

pub space-bytes : space ∷ [] ≡ encode_utf8 space
unfolding encode
space-bytes = refl
