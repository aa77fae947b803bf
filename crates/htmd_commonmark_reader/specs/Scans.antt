-- What was read of a line, and the stack of brackets that it stands for.
use Rattle.std.specs.Prelude.{◌≡◌, ℕ, ◌+◌, ◌≤◌, Bool, true, false, ◌||◌, nat_le, if◌then◌else◌, List, [], ◌∷◌, ◌++◌}
use Rattle.std.specs.Prelude.{length, reverse}
use Rattle.htmd_commonmark_reading.specs.DelimiterRuns.{Token, finished, processed, Stack, with_tokens}
use Rattle.htmd_commonmark_reading.specs.Brackets.{Brackets, outermost, bracket, and_tokens, without_links}
use Rattle.htmd_commonmark_reading.specs.Markup.{Inlines, no_inlines, image, link}
use Rattle.htmd_commonmark_reader.specs.ReadingRuns.{AreTokens}
use Rattle.htmd_commonmark_reader.specs.Targets.{address_of, title_of}
use Rattle.htmd_commonmark_reader.specs.declared.brackets.Bracket.{Bracket}
use Rattle.htmd_commonmark_reader.specs.declared.brackets.Scan.{Scan}
use Rattle.htmd_commonmark_reader.specs.declared.emphasis.Delimiter.{Delimiter}
use Rattle.htmd_commonmark_reader.specs.declared.slots.Slot.{Slot}
use Rattle.htmd_commonmark_reader.specs.declared.targets.Target.{Target}
use Rattle.htmd_commonmark_reader.specs.declared.slots.Slot.TheVariants.{Opening}

-- tokens that do the same to each stack
abbrev pub AreAlike : List Token → List Token → Type 0
AreAlike ts us = (s : Stack) → with_tokens s ts ≡ with_tokens s us

-- the slots, from a place on, of tokens that are like these, and whose runs are these
pub record Hold (ts : List Token) (ds : List Delimiter) (from : ℕ) (slots : List Slot) : Type 0 where
  pub tokens : List Token
  pub alike : AreAlike ts tokens
  pub are : AreTokens tokens ds from slots

-- an open bracket and the tokens behind it, after what is in front of it
pub record IsOpen (is_image is_active : Bool) (text : List ℕ) (tokens : List Token) (active : ℕ)
    (k : Bracket) (ks : List Bracket) (below : List Slot → List Delimiter → Type 0) (slots : List Slot)
    (runs : List Delimiter) : Type 0 where
  pub front : List Slot
  pub back : List Slot
  pub is : slots ≡ front ++ (Opening is_image ∷ back)
  pub slot : length front ≡ k.slot
  pub first : List Delimiter
  pub later : List Delimiter
  pub runs_are : runs ≡ first ++ later
  pub run : length first ≡ k.runs
  pub image : k.is_image ≡ is_image
  pub activity : is_active ≡ (is_image || nat_le active (length ks))
  pub text_is : text ≡ k.text.now
  pub tokens_are : Hold tokens later (length front + 1) back
  pub under : below front first

-- the brackets from the last one on
abbrev pub AreOpen : ℕ → Brackets → List Bracket → List Slot → List Delimiter → Type 0
AreOpen active (outermost ts) [] slots runs = Hold ts runs 0 slots
AreOpen active (outermost ts) (k ∷ ks) slots runs = ⊥
AreOpen active (bracket i a text ts below) [] slots runs = ⊥
AreOpen active (bracket i a text ts below) (k ∷ ks) slots runs =
    IsOpen i a text ts active k ks (AreOpen active below ks) slots runs

pub record IsScan (b : Brackets) (scan : Scan) : Type 0 where
  pub open_are : AreOpen scan.active b (reverse scan.brackets.items) scan.slots.items scan.runs.items
  pub within : scan.active ≤ length scan.brackets.items

-- ---- images and links

abbrev pub link_inlines : Bool → Target → Inlines → Inlines
link_inlines true t xs = image (address_of t) (title_of t) xs no_inlines
link_inlines false t xs = link (address_of t) (title_of t) xs no_inlines

-- the stack once the last bracket begins an image or a link
abbrev pub linked_of : Bool → Target → List Token → Brackets → Brackets
linked_of i t ts below =
    and_tokens (if i then below else without_links below) (finished (link_inlines i t (processed ts)) ∷ [])
