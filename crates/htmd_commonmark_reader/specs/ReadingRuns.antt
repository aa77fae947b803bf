-- The slots of a line while its runs are read.
use Rattle.std.specs.Prelude.{◌≡◌, ℕ, ◌+◌, true, List, [], ◌∷◌, ◌++◌, length, reverse, replicate}
use Rattle.htmd_commonmark_reading.specs.Markup.{Inlines}
use Rattle.htmd_commonmark_reading.specs.DelimiterRuns.{Run, Stack, Token, finished, run}
use Rattle.htmd_parts.specs.Parts.{inlines_parts}
use Rattle.htmd_commonmark_reader.specs.Openers.{AreSearched, is_sign}
use Rattle.htmd_commonmark_reader.specs.Runs.{run_of}
use Rattle.htmd_commonmark_reader.specs.Slots.{slots_parts, Denotes}
use Rattle.htmd_commonmark_reader.specs.declared.emphasis.Delimiter.{Delimiter}
use Rattle.htmd_commonmark_reader.specs.declared.emphasis.Openers.{Openers}
use Rattle.htmd_commonmark_reader.specs.declared.slots.Slot.{Slot}
use Rattle.htmd_commonmark_reader.specs.declared.slots.Slot.TheVariants.{Sign}

-- The slots in front of a place stand for the stack; there so many of a sign stand, and then the others.
pub record IsReading (s : Stack) (openers : Openers) (from count sign : ℕ) (slots tail : List Slot) : Type 0 where
  pub read : List Slot
  pub is : slots ≡ read ++ (replicate count (Sign sign) ++ tail)
  pub end : length read ≡ from
  pub denotes : Denotes s (reverse openers.items.items) read
  pub searched : AreSearched openers.items.items openers.searched from

-- ---- tokens

-- a text that was read, in front of other tokens
pub record IsFinished (x : Inlines) (more : ℕ → List Slot → Type 0) (from : ℕ) (slots : List Slot) : Type 0
  where
    pub front : List Slot
    pub back : List Slot
    pub is : slots ≡ front ++ back
    pub parts : slots_parts front ≡ inlines_parts x []
    pub rest : more (from + length front) back

-- a run in front of other tokens
pub record IsRun (r : Run) (d : Delimiter) (more : ℕ → List Slot → Type 0) (from : ℕ) (slots : List Slot)
    : Type 0 where
  pub back : List Slot
  pub run : run_of d.run ≡ r
  pub at : d.from ≡ from
  pub sign : is_sign d.run.sign ≡ true
  pub is : slots ≡ replicate d.run.unused (Sign d.run.sign) ++ back
  pub rest : more (from + d.run.unused) back

-- the slots, from a place on, of tokens, whose runs are these
abbrev pub AreTokens : List Token → List Delimiter → ℕ → List Slot → Type 0
AreTokens [] [] from slots = slots ≡ []
AreTokens [] (d ∷ ds) from slots = ⊥
AreTokens (finished x ∷ ts) ds from slots = IsFinished x (AreTokens ts ds) from slots
AreTokens (run r ∷ ts) [] from slots = ⊥
AreTokens (run r ∷ ts) (d ∷ ds) from slots = IsRun r d (AreTokens ts ds) from slots
