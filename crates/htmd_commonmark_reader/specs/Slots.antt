-- What the reader holds of a line, in one flat list, and the stack of openers that it stands for.
use Rattle.std.specs.Prelude.{◌≡◌, ℕ, ◌-◌, ◌<◌, true, List, [], ◌∷◌, ◌++◌, length, map, replicate}
use Rattle.std.specs.Prelude.{codes, None}
use Rattle.std.specs.Char.{encode_utf8}
use Rattle.htmd_document.specs.Formats.{of_format}
use Rattle.htmd_document.specs.declared.document.Format.{Format}
use Rattle.htmd_commonmark_reading.specs.Markup.{Inlines}
use Rattle.htmd_commonmark_reading.specs.Brackets.{sign_of}
use Rattle.htmd_commonmark_reading.specs.Characters.{dereferenced}
use Rattle.htmd_commonmark_reading.specs.InlineTokens.{code_text, in_one_line}
use Rattle.htmd_commonmark_reading.specs.DelimiterRuns as spec
use Rattle.htmd_commonmark_reading.specs.DelimiterRuns.{Stack, base, opener}
use Rattle.htmd_parts.specs.Parts.{Part, begun, ended, letter, code, raw, line_break, inlines_parts}
use Rattle.htmd_parts.specs.Parts.{formatted, formatted_end, link, link_end, image, image_end}
use Rattle.htmd_commonmark_reader.specs.Openers.{is_sign}
use Rattle.htmd_commonmark_reader.specs.Targets.{address_of, title_of}
use Rattle.htmd_commonmark_reader.specs.Pieces.{meaning_of}
use Rattle.htmd_commonmark_reader.specs.Runs.{run_of}
use Rattle.htmd_commonmark_reader.specs.declared.slots.Slot.{Slot}
use Rattle.htmd_commonmark_reader.specs.declared.slots.Slot.TheVariants.{Nothing, Sign, Text, Code, Raw, LineBreak}
use Rattle.htmd_commonmark_reader.specs.declared.slots.Slot.TheVariants.{Reference, Uri, Email}
use Rattle.htmd_commonmark_reader.specs.declared.slots.Slot.TheVariants.{Begin, End, Opening, BeginLink, EndLink}
use Rattle.htmd_commonmark_reader.specs.declared.slots.Slot.TheVariants.{BeginImage, EndImage}
use Rattle.htmd_commonmark_reader.specs.declared.emphasis.Delimiter.{Delimiter}

-- an autolink
abbrev pub link_parts : List ℕ → List ℕ → List Part
link_parts address s = begun (link address None) ∷ map letter s ++ (ended link_end ∷ [])

abbrev pub slot_parts : Slot → List Part
slot_parts Nothing = []
slot_parts (Sign c) = map letter (encode_utf8 c)
slot_parts (Text s) = map letter s.now
slot_parts (Code s) = code (code_text (in_one_line s.now)) ∷ []
slot_parts (Raw s) = raw s.now ∷ []
slot_parts LineBreak = line_break ∷ []
slot_parts (Reference m) = map letter (meaning_of m)
slot_parts (Uri s) = link_parts (dereferenced s.now) (dereferenced s.now)
slot_parts (Email s) = link_parts (codes "mailto:" ++ s.now) s.now
slot_parts (Begin f) = begun (formatted (of_format f)) ∷ []
slot_parts (End f) = ended (formatted_end (of_format f)) ∷ []
slot_parts (Opening is_image) = map letter (sign_of is_image)
slot_parts (BeginLink t) = begun (link (address_of t) (title_of t)) ∷ []
slot_parts EndLink = ended link_end ∷ []
slot_parts (BeginImage t) = begun (image (address_of t)) ∷ []
slot_parts (EndImage t) = ended (image_end (title_of t)) ∷ []

abbrev pub slots_parts : List Slot → List Part
slots_parts [] = []
slots_parts (s ∷ ss) = slot_parts s ++ slots_parts ss

-- the slots of an opener's unused signs, and of the inlines behind it, after those below it
pub record Above (by : spec.Run) (items : Inlines) (d : Delimiter) (below : List Slot → Type 0) (slots : List Slot)
    : Type 0 where
  pub front : List Slot
  pub back : List Slot
  pub is : slots ≡ front ++ (replicate by.unused (Sign by.sign) ++ back)
  pub from : length front ≡ d.from
  pub run : run_of d.run ≡ by
  pub some : 0 < by.unused
  pub sign : is_sign by.sign ≡ true
  pub inside : slots_parts back ≡ inlines_parts items []
  pub under : below front

-- The slots, with these openers from the last one on, stand for the stack.
abbrev pub Denotes : Stack → List Delimiter → List Slot → Type 0
Denotes (base items) [] slots = slots_parts slots ≡ inlines_parts items []
Denotes (base items) (d ∷ ds) slots = ⊥
Denotes (opener by items below) [] slots = ⊥
Denotes (opener by items below) (d ∷ ds) slots = Above by items d (Denotes below ds) slots

-- what a match makes of the signs that it uses, and of what is between them
abbrev pub format_slots : Format → ℕ → List Slot → List Slot
format_slots f n inner =
    Begin f ∷ (replicate (n - 1) Nothing ++ (inner ++ (End f ∷ replicate (n - 1) Nothing)))
