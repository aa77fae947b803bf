-- What stands around a node of a page.
use Rattle.std.specs.Prelude.{ℕ, zero, suc, Bool, true, false, not, ◌&&◌, ◌||◌, nat_le, if◌then◌else◌}
use Rattle.std.specs.Prelude.{List, [], ◌∷◌, ◌++◌, Option, Some, None, length, filter, take}
use Rattle.std.specs.List.{list_any}
use Rattle.htmd_document.specs.Formats.{Format, Abbreviation, is_same_kind, is_raised}
use Rattle.htmd_flow.specs.Parts.{Around, formatted, linked, Part, run, edge}
use Rattle.htmd_document.specs.DocumentLimits.{most_nested, most_raised}
use Rattle.htmd_lexical.specs.AttributePairs.{AttributePair}
use Rattle.htmd_shown.specs.Attributes.{is_to_part}

-- Formats and links from the outermost in, whether all is code and one line, and the document rich, how many lists and
-- quotes; and the attributes of the elements near, from the inside out: those that hold one `pre`.
pub record Context : Type 0 where
  pub around : List Around
  pub is_code : Bool
  pub is_flat : Bool
  pub is_rich : Bool
  pub nested : ℕ
  pub near : List (List AttributePair)

abbrev pub bare : Context
bare = record { around = []; is_code = false; is_flat = false; is_rich = false; nested = 0; near = [] }

-- of a document that is rich or not
abbrev pub bare_in : Bool → Context
bare_in is_rich = record bare { is_rich = is_rich }

-- blocks can be elements: in a rich document, and in no line
abbrev pub has_elements : Context → Bool
has_elements context = context.is_rich && not context.is_flat

-- no block stands in it, or no list and no quote
abbrev pub is_lined : Context → Bool
is_lined context = context.is_flat || nat_le most_nested context.nested

abbrev pub is_format : Format → Around → Bool
is_format format (formatted f) = is_same_kind format f
is_format format (linked node address title) = false

abbrev pub is_link : Around → Bool
is_link (formatted f) = false
is_link (linked node address title) = true

abbrev pub with_around : Context → Around → Context
with_around context a = record context { around = context.around ++ a ∷ [] }

abbrev pub is_raised_around : Around → Bool
is_raised_around (formatted f) = is_raised f
is_raised_around (linked node address title) = false

-- how many formats are around that raise or lower
abbrev pub raised_around : List Around → ℕ
raised_around around = length (filter is_raised_around around)

-- the format isn't put around once more: those that raise and lower stand in each other, up to 8, and others once
abbrev pub is_enough : Format → List Around → Bool
is_enough format around =
    if is_raised format then nat_le most_raised (raised_around around) else list_any (is_format format) around

-- formats, and one link
abbrev pub inside_format : Format → Context → Context
inside_format format context =
    if is_enough format context.around then context else with_around context (formatted format)

abbrev pub inside_link : ℕ → List ℕ → Option (List ℕ) → Context → Context
inside_link node address title context =
    if list_any is_link context.around then context else with_around context (linked node address title)

-- an abbreviation with a title stands around
abbrev pub inside_title : Option (List ℕ) → Context → Context
inside_title None context = context
inside_title (Some title) context = inside_format (Abbreviation title) context

-- without the link; there is one at most
abbrev pub without_link : List Around → List Around
without_link [] = []
without_link (a ∷ around) = if is_link a then around else a ∷ without_link around

abbrev pub unlinked : Context → Context
unlinked context = record context { around = without_link context.around }

-- a link to a part of the page is around
abbrev pub leads_to_part : Around → Bool
leads_to_part (formatted f) = false
leads_to_part (linked node address title) = is_to_part address

abbrev pub is_linked_to_part : Context → Bool
is_linked_to_part context = list_any leads_to_part context.around

-- inside an element near that holds so many `pre`
abbrev pub beside_code : ℕ → List AttributePair → Context → Context
beside_code zero attributes context = context
beside_code (suc zero) attributes context = record context { near = attributes ∷ take 2 context.near }
beside_code (suc (suc n)) attributes context = record context { near = [] }

abbrev pub in_code : Context → Context
in_code context = record context { is_code = true }

abbrev pub in_one_line : Context → Context
in_one_line context = record context { is_flat = true }

abbrev pub deeper : Context → Context
deeper context = record context { nested = suc context.nested }

-- a text with what stands around it
abbrev pub run_in : Context → List ℕ → Part
run_in context s = run s context.around context.is_code

-- the same parts, as a block
abbrev pub apart : List Part → List Part
apart parts = edge ∷ parts ++ edge ∷ []
