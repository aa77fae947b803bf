-- Leaves of the blocks that pages give: in titles no anchor comes behind a thing.
use Rattle.std.specs.Prelude.{◌≡◌, Bool, true, false, List}
use Rattle.htmd_document.specs.Documents.{BlockAttribute, Blocks}
use Rattle.htmd_document.specs.declared.document.BlockElement.{BlockElement}
use Rattle.htmd_flow.specs.Contexts.{Context}
use Rattle.htmd_flow.specs.Flows.{blocks_of}
use Rattle.htmd_flow.specs.Parts.{Part}
use Rattle.htmd_law_settled.specs.Leaves.{Leaves}
use Rattle.htmd_law_settled.specs.NeatLeaves.{neat, is_element_of}
use Rattle.htmd_law_settled.proofs.Things.{in_order, things_of}

abbrev pub is_ordered : Blocks → Bool
is_ordered bs = in_order false (things_of bs)

abbrev pub is_ordered_element : BlockElement → List BlockAttribute → Blocks → Bool
is_ordered_element name attributes content = is_element_of is_ordered name attributes content

abbrev pub ordered : Leaves
ordered = record neat { element = is_ordered_element }

-- so are the blocks of these parts on a rich page
abbrev pub GivesOrder : (Context → List Part) → Type 0
GivesOrder parts =
    (c : Context) → c.is_rich ≡ true → c.is_flat ≡ false → is_ordered (blocks_of false (parts c)) ≡ true
