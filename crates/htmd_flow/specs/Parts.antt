-- What a node gives in order: leaves with what stands around each, edges of blocks, and blocks.
use Rattle.htmd_document.specs.Formats.{Format}
use Rattle.std.specs.Prelude.{ℕ, Bool, List, Option}
use Rattle.htmd_document.specs.Documents.{Block}

-- what stands around a leaf: a format, or a link with the number of its node
pub data Around : Type 0 where
  formatted : (format : Format) → Around
  linked : (node : ℕ) (address : List ℕ) (title : Option (List ℕ)) → Around

-- `around` is from the outermost in; `place` is an anchor
pub data Part : Type 0 where
  run : (s : List ℕ) (around : List Around) (is_code : Bool) → Part
  picture : (address : List ℕ) (title : Option (List ℕ)) (description : List ℕ) (around : List Around) → Part
  break : Part
  place : (id : List ℕ) → Part
  box : (is_checked : Bool) → Part
  edge : Part
  whole : (b : Block) → Part
