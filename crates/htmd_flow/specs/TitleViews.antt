-- Titles among nodes of the source.
use Rattle.std.specs.Prelude.{Bool, not}
use Rattle.htmd_document.specs.declared.document.BlockElement.{BlockElement}
use Rattle.htmd_shown.specs.Kinds.{has}
use Rattle.htmd_shown.specs.SimpleTrees.{Simple}
use Rattle.htmd_flow.specs.Flows.{is_title_of}

abbrev pub is_no_title : BlockElement → Simple → Bool
is_no_title title tree = not (has (is_title_of title) tree)
