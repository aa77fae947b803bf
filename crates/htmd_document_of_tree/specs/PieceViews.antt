-- The pieces as the source counts them.
use Rattle.htmd_shown.specs.Pieces as value
use Rattle.htmd_document_of_tree.specs.declared.pieces.Pieces.{Pieces}

abbrev pub pieces_of : Pieces → value.Pieces
pieces_of p = record { count = p.count; breaks = p.breaks }
