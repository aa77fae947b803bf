-- What the source keeps of parts and pieces.
use Rattle.std.specs.Prelude.{map, string_bytes}
use Rattle.htmd_document.specs.DocumentViews.{block_of, blocks_of, document_of}
use Rattle.htmd_chunks.specs.Fillings as spec
use Rattle.htmd_chunks.specs.Pieces as pieces
use Rattle.htmd_chunks.specs.declared.filling.BlockPart.{BlockPart}
use Rattle.htmd_chunks.specs.declared.filling.Filling.{Filling}
use Rattle.htmd_chunks.specs.declared.filling.Part.{Part}
use Rattle.htmd_chunks.specs.declared.list_filling.ListFilling.{ListFilling}
use Rattle.htmd_chunks.specs.declared.pieces.Heading.{Heading}
use Rattle.htmd_chunks.specs.declared.pieces.Piece.{Piece}

abbrev pub part_of : Part → spec.Part
part_of p = record { blocks = map block_of p.blocks.items; continues = p.continues.items }

abbrev pub block_part_of : BlockPart → spec.BlockPart
block_part_of p = record { block = block_of p.block; continues = p.continues.items }

abbrev pub filling_of : Filling → spec.Filling
filling_of f = record {
  done = map part_of f.done.items;
  now = map block_of f.next.items;
  used = f.used;
  free = f.free;
  continues = f.continues.items;
}

abbrev pub list_filling_of : ListFilling → spec.ListFilling
list_filling_of f = record {
  done = map block_part_of f.done.items;
  now = map (λ bs. blocks_of bs.items) f.next.items;
  first = f.first;
  used = f.used;
  free = f.free;
  continues = f.continues.items;
}

abbrev pub heading_of : Heading → pieces.Heading
heading_of h = record { level = h.level; text = string_bytes h.text }

abbrev pub piece_of : Piece → pieces.Piece
piece_of p = record {
  path = map string_bytes p.path.items;
  start = p.start;
  continues = p.continues.items;
  blocks = document_of p.document;
}
