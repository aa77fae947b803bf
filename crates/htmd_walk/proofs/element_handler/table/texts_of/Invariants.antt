use Rattle.std.proofs.Common.{◌≡◌, take, map}
use Rattle.std.specs.String.{string_bytes}
use Rattle.htmd_walk.specs.Tables.{text_of_cell}
use Rattle.htmd_walk.specs.Views.{result_view}
use Rattle.htmd_walk.proofs.element_handler.table.texts_of.Given as goal

abbrev pub invariant-loop-content : goal.invariant-loop-content
invariant-loop-content l =
    map (λ text. string_bytes text) l.texts.items
    ≡ map (λ r. text_of_cell (result_view r)) (take l.content-index l.contents)
