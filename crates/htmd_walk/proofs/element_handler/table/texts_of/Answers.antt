use Rattle.std.proofs.Common.{List, ℕ, sym, ap, ◌∙◌, ◌++◌, ◌∷◌, [], map, take}
use Rattle.std.specs.Prelude.{String}
use Rattle.std.specs.Global.{Global}
use Rattle.std.specs.String.{string_bytes}
use Rattle.std.proofs.lemmas.List.{map_push, take_all}
use Rattle.htmd_walk.specs.declared.element_handler.HandlerResult.{HandlerResult}
use Rattle.htmd_walk.specs.Tables.{text_of_cell}
use Rattle.htmd_walk.specs.Views.{result_view}
use Rattle.std.proofs.lemmas.Simd.{map-map}
use Rattle.htmd_walk.proofs.ChildListsLemmas.{map_next}
use Rattle.htmd_walk.proofs.element_handler.table.texts_of.Goals as goal

abbrev bytes_of : String Global → List ℕ
bytes_of text = string_bytes text

abbrev text_at : HandlerResult → List ℕ
text_at r = text_of_cell (result_view r)

pub loop-content-preserved : goal.loop-content-preserved
loop-content-preserved c =
    let contents = c.args.contents.now in
    let i = c.loop-content.content-index in
    ap (map bytes_of) c.in_ok-push.ensures.items
    ∙ map_push bytes_of c.loop-content.texts.items c.in_ok-cell_text.field-0
    ∙ ap (λ ys. ys ++ bytes_of c.in_ok-cell_text.field-0 ∷ []) c.loop-content.invariant
    ∙ ap (λ y. map text_at (take i contents) ++ y ∷ []) c.in_ok-cell_text.ensures
    ∙ sym (map_next text_at contents i c.content-item.result c.loop-content-test.true c.content-item.is)

pub returns : goal.returns
returns c =
    c.loop-content.invariant
    ∙ ap (map text_at) (take_all c.loop-content.content-index c.args.contents.now c.loop-content-test.false)
    ∙ sym (map-map text_of_cell result_view c.args.contents.now)
