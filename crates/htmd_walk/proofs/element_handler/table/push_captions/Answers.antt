use Rattle.std.proofs.Common.{List, ℕ, sym, ap, ◌∙◌, ◌++◌, map, take, string_bytes}
use Rattle.std.specs.Prelude.{String}
use Rattle.std.specs.Global.{Global}
use Rattle.std.specs.List.{flat_map}
use Rattle.std.proofs.lemmas.List.{take_all, flat_map_more}
use Rattle.htmd_walk.specs.Tables.{with_line_end}
use Rattle.htmd_walk.proofs.ChildListsLemmas.{map_next}
use Rattle.htmd_walk.proofs.element_handler.table.push_captions.Goals as goal

abbrev bytes_of : String Global → List ℕ
bytes_of text = string_bytes text

pub loop-caption-preserved : goal.loop-caption-preserved
loop-caption-preserved c =
    let captions = c.args.captions.now in
    let i = c.loop-caption.caption-index in
    let before = string_bytes c.args.out.now in
    c.in_ok-push_line.ensures
    ∙ ap (λ s. s ++ with_line_end c.as_str.result.now) c.loop-caption.invariant
    ∙ ap (λ s. (before ++ flat_map with_line_end (map bytes_of (take i captions))) ++ with_line_end s)
    c.as_str.ensures.value
    ∙ flat_map_more with_line_end before (map bytes_of (take i captions)) (bytes_of c.caption-item.result)
    ∙ ap (λ xs. before ++ flat_map with_line_end xs)
    (sym (map_next bytes_of captions i c.caption-item.result c.loop-caption-test.true c.caption-item.is))

pub returns : goal.returns
returns c =
    c.loop-caption.invariant
    ∙ ap (λ xs. string_bytes c.args.out.now ++ flat_map with_line_end (map bytes_of xs))
    (take_all c.loop-caption.caption-index c.args.captions.now c.loop-caption-test.false)
