-- The nodes of one more part.
use Rattle.std.proofs.Common.{◌≡◌, ℕ, ◌+◌, ◌<◌, List, [], ◌∷◌, ◌++◌, length, get_or, take, sym, ap, ◌∙◌}
use Rattle.std.proofs.lemmas.List.{take_more, map_push, flat_map_more}
use Rattle.htmd_walk.specs.declared.element_handler.table_layout.Part.{Part}
use Rattle.htmd_walk.specs.TableLayouts as spec
use Rattle.htmd_walk.specs.TableLayouts.{nodes_of}
use Rattle.htmd_walk.specs.TableViews.{part_view, parts_view}
use Rattle.htmd_walk.proofs.element_handler.table_layout.nodes_of.Goals as goal

one_more : (parts : List Part) (i : ℕ) (p : Part) (nodes : List ℕ) → i < length parts → p ≡ get_or parts i p
    → nodes ≡ nodes_of (parts_view (take i parts))
    → nodes ++ p.nodes.items ≡ nodes_of (parts_view (take (i + 1) parts))
one_more parts i p nodes within is so =
    let front = take i parts in
    ap (λ l. l ++ p.nodes.items) so
    ∙ flat_map_more (λ (q : spec.Part). q.nodes) [] (parts_view front) (part_view p)
    ∙ ap nodes_of (sym (map_push part_view front p))
    ∙ ap (λ q. nodes_of (parts_view (front ++ q ∷ []))) is
    ∙ ap (λ l. nodes_of (parts_view l)) (sym (take_more parts i p within))

pub loop-part-preserved : goal.loop-part-preserved
loop-part-preserved c =
    c.in_ok-extend_from_slice.ensures.items
    ∙ ap (λ l. c.loop-part.nodes.items ++ l) c.as_slice.ensures.value
    ∙ one_more c.args.parts.now c.loop-part.part-index c.part-item.result c.loop-part.nodes.items
    c.loop-part-test.true
    c.part-item.is c.loop-part.invariant
