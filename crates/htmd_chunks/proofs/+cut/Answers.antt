-- One more block, one more item, and what each call leaves.
use Rattle.std.proofs.Common.{◌≡◌, suc, ◌+◌, ◌-◌, ◌<◌, ◌≤◌, max, true, false, [], length, map, refl, sym, subst, ap}
use Rattle.std.proofs.Common.{◌∙◌, add-one, arith}
use Rattle.std.specs.Prelude.{nat_le, if◌then◌else◌, Some}
use Rattle.std.specs.Vec.Iter.{into_iter_items}
use Rattle.std.proofs.lemmas.Bool.Decides.{nat_tests}
use Rattle.std.proofs.lemmas.List.{nil_from_length}
use Rattle.htmd_document.specs.Documents as value
use Rattle.htmd_document.specs.Documents.{no_blocks, item}
use Rattle.htmd_document.specs.DocumentViews.{block_of, blocks_of}
use Rattle.htmd_document.specs.NormalDocuments.{depth_of, depth_among, depth_of_items}
use Rattle.htmd_commonmark.specs.BlockMarkdown.{item_count}
use Rattle.htmd_commonmark.specs.BlockViews.{all_items_of}
use Rattle.htmd_commonmark.proofs.BlocksLemmas.{list_shape, on_ok}
use Rattle.htmd_chunks.specs.ChunkViews.{block_part_of, part_of, filling_of, list_filling_of}
use Rattle.htmd_chunks.specs.Cuts as spec
use Rattle.htmd_chunks.specs.Fillings.{parts_in, list_filling, list_parts_in, list_with_room}
use Rattle.htmd_chunks.specs.Least.{empties_before, group_cost, least_among}
use Rattle.htmd_chunks.specs.Measures.{heads_cost, empties_cost}
use Rattle.htmd_chunks.specs.Sizes.{in_item}
use Rattle.htmd_chunks.specs.declared.bounds.ListShape.{ListShape}
use Rattle.htmd_chunks.specs.declared.cut_list.Group.{Group}
use Rattle.htmd_chunks.specs.declared.list_filling.ListFilling.{ListFilling}
use Rattle.htmd_chunks.proofs.CutStepsLemmas.{Going, Put, goes_empty, goes_filled, goes_end, same_going, none_of}
use Rattle.htmd_chunks.proofs.CutStepsLemmas.{blocks_end, no_heads, some_heads, none_heads, group_cut, all_empty}
use Rattle.htmd_chunks.proofs.CutStepsLemmas.{some_filled_item}
use Rattle.htmd_chunks.proofs.DepthsLemmas.{list-less, cut_items_below}
use Rattle.htmd_chunks.proofs.LeastLemmas.{if_ok_as, items_counted, none_filled, some_filled}
use Rattle.htmd_chunks.proofs.+cut.Goals.{cut::split-then-not-is_empty+in_ok-push_whole, cut::split-else-not-is_empty}
use Rattle.htmd_chunks.proofs.+cut.Goals.{cut_list::cut_items-then-is_empty+in_ok-after}
use Rattle.htmd_chunks.proofs.+cut.Goals.{cut_list::cut_items-else-is_empty, cut_list::cut_items-in_default}
use Rattle.htmd_chunks.proofs.+cut.Goals.{cut_list::cut_items-in-Some-replace+in_ok-push_group}
use Rattle.htmd_chunks.proofs.+cut.Goals.{cut_list::cut_items-in-Some-last+in_ok-push_group-2}
use Rattle.htmd_chunks.proofs.+cut.Goals.{cut_list::cut_items-in_default-last}
use Rattle.htmd_chunks.proofs.+cut.Goals as goal

pub cut::cut-cut_list-requires : goal.cut::cut-cut_list-requires
cut::cut-cut_list-requires t c =
    let items = c.in-List.items in
    let shape : block_of c.args.block ≡ value.list c.in-List.start c.in-List.tight (all_items_of items.items) =
    ap block_of c.in-List.is ∙ list_shape c.in-List.start c.in-List.tight items in
    let less = list-less items.items items.items (block_of c.args.block) c.in-List.start c.in-List.tight shape refl in (
      cut_items_below (depth_of_items (all_items_of items.items)) (depth_of (block_of c.args.block)) t less c.decreases,
      tt,
    )

pub cut::cut-returns-in-List : goal.cut::cut-returns-in-List
cut::cut-returns-in-List t c =
    let items = c.in-List.items in
    let shape : block_of c.args.block ≡ value.list c.in-List.start c.in-List.tight (all_items_of items.items) =
    ap block_of c.in-List.is ∙ list_shape c.in-List.start c.in-List.tight items in
    if_ok_as (λ parts. map block_part_of parts.items) c.cut_list.result _
    (spec.cut c.args.bounds.now c.args.margin c.args.first (block_of c.args.block)) c.cut_list.ensures
    (ap (spec.cut c.args.bounds.now c.args.margin c.args.first) (sym shape))

pub cut::cut_list-returns-then-empties_before-len : goal.cut::cut_list-returns-then-empties_before-len
cut::cut_list-returns-then-empties_before-len t c =
    let items = c.args.items in
    let all : empties_before (all_items_of items.items) ≡ length items.items =
    ap (λ l. empties_before (all_items_of l)) (sym c.deref.ensures.value) ∙ sym c.empties_before.ensures.value
    ∙ c.if-empties_before-len.true ∙ c.len-2.ensures ∙ items.ok.0 in
    let l : ListShape =
    record { start = c.args.start; is_tight = c.args.tight; count = item_count (all_items_of items.items) } in
    let b = value.list c.args.start c.args.tight (all_items_of items.items) in
    if_ok_as (λ parts. map block_part_of parts.items) c.whole.result _
    (spec.cut c.args.bounds.now c.args.margin c.args.first b) c.whole.ensures
    (ap spec.whole (list_shape c.args.start c.args.tight items)
    ∙ sym (ap (λ e. if e then list_parts_in l (spec.items_filled c.args.bounds.now c.args.margin l
    (list_filling c.args.first) 0 (empties_before (all_items_of items.items)) (all_items_of items.items))
    else spec.whole b) (all_empty items.items all)))

pub cut::cut_list-returns : goal.cut::cut_list-returns
cut::cut_list-returns t c =
    let items = c.args.items in
    let some : empties_before (all_items_of items.items) ≡ length items.items → ⊥ =
    λ all. c.if-empties_before-len.false (c.empties_before.ensures.value
    ∙ ap (λ l. empties_before (all_items_of l)) c.deref.ensures.value ∙ all ∙ sym items.ok.0
    ∙ sym c.len-2.ensures) in
    let parts = λ (l : ListShape). list_parts_in l (spec.items_filled c.args.bounds.now c.args.margin l
    (list_filling c.args.first) 0 (empties_before (all_items_of items.items)) (all_items_of items.items)) in
    let count : c.len.result ≡ item_count (all_items_of items.items) =
    c.len.ensures ∙ items.ok.0 ∙ sym (items_counted items.items) in
    let b = value.list c.args.start c.args.tight (all_items_of items.items) in
    if_ok_as (λ parts. map block_part_of parts.items) c.cut_items.result _
    (spec.cut c.args.bounds.now c.args.margin c.args.first b) c.cut_items.ensures
    (ap (λ n. parts (record { start = c.args.start; is_tight = c.args.tight; count = n })) count
    ∙ sym (ap (λ e. if e then parts (record {
      start = c.args.start;
      is_tight = c.args.tight;
      count = item_count (all_items_of items.items);
    }) else spec.whole b) (some_filled_item items.items some)))

pub cut::split-returns : goal.cut::split-returns
cut::split-returns t c =
    let bounds = c.args.bounds.now in
    let margin = c.args.margin in
    let tight = c.args.is_tight in
    let heads = c.loop-block.heads in
    let left = into_iter_items c.loop-block.block-iterator in
    let none : left ≡ [] =
    nil_from_length left (sym c.loop-block.block-iterator.rest.ok.0 ∙ c.in-None.ensures.steps.0) in
    let so_far = spec.filled bounds margin tight (filling_of c.loop-block.filling) (map block_of heads.blocks.items) in
    let ends : so_far no_blocks ≡ filling_of c.if-not-is_empty.filling =
    elim c.if-not-is_empty.branch [
      | cut::split-then-not-is_empty+in_ok-push_whole w ↦
          let some : 0 < length heads.blocks.items =
          grind (arith, nat_tests, heads.blocks.ok.0, c.is_empty.ensures, w.if-not-is_empty.true) in
          blocks_end bounds margin tight (filling_of c.loop-block.filling) (filling_of c.if-not-is_empty.filling)
          (map block_of heads.blocks.items) c.loop-block.filling.limits.most c.loop-block.filling.limits.gap
          w.saturating_sub.result (some_heads heads.blocks.items some) c.loop-block.invariant.most
          c.loop-block.invariant.gap
          (w.saturating_sub.ensures ∙ ap (λ n. n - c.in_ok-gap.gap) c.loop-block.invariant.taken
          ∙ ap (λ n. heads_cost bounds.options margin tight (map block_of heads.blocks.items) - n)
          (c.in_ok-gap.ensures ∙ sym c.loop-block.invariant.gap))
          (ap filling_of w.filling-is ∙ w.in_ok-push_whole.ensures.filling)
      | cut::split-else-not-is_empty w ↦
          let empty : length heads.blocks.items ≡ 0 =
          grind (arith, nat_tests, heads.blocks.ok.0, c.is_empty.ensures, w.if-not-is_empty.false) in
          no_heads bounds margin tight (filling_of c.loop-block.filling) (map block_of heads.blocks.items)
          (none_heads heads.blocks.items empty) ∙ sym (ap filling_of w.filling-is)
    ] in
    if_ok_as (λ parts. map part_of parts.items) c.into_parts.result _
    (spec.split bounds margin tight c.args.first (blocks_of c.args.blocks.items)) c.into_parts.ensures
    (ap parts_in (sym (c.loop-block.invariant.rest ∙ ap (λ bs. so_far (blocks_of bs)) none ∙ ends)))

pub cut_list::cut_items-loop-item-preserved : goal.cut_list::cut_items-loop-item-preserved
cut_list::cut_items-loop-item-preserved t c =
    let bounds = c.args.bounds.now in
    let margin = c.args.margin in
    let list = c.args.list in
    let all = all_items_of c.args.items.items in
    let whole = spec.items_filled bounds margin list (list_filling c.args.first) 0 (empties_before all) all in
    let deepest = depth_of_items all in
    let l = c.loop-item in
    let f = list_filling_of l.filling in
    let v = c.in-Some.item in
    let behind = into_iter_items c.next.new.self in
    let rest = all_items_of behind in
    let steps = c.in-Some.ensures.steps.0 in
    let here : all_items_of (into_iter_items l.item-iterator) ≡ item (blocks_of v.items) rest =
    ap all_items_of steps in
    let deep : depth_of_items (all_items_of (into_iter_items l.item-iterator))
    ≡ max (depth_among (blocks_of v.items)) (depth_of_items rest) = ap depth_of_items here in
    let depth : depth_of_items rest ≤ deepest = omega (arith, deep, l.invariant.depth) in
    let counted : length (into_iter_items l.item-iterator) ≡ suc (length behind) = ap length steps in
    let count : c.in_ok-place.place + length behind ≡ length c.args.items.items =
    omega (arith, counted, c.in_ok-place.ensures, l.invariant.count) in
    let going = subst (λ is. Going bounds margin list whole deepest f l.place l.before l.after l.last is) here
    l.invariant.going in
    elim c.if-is_empty.branch [
      | cut_list::cut_items-then-is_empty+in_ok-after w ↦
          let empty : length v.items ≡ 0 = grind (arith, nat_tests, v.ok.0, c.is_empty.ensures, w.if-is_empty.true) in
          let at_empty = subst (λ bs. Going bounds margin list whole deepest f l.place l.before l.after l.last
          (item bs rest)) (none_filled v empty) going in
          record {
            going = same_going bounds margin list whole deepest f (list_filling_of c.if-is_empty.filling) (l.place + 1)
                c.in_ok-place.place l.before c.if-is_empty.before (l.after + 1) c.if-is_empty.after l.last
                c.if-is_empty.last rest (ap list_filling_of w.filling-is) c.in_ok-place.ensures w.before-is
                (w.after-is ∙ w.in_ok-after.ensures) w.last-is
                (goes_empty bounds margin list whole deepest f l.place l.before l.after l.last rest at_empty);
            depth = depth;
            count = count;
            most = ap (λ (h : ListFilling). h.limits.most) w.filling-is ∙ l.invariant.most;
            gap = ap (λ (h : ListFilling). h.limits.gap) w.filling-is ∙ l.invariant.gap;
            list = ap (λ (h : ListFilling). h.list) w.filling-is ∙ l.invariant.list;
          }
      | cut_list::cut_items-else-is_empty w ↦
          let some : 0 < length v.items = grind (arith, nat_tests, v.ok.0, c.is_empty.ensures, w.if-is_empty.false) in
          let g : Group = record { place = l.place; before = l.before; item = v } in
          let next = list_filling_of c.if-is_empty.filling in
          let was = w.replace.ensures.value in
          let put : Put bounds margin list f l.after next l.last =
          elim w.match-replace.branch [
            | cut_list::cut_items-in-Some-replace+in_ok-push_group x ↦
                subst (Put bounds margin list f l.after next) (sym (sym was ∙ x.in-Some-replace.is))
                (ap list_filling_of (w.filling-is ∙ x.filling-is) ∙ x.in_ok-push_group.ensures.filling)
            | cut_list::cut_items-in_default x ↦
                subst (Put bounds margin list f l.after next)
                (sym (sym was ∙ none_of w.replace.result x.in_default.not-Some))
                (ap list_filling_of (w.filling-is ∙ x.filling-is))
          ] in
          let limits : c.if-is_empty.filling.limits ≡ l.filling.limits =
          elim w.match-replace.branch [
            | cut_list::cut_items-in-Some-replace+in_ok-push_group x ↦
                ap (λ (h : ListFilling). h.limits) (w.filling-is ∙ x.filling-is)
                ∙ x.in_ok-push_group.ensures.limits
            | cut_list::cut_items-in_default x ↦ ap (λ (h : ListFilling). h.limits) (w.filling-is ∙ x.filling-is)
          ] in
          let lists : c.if-is_empty.filling.list ≡ l.filling.list =
          elim w.match-replace.branch [
            | cut_list::cut_items-in-Some-replace+in_ok-push_group x ↦
                ap (λ (h : ListFilling). h.list) (w.filling-is ∙ x.filling-is) ∙ x.in_ok-push_group.ensures.list
            | cut_list::cut_items-in_default x ↦ ap (λ (h : ListFilling). h.list) (w.filling-is ∙ x.filling-is)
          ] in
          let shallow : depth_among (blocks_of v.items) ≤ deepest = omega (arith, deep, l.invariant.depth) in
          record {
            going = same_going bounds margin list whole deepest next next (l.place + 1) c.in_ok-place.place 0
                c.if-is_empty.before 0 c.if-is_empty.after (Some g) c.if-is_empty.last rest refl c.in_ok-place.ensures
                w.before-is w.after-is (w.last-is ∙ w.replace.ensures.after)
                (goes_filled bounds margin list whole deepest f next l.place l.before l.after l.last g rest
                (some_filled v some) refl refl shallow put going);
            depth = depth;
            count = count;
            most = ap (λ n. n.most) limits ∙ l.invariant.most;
            gap = ap (λ n. n.gap) limits ∙ l.invariant.gap;
            list = lists ∙ l.invariant.list;
          }
    ]

pub cut_list::cut_items-returns : goal.cut_list::cut_items-returns
cut_list::cut_items-returns t c =
    let bounds = c.args.bounds.now in
    let margin = c.args.margin in
    let list = c.args.list in
    let all = all_items_of c.args.items.items in
    let whole = spec.items_filled bounds margin list (list_filling c.args.first) 0 (empties_before all) all in
    let deepest = depth_of_items all in
    let l = c.loop-item in
    let f = list_filling_of l.filling in
    let left = into_iter_items l.item-iterator in
    let none : left ≡ [] = nil_from_length left (sym l.item-iterator.rest.ok.0 ∙ c.in-None.ensures.steps.0) in
    let going = subst (λ is. Going bounds margin list whole deepest f l.place l.before l.after l.last
    (all_items_of is))
    none l.invariant.going in
    let next = list_filling_of c.match-last-4.filling in
    let put : Put bounds margin list f l.after next l.last =
    elim c.match-last-4.branch [
      | cut_list::cut_items-in-Some-last+in_ok-push_group-2 w ↦
          subst (Put bounds margin list f l.after next) (sym w.in-Some-last.is)
          (ap list_filling_of w.filling-is ∙ w.in_ok-push_group-2.ensures.filling)
      | cut_list::cut_items-in_default-last w ↦
          subst (Put bounds margin list f l.after next) (sym (none_of l.last w.in_default-last.not-Some))
          (ap list_filling_of w.filling-is)
    ] in
    let lists : c.match-last-4.filling.list ≡ list =
    elim c.match-last-4.branch [
      | cut_list::cut_items-in-Some-last+in_ok-push_group-2 w ↦
          ap (λ (h : ListFilling). h.list) w.filling-is ∙ w.in_ok-push_group-2.ensures.list ∙ l.invariant.list
      | cut_list::cut_items-in_default-last w ↦
          ap (λ (h : ListFilling). h.list) w.filling-is ∙ l.invariant.list
    ] in
    if_ok_as (λ parts. map block_part_of parts.items) c.into_parts.result _ (list_parts_in list whole)
    c.into_parts.ensures
    (ap (λ x. list_parts_in x next) lists
    ∙ ap (list_parts_in list) (sym
    (goes_end bounds margin list whole deepest f next l.place l.before l.after l.last put
    going)))

pub cut_list::push_group-returns-clause-filling : goal.cut_list::push_group-returns-clause-filling
cut_list::push_group-returns-clause-filling t c =
    let bounds = c.args.bounds.now in
    let margin = c.args.margin in
    let list = c.args.list in
    let group = c.args.group in
    let f = c.args.filling.now in
    let g = c.make_room.new.self in
    let within = c.in_ok-within.within in
    let content = blocks_of group.item.items in
    let tight = list.is_tight in
    let parts = map part_of c.in_ok-parts.parts.items in
    let over : nat_le c.in_ok-whole.whole bounds.most ≡ false =
    grind (arith, nat_tests, c.if-whole-bounds.false) in
    let from = group.place - group.before in
    let heads = c.in_ok-heads.heads in
    let least = c.in_ok-least.least in
    let far = list_filling_of f in
    let limits = c.in_ok-make_room.ensures.limits in
    let lists = c.in_ok-make_room.ensures.list in
    on_ok c.push_parts.result c.push_parts.ensures.filling
    (group_cut bounds margin list g.list far (list_filling_of g) (list_filling_of c.push_parts.new.self) group.place
    group.before content c.args.after from heads c.in_ok-whole.whole least c.in_ok-room.room
    c.in_ok-cost_of_last.field-0 c.in_ok-empties_cost.field-0 g.limits.most g.limits.gap within parts refl
    c.in_ok-heads.ensures
    (c.in_ok-whole.ensures
    ∙ ap (λ bs. group_cost bounds margin list group.place heads (blocks_of bs) c.args.after) c.deref.ensures.value)
    over (c.in_ok-within.ensures ∙ ap (λ n. in_item n margin) c.in_ok-item_width.ensures)
    (c.in_ok-least.ensures ∙ ap (λ bs. least_among bounds within tight 0 (blocks_of bs)) c.deref-2.ensures.value)
    (ap (λ n. n.most) limits ∙ c.requires.most) (ap (λ n. n.gap) limits ∙ c.requires.gap)
    (lists ∙ c.requires.list)
    (c.in_ok-make_room.ensures.filling
    ∙ ap (list_with_room f.limits.most f.limits.gap f.list far from) c.in_ok-sum.ensures
    ∙ ap (λ n. list_with_room n.most n.gap f.list far from (heads + least)) (sym limits)
    ∙ ap (λ n. list_with_room g.limits.most g.limits.gap n far from (heads + least)) (sym lists))
    c.in_ok-room.ensures c.in_ok-parts.ensures
    (c.in_ok-cost_of_last.ensures
    ∙ ap (λ ps. spec.cost_of_last_blocks bounds within tight (map part_of ps)) c.deref-3.ensures.value)
    (c.in_ok-empties_cost.ensures ∙ ap (λ k. empties_cost margin list k c.args.after) (add-one group.place)))
