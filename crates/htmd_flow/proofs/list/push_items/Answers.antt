use Rattle.std.proofs.Common.{◌≡◌, ◌∙◌, ◌∷◌, [], sym, ap, map, fold}
use Rattle.std.proofs.lemmas.List.{map_push}
use Rattle.std.proofs.lemmas.List.Sums.{fold-append}
use Rattle.htmd_flow.specs.GroupViews.{group_of}
use Rattle.htmd_flow.specs.ListViews.{item_of}
use Rattle.htmd_flow.specs.Lists.{Groups, ListItem, with_item}
use Rattle.htmd_flow.specs.ParagraphViews.{writing_in}
use Rattle.htmd_flow.specs.Paragraphs.{Writing, fed, fed_all}
use Rattle.htmd_flow.proofs.GroupsLemmas.{alone, same_alone, nested_all, done_step, start_step, next_step, group_step}
use Rattle.htmd_flow.proofs.list.push_items.Goals as goal

pub loop-item-preserved : goal.loop-item-preserved
loop-item-preserved c =
    let first : Groups = group_of c.args.group.now in
    let before : Groups = fold with_item first (map item_of c.loop-item.yielded) in
    let i : ListItem = item_of c.in-Some.item in
    let one = ap (fold with_item first) (map_push item_of c.loop-item.yielded c.in-Some.item)
    ∙ fold-append with_item first (map item_of c.loop-item.yielded) (i ∷ []) in
    let same : group_of c.loop-item.group ≡ alone before =
    same_alone (group_of c.loop-item.group) before
    (c.loop-item.invariant.nested ∙ sym (nested_all first (map item_of c.loop-item.yielded)))
    c.loop-item.invariant.start c.loop-item.invariant.next
    c.loop-item.invariant.group in
    let step = c.in_ok-push_item.ensures in
    record {
      written =
          step.written
          ∙ ap (λ (w : Writing). fed_all w (with_item (group_of c.loop-item.group) i).done)
          c.loop-item.invariant.written
          ∙ ap (λ (g : Groups). fed_all (fed_all (writing_in c.args.out.now) before.done) (with_item g i).done) same
          ∙ sym (fold-append fed (writing_in c.args.out.now) before.done (with_item (alone before) i).done)
          ∙ ap (fed_all (writing_in c.args.out.now)) (sym (done_step before i))
          ∙ ap (λ (g : Groups). fed_all (writing_in c.args.out.now) g.done) (sym one);
      nested = step.nested ∙ c.loop-item.invariant.nested;
      start = step.start ∙ ap (λ (g : Groups). (with_item g i).start) same ∙ sym (start_step before i)
          ∙ ap (λ (g : Groups). g.start) (sym one);
      next = step.next ∙ ap (λ (g : Groups). (with_item g i).next) same ∙ sym (next_step before i)
          ∙ ap (λ (g : Groups). g.next) (sym one);
      group = step.group ∙ ap (λ (g : Groups). (with_item g i).group) same ∙ sym (group_step before i)
          ∙ ap (λ (g : Groups). g.group) (sym one);
    }
