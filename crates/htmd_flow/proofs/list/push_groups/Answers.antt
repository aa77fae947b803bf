use mir.Syntax.{w64}
use mir.Val.{SFits}
use Rattle.std.proofs.Common.{◌∙◌, map, rules}
use Rattle.std.proofs.lemmas.Int.{to_z-of_z}
use Rattle.htmd_flow.specs.ListViews.{item_of}
use Rattle.htmd_flow.specs.ParagraphViews.{writing_in}
use Rattle.htmd_flow.proofs.FeedLemmas.{on_ok}
use Rattle.htmd_flow.proofs.GroupsLemmas.{groups_ended, begun_with}
use Rattle.htmd_flow.proofs.list.push_groups.Goals as goal

pub returns : goal.returns
returns c =
    let begun = c.new-group.ensures in
    let fits : SFits w64 c.args.start = search rules in
    let same = to_z-of_z w64 c.args.start fits in
    on_ok c.finish.result c.finish.ensures
    (groups_ended (writing_in c.args.out.now) (writing_in c.push_items.new.out) (writing_in c.finish.new.out)
    c.new-group.result c.push_items.new.group c.args.nested c.args.start (map item_of c.args.items.items)
    (begun_with c.new-group.result c.args.nested c.args.start begun.nested (begun.start ∙ same)
    (begun.next ∙ same)
    (begun.items ∙ c.in_ok-with_capacity.ensures.items))
    c.in_ok-push_items.ensures)
