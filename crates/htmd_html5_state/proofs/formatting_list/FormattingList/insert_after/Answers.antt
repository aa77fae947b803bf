-- An entry is put right after the newest one.
use Rattle.std.proofs.Common.{◌≡◌, ◌∙◌, sym, ap, false}
use Rattle.htmd_html5_state.specs.Formatting.{is_listed, insert_after}
use Rattle.htmd_html5_state.specs.FormattingViews.{entries_of, IsNewest}
use Rattle.htmd_html5_state.proofs.FormattingLemmas.{IsNewest-insert, insert_after-none}
use Rattle.htmd_html5_state.proofs.formatting_list.FormattingList.insert_after.Goals as goal

pub returns-in_ok-insert : goal.returns-in_ok-insert
returns-in_ok-insert c =
    let at : IsNewest c.args.node c.self.inside.entries.items c.in-Some.index =
    rw c.deref.ensures.value at c.in-Some.ensures
    in
    ap entries_of c.in_ok-insert.ensures.items
    ∙ (IsNewest-insert c.args.node c.self.inside.entries.items c.in-Some.index at c.args.new
    ∙ ap (insert_after c.args.node c.args.new) c.self.view_is)

pub returns-in_default : goal.returns-in_default
returns-in_default c =
    let lacks : is_listed c.args.node c.args.self.now ≡ false =
    rw (c.deref.ensures.value, c.self.view_is) at c.in_default.ensures in
    sym (insert_after-none c.args.node c.args.new c.args.self.now lacks)
