-- The newest entry is replaced.
use Rattle.std.proofs.Common.{◌≡◌, ◌∙◌, sym, ap, false}
use Rattle.htmd_html5_state.specs.Formatting.{is_listed, replace_entry}
use Rattle.htmd_html5_state.specs.FormattingViews.{entries_of, IsNewest}
use Rattle.htmd_html5_state.proofs.FormattingLemmas.{IsNewest-replace, replace_entry-none}
use Rattle.htmd_html5_state.proofs.formatting_list.FormattingList.replace.Goals as goal

pub returns-in-Some : goal.returns-in-Some
returns-in-Some c =
    let at : IsNewest c.args.node c.self.inside.entries.items c.in-Some.index =
    rw c.deref.ensures.value at c.in-Some.ensures
    in
    IsNewest-replace c.args.node c.self.inside.entries.items c.in-Some.index at c.args.by
    ∙ ap (replace_entry c.args.node c.args.by) c.self.view_is

pub returns-in_default : goal.returns-in_default
returns-in_default c =
    let lacks : is_listed c.args.node c.args.self.now ≡ false =
    rw (c.deref.ensures.value, c.self.view_is) at c.in_default.ensures in
    sym (replace_entry-none c.args.node c.args.by c.args.self.now lacks)
