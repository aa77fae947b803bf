-- A place or none.
use Rattle.std.proofs.Common.{◌∙◌, ap}
use Rattle.htmd_html5_state.specs.Formatting.{is_listed}
use Rattle.htmd_html5_state.specs.FormattingViews.{entries_of, IsNewest}
use Rattle.htmd_html5_state.proofs.FormattingLemmas.{listed-by}
use Rattle.htmd_html5_state.proofs.formatting_list.FormattingList.is_listed.Goals as goal

pub returns : goal.returns
returns c =
    c.is_some.ensures
    ∙ (listed-by c.args.node c.deref.result.now c.position.result c.position.ensures
    ∙ ap (is_listed c.args.node) (ap entries_of c.deref.ensures.value ∙ c.self.view_is))
