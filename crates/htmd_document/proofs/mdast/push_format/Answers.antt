-- What is left to prove of `push_format`.
use Rattle.std.proofs.Common.{◌∙◌, sym, ap}
use Rattle.std.proofs.lemmas.Result.{IfOk-equal}
use Rattle.serde_json.specs.View.{items_view}
use Rattle.htmd_document.specs.Formats.{of_format}
use Rattle.htmd_document.specs.Mdast.{beside, one_item, format_data}
use Rattle.htmd_document.proofs.mdast.push_format.Goals as goal

pub returns-in_ok-parent-in-Emphasis : goal.returns-in_ok-parent-in-Emphasis
returns-in_ok-parent-in-Emphasis c = IfOk-equal c.push_value.result _ _ _ c.push_value.ensures
    (ap (λ d. beside (items_view c.args.out.now.items) (one_item d)) c.in_ok-parent-in-Emphasis.ensures
    ∙ sym (ap (λ f. beside (items_view c.args.out.now.items)
    (format_data (of_format f) (items_view c.args.children.items)))
    c.in-Emphasis.is))

pub returns-in_ok-parent-in-Strong : goal.returns-in_ok-parent-in-Strong
returns-in_ok-parent-in-Strong c = IfOk-equal c.push_value-in-Strong.result _ _ _ c.push_value-in-Strong.ensures
    (ap (λ d. beside (items_view c.args.out.now.items) (one_item d)) c.in_ok-parent-in-Strong.ensures
    ∙ sym (ap (λ f. beside (items_view c.args.out.now.items)
    (format_data (of_format f) (items_view c.args.children.items)))
    c.in-Strong.is))
