use Rattle.std.proofs.Common.{◌≡◌, ◌∙◌, sym, ap, false, encode_utf8_all, filter}
use Rattle.std.proofs.lemmas.Result.{IfOk-weaker}
use Rattle.std.specs.List.{list_any}
use Rattle.std.specs.Str.{chars}
use Rattle.htmd_shown.specs.Attributes.{is_in_address, is_space_or_control}
use Rattle.htmd_shown.proofs.LeadsLemmas.{address_whole}
use Rattle.htmd_shown.proofs.attributes.address.Goals as goal

pub returns-then-holds_space_or_control : goal.returns-then-holds_space_or_control
returns-then-holds_space_or_control c =
    IfOk-weaker c.kept_in_address.result _ _
    (λ s e. e ∙ ap (λ t. encode_utf8_all (filter is_in_address (chars t))) c.without_controls_around-text.ensures)
    c.kept_in_address.ensures

pub returns-else-holds_space_or_control : goal.returns-else-holds_space_or_control
returns-else-holds_space_or_control c =
    let text = c.without_controls_around-text.result.now in
    let none : list_any is_space_or_control text ≡ false =
    ap (list_any is_space_or_control) (sym c.as_bytes.ensures.value)
    ∙ (sym c.holds_space_or_control.ensures ∙ c.if-holds_space_or_control.false) in
    IfOk-weaker c.from_str.result _ _
    (λ s e. e ∙ address_whole c.args.text.now text c.without_controls_around-text.ensures
    c.without_controls_around-text.utf8 none) c.from_str.ensures.ok
