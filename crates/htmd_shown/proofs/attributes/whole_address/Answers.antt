use Rattle.std.proofs.Common.{◌≡◌, ◌∙◌, sym, ap, false}
use Rattle.std.specs.List.{list_any}
use Rattle.htmd_shown.specs.Attributes.{is_space_or_control}
use Rattle.htmd_shown.proofs.LeadsLemmas.{address_whole}
use Rattle.htmd_shown.proofs.attributes.whole_address.Goals as goal

pub returns : goal.returns
returns c =
    let text = c.without_controls_around-text.result.now in
    let none : list_any is_space_or_control text ≡ false =
    ap (list_any is_space_or_control) (sym c.as_bytes.ensures.value)
    ∙ (sym c.holds_space_or_control.ensures ∙ c.if-holds_space_or_control.false) in
    address_whole c.args.text.now text c.without_controls_around-text.ensures c.without_controls_around-text.utf8 none
