-- An address that is not empty.
use Rattle.std.proofs.Common.{◌≡◌, false, sym, ap, ◌∙◌}
use Rattle.std.specs.Prelude.{◌||◌}
use Rattle.std.specs.List.{list_any}
use Rattle.htmd_lexical.specs.CharacterClasses.{is_empty}
use Rattle.htmd_commonmark.specs.Addresses.{is_space_or_control}
use Rattle.htmd_commonmark.proofs.AddressesLemmas.{filled_if}
use Rattle.htmd_commonmark.proofs.address.needs_brackets.Goals as goal

pub returns-else-is_empty : goal.returns-else-is_empty
returns-else-is_empty c =
    let s = c.args.address.now in
    let some : is_empty s ≡ false = filled_if s (sym c.is_empty.ensures ∙ c.if-is_empty.false) in
    c.holds_space_or_control.ensures
    ∙ (ap (list_any is_space_or_control) c.as_bytes.ensures.value
    ∙ ap (λ t. t || list_any is_space_or_control s) (sym some))
