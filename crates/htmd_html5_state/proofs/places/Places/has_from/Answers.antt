-- A name, or one of several.
use Rattle.std.proofs.Common.{◌∙◌, ap, sym, List}
use Rattle.std.specs.List.{list_any}
use Rattle.htmd_html5_state.specs.Names.{known}
use Rattle.htmd_html5_state.specs.OpenElements.{is_in}
use Rattle.htmd_html5_state.specs.Places.{is_from, innermost, name_place}
use Rattle.htmd_html5_state.specs.declared.names.TagName.{TagName}
use Rattle.htmd_html5_state.specs.declared.sets.NameSet.{NameSet}
use Rattle.htmd_html5_state.proofs.TagLemmas.{several}
use Rattle.htmd_html5_state.proofs.PlacesLemmas.{only-from, several-from}
use Rattle.htmd_html5_state.proofs.places.Places.has_from.Goals as goal

pub returns-in-Only : goal.returns-in-Only
returns-in-Only c = λ stack at.
    c.tag_is_from.ensures
    ∙ (only-from c.args.self.now stack at c.args.bound c.in-Only.tag
    ∙ ap (λ (s : NameSet). is_from c.args.bound (innermost (is_in s) stack)) (sym c.in-Only.is))

pub returns-in_default : goal.returns-in_default
returns-in_default c = λ stack at.
    c.one_is_from.ensures
    ∙ (ap
    (λ (ts : List TagName). list_any (λ t. is_from c.args.bound (name_place c.args.self.now.names (known t))) ts)
    c.members.ensures
    ∙ several-from c.args.self.now stack at c.args.bound c.args.set (several c.args.set c.in_default.not-Only))
