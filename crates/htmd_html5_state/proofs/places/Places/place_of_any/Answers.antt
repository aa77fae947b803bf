-- One name more.
use Rattle.std.proofs.Common.{◌∙◌, ℕ, List, take, max, sym, ap}
use Rattle.std.proofs.lemmas.List.{take_more}
use Rattle.htmd_html5_state.specs.Names.{known}
use Rattle.htmd_html5_state.specs.Places.{has_one, innermost}
use Rattle.htmd_html5_state.specs.declared.names.TagName.{TagName}
use Rattle.htmd_html5_state.proofs.PlacesLemmas.{innermost-more, none-innermost}
use Rattle.htmd_html5_state.proofs.places.Places.place_of_any.Goals as goal

pub loop-tag-init : goal.loop-tag-init
loop-tag-init c = λ stack at. sym (none-innermost stack)

pub loop-tag-preserved : goal.loop-tag-preserved
loop-tag-preserved c = λ stack at.
    let tags : List TagName = c.args.tags.now in
    let i : ℕ = c.loop-tag.tag-index in
    c.max-place.ensures
    ∙ (ap (λ (n : ℕ). max n c.loop-tag.place) (c.tag_place.ensures ∙ at.names (known _))
    ∙ (ap (max _) (c.loop-tag.invariant stack at)
    ∙ (sym (innermost-more (take i tags) _ stack)
    ∙ ap (λ (ts : List TagName). innermost (has_one ts) stack) (sym (take_more tags i _ c.loop-tag-test.true)))))
