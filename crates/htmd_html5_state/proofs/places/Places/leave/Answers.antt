-- What was known of it is written back.
use Rattle.std.proofs.Common.{◌∙◌, ℕ, List, refl, sym, ap, cond, get_or}
use Rattle.std.proofs.lemmas.List.{with_items_is}
use Rattle.std.specs.Prelude.{◌==◌}
use Rattle.std.specs.Vec.{with_items}
use Rattle.htmd_html5_state.specs.OpenElements.{OpenValue}
use Rattle.htmd_html5_state.specs.OpenViews.{open_of}
use Rattle.htmd_html5_state.specs.declared.places.Around.{Around}
use Rattle.htmd_html5_state.specs.declared.places.Places.{Places}
use Rattle.htmd_html5_state.proofs.PlacesLemmas.{placed-leave, kept-by}
use Rattle.htmd_html5_state.proofs.places.Places.leave.Goals as goal

pub returns-clause-placed : goal.returns-clause-placed
returns-clause-placed c = λ es len at.
    let p : Places = c.args.self.now in
    let e : OpenValue = open_of c.args.element.now in
    let a : Around = c.index-around.result.now in
    let q : Places = record {
      names = c.replace.new.self;
      nodes = with_items p.nodes c.replace_place.new.held;
      around = p.around;
    } in
    placed-leave p q e es (kept-by p q c.replace.ensures.room refl) at a
    (c.index-around.ensures ∙ ap (λ (k : ℕ). get_or p.around.items k a) (sym len))
    c.replace.ensures.places (c.replace.ensures.spellings at.numbered) (c.replace.ensures.numbered at.numbered)
    (λ n. ap (λ (xs : List ℕ). get_or xs n 0)
    (with_items_is p.nodes c.replace_place.new.held (c.replace_place.ensures.len ∙ c.deref_mut.ensures.len))
    ∙ (c.replace_place.ensures.places n
    ∙ ap (λ (xs : List ℕ). cond (e.node == n) a.node (get_or xs n 0)) c.deref_mut.ensures.value))
    refl refl
