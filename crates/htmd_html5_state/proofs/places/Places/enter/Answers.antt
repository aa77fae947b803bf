-- The element has its place, and knows those before.
use Rattle.std.proofs.Common.{◌∙◌, ◌+◌, ℕ, List, refl, sym, ap, cond, get_or, set, arith}
use Rattle.std.proofs.lemmas.List.{with_items_is}
use Rattle.std.specs.Prelude.{◌==◌}
use Rattle.std.specs.Vec.{with_item, with_items}
use Rattle.htmd_html5_state.specs.OpenElements.{OpenValue}
use Rattle.htmd_html5_state.specs.OpenViews.{open_of}
use Rattle.htmd_html5_state.specs.Sets.{bounds}
use Rattle.htmd_html5_state.specs.declared.places.Around.{Around}
use Rattle.htmd_html5_state.specs.declared.places.Places.{Places}
use Rattle.htmd_html5_state.proofs.PlacesLemmas.{around-is, placed-enter, kept-by}
use Rattle.htmd_html5_state.proofs.places.Places.enter.Goals as goal

pub returns-clause-placed : goal.returns-clause-placed
returns-clause-placed c = λ es len at.
    let p : Places = c.args.self.now in
    let e : OpenValue = open_of c.args.element.now in
    let a : Around = record {
      name = c.replace.result;
      node = c.replace_place.result;
      html = c.html_place_with.result;
      bounds = c.with.result;
    } in
    let q : Places = record {
      names = c.replace.new.self;
      nodes = with_items p.nodes c.replace_place.new.held;
      around = with_item p.around c.args.depth a;
    } in
    placed-enter p q e es (kept-by p q c.replace.ensures.room refl) at c.requires.room
    (c.args.depth + 1) (omega (arith, len)) a
    (around-is p e es at (c.args.depth + 1) (omega (arith, len)) a (c.replace.ensures.before at.numbered)
    (c.replace_place.ensures.before
    ∙ ap (λ (xs : List ℕ). get_or xs c.args.element.now.node 0) c.deref_mut.ensures.value)
    (c.html_place_with.ensures es len at.linked)
    (λ scope. c.with.ensures scope
    ∙ ap (λ (x : ℕ). cond (bounds scope e.name) (c.args.depth + 1) x) (c.bounds.ensures es len at.linked scope)))
    c.replace.ensures.places (c.replace.ensures.spellings at.numbered) (c.replace.ensures.numbered at.numbered)
    (λ n. ap (λ (xs : List ℕ). get_or xs n 0)
    (with_items_is p.nodes c.replace_place.new.held (c.replace_place.ensures.len ∙ c.deref_mut.ensures.len))
    ∙ (c.replace_place.ensures.places n
    ∙ ap (λ (xs : List ℕ). cond (e.node == n) (c.args.depth + 1) (get_or xs n 0)) c.deref_mut.ensures.value))
    (ap (λ (k : ℕ). set p.around.items k a) (sym len)) (omega (arith, len, c.requires.within)) refl
