-- One more registration, of the last name that is left.
use Rattle.std.proofs.Common.{List, [], ◌∷◌, ◌++◌, ℕ, map, reverse, All, ◌≡◌, subst, sym, ap, ◌∙◌, append_assoc, arith}
use Rattle.std.proofs.Common.{string_bytes}
use Rattle.std.specs.Prelude.{String}
use Rattle.std.specs.Global.{Global}
use Rattle.std.proofs.lemmas.List.{reverse-append}
use Rattle.std.proofs.lemmas.List.Elements.{All-take}
use Rattle.htmd_walk.specs.Choice.{tag_at, tags_at}
use Rattle.htmd_walk.specs.TagIndexes.{tag_index}
use Rattle.htmd_walk.proofs.element_handler.registrations.Registrations.push_all.Goals as goal

abbrev Same : String Global × String Global → Type 0
Same p = string_bytes p.0 ≡ string_bytes p.1

abbrev tag_of : String Global × String Global → List ℕ
tag_of p = string_bytes p.1

pub loop-key-preserved : goal.loop-key-preserved
loop-key-preserved c =
    let index = c.args.index in
    let names = c.loop-key.names.items in
    let left = c.pop.new.self.items in
    let pair : String Global × String Global = (c.in-Some.key, c.in-Some.tag) in
    let all = map tag_index c.loop-key.self.all.items in
    let here = c.loop-key.invariant in
    let reversed : reverse names ≡ pair ∷ reverse left =
    ap reverse c.in-Some.ensures.items ∙ reverse-append left (pair ∷ []) in
    record {
      same = subst (All Same) (sym c.in-Some.ensures.rest) (All-take Same _ names here.same);
      positions = omega (arith, here.positions, c.in-Some.ensures.cases, c.push.ensures.position);
      room = omega (arith, here.room, c.in-Some.ensures.cases, c.push.ensures.len, c.push.ensures.room);
      whole = ap (λ l. l ++ tags_at index (map tag_of (reverse left))) c.push.ensures.all
          ∙ append_assoc all (tag_at index (string_bytes c.in-Some.tag) ∷ [])
          (tags_at index (map tag_of (reverse left)))
          ∙ ap (λ l. all ++ tags_at index (map tag_of l)) (sym reversed)
          ∙ here.whole;
    }
