-- The newest registration is known by its position, and knows the one before it.
use Rattle.std.proofs.Common.{rules, arith, ◌≡◌, ◌∙◌, ap, sym, subst, map, length, Some, string_bytes}
use Rattle.std.specs.Str.{bytes_eq}
use Rattle.std.specs.Map.{update}
use Rattle.std.specs.HashMap.{get_by_text}
use Rattle.std.proofs.lemmas.Map.Text.{hash_map_updates_text}
use Rattle.htmd_walk.specs.declared.element_handler.registrations.Registration.{Registration}
use Rattle.htmd_walk.specs.TagIndexes.{tag_index}
use Rattle.htmd_walk.specs.Latest.{latest, IsChained}
use Rattle.htmd_walk.proofs.LatestLemmas.{newest-push, chained-push}
use Rattle.htmd_walk.proofs.element_handler.registrations.Registrations.push.Goals as goal

pub invariant_of-self : goal.invariant_of-self
invariant_of-self c =
    let items = c.args.self.now.all.items in
    let old = c.args.self.now.newest in
    let position = c.len-position.result in
    let at : position ≡ length items = first_of (omega arith, search rules) in
    let r : Registration = record { tag = c.args.tag; index = c.args.index; older = c.in-Ok.older } in
    record {
      newest_is = λ q.
          newest-push (get_by_text old) (get_by_text c.insert.new.self) items r position c.args.self.now.newest_is
          (λ s. hash_map_updates_text (string_bytes c.args.key) old c.insert.new.self (Some position)
          c.in-Ok.ensures.updates s
          ∙ ap (λ t. update bytes_eq (get_by_text old) t (Some position) s) c.requires.same)
          at q ∙ sym (ap (λ xs. latest q (map tag_index xs)) c.push_reserved.ensures.items);
      older_is = subst (λ xs. IsChained xs) (sym c.push_reserved.ensures.items)
          (chained-push items r c.args.self.now.older_is (c.in-Ok.ensures.old
          ∙ c.args.self.now.newest_is (string_bytes c.args.key)
          ∙ ap (λ s. latest s (map tag_index items)) c.requires.same));
    }
