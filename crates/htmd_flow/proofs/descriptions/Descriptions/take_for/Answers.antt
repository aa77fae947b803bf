-- The last one is taken out, or one is put behind it.
use Rattle.std.proofs.Common.{◌≡◌, ◌∙◌, ◌&&◌, false, sym, ap}
use Rattle.htmd_shown.specs.Showings.{shows}
use Rattle.htmd_shown.specs.SimpleViews.{simple_of}
use Rattle.htmd_flow.proofs.DescriptionsLemmas.{taken_last, taken_new}
use Rattle.htmd_flow.proofs.descriptions.Descriptions.take_for.Goals as goal
use Rattle.htmd_flow.proofs.descriptions.Descriptions.take_for.Goals.{then-shows, else-shows}

pub returns-then-not-last : goal.returns-then-not-last
returns-then-not-last c =
    let is_over : (c.shows.result && c.in-Some.last.is_term) ≡ c.if-shows.value = elim c.if-shows.branch [
      | then-shows w ↦ ap (λ b. b && c.in-Some.last.is_term) w.if-shows.true ∙ sym w.value-is
      | else-shows w ↦ ap (λ b. b && c.in-Some.last.is_term) w.if-shows.false
          ∙ sym w.if-shows.false ∙ sym w.value-is
    ] in
    taken_last (shows false (simple_of c.args.node.now)) c.args.self.now.begun.items c.pop.new.self.items
    c.in-Some.last c.in-Some.ensures.items
    (ap (λ b. b && c.in-Some.last.is_term) (sym c.shows.ensures) ∙ is_over ∙ c.if-not-last.true)

pub returns : goal.returns
returns c =
    let is_over : (c.shows.result && c.in-Some.last.is_term) ≡ c.if-shows.value = elim c.if-shows.branch [
      | then-shows w ↦ ap (λ b. b && c.in-Some.last.is_term) w.if-shows.true ∙ sym w.value-is
      | else-shows w ↦ ap (λ b. b && c.in-Some.last.is_term) w.if-shows.false
          ∙ sym w.if-shows.false ∙ sym w.value-is
    ] in
    taken_new (shows false (simple_of c.args.node.now)) c.args.self.now.begun.items c.pop.new.self.items
    c.push.new.self.items c.in-Some.last (record { is_term = false; content = c.new.result }) c.in-Some.ensures.items
    c.in_ok-push.ensures.items
    (ap (λ b. b && c.in-Some.last.is_term) (sym c.shows.ensures) ∙ is_over ∙ c.if-not-last.false)
    (ap (λ w. record { is_term = false; content = w }) c.new.ensures)
