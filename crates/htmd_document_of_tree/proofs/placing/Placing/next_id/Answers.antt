use Rattle.std.proofs.Common.{◌≡◌, ◌∙◌, true, false, ap, sym, refl, arith, length, map, rules}
use Rattle.std.proofs.lemmas.Bool.{true≢false}
use Rattle.std.specs.VecDeque.{deque_len}
use Rattle.htmd_document_of_tree.specs.TargetViews.{target_of}
use Rattle.htmd_document_of_tree.proofs.AnchorsLemmas.{begins-none, here-none, next-here}
use Rattle.htmd_document_of_tree.proofs.placing.Placing.next_id.Goals as goal

pub returns-then-not-is_next_here : goal.returns-then-not-is_next_here
returns-then-not-is_next_here c = record {
  root = refl;
  seen = refl;
  shorter = refl;
  targets = refl;
  ids = (here-none c.args.self.now.seen (map target_of c.args.self.now.targets.items)
      (sym c.is_next_here.ensures ∙ c.if-not-is_next_here.true)).0;
}

pub returns-in-Some : goal.returns-in-Some
returns-in-Some c =
    let items = c.in-Some.ensures.items in
    let here = next-here c.args.self.now.seen c.args.self.now.targets.items c.pop_front.new.self.items c.in-Some.target
    items (sym c.is_next_here.ensures ∙ c.if-not-is_next_here.false) in
    record {
      root = refl;
      seen = refl;
      shorter = omega (arith, ap length items);
      targets = here.1;
      ids = here.0;
    }

pub returns-in-None : goal.returns-in-None
returns-in-None c =
    let len : deque_len c.args.self.now.targets ≡ length c.args.self.now.targets.items = search rules in
    let none : length c.args.self.now.targets.items ≡ 0 = sym len ∙ c.in-None.ensures.cases.0 in
    let never : true ≡ false = sym (sym c.is_next_here.ensures ∙ c.if-not-is_next_here.false)
    ∙ begins-none c.args.self.now.seen c.args.self.now.targets.items none in
    absurd (true≢false never)
