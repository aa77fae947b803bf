-- What is left to prove of `join`.
use Rattle.std.proofs.Common.{refl, sym, ap, arith, [], ◌++◌, ◌∙◌, append_assoc, append-nil}
use Rattle.std.specs.String.{string_bytes}
use Rattle.std.proofs.iter.Next.{again}
use Rattle.htmd_text.proofs.JoinsLemmas.{Loop-first, run_to_end, some_more, item_joined}
use Rattle.htmd_text.proofs.join.JoinOnStringIterator.join.Goals as goal

pub loop-item-init : goal.loop-item-init
loop-item-init g c =
    let told = c.in-Some.ensures in
    Loop-first g.Self.Iterator told.steps told.goes c.requires.finite (
      omega arith,
      c.in_ok-push_str.ensures.bytes
          ∙ ap (λ l. l ++ c.as_str.result.now) c.new-joined.ensures.bytes
          ∙ c.as_str.ensures
          ∙ sym (append-nil (g.Self.Item.AsStr.text c.in-Some.first)),
    )

pub loop-item-preserved : goal.loop-item-preserved
loop-item-preserved g c =
    let was = c.loop-item.invariant in
    let text = g.Self.Item.AsStr.text in
    let item = c.in-Some-next.item in
    let separator = c.args.separator.now in
    let before = string_bytes c.loop-item.joined in
    again was item c.in-Some-next.is (c.next-in-loop-item.ensures.steps, c.next-in-loop-item.ensures.goes) (
      some_more was.seen item,
      c.in_ok-push_str-3.ensures.bytes
          ∙ ap (λ l. l ++ c.as_str-in-Some-next.result.now) c.in_ok-push_str-2.ensures.bytes
          ∙ ap (λ l. (before ++ separator) ++ l) c.as_str-in-Some-next.ensures
          ∙ append_assoc before separator (text item)
          ∙ ap (λ l. l ++ (separator ++ text item)) was.holds.1
          ∙ sym (item_joined text separator was.seen item was.holds.0),
    )

pub returns-in_default : goal.returns-in_default
returns-in_default g c =
    let at = run_to_end g.Self.Iterator.next_gives _ [] refl c.in_default.ensures.steps in
    (at, refl, refl, c.new-joined.ensures.bytes)

pub returns : goal.returns
returns g c =
    let was = c.loop-item.invariant in
    let at = run_to_end g.Self.Iterator.next_gives _ was.seen was.gave c.in_default-next.ensures.steps in
    (at, refl, refl, was.holds.1)
