-- One more container takes the rest.
use Rattle.std.proofs.Common.{◌∙◌, ◌+◌, ◌&&◌, drop, ap, sym, map, arith}
use Rattle.std.proofs.lemmas.List.{take_rest, length-drop, length-map}
use Rattle.htmd_commonmark_reader.specs.ClosedParts.{kind_of}
use Rattle.htmd_commonmark_reader.specs.LineViews.{line_of}
use Rattle.htmd_commonmark_reader.specs.OpenBlocks.{Passed, is_last}
use Rattle.htmd_commonmark_reader.proofs.ContainersLemmas.{takes}
use Rattle.htmd_commonmark_reader.proofs.QuotesLemmas.{all_pass, quotes_left}
use Rattle.htmd_commonmark_reader.proofs.containers.take_line.Goals as goal

pub loop-depth-preserved : goal.loop-depth-preserved
loop-depth-preserved c =
    let ks = c.args.boxes.now in
    let i = c.loop-depth.depth in
    let r = c.in-Some.next in
    let e = c.args.is_empty in
    let test = c.holds_nothing-holds_nothing in
    let flag = test.ensures ∙ ap (λ l. is_last (map kind_of l) && e) (take_rest ks (i + 1)) in
    let one = takes ks _ i c.loop-depth-test.true e test.result (line_of c.loop-depth.rest) flag (line_of r)
    c.in-Some.ensures.rest in
    let count = ap (λ (w : Passed). w.count) one in
    record {
      count = omega (arith, count, c.loop-depth.invariant.count);
      rest = c.loop-depth.invariant.rest ∙ ap (λ (w : Passed). w.rest) one;
      held = c.in-Some.ensures.held;
      left = (quotes_left ks _ i c.quotes-left.result c.loop-depth-test.true c.quotes-left.ensures c.loop-depth.left
          c.loop-depth.invariant.left).1;
    }

pub overflow_sub-left : goal.overflow_sub-left
overflow_sub-left c =
    (quotes_left c.args.boxes.now _ c.loop-depth.depth c.quotes-left.result c.loop-depth-test.true
    c.quotes-left.ensures c.loop-depth.left c.loop-depth.invariant.left).0

pub returns-then-all_take-clause-depth : goal.returns-then-all_take-clause-depth
returns-then-all_take-clause-depth c =
    let l = c.loop-depth in
    let ks = drop l.depth c.args.boxes.now in
    let all = all_pass (map kind_of ks) l.left c.args.is_empty (line_of l.rest) l.invariant.left
    (sym c.all_take.ensures ∙ c.if-all_take.true) in
    let count = ap (λ (w : Passed). w.count) all in
    omega (arith, count, l.invariant.count, length-map ks kind_of, length-drop l.depth c.args.boxes.now)

pub returns-then-all_take-clause-rest : goal.returns-then-all_take-clause-rest
returns-then-all_take-clause-rest c =
    let l = c.loop-depth in
    let ks = drop l.depth c.args.boxes.now in
    let all = all_pass (map kind_of ks) l.left c.args.is_empty (line_of l.rest) l.invariant.left
    (sym c.all_take.ensures ∙ c.if-all_take.true) in
    sym (l.invariant.rest ∙ ap (λ (w : Passed). w.rest) all)
