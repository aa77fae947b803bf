-- What is left to prove of `push_indented`.
use Rattle.std.proofs.Common.{◌≡◌, ◌<◌, ◌++◌, length, take, map, arith, ap, ◌∙◌}
use Rattle.std.specs.Str.Lines.{lines}
use Rattle.std.specs.String.{string_bytes}
use Rattle.std.proofs.lemmas.Bool.Decides.{nat_tests}
use Rattle.std.proofs.lemmas.List.{length_push, take_all}
use Rattle.std.proofs.lemmas.Iterator.Splits.{YieldsList-from_lines}
use Rattle.std.proofs.lemmas.Iterator.Consumers.{YieldsList-turn, YieldsList-end}
use Rattle.htmd_text.specs.Indents.{line_text, next_line, indented_lines}
use Rattle.htmd_text.proofs.IndentsLemmas.{first_line, later_line, pushed_some, lines_indented}
use Rattle.htmd_text.proofs.indent.push_indented.Goals as goal

pub loop-line-preserved-in_ok-push_str : goal.loop-line-preserved-in_ok-push_str
loop-line-preserved-in_ok-push_str c =
    let n = length c.loop-line.yielded in
    let turn = YieldsList-turn (YieldsList-from_lines c.args.text.now cc) c.loop-line.yielded _ c.loop-line.yielded_by _
    _ c.in-Some.line c.in-Some.is c.next.ensures.steps in
    let start : n ≡ 0 = grind (arith, nat_tests) in
    let more = first_line c.args.indent (line_text c.args.trim_line_end) (lines c.args.text.now) n c.in-Some.line.now
    (string_bytes c.args.out.now) (string_bytes c.loop-line.out) turn start c.loop-line.invariant.written in
    record {
      written = rw (length_push c.loop-line.yielded c.in-Some.line) (c.in_ok-push_str.ensures.bytes
          ∙ ap (λ l. string_bytes c.loop-line.out ++ l) c.line_text-line.ensures ∙ more);
      begun = pushed_some c.loop-line.yielded c.in-Some.line;
    }

pub loop-line-preserved : goal.loop-line-preserved
loop-line-preserved c =
    let n = length c.loop-line.yielded in
    let turn = YieldsList-turn (YieldsList-from_lines c.args.text.now cc) c.loop-line.yielded _ c.loop-line.yielded_by _
    _ c.in-Some.line c.in-Some.is c.next.ensures.steps in
    let some : 0 < n = grind (arith, nat_tests) in
    let more = later_line c.args.indent (line_text c.args.trim_line_end) (lines c.args.text.now) n c.in-Some.line.now
    (string_bytes c.args.out.now) (string_bytes c.loop-line.out) turn some c.loop-line.invariant.written in
    record {
      written = rw (length_push c.loop-line.yielded c.in-Some.line) (c.in_ok-push_line.ensures
          ∙ ap (λ l. string_bytes c.loop-line.out ++ next_line c.args.indent l) c.line_text-line.ensures
          ∙ more);
      begun = pushed_some c.loop-line.yielded c.in-Some.line;
    }

pub returns : goal.returns
returns c =
    let ls = lines c.args.text.now in
    let all = YieldsList-end (YieldsList-from_lines c.args.text.now cc) c.loop-line.yielded _ c.loop-line.yielded_by _ _
    c.in-None.is c.next.ensures.steps in
    let whole : take (length c.loop-line.yielded) ls ≡ ls =
    take_all (length c.loop-line.yielded) ls (omega (arith, all.1)) in
    c.loop-line.invariant.written
    ∙ ap (λ l. string_bytes c.args.out.now ++ l)
    (ap (λ l. indented_lines c.args.indent (map (line_text c.args.trim_line_end) l)) whole
    ∙ lines_indented c.args.text.now c.args.indent c.args.trim_line_end c.if-indent-eq0.false)
