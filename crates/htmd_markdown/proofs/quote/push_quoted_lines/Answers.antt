use Rattle.std.proofs.Common.{◌≡◌, ◌++◌, length, arith, sym, ap, ◌∙◌}
use Rattle.std.specs.Str.Lines.{lines}
use Rattle.std.specs.String.{string_bytes}
use Rattle.std.proofs.lemmas.Bool.Decides.{nat_tests}
use Rattle.std.proofs.lemmas.List.{length_push, take_all}
use Rattle.std.proofs.lemmas.Iterator.Splits.{YieldsList-from_lines}
use Rattle.std.proofs.lemmas.Iterator.Consumers.{YieldsList-turn, YieldsList-end}
use Rattle.htmd_markdown.specs.Quotes.{quoted_lines}
use Rattle.htmd_markdown.proofs.QuotesLemmas.{marker, one_more}
use Rattle.htmd_markdown.proofs.quote.push_quoted_lines.Goals as goal
use Rattle.htmd_markdown.proofs.quote.push_quoted_lines.Goals.{then-is_first, else-is_first}

pub loop-line-preserved : goal.loop-line-preserved
loop-line-preserved c =
    let n = length c.loop-line.yielded in
    let before = string_bytes c.loop-line.text in
    let turn = YieldsList-turn (YieldsList-from_lines c.args.content.now cc) c.loop-line.yielded _
    c.loop-line.yielded_by _ _ c.in-Some.line c.in-Some.is c.next.ensures.steps in
    let marked : c.if-is_first.push_str.now ≡ marker c.loop-line.is_first =
    elim c.if-is_first.branch [
      | then-is_first w ↦ ap (λ text. text.now) w.push_str-is
          ∙ ap marker (sym w.if-is_first.true)
      | else-is_first w ↦ ap (λ text. text.now) w.push_str-is
          ∙ ap marker (sym w.if-is_first.false)
    ] in
    let more = one_more (string_bytes c.args.text.now) (lines c.args.content.now) n c.in-Some.line.now before
    c.loop-line.is_first turn c.loop-line.invariant.begun c.loop-line.invariant.written in
    let size = length_push c.loop-line.yielded c.in-Some.line in
    record {
      written = rw size (c.in_ok-push_str-2.ensures.bytes
          ∙ ap (λ l. l ++ c.in-Some.line.now) (c.in_ok-push_str.ensures.bytes ∙ ap (λ l. before ++ l) marked)
          ∙ more);
      begun = grind (arith, nat_tests);
    }

pub returns : goal.returns
returns c =
    let ls = lines c.args.content.now in
    let all = YieldsList-end (YieldsList-from_lines c.args.content.now cc) c.loop-line.yielded _ c.loop-line.yielded_by
    _ _ c.in-None.is c.next.ensures.steps in
    c.loop-line.invariant.written
    ∙ ap (λ l. string_bytes c.args.text.now ++ quoted_lines l)
    (take_all (length c.loop-line.yielded) ls (omega (arith, all.1)))
