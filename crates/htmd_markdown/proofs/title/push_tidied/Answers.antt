-- One more line, empty or not.
use Rattle.std.proofs.Common.{◌≡◌, ◌++◌, length, lit<, take, map, ap, sym, ◌∙◌, arith}
use Rattle.std.specs.Prelude.{◌==◌, filter}
use Rattle.std.specs.Str.Lines.{lines}
use Rattle.std.specs.String.{string_bytes}
use Rattle.std.proofs.lemmas.List.{length_push, take_all}
use Rattle.std.proofs.lemmas.Iterator.Splits.{YieldsList-from_lines}
use Rattle.std.proofs.lemmas.Iterator.Consumers.{YieldsList-turn, YieldsList-end}
use Rattle.htmd_markdown.proofs.TitlesLemmas.{tidying_none, tidying_empty, tidying_first, tidying_later, written}
use Rattle.htmd_markdown.proofs.TitlesLemmas.{escaped_line}
use Rattle.htmd_markdown.specs.Titles.{is_filled}
use Rattle.htmd_lexical.specs.WhiteSpace.{is_document_white_space}
use Rattle.htmd_text.specs.Trims.{trimmed_text}
use Rattle.htmd_markdown.proofs.title.push_tidied.Goals.{then-not-is_first+in_ok-push, else-not-is_first}
use Rattle.htmd_markdown.proofs.title.push_tidied.Goals as goal

pub loop-line-init : goal.loop-line-init
loop-line-init c = tidying_none (lines c.args.text.now) (string_bytes c.args.out.now)

pub loop-line-preserved-then-not-is_empty : goal.loop-line-preserved-then-not-is_empty
loop-line-preserved-then-not-is_empty c =
    let turn = YieldsList-turn (YieldsList-from_lines c.args.text.now cc) c.loop-line.yielded _ c.loop-line.yielded_by _
    _ c.in-Some.line c.in-Some.is c.next.ensures.steps in
    let line = c.trim_document_whitespace-line.ensures in
    let some = ap (λ l. length l == 0) (sym line) ∙ sym c.is_empty.ensures ∙ c.if-not-is_empty.true in
    let written =
    c.in_ok-push_escaped.ensures ∙ ap (λ l. string_bytes c.if-not-is_first.out ++ escaped_line l) line in
    elim c.if-not-is_first.branch [
      | then-not-is_first+in_ok-push w ↦
          let mark = ap string_bytes w.out-is ∙ w.in_ok-push.ensures.bytes
          ∙ ap (λ l. string_bytes c.loop-line.out ++ l)
          (w.in_ok-push.ensures.ascii (lit< tt)) in
          let step = tidying_later (lines c.args.text.now) (string_bytes c.args.out.now) (string_bytes c.loop-line.out)
          c.loop-line.is_first (length c.loop-line.yielded) c.in-Some.line.now turn some w.if-not-is_first.true
          c.loop-line.invariant in
          rw (written, mark, length_push c.loop-line.yielded c.in-Some.line) step
      | else-not-is_first w ↦
          let kept = ap string_bytes w.out-is in
          let step = tidying_first (lines c.args.text.now) (string_bytes c.args.out.now) (string_bytes c.loop-line.out)
          c.loop-line.is_first (length c.loop-line.yielded) c.in-Some.line.now turn some w.if-not-is_first.false
          c.loop-line.invariant in
          rw (written, kept, length_push c.loop-line.yielded c.in-Some.line) step
    ]

pub loop-line-preserved : goal.loop-line-preserved
loop-line-preserved c =
    let turn = YieldsList-turn (YieldsList-from_lines c.args.text.now cc) c.loop-line.yielded _ c.loop-line.yielded_by _
    _ c.in-Some.line c.in-Some.is c.next.ensures.steps in
    let empty = ap (λ l. length l == 0) (sym c.trim_document_whitespace-line.ensures) ∙ sym c.is_empty.ensures
    ∙ c.if-not-is_empty.false in
    let step = tidying_empty (lines c.args.text.now) (string_bytes c.args.out.now) (string_bytes c.loop-line.out)
    c.loop-line.is_first (length c.loop-line.yielded) c.in-Some.line.now turn empty c.loop-line.invariant in
    rw (length_push c.loop-line.yielded c.in-Some.line) step

pub returns : goal.returns
returns c =
    let ls = lines c.args.text.now in
    let all = YieldsList-end (YieldsList-from_lines c.args.text.now cc) c.loop-line.yielded _ c.loop-line.yielded_by _ _
    c.in-None.is c.next.ensures.steps in
    let whole : take (length c.loop-line.yielded) ls ≡ ls =
    take_all (length c.loop-line.yielded) ls (omega (arith, all.1)) in
    c.loop-line.invariant.out_is
    ∙ ap (λ l. string_bytes c.args.out.now
    ++ written (filter is_filled (map (trimmed_text is_document_white_space) l))) whole
