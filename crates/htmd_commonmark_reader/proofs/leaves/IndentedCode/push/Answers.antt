-- A blank line, which may be the last one, or another.
use Rattle.std.proofs.Common.{◌∙◌, ◌++◌, refl, sym}
use Rattle.std.proofs.lemmas.Result.{on_ok_weaker}
use Rattle.htmd_commonmark_reader.specs.LineViews.{line_of}
use Rattle.htmd_commonmark_reader.specs.declared.leaves.IndentedCode.{IndentedCode}
use Rattle.htmd_commonmark_reader.proofs.OpenLeavesLemmas.{indented_blank, indented_filled}
use Rattle.htmd_commonmark_reader.proofs.leaves.IndentedCode.push.Goals as goal

pub returns-then-is_blank : goal.returns-then-is_blank
returns-then-is_blank c =
    let o = c.args.self.now in
    let n : IndentedCode = record { rows = o.rows; blanks = c.push.new.self } in
    on_ok_weaker c.push.result (λ e ls h. indented_blank ls ((line_of c.args.line).text) o n h
    (sym c.is_blank.ensures ∙ c.if-is_blank.true) refl e) c.push.ensures

pub returns : goal.returns
returns c =
    let o = c.args.self.now in
    let n : IndentedCode = record { rows = c.push-2.new.self; blanks = c.take_all.new.others } in
    on_ok_weaker c.push-2.result (λ e ls h. indented_filled ls ((line_of c.args.line).text) o n h
    (sym c.is_blank.ensures ∙ c.if-is_blank.false)
    (λ ms more a b. e (ms ++ more) (c.in_ok-take_all.ensures.all ms more a b))
    (λ more b. c.in_ok-take_all.ensures.none more b)) c.push-2.ensures
