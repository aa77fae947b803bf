-- What is left to prove of `with_line_feeds`.
use Rattle.std.proofs.Common.{◌∙◌, ◌∷◌, ◌++◌, ap, sym, lit<}
use Rattle.std.proofs.lemmas.Str.Pattern.{split_parts}
use Rattle.std.specs.String.{string_bytes}
use Rattle.htmd_lexical.specs.LineEnds.{normalized}
use Rattle.htmd_lexical.proofs.LineEndsLemmas.{line_more, normalized_same, behind_return}
use Rattle.htmd_scanning.proofs.line_ends.with_line_feeds.Goals as goal

pub loop-line-preserved : goal.loop-line-preserved
loop-line-preserved c =
    let parts = split_parts 13 c.loop-line.rest.now c.split_once.result c.split_once.ensures.cases (lit< tt) in
    let here = rw c.in-Some.is at parts in
    record {
      text = behind_return c.loop-line.rest.now c.in-Some.line.now c.in-Some.after.now c.loop-line.invariant.text
          here.0;
      reads = line_more (string_bytes c.loop-line.lines) c.in-Some.line.now (string_bytes c.push_line_end.new.lines)
          c.loop-line.rest.now c.in-Some.after.now c.args.text.now c.loop-line.invariant.reads here.0 here.1
          (c.in_ok-push_line_end.ensures
          ∙ ap (λ x. x ++ normalized (13 ∷ c.in-Some.after.now)) c.in_ok-push_str.ensures.bytes);
    }

pub returns : goal.returns
returns c =
    let parts = split_parts 13 c.loop-line.rest.now c.split_once.result c.split_once.ensures.cases (lit< tt) in
    let none = rw c.in_default.is at parts in
    c.in_ok-push_str-2.ensures.bytes
    ∙ ap (λ x. string_bytes c.loop-line.lines ++ x) (sym (normalized_same c.loop-line.rest.now none))
    ∙ c.loop-line.invariant.reads
