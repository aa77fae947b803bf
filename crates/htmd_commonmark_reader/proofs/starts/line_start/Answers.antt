-- A blank line, code, or what the content's first character starts.
use Rattle.std.proofs.Common.{◌∙◌, sym}
use Rattle.htmd_commonmark_reader.specs.LineViews.{line_of}
use Rattle.htmd_commonmark_reader.specs.Starts.{after_of}
use Rattle.htmd_commonmark_reader.proofs.LineStartsLemmas.{start_blank, deep_start, filled_content}
use Rattle.htmd_commonmark_reader.proofs.starts.line_start.Goals as goal

pub returns-then-is_blank-clause-start : goal.returns-then-is_blank-clause-start
returns-then-is_blank-clause-start c =
    start_blank (after_of c.args.after) (line_of c.args.line) (sym c.is_blank.ensures ∙ c.if-is_blank.true)

pub returns-then-line-gt3-clause-start : goal.returns-then-line-gt3-clause-start
returns-then-line-gt3-clause-start c =
    c.code.ensures.start
    ∙ deep_start (after_of c.args.after) c.args.line c.requires.indent c.if-line-gt3.true
    (sym c.is_blank.ensures ∙ c.if-is_blank.false)

pub by_sign-requires-clause-filled : goal.by_sign-requires-clause-filled
by_sign-requires-clause-filled c =
    filled_content c.args.line c.without_indent.result.text.now c.requires.content c.without_indent.ensures.text
    (sym c.is_blank.ensures ∙ c.if-is_blank.false)
