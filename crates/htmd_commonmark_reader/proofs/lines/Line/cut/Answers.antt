-- All white space, some of the spaces, or what is left of the text.
use Rattle.std.proofs.Common.{◌∙◌, ◌≤◌, sym, arith}
use Rattle.htmd_commonmark_reader.specs.LineViews.{cut_of}
use Rattle.htmd_commonmark_reader.proofs.LinesLemmas.{uncut_line, few_indent, cut_few, cut_line, left_indent}
use Rattle.htmd_commonmark_reader.proofs.LinesLemmas.{left_content, spaces_content}
use Rattle.htmd_commonmark_reader.proofs.lines.Line.cut.Goals as goal

pub returns-then-count-self-clause-line : goal.returns-then-count-self-clause-line
returns-then-count-self-clause-line c =
    let l = c.args.self in
    let e = c.requires.indent in
    let f = c.requires.content in
    c.without_indent.ensures.line
    ∙ sym (uncut_line l.column l.spaces l.indent l.text.now l.content.now e f l.indent (omega arith))
    ∙ uncut_line l.column l.spaces l.indent l.text.now l.content.now e f c.args.count c.if-count-self.true

pub returns-then-count-self-2-clause-line : goal.returns-then-count-self-2-clause-line
returns-then-count-self-2-clause-line c =
    let l = c.args.self in
    sym (cut_few l.column c.args.count l.spaces l.text.now c.if-count-self-2.true)

pub returns-then-count-self-2-clause-held : goal.returns-then-count-self-2-clause-held
returns-then-count-self-2-clause-held c =
    let l = c.args.self in
    record {
      indent = few_indent l.column l.spaces l.indent l.text.now l.content.now c.requires.indent c.requires.content
          c.args.count c.if-count-self-2.true;
      content = c.requires.content;
      bound = omega (arith, c.requires.bound, c.if-count-self-2.true);
    }

pub returns-clause-line : goal.returns-clause-line
returns-clause-line c =
    let l = c.args.self in
    cut_line l.column l.spaces l.indent l.text.now l.content.now c.requires.indent c.requires.content c.args.count
    (cut_of c.cut_at-cut.result) c.cut_at-cut.ensures.cut (omega (arith, c.if-count-self-2.false))

pub returns-clause-held : goal.returns-clause-held
returns-clause-held c =
    let l = c.args.self in
    let e = c.requires.indent in
    let f = c.requires.content in
    let beyond : l.spaces ≤ c.args.count = omega (arith, c.if-count-self-2.false) in
    record {
      indent = left_indent l.column l.spaces l.indent l.text.now l.content.now e f c.args.count
          (cut_of c.cut_at-cut.result) c.cut_at-cut.ensures.cut beyond (omega (arith, c.if-count-self.false));
      content = left_content l.column l.spaces l.indent l.text.now l.content.now e f c.args.count
          (cut_of c.cut_at-cut.result) c.cut_at-cut.ensures.cut beyond
          ∙ spaces_content c.cut_at-cut.result.spaces c.cut_at-cut.result.text.now;
      bound = omega (arith, c.requires.bound, c.cut_at-cut.ensures.bound);
    }
