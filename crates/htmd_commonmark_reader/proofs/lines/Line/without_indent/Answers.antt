-- The white space at the beginning is cut.
use Rattle.std.proofs.Common.{arith}
use Rattle.htmd_commonmark_reader.proofs.LinesLemmas.{content_place, uncut_line, uncut_indent, uncut_content}
use Rattle.htmd_commonmark_reader.proofs.lines.Line.without_indent.Goals as goal

pub overflow_add-result : goal.overflow_add-result
overflow_add-result c =
    let l = c.args.self in
    let place = content_place l.column l.spaces l.indent l.text.now l.content.now c.requires.indent c.requires.content
    in
    omega (arith, place, c.requires.bound)

pub returns-clause-line : goal.returns-clause-line
returns-clause-line c =
    let l = c.args.self in
    uncut_line l.column l.spaces l.indent l.text.now l.content.now c.requires.indent c.requires.content l.indent
    (omega arith)

pub returns-clause-held : goal.returns-clause-held
returns-clause-held c =
    let l = c.args.self in
    let place = content_place l.column l.spaces l.indent l.text.now l.content.now c.requires.indent c.requires.content
    in
    record {
      indent =
          uncut_indent l.column l.spaces l.indent l.text.now l.content.now c.requires.indent c.requires.content;
      content =
          uncut_content l.column l.spaces l.indent l.text.now l.content.now c.requires.indent c.requires.content;
      bound = omega (arith, place, c.requires.bound);
    }
