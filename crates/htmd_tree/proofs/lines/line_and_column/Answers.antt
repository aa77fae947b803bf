-- One byte further.
use Rattle.std.proofs.Common.{◌≡◌, ◌<◌, ◌+◌, ◌∙◌, ap, sym, arith, add-one, suc, length, drop}
use Rattle.std.proofs.lemmas.List.{take_rest}
use Rattle.htmd_tree.specs.Lines as spec
use Rattle.htmd_tree.proofs.LinesLemmas.{line_ends, line_goes_on, front_ends, front_grows, one_character, no_character}
use Rattle.htmd_tree.proofs.LinesLemmas.{lines_counted, front_counted}
use Rattle.htmd_tree.proofs.lines.line_and_column.Goals.{then-ends_line, else-ends_line+then-begins_character}
use Rattle.htmd_tree.proofs.lines.line_and_column.Goals.{else-ends_line+else-begins_character}
use Rattle.htmd_tree.proofs.lines.line_and_column.Goals as goal

pub loop-at-preserved : goal.loop-at-preserved
loop-at-preserved c =
    let s = c.as_bytes-bytes.result.now in
    let n = c.loop-at.at in
    let more : n + 1 ≡ suc n = add-one n in
    let same : c.ends_line.result ≡ spec.ends_line (drop n s) =
    c.ends_line.ensures ∙ ap spec.ends_line (take_rest s n) in
    let here : n < length s = omega (arith, c.min-end.ensures) in
    rw more (elim c.if-ends_line.branch [
      | then-ends_line w ↦ let e = sym same ∙ w.if-ends_line.true in
          let l = line_ends n s here e in
          let f : spec.characters (spec.line_front (suc n) s) ≡ 0 = ap spec.characters (front_ends n s here e) in
          record {
            within = omega arith;
            lines = omega arith;
            columns = omega arith;
            few_lines = omega arith;
            few_columns = omega arith;
          }
      | else-ends_line+then-begins_character w ↦ let e = sym same ∙ w.if-ends_line.false in
          let l = line_goes_on n s here e in
          let f : spec.characters (spec.line_front (suc n) s) ≡ spec.characters (spec.line_front n s) + 1 =
          ap spec.characters (front_grows n s here e)
          ∙ one_character (spec.line_front n s) _ (sym w.begins_character.ensures ∙ w.if-begins_character.true) in
          record {
            within = omega arith;
            lines = omega arith;
            columns = omega arith;
            few_lines = omega arith;
            few_columns = omega arith;
          }
      | else-ends_line+else-begins_character w ↦ let e = sym same ∙ w.if-ends_line.false in
          let l = line_goes_on n s here e in
          let f : spec.characters (spec.line_front (suc n) s) ≡ spec.characters (spec.line_front n s) =
          ap spec.characters (front_grows n s here e)
          ∙ no_character (spec.line_front n s) _ (sym w.begins_character.ensures ∙ w.if-begins_character.false) in
          record {
            within = omega arith;
            lines = omega arith;
            columns = omega arith;
            few_lines = omega arith;
            few_columns = omega arith;
          }
    ])

pub returns-clause-line : goal.returns-clause-line
returns-clause-line c =
    c.loop-at.invariant.lines
    ∙ ap (λ k. 1 + k) (lines_counted c.args.place c.min-end.result c.loop-at.at c.as_bytes-bytes.result.now
    c.args.html.now
    c.min-end.ensures (omega arith) c.as_bytes-bytes.ensures.value)

pub returns-clause-column : goal.returns-clause-column
returns-clause-column c =
    c.loop-at.invariant.columns
    ∙ ap (λ k. 1 + spec.characters k) (front_counted c.args.place c.min-end.result c.loop-at.at
    c.as_bytes-bytes.result.now
    c.args.html.now
    c.min-end.ensures (omega arith) c.as_bytes-bytes.ensures.value)
