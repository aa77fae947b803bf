-- A line feed, and the line.
use Rattle.std.proofs.Common.{◌∙◌, ◌++◌, [], false, ap, sym, append-nil, refl, string_bytes}
use Rattle.htmd_commonmark_reader.specs.LeafTexts.{line_break}
use Rattle.htmd_commonmark_reader.specs.LineViews.{line_of}
use Rattle.htmd_commonmark_reader.specs.declared.leaf_rows.Rows.{Rows}
use Rattle.htmd_commonmark_reader.proofs.OpenLeavesLemmas.{rows_pushed}
use Rattle.htmd_commonmark_reader.proofs.leaf_rows.Rows.push.Goals as goal

pub returns : goal.returns
returns c = λ ls h.
    let o = c.args.self.now in
    let n : Rows = record { text = c.push_line.new.text; is_empty = false } in
    let s = (line_of c.args.line).text in
    rows_pushed ls s [] o n (string_bytes o.text) (string_bytes c.push_line.new.text) h h.text
    (c.in_ok-push_line.ensures
    ∙ ap (λ t. string_bytes o.text ++ (line_break o.is_empty ++ t)) (sym (append-nil s))) refl refl
