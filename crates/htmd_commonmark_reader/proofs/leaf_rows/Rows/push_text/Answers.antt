-- A line feed, and the lines.
use Rattle.std.proofs.Common.{◌∙◌, ◌++◌, false, ap, append_assoc, refl, string_bytes}
use Rattle.htmd_commonmark_reader.specs.LeafTexts.{line_break}
use Rattle.htmd_commonmark_reader.specs.declared.leaf_rows.Rows.{Rows}
use Rattle.htmd_commonmark_reader.proofs.OpenLeavesLemmas.{rows_pushed}
use Rattle.htmd_commonmark_reader.proofs.leaf_rows.Rows.push_text.Goals as goal

pub returns : goal.returns
returns c = λ ls s more h e.
    let o = c.args.self.now in
    let n : Rows = record { text = c.push_str.new.self; is_empty = false } in
    let before = string_bytes o.text in
    rows_pushed ls s more o n before (string_bytes c.push_str.new.self) h h.text
    (c.in_ok-push_str.ensures.bytes ∙ ap (λ t. t ++ c.args.text.now) c.in_ok-push_break.ensures
    ∙ append_assoc before (line_break o.is_empty) c.args.text.now
    ∙ ap (λ t. before ++ (line_break o.is_empty ++ t)) e) refl refl
