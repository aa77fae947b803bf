use Rattle.std.proofs.Common.{arith}
use Rattle.htmd_document_of_tree.proofs.TextBytesLemmas.{text_le}
use Rattle.htmd_document_of_tree.proofs.limits.shown_bytes.Goals as goal

pub returns-then-is_all_shown : goal.returns-then-is_all_shown
returns-then-is_all_shown c =
    omega (
      arith,
      c.saturating_add.ensures,
      text_le c.args.text.now _ c.utf8.text
          (c.is_all_shown.ensures c.if-is_all_shown.true),
    )
