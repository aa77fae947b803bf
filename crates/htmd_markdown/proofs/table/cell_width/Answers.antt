use Rattle.std.proofs.Common.{◌≡◌, take, min, ap, ◌∙◌}
use Rattle.std.specs.Prelude.{sum_by}
use Rattle.std.proofs.lemmas.List.{take_all}
use Rattle.htmd_text.specs.Trims.{trimmed_text}
use Rattle.htmd_lexical.specs.WhiteSpace.{is_document_white_space}
use Rattle.htmd_markdown.specs.CellBytes.{byte_width}
use Rattle.htmd_markdown.proofs.CharacterCounts.{width_counted}
use Rattle.htmd_markdown.proofs.table.cell_width.Goals as goal

pub returns : goal.returns
returns c =
    let bytes = c.as_bytes-b-items.result.now in
    let items : bytes ≡ trimmed_text is_document_white_space c.args.cell.now = c.as_bytes-b-items.ensures.value
    ∙ c.trim_document_whitespace-cell.ensures in
    let whole : take c.loop-b.b-index bytes ≡ bytes = take_all c.loop-b.b-index bytes c.loop-b-test.false in
    c.loop-b.invariant
    ∙ ap (λ l. min (sum_by byte_width l) 0xFFFF_FFFF_FFFF_FFFF) (whole ∙ items)
    ∙ ap (λ n. min n 0xFFFF_FFFF_FFFF_FFFF) (width_counted c.args.cell.now c.utf8.cell)
