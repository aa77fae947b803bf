use Rattle.std.proofs.Common.{◌≡◌, ◌+◌, ◌<◌, ◌++◌, [], length, get_or, map, ap, ◌∙◌, sym, arith, codes, string_bytes}
use Rattle.std.proofs.lemmas.List.{length-map, get_or-map}
use Rattle.htmd_markdown.specs.Tables.{dashes, padded_cell}
use Rattle.htmd_markdown.specs.CellBytes.{bar}
use Rattle.htmd_markdown.proofs.TablesLemmas.{left, line_more}
use Rattle.htmd_markdown.proofs.TableTextsLemmas.{dashes_pushed}
use Rattle.htmd_markdown.proofs.table.push_separator.Goals as goal

pub loop-width-preserved : goal.loop-width-preserved
loop-width-preserved c =
    let widths = c.args.widths.now in
    let cells = map dashes widths in
    let out = string_bytes c.loop-width.text in
    let i = c.loop-width.width-index in
    let w = get_or widths i 0 in
    let within : i < length cells = omega (arith, length-map widths dashes, c.loop-width-test.true) in
    let written : string_bytes c.push_str-in-loop-width-2.new.self ≡ ((out ++ codes " ") ++ dashes w) ++ codes " |" =
    c.in_ok-push_str-3.ensures.bytes
    ∙ ap (λ l. l ++ codes " |") (c.in_ok-push_repeated.ensures.ok
    ∙ ap (λ l. l ++ dashes w) c.in_ok-push_str-2.ensures.bytes) in
    ap (λ l. l ++ left cells widths (i + 1))
    (written ∙ dashes_pushed out w ∙ ap (λ l. (out ++ padded_cell l w) ++ bar)
    (sym (get_or-map dashes widths i 0 [] c.loop-width-test.true)))
    ∙ line_more out cells widths i within c.loop-width-test.true
    ∙ c.loop-width.invariant
