-- One more row.
use Rattle.std.proofs.Common.{◌≡◌, ◌∷◌, [], ◌++◌, false, get_or, map, take, sym, ap, ◌∙◌, append_assoc, lit<}
use Rattle.std.proofs.Common.{string_bytes}
use Rattle.std.proofs.lemmas.List.{map_more, take_all}
use Rattle.htmd_lexical.specs.Characters.{line_feed}
use Rattle.htmd_markdown.specs.Tables.{texts, row_texts}
use Rattle.htmd_commonmark.specs.TableLines.{line, rows_text}
use Rattle.htmd_commonmark.proofs.TableLinesLemmas.{rows_more}
use Rattle.htmd_commonmark.proofs.table.push_rows.Goals as goal

pub loop-row-preserved : goal.loop-row-preserved
loop-row-preserved c =
    let rows = c.args.rows.now in
    let widths = c.args.widths.now in
    let i = c.loop-row.row-index in
    let row = c.row-item.result in
    let out = string_bytes c.args.out.now in
    let so_far = rows_text false widths (map row_texts (take i rows)) in
    let cells : texts c.deref.result.now ≡ row_texts (get_or rows i row) =
    ap texts c.deref.ensures.value ∙ ap row_texts c.row-item.is in
    let feed : string_bytes c.push.new.self ≡ string_bytes c.loop-row.out ++ line_feed ∷ [] =
    c.in_ok-push.ensures.bytes
    ∙ ap (λ l. string_bytes c.loop-row.out ++ l) (c.in_ok-push.ensures.ascii (lit< tt)) in
    let last = line (row_texts (get_or rows i row)) widths in
    c.in_ok-push_row.ensures ∙ ap (λ l. string_bytes c.push.new.self ++ line l widths) cells
    ∙ ap (λ l. l ++ last) (feed ∙ ap (λ l. l ++ line_feed ∷ []) c.loop-row.invariant)
    ∙ append_assoc (out ++ so_far) (line_feed ∷ []) last
    ∙ append_assoc out so_far (line_feed ∷ last)
    ∙ ap (λ l. out ++ l) (sym (ap (rows_text false widths) (map_more row_texts rows i row c.loop-row-test.true)
    ∙ rows_more false widths (map row_texts (take i rows)) (row_texts (get_or rows i row))))

pub returns : goal.returns
returns c =
    c.loop-row.invariant
    ∙ ap (λ l. string_bytes c.args.out.now ++ rows_text false c.args.widths.now (map row_texts l))
    (take_all c.loop-row.row-index c.args.rows.now c.loop-row-test.false)
