-- One more cell.
use Rattle.std.proofs.Common.{◌≡◌, ◌++◌, [], ◌+◌, ◌-◌, codes, length, get_or, sym, ap, ◌∙◌, lit<, rules, string_bytes}
use Rattle.std.proofs.Common.{⊎_elim, arith}
use Rattle.std.specs.Prelude.{replicate}
use Rattle.std.proofs.lemmas.Bool.{cases_lt}
use Rattle.std.proofs.lemmas.List.{append-nil, length_push, length-map, get_or-map}
use Rattle.std.proofs.lemmas.Slice.Zip.{zip_turn, zip_end}
use Rattle.htmd_lexical.specs.Characters.{space}
use Rattle.htmd_markdown.specs.Tables.{texts}
use Rattle.htmd_commonmark.specs.Columns.{width_of}
use Rattle.htmd_commonmark.proofs.TableLinesLemmas.{cells_left, cells-more, cells-end, columns-end}
use Rattle.htmd_commonmark.proofs.table.push_row.Goals as goal

pub loop-cell-preserved : goal.loop-cell-preserved
loop-cell-preserved c =
    let cells = c.args.cells.now in
    let words = texts cells in
    let widths = c.args.widths.now in
    let n = length c.loop-cell.yielded in
    let out = string_bytes c.loop-cell.out in
    let cell = c.in-Some.cell.now in
    let size : length words ≡ length cells = length-map cells (λ s. string_bytes s) in
    let turn = zip_turn cells widths c.loop-cell.yielded c.into_iter-cell-iterator.result
    c.loop-cell.cell-iterator c.next.new.self c.next.result (search rules) (search rules)
    c.loop-cell.yielded_by _ c.in-Some.is c.next.ensures.steps in
    let text : string_bytes cell ≡ get_or words n [] =
    ap (λ s. string_bytes s) (turn.2 cell) ∙ sym (get_or-map (λ s. string_bytes s) cells n cell [] turn.0) in
    let pad : c.saturating_sub.result ≡ get_or widths n 0 - width_of (get_or words n []) =
    c.saturating_sub.ensures
    ∙ ap (λ k. c.in-Some.width.now - k) (c.width_of.ensures
    ∙ ap width_of (c.deref-in-loop-cell.ensures ∙ text))
    ∙ ap (λ w. w - width_of (get_or words n [])) (turn.3 0) in
    let written : string_bytes c.push_str-in-loop-cell.new.self
    ≡ (((out ++ codes " ") ++ get_or words n [])
    ++ replicate (get_or widths n 0 - width_of (get_or words n [])) space) ++ codes " |" =
    c.in_ok-push_str-2.ensures.bytes
    ∙ ap (λ l. l ++ codes " |") (c.in_ok-push_repeated.ensures.ok
    ∙ ap (λ k. string_bytes c.push_str.new.self ++ replicate k space) pad
    ∙ ap (λ l. l ++ replicate (get_or widths n 0 - width_of (get_or words n [])) space)
    (c.in_ok-push_str.ensures.bytes
    ∙ ap (λ l. string_bytes c.push-in-loop-cell.new.self ++ l) (c.deref.ensures ∙ text)
    ∙ ap (λ l. l ++ get_or words n []) (c.in_ok-push-2.ensures.bytes
    ∙ ap (λ l. out ++ l) (c.in_ok-push-2.ensures.ascii (lit< tt))))) in
    rw (length_push c.loop-cell.yielded (c.in-Some.cell, c.in-Some.width))
    (ap (λ l. l ++ cells_left words widths (n + 1)) written
    ∙ cells-more out words widths n (omega (arith, size, turn.0)) turn.1
    ∙ c.loop-cell.invariant)

pub returns : goal.returns
returns c =
    let cells = c.args.cells.now in
    let words = texts cells in
    let widths = c.args.widths.now in
    let n = length c.loop-cell.yielded in
    let out = string_bytes c.loop-cell.out in
    let size : length words ≡ length cells = length-map cells (λ s. string_bytes s) in
    let all = zip_end cells widths c.loop-cell.yielded c.into_iter-cell-iterator.result
    c.loop-cell.cell-iterator c.next.new.self c.next.result (search rules) (search rules)
    c.loop-cell.yielded_by c.in-None.is c.next.ensures.steps in
    let none : cells_left words widths n ≡ [] =
    ⊎_elim (λ lt. cells-end words widths n (omega (arith, size))) (λ le. columns-end words widths n (omega arith))
    (cases_lt (length cells) (length widths)) in
    sym (append-nil out) ∙ ap (λ l. out ++ l) (sym none) ∙ c.loop-cell.invariant
