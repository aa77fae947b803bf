use Rattle.std.proofs.Common.{◌≡◌, ◌+◌, ◌<◌, ◌≤◌, ◌++◌, [], ◌∷◌, length, get_or, set, map, max, ap, ◌∙◌, sym, subst}
use Rattle.std.proofs.Common.{arith, List, ℕ, string_bytes}
use Rattle.std.proofs.lemmas.List.{length-map, get_or-map, get_or_default}
use Rattle.htmd_markdown.specs.Tables.{texts, cell_width}
use Rattle.htmd_markdown.specs.CellBytes.{held, held_widths}
use Rattle.htmd_markdown.proofs.ColumnsLemmas.{Widening, widening_set, widening_push, widening_all}
use Rattle.htmd_markdown.proofs.table.widen.Goals as goal
use Rattle.htmd_markdown.proofs.table.widen.Goals.{then-i-len, else-i-len+in_ok-push}

pub loop-i-preserved : goal.loop-i-preserved
loop-i-preserved c =
    let cells = c.args.cells.now in
    let words = texts cells in
    let more = held_widths words in
    let old = c.args.widths.now.items in
    let ws = c.loop-i.widths.items in
    let i = c.loop-i.i in
    let first = length-map cells (λ cell. string_bytes cell) in
    let second = length-map words cell_width in
    let third = length-map (map cell_width words) held in
    let width : c.cell_width-width.result ≡ get_or more i 0 =
    c.cell_width-width.ensures
    ∙ ap (λ s. held (cell_width s))
    (c.as_str.ensures.value ∙ ap (λ cell. string_bytes cell) c.index-cells-i.is)
    ∙ ap (λ s. held (cell_width s))
    (sym (get_or-map (λ cell. string_bytes cell) cells i c.index-cells-i.result [] c.loop-i-test.true))
    ∙ ap held (sym (get_or-map cell_width words i [] 0 (omega (arith, first))))
    ∙ sym (get_or-map held (map cell_width words) i 0 0 (omega (arith, first, second))) in
    let within : i < length more = omega (arith, first, second, third) in
    elim c.if-i-len.branch [
      | then-i-len w ↦
          let lt : i < length ws = omega arith in
          let is : w.max.result ≡ max (get_or ws i 0) (get_or more i 0) =
          w.max.ensures
          ∙ ap (λ n. max n c.cell_width-width.result)
          (w.index.ensures ∙ get_or_default ws i w.index.result.now 0 lt)
          ∙ ap (λ n. max (get_or ws i 0) n) width in
          let items : c.if-i-len.widths.items ≡ set ws i w.max.result = ap (λ v. v.items) w.widths-is in
          subst (λ (l : List ℕ). Widening old more l (i + 1)) (sym items)
          (widening_set old more ws i w.max.result lt within is c.loop-i.invariant)
      | else-i-len+in_ok-push w ↦
          let past : length ws ≤ i = omega arith in
          let items : c.if-i-len.widths.items ≡ ws ++ c.cell_width-width.result ∷ [] =
          ap (λ v. v.items) w.widths-is
          ∙ w.in_ok-push.ensures.items in
          subst (λ (l : List ℕ). Widening old more l (i + 1)) (sym items)
          (widening_push old more ws i c.cell_width-width.result past within width c.loop-i.invariant)
    ]

pub returns : goal.returns
returns c =
    let cells = c.args.cells.now in
    let more = held_widths (texts cells) in
    let past : length more ≤ c.loop-i.i =
    omega (
      arith,
      length-map cells (λ cell. string_bytes cell),
      length-map (texts cells) cell_width,
      length-map (map cell_width (texts cells)) held,
    ) in
    widening_all c.args.widths.now.items more c.loop-i.widths.items c.loop-i.i past c.loop-i.invariant
