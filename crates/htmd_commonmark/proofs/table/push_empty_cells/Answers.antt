-- One more empty cell.
use Rattle.std.proofs.Common.{◌≡◌, ◌++◌, ◌+◌, codes, get_or, sym, ap, ◌∙◌, lit<, string_bytes}
use Rattle.std.specs.Prelude.{replicate}
use Rattle.std.proofs.lemmas.List.{append-nil}
use Rattle.htmd_lexical.specs.Characters.{space}
use Rattle.htmd_commonmark.proofs.TableLinesLemmas.{empty_left, empty-more, columns-end}
use Rattle.htmd_commonmark.proofs.table.push_empty_cells.Goals as goal

pub loop-i-preserved : goal.loop-i-preserved
loop-i-preserved c =
    let widths = c.args.widths.now in
    let i = c.loop-i.i in
    let out = string_bytes c.loop-i.out in
    let pad = replicate (get_or widths i 0) space in
    let written : string_bytes c.push_str.new.self ≡ ((out ++ codes " ") ++ pad) ++ codes " |" =
    c.in_ok-push_str.ensures.bytes
    ∙ ap (λ l. l ++ codes " |") (c.in_ok-push_repeated.ensures.ok
    ∙ ap (λ l. l ++ pad) (c.in_ok-push.ensures.bytes
    ∙ ap (λ l. out ++ l) (c.in_ok-push.ensures.ascii (lit< tt)))) in
    ap (λ l. l ++ empty_left widths (i + 1)) written ∙ empty-more out widths i c.loop-i-test.true
    ∙ c.loop-i.invariant

pub returns : goal.returns
returns c =
    let widths = c.args.widths.now in
    let out = string_bytes c.loop-i.out in
    sym (append-nil out) ∙ ap (λ l. out ++ l) (sym (columns-end _ widths c.loop-i.i c.loop-i-test.false))
    ∙ c.loop-i.invariant
