use Rattle.std.proofs.Common.{◌≡◌, ◌∙◌, ap, subst, take}
use Rattle.htmd_flow.specs.GridViews.{line_of}
use Rattle.htmd_flow.specs.Grids.{trimmed_row}
use Rattle.htmd_flow.proofs.GridsLemmas.{line_cut}
use Rattle.htmd_flow.proofs.grid.trim.Goals as goal

pub returns : goal.returns
returns c =
    let len = c.filled_len-len.result in
    ap line_of c.truncate.ensures.items ∙ line_cut c.args.cells.now.items len
    ∙ subst (λ xs. take len (line_of xs) ≡ trimmed_row (line_of xs)) c.as_slice.ensures.value
    c.filled_len-len.ensures.value
