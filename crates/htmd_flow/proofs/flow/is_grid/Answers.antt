use Rattle.std.proofs.Common.{◌∙◌, ap, sym}
use Rattle.htmd_shown.specs.SimpleViews.{simples_of}
use Rattle.htmd_flow.specs.Flows as spec
use Rattle.htmd_flow.proofs.FeedLemmas.{if_ok}
use Rattle.htmd_flow.proofs.NodesLemmas.{trees_are}
use Rattle.htmd_flow.proofs.flow.is_grid.Goals as goal

pub returns : goal.returns
returns c =
    let ts = c.args.content.now in
    if_ok c.is_grid.result _ _ c.is_grid.ensures (λ b e. e
    ∙ ap (λ xs. spec.is_grid xs (spec.rows_of_table (simples_of ts))) (sym (trees_are ts)))
