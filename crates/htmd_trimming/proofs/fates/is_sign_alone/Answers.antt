use Rattle.std.proofs.Common.{◌∙◌, length, arith}
use Rattle.htmd_nodes.specs.Views.{data_of}
use Rattle.htmd_shown.proofs.NodesLemmas.{within_at}
use Rattle.htmd_trimming.proofs.FatesLemmas.{node-sign}
use Rattle.htmd_trimming.proofs.fates.is_sign_alone.Goals as goal

pub returns-in-len1 : goal.returns-in-len1
returns-in-len1 c =
    let items = c.args.tree.now in
    let ids = c.args.nodes.now in
    let id = c.node-item.result in
    let within = within_at (length items) ids 0 id c.requires c.in-len1.len_at_least c.node-item.is in
    c.is_sign.ensures
    ∙ node-sign items ids id (data_of c.data.result.now) c.data.ensures.tree within c.in-len1.len_at_least
    c.in-len1.len_below c.node-item.is c.data.ensures.value
