-- What is left to prove of `open_implied_body`.
use Rattle.std.proofs.Common.{◌∷◌}
use Rattle.htmd_tree.proofs.AdvancesLemmas.{reading_either}
use Rattle.htmd_tree.proofs.reader.Reader.open_implied_body.Goals as goal

pub returns-clause-reading : goal.returns-clause-reading
returns-clause-reading c =
    let r = c.requires.reading in
    reading_either c.args.self.now c.open_node.new.self (r.0) c.open_node.result _
    (c.open_node.ensures.follows (r.0) (r.1 ∷ r.2) (r.3))
