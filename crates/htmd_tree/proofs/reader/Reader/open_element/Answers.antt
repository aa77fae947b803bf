-- What is left to prove of `open_element`.
use Rattle.std.proofs.Common.{◌∷◌, refl}
use Rattle.htmd_tree.proofs.AdvancesLemmas.{reading_after, reading_kept}
use Rattle.htmd_tree.proofs.reader.Reader.open_element.Goals as goal

pub returns-clause-reading : goal.returns-clause-reading
returns-clause-reading c =
    let r = c.requires.reading in
    reading_kept c.open_node.new.self (record c.open_node.new.self { rest = c.args.rest }) refl refl refl
    (reading_after c.args.self.now c.open_node.new.self (r.0) _
    (c.in_ok-open_node.ensures.follows (r.0) (r.1 ∷ r.2) (r.3)))
