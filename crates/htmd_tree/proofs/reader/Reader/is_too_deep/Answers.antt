-- What is left to prove of `is_too_deep`.
use Rattle.htmd_tree.proofs.AdvancesLemmas.{deep_at}
use Rattle.htmd_tree.proofs.reader.Reader.is_too_deep.Goals as goal

pub returns : goal.returns
returns c = λ has_doctype fs h.
    deep_at c.args.self.now has_doctype fs c.top.result c.depth.result c.top.ensures.top h c.depth.ensures.value
