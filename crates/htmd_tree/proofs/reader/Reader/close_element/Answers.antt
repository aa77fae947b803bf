-- What is left to prove of `close_element`.
use Rattle.std.proofs.Common.{refl, arith}
use Rattle.htmd_tree.proofs.AdvancesLemmas.{closed_holds, closed_reading}
use Rattle.htmd_tree.proofs.reader.Reader.close_element.Goals as goal

pub returns-clause-holds : goal.returns-clause-holds
returns-clause-holds c = λ has_doctype f g fs h.
    closed_holds c.args.self.now (record c.args.self.now { stack = c.pop.new.self; rest = c.args.rest }) has_doctype f g
    fs c.pop.result h c.pop.ensures.items (λ l. c.pop.ensures.variant.1 (omega arith)) refl refl

pub returns-clause-reading : goal.returns-clause-reading
returns-clause-reading c =
    closed_reading c.args.self.now (record c.args.self.now { stack = c.pop.new.self; rest = c.args.rest }) c.pop.result
    c.requires.reading c.requires.inner c.pop.ensures.items (λ l. c.pop.ensures.variant.1 (omega arith)) refl refl
