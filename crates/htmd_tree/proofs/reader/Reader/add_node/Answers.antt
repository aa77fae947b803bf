-- What is left to prove of `add_node`.
use Rattle.std.proofs.Common.{refl, sym, subst}
use Rattle.htmd_tree.specs.NewNodes.{data_of_new}
use Rattle.htmd_tree.specs.Advances.{StopsDeep}
use Rattle.htmd_tree.proofs.AdvancesLemmas.{added_at, too_deep_at}
use Rattle.htmd_tree.proofs.reader.Reader.add_node.Goals as goal

pub returns-in-Ok-clause-ok : goal.returns-in-Ok-clause-ok
returns-in-Ok-clause-ok c = λ has_doctype fs h.
    added_at c.args.self.now _ has_doctype fs c.top-parent.result (data_of_new c.args.node) c.in-Ok.id
    c.top-parent.ensures.top h
    c.in-Ok.ensures.id c.in-Ok.ensures.ok (λ d. let w = c.in-Ok.ensures.too_deep.1 d in cc)

pub returns-in-Err-TooDeep-clause-err : goal.returns-in-Err-TooDeep-clause-err
returns-in-Err-TooDeep-clause-err c = λ has_doctype fs h.
    subst (λ s. StopsDeep c.args.self.now fs s) (sym c.refused.ensures) (
      refl,
      refl,
      too_deep_at c.args.self.now has_doctype fs c.top-parent.result c.top-parent.ensures.top h
          (c.in-Err-TooDeep.ensures.too_deep.0 (cc)),
    )
