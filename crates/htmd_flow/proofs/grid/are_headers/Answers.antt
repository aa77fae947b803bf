use Rattle.std.proofs.Common.{◌∙◌, rules, tests}
use Rattle.std.proofs.lemmas.Iterator.{YieldsList-from_slice}
use Rattle.std.proofs.lemmas.Iterator.Search.{all_from_yields_List}
use Rattle.htmd_flow.specs.declared.grid.Cell as code
use Rattle.htmd_flow.proofs.GridsLemmas.{all_headers}
use Rattle.htmd_flow.proofs.grid.are_headers.Goals as goal

pub returns : goal.returns
returns c =
    all_from_yields_List (λ (cell : code.Cell). cell.is_header) _ _ c.all.result c.all.ensures.ran
    (YieldsList-from_slice c.args.cells.now cc)
    (λ x b q k. search (rules, tests))
    ∙ all_headers c.args.cells.now
