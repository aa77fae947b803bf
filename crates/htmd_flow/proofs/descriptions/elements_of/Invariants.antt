use Rattle.std.proofs.Common.{◌≡◌, map}
use Rattle.htmd_document.specs.DocumentViews.{block_of}
use Rattle.htmd_flow.specs.Flows as spec
use Rattle.htmd_flow.specs.DescriptionViews as views
use Rattle.htmd_flow.proofs.descriptions.elements_of.Given as goal

abbrev pub invariant-loop-description : goal.invariant-loop-description
invariant-loop-description l = map block_of l.elements.items
    ≡ map spec.description_element (map views.description_of l.yielded)
