-- An element, or none where nothing is in it.
use Rattle.std.proofs.Common.{◌∙◌, sym, ap, arith, map}
use Rattle.std.proofs.lemmas.Bool.Decides.{nat_tests}
use Rattle.htmd_document.specs.DocumentViews.{attribute_of}
use Rattle.htmd_flow.specs.Paragraphs.{fed_all}
use Rattle.htmd_flow.specs.ParagraphViews.{writing_in}
use Rattle.htmd_flow.proofs.BlocksLemmas.{element_none, element_some}
use Rattle.htmd_flow.proofs.FeedLemmas.{on_ok}
use Rattle.htmd_flow.proofs.blocks.push_element.Goals as goal

pub returns-then-is_empty : goal.returns-then-is_empty
returns-then-is_empty c = sym (ap (fed_all (writing_in c.args.out.now))
    (element_none c.args.name (map attribute_of c.args.attributes.items) c.args.content.items
    (grind (arith, nat_tests))))

pub returns : goal.returns
returns c = on_ok c.block.result c.block.ensures (λ e. e ∙ ap (fed_all (writing_in c.args.out.now))
    (element_some c.args.name c.args.attributes c.args.content (grind (arith, nat_tests))))
