-- A heading, or none where nothing is in it.
use Rattle.std.proofs.Common.{◌∙◌, sym, ap, arith}
use Rattle.std.proofs.lemmas.Bool.Decides.{nat_tests}
use Rattle.htmd_flow.specs.Paragraphs.{fed_all}
use Rattle.htmd_flow.specs.ParagraphViews.{writing_in}
use Rattle.htmd_flow.proofs.BlocksLemmas.{heading_none, heading_some}
use Rattle.htmd_flow.proofs.FeedLemmas.{on_ok}
use Rattle.htmd_flow.proofs.blocks.push_heading.Goals as goal

pub returns-then-is_empty : goal.returns-then-is_empty
returns-then-is_empty c = sym (ap (fed_all (writing_in c.args.out.now))
    (heading_none c.args.level c.args.content.items (grind (arith, nat_tests))))

pub returns : goal.returns
returns c = on_ok c.block.result c.block.ensures (λ e. e ∙ ap (fed_all (writing_in c.args.out.now))
    (heading_some c.args.level c.args.content (grind (arith, nat_tests))))
