use Rattle.htmd_trimming.proofs.PageLemmas.{page-is}
use Rattle.htmd_trimming.proofs.trimming.trimmed_page.Goals as goal

pub returns : goal.returns
returns c =
    page-is c.args.page.now c.root.result c.root.ensures.tree c.root.ensures.value c.args.asked c.in_ok-out.out
    c.push_below.new.out c.root-under.result c.in_ok-out.ensures c.root-under.ensures.value
    c.in_ok-push_below.ensures
