use Rattle.htmd_selectors.proofs.PagesLemmas.{rewritten-is}
use Rattle.htmd_selectors.proofs.copying.rewritten.Goals as goal

pub returns : goal.returns
returns g c = record {
  ok =
      rewritten-is (g.R.Rewrite.rule c.args.rewrite.now) c.args.tree.now c.in_ok-out.out c.push_kept.new.out
      c.root.result c.root-under.result c.root.ensures.tree c.in_ok-out.ensures c.root.ensures.value
      c.root-under.ensures.value c.in_ok-push_kept.ensures;
}
