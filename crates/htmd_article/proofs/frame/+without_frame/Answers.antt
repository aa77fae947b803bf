-- What is left to prove of `without_frame`.
use Rattle.std.proofs.Common.{map, refl, ap, ◌∙◌}
use Rattle.htmd_nodes.specs.Views.{data_of}
use Rattle.htmd_article.specs.declared.parts.Part.{out-Part}
use Rattle.htmd_article.specs.Frames.{facts_again}
use Rattle.htmd_article.specs.PartViews.{part_of, parts_of}
use Rattle.htmd_article.proofs.FramesLemmas.{left}
use Rattle.htmd_article.proofs.MadeLemmas.{framed_made}
use Rattle.htmd_article.proofs.TurnsLemmas.{whole-made}
use Rattle.htmd_article.proofs.frame.+without_frame.Goals as goal

pub returns : goal.returns
returns t c =
    let below = c.total_below-below.result in
    let p = c.args.part.now in
    framed_made _ p c.args.total below refl c.total_below-below.ensures
    (whole-made part_of (λ ps. left below (map part_of ps)) c.loop-inner.parts.items c.deref-inner-items.result.now
    c.loop-inner.inner-index refl c.loop-inner-test.false c.loop-inner.invariant
    ∙ ap (λ ps. left below (map part_of ps)) c.deref-inner-items.ensures.value)
    (c.in_ok-facts.ensures
    ∙ ap (λ ps. facts_again (data_of (out-Part p).node.now) (out-Part p).facts (parts_of ps))
    c.as_slice.ensures.value)
