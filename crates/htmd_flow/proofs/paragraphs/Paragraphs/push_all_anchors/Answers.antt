-- One more anchor.
use Rattle.htmd_flow.specs.NestViews.{inlines_in, wrappers_in}
use Rattle.htmd_flow.specs.ParagraphViews.{writing_in}
use Rattle.htmd_flow.proofs.ParagraphsLemmas.{anchors_pushed}
use Rattle.htmd_flow.proofs.paragraphs.Paragraphs.push_all_anchors.Goals as goal

pub loop-id-preserved : goal.loop-id-preserved
loop-id-preserved c = record {
  put = anchors_pushed (writing_in c.args.self.now) (writing_in c.loop-id.self) (inlines_in c.push_leaf.new.self)
      (wrappers_in c.push_leaf.new.self) c.args.around.now c.loop-id.yielded c.in-Some.id c.loop-id.invariant.put
      c.in_ok-push_leaf.ensures.inlines c.in_ok-push_leaf.ensures.wrappers;
  anchors = c.loop-id.invariant.anchors;
  rest = record {
    gap = c.loop-id.invariant.rest.gap;
    is_blank = c.loop-id.invariant.rest.is_blank;
    breaks = c.loop-id.invariant.rest.breaks;
  };
}
