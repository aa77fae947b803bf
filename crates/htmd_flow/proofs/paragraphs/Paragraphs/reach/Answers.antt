-- All before a leaf.
use Rattle.std.proofs.Common.{◌≡◌, sym, map, length, take, arith}
use Rattle.std.proofs.lemmas.List.{take-map, length-take-le}
use Rattle.htmd_flow.specs.ParagraphViews.{writing_in}
use Rattle.htmd_flow.specs.PartViews.{around_of}
use Rattle.htmd_flow.proofs.ParagraphsLemmas.{reached_all}
use Rattle.htmd_flow.proofs.paragraphs.Paragraphs.reach.Goals as goal

pub push_anchors-requires : goal.push_anchors-requires
push_anchors-requires c =
    let n = c.in_ok-shared.shared in
    let size : length (take n c.args.around.now) ≡ n =
    length-take-le n c.args.around.now c.in_ok-shared.ensures.bound in
    omega (arith, size, c.in_ok-shared.ensures.put.put.bound)

pub returns : goal.returns
returns c =
    let n = c.in_ok-shared.shared in
    reached_all (writing_in c.args.self.now) (writing_in c.part.new.self) (writing_in c.push_shared_gap.new.self)
    (writing_in c.push_anchors.new.self) (map around_of c.args.around.now)
    (map around_of (take n c.args.around.now)) c.args.is_code n (length (take n c.args.around.now))
    c.in_ok-part.ensures c.in_ok-shared.ensures.count (sym (take-map around_of n c.args.around.now))
    (length-take-le n c.args.around.now c.in_ok-shared.ensures.bound) c.in_ok-shared.ensures.put
    c.in_ok-push_anchors.ensures.put c.in_ok-push_anchors.ensures.anchors
