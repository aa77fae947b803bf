-- No anchors at all.
use Rattle.std.proofs.Common.{◌∙◌, refl, ap, map, string_bytes, length, sym}
use Rattle.std.specs.Prelude.{◌==◌}
use Rattle.htmd_flow.specs.PartViews.{around_of}
use Rattle.htmd_flow.specs.ParagraphViews.{writing_in}
use Rattle.htmd_flow.proofs.ParagraphsLemmas.{none_put, without_items}
use Rattle.htmd_flow.proofs.paragraphs.Paragraphs.push_anchors.Goals as goal

pub returns-then-is_empty : goal.returns-then-is_empty
returns-then-is_empty c =
    let none = ap (map string_bytes) (without_items c.args.self.now.anchors.items (sym (c.is_empty.ensures
    ∙ ap (λ n. n == 0) c.args.self.now.anchors.ok.0) ∙ c.if-is_empty.true)) in
    record {
      put = none_put (writing_in c.args.self.now) (length c.args.around.now) (map around_of c.args.around.now) none
          c.requires;
      anchors = none;
      rest = record { gap = refl; is_blank = refl; breaks = refl };
    }
