-- Nothing showed, and there are no anchors.
use Rattle.std.proofs.Common.{◌∙◌, ap, map, rules, sym, string_bytes}
use Rattle.std.specs.Prelude.{◌==◌}
use Rattle.htmd_flow.proofs.ParagraphsLemmas.{without_items}
use Rattle.htmd_flow.proofs.paragraphs.Paragraphs.is_idle.Goals as goal

pub returns : goal.returns
returns c = λ e. (
  c.is_nothing.ensures (search rules),
  ap (map string_bytes) (without_items c.args.self.now.anchors.items
      (sym (c.is_empty.ensures ∙ ap (λ n. n == 0) c.args.self.now.anchors.ok.0) ∙ e)),
)
