-- What is left to prove of `push_gap`.
use Rattle.std.proofs.Common.{rules, ◌&&◌, refl, sym, ◌∙◌, ap, map, take}
use Rattle.std.proofs.lemmas.List.{take-map}
use Rattle.htmd_flow.specs.Nesting.{behind, text_or_code}
use Rattle.htmd_flow.specs.Paragraphs.{is_code_gap}
use Rattle.htmd_document.specs.Documents.{line_break}
use Rattle.htmd_flow.specs.NestViews.{inlines_in, wrappers_in, wrappers_of}
use Rattle.htmd_flow.specs.ParagraphViews.{writing_in}
use Rattle.htmd_flow.specs.PartViews.{around_of}
use Rattle.htmd_flow.proofs.ParagraphsLemmas.{IfOk-two, gap-break, gap-white, gap-wrappers, gap-bound}
use Rattle.htmd_flow.proofs.NestLemmas.{inline-break}
use Rattle.htmd_flow.proofs.paragraphs.Paragraphs.push_gap.Goals as goal

pub returns-then-self : goal.returns-then-self
returns-then-self c = IfOk-two c.push_leaf.result _ _ _ (λ _ inlines wrappers. record {
  put = record {
    in_item = refl;
    is_flat = refl;
    done = refl;
    latest = refl;
    met = refl;
    content = inlines
        ∙ (ap (λ x. behind c.args.shared (inlines_in c.args.self.now.nest)
        (map around_of (take c.args.shared c.args.around.now)) x)
        inline-break
        ∙ (ap (λ rs. behind c.args.shared (inlines_in c.args.self.now.nest) rs line_break)
        (sym (take-map around_of c.args.shared c.args.around.now))
        ∙ gap-break (writing_in c.args.self.now) (map around_of c.args.around.now) c.args.is_code c.args.shared
        c.requires.value c.if-self.true));
    wrappers = gap-wrappers (wrappers_in c.args.self.now.nest) _ _ c.args.shared c.requires.bound wrappers;
    bound = gap-bound (wrappers_in c.args.self.now.nest) _ _ c.args.shared c.requires.bound wrappers;
  };
  anchors = refl;
}) c.push_leaf.ensures.inlines c.push_leaf.ensures.wrappers

pub returns : goal.returns
returns c = IfOk-two c.push_text.result _ _ _ (λ _ inlines wrappers. record {
  put = record {
    in_item = refl;
    is_flat = refl;
    done = refl;
    latest = refl;
    met = refl;
    content = inlines
        ∙ (ap (λ rs. behind c.args.shared (inlines_in c.args.self.now.nest) rs
        (text_or_code c.is_code_gap-is_code.result c.deref.result.now))
        (sym (take-map around_of c.args.shared c.args.around.now))
        ∙ (ap (λ b. behind c.args.shared (inlines_in c.args.self.now.nest)
        (take c.args.shared (map around_of c.args.around.now))
        (text_or_code b c.deref.result.now)) c.is_code_gap-is_code.ensures
        ∙ (ap (λ s. behind c.args.shared (inlines_in c.args.self.now.nest)
        (take c.args.shared (map around_of c.args.around.now))
        (text_or_code (c.args.is_code && is_code_gap (writing_in c.args.self.now) (wrappers_of c.args.around.now)) s))
        c.deref.ensures
        ∙ gap-white (writing_in c.args.self.now) (map around_of c.args.around.now) c.args.is_code c.args.shared
        c.requires.value c.if-self.false (search rules))));
    wrappers = gap-wrappers (wrappers_in c.args.self.now.nest) _ _ c.args.shared c.requires.bound wrappers;
    bound = gap-bound (wrappers_in c.args.self.now.nest) _ _ c.args.shared c.requires.bound wrappers;
  };
  anchors = refl;
}) c.push_text.ensures.inlines c.push_text.ensures.wrappers
