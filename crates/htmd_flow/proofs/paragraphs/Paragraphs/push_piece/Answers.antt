-- What is left to prove of `push_piece`.
use Rattle.std.proofs.Common.{◌∙◌, ap, map}
use Rattle.std.proofs.lemmas.List.{length-map}
use Rattle.htmd_flow.specs.NestViews.{wrappers_in, inlines_in}
use Rattle.htmd_text.specs.SqueezedTexts.{squeezed_text}
use Rattle.htmd_flow.specs.Nesting.{behind, text_or_code}
use Rattle.htmd_flow.specs.ParagraphViews.{writing_in, with_latest}
use Rattle.htmd_flow.specs.Paragraphs.{Writing}
use Rattle.htmd_flow.specs.PartViews.{around_of}
use Rattle.htmd_flow.specs.declared.paragraphs.Latest.{Latest}
use Rattle.htmd_flow.specs.declared.paragraphs.Met.TheVariants as met
use Rattle.htmd_flow.proofs.ParagraphsLemmas.{reached-shown, reached-le}
use Rattle.htmd_flow.proofs.paragraphs.Paragraphs.push_piece.Goals as goal

pub push_text-requires-clause-named : goal.push_text-requires-clause-named
push_text-requires-clause-named c = rw (length-map c.args.around.now around_of)
    at (reached-le (writing_in c.args.self.now) (writing_in c.reach.new.self) (map around_of c.args.around.now)
    c.args.is_code c.in_ok-shared.shared c.in_ok-shared.ensures)

pub returns : goal.returns
returns c = ap (λ (w : Writing). record w { met = met.More }) c.settle.ensures
    ∙ (ap (λ (latest : Latest). record (with_latest (record (writing_in c.reach.new.self) {
      content = inlines_in c.push_text.new.self;
      around = wrappers_in c.push_text.new.self;
    }) latest) { met = met.More }) c.of.ensures
    ∙ reached-shown (writing_in c.args.self.now) (writing_in c.reach.new.self) (map around_of c.args.around.now)
    c.args.is_code c.in_ok-shared.shared (text_or_code c.args.is_code (squeezed_text c.args.piece.now))
    (inlines_in c.push_text.new.self) (wrappers_in c.push_text.new.self) c.in_ok-shared.ensures
    (c.in_ok-push_text.ensures.inlines
    ∙ ap (λ s. behind c.in_ok-shared.shared (inlines_in c.reach.new.self.nest) (map around_of c.args.around.now)
    (text_or_code c.args.is_code s)) (c.as_str.ensures.value ∙ c.in_ok-squeezed.ensures.text))
    c.in_ok-push_text.ensures.wrappers)
