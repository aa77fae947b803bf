-- What is left to prove of `image`.
use Rattle.std.proofs.Common.{◌∙◌, ap, false, map, string_bytes}
use Rattle.std.proofs.lemmas.List.{length-map}
use Rattle.htmd_document.specs.Documents as value
use Rattle.htmd_document.specs.DocumentViews.{bytes_of_title}
use Rattle.htmd_flow.specs.NestViews.{wrappers_in, inlines_in}
use Rattle.htmd_flow.specs.Nesting.{behind}
use Rattle.htmd_flow.specs.ParagraphViews.{writing_in}
use Rattle.htmd_flow.specs.Paragraphs.{Writing}
use Rattle.htmd_flow.specs.PartViews.{around_of}
use Rattle.htmd_flow.specs.declared.paragraphs.Met.TheVariants as met
use Rattle.htmd_flow.proofs.NestLemmas.{inline-image}
use Rattle.htmd_flow.proofs.ParagraphsLemmas.{reached-shown, reached-le}
use Rattle.htmd_flow.proofs.paragraphs.Paragraphs.image.Goals as goal

pub push_leaf-requires-clause-named : goal.push_leaf-requires-clause-named
push_leaf-requires-clause-named c = rw (length-map c.args.around.now around_of)
    at (reached-le (writing_in c.args.self.now) (writing_in c.reach.new.self) (map around_of c.args.around.now)
    false c.in_ok-shared.shared c.in_ok-shared.ensures)

pub returns : goal.returns
returns c = ap (λ (w : Writing). record w { met = met.More }) c.settle.ensures
    ∙ reached-shown (writing_in c.args.self.now) (writing_in c.reach.new.self) (map around_of c.args.around.now)
    false c.in_ok-shared.shared
    (value.image (string_bytes c.args.address) (bytes_of_title c.args.title) (string_bytes c.args.description))
    (inlines_in c.push_leaf.new.self) (wrappers_in c.push_leaf.new.self) c.in_ok-shared.ensures
    (c.in_ok-push_leaf.ensures.inlines
    ∙ ap (behind c.in_ok-shared.shared (inlines_in c.reach.new.self.nest) (map around_of c.args.around.now))
    (inline-image c.args.address c.args.title c.args.description))
    c.in_ok-push_leaf.ensures.wrappers
