use Rattle.std.proofs.Common.{◌≡◌, ◌∷◌, [], ap, ◌∙◌, Bool, List, subst, OnOk, map}
use Rattle.htmd_document.specs.Documents as documents
use Rattle.htmd_document.specs.Documents.{Block, Blocks}
use Rattle.htmd_flow.specs.ListViews.{item_of}
use Rattle.htmd_flow.specs.Lists as spec
use Rattle.htmd_flow.specs.ParagraphViews.{writing_in}
use Rattle.htmd_flow.specs.Paragraphs.{fed_all}
use Rattle.htmd_flow.specs.Parts.{whole}
use Rattle.htmd_flow.proofs.list.push_list.Goals as goal

pub returns : goal.returns
returns c =
    subst (λ (b : Block). OnOk c.block.result (writing_in c.block.new.self
    ≡ fed_all (writing_in c.args.out.now) (whole b ∷ [])))
    (c.list_block.ensures
    ∙ ap (λ (items : List Blocks). documents.list c.args.start c.is_tight-tight.result (documents.items_of items))
    c.in_ok-items.ensures
    ∙ ap (λ (tight : Bool). documents.list c.args.start tight
    (documents.items_of (map (λ (i : spec.ListItem). i.blocks) (map item_of c.args.items.items))))
    (c.is_tight-tight.ensures ∙ ap (λ xs. spec.is_tight (map item_of xs)) c.as_slice.ensures.value))
    c.block.ensures
