-- Lists as blocks.
use Rattle.std.proofs.Common.{◌≡◌, ◌∙◌, sym, ap, refl, ℕ, Bool, List, [], ◌∷◌, map}
use Rattle.std.specs.Prelude.{Option, Vec}
use Rattle.std.specs.declared.alloc.Global.{Global}
use Rattle.htmd_document.specs.declared.document.Block as source
use Rattle.htmd_document.specs.declared.document.Block.{Block, fold-roll-Block}
use Rattle.htmd_document.specs.declared.document.Block.TheVariants.{rolls-List}
use Rattle.htmd_document.specs.DocumentViews.{block_step, block_of, blocks_of}
use Rattle.htmd_document.specs.Documents as documents

items_shape : (f : Vec Block Global → Vec documents.Block Global)
    → ((v : Vec Block Global) → (f v).items ≡ map block_of v.items) → (l : List (Vec Block Global))
    → documents.items_of (map (λ bs. documents.blocks_of bs.items) (map f l))
    ≡ documents.items_of (map (λ bs. blocks_of bs.items) l)
items_shape f each [] = refl
items_shape f each (v ∷ l) =
    ap (λ bs. documents.items_of (documents.blocks_of bs ∷ map (λ w. documents.blocks_of w.items) (map f l)))
    (each v)
    ∙ ap (documents.item (blocks_of v.items)) (items_shape f each l)

pub block-list : (start : Option ℕ) (tight : Bool) (items : Vec (Vec Block Global) Global)
    → block_of (source.List start tight items)
    ≡ documents.list start tight (documents.items_of (map (λ bs. blocks_of bs.items) items.items))
block-list start tight items =
    ap block_of (sym (rolls-List start tight items))
    ∙ fold-roll-Block documents.Block block_step (source.Block-F.List start tight items)
    ∙ ap (documents.list start tight) (items_shape _ (λ v. refl) items.items)
