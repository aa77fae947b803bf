-- One more part of a block or an item, and what a list's part is.
use Rattle.std.proofs.Common.{◌≡◌, ℕ, ◌+◌, Bool, true, false, not, ◌<◌, List, [], ◌∷◌, ◌++◌, length, map, refl, sym}
use Rattle.std.proofs.Common.{ap, ◌∙◌, get_or, arith}
use Rattle.std.specs.Prelude.{◌||◌, nat_lt, Option, option_map, Vec}
use Rattle.std.specs.declared.alloc.Global.{Global}
use Rattle.std.proofs.lemmas.Bool.{le-ltb}
use Rattle.htmd_document.specs.Documents as value
use Rattle.htmd_document.specs.DocumentViews.{block_of, blocks_of}
use Rattle.htmd_document.specs.FlatDocuments.{flattened, flat_items}
use Rattle.htmd_document.specs.FlatViews.{flat_blocks_of}
use Rattle.htmd_document.specs.NormalDocuments.{is_spread}
use Rattle.htmd_document.specs.TightItems.{is_short}
use Rattle.htmd_document.specs.declared.document.Block.{Block}
use Rattle.htmd_document.specs.declared.document.Block.TheVariants as source
use Rattle.htmd_document.specs.declared.flat.FlatBlock.{FlatBlock}
use Rattle.htmd_commonmark.specs.BlockViews.{all_items_of}
use Rattle.htmd_commonmark.proofs.BlocksLemmas.{list_shape}
use Rattle.htmd_chunks.specs.Fillings.{Part, BlockPart, Filling, ListFilling, flushed, with_further}
use Rattle.htmd_chunks.specs.Fillings.{list_of, list_flushed, with_further_items}
use Rattle.htmd_chunks.specs.Runs.{is_none}
use Rattle.htmd_chunks.specs.declared.bounds.ListShape.{ListShape}
use Rattle.htmd_chunks.specs.declared.joint.Joint.TheVariants as joint

not-not : (b : Bool) → not (not b) ≡ b
not-not true = refl
not-not false = refl

pub some-more : {X : Type 0} (xs : List X) (x : X) → is_none (xs ++ x ∷ []) ≡ false
some-more [] x = refl
some-more (y ∷ xs) x = refl

-- ---- further parts

pub further-append : (most : ℕ) (f : Filling) (ps qs : List BlockPart)
    → with_further most f (ps ++ qs) ≡ with_further most (with_further most f ps) qs
further-append most f [] qs = refl
further-append most f (p ∷ ps) qs =
    further-append most (record (flushed most f) { now = p.block ∷ []; continues = p.continues }) ps qs

pub further_items-append : (most : ℕ) (l : ListShape) (f : ListFilling) (place : ℕ) (ps qs : List Part)
    → with_further_items most l f place (ps ++ qs)
    ≡ with_further_items most l (with_further_items most l f place ps) place qs
further_items-append most l f place [] qs = refl
further_items-append most l f place (p ∷ ps) qs =
    further_items-append most l
    (record (list_flushed most l f place (joint.Item ∷ p.continues)) { now = value.blocks_of p.blocks ∷ [] })
    place ps qs

-- ---- lists

flat_short : (flat : List FlatBlock) → nat_lt (length flat) 2 ≡ is_short (flat_blocks_of flat)
flat_short [] = refl
flat_short (b ∷ []) = refl
flat_short (b ∷ c ∷ flat) = le-ltb (length (b ∷ c ∷ flat)) 2 (omega arith)

pub one_short : (items : List (Vec Block Global)) (v : Vec Block Global) (flat : List FlatBlock) (n : ℕ)
    → length items ≡ 1 → v ≡ get_or items 0 v → flat_blocks_of flat ≡ flattened (blocks_of v.items)
    → n ≡ length flat → nat_lt n 2 ≡ not (is_spread (flat_items (all_items_of items)))
one_short [] v flat n one is same count = absurd (omega arith)
one_short (w ∷ x ∷ items) v flat n one is same count = absurd (omega arith)
one_short (w ∷ []) v flat n one is same count =
    ap (λ k. nat_lt k 2) count ∙ flat_short flat
    ∙ ap is_short (same ∙ ap (λ u. flattened (blocks_of u.items)) is)
    ∙ sym (not-not (is_short (flattened (blocks_of w.items))))

pub many_spread : (items : List (Vec Block Global)) → 1 < length items
    → false ≡ not (is_spread (flat_items (all_items_of items)))
many_spread [] many = absurd (omega arith)
many_spread (v ∷ []) many = absurd (omega arith)
many_spread (v ∷ w ∷ items) many = refl

pub part_shape : (l : ListShape) (first : ℕ) (start : Option ℕ) (tight : Bool)
    (items : Vec (Vec Block Global) Global)
    → start ≡ option_map (λ n. n + first) l.start
    → tight ≡ (l.is_tight || not (is_spread (flat_items (all_items_of items.items))))
    → block_of (source.List start tight items) ≡ list_of l first (map (λ bs. blocks_of bs.items) items.items)
part_shape l first start tight items begins spread =
    list_shape start tight items ∙ ap (λ s. value.list s tight (all_items_of items.items)) begins
    ∙ ap (λ t. value.list (option_map (λ n. n + first) l.start) t (all_items_of items.items)) spread
