-- The attributes that an element keeps.
use Rattle.std.proofs.Common.{◌≡◌, ◌<◌, ◌≤◌, ℕ, List, [], ◌∷◌, ◌++◌, None, length, get_or, refl, sym, ap, ◌∙◌, arith}
use Rattle.std.proofs.lemmas.List.{map-append}
use Rattle.htmd_lexical.specs.declared.attribute.Attribute.{Attribute}
use Rattle.htmd_lexical.specs.Attributes.{pair_of, pairs_of}
use Rattle.htmd_lexical.specs.AttributePairs.{AttributePair}
use Rattle.htmd_nodes.specs.Items.{Data, document_node, doctype_node, text_node, comment_node, element_node, Item}
use Rattle.htmd_nodes.specs.Items.{IsTree, data_at, children_of}
use Rattle.htmd_nodes.specs.NumberedTrees.{NumberedForest, none, more, with_children, tree_of, forest_of}
use Rattle.htmd_nodes.proofs.NumberedTreesLemmas.{tree-open}
use Rattle.htmd_trimming.specs.FateViews as views
use Rattle.htmd_trimming.specs.Fates.{is_sign_alone, without}

-- all, where none is lost
pub without_none : (attributes : List AttributePair) → without None attributes ≡ attributes
without_none [] = refl
without_none (a ∷ attributes) = ap (λ xs. a ∷ xs) (without_none attributes)

-- one more
pub pairs_push : (attributes : List Attribute) (a : Attribute)
    → pairs_of (attributes ++ a ∷ []) ≡ pairs_of attributes ++ pair_of a ∷ []
pairs_push attributes a = map-append pair_of attributes (a ∷ [])

-- ---- one text of signs

sign-open : (id : ℕ) (d : Data) (f : NumberedForest)
    → is_sign_alone (more (with_children id d f) none) ≡ views.is_sign d
sign-open id document_node f = refl
sign-open id doctype_node f = refl
sign-open id (text_node s) f = refl
sign-open id (comment_node s) f = refl
sign-open id (element_node name attributes) f = refl

only : (ids : List ℕ) (id : ℕ) → 1 ≤ length ids → length ids < 2 → id ≡ get_or ids 0 id
    → ids ≡ id ∷ []
only [] id l m e = absurd (omega (arith, l))
only (a ∷ []) id l m e = ap (λ x. x ∷ []) (sym e)
only (a ∷ b ∷ ids) id l m e = absurd (omega (arith, m))

-- the only node, by what it is
pub node-sign : (items : List Item) (ids : List ℕ) (id : ℕ) (d : Data) → IsTree items → id < length items
    → 1 ≤ length ids → length ids < 2 → id ≡ get_or ids 0 id → d ≡ data_at items id
    → views.is_sign d ≡ is_sign_alone (forest_of (tree_of items) ids)
node-sign items ids id d t within l m e is =
    let below = forest_of (tree_of items) (children_of items id) in
    ap views.is_sign is
    ∙ (sym (sign-open id (data_at items id) below)
    ∙ (sym (ap (λ x. is_sign_alone (more x none)) (tree-open items id t within))
    ∙ sym (ap (λ x. is_sign_alone (forest_of (tree_of items) x)) (only ids id l m e))))
