-- The laws of the normal form.
use Rattle.std.proofs.Common.{◌≡◌, Bool, true, false, cond, List, [], ◌∷◌, ◌++◌, refl, sym, ap, ◌∙◌, subst}
use Rattle.std.proofs.Common.{append_assoc}
use Rattle.std.proofs.lemmas.List.{append-nil}
use Rattle.std.specs.Prelude.{None}
use Rattle.htmd_shown.specs.Facts.{inserted_facts}
use Rattle.htmd_shown.specs.declared.role.Role.TheVariants as role
use Rattle.htmd_nodes.specs.NumberedTrees.{NumberedTree}
use Rattle.htmd_shown.specs.Shown.{Sight, shown_in, followed_by}
use Rattle.htmd_shown.specs.SimpleTrees.{Simple, element, Simples, none, more}
use Rattle.htmd_document_of_tree.specs.declared.anchors.Anchors.{Anchors}
use Rattle.htmd_document_of_tree.specs.Anchors.{Placing, anchors, apart, all_placed, placing_after_all, values_of}
use Rattle.htmd_document_of_tree.specs.Anchors.{last_anchors, targets_by}
use Rattle.htmd_document_of_tree.specs.FirstPieces.{pieced, pieced_all}
use Rattle.htmd_document_of_tree.specs.Limits.{limited}
use Rattle.htmd_document_of_tree.specs.Targets.{Target}
use Rattle.htmd_document_of_tree.specs.TreeDocuments.{document_by, document_of_tree}
use Rattle.htmd_flow.specs.Contexts.{Context, bare_in}
use Rattle.htmd_flow.specs.Flows.{Node, is_item, goes_on, flow_all, flow_after}
use Rattle.htmd_flow.specs.Flows.{items_in_a_row, list_parts, node_of, nodes_of}
use Rattle.htmd_flow.specs.Parts.{Part, edge}
use Rattle.htmd_law_documents.specs.NormalLaws.{DocumentsAreNormal, TablesHaveRightLength, LoneAnchorsStand}
use Rattle.htmd_law_documents.specs.SimpleForms.{AreSound}
use Rattle.htmd_law_documents.specs.TreeForms.{is_text_tree}
use Rattle.htmd_law_documents.proofs.ShownTreeLemmas.{page-sound}
use Rattle.htmd_law_documents.proofs.SoundLemmas.{limited-sound, all-placed-kept, pieced-sound}
use Rattle.htmd_law_documents.proofs.NormalBlockLemmas.{document-normal, all-right, all-standing}
use Rattle.htmd_law_documents.proofs.NormalPartsLemmas.{FineParts, alone, good, Closes, ClosesFrom}
use Rattle.htmd_law_documents.proofs.NormalPartsLemmas.{fine-closes, fine-last, FineDocument, document-of}
use Rattle.htmd_law_documents.proofs.NormalNodesLemmas.{bound, flow-fine}
use Rattle.htmd_law_documents.proofs.NormalTreeLemmas.{AreIds, ids-alone, AreFine}
use Rattle.htmd_law_documents.proofs.NormalTreeNodesLemmas.{nodes-fine}
use Rattle.htmd_law_documents.proofs.NormalShownLemmas.{AreClear, page-clear}
use Rattle.htmd_law_documents.proofs.NormalPlacedLemmas.{limited-clear, AllNamed, targets-named, all-after-named}
use Rattle.htmd_law_documents.proofs.NormalPlacedLemmas.{ArePlaced, all-placed-fine, anchors-ids, values-ids}
use Rattle.htmd_law_documents.proofs.NormalPiecedLemmas.{pieced-ids, all-pieced-fine}

-- ---- a node at the end

module _ (n : Node) (c : Context) (item : is_item n ≡ false) (on : goes_on n ≡ false) where
  row-last : (nodes : List Node) → items_in_a_row (nodes ++ n ∷ []) ≡ items_in_a_row nodes
  row-last [] = ap (λ b. cond b (n ∷ []) []) on
  row-last (m ∷ nodes) = ap (λ ms. cond (goes_on m) (m ∷ ms) []) (row-last nodes)

  either-last : (b : Bool) (xs xs' ys ys' zs vs vs' : List Part) → xs ≡ xs' → ys ≡ ys' ++ n.whole c
      → vs ≡ vs' ++ n.whole c → cond b (xs ++ ys) (zs ++ vs) ≡ cond b (xs' ++ ys') (zs ++ vs') ++ n.whole c
  either-last true xs xs' ys ys' zs vs vs' e f g =
      ap (λ t. t ++ ys) e ∙ (ap (λ t. xs' ++ t) f ∙ sym (append_assoc xs' ys' (n.whole c)))
  either-last false xs xs' ys ys' zs vs vs' e f g =
      ap (λ t. zs ++ t) g ∙ sym (append_assoc zs vs' (n.whole c))

  either-after : (b : Bool) (ys ys' zs vs vs' : List Part) → ys ≡ ys' ++ n.whole c → vs ≡ vs' ++ n.whole c
      → cond b ys (zs ++ vs) ≡ cond b ys' (zs ++ vs') ++ n.whole c
  either-after true ys ys' zs vs vs' f g = f
  either-after false ys ys' zs vs vs' f g = ap (λ t. zs ++ t) g ∙ sym (append_assoc zs vs' (n.whole c))

  mutual
    flow-last : (nodes : List Node) → flow_all (nodes ++ n ∷ []) c ≡ flow_all nodes c ++ n.whole c
    flow-last [] =
        ap (λ b. cond b (list_parts None (n ∷ []) c ++ []) (n.whole c ++ [])) item ∙ append-nil (n.whole c)
    flow-last (m ∷ nodes) =
        either-last (is_item m) (list_parts None (m ∷ items_in_a_row (nodes ++ n ∷ [])) c)
        (list_parts None (m ∷ items_in_a_row nodes) c) (flow_after (nodes ++ n ∷ []) c) (flow_after nodes c)
        (m.whole c)
        (flow_all (nodes ++ n ∷ []) c) (flow_all nodes c)
        (ap (λ ms. list_parts None (m ∷ ms) c) (row-last nodes)) (after-last nodes) (flow-last nodes)

    after-last : (nodes : List Node) → flow_after (nodes ++ n ∷ []) c ≡ flow_after nodes c ++ n.whole c
    after-last [] =
        ap (λ b. cond b [] (n.whole c ++ [])) on ∙ append-nil (n.whole c)
    after-last (m ∷ nodes) =
        either-after (goes_on m) (flow_after (nodes ++ n ∷ []) c) (flow_after nodes c) (m.whole c)
        (flow_all (nodes ++ n ∷ []) c) (flow_all nodes c) (after-last nodes) (flow-last nodes)

-- ---- anchors at the end

pieced-followed : (ts us : Simples) → pieced_all (followed_by ts us) ≡ followed_by (pieced_all ts) (pieced_all us)
pieced-followed none us = refl
pieced-followed (more t ts) us = ap (more (pieced t)) (pieced-followed ts us)

nodes-followed : (ts us : Simples) → nodes_of (followed_by ts us) ≡ nodes_of ts ++ nodes_of us
unfolding node_of
nodes-followed none us = refl
nodes-followed (more t ts) us = ap (λ ns. node_of t ∷ ns) (nodes-followed ts us)

followed-none : (ts : Simples) → followed_by ts none ≡ ts
followed-none none = refl
followed-none (more t ts) = ap (more t) (followed-none ts)

-- anchors in a paragraph of their own, at the end
ids-close : (is_rich : Bool) (inner : Simples) → AreIds inner
    → ClosesFrom (bound (bare_in is_rich)) alone (flow_all (nodes_of inner) (bare_in is_rich) ++ edge ∷ [])
ids-close is_rich inner ids =
    ids-alone (bound (bare_in is_rich)) (bare_in is_rich) Closes inner ids (edge ∷ []) (tt, tt, tt) (tt, tt, tt)

end-fine : (is_rich : Bool) (ts inner : Simples)
    → FineParts false (bound (bare_in is_rich)) (flow_all (nodes_of ts) (bare_in is_rich)) → AreIds inner
    → ClosesFrom (bound (bare_in is_rich)) good
    (flow_all (nodes_of (followed_by ts (more (element 0 role.Anchors inserted_facts [] inner) none)))
    (bare_in is_rich))
unfolding node_of
end-fine is_rich ts inner f ids =
    let a : Simple = element 0 role.Anchors inserted_facts [] inner in
    subst (λ (ns : List Node). ClosesFrom (bound (bare_in is_rich)) good (flow_all ns (bare_in is_rich)))
    (sym (nodes-followed ts (more a none)))
    (subst (λ (ps : List Part). ClosesFrom (bound (bare_in is_rich)) good ps)
    (sym (flow-last (node_of a) (bare_in is_rich) refl refl (nodes_of ts)))
    (fine-last (bound (bare_in is_rich)) good (flow_all (nodes_of ts) (bare_in is_rich))
    (flow_all (nodes_of inner) (bare_in is_rich) ++ edge ∷ []) f (ids-close is_rich inner ids)))

last-fine : (is_rich : Bool) (ts : Simples) (targets : List Target)
    → FineParts false (bound (bare_in is_rich)) (flow_all (nodes_of (pieced_all ts)) (bare_in is_rich))
    → AllNamed targets
    → ClosesFrom (bound (bare_in is_rich)) good
    (flow_all (nodes_of (pieced_all (followed_by ts (last_anchors targets)))) (bare_in is_rich))
last-fine is_rich ts [] f n =
    subst (λ (us : Simples). ClosesFrom (bound (bare_in is_rich)) good
    (flow_all (nodes_of (pieced_all us)) (bare_in is_rich)))
    (sym (followed-none ts))
    (fine-closes (bound (bare_in is_rich)) good (flow_all (nodes_of (pieced_all ts)) (bare_in is_rich)) f)
last-fine is_rich ts (t ∷ targets) f n =
    let ids : Simples = anchors (values_of (t ∷ targets)) in
    subst (λ (us : Simples). ClosesFrom (bound (bare_in is_rich)) good
    (flow_all (nodes_of us) (bare_in is_rich)))
    (sym (pieced-followed ts (more (apart ids) none)))
    (end-fine is_rich (pieced_all ts) (pieced_all ids) f
    (pieced-ids ids (anchors-ids (values_of (t ∷ targets)) (values-ids (t ∷ targets) n))))

document-fine : (which : Anchors) (sight : Sight) (tree : NumberedTree) → is_text_tree tree ≡ true
    → FineDocument (bound (bare_in sight.is_rich)) (document_of_tree which sight tree)
unfolding document_of_tree document_by
document-fine which sight tree e =
    let shown : Simples = shown_in sight tree in
    let ts : Simples = limited shown in
    let clear : AreClear ts = limited-clear shown (page-clear sight tree e) in
    let sound : AreSound ts = limited-sound shown (page-sound sight tree e) in
    let p : Placing = record { seen = 0; targets = targets_by which sight.is_rich ts } in
    let named : AllNamed p.targets = targets-named which sight.is_rich ts clear in
    let placed : ArePlaced (all_placed p ts) = all-placed-fine p ts named clear in
    let kept : AreSound (all_placed p ts) = (all-placed-kept p ts sound).sound in
    let pieced : AreSound (pieced_all (all_placed p ts)) = pieced-sound (all_placed p ts) kept in
    let fine : AreFine (pieced_all (all_placed p ts)) = all-pieced-fine (all_placed p ts) kept placed in
    let nodes : List Node = nodes_of (pieced_all (all_placed p ts)) in
    let parts : FineParts false (bound (bare_in sight.is_rich)) (flow_all nodes (bare_in sight.is_rich)) =
    flow-fine nodes (nodes-fine (pieced_all (all_placed p ts)) fine pieced) (bare_in sight.is_rich) tt in
    let last : List Target = (placing_after_all p ts).targets in
    let all : Simples = pieced_all (followed_by (all_placed p ts) (last_anchors last)) in
    document-of (bound (bare_in sight.is_rich)) (flow_all (nodes_of all) (bare_in sight.is_rich))
    (last-fine sight.is_rich (all_placed p ts) last parts (all-after-named p ts named))

pub documents_are_normal : DocumentsAreNormal
documents_are_normal which sight tree e =
    let fine = (document-fine which sight tree e).row in
    document-normal (document_of_tree which sight tree) fine.nearly fine.depth

pub tables_have_right_length : TablesHaveRightLength
tables_have_right_length which sight tree e =
    all-right (document_of_tree which sight tree) false (document-fine which sight tree e).row.nearly

pub lone_anchors_stand : LoneAnchorsStand
lone_anchors_stand which sight tree e =
    let fine = document-fine which sight tree e in
    all-standing (document_of_tree which sight tree) false true fine.row.nearly fine.stands
