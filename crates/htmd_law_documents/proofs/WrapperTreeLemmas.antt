-- The simpler tree: each node keeps the wrappers of what is in it.
use Rattle.std.proofs.Common.{◌≡◌, ℕ, Bool, true, false, cond, List, [], ◌∷◌, ◌++◌, refl, sym, ap, ◌∙◌, map}
use Rattle.std.proofs.Common.{subst}
use Rattle.std.specs.List.{list_any}
use Rattle.std.proofs.lemmas.List.{append-nil}
use Rattle.std.proofs.lemmas.Grind.{flat_map-append}
use Rattle.htmd_lexical.proofs.Cases.{test}
use Rattle.htmd_shown.specs.AllTexts.{all_text_among}
use Rattle.htmd_shown.specs.declared.role.Role.{Role}
use Rattle.htmd_shown.specs.declared.role.Role.TheVariants as role
use Rattle.htmd_shown.specs.Roles as roles
use Rattle.htmd_shown.specs.SimpleTrees.{Simple, text, image, formula, embedded, anchor, element, Simples, none, more}
use Rattle.htmd_flow.specs.Contexts.{Context, bare_in}
use Rattle.htmd_flow.specs.Flows.{Node, TermPart, gap, of_node, node_of, nodes_of, nodes_below, pieces_of, terms_of}
use Rattle.htmd_flow.specs.Flows.{blocks_of}
use Rattle.htmd_flow.specs.Flows.{around_node, parts_of_child, flow_all, rows_of_table, is_grid_of, document_of}
use Rattle.htmd_flow.specs.Levels.{list_of}
use Rattle.htmd_flow.specs.Terms.{is_group, is_term_or_meaning}
use Rattle.htmd_law_documents.proofs.VisibleLemmas.{both-true}
use Rattle.htmd_law_documents.proofs.ElementLemmas.{all-texts-show, false-true}
use Rattle.htmd_law_documents.proofs.Readers.{Reader, read_blocks, read_tree, read_trees, holds_anchors, IsFit, AreFit}
use Rattle.htmd_law_documents.proofs.Readers.{all-fit-sound}
use Rattle.htmd_law_documents.proofs.WrapperPartsLemmas.{Keep, keep-nil, keep-same, keep-run, blocks-keep}
use Rattle.htmd_law_documents.proofs.WrapperKindLemmas.{division-inner}
use Rattle.htmd_law_documents.proofs.WrapperNodesLemmas.{shallow, node_wrapped, nodes_wrapped, Agree}
use Rattle.htmd_law_documents.proofs.WrapperNodesLemmas.{NodesKeep, flow-keeps, untitled}
use Rattle.htmd_law_documents.proofs.WrapperTermLemmas.{term_wrapped, terms_wrapped, TermsKeep}
use Rattle.htmd_law_documents.proofs.WrapperTableLemmas.{nodes-all, KeptTree, KeptTrees, kept-nodes}
use Rattle.htmd_law_documents.proofs.WrapperTableLemmas.{table-keeps, nowhere}
use Rattle.htmd_law_documents.proofs.WrapperElementLemmas.{HasAddress, image-keeps, formula-keeps, embed-keeps}
use Rattle.htmd_law_documents.proofs.WrapperElementLemmas.{element-keeps}
use Rattle.htmd_law_documents.proofs.WrapperRichLemmas.{elements-unflat}
use Rattle.htmd_law_documents.proofs.WrapperRichTableLemmas.{rich-table-keeps}

division-untitled : (r : Role) → roles.is_division r ≡ true → roles.is_title r ≡ false
division-untitled role.Division e = refl
division-untitled r e = false-true e

module _ (R : Reader) where
  -- ---- what a list of terms says

  nodes-say : (nodes : List Node) (c : Context) → terms_wrapped R (map of_node nodes) c ≡ nodes_wrapped R nodes c
  nodes-say [] c = refl
  nodes-say (n ∷ nodes) c = ap (λ t. node_wrapped R c n ++ t) (nodes-say nodes c)

  group-says : (nodes : List Node) (c : Context)
      → terms_wrapped R (gap ∷ map of_node nodes ++ gap ∷ []) c ≡ nodes_wrapped R nodes c
  group-says nodes c =
      flat_map-append (term_wrapped R c) (map of_node nodes) (gap ∷ [])
      ∙ (append-nil (terms_wrapped R (map of_node nodes) c) ∙ nodes-say nodes c)

  child-says : (t : Simple) (c : Context)
      → terms_wrapped R (parts_of_child (node_of t) (nodes_below t)) c ≡ read_tree R t c false
  unfolding node_of
  child-says (text s) c = append-nil (read_tree R (text s) c false)
  child-says (image address attributes) c = append-nil (read_tree R (image address attributes) c false)
  child-says (formula tex is_alone attributes) c = append-nil (read_tree R (formula tex is_alone attributes) c false)
  child-says (embedded id address title attributes anchors) c =
      append-nil (read_tree R (embedded id address title attributes anchors) c false)
  child-says (anchor id) c = append-nil (R.mark id)
  child-says (element id r facts attributes content) c =
      let t : Simple = element id r facts attributes content in
      let n : Node = node_of t in
      let group : List TermPart = gap ∷ map of_node (nodes_of content) ++ gap ∷ [] in
      test (is_group t)
      (λ e. ap (λ b. terms_wrapped R (cond b group (of_node n ∷ [])) c) e
      ∙ (group-says (nodes_of content) c
      ∙ (nodes-all R content c
      ∙ sym (division-inner R r
      (both-true (roles.is_division r) (list_any is_term_or_meaning (list_of content)) e).0
      id facts attributes (all_text_among content) (is_grid_of content) (read_trees R content) (around_node t c) false
      ∙ ap (λ d. read_trees R content d false)
      (untitled roles.is_division division-untitled t c
      (both-true (roles.is_division r) (list_any is_term_or_meaning (list_of content)) e).0)))))
      (λ e. ap (λ b. terms_wrapped R (cond b group (of_node n ∷ [])) c) e ∙ append-nil (read_tree R t c false))

  terms-say : (ts : Simples) (c : Context) → terms_wrapped R (terms_of ts) c ≡ read_trees R ts c false
  unfolding node_of
  terms-say none c = refl
  terms-say (more t ts) c =
      let parts : List TermPart = parts_of_child (node_of t) (nodes_below t) in
      flat_map-append (term_wrapped R c) parts (terms_of ts)
      ∙ (ap (λ x. x ++ terms_wrapped R (terms_of ts) c) (child-says t c)
      ∙ ap (λ x. read_tree R t c false ++ x) (terms-say ts c))

  module _ (addr : ℕ → R.Wrap) where
    terms-append : (ps qs : List TermPart) → TermsKeep R addr ps → TermsKeep R addr qs
        → TermsKeep R addr (ps ++ qs)
    terms-append [] qs g h = h
    terms-append (p ∷ ps) qs g h = (g.0, terms-append ps qs g.1 h)

    nodes-terms : (nodes : List Node) → NodesKeep R addr nodes → TermsKeep R addr (map of_node nodes)
    nodes-terms [] h = tt
    nodes-terms (n ∷ nodes) h = (h.0, nodes-terms nodes h.1)

    child-terms : (t : Simple) → KeptTree R addr t → TermsKeep R addr (parts_of_child (node_of t) (nodes_below t))
    unfolding node_of
    child-terms (text s) k = (k, tt)
    child-terms (image address attributes) k = (k, tt)
    child-terms (formula tex is_alone attributes) k = (k, tt)
    child-terms (embedded id address title attributes anchors) k = (k, tt)
    child-terms (anchor id) k = (k, tt)
    child-terms (element id r facts attributes content) k =
        either (is_group (element id r facts attributes content))
      where
        either : (b : Bool) → TermsKeep R addr (cond b (gap ∷ map of_node (nodes_of content) ++ gap ∷ [])
            (of_node (node_of (element id r facts attributes content)) ∷ []))
        either true = (
          tt,
          terms-append (map of_node (nodes_of content)) (gap ∷ [])
              (nodes-terms (nodes_of content) (kept-nodes R addr content k.1)) (tt, tt),
        )
        either false = (k.0, tt)

    pub kept-terms : (ts : Simples) → KeptTrees R addr ts → TermsKeep R addr (terms_of ts)
    unfolding node_of
    kept-terms none k = tt
    kept-terms (more t ts) k =
        terms-append (parts_of_child (node_of t) (nodes_below t)) (terms_of ts) (child-terms t k.0) (kept-terms ts k.1)

    -- ---- all of it

    abbrev mutual
      -- each link has its address
      pub HaveAddress : Simple → Type 0
      HaveAddress (text s) = Unit {0}
      HaveAddress (image address attributes) = Unit {0}
      HaveAddress (formula tex is_alone attributes) = Unit {0}
      HaveAddress (embedded id address title attributes anchors) = R.as_link address ≡ addr id
      HaveAddress (anchor id) = Unit {0}
      HaveAddress (element id r facts attributes content) =
          (roles.is_link r ≡ true → HasAddress R addr id attributes) × HaveAddresses content

      pub HaveAddresses : Simples → Type 0
      HaveAddresses none = Unit {0}
      HaveAddresses (more tree trees) = HaveAddress tree × HaveAddresses trees

    flow-kept : (content : Simples) → KeptTrees R addr content → (c : Context) → Agree R addr c
        → Keep R addr c.is_flat (flow_all (nodes_of content) c) (read_trees R content (shallow c) false)
    flow-kept content k c a =
        keep-same R addr c.is_flat (flow_all (nodes_of content) c) (nodes_wrapped R (nodes_of content) (shallow c))
        (read_trees R content (shallow c) false) (nodes-all R content (shallow c))
        (flow-keeps R addr (nodes_of content) (kept-nodes R addr content k) c a)

    mutual
      unfolding node_of

      tree-kept : (here : Bool) (t : Simple) → IsFit R here t → HaveAddress t → KeptTree R addr t
      tree-kept here (text s) u d = record {
        whole = λ c a o. keep-run R addr c.is_flat s c.around c.is_code u a;
        content = λ c a. keep-nil R addr c.is_flat;
      }
      tree-kept here (image address attributes) u d = record {
        whole = λ c a o. image-keeps R addr address attributes c a u;
        content = λ c a. keep-nil R addr c.is_flat;
      }
      tree-kept here (formula tex is_alone attributes) u d = record {
        whole = λ c a o. formula-keeps R addr tex is_alone c a u;
        content = λ c a. keep-nil R addr c.is_flat;
      }
      tree-kept here (embedded id address title attributes anchors) u d = record {
        whole = λ c a o. embed-keeps R addr id address title anchors c a u d;
        content = λ c a. keep-nil R addr c.is_flat;
      }
      tree-kept here (anchor id) u d = record {
        whole = λ c a o. record { linked = (tt, tt); is = append-nil (R.mark id) };
        content = λ c a. keep-nil R addr c.is_flat;
      }
      tree-kept here (element id r facts attributes content) u d =
          let inside : Bool = holds_anchors here r facts content in
          let k : KeptTrees R addr content = trees-kept inside content u.1 d.1 in (
            record {
              whole = λ c a o. element-keeps R addr id facts attributes content (nodes_of content)
                  (rows_of_table content) (pieces_of content) (terms_of content) (kept-nodes R addr content k)
                  (nodes-all R content)
                  (all-texts-show content (all-fit-sound R inside content u.1) false).utf8 c a (kept-terms content k)
                  (terms-say content (shallow c)) r d.0
                  (λ e p. table-keeps R addr c a p content k (nowhere R here r facts content e u.1))
                  (λ e p. rich-table-keeps R addr c a (elements-unflat c p) content attributes k
                  (nowhere R here r facts content e u.1));
              content = λ c a. flow-kept content k c a;
            },
            k,
          )

      pub trees-kept : (here : Bool) (ts : Simples) → AreFit R here ts → HaveAddresses ts → KeptTrees R addr ts
      trees-kept here none u d = tt
      trees-kept here (more t ts) u d = (tree-kept here t u.0 d.0, trees-kept here ts u.1 d.1)

    -- ---- blocks and the document

    -- what a node that isn't in one line holds is in its blocks
    pub content-keeps : (here : Bool) (ts : Simples) → AreFit R here ts → HaveAddresses ts → (c : Context)
        → Agree R addr c → c.is_flat ≡ false
        → read_blocks R (blocks_of false (flow_all (nodes_of ts) c)) ≡ read_trees R ts (shallow c) false
    content-keeps here ts u d c a e =
        blocks-keep R addr false (flow_all (nodes_of ts) c) (read_trees R ts (shallow c) false)
        (subst (λ (b : Bool). Keep R addr b (flow_all (nodes_of ts) c) (read_trees R ts (shallow c) false)) e
        (flow-kept ts (trees-kept here ts u d) c a))

    pub document-keeps : (is_rich : Bool) (ts : Simples) → AreFit R true ts → HaveAddresses ts
        → read_blocks R (document_of is_rich ts) ≡ read_trees R ts (bare_in is_rich) false
    document-keeps is_rich ts u d = content-keeps true ts u d (bare_in is_rich) tt refl
