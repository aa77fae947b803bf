-- The nodes of simpler trees are normal.
use Rattle.std.proofs.Common.{◌≡◌, ℕ, Bool, true, false, cond, not, ◌&&◌, List, [], ◌∷◌, ◌++◌, refl, sym, ◌∙◌, map}
use Rattle.std.proofs.Common.{filter, subst}
use Rattle.std.specs.Prelude.{is_some}
use Rattle.htmd_lexical.specs.AttributePairs.{AttributePair}
use Rattle.htmd_shown.specs.declared.facts.Facts.{Facts}
use Rattle.htmd_shown.specs.declared.role.Role.{Role}
use Rattle.htmd_shown.specs.declared.role.Role.TheVariants as role
use Rattle.htmd_shown.specs.Kinds.{has}
use Rattle.htmd_shown.specs.Roles as roles
use Rattle.htmd_shown.specs.SimpleTrees.{Simple, text, image, formula, embedded, anchor, element, Simples, none, more}
use Rattle.htmd_document.specs.NormalInlines.{anchors_stand_well}
use Rattle.htmd_flow.specs.Contexts.{Context}
use Rattle.htmd_flow.specs.declared.table_form.TablePart.{TablePart}
use Rattle.htmd_flow.specs.Flows.{Node, Row, gap, of_node, is_cell, flow_all, node_of, nodes_of, nodes_below}
use Rattle.htmd_flow.specs.Flows.{parts_of_child, terms_of, no_part, part_of, leads_to, row_with, rows_among, rows_at}
use Rattle.htmd_flow.specs.Flows.{rows_of_table, pieces_of, blocks_of, of_caption, of_row, pieces_at}
use Rattle.htmd_flow.specs.TableElements.{is_paragraph_at_most, inlines_in}
use Rattle.htmd_document.specs.TightItems.{is_filled}
use Rattle.htmd_shown.specs.Showings.{show}
use Rattle.htmd_law_documents.specs.SimpleForms.{IsSound, AreSound}
use Rattle.htmd_law_documents.proofs.NormalFilledLemmas.{parts-filled, parts-stand}
use Rattle.htmd_law_documents.proofs.NormalSeenLemmas.{GivesSeen}
use Rattle.htmd_law_documents.proofs.NormalSeenTreeLemmas.{content-seen}
use Rattle.htmd_law_documents.proofs.NormalRichTableLemmas.{FinePieces, pieces-append}
use Rattle.htmd_flow.specs.Parts.{Part}
use Rattle.htmd_flow.specs.Terms.{is_group}
use Rattle.htmd_law_documents.proofs.NormalTextLemmas.{and-false, false-true}
use Rattle.htmd_law_documents.proofs.NormalPartsLemmas.{fine-nil, fine-as}
use Rattle.htmd_law_documents.proofs.NormalValueLemmas.{clean-run}
use Rattle.htmd_law_documents.proofs.NormalNodesLemmas.{bound, FitsIn, Gives, FineNode, FineNodes, flow-fine}
use Rattle.htmd_law_documents.proofs.NormalTermLemmas.{FineTerms, terms-append, nodes-terms}
use Rattle.htmd_law_documents.proofs.NormalTableLemmas.{RowNodes, rows-append}
use Rattle.htmd_law_documents.proofs.NormalElementLemmas.{run-fine, image-fine, formula-fine, embed-fine, element-fine}
use Rattle.htmd_law_documents.proofs.NormalTreeLemmas.{IsFine, AreFine, IsLed, IsLedApart, by-content, texts-fine}
use Rattle.htmd_law_documents.proofs.NormalTreeLemmas.{leaf-good, led-waits, apart-good}

-- ---- what is in an element as blocks

-- what shows gives blocks
abbrev ShowsBlocks : Simples → Type 0
ShowsBlocks content = show false content ≡ true → (c : Context) → c.is_rich ≡ true → FitsIn c
    → c.is_flat ≡ false
    → is_filled (blocks_of false (flow_all (nodes_of content) c)) ≡ true

-- a paragraph alone isn't of anchors alone
abbrev StandsWell : Simples → Type 0
StandsWell content = (c : Context) → c.is_rich ≡ true → FitsIn c → c.is_flat ≡ false
    → is_paragraph_at_most (blocks_of false (flow_all (nodes_of content) c)) ≡ true
    → anchors_stand_well (inlines_in (blocks_of false (flow_all (nodes_of content) c))) ≡ true

content-shown : (content : Simples) → GivesSeen false (show false content) (flow_all (nodes_of content))
    → ShowsBlocks content
content-shown content h e c i f b =
    parts-filled false (show false content) (flow_all (nodes_of content) c) (h c (record { rich = i; line = b })) ∙ e

content-stands : (content : Simples) → GivesSeen false (show false content) (flow_all (nodes_of content))
    → Gives (flow_all (nodes_of content)) → StandsWell content
content-stands content h g c i f b p =
    let ps : List Part = flow_all (nodes_of content) c in
    parts-stand (bound c) (show false content) ps (fine-as c.is_flat false (bound c) ps b (g c f))
    (h c (record { rich = i; line = b })) p

-- ---- rows and terms

row-pieces : (rows : List Row) → RowNodes rows → FinePieces (map of_row rows)
row-pieces [] h = tt
row-pieces (r ∷ rows) h = (h.0, row-pieces rows h.1)

either-pieces : (b : Bool) (n : Node) (rows : List Row) → FineNode n → RowNodes rows
    → FinePieces (cond b (of_caption n ∷ []) (map of_row rows))
either-pieces true n rows k h = (k, tt)
either-pieces false n rows k h = row-pieces rows h

cells-fine : (nodes : List Node) → FineNodes nodes → FineNodes (filter is_cell nodes)
cells-fine [] h = tt
cells-fine (n ∷ nodes) h = either (is_cell n) (cells-fine nodes h.1)
  where
    either : (b : Bool) → FineNodes (filter is_cell nodes)
        → FineNodes (cond b (n ∷ filter is_cell nodes) (filter is_cell nodes))
    either true g = (h.0, g)
    either false g = g

either-rows : (a b : Bool) (xs ys : List Row) → RowNodes xs → RowNodes ys → RowNodes (cond a xs (cond b ys []))
either-rows true b xs ys g h = g
either-rows false true xs ys g h = h
either-rows false false xs ys g h = tt

-- a plain element is none
plain-rows : (p : TablePart) (xs ys : List Row) → RowNodes (cond false xs (cond (not (is_some p.id) && false) ys []))
plain-rows p xs ys =
    subst (λ (b : Bool). RowNodes (cond false xs (cond b ys []))) (sym (and-false (not (is_some p.id)) refl)) tt

-- a group of terms, or a node
grouped : (nodes : List Node) (n : Node) → FineNodes nodes → FineNode n → (b : Bool)
    → FineTerms (cond b (gap ∷ map of_node nodes ++ gap ∷ []) (of_node n ∷ []))
grouped nodes n all f true =
    (tt, terms-append (map of_node nodes) (gap ∷ []) (nodes-terms nodes all) (tt, tt))
grouped nodes n all f false = (f, tt)

module _ (id : ℕ) (r : Role) (facts : Facts) (attributes : List AttributePair) (content : Simples)
    (plain : r ≡ role.Plain) where
  alone-term : FineNode (node_of (element id r facts attributes content))
      → FineTerms (parts_of_child (node_of (element id r facts attributes content)) (nodes_of content))
  unfolding node_of
  alone-term k =
      subst (λ (x : Role). FineNode (node_of (element id x facts attributes content))
      → FineTerms (parts_of_child (node_of (element id x facts attributes content)) (nodes_of content))) (sym plain)
      (λ m. (m, tt)) k

  plain-node : Gives (flow_all (nodes_of content))
      → GivesSeen false (show false content) (flow_all (nodes_of content))
      → FineNode (node_of (element id r facts attributes content))
  unfolding node_of
  plain-node g seen =
      subst (λ (x : Role). FineNode (node_of (element id x facts attributes content))) (sym plain)
      (record { whole = g; content = g; shown = content-shown content seen; stands = content-stands content seen g })

no-rows : (p : TablePart) (id : ℕ) (r : Role) (facts : Facts) (attributes : List AttributePair) (content : Simples)
    → r ≡ role.Plain → RowNodes (rows_at p (element id r facts attributes content))
unfolding node_of
no-rows p id r facts attributes content e =
    subst (λ (x : Role). RowNodes (rows_at p (element id x facts attributes content))) (sym e)
    (plain-rows p (row_with p (nodes_of content))
    (rows_among (part_of (element id role.Plain facts attributes content)) content))

-- ---- nodes

mutual
  unfolding node_of

  pub node-fine : (t : Simple) → IsFine t → IsSound t → FineNode (node_of t)
  node-fine (text s) h u = record {
    whole = run-fine s (clean-run s h);
    content = λ c f. fine-nil c.is_flat (bound c);
    shown = λ e c i f b. false-true e;
    stands = λ c i f b e. refl;
  }
  node-fine (image o attributes) h u = record {
    whole = image-fine o attributes h.1 h.0;
    content = λ c f. fine-nil c.is_flat (bound c);
    shown = λ e c i f b. false-true e;
    stands = λ c i f b e. refl;
  }
  node-fine (formula tex is_alone attributes) h u = record {
    whole = formula-fine tex is_alone h.0;
    content = λ c f. fine-nil c.is_flat (bound c);
    shown = λ e c i f b. false-true e;
    stands = λ c i f b e. refl;
  }
  node-fine (embedded id address title attributes ids) h u = record {
    whole = embed-fine id address title ids h.0 h.1 h.2 h.3;
    content = λ c f. fine-nil c.is_flat (bound c);
    shown = λ e c i f b. false-true e;
    stands = λ c i f b e. refl;
  }
  node-fine (anchor id) h u = absurd h
  node-fine (element id r facts attributes content) h u =
      by-content (FineNode (node_of (element id r facts attributes content))) r content
      (λ k. record {
        whole = λ c f. element-fine id facts attributes content (nodes_of content) (rows_of_table content)
            (pieces_of content) (terms_of content) h.0 (texts-fine content k) (nodes-fine content k u.1)
            (rows-fine no_part content k u.1) (terms-fine content k u.1) (pieces-fine content k u.1) c f r h.1;
        content = flow-fine (nodes_of content) (nodes-fine content k u.1);
        shown = content-shown content (content-seen r content h.2 u.1 false);
        stands = content-stands content (content-seen r content h.2 u.1 false)
            (flow-fine (nodes_of content) (nodes-fine content k u.1));
      })
      (λ e k. plain-node id r facts attributes content e (led-fine content k u.1)
      (content-seen r content h.2 u.1 false))
      (λ e k. plain-node id r facts attributes content e (apart-fine content k u.1)
      (content-seen r content h.2 u.1 false))
      h.2

  pub nodes-fine : (ts : Simples) → AreFine ts → AreSound ts → FineNodes (nodes_of ts)
  nodes-fine none h u = tt
  nodes-fine (more t ts) h u = (node-fine t h.0 u.0, nodes-fine ts h.1 u.1)

  led-fine : (ts : Simples) → IsLed ts → AreSound ts → Gives (flow_all (nodes_of ts))
  led-fine none h u c f = absurd h
  led-fine (more (anchor id) ts) h u c f = (h.0, tt, led-waits ts h.1 c f)
  led-fine (more (text s) ts) h u c f = leaf-good (text s) ts (node-fine (text s) h.0 u.0) h.1 h.2 c f
  led-fine (more (image o attributes) ts) h u c f =
      leaf-good (image o attributes) ts (node-fine (image o attributes) h.0 u.0) h.1 h.2 c f
  led-fine (more (formula tex is_alone attributes) ts) h u c f =
      leaf-good (formula tex is_alone attributes) ts (node-fine (formula tex is_alone attributes) h.0 u.0) h.1 h.2 c f
  led-fine (more (embedded id address title attributes ids) ts) h u c f =
      leaf-good (embedded id address title attributes ids) ts
      (node-fine (embedded id address title attributes ids) h.0 u.0) h.1 h.2 c f
  led-fine (more (element id r facts attributes content) ts) h u c f =
      leaf-good (element id r facts attributes content) ts
      (node-fine (element id r facts attributes content) h.0 u.0) h.1 h.2 c f

  apart-fine : (ts : Simples) → IsLedApart ts → AreSound ts → Gives (flow_all (nodes_of ts))
  apart-fine (more (element id role.Anchors facts attributes inner) (more t ts)) h u c f =
      apart-good t ts inner (node-fine t h.1 u.1.0) h.2 h.3 h.0 c f
  apart-fine ts h u c f = absurd h

  -- the rows among nodes of a table
  rows-fine : (p : TablePart) (ts : Simples) → AreFine ts → AreSound ts → RowNodes (rows_among p ts)
  rows-fine p none h u = tt
  rows-fine p (more t ts) h u =
      rows-append (rows_at p t) (rows_among p ts) (row-fine p t h.0 u.0) (rows-fine p ts h.1 u.1)

  row-fine : (p : TablePart) (t : Simple) → IsFine t → IsSound t → RowNodes (rows_at p t)
  row-fine p (text s) h u = tt
  row-fine p (image o attributes) h u = tt
  row-fine p (formula tex is_alone attributes) h u = tt
  row-fine p (embedded id address title attributes ids) h u = tt
  row-fine p (anchor id) h u = tt
  row-fine p (element id r facts attributes content) h u =
      let t : Simple = element id r facts attributes content in
      by-content (RowNodes (rows_at p t)) r content
      (λ k. either-rows (has roles.is_row t) (leads_to p t) (row_with p (nodes_of content))
      (rows_among (part_of t) content)
      (cells-fine (nodes_of content) (nodes-fine content k u.1), tt) (rows-fine (part_of t) content k u.1))
      (λ e k. no-rows p id r facts attributes content e) (λ e k. no-rows p id r facts attributes content e) h.2

  -- the parts of a list of terms
  terms-fine : (ts : Simples) → AreFine ts → AreSound ts → FineTerms (terms_of ts)
  terms-fine none h u = tt
  terms-fine (more t ts) h u =
      terms-append (parts_of_child (node_of t) (nodes_below t)) (terms_of ts)
      (term-fine t (node-fine t h.0 u.0) h.0 u.0)
      (terms-fine ts h.1 u.1)

  term-fine : (t : Simple) → FineNode (node_of t) → IsFine t → IsSound t
      → FineTerms (parts_of_child (node_of t) (nodes_below t))
  term-fine (text s) n h u = (n, tt)
  term-fine (image o attributes) n h u = (n, tt)
  term-fine (formula tex is_alone attributes) n h u = (n, tt)
  term-fine (embedded id address title attributes ids) n h u = (n, tt)
  term-fine (anchor id) n h u = absurd h
  term-fine (element id r facts attributes content) n h u =
      let t : Simple = element id r facts attributes content in
      by-content (FineTerms (parts_of_child (node_of t) (nodes_of content))) r content
      (λ k. grouped (nodes_of content) (node_of t) (nodes-fine content k u.1) n (is_group t))
      (λ e k. alone-term id r facts attributes content e n) (λ e k. alone-term id r facts attributes content e n) h.2

  -- captions and rows of a table
  pieces-fine : (ts : Simples) → AreFine ts → AreSound ts → FinePieces (pieces_of ts)
  pieces-fine none h u = tt
  pieces-fine (more t ts) h u =
      pieces-append (pieces_at (node_of t) (rows_at no_part t)) (pieces_of ts)
      (either-pieces (has roles.is_caption (node_of t).tree) (node_of t) (rows_at no_part t) (node-fine t h.0 u.0)
      (row-fine no_part t h.0 u.0))
      (pieces-fine ts h.1 u.1)
