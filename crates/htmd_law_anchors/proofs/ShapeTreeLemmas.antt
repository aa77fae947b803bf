-- Trees of the same kinds give parts of the same kinds.
use Rattle.std.proofs.Common.{◌≡◌, ℕ, zero, suc, Bool, true, false, cond, not, ◌&&◌, ◌||◌, List, [], ◌∷◌, ◌++◌, map, filter}
use Rattle.std.proofs.Common.{refl, sym, ap, ◌∙◌, subst, Option, Some, None}
use Rattle.std.specs.Prelude.{is_some}
use Rattle.std.specs.List.{list_any}
use Rattle.htmd_lexical.specs.AttributePairs.{AttributePair}
use Rattle.htmd_lexical.specs.Characters.{space}
use Rattle.htmd_document.specs.declared.document.BlockElement.TheVariants as name
use Rattle.htmd_document.specs.Formats.{Format, Abbreviation, of_format, of_element}
use Rattle.htmd_shown.specs.declared.facts.Facts.{Facts}
use Rattle.htmd_shown.specs.declared.role.Role.{Role}
use Rattle.htmd_shown.specs.declared.role.Role.TheVariants as role
use Rattle.htmd_shown.specs.Kinds.{has, content_of, is_blank}
use Rattle.htmd_shown.specs.Attributes.{title_of}
use Rattle.htmd_shown.specs.Roles as roles
use Rattle.htmd_shown.specs.Showings.{show_usual_sign}
use Rattle.htmd_shown.specs.SimpleTrees.{Simple, text, image, formula, embedded, anchor, element, Simples, none, more}
use Rattle.htmd_flow.specs.Contexts.{Context, has_elements, inside_title}
use Rattle.htmd_flow.specs.Contexts.{is_lined, is_enough, is_link, is_linked_to_part, with_around, inside_format}
use Rattle.htmd_flow.specs.Contexts.{inside_link, unlinked, beside_code, in_code, in_one_line, deeper, run_in, apart}
use Rattle.htmd_flow.specs.Flows.{Node, Row, TermPart, gap, of_node, is_cell, is_spaces, node_of}
use Rattle.htmd_flow.specs.Flows.{nodes_of, nodes_below, terms_of, rows_among, rows_at, row_with, no_part, part_of}
use Rattle.htmd_flow.specs.Flows.{parts_of_child, flow_all, box_parts, heading_of, around_heading}
use Rattle.htmd_flow.specs.Flows.{quote_of, blocks_of, line_of, start_of, is_grid_of, rows_of_table, linked_by}
use Rattle.htmd_flow.specs.Flows.{around_title, captioned, described_parts, element_part, figure_parts, open_attribute}
use Rattle.htmd_flow.specs.Flows.{pieces_of, rich_table_parts, table_parts, term_parts, titled}
use Rattle.htmd_flow.specs.Levels.{list_of}
use Rattle.htmd_flow.specs.Parts.{Part, formatted, linked, break}
use Rattle.htmd_flow.specs.Terms.{is_term_or_meaning, is_group}
use Rattle.htmd_flow.specs.declared.table_form.TablePart.{TablePart}
use Rattle.htmd_law_documents.proofs.ElementLemmas.{false-true, true-false}
use Rattle.htmd_law_anchors.proofs.LinkAroundLemmas.{node-tree}
use Rattle.htmd_law_anchors.proofs.LinkNodesLemmas.{is_inner, has-more}
use Rattle.htmd_law_anchors.proofs.ShapeLayoutLemmas.{All2, all-map, Kin0, Kin1, Kin2, layout-same}
use Rattle.htmd_law_anchors.proofs.ShapeNodesLemmas.{Same, same-itself, same-append, same-apart, same-cond}
use Rattle.htmd_law_anchors.proofs.ShapeNodesLemmas.{same-plain, same-line, Twin, twin-deeper, lined-same, not-flat, GivesSame, SameNode}
use Rattle.htmd_law_anchors.proofs.ShapeNodesLemmas.{SameNodes, list-parts-same, flow-same, SameTerms, terms-append}
use Rattle.htmd_law_anchors.proofs.ShapeNodesLemmas.{nodes-terms, term-parts-same, heading-same, quote-same}
use Rattle.htmd_law_anchors.proofs.ShapeTableLemmas.{SameCells, SameRows, rows-append, table-parts-same, grid-same}

-- ---- trees

pub record SameTree (t u : Simple) : Type 0 where
  pub node : SameNode (node_of t) (node_of u)
  pub terms : SameTerms (parts_of_child (node_of t) (nodes_below t)) (parts_of_child (node_of u) (nodes_below u))
  pub word : is_term_or_meaning t ≡ is_term_or_meaning u
  pub kin : Kin2 t u
  pub rows : (p : TablePart) → SameRows (rows_at p t) (rows_at p u)

pub record SameTrees (ts us : Simples) : Type 0 where
  pub nodes : SameNodes (nodes_of ts) (nodes_of us)
  pub terms : SameTerms (terms_of ts) (terms_of us)
  pub words : list_any is_term_or_meaning (list_of ts) ≡ list_any is_term_or_meaning (list_of us)
  pub kins : All2 Kin2 (list_of ts) (list_of us)
  pub rows : (p : TablePart) → SameRows (rows_among p ts) (rows_among p us)

pub none-same : SameTrees none none
unfolding node_of
none-same = record { nodes = tt; terms = tt; words = refl; kins = tt; rows = λ p. tt }

pub more-same : (t u : Simple) (ts us : Simples) → SameTree t u → SameTrees ts us
    → SameTrees (more t ts) (more u us)
unfolding node_of
more-same t u ts us h g = record {
  nodes = (h.node, g.nodes);
  terms = terms-append (parts_of_child (node_of t) (nodes_below t)) (parts_of_child (node_of u) (nodes_below u))
      (terms_of ts) (terms_of us) h.terms g.terms;
  words = ap (λ b. b || list_any is_term_or_meaning (list_of ts)) h.word
      ∙ ap (λ b. is_term_or_meaning u || b) g.words;
  kins = (h.kin, g.kins);
  rows = λ p. rows-append (rows_at p t) (rows_at p u) (rows_among p ts) (rows_among p us) (h.rows p) (g.rows p);
}

-- a table of these is one of rows and columns if the other is
pub grids-same : (ts us : Simples) → SameTrees ts us → is_grid_of ts ≡ is_grid_of us
grids-same ts us h =
    grid-same (list_of ts) (list_of us) (rows_of_table ts) (rows_of_table us)
    (layout-same (list_of ts) (list_of us) h.kins) (h.rows no_part)

-- ---- contexts

-- as much is one line, as many lists and quotes are around, and the document is as rich, as before
record Kept (c d : Context) : Type 0 where
  flat : d.is_flat ≡ c.is_flat
  nested : d.nested ≡ c.nested
  rich : d.is_rich ≡ c.is_rich

kept-either : (b : Bool) (c x y : Context) → Kept c x → Kept c y → Kept c (cond b x y)
kept-either true c x y g h = g
kept-either false c x y g h = h

kept-here : (c : Context) → Kept c c
kept-here c = record { flat = refl; nested = refl; rich = refl }

kept-format : (f : Format) (c : Context) → Kept c (inside_format f c)
kept-format f c =
    kept-either (is_enough f c.around) c c (with_around c (formatted f)) (kept-here c)
    (record { flat = refl; nested = refl; rich = refl })

kept-link : (id : ℕ) (s : List ℕ) (title : Option (List ℕ)) (c : Context) → Kept c (inside_link id s title c)
kept-link id s title c =
    kept-either (list_any is_link c.around) c c (with_around c (linked id s title)) (kept-here c)
    (record { flat = refl; nested = refl; rich = refl })

kept-near : (pres : ℕ) (attributes : List AttributePair) (c : Context) → Kept c (beside_code pres attributes c)
kept-near zero attributes c = kept-here c
kept-near (suc zero) attributes c = record { flat = refl; nested = refl; rich = refl }
kept-near (suc (suc n)) attributes c = record { flat = refl; nested = refl; rich = refl }

kept-abbreviation : (title : Option (List ℕ)) (c : Context) → Kept c (inside_title title c)
kept-abbreviation None c = kept-here c
kept-abbreviation (Some s) c = kept-format (Abbreviation s) c

kept-title : (ts : Simples) (c : Context) → Kept c (around_title ts c)
kept-title ts c =
    kept-either (has_elements c && is_linked_to_part c && show_usual_sign ts) c (unlinked c) c
    (record { flat = refl; nested = refl; rich = refl }) (kept-here c)

kept-twin : (c d x y : Context) → Twin c d → Kept c x → Kept d y → Twin x y
kept-twin c d x y t k l = record {
  flat = k.flat ∙ (t.flat ∙ sym l.flat);
  nested = k.nested ∙ (t.nested ∙ sym l.nested);
  first = k.rich ∙ t.first;
  second = l.rich ∙ t.second;
}

-- the same in other contexts
moved : (f g : Context → List Part) → GivesSame f g → (c d x y : Context) → Twin c d → Kept c x → Kept d y
    → Same c.is_flat (f x) (g y)
moved f g h c d x y t k l = subst (λ (b : Bool). Same b (f x) (g y)) k.flat (h x y (kept-twin c d x y t k l))

heading-nested : (facts : Facts) (c : Context) → (around_heading facts c).nested ≡ c.nested
heading-nested facts c = either (facts.shows_sign && is_linked_to_part c)
  where
    either : (b : Bool) → (cond b (unlinked c) c).nested ≡ c.nested
    either true = refl
    either false = refl

heading-rich : (facts : Facts) (c : Context) → (around_heading facts c).is_rich ≡ c.is_rich
heading-rich facts c = either (facts.shows_sign && is_linked_to_part c)
  where
    either : (b : Bool) → (cond b (unlinked c) c).is_rich ≡ c.is_rich
    either true = refl
    either false = refl

pub run-same : (flat : Bool) (s : List ℕ) (c d : Context) → Same flat (run_in c s ∷ []) (run_in d s ∷ [])
run-same true s c d = refl
run-same false s c d = λ x. refl

-- ---- elements

module _ (id : ℕ) (facts : Facts) (attributes : List AttributePair) (ts us : Simples) (h : SameTrees ts us) where
  flows : GivesSame (flow_all (nodes_of ts)) (flow_all (nodes_of us))
  flows = flow-same (nodes_of ts) (nodes_of us) h.nodes

  near : GivesSame (λ c. apart (flow_all (nodes_of ts) (beside_code facts.pres attributes c)))
      (λ c. apart (flow_all (nodes_of us) (beside_code facts.pres attributes c)))
  near c d t =
      same-apart c.is_flat (flow_all (nodes_of ts) (beside_code facts.pres attributes c))
      (flow_all (nodes_of us) (beside_code facts.pres attributes d))
      (moved (flow_all (nodes_of ts)) (flow_all (nodes_of us)) flows c d (beside_code facts.pres attributes c)
      (beside_code facts.pres attributes d) t (kept-near facts.pres attributes c) (kept-near facts.pres attributes d))

  titles : GivesSame (λ c. apart (flow_all (nodes_of ts) (around_title ts c)))
      (λ c. apart (flow_all (nodes_of us) (around_title us c)))
  titles c d t =
      same-apart c.is_flat (flow_all (nodes_of ts) (around_title ts c)) (flow_all (nodes_of us) (around_title us d))
      (moved (flow_all (nodes_of ts)) (flow_all (nodes_of us)) flows c d (around_title ts c) (around_title us d) t
      (kept-title ts c) (kept-title us d))

  figures : GivesSame (figure_parts (nodes_of ts)) (figure_parts (nodes_of us))
  figures c d t =
      same-apart c.is_flat (cond (has_elements c) (captioned (nodes_of ts) c) (flow_all (nodes_of ts) c))
      (cond (has_elements d) (captioned (nodes_of us) d) (flow_all (nodes_of us) d))
      (same-plain c d t (captioned (nodes_of ts) c) (flow_all (nodes_of ts) c) (captioned (nodes_of us) d)
      (flow_all (nodes_of us) d) (flows c d t))

  abbrev old : Role → Simple
  old r = element id r facts attributes ts

  abbrev new : Role → Simple
  new r = element id r facts attributes us

  abbrev details : List Node → Context → List Part
  details nodes c =
      element_part name.Details (open_attribute attributes) (blocks_of false (titled name.Summary nodes c))

  element-whole : (r : Role) → roles.is_verbatim r ≡ false
      → GivesSame ((node_of (old r)).whole) ((node_of (new r)).whole)
  unfolding node_of
  element-whole (role.Format f) v c d t =
      moved (flow_all (nodes_of ts)) (flow_all (nodes_of us)) flows c d (inside_format (of_format f) c)
      (inside_format (of_format f) d) t (kept-format (of_format f) c) (kept-format (of_format f) d)
  element-whole (role.Element f) v c d t =
      moved (flow_all (nodes_of ts)) (flow_all (nodes_of us)) flows c d (inside_format (of_element f) c)
      (inside_format (of_element f) d) t (kept-format (of_element f) c) (kept-format (of_element f) d)
  element-whole role.Code v c d t =
      flows (in_code c) (in_code d) (record { flat = t.flat; nested = t.nested; first = t.first; second = t.second })
  element-whole role.Typed v c d t =
      flows (in_code c) (in_code d) (record { flat = t.flat; nested = t.nested; first = t.first; second = t.second })
  element-whole role.Link v c d t =
      moved (flow_all (nodes_of ts)) (flow_all (nodes_of us)) flows c d (linked_by id attributes c)
      (linked_by id attributes d) t (kept-link id _ _ c) (kept-link id _ _ d)
  element-whole role.Unlinked v c d t =
      flows (unlinked c) (unlinked d) (record { flat = t.flat; nested = t.nested; first = t.first; second = t.second })
  element-whole role.Target v c d t = flows c d t
  element-whole role.Plain v c d t = flows c d t
  element-whole role.Apart v c d t =
      same-append c.is_flat (run_in c (space ∷ []) ∷ flow_all (nodes_of ts) c)
      (run_in d (space ∷ []) ∷ flow_all (nodes_of us) d) (run_in c (space ∷ []) ∷ [])
      (run_in d (space ∷ []) ∷ [])
      (same-append c.is_flat (run_in c (space ∷ []) ∷ []) (run_in d (space ∷ []) ∷ [])
      (flow_all (nodes_of ts) c)
      (flow_all (nodes_of us) d) (run-same c.is_flat (space ∷ []) c d) (flows c d t))
      (run-same c.is_flat (space ∷ []) c d)
  element-whole role.LineBreak v c d t = same-itself c.is_flat (break ∷ [])
  element-whole role.Input v c d t =
      same-append c.is_flat (box_parts attributes) (box_parts attributes) (flow_all (nodes_of ts) c)
      (flow_all (nodes_of us) d) (same-itself c.is_flat (box_parts attributes)) (flows c d t)
  element-whole role.Anchors v c d t =
      same-cond c.is_flat c.is_flat d.is_flat (flow_all (nodes_of ts) c) (apart (flow_all (nodes_of ts) c))
      (flow_all (nodes_of us) d) (apart (flow_all (nodes_of us) d)) t.flat (λ e. flows c d t)
      (λ e. same-apart c.is_flat (flow_all (nodes_of ts) c) (flow_all (nodes_of us) d) (flows c d t))
  element-whole (role.Heading level) v c d t =
      let ps : List Part = flow_all (nodes_of ts) (in_one_line (around_heading facts c)) in
      let qs : List Part = flow_all (nodes_of us) (in_one_line (around_heading facts d)) in
      same-apart c.is_flat (cond c.is_flat (flow_all (nodes_of ts) c) (heading_of level (line_of ps)))
      (cond d.is_flat (flow_all (nodes_of us) d) (heading_of level (line_of qs)))
      (same-cond c.is_flat c.is_flat d.is_flat (flow_all (nodes_of ts) c) (heading_of level (line_of ps))
      (flow_all (nodes_of us) d) (heading_of level (line_of qs)) t.flat (λ e. flows c d t)
      (λ e. same-line c.is_flat false (heading_of level (line_of ps)) (heading_of level (line_of qs)) e
      (heading-same level ps qs
      (flows (in_one_line (around_heading facts c)) (in_one_line (around_heading facts d))
      (record {
        flat = refl;
        nested = heading-nested facts c ∙ (t.nested ∙ sym (heading-nested facts d));
        first = heading-rich facts c ∙ t.first;
        second = heading-rich facts d ∙ t.second;
      })))))
  element-whole role.Preformatted v c d t = true-false v
  element-whole role.Verbatim v c d t = true-false v
  element-whole role.BlockQuote v c d t =
      let ps : List Part = flow_all (nodes_of ts) (deeper c) in
      let qs : List Part = flow_all (nodes_of us) (deeper d) in
      same-apart c.is_flat (cond (is_lined c) (flow_all (nodes_of ts) c) (quote_of (blocks_of false ps)))
      (cond (is_lined d) (flow_all (nodes_of us) d) (quote_of (blocks_of false qs)))
      (same-cond c.is_flat (is_lined c) (is_lined d) (flow_all (nodes_of ts) c) (quote_of (blocks_of false ps))
      (flow_all (nodes_of us) d) (quote_of (blocks_of false qs)) (lined-same c d t) (λ e. flows c d t)
      (λ e. same-line c.is_flat false (quote_of (blocks_of false ps)) (quote_of (blocks_of false qs)) (not-flat c e)
      (quote-same ps qs
      (same-line false c.is_flat ps qs (sym (not-flat c e)) (flows (deeper c) (deeper d) (twin-deeper c d t))))))
  element-whole role.ThematicBreak v c d t = same-itself c.is_flat _
  element-whole role.BulletList v c d t =
      list-parts-same None None (nodes_of ts) (nodes_of us) h.nodes c d t
  element-whole role.NumberedList v c d t =
      list-parts-same (Some (start_of attributes)) (Some (start_of attributes)) (nodes_of ts) (nodes_of us) h.nodes c d
      t
  element-whole role.Abbreviation v c d t =
      moved (flow_all (nodes_of ts)) (flow_all (nodes_of us)) flows c d (inside_title (title_of attributes) c)
      (inside_title (title_of attributes) d) t (kept-abbreviation (title_of attributes) c)
      (kept-abbreviation (title_of attributes) d)
  element-whole role.Terms v c d t =
      same-plain c d t (described_parts (terms_of ts) c) (term_parts (terms_of ts) (nodes_of ts) c)
      (described_parts (terms_of us) d) (term_parts (terms_of us) (nodes_of us) d)
      (term-parts-same (terms_of ts) (terms_of us) (nodes_of ts) (nodes_of us) h.terms h.nodes c d t)
  element-whole role.Table v c d t =
      same-plain c d t (rich_table_parts (list_of ts) attributes (pieces_of ts) (nodes_of ts) c)
      (table_parts (list_of ts) (nodes_of ts) (rows_of_table ts) c)
      (rich_table_parts (list_of us) attributes (pieces_of us) (nodes_of us) d)
      (table_parts (list_of us) (nodes_of us) (rows_of_table us) d)
      (table-parts-same c d t (nodes_of ts) (nodes_of us) (rows_of_table ts) (rows_of_table us) h.nodes
      (h.rows no_part) (list_of ts) (list_of us) (grids-same ts us h))
  element-whole role.Details v c d t =
      let e : List Part = details (nodes_of ts) c in
      let f : List Part = details (nodes_of us) d in
      same-apart c.is_flat (cond (has_elements c) e (flow_all (nodes_of ts) c))
      (cond (has_elements d) f (flow_all (nodes_of us) d))
      (same-plain c d t e (flow_all (nodes_of ts) c) f (flow_all (nodes_of us) d) (flows c d t))
  element-whole role.Term v c d t = titles c d t
  element-whole role.Caption v c d t = titles c d t
  element-whole role.FigureCaption v c d t = titles c d t
  element-whole role.Summary v c d t = titles c d t
  element-whole role.Division v c d t = near c d t
  element-whole role.Figure v c d t =
      moved (figure_parts (nodes_of ts)) (figure_parts (nodes_of us)) figures c d
      (beside_code facts.pres attributes c) (beside_code facts.pres attributes d) t
      (kept-near facts.pres attributes c) (kept-near facts.pres attributes d)
  element-whole role.Cell v c d t = near c d t
  element-whole r v c d t =
      same-apart c.is_flat (flow_all (nodes_of ts) c) (flow_all (nodes_of us) d) (flows c d t)

  cells-same : (ns ms : List Node) → SameNodes ns ms → SameCells (filter is_cell ns) (filter is_cell ms)
  cells-same [] [] g = tt
  cells-same (n ∷ ns) (m ∷ ms) g =
      subst (λ (b : Bool). SameCells (filter is_cell (n ∷ ns))
      (cond b (m ∷ filter is_cell ms) (filter is_cell ms)))
      g.0.cell (either (is_cell n) refl (cells-same ns ms g.1))
    where
      inner : (r : Role) → roles.is_cell r ≡ true → is_inner r ≡ true
      inner role.Cell e = refl
      inner role.HeaderCell e = refl
      inner r e = false-true e

      either : (b : Bool) → is_cell n ≡ b → SameCells (filter is_cell ns) (filter is_cell ms)
          → SameCells (cond b (n ∷ filter is_cell ns) (filter is_cell ns))
          (cond b (m ∷ filter is_cell ms) (filter is_cell ms))
      either true e k = (
        record {
          content = g.0.content (has-more roles.is_cell is_inner inner n.tree e);
          attributes = g.0.attributes e;
        },
        k,
      )
      either false e k = k
  cells-same ns ms g = absurd g

  cond-rows : (a b : Bool) (xs ys xs' ys' : List Row) → SameRows xs xs' → SameRows ys ys'
      → SameRows (cond a xs (cond b ys [])) (cond a xs' (cond b ys' []))
  cond-rows true b xs ys xs' ys' g k = g
  cond-rows false true xs ys xs' ys' g k = k
  cond-rows false false xs ys xs' ys' g k = tt

  group-terms : (b d : Bool) (n m : Node) → b ≡ d → SameNode n m
      → SameTerms (cond b (gap ∷ map of_node (nodes_of ts) ++ gap ∷ []) (of_node n ∷ []))
      (cond d (gap ∷ map of_node (nodes_of us) ++ gap ∷ []) (of_node m ∷ []))
  group-terms b d n m e k =
      subst (λ (x : Bool). SameTerms (cond b (gap ∷ map of_node (nodes_of ts) ++ gap ∷ []) (of_node n ∷ []))
      (cond x (gap ∷ map of_node (nodes_of us) ++ gap ∷ []) (of_node m ∷ []))) e (either b)
    where
      either : (b : Bool) → SameTerms (cond b (gap ∷ map of_node (nodes_of ts) ++ gap ∷ []) (of_node n ∷ []))
          (cond b (gap ∷ map of_node (nodes_of us) ++ gap ∷ []) (of_node m ∷ []))
      either true = (
        tt,
        terms-append (map of_node (nodes_of ts)) (map of_node (nodes_of us)) (gap ∷ []) (gap ∷ [])
            (nodes-terms (nodes_of ts) (nodes_of us) h.nodes) (tt, tt),
      )
      either false = (k, tt)

  pub element-same : (r : Role) → roles.is_verbatim r ≡ false → SameTree (old r) (new r)
  unfolding node_of
  element-same r v =
      let node : SameNode (node_of (old r)) (node_of (new r)) =
      record {
        whole = element-whole r v;
        content = λ e. flows;
        item = refl;
        spaces = refl;
        term = refl;
        meaning = refl;
        caption = refl;
        row = refl;
        cell = refl;
        attributes = λ e. refl;
      } in
      let kins : All2 Kin1 (list_of ts) (list_of us) =
      all-map Kin2 Kin1 (λ t u k. k.kin) (list_of ts) (list_of us) h.kins in
      record {
        node = node;
        terms = group-terms (is_group (old r)) (is_group (new r)) (node_of (old r)) (node_of (new r))
            (ap (λ b. roles.is_division r && b) h.words) node;
        word = refl;
        kin = record {
          kin = record {
            kin = record {
              cell = refl;
              header = refl;
              blank = refl;
              table_in = λ e. refl;
              header_in = λ e. refl;
            };
            row = refl;
            cells = λ e. all-map Kin1 Kin0 (λ t u k. k.kin) (list_of ts) (list_of us) kins;
          };
          caption = refl;
          head = refl;
          part = refl;
          row_or_part = refl;
          rows = λ e. kins;
        };
        rows = λ p. cond-rows (roles.is_row r) (not (is_some p.id) && roles.is_part r) (row_with p (nodes_of ts))
            (rows_among (part_of (old r)) ts) (row_with p (nodes_of us)) (rows_among (part_of (new r)) us)
            (refl, cells-same (nodes_of ts) (nodes_of us) h.nodes, tt) (h.rows (part_of (old r)));
      }

-- ---- leaves

-- no element that counts for what is around it
pub record Plain (t : Simple) : Type 0 where
  pub item : has roles.is_item t ≡ false
  pub term : has roles.is_term t ≡ false
  pub meaning : has roles.is_meaning t ≡ false
  pub division : has roles.is_division t ≡ false
  pub caption : has roles.is_caption t ≡ false
  pub row : has roles.is_row t ≡ false
  pub part : has roles.is_part t ≡ false
  pub head : has roles.is_head t ≡ false
  pub row_or_part : has roles.is_row_or_part t ≡ false
  pub cell : has roles.is_cell t ≡ false
  pub header : has roles.is_header_cell t ≡ false
  pub inner : has is_inner t ≡ false

abbrev is_plain : Role → Bool
is_plain role.Preformatted = true
is_plain role.Verbatim = true
is_plain role.Plain = true
is_plain role.Unlinked = true
is_plain _ = false

plain-element : (id : ℕ) (r : Role) (facts : Facts) (attributes : List AttributePair) (ts : Simples)
    → is_plain r ≡ true
    → Plain (element id r facts attributes ts)
plain-element id role.Preformatted facts attributes ts e = record {
  item = refl;
  term = refl;
  meaning = refl;
  division = refl;
  caption = refl;
  row = refl;
  part = refl;
  head = refl;
  row_or_part = refl;
  cell = refl;
  header = refl;
  inner = refl;
}
plain-element id role.Verbatim facts attributes ts e = record {
  item = refl;
  term = refl;
  meaning = refl;
  division = refl;
  caption = refl;
  row = refl;
  part = refl;
  head = refl;
  row_or_part = refl;
  cell = refl;
  header = refl;
  inner = refl;
}
plain-element id role.Plain facts attributes ts e = record {
  item = refl;
  term = refl;
  meaning = refl;
  division = refl;
  caption = refl;
  row = refl;
  part = refl;
  head = refl;
  row_or_part = refl;
  cell = refl;
  header = refl;
  inner = refl;
}
plain-element id role.Unlinked facts attributes ts e = record {
  item = refl;
  term = refl;
  meaning = refl;
  division = refl;
  caption = refl;
  row = refl;
  part = refl;
  head = refl;
  row_or_part = refl;
  cell = refl;
  header = refl;
  inner = refl;
}
plain-element id r facts attributes ts e = false-true e

pub verbatim-plain : (id : ℕ) (r : Role) (facts : Facts) (attributes : List AttributePair) (ts : Simples)
    → roles.is_verbatim r ≡ true → Plain (element id r facts attributes ts)
verbatim-plain id r facts attributes ts e = plain-element id r facts attributes ts (plain r e)
  where
    plain : (r : Role) → roles.is_verbatim r ≡ true → is_plain r ≡ true
    plain role.Preformatted e = refl
    plain role.Verbatim e = refl
    plain r e = false-true e

pub around-plain : (id : ℕ) (facts : Facts) (attributes : List AttributePair) (ts : Simples)
    → Plain (element id role.Plain facts attributes ts)
around-plain id facts attributes ts = plain-element id role.Plain facts attributes ts refl

pub unlinked-plain : (id : ℕ) (facts : Facts) (attributes : List AttributePair) (ts : Simples)
    → Plain (element id role.Unlinked facts attributes ts)
unlinked-plain id facts attributes ts = plain-element id role.Unlinked facts attributes ts refl

-- a node that is no element
pub leaf-plain : (t : Simple) → ((p : Role → Bool) → has p t ≡ false) → Plain t
leaf-plain t f = record {
  item = f roles.is_item;
  term = f roles.is_term;
  meaning = f roles.is_meaning;
  division = f roles.is_division;
  caption = f roles.is_caption;
  row = f roles.is_row;
  part = f roles.is_part;
  head = f roles.is_head;
  row_or_part = f roles.is_row_or_part;
  cell = f roles.is_cell;
  header = f roles.is_header_cell;
  inner = f is_inner;
}

alone : (t : Simple) → Plain t → parts_of_child (node_of t) (nodes_below t) ≡ of_node (node_of t) ∷ []
alone t p =
    ap (λ x. cond (has roles.is_division x && list_any is_term_or_meaning (list_of (content_of x)))
    (gap ∷ map of_node (nodes_below t) ++ gap ∷ []) (of_node (node_of t) ∷ [])) (node-tree t)
    ∙ ap (λ b. cond (b && list_any is_term_or_meaning (list_of (content_of t)))
    (gap ∷ map of_node (nodes_below t) ++ gap ∷ []) (of_node (node_of t) ∷ [])) p.division

no-rows : (p : TablePart) (t : Simple) → Plain t → rows_at p t ≡ []
unfolding node_of
no-rows p (text s) k = refl
no-rows p (image address attributes) k = refl
no-rows p (formula tex is_alone attributes) k = refl
no-rows p (embedded id address title attributes anchors) k = refl
no-rows p (anchor id) k = refl
no-rows p (element id r facts attributes content) k =
    let t : Simple = element id r facts attributes content in
    ap (λ b. cond b (row_with p (nodes_of content)) (cond (not (is_some p.id) && roles.is_part r)
    (rows_among (part_of t) content) [])) k.row
    ∙ (ap (λ b. cond (not (is_some p.id) && b) (rows_among (part_of t) content) []) k.part
    ∙ never (not (is_some p.id)))
  where
    never : (b : Bool) → cond (b && false) (rows_among (part_of (element id r facts attributes content)) content) []
        ≡ []
    never true = refl
    never false = refl

-- leaves of which as much shows
pub leaf-same : (t u : Simple) → Plain t → Plain u → is_blank t ≡ is_blank u → is_spaces t ≡ is_spaces u
    → GivesSame ((node_of t).whole) ((node_of u).whole) → SameTree t u
leaf-same t u p q b s h =
    let node : SameNode (node_of t) (node_of u) =
    record {
      whole = h;
      content = λ e. true-false (sym e ∙ (ap (has is_inner) (node-tree t) ∙ p.inner));
      item = by-tree roles.is_item p.item q.item;
      spaces = ap is_spaces (node-tree t) ∙ (s ∙ sym (ap is_spaces (node-tree u)));
      term = by-tree roles.is_term p.term q.term;
      meaning = by-tree roles.is_meaning p.meaning q.meaning;
      caption = by-tree roles.is_caption p.caption q.caption;
      row = by-tree roles.is_row_or_part p.row_or_part q.row_or_part;
      cell = by-tree roles.is_cell p.cell q.cell;
      attributes = λ e. true-false (sym e ∙ (ap (has roles.is_cell) (node-tree t) ∙ p.cell));
    } in
    record {
      node = node;
      terms = subst (λ (xs : List TermPart). SameTerms xs (parts_of_child (node_of u) (nodes_below u)))
          (sym (alone t p))
          (subst (λ (xs : List TermPart). SameTerms (of_node (node_of t) ∷ []) xs) (sym (alone u q)) (node, tt));
      word = ap (λ x. x || has roles.is_meaning t) (p.term ∙ sym q.term)
          ∙ ap (λ x. has roles.is_term u || x) (p.meaning ∙ sym q.meaning);
      kin = record {
        kin = record {
          kin = record {
            cell = p.cell ∙ sym q.cell;
            header = p.header ∙ sym q.header;
            blank = b;
            table_in = λ e. true-false (sym e ∙ p.cell);
            header_in = λ e. true-false (sym e ∙ p.cell);
          };
          row = p.row ∙ sym q.row;
          cells = λ e. true-false (sym e ∙ p.row);
        };
        caption = p.caption ∙ sym q.caption;
        head = p.head ∙ sym q.head;
        part = p.part ∙ sym q.part;
        row_or_part = p.row_or_part ∙ sym q.row_or_part;
        rows = λ e. true-false (sym e ∙ p.part);
      };
      rows = λ x. subst (λ (xs : List Row). SameRows xs (rows_at x u)) (sym (no-rows x t p))
          (subst (λ (xs : List Row). SameRows [] xs) (sym (no-rows x u q)) tt);
    }
  where
    by-tree : (k : Role → Bool) → has k t ≡ false → has k u ≡ false
        → has k (node_of t).tree ≡ has k (node_of u).tree
    by-tree k e f = ap (has k) (node-tree t) ∙ (e ∙ (sym f ∙ sym (ap (has k) (node-tree u))))
