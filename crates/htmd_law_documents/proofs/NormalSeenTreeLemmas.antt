-- What shows in the trees of a rich document gives parts that show, and then only.
use Rattle.std.proofs.Common.{◌≡◌, ℕ, Bool, true, false, cond, not, ◌||◌, List, [], ◌∷◌, ◌++◌, refl, sym, ap, ◌∙◌}
use Rattle.std.proofs.Common.{subst, map, filter}
use Rattle.std.specs.Prelude.{is_some}
use Rattle.std.specs.List.{list_any, list_all}
use Rattle.htmd_lexical.specs.AttributePairs.{AttributePair}
use Rattle.htmd_lexical.proofs.Cases.{test}
use Rattle.htmd_shown.specs.declared.facts.Facts.{Facts}
use Rattle.htmd_shown.specs.declared.role.Role.{Role}
use Rattle.htmd_shown.specs.declared.role.Role.TheVariants as role
use Rattle.htmd_shown.specs.Kinds.{has}
use Rattle.htmd_shown.specs.Roles as roles
use Rattle.htmd_shown.specs.Showings.{shows, show, code_shows}
use Rattle.htmd_shown.specs.SimpleTrees.{Simple, text, image, formula, embedded, anchor, element, Simples, none, more}
use Rattle.htmd_shown.specs.Spaces.{is_blank_text}
use Rattle.htmd_flow.specs.Contexts.{Context, bare_in}
use Rattle.htmd_flow.specs.Flows.{Node, Row, gap, of_node, is_cell, flow_all, node_of, nodes_of, nodes_below}
use Rattle.htmd_flow.specs.Flows.{parts_of_child, terms_of, no_part, part_of, leads_to, row_with, rows_among, rows_at}
use Rattle.htmd_flow.specs.Flows.{pieces_of, pieces_at, of_caption, of_row, anchors_apart}
use Rattle.htmd_flow.specs.Parts.{Part, run, picture, break, place, box, edge, whole}
use Rattle.htmd_flow.specs.Terms.{is_group}
use Rattle.htmd_flow.specs.declared.table_form.TablePart.{TablePart}
use Rattle.htmd_law_documents.specs.SimpleForms.{IsSound, AreSound}
use Rattle.htmd_law_documents.proofs.VisibleLemmas.{both-true}
use Rattle.htmd_law_documents.proofs.NormalTextLemmas.{and-false, false-true}
use Rattle.htmd_law_documents.proofs.NormalPartsLemmas.{FineFrom, good, waiting}
use Rattle.htmd_law_documents.proofs.NormalNodesLemmas.{bound}
use Rattle.htmd_law_documents.proofs.NormalFilledLemmas.{is_showing, is_quiet}
use Rattle.htmd_law_documents.proofs.NormalSeenLemmas.{or-none, or-true, any-append, seen-as, Sits, GivesSeen, SeenAt}
use Rattle.htmd_law_documents.proofs.NormalSeenLemmas.{AllSeen, content-flow}
use Rattle.htmd_law_documents.proofs.NormalSeenTableLemmas.{RowsSeen, rows-seen-append}
use Rattle.htmd_law_documents.proofs.NormalSeenPiecesLemmas.{PiecesSeen, pieces-seen-append}
use Rattle.htmd_law_documents.proofs.NormalSeenTermLemmas.{TermsSeen, terms-seen-append, nodes-terms-seen}
use Rattle.htmd_law_documents.proofs.NormalSeenElementLemmas.{run-seen, image-seen, formula-seen, embed-seen}
use Rattle.htmd_law_documents.proofs.NormalSeenElementLemmas.{element-seen}
use Rattle.htmd_law_documents.proofs.NormalTreeLemmas.{ShowsInLine, ShowsApart, IsFine, AreFine, IsLed, IsLedApart}
use Rattle.htmd_law_documents.proofs.NormalTreeLemmas.{Content, by-content, texts-fine, one-flow}
use Rattle.htmd_law_documents.proofs.WrapperTableLemmas.{node-tree}

-- ---- what waits for something that shows

quiet-unsettled : (flat : Bool) (n : ℕ) (ps : List Part) → list_all (is_quiet flat) ps ≡ true
    → FineFrom flat n waiting ps → ⊥
quiet-unsettled true n [] e h = h
quiet-unsettled false n [] e h = h
quiet-unsettled flat n (run s around k ∷ ps) e h =
    let both = both-true (is_blank_text s) (list_all (is_quiet flat) ps) e in
    quiet-unsettled flat n ps both.1 (subst (λ (b : Bool). FineFrom flat n (cond b waiting good) ps) both.0 h.2)
quiet-unsettled flat n (picture address title description around ∷ ps) e h = false-true e
quiet-unsettled flat n (break ∷ ps) e h = quiet-unsettled flat n ps e h.2
quiet-unsettled flat n (place id ∷ ps) e h = false-true e
quiet-unsettled flat n (box b ∷ ps) e h = quiet-unsettled flat n ps e h.2
quiet-unsettled true n (edge ∷ ps) e h = quiet-unsettled true n ps e h.2
quiet-unsettled false n (edge ∷ ps) e h = absurd h.1
quiet-unsettled true n (whole b ∷ ps) e h = quiet-unsettled true n ps e h.2
quiet-unsettled false n (whole b ∷ ps) e h = false-true e

-- where nothing stands around
abbrev plain_context : Bool → Context
plain_context flat = record (bare_in true) { is_flat = flat }

plain-sits : (flat : Bool) → Sits flat (plain_context flat)
plain-sits flat = record { rich = refl; line = refl }

module _ (flat : Bool) (t : Simple) (h : SeenAt flat (node_of t)) where
  leaf-shows : FineFrom flat (bound (plain_context flat)) waiting ((node_of t).whole (plain_context flat))
      → shows flat t ≡ true
  leaf-shows f =
      let c : Context = plain_context flat in
      let ps : List Part = (node_of t).whole c in
      test (shows flat t) (λ e. e)
      (λ e. absurd (quiet-unsettled flat (bound c) ps
      (seen-as flat (shows flat (node_of t).tree) false ps (ap (shows flat) (node-tree t) ∙ e)
      (h.whole c (plain-sits flat))) f))

  -- one that shows
  leaf-seen : shows flat t ≡ true → (c : Context) → Sits flat c
      → list_any (is_showing flat) ((node_of t).whole c) ≡ true
  leaf-seen e c s =
      seen-as flat (shows flat (node_of t).tree) true ((node_of t).whole c) (ap (shows flat) (node-tree t) ∙ e)
      (h.whole c s)

-- what shows in a heading shows elsewhere
mutual
  shows-outside : (t : Simple) → shows true t ≡ true → shows false t ≡ true
  shows-outside (text s) e = e
  shows-outside (image o attributes) e = e
  shows-outside (formula tex is_alone attributes) e = refl
  shows-outside (embedded id address title attributes ids) e = refl
  shows-outside (anchor id) e = e
  shows-outside (element id r facts attributes content) e =
      at (roles.is_verbatim r) (roles.is_thematic_break r) (roles.is_heading r) (λ i. show-outside content i) e
    where
      at : (v b d : Bool) → (show true content ≡ true → show false content ≡ true)
          → cond v (code_shows content) (cond b false (show true content)) ≡ true
          → cond v (code_shows content) (cond b true (show d content)) ≡ true
      at true b d f e = e
      at false true d f e = refl
      at false false true f e = e
      at false false false f e = f e

  show-outside : (ts : Simples) → show true ts ≡ true → show false ts ≡ true
  show-outside none e = e
  show-outside (more t ts) e =
      test (shows true t)
      (λ i. ap (λ b. b || show false ts) (shows-outside t i))
      (λ i. ap (λ b. shows false t || b) (show-outside ts (sym (ap (λ b. b || show true ts) i) ∙ e))
      ∙ or-true (shows false t))

-- ---- leaves after anchors

-- something shows, and its parts do
record AreShown (flat : Bool) (ts : Simples) : Type 0 where
  all : show flat ts ≡ true
  parts : (c : Context) → Sits flat c → list_any (is_showing flat) (flow_all (nodes_of ts) c) ≡ true

shown-seen : (flat : Bool) (ts : Simples) → AreShown flat ts
    → GivesSeen flat (show flat ts) (flow_all (nodes_of ts))
shown-seen flat ts h c s = seen-as flat true (show flat ts) (flow_all (nodes_of ts) c) (sym h.all) (h.parts c s)

one-shown : (flat : Bool) (t : Simple) (ts : Simples) → SeenAt flat (node_of t) → shows flat t ≡ true
    → has roles.is_item t ≡ false → ts ≡ none → AreShown flat (more t ts)
one-shown flat t ts h e i n = record {
  all = ap (λ b. b || show flat ts) e;
  parts = λ c s. one-flow t ts c (λ ps. list_any (is_showing flat) ps ≡ true) i n
      (any-append (is_showing flat) ((node_of t).whole c) [] ∙ ap (λ b. b || false) (leaf-seen flat t h e c s));
}

in-line-shown : (flat : Bool) (t : Simple) (ts : Simples) → SeenAt flat (node_of t) → ShowsInLine t → ts ≡ none
    → AreShown flat (more t ts)
in-line-shown flat t ts h l n =
    one-shown flat t ts h (leaf-shows flat t h (l.shows (plain_context flat) tt)) l.no_item n

apart-shows : (flat : Bool) (t : Simple) → ((f : Bool) → SeenAt f (node_of t)) → ShowsApart t
    → shows flat t ≡ true
apart-shows flat t h l = at flat
  where
    line : shows true t ≡ true
    line = leaf-shows true t (h true) (l.shows (plain_context true) tt refl)

    at : (b : Bool) → shows b t ≡ true
    at true = line
    at false = shows-outside t line

after-anchors : (flat : Bool) (id : ℕ) (facts : Facts) (attributes : List AttributePair) (inner ts : Simples)
    → AreShown flat ts → AreShown flat (more (element id role.Anchors facts attributes inner) ts)
unfolding node_of
after-anchors flat id facts attributes inner ts h =
    let own : Bool = shows flat (element id role.Anchors facts attributes inner) in
    record {
      all = ap (λ b. own || b) h.all ∙ or-true own;
      parts = λ c s.
          let front : List Part = anchors_apart (nodes_of inner) c in
          any-append (is_showing flat) front (flow_all (nodes_of ts) c)
          ∙ (ap (λ b. list_any (is_showing flat) front || b) (h.parts c s)
          ∙ or-true (list_any (is_showing flat) front));
    }

-- ---- elements

plain-seen : (flat : Bool) (id : ℕ) (r : Role) (facts : Facts) (attributes : List AttributePair) (content : Simples)
    → r ≡ role.Plain → AreShown flat content → SeenAt flat (node_of (element id r facts attributes content))
unfolding node_of
plain-seen flat id r facts attributes content e h =
    subst (λ (x : Role). SeenAt flat (node_of (element id x facts attributes content))) (sym e) (record {
      whole = λ c s. seen-as flat (show flat content) (show (flat || false) content) (flow_all (nodes_of content) c)
          (ap (λ b. show b content) (sym (or-none flat))) (shown-seen flat content h c s);
      content = shown-seen flat content h;
    })

cells-seen : (flat : Bool) (ns : List Node) → AllSeen flat ns → AllSeen flat (filter is_cell ns)
cells-seen flat [] h = tt
cells-seen flat (n ∷ ns) h = either (is_cell n) (cells-seen flat ns h.1)
  where
    either : (b : Bool) → AllSeen flat (filter is_cell ns)
        → AllSeen flat (cond b (n ∷ filter is_cell ns) (filter is_cell ns))
    either true g = (h.0, g)
    either false g = g

either-rows : (flat a b : Bool) (xs ys : List Row) → RowsSeen flat xs → RowsSeen flat ys
    → RowsSeen flat (cond a xs (cond b ys []))
either-rows flat true b xs ys g h = g
either-rows flat false true xs ys g h = h
either-rows flat false false xs ys g h = tt

-- a plain element is no row
no-rows : (flat : Bool) (p : TablePart) (id : ℕ) (r : Role) (facts : Facts) (attributes : List AttributePair)
    (content : Simples) → r ≡ role.Plain → RowsSeen flat (rows_at p (element id r facts attributes content))
unfolding node_of
no-rows flat p id r facts attributes content e =
    subst (λ (x : Role). RowsSeen flat (rows_at p (element id x facts attributes content))) (sym e)
    (subst (λ (b : Bool). RowsSeen flat (cond b (rows_among (part_of (element id role.Plain facts attributes content))
    content) [])) (sym (and-false (not (is_some p.id)) refl)) tt)

rows-pieces : (rows : List Row) → RowsSeen false rows → PiecesSeen (map of_row rows)
rows-pieces [] h = tt
rows-pieces (r ∷ rows) h = (h.0, rows-pieces rows h.1)

either-pieces : (b : Bool) (n : Node) (rows : List Row) → SeenAt false n → RowsSeen false rows
    → PiecesSeen (cond b (of_caption n ∷ []) (map of_row rows))
either-pieces true n rows k h = (k, tt)
either-pieces false n rows k h = rows-pieces rows h

grouped : (ns : List Node) (n : Node) → AllSeen false ns → SeenAt false n → (b : Bool)
    → TermsSeen (cond b (gap ∷ map of_node ns ++ gap ∷ []) (of_node n ∷ []))
grouped ns n all f true = (tt, terms-seen-append (map of_node ns) (gap ∷ []) (nodes-terms-seen ns all) (tt, tt))
grouped ns n all f false = (f, tt)

alone-term : (id : ℕ) (r : Role) (facts : Facts) (attributes : List AttributePair) (content : Simples)
    → r ≡ role.Plain → SeenAt false (node_of (element id r facts attributes content))
    → TermsSeen (parts_of_child (node_of (element id r facts attributes content)) (nodes_of content))
unfolding node_of
alone-term id r facts attributes content e k =
    subst (λ (x : Role). SeenAt false (node_of (element id x facts attributes content))
    → TermsSeen (parts_of_child (node_of (element id x facts attributes content)) (nodes_of content))) (sym e)
    (λ m. (m, tt)) k

-- ---- nodes

mutual
  unfolding node_of

  node-seen : (t : Simple) → IsFine t → IsSound t → (flat : Bool) → SeenAt flat (node_of t)
  node-seen (text s) h u flat =
      record { whole = λ c g. run-seen flat s c.around c.is_code; content = λ c g. refl }
  node-seen (image o attributes) h u flat =
      record { whole = image-seen flat o attributes u; content = λ c g. refl }
  node-seen (formula tex is_alone attributes) h u flat =
      record { whole = formula-seen flat tex is_alone; content = λ c g. refl }
  node-seen (embedded id address title attributes ids) h u flat =
      record { whole = embed-seen flat id address title ids h.2; content = λ c g. refl }
  node-seen (anchor id) h u flat = absurd h
  node-seen (element id r facts attributes content) h u flat =
      by-content (SeenAt flat (node_of (element id r facts attributes content))) r content
      (λ k. record {
        whole = λ c g. element-seen id facts attributes content (texts-fine content k) u.1
            (record {
              nodes = λ f. nodes-seen content k u.1 f;
              rows = λ f. rows-seen no_part content k u.1 f;
              pieces = pieces-seen content k u.1;
              terms = terms-seen content k u.1;
            }) flat c g r h.1 u.0;
        content = content-flow flat content (nodes-seen content k u.1 flat);
      })
      (λ e k. plain-seen flat id r facts attributes content e (led-shown content k u.1 flat))
      (λ e k. plain-seen flat id r facts attributes content e (apart-shown content k u.1 flat)) h.2

  nodes-seen : (ts : Simples) → AreFine ts → AreSound ts → (flat : Bool) → AllSeen flat (nodes_of ts)
  nodes-seen none h u flat = tt
  nodes-seen (more t ts) h u flat = (node-seen t h.0 u.0 flat, nodes-seen ts h.1 u.1 flat)

  led-shown : (ts : Simples) → IsLed ts → AreSound ts → (flat : Bool) → AreShown flat ts
  led-shown none h u flat = absurd h
  led-shown (more (anchor id) ts) h u flat =
      let k : AreShown flat ts = led-shown ts h.1 u.1 flat in record { all = k.all; parts = k.parts }
  led-shown (more (text s) ts) h u flat =
      in-line-shown flat (text s) ts (node-seen (text s) h.0 u.0 flat) h.1 h.2
  led-shown (more (image o attributes) ts) h u flat =
      in-line-shown flat (image o attributes) ts (node-seen (image o attributes) h.0 u.0 flat) h.1 h.2
  led-shown (more (formula tex is_alone attributes) ts) h u flat =
      in-line-shown flat (formula tex is_alone attributes) ts
      (node-seen (formula tex is_alone attributes) h.0 u.0 flat) h.1 h.2
  led-shown (more (embedded id address title attributes ids) ts) h u flat =
      in-line-shown flat (embedded id address title attributes ids) ts
      (node-seen (embedded id address title attributes ids) h.0 u.0 flat) h.1 h.2
  led-shown (more (element id r facts attributes content) ts) h u flat =
      in-line-shown flat (element id r facts attributes content) ts
      (node-seen (element id r facts attributes content) h.0 u.0 flat) h.1 h.2

  apart-shown : (ts : Simples) → IsLedApart ts → AreSound ts → (flat : Bool) → AreShown flat ts
  apart-shown (more (element id role.Anchors facts attributes inner) (more t ts)) h u flat =
      after-anchors flat id facts attributes inner (more t ts)
      (one-shown flat t ts (node-seen t h.1 u.1.0 flat)
      (apart-shows flat t (node-seen t h.1 u.1.0) h.2) h.2.no_item h.3)
  apart-shown ts h u flat = absurd h

  rows-seen : (p : TablePart) (ts : Simples) → AreFine ts → AreSound ts → (flat : Bool)
      → RowsSeen flat (rows_among p ts)
  rows-seen p none h u flat = tt
  rows-seen p (more t ts) h u flat =
      rows-seen-append flat (rows_at p t) (rows_among p ts) (row-seen p t h.0 u.0 flat) (rows-seen p ts h.1 u.1 flat)

  row-seen : (p : TablePart) (t : Simple) → IsFine t → IsSound t → (flat : Bool) → RowsSeen flat (rows_at p t)
  row-seen p (text s) h u flat = tt
  row-seen p (image o attributes) h u flat = tt
  row-seen p (formula tex is_alone attributes) h u flat = tt
  row-seen p (embedded id address title attributes ids) h u flat = tt
  row-seen p (anchor id) h u flat = tt
  row-seen p (element id r facts attributes content) h u flat =
      let t : Simple = element id r facts attributes content in
      by-content (RowsSeen flat (rows_at p t)) r content
      (λ k. either-rows flat (has roles.is_row t) (leads_to p t) (row_with p (nodes_of content))
      (rows_among (part_of t) content)
      (cells-seen flat (nodes_of content) (nodes-seen content k u.1 flat), tt)
      (rows-seen (part_of t) content k u.1 flat))
      (λ e k. no-rows flat p id r facts attributes content e) (λ e k. no-rows flat p id r facts attributes content e)
      h.2

  terms-seen : (ts : Simples) → AreFine ts → AreSound ts → TermsSeen (terms_of ts)
  terms-seen none h u = tt
  terms-seen (more t ts) h u =
      terms-seen-append (parts_of_child (node_of t) (nodes_below t)) (terms_of ts)
      (term-seen t (node-seen t h.0 u.0 false) h.0 u.0)
      (terms-seen ts h.1 u.1)

  term-seen : (t : Simple) → SeenAt false (node_of t) → IsFine t → IsSound t
      → TermsSeen (parts_of_child (node_of t) (nodes_below t))
  term-seen (text s) n h u = (n, tt)
  term-seen (image o attributes) n h u = (n, tt)
  term-seen (formula tex is_alone attributes) n h u = (n, tt)
  term-seen (embedded id address title attributes ids) n h u = (n, tt)
  term-seen (anchor id) n h u = absurd h
  term-seen (element id r facts attributes content) n h u =
      let t : Simple = element id r facts attributes content in
      by-content (TermsSeen (parts_of_child (node_of t) (nodes_of content))) r content
      (λ k. grouped (nodes_of content) (node_of t) (nodes-seen content k u.1 false) n (is_group t))
      (λ e k. alone-term id r facts attributes content e n) (λ e k. alone-term id r facts attributes content e n) h.2

  pieces-seen : (ts : Simples) → AreFine ts → AreSound ts → PiecesSeen (pieces_of ts)
  pieces-seen none h u = tt
  pieces-seen (more t ts) h u =
      pieces-seen-append (pieces_at (node_of t) (rows_at no_part t)) (pieces_of ts)
      (either-pieces (has roles.is_caption (node_of t).tree) (node_of t) (rows_at no_part t) (node-seen t h.0 u.0 false)
      (row-seen no_part t h.0 u.0 false))
      (pieces-seen ts h.1 u.1)

-- ---- the content of an element

pub content-seen : (r : Role) (content : Simples) → Content r content → AreSound content → (flat : Bool)
    → GivesSeen flat (show flat content) (flow_all (nodes_of content))
content-seen r content h u flat =
    by-content (GivesSeen flat (show flat content) (flow_all (nodes_of content))) r content
    (λ k. content-flow flat content (nodes-seen content k u flat))
    (λ e k. shown-seen flat content (led-shown content k u flat))
    (λ e k. shown-seen flat content (apart-shown content k u flat)) h
