-- Summaries and captions of figures stand in what they are titles of, and there alone.
use Rattle.std.proofs.Common.{◌≡◌, ℕ, Bool, true, false, List, [], ◌∷◌, ◌++◌, map, None, refl, sym, ap, ◌∙◌, subst}
use Rattle.std.proofs.Common.{inr}
use Rattle.std.specs.Prelude.{if◌then◌else◌, ◌&&◌, not}
use Rattle.std.specs.List.{list_any}
use Rattle.std.proofs.lemmas.Bool.{and_parts, not-true, or_parts, true≢false}
use Rattle.htmd_lexical.specs.Characters.{space}
use Rattle.htmd_lexical.proofs.Cases.{test}
use Rattle.htmd_document.specs.declared.document.BlockElement.{BlockElement}
use Rattle.htmd_document.specs.declared.document.BlockElement.TheVariants as name
use Rattle.htmd_document.specs.Documents.{Block, Blocks, no_blocks, block}
use Rattle.htmd_document.specs.Documents as document
use Rattle.htmd_document.specs.TightItems.{is_filled}
use Rattle.htmd_shown.specs.declared.role.Role.{Role}
use Rattle.htmd_shown.specs.declared.role.Role.TheVariants as role
use Rattle.htmd_shown.specs.Kinds.{has, content_of}
use Rattle.htmd_shown.specs.Roles as roles
use Rattle.htmd_shown.specs.Showings.{show}
use Rattle.htmd_shown.specs.SimpleTrees.{Simple, element}
use Rattle.htmd_flow.specs.Contexts.{Context, has_elements}
use Rattle.htmd_flow.specs.Flows.{Node, flow_all, flow_after, list_parts, is_item, is_spaces, goes_on, items_in_a_row}
use Rattle.htmd_flow.specs.Flows.{element_part, around_node, blocks_within, is_title_of, title_element, as_title}
use Rattle.htmd_flow.specs.Flows.{titled, shows_title}
use Rattle.htmd_flow.specs.Parts.{Part, edge}
use Rattle.htmd_law_documents.proofs.NormalSeenLemmas.{Sits, sits-around}
use Rattle.htmd_law_settled.specs.Leaves.{Leaves}
use Rattle.htmd_law_settled.proofs.OrderedLeaves.{is_ordered, is_ordered_element}
use Rattle.htmd_law_returning.specs.ElementPlaces.{Holder, in_flow, in_details, in_figure, inside, stands_in, is_mixed}
use Rattle.htmd_law_settled.proofs.LeafLines.{AllowsElements, HaveBlocks, HaveInside, HasIn, HasPiece, AllPartsIn}
use Rattle.htmd_law_settled.proofs.LeafLines.{parts-flow}
use Rattle.htmd_law_settled.proofs.LeafNodes.{FitsIn, HasNode, AllNodes, list-parts-have}
use Rattle.htmd_law_settled.proofs.ShownHeaders.{of-figure}

-- ---- titles are no items, and no white space

-- trees that are titles of a kind
abbrev StandAlone : BlockElement → Type 0
StandAlone title =
    (t : Simple) → has (is_title_of title) t ≡ true → (has roles.is_item t ≡ false) × (is_spaces t ≡ false)

summary-alone : StandAlone name.Summary
summary-alone (element id r facts attributes content) e = (by-role r e, refl)
  where
    by-role : (r : Role) → roles.is_summary r ≡ true → roles.is_item r ≡ false
    by-role role.Summary e = refl
    by-role r e = absurd (cc)
summary-alone t e = absurd (cc)

pub caption-alone : StandAlone name.FigureCaption
caption-alone (element id r facts attributes content) e = (by-role r e, refl)
  where
    by-role : (r : Role) → roles.is_figure_caption r ≡ true → roles.is_item r ≡ false
    by-role role.FigureCaption e = refl
    by-role r e = absurd (cc)
caption-alone t e = absurd (cc)

summary-title : (t : Simple) → has (is_title_of name.Summary) t ≡ true → has roles.is_title t ≡ true
summary-title (element id r facts attributes content) e = by-role r e
  where
    by-role : (r : Role) → roles.is_summary r ≡ true → roles.is_title r ≡ true
    by-role role.Summary e = refl
    by-role r e = absurd (cc)
summary-title t e = absurd (cc)

caption-title : (t : Simple) → has (is_title_of name.FigureCaption) t ≡ true → has roles.is_title t ≡ true
caption-title (element id r facts attributes content) e = by-role r e
  where
    by-role : (r : Role) → roles.is_figure_caption r ≡ true → roles.is_title r ≡ true
    by-role role.FigureCaption e = refl
    by-role r e = absurd (cc)
caption-title t e = absurd (cc)

pub table-title : (t : Simple) → has roles.is_caption t ≡ true → has roles.is_title t ≡ true
table-title (element id r facts attributes content) e = by-role r e
  where
    by-role : (r : Role) → roles.is_caption r ≡ true → roles.is_title r ≡ true
    by-role role.Caption e = refl
    by-role r e = absurd (cc)
table-title t e = absurd (cc)

abbrev AreSo : (Node → Type 0) → List Node → Type 0
AreSo IsSo [] = Unit {0}
AreSo IsSo (n ∷ nodes) = IsSo n × AreSo IsSo nodes

all-so : (nodes : List Node) → AreSo (λ n. Unit {0}) nodes
all-so [] = tt
all-so (n ∷ nodes) = (tt, all-so nodes)

module _ (k : Leaves) where
  append-in : (o : Holder) (at : ℕ) (ps qs : List Part) → AllPartsIn k o at ps → AllPartsIn k o at qs
      → AllPartsIn k o at (ps ++ qs)
  append-in o at [] qs g h = h
  append-in o at (p ∷ ps) qs g h = (g.0, append-in o at ps qs g.1 h)

  either-in : (o : Holder) (at : ℕ) (b : Bool) (ps qs : List Part) → AllPartsIn k o at ps → AllPartsIn k o at qs
      → AllPartsIn k o at (if b then ps else qs)
  either-in o at true ps qs g h = g
  either-in o at false ps qs g h = h

  -- parts in a rich document, outside lines
  abbrev GivesIn : Holder → (Context → List Part) → Type 0
  GivesIn o parts =
      (at : ℕ) (c : Context) → FitsIn k at c → has_elements c ≡ true → AllPartsIn k o at (parts c)

  -- what is within a title of a rich document is in order
  pub ordered-within : (n : Node) → HasNode k n → has roles.is_title n.tree ≡ true → (c : Context)
      → has_elements c ≡ true → is_ordered (blocks_within n c) ≡ true
  ordered-within n h t c e =
      let both = and_parts c.is_rich (not c.is_flat) e in
      let sits : Sits false (around_node n.tree c) =
      sits-around n.tree c (record { rich = both.0; line = not-true c.is_flat both.1 }) in
      h.ordered t (around_node n.tree c) sits.rich sits.line

  -- ---- nodes of which some are titles

  module _ (spaces : k.character space ≡ true) (o : Holder) (mixed : is_mixed o ≡ true) (title : BlockElement)
      (alone : StandAlone title) (IsSo : Node → Type 0)
      (one : (n : Node) → HasNode k n → has (is_title_of title) n.tree ≡ true → IsSo n
      → GivesIn o (title_element title n)) where
    abbrev named : List Node → List Node
    named nodes = map (as_title title) nodes

    either-nodes : (b : Bool) (ns ms : List Node) → AllNodes k ns → AllNodes k ms
        → AllNodes k (if b then ns else ms)
    either-nodes true ns ms g h = g
    either-nodes false ns ms g h = h

    -- none is in a row of items
    row-titled : (nodes : List Node) → AllNodes k nodes → AllNodes k (items_in_a_row (named nodes))
    row-titled [] h = tt
    row-titled (n ∷ nodes) h =
        test (has (is_title_of title) n.tree)
        (λ t. let p = alone n.tree t in rw (t, p.0, p.1) tt)
        (λ t. rw t (either-nodes (goes_on n) (n ∷ items_in_a_row (named nodes)) [] (h.0, row-titled nodes h.1) tt))

    mutual
      titled-flow : (nodes : List Node) → AllNodes k nodes → AreSo IsSo nodes → GivesIn o (flow_all (named nodes))
      titled-flow [] h g at c f e = tt
      titled-flow (n ∷ nodes) h g at c f e =
          let rest : List Part = flow_all (named nodes) c in
          let behind = titled-flow nodes h.1 g.1 at c f e in
          test (has (is_title_of title) n.tree)
          (λ t. let p = alone n.tree t in
          rw (t, p.0) (append-in o at (title_element title n c) rest (one n h.0 t g.0 at c f e) behind))
          (λ t. let items : List Node = n ∷ items_in_a_row (named nodes) in
          rw t (either-in o at (is_item n) (list_parts None items c ++ flow_after (named nodes) c) (n.whole c ++ rest)
          (append-in o at (list_parts None items c) (flow_after (named nodes) c)
          (parts-flow k o mixed at (list_parts None items c)
          (list-parts-have k spaces None items (h.0, row-titled nodes h.1) at c f))
          (titled-after nodes h.1 g.1 at c f e))
          (append-in o at (n.whole c) rest (parts-flow k o mixed at (n.whole c) (h.0.whole at c f)) behind)))

      titled-after : (nodes : List Node) → AllNodes k nodes → AreSo IsSo nodes
          → GivesIn o (flow_after (named nodes))
      titled-after [] h g at c f e = tt
      titled-after (n ∷ nodes) h g at c f e =
          let rest : List Part = flow_all (named nodes) c in
          let behind = titled-flow nodes h.1 g.1 at c f e in
          test (has (is_title_of title) n.tree)
          (λ t. let p = alone n.tree t in
          rw (t, p.0, p.1) (append-in o at (title_element title n c) rest (one n h.0 t g.0 at c f e) behind))
          (λ t. rw t (either-in o at (goes_on n) (flow_after (named nodes) c) (n.whole c ++ rest)
          (titled-after nodes h.1 g.1 at c f e)
          (append-in o at (n.whole c) rest (parts-flow k o mixed at (n.whole c) (h.0.whole at c f)) behind)))

  -- ---- what a title gives

  module _ (rich : AllowsElements k)
      (within : (n : Node) → HasNode k n → (at : ℕ) (c : Context) → FitsIn k at c
      → HaveBlocks k at (blocks_within n c))
    where
      module _ (o : Holder) (title : BlockElement)
          (pieces : (at : ℕ) (b : Block) → HasPiece k o at b → HasIn k o at b)
          (own : stands_in o title ≡ true) (flat : inside title ≡ in_flow)
          (neat : (content : Blocks) → is_ordered content ≡ true
          → is_ordered_element title [] content ≡ true) where
        element-in : (at : ℕ) (bs : Blocks) → HaveBlocks k at bs → is_ordered bs ≡ true
            → AllPartsIn k o at (element_part title [] bs)
        element-in at no_blocks h g = tt
        element-in at (block b bs) h g = (
          pieces at (document.element title [] (block b bs)) (
            rich title [] (block b bs) (neat (block b bs) g),
            own,
            refl,
            subst (λ p. HaveInside k p at (block b bs)) (sym flat) h,
          ),
          tt,
        )

        title-in : ((t : Simple) → has (is_title_of title) t ≡ true → has roles.is_title t ≡ true)
            → (n : Node) → HasNode k n → has (is_title_of title) n.tree ≡ true
            → GivesIn o (title_element title n)
        title-in is-title n h t at c f e =
            let made : List Part = element_part title [] (blocks_within n c) in (
              tt,
              append-in o at made (edge ∷ [])
                  (element-in at (blocks_within n c) (within n h at c f) (ordered-within n h (is-title n.tree t) c e))
                  (tt, tt),
            )

      pub summaries-in : k.character space ≡ true → (nodes : List Node) → AllNodes k nodes
          → GivesIn in_details (titled name.Summary nodes)
      summaries-in spaces nodes h =
          titled-flow spaces in_details refl name.Summary summary-alone (λ n. Unit {0})
          (λ n g t so.
          title-in in_details name.Summary (λ at b x. inr x) refl refl (λ bs q. q) summary-title n g t) nodes h
          (all-so nodes)

      pub captions-in : k.character space ≡ true → (nodes : List Node) → AllNodes k nodes
          → GivesIn in_figure (titled name.FigureCaption nodes)
      captions-in spaces nodes h =
          titled-flow spaces in_figure refl name.FigureCaption caption-alone (λ n. Unit {0})
          (λ n g t so.
          title-in in_figure name.FigureCaption (λ at b x. inr x) refl refl (λ bs q. q) caption-title n g t) nodes h
          (all-so nodes)

  -- ---- captions that show nothing give nothing

  unfilled : (bs : Blocks) → is_filled bs ≡ false → bs ≡ no_blocks
  unfilled no_blocks e = refl
  unfilled (block b bs) e = absurd (true≢false e)

  abbrev ShowsNothing : Node → Type 0
  ShowsNothing n = shows_title name.FigureCaption n.tree ≡ false

  nothing-within : (n : Node) → HasNode k n → has (is_title_of name.FigureCaption) n.tree ≡ true
      → ShowsNothing n
      → (c : Context) → has_elements c ≡ true → blocks_within n c ≡ no_blocks
  nothing-within n h t s c e =
      let both = and_parts c.is_rich (not c.is_flat) e in
      let sits : Sits false (around_node n.tree c) =
      sits-around n.tree c (record { rich = both.0; line = not-true c.is_flat both.1 }) in
      unfilled (blocks_within n c) (h.filled (of-figure n.tree t) (around_node n.tree c) sits.rich sits.line
      ∙ (sym (ap (λ b. b && show false (content_of n.tree)) t) ∙ s))

  nothing-titled : (n : Node) → HasNode k n → has (is_title_of name.FigureCaption) n.tree ≡ true
      → ShowsNothing n
      → GivesIn in_flow (title_element name.FigureCaption n)
  nothing-titled n h t s at c f e = rw (nothing-within n h t s c e) (tt, (tt, tt))

  none-shows : (nodes : List Node) → list_any (λ (n : Node). shows_title name.FigureCaption n.tree) nodes ≡ false
      → AreSo ShowsNothing nodes
  none-shows [] e = tt
  none-shows (n ∷ nodes) e =
      let p = or_parts (shows_title name.FigureCaption n.tree)
      (list_any (λ (n : Node). shows_title name.FigureCaption n.tree) nodes) e in
      (p.0, none-shows nodes p.1)

  pub captions-gone : k.character space ≡ true → (nodes : List Node) → AllNodes k nodes
      → list_any (λ (n : Node). shows_title name.FigureCaption n.tree) nodes ≡ false
      → GivesIn in_flow (titled name.FigureCaption nodes)
  captions-gone spaces nodes h e =
      titled-flow spaces in_flow refl name.FigureCaption caption-alone ShowsNothing nothing-titled nodes h
      (none-shows nodes e)
