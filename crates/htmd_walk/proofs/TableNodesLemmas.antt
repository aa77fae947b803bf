-- The nodes that a table asks for stand below it.
use Rattle.std.proofs.Common.{ℕ, zero, suc, ◌<◌, List, [], ◌∷◌, ◌++◌, get_or, sym, ap, ◌∙◌, arith, All}
use Rattle.std.proofs.Common.{Bool, true, false, cond, codes, subst, fold}
use Rattle.std.proofs.Props.{props}
use Rattle.std.proofs.Math.Logic.{∥∥₁_elim}
use Rattle.std.proofs.lemmas.Grind.{flat_map-append}
use Rattle.std.proofs.lemmas.List.{append-nil}
use Rattle.std.proofs.lemmas.List.Elements.{All-from_get_or, All-append, All-filter, Contains-get_or}
use Rattle.htmd_nodes.specs.Items.{Item, children_of, data_at, tag_of, IsBelow, deeper}
use Rattle.htmd_walk.specs.declared.element_handler.table_layout.PartKind.{PartKind}
use Rattle.htmd_walk.specs.declared.element_handler.table_layout.PartKind.TheVariants.{Caption, Headers, Row}
use Rattle.htmd_walk.specs.declared.element_handler.table_layout.TableChild.{TableChild}
use Rattle.htmd_walk.specs.declared.element_handler.table_layout.TableChild.TheVariants.{TableCaption, TableHead}
use Rattle.htmd_walk.specs.declared.element_handler.table_layout.TableChild.TheVariants.{TableSection, DirectRow}
use Rattle.htmd_walk.specs.declared.element_handler.table_layout.TableChild.TheVariants.{OtherChild}
use Rattle.htmd_walk.specs.TableLayouts.{Part, Layout, part, has_tag, tagged_children, if_none, header_cells}
use Rattle.htmd_walk.specs.TableLayouts.{with_cells, with_row, with_headers_or, is_headless, with_section_row}
use Rattle.htmd_walk.specs.TableLayouts.{with_table_row, head_row, with_head, table_child, with_table_child, with_child}
use Rattle.htmd_walk.specs.TableLayouts.{empty_layout, layout_of, nodes_of}
use Rattle.htmd_walk.proofs.ChildListsLemmas.{children_proper}

-- what holds for the first state and is kept by each step holds for the last
pub fold_keeps : {A B : Type 0} (P : B → Type 0) (Q : A → Type 0) (f : B → A → B)
    → ((b : B) (a : A) → P b → Q a → P (f b a)) → (b : B) (xs : List A) → P b → All Q xs
    → P (fold f b xs)
fold_keeps P Q f step b [] p q = p
fold_keeps P Q f step b (x ∷ xs) p q =
    fold_keeps P Q f step (f b x) xs (step b x p (q 0 x (omega arith))) (λ i d l. q (suc i) d (omega arith))

module _ (items : List Item) (table : ℕ) where
  abbrev pub Below : ℕ → Type 0
  Below d = ∥ IsBelow items table d ∥₁

  abbrev Proper : Layout → Type 0
  Proper layout = All Below (nodes_of layout.parts)

  Below-prop : (d : ℕ) → IsProp (Below d)
  Below-prop d = hlevel props

  pub one : (d : ℕ) → Below d → All Below (d ∷ [])
  one d h = All-from_get_or Below (d ∷ []) d (λ i l. first i l)
    where
      first : (i : ℕ) → i < 1 → Below (get_or (d ∷ []) i d)
      first zero l = h
      first (suc i) l = absurd (omega arith)

  pub children_below : (d : ℕ) → Below d → All Below (children_of items d)
  children_below d h = All-from_get_or Below (children_of items d) 0
      (λ i l. ∥∥₁_elim h (Below-prop (get_or (children_of items d) i 0))
      (λ b. ∣ deeper b (Contains-get_or (children_of items d) i 0 l) ∣₁))

  pub tagged_below : (tag : List ℕ) (d : ℕ) → Below d → All Below (tagged_children tag items d)
  tagged_below tag d h = All-filter (has_tag (tag ∷ []) items) Below (children_of items d) (children_below d h)

  if_none-below : (ds es : List ℕ) → All Below ds → All Below es → All Below (if_none ds es)
  if_none-below [] es p q = q
  if_none-below (d ∷ ds) es p q = p

  header_cells-below : (d : ℕ) → Below d → All Below (header_cells items d)
  header_cells-below d h = if_none-below (tagged_children (codes "th") items d) (tagged_children (codes "td") items d)
      (tagged_below (codes "th") d h) (tagged_below (codes "td") d h)

  -- one more part
  more-below : (parts : List Part) (kind : PartKind) (ds : List ℕ) → All Below (nodes_of parts) → All Below ds
      → All Below (nodes_of (parts ++ part kind ds ∷ []))
  more-below parts kind ds p q =
      subst (All Below) (sym (flat_map-append (λ (x : Part). x.nodes) parts (part kind ds ∷ [])
      ∙ ap (λ zs. nodes_of parts ++ zs) (append-nil ds))) (All-append Below (nodes_of parts) ds p q)

  with_cells-proper : (ds : List ℕ) (layout : Layout) → Proper layout → All Below ds
      → Proper (with_cells ds layout)
  with_cells-proper [] layout p q = p
  with_cells-proper (d ∷ ds) layout p q = more-below layout.parts Row (d ∷ ds) p q

  with_headers_or-proper : (ds : List ℕ) (other layout : Layout) → Proper other → Proper layout → All Below ds
      → Proper (with_headers_or ds other layout)
  with_headers_or-proper [] other layout o p q = o
  with_headers_or-proper (d ∷ ds) other layout o p q = more-below layout.parts Headers (d ∷ ds) p q

  with_row-proper : (d : ℕ) (layout : Layout) → Proper layout → Below d → Proper (with_row items d layout)
  with_row-proper d layout p h = with_cells-proper (tagged_children (codes "td") items d) layout p
      (tagged_below (codes "td") d h)

  either : (b : Bool) (x y : Layout) → Proper x → Proper y → Proper (cond b x y)
  either true x y p q = p
  either false x y p q = q

  section_row-proper : (layout : Layout) (d : ℕ) → Proper layout → Below d
      → Proper (with_section_row items layout d)
  section_row-proper layout d p h = either (is_headless layout)
      (with_headers_or (tagged_children (codes "th") items d) (with_row items d layout) layout)
      (with_row items d layout)
      (with_headers_or-proper (tagged_children (codes "th") items d) (with_row items d layout) layout
      (with_row-proper d layout p h) p (tagged_below (codes "th") d h)) (with_row-proper d layout p h)

  table_row-proper : (layout : Layout) (d : ℕ) → Proper layout → Below d
      → Proper (with_table_row items d layout)
  table_row-proper layout d p h = either (is_headless layout)
      (with_headers_or (header_cells items d) layout layout) (with_row items d layout)
      (with_headers_or-proper (header_cells items d) layout layout p p (header_cells-below d h))
      (with_row-proper d layout p h)

  head_row-below : (ds : List ℕ) (d : ℕ) → All Below ds → Below d → Below (head_row ds d)
  head_row-below [] d q h = h
  head_row-below (e ∷ ds) d q h = q 0 e (omega arith)

  head-proper : (layout : Layout) (d : ℕ) → Proper layout → Below d → Proper (with_head items d layout)
  head-proper layout d p h =
      let row = head_row (tagged_children (codes "tr") items d) d in
      more-below layout.parts Headers (header_cells items row) p
      (header_cells-below row (head_row-below (tagged_children (codes "tr") items d) d
      (tagged_below (codes "tr") d h) h))

  section-proper : (layout : Layout) (d : ℕ) → Proper layout → Below d
      → Proper (fold (with_section_row items) layout (tagged_children (codes "tr") items d))
  section-proper layout d p h = fold_keeps Proper Below (with_section_row items) section_row-proper layout
      (tagged_children (codes "tr") items d) p (tagged_below (codes "tr") d h)

  table_child-proper : (kind : TableChild) (layout : Layout) (d : ℕ) → Proper layout → Below d
      → Proper (with_table_child kind items layout d)
  table_child-proper TableCaption layout d p h = more-below layout.parts Caption (d ∷ []) p (one d h)
  table_child-proper TableHead layout d p h = head-proper layout d p h
  table_child-proper TableSection layout d p h = section-proper layout d p h
  table_child-proper DirectRow layout d p h = table_row-proper layout d p h
  table_child-proper OtherChild layout d p h = p

  child-proper : (layout : Layout) (d : ℕ) → Proper layout → Below d → Proper (with_child items layout d)
  child-proper layout d p h = table_child-proper (table_child (tag_of (data_at items d))) layout d p h

  -- what a table asks for
  pub layout-proper : All Below (nodes_of (layout_of items table).parts)
  layout-proper = fold_keeps Proper Below (with_child items) child-proper empty_layout (children_of items table)
      (λ i d l. absurd (omega arith)) (children_proper items table)
