-- What elements give, by what stands around them.
use Rattle.std.proofs.Common.{◌≡◌, ℕ, Bool, true, false, cond, ◌&&◌, List, [], ◌∷◌, ◌++◌, sym, ap, ◌∙◌, append_assoc}
use Rattle.std.specs.Prelude.{ℤ, Option}
use Rattle.htmd_shown.specs.declared.facts.Facts.{Facts}
use Rattle.htmd_shown.specs.SimpleTrees.{Simple}
use Rattle.htmd_flow.specs.Contexts.{Context, apart, deeper, in_one_line, is_lined, unlinked, is_linked_to_part}
use Rattle.htmd_flow.specs.Lists as lists
use Rattle.htmd_flow.specs.Flows as spec
use Rattle.htmd_flow.specs.Parts.{Part, edge}

-- ---- lists, headings, quotes and tables

module _ (start : Option ℤ) (ns : List spec.Node) (context : Context) where
  abbrev pub list_between : List Part
  list_between = (edge ∷ spec.before_items ns context)
      ++ apart (lists.lists_if_filled context.nested start (spec.items_of ns (deeper context)))

  abbrev as_defined : List Part
  as_defined = (edge ∷ spec.before_items ns context)
      ++ edge ∷ lists.lists_if_filled context.nested start (spec.items_of ns (deeper context)) ++ edge ∷ []

  same_parts : list_between ≡ as_defined
  same_parts = sym (append_assoc (edge ∷ spec.before_items ns context)
      (edge ∷ lists.lists_if_filled context.nested start (spec.items_of ns (deeper context))) (edge ∷ []))

  pub list_filled : is_lined context ≡ false → list_between ≡ spec.list_parts start ns context
  list_filled e = same_parts ∙ sym (ap (λ b. cond b (apart (spec.each_whole ns context)) as_defined) e)

module _ (ns : List spec.Node) (context : Context) where
  module _ (facts : Facts) where
    pub heading_flat : (level : ℕ) → context.is_flat ≡ true
        → apart (spec.flow_all ns context) ≡ spec.heading_parts level facts ns context
    heading_flat level e = sym (ap (λ b. apart (cond b (spec.flow_all ns context)
        (spec.heading_of level (spec.line_of (spec.flow_all ns (in_one_line (spec.around_heading facts context))))))) e)

    pub heading_line : (level : ℕ) → context.is_flat ≡ false
        → apart (spec.heading_of level (spec.line_of (spec.flow_all ns
        (in_one_line (spec.around_heading facts context)))))
        ≡ spec.heading_parts level facts ns context
    heading_line level e = sym (ap (λ b. apart (cond b (spec.flow_all ns context)
        (spec.heading_of level (spec.line_of (spec.flow_all ns (in_one_line (spec.around_heading facts context))))))) e)

    pub heading_unlinked : (facts.shows_sign && is_linked_to_part context) ≡ true
        → unlinked context ≡ spec.around_heading facts context
    heading_unlinked e = sym (ap (λ b. cond b (unlinked context) context) e)

    pub heading_linked : (facts.shows_sign && is_linked_to_part context) ≡ false
        → context ≡ spec.around_heading facts context
    heading_linked e = sym (ap (λ b. cond b (unlinked context) context) e)

  pub quote_lined : is_lined context ≡ true → apart (spec.flow_all ns context) ≡ spec.quote_parts ns context
  quote_lined e = sym (ap (λ b. apart (cond b (spec.flow_all ns context)
      (spec.quote_of (spec.blocks_of false (spec.flow_all ns (deeper context)))))) e)

  pub quote_filled : is_lined context ≡ false
      → apart (spec.quote_of (spec.blocks_of false (spec.flow_all ns (deeper context))))
      ≡ spec.quote_parts ns context
  quote_filled e = sym (ap (λ b. apart (cond b (spec.flow_all ns context)
      (spec.quote_of (spec.blocks_of false (spec.flow_all ns (deeper context)))))) e)

  pub anchors_flat : context.is_flat ≡ true → spec.flow_all ns context ≡ spec.anchors_apart ns context
  anchors_flat e = sym (ap (λ b. cond b (spec.flow_all ns context) (apart (spec.flow_all ns context))) e)

  pub anchors_alone : context.is_flat ≡ false → apart (spec.flow_all ns context) ≡ spec.anchors_apart ns context
  anchors_alone e = sym (ap (λ b. cond b (spec.flow_all ns context) (apart (spec.flow_all ns context))) e)

  module _ (trees : List Simple) (rows : List spec.Row) where
    -- a table of rows and columns, and one for the page's layout
    abbrev pub rows_and_columns : Bool → List Part
    rows_and_columns flat =
        edge ∷ cond flat (spec.grid_in_one_line ns rows context) (spec.grid_inside ns rows context)

    pub table_page : spec.is_grid trees rows ≡ false
        → apart (spec.flow_all ns context) ≡ spec.table_parts trees ns rows context
    table_page e = sym (ap (λ b. cond b (rows_and_columns context.is_flat) (apart (spec.flow_all ns context))) e)

    pub table_flat : spec.is_grid trees rows ≡ true → context.is_flat ≡ true
        → edge ∷ spec.grid_in_one_line ns rows context ≡ spec.table_parts trees ns rows context
    table_flat e f = sym (ap (λ b. cond b (rows_and_columns context.is_flat) (apart (spec.flow_all ns context))) e
        ∙ ap rows_and_columns f)

    pub table_grid : spec.is_grid trees rows ≡ true → context.is_flat ≡ false
        → edge ∷ spec.grid_inside ns rows context ≡ spec.table_parts trees ns rows context
    table_grid e f = sym (ap (λ b. cond b (rows_and_columns context.is_flat) (apart (spec.flow_all ns context))) e
        ∙ ap rows_and_columns f)
