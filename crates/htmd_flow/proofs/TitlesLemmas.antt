-- Titles among nodes.
use Rattle.std.proofs.Common.{◌≡◌, ℕ, zero, suc, ◌+◌, ◌<◌, Bool, true, false, cond, not, ◌&&◌, ◌||◌, List, [], ◌∷◌, ◌++◌}
use Rattle.std.proofs.Common.{length, get_or, drop, take, map, refl, sym, ap, ◌∙◌, arith, append_assoc}
use Rattle.std.specs.Prelude.{None}
use Rattle.std.specs.List.{list_any, prefix_len}
use Rattle.std.proofs.lemmas.List.{map-append, drop-map, drop-drop}
use Rattle.htmd_lexical.proofs.Cases.{test}
use Rattle.htmd_document.specs.declared.document.BlockElement.{BlockElement}
use Rattle.htmd_document.specs.declared.document.BlockElement.TheVariants as name
use Rattle.htmd_lexical.specs.AttributePairs.{AttributePair}
use Rattle.htmd_shown.specs.declared.role.Role.{Role}
use Rattle.htmd_shown.specs.declared.role.Role.TheVariants as role
use Rattle.htmd_shown.specs.declared.simple.Simple.{Simple}
use Rattle.htmd_shown.specs.Kinds.{has, content_of}
use Rattle.htmd_shown.specs.Roles as roles
use Rattle.htmd_shown.specs.Showings.{show_usual_sign}
use Rattle.htmd_shown.specs.SimpleTrees as value
use Rattle.htmd_shown.specs.SimpleViews.{simple_of, simples_of}
use Rattle.htmd_flow.specs.Contexts.{Context, apart, has_elements, unlinked, is_linked_to_part}
use Rattle.htmd_flow.specs.Flows as spec
use Rattle.htmd_flow.specs.Flows.{Node, is_item, is_spaces, goes_on, items_in_a_row, flow_all, flow_after, list_parts}
use Rattle.htmd_flow.specs.Flows.{is_title_of, as_title, titled, title_element, around_title, around_node, within}
use Rattle.htmd_flow.specs.FlowViews.{node_at, nodes_at}
use Rattle.htmd_flow.specs.Parts.{Part}
use Rattle.htmd_flow.specs.TitleViews.{is_no_title}
use Rattle.htmd_flow.proofs.LoopsLemmas.{at_place, passed, stopped, rest_stops}
use Rattle.htmd_flow.proofs.NodesLemmas.{tree_is, content_is}
use Rattle.htmd_flow.proofs.RowsLemmas.{flow_one, not_false}

-- ---- a title is no item, and no white space

title_no_item : (title : BlockElement) (r : Role) → is_title_of title r ≡ true → roles.is_item r ≡ false
title_no_item name.Summary (role.Format x) h = refl
title_no_item name.Summary (role.Element x) h = refl
title_no_item name.Summary role.Abbreviation h = refl
title_no_item name.Summary role.Code h = refl
title_no_item name.Summary role.Typed h = refl
title_no_item name.Summary role.Link h = refl
title_no_item name.Summary role.Target h = refl
title_no_item name.Summary role.Apart h = refl
title_no_item name.Summary role.LineBreak h = refl
title_no_item name.Summary role.Input h = refl
title_no_item name.Summary (role.Heading x) h = refl
title_no_item name.Summary role.Paragraph h = refl
title_no_item name.Summary role.Preformatted h = refl
title_no_item name.Summary role.Verbatim h = refl
title_no_item name.Summary role.BlockQuote h = refl
title_no_item name.Summary role.ThematicBreak h = refl
title_no_item name.Summary role.BulletList h = refl
title_no_item name.Summary role.NumberedList h = refl
title_no_item name.Summary role.Item h = absurd (cc)
title_no_item name.Summary role.Terms h = refl
title_no_item name.Summary role.Term h = refl
title_no_item name.Summary role.Meaning h = refl
title_no_item name.Summary role.Table h = refl
title_no_item name.Summary role.LayoutTable h = refl
title_no_item name.Summary role.Caption h = refl
title_no_item name.Summary role.TableHead h = refl
title_no_item name.Summary role.TableBody h = refl
title_no_item name.Summary role.Row h = refl
title_no_item name.Summary role.Cell h = refl
title_no_item name.Summary role.HeaderCell h = refl
title_no_item name.Summary role.Division h = refl
title_no_item name.Summary role.Figure h = refl
title_no_item name.Summary role.FigureCaption h = refl
title_no_item name.Summary role.Details h = refl
title_no_item name.Summary role.Summary h = refl
title_no_item name.Summary role.Legend h = refl
title_no_item name.Summary role.Block h = refl
title_no_item name.Summary role.Plain h = refl
title_no_item name.Summary role.Anchors h = refl
title_no_item name.Summary role.Unlinked h = refl
title_no_item name.FigureCaption (role.Format x) h = refl
title_no_item name.FigureCaption (role.Element x) h = refl
title_no_item name.FigureCaption role.Abbreviation h = refl
title_no_item name.FigureCaption role.Code h = refl
title_no_item name.FigureCaption role.Typed h = refl
title_no_item name.FigureCaption role.Link h = refl
title_no_item name.FigureCaption role.Target h = refl
title_no_item name.FigureCaption role.Apart h = refl
title_no_item name.FigureCaption role.LineBreak h = refl
title_no_item name.FigureCaption role.Input h = refl
title_no_item name.FigureCaption (role.Heading x) h = refl
title_no_item name.FigureCaption role.Paragraph h = refl
title_no_item name.FigureCaption role.Preformatted h = refl
title_no_item name.FigureCaption role.Verbatim h = refl
title_no_item name.FigureCaption role.BlockQuote h = refl
title_no_item name.FigureCaption role.ThematicBreak h = refl
title_no_item name.FigureCaption role.BulletList h = refl
title_no_item name.FigureCaption role.NumberedList h = refl
title_no_item name.FigureCaption role.Item h = absurd (cc)
title_no_item name.FigureCaption role.Terms h = refl
title_no_item name.FigureCaption role.Term h = refl
title_no_item name.FigureCaption role.Meaning h = refl
title_no_item name.FigureCaption role.Table h = refl
title_no_item name.FigureCaption role.LayoutTable h = refl
title_no_item name.FigureCaption role.Caption h = refl
title_no_item name.FigureCaption role.TableHead h = refl
title_no_item name.FigureCaption role.TableBody h = refl
title_no_item name.FigureCaption role.Row h = refl
title_no_item name.FigureCaption role.Cell h = refl
title_no_item name.FigureCaption role.HeaderCell h = refl
title_no_item name.FigureCaption role.Division h = refl
title_no_item name.FigureCaption role.Figure h = refl
title_no_item name.FigureCaption role.FigureCaption h = refl
title_no_item name.FigureCaption role.Details h = refl
title_no_item name.FigureCaption role.Summary h = refl
title_no_item name.FigureCaption role.Legend h = refl
title_no_item name.FigureCaption role.Block h = refl
title_no_item name.FigureCaption role.Plain h = refl
title_no_item name.FigureCaption role.Anchors h = refl
title_no_item name.FigureCaption role.Unlinked h = refl
title_no_item name.Details r h = absurd (cc)
title_no_item name.Terms r h = absurd (cc)
title_no_item name.Term r h = absurd (cc)
title_no_item name.Meaning r h = absurd (cc)
title_no_item name.Figure r h = absurd (cc)
title_no_item name.Table r h = absurd (cc)
title_no_item name.Caption r h = absurd (cc)
title_no_item name.Row r h = absurd (cc)
title_no_item name.Cell r h = absurd (cc)
title_no_item name.HeaderCell r h = absurd (cc)

no_item : (title : BlockElement) (tree : value.Simple) → has (is_title_of title) tree ≡ true
    → has roles.is_item tree ≡ false
no_item title (value.element id r facts attributes content) h = title_no_item title r h
no_item title (value.text s) h = absurd (cc)
no_item title (value.image address attributes) h = absurd (cc)
no_item title (value.formula tex is_alone attributes) h = absurd (cc)
no_item title (value.embedded id address text attributes anchors) h = absurd (cc)
no_item title (value.anchor id) h = absurd (cc)

no_spaces : (title : BlockElement) (tree : value.Simple) → has (is_title_of title) tree ≡ true
    → is_spaces tree ≡ false
no_spaces title (value.element id r facts attributes content) h = refl
no_spaces title (value.text s) h = absurd (cc)
no_spaces title (value.image address attributes) h = absurd (cc)
no_spaces title (value.formula tex is_alone attributes) h = absurd (cc)
no_spaces title (value.embedded id address text attributes anchors) h = absurd (cc)
no_spaces title (value.anchor id) h = absurd (cc)

title_whole : (title : BlockElement) (n : Node) → has (is_title_of title) n.tree ≡ true
    → as_title title n ≡ record n { whole = title_element title n }
title_whole title n h = ap (λ b. cond b (record n { whole = title_element title n }) n) h

other_whole : (title : BlockElement) (n : Node) → has (is_title_of title) n.tree ≡ false → as_title title n ≡ n
other_whole title n h = ap (λ b. cond b (record n { whole = title_element title n }) n) h

title_at : (title : BlockElement) (t : Simple) → has (is_title_of title) (node_at t).tree
    ≡ has (is_title_of title) (simple_of t)
title_at title t = ap (has (is_title_of title)) (tree_is (simple_of t))

-- a title
pub title_step : (title : BlockElement) (ts : List Simple) (k : ℕ) (n : Simple) (context : Context) → k < length ts
    → n ≡ get_or ts k n → has (is_title_of title) (simple_of n) ≡ true
    → titled title (nodes_at (drop k ts)) context
    ≡ title_element title (node_at n) context ++ titled title (nodes_at (drop (k + 1) ts)) context
title_step title ts k n context l e h =
    let m = node_at n in
    let rest = map (as_title title) (nodes_at (drop (k + 1) ts)) in
    let made : Node = record m { whole = title_element title m } in
    ap (λ xs. titled title (nodes_at xs) context) (at_place ts k n l e)
    ∙ ap (λ x. flow_all (x ∷ rest) context) (title_whole title m (title_at title n ∙ h))
    ∙ flow_one made rest context
    (ap (has roles.is_item) (tree_is (simple_of n)) ∙ no_item title (simple_of n) h)

-- ---- what comes before a title

row_cut : (xs ys : List Node) → items_in_a_row ys ≡ [] → items_in_a_row (xs ++ ys) ≡ items_in_a_row xs
row_cut [] ys h = h
row_cut (x ∷ xs) ys h = ap (λ zs. cond (goes_on x) (x ∷ zs) []) (row_cut xs ys h)

mutual
  flow_cut : (xs ys : List Node) (context : Context) → items_in_a_row ys ≡ []
      → flow_after ys context ≡ flow_all ys context
      → flow_all (xs ++ ys) context ≡ flow_all xs context ++ flow_all ys context
  flow_cut [] ys context h k = refl
  flow_cut (x ∷ xs) ys context h k = test (is_item x)
      (λ e. ap (λ b. cond b (list_parts None (x ∷ items_in_a_row (xs ++ ys)) context
      ++ flow_after (xs ++ ys) context)
      (x.whole context ++ flow_all (xs ++ ys) context)) e
      ∙ ap (λ r. list_parts None (x ∷ r) context ++ flow_after (xs ++ ys) context) (row_cut xs ys h)
      ∙ ap (λ ps. list_parts None (x ∷ items_in_a_row xs) context ++ ps) (after_cut xs ys context h k)
      ∙ sym (append_assoc (list_parts None (x ∷ items_in_a_row xs) context) (flow_after xs context)
      (flow_all ys context))
      ∙ sym (ap (λ b. cond b (list_parts None (x ∷ items_in_a_row xs) context ++ flow_after xs context)
      (x.whole context ++ flow_all xs context) ++ flow_all ys context) e))
      (λ e. flow_one x (xs ++ ys) context e
      ∙ ap (λ ps. x.whole context ++ ps) (flow_cut xs ys context h k)
      ∙ sym (append_assoc (x.whole context) (flow_all xs context) (flow_all ys context))
      ∙ sym (ap (λ ps. ps ++ flow_all ys context) (flow_one x xs context e)))

  after_cut : (xs ys : List Node) (context : Context) → items_in_a_row ys ≡ []
      → flow_after ys context ≡ flow_all ys context
      → flow_after (xs ++ ys) context ≡ flow_after xs context ++ flow_all ys context
  after_cut [] ys context h k = k
  after_cut (x ∷ xs) ys context h k = test (goes_on x)
      (λ e. ap (λ b. cond b (flow_after (xs ++ ys) context) (x.whole context ++ flow_all (xs ++ ys) context)) e
      ∙ after_cut xs ys context h k
      ∙ sym (ap (λ b. cond b (flow_after xs context) (x.whole context ++ flow_all xs context) ++ flow_all ys context)
      e))
      (λ e. ap (λ b. cond b (flow_after (xs ++ ys) context) (x.whole context ++ flow_all (xs ++ ys) context)) e
      ∙ ap (λ ps. x.whole context ++ ps) (flow_cut xs ys context h k)
      ∙ sym (append_assoc (x.whole context) (flow_all xs context) (flow_all ys context))
      ∙ sym (ap (λ b. cond b (flow_after xs context) (x.whole context ++ flow_all xs context) ++ flow_all ys context)
      e))

-- where nodes end, or a title is next
abbrev AreCut : List Node → Context → Type 0
AreCut ys context = (items_in_a_row ys ≡ []) × (flow_after ys context ≡ flow_all ys context)

or_false : (a b : Bool) → a ≡ false → b ≡ false → (a || b) ≡ false
or_false a b e f = ap (λ x. x || b) e ∙ f

cut_at : (title : BlockElement) (ts : List Simple) (context : Context)
    → prefix_len (is_no_title title) (map simple_of ts) ≡ 0
    → AreCut (map (as_title title) (nodes_at ts)) context
cut_at title [] context h = (refl, refl)
cut_at title (t ∷ ts) context h =
    let m = node_at t in
    let made : Node = record m { whole = title_element title m } in
    let rest = map (as_title title) (nodes_at ts) in
    let is : has (is_title_of title) (simple_of t) ≡ true = first (simple_of t) (map simple_of ts) h in
    let same = title_whole title m (title_at title t ∙ is) in
    let item : is_item made ≡ false = ap (has roles.is_item) (tree_is (simple_of t))
    ∙ no_item title (simple_of t) is in
    let white : is_spaces made.tree ≡ false = ap is_spaces (tree_is (simple_of t))
    ∙ no_spaces title (simple_of t) is in
    let ends : goes_on made ≡ false = or_false (is_item made) (is_spaces made.tree) item white in (
      ap (λ x. items_in_a_row (x ∷ rest)) same ∙ ap (λ b. cond b (made ∷ items_in_a_row rest) []) ends,
      ap (λ x. flow_after (x ∷ rest) context) same
          ∙ ap (λ b. cond b (flow_after rest context) (made.whole context ++ flow_all rest context)) ends
          ∙ sym (flow_one made rest context item) ∙ sym (ap (λ x. flow_all (x ∷ rest) context) same),
    )
  where
    first : (s : value.Simple) (ss : List value.Simple) → prefix_len (is_no_title title) (s ∷ ss) ≡ 0
        → has (is_title_of title) s ≡ true
    first s ss e = test (is_no_title title s)
        (λ f. let n : suc (prefix_len (is_no_title title) ss) ≡ 0 = sym (passed (is_no_title title) s ss f) ∙ e in
        absurd (omega (arith, n)))
        (λ f. not_false (has (is_title_of title) s) f)

-- no title is among the first of these
unchanged : (title : BlockElement) (ts : List Simple) (n : ℕ)
    → n ≡ prefix_len (is_no_title title) (map simple_of ts)
    → map (as_title title) (nodes_at (take n ts)) ≡ nodes_at (take n ts)
unchanged title ts n e = ap (λ k. map (as_title title) (nodes_at (take k ts))) e ∙ go ts
    ∙ ap (λ k. nodes_at (take k ts)) (sym e)
  where
    go : (us : List Simple)
        → map (as_title title) (nodes_at (take (prefix_len (is_no_title title) (map simple_of us)) us))
        ≡ nodes_at (take (prefix_len (is_no_title title) (map simple_of us)) us)
    go [] = refl
    go (u ∷ us) = test (is_no_title title (simple_of u))
        (λ f. ap (λ k. map (as_title title) (nodes_at (take k (u ∷ us))))
        (passed (is_no_title title) (simple_of u) (map simple_of us) f)
        ∙ ap (λ x. x ∷ map (as_title title)
        (nodes_at (take (prefix_len (is_no_title title) (map simple_of us)) us)))
        (other_whole title (node_at u) (title_at title u ∙ not_true_of (has (is_title_of title) (simple_of u)) f))
        ∙ ap (λ xs. node_at u ∷ xs) (go us)
        ∙ sym (ap (λ k. nodes_at (take k (u ∷ us)))
        (passed (is_no_title title) (simple_of u) (map simple_of us) f)))
        (λ f. ap (λ k. map (as_title title) (nodes_at (take k (u ∷ us))))
        (stopped (is_no_title title) (simple_of u) (map simple_of us) f)
        ∙ sym (ap (λ k. nodes_at (take k (u ∷ us)))
        (stopped (is_no_title title) (simple_of u) (map simple_of us) f)))
      where
        not_true_of : (b : Bool) → not b ≡ true → b ≡ false
        not_true_of true g = absurd (cc)
        not_true_of false g = refl

taken_dropped : {A : Type 0} (n : ℕ) (xs : List A) → xs ≡ take n xs ++ drop n xs
taken_dropped zero xs = refl
taken_dropped (suc n) [] = refl
taken_dropped (suc n) (x ∷ xs) = ap (λ ys. x ∷ ys) (taken_dropped n xs)

-- what comes before the first title of these
pub run_step : (title : BlockElement) (ts : List Simple) (k len m : ℕ) (context : Context)
    → len ≡ prefix_len (is_no_title title) (map simple_of (drop k ts)) → m ≡ len
    → titled title (nodes_at (drop k ts)) context
    ≡ flow_all (nodes_at (take m (drop k ts))) context ++ titled title (nodes_at (drop (k + len) ts)) context
run_step title ts k len m context e w =
    let us = drop k ts in
    let rest = drop len us in
    let cut : prefix_len (is_no_title title) (map simple_of rest) ≡ 0 =
    ap (λ j. prefix_len (is_no_title title) (map simple_of (drop j us))) e
    ∙ ap (prefix_len (is_no_title title))
    (sym (drop-map simple_of (prefix_len (is_no_title title) (map simple_of us)) us))
    ∙ rest_stops (is_no_title title) (map simple_of us) in
    let are = cut_at title rest context cut in
    ap (λ xs. titled title (nodes_at xs) context) (taken_dropped len us)
    ∙ ap (λ xs. flow_all (map (as_title title) xs) context) (map-append node_at (take len us) rest)
    ∙ ap (λ xs. flow_all xs context) (map-append (as_title title) (nodes_at (take len us)) (nodes_at rest))
    ∙ flow_cut (map (as_title title) (nodes_at (take len us))) (map (as_title title) (nodes_at rest)) context are.0
    are.1
    ∙ ap (λ xs. flow_all xs context ++ titled title (nodes_at rest) context) (unchanged title us len e)
    ∙ ap (λ j. flow_all (nodes_at (take j us)) context ++ titled title (nodes_at rest) context) (sym w)
    ∙ ap (λ xs. flow_all (nodes_at (take m us)) context ++ titled title (nodes_at xs) context) (drop-drop len k ts)

-- some do, where none is next
pub run_some : (title : BlockElement) (ts : List Simple) (k : ℕ) (n : Simple) (len : ℕ) → k < length ts
    → n ≡ get_or ts k n → has (is_title_of title) (simple_of n) ≡ false
    → len ≡ prefix_len (is_no_title title) (map simple_of (drop k ts)) → 0 < len
run_some title ts k n len l e h v =
    let more = v ∙ ap (λ xs. prefix_len (is_no_title title) (map simple_of xs)) (at_place ts k n l e)
    ∙ passed (is_no_title title) (simple_of n) (map simple_of (drop (k + 1) ts)) (ap not h) in
    omega (arith, more)

-- ---- what is in a title

pub any_at : (is_so : value.Simple → Bool) (ts : List Simple)
    → list_any is_so (map simple_of ts) ≡ list_any (λ (n : Node). is_so n.tree) (nodes_at ts)
any_at is_so [] = refl
any_at is_so (t ∷ ts) =
    ap (λ s. is_so s || list_any is_so (map simple_of ts)) (sym (tree_is (simple_of t)))
    ∙ ap (λ b. is_so (node_at t).tree || b) (any_at is_so ts)

-- the content of a title
pub within_title : (n : Simple) (content : List Simple) (context : Context)
    → simples_of content ≡ content_of (simple_of n)
    → has roles.is_title (simple_of n) ≡ true
    → flow_all (nodes_at content) (around_title (simples_of content) context) ≡ within (node_at n) context
within_title n content context e h =
    content_is (simple_of n) content (around_title (simples_of content) context) e
    ∙ ap (λ s. (node_at n).content (around_title s context)) e
    ∙ sym (ap (λ t. (node_at n).content (around_node t context)) (tree_is (simple_of n))
    ∙ ap (λ b. (node_at n).content (cond b (around_title (content_of (simple_of n)) context) context)) h)

-- of a node that is none
pub within_other : (n : Simple) (content : List Simple) (context : Context)
    → simples_of content ≡ content_of (simple_of n)
    → has roles.is_title (simple_of n) ≡ false
    → flow_all (nodes_at content) context ≡ within (node_at n) context
within_other n content context e h =
    content_is (simple_of n) content context e
    ∙ sym (ap (λ t. (node_at n).content (around_node t context)) (tree_is (simple_of n))
    ∙ ap (λ b. (node_at n).content (cond b (around_title (content_of (simple_of n)) context) context)) h)

pub title_unlinked : (content : value.Simples) (context : Context)
    → (has_elements context && is_linked_to_part context && show_usual_sign content) ≡ true
    → unlinked context ≡ around_title content context
title_unlinked content context h = sym (ap (λ b. cond b (unlinked context) context) h)

pub title_linked : (content : value.Simples) (context : Context)
    → (has_elements context && is_linked_to_part context && show_usual_sign content) ≡ false
    → context ≡ around_title content context
title_linked content context h = sym (ap (λ b. cond b (unlinked context) context) h)

-- ---- details and figures

module _ (ns : List Node) (context : Context) where
  module _ (attributes : List AttributePair) where
    abbrev details_made : List Part
    details_made = spec.element_part name.Details (spec.open_attribute attributes)
        (spec.blocks_of false (titled name.Summary ns context))

    pub details_content : has_elements context ≡ false
        → apart (flow_all ns context) ≡ spec.details_parts attributes ns context
    details_content h = sym (ap (λ b. apart (cond b details_made (flow_all ns context))) h)

    pub details_element : has_elements context ≡ true
        → apart details_made ≡ spec.details_parts attributes ns context
    details_element h = sym (ap (λ b. apart (cond b details_made (flow_all ns context))) h)

  pub figure_content : has_elements context ≡ false → apart (flow_all ns context) ≡ spec.figure_parts ns context
  figure_content h = sym (ap (λ b. apart (cond b (spec.captioned ns context) (flow_all ns context))) h)

  pub figure_captioned : has_elements context ≡ true
      → apart (spec.captioned ns context) ≡ spec.figure_parts ns context
  figure_captioned h = sym (ap (λ b. apart (cond b (spec.captioned ns context) (flow_all ns context))) h)

  abbrev shows_caption : Bool
  shows_caption = list_any (λ (n : Node). spec.shows_title name.FigureCaption n.tree) ns

  pub no_caption_shown : shows_caption ≡ false → titled name.FigureCaption ns context ≡ spec.captioned ns context
  no_caption_shown h = sym (ap (λ b. spec.figure_by b (titled name.FigureCaption ns context)) h)

  pub caption_shown : shows_caption ≡ true
      → spec.element_part name.Figure [] (spec.blocks_of false (titled name.FigureCaption ns context))
      ≡ spec.captioned ns context
  caption_shown h = sym (ap (λ b. spec.figure_by b (titled name.FigureCaption ns context)) h)
