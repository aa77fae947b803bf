-- One step of the walk over nodes beside each other.
use Rattle.std.proofs.Common.{◌≡◌, ℕ, Bool, true, false, cond, ◌||◌, ◌&&◌, List, [], Option, Some, None, refl, sym, ap}
use Rattle.std.proofs.Common.{◌∙◌, zero, suc, ◌∷◌, not, codes, is_some, drop, length, map, Bor, arith}
use Rattle.std.proofs.lemmas.Bool.Decides.{nat_tests}
use Rattle.std.specs.Prelude.{◌==◌}
use Rattle.htmd_lexical.specs.AttributePairs.{AttributePair}
use Rattle.htmd_lexical.specs.Attributes.{pairs_of}
use Rattle.htmd_lexical.specs.declared.attribute.Attribute.{Attribute}
use Rattle.htmd_document.specs.declared.document.InlineElement.{InlineElement}
use Rattle.htmd_nodes.specs.Items.{Item, IsTree, children_of, document_node}
use Rattle.htmd_nodes.specs.NumberedTrees.{NumberedTree, NumberedForest, tree_of, forest_of}
use Rattle.htmd_nodes.specs.NumberedTrees as page
use Rattle.htmd_shown.specs.Repeats.{is_copy, is_copy_of, is_element, is_passed, is_tex_script, last_element}
use Rattle.htmd_shown.specs.Repeats.{leads_to_script, has_script, is_script, is_script_element}
use Rattle.htmd_shown.specs.Formulas.{is_tex_type, raw_text_among, text_if_shown}
use Rattle.htmd_shown.specs.Roles.{is_among}
use Rattle.htmd_shown.specs.Shown.{Sight, Surroundings, followed_by, formats_after, format_of, marked, marks, nowhere}
use Rattle.htmd_shown.specs.Shown.{raised, raised_one, shown_in}
use Rattle.htmd_shown.specs.Shown.{shown, shown_all, source_after, source_for, with_one}
use Rattle.htmd_shown.specs.SightViews.{next_shown, formats_past, raised_next}
use Rattle.htmd_shown.specs.ShownTexts.{shown_text}
use Rattle.htmd_shown.specs.SimpleTrees.{Simple, Simples, none, more, text}
use Rattle.htmd_shown.proofs.PageLemmas.{by_data}

pub none_after : (ts : Simples) → followed_by ts none ≡ ts
none_after none = refl
none_after (more t ts) = ap (more t) (none_after ts)

pub one_after : (ts : Simples) (t : Simple) (rest : Simples)
    → followed_by (followed_by ts (more t none)) rest ≡ followed_by ts (more t rest)
one_after none t rest = refl
one_after (more x ts) t rest = ap (more x) (one_after ts t rest)

pub not_raised : (id : ℕ) (ts : Simples) → raised [] id ts ≡ ts
not_raised id none = refl
not_raised id (more t ts) = ap (more t) (not_raised id ts)

text_formats : (formats : List (Option InlineElement)) (s : List ℕ) → formats_after formats (text s) ≡ formats
text_formats [] s = refl
text_formats (format ∷ formats) s = refl

text_raised : (format : Option InlineElement) (id : ℕ) (s : List ℕ) → raised_one format id (text s) ≡ text s
text_raised None id s = refl
text_raised (Some format) id s = refl

-- what follows a node that is passed follows what is before it
repeat_parts : (copied element passed follows is_tex : Bool)
    → (copied || ((element && passed) && follows)) ≡ (copied || ((element && passed) && cond passed follows is_tex))
repeat_parts copied true true follows is_tex = refl
repeat_parts copied true false follows is_tex = refl
repeat_parts copied false passed follows is_tex = refl

module _ (sight : Sight) (around : Surroundings) (id : ℕ) where
  -- with what is known at a node, as the next one shows
  pub shown_next : (source : Option (List ℕ)) (before : Option (List AttributePair)) (tree : NumberedTree)
      (trees : NumberedForest)
      → shown_all sight around source before (page.more tree trees)
      ≡ with_one (next_shown sight around source before tree (leads_to_script sight.skip (page.more tree trees)))
      (shown_all sight around (source_after source tree) (last_element before tree) trees)
  unfolding shown_all
  shown_next source before tree trees =
      ap (λ b. with_one (cond b None (shown sight around (source_for source tree) tree))
      (shown_all sight around (source_after source tree) (last_element before tree) trees))
      (repeat_parts (is_copy before tree) (is_element tree) (is_passed tree) (leads_to_script sight.skip trees)
      (is_tex_script sight.skip tree))

  pub shown_none : (source : Option (List ℕ)) (before : Option (List AttributePair))
      → shown_all sight around source before page.none ≡ none
  unfolding shown_all
  shown_none source before = refl

  -- at the end of the nodes
  pub all_walked : (done all : Simples) (formats : List (Option InlineElement)) (source : Option (List ℕ))
      (before : Option (List AttributePair)) (trees : NumberedForest) (quoted : Bool) → trees ≡ page.none
      → followed_by done (raised formats id (shown_all sight around source before trees))
      ≡ followed_by (marks quoted) all → done ≡ followed_by (marks quoted) all
  all_walked done all formats source before trees quoted e f =
      sym (none_after done)
      ∙ ap (λ ts. followed_by done (raised formats id ts))
      (sym (ap (shown_all sight around source before) e ∙ shown_none source before))
      ∙ f

  -- the nodes so far, and those to come
  pub step : (done after : Simples) (formats rest : List (Option InlineElement)) (source : Option (List ℕ))
      (before : Option (List AttributePair)) (tree : NumberedTree) (trees : NumberedForest) (found : Option Simple)
      (follows : Bool) → follows ≡ leads_to_script sight.skip (page.more tree trees)
      → found ≡ next_shown sight around source before tree follows
      → rest ≡ formats_past formats found
      → after ≡ followed_by done (raised_next (format_of formats) id found)
      → followed_by after (raised rest id
      (shown_all sight around (source_after source tree) (last_element before tree) trees))
      ≡ followed_by done (raised formats id (shown_all sight around source before (page.more tree trees)))
  step done after formats rest source before tree trees found follows e f g h =
      let others = shown_all sight around (source_after source tree) (last_element before tree) trees in
      ap (λ x. followed_by x (raised rest id others)) h
      ∙ ap (λ x. followed_by (followed_by done (raised_next (format_of formats) id found)) (raised x id others)) g
      ∙ by_found found others
      ∙ ap (λ x. followed_by done (raised formats id (with_one x others)))
      (f ∙ ap (next_shown sight around source before tree) e)
      ∙ ap (λ ts. followed_by done (raised formats id ts)) (sym (shown_next source before tree trees))
    where
      by_found : (x : Option Simple) (others : Simples)
          → followed_by (followed_by done (raised_next (format_of formats) id x))
          (raised (formats_past formats x) id others)
          ≡ followed_by done (raised formats id (with_one x others))
      by_found None others = ap (λ x. followed_by x (raised formats id others)) (none_after done)
      by_found (Some t) others =
          one_after done (raised_one (format_of formats) id t) (raised (formats_after formats t) id others)

  -- one turn of the walk: what is left gives the same
  pub turn : (done after : Simples) (formats rest : List (Option InlineElement)) (format : Option InlineElement)
      (source source_next : Option (List ℕ)) (before before_next : Option (List AttributePair))
      (nodes : NumberedForest) (tree : NumberedTree) (trees : NumberedForest) (found : Option Simple) (follows : Bool)
      (all : Simples)
      → nodes ≡ page.more tree trees
      → follows ≡ leads_to_script sight.skip nodes
      → found ≡ next_shown sight around source before tree follows
      → format ≡ format_of formats
      → rest ≡ formats_past formats found
      → after ≡ followed_by done (raised_next format id found)
      → source_next ≡ source_after source tree
      → before_next ≡ last_element before tree
      → followed_by done (raised formats id (shown_all sight around source before nodes)) ≡ all
      → followed_by after (raised rest id (shown_all sight around source_next before_next trees)) ≡ all
  turn done after formats rest format source source_next before before_next nodes tree trees found follows all
      e f g h i j k l m =
      ap (λ x. followed_by after (raised rest id (shown_all sight around x before_next trees))) k
      ∙ ap (λ x. followed_by after (raised rest id (shown_all sight around (source_after source tree) x trees))) l
      ∙ step done after formats rest source before tree trees found follows
      (f ∙ ap (leads_to_script sight.skip) e) g i
      (j ∙ ap (λ x. followed_by done (raised_next x id found)) h)
      ∙ ap (λ x. followed_by done (raised formats id (shown_all sight around source before x))) (sym e)
      ∙ m

  -- a text shows as it is, and nothing else depends on it
  pub text_turn : (done after : Simples) (formats : List (Option InlineElement)) (source : Option (List ℕ))
      (before : Option (List AttributePair)) (nodes : NumberedForest) (tree : NumberedTree)
      (trees : NumberedForest) (n : ℕ) (s : List ℕ) (follows : Bool) (all : Simples)
      → nodes ≡ page.more tree trees
      → follows ≡ leads_to_script sight.skip nodes
      → tree ≡ page.text n s
      → after ≡ followed_by done (more (text (shown_text s)) none)
      → followed_by done (raised formats id (shown_all sight around source before nodes)) ≡ all
      → followed_by after (raised formats id (shown_all sight around source before trees)) ≡ all
  unfolding shown
  text_turn done after formats source before nodes tree trees n s follows all e f t j m =
      turn done after formats formats (format_of formats) source source before before nodes tree trees
      (Some (text (shown_text s))) follows all e f
      (ap (λ x. next_shown sight around source before x follows) (sym t)) refl
      (sym (text_formats formats (shown_text s)))
      (j ∙ ap (λ x. followed_by done (more x none)) (sym (text_raised (format_of formats) id (shown_text s))))
      (ap (source_after source) (sym t)) (ap (last_element before) (sym t)) m

-- what follows is known at the next node
pub passed_on : (skip : List (List ℕ)) (tree : NumberedTree) (trees : NumberedForest) (follows : Bool)
    → follows ≡ leads_to_script skip (page.more tree trees) → is_passed tree ≡ true
    → follows ≡ leads_to_script skip trees
passed_on skip tree trees follows e p =
    e ∙ ap (λ b. cond b (leads_to_script skip trees) (is_tex_script skip tree)) p

-- a page shows what its root's children show
pub page_shown : (sight : Sight) (items : List Item) → IsTree items → (ids : List ℕ) (nodes : Simples) (id : ℕ)
    → ids ≡ children_of items 0
    → nodes ≡ marked false (raised [] id (shown_all sight nowhere None None (forest_of (tree_of items) ids)))
    → nodes ≡ shown_in sight (tree_of items 0)
page_shown sight items t ids nodes id e f =
    let all = shown_all sight nowhere None None (forest_of (tree_of items) ids) in
    f ∙ none_after (raised [] id all) ∙ not_raised id all
    ∙ ap (λ x. shown_all sight nowhere None None (forest_of (tree_of items) x)) e
    ∙ sym (by_data items t 0 t.not_empty (shown_in sight) document_node (ap (λ (i : Item). i.node_data) t.first))

-- ---- names that are skipped

pub none_skipped : (skip : List (Bor (List ℕ))) (name : List ℕ) → (length skip == 0) ≡ true
    → false ≡ is_among (map (λ n. n.now) skip) name
none_skipped [] name e = refl
none_skipped (n ∷ skip) name e = absurd (grind (arith, nat_tests, e))

-- an element without attributes shows nothing again
pub none_copied : (before attrs : List Attribute) → (length attrs == 0) ≡ true
    → false ≡ is_copy_of (pairs_of before) (pairs_of attrs)
none_copied before [] e = refl
none_copied before (a ∷ attrs) e = absurd (grind (arith, nat_tests, e))

-- ---- scripts beside nodes

no_type : (named counts is_tex : Bool) (found : Option (List ℕ)) → (named && is_tex) ≡ false
    → (named && counts && is_some (cond is_tex found None)) ≡ false
no_type false counts is_tex found e = refl
no_type true counts true found e = cc
no_type true true false found e = refl
no_type true false false found e = refl

no_tex : (skip : List (List ℕ)) (tree : NumberedTree) → is_script_element tree ≡ false
    → is_tex_script skip tree ≡ false
no_tex skip (page.text id s) e = refl
no_tex skip (page.element id name attributes children) e =
    no_type (is_script name) (not (is_among skip (codes "script"))) (is_tex_type attributes)
    (text_if_shown (raw_text_among children)) e
no_tex skip _ e = refl

neither : (a b : Bool) → (a || b) ≡ false → (a ≡ false) × (b ≡ false)
neither true b h = cc
neither false b h = (refl, h)

-- where none is among nodes, none follows
pub no_script : (skip : List (List ℕ)) (trees : NumberedForest) → has_script trees ≡ false
    → leads_to_script skip trees ≡ false
no_script skip page.none e = refl
no_script skip (page.more tree trees) e =
    let parts = neither (is_script_element tree) (has_script trees) e in
    by (is_passed tree) (leads_to_script skip trees) (is_tex_script skip tree) (no_script skip trees parts.1)
    (no_tex skip tree parts.0)
  where
    by : (b x y : Bool) → x ≡ false → y ≡ false → cond b x y ≡ false
    by true x y e f = e
    by false x y e f = f

-- nor among those of them that are left
pub no_script_left : (f : ℕ → NumberedTree) (nodes : List ℕ) (k : ℕ)
    → has_script (forest_of f nodes) ≡ false
    → has_script (forest_of f (drop k nodes)) ≡ false
no_script_left f nodes zero e = e
no_script_left f [] (suc k) e = e
no_script_left f (n ∷ nodes) (suc k) e =
    no_script_left f nodes k (neither (is_script_element (f n)) (has_script (forest_of f nodes)) e).1
