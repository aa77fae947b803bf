-- What the walk shows of an element, and the contents of nodes, one after another.
use Rattle.std.proofs.Common.{◌≡◌, ℕ, zero, suc, ◌+◌, ◌<◌, List, [], ◌∷◌, ◌++◌, length, get_or, drop, Option, Some}
use Rattle.std.proofs.Common.{None, refl, sym, ap, ◌∙◌, ◌≤◌, arith, subst, IsSome}
use Rattle.std.proofs.Common.{Bool, Result, Ok, Err, IfOk}
use Rattle.std.proofs.lemmas.List.{drop_more, append_assoc}
use Rattle.htmd_lexical.specs.AttributePairs.{AttributePair}
use Rattle.htmd_nodes.specs.Items.{Item, element_node, data_at, IsTree, IsBelow}
use Rattle.htmd_nodes.proofs.NumberedTreesLemmas.{tree-open, height_pos, IsLower}
use Rattle.htmd_walk.proofs.RenderingLemmas.{proper_lower}
use Rattle.std.specs.Option.{is_some}
use Rattle.htmd_nodes.specs.NumberedTrees.{NumberedForest, none, more, document, doctype, text, comment, element}
use Rattle.htmd_nodes.specs.NumberedTrees.{with_children, tree_of, height, tallest}
use Rattle.htmd_nodes.specs.Ancestors.{Ancestor}
use Rattle.htmd_walk.specs.declared.options.Options.{Options}
use Rattle.htmd_walk.specs.Handling.{ElementView, ResultView, PlanView, content_of_descendant, IsProper}
use Rattle.htmd_walk.specs.Groups.{only_text, group_children, children_at}
use Rattle.htmd_walk.specs.Outputs.{Conversion, Output, Writes, result_of, Context, context_of, empty_output}
use Rattle.htmd_walk.specs.OrdinaryText.{in_pre_or_code}
use Rattle.htmd_walk.specs.Rendering.{write_text, written_within}
use Rattle.htmd_walk.specs.Children.{content_inside, content_alone, descendant_tree, trims_first}
use Rattle.htmd_walk.specs.Elements.{Occurrence, Answer, Contents, contents_alone}
use Rattle.htmd_walk.specs.Elements.{view_at}
use Rattle.htmd_walk.specs.declared.element_handler.Element.{Element}
use Rattle.htmd_walk.specs.Walking.{AtElement}

-- results in front of those that follow
abbrev pub following : List ResultView → Contents → Contents
following results contents = record { results = results ++ contents.results; definitions = contents.definitions }

-- one node more
pub contents_more : (at : Occurrence) (ids : List ℕ) (k d : ℕ) (results : List ResultView) (out : Output)
    (definitions : List (List ℕ)) → k < length ids → d ≡ get_or ids k d
    → out ≡ content_alone at.write at.conversion (descendant_tree at.conversion.items at.view.text d) d definitions
    → following (results ++ result_of out ∷ []) (contents_alone at (drop (k + 1) ids) out.definitions)
    ≡ following results (contents_alone at (drop k ids) definitions)
contents_more at ids k d results out definitions l e h =
    let one : drop k ids ≡ d ∷ drop (k + 1) ids =
    drop_more ids k d l ∙ ap (λ x. x ∷ drop (k + 1) ids) (sym e) in
    let rest : Output → Contents = λ o. contents_alone at (drop (k + 1) ids) o.definitions in
    ap (λ (xs : List ResultView). record { results = xs; definitions = (rest out).definitions })
    (append_assoc results (result_of out ∷ []) (rest out).results)
    ∙ ap (λ (o : Output). following results
    (record { results = result_of o ∷ (rest o).results; definitions = (rest o).definitions })) h
    ∙ sym (ap (λ xs. following results (contents_alone at xs definitions)) one)

pub none_of : {A : Type 0} (o : Option A) → ((x : A) → o ≡ Some x → ⊥) → o ≡ None
none_of None h = refl
none_of (Some x) h = absurd (h x refl)

-- what the walk shows a handler is what the definition shows it
pub shown-same : (write : Writes) (conversion : Conversion) (id : ℕ) (inside : List Ancestor)
    (children : NumberedForest) (shown : Option (List ℕ)) (options : Options) (markdown_translated : Bool)
    → shown ≡ only_text children → options ≡ conversion.config.options
    → ◌≡◌ {A = Occurrence} (record {
      write = write;
      conversion = conversion;
      view = record {
        items = conversion.items;
        node = id;
        text = shown;
        options = options;
        markdown_translated = markdown_translated;
      };
      inside = inside;
      children = children;
    })
    (record {
      write = write;
      conversion = conversion;
      view = view_at conversion id markdown_translated children;
      inside = inside;
      children = children;
    })
shown-same write conversion id inside children shown options markdown_translated e o =
    let view : Option (List ℕ) → Options → ElementView = λ s x. record {
      items = conversion.items;
      node = id;
      text = s;
      options = x;
      markdown_translated = markdown_translated;
    } in
    let put : ElementView → Occurrence = λ v. record {
      write = write;
      conversion = conversion;
      view = v;
      inside =
          inside;
      children = children;
    } in
    ap (λ s. put (view s options)) e ∙ ap (λ x. put (view (only_text children) x)) o

-- ---- answers of every count of levels that suffices

pub at-ok : {T E : Type 0} (view : T → Answer) (conversion : Conversion) (e : Element) (P Q : Occurrence → Answer)
    (r : Result T E) → AtElement conversion e (λ at. P at ≡ Q at)
    → IfOk r (λ x. AtElement conversion e (λ at. view x ≡ P at))
    → IfOk r (λ x. AtElement conversion e (λ at. view x ≡ Q at))
at-ok view conversion e P Q (Ok x) k h = λ n l. h n l ∙ k n l
at-ok view conversion e P Q (Err x) k h = tt

pub now-ok : {T E : Type 0} (view : T → Answer) (conversion : Conversion) (e : Element) (a : Answer) (Q : Occurrence
    → Answer) (r : Result T E) → AtElement conversion e (λ at. a ≡ Q at) → IfOk r (λ x. view x ≡ a)
    → IfOk r (λ x. AtElement conversion e (λ at. view x ≡ Q at))
now-ok view conversion e a Q (Ok x) k h = λ n l. h ∙ k n l
now-ok view conversion e a Q (Err x) k h = tt

-- ---- what an element shows

has_levels : (joined : Option (List ℕ)) (children : NumberedForest)
    → IsSome (only_text (group_children joined children)) → 1 ≤ tallest children
has_levels None none h = cc
has_levels None (more tree trees) h = omega (arith, height_pos tree)
has_levels (Some s) none h = cc
has_levels (Some s) (more tree trees) h = omega (arith, height_pos tree)

-- an element that shows a text has two levels
pub two_levels : (items : List Item) (t : IsTree items) (id : ℕ) → id < length items
    → (name : List ℕ) (attributes : List AttributePair) (joined : Option (List ℕ)) (s : List ℕ) (n : ℕ)
    → data_at items id ≡ element_node name attributes
    → Some s ≡ only_text (group_children joined (children_at items id)) → height (tree_of items id) ≤ suc n
    → 1 ≤ n
two_levels items t id l name attributes joined s n e h k =
    let tall = has_levels joined (children_at items id) (ap is_some (sym h)) in
    let levels : height (tree_of items id) ≡ suc (tallest (children_at items id)) =
    ap height (tree-open items id t l ∙ ap (λ c. with_children id c (children_at items id)) e) in
    omega (arith, tall, levels, k)

-- the content of an element that shows a text
pub text_inside : (n : ℕ) (conversion : Conversion) (inside : List Ancestor) (children : NumberedForest)
    (s : List ℕ)
    (definitions : List (List ℕ)) → Some s ≡ only_text children → 1 ≤ n
    → write_text s (context_of inside (in_pre_or_code inside) (trims_first inside)) (empty_output definitions)
    ≡ content_inside (written_within n conversion) inside children definitions
unfolding written_within
text_inside zero conversion inside children s definitions e l = absurd (omega arith)
text_inside (suc n) conversion inside none s definitions e l = cc
text_inside (suc n) conversion inside (more (document i c) ts) s definitions e l = cc
text_inside (suc n) conversion inside (more (doctype i) ts) s definitions e l = cc
text_inside (suc n) conversion inside (more (text i t) none) s definitions e l =
    let same : s ≡ t = cc in
    ap (λ x. write_text x (context_of inside (in_pre_or_code inside) (trims_first inside)) (empty_output definitions))
    same
text_inside (suc n) conversion inside (more (text i t) (more u us)) s definitions e l = cc
text_inside (suc n) conversion inside (more (comment i t) ts) s definitions e l = cc
text_inside (suc n) conversion inside (more (element i m a c) ts) s definitions e l = cc

-- a text that is handed over by itself
pub text_alone : (n : ℕ) (conversion : Conversion) (id : ℕ) (s : List ℕ) (context : Context)
    (definitions : List (List ℕ)) → 1 ≤ n
    → write_text s context (empty_output definitions)
    ≡ written_within n conversion (text id s) context (empty_output definitions)
unfolding written_within
text_alone zero conversion id s context definitions l = absurd (omega arith)
text_alone (suc n) conversion id s context definitions l = refl

-- what is asked for lies below
pub below_lower : (items tree : List Item) (node d : ℕ) → IsTree items → tree ≡ items → node < length tree
    → ∥ IsBelow tree node d ∥₁ → IsLower items node d
below_lower items tree node d t e l h =
    proper_lower items node d t (subst (λ (x : List Item). node < length x) e l)
    (subst (λ (x : List Item). ∥ IsBelow x node d ∥₁) e h)

pub asked_lower : (items tree : List Item) (node d : ℕ) (p : PlanView) → IsTree items → tree ≡ items
    → node < length tree → IsProper tree node p → p ≡ content_of_descendant d → IsLower items node d
asked_lower items tree node d p t e l h q =
    below_lower items tree node d t e l (subst (λ (x : PlanView). IsProper tree node x) q h)
