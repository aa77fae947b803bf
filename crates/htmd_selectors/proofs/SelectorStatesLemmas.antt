-- The states of the elements around and before a place say what the steps name.
use Rattle.std.proofs.Common.{◌≡◌, ℕ, ◌+◌, Bool, true, false, ◌&&◌, ◌||◌, cond, List, [], ◌∷◌, refl, sym, ap, ◌∙◌}
use Rattle.std.proofs.Common.{Option, Some, None, codes}
use Rattle.std.specs.Str.{bytes_eq}
use Rattle.std.proofs.Common.{length, replicate, add-one, suc, ◌<◌, ◌≤◌, arith, eqb, eqb-true, vec_len, drop, map, not}
use Rattle.htmd_lexical.specs.AttributePairs.{AttributePair}
use Rattle.std.proofs.lemmas.Bool.{false≢true}
use Rattle.std.proofs.lemmas.List.{length-map}
use Rattle.htmd_lexical.proofs.Cases.{test}
use Rattle.htmd_values.specs.ValueTrees.{ValueTree, document, doctype, text, comment, element, ValueForest, none, more}
use Rattle.htmd_nodes.specs.Items.{Item, children_of, IsTree}
use Rattle.htmd_nodes.specs.NumberedTrees.{NumberedTree, with_children, tree_of, forest_of, value_tree, value_forest}
use Rattle.htmd_nodes.specs.NumberedTrees.{value_at}
use Rattle.htmd_nodes.proofs.NumberedTreesLemmas.{tree-open}
use Rattle.htmd_selectors.specs.declared.matching.Counts.{Counts}
use Rattle.htmd_selectors.specs.declared.selectors.Peers.{Peers}
use Rattle.htmd_selectors.specs.declared.selectors.Peers.TheVariants as peers
use Rattle.htmd_selectors.specs.declared.selectors.Relation.{Relation}
use Rattle.htmd_selectors.specs.declared.selectors.Relation.TheVariants as relation
use Rattle.htmd_selectors.specs.declared.matching.StepState.{StepState}
use Rattle.htmd_selectors.specs.declared.matching.Known as code_known
use Rattle.htmd_selectors.specs.declared.selectors.Step as code_step
use Rattle.htmd_selectors.specs.ElementViews.{known_of}
use Rattle.htmd_selectors.specs.SelectorSteps.{Condition, is_any, is_type, has_class, has_id, has_attribute}
use Rattle.htmd_selectors.specs.SelectorSteps.{has_value, is_first, is_last, is_only, is_empty, is_root, is_nth}
use Rattle.htmd_selectors.specs.SelectorSteps.{Test, asks, among, Step}
use Rattle.htmd_selectors.specs.Views.{step_of, steps_of}
use Rattle.htmd_selectors.specs.Matching.{Element, Level, passes, matches, parent_passes, some_passes, nearest_passes}
use Rattle.htmd_selectors.specs.Matching.{earlier_passes, is_named_after, starts, meets, meets_all, meets_any}
use Rattle.htmd_selectors.specs.Matching.{count_from, counts_among}
use Rattle.htmd_selectors.specs.Series.{has}
use Rattle.htmd_selectors.specs.Types.{are_of_type, is_of_type, some_of_type, any_of_type, asks_type, asks_types}
use Rattle.htmd_selectors.specs.Types.{counts_between, first_counts, type_counts}
use Rattle.htmd_selectors.specs.Matching as match
use Rattle.htmd_selectors.specs.SelectorStates.{Known, state_around, state_beside, states_after, beside_after, no_state}
use Rattle.htmd_selectors.specs.SelectorStates.{no_states, is_reached, named_steps, with_element, is_named_by}
use Rattle.htmd_selectors.specs.SelectorStates.{known_element, named_at}
use Rattle.htmd_selectors.specs.SelectorStates.{first_known, known_below, next_known, nothing_known, names_by, kept}
use Rattle.htmd_selectors.specs.SelectorStates.{kept_tree, outermost, outermost_tree}
use Rattle.htmd_selectors.specs.Rewriting.{Rule, unchanged, joined, rewritten, children_of_document}
use Rattle.htmd_selectors.specs.SelectedParts.{element_names, elements_in}
use Rattle.htmd_selectors.specs.SelectedParts.{this_element, inside, passed, is_outside, names, without}
use Rattle.htmd_selectors.specs.SelectedParts.{without_below, one_document}
use Rattle.htmd_selectors.specs.SelectedParts.{pre_below, pre_around, in_pre, end_of, match_of}
use Rattle.htmd_selectors.specs.SelectedParts as spec

reached : (r : Relation) (before : List Step) (e : Element) (earlier : List Element) (around : List Level)
    → match.is_reached r (matches before) e earlier around
    ≡ is_reached r (matches before e earlier around) (state_around before around) (state_beside before earlier around)
reached relation.Start before e earlier around = refl
reached relation.Same before e earlier around = refl
reached relation.Child before e earlier around = refl
reached relation.Below before e earlier around = refl
reached relation.Next before e earlier around = refl
reached relation.After before e earlier around = refl

-- which steps name an element
abbrev named_after : List Step → List Step → Element → List Element → List Level → List Bool
named_after before [] e earlier around = []
named_after before (step ∷ steps) e earlier around =
    matches (step ∷ before) e earlier around ∷ named_after (step ∷ before) steps e earlier around

named_steps-is : (before steps : List Step) (e : Element) (earlier : List Element) (around : List Level)
    → named_steps (matches before e earlier around) (state_around before around) (state_beside before earlier around)
    e steps (states_after before steps around) (beside_after before steps earlier around)
    ≡ named_after before steps e earlier around
named_steps-is before [] e earlier around = refl
named_steps-is before (step ∷ steps) e earlier around =
    ap (λ b. let here = b && passes e step.test in here ∷ named_steps here (state_around (step ∷ before) around)
    (state_beside (step ∷ before) earlier around) e steps (states_after (step ∷ before) steps around)
    (beside_after (step ∷ before) steps earlier around)) (sym (reached step.relation before e earlier around))
    ∙ ap (λ x. matches (step ∷ before) e earlier around ∷ x)
    (named_steps-is (step ∷ before) steps e earlier around)

none_around : (around : List Level) → state_around [] around ≡ no_state
none_around around = rw (first-none around, some-none around) refl
  where
    first-none : (around : List Level) → parent_passes (matches []) around ≡ false
    first-none [] = refl
    first-none (level ∷ around) = refl

    some-none : (around : List Level) → some_passes (matches []) around ≡ false
    some-none [] = refl
    some-none (level ∷ around) = some-none around

none_beside : (earlier : List Element) (around : List Level) → state_beside [] earlier around ≡ no_state
none_beside earlier around = rw (first-none earlier, some-none earlier) refl
  where
    first-none : (earlier : List Element) → nearest_passes (matches []) earlier around ≡ false
    first-none [] = refl
    first-none (e ∷ earlier) = refl

    some-none : (earlier : List Element) → earlier_passes (matches []) earlier around ≡ false
    some-none [] = refl
    some-none (e ∷ earlier) = some-none earlier

-- the counts of these trees by names, after these elements
abbrev pub types_after : List Step → List Element → ValueForest → List Counts
types_after steps earlier trees =
    cond (asks_types steps) (type_counts (map (λ (e : Element). e.name) earlier) (element_names trees)) []

-- what is known before trees, after these elements and below those
abbrev pub known_at : List Step → List Level → List Element → ValueForest → Known
known_at steps around earlier trees = record {
  parent = states_after [] steps around;
  beside = beside_after [] steps earlier around;
  before = length earlier;
  types = types_after steps earlier trees;
  has_no_parent = is_outside around;
}

named_at-is : (steps : List Step) (around : List Level) (earlier : List Element) (trees : ValueForest) (e : Element)
    → named_at steps (known_at steps around earlier trees) e ≡ named_after [] steps e earlier around
named_at-is steps around earlier trees e =
    ap (λ m. named_steps false m no_state e steps (states_after [] steps around)
    (beside_after [] steps earlier around))
    (sym (none_around around))
    ∙ (ap (λ m. named_steps false (state_around [] around) m e steps (states_after [] steps around)
    (beside_after [] steps earlier around)) (sym (none_beside earlier around))
    ∙ named_steps-is [] steps e earlier around)

with_around : (before steps : List Step) (e : Element) (earlier : List Element) (around : List Level)
    → with_element (named_after before steps e earlier around) (states_after before steps around)
    ≡ states_after before steps ((record { here = e; earlier = earlier }) ∷ around)
with_around before [] e earlier around = refl
with_around before (step ∷ steps) e earlier around =
    ap (λ x. state_around (step ∷ before) ((record { here = e; earlier = earlier }) ∷ around) ∷ x)
    (with_around (step ∷ before) steps e earlier around)

with_beside : (before steps : List Step) (e : Element) (earlier : List Element) (around : List Level)
    → with_element (named_after before steps e earlier around) (beside_after before steps earlier around)
    ≡ beside_after before steps (e ∷ earlier) around
with_beside before [] e earlier around = refl
with_beside before (step ∷ steps) e earlier around =
    ap (λ x. state_beside (step ∷ before) (e ∷ earlier) around ∷ x)
    (with_beside (step ∷ before) steps e earlier around)

no_beside : (before steps : List Step) (around : List Level) → no_states steps ≡ beside_after before steps [] around
no_beside before [] around = refl
no_beside before (step ∷ steps) around = ap (λ x. no_state ∷ x) (no_beside (step ∷ before) steps around)

no_around : (before steps : List Step) → no_states steps ≡ states_after before steps []
no_around before [] = refl
no_around before (step ∷ steps) = ap (λ x. no_state ∷ x) (no_around (step ∷ before) steps)

-- ---- counts by names, which count only for steps that ask for them

abbrev with_counts : Element → Counts → Element
with_counts e counts = record e { place = record e.place { of_type = counts } }

or-false : (a b : Bool) → (a || b) ≡ false → (a ≡ false) × (b ≡ false)
or-false false b h = (refl, h)
or-false true b h = absurd (false≢true (sym h))

counts-same : (p : Peers) (e : Element) (counts : Counts) → are_of_type p ≡ false
    → counts_among p (with_counts e counts).place ≡ counts_among p e.place
counts-same peers.All e counts h = refl
counts-same peers.SameName e counts h = absurd (false≢true (sym h))

meets-same : (e : Element) (counts : Counts) (condition : Condition) → is_of_type condition ≡ false
    → meets (with_counts e counts) condition ≡ meets e condition
meets-same e counts is_any h = refl
meets-same e counts (is_type name) h = refl
meets-same e counts (has_class class) h = refl
meets-same e counts (has_id id) h = refl
meets-same e counts (has_attribute name) h = refl
meets-same e counts (has_value name comparison value) h = refl
meets-same e counts (is_first p) h = ap (λ (c : Counts). eqb c.before 0) (counts-same p e counts h)
meets-same e counts (is_last p) h = ap (λ (c : Counts). eqb c.after 0) (counts-same p e counts h)
meets-same e counts (is_only p) h =
    ap (λ (c : Counts). eqb c.before 0 && eqb c.after 0) (counts-same p e counts h)
meets-same e counts is_empty h = refl
meets-same e counts is_root h = refl
meets-same e counts (is_nth row series) h =
    ap (λ (c : Counts). has series (count_from row.side c + 1)) (counts-same row.peers e counts h)

meets_all-same : (e : Element) (counts : Counts) (conditions : List Condition) → some_of_type conditions ≡ false
    → meets_all (with_counts e counts) conditions ≡ meets_all e conditions
meets_all-same e counts [] h = refl
meets_all-same e counts (condition ∷ conditions) h =
    let both = or-false (is_of_type condition) (some_of_type conditions) h in
    rw (meets-same e counts condition both.0, meets_all-same e counts conditions both.1) refl

meets_any-same : (e : Element) (counts : Counts) (compounds : List (List Condition)) → any_of_type compounds ≡ false
    → meets_any (with_counts e counts) compounds ≡ meets_any e compounds
meets_any-same e counts [] h = refl
meets_any-same e counts (compound ∷ compounds) h =
    let both = or-false (some_of_type compound) (any_of_type compounds) h in
    rw (meets_all-same e counts compound both.0, meets_any-same e counts compounds both.1) refl

passes-same : (e : Element) (counts : Counts) (t : Test) → asks_type t ≡ false
    → passes (with_counts e counts) t ≡ passes e t
passes-same e counts (asks condition) h = meets-same e counts condition h
passes-same e counts (among negated compounds) h =
    ap (λ b. cond negated (not b) b) (meets_any-same e counts compounds h)

named_steps-same : (e : Element) (counts : Counts) (same : Bool) (above near : StepState) (steps : List Step)
    (parent beside : List StepState) → asks_types steps ≡ false
    → named_steps same above near (with_counts e counts) steps parent beside
    ≡ named_steps same above near e steps parent beside
named_steps-same e counts same above near [] parent beside h = refl
named_steps-same e counts same above near (step ∷ steps) [] beside h = refl
named_steps-same e counts same above near (step ∷ steps) (p ∷ parent) [] h = refl
named_steps-same e counts same above near (step ∷ steps) (p ∷ parent) (b ∷ beside) h =
    let both = or-false (asks_type step.test) (asks_types steps) h in
    let here : Bool = is_reached step.relation same above near && passes e step.test in
    ap (λ x. let now = is_reached step.relation same above near && x in
    now ∷ named_steps now p b (with_counts e counts) steps parent beside) (passes-same e counts step.test both.0)
    ∙ ap (λ x. here ∷ x) (named_steps-same e counts here p b steps parent beside both.1)

-- the counts of the first one, if any are kept
first-kept : (b : Bool) (counts : Counts) (rest : List Counts) → b ≡ true
    → first_counts (cond b (counts ∷ rest) []) ≡ counts
first-kept true counts rest h = refl
first-kept false counts rest h = absurd (false≢true h)

rest-kept : (b : Bool) (counts : Counts) (rest : List Counts)
    → drop 1 (cond b (counts ∷ rest) []) ≡ cond b rest []
rest-kept true counts rest = refl
rest-kept false counts rest = refl

-- which steps name an element, by what is known and by the elements before it
named-is : (steps : List Step) (around : List Level) (earlier : List Element) (trees : ValueForest) (name : List ℕ)
    (attributes : List AttributePair) (children : ValueForest)
    → named_at steps (known_at steps around earlier (more (element name attributes children) trees))
    (known_element (known_at steps around earlier (more (element name attributes children) trees)) (elements_in trees)
    name attributes children)
    ≡ named_after [] steps (this_element around earlier trees name attributes children) earlier around
named-is steps around earlier trees name attributes children =
    let e : Element = this_element around earlier trees name attributes children in
    let all : ValueForest = more (element name attributes children) trees in
    let known : Known = known_at steps around earlier all in
    let before : List (List ℕ) = map (λ (other : Element). other.name) earlier in
    let names : List (List ℕ) = element_names trees in
    test (asks_types steps)
    (λ y. ap (λ c. named_at steps known (with_counts e c))
    (first-kept (asks_types steps) (counts_between before name names) (type_counts (name ∷ before) names) y))
    (λ n. named_steps-same e (first_counts known.types) false no_state no_state steps known.parent known.beside n)
    ∙ named_at-is steps around earlier all e

-- what is known after a tree
next_known-is : (steps : List Step) (around : List Level) (earlier : List Element) (trees : ValueForest)
    (t : ValueTree)
    → next_known steps (known_at steps around earlier (more t trees)) (elements_in trees) t
    ≡ known_at steps around (passed around earlier trees t) trees
next_known-is steps around earlier trees (document children) = refl
next_known-is steps around earlier trees doctype = refl
next_known-is steps around earlier trees (text s) = refl
next_known-is steps around earlier trees (comment s) = refl
next_known-is steps around earlier trees (element name attributes children) =
    let e : Element = this_element around earlier trees name attributes children in
    let known : Known = known_at steps around earlier (more (element name attributes children) trees) in
    let before : List (List ℕ) = map (λ (other : Element). other.name) earlier in
    let names : List (List ℕ) = element_names trees in
    let beside : with_element (named_at steps known (known_element known (elements_in trees) name attributes children))
    (beside_after [] steps earlier around) ≡ beside_after [] steps (e ∷ earlier) around =
    ap (λ x. with_element x (beside_after [] steps earlier around))
    (named-is steps around earlier trees name attributes children)
    ∙ with_beside [] steps e earlier around in
    let rest = rest-kept (asks_types steps) (counts_between before name names) (type_counts (name ∷ before) names) in
    rw (beside, rest, add-one (length earlier)) refl

-- and below an element
known_below-is : (steps : List Step) (around : List Level) (earlier : List Element) (trees : ValueForest)
    (name : List ℕ) (attributes : List AttributePair) (children : ValueForest)
    → known_below steps (known_at steps around earlier (more (element name attributes children) trees))
    (known_element (known_at steps around earlier (more (element name attributes children) trees)) (elements_in trees)
    name attributes children) children
    ≡ known_at steps (inside around earlier trees name attributes children) [] children
known_below-is steps around earlier trees name attributes children =
    let e : Element = this_element around earlier trees name attributes children in
    let known : Known = known_at steps around earlier (more (element name attributes children) trees) in
    let parent : with_element (named_at steps known (known_element known (elements_in trees) name attributes children))
    (states_after [] steps around) ≡ states_after [] steps (inside around earlier trees name attributes children) =
    ap (λ x. with_element x (states_after [] steps around))
    (named-is steps around earlier trees name attributes children)
    ∙ with_around [] steps e earlier around in
    rw (parent, no_beside [] steps (inside around earlier trees name attributes children)) refl

is_named_by-after : (before steps : List Step) (e : Element) (earlier : List Element) (around : List Level)
    → is_named_by (matches before e earlier around) steps (named_after before steps e earlier around)
    ≡ is_named_after before steps e earlier around
is_named_by-after before [] e earlier around = refl
is_named_by-after before (step ∷ steps) e earlier around =
    ap (λ b. (starts step.relation && matches before e earlier around) || b)
    (is_named_by-after (step ∷ before) steps e earlier around)

names_by-is : (steps : List Step) (around : List Level) (earlier : List Element) (trees : ValueForest) (t : ValueTree)
    → names_by steps (known_at steps around earlier (more t trees)) (elements_in trees) t
    ≡ names steps around earlier trees t
names_by-is steps around earlier trees (document children) = refl
names_by-is steps around earlier trees doctype = refl
names_by-is steps around earlier trees (text s) = refl
names_by-is steps around earlier trees (comment s) = refl
names_by-is steps around earlier trees (element name attributes children) =
    let e : Element = this_element around earlier trees name attributes children in
    ap (is_named_by false steps) (named-is steps around earlier trees name attributes children)
    ∙ is_named_by-after [] steps e earlier around

-- ---- how many states there are

length-named_steps : (same : Bool) (above near : StepState) (e : Element) (steps : List Step)
    (parent beside : List StepState) → length parent ≡ length steps → length beside ≡ length steps
    → length (named_steps same above near e steps parent beside) ≡ length steps
length-named_steps same above near e [] parent beside p b = refl
length-named_steps same above near e (step ∷ steps) [] beside p b = absurd (omega (arith, p))
length-named_steps same above near e (step ∷ steps) (x ∷ parent) [] p b = absurd (omega (arith, b))
length-named_steps same above near e (step ∷ steps) (x ∷ parent) (y ∷ beside) p b =
    ap suc (length-named_steps (is_reached step.relation same above near && passes e step.test) x y e steps parent
    beside (omega (arith, p)) (omega (arith, b)))

length-with_element : (named : List Bool) (states : List StepState) → length states ≡ length named
    → length (with_element named states) ≡ length named
length-with_element [] [] e = refl
length-with_element [] (state ∷ states) e = absurd (omega (arith, e))
length-with_element (here ∷ named) [] e = absurd (omega (arith, e))
length-with_element (here ∷ named) (state ∷ states) e = ap suc (length-with_element named states (omega (arith, e)))

-- those after a tree
length-next_beside : (steps : List Step) (known : Known) (after : ℕ) (t : ValueTree)
    → length known.parent ≡ length steps → length known.beside ≡ length steps
    → length (next_known steps known after t).beside ≡ length steps
length-next_beside steps known after (document children) p b = b
length-next_beside steps known after doctype p b = b
length-next_beside steps known after (text s) p b = b
length-next_beside steps known after (comment s) p b = b
length-next_beside steps known after (element name attributes children) p b =
    let e : Element = known_element known after name attributes children in
    let named : length (named_at steps known e) ≡ length steps =
    length-named_steps false no_state no_state e steps known.parent known.beside p b in
    length-with_element (named_at steps known e) known.beside (b ∙ sym named) ∙ named

next_parent : (steps : List Step) (known : Known) (after : ℕ) (t : ValueTree)
    → (next_known steps known after t).parent ≡ known.parent
next_parent steps known after (document children) = refl
next_parent steps known after doctype = refl
next_parent steps known after (text s) = refl
next_parent steps known after (comment s) = refl
next_parent steps known after (element name attributes children) = refl

next_before : (steps : List Step) (known : Known) (after : ℕ) (t : ValueTree)
    → (next_known steps known after t).before ≤ known.before + 1
next_before steps known after (document children) = omega arith
next_before steps known after doctype = omega arith
next_before steps known after (text s) = omega arith
next_before steps known after (comment s) = omega arith
next_before steps known after (element name attributes children) = omega arith

-- what is known after a tree has as many states
pub known-turn : (steps : List code_step.Step) (old new : code_known.Known) (after : ℕ) (t : ValueTree)
    → known_of new ≡ next_known (steps_of steps) (known_of old) after t
    → length old.parent.now ≡ length steps → vec_len old.beside ≡ length steps
    → (length new.parent.now ≡ length steps) × (vec_len new.beside ≡ length steps)
    × (new.before ≤ old.before + 1)
known-turn steps old new after t e p b =
    let same : length (steps_of steps) ≡ length steps = length-map steps step_of in
    let beside : length (next_known (steps_of steps) (known_of old) after t).beside ≡ length (steps_of steps) =
    length-next_beside (steps_of steps) (known_of old) after t (p ∙ sym same)
    (sym old.beside.ok.0 ∙ b ∙ sym same) in
    let before : new.before ≡ (next_known (steps_of steps) (known_of old) after t).before =
    ap (λ (k : Known). k.before) e in (
      ap (λ (k : Known). length k.parent) e
          ∙ (ap length (next_parent (steps_of steps) (known_of old) after t) ∙ p),
      new.beside.ok.0 ∙ (ap (λ (k : Known). length k.beside) e ∙ (beside ∙ same)),
      omega (arith, before, next_before (steps_of steps) (known_of old) after t),
    )

-- only the root is at depth 0
pub not_root : (above depth : ℕ) → above < depth → eqb depth 0 ≡ false
not_root above depth l =
    test (eqb depth 0) (λ y. let root : depth ≡ 0 = eqb-true depth 0 y in absurd (omega (arith, root, l))) (λ n. n)

-- ---- what is kept

mutual
  pub kept-is : (rule : Rule) (steps : List Step) (around : List Level) (earlier : List Element) (f : ValueForest)
      → kept rule steps (known_at steps around earlier f) f ≡ rewritten rule (without steps around earlier f)
  kept-is rule steps around earlier none = refl
  kept-is rule steps around earlier (more tree trees) =
      kept_tree-is rule steps around earlier trees tree
      (kept rule steps (next_known steps (known_at steps around earlier (more tree trees)) (elements_in trees) tree)
      trees)
      (without steps around (passed around earlier trees tree) trees)
      (ap (λ k. kept rule steps k trees) (next_known-is steps around earlier trees tree)
      ∙ kept-is rule steps around (passed around earlier trees tree) trees)

  kept_tree-is : (rule : Rule) (steps : List Step) (around : List Level) (earlier : List Element)
      (trees : ValueForest) (t : ValueTree) (g f : ValueForest) → g ≡ rewritten rule f
      → joined (kept_tree rule steps (known_at steps around earlier (more t trees)) (elements_in trees) t) g
      ≡ rewritten rule
      (cond (names steps around earlier trees t) f (more (without_below steps around earlier trees t) f))
  kept_tree-is rule steps around earlier trees (document children) g f e = e
  kept_tree-is rule steps around earlier trees doctype g f e = ap (more doctype) e
  kept_tree-is rule steps around earlier trees (text s) g f e = ap (more (text s)) e
  kept_tree-is rule steps around earlier trees (comment s) g f e = ap (more (comment s)) e
  kept_tree-is rule steps around earlier trees (element name attributes children) g f e =
      let this : ValueTree = element name attributes children in
      let at : Element = known_element (known_at steps around earlier (more this trees)) (elements_in trees) name
      attributes children in
      let known : Known = known_at steps around earlier (more this trees) in
      let after = elements_in trees in
      let same = names_by-is steps around earlier trees this in
      let inner : kept rule steps (known_below steps known at children) children
      ≡ rewritten rule (without steps (inside around earlier trees name attributes children) [] children) =
      ap (λ k. kept rule steps k children) (known_below-is steps around earlier trees name attributes children)
      ∙ kept-is rule steps (inside around earlier trees name attributes children) [] children in
      test (names steps around earlier trees this)
      (λ y. let yes : names_by steps known after this ≡ true = same ∙ y in rw (yes, y) e)
      (λ n. let no : names_by steps known after this ≡ false = same ∙ n in rw (no, n, inner, e) refl)

-- no step names anything
mutual
  pub without-none : (around : List Level) (earlier : List Element) (f : ValueForest)
      → without [] around earlier f ≡ f
  without-none around earlier none = refl
  without-none around earlier (more (document children) trees) =
      rw (without-none around [] children, without-none around earlier trees) refl
  without-none around earlier (more doctype trees) = ap (more doctype) (without-none around earlier trees)
  without-none around earlier (more (text s) trees) = ap (more (text s)) (without-none around earlier trees)
  without-none around earlier (more (comment s) trees) = ap (more (comment s)) (without-none around earlier trees)
  without-none around earlier (more (element name attributes children) trees) =
      rw (
        without-none (inside around earlier trees name attributes children) [] children,
        without-none around (passed around earlier trees (element name attributes children)) trees,
      ) refl

rewritten-joined : (rule : Rule) (f g : ValueForest)
    → rewritten rule (joined f g) ≡ joined (rewritten rule f) (rewritten rule g)
rewritten-joined rule none g = refl
rewritten-joined rule (more (document children) f) g = rewritten-joined rule f g
rewritten-joined rule (more doctype f) g = ap (more doctype) (rewritten-joined rule f g)
rewritten-joined rule (more (text s) f) g = ap (more (text s)) (rewritten-joined rule f g)
rewritten-joined rule (more (comment s) f) g = ap (more (comment s)) (rewritten-joined rule f g)
rewritten-joined rule (more (element name attributes children) f) g =
    ap (more (element name (rule name attributes) (rewritten rule children))) (rewritten-joined rule f g)

rewritten-in_pre : (pre : Option (List AttributePair)) (f : ValueForest)
    → rewritten unchanged (in_pre pre f) ≡ in_pre pre (rewritten unchanged f)
rewritten-in_pre None f = refl
rewritten-in_pre (Some attributes) f = refl

rewritten-end_of : (name : List ℕ) → rewritten unchanged (end_of name) ≡ end_of name
rewritten-end_of name = test (bytes_eq name (codes "li")) (λ y. rw y refl) (λ n. rw n refl)

joined-none : (f : ValueForest) → joined f none ≡ f
joined-none none = refl
joined-none (more tree f) = ap (more tree) (joined-none f)

mutual
  pub outermost-is : (steps : List Step) (around : List Level) (earlier : List Element) (f : ValueForest)
      → outermost steps (pre_around around) (known_at steps around earlier f) f
      ≡ one_document (spec.outermost steps around earlier f)
  outermost-is steps around earlier none = refl
  outermost-is steps around earlier (more tree trees) =
      outermost_tree-is steps around earlier trees tree
      (outermost steps (pre_around around)
      (next_known steps (known_at steps around earlier (more tree trees)) (elements_in trees) tree) trees)
      (spec.outermost steps around (passed around earlier trees tree) trees)
      (ap (λ k. outermost steps (pre_around around) k trees) (next_known-is steps around earlier trees tree)
      ∙ outermost-is steps around (passed around earlier trees tree) trees)

  outermost_tree-is : (steps : List Step) (around : List Level) (earlier : List Element) (trees : ValueForest)
      (t : ValueTree) (g f : ValueForest) → g ≡ one_document f
      → joined (outermost_tree steps (pre_around around) (known_at steps around earlier (more t trees))
      (elements_in trees) t) g
      ≡ one_document (cond (names steps around earlier trees t) (joined (match_of (pre_around around) t) f)
      (joined (spec.outermost_below steps around earlier trees t) f))
  outermost_tree-is steps around earlier trees (document children) g f e = e
  outermost_tree-is steps around earlier trees doctype g f e = e
  outermost_tree-is steps around earlier trees (text s) g f e = e
  outermost_tree-is steps around earlier trees (comment s) g f e = e
  outermost_tree-is steps around earlier trees (element name attributes children) g f e =
      let this : ValueTree = element name attributes children in
      let at : Element = known_element (known_at steps around earlier (more this trees)) (elements_in trees) name
      attributes children in
      let known : Known = known_at steps around earlier (more this trees) in
      let after = elements_in trees in
      let pre = pre_around around in
      let same = names_by-is steps around earlier trees this in
      let kept : kept_tree unchanged [] nothing_known 0 this ≡ one_document (more this none) =
      sym (joined-none (kept_tree unchanged [] nothing_known 0 this))
      ∙ (kept_tree-is unchanged [] [] [] none this none none refl
      ∙ ap (λ x. one_document (more (element name attributes x) none))
      (without-none (inside [] [] none name attributes children) [] children)) in
      let one : ValueForest = more this none in
      let found : joined (in_pre pre (kept_tree unchanged [] nothing_known 0 this)) (end_of name)
      ≡ one_document (match_of pre this) =
      ap (λ x. joined (in_pre pre x) (end_of name)) kept
      ∙ (ap (λ x. joined x (end_of name)) (sym (rewritten-in_pre pre one))
      ∙ (ap (λ x. joined (rewritten unchanged (in_pre pre one)) x) (sym (rewritten-end_of name))
      ∙ sym (rewritten-joined unchanged (in_pre pre one) (end_of name)))) in
      let whole : joined (joined (in_pre pre (kept_tree unchanged [] nothing_known 0 this)) (end_of name)) g
      ≡ one_document (joined (match_of pre this) f) =
      ap (λ x. joined x g) found
      ∙ (ap (λ x. joined (one_document (match_of pre this)) x) e
      ∙ sym (rewritten-joined unchanged (match_of pre this) f)) in
      let inner : joined (outermost steps (pre_below name attributes pre) (known_below steps known at children)
      children) g ≡ one_document
      (joined (spec.outermost steps (inside around earlier trees name attributes children) [] children) f) =
      ap (λ k. joined (outermost steps (pre_below name attributes pre) k children) g)
      (known_below-is steps around earlier trees name attributes children)
      ∙ (rw (outermost-is steps (inside around earlier trees name attributes children) [] children, e) refl
      ∙ sym (rewritten-joined unchanged
      (spec.outermost steps (inside around earlier trees name attributes children) [] children) f)) in
      test (names steps around earlier trees this)
      (λ y. let yes : names_by steps known after this ≡ true = same ∙ y in rw (yes, y) whole)
      (λ n. let no : names_by steps known after this ≡ false = same ∙ n in rw (no, n) inner)

pub children_of_document-at : (items : List Item) → IsTree items
    → children_of_document (value_at items 0) ≡ value_forest (forest_of (tree_of items) (children_of items 0))
children_of_document-at items t =
    ap (λ (x : NumberedTree). children_of_document (value_tree x)) (tree-open items 0 t t.not_empty
    ∙ ap (λ (x : Item). with_children 0 x.node_data (forest_of (tree_of items) (children_of items 0))) t.first)

module _ (steps : List Step) (items : List Item) (t : IsTree items) (outside : List StepState)
    (is : outside ≡ replicate (length steps) no_state) where
  known : (trees : ValueForest) → first_known steps outside true trees ≡ known_at steps [] [] trees
  known trees = rw (is ∙ no_around [] steps, no_beside [] steps []) refl

  pub kept-page : (rule : Rule)
      → kept rule steps (first_known steps outside true
      (value_forest (forest_of (tree_of items) (children_of items 0))))
      (value_forest (forest_of (tree_of items) (children_of items 0)))
      ≡ rewritten rule (without steps [] [] (children_of_document (value_at items 0)))
  kept-page rule =
      ap (λ k. kept rule steps k (value_forest (forest_of (tree_of items) (children_of items 0))))
      (known (value_forest (forest_of (tree_of items) (children_of items 0))))
      ∙ (kept-is rule steps [] [] (value_forest (forest_of (tree_of items) (children_of items 0)))
      ∙ ap (λ f. rewritten rule (without steps [] [] f)) (sym (children_of_document-at items t)))

  pub outermost-page : outermost steps None (first_known steps outside true
      (value_forest (forest_of (tree_of items) (children_of items 0))))
      (value_forest (forest_of (tree_of items) (children_of items 0)))
      ≡ one_document (spec.outermost steps [] [] (children_of_document (value_at items 0)))
  outermost-page =
      ap (λ k. outermost steps None k (value_forest (forest_of (tree_of items) (children_of items 0))))
      (known (value_forest (forest_of (tree_of items) (children_of items 0))))
      ∙ (outermost-is steps [] [] (value_forest (forest_of (tree_of items) (children_of items 0)))
      ∙ ap (λ f. one_document (spec.outermost steps [] [] f)) (sym (children_of_document-at items t)))
