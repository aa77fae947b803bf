-- What the calls of a reader leave, by the grammar's steps.
use Rattle.std.proofs.Common.{◌≡◌, ℕ, ◌+◌, ◌<◌, ◌≤◌, Bool, true, false, cond, List, [], ◌∷◌, ◌++◌, length, refl}
use Rattle.std.proofs.Common.{sym, ap, ◌∙◌, arith, Ok, Err, OnOk, Option, Some, None, IsSome}
use Rattle.std.specs.Option.{option_to_list}
use Rattle.std.proofs.lemmas.List.{length-append}
use Rattle.std.specs.Prelude.{nat_le, nat_lt}
use Rattle.std.proofs.lemmas.Bool.Decides.{nat_tests}
use Rattle.htmd_lexical.specs.AttributePairs.{AttributePair}
use Rattle.htmd_values.specs.ValueTrees.{none, more}
use Rattle.htmd_lexical.specs.CharacterClasses.{is_empty}
use Rattle.htmd_grammar.specs.HtmlDocuments.{above_body}
use Rattle.htmd_grammar.specs.ReaderSteps.{OpenElement, Step, step, here, via, names_of, closed, fresh}
use Rattle.htmd_grammar.specs.ReaderSteps.{with_tree, add, fault, between, is_too_deep}
use Rattle.htmd_grammar.specs.declared.fault.FaultKind.TheVariants.{TooDeep}
use Rattle.htmd_nodes.specs.Items.{Data, element_node, Item, depth_at, data_at, new_item, greatest_depth}
use Rattle.htmd_tree.specs.Surroundings.{surroundings_of}
use Rattle.htmd_tree.specs.OpenItems.{stack_items, innermost_number}
use Rattle.htmd_tree.specs.OpenNodes.{innermost_name, open_node, open_nodes}
use Rattle.htmd_tree.specs.OpenNodes.{MayOpen, Holds, IsReading}
use Rattle.htmd_tree.specs.Advances.{Answer, state_at, rules_of, Follows, Advances, leaf, IsLeaf, HasAdded}
use Rattle.htmd_tree.specs.declared.reader.OpenNode.{OpenNode}
use Rattle.htmd_tree.specs.declared.reader.Reader.{Reader}
use Rattle.htmd_tree.specs.declared.reader.surroundings.Surroundings.{Surroundings}
use Rattle.htmd_tree.specs.declared.reader.Stop.TheVariants.{Memory, Refused}
use Rattle.htmd_tree.proofs.OpenNodesLemmas.{top_depth, top_data, stack_items-leaf, stack_items-opened}
use Rattle.htmd_tree.proofs.OpenNodesLemmas.{stack_items-closed, AreOpen-with}

-- ---- the innermost open element

-- this is what is kept of the innermost open element
abbrev pub IsTop : Reader → OpenNode → Type 0
IsTop reader o =
    (has_doctype : Bool) (f : OpenElement) (fs : List OpenElement) → Holds reader has_doctype (f ∷ fs)
    → o ≡ open_node reader.scripting has_doctype f fs

pub holds_kept : (reader other : Reader) (has_doctype : Bool) (fs : List OpenElement) → other.tree ≡ reader.tree
    → other.stack.items ≡ reader.stack.items → other.scripting ≡ reader.scripting
    → Holds reader has_doctype fs
    → Holds other has_doctype fs
holds_kept reader other has_doctype fs tree stack scripting h = record {
  tree_is = tree ∙ h.tree_is;
  stack_is =
      stack ∙ (h.stack_is ∙ ap (λ b. open_nodes b has_doctype fs) (sym scripting));
  are_open = h.are_open;
}

pub reading_at : (reader : Reader) (has_doctype : Bool) (fs : List OpenElement) → Holds reader has_doctype fs
    → IsReading reader
reading_at reader has_doctype [] h = absurd h.are_open
reading_at reader has_doctype (f ∷ fs) h = (has_doctype, f, fs, h)

pub top_at : (reader : Reader) (has_doctype : Bool) (fs : List OpenElement) (o : OpenNode) → IsTop reader o
    → Holds reader has_doctype fs
    → (o.id ≡ innermost_number has_doctype fs)
    × (o.surroundings ≡ surroundings_of reader.scripting (names_of above_body fs))
    × (depth_at reader.tree o.id + 1 ≡ length (names_of above_body fs))
top_at reader has_doctype [] o t h = absurd h.are_open
top_at reader has_doctype (f ∷ fs) o t h =
    let e = t has_doctype f fs h in
    let k : o.id ≡ length (stack_items has_doctype fs) = ap (λ (y : OpenNode). y.id) e in
    let d : depth_at reader.tree o.id ≡ length (names_of above_body fs) =
    ap (λ (n : ℕ). depth_at reader.tree n) k
    ∙ (ap (λ (y : List Item). depth_at y (length (stack_items has_doctype fs))) h.tree_is
    ∙ top_depth has_doctype f fs) in
    (k, ap (λ (y : OpenNode). y.surroundings) e, omega arith)

pub name_at : (reader : Reader) (has_doctype : Bool) (fs : List OpenElement) (o : OpenNode) (n : List ℕ)
    (attributes : List AttributePair) → IsTop reader o → Holds reader has_doctype fs
    → element_node n attributes ≡ data_at reader.tree o.id → n ≡ innermost_name fs
name_at reader has_doctype [] o n attributes t h e = absurd h.are_open
name_at reader has_doctype (f ∷ fs) o n attributes t h e =
    let k : o.id ≡ length (stack_items has_doctype fs) = ap (λ (y : OpenNode). y.id) (t has_doctype f fs h) in
    let d : element_node n attributes ≡ element_node f.name f.attributes =
    e ∙ (ap (λ (m : ℕ). data_at reader.tree m) k
    ∙ (ap (λ (y : List Item). data_at y (length (stack_items has_doctype fs))) h.tree_is
    ∙ top_data has_doctype f fs)) in
    (cc)

-- it is an element
pub element_at : (reader : Reader) (has_doctype : Bool) (fs : List OpenElement) (o : OpenNode) → IsTop reader o
    → Holds reader has_doctype fs
    → (n : List ℕ) × (attributes : List AttributePair) × (data_at reader.tree o.id ≡ element_node n attributes)
element_at reader has_doctype [] o t h = absurd h.are_open
element_at reader has_doctype (f ∷ fs) o t h =
    let k : o.id ≡ length (stack_items has_doctype fs) = ap (λ (y : OpenNode). y.id) (t has_doctype f fs h) in (
      f.name,
      f.attributes,
      ap (λ (m : ℕ). data_at reader.tree m) k
          ∙ ap (λ (y : List Item). data_at y (length (stack_items has_doctype fs))) h.tree_is
          ∙ top_data has_doctype f fs,
    )

pub deep_at : (reader : Reader) (has_doctype : Bool) (fs : List OpenElement) (o : OpenNode) (n : ℕ)
    → IsTop reader o → Holds reader has_doctype fs → n ≡ depth_at reader.tree o.id
    → nat_le 1024 n ≡ is_too_deep (rules_of reader) above_body fs
deep_at reader has_doctype fs o n t h e =
    let d = (top_at reader has_doctype fs o t h).2 in
    let k : n + 1 ≡ length (names_of above_body fs) = omega arith in
    same_test n (length (names_of above_body fs)) k
  where
    same_test : (n m : ℕ) → n + 1 ≡ m → nat_le 1024 n ≡ nat_lt 1024 m
    same_test n m e = grind (arith, nat_tests)

pub shallow_at : (reader : Reader) (has_doctype : Bool) (fs : List OpenElement) (o : OpenNode) → IsTop reader o
    → Holds reader has_doctype fs → (greatest_depth ≤ depth_at reader.tree o.id → ⊥)
    → is_too_deep (rules_of reader) above_body fs ≡ false
shallow_at reader has_doctype fs o t h n =
    let d = (top_at reader has_doctype fs o t h).2 in
    shallow_test (depth_at reader.tree o.id) (length (names_of above_body fs)) d n
  where
    shallow_test : (n m : ℕ) → n + 1 ≡ m → (1024 ≤ n → ⊥) → nat_lt 1024 m ≡ false
    shallow_test n m e l = grind (arith, nat_tests)

pub too_deep_at : (reader : Reader) (has_doctype : Bool) (fs : List OpenElement) (o : OpenNode) → IsTop reader o
    → Holds reader has_doctype fs → greatest_depth ≤ depth_at reader.tree o.id
    → is_too_deep (rules_of reader) above_body fs ≡ true
too_deep_at reader has_doctype fs o t h l =
    let d = (top_at reader has_doctype fs o t h).2 in
    deep_test (depth_at reader.tree o.id) (length (names_of above_body fs)) d l
  where
    deep_test : (n m : ℕ) → n + 1 ≡ m → 1024 ≤ n → nat_lt 1024 m ≡ true
    deep_test n m e l = grind (arith, nat_tests)

-- ---- what follows a step

pub reading_after : (old new : Reader) (has_doctype : Bool) (s : Step) → Follows old new has_doctype (Ok tt) s
    → IsReading new
reading_after old new has_doctype (Ok st) at = reading_at new has_doctype st.stack at.holds
reading_after old new has_doctype (Err kind) at = absurd at

pub reading_either : (old new : Reader) (has_doctype : Bool) (r : Answer) (s : Step)
    → Follows old new has_doctype r s → OnOk r (IsReading new)
reading_either old new has_doctype (Ok x) s f = reading_after old new has_doctype s f
reading_either old new has_doctype (Err stop) s f = tt

pub leaf_follows : (old middle new : Reader) (has_doctype : Bool) (fs : List OpenElement) (x : Data) (id : ℕ)
    (rest : List ℕ) → Holds old has_doctype fs → IsLeaf x → HasAdded old middle has_doctype fs x id
    → new.tree ≡ middle.tree → new.stack.items ≡ old.stack.items → new.rest.now ≡ rest
    → new.scripting ≡ old.scripting
    → Follows old new has_doctype (Ok tt) (add (rules_of old) above_body fs (leaf x) rest)
leaf_follows old middle new has_doctype [] x id rest h l a tree stack left scripting = absurd h.are_open
leaf_follows old middle new has_doctype (f ∷ gs) x id rest h l a tree stack left scripting =
    let holds : Holds new has_doctype (with_tree (f ∷ gs) (leaf x)) = record {
      tree_is = tree ∙ (a.tree ∙ stack_items-leaf has_doctype f gs x l old.tree h.tree_is);
      stack_is =
          stack ∙ (h.stack_is ∙ ap (λ b. open_nodes b has_doctype (f ∷ gs)) (sym scripting));
      are_open = AreOpen-with (f ∷ gs) (more (leaf x) none) h.are_open;
    } in
    rw a.shallow (record { holds = holds; run = refl; rest = left; scripting = scripting })

same_node : (o : OpenNode) (id : ℕ) (implied : Bool) (p : Surroundings) → o.id ≡ id → o.implied ≡ implied
    → o.surroundings ≡ p
    → ◌≡◌ {A = OpenNode} o (record { id = id; implied = implied; surroundings = p })
same_node o id implied p i j k =
    let by_id : ℕ → OpenNode = λ n. record { id = n; implied = o.implied; surroundings = o.surroundings } in
    let by_flag : Bool → OpenNode = λ b. record { id = id; implied = b; surroundings = o.surroundings } in
    let by_surroundings : Surroundings → OpenNode = λ q. record { id = id; implied = implied; surroundings = q } in
    ap by_id i ∙ (ap by_flag j ∙ ap by_surroundings k)

pub added_at : (old new : Reader) (has_doctype : Bool) (fs : List OpenElement) (o : OpenNode) (x : Data) (id : ℕ)
    → IsTop old o → Holds old has_doctype fs → id ≡ length old.tree
    → new.tree ≡ old.tree ++ new_item old.tree o.id x ∷ [] → (greatest_depth ≤ depth_at old.tree o.id → ⊥)
    → HasAdded old new has_doctype fs x id
added_at old new has_doctype fs o x id t h number tree shallow = record {
  tree = tree ∙ ap (λ (p : ℕ). old.tree ++ new_item old.tree p x ∷ []) ((top_at old has_doctype fs o t h).0);
  number = number;
  shallow = shallow_at old has_doctype fs o t h shallow;
}

pub opened_follows : (old middle new : Reader) (has_doctype : Bool) (fs : List OpenElement) (n : List ℕ)
    (attributes : List AttributePair) (implied : Bool) (o : OpenNode) → Holds old has_doctype fs
    → MayOpen n implied fs → HasAdded old middle has_doctype fs (element_node n attributes) o.id
    → o.implied ≡ implied → o.surroundings ≡ surroundings_of old.scripting (n ∷ names_of above_body fs)
    → new.tree ≡ middle.tree → new.stack.items ≡ old.stack.items ++ o ∷ [] → new.rest.now ≡ old.rest.now
    → new.scripting ≡ old.scripting
    → Follows old new has_doctype (Ok tt) (cond (is_too_deep (rules_of old) above_body fs) (fault TooDeep)
    (between (fresh n attributes implied ∷ fs) old.rest.now))
opened_follows old middle new has_doctype [] n attributes implied o h m a flag flags tree stack left scripting =
    absurd h.are_open
opened_follows old middle new has_doctype (f ∷ gs) n attributes implied o h m a flag flags tree stack left scripting =
    let number : o.id ≡ length (stack_items has_doctype (f ∷ gs)) = a.number ∙ ap length h.tree_is in
    let last : o ≡ open_node old.scripting has_doctype (fresh n attributes implied) (f ∷ gs) =
    same_node o (length (stack_items has_doctype (f ∷ gs))) implied
    (surroundings_of old.scripting (n ∷ names_of above_body (f ∷ gs))) number flag flags in
    let holds : Holds new has_doctype (fresh n attributes implied ∷ f ∷ gs) = record {
      tree_is = tree ∙ (a.tree ∙ stack_items-opened has_doctype f gs n attributes implied old.tree h.tree_is);
      stack_is =
          stack ∙ (ap (λ y. old.stack.items ++ y ∷ []) last
          ∙ (ap (λ y. y ++ open_node old.scripting has_doctype (fresh n attributes implied) (f ∷ gs) ∷ [])
          h.stack_is
          ∙ ap (λ b. open_nodes b has_doctype (fresh n attributes implied ∷ f ∷ gs)) (sym scripting)));
      are_open = (m, h.are_open);
    } in
    rw a.shallow (record { holds = holds; run = refl; rest = left; scripting = scripting })

pub reading_kept : (reader other : Reader) → other.tree ≡ reader.tree → other.stack.items ≡ reader.stack.items
    → other.scripting ≡ reader.scripting → IsReading reader → IsReading other
reading_kept reader other tree stack scripting r =
    (r.0, r.1, r.2, holds_kept reader other (r.0) (r.1 ∷ r.2) tree stack scripting (r.3))

-- ---- steps

pub advance : (old new : Reader) (has_doctype : Bool) (fs : List OpenElement) (r : Answer) (s : Step)
    → step (rules_of old) above_body (state_at fs old.rest.now) ≡ s → is_empty old.rest.now ≡ false
    → Follows old new has_doctype r s → Advances old new has_doctype fs r
advance old new has_doctype fs (Ok x) (Ok st) e left_over at = (st, at, via e here)
advance old new has_doctype fs (Ok x) (Err kind) e left_over at = absurd at
advance old new has_doctype fs (Err Memory) s e left_over at = tt
advance old new has_doctype fs (Err (Refused left kind)) (Ok st) e left_over at = absurd at
advance old new has_doctype fs (Err (Refused left kind)) (Err found) e left_over at =
    (state_at fs old.rest.now, here, e ∙ ap Err (sym at.0), left_over, at.1)

-- ---- closing

-- what comes before the last of some is known by the whole
without_last : (xs ys : List OpenNode) (x y : OpenNode) → xs ++ x ∷ [] ≡ ys ++ y ∷ [] → xs ≡ ys
without_last [] [] x y e = refl
without_last [] (b ∷ ys) x y e = absurd (let n = ap length e in let m = length-append ys (y ∷ []) in omega arith)
without_last (a ∷ xs) [] x y e = absurd (let n = ap length e in let m = length-append xs (x ∷ []) in omega arith)
without_last (a ∷ xs) (b ∷ ys) x y e =
    let p = front_is a b (xs ++ x ∷ []) (ys ++ y ∷ []) e in
    let q = without_last xs ys x y p.1 in rw (p.0, q) refl
  where
    front_is : (a b : OpenNode) (xs ys : List OpenNode) → a ∷ xs ≡ b ∷ ys → (a ≡ b) × (xs ≡ ys)
    front_is a b xs ys e = (cc, cc)

taken_off : (before left outer : List OpenNode) (last : Option OpenNode) (x : OpenNode)
    → before ≡ left ++ option_to_list last → before ≡ outer ++ x ∷ [] → (0 < length before → IsSome last)
    → left ≡ outer
taken_off before left outer (Some y) x e same h = without_last left outer y x (sym e ∙ same)
taken_off before left outer None x e same h =
    let n : length before ≡ length outer + 1 = ap length same ∙ length-append outer (x ∷ []) in
    let some = h (omega arith) in (cc)

pub closed_holds : (old new : Reader) (has_doctype : Bool) (f g : OpenElement) (fs : List OpenElement)
    (last : Option OpenNode) → Holds old has_doctype (f ∷ g ∷ fs)
    → old.stack.items ≡ new.stack.items ++ option_to_list last → (0 < length old.stack.items → IsSome last)
    → new.tree ≡ old.tree → new.scripting ≡ old.scripting
    → Holds new has_doctype (with_tree (g ∷ fs) (closed f))
closed_holds old new has_doctype f g fs last h e some tree scripting = record {
  tree_is = tree ∙ (h.tree_is ∙ sym (stack_items-closed has_doctype f g fs));
  stack_is =
      taken_off old.stack.items new.stack.items (open_nodes old.scripting has_doctype (g ∷ fs)) last
      (open_node old.scripting has_doctype f (g ∷ fs)) e h.stack_is some
      ∙ ap (λ b. open_nodes b has_doctype (g ∷ fs)) (sym scripting);
  are_open = AreOpen-with (g ∷ fs) (more (closed f) none) (h.are_open.1);
}

pub closed_reading : (old new : Reader) (last : Option OpenNode) → IsReading old → 1 < length old.stack.items
    → old.stack.items ≡ new.stack.items ++ option_to_list last → (0 < length old.stack.items → IsSome last)
    → new.tree ≡ old.tree → new.scripting ≡ old.scripting → IsReading new
closed_reading old new last r l e some tree scripting = each (r.2) (r.3)
  where
    each : (fs : List OpenElement) → Holds old (r.0) (r.1 ∷ fs) → IsReading new
    each [] h = let n : length old.stack.items ≡ 1 = ap length h.stack_is in absurd (omega arith)
    each (g ∷ fs) h = reading_at new (r.0) (with_tree (g ∷ fs) (closed (r.1)))
        (closed_holds old new (r.0) (r.1) g fs last h e some tree scripting)
