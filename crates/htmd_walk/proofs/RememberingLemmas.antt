-- What is remembered of an element, and what an element gives appended to a text.
use Rattle.std.proofs.Common.{◌≡◌, ℕ, ◌+◌, ◌<◌, ◌≤◌, Bool, suc, List, [], ◌∷◌, ◌++◌, length}
use Rattle.std.proofs.Common.{Option, Some, None, refl, sym, ap, ◌∙◌, arith}
use Rattle.std.proofs.lemmas.List.{append-nil, length-append}
use Rattle.htmd_lexical.specs.AttributePairs.{AttributePair}
use Rattle.htmd_nodes.specs.Items.{Item, IsTree, element_node, data_at}
use Rattle.htmd_nodes.specs.NumberedTrees.{tree_of, height}
use Rattle.htmd_nodes.specs.Ancestors.{ancestor_of, ancestors_of}
use Rattle.htmd_walk.specs.Handling.{ResultView}
use Rattle.htmd_walk.specs.Choice.{Config}
use Rattle.htmd_walk.specs.OrdinaryText.{in_pre_or_code}
use Rattle.htmd_walk.specs.Groups.{group_tree, group_children, children_at}
use Rattle.htmd_walk.specs.Outputs.{Conversion, conversion_of, Output, context_of}
use Rattle.htmd_walk.specs.Elements.{Answer, answer_after, occurrence_at}
use Rattle.htmd_walk.specs.Rendering.{with_result, written_within, inside_of}
use Rattle.htmd_walk.proofs.BeginningsLemmas.{IsBeginning}
use Rattle.htmd_walk.specs.Staying.{HandlersStay}
use Rattle.htmd_walk.specs.Walking.{InNode, answer_at, AlwaysGives}
use Rattle.htmd_walk.proofs.BeginningsLemmas.{beginning-to, grows-answer, grows-within}
use Rattle.htmd_walk.proofs.StayingLemmas.{with_definitions, answer_with, stays-answer, stays-within}
use Rattle.htmd_walk.proofs.RenderingLemmas.{element_written}

no_length : (a : List (List ℕ)) → length a ≡ 0 → a ≡ []
no_length [] e = refl
no_length (x ∷ a) e = absurd (omega (arith, e))

-- what is no longer than its beginning is its beginning
unlengthened : {a b : List (List ℕ)} → IsBeginning a b → length b ≡ length a → b ≡ a
unlengthened {a} {b} p e =
    let size : length b ≡ length a + length p.rest = ap length p.is ∙ length-append a p.rest in
    p.is ∙ ap (λ x. a ++ x) (no_length p.rest (omega (arith, size, e))) ∙ append-nil a

-- what an element gave, if the definitions are as many as before
pub given-always : (v : Conversion) → HandlersStay v.config → (id : ℕ) (r : Option ResultView)
    (old new : List (List ℕ)) → length new ≡ length old
    → InNode v id (λ write. ◌≡◌ {A = Answer} (record { result = r; definitions = new })
    (answer_at write v id old))
    → AlwaysGives v id r
given-always v stay id r old new e given = λ n h definitions.
    let at = occurrence_at (written_within n v) v id (inside_of v.items id) (children_at v.items id) in
    let tag = (ancestor_of (data_at v.items id)).tag in
    let left : (answer_after 0 tag at old).definitions ≡ new =
    ap (λ (a : Answer). a.definitions) (sym (given n h)) in
    let same : new ≡ old = unlengthened (beginning-to (grows-answer at (grows-within n v) 0 tag old) left) e in
    stays-answer at (grows-within n v) (stays-within n v stay) stay 0 tag old definitions (left ∙ same)
    ∙ ap (answer_with definitions) (sym (given n h))

-- what is remembered of an element is what it answers
pub remembered-answer : (v : Conversion) (id : ℕ) (joined : Option (List ℕ)) (name : List ℕ)
    (attributes : List AttributePair) (r : Option ResultView) (n : ℕ) (definitions : List (List ℕ))
    → data_at v.items id ≡ element_node name attributes → joined ≡ None → AlwaysGives v id r
    → height (tree_of v.items id) ≤ suc n
    → ◌≡◌ {A = Answer} (record { result = r; definitions = definitions })
    (answer_after 0 name (occurrence_at (written_within n v) v id (inside_of v.items id)
    (group_children joined (children_at v.items id))) definitions)
remembered-answer v id joined name attributes r n definitions e none given h =
    sym (given n h definitions)
    ∙ ap (λ d. answer_after 0 (ancestor_of d).tag (occurrence_at (written_within n v) v id (inside_of v.items id)
    (children_at v.items id)) definitions) e
    ∙ ap (λ j. answer_after 0 name (occurrence_at (written_within n v) v id (inside_of v.items id)
    (group_children j (children_at v.items id))) definitions) (sym none)

result-anywhere : (out : Output) (whole : Bool) (r : Option ResultView) (definitions others : List (List ℕ))
    → with_result (with_definitions others out) whole r definitions ≡ with_result out whole r definitions
result-anywhere out whole None definitions others = refl
result-anywhere out whole (Some r) definitions others = refl

module _ (config : Config) (items : List Item) (joined : Option (List ℕ)) (t : IsTree items) (id : ℕ)
    (l : id < length items) (name : List ℕ) (attributes : List AttributePair)
    (is : data_at items id ≡ element_node name attributes) (out : Output) (r : Option ResultView)
    (new : List (List ℕ))
    (made : (m : ℕ) → height (tree_of items id) ≤ suc m
    → ◌≡◌ {A = Answer} (record { result = r; definitions = new })
    (answer_after 0 name (occurrence_at (written_within m (conversion_of config items)) (conversion_of config items) id
    (inside_of items id) (group_children joined (children_at items id))) out.definitions)) where
  pub result_put : (n : ℕ) (p trim whole : Bool) → height (tree_of items id) ≤ n
      → whole ≡ in_pre_or_code (ancestors_of items id)
      → with_result (with_definitions new out) whole r new
      ≡ written_within n (conversion_of config items) (group_tree joined (tree_of items id))
      (context_of (ancestors_of items id) p trim) out
  result_put n p trim whole h w =
      result-anywhere out whole r new new
      ∙ ap (λ b. with_result out b r new) w
      ∙ element_written config items joined t id l n p trim out name attributes
      (record { result = r; definitions = new }) h is made
