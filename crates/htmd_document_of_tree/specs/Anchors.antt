-- Anchors: the ids that links lead to, before what is seen there.
use Rattle.std.specs.Prelude.{ℕ, suc, Bool, true, false, not, nat_le, if◌then◌else◌}
use Rattle.std.specs.Prelude.{List, [], ◌∷◌, ◌++◌, filter}
use Rattle.htmd_shown.specs.declared.role.Role.TheVariants as role
use Rattle.htmd_shown.specs.Facts.{inserted_facts}
use Rattle.htmd_shown.specs.Roles.{is_verbatim}
use Rattle.htmd_shown.specs.Shown.{followed_by}
use Rattle.htmd_shown.specs.SimpleTrees.{Simple, text, image, formula, embedded, anchor, element, Simples, none, more, simples_of}
use Rattle.htmd_shown.specs.Spaces.{is_blank_text}
use Rattle.htmd_document_of_tree.specs.declared.anchors.Anchors.{Anchors}
use Rattle.htmd_document_of_tree.specs.declared.anchors.Anchors.TheVariants as which
use Rattle.htmd_document_of_tree.specs.Leadings.{Leading, all_leadings, is_linked_to, is_led_to}
use Rattle.htmd_shown.specs.Showings.{image_shows, code_shows}
use Rattle.htmd_document_of_tree.specs.Targets.{Target, all_targets}

-- ---- which anchors

-- those that links lead to, and not only from the heading that the anchor would stand in
abbrev pub linked_targets : List Leading → Simples → List Target
linked_targets leadings trees =
    filter (λ (t : Target). is_led_to leadings t.value t.seen) (all_targets (is_linked_to leadings) trees)

abbrev pub targets_by : Anchors → Bool → Simples → List Target
targets_by which.Linked is_rich trees = linked_targets (all_leadings is_rich trees) trees
targets_by which.All is_rich trees = all_targets (λ s. true) trees
targets_by which.None is_rich trees = []

-- ---- anchors before a leaf

abbrev pub anchors : List (List ℕ) → Simples
anchors [] = none
anchors (id ∷ ids) = more (anchor id) (anchors ids)

-- in a paragraph of their own
abbrev pub apart : Simples → Simple
apart found = element 0 role.Anchors inserted_facts [] found

abbrev pub before : Simples → Simple → Simple
before found tree = element 0 role.Plain inserted_facts [] (followed_by found (more tree none))

-- a code block, or a formula that stands alone
abbrev pub stands_apart : Simple → Bool
stands_apart (formula tex is_alone attributes) = is_alone
stands_apart (element id r facts attributes content) = true
stands_apart _ = false

abbrev pub put_before : Simples → Simple → Simple
put_before found tree = before (if stands_apart tree then more (apart found) none else found) tree

abbrev pub is_embedded : Simple → Bool
is_embedded (embedded id address title attributes found) = true
is_embedded _ = false

-- what is embedded has its anchors in itself
abbrev pub with_ids : List (List ℕ) → Simple → Simple
with_ids ids (embedded id address title attributes found) = embedded id address title attributes (found ++ ids)
with_ids ids tree = tree

abbrev pub after_anchors : List (List ℕ) → Simple → Simple
after_anchors [] tree = tree
after_anchors (id ∷ ids) tree = put_before (anchors (id ∷ ids)) tree

-- a leaf with its anchors
abbrev pub preceded : List (List ℕ) → Simple → Simple
preceded ids tree = if is_embedded tree then with_ids ids tree else after_anchors ids tree

-- ---- all anchors

-- how much was to see before, and the targets that have no anchor yet
pub record Placing : Type 0 where
  pub seen : ℕ
  pub targets : List Target

-- those that stand before what is seen now
abbrev pub ids_up_to : ℕ → List Target → List (List ℕ)
ids_up_to n [] = []
ids_up_to n (t ∷ targets) = if nat_le t.seen n then t.value ∷ ids_up_to n targets else []

abbrev pub targets_past : ℕ → List Target → List Target
targets_past n [] = []
targets_past n (t ∷ targets) = if nat_le t.seen n then targets_past n targets else t ∷ targets

-- a leaf, of which there is something to see or not
abbrev pub placed_before : Placing → Bool → Simple → Simple
placed_before p shows tree = if shows then preceded (ids_up_to p.seen p.targets) tree else tree

abbrev pub after_leaf : Placing → Bool → Placing
after_leaf p shows =
    if shows then record { seen = suc p.seen; targets = targets_past p.seen p.targets } else p

abbrev mutual
  pub placing_after : Placing → Simple → Placing
  placing_after p (text s) = after_leaf p (not (is_blank_text s))
  placing_after p (image address attributes) = after_leaf p (image_shows address attributes)
  placing_after p (formula tex is_alone attributes) = after_leaf p true
  placing_after p (embedded id address title attributes found) = after_leaf p true
  placing_after p (anchor id) = p
  placing_after p (element id r facts attributes content) =
      if is_verbatim r then after_leaf p (code_shows content) else placing_after_all p content

  pub placing_after_all : Placing → Simples → Placing
  placing_after_all p none = p
  placing_after_all p (more tree trees) = placing_after_all (placing_after p tree) trees

abbrev mutual
  -- a node with anchors before what is seen in it
  pub placed : Placing → Simple → Simple
  placed p (text s) = placed_before p (not (is_blank_text s)) (text s)
  placed p (image address attributes) =
      placed_before p (image_shows address attributes) (image address attributes)
  placed p (formula tex is_alone attributes) = placed_before p true (formula tex is_alone attributes)
  placed p (embedded id address title attributes found) =
      placed_before p true (embedded id address title attributes found)
  placed p (anchor id) = anchor id
  placed p (element id r facts attributes content) =
      if is_verbatim r then placed_before p (code_shows content) (element id r facts attributes content)
      else element id r facts attributes (all_placed p content)

  pub all_placed : Placing → Simples → Simples
  all_placed p none = none
  all_placed p (more tree trees) = more (placed p tree) (all_placed (placing_after p tree) trees)

abbrev pub values_of : List Target → List (List ℕ)
values_of [] = []
values_of (t ∷ targets) = t.value ∷ values_of targets

abbrev pub apart_if_any : List Simple → List Simple
apart_if_any [] = []
apart_if_any (tree ∷ found) = apart (simples_of (tree ∷ found)) ∷ []

-- those that nothing follows, in a paragraph of their own
abbrev pub last_anchors : List Target → Simples
last_anchors [] = none
last_anchors (t ∷ targets) = more (apart (anchors (values_of (t ∷ targets)))) none

abbrev pub with_targets : Placing → Simples → Simples
with_targets p trees = followed_by (all_placed p trees) (last_anchors (placing_after_all p trees).targets)

-- the nodes with an anchor before the first thing to see from each element on that links lead to; what nothing follows
-- stands at the end
abbrev pub anchored : Anchors → Bool → Simples → Simples
anchored which is_rich trees = with_targets (record { seen = 0; targets = targets_by which is_rich trees }) trees
