-- The law of anchors.
use Rattle.std.specs.Prelude.{◌≡◌, ℕ, suc, Bool, true, false, not, ◌&&◌, List, [], ◌∷◌, ◌++◌, map, take, drop, filter, All, None}
use Rattle.std.specs.List.{flat_map, list_any, list_all, IsDistinct}
use Rattle.std.specs.Str.{bytes_eq}
use Rattle.htmd_nodes.specs.NumberedTrees.{NumberedTree}
use Rattle.htmd_document.specs.Documents.{Blocks}
use Rattle.htmd_shown.specs.Attributes.{is_filled, is_to_part}
use Rattle.htmd_shown.specs.Roles.{is_among}
use Rattle.htmd_shown.specs.Shown.{Sight, shown_in}
use Rattle.htmd_shown.specs.SimpleTrees.{Simples}
use Rattle.htmd_document_of_tree.specs.declared.anchors.Anchors.{Anchors}
use Rattle.htmd_document_of_tree.specs.declared.anchors.Anchors.TheVariants as which
use Rattle.htmd_document_of_tree.specs.Anchors.{targets_by, ids_up_to, targets_past, values_of}
use Rattle.htmd_document_of_tree.specs.Leadings.{Leading, leadings_to, all_leadings, is_linked_to, is_in, is_led_to}
use Rattle.htmd_document_of_tree.specs.Limits.{limited}
use Rattle.htmd_document_of_tree.specs.Targets.{Target, targets_among}
use Rattle.htmd_document_of_tree.specs.TreeDocuments.{document_of_tree}
use Rattle.htmd_law_anchors.specs.DocumentLinks.{LinksInBlocks}
use Rattle.htmd_law_anchors.specs.DocumentMarks.{Mark, letter, place, marks_of_blocks}
use Rattle.htmd_law_anchors.specs.ShownThings.{ShowAll}
use Rattle.htmd_law_documents.specs.TreeForms.{is_text_tree}

-- ---- in order

-- things to see, of which n were before, with the anchors that stand before each, and those that nothing follows
abbrev pub with_places : ℕ → List Target → List (List ℕ) → List Mark
with_places n targets [] = map place (values_of targets)
with_places n targets (thing ∷ things) =
    map place (ids_up_to n targets) ++ map letter thing ++ with_places (suc n) (targets_past n targets) things

-- ---- each anchor

-- the characters among marks, and the anchors
abbrev pub character_of : Mark → List ℕ
character_of (letter c) = c ∷ []
character_of (place id) = []

abbrev pub characters_of : List Mark → List ℕ
characters_of marks = flat_map character_of marks

abbrev pub id_of : Mark → List (List ℕ)
id_of (letter c) = []
id_of (place id) = id ∷ []

abbrev pub ids_of : List Mark → List (List ℕ)
ids_of marks = flat_map id_of marks

-- what the first things say
abbrev pub said_before : ℕ → List (List ℕ) → List ℕ
said_before n things = flat_map (λ thing. thing) (take n things)

-- the anchor of a target: before it is visible what the things to see before its place say, and no other character
pub record Stands (things : List (List ℕ)) (marks : List Mark) (target : Target) : Type 0 where
  pub front : List Mark
  pub rest : List Mark
  pub is : marks ≡ front ++ place target.value ∷ rest
  pub before : characters_of front ≡ said_before target.seen things

-- ---- the law

-- A document of what shows, with these targets: it has their anchors and no other, in order; each once, and none empty;
-- and each where the page has what links to it lead to.
pub record HasAnchors (shown : Simples) (targets : List Target) (document : Blocks) : Type 0 where
  -- what each thing to see says
  pub things : List (List ℕ)
  pub show : ShowAll false false shown things
  pub in_order : marks_of_blocks document ≡ with_places 0 targets things
  pub stand : All (Stands things (marks_of_blocks document)) targets
  pub ids : ids_of (marks_of_blocks document) ≡ values_of targets
  pub unique : IsDistinct bytes_eq (values_of targets)
  pub filled : list_all is_filled (values_of targets) ≡ true

-- The document of a tree: the targets are those of the nodes that it is made of, within the budget of their links.
abbrev pub AnchorsOfTree : Anchors → Sight → NumberedTree → Type 0
AnchorsOfTree anchors sight tree =
    HasAnchors (shown_in sight tree) (targets_by anchors sight.is_rich (limited (shown_in sight tree)))
    (document_of_tree anchors sight tree)

-- So it is for every tree of texts, with whatever anchors.
abbrev pub LinksLeadThere : Type 0
LinksLeadThere = (anchors : Anchors) (sight : Sight) (tree : NumberedTree) → is_text_tree tree ≡ true
    → AnchorsOfTree anchors sight tree

-- So by none it has no anchor.
abbrev pub NoneStand : Type 0
NoneStand = (sight : Sight) (tree : NumberedTree) → is_text_tree tree ≡ true
    → ids_of (marks_of_blocks (document_of_tree which.None sight tree)) ≡ []

-- By links the targets are those of all that a link leads to, and not only from the heading that their place is in.
abbrev pub LinkedAreLedTo : Type 0
LinkedAreLedTo = (is_rich : Bool) (trees : Simples)
    → targets_by which.Linked is_rich trees
    ≡ filter (λ (t : Target). is_led_to (all_leadings is_rich trees) t.value t.seen)
    (targets_by which.All is_rich trees)

-- Each value of the page, an id or a name, is that of a target.
abbrev pub EachValueHasTarget : Type 0
EachValueHasTarget = (is_rich : Bool) (trees : Simples) (s : List ℕ)
    → is_among (values_of (targets_among (λ value. true) None 0 trees)) s ≡ true
    → is_among (values_of (targets_by which.All is_rich trees)) s ≡ true

-- ---- links

-- each of them leads to what one of these leads to
abbrev pub AreAmong : List Leading → List Leading → Type 0
AreAmong leadings [] = Unit {0}
AreAmong leadings (l ∷ ls) = (is_linked_to leadings l.to ≡ true) × AreAmong leadings ls

-- if an address leads to a part of the page, one of these leads there: to what follows `#`, and to that percent-decoded
abbrev pub LeadsAmong : List Leading → List ℕ → Type 0
LeadsAmong leadings address = is_to_part address ≡ true → AreAmong leadings (leadings_to None (drop 1 address))

-- Each link of the document of a tree to a part of its page is one of those that count, within their budget.
abbrev pub LinksOfTree : Anchors → Sight → NumberedTree → Type 0
LinksOfTree anchors sight tree =
    LinksInBlocks (LeadsAmong (all_leadings sight.is_rich (limited (shown_in sight tree))))
    (document_of_tree anchors sight tree)

-- So it is for every tree of texts, with whatever anchors.
abbrev pub LinksCount : Type 0
LinksCount = (anchors : Anchors) (sight : Sight) (tree : NumberedTree) → is_text_tree tree ≡ true
    → LinksOfTree anchors sight tree

-- no heading with a link to a place holds that place
abbrev pub is_outside : List Leading → Target → Bool
is_outside leadings t = list_all (λ (l : Leading). not (bytes_eq l.to t.value && is_in l.heading t.seen)) leadings

-- a place of the page has this value, and no such heading holds it
abbrev pub has_place : Bool → Simples → List ℕ → Bool
has_place is_rich trees s =
    list_any (λ (t : Target). bytes_eq t.value s && is_outside (all_leadings is_rich trees) t)
    (targets_by which.All is_rich trees)

-- for each value that they lead to there is an anchor, if the page has a place for it
abbrev pub AreThere : Bool → Simples → List (List ℕ) → List Leading → Type 0
AreThere is_rich trees ids [] = Unit {0}
AreThere is_rich trees ids (l ∷ ls) =
    (has_place is_rich trees l.to ≡ true → is_among ids l.to ≡ true) × AreThere is_rich trees ids ls

abbrev pub Reaches : Bool → Simples → List (List ℕ) → List ℕ → Type 0
Reaches is_rich trees ids address =
    is_to_part address ≡ true → AreThere is_rich trees ids (leadings_to None (drop 1 address))

-- So by links each link of a document to a part of the page for which the page has a place leads to an anchor of it.
abbrev pub LinksReach : Type 0
LinksReach = (sight : Sight) (tree : NumberedTree) → is_text_tree tree ≡ true
    → LinksInBlocks (Reaches sight.is_rich (limited (shown_in sight tree))
    (ids_of (marks_of_blocks (document_of_tree which.Linked sight tree))))
    (document_of_tree which.Linked sight tree)
