-- Targets as the source keeps them.
use Rattle.std.specs.Prelude.{ℕ, Bool, true, false, ◌&&◌, nat_le, if◌then◌else◌, List, [], ◌∷◌, ◌++◌, map, Option, Some, None}
use Rattle.std.specs.Prelude.{is_some, string_bytes}
use Rattle.std.specs.HashSet.{HashSet, contains_by}
use Rattle.std.specs.Str.{bytes_eq}
use Rattle.htmd_shown.specs.SimpleTrees.{Simple}
use Rattle.htmd_document_of_tree.specs.LeadingViews.{span_to, leads_elsewhere}
use Rattle.htmd_document_of_tree.specs.Seen.{seen}
use Rattle.htmd_document_of_tree.specs.declared.placing.Placing.{Placing}
use Rattle.htmd_document_of_tree.specs.declared.targets.Target.{Target}
use Rattle.htmd_document_of_tree.specs.declared.targets.Targets.{Targets}
use Rattle.htmd_document_of_tree.specs.declared.leadings.Leadings.{Leadings}
use Rattle.std.specs.Borrow.{Bor}
use Rattle.htmd_document_of_tree.specs.Anchors as anchors
use Rattle.htmd_document_of_tree.specs.Targets as value

abbrev pub target_of : Target → value.Target
target_of t = record { value = string_bytes t.value; is_name = t.is_name; seen = t.seen }

abbrev pub is_name : Target → Bool
is_name t = t.is_name

abbrev pub placing_of : Placing → anchors.Placing
placing_of p = record { seen = p.seen; targets = map target_of p.targets.items }

-- the ids that stand before what is seen now, and the targets past them
abbrev pub ids_here : Placing → List (List ℕ)
ids_here p = anchors.ids_up_to p.seen (map target_of p.targets.items)

abbrev pub targets_here : Placing → List value.Target
targets_here p = anchors.targets_past p.seen (map target_of p.targets.items)

-- the next target stands before what is seen now
abbrev pub begins_here : ℕ → List value.Target → Bool
begins_here n [] = false
begins_here n (t ∷ targets) = nat_le t.seen n

abbrev pub targets_in : Targets → List value.Target
targets_in t = map target_of t.found.items

-- all values count, or those that links lead to
abbrev pub counts_of : Option (Bor Leadings) → List ℕ → Bool
counts_of None s = true
counts_of (Some found) s = is_some (span_to found.now s)

-- a target has an anchor
abbrev pub stays : Option (Bor Leadings) → value.Target → Bool
stays None t = true
stays (Some found) t = leads_elsewhere (span_to found.now t.value) t.seen

-- a set has a value
abbrev pub holds : {S : Type 0} → HashSet (Bor (List ℕ)) S → List ℕ → Bool
holds found s = contains_by (λ k. bytes_eq s k.now) found

-- of each target, whether it is the first of its value
abbrev pub firsts_of : List (List ℕ) → List (List ℕ) → List value.Target → List Bool
firsts_of ids known [] = []
firsts_of ids known (t ∷ found) =
    if value.is_first ids known t then true ∷ firsts_of ids (t.value ∷ known) found
    else false ∷ firsts_of ids known found

-- those that are
abbrev pub chosen : List Bool → List value.Target → List value.Target
chosen (true ∷ firsts) (t ∷ found) = t ∷ chosen firsts found
chosen (false ∷ firsts) (t ∷ found) = chosen firsts found
chosen _ _ = []

-- the next one comes off the front, and goes to the end if it stays
abbrev pub turned : (value.Target → Bool) → Bool → List value.Target → List value.Target
turned stays is_first [] = []
turned stays is_first (t ∷ found) = if is_first && stays t then found ++ t ∷ [] else found

abbrev pub seen_in : Simple → ℕ
seen_in = seen
