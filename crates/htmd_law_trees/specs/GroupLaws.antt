-- The law of the cut into groups.
use Rattle.std.specs.Prelude.{◌≡◌, true, false, List, [], ◌∷◌, ◌++◌}
use Rattle.std.specs.List.{flat_map}
use Rattle.htmd_nodes.specs.NumberedTrees.{NumberedTree, NumberedForest, none, more}
use Rattle.htmd_walk.specs.Groups.{is_joinable, text_of, with_text, groups_of}

abbrev pub trees_in : NumberedForest → List NumberedTree
trees_in none = []
trees_in (more tree trees) = tree ∷ trees_in trees

-- runs, one after another
abbrev pub laid_out : List (List NumberedTree) → List NumberedTree
laid_out [] = []
laid_out (run ∷ runs) = run ++ laid_out runs

-- not empty, and each two neighbours join
abbrev pub IsRun : List NumberedTree → Type 0
IsRun [] = ⊥
IsRun (t ∷ []) = Unit {0}
IsRun (t ∷ u ∷ run) = (is_joinable t u ≡ true) × IsRun (u ∷ run)

abbrev pub AreRuns : List (List NumberedTree) → Type 0
AreRuns [] = Unit {0}
AreRuns (run ∷ runs) = IsRun run × AreRuns runs

-- the last tree of a run does not join with the first one of the next
abbrev pub EndsBefore : List NumberedTree → List NumberedTree → Type 0
EndsBefore [] next = Unit {0}
EndsBefore (t ∷ []) [] = Unit {0}
EndsBefore (t ∷ []) (u ∷ next) = is_joinable t u ≡ false
EndsBefore (s ∷ t ∷ run) next = EndsBefore (t ∷ run) next

-- no run could be longer
abbrev pub AreMaximal : List (List NumberedTree) → Type 0
AreMaximal [] = Unit {0}
AreMaximal (run ∷ []) = Unit {0}
AreMaximal (run ∷ next ∷ runs) = EndsBefore run next × AreMaximal (next ∷ runs)

-- trees, cut into maximal runs of neighbours that join; nothing is lost
pub record IsCut (trees : List NumberedTree) (runs : List (List NumberedTree)) : Type 0 where
  pub whole : laid_out runs ≡ trees
  pub joined : AreRuns runs
  pub maximal : AreMaximal runs

-- a run of one stands for itself, a longer one for its first element with the joined text
abbrev pub StandsFor : NumberedTree → List NumberedTree → Type 0
StandsFor group [] = ⊥
StandsFor group (t ∷ []) = group ≡ t
StandsFor group (t ∷ u ∷ run) = group ≡ with_text (flat_map text_of (t ∷ u ∷ run)) t

abbrev pub AreGroups : NumberedForest → List (List NumberedTree) → Type 0
AreGroups none [] = Unit {0}
AreGroups none (run ∷ runs) = ⊥
AreGroups (more group groups) [] = ⊥
AreGroups (more group groups) (run ∷ runs) = StandsFor group run × AreGroups groups runs

-- the cut of a list of children: their groups stand for its runs, and there is no other
pub record Cut (children : NumberedForest) : Type 0 where
  pub runs : List (List NumberedTree)
  pub cut : IsCut (trees_in children) runs
  pub groups : AreGroups (groups_of children) runs
  pub only : (others : List (List NumberedTree)) → IsCut (trees_in children) others → others ≡ runs

abbrev pub ChildrenAreCut : Type 0
ChildrenAreCut = (children : NumberedForest) → Cut children
