-- The cut into maximal runs is there, is the only one, and the groups stand for its runs.
use Rattle.std.proofs.Common.{◌≡◌, ℕ, Bool, true, false, List, [], ◌∷◌, ◌++◌}
use Rattle.std.proofs.Common.{refl, sym, ap, ◌∙◌, subst, cond}
use Rattle.std.specs.List.{flat_map}
use Rattle.std.proofs.lemmas.List.{append-nil}
use Rattle.htmd_nodes.specs.NumberedTrees.{NumberedTree, NumberedForest, none, more}
use Rattle.htmd_walk.specs.Groups.{is_joinable, text_of, with_text, groups_of, in_front}
use Rattle.htmd_law_trees.specs.GroupLaws.{trees_in, laid_out, IsRun, AreRuns, AreMaximal, IsCut, StandsFor}
use Rattle.htmd_law_trees.specs.GroupLaws.{AreGroups, ChildrenAreCut}
use Rattle.htmd_walk.proofs.GroupsLemmas.{is_joinable-with, text_of-with}

abbrev Runs : Type 0
Runs = List (List NumberedTree)

-- a tree in front of runs
abbrev put : NumberedTree → Runs → Runs
put t [] = (t ∷ []) ∷ []
put t ([] ∷ runs) = (t ∷ []) ∷ [] ∷ runs
put t ((u ∷ run) ∷ runs) = cond (is_joinable t u) ((t ∷ u ∷ run) ∷ runs) ((t ∷ []) ∷ (u ∷ run) ∷ runs)

abbrev cut_of : List NumberedTree → Runs
cut_of [] = []
cut_of (t ∷ ts) = put t (cut_of ts)

-- ---- it is a cut

maximal-longer : (t u : NumberedTree) (run : List NumberedTree) (runs : Runs) → AreMaximal ((u ∷ run) ∷ runs)
    → AreMaximal ((t ∷ u ∷ run) ∷ runs)
maximal-longer t u run [] m = tt
maximal-longer t u run (next ∷ runs) m = m

maximal-shorter : (t u : NumberedTree) (run : List NumberedTree) (runs : Runs)
    → AreMaximal ((t ∷ u ∷ run) ∷ runs) → AreMaximal ((u ∷ run) ∷ runs)
maximal-shorter t u run [] m = tt
maximal-shorter t u run (next ∷ runs) m = m

maximal-rest : (run : List NumberedTree) (runs : Runs) → AreMaximal (run ∷ runs) → AreMaximal runs
maximal-rest run [] m = tt
maximal-rest run (next ∷ runs) m = m.1

put-by : (t u : NumberedTree) (run ts : List NumberedTree) (runs : Runs) (b : Bool) → is_joinable t u ≡ b
    → IsCut ts ((u ∷ run) ∷ runs)
    → IsCut (t ∷ ts) (cond b ((t ∷ u ∷ run) ∷ runs) ((t ∷ []) ∷ (u ∷ run) ∷ runs))
put-by t u run ts runs true e c = record {
  whole = ap (λ (l : List NumberedTree). t ∷ l) c.whole;
  joined = ((e, c.joined.0), c.joined.1);
  maximal = maximal-longer t u run runs c.maximal;
}
put-by t u run ts runs false e c = record {
  whole = ap (λ (l : List NumberedTree). t ∷ l) c.whole;
  joined = (tt, c.joined);
  maximal = (e, c.maximal);
}

put-cut : (t : NumberedTree) (ts : List NumberedTree) (runs : Runs) → IsCut ts runs → IsCut (t ∷ ts) (put t runs)
put-cut t ts [] c = record {
  whole = ap (λ (l : List NumberedTree). t ∷ l) c.whole;
  joined = (tt, tt);
  maximal = tt;
}
put-cut t ts ([] ∷ runs) c = absurd c.joined.0
put-cut t ts ((u ∷ run) ∷ runs) c = put-by t u run ts runs (is_joinable t u) refl c

cut_of-cut : (ts : List NumberedTree) → IsCut ts (cut_of ts)
cut_of-cut [] = record { whole = refl; joined = tt; maximal = tt }
cut_of-cut (t ∷ ts) = put-cut t ts (cut_of ts) (cut_of-cut ts)

-- ---- there is no other

alone : (t : NumberedTree) (runs : Runs) → AreRuns runs → AreMaximal ((t ∷ []) ∷ runs)
    → (t ∷ []) ∷ runs ≡ put t runs
alone t [] j m = refl
alone t ([] ∷ runs) j m = absurd j.0
alone t ((u ∷ run) ∷ runs) j m =
    sym (ap (λ (b : Bool). cond b ((t ∷ u ∷ run) ∷ runs) ((t ∷ []) ∷ (u ∷ run) ∷ runs)) m.0)

longer : (t : NumberedTree) (run : List NumberedTree) (runs : Runs) → runs ≡ cut_of (laid_out runs)
    → IsRun (t ∷ run) → AreRuns runs → AreMaximal ((t ∷ run) ∷ runs)
    → (t ∷ run) ∷ runs ≡ put t (cut_of (run ++ laid_out runs))
longer t [] runs rest r j m = alone t runs j m ∙ ap (put t) rest
longer t (u ∷ run) runs rest r j m =
    sym (ap (λ (b : Bool). cond b ((t ∷ u ∷ run) ∷ runs) ((t ∷ []) ∷ (u ∷ run) ∷ runs)) r.0)
    ∙ ap (put t) (longer u run runs rest r.1 j (maximal-shorter t u run runs m))

only_cut : (runs : Runs) → AreRuns runs → AreMaximal runs → runs ≡ cut_of (laid_out runs)
only_cut [] j m = refl
only_cut ([] ∷ runs) j m = absurd j.0
only_cut ((t ∷ run) ∷ runs) j m =
    longer t run runs (only_cut runs j.1 (maximal-rest (t ∷ run) runs m)) j.0 j.1 m

-- ---- what its runs stand for

-- what stands for a run joins as its first tree does
joins_alike : (t g u : NumberedTree) (run : List NumberedTree) → StandsFor g (u ∷ run)
    → is_joinable t g ≡ is_joinable t u
joins_alike t g u [] s = ap (is_joinable t) s
joins_alike t g u (v ∷ run) s =
    ap (is_joinable t) s ∙ is_joinable-with (flat_map text_of (u ∷ v ∷ run)) t u

texts_alike : (t g u : NumberedTree) (run : List NumberedTree) → StandsFor g (u ∷ run) → is_joinable t u ≡ true
    → text_of g ≡ flat_map text_of (u ∷ run)
texts_alike t g u [] s e = ap text_of s ∙ sym (append-nil (text_of u))
texts_alike t g u (v ∷ run) s e = ap text_of s ∙ text_of-with (flat_map text_of (u ∷ v ∷ run)) t u e

fits-by : (t g u : NumberedTree) (gs : NumberedForest) (run : List NumberedTree) (runs : Runs) (b : Bool)
    → is_joinable t u ≡ b → StandsFor g (u ∷ run) → AreGroups gs runs
    → AreGroups (cond b (more (with_text (text_of t ++ text_of g) t) gs) (more t (more g gs)))
    (cond b ((t ∷ u ∷ run) ∷ runs) ((t ∷ []) ∷ (u ∷ run) ∷ runs))
fits-by t g u gs run runs true e s rest =
    (ap (λ (l : List ℕ). with_text (text_of t ++ l) t) (texts_alike t g u run s e), rest)
fits-by t g u gs run runs false e s rest = (refl, (s, rest))

fits : (t : NumberedTree) (gs : NumberedForest) (runs : Runs) → AreGroups gs runs
    → AreGroups (in_front t gs) (put t runs)
fits t none [] h = (refl, tt)
fits t none (run ∷ runs) h = absurd h
fits t (more g gs) [] h = absurd h
fits t (more g gs) ([] ∷ runs) h = absurd h.0
fits t (more g gs) ((u ∷ run) ∷ runs) h =
    subst (λ (b : Bool). AreGroups (cond b (more (with_text (text_of t ++ text_of g) t) gs) (more t (more g gs)))
    (cond (is_joinable t u) ((t ∷ u ∷ run) ∷ runs) ((t ∷ []) ∷ (u ∷ run) ∷ runs)))
    (sym (joins_alike t g u run h.0)) (fits-by t g u gs run runs (is_joinable t u) refl h.0 h.1)

groups-fit : (children : NumberedForest) → AreGroups (groups_of children) (cut_of (trees_in children))
groups-fit none = tt
groups-fit (more t ts) = fits t (groups_of ts) (cut_of (trees_in ts)) (groups-fit ts)

pub children_are_cut : ChildrenAreCut
children_are_cut children = record {
  runs = cut_of (trees_in children);
  cut = cut_of-cut (trees_in children);
  groups = groups-fit children;
  only = λ others c. only_cut others c.joined c.maximal ∙ ap cut_of c.whole;
}
