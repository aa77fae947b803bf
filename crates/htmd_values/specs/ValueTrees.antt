-- Value trees: what a document says.
use Rattle.std.specs.Prelude.{ℕ, List}
use Rattle.htmd_lexical.specs.AttributePairs.{AttributePair}

mutual
  pub data ValueTree : Type 0 where
    document : (children : ValueForest) → ValueTree
    doctype : ValueTree
    text : (s : List ℕ) → ValueTree
    comment : (s : List ℕ) → ValueTree
    element : (name : List ℕ) (attributes : List AttributePair) (children : ValueForest) → ValueTree

  pub data ValueForest : Type 0 where
    none : ValueForest
    more : (tree : ValueTree) (trees : ValueForest) → ValueForest
