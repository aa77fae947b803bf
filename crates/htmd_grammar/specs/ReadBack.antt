-- What the serialiser writes of a plain element of a tree that was read is read as that element, even with references
-- in place of some line feeds. Plain: without carriage returns, comments, `pre`, `textarea` and raw text elements.
use Rattle.std.specs.Prelude.{◌≡◌, ◌⊎◌, ℕ, Bool, true, false, not, ◌&&◌, ◌||◌, List, [], ◌∷◌, codes}
use Rattle.std.specs.List.{list_all}
use Rattle.std.specs.Str.{IsUtf8}
use Rattle.htmd_lexical.specs.BlankLines.{with_blank_lines}
use Rattle.htmd_lexical.specs.Characters.{carriage_return}
use Rattle.htmd_lexical.specs.AttributePairs.{AttributePair}
use Rattle.htmd_values.specs.ValueTrees.{ValueTree, document, doctype, text, comment, element}
use Rattle.htmd_values.specs.ValueTrees.{ValueForest, none, more}
use Rattle.htmd_lexical.specs.CharacterClasses.{lacks, is_among}
use Rattle.htmd_grammar.specs.Rules.{Rules}
use Rattle.htmd_grammar.specs.Nesting.{Context}
use Rattle.htmd_grammar.specs.Grammar.{reads}
use Rattle.htmd_values.specs.Serialisation.{serialisation, is_raw_text}
use Rattle.htmd_values.specs.RawBlocks.{raw_block, RefersToLineFeeds}

-- ---- which subtrees

-- the element's texts are written as they are, or its first line feed is dropped
unfoldable pub is_special : List ℕ → Bool
is_special name = is_raw_text name || is_among (codes "pre" ∷ codes "textarea" ∷ []) name

abbrev pub attribute_reads_alone : AttributePair → Bool
attribute_reads_alone attribute = lacks carriage_return attribute.value

abbrev mutual
  -- no carriage return, comment, `pre`, `textarea` or raw text element
  pub reads_alone : ValueTree → Bool
  reads_alone (document children) = false
  reads_alone doctype = false
  reads_alone (text s) = lacks carriage_return s
  reads_alone (comment s) = false
  reads_alone (element name attributes children) =
      not (is_special name) && list_all attribute_reads_alone attributes && all_read_alone children

  pub all_read_alone : ValueForest → Bool
  all_read_alone none = true
  all_read_alone (more tree trees) = reads_alone tree && all_read_alone trees

abbrev mutual
  -- the tree t, whose ancestors have the names d, is the first tree, whose ancestors have the names c, or stands below
  -- it
  pub IsIn : Context → ValueTree → Context → ValueTree → Type 0
  IsIn c (document children) d t = ⊥
  IsIn c doctype d t = ⊥
  IsIn c (text v) d t = (d ≡ c) × (t ≡ text v)
  IsIn c (comment v) d t = (d ≡ c) × (t ≡ comment v)
  IsIn c (element n attributes children) d t = ((d ≡ c) × (t ≡ element n attributes children))
      ⊎ AreIn (n ∷ c) children d t

  -- the same for one of some trees
  pub AreIn : Context → ValueForest → Context → ValueTree → Type 0
  AreIn c none d t = ⊥
  AreIn c (more u us) d t = IsIn c u d t ⊎ AreIn c us d t

-- ---- what is read back

-- in the context the text denotes these trees, and nothing else
pub record DenotesAlone (rules : Rules) (c : Context) (x : List ℕ) (ts : ValueForest) : Type 0 where
  pub denotes : reads rules c x ts
  pub alone : (us : ValueForest) → reads rules c x us → us ≡ ts

-- an element that is below these trees, under some parent, and is plain
pub record IsElementAlone (c : Context) (ts : ValueForest) (d : Context) (t : ValueTree) : Type 0 where
  pub parent : List ℕ
  pub above : Context
  pub context : d ≡ parent ∷ above
  pub name : List ℕ
  pub attributes : List AttributePair
  pub children : ValueForest
  pub is_element : t ≡ element name attributes children
  pub stands : AreIn c ts d t
  pub plain : reads_alone t ≡ true

-- Of trees that were read in some context: the serialisation of a plain element, with references in place of some of
-- its line feeds, denotes that element alone, in the context of its ancestors.
abbrev pub ReadsBack : Rules → Type 0
ReadsBack rules =
    (c : Context) (s : List ℕ) (ts : ValueForest) → reads rules c s ts
    → (d : Context) (t : ValueTree) → IsElementAlone c ts d t
    → (x : List ℕ) → RefersToLineFeeds (serialisation t) x → DenotesAlone rules d x (more t none)

-- The same of what is between the blank lines of a block of its raw HTML.
abbrev pub RawBlockReadsBack : Rules → Type 0
RawBlockReadsBack rules =
    (c : Context) (s : List ℕ) (ts : ValueForest) → reads rules c s ts
    → (d : Context) (t : ValueTree) → IsElementAlone c ts d t → IsUtf8 (serialisation t)
    → (x : List ℕ) → raw_block (serialisation t) ≡ with_blank_lines x → DenotesAlone rules d x (more t none)
