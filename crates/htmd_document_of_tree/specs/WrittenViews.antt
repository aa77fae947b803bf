-- What the source has counted of a page.
use Rattle.std.specs.Prelude.{◌≡◌, ℕ, ◌+◌, ◌-◌, ◌≤◌, List, Option, MatchOption}
use Rattle.std.specs.HashSet.{contains_text}
use Rattle.htmd_shown.specs.Roles.{is_among}
use Rattle.htmd_shown.specs.SimpleTrees.{Simple, text, image, formula, embedded, anchor, element, Simples, none, more}
use Rattle.htmd_document_of_tree.specs.declared.limits.Written.{Written}
use Rattle.htmd_document_of_tree.specs.Limits as value

-- it has counted as much, and knows the same pairs
pub record Counts (written : Written) (w : value.Written) : Type 0 where
  pub count : written.count ≡ w.count
  pub pairs : (s : List ℕ) → contains_text written.pairs s ≡ is_among w.pairs s

abbrev mutual
  -- the characters of all texts in a node
  pub text_characters : Simple → ℕ
  text_characters (text s) = value.characters s
  text_characters (image address attributes) = 0
  text_characters (formula tex is_alone attributes) = 0
  text_characters (embedded id address title attributes anchors) = 0
  text_characters (anchor id) = 0
  text_characters (element id role facts attributes content) = all_text_characters content

  pub all_text_characters : Simples → ℕ
  all_text_characters none = 0
  all_text_characters (more tree trees) = text_characters tree + all_text_characters trees

-- at least so much is left
abbrev pub HasLeft : ℕ → Option ℕ → Type 0
HasLeft least left = MatchOption left ⊥ (λ n. least ≤ n)

-- from `count` on, no more is paid than up to `most`: a budget of as much suffices
abbrev pub Covers : ℕ → ℕ → (Option ℕ → Option ℕ) → Type 0
Covers count most pay = (count ≤ most)
    × ((budget : ℕ) (left : Option ℕ) → most ≤ budget → HasLeft (budget - count) left
    → HasLeft (budget - most) (pay left))
