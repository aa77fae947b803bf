-- Links past a budget are their content: a parser copies an `a` into every block that follows it. So are abbreviations.
use Rattle.std.specs.Prelude.{ℕ, ◌+◌, ◌-◌, ◌*◌, Bool, false, not, ◌||◌, ◌&&◌, nat_le, nat_lt, if◌then◌else◌}
use Rattle.std.specs.Prelude.{List, [], ◌∷◌, ◌++◌, codes, length, Option, Some, None, is_some}
use Rattle.std.specs.Option.{unwrap_or}
use Rattle.std.specs.Str.{chars}
use Rattle.htmd_lexical.specs.AttributePairs.{AttributePair}
use Rattle.htmd_lexical.specs.Characters.{null}
use Rattle.htmd_shown.specs.Attributes.{text_of, title_of, address}
use Rattle.htmd_shown.specs.declared.facts.Facts.{Facts}
use Rattle.htmd_shown.specs.declared.role.Role.{Role}
use Rattle.htmd_shown.specs.declared.role.Role.TheVariants.{Target, Plain}
use Rattle.htmd_shown.specs.Pieces.{greatest_count}
use Rattle.htmd_shown.specs.Roles.{is_abbreviation, is_among, is_link}
use Rattle.htmd_shown.specs.SimpleTrees.{Simple, text, image, formula, embedded, anchor, element, Simples, none, more}

abbrev pub characters : List ℕ → ℕ
characters s = length (chars s)

-- what is written with each piece of a link: its address and its title
abbrev pub address_of : List AttributePair → List ℕ
address_of attributes = address (text_of (codes "href") attributes)

abbrev pub title_text : List AttributePair → List ℕ
title_text attributes = unwrap_or (title_of attributes) []

-- with each piece of an abbreviation its title is written
abbrev pub is_carrying : Role → Bool
is_carrying role = is_link role || is_abbreviation role

abbrev pub address_in : Role → List AttributePair → List ℕ
address_in role attributes = if is_link role then address_of attributes else []

abbrev pub size : Role → List AttributePair → ℕ
size role attributes = characters (address_in role attributes) + characters (title_text attributes)

-- ---- the budget

-- the two with U+0000 between, which neither of them has
abbrev pub pair_of : Role → List AttributePair → List ℕ
pair_of role attributes = address_in role attributes ++ null ∷ title_text attributes

-- the characters of texts so far and of the pairs that links and abbreviations have, each pair once
pub record Written : Type 0 where
  pub count : ℕ
  pub pairs : List (List ℕ)

abbrev pub nothing_written : Written
nothing_written = record { count = 0; pairs = [] }

abbrev pub with_text : Written → List ℕ → Written
with_text w s = record w { count = w.count + characters s }

abbrev pub with_pair : Written → Role → List AttributePair → Written
with_pair w role attributes =
    if is_among w.pairs (pair_of role attributes) then w
    else record { count = w.count + size role attributes; pairs = pair_of role attributes ∷ w.pairs }

abbrev pub with_element : Written → Role → List AttributePair → Written
with_element w role attributes = if is_carrying role then with_pair w role attributes else w

abbrev mutual
  pub written : Written → Simple → Written
  written w (text s) = with_text w s
  written w (image address attributes) = w
  written w (formula tex is_alone attributes) = w
  written w (embedded id address title attributes anchors) = w
  written w (anchor id) = w
  written w (element id role facts attributes content) = written_all (with_element w role attributes) content

  pub written_all : Written → Simples → Written
  written_all w none = w
  written_all w (more tree trees) = written_all (written w tree) trees

abbrev pub always_written : ℕ
always_written = 65536

abbrev pub budget : Simples → ℕ
budget trees = 16 * (written_all nothing_written trees).count + always_written

-- ---- what links cost

-- what a link or an abbreviation costs: its address and title with each thing in it that shows, if these can be counted
abbrev pub link_cost : ℕ → ℕ → Option ℕ
link_cost size leaves = if nat_lt leaves greatest_count then Some (size * leaves) else None

abbrev pub cost : Role → Facts → List AttributePair → Option ℕ
cost role facts attributes =
    if is_carrying role then link_cost (size role attributes) facts.leaves else Some 0

-- what is left of a budget; nothing once it doesn't suffice
abbrev pub paid : Option ℕ → Option ℕ → Option ℕ
paid None cost = None
paid (Some left) None = None
paid (Some left) (Some cost) = if nat_le cost left then Some (left - cost) else None

-- what is left after a node itself
abbrev pub paid_for : Option ℕ → Simple → Option ℕ
paid_for left (element id role facts attributes content) = paid left (cost role facts attributes)
paid_for left _ = left

abbrev mutual
  -- what is left after a node with all in it
  pub left_after : Option ℕ → Simple → Option ℕ
  left_after left (text s) = left
  left_after left (image address attributes) = left
  left_after left (formula tex is_alone attributes) = left
  left_after left (embedded id address title attributes anchors) = left
  left_after left (anchor id) = left
  left_after left (element id role facts attributes content) =
      left_after_all (paid left (cost role facts attributes)) content

  pub left_after_all : Option ℕ → Simples → Option ℕ
  left_after_all left none = left
  left_after_all left (more tree trees) = left_after_all (left_after left tree) trees

-- ---- without what is too dear

-- a link or an abbreviation with an address or a title, where nothing is left
abbrev pub is_too_dear : Option ℕ → Simple → Bool
is_too_dear left (element id role facts attributes content) =
    not (is_some left) && is_carrying role && nat_lt 0 (size role attributes)
is_too_dear left _ = false

-- what it then is
abbrev pub emptied : Role → Role
emptied role = if is_link role then Target else Plain

abbrev pub without_address : Simple → Simple
without_address (element id role facts attributes content) = element id (emptied role) facts attributes content
without_address tree = tree

-- what an element is where so much is left
abbrev pub affordable : Option ℕ → Role → List AttributePair → Role
affordable left role attributes =
    if not (is_some left) && is_carrying role && nat_lt 0 (size role attributes) then emptied role
    else role

abbrev mutual
  pub within : Option ℕ → Simple → Simple
  within left (text s) = text s
  within left (image address attributes) = image address attributes
  within left (formula tex is_alone attributes) = formula tex is_alone attributes
  within left (embedded id address title attributes anchors) = embedded id address title attributes anchors
  within left (anchor id) = anchor id
  within left (element id role facts attributes content) =
      let now = paid left (cost role facts attributes) in
      element id (affordable now role attributes) facts attributes (all_within now content)

  pub all_within : Option ℕ → Simples → Simples
  all_within left none = none
  all_within left (more tree trees) = more (within left tree) (all_within (left_after left tree) trees)

abbrev pub limited : Simples → Simples
limited trees = all_within (Some (budget trees)) trees
