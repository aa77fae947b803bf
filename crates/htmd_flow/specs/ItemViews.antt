-- Items among the nodes of the source.
use Rattle.std.specs.Prelude.{ℕ, suc, Bool, not, ◌||◌, if◌then◌else◌, List, [], ◌∷◌}
use Rattle.std.specs.List.{prefix_len}
use Rattle.htmd_lexical.specs.WhiteSpace.{is_ascii_white_space}
use Rattle.htmd_shown.specs.Kinds.{has}
use Rattle.htmd_shown.specs.Roles as roles
use Rattle.htmd_shown.specs.ShownTexts.{is_shown}
use Rattle.htmd_shown.specs.SimpleTrees.{Simple}
use Rattle.htmd_flow.specs.Flows.{is_spaces}

-- a character of the page that is ASCII white space, or doesn't show
abbrev pub is_space_or_unseen : ℕ → Bool
is_space_or_unseen c = is_ascii_white_space c || not (is_shown c)

abbrev pub goes_on : Simple → Bool
goes_on tree = has roles.is_item tree || is_spaces tree

abbrev pub is_no_item : Simple → Bool
is_no_item tree = not (has roles.is_item tree)

-- how many nodes are a row of items at the beginning of these
abbrev pub row_len : List Simple → ℕ
row_len [] = 0
row_len (tree ∷ trees) = if has roles.is_item tree then suc (prefix_len goes_on trees) else 0
