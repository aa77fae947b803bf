-- The parts of a list of terms and what they mean.
use Rattle.std.specs.Prelude.{Bool, ◌||◌, ◌&&◌}
use Rattle.std.specs.List.{list_any}
use Rattle.htmd_shown.specs.Kinds.{has, content_of}
use Rattle.htmd_shown.specs.Roles.{is_term, is_meaning, is_division}
use Rattle.htmd_shown.specs.SimpleTrees.{Simple}
use Rattle.htmd_flow.specs.Levels.{list_of}

abbrev pub is_term_or_meaning : Simple → Bool
is_term_or_meaning tree = has is_term tree || has is_meaning tree

-- a group of terms and meanings
abbrev pub is_group : Simple → Bool
is_group tree = has is_division tree && list_any is_term_or_meaning (list_of (content_of tree))
