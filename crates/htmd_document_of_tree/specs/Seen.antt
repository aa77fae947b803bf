-- What there is to see in nodes, one thing after the other.
use Rattle.std.specs.Prelude.{ℕ, ◌+◌, Bool, true, false, not, if◌then◌else◌, Option, Some, None}
use Rattle.htmd_shown.specs.Roles.{is_verbatim}
use Rattle.htmd_shown.specs.Showings.{image_shows, code_shows}
use Rattle.htmd_shown.specs.SimpleTrees.{Simple, text, image, formula, embedded, anchor, element, Simples, none, more}
use Rattle.htmd_shown.specs.Spaces.{is_blank_text}

abbrev pub one_if : Bool → ℕ
one_if true = 1
one_if false = 0

abbrev mutual
  -- how many things there are to see: texts, images, formulas, what is embedded, and code blocks
  pub seen : Simple → ℕ
  seen (text s) = one_if (not (is_blank_text s))
  seen (image address attributes) = one_if (image_shows address attributes)
  seen (formula tex is_alone attributes) = 1
  seen (embedded id address title attributes anchors) = 1
  seen (anchor id) = 0
  seen (element id role facts attributes content) =
      if is_verbatim role then one_if (code_shows content) else all_seen content

  pub all_seen : Simples → ℕ
  all_seen none = 0
  all_seen (more tree trees) = seen tree + all_seen trees

-- whether there is something to see of a leaf; none of what has its leaves in it
abbrev pub leaf_shows : Simple → Option Bool
leaf_shows (text s) = Some (not (is_blank_text s))
leaf_shows (image address attributes) = Some (image_shows address attributes)
leaf_shows (formula tex is_alone attributes) = Some true
leaf_shows (embedded id address title attributes anchors) = Some true
leaf_shows (anchor id) = None
leaf_shows (element id role facts attributes content) = if is_verbatim role then Some (code_shows content) else None
