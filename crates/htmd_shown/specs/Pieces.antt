-- Pieces of what is in a link: what shows between two edges, or between two breaks in a row.
use Rattle.std.specs.Prelude.{ℕ, suc, min, Bool, true, false, not, ◌||◌, ◌&&◌, nat_le, if◌then◌else◌, is_some}
use Rattle.htmd_shown.specs.declared.role.Role.{Role}
use Rattle.htmd_shown.specs.AllTexts.{image_text}
use Rattle.htmd_shown.specs.Roles.{is_edged, is_line_break, is_verbatim}
use Rattle.htmd_shown.specs.SimpleTrees.{Simple, text, image, formula, embedded, anchor, element, Simples, none, more}
use Rattle.htmd_shown.specs.Spaces.{is_blank_text}

-- how many pieces so far, and the breaks since something showed: two where a block begins or ends
pub record Pieces : Type 0 where
  pub count : ℕ
  pub breaks : ℕ

abbrev pub no_pieces : Pieces
no_pieces = record { count = 0; breaks = 2 }

-- no page has more
abbrev pub greatest_count : ℕ
greatest_count = 0xFFFFFFFF

abbrev pub one_more : ℕ → ℕ
one_more count = min greatest_count (suc count)

-- what counts as a whole: a text, an image, what is embedded, a formula, a verbatim block
abbrev pub is_leaf : Simple → Bool
is_leaf (text s) = true
is_leaf (image address attributes) = true
is_leaf (formula tex is_alone attributes) = true
is_leaf (embedded id address title attributes anchors) = true
is_leaf (anchor id) = false
is_leaf (element id role facts attributes content) = is_verbatim role

-- nothing of a leaf shows; an image shows by its address, or by what it says
abbrev pub is_unseen : Simple → Bool
is_unseen (text s) = is_blank_text s
is_unseen (image address attributes) = not (is_some address) && is_blank_text (image_text attributes)
is_unseen (element id role facts attributes content) = facts.is_blank
is_unseen _ = false

-- a leaf that is a block
abbrev pub is_alone : Simple → Bool
is_alone (formula tex alone attributes) = alone
is_alone (embedded id address title attributes anchors) = true
is_alone (element id role facts attributes content) = true
is_alone _ = false

-- after a leaf that shows
abbrev pub with_leaf : Pieces → Bool → Pieces
with_leaf p alone = record {
  count = if alone || nat_le 2 p.breaks then one_more p.count else p.count;
  breaks = if alone then 2 else 0;
}

abbrev pub after_leaf : Pieces → Simple → Pieces
after_leaf p tree = if is_unseen tree then p else with_leaf p (is_alone tree)

abbrev pub with_break : Pieces → Pieces
with_break p = record p { breaks = min 2 (suc p.breaks) }

abbrev pub at_edge : Role → Pieces → Pieces
at_edge role p = if is_edged role then record p { breaks = 2 } else p

abbrev mutual
  -- the pieces after a node
  pub pieces_after : Pieces → Simple → Pieces
  pieces_after p (text s) = after_leaf p (text s)
  pieces_after p (image address attributes) = after_leaf p (image address attributes)
  pieces_after p (formula tex alone attributes) = after_leaf p (formula tex alone attributes)
  pieces_after p (embedded id address title attributes anchors) =
      after_leaf p (embedded id address title attributes anchors)
  pieces_after p (anchor id) = p
  pieces_after p (element id role facts attributes content) =
      if is_verbatim role then after_leaf p (element id role facts attributes content)
      else (if is_line_break role then with_break p
      else at_edge role (pieces_after_all (at_edge role p) content))

  pub pieces_after_all : Pieces → Simples → Pieces
  pieces_after_all p none = p
  pieces_after_all p (more tree trees) = pieces_after_all (pieces_after p tree) trees
