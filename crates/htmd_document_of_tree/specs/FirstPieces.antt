-- A link is around its first pieces alone.
use Rattle.std.specs.Prelude.{ℕ, Bool, false, not, ◌&&◌, nat_lt, if◌then◌else◌, []}
use Rattle.htmd_shown.specs.declared.role.Role.TheVariants.{Unlinked}
use Rattle.htmd_shown.specs.Facts.{inserted_facts}
use Rattle.htmd_shown.specs.Pieces.{Pieces, no_pieces, is_unseen, after_leaf, at_edge, pieces_after}
use Rattle.htmd_shown.specs.Roles.{is_line_break, is_link, is_verbatim}
use Rattle.htmd_shown.specs.SimpleTrees.{Simple, text, image, formula, embedded, anchor, element, Simples, none, more}

abbrev pub most_linked : ℕ
most_linked = 64

-- around what isn't in the link
abbrev pub unlinked : Simple → Simple
unlinked tree = element 0 Unlinked inserted_facts [] (more tree none)

-- an element with this content
abbrev pub with_content : Simple → Simples → Simple
with_content (element id role facts attributes content) inner = element id role facts attributes inner
with_content tree inner = tree

-- a leaf past the last piece isn't in the link
abbrev pub cut_leaf : Pieces → Simple → Simple
cut_leaf p tree =
    if not (is_unseen tree) && nat_lt most_linked (after_leaf p tree).count then unlinked tree else tree

abbrev mutual
  -- a node of a link, after these pieces
  pub cut : Pieces → Simple → Simple
  cut p (text s) = cut_leaf p (text s)
  cut p (image address attributes) = cut_leaf p (image address attributes)
  cut p (formula tex is_alone attributes) = cut_leaf p (formula tex is_alone attributes)
  cut p (embedded id address title attributes anchors) = cut_leaf p (embedded id address title attributes anchors)
  cut p (anchor id) = anchor id
  cut p (element id role facts attributes content) =
      if is_verbatim role then cut_leaf p (element id role facts attributes content)
      else element id role facts attributes
      (if is_line_break role then content else cut_all (at_edge role p) content)

  pub cut_all : Pieces → Simples → Simples
  cut_all p none = none
  cut_all p (more tree trees) = more (cut p tree) (cut_all (pieces_after p tree) trees)

abbrev pub is_link_element : Simple → Bool
is_link_element (element id role facts attributes content) = is_link role
is_link_element _ = false

abbrev mutual
  -- each link is around its first pieces alone
  pub pieced : Simple → Simple
  pieced (text s) = text s
  pieced (image address attributes) = image address attributes
  pieced (formula tex is_alone attributes) = formula tex is_alone attributes
  pieced (embedded id address title attributes anchors) = embedded id address title attributes anchors
  pieced (anchor id) = anchor id
  pieced (element id role facts attributes content) =
      element id role facts attributes
      (if is_link role then cut_all no_pieces content else pieced_all content)

  pub pieced_all : Simples → Simples
  pieced_all none = none
  pieced_all (more tree trees) = more (pieced tree) (pieced_all trees)
