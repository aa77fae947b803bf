-- Trees of texts and elements that no link leads to, in whose links all is joined: none of these is cut off.
use Rattle.std.proofs.Common.{◌≡◌, Bool, true, false, not, ◌&&◌, ◌||◌, cond, List}
use Rattle.std.proofs.Common.{codes}
use Rattle.std.proofs.Common.{refl, sym, ap, ◌∙◌}
use Rattle.std.proofs.Common.{if◌then◌else◌}
use Rattle.std.specs.Prelude.{nat_lt}
use Rattle.std.proofs.lemmas.Bool.{and_parts}
use Rattle.htmd_lexical.specs.AttributePairs.{AttributePair}
use Rattle.htmd_shown.specs.declared.role.Role.{Role}
use Rattle.htmd_shown.specs.Attributes.{has_attribute}
use Rattle.htmd_shown.specs.Roles.{is_link, is_verbatim}
use Rattle.htmd_shown.specs.Roles.{is_line_break}
use Rattle.htmd_shown.specs.Shown.{followed_by}
use Rattle.htmd_shown.specs.SimpleTrees.{Simple, text, image, formula, embedded, anchor, element, Simples, none, more}
use Rattle.htmd_shown.specs.Spaces.{is_blank_text}
use Rattle.htmd_shown.specs.Pieces.{Pieces, no_pieces, is_unseen, pieces_after, at_edge, after_leaf as leaf_after}
use Rattle.htmd_document_of_tree.specs.FirstPieces.{pieced_all}
use Rattle.htmd_document_of_tree.specs.FirstPieces.{most_linked, unlinked, cut, cut_all}
use Rattle.htmd_law_returning.proofs.StartLemmas.{false-true, from-not}

-- no link leads to it
abbrev pub has_no_name : List AttributePair → Bool
has_no_name attributes =
    not (has_attribute (codes "id") attributes) && not (has_attribute (codes "name") attributes)

-- a leaf that isn't past the last piece
abbrev is_joined_leaf : Pieces → Simple → Bool
is_joined_leaf p tree = not (not (is_unseen tree) && nat_lt most_linked (leaf_after p tree).count)

abbrev mutual
  -- a node of a link that stays in it, after these pieces
  pub is_joined : Pieces → Simple → Bool
  is_joined p (text s) = is_joined_leaf p (text s)
  is_joined p (image address attributes) = is_joined_leaf p (image address attributes)
  is_joined p (formula tex is_alone attributes) = false
  is_joined p (embedded id address title attributes anchors) = false
  is_joined p (anchor id) = false
  is_joined p (element id role facts attributes content) =
      not (is_verbatim role) && (is_line_break role || are_joined (at_edge role p) content)

  pub are_joined : Pieces → Simples → Bool
  are_joined p none = true
  are_joined p (more tree trees) = is_joined p tree && are_joined (pieces_after p tree) trees

-- what is in a link
abbrev pub is_right_content : Role → Simples → Bool
is_right_content role content = if is_link role then are_joined no_pieces content else true

abbrev mutual
  pub is_bare : Simple → Bool
  is_bare (text s) = true
  is_bare (image address attributes) = has_no_name attributes
  is_bare (formula tex is_alone attributes) = false
  is_bare (embedded id address title attributes anchors) = false
  is_bare (anchor id) = false
  is_bare (element id role facts attributes content) =
      (is_right_content role content && has_no_name attributes) && are_bare content

  pub are_bare : Simples → Bool
  are_bare none = true
  are_bare (more tree trees) = is_bare tree && are_bare trees

-- ---- first pieces

leaf-stays : (u past : Bool) (tree other : Simple) → not (not u && past) ≡ true
    → cond (not u && past) other tree ≡ tree
leaf-stays true past tree other h = refl
leaf-stays false true tree other h = false-true h
leaf-stays false false tree other h = refl

content-stays : (b joined : Bool) (content other : Simples) → (b || joined) ≡ true
    → (joined ≡ true → other ≡ content) → cond b content other ≡ content
content-stays true joined content other h inner = refl
content-stays false joined content other h inner = inner h

mutual
  pub joined-stays : (p : Pieces) (t : Simple) → is_joined p t ≡ true → cut p t ≡ t
  joined-stays p (text s) h =
      leaf-stays (is_blank_text s) (nat_lt most_linked (leaf_after p (text s)).count) (text s) (unlinked (text s)) h
  joined-stays p (image address attributes) h =
      leaf-stays (is_unseen (image address attributes))
      (nat_lt most_linked (leaf_after p (image address attributes)).count) (image address attributes)
      (unlinked (image address attributes)) h
  joined-stays p (formula tex is_alone attributes) h = false-true h
  joined-stays p (embedded id address title attributes anchors) h = false-true h
  joined-stays p (anchor id) h = false-true h
  joined-stays p (element id role facts attributes content) h =
      let parts = and_parts (not (is_verbatim role)) (is_line_break role || are_joined (at_edge role p) content) h in
      rw (from-not (is_verbatim role) parts.0)
      (ap (element id role facts attributes) (content-stays (is_line_break role)
      (are_joined (at_edge role p) content) content (cut_all (at_edge role p) content) parts.1
      (all-stay (at_edge role p) content)))

  all-stay : (p : Pieces) (ts : Simples) → are_joined p ts ≡ true → cut_all p ts ≡ ts
  all-stay p none h = refl
  all-stay p (more t ts) h =
      let parts = and_parts (is_joined p t) (are_joined (pieces_after p t) ts) h in
      ap (λ u. more u (cut_all (pieces_after p t) ts)) (joined-stays p t parts.0)
      ∙ ap (more t) (all-stay (pieces_after p t) ts parts.1)

pub whole-content : (b : Bool) (role : Role) (content : Simples) → is_link role ≡ b
    → is_right_content role content
    ≡ true
    → pieced_all content ≡ content → cond (is_link role) (cut_all no_pieces content) (pieced_all content)
    ≡ content
whole-content true role content e h inner =
    ap (λ c. cond c (cut_all no_pieces content) (pieced_all content)) e
    ∙ all-stay no_pieces content (sym (ap (λ c. cond c (are_joined no_pieces content) true) e) ∙ h)
whole-content false role content e h inner =
    ap (λ c. cond c (cut_all no_pieces content) (pieced_all content)) e ∙ inner

pub followed-none : (trees : Simples) → followed_by trees none ≡ trees
followed-none none = refl
followed-none (more tree trees) = ap (more tree) (followed-none trees)
