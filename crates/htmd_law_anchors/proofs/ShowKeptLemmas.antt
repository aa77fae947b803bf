-- Whether something shows stays when links end after their first pieces.
use Rattle.std.proofs.Common.{◌≡◌, Bool, true, false, cond, not, ◌&&◌, ◌||◌, refl, sym, ap, ◌∙◌}
use Rattle.std.specs.Prelude.{nat_lt}
use Rattle.htmd_shown.specs.Attributes.{is_filled}
use Rattle.htmd_shown.specs.Marks.{letters_among}
use Rattle.htmd_shown.specs.Pieces.{Pieces, no_pieces, is_unseen, after_leaf, at_edge, pieces_after}
use Rattle.htmd_shown.specs.declared.role.Role.{Role}
use Rattle.htmd_shown.specs.Roles.{is_link, is_line_break, is_thematic_break, is_verbatim}
use Rattle.htmd_shown.specs.SimpleTrees.{Simple, text, image, formula, embedded, anchor, element, Simples, none, more}
use Rattle.htmd_shown.specs.Showings.{code_shows, shows, show}
use Rattle.htmd_document_of_tree.specs.FirstPieces.{most_linked, unlinked, cut_leaf, cut, cut_all, pieced, pieced_all}
use Rattle.htmd_law_anchors.proofs.LetterKeptLemmas.{all-cut-letters, all-pieced-letters}
use Rattle.htmd_law_anchors.proofs.TruthLemmas.{or-none}

-- what an element shows in a heading, by its role and its content
element-shows : (r : Role) (new old : Simples) → letters_among new ≡ letters_among old
    → show true new ≡ show true old
    → cond (is_verbatim r) (code_shows new) (cond (is_thematic_break r) false (show true new))
    ≡ cond (is_verbatim r) (code_shows old) (cond (is_thematic_break r) false (show true old))
element-shows r new old e f =
    ap (λ s. cond (is_verbatim r) (is_filled s) (cond (is_thematic_break r) false (show true new))) e
    ∙ ap (λ b. cond (is_verbatim r) (code_shows old) (cond (is_thematic_break r) false b)) f

either-show : (b : Bool) (ts us old : Simples) → show true ts ≡ show true old → show true us ≡ show true old
    → show true (cond b ts us) ≡ show true old
either-show true ts us old e f = e
either-show false ts us old e f = f

-- ---- the first pieces

leaf-shows : (p : Pieces) (t : Simple) → shows true (cut_leaf p t) ≡ shows true t
leaf-shows p t = either (not (is_unseen t) && nat_lt most_linked (after_leaf p t).count)
  where
    either : (b : Bool) → shows true (cond b (unlinked t) t) ≡ shows true t
    either true = or-none (shows true t)
    either false = refl

mutual
  cut-shows : (p : Pieces) (t : Simple) → shows true (cut p t) ≡ shows true t
  cut-shows p (text s) = leaf-shows p (text s)
  cut-shows p (image address attributes) = leaf-shows p (image address attributes)
  cut-shows p (formula tex is_alone attributes) = leaf-shows p (formula tex is_alone attributes)
  cut-shows p (embedded id address title attributes ids) = leaf-shows p (embedded id address title attributes ids)
  cut-shows p (anchor id) = refl
  cut-shows p (element id r facts attributes content) =
      either (is_verbatim r) refl (all-cut-shows (at_edge r p) content)
    where
      t : Simple
      t = element id r facts attributes content

      inner : Simples
      inner = cond (is_line_break r) content (cut_all (at_edge r p) content)

      other : Simples → Bool
      other ts = cond (is_thematic_break r) false (show true ts)

      either : (b : Bool) → is_verbatim r ≡ b → show true (cut_all (at_edge r p) content) ≡ show true content
          → shows true (cond b (cut_leaf p t) (element id r facts attributes inner)) ≡ shows true t
      either true e f = leaf-shows p t
      either false e f =
          ap (λ b. cond b (code_shows inner) (other inner)) e
          ∙ (ap (λ b. cond (is_thematic_break r) false b)
          (either-show (is_line_break r) content (cut_all (at_edge r p) content) content refl f)
          ∙ sym (ap (λ b. cond b (code_shows content) (other content)) e))

  pub all-cut-shows : (p : Pieces) (ts : Simples) → show true (cut_all p ts) ≡ show true ts
  all-cut-shows p none = refl
  all-cut-shows p (more t ts) =
      ap (λ b. b || show true (cut_all (pieces_after p t) ts)) (cut-shows p t)
      ∙ ap (λ b. shows true t || b) (all-cut-shows (pieces_after p t) ts)

mutual
  pieced-shows : (t : Simple) → shows true (pieced t) ≡ shows true t
  pieced-shows (text s) = refl
  pieced-shows (image address attributes) = refl
  pieced-shows (formula tex is_alone attributes) = refl
  pieced-shows (embedded id address title attributes ids) = refl
  pieced-shows (anchor id) = refl
  pieced-shows (element id r facts attributes content) = either (is_link r) (all-pieced-shows content)
    where
      either : (b : Bool) → show true (pieced_all content) ≡ show true content
          → shows true (element id r facts attributes (cond b (cut_all no_pieces content) (pieced_all content)))
          ≡ shows true (element id r facts attributes content)
      either true f =
          element-shows r (cut_all no_pieces content) content (all-cut-letters no_pieces content)
          (all-cut-shows no_pieces content)
      either false f = element-shows r (pieced_all content) content (all-pieced-letters content) f

  pub all-pieced-shows : (ts : Simples) → show true (pieced_all ts) ≡ show true ts
  all-pieced-shows none = refl
  all-pieced-shows (more t ts) =
      ap (λ b. b || show true (pieced_all ts)) (pieced-shows t) ∙ ap (λ b. shows true t || b) (all-pieced-shows ts)

-- what is in an element, cut if it doesn't break a line
pub inner-shows : (r : Role) (p : Pieces) (content : Simples)
    → show true (cond (is_line_break r) content (cut_all (at_edge r p) content)) ≡ show true content
inner-shows r p content =
    either-show (is_line_break r) content (cut_all (at_edge r p) content) content refl
    (all-cut-shows (at_edge r p) content)

-- what is in an element, cut if it is a link
pub link-shows : (r : Role) (content : Simples)
    → show true (cond (is_link r) (cut_all no_pieces content) (pieced_all content)) ≡ show true content
link-shows r content =
    either-show (is_link r) (cut_all no_pieces content) (pieced_all content) content
    (all-cut-shows no_pieces content) (all-pieced-shows content)
