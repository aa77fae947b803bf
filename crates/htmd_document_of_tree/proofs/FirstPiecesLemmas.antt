-- Lemmas on the first pieces of links.
use Rattle.std.proofs.Common.{◌≡◌, ℕ, Bool, true, false, cond, List, [], ◌∷◌, Some, None, refl, ap, sym, ◌∙◌}
use Rattle.htmd_lexical.specs.AttributePairs.{AttributePair}
use Rattle.htmd_shown.specs.declared.facts.Facts.{Facts}
use Rattle.htmd_shown.specs.declared.role.Role.{Role}
use Rattle.htmd_shown.specs.Roles.{is_line_break, is_verbatim}
use Rattle.htmd_shown.specs.Kinds.{content_of, role_in}
use Rattle.htmd_shown.specs.Pieces.{Pieces, after_leaf, at_edge, is_leaf, no_pieces, with_break, pieces_after, pieces_after_all}
use Rattle.htmd_shown.specs.SimpleTrees.{Simple, text, image, formula, embedded, anchor, element, Simples, more, simples_of}
use Rattle.htmd_document_of_tree.specs.FirstPieces.{cut, cut_all, cut_leaf, pieced, pieced_all, is_link_element, with_content}
use Rattle.htmd_document_of_tree.proofs.WalksLemmas.{walk, gone}

pub pieces_after_all-gone : (p : Pieces) (ts : List Simple)
    → pieces_after_all p (simples_of ts) ≡ gone pieces_after p ts
pieces_after_all-gone p [] = refl
pieces_after_all-gone p (t ∷ ts) = pieces_after_all-gone (pieces_after p t) ts

pub cut_all-walk : (p : Pieces) (ts : List Simple)
    → cut_all p (simples_of ts) ≡ simples_of (walk cut pieces_after p ts)
cut_all-walk p [] = refl
cut_all-walk p (t ∷ ts) = ap (λ r. more (cut p t) r) (cut_all-walk (pieces_after p t) ts)

-- without a state
abbrev pub pieced_one : ℕ → Simple → Simple
pieced_one n tree = pieced tree

abbrev pub same : ℕ → Simple → ℕ
same n tree = n

pub pieced_all-walk : (n : ℕ) (ts : List Simple)
    → pieced_all (simples_of ts) ≡ simples_of (walk pieced_one same n ts)
pieced_all-walk n [] = refl
pieced_all-walk n (t ∷ ts) = ap (λ r. more (pieced t) r) (pieced_all-walk n ts)

-- ---- a node, and what is in it

pub pieced_long : (t : Simple) → is_link_element t ≡ true
    → with_content t (cut_all no_pieces (content_of t)) ≡ pieced t
pieced_long (text s) h = refl
pieced_long (image address attributes) h = refl
pieced_long (formula tex is_alone attributes) h = refl
pieced_long (embedded id address title attributes anchors) h = refl
pieced_long (anchor id) h = refl
pieced_long (element id role facts attributes content) h =
    ap (λ c. element id role facts attributes c)
    (sym (ap (λ b. cond b (cut_all no_pieces content) (pieced_all content)) h))

pub pieced_short : (t : Simple) → is_link_element t ≡ false
    → with_content t (pieced_all (content_of t)) ≡ pieced t
pieced_short (text s) h = refl
pieced_short (image address attributes) h = refl
pieced_short (formula tex is_alone attributes) h = refl
pieced_short (embedded id address title attributes anchors) h = refl
pieced_short (anchor id) h = refl
pieced_short (element id role facts attributes content) h =
    ap (λ c. element id role facts attributes c)
    (sym (ap (λ b. cond b (cut_all no_pieces content) (pieced_all content)) h))

-- ---- one node of a link

-- these pieces come after a node, and it becomes this
pub record IsCut (p after : Pieces) (t made : Simple) : Type 0 where
  pub pieces : after ≡ pieces_after p t
  pub tree : made ≡ cut p t

code-cut : (p : Pieces) (v : Bool) (id : ℕ) (role : Role) (facts : Facts) (attributes : List AttributePair)
    (content : Simples) → is_verbatim role ≡ v → v ≡ true
    → IsCut p (after_leaf p (element id role facts attributes content)) (element id role facts attributes content)
    (cut_leaf p (element id role facts attributes content))
code-cut p true id role facts attributes content verbatim h =
    record { pieces = rw verbatim refl; tree = rw verbatim refl }
code-cut p false id role facts attributes content verbatim h = cc

pub cut_of_leaf : (p : Pieces) (t : Simple) → is_leaf t ≡ true → IsCut p (after_leaf p t) t (cut_leaf p t)
cut_of_leaf p (text s) h = record { pieces = refl; tree = refl }
cut_of_leaf p (image address attributes) h = record { pieces = refl; tree = refl }
cut_of_leaf p (formula tex is_alone attributes) h = record { pieces = refl; tree = refl }
cut_of_leaf p (embedded id address title attributes anchors) h = record { pieces = refl; tree = refl }
cut_of_leaf p (anchor id) h = cc
cut_of_leaf p (element id role facts attributes content) h =
    code-cut p (is_verbatim role) id role facts attributes content refl h

pub cut_of_anchor : (p : Pieces) (t : Simple) → is_leaf t ≡ false → role_in t ≡ None → IsCut p p t t
cut_of_anchor p (text s) h e = cc
cut_of_anchor p (image address attributes) h e = cc
cut_of_anchor p (formula tex is_alone attributes) h e = cc
cut_of_anchor p (embedded id address title attributes anchors) h e = cc
cut_of_anchor p (anchor id) h e = record { pieces = refl; tree = refl }
cut_of_anchor p (element id role facts attributes content) h e = cc

some-role : (a b : Role) → Some a ≡ Some b → a ≡ b
some-role a b e = cc

break-cut : (p : Pieces) (id : ℕ) (role : Role) (facts : Facts) (attributes : List AttributePair) (content : Simples)
    → is_verbatim role ≡ false → is_line_break role ≡ true
    → IsCut p (with_break p) (element id role facts attributes content) (element id role facts attributes content)
break-cut p id role facts attributes content v b =
    record { pieces = rw (v, b) refl; tree = rw (v, b) refl }

pub cut_of_break : (p : Pieces) (role : Role) (t : Simple) → is_leaf t ≡ false → role_in t ≡ Some role
    → is_line_break role ≡ true → IsCut p (with_break p) t t
cut_of_break p role (text s) h e b = cc
cut_of_break p role (image address attributes) h e b = cc
cut_of_break p role (formula tex is_alone attributes) h e b = cc
cut_of_break p role (embedded id address title attributes anchors) h e b = cc
cut_of_break p role (anchor id) h e b = cc
cut_of_break p role (element id r facts attributes content) h e b =
    break-cut p id r facts attributes content h (ap is_line_break (some-role r role e) ∙ b)

inside-cut : (p : Pieces) (id : ℕ) (role : Role) (facts : Facts) (attributes : List AttributePair) (content : Simples)
    → is_verbatim role ≡ false → is_line_break role ≡ false
    → IsCut p (at_edge role (pieces_after_all (at_edge role p) content)) (element id role facts attributes content)
    (element id role facts attributes (cut_all (at_edge role p) content))
inside-cut p id role facts attributes content v b =
    record { pieces = rw (v, b) refl; tree = rw (v, b) refl }

pub cut_of_inside : (p : Pieces) (role : Role) (t : Simple) → is_leaf t ≡ false → role_in t ≡ Some role
    → is_line_break role ≡ false
    → IsCut p (at_edge role (pieces_after_all (at_edge role p) (content_of t))) t
    (with_content t (cut_all (at_edge role p) (content_of t)))
cut_of_inside p role (text s) h e b = cc
cut_of_inside p role (image address attributes) h e b = cc
cut_of_inside p role (formula tex is_alone attributes) h e b = cc
cut_of_inside p role (embedded id address title attributes anchors) h e b = cc
cut_of_inside p role (anchor id) h e b = cc
cut_of_inside p role (element id r facts attributes content) h e b =
    let same : r ≡ role = some-role r role e in
    let made = inside-cut p id r facts attributes content h (ap is_line_break same ∙ b) in
    record {
      pieces = ap (λ x. at_edge x (pieces_after_all (at_edge x p) content)) (sym same) ∙ made.pieces;
      tree = ap (λ x. element id r facts attributes (cut_all (at_edge x p) content)) (sym same) ∙ made.tree;
    }
