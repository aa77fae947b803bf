-- Pieces of a table without the parts that rows stand in: what is asked of them is the same.
use Rattle.std.proofs.Common.{◌≡◌, ℕ, suc, Bool, true, false, ◌&&◌, ◌||◌, cond, List, [], ◌∷◌, ◌++◌, Option, None}
use Rattle.std.proofs.Common.{filter, map, length, refl, ap, ◌∙◌}
use Rattle.std.specs.List.{list_all, list_any}
use Rattle.htmd_document.specs.Documents.{element, Blocks, no_blocks, block, BlockAttribute}
use Rattle.htmd_document.specs.declared.document.BlockElement.TheVariants as an
use Rattle.htmd_flow.specs.TableElements as elements
use Rattle.htmd_law_returning.specs.SettledTables.{cells_in, rows_in, has_header, is_wide, is_told, rows_ahead, fits}
use Rattle.htmd_law_returning.specs.SettledTables.{end_at_captions}

-- ---- lists

module _ {A : Type 0} where
  pub any-append : (p : A → Bool) (xs ys : List A) → list_any p (xs ++ ys) ≡ (list_any p xs || list_any p ys)
  any-append p [] ys = refl
  any-append p (x ∷ xs) ys = either (p x) (any-append p xs ys)
    where
      either : (b : Bool) → list_any p (xs ++ ys) ≡ (list_any p xs || list_any p ys)
          → (b || list_any p (xs ++ ys)) ≡ ((b || list_any p xs) || list_any p ys)
      either true e = refl
      either false e = e

  pub all-append : (p : A → Bool) (xs ys : List A) → list_all p (xs ++ ys) ≡ (list_all p xs && list_all p ys)
  all-append p [] ys = refl
  all-append p (x ∷ xs) ys = either (p x) (all-append p xs ys)
    where
      either : (b : Bool) → list_all p (xs ++ ys) ≡ (list_all p xs && list_all p ys)
          → (b && list_all p (xs ++ ys)) ≡ ((b && list_all p xs) && list_all p ys)
      either true e = e
      either false e = refl

  pub filter-append : (p : A → Bool) (xs ys : List A) → filter p (xs ++ ys) ≡ filter p xs ++ filter p ys
  filter-append p [] ys = refl
  filter-append p (x ∷ xs) ys = either (p x) (filter-append p xs ys)
    where
      either : (b : Bool) → filter p (xs ++ ys) ≡ filter p xs ++ filter p ys
          → cond b (x ∷ filter p (xs ++ ys)) (filter p (xs ++ ys))
          ≡ cond b (x ∷ filter p xs) (filter p xs) ++ filter p ys
      either true e = ap (λ zs. x ∷ zs) e
      either false e = e

module _ {A B : Type 0} where
  pub map-append : (f : A → B) (xs ys : List A) → map f (xs ++ ys) ≡ map f xs ++ map f ys
  map-append f [] ys = refl
  map-append f (x ∷ xs) ys = ap (λ zs. f x ∷ zs) (map-append f xs ys)

-- ---- pieces

abbrev pub unparted : elements.Piece → elements.Piece
unparted (elements.caption content) = elements.caption content
unparted (elements.row r) = elements.row (record { part = None; cells = r.cells })

pub rows-unparted : (part : Option ℕ) (rows : Blocks) → map unparted (rows_in part rows) ≡ rows_in None rows
rows-unparted part no_blocks = refl
rows-unparted part (block (element an.Caption attributes content) bs) =
    ap (λ ps. elements.caption content ∷ ps) (rows-unparted part bs)
rows-unparted part (block (element name attributes cells) bs) =
    ap (λ ps. elements.row (record { part = None; cells = cells_in cells }) ∷ ps) (rows-unparted part bs)
rows-unparted part (block b bs) = refl

module _ (P : elements.Piece → Bool) (same : (p : elements.Piece) → P (unparted p) ≡ P p) where
  pub all-unparted : (ps : List elements.Piece) → list_all P (map unparted ps) ≡ list_all P ps
  all-unparted [] = refl
  all-unparted (p ∷ ps) =
      ap (λ b. b && list_all P (map unparted ps)) (same p) ∙ ap (λ b. P p && b) (all-unparted ps)

  pub any-unparted : (ps : List elements.Piece) → list_any P (map unparted ps) ≡ list_any P ps
  any-unparted [] = refl
  any-unparted (p ∷ ps) =
      ap (λ b. b || list_any P (map unparted ps)) (same p) ∙ ap (λ b. P p || b) (any-unparted ps)

pub filled-same : (p : elements.Piece) → elements.is_filled_piece (unparted p) ≡ elements.is_filled_piece p
filled-same (elements.caption content) = refl
filled-same (elements.row r) = refl

pub headers-same : (p : elements.Piece) → has_header (unparted p) ≡ has_header p
headers-same (elements.caption content) = refl
headers-same (elements.row r) = refl

pub wide-same : (p : elements.Piece) → is_wide (unparted p) ≡ is_wide p
wide-same (elements.caption content) = refl
wide-same (elements.row r) = refl

pub paragraphs-same : (p : elements.Piece) → elements.holds_paragraphs (unparted p) ≡ elements.holds_paragraphs p
paragraphs-same (elements.caption content) = refl
paragraphs-same (elements.row r) = refl

below-same : (n : ℕ) (p : elements.Piece) → elements.fits_below n (unparted p) ≡ elements.fits_below n p
below-same n (elements.caption content) = refl
below-same n (elements.row r) = refl

pub alone-unparted : (ps : List elements.Piece)
    → elements.has_header_alone (map unparted ps) ≡ elements.has_header_alone ps
alone-unparted [] = refl
alone-unparted (elements.caption content ∷ ps) = refl
alone-unparted (elements.row r ∷ ps) =
    ap (λ b. list_all elements.is_in_header r.cells && b)
    (all-unparted (elements.fits_below (length r.cells)) (below-same (length r.cells)) ps)

ahead-unparted : (ps : List elements.Piece) → rows_ahead (map unparted ps) ≡ rows_ahead ps
ahead-unparted [] = refl
ahead-unparted (elements.caption content ∷ ps) = refl
ahead-unparted (elements.row r ∷ ps) = ap (λ k. suc k) (ahead-unparted ps)

pub end-unparted : (ps : List elements.Piece) → end_at_captions (map unparted ps) ≡ end_at_captions ps
end-unparted [] = refl
end-unparted (elements.caption content ∷ ps) = end-unparted ps
end-unparted (elements.row r ∷ ps) =
    ap (λ k. list_all (fits (suc k)) r.cells && end_at_captions (map unparted ps)) (ahead-unparted ps)
    ∙ ap (λ b. list_all (fits (suc (rows_ahead ps))) r.cells && b) (end-unparted ps)

pub told-unparted : (attributes : List BlockAttribute) (ps : List elements.Piece)
    → is_told attributes (map unparted ps) ≡ is_told attributes ps
told-unparted [] ps =
    ap (λ b. b || (elements.are_paragraphs (map unparted ps) && list_any is_wide (map unparted ps)))
    (any-unparted has_header headers-same ps)
    ∙ (ap (λ b. list_any has_header ps || (b && list_any is_wide (map unparted ps)))
    (all-unparted elements.holds_paragraphs paragraphs-same ps)
    ∙ ap (λ b. list_any has_header ps || (elements.are_paragraphs ps && b)) (any-unparted is_wide wide-same ps))
told-unparted (a ∷ rest) ps = refl

pub elements-unparted : (ps : List elements.Piece)
    → map elements.piece_element (map unparted ps) ≡ map elements.piece_element ps
elements-unparted [] = refl
elements-unparted (p ∷ ps) =
    ap (λ b. b ∷ map elements.piece_element (map unparted ps)) (one p)
    ∙ ap (λ bs. elements.piece_element p ∷ bs) (elements-unparted ps)
  where
    one : (p : elements.Piece) → elements.piece_element (unparted p) ≡ elements.piece_element p
    one (elements.caption content) = refl
    one (elements.row r) = refl
