-- No cell takes rows past its part of the table.
use Rattle.std.proofs.Common.{◌≡◌, ℕ, zero, suc, ◌+◌, ◌<◌, ◌≤◌, Bool, true, false, cond, ◌&&◌, List, [], ◌∷◌, ◌++◌}
use Rattle.std.proofs.Common.{length, get_or, take, drop, map, refl, sym, ap, ◌∙◌, arith, slice_set, add-one, nat_lt}
use Rattle.std.proofs.Common.{◌-◌, append-nil, length-drop, subst}
use Rattle.std.proofs.lemmas.List.{take_all, drop_all}
use Rattle.htmd_flow.specs.declared.table_element.RichCell.{RichCell}
use Rattle.htmd_flow.specs.declared.table_element.RichPiece.{RichPiece}
use Rattle.htmd_flow.specs.ElementViews.{cell_of, piece_of, pieces_in, stretch_from, cut_in}
use Rattle.htmd_flow.specs.Grids.{is_same_part}
use Rattle.htmd_flow.specs.TableElements.{Piece, Stretch, caption, row, stretch_of, cut_piece, cut_all}
use Rattle.htmd_flow.specs.TableElements.{rows_within, cut_cell}

same_first : {A : Type 0} (x y : A) (xs ys : List A) → ◌≡◌ {A = List A} (x ∷ xs) (y ∷ ys) → x ≡ y
same_first x y xs ys e = ap (λ zs. get_or zs 0 x) e

same_rest : {A : Type 0} (x y : A) (xs ys : List A) → ◌≡◌ {A = List A} (x ∷ xs) (y ∷ ys) → xs ≡ ys
same_rest x y xs ys e = ap (drop 1) e

-- one element more that was changed
pub changed_step : {A B : Type 0} (g : B → B) (f : A → B) (xs init : List A) (i : ℕ) (x new : A)
    → i < length init → x ≡ get_or xs i x → f new ≡ g (f x)
    → map f xs ≡ map g (map f (take i init)) ++ map f (drop i init)
    → map f (slice_set xs i new) ≡ map g (map f (take (i + 1) init)) ++ map f (drop (i + 1) init)
changed_step g f xs [] i x new l e h w = absurd (omega arith)
changed_step g f [] (m ∷ init) zero x new l e h w = absurd (omega (arith, ap length w))
changed_step g f [] (m ∷ init) (suc i) x new l e h w = absurd (omega (arith, ap length w))
changed_step g f (y ∷ xs) (m ∷ init) zero x new l e h w =
    ap (λ z. z ∷ map f xs) (h ∙ ap (λ v. g (f v)) e
    ∙ ap g (same_first (f y) (f m) (map f xs) (map f init) w))
    ∙ ap (λ zs. g (f m) ∷ zs) (same_rest (f y) (f m) (map f xs) (map f init) w)
changed_step g f (y ∷ xs) (m ∷ init) (suc i) x new l e h w =
    let rest = map g (map f (take i init)) ++ map f (drop i init) in
    let tail = changed_step g f xs init i x new (omega arith) e h
    (same_rest (f y) (g (f m)) (map f xs) rest w) in
    rw add-one (ap (λ z. z ∷ map f (slice_set xs i new))
    (same_first (f y) (g (f m)) (map f xs) rest w)
    ∙ ap (λ zs. g (f m) ∷ zs) (rw add-one at tail))

-- ---- the stretch before a piece

stretch_before : (p : Piece) (ps : List Piece) → stretch_of (p ∷ ps) ≡ stretch_from p (stretch_of ps)
stretch_before (caption content) ps = refl
stretch_before (row r) ps = refl

cut_before : (p : Piece) (s : Stretch) → cut_in (stretch_from p s).left p ≡ cut_piece s p
cut_before (caption content) s = refl
cut_before (row r) s = refl

rows_most : (b : Bool) (left n : ℕ) → left ≤ n → cond b (left + 1) 1 ≤ n + 1
rows_most true left n h = omega arith
rows_most false left n h = omega arith

-- there are no more rows than pieces
pub rows_at_most : (ps : List Piece) → (stretch_of ps).left ≤ length ps
rows_at_most [] = omega arith
rows_at_most (caption content ∷ ps) = omega (arith, rows_at_most ps)
rows_at_most (row r ∷ ps) =
    let s = stretch_of ps in
    let most = rows_most (nat_lt 0 s.left && is_same_part r.part s.part) s.left (length ps) (rows_at_most ps) in
    omega (arith, most)

-- those from a place on were cut
abbrev pub AreCut : ℕ → List RichPiece → List RichPiece → Type 0
AreCut at ps init = pieces_in ps ≡ pieces_in (take at init) ++ cut_all (pieces_in (drop at init))

pub stretch_step : (ps init : List RichPiece) (at : ℕ) (x : RichPiece) → at < length init → x ≡ get_or ps at x
    → AreCut (suc at) ps init
    → stretch_from (piece_of x) (stretch_of (pieces_in (drop (suc at) init)))
    ≡ stretch_of (pieces_in (drop at init))
stretch_step ps [] at x l e w = absurd (omega arith)
stretch_step [] (m ∷ init) at x l e w = absurd (omega (arith, ap length w))
stretch_step (y ∷ ps) (m ∷ init) zero x l e w =
    ap (λ p. stretch_from p (stretch_of (pieces_in init)))
    (ap piece_of e ∙ same_first (piece_of y) (piece_of m) (pieces_in ps) (cut_all (pieces_in init)) w)
    ∙ sym (stretch_before (piece_of m) (pieces_in init))
stretch_step (y ∷ ps) (m ∷ init) (suc at) x l e w =
    stretch_step ps init at x (omega arith) e (same_rest (piece_of y) (piece_of m) (pieces_in ps)
    (pieces_in (take (suc at) init) ++ cut_all (pieces_in (drop (suc at) init))) w)

pub cut_step : (ps init : List RichPiece) (at : ℕ) (x new : RichPiece) → at < length init → x ≡ get_or ps at x
    → piece_of new ≡ cut_in (stretch_from (piece_of x) (stretch_of (pieces_in (drop (suc at) init)))).left
    (piece_of x)
    → AreCut (suc at) ps init → AreCut at (slice_set ps at new) init
cut_step ps [] at x new l e h w = absurd (omega arith)
cut_step [] (m ∷ init) at x new l e h w = absurd (omega (arith, ap length w))
cut_step (y ∷ ps) (m ∷ init) zero x new l e h w =
    let s = stretch_of (pieces_in init) in
    let same : piece_of x ≡ piece_of m =
    ap piece_of e ∙ same_first (piece_of y) (piece_of m) (pieces_in ps) (cut_all (pieces_in init)) w in
    ap (λ p. p ∷ pieces_in ps) (h ∙ ap (λ p. cut_in (stretch_from p s).left p) same ∙ cut_before (piece_of m) s)
    ∙ ap (λ qs. cut_piece s (piece_of m) ∷ qs)
    (same_rest (piece_of y) (piece_of m) (pieces_in ps) (cut_all (pieces_in init)) w)
cut_step (y ∷ ps) (m ∷ init) (suc at) x new l e h w =
    let rest = pieces_in (take (suc at) init) ++ cut_all (pieces_in (drop (suc at) init)) in
    ap (λ p. p ∷ pieces_in (slice_set ps at new))
    (same_first (piece_of y) (piece_of m) (pieces_in ps) rest w)
    ∙ ap (λ qs. piece_of m ∷ qs) (cut_step ps init at x new (omega arith) e h
    (same_rest (piece_of y) (piece_of m) (pieces_in ps) rest w))

pub all_changed : {A B : Type 0} (g : B → B) (f : A → B) (xs init : List A) (i : ℕ) → length init ≤ i
    → map f xs ≡ map g (map f (take i init)) ++ map f (drop i init) → map f xs ≡ map g (map f init)
all_changed g f xs init i l w =
    w ∙ ap (λ zs. map g (map f zs) ++ map f (drop i init)) (take_all i init l)
    ∙ ap (λ zs. map g (map f init) ++ map f zs) (drop_all i init l) ∙ append-nil (map g (map f init))

pub cell_cut : (left : ℕ) (c x : RichCell) (rows : ℕ) → x ≡ c → rows ≡ rows_within left c.rows
    → cell_of (record {
      is_header = c.is_header;
      columns = c.columns;
      rows = rows;
      alignment = c.alignment;
      content = c.content;
    })
    ≡ cut_cell left (cell_of x)
cell_cut left c x rows e h =
    ap (λ n. record (cell_of c) { rows = n }) h ∙ ap (λ y. cut_cell left (cell_of y)) (sym e)

-- ---- the loop from the end, whose next piece stands before `n`

same_place : {A : Type 0} (xs : List A) (k : ℕ) (x y : A) → k < length xs → get_or xs k x ≡ get_or xs k y
same_place [] k x y l = absurd (omega arith)
same_place (z ∷ xs) zero x y l = refl
same_place (z ∷ xs) (suc k) x y l = same_place xs k x y (omega arith)

pub stretch_more : (ps init : List RichPiece) (k n : ℕ) (x : RichPiece) (s : Stretch) → n ≡ suc k
    → k < length init
    → x ≡ get_or ps k x → s ≡ stretch_of (pieces_in (drop n init)) → AreCut n ps init
    → stretch_from (piece_of x) s ≡ stretch_of (pieces_in (drop k init))
stretch_more ps init k n x s e l i h w =
    ap (stretch_from (piece_of x)) (h ∙ ap (λ j. stretch_of (pieces_in (drop j init))) e)
    ∙ stretch_step ps init k x l i (subst (λ j. AreCut j ps init) e w)

pub cut_more : (ps init : List RichPiece) (k n : ℕ) (x y new : RichPiece) (s : Stretch) (left : ℕ) → n ≡ suc k
    → k < length init → length ps ≡ length init → x ≡ get_or ps k x → y ≡ get_or ps k y
    → left ≡ (stretch_from (piece_of x) s).left → piece_of new ≡ cut_in left (piece_of y)
    → s ≡ stretch_of (pieces_in (drop n init)) → AreCut n ps init → AreCut k (slice_set ps k new) init
cut_more ps init k n x y new s left e l size i j f c h w =
    let same : x ≡ y = i ∙ same_place ps k x y (omega (arith, size, l)) ∙ sym j in
    let all = h ∙ ap (λ m. stretch_of (pieces_in (drop m init))) e in
    cut_step ps init k y new l j
    (c ∙ ap (λ m. cut_in m (piece_of y)) (f ∙ ap (λ p. (stretch_from (piece_of p) s).left) same
    ∙ ap (λ u. (stretch_from (piece_of y) u).left) all))
    (subst (λ m. AreCut m ps init) e w)

mapped_length : (ps : List RichPiece) → length (pieces_in ps) ≡ length ps
mapped_length [] = refl
mapped_length (p ∷ ps) = omega (arith, mapped_length ps)

-- no more rows are left than pieces
pub rows_left : (init : List RichPiece) (n : ℕ) (s : Stretch) → s ≡ stretch_of (pieces_in (drop n init))
    → s.left ≤ length init - n
rows_left init n s h =
    let most = rows_at_most (pieces_in (drop n init)) in
    let mapped = mapped_length (drop n init) in
    let size = length-drop n init in
    let same : s.left ≡ (stretch_of (pieces_in (drop n init))).left = ap (λ u. u.left) h in
    omega (arith, most, mapped, size, same)

pub all_cut : (ps init : List RichPiece) (n : ℕ) → n ≤ 0 → AreCut n ps init
    → pieces_in ps ≡ cut_all (pieces_in init)
all_cut ps init zero l w = w
all_cut ps init (suc n) l w = absurd (omega (arith, l))
