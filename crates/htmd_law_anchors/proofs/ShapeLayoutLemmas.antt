-- Tables of the same kinds of nodes are for the same.
use Rattle.std.proofs.Common.{◌≡◌, ℕ, zero, suc, ◌+◌, Bool, true, false, cond, not, ◌&&◌, ◌||◌, List, [], ◌∷◌, filter, refl, ap}
use Rattle.std.proofs.Common.{◌∙◌, subst, fold, length, drop}
use Rattle.std.specs.Prelude.{nat_lt}
use Rattle.std.specs.List.{list_any, list_all, prefix_len}
use Rattle.htmd_shown.specs.Kinds.{has, holds, content_of, is_blank}
use Rattle.htmd_shown.specs.Roles.{is_caption, is_head, is_part, is_row, is_row_or_part, is_cell, is_header_cell}
use Rattle.htmd_shown.specs.SimpleTrees.{Simple}
use Rattle.htmd_flow.specs.Levels.{list_of}
use Rattle.htmd_flow.specs.Tables.{is_cell_or_nothing, is_row_or_nothing, is_table_child, holds_table_alone}
use Rattle.htmd_flow.specs.Tables.{is_no_caption}
use Rattle.htmd_flow.specs.Tables.{is_no_row, from_row, from_caption, has_captions_around, has_head, no_cells, with_cell}
use Rattle.htmd_flow.specs.Tables.{with_cell_at, cells_len, with_row, with_row_at, with_rows, with_part, cells_in}
use Rattle.htmd_flow.specs.Tables.{layout_by_cells, layout_of}
use Rattle.htmd_flow.specs.declared.table_form.Layout.TheVariants as layout

abbrev TypeOf : {A : Type 0} → A → Type 0
TypeOf {A} a = A

-- what is known of the cells of a table
abbrev Cells : Type 0
Cells = TypeOf no_cells

-- ---- pairs

abbrev pub All2 : (Simple → Simple → Type 0) → List Simple → List Simple → Type 0
All2 R [] [] = Unit {0}
All2 R (t ∷ ts) (u ∷ us) = R t u × All2 R ts us
All2 R _ _ = ⊥

pub cond-eq : {A : Type 0} (b d : Bool) (x y x' y' : A) → b ≡ d → (b ≡ true → x ≡ x')
    → (b ≡ false → y ≡ y')
    → cond b x y ≡ cond d x' y'
cond-eq {A} b d x y x' y' e f g = subst (λ (z : Bool). cond b x y ≡ cond z x' y') e (either b f g)
  where
    either : (b : Bool) → (b ≡ true → x ≡ x') → (b ≡ false → y ≡ y') → cond b x y ≡ cond b x' y'
    either true f g = f refl
    either false f g = g refl

module _ (R : Simple → Simple → Type 0) where
  drop-all : (n : ℕ) (xs ys : List Simple) → All2 R xs ys → All2 R (drop n xs) (drop n ys)
  drop-all zero xs ys h = h
  drop-all (suc n) [] [] h = tt
  drop-all (suc n) (x ∷ xs) (y ∷ ys) h = drop-all n xs ys h.1
  drop-all (suc n) xs ys h = absurd h

  module _ (p : Simple → Bool) (f : (t u : Simple) → R t u → p t ≡ p u) where
    prefix-same : (xs ys : List Simple) → All2 R xs ys → prefix_len p xs ≡ prefix_len p ys
    prefix-same [] [] h = refl
    prefix-same (x ∷ xs) (y ∷ ys) h =
        cond-eq (p x) (p y) (1 + prefix_len p xs) 0 (1 + prefix_len p ys) 0 (f x y h.0)
        (λ e. ap (λ n. 1 + n) (prefix-same xs ys h.1)) (λ e. refl)
    prefix-same xs ys h = absurd h

    all-same : (xs ys : List Simple) → All2 R xs ys → list_all p xs ≡ list_all p ys
    all-same [] [] h = refl
    all-same (x ∷ xs) (y ∷ ys) h = ap (λ b. b && list_all p xs) (f x y h.0)
        ∙ ap (λ b. p y && b) (all-same xs ys h.1)
    all-same xs ys h = absurd h

    pub any-same : (xs ys : List Simple) → All2 R xs ys → list_any p xs ≡ list_any p ys
    any-same [] [] h = refl
    any-same (x ∷ xs) (y ∷ ys) h = ap (λ b. b || list_any p xs) (f x y h.0)
        ∙ ap (λ b. p y || b) (any-same xs ys h.1)
    any-same xs ys h = absurd h

    count-same : (xs ys : List Simple) → All2 R xs ys → length (filter p xs) ≡ length (filter p ys)
    count-same [] [] h = refl
    count-same (x ∷ xs) (y ∷ ys) h =
        subst (λ (b : Bool). length (filter p (x ∷ xs)) ≡ length (cond b (y ∷ filter p ys) (filter p ys)))
        (f x y h.0)
        (either (p x) (count-same xs ys h.1))
      where
        either : (b : Bool) → length (filter p xs) ≡ length (filter p ys)
            → length (cond b (x ∷ filter p xs) (filter p xs)) ≡ length (cond b (y ∷ filter p ys) (filter p ys))
        either true e = ap suc e
        either false e = e
    count-same xs ys h = absurd h

  fold-same : (g : Cells → Simple → Cells) → ((c : Cells) (t u : Simple) → R t u → g c t ≡ g c u)
      → (xs ys : List Simple) → All2 R xs ys → (c : Cells) → fold g c xs ≡ fold g c ys
  fold-same g f [] [] h c = refl
  fold-same g f (x ∷ xs) (y ∷ ys) h c =
      ap (λ d. fold g d xs) (f c x y h.0) ∙ fold-same g f xs ys h.1 (g c y)
  fold-same g f xs ys h c = absurd h

pub all-map : (R Q : Simple → Simple → Type 0) → ((t u : Simple) → R t u → Q t u) → (xs ys : List Simple)
    → All2 R xs ys → All2 Q xs ys
all-map R Q f [] [] h = tt
all-map R Q f (x ∷ xs) (y ∷ ys) h = (f x y h.0, all-map R Q f xs ys h.1)
all-map R Q f xs ys h = absurd h

-- ---- nodes of the same kinds

abbrev pub children : Simple → List Simple
children t = list_of (content_of t)

-- among what is in a row
pub record Kin0 (t u : Simple) : Type 0 where
  pub cell : has is_cell t ≡ has is_cell u
  pub header : has is_header_cell t ≡ has is_header_cell u
  pub blank : is_blank t ≡ is_blank u
  pub table_in : has is_cell t ≡ true → holds (λ f. f.holds_table) t ≡ holds (λ f. f.holds_table) u
  pub header_in : has is_cell t ≡ true → holds (λ f. f.holds_header) t ≡ holds (λ f. f.holds_header) u

-- among what is in a part of a table
pub record Kin1 (t u : Simple) : Type 0 where
  pub kin : Kin0 t u
  pub row : has is_row t ≡ has is_row u
  pub cells : has is_row t ≡ true → All2 Kin0 (children t) (children u)

-- among what is in a table
pub record Kin2 (t u : Simple) : Type 0 where
  pub kin : Kin1 t u
  pub caption : has is_caption t ≡ has is_caption u
  pub head : has is_head t ≡ has is_head u
  pub part : has is_part t ≡ has is_part u
  pub row_or_part : has is_row_or_part t ≡ has is_row_or_part u
  pub rows : has is_part t ≡ true → All2 Kin1 (children t) (children u)

cell-or-nothing : (t u : Simple) → Kin0 t u → is_cell_or_nothing false t ≡ is_cell_or_nothing false u
cell-or-nothing t u k = ap (λ b. b || is_blank t) k.cell ∙ ap (λ b. has is_cell u || b) k.blank

row-or-nothing : (t u : Simple) → Kin1 t u → is_row_or_nothing false t ≡ is_row_or_nothing false u
row-or-nothing t u k =
    cond-eq (has is_row t) (has is_row u) (list_all (is_cell_or_nothing false) (children t)) (is_blank t)
    (list_all (is_cell_or_nothing false) (children u)) (is_blank u) k.row
    (λ e. all-same Kin0 (is_cell_or_nothing false) cell-or-nothing (children t) (children u) (k.cells e))
    (λ e. k.kin.blank)

table-child : (t u : Simple) → Kin2 t u → is_table_child false t ≡ is_table_child false u
table-child t u k =
    cond-eq (has is_caption t) (has is_caption u) true
    (cond (has is_part t) (list_all (is_row_or_nothing false) (children t)) (is_row_or_nothing false t)) true
    (cond (has is_part u) (list_all (is_row_or_nothing false) (children u)) (is_row_or_nothing false u)) k.caption
    (λ e. refl)
    (λ e. cond-eq (has is_part t) (has is_part u) (list_all (is_row_or_nothing false) (children t))
    (is_row_or_nothing false t) (list_all (is_row_or_nothing false) (children u)) (is_row_or_nothing false u) k.part
    (λ f. all-same Kin1 (is_row_or_nothing false) row-or-nothing (children t) (children u) (k.rows f))
    (λ f. row-or-nothing t u k.kin))

no-row : (t u : Simple) → Kin2 t u → is_no_row t ≡ is_no_row u
no-row t u k = ap not k.row_or_part

no-caption : (t u : Simple) → Kin2 t u → is_no_caption t ≡ is_no_caption u
no-caption t u k = ap not k.caption

from-row : (xs ys : List Simple) → All2 Kin2 xs ys → All2 Kin2 (from_row xs) (from_row ys)
from-row xs ys h =
    subst (λ (n : ℕ). All2 Kin2 (from_row xs) (drop n ys)) (prefix-same Kin2 is_no_row no-row xs ys h)
    (drop-all Kin2 (prefix_len is_no_row xs) xs ys h)

from-caption : (xs ys : List Simple) → All2 Kin2 xs ys → All2 Kin2 (from_caption xs) (from_caption ys)
from-caption xs ys h =
    subst (λ (n : ℕ). All2 Kin2 (from_caption xs) (drop n ys)) (prefix-same Kin2 is_no_caption no-caption xs ys h)
    (drop-all Kin2 (prefix_len is_no_caption xs) xs ys h)

-- ---- cells

cell-made : (c : Cells) (t u : Simple) → Kin0 t u → has is_cell t ≡ true → with_cell c t ≡ with_cell c u
cell-made c t u k e =
    ap (λ b. record (with_cell c t) { has_header = c.has_header || b }) k.header
    ∙ (ap (λ b. record (with_cell c t) {
      has_header = c.has_header || has is_header_cell u;
      holds_table = c.holds_table || b;
    }) (k.table_in e)
    ∙ ap (λ b. record (with_cell c t) {
      has_header = c.has_header || has is_header_cell u;
      holds_table = c.holds_table || holds (λ f. f.holds_table) u;
      holds_header = c.holds_header || b;
    }) (k.header_in e))

cell-at : (c : Cells) (t u : Simple) → Kin0 t u → with_cell_at c t ≡ with_cell_at c u
cell-at c t u k =
    cond-eq (has is_cell t) (has is_cell u) (with_cell c t) c (with_cell c u) c k.cell
    (λ e. cell-made c t u k e) (λ e. refl)

row-made : (c : Cells) (xs ys : List Simple) → All2 Kin0 xs ys → with_row c xs ≡ with_row c ys
row-made c xs ys h =
    ap (λ (d : Cells). record d { is_wide = c.is_wide || nat_lt 1 (cells_len xs) })
    (fold-same Kin0 with_cell_at cell-at xs ys h c)
    ∙ ap (λ n. record (fold with_cell_at c ys) { is_wide = c.is_wide || nat_lt 1 n })
    (count-same Kin0 (has is_cell) (λ t u k. k.cell) xs ys h)

row-at : (c : Cells) (t u : Simple) → Kin1 t u → with_row_at c t ≡ with_row_at c u
row-at c t u k =
    cond-eq (has is_row t) (has is_row u) (with_row c (children t)) c (with_row c (children u)) c k.row
    (λ e. row-made c (children t) (children u) (k.cells e)) (λ e. refl)

part-at : (c : Cells) (t u : Simple) → Kin2 t u → with_part c t ≡ with_part c u
part-at c t u k =
    cond-eq (has is_part t) (has is_part u) (with_rows c (children t)) c (with_rows c (children u)) c k.part
    (λ e. fold-same Kin1 with_row_at row-at (children t) (children u) (k.rows e) c) (λ e. refl)

cells-same : (xs ys : List Simple) → All2 Kin2 xs ys → cells_in xs ≡ cells_in ys
cells-same xs ys h =
    ap (λ c. fold with_part c xs)
    (fold-same Kin1 with_row_at row-at xs ys (all-map Kin2 Kin1 (λ t u k. k.kin) xs ys h) no_cells)
    ∙ fold-same Kin2 with_part part-at xs ys h (with_rows no_cells ys)

pub layout-same : (xs ys : List Simple) → All2 Kin2 xs ys → layout_of xs ≡ layout_of ys
layout-same xs ys h =
    ap (λ b. cond (b && holds_table_alone false xs) (layout_by_cells (has_head xs) (cells_in xs)) layout.Page)
    (all-same Kin2 is_no_row no-row (from_caption (from_row xs)) (from_caption (from_row ys))
    (from-caption (from_row xs) (from_row ys) (from-row xs ys h)))
    ∙ (ap (λ b. cond (has_captions_around ys && b) (layout_by_cells (has_head xs) (cells_in xs)) layout.Page)
    (all-same Kin2 (is_table_child false) table-child xs ys h)
    ∙ (ap (λ b. cond (has_captions_around ys && holds_table_alone false ys) (layout_by_cells b (cells_in xs))
    layout.Page)
    (any-same Kin2 (has is_head) (λ t u k. k.head) xs ys h)
    ∙ ap (λ c. cond (has_captions_around ys && holds_table_alone false ys) (layout_by_cells (has_head ys) c)
    layout.Page)
    (cells-same xs ys h)))
