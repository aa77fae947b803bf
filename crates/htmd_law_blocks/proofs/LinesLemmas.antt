-- Lines and columns: a line that begins with no white space, and white space before one.
use Rattle.std.proofs.Common.{◌≡◌, refl, ap, ℕ, zero, suc, Bool, true, false, List, [], ◌∷◌, ◌++◌, arith}
use Rattle.std.proofs.lemmas.Bool.Decides.{nat_tests}
use Rattle.std.specs.Prelude.{◌==◌, ◌||◌, nat_le}
use Rattle.htmd_lexical.specs.Characters.{space, tab}
use Rattle.htmd_commonmark_reading.specs.Characters.{is_space_or_tab, past_blanks}
use Rattle.htmd_commonmark_reading.specs.Lines.{Line, line, is_blank_text, no_white, width, indent_at, spaces, cut_at}
use Rattle.htmd_commonmark_reading.specs.Lines.{marks, placed}
use Rattle.htmd_commonmark_reading.specs.Boxes.{ClosedBlocks, no_closed_blocks, closed_block, joined, Box}
use Rattle.htmd_commonmark_reading.specs.Containers.{fed, fed_all, goes_with_item}
use Rattle.htmd_law_blocks.specs.LineTexts.{IsBlack}

-- ---- parts

pub joined_none : (ps : ClosedBlocks) → joined ps no_closed_blocks ≡ ps
joined_none no_closed_blocks = refl
joined_none (closed_block g p ps) = ap (closed_block g p) (joined_none ps)

pub joined_assoc : (ps qs rs : ClosedBlocks) → joined (joined ps qs) rs ≡ joined ps (joined qs rs)
joined_assoc no_closed_blocks qs rs = refl
joined_assoc (closed_block g p ps) qs rs = ap (closed_block g p) (joined_assoc ps qs rs)

-- ---- lines at some columns

abbrev pub Columns : Type 0
Columns = ℕ → ℕ

abbrev pub tail : Columns → Columns
tail k i = k (suc i)

abbrev pub place : Columns → List (List ℕ) → List Line
place k [] = []
place k (l ∷ ls) = line (k zero) l ∷ place (tail k) ls

abbrev pub shift : List (List ℕ) → Columns → Columns
shift [] k = k
shift (l ∷ ls) k = shift ls (tail k)

-- a column, and others after it
abbrev pub before : ℕ → Columns → Columns
before j k zero = j
before j k (suc i) = k i

-- the columns of what is in a container
abbrev pub inner : (ℕ → List ℕ → ℕ) → Columns → List (List ℕ) → Columns
inner f k [] = k
inner f k (l ∷ ls) = before (f (k zero) l) (inner f (tail k) ls)

pub placed_at_zero : (ls : List (List ℕ)) → placed ls ≡ place (λ (i : ℕ). zero) ls
placed_at_zero [] = refl
placed_at_zero (l ∷ ls) = ap (◌∷◌ (line 0 l)) (placed_at_zero ls)

pub fed_append : (b : Box) (k : Columns) (ls ms : List (List ℕ))
    → fed_all b (place k (ls ++ ms)) ≡ fed_all (fed_all b (place k ls)) (place (shift ls k) ms)
fed_append b k [] ms = refl
fed_append b k (l ∷ ls) ms = fed_append (fed b.done b.gap b.inner (line (k zero) l)) (tail k) ls ms

-- ---- a line that begins with no white space

or_left : (a b : Bool) → (a || b) ≡ false → a ≡ false
or_left false b h = refl
or_left true b h = h

or_right : (a b : Bool) → (a || b) ≡ false → b ≡ false
or_right false b h = h
or_right true b h = absurd (cc)

black_width : (c : ℕ) → is_space_or_tab c ≡ false → width c ≡ no_white
black_width c h =
    let a : (c == space) ≡ false = or_left (c == space) (c == tab) h in
    let b : (c == tab) ≡ false = or_right (c == space) (c == tab) h in
    rw (a, b) refl

pub not_blank : (l : List ℕ) → IsBlack l → is_blank_text l ≡ false
not_blank [] h = absurd h
not_blank (c ∷ s) h = rw h refl

pub black_indent : (k : ℕ) (l : List ℕ) → IsBlack l → indent_at k l ≡ 0
black_indent k [] h = absurd h
black_indent k (c ∷ s) h = rw (black_width c h, indent_at) refl

pub black_cut : (n k : ℕ) (l : List ℕ) → IsBlack l → cut_at k n l ≡ line k l
black_cut zero k l h = refl
black_cut (suc n) k [] h = absurd h
black_cut (suc n) k (c ∷ s) h = rw (black_width c h, cut_at) refl

pub black_past : (l : List ℕ) → IsBlack l → past_blanks l ≡ l
black_past [] h = absurd h
black_past (c ∷ s) h = rw h refl

-- ---- spaces before a line

pub spaces_blank : (n : ℕ) (l : List ℕ) → is_blank_text (spaces n l) ≡ is_blank_text l
spaces_blank zero l = refl
spaces_blank (suc n) l = spaces_blank n l

pub spaces_marks : (n : ℕ) (l : List ℕ) → marks (spaces n l) ≡ marks l
spaces_marks zero l = refl
spaces_marks (suc n) l = spaces_marks n l

pub spaces_indent : (n k : ℕ) (l : List ℕ) → IsBlack l → indent_at k (spaces n l) ≡ n
spaces_indent zero k l h = black_indent k l h
spaces_indent (suc n) k l h = ap suc (spaces_indent n (suc k) l h)

-- the column after so many spaces
abbrev pub steps : ℕ → ℕ → ℕ
steps zero k = k
steps (suc n) k = steps n (suc k)

pub spaces_cut : (n k : ℕ) (l : List ℕ) → cut_at k n (spaces n l) ≡ line (steps n k) l
spaces_cut zero k l = refl
spaces_cut (suc n) k l = spaces_cut n (suc k) l

-- a line that begins at its column goes on with no item
pub item_left : (e : Bool) (n k : ℕ) (l : List ℕ) → IsBlack l → goes_with_item e (suc n) (line k l) ≡ false
item_left e n k l h =
    let f : nat_le (suc n) 0 ≡ false = grind (arith, nat_tests) in
    rw (not_blank l h, black_indent k l h, f) refl

pub cut_empty : (n k : ℕ) → cut_at k n [] ≡ line k []
cut_empty zero k = refl
cut_empty (suc n) k = refl
