-- What is written of quotes and items is read as those, whatever flat blocks stand in them.
use Rattle.std.proofs.Common.{◌≡◌, ◌∙◌, refl, sym, ap, subst, ℕ, zero, suc, ◌≤◌, Bool, true, false, List, [], ◌∷◌}
use Rattle.std.proofs.Common.{◌+◌, ◌++◌, length, arith}
use Rattle.std.proofs.lemmas.Bool.Decides.{nat_tests}
use Rattle.std.proofs.lemmas.List.{append-nil}
use Rattle.std.specs.Prelude.{◌==◌, nat_le, Option, Some, None}
use Rattle.htmd_lexical.specs.Characters.{greater_than_sign}
use Rattle.htmd_lexical.specs.CharacterClasses.{first_is}
use Rattle.htmd_commonmark_reading.specs.Lines.{Line, line, is_blank, is_blank_text, indent_at, spaces, placed}
use Rattle.htmd_commonmark_reading.specs.Boxes.{Container, quoting, listing, ClosedBlock, text, headed, code, rule, html, grid, defined}
use Rattle.htmd_commonmark_reading.specs.Boxes.{boxed, ClosedBlocks}
use Rattle.htmd_commonmark_reading.specs.Boxes.{no_closed_blocks, closed_block, Open, nothing, leaf, within, Box, box}
use Rattle.htmd_commonmark_reading.specs.Boxes.{joined, shut, was_blank}
use Rattle.htmd_commonmark_reading.specs.BlockStarts.{After, alone, under, lazy, Start, first_line, opened, started}
use Rattle.htmd_commonmark_reading.specs.BlockStarts.{fresh, within_box}
use Rattle.htmd_commonmark_reading.specs.LeafBlocks.{underline_of}
use Rattle.htmd_commonmark_reading.specs.Containers.{holds_nothing, taken, goes_with_item, inside, fed, fed_all, parsed}
use Rattle.htmd_law_blocks.specs.LineTexts.{IsBlack, IsNotOf}
use Rattle.htmd_law_blocks.proofs.LinesLemmas.{joined_none, joined_assoc, Columns, tail, place, shift, before, inner}
use Rattle.htmd_law_blocks.proofs.LinesLemmas.{placed_at_zero, fed_append, not_blank, spaces_blank, spaces_cut, steps}
use Rattle.htmd_law_blocks.proofs.LinesLemmas.{cut_empty}
use Rattle.htmd_law_blocks.proofs.ChainsLemmas.{is_first_line, Interrupts, IsWide, Ends, ends_by, First, next_lines}
use Rattle.htmd_law_blocks.proofs.ChainsLemmas.{after_empty, right_after, gap_line, gap_columns, Last, container, other, anything, Fits}

-- ---- pieces: blocks with the lines that are written of them

pub record Marker : Type 0 where
  pub text : List ℕ
  pub sign : ℕ
  pub number : Option ℕ

mutual
  -- A flat block with its lines and what they are read as; a quote; or an item with its marker and the spaces after it,
  -- less one.
  pub data Piece : Type 0 where
    flat : (ls : List (List ℕ)) (p : ClosedBlock) (more : ClosedBlocks) → Piece
    quote : (content : Pieces) → Piece
    item : (marker : Marker) (n : ℕ) (content : Pieces) → Piece

  -- each with whether a blank line stands before it
  pub data Pieces : Type 0 where
    no_pieces : Pieces
    piece : (gap : Bool) (first : Piece) (rest : Pieces) → Pieces

abbrev pub each : (List ℕ → List ℕ) → List (List ℕ) → List (List ℕ)
each f [] = []
each f (l ∷ ls) = f l ∷ each f ls

abbrev pub quoted : List ℕ → List ℕ
quoted [] = 62 ∷ []
quoted (c ∷ s) = 62 ∷ 32 ∷ c ∷ s

-- the columns before an item's content
abbrev pub columns : Marker → ℕ → ℕ
columns m n = suc (length m.text + n)

abbrev pub indented : ℕ → List ℕ → List ℕ
indented n [] = []
indented n (c ∷ s) = spaces n (c ∷ s)

abbrev pub item_lines : Marker → ℕ → List (List ℕ) → List (List ℕ)
item_lines m n [] = m.text ∷ []
item_lines m n (l ∷ ls) = (m.text ++ spaces (suc n) l) ∷ each (indented (columns m n)) ls

abbrev mutual
  pub piece_lines : Piece → List (List ℕ)
  piece_lines (flat ls p more) = ls
  piece_lines (quote c) = each quoted (pieces_lines c)
  piece_lines (item m n c) = item_lines m n (pieces_lines c)

  -- what stands before the first piece doesn't matter
  pub pieces_lines : Pieces → List (List ℕ)
  pieces_lines no_pieces = []
  pieces_lines (piece g p ps) = piece_lines p ++ further_lines ps

  pub further_lines : Pieces → List (List ℕ)
  further_lines no_pieces = []
  further_lines (piece g p ps) = gap_line g (piece_lines p ++ further_lines ps)

abbrev pub content_columns : Marker → ℕ → Pieces → ℕ
content_columns m n no_pieces = columns m 0
content_columns m n (piece g p ps) = columns m n

abbrev mutual
  pub piece_parts : Bool → Piece → ClosedBlocks → ClosedBlocks
  piece_parts g (flat ls p more) rest = closed_block g p (joined more rest)
  piece_parts g (quote c) rest = closed_block g (boxed quoting (pieces_parts c)) rest
  piece_parts g (item m n c) rest =
      closed_block g (boxed (listing m.sign m.number (content_columns m n c)) (pieces_parts c)) rest

  pub pieces_parts : Pieces → ClosedBlocks
  pieces_parts no_pieces = no_closed_blocks
  pieces_parts (piece g p ps) = piece_parts g p (pieces_parts ps)

-- ---- which pieces

abbrev pub Keeps : Box → Type 0
Keeps b = holds_nothing b.done b.inner ≡ false

-- no blank line comes while a box is empty
abbrev pub Safe : Box → List Line → Type 0
Safe b [] = Unit {0}
Safe b (x ∷ xs) = (is_blank x ≡ true → Keeps b) × Safe (fed b.done b.gap b.inner x) xs

-- what a flat block may leave open: HTML is anything
abbrev pub kind_of : ClosedBlock → Last
kind_of (text s) = other
kind_of (headed level s) = other
kind_of (code l s) = other
kind_of rule = other
kind_of (html s) = anything
kind_of (grid alignments header rows) = other
kind_of (defined d) = other
kind_of (boxed kind content) = other

-- the lines of a flat block are read as it
pub record FlatReads (ls : List (List ℕ)) (p : ClosedBlock) (more : ClosedBlocks) : Type 0 where
  pub reads : (k : Columns) (done : ClosedBlocks) (g : Bool)
      → Ends (kind_of p) (fed_all (box done g nothing) (place k ls)) (joined done (closed_block g p more))
  pub safe : (k : Columns) (done : ClosedBlocks) (g : Bool) → Safe (box done g nothing) (place k ls)
  pub black : First IsBlack ls

-- after a bullet no line comes that is of its sign alone
abbrev pub IsApart : Option ℕ → ℕ → List ℕ → Type 0
IsApart None sign l = IsNotOf sign l
IsApart (Some n) sign l = Unit {0}

-- under a paragraph a list begins with its first number
abbrev pub Allowed : After → Option ℕ → Type 0
Allowed alone number = Unit {0}
Allowed lazy number = Unit {0}
Allowed under None = Unit {0}
Allowed under (Some n) = (n == 1) ≡ true

abbrev pub IsNotUnder : After → Type 0
IsNotUnder alone = Unit {0}
IsNotUnder lazy = Unit {0}
IsNotUnder under = ⊥

pub record IsMarker (m : Marker) : Type 0 where
  pub column : ℕ → ℕ → ℕ
  pub black : (t : List ℕ) → IsBlack (m.text ++ t)
  pub no_quote : (t : List ℕ) → first_is greater_than_sign (m.text ++ t) ≡ false
  pub filled : (a : After) (k n : ℕ) (l : List ℕ) → n ≤ 3 → IsBlack l → IsApart m.number m.sign l
      → Allowed a m.number
      → started a (line k (m.text ++ spaces (suc n) l))
      ≡ first_line (fresh (listing m.sign m.number (columns m n)) (line (column k n) l)
      (started alone (line (column k n) l)))
  pub empty : (a : After) (k : ℕ) → IsNotUnder a
      → started a (line k m.text) ≡ first_line
      (within (listing m.sign m.number (columns m 0)) no_closed_blocks false
      nothing)
  pub no_underline : (k n : ℕ) (l : List ℕ) → IsBlack l → IsApart m.number m.sign l
      → underline_of (line k (m.text ++ spaces (suc n) l)) ≡ None

-- a list that begins with this item may follow a paragraph without a blank line
abbrev pub Strong : Marker → Pieces → Type 0
Strong m no_pieces = ⊥
Strong m (piece g p ps) = Allowed under m.number

-- an item may follow right after that
abbrev pub FollowsOn : Last → Marker → Pieces → Type 0
FollowsOn container marker c = Unit {0}
FollowsOn other marker c = Strong marker c
FollowsOn anything marker c = ⊥

-- a piece may follow another one, with a blank line between or not
abbrev pub Follows : Bool → Last → Piece → Type 0
Follows true m p = Unit {0}
Follows false m (flat ls p more) = ⊥
Follows false m (quote c) = ⊥
Follows false m (item marker n c) = FollowsOn m marker c

abbrev pub is_boxed : Piece → Last
is_boxed (flat ls p more) = kind_of p
is_boxed (quote c) = container
is_boxed (item m n c) = container

abbrev mutual
  pub IsGood : Piece → Type 0
  IsGood (flat ls p more) = FlatReads ls p more
  IsGood (quote c) = IsFilled c
  IsGood (item m n c) = IsMarker m × n ≤ 3 × IsContent m c

  pub IsContent : Marker → Pieces → Type 0
  IsContent m no_pieces = Unit {0}
  IsContent m (piece g p ps) = (g ≡ false) × IsGood p × AreGood (is_boxed p) ps × First (IsApart m.number m.sign)
      (piece_lines p)

  -- some pieces, with no blank line before the first
  pub IsFilled : Pieces → Type 0
  IsFilled no_pieces = ⊥
  IsFilled (piece g p ps) = (g ≡ false) × IsGood p × AreGood (is_boxed p) ps

  pub AreGood : Last → Pieces → Type 0
  AreGood m no_pieces = Unit {0}
  AreGood m (piece g p ps) = Follows g m p × IsGood p × AreGood (is_boxed p) ps

-- ---- runs

pub safe_append : (b : Box) (k : Columns) (ls ms : List (List ℕ)) → Safe b (place k ls)
    → Safe (fed_all b (place k ls)) (place (shift ls k) ms) → Safe b (place k (ls ++ ms))
safe_append b k [] ms s t = t
safe_append b k (l ∷ ls) ms s t =
    (s.0, safe_append (fed b.done b.gap b.inner (line (k zero) l)) (tail k) ls ms s.1 t)

holds : (d : ClosedBlocks) (t : Container) (e : ClosedBlocks) (h : Bool) (o : Open) → holds_nothing d (within t e h o)
    ≡ false
holds no_closed_blocks t e h o = refl
holds (closed_block g p ps) t e h o = refl

keeps_inside : (done : ClosedBlocks) (g : Bool) (t : Container) (b : Box) → Keeps (inside done g t b)
keeps_inside done g t b = holds done t b.done b.gap b.inner

-- what was read of some parts isn't empty
keeps_ended : (b : Box) (d : ClosedBlocks) (g : Bool) (p : ClosedBlock) (more : ClosedBlocks) → shut b
    ≡ joined d (closed_block g p more)
    → Keeps b
keeps_ended b d g p more e = go b.done b.inner refl refl
  where
    never : (d : ClosedBlocks) → no_closed_blocks ≡ joined d (closed_block g p more) → ⊥
    never no_closed_blocks e = absurd (cc)
    never (closed_block h q qs) e = absurd (cc)

    go : (e : ClosedBlocks) (o : Open) → b.done ≡ e → b.inner ≡ o → holds_nothing e o ≡ false
    go (closed_block h q qs) o r s = refl
    go no_closed_blocks nothing r s =
        let a : shut b ≡ no_closed_blocks = rw (r, s) refl in
        absurd (never d (sym a ∙ e))
    go no_closed_blocks (leaf f) r s = refl
    go no_closed_blocks (within t f h o) r s = refl

-- ---- lines that a container takes are lines of what is in it

abbrev quote_column : ℕ → List ℕ → ℕ
quote_column k [] = k + 1
quote_column k (c ∷ s) = suc (k + 1)

quote_takes : (l : List ℕ) (k : ℕ) (done : ClosedBlocks) (g : Bool) (d : ClosedBlocks) (h : Bool) (o : Open)
    → fed done g (within quoting d h o) (line k (quoted l))
    ≡ inside done g quoting (fed d h o (line (quote_column k l) l))
quote_takes [] k done g d h o = refl
quote_takes (c ∷ s) k done g d h o = refl

quoted_not_blank : (k : ℕ) (l : List ℕ) → is_blank (line k (quoted l)) ≡ false
quoted_not_blank k [] = refl
quoted_not_blank k (c ∷ s) = refl

quote_takes_all : (ls : List (List ℕ)) (k : Columns) (done : ClosedBlocks) (g : Bool) (b : Box)
    → (fed_all (inside done g quoting b) (place k (each quoted ls))
    ≡ inside done g quoting (fed_all b (place (inner quote_column k ls) ls)))
    × Safe (inside done g quoting b) (place k (each quoted ls))
quote_takes_all [] k done g b = (refl, tt)
quote_takes_all (l ∷ ls) k done g b =
    let e = quote_takes l (k zero) done g b.done b.gap b.inner in
    let r = quote_takes_all ls (tail k) done g (fed b.done b.gap b.inner (line (quote_column (k zero) l) l)) in (
      ap (λ (x : Box). fed_all x (place (tail k) (each quoted ls))) e ∙ r.0,
      (
        (λ f. keeps_inside done g quoting b),
        subst (λ (x : Box). Safe x (place (tail k) (each quoted ls))) (sym e)
            r.1,
      ),
    )

abbrev item_column : ℕ → ℕ → List ℕ → ℕ
item_column n k [] = k
item_column n k (c ∷ s) = steps n k

indent_spaces : (n k : ℕ) (l : List ℕ) → indent_at k (spaces n l) ≡ n + indent_at (steps n k) l
indent_spaces zero k l = omega arith
indent_spaces (suc n) k l =
    let m = indent_at (steps n (suc k)) l in
    let e : suc (n + m) ≡ suc n + m = omega arith in
    ap suc (indent_spaces n (suc k) l) ∙ e

goes_on : (e : Bool) (n k : ℕ) (l : List ℕ) → (is_blank_text l ≡ true → e ≡ false)
    → goes_with_item e n (line k (spaces n l)) ≡ true
goes_on e n k l h = go (is_blank_text l) refl
  where
    deep : nat_le n (indent_at k (spaces n l)) ≡ true
    deep =
        let m = indent_at (steps n k) l in
        let f : nat_le n (n + m) ≡ true = grind (arith, nat_tests) in
        ap (nat_le n) (indent_spaces n k l) ∙ f

    go : (b : Bool) → is_blank_text l ≡ b → goes_with_item e n (line k (spaces n l)) ≡ true
    go true q = rw (spaces_blank n l, q, h q) refl
    go false q = rw (spaces_blank n l, q) deep

item_takes : (l : List ℕ) (sign : ℕ) (number : Option ℕ) (n k : ℕ) (done : ClosedBlocks) (g : Bool)
    (d : ClosedBlocks)
    (h : Bool) (o : Open)
    → (is_blank_text l ≡ true → holds_nothing d o ≡ false)
    → fed done g (within (listing sign number n) d h o) (line k (indented n l))
    ≡ inside done g (listing sign number n) (fed d h o (line (item_column n k l) l))
item_takes [] sign number n k done g d h o e =
    let f = e refl in
    let t : taken (listing sign number n) (holds_nothing d o) (line k []) ≡ Some (line k []) =
    rw (f, cut_empty n k) refl in
    rw (t, fed) refl
item_takes (c ∷ s) sign number n k done g d h o e =
    let t : taken (listing sign number n) (holds_nothing d o) (line k (spaces n (c ∷ s))) ≡ Some
    (line (steps n k) (c ∷ s)) =
    rw (goes_on (holds_nothing d o) n k (c ∷ s) e, spaces_cut n k (c ∷ s)) refl in
    rw (t, fed) refl

item_takes_all : (ls : List (List ℕ)) (sign : ℕ) (number : Option ℕ) (n : ℕ) (k : Columns) (done : ClosedBlocks)
    (g : Bool)
    (b : Box) → Safe b (place (inner (item_column n) k ls) ls)
    → (fed_all (inside done g (listing sign number n) b) (place k (each (indented n) ls))
    ≡ inside done g (listing sign number n) (fed_all b (place (inner (item_column n) k ls) ls)))
    × Safe (inside done g (listing sign number n) b) (place k (each (indented n) ls))
item_takes_all [] sign number n k done g b s = (refl, tt)
item_takes_all (l ∷ ls) sign number n k done g b s =
    let t = listing sign number n in
    let e = item_takes l sign number n (k zero) done g b.done b.gap b.inner s.0 in
    let r = item_takes_all ls sign number n (tail k) done g
    (fed b.done b.gap b.inner (line (item_column n (k zero) l) l)) s.1 in (
      ap (λ (x : Box). fed_all x (place (tail k) (each (indented n) ls))) e ∙ r.0,
      (
        (λ f. keeps_inside done g t b),
        subst (λ (x : Box). Safe x (place (tail k) (each (indented n) ls))) (sym e)
            r.1,
      ),
    )

-- ---- a container's first line

fresh_fed : (t : Container) (x : Line) → is_blank x ≡ false
    → fresh t x (started alone x) ≡ within_box t (fed no_closed_blocks false nothing x)
fresh_fed t x e = rw e refl

-- what a line begins, if that stays open
first_fed : (done : ClosedBlocks) (g : Bool) (x : Line) (o : Open) → is_blank x ≡ false → started alone x
    ≡ first_line
    o
    → fed done g nothing x ≡ box done g o
first_fed done g x o b e = rw b (ap (λ (s : Start). opened done g x s) e)

quote_starts : (k : ℕ) (l : List ℕ) → IsBlack l
    → started alone (line k (quoted l))
    ≡ first_line (fresh quoting (line (quote_column k l) l) (started alone (line (quote_column k l) l)))
quote_starts k [] h = absurd h
quote_starts k (c ∷ s) h = refl

box_back : (t : Container) (b c : Box) (done : ClosedBlocks) (g : Bool) (ps : ClosedBlocks) (m : Last) → IsWide t
    → b ≡ inside done g t c → Ends m c ps
    → Ends container b (joined done (closed_block g (boxed t ps) no_closed_blocks))
box_back t b c done g ps m w e r =
    ends_by container b (inside done g t c) (joined done (closed_block g (boxed t ps) no_closed_blocks))
    (joined done (closed_block g (boxed t ps) no_closed_blocks)) e refl record {
      parts = ap (λ (qs : ClosedBlocks). joined done (closed_block g (boxed t qs) no_closed_blocks)) r.parts;
      calm = (w, r.calm);
      filled = still t c r.filled;
      in_box = tt;
    }
  where
    still : (t : Container) (c : Box) → was_blank c.gap c.inner ≡ false
        → was_blank g (within t c.done c.gap c.inner) ≡ false
    still quoting c h = refl
    still (listing sign number n) c h = h

-- lines that are read as parts
pub record Reads (m : Last) (ls : List (List ℕ)) (f : Bool → ClosedBlocks) : Type 0 where
  pub reads : (k : Columns) (done : ClosedBlocks) (g : Bool)
      → Ends m (fed_all (box done g nothing) (place k ls)) (joined done (f g))
  pub safe : (k : Columns) (done : ClosedBlocks) (g : Bool) → Safe (box done g nothing) (place k ls)

quote_back : (ls : List (List ℕ)) (ps : ClosedBlocks) (m : Last) → First IsBlack ls
    → ((k : Columns) → Ends m (fed_all (box no_closed_blocks false nothing) (place k ls)) ps)
    → Reads container (each quoted ls) (λ g. closed_block g (boxed quoting ps) no_closed_blocks)
quote_back [] ps m h r = absurd h
quote_back (l ∷ ls) ps m h r = record {
  reads = λ k done g. box_back quoting (fed_all (box done g nothing) (place k (each quoted (l ∷ ls))))
      (fed_all (box no_closed_blocks false nothing) (place (columns_of k) (l ∷ ls))) done g ps m tt
      (ap (λ (x : Box). fed_all x (place (tail k) (each quoted ls))) (step k done g) ∙ (rest k done g).0)
      (r (columns_of k));
  safe = λ k done g. (
    (λ f. absurd (let w = quoted_not_blank (k zero) l in cc)),
    subst (λ (x : Box). Safe x (place (tail k) (each quoted ls))) (sym (step k done g)) (rest k done g).1,
  );
}
  where
    columns_of : Columns → Columns
    columns_of k = inner quote_column k (l ∷ ls)

    step : (k : Columns) (done : ClosedBlocks) (g : Bool) → fed done g nothing (line (k zero) (quoted l))
        ≡ inside done g quoting (fed no_closed_blocks false nothing (line (quote_column (k zero) l) l))
    step k done g =
        let x = line (quote_column (k zero) l) l in
        first_fed done g (line (k zero) (quoted l)) (fresh quoting x (started alone x)) (quoted_not_blank (k zero) l)
        (quote_starts (k zero) l h)
        ∙ ap (λ (o : Open). box done g o) (fresh_fed quoting x (not_blank l h))

    rest : (k : Columns) (done : ClosedBlocks) (g : Bool)
        → (fed_all (inside done g quoting (fed no_closed_blocks false nothing (line (quote_column (k zero) l) l)))
        (place (tail k) (each quoted ls))
        ≡ inside done g quoting (fed_all (box no_closed_blocks false nothing) (place (columns_of k) (l ∷ ls))))
        × Safe (inside done g quoting (fed no_closed_blocks false nothing (line (quote_column (k zero) l) l)))
        (place (tail k) (each quoted ls))
    rest k done g = quote_takes_all ls (tail k) done g
        (fed no_closed_blocks false nothing (line (quote_column (k zero) l) l))

item_back : (mk : Marker) (n : ℕ) (l : List ℕ) (ls : List (List ℕ)) (ps : ClosedBlocks) (m : Last) → IsMarker mk
    → n ≤ 3
    → IsBlack l → IsApart mk.number mk.sign l
    → ((k : Columns) → Ends m (fed_all (box no_closed_blocks false nothing) (place k (l ∷ ls))) ps)
    → ((k : Columns) → Safe (box no_closed_blocks false nothing) (place k (l ∷ ls)))
    → Reads container (item_lines mk n (l ∷ ls))
    (λ g. closed_block g (boxed (listing mk.sign mk.number (columns mk n)) ps)
    no_closed_blocks)
item_back mk n l ls ps m i w h q r s = record {
  reads = λ k done g. box_back t (fed_all (box done g nothing) (place k (item_lines mk n (l ∷ ls))))
      (fed_all (box no_closed_blocks false nothing) (place (columns_of k) (l ∷ ls))) done g ps m tt
      (ap (λ (x : Box). fed_all x (place (tail k) (each (indented c) ls))) (step k done g) ∙ (rest k done g).0)
      (r (columns_of k));
  safe = λ k done g. (
    (λ f. absurd (let w = black_line k in cc)),
    subst (λ (x : Box). Safe x (place (tail k) (each (indented c) ls))) (sym (step k done g)) (rest k done g).1,
  );
}
  where
    c : ℕ
    c = columns mk n

    t : Container
    t = listing mk.sign mk.number c

    at : Columns → ℕ
    at k = i.column (k zero) n

    columns_of : Columns → Columns
    columns_of k = before (at k) (inner (item_column c) (tail k) ls)

    black_line : (k : Columns) → is_blank (line (k zero) (mk.text ++ spaces (suc n) l)) ≡ false
    black_line k = not_blank (mk.text ++ spaces (suc n) l) (i.black (spaces (suc n) l))

    step : (k : Columns) (done : ClosedBlocks) (g : Bool)
        → fed done g nothing (line (k zero) (mk.text ++ spaces (suc n) l))
        ≡ inside done g t (fed no_closed_blocks false nothing (line (at k) l))
    step k done g =
        let x = line (at k) l in
        first_fed done g (line (k zero) (mk.text ++ spaces (suc n) l)) (fresh t x (started alone x)) (black_line k)
        (i.filled alone (k zero) n l w h q tt)
        ∙ ap (λ (o : Open). box done g o) (fresh_fed t x (not_blank l h))

    rest : (k : Columns) (done : ClosedBlocks) (g : Bool)
        → (fed_all (inside done g t (fed no_closed_blocks false nothing (line (at k) l)))
        (place (tail k) (each (indented c) ls))
        ≡ inside done g t (fed_all (box no_closed_blocks false nothing) (place (columns_of k) (l ∷ ls))))
        × Safe (inside done g t (fed no_closed_blocks false nothing (line (at k) l)))
        (place (tail k) (each (indented c) ls))
    rest k done g = item_takes_all ls mk.sign mk.number c (tail k) done g
        (fed no_closed_blocks false nothing (line (at k) l))
        (s (columns_of k)).1

empty_back : (mk : Marker) (n : ℕ) → IsMarker mk
    → Reads container (item_lines mk n [])
    (λ g. closed_block g (boxed (listing mk.sign mk.number (columns mk 0)) no_closed_blocks)
    no_closed_blocks)
empty_back mk n i = record {
  reads = λ k done g. ends_by container (fed done g nothing (line (k zero) mk.text)) (box done g inner_box)
      (joined done (closed_block g (boxed t no_closed_blocks) no_closed_blocks))
      (joined done (closed_block g (boxed t no_closed_blocks) no_closed_blocks))
      (first_fed done g (line (k zero) mk.text) inner_box (not_blank mk.text (marker_black mk i))
      (i.empty alone (k zero) tt)) refl
      record { parts = refl; calm = (tt, tt); filled = refl; in_box = tt };
  safe = λ k done g. ((λ f. absurd (let w = not_blank mk.text (marker_black mk i) in cc)), tt);
}
  where
    t : Container
    t = listing mk.sign mk.number (columns mk 0)

    inner_box : Open
    inner_box = within t no_closed_blocks false nothing

    marker_black : (mk : Marker) → IsMarker mk → IsBlack mk.text
    marker_black mk i = subst IsBlack (append-nil mk.text) (i.black [])

-- ---- first lines

pub black_marker : (mk : Marker) → IsMarker mk → IsBlack mk.text
black_marker mk i = subst IsBlack (append-nil mk.text) (i.black [])

first_append : (P : List ℕ → Type 0) (ls ms : List (List ℕ)) → First P ls → First P (ls ++ ms)
first_append P [] ms h = absurd h
first_append P (l ∷ ls) ms h = h

quoted_first : (ls : List (List ℕ)) → First IsBlack ls → First IsBlack (each quoted ls)
quoted_first [] h = absurd h
quoted_first ([] ∷ ls) h = refl
quoted_first ((c ∷ s) ∷ ls) h = refl

item_first : (mk : Marker) (n : ℕ) (ls : List (List ℕ)) → IsMarker mk → First IsBlack (item_lines mk n ls)
item_first mk n [] i = black_marker mk i
item_first mk n (l ∷ ls) i = i.black (spaces (suc n) l)

mutual
  pub piece_first : (p : Piece) → IsGood p → First IsBlack (piece_lines p)
  piece_first (flat ls p more) g = g.black
  piece_first (quote c) g = quoted_first (pieces_lines c) (filled_first c g)
  piece_first (item m n c) g = item_first m n (pieces_lines c) g.0

  pub filled_first : (ps : Pieces) → IsFilled ps → First IsBlack (pieces_lines ps)
  filled_first no_pieces g = absurd g
  filled_first (piece f p ps) g = first_append IsBlack (piece_lines p) (further_lines ps) (piece_first p g.1)

-- an item's first line begins it wherever it stands
item_interrupts : (u : Bool) (mk : Marker) (n : ℕ) (l : List ℕ) → IsMarker mk → n ≤ 3 → IsBlack l
    → IsApart mk.number mk.sign l
    → (u ≡ true → Allowed under mk.number) → Interrupts u (mk.text ++ spaces (suc n) l)
item_interrupts u mk n l i w h q a = record {
  black = i.black (spaces (suc n) l);
  starts = λ k. ap is_first_line (i.filled alone k n l w h q tt);
  in_lazy = λ k. i.filled lazy k n l w h q tt ∙ sym (i.filled alone k n l w h q tt);
  in_text = λ e k. i.filled under k n l w h q (a e) ∙ sym (i.filled alone k n l w h q tt);
  no_underline = λ e k. i.no_underline k n l h q;
  no_quote = i.no_quote (spaces (suc n) l);
}

empty_interrupts : (mk : Marker) → IsMarker mk → Interrupts false mk.text
empty_interrupts mk i = record {
  black = black_marker mk i;
  starts = λ k. ap is_first_line (i.empty alone k tt);
  in_lazy = λ k. i.empty lazy k tt ∙ sym (i.empty alone k tt);
  in_text = λ e k. absurd (cc);
  no_underline = λ e k. absurd (cc);
  no_quote = subst (λ (s : List ℕ). first_is greater_than_sign s ≡ false) (append-nil mk.text) (i.no_quote []);
}

-- whether it has to be such as may stand under a paragraph
abbrev interrupts : Last → Bool
interrupts container = false
interrupts other = true
interrupts anything = true

item_follows : (m : Last) (mk : Marker) (n : ℕ) (c : Pieces) → Follows false m (item mk n c) → IsGood
    (item mk n c)
    → First (Interrupts (interrupts m)) (piece_lines (item mk n c))
item_follows container mk n no_pieces f g = empty_interrupts mk g.0
item_follows other mk n no_pieces f g = absurd f
item_follows anything mk n no_pieces f g = absurd f
item_follows m mk n (piece h p ps) f g = go (piece_lines p) (piece_first p g.2.1) g.2.3
  where
    allowed : (m : Last) → FollowsOn m mk (piece h p ps) → interrupts m ≡ true → Allowed under mk.number
    allowed container f e = absurd (cc)
    allowed other f e = f
    allowed anything f e = absurd f

    go : (ls : List (List ℕ)) → First IsBlack ls → First (IsApart mk.number mk.sign) ls
        → First (Interrupts (interrupts m)) (item_lines mk n (ls ++ further_lines ps))
    go [] b q = absurd b
    go (l ∷ ls) b q = item_interrupts (interrupts m) mk n l g.0 g.1 b q (allowed m f)

piece_follows : (m : Last) (p : Piece) → Follows false m p → IsGood p
    → First (Interrupts (interrupts m)) (piece_lines p)
piece_follows m (flat ls p more) f g = absurd f
piece_follows m (quote c) f g = absurd f
piece_follows m (item mk n c) f g = item_follows m mk n c f g

-- ---- parts of pieces

pub piece_joined : (g : Bool) (p : Piece) (rest : ClosedBlocks) → joined (piece_parts g p no_closed_blocks) rest
    ≡ piece_parts g p
    rest
piece_joined g (flat ls p more) rest = ap (λ (qs : ClosedBlocks). closed_block g p (joined qs rest)) (joined_none more)
piece_joined g (quote c) rest = refl
piece_joined g (item m n c) rest = refl

piece_keeps : (b : Box) (d : ClosedBlocks) (g : Bool) (p : Piece) → shut b
    ≡ joined d (piece_parts g p no_closed_blocks) → Keeps
    b
piece_keeps b d g (flat ls p more) e = keeps_ended b d g p (joined more no_closed_blocks) e
piece_keeps b d g (quote c) e = keeps_ended b d g (boxed quoting (pieces_parts c)) no_closed_blocks e
piece_keeps b d g (item m n c) e =
    keeps_ended b d g (boxed (listing m.sign m.number (content_columns m n c)) (pieces_parts c)) no_closed_blocks e

-- ---- all pieces

any_ends : (m : Last) (b : Box) (qs : ClosedBlocks) → Ends m b qs → Ends anything b qs
any_ends m b qs e = record { parts = e.parts; calm = e.calm; filled = e.filled; in_box = tt }

-- what follows a box whose lines have been read is safe
safe_next : (h : Bool) (m : Last) (b : Box) (qs : ClosedBlocks) (k : Columns) (ls ms : List (List ℕ)) → Ends m b qs
    → Keeps b
    → First IsBlack ls → (h ≡ false → First (Interrupts (interrupts m)) ls × Fits m (interrupts m))
    → Safe (box qs h nothing) (place (gap_columns h k) (ls ++ ms))
    → Safe b (place k (gap_line h (ls ++ ms)))
safe_next h m b qs k [] ms e q f i s = absurd f
safe_next true m b qs k (l ∷ ls) ms e q f i s = (
  (λ r. q),
  (
    (λ r. absurd (let w = not_blank l f in cc)),
    subst (λ (x : Box). Safe x (place (tail (tail k)) (ls ++ ms)))
        (sym (after_empty m b qs (k zero) (k (suc zero)) l e f)) s.1,
  ),
)
safe_next false m b qs k (l ∷ ls) ms e q f i s = (
  (λ r. q),
  subst (λ (x : Box). Safe x (place (tail k) (ls ++ ms)))
      (sym (right_after m (interrupts m) b qs (k zero) l e (i refl).0 (i refl).1)) s.1,
)

follows : (h : Bool) (m : Last) (p : Piece) → Follows h m p → h ≡ false → Follows false m p
follows true m p f e = absurd (cc)
follows false m p f e = f

fits : (m : Last) (p : Piece) → Follows false m p → Fits m (interrupts m)
fits container p f = tt
fits other p f = refl
fits anything (flat ls p more) f = absurd f
fits anything (quote c) f = absurd f
fits anything (item mk n c) f = absurd f

may_start : (h : Bool) (m : Last) (p : Piece) → Follows h m p → IsGood p → h ≡ false
    → First (Interrupts (interrupts m)) (piece_lines p) × Fits m (interrupts m)
may_start h m p f g e = (piece_follows m p (follows h m p f e) g, fits m p (follows h m p f e))

-- an item that isn't empty, with the lines of its first block
item_content : (m : Marker) (n : ℕ) (p : Piece) (ps : Pieces) (f : Bool) → IsGood (item m n (piece f p ps))
    → ((k : Columns) → Ends anything (fed_all (box no_closed_blocks false nothing)
    (place k (piece_lines p ++ further_lines ps)))
    (pieces_parts (piece f p ps))
    × Safe (box no_closed_blocks false nothing) (place k (piece_lines p ++ further_lines ps)))
    → (ls : List (List ℕ)) → piece_lines p ≡ ls
    → Reads container (item_lines m n (piece_lines p ++ further_lines ps))
    (λ g. closed_block g (boxed (listing m.sign m.number (columns m n)) (pieces_parts (piece f p ps)))
    no_closed_blocks)
item_content m n p ps f w r [] e = absurd (subst (First IsBlack) e (piece_first p w.2.1))
item_content m n p ps f w r (l ∷ ls) e =
    subst (λ (x : List (List ℕ)). Reads container (item_lines m n (x ++ further_lines ps))
    (λ g. closed_block g (boxed (listing m.sign m.number (columns m n)) (pieces_parts (piece f p ps)))
    no_closed_blocks)) (sym e)
    (item_back m n l (ls ++ further_lines ps) (pieces_parts (piece f p ps)) anything w.0 w.1
    (subst (First IsBlack) e (piece_first p w.2.1)) (subst (First (IsApart m.number m.sign)) e w.2.3)
    (λ k. subst (λ (x : List (List ℕ)). Ends anything (fed_all (box no_closed_blocks false nothing)
    (place k (x ++ further_lines ps)))
    (pieces_parts (piece f p ps))) e (r k).0)
    (λ k. subst (λ (x : List (List ℕ)). Safe (box no_closed_blocks false nothing) (place k (x ++ further_lines ps)))
    e
    (r k).1))

mutual
  piece_back : (p : Piece) → IsGood p → Reads (is_boxed p) (piece_lines p) (λ g. piece_parts g p no_closed_blocks)
  piece_back (flat ls p more) w = record {
    reads = λ k done g. ends_by (kind_of p) (fed_all (box done g nothing) (place k ls))
        (fed_all (box done g nothing) (place k ls))
        (joined done (closed_block g p more)) (joined done (closed_block g p (joined more no_closed_blocks))) refl
        (ap (λ (qs : ClosedBlocks). joined done (closed_block g p qs)) (sym (joined_none more))) (w.reads k done g);
    safe = w.safe;
  }
  piece_back (quote c) w =
      quote_back (pieces_lines c) (pieces_parts c) anything (filled_first c w) (λ k. (filled_back c w k).0)
  piece_back (item m n no_pieces) w = empty_back m n w.0
  piece_back (item m n (piece f p ps)) w =
      item_content m n p ps f w (λ k. filled_back (piece f p ps) (w.2.0, w.2.1, w.2.2) k) (piece_lines p) refl

  -- a container's pieces, from its beginning
  filled_back : (ps : Pieces) → IsFilled ps → (k : Columns)
      → Ends anything (fed_all (box no_closed_blocks false nothing) (place k (pieces_lines ps))) (pieces_parts ps)
      × Safe (box no_closed_blocks false nothing) (place k (pieces_lines ps))
  filled_back no_pieces w k = absurd w
  filled_back (piece f p ps) w k =
      let r = piece_back p w.1 in
      let b = fed_all (box no_closed_blocks false nothing) (place k (piece_lines p)) in
      let j = shift (piece_lines p) k in
      let e = r.reads k no_closed_blocks false in
      let a = after_back ps (is_boxed p) w.2 j b (piece_parts false p no_closed_blocks) e
      (piece_keeps b no_closed_blocks false p e.parts) in (
        ends_by anything (fed_all (box no_closed_blocks false nothing) (place k (piece_lines p ++ further_lines ps)))
            (fed_all b (place j (further_lines ps)))
            (joined (piece_parts false p no_closed_blocks) (pieces_parts ps)) (piece_parts f p (pieces_parts ps))
            (fed_append (box no_closed_blocks false nothing) k (piece_lines p) (further_lines ps))
            (piece_joined false p (pieces_parts ps) ∙ ap (λ (h : Bool). piece_parts h p (pieces_parts ps)) (sym w.0))
            a.0,
        safe_append (box no_closed_blocks false nothing) k (piece_lines p) (further_lines ps)
            (r.safe k no_closed_blocks false) a.1,
      )

  after_back : (ps : Pieces) (m : Last) → AreGood m ps → (k : Columns) (b : Box) (qs : ClosedBlocks) → Ends m b qs
      → Keeps b
      → Ends anything (fed_all b (place k (further_lines ps))) (joined qs (pieces_parts ps))
      × Safe b (place k (further_lines ps))
  after_back no_pieces m w k b qs e q = (
    any_ends m b (joined qs no_closed_blocks)
        (ends_by m b b qs (joined qs no_closed_blocks) refl (sym (joined_none qs)) e),
    tt,
  )
  after_back (piece h p ps) m w k b qs e q =
      let r = piece_back p w.1 in
      let i = gap_columns h k in
      let j = shift (piece_lines p) i in
      let c = fed_all (box qs h nothing) (place i (piece_lines p)) in
      let rs = joined qs (piece_parts h p no_closed_blocks) in
      let s = r.reads i qs h in
      let a = after_back ps (is_boxed p) w.2 j c rs s (piece_keeps c qs h p s.parts) in
      let first = piece_first p w.1 in
      let starts = may_start h m p w.0 w.1 in (
        ends_by anything (fed_all b (place k (further_lines (piece h p ps)))) (fed_all c (place j (further_lines ps)))
            (joined rs (pieces_parts ps)) (joined qs (piece_parts h p (pieces_parts ps)))
            (next_lines h m (interrupts m) b qs k (piece_lines p) (further_lines ps) e first starts)
            (joined_assoc qs (piece_parts h p no_closed_blocks) (pieces_parts ps)
            ∙ ap (λ (x : ClosedBlocks). joined qs x) (piece_joined h p (pieces_parts ps))) a.0,
        safe_next h m b qs k (piece_lines p) (further_lines ps) e q first starts
            (safe_append (box qs h nothing) i (piece_lines p) (further_lines ps) (r.safe i qs h) a.1),
      )

pub pieces_read_back : (ps : Pieces) → IsFilled ps → parsed (placed (pieces_lines ps)) ≡ pieces_parts ps
pieces_read_back ps w =
    ap parsed (placed_at_zero (pieces_lines ps)) ∙ (filled_back ps w (λ (i : ℕ). zero)).0.parts
