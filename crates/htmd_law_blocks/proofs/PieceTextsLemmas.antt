-- The text of pieces is that of their lines.
use Rattle.std.proofs.Common.{◌≡◌, ◌∙◌, refl, sym, ap, subst, ℕ, zero, suc, Bool, true, false, not, List, [], ◌∷◌, ◌+◌}
use Rattle.std.proofs.Common.{◌++◌, length, arith}
use Rattle.std.proofs.lemmas.List.{append-nil}
use Rattle.htmd_commonmark.specs.Pages as pages
use Rattle.htmd_commonmark.specs.BlockMarkdown.{separator}
use Rattle.htmd_commonmark_reading.specs.Lines.{spaces}
use Rattle.htmd_commonmark_reading.specs.Boxes.{joined_lines}
use Rattle.htmd_law_blocks.specs.LineTexts.{IsBlack}
use Rattle.htmd_law_blocks.proofs.ChainsLemmas.{First, Last, gap_line}
use Rattle.htmd_law_blocks.proofs.PiecesLemmas.{Marker, Piece, flat, quote, item, Pieces, no_pieces, piece, each}
use Rattle.htmd_law_blocks.proofs.PiecesLemmas.{quoted, indented, columns, item_lines, piece_lines, pieces_lines}
use Rattle.htmd_law_blocks.proofs.PiecesLemmas.{further_lines, IsGood, IsFilled, AreGood, is_boxed, filled_first}
use Rattle.htmd_law_blocks.proofs.PiecesLemmas.{black_marker}
use Rattle.htmd_law_blocks.proofs.TextsLemmas.{IsClean, AreClean, IsSome, IsFull, clean_append, are_clean_append}
use Rattle.htmd_law_blocks.proofs.TextsLemmas.{clean_spaces, full_cons, full_append, joined_append, quoted_text}
use Rattle.htmd_law_blocks.proofs.TextsLemmas.{item_text, empty_text}

abbrev mutual
  pub piece_text : Piece → List ℕ
  piece_text (flat ls p more) = joined_lines ls
  piece_text (quote c) = pages.quoted (pieces_text c)
  piece_text (item m n c) = pages.indented m.text (suc n) (pieces_text c)

  pub pieces_text : Pieces → List ℕ
  pieces_text no_pieces = []
  pieces_text (piece g p ps) = piece_text p ++ further_text ps

  pub further_text : Pieces → List ℕ
  further_text no_pieces = []
  further_text (piece g p ps) = separator (not g) ++ (piece_text p ++ further_text ps)

-- the lines of flat blocks and the markers are clean
abbrev mutual
  pub CleanPiece : Piece → Type 0
  CleanPiece (flat ls p more) = AreClean ls × IsFull ls
  CleanPiece (quote c) = CleanPieces c
  CleanPiece (item m n c) = IsClean m.text × CleanPieces c

  pub CleanPieces : Pieces → Type 0
  CleanPieces no_pieces = Unit {0}
  CleanPieces (piece g p ps) = CleanPiece p × CleanPieces ps

abbrev IsSomePieces : Pieces → Type 0
IsSomePieces no_pieces = ⊥
IsSomePieces (piece g p ps) = Unit {0}

-- ---- lines

quoted_clean : (ls : List (List ℕ)) → AreClean ls → AreClean (each quoted ls)
quoted_clean [] h = tt
quoted_clean ([] ∷ ls) h = ((refl, refl, refl, tt), quoted_clean ls h.1)
quoted_clean ((c ∷ s) ∷ ls) h =
    ((refl, refl, refl, (refl, refl, refl, h.0)), quoted_clean ls h.1)

quoted_some : (l : List ℕ) → IsSome (quoted l)
quoted_some [] = tt
quoted_some (c ∷ s) = tt

quoted_full : (l : List ℕ) (ls : List (List ℕ)) → IsFull (each quoted (l ∷ ls))
quoted_full l [] = quoted_some l
quoted_full l (m ∷ ls) = quoted_full m ls

indented_clean : (n : ℕ) (ls : List (List ℕ)) → AreClean ls → AreClean (each (indented n) ls)
indented_clean n [] h = tt
indented_clean n ([] ∷ ls) h = (tt, indented_clean n ls h.1)
indented_clean n ((c ∷ s) ∷ ls) h = (clean_spaces n (c ∷ s) h.0, indented_clean n ls h.1)

spaces_some : (n c : ℕ) (s : List ℕ) → IsSome (spaces n (c ∷ s))
spaces_some zero c s = tt
spaces_some (suc n) c s = tt

indented_full : (n : ℕ) (l : List ℕ) (ls : List (List ℕ)) → IsFull (l ∷ ls) → IsFull
    (each (indented n) (l ∷ ls))
indented_full n [] [] h = absurd h
indented_full n (c ∷ s) [] h = spaces_some n c s
indented_full n l (m ∷ ls) h = indented_full n m ls h

some_black : (l : List ℕ) → IsBlack l → IsSome l
some_black [] h = absurd h
some_black (c ∷ s) h = tt

abbrev IsText : List (List ℕ) → Type 0
IsText ls = AreClean ls × IsFull ls

item_is_text : (m : Marker) (n : ℕ) (ls : List (List ℕ)) → IsClean m.text →
    ((t : List ℕ) → IsBlack (m.text ++ t))
    → IsBlack m.text → IsText ls → IsText (item_lines m n ls)
item_is_text m n [] a b d h = ((a, tt), some_black m.text d)
item_is_text m n (l ∷ []) a b d h = (
  (clean_append m.text (spaces (suc n) l) a (clean_spaces (suc n) l h.0.0), tt),
  some_black
      (m.text ++ spaces (suc n) l) (b (spaces (suc n) l)),
)
item_is_text m n (l ∷ k ∷ ls) a b d h = (
  (
    clean_append m.text (spaces (suc n) l) a (clean_spaces (suc n) l h.0.0),
    indented_clean (columns m n) (k ∷ ls)
        h.0.1,
  ),
  indented_full (columns m n) k ls h.1,
)

gap_text : (g : Bool) (ls : List (List ℕ)) → IsText ls → IsText (gap_line g ls)
gap_text true ls h = ((tt, h.0), full_cons [] ls h.1)
gap_text false ls h = h

quote_is_text : (ls : List (List ℕ)) → IsText ls → IsText (each quoted ls)
quote_is_text [] h = absurd h.1
quote_is_text (l ∷ ls) h = (quoted_clean (l ∷ ls) h.0, quoted_full l ls)

both_text : (ls ms : List (List ℕ)) → IsText ls → IsText ms → IsText (ls ++ ms)
both_text ls ms a b = (are_clean_append ls ms a.0 b.0, full_append ls ms b.1)

mutual
  piece_is_text : (p : Piece) → IsGood p → CleanPiece p → IsText (piece_lines p)
  piece_is_text (flat ls p more) g c = c
  piece_is_text (quote q) g c = quote_is_text (pieces_lines q) (filled_is_text q g c)
  piece_is_text (item m n no_pieces) g c = ((c.0, tt), some_black m.text (black_marker m g.0))
  piece_is_text (item m n (piece f p ps)) g c =
      item_is_text m n (pieces_lines (piece f p ps)) c.0 g.0.black (black_marker m g.0)
      (filled_is_text (piece f p ps) (g.2.0, g.2.1, g.2.2) c.1)

  pub filled_is_text : (ps : Pieces) → IsFilled ps → CleanPieces ps → IsText (pieces_lines ps)
  filled_is_text no_pieces g c = absurd g
  filled_is_text (piece f p no_pieces) g c =
      subst IsText (sym (append-nil (piece_lines p))) (piece_is_text p g.1 c.0)
  filled_is_text (piece f p (piece h q ps)) g c =
      both_text (piece_lines p) (further_lines (piece h q ps)) (piece_is_text p g.1 c.0)
      (further_is_text (piece h q ps) (is_boxed p) g.2 c.1 tt)

  further_is_text : (ps : Pieces) (m : Last) → AreGood m ps → CleanPieces ps → IsSomePieces ps → IsText
      (further_lines ps)
  further_is_text no_pieces m g c s = absurd s
  further_is_text (piece h p no_pieces) m g c s =
      gap_text h (piece_lines p ++ [])
      (subst IsText (sym (append-nil (piece_lines p))) (piece_is_text p g.1 c.0))
  further_is_text (piece h p (piece i q ps)) m g c s =
      gap_text h (piece_lines p ++ further_lines (piece i q ps))
      (both_text (piece_lines p) (further_lines (piece i q ps)) (piece_is_text p g.1 c.0)
      (further_is_text (piece i q ps) (is_boxed p) g.2 c.1 tt))

-- ---- text

-- a text before further lines
joined_gap : (ls ms : List (List ℕ)) (h : Bool) (s t : List ℕ) → IsFull ls → IsFull ms → s ≡ joined_lines ls
    → t ≡ joined_lines ms → s ++ (separator (not h) ++ t) ≡ joined_lines (ls ++ gap_line h ms)
joined_gap [] ms h s t a b e f = absurd a
joined_gap (l ∷ ls) [] h s t a b e f = absurd b
joined_gap (l ∷ ls) (m ∷ ms) true s t a b e f =
    ap (λ (x : List ℕ). x ++ (10 ∷ 10 ∷ t)) e
    ∙ ap (λ (x : List ℕ). joined_lines (l ∷ ls) ++ (10 ∷ 10 ∷ x)) f
    ∙ sym (joined_append l ls [] (m ∷ ms))
joined_gap (l ∷ ls) (m ∷ ms) false s t a b e f =
    ap (λ (x : List ℕ). x ++ (10 ∷ t)) e ∙ ap (λ (x : List ℕ). joined_lines (l ∷ ls) ++ (10 ∷ x)) f
    ∙ sym (joined_append l ls m ms)

quote_joined : (ls : List (List ℕ)) (s : List ℕ) → IsText ls → s ≡ joined_lines ls
    → pages.quoted s ≡ joined_lines (each quoted ls)
quote_joined [] s h e = absurd h.1
quote_joined (l ∷ ls) s h e = ap pages.quoted e ∙ quoted_text l ls h.0

marker_columns : (m : Marker) (n : ℕ) → length m.text + suc n ≡ columns m n
marker_columns m n = omega arith

item_joined : (m : Marker) (n : ℕ) (ls : List (List ℕ)) (s : List ℕ) → First IsBlack ls → AreClean ls
    → s ≡ joined_lines ls → pages.indented m.text (suc n) s ≡ joined_lines (item_lines m n ls)
item_joined m n [] s b h e = absurd b
item_joined m n ([] ∷ ls) s b h e = absurd b
item_joined m n ((c ∷ t) ∷ ls) s b h e =
    ap (pages.indented m.text (suc n)) e
    ∙ item_text m.text (suc n) (columns m n) c t ls h (marker_columns m n)

first_full : (p : Piece) (ps : Pieces) (m : Last) → IsText (piece_lines p) → AreGood m ps → CleanPieces ps
    → IsFull (piece_lines p ++ further_lines ps)
first_full p no_pieces m t a d = subst IsFull (sym (append-nil (piece_lines p))) t.1
first_full p (piece h q ps) m t a d =
    (both_text (piece_lines p) (further_lines (piece h q ps)) t (further_is_text (piece h q ps) m a d tt)).1

mutual
  piece_joined : (p : Piece) → IsGood p → CleanPiece p → piece_text p ≡ joined_lines (piece_lines p)
  piece_joined (flat ls p more) g c = refl
  piece_joined (quote q) g c =
      quote_joined (pieces_lines q) (pieces_text q) (filled_is_text q g c) (filled_joined q g c)
  piece_joined (item m n no_pieces) g c = empty_text m.text (suc n) ∙ sym (append-nil m.text)
  piece_joined (item m n (piece f p ps)) g c =
      let good : IsFilled (piece f p ps) = (g.2.0, g.2.1, g.2.2) in
      item_joined m n (pieces_lines (piece f p ps)) (pieces_text (piece f p ps)) (filled_first (piece f p ps) good)
      (filled_is_text (piece f p ps) good c.1).0 (filled_joined (piece f p ps) (g.2.0, g.2.1, g.2.2) c.1)

  pub filled_joined : (ps : Pieces) → IsFilled ps → CleanPieces ps → pieces_text ps ≡ joined_lines
      (pieces_lines ps)
  filled_joined no_pieces g c = absurd g
  filled_joined (piece f p ps) g c =
      first_joined ps p (is_boxed p) (piece_joined p g.1 c.0) (piece_is_text p g.1 c.0) g.2 c.1

  -- a piece and what follows it
  first_joined : (ps : Pieces) (p : Piece) (m : Last) → piece_text p ≡ joined_lines (piece_lines p)
      → IsText (piece_lines p) → AreGood m ps → CleanPieces ps
      → piece_text p ++ further_text ps ≡ joined_lines (piece_lines p ++ further_lines ps)
  first_joined no_pieces p m e t a d =
      append-nil (piece_text p) ∙ e ∙ ap joined_lines (sym (append-nil (piece_lines p)))
  first_joined (piece h q ps) p m e t a d =
      let r = piece_is_text q a.1 d.0 in
      joined_gap (piece_lines p) (piece_lines q ++ further_lines ps) h (piece_text p) (piece_text q ++ further_text ps)
      t.1 (first_full q ps (is_boxed q) r a.2 d.1) e
      (first_joined ps q (is_boxed q) (piece_joined q a.1 d.0) r a.2 d.1)
