-- The parts of a table, cell after cell and row after row, and what follows them.
use Rattle.std.proofs.Common.{◌≡◌, ℕ, ◌+◌, ◌<◌, ◌≤◌, List, [], ◌∷◌, ◌++◌, drop, length, map, get_or, refl, sym, ap, ◌∙◌}
use Rattle.std.proofs.Common.{append_assoc, string_bytes, drop-drop, false, true≢false}
use Rattle.std.specs.Prelude.{String, Vec, ◌==◌}
use Rattle.std.specs.Global.{Global}
use Rattle.std.proofs.lemmas.List.{append-nil, drop_more, drop_all}
use Rattle.htmd_document.specs.declared.document.Alignment.{Alignment}
use Rattle.htmd_commonmark_reading.specs.Brackets.{References, inlines}
use Rattle.htmd_commonmark_reading.specs.Lists.{cell_inlines, row_inlines}
use Rattle.htmd_commonmark_reading.specs.Markup.{Inlines}
use Rattle.htmd_commonmark_reading.specs.Rendering.{first_alignment}
use Rattle.htmd_commonmark_reader.specs.Rows.{strings}
use Rattle.htmd_commonmark_reader.proofs.EmphasisLemmas.{parts_before}
use Rattle.htmd_parts.specs.Parts as part
use Rattle.htmd_parts.specs.Parts.{Tag, TagEnd, Part, begun, ended, inlines_parts, cells_parts, row_parts, rows_parts}
use Rattle.htmd_parts.specs.Parts.{body_parts, table_parts}

-- ---- more behind

pub inlines-more : (x : Inlines) (out rest : List Part)
    → inlines_parts x (out ++ rest) ≡ inlines_parts x out ++ rest
inlines-more x out rest =
    parts_before x (out ++ rest) ∙ sym (append_assoc (inlines_parts x []) out rest)
    ∙ ap (λ l. l ++ rest) (sym (parts_before x out))

cells-more : (begin : Alignment → Tag) (end : TagEnd) (al : List Alignment) (cs : List Inlines) (out rest : List Part)
    → cells_parts begin end al cs (out ++ rest) ≡ cells_parts begin end al cs out ++ rest
cells-more begin end al [] out rest = refl
cells-more begin end al (c ∷ cs) out rest =
    ap (λ l. begun (begin (first_alignment al)) ∷ inlines_parts c (ended end ∷ l))
    (cells-more begin end (drop 1 al) cs out rest)
    ∙ ap (λ l. begun (begin (first_alignment al)) ∷ l)
    (inlines-more c (ended end ∷ cells_parts begin end (drop 1 al) cs out) rest)

pub row-more : (begin : Alignment → Tag) (end : TagEnd) (al : List Alignment) (cs : List Inlines)
    (out rest : List Part)
    → row_parts begin end al cs (out ++ rest) ≡ row_parts begin end al cs out ++ rest
row-more begin end al cs out rest =
    ap (λ l. begun part.row ∷ l) (cells-more begin end al cs (ended part.row_end ∷ out) rest)

rows-more : (al : List Alignment) (rs : List (List Inlines)) (out rest : List Part)
    → rows_parts al rs (out ++ rest) ≡ rows_parts al rs out ++ rest
rows-more al [] out rest = refl
rows-more al (r ∷ rs) out rest =
    ap (row_parts part.cell part.cell_end al r) (rows-more al rs out rest)
    ∙ row-more part.cell part.cell_end al r (rows_parts al rs out) rest

pub body-more : (al : List Alignment) (rs : List (List Inlines)) (out rest : List Part)
    → body_parts al rs (out ++ rest) ≡ body_parts al rs out ++ rest
body-more al [] out rest = refl
body-more al (r ∷ rs) out rest =
    ap (λ l. begun part.body ∷ l) (rows-more al (r ∷ rs) (ended part.body_end ∷ out) rest)

pub table-more : (al : List Alignment) (h : List Inlines) (rs : List (List Inlines)) (out rest : List Part)
    → table_parts al h rs (out ++ rest) ≡ table_parts al h rs out ++ rest
table-more al h rs out rest =
    ap (λ l. begun part.table ∷ begun part.head ∷ row_parts part.header_cell part.header_cell_end al h
    (ended part.head_end ∷ l)) (body-more al rs (ended part.table_end ∷ out) rest)
    ∙ ap (λ l. begun part.table ∷ begun part.head ∷ l) (row-more part.header_cell part.header_cell_end al h
    (ended part.head_end ∷ body_parts al rs (ended part.table_end ∷ out)) rest)

-- ---- one after the other

-- what begins, inlines and what ends, behind others and before more
pub enclosed : (out : List Part) (a : Part) (x : Inlines) (e : Part) (more : List Part)
    → (((out ++ (a ∷ [])) ++ inlines_parts x []) ++ (e ∷ [])) ++ more ≡ out
    ++ (a ∷ inlines_parts x (e ∷ more))
enclosed out a x e more =
    append_assoc ((out ++ (a ∷ [])) ++ inlines_parts x []) (e ∷ []) more
    ∙ append_assoc (out ++ (a ∷ [])) (inlines_parts x []) (e ∷ more)
    ∙ append_assoc out (a ∷ []) (inlines_parts x [] ++ (e ∷ more))
    ∙ ap (λ l. out ++ (a ∷ l)) (sym (parts_before x (e ∷ more)))

pub enclosed-last : (out : List Part) (a : Part) (x : Inlines) (e : Part)
    → ((out ++ (a ∷ [])) ++ inlines_parts x []) ++ (e ∷ []) ≡ out ++ (a ∷ inlines_parts x (e ∷ []))
enclosed-last out a x e =
    sym (append-nil (((out ++ (a ∷ [])) ++ inlines_parts x []) ++ (e ∷ []))) ∙ enclosed out a x e []

-- the same, one after the other
pub enclosing : (out p q now : List Part) (a : Part) (x : Inlines) (e : Part) → p ≡ out ++ (a ∷ [])
    → q ≡ p ++ inlines_parts x [] → now ≡ q ++ (e ∷ []) → now ≡ out ++ (a ∷ inlines_parts x (e ∷ []))
enclosing out p q now a x e begins inside ends =
    ends ∙ ap (λ l. l ++ (e ∷ [])) (inside ∙ ap (λ l. l ++ inlines_parts x []) begins)
    ∙ enclosed-last out a x e

-- the cells from one on, behind those before it
abbrev pub cells_from : References → (Alignment → Tag) → TagEnd → List Alignment → ℕ
    → List (String Global)
    → List Part → List Part → List Part
cells_from refs begin end al i cells out rest =
    out ++ cells_parts begin end (drop i al) (cell_inlines refs (strings (drop i cells))) rest

module _ (refs : References) (begin : Alignment → Tag) (end : TagEnd) (al : List Alignment)
    (cells : List (String Global)) where
  pub cells-init : (out now : List Part) → now ≡ out ++ (begun part.row ∷ [])
      → cells_from refs begin end al 0 cells now (ended part.row_end ∷ [])
      ≡ out ++ row_parts begin end al (cell_inlines refs (strings cells)) []
  cells-init out now e =
      let all = cells_parts begin end al (cell_inlines refs (strings cells)) (ended part.row_end ∷ []) in
      ap (λ l. l ++ all) e ∙ append_assoc out (begun part.row ∷ []) all

  pub cells-turn : (i : ℕ) (out p q now rest total : List Part) (cell : String Global) (a : Tag) (s : List ℕ)
      (z : TagEnd) → i < length cells → cell ≡ get_or cells i cell → a ≡ begin (first_alignment (drop i al))
      → s ≡ string_bytes cell → z ≡ end → p ≡ out ++ (begun a ∷ [])
      → q ≡ p ++ inlines_parts (inlines refs s) []
      → now ≡ q ++ (ended z ∷ []) → cells_from refs begin end al i cells out rest ≡ total
      → cells_from refs begin end al (i + 1) cells now rest ≡ total
  cells-turn i out p q now rest total cell a s z within is first text last begins inside ends h =
      let behind = drop (i + 1) cells in
      let split : drop i cells ≡ cell ∷ behind = drop_more cells i cell within
      ∙ ap (λ y. y ∷ behind) (sym is) in
      let more = cells_parts begin end (drop (i + 1) al) (cell_inlines refs (strings behind)) rest in
      let tag = begin (first_alignment (drop i al)) in
      ap (λ l. l ++ more)
      (ends ∙ ap (λ l. l ++ (ended z ∷ [])) (inside ∙ ap (λ l. l ++ inlines_parts (inlines refs s) []) begins))
      ∙ enclosed out (begun a) (inlines refs s) (ended z) more
      ∙ ap (λ t. out ++ (begun t ∷ inlines_parts (inlines refs s) (ended z ∷ more))) first
      ∙ ap (λ t. out ++ (begun tag ∷ inlines_parts (inlines refs t) (ended z ∷ more))) text
      ∙ ap (λ t. out ++ (begun tag ∷ inlines_parts (inlines refs (string_bytes cell)) (ended t ∷ more))) last
      ∙ ap (λ l. out ++ (begun tag ∷ inlines_parts (inlines refs (string_bytes cell)) (ended end
      ∷ cells_parts begin end l (cell_inlines refs (strings behind)) rest))) (sym (drop-drop 1 i al))
      ∙ ap (λ l. out ++ cells_parts begin end (drop i al) (cell_inlines refs (strings l)) rest) (sym split)
      ∙ h

-- rows as the reader holds them
abbrev pub texts_of : List (Vec (String Global) Global) → List (List (List ℕ))
texts_of rows = map (λ row. strings row.items) rows

abbrev pub rows_from : References → List Alignment → ℕ → List (Vec (String Global) Global) → List Part
    → List Part
    → List Part
rows_from refs al i rows out rest = out ++ rows_parts al (row_inlines refs (texts_of (drop i rows))) rest

module _ (refs : References) (al : List Alignment) (rows : List (Vec (String Global) Global)) (i : ℕ)
    (out : List Part) where
  pub rows-turn : (r : Vec (String Global) Global) (now rest total : List Part) → i < length rows
      → r ≡ get_or rows i r
      → now ≡ out ++ row_parts part.cell part.cell_end al (cell_inlines refs (strings r.items)) []
      → rows_from refs al i rows out rest ≡ total → rows_from refs al (i + 1) rows now rest ≡ total
  rows-turn r now rest total within is e h =
      let behind = drop (i + 1) rows in
      let split : drop i rows ≡ r ∷ behind = drop_more rows i r within ∙ ap (λ y. y ∷ behind) (sym is) in
      let more = rows_parts al (row_inlines refs (texts_of behind)) rest in
      let cs = cell_inlines refs (strings r.items) in
      ap (λ l. l ++ more) e ∙ append_assoc out (row_parts part.cell part.cell_end al cs []) more
      ∙ ap (λ l. out ++ l) (sym (row-more part.cell part.cell_end al cs [] more))
      ∙ ap (λ l. out ++ rows_parts al (row_inlines refs (texts_of l)) rest) (sym split)
      ∙ h

  pub rows-end : (rest total : List Part) → length rows ≤ i → rows_from refs al i rows out rest ≡ total
      → out ++ rest ≡ total
  rows-end rest total past h =
      ap (λ l. out ++ rows_parts al (row_inlines refs (texts_of l)) rest) (sym (drop_all i rows past)) ∙ h

  pub body-end : (now old : List Part) → (length rows == 0) ≡ false → length rows ≤ i
      → now ≡ out ++ (ended part.body_end ∷ []) → rows_from refs al i rows out (ended part.body_end ∷ [])
      ≡ old ++ (begun part.body ∷ rows_parts al (row_inlines refs (texts_of rows)) (ended part.body_end ∷ []))
      → now ≡ old ++ body_parts al (row_inlines refs (texts_of rows)) []
  body-end now old some past e h =
      e ∙ rows-end (ended part.body_end ∷ []) _ past h ∙ ap (λ l. old ++ l) (filled rows some)
    where
      filled : (rows : List (Vec (String Global) Global)) → (length rows == 0) ≡ false
          → begun part.body ∷ rows_parts al (row_inlines refs (texts_of rows)) (ended part.body_end ∷ [])
          ≡ body_parts al (row_inlines refs (texts_of rows)) []
      filled [] h = absurd (true≢false h)
      filled (r ∷ rs) h = refl

-- ---- a table

six : (out a b c d e f : List Part)
    → (((((out ++ a) ++ b) ++ c) ++ d) ++ e) ++ f ≡ out ++ (a ++ (b ++ (c ++ (d ++ (e ++ f)))))
six out a b c d e f =
    append_assoc ((((out ++ a) ++ b) ++ c) ++ d) e f ∙ append_assoc (((out ++ a) ++ b) ++ c) d (e ++ f)
    ∙ append_assoc ((out ++ a) ++ b) c (d ++ (e ++ f)) ∙ append_assoc (out ++ a) b (c ++ (d ++ (e ++ f)))
    ∙ append_assoc out a (b ++ (c ++ (d ++ (e ++ f))))

pub table-whole : (al : List Alignment) (h : List Inlines) (rs : List (List Inlines)) (out p q r s t now : List Part)
    → p ≡ out ++ (begun part.table ∷ []) → q ≡ p ++ (begun part.head ∷ [])
    → r ≡ q ++ row_parts part.header_cell part.header_cell_end al h [] → s ≡ r ++ (ended part.head_end ∷ [])
    → t ≡ s ++ body_parts al rs [] → now ≡ t ++ (ended part.table_end ∷ [])
    → now ≡ out ++ table_parts al h rs []
table-whole al h rs out p q r s t now e f g i j k =
    let header = row_parts part.header_cell part.header_cell_end al h [] in
    let body = body_parts al rs [] in
    k ∙ ap (λ l. l ++ (ended part.table_end ∷ [])) (j ∙ ap (λ l. l ++ body)
    (i ∙ ap (λ l. l ++ (ended part.head_end ∷ [])) (g ∙ ap (λ l. l ++ header)
    (f ∙ ap (λ l. l ++ (begun part.head ∷ [])) e))))
    ∙ six out (begun part.table ∷ []) (begun part.head ∷ []) header (ended part.head_end ∷ []) body
    (ended part.table_end ∷ [])
    ∙ ap (λ l. out ++ (begun part.table ∷ begun part.head ∷ (header ++ (ended part.head_end ∷ l))))
    (sym (body-more al rs [] (ended part.table_end ∷ [])))
    ∙ ap (λ l. out ++ (begun part.table ∷ begun part.head ∷ l))
    (sym (row-more part.header_cell part.header_cell_end al h []
    (ended part.head_end ∷ body_parts al rs (ended part.table_end ∷ []))))
