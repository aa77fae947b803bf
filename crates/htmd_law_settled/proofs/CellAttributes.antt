-- What a page's document says of the columns, rows and alignment of a cell is read as it is.
use Rattle.std.proofs.Common.{◌≡◌, ℕ, ◌≤◌, Bool, true, false, not, ◌||◌, List, [], ◌∷◌}
use Rattle.std.proofs.Common.{◌++◌, Option, Some, None, filter}
use Rattle.std.proofs.Common.{cond, codes, refl, sym, ap, ◌∙◌, subst, arith, nat_lt, nat_le}
use Rattle.std.specs.Prelude.{ℤ, pos, negsuc}
use Rattle.std.specs.Fmt.{decimal}
use Rattle.std.proofs.lemmas.Bool.{false≢true}
use Rattle.std.proofs.lemmas.Bool.Decides.{nat_tests}
use Rattle.htmd_lexical.specs.AttributePairs.{AttributePair}
use Rattle.htmd_lexical.proofs.BytesLemmas.{bytes_same}
use Rattle.htmd_lexical.proofs.Cases.{test}
use Rattle.htmd_document.specs.Documents.{BlockAttribute}
use Rattle.htmd_document.specs.declared.document.Alignment.{Alignment}
use Rattle.htmd_document.specs.declared.document.Alignment.TheVariants as align
use Rattle.htmd_document.specs.declared.document.AttributeName.{AttributeName}
use Rattle.htmd_document.specs.declared.document.AttributeName.TheVariants as attribute
use Rattle.htmd_flow.specs.TableElements.{attribute_with, attribute_if, span_attribute, align_attribute, alignment_name}
use Rattle.htmd_shown.specs.Attributes.{number, number_at, span_between, wide_span, row_span, alignment}
use Rattle.htmd_law_rendering.specs.RenderedTrees.{pairs_of_element}
use Rattle.htmd_law_returning.specs.SettledTables.{is_same_name, are_same, cell_attributes, are_of_cell, is_row_span}
use Rattle.htmd_law_returning.specs.SettledTables.{rows_are_read}
use Rattle.htmd_law_returning.proofs.PartAttributes.{same-attributes}
use Rattle.htmd_law_returning.proofs.NumberLemmas.{number-read}
use Rattle.htmd_law_settled.specs.NeatLeaves.{is_neat_cell}

same-name : (a : AttributeName) → is_same_name a a ≡ true
same-name attribute.Open = refl
same-name attribute.Border = refl
same-name attribute.ColumnSpan = refl
same-name attribute.RowSpan = refl
same-name attribute.Align = refl

pub same-self : (xs : List BlockAttribute) → are_same xs xs ≡ true
same-self [] = refl
same-self (a ∷ xs) = rw (same-name a.name, bytes_same a.value) (same-self xs)

-- ---- what is said

abbrev said : Bool → Bool → List ℕ → List ℕ → Option (List ℕ) → List BlockAttribute
said b d s t o =
    (cond b (attribute_with attribute.ColumnSpan s) [] ++ cond d (attribute_with attribute.RowSpan t) [])
    ++ attribute_if attribute.Align o

columns-said : (b d : Bool) (s t : List ℕ) (o : Option (List ℕ))
    → number_at (codes "colspan") (pairs_of_element (said b d s t o)) ≡ cond b (number s) None
columns-said true true s t None = refl
columns-said true true s t (Some u) = refl
columns-said true false s t None = refl
columns-said true false s t (Some u) = refl
columns-said false true s t None = refl
columns-said false true s t (Some u) = refl
columns-said false false s t None = refl
columns-said false false s t (Some u) = refl

pub alignment-said : (b d : Bool) (s t : List ℕ) (a : Alignment)
    → alignment (pairs_of_element (said b d s t (alignment_name a))) ≡ a
alignment-said true true s t align.None = refl
alignment-said true true s t align.Left = refl
alignment-said true true s t align.Center = refl
alignment-said true true s t align.Right = refl
alignment-said true false s t align.None = refl
alignment-said true false s t align.Left = refl
alignment-said true false s t align.Center = refl
alignment-said true false s t align.Right = refl
alignment-said false true s t align.None = refl
alignment-said false true s t align.Left = refl
alignment-said false true s t align.Center = refl
alignment-said false true s t align.Right = refl
alignment-said false false s t align.None = refl
alignment-said false false s t align.Left = refl
alignment-said false false s t align.Center = refl
alignment-said false false s t align.Right = refl

-- what a cell says that takes so many columns and rows
abbrev pub attributes_said : ℕ → ℕ → Alignment → List BlockAttribute
attributes_said columns rows a =
    said (nat_lt 1 columns) (nat_lt 1 rows) (decimal columns) (decimal rows) (alignment_name a)

-- ---- and read

-- a cell takes some columns, and so many at most
pub record IsWide (columns : ℕ) : Type 0 where
  pub some : 1 ≤ columns
  pub most : columns ≤ 1000

pub is-wide : (pairs : List AttributePair) → IsWide (wide_span pairs)
is-wide pairs = either (number_at (codes "colspan") pairs)
  where
    either : (o : Option ℤ) → IsWide (span_between 1 1000 o)
    either None = record { some = omega arith; most = omega arith }
    either (Some (pos n)) = record { some = grind arith; most = grind arith }
    either (Some (negsuc n)) = record { some = omega arith; most = omega arith }

abbrev is_some_attribute : List BlockAttribute → Bool
is_some_attribute [] = false
is_some_attribute (x ∷ xs) = true

-- ---- rows

rows-said : (b d : Bool) (s t : List ℕ) (o : Option (List ℕ))
    → number_at (codes "rowspan") (pairs_of_element (said b d s t o)) ≡ cond d (number t) None
rows-said true true s t None = refl
rows-said true true s t (Some u) = refl
rows-said true false s t None = refl
rows-said true false s t (Some u) = refl
rows-said false true s t None = refl
rows-said false true s t (Some u) = refl
rows-said false false s t None = refl
rows-said false false s t (Some u) = refl

abbrev of_rows : List BlockAttribute → List BlockAttribute
of_rows attributes = filter (λ (a : BlockAttribute). is_row_span a.name) attributes

rows-among : (b d : Bool) (s t : List ℕ) (o : Option (List ℕ))
    → of_rows (said b d s t o) ≡ cond d (attribute_with attribute.RowSpan t) []
rows-among true true s t None = refl
rows-among true true s t (Some u) = refl
rows-among true false s t None = refl
rows-among true false s t (Some u) = refl
rows-among false true s t None = refl
rows-among false true s t (Some u) = refl
rows-among false false s t None = refl
rows-among false false s t (Some u) = refl

-- how many rows are read of what it says
abbrev pub rows_read : ℕ → ℕ → Alignment → ℕ
rows_read columns rows a = row_span (pairs_of_element (attributes_said columns rows a))

module _ (columns rows : ℕ) (a : Alignment) where
  abbrev s : List ℕ
  s = decimal columns

  abbrev t : List ℕ
  t = decimal rows

  abbrev o : Option (List ℕ)
  o = alignment_name a

  read-is : rows_read columns rows a ≡ span_between 0 65534 (cond (nat_lt 1 rows) (number t) None)
  read-is = ap (span_between 0 65534) (rows-said (nat_lt 1 columns) (nat_lt 1 rows) s t o)

  pub one-read : nat_lt 1 rows ≡ false → rows_read columns rows a ≡ 1
  one-read e = read-is ∙ ap (λ b. span_between 0 65534 (cond b (number t) None)) e

  same-read : nat_lt 1 rows ≡ true → rows ≤ 65534 → rows_read columns rows a ≡ rows
  same-read e h =
      read-is
      ∙ (ap (λ b. span_between 0 65534 (cond b (number t) None)) e
      ∙ (ap (span_between 0 65534) (number-read rows (omega (arith, h)) (omega (arith, h))) ∙ grind (arith, h)))

  most-read : rows_read columns rows a ≤ 65534
  most-read =
      subst (λ k. k ≤ 65534) (sym read-is) (either (cond (nat_lt 1 rows) (number t) None))
    where
      either : (n : Option ℤ) → span_between 0 65534 n ≤ 65534
      either None = omega arith
      either (Some (pos n)) = grind arith
      either (Some (negsuc n)) = omega arith

  -- no more than it takes
  pub read-low : nat_lt 0 rows ≡ true → rows_read columns rows a ≤ rows
  read-low some =
      test (nat_lt 1 rows)
      (λ e. test (nat_le rows 65534)
      (λ l. subst (λ k. k ≤ rows) (sym (same-read e (grind (arith, nat_tests, l)))) (omega arith))
      (λ l. let most = most-read in grind (arith, nat_tests, l, most)))
      (λ e. subst (λ k. k ≤ rows) (sym (one-read e)) (grind (arith, nat_tests, some)))

  -- the same attribute again
  rows-same : rows_are_read (attributes_said columns rows a) ≡ true
      → span_attribute attribute.RowSpan (rows_read columns rows a)
      ≡ cond (nat_lt 1 rows) (attribute_with attribute.RowSpan t) []
  rows-same h =
      same-attributes (span_attribute attribute.RowSpan (rows_read columns rows a))
      (of_rows (attributes_said columns rows a)) h
      ∙ rows-among (nat_lt 1 columns) (nat_lt 1 rows) s t o

  -- more than one if it takes more
  pub read-more : rows_are_read (attributes_said columns rows a) ≡ true
      → nat_lt 1 (rows_read columns rows a) ≡ nat_lt 1 rows
  read-more h =
      test (nat_lt 1 rows)
      (λ e. filled (nat_lt 1 (rows_read columns rows a)) (decimal (rows_read columns rows a))
      (rows-same h ∙ ap (λ b. cond b (attribute_with attribute.RowSpan t) []) e) ∙ sym e)
      (λ e. ap (nat_lt 1) (one-read e) ∙ sym e)
    where
      filled : (b : Bool) (u : List ℕ)
          → cond b (attribute_with attribute.RowSpan u) [] ≡ attribute_with attribute.RowSpan t → b ≡ true
      filled true u e = refl
      filled false u e = absurd (false≢true (ap is_some_attribute e))

  -- each number up to 65,534 is read
  pub few-read : rows ≤ 65534 → rows_are_read (attributes_said columns rows a) ≡ true
  few-read h =
      ap (are_same (span_attribute attribute.RowSpan (rows_read columns rows a)))
      (rows-among (nat_lt 1 columns) (nat_lt 1 rows) s t o)
      ∙ (ap (λ xs. are_same xs (span_attribute attribute.RowSpan rows)) again
      ∙ same-self (span_attribute attribute.RowSpan rows))
    where
      again : span_attribute attribute.RowSpan (rows_read columns rows a) ≡ span_attribute attribute.RowSpan rows
      again =
          test (nat_lt 1 rows) (λ e. ap (span_attribute attribute.RowSpan) (same-read e h))
          (λ e. ap (span_attribute attribute.RowSpan) (one-read e)
          ∙ sym (ap (λ b. cond b (attribute_with attribute.RowSpan t) []) e))

module _ (columns rows : ℕ) (a : Alignment) (wide : IsWide columns) where
  pub columns-read : (d : Bool)
      → wide_span (pairs_of_element (said (nat_lt 1 columns) d (decimal columns) (decimal rows) (alignment_name a)))
      ≡ columns
  columns-read d =
      ap (span_between 1 1000) (columns-said (nat_lt 1 columns) d (decimal columns) (decimal rows) (alignment_name a))
      ∙ by (nat_lt 1 columns) refl
    where
      by : (b : Bool) → nat_lt 1 columns ≡ b
          → span_between 1 1000 (cond b (number (decimal columns)) None) ≡ columns
      by true e =
          let most = wide.most in
          let some = wide.some in
          ap (span_between 1 1000) (number-read columns (omega (arith, most)) (omega (arith, most)))
          ∙ grind (arith, some, most)
      by false e = let some = wide.some in grind (arith, nat_tests, some, e)

  -- all is as it is read, if its rows are
  all-read : rows_are_read (attributes_said columns rows a) ≡ true
      → are_of_cell (attributes_said columns rows a) ≡ true
  all-read h =
      let d : Bool = nat_lt 1 rows in
      let xs : List BlockAttribute = attributes_said columns rows a in
      let ps : List AttributePair = pairs_of_element xs in
      let is : cell_attributes ps ≡ xs =
      ap (λ k. (span_attribute attribute.ColumnSpan k ++ span_attribute attribute.RowSpan (row_span ps))
      ++ align_attribute (alignment ps)) (columns-read d)
      ∙ (ap (λ ys. (span_attribute attribute.ColumnSpan columns ++ ys) ++ align_attribute (alignment ps))
      (rows-same columns rows a h)
      ∙ ap (λ y. (span_attribute attribute.ColumnSpan columns ++ cond d (attribute_with attribute.RowSpan t) [])
      ++ align_attribute y) (alignment-said (nat_lt 1 columns) d (decimal columns) t a)) in
      ap (λ ys. are_same ys xs) is ∙ same-self xs
    where
      t : List ℕ
      t = decimal rows

  pub cell-neat : is_neat_cell ((span_attribute attribute.ColumnSpan columns
      ++ span_attribute attribute.RowSpan rows) ++ align_attribute a) ≡ true
  cell-neat =
      let xs : List BlockAttribute = attributes_said columns rows a in
      test (rows_are_read xs)
      (λ e. ap (λ b. not b || are_of_cell xs) e ∙ all-read e)
      (λ e. ap (λ b. not b || are_of_cell xs) e)
