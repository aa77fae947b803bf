-- Open leaves, line by line.
use Rattle.std.proofs.Common.{◌≡◌, ◌∙◌, ℕ, Bool, true, false, not, List, [], ◌∷◌, ◌++◌, refl, ap, sym, append_assoc}
use Rattle.std.proofs.Common.{append-nil, subst, string_bytes, map, length, ap₂}
use Rattle.htmd_document.specs.declared.document.Alignment.{Alignment}
use Rattle.htmd_commonmark_reading.specs.Tables.{cells, cell_texts, without_blank_last, split_at_bars, fitted}
use Rattle.htmd_commonmark_reading.specs.Tables.{without_first_bar}
use Rattle.htmd_commonmark_reading.specs.Lines.{is_blank_text, spaces}
use Rattle.htmd_commonmark_reading.specs.Boxes.{joined_lines, without_last_blanks, unless_empty, ends_blank}
use Rattle.htmd_commonmark_reading.specs.Boxes.{fitted_rows}
use Rattle.htmd_commonmark_reader.specs.LeafTexts.{line_break}
use Rattle.htmd_commonmark_reader.specs.OpenLeaves.{are_none, IsRows, IsIndented, IsGrid}
use Rattle.htmd_commonmark_reader.specs.Rows.{strings}
use Rattle.htmd_commonmark_reader.specs.declared.leaf_rows.Rows.{Rows}
use Rattle.htmd_commonmark_reader.specs.declared.leaves.IndentedCode.{IndentedCode}
use Rattle.htmd_commonmark_reader.specs.declared.leaves.Table.{Table}
use Rattle.htmd_commonmark_reader.proofs.StartsLemmas.{spaces_stripped}

joined_append : (l : List ℕ) (ls : List (List ℕ)) (s : List ℕ) (more : List (List ℕ))
    → joined_lines (l ∷ ls) ++ (10 ∷ joined_lines (s ∷ more)) ≡ joined_lines ((l ∷ ls) ++ (s ∷ more))
joined_append l [] s more = ap (λ t. t ++ (10 ∷ joined_lines (s ∷ more))) (append-nil l)
joined_append l (m ∷ ls) s more =
    append_assoc l (10 ∷ joined_lines (m ∷ ls)) (10 ∷ joined_lines (s ∷ more))
    ∙ ap (λ (t : List ℕ). l ++ (10 ∷ t)) (joined_append m ls s more)

some_more : (ls : List (List ℕ)) (s : List ℕ) (more : List (List ℕ)) → false ≡ are_none (ls ++ (s ∷ more))
some_more [] s more = refl
some_more (l ∷ ls) s more = refl

rows_text : (ls : List (List ℕ)) (s : List ℕ) (more : List (List ℕ)) (b : Bool) (before after : List ℕ)
    → before ≡ joined_lines ls → b ≡ are_none ls
    → after ≡ before ++ (line_break b ++ joined_lines (s ∷ more))
    → after ≡ joined_lines (ls ++ (s ∷ more))
rows_text [] s more b before after e f g =
    g ∙ ap (λ t. t ++ (line_break b ++ joined_lines (s ∷ more))) e
    ∙ ap (λ c. line_break c ++ joined_lines (s ∷ more)) f
rows_text (l ∷ ls) s more b before after e f g =
    g ∙ ap (λ t. t ++ (line_break b ++ joined_lines (s ∷ more))) e
    ∙ ap (λ c. joined_lines (l ∷ ls) ++ (line_break c ++ joined_lines (s ∷ more))) f
    ∙ joined_append l ls s more

-- a text of lines behind others
pub rows_pushed : (ls : List (List ℕ)) (s : List ℕ) (more : List (List ℕ)) (old new : Rows)
    (before after : List ℕ)
    → IsRows ls old → before ≡ joined_lines ls
    → after ≡ before ++ (line_break old.is_empty ++ joined_lines (s ∷ more))
    → string_bytes new.text ≡ after → new.is_empty ≡ false → IsRows (ls ++ (s ∷ more)) new
rows_pushed ls s more old new before after h e f g k = record {
  text = g ∙ rows_text ls s more old.is_empty before after e h.none f;
  none = k ∙ some_more ls s more;
}

-- ---- indented code

pub blank_more : (ls : List (List ℕ)) (l : List ℕ) → is_blank_text l ≡ true
    → without_last_blanks (ls ++ (l ∷ [])) ≡ without_last_blanks ls
blank_more [] l e = rw e refl
blank_more (m ∷ ls) l e = ap (λ t. unless_empty t m) (blank_more ls l e)

keeps : (ls : List (List ℕ)) (l m : List ℕ) → unless_empty (ls ++ (l ∷ [])) m ≡ m ∷ (ls ++ (l ∷ []))
keeps [] l m = refl
keeps (n ∷ ls) l m = refl

pub filled_more : (ls : List (List ℕ)) (l : List ℕ) → is_blank_text l ≡ false
    → without_last_blanks (ls ++ (l ∷ [])) ≡ ls ++ (l ∷ [])
filled_more [] l e = rw e refl
filled_more (m ∷ ls) l e = ap (λ t. unless_empty t m) (filled_more ls l e) ∙ keeps ls l m

pub ends_more : (ls : List (List ℕ)) (l : List ℕ) → ends_blank (ls ++ (l ∷ [])) ≡ is_blank_text l
ends_more [] l = refl
ends_more (m ∷ []) l = refl
ends_more (m ∷ n ∷ ls) l = ends_more (n ∷ ls) l

pub indented_blank : (ls : List (List ℕ)) (l : List ℕ) (old new : IndentedCode) → IsIndented ls old
    → is_blank_text l ≡ true → new.rows ≡ old.rows
    → ((ms : List (List ℕ)) → IsRows ms old.blanks → IsRows (ms ++ (l ∷ [])) new.blanks)
    → IsIndented (ls ++ (l ∷ [])) new
indented_blank ls l old new h e f g = record {
  front = h.front;
  back = h.back ++ (l ∷ []);
  is = ap (λ t. t ++ (l ∷ [])) h.is ∙ append_assoc h.front h.back (l ∷ []);
  rows = subst (IsRows h.front) (sym f) h.rows;
  blanks = g h.back h.blanks;
  whole = blank_more ls l e ∙ h.whole;
  ends = ends_more ls l ∙ e ∙ ap not (some_more h.back l []);
}

pub indented_filled : (ls : List (List ℕ)) (l : List ℕ) (old new : IndentedCode) → IsIndented ls old
    → is_blank_text l ≡ false
    → ((ms more : List (List ℕ)) → IsRows ms old.rows → IsRows more old.blanks
    → IsRows ((ms ++ more) ++ (l ∷ [])) new.rows)
    → ((more : List (List ℕ)) → IsRows more old.blanks → IsRows [] new.blanks)
    → IsIndented (ls ++ (l ∷ [])) new
indented_filled ls l old new h e f g =
    let is : ls ++ (l ∷ []) ≡ (h.front ++ h.back) ++ (l ∷ []) = ap (λ t. t ++ (l ∷ [])) h.is in
    record {
      front = (h.front ++ h.back) ++ (l ∷ []);
      back = [];
      is = is ∙ sym (append-nil ((h.front ++ h.back) ++ (l ∷ [])));
      rows = f h.front h.back h.rows h.blanks;
      blanks = g h.back h.blanks;
      whole = filled_more ls l e ∙ is;
      ends = ends_more ls l ∙ e;
    }

-- ---- tables

pub cells_spaces : (n : ℕ) (s : List ℕ) → cells (spaces n s) ≡ cells s
cells_spaces n s =
    ap (λ t. cell_texts (without_blank_last (split_at_bars 0 (without_first_bar t)))) (spaces_stripped n s)

fitted_more : (count : ℕ) (ls : List (List ℕ)) (l : List ℕ)
    → fitted_rows count (ls ++ (l ∷ [])) ≡ fitted_rows count ls ++ (fitted count (cells l) ∷ [])
fitted_more count [] l = refl
fitted_more count (m ∷ ls) l = ap (λ t. fitted count (cells m) ∷ t) (fitted_more count ls l)

pub grid_more : (alignments : List Alignment) (header ls : List (List ℕ)) (n : ℕ) (text : List ℕ)
    (old new : Table)
    (row : List (List ℕ)) → IsGrid alignments header ls old → new.alignments ≡ old.alignments
    → new.header ≡ old.header
    → map (λ r. strings r.items) new.rows.items ≡ map (λ r. strings r.items) old.rows.items ++ (row ∷ [])
    → row ≡ fitted (length old.alignments.items) (cells text)
    → IsGrid alignments header (ls ++ (spaces n text ∷ [])) new
grid_more alignments header ls n text old new row h a b e f = record {
  alignments_are = ap (λ v. v.items) a ∙ h.alignments_are;
  header_is = ap (λ v. strings v.items) b ∙ h.header_is;
  rows = e ∙ ap₂ (λ t r. t ++ (r ∷ [])) h.rows
      (f ∙ ap₂ (λ al c. fitted (length al) c) h.alignments_are (sym (cells_spaces n text)))
      ∙ sym (fitted_more (length alignments) ls (spaces n text));
}
