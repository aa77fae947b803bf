-- What leaves are cut into is normal.
use Rattle.std.proofs.Common.{◌≡◌, ℕ, Bool, true, false, List, [], ◌∷◌, ◌++◌, length, map, refl, sym, ap, ◌∙◌}
use Rattle.std.proofs.Common.{subst, arith}
use Rattle.std.specs.Prelude.{◌&&◌, ◌==◌, Option}
use Rattle.std.specs.List.{list_all}
use Rattle.std.proofs.lemmas.Bool.{and_from}
use Rattle.std.proofs.lemmas.List.Folds.{list_all-append}
use Rattle.htmd_lexical.specs.Characters.{line_feed}
use Rattle.htmd_document.specs.declared.document.Alignment.{Alignment}
use Rattle.htmd_document.specs.Documents.{Inline, Inlines, inlines_of, paragraph, code_block, table}
use Rattle.htmd_document.specs.NormalDocuments.{is_normal_block, is_normal_paragraph, has_language, is_code_byte}
use Rattle.htmd_document.specs.NormalDocuments.{has_cell, are_normal_cells, is_normal_row}
use Rattle.htmd_chunks.specs.Cuts.{block_part, leaf_parts, cut}
use Rattle.htmd_chunks.specs.Rows.{table_parts}
use Rattle.htmd_chunks.specs.CodeLines.{code_parts}
use Rattle.htmd_chunks.specs.Runs.{runs, together}
use Rattle.htmd_chunks.specs.Words.{further_words, units_cost, words_of, word_units, paragraph_parts}
use Rattle.htmd_chunks.specs.declared.bounds.Bounds.{Bounds}
use Rattle.htmd_chunks.specs.declared.joint.Joint.TheVariants as joint
use Rattle.htmd_chunks.specs.declared.size.Margin.{Margin}
use Rattle.htmd_chunks.proofs.CodeLinesLemmas.{code-parts}
use Rattle.htmd_chunks.proofs.CutsLemmas.{rows-merged}
use Rattle.htmd_chunks.proofs.CutsLemmas.{table-parts}
use Rattle.htmd_chunks.proofs.FillingsLemmas.{merged, AreParts}
use Rattle.htmd_chunks.proofs.NormalLinesLemmas.{AreNormalLines, further-normal}
use Rattle.htmd_chunks.proofs.NormalPartsLemmas.{IsPart, ArePieces, Pieces, pieces-of, parts-some, whole-is}
use Rattle.htmd_chunks.proofs.NormalWordsLemmas.{not-so, Linked, paragraph-linked, runs-linked}
use Rattle.htmd_chunks.proofs.RunsLemmas.{and_left, and_right, runs-together, RunsHave}
use Rattle.htmd_chunks.proofs.WordsLemmas.{paragraphs-merged, paragraph-parts, units-runs, units-some, words-some}
use Rattle.htmd_chunks.proofs.WordsLemmas.{word_units-together, word_units-have}

-- ---- code

-- texts with a line feed between them
abbrev glued : List ℕ → List (List ℕ) → List ℕ
glued t [] = t
glued t (u ∷ us) = glued (t ++ line_feed ∷ u) us

code-glued : (language : Option (List ℕ)) (t : List ℕ) (ts : List (List ℕ))
    → merged (code_block language t) (map (block_part (joint.Code ∷ [])) (map (code_block language) ts))
    ≡ code_block language (glued t ts)
code-glued language t [] = refl
code-glued language t (u ∷ us) = code-glued language (t ++ line_feed ∷ u) us

abbrev AllBytes : List (List ℕ) → Type 0
AllBytes [] = Unit {0}
AllBytes (t ∷ ts) = (list_all is_code_byte t ≡ true) × AllBytes ts

glued-bytes : (t : List ℕ) (ts : List (List ℕ)) → list_all is_code_byte (glued t ts) ≡ true
    → (list_all is_code_byte t ≡ true) × AllBytes ts
glued-bytes t [] h = (h, tt)
glued-bytes t (u ∷ us) h =
    let rest = glued-bytes (t ++ line_feed ∷ u) us h in
    let both = sym (list_all-append is_code_byte t (line_feed ∷ u)) ∙ rest.0 in (
      and_left (list_all is_code_byte t) (list_all is_code_byte (line_feed ∷ u)) both,
      (
        and_right (is_code_byte line_feed) (list_all is_code_byte u)
            (and_right (list_all is_code_byte t) (list_all is_code_byte (line_feed ∷ u)) both),
        rest.1,
      ),
    )

code-part : (in_item : Bool) (language : Option (List ℕ)) (s t : List ℕ) → has_language language ≡ true
    → list_all is_code_byte t ≡ true → IsPart in_item (code_block language s) (code_block language t)
code-part in_item language s t name bytes =
    record {
      normal = and_from (has_language language) (list_all is_code_byte t) name bytes;
      depth = omega arith;
      plain = refl;
      same = λ e. not-so _ e;
    }

code-rest : (language : Option (List ℕ)) (s : List ℕ) (ts : List (List ℕ)) → has_language language ≡ true
    → AllBytes ts
    → ArePieces (code_block language s) (map (block_part (joint.Code ∷ [])) (map (code_block language) ts))
code-rest language s [] name bytes = tt
code-rest language s (t ∷ ts) name bytes =
    (code-part false language s t name bytes.0, code-rest language s ts name bytes.1)

code-pieces : (in_item : Bool) (language : Option (List ℕ)) (s : List ℕ) (texts : List (List ℕ))
    → AreParts (code_block language s) (leaf_parts joint.Code (map (code_block language) texts))
    → is_normal_block in_item (code_block language s) ≡ true
    → Pieces in_item (code_block language s) (leaf_parts joint.Code (map (code_block language) texts))
code-pieces in_item language s [] are normal = not-so _ (sym (parts-some (code_block language s) [] are))
code-pieces in_item language s (t ∷ ts) are normal =
    let rest = map (block_part (joint.Code ∷ [])) (map (code_block language) ts) in
    let whole : code_block language (glued t ts) ≡ code_block language s =
    sym (code-glued language t ts)
    ∙ whole-is (code_block language s) (block_part [] (code_block language t)) rest are in
    let name = and_left (has_language language) (list_all is_code_byte s) normal in
    let bytes = glued-bytes t ts (and_right (has_language language) (list_all is_code_byte (glued t ts))
    (ap (is_normal_block in_item) whole ∙ normal)) in
    pieces-of in_item (code_block language s) (block_part [] (code_block language t)) rest refl
    (code-part in_item language s t name bytes.0) (λ e. not-so _ e) (code-rest language s ts name bytes.1)

pub code-cut : (c : Bounds) (m : Margin) (first : ℕ) (in_item : Bool) (language : Option (List ℕ)) (s : List ℕ)
    → is_normal_block in_item (code_block language s) ≡ true
    → Pieces in_item (code_block language s) (cut c m first (code_block language s))
code-cut c m first in_item language s normal =
    code-pieces in_item language s (code_parts c m first language s) (code-parts c m first language s) normal

-- ---- tables

abbrev AllRows : ℕ → List (List (List Inlines)) → Type 0
AllRows n [] = Unit {0}
AllRows n (run ∷ cuts) = (list_all (is_normal_row n) run ≡ true) × AllRows n cuts

rows-apart : (n : ℕ) (cuts : List (List (List Inlines))) → list_all (is_normal_row n) (together cuts) ≡ true
    → AllRows n cuts
rows-apart n [] h = tt
rows-apart n (run ∷ cuts) h =
    let both = sym (list_all-append (is_normal_row n) run (together cuts)) ∙ h in (
      and_left (list_all (is_normal_row n) run) (list_all (is_normal_row n) (together cuts)) both,
      rows-apart n cuts (and_right (list_all (is_normal_row n) run) (list_all (is_normal_row n) (together cuts)) both),
    )

-- what stands above the rows
abbrev is_normal_head : List Alignment → List Inlines → Bool
is_normal_head alignments header =
    has_cell header && (length alignments == length header) && are_normal_cells header

table-part : (in_item : Bool) (alignments : List Alignment) (header : List Inlines)
    (rows run : List (List Inlines)) → is_normal_head alignments header ≡ true
    → list_all (is_normal_row (length header)) run ≡ true
    → IsPart in_item (table alignments header rows) (table alignments header run)
table-part in_item alignments header rows run head all =
    record {
      normal = and_from (is_normal_head alignments header) (list_all (is_normal_row (length header)) run) head all;
      depth = omega arith;
      plain = refl;
      same = λ e. not-so _ e;
    }

table-rest : (alignments : List Alignment) (header : List Inlines) (rows : List (List Inlines))
    (cuts : List (List (List Inlines))) → is_normal_head alignments header ≡ true → AllRows (length header) cuts
    → ArePieces (table alignments header rows)
    (map (block_part (joint.Table ∷ [])) (map (table alignments header) cuts))
table-rest alignments header rows [] head all = tt
table-rest alignments header rows (run ∷ cuts) head all = (
  table-part false alignments header rows run head all.0,
  table-rest alignments header rows cuts head all.1,
)

table-pieces : (in_item : Bool) (alignments : List Alignment) (header : List Inlines) (rows : List (List Inlines))
    (cuts : List (List (List Inlines)))
    → AreParts (table alignments header rows) (leaf_parts joint.Table (map (table alignments header) cuts))
    → is_normal_block in_item (table alignments header rows) ≡ true
    → Pieces in_item (table alignments header rows) (leaf_parts joint.Table (map (table alignments header) cuts))
table-pieces in_item alignments header rows [] are normal =
    not-so _ (sym (parts-some (table alignments header rows) [] are))
table-pieces in_item alignments header rows (run ∷ cuts) are normal =
    let n = length header in
    let rest = map (block_part (joint.Table ∷ [])) (map (table alignments header) cuts) in
    let whole : table alignments header (run ++ together cuts) ≡ table alignments header rows =
    sym (rows-merged alignments header run cuts)
    ∙ whole-is (table alignments header rows) (block_part [] (table alignments header run)) rest are in
    let head = and_left (is_normal_head alignments header) (list_all (is_normal_row n) rows) normal in
    let all = rows-apart n (run ∷ cuts) (and_right (is_normal_head alignments header)
    (list_all (is_normal_row n) (run ++ together cuts)) (ap (is_normal_block in_item) whole ∙ normal)) in
    pieces-of in_item (table alignments header rows) (block_part [] (table alignments header run)) rest refl
    (table-part in_item alignments header rows run head all.0) (λ e. not-so _ e)
    (table-rest alignments header rows cuts head all.1)

pub table-cut : (c : Bounds) (m : Margin) (first : ℕ) (in_item : Bool) (alignments : List Alignment)
    (header : List Inlines) (rows : List (List Inlines))
    → is_normal_block in_item (table alignments header rows) ≡ true
    → Pieces in_item (table alignments header rows) (cut c m first (table alignments header rows))
table-cut c m first in_item alignments header rows normal =
    table-pieces in_item alignments header rows (table_parts c m first alignments header rows)
    (table-parts c m first alignments header rows) normal

-- ---- paragraphs

paragraph-part : (in_item : Bool) (content : Inlines) (xs : List Inline)
    → is_normal_paragraph in_item (inlines_of xs) ≡ true
    → IsPart in_item (paragraph content) (paragraph (inlines_of xs))
paragraph-part in_item content xs normal =
    record { normal = normal; depth = omega arith; plain = refl; same = λ e. refl }

paragraph-rest : (content : Inlines) (yss : List (List Inline)) → AreNormalLines yss
    → ArePieces (paragraph content)
    (map (block_part (joint.Paragraph ∷ [])) (map (λ ys. paragraph (inlines_of ys)) yss))
paragraph-rest content [] all = tt
paragraph-rest content (ys ∷ yss) all =
    (paragraph-part false content ys all.0, paragraph-rest content yss all.1)

paragraph-pieces : (in_item : Bool) (content : Inlines) (texts : List (List Inline)) → Linked texts
    → AreParts (paragraph content) (leaf_parts joint.Paragraph (map (λ xs. paragraph (inlines_of xs)) texts))
    → is_normal_block in_item (paragraph content) ≡ true
    → Pieces in_item (paragraph content) (leaf_parts joint.Paragraph (map (λ xs. paragraph (inlines_of xs)) texts))
paragraph-pieces in_item content [] linked are normal = not-so _ (sym (parts-some (paragraph content) [] are))
paragraph-pieces in_item content (xs ∷ yss) linked are normal =
    let rest = map (block_part (joint.Paragraph ∷ [])) (map (λ ys. paragraph (inlines_of ys)) yss) in
    let whole : paragraph (inlines_of (further_words xs yss)) ≡ paragraph content =
    sym (paragraphs-merged xs yss)
    ∙ whole-is (paragraph content) (block_part [] (paragraph (inlines_of xs))) rest are in
    let both = further-normal in_item xs yss linked (ap (is_normal_block in_item) whole ∙ normal) in
    pieces-of in_item (paragraph content) (block_part [] (paragraph (inlines_of xs))) rest refl
    (paragraph-part in_item content xs both.0) (λ e. not-so _ e) (paragraph-rest content yss both.1)

pub paragraph-cut : (c : Bounds) (m : Margin) (first : ℕ) (in_item : Bool) (content : Inlines)
    → is_normal_block in_item (paragraph content) ≡ true
    → Pieces in_item (paragraph content) (cut c m first (paragraph content))
paragraph-cut c m first in_item content normal =
    let taken = units_cost c.options m in
    let units = word_units c m content in
    let parts = runs taken c.most first units in
    let have : RunsHave parts =
    units-runs taken c.most first units (word_units-have c m content)
    (units-some (words_of content) units (words-some false [] content) (word_units-together c m content)) in
    let all : together (together parts) ≡ words_of content =
    ap together (runs-together taken c.most first units) ∙ word_units-together c m content in
    paragraph-pieces in_item content (paragraph_parts c m first content)
    (runs-linked parts have
    (subst (λ (ws : List (List Inline)). Linked ws) (sym all) (paragraph-linked in_item content normal)))
    (paragraph-parts c m first in_item content normal) normal
