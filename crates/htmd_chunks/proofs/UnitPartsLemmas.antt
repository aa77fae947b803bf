-- The parts of a paragraph and of a code block, by the counts of their units.
use Rattle.std.proofs.Common.{◌≡◌, ℕ, ◌+◌, ◌-◌, ◌<◌, ◌≤◌, List, [], ◌∷◌, ◌++◌}
use Rattle.std.proofs.Common.{length, map, refl, sym, ap, ◌∙◌}
use Rattle.std.proofs.Common.{arith, drop, get_or, take}
use Rattle.std.specs.Prelude.{Option, Some, None, slice_get}
use Rattle.std.specs.Borrow.{Bor}
use Rattle.std.specs.List.{between, slice_split, sum_by}
use Rattle.std.proofs.lemmas.List.{append-nil, drop-drop, drop-map, get_or-map, length-append, length-drop, length-map}
use Rattle.std.proofs.lemmas.List.{take-map}
use Rattle.std.proofs.lemmas.List.Sums.{sum_by-append, sum_by-cons}
use Rattle.htmd_text.specs.Trims.{is_line_feed}
use Rattle.htmd_document.specs.Documents.{Inlines, inlines_of, paragraph, code_block}
use Rattle.htmd_commonmark.specs.declared.options.DocumentOptions.{DocumentOptions}
use Rattle.htmd_chunks.specs.CodeLines.{fences_size, line_cost, line_units, lines_cost, joined_lines, code_parts}
use Rattle.htmd_chunks.specs.Runs.{runs, together}
use Rattle.htmd_chunks.specs.Sizes.{cost}
use Rattle.htmd_chunks.specs.UnitViews.{unit_of_lines, unit_of_words}
use Rattle.htmd_chunks.specs.Words.{Word, word_cost, words_of, units_cost, word_units, put_together, paragraph_parts}
use Rattle.htmd_chunks.specs.declared.bounds.Bounds.{Bounds}
use Rattle.htmd_chunks.specs.declared.size.Margin.{Margin}
use Rattle.htmd_chunks.specs.declared.units.Unit.{Unit}
use Rattle.htmd_chunks.proofs.CodeLinesLemmas.{split-lines, units-of-lines, units_from-together}
use Rattle.htmd_chunks.proofs.CountsLemmas.{part_next, part_fits, runs_from-map, runs_from-agree}
use Rattle.htmd_chunks.proofs.RunsLemmas.{HaveItems, no_units, unit_of, IsSomething, something, runs-together}
use Rattle.htmd_chunks.proofs.RunsLemmas.{together-append}
use Rattle.htmd_chunks.proofs.UnitsLemmas.{taken_by, count_in}
use Rattle.htmd_chunks.proofs.WordsLemmas.{word_units-together, word_units-have}

-- the words of each part
abbrev pub word_parts : Bounds → Margin → ℕ → Inlines → List (List Word)
word_parts c m first content =
    map (λ units. together units) (runs (units_cost c.options m) c.most first (word_units c m content))

-- the lines of each part
abbrev pub line_parts : Bounds → Margin → ℕ → Option (List ℕ) → List ℕ → List (List (List ℕ))
line_parts c m first language s =
    let fences = cost m (fences_size c.options language s) in
    map (λ units. together units) (runs (lines_cost fences m) c.most first (line_units s))

-- ---- all parts together

together-twice : {X : Type 0} (parts : List (List (List X)))
    → together (map (λ units. together units) parts) ≡ together (together parts)
together-twice [] = refl
together-twice (units ∷ parts) =
    ap (λ l. together units ++ l) (together-twice parts) ∙ sym (together-append units (together parts))

pub all-words : (c : Bounds) (m : Margin) (first : ℕ) (content : Inlines)
    → together (word_parts c m first content) ≡ words_of content
all-words c m first content =
    together-twice (runs (units_cost c.options m) c.most first (word_units c m content))
    ∙ ap together (runs-together (units_cost c.options m) c.most first (word_units c m content))
    ∙ word_units-together c m content

pub all-lines : (c : Bounds) (m : Margin) (first : ℕ) (language : Option (List ℕ)) (s : List ℕ)
    → together (line_parts c m first language s) ≡ slice_split is_line_feed s
all-lines c m first language s =
    let fences = cost m (fences_size c.options language s) in
    together-twice (runs (lines_cost fences m) c.most first (line_units s))
    ∙ ap together (runs-together (lines_cost fences m) c.most first (line_units s))
    ∙ units_from-together [] (slice_split is_line_feed s)

-- ---- counts

count-units : {X : Type 0} (f : List X → Unit) → ((unit : List X) → (f unit).count ≡ length unit)
    → (units : List (List X)) → count_in (map f units) ≡ length (together units)
count-units f same [] = refl
count-units f same (unit ∷ units) =
    let all : count_in (map f (unit ∷ units)) ≡ (f unit).count + count_in (map f units) =
    sum_by-cons (λ (u : Unit). u.count) (f unit) (map f units) in
    omega (arith, all, same unit, count-units f same units, length-append unit (together units))

count-parts : {X : Type 0} (f : List X → Unit) → ((unit : List X) → (f unit).count ≡ length unit)
    → (parts : List (List (List X)))
    → map count_in (map (map f) parts) ≡ map (λ xs. length xs) (map (λ units. together units) parts)
count-parts f same [] = refl
count-parts f same (units ∷ parts) =
    ap (λ n. n ∷ map count_in (map (map f) parts)) (count-units f same units)
    ∙ ap (λ l. length (together units) ∷ l) (count-parts f same parts)

have-length : {X : Type 0} (units : List (List X)) → HaveItems units → length units ≤ length (together units)
have-length _ no_units = omega arith
have-length _ (unit_of x xs rest have) = omega (arith, have-length rest have, length-append (x ∷ xs) (together rest))

words-sum : (options : DocumentOptions) (m : Margin) (units : List (List Word)) → HaveItems units
    → sum_by (λ (u : Unit). u.bytes) (map (unit_of_words options m) units) + length units
    ≡ sum_by (word_cost options m) (together units) + length (together units)
words-sum options m _ no_units = refl
words-sum options m _ (unit_of w ws rest have) =
    let f = unit_of_words options m in
    let all : sum_by (λ (u : Unit). u.bytes) (map f ((w ∷ ws) ∷ rest))
    ≡ sum_by (word_cost options m) (w ∷ ws) + (length (w ∷ ws) - 1) + sum_by (λ (u : Unit). u.bytes)
    (map f rest) =
    sum_by-cons (λ (u : Unit). u.bytes) (f (w ∷ ws)) (map f rest) in
    omega (
      arith,
      all,
      words-sum options m rest have,
      length-append (w ∷ ws) (together rest),
      sum_by-append (word_cost options m) (w ∷ ws) (together rest),
    )

words-taken : (options : DocumentOptions) (m : Margin) (units : List (List Word)) → HaveItems units
    → IsSomething units
    → taken_by 0 1 (map (unit_of_words options m) units) ≡ units_cost options m units
words-taken options m _ have (something unit rest) =
    omega (
      arith,
      words-sum options m (unit ∷ rest) have,
      have-length (unit ∷ rest) have,
      length-map (unit ∷ rest) (unit_of_words options m),
    )

pub word-counts : (c : Bounds) (m : Margin) (first : ℕ) (content : Inlines)
    → map count_in (runs (taken_by 0 1) c.most first (map (unit_of_words c.options m) (word_units c m content)))
    ≡ map (λ words. length words) (word_parts c m first content)
word-counts c m first content =
    let f = unit_of_words c.options m in
    let units = word_units c m content in
    ap (map count_in) (runs_from-map f (taken_by 0 1) c.most first [] units
    ∙ ap (map (map f)) (runs_from-agree (λ run. taken_by 0 1 (map f run)) (units_cost c.options m) c.most first []
    units
    (words-taken c.options m) no_units (word_units-have c m content)))
    ∙ count-parts f (λ unit. refl) (runs (units_cost c.options m) c.most first units)

lines-sum : (m : Margin) (units : List (List (List ℕ)))
    → sum_by (λ (u : Unit). u.bytes) (map (unit_of_lines m) units) ≡ sum_by (line_cost m) (together units)
lines-sum m [] = refl
lines-sum m (unit ∷ units) =
    let all : sum_by (λ (u : Unit). u.bytes) (map (unit_of_lines m) (unit ∷ units))
    ≡ sum_by (line_cost m) unit + sum_by (λ (u : Unit). u.bytes) (map (unit_of_lines m) units) =
    sum_by-cons (λ (u : Unit). u.bytes) (unit_of_lines m unit) (map (unit_of_lines m) units) in
    omega (arith, all, lines-sum m units, sum_by-append (line_cost m) unit (together units))

lines-taken : (fences : ℕ) (m : Margin) (units : List (List (List ℕ)))
    → taken_by fences 0 (map (unit_of_lines m) units) ≡ lines_cost fences m units
lines-taken fences m units = omega (arith, lines-sum m units)

pub line-counts : (c : Bounds) (m : Margin) (first : ℕ) (language : Option (List ℕ)) (s : List ℕ)
    → map count_in (runs (taken_by (cost m (fences_size c.options language s)) 0) c.most first
    (map (unit_of_lines m) (line_units s)))
    ≡ map (λ lines. length lines) (line_parts c m first language s)
line-counts c m first language s =
    let fences = cost m (fences_size c.options language s) in
    let f = unit_of_lines m in
    let units = line_units s in
    let lines = slice_split is_line_feed s in
    ap (map count_in) (runs_from-map f (taken_by fences 0) c.most first [] units
    ∙ ap (map (map f)) (runs_from-agree (λ run. taken_by fences 0 (map f run)) (lines_cost fences m) c.most first []
    units (λ run have some. lines-taken fences m run) no_units (units-of-lines s lines (split-lines s))))
    ∙ count-parts f (λ unit. refl) (runs (lines_cost fences m) c.most first units)

-- the same from what the source counts
pub code-counts : (c : Bounds) (m : Margin) (first : ℕ) (language : Option (List ℕ)) (s : List ℕ) (always : ℕ)
    (units : List Unit) (counts : List ℕ) → always ≡ cost m (fences_size c.options language s)
    → units ≡ map (unit_of_lines m) (line_units s)
    → counts ≡ map count_in (runs (taken_by always 0) c.most first units)
    → counts ≡ map (λ lines. length lines) (line_parts c m first language s)
code-counts c m first language s always units counts fences lines is =
    is ∙ ap (λ n. map count_in (runs (taken_by n 0) c.most first units)) fences
    ∙ ap (λ us. map count_in (runs (taken_by (cost m (fences_size c.options language s)) 0) c.most first us)) lines
    ∙ line-counts c m first language s

-- ---- parts of a slice

-- how many stand in the next part
pub count-at : {X : Type 0} (all : List (List X)) (counts : List ℕ) (i : ℕ)
    → counts ≡ map (λ xs. length xs) all
    → i < length counts → (i < length all) × (get_or counts i 0 ≡ length (get_or all i []))
count-at all counts i is within =
    let size : length counts ≡ length all = ap (λ l. length l) is ∙ length-map all (λ xs. length xs) in
    let inside : i < length all = omega (arith, size) in (
      inside,
      ap (λ l. get_or l i 0) is ∙ get_or-map (λ xs. length xs) all i [] 0 inside,
    )

pub part-within : (lines : List (Bor (List ℕ))) (from i : ℕ) (all : List (List (List ℕ))) (counts : List ℕ)
    → counts ≡ map (λ lines. length lines) all → i < length counts
    → map (λ line. line.now) (drop from lines) ≡ together (drop i all) → from ≤ length lines
    → from + get_or counts i 0 ≤ length lines
part-within lines from i all counts is within rest le =
    let here = count-at all counts i is within in
    omega (
      arith,
      here.1,
      part_fits all i (map (λ (line : Bor (List ℕ)). line.now) (drop from lines)) here.0 rest,
      length-map (drop from lines) (λ (line : Bor (List ℕ)). line.now),
      length-drop from lines,
    )

pub part-is : (lines : List (Bor (List ℕ))) (from i : ℕ) (all : List (List (List ℕ))) (counts : List ℕ)
    → counts ≡ map (λ lines. length lines) all → i < length counts
    → map (λ line. line.now) (drop from lines) ≡ together (drop i all)
    → (map (λ line. line.now) (between from (from + get_or counts i 0) lines) ≡ get_or all i [])
    × (map (λ line. line.now) (drop (from + get_or counts i 0) lines) ≡ together (drop (i + 1) all))
part-is lines from i all counts is within rest =
    let n = get_or counts i 0 in
    let here = count-at all counts i is within in
    let texts = λ (l : List (Bor (List ℕ))). map (λ (line : Bor (List ℕ)). line.now) l in
    let left = texts (drop from lines) in
    let next = part_next all i left here.0 rest in
    let size : from + n - from ≡ n = omega arith in (
      ap (λ k. texts (take k (drop from lines))) size
          ∙ sym (take-map (λ (line : Bor (List ℕ)). line.now) n (drop from lines))
          ∙ ap (λ k. take k left) here.1 ∙ next.0,
      ap texts (sym (drop-drop n from lines))
          ∙ sym (drop-map (λ (line : Bor (List ℕ)). line.now) n (drop from lines))
          ∙ ap (λ k. drop k left) here.1 ∙ next.1,
    )

-- ---- what the parts are

map-map : {X Y Z : Type 0} (g : Y → Z) (f : X → Y) (xs : List X) → map g (map f xs) ≡ map (λ x. g (f x)) xs
map-map g f [] = refl
map-map g f (x ∷ xs) = ap (λ l. g (f x) ∷ l) (map-map g f xs)

pub paragraphs-are : (c : Bounds) (m : Margin) (first : ℕ) (content : Inlines)
    → map (λ words. paragraph (inlines_of (put_together words))) (word_parts c m first content)
    ≡ map (λ xs. paragraph (inlines_of xs)) (paragraph_parts c m first content)
paragraphs-are c m first content =
    let parts = runs (units_cost c.options m) c.most first (word_units c m content) in
    map-map (λ words. paragraph (inlines_of (put_together words))) (λ units. together units) parts
    ∙ sym (map-map (λ xs. paragraph (inlines_of xs)) (λ units. put_together (together units)) parts)

pub blocks-are : (c : Bounds) (m : Margin) (first : ℕ) (language : Option (List ℕ)) (s : List ℕ)
    → map (λ lines. code_block language (joined_lines lines)) (line_parts c m first language s)
    ≡ map (code_block language) (code_parts c m first language s)
blocks-are c m first language s =
    let fences = cost m (fences_size c.options language s) in
    let parts = runs (lines_cost fences m) c.most first (line_units s) in
    map-map (λ lines. code_block language (joined_lines lines)) (λ units. together units) parts
    ∙ sym (map-map (code_block language) (λ units. joined_lines (together units)) parts)

-- ---- the least part

-- the bytes of the first unit
abbrev pub first_bytes : List Unit → ℕ
first_bytes [] = 0
first_bytes (u ∷ units) = u.bytes

pub first-unit-bytes : (units : List Unit) (u : Unit) → Some u ≡ slice_get units 0 → u.bytes ≡ first_bytes units
first-unit-bytes [] u is = absurd (cc)
first-unit-bytes (v ∷ units) u is = let same : u ≡ v = cc in ap (λ (w : Unit). w.bytes) same

pub no-unit-bytes : (units : List Unit) → None ≡ slice_get units 0 → 0 ≡ first_bytes units
no-unit-bytes [] is = refl
no-unit-bytes (u ∷ units) is = absurd (cc)

pub least-of-words : (options : DocumentOptions) (m : Margin) (units : List (List Word))
    → first_bytes (map (unit_of_words options m) units) ≡ units_cost options m (take 1 units)
least-of-words options m [] = refl
least-of-words options m (unit ∷ units) =
    ap (λ ws. sum_by (word_cost options m) ws + (length ws - 1)) (sym (append-nil unit))

pub least-of-lines : (fences : ℕ) (m : Margin) (units : List (List (List ℕ)))
    → fences + first_bytes (map (unit_of_lines m) units) ≡ lines_cost fences m (take 1 units)
least-of-lines fences m [] = refl
least-of-lines fences m (unit ∷ units) =
    ap (λ ls. fences + sum_by (line_cost m) ls) (sym (append-nil unit))
