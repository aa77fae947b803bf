-- What a code block is cut into fits, or has one line that isn't blank.
use Rattle.std.proofs.Common.{◌≡◌, ℕ, zero, suc, ◌+◌, ◌<◌, ◌≤◌, Bool, true, false, not, cond, List, [], ◌∷◌, ◌++◌}
use Rattle.std.proofs.Common.{length, map, refl, sym, ap, ◌∙◌, subst, arith, append_assoc, append-nil, length-append}
use Rattle.std.proofs.Common.{inr, Option, Some, None, le-leb, take, eqb-true, zero-mul, le_refl}
use Rattle.std.specs.Prelude.{◌&&◌, ◌==◌, max, nat_le, replicate}
use Rattle.std.specs.List.{fold, list_all, list_any, slice_split, onto_first, count_by, sum_by}
use Rattle.std.proofs.lemmas.Bool.{and_parts, or_from}
use Rattle.std.proofs.lemmas.List.{length-replicate}
use Rattle.std.proofs.lemmas.List.Sums.{sum_by-cons, sum_by-append}
use Rattle.htmd_lexical.specs.Characters.{line_feed}
use Rattle.htmd_lexical.specs.CharacterClasses.{is_empty}
use Rattle.htmd_text.specs.Trims.{is_line_feed}
use Rattle.htmd_markdown.specs.Fences.{symbol_of, info_string, fence_len}
use Rattle.htmd_markdown.specs.Runs.{longest_run}
use Rattle.htmd_markdown.specs.declared.fence.CodeBlockFence.{CodeBlockFence}
use Rattle.htmd_markdown.specs.declared.fence.CodeBlockFence.TheVariants.{Tildes, Backticks}
use Rattle.htmd_document.specs.Documents.{Block, code_block}
use Rattle.htmd_document.specs.NormalDocuments.{is_normal_block, has_language}
use Rattle.htmd_document.specs.NormalDocuments.{is_language_byte, is_code_byte}
use Rattle.htmd_commonmark.specs.declared.options.DocumentOptions.{DocumentOptions}
use Rattle.htmd_chunks.specs.CodeLines.{is_blank, units_from, line_units, fences_size, line_cost, lines_cost}
use Rattle.htmd_chunks.specs.CodeLines.{joined_lines}
use Rattle.htmd_chunks.specs.Cuts.{cut, leaf_parts}
use Rattle.htmd_chunks.specs.Least.{least}
use Rattle.htmd_chunks.specs.Measures.{block_cost}
use Rattle.htmd_chunks.specs.Pieces.{piece_options}
use Rattle.htmd_chunks.specs.Runs.{is_none, runs, together}
use Rattle.htmd_chunks.specs.ShortPieces.{is_least}
use Rattle.htmd_chunks.specs.Sizes.{plus, text_size, gap_size, cost}
use Rattle.htmd_chunks.specs.declared.joint.Joint.TheVariants as joint
use Rattle.htmd_chunks.specs.declared.size.Margin.{Margin}
use Rattle.htmd_chunks.specs.declared.size.Size.{Size}
use Rattle.htmd_chunks.proofs.CostsLemmas.{cost-plus}
use Rattle.htmd_chunks.proofs.RunsLemmas.{IsSomething, something}
use Rattle.htmd_chunks.proofs.ShortPartsLemmas.{bounds, BlockFit, FirstBlock, CutWell}
use Rattle.htmd_chunks.proofs.ShortRunsLemmas.{Each, of_none, of_more, each-behind, runs-well, leaf-well}
use Rattle.htmd_chunks.proofs.SizesLemmas.{Line, lines, size-behind, lines-behind, joined-more, full-text}
use Rattle.htmd_chunks.proofs.SizesLemmas.{behind-marker}
use Rattle.htmd_chunks.proofs.SizesLemmas.{some-lines, Splits, one, more, splits}
use Rattle.htmd_chunks.proofs.WrittenSizesLemmas.{leaf-alone}

-- ---- the longest run

onto-behind : {X : Type 0} (b : X) (ks ls : List (List X)) → IsSomething ks
    → onto_first b (ks ++ ls) ≡ onto_first b ks ++ ls
onto-behind b ks ls (something k rest) = refl

split-some : {X : Type 0} (p : X → Bool) (s : List X) → IsSomething (slice_split p s)
split-some p [] = something [] []
split-some {X} p (b ∷ s) =
    elim (p b) as (λ e. IsSomething (cond e ([] ∷ slice_split p s) (onto_first b (slice_split p s)))) [
      | true ↦ something [] (slice_split p s)
      | false ↦ onto b (slice_split p s) (split-some p s)
    ]
  where
    onto : (b : X) (ls : List (List X)) → IsSomething ls → IsSomething (onto_first b ls)
    onto b ls (something l rest) = something (b ∷ l) rest

split-behind : (p : ℕ → Bool) (c : ℕ) (s t : List ℕ) → p c ≡ true
    → slice_split p (s ++ c ∷ t) ≡ slice_split p s ++ slice_split p t
split-behind p c [] t is =
    ap (λ e. cond e ([] ∷ slice_split p t) (onto_first c (slice_split p t))) is
split-behind p c (b ∷ s) t is =
    ap (λ ls. cond (p b) ([] ∷ ls) (onto_first b ls)) (split-behind p c s t is)
    ∙ ap (λ ls. cond (p b) ([] ∷ (slice_split p s ++ slice_split p t)) ls)
    (onto-behind b (slice_split p s) (slice_split p t) (split-some p s))
    ∙ elim (p b)
    as (λ e. cond e ([] ∷ (slice_split p s ++ slice_split p t)) (onto_first b (slice_split p s) ++ slice_split p t)
    ≡ cond e ([] ∷ slice_split p s) (onto_first b (slice_split p s)) ++ slice_split p t) [
      | true ↦ refl
      | false ↦ refl
    ]

fold-max : (a : ℕ) (ns : List ℕ) → fold max a ns ≡ max a (fold max 0 ns)
fold-max a [] = omega arith
fold-max a (n ∷ ns) = omega (arith, fold-max (max a n) ns, fold-max (max 0 n) ns)

max-append : (ms ns : List ℕ) → fold max 0 (ms ++ ns) ≡ max (fold max 0 ms) (fold max 0 ns)
max-append [] ns = omega arith
max-append (m ∷ ms) ns =
    omega (arith, fold-max (max 0 m) (ms ++ ns), max-append ms ns, fold-max (max 0 m) ms)

map-behind : (rs ss : List (List ℕ)) → map (λ run. length run) (rs ++ ss)
    ≡ map (λ run. length run) rs ++ map (λ run. length run) ss
map-behind [] ss = refl
map-behind (r ∷ rs) ss = ap (λ l. length r ∷ l) (map-behind rs ss)

run-behind : (symbol : ℕ) (s t : List ℕ) → not (line_feed == symbol) ≡ true
    → longest_run symbol (s ++ line_feed ∷ t) ≡ max (longest_run symbol s) (longest_run symbol t)
run-behind symbol s t other =
    let p : ℕ → Bool = (λ b. not (b == symbol)) in
    ap (λ rs. fold max 0 (map (λ run. length run) rs)) (split-behind p line_feed s t other)
    ∙ ap (fold max 0) (map-behind (slice_split p s) (slice_split p t))
    ∙ max-append (map (λ run. length run) (slice_split p s)) (map (λ run. length run) (slice_split p t))

-- ---- lines

-- one line, with no longer run of the symbol than this
record LineOk (symbol bound : ℕ) (l : Line) : Type 0 where
  single : lines l ≡ l ∷ []
  short : longest_run symbol l ≤ bound

lines-ok : (symbol bound : ℕ) (s : Line) (ls : List Line) → not (line_feed == symbol) ≡ true → Splits s ls
    → longest_run symbol s ≤ bound → Each (LineOk symbol bound) ls
lines-ok symbol bound s ls other (one l is) le = of_more l [] (record { single = is; short = le }) of_none
lines-ok symbol bound s ls other (more l rest ks is split) le =
    let all = run-behind symbol l rest other in
    of_more l ks (record { single = is; short = omega (arith, all, le) })
    (lines-ok symbol bound rest ks other split (omega (arith, all, le)))

abbrev one_if : Bool → ℕ
one_if e = cond e 1 0

-- how many aren't blank
abbrev shown_lines : List Line → ℕ
shown_lines ls = count_by (λ line. not (is_blank line)) ls

shown-append : (ks ls : List Line) → shown_lines (ks ++ ls) ≡ shown_lines ks + shown_lines ls
shown-append ks ls = sum_by-append (λ line. cond (not (is_blank line)) 1 0) ks ls

shown-cons : (l : Line) (ls : List Line) → shown_lines (l ∷ ls) ≡ one_if (not (is_blank l)) + shown_lines ls
shown-cons l ls = sum_by-cons (λ line. cond (not (is_blank line)) 1 0) l ls

one-most : (e : Bool) → one_if e ≤ 1
one-most true = omega arith
one-most false = omega arith

at_most_one : (l : Line) → shown_lines (l ∷ []) ≤ 1
at_most_one l = omega (arith, shown-cons l [], one-most (not (is_blank l)))

-- a unit: lines, of which at most one isn't blank
record UnitOk (symbol bound : ℕ) (unit : List Line) : Type 0 where
  each : Each (LineOk symbol bound) unit
  some : is_none unit ≡ false
  shown : shown_lines unit ≤ 1

all-blank : (ls : List Line) → list_all is_blank ls ≡ true → shown_lines ls ≡ 0
all-blank [] all = refl
all-blank (l ∷ ls) all =
    let p = and_parts (is_blank l) (list_all is_blank ls) all in
    omega (arith, shown-cons l ls, ap (λ e. one_if (not e)) p.0, all-blank ls p.1)

-- one more line in a unit
one-shown : (unit : List Line) (line : Line) → shown_lines unit ≤ 1
    → (not (is_blank line) && not (list_all is_blank unit)) ≡ false → shown_lines (unit ++ line ∷ []) ≤ 1
one-shown unit line le h =
    elim (is_blank line)
    as (λ e. is_blank line ≡ e → (not e && not (list_all is_blank unit)) ≡ false
    → shown_lines (unit ++ line ∷ []) ≤ 1) [
      | true ↦ λ blank k.
          omega (
            arith,
            shown-append unit (line ∷ []),
            shown-cons line [],
            ap (λ e. one_if (not e)) blank,
            le,
          )
      | false ↦ λ blank k.
          omega (
            arith,
            shown-append unit (line ∷ []),
            shown-cons line [],
            ap (λ e. one_if (not e)) blank,
            all-blank unit (double (list_all is_blank unit) k),
          )
    ] refl h
  where
    double : (e : Bool) → not e ≡ false → e ≡ true
    double true h = refl
    double false h = absurd (cc)

units-ok : (symbol bound : ℕ) (u : Line) (us ls : List Line) → Each (LineOk symbol bound) (u ∷ us)
    → shown_lines (u ∷ us) ≤ 1 → Each (LineOk symbol bound) ls
    → Each (UnitOk symbol bound) (units_from (u ∷ us) ls)
units-ok symbol bound u us ls unit le of_none =
    of_more (u ∷ us) [] (record { each = unit; some = refl; shown = le }) of_none
units-ok symbol bound u us ls unit le (of_more line rest here others) =
    elim (not (is_blank line) && not (list_all is_blank (u ∷ us)))
    as (λ e. (not (is_blank line) && not (list_all is_blank (u ∷ us))) ≡ e
    → Each (UnitOk symbol bound) (cond e ((u ∷ us) ∷ units_from (line ∷ []) rest)
    (units_from (u ∷ (us ++ line ∷ [])) rest))) [
      | true ↦ λ h.
          of_more (u ∷ us) (units_from (line ∷ []) rest) (record { each = unit; some = refl; shown = le })
          (units-ok symbol bound line [] rest (of_more line [] here of_none) (at_most_one line) others)
      | false ↦ λ h.
          units-ok symbol bound u (us ++ line ∷ []) rest
          (each-behind (LineOk symbol bound) (u ∷ us) (line ∷ []) unit (of_more line [] here of_none))
          (one-shown (u ∷ us) line le h) others
    ] refl

units-some : (u : Line) (us ls : List Line) → IsSomething (units_from (u ∷ us) ls)
units-some u us [] = something (u ∷ us) []
units-some u us (line ∷ rest) =
    elim (not (is_blank line) && not (list_all is_blank (u ∷ us)))
    as (λ e. IsSomething (cond e ((u ∷ us) ∷ units_from (line ∷ []) rest)
    (units_from (u ∷ (us ++ line ∷ [])) rest))) [
      | true ↦ something (u ∷ us) (units_from (line ∷ []) rest)
      | false ↦ units-some u (us ++ line ∷ []) rest
    ]

-- the first line begins a unit
begin-units : (l : Line) (ls : List Line) (e : Bool)
    → cond (e && false) ([] ∷ units_from (l ∷ []) ls) (units_from (l ∷ []) ls) ≡ units_from (l ∷ []) ls
begin-units l ls true = refl
begin-units l ls false = refl

all-units : (symbol bound : ℕ) (ls : List Line) → IsSomething ls → Each (LineOk symbol bound) ls
    → Each (UnitOk symbol bound) (units_from [] ls) × IsSomething (units_from [] ls)
all-units symbol bound ls (something l rest) (of_more k ks here others) = (
  subst (Each (UnitOk symbol bound)) (sym (begin-units l rest (not (is_blank l))))
      (units-ok symbol bound l [] rest (of_more l [] here of_none) (at_most_one l) others),
  subst (λ (us : List (List Line)). IsSomething us) (sym (begin-units l rest (not (is_blank l))))
      (units-some l [] rest),
)

-- ---- lines joined

joined-short : (symbol bound : ℕ) (l : Line) (ls : List Line) → not (line_feed == symbol) ≡ true
    → Each (LineOk symbol bound) (l ∷ ls) → longest_run symbol (joined_lines (l ∷ ls)) ≤ bound
joined-short symbol bound l [] other (of_more k ks here others) =
    omega (arith, ap (longest_run symbol) (append-nil l), here.short)
joined-short symbol bound l (j ∷ ls) other (of_more k ks here others) =
    omega (
      arith,
      ap (longest_run symbol) (joined-more l (j ∷ ls) (something j ls)),
      run-behind symbol l (joined_lines (j ∷ ls)) other,
      here.short,
      joined-short symbol bound j ls other others,
    )

joined-split : (symbol bound : ℕ) (l : Line) (ls : List Line) → Each (LineOk symbol bound) (l ∷ ls)
    → lines (joined_lines (l ∷ ls)) ≡ l ∷ ls
joined-split symbol bound l [] (of_more k ks here others) = ap lines (append-nil l) ∙ here.single
joined-split symbol bound l (j ∷ ls) (of_more k ks here others) =
    ap lines (joined-more l (j ∷ ls) (something j ls)) ∙ lines-behind l (joined_lines (j ∷ ls))
    ∙ ap (λ t. t ++ lines (joined_lines (j ∷ ls))) here.single
    ∙ ap (λ t. l ∷ t) (joined-split symbol bound j ls others)

-- each line with a line feed
joined-cost : (m : Margin) (l : Line) (ls : List Line)
    → cost m (text_size (joined_lines (l ∷ ls))) + cost m (gap_size true) ≡ sum_by (line_cost m) (l ∷ ls)
joined-cost m l [] =
    omega (
      arith,
      ap (λ t. cost m (text_size t)) (append-nil l),
      cost-plus m (text_size l) (gap_size true),
      sum_by-cons (line_cost m) l [],
    )
joined-cost m l (j ∷ ls) =
    let rest = joined_lines (j ∷ ls) in
    omega (
      arith,
      ap (λ t. cost m (text_size t)) (joined-more l (j ∷ ls) (something j ls)),
      ap (cost m) (size-behind l rest),
      cost-plus m (plus (text_size l) (gap_size true)) (text_size rest),
      cost-plus m (text_size l) (gap_size true),
      sum_by-cons (line_cost m) l (j ∷ ls),
      joined-cost m j ls,
    )

-- ---- fences

language-line : (language : Option (List ℕ)) → has_language language ≡ true
    → list_any is_line_feed (info_string language) ≡ false
language-line None normal = refl
language-line (Some s) normal = bytes s (and_parts (not (is_empty s)) (list_all is_language_byte s) normal).1
  where
    byte : (b : ℕ) → is_language_byte b ≡ true → (e : Bool) → (b == 10) ≡ e → e ≡ false
    byte b good true is = absurd (let bad : is_language_byte b ≡ false = ap is_language_byte (eqb-true b 10 is) in
        let x : true ≡ false = sym good ∙ bad in cc)
    byte b good false is = refl

    bytes : (s : List ℕ) → list_all is_language_byte s ≡ true → list_any is_line_feed s ≡ false
    bytes [] all = refl
    bytes (b ∷ s) all =
        let p = and_parts (is_language_byte b) (list_all is_language_byte s) all in
        or_from (is_line_feed b) (list_any is_line_feed s) (byte b p.0 (is_line_feed b) refl) (bytes s p.1)

symbol-apart : (fence : CodeBlockFence) → not (line_feed == symbol_of fence) ≡ true
symbol-apart Tildes = refl
symbol-apart Backticks = refl

symbols-line : (fence : CodeBlockFence) (n : ℕ) → list_any is_line_feed (replicate n (symbol_of fence)) ≡ false
symbols-line fence zero = refl
symbols-line Tildes (suc n) = symbols-line Tildes n
symbols-line Backticks (suc n) = symbols-line Backticks n

abbrev line_of_bytes : ℕ → Size
line_of_bytes n = record { bytes = n; full = 1; empty = 0 }

-- a line of a fence, with the language behind it
fence-line : (fence : CodeBlockFence) (n : ℕ) (info : List ℕ) → 0 < n → list_any is_line_feed info ≡ false
    → text_size (replicate n (symbol_of fence) ++ info) ≡ record { bytes = n + length info; full = 1; empty = 0 }
fence-line fence zero info some plain = absurd (omega arith)
fence-line fence (suc n) info some plain =
    let f = replicate (suc n) (symbol_of fence) in
    let single : lines (f ++ info) ≡ (f ++ info) ∷ [] =
    behind-marker f info (symbols-line fence (suc n))
    (ap lines (sym (append-nil info)) ∙ behind-marker info [] plain refl ∙ ap (λ t. t ∷ []) (append-nil info)) in
    full-text (f ++ info) single refl
    ∙ ap (λ (k : ℕ). line_of_bytes k)
    (length-append f info ∙ ap (λ k. k + length info) (length-replicate (suc n) (symbol_of fence)))

fences-apart : (f info s : List ℕ)
    → (((((f ++ info) ++ line_feed ∷ []) ++ s) ++ line_feed ∷ []) ++ f)
    ≡ (f ++ info) ++ line_feed ∷ (s ++ line_feed ∷ f)
fences-apart f info s =
    append_assoc (((f ++ info) ++ line_feed ∷ []) ++ s) (line_feed ∷ []) f
    ∙ append_assoc ((f ++ info) ++ line_feed ∷ []) s (line_feed ∷ f)
    ∙ append_assoc (f ++ info) (line_feed ∷ []) (s ++ line_feed ∷ f)

-- a code block of these lines takes no more than they do between the fences of the whole
code-cost : (options : DocumentOptions) (m : Margin) (language : Option (List ℕ)) (s : List ℕ) (l : Line)
    (ls : List Line) → has_language language ≡ true
    → Each (LineOk (symbol_of options.code_block_fence) (longest_run (symbol_of options.code_block_fence) s))
    (l ∷ ls)
    → block_cost (piece_options options) m (code_block language (joined_lines (l ∷ ls)))
    ≤ cost m (fences_size (piece_options options) language s) + sum_by (line_cost m) (l ∷ ls)
code-cost options m language s l ls normal each =
    let symbol = symbol_of options.code_block_fence in
    let t = joined_lines (l ∷ ls) in
    let n = fence_len symbol t in
    let f = replicate n symbol in
    let info = info_string language in
    let short : longest_run symbol t ≤ longest_run symbol s =
    joined-short symbol (longest_run symbol s) l ls (symbol-apart options.code_block_fence) each in
    let le : n ≤ fence_len symbol s = omega (arith, short) in
    let some : 0 < n = omega arith in
    let first = fence-line options.code_block_fence n info some (language-line language normal) in
    let last : text_size f ≡ line_of_bytes n =
    ap text_size (sym (append-nil f)) ∙ fence-line options.code_block_fence n [] some refl
    ∙ ap (λ (k : ℕ). line_of_bytes k) (omega arith) in
    omega (
      arith,
      ap (cost m) (leaf-alone options (code_block language t) refl),
      ap (λ x. cost m (text_size x)) (fences-apart f info t),
      ap (cost m) (size-behind (f ++ info) (t ++ line_feed ∷ f)),
      cost-plus m (plus (text_size (f ++ info)) (gap_size true)) (text_size (t ++ line_feed ∷ f)),
      cost-plus m (text_size (f ++ info)) (gap_size true),
      ap (cost m) (size-behind t f),
      cost-plus m (plus (text_size t) (gap_size true)) (text_size f),
      cost-plus m (text_size t) (gap_size true),
      ap (cost m) first,
      ap (cost m) last,
      joined-cost m l ls,
      zero-mul m.empty,
      zero-mul m.full,
      le,
    )

-- ---- all of it

together-each : (symbol bound : ℕ) (run : List (List Line)) → Each (UnitOk symbol bound) run
    → Each (LineOk symbol bound) (together run)
together-each symbol bound run of_none = of_none
together-each symbol bound run (of_more unit rest here others) =
    each-behind (LineOk symbol bound) unit (together rest) here.each (together-each symbol bound rest others)

pub maps-twice : {X Y Z : Type 0} (g : Y → Z) (f : X → Y) (xs : List X)
    → map g (map f xs) ≡ map (λ x. g (f x)) xs
maps-twice g f [] = refl
maps-twice g f (x ∷ xs) = ap (λ l. g (f x) ∷ l) (maps-twice g f xs)

run-cost : (options : DocumentOptions) (m : Margin) (language : Option (List ℕ)) (s : List ℕ) (unit : List Line)
    (run : List (List Line)) → has_language language ≡ true
    → Each (UnitOk (symbol_of options.code_block_fence) (longest_run (symbol_of options.code_block_fence) s))
    (unit ∷ run)
    → block_cost (piece_options options) m (code_block language (joined_lines (together (unit ∷ run))))
    ≤ lines_cost (cost m (fences_size (piece_options options) language s)) m (unit ∷ run)
run-cost options m language s [] run normal (of_more u us here others) = absurd (let none = here.some in cc)
run-cost options m language s (l ∷ ls) run normal each =
    let symbol = symbol_of options.code_block_fence in
    code-cost options m language s l (ls ++ together run) normal
    (together-each symbol (longest_run symbol s) ((l ∷ ls) ∷ run) each)

one-unit : (symbol bound : ℕ) (language : Option (List ℕ)) (unit : List Line) → UnitOk symbol bound unit
    → is_least (code_block language (joined_lines (together (unit ∷ [])))) ≡ true
one-unit symbol bound language [] ok = absurd (let none = ok.some in cc)
one-unit symbol bound language (l ∷ ls) ok =
    ap (λ t. nat_le (shown_lines (lines (joined_lines t))) 1) (append-nil (l ∷ ls))
    ∙ ap (λ t. nat_le (shown_lines t) 1) (joined-split symbol bound l ls ok.each)
    ∙ le-leb (shown_lines (l ∷ ls)) 1 ok.shown

pub code-well : (options : DocumentOptions) (m : Margin) (most first : ℕ) (language : Option (List ℕ))
    (s : List ℕ)
    → is_normal_block false (code_block language s) ≡ true
    → CutWell options m most first (least (bounds options most) m (code_block language s))
    (cut (bounds options most) m first (code_block language s))
code-well options m most first language s normal =
    let o = piece_options options in
    let symbol = symbol_of options.code_block_fence in
    let bound = longest_run symbol s in
    let fences = cost m (fences_size o language s) in
    let has = (and_parts (has_language language) (list_all is_code_byte s) normal).0 in
    let units = all-units symbol bound (lines s) (some-lines s)
    (lines-ok symbol bound s (lines s) (symbol-apart options.code_block_fence) (splits s) (le_refl bound)) in
    let rs = runs (lines_cost fences m) most first (line_units s) in
    let text_of : List (List Line) → List ℕ = (λ us. joined_lines (together us)) in
    let f : List (List Line) → Block = (λ us. code_block language (text_of us)) in
    subst (λ bs. CutWell options m most first (lines_cost fences m (take 1 (line_units s))) (leaf_parts joint.Code bs))
    (sym (maps-twice (code_block language) text_of rs))
    (leaf-well f joint.Code (FirstBlock options m most first (lines_cost fences m (take 1 (line_units s))))
    (BlockFit options m most) rs
    (runs-well options m most first (lines_cost fences m) (UnitOk symbol bound) f
    (λ unit run each. run-cost options m language s unit run has each)
    (λ unit ok. inr (one-unit symbol bound language unit ok))
    (line_units s) units.0 (λ is. absurd (no-units (line_units s) units.1 is))))
  where
    no-units : (us : List (List Line)) → IsSomething us → us ≡ [] → ⊥
    no-units us (something u rest) is = cc
