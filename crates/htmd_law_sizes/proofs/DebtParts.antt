-- How much of addresses is written in what parts make: a link is written once for what follows each other in it.
use Rattle.std.proofs.Common.{◌≡◌, ◌∙◌, refl, sym, ap, ℕ, zero, suc, ◌+◌, ◌≤◌, Bool, true, false, List, [], ◌∷◌, ◌++◌}
use Rattle.std.proofs.Common.{length, take, drop, map, arith}
use Rattle.std.proofs.lemmas.Bool.Decides.{nat_tests}
use Rattle.std.specs.Prelude.{◌&&◌, ◌==◌, nat_le, not, fold, if◌then◌else◌, Option}
use Rattle.std.specs.Char.{encode_utf8}
use Rattle.std.specs.List.{list_all}
use Rattle.std.specs.Str.{chars}
use Rattle.htmd_lexical.specs.Characters.{space}
use Rattle.htmd_document.specs.Documents.{Inline, text, code, formatted, link, image, line_break, task, Inlines}
use Rattle.htmd_document.specs.Documents.{anchor, no_inlines, inline, Block}
use Rattle.htmd_document.specs.Documents as documents
use Rattle.htmd_document.specs.Formats.{title_of}
use Rattle.htmd_document.proofs.FormatsLemmas.{same-itself}
use Rattle.htmd_flow.specs.declared.paragraphs.Latest.{Latest}
use Rattle.htmd_flow.specs.declared.paragraphs.Latest.TheVariants.{Nothing, Task, Plain, Code}
use Rattle.htmd_flow.specs.declared.paragraphs.Met.TheVariants as met
use Rattle.htmd_flow.specs.Contexts.{apart}
use Rattle.htmd_flow.specs.Flows.{blocks_of, line_of, code_parts}
use Rattle.htmd_flow.specs.Nesting.{is_same, wrapped, text_or_code, joined}
use Rattle.htmd_flow.specs.Nesting.{with_content, in_last, behind, wrapper_of, shared}
use Rattle.htmd_flow.specs.Nesting as nesting
use Rattle.htmd_flow.specs.Paragraphs.{Writing, begun, is_leaf, anchored, shown_content, whole_content, paragraph_of}
use Rattle.htmd_flow.specs.Paragraphs.{open_paragraph, ended, parted, broken_off, spaced_out, white_behind, is_code_gap}
use Rattle.htmd_flow.specs.Paragraphs.{gap_before, gap_behind, latest_of, shared_wrappers, put_before}
use Rattle.htmd_flow.specs.Paragraphs.{shown, after_leaf, is_task_here, boxed, with_task, tasked}
use Rattle.htmd_flow.specs.Paragraphs.{is_boxed_item, edged, blocked, after_character, fed, fed_all, blocks_in}
use Rattle.htmd_flow.specs.Parts.{Around, Part, run, picture, break, place, box, edge, whole}
use Rattle.htmd_flow.specs.Parts as part
use Rattle.htmd_shown.specs.Spaces.{is_white, is_blank_text}
use Rattle.htmd_law_sizes.proofs.Debts.{link_size, debt_inline, debt_inlines, debt_block, debt}

-- ---- what stands around a leaf

abbrev pub rep : List Around → ℕ
rep [] = 0
rep (part.formatted format ∷ around) = length (chars (title_of format)) + rep around
rep (part.linked node address title ∷ around) = link_size address title + rep around

none_left : (n : ℕ) (around : List Around) → rep (drop n (take n around)) ≡ 0
none_left zero around = refl
none_left (suc n) [] = refl
none_left (suc n) (a ∷ around) = none_left n around

dropped_le : (n : ℕ) (around : List Around) → rep (drop n around) ≤ rep around
dropped_le zero around = omega arith
dropped_le (suc n) [] = omega arith
dropped_le (suc n) (part.formatted format ∷ around) = omega (arith, dropped_le n around)
dropped_le (suc n) (part.linked node address title ∷ around) = omega (arith, dropped_le n around)

all_dropped : (around : List Around) → rep (drop (length around) around) ≡ 0
all_dropped [] = refl
all_dropped (a ∷ around) = all_dropped around

-- ---- leaves in what stands around them

wrapped_debt : (around : List Around) (x : Inline) → debt_inline (wrapped around x) ≡ rep around + debt_inline x
wrapped_debt [] x = omega arith
wrapped_debt (part.formatted format ∷ around) x = omega (arith, wrapped_debt around x)
wrapped_debt (part.linked node address title ∷ around) x = omega (arith, wrapped_debt around x)

met_debt : (x y : Inline) → debt_inlines (nesting.met x y) ≤ debt_inline x + debt_inline y
met_debt (text s) (text t) = omega arith
met_debt (text s) (code t) = omega arith
met_debt (text s) (formatted format content) = omega arith
met_debt (text s) (link address title content) = omega arith
met_debt (text s) (image address title description) = omega arith
met_debt (text s) (anchor id) = omega arith
met_debt (text s) line_break = omega arith
met_debt (text s) (task is_checked) = omega arith
met_debt (code s) (text t) = omega arith
met_debt (code s) (code t) = omega arith
met_debt (code s) (formatted format content) = omega arith
met_debt (code s) (link address title content) = omega arith
met_debt (code s) (image address title description) = omega arith
met_debt (code s) (anchor id) = omega arith
met_debt (code s) line_break = omega arith
met_debt (code s) (task is_checked) = omega arith
met_debt (formatted format content) y = omega arith
met_debt (link address title content) y = omega arith
met_debt (image address title description) y = omega arith
met_debt (anchor id) y = omega arith
met_debt line_break y = omega arith
met_debt (task is_checked) y = omega arith

joined_debt : (xs : Inlines) (y : Inline) → debt_inlines (joined xs y) ≤ debt_inlines xs + debt_inline y
joined_debt no_inlines y = omega arith
joined_debt (inline x no_inlines) y = omega (arith, met_debt x y)
joined_debt (inline x (inline x' xs)) y = omega (arith, joined_debt (inline x' xs) y)

content_debt : (change : Inlines → Inlines) (k : ℕ)
    → ((xs : Inlines) → debt_inlines (change xs) ≤ debt_inlines xs + k) → (x : Inline)
    → debt_inline (with_content change x) ≤ debt_inline x + k
content_debt change k h (text s) = omega arith
content_debt change k h (code s) = omega arith
content_debt change k h (formatted format content) = omega (arith, h content)
content_debt change k h (link address title content) = omega (arith, h content)
content_debt change k h (image address title description) = omega arith
content_debt change k h (anchor id) = omega arith
content_debt change k h line_break = omega arith
content_debt change k h (task is_checked) = omega arith

in_last_debt : (change : Inlines → Inlines) (k : ℕ)
    → ((xs : Inlines) → debt_inlines (change xs) ≤ debt_inlines xs + k) → (xs : Inlines)
    → debt_inlines (in_last change xs) ≤ debt_inlines xs + k
in_last_debt change k h no_inlines = omega arith
in_last_debt change k h (inline x no_inlines) = omega (arith, content_debt change k h x)
in_last_debt change k h (inline x (inline x' xs)) = omega (arith, in_last_debt change k h (inline x' xs))

-- what isn't shared stands around the leaf anew
behind_debt : (n : ℕ) (xs : Inlines) (around : List Around) (y : Inline)
    → debt_inlines (behind n xs around y) ≤ debt_inlines xs + (rep (drop n around) + debt_inline y)
behind_debt zero xs around y = omega (arith, joined_debt xs (wrapped around y), wrapped_debt around y)
behind_debt (suc n) xs [] y = omega (arith, joined_debt xs y)
behind_debt (suc n) xs (a ∷ around) y =
    omega (
      arith,
      in_last_debt (λ content. behind n content around y) (rep (drop n around) + debt_inline y)
          (λ content. behind_debt n content around y) xs,
    )

-- in what is shared
shared_debt : (n : ℕ) (xs : Inlines) (around : List Around) (y : Inline)
    → debt_inlines (behind n xs (take n around) y) ≤ debt_inlines xs + debt_inline y
shared_debt n xs around y = omega (arith, behind_debt n xs (take n around) y, none_left n around)

anchored_debt : (n : ℕ) (xs : Inlines) (around : List Around) (ids : List (List ℕ))
    → debt_inlines (anchored n xs around ids) ≤ debt_inlines xs
anchored_debt n xs around [] = omega arith
anchored_debt n xs around (id ∷ ids) =
    omega (
      arith,
      anchored_debt n (behind n xs (take n around) (anchor id)) around ids,
      shared_debt n xs around (anchor id),
    )

-- ---- what is begun

abbrev pub debt_list : List Block → ℕ
debt_list [] = 0
debt_list (b ∷ blocks) = debt_block b + debt_list blocks

list_append : (a b : List Block) → debt_list (a ++ b) ≡ debt_list a + debt_list b
list_append [] b = omega arith
list_append (x ∷ a) b = omega (arith, list_append a b)

list_blocks : (blocks : List Block) → debt (documents.blocks_of blocks) ≡ debt_list blocks
list_blocks [] = refl
list_blocks (b ∷ blocks) = omega (arith, list_blocks blocks)

abbrev pub owed : Writing → ℕ
owed w = debt_list w.done + debt_inlines w.content

paragraph_debt : (xs : Inlines) → debt_list (paragraph_of xs) ≤ debt_inlines xs
paragraph_debt no_inlines = omega arith
paragraph_debt (inline x xs) = omega arith

shown_debt : (w : Writing) → debt_inlines (shown_content w) ≤ debt_inlines w.content
shown_debt w = go (is_leaf w.latest)
  where
    go : (t : Bool) → debt_inlines (if t then w.content else no_inlines) ≤ debt_inlines w.content
    go true = omega arith
    go false = omega arith

whole_debt : (w : Writing) → debt_inlines (whole_content w) ≤ debt_inlines w.content
whole_debt w = omega (arith, anchored_debt 0 (shown_content w) [] w.anchors, shown_debt w)

ended_debt : (w : Writing) → owed (ended w) ≤ owed w
ended_debt w =
    omega (
      arith,
      paragraph_debt (whole_content w),
      whole_debt w,
      list_append w.done (open_paragraph w),
    )

parted_debt : (w : Writing) → owed (parted w) ≤ owed w
parted_debt w = go (not w.is_flat && nat_le 2 w.breaks)
  where
    go : (t : Bool) → owed (if t then ended w else w) ≤ owed w
    go true = ended_debt w
    go false = omega arith

text_debt : (t : Bool) (s : List ℕ) → debt_inline (text_or_code t s) ≡ 0
text_debt true s = refl
text_debt false s = refl

white_debt : (n : ℕ) (xs : Inlines) (around : List Around) (t : Bool) (s : List ℕ)
    → debt_inlines (white_behind n xs around t s) ≤ debt_inlines xs
white_debt n xs around t [] = omega arith
white_debt n xs around t (b ∷ s) =
    omega (arith, shared_debt n xs around (text_or_code t (b ∷ s)), text_debt t (b ∷ s))

before_debt : (w : Writing) (around : List Around) (t : Bool)
    → debt_inlines (gap_before w around t) ≤ debt_inlines w.content
before_debt w around t = go w.gap.has_break
  where
    n : ℕ
    n = shared w.around (map wrapper_of around)

    go : (b : Bool)
        → debt_inlines
        (if b then behind n w.content (take n around) line_break
        else white_behind n w.content around (t && is_code_gap w (map wrapper_of around)) w.gap.white)
        ≤ debt_inlines w.content
    go true = omega (arith, shared_debt n w.content around line_break)
    go false =
        white_debt n w.content around (t && is_code_gap w (map wrapper_of around)) w.gap.white

gap_debt : (l : Latest) (w : Writing) (around : List Around) (t : Bool)
    → debt_inlines (gap_behind l w around t) ≤ debt_inlines w.content
gap_debt Nothing w around t = omega arith
gap_debt Task w around t = omega (arith, behind_debt 0 w.content [] (text (space ∷ [])))
gap_debt Plain w around t = before_debt w around t
gap_debt Code w around t = before_debt w around t

leaf_debt : (w : Writing) (around : List Around) (t : Bool) (leaf : Inline) → debt_inline leaf ≡ 0
    → owed (shown w around t leaf) ≤ owed w + rep (drop (shared_wrappers w (map wrapper_of around)) around)
leaf_debt w around t leaf h =
    let n = shared_wrappers w (map wrapper_of around) in
    omega (
      arith,
      h,
      behind_debt n (put_before w around t) around leaf,
      anchored_debt n (gap_behind w.latest w around t) around w.anchors,
      gap_debt w.latest w around t,
    )

-- ---- leaves that follow each other in the same

-- all that stands around stands around what showed last too, in the same paragraph
abbrev hot : List Around → Writing → Bool
hot around w =
    is_leaf w.latest && (shared w.around (map wrapper_of around) == length around)
    && not (not w.is_flat && nat_le 2 w.breaks)

-- with what is still to be written of the links around
abbrev pub ready : List Around → Writing → ℕ
ready around w = owed w + (if hot around w then 0 else rep around)

same_wrapper : (a : Around) → is_same (wrapper_of a) (wrapper_of a) ≡ true
same_wrapper (part.formatted format) = same-itself format
same_wrapper (part.linked node address title) = grind (arith, nat_tests)

shared_all : (around : List Around)
    → shared (map wrapper_of around) (map wrapper_of around) ≡ length around
shared_all [] = refl
shared_all (a ∷ around) = go (is_same (wrapper_of a) (wrapper_of a)) (same_wrapper a) (shared_all around)
  where
    go : (t : Bool) → t ≡ true
        → shared (map wrapper_of around) (map wrapper_of around) ≡ length around
        → (if t then suc (shared (map wrapper_of around) (map wrapper_of around)) else 0) ≡ suc (length around)
    go true e i = ap suc i
    go false e i = absurd (cc)

equal : (a b : ℕ) → a ≡ b → (a == b) ≡ true
equal a b e = grind (arith, nat_tests)

equals : (a b : ℕ) → (a == b) ≡ true → a ≡ b
equals a b e = grind (arith, nat_tests)

-- a leaf is the last thing that showed
shown_hot : (w : Writing) (around : List Around) (t : Bool) (leaf : Inline)
    → hot around (shown w around t leaf) ≡ true
shown_hot w around t leaf =
    go t w.is_flat
    (equal (shared (map wrapper_of around) (map wrapper_of around)) (length around) (shared_all around))
  where
    go : (x y : Bool) → (shared (map wrapper_of around) (map wrapper_of around) == length around) ≡ true
        → (is_leaf (latest_of x) && (shared (map wrapper_of around) (map wrapper_of around) == length around)
        && not (not y && nat_le 2 0)) ≡ true
    go true true e = rw e refl
    go true false e = rw e refl
    go false true e = rw e refl
    go false false e = rw e refl

-- a leaf right after one in the same
hot_leaf : (w : Writing) (around : List Around) (t : Bool) (leaf : Inline) → debt_inline leaf ≡ 0
    → (a b c : Bool) → is_leaf w.latest ≡ a
    → (shared w.around (map wrapper_of around) == length around) ≡ b
    → (not w.is_flat && nat_le 2 w.breaks) ≡ c
    → owed (shown (if c then ended w else w) around t leaf)
    ≤ owed w + (if a && b && not c then 0 else rep around)
hot_leaf w around t leaf h true true false e f g =
    let n = shared w.around (map wrapper_of around) in
    let i : n ≡ length around = equals n (length around) f in
    let j : shared_wrappers w (map wrapper_of around) ≡ n = rw e refl in
    let k : rep (drop (shared_wrappers w (map wrapper_of around)) around) ≡ 0 =
    ap (λ (x : ℕ). rep (drop x around)) (j ∙ i) ∙ all_dropped around in
    omega (arith, leaf_debt w around t leaf h, k)
hot_leaf w around t leaf h true true true e f g =
    omega (
      arith,
      leaf_debt (ended w) around t leaf h,
      dropped_le (shared_wrappers (ended w) (map wrapper_of around)) around,
      ended_debt w,
    )
hot_leaf w around t leaf h true false false e f g =
    omega (arith, leaf_debt w around t leaf h, dropped_le (shared_wrappers w (map wrapper_of around)) around)
hot_leaf w around t leaf h true false true e f g =
    omega (
      arith,
      leaf_debt (ended w) around t leaf h,
      dropped_le (shared_wrappers (ended w) (map wrapper_of around)) around,
      ended_debt w,
    )
hot_leaf w around t leaf h false b false e f g =
    omega (arith, leaf_debt w around t leaf h, dropped_le (shared_wrappers w (map wrapper_of around)) around)
hot_leaf w around t leaf h false b true e f g =
    omega (
      arith,
      leaf_debt (ended w) around t leaf h,
      dropped_le (shared_wrappers (ended w) (map wrapper_of around)) around,
      ended_debt w,
    )

leaf_ready : (w : Writing) (around : List Around) (t : Bool) (leaf : Inline) → debt_inline leaf ≡ 0
    → ready around (after_leaf w around t leaf) ≤ ready around w
leaf_ready w around t leaf h =
    let i = shown_hot (parted w) around t leaf in
    let j =
    hot_leaf w around t leaf h (is_leaf w.latest) (shared w.around (map wrapper_of around) == length around)
    (not w.is_flat && nat_le 2 w.breaks) refl refl refl in
    omega (
      arith,
      j,
      ap (λ (x : Bool). if x then 0 else rep around) i,
    )

character_ready : (w : Writing) (around : List Around) (t : Bool) (c : ℕ)
    → ready around (after_character w around t c) ≤ ready around w
character_ready w around t c = go (is_white c)
  where
    leaf : Inline
    leaf = text_or_code t (encode_utf8 c)

    go : (b : Bool) → ready around (if b then spaced_out w c t else after_leaf w around t leaf) ≤ ready around w
    go true = omega arith
    go false = leaf_ready w around t leaf (text_debt t (encode_utf8 c))

characters_ready : (cs : List ℕ) (w : Writing) (around : List Around) (t : Bool)
    → ready around (fold (λ v c. after_character v around t c) w cs) ≤ ready around w
characters_ready [] w around t = omega arith
characters_ready (c ∷ cs) w around t =
    omega (
      arith,
      characters_ready cs (after_character w around t c) around t,
      character_ready w around t c,
    )

ready_le : (around : List Around) (w : Writing) → ready around w ≤ owed w + rep around
ready_le around w = go (hot around w)
  where
    go : (t : Bool) → owed w + (if t then 0 else rep around) ≤ owed w + rep around
    go true = omega arith
    go false = omega arith

-- ---- white space alone

blank_debt : (cs : List ℕ) (w : Writing) (around : List Around) (t : Bool) → list_all is_white cs ≡ true
    → owed (fold (λ v c. after_character v around t c) w cs) ≤ owed w
blank_debt [] w around t h = omega arith
blank_debt (c ∷ cs) w around t h = go (is_white c) h (λ v i. blank_debt cs v around t i)
  where
    leaf : Inline
    leaf = text_or_code t (encode_utf8 c)

    go : (b : Bool) → (b && list_all is_white cs) ≡ true
        → ((v : Writing) → list_all is_white cs ≡ true
        → owed (fold (λ v c. after_character v around t c) v cs) ≤ owed v)
        → owed
        (fold (λ v c. after_character v around t c) (if b then spaced_out w c t else after_leaf w around t leaf) cs)
        ≤ owed w
    go true e i = i (spaced_out w c t) e
    go false e i = absurd (cc)

-- ---- whether all is one line

parted_flat : (w : Writing) → (parted w).is_flat ≡ w.is_flat
parted_flat w = go (not w.is_flat && nat_le 2 w.breaks)
  where
    go : (t : Bool) → (if t then ended w else w).is_flat ≡ w.is_flat
    go true = refl
    go false = refl

character_flat : (w : Writing) (around : List Around) (t : Bool) (c : ℕ)
    → (after_character w around t c).is_flat ≡ w.is_flat
character_flat w around t c = go (is_white c)
  where
    leaf : Inline
    leaf = text_or_code t (encode_utf8 c)

    go : (b : Bool) → (if b then spaced_out w c t else after_leaf w around t leaf).is_flat ≡ w.is_flat
    go true = refl
    go false = parted_flat w

characters_flat : (cs : List ℕ) (w : Writing) (around : List Around) (t : Bool)
    → (fold (λ v c. after_character v around t c) w cs).is_flat ≡ w.is_flat
characters_flat [] w around t = refl
characters_flat (c ∷ cs) w around t =
    characters_flat cs (after_character w around t c) around t ∙ character_flat w around t c

tasked_flat : (w : Writing) (t : Bool) → (tasked w t).is_flat ≡ w.is_flat
tasked_flat w t = go (is_task_here w)
  where
    go : (b : Bool) → (if b then with_task (boxed w) t else boxed w).is_flat ≡ w.is_flat
    go true = refl
    go false = refl

edged_flat : (w : Writing) → (edged w).is_flat ≡ w.is_flat
edged_flat w = go w.is_flat (is_boxed_item w)
  where
    go : (a b : Bool)
        → (if a then broken_off w else (if b then w else record (ended w) { met = met.Nothing })).is_flat
        ≡ w.is_flat
    go true b = refl
    go false true = refl
    go false false = refl

blocked_flat : (w : Writing) (x : Block) → (blocked w x).is_flat ≡ w.is_flat
blocked_flat w x = go w.is_flat
  where
    go : (b : Bool)
        → (if b then broken_off w
        else record (ended w) { done = (ended w).done ++ x ∷ []; met = met.Nothing }).is_flat
        ≡ w.is_flat
    go true = refl
    go false = refl

fed_flat : (w : Writing) (p : Part) → (fed w p).is_flat ≡ w.is_flat
fed_flat w (run s around t) = characters_flat (chars s) w around t
fed_flat w (picture address title description around) = parted_flat w
fed_flat w break = refl
fed_flat w (place id) = parted_flat w
fed_flat w (box t) = tasked_flat (parted w) t ∙ parted_flat w
fed_flat w edge = edged_flat w
fed_flat w (whole x) = blocked_flat w x

pub all_flat : (parts : List Part) (w : Writing) → (fed_all w parts).is_flat ≡ w.is_flat
all_flat [] w = refl
all_flat (p ∷ parts) w = all_flat parts (fed w p) ∙ fed_flat w p

all_append : (a b : List Part) (w : Writing) → fed_all w (a ++ b) ≡ fed_all (fed_all w a) b
all_append [] b w = refl
all_append (p ∷ a) b w = all_append a b (fed w p)

-- ---- parts

-- how much of addresses parts add at most, in one line or not
pub record Costs (f : Bool) (parts : List Part) (k : ℕ) : Type 0 where
  pub at : (w : Writing) → w.is_flat ≡ f → owed (fed_all w parts) ≤ owed w + k

pub at_most : (f : Bool) (parts : List Part) (j k : ℕ) → j ≤ k → Costs f parts j → Costs f parts k
at_most f parts j k h c = record { at = λ w e. omega (arith, c.at w e, h) }

-- the same of lines that are known to be one or not
pub loosely : (f : Bool) (parts : List Part) (k : ℕ) → f ≡ false → Costs f parts k → Costs false parts k
loosely f parts k e c = record { at = λ w g. c.at w (g ∙ sym e) }

pub strictly : (f : Bool) (parts : List Part) (k : ℕ) → f ≡ false → Costs false parts k → Costs f parts k
strictly f parts k e c = record { at = λ w g. c.at w (g ∙ e) }

pub nothing : (f : Bool) → Costs f [] 0
nothing f = record { at = λ w e. omega arith }

pub both : (f : Bool) (a b : List Part) (j k : ℕ) → Costs f a j → Costs f b k → Costs f (a ++ b) (j + k)
both f a b j k c d = record {
  at = λ w e. omega (
    arith,
    ap owed (all_append a b w),
    c.at w e,
    d.at (fed_all w a) (all_flat a w ∙ e),
  );
}

pub run_cost : (f : Bool) (s : List ℕ) (around : List Around) (t : Bool)
    → Costs f (run s around t ∷ []) (rep around)
run_cost f s around t = record {
  at = λ w e. omega (arith, characters_ready (chars s) w around t, ready_le around w);
}

pub blank_cost : (f : Bool) (s : List ℕ) (around : List Around) (t : Bool) → is_blank_text s ≡ true
    → Costs f (run s around t ∷ []) 0
blank_cost f s around t h = record { at = λ w e. omega (arith, blank_debt (chars s) w around t h) }

pub space_blank : is_blank_text (space ∷ []) ≡ true
unfolding chars
space_blank = refl

-- of runs in the same the first writes what stands around it
pub three_cost : (f : Bool) (r s u : List ℕ) (around : List Around) (x y z : Bool)
    → Costs f (run r around x ∷ run s around y ∷ run u around z ∷ []) (rep around)
three_cost f r s u around x y z = record {
  at = λ w e.
      let v = fold (λ a c. after_character a around x c) w (chars r) in
      let q = fold (λ a c. after_character a around y c) v (chars s) in
      omega (
        arith,
        characters_ready (chars r) w around x,
        characters_ready (chars s) v around y,
        characters_ready (chars u) q around z,
        ready_le around w,
      );
}

pub picture_cost : (f : Bool) (address : List ℕ) (title : Option (List ℕ)) (description : List ℕ)
    (around : List Around)
    → Costs f (picture address title description around ∷ []) (rep around)
picture_cost f address title description around = record {
  at = λ w e. omega (
    arith,
    leaf_ready w around false (image address title description) refl,
    ready_le around w,
  );
}

pub break_cost : (f : Bool) → Costs f (break ∷ []) 0
break_cost f = record { at = λ w e. omega arith }

pub place_cost : (f : Bool) (id : List ℕ) → Costs f (place id ∷ []) 0
place_cost f id = record { at = λ w e. omega (arith, parted_debt w) }

tasked_debt : (w : Writing) (t : Bool) → owed (tasked w t) ≤ owed w
tasked_debt w t = go (is_task_here w)
  where
    go : (b : Bool) → owed (if b then with_task (boxed w) t else boxed w) ≤ owed w
    go true = omega arith
    go false = omega arith

pub box_cost : (f : Bool) (t : Bool) → Costs f (box t ∷ []) 0
box_cost f t = record { at = λ w e. omega (arith, tasked_debt (parted w) t, parted_debt w) }

edged_debt : (w : Writing) → owed (edged w) ≤ owed w
edged_debt w = go w.is_flat (is_boxed_item w)
  where
    go : (a b : Bool)
        → owed (if a then broken_off w else (if b then w else record (ended w) { met = met.Nothing })) ≤ owed w
    go true b = omega arith
    go false true = omega arith
    go false false = ended_debt w

pub edge_cost : (f : Bool) → Costs f (edge ∷ []) 0
edge_cost f = record { at = λ w e. omega (arith, edged_debt w) }

pub edge_before : (f : Bool) (parts : List Part) (k : ℕ) → Costs f parts k → Costs f (edge ∷ parts) k
edge_before f parts k c = record { at = λ w e. omega (arith, edged_debt w, c.at (edged w) (edged_flat w ∙ e)) }

blocked_debt : (w : Writing) (x : Block) → owed (blocked w x) ≤ owed w + debt_block x
blocked_debt w x = go w.is_flat
  where
    go : (b : Bool)
        → owed
        (if b then broken_off w else record (ended w) { done = (ended w).done ++ x ∷ []; met = met.Nothing })
        ≤ owed w + debt_block x
    go true = omega arith
    go false = omega (arith, ended_debt w, list_append (ended w).done (x ∷ []))

flat_block : (w : Writing) (x : Block) → w.is_flat ≡ true → owed (blocked w x) ≤ owed w
flat_block w x e = go w.is_flat e
  where
    go : (b : Bool) → b ≡ true
        → owed
        (if b then broken_off w else record (ended w) { done = (ended w).done ++ x ∷ []; met = met.Nothing })
        ≤ owed w
    go true i = omega arith
    go false i = absurd (cc)

-- in one line a block is none
pub flat_cost : (x : Block) → Costs true (whole x ∷ []) 0
flat_cost x = record { at = λ w e. omega (arith, flat_block w x e) }

pub block_cost : (f : Bool) (x : Block) → Costs f (whole x ∷ []) (debt_block x)
block_cost f x = record { at = λ w e. omega (arith, blocked_debt w x) }

-- in one line an edge parts nothing
flat_edge : (w : Writing) (around : List Around) → w.is_flat ≡ true → ready around (edged w) ≤ ready around w
flat_edge w around e = go w.is_flat e
  where
    go : (a : Bool) → a ≡ true
        → owed
        (if a then broken_off w
        else (if is_boxed_item w then w else record (ended w) { met = met.Nothing }))
        + (if hot around
        (if a then broken_off w
        else (if is_boxed_item w then w else record (ended w) { met = met.Nothing })) then 0 else rep around)
        ≤ ready around w
    go true i = rw e (omega arith)
    go false i = absurd (cc)

code_ready : (ls : List (List ℕ)) (around : List Around) (w : Writing) → w.is_flat ≡ true
    → ready around (fed_all w (code_parts ls around)) ≤ ready around w
code_ready [] around w e = omega arith
code_ready (l ∷ ls) around w e =
    let v = fold (λ a c. after_character a around true c) w (chars l) in
    let i : v.is_flat ≡ true = characters_flat (chars l) w around true ∙ e in
    omega (
      arith,
      characters_ready (chars l) w around true,
      flat_edge v around i,
      code_ready ls around (edged v) (edged_flat v ∙ i),
    )

-- so lines of code in one line write what stands around them once
pub code_cost : (ls : List (List ℕ)) (around : List Around) → Costs true (code_parts ls around) (rep around)
code_cost ls around = record { at = λ w e. omega (arith, code_ready ls around w e, ready_le around w) }

pub apart_cost : (f : Bool) (parts : List Part) (k : ℕ) → Costs f parts k → Costs f (apart parts) k
apart_cost f parts k c = record {
  at = λ w e. omega (
    arith,
    edged_debt w,
    ap owed (all_append parts (edge ∷ []) (edged w)),
    c.at (edged w) (edged_flat w ∙ e),
    edged_debt (fed_all (edged w) parts),
  );
}

-- the blocks, and the one line, that parts make
pub in_cost : (w : Writing) → debt (blocks_in w) ≤ owed w
in_cost w = omega (arith, list_blocks (ended w).done, ended_debt w)

pub blocks_cost : (in_item f : Bool) (parts : List Part) (k : ℕ) → f ≡ false → Costs f parts k
    → debt (blocks_of in_item parts) ≤ k
blocks_cost in_item f parts k e c =
    omega (arith, in_cost (fed_all (begun in_item false) parts), c.at (begun in_item false) (sym e))

pub line_cost : (parts : List Part) (k : ℕ) → Costs true parts k → debt_inlines (line_of parts) ≤ k
line_cost parts k c =
    omega (arith, whole_debt (fed_all (begun false true) parts), c.at (begun false true) refl)
