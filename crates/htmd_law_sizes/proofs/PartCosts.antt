-- How big what is made of parts is, without what is repeated; each byte of a text counts six.
use Rattle.std.proofs.Common.{◌≡◌, refl, ℕ, zero, suc, ◌+◌, ◌*◌, ◌≤◌, Bool, true, false, List, [], ◌∷◌, ◌++◌, length}
use Rattle.std.proofs.Common.{take, drop, map, suc-mul, zero-mul, mul-le-mul_right, arith}
use Rattle.std.proofs.lemmas.List.{length-append}
use Rattle.std.specs.Prelude.{◌&&◌, nat_le, not, fold, if◌then◌else◌}
use Rattle.std.specs.Char.{encode_utf8}
use Rattle.std.specs.Str.{chars}
use Rattle.htmd_lexical.specs.Characters.{space}
use Rattle.htmd_lexical.specs.WhiteSpace.{is_ascii_white_space}
use Rattle.htmd_flow.specs.declared.paragraphs.Latest.{Latest}
use Rattle.htmd_flow.specs.declared.paragraphs.Latest.TheVariants.{Nothing, Task, Plain, Code}
use Rattle.htmd_flow.specs.declared.paragraphs.Met.TheVariants as met
use Rattle.htmd_document.specs.Documents.{Inline, text, code, formatted, link, image, line_break, task, Inlines}
use Rattle.htmd_document.specs.Documents.{anchor, no_inlines, inline, Block}
use Rattle.htmd_document.specs.Documents as documents
use Rattle.htmd_flow.specs.Flows.{blocks_of, line_of}
use Rattle.htmd_flow.specs.Nesting.{wrapped, text_or_code, met, joined, with_content, in_last}
use Rattle.htmd_flow.specs.Nesting.{behind, wrapper_of, shared}
use Rattle.htmd_flow.specs.Nesting as nesting
use Rattle.htmd_flow.specs.Paragraphs.{Writing, begun, is_leaf, anchored, shown_content, whole_content, paragraph_of}
use Rattle.htmd_flow.specs.Paragraphs.{open_paragraph, ended, parted, broken_off, spaced_out, white_behind, is_code_gap}
use Rattle.htmd_flow.specs.Paragraphs.{gap_before, gap_behind, shared_wrappers, put_before, shown}
use Rattle.htmd_flow.specs.Paragraphs.{after_leaf, is_task_here, boxed, with_task, tasked, is_boxed_item}
use Rattle.htmd_flow.specs.Paragraphs.{edged, blocked, after_character, fed, fed_all, blocks_in}
use Rattle.htmd_flow.specs.Parts.{Around, Part, run, picture, break, place, box, edge, whole}
use Rattle.htmd_flow.specs.Parts as part
use Rattle.htmd_document_of_tree.proofs.TextBytesLemmas.{encoded_le}
use Rattle.htmd_shown.specs.Spaces.{Gap, spaced, shown_white, is_white, ends_with_space}
use Rattle.htmd_law_sizes.specs.DocumentSizes.{size_of_option}
use Rattle.htmd_law_sizes.proofs.HeavySizes.{heavy_inline, heavy_inlines, heavy_block, heavy}
use Rattle.htmd_law_sizes.specs.SimpleSizes.{size_of_ids}
use Rattle.htmd_document_of_tree.proofs.TextLengths.{characters_le}

-- ---- leaves in what stands around them

none_left : (n : ℕ) (around : List Around) → length (drop n (take n around)) ≡ 0
none_left zero around = refl
none_left (suc n) [] = refl
none_left (suc n) (a ∷ around) = none_left n around

dropped_le : (n : ℕ) (around : List Around) → length (drop n around) ≤ length around
dropped_le zero around = omega arith
dropped_le (suc n) [] = omega arith
dropped_le (suc n) (a ∷ around) = omega (arith, dropped_le n around)

wrapped_size : (around : List Around) (x : Inline)
    → heavy_inline (wrapped around x) ≡ length around + heavy_inline x
wrapped_size [] x = omega arith
wrapped_size (part.formatted format ∷ around) x = omega (arith, wrapped_size around x)
wrapped_size (part.linked node address title ∷ around) x = omega (arith, wrapped_size around x)

met_le : (x y : Inline) → heavy_inlines (nesting.met x y) ≤ heavy_inline x + heavy_inline y
met_le (text s) (text t) = omega (arith, length-append s t)
met_le (text s) (code t) = omega arith
met_le (text s) (formatted format content) = omega arith
met_le (text s) (link address title content) = omega arith
met_le (text s) (image address title description) = omega arith
met_le (text s) (anchor id) = omega arith
met_le (text s) line_break = omega arith
met_le (text s) (task is_checked) = omega arith
met_le (code s) (text t) = omega arith
met_le (code s) (code t) = omega (arith, length-append s t)
met_le (code s) (formatted format content) = omega arith
met_le (code s) (link address title content) = omega arith
met_le (code s) (image address title description) = omega arith
met_le (code s) (anchor id) = omega arith
met_le (code s) line_break = omega arith
met_le (code s) (task is_checked) = omega arith
met_le (formatted format content) y = omega arith
met_le (link address title content) y = omega arith
met_le (image address title description) y = omega arith
met_le (anchor id) y = omega arith
met_le line_break y = omega arith
met_le (task is_checked) y = omega arith

joined_le : (xs : Inlines) (y : Inline) → heavy_inlines (joined xs y) ≤ heavy_inlines xs + heavy_inline y
joined_le no_inlines y = omega arith
joined_le (inline x no_inlines) y = omega (arith, met_le x y)
joined_le (inline x (inline x' xs)) y = omega (arith, joined_le (inline x' xs) y)

content_le : (change : Inlines → Inlines) (k : ℕ)
    → ((xs : Inlines) → heavy_inlines (change xs) ≤ heavy_inlines xs + k) → (x : Inline)
    → heavy_inline (with_content change x) ≤ heavy_inline x + k
content_le change k h (text s) = omega arith
content_le change k h (code s) = omega arith
content_le change k h (formatted format content) = omega (arith, h content)
content_le change k h (link address title content) = omega (arith, h content)
content_le change k h (image address title description) = omega arith
content_le change k h (anchor id) = omega arith
content_le change k h line_break = omega arith
content_le change k h (task is_checked) = omega arith

in_last_le : (change : Inlines → Inlines) (k : ℕ)
    → ((xs : Inlines) → heavy_inlines (change xs) ≤ heavy_inlines xs + k) → (xs : Inlines)
    → heavy_inlines (in_last change xs) ≤ heavy_inlines xs + k
in_last_le change k h no_inlines = omega arith
in_last_le change k h (inline x no_inlines) = omega (arith, content_le change k h x)
in_last_le change k h (inline x (inline x' xs)) = omega (arith, in_last_le change k h (inline x' xs))

-- what isn't shared stands around the leaf anew
behind_le : (n : ℕ) (xs : Inlines) (around : List Around) (y : Inline)
    → heavy_inlines (behind n xs around y) ≤ heavy_inlines xs + (length (drop n around) + heavy_inline y)
behind_le zero xs around y = omega (arith, joined_le xs (wrapped around y), wrapped_size around y)
behind_le (suc n) xs [] y = omega (arith, joined_le xs y)
behind_le (suc n) xs (a ∷ around) y =
    omega (
      arith,
      in_last_le (λ content. behind n content around y) (length (drop n around) + heavy_inline y)
          (λ content. behind_le n content around y) xs,
    )

-- in what is shared
shared_le : (n : ℕ) (xs : Inlines) (around : List Around) (y : Inline)
    → heavy_inlines (behind n xs (take n around) y) ≤ heavy_inlines xs + heavy_inline y
shared_le n xs around y = omega (arith, behind_le n xs (take n around) y, none_left n around)

anchored_le : (n : ℕ) (xs : Inlines) (around : List Around) (ids : List (List ℕ))
    → heavy_inlines (anchored n xs around ids) ≤ heavy_inlines xs + size_of_ids ids
anchored_le n xs around [] = omega arith
anchored_le n xs around (id ∷ ids) =
    omega (
      arith,
      anchored_le n (behind n xs (take n around) (anchor id)) around ids,
      shared_le n xs around (anchor id),
    )

-- ---- what is begun

abbrev pub heavy_list : List Block → ℕ
heavy_list [] = 0
heavy_list (b ∷ blocks) = heavy_block b + heavy_list blocks

list_append : (a b : List Block) → heavy_list (a ++ b) ≡ heavy_list a + heavy_list b
list_append [] b = omega arith
list_append (x ∷ a) b = omega (arith, list_append a b)

list_blocks : (blocks : List Block) → heavy (documents.blocks_of blocks) ≡ heavy_list blocks
list_blocks [] = refl
list_blocks (b ∷ blocks) = omega (arith, list_blocks blocks)

abbrev one_if : Bool → ℕ
one_if t = if t then 1 else 0

-- its blocks, its inlines, and what came after them
abbrev pub weight : Writing → ℕ
weight w =
    heavy_list w.done + heavy_inlines w.content + 6 * length w.gap.white + one_if w.gap.has_break
    + size_of_ids w.anchors

paragraph_le : (xs : Inlines) → heavy_list (paragraph_of xs) ≤ suc (heavy_inlines xs)
paragraph_le no_inlines = omega arith
paragraph_le (inline x xs) = omega arith

content_shown : (w : Writing) → heavy_inlines (shown_content w) ≤ heavy_inlines w.content
content_shown w = go (is_leaf w.latest)
  where
    go : (t : Bool) → heavy_inlines (if t then w.content else no_inlines) ≤ heavy_inlines w.content
    go true = omega arith
    go false = omega arith

whole_le : (w : Writing) → heavy_inlines (whole_content w) ≤ heavy_inlines w.content + size_of_ids w.anchors
whole_le w = omega (arith, anchored_le 0 (shown_content w) [] w.anchors, content_shown w)

ended_le : (w : Writing) → weight (ended w) ≤ weight w + 1
ended_le w =
    omega (
      arith,
      paragraph_le (whole_content w),
      whole_le w,
      list_append w.done (open_paragraph w),
    )

parted_le : (w : Writing) → weight (parted w) ≤ weight w + 1
parted_le w = go (not w.is_flat && nat_le 2 w.breaks)
  where
    go : (t : Bool) → weight (if t then ended w else w) ≤ weight w + 1
    go true = ended_le w
    go false = omega arith

text_or_code_size : (t : Bool) (s : List ℕ) → heavy_inline (text_or_code t s) ≤ suc (6 * length s)
text_or_code_size true s = omega arith
text_or_code_size false s = omega arith

white_le : (n : ℕ) (xs : Inlines) (around : List Around) (t : Bool) (s : List ℕ)
    → heavy_inlines (white_behind n xs around t s) ≤ heavy_inlines xs + 1 + 6 * length s
white_le n xs around t [] = omega arith
white_le n xs around t (b ∷ s) =
    omega (arith, shared_le n xs around (text_or_code t (b ∷ s)), text_or_code_size t (b ∷ s))

before_le : (w : Writing) (around : List Around) (t : Bool)
    → heavy_inlines (gap_before w around t) ≤ heavy_inlines w.content + 2 + 6 * length w.gap.white
before_le w around t = go w.gap.has_break
  where
    n : ℕ
    n = shared w.around (map wrapper_of around)

    go : (b : Bool)
        → heavy_inlines
        (if b then behind n w.content (take n around) line_break
        else white_behind n w.content around (t && is_code_gap w (map wrapper_of around)) w.gap.white)
        ≤ heavy_inlines w.content + 2 + 6 * length w.gap.white
    go true = omega (arith, shared_le n w.content around line_break)
    go false =
        omega (arith, white_le n w.content around (t && is_code_gap w (map wrapper_of around)) w.gap.white)

gap_le : (l : Latest) (w : Writing) (around : List Around) (t : Bool)
    → heavy_inlines (gap_behind l w around t) ≤ heavy_inlines w.content + 7 + 6 * length w.gap.white
gap_le Nothing w around t = omega arith
gap_le Task w around t = omega (arith, behind_le 0 w.content [] (text (space ∷ [])))
gap_le Plain w around t = omega (arith, before_le w around t)
gap_le Code w around t = omega (arith, before_le w around t)

shown_le : (w : Writing) (around : List Around) (t : Bool) (leaf : Inline)
    → weight (shown w around t leaf) ≤ weight w + 7 + length around + heavy_inline leaf
shown_le w around t leaf =
    let n = shared_wrappers w (map wrapper_of around) in
    omega (
      arith,
      behind_le n (put_before w around t) around leaf,
      dropped_le n around,
      anchored_le n (gap_behind w.latest w around t) around w.anchors,
      gap_le w.latest w around t,
    )

leaf_le : (w : Writing) (around : List Around) (t : Bool) (leaf : Inline)
    → weight (after_leaf w around t leaf) ≤ weight w + 8 + length around + heavy_inline leaf
leaf_le w around t leaf = omega (arith, shown_le (parted w) around t leaf, parted_le w)

spaced_le : (g : Gap) (c : ℕ) (t : Bool)
    → 6 * length (spaced g c t).white + one_if (spaced g c t).has_break
    ≤ 6 * length g.white + one_if g.has_break + 24
spaced_le g c t = go (is_ascii_white_space c && ends_with_space g.white)
  where
    more : Gap
    more = record g { white = g.white ++ encode_utf8 (shown_white c); is_code = g.is_code && t }

    go : (b : Bool)
        → 6 * length (if b then g else more).white + one_if (if b then g else more).has_break
        ≤ 6 * length g.white + one_if g.has_break + 24
    go true = omega arith
    go false = omega (arith, length-append g.white (encode_utf8 (shown_white c)), encoded_le (shown_white c))

character_le : (w : Writing) (around : List Around) (t : Bool) (c : ℕ)
    → weight (after_character w around t c) ≤ weight w + (33 + length around)
character_le w around t c = go (is_white c)
  where
    leaf : Inline
    leaf = text_or_code t (encode_utf8 c)

    go : (b : Bool)
        → weight (if b then spaced_out w c t else after_leaf w around t leaf) ≤ weight w + (33 + length around)
    go true = omega (arith, spaced_le w.gap c t)
    go false = omega (arith, leaf_le w around t leaf, text_or_code_size t (encode_utf8 c), encoded_le c)

characters_weight : (cs : List ℕ) (w : Writing) (around : List Around) (t : Bool)
    → weight (fold (λ v c. after_character v around t c) w cs) ≤ weight w + length cs * (33 + length around)
characters_weight [] w around t = omega (arith, zero-mul (33 + length around))
characters_weight (c ∷ cs) w around t =
    omega (
      arith,
      characters_weight cs (after_character w around t c) around t,
      character_le w around t c,
      suc-mul (length cs) (33 + length around),
    )

-- ---- parts

-- how much a part adds at most
abbrev pub cost_of : Part → ℕ
cost_of (run s around is_code) = length s * (33 + length around)
cost_of (picture address title description around) =
    9 + length address + size_of_option title + length description + length around
cost_of break = 1
cost_of (place id) = 2 + length id
cost_of (box is_checked) = 2
cost_of edge = 1
cost_of (whole b) = 1 + heavy_block b

abbrev pub costs : List Part → ℕ
costs [] = 0
costs (p ∷ parts) = cost_of p + costs parts

pub costs_append : (a b : List Part) → costs (a ++ b) ≡ costs a + costs b
costs_append [] b = omega arith
costs_append (p ∷ a) b = omega (arith, costs_append a b)

ids_append : (a b : List (List ℕ)) → size_of_ids (a ++ b) ≡ size_of_ids a + size_of_ids b
ids_append [] b = omega arith
ids_append (x ∷ a) b = omega (arith, ids_append a b)

broken_le : (w : Writing) → weight (broken_off w) ≤ weight w + 1
broken_le w = omega arith

tasked_le : (w : Writing) (t : Bool) → weight (tasked w t) ≤ weight w + 1
tasked_le w t = go (is_task_here w)
  where
    go : (b : Bool) → weight (if b then with_task (boxed w) t else boxed w) ≤ weight w + 1
    go true = omega arith
    go false = omega arith

edged_le : (w : Writing) → weight (edged w) ≤ weight w + 1
edged_le w = go w.is_flat (is_boxed_item w)
  where
    go : (a b : Bool)
        → weight (if a then broken_off w else (if b then w else record (ended w) { met = met.Nothing })) ≤ weight w
        + 1
    go true b = broken_le w
    go false true = omega arith
    go false false = omega (arith, ended_le w)

blocked_le : (w : Writing) (x : Block) → weight (blocked w x) ≤ weight w + (1 + heavy_block x)
blocked_le w x = go w.is_flat
  where
    go : (b : Bool)
        → weight
        (if b then broken_off w else record (ended w) { done = (ended w).done ++ x ∷ []; met = met.Nothing })
        ≤ weight w + (1 + heavy_block x)
    go true = omega (arith, broken_le w)
    go false = omega (arith, ended_le w, list_append (ended w).done (x ∷ []))

fed_le : (w : Writing) (p : Part) → weight (fed w p) ≤ weight w + cost_of p
fed_le w (run s around t) =
    omega (
      arith,
      characters_weight (chars s) w around t,
      mul-le-mul_right (33 + length around) (characters_le s),
    )
fed_le w (picture address title description around) =
    omega (arith, leaf_le w around false (image address title description))
fed_le w break = broken_le w
fed_le w (place id) = omega (arith, ids_append (parted w).anchors (id ∷ []), parted_le w)
fed_le w (box t) = omega (arith, tasked_le (parted w) t, parted_le w)
fed_le w edge = edged_le w
fed_le w (whole x) = blocked_le w x

pub fed_all_le : (parts : List Part) (w : Writing) → weight (fed_all w parts) ≤ weight w + costs parts
fed_all_le [] w = omega arith
fed_all_le (p ∷ parts) w = omega (arith, fed_all_le parts (fed w p), fed_le w p)

-- the blocks, and the one line, that parts make
pub blocks_weight : (w : Writing) → heavy (blocks_in w) ≤ 1 + weight w
blocks_weight w = omega (arith, list_blocks (ended w).done, ended_le w)

pub blocks_cost : (in_item : Bool) (parts : List Part) → heavy (blocks_of in_item parts) ≤ 1 + costs parts
blocks_cost in_item parts =
    omega (arith, blocks_weight (fed_all (begun in_item false) parts), fed_all_le parts (begun in_item false))

pub line_cost : (parts : List Part) → heavy_inlines (line_of parts) ≤ costs parts
line_cost parts =
    omega (arith, whole_le (fed_all (begun false true) parts), fed_all_le parts (begun false true))
