-- Parts one after another, as blocks or as one line of inlines.
use Rattle.std.specs.Prelude.{ℕ, ◌+◌, min, Bool, true, false, ◌&&◌, ◌==◌, nat_le, not, if◌then◌else◌, List, [], ◌∷◌}
use Rattle.std.specs.Prelude.{◌++◌}
use Rattle.std.specs.Prelude.{length, take, map, fold}
use Rattle.std.specs.Char.{encode_utf8}
use Rattle.std.specs.Str.{chars}
use Rattle.htmd_lexical.specs.Characters.{space}
use Rattle.htmd_lexical.specs.WhiteSpace.{is_ascii_white_space}
use Rattle.htmd_flow.specs.declared.paragraphs.Latest.{Latest}
use Rattle.htmd_flow.specs.declared.paragraphs.Latest.TheVariants.{Nothing, Task, Plain, Code}
use Rattle.htmd_flow.specs.declared.paragraphs.Met.{Met}
use Rattle.htmd_flow.specs.declared.paragraphs.Met.TheVariants as met
use Rattle.htmd_document.specs.Documents.{Inline, text, image, line_break, task, anchor, Inlines, no_inlines, inline}
use Rattle.htmd_document.specs.Documents.{Block, paragraph, Blocks, blocks_of}
use Rattle.htmd_flow.specs.Nesting.{Wrapper, wrapper_of, shared, before_link, text_or_code, one_inline, behind}
use Rattle.htmd_flow.specs.Parts.{Around, Part, run, picture, break, place, box, edge, whole}
use Rattle.htmd_shown.specs.Spaces.{Gap, no_gap, spaced, broken, is_white}

-- what is begun
pub record Writing : Type 0 where
  -- whether a task may stand first in it
  pub in_item : Bool
  -- whether all is one line
  pub is_flat : Bool
  -- the blocks so far, and the inlines of the paragraph after them
  pub done : List Block
  pub content : Inlines
  -- what showed last in this paragraph, and what stands around it
  pub latest : Latest
  pub around : List Wrapper
  -- what came after it
  pub gap : Gap
  -- whether nothing but spaces and breaks stand in this paragraph
  pub is_blank : Bool
  -- the breaks since something showed, up to two
  pub breaks : ℕ
  -- what was met since the last edge
  pub met : Met
  -- the anchors since something showed
  pub anchors : List (List ℕ)

abbrev pub begun : Bool → Bool → Writing
begun in_item is_flat = record {
  in_item = in_item;
  is_flat = is_flat;
  done = [];
  content = no_inlines;
  latest = Nothing;
  around = [];
  gap = no_gap;
  is_blank = true;
  breaks = 0;
  met = met.Nothing;
  anchors = [];
}

-- ---- where paragraphs end

abbrev pub is_leaf : Latest → Bool
is_leaf Nothing = false
is_leaf Task = false
is_leaf Plain = true
is_leaf Code = true

abbrev pub is_code_leaf : Latest → Bool
is_code_leaf Nothing = false
is_code_leaf Task = false
is_code_leaf Plain = false
is_code_leaf Code = true

-- anchors after inlines, in so many of these wrappers
abbrev pub anchored : ℕ → Inlines → List Around → List (List ℕ) → Inlines
anchored n xs around ids = fold (λ ys id. behind n ys (take n around) (anchor id)) xs ids

-- what shows in it; a task alone is nothing
abbrev pub shown_content : Writing → Inlines
shown_content w = if is_leaf w.latest then w.content else no_inlines

-- with the anchors after it
abbrev pub whole_content : Writing → Inlines
whole_content w = anchored 0 (shown_content w) [] w.anchors

-- a paragraph with nothing in it is none
abbrev pub paragraph_of : Inlines → List Block
paragraph_of no_inlines = []
paragraph_of (inline x xs) = paragraph (inline x xs) ∷ []

abbrev pub open_paragraph : Writing → List Block
open_paragraph w = paragraph_of (whole_content w)

-- the paragraph ends, and another begins
abbrev pub ended : Writing → Writing
ended w = record w {
  done = w.done ++ open_paragraph w;
  content = no_inlines;
  latest = Nothing;
  around = [];
  gap = no_gap;
  is_blank = true;
  breaks = 0;
  anchors = [];
}

-- two breaks before something that shows part paragraphs
abbrev pub parted : Writing → Writing
parted w = if not w.is_flat && nat_le 2 w.breaks then ended w else w

-- ---- white space and breaks

-- after one more break
abbrev pub broken_off : Writing → Writing
broken_off w = record w { gap = broken w.gap; breaks = min 2 (w.breaks + 1) }

-- after one more white space
abbrev pub spaced_out : Writing → ℕ → Bool → Writing
spaced_out w c is_code = record w { gap = spaced w.gap c is_code; is_blank = w.is_blank && is_ascii_white_space c }

-- ---- what shows

-- white space in what two leaves share
abbrev pub white_behind : ℕ → Inlines → List Around → Bool → List ℕ → Inlines
white_behind n xs around is_code [] = xs
white_behind n xs around is_code (b ∷ s) = behind n xs (take n around) (text_or_code is_code (b ∷ s))

-- whether the gap before a code is code: it stands between two codes with the same around them, and all of it is code
abbrev pub is_code_gap : Writing → List Wrapper → Bool
is_code_gap w wrappers = is_code_leaf w.latest && w.gap.is_code && (length w.anchors == 0)
    && (shared w.around wrappers == length w.around)
    && (shared w.around wrappers == length wrappers)

-- the gap after a task is one space
abbrev pub gap_after_task : Writing → Inlines
gap_after_task w = behind 0 w.content [] (text (space ∷ []))

-- the gap between two leaves stands in what both share; a break in it takes all white space
abbrev pub gap_before : Writing → List Around → Bool → Inlines
gap_before w around is_code = let n = shared w.around (map wrapper_of around) in
    if w.gap.has_break
    then behind n w.content (take n around) line_break
    else white_behind n w.content around (is_code && is_code_gap w (map wrapper_of around)) w.gap.white

-- the inlines with the gap before a leaf, which goes at the beginning of a paragraph
abbrev pub gap_behind : Latest → Writing → List Around → Bool → Inlines
gap_behind Nothing w around is_code = w.content
gap_behind Task w around is_code = gap_after_task w
gap_behind Plain w around is_code = gap_before w around is_code
gap_behind Code w around is_code = gap_before w around is_code

abbrev pub latest_of : Bool → Latest
latest_of is_code = if is_code then Code else Plain

-- how many wrappers a leaf shares with the leaf before it in the paragraph
abbrev pub shared_wrappers : Writing → List Wrapper → ℕ
shared_wrappers w wrappers = if is_leaf w.latest then shared w.around wrappers else 0

-- what stands before a leaf: the gap, and then the anchors in what both leaves share
abbrev pub put_before : Writing → List Around → Bool → Inlines
put_before w around is_code =
    anchored (shared_wrappers w (map wrapper_of around)) (gap_behind w.latest w around is_code) around w.anchors

-- after one more leaf of the paragraph
abbrev pub shown : Writing → List Around → Bool → Inline → Writing
shown w around is_code leaf = record w {
  content = behind (shared_wrappers w (map wrapper_of around)) (put_before w around is_code) around leaf;
  latest = latest_of is_code;
  around = map wrapper_of around;
  gap = no_gap;
  is_blank = false;
  breaks = 0;
  met = met.More;
  anchors = [];
}

-- after one more leaf
abbrev pub after_leaf : Writing → List Around → Bool → Inline → Writing
after_leaf w around is_code leaf = shown (parted w) around is_code leaf

-- a task counts before all else in an item's first paragraph
abbrev pub is_task_here : Writing → Bool
is_task_here w = w.in_item && (length w.done == 0) && w.is_blank

abbrev pub with_box : Met → Met
with_box met.Nothing = met.Box
with_box _ = met.More

abbrev pub boxed : Writing → Writing
boxed w = record w { breaks = 0; met = with_box w.met }

abbrev pub with_task : Writing → Bool → Writing
with_task w is_checked = record w {
  content = one_inline (task is_checked);
  latest = Task;
  around = [];
  gap = no_gap;
  is_blank = false;
}

abbrev pub tasked : Writing → Bool → Writing
tasked w is_checked = if is_task_here w then with_task (boxed w) is_checked else boxed w

-- an anchor stands right before what shows next, and in no link
abbrev pub with_anchor : Writing → List ℕ → Writing
with_anchor w id = record w { anchors = w.anchors ++ id ∷ []; breaks = 0; around = before_link w.around }

abbrev pub is_box : Met → Bool
is_box met.Box = true
is_box _ = false

-- an edge right after the box of an item is none
abbrev pub is_boxed_item : Writing → Bool
is_boxed_item w = w.in_item && (length w.done == 0) && is_box w.met

abbrev pub edged : Writing → Writing
edged w =
    if w.is_flat then broken_off w
    else (if is_boxed_item w then w else record (ended w) { met = met.Nothing })

-- a block; in one line it is an edge
abbrev pub blocked : Writing → Block → Writing
blocked w b =
    if w.is_flat then broken_off w
    else record (ended w) { done = (ended w).done ++ b ∷ []; met = met.Nothing }

-- ---- the parts

abbrev pub after_character : Writing → List Around → Bool → ℕ → Writing
after_character w around is_code c =
    if is_white c
    then spaced_out w c is_code
    else after_leaf w around is_code (text_or_code is_code (encode_utf8 c))

abbrev pub fed : Writing → Part → Writing
fed w (run s around is_code) = fold (λ v c. after_character v around is_code c) w (chars s)
fed w (picture address title description around) = after_leaf w around false (image address title description)
fed w break = broken_off w
fed w (box is_checked) = tasked (parted w) is_checked
fed w (place id) = with_anchor (parted w) id
fed w edge = edged w
fed w (whole b) = blocked w b

abbrev pub fed_all : Writing → List Part → Writing
fed_all w parts = fold fed w parts

-- the blocks, and the one line
abbrev pub blocks_in : Writing → Blocks
blocks_in w = blocks_of (ended w).done

abbrev pub line_in : Writing → Inlines
line_in w = whole_content w
