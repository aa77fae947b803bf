-- What is begun, as the source keeps it, and what its steps leave.
use Rattle.std.specs.Prelude.{◌≡◌, ℕ, ◌≤◌, Bool, false, if◌then◌else◌, List, [], ◌++◌, map, take, length, string_bytes}
use Rattle.htmd_flow.specs.declared.paragraphs.Latest.{Latest}
use Rattle.htmd_flow.specs.declared.paragraphs.Paragraphs as declared_paragraphs
use Rattle.htmd_document.specs.Documents.{Inlines, no_inlines, Block}
use Rattle.htmd_document.specs.DocumentViews.{block_of}
use Rattle.htmd_flow.specs.Nesting.{wrapper_of}
use Rattle.htmd_flow.specs.NestViews.{inlines_in, wrappers_in}
use Rattle.htmd_flow.specs.Paragraphs.{Writing, is_leaf, parted, put_before, shared_wrappers}
use Rattle.htmd_flow.specs.Parts.{Around}
use Rattle.htmd_shown.specs.Spaces.{no_gap}
use Rattle.htmd_shown.specs.SpaceViews.{gap_of}

abbrev pub writing_in : declared_paragraphs.Paragraphs → Writing
writing_in p = record {
  in_item = p.in_item;
  is_flat = p.is_flat;
  done = map block_of p.done.items;
  content = inlines_in p.nest;
  latest = p.latest;
  around = wrappers_in p.nest;
  gap = gap_of p.gap;
  is_blank = p.is_blank;
  breaks = p.breaks;
  met = p.met;
  anchors = map string_bytes p.anchors.items;
}

-- something showed
abbrev pub with_latest : Writing → Latest → Writing
with_latest w latest = record w { latest = latest; gap = no_gap; is_blank = false; breaks = 0 }

-- a task alone is nothing
abbrev pub untasked : Writing → Writing
untasked w = if is_leaf w.latest then w else record w { content = no_inlines; around = [] }

-- with more blocks
abbrev pub with_blocks : Writing → List Block → Writing
with_blocks w blocks = record w { done = w.done ++ blocks }

-- the inlines of the paragraph were taken
abbrev pub emptied : Writing → Writing
emptied w = record w { content = no_inlines; around = []; anchors = [] }

-- inlines were put, and as many of the wrappers as this are open as before
pub record IsPut (old new : Writing) (n : ℕ) (xs : Inlines) : Type 0 where
  pub in_item : new.in_item ≡ old.in_item
  pub is_flat : new.is_flat ≡ old.is_flat
  pub done : new.done ≡ old.done
  pub latest : new.latest ≡ old.latest
  pub met : new.met ≡ old.met
  pub content : new.content ≡ xs
  pub wrappers : take n new.around ≡ take n old.around
  pub bound : n ≤ length new.around

-- what came after what showed last is as before
pub record IsLike (old new : Writing) : Type 0 where
  pub gap : new.gap ≡ old.gap
  pub is_blank : new.is_blank ≡ old.is_blank
  pub breaks : new.breaks ≡ old.breaks

-- a gap was put
pub record IsGapPut (old new : Writing) (n : ℕ) (with_gap : Inlines) : Type 0 where
  pub put : IsPut old new n with_gap
  pub anchors : new.anchors ≡ old.anchors

-- all before a leaf was put, which shares so many wrappers
pub record IsReached (old new : Writing) (around : List Around) (is_code : Bool) (n : ℕ) : Type 0 where
  pub count : n ≡ shared_wrappers (parted old) (map wrapper_of around)
  pub put : IsPut (parted old) new n (put_before (parted old) around is_code)
  pub anchors : new.anchors ≡ []
