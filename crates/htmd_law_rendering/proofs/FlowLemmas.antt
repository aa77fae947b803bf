-- The elements of lines of tags stand where the strict grammar allows them.
use Rattle.std.proofs.Common.{◌≡◌, ℕ, Bool, true, false, not, ◌&&◌, List, [], ◌∷◌, ◌++◌, refl, sym, ap, ◌∙◌, codes}
use Rattle.std.proofs.Common.{Option, Some, None, drop, map, subst}
use Rattle.std.specs.Char.{to_ascii_lowercase}
use Rattle.std.specs.List.{list_all}
use Rattle.std.specs.Prelude.{⊤, ◌||◌}
use Rattle.std.specs.Str.{bytes_eq}
use Rattle.std.proofs.lemmas.Bool.{and_parts, not-true, true≢false}
use Rattle.htmd_lexical.proofs.BytesLemmas.{same_bytes}
use Rattle.htmd_lexical.proofs.Cases.{test}
use Rattle.htmd_lexical.specs.AttributePairs.{AttributePair}
use Rattle.htmd_lexical.specs.Attributes.{attribute_names}
use Rattle.htmd_lexical.specs.CharacterClasses.{are_distinct, is_among, is_attribute_name, is_empty, is_tag_name}
use Rattle.htmd_lexical.specs.CharacterClasses.{lacks}
use Rattle.htmd_lexical.specs.WhiteSpace.{is_ascii_white_space}
use Rattle.htmd_document.specs.Documents.{BlockAttribute}
use Rattle.htmd_document.specs.Tags.{element_name, attribute_name, escaped_text}
use Rattle.htmd_document.specs.declared.document.AttributeName.{AttributeName}
use Rattle.htmd_document.specs.declared.document.AttributeName.TheVariants.{Border, ColumnSpan, RowSpan, Align}
use Rattle.htmd_document.specs.declared.document.AttributeName.TheVariants.{Open}
use Rattle.htmd_document.specs.declared.document.BlockElement.{BlockElement}
use Rattle.htmd_document.specs.declared.document.BlockElement.TheVariants as an
use Rattle.htmd_grammar.specs.Nesting.{Context, parent_name, is_allowed, is_heading, is_open, is_optgroup, is_option}
use Rattle.htmd_grammar.specs.Nesting.{is_row, is_table, is_tbody, holds_parts, fits_table, fits_lists}
use Rattle.htmd_grammar.specs.RawContent.{content_of, drops_line_feed, holds_text_alone}
use Rattle.htmd_grammar.proofs.NestingLemmas.{allowed_parts, among_passes, one_name}
use Rattle.htmd_law_html5.proofs.StrictModes.{section_fits}
use Rattle.htmd_commonmark_reading.specs.Elements as lines
use Rattle.htmd_commonmark_reading.specs.Elements.{Line, line_of}
use Rattle.htmd_law_rendering.specs.RawTags.{opening, closing}
use Rattle.htmd_law_rendering.specs.RenderedTrees as trees
use Rattle.htmd_law_rendering.specs.RenderedTrees.{line_end, Behind, opened, pairs_of_element, with_line, with_lines}
use Rattle.htmd_law_rendering.specs.RenderedTrees.{sectioned, section_name, left_of_section, bounds_section}
use Rattle.htmd_law_rendering.specs.RenderedTrees.{outside_section, ends_of, is_caption, in_table, before_caption}
use Rattle.htmd_law_rendering.specs.SpelledTrees.{SpelledForest, none, more, text, element, lone, section}
use Rattle.htmd_law_rendering.specs.SpelledTrees.{all_spelled}
use Rattle.htmd_law_rendering.specs.PlainReadings.{opened_names, names_with, names_with_line, names_with_lines}
use Rattle.htmd_law_rendering.specs.PlainReadings.{names_left, names_outside, names_with_ends, names_before}
use Rattle.htmd_law_rendering.specs.PlainReadings.{behind_first}
use Rattle.htmd_law_rendering.specs.PlainReadings.{takes_blocks, element_is_strict, below_open, line_is_strict}
use Rattle.htmd_law_rendering.specs.PlainReadings.{lines_are_strict}
use Rattle.htmd_law_rendering.proofs.FittingLemmas.{AreApart, FitPairs, Fits}
use Rattle.htmd_law_rendering.proofs.LineLemmas.{not-void, not-section, in-table-named, before-some}
use Rattle.htmd_law_rendering.proofs.PlaceLemmas.{TakesBlocks, HasNoLink, not-alone}
use Rattle.htmd_law_rendering.proofs.RawLemmas.{names_of}
use Rattle.htmd_law_rendering.proofs.RawNames.{flow_names}
use Rattle.htmd_law_rendering.proofs.StrictLemmas.{FitsOpen, line-fits}
use Rattle.htmd_law_rendering.proofs.TagLemmas.{IsTreeName, AreTreeKeys}

-- ---- names

pub flow-named : (e : BlockElement) → is_among flow_names (element_name e) ≡ true
flow-named an.Details = refl
flow-named an.Summary = refl
flow-named an.Terms = refl
flow-named an.Term = refl
flow-named an.Meaning = refl
flow-named an.Figure = refl
flow-named an.FigureCaption = refl
flow-named an.Table = refl
flow-named an.Caption = refl
flow-named an.Row = refl
flow-named an.Cell = refl
flow-named an.HeaderCell = refl

flow-tree_name : (n : List ℕ) → is_among flow_names n ≡ true → IsTreeName n
flow-tree_name n e = (
  among_passes is_tag_name flow_names n e refl,
  same_bytes (map to_ascii_lowercase n) n
      (among_passes (λ m. bytes_eq (map to_ascii_lowercase m) m) flow_names n e refl),
)

flow-whole : (n s : List ℕ) → is_among flow_names n ≡ true → content_of n s ≡ s
flow-whole n s e =
    let d = not-true (drops_line_feed n) (among_passes (λ m. not (drops_line_feed m)) flow_names n e refl) in
    rw d refl

-- ---- places

-- what holds wherever blocks may come, and between the parts of a table
pub record Around (z : Bool) (c : Context) : Type 0 where
  pub not_alone : holds_text_alone z (parent_name c) ≡ false
  pub no_select : is_among (codes "select" ∷ []) (parent_name c) ≡ false
  pub no_optgroup : is_optgroup (parent_name c) ≡ false
  pub no_option : is_option (parent_name c) ≡ false
  pub no_link : HasNoLink c
  pub no_paragraph : is_open (codes "p" ∷ []) c ≡ false
  pub no_heading : is_heading (parent_name c) ≡ false

pub around-of : (z : Bool) (c : Context) → TakesBlocks z c → Around z c
around-of z c b = record {
  not_alone = b.takes_inlines.not_alone;
  no_select = b.takes_inlines.no_select;
  no_optgroup = b.takes_inlines.no_optgroup;
  no_option = b.takes_inlines.no_option;
  no_link = b.no_link;
  no_paragraph = b.no_paragraph;
  no_heading = b.no_heading;
}

pub takes-from : (z : Bool) (c : Context) → Around z c → takes_blocks c ≡ true → TakesBlocks z c
takes-from z c a h = record {
  takes_inlines = record {
    not_alone = a.not_alone;
    no_parts = not-true (holds_parts (parent_name c)) h;
    no_select = a.no_select;
    no_optgroup = a.no_optgroup;
    no_option = a.no_option;
  };
  no_link = a.no_link;
  no_paragraph = a.no_paragraph;
  no_heading = a.no_heading;
}

around-under : (z : Bool) (n : List ℕ) (c : Context) → is_among flow_names n ≡ true → Around z c
    → Around z (n ∷ c)
around-under z n c e a =
    let none_of = λ (p : List ℕ → Bool) (all : list_all (λ m. not (p m)) flow_names ≡ true).
    not-true (p n) (among_passes (λ m. not (p m)) flow_names n e all) in
    record {
      not_alone = not-alone z n (none_of (holds_text_alone true) refl);
      no_select = none_of (is_among (codes "select" ∷ [])) refl;
      no_optgroup = none_of is_optgroup refl;
      no_option = none_of is_option refl;
      no_link = rw (none_of (is_among (codes "a" ∷ [])) refl) a.no_link;
      no_paragraph = rw (none_of (is_among (codes "p" ∷ [])) refl) a.no_paragraph;
      no_heading = none_of is_heading refl;
    }

-- such names, and a section is in a table
abbrev pub AreFlow : List (List ℕ) → Type 0
AreFlow [] = ⊤
AreFlow (n ∷ ns) =
    (is_among flow_names n ≡ true) × (is_tbody n ≡ true → is_table (parent_name ns) ≡ true) × AreFlow ns

pub around-all : (z : Bool) (ns : List (List ℕ)) (c : Context) → AreFlow ns → Around z c → Around z (ns ++ c)
around-all z [] c h a = a
around-all z (n ∷ ns) c h a = around-under z n (ns ++ c) h.0 (around-all z ns c h.2 a)

parent-kept : (ns : List (List ℕ)) (c : Context) → is_table (parent_name ns) ≡ true
    → is_table (parent_name (ns ++ c)) ≡ true
parent-kept [] c h = absurd (cc)
parent-kept (n ∷ ns) c h = h

-- ---- attributes

key-name : (a : AttributeName) → (is_attribute_name (attribute_name a) ≡ true)
    × (map to_ascii_lowercase (attribute_name a) ≡ attribute_name a) × (lacks 38 (attribute_name a) ≡ true)
key-name Open = (refl, refl, refl)
key-name Border = (refl, refl, refl)
key-name ColumnSpan = (refl, refl, refl)
key-name RowSpan = (refl, refl, refl)
key-name Align = (refl, refl, refl)

element-keys : (attributes : List BlockAttribute) → AreTreeKeys (pairs_of_element attributes)
element-keys [] = tt
element-keys (a ∷ rest) = let k = key-name a.name in (k.0, k.1, k.2, element-keys rest)

-- ---- elements

element-allowed : (z : Bool) (c : Context) (e : BlockElement) → Around z c
    → fits_table (parent_name c) (element_name e) ≡ true → fits_lists c (element_name e) ≡ true
    → is_allowed z c (element_name e) ≡ true
unfolding is_allowed
element-allowed z c an.Details a f l =
    rw (a.not_alone, f, a.no_select, a.no_optgroup, a.no_option, a.no_paragraph) refl
element-allowed z c an.Summary a f l =
    rw (a.not_alone, f, a.no_select, a.no_optgroup, a.no_option, a.no_paragraph) refl
element-allowed z c an.Terms a f l =
    rw (a.not_alone, f, a.no_select, a.no_optgroup, a.no_option, a.no_paragraph) refl
element-allowed z c an.Term a f l =
    rw (a.not_alone, f, a.no_select, a.no_optgroup, a.no_option, a.no_paragraph) l
element-allowed z c an.Meaning a f l =
    rw (a.not_alone, f, a.no_select, a.no_optgroup, a.no_option, a.no_paragraph) l
element-allowed z c an.Figure a f l =
    rw (a.not_alone, f, a.no_select, a.no_optgroup, a.no_option, a.no_paragraph) refl
element-allowed z c an.FigureCaption a f l =
    rw (a.not_alone, f, a.no_select, a.no_optgroup, a.no_option, a.no_paragraph) refl
element-allowed z c an.Table a f l =
    rw (a.not_alone, f, a.no_select, a.no_optgroup, a.no_option, a.no_paragraph) refl
element-allowed z c an.Caption a f l =
    rw (a.not_alone, f, a.no_select, a.no_optgroup, a.no_option) refl
element-allowed z c an.Row a f l =
    rw (a.not_alone, f, a.no_select, a.no_optgroup, a.no_option) refl
element-allowed z c an.Cell a f l =
    rw (a.not_alone, f, a.no_select, a.no_optgroup, a.no_option) refl
element-allowed z c an.HeaderCell a f l =
    rw (a.not_alone, f, a.no_select, a.no_optgroup, a.no_option) refl

section-allowed : (z : Bool) (c : Context) → Around z c → is_table (parent_name c) ≡ true
    → is_allowed z c (codes "tbody") ≡ true
unfolding is_allowed
section-allowed z c a t = rw (a.not_alone, t, a.no_select, a.no_optgroup, a.no_option) refl

-- what holds of an element that may stand somewhere
record Stands (z : Bool) (c : Context) (e : BlockElement) (attributes : List BlockAttribute) : Type 0 where
  allowed : is_allowed z c (element_name e) ≡ true
  pairs : FitPairs (pairs_of_element attributes)

stands : (z : Bool) (c : Context) (e : BlockElement) (attributes : List BlockAttribute) → Around z c
    → element_is_strict c (element_name e) attributes ≡ true → Stands z c e attributes
stands z c e attributes a h =
    let n = element_name e in
    let p = and_parts (fits_table (parent_name c) n && fits_lists c n)
    (are_distinct (attribute_names (pairs_of_element attributes))) h in
    let q = and_parts (fits_table (parent_name c) n) (fits_lists c n) p.0 in
    record { allowed = element-allowed z c e a q.0 q.1; pairs = (element-keys attributes, p.1) }

-- ---- lines before what is open

-- nothing stands behind a section but a caption
abbrev pub AreEnds : List Behind → Type 0
AreEnds [] = ⊤
AreEnds (b ∷ bs) = (is_tbody b.name ≡ true → AreApart (section none) b.trees) × AreEnds bs

module _ (z : Bool) where
  -- what fits, with the names of the end tags in it
  pub record IsFit (c : Context) (o : trees.Open) (ns : List (List ℕ)) : Type 0 where
    pub fits : FitsOpen z c o
    pub named : names_of o.behind ≡ ns
    pub flow : AreFlow ns
    pub ends : AreEnds o.behind

  under : (c : Context) (o : trees.Open) (ns : List (List ℕ)) → TakesBlocks z c → IsFit c o ns
      → Around z (names_of o.behind ++ c)
  under c o ns b i = around-all z (names_of o.behind) c (subst AreFlow (sym i.named) i.flow) (around-of z c b)

  -- a line's end before it
  ended : (c : Context) (o : trees.Open) (ns : List (List ℕ)) → TakesBlocks z c → IsFit c o ns
      → IsFit c (trees.onto line_end o) ns
  ended c o ns b i = record {
    fits = (line-fits z o.first (names_of o.behind ++ c) (under c o ns b i).not_alone i.fits.0, i.fits.1);
    named = i.named;
    flow = i.flow;
    ends = i.ends;
  }

  -- ---- sections

  apart-kept : (s : List ℕ) (ts rest : SpelledForest) → AreApart (text s) ts → AreApart (section none) rest
      → AreApart (text s) (sectioned ts rest)
  apart-kept s none none a b = tt
  apart-kept s none (more (text u) rest) a b = absurd b
  apart-kept s none (more (element k n attributes ks) rest) a b = tt
  apart-kept s none (more (lone n attributes u) rest) a b = tt
  apart-kept s none (more (section rows) rest) a b = tt
  apart-kept s (more (text u) ts) rest a b = absurd a
  apart-kept s (more (element k n attributes ks) ts) rest a b = tt
  apart-kept s (more (lone n attributes u) ts) rest a b = tt
  apart-kept s (more (section rows) ts) rest a b = tt

  -- whatever rows there are
  any-rows : (rows other ts : SpelledForest) → AreApart (section rows) ts → AreApart (section other) ts
  any-rows rows other none a = tt
  any-rows rows other (more (text u) ts) a = a
  any-rows rows other (more (element k n attributes ks) ts) a = a
  any-rows rows other (more (lone n attributes u) ts) a = a
  any-rows rows other (more (section x) ts) a = a

  row-only : (c : Context) (n : List ℕ) → is_allowed z (codes "tbody" ∷ c) n ≡ true → is_row n ≡ true
  row-only c n h = section_fits (codes "tbody") n refl (allowed_parts z (codes "tbody" ∷ c) n h).2

  sectioned-fits : (ts : SpelledForest) (c : Context) → Around z c → is_table (parent_name c) ≡ true
      → Fits z (codes "tbody" ∷ c) ts → (rest : SpelledForest) → AreApart (section none) rest → Fits z c rest
      → Fits z c (sectioned ts rest)
  sectioned-fits none c a t f rest b h = h
  sectioned-fits (more (text s) ts) c a t f rest b h = (
    (f.0.0, (a.not_alone, (λ p. f.0.1.1 refl))),
    apart-kept s ts rest f.1 b,
    sectioned-fits ts c a t f.2 rest b h,
  )
  sectioned-fits (more (element k n attributes ks) ts) c a t f rest b h = (
    (section-allowed z c a t, row-only c n f.0.0, f),
    any-rows none (more (element k n attributes ks) ts) rest b,
    h,
  )
  sectioned-fits (more (lone n attributes s) ts) c a t f rest b h = (
    (section-allowed z c a t, row-only c n f.0.0, f),
    any-rows none (more (lone n attributes s) ts) rest b,
    h,
  )
  sectioned-fits (more (section rows) ts) c a t f rest b h =
      let w = row-only c (codes "tbody") f.0.0 in absurd (cc)

  left-fit : (first : SpelledForest) (behind : List Behind) (ns : List (List ℕ)) (c : Context) → TakesBlocks z c
      → IsFit c (record { first = first; behind = behind }) ns
      → IsFit c (left_of_section first behind) (names_left ns)
  left-fit first [] [] c b i = i
  left-fit first [] (n ∷ ns) c b i = let w = i.named in absurd (cc)
  left-fit first (x ∷ xs) [] c b i = let w = i.named in absurd (cc)
  left-fit first (x ∷ xs) (n ∷ ns) c b i =
      let name : x.name ≡ n = (let w = i.named in cc) in
      let names : names_of xs ≡ ns = (let w = i.named in cc) in
      test (is_tbody x.name)
      (λ t.
      let same : is_tbody n ≡ true = sym (ap is_tbody name) ∙ t in
      let here = names_of xs ++ c in
      let around = around-all z (names_of xs) c (subst AreFlow (sym names) i.flow.2) (around-of z c b) in
      let parent : is_table (parent_name here) ≡ true =
      parent-kept (names_of xs) c (subst (λ ks. is_table (parent_name ks) ≡ true) (sym names) (i.flow.1 same)) in
      let inner : Fits z (codes "tbody" ∷ here) first =
      subst (λ m. Fits z (m ∷ here) first) (one_name (codes "tbody") x.name t) i.fits.0 in
      let whole : Fits z here (sectioned first x.trees) =
      sectioned-fits first here around parent inner x.trees (i.ends.0 t) i.fits.1.0 in
      rw (t, same) (record { fits = (whole, i.fits.1.1); named = names; flow = i.flow.2; ends = i.ends.1 }))
      (λ t. let same : is_tbody n ≡ false = sym (ap is_tbody name) ∙ t in rw (t, same) i)

  outside-fit : (n : List ℕ) (o : trees.Open) (left : Option (List (List ℕ))) (ns : List (List ℕ)) (c : Context)
      → names_outside n left ≡ Some ns → TakesBlocks z c
      → ((ms : List (List ℕ)) → left ≡ Some ms → IsFit c o ms) → IsFit c (outside_section n o) ns
  outside-fit n o None ns c e b i = absurd (cc)
  outside-fit n o (Some ms) ns c e b i =
      test (bounds_section n)
      (λ t. let w = rw t at e in
      let x : names_left ms ≡ ns = cc in
      rw t (subst (IsFit c (left_of_section o.first o.behind)) x (left-fit o.first o.behind ms c b (i ms refl))))
      (λ t. let w = rw t at e in
      let x : ms ≡ ns = cc in rw t (subst (IsFit c o) x (i ms refl)))

  -- ---- lines

  opened-fit : (e : BlockElement) (attributes : List BlockAttribute) (first : SpelledForest) (behind : List Behind)
      (ms ns : List (List ℕ)) (c : Context) → opened_names (element_name e) ms ≡ Some ns
      → element_is_strict (drop 1 ms ++ c) (element_name e) attributes ≡ true → TakesBlocks z c
      → IsFit c (record { first = first; behind = behind }) ms
      → IsFit c (opened (element_name e) (pairs_of_element attributes) first behind) ns
  opened-fit e attributes first [] [] ns c h s b i = absurd (cc)
  opened-fit e attributes first [] (m ∷ ms) ns c h s b i = let w = i.named in absurd (cc)
  opened-fit e attributes first (x ∷ xs) [] ns c h s b i = let w = i.named in absurd (cc)
  opened-fit e attributes first (x ∷ xs) (m ∷ ms) ns c h s b i =
      test (bytes_eq m (element_name e))
      (λ q.
      let f = rw q at h in
      let n = element_name e in
      let left : ms ≡ ns = cc in
      let same : names_of xs ≡ ms = (let w = i.named in cc) in
      let name : x.name ≡ n = (let y : x.name ≡ m = (let w = i.named in cc) in y ∙ same_bytes m n q) in
      let here = names_of xs ++ c in
      let around = around-all z (names_of xs) c (subst AreFlow (sym same) i.flow.2) (around-of z c b) in
      let own = stands z here e attributes around
      (subst (λ ks. element_is_strict (ks ++ c) n attributes ≡ true) (sym same) s) in
      record {
        fits = (
          (
            (
              own.allowed,
              flow-tree_name n (flow-named e),
              own.pairs,
              rw (not-void e) (
                flow-whole n (all_spelled first) (flow-named e),
                subst (λ y. Fits z (y ∷ here) first) name i.fits.0,
              ),
            ),
            tt,
            i.fits.1.0,
          ),
          i.fits.1.1,
        );
        named = same ∙ left;
        flow = subst AreFlow left i.flow.2;
        ends = i.ends.1;
      })
      (λ q. let f = rw q at h in absurd (cc))

  closed-fit : (n : List ℕ) (o : trees.Open) (ms : List (List ℕ)) (c : Context) → is_among flow_names n ≡ true
      → (is_tbody n ≡ true → is_table (parent_name ms) ≡ true)
      → (is_tbody n ≡ true → AreApart (section none) o.first) → IsFit c o ms
      → IsFit c (trees.with_raw (closing n) o) (n ∷ ms)
  closed-fit n o ms c e t empty i = record {
    fits = (tt, i.fits);
    named = ap (λ ks. n ∷ ks) i.named;
    flow = (e, t, i.flow);
    ends = (empty, i.ends);
  }

  ends-fit : (e : BlockElement) (o : trees.Open) (left : Option (List (List ℕ))) (ns : List (List ℕ)) (c : Context)
      → names_with_ends (element_name e) left ≡ Some ns
      → ((ms : List (List ℕ)) → left ≡ Some ms → IsFit c o ms) → IsFit c (ends_of (element_name e) o) ns
  ends-fit e o None ns c h i = absurd (cc)
  ends-fit e o (Some ms) ns c h i =
      let n = element_name e in
      let none_here = λ (t : is_tbody n ≡ true). true≢false (sym t ∙ not-section e) in
      let one = closed-fit n o ms c (flow-named e) (λ t. absurd (none_here t)) (λ t. absurd (none_here t)) (i ms refl)
      in
      test (is_table n)
      (λ t. let w = rw t at h in
      let x : section_name ∷ n ∷ ms ≡ ns = cc in
      rw t (subst (IsFit c (trees.with_raw (closing section_name) (trees.with_raw (closing n) o))) x
      (closed-fit section_name (trees.with_raw (closing n) o) (n ∷ ms) c refl (λ u. t) (λ u. tt) one)))
      (λ t. let w = rw t at h in
      let x : n ∷ ms ≡ ns = cc in
      rw t (subst (IsFit c (trees.with_raw (closing n) o)) x one))

  -- the section that is left of a caption again
  before-fit : (n : List ℕ) (o : trees.Open) (left : Option (List (List ℕ))) (ns : List (List ℕ)) (c : Context)
      → names_before n left ≡ Some ns → (is_caption n ≡ true → AreApart (section none) o.first)
      → ((ms : List (List ℕ)) → left ≡ Some ms → IsFit c o ms) → IsFit c (before_caption n o) ns
  before-fit n o None ns c h a i = absurd (cc)
  before-fit n o (Some ms) ns c h a i =
      let j = i ms refl in
      let same : (is_caption n && in_table o.behind) ≡ (is_caption n && is_table (parent_name ms)) =
      ap (λ b. is_caption n && b) (in-table-named o.behind ∙ ap (λ ks. is_table (parent_name ks)) j.named) in
      test (is_caption n && is_table (parent_name ms))
      (λ t. let w = rw t at h in
      let x : section_name ∷ ms ≡ ns = cc in
      let p = and_parts (is_caption n) (is_table (parent_name ms)) t in
      rw (same ∙ t) (subst (IsFit c (trees.with_raw (closing section_name) o)) x
      (closed-fit section_name o ms c refl (λ u. p.1) (λ u. a p.0) j)))
      (λ t. let w = rw t at h in
      let x : ms ≡ ns = cc in rw (same ∙ t) (subst (IsFit c o) x j))

  -- a caption that is opened stands first
  opened-apart : (n : List ℕ) (attributes : List AttributePair) (first : SpelledForest) (behind : List Behind)
      (ms ns : List (List ℕ)) → names_of behind ≡ ms → opened_names n ms ≡ Some ns → is_caption n ≡ true
      → AreApart (section none) (opened n attributes first behind).first
  opened-apart n attributes first [] [] ns k h e = absurd (cc)
  opened-apart n attributes first [] (m ∷ ms) ns k h e = absurd (cc)
  opened-apart n attributes first (b ∷ bs) ms ns k h e = one_name (codes "caption") n e

  white-empty : (n s : List ℕ) → (not (holds_parts n) || is_empty s) ≡ true → holds_parts n ≡ true
      → list_all is_ascii_white_space s ≡ true
  white-empty n [] h p = refl
  white-empty n (b ∷ s) h p = let w = rw p at h in absurd (cc)

  line-fit : (l : Line) (o : trees.Open) (left : Option (List (List ℕ))) (ns : List (List ℕ)) (c : Context)
      → names_with_line l left ≡ Some ns → line_is_strict c l left ≡ true → TakesBlocks z c
      → ((ms : List (List ℕ)) → left ≡ Some ms → IsFit c o ms) → IsFit c (with_line l o) ns
  line-fit (lines.opening e attributes) o left ns c h s b i =
      let n = element_name e in
      by_names (names_outside n left) refl h s
    where
      by_names : (k : Option (List (List ℕ))) → names_outside (element_name e) left ≡ k
          → names_before (element_name e) (names_with (opening (element_name e) (pairs_of_element attributes)) k)
          ≡ Some ns
          → element_is_strict (below_open c (behind_first k)) (element_name e) attributes ≡ true
          → IsFit c (with_line (lines.opening e attributes) o) ns
      by_names None q h s = absurd (cc)
      by_names (Some ms) q h s =
          let j = ended c (outside_section (element_name e) o) ms b
          (outside-fit (element_name e) o left ms c q b i) in
          let n = element_name e in
          let d = outside_section n o in
          let pairs = pairs_of_element attributes in
          before-fit n (opened n pairs (line_end d.first) d.behind) (opened_names n ms) ns c h
          (λ q. let k = before-some n (opened_names n ms) ns h in
          opened-apart n pairs (line_end d.first) d.behind ms k.0 j.named k.1 q)
          (λ ks f. opened-fit e attributes (line_end d.first) d.behind ms ks c f s b j)
  line-fit (lines.closing e) o left ns c h s b i =
      let n = element_name e in
      ends-fit e (trees.onto line_end (outside_section n o)) (names_outside n left) ns c h
      (λ ms q. ended c (outside_section n o) ms b (outside-fit n o left ms c q b i))
  line-fit (lines.whole e attributes t) o left ns c h s b i =
      let n = element_name e in
      let d = outside_section n o in
      let one = trees.onto (λ ts. more (lone n (pairs_of_element attributes) t) (line_end ts)) d in
      before-fit n one (names_outside n left) ns c h (λ q. one_name (codes "caption") n q)
      (λ ms f.
      let j = ended c d ms b (outside-fit n o left ms c f b i) in
      let here = names_of d.behind ++ c in
      let p = and_parts (element_is_strict (below_open c (names_outside n left)) n attributes)
      (not (holds_parts n) || is_empty t) s in
      let strict = subst (λ ks. element_is_strict (below_open c ks) n attributes ≡ true)
      (f ∙ ap Some (sym j.named)) p.0 in
      let around = under c (trees.onto line_end d) ms b j in
      let own = stands z here e attributes around strict in
      record {
        fits = (
          (
            (
              own.allowed,
              flow-tree_name n (flow-named e),
              own.pairs,
              not-void e,
              flow-whole n (escaped_text t) (flow-named e),
              ((around-under z n here (flow-named e) around).not_alone, white-empty n t p.1),
            ),
            tt,
            j.fits.0,
          ),
          j.fits.1,
        );
        named = j.named;
        flow = j.flow;
        ends = j.ends;
      })
  line-fit lines.unknown o left ns c h s b i = absurd (cc)

  pub lines-fit : (ls : List (List ℕ)) (o : trees.Open) (left : Option (List (List ℕ))) (ns : List (List ℕ))
      (c : Context) → names_with_lines ls left ≡ Some ns → lines_are_strict c ls left ≡ true → TakesBlocks z c
      → ((ms : List (List ℕ)) → left ≡ Some ms → IsFit c o ms) → IsFit c (with_lines ls o) ns
  lines-fit [] o left ns c h s b i = i ns h
  lines-fit (x ∷ rest) o left ns c h s b i =
      let p = and_parts (line_is_strict c (line_of x) (names_with_lines rest left)) (lines_are_strict c rest left) s in
      line-fit (line_of x) (with_lines rest o) (names_with_lines rest left) ns c h p.0 b
      (λ ms f. lines-fit rest o left ms c f p.1 b i)
