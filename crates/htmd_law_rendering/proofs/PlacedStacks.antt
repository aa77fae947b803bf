-- Elements that are open between blocks may stand where they do, and the names of end tags behind say where that is.
use Rattle.std.proofs.Common.{◌≡◌, ℕ, Bool, true, false, not, ◌&&◌, List, [], ◌∷◌, ◌++◌, refl, sym, ap, ◌∙◌, codes}
use Rattle.std.proofs.Common.{Option, Some, None, subst, inl, inr}
use Rattle.std.specs.Bool.{MatchBool}
use Rattle.std.specs.Prelude.{◌⊎◌, ◌||◌, if◌then◌else◌}
use Rattle.std.proofs.lemmas.Bool.{and_parts, and_from, not-true, true≢false}
use Rattle.htmd_lexical.proofs.BytesLemmas.{same_bytes, bytes_same}
use Rattle.htmd_lexical.proofs.Cases.{test}
use Rattle.htmd_lexical.specs.CharacterClasses.{is_empty}
use Rattle.htmd_document.specs.Documents.{Block, Blocks, element, no_blocks, block, BlockAttribute}
use Rattle.htmd_document.specs.Tags.{element_name}
use Rattle.htmd_document.specs.declared.document.BlockElement.{BlockElement}
use Rattle.htmd_document.specs.declared.document.BlockElement.TheVariants as an
use Rattle.htmd_grammar.specs.Nesting.{Context, parent_name, is_row, is_table, holds_parts, fits_table}
use Rattle.htmd_grammar.proofs.NestingLemmas.{one_name}
use Rattle.htmd_commonmark_reading.specs.Elements as lines
use Rattle.htmd_commonmark_reading.specs.Elements.{Line, line_of, Stack, outside, inside, joined, with_block}
use Rattle.htmd_commonmark_reading.specs.Elements.{text_blocks, is_same_element, with_line, with_lines}
use Rattle.htmd_law_rendering.specs.RawTags.{opening}
use Rattle.htmd_law_rendering.specs.RenderedTrees.{pairs_of_element, bounds_section, section_name, is_caption}
use Rattle.htmd_law_rendering.specs.PlainReadings.{names_with, names_with_line, names_with_lines, names_left}
use Rattle.htmd_law_rendering.specs.PlainReadings.{names_outside, names_with_ends, names_before, behind_first}
use Rattle.htmd_law_rendering.specs.PlainReadings.{element_is_strict}
use Rattle.htmd_law_rendering.specs.PlainReadings.{takes_blocks, place_of, around_content}
use Rattle.htmd_law_rendering.specs.PlainReadings.{block_elements_are_strict, elements_are_strict}
use Rattle.htmd_law_rendering.specs.PlainReadings.{below_open, line_is_strict, lines_are_strict}
use Rattle.htmd_law_rendering.proofs.LineLemmas.{not-section}
use Rattle.htmd_law_rendering.proofs.NestedStacks.{kept-lines, table-names}

-- ---- elements may stand where they do

-- around what comes next, as a document has it
abbrev pub context_of : Context → Stack → Context
context_of c (outside done) = c
context_of c (inside name attributes done below) = around_content (element_name name) (context_of c below)

-- an element
abbrev pub may_come : Context → BlockElement → List BlockAttribute → Bool
may_come c name attributes =
    element_is_strict (place_of (element_name name) c) (element_name name) attributes
    && fits_table (parent_name c) (if is_row (element_name name) then section_name else element_name name)

abbrev pub stack_is_strict : Context → Stack → Bool
stack_is_strict c (outside done) = elements_are_strict c done
stack_is_strict c (inside name attributes done below) =
    may_come (context_of c below) name attributes
    && elements_are_strict (around_content (element_name name) (context_of c below)) done
    && stack_is_strict c below

joined-strict : (c : Context) (bs : Blocks) (b : Block)
    → elements_are_strict c (joined bs (block b no_blocks)) ≡ true
    → (elements_are_strict c bs ≡ true) × (block_elements_are_strict c b ≡ true)
joined-strict c no_blocks b h = (refl, (and_parts (block_elements_are_strict c b) true h).0)
joined-strict c (block a bs) b h =
    let p = and_parts (block_elements_are_strict c a) (elements_are_strict c (joined bs (block b no_blocks))) h in
    let i = joined-strict c bs b p.1 in
    (and_from (block_elements_are_strict c a) (elements_are_strict c bs) p.0 i.0, i.1)

pub block-parted : (c : Context) (o : Stack) (b : Block) → stack_is_strict c (with_block o b) ≡ true
    → (stack_is_strict c o ≡ true) × (block_elements_are_strict (context_of c o) b ≡ true)
block-parted c (outside done) b h = joined-strict c done b h
block-parted c (inside name attributes done below) b h =
    let d = around_content (element_name name) (context_of c below) in
    let own = may_come (context_of c below) name attributes in
    let p = and_parts (own && elements_are_strict d (joined done (block b no_blocks))) (stack_is_strict c below) h in
    let q = and_parts own (elements_are_strict d (joined done (block b no_blocks))) p.0 in
    let i = joined-strict d done b q.1 in (
      and_from (own && elements_are_strict d done) (stack_is_strict c below)
          (and_from own (elements_are_strict d done) q.0 i.0) p.1,
      i.1,
    )

-- ---- rows are in the section, and nothing else is

-- what stands in a frame of the stack: the next block, or an element with this name that is open
abbrev Head : Option (List ℕ) → List ℕ → List (List ℕ) → List (List ℕ) → Type 0
Head None n ns ms = MatchBool (is_table n) (ns ≡ section_name ∷ n ∷ ms) (ns ≡ n ∷ ms)
Head (Some m) n ns ms =
    MatchBool (is_table n) (MatchBool (is_row m) (ns ≡ section_name ∷ n ∷ ms) (ns ≡ n ∷ ms)) (ns ≡ n ∷ ms)

abbrev pub Placed : Option (List ℕ) → List (List ℕ) → Stack → Type 0
Placed k ns (outside done) = ns ≡ []
Placed k ns (inside name attributes done below) =
    (ms : List (List ℕ)) × Placed (Some (element_name name)) ms below × Head k (element_name name) ns ms

pub placed-before : (ns : List (List ℕ)) (o : Stack) (b : Block) → Placed None ns (with_block o b)
    → Placed None ns o
placed-before ns (outside done) b k = k
placed-before ns (inside name attributes done below) b k = k

-- in a table there are rows and captions
only-caption : (name : BlockElement) → is_row (element_name name) ≡ false
    → fits_table (codes "table") (element_name name) ≡ true → is_caption (element_name name) ≡ true
only-caption an.Details r h = absurd (cc)
only-caption an.Summary r h = absurd (cc)
only-caption an.Terms r h = absurd (cc)
only-caption an.Term r h = absurd (cc)
only-caption an.Meaning r h = absurd (cc)
only-caption an.Figure r h = absurd (cc)
only-caption an.FigureCaption r h = absurd (cc)
only-caption an.Table r h = absurd (cc)
only-caption an.Caption r h = refl
only-caption an.Row r h = absurd (cc)
only-caption an.Cell r h = absurd (cc)
only-caption an.HeaderCell r h = absurd (cc)

-- what stands in a table is one of these
abbrev IsPart : Context → List ℕ → Type 0
IsPart d n = is_table (parent_name d) ≡ true → is_row n ≡ false → is_caption n ≡ true

part-in-table : (d : Context) (name : BlockElement) (attributes : List BlockAttribute)
    → may_come d name attributes ≡ true → IsPart d (element_name name)
part-in-table d name attributes h t r =
    let n = element_name name in
    let f = (and_parts (element_is_strict (place_of n d) n attributes)
    (fits_table (parent_name d) (if is_row n then section_name else n)) h).1 in
    only-caption name r (subst (λ y. fits_table y n ≡ true) (one_name (codes "table") (parent_name d) t) (rw r at f))

row-bounds : (n : List ℕ) → is_row n ≡ true → (bounds_section n ≡ false) × (is_caption n ≡ false)
row-bounds n h =
    let name = one_name (codes "tr") n h in (ap bounds_section name, ap is_caption name)

caption-bounds : (n : List ℕ) → is_caption n ≡ true → bounds_section n ≡ true
caption-bounds n h = ap bounds_section (one_name (codes "caption") n h)

-- left of an element that may come: in a table the section again
placed-next : (c : Context) (m : List ℕ) (ns : List (List ℕ)) (o : Stack) → IsPart (context_of c o) m
    → Placed (Some m) ns o
    → (ms : List (List ℕ)) × (names_before m (Some ns) ≡ Some ms) × Placed None ms o
placed-next c m ns (outside done) part k =
    rw k (test (is_caption m) (λ q. rw q ([], refl, refl)) (λ q. rw q ([], refl, refl)))
placed-next c m ns (inside name attributes done below) part k =
    let n = element_name name in
    test (is_table n)
    (λ t.
    let w = rw t at k.2 in
    test (is_row m)
    (λ r. let e : ns ≡ section_name ∷ n ∷ k.0 = rw r at w in
    rw (row-bounds m r).1 (ns, refl, (k.0, k.1, rw t e)))
    (λ r. let e : ns ≡ n ∷ k.0 = rw r at w in
    let inner : is_table (parent_name ns) ≡ true = ap (λ ks. is_table (parent_name ks)) e ∙ t in
    rw (part t r, inner) (section_name ∷ ns, refl, (k.0, k.1, rw t (ap (λ ks. section_name ∷ ks) e)))))
    (λ t.
    let e : ns ≡ n ∷ k.0 = rw t at k.2 in
    let inner : is_table (parent_name ns) ≡ false = ap (λ ks. is_table (parent_name ks)) e ∙ t in
    test (is_caption m) (λ q. rw (q, inner) (ns, refl, (k.0, k.1, rw t e)))
    (λ q. rw q (ns, refl, (k.0, k.1, rw t e))))

-- an element that may come, behind blocks
pub put-element : (c : Context) (ns : List (List ℕ)) (o : Stack) (name : BlockElement)
    (attributes : List BlockAttribute) (content : Blocks)
    → may_come (context_of c o) name attributes ≡ true
    → Placed None ns (with_block o (element name attributes content))
    → (ms : List (List ℕ)) × (names_outside (element_name name) (Some ns) ≡ Some ms)
    × Placed (Some (element_name name)) ms o
put-element c ns (outside done) name attributes content h k =
    let n = element_name name in
    let x : ns ≡ [] = k in
    (names_outside_list n ns, refl, rw x (nothing-outside n))
  where
    names_outside_list : List ℕ → List (List ℕ) → List (List ℕ)
    names_outside_list n ns = if bounds_section n then names_left ns else ns

    nothing-outside : (n : List ℕ) → names_outside_list n [] ≡ []
    nothing-outside n = test (bounds_section n) (λ t. rw t refl) (λ t. rw t refl)
put-element c ns (inside f more_attributes done below) name attributes content h k =
    let n = element_name name in
    let m = element_name f in
    test (is_table m)
    (λ t.
    let e : ns ≡ section_name ∷ m ∷ k.0 = rw t at k.2 in
    test (is_row n)
    (λ r. rw (row-bounds n r).0 (ns, refl, (k.0, k.1, rw (t, r) e)))
    (λ r.
    let yes = caption-bounds n (part-in-table (around_content m (context_of c below)) name attributes h t r) in
    rw yes (names_left ns, refl, (k.0, k.1, rw (t, r) (ap names_left e)))))
    (λ t.
    let e = rw t at k.2 in
    let left : names_left ns ≡ ns = ap names_left e ∙ rw (not-section f) (sym e) in
    test (bounds_section n)
    (λ q. rw q (names_left ns, refl, (k.0, k.1, rw t (left ∙ e)))) (λ q. rw q (ns, refl, (k.0, k.1, rw t e))))

-- ---- the names of what is open are the context

strict-frame : (c : Context) (name : BlockElement) (attributes : List BlockAttribute) (done : Blocks) (below : Stack)
    → stack_is_strict c (inside name attributes done below) ≡ true
    → (may_come (context_of c below) name attributes ≡ true) × (stack_is_strict c below ≡ true)
strict-frame c name attributes done below h =
    let d = around_content (element_name name) (context_of c below) in
    let own = may_come (context_of c below) name attributes in
    let p = and_parts (own && elements_are_strict d done) (stack_is_strict c below) h in
    ((and_parts own (elements_are_strict d done) p.0).0, p.1)

-- a row comes in a table
row-in-table : (d : Context) (name : BlockElement) (attributes : List BlockAttribute)
    → may_come d name attributes ≡ true → is_row (element_name name) ≡ true
    → is_table (parent_name d) ≡ true
row-in-table d name attributes h q =
    let n = element_name name in
    let f = (and_parts (element_is_strict (place_of n d) n attributes)
    (fits_table (parent_name d) (if is_row n then section_name else n)) h).1 in
    rw q at f

-- around an element with this name
pub context-around : (c : Context) (m : List ℕ) (ns : List (List ℕ)) (o : Stack) → takes_blocks c ≡ true
    → stack_is_strict c o ≡ true → (is_row m ≡ true → is_table (parent_name (context_of c o)) ≡ true)
    → Placed (Some m) ns o → ns ++ c ≡ place_of m (context_of c o)
context-around c m ns (outside done) b h p k =
    test (is_row m)
    (λ r. let w = rw (one_name (codes "table") (parent_name c) (p r)) at b in absurd (cc)) (λ r. rw (r, k) refl)
context-around c m ns (inside name attributes done below) b h p k =
    let n = element_name name in
    let f = strict-frame c name attributes done below h in
    let inner = context-around c n k.0 below b f.1
    (λ r. row-in-table (context_of c below) name attributes f.0 r) k.1 in
    let whole : n ∷ (k.0 ++ c) ≡ context_of c (inside name attributes done below) = ap (λ ks. n ∷ ks) inner in
    test (is_table n)
    (λ t.
    let w = rw t at k.2 in
    test (is_row m)
    (λ r. let e = rw r at w in rw r (ap (λ ks. ks ++ c) e ∙ ap (λ ks. section_name ∷ ks) whole))
    (λ r. let e = rw r at w in rw r (ap (λ ks. ks ++ c) e ∙ whole)))
    (λ t.
    let e = rw t at k.2 in
    test (is_row m) (λ r. absurd (true≢false (sym (p r) ∙ t))) (λ r. rw r (ap (λ ks. ks ++ c) e ∙ whole)))

-- where the next block comes, outside tables
pub context-next : (c : Context) (ns : List (List ℕ)) (o : Stack) → takes_blocks c ≡ true
    → stack_is_strict c o ≡ true → takes_blocks (context_of c o) ≡ true → Placed None ns o
    → ns ++ c ≡ context_of c o
context-next c ns (outside done) b h p k = rw k refl
context-next c ns (inside name attributes done below) b h p k =
    let n = element_name name in
    let f = strict-frame c name attributes done below h in
    let inner = context-around c n k.0 below b f.1
    (λ r. row-in-table (context_of c below) name attributes f.0 r) k.1 in
    test (is_table n)
    (λ t. let w = rw (one_name (codes "table") n t) at p in absurd (cc))
    (λ t. let e = rw t at k.2 in ap (λ ks. ks ++ c) e ∙ ap (λ ks. n ∷ ks) inner)

-- ---- lines

head-names : (n : List ℕ) (ns ms : List (List ℕ)) → Head None n ns ms
    → (ns ≡ n ∷ ms) ⊎ ((is_table n ≡ true) × (ns ≡ section_name ∷ n ∷ ms))
head-names n ns ms h = test (is_table n) (λ t. let w = rw t at h in inr (t, w)) (λ t. let w = rw t at h in inl w)

ends-placed : (n : List ℕ) (ks : List (List ℕ))
    → (ms : List (List ℕ)) × (names_with_ends n (Some ks) ≡ Some ms) × Head None n ms ks
ends-placed n ks =
    test (is_table n) (λ t. rw t (section_name ∷ n ∷ ks, refl, refl)) (λ t. rw t (n ∷ ks, refl, refl))

-- before a line
abbrev Before : Context → Line → List (List ℕ) → Stack → Type 0
Before c l ns o =
    (stack_is_strict c o ≡ true) × (line_is_strict c l (Some ns) ≡ true)
    × (ms : List (List ℕ)) × (names_with_line l (Some ns) ≡ Some ms) × Placed None ms o

text-fits : (n s : List ℕ) (c : Context) → elements_are_strict (n ∷ c) (text_blocks s) ≡ true
    → (not (holds_parts n) || is_empty s) ≡ true
text-fits n [] c h = test (holds_parts n) (λ t. rw t refl) (λ t. rw t refl)
text-fits n (b ∷ s) c h =
    let w = (and_parts (takes_blocks (n ∷ c)) true h).0 in rw (not-true (holds_parts n) w) refl

line-parted : (c : Context) (o p : Stack) (l : Line) (ns : List (List ℕ)) → takes_blocks c ≡ true
    → with_line o l ≡ Some p → stack_is_strict c p ≡ true → Placed None ns p → Before c l ns o
line-parted c o p (lines.opening name attributes) ns b e h k =
    let n = element_name name in
    let x : inside name attributes no_blocks o ≡ p = cc in
    let f = strict-frame c name attributes no_blocks o (subst (λ q. stack_is_strict c q ≡ true) (sym x) h) in
    let m = subst (Placed None ns) (sym x) k in
    let named = table-names name ns m.0 (head-names n ns m.0 m.2) in
    let tag = opening n (pairs_of_element attributes) in
    let around = context-around c n m.0 o b f.1 (λ r. row-in-table (context_of c o) name attributes f.0 r) m.1 in
    let own = (and_parts (element_is_strict (place_of n (context_of c o)) n attributes)
    (fits_table (parent_name (context_of c o)) (if is_row n then section_name else n)) f.0).0 in
    let opens : names_with tag (names_outside n (Some ns)) ≡ Some m.0 =
    ap (names_with tag) named ∙ rw (bytes_same n) refl in
    let next = placed-next c n m.0 o (part-in-table (context_of c o) name attributes f.0) m.1 in (
      f.1,
      subst (λ y. element_is_strict (below_open c (behind_first y)) n attributes ≡ true) (sym named)
          (subst (λ y. element_is_strict y n attributes ≡ true) (sym around) own),
      next.0,
      ap (names_before n) opens ∙ next.1,
      next.2,
    )
line-parted c (outside done) p (lines.closing name) ns b e h k = absurd (cc)
line-parted c (inside other attributes done below) p (lines.closing name) ns b e h k =
    test (is_same_element name other)
    (λ t.
    let w = rw t at e in
    let n = element_name other in
    let same : element_name name ≡ n = same_bytes (element_name name) n t in
    let x : with_block below (element other attributes done) ≡ p = cc in
    let parted = block-parted c below (element other attributes done)
    (subst (λ q. stack_is_strict c q ≡ true) (sym x) h) in
    let d = around_content n (context_of c below) in
    let may = may_come (context_of c below) other attributes in
    let q = and_parts may (elements_are_strict d done) parted.1 in
    let put = put-element c ns below other attributes done q.0 (subst (Placed None ns) (sym x) k) in
    let r = ends-placed n put.0 in (
      and_from (may && elements_are_strict d done) (stack_is_strict c below) parted.1 parted.0,
      refl,
      r.0,
      ap (λ y. names_with_ends y (names_outside y (Some ns))) same ∙ (ap (names_with_ends n) put.1 ∙ r.1),
      (put.0, put.2, r.2),
    ))
    (λ t. let w = rw t at e in absurd (cc))
line-parted c o p (lines.whole name attributes s) ns b e h k =
    let n = element_name name in
    let x : with_block o (element name attributes (text_blocks s)) ≡ p = cc in
    let parted = block-parted c o (element name attributes (text_blocks s))
    (subst (λ q. stack_is_strict c q ≡ true) (sym x) h) in
    let d = context_of c o in
    let may = may_come d name attributes in
    let q = and_parts may (elements_are_strict (around_content n d) (text_blocks s)) parted.1 in
    let put = put-element c ns o name attributes (text_blocks s) q.0 (subst (Placed None ns) (sym x) k) in
    let around = context-around c n put.0 o b parted.0 (λ r. row-in-table d name attributes q.0 r) put.2 in
    let own = (and_parts (element_is_strict (place_of n d) n attributes)
    (fits_table (parent_name d) (if is_row n then section_name else n)) q.0).0 in
    let next = placed-next c n put.0 o (part-in-table d name attributes q.0) put.2 in (
      parted.0,
      and_from (element_is_strict (below_open c (names_outside n (Some ns))) n attributes)
          (not (holds_parts n) || is_empty s)
          (subst (λ y. element_is_strict (below_open c y) n attributes ≡ true) (sym put.1)
          (subst (λ y. element_is_strict y n attributes ≡ true) (sym around) own))
          (text-fits n s (place_of n d) q.1),
      next.0,
      ap (names_before n) put.1 ∙ next.1,
      next.2,
    )
line-parted c o p lines.unknown ns b e h k = absurd (cc)

pub lines-parted : (c : Context) (ls : List (List ℕ)) (o p : Stack) (ns : List (List ℕ)) → takes_blocks c ≡ true
    → with_lines (Some o) ls ≡ Some p → stack_is_strict c p ≡ true → Placed None ns p
    → (stack_is_strict c o ≡ true) × (lines_are_strict c ls (Some ns) ≡ true)
    × (ms : List (List ℕ)) × (names_with_lines ls (Some ns) ≡ Some ms) × Placed None ms o
lines-parted c [] o p ns b e h k =
    let x : o ≡ p = cc in
    (subst (λ q. stack_is_strict c q ≡ true) (sym x) h, refl, ns, refl, subst (Placed None ns) (sym x) k)
lines-parted c (s ∷ rest) o p ns b e h k =
    let m = kept-lines (with_line o (line_of s)) rest p e in
    let i = lines-parted c rest m.0 p ns b m.2 h k in
    let j = line-parted c o m.0 (line_of s) i.2 b m.1 i.0 i.4 in
    let left = names_with_lines rest (Some ns) in (
      j.0,
      and_from (line_is_strict c (line_of s) left) (lines_are_strict c rest (Some ns))
          (subst (λ n. line_is_strict c (line_of s) n ≡ true) (sym i.3) j.1) i.1,
      j.2,
      ap (names_with_line (line_of s)) i.3 ∙ j.3,
      j.4,
    )
