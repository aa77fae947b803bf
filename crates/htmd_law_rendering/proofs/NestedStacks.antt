-- What is open between the blocks of a flat document, if the document that it is has been found.
use Rattle.std.proofs.Common.{◌≡◌, ℕ, ◌+◌, ◌≤◌, Bool, true, List, [], ◌∷◌, refl, sym, ap, ◌∙◌, Option, Some, None}
use Rattle.std.proofs.Common.{length, subst, arith, inl, inr, codes}
use Rattle.std.specs.Prelude.{◌⊎◌, ◌&&◌, if◌then◌else◌}
use Rattle.std.proofs.lemmas.Bool.{and_parts}
use Rattle.htmd_lexical.proofs.BytesLemmas.{same_bytes, bytes_same}
use Rattle.htmd_lexical.proofs.Cases.{test}
use Rattle.htmd_document.specs.Documents.{Block, Blocks, paragraph, heading, code_block, quote, thematic_break}
use Rattle.htmd_document.specs.Documents.{list, table, element, tags, no_blocks, block}
use Rattle.htmd_document.specs.Tags.{element_name}
use Rattle.htmd_document.specs.declared.document.BlockElement.{BlockElement}
use Rattle.htmd_grammar.specs.Nesting.{is_table, parent_name}
use Rattle.htmd_grammar.proofs.NestingLemmas.{one_name}
use Rattle.htmd_commonmark_reading.specs.Elements as lines
use Rattle.htmd_commonmark_reading.specs.Elements.{Line, line_of, Stack, outside, inside, joined, with_block}
use Rattle.htmd_commonmark_reading.specs.Elements.{text_blocks, is_same_element, with_line, with_lines}
use Rattle.htmd_commonmark_reading.specs.Elements.{all_closed, with_flat, nested_block, nested}
use Rattle.htmd_law_rendering.specs.RawTags.{opening}
use Rattle.htmd_law_rendering.specs.RenderedTrees.{pairs_of_element, bounds_section, section_name, is_caption}
use Rattle.htmd_law_rendering.specs.PlainReadings.{names_with, names_with_line, names_with_lines, names_left}
use Rattle.htmd_law_rendering.specs.PlainReadings.{names_outside, names_with_ends, names_before, levels_of_element}
use Rattle.htmd_law_rendering.specs.PlainReadings.{tree_depth}
use Rattle.htmd_law_rendering.specs.PlainReadings.{trees_depth}
use Rattle.htmd_law_rendering.proofs.LineLemmas.{not-section}

-- ---- nothing is found where the stack is lost

lost-flat : (b : Block) (made : Option Block) → with_flat None b made ≡ None
lost-flat (paragraph xs) made = refl
lost-flat (heading level xs) made = refl
lost-flat (code_block language s) made = refl
lost-flat (quote bs) made = refl
lost-flat thematic_break made = refl
lost-flat (list start is_tight items) made = refl
lost-flat (table alignments header rows) made = refl
lost-flat (element name attributes bs) made = refl
lost-flat (tags s) made = refl

lost : (bs : Blocks) → nested None bs ≡ None
lost no_blocks = refl
lost (block b bs) = ap (λ o. nested o bs) (lost-flat b (nested_block b)) ∙ lost bs

-- the stack behind the first block
pub kept : (m : Option Stack) (bs : Blocks) (d : Blocks) → nested m bs ≡ Some d
    → (o : Stack) × (m ≡ Some o) × (nested (Some o) bs ≡ Some d)
kept None bs d e = let w : None ≡ Some d = sym (lost bs) ∙ e in absurd (cc)
kept (Some o) bs d e = (o, refl, e)

pub kept-lines : (m : Option Stack) (ls : List (List ℕ)) (p : Stack) → with_lines m ls ≡ Some p
    → (o : Stack) × (m ≡ Some o) × (with_lines (Some o) ls ≡ Some p)
kept-lines None ls p e = absurd (cc)
kept-lines (Some o) ls p e = (o, refl, e)

pub last : (o : Stack) (d : Blocks) → all_closed (Some o) ≡ Some d → outside d ≡ o
last (outside done) d e = let x : done ≡ d = cc in ap outside (sym x)
last (inside name attributes done below) d e = absurd (cc)

-- ---- the names of what is open

-- those of the elements of a stack, in a table with its section or without
abbrev pub Matches : List (List ℕ) → Stack → Type 0
Matches ns (outside done) = ns ≡ []
Matches ns (inside name attributes done below) =
    (ms : List (List ℕ)) × Matches ms below
    × ((ns ≡ element_name name ∷ ms)
    ⊎ ((is_table (element_name name) ≡ true) × (ns ≡ section_name ∷ element_name name ∷ ms)))

pub same-names : (ns : List (List ℕ)) (o : Stack) (b : Block) → Matches ns (with_block o b) → Matches ns o
same-names ns (outside done) b m = m
same-names ns (inside name attributes done below) b m = m

left-matches : (ns : List (List ℕ)) (o : Stack) → Matches ns o → Matches (names_left ns) o
left-matches ns (outside done) m = rw m refl
left-matches ns (inside name attributes done below) m =
    elim m.2 [
      | inl e ↦ (m.0, m.1, inl (ap names_left e ∙ rw (not-section name) refl))
      | inr e ↦ (m.0, m.1, inl (ap names_left e.1))
    ]

outside-matches : (n : List ℕ) (ns : List (List ℕ)) (o : Stack) → Matches ns o
    → (ms : List (List ℕ)) × (names_outside n (Some ns) ≡ Some ms) × Matches ms o
outside-matches n ns o m =
    test (bounds_section n) (λ t. rw t (names_left ns, refl, left-matches ns o m)) (λ t. rw t (ns, refl, m))

-- left of a caption is the section again
before-matches : (n : List ℕ) (ns : List (List ℕ)) (o : Stack) → Matches ns o
    → (ms : List (List ℕ)) × (names_before n (Some ns) ≡ Some ms) × Matches ms o
before-matches n ns o m =
    test (is_caption n && is_table (parent_name ns))
    (λ t. rw t (
      section_name ∷ ns,
      refl,
      in-section ns o m
          (and_parts (is_caption n) (is_table (parent_name ns)) t).1,
    ))
    (λ t. rw t (ns, refl, m))
  where
    in-section : (ns : List (List ℕ)) (o : Stack) → Matches ns o → is_table (parent_name ns) ≡ true
        → Matches (section_name ∷ ns) o
    in-section ns (outside done) m t = let w = rw m at t in absurd (cc)
    in-section ns (inside name attributes done below) m t =
        elim m.2 [
          | inl e ↦ (
            m.0,
            m.1,
            inr (
              ap (λ ks. is_table (parent_name ks)) (sym e)
                  ∙ t,
              ap (λ ks. section_name ∷ ks) e,
            ),
          )
          | inr e ↦ let w = rw e.1 at t in absurd (cc)
        ]

-- what is left of the section of a table is the table
pub table-names : (name : BlockElement) (ns ms : List (List ℕ))
    → ((ns ≡ element_name name ∷ ms)
    ⊎ ((is_table (element_name name) ≡ true) × (ns ≡ section_name ∷ element_name name ∷ ms)))
    → names_outside (element_name name) (Some ns) ≡ Some (element_name name ∷ ms)
table-names name ns ms (inl e) =
    let n = element_name name in
    test (bounds_section n)
    (λ t. rw t (ap (λ k. Some (names_left k)) e ∙ rw (not-section name) refl)) (λ t. rw t (ap Some e))
table-names name ns ms (inr e) =
    let n = element_name name in
    let bounds : bounds_section n ≡ true = ap bounds_section (one_name (codes "table") n e.0) in
    rw bounds (ap (λ k. Some (names_left k)) e.1)

pub ends-names : (n : List ℕ) (ks : List (List ℕ))
    → (ms : List (List ℕ)) × (names_with_ends n (Some ks) ≡ Some ms)
    × ((ms ≡ n ∷ ks) ⊎ ((is_table n ≡ true) × (ms ≡ section_name ∷ n ∷ ks)))
ends-names n ks =
    test (is_table n) (λ t. rw t (section_name ∷ n ∷ ks, refl, inr (refl, refl)))
    (λ t. rw t (n ∷ ks, refl, inl refl))

pub line-names : (o p : Stack) (l : Line) (ns : List (List ℕ)) → with_line o l ≡ Some p → Matches ns p
    → (ms : List (List ℕ)) × (names_with_line l (Some ns) ≡ Some ms) × Matches ms o
line-names o p (lines.opening name attributes) ns e m =
    let x : inside name attributes no_blocks o ≡ p = cc in
    let k = subst (Matches ns) (sym x) m in
    let n = element_name name in
    let tag = opening n (pairs_of_element attributes) in
    let named : names_with tag (names_outside n (Some ns)) ≡ Some k.0 =
    ap (names_with tag) (table-names name ns k.0 k.2) ∙ rw (bytes_same n) refl in
    let before = before-matches n k.0 o k.1 in
    (before.0, ap (names_before n) named ∙ before.1, before.2)
line-names (outside done) p (lines.closing name) ns e m = absurd (cc)
line-names (inside n attributes done below) p (lines.closing name) ns e m =
    test (is_same_element name n)
    (λ t.
    let w = rw t at e in
    let b = element n attributes done in
    let x : with_block below b ≡ p = cc in
    let k = outside-matches (element_name name) ns below (same-names ns below b (subst (Matches ns) (sym x) m)) in
    let r = ends-names (element_name name) k.0 in
    let same : element_name name ≡ element_name n = same_bytes (element_name name) (element_name n) t in (
      r.0,
      ap (names_with_ends (element_name name)) k.1 ∙ r.1,
      (
        k.0,
        k.2,
        subst (λ y. (r.0 ≡ y ∷ k.0) ⊎ ((is_table y ≡ true) × (r.0 ≡ section_name ∷ y ∷ k.0)))
            same r.2,
      ),
    ))
    (λ t. let w = rw t at e in absurd (cc))
line-names o p (lines.whole name attributes s) ns e m =
    let b = element name attributes (text_blocks s) in
    let x : with_block o b ≡ p = cc in
    let n = element_name name in
    let left = outside-matches n ns o (same-names ns o b (subst (Matches ns) (sym x) m)) in
    let before = before-matches n left.0 o left.2 in
    (before.0, ap (names_before n) left.1 ∙ before.1, before.2)
line-names o p lines.unknown ns e m = absurd (cc)

pub lines-names : (ls : List (List ℕ)) (o p : Stack) (ns : List (List ℕ)) → with_lines (Some o) ls ≡ Some p
    → Matches ns p → (ms : List (List ℕ)) × (names_with_lines ls (Some ns) ≡ Some ms) × Matches ms o
lines-names [] o p ns e m = let x : o ≡ p = cc in (ns, refl, subst (Matches ns) (sym x) m)
lines-names (s ∷ rest) o p ns e m =
    let k = kept-lines (with_line o (line_of s)) rest p e in
    let i = lines-names rest k.0 p ns k.2 m in
    let j = line-names o k.0 (line_of s) i.0 k.1 i.2 in
    (j.0, ap (names_with_line (line_of s)) i.1 ∙ j.1, j.2)

-- ---- how deep it is

-- how many elements are open, with the sections of tables
abbrev pub open_levels : Stack → ℕ
open_levels (outside done) = 0
open_levels (inside name attributes done below) = levels_of_element (element_name name) + open_levels below

abbrev pub StackIsLow : ℕ → Stack → Type 0
StackIsLow n (outside done) = trees_depth done ≤ n
StackIsLow n (inside name attributes done below) =
    (levels_of_element (element_name name) + open_levels below + trees_depth done ≤ n) × StackIsLow n below

pub few-open : (n : ℕ) (o : Stack) → StackIsLow n o → open_levels o ≤ n
few-open n (outside done) h = omega arith
few-open n (inside name attributes done below) h = let l = h.0 in omega (arith, l)

some-levels : (n : List ℕ) → 1 ≤ levels_of_element n
some-levels n = test (is_table n) (λ t. rw t (omega arith)) (λ t. rw t (omega arith))

-- no more names than levels
pub few-names : (ns : List (List ℕ)) (o : Stack) → Matches ns o → length ns ≤ open_levels o
few-names ns (outside done) m = rw m (omega arith)
few-names ns (inside name attributes done below) m =
    let n = element_name name in
    let i = few-names m.0 below m.1 in
    let one = some-levels n in
    elim m.2 [
      | inl e ↦ rw e (omega (arith, i, one))
      | inr e ↦
          let two : levels_of_element n ≡ 2 = ap (λ (b : Bool). if b then 2 else 1) e.0 in
          rw e.1 (omega (arith, i, two))
    ]

joined-low : (n k : ℕ) (bs : Blocks) (b : Block) → k + trees_depth (joined bs (block b no_blocks)) ≤ n
    → (k + trees_depth bs ≤ n) × (k + tree_depth b ≤ n)
joined-low n k no_blocks b h = (omega (arith, h), omega (arith, h))
joined-low n k (block a bs) b h =
    let i = joined-low n k bs b (omega (arith, h)) in
    let l = i.0 in (omega (arith, h, l), i.1)

pub block-low : (n : ℕ) (o : Stack) (b : Block) → StackIsLow n (with_block o b)
    → StackIsLow n o × (open_levels o + tree_depth b ≤ n)
block-low n (outside done) b h =
    let i = joined-low n 0 done b (omega (arith, h)) in
    let l = i.0 in
    let m = i.1 in (omega (arith, l), omega (arith, m))
block-low n (inside name attributes done below) b h =
    let i = joined-low n (levels_of_element (element_name name) + open_levels below) done b h.0 in ((i.0, h.1), i.1)

pub line-low : (n : ℕ) (o p : Stack) (l : Line) → with_line o l ≡ Some p → StackIsLow n p → StackIsLow n o
line-low n o p (lines.opening name attributes) e h =
    let x : inside name attributes no_blocks o ≡ p = cc in (subst (StackIsLow n) (sym x) h).1
line-low n (outside done) p (lines.closing name) e h = absurd (cc)
line-low n (inside m attributes done below) p (lines.closing name) e h =
    test (is_same_element name m)
    (λ t.
    let w = rw t at e in
    let b = element m attributes done in
    let x : with_block below b ≡ p = cc in
    let k = block-low n below b (subst (StackIsLow n) (sym x) h) in
    let l = k.1 in (omega (arith, l), k.0))
    (λ t. let w = rw t at e in absurd (cc))
line-low n o p (lines.whole name attributes s) e h =
    let b = element name attributes (text_blocks s) in
    let x : with_block o b ≡ p = cc in (block-low n o b (subst (StackIsLow n) (sym x) h)).0
line-low n o p lines.unknown e h = absurd (cc)
