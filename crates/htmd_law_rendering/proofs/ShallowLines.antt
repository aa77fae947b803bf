-- The trees of lines of tags are no deeper than the document that they are of.
use Rattle.std.proofs.Common.{◌≡◌, ℕ, suc, ◌+◌, ◌≤◌, max, List, [], ◌∷◌, sym, ap, ◌∙◌, Option, Some, None, length}
use Rattle.std.proofs.Common.{arith, subst, codes, refl}
use Rattle.std.specs.Prelude.{◌&&◌}
use Rattle.htmd_lexical.proofs.Cases.{test}
use Rattle.htmd_document.specs.Tags.{element_name}
use Rattle.htmd_document.specs.declared.document.BlockElement.{BlockElement}
use Rattle.htmd_grammar.specs.Nesting.{is_table, is_tbody}
use Rattle.htmd_commonmark_reading.specs.Elements as lines
use Rattle.htmd_commonmark_reading.specs.Elements.{Line, line_of, Stack}
use Rattle.htmd_law_rendering.specs.RawTags.{opening, closing}
use Rattle.htmd_law_rendering.specs.RenderedTrees as trees
use Rattle.htmd_law_rendering.specs.RenderedTrees.{line_end, onto, pairs_of_element, with_line, with_lines, Behind}
use Rattle.htmd_law_rendering.specs.RenderedTrees.{sectioned, section_name, left_of_section, bounds_section}
use Rattle.htmd_law_rendering.specs.RenderedTrees.{outside_section, ends_of, is_caption, in_table, before_caption}
use Rattle.htmd_law_rendering.specs.SpelledTrees.{SpelledForest, text, element, lone, section, none, more, levels}
use Rattle.htmd_law_rendering.specs.PlainReadings.{opened_names, names_with, names_with_line, names_outside}
use Rattle.htmd_law_rendering.specs.PlainReadings.{names_before}
use Rattle.htmd_law_rendering.proofs.LineLemmas.{lines-named, outside-named, before-some}
use Rattle.htmd_law_rendering.proofs.NestedStacks.{Matches, StackIsLow, few-open, few-names, line-low, line-names}
use Rattle.htmd_law_rendering.proofs.NestedStacks.{kept-lines}
use Rattle.htmd_law_rendering.proofs.RawLemmas.{names_of}
use Rattle.htmd_law_rendering.proofs.SeenLevels.{text-levels, length-named, LowOpen, opened-low}

-- what is open is no deeper than this, and leaves
abbrev pub IsLow : ℕ → trees.Open → Stack → Type 0
IsLow n t p = LowOpen (n + 24) t × Matches (names_of t.behind) p × StackIsLow n p

pub behind-few : (n : ℕ) (t : trees.Open) (p : Stack) → Matches (names_of t.behind) p → StackIsLow n p
    → length t.behind ≤ n
behind-few n t p e h =
    let l = few-open n p h in
    let f = few-names (names_of t.behind) p e in
    let m = length-named t.behind in omega (arith, l, f, m)

sectioned-levels : (ts rest : SpelledForest) → levels (sectioned ts rest) ≤ max (suc (levels ts)) (levels rest)
sectioned-levels none rest = omega arith
sectioned-levels (more (text s) ts) rest = let i = sectioned-levels ts rest in omega (arith, i)
sectioned-levels (more (element k n attributes ks) ts) rest = omega arith
sectioned-levels (more (lone n attributes s) ts) rest = omega arith
sectioned-levels (more (section rows) ts) rest = omega arith

left-low : (e : ℕ) (first : SpelledForest) (behind : List Behind)
    → LowOpen e (record { first = first; behind = behind }) → LowOpen e (left_of_section first behind)
left-low e first [] h = h
left-low e first (b ∷ bs) h =
    test (is_tbody b.name)
    (λ t. let l = h.0 in
    let m = h.1.0 in
    let s = sectioned-levels first b.trees in rw t (omega (arith, l, m, s), h.1.1))
    (λ t. rw t h)

outside-low : (e : ℕ) (n : List ℕ) (t : trees.Open) → LowOpen e t → LowOpen e (outside_section n t)
outside-low e n t h =
    test (bounds_section n) (λ q. rw q (left-low e t.first t.behind h)) (λ q. rw q h)

left-few : (n : ℕ) (first : SpelledForest) (behind : List Behind) → length behind ≤ n
    → length (left_of_section first behind).behind ≤ n
left-few n first [] h = h
left-few n first (b ∷ bs) h = test (is_tbody b.name) (λ t. rw t (omega (arith, h))) (λ t. rw t h)

outside-few : (n : ℕ) (name : List ℕ) (t : trees.Open) → length t.behind ≤ n
    → length (outside_section name t).behind ≤ n
outside-few n name t h =
    test (bounds_section name) (λ q. rw q (left-few n t.first t.behind h)) (λ q. rw q h)

-- a line's end before it
ended-low : (n : ℕ) (t : trees.Open) → length t.behind ≤ n → LowOpen (n + 24) t
    → LowOpen (n + 24) (onto line_end t)
ended-low n t few h =
    let l = h.0 in
    let m = text-levels (codes "\n") t.first in (omega (arith, few, l, m), h.1)

-- an element that closes may be one more
closed-low : (e : ℕ) (n : List ℕ) (t : trees.Open) → suc (length t.behind) ≤ e → LowOpen e t
    → LowOpen e (trees.with_raw (closing n) t)
closed-low e n t l h = (omega (arith, l), h)

ends-low : (n : ℕ) (name : List ℕ) (t : trees.Open) → length t.behind ≤ n → LowOpen (n + 24) t
    → LowOpen (n + 24) (ends_of name t)
ends-low n name t few h =
    let one = closed-low (n + 24) name t (omega (arith, few)) h in
    test (is_table name)
    (λ q. rw q (closed-low (n + 24) section_name (trees.with_raw (closing name) t) (omega (arith, few)) one))
    (λ q. rw q one)

opened-line : (e : ℕ) (name : BlockElement) (o : trees.Open) (ns : List (List ℕ)) (pairs : _)
    → opened_names (element_name name) (names_of o.behind) ≡ Some ns → LowOpen e o
    → LowOpen e (trees.opened (element_name name) pairs o.first o.behind)
opened-line e name o ns pairs h l = by_behind o.first o.behind h l
  where
    by_behind : (first : SpelledForest) (behind : List Behind)
        → opened_names (element_name name) (names_of behind) ≡ Some ns
        → LowOpen e (record { first = first; behind = behind })
        → LowOpen e (trees.opened (element_name name) pairs first behind)
    by_behind first [] h l = absurd (cc)
    by_behind first (b ∷ bs) h l = opened-low e (element_name name) pairs first (b ∷ bs) b.name (names_of bs) refl l

-- left of a caption a section again
before-low : (n : ℕ) (name : List ℕ) (t : trees.Open) → length t.behind ≤ n → LowOpen (n + 24) t
    → LowOpen (n + 24) (before_caption name t)
before-low n name t few h =
    test (is_caption name && in_table t.behind)
    (λ q. rw q (closed-low (n + 24) section_name t (omega (arith, few)) h)) (λ q. rw q h)

opened-few : (n : ℕ) (name : List ℕ) (pairs : _) (first : SpelledForest) (behind : List Behind)
    → length behind ≤ n
    → length (trees.opened name pairs first behind).behind ≤ n
opened-few n name pairs first [] h = omega (arith, h)
opened-few n name pairs first (b ∷ bs) h = omega (arith, h)

one-low : (n : ℕ) (l : Line) (t : trees.Open) (ns : List (List ℕ)) → length t.behind ≤ n
    → names_with_line l (Some (names_of t.behind)) ≡ Some ns → LowOpen (n + 24) t
    → LowOpen (n + 24) (with_line l t)
one-low n (lines.opening name attributes) t ns few h k =
    let m = element_name name in
    let d = outside_section m t in
    let less = outside-few n m t few in
    let low = ended-low n d less (outside-low (n + 24) m t k) in
    before-low n m (trees.with_raw (opening m (pairs_of_element attributes)) (onto line_end d))
    (opened-few n m (pairs_of_element attributes) (line_end d.first) d.behind less)
    (by_names (names_outside m (Some (names_of t.behind))) refl h low)
  where
    by_names : (q : Option (List (List ℕ))) → names_outside (element_name name) (Some (names_of t.behind)) ≡ q
        → names_before (element_name name) (names_with (opening (element_name name) (pairs_of_element attributes)) q)
        ≡ Some ns
        → LowOpen (n + 24) (onto line_end (outside_section (element_name name) t))
        → LowOpen (n + 24) (trees.with_raw (opening (element_name name) (pairs_of_element attributes))
        (onto line_end (outside_section (element_name name) t)))
    by_names None q h low = absurd (cc)
    by_names (Some ms) q h low =
        let named = outside-named (element_name name) t ms q in
        let some = before-some (element_name name) (opened_names (element_name name) ms) ns h in
        opened-line (n + 24) name (onto line_end (outside_section (element_name name) t)) some.0
        (pairs_of_element attributes) (ap (opened_names (element_name name)) named ∙ some.1) low
one-low n (lines.closing name) t ns few h k =
    let m = element_name name in
    let d = outside_section m t in
    let less = outside-few n m t few in
    ends-low n m (onto line_end d) less (ended-low n d less (outside-low (n + 24) m t k))
one-low n (lines.whole name attributes s) t ns few h k =
    let m = element_name name in
    let d = outside_section m t in
    let less = outside-few n m t few in
    let low = ended-low n d less (outside-low (n + 24) m t k) in
    let l = low.0 in
    before-low n m (onto (λ ts. more (lone m (pairs_of_element attributes) s) (line_end ts)) d) less
    (omega (arith, less, l), low.1)
one-low n lines.unknown t ns few h k = absurd (cc)

pub lines-low : (n : ℕ) (ls : List (List ℕ)) (o p : Stack) (t : trees.Open)
    → lines.with_lines (Some o) ls ≡ Some p
    → IsLow n t p → IsLow n (with_lines ls t) o
lines-low n [] o p t e h = let x : o ≡ p = cc in subst (IsLow n t) (sym x) h
lines-low n (s ∷ rest) o p t e h =
    let k = kept-lines (lines.with_line o (line_of s)) rest p e in
    let i = lines-low n rest k.0 p t k.2 h in
    let d = with_lines rest t in
    let few = behind-few n d k.0 i.1 i.2 in
    let m = line-names o k.0 (line_of s) (names_of d.behind) k.1 i.1 in
    let named = lines-named (s ∷ []) d (Some (names_of d.behind)) m.0 m.1
    (λ ms f. let y : names_of d.behind ≡ ms = cc in y) in (
      one-low n (line_of s) d m.0 few m.1 i.0,
      subst (λ ns. Matches ns o) (sym named) m.2,
      line-low n o k.0 (line_of s) k.1 i.2,
    )
