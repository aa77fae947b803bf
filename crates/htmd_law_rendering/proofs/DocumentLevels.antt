-- How deep the inlines of a document in normal form are: each format stands in itself only so often.
use Rattle.std.proofs.Common.{◌≡◌, ℕ, suc, ◌+◌, ◌-◌, ◌≤◌, max, Bool, true, false, not, ◌&&◌, List, [], ◌∷◌, refl, sym}
use Rattle.std.proofs.Common.{ap, ◌∙◌, arith}
use Rattle.std.specs.Prelude.{◌||◌, nat_le}
use Rattle.std.proofs.lemmas.Bool.{and_parts, not-true}
use Rattle.std.proofs.lemmas.Bool.Decides.{nat_tests}
use Rattle.htmd_document.specs.DocumentLimits.{most_raised}
use Rattle.htmd_document.specs.Documents as document
use Rattle.htmd_document.specs.Formats.{Format, Emphasis, Strong, Deleted, Superscript, Subscript, Inserted, Underlined}
use Rattle.htmd_document.specs.Formats.{Marked, Small, Keyboard, Abbreviation, is_same_kind, raised_count}
use Rattle.htmd_document.specs.NormalInlines.{is_around, is_barred, has_title, has_none, are_whole, is_attribute}
use Rattle.htmd_document.specs.NormalInlines.{is_title}
use Rattle.htmd_document.specs.NormalInlines.{is_normal, are_normal, meets, is_normal_line, is_normal_item}
use Rattle.htmd_document.specs.NormalInlines.{first_passes, last_passes, begins_with_space, ends_with_space, is_break}
use Rattle.htmd_law_rendering.proofs.PairedLemmas.{broken}

abbrev mutual
  -- how many elements and texts can be in each other
  pub inline_depth : document.Inline → ℕ
  inline_depth (document.text s) = 1
  inline_depth (document.code s) = 2
  inline_depth (document.formatted f content) = suc (line_depth content)
  inline_depth (document.link a t content) = suc (line_depth content)
  inline_depth (document.image a t description) = 1
  inline_depth (document.anchor id) = 1
  inline_depth document.line_break = 1
  inline_depth (document.task d) = 1

  pub line_depth : document.Inlines → ℕ
  line_depth document.no_inlines = 0
  line_depth (document.inline x rest) = max (inline_depth x) (line_depth rest)

-- ---- how many formats can still be opened

abbrev free : List Format → Format → ℕ
free around f = broken (not (is_around around f))

abbrev room : List Format → ℕ
room around =
    (most_raised - raised_count around) + free around Emphasis + free around Strong + free around Deleted
    + free around Inserted + free around Underlined + free around Marked + free around Small + free around Keyboard
    + free around (Abbreviation [])

one-kind : (around : List Format) (title : List ℕ) → is_around around (Abbreviation title)
    ≡ is_around around (Abbreviation [])
one-kind [] title = refl
one-kind (g ∷ around) title = ap (λ b. is_same_kind g (Abbreviation title) || b) (one-kind around title)

is-free : (b : Bool) → b ≡ false → broken (not b) ≡ 1
is-free true e = absurd (cc)
is-free false e = refl

few-raised : (n : ℕ) → nat_le most_raised n ≡ false → suc n ≤ most_raised
few-raised n e = grind (arith, nat_tests, e)

less-room : (around : List Format) (f : Format) → is_barred around f ≡ false
    → suc (room (f ∷ around)) ≤ room around
less-room around Emphasis e = let k = is-free (is_around around Emphasis) e in omega (arith, k)
less-room around Strong e = let k = is-free (is_around around Strong) e in omega (arith, k)
less-room around Deleted e = let k = is-free (is_around around Deleted) e in omega (arith, k)
less-room around Superscript e = let k = few-raised (raised_count around) e in omega (arith, k)
less-room around Subscript e = let k = few-raised (raised_count around) e in omega (arith, k)
less-room around Inserted e = let k = is-free (is_around around Inserted) e in omega (arith, k)
less-room around Underlined e = let k = is-free (is_around around Underlined) e in omega (arith, k)
less-room around Marked e = let k = is-free (is_around around Marked) e in omega (arith, k)
less-room around Small e = let k = is-free (is_around around Small) e in omega (arith, k)
less-room around Keyboard e = let k = is-free (is_around around Keyboard) e in omega (arith, k)
less-room around (Abbreviation title) e =
    let k = is-free (is_around around (Abbreviation [])) (sym (one-kind around title) ∙ e) in omega (arith, k)

-- ---- what is normal isn't deep

mutual
  one-low : (k : Bool) (around : List Format) (x : document.Inline) → is_normal k around x ≡ true
      → inline_depth x ≤ 2 + room around + broken (not k)
  one-low k around (document.text s) e = omega arith
  one-low k around (document.code s) e = omega arith
  one-low k around (document.formatted f content) e =
      let p = and_parts (not (is_barred around f) && has_title f && not (has_none content) && are_whole content)
      (are_normal k (f ∷ around) content) e in
      let q = and_parts (not (is_barred around f) && has_title f && not (has_none content)) (are_whole content) p.0 in
      let r = and_parts (not (is_barred around f) && has_title f) (not (has_none content)) q.0 in
      let s = and_parts (not (is_barred around f)) (has_title f) r.0 in
      let less = less-room around f (not-true (is_barred around f) s.0) in
      let i = all-low k (f ∷ around) content p.1 in omega (arith, less, i)
  one-low k around (document.link a t content) e =
      let p = and_parts (not k && is_attribute a && is_title t && not (has_none content))
      (are_normal true around content) e in
      let q = and_parts (not k && is_attribute a && is_title t) (not (has_none content)) p.0 in
      let r = and_parts (not k && is_attribute a) (is_title t) q.0 in
      let one = ap broken (and_parts (not k) (is_attribute a) r.0).0 in
      let i = all-low true around content p.1 in omega (arith, one, i)
  one-low k around (document.image a t description) e = omega arith
  one-low k around (document.anchor id) e = omega arith
  one-low k around document.line_break e = omega arith
  one-low k around (document.task d) e = omega arith

  all-low : (k : Bool) (around : List Format) (xs : document.Inlines) → are_normal k around xs ≡ true
      → line_depth xs ≤ 2 + room around + broken (not k)
  all-low k around document.no_inlines e = omega arith
  all-low k around (document.inline x rest) e =
      let p = and_parts (is_normal k around x && meets x rest) (are_normal k around rest) e in
      let q = and_parts (is_normal k around x) (meets x rest) p.0 in
      let i = one-low k around x q.0 in
      let j = all-low k around rest p.1 in omega (arith, i, j)

pub line-low : (xs : document.Inlines) → is_normal_line xs ≡ true → line_depth xs ≤ 20
line-low xs e =
    let i = all-low false [] xs (and_parts (are_whole xs) (are_normal false [] xs) e).1 in omega (arith, i)

pub item-low : (xs : document.Inlines) → is_normal_item xs ≡ true → line_depth xs ≤ 20
item-low (document.inline (document.task d) rest) e =
    let i = all-low false [] rest
    (and_parts (first_passes begins_with_space rest && not (last_passes ends_with_space rest)
    && not (last_passes is_break rest)) (are_normal false [] rest) e).1 in omega (arith, i)
item-low document.no_inlines e = omega arith
item-low (document.inline (document.text s) rest) e = line-low (document.inline (document.text s) rest) e
item-low (document.inline (document.code s) rest) e = line-low (document.inline (document.code s) rest) e
item-low (document.inline (document.formatted f content) rest) e =
    line-low (document.inline (document.formatted f content) rest) e
item-low (document.inline (document.link a t content) rest) e =
    line-low (document.inline (document.link a t content) rest) e
item-low (document.inline (document.image a t description) rest) e =
    line-low (document.inline (document.image a t description) rest) e
item-low (document.inline (document.anchor id) rest) e = line-low (document.inline (document.anchor id) rest) e
item-low (document.inline document.line_break rest) e = line-low (document.inline document.line_break rest) e
