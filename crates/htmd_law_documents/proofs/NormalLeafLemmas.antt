-- Inlines of normal documents: one more leaf, and what stands before it.
use Rattle.std.proofs.Common.{◌≡◌, ℕ, Bool, true, false, not, ◌&&◌, List, [], ◌∷◌, ◌++◌}
use Rattle.std.proofs.Common.{map, fold, refl, sym, ap, ◌∙◌, Option, Some, None}
use Rattle.htmd_lexical.specs.Characters.{space}
use Rattle.htmd_lexical.specs.CharacterClasses.{first_is}
use Rattle.htmd_document.specs.Formats.{Format}
use Rattle.htmd_document.specs.Documents.{Inline, text, code, image, line_break, task, link, Inlines, no_inlines}
use Rattle.htmd_document.specs.Documents.{anchor}
use Rattle.htmd_document.specs.Documents.{inline}
use Rattle.htmd_document.specs.Documents as value
use Rattle.htmd_flow.specs.Nesting.{Wrapper, wrapper_of, wrapped_by, wrapped, one_inline, is_apart, met}
use Rattle.htmd_flow.specs.Nesting.{joined}
use Rattle.htmd_flow.specs.NestViews.{followed}
use Rattle.htmd_flow.specs.Parts.{Around, formatted, linked}
use Rattle.htmd_shown.specs.Spaces as spaces
use Rattle.htmd_flow.proofs.NestingLemmas.{joined-apart, apart-wrapped}
use Rattle.htmd_flow.proofs.NestingLemmas.{followed-assoc, joined-texts}
use Rattle.htmd_document.specs.NormalInlines.{is_attribute, is_title, is_line, is_text, is_trimmed, Sort, words}
use Rattle.htmd_document.specs.NormalInlines.{of_format, breaks, others, sort, is_same_sort, is_code, is_break}
use Rattle.htmd_document.specs.NormalInlines.{begins_with_space, ends_with_space, may_meet, is_anchor}
use Rattle.htmd_document.specs.NormalInlines.{is_normal}
use Rattle.htmd_law_documents.proofs.VisibleLemmas.{both-true}
use Rattle.htmd_law_documents.proofs.NormalTextLemmas.{and-true, and-false, or-false, not-false, true-false, false-true}
use Rattle.htmd_law_documents.proofs.NormalTextLemmas.{ends-same, ends-more, first-append}
use Rattle.htmd_law_documents.proofs.NormalTextLemmas.{from-text, text-append, trimmed-text, from-trimmed}
use Rattle.htmd_law_documents.proofs.NormalLineLemmas.{is_clash, may-meet, Ends, ends-other, ends-as}
use Rattle.htmd_law_documents.proofs.NormalLineLemmas.{ends-more as ends-beside, text-like, in_link}
use Rattle.htmd_law_documents.proofs.NormalLineLemmas.{formats_in, FitAll, Apart, is_leaf, IsLast, Held}
use Rattle.htmd_law_documents.proofs.NormalLineLemmas.{IsStop, held-stop, IsShut, wrapped-begins, wrapped-no_break}
use Rattle.htmd_law_documents.proofs.NormalLineLemmas.{leaf-no_break, leaf-no_clash}
use Rattle.htmd_law_documents.proofs.NormalStandLemmas.{IsSolid, StandsOne, Stands, ShowsNext, joined-stands}
use Rattle.htmd_law_documents.proofs.NormalStandLemmas.{wrapped-plain, wrapped-solid, wrapped-one}

-- ---- leaves

joined-last : (xs : Inlines) (x y : Inline) → joined (followed xs (one_inline x)) y ≡ followed xs (met x y)
joined-last no_inlines x y = refl
joined-last (inline z no_inlines) x y = refl
joined-last (inline z (inline z' xs)) x y = ap (inline z) (joined-last (inline z' xs) x y)

-- a text without a space at its ends
pub record IsWord (s : List ℕ) : Type 0 where
  pub text : is_text s ≡ true
  pub begins : first_is space s ≡ false
  pub ends : spaces.ends_with_space s ≡ false

-- a leaf as it comes: a word of text or code, or an image
abbrev pub IsLeaf : Bool → Inline → Type 0
IsLeaf k (text s) = (k ≡ false) × IsWord s
IsLeaf k (code s) = (k ≡ true) × IsWord s
IsLeaf k (image address title description) =
    (k ≡ false) × (is_attribute address ≡ true) × (is_title title ≡ true) × (is_line description ≡ true)
IsLeaf k _ = ⊥

pub word-code : (s : List ℕ) → IsWord s → (is_text s && is_trimmed s) ≡ true
word-code s h = and-true h.text (trimmed-text s h.begins h.ends)

pub leaf-begins : (k : Bool) (y : Inline) → IsLeaf k y → begins_with_space y ≡ false
leaf-begins k (text s) h = h.1.begins
leaf-begins k (code s) h = refl
leaf-begins k (image address title description) h = refl
leaf-begins k (anchor i) h = refl
leaf-begins k (value.formatted f xs) h = absurd h
leaf-begins k (link address title xs) h = absurd h
leaf-begins k line_break h = absurd h
leaf-begins k (task b) h = absurd h

pub leaf-last : (k : Bool) (y : Inline) → IsLeaf k y → IsLast k y
leaf-last k (text s) h = record {
  normal = λ l r. h.1.text;
  leaf = refl;
  no_space = ends-same s ∙ h.1.ends;
  kind = sym h.0;
}
leaf-last k (code s) h = record {
  normal = λ l r. word-code s h.1;
  leaf = refl;
  no_space = refl;
  kind = sym h.0;
}
leaf-last k (image address title description) h = record {
  normal = λ l r. and-true (and-true h.1 h.2) h.3;
  leaf = refl;
  no_space = refl;
  kind = sym h.0;
}
leaf-last k (anchor i) h = absurd h
leaf-last k (value.formatted f xs) h = absurd h
leaf-last k (link address title xs) h = absurd h
leaf-last k line_break h = absurd h
leaf-last k (task b) h = absurd h

-- ---- after the last inline

module _ (l : Bool) (r : List Format) (xs : Inlines) where
  joined-beside : (x y : Inline) → Ends l r xs x → met x y ≡ inline x (one_inline y)
      → joined xs y ≡ followed xs (one_inline y)
  joined-beside x y e m =
      ap (λ zs. joined zs y) e.is
      ∙ (joined-last e.before x y
      ∙ (ap (followed e.before) m
      ∙ (sym (followed-assoc e.before (one_inline x) (one_inline y))
      ∙ ap (λ zs. followed zs (one_inline y)) (sym e.is))))

  beside : (x y : Inline) → Ends l r xs x → is_normal l r x ≡ true → met x y ≡ inline x (one_inline y)
      → may_meet x y ≡ true → Ends l r (joined xs y) y
  beside x y e n m h =
      ends-as l r (joined xs y) (followed xs (one_inline y)) y (joined-beside x y e m) (ends-beside l r xs x y e n h)

  melted : (x y z : Inline) → (e : Ends l r xs x) → met x y ≡ one_inline z
      → ((w : Inline) → may_meet w x ≡ true → may_meet w z ≡ true) → Ends l r (joined xs y) z
  melted x y z e m f =
      ends-as l r (joined xs y) (followed e.before (one_inline z)) z
      (ap (λ zs. joined zs y) e.is ∙ (joined-last e.before x y ∙ ap (followed e.before) m))
      (ends-other l r xs x z e f)

  -- a text, which may have a space at its ends if there is none before it and no break
  text-after : (x : Inline) → Ends l r xs x → is_normal l r x ≡ true → (t : List ℕ) → is_text t ≡ true
      → (ends_with_space x && first_is space t) ≡ false → (is_break x && first_is space t) ≡ false
      → (s : List ℕ) × Ends l r (joined xs (text t)) (text s) × (is_text s ≡ true)
      × (spaces.ends_with_space s ≡ spaces.ends_with_space t)
  text-after (text s) e n t h p q = (
    s ++ t,
    melted (text s) (text t) (text (s ++ t)) e refl (text-like s t (from-text s n).some),
    text-append s t n h (ap (λ b. b && first_is space t) (sym (ends-same s)) ∙ p),
    ends-more s t (from-text t h).some,
  )
  text-after (code s) e n t h p q = (
    t,
    beside (code s) (text t) e n refl (may-meet (code s) (text t) refl refl refl),
    h,
    refl,
  )
  text-after (image a ti d) e n t h p q =
      (t, beside (image a ti d) (text t) e n refl (may-meet (image a ti d) (text t) refl refl refl), h, refl)
  text-after (anchor i) e n t h p q =
      (t, beside (anchor i) (text t) e n refl (may-meet (anchor i) (text t) refl refl refl), h, refl)
  text-after (value.formatted f ys) e n t h p q = (
    t,
    beside (value.formatted f ys) (text t) e n refl (may-meet (value.formatted f ys) (text t) refl refl refl),
    h,
    refl,
  )
  text-after (link a ti ys) e n t h p q =
      (t, beside (link a ti ys) (text t) e n refl (may-meet (link a ti ys) (text t) refl refl refl), h, refl)
  text-after line_break e n t h p q =
      (t, beside line_break (text t) e n refl (may-meet line_break (text t) refl refl q), h, refl)
  text-after (task b) e n t h p q = false-true n

  code-after : (x : Inline) → Ends l r xs x → is_normal l r x ≡ true → (t : List ℕ) → is_text t ≡ true
      → spaces.ends_with_space t ≡ false → (is_code x ≡ false → first_is space t ≡ false)
      → (s : List ℕ) × Ends l r (joined xs (code t)) (code s) × IsWord s
  code-after (code s) e n t h p q =
      let parts = both-true (is_text s) (is_trimmed s) n in
      let ends = from-trimmed s parts.1 in (
        s ++ t,
        melted (code s) (code t) (code (s ++ t)) e refl (λ w m. m),
        record {
          text = text-append s t parts.0 h (ap (λ b. b && first_is space t) ends.1);
          begins = first-append s t (from-text s parts.0).some ∙ ends.0;
          ends = ends-more s t (from-text t h).some ∙ p;
        },
      )
  code-after (text s) e n t h p q = (
    t,
    beside (text s) (code t) e n refl (may-meet (text s) (code t) refl (and-false (ends_with_space (text s)) refl)
        refl),
    record { text = h; begins = q refl; ends = p },
  )
  code-after (image a ti d) e n t h p q = (
    t,
    beside (image a ti d) (code t) e n refl (may-meet (image a ti d) (code t) refl refl refl),
    record { text = h; begins = q refl; ends = p },
  )
  code-after (anchor i) e n t h p q = (
    t,
    beside (anchor i) (code t) e n refl (may-meet (anchor i) (code t) refl refl refl),
    record { text = h; begins = q refl; ends = p },
  )
  code-after (value.formatted f ys) e n t h p q = (
    t,
    beside (value.formatted f ys) (code t) e n refl (may-meet (value.formatted f ys) (code t) refl refl refl),
    record { text = h; begins = q refl; ends = p },
  )
  code-after (link a ti ys) e n t h p q = (
    t,
    beside (link a ti ys) (code t) e n refl (may-meet (link a ti ys) (code t) refl refl refl),
    record { text = h; begins = q refl; ends = p },
  )
  code-after line_break e n t h p q = (
    t,
    beside line_break (code t) e n refl (may-meet line_break (code t) refl refl refl),
    record { text = h; begins = q refl; ends = p },
  )
  code-after (task b) e n t h p q = false-true n

  -- what melts into nothing
  apart-after : (x y : Inline) → Ends l r xs x → is_normal l r x ≡ true → is_apart y ≡ true → may_meet x y
      ≡ true
      → Ends l r (joined xs y) y
  apart-after x y e n a h =
      ends-as l r (joined xs y) (followed xs (one_inline y)) y (joined-apart xs y a) (ends-beside l r xs x y e n h)

no-others : (s : Sort) → is_same_sort s others ≡ false
no-others words = refl
no-others (of_format f) = refl
no-others breaks = refl
no-others others = refl

before-image : (x : Inline) (a : List ℕ) (t : Option (List ℕ)) (d : List ℕ) → may_meet x (image a t d) ≡ true
before-image x a t d = may-meet x (image a t d)
    (ap (λ b. b && not (is_code x && true) && not (false && not (is_code x))) (no-others (sort x)))
    (and-false (ends_with_space x) refl) (and-false (is_break x) refl)

break-no_clash : (x : Inline) → is_break x ≡ false → is_clash x line_break ≡ false
break-no_clash (text s) e = refl
break-no_clash (code s) e = refl
break-no_clash (image a t d) e = refl
break-no_clash (anchor i) e = refl
break-no_clash (value.formatted f xs) e = refl
break-no_clash (link a t xs) e = refl
break-no_clash line_break e = true-false e
break-no_clash (task b) e = refl

before-break : (x : Inline) → ends_with_space x ≡ false → is_break x ≡ false → may_meet x line_break ≡ true
before-break x s b = may-meet x line_break (break-no_clash x b) (ap (λ c. c && true) s) (and-false (is_break x) refl)

before-wrapped : (x : Inline) (a : Around) (content : Inlines) → is_clash x (wrapped_by a content) ≡ false
    → may_meet x (wrapped_by a content) ≡ true
before-wrapped x a content c = may-meet x (wrapped_by a content) c
    (and-false (ends_with_space x) (wrapped-no_break a content)) (and-false (is_break x) (wrapped-begins a content))

-- ---- a leaf in what stands around it

pub one-ends : (l : Bool) (r : List Format) (y : Inline) → Ends l r (one_inline y) y
one-ends l r y = record { before = no_inlines; is = refl; normal = refl; fits = refl }

pub wrapped-first : (around : List Around) (y : Inline) → begins_with_space y ≡ false
    → begins_with_space (wrapped around y) ≡ false
wrapped-first [] y h = h
wrapped-first (a ∷ around) y h = wrapped-begins a (one_inline (wrapped around y))

pub wrapped-first-break : (around : List Around) (y : Inline) → is_break y ≡ false → is_break (wrapped around y)
    ≡ false
wrapped-first-break [] y h = h
wrapped-first-break (a ∷ around) y h = wrapped-no_break a (one_inline (wrapped around y))

pub wrapped-held : (k l : Bool) (r : List Format) (around : List Around) (y : Inline) → FitAll l r around
    → IsLeaf k y
    → Held k l r (map wrapper_of around) (one_inline (wrapped around y))
wrapped-held k l r [] y f h = (y, one-ends l r y, leaf-last k y h)
wrapped-held k l r (a ∷ around) y f h = (
  a,
  one_inline (wrapped around y),
  one-ends l r (wrapped (a ∷ around) y),
  refl,
  f.0,
  wrapped-first around y (leaf-begins k y h),
  wrapped-first-break around y (leaf-no_break y (leaf-last k y h).leaf),
  wrapped-held k (in_link l (wrapper_of a)) (formats_in r (wrapper_of a)) around y f.1 h,
)

-- what a leaf has first around it differs from the last inline
abbrev pub Differs : Inline → List Around → Type 0
Differs x [] = Unit {0}
Differs x (a ∷ around) = (content : Inlines) → is_clash x (wrapped_by a content) ≡ false

leaf-after : (k l : Bool) (r : List Format) (xs : Inlines) (x y : Inline) → Ends l r xs x → is_normal l r x ≡ true
    → IsLeaf k y → Held k l r [] (joined xs y)
leaf-after k l r xs x (text t) e n h =
    let after = text-after l r xs x e n t h.1.text (and-false (ends_with_space x) h.1.begins)
    (and-false (is_break x) h.1.begins) in (
      text after.0,
      after.1,
      record {
        normal = λ l' r'. after.2;
        leaf = refl;
        no_space = ends-same after.0 ∙ (after.3 ∙ h.1.ends);
        kind = sym h.0;
      },
    )
leaf-after k l r xs x (code t) e n h =
    let after = code-after l r xs x e n t h.1.text h.1.ends (λ c. h.1.begins) in
    (code after.0, after.1, leaf-last k (code after.0) (h.0, after.2))
leaf-after k l r xs x (image a t d) e n h =
    (image a t d, apart-after l r xs x (image a t d) e n refl (before-image x a t d), leaf-last k (image a t d) h)
leaf-after k l r xs x (anchor i) e n h = absurd h
leaf-after k l r xs x (value.formatted f ys) e n h = absurd h
leaf-after k l r xs x (link a t ys) e n h = absurd h
leaf-after k l r xs x line_break e n h = absurd h
leaf-after k l r xs x (task b) e n h = absurd h

pub put-after : (k l : Bool) (r : List Format) (xs : Inlines) (x : Inline) (around : List Around) (y : Inline)
    → Ends l r xs x → is_normal l r x ≡ true → FitAll l r around → IsLeaf k y → Differs x around
    → Held k l r (map wrapper_of around) (joined xs (wrapped around y))
put-after k l r xs x [] y e n f h d = leaf-after k l r xs x y e n h
put-after k l r xs x (a ∷ around) y e n f h d =
    let content : Inlines = one_inline (wrapped around y) in (
      a,
      content,
      apart-after l r xs x (wrapped_by a content) e n (apart-wrapped a content)
          (before-wrapped x a content (d content)),
      refl,
      f.0,
      wrapped-first around y (leaf-begins k y h),
      wrapped-first-break around y (leaf-no_break y (leaf-last k y h).leaf),
      wrapped-held k (in_link l (wrapper_of a)) (formats_in r (wrapper_of a)) around y f.1 h,
    )

-- ---- what stands between two leaves

-- white space as a text, a break, or nothing
abbrev pub IsGap : Option Inline → Type 0
IsGap None = Unit {0}
IsGap (Some (text s)) = is_text s ≡ true
IsGap (Some line_break) = Unit {0}
IsGap (Some _) = ⊥

abbrev pub gapped : Inlines → Option Inline → Inlines
gapped xs None = xs
gapped xs (Some g) = joined xs g

stop-differs : (l : Bool) (r : List Format) (ms : List Wrapper) (xs : Inlines) (x : Inline) (around : List Around)
    → IsStop l r ms xs x → Apart ms (map wrapper_of around) → Differs x around
stop-differs l r ms xs x [] s d = tt
stop-differs l r [] xs x (a ∷ around) s d = λ content. s.apart a content tt
stop-differs l r (m ∷ ms) xs x (a ∷ around) s d = λ content. s.apart a content d

pub leaf-differs : (x : Inline) (around : List Around) → is_leaf x ≡ true → Differs x around
leaf-differs x [] e = tt
leaf-differs x (a ∷ around) e = λ content. leaf-no_clash x a content e

break-differs : (around : List Around) → Differs line_break around
break-differs [] = tt
break-differs (formatted f ∷ around) = λ content. refl
break-differs (linked n address title ∷ around) = λ content. refl

pub gap-put : (k h l : Bool) (r : List Format) (ms : List Wrapper) (xs : Inlines) (around : List Around)
    (g : Option Inline) (y : Inline) → Held k l r ms xs → FitAll l r around → IsGap g → IsLeaf h y
    → Apart ms (map wrapper_of around)
    → Held h l r (map wrapper_of around) (joined (gapped xs g) (wrapped around y))
gap-put k h l r ms xs around None y held f g leaf d =
    let stop = held-stop k l r ms xs held in
    put-after h l r xs stop.0 around y stop.1.ends stop.1.normal f leaf (stop-differs l r ms xs stop.0 around stop.1 d)
gap-put k h l r ms xs around (Some (text s)) y held f g leaf d =
    let stop = held-stop k l r ms xs held in
    let after = text-after l r xs stop.0 stop.1.ends stop.1.normal s g
    (ap (λ b. b && first_is space s) stop.1.no_space)
    (ap (λ b. b && first_is space s) stop.1.no_break) in
    put-after h l r (joined xs (text s)) (text after.0) around y after.1 after.2 f leaf
    (leaf-differs (text after.0) around refl)
gap-put k h l r ms xs around (Some line_break) y held f g leaf d =
    let stop = held-stop k l r ms xs held in
    put-after h l r (joined xs line_break) line_break around y
    (apart-after l r xs stop.0 line_break stop.1.ends stop.1.normal refl
    (before-break stop.0 stop.1.no_space stop.1.no_break)) refl f leaf (break-differs around)
gap-put k h l r ms xs around (Some (code s)) y held f g leaf d = absurd g
gap-put k h l r ms xs around (Some (value.formatted f' ys)) y held f g leaf d = absurd g
gap-put k h l r ms xs around (Some (link a t ys)) y held f g leaf d = absurd g
gap-put k h l r ms xs around (Some (image a t e)) y held f g leaf d = absurd g
gap-put k h l r ms xs around (Some (anchor i)) y held f g leaf d = absurd g
gap-put k h l r ms xs around (Some (task b)) y held f g leaf d = absurd g

-- white space between two codes with the same around them is code
pub code-put : (l : Bool) (r : List Format) (xs : Inlines) (s t : List ℕ) → Held true l r [] xs → is_text s
    ≡ true
    → IsWord t → Held true l r [] (joined (joined xs (code s)) (code t))
code-put l r xs s t held e h =
    let both : is_text (s ++ t) ≡ true = text-append s t e h.text (and-false (spaces.ends_with_space s) h.begins) in
    let some : spaces.ends_with_space (s ++ t) ≡ false = ends-more s t (from-text t h.text).some ∙ h.ends in
    let after = code-after l r xs held.0 held.1 (held.2.normal l r) (s ++ t) both some
    (λ c. false-true (sym c ∙ held.2.kind)) in (
      code after.0,
      ends-as l r (joined (joined xs (code s)) (code t)) (joined xs (code (s ++ t))) (code after.0)
          (joined-texts xs true s t) after.1,
      leaf-last true (code after.0) (refl, after.2),
    )

-- ---- anchors

-- an id in one line
abbrev pub IsId : List ℕ → Type 0
IsId id = (is_text id && is_trimmed id) ≡ true

abbrev pub AllIds : List (List ℕ) → Type 0
AllIds [] = Unit {0}
AllIds (id ∷ ids) = IsId id × AllIds ids

-- inlines, and then anchors
abbrev pub with_ids : Inlines → List (List ℕ) → Inlines
with_ids xs ids = fold (λ ys id. joined ys (anchor id)) xs ids

before-anchor : (x : Inline) (id : List ℕ) → may_meet x (anchor id) ≡ true
before-anchor x id = may-meet x (anchor id)
    (ap (λ b. b && not (is_code x && true) && not (false && not (is_code x))) (no-others (sort x)))
    (and-false (ends_with_space x) refl) (and-false (is_break x) refl)

module _ (r : List Format) where
  ids-end : (ids : List (List ℕ)) (xs : Inlines) (i : List ℕ) → Ends false r xs (anchor i) → IsId i
      → AllIds ids
      → (j : List ℕ) × Ends false r (with_ids xs ids) (anchor j) × IsId j
  ids-end [] xs i e h all = (i, e, h)
  ids-end (id ∷ ids) xs i e h all =
      ids-end ids (joined xs (anchor id)) id
      (apart-after false r xs (anchor i) (anchor id) e h refl (before-anchor (anchor i) id)) all.0 all.1

  -- after what there is
  ids-after : (id : List ℕ) (ids : List (List ℕ)) (xs : Inlines) (x : Inline) → Ends false r xs x
      → is_normal false r x ≡ true → AllIds (id ∷ ids)
      → (j : List ℕ) × Ends false r (with_ids xs (id ∷ ids)) (anchor j) × IsId j
  ids-after id ids xs x e n all =
      ids-end ids (joined xs (anchor id)) id
      (apart-after false r xs x (anchor id) e n refl (before-anchor x id)) all.0 all.1

  -- first
  pub ids-first : (id : List ℕ) (ids : List (List ℕ)) → AllIds (id ∷ ids)
      → (j : List ℕ) × Ends false r (with_ids no_inlines (id ∷ ids)) (anchor j) × IsId j
  ids-first id ids all = ids-end ids (one_inline (anchor id)) id (one-ends false r (anchor id)) all.0 all.1

  -- a leaf right after anchors
  pub anchor-put : (h : Bool) (xs : Inlines) (around : List Around) (y : Inline) (j : List ℕ)
      → Ends false r xs (anchor j) → IsId j → FitAll false r around → IsLeaf h y
      → Held h false r (map wrapper_of around) (joined xs (wrapped around y))
  anchor-put h xs around y j e i f leaf =
      put-after h false r xs (anchor j) around y e i f leaf (leaf-differs (anchor j) around refl)

  pub ids-put : (h : Bool) (xs : Inlines) (x : Inline) (around : List Around) (id : List ℕ) (ids : List (List ℕ))
      (y : Inline) → Ends false r xs x → is_normal false r x ≡ true → FitAll false r around
      → AllIds (id ∷ ids)
      → IsLeaf h y
      → Held h false r (map wrapper_of around) (joined (with_ids xs (id ∷ ids)) (wrapped around y))
  ids-put h xs x around id ids y e n f all leaf =
      let last = ids-after id ids xs x e n all in
      anchor-put h (with_ids xs (id ∷ ids)) around y last.0 last.1 last.2 f leaf

  -- a gap, anchors and a leaf
  pub wait-put : (h : Bool) (xs : Inlines) (x : Inline) (around : List Around) (g : Option Inline) (id : List ℕ)
      (ids : List (List ℕ)) (y : Inline) → Ends false r xs x → IsShut false r x → FitAll false r around
      → IsGap g
      → AllIds (id ∷ ids) → IsLeaf h y
      → Held h false r (map wrapper_of around) (joined (with_ids (gapped xs g) (id ∷ ids)) (wrapped around y))
  wait-put h xs x around None id ids y e s f g all leaf = ids-put h xs x around id ids y e s.normal f all leaf
  wait-put h xs x around (Some (text t)) id ids y e s f g all leaf =
      let after = text-after false r xs x e s.normal t g (ap (λ b. b && first_is space t) s.no_space)
      (ap (λ b. b && first_is space t) s.no_break) in
      ids-put h (joined xs (text t)) (text after.0) around id ids y after.1 after.2 f all leaf
  wait-put h xs x around (Some line_break) id ids y e s f g all leaf =
      ids-put h (joined xs line_break) line_break around id ids y
      (apart-after false r xs x line_break e s.normal refl (before-break x s.no_space s.no_break)) refl f all leaf
  wait-put h xs x around (Some (code t)) id ids y e s f g all leaf = absurd g
  wait-put h xs x around (Some (value.formatted f' ys)) id ids y e s f g all leaf = absurd g
  wait-put h xs x around (Some (link a t ys)) id ids y e s f g all leaf = absurd g
  wait-put h xs x around (Some (image a t d)) id ids y e s f g all leaf = absurd g
  wait-put h xs x around (Some (anchor i)) id ids y e s f g all leaf = absurd g
  wait-put h xs x around (Some (task b)) id ids y e s f g all leaf = absurd g

-- ---- where anchors stand

-- what a leaf is like after an anchor
pub record IsShown (y : Inline) : Type 0 where
  pub plain : is_anchor y ≡ false
  pub one : StandsOne y
  pub solid : IsSolid y

pub leaf-shown : (k : Bool) (y : Inline) → IsLeaf k y → IsShown y
leaf-shown k (text s) h = record {
  plain = refl;
  one = tt;
  solid = (or-false refl h.1.begins, not-false (from-text s h.1.text).some);
}
leaf-shown k (code s) h = record { plain = refl; one = tt; solid = (refl, refl) }
leaf-shown k (image a t d) h = record { plain = refl; one = tt; solid = (refl, refl) }
leaf-shown k (anchor i) h = absurd h
leaf-shown k (value.formatted f xs) h = absurd h
leaf-shown k (link a t xs) h = absurd h
leaf-shown k line_break h = absurd h
leaf-shown k (task b) h = absurd h

-- what goes between has no anchor in it
abbrev pub IsBetween : Option Inline → Type 0
IsBetween None = Unit {0}
IsBetween (Some g) = (is_anchor g ≡ false) × StandsOne g

pub gap-between : (g : Option Inline) → IsGap g → IsBetween g
gap-between None h = tt
gap-between (Some (text s)) h = (refl, tt)
gap-between (Some line_break) h = (refl, tt)
gap-between (Some (code s)) h = absurd h
gap-between (Some (value.formatted f xs)) h = absurd h
gap-between (Some (link a t xs)) h = absurd h
gap-between (Some (image a t d)) h = absurd h
gap-between (Some (anchor i)) h = absurd h
gap-between (Some (task b)) h = absurd h

gapped-stands : (xs : Inlines) (g : Option Inline) → Stands false xs → IsBetween g → Stands false (gapped xs g)
gapped-stands xs None h b = h
gapped-stands xs (Some g) h b =
    joined-stands false false xs g h b.1 (λ e. false-true e) (λ a. true-false (sym a ∙ b.0))

stands-weak : (xs : Inlines) → Stands false xs → Stands true xs
stands-weak no_inlines h = tt
stands-weak (inline x rest) h = (h.0, λ a. weak rest (h.1 a), stands-weak rest h.2)
  where
    weak : (rest : Inlines) → ShowsNext false rest → ShowsNext true rest
    weak no_inlines h = refl
    weak (inline y ys) h = h

ids-stand : (ids : List (List ℕ)) (xs : Inlines) → Stands true xs → Stands true (with_ids xs ids)
ids-stand [] xs h = h
ids-stand (id ∷ ids) xs h =
    ids-stand ids (joined xs (anchor id))
    (joined-stands true true xs (anchor id) h tt (λ e. (refl, refl)) (λ a. refl))

pub put-stands : (xs : Inlines) (around : List Around) (g : Option Inline) (ids : List (List ℕ)) (y : Inline)
    → IsBetween g → IsShown y → Stands false xs
    → Stands false (joined (with_ids (gapped xs g) ids) (wrapped around y))
put-stands xs around g ids y b s h =
    joined-stands true false (with_ids (gapped xs g) ids) (wrapped around y)
    (ids-stand ids (gapped xs g) (stands-weak (gapped xs g) (gapped-stands xs g h b)))
    (wrapped-one around y s.plain s.one) (λ e. wrapped-solid around y s.solid)
    (λ a. true-false (sym a ∙ wrapped-plain around y s.plain))
