-- A normal paragraph in two, cut between words.
use Rattle.std.proofs.Common.{◌≡◌, ℕ, Bool, true, false, not, List, [], ◌∷◌, ◌++◌, refl, sym, ap, ◌∙◌, subst}
use Rattle.std.proofs.Common.{append_assoc}
use Rattle.std.specs.Prelude.{◌&&◌, ◌||◌}
use Rattle.std.proofs.lemmas.Bool.{and_from, not-true}
use Rattle.htmd_lexical.specs.Characters.{space}
use Rattle.htmd_document.specs.Documents.{Inline, text, code, formatted, link, image, anchor, line_break, task}
use Rattle.htmd_document.specs.Documents.{inlines_of}
use Rattle.htmd_document.specs.NormalDocuments.{is_normal_paragraph}
use Rattle.htmd_document.specs.NormalInlines.{ends_in_space, sort, is_same_sort, is_code, is_break, begins_with_space}
use Rattle.htmd_document.specs.NormalInlines.{ends_with_space, may_meet, meets, has_none, first_passes, last_passes}
use Rattle.htmd_document.specs.NormalInlines.{are_trimmed, are_whole, is_normal, are_normal, is_normal_line}
use Rattle.htmd_document.specs.NormalInlines.{is_normal_item, is_anchor, are_anchors, is_gap, shows_after, stands_well}
use Rattle.htmd_document.specs.NormalInlines.{anchors_stand_well}
use Rattle.htmd_chunks.specs.Words.{with_text_behind, first_text, behind_text, with_word, further_words}
use Rattle.htmd_chunks.proofs.NormalTextsLemmas.{ends-behind, text-front, text-back}
use Rattle.htmd_chunks.proofs.NormalWordsLemmas.{not-so, is_task, EndsWell, text_end, other_end, BeginsWell, text_begin}
use Rattle.htmd_chunks.proofs.NormalWordsLemmas.{other_begin, Linked, linked-joined, text-ends}
use Rattle.htmd_chunks.proofs.RunsLemmas.{and_left, and_right}
use Rattle.htmd_chunks.proofs.WordsLemmas.{kind_of, text-kind, text-at_end}
use Rattle.htmd_chunks.proofs.WordsLemmas.{is_text as is_words}

-- ---- each inline of some

-- normal before what stands behind
abbrev One : Inline → List Inline → Type 0
One x rest =
    ((is_normal false [] x ≡ true) × (meets x (inlines_of rest) ≡ true))
    × ((stands_well x ≡ true) × (shows_after x (inlines_of rest) ≡ true))

abbrev Every : List Inline → Type 0
Every [] = Unit {0}
Every (x ∷ xs) = One x xs × Every xs

every-from : (xs : List Inline) → are_normal false [] (inlines_of xs) ≡ true
    → anchors_stand_well (inlines_of xs) ≡ true → Every xs
every-from [] n s = tt
every-from (x ∷ xs) n s =
    let rest = inlines_of xs in
    let first = and_left (is_normal false [] x && meets x rest) (are_normal false [] rest) n in
    let stand = and_left (stands_well x && shows_after x rest) (anchors_stand_well rest) s in (
      (
        (and_left (is_normal false [] x) (meets x rest) first, and_right (is_normal false [] x) (meets x rest) first),
        (and_left (stands_well x) (shows_after x rest) stand, and_right (stands_well x) (shows_after x rest) stand),
      ),
      every-from xs (and_right (is_normal false [] x && meets x rest) (are_normal false [] rest) n)
          (and_right (stands_well x && shows_after x rest) (anchors_stand_well rest) s),
    )

every-normal : (xs : List Inline) → Every xs → are_normal false [] (inlines_of xs) ≡ true
every-normal [] h = refl
every-normal (x ∷ xs) h =
    let rest = inlines_of xs in
    and_from (is_normal false [] x && meets x rest) (are_normal false [] rest)
    (and_from (is_normal false [] x) (meets x rest) h.0.0.0 h.0.0.1) (every-normal xs h.1)

every-stand : (xs : List Inline) → Every xs → anchors_stand_well (inlines_of xs) ≡ true
every-stand [] h = refl
every-stand (x ∷ xs) h =
    let rest = inlines_of xs in
    and_from (stands_well x && shows_after x rest) (anchors_stand_well rest)
    (and_from (stands_well x) (shows_after x rest) h.0.1.0 h.0.1.1) (every-stand xs h.1)

every-back : (xs ys : List Inline) → Every (xs ++ ys) → Every ys
every-back [] ys h = h
every-back (x ∷ xs) ys h = every-back xs ys h.1

-- another inline at the end
every-put : (xs : List Inline) (x p : Inline) (ys : List Inline) → Every (xs ++ x ∷ ys) → One p []
    → ((z : Inline) → may_meet z x ≡ true → may_meet z p ≡ true) → is_gap p ≡ is_gap x
    → Every (xs ++ p ∷ [])
every-put [] x p ys h one meet gap = (one, tt)
every-put (z ∷ []) x p ys h one meet gap = (
  (
    (h.0.0.0, meet z h.0.0.1),
    (h.0.1.0, ap (λ b. not (is_anchor z) || not false && not b) gap ∙ h.0.1.1),
  ),
  (one, tt),
)
every-put (z ∷ y ∷ zs) x p ys h one meet gap = (h.0, every-put (y ∷ zs) x p ys h.1 one meet gap)

-- ---- what ends and begins in words put together

other-ends : (x : Inline) → is_words x ≡ false → ends_with_space x ≡ false
other-ends (text s) e = absurd (cc)
other-ends (code s) e = refl
other-ends (formatted f c) e = refl
other-ends (link a t c) e = refl
other-ends (image a t d) e = refl
other-ends (anchor id) e = refl
other-ends line_break e = refl
other-ends (task t) e = refl

other-begins : (x : Inline) → is_words x ≡ false → begins_with_space x ≡ false
other-begins (text s) e = absurd (cc)
other-begins (code s) e = refl
other-begins (formatted f c) e = refl
other-begins (link a t c) e = refl
other-begins (image a t d) e = refl
other-begins (anchor id) e = refl
other-begins line_break e = refl
other-begins (task t) e = refl

-- the first of two words in both together
record Front (a w : List Inline) : Type 0 where
  before : List Inline
  last : Inline
  grown : Inline
  rest : List Inline
  is : a ≡ before ++ last ∷ []
  whole : w ≡ before ++ grown ∷ rest
  meet : (z : Inline) → may_meet z grown ≡ true → may_meet z last ≡ true
  gap : is_gap last ≡ is_gap grown
  begins : begins_with_space last ≡ begins_with_space grown
  breaks : is_break last ≡ is_break grown
  boxes : is_task last ≡ is_task grown
  no_space : ends_with_space last ≡ false
  no_break : is_break last ≡ false
  no_task : is_task last ≡ false
  alone : Every (grown ∷ rest) → One last []

-- an anchor doesn't stand before a space
no-anchor : (a b : Bool) → b ≡ true → (not a || not false && not b) ≡ true
    → (not a || not true && not false) ≡ true
no-anchor false b e h = refl
no-anchor true true e h = not-so _ h
no-anchor true false e h = not-so _ e

front-of : (a : List Inline) (u : List ℕ) (v : List Inline) → EndsWell a
    → Front a (with_text_behind a (space ∷ u) ++ v)
front-of a u v (text_end xs b s e) =
    let grown = text ((b ∷ s) ++ space ∷ u) in
    record {
      before = xs;
      last = text (b ∷ s);
      grown = grown;
      rest = v;
      is = refl;
      whole = ap (λ l. l ++ v) (text-at_end xs (text (b ∷ s)) [] (space ∷ u)) ∙ append_assoc xs (grown ∷ []) v;
      meet = λ z h. h;
      gap = refl;
      begins = refl;
      breaks = refl;
      boxes = refl;
      no_space = e;
      no_break = refl;
      no_task = refl;
      alone = λ h. ((text-front b s u h.0.0.0, refl), (refl, refl));
    }
front-of a u v (other_end xs x e f g) =
    let behind = text (space ∷ u) in
    record {
      before = xs;
      last = x;
      grown = x;
      rest = behind ∷ v;
      is = refl;
      whole = ap (λ l. l ++ v) (text-at_end xs x [] (space ∷ u)
          ∙ ap (λ l. xs ++ l) ((text-kind x (kind_of x) e).after (space ∷ u)))
          ∙ append_assoc xs (x ∷ behind ∷ []) v;
      meet = λ z h. h;
      gap = refl;
      begins = refl;
      breaks = refl;
      boxes = refl;
      no_space = other-ends x e;
      no_break = f;
      no_task = g;
      alone = λ h. ((h.0.0.0, refl), (h.0.1.0, no-anchor (is_anchor x) (is_gap behind) refl h.0.1.1));
    }

-- and the second
record Back (b w : List Inline) : Type 0 where
  before : List Inline
  first : Inline
  grown : Inline
  rest : List Inline
  is : b ≡ first ∷ rest
  whole : w ≡ before ++ grown ∷ rest
  ends : ends_with_space first ≡ ends_with_space grown
  breaks : is_break first ≡ is_break grown
  no_space : begins_with_space first ≡ false
  no_break : is_break first ≡ false
  one : Every (grown ∷ rest) → One first rest

text-meets : (s t : List ℕ) (ys : List Inline) → ends_in_space t ≡ ends_in_space s
    → meets (text s) (inlines_of ys) ≡ true → meets (text t) (inlines_of ys) ≡ true
text-meets s t [] e h = refl
text-meets s t (y ∷ ys) e h =
    ap (λ b. not (is_same_sort (sort (text s)) (sort y) && not (is_code (text s) && not (is_code y))
    && not (is_code y && not (is_code (text s))))
    && not (b && is_break y) && not (is_break (text s) && begins_with_space y)) e ∙ h

back-of : (a b : List Inline) → BeginsWell b → Back b (with_word a b)
back-of a b (text_begin c t ys e) =
    let put = text-ends a (space ∷ c ∷ t) in
    let grown = text (put.start ++ space ∷ c ∷ t) in
    let same = ends-behind put.start space (c ∷ t) ∙ ends-behind (space ∷ []) c t in
    record {
      before = put.before;
      first = text (c ∷ t);
      grown = grown;
      rest = ys;
      is = refl;
      whole = ap (λ l. l ++ ys) put.is ∙ append_assoc put.before (grown ∷ []) ys;
      ends = sym same;
      breaks = refl;
      no_space = e;
      no_break = refl;
      one = λ h. (
        (
          text-back put.start c t h.0.0.0,
          text-meets (put.start ++ space ∷ c ∷ t) (c ∷ t) ys (sym same) h.0.0.1,
        ),
        (refl, refl),
      );
    }
back-of a b (other_begin x ys e f) =
    let kind = text-kind x (kind_of x) e in
    record {
      before = with_text_behind a (space ∷ first_text (x ∷ ys));
      first = x;
      grown = x;
      rest = ys;
      is = refl;
      whole = ap (λ l. with_text_behind a (space ∷ first_text (x ∷ ys)) ++ l) (kind.behind ys);
      ends = refl;
      breaks = refl;
      no_space = other-begins x e;
      no_break = f;
      one = λ h. h.0;
    }

-- ---- each inline of both

every-split : (a b : List Inline) → EndsWell a → BeginsWell b → Every (with_word a b) → Every a × Every b
every-split a b ends begins h =
    let f = front-of a (first_text b) (behind_text b) ends in
    let k = back-of a b begins in
    let first = subst (λ (l : List Inline). Every l) f.whole h in
    let second = every-back k.before (k.grown ∷ k.rest) (subst (λ (l : List Inline). Every l) k.whole h) in (
      subst (λ (l : List Inline). Every l) (sym f.is)
          (every-put f.before f.grown f.last f.rest first
          (f.alone (every-back f.before (f.grown ∷ f.rest) first)) f.meet f.gap),
      subst (λ (l : List Inline). Every l) (sym k.is) (k.one second, second.1),
    )

-- ---- the ends of both

first-same : (p : Inline → Bool) (xs : List Inline) (x y : Inline) (r s : List Inline) → p x ≡ p y
    → first_passes p (inlines_of (xs ++ x ∷ r)) ≡ first_passes p (inlines_of (xs ++ y ∷ s))
first-same p [] x y r s e = e
first-same p (z ∷ xs) x y r s e = refl

last-one : (p : Inline → Bool) (xs : List Inline) (x : Inline) → last_passes p (inlines_of (xs ++ x ∷ [])) ≡ p x
last-one p [] x = refl
last-one p (z ∷ []) x = refl
last-one p (z ∷ y ∷ zs) x = last-one p (y ∷ zs) x

last-behind : (p : Inline → Bool) (xs : List Inline) (x : Inline) (r : List Inline)
    → last_passes p (inlines_of (xs ++ x ∷ r)) ≡ last_passes p (inlines_of (x ∷ r))
last-behind p [] x r = refl
last-behind p (z ∷ []) x r = refl
last-behind p (z ∷ y ∷ zs) x r = last-behind p (y ∷ zs) x r

last-same : (p : Inline → Bool) (x y : Inline) (r : List Inline) → p x ≡ p y
    → last_passes p (inlines_of (x ∷ r)) ≡ last_passes p (inlines_of (y ∷ r))
last-same p x y [] e = e
last-same p x y (z ∷ r) e = refl

front-first : (p : Inline → Bool) (a w : List Inline) (f : Front a w) → p f.last ≡ p f.grown
    → first_passes p (inlines_of a) ≡ first_passes p (inlines_of w)
front-first p a w f e =
    ap (λ l. first_passes p (inlines_of l)) f.is
    ∙ first-same p f.before f.last f.grown [] f.rest e
    ∙ ap (λ l. first_passes p (inlines_of l)) (sym f.whole)

front-last : (p : Inline → Bool) (a w : List Inline) (f : Front a w) → p f.last ≡ false
    → last_passes p (inlines_of a) ≡ false
front-last p a w f e = ap (λ l. last_passes p (inlines_of l)) f.is ∙ last-one p f.before f.last ∙ e

back-last : (p : Inline → Bool) (b w : List Inline) (k : Back b w) → p k.first ≡ p k.grown
    → last_passes p (inlines_of b) ≡ last_passes p (inlines_of w)
back-last p b w k e =
    ap (λ l. last_passes p (inlines_of l)) k.is
    ∙ last-same p k.first k.grown k.rest e
    ∙ sym (last-behind p k.before k.grown k.rest)
    ∙ ap (λ l. last_passes p (inlines_of l)) (sym k.whole)

back-first : (p : Inline → Bool) (b w : List Inline) (k : Back b w) → p k.first ≡ false
    → first_passes p (inlines_of b) ≡ false
back-first p b w k e = ap (λ l. first_passes p (inlines_of l)) k.is ∙ e

-- no space and no break at the ends
record IsWhole (xs : List Inline) : Type 0 where
  first_space : first_passes begins_with_space (inlines_of xs) ≡ false
  last_space : last_passes ends_with_space (inlines_of xs) ≡ false
  first_break : first_passes is_break (inlines_of xs) ≡ false
  last_break : last_passes is_break (inlines_of xs) ≡ false

whole-is : (xs : List Inline) → are_whole (inlines_of xs) ≡ true → IsWhole xs
whole-is xs h =
    let s = inlines_of xs in
    let trimmed = are_trimmed s in
    let fb = not (first_passes is_break s) in
    let lb = not (last_passes is_break s) in
    let fs = not (first_passes begins_with_space s) in
    let ls = not (last_passes ends_with_space s) in
    let first = and_left (trimmed && fb) lb h in
    let inside = and_left trimmed fb first in
    record {
      first_space = not-true (first_passes begins_with_space s) (and_left fs ls inside);
      last_space = not-true (last_passes ends_with_space s) (and_right fs ls inside);
      first_break = not-true (first_passes is_break s) (and_right trimmed fb first);
      last_break = not-true (last_passes is_break s) (and_right (trimmed && fb) lb h);
    }

whole-from : (xs : List Inline) → IsWhole xs → are_whole (inlines_of xs) ≡ true
whole-from xs h =
    let s = inlines_of xs in
    let trimmed = are_trimmed s in
    let fb = not (first_passes is_break s) in
    let lb = not (last_passes is_break s) in
    let fs = not (first_passes begins_with_space s) in
    let ls = not (last_passes ends_with_space s) in
    and_from (trimmed && fb) lb
    (and_from trimmed fb (and_from fs ls (ap not h.first_space) (ap not h.last_space)) (ap not h.first_break))
    (ap not h.last_break)

back-whole : (b w : List Inline) → Back b w → last_passes ends_with_space (inlines_of w) ≡ false
    → last_passes is_break (inlines_of w) ≡ false → IsWhole b
back-whole b w k space_end break_end =
    record {
      first_space = back-first begins_with_space b w k k.no_space;
      last_space = back-last ends_with_space b w k k.ends ∙ space_end;
      first_break = back-first is_break b w k k.no_break;
      last_break = back-last is_break b w k k.breaks ∙ break_end;
    }

front-whole : (a w : List Inline) → Front a w → IsWhole w → IsWhole a
front-whole a w f h =
    record {
      first_space = front-first begins_with_space a w f f.begins ∙ h.first_space;
      last_space = front-last ends_with_space a w f f.no_space;
      first_break = front-first is_break a w f f.breaks ∙ h.first_break;
      last_break = front-last is_break a w f f.no_break;
    }

-- ---- paragraphs

no-anchors : (zs : List Inline) (s : List ℕ) (r : List Inline)
    → are_anchors (inlines_of (zs ++ text s ∷ r)) ≡ false
no-anchors [] s r = refl
no-anchors (z ∷ zs) s r = ap (λ b. is_anchor z && b) (no-anchors zs s r) ∙ none (is_anchor z)
  where
    none : (b : Bool) → (b && false) ≡ false
    none true = refl
    none false = refl

words-no_anchors : (a b : List Inline) → are_anchors (inlines_of (with_word a b)) ≡ false
words-no_anchors a b =
    let put = text-ends a (space ∷ first_text b) in
    let s = put.start ++ space ∷ first_text b in
    ap (λ l. are_anchors (inlines_of (l ++ behind_text b))) put.is
    ∙ ap (λ l. are_anchors (inlines_of l)) (append_assoc put.before (text s ∷ []) (behind_text b))
    ∙ no-anchors put.before s (behind_text b)

ends-some : (xs : List Inline) → EndsWell xs → has_none (inlines_of xs) ≡ false
ends-some xs (text_end zs b s e) = at zs
  where
    at : (zs : List Inline) → has_none (inlines_of (zs ++ text (b ∷ s) ∷ [])) ≡ false
    at [] = refl
    at (z ∷ zs) = refl
ends-some xs (other_end zs x e f g) = at zs
  where
    at : (zs : List Inline) → has_none (inlines_of (zs ++ x ∷ [])) ≡ false
    at [] = refl
    at (z ∷ zs) = refl

begins-some : (xs : List Inline) → BeginsWell xs → has_none (inlines_of xs) ≡ false
begins-some xs (text_begin b s ys e) = refl
begins-some xs (other_begin x ys e f) = refl

or-true : (a b : Bool) → b ≡ true → (a || b) ≡ true
or-true true b e = refl
or-true false b e = e

or-none : (a b : Bool) → a ≡ false → (a || b) ≡ true → b ≡ true
or-none false b e h = h
or-none true b e h = absurd (cc)

paragraph-from : (xs : List Inline) → has_none (inlines_of xs) ≡ false → IsWhole xs → Every xs
    → is_normal_paragraph false (inlines_of xs) ≡ true
paragraph-from xs some whole every =
    let s = inlines_of xs in
    and_from (not (has_none s) && is_normal_line s) (are_anchors s || anchors_stand_well s)
    (and_from (not (has_none s)) (is_normal_line s) (ap not some)
    (and_from (are_whole s) (are_normal false [] s) (whole-from xs whole) (every-normal xs every)))
    (or-true (are_anchors s) (anchors_stand_well s) (every-stand xs every))

split-line : (a b : List Inline) → EndsWell a → BeginsWell b
    → is_normal_paragraph false (inlines_of (with_word a b)) ≡ true
    → (is_normal_paragraph false (inlines_of a) ≡ true) × (is_normal_paragraph false (inlines_of b) ≡ true)
split-line a b ends begins h =
    let s = inlines_of (with_word a b) in
    let first = and_left (not (has_none s) && is_normal_line s) (are_anchors s || anchors_stand_well s) h in
    let line = and_right (not (has_none s)) (is_normal_line s) first in
    let stand = or-none (are_anchors s) (anchors_stand_well s) (words-no_anchors a b)
    (and_right (not (has_none s) && is_normal_line s) (are_anchors s || anchors_stand_well s) h) in
    let whole = whole-is (with_word a b) (and_left (are_whole s) (are_normal false [] s) line) in
    let every = every-split a b ends begins
    (every-from (with_word a b) (and_right (are_whole s) (are_normal false [] s) line) stand) in
    let f = front-of a (first_text b) (behind_text b) ends in (
      paragraph-from a (ends-some a ends) (front-whole a (with_word a b) f whole) every.0,
      paragraph-from b (begins-some b begins)
          (back-whole b (with_word a b) (back-of a b begins) whole.last_space whole.last_break) every.1,
    )

-- ---- the first paragraph of an item

item-line : (xs : List Inline) → first_passes is_task (inlines_of xs) ≡ false
    → is_normal_item (inlines_of xs) ≡ is_normal_line (inlines_of xs)
item-line [] e = refl
item-line (text s ∷ xs) e = refl
item-line (code s ∷ xs) e = refl
item-line (formatted f c ∷ xs) e = refl
item-line (link a t c ∷ xs) e = refl
item-line (image a t d ∷ xs) e = refl
item-line (anchor id ∷ xs) e = refl
item-line (line_break ∷ xs) e = refl
item-line (task t ∷ xs) e = absurd (cc)

item-as_line : (xs : List Inline) → first_passes is_task (inlines_of xs) ≡ false
    → is_normal_paragraph true (inlines_of xs) ≡ is_normal_paragraph false (inlines_of xs)
item-as_line xs e =
    let s = inlines_of xs in
    ap (λ b. (not (has_none s) && b) && (are_anchors s || anchors_stand_well s)) (item-line xs e)

-- both parts, the first in an item
abbrev ItemSplit : List Inline → List Inline → Type 0
ItemSplit a b =
    (is_normal_paragraph true (inlines_of a) ≡ true) × (is_normal_paragraph false (inlines_of b) ≡ true)

split-other : (a b : List Inline) → EndsWell a → BeginsWell b → first_passes is_task (inlines_of a) ≡ false
    → is_normal_paragraph true (inlines_of (with_word a b)) ≡ true → ItemSplit a b
split-other a b ends begins e h =
    let w = with_word a b in
    let f = front-of a (first_text b) (behind_text b) ends in
    let both = split-line a b ends begins
    (sym (item-as_line w (sym (front-first is_task a w f f.boxes) ∙ e)) ∙ h) in
    (item-as_line a e ∙ both.0, both.1)

ends-later : (zs : List Inline) → EndsWell zs → (x y : Inline) (ys : List Inline) → zs ≡ x ∷ y ∷ ys
    → EndsWell (y ∷ ys)
ends-later zs (text_end [] b s e) x y ys is = absurd (cc)
ends-later zs (text_end (z ∷ xs) b s e) x y ys is =
    let same : xs ++ text (b ∷ s) ∷ [] ≡ y ∷ ys = cc in
    subst (λ (l : List Inline). EndsWell l) same (text_end xs b s e)
ends-later zs (other_end [] w e f g) x y ys is = absurd (cc)
ends-later zs (other_end (z ∷ xs) w e f g) x y ys is =
    let same : xs ++ w ∷ [] ≡ y ∷ ys = cc in
    subst (λ (l : List Inline). EndsWell l) same (other_end xs w e f g)

ends-no_task : (xs : List Inline) → EndsWell xs → last_passes is_task (inlines_of xs) ≡ false
ends-no_task xs (text_end zs b s e) = last-one is_task zs (text (b ∷ s))
ends-no_task xs (other_end zs x e f g) = last-one is_task zs x ∙ g

split-task : (t : Bool) (y : Inline) (ys b : List Inline) → EndsWell (y ∷ ys) → BeginsWell b
    → is_normal_paragraph true (inlines_of (task t ∷ with_word (y ∷ ys) b)) ≡ true
    → ItemSplit (task t ∷ y ∷ ys) b
split-task t y ys b ends begins h =
    let a = y ∷ ys in
    let w = with_word a b in
    let s = inlines_of w in
    let begun = first_passes begins_with_space s in
    let no_space = not (last_passes ends_with_space s) in
    let no_break = not (last_passes is_break s) in
    let inner = begun && no_space && no_break && are_normal false [] s in
    let line = and_left inner (anchors_stand_well s) h in
    let edges = and_left (begun && no_space && no_break) (are_normal false [] s) line in
    let edge = and_left (begun && no_space) no_break edges in
    let every = every-split a b ends begins
    (every-from w (and_right (begun && no_space && no_break) (are_normal false [] s) line)
    (and_right inner (anchors_stand_well s) h)) in
    let f = front-of a (first_text b) (behind_text b) ends in
    let o = inlines_of a in
    let here = first_passes begins_with_space o && not (last_passes ends_with_space o) in (
      and_from (here && not (last_passes is_break o) && are_normal false [] o) (anchors_stand_well o)
          (and_from (here && not (last_passes is_break o)) (are_normal false [] o)
          (and_from here (not (last_passes is_break o))
          (and_from (first_passes begins_with_space o) (not (last_passes ends_with_space o))
          (front-first begins_with_space a w f f.begins ∙ and_left begun no_space edge)
          (ap not (front-last ends_with_space a w f f.no_space)))
          (ap not (front-last is_break a w f f.no_break)))
          (every-normal a every.0))
          (every-stand a every.0),
      paragraph-from b (begins-some b begins)
          (back-whole b w (back-of a b begins)
          (not-true (last_passes ends_with_space s) (and_right begun no_space edge))
          (not-true (last_passes is_break s) (and_right (begun && no_space) no_break edges)))
          every.1,
    )

split-item : (a b : List Inline) → EndsWell a → BeginsWell b
    → is_normal_paragraph true (inlines_of (with_word a b)) ≡ true → ItemSplit a b
split-item [] b ends begins h = not-so _ (sym (ends-some [] ends))
split-item (task t ∷ []) b ends begins h = not-so _ (sym (ends-no_task (task t ∷ []) ends))
split-item (task t ∷ y ∷ ys) b ends begins h =
    split-task t y ys b (ends-later (task t ∷ y ∷ ys) ends (task t) y ys refl) begins h
split-item (text s ∷ xs) b ends begins h = split-other (text s ∷ xs) b ends begins refl h
split-item (code s ∷ xs) b ends begins h = split-other (code s ∷ xs) b ends begins refl h
split-item (formatted f c ∷ xs) b ends begins h = split-other (formatted f c ∷ xs) b ends begins refl h
split-item (link l t c ∷ xs) b ends begins h = split-other (link l t c ∷ xs) b ends begins refl h
split-item (image l t d ∷ xs) b ends begins h = split-other (image l t d ∷ xs) b ends begins refl h
split-item (anchor id ∷ xs) b ends begins h = split-other (anchor id ∷ xs) b ends begins refl h
split-item (line_break ∷ xs) b ends begins h = split-other (line_break ∷ xs) b ends begins refl h

split-either : (in_item : Bool) (a b : List Inline) → EndsWell a → BeginsWell b
    → is_normal_paragraph in_item (inlines_of (with_word a b)) ≡ true
    → (is_normal_paragraph in_item (inlines_of a) ≡ true) × (is_normal_paragraph false (inlines_of b) ≡ true)
split-either true a b ends begins h = split-item a b ends begins h
split-either false a b ends begins h = split-line a b ends begins h

-- ---- all parts

abbrev pub AreNormalLines : List (List Inline) → Type 0
AreNormalLines [] = Unit {0}
AreNormalLines (xs ∷ rest) = (is_normal_paragraph false (inlines_of xs) ≡ true) × AreNormalLines rest

pub further-normal : (in_item : Bool) (xs : List Inline) (yss : List (List Inline)) → Linked (xs ∷ yss)
    → is_normal_paragraph in_item (inlines_of (further_words xs yss)) ≡ true
    → (is_normal_paragraph in_item (inlines_of xs) ≡ true) × AreNormalLines yss
further-normal in_item xs [] linked h = (h, tt)
further-normal in_item xs (ys ∷ yss) linked h =
    let rest = further-normal in_item (with_word xs ys) yss (linked-joined xs ys yss linked.1) h in
    let both = split-either in_item xs ys linked.0.0 linked.0.1 rest.0 in
    (both.0, (both.1, rest.1))
