-- A line behind the box of a task: a space stands before what shows first in it.
use Rattle.std.proofs.Common.{◌≡◌, ℕ, zero, suc, Bool, true, false, not, ◌&&◌, List, [], ◌∷◌}
use Rattle.std.proofs.Common.{◌++◌, map, fold, reverse}
use Rattle.std.proofs.Common.{refl, sym, ap, ◌∙◌, arith, subst, ◌||◌}
use Rattle.std.specs.List.{list_all}
use Rattle.std.specs.Str.{chars, is_utf8}
use Rattle.std.proofs.lemmas.Bool.{and_parts, and_from}
use Rattle.std.proofs.lemmas.Bool.Decides.{nat_tests}
use Rattle.std.proofs.lemmas.List.{reverse-append}
use Rattle.std.proofs.lemmas.Str.{chars-append, IsUtf8-from_is_utf8, is_utf8-from_IsUtf8, IsUtf8-drop}
use Rattle.std.proofs.lemmas.Str.{IsCharBoundary-after_ascii}
use Rattle.htmd_lexical.specs.Characters.{space}
use Rattle.htmd_lexical.specs.CharacterClasses.{is_empty, first_is}
use Rattle.htmd_document.specs.Documents.{Inline, text, code, formatted, link, image, anchor, line_break, task}
use Rattle.htmd_document.specs.Documents.{Inlines, no_inlines, inline}
use Rattle.htmd_document.specs.NormalInlines.{is_text, is_line, is_line_byte, has_double_space, ends_in_space}
use Rattle.htmd_document.specs.NormalInlines.{meets, has_none, are_normal, last_passes, ends_with_space, is_break}
use Rattle.htmd_document.specs.NormalInlines.{is_normal_item}
use Rattle.htmd_flow.specs.Nesting.{wrapper_of, wrapped, one_inline, joined, in_last, behind}
use Rattle.htmd_flow.specs.Paragraphs.{Writing, fed, fed_all, after_leaf, anchored, after_character}
use Rattle.htmd_flow.specs.Parts as part
use Rattle.htmd_flow.specs.Parts.{run}
use Rattle.htmd_shown.specs.ShownTexts.{is_shown}
use Rattle.htmd_shown.specs.Spaces.{no_gap, is_blank_text}
use Rattle.htmd_law_returning.specs.SettledDocuments.{behind_box, is_settled_line, is_plain_text, is_white_at_break}
use Rattle.htmd_law_returning.specs.WholeLines.{ends_white_text}
use Rattle.htmd_law_returning.proofs.HeldLemmas.{are_black_ended, are_held, is_parted, behind_anchors, line-held}
use Rattle.htmd_law_returning.proofs.LineFormLemmas.{IsWhole, whole-inlines, normal-one, settled-one}
use Rattle.htmd_law_returning.proofs.LineParts.{Numbers, unknown, unended, numbered, own_number, numbers_after}
use Rattle.htmd_law_returning.proofs.LineParts.{is_rising, parts_in, rising-next}
use Rattle.htmd_law_returning.proofs.LineEntryLemmas.{IsFed, IsEntry, IsPlaced}
use Rattle.htmd_law_returning.proofs.AnchorLeaves.{waiting, places-fed, unparted, leaf-behind}
use Rattle.htmd_law_returning.proofs.InlineLemmas.{free-none}
use Rattle.htmd_law_returning.specs.LastingAnchors.{goes_on}
use Rattle.htmd_law_returning.proofs.LineLemmas.{begin-all}
use Rattle.htmd_law_returning.proofs.NestLemmas.{IsHole, whole-hole, joined-inner, in-last-inner}
use Rattle.htmd_law_returning.proofs.PageLemmas.{and-false}
use Rattle.htmd_law_returning.proofs.RunLemmas.{in_line}
use Rattle.htmd_law_returning.proofs.TextLemmas.{text-line}
use Rattle.htmd_law_returning.proofs.StartLemmas.{in_item, clean, false-true, true-false}
use lib.Utf8.{encode}
use Rattle.htmd_document.specs.NormalInlines.{anchors_stand_well}
use Rattle.htmd_law_returning.specs.LastingAnchors.{line_keeps, past_gaps}

-- ---- a hole behind the space

abbrev pub with_space : Inlines → Inlines
with_space no_inlines = one_inline (text (space ∷ []))
with_space (inline (text s) xs) = inline (text (space ∷ s)) xs
with_space xs = inline (text (space ∷ [])) xs

abbrev pub boxed : Bool → Inlines → Inlines
boxed d xs = inline (task d) (with_space xs)

some-spaced : (xs : Inlines) → has_none (with_space xs) ≡ false
some-spaced no_inlines = refl
some-spaced (inline (text s) xs) = refl
some-spaced (inline (code s) xs) = refl
some-spaced (inline (formatted f c) xs) = refl
some-spaced (inline (link a t c) xs) = refl
some-spaced (inline (image a t d) xs) = refl
some-spaced (inline (anchor id) xs) = refl
some-spaced (inline line_break xs) = refl
some-spaced (inline (task d) xs) = refl

space-first : (z : Inline) → joined (one_inline (text (space ∷ []))) z ≡ with_space (one_inline z)
space-first (text t) = refl
space-first (code t) = refl
space-first (formatted f c) = refl
space-first (link a t c) = refl
space-first (image a t d) = refl
space-first (anchor id) = refl
space-first line_break = refl
space-first (task d) = refl

text-spaced : (s : List ℕ) (z : Inline)
    → joined (one_inline (text (space ∷ s))) z ≡ with_space (joined (one_inline (text s)) z)
text-spaced s (text t) = refl
text-spaced s (code t) = refl
text-spaced s (formatted f c) = refl
text-spaced s (link a t c) = refl
text-spaced s (image a t d) = refl
text-spaced s (anchor id) = refl
text-spaced s line_break = refl
text-spaced s (task d) = refl

code-spaced : (s : List ℕ) (z : Inline)
    → joined (with_space (one_inline (code s))) z ≡ with_space (joined (one_inline (code s)) z)
code-spaced s (text t) = refl
code-spaced s (code t) = refl
code-spaced s (formatted f c) = refl
code-spaced s (link a t c) = refl
code-spaced s (image a t d) = refl
code-spaced s (anchor id) = refl
code-spaced s line_break = refl
code-spaced s (task d) = refl

space-joined : (xs : Inlines) (z : Inline) → joined (with_space xs) z ≡ with_space (joined xs z)
space-joined no_inlines z = space-first z
space-joined (inline (text s) no_inlines) z = text-spaced s z
space-joined (inline (code s) no_inlines) z = code-spaced s z
space-joined (inline (formatted f c) no_inlines) z = refl
space-joined (inline (link a t c) no_inlines) z = refl
space-joined (inline (image a t d) no_inlines) z = refl
space-joined (inline (anchor id) no_inlines) z = refl
space-joined (inline line_break no_inlines) z = refl
space-joined (inline (task d) no_inlines) z = refl
space-joined (inline (text s) (inline y ys)) z = refl
space-joined (inline (code s) (inline y ys)) z = refl
space-joined (inline (formatted f c) (inline y ys)) z = refl
space-joined (inline (link a t c) (inline y ys)) z = refl
space-joined (inline (image a t d) (inline y ys)) z = refl
space-joined (inline (anchor id) (inline y ys)) z = refl
space-joined (inline line_break (inline y ys)) z = refl
space-joined (inline (task d) (inline y ys)) z = refl

space-last : (change : Inlines → Inlines) (xs : Inlines)
    → in_last change (with_space xs) ≡ with_space (in_last change xs)
space-last change no_inlines = refl
space-last change (inline (text s) no_inlines) = refl
space-last change (inline (code s) no_inlines) = refl
space-last change (inline (formatted f c) no_inlines) = refl
space-last change (inline (link a t c) no_inlines) = refl
space-last change (inline (image a t d) no_inlines) = refl
space-last change (inline (anchor id) no_inlines) = refl
space-last change (inline line_break no_inlines) = refl
space-last change (inline (task d) no_inlines) = refl
space-last change (inline (text s) (inline y ys)) = refl
space-last change (inline (code s) (inline y ys)) = refl
space-last change (inline (formatted f c) (inline y ys)) = refl
space-last change (inline (link a t c) (inline y ys)) = refl
space-last change (inline (image a t d) (inline y ys)) = refl
space-last change (inline (anchor id) (inline y ys)) = refl
space-last change (inline line_break (inline y ys)) = refl
space-last change (inline (task d) (inline y ys)) = refl

box-joined : (d : Bool) (xs : Inlines) (z : Inline) → joined (boxed d xs) z ≡ boxed d (joined xs z)
box-joined d xs z =
    joined-inner (task d) (with_space xs) z (some-spaced xs) ∙ ap (inline (task d)) (space-joined xs z)

pub box-hole : (d : Bool) → IsHole (boxed d) []
box-hole d zero xs inner y = box-joined d xs (wrapped inner y)
box-hole d (suc m) xs [] y = box-joined d xs y
box-hole d (suc m) xs (a ∷ inner) y =
    in-last-inner (λ content. behind m content inner y) (task d) (with_space xs) (some-spaced xs)
    ∙ ap (inline (task d)) (space-last (λ content. behind m content inner y) xs)

-- ---- where the line begins

space-characters : chars (space ∷ []) ≡ space ∷ []
unfolding chars encode
space-characters = refl

space-utf8 : is_utf8 (space ∷ []) ≡ true
unfolding is_utf8 chars encode
space-utf8 = refl

pub characters-behind-space : (s : List ℕ) → chars (space ∷ s) ≡ space ∷ chars s
characters-behind-space s =
    chars-append (space ∷ []) s (IsUtf8-from_is_utf8 (space ∷ []) space-utf8)
    ∙ ap (λ cs. cs ++ chars s) space-characters

space-fed : (w : Writing) (s : List ℕ)
    → fed w (run (space ∷ s) [] false) ≡ fed (fed w (run (space ∷ []) [] false)) (run s [] false)
space-fed w s =
    ap (λ cs. fold (λ v c. after_character v [] false c) w cs) (characters-behind-space s)
    ∙ ap (λ cs. fold (λ v c. after_character v [] false c)
    (fold (λ v c. after_character v [] false c) w cs) (chars s)) (sym space-characters)

-- behind the box and the space of an item's first paragraph
abbrev pub past_box : Bool → Writing
past_box d = fed (fed (clean in_item []) (part.box d)) (run (space ∷ []) [] false)

box-entry : (d : Bool) → IsEntry in_item [] (boxed d) [] (past_box d) []
unfolding chars encode
box-entry d more c y h =
    ap (λ x. in_line in_item [] (inline (task d) x) (map wrapper_of more) c no_gap) (space-first (wrapped more y))

-- with anchors behind the space
box-placed : (d : Bool) → IsPlaced in_item [] (boxed d) [] (past_box d) []
unfolding chars encode
box-placed d id ids more c y h =
    let begun : Inlines = inline (task d) (one_inline (text (space ∷ []))) in
    let first : after_leaf (waiting (past_box d) (id ∷ ids)) more c y
    ≡ in_line in_item [] (behind 0 (anchored 0 begun more (id ∷ ids)) more y) (map wrapper_of more) c no_gap =
    refl in
    ap (λ v. after_leaf v more c y) (places-fed (past_box d) id ids (unparted (past_box d) refl) refl)
    ∙ (first
    ∙ ap (λ x. in_line in_item [] x (map wrapper_of more) c no_gap)
    (leaf-behind (λ xs. xs) [] whole-hole begun more id ids y))

-- ---- a text without its first space

first-front : (xs : List ℕ) (c : ℕ) (ys : List ℕ)
    → first_is space ((xs ++ c ∷ []) ++ ys) ≡ first_is space (xs ++ c ∷ [])
first-front [] c ys = refl
first-front (x ∷ xs) c ys = refl

tail-ends : (c : ℕ) (s : List ℕ) → ends_in_space (space ∷ c ∷ s) ≡ ends_in_space (c ∷ s)
tail-ends c s =
    ap (first_is space) (reverse-append (space ∷ []) (c ∷ s)
    ∙ ap (λ r. r ++ space ∷ []) (reverse-append (c ∷ []) s))
    ∙ (first-front (reverse s) c (space ∷ [])
    ∙ sym (ap (first_is space) (reverse-append (c ∷ []) s)))

tail-utf8 : (s : List ℕ) → is_utf8 (space ∷ s) ≡ true → is_utf8 s ≡ true
tail-utf8 s h =
    let u = IsUtf8-from_is_utf8 (space ∷ s) h in
    is_utf8-from_IsUtf8 s (IsUtf8-drop (space ∷ s) 1 u
    (IsCharBoundary-after_ascii (space ∷ s) 0 u (omega arith) (omega arith)))

tail-single : (c : ℕ) (s : List ℕ) → not (has_double_space (space ∷ c ∷ s)) ≡ true
    → not (has_double_space (c ∷ s)) ≡ true
tail-single c s h = either (first_is space (c ∷ s)) (has_double_space (c ∷ s)) h
  where
    either : (a b : Bool) → not (a || b) ≡ true → not b ≡ true
    either true b e = false-true e
    either false b e = e

pub tail-text : (c : ℕ) (s : List ℕ) → is_text (space ∷ c ∷ s) ≡ true → is_text (c ∷ s) ≡ true
tail-text c s h =
    let parts = and_parts (is_line (space ∷ c ∷ s) && true) (not (has_double_space (space ∷ c ∷ s))) h in
    let line = and_parts (is_utf8 (space ∷ c ∷ s)) (list_all is_line_byte (c ∷ s))
    (and_parts (is_line (space ∷ c ∷ s)) true parts.0).0 in
    and_from (is_line (c ∷ s) && true) (not (has_double_space (c ∷ s)))
    (and_from (is_line (c ∷ s)) true
    (and_from (is_utf8 (c ∷ s)) (list_all is_line_byte (c ∷ s)) (tail-utf8 (c ∷ s) line.0) line.1) refl)
    (tail-single c s parts.1)

tail-meets : (c : ℕ) (s : List ℕ) (xs : Inlines)
    → meets (text (space ∷ c ∷ s)) xs ≡ meets (text (c ∷ s)) xs
tail-meets c s no_inlines = refl
tail-meets c s (inline (text t) xs) = refl
tail-meets c s (inline (code t) xs) = rw (tail-ends c s) refl
tail-meets c s (inline (formatted f d) xs) = rw (tail-ends c s) refl
tail-meets c s (inline (link a t d) xs) = rw (tail-ends c s) refl
tail-meets c s (inline (image a t d) xs) = rw (tail-ends c s) refl
tail-meets c s (inline (anchor id) xs) = rw (tail-ends c s) refl
tail-meets c s (inline line_break xs) = rw (tail-ends c s) refl
tail-meets c s (inline (task d) xs) = rw (tail-ends c s) refl

tail-normal : (c : ℕ) (s : List ℕ) (xs : Inlines)
    → are_normal false [] (inline (text (space ∷ c ∷ s)) xs) ≡ true
    → are_normal false [] (inline (text (c ∷ s)) xs) ≡ true
tail-normal c s xs h =
    let own = normal-one false [] (text (space ∷ c ∷ s)) xs h in
    and_from (is_text (c ∷ s) && meets (text (c ∷ s)) xs) (are_normal false [] xs)
    (and_from (is_text (c ∷ s)) (meets (text (c ∷ s)) xs) (tail-text c s own.own)
    (sym (tail-meets c s xs) ∙ own.meets_next)) own.rest

text-rising : (k : ℕ) (ns : Numbers) (s t : List ℕ) (xs : Inlines)
    → is_rising k ns (inline (text s) xs) ≡ is_rising k ns (inline (text t) xs)
text-rising k unknown s t xs = refl
text-rising k unended s t xs = refl
text-rising k (numbered id inside rest) s t xs = refl

-- ---- a line with a task

-- what a line with a task at its beginning is like
pub record IsTask (xs : Inlines) : Type 0 where
  pub first : Bool
  pub spaced : List ℕ
  pub rest : Inlines
  pub is : xs ≡ inline (task first) (inline (text (space ∷ spaced)) rest)
  pub normal : are_normal false [] (inline (text (space ∷ spaced)) rest) ≡ true
  pub held : are_held (behind_box xs) ≡ true
  pub whole : IsWhole (behind_box xs)

space-apart : (xs : Inlines) → meets (text (space ∷ [])) xs ≡ true
    → with_space xs ≡ inline (text (space ∷ [])) xs
space-apart no_inlines h = refl
space-apart (inline (text s) xs) h = false-true h
space-apart (inline (code s) xs) h = refl
space-apart (inline (formatted f c) xs) h = refl
space-apart (inline (link a t c) xs) h = refl
space-apart (inline (image a t d) xs) h = refl
space-apart (inline (anchor id) xs) h = refl
space-apart (inline line_break xs) h = refl
space-apart (inline (task d) xs) h = refl

box-fed : (d : Bool) (ns : Numbers) (s : List ℕ) (xs : Inlines)
    → are_normal false [] (inline (text (space ∷ s)) xs) ≡ true
    → are_held (behind_box (inline (task d) (inline (text (space ∷ s)) xs))) ≡ true
    → IsWhole (behind_box (inline (task d) (inline (text (space ∷ s)) xs)))
    → is_rising 0 ns (inline (task d) (inline (text (space ∷ s)) xs)) ≡ true
    → IsFed in_item [] (λ ys. ys) [] whole-hole (clean in_item [])
    (parts_in [] ns (inline (task d) (inline (text (space ∷ s)) xs)))
    (inline (task d) (inline (text (space ∷ s)) xs))
box-fed d ns [] xs normal held whole rise =
    let first = rising-next 0 ns (task d) (inline (text (space ∷ [])) xs) rise in
    let next = rising-next (suc (own_number ns)) (numbers_after ns) (text (space ∷ [])) xs first.rest in
    let found = begin-all in_item [] xs false (numbers_after (numbers_after ns))
    (suc (own_number (numbers_after ns))) (boxed d) [] (box-hole d) [] (past_box d) [] (box-entry d)
    (λ first. box-placed d) free-none (λ g c r same o ms. refl) whole
    (normal-one false [] (text (space ∷ [])) xs normal).rest held next.rest in
    record {
      inner = found.inner;
      last = found.last;
      is = found.is
          ∙ ap (λ ys. in_line in_item [] (inline (task d) ys) found.inner found.last no_gap)
          (space-apart xs (normal-one false [] (text (space ∷ [])) xs normal).meets_next);
    }
box-fed d ns (c ∷ s) xs normal held whole rise =
    let first = rising-next 0 ns (task d) (inline (text (space ∷ c ∷ s)) xs) rise in
    let found = begin-all in_item [] (inline (text (c ∷ s)) xs) false (numbers_after ns)
    (suc (own_number ns)) (boxed d) [] (box-hole d) [] (past_box d) [] (box-entry d)
    (λ first. box-placed d) free-none (λ g c r same o ms. refl) whole (tail-normal c s xs normal) held
    (text-rising (suc (own_number ns)) (numbers_after ns) (c ∷ s) (space ∷ c ∷ s) xs ∙ first.rest) in
    record {
      inner = found.inner;
      last = found.last;
      is = ap (λ w. fed_all w (parts_in [] (numbers_after (numbers_after ns)) xs))
          (space-fed (fed (clean in_item []) (part.box d)) (c ∷ s))
          ∙ found.is;
    }

pub task-fed : (ns : Numbers) (xs : Inlines) → IsTask xs → is_rising 0 ns xs ≡ true
    → IsFed in_item [] (λ ys. ys) [] whole-hole (clean in_item []) (parts_in [] ns xs) xs
task-fed ns xs own rise =
    let line : Inlines = inline (task own.first) (inline (text (space ∷ own.spaced)) own.rest) in
    subst (λ ys. IsFed in_item [] (λ zs. zs) [] whole-hole (clean in_item []) (parts_in [] ns ys) ys) (sym own.is)
    (box-fed own.first ns own.spaced own.rest own.normal
    (subst (λ ys. are_held (behind_box ys) ≡ true) own.is own.held)
    (subst (λ ys. IsWhole (behind_box ys)) own.is own.whole)
    (subst (λ ys. is_rising 0 ns ys ≡ true) own.is rise))

-- ---- paragraphs

pub first-is : (c : ℕ) (s : List ℕ) → first_is space (c ∷ s) ≡ true → c ≡ space
first-is c s h = grind (arith, nat_tests, h)

-- something shows behind the space
behind-some : (d : Bool) (c : ℕ) (s : List ℕ) (xs : Inlines) → c ≡ space
    → not (last_passes ends_with_space (inline (text (c ∷ s)) xs)) ≡ true
    → has_none (behind_box (inline (task d) (inline (text (c ∷ s)) xs))) ≡ false
behind-some d c [] no_inlines e h =
    let w : not (ends_in_space (space ∷ [])) ≡ true = sym (ap (λ b. not (ends_in_space (b ∷ []))) e) ∙ h in
    false-true w
behind-some d c [] (inline x xs) e h = refl
behind-some d c (b ∷ s) xs e h = refl

pub text-keeps : (s : List ℕ) (xs : Inlines) → line_keeps xs ≡ true → line_keeps (inline (text s) xs) ≡ true
text-keeps s xs h = rw h (either (past_gaps xs))
  where
    either : (ys : Inlines) → (not (goes_on (text s) ys) && true) ≡ true
    either no_inlines = refl
    either (inline y ys) = refl

-- so are those behind the box
box-keeps : (d : Bool) (c : ℕ) (s : List ℕ) (xs : Inlines)
    → line_keeps (inline (task d) (inline (text (c ∷ s)) xs)) ≡ true
    → line_keeps (behind_box (inline (task d) (inline (text (c ∷ s)) xs))) ≡ true
box-keeps d c s xs h = text_keeps s (and_parts (not (goes_on (text (c ∷ s)) (past_gaps xs))) (line_keeps xs) inner).1
  where
    line : Inlines
    line = inline (text (c ∷ s)) xs

    inner : line_keeps line ≡ true
    inner = (and_parts (not (goes_on (task d) (past_gaps line))) (line_keeps line) h).1

    text_keeps : (t : List ℕ) → line_keeps xs ≡ true
        → line_keeps (behind_box (inline (task d) (inline (text (c ∷ t)) xs))) ≡ true
    text_keeps [] e = e
    text_keeps (b ∷ t) e = text-keeps (b ∷ t) xs e

pub box-normal : (d : Bool) (c : ℕ) (s : List ℕ) (xs : Inlines) → c ≡ space
    → are_normal false [] (inline (text (c ∷ s)) xs) ≡ true
    → are_normal false [] (behind_box (inline (task d) (inline (text (c ∷ s)) xs))) ≡ true
box-normal d c [] xs e h = (normal-one false [] (text (c ∷ [])) xs h).rest
box-normal d c (b ∷ s) xs e h =
    tail-normal b s xs (sym (ap (λ a. are_normal false [] (inline (text (a ∷ b ∷ s)) xs)) e) ∙ h)

box-stands : (d : Bool) (c : ℕ) (s : List ℕ) (xs : Inlines)
    → anchors_stand_well (inline (task d) (inline (text (c ∷ s)) xs)) ≡ true
    → anchors_stand_well (behind_box (inline (task d) (inline (text (c ∷ s)) xs))) ≡ true
box-stands d c [] xs h = h
box-stands d c (b ∷ s) xs h = h

pub task-line : (d : Bool) (xs : Inlines) → is_settled_line (behind_box (inline (task d) xs)) ≡ true
    → is_normal_item (inline (task d) xs) ≡ true → anchors_stand_well (inline (task d) xs) ≡ true
    → line_keeps (inline (task d) xs) ≡ true → IsTask (inline (task d) xs)
task-line d no_inlines h n stands keeps = false-true n
task-line d (inline (text []) xs) h n stands keeps = false-true n
task-line d (inline (text (c ∷ s)) xs) h n stands keeps =
    let line : Inlines = inline (text (c ∷ s)) xs in
    let all = and_parts ((first_is space (c ∷ s) && not (last_passes ends_with_space line))
    && not (last_passes is_break line)) (are_normal false [] line) n in
    let ends = and_parts (first_is space (c ∷ s) && not (last_passes ends_with_space line))
    (not (last_passes is_break line)) all.0 in
    let own = and_parts (first_is space (c ∷ s)) (not (last_passes ends_with_space line)) ends.0 in
    let same : c ≡ space = first-is c s own.0 in
    let held = and_parts (are_black_ended (behind_box (inline (task d) line)))
    (are_held (behind_box (inline (task d) line))) (line-held (behind_box (inline (task d) line))
    (box-normal d c s xs same all.1) h (box-stands d c s xs stands) (box-keeps d c s xs keeps)) in
    record {
      first = d;
      spaced = s;
      rest = xs;
      is = ap (λ b. inline (task d) (inline (text (b ∷ s)) xs)) same;
      normal = sym (ap (λ b. are_normal false [] (inline (text (b ∷ s)) xs)) same) ∙ all.1;
      held = held.1;
      whole = whole-inlines (behind_box (inline (task d) line)) (behind-some d c s xs same own.1) held.0;
    }
task-line d (inline (code s) xs) h n stands keeps = false-true n
task-line d (inline (formatted f c) xs) h n stands keeps = false-true n
task-line d (inline (link a t c) xs) h n stands keeps = false-true n
task-line d (inline (image a t e) xs) h n stands keeps = false-true n
task-line d (inline (anchor id) xs) h n stands keeps = false-true n
task-line d (inline line_break xs) h n stands keeps = false-true n
task-line d (inline (task e) xs) h n stands keeps = false-true n

-- ---- with the space

text-alone : (s : List ℕ) (xs : Inlines) → goes_on (text s) xs ≡ false
text-alone s no_inlines = refl
text-alone s (inline y ys) = refl

text-unparted : (s : List ℕ) (xs : Inlines) → is_parted (text s) xs ≡ false
text-unparted s no_inlines = refl
text-unparted s (inline (text t) ys) =
    ap (λ b. is_blank_text t && b) (text-alone s (behind_anchors ys)) ∙ and-false (is_blank_text t)
text-unparted s (inline (code t) ys) = refl
text-unparted s (inline (formatted f c) ys) = refl
text-unparted s (inline (link a t c) ys) = refl
text-unparted s (inline (image a t d) ys) = refl
text-unparted s (inline (anchor id) ys) = text-alone s (behind_anchors ys)
text-unparted s (inline line_break ys) = text-alone s (behind_anchors ys)
text-unparted s (inline (task d) ys) = refl

space-plain : is_plain_text (space ∷ []) ≡ true
unfolding chars encode
space-plain = refl

space-beside : (xs : Inlines) → meets (text (space ∷ [])) xs ≡ true
    → is_white_at_break (text (space ∷ [])) xs ≡ false
space-beside no_inlines h = refl
space-beside (inline (text t) ys) h = refl
space-beside (inline (code t) ys) h = refl
space-beside (inline (formatted f c) ys) h = refl
space-beside (inline (link a t c) ys) h = refl
space-beside (inline (image a t d) ys) h = refl
space-beside (inline (anchor id) ys) h = refl
space-beside (inline line_break ys) h = false-true h
space-beside (inline (task d) ys) h = refl

space-ends : (cs : List ℕ) → is_empty cs ≡ false → ends_white_text (space ∷ cs) ≡ ends_white_text cs
space-ends [] h = true-false h
space-ends (c ∷ cs) h = refl

tail-beside : (s : List ℕ) (xs : Inlines) → is_empty (chars s) ≡ false
    → is_white_at_break (text (space ∷ s)) xs ≡ is_white_at_break (text s) xs
tail-beside s no_inlines h = refl
tail-beside s (inline (text t) ys) h = refl
tail-beside s (inline (code t) ys) h = refl
tail-beside s (inline (formatted f c) ys) h = refl
tail-beside s (inline (link a t c) ys) h = refl
tail-beside s (inline (image a t d) ys) h = refl
tail-beside s (inline (anchor id) ys) h = refl
tail-beside s (inline line_break ys) h =
    ap ends_white_text (characters-behind-space s) ∙ space-ends (chars s) h
tail-beside s (inline (task d) ys) h = refl

held-text : (s : List ℕ) (xs : Inlines) → is_plain_text s ≡ true → is_white_at_break (text s) xs ≡ false
    → are_held xs ≡ true → are_held (inline (text s) xs) ≡ true
held-text s xs h e g = rw (h, text-unparted s xs, e, g) refl

pub held-spaced : (d : Bool) (s : List ℕ) (xs : Inlines)
    → are_normal false [] (inline (text (space ∷ s)) xs) ≡ true
    → are_held (behind_box (inline (task d) (inline (text (space ∷ s)) xs))) ≡ true
    → are_held (inline (text (space ∷ s)) xs) ≡ true
held-spaced d [] xs n h =
    held-text (space ∷ []) xs space-plain
    (space-beside xs (normal-one false [] (text (space ∷ [])) xs n).meets_next) h
held-spaced d (c ∷ s) xs n h =
    let own = settled-one (text (c ∷ s)) xs h in
    let good = normal-one false [] (text (space ∷ c ∷ s)) xs n in
    let l = text-line (c ∷ s) own.own (tail-text c s good.own) in
    held-text (space ∷ c ∷ s) xs (ap (list_all is_shown) (characters-behind-space (c ∷ s)) ∙ own.own)
    (tail-beside (c ∷ s) xs l.some ∙ own.beside) own.rest
