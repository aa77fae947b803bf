-- What the lemmas on lines ask of one: what is settled, and whole, in one test.
use Rattle.std.proofs.Common.{◌≡◌, Bool, true, false, not, ◌&&◌, ◌||◌, List, [], ◌∷◌, ℕ, refl}
use Rattle.std.specs.Prelude.{if◌then◌else◌}
use Rattle.std.specs.Str.{chars}
use Rattle.std.proofs.lemmas.Bool.{and_parts}
use Rattle.htmd_document.specs.Documents.{Inline, text, code, formatted, link, image, anchor, line_break, task}
use Rattle.htmd_document.specs.Documents.{Inlines, no_inlines, inline}
use Rattle.htmd_document.specs.Formats.{Format}
use Rattle.htmd_document.specs.NormalInlines.{first_passes, last_passes, has_none, is_anchor, is_break, is_gap}
use Rattle.htmd_document.specs.NormalInlines.{is_normal, are_normal, meets, stands_well, shows_after}
use Rattle.htmd_document.specs.NormalInlines.{anchors_stand_well}
use Rattle.htmd_shown.specs.Spaces.{is_blank_text}
use Rattle.htmd_law_returning.specs.LastingAnchors.{past_gaps, goes_on, line_keeps}
use Rattle.htmd_law_returning.proofs.KeptBlocks.{keeps_anchors}
use Rattle.htmd_law_returning.specs.NoAnchors.{has_no_anchors, have_no_anchors}
use Rattle.htmd_law_returning.specs.WholeLines.{begins_white_text, ends_white_text, begins_white, ends_white}
use Rattle.htmd_law_returning.specs.WholeLines.{is_same_around, is_apart, is_whole_inside, are_whole_inside, is_whole}
use Rattle.htmd_law_returning.specs.SettledDocuments.{is_plain_text, is_settled_address, is_settled_title}
use Rattle.htmd_law_returning.specs.SettledDocuments.{is_one_line, ends_in_white}
use Rattle.htmd_law_returning.specs.SettledDocuments.{begins_in_white, is_white_at_break, is_settled_link}
use Rattle.htmd_law_returning.specs.SettledDocuments.{is_settled_inline, are_settled_inlines, is_settled_line}
use Rattle.htmd_law_returning.proofs.StartLemmas.{false-true, true-false, from-not}

-- ---- the test

-- no white space and no break is at the ends
abbrev pub are_black_ended : Inlines → Bool
are_black_ended xs =
    (not (first_passes begins_in_white xs) && not (last_passes ends_in_white xs))
    && (not (first_passes is_break xs) && not (last_passes is_break xs))

-- what stands behind the anchors at the beginning
abbrev pub behind_anchors : Inlines → Inlines
behind_anchors no_inlines = no_inlines
behind_anchors (inline x xs) = if is_anchor x then behind_anchors xs else inline x xs

-- the same format again behind white space, a break or anchors
abbrev pub is_parted : Inline → Inlines → Bool
is_parted x (inline (text s) xs) = is_blank_text s && goes_on x (behind_anchors xs)
is_parted x (inline line_break xs) = goes_on x (behind_anchors xs)
is_parted x (inline (anchor id) xs) = goes_on x (behind_anchors xs)
is_parted x xs = false

-- an anchor before nothing that shows
abbrev pub is_cut_off : Inline → Inlines → Bool
is_cut_off x xs = is_anchor x && (has_none xs || begins_white xs)

-- no anchor stands first in a format
abbrev pub are_black_inside : Inlines → Bool
are_black_inside content = are_black_ended content && not (first_passes is_anchor content)

abbrev pub is_held_code : List ℕ → Bool
is_held_code s = is_plain_text s && not (begins_white_text (chars s)) && not (ends_white_text (chars s))

abbrev mutual
  pub is_held : Inline → Bool
  is_held (text s) = is_plain_text s
  is_held (code s) = is_held_code s
  is_held (formatted f content) = are_black_inside content && are_held content
  is_held (link a t content) = is_settled_link a t && are_black_ended content && are_held content
  is_held (image a t d) = is_settled_address a && is_settled_title t && is_one_line d
  is_held (anchor id) = is_one_line id
  is_held line_break = true
  is_held (task d) = false

  pub are_held : Inlines → Bool
  are_held no_inlines = true
  are_held (inline x rest) =
      is_held x && not (is_parted x rest) && not (is_white_at_break x rest) && not (is_cut_off x rest) && are_held rest

-- ---- from the definitions

black-first : (xs : Inlines) → begins_white xs ≡ false → first_passes begins_in_white xs ≡ false
black-first no_inlines h = refl
black-first (inline (text s) xs) h = h
black-first (inline (code s) xs) h = refl
black-first (inline (formatted f c) xs) h = refl
black-first (inline (link a t c) xs) h = refl
black-first (inline (image a t d) xs) h = refl
black-first (inline (anchor id) xs) h = refl
black-first (inline line_break xs) h = refl
black-first (inline (task d) xs) h = refl

break-first : (xs : Inlines) → begins_white xs ≡ false → first_passes is_break xs ≡ false
break-first no_inlines h = refl
break-first (inline (text s) xs) h = refl
break-first (inline (code s) xs) h = refl
break-first (inline (formatted f c) xs) h = refl
break-first (inline (link a t c) xs) h = refl
break-first (inline (image a t d) xs) h = refl
break-first (inline (anchor id) xs) h = refl
break-first (inline line_break xs) h = true-false h
break-first (inline (task d) xs) h = refl

black-last : (xs : Inlines) → ends_white xs ≡ false → last_passes ends_in_white xs ≡ false
black-last no_inlines h = refl
black-last (inline (text s) no_inlines) h = h
black-last (inline (code s) no_inlines) h = refl
black-last (inline (formatted f c) no_inlines) h = refl
black-last (inline (link a t c) no_inlines) h = refl
black-last (inline (image a t d) no_inlines) h = refl
black-last (inline (anchor id) no_inlines) h = refl
black-last (inline line_break no_inlines) h = refl
black-last (inline (task d) no_inlines) h = refl
black-last (inline x (inline y ys)) h = black-last (inline y ys) (more-ends x y ys h)
  where
    more-ends : (x y : Inline) (ys : Inlines) → ends_white (inline x (inline y ys)) ≡ false
        → ends_white (inline y ys) ≡ false
    more-ends (text s) y ys h = h
    more-ends (code s) y ys h = h
    more-ends (formatted f c) y ys h = h
    more-ends (link a t c) y ys h = h
    more-ends (image a t d) y ys h = h
    more-ends (anchor id) y ys h = h
    more-ends line_break y ys h = h
    more-ends (task d) y ys h = h

break-last : (xs : Inlines) → ends_white xs ≡ false → last_passes is_break xs ≡ false
break-last no_inlines h = refl
break-last (inline (text s) no_inlines) h = refl
break-last (inline (code s) no_inlines) h = refl
break-last (inline (formatted f c) no_inlines) h = refl
break-last (inline (link a t c) no_inlines) h = refl
break-last (inline (image a t d) no_inlines) h = refl
break-last (inline (anchor id) no_inlines) h = refl
break-last (inline line_break no_inlines) h = true-false h
break-last (inline (task d) no_inlines) h = refl
break-last (inline x (inline y ys)) h = break-last (inline y ys) (more-ends x y ys h)
  where
    more-ends : (x y : Inline) (ys : Inlines) → ends_white (inline x (inline y ys)) ≡ false
        → ends_white (inline y ys) ≡ false
    more-ends (text s) y ys h = h
    more-ends (code s) y ys h = h
    more-ends (formatted f c) y ys h = h
    more-ends (link a t c) y ys h = h
    more-ends (image a t d) y ys h = h
    more-ends (anchor id) y ys h = h
    more-ends line_break y ys h = h
    more-ends (task d) y ys h = h

black-ends : (xs : Inlines) → begins_white xs ≡ false → ends_white xs ≡ false → are_black_ended xs ≡ true
black-ends xs h e = rw (black-first xs h, black-last xs e, break-first xs h, break-last xs e) refl

-- a text or a break
abbrev is_white_one : Inline → Bool
is_white_one (text s) = true
is_white_one line_break = true
is_white_one x = false

none-around : (x y : Inline) → is_white_one y ≡ true → is_same_around x y ≡ false
none-around (text t) y h = refl
none-around (code t) y h = refl
none-around (formatted f c) (text s) h = refl
none-around (formatted f c) (code s) h = refl
none-around (formatted f c) (formatted g d) h = false-true h
none-around (formatted f c) (link a t d) h = refl
none-around (formatted f c) (image a t d) h = refl
none-around (formatted f c) (anchor id) h = refl
none-around (formatted f c) line_break h = refl
none-around (formatted f c) (task d) h = refl
none-around (link a t c) y h = refl
none-around (image a t d) y h = refl
none-around (anchor id) y h = refl
none-around line_break y h = refl
none-around (task d) y h = refl

-- a format that goes on behind anchors goes on past all gaps
past-anchors : (x : Inline) (xs : Inlines) → goes_on x (past_gaps xs) ≡ false
    → goes_on x (behind_anchors xs) ≡ false
past-anchors x no_inlines h = refl
past-anchors x (inline (text s) xs) h = none-around x (text s) refl
past-anchors x (inline (code s) xs) h = h
past-anchors x (inline (formatted f c) xs) h = h
past-anchors x (inline (link a t c) xs) h = h
past-anchors x (inline (image a t d) xs) h = h
past-anchors x (inline (anchor id) xs) h = past-anchors x xs h
past-anchors x (inline line_break xs) h = none-around x line_break refl
past-anchors x (inline (task d) xs) h = h

unparted : (x : Inline) (xs : Inlines) → goes_on x (past_gaps xs) ≡ false → is_parted x xs ≡ false
unparted x no_inlines h = refl
unparted x (inline (text s) xs) h = either (is_blank_text s) h
  where
    either : (b : Bool) → goes_on x (if b || false then past_gaps xs else inline (text s) xs) ≡ false
        → (b && goes_on x (behind_anchors xs)) ≡ false
    either true e = past-anchors x xs e
    either false e = refl
unparted x (inline (code s) xs) h = refl
unparted x (inline (formatted f c) xs) h = refl
unparted x (inline (link a t c) xs) h = refl
unparted x (inline (image a t d) xs) h = refl
unparted x (inline (anchor id) xs) h = past-anchors x xs h
unparted x (inline line_break xs) h = past-anchors x xs h
unparted x (inline (task d) xs) h = refl

-- after an anchor stands what shows, and no white space
uncut : (a n g w : Bool) → (not a || (not n && not g)) ≡ true → not (a && w) ≡ true
    → (a && (n || w)) ≡ false
uncut true true g w h e = false-true h
uncut true false g true h e = false-true e
uncut true false g false h e = refl
uncut false n g w h e = refl

not-false : (b : Bool) → b ≡ false → not b ≡ true
not-false true h = true-false h
not-false false h = refl

both-true : (a b : Bool) → a ≡ true → b ≡ true → (a && b) ≡ true
both-true true b h e = e
both-true false b h e = false-true h

mutual
  -- where no anchor is, none stands wrongly
  pub plain-stands : (xs : Inlines) → have_no_anchors xs ≡ true → anchors_stand_well xs ≡ true
  plain-stands no_inlines h = refl
  plain-stands (inline x xs) h =
      let parts = and_parts (has_no_anchors x) (have_no_anchors xs) h in
      both-true (stands_well x && shows_after x xs) (anchors_stand_well xs) (plain-one x xs parts.0)
      (plain-stands xs parts.1)

  plain-one : (x : Inline) (xs : Inlines) → has_no_anchors x ≡ true → (stands_well x && shows_after x xs) ≡ true
  plain-one (text s) xs h = refl
  plain-one (code s) xs h = refl
  plain-one (formatted f c) xs h = rw (plain-first c h, plain-stands c h) refl
  plain-one (link a t c) xs h = refl
  plain-one (image a t d) xs h = refl
  plain-one (anchor id) xs h = false-true h
  plain-one line_break xs h = refl
  plain-one (task d) xs h = refl

  plain-first : (xs : Inlines) → have_no_anchors xs ≡ true → first_passes is_anchor xs ≡ false
  plain-first no_inlines h = refl
  plain-first (inline (text s) xs) h = refl
  plain-first (inline (code s) xs) h = refl
  plain-first (inline (formatted f c) xs) h = refl
  plain-first (inline (link a t c) xs) h = refl
  plain-first (inline (image a t d) xs) h = refl
  plain-first (inline (anchor id) xs) h = false-true h
  plain-first (inline line_break xs) h = refl
  plain-first (inline (task d) xs) h = refl

mutual
  -- no anchor is in a link
  pub link-plain : (fs : List Format) (xs : Inlines) → are_normal true fs xs ≡ true → have_no_anchors xs ≡ true
  link-plain fs no_inlines h = refl
  link-plain fs (inline x xs) h =
      let parts = and_parts (is_normal true fs x && meets x xs) (are_normal true fs xs) h in
      both-true (has_no_anchors x) (have_no_anchors xs)
      (link-plain-one fs x (and_parts (is_normal true fs x) (meets x xs) parts.0).0) (link-plain fs xs parts.1)

  link-plain-one : (fs : List Format) (x : Inline) → is_normal true fs x ≡ true → has_no_anchors x ≡ true
  link-plain-one fs (text s) h = refl
  link-plain-one fs (code s) h = refl
  link-plain-one fs (formatted f c) h = link-plain (f ∷ fs) c (and_parts _ (are_normal true (f ∷ fs) c) h).1
  link-plain-one fs (link a t c) h = false-true h
  link-plain-one fs (image a t d) h = refl
  link-plain-one fs (anchor id) h = false-true h
  link-plain-one fs line_break h = refl
  link-plain-one fs (task d) h = refl

mutual
  pub all-held : (xs : Inlines) (b : Bool) (fs : List Format) → are_normal b fs xs ≡ true
      → are_whole_inside xs ≡ true → are_settled_inlines xs ≡ true → anchors_stand_well xs ≡ true
      → line_keeps xs ≡ true → are_held xs ≡ true
  all-held no_inlines b fs n h e stand keep = refl
  all-held (inline x xs) b fs n h e stand keep =
      let normals = and_parts (is_normal b fs x && meets x xs) (are_normal b fs xs) n in
      let wholes = and_parts (is_whole_inside x && is_apart x xs) (are_whole_inside xs) h in
      let whole = and_parts (is_whole_inside x) (is_apart x xs) wholes.0 in
      let settled = and_parts (is_settled_inline x && not (is_white_at_break x xs)) (are_settled_inlines xs) e in
      let own = and_parts (is_settled_inline x) (not (is_white_at_break x xs)) settled.0 in
      let stands = and_parts (stands_well x && shows_after x xs) (anchors_stand_well xs) stand in
      let well = and_parts (stands_well x) (shows_after x xs) stands.0 in
      let white : Bool = not (is_anchor x && begins_white xs) in
      let on : Bool = not (goes_on x (past_gaps xs)) in
      let keeps = and_parts ((keeps_anchors x && white) && on) (line_keeps xs) keep in
      let apart = and_parts (keeps_anchors x && white) on keeps.0 in
      let kept = and_parts (keeps_anchors x) white apart.0 in
      both-true (((is_held x && not (is_parted x xs)) && not (is_white_at_break x xs)) && not (is_cut_off x xs))
      (are_held xs)
      (both-true ((is_held x && not (is_parted x xs)) && not (is_white_at_break x xs)) (not (is_cut_off x xs))
      (both-true (is_held x && not (is_parted x xs)) (not (is_white_at_break x xs))
      (both-true (is_held x) (not (is_parted x xs))
      (one-held x b fs (and_parts (is_normal b fs x) (meets x xs) normals.0).0 whole.0 own.0 well.0 kept.0)
      (not-false (is_parted x xs) (unparted x xs (from-not (goes_on x (past_gaps xs)) apart.1)))) own.1)
      (not-false (is_cut_off x xs) (uncut (is_anchor x) (has_none xs) (first_passes is_gap xs) (begins_white xs)
      well.1 kept.1)))
      (all-held xs b fs normals.1 wholes.1 settled.1 stands.1 keeps.1)

  one-held : (x : Inline) (b : Bool) (fs : List Format) → is_normal b fs x ≡ true → is_whole_inside x ≡ true
      → is_settled_inline x ≡ true → stands_well x ≡ true → keeps_anchors x ≡ true → is_held x ≡ true
  one-held (text s) b fs n h e stand keep = e
  one-held (code s) b fs n h e stand keep =
      let parts = and_parts (not (begins_white_text (chars s))) (not (ends_white_text (chars s))) h in
      both-true (is_plain_text s && not (begins_white_text (chars s))) (not (ends_white_text (chars s)))
      (both-true (is_plain_text s) (not (begins_white_text (chars s))) e parts.0) parts.1
  one-held (formatted f c) b fs n h e stand keep =
      let parts = and_parts (are_whole_inside c && not (begins_white c)) (not (ends_white c)) h in
      let inner = and_parts (are_whole_inside c) (not (begins_white c)) parts.0 in
      let stands = and_parts (not (first_passes is_anchor c)) (anchors_stand_well c) stand in
      both-true (are_black_inside c) (are_held c)
      (both-true (are_black_ended c) (not (first_passes is_anchor c))
      (black-ends c (from-not (begins_white c) inner.1) (from-not (ends_white c) parts.1)) stands.0)
      (all-held c b (f ∷ fs) (and_parts _ (are_normal b (f ∷ fs) c) n).1 inner.0 e stands.1 keep)
  one-held (link a t c) b fs n h e stand keep =
      let parts = and_parts (are_whole_inside c && not (begins_white c)) (not (ends_white c)) h in
      let inner = and_parts (are_whole_inside c) (not (begins_white c)) parts.0 in
      let own = and_parts (is_settled_link a t) (are_settled_inlines c) e in
      let normal : are_normal true fs c ≡ true = (and_parts _ (are_normal true fs c) n).1 in
      both-true (is_settled_link a t && are_black_ended c) (are_held c)
      (both-true (is_settled_link a t) (are_black_ended c) own.0
      (black-ends c (from-not (begins_white c) inner.1) (from-not (ends_white c) parts.1)))
      (all-held c true fs normal inner.0 own.1 (plain-stands c (link-plain fs c normal)) keep)
  one-held (image a t d) b fs n h e stand keep = e
  one-held (anchor id) b fs n h e stand keep = keep
  one-held line_break b fs n h e stand keep = refl
  one-held (task d) b fs n h e stand keep = false-true e

-- a line is held, and black at its ends
pub line-held : (xs : Inlines) → are_normal false [] xs ≡ true → is_settled_line xs ≡ true
    → anchors_stand_well xs ≡ true → line_keeps xs ≡ true → (are_black_ended xs && are_held xs) ≡ true
line-held xs n h stand keep =
    let parts = and_parts (is_whole xs) (are_settled_inlines xs) h in
    let whole = and_parts (are_whole_inside xs && not (begins_white xs)) (not (ends_white xs)) parts.0 in
    let inner = and_parts (are_whole_inside xs) (not (begins_white xs)) whole.0 in
    both-true (are_black_ended xs) (are_held xs)
    (black-ends xs (from-not (begins_white xs) inner.1) (from-not (ends_white xs) whole.1))
    (all-held xs false [] n inner.0 parts.1 stand keep)
