-- A line of a title whose anchors come before all that is to see in it has them at its beginning.
use Rattle.std.proofs.Common.{◌≡◌, ℕ, Bool, true, false, cond, not, ◌&&◌, ◌||◌, List, [], ◌∷◌, ◌++◌, map, filter, refl}
use Rattle.std.proofs.Common.{sym, ap, ◌∙◌, subst}
use Rattle.std.specs.Prelude.{◌==◌, if◌then◌else◌}
use Rattle.std.specs.List.{list_all, flat_map}
use Rattle.std.specs.Str.{chars}
use Rattle.std.proofs.lemmas.Bool.{and_from, and_parts, eqb-true, false≢true, true≢false}
use Rattle.std.proofs.lemmas.Str.{chars-nil}
use Rattle.htmd_lexical.specs.Characters.{space}
use Rattle.htmd_lexical.specs.CharacterClasses.{is_empty}
use Rattle.htmd_lexical.proofs.Cases.{test}
use Rattle.htmd_document.specs.Documents.{Inline, text, code, formatted, link, image, anchor, line_break, task}
use Rattle.htmd_document.specs.Documents.{Inlines, no_inlines, inline}
use Rattle.htmd_document.specs.Formats.{Format}
use Rattle.htmd_document.specs.NormalDocuments.{is_normal_paragraph}
use Rattle.htmd_document.specs.NormalInlines.{is_text, is_trimmed, is_attribute, is_title, has_none, first_passes}
use Rattle.htmd_document.specs.NormalInlines.{last_passes, ends_with_space, is_break, are_whole}
use Rattle.htmd_document.specs.NormalInlines.{is_barred, has_title, meets, is_normal, are_normal, is_normal_line}
use Rattle.htmd_document.specs.NormalInlines.{is_normal_item, is_anchor, are_anchors, shows_after, stands_well}
use Rattle.htmd_document.specs.NormalInlines.{anchors_stand_well}
use Rattle.htmd_shown.specs.ShownTexts.{is_shown}
use Rattle.htmd_shown.specs.Spaces.{is_white}
use Rattle.htmd_law_documents.specs.DocumentTexts.{is_visible}
use Rattle.htmd_law_returning.proofs.BoxLemmas.{characters-behind-space, tail-text}
use Rattle.htmd_law_returning.proofs.StartLemmas.{from-not}
use Rattle.htmd_law_returning.proofs.TaskLemmas.{no-box}
use Rattle.htmd_law_returning.proofs.TextLemmas.{text-line}
use Rattle.htmd_law_returning.specs.LastingAnchors.{goes_on, past_gaps, inline_keeps, all_keep, heading_keeps}
use Rattle.htmd_law_returning.specs.LastingAnchors.{cells_lead}
use Rattle.htmd_law_returning.specs.NoAnchors.{has_no_anchors, have_no_anchors}
use Rattle.htmd_law_returning.specs.SettledDocuments.{behind_box, shows_header}
use Rattle.htmd_law_returning.specs.WholeLines.{begins_white_text, ends_white_text, begins_white, ends_white}
use Rattle.htmd_law_returning.specs.WholeLines.{is_apart, is_whole_inside, are_whole_inside, is_whole}
use Rattle.htmd_law_settled.specs.BareBreaks.{has_bare_breaks}
use Rattle.htmd_law_settled.specs.Leaves.{Leaves, is_inline_of, is_line_of, is_whole_line_of, are_cells_of}
use Rattle.htmd_law_settled.specs.NeatLeaves.{any_id, is_box_spaced, is_neat_line}
use Rattle.htmd_law_settled.proofs.Things.{Thing, a_thing, an_anchor, in_order, things_in, things_of_inline}
use Rattle.htmd_law_settled.proofs.Things.{things_of_line, things_of_cells}

-- ---- things in order

-- whether a thing came, behind these
abbrev pub passed : Bool → List Thing → Bool
passed b [] = b
passed b (a_thing ∷ things) = passed true things
passed b (an_anchor ∷ things) = passed b things

abbrev pub Shows : List Thing → Type 0
Shows things = passed false things ≡ true

passed-true : (xs : List Thing) → passed true xs ≡ true
passed-true [] = refl
passed-true (a_thing ∷ xs) = passed-true xs
passed-true (an_anchor ∷ xs) = passed-true xs

passed-both : (b : Bool) (xs ys : List Thing) → passed b (xs ++ ys) ≡ passed (passed b xs) ys
passed-both b [] ys = refl
passed-both b (a_thing ∷ xs) ys = passed-both true xs ys
passed-both b (an_anchor ∷ xs) ys = passed-both b xs ys

pub passed-more : (b : Bool) (ys : List Thing) → Shows ys → passed b ys ≡ true
passed-more true ys h = passed-true ys
passed-more false ys h = h

pub shows-left : (xs ys : List Thing) → Shows xs → Shows (xs ++ ys)
shows-left xs ys h = passed-both false xs ys ∙ (ap (λ b. passed b ys) h ∙ passed-true ys)

pub shows-right : (xs ys : List Thing) → Shows ys → Shows (xs ++ ys)
shows-right xs ys h = passed-both false xs ys ∙ passed-more (passed false xs) ys h

pub not-false : (b : Bool) → not b ≡ false → b ≡ true
not-false true h = refl
not-false false h = absurd (true≢false h)

pub order-parts : (b : Bool) (xs ys : List Thing) → in_order b (xs ++ ys) ≡ true
    → (in_order b xs ≡ true) × (in_order (passed b xs) ys ≡ true)
order-parts b [] ys h = (refl, h)
order-parts b (a_thing ∷ xs) ys h = order-parts true xs ys h
order-parts b (an_anchor ∷ xs) ys h =
    let p = and_parts (not b) (in_order b (xs ++ ys)) h in
    let q = order-parts b xs ys p.1 in
    (and_from (not b) (in_order b xs) p.0 q.0, q.1)

-- behind what shows
pub order-behind : (b : Bool) (ys : List Thing) → b ≡ true → in_order b ys ≡ true → in_order true ys ≡ true
order-behind b ys e h = subst (λ (c : Bool). in_order c ys ≡ true) e h

pub true-parts : (xs ys : List Thing) → in_order true (xs ++ ys) ≡ true
    → (in_order true xs ≡ true) × (in_order true ys ≡ true)
true-parts xs ys h =
    let p = order-parts true xs ys h in
    (p.0, order-behind (passed true xs) ys (passed-true xs) p.1)

-- ---- no anchor comes behind a thing

mutual
  inline-none : (x : Inline) → in_order true (things_of_inline x) ≡ true → has_no_anchors x ≡ true
  inline-none (text s) h = refl
  inline-none (code s) h = refl
  inline-none (formatted f content) h = line-none content h
  inline-none (link address title content) h = line-none content h
  inline-none (image address title description) h = refl
  inline-none (anchor id) h = absurd (false≢true h)
  inline-none line_break h = refl
  inline-none (task is_checked) h = refl

  pub line-none : (xs : Inlines) → in_order true (things_of_line xs) ≡ true → have_no_anchors xs ≡ true
  line-none no_inlines h = refl
  line-none (inline x xs) h =
      let p = true-parts (things_of_inline x) (things_of_line xs) h in
      and_from (has_no_anchors x) (have_no_anchors xs) (inline-none x p.0) (line-none xs p.1)

pub cells-none : (cells : List Inlines) → in_order true (things_of_cells cells) ≡ true
    → list_all have_no_anchors cells ≡ true
cells-none [] h = refl
cells-none (c ∷ cs) h =
    let p = true-parts (things_of_line c) (things_of_cells cs) h in
    and_from (have_no_anchors c) (list_all have_no_anchors cs) (line-none c p.0) (cells-none cs p.1)

pub rows-none : (rows : List (List Inlines)) → in_order true (flat_map things_of_cells rows) ≡ true
    → list_all (list_all have_no_anchors) rows ≡ true
rows-none [] h = refl
rows-none (r ∷ rs) h =
    let p = true-parts (things_of_cells r) (flat_map things_of_cells rs) h in
    and_from (list_all have_no_anchors r) (list_all (list_all have_no_anchors) rs) (cells-none r p.0)
    (rows-none rs p.1)

-- ---- texts

-- some character of these can be seen
pub some-black : (cs : List ℕ) → list_all is_shown cs ≡ true → list_all is_white cs ≡ false
    → Shows (map (λ c. a_thing) (filter is_visible cs))
some-black [] h w = absurd (true≢false w)
some-black (c ∷ cs) h w = test (is_white c) (λ e. white e (some-black cs p.1 (later e))) black
  where
    p : (is_shown c ≡ true) × (list_all is_shown cs ≡ true)
    p = and_parts (is_shown c) (list_all is_shown cs) h

    rest : List ℕ
    rest = filter is_visible cs

    things : Bool → List Thing
    things b = map (λ c. a_thing) (cond b (c ∷ rest) rest)

    seen : (b : Bool) → is_white c ≡ b → is_visible c ≡ not b
    seen b e = ap (λ y. y && not (is_white c)) p.0 ∙ ap not e

    later : is_white c ≡ true → list_all is_white cs ≡ false
    later e = sym (ap (λ b. b && list_all is_white cs) e) ∙ w

    white : is_white c ≡ true → Shows (things false) → Shows (things (is_visible c))
    white e g = ap (λ b. passed false (things b)) (seen true e) ∙ g

    black : is_white c ≡ false → Shows (things (is_visible c))
    black e = ap (λ b. passed false (things b)) (seen false e) ∙ passed-true (map (λ c. a_thing) rest)

first-black : (cs : List ℕ) → list_all is_shown cs ≡ true → is_empty cs ≡ false
    → begins_white_text cs ≡ false
    → Shows (map (λ c. a_thing) (filter is_visible cs))
first-black [] h e w = absurd (true≢false e)
first-black (c ∷ cs) h e w = some-black (c ∷ cs) h (ap (λ b. b && list_all is_white cs) w)

text-shows : (s : List ℕ) → list_all is_shown (chars s) ≡ true → is_text s ≡ true
    → begins_white_text (chars s) ≡ false → Shows (things_in s)
text-shows s h n w = first-black (chars s) h (text-line s h n).some w

things-nil : things_in [] ≡ []
things-nil = ap (λ cs. map (λ c. a_thing) (filter is_visible cs)) chars-nil

-- a space isn't to see
things-behind : (s : List ℕ) → things_in (space ∷ s) ≡ things_in s
things-behind s = ap (λ cs. map (λ c. a_thing) (filter is_visible cs)) (characters-behind-space s)

-- ---- lines

-- of what is in a title, and whether it has no anchors
abbrev Clear : List Thing → Bool → Type 0
Clear things is_free = Shows things × (in_order false things ≡ true → is_free ≡ true)

clear-both : (xs ys : List Thing) (b c : Bool) → Clear xs b → (in_order true ys ≡ true → c ≡ true)
    → Clear (xs ++ ys) (b && c)
clear-both xs ys b c h g = (
  shows-left xs ys h.0,
  λ o.
      let p = order-parts false xs ys o in
      and_from b c (h.1 p.0) (g (order-behind (passed false xs) ys h.0 p.1)),
)

-- in no link
abbrev Stands : Bool → Inline → Type 0
Stands true x = Unit {0}
Stands false x = stands_well x ≡ true

abbrev AllStand : Bool → Inlines → Type 0
AllStand true xs = Unit {0}
AllStand false xs = anchors_stand_well xs ≡ true

stand-parts : (in_link : Bool) (x : Inline) (xs : Inlines) → AllStand in_link (inline x xs)
    → Stands in_link x × AllStand in_link xs
stand-parts true x xs h = (tt, tt)
stand-parts false x xs h =
    let p = and_parts (stands_well x && shows_after x xs) (anchors_stand_well xs) h in
    ((and_parts (stands_well x) (shows_after x xs) p.0).0, p.1)

no-anchor-linked : (around : List Format) (xs : Inlines) → are_normal true around xs ≡ true
    → first_passes is_anchor xs ≡ false
no-anchor-linked around no_inlines h = refl
no-anchor-linked around (inline (anchor id) xs) h = absurd (false≢true h)
no-anchor-linked around (inline x xs) h = refl

format-stands : (in_link : Bool) (around : List Format) (f : Format) (content : Inlines)
    → Stands in_link (formatted f content) → are_normal in_link around content ≡ true
    → (first_passes is_anchor content ≡ false) × AllStand in_link content
format-stands true around f content h n = (no-anchor-linked around content n, tt)
format-stands false around f content h n =
    let p = and_parts (not (first_passes is_anchor content)) (anchors_stand_well content) h in
    (from-not (first_passes is_anchor content) p.0, p.1)

-- anchors alone don't stand before what shows
pub stand-some : (xs : Inlines) → anchors_stand_well xs ≡ true → has_none xs ≡ false
    → are_anchors xs ≡ false
stand-some no_inlines h e = absurd (true≢false e)
stand-some (inline (anchor id) no_inlines) h e = absurd (false≢true h)
stand-some (inline (anchor id) (inline y ys)) h e =
    stand-some (inline y ys) (stand-parts false (anchor id) (inline y ys) h).1 refl
stand-some (inline x xs) h e = refl

anchors-lead : (xs : Inlines) → are_anchors xs ≡ true → heading_keeps xs ≡ true
anchors-lead no_inlines h = refl
anchors-lead (inline (anchor id) xs) h = anchors-lead xs h
anchors-lead (inline x xs) h = absurd (false≢true h)

anchors-no-box : (xs : Inlines) → are_anchors xs ≡ true → behind_box xs ≡ xs
anchors-no-box no_inlines h = refl
anchors-no-box (inline (anchor id) xs) h = refl
anchors-no-box (inline x xs) h = absurd (false≢true h)

-- what is known of a line
abbrev pub Led : Inlines → Type 0
Led xs =
    (in_order false (things_of_line xs) ≡ true → heading_keeps xs ≡ true)
    × (are_anchors xs ≡ false → Shows (things_of_line xs))

-- and of a paragraph
abbrev pub LedBehind : Inlines → Type 0
LedBehind xs =
    (in_order false (things_of_line xs) ≡ true → heading_keeps (behind_box xs) ≡ true)
    × (are_anchors xs ≡ false → Shows (things_of_line xs))

module _ (k : Leaves) (shown : (n : ℕ) → k.character n ≡ true → is_shown n ≡ true)
    (lines : (xs : Inlines) → k.line xs ≡ true → is_neat_line xs ≡ true) where
  all-shown : (cs : List ℕ) → list_all k.character cs ≡ true → list_all is_shown cs ≡ true
  all-shown [] h = refl
  all-shown (c ∷ cs) h =
      let p = and_parts (k.character c) (list_all k.character cs) h in
      and_from (is_shown c) (list_all is_shown cs) (shown c p.0) (all-shown cs p.1)

  mutual
    inline-led : (in_link : Bool) (around : List Format) (x : Inline) (rest : Inlines)
        → is_normal in_link around x ≡ true → is_inline_of k x ≡ true → is_whole_inside x ≡ true
        → Stands in_link x → begins_white (inline x rest) ≡ false → is_anchor x ≡ false
        → Clear (things_of_inline x) (has_no_anchors x)
    inline-led in_link around (text s) rest n h w t b a = (text-shows s (all-shown (chars s) h) n b, λ o. refl)
    inline-led in_link around (code s) rest n h w t b a =
        let p = and_parts (not (begins_white_text (chars s))) (not (ends_white_text (chars s))) w in (
          text-shows s (all-shown (chars s) h) (and_parts (is_text s) (is_trimmed s) n).0
              (from-not (begins_white_text (chars s)) p.0),
          λ o. refl,
        )
    inline-led in_link around (formatted f content) rest n h w t b a =
        let fits = not (is_barred around f) && has_title f in
        let p = and_parts (fits && not (has_none content) && are_whole content)
        (are_normal in_link (f ∷ around) content) n in
        let q = and_parts (fits && not (has_none content)) (are_whole content) p.0 in
        let some = and_parts fits (not (has_none content)) q.0 in
        let u = and_parts (are_whole_inside content && not (begins_white content)) (not (ends_white content)) w in
        let v = and_parts (are_whole_inside content) (not (begins_white content)) u.0 in
        let g = format-stands in_link (f ∷ around) f content t p.1 in
        line-led in_link (f ∷ around) content p.1 (and_parts (k.format f) (is_line_of k content) h).1 v.0 g.1
        (from-not (begins_white content) v.1) (from-not (has_none content) some.1) g.0
    inline-led in_link around (link address title content) rest n h w t b a =
        let fits = not in_link && is_attribute address && is_title title in
        let p = and_parts (fits && not (has_none content)) (are_normal true around content) n in
        let some = and_parts fits (not (has_none content)) p.0 in
        let u = and_parts (are_whole_inside content && not (begins_white content)) (not (ends_white content)) w in
        let v = and_parts (are_whole_inside content) (not (begins_white content)) u.0 in
        line-led true around content p.1 (and_parts (k.link address title) (is_line_of k content) h).1 v.0 tt
        (from-not (begins_white content) v.1) (from-not (has_none content) some.1)
        (no-anchor-linked around content p.1)
    inline-led in_link around (image address title description) rest n h w t b a =
        (passed-true (things_in description), λ o. refl)
    inline-led in_link around (anchor id) rest n h w t b a = absurd (true≢false a)
    inline-led in_link around line_break rest n h w t b a = absurd (true≢false b)
    inline-led in_link around (task d) rest n h w t b a = absurd (false≢true n)

    line-led : (in_link : Bool) (around : List Format) (xs : Inlines) → are_normal in_link around xs ≡ true
        → is_line_of k xs ≡ true → are_whole_inside xs ≡ true → AllStand in_link xs
        → begins_white xs ≡ false
        → has_none xs ≡ false → first_passes is_anchor xs ≡ false
        → Clear (things_of_line xs) (have_no_anchors xs)
    line-led in_link around no_inlines n h w t b e a = absurd (true≢false e)
    line-led in_link around (inline x xs) n h w t b e a =
        let p = and_parts (is_normal in_link around x && meets x xs) (are_normal in_link around xs) n in
        let q = and_parts (is_normal in_link around x) (meets x xs) p.0 in
        let u = and_parts (is_whole_inside x && is_apart x xs) (are_whole_inside xs) w in
        let v = and_parts (is_whole_inside x) (is_apart x xs) u.0 in
        clear-both (things_of_inline x) (things_of_line xs) (has_no_anchors x) (have_no_anchors xs)
        (inline-led in_link around x xs q.0 (and_parts (is_inline_of k x) (is_line_of k xs) h).0 v.0
        (stand-parts in_link x xs t).0 b a) (line-none xs)

  led : (xs : Inlines) → are_normal false [] xs ≡ true → is_line_of k xs ≡ true → are_whole_inside xs ≡ true
      → anchors_stand_well xs ≡ true → begins_white xs ≡ false → all_keep any_id xs ≡ true → Led xs
  led no_inlines n h w t b a = (λ o. refl, λ e. absurd (true≢false e))
  led (inline (anchor id) xs) n h w t b a =
      let x = anchor id in
      let far = not (goes_on x (past_gaps xs)) in
      let p = and_parts (inline_keeps any_id x && not (begins_white xs) && far) (all_keep any_id xs) a in
      let q = and_parts (inline_keeps any_id x && not (begins_white xs)) far p.0 in
      let r = and_parts (inline_keeps any_id x) (not (begins_white xs)) q.0 in
      led xs (and_parts (is_normal false [] x && meets x xs) (are_normal false [] xs) n).1
      (and_parts (is_inline_of k x) (is_line_of k xs) h).1
      (and_parts (is_whole_inside x && is_apart x xs) (are_whole_inside xs) w).1
      (stand-parts false x xs t).1 (from-not (begins_white xs) r.1) p.1
  led (inline x xs) n h w t b a =
      let c = line-led false [] (inline x xs) n h w t b refl refl in
      (c.1, λ e. c.0)

  -- ---- paragraphs

  neat-parts : (xs : Inlines) → is_whole_line_of k xs ≡ true
      → (is_line_of k xs ≡ true) × (is_whole (behind_box xs) ≡ true) × (all_keep any_id xs ≡ true)
  neat-parts xs h =
      let ys : Inlines = behind_box xs in
      let m = and_parts (is_line_of k xs) (k.line xs) h in
      let o = and_parts (is_box_spaced xs && is_whole ys && has_bare_breaks ys) (all_keep any_id xs) (lines xs m.1) in
      let p = and_parts (is_box_spaced xs && is_whole ys) (has_bare_breaks ys) o.0 in
      (m.0, (and_parts (is_box_spaced xs) (is_whole ys) p.0).1, o.1)

  whole-parts : (xs : Inlines) → is_whole xs ≡ true
      → (are_whole_inside xs ≡ true) × (begins_white xs ≡ false)
  whole-parts xs h =
      let p = and_parts (are_whole_inside xs && not (begins_white xs)) (not (ends_white xs)) h in
      let q = and_parts (are_whole_inside xs) (not (begins_white xs)) p.0 in
      (q.0, from-not (begins_white xs) q.1)

  pub normal-led : (xs : Inlines) → is_normal_line xs ≡ true → anchors_stand_well xs ≡ true
      → is_whole_line_of k xs ≡ true → Led xs
  normal-led xs n t h =
      let e = (and_parts (are_whole xs) (are_normal false [] xs) n).1 in
      let p = neat-parts xs h in
      let w = whole-parts xs (subst (λ (ys : Inlines). is_whole ys ≡ true) (no-box xs e) p.1) in
      led xs e p.0 w.0 t w.1 p.2

  plain-led : (xs : Inlines) → is_normal_line xs ≡ true → anchors_stand_well xs ≡ true
      → is_whole_line_of k xs ≡ true → LedBehind xs
  plain-led xs n t h =
      let l = normal-led xs n t h in
      let same = no-box xs (and_parts (are_whole xs) (are_normal false [] xs) n).1 in
      (λ o. ap heading_keeps same ∙ l.0 o, l.1)

  -- behind the box and its space
  box-led : (d : Bool) (s : List ℕ) (xs : Inlines)
      → is_normal_item (inline (task d) (inline (text (space ∷ s)) xs)) ≡ true
      → anchors_stand_well (inline (task d) (inline (text (space ∷ s)) xs)) ≡ true
      → is_whole_line_of k (inline (task d) (inline (text (space ∷ s)) xs)) ≡ true
      → LedBehind (inline (task d) (inline (text (space ∷ s)) xs))
  box-led d [] xs n t h = (
    λ o. l.0 (ap (λ zs. in_order false (zs ++ things_of_line xs)) (sym nothing) ∙ o),
    λ e. shows-right (things_in (space ∷ [])) (things_of_line xs) (l.1 (stand-some xs stands filled)),
  )
    where
      ys : Inlines
      ys = inline (text (space ∷ [])) xs

      nothing : things_in (space ∷ []) ≡ []
      nothing = things-behind [] ∙ things-nil

      ends : Bool
      ends = not (last_passes ends_with_space ys)

      parts : ((true && ends) && not (last_passes is_break ys) ≡ true) × (are_normal false [] ys ≡ true)
      parts = and_parts ((true && ends) && not (last_passes is_break ys)) (are_normal false [] ys) n

      normal : are_normal false [] xs ≡ true
      normal = (and_parts (is_normal false [] (text (space ∷ [])) && meets (text (space ∷ [])) xs)
          (are_normal false [] xs) parts.1).1

      goes-on : ends ≡ true
      goes-on = (and_parts true ends (and_parts (true && ends) (not (last_passes is_break ys)) parts.0).0).1

      some : (zs : Inlines) → not (last_passes ends_with_space (inline (text (space ∷ [])) zs)) ≡ true
          → has_none zs ≡ false
      some no_inlines e = absurd (false≢true e)
      some (inline z zs) e = refl

      filled : has_none xs ≡ false
      filled = some xs goes-on

      stands : anchors_stand_well xs ≡ true
      stands = (stand-parts false (text (space ∷ [])) xs (stand-parts false (task d) ys t).1).1

      p : (is_line_of k (inline (task d) ys) ≡ true) × (is_whole xs ≡ true)
          × (all_keep any_id (inline (task d) ys) ≡ true)
      p = neat-parts (inline (task d) ys) h

      of-leaves : is_line_of k xs ≡ true
      of-leaves = (and_parts (is_inline_of k (text (space ∷ []))) (is_line_of k xs) p.0).1

      keep-rest : (x : Inline) (zs : Inlines) → all_keep any_id (inline x zs) ≡ true → all_keep any_id zs ≡ true
      keep-rest x zs e =
          (and_parts (inline_keeps any_id x && not (is_anchor x && begins_white zs) && not (goes_on x (past_gaps zs)))
          (all_keep any_id zs) e).1

      w : (are_whole_inside xs ≡ true) × (begins_white xs ≡ false)
      w = whole-parts xs p.1

      l : Led xs
      l = led xs normal of-leaves w.0 stands w.1
          (keep-rest (text (space ∷ [])) xs (keep-rest (task d) ys p.2))
  box-led d (c ∷ s) xs n t h = (
    λ o.
        let q = order-parts false (things_in (space ∷ c ∷ s)) (things_of_line xs) o in
        line-none xs (order-behind (passed false (things_in (space ∷ c ∷ s))) (things_of_line xs) shows q.1),
    λ e. shows-left (things_in (space ∷ c ∷ s)) (things_of_line xs) shows,
  )
    where
      ys : Inlines
      ys = inline (text (space ∷ c ∷ s)) xs

      ends : Bool
      ends = not (last_passes ends_with_space ys)

      normal : are_normal false [] ys ≡ true
      normal = (and_parts ((true && ends) && not (last_passes is_break ys)) (are_normal false [] ys) n).1

      is-text : is_text (space ∷ c ∷ s) ≡ true
      is-text = (and_parts (is_text (space ∷ c ∷ s)) (meets (text (space ∷ c ∷ s)) xs)
          (and_parts (is_text (space ∷ c ∷ s) && meets (text (space ∷ c ∷ s)) xs) (are_normal false [] xs)
          normal).0).0

      p : (is_line_of k (inline (task d) ys) ≡ true) × (is_whole (inline (text (c ∷ s)) xs) ≡ true)
          × (all_keep any_id (inline (task d) ys) ≡ true)
      p = neat-parts (inline (task d) ys) h

      all : list_all is_shown (chars (space ∷ c ∷ s)) ≡ true
      all = all-shown (chars (space ∷ c ∷ s))
          (and_parts (is_inline_of k (text (space ∷ c ∷ s))) (is_line_of k xs) p.0).0

      behind : list_all is_shown (chars (c ∷ s)) ≡ true
      behind = (and_parts (is_shown space) (list_all is_shown (chars (c ∷ s)))
          (sym (ap (list_all is_shown) (characters-behind-space (c ∷ s))) ∙ all)).1

      shows : Shows (things_in (space ∷ c ∷ s))
      shows = ap (passed false) (things-behind (c ∷ s))
          ∙ text-shows (c ∷ s) behind (tail-text c s is-text) (whole-parts (inline (text (c ∷ s)) xs) p.1).1

  task-led : (d : Bool) (xs : Inlines) → is_normal_item (inline (task d) xs) ≡ true
      → anchors_stand_well (inline (task d) xs) ≡ true → is_whole_line_of k (inline (task d) xs) ≡ true
      → LedBehind (inline (task d) xs)
  task-led d no_inlines n t h = absurd (false≢true n)
  task-led d (inline (text []) xs) n t h = absurd (false≢true n)
  task-led d (inline (text (c ∷ s)) xs) n t h =
      let ys = inline (text (c ∷ s)) xs in
      let p = and_parts ((c == space) && not (last_passes ends_with_space ys) && not (last_passes is_break ys))
      (are_normal false [] ys) n in
      let q = and_parts ((c == space) && not (last_passes ends_with_space ys)) (not (last_passes is_break ys)) p.0 in
      let e : c ≡ space = eqb-true c space (and_parts (c == space) (not (last_passes ends_with_space ys)) q.0).0 in
      subst (λ (b : ℕ). is_normal_item (inline (task d) (inline (text (b ∷ s)) xs)) ≡ true
      → anchors_stand_well (inline (task d) (inline (text (b ∷ s)) xs)) ≡ true
      → is_whole_line_of k (inline (task d) (inline (text (b ∷ s)) xs)) ≡ true
      → LedBehind (inline (task d) (inline (text (b ∷ s)) xs))) (sym e) (box-led d s xs) n t h
  task-led d (inline x xs) n t h = absurd (false≢true n)

  stood-led : (is_item : Bool) (xs : Inlines)
      → (if is_item then is_normal_item xs else is_normal_line xs) ≡ true → anchors_stand_well xs ≡ true
      → is_whole_line_of k xs ≡ true → LedBehind xs
  stood-led true no_inlines n t h = plain-led no_inlines n t h
  stood-led true (inline (task d) xs) n t h = task-led d xs n t h
  stood-led true (inline x xs) n t h = plain-led (inline x xs) n t h
  stood-led false xs n t h = plain-led xs n t h

  pub paragraph-led : (is_item : Bool) (xs : Inlines) → is_normal_paragraph is_item xs ≡ true
      → is_whole_line_of k xs ≡ true → LedBehind xs
  paragraph-led is_item xs n h = test (are_anchors xs) alone stood
    where
      line : Bool
      line = if is_item then is_normal_item xs else is_normal_line xs

      p : ((not (has_none xs) && line) ≡ true) × ((are_anchors xs || anchors_stand_well xs) ≡ true)
      p = and_parts (not (has_none xs) && line) (are_anchors xs || anchors_stand_well xs) n

      alone : are_anchors xs ≡ true → LedBehind xs
      alone e = (
        λ o. ap heading_keeps (anchors-no-box xs e) ∙ anchors-lead xs e,
        λ f. absurd (true≢false (sym e ∙ f)),
      )

      stood : are_anchors xs ≡ false → LedBehind xs
      stood e =
          stood-led is_item xs (and_parts (not (has_none xs)) line p.0).1
          (sym (ap (λ b. b || anchors_stand_well xs) e) ∙ p.1) h

  -- ---- cells

  pub cells-lead : (cells : List Inlines) → list_all is_normal_line cells ≡ true
      → list_all anchors_stand_well cells ≡ true → are_cells_of k cells ≡ true
      → in_order false (things_of_cells cells) ≡ true → cells_lead cells ≡ true
  cells-lead [] n t h o = refl
  cells-lead (no_inlines ∷ cs) n t h o =
      cells-lead cs (and_parts (is_normal_line no_inlines) (list_all is_normal_line cs) n).1
      (and_parts (anchors_stand_well no_inlines) (list_all anchors_stand_well cs) t).1
      (and_parts (is_whole_line_of k no_inlines) (are_cells_of k cs) h).1 o
  cells-lead (inline x xs ∷ cs) n t h o =
      let c = inline x xs in
      let stands = (and_parts (anchors_stand_well c) (list_all anchors_stand_well cs) t).0 in
      let l = normal-led c (and_parts (is_normal_line c) (list_all is_normal_line cs) n).0 stands
      (and_parts (is_whole_line_of k c) (are_cells_of k cs) h).0 in
      let p = order-parts false (things_of_line c) (things_of_cells cs) o in
      and_from (heading_keeps c) (list_all have_no_anchors cs) (l.0 p.0)
      (cells-none cs (order-behind (passed false (things_of_line c)) (things_of_cells cs)
      (l.1 (stand-some c stands refl)) p.1))

  pub header-shows : (cells : List Inlines) → list_all is_normal_line cells ≡ true
      → list_all anchors_stand_well cells ≡ true → are_cells_of k cells ≡ true
      → shows_header cells ≡ true → Shows (things_of_cells cells)
  header-shows [] n t h e = absurd (false≢true e)
  header-shows (no_inlines ∷ cs) n t h e =
      header-shows cs (and_parts (is_normal_line no_inlines) (list_all is_normal_line cs) n).1
      (and_parts (anchors_stand_well no_inlines) (list_all anchors_stand_well cs) t).1
      (and_parts (is_whole_line_of k no_inlines) (are_cells_of k cs) h).1 e
  header-shows (inline x xs ∷ cs) n t h e =
      let c = inline x xs in
      let stands = (and_parts (anchors_stand_well c) (list_all anchors_stand_well cs) t).0 in
      let l = normal-led c (and_parts (is_normal_line c) (list_all is_normal_line cs) n).0 stands
      (and_parts (is_whole_line_of k c) (are_cells_of k cs) h).0 in
      shows-left (things_of_line c) (things_of_cells cs) (l.1 (stand-some c stands refl))
