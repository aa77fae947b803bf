-- The trees of a line with the anchors that stand before what shows in them.
use Rattle.std.proofs.Common.{◌≡◌, ℕ, Bool, true, false, not, ◌&&◌, ◌||◌, cond, List, [], ◌∷◌}
use Rattle.std.proofs.Common.{◌++◌, map, refl, sym, ap}
use Rattle.std.proofs.Common.{◌∙◌, Option, None, arith, ◌≤◌, ◌+◌, subst}
use Rattle.std.specs.Str.{chars}
use Rattle.std.proofs.lemmas.Bool.{and_parts}
use Rattle.std.proofs.lemmas.List.{append-nil}
use Rattle.std.proofs.lemmas.List.Sums.{fold-append}
use Rattle.htmd_lexical.specs.AttributePairs.{AttributePair}
use Rattle.htmd_document.specs.AnchorIds.{ids_of_line}
use Rattle.htmd_document.specs.Documents.{text, code, formatted, link, image, anchor, line_break, task}
use Rattle.htmd_document.specs.Documents.{Inlines, no_inlines, inline}
use Rattle.htmd_document.specs.Formats.{Format, Emphasis, Strong, Deleted, Superscript, Subscript, Inserted, Underlined}
use Rattle.htmd_document.specs.Formats.{Marked, Small, Keyboard, Abbreviation}
use Rattle.htmd_document.specs.NormalInlines.{has_none, is_text}
use Rattle.htmd_flow.specs.Flows.{node_of}
use Rattle.htmd_flow.specs.Paragraphs.{Writing, fed, fed_all}
use Rattle.htmd_flow.specs.Parts as part
use Rattle.htmd_flow.specs.Parts.{Around, Part}
use Rattle.htmd_shown.specs.Attributes.{in_line}
use Rattle.htmd_shown.specs.declared.facts.Facts.{Facts}
use Rattle.htmd_shown.specs.declared.role.Role.{Role}
use Rattle.htmd_shown.specs.declared.role.Role.TheVariants as role
use Rattle.htmd_shown.specs.Facts.{made, leaves_among}
use Rattle.htmd_shown.specs.Roles.{is_verbatim}
use Rattle.htmd_shown.specs.Showings.{image_shows}
use Rattle.htmd_shown.specs.SimpleTrees.{Simple, Simples, none, more, element}
use Rattle.htmd_shown.specs.SimpleTrees as simple
use Rattle.htmd_shown.specs.Spaces.{is_blank_text}
use Rattle.htmd_law_returning.proofs.BareLemmas.{are_bare}
use Rattle.htmd_law_returning.proofs.FlowAnchors.{firsts_show, all-local-flow}
use Rattle.htmd_law_returning.proofs.FormatLemmas.{format_role, place}
use Rattle.htmd_law_returning.proofs.InlineParts.{gives_at}
use Rattle.htmd_law_returning.proofs.LocalAnchors.{local, local_all, pending, pending_all, is_place, own_id, put_if}
use Rattle.htmd_law_returning.proofs.LocalAnchors.{every, waits, are_led, is_nameless, are_nameless}
use Rattle.htmd_law_returning.proofs.LineFormLemmas.{IsWhole}
use Rattle.htmd_law_returning.proofs.AddressLemmas.{line-stays}
use Rattle.htmd_law_returning.proofs.TreesLemmas.{pairs_of_anchor}
use Rattle.htmd_law_returning.proofs.PlacedTrees.{ArePlaces, place-is, all-bare-nameless}
use Rattle.htmd_law_returning.proofs.SoundTrees.{IsSoundLine}
use Rattle.htmd_document_of_tree.specs.Leadings.{leadings_among, is_led_to, have_leaf}
use Rattle.htmd_document_of_tree.specs.Seen.{one_if}
use Rattle.htmd_document_of_tree.specs.Targets.{targets_among}
use Rattle.htmd_law_returning.specs.SettledDocuments.{is_one_line}
use Rattle.htmd_law_returning.specs.WholeLines.{begins_white}
use lib.Utf8.{encode}

-- ---- nothing waits

-- with nothing before it, it is this, and nothing waits behind it
abbrev pub IsLocal : Simple → Simple → Type 0
IsLocal t u = (local [] t ≡ u) × (pending [] t ≡ [])

leaf-local : (b : Bool) (t : Simple) → (put_if b [] t ≡ t) × (waits b [] ≡ [])
leaf-local true (simple.text s) = (refl, refl)
leaf-local true (simple.image a p) = (refl, refl)
leaf-local true (simple.formula s b p) = (refl, refl)
leaf-local true (simple.embedded n s t p f) = (ap (simple.embedded n s t p) (append-nil f), refl)
leaf-local true (simple.anchor id) = (refl, refl)
leaf-local true (element id r facts p c) = (refl, refl)
leaf-local false t = (refl, refl)

pub text-local : (s : List ℕ) → IsLocal (simple.text s) (simple.text s)
text-local s = leaf-local (not (is_blank_text s)) (simple.text s)

pub image-local : (a : Option (List ℕ)) (p : List AttributePair) → IsLocal (simple.image a p) (simple.image a p)
image-local a p = leaf-local (image_shows a p) (simple.image a p)

pub code-local : (id : ℕ) (facts : Facts) (s : List ℕ)
    → IsLocal (element id role.Code facts [] (more (simple.text s) none))
    (element id role.Code facts [] (more (simple.text s) none))
code-local id facts s =
    (ap (λ t. element id role.Code facts [] (more t none)) (text-local s).0, (text-local s).1)

-- an element that is no place
pub element-local : (id : ℕ) (r : Role) (facts : Facts) (p : List AttributePair) (content : Simples)
    → is_verbatim r ≡ false → is_place (element id r facts p content) ≡ false → pending_all [] content ≡ []
    → IsLocal (element id r facts p content) (element id r facts p (local_all [] content))
element-local id r facts p content v h e = rw (v, h) (refl, e)

pub more-local : (t u : Simple) (ts : Simples) → IsLocal t u
    → (local_all [] (more t ts) ≡ more u (local_all [] ts)) × (pending_all [] (more t ts) ≡ pending_all [] ts)
more-local t u ts h = (
  ap (λ v. more v (local_all (pending [] t) ts)) h.0 ∙ ap (λ ids. more u (local_all ids ts)) h.1,
  ap (λ ids. pending_all ids ts) h.1,
)

pub format-placeless : (id : ℕ) (f : Format) (facts : Facts) (p : List AttributePair) (content : Simples)
    → is_place (element id (format_role f) facts p content) ≡ false
format-placeless id Emphasis facts p content = refl
format-placeless id Strong facts p content = refl
format-placeless id Deleted facts p content = refl
format-placeless id Superscript facts p content = refl
format-placeless id Subscript facts p content = refl
format-placeless id Inserted facts p content = refl
format-placeless id Underlined facts p content = refl
format-placeless id Marked facts p content = refl
format-placeless id Small facts p content = refl
format-placeless id Keyboard facts p content = refl
format-placeless id (Abbreviation title) facts p content = refl

-- ---- anchors come first

nameless-led : (ts : Simples) → are_nameless ts ≡ true → are_led ts ≡ true
nameless-led none h = refl
nameless-led (more t ts) h =
    either (is_place t) (nameless-led ts (and_parts (is_nameless t) (are_nameless ts) h).1) h
  where
    either : (b : Bool) → are_led ts ≡ true → (is_nameless t && are_nameless ts) ≡ true
        → cond b (are_led ts) (is_nameless t && are_nameless ts) ≡ true
    either true e f = e
    either false e f = f

pub bare-led : (ts : Simples) → are_bare ts ≡ true → are_led ts ≡ true
bare-led ts h = nameless-led ts (all-bare-nameless ts h).0

pub place-id : (id : ℕ) (s : List ℕ) → is_one_line s ≡ true → is_text s ≡ true
    → own_id (made id role.Target (pairs_of_anchor s) none) ≡ s ∷ []
unfolding chars encode
place-id id s h e =
    ap (λ b. cond b (in_line s ∷ []) []) (place-is id s h e) ∙ ap (λ u. u ∷ []) (line-stays s h)

pub place-led : (id : ℕ) (s : List ℕ) (ts : Simples) → is_one_line s ≡ true → is_text s ≡ true
    → are_led ts ≡ true → are_led (more (made id role.Target (pairs_of_anchor s) none) ts) ≡ true
place-led id s ts h e k =
    let t : Simple = made id role.Target (pairs_of_anchor s) none in
    ap (λ b. cond b (are_led ts) (is_nameless t && are_nameless ts)) (place-is id s h e) ∙ k

pub place-counted : (id k : ℕ) (p : List AttributePair) (ts : Simples) → leaves_among ts ≤ k
    → leaves_among (more (made id role.Target p none) ts) ≤ 1 + k
place-counted id k p ts h = omega (arith, h)

-- the first leaf of a format
pub format-first : (id : ℕ) (f : Format) (facts : Facts) (p : List AttributePair) (content ts : Simples)
    → firsts_show content ≡ true → firsts_show (more (element id (format_role f) facts p content) ts) ≡ true
format-first id Emphasis facts p content ts h = h
format-first id Strong facts p content ts h = h
format-first id Deleted facts p content ts h = h
format-first id Superscript facts p content ts h = h
format-first id Subscript facts p content ts h = h
format-first id Inserted facts p content ts h = h
format-first id Underlined facts p content ts h = h
format-first id Marked facts p content ts h = h
format-first id Small facts p content ts h = h
format-first id Keyboard facts p content ts h = h
format-first id (Abbreviation title) facts p content ts h = h

-- a text that is blank where the other is
pub sound-ending : (s t : List ℕ) (xs : Inlines) (ts : Simples) → is_blank_text s ≡ is_blank_text t
    → IsSoundLine xs (more (simple.text t) ts) → IsSoundLine xs (more (simple.text s) ts)
sound-ending s t xs ts e own =
    let same : one_if (not (is_blank_text t)) ≡ one_if (not (is_blank_text s)) = ap (λ b. one_if (not b)) (sym e) in
    record {
      placed = record {
        marked = own.placed.marked;
        right = own.placed.right;
        places = λ n. subst (λ k. ArePlaces (targets_among every None (n + k) ts) (ids_of_line xs)) same
            (own.placed.places n);
      };
      leads = λ around beside id m l n i led.
          subst (λ k. is_led_to (leadings_among (record around { seen = around.seen + k }) beside ts) id m ≡ true)
          same
          (own.leads around beside id m l n i led);
      leaf = λ is_rich to_part beside seen. ap (λ b. not b || have_leaf is_rich to_part beside ts) e
          ∙ own.leaf is_rich to_part beside seen;
    }

-- ---- what waits before

module _ (is_rich : Bool) where
  -- with these before them they give places, and then these parts; and none waits
  pub record AreBehind (ids : List (List ℕ)) (around : List Around) (ts : Simples) (ps : List Part) : Type 0 where
    pub gives : (flat : Bool) (n : ℕ) (w : Writing)
        → fed_all w (gives_at is_rich flat n around (local_all ids ts)) ≡ fed_all w (map part.place ids ++ ps)
    pub waits : pending_all ids ts ≡ []

  -- where the first leaf shows
  pub first-behind : (ids : List (List ℕ)) (around : List Around) (ts : Simples) (ps : List Part)
      → firsts_show ts ≡ true → AreBehind [] around ts ps → AreBehind ids around ts ps
  first-behind ids around ts ps h own =
      let all = all-local-flow ids ts h in
      record {
        gives = λ flat n w. ap (fed_all w) (all.0 (place flat is_rich n around))
            ∙ (fold-append fed w (map part.place ids) (gives_at is_rich flat n around (local_all [] ts))
            ∙ (own.gives flat n (fed_all w (map part.place ids))
            ∙ sym (fold-append fed w (map part.place ids) ps)));
        waits = all.1 ∙ own.waits;
      }

  place-gives : (flat : Bool) (n : ℕ) (around : List Around) (id : ℕ) (facts : Facts) (p : List AttributePair)
      (ts : Simples)
      → gives_at is_rich flat n around (more (element id role.Target facts p none) ts)
      ≡ gives_at is_rich flat n around ts
  unfolding node_of
  place-gives flat n around id facts p ts = refl

  places-both : (ids : List (List ℕ)) (s : List ℕ) (ps : List Part)
      → map part.place (ids ++ s ∷ []) ++ ps ≡ map part.place ids ++ part.place s ∷ ps
  places-both [] s ps = refl
  places-both (id ∷ ids) s ps = ap (λ qs. part.place id ∷ qs) (places-both ids s ps)

  -- one more
  pub place-behind : (ids : List (List ℕ)) (around : List Around) (s : List ℕ) (id : ℕ) (facts : Facts)
      (p : List AttributePair) (ts : Simples) (ps : List Part)
      → own_id (element id role.Target facts p none) ≡ s ∷ []
      → AreBehind (ids ++ s ∷ []) around ts ps
      → AreBehind ids around (more (element id role.Target facts p none) ts) (part.place s ∷ ps)
  place-behind ids around s id facts p ts ps e own =
      let t : Simple = element id role.Target facts p none in
      record {
        gives = λ flat n w. ap (λ js. fed_all w (gives_at is_rich flat n around (more t (local_all (ids ++ js) ts))))
            e
            ∙ (ap (fed_all w) (place-gives flat n around id facts p (local_all (ids ++ s ∷ []) ts))
            ∙ (own.gives flat n w ∙ ap (fed_all w) (places-both ids s ps)));
        waits = ap (λ js. pending_all (ids ++ js) ts) e ∙ own.waits;
      }

-- ---- a line begins with what shows

pub whole-opens : (xs : Inlines) → IsWhole xs → (has_none xs || begins_white xs) ≡ false
whole-opens no_inlines h = h.some
whole-opens (inline (text s) xs) h = h.begins
whole-opens (inline (code s) xs) h = refl
whole-opens (inline (formatted f c) xs) h = refl
whole-opens (inline (link a t c) xs) h = refl
whole-opens (inline (image a t d) xs) h = refl
whole-opens (inline (anchor id) xs) h = refl
whole-opens (inline line_break xs) h = h.starts
whole-opens (inline (task d) xs) h = refl
