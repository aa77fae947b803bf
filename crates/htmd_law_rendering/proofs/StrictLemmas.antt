-- The trees of inlines stand where the strict grammar allows them.
use Rattle.std.proofs.Common.{◌≡◌, ℕ, Bool, true, false, not, ◌&&◌, List, [], ◌∷◌, ◌++◌, refl, sym, ap, ◌∙◌, codes}
use Rattle.std.proofs.Common.{Option, Some, None, map, subst}
use Rattle.std.specs.Bool.{MatchBool}
use Rattle.std.specs.Char.{to_ascii_lowercase}
use Rattle.std.specs.List.{list_all}
use Rattle.std.specs.Prelude.{⊤, ◌||◌}
use Rattle.std.specs.Str.{bytes_eq}
use Rattle.std.proofs.lemmas.Bool.{and_parts, and_from, or_parts, not-true}
use Rattle.htmd_lexical.proofs.BytesLemmas.{same_bytes}
use Rattle.htmd_lexical.proofs.Cases.{test}
use Rattle.htmd_lexical.specs.AttributePairs.{AttributePair}
use Rattle.htmd_lexical.specs.CharacterClasses.{is_among, is_tag_name}
use Rattle.htmd_lexical.specs.WhiteSpace.{is_ascii_white_space}
use Rattle.htmd_document.specs.Formats.{Format, Emphasis, Strong, Deleted, Superscript, Subscript, Inserted}
use Rattle.htmd_document.specs.Formats.{Underlined}
use Rattle.htmd_document.specs.Formats.{Marked, Small, Keyboard, Abbreviation}
use Rattle.htmd_document.specs.declared.document.Alignment.{Alignment}
use Rattle.htmd_document.specs.declared.document.Alignment.TheVariants as aligned
use Rattle.htmd_values.specs.Serialisation.{is_void}
use Rattle.htmd_grammar.specs.Nesting.{Context, parent_name, is_allowed, is_open}
use Rattle.htmd_grammar.specs.RawContent.{content_of, drops_line_feed, holds_text_alone}
use Rattle.htmd_grammar.proofs.NestingLemmas.{among_passes}
use Rattle.htmd_commonmark_reading.specs.Markup.{Inlines, no_inlines, letter, code, formatted, link, image}
use Rattle.htmd_commonmark_reading.specs.Markup.{line_break}
use Rattle.htmd_commonmark_reading.specs.Markup.{task, raw, plain_text}
use Rattle.htmd_law_rendering.specs.RawTags.{RawTag, opening, closing, breaking, unknown, raw_tag}
use Rattle.htmd_law_rendering.specs.RenderedTrees.{text_before, line_end, format_name, pairs_of_format, pairs_of_link}
use Rattle.htmd_law_rendering.specs.RenderedTrees.{pairs_of_image, pairs_of_box, pairs_of_alignment, Behind, Open}
use Rattle.htmd_law_rendering.specs.RenderedTrees.{opened, with_raw, inlines_open, inlines_trees}
use Rattle.htmd_law_rendering.specs.SpelledTrees.{SpelledForest, text, element, lone, section, none, more}
use Rattle.htmd_law_rendering.specs.SpelledTrees.{all_spelled}
use Rattle.htmd_law_rendering.specs.PlainReadings.{opened_names, names_with, unopened, are_paired, in_anchor}
use Rattle.htmd_law_rendering.specs.PlainReadings.{raw_is_strict, are_strict}
use Rattle.htmd_law_rendering.proofs.TagLemmas.{IsTreeName}
use Rattle.htmd_law_rendering.proofs.FittingLemmas.{FitPairs, FitsText, Fits}
use Rattle.htmd_law_rendering.proofs.RawNames.{raw_names}
use Rattle.htmd_law_rendering.proofs.RawLemmas.{IsRaw, raw-is, names_of}
use Rattle.htmd_law_rendering.proofs.RenderedLemmas.{nothing-left, all-opened, inlines-open}
use Rattle.htmd_law_rendering.proofs.PlaceLemmas.{TakesInlines, HasNoLink, takes, holds_inlines, format-holds}
use Rattle.htmd_law_rendering.proofs.PlaceLemmas.{format-no_link, format-allowed, code-allowed, img-allowed}
use Rattle.htmd_law_rendering.proofs.PlaceLemmas.{br-allowed}
use Rattle.htmd_law_rendering.proofs.PlaceLemmas.{input-allowed, a-allowed, raw-places}

-- ---- attributes

pub format-pairs : (f : Format) → FitPairs (pairs_of_format f)
format-pairs Emphasis = (tt, refl)
format-pairs Strong = (tt, refl)
format-pairs Deleted = (tt, refl)
format-pairs Superscript = (tt, refl)
format-pairs Subscript = (tt, refl)
format-pairs Inserted = (tt, refl)
format-pairs Underlined = (tt, refl)
format-pairs Marked = (tt, refl)
format-pairs Small = (tt, refl)
format-pairs Keyboard = (tt, refl)
format-pairs (Abbreviation title) = ((refl, refl, refl, tt), refl)

pub link-pairs : (address : List ℕ) (title : Option (List ℕ)) → FitPairs (pairs_of_link address title)
link-pairs address None = ((refl, refl, refl, tt), refl)
link-pairs address (Some s) = ((refl, refl, refl, (refl, refl, refl, tt)), refl)

pub image-pairs : (address : List ℕ) (title : Option (List ℕ)) (description : List ℕ)
    → FitPairs (pairs_of_image address title description)
image-pairs address None description = ((refl, refl, refl, (refl, refl, refl, tt)), refl)
image-pairs address (Some s) description = ((refl, refl, refl, (refl, refl, refl, (refl, refl, refl, tt))), refl)

pub box-pairs : (d : Bool) → FitPairs (pairs_of_box d)
box-pairs true = ((refl, refl, refl, (refl, refl, refl, (refl, refl, refl, tt))), refl)
box-pairs false = ((refl, refl, refl, (refl, refl, refl, tt)), refl)

pub alignment-pairs : (a : Alignment) → FitPairs (pairs_of_alignment a)
alignment-pairs aligned.None = (tt, refl)
alignment-pairs aligned.Left = ((refl, refl, refl, tt), refl)
alignment-pairs aligned.Center = ((refl, refl, refl, tt), refl)
alignment-pairs aligned.Right = ((refl, refl, refl, tt), refl)

format-tree_name : (f : Format) → IsTreeName (format_name f)
format-tree_name Emphasis = (refl, refl)
format-tree_name Strong = (refl, refl)
format-tree_name Deleted = (refl, refl)
format-tree_name Superscript = (refl, refl)
format-tree_name Subscript = (refl, refl)
format-tree_name Inserted = (refl, refl)
format-tree_name Underlined = (refl, refl)
format-tree_name Marked = (refl, refl)
format-tree_name Small = (refl, refl)
format-tree_name Keyboard = (refl, refl)
format-tree_name (Abbreviation title) = (refl, refl)

-- ---- texts

white-append : (s t : List ℕ) → list_all is_ascii_white_space s ≡ true
    → list_all is_ascii_white_space t ≡ true → list_all is_ascii_white_space (s ++ t) ≡ true
white-append [] t e f = f
white-append (b ∷ s) t e f =
    let p = and_parts (is_ascii_white_space b) (list_all is_ascii_white_space s) e in
    rw (p.0, white-append s t p.1 f) refl

-- ---- names

raw-holds : (n : List ℕ) → is_among raw_names n ≡ true → holds_inlines n ≡ true
raw-holds n e = among_passes holds_inlines raw_names n e refl

raw-named : (n : List ℕ) → is_among raw_names n ≡ true → IsTreeName n
raw-named n e = (
  among_passes is_tag_name raw_names n e refl,
  same_bytes (map to_ascii_lowercase n) n
      (among_passes (λ m. bytes_eq (map to_ascii_lowercase m) m) raw_names n e refl),
)

raw-whole : (n s : List ℕ) → is_among raw_names n ≡ true → content_of n s ≡ s
raw-whole n s e =
    let d = not-true (drops_line_feed n) (among_passes (λ m. not (drops_line_feed m)) raw_names n e refl) in
    rw d refl

abbrev AreRaw : List (List ℕ) → Type 0
AreRaw ns = list_all (is_among raw_names) ns ≡ true

-- what no tag has opened are such elements
unopened-raw : (xs : Inlines) (ns : List (List ℕ)) → unopened xs ≡ Some ns → AreRaw ns
unopened-raw no_inlines ns e = let x : [] ≡ ns = cc in subst AreRaw x refl
unopened-raw (letter c xs) ns e = unopened-raw xs ns e
unopened-raw (code s xs) ns e = unopened-raw xs ns e
unopened-raw (formatted f content xs) ns e =
    unopened-raw xs ns (all-opened (unopened content) (unopened xs) ns e).1
unopened-raw (link a t content xs) ns e =
    unopened-raw xs ns (all-opened (unopened content) (unopened xs) ns e).1
unopened-raw (image a t content xs) ns e = unopened-raw xs ns e
unopened-raw (line_break xs) ns e = unopened-raw xs ns e
unopened-raw (task d xs) ns e = unopened-raw xs ns e
unopened-raw (raw s xs) ns e = by_tag (raw_tag s) (unopened xs) (raw-is s) (λ ms f. unopened-raw xs ms f) e
  where
    by_tag : (r : RawTag) (left : Option (List (List ℕ))) → IsRaw s r
        → ((ms : List (List ℕ)) → left ≡ Some ms → AreRaw ms) → names_with r left ≡ Some ns → AreRaw ns
    by_tag r None k h e = absurd (cc)
    by_tag (opening n attributes) (Some []) k h e = absurd (cc)
    by_tag (opening n attributes) (Some (m ∷ ms)) k h e =
        test (bytes_eq m n)
        (λ t. let w = rw t at e in let x : ms ≡ ns = cc in
        subst AreRaw x (and_parts (is_among raw_names m) (list_all (is_among raw_names) ms) (h (m ∷ ms) refl)).1)
        (λ t. let w = rw t at e in absurd (cc))
    by_tag (closing n) (Some ms) k h e =
        let x : n ∷ ms ≡ ns = cc in
        subst AreRaw x (and_from (is_among raw_names n) (list_all (is_among raw_names) ms) k.1 (h ms refl))
    by_tag (breaking form) (Some ms) k h e = let x : ms ≡ ns = cc in subst AreRaw x (h ms refl)
    by_tag unknown (Some ms) k h e = absurd (cc)

pub behind-raw : (xs : Inlines) (rest : SpelledForest) (ns : List (List ℕ)) → unopened xs ≡ Some ns
    → AreRaw (names_of (inlines_open xs rest).behind)
behind-raw xs rest ns e = subst AreRaw (sym (inlines-open xs rest ns e).0) (unopened-raw xs ns e)

module _ (z : Bool) where
  -- a text before trees, where it may stand
  pub text-fits : (s : List ℕ) (ts : SpelledForest) (c : Context) → FitsText z c s → Fits z c ts
      → Fits z c (text_before s ts)
  text-fits [] ts c f h = h
  text-fits (b ∷ s) none c f h = (((λ e. let w = e in cc), f), tt, tt)
  text-fits (b ∷ s) (more (text u) ts) c f h = (
    ((λ e. let w = e in cc), (f.0, (λ p. white-append (b ∷ s) u (f.1 p) (h.0.1.1 p)))),
    h.1,
    h.2,
  )
  text-fits (b ∷ s) (more (element k n attributes ks) ts) c f h = (((λ e. let w = e in cc), f), tt, h)
  text-fits (b ∷ s) (more (lone n attributes u) ts) c f h = (((λ e. let w = e in cc), f), tt, h)
  text-fits (b ∷ s) (more (section rows) ts) c f h = (((λ e. let w = e in cc), f), tt, h)

  -- a line's end may stand wherever texts may
  pub line-fits : (ts : SpelledForest) (c : Context) → holds_text_alone z (parent_name c) ≡ false → Fits z c ts
      → Fits z c (line_end ts)
  line-fits ts c a h = text-fits (codes "\n") ts c (a, (λ p. refl)) h

  -- among inlines any text may
  pub inline-text : (s : List ℕ) (c : Context) → TakesInlines z c → FitsText z c s
  inline-text s c t = (t.not_alone, (λ p. let w : true ≡ false = sym p ∙ t.no_parts in absurd (cc)))

  -- ---- below raw tags

  takes-under : (ns : List (List ℕ)) (c : Context) → AreRaw ns → TakesInlines z c → TakesInlines z (ns ++ c)
  takes-under [] c r t = t
  takes-under (n ∷ ns) c r t =
      takes z n (ns ++ c) (raw-holds n (and_parts (is_among raw_names n) (list_all (is_among raw_names) ns) r).0)

  no_link-under : (ns : List (List ℕ)) (c : Context) → is_open (codes "a" ∷ []) ns ≡ false → HasNoLink c
      → HasNoLink (ns ++ c)
  no_link-under [] c e h = h
  no_link-under (n ∷ ns) c e h =
      let p = or_parts (is_among (codes "a" ∷ []) n) (is_open (codes "a" ∷ []) ns) e in
      rw (p.0, no_link-under ns c p.1 h) refl

  -- outside links and anchors none is open
  abbrev pub NoLinkUnless : Bool → Context → Type 0
  NoLinkUnless in_link c = MatchBool in_link ⊤ (HasNoLink c)

  unless-under : (in_link : Bool) (ns : List (List ℕ)) (c : Context) → NoLinkUnless in_link c
      → NoLinkUnless (in_link || is_open (codes "a" ∷ []) ns) (ns ++ c)
  unless-under true ns c h = tt
  unless-under false ns c h = test (is_open (codes "a" ∷ []) ns) (λ e. rw e tt) (λ e. rw e (no_link-under ns c e h))

  under_format : (f : Format) (in_link : Bool) (c : Context) → NoLinkUnless in_link c
      → NoLinkUnless in_link (format_name f ∷ c)
  under_format f true c h = tt
  under_format f false c h = format-no_link f c h

  outside_link : (in_link : Bool) (ns : List (List ℕ)) (c : Context)
      → not (in_link || is_open (codes "a" ∷ []) ns) ≡ true → NoLinkUnless in_link c → HasNoLink (ns ++ c)
  outside_link true ns c e h = absurd (cc)
  outside_link false ns c e h = no_link-under ns c (not-true (is_open (codes "a" ∷ []) ns) e) h

  raw-allowed : (n : List ℕ) (c : Context) → is_among raw_names n ≡ true → TakesInlines z c
      → (bytes_eq n (codes "a") ≡ true → HasNoLink c) → is_allowed z c n ≡ true
  raw-allowed n c e t l =
      let k = among_passes (λ m. bytes_eq m (codes "a") || is_allowed z c m) raw_names n e (raw-places z c t) in
      test (bytes_eq n (codes "a"))
      (λ q. ap (is_allowed z c) (same_bytes n (codes "a") q) ∙ a-allowed z c t (l q))
      (λ q. rw q at k)

  -- ---- inlines

  format-not-void : (f : Format) → is_void (format_name f) ≡ false
  unfolding is_void
  format-not-void Emphasis = refl
  format-not-void Strong = refl
  format-not-void Deleted = refl
  format-not-void Superscript = refl
  format-not-void Subscript = refl
  format-not-void Inserted = refl
  format-not-void Underlined = refl
  format-not-void Marked = refl
  format-not-void Small = refl
  format-not-void Keyboard = refl
  format-not-void (Abbreviation title) = refl

  format-content : (f : Format) (s : List ℕ) → content_of (format_name f) s ≡ s
  format-content Emphasis s = refl
  format-content Strong s = refl
  format-content Deleted s = refl
  format-content Superscript s = refl
  format-content Subscript s = refl
  format-content Inserted s = refl
  format-content Underlined s = refl
  format-content Marked s = refl
  format-content Small s = refl
  format-content Keyboard s = refl
  format-content (Abbreviation title) s = refl

  abbrev pub FitsBehind : Context → List Behind → Type 0
  FitsBehind c [] = ⊤
  FitsBehind c (b ∷ bs) = Fits z (names_of bs ++ c) b.trees × FitsBehind c bs

  -- each part fits below the elements that are still to be opened
  abbrev pub FitsOpen : Context → Open → Type 0
  FitsOpen c o = Fits z (names_of o.behind ++ c) o.first × FitsBehind c o.behind

  pub closed-fits : (o : Open) (c : Context) → names_of o.behind ≡ [] → FitsOpen c o → Fits z c o.first
  closed-fits o c e f = subst (λ ns. Fits z (ns ++ c) o.first) e f.0

  opened-fits : (k : Bool) (n : List ℕ) (attributes : List AttributePair) (first : SpelledForest)
      (behind : List Behind) (ms ns : List (List ℕ)) (c : Context) (s : List ℕ) → IsRaw s (opening n attributes)
      → names_of behind ≡ ms → opened_names n ms ≡ Some ns → AreRaw (names_of behind)
      → raw_is_strict k (opening n attributes) (Some ms) ≡ true → TakesInlines z c → NoLinkUnless k c
      → FitsOpen c (record { first = first; behind = behind }) → FitsOpen c (opened n attributes first behind)
  opened-fits k n attributes first [] [] ns c s r e f w h t o i = absurd (cc)
  opened-fits k n attributes first [] (m ∷ ms) ns c s r e f w h t o i = absurd (cc)
  opened-fits k n attributes first (b ∷ bs) [] ns c s r e f w h t o i = absurd (cc)
  opened-fits k n attributes first (b ∷ bs) (m ∷ ms) ns c s r e f w h t o i =
      test (bytes_eq m n)
      (λ q.
      let same : names_of bs ≡ ms = cc in
      let name : b.name ≡ n = (let x : b.name ≡ m = cc in x ∙ same_bytes m n q) in
      let raws = (and_parts (is_among raw_names b.name) (list_all (is_among raw_names) (names_of bs)) w).1 in
      let strict = subst (λ ks. (not (bytes_eq n (codes "a")) || not (k || is_open (codes "a" ∷ []) ks)) ≡ true)
      (sym same) h in (
        (
          (
            raw-allowed n (names_of bs ++ c) r.2 (takes-under (names_of bs) c raws t)
                (λ a. outside_link k (names_of bs) c (link-strict n k bs a strict) o),
            raw-named n r.2,
            (r.3, r.4),
            rw r.1 (
              raw-whole n (all_spelled first) r.2,
              subst (λ x. Fits z (x ∷ names_of bs ++ c) first) name i.0,
            ),
          ),
          tt,
          i.1.0,
        ),
        i.1.1,
      ))
      (λ q. let v = rw q at f in absurd (cc))
    where
      link-strict : (n : List ℕ) (k : Bool) (bs : List Behind) → bytes_eq n (codes "a") ≡ true
          → (not (bytes_eq n (codes "a")) || not (k || is_open (codes "a" ∷ []) (names_of bs))) ≡ true
          → not (k || is_open (codes "a" ∷ []) (names_of bs)) ≡ true
      link-strict n k bs a e = rw a at e

  raw-fits : (r : RawTag) (k : Bool) (o : Open) (left : Option (List (List ℕ))) (ns : List (List ℕ)) (c : Context)
      (s : List ℕ) → IsRaw s r → names_with r left ≡ Some ns → raw_is_strict k r left ≡ true
      → TakesInlines z c → NoLinkUnless k c
      → ((ms : List (List ℕ)) → left ≡ Some ms
      → FitsOpen c o × (names_of o.behind ≡ ms) × AreRaw (names_of o.behind))
      → FitsOpen c (with_raw r o)
  unfolding is_void
  raw-fits r k o None ns c s w e h t l i = absurd (cc)
  raw-fits (opening n attributes) k o (Some ms) ns c s w e h t l i =
      let j = i ms refl in
      opened-fits k n attributes o.first o.behind ms ns c s w j.1 e j.2 h t l j.0
  raw-fits (closing n) k o (Some ms) ns c s w e h t l i = let j = i ms refl in (tt, j.0)
  raw-fits (breaking form) k o (Some ms) ns c s w e h t l i =
      let j = i ms refl in
      let here = names_of o.behind ++ c in (
        (
          (br-allowed z here (takes-under (names_of o.behind) c j.2 t), (refl, refl), (tt, refl), refl),
          tt,
          j.0.0,
        ),
        j.0.1,
      )
  raw-fits unknown k o (Some ms) ns c s w e h t l i = absurd (cc)

  inlines-open-fit : (xs : Inlines) (k : Bool) (c : Context) (rest : SpelledForest) (ns : List (List ℕ))
      → unopened xs ≡ Some ns → are_strict k xs ≡ true → TakesInlines z c → NoLinkUnless k c
      → Fits z c rest → FitsOpen c (inlines_open xs rest)
  unfolding is_void
  inlines-open-fit no_inlines k c rest ns u s t o f = (f, tt)
  inlines-open-fit (letter b xs) k c rest ns u s t o f =
      let i = inlines-open-fit xs k c rest ns u s t o f in
      let d = inlines_open xs rest in
      let here = names_of d.behind ++ c in
      let under = takes-under (names_of d.behind) c (behind-raw xs rest ns u) t in
      (text-fits (b ∷ []) d.first here (inline-text (b ∷ []) here under) i.0, i.1)
  inlines-open-fit (code s xs) k c rest ns u e t o f =
      let i = inlines-open-fit xs k c rest ns u e t o f in
      let d = inlines_open xs rest in
      let here = names_of d.behind ++ c in
      let under = takes-under (names_of d.behind) c (behind-raw xs rest ns u) t in (
        (
          (
            code-allowed z here under,
            (refl, refl),
            (tt, refl),
            (
              refl,
              text-fits s none (codes "code" ∷ here)
                  (inline-text s (codes "code" ∷ here) (takes z (codes "code") here refl)) tt,
            ),
          ),
          tt,
          i.0,
        ),
        i.1,
      )
  inlines-open-fit (formatted g content xs) k c rest ns u e t o f =
      let v = all-opened (unopened content) (unopened xs) ns u in
      let p = and_parts (are_strict (k || in_anchor (unopened xs)) content) (are_strict k xs) e in
      let i = inlines-open-fit xs k c rest ns v.1 p.1 t o f in
      let d = inlines_open xs rest in
      let here = names_of d.behind ++ c in
      let under = takes-under (names_of d.behind) c (behind-raw xs rest ns v.1) t in
      let names : unopened xs ≡ Some (names_of d.behind) = v.1 ∙ ap Some (sym (inlines-open xs rest ns v.1).0) in
      let inner = inlines_open content none in
      let strict = subst (λ ms. are_strict (k || in_anchor ms) content ≡ true) names p.0 in
      let l = k || is_open (codes "a" ∷ []) (names_of d.behind) in
      let j = inlines-open-fit content l (format_name g ∷ here) none [] v.0 strict
      (takes z (format_name g) here (format-holds g))
      (under_format g l here (unless-under k (names_of d.behind) c o)) tt in (
        (
          (
            format-allowed z here under g,
            format-tree_name g,
            format-pairs g,
            rw (format-not-void g) (
              format-content g (all_spelled inner.first),
              closed-fits inner (format_name g ∷ here) (inlines-open content none [] v.0).0 j,
            ),
          ),
          tt,
          i.0,
        ),
        i.1,
      )
  inlines-open-fit (link a title content xs) k c rest ns u e t o f =
      let v = all-opened (unopened content) (unopened xs) ns u in
      let p = and_parts (not (k || in_anchor (unopened xs)) && are_strict true content) (are_strict k xs) e in
      let q = and_parts (not (k || in_anchor (unopened xs))) (are_strict true content) p.0 in
      let i = inlines-open-fit xs k c rest ns v.1 p.1 t o f in
      let d = inlines_open xs rest in
      let here = names_of d.behind ++ c in
      let under = takes-under (names_of d.behind) c (behind-raw xs rest ns v.1) t in
      let names : unopened xs ≡ Some (names_of d.behind) = v.1 ∙ ap Some (sym (inlines-open xs rest ns v.1).0) in
      let inner = inlines_open content none in
      let strict = subst (λ ms. not (k || in_anchor ms) ≡ true) names q.0 in
      let j = inlines-open-fit content true (codes "a" ∷ here) none [] v.0 q.1 (takes z (codes "a") here refl) tt
      tt in (
        (
          (
            a-allowed z here under (outside_link k (names_of d.behind) c strict o),
            (refl, refl),
            link-pairs a title,
            (refl, closed-fits inner (codes "a" ∷ here) (inlines-open content none [] v.0).0 j),
          ),
          tt,
          i.0,
        ),
        i.1,
      )
  inlines-open-fit (image a title content xs) k c rest ns u e t o f =
      let i = inlines-open-fit xs k c rest ns u e t o f in
      let d = inlines_open xs rest in
      let here = names_of d.behind ++ c in
      let under = takes-under (names_of d.behind) c (behind-raw xs rest ns u) t in (
        (
          (img-allowed z here under, (refl, refl), image-pairs a title (plain_text content), refl),
          tt,
          i.0,
        ),
        i.1,
      )
  inlines-open-fit (line_break xs) k c rest ns u e t o f =
      let i = inlines-open-fit xs k c rest ns u e t o f in
      let d = inlines_open xs rest in
      let here = names_of d.behind ++ c in
      let under = takes-under (names_of d.behind) c (behind-raw xs rest ns u) t in (
        ((br-allowed z here under, (refl, refl), (tt, refl), refl), tt, line-fits d.first here under.not_alone i.0),
        i.1,
      )
  inlines-open-fit (task b xs) k c rest ns u e t o f =
      let i = inlines-open-fit xs k c rest ns u e t o f in
      let d = inlines_open xs rest in
      let here = names_of d.behind ++ c in
      let under = takes-under (names_of d.behind) c (behind-raw xs rest ns u) t in (
        (
          (input-allowed z here under, (refl, refl), box-pairs b, refl),
          tt,
          text-fits (codes " ") d.first here (inline-text (codes " ") here under) i.0,
        ),
        i.1,
      )
  inlines-open-fit (raw s xs) k c rest ns u e t o f =
      let p = and_parts (raw_is_strict k (raw_tag s) (unopened xs)) (are_strict k xs) e in
      raw-fits (raw_tag s) k (inlines_open xs rest) (unopened xs) ns c s (raw-is s) u p.0 t o
      (λ ms v. (
        inlines-open-fit xs k c rest ms v p.1 t o f,
        (inlines-open xs rest ms v).0,
        behind-raw xs rest ms v,
      ))

  pub inlines-fit : (xs : Inlines) (c : Context) (rest : SpelledForest) → are_paired xs ≡ true
      → are_strict false xs ≡ true → TakesInlines z c → HasNoLink c → Fits z c rest
      → Fits z c (inlines_trees xs rest)
  inlines-fit xs c rest h s t o f =
      let u = nothing-left (unopened xs) h in
      closed-fits (inlines_open xs rest) c (inlines-open xs rest [] u).0 (inlines-open-fit xs false c rest [] u s t o f)

  -- inlines alone in an element
  pub alone-fit : (xs : Inlines) (c : Context) → are_paired xs ≡ true → are_strict false xs ≡ true
      → TakesInlines z c → HasNoLink c → Fits z c (inlines_trees xs none)
  alone-fit xs c h s t o = inlines-fit xs c none h s t o tt
