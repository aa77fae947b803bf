-- What is known of the nodes of a line: no table and no `pre` is among them, and something shows.
use Rattle.std.proofs.Common.{◌≡◌, ℕ, ◌+◌, min, Bool, true, false, not, ◌&&◌, ◌||◌, List, []}
use Rattle.std.proofs.Common.{◌∷◌, refl, ap, ◌∙◌}
use Rattle.std.specs.Str.{chars}
use Rattle.std.proofs.lemmas.Bool.{and_parts}
use Rattle.std.specs.List.{list_all}
use Rattle.htmd_lexical.specs.AttributePairs.{AttributePair}
use Rattle.htmd_lexical.proofs.Cases.{test}
use Rattle.htmd_lexical.specs.CharacterClasses.{is_empty}
use Rattle.htmd_document.specs.Documents.{Inline, text, code, formatted, link, image, anchor, line_break, task}
use Rattle.htmd_document.specs.Documents.{Inlines, no_inlines, inline}
use Rattle.htmd_document.specs.Formats.{Format, Emphasis, Strong, Deleted, Superscript, Subscript, Inserted, Underlined}
use Rattle.htmd_document.specs.Formats.{Marked, Small, Keyboard, Abbreviation}
use Rattle.htmd_document.specs.NormalInlines.{is_text, is_trimmed, is_normal, are_normal, is_break, is_anchor}
use Rattle.htmd_shown.specs.Facts.{made, pres, pres_among}
use Rattle.htmd_shown.specs.Kinds.{has_table, have_table}
use Rattle.htmd_shown.specs.Showings.{shows, show}
use Rattle.htmd_shown.specs.SimpleTrees.{Simple, Simples, none, more}
use Rattle.htmd_shown.specs.Spaces.{is_blank_text}
use Rattle.htmd_shown.specs.declared.role.Role.TheVariants as role
use Rattle.htmd_shown.specs.Spaces.{is_white}
use Rattle.htmd_law_returning.specs.SettledDocuments.{is_plain_text, begins_in_white}
use Rattle.htmd_law_returning.specs.WholeLines.{begins_white_text, ends_white_text}
use Rattle.htmd_law_returning.specs.NoAnchors.{have_no_anchors}
use Rattle.htmd_law_returning.proofs.BareLemmas.{are_bare}
use Rattle.htmd_law_returning.proofs.FormatLemmas.{format_role}
use Rattle.htmd_law_returning.proofs.HeldLemmas.{is_held, are_held, are_black_inside}
use Rattle.htmd_law_returning.proofs.LineFormLemmas.{IsWhole, IsFormat, format-normal, IsLink, link-normal, normal-one}
use Rattle.htmd_law_returning.proofs.LineFormLemmas.{settled-one, whole-after-anchor}
use Rattle.htmd_law_returning.proofs.TextLemmas.{IsLine, text-line}
use Rattle.htmd_law_returning.proofs.StartLemmas.{false-true, true-false, from-not}

abbrev mutual
  -- a line begins with what shows, or with anchors before that
  pub is_seen : Inline → Bool
  is_seen (text s) = not (is_blank_text s)
  is_seen (code s) = not (is_blank_text s)
  is_seen (formatted f content) = begins_seen content
  is_seen (link address title content) = begins_seen content
  is_seen (image address title description) = true
  is_seen x = false

  pub begins_seen : Inlines → Bool
  begins_seen no_inlines = false
  begins_seen (inline x rest) = is_seen x || (is_anchor x && begins_seen rest)

-- something in the line shows, before a break
abbrev pub goes_seen : Inlines → Bool
goes_seen no_inlines = false
goes_seen (inline x rest) = is_seen x || (not (is_break x) && goes_seen rest)

pub record AreInLine (xs : Inlines) (ts : Simples) : Type 0 where
  pub tableless : have_table ts ≡ false
  pub preless : pres_among ts ≡ 0
  pub shows : begins_seen xs ≡ true → show false ts ≡ true
  pub goes : goes_seen xs ≡ true → show false ts ≡ true
  -- also in a heading
  pub bold : begins_seen xs ≡ true → show true ts ≡ true

-- where it begins with what shows
pub record AreLineTrees (xs : Inlines) (ts : Simples) : Type 0 where
  pub tableless : have_table ts ≡ false
  pub preless : pres_among ts ≡ 0
  pub shows : show false ts ≡ true
  pub bare : have_no_anchors xs ≡ true → are_bare ts ≡ true

pub seen-trees : {xs : Inlines} {ts : Simples} → AreInLine xs ts → begins_seen xs ≡ true
    → (have_no_anchors xs ≡ true → are_bare ts ≡ true) → AreLineTrees xs ts
seen-trees own e bare = record {
  tableless = own.tableless;
  preless = own.preless;
  shows = own.shows e;
  bare = bare;
}

pub none-in-line : AreInLine no_inlines none
none-in-line = record {
  tableless = refl;
  preless = refl;
  shows = λ e. false-true e;
  goes = λ e. false-true e;
  bold = λ e. false-true e;
}

pub more-in-line : (x : Inline) (xs : Inlines) (tree : Simple) (ts : Simples)
    → has_table tree ≡ false → pres tree ≡ 0 → is_anchor x ≡ false
    → (is_seen x ≡ true → shows false tree ≡ true) → (is_seen x ≡ true → shows true tree ≡ true)
    → AreInLine xs ts
    → AreInLine (inline x xs) (more tree ts)
more-in-line x xs tree ts t p a s o rest = record {
  tableless = ap (λ b. b || have_table ts) t ∙ rest.tableless;
  preless = ap (λ k. min 2 (k + pres_among ts)) p ∙ ap (λ k. min 2 (0 + k)) rest.preless;
  shows = λ e. ap (λ b. b || show false ts) (s (own-seen (is_seen x) (is_anchor x) (begins_seen xs) a e));
  goes = λ e. test (is_seen x) (λ h. ap (λ b. b || show false ts) (s h))
      (λ h. ap (λ b. shows false tree || b) (rest.goes (later-seen (is_seen x) (is_break x) (goes_seen xs) h e))
      ∙ or-true (shows false tree));
  bold = λ e. ap (λ b. b || show true ts) (o (own-seen (is_seen x) (is_anchor x) (begins_seen xs) a e));
}
  where
    later-seen : (a b c : Bool) → a ≡ false → (a || (not b && c)) ≡ true → c ≡ true
    later-seen true b c h e = true-false h
    later-seen false true c h e = false-true e
    later-seen false false c h e = e

    or-true : (b : Bool) → (b || true) ≡ true
    or-true true = refl
    or-true false = refl

    own-seen : (a b c : Bool) → b ≡ false → (a || (b && c)) ≡ true → a ≡ true
    own-seen true b c h e = refl
    own-seen false true c h e = true-false h
    own-seen false false c h e = e

-- an anchor shows as nothing
pub anchor-in-line : (s : List ℕ) (xs : Inlines) (id : ℕ) (attributes : List AttributePair) (ts : Simples)
    → AreInLine xs ts
    → AreInLine (inline (anchor s) xs) (more (made id role.Target attributes none) ts)
anchor-in-line s xs id attributes ts rest = record {
  tableless = rest.tableless;
  preless = ap (λ k. min 2 (0 + k)) rest.preless;
  shows = rest.shows;
  goes = rest.goes;
  bold = rest.bold;
}

-- behind a break stand nodes with a line's end before them or without
pub break-in-line : (xs : Inlines) (id : ℕ) (us : Simples) → have_table us ≡ false → pres_among us ≡ 0
    → AreInLine (inline line_break xs) (more (made id role.LineBreak [] none) us)
break-in-line xs id us t p = record {
  tableless = t;
  preless = ap (λ k. min 2 (0 + k)) p;
  shows = λ e. false-true e;
  goes = λ e. false-true e;
  bold = λ e. false-true e;
}

pub format-preless : (id : ℕ) (f : Format) (attributes : List AttributePair) (content : Simples)
    → pres_among content ≡ 0 → pres (made id (format_role f) attributes content) ≡ 0
format-preless id Emphasis attributes content h = h
format-preless id Strong attributes content h = h
format-preless id Deleted attributes content h = h
format-preless id Superscript attributes content h = h
format-preless id Subscript attributes content h = h
format-preless id Inserted attributes content h = h
format-preless id Underlined attributes content h = h
format-preless id Marked attributes content h = h
format-preless id Small attributes content h = h
format-preless id Keyboard attributes content h = h
format-preless id (Abbreviation title) attributes content h = h

pub format-seen : (id : ℕ) (f : Format) (attributes : List AttributePair) (content : Simples)
    → show false content ≡ true → shows false (made id (format_role f) attributes content) ≡ true
format-seen id Emphasis attributes content h = h
format-seen id Strong attributes content h = h
format-seen id Deleted attributes content h = h
format-seen id Superscript attributes content h = h
format-seen id Subscript attributes content h = h
format-seen id Inserted attributes content h = h
format-seen id Underlined attributes content h = h
format-seen id Marked attributes content h = h
format-seen id Small attributes content h = h
format-seen id Keyboard attributes content h = h
format-seen id (Abbreviation title) attributes content h = h

pub format-bold : (id : ℕ) (f : Format) (attributes : List AttributePair) (content : Simples)
    → show true content ≡ true → shows true (made id (format_role f) attributes content) ≡ true
format-bold id Emphasis attributes content h = h
format-bold id Strong attributes content h = h
format-bold id Deleted attributes content h = h
format-bold id Superscript attributes content h = h
format-bold id Subscript attributes content h = h
format-bold id Inserted attributes content h = h
format-bold id Underlined attributes content h = h
format-bold id Marked attributes content h = h
format-bold id Small attributes content h = h
format-bold id Keyboard attributes content h = h
format-bold id (Abbreviation title) attributes content h = h

-- ---- a settled line begins with what shows

filled-text : (cs : List ℕ) → begins_white_text cs ≡ false → is_empty cs ≡ false
    → list_all is_white cs ≡ false
filled-text [] b e = true-false e
filled-text (c ∷ cs) b e = ap (λ x. x && list_all is_white cs) b

text-seen : (s : List ℕ) → is_plain_text s ≡ true → is_text s ≡ true → begins_white_text (chars s) ≡ false
    → not (is_blank_text s) ≡ true
text-seen s p h b = let l : IsLine s = text-line s p h in ap not (filled-text (chars s) b l.some)

mutual
  pub line-seen : (xs : Inlines) (b : Bool) (fs : List Format) → IsWhole xs → are_normal b fs xs ≡ true
      → are_held xs ≡ true → begins_seen xs ≡ true
  line-seen no_inlines b fs whole normal held = true-false whole.some
  line-seen (inline x xs) b fs whole normal held =
      let good = normal-one b fs x xs normal in
      let own = settled-one x xs held in
      test (is_anchor x)
      (λ a. either (is_seen x) (is_anchor x) (begins_seen xs) a
      (line-seen xs b fs (whole-after-anchor x xs a own.followed whole.ends whole.closes) good.rest own.rest))
      (λ a. ap (λ c. c || (is_anchor x && begins_seen xs))
      (one-seen x b fs a whole.begins whole.starts good.own own.own))
    where
      either : (a b c : Bool) → b ≡ true → c ≡ true → (a || (b && c)) ≡ true
      either true b c h e = refl
      either false true c h e = e
      either false false c h e = false-true h

  pub one-seen : (x : Inline) (b : Bool) (fs : List Format) → is_anchor x ≡ false → begins_in_white x ≡ false
      → is_break x ≡ false
      → is_normal b fs x ≡ true → is_held x ≡ true → is_seen x ≡ true
  one-seen (text s) b fs other white breaks normal held = text-seen s held normal white
  one-seen (code s) b fs other white breaks normal held =
      let own = and_parts (is_plain_text s && not (begins_white_text (chars s))) (not (ends_white_text (chars s)))
      held in
      let first = and_parts (is_plain_text s) (not (begins_white_text (chars s))) own.0 in
      text-seen s first.0 (and_parts (is_text s) (is_trimmed s) normal).0
      (from-not (begins_white_text (chars s)) first.1)
  one-seen (formatted f c) b fs other white breaks normal held =
      let own = and_parts (are_black_inside c) (are_held c) held in
      let g : IsFormat b fs f c = format-normal b fs f c normal own.0 in
      line-seen c b (f ∷ fs) g.whole g.normal own.1
  one-seen (link a t c) b fs other white breaks normal held =
      let g : IsLink b fs a t c = link-normal b fs a t c normal held in
      line-seen c true fs g.whole g.normal g.settled
  one-seen (image a t d) b fs other white breaks normal held = refl
  one-seen (anchor id) b fs other white breaks normal held = true-false other
  one-seen line_break b fs other white breaks normal held = true-false breaks
  one-seen (task d) b fs other white breaks normal held = false-true held

first : (a b : Bool) → (a || false) ≡ true → (a || b) ≡ true
first true b h = refl
first false b h = false-true h

-- so does what begins with what shows
pub begun-goes : (xs : Inlines) → begins_seen xs ≡ true → goes_seen xs ≡ true
begun-goes no_inlines h = h
begun-goes (inline (anchor id) xs) h = begun-goes xs h
begun-goes (inline (text s) xs) h = first (not (is_blank_text s)) (goes_seen xs) h
begun-goes (inline (code s) xs) h = first (not (is_blank_text s)) (goes_seen xs) h
begun-goes (inline (formatted f content) xs) h = first (begins_seen content) (goes_seen xs) h
begun-goes (inline (link address title content) xs) h = first (begins_seen content) (goes_seen xs) h
begun-goes (inline (image address title description) xs) h = refl
begun-goes (inline line_break xs) h = false-true h
begun-goes (inline (task d) xs) h = false-true h
