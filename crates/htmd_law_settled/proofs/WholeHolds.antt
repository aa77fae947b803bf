-- A line that is whole by types is whole by tests, and has no white space beside breaks.
use Rattle.std.proofs.Common.{◌≡◌, ℕ, Bool, true, false, not, ◌&&◌, List, [], ◌∷◌, refl, sym, ap, ◌∙◌, subst}
use Rattle.std.specs.Prelude.{cond, ◌||◌}
use Rattle.std.specs.Str.{chars}
use Rattle.std.proofs.lemmas.Bool.{and_from, false≢true}
use Rattle.htmd_lexical.specs.Characters.{space}
use Rattle.htmd_lexical.specs.CharacterClasses.{first_is}
use Rattle.htmd_lexical.proofs.Cases.{test}
use Rattle.htmd_document.specs.Documents.{Inline, text, code, formatted, link, anchor, line_break, task, Inlines}
use Rattle.htmd_document.specs.Documents.{no_inlines, inline}
use Rattle.htmd_document.specs.NormalInlines.{is_anchor}
use Rattle.htmd_law_returning.specs.LastingAnchors.{past_gaps, goes_on}
use Rattle.htmd_law_returning.specs.WholeLines.{ends_white_text, begins_white, ends_white, is_gap, is_same_around}
use Rattle.htmd_law_returning.specs.WholeLines.{is_apart, is_whole_inside, are_whole_inside, is_whole}
use Rattle.htmd_law_returning.proofs.BoxLemmas.{characters-behind-space}
use Rattle.htmd_law_settled.proofs.LineShapes.{BlackStart, BlackEnd}
use Rattle.htmd_law_settled.proofs.LineShapes.{Starts, Ends, Apart, BesideFirst, ShapedInline, Shaped, Whole}
use Rattle.htmd_law_settled.proofs.BoxShapes.{begins-black, ends-black}
use Rattle.htmd_law_settled.specs.BareBreaks.{is_bare_inside, has_bare_breaks}
use Rattle.htmd_law_returning.specs.LastingAnchors.{inline_keeps, all_keep}
use Rattle.htmd_law_settled.specs.NeatLeaves.{any_id}
use Rattle.htmd_law_settled.specs.NeatLeaves.{is_box_spaced, is_neat_line}
use Rattle.htmd_law_returning.specs.SettledDocuments.{is_white_at_break, behind_box}

starts-hold : (xs : Inlines) → Starts xs → begins_white xs ≡ false
starts-hold no_inlines h = refl
starts-hold (inline (text s) xs) h = begins-black s h
starts-hold (inline line_break xs) h = absurd h
starts-hold (inline x xs) h = refl

ends-hold : (xs : Inlines) → Ends xs → ends_white xs ≡ false
ends-hold no_inlines h = refl
ends-hold (inline (text s) no_inlines) h = ends-black s h
ends-hold (inline line_break no_inlines) h = absurd h
ends-hold (inline x no_inlines) h = refl
ends-hold (inline x (inline y ys)) h = ends-hold (inline y ys) h

-- what is passed is no format
passed-plain : (x z : Inline) → (is_gap z || is_anchor z) ≡ true → is_same_around x z ≡ false
passed-plain (formatted f c) (formatted g d) e = absurd (false≢true e)
passed-plain (formatted f c) z e = refl
passed-plain x z e = refl

first-apart : (x z : Inline) (zs : Inlines) → Apart x (inline z zs) → is_same_around x z ≡ false
first-apart x z zs h = by (is_gap z || is_anchor z) refl h
  where
    by : (b : Bool) → (is_gap z || is_anchor z) ≡ b → goes_on x (cond b (past_gaps zs) (inline z zs)) ≡ false
        → is_same_around x z ≡ false
    by true e h = passed-plain x z e
    by false e h = h

apart-holds : (x : Inline) (xs : Inlines) → Apart x xs → is_apart x xs ≡ true
apart-holds x no_inlines h = refl
apart-holds x (inline y no_inlines) h = refl
apart-holds x (inline y (inline z zs)) h =
    test (is_gap y)
    (λ e. rw (
      e,
      first-apart x z zs (sym (ap
          (λ b. goes_on x (cond (b || is_anchor y) (past_gaps (inline z zs)) (inline y (inline z zs)))) e) ∙ h),
    ) refl)
    (λ e. rw e refl)

ends-both : (xs : Inlines) → are_whole_inside xs ≡ true → Starts xs → Ends xs → is_whole xs ≡ true
ends-both xs e g h = rw (e, starts-hold xs g, ends-hold xs h) refl

mutual
  inline-holds : (x : Inline) → ShapedInline x → is_whole_inside x ≡ true
  inline-holds (code s) h = rw (begins-black s h.0, ends-black s h.1) refl
  inline-holds (formatted f content) h = ends-both content (line-holds content h.0) h.1 h.2
  inline-holds (link address title content) h = ends-both content (line-holds content h.0) h.1 h.2
  inline-holds x h = refl

  line-holds : (xs : Inlines) → Shaped xs → are_whole_inside xs ≡ true
  line-holds no_inlines h = refl
  line-holds (inline x xs) h =
      and_from (is_whole_inside x && is_apart x xs) (are_whole_inside xs)
      (and_from (is_whole_inside x) (is_apart x xs) (inline-holds x h.0) (apart-holds x xs h.1)) (line-holds xs h.2)

-- ---- beside breaks

beside-holds : (x : Inline) (xs : Inlines) → BesideFirst x xs → is_white_at_break x xs ≡ false
beside-holds line_break no_inlines b = refl
beside-holds x no_inlines b = refl
beside-holds (text s) (inline line_break xs) b = ends-black s b
beside-holds line_break (inline line_break xs) b = refl
beside-holds x (inline line_break xs) b = refl
beside-holds line_break (inline (text s) xs) b = begins-black s b
beside-holds line_break (inline y xs) b = refl
beside-holds x (inline y xs) b = refl

mutual
  inline-bare : (x : Inline) → ShapedInline x → is_bare_inside x ≡ true
  inline-bare (formatted f content) h = line-bare content h.0
  inline-bare (link address title content) h = line-bare content h.0
  inline-bare x h = refl

  line-bare : (xs : Inlines) → Shaped xs → has_bare_breaks xs ≡ true
  line-bare no_inlines h = refl
  line-bare (inline x xs) h =
      and_from (is_bare_inside x && not (is_white_at_break x xs)) (has_bare_breaks xs)
      (and_from (is_bare_inside x) (not (is_white_at_break x xs)) (inline-bare x h.0)
      (ap not (beside-holds x xs h.3)))
      (line-bare xs h.2)

-- ---- behind the box of a task

line-neat : (xs : Inlines) → Shaped xs → Starts xs → Ends xs → (is_whole xs && has_bare_breaks xs) ≡ true
line-neat xs h g e =
    and_from (is_whole xs) (has_bare_breaks xs) (ends-both xs (line-holds xs h) g e) (line-bare xs h)

behind-ends : (x : Inline) (xs : Inlines) → Ends (inline x xs) → Ends xs
behind-ends x no_inlines h = tt
behind-ends x (inline y ys) h = h

text-apart : (s : List ℕ) (xs : Inlines) → is_apart (text s) xs ≡ true
text-apart s no_inlines = refl
text-apart s (inline y no_inlines) = refl
text-apart s (inline y (inline z zs)) = test (is_gap y) (λ e. rw e refl) (λ e. rw e refl)

-- without the space
text-ends : (c : ℕ) (s : List ℕ) → c ≡ space → BlackEnd (c ∷ s) → ends_white_text (chars s) ≡ false
text-ends c s e h =
    without (chars s) (sym (ap ends_white_text (characters-behind-space s))
    ∙ ends-black (space ∷ s) (subst (λ b. BlackEnd (b ∷ s)) e h))
  where
    without : (cs : List ℕ) → ends_white_text (space ∷ cs) ≡ false → ends_white_text cs ≡ false
    without [] e = refl
    without (d ∷ cs) e = e

line-ends : (c : ℕ) (s : List ℕ) (xs : Inlines) → c ≡ space → Ends (inline (text (c ∷ s)) xs)
    → ends_white (inline (text s) xs) ≡ false
line-ends c s no_inlines e h = text-ends c s e h
line-ends c s (inline y ys) e h = ends-hold (inline y ys) h

text-bare : (c : ℕ) (s : List ℕ) (xs : Inlines) → c ≡ space → BesideFirst (text (c ∷ s)) xs
    → is_white_at_break (text s) xs ≡ false
text-bare c s no_inlines e b = refl
text-bare c s (inline line_break xs) e b = text-ends c s e b
text-bare c s (inline x xs) e b = refl

text-neat : (c : ℕ) (s : List ℕ) (xs : Inlines) → c ≡ space → Shaped (inline (text (c ∷ s)) xs)
    → BlackStart s → Ends (inline (text (c ∷ s)) xs)
    → (is_whole (inline (text s) xs) && has_bare_breaks (inline (text s) xs)) ≡ true
text-neat c s xs e h g l =
    rw (
      text-apart s xs,
      line-holds xs h.2,
      begins-black s g,
      line-ends c s xs e l,
      text-bare c s xs e h.3,
      line-bare xs h.2,
    ) refl

spaced-neat : (c : ℕ) (s : List ℕ) (a b : Bool) → c ≡ space → (a && b) ≡ true
    → (first_is space (c ∷ s) && a && b) ≡ true
spaced-neat c s a b e q = rw e q

-- all but what is behind anchors
abbrev is_spaced_whole : Inlines → Bool
is_spaced_whole xs = is_box_spaced xs && is_whole (behind_box xs) && has_bare_breaks (behind_box xs)

box-neat : (is_checked : Bool) (xs : Inlines) → Whole (inline (task is_checked) xs)
    → is_spaced_whole (inline (task is_checked) xs) ≡ true
box-neat k no_inlines h = absurd h.3
box-neat k (inline (text (c ∷ [])) xs) h =
    spaced-neat c [] (is_whole xs) (has_bare_breaks xs) h.3.0
    (line-neat xs h.0.2.2 h.3.1 (behind-ends (text (c ∷ [])) xs h.2))
box-neat k (inline (text (c ∷ d ∷ s)) xs) h =
    spaced-neat c (d ∷ s) (is_whole (inline (text (d ∷ s)) xs)) (has_bare_breaks (inline (text (d ∷ s)) xs)) h.3.0
    (text-neat c (d ∷ s) xs h.3.0 h.0.2 h.3.1 h.2)
box-neat k (inline x xs) h = absurd h.3

behind-neat : (xs : Inlines) → Whole xs → is_spaced_whole xs ≡ true
behind-neat no_inlines h = refl
behind-neat (inline (task d) xs) h = box-neat d xs h
behind-neat (inline x xs) h = line-neat (inline x xs) h.0 h.1 h.2

-- ---- anchors

behind-anchor : (x : Inline) (xs : Inlines) → BesideFirst x xs → (is_anchor x && begins_white xs) ≡ false
behind-anchor (anchor id) no_inlines b = refl
behind-anchor (anchor id) (inline y ys) b = starts-hold (inline y ys) b
behind-anchor x xs b = refl

mutual
  inline-kept : (x : Inline) → ShapedInline x → inline_keeps any_id x ≡ true
  inline-kept (formatted f content) h = line-kept content h.0
  inline-kept (link address title content) h = line-kept content h.0
  inline-kept x h = refl

  line-kept : (xs : Inlines) → Shaped xs → all_keep any_id xs ≡ true
  line-kept no_inlines h = refl
  line-kept (inline x xs) h =
      rw (inline-kept x h.0, behind-anchor x xs h.3, h.1, line-kept xs h.2) refl

pub neat-holds : (xs : Inlines) → Whole xs → is_neat_line xs ≡ true
neat-holds xs h = and_from (is_spaced_whole xs) (all_keep any_id xs) (behind-neat xs h) (line-kept xs h.0)
