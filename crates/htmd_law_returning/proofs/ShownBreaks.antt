-- What a line of trees has, and that a break before one has it.
use Rattle.std.proofs.Common.{◌≡◌, ℕ, Bool, true, false, ◌||◌, List, [], ◌∷◌}
use Rattle.std.proofs.Common.{◌++◌, refl, sym, ap, ◌∙◌}
use Rattle.std.proofs.Common.{codes, Option, Some}
use Rattle.std.proofs.Common.{suc, ◌+◌, ◌≤◌, subst}
use Rattle.std.proofs.Common.{min}
use Rattle.htmd_lexical.specs.Characters.{line_feed}
use Rattle.htmd_flow.specs.Paragraphs.{Writing, fed, fed_all}
use Rattle.std.specs.List.{list_any, list_all}
use Rattle.htmd_lexical.specs.AttributePairs.{AttributePair}
use Rattle.htmd_lexical.specs.CharacterClasses.{is_empty}
use Rattle.htmd_values.specs.ValueTrees as value
use Rattle.htmd_nodes.specs.NumberedTrees.{NumberedForest, value_forest}
use Rattle.htmd_nodes.specs.NumberedTrees as page
use Rattle.htmd_document.specs.Documents.{text, code, formatted, link, image, anchor, line_break, task}
use Rattle.htmd_document.specs.Documents.{Inlines, no_inlines, inline}
use Rattle.htmd_document.specs.Formats.{Format}
use Rattle.htmd_document.specs.NormalInlines.{are_normal, first_passes, has_none, is_anchor}
use Rattle.htmd_flow.specs.Parts as part
use Rattle.htmd_flow.specs.Parts.{Around}
use Rattle.htmd_flow.specs.Levels.{list_of}
use Rattle.htmd_shown.specs.Marks as marks
use Rattle.htmd_shown.specs.declared.role.Role.TheVariants as role
use Rattle.htmd_shown.specs.Facts.{made}
use Rattle.htmd_shown.specs.Facts.{leaves_among}
use Rattle.htmd_shown.specs.Roles.{is_paragraph}
use Rattle.htmd_shown.specs.SimpleTrees.{Simple, Simples, none, more}
use Rattle.htmd_shown.specs.SimpleTrees as simple
use Rattle.htmd_shown.specs.Kinds.{has}
use Rattle.htmd_shown.specs.Spaces.{is_white}
use Rattle.htmd_law_rendering.specs.SpelledTrees.{value_forest as forest_of}
use Rattle.htmd_law_rendering.specs.SpelledTrees as spelled
use Rattle.htmd_law_rendering.specs.RenderedTrees.{text_before, line_end}
use Rattle.htmd_law_returning.specs.SettledDocuments.{weight_among, count_among}
use Rattle.htmd_law_returning.specs.SettledDocuments.{letters_in, have_images, said_among}
use Rattle.htmd_law_returning.specs.LastingAnchors.{heading_keeps}
use Rattle.htmd_law_returning.specs.NoAnchors.{have_no_anchors}
use Rattle.htmd_law_returning.specs.WholeLines.{begins_white}
use Rattle.htmd_law_returning.proofs.BareLemmas.{are_bare}
use Rattle.htmd_law_returning.proofs.FlowAnchors.{firsts_show}
use Rattle.htmd_law_returning.proofs.LocalAnchors.{local_all, pending_all, are_led}
use Rattle.htmd_law_returning.proofs.LocalLines.{AreBehind, text-local, more-local, sound-ending}
use Rattle.htmd_law_returning.proofs.PlacedTrees.{all-bare-nameless}
use Rattle.htmd_law_returning.proofs.SoundTrees.{IsSoundLine, sound-leaf, sound-white}
use Rattle.htmd_law_returning.proofs.PieceLemmas.{ArePieces}
use Rattle.htmd_law_returning.proofs.PieceLemmas.{break-pieced}
use Rattle.htmd_law_returning.proofs.PieceLemmas.{end-pieced, text-end-pieced}
use Rattle.htmd_law_returning.proofs.LineParts.{parts_in}
use Rattle.htmd_law_returning.proofs.LineFormLemmas.{normal-one, settled-one}
use Rattle.htmd_law_returning.proofs.LineParts.{Numbers, unknown, unended, numbered}
use Rattle.htmd_law_returning.proofs.LineParts.{is_rising, rise-more}
use Rattle.htmd_law_returning.proofs.PageLemmas.{from-text, IsFresh}
use Rattle.htmd_law_returning.proofs.TextLemmas.{IsLine, text-line}
use Rattle.htmd_law_returning.proofs.TreesLemmas.{spelled_line, line_trees, begins_apart, line-end-apart}
use Rattle.htmd_law_returning.proofs.BreakLemmas.{IsBreak, line-filled}
use Rattle.htmd_law_returning.proofs.StandLemmas.{Stands, Lacks, lacks-end}
use Rattle.htmd_law_returning.proofs.StartLemmas.{true-false, false-true}
use Rattle.htmd_law_returning.proofs.CostLemmas.{AllSpend}
use Rattle.htmd_law_returning.proofs.CostLemmas.{leaves-behind}
use Rattle.htmd_law_returning.proofs.LineFactLemmas.{AreInLine, break-in-line}
use Rattle.htmd_law_returning.proofs.InlineLemmas.{line-end-text, characters-behind}
use Rattle.htmd_law_returning.proofs.InlineLemmas.{line-end-shown, line-end-fed, at-most}
use Rattle.htmd_law_returning.proofs.InlineLemmas.{broken-spent, broken-text, broken-counted}
use Rattle.htmd_law_returning.proofs.InlineLemmas.{unended-spent, unended-counted}
use Rattle.htmd_law_returning.proofs.InlineLemmas.{line-end-letters}
use Rattle.htmd_law_returning.proofs.InlineLemmas.{line-end-unseen}
use Rattle.htmd_law_returning.proofs.InlineLemmas.{later-number}
use Rattle.htmd_law_returning.proofs.OrderLemmas.{is_ordered, ordered-next, ordered-less}
use Rattle.htmd_law_returning.proofs.HeldLemmas.{are_held}
use Rattle.htmd_law_returning.proofs.ShownInlines.{shown_at, text-at, break-at}
use Rattle.htmd_law_returning.proofs.InlineParts.{gives_at, text-gives, break-gives}

module _ (scripting is_rich : Bool) where
  -- nodes that are a line
  pub record IsLineTree (k : ℕ) (ts : Simples) (around : List Around) (xs : Inlines) : Type 0 where
    pub numbers : Numbers
    pub rising : is_rising k numbers xs ≡ true
    pub bare : have_no_anchors xs ≡ true → are_bare ts ≡ true
    pub led : heading_keeps xs ≡ true → are_led ts ≡ true
    pub gives : (flat : Bool) (n : ℕ) (w : Writing)
        → fed_all w (gives_at is_rich flat n around (local_all [] ts)) ≡ fed_all w (parts_in around numbers xs)
    pub waits : pending_all [] ts ≡ []
    -- with anchors before it
    pub behind : (has_none xs || begins_white xs) ≡ false → (ids : List (List ℕ))
        → AreBehind is_rich ids around ts (parts_in around numbers xs)
    pub first : (has_none xs || begins_white xs) ≡ false → first_passes is_anchor xs ≡ false
        → firsts_show ts ≡ true
    pub sound : IsSoundLine xs ts
    pub spent : AllSpend (weight_among xs) (said_among xs) ts
    pub counted : leaves_among ts ≤ count_among xs
    pub pieces : ArePieces xs ts
    pub seen : marks.letters_among ts ≡ letters_in xs
    pub pictured : marks.have_image ts ≡ have_images xs
    pub lined : list_any (has is_paragraph) (list_of ts) ≡ false
    pub plain : AreInLine xs ts

  abbrev pub IsShownLine : ℕ → Bool → Option (List AttributePair) → NumberedForest → List Around → Inlines
      → Type 0
  IsShownLine k h before f around xs = IsLineTree k (shown_at scripting is_rich h before f) around xs

  pub from-line : (k : ℕ) (ts us : Simples) (around : List Around) (xs : Inlines) → ts ≡ us
      → IsLineTree k us around xs
      → IsLineTree k ts around xs
  from-line k ts us around xs e own = subst (λ (vs : Simples). IsLineTree k vs around xs) (sym e) own

  -- the text of code
  pub code-text : (s : List ℕ) → is_empty s ≡ false
      → forest_of (text_before s spelled.none) ≡ value.more (value.text s) value.none
  code-text [] h = true-false h
  code-text (b ∷ s) h = refl

  -- a break and its line's end before a line that begins with no text
  line-end-beside : (xs : Inlines) (k : ℕ) → begins_apart xs ≡ true → (b h : Bool)
      (before : Option (List AttributePair))
      (f : NumberedForest) (around : List Around) (fs : List Format)
      → IsFresh before
      → (found : IsBreak f xs) → Stands (value_forest found.rest) (forest_of (line_end (spelled_line xs)))
      → are_normal b fs (inline line_break xs) ≡ true
      → are_held (inline line_break xs) ≡ true
      → is_ordered k f ≡ true
      → ((k : ℕ) (g : NumberedForest) → is_ordered k g ≡ true → Stands (value_forest g) (line_trees xs)
      → are_normal b fs xs ≡ true
      → are_held xs ≡ true → IsShownLine k h (Some []) g around xs)
      → IsShownLine k h before f around (inline line_break xs)
  line-end-beside xs k apart b h before f around fs fresh found e normal settled o later =
      let good = normal-one b fs line_break xs normal in
      let own = settled-one line_break xs settled in
      let line = from-text found.rest (line_feed ∷ []) (line_trees xs)
      (subst (λ ts. Stands (value_forest found.rest) (forest_of ts))
      (line-end-apart xs apart) e) in
      let order = ordered-next k f (page.element found.id (codes "br") [] found.inside) found.rest found.is o in
      let behind = ordered-next (suc found.id) found.rest (page.text line.id
      (line_feed ∷ [])) line.rest line.is order.rest in
      let rest = later (suc found.id) line.rest
      (ordered-less (suc found.id) (suc line.id) line.rest (later-number found.id line.id behind.least) behind.rest)
      line.others good.rest own.rest in
      let ts : Simples = shown_at scripting is_rich h (Some []) line.rest in
      let us : Simples = more (simple.text (line_feed ∷ [])) ts in
      let broken : Simple = made found.id role.LineBreak [] none in
      let last = more-local (simple.text (line_feed ∷ [])) (simple.text (line_feed ∷ [])) ts
      (text-local (line_feed ∷ [])) in
      let is : shown_at scripting is_rich h before f ≡ more (made found.id role.LineBreak [] none) us =
      ap (shown_at scripting is_rich h before) found.is
      ∙ (break-at scripting is_rich h before found.id found.inside found.rest fresh
      ∙ ap (more (made found.id role.LineBreak [] none)) (ap (shown_at scripting is_rich h (Some [])) line.is
      ∙ (text-at scripting is_rich h (Some []) line.id (line_feed ∷ []) line.rest
      ∙ ap (λ t. more (simple.text t) ts) line-end-text))) in
      from-line k (shown_at scripting is_rich h before f) (more (made found.id role.LineBreak [] none) us) around
      (inline line_break xs) is
      (record {
        numbers = numbered found.id unknown rest.numbers;
        rising = rise-more k found.id unknown rest.numbers line_break xs order.least refl rest.rising;
        bare = rest.bare;
        led = λ e. (all-bare-nameless us (rest.bare e)).0;
        gives = λ flat n w. ap (λ vs. fed_all w (gives_at is_rich flat n around (more broken vs))) last.0
            ∙ (ap (fed_all w) (break-gives is_rich flat n around found.id
            (more (simple.text (line_feed ∷ [])) (local_all [] ts))
            ∙ ap (λ ps. part.break ∷ ps) (text-gives is_rich flat n around (line_feed ∷ []) (local_all [] ts)))
            ∙ rest.gives flat n (fed (fed w part.break) (part.run (line_feed ∷ []) around false)));
        waits = last.1 ∙ rest.waits;
        behind = λ h ids. true-false h;
        first = λ h a. true-false h;
        sound = sound-leaf line_break xs broken us refl (λ s. refl) refl (λ e. false-true e)
            (sound-white (line_feed ∷ []) xs ts rest.sound);
        spent = broken-spent found.id (weight_among xs) (line_feed ∷ []) ts rest.spent;
        counted = broken-counted found.id (count_among xs) (line_feed ∷ []) ts rest.counted;
        pieces = break-pieced xs found.id us own.beside good.meets_next (end-pieced xs ts rest.pieces);
        seen = ap (λ x. x ++ marks.letters_among ts) line-end-unseen ∙ rest.seen;
        pictured = rest.pictured;
        lined = rest.lined;
        plain = break-in-line xs found.id us rest.plain.tableless (ap (λ k. min 2 (0 + k)) rest.plain.preless);
      })

  -- a break before a text, which has the line's end at its beginning
  line-end-before : (t : List ℕ) (xs : Inlines) (k : ℕ) (b h : Bool) (before : Option (List AttributePair))
      (f : NumberedForest) (around : List Around) (fs : List Format)
      → IsFresh before
      → (found : IsBreak f (inline (text t) xs))
      → Stands (value_forest found.rest) (value.more (value.text (line_feed ∷ t)) (line_trees xs))
      → are_normal b fs (inline line_break (inline (text t) xs)) ≡ true
      → are_held (inline line_break (inline (text t) xs)) ≡ true
      → is_ordered k f ≡ true
      → ((k : ℕ) (g : NumberedForest) → is_ordered k g ≡ true → Stands (value_forest g)
      (line_trees (inline (text t) xs)) → are_normal b fs
      (inline (text t) xs) ≡ true
      → are_held (inline (text t) xs) ≡ true → IsShownLine k h (Some []) g around (inline (text t) xs))
      → IsShownLine k h before f around (inline line_break (inline (text t) xs))
  line-end-before t xs k b h before f around fs fresh found e normal settled o later =
      let good = normal-one b fs line_break (inline (text t) xs) normal in
      let own = settled-one line_break (inline (text t) xs) settled in
      let l : IsLine t = text-line t (settled-one (text t) xs own.rest).own
      (normal-one b fs (text t) xs good.rest).own in
      let line = from-text found.rest (line_feed ∷ t) (line_trees xs) e in
      let order = ordered-next k f (page.element found.id (codes "br") [] found.inside) found.rest found.is o in
      let without : NumberedForest = page.more (page.text line.id t) line.rest in
      let ts : Simples = shown_at scripting is_rich h (Some []) line.rest in
      let bare_text : shown_at scripting is_rich h (Some []) without ≡ more (simple.text t) ts =
      text-at scripting is_rich h (Some []) line.id t line.rest ∙ ap (λ s. more (simple.text s) ts) l.shown in
      let rest : IsLineTree (suc found.id) (more (simple.text t) ts) around (inline (text t) xs) =
      subst (λ (vs : Simples). IsLineTree (suc found.id) vs around (inline (text t) xs)) bare_text
      (later (suc found.id) without (sym (ap (is_ordered (suc found.id)) line.is) ∙ order.rest)
      (value_forest line.rest, refl, line.others) good.rest own.rest) in
      let us : Simples = more (simple.text (line_feed ∷ t)) ts in
      let broken : Simple = made found.id role.LineBreak [] none in
      let last = more-local (simple.text (line_feed ∷ t)) (simple.text (line_feed ∷ t)) ts
      (text-local (line_feed ∷ t)) in
      let same = more-local (simple.text t) (simple.text t) ts (text-local t) in
      let is : shown_at scripting is_rich h before f ≡ more (made found.id role.LineBreak [] none) us =
      ap (shown_at scripting is_rich h before) found.is
      ∙ (break-at scripting is_rich h before found.id found.inside found.rest fresh
      ∙ ap (more (made found.id role.LineBreak [] none)) (ap (shown_at scripting is_rich h (Some [])) line.is
      ∙ (text-at scripting is_rich h (Some []) line.id (line_feed ∷ t) line.rest
      ∙ ap (λ s. more (simple.text s) ts) (line-end-shown t l.shown)))) in
      from-line k (shown_at scripting is_rich h before f) (more (made found.id role.LineBreak [] none) us) around
      (inline line_break (inline (text t) xs)) is
      (record {
        numbers = numbered found.id unknown rest.numbers;
        rising = rise-more k found.id unknown rest.numbers line_break (inline (text t) xs) order.least refl rest.rising;
        bare = rest.bare;
        led = λ e. (all-bare-nameless us (rest.bare e)).0;
        gives = λ flat n w. ap (λ vs. fed_all w (gives_at is_rich flat n around (more broken vs))) last.0
            ∙ (ap (fed_all w) (break-gives is_rich flat n around found.id
            (more (simple.text (line_feed ∷ t)) (local_all [] ts))
            ∙ ap (λ ps. part.break ∷ ps) (text-gives is_rich flat n around (line_feed ∷ t) (local_all [] ts)))
            ∙ (ap (λ v. fed_all v (gives_at is_rich flat n around (local_all [] ts)))
            (line-end-fed (fed w part.break) around t)
            ∙ (ap (fed_all (fed (fed w part.break) (part.run (line_feed ∷ []) around false)))
            (sym (ap (gives_at is_rich flat n around) same.0 ∙ text-gives is_rich flat n around t (local_all [] ts)))
            ∙ rest.gives flat n (fed (fed w part.break) (part.run (line_feed ∷ []) around false)))));
        waits = last.1 ∙ (sym same.1 ∙ rest.waits);
        behind = λ h ids. true-false h;
        first = λ h a. true-false h;
        sound = sound-leaf line_break (inline (text t) xs) broken us refl (λ s. refl) refl (λ e. false-true e)
            (sound-ending (line_feed ∷ t) t (inline (text t) xs) ts
            (ap (list_all is_white) (characters-behind t)) rest.sound);
        spent = broken-text found.id (weight_among (inline (text t) xs)) t ts rest.spent;
        counted = broken-counted found.id (count_among (inline (text t) xs)) (line_feed ∷ t) ts
            (at-most (leaves-behind (simple.text t) ts) rest.counted);
        pieces = break-pieced (inline (text t) xs) found.id us own.beside good.meets_next
            (text-end-pieced (inline (text t) xs) t ts rest.pieces);
        seen = ap (λ x. x ++ marks.letters_among ts) (line-end-letters t) ∙ rest.seen;
        pictured = rest.pictured;
        lined = rest.lined;
        plain = break-in-line (inline (text t) xs) found.id us rest.plain.tableless rest.plain.preless;
      })

  pub line-end-at : (xs : Inlines) (k : ℕ) (b h : Bool) (before : Option (List AttributePair)) (f : NumberedForest)
      (around : List Around) (fs : List Format)
      → IsFresh before
      → (found : IsBreak f xs) → Stands (value_forest found.rest) (forest_of (line_end (spelled_line xs)))
      → are_normal b fs (inline line_break xs) ≡ true
      → are_held (inline line_break xs) ≡ true
      → is_ordered k f ≡ true
      → ((k : ℕ) (g : NumberedForest) → is_ordered k g ≡ true → Stands (value_forest g) (line_trees xs)
      → are_normal b fs xs ≡ true
      → are_held xs ≡ true → IsShownLine k h (Some []) g around xs)
      → IsShownLine k h before f around (inline line_break xs)
  line-end-at (inline (text s) xs) k b h before f around fs fresh found e normal settled o later =
      line-end-before s xs k b h before f around fs fresh found e normal settled o later
  line-end-at no_inlines k b h before f around fs fresh found e normal settled o later =
      line-end-beside no_inlines k refl b h before f around fs fresh found e normal settled o later
  line-end-at (inline (code s) xs) k b h before f around fs fresh found e normal settled o later =
      line-end-beside (inline (code s) xs) k refl b h before f around fs fresh found e normal settled o later
  line-end-at (inline (formatted m c) xs) k b h before f around fs fresh found e normal settled o later =
      line-end-beside (inline (formatted m c) xs) k refl b h before f around fs fresh found e normal settled o later
  line-end-at (inline (link a t c) xs) k b h before f around fs fresh found e normal settled o later =
      line-end-beside (inline (link a t c) xs) k refl b h before f around fs fresh found e normal settled o later
  line-end-at (inline (image a t d) xs) k b h before f around fs fresh found e normal settled o later =
      line-end-beside (inline (image a t d) xs) k refl b h before f around fs fresh found e normal settled o later
  line-end-at (inline (anchor id) xs) k b h before f around fs fresh found e normal settled o later =
      line-end-beside (inline (anchor id) xs) k refl b h before f around fs fresh found e normal settled o later
  line-end-at (inline line_break xs) k b h before f around fs fresh found e normal settled o later =
      line-end-beside (inline line_break xs) k refl b h before f around fs fresh found e normal settled o later
  line-end-at (inline (task d) xs) k b h before f around fs fresh found e normal settled o later =
      line-end-beside (inline (task d) xs) k refl b h before f around fs fresh found e normal settled o later

  -- a break with no line's end behind it
  pub unended-at : (xs : Inlines) (k : ℕ) (b h : Bool) (before : Option (List AttributePair)) (f : NumberedForest)
      (around : List Around) (fs : List Format)
      → IsFresh before
      → (found : IsBreak f xs) → Lacks (value_forest found.rest) (forest_of (line_end (spelled_line xs)))
      → are_normal b fs (inline line_break xs) ≡ true
      → are_held (inline line_break xs) ≡ true
      → is_ordered k f ≡ true
      → ((k : ℕ) (g : NumberedForest) → is_ordered k g ≡ true → Stands (value_forest g) (line_trees xs)
      → are_normal b fs xs ≡ true
      → are_held xs ≡ true → IsShownLine k h (Some []) g around xs)
      → IsShownLine k h before f around (inline line_break xs)
  unended-at xs k b h before f around fs fresh found e normal settled o later =
      let good = normal-one b fs line_break xs normal in
      let own = settled-one line_break xs settled in
      let order = ordered-next k f (page.element found.id (codes "br") [] found.inside) found.rest found.is o in
      let rest = later (suc found.id) found.rest order.rest
      (lacks-end (value_forest found.rest) (spelled_line xs) (line-filled xs b fs good.rest own.rest) e)
      good.rest own.rest in
      let ts : Simples = shown_at scripting is_rich h (Some []) found.rest in
      from-line k (shown_at scripting is_rich h before f) (more (made found.id role.LineBreak [] none) ts) around
      (inline line_break xs)
      (ap (shown_at scripting is_rich h before) found.is
      ∙ break-at scripting is_rich h before found.id found.inside found.rest fresh)
      (record {
        numbers = numbered found.id unended rest.numbers;
        rising = rise-more k found.id unended rest.numbers line_break xs order.least refl rest.rising;
        bare = rest.bare;
        led = λ e. (all-bare-nameless ts (rest.bare e)).0;
        gives = λ flat n w. ap (fed_all w) (break-gives is_rich flat n around found.id (local_all [] ts))
            ∙ rest.gives flat n (fed w part.break);
        waits = rest.waits;
        behind = λ h ids. true-false h;
        first = λ h a. true-false h;
        sound = sound-leaf line_break xs (made found.id role.LineBreak [] none) ts refl (λ s. refl) refl
            (λ e. false-true e) rest.sound;
        spent = unended-spent found.id (weight_among xs) ts rest.spent;
        counted = unended-counted found.id (count_among xs) ts rest.counted;
        pieces = break-pieced xs found.id ts own.beside good.meets_next rest.pieces;
        seen = rest.seen;
        pictured = rest.pictured;
        lined = rest.lined;
        plain = break-in-line xs found.id ts rest.plain.tableless rest.plain.preless;
      })
