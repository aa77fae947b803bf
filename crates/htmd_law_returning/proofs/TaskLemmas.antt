-- The paragraphs of a document, which begin with a task in an item: what shows of one, and what that gives.
use Rattle.std.proofs.Common.{◌≡◌, ℕ, suc, ◌<◌, Bool, true, false, not, ◌&&◌, ◌||◌, cond, List, []}
use Rattle.std.proofs.Common.{◌∷◌}
use Rattle.std.proofs.Common.{refl, sym, ap, ◌∙◌, codes, subst, Option, Some, None, ◌⊎◌, inl, inr, ⊎_elim}
use Rattle.std.specs.List.{list_all, list_any}
use Rattle.std.proofs.lemmas.Bool.{and_parts}
use Rattle.std.specs.Str.{chars}
use Rattle.htmd_lexical.specs.AttributePairs.{AttributePair}
use Rattle.htmd_lexical.specs.Characters.{space}
use Rattle.htmd_values.specs.ValueTrees as value
use Rattle.htmd_nodes.specs.NumberedTrees.{NumberedForest, value_forest}
use Rattle.htmd_nodes.specs.NumberedTrees as page
use Rattle.htmd_document.specs.Documents.{Block, Inlines, no_inlines, inline, text, code, formatted, link, image}
use Rattle.htmd_document.specs.Documents.{anchor, line_break, task, paragraph, heading, code_block, quote, list, table}
use Rattle.htmd_document.specs.Documents.{thematic_break, element, tags, Blocks, no_blocks, block}
use Rattle.htmd_document.specs.NormalDocuments.{is_normal_paragraph, are_normal_blocks}
use Rattle.htmd_document.specs.NormalInlines.{has_none, are_normal, are_whole, is_normal_line, is_normal_item}
use Rattle.htmd_document.specs.NormalInlines.{are_anchors, anchors_stand_well}
use Rattle.htmd_flow.specs.Flows.{node_of}
use Rattle.htmd_flow.specs.Levels.{list_of}
use Rattle.htmd_flow.specs.Paragraphs.{Writing, fed, fed_all}
use Rattle.htmd_flow.specs.Parts as part
use Rattle.htmd_shown.specs.declared.role.Role.TheVariants as role
use Rattle.htmd_shown.specs.Facts.{made, facts_of}
use Rattle.htmd_shown.specs.Kinds.{has}
use Rattle.htmd_shown.specs.Pieces.{greatest_count}
use Rattle.htmd_shown.specs.Repeats.{is_copied}
use Rattle.htmd_shown.specs.Roles.{role_of, table_role, heading_or_block, block_role, inline_role, is_paragraph}
use Rattle.htmd_shown.specs.Shown.{shown}
use Rattle.htmd_shown.specs.SimpleTrees.{Simple, Simples, none, more}
use Rattle.htmd_law_rendering.specs.RenderedTrees.{pairs_of_box}
use Rattle.htmd_law_rendering.specs.SpelledTrees as spelled
use Rattle.htmd_shown.specs.Showings.{show}
use Rattle.htmd_shown.specs.Spaces.{is_blank_text, is_white}
use Rattle.std.specs.Prelude.{nat_le}
use Rattle.htmd_document_of_tree.specs.Seen.{one_if}
use Rattle.htmd_shown.specs.SimpleTrees as simple
use Rattle.htmd_law_returning.specs.LastingAnchors.{heading_keeps}
use Rattle.htmd_law_returning.proofs.LocalAnchors.{come_first, are_nameless, led-first}
use Rattle.htmd_law_returning.proofs.ShownInlines.{text-at}
use Rattle.htmd_law_returning.proofs.TextLemmas.{text-line}
use Rattle.htmd_law_returning.proofs.BoxLemmas.{characters-behind-space, box-normal}
use Rattle.htmd_law_returning.proofs.LineFormLemmas.{normal-one, settled-one}
use Rattle.htmd_law_returning.specs.PageFormats.{line_shows}
use Rattle.htmd_law_returning.specs.SettledDocuments.{is_settled_line, is_settled_paragraph, behind_box, weight_among}
use Rattle.htmd_law_returning.specs.SettledDocuments.{said_among}
use Rattle.htmd_law_returning.proofs.BareLemmas.{has_no_name}
use Rattle.htmd_law_returning.proofs.BehindLineLemmas.{IsSteady, AreSteady, element_first, steady-line}
use Rattle.htmd_law_returning.proofs.BoxLemmas.{IsTask, task-fed, task-line, held-spaced}
use Rattle.htmd_law_returning.proofs.CostLemmas.{AllSpend, spend-element, spend-none, spend-more}
use Rattle.htmd_law_returning.proofs.FlowLemmas.{IsLineFed, line-fed}
use Rattle.htmd_law_returning.proofs.HeldLemmas.{are_black_ended, are_held, line-held}
use Rattle.htmd_law_returning.proofs.FormatLemmas.{covers-none}
use Rattle.htmd_law_returning.proofs.InlineLemmas.{free-none, right-light}
use Rattle.htmd_law_returning.proofs.LineFactLemmas.{AreLineTrees, seen-trees, line-seen, goes_seen, begun-goes}
use Rattle.htmd_law_returning.proofs.LineFormLemmas.{IsWhole, whole-inlines}
use Rattle.htmd_law_returning.proofs.LineParts.{Numbers, unknown, numbered, is_rising, rise-more, parts_in}
use Rattle.htmd_law_returning.proofs.OrderLemmas.{is_ordered, ordered-next}
use Rattle.htmd_law_returning.proofs.PageLemmas.{IsFresh, from-none, from-text, from-element}
use Rattle.htmd_law_returning.proofs.PageLemmas.{fresh-first, fresh-next, shown_of}
use Rattle.htmd_law_returning.proofs.PageLemmas.{plain-content, none-shown}
use Rattle.htmd_law_returning.proofs.InlineParts.{gives_at}
use Rattle.htmd_law_returning.proofs.ShownLineLemmas.{line-shown-at}
use Rattle.htmd_law_returning.proofs.StandLemmas.{Stands}
use Rattle.htmd_law_returning.proofs.StartLemmas.{Mode, in_item, has_task, begins_boxed, May, false-true, true-false}
use Rattle.htmd_law_returning.proofs.StartLemmas.{from-not}
use Rattle.htmd_law_returning.proofs.TreesLemmas.{spelled_line, line_trees}
use Rattle.htmd_law_returning.specs.LastingAnchors.{line_keeps}
use Rattle.htmd_law_returning.proofs.LocalAnchors.{local_all, pending_all}
use Rattle.htmd_law_returning.proofs.SoundTrees.{IsSoundLine, sound-leaf}
use Rattle.htmd_shown.specs.declared.facts.Facts.{Facts}
use Rattle.htmd_shown.specs.SimpleTrees.{element}
use lib.Utf8.{encode}

-- ---- what a paragraph is like

-- a line without a task
pub record IsPlain (xs : Inlines) : Type 0 where
  pub whole : IsWhole xs
  pub normal : are_normal false [] xs ≡ true
  pub held : are_held xs ≡ true

abbrev pub IsParagraph : Inlines → Type 0
IsParagraph xs = IsPlain xs ⊎ IsTask xs

-- it isn't anchors alone, and its anchors come back
abbrev pub is_lasting : Inlines → Bool
is_lasting xs = not (are_anchors xs) && line_keeps xs

or-false : (a : Bool) → (a || false) ≡ true → a ≡ true
or-false true h = refl
or-false false h = h

or-second : (a b : Bool) → a ≡ false → (a || b) ≡ true → b ≡ true
or-second a b e h = sym (ap (λ x. x || b) e) ∙ h

either-same : (b x : Bool) → cond b x x ≡ x
either-same true x = refl
either-same false x = refl

plain-paragraph : (b : Bool) (xs : Inlines) → is_settled_line xs ≡ true → is_normal_paragraph b xs ≡ true
    → is_lasting xs ≡ true → is_normal_item xs ≡ is_normal_line xs → IsParagraph xs
plain-paragraph b xs settled h lasts same =
    let last = and_parts (not (are_anchors xs)) (line_keeps xs) lasts in
    let parts = and_parts (not (has_none xs) && cond b (is_normal_item xs) (is_normal_line xs))
    (are_anchors xs || anchors_stand_well xs) h in
    let own = and_parts (not (has_none xs)) (cond b (is_normal_item xs) (is_normal_line xs)) parts.0 in
    let stands = or-second (are_anchors xs) (anchors_stand_well xs) (from-not (are_anchors xs) last.0) parts.1 in
    let line = and_parts (are_whole xs) (are_normal false [] xs)
    (sym (ap (λ x. cond b x (is_normal_line xs)) same ∙ either-same b (is_normal_line xs)) ∙ own.1) in
    let held = and_parts (are_black_ended xs) (are_held xs) (line-held xs line.1 settled stands last.1) in
    inl (record {
      whole = whole-inlines xs (from-not (has_none xs) own.0) held.0;
      normal = line.1;
      held = held.1;
    })

task-paragraph : (b d : Bool) (xs : Inlines) → is_settled_paragraph (inline (task d) xs) ≡ true
    → is_normal_paragraph b (inline (task d) xs) ≡ true → line_keeps (inline (task d) xs) ≡ true
    → IsTask (inline (task d) xs)
task-paragraph true d xs settled h keeps =
    let parts = and_parts (true && is_normal_item (inline (task d) xs))
    (are_anchors (inline (task d) xs) || anchors_stand_well (inline (task d) xs)) h in
    task-line d xs settled parts.0 parts.1 keeps
task-paragraph false d xs settled h keeps =
    let parts = and_parts (true && is_normal_line (inline (task d) xs))
    (are_anchors (inline (task d) xs) || anchors_stand_well (inline (task d) xs)) h in
    false-true (and_parts (are_whole (inline (task d) xs)) false parts.0).1

pub paragraph-parts : (b : Bool) (xs : Inlines) → is_settled_paragraph xs ≡ true
    → is_normal_paragraph b xs ≡ true → is_lasting xs ≡ true
    → IsParagraph xs
paragraph-parts b no_inlines settled h lasts = false-true h
paragraph-parts b (inline (text s) xs) settled h lasts = plain-paragraph b (inline (text s) xs) settled h lasts refl
paragraph-parts b (inline (code s) xs) settled h lasts = plain-paragraph b (inline (code s) xs) settled h lasts refl
paragraph-parts b (inline (formatted f c) xs) settled h lasts =
    plain-paragraph b (inline (formatted f c) xs) settled h lasts refl
paragraph-parts b (inline (link a t c) xs) settled h lasts =
    plain-paragraph b (inline (link a t c) xs) settled h lasts refl
paragraph-parts b (inline (image a t d) xs) settled h lasts =
    plain-paragraph b (inline (image a t d) xs) settled h lasts refl
paragraph-parts b (inline (anchor id) xs) settled h lasts =
    plain-paragraph b (inline (anchor id) xs) settled h lasts refl
paragraph-parts b (inline line_break xs) settled h lasts = plain-paragraph b (inline line_break xs) settled h lasts refl
paragraph-parts b (inline (task d) xs) settled h lasts = inr (task-paragraph b d xs settled h lasts)

pub paragraph-some : (xs : Inlines) → IsParagraph xs → has_none xs ≡ false
paragraph-some xs own = ⊎_elim (λ p. p.whole.some) (λ t. ap has_none t.is) own

pub no-box : (xs : Inlines) → are_normal false [] xs ≡ true → behind_box xs ≡ xs
no-box no_inlines h = refl
no-box (inline (task d) xs) h = false-true h
no-box (inline x xs) h = refl

-- where it may stand
pub paragraph-fed : (ns : Numbers) (xs : Inlines) → IsParagraph xs → is_rising 0 ns xs ≡ true → (mode : Mode)
    (done : List Block) → May (has_task xs) mode done → IsLineFed mode done ns xs
paragraph-fed ns xs own rise mode done may =
    ⊎_elim (λ p. line-fed mode done ns xs p.whole p.normal p.held rise)
    (λ t.
    let at = may (ap has_task t.is) in
    subst (λ (m : Mode). IsLineFed m done ns xs) (sym at.0)
    (subst (λ (ds : List Block). IsLineFed in_item ds ns xs) (sym at.1) (task-fed ns xs t rise)))
    own

-- only the first paragraph of an item begins with a task
pub unboxed-line : (xs : Inlines) → is_normal_paragraph false xs ≡ true → has_task xs ≡ false
unboxed-line no_inlines h = refl
unboxed-line (inline (text s) xs) h = refl
unboxed-line (inline (code s) xs) h = refl
unboxed-line (inline (formatted f c) xs) h = refl
unboxed-line (inline (link a t c) xs) h = refl
unboxed-line (inline (image a t d) xs) h = refl
unboxed-line (inline (anchor id) xs) h = refl
unboxed-line (inline line_break xs) h = refl
unboxed-line (inline (task d) xs) h =
    let line : Inlines = inline (task d) xs in
    let parts = and_parts (true && is_normal_line line) (are_anchors line || anchors_stand_well line) h in
    false-true (and_parts (are_whole line) false parts.0).1

pub unboxed : (d : Blocks) → are_normal_blocks false d ≡ true → begins_boxed d ≡ false
unboxed no_blocks h = refl
unboxed (block (paragraph xs) d) h =
    unboxed-line xs (and_parts (is_normal_paragraph false xs) (are_normal_blocks false d) h).0
unboxed (block (heading level xs) d) h = refl
unboxed (block (code_block language s) d) h = refl
unboxed (block (quote bs) d) h = refl
unboxed (block thematic_break d) h = refl
unboxed (block (list start is_tight items) d) h = refl
unboxed (block (table alignments header rows) d) h = refl
unboxed (block (element name attributes content) d) h = refl
unboxed (block (tags s) d) h = refl

-- without a task anywhere
pub may-always : (b : Bool) (mode : Mode) (done : List Block) → b ≡ false → May b mode done
may-always b mode done e h = false-true (sym e ∙ h)

-- ---- the box

box-fresh : (before : Option (List AttributePair)) (d : Bool) → is_copied before (pairs_of_box d) ≡ false
box-fresh None d = refl
box-fresh (Some b) true = refl
box-fresh (Some b) false = refl

box-nameless : (d : Bool) → has_no_name (pairs_of_box d) ≡ true
box-nameless true = refl
box-nameless false = refl

module _ (scripting is_rich : Bool) where
  box-shown : (before : Option (List AttributePair)) (id : ℕ) (inside f : NumberedForest) (d : Bool)
      → shown_of scripting is_rich before (page.more (page.element id (codes "input") (pairs_of_box d) inside) f)
      ≡ more (made id role.Input (pairs_of_box d) (shown_of scripting is_rich None inside))
      (shown_of scripting is_rich (Some (pairs_of_box d)) f)
  unfolding shown role_of table_role heading_or_block block_role inline_role
  box-shown before id inside f true =
      rw (box-fresh before true) (ap (λ ts. more (made id role.Input (pairs_of_box true) ts)
      (shown_of scripting is_rich (Some (pairs_of_box true)) f))
      (plain-content id (shown_of scripting is_rich None inside)))
  box-shown before id inside f false =
      rw (box-fresh before false) (ap (λ ts. more (made id role.Input (pairs_of_box false) ts)
      (shown_of scripting is_rich (Some (pairs_of_box false)) f))
      (plain-content id (shown_of scripting is_rich None inside)))

  box-gives : (n id : ℕ) (facts : Facts) (d : Bool) (ts : Simples)
      → gives_at is_rich false n [] (more (element id role.Input facts (pairs_of_box d) none) ts)
      ≡ part.box d ∷ gives_at is_rich false n [] ts
  unfolding node_of
  box-gives n id facts true ts = refl
  box-gives n id facts false ts = refl

  box-steady : (d : Bool) → IsSteady scripting is_rich (codes "input") (pairs_of_box d)
  box-steady d = record {
    tree = λ id inside. made id role.Input (pairs_of_box d) (shown_of scripting is_rich None inside);
    is = λ before id inside f fresh. box-shown before id inside f d;
    no_item = λ id inside. refl;
  }

  space-blank : is_blank_text (space ∷ []) ≡ true
  unfolding chars encode
  space-blank = refl

  -- behind the box and its space something shows
  box-seen : (d : Bool) (s : List ℕ) (xs : Inlines) → are_normal false [] (inline (text (space ∷ s)) xs) ≡ true
      → are_held (behind_box (inline (task d) (inline (text (space ∷ s)) xs))) ≡ true
      → IsWhole (behind_box (inline (task d) (inline (text (space ∷ s)) xs)))
      → goes_seen (inline (text (space ∷ s)) xs) ≡ true
  box-seen d [] xs normal held whole =
      ap (λ b. not b || goes_seen xs) space-blank
      ∙ begun-goes xs (line-seen xs false [] whole (normal-one false [] (text (space ∷ [])) xs normal).rest held)
  box-seen d (c ∷ s) xs normal held whole =
      let line : Inlines = inline (text (c ∷ s)) xs in
      let black : not (is_blank_text (c ∷ s)) ≡ true =
      or-false (not (is_blank_text (c ∷ s)))
      (line-seen line false [] whole (box-normal d space (c ∷ s) xs refl normal) held) in
      ap (λ b. b || goes_seen xs)
      (ap (λ cs. not (list_all is_white cs)) (characters-behind-space (c ∷ s)) ∙ black)

  -- ---- anchors behind a box

  -- of what shows of a task's line, where anchors stand first behind the box
  abbrev LeadsBehind : Bool → Inlines → Type 0
  LeadsBehind d xs = (before : Option (List AttributePair)) (f : NumberedForest) → IsFresh before
      → Stands (value_forest f) (line_trees xs) → (k : ℕ) → is_ordered k f ≡ true
      → heading_keeps (behind_box (inline (task d) xs)) ≡ true
      → come_first (shown_of scripting is_rich before f) ≡ true

  space-before : (ts : Simples) → come_first ts ≡ true
      → come_first (more (simple.text (space ∷ [])) ts) ≡ true
  space-before ts h =
      ap (λ b. cond (nat_le (one_if (not b)) 0) (come_first ts) (are_nameless ts)) space-blank ∙ h

  box-before : (id : ℕ) (d : Bool) (ts : Simples) → come_first ts ≡ true
      → come_first (more (made id role.Input (pairs_of_box d) none) ts) ≡ true
  box-before id true ts h = h
  box-before id false ts h = h

  spaced-leads : (d : Bool) (s : List ℕ) (xs : Inlines)
      → are_normal false [] (inline (text (space ∷ s)) xs) ≡ true
      → are_held (inline (text (space ∷ s)) xs) ≡ true → line_shows is_rich xs ≡ true
      → weight_among (inline (text (space ∷ s)) xs) < greatest_count
      → LeadsBehind d (inline (text (space ∷ s)) xs)
  spaced-leads d [] xs normal held formats light before f fresh e k o h =
      let good = normal-one false [] (text (space ∷ [])) xs normal in
      let own = settled-one (text (space ∷ [])) xs held in
      let found = from-text f (space ∷ []) (line_trees xs) e in
      let order = ordered-next k f (page.text found.id (space ∷ [])) found.rest found.is o in
      let rest = line-shown-at scripting is_rich xs (suc found.id) false false before found.rest [] []
      covers-none free-none fresh found.others good.rest own.rest formats
      (right-light 0 (weight_among xs) light) order.rest in
      let ts : Simples = shown_of scripting is_rich before found.rest in
      ap come_first (ap (shown_of scripting is_rich before) found.is
      ∙ (text-at scripting is_rich false before found.id (space ∷ []) found.rest
      ∙ ap (λ t. more (simple.text t) ts) (text-line (space ∷ []) own.own good.own).shown))
      ∙ space-before ts (led-first ts (rest.led h))
  spaced-leads d (c ∷ s) xs normal held formats light before f fresh e k o h =
      led-first (shown_of scripting is_rich before f)
      ((line-shown-at scripting is_rich (inline (text (space ∷ c ∷ s)) xs) k false false before f [] []
      covers-none free-none fresh e normal held formats light o).led h)

  -- ---- what shows of a paragraph

  pub record IsParagraphTree (n : ℕ) (ts : Simples) (xs : Inlines) : Type 0 where
    pub numbers : Numbers
    pub rising : is_rising 0 numbers xs ≡ true
    pub sound : IsSoundLine xs ts
    pub waits : pending_all [] ts ≡ []
    pub gives : (w : Writing)
        → fed_all w (gives_at is_rich false n [] (local_all [] ts)) ≡ fed_all w (parts_in [] numbers xs)
    pub spent : AllSpend (weight_among xs) (said_among xs) ts
    pub lined : list_any (has is_paragraph) (list_of ts) ≡ false
    pub plain : has_task xs ≡ false → AreLineTrees xs ts
    pub shows : show false ts ≡ true
    pub first : heading_keeps (behind_box xs) ≡ true → come_first ts ≡ true

  plain-shown : (xs : Inlines) (f : NumberedForest) (n : ℕ) → Stands (value_forest f) (line_trees xs)
      → IsPlain xs → line_shows is_rich xs ≡ true → weight_among xs < greatest_count
      → is_ordered 0 f ≡ true
      → IsParagraphTree n (shown_of scripting is_rich None f) xs
  plain-shown xs f n e own formats light o =
      let line = line-shown-at scripting is_rich xs 0 false false None f [] [] covers-none free-none fresh-first e
      own.normal own.held formats light o in
      record {
        numbers = line.numbers;
        rising = line.rising;
        sound = line.sound;
        waits = line.waits;
        gives = line.gives false n;
        spent = line.spent;
        lined = line.lined;
        plain = λ h. seen-trees line.plain (line-seen xs false [] own.whole own.normal own.held) line.bare;
        shows = line.plain.shows (line-seen xs false [] own.whole own.normal own.held);
        first = λ h. led-first (shown_of scripting is_rich None f)
            (line.led (sym (ap heading_keeps (no-box xs own.normal)) ∙ h));
      }

  task-shown : (d : Bool) (xs : Inlines) (f : NumberedForest) (n : ℕ)
      → Stands (value_forest f) (line_trees (inline (task d) xs)) → are_normal false [] xs ≡ true
      → are_held xs ≡ true → goes_seen xs ≡ true → line_shows is_rich xs ≡ true
      → weight_among xs < greatest_count
      → is_ordered 0 f ≡ true
      → LeadsBehind d xs
      → IsParagraphTree n (shown_of scripting is_rich None f) (inline (task d) xs)
  task-shown d xs f n e normal held seen formats light o leads =
      let pairs : List AttributePair = pairs_of_box d in
      let found = from-element f (codes "input") pairs value.none (line_trees xs) e in
      let order = ordered-next 0 f (page.element found.id (codes "input") pairs found.inside) found.rest found.is o in
      let rest = line-shown-at scripting is_rich xs (suc found.id) false false (Some pairs) found.rest [] []
      covers-none free-none (fresh-next pairs) found.others normal held formats light order.rest in
      let ts : Simples = shown_of scripting is_rich (Some pairs) found.rest in
      let tree : Simple = made found.id role.Input pairs none in
      let is : shown_of scripting is_rich None f ≡ more tree ts =
      ap (shown_of scripting is_rich None) found.is
      ∙ (box-shown None found.id found.inside found.rest d
      ∙ ap (λ us. more (made found.id role.Input pairs us) ts)
      (ap (shown_of scripting is_rich None) (from-none found.inside found.within)
      ∙ none-shown scripting is_rich None)) in
      let sound : IsSoundLine (inline (task d) xs) (more tree ts) =
      sound-leaf (task d) xs tree ts refl (λ id. refl) (ap (λ b. b && true) (box-nameless d))
      (λ e. false-true e) rest.sound in
      subst (λ (us : Simples). IsParagraphTree n us (inline (task d) xs)) (sym is)
      (record {
        numbers = numbered found.id unknown rest.numbers;
        rising = rise-more 0 found.id unknown rest.numbers (task d) xs order.least refl rest.rising;
        sound = sound;
        waits = rest.waits;
        gives = λ w. ap (fed_all w) (box-gives n found.id (facts_of none) d (local_all [] ts))
            ∙ rest.gives false n (fed w (part.box d));
        spent = spend-more 0 (weight_among xs) tree ts
            (spend-element 0 found.id role.Input (facts_of none) pairs none refl spend-none) rest.spent;
        lined = rest.lined;
        plain = λ h. true-false h;
        shows = rest.plain.goes seen;
        first = λ h. box-before found.id d ts
            (leads (Some pairs) found.rest (fresh-next pairs) found.others (suc found.id) order.rest h);
      })

  pub paragraph-shown-at : (xs : Inlines) (f : NumberedForest) (n : ℕ) → Stands (value_forest f) (line_trees xs)
      → IsParagraph xs → line_shows is_rich xs ≡ true → weight_among xs < greatest_count
      → is_ordered 0 f ≡ true → IsParagraphTree n (shown_of scripting is_rich None f) xs
  paragraph-shown-at xs f n e own formats light o =
      ⊎_elim (λ p. plain-shown xs f n e p formats light o)
      (λ t.
      let line : Inlines = inline (text (space ∷ t.spaced)) t.rest in
      let held = held-spaced t.first t.spaced t.rest t.normal
      (subst (λ ys. are_held (behind_box ys) ≡ true) t.is t.held) in
      let shows = subst (λ ys. line_shows is_rich ys ≡ true) t.is formats in
      let lean = right-light 0 (weight_among line) (subst (λ ys. weight_among ys < greatest_count) t.is light) in
      subst (λ ys. IsParagraphTree n (shown_of scripting is_rich None f) ys) (sym t.is)
      (task-shown t.first line f n (subst (λ ys. Stands (value_forest f) (line_trees ys)) t.is e) t.normal held
      (box-seen t.first t.spaced t.rest t.normal (subst (λ ys. are_held (behind_box ys) ≡ true) t.is t.held)
      (subst (λ ys. IsWhole (behind_box ys)) t.is t.whole))
      shows lean o (spaced-leads t.first t.spaced t.rest t.normal held shows lean)))
      own

  -- and of one with blocks behind it
  pub steady-paragraph : (xs : Inlines) → IsParagraph xs → line_shows is_rich xs ≡ true
      → AreSteady scripting is_rich (spelled_line xs)
  steady-paragraph xs own formats =
      ⊎_elim (λ p. steady-line scripting is_rich xs false [] p.normal p.held formats)
      (λ t.
      let line : Inlines = inline (text (space ∷ t.spaced)) t.rest in
      subst (λ ys. AreSteady scripting is_rich (spelled_line ys)) (sym t.is)
      (element_first spelled.short (codes "input") (pairs_of_box t.first) spelled.none (spelled_line line)
      (box-steady t.first) refl
      (steady-line scripting is_rich line false [] t.normal
      (held-spaced t.first t.spaced t.rest t.normal (subst (λ ys. are_held (behind_box ys) ≡ true) t.is t.held))
      (subst (λ ys. line_shows is_rich ys ≡ true) t.is formats))))
      own
