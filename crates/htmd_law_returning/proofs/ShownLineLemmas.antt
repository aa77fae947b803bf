-- What shows of the trees of a line, and what that gives.
use Rattle.std.proofs.Common.{◌≡◌, ℕ, Bool, true, false, ◌&&◌, List, [], ◌∷◌}
use Rattle.std.proofs.Common.{◌++◌, refl, sym, ap, ◌∙◌}
use Rattle.std.proofs.Common.{arith, codes, Option, Some, None}
use Rattle.std.proofs.Common.{suc, ◌+◌, ◌*◌, ◌≤◌, subst}
use Rattle.std.proofs.Common.{◌||◌}
use Rattle.std.proofs.Common.{not}
use Rattle.std.proofs.Common.{⊎_elim}
use Rattle.std.proofs.Common.{◌<◌}
use Rattle.htmd_flow.specs.Paragraphs.{fed, fed_all}
use Rattle.std.specs.List.{list_any}
use Rattle.std.proofs.lemmas.Bool.{and_parts, and_from}
use Rattle.std.specs.Option.{unwrap_or}
use Rattle.std.proofs.lemmas.List.{append-nil}
use Rattle.htmd_lexical.specs.AttributePairs.{AttributePair}
use Rattle.htmd_values.specs.ValueTrees as value
use Rattle.htmd_nodes.specs.NumberedTrees.{NumberedForest, value_forest}
use Rattle.htmd_nodes.specs.NumberedTrees as page
use Rattle.htmd_document.specs.Documents.{text, code, formatted, link, image, anchor, line_break, task}
use Rattle.htmd_document.specs.Documents.{Inlines, no_inlines, inline}
use Rattle.htmd_document.specs.Formats.{Format}
use Rattle.htmd_document.specs.NormalInlines.{is_text, is_trimmed, are_normal, has_none}
use Rattle.htmd_flow.specs.Parts as part
use Rattle.htmd_flow.specs.Parts.{Around, Part}
use Rattle.htmd_flow.specs.Levels.{list_of}
use Rattle.htmd_shown.specs.Marks as marks
use Rattle.htmd_shown.specs.declared.role.Role.TheVariants as role
use Rattle.htmd_shown.specs.Attributes.{address}
use Rattle.htmd_shown.specs.Attributes.{is_to_part}
use Rattle.htmd_shown.specs.Facts.{made}
use Rattle.htmd_shown.specs.Facts.{facts_of}
use Rattle.htmd_shown.specs.Roles.{is_paragraph}
use Rattle.htmd_shown.specs.Shown.{marked, raised}
use Rattle.htmd_shown.specs.ShownTexts.{shown_text}
use Rattle.htmd_shown.specs.SimpleTrees.{Simple, Simples, none, more, element}
use Rattle.htmd_shown.specs.SimpleTrees as simple
use Rattle.htmd_shown.specs.Spaces.{is_blank_text}
use Rattle.htmd_shown.specs.Kinds.{has}
use Rattle.htmd_law_rendering.specs.SpelledTrees.{value_forest as forest_of}
use Rattle.htmd_law_rendering.specs.SpelledTrees as spelled
use Rattle.htmd_law_rendering.specs.RenderedTrees.{text_before, line_end, format_name, pairs_of_image}
use Rattle.htmd_law_rendering.specs.RenderedTrees.{encoded_address, pairs_of_format}
use Rattle.htmd_law_rendering.specs.RenderedTrees.{pairs_of_link}
use Rattle.htmd_law_returning.specs.SettledDocuments.{title_weight}
use Rattle.htmd_law_returning.specs.PageFormats.{format_shows, line_shows}
use Rattle.htmd_law_returning.specs.SettledDocuments.{weight_among, count_among}
use Rattle.htmd_law_returning.specs.SettledDocuments.{letters_in, have_images, is_own_place, are_away}
use Rattle.htmd_law_returning.proofs.AddressLemmas.{title-stays}
use Rattle.htmd_law_returning.proofs.AddressLemmas.{image-nameless}
use Rattle.htmd_law_returning.proofs.AddressLemmas.{link-nameless, link-title, link-address, link-size}
use Rattle.htmd_law_returning.proofs.AddressLemmas.{image-letters}
use Rattle.htmd_law_returning.specs.NoAnchors.{have_no_anchors}
use Rattle.htmd_law_returning.specs.WholeLines.{begins_white}
use Rattle.htmd_law_returning.proofs.BareLemmas.{are_bare}
use Rattle.htmd_law_returning.proofs.FlowAnchors.{firsts_show}
use Rattle.htmd_law_returning.proofs.LocalAnchors.{local_all, own_id}
use Rattle.htmd_law_returning.proofs.LocalLines.{AreBehind, text-local, code-local, image-local, element-local}
use Rattle.htmd_law_returning.proofs.LocalLines.{more-local, first-behind, place-behind, place-id, place-led}
use Rattle.htmd_law_returning.proofs.LocalLines.{place-counted, format-first, format-placeless, whole-opens}
use Rattle.htmd_law_returning.proofs.LocalLines.{bare-led}
use Rattle.htmd_law_returning.proofs.PlacedTrees.{all-bare-nameless}
use Rattle.htmd_law_returning.proofs.SoundTrees.{sound-end, sound-leaf, sound-format, sound-link, sound-place}
use Rattle.htmd_law_returning.proofs.LineLemmas.{linked-unled}
use Rattle.htmd_law_returning.proofs.PieceLemmas.{anchor-pieced}
use Rattle.htmd_law_returning.proofs.LineFactLemmas.{anchor-in-line, one-seen, line-seen}
use Rattle.htmd_law_returning.proofs.HeldLemmas.{link-plain}
use Rattle.htmd_law_returning.proofs.TreesLemmas.{pairs_of_anchor}
use Rattle.htmd_law_returning.proofs.ShownInlines.{place-at}
use Rattle.htmd_law_returning.proofs.BareLemmas.{has_no_name}
use Rattle.htmd_law_returning.proofs.PieceLemmas.{none_yet, none-follows, none-pieced, more-pieced}
use Rattle.htmd_law_returning.proofs.PieceLemmas.{text-step, code-step, image-step, inner-step}
use Rattle.htmd_law_returning.proofs.LineParts.{parts_in}
use Rattle.htmd_law_returning.proofs.LineFormLemmas.{normal-one, settled-one}
use Rattle.htmd_law_returning.proofs.LineFormLemmas.{IsFormat, format-normal}
use Rattle.htmd_law_returning.proofs.LineParts.{unknown, numbered}
use Rattle.htmd_law_returning.proofs.LineParts.{rise-more}
use Rattle.htmd_law_returning.proofs.LineFormLemmas.{IsLink, link-normal}
use Rattle.htmd_law_returning.proofs.LineFormLemmas.{code-normal}
use Rattle.htmd_law_returning.proofs.PageLemmas.{from-none, from-text, from-element, plain-content, IsFresh}
use Rattle.htmd_law_returning.proofs.PageLemmas.{fresh-first}
use Rattle.htmd_law_returning.proofs.PageLemmas.{fresh-next}
use Rattle.htmd_law_returning.proofs.TextLemmas.{IsLine, text-line}
use Rattle.htmd_law_returning.proofs.TreesLemmas.{spelled_line, line_trees}
use Rattle.htmd_law_returning.proofs.BreakLemmas.{IsBreak, some-text}
use Rattle.htmd_law_returning.proofs.StandLemmas.{is_break, Stands, beside}
use Rattle.htmd_law_returning.proofs.StartLemmas.{false-true, true-false}
use Rattle.htmd_law_returning.proofs.CostLemmas.{spend-none, spend-image, spend-more}
use Rattle.htmd_law_returning.proofs.CostLemmas.{spend-element, spend-carrying, leaves-more, one-leaf}
use Rattle.htmd_law_returning.proofs.CostLemmas.{inline-leaves, count-light, spend-words}
use Rattle.htmd_document_of_tree.specs.Limits.{characters}
use Rattle.htmd_shown.specs.Pieces.{greatest_count}
use Rattle.htmd_law_returning.proofs.FormatLemmas.{Covers, covers-more, covers-link, inside-formats}
use Rattle.htmd_law_returning.proofs.FormatLemmas.{format-tableless}
use Rattle.htmd_law_returning.proofs.LineFactLemmas.{none-in-line, more-in-line}
use Rattle.htmd_law_returning.proofs.LineFactLemmas.{format-preless, format-seen, format-bold}
use Rattle.htmd_law_returning.proofs.FormatLemmas.{format_role, IsInlineRole, format-inline, format-bare}
use Rattle.htmd_law_returning.proofs.FormatLemmas.{format-spent, format-unbroken}
use Rattle.htmd_law_returning.proofs.InlineLemmas.{IsFree, free-more, free-link, both-fed}
use Rattle.htmd_law_returning.proofs.InlineLemmas.{left-light, right-light}
use Rattle.htmd_law_returning.proofs.InlineLemmas.{at-most-suc, image-kept}
use Rattle.htmd_law_returning.proofs.InlineLemmas.{show-both, away-shown}
use Rattle.htmd_law_returning.proofs.OrderLemmas.{is_ordered, ordered-next}
use Rattle.htmd_law_returning.proofs.HeldLemmas.{are_black_inside}
use Rattle.htmd_law_returning.proofs.HeldLemmas.{are_held}
use Rattle.htmd_law_returning.proofs.ShownInlines.{shown_at, none-at, text-at, code-at, image-at, link-at, format-at}
use Rattle.htmd_law_returning.proofs.InlineParts.{gives_at, none-gives, text-gives, code-gives, image-gives}
use Rattle.htmd_law_returning.proofs.InlineParts.{format-gives, link-gives}
use Rattle.htmd_law_returning.proofs.ShownBreaks.{IsShownLine, from-line, code-text, line-end-at, unended-at}

module _ (scripting is_rich : Bool) where
  -- what is asked in a heading or not: its formats show, and in one no link is for its own place
  abbrev pub all_show : Bool → Inlines → Bool
  all_show h xs = (not h || are_away xs) && line_shows is_rich xs

  pub line-shown-at : (xs : Inlines) (k : ℕ) (b h : Bool) (before : Option (List AttributePair)) (f : NumberedForest)
      (around : List Around) (fs : List Format) → Covers around fs → IsFree b around → IsFresh before
      → Stands (value_forest f) (line_trees xs) → are_normal b fs xs ≡ true → are_held xs ≡ true
      → all_show h xs ≡ true
      → weight_among xs < greatest_count → is_ordered k f ≡ true
      → IsShownLine scripting is_rich k h before f around xs
  line-shown-at no_inlines k b h before f around fs covers free fresh e normal settled formats light o =
      from-line scripting is_rich k (shown_at scripting is_rich h before f) none around no_inlines
      (ap (shown_at scripting is_rich h before) (from-none f e) ∙ none-at scripting is_rich h before)
      (record {
        numbers = unknown;
        rising = refl;
        bare = λ e. refl;
        led = λ e. refl;
        gives = λ flat n w. ap (fed_all w) (none-gives is_rich flat n around);
        waits = refl;
        behind = λ h ids. true-false h;
        first = λ h a. true-false h;
        sound = sound-end;
        spent = spend-none;
        counted = omega arith;
        pieces = none-pieced;
        seen = refl;
        pictured = refl;
        lined = refl;
        plain = none-in-line;
      })
  line-shown-at (inline (text s) xs) k b h before f around fs covers free fresh e normal settled formats light o =
      let good = normal-one b fs (text s) xs normal in
      let own = settled-one (text s) xs settled in
      let l : IsLine s = text-line s own.own good.own in
      let found = from-text f s (line_trees xs) e in
      let order = ordered-next k f (page.text found.id s) found.rest found.is o in
      let rest = line-shown-at xs (suc found.id) b h before found.rest around fs covers free fresh found.others
      good.rest own.rest formats (right-light 0 (weight_among xs) light) order.rest in
      let ts : Simples = shown_at scripting is_rich h before found.rest in
      let tree : Simple = simple.text s in
      let all = more-local tree tree ts (text-local s) in
      let shows : (has_none (inline (text s) xs) || begins_white (inline (text s) xs)) ≡ false
      → firsts_show (more tree ts) ≡ true = λ e. one-seen (text s) b fs refl e refl good.own own.own in
      let own_gives : AreBehind is_rich [] around (more tree ts)
      (part.run s around false ∷ parts_in around rest.numbers xs) = record {
        gives = λ flat n w. ap (λ us. fed_all w (gives_at is_rich flat n around us)) all.0
            ∙ (ap (fed_all w) (text-gives is_rich flat n around s (local_all [] ts))
            ∙ rest.gives flat n (fed w (part.run s around false)));
        waits = all.1 ∙ rest.waits;
      } in
      from-line scripting is_rich k (shown_at scripting is_rich h before f) (more (simple.text s) ts) around
      (inline (text s) xs)
      (ap (shown_at scripting is_rich h before) found.is
      ∙ (text-at scripting is_rich h before found.id s found.rest ∙ ap (λ t. more (simple.text t) ts) l.shown))
      (record {
        numbers = numbered found.id unknown rest.numbers;
        rising = rise-more k found.id unknown rest.numbers (text s) xs order.least refl rest.rising;
        bare = rest.bare;
        led = λ e. (all-bare-nameless ts (rest.bare e)).0;
        gives = own_gives.gives;
        waits = own_gives.waits;
        behind = λ h ids. first-behind is_rich ids around (more tree ts)
            (part.run s around false ∷ parts_in around rest.numbers xs) (shows h) own_gives;
        first = λ h a. shows h;
        sound = sound-leaf (text s) xs tree ts refl (λ id. refl) refl (λ e. e) rest.sound;
        spent = spend-more 0 (weight_among xs) (simple.text s) ts (spend-words s) rest.spent;
        counted = leaves-more 1 (count_among xs) (simple.text s) ts (one-leaf (is_blank_text s)) rest.counted;
        pieces = more-pieced (text s) xs (simple.text s) ts (λ q g. text-step q s xs l.some g) rest.pieces;
        seen = ap (λ x. marks.letters s ++ x) rest.seen;
        pictured = rest.pictured;
        lined = rest.lined;
        plain = more-in-line (text s) xs (simple.text s) ts refl refl refl (λ e. e) (λ e. e) rest.plain;
      })
  line-shown-at (inline (code s) xs) k b h before f around fs covers free fresh e normal settled formats light o =
      let good = normal-one b fs (code s) xs normal in
      let own = settled-one (code s) xs settled in
      let kind = and_parts (is_text s) (is_trimmed s) good.own in
      let known = code-normal s own.own good.own in
      let l : IsLine s = known.line in
      let found = from-element f (codes "code") [] (forest_of (text_before s spelled.none)) (line_trees xs) e in
      let order = ordered-next k f (page.element found.id (codes "code") [] found.inside) found.rest found.is o in
      let inner = from-text found.inside s value.none (subst (Stands (value_forest found.inside))
      (code-text scripting is_rich s (some-text s kind.0)) found.within) in
      let rest = line-shown-at xs (suc found.id) b h (Some []) found.rest around fs covers free
      (fresh-next []) found.others good.rest
      own.rest formats (right-light 0 (weight_among xs) light) order.rest in
      let ts : Simples = shown_at scripting is_rich h (Some []) found.rest in
      let content : shown_at scripting is_rich h None found.inside ≡ more (simple.text s) none =
      ap (shown_at scripting is_rich h None)
      (inner.is ∙ ap (page.more (page.text inner.id s)) (from-none inner.rest inner.others))
      ∙ (text-at scripting is_rich h None inner.id s page.none
      ∙ (ap (more (simple.text (shown_text s))) (none-at scripting is_rich h None)
      ∙ ap (λ t. more (simple.text t) none) l.shown)) in
      let leaf : Simples = more (simple.text s) none in
      let tree : Simple = made found.id role.Code [] leaf in
      let all = more-local tree tree ts (code-local found.id (facts_of leaf) s) in
      let shows : (has_none (inline (code s) xs) || begins_white (inline (code s) xs)) ≡ false
      → firsts_show (more tree ts) ≡ true =
      λ e. one-seen (code s) b fs refl refl refl good.own own.own in
      let own_gives : AreBehind is_rich [] around (more tree ts)
      (part.run s around true ∷ parts_in around rest.numbers xs) = record {
        gives = λ flat n w. ap (λ us. fed_all w (gives_at is_rich flat n around us)) all.0
            ∙ (ap (fed_all w) (code-gives is_rich flat n around found.id s (local_all [] ts))
            ∙ rest.gives flat n (fed w (part.run s around true)));
        waits = all.1 ∙ rest.waits;
      } in
      from-line scripting is_rich k (shown_at scripting is_rich h before f) (more tree ts) around (inline (code s) xs)
      (ap (shown_at scripting is_rich h before) found.is
      ∙ (code-at scripting is_rich h before found.id found.inside found.rest fresh
      ∙ ap (λ us. more (made found.id role.Code [] us) ts) content))
      (record {
        numbers = numbered found.id unknown rest.numbers;
        rising = rise-more k found.id unknown rest.numbers (code s) xs order.least refl rest.rising;
        bare = rest.bare;
        led = λ e. (all-bare-nameless ts (rest.bare e)).0;
        gives = own_gives.gives;
        waits = own_gives.waits;
        behind = λ h ids. first-behind is_rich ids around (more tree ts)
            (part.run s around true ∷ parts_in around rest.numbers xs) (shows h) own_gives;
        first = λ h a. shows h;
        sound = sound-leaf (code s) xs tree ts refl (λ id. refl) refl (λ e. ap (λ x. x || false) e) rest.sound;
        spent = spend-more 0 (weight_among xs) tree ts
            (spend-element 0 found.id role.Code (facts_of leaf) [] leaf refl
            (spend-more 0 0 (simple.text s) none (spend-words s) spend-none)) rest.spent;
        counted = leaves-more 1 (count_among xs) tree ts
            (leaves-more 1 0 (simple.text s) none (one-leaf (is_blank_text s)) (omega arith)) rest.counted;
        pieces = more-pieced (code s) xs tree ts (λ q g. code-step q s xs found.id l.some known.begins) rest.pieces;
        seen = ap (λ x. x ++ marks.letters_among ts) (append-nil (marks.letters s)) ∙ ap
            (λ x. marks.letters s ++ x) rest.seen;
        pictured = rest.pictured;
        lined = rest.lined;
        plain = more-in-line (code s) xs tree ts refl refl refl (λ e. ap (λ x. x || false) e)
            (λ e. ap (λ x. x || false) e) rest.plain;
      })
  line-shown-at (inline (formatted m c) xs) k b h before f around fs covers free fresh e normal settled formats light
      o =
      let good = normal-one b fs (formatted m c) xs normal in
      let own = settled-one (formatted m c) xs settled in
      let held = and_parts (are_black_inside c) (are_held c) own.own in
      let shows = show-both h (are_away c) (are_away xs) (format_shows is_rich m && line_shows is_rich c)
      (line_shows is_rich xs) formats in
      let first = and_parts (not h || are_away c) (format_shows is_rich m && line_shows is_rich c) shows.0 in
      let seen_here = and_parts (format_shows is_rich m) (line_shows is_rich c) first.1 in
      let content_shows = and_from (not h || are_away c) (line_shows is_rich c) first.0 seen_here.1 in
      let g : IsFormat b fs m c = format-normal b fs m c good.own held.0 in
      let pairs : List AttributePair = pairs_of_format m in
      let load : ℕ = title_weight m * count_among c + weight_among c in
      let heavy : load < greatest_count = left-light load (weight_among xs) light in
      let found = from-element f (format_name m) pairs (line_trees c) (line_trees xs) e in
      let others : Stands (value_forest found.rest) (line_trees xs) =
      beside (is_break (format_name m)) (value_forest found.rest) (line_trees xs) (format-unbroken m) found.others in
      let order = ordered-next k f (page.element found.id (format_name m) pairs found.inside) found.rest found.is o in
      let within = line-shown-at c 0 b h None found.inside (around ++ part.formatted m ∷ []) (m ∷ fs)
      (covers-more around fs m covers) (free-more b around m free) fresh-first found.within g.normal held.1
      content_shows (right-light (title_weight m * count_among c) (weight_among c) heavy) order.inside in
      let rest = line-shown-at xs (suc found.id) b h (Some pairs) found.rest around fs covers free
      (fresh-next pairs) others good.rest
      own.rest shows.1 (right-light load (weight_among xs) light) order.rest in
      let ts : Simples = shown_at scripting is_rich h (Some pairs) found.rest in
      let content : Simples = shown_at scripting is_rich h None found.inside in
      let tree : Simple = made found.id (format_role m) pairs content in
      let kind : IsInlineRole (format_role m) = format-inline m in
      let ps : List Part = parts_in (around ++ part.formatted m ∷ []) within.numbers c in
      let one = element-local found.id (format_role m) (facts_of content) pairs content kind.verbatim
      (format-placeless found.id m (facts_of content) pairs content) within.waits in
      let all = more-local tree (element found.id (format_role m) (facts_of content) pairs (local_all [] content)) ts
      one in
      let shows : (has_none (inline (formatted m c) xs) || begins_white (inline (formatted m c) xs)) ≡ false
      → firsts_show (more tree ts) ≡ true =
      λ e. format-first found.id m (facts_of content) pairs content ts
      (within.first (whole-opens c g.whole) g.unled) in
      let own_gives : AreBehind is_rich [] around (more tree ts) (ps ++ parts_in around rest.numbers xs) = record {
        gives = λ flat n w. ap (λ us. fed_all w (gives_at is_rich flat n around us)) all.0
            ∙ (ap (fed_all w) (format-gives is_rich flat n around found.id m (facts_of content) (local_all [] content)
            (local_all [] ts) seen_here.0 g.titled (inside-formats flat is_rich n around fs m covers g.free))
            ∙ both-fed w (gives_at is_rich flat n (around ++ part.formatted m ∷ []) (local_all [] content)) ps
            (gives_at is_rich flat n around (local_all [] ts)) (parts_in around rest.numbers xs)
            (within.gives flat n w) (rest.gives flat n));
        waits = all.1 ∙ rest.waits;
      } in
      let bare : have_no_anchors (inline (formatted m c) xs) ≡ true → are_bare (more tree ts) ≡ true =
      λ e. let p = and_parts (have_no_anchors c) (have_no_anchors xs) e in
      ap (λ x. x && are_bare ts) (format-bare found.id m content (within.bare p.0)) ∙ rest.bare p.1 in
      from-line scripting is_rich k (shown_at scripting is_rich h before f) (more tree ts) around
      (inline (formatted m c) xs)
      (ap (shown_at scripting is_rich h before) found.is
      ∙ format-at scripting is_rich h before found.id found.inside found.rest m seen_here.0 fresh)
      (record {
        numbers = numbered found.id within.numbers rest.numbers;
        rising = rise-more k found.id within.numbers rest.numbers
            (formatted m c) xs order.least within.rising rest.rising;
        bare = bare;
        led = λ e. bare-led (more tree ts) (bare e);
        gives = own_gives.gives;
        waits = own_gives.waits;
        behind = λ h ids. first-behind is_rich ids around (more tree ts) (ps ++ parts_in around rest.numbers xs)
            (shows h) own_gives;
        first = λ h a. shows h;
        sound = sound-format m c xs found.id content ts within.sound rest.sound;
        spent = spend-more load (weight_among xs) tree ts
            (format-spent is_rich m (weight_among c) (count_among c) found.id content seen_here.0 g.titled
            within.counted heavy within.spent) rest.spent;
        counted = leaves-more (count_among c) (count_among xs) tree ts
            (subst (λ (l : ℕ). l ≤ count_among c)
            (sym (inline-leaves found.id (format_role m) (facts_of content) pairs content kind.verbatim))
            within.counted)
            rest.counted;
        pieces = more-pieced (formatted m c) xs tree ts (λ q u. inner-step q (formatted m c) xs found.id
            (format_role m) pairs c content kind.verbatim kind.breaks kind.edged within.pieces g.whole) rest.pieces;
        seen = ap (λ x. x ++ marks.letters_among ts) within.seen ∙ ap (λ x. letters_in c ++ x) rest.seen;
        pictured = ap (λ x. x || marks.have_image ts) within.pictured ∙ ap (λ x. have_images c || x) rest.pictured;
        lined = ap (λ x. x || list_any (has is_paragraph) (list_of ts)) kind.lined ∙ rest.lined;
        plain = more-in-line (formatted m c) xs tree ts (format-tableless found.id m pairs content
            within.plain.tableless) (format-preless found.id m pairs content within.plain.preless) refl
            (λ e. format-seen found.id m pairs content (within.plain.shows e))
            (λ e. format-bold found.id m pairs content (within.plain.bold e)) rest.plain;
      })
  line-shown-at (inline (link a t c) xs) k b h before f around fs covers free fresh e normal settled formats light o =
      let away : Bool = not (is_own_place a c) in
      let shows = show-both h (away && are_away c) (are_away xs) (line_shows is_rich c) (line_shows is_rich xs)
      formats in
      let first = show-both h away (are_away c) true (line_shows is_rich c) shows.0 in
      let other_place = (and_parts (not h || away) true first.0).0 in
      let good = normal-one b fs (link a t c) xs normal in
      let own = settled-one (link a t c) xs settled in
      let g : IsLink b fs a t c = link-normal b fs a t c good.own own.own in
      let pairs : List AttributePair = pairs_of_link a t in
      let load : ℕ = suc (characters a + characters (unwrap_or t [])) in
      let heavy : load * count_among c + weight_among c < greatest_count =
      left-light (load * count_among c + weight_among c) (weight_among xs) light in
      let found = from-element f (codes "a") pairs (line_trees c) (line_trees xs) e in
      let order = ordered-next k f (page.element found.id (codes "a") pairs found.inside) found.rest found.is o in
      let within = line-shown-at c 0 true h None found.inside (around ++ part.linked found.id a t ∷ []) fs
      (covers-link around fs found.id a t covers) (free-link (around ++ part.linked found.id a t ∷ [])) fresh-first
      found.within g.normal g.settled first.1 (right-light (load * count_among c) (weight_among c) heavy)
      order.inside in
      let rest = line-shown-at xs (suc found.id) b h (Some pairs) found.rest around fs covers free
      (fresh-next pairs) found.others
      good.rest own.rest shows.1 (right-light (load * count_among c + weight_among c) (weight_among xs) light)
      order.rest in
      let ts : Simples = shown_at scripting is_rich h (Some pairs) found.rest in
      let content : Simples = shown_at scripting is_rich h None found.inside in
      let tree : Simple = made found.id role.Link pairs content in
      let kept : address (encoded_address a) ≡ a = link-address a g.address in
      let ps : List Part = parts_in (around ++ part.linked found.id a t ∷ []) within.numbers c in
      let one = element-local found.id role.Link (facts_of content) pairs content refl refl within.waits in
      let all = more-local tree (element found.id role.Link (facts_of content) pairs (local_all [] content)) ts one in
      let shows : (has_none (inline (link a t c) xs) || begins_white (inline (link a t c) xs)) ≡ false
      → firsts_show (more tree ts) ≡ true =
      λ e. within.first (whole-opens c g.whole) (linked-unled fs c g.normal) in
      let own_gives : AreBehind is_rich [] around (more tree ts) (ps ++ parts_in around rest.numbers xs) = record {
        gives = λ flat n w. ap (λ us. fed_all w (gives_at is_rich flat n around us)) all.0
            ∙ (ap (fed_all w) (link-gives is_rich flat n around found.id a t (facts_of content) (local_all [] content)
            (local_all [] ts) (free g.outside) kept (link-title a t ∙ title-stays t g.title g.one_line))
            ∙ both-fed w (gives_at is_rich flat n (around ++ part.linked found.id a t ∷ []) (local_all [] content))
            ps
            (gives_at is_rich flat n around (local_all [] ts)) (parts_in around rest.numbers xs)
            (within.gives flat n w) (rest.gives flat n));
        waits = all.1 ∙ rest.waits;
      } in
      let bare : have_no_anchors (inline (link a t c) xs) ≡ true → are_bare (more tree ts) ≡ true =
      λ e. let p = and_parts (have_no_anchors c) (have_no_anchors xs) e in
      ap (λ x. ((x && has_no_name pairs) && are_bare content) && are_bare ts)
      (within.pieces none_yet (none-follows c)).joined
      ∙ (ap (λ x. (x && are_bare content) && are_bare ts) (link-nameless a t)
      ∙ (ap (λ x. x && are_bare ts) (within.bare p.0) ∙ rest.bare p.1)) in
      from-line scripting is_rich k (shown_at scripting is_rich h before f) (more tree ts) around
      (inline (link a t c) xs)
      (ap (shown_at scripting is_rich h before) found.is
      ∙ link-at scripting is_rich h before found.id found.inside found.rest a t
      (ap (λ x. h && (is_to_part x && marks.is_mark marks.is_usual_sign (marked false (raised [] found.id content))))
      kept
      ∙ (ap (λ us. h && (is_to_part a && marks.is_mark marks.is_usual_sign us)) (plain-content found.id content)
      ∙ away-shown h (is_own_place a c) (is_to_part a && marks.is_mark marks.is_usual_sign content) other_place
      (ap (λ x. is_to_part a && (marks.is_one marks.is_usual_sign x && not (marks.have_image content))) within.seen
      ∙ ap (λ x. is_to_part a && (marks.is_one marks.is_usual_sign (letters_in c) && not x)) within.pictured))))
      (record {
        numbers = numbered found.id within.numbers rest.numbers;
        rising = rise-more k found.id within.numbers rest.numbers (link a t c) xs order.least within.rising rest.rising;
        bare = bare;
        led = λ e. bare-led (more tree ts) (bare e);
        gives = own_gives.gives;
        waits = own_gives.waits;
        behind = λ h ids. first-behind is_rich ids around (more tree ts) (ps ++ parts_in around rest.numbers xs)
            (shows h) own_gives;
        first = λ h a. shows h;
        sound = sound-link a t c xs found.id content ts g.address (within.bare (link-plain fs c g.normal))
            (within.pieces none_yet (none-follows c)).joined (line-seen c true fs g.whole g.normal g.settled)
            within.sound rest.sound;
        spent = spend-more (load * count_among c + weight_among c) (weight_among xs) tree ts
            (spend-carrying load (weight_among c) (count_among c) found.id role.Link pairs content a
            (unwrap_or t []) refl kept
            (ap (λ s. unwrap_or s []) (link-title a t ∙ title-stays t g.title g.one_line))
            (at-most-suc (link-size a t g.address g.title g.one_line)) within.counted
            (count-light (characters a + characters (unwrap_or t [])) (count_among c)
            (left-light (load * count_among c) (weight_among c) heavy)) within.spent) rest.spent;
        counted = leaves-more (count_among c) (count_among xs) tree ts within.counted rest.counted;
        pieces = more-pieced (link a t c) xs tree ts (λ q u. inner-step q (link a t c) xs found.id role.Link pairs c
            content refl refl refl within.pieces g.whole) rest.pieces;
        seen = ap (λ x. x ++ marks.letters_among ts) within.seen ∙ ap (λ x. letters_in c ++ x) rest.seen;
        pictured = ap (λ x. x || marks.have_image ts) within.pictured ∙ ap (λ x. have_images c || x) rest.pictured;
        lined = rest.lined;
        plain = more-in-line (link a t c) xs tree ts within.plain.tableless within.plain.preless
            refl within.plain.shows within.plain.bold rest.plain;
      })
  line-shown-at (inline (image a t d) xs) k b h before f around fs covers free fresh e normal settled formats light o =
      let good = normal-one b fs (image a t d) xs normal in
      let own = settled-one (image a t d) xs settled in
      let kept = image-kept a t d good.own own.own in
      let pairs : List AttributePair = pairs_of_image a t d in
      let found = from-element f (codes "img") pairs value.none (line_trees xs) e in
      let order = ordered-next k f (page.element found.id (codes "img") pairs found.inside) found.rest found.is o in
      let rest = line-shown-at xs (suc found.id) b h (Some pairs) found.rest around fs covers free
      (fresh-next pairs) found.others
      good.rest own.rest formats (right-light 0 (weight_among xs) light) order.rest in
      let ts : Simples = shown_at scripting is_rich h (Some pairs) found.rest in
      let tree : Simple = simple.image (Some (encoded_address a)) pairs in
      let all = more-local tree tree ts (image-local (Some (encoded_address a)) pairs) in
      let own_gives : AreBehind is_rich [] around (more tree ts)
      (part.picture a t d around ∷ parts_in around rest.numbers xs) = record {
        gives = λ flat n w. ap (λ us. fed_all w (gives_at is_rich flat n around us)) all.0
            ∙ (ap (fed_all w) (image-gives is_rich flat n around (encoded_address a) pairs (local_all [] ts)
            ∙ ap (λ p. p ∷ gives_at is_rich flat n around (local_all [] ts)) (kept.is around))
            ∙ rest.gives flat n (fed w (part.picture a t d around)));
        waits = all.1 ∙ rest.waits;
      } in
      let bare : have_no_anchors xs ≡ true → are_bare (more tree ts) ≡ true =
      λ e. ap (λ x. x && are_bare ts) (image-nameless a t d) ∙ rest.bare e in
      from-line scripting is_rich k (shown_at scripting is_rich h before f) (more tree ts) around
      (inline (image a t d) xs)
      (ap (shown_at scripting is_rich h before) found.is
      ∙ image-at scripting is_rich h before found.id found.inside found.rest a t d)
      (record {
        numbers = numbered found.id unknown rest.numbers;
        rising = rise-more k found.id unknown rest.numbers (image a t d) xs order.least refl rest.rising;
        bare = bare;
        led = λ e. bare-led (more tree ts) (bare e);
        gives = own_gives.gives;
        waits = own_gives.waits;
        behind = λ h ids. first-behind is_rich ids around (more tree ts)
            (part.picture a t d around ∷ parts_in around rest.numbers xs) refl own_gives;
        first = λ h a. refl;
        sound = sound-leaf (image a t d) xs tree ts refl (λ id. refl) (image-nameless a t d) (λ e. refl) rest.sound;
        spent = spend-more 0 (weight_among xs) tree ts (spend-image (Some (encoded_address a)) pairs) rest.spent;
        counted = leaves-more 1 (count_among xs) tree ts (omega arith) rest.counted;
        pieces = more-pieced (image a t d) xs tree ts
            (λ q g. image-step q a t d xs (encoded_address a) pairs) rest.pieces;
        seen = ap (λ x. x ++ marks.letters_among ts) (image-letters a t d) ∙ ap
            (λ x. marks.letters d ++ x) rest.seen;
        pictured = refl;
        lined = rest.lined;
        plain = more-in-line (image a t d) xs tree ts refl refl refl (λ e. refl) (λ e. refl) rest.plain;
      })
  line-shown-at (inline (anchor s) xs) k b h before f around fs covers free fresh e normal settled formats light o =
      let good = normal-one b fs (anchor s) xs normal in
      let own = settled-one (anchor s) xs settled in
      let is_id : is_text s ≡ true =
      (and_parts (not b) (is_text s) (and_parts (not b && is_text s) (is_trimmed s) good.own).0).1 in
      let pairs : List AttributePair = pairs_of_anchor s in
      let found = from-element f (codes "a") pairs value.none (line_trees xs) e in
      let order = ordered-next k f (page.element found.id (codes "a") pairs found.inside) found.rest found.is o in
      let rest = line-shown-at xs (suc found.id) b h (Some pairs) found.rest around fs covers free
      (fresh-next pairs) found.others good.rest
      own.rest formats (right-light 0 (weight_among xs) light) order.rest in
      let ts : Simples = shown_at scripting is_rich h (Some pairs) found.rest in
      let tree : Simple = made found.id role.Target pairs none in
      let place : own_id tree ≡ s ∷ [] = place-id found.id s own.own is_id in
      let behind : (ids : List (List ℕ))
      → AreBehind is_rich ids around (more tree ts) (part.place s ∷ parts_in around rest.numbers xs) =
      λ ids. place-behind is_rich ids around s found.id (facts_of none) pairs ts (parts_in around rest.numbers xs)
      place
      (rest.behind own.followed (ids ++ s ∷ [])) in
      from-line scripting is_rich k (shown_at scripting is_rich h before f) (more tree ts) around (inline (anchor s) xs)
      (ap (shown_at scripting is_rich h before) found.is
      ∙ (place-at scripting is_rich h before found.id s found.inside found.rest
      ∙ ap (λ us. more (made found.id role.Target pairs us) ts)
      (ap (shown_at scripting is_rich h None) (from-none found.inside found.within)
      ∙ none-at scripting is_rich h None)))
      (record {
        numbers = numbered found.id unknown rest.numbers;
        rising = rise-more k found.id unknown rest.numbers (anchor s) xs order.least refl rest.rising;
        bare = λ e. false-true e;
        led = λ e. place-led found.id s ts own.own is_id (rest.led e);
        gives = (behind []).gives;
        waits = (behind []).waits;
        behind = λ h ids. behind ids;
        first = λ h a. true-false a;
        sound = sound-place s xs found.id ts own.own is_id rest.sound;
        spent = spend-more 0 (weight_among xs) tree ts
            (spend-element 0 found.id role.Target (facts_of none) pairs none refl spend-none) rest.spent;
        counted = place-counted found.id (count_among xs) pairs ts rest.counted;
        pieces = anchor-pieced s xs found.id pairs ts own.followed rest.pieces;
        seen = rest.seen;
        pictured = rest.pictured;
        lined = rest.lined;
        plain = anchor-in-line s xs found.id pairs ts rest.plain;
      })
  line-shown-at (inline line_break xs) k b h before f around fs covers free fresh e normal settled formats light o =
      let found : IsBreak f xs = from-element f (codes "br") [] value.none (forest_of (line_end (spelled_line xs))) e in
      ⊎_elim
      (λ s. line-end-at scripting is_rich xs k b h before f around fs fresh found s normal settled o
      (λ j g p i n s. line-shown-at xs j b h (Some []) g around fs covers free (fresh-next []) i n s formats
      (right-light 0 (weight_among xs) light) p))
      (λ s. unended-at scripting is_rich xs k b h before f around fs fresh found s normal settled o
      (λ j g p i n s. line-shown-at xs j b h (Some []) g around fs covers free (fresh-next []) i n s formats
      (right-light 0 (weight_among xs) light) p))
      found.others
  line-shown-at (inline (task d) xs) k b h before f around fs covers free fresh e normal settled formats light o =
      false-true (settled-one (task d) xs settled).own
