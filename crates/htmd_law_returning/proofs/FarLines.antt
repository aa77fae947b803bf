-- No link of a line is a sign alone that leads to a part of the page, where none is for its own place.
use Rattle.std.proofs.Common.{◌≡◌, ℕ, suc, ◌+◌, ◌*◌, ◌<◌, Bool, true, false, not, ◌&&◌, ◌||◌, List, [], ◌∷◌, ◌++◌}
use Rattle.std.proofs.Common.{refl, sym, ap, ◌∙◌, subst, Option, Some, None, codes, ⊎_elim}
use Rattle.std.specs.Option.{unwrap_or}
use Rattle.std.specs.Str.{bytes_eq}
use Rattle.std.proofs.lemmas.Bool.{and_parts, and_from}
use Rattle.htmd_lexical.specs.AttributePairs.{AttributePair}
use Rattle.htmd_lexical.specs.Characters.{line_feed, space}
use Rattle.htmd_values.specs.ValueTrees as value
use Rattle.htmd_nodes.specs.NumberedTrees.{NumberedForest, value_forest}
use Rattle.htmd_nodes.specs.NumberedTrees as page
use Rattle.htmd_document.specs.Documents.{Inlines, no_inlines, inline, text, code, formatted, link, image, anchor}
use Rattle.htmd_document.specs.Documents.{line_break, task}
use Rattle.htmd_document.specs.Formats.{Format, Emphasis, Strong, Deleted, Superscript, Subscript, Inserted, Underlined}
use Rattle.htmd_document.specs.Formats.{Marked, Small, Keyboard, Abbreviation}
use Rattle.htmd_document.specs.NormalInlines.{is_text, is_trimmed, are_normal, are_anchors}
use Rattle.htmd_document_of_tree.specs.Limits.{characters}
use Rattle.htmd_flow.specs.Parts as part
use Rattle.htmd_flow.specs.Parts.{Around}
use Rattle.htmd_shown.specs.Attributes.{address, is_to_part}
use Rattle.htmd_shown.specs.Marks as marks
use Rattle.htmd_shown.specs.Permalinks.{is_permalink}
use Rattle.htmd_shown.specs.Pieces.{greatest_count}
use Rattle.htmd_shown.specs.Roles.{is_preformatted, role_of, table_role, heading_or_block, block_role, inline_role}
use Rattle.htmd_shown.specs.Roles.{element_role}
use Rattle.htmd_shown.specs.SimpleTrees.{Simples, none}
use Rattle.htmd_law_rendering.specs.RenderedTrees.{encoded_address, format_name, line_end, pairs_of_box}
use Rattle.htmd_law_rendering.specs.RenderedTrees.{pairs_of_format, pairs_of_image, pairs_of_link, text_before}
use Rattle.htmd_law_rendering.specs.SpelledTrees.{value_forest as forest_of}
use Rattle.htmd_law_rendering.specs.SpelledTrees as spelled
use Rattle.htmd_law_returning.specs.PageFormats.{format_shows, line_shows}
use Rattle.htmd_law_returning.specs.SettledDocuments.{are_away, behind_box, count_among, is_own_place}
use Rattle.htmd_law_returning.specs.SettledDocuments.{letters_in, title_weight, weight_among}
use Rattle.htmd_law_returning.proofs.AddressLemmas.{link-address}
use Rattle.htmd_law_returning.proofs.BoxLemmas.{held-spaced}
use Rattle.htmd_law_returning.proofs.BreakLemmas.{IsBreak, line-filled, some-text}
use Rattle.htmd_law_returning.proofs.FarLinks.{are_far}
use Rattle.htmd_law_returning.proofs.FormatLemmas.{Covers, covers-link, covers-more, covers-none, format-unbroken}
use Rattle.htmd_law_returning.proofs.HeldLemmas.{are_black_inside, are_held}
use Rattle.htmd_law_returning.proofs.InlineLemmas.{IsFree, free-link, free-more, free-none, left-light, right-light}
use Rattle.htmd_law_returning.proofs.LineFormLemmas.{IsFormat, IsLink, format-normal, link-normal, normal-one}
use Rattle.htmd_law_returning.proofs.LineFormLemmas.{settled-one}
use Rattle.htmd_law_returning.proofs.OrderLemmas.{is_ordered, ordered-next}
use Rattle.htmd_law_returning.proofs.PageLemmas.{from-element, from-none, from-text, fresh-first, none-shown, shown_of}
use Rattle.htmd_law_returning.proofs.ShownBreaks.{code-text}
use Rattle.htmd_law_returning.proofs.ShownLineLemmas.{line-shown-at}
use Rattle.htmd_law_returning.proofs.StandLemmas.{Stands, beside, is_break, lacks-end}
use Rattle.htmd_law_returning.proofs.StartLemmas.{false-true, from-not}
use Rattle.htmd_law_returning.proofs.TaskLemmas.{IsParagraph}
use Rattle.htmd_law_returning.proofs.TreesLemmas.{begins_apart, line-end-apart, line_trees, pairs_of_anchor}
use Rattle.htmd_law_returning.proofs.TreesLemmas.{spelled_line}

-- ---- names

format-other : (m : Format) → bytes_eq (format_name m) (codes "a") ≡ false
format-other Emphasis = refl
format-other Strong = refl
format-other Deleted = refl
format-other Superscript = refl
format-other Subscript = refl
format-other Inserted = refl
format-other Underlined = refl
format-other Marked = refl
format-other Small = refl
format-other Keyboard = refl
format-other (Abbreviation title) = refl

-- no `pre`
abbrev pub IsInPlace : List ℕ → Type 0
IsInPlace name = is_preformatted (role_of name) ≡ false

format-plain : (m : Format) → IsInPlace (format_name m)
unfolding role_of table_role heading_or_block block_role inline_role element_role
format-plain Emphasis = refl
format-plain Strong = refl
format-plain Deleted = refl
format-plain Superscript = refl
format-plain Subscript = refl
format-plain Inserted = refl
format-plain Underlined = refl
format-plain Marked = refl
format-plain Small = refl
format-plain Keyboard = refl
format-plain (Abbreviation title) = refl

link-plain : IsInPlace (codes "a")
unfolding role_of table_role heading_or_block block_role inline_role
link-plain = refl

code-plain : IsInPlace (codes "code")
unfolding role_of table_role heading_or_block block_role inline_role
code-plain = refl

image-plain : IsInPlace (codes "img")
unfolding role_of table_role heading_or_block block_role inline_role element_role
image-plain = refl

break-plain : IsInPlace (codes "br")
unfolding role_of table_role heading_or_block block_role inline_role
break-plain = refl

box-plain : IsInPlace (codes "input")
unfolding role_of table_role heading_or_block block_role inline_role
box-plain = refl

-- ---- links

link-kept : (a : List ℕ) (t : Option (List ℕ)) (content : Simples)
    → (is_to_part (address (encoded_address a)) && marks.is_mark marks.is_usual_sign content) ≡ false
    → is_permalink true (pairs_of_link a t) content ≡ false
link-kept a None content e = e
link-kept a (Some s) content e = e

anchor-kept : (s : List ℕ) → is_permalink true (pairs_of_anchor s) none ≡ false
anchor-kept s = refl

module _ (scripting is_rich : Bool) where
  abbrev pub far : NumberedForest → Bool
  far f = are_far scripting is_rich false f

  -- nodes one after another
  pub element-far : (f : NumberedForest) (id : ℕ) (name : List ℕ) (attributes : List AttributePair)
      (inside rest : NumberedForest) → f ≡ page.more (page.element id name attributes inside) rest
      → bytes_eq name (codes "a") ≡ false → IsInPlace name → far inside ≡ true → far rest ≡ true
      → far f ≡ true
  element-far f id name attributes inside rest is other plain h later =
      ap far is
      ∙ (ap (λ b. ((not b || (true && not (is_permalink true attributes (shown_of scripting is_rich None inside))))
      && are_far scripting is_rich (is_preformatted (role_of name)) inside) && far rest) other
      ∙ (ap (λ b. are_far scripting is_rich b inside && far rest) plain
      ∙ and_from (far inside) (far rest) h later))

  link-far : (f : NumberedForest) (id : ℕ) (attributes : List AttributePair) (inside rest : NumberedForest)
      → f ≡ page.more (page.element id (codes "a") attributes inside) rest
      → is_permalink true attributes (shown_of scripting is_rich None inside) ≡ false
      → far inside ≡ true → far rest ≡ true → far f ≡ true
  link-far f id attributes inside rest is kept h later =
      ap far is
      ∙ (ap (λ b. (not b && are_far scripting is_rich (is_preformatted (role_of (codes "a"))) inside) && far rest)
      kept
      ∙ (ap (λ b. are_far scripting is_rich b inside && far rest) link-plain
      ∙ and_from (far inside) (far rest) h later))

  anchor-far : (f : NumberedForest) (id : ℕ) (s : List ℕ) (inside rest : NumberedForest)
      → f ≡ page.more (page.element id (codes "a") (pairs_of_anchor s) inside) rest → inside ≡ page.none
      → far rest ≡ true → far f ≡ true
  anchor-far f id s inside rest is empty later =
      link-far f id (pairs_of_anchor s) page.none rest
      (is ∙ ap (λ g. page.more (page.element id (codes "a") (pairs_of_anchor s) g) rest) empty)
      (ap (is_permalink true (pairs_of_anchor s)) (none-shown scripting is_rich None) ∙ anchor-kept s) refl later

  -- ---- breaks

  abbrev IsLater : Bool → List Format → Inlines → Type 0
  IsLater b fs xs =
      (k : ℕ) (g : NumberedForest) → is_ordered k g ≡ true → Stands (value_forest g) (line_trees xs)
      → are_normal b fs xs ≡ true → are_held xs ≡ true → far g ≡ true

  end-apart : (xs : Inlines) (k : ℕ) → begins_apart xs ≡ true
      → (b : Bool) (fs : List Format) (f : NumberedForest)
      → Stands (value_forest f) (forest_of (line_end (spelled_line xs)))
      → are_normal b fs xs ≡ true → are_held xs ≡ true → is_ordered k f ≡ true → IsLater b fs xs
      → far f ≡ true
  end-apart xs k apart b fs f e normal held o later =
      let line = from-text f (line_feed ∷ []) (line_trees xs)
      (subst (λ ts. Stands (value_forest f) (forest_of ts)) (line-end-apart xs apart) e) in
      let order = ordered-next k f (page.text line.id (line_feed ∷ [])) line.rest line.is o in
      ap far line.is ∙ later (suc line.id) line.rest order.rest line.others normal held

  end-far : (xs : Inlines) (k : ℕ) (b : Bool) (fs : List Format) (f : NumberedForest)
      → Stands (value_forest f) (forest_of (line_end (spelled_line xs)))
      → are_normal b fs xs ≡ true → are_held xs ≡ true → is_ordered k f ≡ true → IsLater b fs xs
      → far f ≡ true
  end-far (inline (text t) xs) k b fs f e normal held o later =
      let line = from-text f (line_feed ∷ t) (line_trees xs) e in
      let without : NumberedForest = page.more (page.text line.id t) line.rest in
      ap far line.is
      ∙ later k without (sym (ap (is_ordered k) line.is) ∙ o) (value_forest line.rest, refl, line.others) normal
      held
  end-far no_inlines k b fs f e normal held o later = end-apart no_inlines k refl b fs f e normal held o later
  end-far (inline (code s) xs) k b fs f e normal held o later =
      end-apart (inline (code s) xs) k refl b fs f e normal held o later
  end-far (inline (formatted m c) xs) k b fs f e normal held o later =
      end-apart (inline (formatted m c) xs) k refl b fs f e normal held o later
  end-far (inline (link a t c) xs) k b fs f e normal held o later =
      end-apart (inline (link a t c) xs) k refl b fs f e normal held o later
  end-far (inline (image a t d) xs) k b fs f e normal held o later =
      end-apart (inline (image a t d) xs) k refl b fs f e normal held o later
  end-far (inline (anchor id) xs) k b fs f e normal held o later =
      end-apart (inline (anchor id) xs) k refl b fs f e normal held o later
  end-far (inline line_break xs) k b fs f e normal held o later =
      end-apart (inline line_break xs) k refl b fs f e normal held o later
  end-far (inline (task d) xs) k b fs f e normal held o later =
      end-apart (inline (task d) xs) k refl b fs f e normal held o later

  -- ---- lines

  pub line-far : (xs : Inlines) (k : ℕ) (b : Bool) (f : NumberedForest) (around : List Around) (fs : List Format)
      → Covers around fs → IsFree b around → Stands (value_forest f) (line_trees xs)
      → are_normal b fs xs ≡ true
      → are_held xs ≡ true → line_shows is_rich xs ≡ true → are_away xs ≡ true
      → weight_among xs < greatest_count → is_ordered k f ≡ true → far f ≡ true
  line-far no_inlines k b f around fs covers free e normal held formats away light o = ap far (from-none f e)
  line-far (inline (text s) xs) k b f around fs covers free e normal held formats away light o =
      let good = normal-one b fs (text s) xs normal in
      let own = settled-one (text s) xs held in
      let found = from-text f s (line_trees xs) e in
      let order = ordered-next k f (page.text found.id s) found.rest found.is o in
      ap far found.is
      ∙ line-far xs (suc found.id) b found.rest around fs covers free found.others good.rest own.rest formats away
      (right-light 0 (weight_among xs) light) order.rest
  line-far (inline (code s) xs) k b f around fs covers free e normal held formats away light o =
      let good = normal-one b fs (code s) xs normal in
      let own = settled-one (code s) xs held in
      let kind = and_parts (is_text s) (is_trimmed s) good.own in
      let found = from-element f (codes "code") [] (forest_of (text_before s spelled.none)) (line_trees xs) e in
      let order = ordered-next k f (page.element found.id (codes "code") [] found.inside) found.rest found.is o in
      let inner = from-text found.inside s value.none (subst (Stands (value_forest found.inside))
      (code-text scripting is_rich s (some-text s kind.0)) found.within) in
      element-far f found.id (codes "code") [] found.inside found.rest found.is refl code-plain
      (ap far inner.is ∙ ap far (from-none inner.rest inner.others))
      (line-far xs (suc found.id) b found.rest around fs covers free found.others good.rest own.rest formats away
      (right-light 0 (weight_among xs) light) order.rest)
  line-far (inline (formatted m c) xs) k b f around fs covers free e normal held formats away light o =
      let good = normal-one b fs (formatted m c) xs normal in
      let own = settled-one (formatted m c) xs held in
      let inner = and_parts (are_black_inside c) (are_held c) own.own in
      let shows = and_parts (format_shows is_rich m && line_shows is_rich c) (line_shows is_rich xs) formats in
      let aways = and_parts (are_away c) (are_away xs) away in
      let g : IsFormat b fs m c = format-normal b fs m c good.own inner.0 in
      let pairs : List AttributePair = pairs_of_format m in
      let load : ℕ = title_weight m * count_among c + weight_among c in
      let found = from-element f (format_name m) pairs (line_trees c) (line_trees xs) e in
      let order = ordered-next k f (page.element found.id (format_name m) pairs found.inside) found.rest found.is o in
      element-far f found.id (format_name m) pairs found.inside found.rest found.is (format-other m) (format-plain m)
      (line-far c 0 b found.inside (around ++ part.formatted m ∷ []) (m ∷ fs) (covers-more around fs m covers)
      (free-more b around m free) found.within g.normal inner.1
      (and_parts (format_shows is_rich m) (line_shows is_rich c) shows.0).1 aways.0
      (right-light (title_weight m * count_among c) (weight_among c) (left-light load (weight_among xs) light))
      order.inside)
      (line-far xs (suc found.id) b found.rest around fs covers free
      (beside (is_break (format_name m)) (value_forest found.rest) (line_trees xs) (format-unbroken m) found.others)
      good.rest own.rest shows.1 aways.1 (right-light load (weight_among xs) light) order.rest)
  line-far (inline (link a t c) xs) k b f around fs covers free e normal held formats away light o =
      let good = normal-one b fs (link a t c) xs normal in
      let own = settled-one (link a t c) xs held in
      let shows = and_parts (line_shows is_rich c) (line_shows is_rich xs) formats in
      let aways = and_parts (not (is_own_place a c) && are_away c) (are_away xs) away in
      let inner = and_parts (not (is_own_place a c)) (are_away c) aways.0 in
      let g : IsLink b fs a t c = link-normal b fs a t c good.own own.own in
      let pairs : List AttributePair = pairs_of_link a t in
      let load : ℕ = suc (characters a + characters (unwrap_or t [])) * count_among c + weight_among c in
      let lighter = right-light (suc (characters a + characters (unwrap_or t [])) * count_among c) (weight_among c)
      (left-light load (weight_among xs) light) in
      let found = from-element f (codes "a") pairs (line_trees c) (line_trees xs) e in
      let order = ordered-next k f (page.element found.id (codes "a") pairs found.inside) found.rest found.is o in
      let linked : List Around = around ++ part.linked found.id a t ∷ [] in
      let content : Simples = shown_of scripting is_rich None found.inside in
      let within = line-shown-at scripting is_rich c 0 true false None found.inside linked fs
      (covers-link around fs found.id a t covers) (free-link linked) fresh-first found.within g.normal g.settled shows.0
      lighter order.inside in
      link-far f found.id pairs found.inside found.rest found.is
      (link-kept a t content
      (ap (λ x. is_to_part x && marks.is_mark marks.is_usual_sign content) (link-address a g.address)
      ∙ (ap (λ x. is_to_part a && (marks.is_one marks.is_usual_sign x && not (marks.have_image content))) within.seen
      ∙ (ap (λ x. is_to_part a && (marks.is_one marks.is_usual_sign (letters_in c) && not x)) within.pictured
      ∙ from-not (is_own_place a c) inner.0))))
      (line-far c 0 true found.inside linked fs (covers-link around fs found.id a t covers) (free-link linked)
      found.within g.normal g.settled shows.0 inner.1 lighter order.inside)
      (line-far xs (suc found.id) b found.rest around fs covers free found.others good.rest own.rest shows.1 aways.1
      (right-light load (weight_among xs) light) order.rest)
  line-far (inline (image a t d) xs) k b f around fs covers free e normal held formats away light o =
      let good = normal-one b fs (image a t d) xs normal in
      let own = settled-one (image a t d) xs held in
      let pairs : List AttributePair = pairs_of_image a t d in
      let found = from-element f (codes "img") pairs value.none (line_trees xs) e in
      let order = ordered-next k f (page.element found.id (codes "img") pairs found.inside) found.rest found.is o in
      element-far f found.id (codes "img") pairs found.inside found.rest found.is refl image-plain
      (ap far (from-none found.inside found.within))
      (line-far xs (suc found.id) b found.rest around fs covers free found.others good.rest own.rest formats away
      (right-light 0 (weight_among xs) light) order.rest)
  line-far (inline (anchor s) xs) k b f around fs covers free e normal held formats away light o =
      let good = normal-one b fs (anchor s) xs normal in
      let own = settled-one (anchor s) xs held in
      let pairs : List AttributePair = pairs_of_anchor s in
      let found = from-element f (codes "a") pairs value.none (line_trees xs) e in
      let order = ordered-next k f (page.element found.id (codes "a") pairs found.inside) found.rest found.is o in
      anchor-far f found.id s found.inside found.rest found.is (from-none found.inside found.within)
      (line-far xs (suc found.id) b found.rest around fs covers free found.others good.rest own.rest formats away
      (right-light 0 (weight_among xs) light) order.rest)
  line-far (inline line_break xs) k b f around fs covers free e normal held formats away light o =
      let good = normal-one b fs line_break xs normal in
      let own = settled-one line_break xs held in
      let found : IsBreak f xs = from-element f (codes "br") [] value.none (forest_of (line_end (spelled_line xs))) e in
      let order = ordered-next k f (page.element found.id (codes "br") [] found.inside) found.rest found.is o in
      let later : IsLater b fs xs = λ j g p i n s. line-far xs j b g around fs covers free i n s formats away
      (right-light 0 (weight_among xs) light) p in
      element-far f found.id (codes "br") [] found.inside found.rest found.is refl break-plain
      (ap far (from-none found.inside found.within))
      (⊎_elim (λ s. end-far xs (suc found.id) b fs found.rest s good.rest own.rest order.rest later)
      (λ s. later (suc found.id) found.rest order.rest
      (lacks-end (value_forest found.rest) (spelled_line xs) (line-filled xs b fs good.rest own.rest) s) good.rest
      own.rest) found.others)
  line-far (inline (task d) xs) k b f around fs covers free e normal held formats away light o =
      false-true (settled-one (task d) xs held).own

  -- anchors alone
  pub anchors-far : (xs : Inlines) (f : NumberedForest) → Stands (value_forest f) (line_trees xs)
      → are_anchors xs ≡ true → far f ≡ true
  anchors-far no_inlines f e h = ap far (from-none f e)
  anchors-far (inline (anchor s) xs) f e h =
      let found = from-element f (codes "a") (pairs_of_anchor s) value.none (line_trees xs) e in
      anchor-far f found.id s found.inside found.rest found.is (from-none found.inside found.within)
      (anchors-far xs found.rest found.others h)
  anchors-far (inline x xs) f e h = false-true h

  -- a paragraph, with a box or without
  pub paragraph-far : (xs : Inlines) (f : NumberedForest) → Stands (value_forest f) (line_trees xs)
      → IsParagraph xs → line_shows is_rich xs ≡ true → are_away xs ≡ true
      → weight_among xs < greatest_count
      → (k : ℕ) → is_ordered k f ≡ true → far f ≡ true
  paragraph-far xs f e own formats away light k o =
      ⊎_elim
      (λ p. line-far xs k false f [] [] covers-none free-none e p.normal p.held formats away light o)
      (λ t.
      let line : Inlines = inline (text (space ∷ t.spaced)) t.rest in
      let pairs : List AttributePair = pairs_of_box t.first in
      let found = from-element f (codes "input") pairs value.none (line_trees line)
      (subst (λ ys. Stands (value_forest f) (line_trees ys)) t.is e) in
      let order = ordered-next k f (page.element found.id (codes "input") pairs found.inside) found.rest found.is o in
      element-far f found.id (codes "input") pairs found.inside found.rest found.is refl box-plain
      (ap far (from-none found.inside found.within))
      (line-far line (suc found.id) false found.rest [] [] covers-none free-none found.others t.normal
      (held-spaced t.first t.spaced t.rest t.normal (subst (λ ys. are_held (behind_box ys) ≡ true) t.is t.held))
      (subst (λ ys. line_shows is_rich ys ≡ true) t.is formats) (subst (λ ys. are_away ys ≡ true) t.is away)
      (right-light 0 (weight_among line) (subst (λ ys. weight_among ys < greatest_count) t.is light)) order.rest))
      own
