-- The trees that the document of a page is made of have neat leaves.
use Rattle.std.proofs.Common.{◌≡◌, ℕ, Bool, true, false, List, [], ◌∷◌, Option, Some, None, refl, ap, sym, ◌∙◌, subst}
use Rattle.std.proofs.Common.{inl, inr}
use Rattle.std.specs.Prelude.{codes, not, ◌&&◌}
use Rattle.std.specs.Str.{chars, is_utf8, IsUtf8}
use Rattle.std.proofs.lemmas.Bool.{and_from, and_parts, true≢false}
use Rattle.std.proofs.lemmas.Str.{scalars-chars}
use Rattle.htmd_lexical.specs.Characters.{space}
use Rattle.htmd_lexical.specs.AttributePairs.{AttributePair}
use Rattle.htmd_lexical.specs.WhiteSpace.{is_ascii_white_space}
use Rattle.htmd_nodes.specs.NumberedTrees.{NumberedTree}
use Rattle.htmd_shown.specs.Facts.{inserted_facts}
use Rattle.htmd_shown.specs.declared.facts.Facts.{Facts}
use Rattle.htmd_shown.specs.declared.role.Role.{Role}
use Rattle.htmd_shown.specs.declared.role.Role.TheVariants as role
use Rattle.htmd_shown.specs.AllTexts.{all_text_among, with_line_feeds, lines_of, without_last_line_feed, dollar_sign}
use Rattle.htmd_shown.specs.Attributes.{text_of, title_of, address, description_of, in_line, trimmed, is_filled}
use Rattle.htmd_shown.specs.Shown.{Sight, shown_in, followed_by}
use Rattle.htmd_shown.specs.ShownTexts.{is_shown}
use Rattle.htmd_shown.specs.SimpleTrees.{Simple, text, image, formula, embedded, anchor, element, Simples, none, more}
use Rattle.std.specs.List.{list_all}
use Rattle.htmd_document.specs.declared.document.Format as declared_format
use Rattle.htmd_document.specs.declared.document.Format.TheVariants as declared
use Rattle.htmd_document.specs.declared.document.InlineElement as declared_element
use Rattle.htmd_document.specs.declared.document.InlineElement.TheVariants as written
use Rattle.htmd_document.specs.Formats.{of_format, of_element}
use Rattle.htmd_law_returning.specs.PageFormats.{format_shows}
use Rattle.htmd_document_of_tree.specs.declared.anchors.Anchors.{Anchors}
use Rattle.htmd_document_of_tree.specs.Anchors.{Placing, anchors, all_placed, placing_after_all, values_of}
use Rattle.htmd_document_of_tree.specs.Anchors.{last_anchors, targets_by}
use Rattle.htmd_document_of_tree.specs.FirstPieces.{pieced, pieced_all}
use Rattle.htmd_document_of_tree.specs.Limits.{limited}
use Rattle.htmd_document_of_tree.specs.Targets.{Target}
use Rattle.htmd_document_of_tree.specs.TreeDocuments.{document_by, document_of_tree}
use Rattle.htmd_flow.specs.Contexts.{Context, bare_in}
use Rattle.htmd_flow.specs.Flows.{flow_all, nodes_of}
use Rattle.htmd_flow.specs.Languages.{language_of_block}
use Rattle.htmd_flow.specs.Levels.{list_of}
use Rattle.htmd_shown.specs.Marks.{letters_among}
use Rattle.htmd_shown.specs.Roles as roles
use Rattle.htmd_shown.specs.Showings.{code_shows, show}
use Rattle.htmd_law_documents.specs.SimpleForms.{IsSound, AreSound}
use Rattle.htmd_law_documents.specs.TreeForms.{is_text_tree}
use Rattle.htmd_law_documents.proofs.ShownTreeLemmas.{page-sound}
use Rattle.htmd_law_documents.proofs.SoundLemmas.{limited-sound, all-placed-kept, pieced-sound}
use Rattle.htmd_law_documents.specs.DocumentTexts.{visible}
use Rattle.htmd_law_documents.proofs.VisibleLemmas.{shows-itself}
use Rattle.htmd_law_documents.proofs.CodeLemmas.{feeds-show, trimmed-shows}
use Rattle.htmd_law_documents.proofs.NormalLettersLemmas.{blank-visible}
use Rattle.htmd_law_documents.proofs.NormalCodeLemmas.{feeds-clean}
use Rattle.htmd_law_documents.proofs.NormalValueLemmas.{IsClean, IsBlack, clean-nil, AreTexts, value-text}
use Rattle.htmd_law_documents.proofs.NormalValueLemmas.{in_line-clean}
use Rattle.htmd_law_documents.proofs.NormalTreeLemmas.{AreIds, IsFine, AreFine, IsLed, IsLedApart, by-content}
use Rattle.htmd_law_documents.proofs.NormalTreeLemmas.{Content, content-text}
use Rattle.htmd_law_documents.proofs.NormalFilledLemmas.{Seen, parts-filled, parts-cell}
use Rattle.htmd_law_documents.proofs.NormalSeenTreeLemmas.{content-seen}
use Rattle.htmd_law_documents.proofs.NormalShownLemmas.{AreClear, page-clear}
use Rattle.htmd_law_documents.proofs.NormalPlacedLemmas.{limited-clear, AllNamed, targets-named, all-after-named}
use Rattle.htmd_law_documents.proofs.NormalPlacedLemmas.{ArePlaced, all-placed-fine, anchors-ids, values-ids}
use Rattle.htmd_law_documents.proofs.NormalPiecedLemmas.{pieced-ids, all-pieced-fine}
use Rattle.htmd_law_documents.specs.WrapperLaws.{final_trees}
use Rattle.htmd_law_settled.proofs.LeafLines.{AllowsElements}
use Rattle.htmd_law_settled.specs.Leaves.{Leaves}
use Rattle.htmd_law_settled.specs.NeatLeaves.{is_neat_code, NumbersFit}
use Rattle.htmd_law_settled.proofs.LeafLines.{AllCharacters, all-characters, HaveBlocks, parts-blocks}
use Rattle.htmd_law_settled.proofs.LeafNodes.{MayHaveTables, flow-has}
use Rattle.htmd_law_settled.proofs.ShownHeaders.{FillsCells, FillsBlocks}
use Rattle.htmd_law_settled.proofs.LeafElements.{HasTitle, HasElement, HasRole, HasLines, HasCode, HasImage, HasTree}
use Rattle.htmd_law_settled.proofs.LeafElements.{HaveTrees, is_list_of_terms}
use Rattle.htmd_law_settled.proofs.LeafElements.{nodes-have}
use Rattle.htmd_document.specs.NormalInlines.{is_attribute, is_kept}
use Rattle.std.proofs.lemmas.Str.{IsUtf8-from_is_utf8}
use Rattle.htmd_law_documents.proofs.NormalElementLemmas.{IsSource}
use Rattle.htmd_law_documents.proofs.NormalValueLemmas.{address-fine}
use Rattle.htmd_law_rendering.specs.RenderedTrees.{encoded_address}
use Rattle.htmd_law_returning.specs.SettledDocuments.{is_settled_address}
use Rattle.htmd_law_settled.proofs.EncodedAddresses.{encoded-settled}
use Rattle.htmd_law_settled.proofs.EncodedLeaves.{encoding}
use Rattle.htmd_law_settled.proofs.OneLines.{one-line, title-settled}
use Rattle.htmd_law_returning.specs.SettledDocuments.{is_one_line, is_settled_title, has_settled_language}
use Rattle.htmd_law_returning.specs.SettledDocuments.{is_settled_code}
use Rattle.htmd_shown.specs.Spaces.{is_blank_text}
use Rattle.std.proofs.lemmas.Str.{is_utf8-from_IsUtf8}
use Rattle.htmd_law_settled.proofs.LeafHolds.{blocks-fit}
use Rattle.htmd_law_settled.proofs.ShownPieces.{IsShown, clean-shown, AllShown, trimmed-shown, lines-shown}
use Rattle.htmd_law_settled.proofs.ShownPieces.{without-shown}
use Rattle.htmd_law_settled.proofs.ShownPieces.{without-filled, language-named, white-ascii}
use Rattle.htmd_law_documents.proofs.PiecesLemmas.{ascii-white}
use Rattle.htmd_law_documents.proofs.NormalSeenElementLemmas.{all-letters-said}
use Rattle.htmd_law_anchors.proofs.BareTreeLemmas.{page-bare, limited-bare}
use Rattle.htmd_law_anchors.proofs.PlacedLemmas.{AreBare}
use Rattle.htmd_law_anchors.proofs.StandLemmas.{StandsWell, StandAll, anchored-stand, pieced-stand}
use Rattle.htmd_law_documents.proofs.Readers.{holds_anchors}
use Rattle.htmd_law_settled.proofs.EarlyFlows.{early-heading}
use Rattle.htmd_law_settled.proofs.OrderedLeaves.{ordered}
use Rattle.htmd_law_settled.proofs.OrderedTerms.{terms-in-order}
use Rattle.htmd_law_settled.proofs.OrderedTrees.{title-in-order}
use Rattle.htmd_law_settled.proofs.EarlyTrees.{HasEarly, HaveEarly, placed-early}

-- with its addresses encoded a tree has such leaves
abbrev pub leaves : Leaves
leaves = encoding ordered

-- ---- leaves

characters : (s : List ℕ) → IsShown s → AllCharacters leaves (chars s)
characters s h = all-characters leaves (chars s) (scalars-chars s h.utf8) h.shown

clean-characters : (s : List ℕ) → IsClean s → AllCharacters leaves (chars s)
clean-characters s h = characters s (clean-shown s h)

shown-title : (o : Option (List ℕ)) → is_settled_title o ≡ true → HasTitle leaves o
shown-title None e = tt
shown-title (Some title) e = e

attribute-settled : (s : List ℕ) → is_attribute s ≡ true → is_settled_address (encoded_address s) ≡ true
attribute-settled s h = encoded-settled s (IsUtf8-from_is_utf8 s (and_parts (is_utf8 s) (list_all is_kept s) h).0)

-- an address of a page
address-settled : (s : List ℕ) → IsUtf8 s → is_settled_address (encoded_address (address s)) ≡ true
address-settled s h = attribute-settled (address s) (address-fine s h)

any-element : (r : Role) → HasElement leaves r
any-element (role.Element g) = shown_element g
  where
    shown_element : (g : declared_element.InlineElement) → format_shows true (of_element g) ≡ true
    shown_element written.Superscript = refl
    shown_element written.Subscript = refl
    shown_element written.Inserted = refl
    shown_element written.Underlined = refl
    shown_element written.Marked = refl
    shown_element written.Small = refl
    shown_element written.Keyboard = refl
any-element r = tt

any-format : (g : declared_format.Format) → format_shows true (of_format g) ≡ true
any-format declared.Emphasis = refl
any-format declared.Strong = refl
any-format declared.Deleted = refl

role-has : (r : Role) (attributes : List AttributePair) → AreTexts attributes → HasRole leaves r attributes
role-has r attributes h =
    let href : List ℕ = text_of (codes "href") attributes in
    record {
      link = λ e. and_from (is_settled_address (encoded_address (address href)))
          (is_settled_title (title_of attributes))
          (address-settled href (value-text attributes (codes "href") h)) (title-settled attributes h);
      title = λ e. shown-title (title_of attributes) (title-settled attributes h);
      element = any-element r;
    }

line-characters : (lines : List (List ℕ)) → AllShown lines → HasLines leaves lines
line-characters [] h = tt
line-characters (s ∷ lines) h = (characters s h.0, line-characters lines h.1)

neat-code : (language : Option (List ℕ)) (s : List ℕ) → has_settled_language language ≡ true → IsShown s
    → is_blank_text s ≡ false → is_neat_code language s ≡ true
neat-code language s e h f =
    let utf8 = is_utf8-from_IsUtf8 s h.utf8 in
    and_from (has_settled_language language) (is_settled_code s) e
    (and_from (is_utf8 s && list_all is_shown (chars s)) (not (is_blank_text s))
    (and_from (is_utf8 s) (list_all is_shown (chars s)) utf8 h.shown) (ap not f))

-- code in which nothing shows is blank
code-blank : (content : Simples) → IsClean (all_text_among content) → AreSound content
    → code_shows content ≡ false → is_blank_text (with_line_feeds (all_text_among content)) ≡ true
code-blank content h u e =
    let all : List ℕ = all_text_among content in
    let s : List ℕ = with_line_feeds all in
    blank-visible s (feeds-clean all h).shown
    ∙ (ap (λ cs. not (is_filled cs)) (feeds-show all (letters_among content) (all-letters-said content u)).is
    ∙ ap not e)

code-has : (attributes : List AttributePair) (content : Simples) → IsClean (all_text_among content)
    → AreSound content → HasCode leaves attributes content
code-has attributes content h u =
    let s : List ℕ = with_line_feeds (all_text_among content) in
    let shown = clean-shown s (feeds-clean (all_text_among content) h) in
    record {
      lines = line-characters (lines_of s) (lines-shown s shown);
      block = λ near e. neat-code (language_of_block attributes (list_of content) near) (without_last_line_feed s)
          (language-named attributes (list_of content) near) (without-shown s shown) (without-filled s shown e);
      blank = code-blank content h u;
    }

description-clean : (attributes : List AttributePair) → AreTexts attributes → IsClean (description_of attributes)
description-clean attributes h =
    in_line-clean (text_of (codes "alt") attributes) (value-text attributes (codes "alt") h)

image-has : (o : Option (List ℕ)) (attributes : List AttributePair) → IsSource o → AreTexts attributes
    → HasImage leaves o attributes
image-has None attributes u h =
    clean-characters (description_of attributes) (description-clean attributes h)
image-has (Some s) attributes u h =
    let settled = is_settled_address (encoded_address (address s)) in
    and_from (settled && is_settled_title (title_of attributes)) (is_one_line (description_of attributes))
    (and_from settled (is_settled_title (title_of attributes)) (address-settled s u) (title-settled attributes h))
    (one-line (text_of (codes "alt") attributes) (value-text attributes (codes "alt") h))

-- ---- formulas

formula-shown : (tex : List ℕ) → IsClean tex → IsShown (trimmed (with_line_feeds tex))
formula-shown tex h =
    trimmed-shown is_ascii_white_space ascii-white white-ascii (with_line_feeds tex)
    (clean-shown (with_line_feeds tex) (feeds-clean tex h))

-- what shows of TeX shows of its code
formula-filled : (tex : List ℕ) → IsBlack tex → is_blank_text (trimmed (with_line_feeds tex)) ≡ false
formula-filled tex h =
    let code : List ℕ = trimmed (with_line_feeds tex) in
    let feeds = feeds-show tex (visible tex) (shows-itself tex h.0.utf8) in
    let held = trimmed-shows is_ascii_white_space ascii-white (with_line_feeds tex) feeds.utf8 in
    blank-visible code (formula-shown tex h.0).shown
    ∙ (ap (λ cs. not (is_filled cs)) (held.is ∙ feeds.is) ∙ (sym (blank-visible tex h.0.shown) ∙ h.1))

-- ---- anchors

ids-clean : (ts : Simples) → AreIds ts → IsClean (all_text_among ts)
ids-clean none h = clean-nil
ids-clean (more (anchor id) ts) h = ids-clean ts h.1
ids-clean (more (text s) ts) h = absurd h
ids-clean (more (image o attributes) ts) h = absurd h
ids-clean (more (formula tex is_alone attributes) ts) h = absurd h
ids-clean (more (embedded id s title attributes ids) ts) h = absurd h
ids-clean (more (element id r facts attributes content) ts) h = absurd h

ids-sound : (ts : Simples) → AreIds ts → AreSound ts
ids-sound none h = tt
ids-sound (more (anchor id) ts) h = (tt, ids-sound ts h.1)
ids-sound (more (text s) ts) h = absurd h
ids-sound (more (image o attributes) ts) h = absurd h
ids-sound (more (formula tex is_alone attributes) ts) h = absurd h
ids-sound (more (embedded id s title attributes ids) ts) h = absurd h
ids-sound (more (element id r facts attributes content) ts) h = absurd h

ids-have : (ts : Simples) → AreIds ts → HaveTrees leaves ts
ids-have none h = tt
ids-have (more (anchor id) ts) h = (tt, ids-have ts h.1)
ids-have (more (text s) ts) h = absurd h
ids-have (more (image o attributes) ts) h = absurd h
ids-have (more (formula tex is_alone attributes) ts) h = absurd h
ids-have (more (embedded id s title attributes ids) ts) h = absurd h
ids-have (more (element id r facts attributes content) ts) h = absurd h

-- nothing shows of them
ids-unseen : (ts : Simples) → AreIds ts → show false ts ≡ false
ids-unseen none h = refl
ids-unseen (more (anchor id) ts) h = ids-unseen ts h.1
ids-unseen (more (text s) ts) h = absurd h
ids-unseen (more (image o attributes) ts) h = absurd h
ids-unseen (more (formula tex is_alone attributes) ts) h = absurd h
ids-unseen (more (embedded id s title attributes ids) ts) h = absurd h
ids-unseen (more (element id r facts attributes content) ts) h = absurd h

-- an element for anchors alone
anchors-have : (id : ℕ) (facts : Facts) (attributes : List AttributePair) (inner : Simples) → AreIds inner
    → HasTree leaves (element id role.Anchors facts attributes inner)
anchors-have id facts attributes inner h =
    let own : HasRole leaves role.Anchors attributes =
    record { link = λ e. absurd (cc); title = λ e. absurd (cc); element = tt } in (
      own,
      code-has attributes inner (ids-clean inner h) (ids-sound inner h),
      ids-have inner h,
      λ e. absurd (true≢false (sym e ∙ ids-unseen inner h)),
      λ e. absurd (cc),
      λ e. absurd (cc),
      λ e. absurd (cc),
      λ e. absurd (cc),
    )

-- ---- trees

one-tree : (t : Simple) (ts : Simples) → HasTree leaves t → ts ≡ none → HaveTrees leaves (more t ts)
one-tree t ts h e = subst (λ (us : Simples). HaveTrees leaves (more t us)) (sym e) (h, tt)

-- what shows of rich documents gives blocks, and fills cells
module _ (r : Role) (content : Simples) (k : Content r content) (u : AreSound content) where
  seen : (c : Context) → c.is_rich ≡ true → c.is_flat ≡ false
      → Seen false (show false content) (flow_all (nodes_of content) c)
  seen c rich blocks = content-seen r content k u false c (record { rich = rich; line = blocks })

  filled : FillsBlocks (show false content) (flow_all (nodes_of content))
  filled c rich blocks =
      parts-filled false (show false content) (flow_all (nodes_of content) c) (seen c rich blocks)

  fills : FillsCells (show false content) (flow_all (nodes_of content))
  fills e c rich blocks p =
      parts-cell (show false content) (flow_all (nodes_of content) c) (seen c rich blocks) p
      ∙ ap not (filled c rich blocks ∙ e)

heading-headed : (r : Role) → roles.is_heading r ≡ true → roles.is_headed r ≡ true
heading-headed (role.Heading level) e = refl
heading-headed r e = absurd (true≢false (sym e))

terms-fine : (r : Role) (content : Simples) → is_list_of_terms r ≡ true → Content r content → AreFine content
terms-fine role.Terms content e (inl k) = k
terms-fine role.Terms content e (inr (q, k)) = absurd (cc)
terms-fine r content e k = absurd (true≢false (sym e))

title-headed : (r : Role) → roles.is_title r ≡ true → roles.is_headed r ≡ true
title-headed role.Term e = refl
title-headed role.Caption e = refl
title-headed role.FigureCaption e = refl
title-headed role.Summary e = refl
title-headed r e = absurd (true≢false (sym e))

mutual
  tree-has : (here : Bool) (t : Simple) → IsFine t → IsSound t → HasEarly t → StandsWell here t
      → HasTree leaves t
  tree-has here (text s) h u a p = clean-characters s h
  tree-has here (image o attributes) h u a p = image-has o attributes h.0 h.1
  tree-has here (formula tex is_alone attributes) h u a p =
      let code : IsShown (trimmed (with_line_feeds tex)) = formula-shown tex h.0 in (
        clean-characters (in_line tex) (in_line-clean tex h.0.utf8),
        neat-code (Some (codes "math")) (trimmed (with_line_feeds tex)) refl code (formula-filled tex h),
      )
  tree-has here (embedded id s title attributes ids) h u a p = (
    and_from (is_settled_address (encoded_address s)) true (attribute-settled s h.0) refl,
    clean-characters title
        h.1,
  )
  tree-has here (anchor id) h u a p = absurd h
  tree-has here (element id r facts attributes content) h u a p =
      let held : Bool = holds_anchors here r facts content in
      let inner : HaveTrees leaves content =
      by-content (HaveTrees leaves content) r content (λ k. trees-have held content k u.1 a.1 p)
      (λ e k. led-have held content k u.1 a.1 p) (λ e k. apart-have held content k u.1 a.1 p) h.2 in (
        role-has r attributes h.0,
        code-has attributes content (content-text r content h.2) u.1,
        inner,
        fills r content h.2 u.1,
        λ e. filled r content h.2 u.1,
        λ e. early-heading leaves content (a.0 (heading-headed r e)) inner u.1,
        λ e c rich blocks. title-in-order held content u.1 p (a.0 (title-headed r e)) c blocks,
        λ e. terms-in-order held content (terms-fine r content e h.2) u.1 a.1 p,
      )

  trees-have : (here : Bool) (ts : Simples) → AreFine ts → AreSound ts → HaveEarly ts → StandAll here ts
      → HaveTrees leaves ts
  trees-have here none h u a p = tt
  trees-have here (more t ts) h u a p = (tree-has here t h.0 u.0 a.0 p.0, trees-have here ts h.1 u.1 a.1 p.1)

  led-have : (here : Bool) (ts : Simples) → IsLed ts → AreSound ts → HaveEarly ts → StandAll here ts
      → HaveTrees leaves ts
  led-have here none h u a p = absurd h
  led-have here (more (anchor id) ts) h u a p = (tt, led-have here ts h.1 u.1 a.1 p.1)
  led-have here (more (text s) ts) h u a p = one-tree (text s) ts (tree-has here (text s) h.0 u.0 a.0 p.0) h.2
  led-have here (more (image o attributes) ts) h u a p =
      one-tree (image o attributes) ts (tree-has here (image o attributes) h.0 u.0 a.0 p.0) h.2
  led-have here (more (formula tex is_alone attributes) ts) h u a p =
      one-tree (formula tex is_alone attributes) ts
      (tree-has here (formula tex is_alone attributes) h.0 u.0 a.0 p.0) h.2
  led-have here (more (embedded id s title attributes ids) ts) h u a p =
      one-tree (embedded id s title attributes ids) ts
      (tree-has here (embedded id s title attributes ids) h.0 u.0 a.0 p.0) h.2
  led-have here (more (element id r facts attributes content) ts) h u a p =
      one-tree (element id r facts attributes content) ts
      (tree-has here (element id r facts attributes content) h.0 u.0 a.0 p.0) h.2

  apart-have : (here : Bool) (ts : Simples) → IsLedApart ts → AreSound ts → HaveEarly ts → StandAll here ts
      → HaveTrees leaves ts
  apart-have here (more (element id role.Anchors facts attributes inner) (more t ts)) h u a p =
      (anchors-have id facts attributes inner h.0, one-tree t ts (tree-has here t h.1 u.1.0 a.1.0 p.1.0) h.3)
  apart-have here ts h u a p = absurd h

-- ---- pages

pieced-followed : (ts us : Simples) → pieced_all (followed_by ts us) ≡ followed_by (pieced_all ts) (pieced_all us)
pieced-followed none us = refl
pieced-followed (more t ts) us = ap (more (pieced t)) (pieced-followed ts us)

first-stand : (here : Bool) (ts us : Simples) → StandAll here (followed_by ts us) → StandAll here ts
first-stand here none us h = tt
first-stand here (more t ts) us h = (h.0, first-stand here ts us h.1)

followed-have : (ts us : Simples) → HaveTrees leaves ts → HaveTrees leaves us
    → HaveTrees leaves (followed_by ts us)
followed-have none us g h = h
followed-have (more t ts) us g h = (g.0, followed-have ts us g.1 h)

last-have : (targets : List Target) → AllNamed targets → HaveTrees leaves (pieced_all (last_anchors targets))
last-have [] n = tt
last-have (t ∷ targets) n =
    let ids : Simples = anchors (values_of (t ∷ targets)) in (
      anchors-have 0 inserted_facts [] (pieced_all ids)
          (pieced-ids ids (anchors-ids (values_of (t ∷ targets)) (values-ids (t ∷ targets) n))),
      tt,
    )

-- the trees that the document is made of
pub trees-neat : (which : Anchors) (sight : Sight) (tree : NumberedTree) → is_text_tree tree ≡ true
    → HaveTrees leaves (final_trees which sight tree)
trees-neat which sight tree e =
    let shown : Simples = shown_in sight tree in
    let ts : Simples = limited shown in
    let clear : AreClear ts = limited-clear shown (page-clear sight tree e) in
    let sound : AreSound ts = limited-sound shown (page-sound sight tree e) in
    let bare : AreBare ts = limited-bare shown (page-bare sight tree) in
    let p : Placing = record { seen = 0; targets = targets_by which sight.is_rich ts } in
    let named : AllNamed p.targets = targets-named which sight.is_rich ts clear in
    let placed : ArePlaced (all_placed p ts) = all-placed-fine p ts named clear in
    let kept : AreSound (all_placed p ts) = (all-placed-kept p ts sound).sound in
    let fine : AreFine (pieced_all (all_placed p ts)) = all-pieced-fine (all_placed p ts) kept placed in
    let last : List Target = (placing_after_all p ts).targets in
    subst (HaveTrees leaves) (sym (pieced-followed (all_placed p ts) (last_anchors last)))
    (followed-have (pieced_all (all_placed p ts)) (pieced_all (last_anchors last))
    (trees-have true (pieced_all (all_placed p ts)) fine (pieced-sound (all_placed p ts) kept)
    (placed-early which sight.is_rich ts bare)
    (pieced-stand true (all_placed p ts)
    (first-stand true (all_placed p ts) (last_anchors last) (anchored-stand which sight.is_rich ts bare))))
    (last-have last (all-after-named p ts named)))

pub document-has : (k : Leaves) → k.character space ≡ true → k.character dollar_sign ≡ true
    → ((g : declared_format.Format) → k.format (of_format g) ≡ true)
    → (which : Anchors) (sight : Sight) (tree : NumberedTree) → (sight.is_rich ≡ true → AllowsElements k)
    → MayHaveTables k sight.is_rich → HaveTrees k (final_trees which sight tree)
    → HaveBlocks k 0 (document_of_tree which sight tree)
unfolding document_of_tree document_by
document-has k spaces dollars formats which sight tree r tables have =
    let all : Simples = final_trees which sight tree in
    parts-blocks k spaces 0 false (flow_all (nodes_of all) (bare_in sight.is_rich))
    (flow-has k spaces (nodes_of all) (nodes-have k spaces dollars formats all have)
    0 (bare_in sight.is_rich) (record { around = tt; rich = r; nested = refl; tables = tables }))

pub neat-document : (which : Anchors) (sight : Sight) (tree : NumberedTree)
    → is_text_tree tree ≡ true → HaveBlocks leaves 0 (document_of_tree which sight tree)
neat-document which sight tree e =
    document-has leaves refl refl any-format which sight tree (λ r name attributes content e. e)
    (λ header rows shown headed. shown) (trees-neat which sight tree e)

pub numbers-fit : NumbersFit
numbers-fit which sight tree e =
    blocks-fit leaves 0 (document_of_tree which sight tree) (neat-document which sight tree e)
