-- What shows of a page is proper: its links that show count.
use Rattle.std.proofs.Common.{◌≡◌, ℕ, Bool, true, false, cond, not, ◌&&◌, ◌||◌, List, [], ◌∷◌, refl, sym, ap, ◌∙◌, subst}
use Rattle.std.proofs.Common.{Option, Some, None}
use Rattle.std.specs.Prelude.{codes, is_some}
use Rattle.std.specs.List.{list_all}
use Rattle.std.specs.Option.{option_or, unwrap_or}
use Rattle.std.specs.Str.{bytes_eq, chars, IsUtf8}
use Rattle.std.proofs.lemmas.Str.{IsUtf8-from_is_utf8}
use Rattle.htmd_lexical.specs.AttributePairs.{AttributePair}
use Rattle.htmd_lexical.specs.Characters.{quotation_mark}
use Rattle.htmd_lexical.proofs.Cases.{test}
use Rattle.htmd_nodes.specs.NumberedTrees.{NumberedTree, NumberedForest}
use Rattle.htmd_nodes.specs.NumberedTrees as page
use Rattle.htmd_document.specs.declared.document.Format.TheVariants.{Emphasis, Strong, Deleted}
use Rattle.htmd_document.specs.declared.document.InlineElement.{InlineElement}
use Rattle.htmd_document.specs.declared.document.InlineElement.TheVariants.{Superscript, Subscript, Inserted, Underlined}
use Rattle.htmd_document.specs.declared.document.InlineElement.TheVariants.{Marked, Small, Keyboard}
use Rattle.htmd_shown.specs.declared.role.Role.{Role}
use Rattle.htmd_shown.specs.declared.role.Role.TheVariants as role
use Rattle.htmd_shown.specs.Attributes.{value_of, text_of, has_attribute, in_line, address, is_to_part, leads_to_part}
use Rattle.htmd_shown.specs.ClassWords.{has_class, permalink_words}
use Rattle.htmd_shown.specs.Embeds.{is_place, is_for_pages, scheme_of, embedded_address, text_or, embedded_title}
use Rattle.htmd_shown.specs.Embeds.{is_unseen, embedding, embedding_of, embedding_names}
use Rattle.htmd_shown.specs.Facts.{made}
use Rattle.htmd_shown.specs.Formulas.{tex_of}
use Rattle.htmd_shown.specs.Images.{is_image, image_address, picture_source}
use Rattle.htmd_shown.specs.Kinds.{are_blank}
use Rattle.htmd_shown.specs.LineNumbers.{has_numbered_rows}
use Rattle.htmd_shown.specs.Marks.{is_mark, is_sign, is_usual_sign}
use Rattle.htmd_shown.specs.Permalinks.{is_permalink}
use Rattle.htmd_shown.specs.Repeats.{is_repeat, last_element, leads_to_script}
use Rattle.htmd_shown.specs.Roles.{is_among, is_headed, is_heading, is_link, role_of, table_role, heading_or_block}
use Rattle.htmd_shown.specs.Roles.{block_role, inline_role, element_role, is_emphasis, is_strong, is_deleted, is_typed, is_apart}
use Rattle.htmd_shown.specs.Roles.{block_names, is_table_body, is_bullet_list, is_verbatim_name}
use Rattle.htmd_shown.specs.Shown.{Sight, Surroundings, nowhere, inside, is_for_layout, plain_element, role_by, role_at, raised_by}
use Rattle.htmd_shown.specs.Shown.{raised_one, format_of, formats_after, raised, with_one, followed_by, marks, marked}
use Rattle.htmd_shown.specs.Shown.{is_led_to, target, with_content, embed, object, is_skipped, is_hidden, is_emptied}
use Rattle.htmd_shown.specs.Shown.{by_content, formula_or, source_for, source_after, shown, shown_all, shown_in}
use Rattle.htmd_shown.specs.ShownTexts.{shown_text}
use Rattle.htmd_shown.specs.SimpleTrees.{Simple, text, image, Simples, none, more, is_text}
use Rattle.htmd_shown.specs.Spaces.{is_blank_text}
use Rattle.htmd_document_of_tree.specs.Limits.{address_of}
use Rattle.htmd_law_documents.specs.TreeForms.{is_text_value, is_text_tree, are_text_trees}
use Rattle.htmd_law_documents.proofs.ElementLemmas.{false-true, true-false}
use Rattle.htmd_law_documents.proofs.NormalShownLemmas.{line-blank}
use Rattle.htmd_law_documents.proofs.NormalTextLemmas.{from-not}
use Rattle.htmd_law_documents.proofs.NormalTreeLemmas.{mark-clean}
use Rattle.htmd_law_documents.proofs.ShownTreeLemmas.{GoodBy, value-good, embedded-by, address-good}
use Rattle.htmd_law_documents.proofs.VisibleLemmas.{both-true}
use Rattle.htmd_law_anchors.proofs.LinkLeadLemmas.{is_unlinked}
use Rattle.htmd_law_anchors.proofs.ProperTreeLemmas.{IsProper, AreProper, all-weaker, weaker}
use Rattle.htmd_law_anchors.proofs.SeenTextLemmas.{AllShown, shown-all, line-all}
use Rattle.htmd_law_anchors.proofs.TruthLemmas.{or-none}
use lib.Utf8.{encode}

-- ---- what an element is by its name

-- no name means that something isn't in the link around it, and links are named `a`
record Named (name : List ℕ) (r : Role) : Type 0 where
  unlinked : is_unlinked r ≡ false
  link : is_link r ≡ true → bytes_eq name (codes "a") ≡ true

module _ (name : List ℕ) where
  if-named : (b : Bool) {r s : Role} → Named name r → Named name s → Named name (cond b r s)
  if-named true g h = g
  if-named false g h = h

  link-named : (b : Bool) {s : Role} → bytes_eq name (codes "a") ≡ b → Named name s
      → Named name (cond b role.Link s)
  link-named true e h = record { unlinked = refl; link = λ f. e }
  link-named false e h = h

  other : (r : Role) → is_unlinked r ≡ false → is_link r ≡ false → Named name r
  other r u l = record { unlinked = u; link = λ f. true-false (sym f ∙ l) }

  element-named : Named name (element_role name)
  unfolding element_role
  element-named =
      if-named (bytes_eq name (codes "sup")) (other (role.Element Superscript) refl refl)
      (if-named (bytes_eq name (codes "sub")) (other (role.Element Subscript) refl refl)
      (if-named (bytes_eq name (codes "ins")) (other (role.Element Inserted) refl refl)
      (if-named (bytes_eq name (codes "u")) (other (role.Element Underlined) refl refl)
      (if-named (bytes_eq name (codes "mark")) (other (role.Element Marked) refl refl)
      (if-named (bytes_eq name (codes "small")) (other (role.Element Small) refl refl)
      (if-named (bytes_eq name (codes "kbd")) (other (role.Element Keyboard) refl refl)
      (if-named (bytes_eq name (codes "abbr")) (other role.Abbreviation refl refl)
      (other role.Plain refl refl))))))))

  inline-named : Named name (inline_role name)
  unfolding inline_role
  inline-named =
      if-named (is_emphasis name) (other (role.Format Emphasis) refl refl)
      (if-named (is_strong name) (other (role.Format Strong) refl refl)
      (if-named (is_deleted name) (other (role.Format Deleted) refl refl)
      (if-named (bytes_eq name (codes "code")) (other role.Code refl refl)
      (if-named (is_typed name) (other role.Typed refl refl)
      (link-named (bytes_eq name (codes "a")) refl
      (if-named (is_apart name) (other role.Apart refl refl)
      (if-named (bytes_eq name (codes "br")) (other role.LineBreak refl refl)
      (if-named (bytes_eq name (codes "input")) (other role.Input refl refl)
      element-named))))))))

  block-named : Named name (block_role name)
  unfolding block_role
  block-named =
      if-named (bytes_eq name (codes "dl")) (other role.Terms refl refl)
      (if-named (bytes_eq name (codes "dt")) (other role.Term refl refl)
      (if-named (bytes_eq name (codes "dd")) (other role.Meaning refl refl)
      (if-named (bytes_eq name (codes "div")) (other role.Division refl refl)
      (if-named (bytes_eq name (codes "figure")) (other role.Figure refl refl)
      (if-named (bytes_eq name (codes "figcaption")) (other role.FigureCaption refl refl)
      (if-named (bytes_eq name (codes "details")) (other role.Details refl refl)
      (if-named (bytes_eq name (codes "summary")) (other role.Summary refl refl)
      (if-named (bytes_eq name (codes "legend")) (other role.Legend refl refl)
      (if-named (is_among block_names name) (other role.Block refl refl)
      inline-named)))))))))

  heading-named : Named name (heading_or_block name)
  unfolding heading_or_block
  heading-named =
      if-named (bytes_eq name (codes "h1")) (other (role.Heading 1) refl refl)
      (if-named (bytes_eq name (codes "h2")) (other (role.Heading 2) refl refl)
      (if-named (bytes_eq name (codes "h3")) (other (role.Heading 3) refl refl)
      (if-named (bytes_eq name (codes "h4")) (other (role.Heading 4) refl refl)
      (if-named (bytes_eq name (codes "h5")) (other (role.Heading 5) refl refl)
      (if-named (bytes_eq name (codes "h6")) (other (role.Heading 6) refl refl)
      block-named)))))

  table-named : Named name (table_role name)
  unfolding table_role
  table-named =
      if-named (bytes_eq name (codes "table")) (other role.Table refl refl)
      (if-named (bytes_eq name (codes "caption")) (other role.Caption refl refl)
      (if-named (bytes_eq name (codes "thead")) (other role.TableHead refl refl)
      (if-named (is_table_body name) (other role.TableBody refl refl)
      (if-named (bytes_eq name (codes "tr")) (other role.Row refl refl)
      (if-named (bytes_eq name (codes "td")) (other role.Cell refl refl)
      (if-named (bytes_eq name (codes "th")) (other role.HeaderCell refl refl)
      heading-named))))))

  role-named : Named name (role_of name)
  unfolding role_of
  role-named =
      if-named (bytes_eq name (codes "p")) (other role.Paragraph refl refl)
      (if-named (bytes_eq name (codes "li")) (other role.Item refl refl)
      (if-named (is_bullet_list name) (other role.BulletList refl refl)
      (if-named (bytes_eq name (codes "ol")) (other role.NumberedList refl refl)
      (if-named (bytes_eq name (codes "pre")) (other role.Preformatted refl refl)
      (if-named (is_verbatim_name name) (other role.Verbatim refl refl)
      (if-named (bytes_eq name (codes "blockquote")) (other role.BlockQuote refl refl)
      (if-named (bytes_eq name (codes "hr")) (other role.ThematicBreak refl refl)
      table-named)))))))

plain-other : (e : InlineElement) → (is_unlinked (plain_element e) ≡ false) × (is_link (plain_element e) ≡ false)
    × (is_heading (plain_element e) ≡ false)
plain-other Superscript = (refl, refl, refl)
plain-other Subscript = (refl, refl, refl)
plain-other Keyboard = (refl, refl, refl)
plain-other e = (refl, refl, refl)

module _ (rich : Bool) (attributes : List AttributePair) (children : NumberedForest) where
  by-unlinked : (r : Role) → is_unlinked r ≡ false → is_unlinked (role_by rich r attributes children) ≡ false
  by-unlinked role.Link e = either (has_attribute (codes "href") attributes)
    where
      either : (b : Bool) → is_unlinked (cond b role.Link role.Target) ≡ false
      either true = refl
      either false = refl
  by-unlinked role.Table e = either (is_for_layout attributes || has_numbered_rows children)
    where
      either : (b : Bool) → is_unlinked (cond b role.LayoutTable role.Table) ≡ false
      either true = refl
      either false = refl
  by-unlinked (role.Element x) e = either rich
    where
      either : (b : Bool) → is_unlinked (cond b (role.Element x) (plain_element x)) ≡ false
      either true = refl
      either false = (plain-other x).0
  by-unlinked role.Abbreviation e = either rich
    where
      either : (b : Bool) → is_unlinked (cond b role.Abbreviation role.Plain) ≡ false
      either true = refl
      either false = refl
  by-unlinked r e = e

  by-link : (r : Role) → is_link (role_by rich r attributes children) ≡ true
      → (is_link r ≡ true) × (has_attribute (codes "href") attributes ≡ true)
  by-link role.Link e = (refl, either (has_attribute (codes "href") attributes) e)
    where
      either : (b : Bool) → is_link (cond b role.Link role.Target) ≡ true → b ≡ true
      either true f = refl
      either false f = false-true f
  by-link role.Table e = either (is_for_layout attributes || has_numbered_rows children) e
    where
      either : (b : Bool) → is_link (cond b role.LayoutTable role.Table) ≡ true
          → (is_link role.Table ≡ true) × (has_attribute (codes "href") attributes ≡ true)
      either true f = false-true f
      either false f = false-true f
  by-link (role.Element x) e = either rich e
    where
      either : (b : Bool) → is_link (cond b (role.Element x) (plain_element x)) ≡ true
          → (is_link (role.Element x) ≡ true) × (has_attribute (codes "href") attributes ≡ true)
      either true f = false-true f
      either false f = true-false (sym f ∙ (plain-other x).1)
  by-link role.Abbreviation e = either rich e
    where
      either : (b : Bool) → is_link (cond b role.Abbreviation role.Plain) ≡ true
          → (is_link role.Abbreviation ≡ true) × (has_attribute (codes "href") attributes ≡ true)
      either true f = false-true f
      either false f = false-true f
  by-link r e = false-true e

  by-heading : (r : Role) → is_heading (role_by rich r attributes children) ≡ true → is_headed r ≡ true
  by-heading (role.Heading level) e = refl
  by-heading role.Link e = either (has_attribute (codes "href") attributes) e
    where
      either : (b : Bool) → is_heading (cond b role.Link role.Target) ≡ true → is_headed role.Link ≡ true
      either true f = false-true f
      either false f = false-true f
  by-heading role.Table e = either (is_for_layout attributes || has_numbered_rows children) e
    where
      either : (b : Bool) → is_heading (cond b role.LayoutTable role.Table) ≡ true → is_headed role.Table ≡ true
      either true f = false-true f
      either false f = false-true f
  by-heading (role.Element x) e = either rich e
    where
      either : (b : Bool) → is_heading (cond b (role.Element x) (plain_element x)) ≡ true
          → is_headed (role.Element x) ≡ true
      either true f = false-true f
      either false f = true-false (sym f ∙ (plain-other x).2)
  by-heading role.Abbreviation e = either rich e
    where
      either : (b : Bool) → is_heading (cond b role.Abbreviation role.Plain) ≡ true
          → is_headed role.Abbreviation ≡ true
      either true f = false-true f
      either false f = false-true f
  by-heading r e = false-true e

-- ---- what there may be

record Proper (head : Bool) (o : Option Simple) : Type 0 where
  is : (t : Simple) → o ≡ Some t → IsProper head t

module _ (head : Bool) where
  no-node : Proper head None
  no-node = record { is = λ t e. absurd (clash t e) }
    where
      clash : (t : Simple) → None ≡ Some t → ⊥
      clash t e = (cc)

  one-node : (t : Simple) → IsProper head t → Proper head (Some t)
  one-node t u = record { is = λ x e. subst (IsProper head) (ap (λ o. unwrap_or o t) e) u }

  either-node : (b : Bool) {x y : Option Simple} → (b ≡ true → Proper head x) → (b ≡ false → Proper head y)
      → Proper head (cond b x y)
  either-node true g h = g refl
  either-node false g h = h refl

  or-node : (x : Option Simple) {y : Option Simple} → Proper head x → Proper head y → Proper head (option_or x y)
  or-node None g h = h
  or-node (Some t) g h = g

  with-one : (o : Option Simple) (ts : Simples) → Proper head o → AreProper head ts
      → AreProper head (with_one o ts)
  with-one None ts g h = h
  with-one (Some t) ts g h = (g.is t refl, h)

  followed : (ts us : Simples) → AreProper head ts → AreProper head us → AreProper head (followed_by ts us)
  followed none us g h = h
  followed (more t ts) us g h = (g.0, followed ts us g.1 h)

  mark-shown : AllShown (quotation_mark ∷ [])
  unfolding chars encode
  mark-shown = record { utf8 = mark-clean.utf8; all = refl }

  marks-proper : (b : Bool) → AreProper head (marks b)
  marks-proper true = (mark-shown, tt)
  marks-proper false = tt

  marked-proper : (b : Bool) (ts : Simples) → AreProper head ts → AreProper head (marked b ts)
  marked-proper b ts u =
      followed (followed_by (marks b) ts) (marks b) (followed (marks b) ts (marks-proper b) u) (marks-proper b)

  or-false : (head || false) ≡ true → head ≡ true
  or-false e = sym (or-none head) ∙ e

  raised-one-proper : (o : Option InlineElement) (id : ℕ) (t : Simple) → IsProper head t
      → IsProper head (raised_one o id t)
  raised-one-proper None id t u = u
  raised-one-proper (Some format) id t u = either (is_text t)
    where
      either : (b : Bool) → IsProper head (cond b t (made id (role.Element format) [] (more t none)))
      either true = u
      either false = (
        refl,
        refl,
        (λ e f. false-true f),
        (weaker t head (head || false) or-false u, tt),
      )

  raised-proper : (formats : List (Option InlineElement)) (id : ℕ) (ts : Simples) → AreProper head ts
      → AreProper head (raised formats id ts)
  raised-proper formats id none u = tt
  raised-proper formats id (more t ts) u =
      (raised-one-proper (format_of formats) id t u.0, raised-proper (formats_after formats t) id ts u.1)

  target-proper : (id : ℕ) (attributes : List AttributePair) → Proper head (target id attributes)
  target-proper id attributes =
      either-node (is_led_to attributes)
      (λ e. one-node (made id role.Target attributes none) (refl, refl, (λ f g. false-true g), tt)) (λ e. no-node)

-- ---- what is embedded

-- an address that something embedded has
record IsAddress (s : List ℕ) : Type 0 where
  elsewhere : is_to_part s ≡ false
  utf8 : IsUtf8 s
  some : is_blank_text (shown_text s) ≡ false

address-is : (s : List ℕ) → IsUtf8 s → is_place (address s) ≡ true → IsAddress (address s)
address-is s u e =
    let parts = both-true (not (is_blank_text (shown_text (address s))) && not (is_to_part (address s)))
    (is_for_pages (scheme_of (address s))) e in
    let first = both-true (not (is_blank_text (shown_text (address s)))) (not (is_to_part (address s))) parts.0 in
    record {
      elsewhere = from-not (is_to_part (address s)) first.1;
      utf8 = address-good s u;
      some = from-not (is_blank_text (shown_text (address s))) first.0;
    }

record IsTitle (s : List ℕ) : Type 0 where
  shown : AllShown s
  some : is_blank_text s ≡ false

or-title : (s other : List ℕ) → AllShown s → IsTitle other → IsTitle (text_or s other)
or-title s other c h = test (is_blank_text s)
    (λ e. subst (λ (b : Bool). IsTitle (cond b other s)) (sym e) h)
    (λ e. subst (λ (b : Bool). IsTitle (cond b other s)) (sym e) (record { shown = c; some = e }))

title-is : (attributes : List AttributePair) (place : List ℕ) → list_all is_text_value attributes ≡ true
    → IsAddress place → IsTitle (embedded_title attributes place)
title-is attributes place g h =
    or-title (in_line (text_of (codes "title") attributes)) _
    (line-all (text_of (codes "title") attributes) (value-good (codes "title") attributes g))
    (or-title (in_line (text_of (codes "aria-label") attributes)) (in_line place)
    (line-all (text_of (codes "aria-label") attributes) (value-good (codes "aria-label") attributes g))
    (record { shown = line-all place h.utf8; some = line-blank place h.utf8 h.some }))

embed-proper : (head : Bool) (id : ℕ) (attributes : List AttributePair) (o : Option (List ℕ))
    → list_all is_text_value attributes ≡ true → GoodBy IsAddress o
    → Proper head (embed id attributes (embedding attributes o))
embed-proper head id attributes None g h = no-node head
embed-proper head id attributes (Some place) g h = either (is_unseen attributes)
  where
    either : (b : Bool) → Proper head (embed id attributes (cond b None
        (Some (record { address = place; title = embedded_title attributes place }))))
    either true = no-node head
    either false =
        let here : IsAddress place = h.is place refl in
        let title : IsTitle (embedded_title attributes place) = title-is attributes place g here in
        one-node head _ (here.elsewhere, title.shown, title.some)

-- ---- elements

or-more : (a b c : Bool) → (b ≡ true → c ≡ true) → (a || b) ≡ true → (a || c) ≡ true
or-more true b c f e = refl
or-more false b c f e = f e

module _ (rich : Bool) (around : Surroundings) (source : Option (List ℕ)) (id : ℕ) (name : List ℕ)
    (attributes : List AttributePair) (children : NumberedForest)
    (g : list_all is_text_value attributes ≡ true) (h : are_text_trees children ≡ true) (content : Simples)
    (u : AreProper (around.in_head || is_headed (role_of name)) content) where
  abbrev here : Bool
  here = around.in_head

  plain-proper : IsProper here (made id role.Plain attributes content)
  plain-proper = (
    refl,
    refl,
    (λ e f. false-true f),
    all-weaker content (here || is_headed (role_of name)) (here || false)
        (or-more here false (is_headed (role_of name)) (λ e. false-true e)) u,
  )

  embedded-proper : Proper here (embed id attributes (embedding_of name attributes children))
  embedded-proper =
      embed-proper here id attributes (embedded_address name attributes children) g
      (embedded-by IsAddress address-is name attributes children g h)

  object-proper : Proper here (object id attributes content (embedding_of name attributes children))
  object-proper =
      let plain : Proper here (Some (made id role.Plain attributes content)) = one-node here _ plain-proper in
      either-node here (are_blank content)
      (λ e. or-node here (embed id attributes (embedding_of name attributes children)) embedded-proper plain)
      (λ e. plain)

  leads : (o : Option (List ℕ)) → value_of (codes "href") attributes ≡ o → is_some o ≡ true
      → is_to_part (address_of attributes) ≡ true → leads_to_part (value_of (codes "href") attributes) ≡ true
  leads None e f p = false-true f
  leads (Some s) e f p =
      ap leads_to_part e
      ∙ (sym (ap (λ (x : Option (List ℕ)). is_to_part (address (unwrap_or x []))) e) ∙ p)

  neither : (a b : Bool) → (a || b) ≡ false → b ≡ false
  neither true b e = true-false e
  neither false b e = e

  and-known : (a b : Bool) → a ≡ true → (a && b) ≡ false → b ≡ false
  and-known true b e f = f
  and-known false b e f = false-true e

  no-mark : (in_head : Bool) → (bytes_eq name (codes "a") && is_permalink in_head attributes content) ≡ false
      → in_head ≡ true → is_link (role_at rich name attributes children) ≡ true
      → is_to_part (address_of attributes) ≡ true → is_mark is_usual_sign content ≡ false
  no-mark false e i l p = false-true i
  no-mark true e i l p =
      let named = by-link rich attributes children (role_of name) l in
      let permalink : is_permalink true attributes content ≡ false =
      and-known (bytes_eq name (codes "a")) (is_permalink true attributes content)
      ((role-named name).link named.0) e in
      and-known (leads_to_part (value_of (codes "href") attributes)) (is_mark is_usual_sign content)
      (leads (value_of (codes "href") attributes) refl named.1 p)
      (neither (has_class permalink_words attributes && is_mark is_sign content) _ permalink)

  content-proper : (in_head : Bool) → in_head ≡ here
      → Proper here (with_content rich in_head id name attributes children content)
  content-proper in_head same =
      either-node here (bytes_eq name (codes "a") && is_permalink in_head attributes content)
      (λ e. target-proper here id attributes)
      (λ e. one-node here (made id (role_at rich name attributes children) attributes content) (
        by-unlinked rich attributes children (role_of name) (role-named name).unlinked,
        refl,
        (λ i l p. no-mark in_head e (same ∙ i) l p),
        all-weaker content (here || is_headed (role_of name))
            (here || is_heading (role_at rich name attributes children))
            (or-more here (is_heading (role_at rich name attributes children)) (is_headed (role_of name))
            (by-heading rich attributes children (role_of name))) u,
      ))

  by-content-proper : Proper here (by_content rich around source id name attributes children content)
  by-content-proper =
      either-node here (is_hidden around name attributes) (λ e. no-node here)
      (λ e. either-node here (is_image name attributes)
      (λ f. one-node here (image (image_address attributes source) attributes) tt)
      (λ f. either-node here (is_among embedding_names name) (λ i. embedded-proper)
      (λ i. either-node here (bytes_eq name (codes "object")) (λ o. object-proper)
      (λ o. content-proper around.in_head refl))))

formula-proper : (head : Bool) (name : List ℕ) (attributes : List AttributePair) (other : Option Simple)
    (o : Option (List ℕ)) → Proper head other → Proper head (formula_or name attributes other o)
formula-proper head name attributes other None h = h
formula-proper head name attributes other (Some tex) h = one-node head _ tt

-- ---- trees

mutual
  unfolding shown

  shown-proper : (sight : Sight) (around : Surroundings) (source : Option (List ℕ)) (t : NumberedTree)
      → is_text_tree t ≡ true → Proper around.in_head (shown sight around source t)
  shown-proper sight around source (page.document id children) e = no-node around.in_head
  shown-proper sight around source (page.doctype id) e = no-node around.in_head
  shown-proper sight around source (page.text id s) e =
      one-node around.in_head (text (shown_text s)) (shown-all s (IsUtf8-from_is_utf8 s e))
  shown-proper sight around source (page.comment id s) e = no-node around.in_head
  shown-proper sight around source (page.element id name attributes children) e =
      let parts = both-true (list_all is_text_value attributes) (are_text_trees children) e in
      let head : Bool = around.in_head || is_headed (role_of name) in
      let inner : Simples =
      shown_all sight (inside name children around) (picture_source name children) None children in
      let all : Simples = marked (bytes_eq name (codes "q")) (raised (raised_by name) id inner) in
      let proper : AreProper head all =
      marked-proper head (bytes_eq name (codes "q")) (raised (raised_by name) id inner)
      (raised-proper head (raised_by name) id inner
      (all-proper sight (inside name children around) (picture_source name children) None children parts.1)) in
      let content : Simples = cond (is_emptied around name attributes) none all in
      either-node around.in_head (is_skipped sight name) (λ f. no-node around.in_head)
      (λ f. formula-proper around.in_head name attributes
      (by_content sight.is_rich around source id name attributes children content) (tex_of name attributes children)
      (by-content-proper sight.is_rich around source id name attributes children parts.0 parts.1 content
      (emptied head (is_emptied around name attributes) all proper)))
    where
      emptied : (head b : Bool) (ts : Simples) → AreProper head ts → AreProper head (cond b none ts)
      emptied head true ts u = tt
      emptied head false ts u = u

  all-proper : (sight : Sight) (around : Surroundings) (source : Option (List ℕ))
      (before : Option (List AttributePair)) (ts : NumberedForest) → are_text_trees ts ≡ true
      → AreProper around.in_head (shown_all sight around source before ts)
  all-proper sight around source before page.none e = tt
  all-proper sight around source before (page.more t ts) e =
      let parts = both-true (is_text_tree t) (are_text_trees ts) e in
      let repeat : Bool = is_repeat before t (leads_to_script sight.skip ts) in
      with-one around.in_head (cond repeat None (shown sight around (source_for source t) t))
      (shown_all sight around (source_after source t) (last_element before t) ts)
      (either-node around.in_head repeat (λ f. no-node around.in_head)
      (λ f. shown-proper sight around (source_for source t) t parts.0))
      (all-proper sight around (source_after source t) (last_element before t) ts parts.1)

-- what shows of a page
pub page-proper : (sight : Sight) (t : NumberedTree) → is_text_tree t ≡ true → AreProper false (shown_in sight t)
page-proper sight (page.document id children) e = all-proper sight nowhere None None children e
page-proper sight (page.doctype id) e = tt
page-proper sight (page.text id s) e = tt
page-proper sight (page.comment id s) e = tt
page-proper sight (page.element id name attributes children) e = tt
