-- What shows of a page of texts is sound.
use Rattle.std.proofs.Common.{◌≡◌, ℕ, Bool, true, false, cond, ◌&&◌, ◌||◌, List, [], ◌∷◌, refl, sym, ap}
use Rattle.std.proofs.Common.{Option, Some, None, filter}
use Rattle.std.specs.Prelude.{codes}
use Rattle.std.specs.List.{list_all}
use Rattle.std.specs.Option.{option_or, unwrap_or}
use Rattle.std.specs.Str.{IsUtf8, is_utf8, bytes_eq, chars}
use Rattle.std.proofs.lemmas.Bool.Decides.{nat_tests}
use Rattle.std.proofs.Common.{arith, subst}
use Rattle.std.proofs.lemmas.Str.{IsUtf8-append, IsUtf8-nil, IsUtf8-from_is_utf8, IsUtf8-take, IsUtf8-drop}
use Rattle.std.proofs.lemmas.Str.{scalars-chars}
use Rattle.std.specs.List.{prefix_len, suffix_len}
use Rattle.std.proofs.Common.{length, ◌-◌}
use Rattle.htmd_lexical.specs.Characters.{quotation_mark}
use Rattle.htmd_lexical.specs.AttributePairs.{AttributePair}
use Rattle.htmd_lexical.proofs.Cases.{test}
use Rattle.htmd_text.specs.Trims.{trimmed_start, trimmed_text}
use Rattle.htmd_text.proofs.TrimsLemmas.{OfAscii, start_boundary, end_boundary}
use Rattle.htmd_nodes.specs.NumberedTrees.{NumberedTree, NumberedForest}
use Rattle.htmd_nodes.specs.NumberedTrees as page
use Rattle.htmd_document.specs.declared.document.InlineElement.{InlineElement}
use Rattle.htmd_shown.specs.declared.role.Role.{Role}
use Rattle.htmd_shown.specs.declared.role.Role.TheVariants as role
use Rattle.htmd_shown.specs.Attributes.{value_of, text_of, has_attribute, in_line, address, is_space_or_control}
use Rattle.htmd_shown.specs.Attributes.{is_in_address}
use Rattle.htmd_shown.specs.Embeds.{place_of, is_place, source_place, has_sources, address_name, embedded_address}
use Rattle.htmd_shown.specs.Embeds.{text_or, embedded_title, is_unseen, Embedding, embedding, embedding_of}
use Rattle.htmd_shown.specs.Embeds.{embedding_names}
use Rattle.htmd_shown.specs.Facts.{made}
use Rattle.htmd_shown.specs.Formulas.{raw_text, raw_text_among, text_if_shown, is_tex, annotated, annotated_among}
use Rattle.htmd_shown.specs.Formulas.{annotated_in, annotation_at, annotation, tex_of_math, tex_of_script, tex_of}
use Rattle.htmd_shown.specs.Images.{is_image, picture_source}
use Rattle.htmd_shown.specs.Kinds.{are_blank}
use Rattle.htmd_shown.specs.LineNumbers.{is_number_cell, has_numbered_rows}
use Rattle.htmd_shown.specs.Permalinks.{is_permalink}
use Rattle.htmd_shown.specs.Repeats.{is_repeat, last_element, leads_to_script}
use Rattle.htmd_shown.specs.Roles.{is_among, is_void, role_of}
use Rattle.htmd_shown.specs.Shown.{plain_element}
use Rattle.htmd_document.specs.declared.document.InlineElement.TheVariants.{Superscript, Subscript, Inserted}
use Rattle.htmd_document.specs.declared.document.InlineElement.TheVariants.{Underlined, Marked, Small, Keyboard}
use Rattle.htmd_shown.specs.Shown.{Sight, Surroundings, nowhere, inside, is_for_layout, role_by, role_at, raised_by}
use Rattle.htmd_shown.specs.Shown.{raised_one, format_of, formats_after, raised, with_one, followed_by, marks, marked}
use Rattle.htmd_shown.specs.Shown.{is_led_to, target, with_content, embed, object, is_skipped, is_hidden, is_emptied}
use Rattle.htmd_shown.specs.Shown.{by_content, formula_or, source_for, source_after, shown, shown_all, shown_in}
use Rattle.htmd_shown.specs.ShownTexts.{shown_text}
use Rattle.htmd_shown.specs.SimpleTrees.{Simple, Simples, none, more, is_text}
use Rattle.htmd_shown.specs.Spaces.{is_blank_text}
use Rattle.htmd_law_documents.specs.SimpleForms.{IsSound, AreSound}
use Rattle.htmd_law_documents.specs.TreeForms.{is_text_value, is_text_tree, are_text_trees}
use Rattle.htmd_law_documents.proofs.VisibleLemmas.{shown-shows, shows-character, shows-encodes, scalars-filter}
use Rattle.htmd_law_documents.proofs.VisibleLemmas.{both-true}
use Rattle.htmd_law_documents.proofs.PiecesLemmas.{in_line-shows}
use Rattle.htmd_law_documents.proofs.ElementLemmas.{false-true}
use lib.Utf8.{encode}

-- ---- values

pub value-good : (name : List ℕ) (attributes : List AttributePair) → list_all is_text_value attributes ≡ true
    → IsUtf8 (text_of name attributes)
value-good name [] h = IsUtf8-nil
value-good name (a ∷ attributes) h =
    let parts = both-true (is_text_value a) (list_all is_text_value attributes) h in
    either (bytes_eq a.name name) (IsUtf8-from_is_utf8 a.value parts.0) (value-good name attributes parts.1)
  where
    either : (b : Bool) → IsUtf8 a.value → IsUtf8 (unwrap_or (value_of name attributes) [])
        → IsUtf8 (unwrap_or (cond b (Some a.value) (value_of name attributes)) [])
    either true g f = g
    either false g f = f

-- a text like this, if there is one
pub record GoodBy (P : List ℕ → Type 0) (o : Option (List ℕ)) : Type 0 where
  pub is : (s : List ℕ) → o ≡ Some s → P s

abbrev pub IsGood : Option (List ℕ) → Type 0
IsGood = GoodBy IsUtf8

module _ (P : List ℕ → Type 0) where
  pub no-by : GoodBy P None
  no-by = record { is = λ s e. absurd (clash s e) }
    where
      clash : (s : List ℕ) → None ≡ Some s → ⊥
      clash s e = (cc)

  pub one-by : (s : List ℕ) → P s → GoodBy P (Some s)
  one-by s u = record { is = λ t e. same s t e u }
    where
      same : (s t : List ℕ) → Some s ≡ Some t → P s → P t
      same s t e u = subst P (ap (λ o. unwrap_or o []) e) u

  pub either-by : (b : Bool) {x y : Option (List ℕ)} → GoodBy P x → GoodBy P y → GoodBy P (cond b x y)
  either-by true g h = g
  either-by false g h = h

  pub or-by : (x : Option (List ℕ)) {y : Option (List ℕ)} → GoodBy P x → GoodBy P y → GoodBy P (option_or x y)
  or-by None g h = h
  or-by (Some s) g h = g

-- ---- formulas

mutual
  raw-good : (t : NumberedTree) → is_text_tree t ≡ true → IsUtf8 (raw_text t)
  raw-good (page.text id s) e = IsUtf8-from_is_utf8 s e
  raw-good (page.element id name attributes children) e =
      raws-good children (both-true (list_all is_text_value attributes) (are_text_trees children) e).1
  raw-good (page.document id children) e = IsUtf8-nil
  raw-good (page.doctype id) e = IsUtf8-nil
  raw-good (page.comment id s) e = IsUtf8-nil

  raws-good : (ts : NumberedForest) → are_text_trees ts ≡ true → IsUtf8 (raw_text_among ts)
  raws-good page.none e = IsUtf8-nil
  raws-good (page.more t ts) e =
      let parts = both-true (is_text_tree t) (are_text_trees ts) e in
      IsUtf8-append (raw_text t) (raw_text_among ts) (raw-good t parts.0) (raws-good ts parts.1)

children-good : (attributes : List AttributePair) (children : NumberedForest)
    → (list_all is_text_value attributes && are_text_trees children) ≡ true → are_text_trees children ≡ true
children-good attributes children e = (both-true (list_all is_text_value attributes) (are_text_trees children) e).1

module _ (P : List ℕ → Type 0)
    (by : (s : List ℕ) → IsUtf8 s → is_blank_text (shown_text s) ≡ false → P (shown_text s)) where
  abbrev Good : Option (List ℕ) → Type 0
  Good = GoodBy P

  shown-if : (s : List ℕ) → IsUtf8 s → Good (text_if_shown s)
  shown-if s u =
      test (is_blank_text (shown_text s))
      (λ e. subst (λ (b : Bool). Good (cond b None (Some (shown_text s)))) (sym e) (no-by P))
      (λ e.
      subst (λ (b : Bool). Good (cond b None (Some (shown_text s)))) (sym e) (one-by P (shown_text s) (by s u e)))

  annotated-good : (t : NumberedTree) → is_text_tree t ≡ true → Good (annotated t)
  annotated-good (page.element id name attributes children) e =
      either-by P (bytes_eq name (codes "annotation") && is_tex attributes)
      (shown-if (raw_text_among children) (raws-good children (children-good attributes children e))) (no-by P)
  annotated-good (page.text id s) e = (no-by P)
  annotated-good (page.document id children) e = (no-by P)
  annotated-good (page.doctype id) e = (no-by P)
  annotated-good (page.comment id s) e = (no-by P)

  annotations-good : (ts : NumberedForest) → are_text_trees ts ≡ true → Good (annotated_among ts)
  annotations-good page.none e = (no-by P)
  annotations-good (page.more t ts) e =
      let parts = both-true (is_text_tree t) (are_text_trees ts) e in
      or-by P (annotated t) (annotated-good t parts.0) (annotations-good ts parts.1)

  annotated_in-good : (t : NumberedTree) → is_text_tree t ≡ true → Good (annotated_in t)
  annotated_in-good (page.element id name attributes children) e =
      either-by P (bytes_eq name (codes "semantics"))
      (annotations-good children (children-good attributes children e)) (no-by P)
  annotated_in-good (page.text id s) e = (no-by P)
  annotated_in-good (page.document id children) e = (no-by P)
  annotated_in-good (page.doctype id) e = (no-by P)
  annotated_in-good (page.comment id s) e = (no-by P)

  annotation-good : (ts : NumberedForest) → are_text_trees ts ≡ true → Good (annotation ts)
  annotation-good page.none e = (no-by P)
  annotation-good (page.more t ts) e =
      let parts = both-true (is_text_tree t) (are_text_trees ts) e in
      or-by P (annotation_at t) (or-by P (annotated t) (annotated-good t parts.0) (annotated_in-good t parts.0))
      (annotation-good ts parts.1)

  pub tex-by : (name : List ℕ) (attributes : List AttributePair) (children : NumberedForest)
      → list_all is_text_value attributes ≡ true → are_text_trees children ≡ true
      → Good (tex_of name attributes children)
  tex-by name attributes children g h =
      let math : Good (tex_of_math attributes children) =
      or-by P (annotation children) (annotation-good children h)
      (shown-if (text_of (codes "alttext") attributes) (value-good (codes "alttext") attributes g)) in
      let script : Good (tex_of_script attributes children) =
      either-by P _ (shown-if (raw_text_among children) (raws-good children h)) (no-by P) in
      either-by P (bytes_eq name (codes "math")) math
      (either-by P (bytes_eq name (codes "script")) script (no-by P))

pub tex-good : (name : List ℕ) (attributes : List AttributePair) (children : NumberedForest)
    → list_all is_text_value attributes ≡ true → are_text_trees children ≡ true
    → IsGood (tex_of name attributes children)
tex-good name attributes children g h = tex-by IsUtf8 (λ s u e. (shown-shows s u).utf8) name attributes children g h

-- ---- what is embedded

control-ascii : OfAscii is_space_or_control
control-ascii b e = grind (arith, nat_tests)

utf8-trimmed : (p : ℕ → Bool) → OfAscii p → (s : List ℕ) → IsUtf8 s → IsUtf8 (trimmed_text p s)
utf8-trimmed p ascii s h =
    let start : List ℕ = trimmed_start p s in
    IsUtf8-take start (length start - suffix_len p start)
    (IsUtf8-drop s (prefix_len p s) h (start_boundary p s h ascii))
    (end_boundary p start ascii)

pub address-good : (s : List ℕ) → IsUtf8 s → IsUtf8 (address s)
address-good s u =
    let t : List ℕ = trimmed_text is_space_or_control s in
    (shows-encodes (filter is_in_address (chars t))
    (scalars-filter is_in_address (chars t)
    (scalars-chars t (utf8-trimmed is_space_or_control control-ascii s u)))).utf8

module _ (Q : List ℕ → Type 0)
    (by : (s : List ℕ) → IsUtf8 s → is_place (address s) ≡ true → Q (address s)) where
  abbrev PlaceGood : Option (List ℕ) → Type 0
  PlaceGood = GoodBy Q

  place-good : (s : List ℕ) → IsUtf8 s → PlaceGood (place_of s)
  place-good s u = either (is_place (address s)) (by s u)
    where
      either : (b : Bool) → (b ≡ true → Q (address s)) → PlaceGood (cond b (Some (address s)) None)
      either true f = one-by Q (address s) (f refl)
      either false f = no-by Q

  source-good : (ts : NumberedForest) → are_text_trees ts ≡ true → PlaceGood (source_place ts)
  source-good page.none e = (no-by Q)
  source-good (page.more (page.element id name attributes children) ts) e =
      let t : NumberedTree = page.element id name attributes children in
      let parts = both-true (is_text_tree t) (are_text_trees ts) e in
      let own = both-true (list_all is_text_value attributes) (are_text_trees children) parts.0 in
      either-by Q (bytes_eq name (codes "source"))
      (place-good (text_of (codes "src") attributes) (value-good (codes "src") attributes own.0))
      (source-good ts parts.1)
  source-good (page.more (page.text id s) ts) e = source-good ts (both-true (is_utf8 s) (are_text_trees ts) e).1
  source-good (page.more (page.document id children) ts) e =
      source-good ts (both-true (are_text_trees children) (are_text_trees ts) e).1
  source-good (page.more (page.doctype id) ts) e = source-good ts e
  source-good (page.more (page.comment id s) ts) e = source-good ts e

  -- the address of what an element embeds
  pub embedded-by : (name : List ℕ) (attributes : List AttributePair) (children : NumberedForest)
      → list_all is_text_value attributes ≡ true → are_text_trees children ≡ true
      → PlaceGood (embedded_address name attributes children)
  embedded-by name attributes children g h =
      or-by Q (place_of (text_of (address_name name) attributes))
      (place-good (text_of (address_name name) attributes) (value-good (address_name name) attributes g))
      (either-by Q (has_sources name) (source-good children h) (no-by Q))

pub embedded-good : (name : List ℕ) (attributes : List AttributePair) (children : NumberedForest)
    → list_all is_text_value attributes ≡ true → are_text_trees children ≡ true
    → IsGood (embedded_address name attributes children)
embedded-good name attributes children g h =
    embedded-by IsUtf8 (λ s u e. address-good s u) name attributes children g h

text_or-good : (b : Bool) (s other : List ℕ) → IsUtf8 s → IsUtf8 other → IsUtf8 (cond b other s)
text_or-good true s other g h = h
text_or-good false s other g h = g

title-good : (attributes : List AttributePair) (place : List ℕ) → list_all is_text_value attributes ≡ true
    → IsUtf8 place → IsUtf8 (embedded_title attributes place)
title-good attributes place g u =
    let title : List ℕ = in_line (text_of (codes "title") attributes) in
    let label : List ℕ = in_line (text_of (codes "aria-label") attributes) in
    text_or-good (is_blank_text title) title (text_or label (in_line place))
    (in_line-shows (text_of (codes "title") attributes) (value-good (codes "title") attributes g)).utf8
    (text_or-good (is_blank_text label) label (in_line place)
    (in_line-shows (text_of (codes "aria-label") attributes) (value-good (codes "aria-label") attributes g)).utf8
    (in_line-shows place u).utf8)

-- ---- nodes

-- what there may be is sound
pub record Sound (o : Option Simple) : Type 0 where
  pub is : (t : Simple) → o ≡ Some t → IsSound t

no-node : Sound None
no-node = record { is = λ t e. absurd (clash t e) }
  where
    clash : (t : Simple) → None ≡ Some t → ⊥
    clash t e = (cc)

one-node : (t : Simple) → IsSound t → Sound (Some t)
one-node t u = record { is = λ x e. subst IsSound (ap (λ o. unwrap_or o t) e) u }

either-node : (b : Bool) {x y : Option Simple} → Sound x → Sound y → Sound (cond b x y)
either-node true g h = g
either-node false g h = h

made-sound : (id : ℕ) (r : Role) (attributes : List AttributePair) (content : Simples)
    → (is_void r ≡ true → content ≡ none) → AreSound content → IsSound (made id r attributes content)
made-sound id r attributes content e u = (record { empty = e; blank = λ h. h }, u)

element-void : (is_rich : Bool) (e : InlineElement)
    → is_void (cond is_rich (role.Element e) (plain_element e)) ≡ true → is_void (role.Element e) ≡ true
element-void true e h = h
element-void false Superscript h = h
element-void false Subscript h = h
element-void false Inserted h = h
element-void false Underlined h = h
element-void false Marked h = h
element-void false Small h = h
element-void false Keyboard h = h

-- what an element is doesn't make it void
pub role-void : (is_rich : Bool) (r : Role) (attributes : List AttributePair) (children : NumberedForest)
    → is_void (role_by is_rich r attributes children) ≡ true → is_void r ≡ true
role-void is_rich role.Link attributes children h = either (has_attribute (codes "href") attributes) h
  where
    either : (b : Bool) → is_void (cond b role.Link role.Target) ≡ true → is_void role.Link ≡ true
    either true e = e
    either false e = e
role-void is_rich role.Table attributes children h =
    either (is_for_layout attributes || has_numbered_rows children) h
  where
    either : (b : Bool) → is_void (cond b role.LayoutTable role.Table) ≡ true → is_void role.Table ≡ true
    either true e = e
    either false e = e
role-void is_rich (role.Element e) attributes children h = element-void is_rich e h
role-void is_rich role.Abbreviation attributes children h = either is_rich h
  where
    either : (b : Bool) → is_void (cond b role.Abbreviation role.Plain) ≡ true
        → is_void role.Abbreviation ≡ true
    either true e = e
    either false e = e
role-void is_rich r attributes children h = h

with-one-sound : (o : Option Simple) (ts : Simples) → Sound o → AreSound ts → AreSound (with_one o ts)
with-one-sound None ts g h = h
with-one-sound (Some t) ts g h = (g.is t refl, h)

pub followed-sound : (ts us : Simples) → AreSound ts → AreSound us → AreSound (followed_by ts us)
followed-sound none us g h = h
followed-sound (more t ts) us g h = (g.0, followed-sound ts us g.1 h)

mark-utf8 : IsUtf8 (quotation_mark ∷ [])
unfolding encode
mark-utf8 = (shows-character quotation_mark refl).utf8

marks-sound : (b : Bool) → AreSound (marks b)
marks-sound true = (mark-utf8, tt)
marks-sound false = tt

marked-sound : (b : Bool) (ts : Simples) → AreSound ts → AreSound (marked b ts)
marked-sound b ts u =
    followed-sound (followed_by (marks b) ts) (marks b) (followed-sound (marks b) ts (marks-sound b) u) (marks-sound b)

raised-one-sound : (o : Option InlineElement) (id : ℕ) (t : Simple) → IsSound t → IsSound (raised_one o id t)
raised-one-sound None id t u = u
raised-one-sound (Some format) id t u = either (is_text t)
  where
    either : (b : Bool) → IsSound (cond b t (made id (role.Element format) [] (more t none)))
    either true = u
    either false = made-sound id (role.Element format) [] (more t none) (λ e. false-true e) (u, tt)

raised-sound : (formats : List (Option InlineElement)) (id : ℕ) (ts : Simples) → AreSound ts
    → AreSound (raised formats id ts)
raised-sound formats id none u = tt
raised-sound formats id (more t ts) u =
    (raised-one-sound (format_of formats) id t u.0, raised-sound (formats_after formats t) id ts u.1)

-- ---- elements

target-sound : (id : ℕ) (attributes : List AttributePair) → Sound (target id attributes)
target-sound id attributes =
    either-node (is_led_to attributes)
    (one-node (made id role.Target attributes none) (made-sound id role.Target attributes none (λ e. refl) tt)) no-node

pub embed-sound : (id : ℕ) (attributes : List AttributePair) (o : Option (List ℕ))
    → list_all is_text_value attributes ≡ true → IsGood o → Sound (embed id attributes (embedding attributes o))
embed-sound id attributes None g h = no-node
embed-sound id attributes (Some place) g h = either (is_unseen attributes)
  where
    either : (b : Bool) → Sound (embed id attributes (cond b None
        (Some (record { address = place; title = embedded_title attributes place }))))
    either true = no-node
    either false = one-node _ (title-good attributes place g (h.is place refl))

or-node : (x : Option Simple) {y : Option Simple} → Sound x → Sound y → Sound (option_or x y)
or-node None g h = h
or-node (Some t) g h = g

object-sound : (id : ℕ) (attributes : List AttributePair) (content : Simples) (o : Option Embedding)
    → Sound (embed id attributes o) → AreSound content → Sound (object id attributes content o)
object-sound id attributes content o h u =
    let plain : Sound (Some (made id role.Plain attributes content)) =
    one-node (made id role.Plain attributes content)
    (made-sound id role.Plain attributes content (λ e. false-true e) u) in
    either-node (are_blank content) (or-node (embed id attributes o) h plain) plain

formula-sound : (name : List ℕ) (attributes : List AttributePair) (other : Option Simple) (o : Option (List ℕ))
    → IsGood o → Sound other → Sound (formula_or name attributes other o)
formula-sound name attributes other None g h = h
formula-sound name attributes other (Some tex) g h = one-node _ (g.is tex refl)

module _ (is_rich : Bool) (around : Surroundings) (source : Option (List ℕ)) (id : ℕ) (name : List ℕ)
    (attributes : List AttributePair)
    (children : NumberedForest) (g : list_all is_text_value attributes ≡ true) (h : are_text_trees children ≡ true)
    (content : Simples) (u : AreSound content)
    (e : is_void (role_of name) ≡ true → content ≡ none) where
  content-sound : (in_head : Bool) → Sound (with_content is_rich in_head id name attributes children content)
  content-sound in_head =
      either-node (bytes_eq name (codes "a") && is_permalink in_head attributes content) (target-sound id attributes)
      (one-node (made id (role_at is_rich name attributes children) attributes content)
      (made-sound id (role_at is_rich name attributes children) attributes content
      (λ v. e (role-void is_rich (role_of name) attributes children v)) u))

  by-content-sound : Sound (by_content is_rich around source id name attributes children content)
  by-content-sound =
      either-node (is_hidden around name attributes) no-node
      (either-node (is_image name attributes) (one-node _ (value-good (codes "alt") attributes g))
      (either-node (is_among embedding_names name)
      (embed-sound id attributes (embedded_address name attributes children) g
      (embedded-good name attributes children g h))
      (either-node (bytes_eq name (codes "object"))
      (object-sound id attributes content (embedding_of name attributes children)
      (embed-sound id attributes (embedded_address name attributes children) g
      (embedded-good name attributes children g h)) u)
      (content-sound around.in_head))))

mutual
  unfolding shown

  shown-sound : (sight : Sight) (around : Surroundings) (source : Option (List ℕ)) (t : NumberedTree)
      → is_text_tree t ≡ true → Sound (shown sight around source t)
  shown-sound sight around source (page.document id children) e = no-node
  shown-sound sight around source (page.doctype id) e = no-node
  shown-sound sight around source (page.text id s) e =
      one-node _ (shown-shows s (IsUtf8-from_is_utf8 s e)).utf8
  shown-sound sight around source (page.comment id s) e = no-node
  shown-sound sight around source (page.element id name attributes children) e =
      let parts = both-true (list_all is_text_value attributes) (are_text_trees children) e in
      let inner : Simples =
      shown_all sight (inside name children around) (picture_source name children) None children in
      let all : Simples = marked (bytes_eq name (codes "q")) (raised (raised_by name) id inner) in
      let sound : AreSound all =
      marked-sound (bytes_eq name (codes "q")) (raised (raised_by name) id inner)
      (raised-sound (raised_by name) id inner
      (all-sound sight (inside name children around) (picture_source name children) None children parts.1)) in
      let content : Simples = cond (is_emptied around name attributes) none all in
      either-node (is_skipped sight name) no-node
      (formula-sound name attributes (by_content sight.is_rich around source id name attributes children content)
      (tex_of name attributes children) (tex-good name attributes children parts.0 parts.1)
      (by-content-sound sight.is_rich around source id name attributes children parts.0 parts.1 content
      (emptied (is_emptied around name attributes) all sound)
      (λ v. ap (λ b. cond b none all)
      (ap (λ b. b || (around.in_numbered_row && is_number_cell name attributes)) v))))
    where
      emptied : (b : Bool) (ts : Simples) → AreSound ts → AreSound (cond b none ts)
      emptied true ts u = tt
      emptied false ts u = u

  all-sound : (sight : Sight) (around : Surroundings) (source : Option (List ℕ))
      (before : Option (List AttributePair)) (ts : NumberedForest) → are_text_trees ts ≡ true
      → AreSound (shown_all sight around source before ts)
  all-sound sight around source before page.none e = tt
  all-sound sight around source before (page.more t ts) e =
      let parts = both-true (is_text_tree t) (are_text_trees ts) e in
      let repeat : Bool = is_repeat before t (leads_to_script sight.skip ts) in
      with-one-sound (cond repeat None (shown sight around (source_for source t) t))
      (shown_all sight around (source_after source t) (last_element before t) ts)
      (either-node repeat no-node (shown-sound sight around (source_for source t) t parts.0))
      (all-sound sight around (source_after source t) (last_element before t) ts parts.1)

-- what shows of a page
pub page-sound : (sight : Sight) (t : NumberedTree) → is_text_tree t ≡ true → AreSound (shown_in sight t)
page-sound sight (page.document id children) e = all-sound sight nowhere None None children e
page-sound sight (page.doctype id) e = tt
page-sound sight (page.text id s) e = tt
page-sound sight (page.comment id s) e = tt
page-sound sight (page.element id name attributes children) e = tt
