-- Trees whose targets are the anchors of lines, and whose links lead where these lead.
use Rattle.std.proofs.Common.{◌≡◌, ℕ, ◌+◌, Bool, true, false, not, ◌&&◌, ◌||◌, cond, List, []}
use Rattle.std.proofs.Common.{◌∷◌, ◌++◌}
use Rattle.std.proofs.Common.{refl, sym, ap, ◌∙◌, subst, drop, Option, Some, None}
use Rattle.std.specs.Str.{bytes_eq, chars}
use Rattle.std.specs.Str.Lossy.{utf8_lossy}
use Rattle.percent_encoding.specs.Percent.{percent_decode}
use Rattle.std.proofs.lemmas.Bool.{and_parts, and_from}
use Rattle.std.proofs.lemmas.List.Folds.{list_any-append}
use Rattle.htmd_lexical.specs.AttributePairs.{AttributePair}
use Rattle.htmd_document.specs.AnchorIds.{ids_of_inline, ids_of_line}
use Rattle.htmd_document.specs.Documents.{Inline, formatted, link, anchor, Inlines, no_inlines, inline}
use Rattle.htmd_document.specs.Formats.{Format, Emphasis, Strong, Deleted, Superscript, Subscript, Inserted, Underlined}
use Rattle.htmd_document.specs.Formats.{Marked, Small, Keyboard, Abbreviation}
use Rattle.htmd_document.specs.NormalInlines.{is_text, is_anchor}
use Rattle.htmd_shown.specs.declared.role.Role.{Role}
use Rattle.htmd_shown.specs.declared.role.Role.TheVariants as role
use Rattle.htmd_shown.specs.declared.facts.Facts.{Facts}
use Rattle.htmd_shown.specs.Attributes.{in_line, is_filled, is_to_part, address}
use Rattle.htmd_shown.specs.Facts.{made, facts_of}
use Rattle.htmd_shown.specs.Pieces.{no_pieces}
use Rattle.htmd_shown.specs.Roles.{is_link, is_heading, is_title, is_verbatim}
use Rattle.htmd_shown.specs.Showings.{shows, show, show_usual_sign, code_shows}
use Rattle.htmd_shown.specs.SimpleTrees.{Simple, image, formula, embedded, element, Simples, none, more}
use Rattle.htmd_shown.specs.SimpleTrees as simple
use Rattle.htmd_document_of_tree.specs.Leadings.{Leading, leadings, leadings_among, own_leadings, around_in, after}
use Rattle.htmd_document_of_tree.specs.Leadings.{heading_in, layout_in, is_flat, is_led_to, is_in, is_written}
use Rattle.htmd_document_of_tree.specs.Leadings.{has_leaf, have_leaf, shows_in_link, leadings_if, leadings_to}
use Rattle.htmd_document_of_tree.specs.Leadings.{is_signed_title, is_signed, is_unlinked, leading_to, is_linked_to}
use Rattle.htmd_document_of_tree.specs.declared.leadings.Around.{Around}
use Rattle.htmd_document_of_tree.specs.declared.leadings.Layout.{Layout}
use Rattle.htmd_document_of_tree.specs.declared.leadings.Span.{Span}
use Rattle.htmd_document_of_tree.specs.Anchors.{values_of}
use Rattle.htmd_document_of_tree.specs.Limits.{address_of}
use Rattle.htmd_document_of_tree.specs.Seen.{all_seen}
use Rattle.htmd_document_of_tree.specs.Targets.{is_whole}
use Rattle.htmd_law_rendering.specs.RenderedTrees.{pairs_of_format, pairs_of_link}
use Rattle.htmd_law_returning.specs.LastingAnchors.{leads_to, leads, lead}
use Rattle.htmd_law_returning.specs.SettledDocuments.{is_one_line, is_settled_address}
use Rattle.htmd_law_returning.proofs.AddressLemmas.{link-nameless, link-address}
use Rattle.htmd_law_returning.proofs.BareLemmas.{has_no_name, is_bare, are_bare, are_joined}
use Rattle.htmd_law_returning.proofs.FormatLemmas.{format_role}
use Rattle.htmd_law_returning.proofs.LineFactLemmas.{is_seen, begins_seen}
use Rattle.htmd_law_returning.proofs.LocalAnchors.{are_nameless, none-among}
use Rattle.htmd_law_returning.proofs.PlacedTrees.{is_id, IsPlaced, ArePlaced, placed-none, placed-more}
use Rattle.htmd_law_returning.proofs.PlacedTrees.{placed-nameless, placed-inside, placed-place}
use Rattle.htmd_law_returning.proofs.PlacedTrees.{bare-nameless, all-bare-nameless}
use Rattle.htmd_law_returning.proofs.LocalPieces.{have_right_links}
use Rattle.htmd_law_returning.proofs.PageLemmas.{and-false}
use Rattle.htmd_law_returning.proofs.StartLemmas.{false-true, true-false}
use Rattle.htmd_law_returning.proofs.TreesLemmas.{pairs_of_anchor}
use lib.Utf8.{encode}

pub or-left : (a b : Bool) → a ≡ true → (a || b) ≡ true
or-left true b h = refl
or-left false b h = true-false (sym h)

pub or-right : (a b : Bool) → b ≡ true → (a || b) ≡ true
or-right true b h = refl
or-right false b h = h

-- one of the two
pub either-of : {A : Type 0} → (a b : Bool) → (a || b) ≡ true → (a ≡ true → A) → (b ≡ true → A) → A
either-of true b h f g = f refl
either-of false b h f g = g h

-- ---- where links lead

pub led-both : (xs ys : List Leading) (id : List ℕ) (m : ℕ)
    → is_led_to (xs ++ ys) id m ≡ (is_led_to xs id m || is_led_to ys id m)
led-both xs ys id m = list_any-append (λ (l : Leading). bytes_eq l.to id && not (is_in l.heading m)) xs ys

pub led-left : (xs ys : List Leading) (id : List ℕ) (m : ℕ) → is_led_to xs id m ≡ true
    → is_led_to (xs ++ ys) id m ≡ true
led-left xs ys id m h = led-both xs ys id m ∙ or-left (is_led_to xs id m) (is_led_to ys id m) h

pub led-right : (xs ys : List Leading) (id : List ℕ) (m : ℕ) → is_led_to ys id m ≡ true
    → is_led_to (xs ++ ys) id m ≡ true
led-right xs ys id m h = led-both xs ys id m ∙ or-right (is_led_to xs id m) (is_led_to ys id m) h

-- an element that is no link has none itself
abbrev pub inner : Around → Bool → Role → Simples → Around
inner around flat r content = around_in around flat false r content

own-none : (around : Around) (r : Role) (attributes : List AttributePair) (content : Simples)
    → own_leadings around false r attributes content ≡ []
own-none around r attributes content = either (around.is_linked)
  where
    either : (b : Bool) → leadings_if (not b && false) (heading_in around.heading around.seen r content) attributes
        ≡ []
    either true = refl
    either false = refl

pub element-leadings : (around : Around) (flat : Bool) (id : ℕ) (r : Role) (facts : Facts)
    (attributes : List AttributePair) (content : Simples) → is_verbatim r ≡ false → is_link r ≡ false
    → leadings around flat (element id r facts attributes content)
    ≡ leadings_among (inner around flat r content) (layout_in around.is_rich flat r content) content
element-leadings around flat id r facts attributes content v l =
    let lay : Layout = layout_in around.is_rich flat r content in
    let written : Bool = is_written around.is_rich flat r attributes content in
    let w : written ≡ false = ap (λ b. b && shows_in_link around.is_rich lay attributes content) l in
    ap (λ b. cond b [] (own_leadings around written r attributes content
    ++ leadings_among (around_in around flat written r content) lay content)) v
    ∙ (ap (λ b. own_leadings around b r attributes content
    ++ leadings_among (around_in around flat b r content) lay content) w
    ∙ ap (λ ls. ls ++ leadings_among (inner around flat r content) lay content)
    (own-none around r attributes content))

pub inner-linked : (around : Around) (flat : Bool) (r : Role) (content : Simples) → around.is_linked ≡ false
    → (inner around flat r content).is_linked ≡ false
inner-linked around flat r content h =
    ap (λ b. (b && (flat || not (is_signed_title around.is_rich r content))) || false) h

pub same-heading : (h : Option Span) (n : ℕ) (r : Role) (content : Simples) → is_heading r ≡ false
    → heading_in h n r content ≡ h
same-heading (Some span) n r content e = refl
same-heading None n r content e = ap (λ b. cond b (Some (record { from = n; until = n + all_seen content })) None) e

-- what shows in one that is no heading and no title
element-leaf : (is_rich to_part flat : Bool) (id : ℕ) (r : Role) (facts : Facts) (attributes : List AttributePair)
    (content : Simples) → is_verbatim r ≡ false → is_heading r ≡ false → is_title r ≡ false
    → has_leaf is_rich to_part flat (element id r facts attributes content)
    ≡ have_leaf is_rich to_part (layout_in is_rich flat r content) content
element-leaf is_rich to_part flat id r facts attributes content v h t =
    let rest : Bool = have_leaf is_rich to_part (layout_in is_rich flat r content) content in
    let unlinked : Bool = is_unlinked is_rich to_part flat r facts content in
    let signed : is_signed is_rich r facts content ≡ false =
    ap (λ b. (b && facts.shows_sign) || is_signed_title is_rich r content) h
    ∙ ap (λ b. b && is_rich && show_usual_sign content) t in
    let u : unlinked ≡ false = ap (λ b. not flat && to_part && b) signed ∙ and-false (not flat && to_part) in
    ap (λ b. cond b (flat && code_shows content) (cond unlinked false rest)) v ∙ ap (λ b. cond b false rest) u

-- ---- lines

-- where a link of the line leads, a link among the nodes does, unless the place is in the heading around
abbrev LeadAlike : Inlines → Simples → Type 0
LeadAlike xs ts =
    (around : Around) (beside : Layout) (id : List ℕ) (m : ℕ) → around.is_linked ≡ false
    → is_in around.heading m ≡ false → is_id id ≡ true → lead id xs ≡ true
    → is_led_to (leadings_among around beside ts) id m ≡ true

pub record IsSoundLine (xs : Inlines) (ts : Simples) : Type 0 where
  pub placed : ArePlaced (ids_of_line xs) ts
  pub leads : LeadAlike xs ts
  pub leaf : (is_rich to_part : Bool) (beside : Layout) → begins_seen xs ≡ true
      → have_leaf is_rich to_part beside ts ≡ true

pub sound-end : IsSoundLine no_inlines none
sound-end = record {
  placed = placed-none;
  leads = λ around beside id m l n i e. false-true e;
  leaf = λ is_rich to_part beside e. false-true e;
}

-- one more node
sound-step : (x : Inline) (xs : Inlines) (t : Simple) (ts : Simples) → IsPlaced (ids_of_inline x) t
    → ((around : Around) (flat : Bool) (id : List ℕ) (m : ℕ) → around.is_linked ≡ false
    → is_in around.heading m ≡ false → is_id id ≡ true → leads id x ≡ true
    → is_led_to (leadings around flat t) id m ≡ true)
    → ((is_rich to_part flat : Bool) → is_seen x ≡ true → has_leaf is_rich to_part flat t ≡ true)
    → IsSoundLine xs ts → IsSoundLine (inline x xs) (more t ts)
sound-step x xs t ts p own leaf h = record {
  placed = placed-more (ids_of_inline x) (ids_of_line xs) t ts p h.placed;
  leads = λ around beside id m l n i e.
      let here : List Leading = leadings around (is_flat beside t) t in
      let others : List Leading = leadings_among (after around t) beside ts in
      either-of (leads id x) (lead id xs) e
      (λ e. led-left here others id m (own around (is_flat beside t) id m l n i e))
      (λ e. led-right here others id m (h.leads (after around t) beside id m l n i e));
  leaf = λ is_rich to_part beside e.
      let here : Bool = has_leaf is_rich to_part (is_flat beside t) t in
      let others : Bool = have_leaf is_rich to_part beside ts in
      either-of (is_seen x) (is_anchor x && begins_seen xs) e
      (λ e. or-left here others (leaf is_rich to_part (is_flat beside t) e))
      (λ e. or-right here others (h.leaf is_rich to_part beside (and_parts (is_anchor x) (begins_seen xs) e).1));
}

abbrev are_texts : Simples → Bool
are_texts none = true
are_texts (more (simple.text s) ts) = are_texts ts
are_texts ts = false

abbrev is_leaf_role : Role → Bool
is_leaf_role role.Code = true
is_leaf_role role.LineBreak = true
is_leaf_role role.Input = true
is_leaf_role r = false

-- a text, an image, code, a break or a box
abbrev pub is_leaf : Simple → Bool
is_leaf (image address attributes) = has_no_name attributes
is_leaf (element id r facts attributes content) = is_leaf_role r && has_no_name attributes && are_texts content
is_leaf (simple.text s) = true
is_leaf t = false

record IsLeafElement (r : Role) (attributes : List AttributePair) (content : Simples) : Type 0 where
  role : is_leaf_role r ≡ true
  nameless : has_no_name attributes ≡ true
  texts : are_texts content ≡ true

leaf-element : (r : Role) (attributes : List AttributePair) (content : Simples)
    → (is_leaf_role r && has_no_name attributes && are_texts content) ≡ true → IsLeafElement r attributes content
leaf-element r attributes content h =
    let p = and_parts (is_leaf_role r && has_no_name attributes) (are_texts content) h in
    let q = and_parts (is_leaf_role r) (has_no_name attributes) p.0 in
    record { role = q.0; nameless = q.1; texts = p.1 }

texts-bare : (ts : Simples) → are_texts ts ≡ true → are_bare ts ≡ true
texts-bare none h = refl
texts-bare (more (simple.text s) ts) h = texts-bare ts h
texts-bare (more (image address attributes) ts) h = false-true h
texts-bare (more (formula tex is_alone attributes) ts) h = false-true h
texts-bare (more (embedded id address title attributes anchors) ts) h = false-true h
texts-bare (more (simple.anchor id) ts) h = false-true h
texts-bare (more (element id r facts attributes content) ts) h = false-true h

texts-leaf : (is_rich to_part : Bool) (beside : Layout) (ts : Simples) → are_texts ts ≡ true
    → show false ts ≡ true → have_leaf is_rich to_part beside ts ≡ true
texts-leaf is_rich to_part beside none h e = false-true e
texts-leaf is_rich to_part beside (more (simple.text s) ts) h e =
    either-of (shows false (simple.text s)) (show false ts) e
    (λ e. or-left (shows false (simple.text s)) (have_leaf is_rich to_part beside ts) e)
    (λ e. or-right (shows false (simple.text s)) (have_leaf is_rich to_part beside ts)
    (texts-leaf is_rich to_part beside ts h e))
texts-leaf is_rich to_part beside (more (image address attributes) ts) h e = false-true h
texts-leaf is_rich to_part beside (more (formula tex is_alone attributes) ts) h e = false-true h
texts-leaf is_rich to_part beside (more (embedded id address title attributes anchors) ts) h e = false-true h
texts-leaf is_rich to_part beside (more (simple.anchor id) ts) h e = false-true h
texts-leaf is_rich to_part beside (more (element id r facts attributes content) ts) h e = false-true h

leaf-bare : (t : Simple) → is_leaf t ≡ true → is_bare t ≡ true
leaf-bare (simple.text s) h = refl
leaf-bare (image address attributes) h = h
leaf-bare (element id role.Code facts attributes content) h =
    let k = leaf-element role.Code attributes content h in
    and_from (has_no_name attributes) (are_bare content) k.nameless (texts-bare content k.texts)
leaf-bare (element id role.LineBreak facts attributes content) h =
    let k = leaf-element role.LineBreak attributes content h in
    and_from (has_no_name attributes) (are_bare content) k.nameless (texts-bare content k.texts)
leaf-bare (element id role.Input facts attributes content) h =
    let k = leaf-element role.Input attributes content h in
    and_from (has_no_name attributes) (are_bare content) k.nameless (texts-bare content k.texts)
leaf-bare (element id r facts attributes content) h = false-true (leaf-element r attributes content h).role
leaf-bare (formula tex is_alone attributes) h = false-true h
leaf-bare (embedded id address title attributes anchors) h = false-true h
leaf-bare (simple.anchor id) h = false-true h

leaf-shows : (is_rich to_part flat : Bool) (t : Simple) → is_leaf t ≡ true → shows false t ≡ true
    → has_leaf is_rich to_part flat t ≡ true
leaf-shows is_rich to_part flat (simple.text s) h e = e
leaf-shows is_rich to_part flat (image address attributes) h e = e
leaf-shows is_rich to_part flat (element id role.Code facts attributes content) h e =
    element-leaf is_rich to_part flat id role.Code facts attributes content refl refl refl
    ∙ texts-leaf is_rich to_part (layout_in is_rich flat role.Code content) content
    (leaf-element role.Code attributes content h).texts e
leaf-shows is_rich to_part flat (element id role.LineBreak facts attributes content) h e =
    element-leaf is_rich to_part flat id role.LineBreak facts attributes content refl refl refl
    ∙ texts-leaf is_rich to_part (layout_in is_rich flat role.LineBreak content) content
    (leaf-element role.LineBreak attributes content h).texts e
leaf-shows is_rich to_part flat (element id role.Input facts attributes content) h e =
    element-leaf is_rich to_part flat id role.Input facts attributes content refl refl refl
    ∙ texts-leaf is_rich to_part (layout_in is_rich flat role.Input content) content
    (leaf-element role.Input attributes content h).texts e
leaf-shows is_rich to_part flat (element id r facts attributes content) h e =
    false-true (leaf-element r attributes content h).role
leaf-shows is_rich to_part flat (formula tex is_alone attributes) h e = false-true h
leaf-shows is_rich to_part flat (embedded id address title attributes anchors) h e = false-true h
leaf-shows is_rich to_part flat (simple.anchor id) h e = false-true h

pub sound-leaf : (x : Inline) (xs : Inlines) (t : Simple) (ts : Simples) → ids_of_inline x ≡ []
    → ((id : List ℕ) → leads id x ≡ false) → is_leaf t ≡ true
    → (is_seen x ≡ true → shows false t ≡ true)
    → IsSoundLine xs ts → IsSoundLine (inline x xs) (more t ts)
sound-leaf x xs t ts none_there no_link l s h =
    let b = bare-nameless t (leaf-bare t l) in
    sound-step x xs t ts (subst (λ ids. IsPlaced ids t) (sym none_there) (placed-nameless t b.0 b.1))
    (λ around flat id m a n i e. true-false (sym e ∙ no_link id))
    (λ is_rich to_part flat e. leaf-shows is_rich to_part flat t l (s e)) h

-- a text that belongs to no inline
pub sound-white : (s : List ℕ) (xs : Inlines) (ts : Simples) → IsSoundLine xs ts
    → IsSoundLine xs (more (simple.text s) ts)
sound-white s xs ts k = record {
  placed = placed-more [] (ids_of_line xs) (simple.text s) ts (placed-nameless (simple.text s) refl refl) k.placed;
  leads = λ around beside id m l n i e. k.leads (after around (simple.text s)) beside id m l n i e;
  leaf = λ is_rich to_part beside e.
      or-right (has_leaf is_rich to_part (is_flat beside (simple.text s)) (simple.text s))
      (have_leaf is_rich to_part beside ts) (k.leaf is_rich to_part beside e);
}

-- a format
record IsPlainRole (r : Role) : Type 0 where
  whole : is_whole r ≡ false
  link : is_link r ≡ false
  verbatim : is_verbatim r ≡ false
  heading : is_heading r ≡ false
  title : is_title r ≡ false

format-plain : (f : Format) → IsPlainRole (format_role f)
format-plain Emphasis = record { whole = refl; link = refl; verbatim = refl; heading = refl; title = refl }
format-plain Strong = record { whole = refl; link = refl; verbatim = refl; heading = refl; title = refl }
format-plain Deleted = record { whole = refl; link = refl; verbatim = refl; heading = refl; title = refl }
format-plain Superscript = record { whole = refl; link = refl; verbatim = refl; heading = refl; title = refl }
format-plain Subscript = record { whole = refl; link = refl; verbatim = refl; heading = refl; title = refl }
format-plain Inserted = record { whole = refl; link = refl; verbatim = refl; heading = refl; title = refl }
format-plain Underlined = record { whole = refl; link = refl; verbatim = refl; heading = refl; title = refl }
format-plain Marked = record { whole = refl; link = refl; verbatim = refl; heading = refl; title = refl }
format-plain Small = record { whole = refl; link = refl; verbatim = refl; heading = refl; title = refl }
format-plain Keyboard = record { whole = refl; link = refl; verbatim = refl; heading = refl; title = refl }
format-plain (Abbreviation title) =
    record { whole = refl; link = refl; verbatim = refl; heading = refl; title = refl }

format-nameless : (f : Format) → has_no_name (pairs_of_format f) ≡ true
format-nameless Emphasis = refl
format-nameless Strong = refl
format-nameless Deleted = refl
format-nameless Superscript = refl
format-nameless Subscript = refl
format-nameless Inserted = refl
format-nameless Underlined = refl
format-nameless Marked = refl
format-nameless Small = refl
format-nameless Keyboard = refl
format-nameless (Abbreviation title) = refl

pub sound-format : (f : Format) (c xs : Inlines) (id : ℕ) (content ts : Simples) → IsSoundLine c content
    → IsSoundLine xs ts
    → IsSoundLine (inline (formatted f c) xs) (more (made id (format_role f) (pairs_of_format f) content) ts)
sound-format f c xs id content ts k h =
    let r : Role = format_role f in
    let pairs : List AttributePair = pairs_of_format f in
    let p = format-plain f in
    sound-step (formatted f c) xs (made id r pairs content) ts
    (placed-inside (ids_of_line c) id r (facts_of content) pairs content p.whole p.link (format-nameless f) k.placed)
    (λ around flat s m l n i e.
    subst (λ ls. is_led_to ls s m ≡ true)
    (sym (element-leadings around flat id r (facts_of content) pairs content p.verbatim p.link))
    (k.leads (inner around flat r content) (layout_in around.is_rich flat r content) s m
    (inner-linked around flat r content l)
    (ap (λ h. is_in h m) (same-heading around.heading around.seen r content p.heading) ∙ n) i e))
    (λ is_rich to_part flat e.
    element-leaf is_rich to_part flat id r (facts_of content) pairs content p.verbatim p.heading p.title
    ∙ k.leaf is_rich to_part (layout_in is_rich flat r content) e) h

-- a value leads where it says
value-leads : (heading : Option Span) (u s : List ℕ) (m : ℕ) → is_in heading m ≡ false
    → is_linked_to (leading_to None u) s ≡ true → is_led_to (leading_to heading u) s m ≡ true
value-leads heading u s m n e = either (is_filled u) e
  where
    either : (b : Bool) → is_linked_to (cond b (record { to = u; heading = None } ∷ []) []) s ≡ true
        → is_led_to (cond b (record { to = u; heading = heading } ∷ []) []) s m ≡ true
    either true h = ap (λ x. (bytes_eq u s && not x) || false) n ∙ (alone (bytes_eq u s) ∙ h)
      where
        alone : (b : Bool) → ((b && true) || false) ≡ (b || false)
        alone true = refl
        alone false = refl
    either false h = false-true h

-- a link to a part of the page leads there
part-leads : (a : List ℕ) (s : List ℕ) (m : ℕ) (heading : Option Span) → is_in heading m ≡ false
    → leads_to a s ≡ true
    → is_led_to (cond (is_to_part a) (leadings_to heading (drop 1 a)) []) s m ≡ true
part-leads a s m heading n e =
    let part : List ℕ = drop 1 a in
    let first : List ℕ = in_line part in
    let decoded : List ℕ = in_line (utf8_lossy (percent_decode part)) in
    let p = and_parts (is_to_part a) (is_linked_to (leadings_to None part) s) e in
    ap (λ c. is_led_to (cond c (leadings_to heading part) []) s m) p.0
    ∙ either-of (is_linked_to (leading_to None first) s) (is_linked_to (leading_to None decoded) s)
    (sym (list_any-append (λ (l : Leading). bytes_eq l.to s) (leading_to None first) (leading_to None decoded))
    ∙ p.1)
    (λ e. led-left (leading_to heading first) (leading_to heading decoded) s m (value-leads heading first s m n e))
    (λ e. led-right (leading_to heading first) (leading_to heading decoded) s m (value-leads heading decoded s m n e))

link-address-is : (a : List ℕ) (title : Option (List ℕ)) → is_settled_address a ≡ true
    → address_of (pairs_of_link a title) ≡ a
unfolding chars encode
link-address-is a None h = link-address a h
link-address-is a (Some t) h = link-address a h

-- no anchors are among bare trees
bare-ids : (c : Inlines) (content : Simples) → are_bare content ≡ true → ArePlaced (ids_of_line c) content
    → ids_of_line c ≡ []
bare-ids c content b k =
    sym (k.places 0).values ∙ ap values_of (none-among None 0 content (all-bare-nameless content b).0)

pub sound-link : (a : List ℕ) (title : Option (List ℕ)) (c xs : Inlines) (id : ℕ) (content ts : Simples)
    → is_settled_address a ≡ true → are_bare content ≡ true → are_joined no_pieces content ≡ true
    → begins_seen c ≡ true → IsSoundLine c content → IsSoundLine xs ts
    → IsSoundLine (inline (link a title c) xs) (more (made id role.Link (pairs_of_link a title) content) ts)
sound-link a title c xs id content ts settled bare joined begins k h =
    let pairs : List AttributePair = pairs_of_link a title in
    let t : Simple = made id role.Link pairs content in
    let b = all-bare-nameless content bare in
    let at : address_of pairs ≡ a = link-address-is a title settled in
    sound-step (link a title c) xs t ts
    (subst (λ ids. IsPlaced ids t) (sym (bare-ids c content bare k.placed))
    (placed-nameless t (and_from (has_no_name pairs) (are_nameless content) (link-nameless a title) b.0)
    (and_from (are_joined no_pieces content) (have_right_links content) joined b.1)))
    (λ around flat s m l n i e.
    let lay : Layout = layout_in around.is_rich flat role.Link content in
    let heading : Option Span = heading_in around.heading around.seen role.Link content in
    let written : Bool = shows_in_link around.is_rich lay pairs content in
    let rest : List Leading = leadings_among (around_in around flat written role.Link content) lay content in
    let shown : written ≡ true = k.leaf around.is_rich (is_to_part (address_of pairs)) lay begins in
    led-left (own_leadings around written role.Link pairs content) rest s m
    (ap (λ d. is_led_to (cond ((not d && written) && is_to_part (address_of pairs))
    (leadings_to heading (drop 1 (address_of pairs))) []) s m) l
    ∙ (ap (λ d. is_led_to (cond (d && is_to_part (address_of pairs))
    (leadings_to heading (drop 1 (address_of pairs)))
    []) s m) shown
    ∙ (ap (λ u. is_led_to (cond (is_to_part u) (leadings_to heading (drop 1 u)) []) s m) at
    ∙ part-leads a s m heading
    (ap (λ h. is_in h m) (same-heading around.heading around.seen role.Link content refl) ∙ n) e))))
    (λ is_rich to_part flat e.
    element-leaf is_rich to_part flat id role.Link (facts_of content) pairs content refl refl refl
    ∙ k.leaf is_rich to_part (layout_in is_rich flat role.Link content) e) h

-- an anchor
pub sound-place : (s : List ℕ) (xs : Inlines) (id : ℕ) (ts : Simples) → is_one_line s ≡ true
    → is_text s ≡ true
    → IsSoundLine xs ts
    → IsSoundLine (inline (anchor s) xs) (more (made id role.Target (pairs_of_anchor s) none) ts)
sound-place s xs id ts h e k =
    sound-step (anchor s) xs (made id role.Target (pairs_of_anchor s) none) ts (placed-place id s h e)
    (λ around flat u m l n i w. false-true w) (λ is_rich to_part flat w. false-true w) k
