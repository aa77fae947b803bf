-- What shows of a page of texts is what normal documents are made of, before anchors come in.
use Rattle.std.proofs.Common.{◌≡◌, ℕ, Bool, true, false, cond, not, ◌&&◌, ◌||◌, List, [], ◌∷◌, refl, sym, ap, ◌∙◌}
use Rattle.std.proofs.Common.{Option, Some, None, filter, arith, subst}
use Rattle.std.specs.Prelude.{codes}
use Rattle.std.specs.List.{list_all, slice_split}
use Rattle.std.specs.Option.{option_or, unwrap_or}
use Rattle.std.specs.Str.{IsUtf8, is_utf8, bytes_eq}
use Rattle.std.proofs.lemmas.Bool.Decides.{nat_tests}
use Rattle.std.proofs.lemmas.Str.{IsUtf8-from_is_utf8}
use Rattle.htmd_lexical.specs.AttributePairs.{AttributePair}
use Rattle.htmd_lexical.specs.WhiteSpace.{is_ascii_white_space}
use Rattle.htmd_lexical.proofs.Cases.{test}
use Rattle.htmd_text.specs.Trims.{trimmed_text}
use Rattle.htmd_text.proofs.TrimsLemmas.{OfAscii}
use Rattle.htmd_nodes.specs.NumberedTrees.{NumberedTree, NumberedForest}
use Rattle.htmd_nodes.specs.NumberedTrees as page
use Rattle.htmd_document.specs.declared.document.InlineElement.{InlineElement}
use Rattle.htmd_document.specs.NormalInlines.{is_attribute}
use Rattle.htmd_shown.specs.declared.role.Role.{Role}
use Rattle.htmd_shown.specs.declared.role.Role.TheVariants as role
use Rattle.htmd_shown.specs.Attributes.{value_of, text_of, has_attribute, in_line, address, words, is_filled}
use Rattle.htmd_shown.specs.Attributes.{is_to_part}
use Rattle.htmd_shown.specs.Embeds.{is_place, is_for_pages, scheme_of, embedded_address, text_or, embedded_title}
use Rattle.htmd_shown.specs.Embeds.{is_unseen, Embedding, embedding, embedding_of, embedding_names}
use Rattle.htmd_shown.specs.Facts.{made}
use Rattle.htmd_shown.specs.Formulas.{tex_of}
use Rattle.htmd_shown.specs.Images.{file_in, is_file, is_comma, candidate_in, candidate_among, first_candidate}
use Rattle.htmd_shown.specs.Images.{candidate_at, first_source, picture_source, file_of_attributes, file_of_sets}
use Rattle.htmd_shown.specs.Images.{image_address, is_image}
use Rattle.htmd_shown.specs.Kinds.{are_blank}
use Rattle.htmd_shown.specs.LineNumbers.{has_numbered_rows}
use Rattle.htmd_shown.specs.Permalinks.{is_permalink}
use Rattle.htmd_shown.specs.Repeats.{is_repeat, last_element, leads_to_script}
use Rattle.htmd_shown.specs.Roles.{is_among, role_of, table_role, heading_or_block, block_role, inline_role}
use Rattle.htmd_shown.specs.Roles.{element_role, is_emphasis, is_strong, is_deleted, is_typed, is_apart, block_names}
use Rattle.htmd_shown.specs.Roles.{is_table_body, is_bullet_list, is_verbatim_name}
use Rattle.htmd_document.specs.declared.document.Format.TheVariants.{Emphasis, Strong, Deleted}
use Rattle.htmd_document.specs.declared.document.InlineElement.TheVariants.{Superscript, Subscript, Inserted}
use Rattle.htmd_document.specs.declared.document.InlineElement.TheVariants.{Underlined, Marked, Small, Keyboard}
use Rattle.htmd_shown.specs.Shown.{plain_element, Sight, Surroundings, nowhere, inside, is_for_layout, role_by, role_at}
use Rattle.htmd_shown.specs.Shown.{raised_by, raised_one, format_of, formats_after, raised, with_one, followed_by}
use Rattle.htmd_shown.specs.Shown.{marks, marked, is_led_to, target, with_content, embed, object, is_skipped, is_hidden}
use Rattle.htmd_shown.specs.Shown.{is_emptied, by_content, formula_or, is_img, source_for, source_after, shown}
use Rattle.htmd_shown.specs.Shown.{shown_all, shown_in}
use Rattle.htmd_shown.specs.ShownTexts.{shown_text}
use Rattle.htmd_shown.specs.SimpleTrees.{Simple, text, image, formula, embedded, anchor, element, Simples, none, more}
use Rattle.htmd_shown.specs.SimpleTrees.{is_text}
use Rattle.htmd_shown.specs.Spaces.{is_blank_text}
use Rattle.htmd_law_documents.specs.TreeForms.{is_text_value, is_text_tree, are_text_trees}
use Rattle.htmd_law_documents.proofs.VisibleLemmas.{both-true}
use Rattle.htmd_law_documents.proofs.PiecesLemmas.{ascii-white, AreUtf8, pieces-show}
use Rattle.htmd_law_documents.proofs.ShownTreeLemmas.{GoodBy, no-by, one-by, either-by, or-by, value-good, tex-by}
use Rattle.htmd_law_documents.proofs.ShownTreeLemmas.{embedded-by, address-good}
use Rattle.htmd_law_documents.proofs.NormalTextLemmas.{from-not}
use Rattle.htmd_law_documents.proofs.NormalLeafLemmas.{AllIds}
use Rattle.htmd_law_documents.proofs.NormalValueLemmas.{IsClean, IsBlack, shown-clean, in_line-clean, address-fine}
use Rattle.htmd_law_documents.proofs.NormalValueLemmas.{utf8-trimmed}
use Rattle.htmd_law_documents.proofs.NormalValueLemmas.{AreTexts, texts-of}
use Rattle.htmd_law_documents.proofs.NormalElementLemmas.{IsSource, IsLevel}
use Rattle.htmd_law_documents.proofs.NormalSeenElementLemmas.{blank-line}
use Rattle.htmd_law_documents.proofs.NormalTreeLemmas.{mark-clean}

-- ---- trees before anchors

abbrev mutual
  pub IsClear : Simple → Type 0
  IsClear (text s) = IsClean s
  IsClear (image o attributes) = IsSource o × AreTexts attributes
  IsClear (formula tex is_alone attributes) = IsBlack tex × AreTexts attributes
  IsClear (embedded id place title attributes ids) =
      (is_attribute place ≡ true) × IsClean title × (is_blank_text title ≡ false) × AllIds ids
      × AreTexts attributes
  IsClear (anchor id) = ⊥
  IsClear (element id r facts attributes content) = AreTexts attributes × IsLevel r × AreClear content

  pub AreClear : Simples → Type 0
  AreClear none = Unit {0}
  AreClear (more t ts) = IsClear t × AreClear ts

-- ---- addresses of images

abbrev Good : Option (List ℕ) → Type 0
Good = GoodBy IsUtf8

good-source : (o : Option (List ℕ)) → Good o → IsSource o
good-source None g = tt
good-source (Some s) g = g.is s refl

file-good : (o : Option (List ℕ)) → Good o → Good (file_in o)
file-good None g = no-by IsUtf8
file-good (Some s) g = either-by IsUtf8 (is_file s) (one-by IsUtf8 s (g.is s refl)) (no-by IsUtf8)

comma-ascii : OfAscii is_comma
comma-ascii b e = grind (arith, nat_tests)

word-good : (s : List ℕ) → IsUtf8 s → Good (candidate_in s)
word-good s u =
    either-by IsUtf8 (is_filled (trimmed_text is_comma s))
    (one-by IsUtf8 (trimmed_text is_comma s) (utf8-trimmed is_comma comma-ascii s u)) (no-by IsUtf8)

words-utf8 : (pieces : List (List ℕ)) → AreUtf8 pieces → AreUtf8 (filter is_filled pieces)
words-utf8 [] h = tt
words-utf8 (s ∷ pieces) h = either (is_filled s) (words-utf8 pieces h.1)
  where
    either : (b : Bool) → AreUtf8 (filter is_filled pieces)
        → AreUtf8 (cond b (s ∷ filter is_filled pieces) (filter is_filled pieces))
    either true g = (h.0, g)
    either false g = g

among-good : (ws : List (List ℕ)) → AreUtf8 ws → Good (candidate_among ws)
among-good [] h = no-by IsUtf8
among-good (w ∷ ws) h = or-by IsUtf8 (candidate_in w) (word-good w h.0) (among-good ws h.1)

candidate-good : (s : List ℕ) → IsUtf8 s → Good (first_candidate s)
candidate-good s u =
    among-good (words s)
    (words-utf8 (slice_split is_ascii_white_space s) (pieces-show is_ascii_white_space ascii-white s u).texts)

set-good : (name : List ℕ) (attributes : List AttributePair) → list_all is_text_value attributes ≡ true
    → Good (candidate_at name attributes)
set-good name attributes g = candidate-good (text_of name attributes) (value-good name attributes g)

source-good : (ts : NumberedForest) → are_text_trees ts ≡ true → Good (first_source ts)
source-good page.none e = no-by IsUtf8
source-good (page.more (page.element id name attributes children) ts) e =
    let t : NumberedTree = page.element id name attributes children in
    let parts = both-true (is_text_tree t) (are_text_trees ts) e in
    let own = both-true (list_all is_text_value attributes) (are_text_trees children) parts.0 in
    either-by IsUtf8 (bytes_eq name (codes "source"))
    (or-by IsUtf8 (candidate_at (codes "data-srcset") attributes) (set-good (codes "data-srcset") attributes own.0)
    (set-good (codes "srcset") attributes own.0))
    (source-good ts parts.1)
source-good (page.more (page.text id s) ts) e = source-good ts (both-true (is_utf8 s) (are_text_trees ts) e).1
source-good (page.more (page.document id children) ts) e =
    source-good ts (both-true (are_text_trees children) (are_text_trees ts) e).1
source-good (page.more (page.doctype id) ts) e = source-good ts e
source-good (page.more (page.comment id s) ts) e = source-good ts e

picture-good : (name : List ℕ) (children : NumberedForest) → are_text_trees children ≡ true
    → Good (picture_source name children)
picture-good name children e =
    either-by IsUtf8 (bytes_eq name (codes "picture")) (source-good children e) (no-by IsUtf8)

value-by : (name : List ℕ) (attributes : List AttributePair) → AreTexts attributes
    → Good (value_of name attributes)
value-by name attributes a = record { is = λ s e. a name s e }

image-good : (attributes : List AttributePair) (source : Option (List ℕ))
    → list_all is_text_value attributes ≡ true
    → Good source → Good (image_address attributes source)
image-good attributes source g s =
    let a : AreTexts attributes = texts-of attributes g in
    let own : (name : List ℕ) → Good (file_in (value_of name attributes)) =
    λ name. file-good (value_of name attributes) (value-by name attributes a) in
    let set : (name : List ℕ) → Good (file_in (candidate_at name attributes)) =
    λ name. file-good (candidate_at name attributes) (set-good name attributes g) in
    or-by IsUtf8 (file_of_attributes attributes)
    (or-by IsUtf8 (file_in (value_of (codes "src") attributes)) (own (codes "src"))
    (or-by IsUtf8 (file_in (value_of (codes "data-src") attributes)) (own (codes "data-src"))
    (or-by IsUtf8 (file_in (value_of (codes "data-original") attributes)) (own (codes "data-original"))
    (own (codes "data-lazy-src")))))
    (or-by IsUtf8 (file_of_sets attributes)
    (or-by IsUtf8 (file_in (candidate_at (codes "data-srcset") attributes)) (set (codes "data-srcset"))
    (set (codes "srcset")))
    (or-by IsUtf8 (file_in source) (file-good source s) (value-by (codes "src") attributes a)))

-- ---- what is embedded

-- in one line too
pub line-blank : (s : List ℕ) → IsUtf8 s → is_blank_text (shown_text s) ≡ false
    → is_blank_text (in_line s) ≡ false
line-blank s u b = blank-line s u ∙ b

-- a title that isn't blank
record IsTitle (s : List ℕ) : Type 0 where
  clean : IsClean s
  some : is_blank_text s ≡ false

or-title : (s other : List ℕ) → IsClean s → IsTitle other → IsTitle (text_or s other)
or-title s other c h = test (is_blank_text s)
    (λ e. subst (λ (b : Bool). IsTitle (cond b other s)) (sym e) h)
    (λ e. subst (λ (b : Bool). IsTitle (cond b other s)) (sym e) (record { clean = c; some = e }))

-- an address that something embedded has
record IsAddress (s : List ℕ) : Type 0 where
  fine : is_attribute s ≡ true
  utf8 : IsUtf8 s
  some : is_blank_text (shown_text s) ≡ false

address-is : (s : List ℕ) → IsUtf8 s → is_place (address s) ≡ true → IsAddress (address s)
address-is s u e =
    let parts = both-true (not (is_blank_text (shown_text (address s))) && not (is_to_part (address s)))
    (is_for_pages (scheme_of (address s))) e in
    let first = both-true (not (is_blank_text (shown_text (address s)))) (not (is_to_part (address s))) parts.0 in
    record {
      fine = address-fine s u;
      utf8 = address-good s u;
      some = from-not (is_blank_text (shown_text (address s))) first.0;
    }

title-is : (attributes : List AttributePair) (place : List ℕ) → list_all is_text_value attributes ≡ true
    → IsAddress place → IsTitle (embedded_title attributes place)
title-is attributes place g h =
    or-title (in_line (text_of (codes "title") attributes)) _
    (in_line-clean (text_of (codes "title") attributes) (value-good (codes "title") attributes g))
    (or-title (in_line (text_of (codes "aria-label") attributes)) (in_line place)
    (in_line-clean (text_of (codes "aria-label") attributes) (value-good (codes "aria-label") attributes g))
    (record { clean = in_line-clean place h.utf8; some = line-blank place h.utf8 h.some }))

-- ---- nodes

-- what there may be is clear
record Clear (o : Option Simple) : Type 0 where
  is : (t : Simple) → o ≡ Some t → IsClear t

no-node : Clear None
no-node = record { is = λ t e. absurd (clash t e) }
  where
    clash : (t : Simple) → None ≡ Some t → ⊥
    clash t e = (cc)

one-node : (t : Simple) → IsClear t → Clear (Some t)
one-node t u = record { is = λ x e. subst IsClear (ap (λ o. unwrap_or o t) e) u }

either-node : (b : Bool) {x y : Option Simple} → Clear x → Clear y → Clear (cond b x y)
either-node true g h = g
either-node false g h = h

or-node : (x : Option Simple) {y : Option Simple} → Clear x → Clear y → Clear (option_or x y)
or-node None g h = h
or-node (Some t) g h = g

with-one-clear : (o : Option Simple) (ts : Simples) → Clear o → AreClear ts → AreClear (with_one o ts)
with-one-clear None ts g h = h
with-one-clear (Some t) ts g h = (g.is t refl, h)

pub followed-clear : (ts us : Simples) → AreClear ts → AreClear us → AreClear (followed_by ts us)
followed-clear none us g h = h
followed-clear (more t ts) us g h = (g.0, followed-clear ts us g.1 h)

marks-clear : (b : Bool) → AreClear (marks b)
marks-clear true = (mark-clean, tt)
marks-clear false = tt

marked-clear : (b : Bool) (ts : Simples) → AreClear ts → AreClear (marked b ts)
marked-clear b ts u =
    followed-clear (followed_by (marks b) ts) (marks b) (followed-clear (marks b) ts (marks-clear b) u) (marks-clear b)

no-texts : AreTexts []
no-texts name s e = absurd (clash s e)
  where
    clash : (s : List ℕ) → None ≡ Some s → ⊥
    clash s e = (cc)

raised-one-clear : (o : Option InlineElement) (id : ℕ) (t : Simple) → IsClear t → IsClear (raised_one o id t)
raised-one-clear None id t u = u
raised-one-clear (Some format) id t u = either (is_text t)
  where
    either : (b : Bool) → IsClear (cond b t (made id (role.Element format) [] (more t none)))
    either true = u
    either false = (no-texts, tt, (u, tt))

raised-clear : (formats : List (Option InlineElement)) (id : ℕ) (ts : Simples) → AreClear ts
    → AreClear (raised formats id ts)
raised-clear formats id none u = tt
raised-clear formats id (more t ts) u =
    (raised-one-clear (format_of formats) id t u.0, raised-clear (formats_after formats t) id ts u.1)

-- ---- roles

kept-level : (is_rich : Bool) (e : InlineElement) → IsLevel (cond is_rich (role.Element e) (plain_element e))
kept-level true e = tt
kept-level false Superscript = tt
kept-level false Subscript = tt
kept-level false Inserted = tt
kept-level false Underlined = tt
kept-level false Marked = tt
kept-level false Small = tt
kept-level false Keyboard = tt

-- what an element is has a level, if it is a heading
role-level : (is_rich : Bool) (r : Role) (attributes : List AttributePair) (children : NumberedForest) → IsLevel r
    → IsLevel (role_by is_rich r attributes children)
role-level is_rich role.Link attributes children h = either (has_attribute (codes "href") attributes)
  where
    either : (b : Bool) → IsLevel (cond b role.Link role.Target)
    either true = tt
    either false = tt
role-level is_rich role.Table attributes children h = either (is_for_layout attributes || has_numbered_rows children)
  where
    either : (b : Bool) → IsLevel (cond b role.LayoutTable role.Table)
    either true = tt
    either false = tt
role-level is_rich (role.Element e) attributes children h = kept-level is_rich e
role-level is_rich role.Abbreviation attributes children h = either is_rich
  where
    either : (b : Bool) → IsLevel (cond b role.Abbreviation role.Plain)
    either true = tt
    either false = tt
role-level is_rich r attributes children h = h

record HasLevel (r : Role) : Type 0 where
  is : IsLevel r

if-level : (b : Bool) {r s : Role} → HasLevel r → HasLevel s → HasLevel (cond b r s)
if-level true g h = g
if-level false g h = h

any-level : (r : Role) → IsLevel r → HasLevel r
any-level r h = record { is = h }

element-level : (name : List ℕ) → HasLevel (element_role name)
unfolding element_role
element-level name =
    if-level (bytes_eq name (codes "sup")) (any-level (role.Element Superscript) tt)
    (if-level (bytes_eq name (codes "sub")) (any-level (role.Element Subscript) tt)
    (if-level (bytes_eq name (codes "ins")) (any-level (role.Element Inserted) tt)
    (if-level (bytes_eq name (codes "u")) (any-level (role.Element Underlined) tt)
    (if-level (bytes_eq name (codes "mark")) (any-level (role.Element Marked) tt)
    (if-level (bytes_eq name (codes "small")) (any-level (role.Element Small) tt)
    (if-level (bytes_eq name (codes "kbd")) (any-level (role.Element Keyboard) tt)
    (if-level (bytes_eq name (codes "abbr")) (any-level role.Abbreviation tt) (any-level role.Plain tt))))))))

inline-level : (name : List ℕ) → HasLevel (inline_role name)
unfolding inline_role
inline-level name =
    if-level (is_emphasis name) (any-level (role.Format Emphasis) tt)
    (if-level (is_strong name) (any-level (role.Format Strong) tt)
    (if-level (is_deleted name) (any-level (role.Format Deleted) tt)
    (if-level (bytes_eq name (codes "code")) (any-level role.Code tt)
    (if-level (is_typed name) (any-level role.Typed tt)
    (if-level (bytes_eq name (codes "a")) (any-level role.Link tt)
    (if-level (is_apart name) (any-level role.Apart tt)
    (if-level (bytes_eq name (codes "br")) (any-level role.LineBreak tt)
    (if-level (bytes_eq name (codes "input")) (any-level role.Input tt)
    (element-level name)))))))))

block-level : (name : List ℕ) → HasLevel (block_role name)
unfolding block_role
block-level name =
    if-level (bytes_eq name (codes "dl")) (any-level role.Terms tt)
    (if-level (bytes_eq name (codes "dt")) (any-level role.Term tt)
    (if-level (bytes_eq name (codes "dd")) (any-level role.Meaning tt)
    (if-level (bytes_eq name (codes "div")) (any-level role.Division tt)
    (if-level (bytes_eq name (codes "figure")) (any-level role.Figure tt)
    (if-level (bytes_eq name (codes "figcaption")) (any-level role.FigureCaption tt)
    (if-level (bytes_eq name (codes "details")) (any-level role.Details tt)
    (if-level (bytes_eq name (codes "summary")) (any-level role.Summary tt)
    (if-level (bytes_eq name (codes "legend")) (any-level role.Legend tt)
    (if-level (is_among block_names name) (any-level role.Block tt)
    (inline-level name))))))))))

heading-level : (name : List ℕ) → HasLevel (heading_or_block name)
unfolding heading_or_block
heading-level name =
    if-level (bytes_eq name (codes "h1")) (any-level (role.Heading 1) refl)
    (if-level (bytes_eq name (codes "h2")) (any-level (role.Heading 2) refl)
    (if-level (bytes_eq name (codes "h3")) (any-level (role.Heading 3) refl)
    (if-level (bytes_eq name (codes "h4")) (any-level (role.Heading 4) refl)
    (if-level (bytes_eq name (codes "h5")) (any-level (role.Heading 5) refl)
    (if-level (bytes_eq name (codes "h6")) (any-level (role.Heading 6) refl)
    (block-level name))))))

table-level : (name : List ℕ) → HasLevel (table_role name)
unfolding table_role
table-level name =
    if-level (bytes_eq name (codes "table")) (any-level role.Table tt)
    (if-level (bytes_eq name (codes "caption")) (any-level role.Caption tt)
    (if-level (bytes_eq name (codes "thead")) (any-level role.TableHead tt)
    (if-level (is_table_body name) (any-level role.TableBody tt)
    (if-level (bytes_eq name (codes "tr")) (any-level role.Row tt)
    (if-level (bytes_eq name (codes "td")) (any-level role.Cell tt)
    (if-level (bytes_eq name (codes "th")) (any-level role.HeaderCell tt)
    (heading-level name)))))))

name-level : (name : List ℕ) → HasLevel (role_of name)
unfolding role_of
name-level name =
    if-level (bytes_eq name (codes "p")) (any-level role.Paragraph tt)
    (if-level (bytes_eq name (codes "li")) (any-level role.Item tt)
    (if-level (is_bullet_list name) (any-level role.BulletList tt)
    (if-level (bytes_eq name (codes "ol")) (any-level role.NumberedList tt)
    (if-level (bytes_eq name (codes "pre")) (any-level role.Preformatted tt)
    (if-level (is_verbatim_name name) (any-level role.Verbatim tt)
    (if-level (bytes_eq name (codes "blockquote")) (any-level role.BlockQuote tt)
    (if-level (bytes_eq name (codes "hr")) (any-level role.ThematicBreak tt)
    (table-level name))))))))

-- ---- elements

target-clear : (id : ℕ) (attributes : List AttributePair) → AreTexts attributes → Clear (target id attributes)
target-clear id attributes a =
    either-node (is_led_to attributes) (one-node (made id role.Target attributes none) (a, tt, tt)) no-node

embed-clear : (id : ℕ) (attributes : List AttributePair) (o : Option (List ℕ))
    → list_all is_text_value attributes ≡ true → GoodBy IsAddress o
    → Clear (embed id attributes (embedding attributes o))
embed-clear id attributes None g h = no-node
embed-clear id attributes (Some place) g h = either (is_unseen attributes)
  where
    either : (b : Bool) → Clear (embed id attributes (cond b None
        (Some (record { address = place; title = embedded_title attributes place }))))
    either true = no-node
    either false =
        let here : IsAddress place = h.is place refl in
        let title : IsTitle (embedded_title attributes place) = title-is attributes place g here in
        one-node _ (here.fine, title.clean, title.some, tt, texts-of attributes g)

object-clear : (id : ℕ) (attributes : List AttributePair) (content : Simples) (o : Option Embedding)
    → AreTexts attributes → Clear (embed id attributes o) → AreClear content
    → Clear (object id attributes content o)
object-clear id attributes content o a h u =
    let plain : Clear (Some (made id role.Plain attributes content)) =
    one-node (made id role.Plain attributes content) (a, tt, u) in
    either-node (are_blank content) (or-node (embed id attributes o) h plain) plain

formula-clear : (name : List ℕ) (attributes : List AttributePair) (other : Option Simple) (o : Option (List ℕ))
    → AreTexts attributes → GoodBy IsBlack o → Clear other → Clear (formula_or name attributes other o)
formula-clear name attributes other None a g h = h
formula-clear name attributes other (Some tex) a g h = one-node _ (g.is tex refl, a)

module _ (is_rich : Bool) (around : Surroundings) (source : Option (List ℕ)) (id : ℕ) (name : List ℕ)
    (attributes : List AttributePair)
    (children : NumberedForest) (g : list_all is_text_value attributes ≡ true) (h : are_text_trees children ≡ true)
    (from : Good source) (content : Simples) (u : AreClear content) where
  texts : AreTexts attributes
  texts = texts-of attributes g

  embedded-clear : Clear (embed id attributes (embedding_of name attributes children))
  embedded-clear =
      embed-clear id attributes (embedded_address name attributes children) g
      (embedded-by IsAddress address-is name attributes children g h)

  content-clear : (in_head : Bool) → Clear (with_content is_rich in_head id name attributes children content)
  content-clear in_head =
      either-node (bytes_eq name (codes "a") && is_permalink in_head attributes content)
      (target-clear id attributes texts)
      (one-node (made id (role_at is_rich name attributes children) attributes content)
      (texts, role-level is_rich (role_of name) attributes children (name-level name).is, u))

  by-content-clear : Clear (by_content is_rich around source id name attributes children content)
  by-content-clear =
      either-node (is_hidden around name attributes) no-node
      (either-node (is_image name attributes)
      (one-node (image (image_address attributes source) attributes)
      (good-source (image_address attributes source) (image-good attributes source g from), texts))
      (either-node (is_among embedding_names name) embedded-clear
      (either-node (bytes_eq name (codes "object"))
      (object-clear id attributes content (embedding_of name attributes children) texts embedded-clear u)
      (content-clear around.in_head))))

-- ---- trees

if-good : (b : Bool) (source : Option (List ℕ)) → Good source → Good (cond b source None)
if-good true source h = h
if-good false source h = no-by IsUtf8

unless-good : (b : Bool) (source : Option (List ℕ)) → Good source → Good (cond b None source)
unless-good true source h = no-by IsUtf8
unless-good false source h = h

mutual
  unfolding shown

  shown-clear : (sight : Sight) (around : Surroundings) (source : Option (List ℕ)) (t : NumberedTree)
      → is_text_tree t ≡ true → Good source → Clear (shown sight around source t)
  shown-clear sight around source (page.document id children) e from = no-node
  shown-clear sight around source (page.doctype id) e from = no-node
  shown-clear sight around source (page.text id s) e from =
      one-node (text (shown_text s)) (shown-clean s (IsUtf8-from_is_utf8 s e))
  shown-clear sight around source (page.comment id s) e from = no-node
  shown-clear sight around source (page.element id name attributes children) e from =
      let parts = both-true (list_all is_text_value attributes) (are_text_trees children) e in
      let inner : Simples =
      shown_all sight (inside name children around) (picture_source name children) None children in
      let all : Simples = marked (bytes_eq name (codes "q")) (raised (raised_by name) id inner) in
      let clear : AreClear all =
      marked-clear (bytes_eq name (codes "q")) (raised (raised_by name) id inner)
      (raised-clear (raised_by name) id inner
      (all-clear sight (inside name children around) (picture_source name children) None children parts.1
      (picture-good name children parts.1))) in
      let content : Simples = cond (is_emptied around name attributes) none all in
      either-node (is_skipped sight name) no-node
      (formula-clear name attributes (by_content sight.is_rich around source id name attributes children content)
      (tex_of name attributes children) (texts-of attributes parts.0)
      (tex-by IsBlack (λ s u e. (shown-clean s u, e)) name attributes children parts.0 parts.1)
      (by-content-clear sight.is_rich around source id name attributes children parts.0 parts.1 from content
      (emptied (is_emptied around name attributes) all clear)))
    where
      emptied : (b : Bool) (ts : Simples) → AreClear ts → AreClear (cond b none ts)
      emptied true ts u = tt
      emptied false ts u = u

  all-clear : (sight : Sight) (around : Surroundings) (source : Option (List ℕ))
      (before : Option (List AttributePair)) (ts : NumberedForest) → are_text_trees ts ≡ true → Good source
      → AreClear (shown_all sight around source before ts)
  all-clear sight around source before page.none e from = tt
  all-clear sight around source before (page.more t ts) e from =
      let parts = both-true (is_text_tree t) (are_text_trees ts) e in
      let repeat : Bool = is_repeat before t (leads_to_script sight.skip ts) in
      with-one-clear (cond repeat None (shown sight around (source_for source t) t))
      (shown_all sight around (source_after source t) (last_element before t) ts)
      (either-node repeat no-node
      (shown-clear sight around (source_for source t) t parts.0 (if-good (is_img t) source from)))
      (all-clear sight around (source_after source t) (last_element before t) ts parts.1
      (unless-good (is_img t) source from))

-- what shows of a page
pub page-clear : (sight : Sight) (t : NumberedTree) → is_text_tree t ≡ true → AreClear (shown_in sight t)
page-clear sight (page.document id children) e = all-clear sight nowhere None None children e (no-by IsUtf8)
page-clear sight (page.doctype id) e = tt
page-clear sight (page.text id s) e = tt
page-clear sight (page.comment id s) e = tt
page-clear sight (page.element id name attributes children) e = tt
