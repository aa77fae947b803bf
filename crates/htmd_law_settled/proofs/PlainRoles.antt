-- What a page that isn't rich shows has no elements of lines but those above or below the line.
use Rattle.std.proofs.Common.{◌≡◌, ℕ, Bool, true, false, cond, not, ◌&&◌, ◌||◌, List, [], ◌∷◌, refl, sym, ap}
use Rattle.std.proofs.Common.{subst, Option, Some, None}
use Rattle.std.specs.Prelude.{codes, is_some, nat_lt}
use Rattle.std.specs.Option.{option_or, unwrap_or}
use Rattle.std.specs.Str.{bytes_eq}
use Rattle.htmd_lexical.specs.AttributePairs.{AttributePair}
use Rattle.htmd_nodes.specs.NumberedTrees.{NumberedTree, NumberedForest}
use Rattle.htmd_nodes.specs.NumberedTrees as page
use Rattle.htmd_document.specs.declared.document.InlineElement.{InlineElement}
use Rattle.htmd_document.specs.declared.document.InlineElement.TheVariants.{Superscript, Subscript, Inserted}
use Rattle.htmd_document.specs.declared.document.InlineElement.TheVariants.{Underlined, Marked, Small, Keyboard}
use Rattle.htmd_shown.specs.declared.role.Role.{Role}
use Rattle.htmd_shown.specs.declared.role.Role.TheVariants as role
use Rattle.htmd_shown.specs.Attributes.{has_attribute}
use Rattle.htmd_shown.specs.Embeds.{Embedding, embedding_of, embedding_names}
use Rattle.htmd_shown.specs.Facts.{made}
use Rattle.htmd_shown.specs.Formulas.{tex_of}
use Rattle.htmd_shown.specs.Images.{is_image, picture_source}
use Rattle.htmd_shown.specs.Kinds.{are_blank}
use Rattle.htmd_shown.specs.LineNumbers.{has_numbered_rows}
use Rattle.htmd_shown.specs.Permalinks.{is_permalink}
use Rattle.htmd_shown.specs.Pieces.{Pieces, no_pieces, is_unseen, after_leaf, at_edge, pieces_after}
use Rattle.htmd_shown.specs.Repeats.{is_repeat, last_element, leads_to_script}
use Rattle.htmd_shown.specs.Roles.{is_among, is_link, is_line_break, is_verbatim, role_of}
use Rattle.htmd_shown.specs.Shown.{Sight, Surroundings, nowhere, inside, is_for_layout, role_by, role_at, plain_element}
use Rattle.htmd_shown.specs.Shown.{raised_by, raised_one, format_of, formats_after, raised, with_one, followed_by}
use Rattle.htmd_shown.specs.Shown.{marks, marked, is_led_to, embed, object, is_skipped}
use Rattle.htmd_shown.specs.Shown.{is_hidden, is_emptied, by_content, formula_or, source_for, source_after, shown}
use Rattle.htmd_shown.specs.Shown.{shown_all, shown_in}
use Rattle.htmd_shown.specs.Showings.{image_shows, code_shows}
use Rattle.htmd_shown.specs.SimpleTrees.{Simple, text, image, formula, embedded, anchor, element, Simples, none, more}
use Rattle.htmd_shown.specs.SimpleTrees.{is_text}
use Rattle.htmd_shown.specs.Spaces.{is_blank_text}
use Rattle.htmd_document_of_tree.specs.declared.anchors.Anchors.{Anchors}
use Rattle.htmd_document_of_tree.specs.Anchors.{anchors, apart, stands_apart, after_anchors, preceded, Placing}
use Rattle.htmd_document_of_tree.specs.Anchors.{ids_up_to, placed_before, placing_after, placing_after_all, placed}
use Rattle.htmd_document_of_tree.specs.Anchors.{all_placed, values_of, last_anchors, targets_by, anchored}
use Rattle.htmd_document_of_tree.specs.FirstPieces.{most_linked, unlinked, cut_leaf, cut, cut_all, pieced, pieced_all}
use Rattle.htmd_document_of_tree.specs.Limits.{size, cost, paid, left_after, within, all_within, budget}
use Rattle.htmd_document_of_tree.specs.Limits.{limited, is_carrying, emptied}
use Rattle.htmd_document_of_tree.specs.Targets.{Target}
use Rattle.htmd_law_documents.specs.WrapperLaws.{final_trees}

abbrev pub is_plain_role : Role → Bool
is_plain_role (role.Element Superscript) = true
is_plain_role (role.Element Subscript) = true
is_plain_role (role.Element e) = false
is_plain_role role.Abbreviation = false
is_plain_role r = true

abbrev mutual
  pub IsPlain : Simple → Type 0
  IsPlain (element id r facts attributes content) = (is_plain_role r ≡ true) × ArePlain content
  IsPlain t = Unit {0}

  pub ArePlain : Simples → Type 0
  ArePlain none = Unit {0}
  ArePlain (more t ts) = IsPlain t × ArePlain ts

either-plain : (b : Bool) (t u : Simple) → IsPlain t → IsPlain u → IsPlain (cond b t u)
either-plain true t u g h = g
either-plain false t u g h = h

if-plain : (b : Bool) (ts us : Simples) → ArePlain ts → ArePlain us → ArePlain (cond b ts us)
if-plain true ts us g h = g
if-plain false ts us g h = h

followed-plain : (ts us : Simples) → ArePlain ts → ArePlain us → ArePlain (followed_by ts us)
followed-plain none us g h = h
followed-plain (more t ts) us g h = (g.0, followed-plain ts us g.1 h)

-- ---- what shows

-- what there may be
record MayBePlain (o : Option Simple) : Type 0 where
  is : (t : Simple) → o ≡ Some t → IsPlain t

no-node : MayBePlain None
no-node = record { is = λ t e. absurd (clash t e) }
  where
    clash : (t : Simple) → None ≡ Some t → ⊥
    clash t e = (cc)

one-node : (t : Simple) → IsPlain t → MayBePlain (Some t)
one-node t u = record { is = λ x e. subst IsPlain (ap (λ o. unwrap_or o t) e) u }

either-node : (b : Bool) {x y : Option Simple} → MayBePlain x → MayBePlain y → MayBePlain (cond b x y)
either-node true g h = g
either-node false g h = h

or-node : (x : Option Simple) {y : Option Simple} → MayBePlain x → MayBePlain y → MayBePlain (option_or x y)
or-node None g h = h
or-node (Some t) g h = g

either-role : (b : Bool) (r q : Role) → is_plain_role r ≡ true → is_plain_role q ≡ true
    → is_plain_role (cond b r q) ≡ true
either-role true r q g h = g
either-role false r q g h = h

element-plain : (e : InlineElement) → is_plain_role (plain_element e) ≡ true
element-plain Superscript = refl
element-plain Subscript = refl
element-plain Inserted = refl
element-plain Underlined = refl
element-plain Marked = refl
element-plain Small = refl
element-plain Keyboard = refl

role-plain : (r : Role) (attributes : List AttributePair) (children : NumberedForest)
    → is_plain_role (role_by false r attributes children) ≡ true
role-plain role.Link attributes children =
    either-role (has_attribute (codes "href") attributes) role.Link role.Target refl refl
role-plain role.Table attributes children =
    either-role (is_for_layout attributes || has_numbered_rows children) role.LayoutTable role.Table refl refl
role-plain (role.Element e) attributes children = element-plain e
role-plain role.Abbreviation attributes children = refl
role-plain r attributes children = refl

with-one-plain : (o : Option Simple) (ts : Simples) → MayBePlain o → ArePlain ts → ArePlain (with_one o ts)
with-one-plain None ts g h = h
with-one-plain (Some t) ts g h = (g.is t refl, h)

marks-plain : (b : Bool) → ArePlain (marks b)
marks-plain true = (tt, tt)
marks-plain false = tt

marked-plain : (b : Bool) (ts : Simples) → ArePlain ts → ArePlain (marked b ts)
marked-plain b ts u =
    followed-plain (followed_by (marks b) ts) (marks b) (followed-plain (marks b) ts (marks-plain b) u) (marks-plain b)

-- what is above or below in a formula
abbrev AreRaised : List (Option InlineElement) → Type 0
AreRaised [] = Unit {0}
AreRaised (None ∷ formats) = AreRaised formats
AreRaised (Some e ∷ formats) = (is_plain_role (role.Element e) ≡ true) × AreRaised formats

raised-by-plain : (name : List ℕ) → AreRaised (raised_by name)
raised-by-plain name =
    either (bytes_eq name (codes "msup")) (bytes_eq name (codes "msub")) (bytes_eq name (codes "msubsup"))
  where
    either : (a b c : Bool) → AreRaised (cond a (None ∷ Some Superscript ∷ [])
        (cond b (None ∷ Some Subscript ∷ []) (cond c (None ∷ Some Subscript ∷ Some Superscript ∷ []) [])))
    either true b c = (refl, tt)
    either false true c = (refl, tt)
    either false false true = (refl, (refl, tt))
    either false false false = tt

after-raised : (formats : List (Option InlineElement)) (t : Simple) → AreRaised formats
    → AreRaised (formats_after formats t)
after-raised [] t h = tt
after-raised (o ∷ formats) t h = either (is_text t) o h
  where
    either : (b : Bool) (o : Option InlineElement) → AreRaised (o ∷ formats)
        → AreRaised (cond b (o ∷ formats) formats)
    either true o h = h
    either false None h = h
    either false (Some e) h = h.1

raised-one-plain : (formats : List (Option InlineElement)) (id : ℕ) (t : Simple) → AreRaised formats → IsPlain t
    → IsPlain (raised_one (format_of formats) id t)
raised-one-plain [] id t h u = u
raised-one-plain (None ∷ formats) id t h u = u
raised-one-plain (Some e ∷ formats) id t h u =
    either-plain (is_text t) t (made id (role.Element e) [] (more t none)) u (h.0, (u, tt))

raised-plain : (formats : List (Option InlineElement)) (id : ℕ) (ts : Simples) → AreRaised formats → ArePlain ts
    → ArePlain (raised formats id ts)
raised-plain formats id none h u = tt
raised-plain formats id (more t ts) h u = (
  raised-one-plain formats id t h u.0,
  raised-plain (formats_after formats t) id ts (after-raised formats t h) u.1,
)

embed-plain : (id : ℕ) (attributes : List AttributePair) (o : Option Embedding) → MayBePlain (embed id attributes o)
embed-plain id attributes None = no-node
embed-plain id attributes (Some found) = one-node _ tt

object-plain : (id : ℕ) (attributes : List AttributePair) (content : Simples) (o : Option Embedding)
    → ArePlain content → MayBePlain (object id attributes content o)
object-plain id attributes content o u =
    let plain : MayBePlain (Some (made id role.Plain attributes content)) = one-node _ (refl, u) in
    either-node (are_blank content) (or-node (embed id attributes o) (embed-plain id attributes o) plain) plain

formula-plain : (name : List ℕ) (attributes : List AttributePair) (other : Option Simple) (o : Option (List ℕ))
    → MayBePlain other → MayBePlain (formula_or name attributes other o)
formula-plain name attributes other None h = h
formula-plain name attributes other (Some tex) h = one-node _ tt

by-content-plain : (around : Surroundings) (source : Option (List ℕ)) (id : ℕ) (name : List ℕ)
    (attributes : List AttributePair) (children : NumberedForest) (content : Simples) → ArePlain content
    → MayBePlain (by_content false around source id name attributes children content)
by-content-plain around source id name attributes children content u =
    either-node (is_hidden around name attributes) no-node
    (either-node (is_image name attributes) (one-node _ tt)
    (either-node (is_among embedding_names name) (embed-plain id attributes (embedding_of name attributes children))
    (either-node (bytes_eq name (codes "object"))
    (object-plain id attributes content (embedding_of name attributes children) u)
    (either-node (bytes_eq name (codes "a") && is_permalink around.in_head attributes content)
    (either-node (is_led_to attributes) (one-node (made id role.Target attributes none) (refl, tt)) no-node)
    (one-node (made id (role_at false name attributes children) attributes content)
    (role-plain (role_of name) attributes children, u))))))

mutual
  unfolding shown

  shown-plain : (scripting : Bool) (skip : List (List ℕ)) (around : Surroundings) (source : Option (List ℕ))
      (t : NumberedTree)
      → MayBePlain (shown (record { scripting = scripting; skip = skip; is_rich = false }) around source t)
  shown-plain scripting skip around source (page.document id children) = no-node
  shown-plain scripting skip around source (page.doctype id) = no-node
  shown-plain scripting skip around source (page.text id s) = one-node _ tt
  shown-plain scripting skip around source (page.comment id s) = no-node
  shown-plain scripting skip around source (page.element id name attributes children) =
      let sight : Sight = record { scripting = scripting; skip = skip; is_rich = false } in
      let inner : Simples =
      shown_all sight (inside name children around) (picture_source name children) None children in
      let all : Simples = marked (bytes_eq name (codes "q")) (raised (raised_by name) id inner) in
      either-node (is_skipped sight name) no-node
      (formula-plain name attributes _ (tex_of name attributes children)
      (by-content-plain around source id name attributes children (cond (is_emptied around name attributes) none all)
      (if-plain (is_emptied around name attributes) none all tt
      (marked-plain (bytes_eq name (codes "q")) (raised (raised_by name) id inner)
      (raised-plain (raised_by name) id inner (raised-by-plain name)
      (all-shown-plain scripting skip (inside name children around) (picture_source name children) None
      children))))))

  all-shown-plain : (scripting : Bool) (skip : List (List ℕ)) (around : Surroundings) (source : Option (List ℕ))
      (before : Option (List AttributePair)) (ts : NumberedForest)
      → ArePlain (shown_all (record { scripting = scripting; skip = skip; is_rich = false }) around source before ts)
  all-shown-plain scripting skip around source before page.none = tt
  all-shown-plain scripting skip around source before (page.more t ts) =
      let sight : Sight = record { scripting = scripting; skip = skip; is_rich = false } in
      with-one-plain _ (shown_all sight around (source_after source t) (last_element before t) ts)
      (either-node (is_repeat before t (leads_to_script skip ts)) no-node
      (shown-plain scripting skip around (source_for source t) t))
      (all-shown-plain scripting skip around (source_after source t) (last_element before t) ts)

page-plain : (scripting : Bool) (skip : List (List ℕ)) (t : NumberedTree)
    → ArePlain (shown_in (record { scripting = scripting; skip = skip; is_rich = false }) t)
page-plain scripting skip (page.document id children) = all-shown-plain scripting skip nowhere None None children
page-plain scripting skip (page.doctype id) = tt
page-plain scripting skip (page.text id s) = tt
page-plain scripting skip (page.comment id s) = tt
page-plain scripting skip (page.element id name attributes children) = tt

-- ---- within the budget of links

mutual
  within-plain : (left : Option ℕ) (t : Simple) → IsPlain t → IsPlain (within left t)
  within-plain left (text s) h = h
  within-plain left (image o attributes) h = h
  within-plain left (formula tex is_alone attributes) h = h
  within-plain left (embedded id place title attributes ids) h = h
  within-plain left (anchor id) h = h
  within-plain left (element id r facts attributes content) h =
      let now : Option ℕ = paid left (cost r facts attributes) in (
        either-role (not (is_some now) && is_carrying r && nat_lt 0 (size r attributes)) (emptied r) r
            (either-role (is_link r) role.Target role.Plain refl refl) h.0,
        all-within-plain now content h.1,
      )

  all-within-plain : (left : Option ℕ) (ts : Simples) → ArePlain ts → ArePlain (all_within left ts)
  all-within-plain left none h = tt
  all-within-plain left (more t ts) h = (within-plain left t h.0, all-within-plain (left_after left t) ts h.1)

-- ---- with anchors

anchors-plain : (ids : List (List ℕ)) → ArePlain (anchors ids)
anchors-plain [] = tt
anchors-plain (id ∷ ids) = (tt, anchors-plain ids)

after-plain : (ids : List (List ℕ)) (t : Simple) → IsPlain t → IsPlain (after_anchors ids t)
after-plain [] t h = h
after-plain (id ∷ ids) t h =
    let found : Simples = anchors (id ∷ ids) in
    let front : Simples = cond (stands_apart t) (more (apart found) none) found in (
      refl,
      followed-plain front (more t none) (if-plain (stands_apart t) (more (apart found) none) found
          ((refl, anchors-plain (id ∷ ids)), tt) (anchors-plain (id ∷ ids))) (h, tt),
    )

preceded-plain : (ids : List (List ℕ)) (t : Simple) → IsPlain t → IsPlain (preceded ids t)
preceded-plain ids (embedded id place title attributes found) h = h
preceded-plain ids (text s) h = after-plain ids (text s) h
preceded-plain ids (image o attributes) h = after-plain ids (image o attributes) h
preceded-plain ids (formula tex is_alone attributes) h = after-plain ids (formula tex is_alone attributes) h
preceded-plain ids (anchor id) h = after-plain ids (anchor id) h
preceded-plain ids (element id r facts attributes content) h =
    after-plain ids (element id r facts attributes content) h

leaf-plain : (p : Placing) (shows : Bool) (t : Simple) → IsPlain t → IsPlain (placed_before p shows t)
leaf-plain p shows t h =
    either-plain shows (preceded (ids_up_to p.seen p.targets) t) t
    (preceded-plain (ids_up_to p.seen p.targets) t h) h

mutual
  placed-plain : (p : Placing) (t : Simple) → IsPlain t → IsPlain (placed p t)
  placed-plain p (text s) h = leaf-plain p (not (is_blank_text s)) (text s) h
  placed-plain p (image o attributes) h = leaf-plain p (image_shows o attributes) (image o attributes) h
  placed-plain p (formula tex is_alone attributes) h = leaf-plain p true (formula tex is_alone attributes) h
  placed-plain p (embedded id place title attributes ids) h =
      leaf-plain p true (embedded id place title attributes ids) h
  placed-plain p (anchor id) h = tt
  placed-plain p (element id r facts attributes content) h =
      let t : Simple = element id r facts attributes content in
      either-plain (is_verbatim r) (placed_before p (code_shows content) t)
      (element id r facts attributes (all_placed p content)) (leaf-plain p (code_shows content) t h)
      (h.0, all-placed-plain p content h.1)

  all-placed-plain : (p : Placing) (ts : Simples) → ArePlain ts → ArePlain (all_placed p ts)
  all-placed-plain p none h = tt
  all-placed-plain p (more t ts) h = (placed-plain p t h.0, all-placed-plain (placing_after p t) ts h.1)

last-plain : (targets : List Target) → ArePlain (last_anchors targets)
last-plain [] = tt
last-plain (t ∷ targets) = ((refl, anchors-plain (values_of (t ∷ targets))), tt)

anchored-plain : (which : Anchors) (is_rich : Bool) (ts : Simples) → ArePlain ts
    → ArePlain (anchored which is_rich ts)
anchored-plain which is_rich ts h =
    let p : Placing = record { seen = 0; targets = targets_by which is_rich ts } in
    let last : List Target = (placing_after_all p ts).targets in
    followed-plain (all_placed p ts) (last_anchors last) (all-placed-plain p ts h) (last-plain last)

-- ---- with each link around its first pieces

cut-leaf-plain : (p : Pieces) (t : Simple) → IsPlain t → IsPlain (cut_leaf p t)
cut-leaf-plain p t h =
    either-plain (not (is_unseen t) && nat_lt most_linked (after_leaf p t).count) (unlinked t) t (refl, (h, tt)) h

mutual
  cut-plain : (p : Pieces) (t : Simple) → IsPlain t → IsPlain (cut p t)
  cut-plain p (text s) h = cut-leaf-plain p (text s) h
  cut-plain p (image o attributes) h = cut-leaf-plain p (image o attributes) h
  cut-plain p (formula tex is_alone attributes) h = cut-leaf-plain p (formula tex is_alone attributes) h
  cut-plain p (embedded id place title attributes ids) h =
      cut-leaf-plain p (embedded id place title attributes ids) h
  cut-plain p (anchor id) h = tt
  cut-plain p (element id r facts attributes content) h =
      let t : Simple = element id r facts attributes content in
      let inner : Simples = cut_all (at_edge r p) content in
      either-plain (is_verbatim r) (cut_leaf p t)
      (element id r facts attributes (cond (is_line_break r) content inner)) (cut-leaf-plain p t h)
      (h.0, if-plain (is_line_break r) content inner h.1 (all-cut-plain (at_edge r p) content h.1))

  all-cut-plain : (p : Pieces) (ts : Simples) → ArePlain ts → ArePlain (cut_all p ts)
  all-cut-plain p none h = tt
  all-cut-plain p (more t ts) h = (cut-plain p t h.0, all-cut-plain (pieces_after p t) ts h.1)

mutual
  pieced-plain : (t : Simple) → IsPlain t → IsPlain (pieced t)
  pieced-plain (text s) h = h
  pieced-plain (image o attributes) h = h
  pieced-plain (formula tex is_alone attributes) h = h
  pieced-plain (embedded id place title attributes ids) h = h
  pieced-plain (anchor id) h = h
  pieced-plain (element id r facts attributes content) h = (
    h.0,
    if-plain (is_link r) (cut_all no_pieces content) (pieced_all content) (all-cut-plain no_pieces content h.1)
        (all-pieced-plain content h.1),
  )

  all-pieced-plain : (ts : Simples) → ArePlain ts → ArePlain (pieced_all ts)
  all-pieced-plain none h = tt
  all-pieced-plain (more t ts) h = (pieced-plain t h.0, all-pieced-plain ts h.1)

-- ---- all

pub trees-plain : (which : Anchors) (sight : Sight) (tree : NumberedTree) → sight.is_rich ≡ false
    → ArePlain (final_trees which sight tree)
trees-plain which sight tree r =
    let flat : Sight = record { scripting = sight.scripting; skip = sight.skip; is_rich = false } in
    let shown : Simples = shown_in sight tree in
    let same : shown_in flat tree ≡ shown =
    ap (λ b. shown_in (record { scripting = sight.scripting; skip = sight.skip; is_rich = b }) tree) (sym r) in
    all-pieced-plain (anchored which sight.is_rich (limited shown))
    (anchored-plain which sight.is_rich (limited shown)
    (all-within-plain (Some (budget shown)) shown
    (subst ArePlain same (page-plain sight.scripting sight.skip tree))))
