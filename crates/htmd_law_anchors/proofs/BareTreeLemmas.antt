-- What shows of a page has no anchors yet.
use Rattle.std.proofs.Common.{◌≡◌, ℕ, Bool, true, false, cond, ◌&&◌, List, [], refl, ap, subst, Option, Some, None}
use Rattle.std.specs.Prelude.{codes}
use Rattle.std.specs.Option.{option_or, unwrap_or}
use Rattle.std.specs.Str.{bytes_eq}
use Rattle.htmd_lexical.specs.AttributePairs.{AttributePair}
use Rattle.htmd_nodes.specs.NumberedTrees.{NumberedTree, NumberedForest}
use Rattle.htmd_nodes.specs.NumberedTrees as page
use Rattle.htmd_document.specs.declared.document.InlineElement.{InlineElement}
use Rattle.htmd_shown.specs.declared.role.Role.TheVariants as role
use Rattle.htmd_shown.specs.Embeds.{Embedding, embedding_of, embedding_names}
use Rattle.htmd_shown.specs.Facts.{made}
use Rattle.htmd_shown.specs.Formulas.{tex_of}
use Rattle.htmd_shown.specs.Images.{is_image, picture_source}
use Rattle.htmd_shown.specs.Kinds.{are_blank}
use Rattle.htmd_shown.specs.Permalinks.{is_permalink}
use Rattle.htmd_shown.specs.Repeats.{is_repeat, last_element, leads_to_script}
use Rattle.htmd_shown.specs.Roles.{is_among}
use Rattle.htmd_shown.specs.Shown.{Sight, Surroundings, nowhere, inside, role_at, raised_by}
use Rattle.htmd_shown.specs.Shown.{raised_one, format_of, formats_after, raised, with_one, followed_by, marks, marked}
use Rattle.htmd_shown.specs.Shown.{is_led_to, target, with_content, embed, object, is_skipped, is_hidden, is_emptied}
use Rattle.htmd_shown.specs.Shown.{by_content, formula_or, source_for, source_after, shown, shown_all, shown_in}
use Rattle.htmd_shown.specs.SimpleTrees.{Simple, text, image, formula, embedded, anchor, element, Simples, none, more, is_text}
use Rattle.htmd_document_of_tree.specs.Limits.{cost, paid, left_after, within, all_within, budget, limited}
use Rattle.htmd_law_anchors.proofs.PlacedLemmas.{IsBare, AreBare}

-- what there may be has no anchors
record Bare (o : Option Simple) : Type 0 where
  is : (t : Simple) → o ≡ Some t → IsBare t

no-node : Bare None
no-node = record { is = λ t e. absurd (clash t e) }
  where
    clash : (t : Simple) → None ≡ Some t → ⊥
    clash t e = (cc)

one-node : (t : Simple) → IsBare t → Bare (Some t)
one-node t u = record { is = λ x e. subst IsBare (ap (λ o. unwrap_or o t) e) u }

either-node : (b : Bool) {x y : Option Simple} → Bare x → Bare y → Bare (cond b x y)
either-node true g h = g
either-node false g h = h

or-node : (x : Option Simple) {y : Option Simple} → Bare x → Bare y → Bare (option_or x y)
or-node None g h = h
or-node (Some t) g h = g

with-one-bare : (o : Option Simple) (ts : Simples) → Bare o → AreBare ts → AreBare (with_one o ts)
with-one-bare None ts g h = h
with-one-bare (Some t) ts g h = (g.is t refl, h)

followed-bare : (ts us : Simples) → AreBare ts → AreBare us → AreBare (followed_by ts us)
followed-bare none us g h = h
followed-bare (more t ts) us g h = (g.0, followed-bare ts us g.1 h)

marks-bare : (b : Bool) → AreBare (marks b)
marks-bare true = (tt, tt)
marks-bare false = tt

marked-bare : (b : Bool) (ts : Simples) → AreBare ts → AreBare (marked b ts)
marked-bare b ts u =
    followed-bare (followed_by (marks b) ts) (marks b) (followed-bare (marks b) ts (marks-bare b) u) (marks-bare b)

raised-one-bare : (o : Option InlineElement) (id : ℕ) (t : Simple) → IsBare t → IsBare (raised_one o id t)
raised-one-bare None id t u = u
raised-one-bare (Some format) id t u = either (is_text t)
  where
    either : (b : Bool) → IsBare (cond b t (made id (role.Element format) [] (more t none)))
    either true = u
    either false = (u, tt)

raised-bare : (formats : List (Option InlineElement)) (id : ℕ) (ts : Simples) → AreBare ts
    → AreBare (raised formats id ts)
raised-bare formats id none u = tt
raised-bare formats id (more t ts) u =
    (raised-one-bare (format_of formats) id t u.0, raised-bare (formats_after formats t) id ts u.1)

-- ---- elements

target-bare : (id : ℕ) (attributes : List AttributePair) → Bare (target id attributes)
target-bare id attributes =
    either-node (is_led_to attributes) (one-node (made id role.Target attributes none) tt) no-node

embed-bare : (id : ℕ) (attributes : List AttributePair) (o : Option Embedding) → Bare (embed id attributes o)
embed-bare id attributes None = no-node
embed-bare id attributes (Some found) = one-node (embedded id found.address found.title attributes []) refl

object-bare : (id : ℕ) (attributes : List AttributePair) (content : Simples) (o : Option Embedding)
    → AreBare content
    → Bare (object id attributes content o)
object-bare id attributes content o u =
    let plain : Bare (Some (made id role.Plain attributes content)) =
    one-node (made id role.Plain attributes content) u in
    either-node (are_blank content) (or-node (embed id attributes o) (embed-bare id attributes o) plain) plain

formula-bare : (name : List ℕ) (attributes : List AttributePair) (other : Option Simple) (o : Option (List ℕ))
    → Bare other → Bare (formula_or name attributes other o)
formula-bare name attributes other None h = h
formula-bare name attributes other (Some tex) h = one-node _ tt

module _ (rich : Bool) (around : Surroundings) (source : Option (List ℕ)) (id : ℕ) (name : List ℕ)
    (attributes : List AttributePair)
    (children : NumberedForest) (content : Simples) (u : AreBare content) where
  content-bare : (in_head : Bool) → Bare (with_content rich in_head id name attributes children content)
  content-bare in_head =
      either-node (bytes_eq name (codes "a") && is_permalink in_head attributes content) (target-bare id attributes)
      (one-node (made id (role_at rich name attributes children) attributes content) u)

  by-content-bare : Bare (by_content rich around source id name attributes children content)
  by-content-bare =
      either-node (is_hidden around name attributes) no-node
      (either-node (is_image name attributes) (one-node _ tt)
      (either-node (is_among embedding_names name)
      (embed-bare id attributes (embedding_of name attributes children))
      (either-node (bytes_eq name (codes "object"))
      (object-bare id attributes content (embedding_of name attributes children) u)
      (content-bare around.in_head))))

mutual
  unfolding shown

  shown-bare : (sight : Sight) (around : Surroundings) (source : Option (List ℕ)) (t : NumberedTree)
      → Bare (shown sight around source t)
  shown-bare sight around source (page.document id children) = no-node
  shown-bare sight around source (page.doctype id) = no-node
  shown-bare sight around source (page.text id s) = one-node _ tt
  shown-bare sight around source (page.comment id s) = no-node
  shown-bare sight around source (page.element id name attributes children) =
      let inner : Simples =
      shown_all sight (inside name children around) (picture_source name children) None children in
      let all : Simples = marked (bytes_eq name (codes "q")) (raised (raised_by name) id inner) in
      let bare : AreBare all =
      marked-bare (bytes_eq name (codes "q")) (raised (raised_by name) id inner)
      (raised-bare (raised_by name) id inner
      (all-bare sight (inside name children around) (picture_source name children) None children)) in
      let content : Simples = cond (is_emptied around name attributes) none all in
      either-node (is_skipped sight name) no-node
      (formula-bare name attributes (by_content sight.is_rich around source id name attributes children content)
      (tex_of name attributes children)
      (by-content-bare sight.is_rich around source id name attributes children content
      (emptied (is_emptied around name attributes) all bare)))
    where
      emptied : (b : Bool) (ts : Simples) → AreBare ts → AreBare (cond b none ts)
      emptied true ts u = tt
      emptied false ts u = u

  all-bare : (sight : Sight) (around : Surroundings) (source : Option (List ℕ))
      (before : Option (List AttributePair)) (ts : NumberedForest) → AreBare (shown_all sight around source before ts)
  all-bare sight around source before page.none = tt
  all-bare sight around source before (page.more t ts) =
      let repeat : Bool = is_repeat before t (leads_to_script sight.skip ts) in
      with-one-bare (cond repeat None (shown sight around (source_for source t) t))
      (shown_all sight around (source_after source t) (last_element before t) ts)
      (either-node repeat no-node (shown-bare sight around (source_for source t) t))
      (all-bare sight around (source_after source t) (last_element before t) ts)

pub page-bare : (sight : Sight) (t : NumberedTree) → AreBare (shown_in sight t)
page-bare sight (page.document id children) = all-bare sight nowhere None None children
page-bare sight (page.doctype id) = tt
page-bare sight (page.text id s) = tt
page-bare sight (page.comment id s) = tt
page-bare sight (page.element id name attributes children) = tt

-- ---- the budget of links

mutual
  within-bare : (left : Option ℕ) (t : Simple) → IsBare t → IsBare (within left t)
  within-bare left (text s) u = tt
  within-bare left (image address attributes) u = tt
  within-bare left (formula tex is_alone attributes) u = tt
  within-bare left (embedded id address title attributes found) u = u
  within-bare left (anchor id) u = u
  within-bare left (element id r facts attributes content) u =
      all-within-bare (paid left (cost r facts attributes)) content u

  all-within-bare : (left : Option ℕ) (ts : Simples) → AreBare ts → AreBare (all_within left ts)
  all-within-bare left none u = tt
  all-within-bare left (more t ts) u = (within-bare left t u.0, all-within-bare (left_after left t) ts u.1)

pub limited-bare : (ts : Simples) → AreBare ts → AreBare (limited ts)
limited-bare ts u = all-within-bare (Some (budget ts)) ts u
