-- In what shows of a page each element knows how many leaves are in it.
use Rattle.std.proofs.Common.{ℕ, ◌≤◌, Bool, true, false, List, [], arith}
use Rattle.std.specs.Prelude.{◌&&◌, min, if◌then◌else◌, codes, Option, Some, None}
use Rattle.std.specs.Option.{option_or}
use Rattle.std.specs.Str.{bytes_eq}
use Rattle.htmd_lexical.specs.AttributePairs.{AttributePair}
use Rattle.htmd_document.specs.declared.document.InlineElement.{InlineElement}
use Rattle.htmd_nodes.specs.NumberedTrees.{NumberedTree, NumberedForest}
use Rattle.htmd_nodes.specs.NumberedTrees as page
use Rattle.htmd_shown.specs.declared.role.Role.{Role}
use Rattle.htmd_shown.specs.declared.role.Role.TheVariants as role
use Rattle.htmd_shown.specs.Embeds.{Embedding, embedding_of, embedding_names}
use Rattle.htmd_shown.specs.Facts.{made}
use Rattle.htmd_shown.specs.Facts as facts
use Rattle.htmd_shown.specs.Formulas.{tex_of}
use Rattle.htmd_shown.specs.Images.{is_image, image_address, picture_source}
use Rattle.htmd_shown.specs.Kinds.{are_blank}
use Rattle.htmd_shown.specs.Permalinks.{is_permalink}
use Rattle.htmd_shown.specs.Pieces.{greatest_count}
use Rattle.htmd_shown.specs.Repeats.{is_repeat, last_element, leads_to_script}
use Rattle.htmd_shown.specs.Roles.{is_among, is_verbatim}
use Rattle.htmd_shown.specs.Shown.{Sight, Surroundings, nowhere, inside, role_at, raised_by, raised_one, format_of}
use Rattle.htmd_shown.specs.Shown.{formats_after, raised, with_one, followed_by, marks, marked, is_led_to}
use Rattle.htmd_shown.specs.Shown.{with_content, embed, object, is_skipped, is_hidden, is_emptied, by_content}
use Rattle.htmd_shown.specs.Shown.{formula_or, source_for, source_after, shown, shown_all, shown_in}
use Rattle.htmd_shown.specs.SimpleTrees.{Simple, text, image, formula, embedded, anchor, element, Simples, none, more}
use Rattle.htmd_shown.specs.SimpleTrees.{is_text}
use Rattle.htmd_shown.specs.Spaces.{is_blank_text}
use Rattle.htmd_law_sizes.proofs.DebtLimits.{Counted, AllCounted}
use Rattle.htmd_law_sizes.proofs.Leaves.{leaves, leaves_among}

-- ---- counts

text_le : (s : List ℕ) → (if is_blank_text s then 0 else 1) ≤ facts.leaves (text s)
text_le s = go (is_blank_text s)
  where
    go : (t : Bool) → (if t then 0 else 1) ≤ facts.one_unless t
    go true = omega arith
    go false = omega arith

mutual
  count_le : (t : Simple) → min greatest_count (leaves t) ≤ facts.leaves t
  count_le (text s) = omega (arith, text_le s)
  count_le (image address attributes) = omega arith
  count_le (formula tex is_alone attributes) = omega arith
  count_le (embedded id address title attributes ids) = omega arith
  count_le (anchor id) = omega arith
  count_le (element id r known attributes content) = go (is_verbatim r) (counts_le content)
    where
      go : (t : Bool) → min greatest_count (leaves_among content) ≤ facts.leaves_among content
          → min greatest_count (if t then 1 else leaves_among content)
          ≤ (if t then 1 else facts.leaves_among content)
      go true h = omega arith
      go false h = h

  counts_le : (ts : Simples) → min greatest_count (leaves_among ts) ≤ facts.leaves_among ts
  counts_le none = omega arith
  counts_le (more t ts) = omega (arith, count_le t, counts_le ts)

made_counted : (id : ℕ) (r : Role) (attributes : List AttributePair) (content : Simples) → AllCounted content
    → Counted (made id r attributes content)
made_counted id r attributes content h = (counts_le content, h)

-- ---- elements

abbrev CountedIf : Option Simple → Type 0
CountedIf None = Unit {0}
CountedIf (Some t) = Counted t

followed_counted : (a b : Simples) → AllCounted a → AllCounted b → AllCounted (followed_by a b)
followed_counted none b h i = i
followed_counted (more t a) b h i = (h.0, followed_counted a b h.1 i)

marks_counted : (t : Bool) → AllCounted (marks t)
marks_counted true = (tt, tt)
marks_counted false = tt

marked_counted : (t : Bool) (content : Simples) → AllCounted content → AllCounted (marked t content)
marked_counted t content h =
    followed_counted (followed_by (marks t) content) (marks t)
    (followed_counted (marks t) content (marks_counted t) h) (marks_counted t)

one_counted : (f : Option InlineElement) (id : ℕ) (t : Simple) → Counted t → Counted (raised_one f id t)
one_counted None id t h = h
one_counted (Some f) id t h = go (is_text t)
  where
    go : (b : Bool) → Counted (if b then t else made id (role.Element f) [] (more t none))
    go true = h
    go false = made_counted id (role.Element f) [] (more t none) (h, tt)

raised_counted : (fs : List (Option InlineElement)) (id : ℕ) (ts : Simples) → AllCounted ts
    → AllCounted (raised fs id ts)
raised_counted fs id none h = tt
raised_counted fs id (more t ts) h =
    (one_counted (format_of fs) id t h.0, raised_counted (formats_after fs t) id ts h.1)

emptied_counted : (b : Bool) (content : Simples) → AllCounted content → AllCounted (if b then none else content)
emptied_counted true content h = tt
emptied_counted false content h = h

embed_counted : (id : ℕ) (attributes : List AttributePair) (o : Option Embedding)
    → CountedIf (embed id attributes o)
embed_counted id attributes None = tt
embed_counted id attributes (Some found) = tt

object_counted : (id : ℕ) (attributes : List AttributePair) (content : Simples) (o : Option Embedding)
    → AllCounted content → CountedIf (object id attributes content o)
object_counted id attributes content o h = go (are_blank content) o
  where
    go : (b : Bool) (o : Option Embedding)
        → CountedIf
        (if b then option_or (embed id attributes o) (Some (made id role.Plain attributes content))
        else Some (made id role.Plain attributes content))
    go true None = made_counted id role.Plain attributes content h
    go true (Some found) = tt
    go false o = made_counted id role.Plain attributes content h

content_counted : (t in_head : Bool) (id : ℕ) (name : List ℕ) (attributes : List AttributePair)
    (ts : NumberedForest)
    (content : Simples) → AllCounted content → CountedIf (with_content t in_head id name attributes ts content)
content_counted t in_head id name attributes ts content h =
    go (bytes_eq name (codes "a") && is_permalink in_head attributes content) (is_led_to attributes)
  where
    go : (a b : Bool)
        → CountedIf
        (if a then (if b then Some (made id role.Target attributes none) else None)
        else Some (made id (role_at t name attributes ts) attributes content))
    go true true = made_counted id role.Target attributes none tt
    go true false = tt
    go false b = made_counted id (role_at t name attributes ts) attributes content h

by_counted : (t : Bool) (around : Surroundings) (source : Option (List ℕ)) (id : ℕ) (name : List ℕ)
    (attributes : List AttributePair) (ts : NumberedForest) (content : Simples) → AllCounted content
    → CountedIf (by_content t around source id name attributes ts content)
by_counted t around source id name attributes ts content h =
    go (is_hidden around name attributes) (is_image name attributes) (is_among embedding_names name)
    (bytes_eq name (codes "object"))
  where
    go : (a b c d : Bool)
        → CountedIf
        (if a then None
        else (if b then Some (image (image_address attributes source) attributes)
        else (if c then embed id attributes (embedding_of name attributes ts)
        else (if d then object id attributes content (embedding_of name attributes ts)
        else with_content t around.in_head id name attributes ts content))))
    go true b c d = tt
    go false true c d = tt
    go false false true d = embed_counted id attributes (embedding_of name attributes ts)
    go false false false true = object_counted id attributes content (embedding_of name attributes ts) h
    go false false false false = content_counted t around.in_head id name attributes ts content h

formula_counted : (name : List ℕ) (attributes : List AttributePair) (other : Option Simple) (tex : Option (List ℕ))
    → CountedIf other → CountedIf (formula_or name attributes other tex)
formula_counted name attributes other None h = h
formula_counted name attributes other (Some tex) h = tt

skipped_counted : (b : Bool) (o : Option Simple) → CountedIf o → CountedIf (if b then None else o)
skipped_counted true o h = tt
skipped_counted false o h = h

with_counted : (o : Option Simple) (ts : Simples) → CountedIf o → AllCounted ts → AllCounted (with_one o ts)
with_counted None ts h i = i
with_counted (Some t) ts h i = (h, i)

-- ---- nodes

mutual
  unfolding shown shown_all

  node_counted : (sight : Sight) (around : Surroundings) (source : Option (List ℕ)) (t : NumberedTree)
      → CountedIf (shown sight around source t)
  node_counted sight around source (page.document id children) = tt
  node_counted sight around source (page.doctype id) = tt
  node_counted sight around source (page.text id s) = tt
  node_counted sight around source (page.comment id s) = tt
  node_counted sight around source (page.element id name attributes children) =
      let inner = shown_all sight (inside name children around) (picture_source name children) None children in
      let r = raised (raised_by name) id inner in
      let m = marked (bytes_eq name (codes "q")) r in
      let content = if is_emptied around name attributes then none else m in
      let i = nodes_counted sight (inside name children around) (picture_source name children) None children in
      let h : AllCounted content =
      emptied_counted (is_emptied around name attributes) m
      (marked_counted (bytes_eq name (codes "q")) r (raised_counted (raised_by name) id inner i)) in
      let b = by_content sight.is_rich around source id name attributes children content in
      skipped_counted (is_skipped sight name) (formula_or name attributes b (tex_of name attributes children))
      (formula_counted name attributes b (tex_of name attributes children)
      (by_counted sight.is_rich around source id name attributes children content h))

  nodes_counted : (sight : Sight) (around : Surroundings) (source : Option (List ℕ))
      (before : Option (List AttributePair)) (ts : NumberedForest)
      → AllCounted (shown_all sight around source before ts)
  nodes_counted sight around source before page.none = tt
  nodes_counted sight around source before (page.more t ts) =
      let o = shown sight around (source_for source t) t in
      let b = is_repeat before t (leads_to_script sight.skip ts) in
      with_counted (if b then None else o)
      (shown_all sight around (source_after source t) (last_element before t) ts)
      (skipped_counted b o (node_counted sight around (source_for source t) t))
      (nodes_counted sight around (source_after source t) (last_element before t) ts)

pub page_counted : (sight : Sight) (tree : NumberedTree) → AllCounted (shown_in sight tree)
page_counted sight (page.document id children) = nodes_counted sight nowhere None None children
page_counted sight (page.doctype id) = tt
page_counted sight (page.text id s) = tt
page_counted sight (page.comment id s) = tt
page_counted sight (page.element id name attributes children) = tt
