-- How a node is written, by what it is.
use Rattle.std.proofs.Common.{◌≡◌, ℕ, zero, suc, ◌<◌, ◌≤◌, List, ◌∷◌, length, Option, Some, None, refl, sym}
use Rattle.std.proofs.Common.{ap, ◌∙◌, Bool, true, false, cond, arith}
use Rattle.std.proofs.Props.{props}
use Rattle.std.proofs.Math.Logic.{∥∥₁_elim}
use Rattle.htmd_text.specs.Trims.{trimmed_end, is_space}
use Rattle.htmd_lexical.specs.AttributePairs.{AttributePair}
use Rattle.htmd_nodes.specs.Items.{Item, Data, document_node, doctype_node, text_node, comment_node, element_node}
use Rattle.htmd_nodes.specs.Items.{IsTree, IsBelow, data_at}
use Rattle.htmd_nodes.specs.NumberedTrees.{NumberedTree, NumberedForest, document, doctype, text, comment, element}
use Rattle.htmd_nodes.specs.NumberedTrees.{with_children, tree_of, height}
use Rattle.htmd_nodes.specs.Ancestors.{ancestor_of, ancestors_of}
use Rattle.htmd_values.specs.Serialisation.{comment_of}
use Rattle.htmd_nodes.proofs.NumberedTreesLemmas.{tree-open, lower_below, height_pos, IsLower}
use Rattle.htmd_walk.specs.Choice.{Config}
use Rattle.htmd_walk.specs.OrdinaryText.{in_pre_or_code}
use Rattle.htmd_walk.specs.Groups.{group_tree, group_children, children_at}
use Rattle.htmd_walk.specs.Outputs.{Conversion, conversion_of, Output, replace_text, push_text, Context, context_of}
use Rattle.htmd_walk.specs.Outputs.{is_markdown_alone}
use Rattle.htmd_walk.specs.Children.{before_child, write_groups}
use Rattle.htmd_walk.specs.Elements.{Answer, answer_after, occurrence_at}
use Rattle.htmd_walk.specs.Rendering.{with_answer, end_of_document, write_text, write_node, written_within, is_text}
use Rattle.htmd_walk.specs.Rendering.{inside_of}

-- what a node with a joined text is
group-document : (joined : Option (List ℕ)) (id : ℕ) (c : NumberedForest)
    → group_tree joined (document id c) ≡ document id c
group-document None id c = refl
group-document (Some s) id c = refl

group-doctype : (joined : Option (List ℕ)) (id : ℕ) → group_tree joined (doctype id) ≡ doctype id
group-doctype None id = refl
group-doctype (Some s) id = refl

group-text : (joined : Option (List ℕ)) (id : ℕ) (t : List ℕ) → group_tree joined (text id t) ≡ text id t
group-text None id t = refl
group-text (Some s) id t = refl

group-comment : (joined : Option (List ℕ)) (id : ℕ) (t : List ℕ)
    → group_tree joined (comment id t) ≡ comment id t
group-comment None id t = refl
group-comment (Some s) id t = refl

group-element : (joined : Option (List ℕ)) (id : ℕ) (n : List ℕ) (a : List AttributePair) (c : NumberedForest)
    → group_tree joined (element id n a c) ≡ element id n a (group_children joined c)
group-element None id n a c = refl
group-element (Some s) id n a c = refl

module _ (config : Config) (items : List Item) (joined : Option (List ℕ)) (t : IsTree items) (id : ℕ)
    (l : id < length items) where
  abbrev conversion : Conversion
  conversion = conversion_of config items

  abbrev there : ℕ → Context → Output → Output
  there n context out = written_within n conversion (group_tree joined (tree_of items id)) context out

  -- one level down
  level : (m : ℕ) (c : Data) (tree : NumberedTree) (context : Context) (out : Output) → data_at items id ≡ c
      → group_tree joined (with_children id c (children_at items id)) ≡ tree
      → there (suc m) context out ≡ write_node (written_within m conversion) conversion tree context out
  unfolding written_within
  level m c tree context out e g =
      ap (λ v. write_node (written_within m conversion) conversion v context out)
      (ap (group_tree joined) (tree-open items id t l ∙ ap (λ x. with_children id x (children_at items id)) e) ∙ g)

  pub text_written : (n : ℕ) (s : List ℕ) (context : Context) (out : Output) → height (tree_of items id) ≤ n
      → data_at items id ≡ text_node s → write_text s context out ≡ there n context out
  text_written zero s context out h e = let p = height_pos (tree_of items id) in absurd (omega arith)
  text_written (suc m) s context out h e =
      sym (level m (text_node s) (text id s) context out e (group-text joined id s))

  pub doctype_written : (n : ℕ) (context : Context) (out : Output) → height (tree_of items id) ≤ n
      → data_at items id ≡ doctype_node → out ≡ there n context out
  doctype_written zero context out h e = let p = height_pos (tree_of items id) in absurd (omega arith)
  doctype_written (suc m) context out h e =
      sym (level m doctype_node (doctype id) context out e (group-doctype joined id))

  pub comment_written : (n : ℕ) (s : List ℕ) (pure : Bool) (context : Context) (out : Output)
      → height (tree_of items id) ≤ n → data_at items id ≡ comment_node s
      → pure ≡ is_markdown_alone config.options
      → cond pure out (push_text out (comment_of s)) ≡ there n context out
  comment_written zero s pure context out h e q = let p = height_pos (tree_of items id) in absurd (omega arith)
  comment_written (suc m) s pure context out h e q =
      ap (λ b. cond b out (push_text out (comment_of s))) q
      ∙ sym (level m (comment_node s) (comment id s) context out e (group-comment joined id s))

  pub document_written : (n : ℕ) (p trim : Bool) (out after : Output) → height (tree_of items id) ≤ n
      → data_at items id ≡ document_node
      → ((m : ℕ) → height (tree_of items id) ≤ suc m → after ≡ write_groups (written_within m conversion)
      (inside_of items id) (children_at items id) out) → end_of_document out.markdown_translated after ≡ there n
      (context_of (ancestors_of items id) p trim) out
  document_written zero p trim out after h e k = let q = height_pos (tree_of items id) in absurd (omega arith)
  document_written (suc m) p trim out after h e k =
      ap (end_of_document out.markdown_translated)
      (k m h ∙ ap (λ c. write_groups (written_within m conversion) (ancestor_of c ∷ ancestors_of items id)
      (children_at items id) out) e)
      ∙ sym (level m document_node (document id (children_at items id)) (context_of (ancestors_of items id) p trim)
      out
      e (group-document joined id (children_at items id)))

  pub element_written : (n : ℕ) (p trim : Bool) (out : Output) (name : List ℕ) (attributes : List AttributePair)
      (a : Answer) → height (tree_of items id) ≤ n → data_at items id ≡ element_node name attributes
      → ((m : ℕ) → height (tree_of items id) ≤ suc m
      → a ≡ answer_after 0 name (occurrence_at (written_within m conversion) conversion id (inside_of items id)
      (group_children joined (children_at items id))) out.definitions)
      → with_answer out (in_pre_or_code (ancestors_of items id)) a
      ≡ there n (context_of (ancestors_of items id) p trim) out
  element_written zero p trim out name attributes a h e k = let q = height_pos (tree_of items id) in
      absurd (omega arith)
  element_written (suc m) p trim out name attributes a h e k =
      ap (with_answer out (in_pre_or_code (ancestors_of items id)))
      (k m h ∙ ap (λ c. answer_after 0 name (occurrence_at (written_within m conversion) conversion id
      (ancestor_of c ∷ ancestors_of items id) (group_children joined (children_at items id))) out.definitions) e)
      ∙ sym (level m (element_node name attributes)
      (element id name attributes (group_children joined (children_at items id)))
      (context_of (ancestors_of items id) p trim) out e
      (group-element joined id name attributes (children_at items id)))

-- what isn't text is written alike, preformatted or not
module _ (config : Config) (items : List Item) (t : IsTree items) (id : ℕ) (l : id < length items) where
  abbrev alone : ℕ → Context → Output → Output
  alone n context out = written_within n (conversion_of config items) (tree_of items id) context out

  level-alone : (m : ℕ) (c : Data) (context : Context) (out : Output) → data_at items id ≡ c
      → alone (suc m) context out ≡ write_node (written_within m (conversion_of config items))
      (conversion_of config items) (with_children id c (children_at items id)) context out
  level-alone m c context out e = level config items None t id l m c (with_children id c (children_at items id)) context
      out e refl

  either_way : (m : ℕ) (c : Data) (p q trim : Bool) (out : Output) → data_at items id ≡ c → is_text c ≡ false
      → alone (suc m) (context_of (ancestors_of items id) p trim) out ≡ alone (suc m)
      (context_of (ancestors_of items id) q trim) out
  either_way m document_node p q trim out e k = level-alone m document_node _ out e
      ∙ sym (level-alone m document_node _ out e)
  either_way m doctype_node p q trim out e k = level-alone m doctype_node _ out e
      ∙ sym (level-alone m doctype_node _ out e)
  either_way m (text_node s) p q trim out e k = cc
  either_way m (comment_node s) p q trim out e k = level-alone m (comment_node s) _ out e
      ∙ sym (level-alone m (comment_node s) _ out e)
  either_way m (element_node name attributes) p q trim out e k = level-alone m (element_node name attributes) _ out e
      ∙ sym (level-alone m (element_node name attributes) _ out e)

  pub unpreformatted : (n : ℕ) (p trim : Bool) (out : Output) → height (tree_of items id) ≤ n
      → is_text (data_at items id) ≡ false → alone n (context_of (ancestors_of items id) p trim) out ≡ alone n
      (context_of (ancestors_of items id) false trim) out
  unpreformatted zero p trim out h k = let q = height_pos (tree_of items id) in absurd (omega arith)
  unpreformatted (suc m) p trim out h k = either_way m (data_at items id) p false trim out refl k

-- the cut before a child, as the walk makes it
pub cut_before : (b : Bool) (out : Output) (s : List ℕ) (markdown_translated : Bool)
    → s ≡ cond b (trimmed_end is_space out.text) out.text → markdown_translated ≡ out.markdown_translated
    → ◌≡◌ {A =
    Output} (record { text = s; markdown_translated = markdown_translated; definitions = out.definitions })
    (before_child b out)
cut_before true out s markdown_translated e f = let g : Bool → Output =
    λ x. record { text = s; markdown_translated = x; definitions = out.definitions } in ap g f
    ∙ ap (λ x. replace_text x out) e
cut_before false out s markdown_translated e f = let g : Bool → Output =
    λ x. record { text = s; markdown_translated = x; definitions = out.definitions } in ap g f
    ∙ ap (λ x. replace_text x out) e

IsLower-prop : (items : List Item) (id d : ℕ) → IsProp (IsLower items id d)
IsLower-prop items id d = hlevel props

pub proper_lower : (items : List Item) (id d : ℕ) → IsTree items → id < length items
    → ∥ IsBelow items id d ∥₁
    → IsLower items id d
proper_lower items id d t l h = ∥∥₁_elim h (IsLower-prop items id d) (lower_below items id d t l)
