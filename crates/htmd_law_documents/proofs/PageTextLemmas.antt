-- All of a page shows where no rule takes something away.
use Rattle.std.proofs.Common.{◌≡◌, ℕ, Bool, true, false, cond, not, ◌&&◌, ◌||◌, List, [], ◌∷◌, ◌++◌, refl, sym, ap, ◌∙◌}
use Rattle.std.proofs.Common.{subst, append_assoc, Option, Some, None}
use Rattle.std.specs.Prelude.{codes}
use Rattle.std.specs.List.{list_all}
use Rattle.std.specs.Str.{IsUtf8, bytes_eq}
use Rattle.std.proofs.lemmas.List.{append-nil}
use Rattle.std.proofs.lemmas.Str.{IsUtf8-nil, IsUtf8-from_is_utf8}
use Rattle.htmd_lexical.specs.Characters.{quotation_mark}
use Rattle.htmd_lexical.specs.AttributePairs.{AttributePair}
use Rattle.htmd_nodes.specs.NumberedTrees.{NumberedTree, NumberedForest}
use Rattle.htmd_nodes.specs.NumberedTrees as page
use Rattle.htmd_document.specs.declared.document.InlineElement.{InlineElement}
use Rattle.htmd_shown.specs.declared.role.Role.{Role}
use Rattle.htmd_shown.specs.declared.role.Role.TheVariants as role
use Rattle.htmd_shown.specs.Attributes.{text_of}
use Rattle.htmd_shown.specs.Embeds.{Embedding, embedded_address, embedding_of, embedding_names}
use Rattle.htmd_shown.specs.Facts.{made}
use Rattle.htmd_shown.specs.Formulas.{tex_of, is_display}
use Rattle.htmd_shown.specs.Images.{is_image, image_address, picture_source}
use Rattle.htmd_shown.specs.LineNumbers.{is_number_in_code, is_number_cell}
use Rattle.htmd_shown.specs.Kinds.{are_blank}
use Rattle.htmd_shown.specs.Repeats.{is_repeat, last_element, leads_to_script}
use Rattle.htmd_shown.specs.Roles.{is_among, hidden_names, is_void, role_of}
use Rattle.htmd_shown.specs.Shown.{Sight, Surroundings, nowhere, inside, role_at, raised_by, raised_one}
use Rattle.htmd_shown.specs.Shown.{format_of, formats_after, raised, with_one, followed_by, marks, marked, target}
use Rattle.htmd_shown.specs.Shown.{with_content, embed, object, is_skipped, is_hidden, is_emptied, by_content}
use Rattle.htmd_shown.specs.Shown.{formula_or, source_for, source_after, shown, shown_all}
use Rattle.htmd_shown.specs.SimpleTrees.{Simple, Simples, none, more, element, is_text}
use Rattle.htmd_shown.specs.SimpleTrees as simple
use Rattle.htmd_flow.specs.Flows.{is_grid_of}
use Rattle.htmd_law_documents.specs.DocumentTexts.{visible}
use Rattle.htmd_law_documents.specs.PageTexts.{in_marks, text_of_embedding, text_of_object, text_by_name}
use Rattle.htmd_law_documents.specs.PageTexts.{formula_or_text, content_shown, text_of_node, text_of_nodes}
use Rattle.htmd_law_documents.specs.PageTexts.{is_number, is_sign_link, is_whole, are_whole}
use Rattle.htmd_law_documents.specs.SimpleTexts.{formula_said, flat_in, grid_in, text_of_simple, text_of_simples}
use Rattle.htmd_law_documents.specs.TextLaws.{ShowsAll}
use Rattle.htmd_law_documents.specs.TreeForms.{is_text_value, is_text_tree, are_text_trees}
use Rattle.htmd_law_documents.proofs.VisibleLemmas.{Shows, shows-itself, shows-append, seen-same}
use Rattle.htmd_law_documents.proofs.VisibleLemmas.{shown-shows, shows-character, both-true}
use Rattle.htmd_law_documents.proofs.ElementLemmas.{not-true, said-utf8}
use Rattle.htmd_law_documents.proofs.NormalTextLemmas.{and-false, neither}
use Rattle.htmd_law_documents.proofs.ShownTreeLemmas.{IsGood, value-good, tex-good, embedded-good, Sound, role-void}
use Rattle.htmd_law_documents.proofs.ShownTreeLemmas.{embed-sound}
use lib.Utf8.{encode}

-- ---- in one line

-- what is in an element in one line stands in it
pub element-free : (r : Role) (content : Simples) (g holds_grid : Bool)
    → ((k l : Bool) → text_of_simples true k content ≡ text_of_simples true l content)
    → text_of_simples (flat_in r true g) (grid_in r holds_grid g) content ≡ text_of_simples true false content
element-free role.Cell content true holds_grid h = refl
element-free role.Cell content false holds_grid h = refl
element-free role.HeaderCell content true holds_grid h = refl
element-free role.HeaderCell content false holds_grid h = refl
element-free r content g holds_grid h = h _ _

-- what stands in one line says the same in a table
mutual
  grid-free : (t : Simple) (g h : Bool) → text_of_simple true g t ≡ text_of_simple true h t
  grid-free (simple.text s) g h = refl
  grid-free (simple.image address attributes) g h = refl
  grid-free (simple.formula tex is_alone attributes) g h = refl
  grid-free (simple.embedded id address title attributes anchors) g h = refl
  grid-free (simple.anchor id) g h = refl
  grid-free (element id r facts attributes content) g h =
      ap (λ s. cond (is_void r) [] s)
      (element-free r content g (is_grid_of content) (λ k l. grids-free content k l)
      ∙ sym (element-free r content h (is_grid_of content) (λ k l. grids-free content k l)))

  pub grids-free : (ts : Simples) (g h : Bool) → text_of_simples true g ts ≡ text_of_simples true h ts
  grids-free none g h = refl
  grids-free (more t ts) g h =
      ap (λ s. s ++ text_of_simples true g ts) (grid-free t g h)
      ∙ ap (λ s. text_of_simple true h t ++ s) (grids-free ts g h)

-- ---- what there may be

abbrev pub said_by : Option Simple → List ℕ
said_by None = []
said_by (Some t) = text_of_simple true false t

abbrev pub said_in : Simples → List ℕ
said_in ts = text_of_simples true false ts

-- these texts have the same visible characters
pub record Is (s t : List ℕ) : Type 0 where
  pub shows : Shows s (visible t)
  pub utf8 : IsUtf8 t

is-itself : (s : List ℕ) → IsUtf8 s → Is s s
is-itself s u = record { shows = shows-itself s u; utf8 = u }

is-nil : Is [] []
is-nil = is-itself [] IsUtf8-nil

is-append : (s t u v : List ℕ) → Is s u → Is t v → Is (s ++ t) (u ++ v)
is-append s t u v g h =
    let both : Shows (u ++ v) (visible u ++ visible v) =
    shows-append u v (visible u) (visible v) (shows-itself u g.utf8) (shows-itself v h.utf8) in
    record {
      shows = seen-same (s ++ t) (visible u ++ visible v) (visible (u ++ v)) (sym both.is)
          (shows-append s t (visible u) (visible v) g.shows h.shows);
      utf8 = both.utf8;
    }

is-same : (s t u : List ℕ) → s ≡ t → Is t u → Is s u
is-same s t u e h = subst (λ (x : List ℕ). Is x u) (sym e) h

either-is : (b : Bool) (x y : Option Simple) (s t : List ℕ) → Is (said_by x) s → Is (said_by y) t
    → Is (said_by (cond b x y)) (cond b s t)
either-is true x y s t g h = g
either-is false x y s t g h = h

-- ---- formulas

formula-is : (name : List ℕ) (attributes : List AttributePair) (other : Option Simple) (s : List ℕ)
    (o : Option (List ℕ)) → IsGood o → Is (said_by other) s
    → Is (said_by (formula_or name attributes other o)) (formula_or_text s o)
formula-is name attributes other s None g h = h
formula-is name attributes other s (Some tex) g h =
    subst (λ (b : Bool). Is (formula_said b tex) (formula_said false tex))
    (sym (and-false (is_display name attributes) refl))
    (is-itself (formula_said false tex) (said-utf8 false tex (g.is tex refl)))

-- ---- marks, and raised parts

pub with-one-is : (o : Option Simple) (ts : Simples) → said_in (with_one o ts) ≡ said_by o ++ said_in ts
with-one-is None ts = refl
with-one-is (Some t) ts = refl

followed-is : (ts us : Simples) → said_in (followed_by ts us) ≡ said_in ts ++ said_in us
followed-is none us = refl
followed-is (more t ts) us =
    ap (λ s. text_of_simple true false t ++ s) (followed-is ts us)
    ∙ sym (append_assoc (text_of_simple true false t) (said_in ts) (said_in us))

pub marked-is : (b : Bool) (ts : Simples) → said_in (marked b ts) ≡ in_marks b (said_in ts)
marked-is true ts =
    followed-is (followed_by (marks true) ts) (marks true)
    ∙ ap (λ s. s ++ quotation_mark ∷ []) (followed-is (marks true) ts)
marked-is false ts = followed-is ts none ∙ append-nil (said_in ts)

raised-one-is : (o : Option InlineElement) (id : ℕ) (t : Simple)
    → text_of_simple true false (raised_one o id t) ≡ text_of_simple true false t
raised-one-is None id t = refl
raised-one-is (Some format) id t = either (is_text t)
  where
    either : (b : Bool)
        → text_of_simple true false (cond b t (made id (role.Element format) [] (more t none)))
        ≡ text_of_simple true false t
    either true = refl
    either false = append-nil (text_of_simple true false t)

pub raised-is : (formats : List (Option InlineElement)) (id : ℕ) (ts : Simples)
    → said_in (raised formats id ts) ≡ said_in ts
raised-is formats id none = refl
raised-is formats id (more t ts) =
    ap (λ s. s ++ said_in (raised (formats_after formats t) id ts)) (raised-one-is (format_of formats) id t)
    ∙ ap (λ s. text_of_simple true false t ++ s) (raised-is (formats_after formats t) id ts)

pub mark-is : Is (quotation_mark ∷ []) (quotation_mark ∷ [])
unfolding encode
mark-is = is-itself (quotation_mark ∷ []) (shows-character quotation_mark refl).utf8

-- the same text in marks
marks-are : (b : Bool) (s t : List ℕ) → Is s t → Is (in_marks b s) (in_marks b t)
marks-are true s t h =
    is-append (quotation_mark ∷ s) (quotation_mark ∷ []) (quotation_mark ∷ t) (quotation_mark ∷ [])
    (is-append (quotation_mark ∷ []) s (quotation_mark ∷ []) t mark-is h) mark-is
marks-are false s t h = h

-- ---- elements

right-false : (a b : Bool) → b ≡ false → (a || b) ≡ a
right-false true b e = refl
right-false false b e = e

-- an element says what is in it
pub element-said : (id : ℕ) (r : Role) (attributes : List AttributePair) (content : Simples)
    → (is_void r ≡ true → content ≡ none)
    → text_of_simple true false (made id r attributes content) ≡ said_in content
element-said id r attributes content e = either (is_void r) e
  where
    either : (b : Bool) → (b ≡ true → content ≡ none)
        → cond b [] (text_of_simples (flat_in r true false) (grid_in r (is_grid_of content) false) content)
        ≡ said_in content
    either true h = sym (ap said_in (h refl))
    either false h =
        element-free r content false (is_grid_of content) (λ k l. grids-free content k l)

embed-is : (id : ℕ) (attributes : List AttributePair) (e : Option Embedding) → Sound (embed id attributes e)
    → Is (said_by (embed id attributes e)) (text_of_embedding e)
embed-is id attributes None h = is-nil
embed-is id attributes (Some found) h = is-itself found.title (h.is _ refl)

object-is : (id : ℕ) (attributes : List AttributePair) (content : Simples) (inner : List ℕ) (e : Option Embedding)
    → Sound (embed id attributes e) → Is (said_in content) inner
    → Is (said_by (object id attributes content e)) (text_of_object (are_blank content) inner e)
object-is id attributes content inner None h k = either (are_blank content)
  where
    plain : Option Simple
    plain = Some (made id role.Plain attributes content)

    either : (b : Bool) → Is (said_by (cond b plain plain)) inner
    either true = k
    either false = k
object-is id attributes content inner (Some found) h k =
    either-is (are_blank content) (embed id attributes (Some found)) (Some (made id role.Plain attributes content))
    found.title inner (embed-is id attributes (Some found) h) k

module _ (is_rich : Bool) (around : Surroundings) (source : Option (List ℕ)) (id : ℕ) (name : List ℕ)
    (attributes : List AttributePair)
    (children : NumberedForest) (g : list_all is_text_value attributes ≡ true) (h : are_text_trees children ≡ true)
    (content : Simples) (inner : List ℕ) (e : is_void (role_of name) ≡ true → content ≡ none)
    (i : Is (said_in content) inner) (n : is_number around name attributes ≡ false)
    (l : is_sign_link around name attributes content ≡ false) where
  abbrev found : Option Embedding
  found = embedding_of name attributes children

  embedding-sound : Sound (embed id attributes found)
  embedding-sound =
      embed-sound id attributes (embedded_address name attributes children) g
      (embedded-good name attributes children g h)

  -- the rules in their order, each with what is said by it
  abbrev by-role : Option Simple
  by-role = with_content is_rich around.in_head id name attributes children content

  abbrev as-object : Option Simple
  as-object = cond (bytes_eq name (codes "object")) (object id attributes content found) by-role

  abbrev object-text : List ℕ
  object-text = cond (bytes_eq name (codes "object")) (text_of_object (are_blank content) inner found) inner

  abbrev as-embedded : Option Simple
  as-embedded = cond (is_among embedding_names name) (embed id attributes found) as-object

  abbrev embedded-text : List ℕ
  embedded-text = cond (is_among embedding_names name) (text_of_embedding found) object-text

  abbrev an-image : Option Simple
  an-image = Some (simple.image (image_address attributes source) attributes)

  abbrev alt : List ℕ
  alt = text_of (codes "alt") attributes

  -- no permalink
  content-is : Is (said_by by-role) inner
  content-is =
      let kept : Simple = made id (role_at is_rich name attributes children) attributes content in
      subst (λ (b : Bool). Is (said_by (cond b (target id attributes) (Some kept))) inner) (sym l)
      (is-same (text_of_simple true false kept) (said_in content) inner
      (element-said id (role_at is_rich name attributes children) attributes content
      (λ v. e (role-void is_rich (role_of name) attributes children v))) i)

  rest-is : Is (said_by (cond (is_image name attributes) an-image as-embedded))
      (cond (is_image name attributes) alt embedded-text)
  rest-is =
      either-is (is_image name attributes) an-image as-embedded alt embedded-text
      (is-itself alt (value-good (codes "alt") attributes g))
      (either-is (is_among embedding_names name) (embed id attributes found) as-object (text_of_embedding found)
      object-text (embed-is id attributes found embedding-sound)
      (either-is (bytes_eq name (codes "object")) (object id attributes content found) by-role
      (text_of_object (are_blank content) inner found) inner
      (object-is id attributes content inner found embedding-sound i) content-is))

  by-name-is : Is (said_by (by_content is_rich around source id name attributes children content))
      (text_by_name name attributes children (are_blank content) inner)
  by-name-is =
      let hidden : is_hidden around name attributes ≡ is_among hidden_names name =
      right-false (is_among hidden_names name) (around.in_pre && is_number_in_code name attributes)
      (neither (around.in_pre && is_number_in_code name attributes)
      (around.in_numbered_row && is_number_cell name attributes) n).0 in
      let shows : Option Simple = cond (is_image name attributes) an-image as-embedded in
      let says : List ℕ = cond (is_image name attributes) alt embedded-text in
      subst (λ (b : Bool). Is (said_by (cond b None shows)) (cond (is_among hidden_names name) [] says)) (sym hidden)
      (either-is (is_among hidden_names name) None shows [] says is-nil rest-is)

-- what is emptied is void, where it is no cell of line numbers
emptied-is : (b : Bool) (ts : Simples) (s : List ℕ) → Is (said_in ts) s
    → Is (said_in (cond b none ts)) (cond b [] s)
emptied-is true ts s h = is-nil
emptied-is false ts s h = h

mutual
  unfolding shown

  node-is : (sight : Sight) (around : Surroundings) (source : Option (List ℕ)) (t : NumberedTree)
      → is_text_tree t ≡ true → is_whole sight around t ≡ true
      → Is (said_by (shown sight around source t)) (text_of_node sight around t)
  node-is sight around source (page.document id children) e w = is-nil
  node-is sight around source (page.doctype id) e w = is-nil
  node-is sight around source (page.text id s) e w =
      let u : IsUtf8 s = IsUtf8-from_is_utf8 s e in record { shows = shown-shows s u; utf8 = u }
  node-is sight around source (page.comment id s) e w = is-nil
  node-is sight around source (page.element id name attributes children) e w =
      let parts = both-true (list_all is_text_value attributes) (are_text_trees children) e in
      let content : Simples = content_shown sight around id name attributes children in
      let numbers : Bool = is_number around name attributes in
      let link : Bool = is_sign_link around name attributes content in
      let whole = both-true (not numbers && not link) (are_whole sight (inside name children around) None children) w in
      let free = both-true (not numbers) (not link) whole.0 in
      let no-number : numbers ≡ false = not-true numbers free.0 in
      let all : Simples =
      shown_all sight (inside name children around) (picture_source name children) None children in
      let said : List ℕ = text_of_nodes sight (inside name children around) children in
      let is_quoted : Bool = bytes_eq name (codes "q") in
      let body : Simples = marked is_quoted (raised (raised_by name) id all) in
      let below : Is (said_in all) said =
      nodes-are sight (inside name children around) (picture_source name children) None children parts.1 whole.1 in
      let kept : Is (said_in body) (in_marks is_quoted said) =
      is-same (said_in body) (in_marks is_quoted (said_in all)) (in_marks is_quoted said)
      (marked-is is_quoted (raised (raised_by name) id all)
      ∙ ap (in_marks is_quoted) (raised-is (raised_by name) id all))
      (marks-are is_quoted (said_in all) said below) in
      let emptied : is_emptied around name attributes ≡ is_void (role_of name) =
      right-false (is_void (role_of name)) (around.in_numbered_row && is_number_cell name attributes)
      (neither (around.in_pre && is_number_in_code name attributes)
      (around.in_numbered_row && is_number_cell name attributes) no-number).1 in
      let inner : List ℕ = cond (is_void (role_of name)) [] (in_marks is_quoted said) in
      let here : Is (said_in content) inner =
      subst (λ (b : Bool). Is (said_in (cond b none body)) inner) (sym emptied)
      (emptied-is (is_void (role_of name)) body (in_marks is_quoted said) kept) in
      either-is (is_skipped sight name) None
      (formula_or name attributes (by_content sight.is_rich around source id name attributes children content)
      (tex_of name attributes children)) []
      (formula_or_text (text_by_name name attributes children (are_blank content) inner)
      (tex_of name attributes children))
      is-nil
      (formula-is name attributes (by_content sight.is_rich around source id name attributes children content)
      (text_by_name name attributes children (are_blank content) inner) (tex_of name attributes children)
      (tex-good name attributes children parts.0 parts.1)
      (by-name-is sight.is_rich around source id name attributes children parts.0 parts.1 content inner
      (λ v. ap (λ b. cond b none body) (emptied ∙ v)) here no-number (not-true link free.1)))

  nodes-are : (sight : Sight) (around : Surroundings) (source : Option (List ℕ))
      (before : Option (List AttributePair)) (ts : NumberedForest) → are_text_trees ts ≡ true
      → are_whole sight around before ts ≡ true
      → Is (said_in (shown_all sight around source before ts)) (text_of_nodes sight around ts)
  nodes-are sight around source before page.none e w = is-nil
  nodes-are sight around source before (page.more t ts) e w =
      let parts = both-true (is_text_tree t) (are_text_trees ts) e in
      let repeat : Bool = is_repeat before t (leads_to_script sight.skip ts) in
      let whole = both-true (not repeat && is_whole sight around t)
      (are_whole sight around (last_element before t) ts) w in
      let one = both-true (not repeat) (is_whole sight around t) whole.0 in
      let tree : Option Simple = shown sight around (source_for source t) t in
      let rest : Simples = shown_all sight around (source_after source t) (last_element before t) ts in
      is-same (said_in (with_one (cond repeat None tree) rest)) (said_by tree ++ said_in rest)
      (text_of_node sight around t ++ text_of_nodes sight around ts)
      (with-one-is (cond repeat None tree) rest
      ∙ ap (λ b. said_by (cond b None tree) ++ said_in rest) (not-true repeat one.0))
      (is-append (said_by tree) (said_in rest) (text_of_node sight around t) (text_of_nodes sight around ts)
      (node-is sight around (source_for source t) t parts.0 one.1)
      (nodes-are sight around (source_after source t) (last_element before t) ts parts.1 whole.1))

pub shows_all : ShowsAll
shows_all sight (page.document id children) e w = (nodes-are sight nowhere None None children e w).shows.is
shows_all sight (page.doctype id) e w = refl
shows_all sight (page.text id s) e w = refl
shows_all sight (page.comment id s) e w = refl
shows_all sight (page.element id name attributes children) e w = refl
