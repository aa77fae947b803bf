-- The pieces of a tree: those that stand in the page are its texts, and those that stand in the document what it says.
use Rattle.std.proofs.Common.{◌≡◌, ◌∙◌, ℕ, ◌+◌, Bool, true, false, cond, not, ◌&&◌, ◌||◌, List, [], ◌∷◌, ◌++◌, filter}
use Rattle.std.proofs.Common.{refl, sym, ap, append_assoc, arith, Option, Some, None}
use Rattle.std.specs.Prelude.{codes, IsUtf8}
use Rattle.std.specs.List.{list_all}
use Rattle.std.specs.Str.{bytes_eq}
use Rattle.std.proofs.lemmas.List.{append-nil}
use Rattle.std.proofs.lemmas.List.Elements.{filter-append}
use Rattle.std.proofs.lemmas.List.Sums.{sum_by-cons}
use Rattle.std.proofs.lemmas.Str.{IsUtf8-from_is_utf8}
use Rattle.htmd_lexical.specs.Characters.{quotation_mark}
use Rattle.htmd_lexical.specs.AttributePairs.{AttributePair}
use Rattle.htmd_nodes.specs.NumberedTrees.{NumberedTree, document, doctype, text, comment, element, NumberedForest}
use Rattle.htmd_nodes.specs.NumberedTrees.{none, more}
use Rattle.htmd_law_html5.specs.PageLetters.{occurrences, occurrences_in}
use Rattle.htmd_flow.specs.Flows.{is_grid_of}
use Rattle.htmd_shown.specs.AllTexts.{dollar_sign}
use Rattle.htmd_shown.specs.Attributes.{text_of}
use Rattle.htmd_shown.specs.Embeds.{Embedding, embedded_address, embedding_of, embedding_names}
use Rattle.htmd_shown.specs.Facts.{made}
use Rattle.htmd_shown.specs.Formulas.{tex_of, is_display}
use Rattle.htmd_shown.specs.Images.{is_image, image_address, picture_source}
use Rattle.htmd_shown.specs.Kinds.{are_blank}
use Rattle.htmd_shown.specs.LineNumbers.{is_number_cell}
use Rattle.htmd_shown.specs.Repeats.{is_repeat, last_element, leads_to_script}
use Rattle.htmd_shown.specs.Roles.{is_among, is_void, role_of}
use Rattle.htmd_shown.specs.Shown.{Sight, Surroundings, nowhere, inside, role_at, raised_by, raised, with_one, marked}
use Rattle.htmd_shown.specs.Shown.{is_led_to, target, with_content, embed, object, is_skipped, is_hidden, is_emptied}
use Rattle.htmd_shown.specs.Shown.{by_content, formula_or, source_for, source_after, shown, shown_all, shown_in}
use Rattle.htmd_shown.specs.ShownTexts.{shown_text}
use Rattle.htmd_shown.specs.SimpleTrees.{Simple, Simples}
use Rattle.htmd_shown.specs.SimpleTrees as simple
use Rattle.htmd_shown.specs.declared.role.Role.TheVariants as role
use Rattle.htmd_law_documents.specs.DocumentTexts.{visible}
use Rattle.htmd_law_documents.specs.PageTexts.{content_shown, in_marks, is_sign_link}
use Rattle.htmd_law_documents.specs.SaidTexts.{SaysUnless, Says, SayAll}
use Rattle.htmd_law_documents.specs.SimpleForms.{IsSound, AreSound}
use Rattle.htmd_law_documents.specs.SimpleTexts.{formula_said, flat_in, grid_in, text_of_simple, text_of_simples}
use Rattle.htmd_law_documents.specs.TreeForms.{is_text_value, is_text_tree, are_text_trees}
use Rattle.htmd_law_documents.proofs.ElementLemmas.{dollars-show, said-utf8, simple-utf8}
use Rattle.htmd_law_documents.proofs.NormalTextLemmas.{and-false}
use Rattle.htmd_law_documents.proofs.PageTextLemmas.{said_by, said_in, with-one-is, marked-is, raised-is, element-said}
use Rattle.htmd_law_documents.proofs.PageTextLemmas.{element-free, grids-free, mark-is}
use Rattle.htmd_law_documents.proofs.ShownTreeLemmas.{IsGood, value-good, tex-good, embedded-good, Sound, role-void}
use Rattle.htmd_law_documents.proofs.ShownTreeLemmas.{embed-sound}
use Rattle.htmd_law_documents.proofs.VisibleLemmas.{Shows, shows-nil, shows-itself, shows-append, seen-same, text-same}
use Rattle.htmd_law_documents.proofs.VisibleLemmas.{shown-shows, visible-append, both-true}
use Rattle.htmd_law_pages.specs.PageTexts.{is_no_dollar, visible_in, PiecesShow}
use Rattle.htmd_law_pages.specs.Pieces.{Piece, shown as a_shown, hidden, said, texts_in, texts_among, all_hidden}
use Rattle.htmd_law_pages.specs.Pieces.{in_quotation_marks, instead, pieces_of_embedding, pieces_of_object}
use Rattle.htmd_law_pages.specs.Pieces.{pieces_by_name, pieces_of_formula, pieces, pieces_among, pieces_in}
use Rattle.htmd_law_pages.specs.Pieces.{texts_of_page, texts_of_document, hidden_texts, said_texts}

-- ---- what stands in the page

page_append : (ps qs : List Piece) → texts_of_page (ps ++ qs) ≡ texts_of_page ps ++ texts_of_page qs
page_append [] qs = refl
page_append (a_shown s ∷ ps) qs = ap (λ (x : List (List ℕ)). s ∷ x) (page_append ps qs)
page_append (hidden s ∷ ps) qs = ap (λ (x : List (List ℕ)). s ∷ x) (page_append ps qs)
page_append (said s ∷ ps) qs = page_append ps qs

page_hidden : (texts : List (List ℕ)) → texts_of_page (all_hidden texts) ≡ texts
page_hidden [] = refl
page_hidden (s ∷ texts) = ap (λ (x : List (List ℕ)). s ∷ x) (page_hidden texts)

-- these pieces stand in the page as these texts
abbrev Stands : List Piece → List (List ℕ) → Type 0
Stands ps texts = texts_of_page ps ≡ texts

either_stands : (b : Bool) (ps qs : List Piece) (texts : List (List ℕ)) → Stands ps texts → Stands qs texts
    → Stands (cond b ps qs) texts
either_stands true ps qs texts g h = g
either_stands false ps qs texts g h = h

quoted_stands : (b : Bool) (ps : List Piece) (texts : List (List ℕ)) → Stands ps texts
    → Stands (in_quotation_marks b ps) texts
quoted_stands true ps texts e =
    page_append (said (quotation_mark ∷ []) ∷ ps) (said (quotation_mark ∷ []) ∷ [])
    ∙ (append-nil (texts_of_page ps) ∙ e)
quoted_stands false ps texts e = e

embedding_stands : (texts : List (List ℕ)) (o : Option Embedding) → Stands (pieces_of_embedding texts o) texts
embedding_stands texts None = page_hidden texts
embedding_stands texts (Some found) = page_hidden texts

object_stands : (b : Bool) (texts : List (List ℕ)) (inner : List Piece) (o : Option Embedding) → Stands inner texts
    → Stands (pieces_of_object b texts inner o) texts
object_stands b texts inner None e = e
object_stands b texts inner (Some found) e =
    either_stands b (instead found.title texts) inner texts (page_hidden texts) e

formula_stands : (texts : List (List ℕ)) (ps : List Piece) (o : Option (List ℕ)) → Stands ps texts
    → Stands (pieces_of_formula texts ps o) texts
formula_stands texts ps None e = e
formula_stands texts ps (Some tex) e = page_hidden texts

name_stands : (around : Surroundings) (name : List ℕ) (attributes : List AttributePair) (children : NumberedForest)
    (content : Simples) (inner : List Piece) → Stands inner (texts_among children)
    → Stands (pieces_by_name around name attributes children content inner) (texts_among children)
name_stands around name attributes children content inner e =
    let texts : List (List ℕ) = texts_among children in
    let found : Option Embedding = embedding_of name attributes children in
    either_stands (is_hidden around name attributes) (all_hidden texts) _ texts (page_hidden texts)
    (either_stands (is_image name attributes) (instead (text_of (codes "alt") attributes) texts) _ texts
    (page_hidden texts)
    (either_stands (is_among embedding_names name) (pieces_of_embedding texts found) _ texts
    (embedding_stands texts found)
    (either_stands (bytes_eq name (codes "object")) (pieces_of_object (are_blank content) texts inner found) _ texts
    (object_stands (are_blank content) texts inner found e)
    (either_stands (is_sign_link around name attributes content) (all_hidden texts) inner texts (page_hidden texts)
    e))))

module _ (sight : Sight) where
  mutual
    -- all texts of the tree
    node_stands : (around : Surroundings) (t : NumberedTree) → Stands (pieces sight around t) (texts_in t)
    node_stands around (document id children) = page_hidden (texts_among children)
    node_stands around (doctype id) = refl
    node_stands around (text id s) = refl
    node_stands around (comment id s) = refl
    node_stands around (element id name attributes children) =
        let texts : List (List ℕ) = texts_among children in
        let below : List Piece = pieces_among sight (inside name children around) None children in
        let inner : List Piece =
        cond (is_emptied around name attributes) (all_hidden texts)
        (in_quotation_marks (bytes_eq name (codes "q")) below) in
        let content : Simples = content_shown sight around id name attributes children in
        let by_name : List Piece = pieces_by_name around name attributes children content inner in
        either_stands (is_skipped sight name) (all_hidden texts)
        (pieces_of_formula texts by_name (tex_of name attributes children)) texts (page_hidden texts)
        (formula_stands texts by_name (tex_of name attributes children)
        (name_stands around name attributes children content inner
        (either_stands (is_emptied around name attributes) (all_hidden texts)
        (in_quotation_marks (bytes_eq name (codes "q")) below) texts (page_hidden texts)
        (quoted_stands (bytes_eq name (codes "q")) below texts
        (nodes_stand (inside name children around) None children)))))

    nodes_stand : (around : Surroundings) (before : Option (List AttributePair)) (ts : NumberedForest)
        → Stands (pieces_among sight around before ts) (texts_among ts)
    nodes_stand around before none = refl
    nodes_stand around before (more t ts) =
        let repeat : Bool = is_repeat before t (leads_to_script sight.skip ts) in
        let front : List Piece = cond repeat (all_hidden (texts_in t)) (pieces sight around t) in
        let rest : List Piece = pieces_among sight around (last_element before t) ts in
        page_append front rest
        ∙ (ap (λ (x : List (List ℕ)). x ++ texts_of_page rest)
        (either_stands repeat (all_hidden (texts_in t)) (pieces sight around t) (texts_in t) (page_hidden (texts_in t))
        (node_stands around t))
        ∙ ap (λ (x : List (List ℕ)). texts_in t ++ x) (nodes_stand around (last_element before t) ts))

  -- all texts of a page
  pub pieces_in_page : (t : NumberedTree) → Stands (pieces_in sight t) (texts_in t)
  pieces_in_page (document id children) = nodes_stand nowhere None children
  pieces_in_page (doctype id) = refl
  pieces_in_page (text id s) = refl
  pieces_in_page (comment id s) = refl
  pieces_in_page (element id name attributes children) = page_hidden (texts_among children)

-- ---- what stands in the document

document_append : (ps qs : List Piece) → texts_of_document (ps ++ qs)
    ≡ texts_of_document ps ++ texts_of_document qs
document_append [] qs = refl
document_append (a_shown s ∷ ps) qs = ap (λ (x : List (List ℕ)). s ∷ x) (document_append ps qs)
document_append (hidden s ∷ ps) qs = document_append ps qs
document_append (said s ∷ ps) qs = ap (λ (x : List (List ℕ)). s ∷ x) (document_append ps qs)

document_hidden : (texts : List (List ℕ)) → texts_of_document (all_hidden texts) ≡ []
document_hidden [] = refl
document_hidden (s ∷ texts) = document_hidden texts

visible_append : (a b : List (List ℕ)) → visible_in (a ++ b) ≡ visible_in a ++ visible_in b
visible_append [] b = refl
visible_append (s ∷ a) b =
    ap (λ (x : List ℕ). visible s ++ x) (visible_append a b)
    ∙ sym (append_assoc (visible s) (visible_in a) (visible_in b))

-- a text whose visible characters are those of these pieces
abbrev Reads : List ℕ → List Piece → Type 0
Reads s ps = Shows s (visible_in (texts_of_document ps))

reads_hidden : (texts : List (List ℕ)) → Reads [] (all_hidden texts)
reads_hidden texts =
    seen-same [] [] (visible_in (texts_of_document (all_hidden texts))) (ap visible_in (sym (document_hidden texts)))
    shows-nil

reads_one : (s t : List ℕ) → Shows s (visible t) → Shows s (visible_in (t ∷ []))
reads_one s t h = seen-same s (visible t) (visible_in (t ∷ [])) (sym (append-nil (visible t))) h

reads_instead : (s : List ℕ) (texts : List (List ℕ)) → IsUtf8 s → Reads s (instead s texts)
reads_instead s texts u =
    seen-same s (visible_in (s ∷ [])) (visible_in (texts_of_document (instead s texts)))
    (ap (λ (x : List (List ℕ)). visible s ++ visible_in x) (sym (document_hidden texts)))
    (reads_one s s (shows-itself s u))

reads_append : (s t : List ℕ) (ps qs : List Piece) → Reads s ps → Reads t qs → Reads (s ++ t) (ps ++ qs)
reads_append s t ps qs g h =
    let a : List (List ℕ) = texts_of_document ps in
    let b : List (List ℕ) = texts_of_document qs in
    seen-same (s ++ t) (visible_in a ++ visible_in b) (visible_in (texts_of_document (ps ++ qs)))
    (sym (visible_append a b) ∙ ap visible_in (sym (document_append ps qs)))
    (shows-append s t (visible_in a) (visible_in b) g h)

either_reads : (b : Bool) (x y : Option Simple) (ps qs : List Piece) → Reads (said_by x) ps → Reads (said_by y) qs
    → Reads (said_by (cond b x y)) (cond b ps qs)
either_reads true x y ps qs g h = g
either_reads false x y ps qs g h = h

-- ---- elements

mark_reads : Reads (quotation_mark ∷ []) (said (quotation_mark ∷ []) ∷ [])
mark_reads = reads_one (quotation_mark ∷ []) (quotation_mark ∷ []) mark-is.shows

quoted_reads : (b : Bool) (s : List ℕ) (ps : List Piece) → Reads s ps
    → Reads (in_marks b s) (in_quotation_marks b ps)
quoted_reads true s ps h =
    let mark : List ℕ = quotation_mark ∷ [] in
    reads_append (mark ++ s) mark (said mark ∷ ps) (said mark ∷ [])
    (reads_append mark s (said mark ∷ []) ps mark_reads h) mark_reads
quoted_reads false s ps h = h

formula_reads : (name : List ℕ) (attributes : List AttributePair) (other : Option Simple) (texts : List (List ℕ))
    (ps : List Piece) (o : Option (List ℕ)) → IsGood o → Reads (said_by other) ps
    → Reads (said_by (formula_or name attributes other o)) (pieces_of_formula texts ps o)
formula_reads name attributes other texts ps None g h = h
formula_reads name attributes other texts ps (Some tex) g h =
    let pieces : List Piece = instead (formula_said false tex) texts in
    text-same (formula_said (is_display name attributes && false) tex) (formula_said false tex)
    (visible_in (texts_of_document pieces))
    (ap (λ b. formula_said b tex) (and-false (is_display name attributes) refl))
    (reads_instead (formula_said false tex) texts (said-utf8 false tex (g.is tex refl)))

embed_reads : (id : ℕ) (attributes : List AttributePair) (texts : List (List ℕ)) (o : Option Embedding)
    → Sound (embed id attributes o) → Reads (said_by (embed id attributes o)) (pieces_of_embedding texts o)
embed_reads id attributes texts None h = reads_hidden texts
embed_reads id attributes texts (Some found) h = reads_instead found.title texts (h.is _ refl)

object_reads : (id : ℕ) (attributes : List AttributePair) (content : Simples) (texts : List (List ℕ))
    (inner : List Piece) (o : Option Embedding) → Sound (embed id attributes o) → Reads (said_in content) inner
    → Reads (said_by (object id attributes content o)) (pieces_of_object (are_blank content) texts inner o)
object_reads id attributes content texts inner None h k = either (are_blank content)
  where
    plain : Option Simple
    plain = Some (made id role.Plain attributes content)

    either : (b : Bool) → Reads (said_by (cond b plain plain)) inner
    either true = k
    either false = k
object_reads id attributes content texts inner (Some found) h k =
    either_reads (are_blank content) (embed id attributes (Some found)) (Some (made id role.Plain attributes content))
    (instead found.title texts) inner (embed_reads id attributes texts (Some found) h) k

-- what stays of a permalink says nothing
target_reads : (id : ℕ) (attributes : List AttributePair) (texts : List (List ℕ))
    → Reads (said_by (target id attributes)) (all_hidden texts)
target_reads id attributes texts = either (is_led_to attributes)
  where
    either : (b : Bool) → Reads (said_by (cond b (Some (made id role.Target attributes simple.none)) None))
        (all_hidden texts)
    either true = reads_hidden texts
    either false = reads_hidden texts

module _ (is_rich : Bool) (around : Surroundings) (source : Option (List ℕ)) (id : ℕ) (name : List ℕ)
    (attributes : List AttributePair)
    (children : NumberedForest) (g : list_all is_text_value attributes ≡ true) (h : are_text_trees children ≡ true)
    (content : Simples) (inner : List Piece) (e : is_void (role_of name) ≡ true → content ≡ simple.none)
    (i : Reads (said_in content) inner) where
  abbrev texts : List (List ℕ)
  texts = texts_among children

  abbrev found : Option Embedding
  found = embedding_of name attributes children

  embedding_sound : Sound (embed id attributes found)
  embedding_sound =
      embed-sound id attributes (embedded_address name attributes children) g
      (embedded-good name attributes children g h)

  -- the rules in their order, each with its pieces
  abbrev kept : Simple
  kept = made id (role_at is_rich name attributes children) attributes content

  abbrev by_role : Option Simple
  by_role = with_content is_rich around.in_head id name attributes children content

  abbrev link_pieces : List Piece
  link_pieces = cond (is_sign_link around name attributes content) (all_hidden texts) inner

  abbrev as_object : Option Simple
  as_object = cond (bytes_eq name (codes "object")) (object id attributes content found) by_role

  abbrev object_pieces : List Piece
  object_pieces =
      cond (bytes_eq name (codes "object")) (pieces_of_object (are_blank content) texts inner found) link_pieces

  abbrev as_embedded : Option Simple
  as_embedded = cond (is_among embedding_names name) (embed id attributes found) as_object

  abbrev embedded_pieces : List Piece
  embedded_pieces = cond (is_among embedding_names name) (pieces_of_embedding texts found) object_pieces

  abbrev an_image : Option Simple
  an_image = Some (simple.image (image_address attributes source) attributes)

  abbrev alt : List ℕ
  alt = text_of (codes "alt") attributes

  kept_reads : Reads (said_by (Some kept)) inner
  kept_reads =
      text-same (text_of_simple true false kept) (said_in content) (visible_in (texts_of_document inner))
      (element-said id (role_at is_rich name attributes children) attributes content
      (λ v. e (role-void is_rich (role_of name) attributes children v))) i

  name_reads : Reads (said_by (by_content is_rich around source id name attributes children content))
      (pieces_by_name around name attributes children content inner)
  name_reads =
      either_reads (is_hidden around name attributes) None (cond (is_image name attributes) an_image as_embedded)
      (all_hidden texts) (cond (is_image name attributes) (instead alt texts) embedded_pieces) (reads_hidden texts)
      (either_reads (is_image name attributes) an_image as_embedded (instead alt texts) embedded_pieces
      (reads_instead alt texts (value-good (codes "alt") attributes g))
      (either_reads (is_among embedding_names name) (embed id attributes found) as_object
      (pieces_of_embedding texts found) object_pieces (embed_reads id attributes texts found embedding_sound)
      (either_reads (bytes_eq name (codes "object")) (object id attributes content found) by_role
      (pieces_of_object (are_blank content) texts inner found) link_pieces
      (object_reads id attributes content texts inner found embedding_sound i)
      (either_reads (is_sign_link around name attributes content) (target id attributes) (Some kept) (all_hidden texts)
      inner (target_reads id attributes texts) kept_reads))))

emptied_reads : (b : Bool) (ts : Simples) (others : List (List ℕ)) (ps : List Piece) → Reads (said_in ts) ps
    → Reads (said_in (cond b simple.none ts)) (cond b (all_hidden others) ps)
emptied_reads true ts others ps h = reads_hidden others
emptied_reads false ts others ps h = h

-- ---- nodes

mutual
  unfolding shown

  node_reads : (sight : Sight) (around : Surroundings) (source : Option (List ℕ)) (t : NumberedTree)
      → is_text_tree t ≡ true → Reads (said_by (shown sight around source t)) (pieces sight around t)
  node_reads sight around source (document id children) e = reads_hidden (texts_among children)
  node_reads sight around source (doctype id) e = shows-nil
  node_reads sight around source (text id s) e =
      reads_one (shown_text s) s (shown-shows s (IsUtf8-from_is_utf8 s e))
  node_reads sight around source (comment id s) e = shows-nil
  node_reads sight around source (element id name attributes children) e =
      let parts = both-true (list_all is_text_value attributes) (are_text_trees children) e in
      let texts : List (List ℕ) = texts_among children in
      let is_quoted : Bool = bytes_eq name (codes "q") in
      let all : Simples =
      shown_all sight (inside name children around) (picture_source name children) None children in
      let below : List Piece = pieces_among sight (inside name children around) None children in
      let body : Simples = marked is_quoted (raised (raised_by name) id all) in
      let content : Simples = content_shown sight around id name attributes children in
      let inner : List Piece =
      cond (is_emptied around name attributes) (all_hidden texts) (in_quotation_marks is_quoted below) in
      let whole : Reads (said_in body) (in_quotation_marks is_quoted below) =
      text-same (said_in body) (in_marks is_quoted (said_in all))
      (visible_in (texts_of_document (in_quotation_marks is_quoted below)))
      (marked-is is_quoted (raised (raised_by name) id all)
      ∙ ap (in_marks is_quoted) (raised-is (raised_by name) id all))
      (quoted_reads is_quoted (said_in all) below
      (nodes_read sight (inside name children around) (picture_source name children) None children parts.1)) in
      let by_name : List Piece = pieces_by_name around name attributes children content inner in
      either_reads (is_skipped sight name) None
      (formula_or name attributes (by_content sight.is_rich around source id name attributes children content)
      (tex_of name attributes children)) (all_hidden texts)
      (pieces_of_formula texts by_name (tex_of name attributes children)) (reads_hidden texts)
      (formula_reads name attributes (by_content sight.is_rich around source id name attributes children content) texts
      by_name
      (tex_of name attributes children) (tex-good name attributes children parts.0 parts.1)
      (name_reads sight.is_rich around source id name attributes children parts.0 parts.1 content inner
      (λ v. ap (λ b. cond b simple.none body)
      (ap (λ b. b || (around.in_numbered_row && is_number_cell name attributes)) v))
      (emptied_reads (is_emptied around name attributes) body texts (in_quotation_marks is_quoted below) whole)))

  nodes_read : (sight : Sight) (around : Surroundings) (source : Option (List ℕ))
      (before : Option (List AttributePair)) (ts : NumberedForest) → are_text_trees ts ≡ true
      → Reads (said_in (shown_all sight around source before ts)) (pieces_among sight around before ts)
  nodes_read sight around source before none e = shows-nil
  nodes_read sight around source before (more t ts) e =
      let parts = both-true (is_text_tree t) (are_text_trees ts) e in
      let repeat : Bool = is_repeat before t (leads_to_script sight.skip ts) in
      let tree : Option Simple = shown sight around (source_for source t) t in
      let rest : Simples = shown_all sight around (source_after source t) (last_element before t) ts in
      let front : List Piece = cond repeat (all_hidden (texts_in t)) (pieces sight around t) in
      let later : List Piece = pieces_among sight around (last_element before t) ts in
      text-same (said_in (with_one (cond repeat None tree) rest)) (said_by (cond repeat None tree) ++ said_in rest)
      (visible_in (texts_of_document (front ++ later))) (with-one-is (cond repeat None tree) rest)
      (reads_append (said_by (cond repeat None tree)) (said_in rest) front later
      (either_reads repeat None tree (all_hidden (texts_in t)) (pieces sight around t) (reads_hidden (texts_in t))
      (node_reads sight around (source_for source t) t parts.0))
      (nodes_read sight around (source_after source t) (last_element before t) ts parts.1))

-- all that shows of a page
pub page_reads : (sight : Sight) (t : NumberedTree) → is_text_tree t ≡ true
    → visible (said_in (shown_in sight t)) ≡ visible_in (texts_of_document (pieces_in sight t))
page_reads sight (document id children) e = (nodes_read sight nowhere None None children e).is
page_reads sight (doctype id) e = shows-nil.is
page_reads sight (text id s) e = (reads_hidden (s ∷ [])).is
page_reads sight (comment id s) e = shows-nil.is
page_reads sight (element id name attributes children) e = (reads_hidden (texts_among children)).is

pub pieces_show : PiecesShow
pieces_show sight t e = record { all = pieces_in_page sight t; show = page_reads sight t e }

-- ---- formulas alone and in a line

abbrev pub undollared : List ℕ → List ℕ
undollared cs = filter is_no_dollar cs

-- these characters but dollar signs
abbrev Same : List ℕ → List ℕ → Type 0
Same cs s = undollared cs ≡ undollared (visible s)

formula_same : (b : Bool) (tex : List ℕ) → IsUtf8 tex → undollared (visible (formula_said b tex))
    ≡ undollared (visible (formula_said false tex))
formula_same true tex u =
    let both = (dollars-show tex (visible tex) (shows-itself tex u)).is in
    sym (append-nil (undollared (visible tex)))
    ∙ (sym (filter-append is_no_dollar (visible tex) (dollar_sign ∷ [])) ∙ ap undollared (sym both))
formula_same false tex u = refl

mutual
  say_same : (t : Simple) (flat g : Bool) (cs : List ℕ) → IsSound t → Says flat g t cs
      → Same cs (text_of_simple true false t)
  say_same (simple.text s) flat g cs u h = ap undollared h
  say_same (simple.image address attributes) flat g cs u h = ap undollared h
  say_same (simple.formula tex is_alone attributes) flat g cs u h =
      ap undollared h ∙ (formula_same (is_alone && not flat) tex u
      ∙ ap (λ b. undollared (visible (formula_said b tex))) (sym (and-false is_alone refl)))
  say_same (simple.embedded id address title attributes anchors) flat g cs u h = ap undollared h
  say_same (simple.anchor id) flat g cs u h = ap undollared (h ∙ sym shows-nil.is)
  say_same (simple.element id r facts attributes content) flat g cs u h =
      let one : text_of_simples (flat_in r true false) (grid_in r (is_grid_of content) false) content
      ≡ said_in content =
      element-free r content false (is_grid_of content) (λ k l. grids-free content k l) in
      either (is_void r) (text_of_simples (flat_in r true false) (grid_in r (is_grid_of content) false) content) h.1
      (λ k. all_same content (flat_in r flat g) (grid_in r h.0 g) cs u.1 k
      ∙ ap (λ s. undollared (visible s)) (sym one))
    where
      either : (b : Bool) (s : List ℕ) {Other : Type 0} → SaysUnless b cs Other → (Other → Same cs s)
          → Same cs (cond b [] s)
      either true s k f = ap undollared (k ∙ sym shows-nil.is)
      either false s k f = f k

  pub all_same : (ts : Simples) (flat g : Bool) (cs : List ℕ) → AreSound ts → SayAll flat g ts cs
      → Same cs (said_in ts)
  all_same simple.none flat g cs u h = ap undollared (h ∙ sym shows-nil.is)
  all_same (simple.more t ts) flat g cs u (front, rest, e, one, others) =
      let s : List ℕ = text_of_simple true false t in
      ap undollared e
      ∙ (filter-append is_no_dollar front rest
      ∙ (ap (λ (x : List ℕ). x ++ undollared rest) (say_same t flat g front u.0 one)
      ∙ (ap (λ (x : List ℕ). undollared (visible s) ++ x) (all_same ts flat g rest u.1 others)
      ∙ (sym (filter-append is_no_dollar (visible s) (visible (said_in ts)))
      ∙ ap undollared (sym (visible-append s (said_in ts) (simple-utf8 t u.0 true false)))))))

-- ---- the two against each other

pub counted_pieces : (c : ℕ) (ps : List Piece)
    → occurrences_in c (texts_of_document ps) + occurrences_in c (hidden_texts ps)
    ≡ occurrences_in c (texts_of_page ps) + occurrences_in c (said_texts ps)
counted_pieces c [] = refl
counted_pieces c (a_shown s ∷ ps) =
    let a = sum_by-cons (occurrences c) s (texts_of_document ps) in
    let b = sum_by-cons (occurrences c) s (texts_of_page ps) in
    let d = counted_pieces c ps in
    omega arith
counted_pieces c (hidden s ∷ ps) =
    let a = sum_by-cons (occurrences c) s (hidden_texts ps) in
    let b = sum_by-cons (occurrences c) s (texts_of_page ps) in
    let d = counted_pieces c ps in
    omega arith
counted_pieces c (said s ∷ ps) =
    let a = sum_by-cons (occurrences c) s (texts_of_document ps) in
    let b = sum_by-cons (occurrences c) s (said_texts ps) in
    let d = counted_pieces c ps in
    omega arith
