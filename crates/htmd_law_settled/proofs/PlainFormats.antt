-- The document of a page that isn't rich has only formats that each page shows, and no elements; those of a rich page
-- show on a rich page.
use Rattle.std.proofs.Common.{◌≡◌, ℕ, suc, Bool, true, false, ◌&&◌, List, [], ◌∷◌, refl, sym, ◌∙◌, Option, Some, None}
use Rattle.std.specs.List.{list_all}
use Rattle.std.specs.Str.{chars}
use Rattle.std.proofs.lemmas.Bool.{and_from, and_parts, false≢true}
use Rattle.htmd_lexical.specs.AttributePairs.{AttributePair}
use Rattle.htmd_nodes.specs.NumberedTrees.{NumberedTree}
use Rattle.htmd_document.specs.declared.document.Format as declared_format
use Rattle.htmd_document.specs.declared.document.Format.TheVariants as declared
use Rattle.htmd_document.specs.declared.document.InlineElement.TheVariants as written
use Rattle.htmd_document.specs.Formats.{Format, Emphasis, Strong, Deleted, Superscript, Subscript, Inserted, Underlined}
use Rattle.htmd_document.specs.Formats.{Marked, Small, Keyboard, Abbreviation, of_format}
use Rattle.htmd_document.specs.Documents.{Inline, text, code, formatted, link, image, anchor, line_break, task}
use Rattle.htmd_document.specs.Documents.{Inlines, no_inlines, inline, Block, paragraph, heading, code_block, quote}
use Rattle.htmd_document.specs.Documents.{thematic_break, list, table, element, tags, Blocks, no_blocks, block}
use Rattle.htmd_document.specs.Documents.{Items, no_items, item}
use Rattle.htmd_shown.specs.declared.role.Role.{Role}
use Rattle.htmd_shown.specs.declared.role.Role.TheVariants as role
use Rattle.htmd_shown.specs.AllTexts.{lines_of, with_line_feeds, all_text_among}
use Rattle.htmd_shown.specs.Attributes.{title_of, description_of, in_line}
use Rattle.htmd_shown.specs.Roles.{is_abbreviation}
use Rattle.htmd_shown.specs.Shown.{Sight}
use Rattle.htmd_shown.specs.SimpleTrees.{Simple, Simples, none, more}
use Rattle.htmd_shown.specs.SimpleTrees as simple
use Rattle.htmd_document_of_tree.specs.declared.anchors.Anchors.{Anchors}
use Rattle.htmd_document_of_tree.specs.TreeDocuments.{document_of_tree}
use Rattle.htmd_law_documents.specs.TreeForms.{is_text_tree}
use Rattle.htmd_law_documents.specs.WrapperLaws.{final_trees}
use Rattle.htmd_law_returning.specs.PageFormats.{format_shows, inline_shows, line_shows, block_shows, formats_show}
use Rattle.htmd_law_returning.specs.LastingAnchors.{heading_keeps}
use Rattle.htmd_law_returning.specs.PageFormats.{items_show}
use Rattle.htmd_law_returning.specs.SettledDocuments.{is_right_list}
use Rattle.htmd_law_settled.specs.Leaves.{Leaves, is_inline_of, is_line_of, is_whole_line_of, are_cells_of}
use Rattle.htmd_law_settled.specs.Leaves.{is_block_of, are_blocks_of, are_items_of}
use Rattle.htmd_law_settled.specs.NeatLeaves.{neat, is_neat_line, is_neat_element, NoBlockIsElement}
use Rattle.htmd_law_settled.proofs.LeafHolds.{blocks-plain}
use Rattle.htmd_law_settled.proofs.LeafLines.{AllCharacters, HasInline, HasLine, HaveCells, HaveRows, HasBlock}
use Rattle.htmd_law_settled.proofs.LeafLines.{HaveBlocks}
use Rattle.htmd_law_settled.proofs.LeafLines.{HaveItems}
use Rattle.htmd_law_settled.proofs.LeafElements.{HasTitle, HasElement, HasLines, HasImage, HasTree, HaveTrees}
use Rattle.htmd_law_settled.proofs.NeatPages.{leaves, trees-neat, document-has}
use Rattle.htmd_law_settled.proofs.PlainRoles.{is_plain_role, IsPlain, ArePlain, trees-plain}

-- only formats count
abbrev plain : Leaves
plain = record {
  character = λ c. true;
  format = format_shows false;
  link = λ address title. true;
  image = λ address title description. true;
  code = λ language s. true;
  line = λ xs. true;
  heading = λ xs. true;
  list = λ is_tight items. true;
  table = λ header rows. true;
  element = λ name attributes content. false;
}

-- ---- trees

characters-plain : (cs : List ℕ) → AllCharacters leaves cs → AllCharacters plain cs
characters-plain [] h = tt
characters-plain (c ∷ cs) h = (h.0, refl, characters-plain cs h.2)

lines-plain : (lines : List (List ℕ)) → HasLines leaves lines → HasLines plain lines
lines-plain [] h = tt
lines-plain (s ∷ lines) h = (characters-plain (chars s) h.0, lines-plain lines h.1)

image-plain : (o : Option (List ℕ)) (attributes : List AttributePair) → HasImage leaves o attributes
    → HasImage plain o attributes
image-plain None attributes h = characters-plain (chars (description_of attributes)) h
image-plain (Some s) attributes h = refl

no-title : (r : Role) (o : Option (List ℕ)) → is_plain_role r ≡ true → is_abbreviation r ≡ true
    → HasTitle plain o
no-title role.Abbreviation o h e = absurd (false≢true h)
no-title r o h e = absurd (false≢true e)

element-plain : (r : Role) → is_plain_role r ≡ true → HasElement plain r
element-plain (role.Element written.Superscript) h = refl
element-plain (role.Element written.Subscript) h = refl
element-plain (role.Element written.Inserted) h = h
element-plain (role.Element written.Underlined) h = h
element-plain (role.Element written.Marked) h = h
element-plain (role.Element written.Small) h = h
element-plain (role.Element written.Keyboard) h = h
element-plain r h = tt

mutual
  tree-plain : (t : Simple) → HasTree leaves t → IsPlain t → HasTree plain t
  tree-plain (simple.text s) h p = characters-plain (chars s) h
  tree-plain (simple.image o attributes) h p = image-plain o attributes h
  tree-plain (simple.formula tex is_alone attributes) h p = (characters-plain (chars (in_line tex)) h.0, refl)
  tree-plain (simple.embedded id s title attributes ids) h p = (refl, characters-plain (chars title) h.1)
  tree-plain (simple.anchor id) h p = tt
  tree-plain (simple.element id r facts attributes content) h p = (
    record {
      link = λ e. refl;
      title = λ e. no-title r (title_of attributes) p.0 e;
      element = element-plain r p.0;
    },
    record {
      lines = lines-plain (lines_of (with_line_feeds (all_text_among content))) h.1.lines;
      block = λ near e. refl;
      blank = h.1.blank;
    },
    trees-plain-too content h.2 p.1,
    h.3,
    h.4,
    λ e c f. refl,
    h.6,
    h.7,
  )

  trees-plain-too : (ts : Simples) → HaveTrees leaves ts → ArePlain ts → HaveTrees plain ts
  trees-plain-too none h p = tt
  trees-plain-too (more t ts) h p = (tree-plain t h.0 p.0, trees-plain-too ts h.1 p.1)

format-plain : (g : declared_format.Format) → format_shows false (of_format g) ≡ true
format-plain declared.Emphasis = refl
format-plain declared.Strong = refl
format-plain declared.Deleted = refl

-- ---- documents

module _ (is_rich : Bool) where
  format-shown : (f : Format) → format_shows false f ≡ true → format_shows is_rich f ≡ true
  format-shown Emphasis h = refl
  format-shown Strong h = refl
  format-shown Deleted h = refl
  format-shown Superscript h = refl
  format-shown Subscript h = refl
  format-shown Inserted h = absurd (false≢true h)
  format-shown Underlined h = absurd (false≢true h)
  format-shown Marked h = absurd (false≢true h)
  format-shown Small h = absurd (false≢true h)
  format-shown Keyboard h = absurd (false≢true h)
  format-shown (Abbreviation title) h = absurd (false≢true h)

  mutual
    inline-shown : (x : Inline) → HasInline plain x → inline_shows is_rich x ≡ true
    inline-shown (text s) h = refl
    inline-shown (code s) h = refl
    inline-shown (formatted f content) h =
        and_from (format_shows is_rich f) (line_shows is_rich content) (format-shown f h.0) (line-shown content h.1)
    inline-shown (link address title content) h = line-shown content h.1
    inline-shown (image address title description) h = refl
    inline-shown (anchor id) h = refl
    inline-shown line_break h = refl
    inline-shown (task is_checked) h = refl

    line-shown : (xs : Inlines) → HasLine plain xs → line_shows is_rich xs ≡ true
    line-shown no_inlines h = refl
    line-shown (inline x xs) h =
        and_from (inline_shows is_rich x) (line_shows is_rich xs) (inline-shown x h.0) (line-shown xs h.1)

  cells-shown : (cells : List Inlines) → HaveCells plain cells → list_all (line_shows is_rich) cells ≡ true
  cells-shown [] h = refl
  cells-shown (c ∷ cells) h =
      and_from (line_shows is_rich c) (list_all (line_shows is_rich) cells) (line-shown c h.0.0) (cells-shown cells h.1)

  rows-shown : (rows : List (List Inlines)) → HaveRows plain rows
      → list_all (list_all (line_shows is_rich)) rows ≡ true
  rows-shown [] h = refl
  rows-shown (r ∷ rows) h =
      and_from (list_all (line_shows is_rich) r) (list_all (list_all (line_shows is_rich)) rows) (cells-shown r h.0)
      (rows-shown rows h.1)

  mutual
    block-shown : (n : ℕ) (b : Block) → HasBlock plain n b → block_shows is_rich b ≡ true
    block-shown n (paragraph content) h = line-shown content h.0
    block-shown n (heading level content) h = line-shown content h.0.0
    block-shown n (code_block language s) h = refl
    block-shown n (quote content) h = blocks-shown (suc n) content h
    block-shown n thematic_break h = refl
    block-shown n (list start is_tight items) h = items-shown (suc n) items h.1
    block-shown n (table alignments header rows) h =
        and_from (list_all (line_shows is_rich) header) (list_all (list_all (line_shows is_rich)) rows)
        (cells-shown header h.0) (rows-shown rows h.1)
    block-shown n (element name attributes content) h = absurd (false≢true h.0)
    block-shown n (tags s) h = absurd h

    blocks-shown : (n : ℕ) (bs : Blocks) → HaveBlocks plain n bs → formats_show is_rich bs ≡ true
    blocks-shown n no_blocks h = refl
    blocks-shown n (block b bs) h =
        and_from (block_shows is_rich b) (formats_show is_rich bs) (block-shown n b h.0) (blocks-shown n bs h.1)

    items-shown : (n : ℕ) (items : Items) → HaveItems plain n items → items_show is_rich items ≡ true
    items-shown n no_items h = refl
    items-shown n (item bs items) h =
        and_from (formats_show is_rich bs) (items_show is_rich items) (blocks-shown n bs h.0)
        (items-shown n items h.1)

plain-document : (which : Anchors) (sight : Sight) (tree : NumberedTree) → sight.is_rich ≡ false
    → is_text_tree tree ≡ true → HaveBlocks plain 0 (document_of_tree which sight tree)
plain-document which sight tree r e =
    document-has plain refl refl format-plain which sight tree (λ rich. absurd (false≢true (sym r ∙ rich)))
    (λ header rows shown headed. refl)
    (trees-plain-too (final_trees which sight tree) (trees-neat which sight tree e) (trees-plain which sight tree r))

pub formats-shown : (which : Anchors) (sight : Sight) (tree : NumberedTree) → sight.is_rich ≡ false
    → is_text_tree tree ≡ true → (is_rich : Bool)
    → formats_show is_rich (document_of_tree which sight tree) ≡ true
formats-shown which sight tree r e is_rich =
    blocks-shown is_rich 0 (document_of_tree which sight tree) (plain-document which sight tree r e)

pub no-element : NoBlockIsElement
no-element which sight tree r e =
    blocks-plain plain (λ name attributes content. refl) 0 (document_of_tree which sight tree)
    (plain-document which sight tree r e)

-- ---- rich pages

mutual
  neat-inline : (x : Inline) → is_inline_of neat x ≡ true → inline_shows true x ≡ true
  neat-inline (text s) h = refl
  neat-inline (code s) h = refl
  neat-inline (formatted f content) h =
      let p = and_parts (format_shows true f) (is_line_of neat content) h in
      and_from (format_shows true f) (line_shows true content) p.0 (neat-line content p.1)
  neat-inline (link address title content) h =
      neat-line content (and_parts (neat.link address title) (is_line_of neat content) h).1
  neat-inline (image address title description) h = refl
  neat-inline (anchor id) h = refl
  neat-inline line_break h = refl
  neat-inline (task is_checked) h = refl

  neat-line : (xs : Inlines) → is_line_of neat xs ≡ true → line_shows true xs ≡ true
  neat-line no_inlines h = refl
  neat-line (inline x xs) h =
      let p = and_parts (is_inline_of neat x) (is_line_of neat xs) h in
      and_from (inline_shows true x) (line_shows true xs) (neat-inline x p.0) (neat-line xs p.1)

neat-whole : (xs : Inlines) → is_whole_line_of neat xs ≡ true → line_shows true xs ≡ true
neat-whole xs h = neat-line xs (and_parts (is_line_of neat xs) (is_neat_line xs) h).0

neat-cells : (cells : List Inlines) → are_cells_of neat cells ≡ true → list_all (line_shows true) cells ≡ true
neat-cells [] h = refl
neat-cells (c ∷ cells) h =
    let p = and_parts (is_whole_line_of neat c) (are_cells_of neat cells) h in
    and_from (line_shows true c) (list_all (line_shows true) cells) (neat-whole c p.0) (neat-cells cells p.1)

neat-rows : (rows : List (List Inlines)) → list_all (are_cells_of neat) rows ≡ true
    → list_all (list_all (line_shows true)) rows ≡ true
neat-rows [] h = refl
neat-rows (r ∷ rows) h =
    let p = and_parts (are_cells_of neat r) (list_all (are_cells_of neat) rows) h in
    and_from (list_all (line_shows true) r) (list_all (list_all (line_shows true)) rows) (neat-cells r p.0)
    (neat-rows rows p.1)

mutual
  neat-block : (b : Block) → is_block_of neat b ≡ true → block_shows true b ≡ true
  neat-block (paragraph content) h = neat-whole content h
  neat-block (heading level content) h =
      neat-whole content (and_parts (is_whole_line_of neat content) (heading_keeps content) h).0
  neat-block (code_block language s) h = refl
  neat-block (quote content) h = neat-shown content h
  neat-block thematic_break h = refl
  neat-block (list start is_tight items) h =
      neat-items items (and_parts (is_right_list is_tight items) (are_items_of neat items) h).1
  neat-block (table alignments header rows) h =
      let q = and_parts (neat.table header rows) (are_cells_of neat header && list_all (are_cells_of neat) rows) h in
      let p = and_parts (are_cells_of neat header) (list_all (are_cells_of neat) rows) q.1 in
      and_from (list_all (line_shows true) header) (list_all (list_all (line_shows true)) rows) (neat-cells header p.0)
      (neat-rows rows p.1)
  neat-block (element name attributes content) h =
      neat-shown content (and_parts (is_neat_element name attributes content) (are_blocks_of neat content) h).1
  neat-block (tags s) h = refl

  -- what is neat shows on a rich page
  pub neat-shown : (bs : Blocks) → are_blocks_of neat bs ≡ true → formats_show true bs ≡ true
  neat-shown no_blocks h = refl
  neat-shown (block b bs) h =
      let p = and_parts (is_block_of neat b) (are_blocks_of neat bs) h in
      and_from (block_shows true b) (formats_show true bs) (neat-block b p.0) (neat-shown bs p.1)

  neat-items : (items : Items) → are_items_of neat items ≡ true → items_show true items ≡ true
  neat-items no_items h = refl
  neat-items (item bs items) h =
      let p = and_parts (are_blocks_of neat bs) (are_items_of neat items) h in
      and_from (formats_show true bs) (items_show true items) (neat-shown bs p.0) (neat-items items p.1)
