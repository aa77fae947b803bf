-- In the document of a rich page something shows in the header of each table.
use Rattle.std.proofs.Common.{◌≡◌, ℕ, suc, true, false, not, ◌||◌, List, [], ◌∷◌, Option, Some, None, refl, ap, ◌∙◌}
use Rattle.std.proofs.Common.{inl, inr}
use Rattle.std.specs.Str.{chars}
use Rattle.htmd_lexical.specs.AttributePairs.{AttributePair}
use Rattle.htmd_document.specs.Documents.{Block, paragraph, heading, code_block, quote, thematic_break, list, table}
use Rattle.htmd_document.specs.Documents.{element, tags, Blocks, no_blocks, block, Items, no_items, item}
use Rattle.htmd_shown.specs.declared.role.Role.{Role}
use Rattle.htmd_shown.specs.declared.role.Role.TheVariants as role
use Rattle.htmd_shown.specs.AllTexts.{all_text_among, with_line_feeds, lines_of}
use Rattle.htmd_shown.specs.Attributes.{title_of, description_of, in_line}
use Rattle.htmd_shown.specs.SimpleTrees as simple
use Rattle.htmd_shown.specs.SimpleTrees.{Simple, Simples, none, more}
use Rattle.htmd_document_of_tree.specs.TreeDocuments.{document_of_tree}
use Rattle.htmd_law_documents.specs.WrapperLaws.{final_trees}
use Rattle.htmd_law_returning.specs.SettledDocuments.{shows_header, has_bare_header, have_bare_headers}
use Rattle.htmd_law_returning.specs.SettledDocuments.{items_have_bare_headers}
use Rattle.htmd_law_settled.specs.Leaves.{Leaves}
use Rattle.htmd_law_settled.specs.NeatLeaves.{HeadersShow}
use Rattle.htmd_law_settled.proofs.LeafLines.{AllCharacters, HasBlock, HasPiece, HaveInside, HaveItems}
use Rattle.htmd_law_returning.specs.ElementPlaces.{Holder, in_flow, in_details, in_figure, inside}
use Rattle.htmd_law_settled.proofs.LeafElements.{HasTitle, HasElement, HasLines, HasImage, HasTree, HaveTrees}
use Rattle.htmd_law_settled.proofs.NeatPages.{leaves, trees-neat, document-has}

-- only headers count
abbrev headed : Leaves
headed = record {
  character = λ c. true;
  format = λ f. true;
  link = λ address title. true;
  image = λ address title description. true;
  code = λ language s. true;
  line = λ xs. true;
  heading = λ xs. true;
  list = λ is_tight items. true;
  table = λ header rows. shows_header header;
  element = λ name attributes content. true;
}

-- ---- trees

characters-headed : (cs : List ℕ) → AllCharacters leaves cs → AllCharacters headed cs
characters-headed [] h = tt
characters-headed (c ∷ cs) h = (h.0, refl, characters-headed cs h.2)

lines-headed : (lines : List (List ℕ)) → HasLines leaves lines → HasLines headed lines
lines-headed [] h = tt
lines-headed (s ∷ lines) h = (characters-headed (chars s) h.0, lines-headed lines h.1)

image-headed : (o : Option (List ℕ)) (attributes : List AttributePair) → HasImage leaves o attributes
    → HasImage headed o attributes
image-headed None attributes h = characters-headed (chars (description_of attributes)) h
image-headed (Some s) attributes h = refl

title-headed : (o : Option (List ℕ)) → HasTitle headed o
title-headed None = tt
title-headed (Some s) = refl

element-headed : (r : Role) → HasElement headed r
element-headed (role.Element g) = refl
element-headed r = tt

mutual
  tree-headed : (t : Simple) → HasTree leaves t → HasTree headed t
  tree-headed (simple.text s) h = characters-headed (chars s) h
  tree-headed (simple.image o attributes) h = image-headed o attributes h
  tree-headed (simple.formula tex is_alone attributes) h = (characters-headed (chars (in_line tex)) h.0, refl)
  tree-headed (simple.embedded id s title attributes ids) h = (refl, characters-headed (chars title) h.1)
  tree-headed (simple.anchor id) h = tt
  tree-headed (simple.element id r facts attributes content) h = (
    record {
      link = λ e. refl;
      title = λ e. title-headed (title_of attributes);
      element = element-headed r;
    },
    record {
      lines = lines-headed (lines_of (with_line_feeds (all_text_among content))) h.1.lines;
      block = λ near e. refl;
      blank = h.1.blank;
    },
    trees-headed content h.2,
    h.3,
    h.4,
    λ e c f. refl,
    h.6,
    h.7,
  )

  trees-headed : (ts : Simples) → HaveTrees leaves ts → HaveTrees headed ts
  trees-headed none h = tt
  trees-headed (more t ts) h = (tree-headed t h.0, trees-headed ts h.1)

-- ---- documents

mutual
  block-headed : (n : ℕ) (b : Block) → HasBlock headed n b → has_bare_header b ≡ false
  block-headed n (paragraph content) h = refl
  block-headed n (heading level content) h = refl
  block-headed n (code_block language s) h = refl
  block-headed n (quote content) h = inside-headed in_flow (suc n) content h
  block-headed n thematic_break h = refl
  block-headed n (list start is_tight items) h = items-headed (suc n) items h.1
  block-headed n (table alignments header rows) h = ap not h.2
  block-headed n (element name attributes content) h = inside-headed (inside name) n content h.3
  block-headed n (tags s) h = refl

  piece-headed : (o : Holder) (n : ℕ) (b : Block) → HasPiece headed o n b → has_bare_header b ≡ false
  piece-headed o n (element name attributes content) h = inside-headed (inside name) n content h.3
  piece-headed o n b h = absurd h

  inside-headed : (o : Holder) (n : ℕ) (bs : Blocks) → HaveInside headed o n bs → have_bare_headers bs ≡ false
  inside-headed o n no_blocks h = refl
  inside-headed in_flow n (block b bs) h =
      ap (λ x. x || have_bare_headers bs) (block-headed n b h.0) ∙ inside-headed in_flow n bs h.1
  inside-headed in_details n (block b bs) h =
      ap (λ x. x || have_bare_headers bs)
      (elim h.0 [ inl x ↦ block-headed n b x | inr x ↦ piece-headed in_details n b x ])
      ∙ inside-headed in_details n bs h.1
  inside-headed in_figure n (block b bs) h =
      ap (λ x. x || have_bare_headers bs)
      (elim h.0 [ inl x ↦ block-headed n b x | inr x ↦ piece-headed in_figure n b x ])
      ∙ inside-headed in_figure n bs h.1
  inside-headed o n (block b bs) h =
      ap (λ x. x || have_bare_headers bs) (piece-headed o n b h.0) ∙ inside-headed o n bs h.1

  items-headed : (n : ℕ) (items : Items) → HaveItems headed n items → items_have_bare_headers items ≡ false
  items-headed n no_items h = refl
  items-headed n (item bs items) h =
      ap (λ x. x || items_have_bare_headers items) (inside-headed in_flow n bs h.0) ∙ items-headed n items h.1

pub headers-show : HeadersShow
headers-show which sight tree rich e =
    inside-headed in_flow 0 (document_of_tree which sight tree)
    (document-has headed refl refl (λ g. refl) which sight tree
    (λ r name attributes content e. refl) (λ header rows shown some. some rich)
    (trees-headed (final_trees which sight tree) (trees-neat which sight tree e)))
