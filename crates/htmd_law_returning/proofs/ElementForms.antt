-- What is settled but for where its elements stand: for all that goes by the structure of blocks.
use Rattle.std.proofs.Common.{◌≡◌, Bool, true, false, ◌&&◌, refl, ap, ◌∙◌, List, None}
use Rattle.std.proofs.lemmas.Bool.{and_parts, and_from}
use Rattle.htmd_document.specs.Documents.{Block, paragraph, quote}
use Rattle.htmd_document.specs.Documents.{element, Blocks, no_blocks, block, BlockAttribute}
use Rattle.htmd_document.specs.TightItems.{is_filled}
use Rattle.htmd_document.specs.declared.document.BlockElement.{BlockElement}
use Rattle.htmd_document.specs.declared.document.BlockElement.TheVariants as an
use Rattle.htmd_law_returning.specs.SettledDocuments.{is_settled_block, are_settled_blocks, is_settled_element}
use Rattle.htmd_law_returning.specs.ElementPlaces.{in_flow, inside, is_mixed, stands_here}
use Rattle.htmd_law_returning.specs.SettledDocuments.{are_settled_in}
use Rattle.htmd_law_returning.specs.SettledDocuments.{has_filled_element, has_caption}
use Rattle.htmd_document.specs.FlatDocuments.{text_in_line}
use Rattle.htmd_law_returning.proofs.StartLemmas.{false-true}

-- a row or a caption
abbrev pub is_table_part : Block → Bool
is_table_part (element an.Row attributes content) = true
is_table_part (element an.Caption attributes content) = true
is_table_part b = false

abbrev pub are_table_parts : Blocks → Bool
are_table_parts no_blocks = true
are_table_parts (block b bs) = is_table_part b && are_table_parts bs

-- rows and captions alone stand in a table
abbrev pub is_bounded : BlockElement → Blocks → Bool
is_bounded an.Table content = are_table_parts content
is_bounded name content = true

abbrev mutual
  pub is_settled_alone : Block → Bool
  is_settled_alone (quote content) = are_settled_alone content
  is_settled_alone (element name attributes content) =
      is_bounded name content && are_settled_alone content
  is_settled_alone b = is_settled_block b

  pub are_settled_alone : Blocks → Bool
  are_settled_alone no_blocks = true
  are_settled_alone (block b bs) = is_settled_alone b && are_settled_alone bs

pub parts-alone : (bs : Blocks) → are_settled_in an.Table bs ≡ true → are_table_parts bs ≡ true
parts-alone no_blocks h = refl
parts-alone (block (element an.Row attributes content) bs) h =
    parts-alone bs (and_parts (is_settled_element an.Row attributes content && are_settled_in an.Row content)
    (are_settled_in an.Table bs) h).1
parts-alone (block (element an.Caption attributes content) bs) h =
    parts-alone bs (and_parts (is_settled_element an.Caption attributes content && are_settled_in an.Caption content)
    (are_settled_in an.Table bs) h).1
parts-alone (block b bs) h = false-true h

settled-apart : (name : BlockElement) (attributes : List BlockAttribute) (content : Blocks)
    → is_settled_element name attributes content ≡ true → are_settled_in name content ≡ true
    → is_bounded name content ≡ true
settled-apart an.Details attributes content h inside = refl
settled-apart an.Summary attributes content h inside = refl
settled-apart an.Terms attributes content h inside = refl
settled-apart an.Term attributes content h inside = refl
settled-apart an.Meaning attributes content h inside = refl
settled-apart an.Figure attributes content h inside = refl
settled-apart an.FigureCaption attributes content h inside = refl
settled-apart an.Table attributes content h inside = parts-alone content inside
settled-apart an.Caption attributes content h inside = refl
settled-apart an.Row attributes content h inside = refl
settled-apart an.Cell attributes content h inside = refl
settled-apart an.HeaderCell attributes content h inside = refl

element-alone : (place : Bool) (name : BlockElement) (attributes : List BlockAttribute) (content : Blocks)
    → (place && is_settled_element name attributes content && are_settled_in name content) ≡ true
    → (are_settled_in name content ≡ true → are_settled_alone content ≡ true)
    → is_settled_alone (element name attributes content) ≡ true
element-alone place name attributes content h inner =
    let parts = and_parts (place && is_settled_element name attributes content) (are_settled_in name content) h in
    let own = and_parts place (is_settled_element name attributes content) parts.0 in
    and_from (is_bounded name content) (are_settled_alone content)
    (settled-apart name attributes content own.1 parts.1) (inner parts.1)

mutual
  pub settled-alone : (bs : Blocks) → are_settled_blocks bs ≡ true → are_settled_alone bs ≡ true
  settled-alone no_blocks h = refl
  settled-alone (block b bs) h =
      let parts = and_parts (is_settled_block b) (are_settled_blocks bs) h in
      and_from (is_settled_alone b) (are_settled_alone bs) (block-alone b parts.0) (settled-alone bs parts.1)

  block-alone : (b : Block) → is_settled_block b ≡ true → is_settled_alone b ≡ true
  block-alone (quote content) h = settled-alone content h
  block-alone (element name attributes content) h =
      element-alone (stands_here in_flow name) name attributes content h (in-alone name content)
  block-alone b h = h

  pub in-alone : (outer : BlockElement) (bs : Blocks) → are_settled_in outer bs ≡ true
      → are_settled_alone bs ≡ true
  in-alone outer no_blocks h = refl
  in-alone outer (block (element name attributes content) bs) h =
      let parts = and_parts (stands_here (inside outer) name && is_settled_element name attributes content
      && are_settled_in name content) (are_settled_in outer bs) h in
      and_from (is_settled_alone (element name attributes content)) (are_settled_alone bs)
      (element-alone (stands_here (inside outer) name) name attributes content parts.0 (in-alone name content))
      (in-alone outer bs parts.1)
  in-alone outer (block (quote content) bs) h =
      let parts = and_parts (is_mixed (inside outer) && are_settled_blocks content) (are_settled_in outer bs) h in
      and_from (are_settled_alone content) (are_settled_alone bs)
      (settled-alone content (and_parts (is_mixed (inside outer)) (are_settled_blocks content) parts.0).1)
      (in-alone outer bs parts.1)
  in-alone outer (block b bs) h =
      let parts = and_parts (is_mixed (inside outer) && is_settled_block b) (are_settled_in outer bs) h in
      and_from (is_settled_alone b) (are_settled_alone bs)
      (and_parts (is_mixed (inside outer)) (is_settled_block b) parts.0).1 (in-alone outer bs parts.1)

-- in what has no parts stands what stands anywhere
pub flow-plain : (outer : BlockElement) → inside outer ≡ in_flow → (bs : Blocks)
    → are_settled_in outer bs ≡ are_settled_blocks bs
flow-plain outer e no_blocks = refl
flow-plain outer e (block (element name attributes content) bs) =
    ap (λ h. (stands_here h name && is_settled_element name attributes content && are_settled_in name content)
    && are_settled_in outer bs) e
    ∙ ap (λ x. is_settled_block (element name attributes content) && x) (flow-plain outer e bs)
flow-plain outer e (block b bs) =
    ap (λ h. (is_mixed h && is_settled_block b) && are_settled_in outer bs) e
    ∙ ap (λ x. is_settled_block b && x) (flow-plain outer e bs)

-- terms and meanings stand in lines of their own
pub terms-long : (bs : Blocks) → are_settled_in an.Terms bs ≡ true → has_filled_element bs ≡ true
    → text_in_line bs ≡ None
terms-long no_blocks settled h = false-true h
terms-long (block (paragraph xs) no_blocks) settled h = false-true h
terms-long (block b no_blocks) settled h = refl
terms-long (block b (block c bs)) settled h = refl

-- a caption is no text alone
pub figure-long : (bs : Blocks) → has_caption bs ≡ true → text_in_line bs ≡ None
figure-long no_blocks h = false-true h
figure-long (block (paragraph xs) no_blocks) h = false-true h
figure-long (block b no_blocks) h = refl
figure-long (block b (block c bs)) h = refl

-- so do rows and captions
pub parts-long : (bs : Blocks) → are_table_parts bs ≡ true → is_filled bs ≡ true → text_in_line bs ≡ None
parts-long no_blocks h some = false-true some
parts-long (block (paragraph xs) no_blocks) h some = false-true h
parts-long (block b no_blocks) h some = refl
parts-long (block b (block c bs)) h some = refl
