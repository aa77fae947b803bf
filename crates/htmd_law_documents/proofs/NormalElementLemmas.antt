-- What leaves and each kind of element give in normal documents.
use Rattle.std.proofs.Common.{◌≡◌, ℕ, suc, ◌≤◌, Bool, true, false, cond, not, ◌&&◌, List, [], ◌∷◌, ◌++◌, refl, Option}
use Rattle.std.proofs.Common.{Some, None, arith, map, length}
use Rattle.std.specs.Prelude.{codes, if◌then◌else◌, ◌-◌}
use Rattle.std.specs.List.{list_all, prefix_len, suffix_len}
use Rattle.std.specs.Str.{IsUtf8, chars}
use Rattle.htmd_lexical.specs.Characters.{space}
use Rattle.htmd_lexical.specs.AttributePairs.{AttributePair}
use Rattle.htmd_lexical.specs.WhiteSpace.{is_ascii_white_space}
use Rattle.htmd_text.specs.Trims.{trimmed_start}
use Rattle.htmd_document.specs.Documents.{Inlines, no_inlines, inline, code_block, heading, thematic_break, Blocks}
use Rattle.htmd_document.specs.Documents.{no_blocks, block, quote}
use Rattle.htmd_document.specs.Formats.{of_format, of_element}
use Rattle.htmd_document.specs.NormalInlines.{is_attribute}
use Rattle.htmd_document.specs.NormalDocuments.{is_normal_code, is_code_byte, is_level, depth_among}
use Rattle.htmd_shown.specs.declared.facts.Facts.{Facts}
use Rattle.htmd_shown.specs.declared.role.Role.{Role}
use Rattle.htmd_shown.specs.declared.role.Role.TheVariants as role
use Rattle.htmd_shown.specs.AllTexts.{all_text_among, with_line_feeds, lines_of, without_last_line_feed, dollar_sign}
use Rattle.htmd_shown.specs.Attributes.{text_of, title_of, description_of, address, in_line, trimmed, has_attribute}
use Rattle.htmd_shown.specs.Attributes.{is_any_case, is_filled}
use Rattle.htmd_shown.specs.SimpleTrees.{Simples}
use Rattle.htmd_shown.specs.Spaces.{is_blank_text}
use Rattle.htmd_flow.specs.Contexts.{Context, is_lined, in_code, unlinked, in_one_line, deeper, run_in, apart}
use Rattle.htmd_flow.specs.Contexts.{beside_code, inside_link, is_linked_to_part}
use Rattle.htmd_flow.specs.Flows.{Node, Row, TermPart, Element, blocks_of, line_of, flow_all, image_parts, math_block}
use Rattle.htmd_flow.specs.Flows.{math_in_line, formula_parts, embed_parts, box_parts, between, heading_of}
use Rattle.htmd_flow.specs.Flows.{heading_parts, around_heading, quote_of, quote_parts, code_parts, verbatim_parts}
use Rattle.htmd_flow.specs.Flows.{start_of, near_parts, parts_of, linked_by, TablePiece, title_parts, around_title}
use Rattle.htmd_flow.specs.Flows.{described_parts, term_parts, rich_table_at, table_parts, figure_parts}
use Rattle.htmd_flow.specs.Contexts.{has_elements, inside_title}
use Rattle.htmd_document.specs.Formats.{Abbreviation}
use Rattle.htmd_law_documents.proofs.NormalValueLemmas.{IsTitled, title_of-titled}
use Rattle.htmd_shown.specs.Showings.{show_usual_sign}
use Rattle.htmd_document.specs.declared.document.Format as declared_format
use Rattle.htmd_document.specs.declared.document.Format.TheVariants as marked
use Rattle.htmd_document.specs.declared.document.InlineElement as declared_element
use Rattle.htmd_document.specs.declared.document.InlineElement.TheVariants as element
use Rattle.htmd_document.specs.NormalInlines.{has_title}
use Rattle.htmd_flow.specs.Languages.{language_of_block}
use Rattle.htmd_flow.specs.Levels.{list_of}
use Rattle.htmd_flow.specs.Parts.{Part, break, place, box, edge, whole}
use Rattle.htmd_law_documents.proofs.NormalTextLemmas.{and-true}
use Rattle.htmd_law_documents.proofs.NormalStandLemmas.{stand-well}
use Rattle.htmd_law_documents.proofs.NormalLeafLemmas.{AllIds}
use Rattle.htmd_law_documents.proofs.NormalBlockLemmas.{IsLineWell, FineBlocks}
use Rattle.htmd_law_documents.proofs.NormalPartsLemmas.{FineParts, FineFrom, alone, lone, good, waiting, IsRun}
use Rattle.htmd_law_documents.proofs.NormalPartsLemmas.{fine-from, fine-append, fine-alone, fine-lone, fine-nil}
use Rattle.htmd_law_documents.proofs.NormalPartsLemmas.{fine-edge, fine-edges}
use Rattle.htmd_law_documents.proofs.NormalPartsLemmas.{fine-run, fine-whole, fine-apart, fine-either, fine-as}
use Rattle.htmd_law_documents.proofs.NormalPartsLemmas.{shown-run, blocks-of, line-of}
use Rattle.htmd_law_documents.proofs.NormalValueLemmas.{IsClean, clean-run, address-fine, in_line-line, in_line-clean}
use Rattle.htmd_law_documents.proofs.NormalValueLemmas.{AreTexts, value-text, language-fine, title_of-fine, all-take}
use Rattle.htmd_law_documents.proofs.NormalValueLemmas.{all-drop}
use Rattle.htmd_law_documents.proofs.NormalCodeLemmas.{feeds-code, feeds-clean, without-code, lines-fine}
use Rattle.htmd_law_documents.proofs.NormalNodesLemmas.{bound, FitsIn, Gives, FineNodes, not-flat, deeper-fine}
use Rattle.htmd_law_documents.proofs.NormalNodesLemmas.{list-parts-fine, flow-fine}
use Rattle.htmd_law_documents.proofs.NormalTermLemmas.{FineTerms, term-parts-fine}
use Rattle.htmd_law_documents.proofs.NormalTableLemmas.{RowNodes, table-parts-fine}
use Rattle.htmd_law_documents.proofs.NormalAroundLemmas.{fit-without, format-gives, link-gives, unlinked-gives}
use Rattle.htmd_law_documents.proofs.NormalAroundLemmas.{near-gives}
use Rattle.htmd_law_documents.proofs.NormalRichLemmas.{rich-is, rich-flat, details-fine, figure-fine}
use Rattle.htmd_law_documents.proofs.NormalRichLemmas.{described-parts-fine}
use Rattle.htmd_law_documents.proofs.NormalRichTableLemmas.{FinePieces, rich-table-fine}
use lib.Utf8.{encode}

-- ---- leaves

space-run : IsRun (space ∷ [])
unfolding chars encode
space-run = record { scalar = refl; seen = refl }

pub dollar-run : IsRun (dollar_sign ∷ [])
unfolding chars encode
dollar-run = record { scalar = refl; seen = refl }

pub run-fine : (s : List ℕ) → IsRun s → Gives (λ c. run_in c s ∷ [])
run-fine s r c f = fine-run c.is_flat (bound c) s c.around c.is_code r f

between-fine : (s : List ℕ) (nodes : List Node) → FineNodes nodes → IsRun s → Gives (between s nodes)
between-fine s nodes h r c f =
    fine-append c.is_flat (bound c) (run_in c s ∷ flow_all nodes c) (run_in c s ∷ [])
    (fine-append c.is_flat (bound c) (run_in c s ∷ []) (flow_all nodes c) (run-fine s r c f) (flow-fine nodes h c f))
    (run-fine s r c f)

-- the address of an image
abbrev pub IsSource : Option (List ℕ) → Type 0
IsSource None = Unit {0}
IsSource (Some s) = IsUtf8 s

pub image-fine : (o : Option (List ℕ)) (attributes : List AttributePair) → AreTexts attributes → IsSource o
    → Gives (image_parts o attributes)
image-fine (Some s) attributes a o c f = (
  (
    address-fine s o,
    title_of-fine attributes a,
    in_line-line (text_of (codes "alt") attributes) (value-text attributes (codes "alt") a),
    f,
  ),
  tt,
  fine-nil c.is_flat (bound c),
)
image-fine None attributes a o c f =
    fine-either c.is_flat (bound c) (is_filled (description_of attributes))
    (run_in c (description_of attributes) ∷ [])
    []
    (λ e. run-fine (description_of attributes) (clean-run (description_of attributes)
    (in_line-clean (text_of (codes "alt") attributes) (value-text attributes (codes "alt") a))) c f)
    (λ e. fine-nil c.is_flat (bound c))

trimmed-code : (s : List ℕ) → list_all is_code_byte s ≡ true → list_all is_code_byte (trimmed s) ≡ true
trimmed-code s h =
    let start : List ℕ = trimmed_start is_ascii_white_space s in
    all-take is_code_byte (length start - suffix_len is_ascii_white_space start) start
    (all-drop is_code_byte (prefix_len is_ascii_white_space s) s h)

pub math-code : (tex : List ℕ) → IsClean tex
    → is_normal_code (Some (codes "math")) (trimmed (with_line_feeds tex)) ≡ true
math-code tex h = and-true refl (trimmed-code (with_line_feeds tex) (feeds-code tex h))

pub formula-fine : (tex : List ℕ) (is_alone : Bool) → IsClean tex → Gives (formula_parts tex is_alone)
formula-fine tex is_alone h c f =
    let flat : Bool = c.is_flat in
    let n : ℕ = bound c in
    fine-either flat n (is_alone && not c.is_flat) (apart (whole (math_block tex) ∷ [])) (math_in_line tex c)
    (λ e. fine-apart flat n (whole (math_block tex) ∷ [])
    (fine-whole flat n (math_block tex) refl (math-code tex h, omega arith)))
    (λ e. fine-append flat n (run_in c (dollar_sign ∷ []) ∷ run_in (in_code c) (in_line tex) ∷ [])
    (run_in c (dollar_sign ∷ []) ∷ [])
    (fine-append flat n (run_in c (dollar_sign ∷ []) ∷ []) (run_in (in_code c) (in_line tex) ∷ [])
    (run-fine (dollar_sign ∷ []) dollar-run c f)
    (run-fine (in_line tex) (clean-run (in_line tex) (in_line-clean tex h.utf8)) (in_code c) f))
    (run-fine (dollar_sign ∷ []) dollar-run c f))

-- ---- anchors

-- anchors, and then what shows
pub places-wait : (flat : Bool) (n : ℕ) (ids : List (List ℕ)) (ps : List Part) → AllIds ids
    → FineFrom flat n waiting ps → FineFrom flat n waiting (map place ids ++ ps)
places-wait flat n [] ps a h = h
places-wait flat n (id ∷ ids) ps a h = (a.0, tt, places-wait flat n ids ps a.1 h)

-- where nothing shows they may stand alone
places-lone : (n : ℕ) (ids : List (List ℕ)) (ps : List Part) → AllIds ids
    → FineFrom false n lone ps → FineFrom false n lone (map place ids ++ ps)
places-lone n [] ps a h = h
places-lone n (id ∷ ids) ps a h = (a.0, tt, places-lone n ids ps a.1 h)

pub places-alone : (n : ℕ) (ids : List (List ℕ)) (ps : List Part) → AllIds ids
    → FineFrom false n alone ps → FineFrom false n lone ps → FineFrom false n alone (map place ids ++ ps)
places-alone n [] ps a g h = g
places-alone n (id ∷ ids) ps a g h = (a.0, tt, places-lone n ids ps a.1 h)

pub places-first : (flat : Bool) (n : ℕ) (ids : List (List ℕ)) (ps : List Part) → AllIds ids
    → FineFrom flat n good ps → FineFrom flat n waiting ps → FineParts flat n (map place ids ++ ps)
places-first flat n [] ps a g h = g
places-first flat n (id ∷ ids) ps a g h = (a.0, tt, places-wait flat n ids ps a.1 h)

module _ (ids : List (List ℕ)) (a : AllIds ids) (c : Context) (f : FitsIn c) where
  embed-by : (flat : Bool) (n : ℕ) (p : Part) → FineFrom flat n good (p ∷ [])
      → FineFrom flat n waiting (p ∷ [])
      → FineParts flat n ((cond flat (run_in c (space ∷ [])) edge ∷ map place ids)
      ++ p ∷ cond flat (run_in c (space ∷ [])) edge ∷ [])
  embed-by true n p g h =
      let end : FineParts true n (run_in c (space ∷ []) ∷ []) =
      fine-run true n (space ∷ []) c.around c.is_code space-run f in
      let rest : List Part = p ∷ run_in c (space ∷ []) ∷ [] in
      fine-append true n (run_in c (space ∷ []) ∷ []) (map place ids ++ rest) end
      (places-first true n ids rest a (fine-from true n good (p ∷ []) (run_in c (space ∷ []) ∷ []) g end)
      (fine-from true n waiting (p ∷ []) (run_in c (space ∷ []) ∷ []) h end))
  embed-by false n p g h =
      let rest : List Part = p ∷ edge ∷ [] in (
        tt,
        tt,
        places-alone n ids rest a
            (fine-alone n rest (fine-append false n (p ∷ []) (edge ∷ []) g (fine-edges false n)))
            (fine-lone n rest (fine-from false n waiting (p ∷ []) (edge ∷ []) h (fine-edges false n))),
      )

pub embed-fine : (id : ℕ) (s title : List ℕ) (ids : List (List ℕ)) → is_attribute s ≡ true → IsClean title
    → is_blank_text title ≡ false → AllIds ids → Gives (embed_parts id s title ids)
embed-fine id s title ids a t some all c f =
    embed-by ids all c f c.is_flat (bound c) (run_in (inside_link id s None c) title)
    (link-gives good id s None (λ d. run_in d title ∷ []) a refl (run-fine title (clean-run title t)) c f)
    (link-gives waiting id s None (λ d. run_in d title ∷ []) a refl
    (λ d g. shown-run d.is_flat (bound d) title d.around d.is_code (clean-run title t) g some) c f)

box-fine : (flat : Bool) (n : ℕ) (attributes : List AttributePair) → FineParts flat n (box_parts attributes)
box-fine flat n attributes =
    fine-either flat n (is_any_case (codes "checkbox") (text_of (codes "type") attributes))
    (box (has_attribute (codes "checked") attributes) ∷ []) [] (λ e. one flat) (λ e. fine-nil flat n)
  where
    one : (flat : Bool) → FineParts flat n (box (has_attribute (codes "checked") attributes) ∷ [])
    one true = (tt, tt, tt)
    one false = (tt, tt, tt)

-- ---- blocks

heading-fine : (flat : Bool) (n level : ℕ) (xs : Inlines) → is_level level ≡ true → IsLineWell xs
    → FineParts flat n (heading_of level xs)
heading-fine flat n level no_inlines e h = fine-nil flat n
heading-fine flat n level (inline x xs) e h =
    fine-whole flat n (heading level (inline x xs)) refl
    (and-true (and-true (and-true e refl) h.0) (stand-well (inline x xs) h.1), omega arith)

around-fits : (facts : Facts) (c : Context) → FitsIn c → FitsIn (in_one_line (around_heading facts c))
around-fits facts c f = either (facts.shows_sign && is_linked_to_part c)
  where
    either : (b : Bool) → FitsIn (in_one_line (cond b (unlinked c) c))
    either true = fit-without [] c.around f
    either false = f

heading-parts-fine : (level : ℕ) (facts : Facts) (nodes : List Node) → is_level level ≡ true
    → FineNodes nodes → Gives (heading_parts level facts nodes)
heading-parts-fine level facts nodes e h c f =
    let d : Context = in_one_line (around_heading facts c) in
    let fits : FitsIn d = around-fits facts c f in
    let xs : Inlines = line_of (flow_all nodes d) in
    fine-apart c.is_flat (bound c) (if c.is_flat then flow_all nodes c else heading_of level xs)
    (fine-either c.is_flat (bound c) c.is_flat (flow_all nodes c) (heading_of level xs) (λ i. flow-fine nodes h c f)
    (λ i. heading-fine c.is_flat (bound c) level xs e
    (line-of (bound d) (flow_all nodes d) (flow-fine nodes h d fits))))

quote-fine : (n : ℕ) (bs : Blocks) → FineBlocks n false bs → FineParts false (suc n) (quote_of bs)
quote-fine n no_blocks h = tt
quote-fine n (block b bs) h =
    fine-whole false (suc n) (quote (block b bs)) refl
    ((refl, h.nearly, h.stand), more (depth_among (block b bs)) n h.depth)
  where
    more : (d n : ℕ) → d ≤ n → suc d ≤ suc n
    more d n l = omega arith

quote-parts-fine : (nodes : List Node) → FineNodes nodes → Gives (quote_parts nodes)
quote-parts-fine nodes h c f =
    let d : Context = deeper c in
    let bs : Blocks = blocks_of false (flow_all nodes d) in
    fine-apart c.is_flat (bound c) (if is_lined c then flow_all nodes c else quote_of bs)
    (fine-either c.is_flat (bound c) (is_lined c) (flow_all nodes c) (quote_of bs) (λ e. flow-fine nodes h c f)
    (λ e. deeper-fine c (quote_of bs) e
    (quote-fine (bound d) bs
    (blocks-of (bound d) false (flow_all nodes d)
    (fine-as c.is_flat false (bound d) (flow_all nodes d) (not-flat c e) (flow-fine nodes h d f))))))

pub verbatim-code : (attributes : List AttributePair) (content : Simples) (near : List (List AttributePair))
    → IsClean (all_text_among content)
    → is_normal_code (language_of_block attributes (list_of content) near)
    (without_last_line_feed (with_line_feeds (all_text_among content))) ≡ true
verbatim-code attributes content near h =
    and-true (language-fine attributes (list_of content) near)
    (without-code (with_line_feeds (all_text_among content)) (feeds-code (all_text_among content) h))

verbatim-fine : (attributes : List AttributePair) (content : Simples) → IsClean (all_text_among content)
    → Gives (verbatim_parts attributes content)
verbatim-fine attributes content h c f =
    let flat : Bool = c.is_flat in
    let n : ℕ = bound c in
    let s : List ℕ = with_line_feeds (all_text_among content) in
    let t : List ℕ = without_last_line_feed s in
    let language : Option (List ℕ) = language_of_block attributes (list_of content) c.near in
    let body : List Part = apart (whole (code_block language t) ∷ []) in
    let lines : List Part = edge ∷ code_parts (lines_of s) c.around in
    let code : is_normal_code language t ≡ true = verbatim-code attributes content c.near h in
    fine-either flat n (is_blank_text s) (edge ∷ []) (if c.is_flat then lines else body)
    (λ e. fine-edges flat n)
    (λ e. fine-either flat n c.is_flat lines body
    (λ d. fine-edge flat n (code_parts (lines_of s) c.around)
    (lines-fine flat n s c.around (feeds-clean (all_text_among content) h) f))
    (λ d. fine-apart flat n (whole (code_block language t) ∷ [])
    (fine-whole flat n (code_block language t) refl (code, omega arith))))

-- ---- each kind

-- no title is asked of these

format-titled : (g : declared_format.Format) → has_title (of_format g) ≡ true
format-titled marked.Emphasis = refl
format-titled marked.Strong = refl
format-titled marked.Deleted = refl

element-titled : (g : declared_element.InlineElement) → has_title (of_element g) ≡ true
element-titled element.Superscript = refl
element-titled element.Subscript = refl
element-titled element.Inserted = refl
element-titled element.Underlined = refl
element-titled element.Marked = refl
element-titled element.Small = refl
element-titled element.Keyboard = refl

-- a heading has a level, and nothing is for anchors
abbrev pub IsLevel : Role → Type 0
IsLevel (role.Heading level) = is_level level ≡ true
IsLevel role.Anchors = ⊥
IsLevel _ = Unit {0}

module _ (id : ℕ) (facts : Facts) (attributes : List AttributePair) (content : Simples) (nodes : List Node)
    (rows : List Row) (pieces : List TablePiece) (terms : List TermPart) (texts : AreTexts attributes)
    (text : IsClean (all_text_among content))
    (all : FineNodes nodes) (table : RowNodes rows) (parts : FineTerms terms) (rich : FinePieces pieces) (c : Context)
    (f : FitsIn c) where
  abbrev pub here-element : Element
  here-element = record {
    id = id;
    facts = facts;
    attributes = attributes;
    content = content;
    nodes = nodes;
    rows = rows;
    pieces = pieces;
    terms = terms;
  }

  here : FineParts c.is_flat (bound c) (flow_all nodes c)
  here = flow-fine nodes all c f

  blocks : FineParts c.is_flat (bound c) (apart (flow_all nodes c))
  blocks = fine-apart c.is_flat (bound c) (flow_all nodes c) here

  near : FineParts c.is_flat (bound c) (near_parts here-element c)
  near =
      fine-apart c.is_flat (bound c) (flow_all nodes (beside_code facts.pres attributes c))
      (near-gives good facts.pres attributes (flow_all nodes) (flow-fine nodes all) c f)

  abbreviated : (o : Option (List ℕ)) → IsTitled o
      → FineParts c.is_flat (bound c) (flow_all nodes (inside_title o c))
  abbreviated None h = here
  abbreviated (Some title) h =
      format-gives good (Abbreviation title) (flow_all nodes) h (flow-fine nodes all) c f

  -- what heads something that isn't the page
  titled : (b : Bool) → FineParts c.is_flat (bound c) (flow_all nodes (cond b (unlinked c) c))
  titled true = unlinked-gives good (flow_all nodes) (flow-fine nodes all) c f
  titled false = here

  titles : FineParts c.is_flat (bound c) (title_parts here-element c)
  titles =
      fine-apart c.is_flat (bound c) (flow_all nodes (around_title content c))
      (titled (has_elements c && is_linked_to_part c && show_usual_sign content))

  links : FineParts c.is_flat (bound c) (flow_all nodes (linked_by id attributes c))
  links =
      let s : List ℕ = text_of (codes "href") attributes in
      link-gives good id (address s) (title_of attributes) (flow_all nodes)
      (address-fine s (value-text attributes (codes "href") texts)) (title_of-fine attributes texts)
      (flow-fine nodes all) c f

  pub element-fine : (r : Role) → IsLevel r → FineParts c.is_flat (bound c) (parts_of r here-element c)
  element-fine (role.Format g) k =
      format-gives good (of_format g) (flow_all nodes) (format-titled g) (flow-fine nodes all) c f
  element-fine (role.Element g) k =
      format-gives good (of_element g) (flow_all nodes) (element-titled g) (flow-fine nodes all) c f
  element-fine role.Abbreviation k = abbreviated (title_of attributes) (title_of-titled attributes texts)
  element-fine role.Code k = flow-fine nodes all (in_code c) f
  element-fine role.Typed k = flow-fine nodes all (in_code c) f
  element-fine role.Link k = links
  element-fine role.Unlinked k = unlinked-gives good (flow_all nodes) (flow-fine nodes all) c f
  element-fine role.Target k = here
  element-fine role.Plain k = here
  element-fine role.Apart k = between-fine (space ∷ []) nodes all space-run c f
  element-fine role.LineBreak k = break-fine c.is_flat
    where
      break-fine : (flat : Bool) → FineParts flat (bound c) (break ∷ [])
      break-fine true = (tt, tt, tt)
      break-fine false = (tt, tt, tt)
  element-fine role.Input k =
      fine-append c.is_flat (bound c) (box_parts attributes) (flow_all nodes c)
      (box-fine c.is_flat (bound c) attributes) here
  element-fine role.Anchors k = absurd k
  element-fine (role.Heading level) k = heading-parts-fine level facts nodes k all c f
  element-fine role.Preformatted k = verbatim-fine attributes content text c f
  element-fine role.Verbatim k = verbatim-fine attributes content text c f
  element-fine role.BlockQuote k = quote-parts-fine nodes all c f
  element-fine role.ThematicBreak k =
      fine-whole c.is_flat (bound c) thematic_break refl (tt, omega arith)
  element-fine role.BulletList k = list-parts-fine None nodes all c f
  element-fine role.NumberedList k = list-parts-fine (Some (start_of attributes)) nodes all c f
  element-fine role.Terms k =
      fine-either c.is_flat (bound c) (has_elements c) (described_parts terms c) (term_parts terms nodes c)
      (λ e. described-parts-fine terms parts c f (rich-flat c e))
      (λ e. term-parts-fine terms nodes parts all c f)
  element-fine role.Table k =
      fine-either c.is_flat (bound c) (has_elements c) (rich_table_at here-element c)
      (table_parts (list_of content) nodes rows c)
      (λ e. rich-table-fine (list_of content) attributes pieces nodes rich all c (rich-is c e) f (rich-flat c e))
      (λ e. table-parts-fine (list_of content) nodes rows all table c f)
  element-fine role.Division k = near
  element-fine role.Figure k = near-gives good facts.pres attributes (figure_parts nodes) (figure-fine nodes all) c f
  element-fine role.Details k = details-fine attributes nodes all c f
  element-fine role.Term k = titles
  element-fine role.Caption k = titles
  element-fine role.FigureCaption k = titles
  element-fine role.Summary k = titles
  element-fine role.Cell k = near
  element-fine r k = blocks
