-- What each kind of element gives keeps the wrappers of what is in it.
use Rattle.std.proofs.Common.{◌≡◌, ℕ, zero, suc, Bool, true, false, cond, not, ◌&&◌, List, [], ◌∷◌, ◌++◌, map, refl}
use Rattle.std.proofs.Common.{sym, ap, ◌∙◌, Option, Some, None}
use Rattle.std.specs.Prelude.{if◌then◌else◌, codes, ℤ}
use Rattle.std.specs.List.{list_any, flat_map}
use Rattle.std.specs.Str.{IsUtf8}
use Rattle.std.proofs.lemmas.List.{append-nil}
use Rattle.htmd_lexical.specs.Characters.{space}
use Rattle.htmd_lexical.specs.WhiteSpace.{is_ascii_white_space}
use Rattle.htmd_lexical.specs.AttributePairs.{AttributePair}
use Rattle.htmd_text.specs.Trims.{trimmed_text, is_line_feed}
use Rattle.htmd_shown.specs.declared.facts.Facts.{Facts}
use Rattle.htmd_shown.specs.declared.role.Role.{Role}
use Rattle.htmd_shown.specs.declared.role.Role.TheVariants as role
use Rattle.htmd_shown.specs.AllTexts.{all_text_among, with_line_feeds, lines_of, without_last_line_feed, dollar_sign}
use Rattle.htmd_shown.specs.Attributes.{text_of, title_of, description_of, address, has_attribute, in_line, is_any_case}
use Rattle.htmd_shown.specs.Attributes.{is_filled, trimmed}
use Rattle.htmd_shown.specs.Roles as roles
use Rattle.htmd_shown.specs.SimpleTrees.{element, Simples}
use Rattle.htmd_shown.specs.Spaces.{is_blank_text}
use Rattle.htmd_document.specs.Formats.{Format, Abbreviation, of_format, of_element}
use Rattle.htmd_document.specs.Documents.{Inlines, no_inlines, inline, heading, code_block, quote, thematic_break}
use Rattle.htmd_document.specs.Documents.{Blocks, no_blocks, block}
use Rattle.htmd_flow.specs.Contexts.{Context, is_lined, is_enough, inside_format, inside_link, with_around, is_link}
use Rattle.htmd_flow.specs.Contexts.{unlinked, is_linked_to_part, beside_code, in_code, in_one_line}
use Rattle.htmd_flow.specs.Contexts.{deeper, run_in, apart, has_elements, inside_title}
use Rattle.htmd_flow.specs.Flows.{Node, Row, TablePiece, TermPart, Element, blocks_of, line_of, flow_all, list_parts}
use Rattle.htmd_flow.specs.Flows.{term_parts, described_parts, terms_by, rich_table_at, table_at, around_title}
use Rattle.htmd_flow.specs.Flows.{title_parts, captioned, figure_at, element_part, open_attribute, titled}
use Rattle.htmd_flow.specs.Flows.{details_parts, around_node, shows_title}
use Rattle.htmd_document.specs.declared.document.BlockElement.{BlockElement}
use Rattle.htmd_flow.specs.Flows.{table_parts, image_parts, math_block, math_in_line, formula_parts, embed_edge}
use Rattle.htmd_flow.specs.Flows.{embed_parts, box_parts, linked_by, between, heading_of, around_heading, heading_parts}
use Rattle.htmd_flow.specs.Flows.{quote_of, quote_parts, code_parts, text_in_lines, verbatim_parts, start_of}
use Rattle.htmd_flow.specs.Flows.{anchors_apart, near_parts, parts_of, is_grid_of}
use Rattle.htmd_document.specs.declared.document.BlockElement.TheVariants as name
use Rattle.htmd_flow.specs.Languages.{language_of_block}
use Rattle.htmd_flow.specs.Levels.{list_of}
use Rattle.htmd_flow.specs.Parts.{Around, formatted, linked, Part, place, box, edge, whole}
use Rattle.htmd_law_documents.specs.DocumentTexts.{visible}
use Rattle.htmd_law_documents.specs.TreeWrappers.{inside_heading, inside_verbatim}
use Rattle.htmd_law_documents.proofs.VisibleLemmas.{Shows, shows-nil, shows-itself, shows-append}
use Rattle.htmd_law_documents.proofs.PiecesLemmas.{AreUtf8, PiecesShow, pieces_seen, line_feed-white, ascii-white}
use Rattle.htmd_law_documents.proofs.PiecesLemmas.{pieces-show, space-shows, in_line-shows, unfilled}
use Rattle.htmd_law_documents.proofs.CodeLemmas.{trimmed-shows, without-shows, feeds-show, blank-seen}
use Rattle.htmd_law_documents.proofs.ElementLemmas.{dollar-shows}
use Rattle.htmd_law_documents.proofs.NormalTextLemmas.{and-false}
use Rattle.htmd_law_documents.proofs.Readers.{Reader, unseen, read_line, read_blocks, read_around, read_in}
use Rattle.htmd_law_documents.proofs.Readers.{read_in_line, read_formula, read_image, read_by, read_trees, is_of_table}
use Rattle.htmd_law_documents.proofs.WrapperWritingLemmas.{AllAgree, Agrees}
use Rattle.htmd_law_documents.proofs.WrapperPartsLemmas.{Keep, keep-nil, keep-append, keep-same, keep-edge}
use Rattle.htmd_law_documents.proofs.WrapperPartsLemmas.{keep-edges, keep-after, keep-apart, keep-run, keep-whole}
use Rattle.htmd_law_documents.proofs.WrapperPartsLemmas.{blocks-keep, line-keeps}
use Rattle.htmd_law_documents.proofs.WrapperNodesLemmas.{shallow, nodes_wrapped, not-flat, Agree, NodesKeep}
use Rattle.htmd_law_documents.proofs.WrapperNodesLemmas.{keep-either, keep-in, list-parts-keep, flow-keeps}
use Rattle.htmd_law_documents.proofs.WrapperTermLemmas.{terms_wrapped, TermsKeep, term-parts-keep}
use Rattle.htmd_law_documents.proofs.WrapperNodesLemmas.{unlinked-agrees, title-flat, title-alike, title-agrees}
use Rattle.htmd_law_documents.proofs.WrapperRichLemmas.{described-keeps, elements-unflat, element-part-keeps}
use Rattle.htmd_law_documents.proofs.WrapperRichLemmas.{figure-keeps, titles-keep}

-- ---- contexts

-- a change of a context that leaves whether all is one line, and that doesn't depend on how deep it is
pub record IsChange (change : Context → Context) (c : Context) : Type 0 where
  pub flat : (change c).is_flat ≡ c.is_flat
  pub alike : shallow (change c) ≡ change (shallow c)

pub format-change : (f : Format) (c : Context) → IsChange (inside_format f) c
format-change f c = record { flat = flat (is_enough f c.around); alike = alike (is_enough f c.around) }
  where
    flat : (b : Bool) → (cond b c (with_around c (formatted f))).is_flat ≡ c.is_flat
    flat true = refl
    flat false = refl

    alike : (b : Bool)
        → shallow (cond b c (with_around c (formatted f)))
        ≡ cond b (shallow c) (with_around (shallow c) (formatted f))
    alike true = refl
    alike false = refl

pub link-change : (id : ℕ) (s : List ℕ) (title : Option (List ℕ)) (c : Context)
    → IsChange (inside_link id s title) c
link-change id s title c = record { flat = flat (list_any is_link c.around); alike = alike (list_any is_link c.around) }
  where
    flat : (b : Bool) → (cond b c (with_around c (linked id s title))).is_flat ≡ c.is_flat
    flat true = refl
    flat false = refl

    alike : (b : Bool) → shallow (cond b c (with_around c (linked id s title)))
        ≡ cond b (shallow c) (with_around (shallow c) (linked id s title))
    alike true = refl
    alike false = refl

pub title-change : (o : Option (List ℕ)) (c : Context) → IsChange (inside_title o) c
title-change None c = record { flat = refl; alike = refl }
title-change (Some title) c =
    let change : IsChange (inside_format (Abbreviation title)) c = format-change (Abbreviation title) c in
    record { flat = change.flat; alike = change.alike }

pub near-change : (n : ℕ) (attributes : List AttributePair) (c : Context)
    → ((beside_code n attributes c).is_flat ≡ c.is_flat) × (shallow (beside_code n attributes c) ≡ shallow c)
near-change zero attributes c = (refl, refl)
near-change (suc zero) attributes c = (refl, refl)
near-change (suc (suc n)) attributes c = (refl, refl)

sign-change : (facts : Facts) (c : Context) → IsChange (around_heading facts) c
sign-change facts c = record {
  flat = flat (facts.shows_sign && is_linked_to_part c);
  alike = alike (facts.shows_sign && is_linked_to_part c);
}
  where
    flat : (b : Bool) → (cond b (unlinked c) c).is_flat ≡ c.is_flat
    flat true = refl
    flat false = refl

    alike : (b : Bool) → shallow (cond b (unlinked c) c) ≡ cond b (unlinked (shallow c)) (shallow c)
    alike true = refl
    alike false = refl

-- ---- texts in pieces

abbrev all-pieces : List (List ℕ) → List ℕ
all-pieces [] = []
all-pieces (s ∷ pieces) = s ++ all-pieces pieces

all-pieces-show : (pieces : List (List ℕ)) → AreUtf8 pieces → Shows (all-pieces pieces) (pieces_seen pieces)
all-pieces-show [] u = shows-nil
all-pieces-show (s ∷ pieces) u =
    shows-append s (all-pieces pieces) (visible s) (pieces_seen pieces) (shows-itself s u.0)
    (all-pieces-show pieces u.1)

module _ (R : Reader) where
  pieces-read : (wrappers : List R.Wrap) (pieces : List (List ℕ)) → AreUtf8 pieces
      → flat_map (R.read wrappers true) pieces ≡ R.read wrappers true (all-pieces pieces)
  pieces-read wrappers [] u = sym (R.nothing wrappers true)
  pieces-read wrappers (s ∷ pieces) u =
      ap (λ t. R.read wrappers true s ++ t) (pieces-read wrappers pieces u.1)
      ∙ sym (R.joins wrappers true s (all-pieces pieces) u.0 (all-pieces-show pieces u.1).utf8)

  module _ (addr : ℕ → R.Wrap) where
    agree-more : (around : List Around) (a : Around) → AllAgree R addr around → Agrees R addr a
        → AllAgree R addr (around ++ a ∷ [])
    agree-more [] a h e = (e, tt)
    agree-more (b ∷ around) a h e = (h.0, agree-more around a h.1 e)

    format-agrees : (f : Format) (c : Context) → Agree R addr c → Agree R addr (inside_format f c)
    format-agrees f c h = either (is_enough f c.around)
      where
        either : (b : Bool) → Agree R addr (cond b c (with_around c (formatted f)))
        either true = h
        either false = agree-more c.around (formatted f) h tt

    titled-agrees : (o : Option (List ℕ)) (c : Context) → Agree R addr c → Agree R addr (inside_title o c)
    titled-agrees None c h = h
    titled-agrees (Some title) c h = format-agrees (Abbreviation title) c h

    link-agrees : (id : ℕ) (s : List ℕ) (title : Option (List ℕ)) (c : Context) → Agree R addr c
        → R.as_link s ≡ addr id → Agree R addr (inside_link id s title c)
    link-agrees id s title c h e = either (list_any is_link c.around)
      where
        either : (b : Bool) → Agree R addr (cond b c (with_around c (linked id s title)))
        either true = h
        either false = agree-more c.around (linked id s title) h e

    sign-agrees : (facts : Facts) (c : Context) → Agree R addr c → Agree R addr (around_heading facts c)
    sign-agrees facts c h = either (facts.shows_sign && is_linked_to_part c)
      where
        either : (b : Bool) → Agree R addr (cond b (unlinked c) c)
        either true = unlinked-agrees R addr c h
        either false = h

    pub near-agrees : (n : ℕ) (attributes : List AttributePair) (c : Context) → Agree R addr c
        → Agree R addr (beside_code n attributes c)
    near-agrees zero attributes c h = h
    near-agrees (suc zero) attributes c h = h
    near-agrees (suc (suc n)) attributes c h = h

    -- the link of an element has its address
    abbrev pub HasAddress : ℕ → List AttributePair → Type 0
    HasAddress id attributes = R.as_link (address (text_of (codes "href") attributes)) ≡ addr id

    -- ---- leaves

    run-keeps : (s : List ℕ) (c : Context) → Agree R addr c → IsUtf8 s
        → Keep R addr c.is_flat (run_in c s ∷ []) (read_in R (shallow c) s)
    run-keeps s c a u = keep-run R addr c.is_flat s c.around c.is_code u a

    between-keeps : (s : List ℕ) (nodes : List Node) → NodesKeep R addr nodes → IsUtf8 s → (c : Context)
        → Agree R addr c
        → Keep R addr c.is_flat (between s nodes c)
        ((read_in R (shallow c) s ++ nodes_wrapped R nodes (shallow c)) ++ read_in R (shallow c) s)
    between-keeps s nodes h u c a =
        let cs : List R.Seen = read_in R (shallow c) s in
        let ds : List R.Seen = nodes_wrapped R nodes (shallow c) in
        keep-append R addr c.is_flat (run_in c s ∷ flow_all nodes c) (run_in c s ∷ []) (cs ++ ds) cs
        (keep-append R addr c.is_flat (run_in c s ∷ []) (flow_all nodes c) cs ds (run-keeps s c a u)
        (flow-keeps R addr nodes h c a))
        (run-keeps s c a u)

    pub image-keeps : (o : Option (List ℕ)) (attributes : List AttributePair) (c : Context) → Agree R addr c
        → IsUtf8 (text_of (codes "alt") attributes)
        → Keep R addr c.is_flat (image_parts o attributes c) (read_image R (shallow c) o attributes)
    image-keeps (Some s) attributes c a u =
        let alt : List ℕ = text_of (codes "alt") attributes in
        let h : Shows (description_of attributes) (visible alt) = in_line-shows alt u in
        record {
          linked = ((h.utf8, a), tt);
          is = append-nil (R.picture ++ R.read (map (read_around R) c.around) false (description_of attributes))
              ∙ ap (λ cs. R.picture ++ cs)
              (R.same (map (read_around R) c.around) false (description_of attributes) alt h.utf8 u h.is
              ∙ ap (λ k. R.read (map (read_around R) c.around) k alt) (sym (and-false c.is_code refl)));
        }
    image-keeps None attributes c a u =
        let alt : List ℕ = text_of (codes "alt") attributes in
        let s : List ℕ = description_of attributes in
        let h : Shows s (visible alt) = in_line-shows alt u in
        keep-same R addr c.is_flat (image_parts None attributes c)
        (R.read (map (read_around R) c.around) c.is_code alt) _
        (ap (λ k. R.read (map (read_around R) c.around) k alt) (sym (and-true c.is_code)))
        (keep-either R addr (is_filled s) c.is_flat (run_in c s
        ∷ []) [] (R.read (map (read_around R) c.around) c.is_code alt)
        (λ e. keep-same R addr c.is_flat (run_in c s ∷ []) (R.read (map (read_around R) c.around) c.is_code s) _
        (R.same (map (read_around R) c.around) c.is_code s alt h.utf8 u h.is) (run-keeps s c a h.utf8))
        (λ e. keep-same R addr c.is_flat [] [] _
        (sym (R.nothing (map (read_around R) c.around) c.is_code)
        ∙ R.same (map (read_around R) c.around) c.is_code [] alt shows-nil.utf8 u
        (ap visible (sym (unfilled s e)) ∙ h.is))
        (keep-nil R addr c.is_flat)))
      where
        and-true : (b : Bool) → (b && true) ≡ b
        and-true true = refl
        and-true false = refl

    -- a formula in a line
    math-keeps : (tex : List ℕ) (c : Context) → Agree R addr c → IsUtf8 tex
        → Keep R addr c.is_flat (math_in_line tex c) (read_in_line R (shallow c) tex)
    math-keeps tex c a u =
        let h : Shows (in_line tex) (visible tex) = in_line-shows tex u in
        let mark : Part = run_in c (dollar_sign ∷ []) in
        let inner : Part = run_in (in_code c) (in_line tex) in
        let cs : List R.Seen = read_in R (shallow c) (dollar_sign ∷ []) in
        let ds : List R.Seen = read_in R (in_code (shallow c)) tex in
        keep-append R addr c.is_flat (mark ∷ inner ∷ []) (mark ∷ []) (cs ++ ds) cs
        (keep-append R addr c.is_flat (mark ∷ []) (inner ∷ []) cs ds
        (run-keeps (dollar_sign ∷ []) c a dollar-shows.utf8)
        (keep-same R addr c.is_flat (inner ∷ []) (read_in R (in_code (shallow c)) (in_line tex)) ds
        (R.same (map (read_around R) c.around) true (in_line tex) tex h.utf8 u h.is)
        (run-keeps (in_line tex) (in_code c) a h.utf8)))
        (run-keeps (dollar_sign ∷ []) c a dollar-shows.utf8)

    flat-false : (b f : Bool) → (b && not f) ≡ true → f ≡ false
    flat-false true true e = absurd (clash e)
      where
        clash : false ≡ true → ⊥
        clash p = (cc)
    flat-false true false e = refl
    flat-false false f e = absurd (clash e)
      where
        clash : false ≡ true → ⊥
        clash p = (cc)

    pub formula-keeps : (tex : List ℕ) (is_alone : Bool) (c : Context) → Agree R addr c → IsUtf8 tex
        → Keep R addr c.is_flat (formula_parts tex is_alone c) (read_formula R (shallow c) is_alone tex)
    formula-keeps tex is_alone c a u =
        let feeds : Shows (with_line_feeds tex) (visible tex) =
        feeds-show tex (visible tex) (shows-itself tex u) in
        let held : Shows (trimmed (with_line_feeds tex)) (visible (with_line_feeds tex)) =
        trimmed-shows is_ascii_white_space ascii-white (with_line_feeds tex) feeds.utf8 in
        choice (is_alone && not c.is_flat) (apart (whole (math_block tex) ∷ [])) (math_in_line tex c)
        (λ b. cond b (R.read [] true tex) (read_in_line R (shallow c) tex))
        (λ e. keep-in R addr c.is_flat false (apart (whole (math_block tex) ∷ [])) (R.read [] true tex)
        (flat-false is_alone c.is_flat e)
        (keep-apart R addr false (whole (math_block tex) ∷ []) (R.read [] true tex)
        (keep-whole R addr (math_block tex) (R.read [] true tex)
        (R.same [] true (trimmed (with_line_feeds tex)) tex held.utf8 u (held.is ∙ feeds.is)))))
        (λ e. math-keeps tex c a u)
      where
        choice : (b : Bool) (ps qs : List Part) (cs : Bool → List R.Seen)
            → (b ≡ true → Keep R addr c.is_flat ps (cs true))
            → (b ≡ false → Keep R addr c.is_flat qs (cs false)) → Keep R addr c.is_flat (cond b ps qs) (cs b)
        choice true ps qs cs g h = g refl
        choice false ps qs cs g h = h refl

    -- anchors
    places-keep : (in_line : Bool) (ids : List (List ℕ)) → Keep R addr in_line (map place ids) (flat_map R.mark ids)
    places-keep in_line [] = keep-nil R addr in_line
    places-keep in_line (id ∷ ids) =
        let rest : Keep R addr in_line (map place ids) (flat_map R.mark ids) = places-keep in_line ids in
        record { linked = (tt, rest.linked); is = ap (λ t. R.mark id ++ t) rest.is }

    edge-keeps : (c : Context) → Agree R addr c → Keep R addr c.is_flat (embed_edge c ∷ []) []
    edge-keeps c a = either c.is_flat
      where
        either : (b : Bool) → Keep R addr c.is_flat (cond b (run_in c (space ∷ [])) edge ∷ []) []
        either true = keep-same R addr c.is_flat (run_in c (space ∷ []) ∷ []) (read_in R (shallow c) (space ∷ []))
            []
            (unseen R (map (read_around R) c.around) c.is_code (space ∷ []) space-shows)
            (run-keeps (space ∷ []) c a space-shows.utf8)
        either false = keep-edges R addr c.is_flat

    pub embed-keeps : (id : ℕ) (s title : List ℕ) (anchors : List (List ℕ)) (c : Context) → Agree R addr c
        → IsUtf8 title → R.as_link s ≡ addr id
        → Keep R addr c.is_flat (embed_parts id s title anchors c)
        (flat_map R.mark anchors ++ read_in R (inside_link id s None (shallow c)) title)
    embed-keeps id s title anchors c a u e =
        let d : Context = inside_link id s None c in
        let change : IsChange (inside_link id s None) c = link-change id s None c in
        let cs : List R.Seen = read_in R (inside_link id s None (shallow c)) title in
        let here : Keep R addr c.is_flat (run_in d title ∷ []) cs =
        keep-same R addr c.is_flat (run_in d title ∷ []) (read_in R (shallow d) title) cs
        (ap (λ x. read_in R x title) change.alike)
        (keep-in R addr c.is_flat d.is_flat (run_in d title ∷ []) (read_in R (shallow d) title) (sym change.flat)
        (run-keeps title d (link-agrees id s None c a e) u)) in
        let marks : List R.Seen = flat_map R.mark anchors in
        keep-append R addr c.is_flat (embed_edge c ∷ map place anchors) (run_in d title ∷ embed_edge c ∷ []) marks
        cs
        (keep-append R addr c.is_flat (embed_edge c ∷ []) (map place anchors) [] marks (edge-keeps c a)
        (places-keep c.is_flat anchors))
        (keep-after R addr c.is_flat (run_in d title ∷ []) (embed_edge c ∷ []) cs here (edge-keeps c a))

    box-keeps : (in_line : Bool) (attributes : List AttributePair) → Keep R addr in_line (box_parts attributes) []
    box-keeps in_line attributes =
        keep-either R addr (is_any_case (codes "checkbox") (text_of (codes "type") attributes)) in_line
        (box (has_attribute (codes "checked") attributes) ∷ []) [] []
        (λ e. record { linked = (tt, tt); is = refl }) (λ e. keep-nil R addr in_line)

    -- ---- blocks

    heading-keeps : (level : ℕ) (xs : Inlines) (cs : List R.Seen) → read_line R [] xs ≡ cs
        → Keep R addr false (heading_of level xs) cs
    heading-keeps level no_inlines cs h = keep-same R addr false [] [] cs h (keep-nil R addr false)
    heading-keeps level (inline x xs) cs h = keep-whole R addr (heading level (inline x xs)) cs h

    heading-parts-keep : (level : ℕ) (facts : Facts) (nodes : List Node) → NodesKeep R addr nodes → (c : Context)
        → Agree R addr c
        → Keep R addr c.is_flat (heading_parts level facts nodes c)
        (nodes_wrapped R nodes (inside_heading facts (shallow c)))
    heading-parts-keep level facts nodes h c a =
        let d : Context = in_one_line (around_heading facts c) in
        let xs : Inlines = line_of (flow_all nodes d) in
        let s : Context = shallow c in
        keep-apart R addr c.is_flat (if c.is_flat then flow_all nodes c else heading_of level xs)
        (nodes_wrapped R nodes (inside_heading facts s))
        (choice c.is_flat (flow_all nodes c) (heading_of level xs)
        (λ b. nodes_wrapped R nodes (cond b s (in_one_line (around_heading facts s))))
        (λ e. flow-keeps R addr nodes h c a)
        (λ e. keep-in R addr c.is_flat false (heading_of level xs)
        (nodes_wrapped R nodes (in_one_line (around_heading facts s))) e
        (heading-keeps level xs (nodes_wrapped R nodes (in_one_line (around_heading facts s)))
        (line-keeps R addr (flow_all nodes d) (nodes_wrapped R nodes (in_one_line (around_heading facts s)))
        (keep-same R addr true (flow_all nodes d) (nodes_wrapped R nodes (shallow d))
        (nodes_wrapped R nodes (in_one_line (around_heading facts s)))
        (ap (λ x. nodes_wrapped R nodes (in_one_line x)) (sign-change facts c).alike)
        (flow-keeps R addr nodes h d (sign-agrees facts c a)))))))
      where
        choice : (b : Bool) (ps qs : List Part) (cs : Bool → List R.Seen)
            → (b ≡ true → Keep R addr c.is_flat ps (cs true))
            → (b ≡ false → Keep R addr c.is_flat qs (cs false)) → Keep R addr c.is_flat (cond b ps qs) (cs b)
        choice true ps qs cs g h = g refl
        choice false ps qs cs g h = h refl

    quote-keeps : (bs : Blocks) (cs : List R.Seen) → read_blocks R bs ≡ cs → Keep R addr false (quote_of bs) cs
    quote-keeps no_blocks cs h = keep-same R addr false [] [] cs h (keep-nil R addr false)
    quote-keeps (block b bs) cs h = keep-whole R addr (quote (block b bs)) cs h

    quote-parts-keep : (nodes : List Node) → NodesKeep R addr nodes → (c : Context) → Agree R addr c
        → Keep R addr c.is_flat (quote_parts nodes c) (nodes_wrapped R nodes (shallow c))
    quote-parts-keep nodes h c a =
        let bs : Blocks = blocks_of false (flow_all nodes (deeper c)) in
        let cs : List R.Seen = nodes_wrapped R nodes (shallow c) in
        keep-apart R addr c.is_flat (if is_lined c then flow_all nodes c else quote_of bs) cs
        (keep-either R addr (is_lined c) c.is_flat (flow_all nodes c) (quote_of bs) cs
        (λ e. flow-keeps R addr nodes h c a)
        (λ e.
        let flat : c.is_flat ≡ false = not-flat c e in
        keep-in R addr c.is_flat false (quote_of bs) cs flat
        (quote-keeps bs cs
        (blocks-keep R addr false (flow_all nodes (deeper c)) cs
        (keep-in R addr false c.is_flat (flow_all nodes (deeper c)) cs (sym flat)
        (flow-keeps R addr nodes h (deeper c) a))))))

    code-keeps : (in_line : Bool) (pieces : List (List ℕ)) (around : List Around) → AreUtf8 pieces
        → AllAgree R addr around
        → Keep R addr in_line (code_parts pieces around) (flat_map (R.read (map (read_around R) around) true) pieces)
    code-keeps in_line [] around u a = keep-nil R addr in_line
    code-keeps in_line (s ∷ pieces) around u a =
        keep-append R addr in_line _ (edge ∷ code_parts pieces around) (R.read (map (read_around R) around) true s)
        (flat_map (R.read (map (read_around R) around) true) pieces)
        (keep-run R addr in_line s around true u.0 a)
        (keep-edge R addr in_line (code_parts pieces around)
        (flat_map (R.read (map (read_around R) around) true) pieces)
        (code-keeps in_line pieces around u.1 a))

    lines-keep : (in_line : Bool) (s : List ℕ) (around : List Around) (t : List ℕ) → Shows s (visible t)
        → IsUtf8 t
        → AllAgree R addr around
        → Keep R addr in_line (code_parts (lines_of s) around) (R.read (map (read_around R) around) true t)
    lines-keep in_line s around t h u a =
        let trimmed : Shows (trimmed_text is_line_feed s) (visible s) =
        trimmed-shows is_line_feed line_feed-white s h.utf8 in
        let pieces : PiecesShow (lines_of s) (visible (trimmed_text is_line_feed s)) =
        pieces-show is_line_feed line_feed-white (trimmed_text is_line_feed s) trimmed.utf8 in
        let all : Shows (all-pieces (lines_of s)) (pieces_seen (lines_of s)) =
        all-pieces-show (lines_of s) pieces.texts in
        keep-same R addr in_line (code_parts (lines_of s) around)
        (flat_map (R.read (map (read_around R) around) true) (lines_of s))
        (R.read (map (read_around R) around) true t)
        (pieces-read (map (read_around R) around) (lines_of s) pieces.texts
        ∙ R.same (map (read_around R) around) true (all-pieces (lines_of s)) t all.utf8 u
        (all.is ∙ (sym pieces.is ∙ (trimmed.is ∙ h.is))))
        (code-keeps in_line (lines_of s) around pieces.texts a)

    -- all is code; only in one line formats stand around it
    abbrev verbatim_wrapped : Bool → Context → List ℕ → List R.Seen
    verbatim_wrapped b c t = R.read (map (read_around R) (cond b c (record c { around = [] })).around) true t

    keep-choice : (b in_line : Bool) (ps qs : List Part) (cs : Bool → List R.Seen)
        → (b ≡ true → Keep R addr in_line ps (cs true))
        → (b ≡ false → Keep R addr in_line qs (cs false)) → Keep R addr in_line (cond b ps qs) (cs b)
    keep-choice true in_line ps qs cs g h = g refl
    keep-choice false in_line ps qs cs g h = h refl

    verbatim-keeps : (attributes : List AttributePair) (content : Simples) (s t : List ℕ) (c : Context)
        → Agree R addr c → Shows s (visible t) → IsUtf8 t
        → Keep R addr c.is_flat (text_in_lines attributes content s c) (verbatim_wrapped c.is_flat (shallow c) t)
    verbatim-keeps attributes content s t c a h u =
        let held : List ℕ = without_last_line_feed s in
        let kept : Shows held (visible t) = without-shows s (visible t) h in
        let body : List Part = apart (whole (code_block (language_of_block attributes (list_of content) c.near) held)
        ∷ []) in
        let lines : List Part = edge ∷ code_parts (lines_of s) c.around in
        keep-either R addr (is_blank_text s) c.is_flat (edge ∷ []) (if c.is_flat then lines else body)
        (verbatim_wrapped c.is_flat (shallow c) t)
        (λ e. keep-same R addr c.is_flat (edge ∷ []) [] (verbatim_wrapped c.is_flat (shallow c) t)
        (sym (unseen R (map (read_around R) (cond c.is_flat (shallow c)
        (record (shallow c) { around = [] })).around) true t
        (record { utf8 = u; is = sym h.is ∙ blank-seen s e }))) (keep-edges R addr c.is_flat))
        (λ e. keep-choice c.is_flat c.is_flat lines body (λ b. verbatim_wrapped b (shallow c) t)
        (λ f. keep-edge R addr c.is_flat (code_parts (lines_of s) c.around) (verbatim_wrapped true (shallow c) t)
        (lines-keep c.is_flat s c.around t h u a))
        (λ f. keep-in R addr c.is_flat false body (verbatim_wrapped false (shallow c) t) f
        (keep-apart R addr false (whole (code_block (language_of_block attributes (list_of content) c.near) held)
        ∷ [])
        (verbatim_wrapped false (shallow c) t)
        (keep-whole R addr (code_block (language_of_block attributes (list_of content) c.near) held)
        (verbatim_wrapped false (shallow c) t) (R.same [] true held t kept.utf8 u kept.is)))))

    rule-keeps : (in_line : Bool) → Keep R addr in_line (whole thematic_break ∷ []) []
    rule-keeps true = record { linked = (tt, tt); is = refl }
    rule-keeps false = keep-whole R addr thematic_break [] refl

    -- ---- each kind

    module _ (id : ℕ) (facts : Facts) (attributes : List AttributePair) (content : Simples) (nodes : List Node)
        (rows : List Row) (pieces : List TablePiece) (terms : List TermPart) (all : NodesKeep R addr nodes)
        (same : (c : Context) → nodes_wrapped R nodes c ≡ read_trees R content c false)
        (text : IsUtf8 (all_text_among content)) (c : Context) (a : Agree R addr c)
        (term-nodes : TermsKeep R addr terms)
        (term-says : terms_wrapped R terms (shallow c) ≡ read_trees R content (shallow c) false) where
      abbrev inner : Context → List R.Seen
      inner d = read_trees R content d false

      abbrev pub here-element : Element
      here-element = record {
        id = id;
        facts = facts;
        attributes = attributes;
        content = content;
        nodes = nodes;
        rows = rows;
        pieces = pieces;
        terms = terms;
      }

      flow : (d : Context) (s : Context) → d.is_flat ≡ c.is_flat → shallow d ≡ s → Agree R addr d
          → Keep R addr c.is_flat (flow_all nodes d) (inner s)
      flow d s e f b =
          keep-same R addr c.is_flat (flow_all nodes d) (nodes_wrapped R nodes (shallow d)) (inner s)
          (same (shallow d) ∙ ap inner f)
          (keep-in R addr c.is_flat d.is_flat (flow_all nodes d) (nodes_wrapped R nodes (shallow d)) (sym e)
          (flow-keeps R addr nodes all d b))

      changed : (change : Context → Context) → IsChange change c → Agree R addr (change c)
          → Keep R addr c.is_flat (flow_all nodes (change c)) (inner (change (shallow c)))
      changed change k b = flow (change c) (change (shallow c)) k.flat k.alike b

      here : Keep R addr c.is_flat (flow_all nodes c) (inner (shallow c))
      here = flow c (shallow c) refl refl a

      blocks : Keep R addr c.is_flat (apart (flow_all nodes c)) (inner (shallow c))
      blocks = keep-apart R addr c.is_flat (flow_all nodes c) (inner (shallow c)) here

      near : Keep R addr c.is_flat (near_parts here-element c) (inner (shallow c))
      near =
          let d : Context = beside_code facts.pres attributes c in
          let change = near-change facts.pres attributes c in
          keep-apart R addr c.is_flat (flow_all nodes d) (inner (shallow c))
          (flow d (shallow c) change.0 change.1 (near-agrees facts.pres attributes c a))

      lists : (start : Option ℤ) → Keep R addr c.is_flat (list_parts start nodes c) (inner (shallow c))
      lists start = keep-same R addr c.is_flat _ (nodes_wrapped R nodes (shallow c)) (inner (shallow c))
          (same (shallow c))
          (list-parts-keep R addr start nodes all c a)

      list-of-terms : Keep R addr c.is_flat (terms_by terms nodes c) (inner (shallow c))
      list-of-terms =
          keep-either R addr (has_elements c) c.is_flat (described_parts terms c) (term_parts terms nodes c)
          (inner (shallow c))
          (λ e. described-keeps R addr terms c (inner (shallow c)) term-nodes a (elements-unflat c e) term-says)
          (λ e. term-parts-keep R addr terms nodes c (inner (shallow c)) term-nodes all a e term-says
          (same (shallow c)))

      title : Keep R addr c.is_flat (title_parts here-element c) (inner (around_title content (shallow c)))
      title =
          let d : Context = around_title content c in
          let s : Context = around_title content (shallow c) in
          keep-apart R addr c.is_flat (flow_all nodes d) (inner s)
          (flow d s (title-flat content c) (title-alike content c) (title-agrees R addr content c a))

      titled-nodes : (t : BlockElement) (d : Context) → d.is_flat ≡ false → shallow d ≡ shallow c
          → Agree R addr d
          → Keep R addr false (titled t nodes d) (inner (shallow c))
      titled-nodes t d e f b =
          keep-same R addr false (titled t nodes d) (nodes_wrapped R nodes (shallow d)) (inner (shallow c))
          (same (shallow d) ∙ ap inner f)
          (titles-keep R addr t nodes all d b e)

      figure : Keep R addr c.is_flat (figure_at here-element c) (inner (shallow c))
      figure =
          let d : Context = beside_code facts.pres attributes c in
          let change = near-change facts.pres attributes c in
          let agree : Agree R addr d = near-agrees facts.pres attributes c a in
          let parts : List Part = if has_elements d then captioned nodes d else flow_all nodes d in
          keep-apart R addr c.is_flat parts (inner (shallow c))
          (keep-either R addr (has_elements d) c.is_flat (captioned nodes d) (flow_all nodes d) (inner (shallow c))
          (λ e.
          let flat : d.is_flat ≡ false = elements-unflat d e in
          keep-in R addr c.is_flat false (captioned nodes d) (inner (shallow c)) (sym change.0 ∙ flat)
          (figure-keeps R addr (list_any (λ (n : Node). shows_title name.FigureCaption n.tree) nodes)
          (titled name.FigureCaption nodes d) (inner (shallow c))
          (titled-nodes name.FigureCaption d flat change.1 agree)))
          (λ e. flow d (shallow c) change.0 change.1 agree))

      details : Keep R addr c.is_flat (details_parts attributes nodes c) (inner (shallow c))
      details =
          let made : List Part =
          element_part name.Details (open_attribute attributes) (blocks_of false (titled name.Summary nodes c)) in
          keep-apart R addr c.is_flat (if has_elements c then made else flow_all nodes c) (inner (shallow c))
          (keep-either R addr (has_elements c) c.is_flat made (flow_all nodes c) (inner (shallow c))
          (λ e.
          let flat : c.is_flat ≡ false = elements-unflat c e in
          keep-in R addr c.is_flat false made (inner (shallow c)) flat
          (element-part-keeps R addr name.Details (open_attribute attributes)
          (blocks_of false (titled name.Summary nodes c)) (inner (shallow c))
          (blocks-keep R addr false (titled name.Summary nodes c) (inner (shallow c))
          (titled-nodes name.Summary c flat refl a))))
          (λ e. here))

      heads : (level : ℕ) → Keep R addr c.is_flat (heading_parts level facts nodes c)
          (inner (inside_heading facts (shallow c)))
      heads level = keep-same R addr c.is_flat (heading_parts level facts nodes c)
          (nodes_wrapped R nodes (inside_heading facts (shallow c)))
          (inner (inside_heading facts (shallow c))) (same (inside_heading facts (shallow c)))
          (heading-parts-keep level facts nodes all c a)

      quotes : Keep R addr c.is_flat (quote_parts nodes c) (inner (shallow c))
      quotes = keep-same R addr c.is_flat (quote_parts nodes c) (nodes_wrapped R nodes (shallow c)) (inner (shallow c))
          (same (shallow c)) (quote-parts-keep nodes all c a)

      spaces-around : Keep R addr c.is_flat (between (space ∷ []) nodes c) (inner (shallow c))
      spaces-around =
          let none : read_in R (shallow c) (space ∷ []) ≡ [] =
          unseen R (map (read_around R) c.around) c.is_code (space ∷ []) space-shows in
          keep-same R addr c.is_flat (between (space ∷ []) nodes c)
          ((read_in R (shallow c) (space ∷ []) ++ nodes_wrapped R nodes (shallow c))
          ++ read_in R (shallow c) (space ∷ []))
          (inner (shallow c))
          (ap (λ t. (t ++ nodes_wrapped R nodes (shallow c)) ++ t) none
          ∙ (append-nil (nodes_wrapped R nodes (shallow c)) ∙ same (shallow c)))
          (between-keeps (space ∷ []) nodes all space-shows.utf8 c a)

      codes-kept : Keep R addr c.is_flat (verbatim_parts attributes content c)
          (read_in R (inside_verbatim (shallow c)) (all_text_among content))
      codes-kept = verbatim-keeps attributes content (with_line_feeds (all_text_among content))
          (all_text_among content) c a
          (feeds-show (all_text_among content) (visible (all_text_among content))
          (shows-itself (all_text_among content) text)) text

      anchored : Keep R addr c.is_flat (anchors_apart nodes c) (inner (shallow c))
      anchored = keep-either R addr c.is_flat c.is_flat (flow_all nodes c) (apart (flow_all nodes c))
          (inner (shallow c))
          (λ e. here) (λ e. blocks)

      unlinked-kept : Keep R addr c.is_flat (flow_all nodes (unlinked c)) (inner (unlinked (shallow c)))
      unlinked-kept = changed unlinked (record { flat = refl; alike = refl }) (unlinked-agrees R addr c a)

      -- a table keeps what is in it
      abbrev TableKeeps : Type 0
      TableKeeps = Keep R addr c.is_flat (table_parts (list_of content) nodes rows c)
          (read_trees R content (shallow c) (is_grid_of content))

      abbrev pub RichTableKeeps : Type 0
      RichTableKeeps = Keep R addr c.is_flat (rich_table_at here-element c) (read_trees R content (shallow c) false)

      pub element-keeps : (r : Role) → (roles.is_link r ≡ true → HasAddress id attributes)
          → (is_of_table r ≡ true → has_elements c ≡ false → TableKeeps)
          → (is_of_table r ≡ true → has_elements c ≡ true → RichTableKeeps)
          → Keep R addr c.is_flat (parts_of r here-element c)
          (read_by R r id facts attributes (all_text_among content) (is_grid_of content) (read_trees R content)
          (around_node (element id r facts attributes content) (shallow c)) false)
      element-keeps (role.Format f) l k j =
          changed (inside_format (of_format f)) (format-change (of_format f) c) (format-agrees (of_format f) c a)
      element-keeps (role.Element f) l k j =
          changed (inside_format (of_element f)) (format-change (of_element f) c) (format-agrees (of_element f) c a)
      element-keeps role.Abbreviation l k j =
          let o : Option (List ℕ) = title_of attributes in
          changed (inside_title o) (title-change o c) (titled-agrees o c a)
      element-keeps role.Code l k j = changed in_code (record { flat = refl; alike = refl }) a
      element-keeps role.Typed l k j = changed in_code (record { flat = refl; alike = refl }) a
      element-keeps role.Link l k j =
          let s : List ℕ = address (text_of (codes "href") attributes) in
          changed (linked_by id attributes) (link-change id s (title_of attributes) c)
          (link-agrees id s (title_of attributes) c a (l refl))
      element-keeps role.Unlinked l k j = unlinked-kept
      element-keeps role.Target l k j = here
      element-keeps role.Plain l k j = here
      element-keeps role.Apart l k j = spaces-around
      element-keeps role.LineBreak l k j = record { linked = (tt, tt); is = refl }
      element-keeps role.Input l k j =
          keep-append R addr c.is_flat (box_parts attributes) (flow_all nodes c) [] (inner (shallow c))
          (box-keeps c.is_flat attributes) here
      element-keeps role.Anchors l k j = anchored
      element-keeps (role.Heading level) l k j = heads level
      element-keeps role.Preformatted l k j = codes-kept
      element-keeps role.Verbatim l k j = codes-kept
      element-keeps role.BlockQuote l k j = quotes
      element-keeps role.ThematicBreak l k j = rule-keeps c.is_flat
      element-keeps role.BulletList l k j = lists None
      element-keeps role.NumberedList l k j = lists (Some (start_of attributes))
      element-keeps role.Terms l k j = list-of-terms
      element-keeps role.Table l k j = table
        where
          and-true : (b : Bool) → (b && true) ≡ b
          and-true true = refl
          and-true false = refl

          and-false : (b : Bool) → (b && false) ≡ false
          and-false true = refl
          and-false false = refl

          grid : Bool
          grid = is_grid_of content

          table : Keep R addr c.is_flat (table_at here-element c)
              (read_trees R content (shallow c) (grid && not (has_elements c)))
          table =
              keep-either R addr (has_elements c) c.is_flat (rich_table_at here-element c)
              (table_parts (list_of content) nodes rows c)
              (read_trees R content (shallow c) (grid && not (has_elements c)))
              (λ e. keep-same R addr c.is_flat (rich_table_at here-element c) (read_trees R content (shallow c) false)
              (read_trees R content (shallow c) (grid && not (has_elements c)))
              (ap (λ b. read_trees R content (shallow c) b) (sym (ap (λ b. grid && not b) e ∙ and-false grid)))
              (j refl e))
              (λ e. keep-same R addr c.is_flat (table_parts (list_of content) nodes rows c)
              (read_trees R content (shallow c) grid) (read_trees R content (shallow c) (grid && not (has_elements c)))
              (ap (λ b. read_trees R content (shallow c) b) (sym (ap (λ b. grid && not b) e ∙ and-true grid)))
              (k refl e))
      element-keeps role.Division l k j = near
      element-keeps role.Figure l k j = figure
      element-keeps role.Details l k j = details
      element-keeps role.Term l k j = title
      element-keeps role.Caption l k j = title
      element-keeps role.FigureCaption l k j = title
      element-keeps role.Summary l k j = title
      element-keeps role.Cell l k j = near
      element-keeps r l k j = blocks
