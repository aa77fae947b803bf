-- Leaves and elements of rich documents give parts that show where something of them shows, and then only.
use Rattle.std.proofs.Common.{◌≡◌, ℕ, Bool, true, false, cond, not, ◌&&◌, ◌||◌, List, [], ◌∷◌, ◌++◌, refl, sym, ap, ◌∙◌}
use Rattle.std.proofs.Common.{subst, map, Option, Some, None, arith}
use Rattle.std.specs.Prelude.{codes}
use Rattle.std.specs.List.{list_any, list_all}
use Rattle.std.specs.Str.{IsUtf8, chars}
use Rattle.std.proofs.lemmas.Bool.Decides.{nat_tests}
use Rattle.std.proofs.lemmas.Str.{chars-nil}
use Rattle.htmd_lexical.specs.AttributePairs.{AttributePair}
use Rattle.htmd_lexical.specs.Characters.{line_feed, space}
use Rattle.htmd_lexical.proofs.Cases.{test}
use Rattle.htmd_text.specs.Trims.{trimmed_text, is_line_feed}
use Rattle.htmd_document.specs.Documents.{Blocks, no_blocks, block, Inlines, no_inlines, inline, code_block}
use Rattle.htmd_document.specs.Documents.{thematic_break}
use Rattle.htmd_document.specs.Formats.{Format, Abbreviation, of_format, of_element}
use Rattle.htmd_document.specs.TightItems.{is_filled}
use Rattle.htmd_shown.specs.declared.facts.Facts.{Facts}
use Rattle.htmd_shown.specs.declared.role.Role.{Role}
use Rattle.htmd_shown.specs.declared.role.Role.TheVariants as role
use Rattle.htmd_shown.specs.AllTexts.{all_text, all_text_among, text_in, ends_line, dollar_sign, with_line_feeds}
use Rattle.htmd_shown.specs.AllTexts.{is_line, lines_of, without_last_line_feed}
use Rattle.htmd_shown.specs.Attributes.{text_of, in_line, address, title_of, has_attribute, is_any_case}
use Rattle.htmd_shown.specs.Attributes as attribute
use Rattle.htmd_shown.specs.Marks.{letters, letters_of, letters_among}
use Rattle.htmd_shown.specs.Roles as roles
use Rattle.htmd_shown.specs.Showings.{show, image_shows, code_shows, element_shows}
use Rattle.htmd_shown.specs.ShownTexts.{shown_text}
use Rattle.htmd_shown.specs.SimpleTrees.{Simple, text, image, formula, embedded, anchor, element, Simples, none, more}
use Rattle.htmd_shown.specs.Spaces.{is_white, is_blank_text}
use Rattle.htmd_flow.specs.Contexts.{Context, has_elements, is_lined, with_around, is_link, is_enough, inside_format}
use Rattle.htmd_flow.specs.Contexts.{inside_link, inside_title, unlinked, is_linked_to_part, in_code, in_one_line}
use Rattle.htmd_flow.specs.Contexts.{deeper, run_in, apart, beside_code}
use Rattle.htmd_flow.specs.Flows.{Element, flow_all, nodes_of, rows_of_table, pieces_of, terms_of, image_parts}
use Rattle.htmd_flow.specs.Flows.{math_block, math_in_line, formula_parts, embed_edge, embed_parts, box_parts}
use Rattle.htmd_flow.specs.Flows.{linked_by, heading_of, around_heading, heading_parts, quote_of, quote_parts}
use Rattle.htmd_flow.specs.Flows.{code_parts, verbatim_parts, start_of, has_role, term_parts, terms_by, table_at}
use Rattle.htmd_flow.specs.Flows.{rich_table_at, table_parts, figure_at, around_title, parts_of, described_parts}
use Rattle.htmd_flow.specs.Flows.{line_of}
use Rattle.htmd_flow.specs.Grids.{is_empty_cell}
use Rattle.htmd_flow.specs.Languages.{language_of_block}
use Rattle.htmd_flow.specs.Levels.{list_of}
use Rattle.htmd_flow.specs.Nodes as nodes
use Rattle.htmd_flow.specs.Parts.{Around, formatted, linked, Part, run, place, box, edge, whole, break}
use Rattle.htmd_law_documents.specs.DocumentTexts.{visible}
use Rattle.htmd_law_documents.specs.SimpleForms.{IsMade, IsSound, AreSound}
use Rattle.htmd_law_documents.proofs.VisibleLemmas.{Shows, shows-append, shows-nil, shows-itself, shown-shows}
use Rattle.htmd_law_documents.proofs.VisibleLemmas.{seen-same, both-true}
use Rattle.htmd_law_documents.proofs.PiecesLemmas.{line_feed-white, pieces_seen, PiecesShow, pieces-show, in_line-shows}
use Rattle.htmd_law_documents.proofs.PiecesLemmas.{unfilled}
use Rattle.htmd_law_documents.proofs.CodeLemmas.{feeds-show, trimmed-shows, blank-seen}
use Rattle.htmd_law_documents.proofs.ElementLemmas.{dollars-show, feed-shows, line-shows}
use Rattle.htmd_law_documents.proofs.NormalTextLemmas.{true-false, false-true, from-not, neither}
use Rattle.htmd_law_documents.proofs.NormalLettersLemmas.{blank-visible, shown-characters, line-characters}
use Rattle.htmd_law_documents.proofs.NormalValueLemmas.{IsClean}
use Rattle.htmd_law_documents.proofs.NormalCodeLemmas.{feeds-clean}
use Rattle.htmd_law_documents.proofs.NormalNodesLemmas.{not-flat}
use Rattle.htmd_law_documents.proofs.NormalFilledLemmas.{is_showing, Seen, parts-filled, parts-line}
use Rattle.htmd_law_documents.proofs.NormalSeenLemmas.{or-none, or-true, any-append, seen-append, seen-as, seen-before}
use Rattle.htmd_law_documents.proofs.NormalSeenLemmas.{seen-apart, seen-either, Sits, sits-either, sits-unlinked}
use Rattle.htmd_law_documents.proofs.NormalSeenLemmas.{sits-title, sits-near, sits-elements, GivesSeen, AllSeen}
use Rattle.htmd_law_documents.proofs.NormalSeenLemmas.{show_nodes, list-parts-seen, show-nodes, content-flow}
use Rattle.htmd_law_documents.proofs.NormalSeenTableLemmas.{RowsSeen, line-table-seen}
use Rattle.htmd_law_documents.proofs.NormalSeenPiecesLemmas.{PiecesSeen, rich-table-seen}
use Rattle.htmd_law_documents.proofs.NormalSeenTermLemmas.{TermsSeen, terms-shown, described-seen, details-seen}
use Rattle.htmd_law_documents.proofs.NormalSeenTermLemmas.{figure-seen}
use Rattle.htmd_law_documents.proofs.NormalElementLemmas.{IsLevel}
use lib.Utf8.{encode}

not-not : (b : Bool) → not b ≡ false → b ≡ true
not-not true e = refl
not-not false e = true-false e

-- ---- leaves

pub run-seen : (flat : Bool) (s : List ℕ) (around : List Around) (k : Bool)
    → Seen flat (not (is_blank_text s)) (run s around k ∷ [])
run-seen flat s around k = at (is_blank_text s)
  where
    at : (b : Bool) → cond (not b) (not b || false) (b && true) ≡ true
    at true = refl
    at false = refl

-- what an image says, in one line or not
pub blank-line : (s : List ℕ) → IsUtf8 s → is_blank_text (in_line s) ≡ is_blank_text (shown_text s)
blank-line s u =
    blank-visible (in_line s) (line-characters s u)
    ∙ (ap (λ cs. not (attribute.is_filled cs)) ((in_line-shows s u).is ∙ sym (shown-shows s u).is)
    ∙ sym (blank-visible (shown_text s) (shown-characters s u)))

nothing-blank : is_blank_text [] ≡ true
nothing-blank = ap (list_all is_white) chars-nil

pub image-seen : (flat : Bool) (o : Option (List ℕ)) (attributes : List AttributePair)
    → IsUtf8 (text_of (codes "alt") attributes)
    → GivesSeen flat (image_shows o attributes) (image_parts o attributes)
image-seen flat (Some s) attributes u c h = refl
image-seen flat None attributes u c h =
    let alt : List ℕ = text_of (codes "alt") attributes in
    let d : List ℕ = in_line alt in
    let b : Bool = not (is_blank_text d) in
    seen-as flat b (image_shows None attributes) (image_parts None attributes c) (ap not (blank-line alt u))
    (seen-either flat b (attribute.is_filled d) (run_in c d ∷ []) [] (λ e. run-seen flat d c.around c.is_code)
    (λ e. seen-as flat false b [] (sym (ap not (ap is_blank_text (unfilled d e) ∙ nothing-blank))) refl))

dollar-black : is_blank_text (dollar_sign ∷ []) ≡ false
unfolding chars encode
dollar-black = refl

pub formula-seen : (flat : Bool) (tex : List ℕ) (is_alone : Bool) → GivesSeen flat true (formula_parts tex is_alone)
formula-seen flat tex is_alone c s =
    seen-either flat true (is_alone && not c.is_flat) (apart (whole (math_block tex) ∷ [])) (math_in_line tex c)
    (λ e.
    let blocks : flat ≡ false =
    sym s.line ∙ from-not c.is_flat (both-true is_alone (not c.is_flat) e).1 in
    subst (λ (f : Bool). Seen f true (apart (whole (math_block tex) ∷ []))) (sym blocks) refl)
    (λ e. ap (λ b. not b
    || list_any (is_showing flat) (run_in (in_code c) (in_line tex) ∷ run_in c (dollar_sign ∷ []) ∷ []))
    dollar-black)

pub embed-seen : (flat : Bool) (id : ℕ) (s title : List ℕ) (ids : List (List ℕ)) → is_blank_text title ≡ false
    → GivesSeen flat true (embed_parts id s title ids)
embed-seen flat id s title ids e c h =
    let front : List Part = embed_edge c ∷ map place ids in
    let p : Part = run_in (inside_link id s None c) title in
    any-append (is_showing flat) front (p ∷ embed_edge c ∷ [])
    ∙ (ap (λ b. list_any (is_showing flat) front || (not b || list_any (is_showing flat) (embed_edge c ∷ []))) e
    ∙ or-true (list_any (is_showing flat) front))

-- ---- code

-- what is seen of all text
element-letters : (r : Role) (facts : Facts) (content : Simples) (inner : List ℕ) → IsMade r facts content
    → Shows inner (letters_among content) → Shows (text_in r inner) (letters_among content)
element-letters role.LineBreak facts content inner m h =
    seen-same (line_feed ∷ []) [] (letters_among content) (sym (ap letters_among (m.empty refl))) feed-shows
element-letters r facts content inner m h =
    line-shows (is_line r inner) (ends_line inner) inner (letters_among content) h

mutual
  letters-said : (t : Simple) → IsSound t → Shows (all_text t) (letters_of t)
  letters-said (text s) u = shows-itself s u
  letters-said (image o attributes) u = shown-shows (text_of (codes "alt") attributes) u
  letters-said (formula tex is_alone attributes) u = dollars-show (in_line tex) (letters tex) (in_line-shows tex u)
  letters-said (embedded id link title attributes ids) u = shows-itself title u
  letters-said (anchor id) u = shows-nil
  letters-said (element id r facts attributes content) u =
      element-letters r facts content (all_text_among content) u.0 (all-letters-said content u.1)

  pub all-letters-said : (ts : Simples) → AreSound ts → Shows (all_text_among ts) (letters_among ts)
  all-letters-said none u = shows-nil
  all-letters-said (more t ts) u =
      shows-append (all_text t) (all_text_among ts) (letters_of t) (letters_among ts) (letters-said t u.0)
      (all-letters-said ts u.1)

lines-some : (flat : Bool) (pieces : List (List ℕ)) (around : List Around) → (pieces_seen pieces ≡ [] → ⊥)
    → list_any (is_showing flat) (code_parts pieces around) ≡ true
lines-some flat [] around h = absurd (h refl)
lines-some flat (t ∷ pieces) around h =
    let rest : Bool = list_any (is_showing flat) (code_parts pieces around) in
    test (is_blank_text t)
    (λ e. ap (λ b. not b || rest) e
    ∙ lines-some flat pieces around (λ v. h (ap (λ x. x ++ pieces_seen pieces) (blank-seen t e) ∙ v)))
    (λ e. ap (λ b. not b || rest) e)

verbatim-seen : (flat : Bool) (attributes : List AttributePair) (content : Simples)
    → IsClean (all_text_among content) → AreSound content
    → GivesSeen flat (code_shows content) (verbatim_parts attributes content)
verbatim-seen flat attributes content clean u c h =
    let b : Bool = code_shows content in
    seen-either flat b (is_blank_text s) (edge ∷ []) (cond c.is_flat lines body)
    (λ e. seen-as flat false b (edge ∷ []) (sym (from-not b (sym black ∙ e))) refl)
    (λ e.
    let seen : b ≡ true = not-not b (sym black ∙ e) in
    seen-as flat true b (cond c.is_flat lines body) (sym seen) (at seen c.is_flat h.line))
  where
    all : List ℕ
    all = all_text_among content

    s : List ℕ
    s = with_line_feeds all

    t : List ℕ
    t = trimmed_text is_line_feed s

    lines : List Part
    lines = edge ∷ code_parts (lines_of s) c.around

    body : List Part
    body = apart (whole (code_block (language_of_block attributes (list_of content) c.near)
        (without_last_line_feed s)) ∷ [])

    said : Shows s (letters_among content)
    said = feeds-show all (letters_among content) (all-letters-said content u)

    black : is_blank_text s ≡ not (code_shows content)
    black = blank-visible s (feeds-clean all clean).shown ∙ ap (λ cs. not (attribute.is_filled cs)) said.is

    some : code_shows content ≡ true → pieces_seen (lines_of s) ≡ [] → ⊥
    some e v =
        let trimmed : Shows t (visible s) = trimmed-shows is_line_feed line_feed-white s said.utf8 in
        let pieces : PiecesShow (lines_of s) (visible t) = pieces-show is_line_feed line_feed-white t trimmed.utf8 in
        none (sym (ap attribute.is_filled (sym said.is ∙ (sym trimmed.is ∙ (pieces.is ∙ v)))) ∙ e)
      where
        none : attribute.is_filled [] ≡ true → ⊥
        none e = grind (arith, nat_tests)

    at : code_shows content ≡ true → (x : Bool) → x ≡ flat → Seen flat true (cond x lines body)
    at e true f = lines-some flat (lines_of s) c.around (some e)
    at e false f = subst (λ (y : Bool). Seen y true body) f refl

-- ---- blocks

heading-of-seen : (b : Bool) (level : ℕ) (xs : Inlines) → is_empty_cell xs ≡ not b
    → Seen false b (heading_of level xs)
heading-of-seen true level no_inlines e = true-false e
heading-of-seen false level no_inlines e = refl
heading-of-seen true level (inline x xs) e = refl
heading-of-seen false level (inline x xs) e = false-true e

heading-seen : (flat : Bool) (level : ℕ) (facts : Facts) (content : Simples)
    → ((f : Bool) → AllSeen f (nodes_of content))
    → GivesSeen flat (show (flat || true) content) (heading_parts level facts (nodes_of content))
heading-seen true level facts content h c s =
    let flow : List Part = flow_all (nodes_of content) c in
    let xs : Inlines = line_of (flow_all (nodes_of content) (in_one_line (around_heading facts c))) in
    let b : Bool = show true content in
    seen-apart true b (cond c.is_flat flow (heading_of level xs))
    (seen-either true b c.is_flat flow (heading_of level xs) (λ e. content-flow true content (h true) c s)
    (λ e. true-false (sym s.line ∙ e)))
heading-seen false level facts content h c s =
    let flow : List Part = flow_all (nodes_of content) c in
    let d : Context = in_one_line (around_heading facts c) in
    let xs : Inlines = line_of (flow_all (nodes_of content) d) in
    let b : Bool = show true content in
    let around : Sits false (around_heading facts c) =
    sits-either (facts.shows_sign && is_linked_to_part c) (unlinked c) c (sits-unlinked c s) s in
    seen-apart false b (cond c.is_flat flow (heading_of level xs))
    (seen-either false b c.is_flat flow (heading_of level xs) (λ e. false-true (sym s.line ∙ e))
    (λ e. heading-of-seen b level xs
    (parts-line b (flow_all (nodes_of content) d)
    (content-flow true content (h true) d (record { rich = around.rich; line = refl })))))

quote-seen : (b : Bool) (bs : Blocks) → is_filled bs ≡ b → Seen false b (quote_of bs)
quote-seen true no_blocks e = false-true e
quote-seen false no_blocks e = refl
quote-seen true (block b bs) e = refl
quote-seen false (block b bs) e = true-false e

break-seen : (flat : Bool) → Seen flat (not flat) (whole thematic_break ∷ [])
break-seen true = refl
break-seen false = refl

-- ---- elements

pub record SeenInside (content : Simples) : Type 0 where
  pub nodes : (flat : Bool) → AllSeen flat (nodes_of content)
  pub rows : (flat : Bool) → RowsSeen flat (rows_of_table content)
  pub pieces : PiecesSeen (pieces_of content)
  pub terms : TermsSeen (terms_of content)

module _ (id : ℕ) (facts : Facts) (attributes : List AttributePair) (content : Simples)
    (text : IsClean (all_text_among content)) (u : AreSound content) (inside : SeenInside content) where
  abbrev of_content : Element
  of_content = record {
    id = id;
    facts = facts;
    attributes = attributes;
    content = content;
    nodes = nodes_of content;
    rows = rows_of_table content;
    pieces = pieces_of content;
    terms = terms_of content;
  }

  terms-seen : (flat : Bool)
      → GivesSeen flat (show flat content) (terms_by (terms_of content) (nodes_of content))
  terms-seen true c s =
      let b : Bool = show true content in
      let ts = terms_of content in
      let flow : List Part = flow_all (nodes_of content) c in
      let off : Bool = is_lined c || not (list_any (has_role roles.is_term) ts) in
      seen-either true b (has_elements c) (described_parts ts c) (term_parts ts (nodes_of content) c)
      (λ e. false-true (sym (sits-elements true c s) ∙ e))
      (λ e. seen-either true b off (apart flow) _
      (λ i. seen-apart true b flow (content-flow true content (inside.nodes true) c s))
      (λ i. true-false
      (sym s.line ∙ not-flat c (neither (is_lined c) (not (list_any (has_role roles.is_term) ts)) i).0)))
  terms-seen false c s =
      let b : Bool = show false content in
      let ts = terms_of content in
      seen-either false b (has_elements c) (described_parts ts c) (term_parts ts (nodes_of content) c)
      (λ e. seen-as false _ b (described_parts ts c) (sym (terms-shown content))
      (described-seen ts inside.terms c s))
      (λ e. true-false (sym (sits-elements false c s) ∙ e))

  table-seen : (flat : Bool) → GivesSeen flat (show flat content) (table_at of_content)
  table-seen true c s =
      seen-either true (show true content) (has_elements c) (rich_table_at of_content c)
      (table_parts (list_of content) (nodes_of content) (rows_of_table content) c)
      (λ e. false-true (sym (sits-elements true c s) ∙ e))
      (λ e. line-table-seen content u (inside.nodes true) (inside.rows true) c s)
  table-seen false c s =
      seen-either false (show false content) (has_elements c) (rich_table_at of_content c)
      (table_parts (list_of content) (nodes_of content) (rows_of_table content) c)
      (λ e. rich-table-seen content attributes u (inside.nodes false) inside.pieces c s)
      (λ e. true-false (sym (sits-elements false c s) ∙ e))

  module _ (flat : Bool) (c : Context) (s : Sits flat c) where
    abbrev seen : Bool
    seen = show flat content

    -- it shows where its content does
    same : (ps : List Part) → Seen flat seen ps → Seen flat (show (flat || false) content) ps
    same ps h = seen-as flat seen (show (flat || false) content) ps (ap (λ b. show b content) (sym (or-none flat))) h

    by-nodes : (ps : List Part) → Seen flat (show_nodes flat (nodes_of content)) ps
        → Seen flat (show (flat || false) content) ps
    by-nodes ps h =
        same ps (seen-as flat (show_nodes flat (nodes_of content)) seen ps (sym (show-nodes flat content)) h)

    here : (d : Context) → Sits flat d → Seen flat seen (flow_all (nodes_of content) d)
    here d g = content-flow flat content (inside.nodes flat) d g

    blocks : (d : Context) → Sits flat d
        → Seen flat (show (flat || false) content) (apart (flow_all (nodes_of content) d))
    blocks d g =
        same (apart (flow_all (nodes_of content) d)) (seen-apart flat seen (flow_all (nodes_of content) d) (here d g))

    flow : (d : Context) → Sits flat d → Seen flat (show (flat || false) content) (flow_all (nodes_of content) d)
    flow d g = same (flow_all (nodes_of content) d) (here d g)

    sits-format : (f : Format) → Sits flat (inside_format f c)
    sits-format f =
        sits-either (is_enough f c.around) c (with_around c (formatted f)) s (record { rich = s.rich; line = s.line })

    sits-abbreviation : (o : Option (List ℕ)) → Sits flat (inside_title o c)
    sits-abbreviation None = s
    sits-abbreviation (Some title) = sits-format (Abbreviation title)

    sits-link : Sits flat (linked_by id attributes c)
    sits-link =
        let a : Around = linked id (address (text_of (codes "href") attributes)) (title_of attributes) in
        sits-either (list_any is_link c.around) c (with_around c a) s (record { rich = s.rich; line = s.line })

    space-quiet : Seen flat false (run_in c (space ∷ []) ∷ [])
    unfolding chars
    space-quiet = refl

    between-seen : Seen flat seen
        ((run_in c (space ∷ []) ∷ flow_all (nodes_of content) c) ++ run_in c (space ∷ []) ∷ [])
    between-seen =
        let a : Part = run_in c (space ∷ []) in
        seen-before flat seen (a ∷ flow_all (nodes_of content) c) (a ∷ [])
        (seen-append flat false seen (a ∷ []) (flow_all (nodes_of content) c) space-quiet (here c s)) space-quiet

    box-quiet : Seen flat false (box_parts attributes)
    box-quiet = at (is_any_case (codes "checkbox") (text_of (codes "type") attributes))
      where
        at : (b : Bool)
            → Seen flat false (cond b (box (has_attribute (codes "checked") attributes) ∷ []) [])
        at true = refl
        at false = refl

    quotes : Seen flat seen (quote_parts (nodes_of content) c)
    quotes =
        let ps : List Part = flow_all (nodes_of content) (deeper c) in
        let bs : Blocks = nodes.blocks_of false ps in
        let plain : List Part = flow_all (nodes_of content) c in
        seen-apart flat seen (cond (is_lined c) plain (quote_of bs))
        (seen-either flat seen (is_lined c) plain (quote_of bs) (λ e. here c s)
        (λ e.
        let no : flat ≡ false = sym s.line ∙ not-flat c e in
        subst (λ (f : Bool). Seen f seen (quote_of bs)) (sym no)
        (quote-seen seen bs
        (parts-filled false seen ps
        (subst (λ (f : Bool). Seen f seen ps) no
        (here (deeper c) (record { rich = s.rich; line = s.line })))))))

    pub element-seen : (r : Role) → IsLevel r → IsMade r facts content
        → Seen flat (element_shows flat r content) (parts_of r of_content c)
    element-seen (role.Format g) k m = flow (inside_format (of_format g) c) (sits-format (of_format g))
    element-seen (role.Element g) k m = flow (inside_format (of_element g) c) (sits-format (of_element g))
    element-seen role.Abbreviation k m =
        flow (inside_title (title_of attributes) c) (sits-abbreviation (title_of attributes))
    element-seen role.Code k m = flow (in_code c) (record { rich = s.rich; line = s.line })
    element-seen role.Typed k m = flow (in_code c) (record { rich = s.rich; line = s.line })
    element-seen role.Link k m = flow (linked_by id attributes c) sits-link
    element-seen role.Unlinked k m = flow (unlinked c) (sits-unlinked c s)
    element-seen role.Target k m = flow c s
    element-seen role.Plain k m = flow c s
    element-seen role.Apart k m =
        same ((run_in c (space ∷ []) ∷ flow_all (nodes_of content) c) ++ run_in c (space ∷ []) ∷ [])
        between-seen
    element-seen role.LineBreak k m =
        seen-as flat false (show (flat || false) content) (break ∷ [])
        (sym (ap (show (flat || false)) (m.empty refl)))
        refl
    element-seen role.Input k m =
        same (box_parts attributes ++ flow_all (nodes_of content) c)
        (seen-append flat false seen (box_parts attributes) (flow_all (nodes_of content) c) box-quiet (here c s))
    element-seen role.Anchors k m = absurd k
    element-seen (role.Heading level) k m = heading-seen flat level facts content inside.nodes c s
    element-seen role.Preformatted k m = verbatim-seen flat attributes content text u c s
    element-seen role.Verbatim k m = verbatim-seen flat attributes content text u c s
    element-seen role.BlockQuote k m = same (quote_parts (nodes_of content) c) quotes
    element-seen role.ThematicBreak k m = break-seen flat
    element-seen role.BulletList k m =
        by-nodes (nodes.list_parts None (nodes_of content) c)
        (list-parts-seen flat None (nodes_of content) (inside.nodes flat) c s)
    element-seen role.NumberedList k m =
        by-nodes (nodes.list_parts (Some (start_of attributes)) (nodes_of content) c)
        (list-parts-seen flat (Some (start_of attributes)) (nodes_of content) (inside.nodes flat) c s)
    element-seen role.Terms k m =
        same (terms_by (terms_of content) (nodes_of content) c) (terms-seen flat c s)
    element-seen role.Table k m = same (table_at of_content c) (table-seen flat c s)
    element-seen role.Details k m =
        by-nodes (parts_of role.Details of_content c)
        (details-seen flat attributes (nodes_of content) (inside.nodes flat) c s)
    element-seen role.Figure k m =
        by-nodes (figure_at of_content c)
        (figure-seen flat (nodes_of content) (inside.nodes flat) (beside_code facts.pres attributes c)
        (sits-near facts.pres attributes c s))
    element-seen role.Term k m = blocks (around_title content c) (sits-title content c s)
    element-seen role.Caption k m = blocks (around_title content c) (sits-title content c s)
    element-seen role.FigureCaption k m = blocks (around_title content c) (sits-title content c s)
    element-seen role.Summary k m = blocks (around_title content c) (sits-title content c s)
    element-seen role.Division k m = blocks (beside_code facts.pres attributes c) (sits-near facts.pres attributes c s)
    element-seen role.Cell k m = blocks (beside_code facts.pres attributes c) (sits-near facts.pres attributes c s)
    element-seen r k m = blocks c s
