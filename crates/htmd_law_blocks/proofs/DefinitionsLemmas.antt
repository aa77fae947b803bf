-- The link definitions after a document's blocks, and the laws.
use Rattle.std.proofs.Common.{◌≡◌, ◌∙◌, refl, sym, ap, ℕ, Bool, true, false, not, List, [], ◌∷◌, ◌++◌, append_assoc}
use Rattle.std.proofs.lemmas.List.{append-nil}
use Rattle.std.specs.Prelude.{◌==◌, Option}
use Rattle.htmd_document.specs.Documents as documents
use Rattle.htmd_commonmark.specs.declared.options.DocumentOptions.{DocumentOptions}
use Rattle.htmd_commonmark.specs.BlockMarkdown.{separator}
use Rattle.htmd_commonmark.specs.DocumentMarkdown.{outermost, flat_markdown, written_definitions}
use Rattle.htmd_commonmark_reading.specs.LinkDefinitions.{Definition}
use Rattle.htmd_commonmark_reading.specs.Lines.{placed}
use Rattle.htmd_commonmark_reading.specs.Boxes.{quoting, listing, ClosedBlock, text, headed, code, rule, html, grid}
use Rattle.htmd_commonmark_reading.specs.Boxes.{defined, boxed, ClosedBlocks, no_closed_blocks, closed_block, joined}
use Rattle.htmd_commonmark_reading.specs.Boxes.{joined_lines, definition_parts, parts_of}
use Rattle.htmd_commonmark_reading.specs.Brackets.{References, inlines}
use Rattle.htmd_commonmark_reading.specs.Markup.{Inlines, block, list}
use Rattle.htmd_commonmark_reading.specs.Lists.{Gapped, no_gapped, shown, hidden, listed, plain, with_item}
use Rattle.htmd_commonmark_reading.specs.Lists.{with_closed_block, gapped, item_gapped, collected}
use Rattle.htmd_commonmark_reading.specs.Containers.{parsed}
use Rattle.htmd_commonmark_reading.specs.Reading.{parts, finished}
use Rattle.htmd_law_blocks.specs.DocumentParts.{document_parts}
use Rattle.htmd_law_blocks.specs.NormalBlocks.{HasBlock, AreNormalBlocks}
use Rattle.htmd_law_blocks.specs.DocumentTexts.{DocumentTexts, AreOneLine, DefinitionTexts}
use Rattle.htmd_law_blocks.specs.BlockLaws.{definition_lines, parts_with, BlocksReadBack, ListsReadBack}
use Rattle.htmd_law_blocks.proofs.LinesLemmas.{joined_none, joined_assoc}
use Rattle.htmd_law_blocks.proofs.ChainsLemmas.{Last}
use Rattle.htmd_law_blocks.proofs.PiecesLemmas.{flat, Pieces, no_pieces, piece, pieces_lines, piece_parts, pieces_parts}
use Rattle.htmd_law_blocks.proofs.PiecesLemmas.{piece_joined, is_boxed, IsFilled, AreGood, pieces_read_back}
use Rattle.htmd_law_blocks.proofs.LeavesLemmas.{paragraph_reads}
use Rattle.htmd_law_blocks.proofs.TextsLemmas.{AreClean, joined_more, read_lines}
use Rattle.htmd_law_blocks.proofs.PieceTextsLemmas.{CleanPieces, piece_text, pieces_text, further_text, filled_is_text}
use Rattle.htmd_law_blocks.proofs.PieceTextsLemmas.{filled_joined}
use Rattle.htmd_law_blocks.proofs.FlatLemmas.{one_clean, further_full}
use Rattle.htmd_law_blocks.proofs.DocumentPieces.{first_pieces, first_same, first_written}
use Rattle.htmd_law_blocks.proofs.DocumentReadBack.{document_filled}
use Rattle.htmd_law_blocks.specs.DocumentBlocks.{document_read}
use Rattle.htmd_law_blocks.proofs.CollectedLemmas.{all_collected}
use Rattle.htmd_law_blocks.proofs.GroupsLemmas.{document_grouped}

-- ---- pieces after others

abbrev appended : Pieces → Pieces → Pieces
appended no_pieces qs = qs
appended (piece g p ps) qs = piece g p (appended ps qs)

appended_parts : (ps qs : Pieces) → pieces_parts (appended ps qs) ≡ joined (pieces_parts ps) (pieces_parts qs)
appended_parts no_pieces qs = refl
appended_parts (piece g p ps) qs =
    let one = piece_parts g p no_closed_blocks in
    ap (piece_parts g p) (appended_parts ps qs)
    ∙ sym (piece_joined g p (joined (pieces_parts ps) (pieces_parts qs)))
    ∙ sym (joined_assoc one (pieces_parts ps) (pieces_parts qs))
    ∙ ap (λ (x : ClosedBlocks). joined x (pieces_parts qs)) (piece_joined g p (pieces_parts ps))

good_appended : (ps qs : Pieces) (m : Last) → AreGood m ps → ((n : Last) → AreGood n qs) → AreGood m
    (appended ps qs)
good_appended no_pieces qs m h i = i m
good_appended (piece g p ps) qs m h i = (h.0, h.1, good_appended ps qs (is_boxed p) h.2 i)

filled_appended : (ps qs : Pieces) → IsFilled ps → ((n : Last) → AreGood n qs) → IsFilled (appended ps qs)
filled_appended no_pieces qs h i = absurd h
filled_appended (piece g p ps) qs h i = (h.0, h.1, good_appended ps qs (is_boxed p) h.2 i)

clean_appended : (ps qs : Pieces) → CleanPieces ps → CleanPieces qs → CleanPieces (appended ps qs)
clean_appended no_pieces qs h i = i
clean_appended (piece g p ps) qs h i = (h.0, clean_appended ps qs h.1 i)

further_appended : (ps qs : Pieces) → further_text (appended ps qs) ≡ further_text ps ++ further_text qs
further_appended no_pieces qs = refl
further_appended (piece g p ps) qs =
    ap (λ (x : List ℕ). separator (not g) ++ (piece_text p ++ x)) (further_appended ps qs)
    ∙ ap (λ (x : List ℕ). separator (not g) ++ x) (sym (append_assoc (piece_text p) (further_text ps)
    (further_text qs)))
    ∙ sym (append_assoc (separator (not g)) (piece_text p ++ further_text ps) (further_text qs))

text_appended : (ps qs : Pieces) → IsFilled ps → pieces_text (appended ps qs) ≡ pieces_text ps ++ further_text qs
text_appended no_pieces qs h = absurd h
text_appended (piece g p ps) qs h =
    ap (λ (x : List ℕ). piece_text p ++ x) (further_appended ps qs)
    ∙ sym (append_assoc (piece_text p) (further_text ps) (further_text qs))

-- ---- definitions as a piece

abbrev definition_pieces : List (List ℕ) → List Definition → Pieces
definition_pieces [] found = no_pieces
definition_pieces (l ∷ ls) [] = no_pieces
definition_pieces (l ∷ ls) (d ∷ ds) =
    piece true (flat (l ∷ ls) (defined d) (definition_parts false ds no_closed_blocks)) no_pieces

one_lines_clean : (ls : List (List ℕ)) → AreOneLine ls → AreClean ls
one_lines_clean [] h = tt
one_lines_clean (l ∷ ls) h = (one_clean l h.0 h.1, one_lines_clean ls h.2)

definitions_parts : (ls : List (List ℕ)) (found : List Definition) → DefinitionTexts ls found
    → pieces_parts (definition_pieces ls found) ≡ definition_parts true found no_closed_blocks
definitions_parts [] found h = ap (λ (x : List Definition). definition_parts true x no_closed_blocks) (sym h)
definitions_parts (l ∷ ls) [] h = refl
definitions_parts (l ∷ ls) (d ∷ ds) h =
    ap (closed_block true (defined d)) (joined_none (definition_parts false ds no_closed_blocks))

definitions_good : (ls : List (List ℕ)) (found : List Definition) → DefinitionTexts ls found
    → ((n : Last) → AreGood n (definition_pieces ls found)) × CleanPieces (definition_pieces ls found)
definitions_good [] found h = ((λ n. tt), tt)
definitions_good (l ∷ ls) [] h = ((λ n. tt), tt)
definitions_good (l ∷ ls) (d ∷ ds) h =
    let r = paragraph_reads l ls (defined d) (definition_parts false ds no_closed_blocks) record {
      first = h.lines.0;
      further = h.lines.1;
      leaves = λ g. ap (parts_of g text) h.all;
    } in
    ((λ n. (tt, r, tt)), ((one_lines_clean (l ∷ ls) h.one_line, further_full l ls h.lines.0.black h.lines.1), tt))

definitions_text : (ls : List (List ℕ)) (found : List Definition) → DefinitionTexts ls found
    → further_text (definition_pieces ls found) ≡ written_definitions ls
definitions_text [] found h = refl
definitions_text (l ∷ ls) [] h = absurd (h.some refl)
definitions_text (l ∷ ls) (d ∷ ds) h =
    ap (λ (x : List ℕ). 10 ∷ 10 ∷ x) (append-nil (joined_lines (l ∷ ls)) ∙ ap (λ (x : List ℕ). l ++ x)
    (sym (joined_more ls)))

-- ---- the law of blocks

some_read_back : (o : DocumentOptions) (d : documents.Blocks) (found : List Definition) → HasBlock d
    → AreNormalBlocks d → DocumentTexts o d → DefinitionTexts (definition_lines o d) found
    → parts (flat_markdown o d) ≡ parts_with o d found
some_read_back o d found n h w v =
    let ds = definition_lines o d in
    let ps = first_pieces o outermost [] d in
    let qs = definition_pieces ds found in
    let good = document_filled o d n h w in
    let more = definitions_good ds found v in
    let filled = filled_appended ps qs good.0 more.0 in
    let clean = clean_appended ps qs good.1 more.1 in
    let is = filled_is_text (appended ps qs) filled clean in
    let e : flat_markdown o d ≡ joined_lines (pieces_lines (appended ps qs)) =
    ap (λ (x : List ℕ). x ++ written_definitions ds) (sym (first_written o outermost [] d h))
    ∙ ap (λ (x : List ℕ). pieces_text ps ++ x) (sym (definitions_text ds found v))
    ∙ sym (text_appended ps qs good.0)
    ∙ filled_joined (appended ps qs) filled clean in
    ap parts e
    ∙ ap (λ (ls : List (List ℕ)). parsed (placed ls)) (read_lines (pieces_lines (appended ps qs)) is.0 is.1)
    ∙ pieces_read_back (appended ps qs) filled
    ∙ appended_parts ps qs
    ∙ ap (λ (x : ClosedBlocks). joined x (pieces_parts qs)) (first_same o outermost [] d h)
    ∙ ap (joined (document_parts o d)) (definitions_parts ds found v)

pub blocks_read_back : BlocksReadBack
blocks_read_back o documents.no_blocks found h w v =
    ap (λ (ds : List Definition). definition_parts true ds no_closed_blocks) (sym v)
blocks_read_back o (documents.block b bs) found h w v = some_read_back o (documents.block b bs) found tt h w v

-- ---- definitions don't show

-- nothing that shows
abbrev IsHidden : Gapped → Type 0
IsHidden no_gapped = Unit {0}
IsHidden (shown g b rest) = ⊥
IsHidden (hidden g rest) = IsHidden rest
IsHidden (listed g sign start t items rest) = ⊥

abbrev before_hidden : Gapped → Gapped → Gapped
before_hidden no_gapped h = h
before_hidden (shown g b rest) h = shown g b (before_hidden rest h)
before_hidden (hidden g rest) h = hidden g (before_hidden rest h)
before_hidden (listed g sign start t items rest) h = listed g sign start t items (before_hidden rest h)

hidden_plain : (h : Gapped) → IsHidden h → plain h ≡ plain no_gapped
hidden_plain no_gapped i = refl
hidden_plain (shown g b rest) i = absurd i
hidden_plain (hidden g rest) i = hidden_plain rest i
hidden_plain (listed g sign start t items rest) i = absurd i

plain_before : (r h : Gapped) → IsHidden h → plain (before_hidden r h) ≡ plain r
plain_before no_gapped h i = hidden_plain h i
plain_before (shown g b rest) h i = ap (block b) (plain_before rest h i)
plain_before (hidden g rest) h i = plain_before rest h i
plain_before (listed g sign start t items rest) h i = ap (block (list start t items)) (plain_before rest h i)

item_before : (g : Bool) (sign : ℕ) (number : Option ℕ) (c r h : Gapped) → IsHidden h
    → with_item g sign number c (before_hidden r h) ≡ before_hidden (with_item g sign number c r) h
item_before g sign number c no_gapped no_gapped i = refl
item_before g sign number c no_gapped (shown f b rest) i = absurd i
item_before g sign number c no_gapped (hidden f rest) i = refl
item_before g sign number c no_gapped (listed f other start t items rest) i = absurd i
item_before g sign number c (shown f b rest) h i = refl
item_before g sign number c (hidden f rest) h i = refl
item_before g sign number c (listed f other start t items rest) h i = go (sign == other) refl
  where
    go : (b : Bool) → (sign == other) ≡ b
        → with_item g sign number c (before_hidden (listed f other start t items rest) h)
        ≡ before_hidden (with_item g sign number c (listed f other start t items rest)) h
    go true e = rw e refl
    go false e = rw e refl

part_before : (refs : References) (reads : List ℕ → Inlines) (g : Bool) (p : ClosedBlock) (r h : Gapped)
    → IsHidden h
    → with_closed_block refs reads g p (before_hidden r h) ≡ before_hidden (with_closed_block refs reads g p r) h
part_before refs reads g (text s) r h i = refl
part_before refs reads g (headed level s) r h i = refl
part_before refs reads g (code language s) r h i = refl
part_before refs reads g rule r h i = refl
part_before refs reads g (html s) r h i = refl
part_before refs reads g (grid alignments header rows) r h i = refl
part_before refs reads g (defined d) r h i = refl
part_before refs reads g (boxed quoting ps) r h i = refl
part_before refs reads g (boxed (listing sign number columns) ps) r h i =
    item_before g sign number (item_gapped refs ps) r h i

gapped_before : (refs : References) (ps qs : ClosedBlocks) → IsHidden (gapped refs qs)
    → gapped refs (joined ps qs) ≡ before_hidden (gapped refs ps) (gapped refs qs)
gapped_before refs no_closed_blocks qs i = refl
gapped_before refs (closed_block g p ps) qs i =
    ap (with_closed_block refs (inlines refs) g p) (gapped_before refs ps qs i)
    ∙ part_before refs (inlines refs) g p (gapped refs ps) (gapped refs qs) i

definitions_hidden : (refs : References) (g : Bool) (found : List Definition)
    → IsHidden (gapped refs (definition_parts g found no_closed_blocks))
definitions_hidden refs g [] = tt
definitions_hidden refs g (d ∷ ds) = definitions_hidden refs false ds

pub lists_read_back : ListsReadBack
lists_read_back o d found h w v =
    let ps = parts_with o d found in
    let refs = collected ps in
    let ds = definition_parts true found no_closed_blocks in
    let i = definitions_hidden refs true found in
    ap finished (blocks_read_back o d found h w v)
    ∙ ap plain (gapped_before refs (document_parts o d) ds i)
    ∙ plain_before (gapped refs (document_parts o d)) (gapped refs ds) i
    ∙ document_grouped refs o d h
    ∙ ap (λ (x : References). document_read x o d) (all_collected o d found)
