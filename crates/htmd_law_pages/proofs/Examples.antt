-- Worked rows: letters that can be seen, the pieces of pages, and where they stand.
use Rattle.std.proofs.Common.{◌≡◌, true, false, List, [], ◌∷◌, refl, codes}
use Rattle.std.specs.Str.{chars}
use Rattle.htmd_nodes.specs.NumberedTrees.{forest_from, tree_of}
use Rattle.htmd_html5_state.specs.Adoption.{move_last, wrap_children}
use Rattle.htmd_html5.specs.BodyEnds.{text_end_rule}
use Rattle.htmd_html5.specs.BodyStarts.{block_rule, formatting_rule, phrasing_rule}
use Rattle.htmd_html5.specs.Html5Documents.{html5_document}
use Rattle.htmd_law_html5.specs.PageLetters.{token_texts}
use Rattle.htmd_flow.specs.Flows.{node_of}
use Rattle.htmd_shown.specs.Roles.{role_of, table_role, heading_or_block, block_role, inline_role, element_role}
use Rattle.htmd_shown.specs.Shown.{Sight, shown}
use Rattle.htmd_document_of_tree.specs.declared.anchors.Anchors.TheVariants as which
use Rattle.htmd_document_of_tree.specs.TreeDocuments.{document_by, document_of_tree}
use Rattle.htmd_law_documents.specs.DocumentTexts.{text_of_blocks}
use Rattle.htmd_law_pages.specs.Pieces.{Piece, shown as a_shown, hidden, said, texts_of_page, texts_of_document}
use Rattle.htmd_law_pages.specs.Pieces.{hidden_texts, said_texts}
use Rattle.htmd_law_pages.specs.PageTexts.{is_seen, seen_of, seen_in, page_pieces, page_document}
use lib.Utf8.{encode}

-- ---- letters that can be seen

a_is_seen : is_seen 0x61 ≡ true
a_is_seen = refl

a_quotation_mark_is_seen : is_seen 0x22 ≡ true
a_quotation_mark_is_seen = refl

a_dollar_sign_is_not : is_seen 0x24 ≡ false
a_dollar_sign_is_not = refl

a_wide_space_is_not : is_seen 0xA0 ≡ false
a_wide_space_is_not = refl

nor_is_the_replacement : is_seen 0xFFFD ≡ false
nor_is_the_replacement = refl

nor_is_the_byte_order_mark : is_seen 0xFEFF ≡ false
nor_is_the_byte_order_mark = refl

-- ---- the pieces of a list

abbrev some : List Piece
some = a_shown (codes "a b") ∷ hidden (codes "c") ∷ said (codes "d") ∷ []

in_the_page : texts_of_page some ≡ codes "a b" ∷ codes "c" ∷ []
in_the_page = refl

in_the_document : texts_of_document some ≡ codes "a b" ∷ codes "d" ∷ []
in_the_document = refl

in_the_page_alone : hidden_texts some ≡ codes "c" ∷ []
in_the_page_alone = refl

in_the_document_alone : said_texts some ≡ codes "d" ∷ []
in_the_document_alone = refl

seen_of_these : seen_in (texts_of_document some) ≡ codes "abd"
unfolding chars encode
seen_of_these = refl

-- ---- the pieces of a page

abbrev with_scripts : Sight
with_scripts = record { scripting = true; skip = []; is_rich = false }

abbrev without_scripts : Sight
without_scripts = record { scripting = false; skip = codes "nav" ∷ []; is_rich = false }

a_script_is_hidden : page_pieces with_scripts (codes "a<script>b</script>c")
    ≡ a_shown (codes "a") ∷ hidden (codes "b") ∷ a_shown (codes "c") ∷ []
unfolding html5_document block_rule formatting_rule phrasing_rule text_end_rule move_last wrap_children forest_from
    tree_of role_of table_role heading_or_block block_role inline_role element_role shown
a_script_is_hidden = refl

a_description_is_said : page_pieces with_scripts (codes "<q>a<img alt=b></q>")
    ≡ said (codes "\"") ∷ a_shown (codes "a") ∷ said (codes "b") ∷ said (codes "\"") ∷ []
unfolding html5_document block_rule formatting_rule phrasing_rule text_end_rule move_last wrap_children forest_from
    tree_of role_of table_role heading_or_block block_role inline_role element_role shown
a_description_is_said = refl

a_skipped_element_is_hidden : page_pieces without_scripts (codes "<nav>a</nav><noscript>b</noscript>")
    ≡ hidden (codes "a") ∷ a_shown (codes "b") ∷ []
unfolding html5_document block_rule formatting_rule phrasing_rule text_end_rule move_last wrap_children forest_from
    tree_of role_of table_role heading_or_block block_role inline_role element_role shown
a_skipped_element_is_hidden = refl

-- the texts of a table's page, in another order
a_table_moves_text : page_pieces with_scripts (codes "<table><td>a</td>b")
    ≡ a_shown (codes "b") ∷ a_shown (codes "a") ∷ []
unfolding html5_document block_rule formatting_rule phrasing_rule text_end_rule move_last wrap_children forest_from
    tree_of role_of table_role heading_or_block block_role inline_role element_role shown
a_table_moves_text = refl

its_tokens : token_texts true (codes "<table><td>a</td>b") ≡ codes "a" ∷ codes "b" ∷ []
unfolding block_rule formatting_rule phrasing_rule text_end_rule
its_tokens = refl

-- frames drop text, so no piece has it
frames_have_no_piece : page_pieces with_scripts (codes "<frameset>a") ≡ []
unfolding html5_document block_rule formatting_rule phrasing_rule text_end_rule move_last wrap_children forest_from
    tree_of role_of table_role heading_or_block block_role inline_role element_role shown
frames_have_no_piece = refl

-- ---- a whole page

its_letters : seen_in (token_texts true (codes "<q>a<script>b</script><img alt=c></q>")) ≡ codes "ab"
unfolding chars encode block_rule formatting_rule phrasing_rule text_end_rule
its_letters = refl

its_document : seen_of (text_of_blocks (page_document which.Linked with_scripts
    (codes "<q>a<script>b</script><img alt=c></q>"))) ≡ codes "\"ac\""
unfolding chars encode html5_document block_rule formatting_rule phrasing_rule text_end_rule move_last wrap_children
    forest_from tree_of role_of table_role heading_or_block block_role inline_role element_role shown
    document_by document_of_tree node_of
its_document = refl
