-- Which characters are letters, the texts of a tree, and pages whose letters are lost.
use Rattle.std.proofs.Common.{◌≡◌, true, false, [], ◌∷◌, refl}
use Rattle.std.specs.Prelude.{codes, Some}
use Rattle.htmd_nodes.specs.Items.{document_item, text_node, comment_node}
use Rattle.htmd_html5_state.specs.Adoption.{move_last, wrap_children}
use Rattle.htmd_html5.specs.BodyEnds.{text_end_rule}
use Rattle.htmd_html5.specs.BodyStarts.{block_rule, formatting_rule, phrasing_rule}
use Rattle.htmd_html5.specs.Html5Documents.{state_after, html5_document}
use Rattle.htmd_law_html5.specs.PageLetters.{is_letter, texts_of, token_texts}
use Rattle.htmd_law_html5.specs.DocumentLetters.{node_texts, all_texts_are_taken}
use Rattle.htmd_law_html5.specs.KeptLetters.{is_whole}
use Rattle.htmd_law_html5.specs.DroppedTexts.{no_tag_drops_text}
use Rattle.htmd_law_html5.specs.LetterOrder.{no_tag_moves_text}
use Rattle.htmd_law_html5.specs.TextKept.{kept_texts, no_tag_comes_late, no_null_comes}

a_is_one : is_letter 0x61 ≡ true
a_is_one = refl

a_digit_is_one : is_letter 0x31 ≡ true
a_digit_is_one = refl

a_space_is_none : is_letter 0x20 ≡ false
a_space_is_none = refl

null_is_none : is_letter 0 ≡ false
null_is_none = refl

the_replacement_is_none : is_letter 0xFFFD ≡ false
the_replacement_is_none = refl

texts_alone : texts_of (document_item ∷ record { parent = Some 0; depth = 1; node_data = text_node (codes "a") }
    ∷ record { parent = Some 0; depth = 1; node_data = comment_node (codes "b") } ∷ []) ≡ codes "a" ∷ []
texts_alone = refl

-- ---- texts that are taken

frames_drop_text : all_texts_are_taken true (codes "<frameset>x") ≡ false
unfolding block_rule formatting_rule phrasing_rule
frames_drop_text = refl

columns_of_a_template_drop_text : all_texts_are_taken true (codes "<template><col>x") ≡ false
unfolding block_rule formatting_rule phrasing_rule
columns_of_a_template_drop_text = refl

text_ends_a_column_group : all_texts_are_taken true (codes "<table><colgroup>x") ≡ true
unfolding block_rule formatting_rule phrasing_rule
text_ends_a_column_group = refl

-- the texts of a page, and of its document
texts_of_a_page : token_texts true (codes "<table>a<td>b") ≡ codes "a" ∷ codes "b" ∷ []
unfolding block_rule formatting_rule phrasing_rule
texts_of_a_page = refl

texts_of_a_document : node_texts (state_after true (codes "<table>a<td>b")).nodes ≡ codes "a" ∷ codes "b" ∷ []
unfolding block_rule formatting_rule phrasing_rule
texts_of_a_document = refl

-- ---- tags that drop no text

a_start_tag_of_frames_counts : no_tag_drops_text true (codes "a<FrameSet>") ≡ false
unfolding block_rule formatting_rule phrasing_rule
a_start_tag_of_frames_counts = refl

an_end_tag_drops_no_text : no_tag_drops_text true (codes "<table><col>a</template>") ≡ true
unfolding block_rule formatting_rule phrasing_rule
an_end_tag_drops_no_text = refl

-- ---- documents in one piece

formatting_is_in_one_piece : is_whole (state_after true (codes "<b>a<p>b</b>c")).nodes ≡ true
unfolding block_rule formatting_rule phrasing_rule text_end_rule move_last wrap_children
formatting_is_in_one_piece = refl

frames_take_the_place_of_the_body : is_whole (state_after true (codes "<div><style>x</style><frameset>")).nodes
    ≡ false
unfolding block_rule formatting_rule phrasing_rule
frames_take_the_place_of_the_body = refl

-- ---- letters in order

a_start_tag_of_a_table_counts : no_tag_moves_text true (codes "<p>a<table>") ≡ false
unfolding block_rule formatting_rule phrasing_rule
a_start_tag_of_a_table_counts = refl

a_row_without_a_table_moves_no_text : no_tag_moves_text true (codes "<tr>a<col></table>") ≡ true
unfolding block_rule formatting_rule phrasing_rule text_end_rule
a_row_without_a_table_moves_no_text = refl

text_goes_before_a_table : texts_of (html5_document true (codes "<table><td>a</td>b")) ≡ codes "b" ∷ codes "a"
    ∷ []
unfolding block_rule formatting_rule phrasing_rule html5_document
text_goes_before_a_table = refl

a_select_keeps_the_order : texts_of (html5_document true (codes "a<select><option>b</select><title>c"))
    ≡ codes "a" ∷ codes "b" ∷ codes "c" ∷ []
unfolding block_rule formatting_rule phrasing_rule html5_document
a_select_keeps_the_order = refl

formatting_keeps_the_order : texts_of (html5_document true (codes "<b>a<p>b</b>c")) ≡ codes "a" ∷ codes "b"
    ∷ codes "c" ∷ []
unfolding block_rule formatting_rule phrasing_rule text_end_rule move_last wrap_children html5_document
formatting_keeps_the_order = refl

-- ---- text that is kept

white_space_before_the_head_goes : kept_texts true (codes " <html> <head> a") ≡ [] ∷ [] ∷ codes " a" ∷ []
unfolding block_rule formatting_rule phrasing_rule
white_space_before_the_head_goes = refl

white_space_from_the_head_on_stays : texts_of (html5_document true (codes " <html> <head> <body> a <i> b"))
    ≡ codes " " ∷ codes " a " ∷ codes " b" ∷ []
unfolding block_rule formatting_rule phrasing_rule html5_document
white_space_from_the_head_on_stays = refl

a_line_feed_goes : kept_texts true (codes "<pre>\n\na\n") ≡ codes "\na\n" ∷ []
unfolding block_rule formatting_rule phrasing_rule
a_line_feed_goes = refl

a_style_after_the_head_comes_late : no_tag_comes_late true (codes "<head></head> <style>a</style>") ≡ false
unfolding block_rule formatting_rule phrasing_rule text_end_rule
a_style_after_the_head_comes_late = refl

in_the_body_it_does_not : no_tag_comes_late true (codes "<head></head> <body><style>a</style>") ≡ true
unfolding block_rule formatting_rule phrasing_rule text_end_rule
in_the_body_it_does_not = refl

it_goes_before_white_space : texts_of (html5_document true (codes "<head></head> <style>a</style>"))
    ≡ codes "a" ∷ codes " " ∷ []
unfolding block_rule formatting_rule phrasing_rule text_end_rule html5_document
it_goes_before_white_space = refl

a_page_with_null : no_null_comes true (0x61 ∷ 0 ∷ []) ≡ false
a_page_with_null = refl

a_page_without : no_null_comes true (codes "a<p>b") ≡ true
unfolding block_rule formatting_rule phrasing_rule
a_page_without = refl
