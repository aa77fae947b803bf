-- Which stacks of open elements end in `html`, and in how many modes a start tag is processed.
use Rattle.std.proofs.Common.{◌≡◌, [], ◌∷◌, true, false, refl}
use Rattle.std.specs.Prelude.{codes}
use Rattle.htmd_html5_state.specs.Names.{known, html, svg}
use Rattle.htmd_html5_state.specs.OpenElements.{OpenValue}
use Rattle.htmd_html5_state.specs.Insertion.{opened}
use Rattle.htmd_html5.specs.BodyEnds.{text_end_rule}
use Rattle.htmd_html5.specs.BodyStarts.{block_rule, formatting_rule, phrasing_rule}
use Rattle.htmd_html5.specs.Html5Documents.{state_after}
use Rattle.htmd_html5.specs.Tokens.{TokenValue, start_tag}
use Rattle.htmd_law_html5.specs.EndedElements.{ends_in_html, is_ended}
use Rattle.htmd_law_html5.specs.EndedTurns.{is_done_within}
use Rattle.htmd_html5_state.specs.declared.names.TagName.TheVariants as tags

abbrev root : OpenValue
root = opened 1 (html (known tags.Html))

abbrev body : OpenValue
body = opened 3 (html (known tags.Body))

the_body_stands_in_the_root : ends_in_html (body ∷ root ∷ []) ≡ true
the_body_stands_in_the_root = refl

the_body_is_no_end : ends_in_html (root ∷ body ∷ []) ≡ false
the_body_is_no_end = refl

nor_is_a_foreign_element : ends_in_html (opened 1 (svg (codes "html")) ∷ []) ≡ false
nor_is_a_foreign_element = refl

nothing_is_open_at_first : is_ended [] [] ≡ true
nothing_is_open_at_first = refl

the_root_opens : is_ended [] (root ∷ []) ≡ true
the_root_opens = refl

the_root_stays : is_ended (root ∷ []) [] ≡ false
the_root_stays = refl

end_tags_leave_it : ends_in_html (state_after true (codes "<table><td></table></body></html></td>")).stack ≡ true
unfolding block_rule formatting_rule phrasing_rule text_end_rule
end_tags_leave_it = refl

-- ---- in how many modes

abbrev cell : TokenValue
cell = start_tag (record { name = known tags.Td; attributes = []; self_closing = false })

-- in the table, in its section and in the row
a_cell_takes_three : is_done_within 3 cell (state_after true (codes "<table>")) ≡ true
unfolding block_rule formatting_rule phrasing_rule
a_cell_takes_three = refl

two_are_too_few : is_done_within 2 cell (state_after true (codes "<table>")) ≡ false
unfolding block_rule formatting_rule phrasing_rule
two_are_too_few = refl
