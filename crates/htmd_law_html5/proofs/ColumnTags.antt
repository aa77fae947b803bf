-- Start tags of `col` and `colgroup`, which begin columns in a table.
use Rattle.std.proofs.Common.{◌≡◌, true, false, List, [], refl, sym, ap, subst}
use Rattle.std.proofs.lemmas.Bool.{true≢false, cond_both}
use Rattle.htmd_lexical.specs.AttributePairs.{AttributePair}
use Rattle.htmd_html5_state.specs.Names.{NameValue, known, html}
use Rattle.htmd_html5_state.specs.Nodes.{element}
use Rattle.htmd_html5_state.specs.OpenElements.{clear_to, is_in_scope}
use Rattle.htmd_html5_state.specs.State.{StateValue}
use Rattle.htmd_html5_state.specs.Insertion.{place}
use Rattle.htmd_html5_state.specs.declared.modes.InsertionMode.{InsertionMode}
use Rattle.htmd_html5_state.specs.declared.modes.InsertionMode.TheVariants.{Initial, BeforeHtml, BeforeHead, InHead}
use Rattle.htmd_html5_state.specs.declared.modes.InsertionMode.TheVariants.{InHeadNoscript, AfterHead, InBody, InTable}
use Rattle.htmd_html5_state.specs.declared.modes.InsertionMode.TheVariants.{InCaption, InTableBody, InRow, InCell}
use Rattle.htmd_html5_state.specs.declared.modes.InsertionMode.TheVariants.{InSelect, InSelectInTable, AfterBody}
use Rattle.htmd_html5_state.specs.declared.modes.InsertionMode.TheVariants.{AfterAfterBody}
use Rattle.htmd_html5_state.specs.declared.sets.NameSet.TheVariants.{TableContext, Cells}
use Rattle.htmd_html5_state.specs.declared.sets.Scope.TheVariants.{Table as TableScope}
use Rattle.htmd_html5.specs.Tokens.{StartTagValue, start_tag, end_tag}
use Rattle.htmd_html5.specs.Outcomes.{Outcome, done}
use Rattle.htmd_html5.specs.Feeding.{is_text_mode}
use Rattle.htmd_html5.specs.BeforeHtml.{start_before_html}
use Rattle.htmd_html5.specs.BeforeHead.{start_before_head}
use Rattle.htmd_html5.specs.InHead.{start_in_head}
use Rattle.htmd_html5.specs.InHeadNoscript.{start_in_noscript}
use Rattle.htmd_html5.specs.AfterHead.{start_after_head}
use Rattle.htmd_html5.specs.AfterBody.{start_after_body}
use Rattle.htmd_html5.specs.BodyStarts.{rule_of_start, start_by}
use Rattle.htmd_html5.specs.InTable.{to_table, start_columns, start_in_table}
use Rattle.htmd_html5.specs.InCaption.{start_in_caption}
use Rattle.htmd_html5.specs.InTableBody.{start_in_section}
use Rattle.htmd_html5.specs.InRow.{start_in_row}
use Rattle.htmd_html5.specs.InCell.{start_in_cell, leave_cell}
use Rattle.htmd_html5.specs.InSelect.{start_in_select, start_in_select_in_table}
use Rattle.htmd_html5.specs.ForeignContent.{is_foreign, tag_breaks_out, text_breaks_out, start_foreign_element}
use Rattle.htmd_html5.specs.ForeignContent.{in_foreign_content}
use Rattle.htmd_html5.specs.Modes.{in_mode}
use Rattle.htmd_html5.specs.Processing.{by_rules}
use Rattle.htmd_law_html5.proofs.OpenNodes.{clear_to_fewer}
use Rattle.htmd_law_html5.proofs.PlainNames.{is_plain_open}
use Rattle.htmd_law_html5.proofs.HungStates.{Hung, hung_fewer, hung_named}
use Rattle.htmd_law_html5.proofs.PlainStates.{is_plain_mode, Plain, added_grows}
use Rattle.htmd_law_html5.proofs.PlainRules.{StaysAnswer, part_stays, start_foreign_stays}
use Rattle.htmd_law_html5.proofs.PlainModes.{in_mode_stays, leave_stays}
use Rattle.htmd_law_html5.proofs.ColumnStates.{Columns, is_plain_state, is_in_columns, Answered, answered_columns}
use Rattle.htmd_html5_state.specs.declared.names.TagName.TheVariants as tags

abbrev pub IsColumn : NameValue → Type 0
IsColumn (known tags.Col) = Unit {0}
IsColumn (known tags.ColGroup) = Unit {0}
IsColumn _ = true ≡ false

-- ---- columns are begun

columns_begun : (name : NameValue) (attributes : List AttributePair) (s : StateValue) → name ≡ known tags.ColGroup
    → Plain s → is_text_mode s.content ≡ false → Columns (start_columns name attributes s)
columns_begun name attributes s e h no_raw = record {
  names = (ap html e, (clear_to_fewer TableContext s.stack).each is_plain_open h.names);
  entries_at = λ n l. added_grows (element (html name) attributes) (place (to_table s)) s.nodes n (h.entries_at n l);
  in_columns = refl;
  no_modes = h.no_modes;
  no_raw = no_raw;
}

begun_hung : (name : NameValue) (attributes : List AttributePair) (s : StateValue) → Hung s
    → Hung (start_columns name attributes s)
begun_hung name attributes s x =
    hung_named (html name) attributes (to_table s)
    (hung_fewer (clear_to TableContext s.stack) (clear_to_fewer TableContext s.stack) x)

breaks_none : (name : NameValue) (attributes : List AttributePair) → IsColumn name
    → tag_breaks_out name attributes ≡ false
unfolding text_breaks_out
breaks_none (known tags.Col) attributes c = refl
breaks_none (known tags.ColGroup) attributes c = refl
breaks_none _ attributes c = absurd (true≢false c)

-- the same rule for both
by_column : (f : NameValue → Outcome) → f (known tags.Col) ≡ f (known tags.ColGroup)
    → Answered (f (known tags.ColGroup)) → (name : NameValue) → IsColumn name → Answered (f name)
by_column f e a (known tags.Col) c = subst Answered (sym e) a
by_column f e a (known tags.ColGroup) c = a
by_column f e a _ c = absurd (true≢false c)

-- ---- by the rules of each mode

module _ (tag : StartTagValue) (s : StateValue) (h : Plain s) (x : Hung s)
    (no_raw : is_text_mode s.content ≡ false) where
  -- the token is done with in a plain state
  done_plain : (t : StateValue) → Plain t → Hung t → Answered (done t)
  done_plain t p y = record { stands = is_plain_state p y; no_raw = λ e. absurd (true≢false (sym e)) }

  left_plain : {f : StateValue → Outcome} → StaysAnswer f
      → ((f s).again ≡ true → is_text_mode (f s).state.content ≡ false) → Answered (f s)
  left_plain leaves raw = record { stands = is_plain_state (leaves.stays s h) (leaves.hangs s h x); no_raw = raw }

  both : (f : NameValue → Outcome) → f (known tags.Col) ≡ f (known tags.ColGroup)
      → Answered (f (known tags.ColGroup)) → IsColumn tag.name → Answered (f tag.name)
  both f e a c = by_column f e a tag.name c

  cell_left : Answered (leave_cell Cells s)
  cell_left =
      cond_both (is_in_scope Cells TableScope s.stack) _ _ (λ a. Answered a)
      (λ t. record {
        stands = is_plain_state ((part_stays Cells InRow refl).stays s h) ((part_stays Cells InRow refl).hangs s h x);
        no_raw = λ e. no_raw;
      }) (λ t. done_plain s h x)

  in_table_answered : (name : NameValue) → tag.name ≡ name → IsColumn name
      → Answered (start_in_table name tag s)
  in_table_answered (known tags.Col) e c = record {
    stands = is_in_columns (columns_begun (known tags.ColGroup) [] s refl h no_raw)
        (begun_hung (known tags.ColGroup) [] s x);
    no_raw = λ e. no_raw;
  }
  in_table_answered (known tags.ColGroup) e c =
      answered_columns (columns_begun tag.name tag.attributes s e h no_raw) (begun_hung tag.name tag.attributes s x)
  in_table_answered _ e c = absurd (true≢false c)

  in_mode_answered : (mode : InsertionMode) → is_plain_mode mode ≡ true → IsColumn tag.name
      → Answered (in_mode mode (start_tag tag) s)
  in_mode_answered Initial p c = left_plain (leave_stays Initial refl) (λ e. no_raw)
  in_mode_answered BeforeHtml p c =
      both (λ name. start_before_html name tag s) refl (left_plain (leave_stays BeforeHtml refl) (λ e. no_raw)) c
  in_mode_answered BeforeHead p c =
      both (λ name. start_before_head name tag s) refl (left_plain (leave_stays BeforeHead refl) (λ e. no_raw)) c
  in_mode_answered InHead p c = both (λ name. start_in_head name tag s) refl
      (left_plain (leave_stays InHead refl) (λ e. no_raw)) c
  in_mode_answered InHeadNoscript p c =
      both (λ name. start_in_noscript name tag s) refl (left_plain (leave_stays InHeadNoscript refl) (λ e. no_raw)) c
  in_mode_answered AfterHead p c =
      both (λ name. start_after_head name tag s) refl (left_plain (leave_stays AfterHead refl) (λ e. no_raw)) c
  in_mode_answered InBody p c = both (λ name. done (start_by (rule_of_start name) tag s)) refl (done_plain s h x) c
  in_mode_answered InTable p c = in_table_answered tag.name refl c
  in_mode_answered InCaption p c =
      both (λ name. start_in_caption name tag s) refl
      (left_plain (in_mode_stays (end_tag (known tags.Table)) tt InCaption refl) (λ e. rw e no_raw)) c
  in_mode_answered InTableBody p c =
      both (λ name. start_in_section name tag s) refl
      (left_plain (in_mode_stays (end_tag (known tags.Table)) tt InTableBody refl) (λ e. rw e no_raw)) c
  in_mode_answered InRow p c =
      both (λ name. start_in_row name tag s) refl
      (left_plain (in_mode_stays (end_tag (known tags.Table)) tt InRow refl) (λ e. rw e no_raw)) c
  in_mode_answered InCell p c = both (λ name. start_in_cell name tag s) refl cell_left c
  in_mode_answered InSelect p c = both (λ name. start_in_select name tag s) refl (done_plain s h x) c
  in_mode_answered InSelectInTable p c = both (λ name. start_in_select_in_table name tag s) refl (done_plain s h x) c
  in_mode_answered AfterBody p c =
      both (λ name. start_after_body name tag s) refl (left_plain (leave_stays AfterBody refl) (λ e. no_raw)) c
  in_mode_answered AfterAfterBody p c =
      both (λ name. start_after_body name tag s) refl (left_plain (leave_stays AfterAfterBody refl) (λ e. no_raw)) c
  in_mode_answered _ p c = absurd (true≢false (sym p))

  foreign_answered : IsColumn tag.name → Answered (in_foreign_content (start_tag tag) s)
  foreign_answered c =
      rw (breaks_none tag.name tag.attributes c)
      (done_plain (start_foreign_element tag s) ((start_foreign_stays tag).stays s h)
      ((start_foreign_stays tag).hangs s h x))

  pub column_tag_answered : IsColumn tag.name → Answered (by_rules (start_tag tag) s)
  column_tag_answered c =
      cond_both (is_foreign (start_tag tag) s) _ _ (λ a. Answered a) (λ t. foreign_answered c)
      (λ t. in_mode_answered s.mode h.plain_mode c)
