-- States in the mode "in column group" with a `colgroup` as the current node, and start tags of columns.
use Rattle.std.proofs.Common.{◌≡◌, ℕ, true, false, List, [], ◌∷◌, length, Option, Some, None, refl, sym, ap, subst, ◌∙◌}
use Rattle.std.proofs.lemmas.Bool.{true≢false, cond_both, or_right}
use Rattle.htmd_lexical.specs.declared.content_model.ContentModel.{ContentModel}
use Rattle.htmd_html5_state.specs.Names.{NameValue, known, html}
use Rattle.htmd_html5_state.specs.Nodes.{KindValue, comment as comment_kind, element, last_in}
use Rattle.htmd_html5_state.specs.OpenElements.{OpenValue, current_is, is_open, first_open, pop}
use Rattle.htmd_html5_state.specs.State.{StateValue}
use Rattle.htmd_html5_state.specs.Insertion.{current, opened, place, insert_text}
use Rattle.htmd_html5_state.specs.Foreign.{current_is_html}
use Rattle.htmd_html5_state.specs.Formatting.{is_listed}
use Rattle.htmd_html5_state.specs.Resetting.{has_modes}
use Rattle.htmd_html5_state.specs.declared.modes.InsertionMode.{InsertionMode}
use Rattle.htmd_html5_state.specs.declared.modes.InsertionMode.TheVariants.{InColumnGroup}
use Rattle.htmd_html5_state.specs.declared.sets.NameSet.TheVariants.{Only}
use Rattle.htmd_html5.specs.Tokens.{StartTagValue, TokenValue, start_tag, end_tag, run, comment, doctype, end_of_file}
use Rattle.htmd_html5.specs.Outcomes.{Outcome, done}
use Rattle.htmd_html5.specs.Runs.{first_kind}
use Rattle.htmd_html5.specs.Feeding.{is_text_mode}
use Rattle.htmd_html5.specs.SharedRules.{add_missing_to, add_to_root, end_template}
use Rattle.htmd_html5.specs.InBody.{end_of_file_in_body}
use Rattle.htmd_html5.specs.InColumnGroup.{end_columns, leave_columns, start_in_columns, end_in_columns}
use Rattle.htmd_html5.specs.InColumnGroup.{close_columns, in_column_group}
use Rattle.htmd_html5.specs.ForeignContent.{goes_to_html, is_foreign}
use Rattle.htmd_html5.specs.Modes.{in_mode}
use Rattle.htmd_html5.specs.Processing.{by_rules}
use Rattle.htmd_law_html5.proofs.NodeTexts.{kinds}
use Rattle.htmd_law_html5.proofs.TakingRuns.{by_first_kind}
use Rattle.htmd_law_html5.proofs.OpenNodes.{pop_fewer}
use Rattle.htmd_law_html5.proofs.PlainNames.{PlainStack, no_template_open}
use Rattle.htmd_law_html5.proofs.PlainStates.{PlainAt, Plain, added_grows, missing_grows}
use Rattle.htmd_law_html5.proofs.HungStates.{Hung, hung_fewer, hung_missing, hung_named, hung_last, hung_text}
use Rattle.htmd_law_html5.proofs.PlainRuns.{text_grows}
use Rattle.htmd_html5_state.specs.declared.names.TagName.TheVariants as tags

-- ---- a `colgroup` is the current node

abbrev pub ColumnStack : List OpenValue → Type 0
ColumnStack [] = true ≡ false
ColumnStack (e ∷ es) = (e.name ≡ html (known tags.ColGroup)) × PlainStack es

pub record ColumnsIn (ks : List KindValue) (entries : List (Option ℕ)) (stack : List OpenValue) (mode : InsertionMode)
    (template_modes : List InsertionMode) (content : ContentModel)
    : Type 0 where
  pub names : ColumnStack stack
  pub entries_at : (n : ℕ) → is_listed n entries ≡ true → PlainAt ks n
  pub in_columns : mode ≡ InColumnGroup
  pub no_modes : template_modes ≡ []
  pub no_raw : is_text_mode content ≡ false

abbrev pub Columns : StateValue → Type 0
Columns s = ColumnsIn (kinds s.nodes) s.formatting s.stack s.mode s.template_modes s.content

-- no text is dropped in such a state, and each hangs under the Document
pub data Stands (s : StateValue) : Type 0 where
  is_plain_state : Plain s → Hung s → Stands s
  is_in_columns : Columns s → Hung s → Stands s

pub columns_current : (stack : List OpenValue) → ColumnStack stack → current_is (Only tags.ColGroup) stack ≡ true
columns_current [] h = absurd (true≢false h)
columns_current (e ∷ es) h = rw h.0 refl

columns_html : (stack : List OpenValue) → ColumnStack stack → current_is_html stack ≡ true
columns_html [] h = absurd (true≢false h)
columns_html (e ∷ es) h = rw h.0 refl

columns_popped : (stack : List OpenValue) → ColumnStack stack → PlainStack (pop stack)
columns_popped [] h = absurd (true≢false h)
columns_popped (e ∷ es) h = h.1

no_template_in : (stack : List OpenValue) → ColumnStack stack → is_open (Only tags.Template) stack ≡ false
no_template_in [] h = absurd (true≢false h)
no_template_in (e ∷ es) h = rw h.0 (no_template_open es h.1)

pub columns_grown : {ks new : List KindValue} {entries : List (Option ℕ)} {stack : List OpenValue}
    {mode : InsertionMode} {modes : List InsertionMode} {content : ContentModel}
    → ((n : ℕ) → PlainAt ks n → PlainAt new n) → ColumnsIn ks entries stack mode modes content
    → ColumnsIn new entries stack mode modes content
columns_grown f h = record {
  names = h.names;
  entries_at = λ n l. f n (h.entries_at n l);
  in_columns = h.in_columns;
  no_modes = h.no_modes;
  no_raw = h.no_raw;
}

-- ---- the rules of the mode

pub columns_left : (s : StateValue) → Columns s → Plain (end_columns s)
columns_left s h = rw (columns_current s.stack h.names) (closed s h)
  where
    closed : (s : StateValue) → Columns s → Plain (close_columns s)
    closed s h = record {
      names = columns_popped s.stack h.names;
      entries_at = h.entries_at;
      plain_mode = refl;
      no_modes = h.no_modes;
    }

pub insert_text_in_columns : (t : List ℕ) (s : StateValue) → Columns s → Columns (insert_text t s)
insert_text_in_columns t s h = columns_grown (text_grows t (place s) s.nodes) h

root_in_columns : (tag : StartTagValue) (s : StateValue) → Columns s → Columns (add_to_root tag s)
root_in_columns tag s h = rw (no_template_in s.stack h.names) (added (first_open s.stack))
  where
    added : (n : Option ℕ) → Columns (add_missing_to n tag.attributes s)
    added None = h
    added (Some n) = columns_grown (missing_grows n tag.attributes s.nodes) h

root_hung : (tag : StartTagValue) (s : StateValue) → Columns s → Hung s → Hung (add_to_root tag s)
root_hung tag s h x = rw (no_template_in s.stack h.names) (added (first_open s.stack))
  where
    added : (n : Option ℕ) → Hung (add_missing_to n tag.attributes s)
    added None = x
    added (Some n) = hung_missing n tag.attributes s.nodes x

left_hung : (s : StateValue) → Columns s → Hung s → Hung (end_columns s)
left_hung s h x = rw (columns_current s.stack h.names) (hung_fewer (pop s.stack) (pop_fewer s.stack) x)

-- what an outcome says
pub record Answered (a : Outcome) : Type 0 where
  pub stands : Stands a.state
  pub no_raw : a.again ≡ true → is_text_mode a.state.content ≡ false

pub answered_columns : {s : StateValue} → Columns s → Hung s → Answered (done s)
answered_columns h x = record { stands = is_in_columns h x; no_raw = λ e. absurd (true≢false (sym e)) }

left_answered : (s : StateValue) → Columns s → Hung s → Answered (leave_columns s)
left_answered s h x = record {
  stands = is_plain_state (columns_left s h) (left_hung s h x);
  no_raw = λ e. rw (columns_current s.stack h.names) h.no_raw;
}

end_template_answered : (s : StateValue) → Columns s → Hung s → Answered (done (end_template s))
end_template_answered s h x = rw (no_template_in s.stack h.names) (answered_columns h x)

end_of_file_answered : (s : StateValue) → Columns s → Hung s → Answered (end_of_file_in_body s)
end_of_file_answered s h x =
    cond_both (has_modes s.template_modes) _ _ Answered
    (λ t. absurd (true≢false (sym t ∙ ap has_modes h.no_modes))) (λ t. answered_columns h x)

-- a token, with no start tag of a template
abbrev pub IsFreeName : NameValue → Type 0
IsFreeName (known tags.Template) = true ≡ false
IsFreeName _ = Unit {0}

start_answered : (tag : StartTagValue) (name : NameValue) (s : StateValue) → IsFreeName name → Columns s → Hung s
    → Answered (start_in_columns name tag s)
start_answered tag (known tags.Html) s p h x = answered_columns (root_in_columns tag s h) (root_hung tag s h x)
start_answered tag (known tags.Col) s p h x =
    answered_columns (columns_grown (added_grows (element (html tag.name) tag.attributes) (place s) s.nodes) h)
    (hung_fewer s.stack (pop_fewer (opened (length s.nodes) (html tag.name) ∷ s.stack))
    (hung_named (html tag.name) tag.attributes s x))
start_answered tag (known tags.Template) s p h x = absurd (true≢false p)
start_answered tag _ s p h x = left_answered s h x

end_answered : (name : NameValue) (s : StateValue) → Columns s → Hung s → Answered (end_in_columns name s)
end_answered (known tags.ColGroup) s h x = record {
  stands = is_plain_state (columns_left s h) (left_hung s h x);
  no_raw = λ e. absurd (true≢false (sym e));
}
end_answered (known tags.Col) s h x = answered_columns h x
end_answered (known tags.Template) s h x = end_template_answered s h x
end_answered _ s h x = left_answered s h x

abbrev pub IsFree : TokenValue → Type 0
IsFree (run kind s) = true ≡ false
IsFree (start_tag tag) = IsFreeName tag.name
IsFree _ = Unit {0}

in_columns_answered : (t : TokenValue) (s : StateValue) → IsFree t → Columns s → Hung s
    → Answered (in_column_group t s)
in_columns_answered (run kind text) s p h x = absurd (true≢false p)
in_columns_answered (comment text) s p h x =
    answered_columns (columns_grown (added_grows (comment_kind text) (last_in (current s.stack).node) s.nodes) h)
    (hung_last (comment_kind text) (current s.stack).node s.nodes refl x)
in_columns_answered (doctype quirks) s p h x = answered_columns h x
in_columns_answered (start_tag tag) s p h x = start_answered tag tag.name s p h x
in_columns_answered (end_tag name) s p h x = end_answered name s h x
in_columns_answered end_of_file s p h x = end_of_file_answered s h x

run_in_columns : (s t : List ℕ) (y : StateValue) → Columns y → Hung y
    → Answered (in_column_group (run (first_kind s) t) y)
run_in_columns s t y h x =
    by_first_kind (λ kind. Answered (in_column_group (run kind t) y))
    (answered_columns (insert_text_in_columns t y h) (hung_text t y x)) (left_answered y h x) (left_answered y h x) s

-- HTML's rules apply there
html_applies : (t : TokenValue) (s : StateValue) → Columns s → goes_to_html t s ≡ true
html_applies t s h = or_right _ (current_is_html s.stack) (columns_html s.stack h.names)

not_foreign : (t : TokenValue) (s : StateValue) → Columns s → is_foreign t s ≡ false
not_foreign end_of_file s h = refl
not_foreign t s h = rw (html_applies t s h) refl

by_columns : (t : TokenValue) (s : StateValue) → Columns s → Answered (in_column_group t s)
    → Answered (by_rules t s)
by_columns t s h a =
    cond_both (is_foreign t s) _ _ Answered (λ f. absurd (true≢false (sym f ∙ not_foreign t s h)))
    (λ f. subst (λ (mode : InsertionMode). Answered (in_mode mode t s)) (sym h.in_columns) a)

pub columns_answered : (t : TokenValue) (s : StateValue) → IsFree t → Columns s → Hung s
    → Answered (by_rules t s)
columns_answered t s p h x = by_columns t s h (in_columns_answered t s p h x)

pub columns_run_answered : (s t : List ℕ) (y : StateValue) → Columns y → Hung y
    → Answered (by_rules (run (first_kind s) t) y)
columns_run_answered s t y h x = by_columns (run (first_kind s) t) y h (run_in_columns s t y h x)
