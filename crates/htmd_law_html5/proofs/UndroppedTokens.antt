-- The tokens of a page without a start tag of `frameset` or `template`: no text comes to a state that drops text.
use Rattle.std.proofs.Common.{◌≡◌, ◌∙◌, ℕ, zero, suc, Bool, true, false, List, [], ◌∷◌, length, Option, Some, None}
use Rattle.std.proofs.Common.{refl, sym, ap, arith, inl, inr, ◌⊎◌}
use Rattle.std.specs.Prelude.{if◌then◌else◌, ◌&&◌, not, codes}
use Rattle.std.specs.List.{list_all}
use Rattle.std.specs.Str.{bytes_eq}
use Rattle.std.proofs.lemmas.Bool.{true≢false, and_parts, cond_both, or_left, or_right, not-true}
use Rattle.htmd_lexical.specs.WhiteSpace.{is_ascii_white_space}
use Rattle.htmd_lexical.specs.CharacterClasses.{is_empty}
use Rattle.htmd_html5_tokens.specs.Preprocessing.{preprocessed}
use Rattle.htmd_html5_tokens.specs.Tokens.{Read}
use Rattle.htmd_html5_state.specs.Names.{NameValue, known, spelling, names_with, is_spelled, known_or}
use Rattle.htmd_html5_state.specs.Names.{known_name, name_of_text}
use Rattle.htmd_html5_state.specs.OpenElements.{OpenValue, pop}
use Rattle.htmd_html5_state.specs.State.{StateValue, initial_state}
use Rattle.htmd_html5_state.specs.Insertion.{insert_text}
use Rattle.htmd_html5_state.specs.declared.modes.InsertionMode.{InsertionMode}
use Rattle.htmd_html5_state.specs.declared.modes.InsertionMode.TheVariants.{InColumnGroup}
use Rattle.htmd_html5_state.specs.declared.names.TagName.{TagName}
use Rattle.htmd_html5.specs.Tokens.{StartTagValue, TokenValue, start_tag, end_tag, run, comment, doctype, end_of_file}
use Rattle.htmd_html5.specs.Outcomes.{Outcome}
use Rattle.htmd_html5.specs.Processing.{by_rules, turns, after_outcome, process_within, process}
use Rattle.htmd_html5.specs.Runs.{first_run, after_first_run}
use Rattle.htmd_html5.specs.InTable.{without_nulls, foster_runs, put_table_text}
use Rattle.htmd_html5.specs.Texts.{Taken, is_table_mode, takes_all, first_token, take_within, take_part, put_within}
use Rattle.htmd_html5.specs.Feeding.{is_text_mode, feed_text, without_line_feed, with_nothing_skipped}
use Rattle.htmd_html5.specs.Feeding.{close_raw, out_of_text_mode, feed_end_tag, named, feed_at, feed}
use Rattle.htmd_html5.specs.Html5Documents.{next_read, is_end, after_token, read_within, state_after}
use Rattle.htmd_law_html5.specs.DocumentLetters.{drops_in, drops_text, is_taken, taken_after, taken_within}
use Rattle.htmd_law_html5.specs.DocumentLetters.{all_texts_are_taken}
use Rattle.htmd_law_html5.specs.DroppedTexts.{drops_text_in, drops_no_text, tokens_after, tokens_within}
use Rattle.htmd_law_html5.specs.DroppedTexts.{no_tag_drops_text, HarmlessTextsAreTaken}
use Rattle.htmd_law_html5.proofs.FedTokens.{initial_sound}
use Rattle.htmd_law_html5.proofs.KeepingAdoption.{found}
use Rattle.htmd_law_html5.proofs.HungNodes.{solid_within}
use Rattle.htmd_html5_state.specs.Nodes.{document, new_node}
use Rattle.htmd_law_html5.proofs.OpenNodes.{pop_fewer}
use Rattle.htmd_law_html5.proofs.PlainNames.{is_plain_name, is_plain_open}
use Rattle.htmd_law_html5.proofs.HungStates.{Hung, hung_fewer, hung_text}
use Rattle.htmd_law_html5.proofs.PlainStates.{is_plain_mode, Plain, Stays, then_stays, still, stays_by_test}
use Rattle.htmd_law_html5.proofs.PlainStates.{plain_stack}
use Rattle.htmd_law_html5.proofs.PlainRules.{fostered_stays}
use Rattle.htmd_law_html5.proofs.PlainModes.{IsPlain, by_rules_stays}
use Rattle.htmd_law_html5.proofs.PlainRuns.{insert_text_stays, run_in_body_stays, run_stays}
use Rattle.htmd_law_html5.proofs.ColumnStates.{Stands, is_plain_state, is_in_columns, Answered, columns_current}
use Rattle.htmd_law_html5.proofs.ColumnStates.{insert_text_in_columns, IsFreeName, IsFree, columns_answered}
use Rattle.htmd_law_html5.proofs.ColumnStates.{columns_run_answered}
use Rattle.htmd_law_html5.proofs.ColumnTags.{IsColumn, column_tag_answered}
use Rattle.htmd_html5_state.specs.declared.names.TagName.TheVariants as tags
use Rattle.htmd_html5_tokens.specs.Tokens as tokens

-- ---- names

-- the name of a start tag that leads to no state that drops text
abbrev Safe : NameValue → Type 0
Safe name = (is_plain_name name ≡ true) ⊎ IsColumn name

pub spelled : (s : List ℕ) (tag : TagName) → known_name s ≡ Some tag → bytes_eq s (spelling tag) ≡ true
spelled [] tag e = absurd (cc)
spelled (b ∷ s) tag e = found (is_spelled (b ∷ s)) (names_with b) tag e

safe_name : (s : List ℕ) → drops_text_in s ≡ false → Safe (name_of_text s)
safe_name s d = by_found (known_name s) refl
  where
    by_tag : (tag : TagName) → bytes_eq s (spelling tag) ≡ true → Safe (known tag)
    by_tag tags.FrameSet e =
        absurd (true≢false (sym (or_left (bytes_eq s (codes "frameset")) (bytes_eq s (codes "template")) e) ∙ d))
    by_tag tags.Template e =
        absurd (true≢false (sym (or_right (bytes_eq s (codes "frameset")) (bytes_eq s (codes "template")) e) ∙ d))
    by_tag tags.Col e = inr tt
    by_tag tags.ColGroup e = inr tt
    by_tag _ e = inl refl

    by_found : (tag : Option TagName) → known_name s ≡ tag → Safe (known_or s tag)
    by_found None e = inl refl
    by_found (Some tag) e = by_tag tag (spelled s tag e)

-- ---- a token is processed

after_stands : (go : StateValue → StateValue) (a : Outcome) → ((s : StateValue) → Stands s → Stands (go s))
    → Stands a.state → Stands (after_outcome go a)
after_stands go a more h = cond_both a.again _ _ Stands (λ t. more a.state h) (λ t. h)

free_name : (name : NameValue) → is_plain_name name ≡ true → IsFreeName name
free_name (known tags.Template) p = absurd (true≢false (sym p))
free_name _ p = tt

is_free : (t : TokenValue) → IsPlain t → IsFree t
is_free (run kind s) p = p
is_free (start_tag tag) p = free_name tag.name p
is_free _ p = tt

plain_token_stands : (t : TokenValue) (s : StateValue) → IsPlain t → Stands s → Stands (by_rules t s).state
plain_token_stands t s p (is_plain_state h x) =
    is_plain_state ((by_rules_stays t p).stays s h) ((by_rules_stays t p).hangs s h x)
plain_token_stands t s p (is_in_columns h x) = (columns_answered t s (is_free t p) h x).stands

plain_within : (k : ℕ) (t : TokenValue) (s : StateValue) → IsPlain t → Stands s → Stands (process_within k t s)
plain_within zero t s p h = h
plain_within (suc k) t s p h =
    after_stands (process_within k t) (by_rules t s) (λ x g. plain_within k t x p g) (plain_token_stands t s p h)

column_free : (name : NameValue) → IsColumn name → IsFreeName name
column_free (known tags.Template) c = c
column_free _ c = tt

column_answered : (tag : StartTagValue) (s : StateValue) → IsColumn tag.name → is_text_mode s.content ≡ false
    → Stands s → Answered (by_rules (start_tag tag) s)
column_answered tag s c no_raw (is_plain_state h x) = column_tag_answered tag s h x no_raw c
column_answered tag s c no_raw (is_in_columns h x) = columns_answered (start_tag tag) s (column_free tag.name c) h x

after_answered : (go : StateValue → StateValue) (a : Outcome)
    → ((s : StateValue) → is_text_mode s.content ≡ false → Stands s → Stands (go s)) → Answered a
    → Stands (after_outcome go a)
after_answered go a more h = cond_both a.again _ _ Stands (λ t. more a.state (h.no_raw t) h.stands) (λ t. h.stands)

column_within : (k : ℕ) (tag : StartTagValue) (s : StateValue) → IsColumn tag.name
    → is_text_mode s.content ≡ false → Stands s → Stands (process_within k (start_tag tag) s)
column_within zero tag s c no_raw h = h
column_within (suc k) tag s c no_raw h =
    after_answered (process_within k (start_tag tag)) (by_rules (start_tag tag) s)
    (λ x raw g. column_within k tag x c raw g) (column_answered tag s c no_raw h)

start_stands : (tag : StartTagValue) (s : StateValue) → Safe tag.name → is_text_mode s.content ≡ false
    → Stands s → Stands (process (start_tag tag) s)
start_stands tag s (inl p) no_raw h = plain_within (turns s) (start_tag tag) s p h
start_stands tag s (inr c) no_raw h = column_within (turns s) tag s c no_raw h

-- ---- texts

text_stands : (t : List ℕ) (s : StateValue) → Stands s → Stands (insert_text t s)
text_stands t s (is_plain_state h x) =
    is_plain_state ((insert_text_stays t).stays s h) ((insert_text_stays t).hangs s h x)
text_stands t s (is_in_columns h x) = is_in_columns (insert_text_in_columns t s h) (hung_text t s x)

foster_runs_stay : (k : ℕ) (text : List ℕ) → Stays (foster_runs k text)
foster_runs_stay zero text = still
foster_runs_stay (suc k) text =
    stays_by_test (λ s. is_empty text) still
    (then_stays (foster_runs_stay k (after_first_run text)) (fostered_stays (run_in_body_stays text (first_run text))))

put_table_text_stays : (text : List ℕ) → Stays (put_table_text text)
put_table_text_stays text =
    stays_by_test (λ s. is_empty text) still
    (stays_by_test (λ s. list_all is_ascii_white_space text) (insert_text_stays text)
    (foster_runs_stay (length text) text))

in_table_itself : (text : List ℕ) (s : StateValue) → takes_all s ≡ true → Stands s
    → Stands (put_table_text text s)
in_table_itself text s e (is_plain_state h x) =
    is_plain_state ((put_table_text_stays text).stays s h) ((put_table_text_stays text).hangs s h x)
in_table_itself text s e (is_in_columns h x) =
    absurd (true≢false (sym (and_parts (is_table_mode s.mode) _ e).0 ∙ ap is_table_mode h.in_columns))

run_stands : (text : List ℕ) (s : StateValue) → Stands s → Stands (by_rules (first_token text) s).state
run_stands text s (is_plain_state h x) =
    is_plain_state ((run_stays text (first_run text)).stays s h) ((run_stays text (first_run text)).hangs s h x)
run_stands text s (is_in_columns h x) = (columns_run_answered text (first_run text) s h x).stands

take_stands : (k : ℕ) (text : List ℕ) (s : StateValue) → Stands s → Stands (take_within k text s).state
take_stands zero text s h = h
take_stands (suc k) text s h =
    cond_both (takes_all s) _ _ (λ (x : Taken). Stands x.state) (λ t. in_table_itself (without_nulls text) s t h)
    (λ t. cond_both (by_rules (first_token text) s).again _ _ (λ (x : Taken). Stands x.state)
    (λ u. take_stands k text (by_rules (first_token text) s).state (run_stands text s h)) (λ u. run_stands text s h))

put_stands : (k : ℕ) (text : List ℕ) (s : StateValue) → Stands s → Stands (put_within k text s)
put_stands zero text s h = h
put_stands (suc k) text s h =
    cond_both (is_empty text) _ _ Stands (λ t. h)
    (λ t. put_stands k (take_part text s).rest (take_part text s).state (take_stands (turns s) text s h))

feed_text_stands : (text : List ℕ) (s : StateValue) → Stands s → Stands (feed_text text s)
feed_text_stands text s h =
    cond_both (is_text_mode s.content) _ _ Stands
    (λ t. cond_both (is_empty text) _ _ Stands (λ u. h) (λ u. text_stands text s h))
    (λ t. put_stands (length text) text s h)

-- ---- tokens of the tokenizer

raw_closed : (s : StateValue) → is_text_mode s.content ≡ true → Stands s → Stands (close_raw s)
raw_closed s e (is_plain_state h x) =
    is_plain_state (plain_stack (pop s.stack) ((pop_fewer s.stack).each is_plain_open h.names) h)
    (hung_fewer (pop s.stack) (pop_fewer s.stack) x)
raw_closed s e (is_in_columns h x) = absurd (true≢false (sym e ∙ h.no_raw))

-- a state that isn't in the mode "text"
record Ready (s : StateValue) : Type 0 where
  stands : Stands s
  no_raw : is_text_mode s.content ≡ false

out_of_text : (s : StateValue) → Stands s → Ready (out_of_text_mode s)
out_of_text s h =
    cond_both (is_text_mode s.content) _ _ Ready (λ t. record { stands = raw_closed s t h; no_raw = refl })
    (λ t. record { stands = h; no_raw = t })

end_stands : (name : NameValue) (s : StateValue) → Stands s → Stands (feed_end_tag name s)
end_stands name s h =
    cond_both (is_text_mode s.content) _ _ Stands (λ t. raw_closed s t h)
    (λ t. plain_within (turns s) (end_tag name) s tt h)

feed_at_stands : (token : tokens.TokenValue) (skips : Bool) (s : StateValue) → drops_no_text token ≡ true
    → Stands s → Stands (feed_at token skips s)
feed_at_stands (tokens.text text) skips s e h = feed_text_stands (without_line_feed skips text) s h
feed_at_stands (tokens.start_tag tag) skips s e h =
    let ready = out_of_text s h in
    start_stands (named tag) (out_of_text_mode s) (safe_name tag.name (not-true (drops_text_in tag.name) e))
    ready.no_raw ready.stands
feed_at_stands (tokens.end_tag tag) skips s e h = end_stands (name_of_text tag.name) s h
feed_at_stands (tokens.comment text) skips s e h = plain_within _ (comment text) _ tt (out_of_text s h).stands
feed_at_stands (tokens.doctype quirks) skips s e h = plain_within _ (doctype quirks) _ tt (out_of_text s h).stands
feed_at_stands tokens.end_of_file skips s e h = plain_within _ end_of_file _ tt (out_of_text s h).stands

feed_stands : (token : tokens.TokenValue) (s : StateValue) → drops_no_text token ≡ true → Stands s
    → Stands (feed token s)
feed_stands token s e h = feed_at_stands token s.skips_line_feed (with_nothing_skipped s) e (skipped h)
  where
    skipped : Stands s → Stands (with_nothing_skipped s)
    skipped (is_plain_state g x) = is_plain_state g x
    skipped (is_in_columns g x) = is_in_columns g x

-- ---- no text is dropped

mode_drops_none : (mode : InsertionMode) (stack : List OpenValue) → is_plain_mode mode ≡ true
    → drops_in mode stack ≡ false
mode_drops_none InColumnGroup stack p = absurd (true≢false (sym p))
mode_drops_none _ stack p = cc

drops_none : (s : StateValue) → Stands s → drops_text s ≡ false
drops_none s (is_plain_state h x) = mode_drops_none s.mode s.stack h.plain_mode
drops_none s (is_in_columns h x) =
    ap (λ (mode : InsertionMode). drops_in mode s.stack) h.in_columns ∙ ap not (columns_current s.stack h.names)

token_taken : (token : tokens.TokenValue) (s : StateValue) → Stands s → is_taken token s ≡ true
token_taken (tokens.text text) s h = or_right (is_text_mode s.content) _ (ap not (drops_none s h))
token_taken _ s h = refl

-- the texts are taken, and the state stands at the end
after_taken : (k : ℕ) (read : Read) (s : StateValue)
    → list_all drops_no_text (tokens_after (tokens_within k) read s) ≡ true → Stands s
    → ((t : StateValue) → list_all drops_no_text (tokens_within k read.rest t) ≡ true → Stands t
    → (taken_within k read.rest t ≡ true) × Stands (read_within k read.rest t))
    → (taken_after (taken_within k) read s ≡ true) × Stands (after_token (read_within k) read s)
after_taken k read s e h more = either (is_end read.token) refl e
  where
    ends : (token : tokens.TokenValue) → is_end token ≡ true → drops_no_text token ≡ true
    ends (tokens.start_tag tag) f = absurd (true≢false (sym f))
    ends _ f = refl

    either : (b : Bool) → is_end read.token ≡ b → list_all drops_no_text
        (if b then [] else read.token ∷ tokens_within k read.rest (feed read.token s)) ≡ true
        → ((if b then true else is_taken read.token s && taken_within k read.rest (feed read.token s)) ≡ true)
        × Stands (if b then feed read.token s else read_within k read.rest (feed read.token s))
    either true g f = (refl, feed_stands read.token s (ends read.token g) h)
    either false g f =
        let parts = and_parts (drops_no_text read.token)
        (list_all drops_no_text (tokens_within k read.rest (feed read.token s))) f in
        let later = more (feed read.token s) parts.1 (feed_stands read.token s parts.0 h) in
        (rw (token_taken read.token s h, later.0) refl, later.1)

all_taken : (k : ℕ) (page : List ℕ) (s : StateValue) → list_all drops_no_text (tokens_within k page s) ≡ true
    → Stands s → (taken_within k page s ≡ true) × Stands (read_within k page s)
all_taken zero page s e h = (refl, feed_stands tokens.end_of_file s refl h)
all_taken (suc k) page s e h =
    after_taken k (next_read page s) s e h (λ t f g. all_taken k (next_read page s).rest t f g)

pub begins_plain : (scripting : Bool) → Plain (initial_state scripting)
begins_plain scripting =
    record { names = tt; entries_at = λ n l. absurd (true≢false (sym l)); plain_mode = refl; no_modes = refl }

pub begins_hung : (scripting : Bool) → Hung (initial_state scripting)
begins_hung scripting = record {
  rank = λ n. n;
  limit = 0;
  at_root = refl;
  order = tt;
  hangs = λ n solid. inl (let w = solid_within n (new_node document ∷ []) solid in omega arith);
  opened_at = tt;
  head_at = λ n e. absurd (let f = e in cc);
  forest = (initial_sound scripting).forest;
  filled = omega arith;
  root = refl;
}

all_harmless : (scripting : Bool) (page : List ℕ) → no_tag_drops_text scripting page ≡ true
    → (all_texts_are_taken scripting page ≡ true) × Stands (state_after scripting page)
all_harmless scripting page e =
    all_taken (length (preprocessed page)) (preprocessed page) (initial_state scripting) e
    (is_plain_state (begins_plain scripting) (begins_hung scripting))

pub harmless_taken : HarmlessTextsAreTaken
harmless_taken scripting page e = (all_harmless scripting page e).0

-- ---- each hangs at the end

pub harmless_hung : (scripting : Bool) (page : List ℕ) → no_tag_drops_text scripting page ≡ true
    → Hung (state_after scripting page)
harmless_hung scripting page e = hung (all_harmless scripting page e).1
  where
    hung : {s : StateValue} → Stands s → Hung s
    hung (is_plain_state h x) = x
    hung (is_in_columns h x) = x
