-- The open elements of a page end in `html`, from the token on that opens it.
use Rattle.std.proofs.Common.{Bool, List, ap, false, inl, inr, length, refl, subst, suc, sym, true, zero}
use Rattle.std.proofs.Common.{ℕ, [], ◌∙◌, ◌∷◌, ◌≡◌, ⊎_elim, ◌⊎◌}
use Rattle.std.proofs.lemmas.Bool.{and_from, cond_both, or_left, true≢false}
use Rattle.std.specs.Prelude.{if◌then◌else◌, ◌&&◌}
use Rattle.htmd_lexical.specs.CharacterClasses.{is_empty}
use Rattle.htmd_html5.specs.Feeding.{feed, feed_at, feed_end_tag, feed_text, is_text_mode, named}
use Rattle.htmd_html5.specs.Feeding.{out_of_text_mode, put_raw_text, with_nothing_skipped, without_line_feed}
use Rattle.htmd_html5.specs.ForeignContent.{in_foreign_content}
use Rattle.htmd_html5.specs.Html5Documents.{is_end, next_read}
use Rattle.htmd_html5.specs.Modes.{by_mode_rules, in_mode}
use Rattle.htmd_html5.specs.Outcomes.{Outcome}
use Rattle.htmd_html5.specs.Processing.{after_outcome, by_rules, process_within, turns}
use Rattle.htmd_html5.specs.Runs.{after_first_run, first_run, kind_of_byte}
use Rattle.htmd_html5.specs.Texts.{Taken, after_run, first_token, is_table_mode, put_within, take_part, take_within}
use Rattle.htmd_html5.specs.Tokens.{StartTagValue, TokenValue, comment, doctype, end_of_file, end_tag, run, start_tag}
use Rattle.htmd_law_html5.proofs.EndedRuns.{take_left}
use Rattle.htmd_law_html5.proofs.EndedStacks.{Has, at_root, is_any}
use Rattle.htmd_law_html5.proofs.EndedStates.{Ends, Manner, Whole, insert_comment_in_ends, insert_doctype_ends}
use Rattle.htmd_law_html5.proofs.EndedStates.{insert_root_ends, insert_text_ends, stack_kept, whole_fewer}
use Rattle.htmd_law_html5.proofs.EndedSteps.{Answered, FreeModes, HasSome, Ready, anchor_of, any_step}
use Rattle.htmd_law_html5.proofs.EndedTokens.{by_rules_ends}
use Rattle.htmd_law_html5.proofs.OpenNodes.{pop_fewer}
use Rattle.htmd_law_html5.proofs.OrderedHead.{stays_html}
use Rattle.htmd_law_html5.proofs.RuleBook.{end_before_html, end_of_file_in, rule_in, start_before_html}
use Rattle.htmd_law_html5.proofs.RuleWalk.{in_mode_as, is_run, tag_name, tag_of}
use Rattle.htmd_law_html5.proofs.Rules.{Reply, Rule, act, again, comment_in_document, ends, given_attributes}
use Rattle.htmd_law_html5.proofs.Rules.{given_name, name_given, nothing, reply_of, root, started, to_quirks}
use Rattle.htmd_law_html5.proofs.TakingRuns.{by_first_kind}
use Rattle.htmd_law_html5.specs.EndedElements.{OpenElementsEnd, ended_within, ends_in_html, is_ended}
use Rattle.htmd_html5_state.specs.Foreign.{current_is_html}
use Rattle.htmd_html5_state.specs.Insertion.{insert_comment_in, insert_text}
use Rattle.htmd_html5_state.specs.Names.{NameValue, html, known, name_of_text}
use Rattle.htmd_html5_state.specs.OpenElements.{OpenValue, current_is, pop}
use Rattle.htmd_html5_state.specs.Sets.{is_of}
use Rattle.htmd_html5_state.specs.State.{StateValue, initial_state}
use Rattle.htmd_html5_state.specs.declared.modes.InsertionMode.{InsertionMode}
use Rattle.htmd_html5_state.specs.declared.modes.InsertionMode.TheVariants.{BeforeHtml, Initial}
use Rattle.htmd_html5_state.specs.declared.sets.NameSet.TheVariants.{Fostering, Only}
use Rattle.htmd_html5_tokens.specs.Preprocessing.{preprocessed}
use Rattle.htmd_law_html5.proofs.Rules as rules
use Rattle.htmd_html5_state.specs.declared.names.TagName.TheVariants as tags
use Rattle.htmd_html5_tokens.specs.Tokens as tokens

-- ---- states

-- the modes before the root
abbrev is_early : InsertionMode → Bool
is_early Initial = true
is_early BeforeHtml = true
is_early _ = false

-- nothing is open yet, and nothing was before
record Early (was : Bool) (s : StateValue) : Type 0 where
  none_before : was ≡ false
  whole : Whole s
  modes : FreeModes s.template_modes
  nothing_open : s.stack ≡ []
  early : is_early s.mode ≡ true
  calm_early : is_text_mode s.content ≡ false

-- the root is open
record Open (s : StateValue) : Type 0 where
  ready : Ready s
  rest : (is_text_mode s.content ≡ false) ⊎ (Has at_root (pop s.stack) × HasSome (anchor_of s.mode) (pop s.stack))

-- nothing is open, or the root is and no element of only text
abbrev Calm : Bool → StateValue → Type 0
Calm was s = Early was s ⊎ (Ready s × (is_text_mode s.content ≡ false))

abbrev Stands : Bool → StateValue → Type 0
Stands was s = Early was s ⊎ Open s

calm_stands : {was : Bool} {s : StateValue} → Calm was s → Stands was s
calm_stands (inl h) = inl h
calm_stands (inr h) = inr (record { ready = h.0; rest = inl h.1 })

-- ---- before the root

-- steps before the root
early_after : {was : Bool} {s new : StateValue} → Early was s → Whole new → FreeModes new.template_modes
    → new.stack ≡ [] → is_early new.mode ≡ true → is_text_mode new.content ≡ false → Early was new
early_after h w m n e c =
    record { none_before = h.none_before; whole = w; modes = m; nothing_open = n; early = e; calm_early = c }

early_step : {was : Bool} {s : StateValue} (f : StateValue → StateValue) → Ends is_any f → (f s).stack ≡ s.stack
    → Early was s → Early was (f s)
early_step {was} {s} f g e h =
    early_after h (g.whole s h.whole)
    (subst FreeModes (sym (ap (λ (m : Manner). m.template_modes) (g.same s h.whole))) h.modes) (e ∙ h.nothing_open)
    (ap is_early (ap (λ (m : Manner). m.mode) (g.same s h.whole)) ∙ h.early)
    (ap is_text_mode (ap (λ (m : Manner). m.content) (g.same s h.whole)) ∙ h.calm_early)

-- the rules of these modes, for a tag of that name
abbrev opens_root : NameValue → Rule → Bool
opens_root name (act (root given)) = is_of (Only tags.Html) (html (name_given given name))
opens_root name r = false

abbrev early_fits : NameValue → Reply → Bool
early_fits name (ends nothing) = true
early_fits name (ends (act (comment_in_document text))) = true
early_fits name (ends (act (started quirks))) = true
early_fits name (ends r) = opens_root name r
early_fits name (again (act to_quirks)) = true
early_fits name (again r) = opens_root name r
early_fits name r = false

module _ {was : Bool} (tag : StartTagValue) (s : StateValue) (h : Early was s) where
  root_opened : (r : Rule) → opens_root tag.name r ≡ true → Calm was (rules.run r tag s)
  root_opened (act (root given)) e = inr (
    record {
      whole = (insert_root_ends {p = is_any} (given_name given tag) (given_attributes given tag)).whole s h.whole;
      modes = h.modes;
      root = inl (e, h.nothing_open);
      fact = tt;
    },
    h.calm_early,
  )
  root_opened r e = absurd (true≢false (sym e))

  early_reply : (r : Reply) → early_fits tag.name r ≡ true → Calm was (reply_of r tag s).state
  early_reply (ends nothing) e = inl h
  early_reply (ends (act (comment_in_document text))) e =
      inl (early_step (insert_comment_in 0 text) (insert_comment_in_ends 0 text) refl h)
  early_reply (ends (act (started quirks))) e =
      inl (early_after h ((insert_doctype_ends {p = is_any}).whole s h.whole) h.modes h.nothing_open refl h.calm_early)
  early_reply (ends r) e = root_opened r e
  early_reply (again (act to_quirks)) e = inl (early_after h h.whole h.modes h.nothing_open refl h.calm_early)
  early_reply (again r) e = root_opened r e
  early_reply r e = absurd (true≢false (sym e))

early_start : (name : NameValue) → early_fits name (start_before_html name) ≡ true
early_start (known tags.Html) = refl
early_start name = refl

early_end : (name : NameValue) → early_fits (known tags.P) (end_before_html name) ≡ true
early_end (known tags.Html) = refl
early_end name = refl

early_fit : (mode : InsertionMode) → is_early mode ≡ true → (token : TokenValue) → is_run token ≡ false
    → early_fits (tag_name token) (rule_in mode token) ≡ true
early_fit BeforeHtml m (start_tag tag) e = early_start tag.name
early_fit BeforeHtml m (end_tag name) e = early_end name
early_fit Initial m (start_tag tag) e = refl
early_fit Initial m token e = refl
early_fit BeforeHtml m token e = refl
early_fit mode m token e = absurd (true≢false (sym m))

-- a run of each kind
early_runs : {was : Bool} (mode : InsertionMode) → is_early mode ≡ true → (t : List ℕ) (s : StateValue)
    → Early was s → Calm was (in_mode mode (run (kind_of_byte 32) t) s).state
    × Calm was (in_mode mode (run (kind_of_byte 0) t) s).state
    × Calm was (in_mode mode (run (kind_of_byte 97) t) s).state
early_runs Initial m t s h =
    let x = early_reply (tag_of end_of_file) s h (end_of_file_in Initial) refl in (inl h, x, x)
early_runs BeforeHtml m t s h =
    let x = early_reply (tag_of end_of_file) s h (end_of_file_in BeforeHtml) refl in (inl h, x, x)
early_runs mode m t s h = absurd (true≢false (sym m))

by_mode : {was : Bool} (token : TokenValue) (s : StateValue) → Early was s → Calm was (by_mode_rules token s).state
    → Calm was (by_rules token s).state
by_mode {was} token s h g =
    subst (λ (b : Bool). Calm was (if b then in_foreign_content token s else by_mode_rules token s).state)
    (sym (stays_html token s (ap current_is_html h.nothing_open))) g

early_rules : {was : Bool} (token : TokenValue) → is_run token ≡ false → (s : StateValue) → Early was s
    → Calm was (by_rules token s).state
early_rules {was} token e s h =
    by_mode token s h (in_mode_as (λ f. Calm was (f s).state) token e s.mode
    (early_reply (tag_of token) s h (rule_in s.mode token) (early_fit s.mode h.early token e)))

early_run : {was : Bool} (text : List ℕ) (s : StateValue) → Early was s
    → Calm was (by_rules (first_token text) s).state
early_run {was} text s h =
    let x = early_runs s.mode h.early (first_run text) s h in
    by_mode (first_token text) s h
    (by_first_kind (λ kind. Calm was (by_mode_rules (run kind (first_run text)) s).state) x.0 x.1 x.2 text)

-- ---- a token is processed

answered_stands : (go : StateValue → StateValue) (s : StateValue) (a : Outcome) → is_text_mode s.content ≡ false
    → ((t : StateValue) → Ready t → is_text_mode t.content ≡ false → Open (go t)) → Answered s a
    → Open (after_outcome go a)
answered_stands go s a c more h =
    cond_both a.again _ _ (λ x. Open x)
    (λ e. ⊎_elim (λ k. more a.state h.ready k) (λ k. absurd (true≢false (sym e ∙ k.0))) (h.rest c))
    (λ e. record { ready = h.ready; rest = ⊎_elim (λ k. inl k) (λ k. inr k.1) (h.rest c) })

within_open : (k : ℕ) (token : TokenValue) (s : StateValue) → is_run token ≡ false → Ready s
    → is_text_mode s.content ≡ false → Open (process_within k token s)
within_open zero token s e h c = record { ready = h; rest = inl c }
within_open (suc k) token s e h c =
    answered_stands (process_within k token) s (by_rules token s) c (λ t g d. within_open k token t e g d)
    ((by_rules_ends token e).answers s refl h)

early_answered : {was : Bool} (go : StateValue → StateValue) (a : Outcome)
    → ((t : StateValue) → Calm was t → Stands was (go t)) → Calm was a.state → Stands was (after_outcome go a)
early_answered {was} go a more h =
    cond_both a.again _ _ (λ x. Stands was x) (λ e. more a.state h) (λ e. calm_stands h)

within_stands : {was : Bool} (k : ℕ) (token : TokenValue) (s : StateValue) → is_run token ≡ false → Calm was s
    → Stands was (process_within k token s)
within_stands zero token s e h = calm_stands h
within_stands (suc k) token s e (inl h) =
    early_answered (process_within k token) (by_rules token s) (λ t g. within_stands k token t e g)
    (early_rules token e s h)
within_stands (suc k) token s e (inr h) = inr (within_open (suc k) token s e h.0 h.1)

-- ---- texts

no_table_mode : (mode : InsertionMode) → is_early mode ≡ true → is_table_mode mode ≡ false
no_table_mode Initial e = refl
no_table_mode BeforeHtml e = refl
no_table_mode _ e = absurd (true≢false (sym e))

run_calm : {was : Bool} (go : StateValue → Taken) (rest : List ℕ) (a : Outcome)
    → ((x : StateValue) → Calm was x → Calm was (go x).state) → Calm was a.state
    → Calm was (after_run go rest a).state
run_calm {was} go rest a more g =
    cond_both a.again _ _ (λ (x : Taken). Calm was x.state) (λ e. more a.state g) (λ e. g)

take_calm : {was : Bool} (k : ℕ) (text : List ℕ) (s : StateValue) → Calm was s
    → Calm was (take_within k text s).state
take_calm zero text s h = h
take_calm (suc k) text s (inr h) =
    let x = take_left (suc k) text s h.0 in inr (x.ready, ap is_text_mode x.content ∙ h.1)
take_calm (suc k) text s (inl h) =
    rw (ap (λ (b : Bool). b && current_is Fostering s.stack) (no_table_mode s.mode h.early))
    (run_calm (take_within k text) (after_first_run text) (by_rules (first_token text) s)
    (λ x g. take_calm k text x g) (early_run text s h))

put_calm : {was : Bool} (k : ℕ) (text : List ℕ) (s : StateValue) → Calm was s → Calm was (put_within k text s)
put_calm {was} zero text s h = h
put_calm {was} (suc k) text s h =
    cond_both (is_empty text) _ _ (λ x. Calm was x) (λ e. h)
    (λ e. put_calm k (take_part text s).rest (take_part text s).state (take_calm (turns s) text s h))

-- ---- tokens of the tokenizer

out_of_text : {was : Bool} (s : StateValue) → Stands was s → Calm was (out_of_text_mode s)
out_of_text {was} s (inl h) = rw h.calm_early (inl h)
out_of_text {was} s (inr h) =
    cond_both (is_text_mode s.content) _ _ (λ x. Calm was x) (λ e.
    ⊎_elim (λ c. absurd (true≢false (sym e ∙ c))) (λ r. inr (
      record {
        whole = whole_fewer (pop s.stack) (pop_fewer s.stack) h.ready.whole;
        modes = h.ready.modes;
        root = r.0;
        fact = r.1;
      },
      refl,
    )) h.rest) (λ e. inr (h.ready, e))

ended_tag : {was : Bool} (name : NameValue) (s : StateValue) → Stands was s → Stands was (feed_end_tag name s)
ended_tag {was} name s h =
    let c = out_of_text s h in
    cond_both (is_text_mode s.content) _ _ (λ x. Stands was x) (λ e. calm_stands (rw e at c))
    (λ e. within_stands (turns s) (end_tag name) s refl (rw e at c))

raw_text : {was : Bool} (t : List ℕ) (s : StateValue) → Stands was s → Stands was (put_raw_text t s)
raw_text {was} t s h =
    cond_both (is_empty t) _ _ (λ x. Stands was x) (λ e. h)
    (λ e. ⊎_elim (λ k. inl (early_step (insert_text t) (insert_text_ends t) refl k))
    (λ k. inr (record { ready = ((any_step (insert_text_ends t)).turns s refl k.ready).ready; rest = k.rest })) h)

fed_text : {was : Bool} (t : List ℕ) (s : StateValue) → Stands was s → Stands was (feed_text t s)
fed_text {was} t s h =
    let c = out_of_text s h in
    cond_both (is_text_mode s.content) _ _ (λ x. Stands was x) (λ e. raw_text t s h)
    (λ e. calm_stands (put_calm (length t) t s (rw e at c)))

feed_at_stands : {was : Bool} (token : tokens.TokenValue) (skips : Bool) (s : StateValue) → Stands was s
    → Stands was (feed_at token skips s)
feed_at_stands (tokens.text t) skips s h = fed_text (without_line_feed skips t) s h
feed_at_stands (tokens.start_tag tag) skips s h =
    within_stands (turns (out_of_text_mode s)) (start_tag (named tag)) (out_of_text_mode s) refl (out_of_text s h)
feed_at_stands (tokens.end_tag tag) skips s h = ended_tag (name_of_text tag.name) s h
feed_at_stands (tokens.comment t) skips s h =
    within_stands (turns (out_of_text_mode s)) (comment t) (out_of_text_mode s) refl (out_of_text s h)
feed_at_stands (tokens.doctype quirks) skips s h =
    within_stands (turns (out_of_text_mode s)) (doctype quirks) (out_of_text_mode s) refl (out_of_text s h)
feed_at_stands tokens.end_of_file skips s h =
    within_stands (turns (out_of_text_mode s)) end_of_file (out_of_text_mode s) refl (out_of_text s h)

skips_ends : Ends is_any with_nothing_skipped
skips_ends = stack_kept (λ s h. h) (λ s. refl) (λ s. refl)

skipped : {was : Bool} {s : StateValue} → Stands was s → Stands was (with_nothing_skipped s)
skipped (inl h) = inl (early_step with_nothing_skipped skips_ends refl h)
skipped {was} {s} (inr h) = inr (record { ready = ((any_step skips_ends).turns s refl h.ready).ready; rest = h.rest })

feed_stands : {was : Bool} (token : tokens.TokenValue) (s : StateValue) → Stands was s → Stands was (feed token s)
feed_stands token s h = feed_at_stands token s.skips_line_feed (with_nothing_skipped s) (skipped h)

-- ---- what is open

root_ends : (stack : List OpenValue) → Has at_root stack → ends_in_html stack ≡ true
root_ends [] h = absurd h
root_ends (e ∷ []) (inl h) = h.0
root_ends (e ∷ []) (inr h) = absurd h
root_ends (e ∷ f ∷ es) (inl h) = let g = h.1 in absurd (cc)
root_ends (e ∷ f ∷ es) (inr h) = root_ends (f ∷ es) h

early_ended : (before after : List OpenValue) → before ≡ [] → after ≡ [] → is_ended before after ≡ true
early_ended before after e f = rw (e, f) refl

-- what a token leaves
record Fed (s new : StateValue) : Type 0 where
  stands : Stands false new
  ended : is_ended s.stack new.stack ≡ true

open_fed : (s new : StateValue) → Open new → Fed s new
open_fed s new h =
    record { stands = inr h; ended = or_left (ends_in_html new.stack) _ (root_ends new.stack h.ready.root) }

token_fed : (token : tokens.TokenValue) (s : StateValue) → Stands false s → Fed s (feed token s)
token_fed token s (inr h) =
    ⊎_elim (λ g. absurd (true≢false g.none_before)) (λ g. open_fed s (feed token s) g)
    (feed_stands {was = true} token s (inr h))
token_fed token s (inl h) =
    ⊎_elim (λ g. record {
      stands = inl g;
      ended = early_ended s.stack (feed token s).stack h.nothing_open g.nothing_open;
    }) (λ g. open_fed s (feed token s) g) (feed_stands token s (inl h))

-- ---- pages

within_ended : (k : ℕ) (page : List ℕ) (s : StateValue) → Stands false s → ended_within k page s ≡ true
within_ended zero page s h = refl
within_ended (suc k) page s h =
    let x = token_fed (next_read page s).token s h in
    and_from _ _ x.ended (cond_both (is_end (next_read page s).token) _ _ (λ b. b ≡ true) (λ e. refl)
    (λ e. within_ended k (next_read page s).rest (feed (next_read page s).token s) x.stands))

begins_early : (scripting : Bool) → Stands false (initial_state scripting)
begins_early scripting = inl (record {
  none_before = refl;
  whole = record {
    guarded = tt;
    entries_at = λ n l. absurd (true≢false (sym l));
    head_at = λ n e. absurd (cc);
    form_at = λ n e. absurd (cc);
  };
  modes = tt;
  nothing_open = refl;
  early = refl;
  calm_early = refl;
})

pub elements_ended : OpenElementsEnd
elements_ended scripting page =
    within_ended (suc (length (preprocessed page))) (preprocessed page) (initial_state scripting)
    (begins_early scripting)
