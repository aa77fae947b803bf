-- The tokens of a page, one after another: the letters of their texts stand in order among the nodes.
use Rattle.std.proofs.Common.{◌≡◌, ◌∙◌, ℕ, zero, suc, Bool, true, false, List, [], ◌∷◌, ◌++◌, length, Option, Some}
use Rattle.std.proofs.Common.{None, refl, sym, ap, subst, arith, cond, inl, inr, append_assoc}
use Rattle.std.specs.Prelude.{IsUtf8, if◌then◌else◌, ◌&&◌, ◌||◌, ◌==◌, not, codes}
use Rattle.std.specs.List.{list_all}
use Rattle.std.specs.Str.{bytes_eq}
use Rattle.std.proofs.lemmas.Bool.{true≢false, and_parts, cond_both, or_parts, not-true}
use Rattle.htmd_lexical.specs.CharacterClasses.{is_empty, behind_run}
use Rattle.htmd_lexical.proofs.LeadingRunsLemmas.{back_split}
use Rattle.htmd_html5_tokens.specs.Preprocessing.{preprocessed}
use Rattle.htmd_html5_tokens.specs.Tokens.{Read}
use Rattle.htmd_html5_state.specs.Names.{NameValue, known, known_name, known_or, name_of_text, spelling}
use Rattle.htmd_html5_state.specs.Nodes.{document, text as text_kind, new_node, kind_at, children_at}
use Rattle.htmd_html5_state.specs.OpenElements.{current_is, pop}
use Rattle.htmd_html5_state.specs.State.{StateValue, initial_state}
use Rattle.htmd_html5_state.specs.Insertion.{insert_text}
use Rattle.htmd_html5_state.specs.Foreign.{current_is_html}
use Rattle.htmd_html5_state.specs.declared.names.TagName.{TagName}
use Rattle.htmd_html5_state.specs.declared.modes.InsertionMode.{InsertionMode}
use Rattle.htmd_html5_state.specs.declared.modes.InsertionMode.TheVariants.{InTable}
use Rattle.htmd_html5_state.specs.declared.sets.NameSet.TheVariants.{Fostering}
use Rattle.htmd_html5.specs.Tokens.{TokenValue, start_tag, end_tag, comment, doctype, end_of_file}
use Rattle.htmd_html5.specs.Runs.{is_of_kind, first_kind, first_run, after_first_run}
use Rattle.htmd_html5.specs.Outcomes.{Outcome}
use Rattle.htmd_html5.specs.Processing.{by_rules, turns, process_within, process}
use Rattle.htmd_html5.specs.Texts.{Taken, is_table_mode, takes_all, after_run, first_token, take_within}
use Rattle.htmd_html5.specs.Texts.{take_part, put_within}
use Rattle.htmd_html5.specs.Feeding.{is_text_mode, put_raw_text, feed_text, without_line_feed, with_nothing_skipped}
use Rattle.htmd_html5.specs.Feeding.{close_raw, out_of_text_mode, feed_end_tag, named, feed}
use Rattle.htmd_html5.specs.Html5Documents.{next_read, is_end, after_token, read_within, state_after}
use Rattle.htmd_law_html5.specs.DroppedTexts.{drops_text_in, tokens_after, tokens_within}
use Rattle.htmd_law_html5.specs.LetterOrder.{moves_text_in, moves_no_text, no_tag_moves_text}
use Rattle.htmd_law_html5.proofs.Utf8Tokens.{TokenUtf8, ReadUtf8, next_token_utf8, preprocessed_utf8}
use Rattle.htmd_law_html5.proofs.TakingTexts.{run_parts}
use Rattle.htmd_law_html5.proofs.FedTokens.{shortened}
use Rattle.htmd_law_html5.proofs.OpenNodes.{pop_fewer}
use Rattle.htmd_law_html5.proofs.UndroppedTokens.{spelled, begins_hung}
use Rattle.htmd_law_html5.proofs.ChildRows.{Row}
use Rattle.htmd_lexical.proofs.Cases.{test}
use Rattle.htmd_law_html5.proofs.OrderedNodes.{FitsBy, Labels, none_out, marks}
use Rattle.htmd_law_html5.proofs.OrderedTexts.{letters_append}
use Rattle.htmd_law_html5.proofs.OrderedStates.{Ordered, on_stack_orders}
use Rattle.htmd_law_html5.proofs.OrderedRules.{is_orderly_name, IsOrderly}
use Rattle.htmd_law_html5.proofs.RootedStates.{rooted_stack}
use Rattle.htmd_law_html5.proofs.OrderedLate.{Late}
use Rattle.htmd_law_html5.proofs.OrderedEarly.{Staged, Calm, early_fewer, stage_mode, is_early, by_stage, staged}
use Rattle.htmd_law_html5.proofs.OrderedEarly.{opens_in, early_mode_plain, opens_current, closed_fewer, closed_placed}
use Rattle.htmd_law_html5.proofs.OrderedHead.{by_rules_stage, MayCome}
use Rattle.htmd_law_html5.specs.EndedTurns.{is_done_within}
use Rattle.htmd_law_html5.proofs.EndedTurns.{run_done, done_again}
use Rattle.htmd_law_html5.proofs.PuttingTexts.{first_all}
use Rattle.htmd_law_html5.proofs.OrderedRuns.{no_more, staged_grown, RunOf, run_of, late_writes, unless, nil_letters}
use Rattle.htmd_law_html5.proofs.OrderedRuns.{early_text}
use Rattle.htmd_law_html5.proofs.WhiteRuns.{Dark, dark_whole, behind_twice, Clean, clean_rest, clean_shortened}
use Rattle.htmd_law_html5.specs.TextKept.{is_before_head, drops_white, without_white, kept_text, with_kept_text}
use Rattle.htmd_law_html5.specs.TextKept.{kept_after, kept_within, kept_texts, is_after_head, comes_late}
use Rattle.htmd_law_html5.specs.TextKept.{early_after, early_within, no_tag_comes_late, has_no_null, no_null_comes}
use Rattle.htmd_lexical.specs.WhiteSpace.{is_ascii_white_space}
use Rattle.htmd_law_html5.proofs.Counted.{Choice, counted_in, counted_of}
use Rattle.htmd_law_html5.proofs.RootedStacks.{is_late}
use Rattle.htmd_html5_state.specs.declared.names.TagName.TheVariants as tags
use Rattle.htmd_html5_tokens.specs.Tokens as tokens

-- ---- a text, run by run

module _ (choice : Choice) where
  abbrev kept : List ℕ → StateValue → List ℕ
  kept text s = without_white (is_before_head s.mode) text

  -- a part of a text was put, and this is left
  pub record Part (letters text : List ℕ) (s : StateValue) (t : Taken) : Type 0 where
    pub put : List ℕ
    pub stage : Staged choice (letters ++ put) t.state
    pub calm : Calm t.state
    pub fits : put ++ counted_of choice (kept t.rest t.state) ≡ counted_of choice (kept text s)
    pub utf8 : IsUtf8 t.rest
    pub clean : Clean choice.nulls t.rest

  pub letters_split : (s : List ℕ) → IsUtf8 s
      → counted_of choice (first_run s) ++ counted_of choice (after_first_run s) ≡ counted_of choice s
  letters_split s u =
      sym (letters_append choice (first_run s) (after_first_run s) (run_parts 0 s u).front)
      ∙ ap (counted_of choice) (sym (back_split (is_of_kind (first_kind s)) s))

  -- no mode here is one of tables
  pub no_tables : (letters : List ℕ) (s : StateValue) → Staged choice letters s → is_table_mode s.mode ≡ false
  no_tables letters s h = by_mode s.mode (stage_mode (is_text_mode s.content) letters s h)
    where
      by_mode : (mode : InsertionMode) → (is_late mode || is_early mode) ≡ true → is_table_mode mode ≡ false
      by_mode InTable e = absurd (true≢false (sym e))
      by_mode _ e = cc

  -- what is put of the first run and what is kept of the rest are what is kept of the text
  parts_fit : (text : List ℕ) (before white : Bool) → IsUtf8 text
      → (white ≡ true → after_first_run text ≡ behind_run is_ascii_white_space text)
      → (white ≡ false → Dark text) → counted_of choice (unless (before && white) (first_run text))
      ++ counted_of choice (without_white (before && white) (after_first_run text))
      ≡ counted_of choice (without_white before text)
  parts_fit text false white u bright dark = letters_split text u
  parts_fit text true false u bright dark = letters_split text u ∙ ap (counted_of choice) (sym (dark refl))
  parts_fit text true true u bright dark =
      ap (λ (x : List ℕ). x ++ counted_of choice (behind_run is_ascii_white_space (after_first_run text)))
      (nil_letters choice) ∙ ap (counted_of choice)
      (ap (behind_run is_ascii_white_space) (bright refl) ∙ behind_twice is_ascii_white_space text)

  run_part : (k : ℕ) (text : List ℕ) (letters : List ℕ) (s : StateValue) (a : Outcome) → IsUtf8 text
      → Clean choice.nulls text → RunOf choice letters text s a
      → (a.again ≡ true → Calm a.state → Staged choice letters a.state
      → Part letters text a.state (take_within k text a.state))
      → Part letters text s (after_run (take_within k text) (after_first_run text) a)
  run_part k text letters s a u clean r more =
      cond_both a.again _ _ (Part letters text s)
      (λ e. let p = more e r.stage.calm (r.stage.keeps e) in
      let dark = r.dark (r.stage.dark e) in
      record {
        put = p.put;
        stage = p.stage;
        calm = p.calm;
        fits =
            p.fits ∙ ap (counted_of choice) (dark_whole text dark (is_before_head a.state.mode)
            ∙ sym (dark_whole text dark (is_before_head s.mode)));
        utf8 = p.utf8;
        clean = p.clean;
      })
      (λ e. record {
        put = counted_of choice (unless (is_before_head s.mode && r.white) (first_run text));
        stage = r.stage.puts e;
        calm = r.stage.calm;
        fits =
            ap (λ (b : Bool). counted_of choice (unless (is_before_head s.mode && r.white) (first_run text))
            ++ counted_of choice (without_white b (after_first_run text))) (r.stage.after e)
            ∙ parts_fit text (is_before_head s.mode) r.white u r.bright r.dark;
        utf8 = (run_parts 0 text u).rest;
        clean = clean_rest choice.nulls text clean;
      })

  pub within_part : (k : ℕ) (text : List ℕ) (letters : List ℕ) (s : StateValue)
      → is_done_within k (first_token text) s ≡ true → IsUtf8 text → Clean choice.nulls text → Calm s
      → Staged choice letters s → Part letters text s (take_within k text s)
  within_part zero text letters s l u clean calm h = absurd (true≢false (sym l))
  within_part (suc k) text letters s l u clean calm h =
      cond_both (takes_all s) _ _ (Part letters text s)
      (λ e. absurd (true≢false (sym (and_parts (is_table_mode s.mode) (current_is Fostering s.stack) e).0
      ∙ no_tables letters s h))) (λ e. run_part k text letters s (by_rules (first_token text) s) u clean
      (run_of choice letters text (run_parts 0 text u).front clean (first_all text) s calm h)
      (λ (again : (by_rules (first_token text) s).again ≡ true) c x.
      within_part k text letters (by_rules (first_token text) s).state (done_again k (first_token text) s l again) u
      clean
      c x))

  put_stage : (k : ℕ) (text : List ℕ) (letters : List ℕ) (s : StateValue) → IsUtf8 text
      → Clean choice.nulls text → Calm s → Staged choice letters s
      → Staged choice (letters ++ counted_of choice (kept text s)) (put_within k text s)
  put_stage zero text letters s u clean calm h = staged_grown choice letters (counted_of choice (kept text s)) s h
  put_stage (suc k) text letters s u clean calm h =
      let p = within_part (turns s) text letters s (run_done text s) u clean calm h in
      let rest = kept (take_part text s).rest (take_part text s).state in
      cond_both (is_empty text) _ _ (λ (x : StateValue). Staged choice (letters ++ counted_of choice (kept text s)) x)
      (λ e. staged_grown choice letters (counted_of choice (kept text s)) s h)
      (λ e. subst (λ (x : List ℕ). Staged choice x (put_within k (take_part text s).rest (take_part text s).state))
      (append_assoc letters p.put (counted_of choice rest) ∙ ap (λ (x : List ℕ). letters ++ x) p.fits)
      (put_stage k (take_part text s).rest (letters ++ p.put) (take_part text s).state p.utf8 p.clean p.calm p.stage))

  -- ---- in an element of only text

  put_raw_stage : (letters t : List ℕ) (s : StateValue) → IsUtf8 t → is_text_mode s.content ≡ true
      → Staged choice letters s → Staged choice (letters ++ counted_of choice t) (put_raw_text t s)
  put_raw_stage letters t s u e h =
      cond_both (is_empty t) _ _ (λ (x : StateValue). Staged choice (letters ++ counted_of choice t) x)
      (λ f. staged_grown choice letters (counted_of choice t) s h)
      (λ f. by_stage choice true letters s e h (λ x. inl (late_writes choice letters t s u x)) (λ x.
      staged choice true s.mode (letters ++ counted_of choice t) (insert_text t s) e refl (record {
        early_mode = x.early_mode;
        early = early_text choice letters t s (opens_in s.mode choice.reopens true s.head s.stack)
            (early_mode_plain s.mode x.early_mode)
            (opens_current s.mode choice.reopens s.head s.stack x.placed) u x.early;
        placed = x.placed;
      })))

  feed_text_stage : (letters t : List ℕ) (s : StateValue) → IsUtf8 t → Clean choice.nulls t
      → Staged choice letters s
      → Staged choice (letters ++ counted_of choice (without_white (drops_white s) t)) (feed_text t s)
  feed_text_stage letters t s u clean h =
      test (is_text_mode s.content) (λ e. rw e (put_raw_stage letters t s u e h))
      (λ e. rw e (put_stage (length t) t letters s u clean e h))

-- ---- an element of only text is closed

module _ (choice : Choice) where
  late_closed : (letters : List ℕ) (s : StateValue) → is_text_mode s.content ≡ true → Late choice letters s
      → Late choice letters (close_raw s)
  late_closed letters s e h =
      let f = on_stack_orders choice pop pop_fewer in
      record {
        plain = f.stays.stays s h.plain;
        hung = f.stays.hangs s h.plain h.hung;
        ordered = f.orders letters s h.plain h.hung h.ordered;
        body = h.body;
        rooted = rooted_stack (pop s.stack) (h.raw e) h.rooted;
        raw = λ r. absurd (true≢false (sym r));
      }

  raw_closed : (letters : List ℕ) (s : StateValue) → is_text_mode s.content ≡ true → Staged choice letters s
      → Staged choice letters (close_raw s)
  raw_closed letters s e h = by_stage choice true letters s e h (λ x. inl (late_closed letters s e x)) (λ x.
      inr (record {
        early_mode = x.early_mode;
        early = (
          early_fewer (opens_in s.mode choice.reopens false s.head (pop s.stack))
              (closed_fewer s.mode choice.reopens s.head s.stack) x.early.0,
          x.early.1,
        );
        placed = closed_placed s.mode s.head s.stack x.placed;
      }))

  -- a state that isn't in the mode "text"
  out_of_text : (letters : List ℕ) (s : StateValue) → Staged choice letters s
      → Staged choice letters (out_of_text_mode s) × Calm (out_of_text_mode s)
  out_of_text letters s h =
      cond_both (is_text_mode s.content) _ _ (λ (x : StateValue). Staged choice letters x × Calm x)
      (λ e. (raw_closed letters s e h, refl)) (λ e. (h, e))

  -- ---- a token by the rules

  process_stage : (k : ℕ) (t : TokenValue) → IsOrderly t → (letters : List ℕ) (s : StateValue) → Calm s
      → Staged choice letters s → MayCome choice t s → Staged choice letters (process_within k t s)
  process_stage zero t p letters s calm h may = h
  process_stage (suc k) t p letters s calm h may =
      let a = by_rules_stage choice t p letters s calm h may in
      cond_both (by_rules t s).again _ _ (λ (x : StateValue). Staged choice letters x)
      (λ e. process_stage k t p letters (by_rules t s).state (a.0.calm e) a.0.stage (a.1 e)) (λ e. a.0.stage)

  processed : (t : TokenValue) → IsOrderly t → (letters : List ℕ) (s : StateValue)
      → Staged choice letters s × Calm s → MayCome choice t s → Staged choice letters (process t s)
  processed t p letters s h may = process_stage (turns s) t p letters s h.1 h.0 may

  end_tag_stage : (name : NameValue) (letters : List ℕ) (s : StateValue) → Staged choice letters s
      → Staged choice letters (feed_end_tag name s)
  end_tag_stage name letters s h =
      cond_both (is_text_mode s.content) _ _ (λ (x : StateValue). Staged choice letters x)
      (λ e. raw_closed letters s e h) (λ e. processed (end_tag name) tt letters s (h, e) (λ z m. refl))

-- ---- names of start tags

orderly_name : (s : List ℕ) → moves_text_in s ≡ false → is_orderly_name (name_of_text s) ≡ true
orderly_name s d = by_found (known_name s) refl
  where
    parts : (drops_text_in s ≡ false) × (bytes_eq s (codes "table") ≡ false)
    parts = or_parts (drops_text_in s) (bytes_eq s (codes "table")) d

    by_tag : (tag : TagName) → bytes_eq s (spelling tag) ≡ true → is_orderly_name (known tag) ≡ true
    by_tag tags.FrameSet e =
        absurd (true≢false (sym e ∙ (or_parts _ _ parts.0).0))
    by_tag tags.Template e =
        absurd (true≢false (sym e ∙ (or_parts _ _ parts.0).1))
    by_tag tags.Table e = absurd (true≢false (sym e ∙ parts.1))
    by_tag _ e = refl

    by_found : (tag : Option TagName) → known_name s ≡ tag → is_orderly_name (known_or s tag) ≡ true
    by_found None e = refl
    by_found (Some tag) e = by_tag tag (spelled s tag e)

out_of_text_stays : (s : StateValue) → (out_of_text_mode s).mode ≡ s.mode
out_of_text_stays s =
    cond_both (is_text_mode s.content) _ _ (λ (x : StateValue). x.mode ≡ s.mode) (λ e. refl) (λ e. refl)

module _ (choice : Choice) where
  -- ---- tokens of the tokenizer

  -- none comes late, if the head isn't to be opened once more
  abbrev NotLate : tokens.TokenValue → StateValue → Type 0
  NotLate token s = choice.reopens ≡ false → comes_late token s ≡ false

  -- none holds U+0000, if none may come
  abbrev NoNull : tokens.TokenValue → Type 0
  NoNull token = choice.nulls ≡ false → has_no_null token ≡ true

  abbrev pub kept_letters : tokens.TokenValue → StateValue → List ℕ
  kept_letters (tokens.text t) s = counted_of choice (kept_text t s)
  kept_letters _ s = []

  letters_with : (token : tokens.TokenValue) (s : StateValue) (more : List (List ℕ))
      → counted_in choice (with_kept_text token s more) ≡ kept_letters token s ++ counted_in choice more
  letters_with (tokens.text t) s more = refl
  letters_with _ s more = refl

  pub stage_skipped : (letters : List ℕ) (s : StateValue) → Staged choice letters s
      → Staged choice letters (with_nothing_skipped s)
  stage_skipped letters s (inl h) = inl (record {
    plain = h.plain;
    hung = h.hung;
    ordered = h.ordered;
    body = h.body;
    rooted = h.rooted;
    raw = h.raw;
  })
  stage_skipped letters s (inr h) = inr (record { early_mode = h.early_mode; early = h.early; placed = h.placed })

  module _ (letters : List ℕ) where
    none_put : (s : StateValue) → Staged choice letters s → Staged choice (letters ++ []) s
    none_put s h = subst (λ (x : List ℕ). Staged choice x s) (sym (no_more letters [] refl)) h

    others_stage : (t : TokenValue) → IsOrderly t → (s : StateValue) → Staged choice letters s
        → MayCome choice t (out_of_text_mode s) → Staged choice (letters ++ []) (process t (out_of_text_mode s))
    others_stage t p s h may =
        none_put (process t (out_of_text_mode s))
        (processed choice t p letters (out_of_text_mode s) (out_of_text choice letters s h) may)

    pub feed_stage : (token : tokens.TokenValue) (s : StateValue) → TokenUtf8 token → moves_no_text token ≡ true
        → NotLate token s → NoNull token → Staged choice letters s
        → Staged choice (letters ++ kept_letters token s) (feed token s)
    feed_stage (tokens.text t) s u e late clean h =
        feed_text_stage choice letters (without_line_feed s.skips_line_feed t) (with_nothing_skipped s)
        (shortened 0 s.skips_line_feed t u).utf8 (clean_shortened choice.nulls s.skips_line_feed t clean)
        (stage_skipped letters s h)
    feed_stage (tokens.start_tag tag) s u e late clean h =
        others_stage (start_tag (named tag)) (orderly_name tag.name (not-true (moves_text_in tag.name) e))
        (with_nothing_skipped s) (stage_skipped letters s h)
        (λ z m. rw (sym (ap is_after_head (out_of_text_stays (with_nothing_skipped s))) ∙ m) at (late z))
    feed_stage (tokens.end_tag tag) s u e late clean h =
        none_put (feed_end_tag (name_of_text tag.name) (with_nothing_skipped s))
        (end_tag_stage choice (name_of_text tag.name) letters (with_nothing_skipped s) (stage_skipped letters s h))
    feed_stage (tokens.comment t) s u e late clean h =
        others_stage (comment t) tt (with_nothing_skipped s) (stage_skipped letters s h) (λ z m. refl)
    feed_stage (tokens.doctype quirks) s u e late clean h =
        others_stage (doctype quirks) tt (with_nothing_skipped s) (stage_skipped letters s h) (λ z m. refl)
    feed_stage tokens.end_of_file s u e late clean h =
        others_stage end_of_file tt (with_nothing_skipped s) (stage_skipped letters s h) (λ z m. refl)

  -- ---- all tokens

  record EndToken (token : tokens.TokenValue) (s : StateValue) : Type 0 where
    moving_none : moves_no_text token ≡ true
    none : kept_letters token s ≡ []
    early : comes_late token s ≡ false
    clean : has_no_null token ≡ true

  ends : (token : tokens.TokenValue) (s : StateValue) → is_end token ≡ true → EndToken token s
  ends (tokens.text t) s f = absurd (true≢false (sym f))
  ends (tokens.start_tag tag) s f = absurd (true≢false (sym f))
  ends _ s f = record { moving_none = refl; none = refl; early = refl; clean = refl }

  -- the tokens that are read from a state on
  pub record Allowed (k : ℕ) (page : List ℕ) (s : StateValue) : Type 0 where
    pub moving_none : list_all moves_no_text (tokens_within k page s) ≡ true
    pub early : choice.reopens ≡ false → early_within k page s ≡ true
    pub clean : choice.nulls ≡ false → list_all has_no_null (tokens_within k page s) ≡ true

  after_stage : (k : ℕ) (read : Read) (letters : List ℕ) (s : StateValue) → ReadUtf8 read
      → list_all moves_no_text (tokens_after (tokens_within k) read s) ≡ true
      → (choice.reopens ≡ false → early_after (early_within k) read s ≡ true)
      → (choice.nulls ≡ false → list_all has_no_null (tokens_after (tokens_within k) read s) ≡ true)
      → Staged choice letters s
      → ((more : List ℕ) (t : StateValue) → Allowed k read.rest t → Staged choice more t
      → Staged choice (more ++ counted_in choice (kept_within k read.rest t)) (read_within k read.rest t))
      → Staged choice (letters ++ counted_in choice (kept_after (kept_within k) read s))
      (after_token (read_within k) read s)
  after_stage k read letters s u e l n h more =
      test (is_end read.token)
      (λ g. rw g (let x = ends read.token s g in
      subst (λ (x : List ℕ). Staged choice (letters ++ x) (feed read.token s)) x.none
      (feed_stage letters read.token s u.token x.moving_none (λ z. x.early) (λ z. x.clean) h)))
      (λ g. rw g (
      let parts = and_parts _ _ (rw g at e) in
      let apart = λ (z : choice.reopens ≡ false). and_parts _ _ (rw g at (l z)) in
      let none = λ (z : choice.nulls ≡ false). and_parts _ _ (rw g at (n z)) in
      subst (λ (x : List ℕ). Staged choice x (read_within k read.rest (feed read.token s)))
      (append_assoc letters (kept_letters read.token s)
      (counted_in choice (kept_within k read.rest (feed read.token s))) ∙ ap (λ (x : List ℕ). letters ++ x)
      (sym (letters_with read.token s (kept_within k read.rest (feed read.token s)))))
      (more (letters ++ kept_letters read.token s) (feed read.token s)
      (record { moving_none = parts.1; early = λ z. (apart z).1; clean = λ z. (none z).1 })
      (feed_stage letters read.token s u.token parts.0 (λ z. not-true (comes_late read.token s) (apart z).0)
      (λ z. (none z).0) h))))

  read_stage : (k : ℕ) (page : List ℕ) (letters : List ℕ) (s : StateValue) → IsUtf8 page → Allowed k page s
      → Staged choice letters s
      → Staged choice (letters ++ counted_in choice (kept_within k page s)) (read_within k page s)
  read_stage zero page letters s u a h = feed_stage letters tokens.end_of_file s tt refl (λ z. refl) (λ z. refl) h
  read_stage (suc k) page letters s u a h =
      let r = next_token_utf8 s.content (not (current_is_html s.stack)) page u in
      after_stage k (next_read page s) letters s r a.moving_none a.early a.clean h
      (λ more t f g. read_stage k (next_read page s).rest more t r.rest f g)

  -- ---- the first state

  begins_ordered : (scripting : Bool) → Ordered choice [] (initial_state scripting)
  begins_ordered scripting = record {
    labels = record { lo = λ n. 0; hi = λ n. 0; live = λ n. n == 0 };
    fits = record {
      span = λ n. omega arith;
      high = λ n. omega arith;
      rows = λ limit big q. first_row limit q;
      texts = λ n t e. absurd (none n t e);
    };
    root = refl;
    opens = tt;
    no_fostering = refl;
  }
    where
      none : (n : ℕ) (t : List ℕ) → kind_at (new_node document ∷ []) n ≡ text_kind t → ⊥
      none zero t e = cc
      none (suc n) t e = cc

      first_row : (limit q : ℕ) → Row (marks choice none_out (new_node document ∷ []) limit
          (record { lo = λ n. 0; hi = λ n. 0; live = λ n. n == 0 }))
          0 (children_at (new_node document ∷ []) q) (cond (q == 0) limit 0)
      first_row limit zero = omega arith
      first_row limit (suc q) = omega arith

  pub begins_staged : (scripting : Bool) → Staged choice [] (initial_state scripting)
  begins_staged scripting = inr (record {
    early_mode = refl;
    early = (
      record { hung = begins_hung scripting; ordered = begins_ordered scripting; names = tt },
      (refl, (refl, refl)),
    );
    placed = refl;
  })

  pub state_staged : (scripting : Bool) (page : List ℕ) → IsUtf8 page → no_tag_moves_text scripting page ≡ true
      → (choice.reopens ≡ false → no_tag_comes_late scripting page ≡ true)
      → (choice.nulls ≡ false → no_null_comes scripting page ≡ true)
      → Staged choice (counted_in choice (kept_texts scripting page)) (state_after scripting page)
  state_staged scripting page u e l n =
      read_stage (length (preprocessed page)) (preprocessed page) [] (initial_state scripting)
      (preprocessed_utf8 page u) (record { moving_none = e; early = l; clean = n }) (begins_staged scripting)

  -- the letters stand in order among the nodes, in whatever mode the page ends
  pub staged_ordered : (letters : List ℕ) (s : StateValue) → Staged choice letters s
      → (l : Labels) × FitsBy choice none_out letters s.nodes l
  staged_ordered letters s (inl h) = (h.ordered.labels, h.ordered.fits)
  staged_ordered letters s (inr h) = (h.early.0.ordered.labels, h.early.0.ordered.fits)
