-- A text, run by run, where no table is open: what is kept of it is put into the texts, white space too.
use Rattle.std.proofs.Common.{◌≡◌, ◌∙◌, ℕ, zero, suc, ◌+◌, ◌≤◌, Bool, true, false, List, [], ◌∷◌, ◌++◌, length}
use Rattle.std.proofs.Common.{refl, sym, ap, arith, cond}
use Rattle.std.specs.Prelude.{IsUtf8, ◌&&◌, ◌||◌}
use Rattle.std.specs.List.{list_all}
use Rattle.std.proofs.lemmas.Bool.{true≢false, and_parts, cond_both}
use Rattle.htmd_lexical.specs.WhiteSpace.{is_ascii_white_space}
use Rattle.htmd_lexical.proofs.Cases.{test}
use Rattle.htmd_lexical.specs.CharacterClasses.{is_empty, behind_run}
use Rattle.htmd_html5_state.specs.OpenElements.{current_is}
use Rattle.htmd_html5_state.specs.State.{StateValue}
use Rattle.htmd_html5_state.specs.declared.modes.InsertionMode.{InsertionMode}
use Rattle.htmd_html5_state.specs.declared.modes.InsertionMode.TheVariants.{InColumnGroup}
use Rattle.htmd_html5_state.specs.declared.sets.NameSet.TheVariants.{Fostering}
use Rattle.htmd_html5.specs.Tokens.{TokenValue, run}
use Rattle.htmd_html5.specs.Runs.{kind_of_byte, is_of_kind, first_kind, first_run, after_first_run}
use Rattle.htmd_html5.specs.Outcomes.{Outcome}
use Rattle.htmd_html5.specs.ForeignContent.{is_foreign}
use Rattle.htmd_html5.specs.Processing.{by_rules, turns}
use Rattle.htmd_html5.specs.Texts.{Taken, is_table_mode, takes_all, after_run, first_token, take_within}
use Rattle.htmd_html5.specs.Texts.{take_part, put_within, put_text}
use Rattle.htmd_html5.specs.Feeding.{is_text_mode}
use Rattle.htmd_html5.proofs.TextsLemmas.{part_shorter}
use Rattle.htmd_law_html5.specs.EndedTurns.{is_done_within}
use Rattle.htmd_law_html5.specs.PageLetters.{occurrences}
use Rattle.htmd_law_html5.specs.DocumentLetters.{drops_in, drops_text}
use Rattle.htmd_law_html5.specs.TextKept.{is_before_head, without_white}
use Rattle.htmd_law_html5.proofs.EndedTurns.{run_done, done_again}
use Rattle.htmd_law_html5.proofs.LetterLemmas.{CharacterTests}
use Rattle.htmd_law_html5.proofs.Keeping.{Sound, kept_same}
use Rattle.htmd_law_html5.proofs.TextsPut.{occurs_nil}
use Rattle.htmd_law_html5.proofs.Taking.{Grew, kept_grew, grew_as, grew_then}
use Rattle.htmd_law_html5.proofs.TakingRuns.{by_first_kind}
use Rattle.htmd_law_html5.proofs.TakingTexts.{RunParts, run_parts}
use Rattle.htmd_law_html5.proofs.PuttingRuns.{Ended, PutOutcome, finished, goes_on}
use Rattle.htmd_law_html5.proofs.PuttingRuns.{white_of, white_ended, nulls_outcome, characters_outcome}
use Rattle.htmd_law_html5.proofs.PuttingTexts.{filled, first_all}
use Rattle.htmd_law_html5.proofs.OrderedEarly.{Staged, Calm, stage_mode, is_early, by_stage}
use Rattle.htmd_law_html5.proofs.OrderedHead.{never_foreign}
use Rattle.htmd_law_html5.proofs.OrderedRuns.{RunStage, nulls_stage, characters_stage}
use Rattle.htmd_law_html5.proofs.WhiteRuns.{Dark, behind_twice, behind_white, dark_whole, dark_nulls, dark_characters}
use Rattle.htmd_law_html5.proofs.WhiteRuns.{before_is_early, Clean, clean_rest, nulls_come}
use Rattle.htmd_law_html5.proofs.OrderedTokens.{no_tables, within_part}
use Rattle.htmd_law_html5.proofs.Counted.{letter_choice}
use Rattle.htmd_law_html5.proofs.RootedStacks.{is_late}

-- ---- states before the head

-- in no mode here text is dropped
stage_takes : (letters : List ℕ) (s : StateValue) → Staged letter_choice letters s → drops_text s ≡ false
stage_takes letters s h = by_mode s.mode (stage_mode (is_text_mode s.content) letters s h)
  where
    by_mode : (mode : InsertionMode) → (is_late mode || is_early mode) ≡ true → drops_in mode s.stack ≡ false
    by_mode InColumnGroup e = absurd (true≢false (sym e))
    by_mode _ e = cc

-- nothing foreign is open there
html_before : (token : TokenValue) (letters : List ℕ) (s : StateValue) → Calm s → Staged letter_choice letters s
    → is_before_head s.mode ≡ true → is_foreign token s ≡ false
html_before token letters s c h e =
    by_stage letter_choice false letters s c h
    (λ x. absurd (true≢false (sym x.rooted.late ∙ before_is_early s.mode e)))
    (λ x. never_foreign letter_choice token s.mode letters s x)

module _ (c : ℕ) (nulls : Bool) (tests : nulls ≡ true → CharacterTests c) where
  abbrev kept : List ℕ → StateValue → List ℕ
  kept text s = without_white (is_before_head s.mode) text

  -- ---- a part of a text

  -- what is put in and what is kept of the rest are what is kept of the text
  record KeptPart (text : List ℕ) (s : StateValue) (t : Taken) : Type 0 where
    count : ℕ
    grew : Grew true c count s t.state
    fits : count + occurrences c (kept t.rest t.state) ≡ occurrences c (kept text s)
    clean : Clean nulls t.rest

  ended_part : (text : List ℕ) (s : StateValue) (a : Outcome) (go : StateValue → Taken) {n : ℕ}
      → Clean nulls text → Ended true c n s a
      → n + occurrences c (without_white (is_before_head s.mode) (after_first_run text)) ≡ occurrences c
      (kept text s) → KeptPart text s (after_run go (after_first_run text) a)
  ended_part text s a go {n} clean h fits =
      rw h.again (record {
        count = n;
        grew = h.grew;
        fits =
            ap (λ (m : InsertionMode). n + occurrences c (without_white (is_before_head m) (after_first_run text)))
            h.mode ∙ fits;
        clean = clean_rest nulls text clean;
      })

  white_part : (text : List ℕ) (s : StateValue) (a : Outcome) (go : StateValue → Taken)
      → first_kind text ≡ kind_of_byte 32 → Clean nulls text → RunParts c text
      → Ended true c (white_of c s.mode (first_run text)) s a
      → KeptPart text s (after_run go (after_first_run text) a)
  white_part text s a go first clean parts h = ended_part text s a go clean h (fits_by (is_before_head s.mode))
    where
      fits_by : (b : Bool)
          → cond b 0 (occurrences c (first_run text)) + occurrences c (without_white b (after_first_run text))
          ≡ occurrences c (without_white b text)
      fits_by true =
          let e = ap (occurrences c)
          (ap (behind_run is_ascii_white_space) (behind_white text first)
          ∙ behind_twice is_ascii_white_space text) in
          omega arith
      fits_by false = sym parts.count

  -- what is processed again
  abbrev Onward : List ℕ → List ℕ → (StateValue → Taken) → Outcome → Type 0
  Onward text letters go a =
      a.again ≡ true → Sound a.state → Calm a.state → Staged letter_choice letters a.state
      → KeptPart text a.state (go a.state)

  other_part : (text letters : List ℕ) (s : StateValue) (a : Outcome) (go : StateValue → Taken)
      → Clean nulls text → Dark text → RunParts c text
      → RunStage letter_choice letters (first_run text) (is_before_head s.mode) false a
      → PutOutcome true c (occurrences c (first_run text)) s a
      → Onward text letters go a → KeptPart text s (after_run go (after_first_run text) a)
  other_part text letters s a go clean dark parts r (finished h) more =
      let off : is_before_head s.mode ≡ false = test (is_before_head s.mode)
      (λ e. sym (ap is_before_head h.mode) ∙ (r.after h.again ∙ ap (λ (b : Bool). b && false) e)) (λ e. e) in
      ended_part text s a go clean h (rw off (sym parts.count))
  other_part text letters s a go clean dark parts r (goes_on e g d) more =
      let p = more e g.sound r.calm (r.keeps e) in
      rw e (record {
        count = p.count;
        grew = grew_then p.count (omega arith) g p.grew;
        fits =
            p.fits ∙ ap (occurrences c) (dark_whole text dark (is_before_head a.state.mode)
            ∙ sym (dark_whole text dark (is_before_head s.mode)));
        clean = p.clean;
      })

  -- the first run, of whatever kind
  module _ (text letters : List ℕ) (s : StateValue) (u : IsUtf8 text) (clean : Clean nulls text) (calm : Calm s)
      (h : Staged letter_choice letters s) (sound : Sound s) (go : StateValue → Taken) where
    abbrev RunKept : ℕ → Type 0
    RunKept b =
        first_kind text ≡ kind_of_byte b → list_all (is_of_kind (kind_of_byte b)) (first_run text) ≡ true
        → Onward text letters go (by_rules (run (kind_of_byte b) (first_run text)) s)
        → KeptPart text s (after_run go (after_first_run text) (by_rules (run (kind_of_byte b) (first_run text)) s))

    takes : true ≡ true → drops_text s ≡ false
    takes x = stage_takes letters s h

    parts : RunParts c text
    parts = run_parts c text u

    white_kept : RunKept 32
    white_kept e all more =
        white_part text s (by_rules (run (kind_of_byte 32) (first_run text)) s) go e clean parts
        (white_ended true c (first_run text) parts.front s takes sound
        (html_before (run (kind_of_byte 32) (first_run text)) letters s calm h))

    nulls_kept : RunKept 0
    nulls_kept e all more =
        other_part text letters s (by_rules (run (kind_of_byte 0) (first_run text)) s) go clean (dark_nulls text e)
        parts (nulls_stage letter_choice letters (first_run text) parts.front s calm h refl all)
        (nulls_outcome true c (tests (nulls_come nulls text clean e)) (first_run text) parts.front all s takes sound)
        more

    characters_kept : RunKept 97
    characters_kept e all more =
        other_part text letters s (by_rules (run (kind_of_byte 97) (first_run text)) s) go clean
        (dark_characters text e) parts
        (characters_stage letter_choice letters (first_run text) parts.front s calm h all)
        (characters_outcome true c (first_run text) parts.front all s takes sound) more

    run_kept : Onward text letters go (by_rules (first_token text) s)
        → KeptPart text s (after_run go (after_first_run text) (by_rules (first_token text) s))
    run_kept =
        by_first_kind (λ kind. first_kind text ≡ kind → list_all (is_of_kind kind) (first_run text) ≡ true
        → Onward text letters go (by_rules (run kind (first_run text)) s)
        → KeptPart text s (after_run go (after_first_run text) (by_rules (run kind (first_run text)) s)))
        white_kept nulls_kept characters_kept text refl (first_all text)

  within_kept : (k : ℕ) (text letters : List ℕ) (s : StateValue) → is_done_within k (first_token text) s ≡ true
      → IsUtf8 text → Clean nulls text → Calm s → Staged letter_choice letters s → Sound s
      → KeptPart text s (take_within k text s)
  within_kept zero text letters s l u clean calm h sound = absurd (true≢false (sym l))
  within_kept (suc k) text letters s l u clean calm h sound =
      cond_both (takes_all s) _ _ (KeptPart text s)
      (λ e. absurd (true≢false (sym (and_parts (is_table_mode s.mode) (current_is Fostering s.stack) e).0
      ∙ no_tables letter_choice letters s h)))
      (λ e. run_kept text letters s u clean calm h sound (take_within k text)
      (λ (again : (by_rules (first_token text) s).again ≡ true) x y z.
      within_kept k text letters (by_rules (first_token text) s).state (done_again k (first_token text) s l again) u
      clean
      y z x))

  -- ---- a text

  nothing_kept : (text : List ℕ) (drops : Bool) → is_empty text ≡ true
      → occurrences c (without_white drops text) ≡ 0
  nothing_kept [] true e = occurs_nil c
  nothing_kept [] false e = occurs_nil c
  nothing_kept (b ∷ text) drops e = absurd (true≢false (sym e))

  put_kept : (k : ℕ) (text letters : List ℕ) (s : StateValue) → length text ≤ k → IsUtf8 text
      → Clean nulls text → Calm s → Staged letter_choice letters s → Sound s
      → Grew true c (occurrences c (kept text s)) s (put_within k text s)
  put_kept zero [] letters s l u clean calm h sound =
      grew_as (occurrences c (kept [] s)) (sym (nothing_kept [] (is_before_head s.mode) refl))
      (kept_grew (kept_same sound))
  put_kept zero (b ∷ text) letters s l u clean calm h sound = absurd (omega arith)
  put_kept (suc k) text letters s l u clean calm h sound =
      test (is_empty text)
      (λ e. rw e (grew_as (occurrences c (kept text s)) (sym (nothing_kept text (is_before_head s.mode) e))
      (kept_grew (kept_same sound))))
      (λ e. let p = within_kept (turns s) text letters s (run_done text s) u clean calm h sound in
      let x = within_part letter_choice (turns s) text letters s (run_done text s) u (λ z. absurd (true≢false z))
      calm h in
      let shorter = part_shorter text s (filled text e) in
      let f = p.fits in
      let later = put_kept k (take_part text s).rest (letters ++ x.put) (take_part text s).state
      (omega arith) x.utf8 p.clean x.calm x.stage p.grew.sound in
      rw e (grew_then (occurrences c (kept text s)) (omega arith) p.grew later))

  pub put_text_kept : (text letters : List ℕ) (s : StateValue) → IsUtf8 text → Clean nulls text → Calm s
      → Staged letter_choice letters s → Sound s
      → Grew true c (occurrences c (without_white (is_before_head s.mode) text)) s (put_text text s)
  put_text_kept text letters s u clean calm h sound = put_kept (length text) text letters s (omega arith) u clean calm
      h sound
