-- A run of a text, by the rules of each mode that takes it: its letters are put into the texts.
use Rattle.std.proofs.Common.{◌≡◌, ◌∙◌, ℕ, ◌<◌, Bool, true, false, List, refl, sym, ap, arith, cond}
use Rattle.std.specs.Prelude.{IsUtf8}
use Rattle.std.specs.List.{list_all}
use Rattle.std.proofs.lemmas.Bool.{true≢false, cond_both}
use Rattle.std.proofs.lemmas.Bool.Decides.{nat_tests}
use Rattle.std.proofs.lemmas.Str.{IsUtf8-nil}
use Rattle.htmd_lexical.proofs.CharacterClassesLemmas.{white_is_ascii}
use Rattle.htmd_lexical.proofs.Cases.{test}
use Rattle.htmd_html5_state.specs.Nodes.{KindValue, element, kind_at}
use Rattle.htmd_html5_state.specs.OpenElements.{OpenValue, current_is}
use Rattle.htmd_html5_state.specs.State.{StateValue}
use Rattle.htmd_html5_state.specs.Insertion.{insert_text}
use Rattle.htmd_html5_state.specs.Formatting.{insert_like, reconstruct}
use Rattle.htmd_html5_state.specs.declared.modes.InsertionMode.TheVariants.{Initial, BeforeHtml, BeforeHead, InHead}
use Rattle.htmd_html5_state.specs.declared.modes.InsertionMode.TheVariants.{InHeadNoscript, AfterHead, InTable}
use Rattle.htmd_html5_state.specs.declared.modes.InsertionMode.TheVariants.{InColumnGroup, InTableBody, InRow, InSelect}
use Rattle.htmd_html5_state.specs.declared.modes.InsertionMode.TheVariants.{InSelectInTable, AfterBody, InFrameset}
use Rattle.htmd_html5_state.specs.declared.modes.InsertionMode.TheVariants.{AfterFrameset, AfterAfterBody}
use Rattle.htmd_html5_state.specs.declared.modes.InsertionMode.TheVariants.{AfterAfterFrameset}
use Rattle.htmd_html5_state.specs.declared.modes.InsertionMode.{InsertionMode}
use Rattle.htmd_html5_state.specs.declared.sets.NameSet.TheVariants.{Only}
use Rattle.htmd_html5.specs.Runs.{kind_of_byte, first_kind, is_of_kind}
use Rattle.htmd_html5.specs.Tokens.{end_of_file, run}
use Rattle.htmd_html5.specs.Outcomes.{Outcome, done}
use Rattle.htmd_html5.specs.InBody.{run_in_body}
use Rattle.htmd_html5.specs.InTable.{fostered, kept_of}
use Rattle.htmd_html5.specs.InColumnGroup.{leave_columns}
use Rattle.htmd_html5.specs.Modes.{in_mode}
use Rattle.htmd_html5.specs.ForeignContent.{is_foreign, replacements}
use Rattle.htmd_html5.specs.Processing.{by_rules}
use Rattle.htmd_law_html5.specs.PageLetters.{occurrences}
use Rattle.htmd_law_html5.specs.DocumentLetters.{drops_in, drops_text}
use Rattle.htmd_law_html5.specs.TextKept.{is_before_head}
use Rattle.htmd_law_html5.proofs.LetterLemmas.{CharacterTests, LetterTests, none_of_class}
use Rattle.htmd_law_html5.proofs.Keeping.{Sound, kept_same, nothing}
use Rattle.htmd_law_html5.proofs.KeepingInsertion.{reconstruct_keeps, reconstructed}
use Rattle.htmd_law_html5.proofs.KeepingRules.{no_frameset_keeps}
use Rattle.htmd_law_html5.proofs.KeepingModes.{leave_keeps}
use Rattle.htmd_law_html5.proofs.RuleWalk.{tag_of}
use Rattle.htmd_law_html5.proofs.Rules.{reply_of}
use Rattle.htmd_law_html5.proofs.RunRules.{leave_in}
use Rattle.htmd_law_html5.proofs.TextsPut.{occurs_nil}
use Rattle.htmd_law_html5.proofs.Taking.{Grew, Puts, kept_grew, grew_as, keeps_puts, puts_after, after_puts}
use Rattle.htmd_law_html5.proofs.Taking.{fostered_puts, insert_text_puts, grew_within}
use Rattle.htmd_law_html5.proofs.TakingRuns.{by_first_kind, replaced_utf8, replaced_none}
use Rattle.htmd_html5_state.specs.declared.names.TagName.TheVariants as tags

-- ---- steps that leave the mode

pub like_mode : (k : KindValue) (s : StateValue) → (insert_like k s).mode ≡ s.mode
like_mode (element name attributes) s = refl
like_mode _ s = refl

pub reconstruct_mode : (s : StateValue) → (reconstruct s).mode ≡ s.mode
reconstruct_mode s =
    reconstructed (λ n. Unit {0}) (λ t. t.mode ≡ s.mode) s (λ n l. tt) refl
    (λ n t q e. like_mode (kind_at t.nodes n) t ∙ e)

-- a run by the rules of the body
pub body_mode : (s t : List ℕ) (state : StateValue) → (run_in_body (first_kind s) t state).mode ≡ state.mode
body_mode s t state =
    by_first_kind (λ kind. (run_in_body kind t state).mode ≡ state.mode) (reconstruct_mode state) refl
    (reconstruct_mode state) s

-- ---- outcomes in a mode

-- It puts so many in, and is done, in the same mode; if nothing may be lost, text is taken then too.
pub record Ended (exact : Bool) (c n : ℕ) (s : StateValue) (a : Outcome) : Type 0 where
  pub again : a.again ≡ false
  pub grew : Grew exact c n s a.state
  pub mode : a.state.mode ≡ s.mode
  pub takes : exact ≡ true → drops_text a.state ≡ false

-- Or it is processed again.
pub data PutOutcome (exact : Bool) (c n : ℕ) (s : StateValue) (a : Outcome) : Type 0 where
  finished : Ended exact c n s a → PutOutcome exact c n s a
  goes_on : a.again ≡ true → Grew exact c 0 s a.state → (exact ≡ true → drops_text a.state ≡ false)
      → PutOutcome exact c n s a

ended_as : {exact : Bool} {c m : ℕ} (n : ℕ) {s : StateValue} {a : Outcome} → m ≡ n → Ended exact c m s a
    → Ended exact c n s a
ended_as n e h = record { again = h.again; grew = grew_as n e h.grew; mode = h.mode; takes = h.takes }

outcome_as : {exact : Bool} {c m : ℕ} (n : ℕ) {s : StateValue} {a : Outcome} → m ≡ n
    → PutOutcome exact c m s a → PutOutcome exact c n s a
outcome_as n e (finished h) = finished (ended_as n e h)
outcome_as n e (goes_on t g d) = goes_on t g d

pub never_null : (b : ℕ) → is_of_kind (kind_of_byte 0) b ≡ true → b < 128
never_null b e = grind (arith, nat_tests)

-- before the head white space is dropped
abbrev pub white_of : ℕ → InsertionMode → List ℕ → ℕ
white_of c mode t = cond (is_before_head mode) 0 (occurrences c t)

module _ (exact : Bool) (c : ℕ) where
  -- where text is taken, if nothing may be lost
  abbrev Taking : InsertionMode → List OpenValue → Type 0
  Taking mode stack = exact ≡ true → drops_in mode stack ≡ false

  -- a mode's outcome
  abbrev Answers : ℕ → InsertionMode → (StateValue → Outcome) → Type 0
  Answers n mode f =
      (s : StateValue) → s.mode ≡ mode → Taking mode s.stack → Sound s → PutOutcome exact c n s (f s)

  -- one that ends the run
  abbrev Ends : ℕ → InsertionMode → (StateValue → Outcome) → Type 0
  Ends n mode f = (s : StateValue) → s.mode ≡ mode → Taking mode s.stack → Sound s → Ended exact c n s (f s)

  -- after a step text is still taken
  abbrev StillTaking : InsertionMode → (StateValue → StateValue) → Type 0
  StillTaking mode f = (s : StateValue) → Taking mode s.stack → Taking mode (f s).stack

  ends : {n : ℕ} {mode : InsertionMode} {f : StateValue → Outcome} → Ends n mode f → Answers n mode f
  ends f s e d h = finished (f s e d h)

  done_by : {mode : InsertionMode} {n : ℕ} {f : StateValue → StateValue} → Puts exact c n f
      → ((s : StateValue) → (f s).mode ≡ s.mode) → StillTaking mode f → Ends n mode (λ s. done (f s))
  done_by {mode} {n} {f} p same still s e d h = record {
    again = refl;
    grew = p.puts s h;
    mode = same s;
    takes = λ x. ap (λ (m : InsertionMode). drops_in m (f s).stack) (same s ∙ e) ∙ still s d x;
  }

  nothing_done : {mode : InsertionMode} → Ends 0 mode (λ s. done s)
  nothing_done = done_by (keeps_puts nothing) (λ s. refl) (λ s d. d)

  -- what is lost where text is dropped
  lost : {n : ℕ} {mode : InsertionMode} (s : StateValue) → s.mode ≡ mode → Taking mode s.stack → Sound s
      → drops_in mode s.stack ≡ true → Ended exact c n s (done s)
  lost {n} s e d h drops = record {
    again = refl;
    grew = grew_within n (omega arith) (λ x. absurd (true≢false (sym drops ∙ d x))) (kept_grew (kept_same h));
    mode = refl;
    takes = λ x. ap (λ (m : InsertionMode). drops_in m s.stack) e ∙ d x;
  }

  -- by the rules of the body
  white_puts : (t : List ℕ) → IsUtf8 t → Puts exact c (occurrences c t) (run_in_body (kind_of_byte 32) t)
  white_puts t u = puts_after (insert_text_puts c t u) reconstruct_keeps

  characters_puts : (t : List ℕ) → IsUtf8 t → Puts exact c (occurrences c t) (run_in_body (kind_of_byte 97) t)
  characters_puts t u = after_puts no_frameset_keeps (puts_after (insert_text_puts c t u) reconstruct_keeps)

  fostered_mode : (s : StateValue) → (reconstruct (record s { foster_parenting = true })).mode ≡ s.mode
  fostered_mode s = reconstruct_mode (record s { foster_parenting = true })

  -- ---- modes that others follow

  -- that later mode takes text
  abbrev Leaves : Outcome → Type 0
  Leaves a = (a.again ≡ true) × (drops_text a.state ≡ false)

  abbrev leave : InsertionMode → StateValue → Outcome
  leave mode = reply_of (leave_in mode) (tag_of end_of_file)

  leaves : {n : ℕ} {mode : InsertionMode} (m : InsertionMode) → ((s : StateValue) → Leaves (leave m s))
      → Answers n mode (leave m)
  leaves m f s e d h = let l = f s in goes_on l.0 (kept_grew ((leave_keeps m).keeps s h)) (λ x. l.1)

  columns_left : {n : ℕ} → Answers n InColumnGroup leave_columns
  columns_left s e d h =
      test (current_is (Only tags.ColGroup) s.stack)
      (λ t. goes_on t (kept_grew ((leave_keeps InColumnGroup).keeps s h)) (λ x. rw t refl))
      (λ t. rw t (finished (lost s e d h (rw t refl))))

  -- ---- the runs of each kind: white space, U+0000 and other characters

  abbrev Each : ℕ → ℕ → InsertionMode → (StateValue → Outcome) → (StateValue → Outcome)
      → (StateValue → Outcome) → Type 0
  Each m n mode white nulls characters = Ends m mode white × Answers 0 mode nulls × Answers n mode characters

  module _ (t : List ℕ) (u : IsUtf8 t) where
    abbrev n : ℕ
    n = occurrences c t

    text_done : {mode : InsertionMode} → Ends n mode (λ s. done (insert_text t s))
    text_done = done_by (insert_text_puts c t u) (λ s. refl) (λ s d. d)

    white_done : {mode : InsertionMode} → StillTaking mode (run_in_body (kind_of_byte 32) t)
        → Ends n mode (λ s. done (run_in_body (kind_of_byte 32) t s))
    white_done still = done_by (white_puts t u) reconstruct_mode still

    by_body : {mode : InsertionMode} → ((stack : List OpenValue) → drops_in mode stack ≡ false)
        → Each n n mode (λ s. done (run_in_body (kind_of_byte 32) t s)) (λ s. done s)
        (λ s. done (run_in_body (kind_of_byte 97) t s))
    by_body none = (
      white_done (λ s d x. none _),
      ends nothing_done,
      ends (done_by (characters_puts t u) reconstruct_mode (λ s d x. none _)),
    )

    by_fostering : {mode : InsertionMode} → ((stack : List OpenValue) → drops_in mode stack ≡ false)
        → Each n n mode (λ s. done (fostered (run_in_body (kind_of_byte 32) t) s))
        (λ s. done (fostered (run_in_body (kind_of_byte 0) t) s))
        (λ s. done (fostered (run_in_body (kind_of_byte 97) t) s))
    by_fostering none = (
      done_by (fostered_puts (white_puts t u)) fostered_mode (λ s d x. none _),
      ends (done_by (fostered_puts (keeps_puts nothing)) (λ s. refl) (λ s d. d)),
      ends (done_by (fostered_puts (characters_puts t u)) fostered_mode (λ s d x. none _)),
    )

    by_select : {mode : InsertionMode}
        → Each n n mode (λ s. done (insert_text t s)) (λ s. done s) (λ s. done (insert_text t s))
    by_select = (text_done, ends nothing_done, ends text_done)

    by_leaving : {k : ℕ} {mode : InsertionMode} {f : StateValue → Outcome} → Ends k mode f → (m : InsertionMode)
        → ((s : StateValue) → Leaves (leave m s)) → Each k n mode f (leave m) (leave m)
    by_leaving white m l = (white, leaves m l, leaves m l)

    in_frames : {mode : InsertionMode} {f : StateValue → Outcome}
        → ((stack : List OpenValue) → drops_in mode stack
        ≡ true) → Ends n mode f → Each n n mode f (λ s. done s) (λ s. done s)
    in_frames drops white = (
      white,
      λ s e d h. finished (lost s e d h (drops s.stack)),
      λ s e d h. finished (lost s e d h (drops s.stack)),
    )

    in_mode_outcomes : (mode : InsertionMode)
        → Each (white_of c mode t) n mode (in_mode mode (run (kind_of_byte 32) t))
        (in_mode mode (run (kind_of_byte 0) t)) (in_mode mode (run (kind_of_byte 97) t))
    in_mode_outcomes Initial = by_leaving nothing_done Initial (λ s. (refl, refl))
    in_mode_outcomes BeforeHtml = by_leaving nothing_done BeforeHtml (λ s. (refl, refl))
    in_mode_outcomes BeforeHead = by_leaving nothing_done BeforeHead (λ s. (refl, refl))
    in_mode_outcomes InHead = by_leaving text_done InHead (λ s. (refl, refl))
    in_mode_outcomes InHeadNoscript = by_leaving text_done InHeadNoscript (λ s. (refl, refl))
    in_mode_outcomes AfterHead = by_leaving text_done AfterHead (λ s. (refl, refl))
    in_mode_outcomes InTable = by_fostering (λ stack. refl)
    in_mode_outcomes InTableBody = by_fostering (λ stack. refl)
    in_mode_outcomes InRow = by_fostering (λ stack. refl)
    in_mode_outcomes InColumnGroup = (text_done, columns_left, columns_left)
    in_mode_outcomes InSelect = by_select
    in_mode_outcomes InSelectInTable = by_select
    in_mode_outcomes AfterBody = by_leaving (white_done (λ s d x. refl)) AfterBody (λ s. (refl, refl))
    in_mode_outcomes AfterAfterBody = by_leaving (white_done (λ s d x. refl)) AfterBody (λ s. (refl, refl))
    in_mode_outcomes InFrameset = in_frames (λ stack. refl) text_done
    in_mode_outcomes AfterFrameset = in_frames (λ stack. refl) text_done
    in_mode_outcomes AfterAfterFrameset = in_frames (λ stack. refl) (white_done (λ s d. d))
    in_mode_outcomes _ = by_body (λ stack. refl)

  -- ---- in foreign content or by the mode

  -- a run in which only such characters stand
  abbrev RunOutcome : ℕ → Type 0
  RunOutcome b =
      (t : List ℕ) → IsUtf8 t → list_all (is_of_kind (kind_of_byte b)) t ≡ true → (s : StateValue)
      → (exact ≡ true → drops_text s ≡ false) → Sound s
      → PutOutcome exact c (occurrences c t) s (by_rules (run (kind_of_byte b) t) s)

  -- a run of white space, which puts so many in by either rules
  white_by : (n : ℕ) (t : List ℕ) → IsUtf8 t → (s : StateValue) → (exact ≡ true → drops_text s ≡ false)
      → Sound s → (is_foreign (run (kind_of_byte 32) t) s ≡ true → occurrences c t ≡ n)
      → white_of c s.mode t ≡ n → Ended exact c n s (by_rules (run (kind_of_byte 32) t) s)
  white_by n t u s d h foreign mode =
      cond_both (is_foreign (run (kind_of_byte 32) t) s) _ _ (Ended exact c n s) (λ f. ended_as n (foreign f)
      (record { again = refl; grew = (insert_text_puts c t u).puts s h; mode = refl; takes = d }))
      (λ f. ended_as n mode ((in_mode_outcomes t u s.mode).0 s refl d h))

  -- before the head nothing foreign is open
  pub white_ended : (t : List ℕ) → IsUtf8 t → (s : StateValue) → (exact ≡ true → drops_text s ≡ false)
      → Sound s → (is_before_head s.mode ≡ true → is_foreign (run (kind_of_byte 32) t) s ≡ false)
      → Ended exact c (white_of c s.mode t) s (by_rules (run (kind_of_byte 32) t) s)
  white_ended t u s d h no_foreign =
      white_by (white_of c s.mode t) t u s d h
      (λ f. cond_both (is_before_head s.mode) _ _ (λ (n : ℕ). occurrences c t ≡ n)
      (λ e. absurd (true≢false (sym f ∙ no_foreign e))) (λ e. refl)) refl

  pub characters_outcome : RunOutcome 97
  characters_outcome t u all s d h =
      cond_both (is_foreign (run (kind_of_byte 97) t) s) _ _ (PutOutcome exact c (occurrences c t) s)
      (λ f. finished (record {
        again = refl;
        grew = (after_puts no_frameset_keeps (insert_text_puts c t u)).puts s h;
        mode = refl;
        takes = d;
      })) (λ f. (in_mode_outcomes t u s.mode).2 s refl d h)

-- ---- U+0000

module _ (exact : Bool) (c : ℕ) (tests : CharacterTests c) where
  pub nulls_outcome : RunOutcome exact c 0
  nulls_outcome t u all s d h =
      let none = none_of_class c (is_of_kind (kind_of_byte 0)) t never_null tests.null_is_none all in
      let put = (insert_text_puts c (replacements t) (replaced_utf8 c t)).puts s h in
      cond_both (is_foreign (run (kind_of_byte 0) t) s) _ _ (PutOutcome exact c (occurrences c t) s)
      (λ f. finished (record {
        again = refl;
        grew = grew_as (occurrences c t) (replaced_none c tests.other t ∙ sym none) put;
        mode = refl;
        takes = d;
      })) (λ f. outcome_as (occurrences c t) (sym none) ((in_mode_outcomes exact c t u s.mode).1 s refl d h))

  -- the same by the rules of the body alone
  nulls_put : (t : List ℕ) → IsUtf8 t → list_all (is_of_kind (kind_of_byte 0)) t ≡ true
      → Puts exact c (occurrences c t) (run_in_body (kind_of_byte 0) t)
  nulls_put t u all =
      let none = none_of_class c (is_of_kind (kind_of_byte 0)) t never_null tests.null_is_none all in
      record { puts = λ s h. grew_as (occurrences c t) (sym none) (kept_grew (kept_same h)) }

  pub run_in_body_puts : (whole t : List ℕ) → IsUtf8 t → list_all (is_of_kind (first_kind whole)) t ≡ true
      → Puts exact c (occurrences c t) (run_in_body (first_kind whole) t)
  run_in_body_puts whole t =
      by_first_kind (λ kind. IsUtf8 t → list_all (is_of_kind kind) t ≡ true
      → Puts exact c (occurrences c t) (run_in_body kind t))
      (λ u all. white_puts exact c t u) (nulls_put t) (λ u all. characters_puts exact c t u) whole

-- ---- without its U+0000

module _ (c : ℕ) (tests : CharacterTests c) where
  pub record SameLetters (s t : List ℕ) : Type 0 where
    pub utf8 : IsUtf8 t
    pub same : occurrences c t ≡ occurrences c s

  no_nulls : (s : List ℕ) → IsUtf8 s → list_all (is_of_kind (kind_of_byte 0)) s ≡ true
      → SameLetters s (kept_of (kind_of_byte 0) s)
  no_nulls s u all =
      let none = none_of_class c (is_of_kind (kind_of_byte 0)) s never_null tests.null_is_none all in
      record { utf8 = IsUtf8-nil; same = occurs_nil c ∙ sym none }

  pub kept_letters : (whole s : List ℕ) → IsUtf8 s → list_all (is_of_kind (first_kind whole)) s ≡ true
      → SameLetters s (kept_of (first_kind whole) s)
  kept_letters whole s =
      by_first_kind (λ kind. IsUtf8 s → list_all (is_of_kind kind) s ≡ true → SameLetters s (kept_of kind s))
      (λ u all. record { utf8 = u; same = refl }) (no_nulls s) (λ u all. record { utf8 = u; same = refl }) whole

-- ---- letters, of which white space holds none

module _ (exact : Bool) (c : ℕ) (letter : LetterTests c) where
  white_outcome : RunOutcome exact c 32
  white_outcome t u all s d h =
      finished (white_by exact c (occurrences c t) t u s d h (λ f. refl)
      (cond_both (is_before_head s.mode) _ _ (λ (n : ℕ). n ≡ occurrences c t)
      (λ e. sym (none_of_class c (is_of_kind (kind_of_byte 32)) t white_is_ascii letter.white all)) (λ e. refl)))

  pub run_outcome : (whole t : List ℕ) → IsUtf8 t → list_all (is_of_kind (first_kind whole)) t ≡ true
      → (s : StateValue) → (exact ≡ true → drops_text s ≡ false) → Sound s
      → PutOutcome exact c (occurrences c t) s (by_rules (run (first_kind whole) t) s)
  run_outcome whole t =
      by_first_kind (λ kind. IsUtf8 t → list_all (is_of_kind kind) t ≡ true → (s : StateValue)
      → (exact ≡ true → drops_text s ≡ false) → Sound s
      → PutOutcome exact c (occurrences c t) s (by_rules (run kind t) s))
      (white_outcome t) (nulls_outcome exact c letter.character t) (characters_outcome exact c t) whole
