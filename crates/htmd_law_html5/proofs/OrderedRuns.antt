-- A run of a text leaves the letters in order, and its own stand after all others.
use Rattle.std.proofs.Common.{◌≡◌, ◌∙◌, ℕ, ◌<◌, Bool, true, false, List, [], ◌∷◌, ◌++◌, length, Option, Some}
use Rattle.std.proofs.Common.{refl, sym, ap, subst, inl, inr}
use Rattle.std.specs.Prelude.{if◌then◌else◌, IsUtf8, ◌&&◌, filter}
use Rattle.std.specs.List.{list_all}
use Rattle.std.specs.Char.{encode_utf8}
use Rattle.std.proofs.lemmas.Bool.{true≢false, and_parts, cond_both, eqb-true}
use Rattle.std.proofs.lemmas.Str.{chars-IsAscii, chars-nil, chars_past_char}
use Rattle.htmd_lexical.proofs.CharacterClassesLemmas.{white_is_ascii}
use Rattle.htmd_lexical.specs.WhiteSpace.{is_ascii_white_space}
use Rattle.htmd_lexical.specs.Characters.{null}
use Rattle.htmd_html5_tokens.specs.References.{replacement_character}
use Rattle.htmd_html5_state.specs.Nodes.{NodeValue, text, new_node, children_at, last_in, add_text}
use Rattle.htmd_html5_state.specs.OpenElements.{OpenValue}
use Rattle.htmd_html5_state.specs.State.{StateValue}
use Rattle.htmd_html5_state.specs.Insertion.{current, place, insert_text}
use Rattle.htmd_html5_state.specs.Formatting.{reconstruct}
use Rattle.htmd_html5_state.specs.declared.modes.InsertionMode.{InsertionMode}
use Rattle.htmd_html5_state.specs.declared.modes.InsertionMode.TheVariants.{Initial, BeforeHtml, BeforeHead, InHead}
use Rattle.htmd_html5_state.specs.declared.modes.InsertionMode.TheVariants.{InHeadNoscript, AfterHead, InBody}
use Rattle.htmd_html5_state.specs.declared.modes.InsertionMode.TheVariants.{AfterBody, AfterAfterBody, InSelect}
use Rattle.htmd_html5.specs.Tokens.{run, end_of_file}
use Rattle.htmd_html5.specs.Runs.{kind_of_byte, is_of_kind, first_kind, first_run, after_first_run}
use Rattle.htmd_html5.specs.Texts.{first_token}
use Rattle.htmd_lexical.specs.CharacterClasses.{behind_run}
use Rattle.htmd_law_html5.specs.TextKept.{is_before_head}
use Rattle.htmd_law_html5.proofs.WhiteRuns.{Dark, behind_white, dark_nulls, dark_characters, late_is_after, Clean}
use Rattle.htmd_law_html5.proofs.WhiteRuns.{nulls_come}
use Rattle.htmd_html5.specs.Outcomes.{Outcome, done}
use Rattle.htmd_html5.specs.Feeding.{is_text_mode}
use Rattle.htmd_html5.specs.InBody.{run_in_body}
use Rattle.htmd_html5.specs.AfterBody.{back_to_body}
use Rattle.htmd_html5.specs.SharedRules.{no_frameset}
use Rattle.htmd_html5.specs.Modes.{in_mode}
use Rattle.htmd_html5.specs.ForeignContent.{is_foreign, replacements}
use Rattle.htmd_html5.specs.Processing.{by_rules}
use Rattle.htmd_law_html5.proofs.Forests.{forest_add}
use Rattle.htmd_law_html5.proofs.HungNodes.{Fits}
use Rattle.htmd_law_html5.proofs.HungStates.{hung_added, hung_joined, fits_place}
use Rattle.htmd_law_html5.proofs.LetterLemmas.{all_ascii}
use Rattle.htmd_law_html5.proofs.TakingRuns.{by_first_kind, replaced_utf8}
use Rattle.htmd_law_html5.proofs.Utf8Contents.{replacement_utf8}
use Rattle.htmd_law_html5.proofs.PuttingRuns.{never_null}
use Rattle.htmd_law_html5.proofs.PlainStates.{is_plain_mode}
use Rattle.htmd_law_html5.proofs.PlainRuns.{insert_text_stays}
use Rattle.htmd_law_html5.proofs.OrderedNodes.{fits_grown}
use Rattle.htmd_law_html5.proofs.OrderedTexts.{letters_append, white_put}
use Rattle.htmd_law_html5.proofs.OrderedStates.{OrderedIn, text_ordered, place_last, ranked_of, stack_still}
use Rattle.htmd_law_html5.proofs.OrderedStates.{reconstruct_orders}
use Rattle.htmd_law_html5.proofs.OrderedRules.{no_frameset_orders, with_mode_orders}
use Rattle.htmd_law_html5.proofs.RootedStacks.{is_late}
use Rattle.htmd_law_html5.proofs.RootedStates.{insert_text_roots, reconstruct_content, reconstruct_roots}
use Rattle.htmd_law_html5.proofs.RootedRules.{with_mode_roots, no_frameset_roots}
use Rattle.htmd_law_html5.proofs.OrderedLate.{Late, late_step}
use Rattle.htmd_law_html5.proofs.OrderedEarly.{EarlyIn, Early, head_open, Staged, staged, Calm, real, EarlyOf}
use Rattle.htmd_law_html5.proofs.OrderedEarly.{early_plain, BeforeBody, opens_in, early_mode_plain, is_early, by_stage}
use Rattle.htmd_law_html5.proofs.OrderedHead.{StageAnswer, left_early, html_rules}
use Rattle.htmd_law_html5.proofs.Counted.{Choice, counted_of}
use Rattle.std.proofs.lemmas.List.{append-nil}

-- ---- texts of which nothing counts

none_pass : (f p : ℕ → Bool) (t : List ℕ) → ((b : ℕ) → p b ≡ true → f b ≡ false) → list_all p t
    ≡ true → filter f t ≡ []
none_pass f p [] g e = refl
none_pass f p (b ∷ t) g e =
    let parts = and_parts (p b) (list_all p t) e in rw (g b parts.0) (none_pass f p t g parts.1)

module _ (choice : Choice) where
  class_letters : (p : ℕ → Bool) (t : List ℕ) → ((b : ℕ) → p b ≡ true → b < 128)
      → ((b : ℕ) → p b ≡ true → choice.counts b ≡ false) → list_all p t ≡ true
      → counted_of choice t ≡ []
  unfolding counted_of
  class_letters p t low f e =
      ap (filter choice.counts) (chars-IsAscii t (all_ascii p t low e)) ∙ none_pass choice.counts p t f e

  pub white_letters : (t : List ℕ) → choice.reopens ≡ true → list_all (is_of_kind (kind_of_byte 32)) t ≡ true
      → counted_of choice t ≡ []
  white_letters t r e = class_letters (is_of_kind (kind_of_byte 32)) t white_is_ascii (choice.no_white r) e

  null_letters : (t : List ℕ) → choice.nulls ≡ true → list_all (is_of_kind (kind_of_byte 0)) t ≡ true
      → counted_of choice t ≡ []
  null_letters t n e =
      class_letters (is_of_kind (kind_of_byte 0)) t never_null
      (λ b z. ap choice.counts (eqb-true b null z) ∙ choice.no_null n) e

  one_letters : choice.nulls ≡ true → counted_of choice (encode_utf8 replacement_character) ≡ []
  unfolding counted_of encode_utf8
  one_letters n =
      ap (filter choice.counts)
      (chars_past_char (encode_utf8 replacement_character) [] replacement_character replacement_utf8
      refl ∙ ap (λ (x : List ℕ). replacement_character ∷ x) chars-nil) ∙ rw (choice.no_replacement n) refl

  pub nil_letters : counted_of choice [] ≡ []
  unfolding counted_of
  nil_letters = ap (filter choice.counts) chars-nil

  replaced_letters : choice.nulls ≡ true → (t : List ℕ) → counted_of choice (replacements t) ≡ []
  replaced_letters n [] = nil_letters
  replaced_letters n (b ∷ t) =
      letters_append choice (encode_utf8 replacement_character) (replacements t) replacement_utf8
      ∙ (ap (λ (x : List ℕ). x ++ counted_of choice (replacements t)) (one_letters n) ∙ replaced_letters n t)

-- a text, unless it goes
abbrev pub unless : Bool → List ℕ → List ℕ
unless goes t = if goes then [] else t

pub no_more : (letters more : List ℕ) → more ≡ [] → letters ++ more ≡ letters
no_more letters more e = ap (λ (x : List ℕ). letters ++ x) e ∙ append-nil letters

module _ (choice : Choice) where
  -- ---- letters that come nowhere

  ordered_grown : (letters more : List ℕ) (nodes : List NodeValue) (stack : List OpenValue) (fosters : Bool)
      → OrderedIn choice letters nodes stack fosters → OrderedIn choice (letters ++ more) nodes stack fosters
  ordered_grown letters more nodes stack fosters o = record {
    labels = o.labels;
    fits = fits_grown more o.fits;
    root = o.root;
    opens = o.opens;
    no_fostering = o.no_fostering;
  }

  late_grown : (letters more : List ℕ) (s : StateValue) → Late choice letters s → Late choice (letters ++ more) s
  late_grown letters more s h = record {
    plain = h.plain;
    hung = h.hung;
    ordered = ordered_grown letters more s.nodes s.stack s.foster_parenting h.ordered;
    body = h.body;
    rooted = h.rooted;
    raw = h.raw;
  }

  pub staged_grown : (letters more : List ℕ) (s : StateValue) → Staged choice letters s
      → Staged choice (letters ++ more) s
  staged_grown letters more s (inl h) = inl (late_grown letters more s h)
  staged_grown letters more s (inr h) = inr (record {
    early_mode = h.early_mode;
    early = (
      record {
        hung = h.early.0.hung;
        ordered = ordered_grown letters more s.nodes _ s.foster_parenting h.early.0.ordered;
        names = h.early.0.names;
      },
      h.early.1,
    );
    placed = h.placed;
  })

  -- ---- what a run does

  -- What counts of it may stand after all others then. White space before the head goes, and is never processed again.
  pub record RunStage (letters t : List ℕ) (before white : Bool) (a : Outcome) : Type 0 where
    pub keeps : a.again ≡ true → Staged choice letters a.state
    pub dark : a.again ≡ true → white ≡ false
    pub puts : a.again ≡ false → Staged choice (letters ++ counted_of choice (unless (before && white) t)) a.state
    pub after : a.again ≡ false → is_before_head a.state.mode ≡ (before && white)
    pub calm : Calm a.state

  run_again : (letters t : List ℕ) (before : Bool) {a : Outcome} → a.again ≡ true → StageAnswer choice letters a
      → RunStage letters t before false a
  run_again letters t before e h = record {
    keeps = λ z. h.stage;
    dark = λ z. refl;
    puts = λ z. absurd (true≢false (sym e ∙ z));
    after = λ z. absurd (true≢false (sym e ∙ z));
    calm = h.calm e;
  }

  run_done : (letters t : List ℕ) (before white : Bool) (s : StateValue)
      → Staged choice (letters ++ counted_of choice (unless (before && white) t)) s
      → is_before_head s.mode ≡ (before && white) → Calm s → RunStage letters t before white (done s)
  run_done letters t before white s h m c = record {
    keeps = λ z. absurd (true≢false (sym z));
    dark = λ z. absurd (true≢false (sym z));
    puts = λ z. h;
    after = λ z. m;
    calm = c;
  }

-- ---- text without a letter before the body

module _ (choice : Choice) where
  white_early : (letters t : List ℕ) (s : StateValue) (stack : List OpenValue) → IsUtf8 t → counted_of choice t
      ≡ []
      → Early choice letters s → EarlyIn choice letters s stack → EarlyIn choice letters (insert_text t s) stack
  white_early letters t s stack u none real h =
      let p = (current s.stack).node in
      let there = place_last s real.0.ordered.no_fostering in
      let fits : Fits s.nodes p = subst (λ (x : _). Fits s.nodes x.parent) there (fits_place s real.0.hung) in
      let g = white_put choice h.0.hung.rank letters s.nodes h.0.ordered.labels h.0.ordered.fits (ranked_of h.0.hung) p
      fits.0 t u none in (
        subst (λ (at : _). EarlyOf choice letters (add_text t at s.nodes) stack s.head s.foster_parenting) (sym there)
            (record {
              hung = hung_joined t (last_in p) s.nodes
                  (hung_added (text t) p (length (children_at (s.nodes ++ new_node (text t) ∷ []) p)) s.nodes fits
                  (forest_add (text t) (last_in p) s.nodes h.0.hung.forest) h.0.hung).hung h.0.hung;
              ordered = record {
                labels = g.labels;
                fits = g.fits;
                root = g.still 0 h.0.hung.filled h.0.ordered.root;
                opens = stack_still h.0.ordered.labels.live g.labels.live s.nodes stack g.still h.0.hung.opened_at
                    h.0.ordered.opens;
                no_fostering = h.0.ordered.no_fostering;
              };
              names = h.0.names;
            }),
        h.1,
      )

  -- ---- the modes before the body

  -- where the current node counts as current
  pub early_text : (letters t : List ℕ) (s : StateValue) (stack : List OpenValue) → is_plain_mode s.mode ≡ true
      → (current stack).node ≡ (current s.stack).node → IsUtf8 t → EarlyIn choice letters s stack
      → EarlyIn choice (letters ++ counted_of choice t) (insert_text t s) stack
  early_text letters t s stack p e u h = (
    subst (λ (at : _). EarlyOf choice (letters ++ counted_of choice t) (add_text t at s.nodes) stack s.head
        s.foster_parenting) same
        (record {
          hung = (insert_text_stays t).hangs v (early_plain s stack s.mode p h) h.0.hung;
          ordered = text_ordered choice letters t v u h.0.hung h.0.ordered;
          names = h.0.names;
        }),
    h.1,
  )
    where
      v : StateValue
      v = record s { stack = stack }

      same : place (record s { stack = stack }) ≡ place s
      same =
          place_last (record s { stack = stack }) h.0.ordered.no_fostering
          ∙ (ap last_in e ∙ sym (place_last s h.0.ordered.no_fostering))

  -- white space under the root, where the head may be opened once more only if it doesn't count
  white_before : (letters t : List ℕ) (s : StateValue) (mode : InsertionMode) → s.mode ≡ mode → IsUtf8 t
      → (choice.reopens ≡ true → counted_of choice t ≡ []) → BeforeBody choice false mode letters s
      → EarlyIn choice (letters ++ counted_of choice t) (insert_text t s)
      (opens_in mode choice.reopens false s.head s.stack)
  white_before letters t s mode m u none h = by_mode mode choice.reopens s.head none h.early
    where
      whole : Early choice letters s
      whole = real choice false mode letters s h

      plain : is_plain_mode s.mode ≡ true
      plain = ap is_plain_mode m ∙ early_mode_plain mode h.early_mode

      by_mode : (other : InsertionMode) (reopens : Bool) (head : Option ℕ)
          → (reopens ≡ true → counted_of choice t ≡ [])
          → EarlyIn choice letters s (opens_in other reopens false head s.stack)
          → EarlyIn choice (letters ++ counted_of choice t) (insert_text t s)
          (opens_in other reopens false head s.stack)
      by_mode AfterHead true (Some n) none x =
          subst (λ (y : List ℕ). EarlyIn choice y (insert_text t s) (head_open n ∷ s.stack))
          (sym (no_more letters (counted_of choice t) (none refl)))
          (white_early letters t s (head_open n ∷ s.stack) u (none refl) whole x)
      by_mode other reopens head none x = early_text letters t s s.stack plain refl u x

  -- the outcome of a run of white space, of U+0000 and of other characters in a mode
  abbrev RunsStage : InsertionMode → List ℕ → List ℕ → StateValue → Type 0
  RunsStage mode letters t s =
      ((choice.reopens ≡ true → counted_of choice t ≡ [])
      → RunStage choice letters t (is_before_head mode) true (in_mode mode (run (kind_of_byte 32) t) s))
      × (counted_of choice t ≡ []
      → RunStage choice letters t (is_before_head mode) false (in_mode mode (run (kind_of_byte 0) t) s))
      × RunStage choice letters t (is_before_head mode) false (in_mode mode (run (kind_of_byte 97) t) s)

  -- white space goes before the head
  early_runs : (letters t : List ℕ) (s : StateValue) → IsUtf8 t → is_text_mode s.content ≡ false
      → BeforeBody choice false s.mode letters s → RunsStage s.mode letters t s
  early_runs letters t s u e h =
      by_mode s.mode h.early_mode
      (λ before. run_done choice letters t true true s (subst (λ (x : List ℕ). Staged choice x s)
      (sym (no_more letters (counted_of choice []) (nil_letters choice)))
      (staged choice false s.mode letters s e refl h)) before e)
      (λ z after. run_done choice letters t false true (insert_text t s)
      (staged choice false s.mode (letters ++ counted_of choice t) (insert_text t s) e refl (record {
        early_mode = h.early_mode;
        early = white_before letters t s s.mode refl u z h;
        placed = h.placed;
      })) after e) (left_early choice letters s e h)
    where
      away : (before : Bool) {a : Outcome} → a.again ≡ true → StageAnswer choice letters a
          → RunStage choice letters t before false a
      away before f x = run_again choice letters t before f x

      by_mode : (mode : InsertionMode) → is_early mode ≡ true
          → (is_before_head mode ≡ true → RunStage choice letters t true true (done s))
          → ((choice.reopens ≡ true → counted_of choice t ≡ []) → is_before_head mode ≡ false
          → RunStage choice letters t false true (done (insert_text t s)))
          → StageAnswer choice letters (in_mode mode end_of_file s) → RunsStage mode letters t s
      by_mode Initial i gone put a = (λ z. gone refl, λ z. away true refl a, away true refl a)
      by_mode BeforeHtml i gone put a = (λ z. gone refl, λ z. away true refl a, away true refl a)
      by_mode BeforeHead i gone put a = (λ z. gone refl, λ z. away true refl a, away true refl a)
      by_mode InHead i gone put a = (λ z. put z refl, λ z. away false refl a, away false refl a)
      by_mode InHeadNoscript i gone put a = (λ z. put z refl, λ z. away false refl a, away false refl a)
      by_mode AfterHead i gone put a = (λ z. put z refl, λ z. away false refl a, away false refl a)
      by_mode _ i gone put a = absurd (true≢false (sym i))

  -- ---- in the body and after it

  pub late_writes : (letters t : List ℕ) (s : StateValue) → IsUtf8 t → Late choice letters s
      → Late choice (letters ++ counted_of choice t) (insert_text t s)
  late_writes letters t s u h = record {
    plain = (insert_text_stays t).stays s h.plain;
    hung = (insert_text_stays t).hangs s h.plain h.hung;
    ordered = text_ordered choice letters t s u h.hung h.ordered;
    body = h.body;
    rooted = (insert_text_roots t).rooted h.body s h.rooted;
    raw = h.raw;
  }

  -- where the mode isn't one before the head
  late_run : (letters t : List ℕ) (before white : Bool) (s : StateValue) → before ≡ false
      → is_text_mode s.content ≡ false → Late choice (letters ++ counted_of choice t) s
      → RunStage choice letters t before white (done s)
  late_run letters t before white s off e h =
      subst (λ (b : Bool). RunStage choice letters t b white (done s)) (sym off)
      (run_done choice letters t false white s (inl h) (late_is_after s.mode h.rooted.late) e)

  module _ (letters t : List ℕ) (s : StateValue) (u : IsUtf8 t) (e : is_text_mode s.content ≡ false)
      (h : Late choice letters s) where
    reopened : Late choice letters (reconstruct s)
    reopened = late_step choice (reconstruct_orders choice) reconstruct_roots letters s e h

    reopened_calm : is_text_mode (reconstruct s).content ≡ false
    reopened_calm = ap is_text_mode (reconstruct_content s) ∙ e

    white_in_body : RunStage choice letters t false true (done (run_in_body (kind_of_byte 32) t s))
    white_in_body =
        late_run letters t false true _ refl reopened_calm (late_writes letters t (reconstruct s) u reopened)

    characters_in_body : RunStage choice letters t false false (done (run_in_body (kind_of_byte 97) t s))
    characters_in_body =
        late_run letters t false false _ refl reopened_calm
        (late_step choice (no_frameset_orders choice) no_frameset_roots (letters ++ counted_of choice t)
        (insert_text t (reconstruct s)) reopened_calm (late_writes letters t (reconstruct s) u reopened))

    nulls_in_body : RunStage choice letters t false false (done s)
    nulls_in_body = late_run letters t false false s refl e (late_grown choice letters (counted_of choice t) s h)

    back_in_body : RunStage choice letters t false false (back_to_body s)
    back_in_body =
        let x = late_step choice (with_mode_orders choice InBody refl) (with_mode_roots InBody refl) letters s e h in
        run_again choice letters t false refl (record { stage = inl x; calm = λ z. e })

    late_runs : (mode : InsertionMode) → is_late mode ≡ true → RunsStage mode letters t s
    late_runs InBody l = (λ z. white_in_body, λ z. nulls_in_body, characters_in_body)
    late_runs InSelect l = (
      λ z. late_run letters t false true _ refl e (late_writes letters t s u h),
      λ z. nulls_in_body,
      late_run letters t false false _ refl e (late_writes letters t s u h),
    )
    late_runs AfterBody l = (λ z. white_in_body, λ z. back_in_body, back_in_body)
    late_runs AfterAfterBody l = (λ z. white_in_body, λ z. back_in_body, back_in_body)
    late_runs _ l = absurd (true≢false (sym l))

  -- ---- in foreign content or by the mode

  module _ (letters t : List ℕ) (u : IsUtf8 t) (s : StateValue) where
    abbrev Staying : Bool → Outcome → Type 0
    Staying white a = RunStage choice letters t (is_before_head s.mode) white a

    abbrev PutOutcome : ℕ → Bool → Type 0
    PutOutcome b white =
        list_all (is_of_kind (kind_of_byte b)) t ≡ true → Staying white (by_rules (run (kind_of_byte b) t) s)

    -- in the body
    module _ (e : is_text_mode s.content ≡ false) (h : Late choice letters s) where
      after : is_before_head s.mode ≡ false
      after = late_is_after s.mode h.rooted.late

      runs : RunsStage s.mode letters t s
      runs = late_runs letters t s u e h s.mode h.rooted.late

      late_white : PutOutcome 32 true
      late_white all =
          cond_both (is_foreign (run (kind_of_byte 32) t) s) _ _ (Staying true)
          (λ f. late_run letters t (is_before_head s.mode) true (insert_text t s) after e
          (late_writes letters t s u h)) (λ f. runs.0 (λ r. white_letters choice t r all))

      late_nulls : choice.nulls ≡ true → PutOutcome 0 false
      late_nulls n all =
          let x = late_writes letters (replacements t) s (replaced_utf8 0 t) h in
          cond_both (is_foreign (run (kind_of_byte 0) t) s) _ _ (Staying false)
          (λ f. late_run letters t (is_before_head s.mode) false (insert_text (replacements t) s) after e
          (subst (λ (more : List ℕ). Late choice (letters ++ more) (insert_text (replacements t) s))
          (replaced_letters choice n t ∙ sym (null_letters choice t n all)) x))
          (λ f. runs.1 (null_letters choice t n all))

      late_characters : PutOutcome 97 false
      late_characters all =
          cond_both (is_foreign (run (kind_of_byte 97) t) s) _ _ (Staying false)
          (λ f. late_run letters t (is_before_head s.mode) false (no_frameset (insert_text t s)) after e
          (late_step choice (no_frameset_orders choice) no_frameset_roots (letters ++ counted_of choice t)
          (insert_text t s) e (late_writes letters t s u h))) (λ f. runs.2)

    -- before it
    by_mode : (b : ℕ) (white : Bool) → BeforeBody choice false s.mode letters s
        → Staying white (in_mode s.mode (run (kind_of_byte b) t) s)
        → Staying white (by_rules (run (kind_of_byte b) t) s)
    by_mode b white h x = html_rules choice (Staying white) (run (kind_of_byte b) t) letters s h x

    -- whether it is white space
    module _ (calm : Calm s) (h : Staged choice letters s) where
      white_stage : PutOutcome 32 true
      white_stage all =
          by_stage choice false letters s calm h (λ x. late_white calm x all)
          (λ x. by_mode 32 true x ((early_runs letters t s u calm x).0 (λ r. white_letters choice t r all)))

      pub nulls_stage : choice.nulls ≡ true → PutOutcome 0 false
      nulls_stage n all =
          by_stage choice false letters s calm h (λ x. late_nulls calm x n all)
          (λ x. by_mode 0 false x ((early_runs letters t s u calm x).1 (null_letters choice t n all)))

      pub characters_stage : PutOutcome 97 false
      characters_stage all =
          by_stage choice false letters s calm h (λ x. late_characters calm x all)
          (λ x. by_mode 97 false x (early_runs letters t s u calm x).2)

  -- ---- the first run of a text

  -- a run of white space, or one of a whole that begins with none
  pub record RunOf (letters whole : List ℕ) (s : StateValue) (a : Outcome) : Type 0 where
    pub white : Bool
    pub bright : white ≡ true → after_first_run whole ≡ behind_run is_ascii_white_space whole
    pub dark : white ≡ false → Dark whole
    pub stage : RunStage choice letters (first_run whole) (is_before_head s.mode) white a

  pub run_of : (letters whole : List ℕ) → IsUtf8 (first_run whole) → Clean choice.nulls whole
      → list_all (is_of_kind (first_kind whole)) (first_run whole) ≡ true → (s : StateValue) → Calm s
      → Staged choice letters s → RunOf letters whole s (by_rules (first_token whole) s)
  run_of letters whole u clean all s calm h =
      by_first_kind (λ kind. first_kind whole ≡ kind → list_all (is_of_kind kind) (first_run whole) ≡ true
      → RunOf letters whole s (by_rules (run kind (first_run whole)) s))
      (λ e x. record {
        white = true;
        bright = λ z. behind_white whole e;
        dark = λ z. absurd (true≢false z);
        stage = white_stage letters (first_run whole) u s calm h x;
      }) (λ e x. not_white (dark_nulls whole e)
      (nulls_stage letters (first_run whole) u s calm h (nulls_come choice.nulls whole clean e) x))
      (λ e x. not_white (dark_characters whole e) (characters_stage letters (first_run whole) u s calm h x)) whole refl
      all
    where
      not_white : {a : Outcome} → Dark whole
          → RunStage choice letters (first_run whole) (is_before_head s.mode) false a → RunOf letters whole s a
      not_white d x = record { white = false; bright = λ z. absurd (true≢false (sym z)); dark = λ z. d; stage = x }
