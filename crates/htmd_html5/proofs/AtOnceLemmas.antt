-- A text that is put at once: its parts, put one after another, are joined.
use Rattle.std.proofs.Common.{◌≡◌, ◌∙◌, ℕ, zero, suc, ◌+◌, ◌<◌, ◌≤◌, Bool, true, false, not, ◌&&◌, List, [], ◌∷◌}
use Rattle.std.proofs.Common.{◌++◌, length, refl, sym, ap, subst, arith}
use Rattle.std.specs.List.{list_all}
use Rattle.std.specs.Prelude.{if◌then◌else◌}
use Rattle.std.proofs.lemmas.Bool.{true≢false, and_parts, and_left, or_right, not_from_true}
use Rattle.std.proofs.lemmas.List.{append-nil}
use Rattle.std.proofs.lemmas.List.Folds.{list_all-append}
use Rattle.htmd_lexical.proofs.Cases.{test}
use Rattle.htmd_lexical.specs.WhiteSpace.{is_ascii_white_space}
use Rattle.htmd_lexical.specs.CharacterClasses.{is_empty, leading_run}
use Rattle.htmd_lexical.proofs.LeadingRunsLemmas.{front_all, back_split}
use Rattle.htmd_html5_state.specs.Foreign.{current_is_html}
use Rattle.htmd_html5_state.specs.Insertion.{insert_text}
use Rattle.htmd_html5_state.specs.AppendedTexts.{appends_text}
use Rattle.htmd_html5_state.specs.State.{StateValue}
use Rattle.htmd_html5_state.specs.declared.modes.InsertionMode.TheVariants.{InBody, InCaption, InCell}
use Rattle.htmd_html5_state.specs.declared.modes.InsertionMode.{InsertionMode}
use Rattle.htmd_html5_state.proofs.AppendedTextsLemmas.{AppendsText, appends, insert_text-twice, insert_text-appends}
use Rattle.htmd_html5_state.proofs.AppendedTextsLemmas.{appends-reconstruct}
use Rattle.htmd_html5.specs.Outcomes.{outcome, done}
use Rattle.htmd_html5.specs.AtOnce.{is_body_mode, is_not_null, takes_at_once, is_without_null, put_at_once}
use Rattle.htmd_html5.specs.ForeignContent.{is_foreign}
use Rattle.htmd_html5.specs.InBody.{run_in_body}
use Rattle.htmd_html5.specs.Modes.{in_mode}
use Rattle.htmd_html5.specs.Processing.{by_rules, turns}
use Rattle.htmd_html5.specs.Runs.{is_of_kind, is_null, kind_of_byte, first_kind, first_run, after_first_run}
use Rattle.htmd_html5.specs.SharedRules.{no_frameset}
use Rattle.htmd_html5.specs.Texts.{Taken, taken, is_table_mode, takes_all, take_part, first_token, put_text}
use Rattle.htmd_html5.specs.Tokens.{run}
use Rattle.htmd_html5.specs.declared.tokens.RunKind.{RunKind}
use Rattle.htmd_html5.specs.declared.tokens.RunKind.TheVariants.{White, Characters}
use Rattle.htmd_html5.proofs.TextsLemmas.{put_part, first_run_shortens, takes_first, takes_run}

-- ---- a state that takes texts at once

record Takes (s : StateValue) : Type 0 where
  pub mode : is_body_mode s.mode ≡ true
  pub html : current_is_html s.stack ≡ true
  pub at_end : AppendsText s

takes : (s : StateValue) → takes_at_once s ≡ true → Takes s
takes s e =
    let both = and_parts (is_body_mode s.mode && current_is_html s.stack) (appends_text s) e in
    let front = and_parts (is_body_mode s.mode) (current_is_html s.stack) both.0 in
    record { mode = front.0; html = front.1; at_end = appends s both.1 }

-- it takes more after a text
takes_more : (text : List ℕ) (s : StateValue) → Takes s → Takes (put_at_once text s)
takes_more text s h =
    test (list_all is_ascii_white_space text) (λ e. rw e (inserted s.frameset_ok)) (λ e. rw e (inserted false))
  where
    inserted : (ok : Bool) → Takes (record (insert_text text s) { frameset_ok = ok })
    inserted ok =
        let more = insert_text-appends text s h.at_end in
        record {
          mode = h.mode;
          html = h.html;
          at_end = record { fosters = more.fosters; listed = more.listed; within = more.within };
        }

-- ---- two texts

-- whether frameset-ok stays
abbrev with_frameset : Bool → StateValue → StateValue
with_frameset white s = if white then s else no_frameset s

frameset_before : (white : Bool) (text : List ℕ) (s : StateValue)
    → insert_text text (with_frameset white s) ≡ with_frameset white (insert_text text s)
frameset_before true text s = refl
frameset_before false text s = refl

frameset_twice : (x y : Bool) (s : StateValue) → with_frameset y (with_frameset x s) ≡ with_frameset (x && y) s
frameset_twice true y s = refl
frameset_twice false true s = refl
frameset_twice false false s = refl

put_twice : (a b : List ℕ) (s : StateValue) → AppendsText s
    → put_at_once b (put_at_once a s) ≡ put_at_once (a ++ b) s
put_twice a b s h =
    ap (with_frameset (list_all is_ascii_white_space b))
    (frameset_before (list_all is_ascii_white_space a) b (insert_text a s))
    ∙ (frameset_twice (list_all is_ascii_white_space a) (list_all is_ascii_white_space b)
    (insert_text b (insert_text a s))
    ∙ (ap (with_frameset (list_all is_ascii_white_space a && list_all is_ascii_white_space b))
    (insert_text-twice a b s h)
    ∙ ap (λ (white : Bool). with_frameset white (insert_text (a ++ b) s))
    (sym (list_all-append is_ascii_white_space a b))))

-- ---- one run

body_rules : (m : InsertionMode) (kind : RunKind) (text : List ℕ) (s : StateValue) → is_body_mode m ≡ true
    → in_mode m (run kind text) s ≡ done (run_in_body kind text s)
body_rules InBody kind text s e = refl
body_rules InCaption kind text s e = refl
body_rules InCell kind text s e = refl
body_rules _ kind text s e = absurd (true≢false (sym e))

no_table : (m : InsertionMode) → is_body_mode m ≡ true → is_table_mode m ≡ false
no_table InBody e = refl
no_table InCaption e = refl
no_table InCell e = refl
no_table _ e = absurd (true≢false (sym e))

goes : (kind : RunKind) (text : List ℕ) (s : StateValue) → current_is_html s.stack ≡ true
    → is_foreign (run kind text) s ≡ false
goes kind text s e = rw (or_right _ (current_is_html s.stack) e) refl

by_body : (kind : RunKind) (text : List ℕ) (s : StateValue) → Takes s
    → by_rules (run kind text) s ≡ done (run_in_body kind text s)
by_body kind text s h = rw (goes kind text s h.html) (body_rules s.mode kind text s h.mode)

white_run : (r : List ℕ) (s : StateValue) → AppendsText s → list_all is_ascii_white_space r ≡ true
    → run_in_body White r s ≡ put_at_once r s
white_run r s h e = rw e (ap (insert_text r) (appends-reconstruct s h))

other_run : (r : List ℕ) (s : StateValue) → AppendsText s → list_all is_ascii_white_space r ≡ false
    → run_in_body Characters r s ≡ put_at_once r s
other_run r s h e = rw e (ap (λ (x : StateValue). no_frameset (insert_text r x)) (appends-reconstruct s h))

-- the first run of a text that doesn't begin with U+0000
kind_first : (b : ℕ) (t : List ℕ) (s : StateValue) → AppendsText s → is_null b ≡ false
    → run_in_body (kind_of_byte b) (first_run (b ∷ t)) s ≡ put_at_once (first_run (b ∷ t)) s
kind_first b t s h n = test (is_ascii_white_space b) (λ e. of_kind White (rw e refl) (as_white e))
    (λ e. of_kind Characters (rw (e, n) refl) (as_other e))
  where
    of_kind : (k : RunKind) → kind_of_byte b ≡ k
        → run_in_body k (leading_run (is_of_kind k) (b ∷ t)) s
        ≡ put_at_once (leading_run (is_of_kind k) (b ∷ t)) s
        → run_in_body (kind_of_byte b) (first_run (b ∷ t)) s ≡ put_at_once (first_run (b ∷ t)) s
    of_kind k e f =
        subst (λ (x : RunKind). run_in_body x (leading_run (is_of_kind x) (b ∷ t)) s
        ≡ put_at_once (leading_run (is_of_kind x) (b ∷ t)) s) (sym e) f

    as_white : is_ascii_white_space b ≡ true
        → run_in_body White (leading_run (is_of_kind White) (b ∷ t)) s
        ≡ put_at_once (leading_run (is_of_kind White) (b ∷ t)) s
    as_white e = white_run (leading_run (is_of_kind White) (b ∷ t)) s h (front_all (is_of_kind White) (b ∷ t))

    as_other : is_ascii_white_space b ≡ false
        → run_in_body Characters (leading_run (is_of_kind Characters) (b ∷ t)) s
        ≡ put_at_once (leading_run (is_of_kind Characters) (b ∷ t)) s
    as_other e =
        other_run (leading_run (is_of_kind Characters) (b ∷ t)) s h
        (rw (e, n) (and_left (is_ascii_white_space b)
        (list_all is_ascii_white_space (leading_run (is_of_kind Characters) t)) e))

first_put : (b : ℕ) (t : List ℕ) (s : StateValue) → Takes s → is_null b ≡ false
    → take_part (b ∷ t) s ≡ taken (put_at_once (first_run (b ∷ t)) s) (after_first_run (b ∷ t))
first_put b t s h n =
    sym (takes_run (b ∷ t) s s (put_at_once (first_run (b ∷ t)) s) 0 (turns s) (takes_first (b ∷ t) s (turns s))
    (omega arith) elsewhere rules)
  where
    elsewhere : takes_all s ≡ false
    elsewhere = rw (no_table s.mode h.mode) refl

    rules : outcome (put_at_once (first_run (b ∷ t)) s) false ≡ by_rules (first_token (b ∷ t)) s
    rules =
        sym (by_body (kind_of_byte b) (first_run (b ∷ t)) s h
        ∙ ap done (kind_first b t s h.at_end n))

-- ---- all runs

nulls_in_rest : (text : List ℕ) → list_all is_not_null text ≡ true
    → list_all is_not_null (after_first_run text) ≡ true
nulls_in_rest text e =
    (and_parts (list_all is_not_null (first_run text)) (list_all is_not_null (after_first_run text))
    (sym (list_all-append is_not_null (first_run text) (after_first_run text))
    ∙ (ap (list_all is_not_null) (sym (back_split (is_of_kind (first_kind text)) text)) ∙ e))).1

not_null : (b : ℕ) (t : List ℕ) → list_all is_not_null (b ∷ t) ≡ true → is_null b ≡ false
not_null b t e =
    test (is_null b) (λ q. absurd (true≢false (sym (and_parts (is_not_null b) (list_all is_not_null t) e).0
    ∙ not_from_true (is_null b) q))) (λ q. q)

-- what is left after the first run
rest_put : (front rest : List ℕ) (s : StateValue) → AppendsText s
    → (0 < length rest → put_text rest (put_at_once front s) ≡ put_at_once rest (put_at_once front s))
    → put_text rest (put_at_once front s) ≡ put_at_once (front ++ rest) s
rest_put front [] s h go = ap (λ (x : List ℕ). put_at_once x s) (sym (append-nil front))
rest_put front (c ∷ r) s h go = go (omega arith) ∙ put_twice front (c ∷ r) s h

by_runs : (k : ℕ) (text : List ℕ) (s : StateValue) → length text ≤ k → 0 < length text → Takes s
    → list_all is_not_null text ≡ true → put_text text s ≡ put_at_once text s
by_runs k [] s l m h n = absurd (omega arith)
by_runs zero (b ∷ t) s l m h n = absurd (omega arith)
by_runs (suc k) (b ∷ t) s l m h n =
    let shorter = first_run_shortens (b ∷ t) m in
    put_part (b ∷ t) s m
    ∙ (ap (λ (x : Taken). put_text x.rest x.state) (first_put b t s h (not_null b t n))
    ∙ (rest_put (first_run (b ∷ t)) (after_first_run (b ∷ t)) s h.at_end
    (λ some. by_runs k (after_first_run (b ∷ t)) (put_at_once (first_run (b ∷ t)) s) (omega arith) some
    (takes_more (first_run (b ∷ t)) s h) (nulls_in_rest (b ∷ t) n))
    ∙ ap (λ (x : List ℕ). put_at_once x s) (sym (back_split (is_of_kind (kind_of_byte b)) (b ∷ t)))))

some : (text : List ℕ) → not (is_empty text) ≡ true → 0 < length text
some [] e = absurd (true≢false (sym e))
some (b ∷ t) e = omega arith

-- a plain text that is put at once is put
pub put_as_parts : (text : List ℕ) (s : StateValue) → takes_at_once s ≡ true → is_without_null text ≡ true
    → put_at_once text s ≡ put_text text s
put_as_parts text s e f =
    let parts = and_parts (not (is_empty text)) (list_all is_not_null text) f in
    sym (by_runs (length text) text s (omega arith) (some text parts.0) (takes s e) parts.1)
