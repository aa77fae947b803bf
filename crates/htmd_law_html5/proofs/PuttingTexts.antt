-- A text, run by run, where it is taken: its letters are put into the texts.
use Rattle.std.proofs.Common.{◌≡◌, ◌∙◌, ℕ, zero, suc, ◌+◌, ◌<◌, ◌≤◌, Bool, true, false, List, [], ◌∷◌, length, refl}
use Rattle.std.proofs.Common.{sym, ap, subst, arith}
use Rattle.std.specs.Prelude.{IsUtf8}
use Rattle.std.specs.List.{list_all}
use Rattle.std.proofs.lemmas.Bool.{true≢false, and_parts, cond_both}
use Rattle.std.proofs.lemmas.Str.{IsUtf8-nil, IsUtf8-append}
use Rattle.htmd_lexical.specs.WhiteSpace.{is_ascii_white_space}
use Rattle.htmd_lexical.proofs.Cases.{test}
use Rattle.htmd_lexical.specs.CharacterClasses.{is_empty}
use Rattle.htmd_lexical.proofs.LeadingRunsLemmas.{front_all}
use Rattle.htmd_html5_state.specs.OpenElements.{OpenValue, current_is}
use Rattle.htmd_html5_state.specs.State.{StateValue}
use Rattle.htmd_html5_state.specs.declared.modes.InsertionMode.TheVariants.{InTable}
use Rattle.htmd_html5_state.specs.declared.modes.InsertionMode.{InsertionMode}
use Rattle.htmd_html5_state.specs.declared.sets.NameSet.TheVariants.{Fostering}
use Rattle.htmd_html5.specs.Runs.{is_of_kind, first_kind, first_run, after_first_run}
use Rattle.htmd_html5.specs.Outcomes.{Outcome}
use Rattle.htmd_html5.specs.InBody.{run_in_body}
use Rattle.htmd_html5.specs.InTable.{without_nulls, kept_of, fostered, foster_runs, put_table_text, table_text}
use Rattle.htmd_html5.specs.Processing.{by_rules, turns}
use Rattle.htmd_html5.specs.Texts.{Taken, is_table_mode, takes_all, after_run, first_token, take_within}
use Rattle.htmd_html5.specs.Texts.{take_part, put_within, put_text}
use Rattle.htmd_html5.proofs.TextsLemmas.{first_run_shortens, part_shorter}
use Rattle.htmd_html5.proofs.InTableLemmas.{kept_run}
use Rattle.htmd_law_html5.specs.EndedTurns.{is_done_within}
use Rattle.htmd_law_html5.specs.PageLetters.{occurrences}
use Rattle.htmd_law_html5.specs.DocumentLetters.{drops_in, drops_text}
use Rattle.htmd_law_html5.proofs.LetterLemmas.{LetterTests}
use Rattle.htmd_law_html5.proofs.Keeping.{Sound, kept_same}
use Rattle.htmd_law_html5.proofs.TextsPut.{occurs_append, occurs_nil}
use Rattle.htmd_law_html5.proofs.Taking.{Grew, kept_grew, grew_as, grew_then, fostered_puts, insert_text_puts}
use Rattle.htmd_law_html5.proofs.TakingTexts.{RunParts, run_parts}
use Rattle.htmd_law_html5.proofs.EndedTurns.{run_done, done_again}
use Rattle.htmd_law_html5.proofs.PuttingRuns.{body_mode, PutOutcome, finished}
use Rattle.htmd_law_html5.proofs.PuttingRuns.{goes_on, run_outcome, run_in_body_puts, SameLetters, kept_letters}

pub empty_none : (c : ℕ) (s : List ℕ) → is_empty s ≡ true → occurrences c s ≡ 0
empty_none c [] e = occurs_nil c
empty_none c (b ∷ s) e = absurd (true≢false (sym e))

pub filled : (s : List ℕ) → is_empty s ≡ false → 0 < length s
filled [] e = absurd (true≢false e)
filled (b ∷ s) e = omega arith

-- the first run is all of its kind
pub first_all : (s : List ℕ) → list_all (is_of_kind (first_kind s)) (first_run s) ≡ true
first_all s = front_all (is_of_kind (first_kind s)) s

-- ---- the mode stays

foster_mode : (k : ℕ) (text : List ℕ) (s : StateValue) → (foster_runs k text s).mode ≡ s.mode
foster_mode zero text s = refl
foster_mode (suc k) text s =
    cond_both (is_empty text) _ _ (λ (x : StateValue). x.mode ≡ s.mode) (λ e. refl)
    (λ e. foster_mode k (after_first_run text) (fostered (run_in_body (first_kind text) (first_run text)) s)
    ∙ body_mode text (first_run text) (record s { foster_parenting = true }))

table_mode : (text : List ℕ) (s : StateValue) → (put_table_text text s).mode ≡ s.mode
table_mode text s =
    test (is_empty text) (λ e. rw e refl) (λ e. test (list_all is_ascii_white_space text) (λ f. rw (e, f) refl)
    (λ f. rw (e, f) (foster_mode (length text) text s)))

-- in a table all text is taken
table_takes : (mode : InsertionMode) (stack : List OpenValue) → is_table_mode mode ≡ true → drops_in mode stack
    ≡ false
table_takes InTable stack e = refl
table_takes _ stack e = cc

module _ (exact : Bool) (c : ℕ) (letter : LetterTests c) where
  -- ---- text in a table

  nulls_gone : (k : ℕ) (s : List ℕ) → length s ≤ k → IsUtf8 s
      → SameLetters c letter.character s (without_nulls s)
  nulls_gone k [] l u = record { utf8 = IsUtf8-nil; same = refl }
  nulls_gone zero (b ∷ s) l u = absurd (omega arith)
  nulls_gone (suc k) (b ∷ s) l u =
      let parts = run_parts c (b ∷ s) u in
      let shorter = first_run_shortens (b ∷ s) (omega arith) in
      let x = kept_letters c letter.character (b ∷ s) (first_run (b ∷ s)) parts.front (first_all (b ∷ s)) in
      let y = nulls_gone k (after_first_run (b ∷ s)) (omega arith) parts.rest in
      subst (SameLetters c letter.character (b ∷ s)) (sym (kept_run (first_kind (b ∷ s)) (b ∷ s)))
      (record {
        utf8 = IsUtf8-append _ _ x.utf8 y.utf8;
        same =
            let e = occurs_append c (kept_of (first_kind (b ∷ s)) (first_run (b ∷ s)))
            (without_nulls (after_first_run (b ∷ s))) x.utf8 in
            let f = parts.count in
            let g = x.same in
            let h = y.same in
            omega arith;
      })

  foster_grew : (k : ℕ) (text : List ℕ) (s : StateValue) → length text ≤ k → IsUtf8 text → Sound s
      → Grew exact c (occurrences c text) s (foster_runs k text s)
  foster_grew zero [] s l u h = grew_as (occurrences c []) (sym (occurs_nil c)) (kept_grew (kept_same h))
  foster_grew zero (b ∷ text) s l u h = absurd (omega arith)
  foster_grew (suc k) text s l u h =
      test (is_empty text)
      (λ e. rw e (grew_as (occurrences c text) (sym (empty_none c text e)) (kept_grew (kept_same h))))
      (λ e. let parts = run_parts c text u in
      let shorter = first_run_shortens text (filled text e) in
      let first : Grew exact c (occurrences c (first_run text)) s
      (fostered (run_in_body (first_kind text) (first_run text)) s) =
      (fostered_puts (run_in_body_puts exact c letter.character text (first_run text) parts.front
      (first_all text))).puts s
      h in
      let count = parts.count in
      let later = foster_grew k (after_first_run text)
      (fostered (run_in_body (first_kind text) (first_run text)) s) (omega arith) parts.rest first.sound in
      rw e (grew_then (occurrences c text) (omega arith) first later))

  put_table_grew : (text : List ℕ) (s : StateValue) → IsUtf8 text → Sound s
      → Grew exact c (occurrences c text) s (put_table_text text s)
  put_table_grew text s u h =
      let inserted = (insert_text_puts c text u).puts s h in
      let fostered = foster_grew (length text) text s (omega arith) u h in
      test (is_empty text)
      (λ e. rw e (grew_as (occurrences c text) (sym (empty_none c text e)) (kept_grew (kept_same h))))
      (λ e. test (list_all is_ascii_white_space text) (λ f. rw (e, f) inserted) (λ f. rw (e, f) fostered))

  table_grew : (text : List ℕ) (s : StateValue) → IsUtf8 text → Sound s
      → Grew exact c (occurrences c text) s (table_text text s)
  table_grew text s u h =
      let gone = nulls_gone (length text) text (omega arith) u in
      grew_as (occurrences c text) gone.same (put_table_grew (without_nulls text) s gone.utf8 h)

  -- ---- a part of a text

  -- what is put in and what is left are the text
  record PutPart (text : List ℕ) (s : StateValue) (t : Taken) : Type 0 where
    count : ℕ
    grew : Grew exact c count s t.state
    fits : count + occurrences c t.rest ≡ occurrences c text
    utf8 : IsUtf8 t.rest
    takes : exact ≡ true → drops_text t.state ≡ false

  run_part : (k : ℕ) (text : List ℕ) (s : StateValue) (a : Outcome) → RunParts c text
      → PutOutcome exact c (occurrences c (first_run text)) s a
      → (a.again ≡ true → (exact ≡ true → drops_text a.state ≡ false) → Sound a.state
      → PutPart text a.state (take_within k text a.state))
      → PutPart text s (after_run (take_within k text) (after_first_run text) a)
  run_part k text s a parts (finished h) more =
      rw h.again (record {
        count = occurrences c (first_run text);
        grew = h.grew;
        fits = let f = parts.count in omega arith;
        utf8 = parts.rest;
        takes = h.takes;
      })
  run_part k text s a parts (goes_on e g d) more =
      let p = more e d g.sound in
      rw e (record {
        count = p.count;
        grew = grew_then p.count (omega arith) g p.grew;
        fits = p.fits;
        utf8 = p.utf8;
        takes = p.takes;
      })

  within_part : (k : ℕ) (text : List ℕ) (s : StateValue) → is_done_within k (first_token text) s ≡ true
      → IsUtf8 text
      → (exact ≡ true → drops_text s ≡ false) → Sound s → PutPart text s (take_within k text s)
  within_part zero text s l u d h = absurd (true≢false (sym l))
  within_part (suc k) text s l u d h =
      cond_both (takes_all s) _ _ (PutPart text s)
      (λ e. record {
        count = occurrences c text;
        grew = table_grew text s u h;
        fits = let f = occurs_nil c in omega arith;
        utf8 = IsUtf8-nil;
        takes = λ x.
            ap (λ (m : InsertionMode). drops_in m (table_text text s).stack) (table_mode (without_nulls text) s)
            ∙ table_takes s.mode _ (and_parts (is_table_mode s.mode) (current_is Fostering s.stack) e).0;
      })
      (λ e. let parts = run_parts c text u in
      run_part k text s (by_rules (first_token text) s) parts
      (run_outcome exact c letter text (first_run text) parts.front (first_all text) s d h)
      (λ (again : (by_rules (first_token text) s).again ≡ true) f sound.
      within_part k text (by_rules (first_token text) s).state (done_again k (first_token text) s l again) u f sound))

  put_grew : (k : ℕ) (text : List ℕ) (s : StateValue) → length text ≤ k → IsUtf8 text
      → (exact ≡ true → drops_text s ≡ false) → Sound s
      → Grew exact c (occurrences c text) s (put_within k text s)
  put_grew zero [] s l u d h = grew_as (occurrences c []) (sym (occurs_nil c)) (kept_grew (kept_same h))
  put_grew zero (b ∷ text) s l u d h = absurd (omega arith)
  put_grew (suc k) text s l u d h =
      test (is_empty text)
      (λ e. rw e (grew_as (occurrences c text) (sym (empty_none c text e)) (kept_grew (kept_same h))))
      (λ e. let p = within_part (turns s) text s (run_done text s) u d h in
      let shorter = part_shorter text s (filled text e) in
      let f = p.fits in
      let later = put_grew k (take_part text s).rest (take_part text s).state
      (omega arith) p.utf8 p.takes p.grew.sound in
      rw e (grew_then (occurrences c text) (omega arith) p.grew later))

  pub put_text_grew : (text : List ℕ) (s : StateValue) → IsUtf8 text → (exact ≡ true → drops_text s ≡ false)
      → Sound s → Grew exact c (occurrences c text) s (put_text text s)
  put_text_grew text s u d h = put_grew (length text) text s (omega arith) u d h
