-- Texts in tables, run by run.
use Rattle.std.proofs.Common.{◌≡◌, ◌∙◌, ℕ, zero, suc, ◌<◌, ◌≤◌, true, false, List, [], ◌∷◌, ◌++◌, length, append_assoc}
use Rattle.std.proofs.Common.{refl, ap, sym, arith}
use Rattle.std.proofs.lemmas.Bool.Decides.{nat_tests}
use Rattle.htmd_lexical.proofs.Cases.{test}
use Rattle.htmd_lexical.specs.CharacterClasses.{leading_run, behind_run}
use Rattle.htmd_html5_state.specs.State.{StateValue}
use Rattle.htmd_html5.specs.InBody.{run_in_body}
use Rattle.htmd_html5.specs.InTable.{without_nulls, kept_of, fostered, foster_runs}
use Rattle.htmd_html5.specs.Runs.{is_of_kind, is_null, first_kind, first_run, after_first_run}
use Rattle.htmd_html5.specs.declared.tokens.RunKind.{RunKind}
use Rattle.htmd_html5.specs.declared.tokens.RunKind.TheVariants.{White, Nulls, Characters}
use Rattle.htmd_html5.proofs.TextsLemmas.{first_run_shortens}

white_is_kept : (b : ℕ) → is_of_kind White b ≡ true → is_null b ≡ false
white_is_kept b e = grind (arith, nat_tests)

character_is_kept : (b : ℕ) → is_of_kind Characters b ≡ true → is_null b ≡ false
character_is_kept b e = grind (arith, nat_tests)

-- where no byte of a kind is null
kept_whole : (kind : RunKind) (s : List ℕ) → ((b : ℕ) → is_of_kind kind b ≡ true → is_null b ≡ false)
    → without_nulls s ≡ leading_run (is_of_kind kind) s ++ without_nulls (behind_run (is_of_kind kind) s)
kept_whole kind [] h = refl
kept_whole kind (b ∷ s) h =
    test (is_of_kind kind b)
    (λ e. let n = h b e in rw (e, n) (ap (λ x. b ∷ x) (kept_whole kind s h))) (λ e. rw e refl)

kept_nulls : (s : List ℕ) → without_nulls s ≡ without_nulls (behind_run is_null s)
kept_nulls [] = refl
kept_nulls (b ∷ s) = test (is_null b) (λ e. rw e (kept_nulls s)) (λ e. rw (e, e) refl)

-- what is kept of a text is what is kept of its first run, and then of the rest
pub kept_run : (kind : RunKind) (s : List ℕ) → without_nulls s
    ≡ kept_of kind (leading_run (is_of_kind kind) s) ++ without_nulls (behind_run (is_of_kind kind) s)
kept_run White s = kept_whole White s white_is_kept
kept_run Nulls s = kept_nulls s
kept_run Characters s = kept_whole Characters s character_is_kept

-- one more run is kept
pub kept_more : (kept new rest run after all : List ℕ) (kind : RunKind) → kind ≡ first_kind rest
    → run ≡ first_run rest
    → after ≡ after_first_run rest → new ≡ kept ++ kept_of kind run → kept ++ without_nulls rest ≡ all
    → new ++ without_nulls after ≡ all
kept_more kept new rest run after all kind k r a n e =
    let this : kept_of kind run ≡ kept_of (first_kind rest) (first_run rest) =
    ap (λ (x : RunKind). kept_of x run) k ∙ ap (λ (x : List ℕ). kept_of (first_kind rest) x) r in
    let whole : kept_of kind run ++ without_nulls after ≡ without_nulls rest =
    ap (λ (x : List ℕ). x ++ without_nulls after) this
    ∙ ap (λ (x : List ℕ). kept_of (first_kind rest) (first_run rest) ++ without_nulls x) a
    ∙ sym (kept_run (first_kind rest) rest) in
    ap (λ (x : List ℕ). x ++ without_nulls after) n
    ∙ append_assoc kept (kept_of kind run) (without_nulls after)
    ∙ ap (λ (x : List ℕ). kept ++ x) whole ∙ e

foster_nothing : (k : ℕ) (s : StateValue) → foster_runs k [] s ≡ s
foster_nothing zero s = refl
foster_nothing (suc k) s = refl

foster_same : (j k : ℕ) (text : List ℕ) (s : StateValue) → length text ≤ j → length text ≤ k
    → foster_runs j text s ≡ foster_runs k text s
foster_same j k [] s h g = foster_nothing j s ∙ sym (foster_nothing k s)
foster_same zero k (b ∷ t) s h g = absurd (omega arith)
foster_same (suc j) zero (b ∷ t) s h g = absurd (omega arith)
foster_same (suc j) (suc k) (b ∷ t) s h g =
    let l = first_run_shortens (b ∷ t) (omega arith) in
    foster_same j k (after_first_run (b ∷ t)) (fostered (run_in_body (first_kind (b ∷ t)) (first_run (b ∷ t))) s)
    (omega arith) (omega arith)

-- a text is its first run, and then the rest
pub foster_part : (text : List ℕ) (s : StateValue) → 0 < length text
    → foster_runs (length text) text s
    ≡ foster_runs (length (after_first_run text)) (after_first_run text)
    (fostered (run_in_body (first_kind text) (first_run text)) s)
foster_part [] s h = absurd (omega arith)
foster_part (b ∷ t) s h =
    let l = first_run_shortens (b ∷ t) h in
    foster_same (length t) (length (after_first_run (b ∷ t))) (after_first_run (b ∷ t))
    (fostered (run_in_body (first_kind (b ∷ t)) (first_run (b ∷ t))) s) (omega arith) (omega arith)

-- one more run stands before the table
pub foster_more : (rest run after : List ℕ) (kind : RunKind) (s new all : StateValue) → 0 < length rest
    → kind ≡ first_kind rest → run ≡ first_run rest → after ≡ after_first_run rest
    → new ≡ fostered (run_in_body kind run) s → foster_runs (length rest) rest s ≡ all
    → foster_runs (length after) after new ≡ all
foster_more rest run after kind s new all h k r a n e =
    let same : new ≡ fostered (run_in_body (first_kind rest) (first_run rest)) s =
    n ∙ ap (λ (x : RunKind). fostered (run_in_body x run) s) k
    ∙ ap (λ (x : List ℕ). fostered (run_in_body (first_kind rest) x) s) r in
    ap (λ (x : List ℕ). foster_runs (length x) x new) a
    ∙ ap (λ (x : StateValue). foster_runs (length (after_first_run rest)) (after_first_run rest) x) same
    ∙ sym (foster_part rest s h) ∙ e
