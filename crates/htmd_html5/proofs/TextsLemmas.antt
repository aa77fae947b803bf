-- Texts are taken part by part, each of at least one character.
use Rattle.std.proofs.Common.{◌≡◌, ◌∙◌, ℕ, zero, suc, ◌<◌, ◌≤◌, true, false, List, [], ◌∷◌, length, refl, ap, sym}
use Rattle.std.proofs.Common.{arith, ◌+◌, ◌-◌, ◌==◌}
use Rattle.htmd_lexical.proofs.Cases.{test}
use Rattle.htmd_lexical.specs.WhiteSpace.{is_ascii_white_space}
use Rattle.htmd_lexical.proofs.RunsLemmas.{behind_within}
use Rattle.htmd_html5_state.specs.State.{StateValue}
use Rattle.htmd_html5.specs.Outcomes.{Outcome, outcome}
use Rattle.htmd_html5.specs.Runs.{is_of_kind, kind_of_byte, is_null, first_kind, first_run, after_first_run}
use Rattle.htmd_html5.specs.Tokens.{run}
use Rattle.htmd_html5.specs.declared.tokens.RunKind.{RunKind}
use Rattle.htmd_html5.specs.Processing.{by_rules, turns}
use Rattle.htmd_html5.specs.InTable.{table_text}
use Rattle.htmd_html5.specs.Texts.{Taken, taken, take_within, take_part, takes_all, after_run, first_token, put_within}
use Rattle.htmd_html5.specs.Texts.{put_text}

own_kind : (b : ℕ) → is_of_kind (kind_of_byte b) b ≡ true
own_kind b =
    test (is_ascii_white_space b) (λ e. simp e) (λ e. test (is_null b) (λ n. simp (e, n)) (λ n. simp (e, n)))

-- after the first run a text is shorter
pub first_run_shortens : (s : List ℕ) → 0 < length s → length (after_first_run s) < length s
first_run_shortens [] h = absurd (omega arith)
first_run_shortens (b ∷ s) h =
    let w = behind_within (is_of_kind (kind_of_byte b)) s in
    let own = own_kind b in rw own (omega arith)

pub some_left : (s : List ℕ) → (length s == 0) ≡ false → 0 < length s
some_left [] e = cc
some_left (b ∷ s) e = omega arith

pub run_shorter : (s rest : List ℕ) → (length s == 0) ≡ false → rest ≡ after_first_run s
    → length rest < length s
run_shorter s rest e r = let l = first_run_shortens s (some_left s e) in rw r l

after_shorter : (go : StateValue → Taken) (rest : List ℕ) (a : Outcome) (n : ℕ) → length rest < n
    → ((s : StateValue) → length (go s).rest < n) → length (after_run go rest a).rest < n
after_shorter go rest a n h g = test a.again (λ e. rw e (g a.state)) (λ e. rw e h)

within_shorter : (k : ℕ) (text : List ℕ) (s : StateValue) → 0 < length text
    → length (take_within k text s).rest < length text
within_shorter zero text s h = first_run_shortens text h
within_shorter (suc k) text s h =
    test (takes_all s) (λ e. rw e h)
    (λ e. rw e (after_shorter (take_within k text) (after_first_run text) (by_rules (first_token text) s) (length text)
    (first_run_shortens text h) (λ t. within_shorter k text t h)))

-- after its first part a text is shorter
pub part_shorter : (text : List ℕ) (s : StateValue) → 0 < length text
    → length (take_part text s).rest < length text
part_shorter text s h = within_shorter (turns s) text s h

put_nothing : (k : ℕ) (s : StateValue) → put_within k [] s ≡ s
put_nothing zero s = refl
put_nothing (suc k) s = refl

put_same : (j k : ℕ) (text : List ℕ) (s : StateValue) → length text ≤ j → length text ≤ k
    → put_within j text s ≡ put_within k text s
put_same j k [] s h g = put_nothing j s ∙ sym (put_nothing k s)
put_same zero k (b ∷ t) s h g = absurd (omega arith)
put_same (suc j) zero (b ∷ t) s h g = absurd (omega arith)
put_same (suc j) (suc k) (b ∷ t) s h g =
    let l = part_shorter (b ∷ t) s (omega arith) in
    put_same j k (take_part (b ∷ t) s).rest (take_part (b ∷ t) s).state (omega arith) (omega arith)

-- a text is its first part, and then the rest
pub put_part : (text : List ℕ) (s : StateValue) → 0 < length text
    → put_text text s ≡ put_text (take_part text s).rest (take_part text s).state
put_part [] s h = absurd (omega arith)
put_part (b ∷ t) s h =
    let l = part_shorter (b ∷ t) s h in
    put_same (length t) (length (take_part (b ∷ t) s).rest) (take_part (b ∷ t) s).rest (take_part (b ∷ t) s).state
    (omega arith) (omega arith)

-- one more part is put
pub put_more : (text rest : List ℕ) (s new all : StateValue) → 0 < length text
    → taken new rest ≡ take_part text s
    → put_text text s ≡ all → put_text rest new ≡ all
put_more text rest s new all h e r =
    ap (λ (t : Taken). put_text t.rest t.state) e ∙ sym (put_part text s h) ∙ r

pub rest_shorter : (text rest : List ℕ) (s new : StateValue) → 0 < length text
    → taken new rest ≡ take_part text s
    → length rest < length text
rest_shorter text rest s new h e =
    let same : rest ≡ (take_part text s).rest = ap (λ (t : Taken). t.rest) e in
    let l = part_shorter text s h in rw same l

-- ---- the turns of a part

-- what is left to take in a turn is what was at first
abbrev pub Takes : List ℕ → StateValue → StateValue → ℕ → ℕ → Type 0
Takes text first s turn all = (k : ℕ) → k + turn ≡ all → take_within k text s ≡ take_within all text first

where_all : (k : ℕ) (text : List ℕ) (s : StateValue) → takes_all s ≡ true
    → take_within (suc k) text s ≡ taken (table_text text s) []
where_all k text s e = rw e refl

elsewhere : (k : ℕ) (text : List ℕ) (s : StateValue) (a : Outcome) → takes_all s ≡ false
    → a ≡ by_rules (first_token text) s
    → take_within (suc k) text s ≡ after_run (take_within k text) (after_first_run text) a
elsewhere k text s a e f = rw e (ap (λ (x : Outcome). after_run (take_within k text) (after_first_run text) x) (sym f))

pub first_by_rules : (text part : List ℕ) (kind : RunKind) (s : StateValue) → kind ≡ first_kind text
    → part ≡ first_run text → by_rules (run kind part) s ≡ by_rules (first_token text) s
first_by_rules text part kind s k r =
    ap (λ (x : RunKind). by_rules (run x part) s) k
    ∙ ap (λ (x : List ℕ). by_rules (run (first_kind text) x) s) r

pub takes_first : (text : List ℕ) (s : StateValue) (all : ℕ) → Takes text s s 0 all
takes_first text s all k e = let same : k ≡ all = omega arith in ap (λ n. take_within n text s) same

pub takes_again : (text : List ℕ) (first s new : StateValue) (turn all : ℕ) → Takes text first s turn all
    → takes_all s ≡ false → outcome new true ≡ by_rules (first_token text) s
    → Takes text first new (turn + 1) all
takes_again text first s new turn all r e f k g =
    let more : suc k + turn ≡ all = omega arith in sym (elsewhere k text s (outcome new true) e f) ∙ r (suc k) more

pub takes_run : (text : List ℕ) (first s new : StateValue) (turn all : ℕ) → Takes text first s turn all
    → turn < all → takes_all s ≡ false → outcome new false ≡ by_rules (first_token text) s
    → taken new (after_first_run text) ≡ take_within all text first
takes_run text first s new turn all r l e f =
    let k = all - suc turn in
    let more : suc k + turn ≡ all = omega arith in sym (elsewhere k text s (outcome new false) e f) ∙ r (suc k) more

pub takes_text : (text : List ℕ) (first s : StateValue) (turn all : ℕ) → Takes text first s turn all
    → turn < all → takes_all s ≡ true → taken (table_text text s) [] ≡ take_within all text first
takes_text text first s turn all r l e =
    let k = all - suc turn in
    let more : suc k + turn ≡ all = omega arith in sym (where_all k text s e) ∙ r (suc k) more

pub takes_over : (text : List ℕ) (first s : StateValue) (turn all : ℕ) → Takes text first s turn all
    → turn ≡ all → taken s (after_first_run text) ≡ take_within all text first
takes_over text first s turn all r e = let none : 0 + turn ≡ all = omega arith in r 0 none
