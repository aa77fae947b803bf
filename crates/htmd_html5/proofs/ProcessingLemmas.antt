-- What is processed by one set of rules, and again or not.
use Rattle.std.proofs.Common.{◌≡◌, ◌∙◌, ℕ, suc, ◌+◌, ◌-◌, ◌<◌, true, false, refl, ap, sym, arith}
use Rattle.htmd_html5_state.specs.State.{StateValue}
use Rattle.htmd_html5_state.specs.declared.modes.InsertionMode.{InsertionMode}
use Rattle.htmd_html5_state.specs.declared.modes.InsertionMode.TheVariants.{InBody}
use Rattle.htmd_html5.specs.Outcomes.{Outcome, outcome, done}
use Rattle.htmd_html5.specs.BodyStarts.{start_in_body}
use Rattle.htmd_html5.specs.Tokens.{StartTagValue, TokenValue, start_tag}
use Rattle.htmd_html5.specs.ForeignContent.{is_foreign, in_foreign_content}
use Rattle.htmd_html5.specs.Modes.{by_mode_rules, in_mode}
use Rattle.htmd_html5.specs.Processing.{by_rules, after_outcome, process_within, process, turns}

-- in foreign content or out of it
pub by_foreign : (token : TokenValue) (s : StateValue) → is_foreign token s ≡ true
    → by_rules token s ≡ in_foreign_content token s
by_foreign token s e = rw e refl

pub by_html : (token : TokenValue) (s : StateValue) → is_foreign token s ≡ false
    → by_rules token s ≡ by_mode_rules token s
by_html token s e = rw e refl

process_again : (k : ℕ) (token : TokenValue) (s new : StateValue) → outcome new true ≡ by_rules token s
    → process_within (suc k) token s ≡ process_within k token new
process_again k token s new e = ap (λ (a : Outcome). after_outcome (process_within k token) a) (sym e)

process_done : (k : ℕ) (token : TokenValue) (s new : StateValue) → outcome new false ≡ by_rules token s
    → process_within (suc k) token s ≡ new
process_done k token s new e = ap (λ (a : Outcome). after_outcome (process_within k token) a) (sym e)

-- what is left to process in a turn is what was at first
abbrev pub Rests : TokenValue → StateValue → StateValue → ℕ → ℕ → Type 0
Rests token first s turn all = (k : ℕ) → k + turn ≡ all
    → process_within k token s ≡ process_within all token first

pub rests_first : (token : TokenValue) (s : StateValue) (all : ℕ) → Rests token s s 0 all
rests_first token s all k e =
    let same : k ≡ all = omega arith in ap (λ n. process_within n token s) same

pub rests_again : (token : TokenValue) (first s new : StateValue) (turn all : ℕ) → Rests token first s turn all
    → outcome new true ≡ by_rules token s → Rests token first new (turn + 1) all
rests_again token first s new turn all r e k f =
    let more : suc k + turn ≡ all = omega arith in sym (process_again k token s new e) ∙ r (suc k) more

pub rests_done : (token : TokenValue) (first s new : StateValue) (turn all : ℕ) → Rests token first s turn all
    → turn < all → outcome new false ≡ by_rules token s → new ≡ process_within all token first
rests_done token first s new turn all r l e =
    let k = all - suc turn in
    let more : suc k + turn ≡ all = omega arith in sym (process_done k token s new e) ∙ r (suc k) more

pub rests_over : (token : TokenValue) (first s : StateValue) (turn all : ℕ) → Rests token first s turn all
    → turn ≡ all → s ≡ process_within all token first
rests_over token first s turn all r e = let none : 0 + turn ≡ all = omega arith in r 0 none

-- what is processed once
pub process_once : (token : TokenValue) (s new : StateValue) → outcome new false ≡ by_rules token s
    → new ≡ process token s
process_once token s new e =
    rests_done token s s new 0 (turns s) (rests_first token s (turns s)) (omega arith) e

-- start tags in the body are
pub started_in_body : (tag : StartTagValue) (s new : StateValue) → s.mode ≡ InBody
    → is_foreign (start_tag tag) s ≡ false → new ≡ start_in_body tag s
    → new ≡ process (start_tag tag) s
started_in_body tag s new m f e =
    process_once (start_tag tag) s new
    (sym (by_html (start_tag tag) s f ∙ ap (λ (i : InsertionMode). in_mode i (start_tag tag) s) m
    ∙ ap done (sym e)))
