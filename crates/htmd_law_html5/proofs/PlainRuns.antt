-- A run of a text leaves a plain state plain.
use Rattle.std.proofs.Common.{◌≡◌, ℕ, true, List, [], ◌∷◌}
use Rattle.htmd_html5_state.specs.Nodes.{NodeValue, add_text}
use Rattle.htmd_html5_state.specs.Insertion.{place, insert_text}
use Rattle.htmd_html5_state.specs.State.{StateValue}
use Rattle.htmd_html5_state.specs.declared.modes.InsertionMode.{InsertionMode}
use Rattle.htmd_html5.specs.Tokens.{run}
use Rattle.htmd_html5.specs.Runs.{first_kind}
use Rattle.htmd_html5.specs.Outcomes.{Outcome}
use Rattle.htmd_html5.specs.InBody.{run_in_body}
use Rattle.htmd_html5.specs.Modes.{by_mode_rules}
use Rattle.htmd_html5.specs.ForeignContent.{is_foreign, replacements, run_in_foreign}
use Rattle.htmd_html5.specs.Processing.{by_rules}
use Rattle.htmd_law_html5.proofs.NodeTexts.{kinds}
use Rattle.htmd_law_html5.proofs.NamedKinds.{grows_text}
use Rattle.htmd_law_html5.proofs.TakingRuns.{by_first_kind}
use Rattle.htmd_law_html5.proofs.RunRules.{RunSteps, run_holds}
use Rattle.htmd_law_html5.proofs.PlainNames.{is_plain_element}
use Rattle.htmd_law_html5.proofs.PlainStates.{is_plain_mode, PlainAt, Stays, then_stays, still, plain_grown}
use Rattle.htmd_law_html5.proofs.PlainStates.{reconstruct_stays}
use Rattle.htmd_law_html5.proofs.HungStates.{hung_text}
use Rattle.htmd_law_html5.proofs.PlainRules.{StaysAnswer, says_plain, answers_either, fostered_stays}
use Rattle.htmd_law_html5.proofs.PlainRules.{no_frameset_stays}
use Rattle.htmd_law_html5.proofs.PlainModes.{leave_stays, plain_everywhere}

-- ---- texts are inserted

pub text_grows : (s : List ℕ) (at : _) (nodes : List NodeValue) (m : ℕ) → PlainAt (kinds nodes) m
    → PlainAt (kinds (add_text s at nodes)) m
text_grows s at nodes m p = (grows_text s at nodes).names is_plain_element m p

pub insert_text_stays : (s : List ℕ) → Stays (insert_text s)
insert_text_stays t =
    record { stays = λ s h. plain_grown (text_grows t (place s) s.nodes) h; hangs = λ s h x. hung_text t s x }

pub run_in_body_stays : (s t : List ℕ) → Stays (run_in_body (first_kind s) t)
run_in_body_stays s t =
    by_first_kind (λ kind. Stays (run_in_body kind t)) (then_stays (insert_text_stays t) reconstruct_stays) still
    (then_stays no_frameset_stays (then_stays (insert_text_stays t) reconstruct_stays)) s

-- ---- the modes

abbrev StaysIn : InsertionMode → (StateValue → Outcome) → Type 0
StaysIn mode f = is_plain_mode mode ≡ true → StaysAnswer f

run_steps : (t : List ℕ) → RunSteps StaysIn t
run_steps t = record {
  left_out = λ mode p. says_plain still;
  put = λ mode p. says_plain (insert_text_stays t);
  body = λ mode b p. says_plain (run_in_body_stays (b ∷ []) t);
  table = λ mode b p. says_plain (fostered_stays (run_in_body_stays (b ∷ []) t));
  leave = leave_stays;
}

by_mode_runs : (s t : List ℕ) → StaysAnswer (by_mode_rules (run (first_kind s) t))
by_mode_runs s t = plain_everywhere.by_mode (run (first_kind s) t) (λ mode. run_holds StaysIn t (run_steps t) mode s)

-- ---- foreign content

foreign_runs : (s t : List ℕ) → Stays (run_in_foreign (first_kind s) t)
foreign_runs s t =
    by_first_kind (λ kind. Stays (run_in_foreign kind t)) (insert_text_stays t) (insert_text_stays (replacements t))
    (then_stays no_frameset_stays (insert_text_stays t)) s

pub run_stays : (s t : List ℕ) → StaysAnswer (by_rules (run (first_kind s) t))
run_stays s t = answers_either (is_foreign (run (first_kind s) t)) (says_plain (foreign_runs s t)) (by_mode_runs s t)
