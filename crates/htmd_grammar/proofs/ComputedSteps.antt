-- A text that is written out is read by computing its steps.
use Rattle.std.proofs.Common.{Bool, Err, List, Ok, [], ap, arith, false, length, refl, rules, subst, suc, sym, true}
use Rattle.std.proofs.Common.{zero, ℕ, ◌&&◌, ◌+◌, ◌<◌, ◌∙◌, ◌≡◌}
use Rattle.std.proofs.lemmas.Bool.Decides.{nat_tests}
use Rattle.std.specs.Prelude.{nat_le}
use Rattle.htmd_lexical.specs.Characters.{null}
use Rattle.htmd_lexical.specs.CharacterClasses.{is_empty, lacks}
use Rattle.htmd_grammar.specs.HtmlDocuments.{ReadsDocument, above_body, document_tree}
use Rattle.htmd_grammar.specs.Faults.{IsFault}
use Rattle.htmd_grammar.specs.Rules.{Rules, project}
use Rattle.htmd_grammar.specs.ReaderSteps.{Reaches, State, Step, finished, here, started, step, via}
use Rattle.htmd_values.specs.ValueTrees.{ValueForest, ValueTree}
use Rattle.htmd_grammar.specs.declared.fault.FaultKind.{FaultKind}
use Rattle.htmd_grammar.proofs.ViablePrefixes.{refused, sound_end}
use Rattle.htmd_grammar.proofs.RightFaults.{faults_are_right}

-- at most this many steps, up to a fault
abbrev go_on : State → (State → State) → Step → State
go_on st go (Ok a) = go a
go_on st go (Err kind) = st

abbrev pub steps : Rules → ℕ → State → State
steps rules zero st = st
steps rules (suc n) st = go_on st (steps rules n) (step rules above_body st)

pub steps_reach : (rules : Rules) (n : ℕ) (st : State) → Reaches rules above_body st (steps rules n st)
steps_reach rules zero st = here
steps_reach rules (suc n) st = first (step rules above_body st) refl (λ a. steps_reach rules n a)
  where
    first : (o : Step) → step rules above_body st ≡ o
        → ((a : State) → Reaches rules above_body a (steps rules n a))
        → Reaches rules above_body st (go_on st (steps rules n) o)
    first (Ok a) e go = via e (go a)
    first (Err kind) e go = here

-- the text denotes the document of this content
abbrev pub Denotes : Bool → List ℕ → ValueForest → Type 0
Denotes scripting s content = ReadsDocument (project scripting) s (document_tree s content)

pub denotes : (scripting : Bool) (s : List ℕ) (content : ValueForest) (n : ℕ) → lacks null s ≡ true
    → steps (project scripting) n (started s) ≡ finished content → Denotes scripting s content
denotes scripting s content n l e = (
  l,
  content,
  refl,
  sound_end (project scripting) s content
      (subst (λ (st : State). Reaches (project scripting) above_body (started s) st) e
      (steps_reach (project scripting) n (started s))),
)

-- ---- refusals

-- nothing is left, and no tag opened the innermost element
abbrev pub is_over : State → Bool
is_over st = is_empty st.rest && nat_le (length st.stack) 1

-- the text denotes no document, and this is why
abbrev pub Refuses : Rules → List ℕ → ℕ → FaultKind → Type 0
Refuses rules s place kind = ((t : ValueTree) → ReadsDocument rules s t → ⊥) × IsFault rules s place kind

pub refuses : (rules : Rules) (s : List ℕ) (place : ℕ) (kind : FaultKind) (n : ℕ) → lacks null s ≡ true
    → step rules above_body (steps rules n (started s)) ≡ Err kind → is_over (steps rules n (started s)) ≡ false
    → place + length (steps rules n (started s)).rest ≡ length s → Refuses rules s place kind
refuses rules s place kind n l e o p = (
  denies,
  faults_are_right rules s (steps rules n (started s)) kind place l reached e
      (not_over (steps rules n (started s)) o) p,
)
  where
    reached : Reaches rules above_body (started s) (steps rules n (started s))
    reached = steps_reach rules n (started s)

    not_over : (st : State) → is_over st ≡ false → st.rest ≡ [] → 1 < length st.stack
    not_over st o q = let z : nat_le (length st.stack) 1 ≡ false = rw q at o in grind (arith, nat_tests)

    denies : (t : ValueTree) → ReadsDocument rules s t → ⊥
    denies t h =
        refused rules s (steps rules n (started s)) kind reached e
        (λ content q. let z : is_over (steps rules n (started s)) ≡ true = ap is_over q in let y : true ≡ false =
        sym z
        ∙ o in cc)
        h.1 h.3
