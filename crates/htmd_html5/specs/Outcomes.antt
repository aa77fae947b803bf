-- The outcome of a token in a mode: the new state, and whether the token is to be processed again.
use Rattle.std.specs.Prelude.{Bool, true, false}
use Rattle.htmd_html5_state.specs.State.{StateValue}

pub record Outcome : Type 0 where
  pub state : StateValue
  pub again : Bool

abbrev pub outcome : StateValue → Bool → Outcome
outcome s again = record { state = s; again = again }

abbrev pub done : StateValue → Outcome
done s = outcome s false

abbrev pub again : StateValue → Outcome
again s = outcome s true
