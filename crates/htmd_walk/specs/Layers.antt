-- A handler that stands in place of another.
use Rattle.std.specs.Prelude.{ℕ, Option, None, set}
use Rattle.htmd_walk.specs.Handling.{ElementView, ResultView, PlanView, HandlerMeaning, final_result}
use Rattle.htmd_walk.specs.Handling.{without_definitions}
use Rattle.htmd_walk.specs.Choice.{Config, handler_at}

-- the handler plans and finishes by these functions, and puts after a conversion what it did
abbrev pub with_functions :
    HandlerMeaning → (ElementView → PlanView) → (ElementView → ResultView → Option ResultView)
    → HandlerMeaning
with_functions handler plan finish = record {
  plan = plan;
  finish = λ view content definitions. without_definitions (finish view content);
  finish_each = λ view contents. final_result None;
  append = handler.append;
}

-- the handler at an index plans and finishes by these functions
abbrev pub put_at :
    Config → ℕ → (ElementView → PlanView) → (ElementView → ResultView → Option ResultView) → Config
put_at config index plan finish = record {
  options = config.options;
  handlers = set config.handlers index (with_functions (handler_at config.handlers index) plan finish);
  registered = config.registered;
}
