-- The handlers of strong and b, and of em and i.
use Rattle.std.specs.Prelude.{Option}
use Rattle.htmd_markdown.specs.declared.emphasis.Emphasis.{Emphasis}
use Rattle.htmd_markdown.specs.Emphases.{emphasised_text}
use Rattle.htmd_walk.specs.Handling.{ResultView, HandlerMeaning, of_plan}
use Rattle.htmd_walk.specs.ElementPlans.{children_plan, optional_markdown}

abbrev pub emphasis_result : Emphasis → ResultView → Option ResultView
emphasis_result emphasis content = optional_markdown (emphasised_text emphasis content.content)

abbrev pub emphasis_of : Emphasis → HandlerMeaning
emphasis_of emphasis = of_plan children_plan (λ view content. emphasis_result emphasis content)
