-- The handler of p.
use Rattle.htmd_walk.specs.Handling.{HandlerMeaning, of_plan}
use Rattle.htmd_walk.specs.ElementPlans.{children_plan, wrapped_result}

abbrev pub paragraphs : HandlerMeaning
paragraphs = of_plan children_plan wrapped_result
