-- The handler of the block elements that have no other one.
use Rattle.htmd_walk.specs.Handling.{HandlerMeaning, of_plan}
use Rattle.htmd_walk.specs.ElementPlans.{unless_faithful, wrapped_result}

-- in Faithful they are raw HTML
abbrev pub other_blocks : HandlerMeaning
other_blocks = of_plan unless_faithful wrapped_result
