use Rattle.std.proofs.Common.{◌≡◌, take, map, string_bytes}
use Rattle.htmd_walk.specs.Handling.{of_functions}
use Rattle.htmd_walk.specs.RegisteredHandlers.{handler_meaning}
use Rattle.htmd_walk.specs.Markdown.{append_texts}
use Rattle.htmd_walk.proofs.element_handler.element_handlers.ElementHandlersRegistry.append.Given as goal

abbrev pub invariant-loop-handler : goal.invariant-loop-handler
invariant-loop-handler g l =
    string_bytes l.all ≡ append_texts
    (map (handler_meaning (λ b. of_functions ((goal.ElementHandler-dyn g (b.vtable, b.value)).plan_of b.value)
    ((goal.ElementHandler-dyn g (b.vtable, b.value)).finish_of b.value)
    ((goal.ElementHandler-dyn g (b.vtable, b.value)).append_of b.value))) (take l.handler-index l.handler-items))
    l.links
