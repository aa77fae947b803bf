use Rattle.std.proofs.Common.{refl}
use Rattle.htmd_walk.specs.Handling.{of_functions}
use Rattle.htmd_walk.proofs.HandlersStayLemmas.{handlers-stay}
use Rattle.htmd_walk.proofs.element_handler.element_handlers.ElementHandlersRegistry.options.Goals as goal

pub returns-clause-stay : goal.returns-clause-stay
returns-clause-stay g c =
    handlers-stay (λ b. of_functions ((goal.ElementHandler-dyn g (b.vtable, b.value)).plan_of b.value)
    ((goal.ElementHandler-dyn g (b.vtable, b.value)).finish_of b.value)
    ((goal.ElementHandler-dyn g (b.vtable, b.value)).append_of b.value))
    (λ b view content definitions others e. refl) c.args.self.now.handlers.items
