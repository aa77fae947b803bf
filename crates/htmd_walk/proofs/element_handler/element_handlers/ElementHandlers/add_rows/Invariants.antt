use Rattle.std.proofs.Common.{◌≡◌, map, drop}
use Rattle.htmd_walk.specs.Handling.{of_functions}
use Rattle.htmd_walk.specs.Registries.{config_of}
use Rattle.htmd_walk.specs.BuiltIn.{with_rows, row_of}
use Rattle.htmd_walk.proofs.element_handler.element_handlers.ElementHandlers.add_rows.Given as goal

-- the rows that are left, after those so far, give them all
abbrev pub invariant-loop-handler : goal.invariant-loop-handler
invariant-loop-handler g l =
    with_rows (map row_of (drop l.handler-index l.rows))
    (config_of (λ b. of_functions ((goal.ElementHandler-dyn g (b.vtable, b.value)).plan_of b.value)
    ((goal.ElementHandler-dyn g (b.vtable, b.value)).finish_of b.value)
    ((goal.ElementHandler-dyn g (b.vtable, b.value)).append_of b.value)) l.self)
    ≡ with_rows (map row_of l.rows)
    (config_of (λ b. of_functions ((goal.ElementHandler-dyn g (b.vtable, b.value)).plan_of b.value)
    ((goal.ElementHandler-dyn g (b.vtable, b.value)).finish_of b.value)
    ((goal.ElementHandler-dyn g (b.vtable, b.value)).append_of b.value)) l.fn.self)
