-- The texts that handlers append, one handler after another.
use Rattle.std.proofs.Common.{◌++◌, ◌∷◌, [], ◌∙◌, ap, sym, map, take}
use Rattle.std.proofs.lemmas.List.{take_more, take_all, map-append}
use Rattle.htmd_walk.specs.Handling.{of_functions}
use Rattle.htmd_walk.specs.RegisteredHandlers.{handler_meaning}
use Rattle.htmd_walk.specs.Markdown.{append_text, append_texts}
use Rattle.htmd_walk.proofs.PassingLemmas.{append_texts-push}
use Rattle.htmd_walk.proofs.element_handler.element_handlers.ElementHandlersRegistry.append.Goals as goal

pub loop-handler-preserved : goal.loop-handler-preserved
loop-handler-preserved g c =
    c.in_ok-push_appended.ensures
    ∙ ap (λ s. s ++ append_text
    (((handler_meaning (λ b. of_functions ((goal.ElementHandler-dyn g (b.vtable, b.value)).plan_of b.value)
    ((goal.ElementHandler-dyn g (b.vtable, b.value)).finish_of b.value)
    ((goal.ElementHandler-dyn g (b.vtable, b.value)).append_of b.value))) c.handler-item.result).append
    c.args.links.now)) c.loop-handler.invariant
    ∙ sym (append_texts-push (map
    (handler_meaning (λ b. of_functions ((goal.ElementHandler-dyn g (b.vtable, b.value)).plan_of b.value)
    ((goal.ElementHandler-dyn g (b.vtable, b.value)).finish_of b.value)
    ((goal.ElementHandler-dyn g (b.vtable, b.value)).append_of b.value)))
    (take c.loop-handler.handler-index c.deref-handler-items.result.now))
    ((handler_meaning (λ b. of_functions ((goal.ElementHandler-dyn g (b.vtable, b.value)).plan_of b.value)
    ((goal.ElementHandler-dyn g (b.vtable, b.value)).finish_of b.value)
    ((goal.ElementHandler-dyn g (b.vtable, b.value)).append_of b.value))) c.handler-item.result) c.args.links.now)
    ∙ sym (ap (λ xs. append_texts xs c.args.links.now)
    (ap (map (handler_meaning (λ b. of_functions ((goal.ElementHandler-dyn g (b.vtable, b.value)).plan_of b.value)
    ((goal.ElementHandler-dyn g (b.vtable, b.value)).finish_of b.value)
    ((goal.ElementHandler-dyn g (b.vtable, b.value)).append_of b.value))))
    (take_more c.deref-handler-items.result.now c.loop-handler.handler-index c.handler-item.result
    c.loop-handler-test.true ∙ ap (λ x. take c.loop-handler.handler-index c.deref-handler-items.result.now ++ x
    ∷ []) (sym c.handler-item.is))
    ∙ map-append (handler_meaning
    (λ b. of_functions ((goal.ElementHandler-dyn g (b.vtable, b.value)).plan_of b.value)
    ((goal.ElementHandler-dyn g (b.vtable, b.value)).finish_of b.value)
    ((goal.ElementHandler-dyn g (b.vtable, b.value)).append_of b.value)))
    (take c.loop-handler.handler-index c.deref-handler-items.result.now) (c.handler-item.result ∷ [])))

pub returns : goal.returns
returns g c =
    c.loop-handler.invariant ∙ ap
    (λ xs. append_texts (map (handler_meaning
    (λ b. of_functions ((goal.ElementHandler-dyn g (b.vtable, b.value)).plan_of b.value)
    ((goal.ElementHandler-dyn g (b.vtable, b.value)).finish_of b.value)
    ((goal.ElementHandler-dyn g (b.vtable, b.value)).append_of b.value))) xs) c.args.links.now)
    (take_all c.loop-handler.handler-index c.deref-handler-items.result.now c.loop-handler-test.false
    ∙ c.deref-handler-items.ensures.value)
