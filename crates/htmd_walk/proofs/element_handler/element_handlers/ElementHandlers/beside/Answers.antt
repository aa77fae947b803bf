-- Before the first row there are no handlers.
use Rattle.htmd_walk.proofs.element_handler.element_handlers.ElementHandlers.beside.Goals as goal

pub returns : goal.returns
returns g c = rw (c.new.ensures.items, c.new-2.ensures) at c.in_ok-add_rows.ensures
