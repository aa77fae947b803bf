-- What a registered handler means.
use Rattle.std.specs.declared.dyn_box.DynBox.{DynBox}
use Rattle.std.specs.declared.alloc.Global.{Global}
use Rattle.htmd_walk.specs.declared.element_handler.element_handlers.Handler.{Handler}
use Rattle.htmd_walk.specs.declared.element_handler.element_handlers.Handler.TheVariants.{BuiltIn, Skipping, Custom}
use Rattle.htmd_walk.specs.Handling.{HandlerMeaning}
use Rattle.htmd_walk.specs.Choice.{no_handler}
use Rattle.htmd_walk.specs.BuiltIn.{meaning_of}

-- a handler's meaning, when a function names what a box means
abbrev pub handler_meaning : {X : Type 0} {F : X → Type 0} → (DynBox X Global F → HandlerMeaning) → Handler X F
    → HandlerMeaning
handler_meaning of_box (BuiltIn handler) = meaning_of handler
handler_meaning of_box Skipping = no_handler
handler_meaning of_box (Custom handler) = of_box handler
