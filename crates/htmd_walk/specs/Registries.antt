-- What a registry means.
use Rattle.std.specs.Prelude.{map}
use Rattle.std.specs.declared.dyn_box.DynBox.{DynBox}
use Rattle.std.specs.declared.alloc.Global.{Global}
use Rattle.htmd_walk.specs.declared.element_handler.element_handlers.ElementHandlers.{ElementHandlers}
use Rattle.htmd_walk.specs.Handling.{HandlerMeaning}
use Rattle.htmd_walk.specs.Choice.{Config}
use Rattle.htmd_walk.specs.TagIndexes.{tag_index}
use Rattle.htmd_walk.specs.RegisteredHandlers.{handler_meaning}

abbrev pub config_of : {X : Type 0} {F : X → Type 0} → (DynBox X Global F → HandlerMeaning)
    → ElementHandlers X F
    → Config
config_of of_box registry = record {
  options = registry.options;
  handlers = map (handler_meaning of_box) registry.handlers.items;
  registered = map tag_index registry.registered.all.items;
}
