-- What a registration stands for.
use Rattle.std.specs.Prelude.{string_bytes}
use Rattle.htmd_walk.specs.declared.element_handler.registrations.Registration.{Registration}
use Rattle.htmd_walk.specs.Choice.{TagIndex}

abbrev pub tag_index : Registration → TagIndex
tag_index r = record { tag = string_bytes r.tag; index = r.index }
