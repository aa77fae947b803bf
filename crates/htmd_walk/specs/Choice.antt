-- Which handlers a tag has.
use Rattle.std.specs.Prelude.{ℕ, List, [], ◌∷◌, ◌++◌, None, if◌then◌else◌, length, map, slice_index_or}
use Rattle.std.specs.Str.{bytes_eq}
use Rattle.htmd_walk.specs.declared.options.Options.{Options}
use Rattle.htmd_walk.specs.Handling.{HandlerMeaning, nothing, of_plan}

-- a tag, and the index of a handler that is registered for it
pub record TagIndex : Type 0 where
  pub tag : List ℕ
  pub index : ℕ

-- what a registry means: its handlers and its registrations in order, and the options
pub record Config : Type 0 where
  pub options : Options
  pub handlers : List HandlerMeaning
  pub registered : List TagIndex

-- the indexes of a tag's handlers, the newest first; repeats are kept
abbrev pub indexes : List ℕ → List TagIndex → List ℕ
indexes tag [] = []
indexes tag (r ∷ rs) = indexes tag rs ++ (if bytes_eq r.tag tag then r.index ∷ [] else [])

-- a handler that gives nothing
abbrev pub no_handler : HandlerMeaning
no_handler = of_plan (λ view. nothing) (λ view content. None)

abbrev pub handler_at : List HandlerMeaning → ℕ → HandlerMeaning
handler_at handlers index = slice_index_or handlers index no_handler

abbrev pub handlers_at : List HandlerMeaning → List ℕ → List HandlerMeaning
handlers_at handlers [] = []
handlers_at handlers (index ∷ indexes) = handler_at handlers index ∷ handlers_at handlers indexes

abbrev pub tag_at : ℕ → List ℕ → TagIndex
tag_at index tag = record { tag = tag; index = index }

-- each of these tags, and the index
abbrev pub tags_at : ℕ → List (List ℕ) → List TagIndex
tags_at index tags = map (tag_at index) tags

-- a handler is asked first for these tags from now on
abbrev pub with_handler : Config → List (List ℕ) → HandlerMeaning → Config
with_handler config tags handler = record {
  options = config.options;
  handlers = config.handlers ++ handler ∷ [];
  registered = config.registered ++ tags_at (length config.handlers) tags;
}

-- the same handlers with other options
abbrev pub with_options : Config → Options → Config
with_options config options = record {
  options = options;
  handlers = config.handlers;
  registered = config.registered;
}
