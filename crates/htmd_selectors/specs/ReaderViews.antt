-- What the reader of selectors stands for.
use Rattle.std.specs.Prelude.{◌≡◌, ℕ, map, Option, Some, None, Result, Err}
use Rattle.htmd_selectors.specs.declared.reader.Reader.{Reader}
use Rattle.htmd_selectors.specs.declared.selectors.SelectorError.{SelectorError}
use Rattle.htmd_selectors.specs.declared.selectors.SelectorError.TheVariants.{Memory, NoSelector, NoName, Unclosed}
use Rattle.htmd_selectors.specs.declared.selectors.SelectorError.TheVariants.{Unsupported}
use Rattle.htmd_selectors.specs.Reading.{Reading}
use Rattle.htmd_selectors.specs.Views.{condition_of, compounds_of, steps_of}

abbrev pub reading_of : Reader → Reading
reading_of r = record {
  steps = steps_of r.steps.items;
  relation = r.relation;
  name = r.name.items;
  operator = r.operator;
  word = r.word.items;
  escaped = r.escaped;
  escape = r.escape;
  digits = r.digits.items;
  group = r.group;
  compounds = compounds_of r.compounds.items;
  compound = map condition_of r.compound.items;
  position = r.position;
}

-- where a text is no selector
abbrev pub place_of : SelectorError → Option ℕ
place_of Memory = None
place_of (NoSelector place) = Some place
place_of (NoName place) = Some place
place_of (Unclosed place) = Some place
place_of (Unsupported place) = Some place

-- an error is out of memory, or that of the definition
abbrev pub IsFault : {A : Type 0} → Result A SelectorError → SelectorError → Type 0
IsFault r Memory = Unit {0}
IsFault r (NoSelector place) = r ≡ Err (NoSelector place)
IsFault r (NoName place) = r ≡ Err (NoName place)
IsFault r (Unclosed place) = r ≡ Err (Unclosed place)
IsFault r (Unsupported place) = r ≡ Err (Unsupported place)
