-- What elements and what is known of others stand for.
use Rattle.std.specs.Prelude.{drop}
use Rattle.htmd_lexical.specs.Attributes.{pairs_of}
use Rattle.htmd_selectors.specs.declared.matching.Element.{Element}
use Rattle.htmd_selectors.specs.declared.matching.Known.{Known}
use Rattle.htmd_selectors.specs.declared.matching.Place.{Place}
use Rattle.htmd_selectors.specs.Matching as spec
use Rattle.htmd_selectors.specs.SelectorStates as states

abbrev pub place_of : Place → spec.Place
place_of place = record {
  among_all = place.among_all;
  of_type = place.of_type;
  holds_nothing = place.holds_nothing;
  has_no_parent = place.has_no_parent;
}

abbrev pub element_of : Element → spec.Element
element_of e = record { name = e.name.now; attributes = pairs_of e.attrs.now; place = place_of e.place }

abbrev pub known_of : Known → states.Known
known_of known = record {
  parent = known.parent.now;
  beside = known.beside.items;
  before = known.before;
  types = drop known.before known.types.items;
  has_no_parent = known.has_no_parent;
}
