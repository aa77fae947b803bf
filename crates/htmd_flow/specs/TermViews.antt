-- What the source knows of the parts of a list of terms.
use Rattle.std.specs.Prelude.{◌≡◌, ◌||◌, Bool, if◌then◌else◌, List, [], ◌∷◌, ◌++◌, map, fold}
use Rattle.std.specs.List.{list_any}
use Rattle.htmd_shown.specs.Roles.{is_term, is_meaning}
use Rattle.htmd_flow.specs.declared.terms.TermItems as items
use Rattle.htmd_flow.specs.declared.terms.TermKinds.{TermKinds}
use Rattle.htmd_flow.specs.Contexts.{Context}
use Rattle.htmd_shown.specs.SimpleTrees as value
use Rattle.htmd_flow.specs.Flows.{TermPart, Terms, has_role, with_part, terms_of}
use Rattle.htmd_flow.specs.Flows.{item_with, onto_last}
use Rattle.htmd_flow.specs.Parts.{Part}
use Rattle.htmd_flow.specs.Paragraphs.{Writing, fed_all}
use Rattle.htmd_flow.specs.ParagraphViews.{writing_in}

abbrev pub kinds_of : List TermPart → TermKinds
kinds_of parts = record {
  has_terms = list_any (has_role is_term) parts;
  has_meanings = list_any (has_role is_meaning) parts;
}

-- with these parts
abbrev pub with_parts : TermKinds → List TermPart → TermKinds
with_parts kinds parts = record {
  has_terms = kinds.has_terms || list_any (has_role is_term) parts;
  has_meanings = kinds.has_meanings || list_any (has_role is_meaning) parts;
}

-- the parts that a child of a `dl` is
abbrev pub parts_at : value.Simple → List TermPart
parts_at tree = terms_of (value.more tree value.none)

-- the items are begun, and what comes before them was written after this
pub record AreBegun (before : Writing) (t : Terms) (after : Writing) (begun : items.TermItems) : Type 0 where
  pub out : after ≡ fed_all before t.before
  pub items : map writing_in begun.open.items ≡ t.items
  pub goes_on : begun.goes_on ≡ t.goes_on

-- parts were added
pub record AreAdded (context : Context) (parts : List TermPart) (before : Writing) (old : items.TermItems)
    (after : Writing) (new : items.TermItems) : Type 0 where
  pub has_meanings : new.has_meanings ≡ old.has_meanings
  pub terms : (w : Writing) (t : Terms) → AreBegun w t before old
      → AreBegun w (fold (with_part old.has_meanings context) t parts) after new

-- the items with parts of a term
abbrev pub with_term : Bool → List Writing → List Part → List Writing
with_term goes_on items parts = if goes_on then onto_last items parts else items ++ item_with parts ∷ []
