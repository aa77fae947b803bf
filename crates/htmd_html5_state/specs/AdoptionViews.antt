-- What the program's parts of the adoption agency algorithm are.
use Rattle.std.specs.Prelude.{◌≡◌, ℕ, Bool, true, false, not, ◌&&◌, [], ◌∷◌, ◌++◌, Some}
use Rattle.htmd_html5_state.specs.Names.{ElementNameValue}
use Rattle.htmd_html5_state.specs.OpenElements.{is_empty}
use Rattle.htmd_html5_state.specs.State.{StateValue}
use Rattle.htmd_html5_state.specs.Insertion.{current, opened}
use Rattle.htmd_html5_state.specs.Adoption.{Chain, Round, last_round, goes_on, or_first, node_is}
use Rattle.htmd_html5_state.specs.FormattingViews.{is_newest}
use Rattle.htmd_html5_state.specs.declared.names.TagName.{TagName}
use Rattle.htmd_html5_state.specs.OpenViews.{all_open_of}
use Rattle.htmd_html5_state.specs.declared.adoption.Chain.{Chain as ChainParts}

-- with the state that was left
abbrev pub chain_of : ChainParts → StateValue → Chain
chain_of c s = record { state = s; copies = all_open_of c.copies.items; last = c.last; bookmark = c.bookmark }

-- the answer says whether the next round follows
abbrev pub round_of_answer : Bool → StateValue → Round
round_of_answer true s = goes_on s
round_of_answer false s = last_round s

-- a copy was added
pub record IsCopyAdded (old new : ChainParts) (node : ℕ) (name : ElementNameValue) : Type 0 where
  pub copies : all_open_of new.copies.items ≡ all_open_of old.copies.items ++ opened node name ∷ []
  pub last : new.last ≡ node
  pub bookmark : new.bookmark ≡ Some (or_first old.bookmark node)

-- the current node is the newest on the list and has this name, as where elements are closed in order
abbrev pub closes_newest : TagName → StateValue → Bool
closes_newest tag s =
    (not (is_empty s.stack) && is_newest (current s.stack).node s.formatting)
    && node_is s.nodes tag (current s.stack).node
