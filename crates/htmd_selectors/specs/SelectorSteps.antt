-- Selectors as their simple selectors in order, each with its relation to the one before it: `main > p.note, nav` is
-- `main`, then `p` of a child, then `.note` of the same element, then `nav`, which begins a selector of its own.
use Rattle.std.specs.Prelude.{ℕ, Bool, List}
use Rattle.htmd_selectors.specs.declared.selectors.Comparison.{Comparison}
use Rattle.htmd_selectors.specs.declared.selectors.Peers.{Peers}
use Rattle.htmd_selectors.specs.declared.selectors.Row.{Row}
use Rattle.htmd_selectors.specs.declared.selectors.Relation.{Relation}
use Rattle.htmd_selectors.specs.declared.series.Series.{Series}

-- what a simple selector asks of an element (Selectors Level 4, 5, 6 and 14)
pub data Condition : Type 0 where
  is_any : Condition
  is_type : (name : List ℕ) → Condition
  has_class : (class : List ℕ) → Condition
  has_id : (id : List ℕ) → Condition
  has_attribute : (name : List ℕ) → Condition
  has_value : (name : List ℕ) (comparison : Comparison) (value : List ℕ) → Condition
  is_first is_last is_only : (peers : Peers) → Condition
  is_empty is_root : Condition
  is_nth : (row : Row) (series : Series) → Condition

-- what a step asks of an element: a condition; or that one of these compounds matches, each of which is conditions that
-- all have to be met, or that none of them does (`:is()` and `:not()`, Selectors Level 4, 4.2 and 4.3)
pub data Test : Type 0 where
  asks : (condition : Condition) → Test
  among : (negated : Bool) (compounds : List (List Condition)) → Test

-- a simple selector, and how it stands to the one before it
pub record Step : Type 0 where
  pub relation : Relation
  pub test : Test
