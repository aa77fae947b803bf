-- What selectors that are kept stand for.
use Rattle.std.specs.Prelude.{List, map, Option, option_map}
use Rattle.htmd_lexical.specs.declared.attribute.Attribute as lexical
use Rattle.htmd_lexical.specs.AttributePairs.{AttributePair}
use Rattle.htmd_lexical.specs.Attributes.{pairs_of}
use Rattle.htmd_selectors.specs.declared.selectors.Condition.{Condition}
use Rattle.htmd_selectors.specs.declared.selectors.Condition.TheVariants.{Any, Tag, Class, Id, Attribute}
use Rattle.htmd_selectors.specs.declared.selectors.Condition.TheVariants.{Value, First, Last, Only, Empty, Root, Nth}
use Rattle.htmd_selectors.specs.declared.selectors.Compound.{Compound}
use Rattle.htmd_selectors.specs.declared.selectors.Test.{Test}
use Rattle.htmd_selectors.specs.declared.selectors.Test.TheVariants.{Asks, Among}
use Rattle.htmd_selectors.specs.declared.selectors.Step.{Step}
use Rattle.htmd_selectors.specs.declared.selectors.Selectors.{Selectors}
use Rattle.htmd_selectors.specs.SelectorSteps as spec

abbrev pub condition_of : Condition → spec.Condition
condition_of Any = spec.is_any
condition_of (Tag name) = spec.is_type name.items
condition_of (Class class) = spec.has_class class.items
condition_of (Id id) = spec.has_id id.items
condition_of (Attribute name) = spec.has_attribute name.items
condition_of (Value name comparison value) = spec.has_value name.items comparison value.items
condition_of (First peers) = spec.is_first peers
condition_of (Last peers) = spec.is_last peers
condition_of (Only peers) = spec.is_only peers
condition_of Empty = spec.is_empty
condition_of Root = spec.is_root
condition_of (Nth row series) = spec.is_nth row series

abbrev pub compound_of : Compound → List spec.Condition
compound_of compound = map condition_of compound.conditions.items

abbrev pub compounds_of : List Compound → List (List spec.Condition)
compounds_of compounds = map compound_of compounds

abbrev pub test_of : Test → spec.Test
test_of (Asks condition) = spec.asks (condition_of condition)
test_of (Among negated compounds) = spec.among negated (compounds_of compounds.items)

abbrev pub step_of : Step → spec.Step
step_of step = record { relation = step.relation; test = test_of step.test }

abbrev pub steps_of : List Step → List spec.Step
steps_of steps = map step_of steps

-- the simple selectors that are kept
abbrev pub steps_in : Selectors → List spec.Step
steps_in selectors = steps_of selectors.steps.items

-- the attributes of a `pre`, if there is one
abbrev pub pre_of : Option (List lexical.Attribute) → Option (List AttributePair)
pre_of pre = option_map pairs_of pre
