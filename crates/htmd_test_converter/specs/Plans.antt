-- What the handlers of the tests ask for.
use Rattle.std.specs.Prelude.{ℕ, zero, suc, true, ◌==◌, if◌then◌else◌, List, [], ◌∷◌, Option, Some, None, codes}
use Rattle.htmd_nodes.specs.Items.{Item, children_of}
use Rattle.htmd.specs.Handling.{ElementView, PlanView, nothing, this_result, content_of_descendant, content_of_fallback}
use Rattle.htmd.specs.ElementPlans.{attributes_of, value_of}

-- this text, if there is one
abbrev pub plan_of_text : Option (List ℕ) → PlanView
plan_of_text None = nothing
plan_of_text (Some s) = this_result (record { content = s; markdown_translated = true })

-- the content of the first of these nodes, if there is one
abbrev pub plan_of_first : List ℕ → PlanView
plan_of_first [] = nothing
plan_of_first (d ∷ nodes) = content_of_descendant d

-- the first of these nodes, and this one if there are none
abbrev pub first_or : List ℕ → ℕ → ℕ
first_or [] node = node
first_or (d ∷ nodes) node = d

-- where this many steps to a first child lead; a node without children is not left
abbrev pub down : List Item → ℕ → ℕ → ℕ
down items zero node = node
down items (suc n) node = down items n (first_or (children_of items node) node)

-- the content of a node below another, if it isn't that one
abbrev pub plan_of_below : ℕ → ℕ → PlanView
plan_of_below node d = if d == node then nothing else content_of_descendant d

-- what the handler before gives, if there is a value
abbrev pub plan_of_value : Option (List ℕ) → PlanView
plan_of_value None = nothing
plan_of_value (Some value) = content_of_fallback

-- what the handler before gives, if there is an attribute `id`
abbrev pub plan_with_id : ElementView → PlanView
plan_with_id view = plan_of_value (value_of (codes "id") (attributes_of view))
