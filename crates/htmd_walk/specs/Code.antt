-- The handler of code.
use Rattle.std.specs.Prelude.{ℕ, Bool, false, not, ◌&&◌, ◌||◌, if◌then◌else◌, List, [], ◌∷◌, Option, Some, None, true}
use Rattle.std.specs.Prelude.{codes, drop, option_and_then, ◌==◌}
use Rattle.std.specs.List.{list_all, slice_split, starts_with}
use Rattle.std.specs.Option.{is_some, option_or}
use Rattle.htmd_lexical.specs.Characters.{space}
use Rattle.htmd_markdown.specs.CodeSpans.{code_span}
use Rattle.htmd_markdown.specs.Fences.{fenced_code_block}
use Rattle.htmd_markdown.specs.IndentedCode.{indented_code_block}
use Rattle.htmd_lexical.specs.AttributePairs.{AttributePair}
use Rattle.htmd_nodes.specs.Items.{Item, data_at, parent_at, children_of}
use Rattle.htmd_nodes.specs.Ancestors.{ancestor_of}
use Rattle.htmd_walk.specs.Handling.{ElementView, ResultView, PlanView, raw_html, content_of_children, HandlerMeaning}
use Rattle.htmd_walk.specs.Handling.{of_plan}
use Rattle.htmd_walk.specs.Outputs.{is_markdown_alone}
use Rattle.htmd_walk.specs.declared.options.CodeBlockStyle.{CodeBlockStyle}
use Rattle.htmd_walk.specs.declared.options.CodeBlockStyle.TheVariants.{Indented, Fenced}
use Rattle.htmd_walk.specs.Rendering.{is_text}
use Rattle.htmd_walk.specs.ElementPlans.{attributes_of, value_of, tag_at, parent_tag, is_raw_html_due, is_tag_among}
use Rattle.htmd_walk.specs.ElementPlans.{markdown_result}

-- ---- the language of a code block

-- the language that a class names
abbrev pub language_of_class : List ℕ → Option (List ℕ)
language_of_class class =
    if starts_with (λ a b. a == b) class (codes "language-") then Some (drop 9 class) else None

-- the first of the classes that names one
abbrev pub first_language : List (List ℕ) → Option (List ℕ)
first_language [] = None
first_language (class ∷ classes) = option_or (language_of_class class) (first_language classes)

-- classes stand between spaces
abbrev pub classes_of : List ℕ → List (List ℕ)
classes_of s = slice_split (λ b. b == space) s

-- the first class attribute counts
abbrev pub language_of : List AttributePair → Option (List ℕ)
language_of attributes = option_and_then (λ v. first_language (classes_of v)) (value_of (codes "class") attributes)

abbrev pub language_at : List Item → Option ℕ → Option (List ℕ)
language_at items None = None
language_at items (Some node) = language_of (ancestor_of (data_at items node)).attributes

-- the language that a node names if it is `pre`
unfoldable pub language_of_pre : List Item → Option ℕ → Option (List ℕ)
language_of_pre items node =
    if is_tag_among (codes "pre" ∷ []) (tag_at items node) then language_at items node else None

-- the language that the element names, else its parent
abbrev pub language : ElementView → Option (List ℕ)
language view = option_or (language_of (attributes_of view)) (language_at view.items (parent_at view.items view.node))

-- ---- code

-- right under pre it is a block, elsewhere a span
abbrev pub is_code_block : ElementView → Bool
is_code_block view = is_tag_among (codes "pre" ∷ []) (parent_tag view)

abbrev pub is_fenced : CodeBlockStyle → Bool
is_fenced Indented = false
is_fenced Fenced = true

-- a fence shows the language, which is an attribute
abbrev pub shows_language : ElementView → Bool
shows_language view =
    is_code_block view && is_fenced view.options.code_block_style && is_some (language view)

abbrev pub holds_texts_alone : ElementView → Bool
holds_texts_alone view = list_all (λ child. is_text (data_at view.items child)) (children_of view.items view.node)

-- in Faithful a child that isn't a text is more than code, and so are attributes that aren't shown
abbrev pub is_raw_code : ElementView → Bool
is_raw_code view =
    (not (is_markdown_alone view.options) && not (holds_texts_alone view))
    || is_raw_html_due view (if shows_language view then 1 else 0)

abbrev pub code_plan : ElementView → PlanView
code_plan view = if is_raw_code view then raw_html else content_of_children

abbrev pub code_block : CodeBlockStyle → ElementView → List ℕ → List ℕ
code_block Indented view s = indented_code_block s
code_block Fenced view s = fenced_code_block s (language view) view.options.code_block_fence

abbrev pub code_result : ElementView → ResultView → Option ResultView
code_result view content =
    markdown_result (if is_code_block view then code_block view.options.code_block_style view content.content
    else code_span view.options.preformatted_code content.content)

abbrev pub code : HandlerMeaning
code = of_plan code_plan code_result
