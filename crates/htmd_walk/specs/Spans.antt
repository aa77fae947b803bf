-- The handler of span.
use Rattle.std.specs.Prelude.{ℕ, Bool, if◌then◌else◌, List, [], ◌∷◌, ◌++◌, Option, Some, None, codes}
use Rattle.std.specs.Option.{is_some}
use Rattle.std.specs.Str.{bytes_eq}
use Rattle.htmd_text.specs.Trims.{trimmed_text, is_line_feed}
use Rattle.htmd_lexical.specs.AttributePairs.{AttributePair}
use Rattle.htmd_walk.specs.Handling.{ElementView, ResultView, PlanView, HandlerMeaning, of_plan}
use Rattle.htmd_walk.specs.OrdinaryText.{in_pre_or_code}
use Rattle.htmd_walk.specs.ElementPlans.{attributes_of, ancestors_of, unless_faithful, markdown_plan}

abbrev pub is_span : List ℕ → Bool
is_span name = bytes_eq name (codes "span")

-- the mark on both sides of a formula of this class
abbrev pub mark_of_class : List ℕ → Option (List ℕ)
mark_of_class class =
    if bytes_eq class (codes "math math-inline") then Some (codes "$")
    else (if bytes_eq class (codes "math math-display") then Some (codes "$$") else None)

-- if the class is the only attribute
abbrev pub formula_mark : List AttributePair → Option (List ℕ)
formula_mark [] = None
formula_mark (a ∷ []) = if bytes_eq a.name (codes "class") then mark_of_class a.value else None
formula_mark (a ∷ b ∷ attributes) = None

abbrev pub has_math_class : List AttributePair → Bool
has_math_class attributes = is_some (formula_mark attributes)

-- a formula is the text of the only child, unescaped, between its marks
abbrev pub formula_plan : ElementView → Option (List ℕ) → Option (List ℕ) → PlanView
formula_plan view None text = unless_faithful view
formula_plan view (Some mark) None = unless_faithful view
formula_plan view (Some mark) (Some text) = markdown_plan ((mark ++ text) ++ mark)

-- else the content, without line feeds at its ends unless it is preformatted
abbrev pub span_result : ElementView → ResultView → Option ResultView
span_result view content = Some (record {
  content =
      if in_pre_or_code (ancestors_of view) then content.content
      else trimmed_text is_line_feed content.content;
  markdown_translated = content.markdown_translated;
})

abbrev pub spans : HandlerMeaning
spans = of_plan (λ view. formula_plan view (formula_mark (attributes_of view)) view.text) span_result
