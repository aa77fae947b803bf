-- A beginning of a text that reads as whole pieces by itself, with the elements that are open at its end. It may cut
-- a character or reference of the text in two (`&am` is itself a text): there is no refusal there (`faults_are_one`).
use Rattle.std.specs.Prelude.{◌≡◌, ◌⊎◌, ℕ, ◌≤◌, Bool, true, false, ◌&&◌, if◌then◌else◌, List, [], ◌∷◌, ◌++◌, length}
use Rattle.std.specs.Prelude.{codes}
use Rattle.htmd_values.specs.ValueTrees.{text, ValueForest, none, more}
use Rattle.htmd_lexical.specs.CharacterClasses.{is_empty}
use Rattle.htmd_grammar.specs.Rules.{Rules}
use Rattle.htmd_grammar.specs.Tags.{IsStartTag}
use Rattle.htmd_grammar.specs.RawContent.{content_of}
use Rattle.htmd_grammar.specs.Nesting.{Context, is_table_part, is_tbody, is_allowed}
use Rattle.htmd_grammar.specs.Grammar.{begins_with_row, ReadsForest, reads}
use Rattle.htmd_grammar.specs.HtmlDocuments.{above_body, below_body}
use Rattle.htmd_values.specs.Serialisation.{is_void, end_tag}
use Rattle.htmd_grammar.specs.ReaderSteps.{OpenElement, names_of, closed, with_children, ends_rows, ◌+++◌}

-- whether an implied `tbody` may end before this element
abbrev pub ends_at : OpenElement → Bool
ends_at f = if f.implied then false else is_table_part f.name

module _ (rules : Rules) (outer : Context) where
  -- the text, which is empty for an implied element, opens it
  abbrev pub Opens : Context → OpenElement → List ℕ → Type 0
  Opens c f tag =
      (is_allowed rules.scripting c f.name ≡ true) × (length c ≤ rules.depth)
      × (((f.implied ≡ false) × IsStartTag rules.names tag f.name f.attributes × (is_void f.name ≡ false))
      ⊎ ((f.implied ≡ true) × (tag ≡ []) × (is_tbody f.name ≡ true) × (f.attributes ≡ [])))

  -- The text opens these elements, innermost first, which hold what they have so far.
  -- The flag says whether an implied `tbody` may end where the text ends.
  abbrev pub IsFront : Bool → List OpenElement → List ℕ → Type 0
  IsFront last [] s = ⊥
  IsFront last (f ∷ []) s = (f.implied ≡ false) × ReadsForest rules (f.name ∷ outer) last f.children s
      × (f.name ≡ codes "body") × (f.attributes ≡ [])
  IsFront last (f ∷ g ∷ fs) s =
      (before tag inner : List ℕ) × (s ≡ before ++ (tag ++ inner)) × IsFront (ends_at f) (g ∷ fs) before
      × Opens (names_of outer (g ∷ fs)) f tag
      × ReadsForest rules (names_of outer (f ∷ g ∷ fs)) last f.children (content_of f.name inner)
      × (g.implied ≡ true → begins_with_row (g.children +++ more (closed f) none) ≡ true)

  -- the content of the innermost element so far
  abbrev pub content_so_far : (f : OpenElement) (fs : List OpenElement) (last : Bool) (s : List ℕ)
      → IsFront last (f ∷ fs) s → List ℕ
  content_so_far f [] last s h = []
  content_so_far f (g ∷ fs) last s h = h.2

-- the innermost element, with the text so far
abbrev pub with_text : OpenElement → List ℕ → OpenElement
with_text f run = if is_empty run then f else with_children f (more (text run) none)

-- what follows has no line feed that the element would drop
abbrev pub IsKept : List ℕ → List ℕ → List ℕ → Type 0
IsKept n inner behind = content_of n (inner ++ behind) ≡ content_of n inner ++ behind

-- the end tags of the open elements, except for the outermost, which no text closes
abbrev pub end_tags : List OpenElement → List ℕ
end_tags [] = []
end_tags (f ∷ []) = []
end_tags (f ∷ g ∷ fs) = end_tag f.name ++ end_tags (g ∷ fs)

-- The beginning of the content of a document is whole pieces of it, and its end tags make a text of the grammar of it.
pub record IsViablePrefix (rules : Rules) (f : OpenElement) (fs : List OpenElement) (before behind : List ℕ) : Type 0
  where
    pub pieces : IsFront rules above_body (ends_rows behind) (f ∷ fs) before
    -- a row has begun an implied `tbody`
    pub rows : f.implied ≡ true → begins_with_row f.children ≡ true
    -- an implied `tbody` that ends there is closed
    pub no_more_rows : (f.implied && ends_rows behind) ≡ false
    -- a line feed that is dropped is before the place
    pub dropped : f.children ≡ none
        → IsKept f.name (content_so_far rules above_body f fs (ends_rows behind) before pieces) behind
    pub complete : (ts : ValueForest) × reads rules below_body (before ++ end_tags (f ∷ fs)) ts
