-- What the reader does from piece to piece: one character or one reference at a time, the tests in the order of the
-- kinds of fault. So each fault is at the beginning of what is left.
use Rattle.std.specs.Prelude.{◌≡◌, ℕ, suc, Bool, true, false, not, ◌&&◌, ◌||◌, ◌==◌, nat_lt, if◌then◌else◌, List, []}
use Rattle.std.specs.Prelude.{◌∷◌, ◌++◌, length, map, drop, Option, Some, None, Result, Ok, Err, codes}
use Rattle.std.specs.List.{list_any, list_all}
use Rattle.std.specs.Str.{bytes_eq}
use Rattle.std.specs.Char.{to_ascii_lowercase}
use Rattle.htmd_lexical.specs.Characters.{exclamation_mark, slash, greater_than_sign, question_mark}
use Rattle.htmd_lexical.specs.WhiteSpace.{is_ascii_white_space}
use Rattle.htmd_lexical.specs.AttributePairs.{AttributePair}
use Rattle.htmd_values.specs.ValueTrees.{ValueTree, text, comment, element, ValueForest, none}
use Rattle.htmd_lexical.specs.CharacterClasses.{is_empty, first_is, begins_with, leading_run, behind_run, up_to, onward}
use Rattle.htmd_lexical.specs.CharacterClasses.{is_tag_name_byte, is_tag_name, are_distinct}
use Rattle.htmd_grammar.specs.Rules.{Rules}
use Rattle.htmd_grammar.specs.References.{Piece, stands, wrong, piece_at}
use Rattle.htmd_lexical.specs.Attributes.{attribute_names}
use Rattle.htmd_grammar.specs.Tags.{decode_values}
use Rattle.htmd_lexical.specs.LineEnds.{normalized}
use Rattle.htmd_grammar.specs.Comments.{before_comment_end, is_comment_text}
use Rattle.htmd_grammar.specs.RawContent.{holds_raw_text, ends_text, text_of, content_of}
use Rattle.htmd_grammar.specs.Nesting.{Context, parent_name, is_outside, is_row, holds_parts, is_allowed}
use Rattle.htmd_grammar.specs.HtmlDocuments.{body_text}
use Rattle.htmd_values.specs.Serialisation.{is_void}
use Rattle.htmd_lexical.specs.TagReading.{TagForm, no_form, form, form_within}
use Rattle.htmd_grammar.specs.declared.fault.FaultKind.{FaultKind}
use Rattle.htmd_grammar.specs.declared.fault.FaultKind.TheVariants.{MalformedTag, MalformedComment}
use Rattle.htmd_grammar.specs.declared.fault.FaultKind.TheVariants.{MalformedDeclaration, UnknownReference, BadNumber}
use Rattle.htmd_grammar.specs.declared.fault.FaultKind.TheVariants.{DuplicateAttribute, SelfClosing, TagOutside}
use Rattle.htmd_grammar.specs.declared.fault.FaultKind.TheVariants.{NotAllowedHere, StrayEndTag, StrayText, Unclosed}
use Rattle.htmd_grammar.specs.declared.fault.FaultKind.TheVariants.{ScriptEscape, TooDeep}
pub use Rattle.htmd_grammar.specs.OpenElements.{OpenElement, State, closed, end_tag_name_at, ends_rows}
pub use Rattle.htmd_grammar.specs.OpenElements.{fresh, has_unknown_reference, is_implied, is_unknown, names_of}
pub use Rattle.htmd_grammar.specs.OpenElements.{with_children, with_forest, with_tree, ◌+++◌}

abbrev pub Step : Type 0
Step = Result State FaultKind

abbrev pub fault : FaultKind → Step
fault kind = Err kind

-- between two pieces
abbrev pub between : List OpenElement → List ℕ → Step
between fs rest = Ok (record { stack = fs; run = []; rest = rest })

module _ (rules : Rules) (outer : Context) where
  -- the name of the innermost open element
  abbrev pub innermost : List OpenElement → List ℕ
  innermost fs = parent_name (names_of outer fs)

  abbrev pub is_too_deep : List OpenElement → Bool
  is_too_deep fs = nat_lt rules.depth (length (names_of outer fs))

  abbrev pub add : List OpenElement → ValueTree → List ℕ → Step
  add fs t rest = if is_too_deep fs then fault TooDeep else between (with_tree fs t) rest

  -- ---- text

  abbrev pub raw_text_step : List OpenElement → Option (List ℕ) → List ℕ → Step
  raw_text_step fs None rest = fault ScriptEscape
  raw_text_step fs (Some u) rest = add fs (text u) rest

  abbrev pub character_step : List OpenElement → List ℕ → List ℕ → Piece → Step
  character_step fs run s (wrong kind) = fault kind
  character_step fs run s (stands n v) =
      if holds_parts (innermost fs) && not (list_all is_ascii_white_space v) then fault StrayText
      else if is_too_deep fs then fault TooDeep
      else Ok (record { stack = fs; run = run ++ v; rest = drop n s })

  abbrev pub text_step : List OpenElement → List ℕ → List ℕ → Step
  text_step fs run [] = fault Unclosed
  text_step fs run (b ∷ s) = character_step fs run s (piece_at rules.names b s)

  -- ---- comments

  abbrev pub comment_step : List OpenElement → Option (List ℕ × List ℕ) → Step
  comment_step fs None = fault MalformedComment
  comment_step fs (Some p) = if is_comment_text p.0 then add fs (comment (normalized p.0)) p.1
      else fault MalformedComment

  abbrev pub declaration_step : List OpenElement → List ℕ → Step
  declaration_step fs s = if begins_with (codes "--") s then comment_step fs (before_comment_end (drop 2 s))
      else fault MalformedDeclaration

  -- ---- start tags

  -- an element opens, or there is a void one
  abbrev pub open_step : List OpenElement → List ℕ → List AttributePair → List ℕ → Step
  open_step fs n attributes rest =
      if not (is_allowed rules.scripting (names_of outer fs) n) then fault NotAllowedHere
      else if is_too_deep fs then fault TooDeep
      else if is_void n then between (with_tree fs (element n attributes none)) rest
      else between (fresh n attributes false ∷ fs) (content_of n rest)

  -- a row in a table implies a `tbody`
  abbrev pub place_step : List OpenElement → List ℕ → List AttributePair → List ℕ → Step
  place_step fs n attributes rest =
      if is_row n && bytes_eq (innermost fs) (codes "table")
      then (if is_too_deep fs then fault TooDeep
      else open_step (fresh (codes "tbody") [] true ∷ fs) n attributes rest)
      else open_step fs n attributes rest

  abbrev pub values_step : List OpenElement → List ℕ → List AttributePair → Bool → List ℕ
      → Option (List AttributePair)
      → Step
  values_step fs n spelled present rest None = fault BadNumber
  values_step fs n spelled present rest (Some attributes) =
      if not (are_distinct (attribute_names spelled)) then fault DuplicateAttribute
      else if present && not (is_void n) then fault SelfClosing
      else if is_outside n then fault TagOutside
      else place_step fs n attributes rest

  abbrev pub form_step : List OpenElement → List ℕ → TagForm → Step
  form_step fs n no_form = fault MalformedTag
  form_step fs n (form spelled present rest) =
      if list_any (λ a. has_unknown_reference rules.names a.value) spelled then fault UnknownReference
      else values_step fs n spelled present rest (decode_values rules.names spelled)

  abbrev pub start_tag_step : List OpenElement → List ℕ → Step
  start_tag_step fs s =
      if is_tag_name (leading_run is_tag_name_byte s)
      then form_step fs (map to_ascii_lowercase (leading_run is_tag_name_byte s))
      (form_within (suc (length (behind_run is_tag_name_byte s))) (behind_run is_tag_name_byte s))
      else fault MalformedTag

  -- ---- end tags

  -- the innermost open element, of this name, is closed; the outermost is none that a tag opened
  abbrev pub close_step : List OpenElement → List ℕ → List ℕ → Step
  close_step [] n rest = fault StrayEndTag
  close_step (f ∷ []) n rest = fault StrayEndTag
  close_step (f ∷ g ∷ fs) n rest = if bytes_eq f.name n then between (with_tree (g ∷ fs) (closed f)) rest
      else fault StrayEndTag

  -- after the name of an end tag
  abbrev pub name_step : List OpenElement → List ℕ → List ℕ → Step
  name_step fs n s =
      if first_is greater_than_sign (behind_run is_ascii_white_space s)
      then (if is_outside n then fault TagOutside else close_step fs n (drop 1 (behind_run is_ascii_white_space s)))
      else fault MalformedTag

  abbrev pub end_tag_step : List OpenElement → List ℕ → Step
  end_tag_step fs s =
      if is_tag_name (leading_run is_tag_name_byte s)
      then name_step fs (map to_ascii_lowercase (leading_run is_tag_name_byte s)) (behind_run is_tag_name_byte s)
      else fault MalformedTag

  -- ---- all of them

  -- after `<`
  abbrev pub markup_step : List OpenElement → List ℕ → Step
  markup_step fs [] = fault MalformedTag
  markup_step fs (c ∷ s) =
      if c == slash then end_tag_step fs s
      else if c == exclamation_mark then declaration_step fs s
      else if c == question_mark then fault MalformedDeclaration
      else start_tag_step fs (c ∷ s)

  -- an implied `tbody` is closed
  abbrev pub tbody_step : List OpenElement → List ℕ → Step
  tbody_step [] s = fault StrayEndTag
  tbody_step (f ∷ fs) s = between (with_tree fs (closed f)) s

  -- a text ends here
  abbrev pub is_text_end : List OpenElement → List ℕ → Bool
  is_text_end fs s = ends_text rules.scripting (innermost fs) s || is_empty s

  unfoldable pub step : State → Step
  step st =
      if not (is_empty st.run) && is_text_end st.stack st.rest then between (with_tree st.stack (text st.run)) st.rest
      else if is_implied st.stack && ends_rows st.rest then tbody_step st.stack st.rest
      else if ends_text rules.scripting (innermost st.stack) st.rest then markup_step st.stack (drop 1 st.rest)
      else if is_empty st.rest then fault Unclosed
      else if holds_raw_text rules.scripting (innermost st.stack)
      then raw_text_step st.stack
      (text_of rules (innermost st.stack) (up_to (ends_text rules.scripting (innermost st.stack)) st.rest))
      (onward (ends_text rules.scripting (innermost st.stack)) st.rest)
      else text_step st.stack st.run st.rest

  -- some steps lead from one state to the other
  pub data Reaches : State → State → Type 0 where
    here : {a : State} → Reaches a a
    via : {a b c : State} → step a ≡ Ok b → Reaches b c → Reaches a c

-- ---- a document

-- the `body`, which no tag opens
abbrev pub body : OpenElement
body = fresh (codes "body") [] false

abbrev pub started : List ℕ → State
started s = record { stack = body ∷ []; run = []; rest = body_text s }

abbrev pub finished : ValueForest → State
finished content = record { stack = with_children body content ∷ []; run = []; rest = [] }
