-- The steps of tags: what each test decides, and that what is left doesn't grow.
use Rattle.std.proofs.Common.{◌≡◌, ℕ, suc, ◌≤◌, Bool, true, false, not, ◌&&◌, cond, List, [], ◌∷◌, length, map, drop}
use Rattle.std.proofs.Common.{refl, sym, ◌∙◌, ap, arith, Option, Some, None, Result, Ok, Err, length-drop}
use Rattle.std.specs.Prelude.{codes, ⊤}
use Rattle.std.specs.List.{list_any}
use Rattle.std.specs.Str.{bytes_eq}
use Rattle.std.specs.Char.{to_ascii_lowercase}
use Rattle.htmd_lexical.proofs.Cases.{test}
use Rattle.htmd_lexical.specs.Characters.{line_feed}
use Rattle.htmd_lexical.specs.WhiteSpace.{is_ascii_white_space}
use Rattle.htmd_lexical.specs.AttributePairs.{AttributePair}
use Rattle.htmd_values.specs.ValueTrees.{ValueTree, element, none}
use Rattle.htmd_lexical.specs.CharacterClasses.{first_is, leading_run, behind_run, is_tag_name, is_tag_name_byte}
use Rattle.htmd_lexical.specs.CharacterClasses.{are_distinct}
use Rattle.htmd_grammar.specs.Rules.{Rules, project, named_characters}
use Rattle.htmd_grammar.specs.References.{Piece, stands, wrong, piece_at, less_line_feed, after_line_feed}
use Rattle.htmd_lexical.specs.Attributes.{attribute_names}
use Rattle.htmd_grammar.specs.Tags.{decode_values}
use Rattle.htmd_grammar.specs.RawContent.{drops_line_feed, content_of}
use Rattle.htmd_grammar.specs.Nesting.{Context, is_outside, is_row, is_allowed}
use Rattle.htmd_values.specs.Serialisation.{is_void}
use Rattle.htmd_lexical.specs.TagReading.{TagForm, form, form_within}
use Rattle.htmd_grammar.specs.OpenElements.{has_unknown_reference}
use Rattle.htmd_grammar.specs.ReaderSteps.{OpenElement, Step, fault, between, fresh, with_tree, names_of, innermost}
use Rattle.htmd_grammar.specs.ReaderSteps.{is_too_deep, add, open_step, place_step, values_step, form_step}
use Rattle.htmd_grammar.specs.ReaderSteps.{start_tag_step}
use Rattle.htmd_grammar.specs.ReaderSteps.{close_step, end_tag_step, markup_step}
use Rattle.htmd_grammar.specs.declared.fault.FaultKind.{FaultKind}
use Rattle.htmd_grammar.specs.declared.fault.FaultKind.TheVariants.{MalformedTag, SelfClosing, TagOutside}
use Rattle.htmd_tree.specs.TagParts.{read_attributes, distinct_attributes, fault_of_name}

-- ---- a start tag

module _ (scripting : Bool) (outer : Context) (fs : List OpenElement) where
  abbrev pub named_step : List ℕ → List AttributePair → List ℕ → Option FaultKind → Step
  named_step n attributes rest (Some kind) = fault kind
  named_step n attributes rest None = place_step (project scripting) outer fs n attributes rest

  -- a start tag, once its attributes have been read
  abbrev pub attributes_step : List ℕ → Bool → List ℕ → Result (List AttributePair) FaultKind → Step
  attributes_step n present rest (Err kind) = fault kind
  attributes_step n present rest (Ok attributes) = named_step n attributes rest (fault_of_name n present)

  name_is : (n : List ℕ) (attributes : List AttributePair) (present : Bool) (rest : List ℕ)
      → cond (present && not (is_void n)) (fault SelfClosing) (cond (is_outside n) (fault TagOutside)
      (place_step (project scripting) outer fs n attributes rest))
      ≡ named_step n attributes rest (fault_of_name n present)
  name_is n attributes present rest =
      test (present && not (is_void n)) (λ e. rw e refl)
      (λ e. test (is_outside n) (λ f. rw (e, f) refl) (λ f. rw (e, f) refl))

  values_are : (n : List ℕ) (spelled : List AttributePair) (present : Bool) (rest : List ℕ)
      (values : Option (List AttributePair)) → values_step (project scripting) outer fs n spelled present rest values
      ≡ attributes_step n present rest (distinct_attributes spelled values)
  values_are n spelled present rest None = refl
  values_are n spelled present rest (Some attributes) =
      test (are_distinct (attribute_names spelled)) (λ e. rw e (name_is n attributes present rest)) (λ e. rw e refl)

  pub form_is : (n : List ℕ) (spelled : List AttributePair) (present : Bool) (rest : List ℕ)
      → form_step (project scripting) outer fs n (form spelled present rest)
      ≡ attributes_step n present rest (read_attributes spelled)
  form_is n spelled present rest =
      test (list_any (λ a. has_unknown_reference named_characters a.value) spelled) (λ e. rw e refl)
      (λ e. rw e (values_are n spelled present rest (decode_values named_characters spelled)))

  -- no letter
  pub start_without_name : (s : List ℕ) → is_tag_name (leading_run is_tag_name_byte s) ≡ false
      → start_tag_step (project scripting) outer fs s ≡ fault MalformedTag
  start_without_name s e = rw e refl

  pub start_named : (s name behind : List ℕ) (f : TagForm) → is_tag_name (leading_run is_tag_name_byte s) ≡ true
      → name ≡ leading_run is_tag_name_byte s → behind ≡ behind_run is_tag_name_byte s
      → form_within (suc (length behind)) behind ≡ f
      → start_tag_step (project scripting) outer fs s
      ≡ form_step (project scripting) outer fs (map to_ascii_lowercase name) f
  start_named s name behind f e n b g =
      let h : form_within (suc (length (behind_run is_tag_name_byte s))) (behind_run is_tag_name_byte s) ≡ f =
      ap (λ (x : List ℕ). form_within (suc (length x)) x) (sym b) ∙ g in
      rw (e, n, h) refl

  -- the tag has its form, and these attributes
  pub start_read : (s name lowered behind : List ℕ) (spelled : List AttributePair) (present : Bool) (rest : List ℕ)
      (attributes : Result (List AttributePair) FaultKind)
      → is_tag_name (leading_run is_tag_name_byte s) ≡ true
      → name ≡ leading_run is_tag_name_byte s → behind ≡ behind_run is_tag_name_byte s
      → form_within (suc (length behind)) behind ≡ form spelled present rest
      → lowered ≡ map to_ascii_lowercase name
      → read_attributes spelled ≡ attributes
      → start_tag_step (project scripting) outer fs s ≡ attributes_step lowered present rest attributes
  start_read s name lowered behind spelled present rest attributes e n b g w r =
      start_named s name behind (form spelled present rest) e n b g
      ∙ (form_is (map to_ascii_lowercase name) spelled present rest
      ∙ (ap (attributes_step (map to_ascii_lowercase name) present rest) r
      ∙ ap (λ (x : List ℕ). attributes_step x present rest attributes) (sym w)))

  -- ---- an end tag

  pub end_without_name : (s : List ℕ) → is_tag_name (leading_run is_tag_name_byte s) ≡ false
      → end_tag_step (project scripting) outer fs s ≡ fault MalformedTag
  end_without_name s e = rw e refl

  pub end_named : (s name behind end_ : List ℕ) → is_tag_name (leading_run is_tag_name_byte s) ≡ true
      → name ≡ leading_run is_tag_name_byte s → behind ≡ behind_run is_tag_name_byte s
      → end_ ≡ behind_run is_ascii_white_space behind
      → end_tag_step (project scripting) outer fs s ≡ cond (first_is 62 end_)
      (cond (is_outside (map to_ascii_lowercase name)) (fault TagOutside)
      (close_step (project scripting) outer fs (map to_ascii_lowercase name) (drop 1 end_))) (fault MalformedTag)
  end_named s name behind end_ e n b g = rw (e, g, n, b) refl

  -- ---- markup

  pub end_tag_begins : (s name : List ℕ) → first_is 47 s ≡ true → name ≡ drop 1 s
      → markup_step (project scripting) outer fs s ≡ end_tag_step (project scripting) outer fs name
  end_tag_begins [] name e d = absurd (cc)
  end_tag_begins (b ∷ s) name e d = rw (e, d) refl

-- ---- what is left doesn't grow

abbrev pub Within : ℕ → Step → Type 0
Within n (Ok st) = length st.rest ≤ n
Within n (Err kind) = ⊤

cond_within : (n : ℕ) (b : Bool) (x y : Step) → Within n x → Within n y → Within n (cond b x y)
cond_within n true x y h k = h
cond_within n false x y h k = k

less_within : (p : Piece) (b : ℕ) (s : List ℕ) → length (less_line_feed p b s) ≤ suc (length s)
less_within (wrong kind) b s = omega arith
less_within (stands n v) b s =
    let d = length-drop n s in
    test (bytes_eq v (line_feed ∷ [])) (λ e. rw e (omega arith)) (λ e. rw e (omega arith))

after_within : (s : List ℕ) → length (after_line_feed [] s) ≤ length s
after_within [] = omega arith
after_within (b ∷ s) = less_within (piece_at [] b s) b s

content_within : (n s : List ℕ) → length (content_of n s) ≤ length s
content_within n s =
    let k = after_within s in test (drops_line_feed n) (λ e. rw e k) (λ e. rw e (omega arith))

module _ (rules : Rules) (outer : Context) where
  pub add_within : (fs : List OpenElement) (t : ValueTree) (rest : List ℕ)
      → Within (length rest) (add rules outer fs t rest)
  add_within fs t rest =
      cond_within (length rest) (is_too_deep rules outer fs) _ (between (with_tree fs t) rest) tt (omega arith)

  pub open_within : (fs : List OpenElement) (n : List ℕ) (attributes : List AttributePair) (rest : List ℕ)
      → Within (length rest) (open_step rules outer fs n attributes rest)
  open_within fs n attributes rest =
      cond_within (length rest) (not (is_allowed rules.scripting (names_of outer fs) n)) _ _ tt
      (cond_within (length rest) (is_too_deep rules outer fs) _ _ tt
      (cond_within (length rest) (is_void n) (between (with_tree fs (element n attributes none)) rest)
      (between (fresh n attributes false ∷ fs) (content_of n rest)) (omega arith) (content_within n rest)))

  pub place_within : (fs : List OpenElement) (n : List ℕ) (attributes : List AttributePair) (rest : List ℕ)
      → Within (length rest) (place_step rules outer fs n attributes rest)
  place_within fs n attributes rest =
      cond_within (length rest) (is_row n && bytes_eq (innermost rules outer fs) (codes "table")) _ _
      (cond_within (length rest) (is_too_deep rules outer fs) _ _ tt
      (open_within (fresh (codes "tbody") [] true ∷ fs) n attributes rest)) (open_within fs n attributes rest)

  pub close_within : (fs : List OpenElement) (n rest : List ℕ)
      → Within (length rest) (close_step rules outer fs n rest)
  close_within [] n rest = tt
  close_within (f ∷ []) n rest = tt
  close_within (f ∷ g ∷ fs) n rest = cond_within (length rest) (bytes_eq f.name n) _ _ (omega arith) tt
