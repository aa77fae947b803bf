-- Which place and kind of a refusal are right.
use Rattle.std.specs.Prelude.{◌≡◌, ◌≢◌, ◌⊎◌, ℕ, ◌<◌, ◌≤◌, ◌+◌, Bool, true, false, ◌&&◌, ◌||◌, ◌==◌, if◌then◌else◌, List}
use Rattle.std.specs.Prelude.{[], ◌∷◌, ◌++◌, length, codes, None}
use Rattle.std.specs.List.{list_any, list_all}
use Rattle.std.specs.Char.{is_ascii_alphabetic}
use Rattle.htmd_lexical.specs.Characters.{null, slash, less_than_sign}
use Rattle.htmd_lexical.specs.WhiteSpace.{is_ascii_white_space}
use Rattle.htmd_lexical.specs.AttributePairs.{AttributePair}
use Rattle.htmd_values.specs.ValueTrees.{ValueForest, none}
use Rattle.htmd_lexical.specs.CharacterClasses.{begins_with, lacks, up_to, are_distinct}
use Rattle.htmd_grammar.specs.Rules.{Rules}
use Rattle.htmd_grammar.specs.References.{Names, Piece, stands, wrong, piece_at}
use Rattle.htmd_lexical.specs.Attributes.{attribute_names}
use Rattle.htmd_grammar.specs.Tags.{IsTagForm, IsEndTag}
use Rattle.htmd_grammar.specs.Comments.{IsComment}
use Rattle.htmd_grammar.specs.RawContent.{holds_raw_text, ends_text, raw_text_of}
use Rattle.htmd_grammar.specs.Nesting.{Context, is_outside, is_row, is_table, holds_parts, is_allowed}
use Rattle.htmd_grammar.specs.HtmlDocuments.{above_body, body_text}
use Rattle.htmd_values.specs.Serialisation.{is_void}
use Rattle.htmd_grammar.specs.ReaderSteps.{OpenElement, names_of, has_unknown_reference}
use Rattle.htmd_grammar.specs.Fronts.{IsViablePrefix}
use Rattle.htmd_grammar.specs.declared.fault.FaultKind.{FaultKind}
use Rattle.htmd_grammar.specs.declared.fault.FaultKind.TheVariants.{Nul, MalformedTag, MalformedComment}
use Rattle.htmd_grammar.specs.declared.fault.FaultKind.TheVariants.{MalformedDeclaration, UnknownReference, BadNumber}
use Rattle.htmd_grammar.specs.declared.fault.FaultKind.TheVariants.{DuplicateAttribute, SelfClosing, TagOutside}
use Rattle.htmd_grammar.specs.declared.fault.FaultKind.TheVariants.{NotAllowedHere, StrayEndTag, StrayText, Unclosed}
use Rattle.htmd_grammar.specs.declared.fault.FaultKind.TheVariants.{ScriptEscape, TooDeep}

-- the number of a kind: of two kinds that fit a piece the lower is right
abbrev pub number_of : FaultKind → ℕ
number_of Nul = 1
number_of MalformedTag = 2
number_of MalformedComment = 3
number_of MalformedDeclaration = 4
number_of UnknownReference = 5
number_of BadNumber = 6
number_of DuplicateAttribute = 7
number_of SelfClosing = 8
number_of TagOutside = 9
number_of NotAllowedHere = 10
number_of StrayEndTag = 11
number_of StrayText = 12
number_of Unclosed = 13
number_of ScriptEscape = 14
number_of TooDeep = 15

-- ---- what is at the beginning of a text

-- `<` and a letter, or `</`
abbrev pub begins_tag : List ℕ → Bool
begins_tag [] = false
begins_tag (b ∷ []) = false
begins_tag (b ∷ c ∷ s) = (b == less_than_sign) && (is_ascii_alphabetic c || (c == slash))

-- the form of a start tag
abbrev pub HasTagForm : List ℕ → List ℕ → List AttributePair → Bool → Type 0
HasTagForm s n spelled present = (tag rest : List ℕ) × (s ≡ tag ++ rest) × IsTagForm tag n spelled present

abbrev pub HasEndTag : List ℕ → List ℕ → Type 0
HasEndTag s n = (tag rest : List ℕ) × (s ≡ tag ++ rest) × IsEndTag tag n

abbrev pub HasComment : List ℕ → Type 0
HasComment s = (this rest u : List ℕ) × (s ≡ this ++ rest) × IsComment this u

-- a character or reference, of this kind
abbrev pub HasPiece : Names → List ℕ → Piece → Type 0
HasPiece names s piece = (b : ℕ) × (rest : List ℕ) × (s ≡ b ∷ rest) × (piece_at names b rest ≡ piece)

-- somewhere in the value is a reference by a number that isn't right
abbrev pub is_bad_number : Piece → Bool
is_bad_number (stands n v) = false
is_bad_number (wrong BadNumber) = true
is_bad_number (wrong _) = false

abbrev pub has_bad_number : Names → List ℕ → Bool
has_bad_number names [] = false
has_bad_number names (b ∷ s) = is_bad_number (piece_at names b s) || has_bad_number names s

-- what the innermost open element holds so far
abbrev pub top_children : List OpenElement → ValueForest
top_children [] = none
top_children (f ∷ fs) = f.children

-- ---- the rows

module _ (rules : Rules) (fs : List OpenElement) (s : List ℕ) where
  abbrev here : Context
  here = names_of above_body fs

  abbrev parent : List ℕ
  parent = Rattle.htmd_grammar.specs.Nesting.parent_name here

  -- there is markup
  abbrev pub IsMarkup : Type 0
  IsMarkup = ends_text rules.scripting parent s ≡ true

  -- there is text
  abbrev pub IsText : Type 0
  IsText = (s ≢ []) × (ends_text rules.scripting parent s ≡ false)

  -- text with references
  abbrev pub IsTextWithReferences : Type 0
  IsTextWithReferences = IsText × (holds_raw_text rules.scripting parent ≡ false)

  -- the ancestors that a start tag gives its element; a row in a table implies a `tbody`
  abbrev pub context_for : List ℕ → Context
  context_for n = if is_row n && is_table parent then codes "tbody" ∷ here else here

  -- what the kind says of the open elements and the text from the place on
  abbrev pub Applies : FaultKind → Type 0
  Applies Nul = ⊥
  Applies MalformedTag =
      IsMarkup × (begins_tag s ≡ true)
      × ((n : List ℕ) (spelled : List AttributePair) (present : Bool) → HasTagForm s n spelled present → ⊥)
      × ((n : List ℕ) → HasEndTag s n → ⊥)
  Applies MalformedComment = IsMarkup × (begins_with (codes "<!--") s ≡ true) × (HasComment s → ⊥)
  Applies MalformedDeclaration =
      IsMarkup × ((begins_with (codes "<?") s ≡ true)
      ⊎ ((begins_with (codes "<!") s ≡ true) × (begins_with (codes "<!--") s ≡ false)))
  Applies UnknownReference =
      (IsTextWithReferences × HasPiece rules.names s (wrong UnknownReference))
      ⊎ (IsMarkup × (n : List ℕ) × (spelled : List AttributePair) × (present : Bool)
      × HasTagForm s n spelled present
      × (list_any (λ a. has_unknown_reference rules.names a.value) spelled ≡ true))
  Applies BadNumber =
      (IsTextWithReferences × HasPiece rules.names s (wrong BadNumber))
      ⊎ (IsMarkup × (n : List ℕ) × (spelled : List AttributePair) × (present : Bool)
      × HasTagForm s n spelled present
      × (list_any (λ a. has_bad_number rules.names a.value) spelled ≡ true))
  Applies DuplicateAttribute =
      IsMarkup × (n : List ℕ) × (spelled : List AttributePair) × (present : Bool) × HasTagForm s n spelled present
      × (are_distinct (attribute_names spelled) ≡ false)
  Applies SelfClosing =
      IsMarkup × (n : List ℕ) × (spelled : List AttributePair) × HasTagForm s n spelled true
      × (is_void n ≡ false)
  Applies TagOutside =
      IsMarkup × (n : List ℕ) × (is_outside n ≡ true)
      × (((spelled : List AttributePair) × (present : Bool) × HasTagForm s n spelled present) ⊎ HasEndTag s n)
  Applies NotAllowedHere =
      IsMarkup × (n : List ℕ) × (spelled : List AttributePair) × (present : Bool) × HasTagForm s n spelled present
      × (is_allowed rules.scripting (context_for n) n ≡ false)
  Applies StrayEndTag = IsMarkup × (n : List ℕ) × HasEndTag s n × ((parent ≢ n) ⊎ (length fs ≤ 1))
  Applies StrayText =
      IsTextWithReferences × (holds_parts parent ≡ true) × (more_bytes : ℕ) × (v : List ℕ)
      × HasPiece rules.names s
      (stands more_bytes v)
      × (list_all is_ascii_white_space v ≡ false)
  Applies Unclosed = (s ≡ []) × (1 < length fs)
  Applies ScriptEscape =
      IsText × (top_children fs ≡ none) × (holds_raw_text rules.scripting parent ≡ true)
      × (raw_text_of parent (up_to (ends_text rules.scripting parent) s) ≡ None)
  Applies TooDeep =
      ((rules.depth < length here) × (IsText ⊎ (IsMarkup × HasComment s)))
      ⊎ (IsMarkup × (n : List ℕ) × (spelled : List AttributePair) × (present : Bool)
      × HasTagForm s n spelled present
      × (rules.depth < length (context_for n)))

-- ---- a refusal

-- the first U+0000 is at the place
pub record IsFirstNul (text : List ℕ) (place : ℕ) : Type 0 where
  pub before : List ℕ
  pub behind : List ℕ
  pub text_is : text ≡ before ++ (null ∷ behind)
  pub place_is : length before ≡ place
  pub first : lacks null before ≡ true

-- What comes before the place is a viable prefix, what is there is of this kind and of no lower one.
pub record IsPieceFault (rules : Rules) (text : List ℕ) (place : ℕ) (kind : FaultKind) : Type 0 where
  pub innermost : OpenElement
  pub opened : List OpenElement
  pub before : List ℕ
  pub behind : List ℕ
  pub text_is : body_text text ≡ before ++ behind
  pub place_is : place + length behind ≡ length text
  pub prefix_is_viable : IsViablePrefix rules innermost opened before behind
  pub says : Applies rules (innermost ∷ opened) behind kind
  pub no_lower : (lower : FaultKind) → number_of lower < number_of kind
      → Applies rules (innermost ∷ opened) behind lower
      → ⊥

-- The refusal is right.
abbrev pub IsFault : Rules → List ℕ → ℕ → FaultKind → Type 0
IsFault rules text place kind =
    ((kind ≡ Nul) × IsFirstNul text place) ⊎ ((lacks null text ≡ true) × IsPieceFault rules text place kind)
