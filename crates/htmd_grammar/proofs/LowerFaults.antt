-- When no row of a lower number says something of a place.
use Rattle.std.proofs.Common.{Bool, List, None, [], ap, arith, codes, false, inl, inr, length, refl, subst, sym, true}
use Rattle.std.proofs.Common.{ℕ, ◌<◌, ◌∙◌, ◌∷◌, ◌≡◌, ◌≤◌, ◌⊎◌}
use Rattle.std.specs.Char.{is_ascii_alphabetic}
use Rattle.std.specs.List.{list_all, list_any}
use Rattle.htmd_lexical.specs.Characters.{exclamation_mark, less_than_sign, slash}
use Rattle.htmd_lexical.specs.WhiteSpace.{is_ascii_white_space}
use Rattle.htmd_lexical.specs.CharacterClasses.{are_distinct, begins_with, up_to}
use Rattle.htmd_grammar.specs.HtmlDocuments.{above_body}
use Rattle.htmd_grammar.specs.Faults.{HasComment, HasEndTag, HasPiece, HasTagForm, Applies, begins_tag, context_for}
use Rattle.htmd_grammar.specs.Faults.{has_bad_number, number_of}
use Rattle.htmd_grammar.specs.Nesting.{holds_parts, is_allowed, is_outside, parent_name}
use Rattle.htmd_grammar.specs.RawContent.{ends_text, holds_raw_text, raw_text_of}
use Rattle.htmd_grammar.specs.References.{Names, Piece, piece_at, stands, wrong}
use Rattle.htmd_grammar.specs.Rules.{Rules}
use Rattle.htmd_values.specs.Serialisation.{is_void}
use Rattle.htmd_grammar.specs.ReaderSteps.{OpenElement, has_unknown_reference, names_of}
use Rattle.htmd_lexical.specs.Attributes.{attribute_names}
use Rattle.htmd_lexical.specs.AttributePairs.{AttributePair}
use Rattle.htmd_grammar.specs.declared.fault.FaultKind.{FaultKind}
use Rattle.htmd_grammar.specs.declared.fault.FaultKind.TheVariants.{BadNumber, DuplicateAttribute, MalformedComment}
use Rattle.htmd_grammar.specs.declared.fault.FaultKind.TheVariants.{MalformedDeclaration, MalformedTag, NotAllowedHere}
use Rattle.htmd_grammar.specs.declared.fault.FaultKind.TheVariants.{Nul, ScriptEscape, SelfClosing, StrayEndTag}
use Rattle.htmd_grammar.specs.declared.fault.FaultKind.TheVariants.{StrayText, TagOutside, TooDeep, Unclosed}
use Rattle.htmd_grammar.specs.declared.fault.FaultKind.TheVariants.{UnknownReference}
use Rattle.htmd_grammar.proofs.FaultPieces.{comment_is_read, end_is_read, form_letter, name_read}
use Rattle.htmd_grammar.proofs.TextLemmas.{letter_not, stop_head}

pub no_second : (b c : ℕ) (s t : List ℕ) → b ∷ s ≡ c ∷ t → (b ≡ c) × (s ≡ t)
no_second b c s t e = (cc, cc)

pub piece_there : (names : Names) (b : ℕ) (s : List ℕ) (p : Piece) → HasPiece names (b ∷ s) p
    → piece_at names b s ≡ p
piece_there names b s p h =
    let q = no_second b h.0 s h.1 h.2 in
    ap (λ (y : List ℕ). piece_at names b y) q.1 ∙ (ap (λ (y : ℕ). piece_at names y h.1) q.0 ∙ h.3)

pub not_both : (b : Bool) → b ≡ true → b ≡ false → ⊥
not_both b e f = let w = rw f at e in cc

-- `<!` begins no tag, and no `<?`
exclamation_tag : (w : List ℕ) → begins_tag (less_than_sign ∷ exclamation_mark ∷ w) ≡ true → ⊥
exclamation_tag w e = cc

exclamation_question : (w : List ℕ) → begins_with (codes "<?") (less_than_sign ∷ exclamation_mark ∷ w) ≡ true
    → ⊥
exclamation_question w e = cc

exclamation_form : (w n : List ℕ) (spelled : List AttributePair) (present : Bool)
    → HasTagForm (less_than_sign ∷ exclamation_mark ∷ w) n spelled present → ⊥
exclamation_form w n spelled present h = let a = form_letter exclamation_mark w n spelled present h in cc

exclamation_end : (w n : List ℕ) → HasEndTag (less_than_sign ∷ exclamation_mark ∷ w) n → ⊥
exclamation_end w n h = let a = (end_is_read exclamation_mark w n h).0 in cc

exclamation_comment : (w : List ℕ) → HasComment (less_than_sign ∷ exclamation_mark ∷ w)
    → begins_with (codes "<!--") (less_than_sign ∷ exclamation_mark ∷ w) ≡ false → ⊥
exclamation_comment w c e = not_both (begins_with (codes "--") w) (comment_is_read exclamation_mark w c).1 e

-- `</` begins no start tag, and nothing with `<!` or `<?`
slash_comment : (w : List ℕ) → begins_with (codes "<!--") (less_than_sign ∷ slash ∷ w) ≡ true → ⊥
slash_comment w e = cc

slash_declaration : (w : List ℕ) → (begins_with (codes "<?") (less_than_sign ∷ slash ∷ w) ≡ true)
    ⊎ ((begins_with (codes "<!") (less_than_sign ∷ slash ∷ w) ≡ true)
    × (begins_with (codes "<!--") (less_than_sign ∷ slash ∷ w) ≡ false)) → ⊥
slash_declaration w (inl e) = cc
slash_declaration w (inr e) = let f = e.0 in cc

slash_form : (w n : List ℕ) (spelled : List AttributePair) (present : Bool)
    → HasTagForm (less_than_sign ∷ slash ∷ w) n spelled present
    → ⊥
slash_form w n spelled present h = let a = form_letter slash w n spelled present h in cc

-- a text that goes on has not ended
more_left : (b : ℕ) (s : List ℕ) → b ∷ s ≡ [] → ⊥
more_left b s e = cc

module _ (rules : Rules) (fs : List OpenElement) where
  -- the name of the innermost element
  abbrev pub TheParent : List ℕ
  TheParent = parent_name (names_of above_body fs)

  -- no row of a number below this one says so
  abbrev pub NoneBelow : ℕ → List ℕ → Type 0
  NoneBelow k s = (lower : FaultKind) → number_of lower < k → Applies rules fs s lower → ⊥

  -- the first rows of markup
  pub none_below_five : (k : ℕ) (s : List ℕ) → k ≤ 4 → (2 < k → begins_tag s ≡ false)
      → (3 < k → begins_with (codes "<!--") s ≡ false) → NoneBelow k s
  none_below_five k s u t c Nul l h = h
  none_below_five k s u t c MalformedTag l h = not_both (begins_tag s) h.1 (t l)
  none_below_five k s u t c MalformedComment l h = not_both (begins_with (codes "<!--") s) h.1 (c l)
  none_below_five k s u t c MalformedDeclaration l h = omega arith
  none_below_five k s u t c UnknownReference l h = omega arith
  none_below_five k s u t c BadNumber l h = omega arith
  none_below_five k s u t c DuplicateAttribute l h = omega arith
  none_below_five k s u t c SelfClosing l h = omega arith
  none_below_five k s u t c TagOutside l h = omega arith
  none_below_five k s u t c NotAllowedHere l h = omega arith
  none_below_five k s u t c StrayEndTag l h = omega arith
  none_below_five k s u t c StrayText l h = omega arith
  none_below_five k s u t c Unclosed l h = omega arith
  none_below_five k s u t c ScriptEscape l h = omega arith
  none_below_five k s u t c TooDeep l h = omega arith

  -- what is known of a character or reference, and of the text that it begins
  pub record TextPassed (k : ℕ) (b : ℕ) (s : List ℕ) : Type 0 where
    pub at_most : k ≤ 15
    pub goes : ends_text rules.scripting TheParent (b ∷ s) ≡ false
    pub known : 5 < k → holds_raw_text rules.scripting TheParent ≡ false
        → piece_at rules.names b s ≡ wrong UnknownReference → ⊥
    pub right_number : 6 < k → holds_raw_text rules.scripting TheParent ≡ false
        → piece_at rules.names b s ≡ wrong BadNumber → ⊥
    pub in_place : 12 < k → holds_raw_text rules.scripting TheParent ≡ false → holds_parts TheParent ≡ true
        → (m : ℕ) (v : List ℕ) → piece_at rules.names b s ≡ stands m v
        → list_all is_ascii_white_space v ≡ false → ⊥
    pub no_escape : 14 < k → holds_raw_text rules.scripting TheParent ≡ true
        → raw_text_of TheParent (up_to (ends_text rules.scripting TheParent) (b ∷ s)) ≡ None → ⊥

  pub none_below_text : (k b : ℕ) (s : List ℕ) → TextPassed k b s → NoneBelow k (b ∷ s)
  none_below_text k b s p Nul l h = h
  none_below_text k b s p MalformedTag l h = not_both _ h.0 p.goes
  none_below_text k b s p MalformedComment l h = not_both _ h.0 p.goes
  none_below_text k b s p MalformedDeclaration l h = not_both _ h.0 p.goes
  none_below_text k b s p UnknownReference l (inl h) =
      p.known l (h.0).1 (piece_there rules.names b s (wrong UnknownReference) h.1)
  none_below_text k b s p UnknownReference l (inr h) = not_both _ h.0 p.goes
  none_below_text k b s p BadNumber l (inl h) =
      p.right_number l (h.0).1 (piece_there rules.names b s (wrong BadNumber) h.1)
  none_below_text k b s p BadNumber l (inr h) = not_both _ h.0 p.goes
  none_below_text k b s p DuplicateAttribute l h = not_both _ h.0 p.goes
  none_below_text k b s p SelfClosing l h = not_both _ h.0 p.goes
  none_below_text k b s p TagOutside l h = not_both _ h.0 p.goes
  none_below_text k b s p NotAllowedHere l h = not_both _ h.0 p.goes
  none_below_text k b s p StrayEndTag l h = not_both _ h.0 p.goes
  none_below_text k b s p StrayText l h =
      p.in_place l (h.0).1 h.1 h.2 h.3 (piece_there rules.names b s (stands h.2 h.3) h.4) h.5
  none_below_text k b s p Unclosed l h = more_left _ _ h.0
  none_below_text k b s p ScriptEscape l h = p.no_escape l h.2 h.3
  none_below_text k b s p TooDeep l h = let a = p.at_most in omega arith

  -- what is known of a start tag
  pub record TagPassed (k d : ℕ) (w n : List ℕ) (spelled : List AttributePair) (present : Bool) : Type 0 where
    pub at_most : k ≤ 15
    pub markup : ends_text rules.scripting TheParent (less_than_sign ∷ d ∷ w) ≡ true
    pub letter : is_ascii_alphabetic d ≡ true
    pub has : HasTagForm (less_than_sign ∷ d ∷ w) n spelled present
    pub only : (m : List ℕ) (others : List AttributePair) (slashed : Bool)
        → HasTagForm (less_than_sign ∷ d ∷ w) m others slashed
        → (m ≡ n) × (others ≡ spelled) × (slashed ≡ present)
    pub known : 5 < k → list_any (λ a. has_unknown_reference rules.names a.value) spelled ≡ false
    pub right_numbers : 6 < k → list_any (λ a. has_bad_number rules.names a.value) spelled ≡ false
    pub distinct : 7 < k → are_distinct (attribute_names spelled) ≡ true
    pub may_close : 8 < k → present ≡ true → is_void n ≡ true
    pub inside : 9 < k → is_outside n ≡ false
    pub allowed : 10 < k → is_allowed rules.scripting (context_for rules fs (less_than_sign ∷ d ∷ w) n) n ≡ true

  no_end_tag : (d : ℕ) (w n : List ℕ) → is_ascii_alphabetic d ≡ true
      → HasEndTag (less_than_sign ∷ d ∷ w) n → ⊥
  no_end_tag d w n a h = let q = (end_is_read d w n h).0 in let z = rw q at a in cc

  pub none_below_tag : (k d : ℕ) (w n : List ℕ) (spelled : List AttributePair) (present : Bool)
      → TagPassed k d w n spelled present → NoneBelow k (less_than_sign ∷ d ∷ w)
  none_below_tag k d w n spelled present p Nul l h = h
  none_below_tag k d w n spelled present p MalformedTag l h = h.2 n spelled present p.has
  none_below_tag k d w n spelled present p MalformedComment l h = let a = letter_not d p.letter in let e = h.1 in
      let z = rw a.1 at e in cc
  none_below_tag k d w n spelled present p MalformedDeclaration l h = elim (h.1) [
    | inl e ↦ (let a = letter_not d p.letter in let z = rw a.3 at e in cc)
    | inr e ↦ (let a = letter_not d p.letter in let f = e.0 in let z = rw a.1 at f in cc)
  ]
  none_below_tag k d w n spelled present p UnknownReference l (inl h) = not_both _ p.markup ((h.0).0).1
  none_below_tag k d w n spelled present p UnknownReference l (inr h) =
      let u = p.only h.1 h.2 h.3 h.4 in
      not_both _ h.5 (subst (λ (y : List AttributePair). list_any (λ a. has_unknown_reference rules.names a.value) y
      ≡ false) (sym u.1) (p.known l))
  none_below_tag k d w n spelled present p BadNumber l (inl h) = not_both _ p.markup ((h.0).0).1
  none_below_tag k d w n spelled present p BadNumber l (inr h) =
      let u = p.only h.1 h.2 h.3 h.4 in
      not_both _ h.5 (subst (λ (y : List AttributePair). list_any (λ a. has_bad_number rules.names a.value) y
      ≡ false)
      (sym u.1) (p.right_numbers l))
  none_below_tag k d w n spelled present p DuplicateAttribute l h =
      let u = p.only h.1 h.2 h.3 h.4 in
      not_both _ (subst (λ (y : List AttributePair). are_distinct (attribute_names y) ≡ true) (sym u.1)
      (p.distinct l))
      h.5
  none_below_tag k d w n spelled present p SelfClosing l h =
      let u = p.only h.1 h.2 true h.3 in
      not_both _ (subst (λ (y : List ℕ). is_void y ≡ true) (sym u.0) (p.may_close l (sym u.2))) h.4
  none_below_tag k d w n spelled present p TagOutside l h = elim (h.3) [
    | inl f ↦ (let u = p.only h.1 f.0 f.1 f.2 in
        not_both _ h.2 (subst (λ (y : List ℕ). is_outside y ≡ false) (sym u.0) (p.inside l)))
    | inr e ↦ no_end_tag d w h.1 p.letter e
  ]
  none_below_tag k d w n spelled present p NotAllowedHere l h =
      let u = p.only h.1 h.2 h.3 h.4 in
      not_both _ (subst (λ (y : List ℕ). is_allowed rules.scripting
      (context_for rules fs (less_than_sign ∷ d ∷ w) y) y
      ≡ true)
      (sym u.0) (p.allowed l)) h.5
  none_below_tag k d w n spelled present p StrayEndTag l h = no_end_tag d w h.1 p.letter h.2
  none_below_tag k d w n spelled present p StrayText l h = not_both _ p.markup ((h.0).0).1
  none_below_tag k d w n spelled present p Unclosed l h = more_left _ _ h.0
  none_below_tag k d w n spelled present p ScriptEscape l h = not_both _ p.markup (h.0).1
  none_below_tag k d w n spelled present p TooDeep l h = let a = p.at_most in omega arith

  -- of an end tag
  pub none_below_end : (k : ℕ) (w n : List ℕ) → k ≤ 11
      → (2 < k → HasEndTag (less_than_sign ∷ slash ∷ w) n)
      → (9 < k → is_outside (name_read w) ≡ false)
      → ends_text rules.scripting TheParent (less_than_sign ∷ slash ∷ w)
      ≡ true
      → NoneBelow k (less_than_sign ∷ slash ∷ w)
  none_below_end k w n u t o m Nul l h = h
  none_below_end k w n u t o m MalformedTag l h = h.3 n (t l)
  none_below_end k w n u t o m MalformedComment l h = slash_comment w h.1
  none_below_end k w n u t o m MalformedDeclaration l h = slash_declaration w h.1
  none_below_end k w n u t o m UnknownReference l (inl h) = not_both _ m ((h.0).0).1
  none_below_end k w n u t o m UnknownReference l (inr h) = slash_form w h.1 h.2 h.3 h.4
  none_below_end k w n u t o m BadNumber l (inl h) = not_both _ m ((h.0).0).1
  none_below_end k w n u t o m BadNumber l (inr h) = slash_form w h.1 h.2 h.3 h.4
  none_below_end k w n u t o m DuplicateAttribute l h = slash_form w h.1 h.2 h.3 h.4
  none_below_end k w n u t o m SelfClosing l h = slash_form w h.1 h.2 true h.3
  none_below_end k w n u t o m TagOutside l h = elim (h.3) [
    | inl f ↦ slash_form w h.1 f.0 f.1 f.2
    | inr e ↦ (let r = (end_is_read slash w h.1 e).3 in
        not_both _ h.2 (subst (λ (y : List ℕ). is_outside y ≡ false) r (o l)))
  ]
  none_below_end k w n u t o m NotAllowedHere l h = slash_form w h.1 h.2 h.3 h.4
  none_below_end k w n u t o m StrayEndTag l h = omega arith
  none_below_end k w n u t o m StrayText l h = omega arith
  none_below_end k w n u t o m Unclosed l h = omega arith
  none_below_end k w n u t o m ScriptEscape l h = omega arith
  none_below_end k w n u t o m TooDeep l h = omega arith

  -- of a comment
  pub none_below_comment : (k : ℕ) (w : List ℕ) → k ≤ 15
      → HasComment (less_than_sign ∷ exclamation_mark ∷ w)
      → ends_text rules.scripting TheParent (less_than_sign ∷ exclamation_mark ∷ w) ≡ true
      → NoneBelow k (less_than_sign ∷ exclamation_mark ∷ w)
  none_below_comment k w u c m Nul l h = h
  none_below_comment k w u c m MalformedTag l h = exclamation_tag w h.1
  none_below_comment k w u c m MalformedComment l h = h.2 c
  none_below_comment k w u c m MalformedDeclaration l h =
      elim (h.1) [ inl e ↦ exclamation_question w e | inr e ↦ exclamation_comment w c e.1 ]
  none_below_comment k w u c m UnknownReference l (inl h) = not_both _ m ((h.0).0).1
  none_below_comment k w u c m UnknownReference l (inr h) = exclamation_form w h.1 h.2 h.3 h.4
  none_below_comment k w u c m BadNumber l (inl h) = not_both _ m ((h.0).0).1
  none_below_comment k w u c m BadNumber l (inr h) = exclamation_form w h.1 h.2 h.3 h.4
  none_below_comment k w u c m DuplicateAttribute l h = exclamation_form w h.1 h.2 h.3 h.4
  none_below_comment k w u c m SelfClosing l h = exclamation_form w h.1 h.2 true h.3
  none_below_comment k w u c m TagOutside l h = elim (h.3) [
    | inl f ↦ exclamation_form w h.1 f.0 f.1 f.2
    | inr e ↦
        exclamation_end w h.1 e
  ]
  none_below_comment k w u c m NotAllowedHere l h = exclamation_form w h.1 h.2 h.3 h.4
  none_below_comment k w u c m StrayEndTag l h = exclamation_end w h.1 h.2
  none_below_comment k w u c m StrayText l h = not_both _ m ((h.0).0).1
  none_below_comment k w u c m Unclosed l h = more_left less_than_sign (exclamation_mark ∷ w) h.0
  none_below_comment k w u c m ScriptEscape l h = not_both _ m (h.0).1
  none_below_comment k w u c m TooDeep l h = omega arith

  -- of the end of the text
  no_markup_left : ends_text rules.scripting TheParent [] ≡ true → ⊥
  no_markup_left m = let h = stop_head rules.scripting TheParent [] m in let e = h.1 in cc

  pub none_below_nothing : NoneBelow 13 []
  none_below_nothing Nul l h = h
  none_below_nothing MalformedTag l h = no_markup_left h.0
  none_below_nothing MalformedComment l h = no_markup_left h.0
  none_below_nothing MalformedDeclaration l h = no_markup_left h.0
  none_below_nothing UnknownReference l (inl h) = ((h.0).0).0 refl
  none_below_nothing UnknownReference l (inr h) = no_markup_left h.0
  none_below_nothing BadNumber l (inl h) = ((h.0).0).0 refl
  none_below_nothing BadNumber l (inr h) = no_markup_left h.0
  none_below_nothing DuplicateAttribute l h = no_markup_left h.0
  none_below_nothing SelfClosing l h = no_markup_left h.0
  none_below_nothing TagOutside l h = no_markup_left h.0
  none_below_nothing NotAllowedHere l h = no_markup_left h.0
  none_below_nothing StrayEndTag l h = no_markup_left h.0
  none_below_nothing StrayText l h = ((h.0).0).0 refl
  none_below_nothing Unclosed l h = omega arith
  none_below_nothing ScriptEscape l h = omega arith
  none_below_nothing TooDeep l h = omega arith

  -- ---- where no row says anything

  none_at_all : (s : List ℕ) → NoneBelow 15 s → (Applies rules fs s TooDeep → ⊥) → (k : FaultKind)
      → Applies rules fs s k → ⊥
  none_at_all s n d Nul h = n Nul (omega arith) h
  none_at_all s n d MalformedTag h = n MalformedTag (omega arith) h
  none_at_all s n d MalformedComment h = n MalformedComment (omega arith) h
  none_at_all s n d MalformedDeclaration h = n MalformedDeclaration (omega arith) h
  none_at_all s n d UnknownReference h = n UnknownReference (omega arith) h
  none_at_all s n d BadNumber h = n BadNumber (omega arith) h
  none_at_all s n d DuplicateAttribute h = n DuplicateAttribute (omega arith) h
  none_at_all s n d SelfClosing h = n SelfClosing (omega arith) h
  none_at_all s n d TagOutside h = n TagOutside (omega arith) h
  none_at_all s n d NotAllowedHere h = n NotAllowedHere (omega arith) h
  none_at_all s n d StrayEndTag h = n StrayEndTag (omega arith) h
  none_at_all s n d StrayText h = n StrayText (omega arith) h
  none_at_all s n d Unclosed h = n Unclosed (omega arith) h
  none_at_all s n d ScriptEscape h = n ScriptEscape (omega arith) h
  none_at_all s n d TooDeep h = d h

  pub none_of_text : (b : ℕ) (s : List ℕ) → TextPassed 15 b s → length (names_of above_body fs) ≤ rules.depth
      → (k : FaultKind) → Applies rules fs (b ∷ s) k → ⊥
  none_of_text b s p l = none_at_all (b ∷ s) (none_below_text 15 b s p) deep
    where
      deep : Applies rules fs (b ∷ s) TooDeep → ⊥
      deep (inl h) = let d = h.0 in omega arith
      deep (inr h) = not_both _ h.0 p.goes

  pub none_of_comment : (w : List ℕ) → HasComment (less_than_sign ∷ exclamation_mark ∷ w)
      → ends_text rules.scripting TheParent (less_than_sign ∷ exclamation_mark ∷ w) ≡ true
      → length (names_of above_body fs) ≤ rules.depth
      → (k : FaultKind) → Applies rules fs (less_than_sign ∷ exclamation_mark ∷ w) k → ⊥
  none_of_comment w c m l = none_at_all (less_than_sign ∷ exclamation_mark ∷ w)
      (none_below_comment 15 w (omega arith) c m) deep
    where
      deep : Applies rules fs (less_than_sign ∷ exclamation_mark ∷ w) TooDeep → ⊥
      deep (inl h) = let d = h.0 in omega arith
      deep (inr h) = exclamation_form w h.1 h.2 h.3 h.4

  pub none_of_tag : (d : ℕ) (w n : List ℕ) (spelled : List AttributePair) (present : Bool)
      → TagPassed 15 d w n spelled present → length (names_of above_body fs) ≤ rules.depth
      → length (context_for rules fs (less_than_sign ∷ d ∷ w) n) ≤ rules.depth
      → (k : FaultKind) → Applies rules fs (less_than_sign ∷ d ∷ w) k → ⊥
  none_of_tag d w n spelled present p l c = none_at_all (less_than_sign ∷ d ∷ w)
      (none_below_tag 15 d w n spelled present p) deep
    where
      deep : Applies rules fs (less_than_sign ∷ d ∷ w) TooDeep → ⊥
      deep (inl h) = let d = h.0 in omega arith
      deep (inr h) =
          let u = p.only h.1 h.2 h.3 h.4 in
          let q = subst (λ (y : List ℕ). rules.depth < length (context_for rules fs (less_than_sign ∷ d ∷ w) y))
          u.0 h.5 in
          omega arith

  rows_of_end : (w n : List ℕ) → NoneBelow 11 (less_than_sign ∷ slash ∷ w)
      → (Applies rules fs (less_than_sign ∷ slash ∷ w) StrayEndTag → ⊥)
      → ends_text rules.scripting TheParent (less_than_sign ∷ slash ∷ w) ≡ true
      → NoneBelow 15 (less_than_sign ∷ slash ∷ w)
  rows_of_end w n e t m StrayEndTag u h = t h
  rows_of_end w n e t m StrayText u h = not_both _ m ((h.0).0).1
  rows_of_end w n e t m Unclosed u h = more_left less_than_sign (slash ∷ w) h.0
  rows_of_end w n e t m ScriptEscape u h = not_both _ m (h.0).1
  rows_of_end w n e t m TooDeep u h = omega arith
  rows_of_end w n e t m Nul u h = e Nul (omega arith) h
  rows_of_end w n e t m MalformedTag u h = e MalformedTag (omega arith) h
  rows_of_end w n e t m MalformedComment u h = e MalformedComment (omega arith) h
  rows_of_end w n e t m MalformedDeclaration u h = e MalformedDeclaration (omega arith) h
  rows_of_end w n e t m UnknownReference u h = e UnknownReference (omega arith) h
  rows_of_end w n e t m BadNumber u h = e BadNumber (omega arith) h
  rows_of_end w n e t m DuplicateAttribute u h = e DuplicateAttribute (omega arith) h
  rows_of_end w n e t m SelfClosing u h = e SelfClosing (omega arith) h
  rows_of_end w n e t m TagOutside u h = e TagOutside (omega arith) h
  rows_of_end w n e t m NotAllowedHere u h = e NotAllowedHere (omega arith) h

  stray_end : (w n : List ℕ) → TheParent ≡ n → 1 < length fs
      → ends_text rules.scripting TheParent (less_than_sign ∷ slash ∷ w) ≡ true
      → name_read w ≡ n → Applies rules fs (less_than_sign ∷ slash ∷ w) StrayEndTag → ⊥
  stray_end w n p l m r h = elim (h.3) [
    | inl u ↦ u (p ∙ (sym r ∙ (end_is_read slash w h.1 h.2).3))
    | inr u ↦ omega arith
  ]

  deep_end : (w : List ℕ) → ends_text rules.scripting TheParent (less_than_sign ∷ slash ∷ w) ≡ true
      → Applies rules fs (less_than_sign ∷ slash ∷ w) TooDeep → ⊥
  deep_end w m (inl h) = elim (h.1) [
    | inl u ↦ not_both _ m u.1
    | inr u ↦ no_comment ((comment_is_read slash w u.1).0)
  ]
    where
      no_comment : slash ≡ exclamation_mark → ⊥
      no_comment q = cc
  deep_end w m (inr h) = slash_form w h.1 h.2 h.3 h.4

  pub none_of_end : (w n : List ℕ) → HasEndTag (less_than_sign ∷ slash ∷ w) n
      → is_outside (name_read w) ≡ false
      → ends_text rules.scripting TheParent (less_than_sign ∷ slash ∷ w) ≡ true → TheParent ≡ n
      → name_read w ≡ n
      → 1 < length fs → (k : FaultKind) → Applies rules fs (less_than_sign ∷ slash ∷ w) k → ⊥
  none_of_end w n t o m p r l = none_at_all (less_than_sign ∷ slash ∷ w)
      (rows_of_end w n (none_below_end 11 w n (omega arith) (λ _. t) (λ _. o) m) (stray_end w n p l m r) m)
      (deep_end w m)
