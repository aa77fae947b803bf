-- Each fault of a step is of the kind that stands there, and of no lower one.
use Rattle.std.proofs.Common.{Bool, Err, List, None, Ok, Option, Some, [], ap, append_assoc, arith, codes, drop, false}
use Rattle.std.proofs.Common.{inl, inr, length, not, refl, subst, suc, sym, true, ℕ, ◌&&◌, ◌++◌, ◌<◌, ◌==◌}
use Rattle.std.proofs.Common.{◌||◌, ◌∙◌, ◌∷◌, ◌≡◌, ◌≢◌, ◌≤◌, ◌⊎◌}
use Rattle.std.specs.Char.{is_ascii_alphabetic}
use Rattle.std.specs.List.{list_all, list_any}
use Rattle.std.specs.Str.{bytes_eq}
use Rattle.std.proofs.lemmas.Bool.{not-true, not-false, and_parts, eqb-true, ltb-true}
use Rattle.std.proofs.Math.Bool.{or-false}
use Rattle.htmd_lexical.specs.Characters.{exclamation_mark, greater_than_sign, hyphen, less_than_sign, question_mark}
use Rattle.htmd_lexical.specs.Characters.{slash}
use Rattle.htmd_lexical.specs.WhiteSpace.{is_ascii_white_space}
use Rattle.htmd_lexical.proofs.Cases.{test}
use Rattle.htmd_lexical.specs.CharacterClasses.{are_distinct, begins_with, behind_run, first_is, is_empty, is_tag_name}
use Rattle.htmd_lexical.specs.CharacterClasses.{is_tag_name_byte, leading_run, onward, up_to}
use Rattle.htmd_grammar.specs.Comments.{before_comment_end, is_comment_text}
use Rattle.htmd_lexical.specs.LineEnds.{normalized}
use Rattle.htmd_grammar.specs.HtmlDocuments.{above_body}
use Rattle.htmd_grammar.specs.Faults.{HasComment, HasEndTag, HasTagForm, IsTextWithReferences, Applies, context_for}
use Rattle.htmd_grammar.specs.Faults.{has_bad_number, number_of}
use Rattle.htmd_grammar.specs.Nesting.{Context, holds_parts, is_allowed, is_outside, is_row}
use Rattle.htmd_grammar.specs.RawContent.{ends_text, holds_raw_text, holds_text_alone, raw_text_of, text_of}
use Rattle.htmd_grammar.specs.References.{Piece, piece_at, stands, wrong}
use Rattle.htmd_grammar.specs.Rules.{Rules}
use Rattle.htmd_values.specs.Serialisation.{is_void}
use Rattle.htmd_grammar.specs.ReaderSteps.{OpenElement, State, Step, character_step, close_step, comment_step}
use Rattle.htmd_grammar.specs.ReaderSteps.{declaration_step, end_tag_step, ends_rows, fault, form_step, fresh}
use Rattle.htmd_grammar.specs.ReaderSteps.{has_unknown_reference, is_text_end, is_too_deep, markup_step, name_step}
use Rattle.htmd_grammar.specs.ReaderSteps.{names_of}
use Rattle.htmd_grammar.specs.ReaderSteps.{open_step, place_step, raw_text_step, start_tag_step, step, text_step}
use Rattle.htmd_grammar.specs.ReaderSteps.{values_step}
use Rattle.htmd_lexical.specs.TagReading.{TagForm, form, no_form}
use Rattle.htmd_lexical.specs.Attributes.{attribute_names}
use Rattle.htmd_grammar.specs.Tags.{decode_values}
use Rattle.htmd_lexical.specs.AttributePairs.{AttributePair}
use Rattle.htmd_values.specs.ValueTrees.{comment, none}
use Rattle.htmd_grammar.specs.declared.fault.FaultKind.{FaultKind}
use Rattle.htmd_grammar.specs.declared.fault.FaultKind.TheVariants.{BadNumber, DuplicateAttribute, MalformedComment}
use Rattle.htmd_grammar.specs.declared.fault.FaultKind.TheVariants.{MalformedDeclaration, MalformedTag, NotAllowedHere}
use Rattle.htmd_grammar.specs.declared.fault.FaultKind.TheVariants.{ScriptEscape, SelfClosing, StrayEndTag, StrayText}
use Rattle.htmd_grammar.specs.declared.fault.FaultKind.TheVariants.{TagOutside, TooDeep, Unclosed, UnknownReference}
use Rattle.htmd_lexical.proofs.BooleanLemmas.{if_then}
use Rattle.htmd_grammar.proofs.CommentsLemmas.{before_close-split, cut, cut_same, dashes}
use Rattle.htmd_grammar.proofs.FaultPieces.{IsWrongReference, comment_is_read, end_is_read, end_tag_there, form_is_read}
use Rattle.htmd_grammar.proofs.FaultPieces.{form_letter, form_read_behind, name_read, piece_wrong, same_form, two_bytes}
use Rattle.htmd_grammar.proofs.FaultPieces.{values_right, values_wrong}
use Rattle.htmd_grammar.proofs.LowerFaults.{NoneBelow, TagPassed, TextPassed, none_below_comment, none_below_end}
use Rattle.htmd_grammar.proofs.LowerFaults.{none_below_five, none_of_comment, none_of_end, none_of_tag, none_of_text}
use Rattle.htmd_grammar.proofs.LowerFaults.{none_below_nothing, none_below_tag, none_below_text, not_both}
use Rattle.htmd_lexical.proofs.BytesLemmas.{bytes_same, same_bytes}
use Rattle.htmd_grammar.proofs.NestingLemmas.{one_name, row_fits}
use Rattle.htmd_grammar.proofs.Soundness.{shallow}
use Rattle.htmd_lexical.proofs.LeadingRunsLemmas.{back_split}
use Rattle.htmd_grammar.proofs.TagSpellingLemmas.{tag_spelled}
use Rattle.htmd_grammar.specs.ReaderSteps as steps
use Rattle.htmd_grammar.proofs.Readings.{empty_is}

-- the fault of a step
no_fault : (st : State) (k : FaultKind) → ◌≡◌ {A = Step} (Ok st) (Err k) → ⊥
no_fault st k e = cc

slashed : (a b : Bool) → (a && not b) ≡ false → a ≡ true → b ≡ true
slashed a true e i = refl
slashed a false e i = absurd (let w = rw i at e in cc)

module _ (rules : Rules) (f : OpenElement) (gs : List OpenElement) where
  abbrev Here : Context
  Here = names_of above_body (f ∷ gs)

  -- the kind stands there, and no lower one
  abbrev pub IsRight : List ℕ → FaultKind → Type 0
  IsRight s k = Applies rules (f ∷ gs) s k × NoneBelow rules (f ∷ gs) (number_of k) s

  -- what a step says of a text: its fault is right, or no row says something of the text
  abbrev pub Tells : List ℕ → Step → Type 0
  Tells s (Err k) = IsRight s k
  Tells s (Ok st) = (k : FaultKind) → Applies rules (f ∷ gs) s k → ⊥

  right_of : (s : List ℕ) (k : FaultKind) (r : Step) → fault k ≡ r → IsRight s k → Tells s r
  right_of s k r e h = subst (λ (x : Step). Tells s x) e h

  none_of : (s : List ℕ) (st : State) (r : Step) → ◌≡◌ {A = Step} (Ok st) r
      → ((k : FaultKind) → Applies rules (f ∷ gs) s k → ⊥) → Tells s r
  none_of s st r e h = subst (λ (x : Step). Tells s x) e h

  -- ---- text

  text_passed : (k b : ℕ) (s v : List ℕ) (m : ℕ) → k ≤ 15
      → ends_text rules.scripting f.name (b ∷ s) ≡ false
      → holds_raw_text rules.scripting f.name ≡ false → piece_at rules.names b s ≡ stands m v
      → (12 < k → (holds_parts f.name && not (list_all is_ascii_white_space v)) ≡ false)
      → TextPassed rules (f ∷ gs) k b s
  text_passed k b s v m u t r q p = record {
    at_most = u;
    goes = t;
    known = λ _ _ e. let z = sym q ∙ e in cc;
    right_number = λ _ _ e. let z = sym q ∙ e in cc;
    in_place = λ l _ h n x e w. let z = (stands_parts m n v x (sym q ∙ e)) in let y = p l in let i =
        rw (h, z, w) at y in cc;
    no_escape = λ _ h _. let z = rw r at h in cc;
  }
    where
      stands_parts : (m n : ℕ) (v x : List ℕ) → stands m v ≡ stands n x → v ≡ x
      stands_parts m n v x e = cc

  character_tells : (b : ℕ) (s run : List ℕ) (got : Step)
      → ends_text rules.scripting f.name (b ∷ s) ≡ false
      → holds_raw_text rules.scripting f.name ≡ false
      → (o : Piece) → piece_at rules.names b s ≡ o
      → character_step rules above_body (f ∷ gs) run s o ≡ got
      → Tells (b ∷ s) got
  character_tells b s run got t r (wrong l) q e = right_of (b ∷ s) l got e (go (piece_wrong rules.names b s l q))
    where
      text_here : IsTextWithReferences rules (f ∷ gs) (b ∷ s)
      text_here = (((λ z. let y = z in cc), t), r)

      go : IsWrongReference l → IsRight (b ∷ s) l
      go (inl w) = rw w (
        inl (text_here, (b, s, refl, q ∙ ap wrong w)),
        none_below_text rules (f ∷ gs) 5 b s (record {
          at_most = omega arith;
          goes = t;
          known = λ z. absurd (omega arith);
          right_number = λ z. absurd (omega arith);
          in_place = λ z. absurd (omega arith);
          no_escape = λ z. absurd (omega arith);
        }),
      )
      go (inr w) = rw w (
        inl (text_here, (b, s, refl, q ∙ ap wrong w)),
        none_below_text rules (f ∷ gs) 6 b s (record {
          at_most = omega arith;
          goes = t;
          known = λ _ _ z. let y = sym (q ∙ ap wrong w) ∙ z in cc;
          right_number = λ z. absurd (omega arith);
          in_place = λ z. absurd (omega arith);
          no_escape = λ z. absurd (omega arith);
        }),
      )
  character_tells b s run got t r (stands m v) q e =
      elim (if_then (holds_parts f.name && not (list_all is_ascii_white_space v)) (fault StrayText) _ got e) [
        | inl w ↦
            let p = and_parts (holds_parts f.name) (not (list_all is_ascii_white_space v)) w.0 in
            right_of (b ∷ s) StrayText got w.1 (
              (text_here, p.0, m, v, (b, s, refl, q), not-true (list_all is_ascii_white_space v) p.1),
              none_below_text rules (f ∷ gs) 12 b s
                  (text_passed 12 b s v m (omega arith) t r q (λ z. absurd (omega arith))),
            )
        | inr w ↦ elim (if_then (is_too_deep rules above_body (f ∷ gs)) (fault TooDeep)
            (Ok (record { stack = f ∷ gs; run = run ++ v; rest = drop m s })) got w.1) [
              | inl u ↦ right_of (b ∷ s) TooDeep got u.1 (
                inl (ltb-true rules.depth (length Here) u.0, inl (text_here.0)),
                none_below_text rules (f ∷ gs) 15 b s (text_passed 15 b s v m (omega arith) t r q (λ _. w.0)),
              )
              | inr u ↦ none_of (b ∷ s) _ got u.1 (none_of_text rules (f ∷ gs) b s
                  (text_passed 15 b s v m (omega arith) t r q (λ _. w.0)) (shallow rules above_body (f ∷ gs) u.0))
            ]
      ]
    where
      text_here : IsTextWithReferences rules (f ∷ gs) (b ∷ s)
      text_here = (((λ z. let y = z in cc), t), r)

  text_tells : (run rest : List ℕ) (got : Step) → is_empty rest ≡ false
      → ends_text rules.scripting f.name rest ≡ false → holds_raw_text rules.scripting f.name ≡ false
      → text_step rules above_body (f ∷ gs) run rest ≡ got → Tells rest got
  text_tells run [] got n t r e = absurd (cc)
  text_tells run (b ∷ s) got n t r e = character_tells b s run got t r (piece_at rules.names b s) refl e

  raw_is : (u : List ℕ) (o : Option (List ℕ)) → holds_raw_text rules.scripting f.name ≡ true
      → text_of rules f.name u ≡ o → raw_text_of f.name u ≡ o
  raw_is u o r q = rw r at q

  -- text without references
  raw_tells : (rest : List ℕ) (got : Step) → is_empty rest ≡ false
      → ends_text rules.scripting f.name rest ≡ false → holds_raw_text rules.scripting f.name ≡ true
      → f.children ≡ none
      → (o : Option (List ℕ)) → text_of rules f.name (up_to (ends_text rules.scripting f.name) rest) ≡ o
      → raw_text_step rules above_body (f ∷ gs) o (onward (ends_text rules.scripting f.name) rest) ≡ got
      → Tells rest got
  raw_tells [] got n t r c o q e = absurd (cc)
  raw_tells (b ∷ s) got n t r c None q e = right_of (b ∷ s) ScriptEscape got e (
    (((λ z. let y = z in cc), t), c, r, raw_is (up_to (ends_text rules.scripting f.name) (b ∷ s)) None r q),
    none_below_text rules (f ∷ gs) 14 b s (record {
      at_most = omega arith;
      goes = t;
      known = λ _ h _. let z = rw r at h in cc;
      right_number = λ _ h _. let z = rw r at h in cc;
      in_place = λ _ h _ _ _ _ _. let z = rw r at h in cc;
      no_escape = λ z. absurd (omega arith);
    }),
  )
  raw_tells (b ∷ s) got n t r c (Some u) q e =
      elim (if_then (is_too_deep rules above_body (f ∷ gs)) (fault TooDeep) _ got e) [
        | inl w ↦ right_of (b ∷ s) TooDeep got w.1 (
          inl (ltb-true rules.depth (length Here) w.0, inl ((λ z. let y = z in cc), t)),
          none_below_text rules (f ∷ gs) 15 b s escaped,
        )
        | inr w ↦ none_of (b ∷ s) _ got w.1
            (none_of_text rules (f ∷ gs) b s escaped (shallow rules above_body (f ∷ gs) w.0))
      ]
    where
      escaped : TextPassed rules (f ∷ gs) 15 b s
      escaped = record {
        at_most = omega arith;
        goes = t;
        known = λ _ h _. let z = rw r at h in cc;
        right_number = λ _ h _. let z = rw r at h in cc;
        in_place = λ _ h _ _ _ _ _. let z = rw r at h in cc;
        no_escape = λ _ _ z.
            let x = sym (raw_is (up_to (ends_text rules.scripting f.name) (b ∷ s)) (Some u) r q) ∙ z in
            cc;
      }

  -- ---- declarations and comments

  comment_tells : (w : List ℕ) (got : Step)
      → ends_text rules.scripting f.name (less_than_sign ∷ exclamation_mark ∷ w) ≡ true
      → begins_with (codes "--") w ≡ true
      → (o : Option (List ℕ × List ℕ)) → before_comment_end (drop 2 w) ≡ o
      → comment_step rules above_body (f ∷ gs) o
      ≡ got → Tells (less_than_sign ∷ exclamation_mark ∷ w) got
  comment_tells w got m b None q e = right_of (less_than_sign ∷ exclamation_mark ∷ w) MalformedComment got e (
    (m, b, λ h. let c = comment_is_read exclamation_mark w h in let z = sym q ∙ c.4 in cc),
    none_below_five rules (f ∷ gs) 3 (less_than_sign ∷ exclamation_mark ∷ w) (omega arith) (λ _. refl)
        (λ z. absurd (omega arith)),
  )
  comment_tells w got m b (Some p) q e =
      elim (if_then (is_comment_text p.0) (steps.add rules above_body (f ∷ gs) (comment (normalized p.0)) p.1)
      (fault MalformedComment) got e) [
        | inl u ↦ elim (if_then (is_too_deep rules above_body (f ∷ gs)) (fault TooDeep) _ got u.1) [
          | inl y ↦ right_of (less_than_sign ∷ exclamation_mark ∷ w) TooDeep got y.1 (
            inl (ltb-true rules.depth (length Here) y.0, inr (m, has u.0)),
            none_below_comment rules (f ∷ gs) 15 w (omega arith) (has u.0) m,
          )
          | inr y ↦ none_of (less_than_sign ∷ exclamation_mark ∷ w) _ got y.1
              (none_of_comment rules (f ∷ gs) w (has u.0) m (shallow rules above_body (f ∷ gs) y.0))
        ]
        | inr u ↦ right_of (less_than_sign ∷ exclamation_mark ∷ w) MalformedComment got u.1 (
          (
            m,
            b,
            λ h. let c = comment_is_read exclamation_mark w h in let z : cut (p.0) (p.1) ≡ cut c.2 c.3 =
                sym q ∙ c.4 in
                let y = (cut_same (p.0) (p.1) c.2 c.3 z).0 in not_both (is_comment_text p.0) (ap is_comment_text y
                ∙ c.5) u.0,
          ),
          none_below_five rules (f ∷ gs) 3 (less_than_sign ∷ exclamation_mark ∷ w) (omega arith) (λ _. refl)
              (λ z. absurd (omega arith)),
        )
      ]
    where
      has : is_comment_text p.0 ≡ true → HasComment (less_than_sign ∷ exclamation_mark ∷ w)
      has i =
          let t = before_close-split (drop 2 w) p.0 p.1 q in (
            less_than_sign ∷ exclamation_mark ∷ hyphen ∷ hyphen ∷ t.0,
            p.1,
            normalized p.0,
            ap (λ (y : List ℕ). less_than_sign ∷ exclamation_mark ∷ y) (dashes w b
                ∙ ap (λ (y : List ℕ). hyphen ∷ hyphen ∷ y) t.1),
            (t.0, p.0, refl, t.2, i, refl),
          )

  declaration_tells : (w : List ℕ) (got : Step)
      → ends_text rules.scripting f.name (less_than_sign ∷ exclamation_mark ∷ w) ≡ true
      → declaration_step rules above_body (f ∷ gs) w ≡ got
      → Tells (less_than_sign ∷ exclamation_mark ∷ w) got
  declaration_tells w got m e =
      elim (if_then (begins_with (codes "--") w)
      (comment_step rules above_body (f ∷ gs) (before_comment_end (drop 2 w)))
      (fault MalformedDeclaration) got e) [
        | inl u ↦ comment_tells w got m u.0 (before_comment_end (drop 2 w)) refl u.1
        | inr u ↦ right_of (less_than_sign ∷ exclamation_mark ∷ w) MalformedDeclaration got u.1 (
          (m, inr (refl, u.0)),
          none_below_five rules (f ∷ gs) 4 (less_than_sign ∷ exclamation_mark ∷ w) (omega arith) (λ _. refl)
              (λ _. u.0),
        )
      ]

  question_tells : (w : List ℕ) (got : Step)
      → ends_text rules.scripting f.name (less_than_sign ∷ question_mark ∷ w)
      ≡ true
      → fault MalformedDeclaration ≡ got → Tells (less_than_sign ∷ question_mark ∷ w) got
  question_tells w got m e = right_of (less_than_sign ∷ question_mark ∷ w) MalformedDeclaration got e (
    (m, inl refl),
    none_below_five rules (f ∷ gs) 4 (less_than_sign ∷ question_mark ∷ w) (omega arith) (λ _. refl)
        (λ _. refl),
  )

  -- ---- end tags

  close_tells : (w n x : List ℕ) (got : Step)
      → ends_text rules.scripting f.name (less_than_sign ∷ slash ∷ w) ≡ true
      → HasEndTag (less_than_sign ∷ slash ∷ w) n → is_outside n ≡ false → name_read w ≡ n
      → close_step rules above_body (f ∷ gs) n x
      ≡ got → Tells (less_than_sign ∷ slash ∷ w) got
  close_tells w n x got m h o r e = closing gs refl e
    where
      strays : (f.name ≢ n) ⊎ (length (f ∷ gs) ≤ 1) → fault StrayEndTag ≡ got
          → Tells (less_than_sign ∷ slash ∷ w) got
      strays q e = right_of (less_than_sign ∷ slash ∷ w) StrayEndTag got e (
        (m, n, h, q),
        none_below_end rules (f ∷ gs) 11 w n (omega arith) (λ _. h) (λ _. ap is_outside r ∙ o) m,
      )

      closing : (hs : List OpenElement) → gs ≡ hs → close_step rules above_body (f ∷ hs) n x ≡ got
          → Tells (less_than_sign ∷ slash ∷ w) got
      closing [] i e = strays (inr (rw i (omega arith))) e
      closing (g ∷ hs) i e = elim (if_then (bytes_eq f.name n) _ (fault StrayEndTag) got e) [
        | inl u ↦ none_of (less_than_sign ∷ slash ∷ w) _ got u.1 (none_of_end rules (f ∷ gs) w n h
            (ap is_outside r ∙ o) m (same_bytes f.name n u.0) r (rw i (omega arith)))
        | inr u ↦ strays (inl (λ q. not_both (bytes_eq f.name n) (rw q (bytes_same n)) u.0)) u.1
      ]

  end_tells : (w : List ℕ) (got : Step)
      → ends_text rules.scripting f.name (less_than_sign ∷ slash ∷ w) ≡ true
      → end_tag_step rules above_body (f ∷ gs) w ≡ got → Tells (less_than_sign ∷ slash ∷ w) got
  end_tells w got m e = elim (if_then (is_tag_name (leading_run is_tag_name_byte w))
      (name_step rules above_body (f ∷ gs) (name_read w) (behind_run is_tag_name_byte w)) (fault MalformedTag)
      got e) [
        | inl u ↦ elim (if_then (first_is greater_than_sign
            (behind_run is_ascii_white_space (behind_run is_tag_name_byte w))) _
            (fault MalformedTag) got u.1) [
              | inl y ↦ ended u.0 y.0 (if_then (is_outside (name_read w)) (fault TagOutside)
                  (close_step rules above_body (f ∷ gs) (name_read w)
                  (drop 1 (behind_run is_ascii_white_space (behind_run is_tag_name_byte w)))) got y.1)
              | inr y ↦ right_of (less_than_sign ∷ slash ∷ w) MalformedTag got y.1
                  (malformed_here (λ n h. not_both _ (end_is_read slash w n h).2 y.0))
            ]
        | inr u ↦ right_of (less_than_sign ∷ slash ∷ w) MalformedTag got u.1
            (malformed_here (λ n h. not_both _ (end_is_read slash w n h).1 u.0))
      ]
    where
      malformed_here : ((n : List ℕ) → HasEndTag (less_than_sign ∷ slash ∷ w) n → ⊥)
          → IsRight (less_than_sign ∷ slash ∷ w) MalformedTag
      malformed_here h = (
        (m, refl, (λ n spelled present t. let a = form_letter slash w n spelled present t in cc), h),
        none_below_five rules (f ∷ gs) 2 (less_than_sign ∷ slash ∷ w) (omega arith) (λ z. absurd (omega arith))
            (λ z. absurd (omega arith)),
      )

      ended : is_tag_name (leading_run is_tag_name_byte w) ≡ true
          → first_is greater_than_sign (behind_run is_ascii_white_space (behind_run is_tag_name_byte w)) ≡ true
          → ((is_outside (name_read w) ≡ true) × (fault TagOutside ≡ got))
          ⊎ ((is_outside (name_read w) ≡ false)
          × (close_step rules above_body (f ∷ gs) (name_read w)
          (drop 1 (behind_run is_ascii_white_space (behind_run is_tag_name_byte w))) ≡ got))
          → Tells (less_than_sign ∷ slash ∷ w) got
      ended i j (inl z) = right_of (less_than_sign ∷ slash ∷ w) TagOutside got z.1 (
        (m, name_read w, z.0, inr (end_tag_there w i j)),
        none_below_end rules (f ∷ gs) 9 w (name_read w) (omega arith) (λ _. end_tag_there w i j)
            (λ y. absurd (omega arith)) m,
      )
      ended i j (inr z) = close_tells w (name_read w)
          (drop 1 (behind_run is_ascii_white_space (behind_run is_tag_name_byte w))) got m (end_tag_there w i j) z.0
          refl
          z.1

  -- ---- start tags

  -- a start tag that is read there
  record TagThere (d : ℕ) (w x : List ℕ) (spelled : List AttributePair) (present : Bool) : Type 0 where
    markup : ends_text rules.scripting f.name (less_than_sign ∷ d ∷ w) ≡ true
    letter : is_ascii_alphabetic d ≡ true
    called : is_tag_name (leading_run is_tag_name_byte (d ∷ w)) ≡ true
    reads_so : form_read_behind (d ∷ w) ≡ form spelled present x

  tag_has : (d : ℕ) (w x : List ℕ) (spelled : List AttributePair) (present : Bool)
      → TagThere d w x spelled present
      → HasTagForm (less_than_sign ∷ d ∷ w) (name_read (d ∷ w)) spelled present
  tag_has d w x spelled present t =
      let name : List ℕ = leading_run is_tag_name_byte (d ∷ w) in
      let r : List ℕ = behind_run is_tag_name_byte (d ∷ w) in
      let i = tag_spelled (suc (length r)) r x spelled present t.reads_so in (
        less_than_sign ∷ (name ++ i.0),
        x,
        ap (λ (y : List ℕ). less_than_sign ∷ y) (back_split is_tag_name_byte (d ∷ w)
            ∙ (ap (λ (y : List ℕ). name ++ y) i.1 ∙ sym (append_assoc name i.0 x))),
        (name, i.0, refl, t.called, refl, i.2),
      )

  tag_passed : (d : ℕ) (w x : List ℕ) (spelled : List AttributePair) (present : Bool)
      → TagThere d w x spelled present
      → (k : ℕ) → k ≤ 15
      → (5 < k → list_any (λ a. has_unknown_reference rules.names a.value) spelled ≡ false)
      → (6 < k → list_any (λ a. has_bad_number rules.names a.value) spelled ≡ false)
      → (7 < k → are_distinct (attribute_names spelled) ≡ true)
      → (8 < k → present ≡ true → is_void (name_read (d ∷ w)) ≡ true)
      → (9 < k → is_outside (name_read (d ∷ w)) ≡ false)
      → (10 < k → is_allowed rules.scripting
      (context_for rules (f ∷ gs) (less_than_sign ∷ d ∷ w) (name_read (d ∷ w)))
      (name_read (d ∷ w)) ≡ true)
      → TagPassed rules (f ∷ gs) k d w (name_read (d ∷ w)) spelled present
  tag_passed d w x spelled present t k u a b c v o l = record {
    at_most = u;
    markup = t.markup;
    letter = t.letter;
    has = tag_has d w x spelled present t;
    only = λ m others with_slash h.
        same_form (d ∷ w) (name_read (d ∷ w)) x spelled present m others with_slash refl t.reads_so h;
    known = a;
    right_numbers = b;
    distinct = c;
    may_close = v;
    inside = o;
    allowed = l;
  }

  passed : (d : ℕ) (w x : List ℕ) (spelled : List AttributePair) (present : Bool) → TagThere d w x spelled present
      → (k : ℕ) → k ≤ 15
      → (5 < k → list_any (λ a. has_unknown_reference rules.names a.value) spelled ≡ false)
      → (6 < k → list_any (λ a. has_bad_number rules.names a.value) spelled ≡ false)
      → (7 < k → are_distinct (attribute_names spelled) ≡ true)
      → (8 < k → present ≡ true → is_void (name_read (d ∷ w)) ≡ true)
      → (9 < k → is_outside (name_read (d ∷ w)) ≡ false)
      → (10 < k → is_allowed rules.scripting
      (context_for rules (f ∷ gs) (less_than_sign ∷ d ∷ w) (name_read (d ∷ w)))
      (name_read (d ∷ w)) ≡ true)
      → NoneBelow rules (f ∷ gs) k (less_than_sign ∷ d ∷ w)
  passed d w x spelled present t k u a b c v o l =
      none_below_tag rules (f ∷ gs) k d w (name_read (d ∷ w)) spelled present
      (tag_passed d w x spelled present t k u a b c v o l)

  malformed_tag : (d : ℕ) (w : List ℕ) → ends_text rules.scripting f.name (less_than_sign ∷ d ∷ w) ≡ true
      → is_ascii_alphabetic d ≡ true
      → ((n : List ℕ) (spelled : List AttributePair) (present : Bool)
      → HasTagForm (less_than_sign ∷ d ∷ w) n spelled present → ⊥)
      → IsRight (less_than_sign ∷ d ∷ w) MalformedTag
  malformed_tag d w m a h = (
    (m, rw a refl, h, (λ n t. let i = (end_is_read d w n t).0 in let z = rw i at a in cc)),
    none_below_five rules (f ∷ gs) 2 (less_than_sign ∷ d ∷ w) (omega arith) (λ z. absurd (omega arith))
        (λ z. absurd (omega arith)),
  )

  -- what is known of a tag before its place is asked
  record TagRight (n : List ℕ) (spelled : List AttributePair) (present : Bool) : Type 0 where
    known : list_any (λ a. has_unknown_reference rules.names a.value) spelled ≡ false
    right_numbers : list_any (λ a. has_bad_number rules.names a.value) spelled ≡ false
    distinct : are_distinct (attribute_names spelled) ≡ true
    may_close : present ≡ true → is_void n ≡ true
    inside : is_outside n ≡ false

  open_tells : (d : ℕ) (w x : List ℕ) (spelled attributes : List AttributePair) (present : Bool) (got : Step)
      (hs : List OpenElement) → TagThere d w x spelled present → TagRight (name_read (d ∷ w)) spelled present
      → context_for rules (f ∷ gs) (less_than_sign ∷ d ∷ w) (name_read (d ∷ w)) ≡ names_of above_body hs
      → length Here ≤ length (names_of above_body hs)
      → open_step rules above_body hs (name_read (d ∷ w)) attributes x ≡ got
      → Tells (less_than_sign ∷ d ∷ w) got
  open_tells d w x spelled attributes present got hs t r c within e =
      elim (if_then (not (is_allowed rules.scripting (names_of above_body hs) (name_read (d ∷ w))))
      (fault NotAllowedHere) _ got e) [
        | inl u ↦ right_of (less_than_sign ∷ d ∷ w) NotAllowedHere got u.1 (
          (
            t.markup,
            name_read (d ∷ w),
            spelled,
            present,
            tag_has d w x spelled present t,
            ap (λ (y : Context). is_allowed rules.scripting y (name_read (d ∷ w))) c
                ∙ not-true (is_allowed rules.scripting (names_of above_body hs) (name_read (d ∷ w))) u.0,
          ),
          passed d w x spelled present t 10 (omega arith) (λ _. r.known) (λ _. r.right_numbers) (λ _. r.distinct)
              (λ _. r.may_close) (λ _. r.inside) (λ z. absurd (omega arith)),
        )
        | inr u ↦ elim (if_then (is_too_deep rules above_body hs) (fault TooDeep) _ got u.1) [
          | inl y ↦ right_of (less_than_sign ∷ d ∷ w) TooDeep got y.1 (
            inr (
              t.markup,
              name_read (d ∷ w),
              spelled,
              present,
              tag_has d w x spelled present t,
              subst (λ (z : Context). rules.depth < length z) (sym c)
                  (ltb-true rules.depth (length (names_of above_body hs)) y.0),
            ),
            passed d w x spelled present t 15 (omega arith) (λ _. r.known) (λ _. r.right_numbers) (λ _. r.distinct)
                (λ _. r.may_close) (λ _. r.inside)
                (λ _. ap (λ (z : Context). is_allowed rules.scripting z (name_read (d ∷ w))) c
                ∙ not-false (is_allowed rules.scripting (names_of above_body hs) (name_read (d ∷ w))) u.0),
          )
          | inr y ↦ elim (if_then (is_void (name_read (d ∷ w))) _ _ got y.1) [
            | inl z ↦ none_of (less_than_sign ∷ d ∷ w) _ got z.1 (opens u.0 y.0)
            | inr z ↦ none_of (less_than_sign ∷ d ∷ w) _ got z.1 (opens u.0 y.0)
          ]
        ]
      ]
    where
      opens : not (is_allowed rules.scripting (names_of above_body hs) (name_read (d ∷ w))) ≡ false
          → is_too_deep rules above_body hs ≡ false
          → (k : FaultKind) → Applies rules (f ∷ gs) (less_than_sign ∷ d ∷ w) k → ⊥
      opens u y =
          let a = shallow rules above_body hs y in
          none_of_tag rules (f ∷ gs) d w (name_read (d ∷ w)) spelled present
          (tag_passed d w x spelled present t 15 (omega arith) (λ _. r.known) (λ _. r.right_numbers)
          (λ _. r.distinct) (λ _. r.may_close) (λ _. r.inside)
          (λ _. ap (λ (z : Context). is_allowed rules.scripting z (name_read (d ∷ w))) c
          ∙ not-false (is_allowed rules.scripting (names_of above_body hs) (name_read (d ∷ w))) u))
          (omega arith) (subst (λ (z : Context). length z ≤ rules.depth) (sym c) a)

  place_tells : (d : ℕ) (w x : List ℕ) (spelled attributes : List AttributePair) (present : Bool) (got : Step)
      → TagThere d w x spelled present → TagRight (name_read (d ∷ w)) spelled present
      → place_step rules above_body (f ∷ gs) (name_read (d ∷ w)) attributes x ≡ got
      → Tells (less_than_sign ∷ d ∷ w) got
  place_tells d w x spelled attributes present got t r e =
      elim (if_then (is_row (name_read (d ∷ w)) && bytes_eq f.name (codes "table")) _
      (open_step rules above_body (f ∷ gs) (name_read (d ∷ w)) attributes x) got e) [
        | inl u ↦
            let p = and_parts (is_row (name_read (d ∷ w))) (bytes_eq f.name (codes "table")) u.0 in
            elim (if_then (is_too_deep rules above_body (f ∷ gs)) (fault TooDeep)
            (open_step rules above_body (fresh (codes "tbody") [] true ∷ f ∷ gs) (name_read (d ∷ w)) attributes x)
            got u.1) [
              | inl y ↦ right_of (less_than_sign ∷ d ∷ w) TooDeep got y.1 (
                inr (
                  t.markup,
                  name_read (d ∷ w),
                  spelled,
                  present,
                  tag_has d w x spelled present t,
                  subst (λ (z : Context). rules.depth < length z) (sym (row_context p.0 p.1))
                      (let l = ltb-true rules.depth (length Here) y.0 in omega arith),
                ),
                passed d w x spelled present t 15 (omega arith) (λ _. r.known) (λ _. r.right_numbers)
                    (λ _. r.distinct)
                    (λ _. r.may_close) (λ _. r.inside)
                    (λ _. ap (λ (z : Context). is_allowed rules.scripting z (name_read (d ∷ w)))
                    (row_context p.0 p.1)
                    ∙ (ap (is_allowed rules.scripting (codes "tbody" ∷ Here))
                    (one_name (codes "tr") (name_read (d ∷ w)) p.0) ∙ row_fits rules.scripting Here)),
              )
              | inr y ↦ open_tells d w x spelled attributes present got (fresh (codes "tbody") [] true ∷ f ∷ gs) t
                  r
                  (row_context p.0 p.1) (omega arith) y.1
            ]
        | inr u ↦ open_tells d w x spelled attributes present got (f ∷ gs) t r (plain_context u.0) (omega arith) u.1
      ]
    where
      row_context : is_row (name_read (d ∷ w)) ≡ true → bytes_eq f.name (codes "table") ≡ true
          → context_for rules (f ∷ gs) (less_than_sign ∷ d ∷ w) (name_read (d ∷ w)) ≡ codes "tbody" ∷ Here
      row_context a b = rw (a, b) refl

      plain_context : (is_row (name_read (d ∷ w)) && bytes_eq f.name (codes "table")) ≡ false
          → context_for rules (f ∷ gs) (less_than_sign ∷ d ∷ w) (name_read (d ∷ w)) ≡ Here
      plain_context a = rw (or-false (bytes_eq f.name (codes "table")), a) refl

  values_tells : (d : ℕ) (w x : List ℕ) (spelled : List AttributePair) (present : Bool) (got : Step)
      → TagThere d w x spelled present
      → list_any (λ a. has_unknown_reference rules.names a.value) spelled ≡ false
      → (o : Option (List AttributePair)) → decode_values rules.names spelled ≡ o
      → values_step rules above_body (f ∷ gs) (name_read (d ∷ w)) spelled present x o ≡ got
      → Tells (less_than_sign ∷ d ∷ w) got
  values_tells d w x spelled present got t a None q e = right_of (less_than_sign ∷ d ∷ w) BadNumber got e (
    inr (
      t.markup,
      name_read (d ∷ w),
      spelled,
      present,
      tag_has d w x spelled present t,
      values_wrong rules.names spelled q a,
    ),
    passed d w x spelled present t 6 (omega arith) (λ _. a) (λ z. absurd (omega arith)) (λ z. absurd (omega arith))
        (λ z. absurd (omega arith)) (λ z. absurd (omega arith)) (λ z. absurd (omega arith)),
  )
  values_tells d w x spelled present got t a (Some attributes) q e =
      elim (if_then (not (are_distinct (attribute_names spelled))) (fault DuplicateAttribute) _ got e) [
        | inl u ↦ right_of (less_than_sign ∷ d ∷ w) DuplicateAttribute got u.1 (
          (
            t.markup,
            name_read (d ∷ w),
            spelled,
            present,
            tag_has d w x spelled present t,
            not-true (are_distinct (attribute_names spelled)) u.0,
          ),
          passed d w x spelled present t 7 (omega arith) (λ _. a) (λ _. b) (λ z. absurd (omega arith))
              (λ z. absurd (omega arith)) (λ z. absurd (omega arith)) (λ z. absurd (omega arith)),
        )
        | inr u ↦
            let c = not-false (are_distinct (attribute_names spelled)) u.0 in
            elim (if_then (present && not (is_void (name_read (d ∷ w)))) (fault SelfClosing) _ got u.1) [
              | inl y ↦
                  let p = and_parts present (not (is_void (name_read (d ∷ w)))) y.0 in
                  right_of (less_than_sign ∷ d ∷ w) SelfClosing got y.1 (
                    (
                      t.markup,
                      name_read (d ∷ w),
                      spelled,
                      subst (λ (z : Bool). HasTagForm (less_than_sign ∷ d ∷ w) (name_read (d ∷ w)) spelled z) p.0
                          (tag_has d w x spelled present t),
                      not-true (is_void (name_read (d ∷ w))) p.1,
                    ),
                    passed d w x spelled present t 8 (omega arith) (λ _. a) (λ _. b) (λ _. c)
                        (λ z. absurd (omega arith))
                        (λ z. absurd (omega arith)) (λ z. absurd (omega arith)),
                  )
              | inr y ↦
                  let v = slashed present (is_void (name_read (d ∷ w))) y.0 in
                  elim (if_then (is_outside (name_read (d ∷ w))) (fault TagOutside)
                  (place_step rules above_body (f ∷ gs) (name_read (d ∷ w)) attributes x) got y.1) [
                    | inl z ↦ right_of (less_than_sign ∷ d ∷ w) TagOutside got z.1 (
                      (t.markup, name_read (d ∷ w), z.0, inl (spelled, present, tag_has d w x spelled present t)),
                      passed d w x spelled present t 9 (omega arith) (λ _. a) (λ _. b) (λ _. c) (λ _. v)
                          (λ z. absurd (omega arith)) (λ z. absurd (omega arith)),
                    )
                    | inr z ↦ place_tells d w x spelled attributes present got t
                        (record { known = a; right_numbers = b; distinct = c; may_close = v; inside = z.0 }) z.1
                  ]
            ]
      ]
    where
      b : list_any (λ a. has_bad_number rules.names a.value) spelled ≡ false
      b = values_right rules.names spelled attributes q

  form_tells : (d : ℕ) (w : List ℕ) (got : Step)
      → ends_text rules.scripting f.name (less_than_sign ∷ d ∷ w) ≡ true
      → is_ascii_alphabetic d ≡ true → is_tag_name (leading_run is_tag_name_byte (d ∷ w)) ≡ true
      → (o : TagForm) → form_read_behind (d ∷ w) ≡ o
      → form_step rules above_body (f ∷ gs) (name_read (d ∷ w)) o ≡ got
      → Tells (less_than_sign ∷ d ∷ w) got
  form_tells d w got m a i no_form q e =
      right_of (less_than_sign ∷ d ∷ w) MalformedTag got e
      (malformed_tag d w m a (λ n spelled present h. let z = sym q
      ∙ (form_is_read (d ∷ w) n spelled present h).3 in cc))
  form_tells d w got m a i (form spelled present x) q e =
      elim (if_then (list_any (λ a. has_unknown_reference rules.names a.value) spelled) (fault UnknownReference) _
      got e) [
        | inl u ↦ right_of (less_than_sign ∷ d ∷ w) UnknownReference got u.1 (
          inr (m, name_read (d ∷ w), spelled, present, tag_has d w x spelled present there, u.0),
          passed d w x spelled present there 5 (omega arith) (λ z. absurd (omega arith)) (λ z. absurd (omega arith))
              (λ z. absurd (omega arith)) (λ z. absurd (omega arith)) (λ z. absurd (omega arith))
              (λ z. absurd (omega arith)),
        )
        | inr u ↦ values_tells d w x spelled present got there u.0 (decode_values rules.names spelled) refl u.1
      ]
    where
      there : TagThere d w x spelled present
      there = record { markup = m; letter = a; called = i; reads_so = q }

  start_tells : (d : ℕ) (w : List ℕ) (got : Step)
      → ends_text rules.scripting f.name (less_than_sign ∷ d ∷ w) ≡ true
      → is_ascii_alphabetic d ≡ true → start_tag_step rules above_body (f ∷ gs) (d ∷ w) ≡ got
      → Tells (less_than_sign ∷ d ∷ w) got
  start_tells d w got m a e =
      elim (if_then (is_tag_name (leading_run is_tag_name_byte (d ∷ w)))
      (form_step rules above_body (f ∷ gs) (name_read (d ∷ w)) (form_read_behind (d ∷ w))) (fault MalformedTag)
      got e) [
        | inl u ↦ form_tells d w got m a u.0 (form_read_behind (d ∷ w)) refl u.1
        | inr u ↦ right_of (less_than_sign ∷ d ∷ w) MalformedTag got u.1
            (malformed_tag d w m a (λ n spelled present h. not_both _ (form_is_read (d ∷ w) n spelled present h).0
            u.0))
      ]

  -- ---- all of them

  letter_here : (d : ℕ) (w : List ℕ) → ends_text rules.scripting f.name (less_than_sign ∷ d ∷ w) ≡ true
      → (d == slash) ≡ false
      → (d == exclamation_mark) ≡ false → (d == question_mark) ≡ false → is_ascii_alphabetic d ≡ true
  letter_here d w m a b c = test (holds_text_alone rules.scripting f.name) (λ t. absurd (let z = rw (t, a) at m in cc))
      (λ t. let z = rw (t, a, b, c) at m in only_letter (is_ascii_alphabetic d) z)
    where
      only_letter : (l : Bool) → (l || false || false || false) ≡ true → l ≡ true
      only_letter true e = refl
      only_letter false e = absurd (cc)

  markup_tells_at : (d : ℕ) (w : List ℕ) (got : Step)
      → ends_text rules.scripting f.name (less_than_sign ∷ d ∷ w)
      ≡ true
      → markup_step rules above_body (f ∷ gs) (d ∷ w) ≡ got → Tells (less_than_sign ∷ d ∷ w) got
  markup_tells_at d w got m e = elim (if_then (d == slash) (end_tag_step rules above_body (f ∷ gs) w) _ got e) [
    | inl u ↦ (let i = eqb-true d slash u.0 in subst (λ (y : ℕ). Tells (less_than_sign ∷ y ∷ w) got) (sym i)
        (end_tells w got (subst (λ (y : ℕ). ends_text rules.scripting f.name (less_than_sign ∷ y ∷ w) ≡ true) i
        m) u.1))
    | inr u ↦ elim (if_then (d == exclamation_mark) (declaration_step rules above_body (f ∷ gs) w) _ got u.1) [
      | inl y ↦ (let i =
          eqb-true d exclamation_mark y.0 in subst (λ (z : ℕ). Tells (less_than_sign ∷ z ∷ w) got)
          (sym i)
          (declaration_tells w got (subst
          (λ (z : ℕ). ends_text rules.scripting f.name (less_than_sign ∷ z ∷ w) ≡ true) i
          m) y.1))
      | inr y ↦ elim (if_then (d == question_mark) (fault MalformedDeclaration)
          (start_tag_step rules above_body (f ∷ gs) (d ∷ w))
          got y.1) [
            | inl z ↦ (let i =
                eqb-true d question_mark z.0 in subst (λ (v : ℕ). Tells (less_than_sign ∷ v ∷ w) got)
                (sym i)
                (question_tells w got (subst (λ (v : ℕ). ends_text rules.scripting f.name
                (less_than_sign ∷ v ∷ w)
                ≡ true) i m) z.1))
            | inr z ↦ start_tells d w got m (letter_here d w m u.0 y.0 z.0) z.1
          ]
    ]
  ]

  markup_tells : (rest : List ℕ) (got : Step) → ends_text rules.scripting f.name rest ≡ true
      → markup_step rules above_body (f ∷ gs) (drop 1 rest) ≡ got → Tells rest got
  markup_tells rest got m e =
      let h = two_bytes rules.scripting f.name rest m in
      subst (λ (y : List ℕ). Tells y got) (sym h.2)
      (markup_tells_at h.0 h.1 got (ap (ends_text rules.scripting f.name) (sym h.2) ∙ m)
      (ap (λ (y : List ℕ). markup_step rules above_body (f ∷ gs) (drop 1 y)) (sym h.2) ∙ e))

  -- where no text and no implied `tbody` ends
  pub step_tells : (run rest : List ℕ) (got : Step)
      → (holds_raw_text rules.scripting f.name ≡ true → ends_text rules.scripting f.name rest ≡ false
      → is_empty rest ≡ false → f.children ≡ none) → (rest ≡ [] → 1 < length (f ∷ gs))
      → (not (is_empty run) && is_text_end rules above_body (f ∷ gs) rest) ≡ false
      → (f.implied && ends_rows rest) ≡ false
      → step rules above_body (record { stack = f ∷ gs; run = run; rest = rest }) ≡ got
      → Tells rest got
  unfolding step
  step_tells run rest got c o x y e = elim (if_then (ends_text rules.scripting f.name rest)
      (markup_step rules above_body (f ∷ gs) (drop 1 rest)) _ got (rw (x, y) at e)) [
        | inl u ↦ markup_tells rest got u.0 u.1
        | inr u ↦ elim (if_then (is_empty rest) (fault Unclosed) _ got u.1) [
          | inl v ↦ unclosed (empty_is rest v.0) v.1
          | inr v ↦ elim (if_then (holds_raw_text rules.scripting f.name) _
              (text_step rules above_body (f ∷ gs) run rest) got v.1) [
                | inl r ↦ raw_tells rest got v.0 u.0 r.0 (c r.0 u.0 v.0)
                    (text_of rules f.name (up_to (ends_text rules.scripting f.name) rest)) refl r.1
                | inr r ↦ text_tells run rest got v.0 u.0 r.0 r.1
              ]
        ]
      ]
    where
      unclosed : rest ≡ [] → fault Unclosed ≡ got → Tells rest got
      unclosed n e = subst (λ (y : List ℕ). Tells y got) (sym n)
          (right_of [] Unclosed got e ((refl, o n), none_below_nothing rules (f ∷ gs)))

  nothing_ends : (run rest : List ℕ) (k : FaultKind)
      → step rules above_body (record { stack = f ∷ gs; run = run; rest = rest }) ≡ Err k
      → ((not (is_empty run) && is_text_end rules above_body (f ∷ gs) rest) ≡ false)
      × ((f.implied && ends_rows rest) ≡ false)
  unfolding step
  nothing_ends run rest k e =
      elim (if_then (not (is_empty run) && is_text_end rules above_body (f ∷ gs) rest) _ _ (Err k) e) [
        | inl x ↦ absurd (no_fault _ k x.1)
        | inr x ↦ elim (if_then (f.implied && ends_rows rest) _ _ (Err k) x.1) [
          | inl y ↦ absurd (no_fault _ k y.1)
          | inr y ↦ (x.0, y.0)
        ]
      ]

  -- what a step's fault says is right, and no implied `tbody` ends there
  pub step_faulty : (run rest : List ℕ) (k : FaultKind)
      → (holds_raw_text rules.scripting f.name ≡ true → ends_text rules.scripting f.name rest ≡ false
      → is_empty rest ≡ false → f.children ≡ none) → (rest ≡ [] → 1 < length (f ∷ gs))
      → step rules above_body (record { stack = f ∷ gs; run = run; rest = rest }) ≡ Err k
      → IsRight rest k × ((f.implied && ends_rows rest) ≡ false)
  step_faulty run rest k c o e = let p = nothing_ends run rest k e in
      (step_tells run rest (Err k) c o p.0 p.1 e, p.1)
