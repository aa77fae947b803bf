-- What is left of a text at a state is an end of it.
use Rattle.std.proofs.Common.{Bool, List, None, Option, Some, [], ap, append_assoc, arith, codes, drop, inl, inr}
use Rattle.std.proofs.Common.{length, refl, subst, suc, sym, zero, ℕ, ◌++◌, ◌∙◌, ◌∷◌, ◌≡◌}
use Rattle.htmd_lexical.specs.Characters.{greater_than_sign}
use Rattle.htmd_lexical.specs.WhiteSpace.{is_ascii_white_space}
use Rattle.htmd_lexical.proofs.Cases.{test}
use Rattle.htmd_lexical.specs.CharacterClasses.{begins_in_any_case, begins_with, behind_run, first_is, leading_run}
use Rattle.htmd_grammar.specs.Comments.{behind_doctype, doctype_end, doctype_name, white_space_and_name}
use Rattle.htmd_grammar.specs.HtmlDocuments.{above_body, behind_prelude, body_text}
use Rattle.htmd_lexical.specs.ByteOrderMarks.{behind_mark, byte_order_mark}
use Rattle.htmd_grammar.specs.Laws.{FaultsRefuseDocuments, RestIsAnEnd}
use Rattle.htmd_grammar.specs.Rules.{Rules}
use Rattle.htmd_grammar.specs.ReaderSteps.{State, finished, started}
use Rattle.htmd_values.specs.ValueTrees.{ValueForest}
use Rattle.htmd_lexical.proofs.BooleanLemmas.{if_then}
use Rattle.htmd_grammar.proofs.ViablePrefixes.{refused}
use Rattle.htmd_grammar.proofs.Readings.{conf_start, kept}
use Rattle.htmd_lexical.proofs.LeadingRunsLemmas.{back_split}

abbrev pub IsEndOf : List ℕ → List ℕ → Type 0
IsEndOf rest s = (taken : List ℕ) × (s ≡ taken ++ rest)

whole_end : (s : List ℕ) → IsEndOf s s
whole_end s = ([], refl)

end_of_end : (r s t : List ℕ) → IsEndOf r s → IsEndOf s t → IsEndOf r t
end_of_end r s t h i = (i.0 ++ h.0, i.1 ∙ (ap (λ (y : List ℕ). i.0 ++ y) h.1 ∙ sym (append_assoc i.0 h.0 r)))

drop_end : (n : ℕ) (s : List ℕ) → IsEndOf (drop n s) s
drop_end zero s = ([], refl)
drop_end (suc n) [] = ([], refl)
drop_end (suc n) (b ∷ s) = let i = drop_end n s in (b ∷ i.0, ap (λ (y : List ℕ). b ∷ y) i.1)

run_end : (p : ℕ → Bool) (s : List ℕ) → IsEndOf (behind_run p s) s
run_end p s = (leading_run p s, back_split p s)

some_end : (x r : List ℕ) → ◌≡◌ {A = Option (List ℕ)} (Some x) (Some r) → x ≡ r
some_end x r e = cc

mark_end : (s : List ℕ) → IsEndOf (behind_mark s) s
mark_end s = test (begins_with byte_order_mark s) (λ t. rw t (drop_end 3 s)) (λ t. rw t (whole_end s))

-- after `<!doctype`, white space, `html`, white space and `>`
doctype_left : (s r : List ℕ) → behind_doctype s ≡ Some r → IsEndOf r s
doctype_left s r e = elim (if_then (begins_in_any_case (codes "<!doctype") s) _ None (Some r) e) [
  | inl w ↦ end_of_end r (drop 9 s) s (at_space (drop 9 s) w.1) (drop_end 9 s)
  | inr w ↦ absurd (let z = w.1 in cc)
]
  where
    closed_end : (x : List ℕ) → doctype_end x ≡ Some r → IsEndOf r x
    closed_end x e = elim (if_then (first_is greater_than_sign x) (Some (drop 1 x)) None (Some r) e) [
      | inl w ↦ subst (λ (y : List ℕ). IsEndOf y x) (some_end (drop 1 x) r w.1) (drop_end 1 x)
      | inr w ↦ absurd (let z = w.1 in cc)
    ]

    at_name : (x : List ℕ) → doctype_name x ≡ Some r → IsEndOf r x
    at_name x e = elim (if_then (begins_in_any_case (codes "html") x) _ None (Some r) e) [
      | inl w ↦ end_of_end r (behind_run is_ascii_white_space (drop 4 x)) x
          (closed_end (behind_run is_ascii_white_space (drop 4 x)) w.1)
          (end_of_end (behind_run is_ascii_white_space (drop 4 x)) (drop 4 x) x
          (run_end is_ascii_white_space (drop 4 x)) (drop_end 4 x))
      | inr w ↦ absurd (let z = w.1 in cc)
    ]

    at_space : (x : List ℕ) → white_space_and_name x ≡ Some r → IsEndOf r x
    at_space [] e = absurd (cc)
    at_space (b ∷ x) e = elim (if_then (is_ascii_white_space b) _ None (Some r) e) [
      | inl w ↦ end_of_end r (behind_run is_ascii_white_space x) (b ∷ x)
          (at_name (behind_run is_ascii_white_space x) w.1) (end_of_end (behind_run is_ascii_white_space x) x (b ∷ x)
          (run_end is_ascii_white_space x) (b ∷ [], refl))
      | inr w ↦ absurd (let z = w.1 in cc)
    ]

prelude_end : (s : List ℕ) → IsEndOf (body_text s) s
prelude_end s = go (behind_doctype (behind_mark s)) refl
  where
    go : (o : Option (List ℕ)) → behind_doctype (behind_mark s) ≡ o
        → IsEndOf (behind_prelude o (behind_mark s)) s
    go None e = mark_end s
    go (Some r) e = end_of_end r (behind_mark s) s (doctype_left (behind_mark s) r e) (mark_end s)

module _ (rules : Rules) where
  pub rest_is_an_end : RestIsAnEnd rules
  rest_is_an_end s st r =
      let k = kept rules above_body (started s) st [] r (conf_start rules above_body (body_text s)) in
      end_of_end st.rest (body_text s) s (k.0, k.1) (prelude_end s)

  pub documents_refused : FaultsRefuseDocuments rules
  documents_refused s st kind r e o t h =
      refused rules s st kind r e (λ content q. not_finished content q) (h.1) (h.3)
    where
      not_finished : (content : ValueForest) → st ≡ finished content → ⊥
      not_finished content q =
          let a : st.rest ≡ [] = ap (λ (x : State). x.rest) q in
          let b : length st.stack ≡ 1 = ap (λ (x : State). length x.stack) q in
          let c = o a in omega arith
