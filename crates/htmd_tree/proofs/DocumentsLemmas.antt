-- What a document is that was read to its end, or up to a fault.
use Rattle.std.proofs.Common.{◌≡◌, ℕ, ◌+◌, ◌-◌, ◌<◌, ◌≤◌, Bool, true, false, List, [], ◌∷◌, ◌++◌, length, Option, Some}
use Rattle.std.proofs.Common.{None, refl, sym, ap, ◌∙◌, subst, arith, Ok, Err, Result, is_some, inl, ◌&&◌, ◌==◌, not}
use Rattle.std.proofs.Common.{eqb-true}
use Rattle.std.specs.Prelude.{nat_lt}
use Rattle.std.specs.List.{list_any, position, position_or_len}
use Rattle.std.proofs.lemmas.Bool.{or_parts}
use Rattle.std.specs.Option.{MatchOption}
use Rattle.std.proofs.lemmas.Bool.Decides.{nat_tests}
use Rattle.htmd_lexical.proofs.Cases.{test}
use Rattle.std.proofs.lemmas.List.{append-nil, length-append}
use Rattle.htmd_lexical.specs.Characters.{null}
use Rattle.htmd_values.specs.ValueTrees.{ValueTree, ValueForest, document}
use Rattle.htmd_lexical.specs.CharacterClasses.{lacks}
use Rattle.htmd_grammar.specs.Comments.{behind_doctype}
use Rattle.htmd_grammar.specs.Rules.{project}
use Rattle.htmd_grammar.specs.HtmlDocuments.{above_body, body_text, with_doctype, skeleton}
use Rattle.htmd_lexical.specs.ByteOrderMarks.{behind_mark}
use Rattle.htmd_grammar.specs.HtmlDocuments.{ReadsDocument}
use Rattle.htmd_grammar.specs.ReaderSteps.{step, Reaches, started, finished, body, with_children}
use Rattle.htmd_grammar.specs.Faults.{IsFault, IsFirstNul}
use Rattle.htmd_grammar.specs.Laws.{StepsReadRightly, FaultsAreRight, FaultsRefuseDocuments, RestIsAnEnd}
use Rattle.htmd_grammar.specs.declared.fault.FaultKind.{FaultKind}
use Rattle.htmd_grammar.specs.declared.fault.FaultKind.TheVariants.{Nul}
use Rattle.htmd_nodes.specs.Items.{Item}
use Rattle.htmd_nodes.specs.Layout.{forest_items, document_items}
use Rattle.htmd_tree.proofs.NodeValuesLemmas.{laid_out}
use Rattle.htmd_tree.specs.Advances.{Ends, state_at, rules_of}
use Rattle.htmd_tree.specs.declared.reader.Reader.{Reader}
use Rattle.htmd_tree.specs.declared.reader.Stop.TheVariants.{Refused}
use Rattle.htmd_tree.specs.declared.reader.ReadError.{ReadError}
use Rattle.htmd_tree.specs.declared.reader.ReadError.TheVariants.{Refused as RefusedAt}

-- the document that was read
abbrev pub IsRead : Bool → List ℕ → List Item → Type 0
IsRead scripting s items =
    (children : ValueForest) × (items ≡ document_items children)
    × ReadsDocument (project scripting) s (document children)

pub read_rightly : (old new : Reader) (scripting : Bool) (s : List ℕ) → StepsReadRightly (project scripting)
    → lacks null s ≡ true → old.rest.now ≡ body_text s → old.scripting ≡ scripting
    → Ends old new (is_some (behind_doctype (behind_mark s))) (body ∷ []) (Ok tt) → IsRead scripting s new.tree
read_rightly old new scripting s sound l rest flag e =
    let reaches : Reaches (project scripting) above_body (started s) (finished (e.0)) =
    subst (λ b. Reaches (project b) above_body (started s) (finished (e.0))) flag
    (subst (λ t. Reaches (rules_of old) above_body (state_at (body ∷ []) t) (finished (e.0))) rest (e.2)) in (
      with_doctype (behind_doctype (behind_mark s)) (skeleton (e.0)),
      e.1 ∙ laid_out (behind_doctype (behind_mark s)) (e.0),
      (l, e.0, refl, sound s (e.0) reaches),
    )

-- ---- refusals

and_right : (x y : Bool) → (x && y) ≡ true → y ≡ true
and_right true y e = e
and_right false y e = absurd (cc)

abbrev is_null : ℕ → Bool
is_null b = b == null

nul_behind : (b : ℕ) (s : List ℕ) (n : ℕ) → (b == null) ≡ false → IsFirstNul s n
    → IsFirstNul (b ∷ s) (1 + n)
nul_behind b s n e f = record {
  before = b ∷ f.before;
  behind = f.behind;
  text_is = ap (λ t. b ∷ t) f.text_is;
  place_is =
      let k = f.place_is in omega arith;
  first = rw e f.first;
}

nul_at : (s : List ℕ) → position_or_len is_null s < length s → IsFirstNul s (position_or_len is_null s)
nul_at [] l = absurd (omega arith)
nul_at (b ∷ s) l = test (b == null)
    (λ e. rw e (record {
      before = [];
      behind = s;
      text_is = ap (λ c. c ∷ s) (eqb-true b null e);
      place_is = refl;
      first = refl;
    }))
    (λ e. rw e (nul_behind b s (position_or_len is_null s) e (nul_at s (let k = rw e at l in omega arith))))

no_nul : (s : List ℕ) → length s ≤ position_or_len is_null s → lacks null s ≡ true
no_nul [] l = refl
no_nul (b ∷ s) l = test (b == null) (λ e. let k = rw e at l in absurd (omega arith))
    (λ e. rw e (no_nul s (let k = rw e at l in omega arith)))

-- the first U+0000, or none
pub first_null_is : (s : List ℕ) (o : Option ℕ) → o ≡ position is_null s
    → MatchOption o (lacks null s ≡ true) (λ place. IsFirstNul s place)
first_null_is s o e = subst (λ x. MatchOption x (lacks null s ≡ true) (λ place. IsFirstNul s place)) (sym e)
    (test (nat_lt (position_or_len is_null s) (length s))
    (λ b. rw b (nul_at s (grind (arith, nat_tests)))) (λ b. rw b (no_nul s (grind (arith, nat_tests)))))

pub nul_refuses : (scripting : Bool) (s : List ℕ) (place : ℕ) → IsFirstNul s place → (t : ValueTree)
    → ReadsDocument (project scripting) s t → ⊥
nul_refuses scripting s place n t r =
    absurd (no_lack n.before n.behind (subst (λ x. lacks null x ≡ true) n.text_is (r.0)))
  where
    no_lack : (before behind : List ℕ) → lacks null (before ++ (null ∷ behind)) ≡ true → ⊥
    no_lack [] behind e = (cc)
    no_lack (b ∷ before) behind e = no_lack before behind (and_right (not (b == null)) _ e)

module _ (old new : Reader) (scripting : Bool) (s : List ℕ) (left : ℕ) (kind : FaultKind)
    (rest : old.rest.now ≡ body_text s) (flag : old.scripting ≡ scripting)
    (e : Ends old new (is_some (behind_doctype (behind_mark s))) (body ∷ []) (Err (Refused left kind))) where
  fault_reached : Reaches (project scripting) above_body (started s) (e.0)
  fault_reached =
      subst (λ b. Reaches (project b) above_body (started s) (e.0)) flag
      (subst (λ t. Reaches (rules_of old) above_body (state_at (body ∷ []) t) (e.0)) rest (e.1))

  fault_found : step (project scripting) above_body (e.0) ≡ Err kind
  fault_found = subst (λ b. step (project b) above_body (e.0) ≡ Err kind) flag (e.2)

  pub left_within : RestIsAnEnd (project scripting) → left ≤ length s
  left_within law =
      let t = law s (e.0) fault_reached in
      let n = ap length (t.1) ∙ length-append (t.0) (e.0).rest in
      let m = e.4 in
      omega arith

  pub fault_right : RestIsAnEnd (project scripting) → FaultsAreRight (project scripting) → lacks null s ≡ true
      → (place : ℕ) → place ≡ length s - left → IsFault (project scripting) s place kind
  fault_right ends law l place at =
      let w = left_within ends in
      let m = e.4 in
      law s (e.0) kind place l fault_reached fault_found (e.3) (omega arith)

  pub fault_refuses : FaultsRefuseDocuments (project scripting) → (t : ValueTree)
      → ReadsDocument (project scripting) s t → ⊥
  fault_refuses law t r = law s (e.0) kind fault_reached fault_found (e.3) t r

pub null_found : (s : List ℕ) (o : Option ℕ) (place : ℕ) → o ≡ position is_null s → o ≡ Some place
    → IsFirstNul s place
null_found s o place e f =
    subst (λ x. MatchOption x (lacks null s ≡ true) (λ k. IsFirstNul s k)) f (first_null_is s o e)

no_null_before : (s : List ℕ) → list_any is_null s ≡ false → position_or_len is_null s ≡ length s
no_null_before [] e = refl
no_null_before (b ∷ s) e =
    let parts = or_parts (b == null) (list_any is_null s) e in
    let more = no_null_before s parts.1 in
    rw parts.0 (omega (arith, more))

-- if no byte is U+0000, there is none anywhere
pub null_nowhere : (s : List ℕ) → list_any is_null s ≡ false → position is_null s ≡ None
null_nowhere s e =
    let past : nat_lt (length s) (length s) ≡ false = grind (arith, nat_tests) in
    rw (no_null_before s e, past) refl

pub null_lacks : (s : List ℕ) (o : Option ℕ) → o ≡ position is_null s → o ≡ None → lacks null s ≡ true
null_lacks s o e f = subst (λ x. MatchOption x (lacks null s ≡ true) (λ k. IsFirstNul s k)) f (first_null_is s o e)

pub same_refusal : {T : Type 0} (p q : ℕ) (k l : FaultKind)
    → ◌≡◌ {A = Result T ReadError} (Err (RefusedAt p k)) (Err (RefusedAt q l)) → (p ≡ q) × (k ≡ l)
same_refusal p q k l e = (cc, cc)

pub nul_is_right : (scripting : Bool) (s : List ℕ) (found place : ℕ) (kind : FaultKind) → IsFirstNul s found
    → (found ≡ place) × (Nul ≡ kind) → IsFault (project scripting) s place kind
nul_is_right scripting s found place kind n e =
    inl (sym (e.1), subst (λ k. IsFirstNul s k) (e.0) n)
