-- In any context that is not empty a text denotes at most one list of trees.
use Rattle.std.proofs.Common.{Bool, Err, List, Ok, [], ap, codes, false, inr, map, refl, subst, sym, true, ℕ, ◌++◌, ◌∙◌}
use Rattle.std.proofs.Common.{◌∷◌, ◌≡◌}
use Rattle.std.specs.Char.{to_ascii_lowercase}
use Rattle.std.specs.Prelude.{if◌then◌else◌}
use Rattle.std.specs.Str.{bytes_eq}
use Rattle.htmd_lexical.specs.CharacterClasses.{is_tag_name}
use Rattle.htmd_grammar.specs.HtmlDocuments.{ReadsDocument, above_body, body_text, document_tree}
use Rattle.htmd_grammar.specs.Faults.{top_children}
use Rattle.htmd_grammar.specs.Grammar.{reads}
use Rattle.htmd_grammar.specs.Nesting.{Context, is_table}
use Rattle.htmd_lexical.specs.EndTags.{goes_on_with_name}
use Rattle.htmd_grammar.specs.RawContent.{holds_text_alone}
use Rattle.htmd_grammar.specs.Rules.{Rules}
use Rattle.htmd_grammar.specs.ReaderSteps.{OpenElement, Reaches, State, Step, ends_rows, fault, fresh, here, step, via}
use Rattle.htmd_grammar.specs.ReaderSteps.{with_forest}
use Rattle.htmd_values.specs.ValueTrees.{ValueForest, ValueTree}
use Rattle.htmd_grammar.specs.declared.fault.FaultKind.{FaultKind}
use Rattle.htmd_grammar.specs.declared.fault.FaultKind.TheVariants.{MalformedTag}
use Rattle.htmd_lexical.proofs.BooleanLemmas.{and_false}
use Rattle.htmd_grammar.proofs.Completeness.{at_piece, nodes_read}
use Rattle.htmd_grammar.proofs.NestingLemmas.{one_name, text_alone_passes}
use Rattle.htmd_lexical.proofs.BytesLemmas.{same_bytes}
use Rattle.htmd_grammar.proofs.TextLemmas.{Stops, begins_name-lower, name_cut}
use Rattle.htmd_lexical.proofs.Cases.{test}

-- what ends any text there, and isn't a tag
abbrev bar : Bool → List ℕ → List ℕ
bar z p = if holds_text_alone z p then 60 ∷ 47 ∷ (p ++ 32 ∷ []) else codes "</table"

-- the name of an element that holds only text
small_name : (z : Bool) (p : List ℕ) → holds_text_alone z p ≡ true
    → (is_tag_name p ≡ true) × (map to_ascii_lowercase p ≡ p)
small_name z p t = (
  text_alone_passes is_tag_name z p t refl,
  same_bytes (map to_ascii_lowercase p) p
      (text_alone_passes (λ n. bytes_eq (map to_ascii_lowercase n) n) z p t refl),
)

bar_stops : (z : Bool) (p : List ℕ) → Stops z p (bar z p)
bar_stops z p = test (holds_text_alone z p)
    (λ t. inr (rw t (ap (λ (n : List ℕ). goes_on_with_name n (p ++ 32 ∷ [])) (sym (small_name z p t).1)
    ∙ begins_name-lower p (32 ∷ []))))
    (λ t. inr (rw t refl))

bar_ends : (z : Bool) (p : List ℕ) → is_table p ≡ true → ends_rows (bar z p) ≡ true
bar_ends z p e = let q = one_name (codes "table") p e in rw (q, and_false z) refl

module _ (rules : Rules) where
  pub same_end : (outer : Context) (a b c : State) (x y : FaultKind) → Reaches rules outer a b
      → Reaches rules outer a c
      → step rules outer b ≡ Err x → step rules outer c ≡ Err y → b ≡ c
  same_end outer a b c x y here here e f = refl
  same_end outer a b c x y here (via p q) e f = absurd (cc)
  same_end outer a b c x y (via p q) here e f = absurd (cc)
  same_end outer a b c x y (via {b = m} p q) (via {b = n} r t) e f =
      let z : m ≡ n = (let w : ◌≡◌ {A = Step} (Ok m) (Ok n) = sym p ∙ r in cc) in
      same_end outer m b c x y q (subst (λ (v : State). Reaches rules outer v c) (sym z) t) e f

  bar_stuck : (outer : Context) (f : OpenElement) (gs : List OpenElement) → f.implied ≡ false
      → step rules outer (at_piece (f ∷ gs) (bar rules.scripting f.name)) ≡ fault MalformedTag
  unfolding step
  bar_stuck outer f gs i = test (holds_text_alone rules.scripting f.name)
      (λ t. own_end t (small_name rules.scripting f.name t)) (λ t. rw (i, t) refl)
    where
      own_end : holds_text_alone rules.scripting f.name ≡ true
          → (is_tag_name f.name ≡ true) × (map to_ascii_lowercase f.name ≡ f.name)
          → step rules outer (at_piece (f ∷ gs) (bar rules.scripting f.name)) ≡ fault MalformedTag
      own_end t n =
          let q = name_cut f.name (32 ∷ []) n.0 refl in
          let g : goes_on_with_name f.name (f.name ++ 32 ∷ []) ≡ true =
          ap (λ (n : List ℕ). goes_on_with_name n (f.name ++ 32 ∷ [])) (sym n.1)
          ∙ begins_name-lower f.name (32 ∷ []) in
          rw (i, t, g, q.0, q.1, n.0) refl

  reached : (p : List ℕ) (c : Context) (s : List ℕ) (ts : ValueForest) → reads rules (p ∷ c) s ts
      → Reaches rules c (at_piece (fresh p [] false ∷ []) (s ++ bar rules.scripting p))
      (at_piece (with_forest (fresh p [] false ∷ []) ts) (bar rules.scripting p))
  reached p c s ts h =
      nodes_read rules c ts (fresh p [] false) [] true s (bar rules.scripting p) h (λ q. absurd (cc))
      (bar_stops rules.scripting p) (λ _ e. bar_ends rules.scripting p e)

  pub unique_in : (p : List ℕ) (c : Context) (s : List ℕ) (ts us : ValueForest) → reads rules (p ∷ c) s ts
      → reads rules (p ∷ c) s us → ts ≡ us
  unique_in p c s ts us h k =
      let b = bar rules.scripting p in
      let q = same_end c (at_piece (fresh p [] false ∷ []) (s ++ b))
      (at_piece (with_forest (fresh p [] false ∷ []) ts) b) (at_piece (with_forest (fresh p [] false ∷ []) us) b)
      MalformedTag MalformedTag
      (reached p c s ts h) (reached p c s us k) (bar_stuck c _ [] refl) (bar_stuck c _ [] refl) in
      ap (λ (st : State). top_children (st.stack)) q

  pub unique_document : (s : List ℕ) (t u : ValueTree) → ReadsDocument rules s t → ReadsDocument rules s u
      → t ≡ u
  unique_document s t u h k =
      h.2 ∙ (ap (document_tree s) (unique_in (codes "body") above_body (body_text s) h.1 k.1 h.3 k.3) ∙ sym k.2)
