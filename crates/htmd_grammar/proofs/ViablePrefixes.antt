-- What has been read at each state is a viable prefix: the end tags of its open elements make a text of the grammar
-- of it.
use Rattle.std.proofs.Common.{Bool, Err, List, [], append_assoc, codes, false, inl, inr, refl, subst, sym, true, ℕ}
use Rattle.std.proofs.Common.{◌&&◌, ◌++◌, ◌∷◌, ◌≡◌, ◌⊎◌}
use Rattle.std.proofs.iter.runs.Made.{run}
use Rattle.std.proofs.lemmas.List.{append-nil}
use Rattle.htmd_lexical.specs.CharacterClasses.{is_empty}
use Rattle.htmd_grammar.specs.HtmlDocuments.{above_body, below_body, body_text}
use Rattle.htmd_grammar.specs.Fronts.{IsFront, IsViablePrefix, Opens, end_tags, with_text}
use Rattle.htmd_grammar.specs.Grammar.{ReadsForest, begins_with_row, reads}
use Rattle.htmd_grammar.specs.Nesting.{Context}
use Rattle.htmd_grammar.specs.Rules.{Rules}
use Rattle.htmd_values.specs.Serialisation.{end_tag}
use Rattle.htmd_grammar.specs.ReaderSteps.{OpenElement, Reaches, State, body, closed, ends_rows, fault, finished}
use Rattle.htmd_grammar.specs.ReaderSteps.{names_of}
use Rattle.htmd_grammar.specs.ReaderSteps.{started, step, with_children}
use Rattle.htmd_values.specs.ValueTrees.{ValueForest, more, none, text}
use Rattle.htmd_grammar.specs.declared.fault.FaultKind.{FaultKind}
use Rattle.htmd_grammar.specs.declared.fault.FaultKind.TheVariants.{Unclosed}
use Rattle.htmd_lexical.proofs.BooleanLemmas.{and_false}
use Rattle.htmd_grammar.proofs.Completeness.{complete, in_text}
use Rattle.htmd_grammar.proofs.FrontsLemmas.{closes, front_weaker, nodes_weaker, row_append}
use Rattle.htmd_grammar.proofs.NestingLemmas.{one_name}
use Rattle.htmd_grammar.proofs.Readings.{IsAt, Middle, at_conf, conf_start, kept, middle_front, sound}
use Rattle.htmd_grammar.proofs.Soundness.{IsConf, flag, flag_rows, not_none}
use Rattle.htmd_lexical.proofs.LeadingRunsLemmas.{filled}
use Rattle.htmd_grammar.proofs.TagsLemmas.{IsTreeName, tree_name}
use Rattle.htmd_grammar.proofs.Uniqueness.{same_end}

module _ (rules : Rules) where
  open_name : (c : Context) (f : OpenElement) (tag : List ℕ) → Opens rules above_body c f tag → IsTreeName f.name
  open_name c f tag o = elim o.2 [
    | inl w ↦ (let t = (w.1).2 in tree_name t.0 f.name t.3 t.4)
    | inr w ↦ (let e = one_name (codes "tbody") f.name w.2 in rw e (refl, refl))
  ]

  pub closed_up : (f : OpenElement) (gs : List OpenElement) (l : Bool) (s : List ℕ)
      → IsFront rules above_body l (f ∷ gs) s → (f.implied ≡ true → begins_with_row f.children ≡ true)
      → (ts : ValueForest) × reads rules below_body (s ++ end_tags (f ∷ gs)) ts
  closed_up f [] l s h r = (
    f.children,
    subst (λ (y : List ℕ). ReadsForest rules below_body true f.children y) (sym (append-nil s))
        (subst (λ (m : List ℕ). ReadsForest rules (m ∷ above_body) true f.children s) h.2
        (nodes_weaker rules above_body (f.name ∷ above_body) l true f.children s (λ _. refl) h.1)),
  )
  closed_up f (g ∷ gs) l s h r =
      let n = open_name (names_of above_body (g ∷ gs)) f h.1 h.5 in
      let k = closes rules above_body f g gs l true s (end_tag f.name) h (inl (f.name, [], refl, n.0, refl, n.1)) r in
      let u = closed_up (with_children g (more (closed f) none)) gs true (s ++ end_tag f.name) k h.7 in (
        u.0,
        subst (λ (y : List ℕ). reads rules below_body y u.0) (append_assoc s (end_tag f.name) (end_tags (g ∷ gs)))
            u.1,
      )

  -- between two pieces
  front_between : (f : OpenElement) (gs : List OpenElement) (s rest : List ℕ)
      → IsConf rules above_body (f ∷ gs) s rest
      → (f.implied && ends_rows rest) ≡ false → IsViablePrefix rules f gs s rest
  unfolding front_weaker
  front_between f [] s rest c e = record {
    pieces = front_weaker rules above_body f [] (flag rules above_body (f ∷ []) rest) (ends_rows rest) s
        (λ q. flag_rows rules above_body (f ∷ []) rest q) c.is_front;
    rows = c.rows;
    no_more_rows = e;
    dropped = c.first;
    complete = closed_up f [] (flag rules above_body (f ∷ []) rest) s c.is_front c.rows;
  }
  front_between f (g ∷ gs) s rest c e = record {
    pieces = front_weaker rules above_body f (g ∷ gs) (flag rules above_body (f ∷ g ∷ gs) rest) (ends_rows rest) s
        (λ q. flag_rows rules above_body (f ∷ g ∷ gs) rest q) c.is_front;
    rows = c.rows;
    no_more_rows = e;
    dropped = c.first;
    complete = closed_up f (g ∷ gs) (flag rules above_body (f ∷ g ∷ gs) rest) s c.is_front c.rows;
  }

  -- in the midst of a text
  front_within : (f : OpenElement) (gs : List OpenElement) (s w run rest : List ℕ)
      → IsConf rules above_body (f ∷ gs) s (w ++ rest) → Middle rules above_body (f ∷ gs) w run rest
      → (f.implied && ends_rows rest) ≡ false
      → IsViablePrefix rules (with_children f (more (text run) none)) gs (s ++ w) rest
  front_within f gs s w run rest c h e =
      let k = middle_front rules above_body f gs (ends_rows rest) s w run rest c h in record {
        pieces = k;
        rows = λ i. row_append f.children (more (text run) none) (c.rows i);
        no_more_rows = e;
        dropped = λ q. absurd (not_none rules above_body f.children (text run) q);
        complete = closed_up (with_children f (more (text run) none)) gs (ends_rows rest) (s ++ w) k
            (λ i. row_append f.children (more (text run) none) (c.rows i));
      }

  pub viable_prefix : (f : OpenElement) (gs : List OpenElement) (run rest s : List ℕ)
      → IsAt rules above_body (in_text (f ∷ gs) run rest) s → (f.implied && ends_rows rest) ≡ false
      → IsViablePrefix rules (with_text f run) gs s rest
  viable_prefix f gs run rest s h e = go h.0 h.1 h.2 h.3 h.4
    where
      go : (before w : List ℕ) → s ≡ before ++ w → IsConf rules above_body (f ∷ gs) before (w ++ rest)
          → ((w ≡ []) × (run ≡ [])) ⊎ Middle rules above_body (f ∷ gs) w run rest
          → IsViablePrefix rules (with_text f run) gs s rest
      go before w q c (inl i) =
          let k = at_conf rules above_body f gs s before w run rest q c i.0 in
          subst (λ (y : List ℕ). IsViablePrefix rules (with_text f y) gs s rest) (sym i.1)
          (front_between f gs s rest k e)
      go before w q c (inr i) =
          let n : is_empty run ≡ false = filled run i.begun in
          let k : IsViablePrefix rules (with_children f (more (text run) none)) gs (before ++ w) rest =
          front_within f gs before w run rest c i e in
          subst (λ (y : List ℕ). IsViablePrefix rules (with_text f run) gs y rest) (sym q)
          (subst (λ (g : OpenElement). IsViablePrefix rules g gs (before ++ w) rest) (with_text_is n) k)
        where
          with_text_is : is_empty run ≡ false → with_children f (more (text run) none) ≡ with_text f run
          with_text_is n = rw n refl

  at_end : (content : ValueForest) → step rules above_body (finished content) ≡ fault Unclosed
  unfolding step
  at_end content = rw (and_false rules.scripting) refl

  -- if a step finds a fault before the end, no tree is denoted
  pub refused : (s : List ℕ) (st : State) (k : FaultKind) → Reaches rules above_body (started s) st
      → step rules above_body st ≡ Err k → ((content : ValueForest) → st ≡ finished content → ⊥)
      → (content : ValueForest) → reads rules below_body (body_text s) content → ⊥
  refused s st k r e n content h =
      n content (same_end rules above_body (started s) st (finished content) k Unclosed r (complete rules s content h) e
      (at_end content))

  -- what has been read at a reached state
  pub reached_front : (s : List ℕ) (f : OpenElement) (gs : List OpenElement) (run rest : List ℕ)
      → Reaches rules above_body (started s) (in_text (f ∷ gs) run rest) → (f.implied && ends_rows rest) ≡ false
      → (before : List ℕ) × (body_text s ≡ before ++ rest)
      × IsViablePrefix rules (with_text f run) gs before rest
  reached_front s f gs run rest r e =
      let k = kept rules above_body (started s) (in_text (f ∷ gs) run rest) [] r
      (conf_start rules above_body (body_text s)) in
      (k.0, k.1, viable_prefix f gs run rest k.0 k.2 e)

  pub sound_end : (s : List ℕ) (content : ValueForest) → Reaches rules above_body (started s) (finished content)
      → reads rules below_body (body_text s) content
  sound_end s content r = sound rules above_body (body_text s) (with_children body content) r
