-- A reader that goes by the steps refuses a text rightly.
use Rattle.std.proofs.Common.{Bool, Err, List, [], ap, codes, false, inl, inr, length, refl, subst, true, ℕ, ◌++◌, ◌+◌}
use Rattle.std.proofs.Common.{◌<◌, ◌∷◌, ◌≡◌, ◌⊎◌}
use Rattle.std.proofs.Math.Bool.{or-true}
use Rattle.htmd_lexical.specs.CharacterClasses.{is_among, is_empty}
use Rattle.htmd_grammar.specs.HtmlDocuments.{above_body, body_text}
use Rattle.htmd_grammar.specs.Faults.{IsPieceFault, Applies}
use Rattle.htmd_grammar.specs.Fronts.{IsFront, with_text}
use Rattle.htmd_grammar.specs.Grammar.{ReadsForest, may_end_rows}
use Rattle.htmd_grammar.specs.Laws.{FaultsAreRight}
use Rattle.htmd_grammar.specs.Nesting.{Context}
use Rattle.htmd_grammar.specs.RawContent.{content_of, ends_text, holds_raw_text, holds_text_alone}
use Rattle.htmd_grammar.specs.Rules.{Rules}
use Rattle.htmd_grammar.specs.ReaderSteps.{OpenElement, Reaches, names_of, started, step}
use Rattle.htmd_values.specs.ValueTrees.{ValueForest, ValueTree, comment, doctype, document, element, more, none, text}
use Rattle.htmd_grammar.specs.declared.fault.FaultKind.{FaultKind}
use Rattle.htmd_grammar.specs.declared.fault.FaultKind.TheVariants.{BadNumber, DuplicateAttribute, MalformedComment}
use Rattle.htmd_grammar.specs.declared.fault.FaultKind.TheVariants.{MalformedDeclaration, MalformedTag, NotAllowedHere}
use Rattle.htmd_grammar.specs.declared.fault.FaultKind.TheVariants.{Nul, ScriptEscape, SelfClosing, StrayEndTag}
use Rattle.htmd_grammar.specs.declared.fault.FaultKind.TheVariants.{StrayText, TagOutside, TooDeep, Unclosed}
use Rattle.htmd_grammar.specs.declared.fault.FaultKind.TheVariants.{UnknownReference}
use Rattle.htmd_grammar.proofs.Completeness.{in_text}
use Rattle.htmd_grammar.proofs.FrontsLemmas.{ends_in_text}
use Rattle.htmd_grammar.proofs.ViablePrefixes.{viable_prefix}
use Rattle.htmd_grammar.proofs.LowerFaults.{not_both}
use Rattle.htmd_grammar.proofs.Readings.{Middle, conf_start, kept}
use Rattle.htmd_grammar.proofs.Soundness.{IsConf, flag, not_none, not_stops}
use Rattle.htmd_grammar.proofs.StepFaults.{step_faulty}
use Rattle.htmd_grammar.proofs.TreeTexts.{IsTextTree, node_no_title}
use Rattle.htmd_lexical.proofs.Cases.{test}

module _ (rules : Rules) where
  -- if elements could stand there, a list of trees ends with something other than a text
  elements_could : (p : List ℕ) (c : Context) (l : Bool) (t : ValueTree) (ts : ValueForest) (s : List ℕ)
      → ReadsForest rules (p ∷ c) l (more t ts) s → ends_in_text (more t ts) ≡ false
      → holds_text_alone rules.scripting p ≡ false
  elements_could p c l t none s h e = node_no_title rules p t c (may_end_rows l none h.1) h.0 (last_tree t e) h.4
    where
      last_tree : (t : ValueTree) → ends_in_text (more t none) ≡ false → IsTextTree t ≡ false
      last_tree (document children) e = refl
      last_tree doctype e = refl
      last_tree (text u) e = e
      last_tree (comment u) e = refl
      last_tree (element n attributes children) e = refl
  elements_could p c l t (more u us) s h e = elements_could p c l u us h.1 h.5 (later t e)
    where
      later : (t : ValueTree) → ends_in_text (more t (more u us)) ≡ false → ends_in_text (more u us) ≡ false
      later (document children) e = e
      later doctype e = e
      later (text v) e = e
      later (comment v) e = e
      later (element n attributes children) e = e

  -- an element that holds only text holds a text or nothing
  text_or_nothing : (p : List ℕ) (c : Context) (l : Bool) (ts : ValueForest) (s : List ℕ)
      → ReadsForest rules (p ∷ c) l ts s → holds_text_alone rules.scripting p ≡ true
      → ends_in_text ts ≡ false
      → ts ≡ none
  text_or_nothing p c l none s h t e = refl
  text_or_nothing p c l (more u us) s h t e =
      absurd (not_both (holds_text_alone rules.scripting p) t (elements_could p c l u us s h e))

  module _ (f : OpenElement) (gs : List OpenElement) where
    -- before the content of raw text stands nothing
    nothing_before : (s rest : List ℕ) → IsConf rules above_body (f ∷ gs) s rest
        → holds_raw_text rules.scripting f.name ≡ true → ends_text rules.scripting f.name rest ≡ false
        → is_empty rest ≡ false → f.children ≡ none
    nothing_before s rest c r t n = in_front gs c.is_front
      where
        alone : holds_text_alone rules.scripting f.name ≡ true
        alone = rw r (or-true (is_among (codes "title" ∷ codes "textarea" ∷ []) f.name))

        no_text : ends_in_text f.children ≡ false
        no_text = test (ends_in_text f.children) (λ q. absurd (not_stops rules above_body f.name rest t n (c.texts q)))
            (λ q. q)

        in_front : (hs : List OpenElement)
            → IsFront rules above_body (flag rules above_body (f ∷ gs) rest) (f ∷ hs) s
            → f.children ≡ none
        in_front [] h = text_or_nothing f.name above_body (flag rules above_body (f ∷ gs) rest) f.children s h.1 alone
            no_text
        in_front (g ∷ hs) h = text_or_nothing f.name (names_of above_body (g ∷ hs))
            (flag rules above_body (f ∷ gs) rest) f.children (content_of f.name h.2) h.6 alone no_text

    -- with the text so far in the innermost element the rows say the same
    pub says_with_text : (run rest : List ℕ) (k : FaultKind)
        → (is_empty run ≡ false → holds_raw_text rules.scripting f.name ≡ false)
        → Applies rules (f ∷ gs) rest k
        → Applies rules (with_text f run ∷ gs) rest k
    says_with_text [] rest k r h = h
    says_with_text (b ∷ run) rest Nul r h = h
    says_with_text (b ∷ run) rest MalformedTag r h = h
    says_with_text (b ∷ run) rest MalformedComment r h = h
    says_with_text (b ∷ run) rest MalformedDeclaration r h = h
    says_with_text (b ∷ run) rest UnknownReference r h = h
    says_with_text (b ∷ run) rest BadNumber r h = h
    says_with_text (b ∷ run) rest DuplicateAttribute r h = h
    says_with_text (b ∷ run) rest SelfClosing r h = h
    says_with_text (b ∷ run) rest TagOutside r h = h
    says_with_text (b ∷ run) rest NotAllowedHere r h = h
    says_with_text (b ∷ run) rest StrayEndTag r h = h
    says_with_text (b ∷ run) rest StrayText r h = h
    says_with_text (b ∷ run) rest Unclosed r h = h
    says_with_text (b ∷ run) rest ScriptEscape r h =
        absurd (not_both (holds_raw_text rules.scripting f.name) h.2 (r refl))
    says_with_text (b ∷ run) rest TooDeep r h = h

    pub says_without_text : (run rest : List ℕ) (k : FaultKind) → Applies rules (with_text f run ∷ gs) rest k
        → Applies rules (f ∷ gs) rest k
    says_without_text [] rest k h = h
    says_without_text (b ∷ run) rest Nul h = h
    says_without_text (b ∷ run) rest MalformedTag h = h
    says_without_text (b ∷ run) rest MalformedComment h = h
    says_without_text (b ∷ run) rest MalformedDeclaration h = h
    says_without_text (b ∷ run) rest UnknownReference h = h
    says_without_text (b ∷ run) rest BadNumber h = h
    says_without_text (b ∷ run) rest DuplicateAttribute h = h
    says_without_text (b ∷ run) rest SelfClosing h = h
    says_without_text (b ∷ run) rest TagOutside h = h
    says_without_text (b ∷ run) rest NotAllowedHere h = h
    says_without_text (b ∷ run) rest StrayEndTag h = h
    says_without_text (b ∷ run) rest StrayText h = h
    says_without_text (b ∷ run) rest Unclosed h = h
    says_without_text (b ∷ run) rest ScriptEscape h =
        absurd (not_none rules above_body f.children (text (b ∷ run)) h.1)
    says_without_text (b ∷ run) rest TooDeep h = h

    -- in an element that holds raw text stands nothing before it
    pub childless : {before : List ℕ} (w run rest : List ℕ)
        → IsConf rules above_body (f ∷ gs) before (w ++ rest)
        → ((w ≡ []) × (run ≡ [])) ⊎ Middle rules above_body (f ∷ gs) w run rest
        → holds_raw_text rules.scripting f.name ≡ true → ends_text rules.scripting f.name rest ≡ false
        → is_empty rest ≡ false → f.children ≡ none
    childless {before = before} w run rest c (inl m) =
        nothing_before before rest
        (subst (λ (y : List ℕ). IsConf rules above_body (f ∷ gs) before (y ++ rest)) m.0
        c)
    childless w run rest c (inr m) = λ h _ _. absurd (not_both (holds_raw_text rules.scripting f.name) h m.mode)

    -- the fault of a step at a state that is reached
    piece_fault : (s run rest : List ℕ) (k : FaultKind) (place : ℕ)
        → Reaches rules above_body (started s) (in_text (f ∷ gs) run rest)
        → step rules above_body (in_text (f ∷ gs) run rest) ≡ Err k
        → (rest ≡ [] → 1 < length (f ∷ gs)) → place + length rest ≡ length s
        → IsPieceFault rules s place k
    piece_fault s run rest k place r e o p =
        let i = kept rules above_body (started s) (in_text (f ∷ gs) run rest) [] r
        (conf_start rules above_body (body_text s)) in
        let a = i.2 in
        let q = step_faulty rules f gs run rest k (childless a.1 run rest a.3 a.4) o e in
        record {
          innermost = with_text f run;
          opened = gs;
          before = i.0;
          behind = rest;
          text_is = i.1;
          place_is = p;
          prefix_is_viable = viable_prefix rules f gs run rest i.0 a q.1;
          says = says_with_text run rest k (not_raw a.1 a.4) (q.0).0;
          no_lower = λ lower l h. (q.0).1 lower l (says_without_text run rest lower h);
        }
      where
        not_raw : (w : List ℕ) → ((w ≡ []) × (run ≡ [])) ⊎ Middle rules above_body (f ∷ gs) w run rest
            → is_empty run ≡ false → holds_raw_text rules.scripting f.name ≡ false
        not_raw w (inl m) n = absurd (not_both (is_empty run) (ap is_empty m.1) n)
        not_raw w (inr m) n = m.mode

  pub faults_are_right : FaultsAreRight rules
  faults_are_right s st k place n r e o p = inr (n, go st.stack st.run st.rest r e o p)
    where
      go : (fs : List OpenElement) (run rest : List ℕ) → Reaches rules above_body (started s) (in_text fs run rest)
          → step rules above_body (in_text fs run rest) ≡ Err k → (rest ≡ [] → 1 < length fs)
          → place + length rest ≡ length s → IsPieceFault rules s place k
      go [] run rest r e o p =
          let i = kept rules above_body (started s) (in_text [] run rest) [] r
          (conf_start rules above_body (body_text s)) in
          absurd (((i.2).3).is_front)
      go (f ∷ gs) run rest r e o p = piece_fault f gs s run rest k place r e o p
