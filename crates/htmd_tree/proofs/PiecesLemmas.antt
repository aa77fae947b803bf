-- How the pieces of a document and their order are the grammar's steps.
use Rattle.std.proofs.Common.{◌≡◌, ℕ, suc, ◌<◌, ◌≤◌, Bool, true, false, cond, ◌&&◌, ◌==◌, List, [], ◌∷◌, length}
use Rattle.std.proofs.Common.{refl, sym, ap, ◌∙◌, subst, arith, Ok, Err, Option, Some, None, drop, OnOk, codes}
use Rattle.std.proofs.Math.Bool.{and-false}
use Rattle.htmd_lexical.proofs.Cases.{test}
use Rattle.htmd_lexical.specs.Characters.{less_than_sign}
use Rattle.htmd_lexical.specs.AttributePairs.{AttributePair}
use Rattle.htmd_values.specs.ValueTrees.{text}
use Rattle.htmd_lexical.specs.CharacterClasses.{is_empty, first_is, onward}
use Rattle.htmd_grammar.specs.Rules.{Rules, project}
use Rattle.htmd_grammar.specs.RawContent.{holds_text_alone, holds_raw_text, begins_markup, ends_text}
use Rattle.htmd_lexical.specs.EndTags.{begins_own_end}
use Rattle.htmd_grammar.specs.RawContent.{text_of}
use Rattle.htmd_lexical.specs.CharacterClasses.{up_to}
use Rattle.htmd_grammar.specs.HtmlDocuments.{above_body}
use Rattle.htmd_grammar.specs.ReaderSteps.{OpenElement, State, step, Reaches, here, via, closed, with_tree, fault}
use Rattle.htmd_grammar.specs.ReaderSteps.{between, is_too_deep, is_implied, ends_rows, markup_step, raw_text_step}
use Rattle.htmd_grammar.specs.ReaderSteps.{with_children, body}
use Rattle.htmd_grammar.specs.declared.fault.FaultKind.TheVariants.{Unclosed, TooDeep}
use Rattle.htmd_grammar.proofs.NestingLemmas.{tbody_not_table}
use Rattle.htmd_tree.specs.OpenItems.{stack_items}
use Rattle.htmd_tree.specs.OpenNodes.{innermost_name, AreOpen, Holds, IsReading}
use Rattle.htmd_tree.specs.Advances.{Answer, state_at, rules_of, Follows, Advances, Ends, HasImpliedClosed, HasRead}
use Rattle.htmd_tree.specs.Advances.{IsAtText}
use Rattle.htmd_tree.specs.declared.reader.OpenNode.{OpenNode}
use Rattle.htmd_tree.specs.declared.reader.Reader.{Reader}
use Rattle.htmd_tree.specs.declared.reader.Stop.{Stop}
use Rattle.htmd_tree.specs.declared.reader.Stop.TheVariants.{Memory, Refused}
use Rattle.htmd_tree.proofs.OpenNodesLemmas.{length-open_nodes}
use Rattle.htmd_tree.proofs.AdvancesLemmas.{IsTop, top_at, advance}
use Rattle.htmd_tree.specs.declared.reader.surroundings.Surroundings.{Surroundings}

-- ---- steps

pub reaches_then : {rules : Rules} {a b c : State} → Reaches rules above_body a b → Reaches rules above_body b c
    → Reaches rules above_body a c
reaches_then here q = q
reaches_then (via e p) q = via e (reaches_then p q)

module _ (rules : Rules) (fs : List OpenElement) (s : List ℕ) where
  tbody_is : (f : OpenElement) → f.implied ≡ true → ends_rows s ≡ true
      → step rules above_body (state_at (f ∷ fs) s) ≡ Ok (state_at (with_tree fs (closed f)) s)
  unfolding step
  tbody_is f i e = rw (i, e) refl

  pub markup_is : (is_implied fs && ends_rows s) ≡ false → ends_text rules.scripting (innermost_name fs) s ≡ true
      → step rules above_body (state_at fs s) ≡ markup_step rules above_body fs (drop 1 s)
  unfolding step
  markup_is r e = rw (r, e) refl

  pub raw_text_is : (is_implied fs && ends_rows s) ≡ false
      → ends_text rules.scripting (innermost_name fs) s ≡ false
      → is_empty s ≡ false → holds_raw_text rules.scripting (innermost_name fs) ≡ true
      → step rules above_body (state_at fs s) ≡ raw_text_step rules above_body fs
      (text_of rules (innermost_name fs) (up_to (ends_text rules.scripting (innermost_name fs)) s))
      (onward (ends_text rules.scripting (innermost_name fs)) s)
  unfolding step
  raw_text_is r e m h = rw (r, e, m, h) refl

no_markup_at_end : (scripting : Bool) (n : List ℕ) → ends_text scripting n [] ≡ false
no_markup_at_end scripting n = test (holds_text_alone scripting n) (λ e. rw e refl) (λ e. rw e refl)

end_is : (rules : Rules) (fs : List OpenElement) → step rules above_body (state_at fs []) ≡ Err Unclosed
unfolding step
end_is rules fs = rw (and-false (is_implied fs), no_markup_at_end rules.scripting (innermost_name fs)) refl

-- ---- an implied `tbody`

-- around an implied `tbody` stands a `table`, which is not implied
outer_is_tag : (f g : OpenElement) (fs : List OpenElement) → AreOpen (f ∷ g ∷ fs) → f.implied ≡ true
    → g.implied ≡ false
outer_is_tag f g [] h i = h.1.2
outer_is_tag f g (k ∷ fs) h i =
    test g.implied (λ e. absurd (tbody_not_table g.name ((h.1.0 e).0) ((h.0 i).1))) (λ e. e)

pub settled_open : (reader : Reader) (has_doctype : Bool) (fs : List OpenElement) (o : OpenNode)
    → Holds reader has_doctype fs → IsTop reader o → (o.implied && ends_rows reader.rest.now) ≡ false
    → HasImpliedClosed reader reader has_doctype fs
settled_open reader has_doctype [] o h t e = absurd h.are_open
settled_open reader has_doctype (f ∷ fs) o h t e = record {
  opened = f ∷ fs;
  holds = h;
  reaches = here;
  implied_is_closed =
      subst (λ b. (b && ends_rows reader.rest.now) ≡ false)
      (ap (λ (y : OpenNode). y.implied) (t has_doctype f fs h)) e;
  scripting = refl;
}

pub settled_closed : (old new : Reader) (has_doctype : Bool) (fs : List OpenElement) (o : OpenNode)
    → Holds old has_doctype fs → IsTop old o → o.implied ≡ true → ends_rows old.rest.now ≡ true
    → ((has_doctype : Bool) (f g : OpenElement) (fs : List OpenElement) → Holds old has_doctype (f ∷ g ∷ fs)
    → Holds new has_doctype (with_tree (g ∷ fs) (closed f)))
    → new.scripting ≡ old.scripting → HasImpliedClosed old new has_doctype fs
settled_closed old new has_doctype [] o h t i e close scripting = absurd h.are_open
settled_closed old new has_doctype (f ∷ []) o h t i e close scripting =
    let flag : f.implied ≡ true = sym (ap (λ (y : OpenNode). y.implied) (t has_doctype f [] h)) ∙ i in
    let no_flag : f.implied ≡ false = h.are_open.2 in
    absurd (cc)
settled_closed old new has_doctype (f ∷ g ∷ fs) o h t i e close scripting =
    let flag : f.implied ≡ true = sym (ap (λ (y : OpenNode). y.implied) (t has_doctype f (g ∷ fs) h)) ∙ i in
    let outer : g.implied ≡ false = outer_is_tag f g fs h.are_open flag in
    record {
      opened = with_tree (g ∷ fs) (closed f);
      holds = close has_doctype f g fs h;
      reaches = via (tbody_is (rules_of old) (g ∷ fs) old.rest.now f flag e) here;
      implied_is_closed =
          ap (λ b. b && ends_rows old.rest.now) outer;
      scripting = scripting;
    }

-- an element that is closed there is not the outermost
pub implied_is_inner : (reader : Reader) (o : OpenNode) → IsReading reader → IsTop reader o → o.implied ≡ true
    → 1 < length reader.stack.items
implied_is_inner reader o r t i = each (r.2) (r.3)
  where
    each : (fs : List OpenElement) → Holds reader (r.0) (r.1 ∷ fs) → 1 < length reader.stack.items
    each [] h =
        let flag : (r.1).implied ≡ true = sym (ap (λ (y : OpenNode). y.implied) (t (r.0) (r.1) [] h)) ∙ i in
        let no_flag : (r.1).implied ≡ false = h.are_open.2 in
        absurd (cc)
    each (g ∷ fs) h =
        let n : length reader.stack.items ≡ suc (suc (length fs)) = ap length h.stack_is
        ∙ length-open_nodes reader.scripting (r.0) (r.1 ∷ g ∷ fs) in
        omega arith

-- ---- one call after another

pub joined : (old middle new : Reader) (has_doctype : Bool) (fs gs : List OpenElement) (r : Answer)
    → Reaches (rules_of old) above_body (state_at fs old.rest.now) (state_at gs middle.rest.now)
    → middle.scripting ≡ old.scripting → Advances middle new has_doctype gs r
    → Advances old new has_doctype fs r
joined old middle new has_doctype fs gs (Ok x) p e a = (
  a.0,
  record { holds = a.1.holds; run = a.1.run; rest = a.1.rest; scripting = a.1.scripting ∙ e },
  reaches_then p (subst (λ b. Reaches (project b) above_body (state_at gs middle.rest.now) (a.0)) e (a.2)),
)
joined old middle new has_doctype fs gs (Err Memory) p e a = tt
joined old middle new has_doctype fs gs (Err (Refused left kind)) p e a = (
  a.0,
  reaches_then p (subst (λ b. Reaches (project b) above_body (state_at gs middle.rest.now) (a.0)) e (a.1)),
  subst (λ b. step (project b) above_body (a.0) ≡ Err kind) e (a.2),
  a.3,
  a.4,
)

module _ (old middle new : Reader) (has_doctype : Bool) (fs : List OpenElement) (r : Answer)
    (s : HasImpliedClosed old middle has_doctype fs) (same : middle.rest.now ≡ old.rest.now)
    (left_over : is_empty old.rest.now ≡ false) where
  reached : Reaches (rules_of old) above_body (state_at fs old.rest.now) (state_at s.opened middle.rest.now)
  reached = subst (λ t. Reaches (rules_of old) above_body (state_at fs old.rest.now) (state_at s.opened t)) (sym same)
      s.reaches

  implied_is_closed_there : (is_implied s.opened && ends_rows middle.rest.now) ≡ false
  implied_is_closed_there = ap (λ t. is_implied s.opened && ends_rows t) same ∙ s.implied_is_closed

  pub markup_advances : ends_text middle.scripting (innermost_name s.opened) middle.rest.now ≡ true
      → Follows middle new has_doctype r (markup_step (rules_of middle) above_body s.opened (drop 1 middle.rest.now))
      → Advances old new has_doctype fs r
  markup_advances e f =
      joined old middle new has_doctype fs s.opened r reached s.scripting
      (advance middle new has_doctype s.opened r
      (markup_step (rules_of middle) above_body s.opened (drop 1 middle.rest.now))
      (markup_is (rules_of middle) s.opened middle.rest.now implied_is_closed_there e) (ap is_empty same
      ∙ left_over) f)

  pub raw_text_advances : ends_text middle.scripting (innermost_name s.opened) middle.rest.now ≡ false
      → holds_raw_text middle.scripting (innermost_name s.opened) ≡ true
      → Follows middle new has_doctype r (raw_text_step (rules_of middle) above_body s.opened
      (text_of (rules_of middle) (innermost_name s.opened)
      (up_to (ends_text middle.scripting (innermost_name s.opened)) middle.rest.now))
      (onward (ends_text middle.scripting (innermost_name s.opened)) middle.rest.now))
      → Advances old new has_doctype fs r
  raw_text_advances e h f =
      joined old middle new has_doctype fs s.opened r reached s.scripting
      (advance middle new has_doctype s.opened r
      (raw_text_step (rules_of middle) above_body s.opened
      (text_of (rules_of middle) (innermost_name s.opened)
      (up_to (ends_text middle.scripting (innermost_name s.opened)) middle.rest.now))
      (onward (ends_text middle.scripting (innermost_name s.opened)) middle.rest.now))
      (raw_text_is (rules_of middle) s.opened middle.rest.now implied_is_closed_there e (ap is_empty same
      ∙ left_over) h)
      (ap is_empty same ∙ left_over) f)

  pub text_advances : ends_text middle.scripting (innermost_name s.opened) middle.rest.now ≡ false
      → holds_raw_text middle.scripting (innermost_name s.opened) ≡ false
      → (IsAtText middle s.opened → Advances middle new has_doctype s.opened r)
      → Advances old new has_doctype fs r
  text_advances e h f =
      joined old middle new has_doctype fs s.opened r reached s.scripting (f (record {
        more_text = ap is_empty same ∙ left_over;
        no_markup = e;
        no_raw_text = h;
        no_end_of_rows = implied_is_closed_there;
      }))

-- what ends a text begins with `<`
pub markup_begins : (scripting : Bool) (n s : List ℕ) → ends_text scripting n s ≡ true
    → first_is less_than_sign s ≡ true
markup_begins scripting n [] e = let k = no_markup_at_end scripting n in (cc)
markup_begins scripting n (b ∷ []) e = test (holds_text_alone scripting n) (λ h. let k = rw h at e in (cc))
    (λ h. let k = rw h at e in (cc))
markup_begins scripting n (b ∷ c ∷ s) e =
    test (b == less_than_sign) (λ y. y) (λ q. test (holds_text_alone scripting n)
    (λ h. let k = rw h at e in let m = rw q at k in absurd (cc))
    (λ h. let k = rw h at e in let m = rw q at k in absurd (cc)))

-- text without references is not empty
length-onward : (stop : List ℕ → Bool) (s : List ℕ) → length (onward stop s) ≤ length s
length-onward stop [] = omega arith
length-onward stop (b ∷ s) = test (stop (b ∷ s)) (λ e. rw e (omega arith))
    (λ e. rw e (let l = length-onward stop s in omega arith))

onward_shorter : (stop : List ℕ → Bool) (s : List ℕ) → stop s ≡ false → is_empty s ≡ false
    → length (onward stop s) < length s
onward_shorter stop [] e n = absurd (cc)
onward_shorter stop (b ∷ s) e n = rw e (let l = length-onward stop s in omega arith)

raw_text_rest : (old new : Reader) (has_doctype : Bool) (fs : List OpenElement) (o : Option (List ℕ))
    (rest : List ℕ)
    → Follows old new has_doctype (Ok tt) (raw_text_step (rules_of old) above_body fs o rest)
    → new.rest.now ≡ rest
raw_text_rest old new has_doctype fs None rest f = absurd f
raw_text_rest old new has_doctype fs (Some u) rest f = by_test (is_too_deep (rules_of old) above_body fs) f
  where
    by_test : (b : Bool) → Follows old new has_doctype (Ok tt) (cond b (fault TooDeep)
        (between (with_tree fs (text u)) rest)) → new.rest.now ≡ rest
    by_test true f = absurd f
    by_test false f = f.rest

pub raw_text_shorter : (old middle new : Reader) (has_doctype : Bool) (gs : List OpenElement) (r : Answer)
    → middle.rest.now ≡ old.rest.now → is_empty old.rest.now ≡ false
    → ends_text middle.scripting (innermost_name gs) middle.rest.now ≡ false
    → Follows middle new has_doctype r (raw_text_step (rules_of middle) above_body gs
    (text_of (rules_of middle) (innermost_name gs)
    (up_to (ends_text middle.scripting (innermost_name gs)) middle.rest.now))
    (onward (ends_text middle.scripting (innermost_name gs)) middle.rest.now))
    → OnOk r (length new.rest.now < length old.rest.now)
raw_text_shorter old middle new has_doctype gs (Err stop) same left_over e f = tt
raw_text_shorter old middle new has_doctype gs (Ok x) same left_over e f =
    let n = raw_text_rest middle new has_doctype gs (text_of (rules_of middle) (innermost_name gs)
    (up_to (ends_text middle.scripting (innermost_name gs)) middle.rest.now))
    (onward (ends_text middle.scripting (innermost_name gs)) middle.rest.now) f in
    let l = onward_shorter (ends_text middle.scripting (innermost_name gs)) middle.rest.now e
    (ap is_empty same ∙ left_over) in
    subst (λ t. length new.rest.now < length t) same (subst (λ t. length t < length middle.rest.now) (sym n) l)

-- ---- the loop

state_is : (st : State) (rest : List ℕ) → st.run ≡ [] → rest ≡ st.rest → st ≡ state_at st.stack rest
state_is st rest r e =
    let by_run : List ℕ → State = λ u. record { stack = st.stack; run = u; rest = st.rest } in
    let by_rest : List ℕ → State = λ t. record { stack = st.stack; run = []; rest = t } in
    ap by_run r ∙ ap by_rest (sym e)

pub read_nothing : (reader : Reader) (has_doctype : Bool) (fs : List OpenElement) → Holds reader has_doctype fs
    → HasRead reader reader has_doctype fs
read_nothing reader has_doctype fs h = record { opened = fs; holds = h; reaches = here; scripting = refl }

-- the next piece
pub read_more : (old middle new : Reader) (has_doctype : Bool) (fs : List OpenElement)
    → HasRead old middle has_doctype fs
    → ((has_doctype : Bool) (fs : List OpenElement) → Holds middle has_doctype fs
    → Advances middle new has_doctype fs (Ok tt)) → HasRead old new has_doctype fs
read_more old middle new has_doctype fs h f =
    let a = joined old middle new has_doctype fs h.opened (Ok tt) h.reaches h.scripting
    (f has_doctype h.opened h.holds) in
    record {
      opened = (a.0).stack;
      holds = a.1.holds;
      reaches = subst (λ st. Reaches (rules_of old) above_body (state_at fs old.rest.now) st)
          (state_is (a.0) new.rest.now a.1.run a.1.rest) (a.2);
      scripting = a.1.scripting;
    }

-- a fault in the next piece
pub read_stops : (old middle new : Reader) (has_doctype : Bool) (fs : List OpenElement) (stop : Stop)
    → HasRead old middle has_doctype fs
    → ((has_doctype : Bool) (fs : List OpenElement) → Holds middle has_doctype fs
    → Advances middle new has_doctype fs (Err stop)) → Ends old new has_doctype fs (Err stop)
read_stops old middle new has_doctype fs Memory h f = tt
read_stops old middle new has_doctype fs (Refused left kind) h f =
    let a = joined old middle new has_doctype fs h.opened (Err (Refused left kind)) h.reaches h.scripting
    (f has_doctype h.opened h.holds) in
    (a.0, a.1, a.2, (λ e. let n = ap is_empty e in let m = a.3 in absurd (cc)), a.4)

empty_is : (s : List ℕ) → length s ≡ 0 → s ≡ []
empty_is [] e = refl
empty_is (b ∷ s) e = absurd (omega arith)

-- the text ends with an element open
pub ends_open : (old new : Reader) (has_doctype : Bool) (fs : List OpenElement) (stop : Stop)
    → HasRead old new has_doctype fs → length new.rest.now ≡ 0 → 1 < length new.stack.items
    → stop ≡ Refused (length new.rest.now) Unclosed → Ends old new has_doctype fs (Err stop)
ends_open old new has_doctype fs stop h e l same =
    let n : length new.stack.items ≡ length h.opened = ap length (h.holds).stack_is
    ∙ length-open_nodes new.scripting has_doctype h.opened in
    let two : 1 < length h.opened = omega arith in
    subst (λ x. Ends old new has_doctype fs (Err x)) (sym same) (
      state_at h.opened new.rest.now,
      h.reaches,
      ap (λ t. step (rules_of old) above_body (state_at h.opened t)) (empty_is new.rest.now e)
          ∙ end_is (rules_of old) h.opened,
      (λ _. two),
      refl,
    )

body_is : (f : OpenElement) → f.name ≡ codes "body" → f.attributes ≡ [] → f.implied ≡ false
    → f ≡ with_children body f.children
body_is f n a i =
    let by_name : List ℕ → OpenElement = λ m.
    record { name = m; attributes = f.attributes; implied = f.implied; children = f.children } in
    let by_attributes : List AttributePair → OpenElement = λ m.
    record { name = codes "body"; attributes = m; implied = f.implied; children = f.children } in
    let by_flag : Bool → OpenElement = λ b.
    record { name = codes "body"; attributes = []; implied = b; children = f.children } in
    ap by_name n ∙ (ap by_attributes a ∙ ap by_flag i)

-- the text ends
pub ends_well : (old new : Reader) (has_doctype : Bool) (fs : List OpenElement) → HasRead old new has_doctype fs
    → length new.rest.now ≡ 0 → length new.stack.items ≤ 1 → Ends old new has_doctype fs (Ok tt)
ends_well old new has_doctype fs h e l = each h.opened h.holds h.reaches
  where
    each : (gs : List OpenElement) → Holds new has_doctype gs
        → Reaches (rules_of old) above_body (state_at fs old.rest.now) (state_at gs new.rest.now)
        → Ends old new has_doctype fs (Ok tt)
    each [] i p = absurd i.are_open
    each (f ∷ g ∷ gs) i p =
        let n : length new.stack.items ≡ suc (suc (length gs)) = ap length i.stack_is
        ∙ length-open_nodes new.scripting has_doctype (f ∷ g ∷ gs) in
        absurd (omega arith)
    each (f ∷ []) i p =
        let b : f ≡ with_children body f.children = body_is f (i.are_open.0) (i.are_open.1) (i.are_open.2) in (
          f.children,
          i.tree_is ∙ ap (λ x. stack_items has_doctype (x ∷ [])) b,
          subst (λ x. Reaches (rules_of old) above_body (state_at fs old.rest.now) (state_at (x ∷ []) [])) b
              (subst (λ t. Reaches (rules_of old) above_body (state_at fs old.rest.now) (state_at (f ∷ []) t))
              (empty_is new.rest.now e) p),
        )

-- ---- what is kept of the innermost open element

pub text_alone_at : (reader : Reader) (has_doctype : Bool) (fs : List OpenElement) (o : OpenNode) → IsTop reader o
    → Holds reader has_doctype fs
    → o.surroundings.text_alone ≡ holds_text_alone reader.scripting (innermost_name fs)
text_alone_at reader has_doctype fs o t h =
    ap (λ (p : Surroundings). p.text_alone) ((top_at reader has_doctype fs o t h).1)

pub raw_text_at : (reader : Reader) (has_doctype : Bool) (fs : List OpenElement) (o : OpenNode) → IsTop reader o
    → Holds reader has_doctype fs → o.surroundings.raw_text ≡ holds_raw_text reader.scripting (innermost_name fs)
raw_text_at reader has_doctype fs o t h = ap (λ (p : Surroundings). p.raw_text)
    ((top_at reader has_doctype fs o t h).1)

pub ends_alone : (scripting : Bool) (n s : List ℕ) → holds_text_alone scripting n ≡ true
    → begins_own_end n s ≡ ends_text scripting n s
ends_alone scripting n s e = rw e refl

pub ends_at_markup : (scripting : Bool) (n s : List ℕ) → holds_text_alone scripting n ≡ false
    → begins_markup s ≡ ends_text scripting n s
ends_at_markup scripting n s e = rw e refl
