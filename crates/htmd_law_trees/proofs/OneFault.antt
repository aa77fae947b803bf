-- A text has at most one right place and kind of a refusal.
use Rattle.std.proofs.Common.{Bool, Err, List, Ok, [], ap, arith, codes, false, inl, inr, length}
use Rattle.std.proofs.Common.{nat_lt, not, refl, subst, sym, true, ℕ, ◌&&◌, ◌++◌, ◌+◌, ◌<◌, ◌==◌, ◌∙◌}
use Rattle.std.proofs.Common.{◌∷◌, ◌≡◌, ◌≢◌, ◌≤◌, ◌⊎◌}
use Rattle.std.proofs.lemmas.Bool.Decides.{nat_tests}
use Rattle.std.proofs.lemmas.List.{append-nil}
use Rattle.std.specs.List.{list_all}
use Rattle.std.specs.Prelude.{if◌then◌else◌}
use Rattle.std.proofs.lemmas.Bool.{not-true, and_parts, eqb-true, ltb-true}
use Rattle.htmd_lexical.specs.Characters.{null}
use Rattle.htmd_lexical.specs.WhiteSpace.{is_ascii_white_space}
use Rattle.htmd_lexical.proofs.Cases.{test}
use Rattle.htmd_lexical.specs.CharacterClasses.{first_is, is_empty, lacks}
use Rattle.htmd_grammar.specs.HtmlDocuments.{above_body, body_text}
use Rattle.htmd_grammar.specs.Faults.{HasPiece, IsFirstNul, IsPieceFault, IsTextWithReferences, Applies}
use Rattle.htmd_grammar.specs.Faults.{number_of}
use Rattle.htmd_grammar.specs.Fronts.{IsFront, IsKept, content_so_far, with_text}
use Rattle.htmd_grammar.specs.Grammar.{ReadsForest}
use Rattle.htmd_law_trees.specs.GrammarLaws.{FaultsAreOne}
use Rattle.htmd_grammar.specs.Nesting.{Context, holds_parts}
use Rattle.htmd_grammar.specs.RawContent.{content_of, drops_line_feed, ends_text, holds_raw_text}
use Rattle.htmd_grammar.specs.References.{Names, piece_at, stands, wrong}
use Rattle.htmd_grammar.specs.Rules.{Rules}
use Rattle.htmd_grammar.specs.ReaderSteps.{OpenElement, Reaches, State, Step, body, ends_rows, is_text_end, names_of}
use Rattle.htmd_grammar.specs.ReaderSteps.{started, step}
use Rattle.htmd_values.specs.ValueTrees.{ValueForest, comment, doctype, document, element, more, none, text}
use Rattle.htmd_grammar.specs.declared.fault.FaultKind.{FaultKind}
use Rattle.htmd_grammar.specs.declared.fault.FaultKind.TheVariants.{BadNumber, DuplicateAttribute, MalformedComment}
use Rattle.htmd_grammar.specs.declared.fault.FaultKind.TheVariants.{MalformedDeclaration, MalformedTag, NotAllowedHere}
use Rattle.htmd_grammar.specs.declared.fault.FaultKind.TheVariants.{Nul, ScriptEscape, SelfClosing, StrayEndTag}
use Rattle.htmd_grammar.specs.declared.fault.FaultKind.TheVariants.{StrayText, TagOutside, TooDeep, Unclosed}
use Rattle.htmd_grammar.specs.declared.fault.FaultKind.TheVariants.{UnknownReference}
use Rattle.htmd_grammar.proofs.Completeness.{Goes, at_piece, content_bound, content_over, decoded_full, in_text}
use Rattle.htmd_grammar.proofs.CutLemmas.{piece_white}
use Rattle.htmd_grammar.proofs.FrontsLemmas.{content_plain, ends_in_text}
use Rattle.htmd_law_trees.proofs.FrontsReached.{AtFront, GoesOn, front_reached, text_behind}
use Rattle.htmd_grammar.proofs.LowerFaults.{none_below_nothing, not_both}
use Rattle.htmd_grammar.proofs.NestingLemmas.{among_passes}
use Rattle.htmd_grammar.proofs.Readings.{clean_stops, conf_start, kept}
use Rattle.htmd_grammar.proofs.ReferencesLemmas.{and_bounds, piece_bound}
use Rattle.htmd_grammar.proofs.RightFaults.{childless, says_with_text, says_without_text}
use Rattle.htmd_grammar.proofs.Soundness.{kept_nodes}
use Rattle.htmd_grammar.proofs.StepFaults.{Tells, step_tells}
use Rattle.htmd_grammar.proofs.TextLemmas.{stop_head, stops_not-and}
use Rattle.htmd_grammar.proofs.Uniqueness.{same_end}

-- ---- kinds by their numbers

abbrev kind_at : ℕ → FaultKind
kind_at n =
    if n == 1 then Nul else if n == 2 then MalformedTag else if n == 3 then MalformedComment
    else if n == 4 then MalformedDeclaration else if n == 5 then UnknownReference else if n == 6 then BadNumber
    else if n == 7 then DuplicateAttribute else if n == 8 then SelfClosing else if n == 9 then TagOutside
    else if n == 10 then NotAllowedHere else if n == 11 then StrayEndTag else if n == 12 then StrayText
    else if n == 13 then Unclosed else if n == 14 then ScriptEscape
    else TooDeep

kind_there : (k : FaultKind) → kind_at (number_of k) ≡ k
kind_there Nul = refl
kind_there MalformedTag = refl
kind_there MalformedComment = refl
kind_there MalformedDeclaration = refl
kind_there UnknownReference = refl
kind_there BadNumber = refl
kind_there DuplicateAttribute = refl
kind_there SelfClosing = refl
kind_there TagOutside = refl
kind_there NotAllowedHere = refl
kind_there StrayEndTag = refl
kind_there StrayText = refl
kind_there Unclosed = refl
kind_there ScriptEscape = refl
kind_there TooDeep = refl

same_kind : (k l : FaultKind) → number_of k ≡ number_of l → k ≡ l
same_kind k l e = sym (kind_there k) ∙ (ap kind_at e ∙ kind_there l)

neither_less : (n m : ℕ) → nat_lt n m ≡ false → nat_lt m n ≡ false → n ≡ m
neither_less n m e f = grind (arith, nat_tests)

-- neither of two kinds has the lower number
no_lower_kind : (k l : FaultKind) → (number_of k < number_of l → ⊥) → (number_of l < number_of k → ⊥)
    → k ≡ l
no_lower_kind k l a b =
    test (nat_lt (number_of k) (number_of l)) (λ t. absurd (a (ltb-true (number_of k) (number_of l) t)))
    (λ t. test (nat_lt (number_of l) (number_of k)) (λ u. absurd (b (ltb-true (number_of l) (number_of k) u)))
    (λ u. same_kind k l (neither_less (number_of k) (number_of l) t u)))

-- ---- U+0000

itself : (b : ℕ) → (b == b) ≡ true
itself b = grind (arith, nat_tests)

holds_it : (b : ℕ) (x y : List ℕ) → lacks b (x ++ (b ∷ y)) ≡ true → ⊥
holds_it b [] y e = let w = rw (itself b) at e in cc
holds_it b (c ∷ x) y e = holds_it b x y (and_parts (not (c == b)) (lacks b (x ++ (b ∷ y))) e).1

one_first : (b : ℕ) (x y v w : List ℕ) → x ++ (b ∷ y) ≡ v ++ (b ∷ w) → lacks b x ≡ true
    → lacks b v ≡ true
    → length x ≡ length v
one_first b [] y [] w q e f = refl
one_first b [] y (c ∷ v) w q e f =
    absurd (let z : b ≡ c = cc in let u = rw z at f in let i = rw (itself c) at u in cc)
one_first b (c ∷ x) y [] w q e f =
    absurd (let z : c ≡ b = cc in let u = rw z at e in let i = rw (itself b) at u in cc)
one_first b (c ∷ x) y (d ∷ v) w q e f =
    let z : x ++ (b ∷ y) ≡ v ++ (b ∷ w) = cc in
    let a = (and_parts (not (c == b)) (lacks b x) e).1 in
    let i = (and_parts (not (d == b)) (lacks b v) f).1 in
    let n = one_first b x y v w z a i in
    omega arith

one_nul : (s : List ℕ) (p q : ℕ) → IsFirstNul s p → IsFirstNul s q → p ≡ q
one_nul s p q a b =
    sym a.place_is ∙ (one_first null a.before a.behind b.before b.behind (sym a.text_is ∙ b.text_is) a.first b.first
    ∙ b.place_is)

-- ---- what follows a front

-- only `&` begins a reference that is wrong
wrong_begins : (names : Names) (b : ℕ) (s : List ℕ) (k : FaultKind) → piece_at names b s ≡ wrong k → b ≡ 38
wrong_begins names b s k e = test (b == 38) (λ t. eqb-true b 38 t) (λ t. absurd (plain t))
  where
    plain : (b == 38) ≡ false → ⊥
    plain t = test (b == 13) (λ r. test (first_is 10 s) (λ q. let z = rw (t, r, q) at e in cc)
        (λ q. let z = rw (t, r, q) at e in cc)) (λ r. let z = rw (t, r) at e in cc)

parts_drop_nothing : (n : List ℕ) → holds_parts n ≡ true → drops_line_feed n ≡ false
parts_drop_nothing n h = not-true (drops_line_feed n)
    (among_passes (λ p. not (drops_line_feed p)) (codes "table" ∷ codes "thead" ∷ codes "tbody" ∷ codes "tfoot"
    ∷ codes "tr" ∷ codes "colgroup" ∷ []) n h refl)

module _ (rules : Rules) where
  abbrev Kept : List ℕ → List ℕ → Type 0
  Kept n behind = (b : ℕ) (i : List ℕ) → IsKept n (b ∷ i) behind

  -- what follows leaves the text before it as it is, and the line feed that was dropped
  abbrev Leaves : OpenElement → List ℕ → Type 0
  Leaves f behind = GoesOn rules f behind × Kept f.name behind

  leaves_at_stop : (f : OpenElement) (behind : List ℕ)
      → (behind ≡ []) ⊎ (ends_text rules.scripting f.name behind ≡ true)
      → Leaves f behind
  leaves_at_stop f behind (inl e) = (
    inl (inl e),
    λ b i. rw (e, append-nil i, append-nil (content_of f.name (b ∷ i))) refl,
  )
  leaves_at_stop f behind (inr e) =
      let h = stop_head rules.scripting f.name behind e in
      (inl (inr e), λ b i. rw h.1 (content_over f.name (b ∷ i) h.0))

  -- a reference that is wrong
  leaves_reference : (f : OpenElement) (gs : List OpenElement) (behind : List ℕ) (k : FaultKind)
      → IsTextWithReferences rules (f ∷ gs) behind → HasPiece rules.names behind (wrong k) → Leaves f behind
  leaves_reference f gs behind k t h =
      let a = wrong_begins rules.names h.0 h.1 k h.3 in
      let e : behind ≡ 38 ∷ h.1 = h.2 ∙ ap (λ (b : ℕ). b ∷ h.1) a in (
        inr (
          subst (λ (y : List ℕ). Goes rules above_body f.name y) (sym e)
              (λ b s v m q w n. (
                piece_bound 38 and_bounds rules.names b s h.1 ∙ q,
                stops_not-and rules.scripting f.name b s h.1 n,
              )),
          t.1,
          (t.0).1,
          rw e refl,
        ),
        λ b i. rw e (content_bound 38 and_bounds f.name b i h.1),
      )

  -- what isn't white space between the parts of a table
  leaves_stray : (f : OpenElement) (gs : List OpenElement) (behind v : List ℕ) (m : ℕ)
      → IsTextWithReferences rules (f ∷ gs) behind → holds_parts f.name ≡ true
      → HasPiece rules.names behind (stands m v) → list_all is_ascii_white_space v ≡ false → Leaves f behind
  leaves_stray f gs behind v m t p h n = (
    inr (goes, t.1, (t.0).1, rw h.2 refl),
    λ b i. let d = parts_drop_nothing f.name p in content_plain f.name (b ∷ (i ++ behind)) d
        ∙ ap (λ (y : List ℕ). y ++ behind) (sym (content_plain f.name (b ∷ i) d)),
  )
    where
      stands_parts : (m n : ℕ) (v x : List ℕ) → stands m v ≡ stands n x → v ≡ x
      stands_parts m n v x e = cc

      no_feed : first_is 10 behind ≡ false
      no_feed = test (h.0 == 10) (λ q. absurd (feed q)) (λ q. rw (h.2, q) refl)
        where
          feed : (h.0 == 10) ≡ true → ⊥
          feed q =
              let a = eqb-true h.0 10 q in
              let z : 10 ∷ [] ≡ v = stands_parts 0 m (10 ∷ []) v
              (sym (ap (λ (b : ℕ). piece_at rules.names b h.1) a)
              ∙ h.3) in
              let w = rw (sym z) at n in cc

      goes : Goes rules above_body f.name behind
      goes b s u j q w e = (
        piece_white rules.names b s u behind j q (w p) no_feed,
        clean_stops rules.scripting f.name b (s ++ behind) (test (b == 60) (λ z. absurd (less z)) (λ z. z)),
      )
        where
          less : (b == 60) ≡ true → ⊥
          less z =
              let a = eqb-true b 60 z in
              let y : 60 ∷ [] ≡ u = stands_parts 0 j (60 ∷ []) u
              (sym (ap (λ (b : ℕ). piece_at rules.names b s) a) ∙ q)
              in
              let x = w p in
              let i = rw (sym y) at x in cc

  says_leaves : (f : OpenElement) (gs : List OpenElement) (behind : List ℕ) (k : FaultKind)
      → Applies rules (f ∷ gs) behind k → ends_in_text f.children ≡ true
      → length (names_of above_body (f ∷ gs)) ≤ rules.depth → Leaves f behind
  says_leaves f gs behind Nul h e l = absurd h
  says_leaves f gs behind UnknownReference (inl h) e l =
      leaves_reference f gs behind UnknownReference h.0 h.1
  says_leaves f gs behind UnknownReference (inr h) e l = leaves_at_stop f behind (inr h.0)
  says_leaves f gs behind BadNumber (inl h) e l = leaves_reference f gs behind BadNumber h.0 h.1
  says_leaves f gs behind BadNumber (inr h) e l = leaves_at_stop f behind (inr h.0)
  says_leaves f gs behind StrayText h e l = leaves_stray f gs behind h.3 h.2 h.0 h.1 h.4 h.5
  says_leaves f gs behind Unclosed h e l = leaves_at_stop f behind (inl h.0)
  says_leaves f gs behind ScriptEscape h e l = absurd (let z = rw h.1 at e in cc)
  says_leaves f gs behind TooDeep (inl h) e l = absurd (let d = h.0 in omega arith)
  says_leaves f gs behind TooDeep (inr h) e l = leaves_at_stop f behind (inr h.0)
  says_leaves f gs behind MalformedTag h e l = leaves_at_stop f behind (inr h.0)
  says_leaves f gs behind MalformedComment h e l = leaves_at_stop f behind (inr h.0)
  says_leaves f gs behind MalformedDeclaration h e l = leaves_at_stop f behind (inr h.0)
  says_leaves f gs behind DuplicateAttribute h e l = leaves_at_stop f behind (inr h.0)
  says_leaves f gs behind SelfClosing h e l = leaves_at_stop f behind (inr h.0)
  says_leaves f gs behind TagOutside h e l = leaves_at_stop f behind (inr h.0)
  says_leaves f gs behind NotAllowedHere h e l = leaves_at_stop f behind (inr h.0)
  says_leaves f gs behind StrayEndTag h e l = leaves_at_stop f behind (inr h.0)

  -- a text stands where it may, and isn't empty
  text_there : (p : List ℕ) (c : Context) (l : Bool) (ts : ValueForest) (s : List ℕ)
      → ReadsForest rules (p ∷ c) l ts s → ends_in_text ts ≡ true
      → (length (p ∷ c) ≤ rules.depth) × (s ≢ [])
  text_there p c l none s h e = absurd (cc)
  text_there p c l (more (text u) ts) s h e = (
    (h.4).4,
    λ q. decoded_full rules c p h.0 u (h.4).2 (h.4).0 (first_empty h.0 h.1 (sym h.2 ∙ q)),
  )
    where
      first_empty : (x y : List ℕ) → x ++ y ≡ [] → x ≡ []
      first_empty [] y q = refl
      first_empty (b ∷ x) y q = absurd (cc)
  text_there p c l (more (document ks) none) s h e = absurd (cc)
  text_there p c l (more doctype none) s h e = absurd (cc)
  text_there p c l (more (comment u) none) s h e = absurd (cc)
  text_there p c l (more (element n attributes ks) none) s h e = absurd (cc)
  text_there p c l (more t (more w ws)) s h e =
      let i = text_there p c l (more w ws) h.1 h.5 (text_behind t w ws e) in
      (i.0, λ q. i.1 (last_empty h.0 h.1 (sym h.2 ∙ q)))
    where
      last_empty : (x y : List ℕ) → x ++ y ≡ [] → y ≡ []
      last_empty [] y q = q
      last_empty (b ∷ x) y q = absurd (cc)

  shallow_text : (f : OpenElement) (gs : List OpenElement) (l : Bool) (s : List ℕ)
      → IsFront rules above_body l (f ∷ gs) s → ends_in_text f.children ≡ true
      → length (names_of above_body (f ∷ gs)) ≤ rules.depth
  shallow_text f [] l s h e = (text_there f.name above_body l f.children s h.1 e).0
  shallow_text f (g ∷ gs) l s h e =
      (text_there f.name (names_of above_body (g ∷ gs)) l f.children (content_of f.name h.2) h.6 e).0

  content_nothing : (n : List ℕ) → content_of n [] ≡ []
  content_nothing n = test (drops_line_feed n) (λ d. rw d refl) (λ d. rw d refl)

  kept_here : (f : OpenElement) (gs : List OpenElement) (l : Bool) (s behind : List ℕ)
      → (h : IsFront rules above_body l (f ∷ gs) s)
      → (f.children ≡ none → IsKept f.name (content_so_far rules above_body f gs l s h) behind)
      → (ends_in_text f.children ≡ true → Kept f.name behind)
      → IsKept f.name (content_so_far rules above_body f gs l s h) behind
  kept_here f [] l s behind h d k = rw h.2 refl
  kept_here f (g ∷ gs) l s behind h d k =
      test (ends_in_text f.children)
      (λ e. full h.2 (text_there f.name (names_of above_body (g ∷ gs)) l f.children (content_of f.name h.2) h.6 e).1
      (k e))
      (λ e. kept_nodes rules above_body f.name (names_of above_body (g ∷ gs)) l f.children h.2 behind [] h.6
      (λ q. not_both (ends_in_text f.children) q e)
      (λ q. subst (λ (y : List ℕ). IsKept f.name h.2 y) (sym (append-nil behind)) (d q)))
    where
      full : (i : List ℕ) → content_of f.name i ≢ [] → Kept f.name behind → IsKept f.name i behind
      full [] n j = absurd (n (content_nothing f.name))
      full (b ∷ i) n j = j b i

  -- an element is open where a row says something of the end
  open_left : (f : OpenElement) (gs : List OpenElement) (k : FaultKind) → Applies rules (f ∷ gs) [] k
      → 1 < length (f ∷ gs)
  open_left f gs Nul h = absurd (none_below_nothing rules (f ∷ gs) Nul (omega arith) h)
  open_left f gs MalformedTag h = absurd (none_below_nothing rules (f ∷ gs) MalformedTag (omega arith) h)
  open_left f gs MalformedComment h = absurd (none_below_nothing rules (f ∷ gs) MalformedComment (omega arith) h)
  open_left f gs MalformedDeclaration h =
      absurd (none_below_nothing rules (f ∷ gs) MalformedDeclaration (omega arith) h)
  open_left f gs UnknownReference h = absurd (none_below_nothing rules (f ∷ gs) UnknownReference (omega arith) h)
  open_left f gs BadNumber h = absurd (none_below_nothing rules (f ∷ gs) BadNumber (omega arith) h)
  open_left f gs DuplicateAttribute h = absurd (none_below_nothing rules (f ∷ gs) DuplicateAttribute (omega arith) h)
  open_left f gs SelfClosing h = absurd (none_below_nothing rules (f ∷ gs) SelfClosing (omega arith) h)
  open_left f gs TagOutside h = absurd (none_below_nothing rules (f ∷ gs) TagOutside (omega arith) h)
  open_left f gs NotAllowedHere h = absurd (none_below_nothing rules (f ∷ gs) NotAllowedHere (omega arith) h)
  open_left f gs StrayEndTag h = absurd (none_below_nothing rules (f ∷ gs) StrayEndTag (omega arith) h)
  open_left f gs StrayText h = absurd (none_below_nothing rules (f ∷ gs) StrayText (omega arith) h)
  open_left f gs Unclosed h = h.1
  open_left f gs ScriptEscape h = absurd ((h.0).0 refl)
  open_left f gs TooDeep (inl h) = elim h.1 [
    | inl t ↦ absurd (t.0 refl)
    | inr m ↦ absurd (no_markup m.0)
  ]
    where
      no_markup : ends_text rules.scripting f.name [] ≡ true → ⊥
      no_markup m = let i = stop_head rules.scripting f.name [] m in let e = i.1 in cc
  open_left f gs TooDeep (inr h) =
      absurd (let i = stop_head rules.scripting f.name [] h.0 in let e = i.1 in cc)

  -- the step that stands there finds the fault
  finds : (f : OpenElement) (gs : List OpenElement) (run behind s : List ℕ) (k : FaultKind)
      → Reaches rules above_body (started s) (in_text (f ∷ gs) run behind)
      → (not (is_empty run) && is_text_end rules above_body (f ∷ gs) behind) ≡ false
      → (f.implied && ends_rows behind) ≡ false
      → (is_empty run ≡ false → holds_raw_text rules.scripting f.name ≡ false)
      → Applies rules (with_text f run ∷ gs) behind k
      → ((lower : FaultKind) → number_of lower < number_of k → Applies rules (with_text f run ∷ gs) behind lower
      → ⊥)
      → step rules above_body (in_text (f ∷ gs) run behind) ≡ Err k
  finds f gs run behind s k r x y m h n =
      let i = kept rules above_body (started s) (in_text (f ∷ gs) run behind) [] r
      (conf_start rules above_body (body_text s)) in
      let a = i.2 in
      go (step rules above_body (in_text (f ∷ gs) run behind)) refl
      (step_tells rules f gs run behind (step rules above_body (in_text (f ∷ gs) run behind))
      (childless rules f gs a.1 run behind a.3 a.4)
      (λ e. open_left f gs k (subst (λ (z : List ℕ). Applies rules (f ∷ gs) z k) e says)) x y refl)
    where
      says : Applies rules (f ∷ gs) behind k
      says = says_without_text rules f gs run behind k h

      go : (got : Step) → step rules above_body (in_text (f ∷ gs) run behind) ≡ got
          → Tells rules f gs behind got
          → step rules above_body (in_text (f ∷ gs) run behind) ≡ Err k
      go (Ok st) e t = absurd (t k says)
      go (Err l) e t = e ∙ ap (λ (z : FaultKind). Err z) (no_lower_kind l k
          (λ z. n l z (says_with_text rules f gs run behind l m t.0)) (λ z. t.1 k z says))

  -- a state whose step finds the fault
  abbrev Found : List ℕ → ℕ → FaultKind → Type 0
  Found s place k =
      (st : State) × Reaches rules above_body (started s) st × (step rules above_body st ≡ Err k)
      × (place + length st.rest ≡ length s)

  found : (s : List ℕ) (place : ℕ) (k : FaultKind) → IsPieceFault rules s place k → Found s place k
  found s place k h = (
    in_text (at.inner ∷ h.opened) at.run h.behind,
    reached,
    finds at.inner h.opened at.run h.behind s k reached at.going
        (rw at.same_implied (h.prefix_is_viable).no_more_rows) at.mode
        (subst (λ (f : OpenElement). Applies rules (f ∷ h.opened) h.behind k) (sym at.whole) h.says)
        (λ lower l z. h.no_lower lower l
        (subst (λ (f : OpenElement). Applies rules (f ∷ h.opened) h.behind lower) at.whole z)),
    h.place_is,
  )
    where
      leaves : ends_in_text (h.innermost).children ≡ true → Leaves h.innermost h.behind
      leaves e = says_leaves h.innermost h.opened h.behind k h.says e
          (shallow_text h.innermost h.opened (ends_rows h.behind) h.before (h.prefix_is_viable).pieces e)

      at : AtFront rules h.innermost h.opened (h.before ++ h.behind) h.behind
      at = front_reached rules h.innermost h.opened h.before h.behind h.prefix_is_viable (λ e. (leaves e).0)
          (kept_here h.innermost h.opened (ends_rows h.behind) h.before h.behind (h.prefix_is_viable).pieces
          (h.prefix_is_viable).dropped (λ e. (leaves e).1))

      reached : Reaches rules above_body (started s) (in_text (at.inner ∷ h.opened) at.run h.behind)
      reached = subst (λ (y : List ℕ). Reaches rules above_body (at_piece (body ∷ []) y)
          (in_text (at.inner ∷ h.opened) at.run h.behind)) (sym h.text_is) at.reached

  same_error : (k l : FaultKind) → ◌≡◌ {A = Step} (Err k) (Err l) → k ≡ l
  same_error k l e = cc

  one_found : (s : List ℕ) (p q : ℕ) (k l : FaultKind) → Found s p k → Found s q l → (p ≡ q) × (k ≡ l)
  one_found s p q k l a b =
      let e = same_end rules above_body (started s) a.0 b.0 k l a.1 b.1 a.2 b.2 in
      let n = ap (λ (st : State). length st.rest) e in
      let i = a.3 in
      let j = b.3 in
      (omega arith, same_error k l (sym a.2 ∙ (ap (step rules above_body) e ∙ b.2)))

  nul_there : (s : List ℕ) (p : ℕ) → IsFirstNul s p → lacks null s ≡ true → ⊥
  nul_there s p h e = holds_it null h.before h.behind (ap (lacks null) (sym h.text_is) ∙ e)

  pub faults_are_one : FaultsAreOne rules
  faults_are_one s p q k l (inl a) (inl b) = (one_nul s p q a.1 b.1, a.0 ∙ sym b.0)
  faults_are_one s p q k l (inl a) (inr b) = absurd (nul_there s p a.1 b.0)
  faults_are_one s p q k l (inr a) (inl b) = absurd (nul_there s q b.1 a.0)
  faults_are_one s p q k l (inr a) (inr b) = one_found s p q k l (found s p k a.1) (found s q l b.1)
