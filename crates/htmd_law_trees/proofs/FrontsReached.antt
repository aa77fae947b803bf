-- The steps of a reader reach each viable prefix after which a row says something.
use Rattle.std.proofs.Common.{Bool, List, Ok, [], ap, append_assoc, codes, false, inl, inr, not, refl, subst}
use Rattle.std.proofs.Common.{sym, true, ℕ, ◌&&◌, ◌++◌, ◌∙◌, ◌∷◌, ◌≡◌, ◌≢◌, ◌⊎◌}
use Rattle.htmd_lexical.specs.CharacterClasses.{is_empty}
use Rattle.htmd_grammar.specs.HtmlDocuments.{above_body}
use Rattle.htmd_grammar.specs.Fronts.{IsFront, IsViablePrefix, IsKept, Opens, content_so_far, ends_at, with_text}
use Rattle.htmd_grammar.specs.Grammar.{ReadsForest, begins_with_row, may_end_rows}
use Rattle.htmd_grammar.specs.Nesting.{Context, is_table, is_tbody}
use Rattle.htmd_grammar.specs.RawContent.{begins_markup, content_of, ends_text, holds_raw_text, holds_text_alone}
use Rattle.htmd_grammar.specs.Rules.{Rules}
use Rattle.htmd_grammar.specs.ReaderSteps.{OpenElement, Reaches, State, body, closed, ends_rows, fresh, here}
use Rattle.htmd_grammar.specs.ReaderSteps.{is_text_end}
use Rattle.htmd_grammar.specs.ReaderSteps.{names_of, step, via, with_children, with_forest, ◌+++◌}
use Rattle.htmd_grammar.specs.Tags.{IsStartTag}
use Rattle.htmd_values.specs.ValueTrees.{ValueForest, ValueTree, comment, doctype, document, element, more, none, text}
use Rattle.htmd_lexical.proofs.BooleanLemmas.{and_false}
use Rattle.htmd_grammar.proofs.Completeness.{Goes, IsNamed, Leads, RowsEnd, along, append_nodes_assoc, append_none}
use Rattle.htmd_grammar.proofs.Completeness.{at_piece, in_text, node_read, not_deep, opened_at, pieces_read}
use Rattle.htmd_grammar.proofs.Completeness.{reaches_then, row_opens_in, tag_opens}
use Rattle.htmd_grammar.proofs.FrontsLemmas.{content_plain, ends_here, ends_in_text, kept_opened, part_stays}
use Rattle.htmd_grammar.proofs.FrontsLemmas.{tbody_drops}
use Rattle.htmd_grammar.proofs.NestingLemmas.{no_text_alone, one_name, row_is_no_tbody, tbody_place}
use Rattle.htmd_grammar.proofs.Readings.{named_front}
use Rattle.htmd_lexical.proofs.LeadingRunsLemmas.{filled}
use Rattle.htmd_grammar.proofs.TextLemmas.{Stops, markup-append}
use Rattle.htmd_grammar.proofs.TreeTexts.{IsTextTree, RowTag, row_start, start_tag_begins, stops_after}
use Rattle.htmd_lexical.proofs.Cases.{test}

text_last : (t : ValueTree) → IsTextTree t ≡ true → ends_in_text (more t none) ≡ true
text_last (document ks) e = absurd (cc)
text_last doctype e = absurd (cc)
text_last (text u) e = refl
text_last (comment u) e = absurd (cc)
text_last (element n attributes ks) e = absurd (cc)

text_later : (t : ValueTree) (ts : ValueForest) → ends_in_text ts ≡ true → ends_in_text (more t ts) ≡ true
text_later t none e = absurd (cc)
text_later (document ks) (more w ws) e = e
text_later doctype (more w ws) e = e
text_later (text u) (more w ws) e = e
text_later (comment u) (more w ws) e = e
text_later (element n attributes ks) (more w ws) e = e

pub text_behind : (t w : ValueTree) (ws : ValueForest) → ends_in_text (more t (more w ws)) ≡ true
    → ends_in_text (more w ws) ≡ true
text_behind (document ks) w ws e = e
text_behind doctype w ws e = e
text_behind (text u) w ws e = e
text_behind (comment u) w ws e = e
text_behind (element n attributes ks) w ws e = e

-- the element before it holds anything
abbrev pub emptied : OpenElement → OpenElement
emptied f = fresh f.name f.attributes f.implied

module _ (rules : Rules) where
  -- the first of some trees is read
  first_to : (t : ValueTree) (ts : ValueForest) (f : OpenElement) (gs : List OpenElement) (l : Bool)
      (s after : List ℕ) → (h : ReadsForest rules (names_of above_body (f ∷ gs)) l (more t ts) s) → IsNamed f
      → (ts ≡ none → IsTextTree t ≡ true → Stops rules.scripting f.name after)
      → RowsEnd rules above_body f l after
      → Leads rules above_body f gs h.0 (h.1 ++ after) (more t none)
  first_to t ts f gs l s after h nm st re =
      node_read rules above_body t f gs (may_end_rows l ts h.1) h.0 (h.1 ++ after) h.4 nm
      (λ e. stops_after rules f.name t ts (names_of above_body gs) l h.1 after h.3 h.5 (λ q. st q e) e)
      (rows_on ts h.1 h.5)
    where
      rows_on : (us : ValueForest) (x : List ℕ) → ReadsForest rules (names_of above_body (f ∷ gs)) l us x
          → RowsEnd rules above_body f (may_end_rows l us x) (x ++ after)
      rows_on none x k m q = rw k (re m q)
      rows_on (more u us) x k m q =
          let a : holds_text_alone rules.scripting f.name ≡ false =
          rw (one_name (codes "table") f.name q, and_false rules.scripting) refl in
          rw (part_stays rules above_body u us f.name (names_of above_body gs) l x after a k m) refl

  -- all of them are read, whatever follows if the last isn't text
  nodes_to : (ts : ValueForest) (f : OpenElement) (gs : List OpenElement) (l : Bool) (s after : List ℕ)
      → ReadsForest rules (names_of above_body (f ∷ gs)) l ts s → IsNamed f
      → (ends_in_text ts ≡ true → Stops rules.scripting f.name after) → RowsEnd rules above_body f l after
      → Leads rules above_body f gs s after ts
  nodes_to none f gs l s after h nm st re = rw (h, append_none f.children) here
  nodes_to (more t ts) f gs l s after h nm st re =
      along rules above_body (f ∷ gs) _ (h.0 ++ (h.1 ++ after)) _
      (ap (λ (y : List ℕ). y ++ after) h.2 ∙ append_assoc h.0 h.1 after)
      (reaches_then rules above_body (first_to t ts f gs l s after h nm (λ q e. st (rw q (text_last t e))) re)
      (rw (← append_nodes_assoc f.children (more t none) ts)
      (nodes_to ts (with_children f (more t none)) gs l h.1 after h.5 nm (λ q. st (text_later t ts q)) re)))

  -- the steps stand in the midst of the text that comes last
  abbrev TextRead : OpenElement → List OpenElement → ValueForest → List ℕ → List ℕ → Type 0
  TextRead f gs ts s after =
      (us : ValueForest) × (u : List ℕ) × (ts ≡ us +++ more (text u) none) × (u ≢ [])
      × Reaches rules above_body (at_piece (f ∷ gs) (s ++ after)) (in_text (with_forest (f ∷ gs) us) u after)

  text_to : (ts : ValueForest) (f : OpenElement) (gs : List OpenElement) (l : Bool) (s after : List ℕ)
      → ReadsForest rules (names_of above_body (f ∷ gs)) l ts s → IsNamed f → RowsEnd rules above_body f l after
      → ends_in_text ts ≡ true → holds_raw_text rules.scripting f.name ≡ false
      → Goes rules above_body f.name after → TextRead f gs ts s after
  text_to none f gs l s after h nm re e r g = absurd (cc)
  text_to (more (document ks) none) f gs l s after h nm re e r g = absurd (cc)
  text_to (more doctype none) f gs l s after h nm re e r g = absurd (cc)
  text_to (more (comment u) none) f gs l s after h nm re e r g = absurd (cc)
  text_to (more (element n attributes ks) none) f gs l s after h nm re e r g = absurd (cc)
  text_to (more (text u) none) f gs l s after h nm re e r g = (
    none,
    u,
    refl,
    (h.4).0,
    along rules above_body (f ∷ gs) (s ++ after) (h.0 ++ (h.1 ++ after)) _
        (ap (λ (y : List ℕ). y ++ after) h.2 ∙ append_assoc h.0 h.1 after)
        (rw (h.5, append_none f.children) (pieces_read rules above_body f gs h.0 0 [] after u nm r
        (not_deep rules above_body (f ∷ gs) (h.4).4) g (h.4).1 (h.4).3 (rw r at ((h.4).2)))),
  )
  text_to (more t (more w ws)) f gs l s after h nm re e r g =
      let i = text_to (more w ws) (with_children f (more t none)) gs l h.1 after h.5 nm re (text_behind t w ws e) r g
      in (
        more t i.0,
        i.1,
        ap (more t) i.2,
        i.3,
        along rules above_body (f ∷ gs) (s ++ after) (h.0 ++ (h.1 ++ after)) _
            (ap (λ (y : List ℕ). y ++ after) h.2 ∙ append_assoc h.0 h.1 after)
            (reaches_then rules above_body (first_to t (more w ws) f gs l s after h nm (λ q. absurd (cc)) re)
            (rw (← append_nodes_assoc f.children (more t none) i.0) i.4)),
      )

  -- at least one step
  abbrev Onward : State → State → Type 0
  Onward a b = (c : State) × (step rules above_body a ≡ Ok c) × Reaches rules above_body c b

  onward : {a b : State} → Reaches rules above_body a b → (a ≡ b → ⊥) → Onward a b
  onward here n = absurd (n refl)
  onward (via {b = c} p q) n = (c, p, q)

  then_onward : {a b c : State} → Reaches rules above_body a b → Onward b c → Onward a c
  then_onward here o = o
  then_onward (via {b = d} p q) o =
      let i = then_onward q o in (d, p, via i.1 i.2)

  row_on : (s x : List ℕ) → RowTag rules s → RowTag rules (s ++ x)
  row_on s x r = (r.0, r.1 ++ x, r.2, ap (λ (y : List ℕ). y ++ x) r.3 ∙ append_assoc r.0 r.1 x, r.4)

  row_begins : (s : List ℕ) → RowTag rules s → begins_markup s ≡ true
  row_begins s r = rw r.3 (markup-append r.0 r.1 (start_tag_begins rules r.0 (codes "tr") r.2 r.4))

  -- what follows the outer elements, where the innermost one begins
  module _ (g : OpenElement) (gs : List OpenElement) (f : OpenElement) (tag inner after : List ℕ) where
    abbrev Behind : List ℕ
    Behind = tag ++ (inner ++ after)

    abbrev Opened : Type 0
    Opened = Opens rules above_body (names_of above_body (g ∷ gs)) f tag

    -- the row of an outer `tbody`
    outer_row : (c : Context) (m : Bool) (ks : ValueForest) (x : List ℕ) → Opened → ReadsForest rules c m ks x
        → begins_with_row (ks +++ more (closed f) none) ≡ true → RowTag rules (x ++ Behind)
    outer_row c m none x o k b = elim o.2 [
      | inl w ↦ rw k (
        tag,
        inner ++ after,
        f.attributes,
        refl,
        subst (λ (y : List ℕ). IsStartTag rules.names tag y f.attributes)
            (one_name (codes "tr") f.name b) w.1,
      )
      | inr w ↦ absurd (let q = row_is_no_tbody f.name b in let z = rw q at w.2 in cc)
    ]
    outer_row c m (more (document ks) us) x o k b = absurd (cc)
    outer_row c m (more doctype us) x o k b = absurd (cc)
    outer_row c m (more (text u) us) x o k b = absurd (cc)
    outer_row c m (more (comment u) us) x o k b = absurd (cc)
    outer_row c m (more (element n attributes ks) us) x o k b =
        row_on x Behind (row_start rules (more (element n attributes ks) us) c m x k b)

    behind_begins : Opened → (f.implied ≡ true → RowTag rules (inner ++ after)) → begins_markup Behind ≡ true
    behind_begins o r = elim o.2 [
      | inl w ↦ markup-append tag (inner ++ after) (start_tag_begins rules tag f.name f.attributes w.1)
      | inr w ↦ rw w.1 (row_begins (inner ++ after) (r w.0))
    ]

    -- the tag opens the element
    opening : (b : State) → IsNamed g → Opened → IsKept f.name inner after
        → (f.implied ≡ true → RowTag rules (inner ++ after))
        → Reaches rules above_body (at_piece (emptied f ∷ g ∷ gs) (content_of f.name inner ++ after)) b
        → (f.implied ≡ true → Onward (at_piece (emptied f ∷ g ∷ gs) (content_of f.name inner ++ after)) b)
        → Onward (at_piece (g ∷ gs) Behind) b
    opening b nm o k r p n = elim o.2 [
      | inl w ↦ (
        at_piece (emptied f ∷ g ∷ gs) (content_of f.name inner ++ after),
        tag_opens rules above_body g gs f.name tag (inner ++ after) f.attributes w.1 nm o.0 o.1
            ∙ rw (w.2, w.0)
            (ap (λ (y : List ℕ). opened_at rules above_body (fresh f.name f.attributes false) g gs y) k),
        p,
      )
      | inr w ↦
          let i = n w.0 in
          let t = r w.0 in
          let q : content_of f.name inner ≡ inner =
          content_plain f.name inner (tbody_drops rules above_body f.name w.2) in
          let a : is_table g.name ≡ true =
          tbody_place rules.scripting g.name (names_of above_body gs) f.name w.2 o.0 in
          (i.0, same_step w.0 w.1 w.3 w.2 a t q ∙ i.1, i.2)
    ]
      where
        same_step : f.implied ≡ true → tag ≡ [] → f.attributes ≡ []
            → is_tbody f.name ≡ true → is_table g.name ≡ true
            → RowTag rules (inner ++ after) → content_of f.name inner ≡ inner
            → step rules above_body (at_piece (g ∷ gs) Behind)
            ≡ step rules above_body (at_piece (emptied f ∷ g ∷ gs) (content_of f.name inner ++ after))
        same_step i e as_ y a t q =
            rw (e, i, as_, q, t.3) (row_opens_in rules above_body g gs f.name t.0 t.1 t.2
            (one_name (codes "tbody") f.name y) t.4 (one_name (codes "table") g.name a)
            (not_deep rules above_body (g ∷ gs) o.1))

  -- where the content of the innermost element begins
  abbrev Entered : OpenElement → List OpenElement → Bool → List ℕ → List ℕ → Type 0
  Entered f gs l s after =
      (x : List ℕ) × ReadsForest rules (names_of above_body (f ∷ gs)) l f.children x
      × ((b : State) → Reaches rules above_body (at_piece (emptied f ∷ gs) (x ++ after)) b
      → (f.implied ≡ true → Onward (at_piece (emptied f ∷ gs) (x ++ after)) b)
      → Reaches rules above_body (at_piece (body ∷ []) (s ++ after)) b)

  entered : (f : OpenElement) (gs : List OpenElement) (l : Bool) (s after : List ℕ)
      → (h : IsFront rules above_body l (f ∷ gs) s)
      → IsKept f.name (content_so_far rules above_body f gs l s h) after
      → (f.implied ≡ true → (x : List ℕ) → ReadsForest rules (names_of above_body (f ∷ gs)) l f.children x
      → RowTag rules (x ++ after))
      → Entered f gs l s after
  entered f [] l s after h k r = (
    s,
    h.1,
    λ b p n. subst (λ (g : OpenElement). Reaches rules above_body (at_piece (g ∷ []) (s ++ after)) b)
        (outermost h.0 h.2 h.3) p,
  )
    where
      outermost : f.implied ≡ false → f.name ≡ codes "body" → f.attributes ≡ [] → emptied f ≡ body
      outermost i e as_ = rw (i, e, as_) refl
  entered f (g ∷ gs) l s after h k r =
      let y : List ℕ = h.1 ++ (h.2 ++ after) in
      let o = h.5 in
      let nm : IsNamed g = named_front rules above_body g gs (ends_at f) h.0 h.4 in
      let row : f.implied ≡ true → RowTag rules (h.2 ++ after) = (λ i. tbody_row i) in
      let e = entered g gs (ends_at f) h.0 y h.4
      (kept_opened rules above_body g gs f (content_so_far rules above_body g gs (ends_at f) h.0 h.4) h.1
      (h.2 ++ after) o)
      (λ i x z. outer_row g gs f h.1 h.2 after (names_of above_body (g ∷ gs)) (ends_at f) g.children x o z (h.7 i))
      in
      let m : begins_markup y ≡ true = behind_begins g gs f h.1 h.2 after o row in
      let a : holds_text_alone rules.scripting g.name ≡ false =
      no_text_alone rules.scripting g.name (names_of above_body gs) f.name o.0 in
      let inside : Leads rules above_body (emptied g) gs e.0 y g.children =
      nodes_to g.children (emptied g) gs (ends_at f) e.0 y e.1 nm (λ _. inr (rw (a) m))
      (λ q _. rw (ends_here rules above_body (names_of above_body (g ∷ gs)) f h.1 (h.2 ++ after) o q) refl) in (
        content_of f.name h.2,
        h.6,
        λ b p n.
            let q = opening g gs f h.1 h.2 after b nm o k row p n in
            let w = then_onward inside q in
            subst (λ (z : List ℕ). Reaches rules above_body (at_piece (body ∷ []) z) b)
            (sym (ap (λ (z : List ℕ). z ++ after) h.3 ∙ simp append_assoc))
            (e.2 b (via w.1 w.2) (λ _. w)),
      )
    where
      tbody_row : f.implied ≡ true → RowTag rules (h.2 ++ after)
      tbody_row i = elim (h.5).2 [
        | inl w ↦ absurd (let z = w.0 in cc)
        | inr w ↦
            let q : content_of f.name h.2 ≡ h.2 = content_plain f.name h.2 (tbody_drops rules above_body f.name w.2)
            in
            subst (λ (x : List ℕ). RowTag rules (x ++ after)) q (r i (content_of f.name h.2) h.6)
      ]

  -- a text that comes last has ended, or goes on with what leaves its pieces as they are
  abbrev pub GoesOn : OpenElement → List ℕ → Type 0
  GoesOn f behind =
      Stops rules.scripting f.name behind
      ⊎ (Goes rules above_body f.name behind × (holds_raw_text rules.scripting f.name ≡ false)
      × (ends_text rules.scripting f.name behind ≡ false) × (is_empty behind ≡ false))

  -- the state that stands at the front
  pub record AtFront (f : OpenElement) (gs : List OpenElement) (s behind : List ℕ) : Type 0 where
    pub inner : OpenElement
    pub run : List ℕ
    pub reached : Reaches rules above_body (at_piece (body ∷ []) s) (in_text (inner ∷ gs) run behind)
    pub whole : with_text inner run ≡ f
    pub going : (not (is_empty run) && is_text_end rules above_body (inner ∷ gs) behind) ≡ false
    pub same_name : inner.name ≡ f.name
    pub same_implied : inner.implied ≡ f.implied
    pub mode : is_empty run ≡ false → holds_raw_text rules.scripting inner.name ≡ false

  same_first : (f g : OpenElement) (fs gs : List OpenElement) → f ∷ fs ≡ g ∷ gs → f ≡ g
  same_first f g fs gs e = cc

  same_stack : (f g : OpenElement) (fs gs : List OpenElement) (s t run : List ℕ)
      → at_piece (f ∷ fs) s ≡ in_text (g ∷ gs) run t → (f ≡ g) × ([] ≡ run)
  same_stack f g fs gs s t run e =
      (same_first f g fs gs (ap (λ (st : State). st.stack) e), ap (λ (st : State). st.run) e)

  pub front_reached : (f : OpenElement) (gs : List OpenElement) (before behind : List ℕ)
      → (h : IsViablePrefix rules f gs before behind)
      → (ends_in_text f.children ≡ true → GoesOn f behind)
      → IsKept f.name (content_so_far rules above_body f gs (ends_rows behind) before h.pieces) behind
      → AtFront f gs (before ++ behind) behind
  front_reached f gs before behind h t k =
      test (ends_in_text f.children) (λ q. last q (t q)) (λ q. whole_trees (λ z. absurd (let w = rw q at z in cc)))
    where
      l : Bool
      l = ends_rows behind

      nm : IsNamed f
      nm = named_front rules above_body f gs l before h.pieces

      e : Entered f gs l before behind
      e = entered f gs l before behind h.pieces k (λ i x z. row_on x behind
          (row_start rules f.children (names_of above_body (f ∷ gs)) l x z (h.rows i)))

      -- a row has been read
      moves : (inner : OpenElement) (run : List ℕ) → with_text inner run ≡ f
          → Reaches rules above_body (at_piece (emptied f ∷ gs) (e.0 ++ behind)) (in_text (inner ∷ gs) run behind)
          → f.implied ≡ true
          → Onward (at_piece (emptied f ∷ gs) (e.0 ++ behind)) (in_text (inner ∷ gs) run behind)
      moves inner run w p i = onward p (λ q.
          let z = same_stack (emptied f) inner gs gs (e.0 ++ behind) behind run q in
          let y : with_text (emptied f) [] ≡ f =
          ap (λ (g : OpenElement). with_text g []) z.0 ∙ (ap (with_text inner) z.1 ∙ w) in
          let x : none ≡ f.children = ap (λ (g : OpenElement). g.children) y in
          let v = h.rows i in absurd (let u = rw (sym x) at v in cc))

      whole_trees : (ends_in_text f.children ≡ true → Stops rules.scripting f.name behind)
          → AtFront f gs (before ++ behind) behind
      whole_trees st =
          let p : Leads rules above_body (emptied f) gs e.0 behind f.children =
          nodes_to f.children (emptied f) gs l e.0 behind e.1 nm st (λ m _. m) in
          record {
            inner = f;
            run = [];
            reached = e.2 (in_text (f ∷ gs) [] behind) p (moves f [] refl p);
            whole = refl;
            going = refl;
            same_name = refl;
            same_implied = refl;
            mode = λ q. absurd (cc);
          }

      last : ends_in_text f.children ≡ true → GoesOn f behind → AtFront f gs (before ++ behind) behind
      last q (inl st) = whole_trees (λ _. st)
      last q (inr g) =
          let p = text_to f.children (emptied f) gs l e.0 behind e.1 nm (λ m _. m) q g.1 g.0 in
          let inner : OpenElement = with_children (emptied f) p.0 in
          let w : with_text inner p.1 ≡ f =
          rw (filled p.1 p.3) (ap (λ (ts : ValueForest). record f { children = ts }) (sym p.2)) in
          record {
            inner = inner;
            run = p.1;
            reached = e.2 (in_text (inner ∷ gs) p.1 behind) p.4 (moves inner p.1 w p.4);
            whole = w;
            going = rw (g.2, g.3) (and_false (not (is_empty p.1)));
            same_name = refl;
            same_implied = refl;
            mode = λ _. g.1;
          }
