-- Fronts grow by what is whole.
use Rattle.std.proofs.Common.{Bool, List, [], ap, append_assoc, codes, false, inl, inr, map, refl, subst, sym, true, ℕ}
use Rattle.std.proofs.Common.{◌++◌, ◌∙◌, ◌∷◌, ◌≡◌, ◌⊎◌}
use Rattle.std.proofs.lemmas.List.{append-nil}
use Rattle.std.specs.Char.{is_ascii_alphabetic, to_ascii_lowercase}
use Rattle.htmd_lexical.specs.CharacterClasses.{is_tag_name_byte, leading_run}
use Rattle.htmd_grammar.specs.Fronts.{IsFront, IsKept, Opens, content_so_far, ends_at}
use Rattle.htmd_grammar.specs.Grammar.{Apart, ReadsForest, ReadsTree, begins_with_row, may_end_rows, tag_name_at}
use Rattle.htmd_grammar.specs.Nesting.{Context, is_table, is_table_part, is_tbody}
use Rattle.htmd_grammar.specs.RawContent.{begins_markup, content_of, drops_line_feed, holds_text_alone}
use Rattle.htmd_grammar.specs.Rules.{Rules}
use Rattle.htmd_values.specs.Serialisation.{is_void}
use Rattle.htmd_grammar.specs.ReaderSteps.{OpenElement, closed, names_of, with_children, ◌+++◌}
use Rattle.htmd_grammar.specs.Tags.{IsEndTag, IsStartTag, IsTagForm}
use Rattle.htmd_lexical.specs.AttributePairs.{AttributePair}
use Rattle.htmd_values.specs.ValueTrees.{ValueForest, ValueTree, comment, doctype, document, element}
use Rattle.htmd_values.specs.ValueTrees.{more, none, text}
use Rattle.htmd_grammar.proofs.Completeness.{content_over, decoded_full}
use Rattle.htmd_grammar.proofs.NestingLemmas.{no_text_alone, one_name, tbody_place}
use Rattle.htmd_grammar.proofs.TagReadingLemmas.{halts_name, rest_halts}
use Rattle.htmd_grammar.proofs.TextLemmas.{Stops, name_cut, name_head, no_tag, run_not_stop}
use Rattle.htmd_grammar.proofs.TreeTexts.{Inside, IsTextTree, node_no_title, row_start, stops_after}
use Rattle.htmd_lexical.proofs.Cases.{test}

-- a text comes last
abbrev pub ends_in_text : ValueForest → Bool
ends_in_text none = false
ends_in_text (more (text u) none) = true
ends_in_text (more t none) = false
ends_in_text (more t (more u ts)) = ends_in_text (more u ts)

pub apart_none : (t : ValueTree) → Apart t none
apart_none (document ks) = tt
apart_none doctype = tt
apart_none (text u) = tt
apart_none (comment u) = tt
apart_none (element n attributes ks) = tt

apart_append : (u t : ValueTree) (us : ValueForest) → Apart u us
    → (ends_in_text (more u us) ≡ true → IsTextTree t ≡ false) → Apart u (us +++ more t none)
apart_append (document ks) t us a e = tt
apart_append doctype t us a e = tt
apart_append (text v) (document ks) none a e = tt
apart_append (text v) doctype none a e = tt
apart_append (text v) t (more (document ks) us) a e = tt
apart_append (text v) t (more doctype us) a e = tt
apart_append (text v) (text w) none a e = let q = e refl in absurd (cc)
apart_append (text v) (comment w) none a e = tt
apart_append (text v) (element n attributes ks) none a e = tt
apart_append (comment v) t none a e = tt
apart_append (element n attributes ks) t none a e = tt
apart_append (text v) t (more (text w) us) a e = a
apart_append (text v) t (more (comment w) us) a e = tt
apart_append (text v) t (more (element n attributes ks) us) a e = tt
apart_append (comment v) t (more w us) a e = tt
apart_append (element n attributes ks) t (more w us) a e = tt

rest_text : (u : ValueTree) (us : ValueForest) (t : ValueTree)
    → (ends_in_text (more u us) ≡ true → IsTextTree t ≡ false) → ends_in_text us ≡ true
    → IsTextTree t ≡ false
rest_text u none t e q = absurd (cc)
rest_text (document ks) (more w us) t e q = e q
rest_text doctype (more w us) t e q = e q
rest_text (text v) (more w us) t e q = e q
rest_text (comment v) (more w us) t e q = e q
rest_text (element n attributes ks) (more w us) t e q = e q

row_same : (ts : ValueForest) (n : List ℕ) (attributes : List AttributePair) (ks us : ValueForest)
    → begins_with_row (ts +++ more (element n attributes ks) none) ≡ true
    → begins_with_row (ts +++ more (element n attributes us) none) ≡ true
row_same none n attributes ks us h = h
row_same (more (document kk) ts) n attributes ks us h = h
row_same (more doctype ts) n attributes ks us h = h
row_same (more (text u) ts) n attributes ks us h = h
row_same (more (comment u) ts) n attributes ks us h = h
row_same (more (element k a x) ts) n attributes ks us h = h

pub row_append : (ts us : ValueForest) → begins_with_row ts ≡ true → begins_with_row (ts +++ us) ≡ true
row_append none us h = absurd (cc)
row_append (more (document kk) ts) us h = h
row_append (more doctype ts) us h = h
row_append (more (text u) ts) us h = h
row_append (more (comment u) ts) us h = h
row_append (more (element k a x) ts) us h = h

-- the name of a tag, whatever follows it
pub form_starts : (tag n x : List ℕ) (spelled : List AttributePair) (present : Bool)
    → IsTagForm tag n spelled present
    → tag_name_at (tag ++ x) ≡ n
form_starts tag n x spelled present t =
    let k = name_head t.0 t.3 in
    let e : tag ++ x ≡ 60 ∷ (t.0 ++ (t.1 ++ x)) = ap (λ (y : List ℕ). y ++ x) t.2
    ∙ ap (λ (y : List ℕ). 60 ∷ y) (append_assoc t.0 t.1 x) in
    let q = name_cut t.0 (t.1 ++ x) t.3 (halts_name (t.1 ++ x) (rest_halts spelled present t.1 x t.5).0) in
    ap tag_name_at e ∙ (named t.0 (t.1 ++ x) k.0 k.1 k.2 k.3 ∙ (ap (map to_ascii_lowercase) q.0 ∙ t.4))
  where
    named : (w y : List ℕ) (b : ℕ) (v : List ℕ) → w ≡ b ∷ v → is_ascii_alphabetic b ≡ true
        → tag_name_at (60 ∷ (w ++ y)) ≡ map to_ascii_lowercase (leading_run is_tag_name_byte (w ++ y))
    named w y b v e l = rw (e, l) refl

pub content_plain : (n s : List ℕ) → drops_line_feed n ≡ false → content_of n s ≡ s
content_plain n s d = rw d refl

module _ (rules : Rules) (outer : Context) where
  node_weaker : (c : Context) (l m : Bool) (t : ValueTree) (s : List ℕ) → (l ≡ true → m ≡ true)
      → ReadsTree rules c l t s → ReadsTree rules c m t s
  node_weaker c l m (document ks) s i h = absurd h
  node_weaker c l m doctype s i h = absurd h
  node_weaker c l m (text u) s i h = h
  node_weaker c l m (comment u) s i h = h
  node_weaker c l m (element n attributes ks) s i h = (h.0, h.1, go h.2)
    where
      go : Inside rules c l n attributes ks s → Inside rules c m n attributes ks s
      go (inl w) = inl w
      go (inr w) = inr (w.0, w.1, w.2, w.3, w.4, w.5, w.6, elim (w.7) [ inl x ↦ inl x | inr x ↦ inr (x.0, i x.1) ])

  pub nodes_weaker : (c : Context) (l m : Bool) (ts : ValueForest) (s : List ℕ) → (l ≡ true → m ≡ true)
      → ReadsForest rules c l ts s → ReadsForest rules c m ts s
  nodes_weaker c l m none s i h = h
  nodes_weaker c l m (more t none) s i h = (h.0, h.1, h.2, h.3, node_weaker c l m t h.0 i h.4, h.5)
  nodes_weaker c l m (more t (more u ts)) s i h = (h.0, h.1, h.2, h.3, h.4, nodes_weaker c l m (more u ts) h.1 i h.5)

  -- the name of a tag, whatever follows it
  pub tag_starts : (tag n x : List ℕ) (attributes : List AttributePair) → IsStartTag rules.names tag n attributes
      → tag_name_at (tag ++ x) ≡ n
  tag_starts tag n x attributes t = form_starts tag n x t.0 t.1 t.2

  last_no_title : (p : List ℕ) (c : Context) (l : Bool) (u : ValueTree) (us : ValueForest) (s : List ℕ)
      → ReadsForest rules (p ∷ c) l (more u us) s → ends_in_text (more u us) ≡ false
      → holds_text_alone rules.scripting p ≡ false
  last_no_title p c l (document ks) us s h e = absurd (h.4)
  last_no_title p c l doctype us s h e = absurd (h.4)
  last_no_title p c l (text v) none s h e = absurd (cc)
  last_no_title p c l (comment v) none s h e = (h.4).1
  last_no_title p c l (element n attributes ks) none s h e = no_text_alone rules.scripting p c n (h.4).0
  last_no_title p c l (text v) (more w us) s h e = last_no_title p c l w us h.1 h.5 e
  last_no_title p c l (comment v) (more w us) s h e = last_no_title p c l w us h.1 h.5 e
  last_no_title p c l (element n attributes ks) (more w us) s h e = last_no_title p c l w us h.1 h.5 e

  -- there is no `title` where there are two nodes
  two_no_title : (p : List ℕ) (c : Context) (l m : Bool) (u : ValueTree) (us : ValueForest) (t : ValueTree)
      (s b : List ℕ) → ReadsForest rules (p ∷ c) l (more u us) s → ReadsTree rules (p ∷ c) m t b
      → (ends_in_text (more u us) ≡ true → IsTextTree t ≡ false)
      → holds_text_alone rules.scripting p ≡ false
  two_no_title p c l m u us t s b h n e = test (IsTextTree t)
      (λ y. last_no_title p c l u us s h
      (test (ends_in_text (more u us)) (λ x. absurd (let z = e x in cc)) (λ x. x)))
      (λ y. node_no_title rules p t c m b y n)

  -- a part of the table that begins a text begins it with more after it
  pub part_stays : (v : ValueTree) (vs : ValueForest) (p : List ℕ) (c : Context) (l : Bool) (s b : List ℕ)
      → holds_text_alone rules.scripting p ≡ false → ReadsForest rules (p ∷ c) l (more v vs) s
      → is_table_part (tag_name_at s) ≡ true → is_table_part (tag_name_at (s ++ b)) ≡ true
  part_stays (document ks) vs p c l s b tf h q = absurd (h.4)
  part_stays doctype vs p c l s b tf h q = absurd (h.4)
  part_stays (text u) vs p c l s b tf h q =
      let st : Stops rules.scripting p (h.1) = subst (Stops rules.scripting p) (append-nil h.1)
      (stops_after rules p (text u) vs c l h.1 [] h.3 h.5 (λ _. inl refl) refl) in
      let m = run_not_stop rules.scripting p h.0 h.1 (decoded_full rules outer p h.0 u (h.4).2 (h.4).0) (h.4).1 st in
      let m2 : begins_markup (h.0 ++ h.1) ≡ false = rw tf at m in
      let k = no_tag (h.0 ++ h.1) m2 in
      let r : is_table_part (tag_name_at (h.0 ++ h.1)) ≡ true = ap (λ (y : List ℕ). is_table_part (tag_name_at y))
      (sym h.2) ∙ q in
      let w = rw k.0 at r in absurd (cc)
  part_stays (comment u) vs p c l s b tf h q =
      let r : is_table_part (tag_name_at (h.0 ++ h.1)) ≡ true = ap (λ (y : List ℕ). is_table_part (tag_name_at y))
      (sym h.2) ∙ q in
      let w = rw ((h.4).0).2 at r in absurd (cc)
  part_stays (element n attributes ks) vs p c l s b tf h q = go (h.4).2
    where
      same : (tag x k : List ℕ) (as_ : List AttributePair) → IsStartTag rules.names tag k as_ → s ≡ tag ++ x
          → is_table_part (tag_name_at (s ++ b)) ≡ true
      same tag x k as_ t e =
          let n1 : tag_name_at s ≡ k = ap tag_name_at e ∙ tag_starts tag k x as_ t in
          let n2 : tag_name_at (s ++ b) ≡ k = ap (λ (y : List ℕ). tag_name_at (y ++ b)) e
          ∙ (ap tag_name_at (append_assoc tag x b) ∙ tag_starts tag k (x ++ b) as_ t) in
          ap is_table_part (n2 ∙ sym n1) ∙ q

      go : Inside rules (p ∷ c) (may_end_rows l vs h.1) n attributes ks h.0
          → is_table_part (tag_name_at (s ++ b)) ≡ true
      go (inl w) = same w.0 ((w.1 ++ w.2) ++ h.1) n attributes w.4
          (h.2 ∙ (ap (λ (y : List ℕ). y ++ h.1) w.3 ∙ append_assoc w.0 (w.1 ++ w.2) h.1))
      go (inr w) =
          let r = row_start rules ks (n ∷ p ∷ c) true w.0 w.6 w.5 in
          same r.0 ((r.1 ++ w.1) ++ h.1) (codes "tr") r.2 r.4
          (h.2 ∙ (ap (λ (y : List ℕ). y ++ h.1)
          (w.2 ∙ (ap (λ (y : List ℕ). y ++ w.1) r.3 ∙ append_assoc r.0 r.1 w.1))
          ∙ append_assoc r.0 (r.1 ++ w.1) h.1))

  ends_on : (us : ValueForest) (t : ValueTree) (p : List ℕ) (c : Context) (l m : Bool) (s b : List ℕ)
      → holds_text_alone rules.scripting p ≡ false → ReadsForest rules (p ∷ c) l us s
      → (l ≡ true → is_table_part (tag_name_at b) ≡ true)
      → may_end_rows l us s ≡ true → may_end_rows m (us +++ more t none) (s ++ b) ≡ true
  ends_on none t p c l m s b tf h k q = rw h (k q)
  ends_on (more u us) t p c l m s b tf h k q = part_stays u us p c l s b tf h q

  pub snoc : (ts : ValueForest) (t : ValueTree) (p : List ℕ) (c : Context) (l m : Bool) (a b : List ℕ)
      → ReadsForest rules (p ∷ c) l ts a → ReadsTree rules (p ∷ c) m t b
      → (l ≡ true → is_table_part (tag_name_at b) ≡ true)
      → (ends_in_text ts ≡ true → IsTextTree t ≡ false)
      → ReadsForest rules (p ∷ c) m (ts +++ more t none) (a ++ b)
  snoc none t p c l m a b h n k e = (b, [], rw (h, append-nil b) refl, apart_none t, n, refl)
  snoc (more u us) t p c l m a b h n k e = (
    h.0,
    h.1 ++ b,
    ap (λ (y : List ℕ). y ++ b) h.2 ∙ append_assoc h.0 h.1 b,
    apart_append u t us h.3 e,
    node_weaker (p ∷ c) (may_end_rows l us h.1) (may_end_rows m (us +++ more t none) (h.1 ++ b)) u h.0
        (ends_on us t p c l m h.1 b (two_no_title p c l m u us t a b h n e) h.5 k) h.4,
    snoc us t p c l m h.1 b h.5 n k (rest_text u us t e),
  )

  -- what is added to the innermost element
  pub grows : (f : OpenElement) (gs : List OpenElement) (t : ValueTree) (l m : Bool) (s b : List ℕ)
      → (h : IsFront rules outer l (f ∷ gs) s) → ReadsTree rules (names_of outer (f ∷ gs)) m t b
      → (l ≡ true → is_table_part (tag_name_at b) ≡ true)
      → (ends_in_text f.children ≡ true → IsTextTree t ≡ false)
      → IsKept f.name (content_so_far rules outer f gs l s h) b
      → IsFront rules outer m (with_children f (more t none) ∷ gs) (s ++ b)
  grows f [] t l m s b h n p e k = (h.0, snoc f.children t f.name outer l m s b h.1 n p e, h.2, h.3)
  grows f (g ∷ gs) t l m s b h n p e k = (
    h.0,
    h.1,
    h.2 ++ b,
    ap (λ (y : List ℕ). y ++ b) h.3 ∙ simp append_assoc,
    h.4,
    h.5,
    subst (λ (y : List ℕ). ReadsForest rules (names_of outer (f ∷ g ∷ gs)) m (f.children +++ more t none) y)
        (sym k)
        (snoc f.children t f.name (names_of outer (g ∷ gs)) l m (content_of f.name h.2) b h.6 n p e),
    λ i. row_same g.children f.name f.attributes f.children (f.children +++ more t none) (h.7 i),
  )

  pub tbody_drops : (n : List ℕ) → is_tbody n ≡ true → drops_line_feed n ≡ false
  tbody_drops n t = rw (one_name (codes "tbody") n t) refl

  table_drops : (n : List ℕ) → is_table n ≡ true → drops_line_feed n ≡ false
  table_drops n t = rw (one_name (codes "table") n t) refl

  pub kept_tag : (n i tag z : List ℕ) (m : List ℕ) (attributes : List AttributePair)
      → IsStartTag rules.names tag m attributes → IsKept n i (tag ++ z)
  kept_tag n i tag z m attributes t = let f = t.2 in rw f.2 (content_over n i ((f.0 ++ f.1) ++ z))

  pub kept_opened : (g : OpenElement) (gs : List OpenElement) (f : OpenElement) (i tag z : List ℕ)
      → Opens rules outer (names_of outer (g ∷ gs)) f tag → IsKept g.name i (tag ++ z)
  kept_opened g gs f i tag z o = elim o.2 [
    | inl w ↦ kept_tag g.name i tag z f.name f.attributes w.1
    | inr w ↦
        let d : drops_line_feed g.name ≡ false =
        table_drops g.name (tbody_place rules.scripting g.name (names_of outer gs) f.name w.2 o.0) in
        content_plain g.name (i ++ (tag ++ z)) d
        ∙ ap (λ (y : List ℕ). y ++ (tag ++ z)) (sym (content_plain g.name i d))
  ]

  abbrev pub Ends : Bool → OpenElement → List ℕ → Type 0
  Ends m f e = IsEndTag e f.name ⊎ ((e ≡ []) × (m ≡ true) × (f.implied ≡ true))

  closed_node : (c : Context) (f : OpenElement) (l m : Bool) (tag inner e : List ℕ) → Opens rules outer c f tag
      → ReadsForest rules (f.name ∷ c) l f.children (content_of f.name inner) → Ends m f e
      → (f.implied ≡ true → begins_with_row f.children ≡ true)
      → ReadsTree rules c m (closed f) (tag ++ (inner ++ e))
  closed_node c f l m tag inner e o k x r = (o.0, o.1, go o.2 x)
    where
      ks : ReadsForest rules (f.name ∷ c) true f.children (content_of f.name inner)
      ks = nodes_weaker (f.name ∷ c) l true f.children (content_of f.name inner) (λ _. refl) k

      plain : is_tbody f.name ≡ true → ReadsForest rules (f.name ∷ c) true f.children inner
      plain t = subst (λ (y : List ℕ). ReadsForest rules (f.name ∷ c) true f.children y)
          (content_plain f.name inner (tbody_drops f.name t)) ks

      go : ((f.implied ≡ false) × IsStartTag rules.names tag f.name f.attributes × (is_void f.name ≡ false))
          ⊎ ((f.implied ≡ true) × (tag ≡ []) × (is_tbody f.name ≡ true) × (f.attributes ≡ []))
          → Ends m f e
          → Inside rules c m f.name f.attributes f.children (tag ++ (inner ++ e))
      go (inl w) (inl y) = inl (tag, inner, e, refl, w.1, rw w.2 (ks, y))
      go (inl w) (inr y) = absurd (let i = w.0 in let j = y.2 in cc)
      go (inr w) (inl y) = inr (inner, e, rw w.1 refl, w.2, w.3, r w.0, plain w.2, inl y)
      go (inr w) (inr y) = inr (inner, e, rw w.1 refl, w.2, w.3, r w.0, plain w.2, inr (y.0, y.1))

  pub ends_here : (c : Context) (f : OpenElement) (tag x : List ℕ) → Opens rules outer c f tag
      → ends_at f ≡ true
      → is_table_part (tag_name_at (tag ++ x)) ≡ true
  ends_here c f tag x o e = go o.2
    where
      go : ((f.implied ≡ false) × IsStartTag rules.names tag f.name f.attributes × (is_void f.name ≡ false))
          ⊎ ((f.implied ≡ true) × (tag ≡ []) × (is_tbody f.name ≡ true) × (f.attributes ≡ []))
          → is_table_part (tag_name_at (tag ++ x)) ≡ true
      go (inl w) =
          let p : is_table_part f.name ≡ true = rw w.0 at e in
          ap is_table_part (tag_starts tag f.name x f.attributes w.1) ∙ p
      go (inr w) = let q = rw w.0 at e in absurd (cc)

  -- the innermost element is closed
  pub closes : (f g : OpenElement) (gs : List OpenElement) (l m : Bool) (s e : List ℕ)
      → IsFront rules outer l (f ∷ g ∷ gs) s → Ends m f e
      → (f.implied ≡ true → begins_with_row f.children ≡ true)
      → IsFront rules outer m (with_children g (more (closed f) none) ∷ gs) (s ++ e)
  closes f g gs l m s e h x r =
      let c : Context = names_of outer (g ∷ gs) in
      let y : List ℕ = h.1 ++ (h.2 ++ e) in
      let q : s ++ e ≡ h.0 ++ (h.1 ++ (h.2 ++ e)) = ap (λ (z : List ℕ). z ++ e) h.3 ∙ simp append_assoc in
      rw q (grows g gs (closed f) (ends_at f) m h.0 y h.4 (closed_node c f l m h.1 h.2 e h.5 h.6 x r)
      (λ k. ends_here c f h.1 (h.2 ++ e) h.5 k) (λ _. refl)
      (kept_opened g gs f (content_so_far rules outer g gs (ends_at f) h.0 h.4) h.1 (h.2 ++ e) h.5))

  unfoldable pub front_weaker : (f : OpenElement) (gs : List OpenElement) (l m : Bool) (s : List ℕ)
      → (l ≡ true → m ≡ true) → IsFront rules outer l (f ∷ gs) s → IsFront rules outer m (f ∷ gs) s
  front_weaker f [] l m s i h = (h.0, nodes_weaker (f.name ∷ outer) l m f.children s i h.1, h.2, h.3)
  front_weaker f (g ∷ gs) l m s i h = (
    h.0,
    h.1,
    h.2,
    h.3,
    h.4,
    h.5,
    nodes_weaker (names_of outer (f ∷ g ∷ gs)) l m f.children (content_of f.name h.2) i
        h.6,
    h.7,
  )
