-- Text is put at the end of an open node, in a new text or at the end of its last one.
use Rattle.std.proofs.Common.{◌≡◌, ◌∙◌, ℕ, zero, suc, ◌+◌, ◌<◌, ◌≤◌, Bool, true, false, List, [], ◌∷◌, ◌++◌, length}
use Rattle.std.proofs.Common.{refl, sym, ap, subst, arith, cond, Some, inl, inr, ⊎_elim, ◌⊎◌, length-append}
use Rattle.std.specs.Prelude.{◌==◌, not, IsUtf8, filter}
use Rattle.std.proofs.lemmas.Bool.{true≢false, cond_both, eqb-true, eqb-false, eq-eqb, ne_eqb}
use Rattle.std.proofs.lemmas.List.Elements.{filter-append}
use Rattle.std.proofs.lemmas.Str.{IsUtf8-append, chars-append}
use Rattle.std.specs.Str.{chars}
use Rattle.htmd_lexical.proofs.Cases.{test}
use Rattle.htmd_lexical.specs.CharacterClasses.{is_empty}
use Rattle.htmd_html5_state.specs.Nodes.{NodeValue, KindValue, text, kind_at, parent_at, children_at, with_kind}
use Rattle.htmd_html5_state.specs.Nodes.{last_in, child_before, preceding, add_text, document, new_node}
use Rattle.htmd_law_html5.proofs.NamedKinds.{by_text}
use Rattle.htmd_law_html5.proofs.NodeParts.{times, times_append, children_of_kind, kind_other}
use Rattle.htmd_law_html5.proofs.Forests.{once_at_most, nowhere_else}
use Rattle.htmd_law_html5.proofs.HungNodes.{is_solid, solid_within}
use Rattle.htmd_law_html5.proofs.NodeTexts.{is_element}
use Rattle.htmd_law_html5.proofs.Sublists.{Sub, window, window_grown, window_new, sub_all, sub_joined}
use Rattle.htmd_law_html5.proofs.ChildRows.{Marks, Row, after, row_ends, row_marks, row_as, cond_low, times_own}
use Rattle.htmd_law_html5.proofs.ChildRows.{by_two, row_end}
use Rattle.htmd_law_html5.proofs.OrderedNodes.{bears, Labels, until, marks, TextIn, FitsBy, none_out, Ranked}
use Rattle.htmd_law_html5.proofs.OrderedNodes.{ended_above, child_parent, lo_until, ended_until, some_same, RowAt}
use Rattle.htmd_law_html5.proofs.OrderedNodes.{no_letters, text_same, child_held, fits_grown}
use Rattle.htmd_law_html5.proofs.OrderedInserts.{row_unmarked, mark, grown, fits_added, marked, loose_row, live_row}
use Rattle.htmd_law_html5.proofs.OrderedInserts.{fits_marked}
use Rattle.htmd_law_html5.proofs.Counted.{Choice, counted_of}
use Rattle.std.proofs.lemmas.List.{append-nil, get_or-set_same}

module _ (choice : Choice) where
  -- ---- letters of texts

  pub letters_append : (s t : List ℕ) → IsUtf8 s → counted_of choice (s ++ t) ≡ counted_of choice s
      ++ counted_of choice t
  unfolding counted_of
  letters_append s t u = ap (filter choice.counts) (chars-append s t u) ∙ filter-append choice.counts (chars s)
      (chars t)

  pub fits_same : {out : ℕ → Bool} {letters : List ℕ} {nodes : List NodeValue} {l : Labels}
      → FitsBy choice out (letters ++ []) nodes l → FitsBy choice out letters nodes l
  fits_same {out} {letters} {nodes} {l} h =
      subst (λ (x : List ℕ). FitsBy choice out x nodes l) (append-nil letters) h

-- ---- what a node is changes, but not what its text's letters are

-- a text or an element is a node
kind_set_solid : (n : ℕ) (k : KindValue) (nodes : List NodeValue) → is_solid (kind_at nodes n) ≡ true
    → kind_at (with_kind n k nodes) n ≡ k
kind_set_solid n k nodes e =
    ap (λ (x : NodeValue). x.kind) (get_or-set_same nodes n _ (new_node document) (solid_within n nodes e))

kind_set_own : (n : ℕ) (k : KindValue) (nodes : List NodeValue)
    → (kind_at (with_kind n k nodes) n ≡ k) ⊎ (kind_at (with_kind n k nodes) n ≡ kind_at nodes n)
kind_set_own n k [] = inr refl
kind_set_own zero k (x ∷ nodes) = inl refl
kind_set_own (suc n) k (x ∷ nodes) = kind_set_own n k nodes

module _ (choice : Choice) where
  module _ (n : ℕ) (k : KindValue) (letters : List ℕ) (nodes : List NodeValue) (l : Labels)
      (bears_less : bears choice k ≡ true → bears choice (kind_at nodes n) ≡ true)
      (h : FitsBy choice none_out letters nodes l) where
    abbrev changed : List NodeValue
    changed = with_kind n k nodes

    alike : (c : ℕ) → bears choice (kind_at changed c) ≡ true → bears choice (kind_at nodes c) ≡ true
    alike c =
        test (n == c)
        (λ u. subst (λ (x : ℕ). bears choice (kind_at changed x) ≡ true → bears choice (kind_at nodes x)
        ≡ true) (eqb-true n c u) (⊎_elim (λ e b. bears_less (sym (ap (bears choice) e) ∙ b))
        (λ e b. sym (ap (bears choice) e) ∙ b) (kind_set_own n k nodes)))
        (λ u b. sym (ap (bears choice) (kind_other n c k nodes (eqb-false n c u))) ∙ b)

    pub row_like : (limit : ℕ) → length letters < limit → (at : ℕ) (cs : List ℕ) (to : ℕ)
        → Row (marks choice none_out nodes limit l) at cs to → Row (marks choice none_out changed limit l) at cs to
    row_like limit big at cs to r =
        row_marks (marks choice none_out nodes limit l) (marks choice none_out changed limit l) at cs to
        (λ c m b. (alike c b, omega arith, lo_until h limit big c, omega arith)) r

    pub fits_like : ((t : List ℕ) → k ≡ text t → TextIn choice letters l n t)
        → FitsBy choice none_out letters changed l
    fits_like is = record {
      span = h.span;
      high = h.high;
      rows = λ limit big q. row_as (marks choice none_out changed limit l) refl (children_of_kind n q k nodes) refl
          (row_like limit big (l.lo q) (children_at nodes q) (until limit l q) (h.rows limit big q));
      texts = λ m t e.
          test (n == m) (λ u. let own : kind_at changed n ≡ text t =
          ap (λ (x : ℕ). kind_at changed x) (eqb-true n m u) ∙ e in
          subst (λ (x : ℕ). TextIn choice letters l x t) (eqb-true n m u)
          (⊎_elim (λ g. is t (sym g ∙ own)) (λ g. h.texts n t (sym g ∙ own)) (kind_set_own n k nodes)))
          (λ u. h.texts m t (sym (kind_other n m k nodes (eqb-false n m u)) ∙ e));
    }

  -- ---- more at the end of a text

  row_split : (m : Marks) (at : ℕ) (cs : List ℕ) (n to : ℕ) → Row m at (cs ++ n ∷ []) to
      → Row m at cs (cond (m.counts n) (m.begin n) to)
  row_split m at [] n to h =
      cond_both (m.counts n) _ _ (λ x. at ≤ x) (λ e. let s = h.0 e in s.0) (λ e. let g = h.1 in rw e at g)
  row_split m at (c ∷ cs) n to h = (h.0, row_split m (after m at c) cs n to h.1)

last_child : (n : ℕ) (cs : List ℕ) → child_before (length cs) cs ≡ Some n → (ds : List ℕ)
    × (cs ≡ ds ++ n ∷ [])
last_child n [] e = absurd (cc)
last_child n (c ∷ []) e = ([], ap (λ (x : ℕ). x ∷ []) (some_same e))
last_child n (c ∷ d ∷ cs) e =
    let r = last_child n (d ∷ cs) e in (c ∷ r.0, ap (λ (x : List ℕ). c ∷ x) r.1)

module _ (choice : Choice) where
  -- no counted node stands under a text
  bare : (rank : ℕ → ℕ) (nodes : List NodeValue) (n c : ℕ) (s : List ℕ) → Ranked rank nodes
      → kind_at nodes n ≡ text s
      → 1 ≤ times c (children_at nodes n) → bears choice (kind_at nodes c) ≡ true → ⊥
  bare rank nodes n c s ranked e l b =
      ⊎_elim
      (λ z. true≢false (sym (ap is_solid e) ∙ (ap (λ (x : ℕ). is_solid (kind_at nodes x)) z ∙ ranked.root)))
      (λ f. true≢false (sym f ∙ ap is_element e)) (child_held choice rank nodes n c ranked l b).1

row_uncounted : (m : Marks) (at : ℕ) (cs : List ℕ) (to : ℕ) → at ≤ to
    → ((c : ℕ) → 1 ≤ times c cs → m.counts c ≡ true → ⊥) → Row m at cs to
row_uncounted m at [] to l f = l
row_uncounted m at (c ∷ cs) to l f = (
  λ b. absurd (f c (times_own c cs) b),
  row_uncounted m (after m at c) cs to
      (cond_both (m.counts c) _ _ (λ x. x ≤ to) (λ e. absurd (f c (times_own c cs) e)) (λ e. l))
      (λ d k b. f d (omega arith) b),
)

module _ (choice : Choice) where
  module _ (rank : ℕ → ℕ) (letters : List ℕ) (nodes : List NodeValue) (l : Labels)
      (h : FitsBy choice none_out letters nodes l)
      (ranked : Ranked rank nodes) (p n : ℕ) (s t : List ℕ) (is : kind_at nodes n ≡ text s) (ds : List ℕ)
      (stand : children_at nodes p ≡ ds ++ n ∷ []) (live : l.live p ≡ true) (u : IsUtf8 t)
      (ends : (c : ℕ) → 1 ≤ times c (children_at nodes p) → bears choice (kind_at nodes c) ≡ true → l.live c
      ≡ false)
    where
      abbrev start : ℕ
      start = cond (bears choice (kind_at nodes n)) (l.lo n) (length letters)

      abbrev stop : ℕ
      stop = length letters + length (counted_of choice t)

      abbrev joined : List NodeValue
      joined = with_kind n (text (s ++ t)) nodes

      abbrev pub with_more : Labels
      with_more = mark choice n start stop false l

      start_low : start ≤ length letters
      start_low =
          cond_low (bears choice (kind_at nodes n)) (l.lo n) (length letters) (length letters)
          (let a = h.span n in let b = h.high n in omega arith) (omega arith)

      old_text : TextIn choice letters l n s
      old_text = h.texts n s is

      more_others : (limit m : ℕ) → (m ≡ n → ⊥)
          → (with_more.lo m ≡ l.lo m) × (until limit with_more m ≡ until limit l m)
      more_others limit m f = (rw (ne_eqb m n f) refl, rw (ne_eqb m n f) refl)

      more_own : (limit : ℕ) → (with_more.lo n ≡ start) × (until limit with_more n ≡ stop)
      more_own limit = (rw (eq-eqb n n refl) refl, rw (eq-eqb n n refl) refl)

      more_row_kept : (limit at : ℕ) (cs : List ℕ) (to : ℕ) → stop < limit → times n cs ≡ 0
          → Row (marks choice none_out nodes limit l) at cs to
          → Row (marks choice none_out joined limit with_more) at cs to
      more_row_kept limit at cs to big none r =
          row_unmarked choice n start stop false joined h
          (λ m f. kind_other n m (text (s ++ t)) nodes (λ e. f (sym e))) limit
          at cs to (omega arith) none r

      n_in : 1 ≤ times n (children_at nodes p)
      n_in =
          let a = times_append n ds (n ∷ []) in
          let o : ◌≡◌ {A = ℕ} (cond (n == n) 1 0) 1 = rw (eq-eqb n n refl) refl in
          let b : times n (children_at nodes p) ≡ times n (ds ++ n ∷ []) = ap (times n) stand in
          omega arith

      n_once : times n ds ≡ 0
      n_once =
          let a = times_append n ds (n ∷ []) in
          let o : ◌≡◌ {A = ℕ} (cond (n == n) 1 0) 1 = rw (eq-eqb n n refl) refl in
          let b : times n (children_at nodes p) ≡ times n (ds ++ n ∷ []) = ap (times n) stand in
          let d = ranked.forest.once n p in
          let e = once_at_most (parent_at nodes n) p in
          omega arith

      n_parent : parent_at nodes n ≡ Some p
      n_parent = child_parent nodes p n ranked.forest n_in

      longer_by : length (letters ++ counted_of choice t) ≡ stop
      longer_by = length-append letters (counted_of choice t)

      front : (limit : ℕ) → stop < limit → Row (marks choice none_out nodes limit l) (l.lo p) ds start
      front limit big =
          let split = row_split choice (marks choice none_out nodes limit l) (l.lo p) ds n (until limit l p)
          (subst (λ (cs : List ℕ). Row (marks choice none_out nodes limit l) (l.lo p) cs (until limit l p)) stand
          (h.rows limit (omega arith) p)) in
          cond_both (bears choice (kind_at nodes n)) _ _ (Row (marks choice none_out nodes limit l) (l.lo p) ds)
          (λ e. rw e at split)
          (λ e. row_ends (marks choice none_out nodes limit l) (l.lo p) ds (until limit l p) (length letters)
          (let a = h.span p in let b = h.high p in omega arith)
          (λ c k b. ended_until h limit c (ends c (member c k) b)) (rw e at split))
        where
          member : (c : ℕ) → 1 ≤ times c ds → 1 ≤ times c (children_at nodes p)
          member c k =
              let a = times_append c ds (n ∷ []) in
              let b : times c (children_at nodes p) ≡ times c (ds ++ n ∷ []) = ap (times c) stand in
              omega arith

      p_other : p ≡ n → ⊥
      p_other e = true≢false (sym (ap l.live (sym e) ∙ live) ∙ old_text.closed)

      parent_row : (limit : ℕ) → stop < limit → RowAt choice none_out joined limit with_more p
      parent_row limit big =
          let x = (more_own limit).0 in let y = (more_own limit).1 in let z = start_low in
          row_as (marks choice none_out joined limit with_more) (more_others limit p p_other).0
          (children_of_kind n p (text (s ++ t)) nodes ∙ stand)
          ((more_others limit p p_other).1 ∙ ap (λ (b : Bool). cond b limit (l.hi p)) live)
          (row_end (marks choice none_out joined limit with_more) (l.lo p) ds start n limit (omega arith) (omega arith)
          (omega arith) (omega arith) (more_row_kept limit (l.lo p) ds start big n_once (front limit big)))

      own_row : (limit : ℕ) → stop < limit → RowAt choice none_out joined limit with_more n
      own_row limit big =
          row_as (marks choice none_out joined limit with_more) refl (children_of_kind n n (text (s ++ t)) nodes) refl
          (row_uncounted (marks choice none_out joined limit with_more) (with_more.lo n) (children_at nodes n)
          (until limit with_more n)
          (let x = (more_own limit).0 in let y = (more_own limit).1 in let z = start_low in omega arith)
          (λ c k b. none c k b))
        where
          none : (c : ℕ) → 1 ≤ times c (children_at nodes n) → bears choice (kind_at joined c) ≡ true → ⊥
          none c k b =
              test (n == c) (λ v. p_other (some_same (sym n_parent ∙ child_parent nodes n n ranked.forest
              (let f : times c (children_at nodes n) ≡ times n (children_at nodes n) =
              ap (λ (x : ℕ). times x (children_at nodes n)) (sym (eqb-true n c v)) in omega arith))))
              (λ v. bare choice rank nodes n c s ranked is k
              (sym (ap (bears choice) (kind_other n c (text (s ++ t)) nodes (eqb-false n c v))) ∙ b))

      other_row : (limit : ℕ) → stop < limit → (q : ℕ) → (p ≡ q → ⊥) → (n ≡ q → ⊥)
          → RowAt choice none_out joined limit with_more q
      other_row limit big q f g =
          row_as (marks choice none_out joined limit with_more) (more_others limit q (λ e. g (sym e))).0
          (children_of_kind n q (text (s ++ t)) nodes) (more_others limit q (λ e. g (sym e))).1
          (more_row_kept limit (l.lo q) (children_at nodes q) (until limit l q) big
          (nowhere_else n p q nodes ranked.forest n_parent f) (h.rows limit (omega arith) q))

      whole_text : Sub (counted_of choice (s ++ t)) (window start stop (letters ++ counted_of choice t))
      whole_text =
          subst (λ (x : List ℕ). Sub x (window start stop (letters ++ counted_of choice t)))
          (sym (letters_append choice s t old_text.utf8))
          (cond_both (bears choice (kind_at nodes n)) _ _
          (λ (x : ℕ). Sub (counted_of choice s ++ counted_of choice t)
          (window x stop (letters ++ counted_of choice t))) (λ e.
          sub_joined (counted_of choice s) (counted_of choice t) (letters ++ counted_of choice t) (l.lo n) (l.hi n)
          (length letters) stop (h.span n) (h.high n) (omega arith)
          (subst (λ (x : List ℕ). Sub (counted_of choice s) x)
          (sym (window_grown (l.lo n) (l.hi n) letters (counted_of choice t) (h.high n))) old_text.within) last) (λ e.
          subst (λ (x : List ℕ). Sub (x ++ counted_of choice t)
          (window (length letters) stop (letters ++ counted_of choice t)))
          (sym (no_letters choice s (kind_at nodes n) is e)) last))
        where
          last : Sub (counted_of choice t) (window (length letters) stop (letters ++ counted_of choice t))
          last =
              subst (λ (x : List ℕ). Sub (counted_of choice t) x)
              (sym (window_new letters (counted_of choice t) (length letters) stop refl refl))
              (sub_all (counted_of choice t))

      pub fits_joined : FitsBy choice none_out (letters ++ counted_of choice t) joined with_more
      fits_joined =
          fits_marked choice n start stop false joined (fits_grown (counted_of choice t) h)
          (let z = start_low in omega arith) (let a = longer_by in omega arith)
          (λ m f. kind_other n m (text (s ++ t)) nodes (λ e. f (sym e))) own_text
          (λ limit big q. let a = longer_by in
          by_two (λ (x : ℕ). RowAt choice none_out joined limit with_more x) p n q (parent_row limit (omega arith))
          (own_row limit (omega arith)) (other_row limit (omega arith) q))
        where
          own_text : (x : List ℕ) → kind_at joined n ≡ text x
              → TextIn choice (letters ++ counted_of choice t) with_more n x
          own_text x e =
              let solid : is_solid (kind_at nodes n) ≡ true = ap is_solid is in
              subst (λ (y : List ℕ). TextIn choice (letters ++ counted_of choice t) with_more n y)
              (text_same (sym (kind_set_solid n (text (s ++ t)) nodes solid) ∙ e))
              (record {
                closed = rw (eq-eqb n n refl) refl;
                utf8 = IsUtf8-append s t old_text.utf8 u;
                within = rw (eq-eqb n n refl) whole_text;
              })

  -- ---- text at the end of what is live

  -- labels that fit after a step, in which what was live is still so, but for what stands above a node
  pub record Goes (rank : ℕ → ℕ) (p : ℕ) (letters : List ℕ) (size : ℕ) (old : Labels)
      (nodes : List NodeValue)
      : Type 0 where
    pub labels : Labels
    pub fits : FitsBy choice none_out letters nodes labels
    pub still : (m : ℕ) → m < size → old.live m ≡ true → rank m ≤ rank p → labels.live m ≡ true

  -- the new node is live then
  pub record Opens (rank : ℕ → ℕ) (p : ℕ) (letters : List ℕ) (size : ℕ) (old : Labels)
      (nodes : List NodeValue)
      : Type 0 where
    pub labels : Labels
    pub fits : FitsBy choice none_out letters nodes labels
    pub still : (m : ℕ) → m < size → old.live m ≡ true → rank m ≤ rank p → labels.live m ≡ true
    pub opened_new : labels.live size ≡ true

  -- and in which all is
  pub record GoesOn (letters : List ℕ) (size : ℕ) (old : Labels) (nodes : List NodeValue) : Type 0 where
    pub labels : Labels
    pub fits : FitsBy choice none_out letters nodes labels
    pub still : (m : ℕ) → m < size → old.live m ≡ true → labels.live m ≡ true

  module _ (rank : ℕ → ℕ) (letters : List ℕ) (nodes : List NodeValue) (l : Labels)
      (h : FitsBy choice none_out letters nodes l)
      (ranked : Ranked rank nodes) (p : ℕ) (within : p < length nodes) where
    -- what bears nothing
    pub loose_added : (k : KindValue) → bears choice k ≡ false
        → ((t : List ℕ) → k ≡ text t → IsUtf8 t × (counted_of choice t ≡ []))
        → GoesOn letters (length nodes) l (grown k p nodes)
    loose_added k e is = record {
      labels = marked choice letters nodes l h ranked.forest k p within [] false;
      fits = fits_same choice (fits_added choice letters nodes l h ranked.forest k p within [] false
          (loose_row choice letters nodes l h ranked.forest k p within [] false e)
          (λ t f. let x = is t f in (refl, x.0, x.1)));
      still = λ m k e. rw (ne_eqb m (length nodes) (λ f. omega arith)) e;
    }

    module _ (live : l.live p ≡ true) where
      -- an element, which is live then
      pub element_added : (k : KindValue) → is_element k ≡ true
          → Opens rank p letters (length nodes) l (grown k p nodes)
      element_added k e =
          let s = ended_above choice rank p letters nodes l ranked h in
          record {
            opened_new = rw (eq-eqb (length nodes) (length nodes) refl) refl;
            labels = marked choice letters nodes s.labels s.fits ranked.forest k p within [] true;
            fits = fits_same choice (fits_added choice letters nodes s.labels s.fits ranked.forest k p within [] true
                (live_row choice letters nodes s.labels s.fits ranked.forest k p within [] true
                (s.still p live (omega arith)) s.children) (λ t f. absurd (true≢false (sym e ∙ ap is_element f))));
            still = λ m k e r. rw (ne_eqb m (length nodes) (λ f. omega arith)) (s.still m e r);
          }

      pub text_added : (t : List ℕ) → IsUtf8 t
          → Goes rank p (letters ++ counted_of choice t) (length nodes) l (grown (text t) p nodes)
      text_added t u =
          let s = ended_above choice rank p letters nodes l ranked h in
          record {
            labels = marked choice letters nodes s.labels s.fits ranked.forest (text t) p within (counted_of choice t)
                false;
            fits = fits_added choice letters nodes s.labels s.fits ranked.forest (text t) p within
                (counted_of choice t) false
                (live_row choice letters nodes s.labels s.fits ranked.forest (text t) p within (counted_of choice t)
                false (s.still p live (omega arith)) s.children)
                (λ x f. let same : t ≡ x = text_same f in (
                  refl,
                  subst IsUtf8 same u,
                  ap (counted_of choice) (sym same),
                ));
            still = λ m k e r. rw (ne_eqb m (length nodes) (λ f. omega arith)) (s.still m e r);
          }

      pub text_joined : (n : ℕ) (s t : List ℕ) → kind_at nodes n ≡ text s → IsUtf8 t
          → preceding (last_in p) nodes ≡ Some n
          → Goes rank p (letters ++ counted_of choice t) (length nodes) l (with_kind n (text (s ++ t)) nodes)
      text_joined n s t is u e =
          let d = last_child n (children_at nodes p) e in
          let x = ended_above choice rank p letters nodes l ranked h in
          record {
            labels = with_more rank letters nodes x.labels x.fits ranked p n s t is d.0 d.1
                (x.still p live (omega arith)) u x.children;
            fits = fits_joined rank letters nodes x.labels x.fits ranked p n s t is d.0 d.1
                (x.still p live (omega arith)) u x.children;
            still = λ m k e r.
                let a = x.still m e r in
                rw (ne_eqb m n (λ f. true≢false (sym (sym (ap x.labels.live f) ∙ a)
                ∙ (x.fits.texts n s is).closed))) a;
          }

      pub text_put : (t : List ℕ) → IsUtf8 t
          → Goes rank p (letters ++ counted_of choice t) (length nodes) l (add_text t (last_in p) nodes)
      text_put t u =
          by_text (Goes rank p (letters ++ counted_of choice t) (length nodes) l) t (last_in p) nodes (text_added t u)
          (λ n s e is. text_joined n s t is u e)

    -- text without a letter
    pub white_put : (t : List ℕ) → IsUtf8 t → counted_of choice t ≡ []
        → GoesOn letters (length nodes) l (add_text t (last_in p) nodes)
    white_put t u none =
        by_text (GoesOn letters (length nodes) l) t (last_in p) nodes added (λ n s e is. joined_same n s is)
      where
        loose : bears choice (text t) ≡ false
        loose = ap (λ (x : List ℕ). not (is_empty x)) none

        added : GoesOn letters (length nodes) l (grown (text t) p nodes)
        added = loose_added (text t) loose
            (λ x f. let same : t ≡ x = text_same f in
            (subst IsUtf8 same u, ap (counted_of choice) (sym same) ∙ none))

        joined_same : (n : ℕ) (s : List ℕ) → kind_at nodes n ≡ text s
            → GoesOn letters (length nodes) l (with_kind n (text (s ++ t)) nodes)
        joined_same n s is =
            let old = h.texts n s is in
            let same : counted_of choice (s ++ t) ≡ counted_of choice s =
            letters_append choice s t old.utf8 ∙ (ap (λ (x : List ℕ). counted_of choice s ++ x) none ∙ append-nil
            (counted_of choice s)) in
            record {
              labels = l;
              fits = fits_like choice n (text (s ++ t)) letters nodes l
                  (λ b. ap (bears choice) is ∙ (sym (ap (λ (x : List ℕ). not (is_empty x)) same) ∙ b)) h
                  (λ x f. subst (λ (y : List ℕ). TextIn choice letters l n y) (text_same f) (record {
                    closed = old.closed;
                    utf8 = IsUtf8-append s t old.utf8 u;
                    within = subst (λ (y : List ℕ). Sub y (window (l.lo n) (l.hi n) letters)) (sym same) old.within;
                  }));
              still = λ m k e. e;
            }
