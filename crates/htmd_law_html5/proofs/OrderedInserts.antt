-- A new node at the end of an open one, or more at the end of its last text: the letters stand in order still.
use Rattle.std.proofs.Common.{◌≡◌, ◌∙◌, ℕ, zero, suc, ◌+◌, ◌<◌, ◌≤◌, Bool, true, false, List, [], ◌∷◌, ◌++◌, length}
use Rattle.std.proofs.Common.{drop, refl, sym, ap, subst, arith, cond, Option, Some, length-append}
use Rattle.std.specs.Prelude.{◌==◌, insert, IsUtf8}
use Rattle.std.proofs.lemmas.Bool.{eqb-true, eqb-false, eq-eqb, ne_eqb, true≢false, cond_both}
use Rattle.std.proofs.Math.Seq.{take-length, drop-length}
use Rattle.htmd_lexical.proofs.Cases.{test}
use Rattle.htmd_html5_state.specs.Nodes.{NodeValue, KindValue, text, new_node, kind_at, children_at}
use Rattle.htmd_html5_state.specs.Nodes.{with_children, last_in, add}
use Rattle.htmd_law_html5.proofs.NodeParts.{times, children_other, children_of_parent, children_with_new}
use Rattle.htmd_law_html5.proofs.NodeParts.{parent_beyond}
use Rattle.htmd_law_html5.proofs.Forests.{IsForest, length_new, once_under}
use Rattle.htmd_law_html5.proofs.HungNodes.{put_at, put_kind, children_in, kind_with_new, kind_new_at}
use Rattle.htmd_law_html5.proofs.Sublists.{Sub, window_new, sub_all}
use Rattle.htmd_law_html5.proofs.ChildRows.{Row, row_marks, row_as, row_append, row_ends, by_two, row_end}
use Rattle.htmd_law_html5.proofs.OrderedNodes.{bears, Labels, until, marks, TextIn, FitsBy, none_out, lo_until, RowAt}
use Rattle.htmd_law_html5.proofs.OrderedNodes.{ended_until, fits_grown}
use Rattle.htmd_law_html5.proofs.Counted.{Choice, counted_of}

module _ (choice : Choice) where
  -- ---- one node's label

  abbrev pub mark : ℕ → ℕ → ℕ → Bool → Labels → Labels
  mark n lo hi live l = record {
    lo = λ m. cond (m == n) lo (l.lo m);
    hi = λ m. cond (m == n) hi (l.hi m);
    live = λ m. cond (m == n) live (l.live m);
  }

  -- the nodes but one are labelled as before
  pub fits_marked : {out kept : ℕ → Bool} {letters : List ℕ} {nodes : List NodeValue} {l : Labels} (n lo hi : ℕ)
      (live : Bool) (new : List NodeValue) → FitsBy choice out letters nodes l → lo ≤ hi → hi ≤ length letters
      → ((m : ℕ) → (m ≡ n → ⊥) → kind_at new m ≡ kind_at nodes m)
      → ((t : List ℕ) → kind_at new n ≡ text t → TextIn choice letters (mark n lo hi live l) n t)
      → ((limit : ℕ) → length letters < limit → (q : ℕ)
      → RowAt choice kept new limit (mark n lo hi live l) q) → FitsBy choice kept letters new (mark n lo hi live l)
  fits_marked {out} {kept} {letters} {nodes} {l} n lo hi live new h low high kinds own rows = record {
    span = λ m. test (m == n) (λ t. rw t low) (λ t. rw t (h.span m));
    high = λ m. test (m == n) (λ t. rw t high) (λ t. rw t (h.high m));
    rows = rows;
    texts = λ m t e.
        test (m == n) (λ u. let same = sym (eqb-true m n u) in
        subst (λ (x : ℕ). TextIn choice letters (mark n lo hi live l) x t) same
        (own t (ap (λ (x : ℕ). kind_at new x) same ∙ e)))
        (λ u. let f = eqb-false m n u in
        let x = h.texts m t (sym (kinds m f) ∙ e) in
        record { closed = rw (ne_eqb m n f) x.closed; utf8 = x.utf8; within = rw (ne_eqb m n f) x.within });
  }

  -- a row in which the node doesn't stand
  pub row_unmarked : {letters : List ℕ} {nodes : List NodeValue} {l : Labels} (n lo hi : ℕ) (live : Bool)
      (new : List NodeValue) → FitsBy choice none_out letters nodes l
      → ((m : ℕ) → (m ≡ n → ⊥) → kind_at new m ≡ kind_at nodes m) → (limit at : ℕ) (cs : List ℕ)
      (to : ℕ)
      → length letters < limit → times n cs ≡ 0 → Row (marks choice none_out nodes limit l) at cs to
      → Row (marks choice none_out new limit (mark n lo hi live l)) at cs to
  row_unmarked {letters} {nodes} {l} n lo hi live new h kinds limit at cs to big none r =
      row_marks (marks choice none_out nodes limit l) (marks choice none_out new limit (mark n lo hi live l)) at cs to
      (λ c k b.
      let other : c ≡ n → ⊥ = λ e. let z : times c cs ≡ times n cs = ap
      (λ (x : ℕ). times x cs) e in omega arith in
      let low : (mark n lo hi live l).lo c ≡ l.lo c = rw (ne_eqb c n other) refl in
      let end : until limit (mark n lo hi live l) c ≡ until limit l c = rw (ne_eqb c n other) refl in
      let w = lo_until h limit big c in
      (sym (ap (bears choice) (kinds c other)) ∙ b, omega arith, omega arith, omega arith)) r

-- ---- children

inserted_last : (n : ℕ) (cs : List ℕ) → insert cs (length cs) n ≡ cs ++ n ∷ []
inserted_last n cs = ap (λ (x : List ℕ). x ++ n ∷ drop (length cs) cs) (take-length cs)
    ∙ ap (λ (x : List ℕ). cs ++ n ∷ x) (drop-length cs)

abbrev pub put_last : ℕ → ℕ → List NodeValue → List NodeValue
put_last n p nodes = put_at n p (length (children_at nodes p)) nodes

pub children_put : (n p : ℕ) (nodes : List NodeValue) → p < length nodes
    → children_at (put_last n p nodes) p ≡ children_at nodes p ++ n ∷ []
children_put n p nodes l =
    children_of_parent n p (Some p) (with_children p
    (insert (children_at nodes p) (length (children_at nodes p)) n) nodes)
    ∙ children_in p (insert (children_at nodes p) (length (children_at nodes p)) n) nodes l
    ∙ inserted_last n (children_at nodes p)

pub children_put_other : (n p q : ℕ) (nodes : List NodeValue) → (p ≡ q → ⊥)
    → children_at (put_last n p nodes) q ≡ children_at nodes q
children_put_other n p q nodes f =
    children_of_parent n q (Some p) (with_children p
    (insert (children_at nodes p) (length (children_at nodes p)) n) nodes)
    ∙ children_other p q (insert (children_at nodes p) (length (children_at nodes p)) n) nodes f

abbrev pub grown : KindValue → ℕ → List NodeValue → List NodeValue
grown k p nodes = add k (last_in p) nodes

pub children_grown : (k : KindValue) (p : ℕ) (nodes : List NodeValue) → p < length nodes
    → children_at (grown k p nodes) p ≡ children_at nodes p ++ length nodes ∷ []
children_grown k p nodes l =
    children_put (length nodes) p (nodes ++ new_node k ∷ []) (let e = length_new k nodes in omega arith)
    ∙ ap (λ (x : List ℕ). x ++ length nodes ∷ []) (children_with_new p k nodes)

pub children_elsewhere : (k : KindValue) (p q : ℕ) (nodes : List NodeValue) → (p ≡ q → ⊥)
    → children_at (grown k p nodes) q ≡ children_at nodes q
children_elsewhere k p q nodes f =
    children_put_other (length nodes) p q (nodes ++ new_node k ∷ []) f ∙ children_with_new q k nodes

pub kind_grown : (k : KindValue) (p : ℕ) (nodes : List NodeValue) (m : ℕ) → (m ≡ length nodes → ⊥)
    → kind_at (grown k p nodes) m ≡ kind_at nodes m
kind_grown k p nodes m f =
    put_kind (length nodes) p (length (children_at (nodes ++ new_node k ∷ []) p)) (nodes ++ new_node k ∷ []) m
    ∙ kind_with_new m k nodes f

pub kind_grown_new : (k : KindValue) (p : ℕ) (nodes : List NodeValue)
    → kind_at (grown k p nodes) (length nodes) ≡ k
kind_grown_new k p nodes =
    put_kind (length nodes) p (length (children_at (nodes ++ new_node k ∷ []) p)) (nodes ++ new_node k ∷ [])
    (length nodes) ∙ kind_new_at k nodes

-- no node has it as a child yet
pub no_child : (nodes : List NodeValue) (q m : ℕ) → IsForest nodes → length nodes ≤ m
    → times m (children_at nodes q) ≡ 0
no_child nodes q m forest l =
    let a = forest.once m q in
    let b = ap (λ (o : Option ℕ). once_under o q) (parent_beyond m nodes l) in
    omega arith

pub children_beyond : (m : ℕ) (nodes : List NodeValue) → length nodes ≤ m → children_at nodes m ≡ []
children_beyond m [] l = refl
children_beyond zero (x ∷ nodes) l = absurd (omega arith)
children_beyond (suc m) (x ∷ nodes) l = children_beyond m nodes (omega arith)

module _ (choice : Choice) where
  module _ (letters : List ℕ) (nodes : List NodeValue) (l : Labels) (h : FitsBy choice none_out letters nodes l)
      (forest : IsForest nodes) where
    -- ---- a new node

    module _ (k : KindValue) (p : ℕ) (within : p < length nodes) (more : List ℕ) (live : Bool) where
      abbrev n : ℕ
      n = length nodes

      abbrev new : List NodeValue
      new = grown k p nodes

      abbrev pub marked : Labels
      marked = mark choice n (length letters) (length letters + length more) live l

      pub other_until : (limit m : ℕ) → (m ≡ n → ⊥) → until limit marked m ≡ until limit l m
      other_until limit m f = rw (ne_eqb m n f) refl

      other_lo : (m : ℕ) → (m ≡ n → ⊥) → marked.lo m ≡ l.lo m
      other_lo m f = rw (ne_eqb m n f) refl

      pub own_lo : marked.lo n ≡ length letters
      own_lo = rw (eq-eqb n n refl) refl

      pub own_until : (limit : ℕ) → length letters + length more < limit
          → (length letters ≤ until limit marked n) × (until limit marked n ≤ limit)
      own_until limit big =
          rw (eq-eqb n n refl) (cond_both live _ _ (λ x. (length letters ≤ x) × (x ≤ limit))
          (λ e. (omega arith, omega arith)) (λ e. (omega arith, omega arith)))

      -- a row in which the new node doesn't stand
      pub row_kept : (limit at : ℕ) (cs : List ℕ) (to : ℕ) → length letters + length more < limit → times n cs
          ≡ 0 → Row (marks choice none_out nodes limit l) at cs to
          → Row (marks choice none_out new limit marked) at cs to
      row_kept limit at cs to big none r =
          row_unmarked choice n (length letters) (length letters + length more) live new h
          (kind_grown k p nodes) limit at cs to
          (omega arith) none r

      -- where it may stand in its parent
      abbrev pub RowOk : Type 0
      RowOk =
          (limit : ℕ) → length letters + length more < limit
          → Row (marks choice none_out new limit marked) (l.lo p) (children_at nodes p ++ n ∷ []) (until limit l p)

      -- what bears nothing may stand anywhere
      pub loose_row : bears choice k ≡ false → RowOk
      loose_row e limit big =
          row_append (marks choice none_out new limit marked) (l.lo p) (children_at nodes p) (until limit l p)
          (n ∷ []) (until limit l p) (row_kept limit (l.lo p) (children_at nodes p) (until limit l p) big
          (no_child nodes p n forest (omega arith)) (h.rows limit (omega arith) p)) (
            λ b. absurd (true≢false (sym b ∙ none)),
            subst (λ (b : Bool). cond b (until limit marked n) (until limit l p) ≤ until limit l p) (sym none)
                (omega arith),
          )
        where
          none : bears choice (kind_at new n) ≡ false
          none = ap (bears choice) (kind_grown_new k p nodes) ∙ e

      -- and anything at the end of what is live, where the children before have ended
      pub live_row : l.live p ≡ true
          → ((c : ℕ) → 1 ≤ times c (children_at nodes p) → bears choice (kind_at nodes c) ≡ true
          → l.live c ≡ false) → RowOk
      live_row e ends limit big =
          let x = own_lo in let y = own_until limit big in let z = y.0 in let w = y.1 in
          let all : until limit l p ≡ limit = ap (λ (b : Bool). cond b limit (l.hi p)) e in
          row_end (marks choice none_out new limit marked) (l.lo p) (children_at nodes p) (length letters) n
          (until limit l p) (omega arith) (omega arith) (omega arith) (omega arith)
          (row_kept limit (l.lo p) (children_at nodes p) (length letters) big (no_child nodes p n forest (omega arith))
          (row_ends (marks choice none_out nodes limit l) (l.lo p) (children_at nodes p) (until limit l p)
          (length letters) (let a = h.span p in let b = h.high p in omega arith)
          (λ c m b. ended_until h limit c (ends c m b)) (h.rows limit (omega arith) p)))

      -- a text's letters are the new ones
      abbrev pub TextOk : Type 0
      TextOk = (t : List ℕ) → k ≡ text t → (live ≡ false) × IsUtf8 t × (counted_of choice t ≡ more)

      longer : length (letters ++ more) ≡ length letters + length more
      longer = length-append letters more

      pub fits_added : RowOk → TextOk → FitsBy choice none_out (letters ++ more) new marked
      fits_added ok is =
          fits_marked choice n (length letters) (length letters + length more) live new (fits_grown more h)
          (omega arith) (let a = longer in omega arith) (kind_grown k p nodes) new_text
          (λ limit big q. let a = longer in
          by_two (λ (x : ℕ). RowAt choice none_out new limit marked x) n p q (new_row limit (omega arith))
          (parent_row limit (omega arith)) (other_row limit (omega arith) q))
        where
          new_row : (limit : ℕ) → length letters + length more < limit → RowAt choice none_out new limit marked n
          new_row limit big =
              row_as (marks choice none_out new limit marked) own_lo
              (children_elsewhere k p n nodes (λ f. omega arith) ∙ children_beyond n nodes (omega arith)) refl
              (own_until limit big).0

          parent_row : (limit : ℕ) → length letters + length more < limit
              → RowAt choice none_out new limit marked p
          parent_row limit big =
              row_as (marks choice none_out new limit marked) (other_lo p (λ f. omega arith))
              (children_grown k p nodes within) (other_until limit p (λ f. omega arith)) (ok limit big)

          other_row : (limit : ℕ) → length letters + length more < limit → (q : ℕ) → (n ≡ q → ⊥)
              → (p ≡ q → ⊥) → RowAt choice none_out new limit marked q
          other_row limit big q f g =
              row_as (marks choice none_out new limit marked) (other_lo q (λ e. f (sym e)))
              (children_elsewhere k p q nodes g) (other_until limit q (λ e. f (sym e)))
              (row_kept limit (l.lo q) (children_at nodes q) (until limit l q) big
              (no_child nodes q n forest (omega arith)) (h.rows limit (omega arith) q))

          new_text : (t : List ℕ) → kind_at new n ≡ text t → TextIn choice (letters ++ more) marked n t
          new_text t e =
              let x = is t (sym (kind_grown_new k p nodes) ∙ e) in
              record {
                closed = rw (eq-eqb n n refl) x.0;
                utf8 = x.1;
                within =
                    rw (eq-eqb n n refl) (subst (λ (y : List ℕ). Sub (counted_of choice t) y)
                    (sym (window_new letters more (length letters) (length letters + length more) refl refl))
                    (subst (λ (y : List ℕ). Sub (counted_of choice t) y) x.2 (sub_all (counted_of choice t))));
              }
