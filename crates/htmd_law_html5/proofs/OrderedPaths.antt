-- What is live is one path: between two live nodes stands a live child of the outer one.
use Rattle.std.proofs.Common.{◌≡◌, ◌∙◌, ℕ, zero, suc, ◌<◌, ◌≤◌, Bool, true, false, List, length, refl, sym, ap, subst}
use Rattle.std.proofs.Common.{arith, cond, inl, inr, ⊎_elim, ◌⊎◌}
use Rattle.std.specs.Prelude.{◌==◌, ◌&&◌, not, nat_lt}
use Rattle.std.proofs.lemmas.Bool.{true≢false, and_parts, eqb-true, eqb-false, cases_lt, and_from, not-true}
use Rattle.htmd_lexical.proofs.Cases.{test}
use Rattle.htmd_html5_state.specs.Nodes.{NodeValue, KindValue, element, kind_at, children_at}
use Rattle.htmd_law_html5.proofs.NodeTexts.{is_element}
use Rattle.htmd_law_html5.proofs.NodeParts.{times}
use Rattle.htmd_law_html5.proofs.HungNodes.{is_solid, element_solid}
use Rattle.htmd_law_html5.proofs.ChildRows.{Row, row_member, row_last, row_marks, row_ends}
use Rattle.htmd_law_html5.proofs.OrderedNodes.{inner_end, bears, Labels, until, counted, marks, FitsBy, none_out}
use Rattle.htmd_law_html5.proofs.OrderedNodes.{Ranked, above}
use Rattle.htmd_law_html5.proofs.OrderedNodes.{ended, fits_ended, lt_true, lt_less, child_above, lo_until}
use Rattle.htmd_law_html5.proofs.Counted.{Choice}

module _ (choice : Choice) where
  pub element_bears : (k : KindValue) → is_element k ≡ true → bears choice k ≡ true
  element_bears (element name attributes) e = refl
  element_bears _ e = cc

  module _ (rank : ℕ → ℕ) (letters : List ℕ) (nodes : List NodeValue) (l : Labels)
      (h : FitsBy choice none_out letters nodes l)
      (ranked : Ranked rank nodes) (at_root : rank 0 ≡ 0) where
    -- a live element, or the Document
    pub record Alive (x : ℕ) : Type 0 where
      pub live : l.live x ≡ true
      pub either : (x ≡ 0) ⊎ (is_element (kind_at nodes x) ≡ true)

    abbrev limit : ℕ
    limit = suc (length letters)

    live_until : (x : ℕ) → l.live x ≡ true → until limit l x ≡ limit
    live_until x e = rw e refl

    -- the parent of a live element
    record Up (u : ℕ) : Type 0 where
      by : ℕ
      holds : 1 ≤ times u (children_at nodes by)
      less : rank by < rank u
      alive : Alive by
      low : l.lo by ≤ l.lo u

    up : (u : ℕ) → l.live u ≡ true → is_element (kind_at nodes u) ≡ true → Up u
    up u live e =
        ⊎_elim (λ z. absurd (true≢false (sym (element_solid (kind_at nodes u) e)
        ∙ (ap (λ (x : ℕ). is_solid (kind_at nodes x)) z ∙ ranked.root))))
        (λ g. let r = row_member (marks choice none_out nodes limit l) u (l.lo g.by) (children_at nodes g.by)
        (until limit l g.by) g.holder.stands (element_bears (kind_at nodes u) e) (h.rows limit (omega arith) g.by) in
        let m = live_until u live in
        let y = r.2 in
        record {
          by = g.by;
          holds = g.holder.stands;
          less = g.less;
          alive = record { live = alive_by (l.live g.by) g.by refl (omega arith); either = g.holder.either };
          low = r.0;
        }) (ranked.hangs u (element_solid (kind_at nodes u) e))
      where
        alive_by : (b : Bool) (by : ℕ) → l.live by ≡ b → limit ≤ cond b limit (l.hi by) → l.live by ≡ true
        alive_by true by f g = f
        alive_by false by f g = absurd (let x = h.high by in omega arith)

    -- a live child, up to a node further in
    pub record Down (q u : ℕ) : Type 0 where
      pub child : ℕ
      pub holds : 1 ≤ times child (children_at nodes q)
      pub live : l.live child ≡ true
      pub is : is_element (kind_at nodes child) ≡ true
      pub low : l.lo child ≤ l.lo u
      pub rank_at : rank child ≤ rank u

    -- a counted child beside a live one has ended before it
    pub beside : (q c d : ℕ) → 1 ≤ times c (children_at nodes q) → l.live c ≡ true
        → is_element (kind_at nodes c) ≡ true → 1 ≤ times d (children_at nodes q)
        → bears choice (kind_at nodes d) ≡ true → (d ≡ c) ⊎ (until limit l d ≤ l.lo c)
    beside q c d k live e m b =
        row_last (marks choice none_out nodes limit l) c d (l.lo q) (children_at nodes q) (until limit l q)
        (length letters) k (element_bears (kind_at nodes c) e) m b (let x = live_until c live in omega arith)
        (λ x. let y = h.span x in let z = h.high x in omega arith) (h.rows limit (omega arith) q)

    pub one_live : (q c d : ℕ) → 1 ≤ times c (children_at nodes q) → l.live c ≡ true
        → is_element (kind_at nodes c) ≡ true → 1 ≤ times d (children_at nodes q) → l.live d ≡ true
        → bears choice (kind_at nodes d) ≡ true → d ≡ c
    one_live q c d k live e m live_d b =
        ⊎_elim (λ x. x) (λ x. absurd (let y = live_until d live_d in let z = h.span c in let w = h.high c in
        omega arith)) (beside q c d k live e m b)

    -- below a bound on ranks
    pub record Paths (k : ℕ) : Type 0 where
      pub same : (q u : ℕ) → Alive q → Alive u → rank q < k → rank q ≡ rank u → q ≡ u
      pub down : (q u : ℕ) → Alive q → Alive u → rank u < k → rank q < rank u → Down q u

    -- no live element has the rank of the Document
    not_root : (u : ℕ) → l.live u ≡ true → is_element (kind_at nodes u) ≡ true → rank u ≡ 0 → ⊥
    not_root u live e z = let x = (up u live e).less in absurd (omega arith)

    down_step : (k : ℕ) → Paths k → (q u : ℕ) → Alive q → Alive u → rank u < suc k → rank q < rank u
        → Down q u
    down_step k p q u a b big less =
        ⊎_elim (λ z. absurd (let e : rank u ≡ rank 0 = ap rank z in let r = at_root in omega arith))
        (λ e. let x = up u b.live e in by_ranks x e (cases_lt (rank q) (rank x.by)) (cases_lt (rank x.by) (rank q)))
        b.either
      where
        by_ranks : (x : Up u) → is_element (kind_at nodes u) ≡ true
            → (rank q < rank x.by) ⊎ (rank x.by ≤ rank q) → (rank x.by < rank q) ⊎ (rank q ≤ rank x.by)
            → Down q u
        by_ranks x e (inl g) m =
            let r = x.less in
            let d = p.down q x.by a x.alive (omega arith) g in
            let low = d.low in
            let low_x = x.low in
            let at = d.rank_at in
            record {
              child = d.child;
              holds = d.holds;
              live = d.live;
              is = d.is;
              low = omega arith;
              rank_at = omega arith;
            }
        by_ranks x e (inr g) (inl m) =
            let r = x.less in
            let d = p.down x.by q x.alive a (omega arith) m in
            let at = d.rank_at in
            let same = one_live x.by u d.child x.holds b.live e d.holds d.live (element_bears _ d.is) in
            let f : rank d.child ≡ rank u = ap rank same in
            absurd (omega arith)
        by_ranks x e (inr g) (inr m) =
            let r = x.less in
            let same = p.same q x.by a x.alive (omega arith) (omega arith) in
            record {
              child = u;
              holds = subst (λ (y : ℕ). 1 ≤ times u (children_at nodes y)) (sym same) x.holds;
              live = b.live;
              is = e;
              low = omega arith;
              rank_at = omega arith;
            }

    -- nor are parents of live elements of one rank apart
    lower : (k : ℕ) → Paths k → (q u : ℕ) (x : Up q) (y : Up u) → l.live q ≡ true
        → is_element (kind_at nodes q) ≡ true
        → rank q < suc k → rank q ≡ rank u → rank x.by < rank y.by → ⊥
    lower k p q u x y live e big same g =
        let r = x.less in
        let s = y.less in
        let d = p.down x.by y.by x.alive y.alive (omega arith) g in
        let at = d.rank_at in
        let one = one_live x.by q d.child x.holds live e d.holds d.live (element_bears _ d.is) in
        let z : rank d.child ≡ rank q = ap rank one in
        omega arith

    same_step : (k : ℕ) → Paths k → (q u : ℕ) → Alive q → Alive u → rank q < suc k → rank q ≡ rank u
        → q ≡ u
    same_step k p q u a b big same = by_either a.either b.either
      where
        by_ranks : (x : Up q) (y : Up u) → is_element (kind_at nodes q) ≡ true → is_element (kind_at nodes u)
            ≡ true → (rank x.by < rank y.by) ⊎ (rank y.by ≤ rank x.by)
            → (rank y.by < rank x.by) ⊎ (rank x.by ≤ rank y.by) → q ≡ u
        by_ranks x y e f (inl g) m = absurd (lower k p q u x y a.live e big same g)
        by_ranks x y e f (inr g) (inl m) = absurd (lower k p u q y x b.live f (omega arith) (sym same) m)
        by_ranks x y e f (inr g) (inr m) =
            let r = x.less in
            let s = y.less in
            let one = p.same x.by y.by x.alive y.alive (omega arith) (omega arith) in
            one_live y.by u q y.holds b.live f
            (subst (λ (z : ℕ). 1 ≤ times q (children_at nodes z)) one x.holds) a.live (element_bears _ e)

        by_either : (q ≡ 0) ⊎ (is_element (kind_at nodes q) ≡ true)
            → (u ≡ 0) ⊎ (is_element (kind_at nodes u) ≡ true) → q ≡ u
        by_either (inl z) (inl w) = z ∙ sym w
        by_either (inl z) (inr f) =
            absurd (not_root u b.live f (let e : rank q ≡ rank 0 = ap rank z in let r = at_root in omega arith))
        by_either (inr e) (inl w) =
            absurd (not_root q a.live e (let f : rank u ≡ rank 0 = ap rank w in let r = at_root in omega arith))
        by_either (inr e) (inr f) =
            let x = up q a.live e in
            let y = up u b.live f in
            by_ranks x y e f (cases_lt (rank x.by) (rank y.by)) (cases_lt (rank y.by) (rank x.by))

    paths : (k : ℕ) → Paths k
    paths zero =
        record { same = λ q u a b big e. absurd (omega arith); down = λ q u a b big less. absurd (omega arith) }
    paths (suc k) =
        let p = paths k in
        record { same = same_step k p; down = down_step k p }

    pub down_to : (q u : ℕ) → Alive q → Alive u → rank q < rank u → Down q u
    down_to q u a b less = (paths (suc (rank u))).down q u a b (omega arith) less

    pub same_node : (q u : ℕ) → Alive q → Alive u → rank q ≡ rank u → q ≡ u
    same_node q u a b e = (paths (suc (rank q))).same q u a b (omega arith) e

    -- ---- what stands between two of them ends where the inner begins

    module _ (p b : ℕ) (alive_p : Alive p) (live_b : l.live b ≡ true) (is_b : is_element (kind_at nodes b) ≡ true)
        (less : rank p < rank b) where
      abbrev pub apart : ℕ → Bool
      apart n = n == b

      abbrev pub between : ℕ → Bool
      between n = is_element (kind_at nodes n) && (above rank p n && nat_lt (rank n) (rank b))

      abbrev pub parted : Labels
      parted = ended between (l.lo b) l

      alive_b : Alive b
      alive_b = record { live = live_b; either = inr is_b }

      begins_before : (n : ℕ) → Alive n → rank n < rank b → l.lo n ≤ l.lo b
      begins_before n alive under =
          let d = down_to n b alive alive_b under in
          let r = row_member (marks choice none_out nodes limit l) d.child (l.lo n) (children_at nodes n)
          (until limit l n) d.holds (element_bears (kind_at nodes d.child) d.is) (h.rows limit (omega arith) n) in
          let y = r.0 in
          let z = d.low in
          omega arith

      -- what isn't the inner one, and not on the way to it, has ended before it
      ended_before : (q c : ℕ) → Alive q → rank p ≤ rank q → rank q < rank b → 1
          ≤ times c (children_at nodes q) → counted choice apart nodes c ≡ true
          → (l.live c ≡ true → between c ≡ true) × (l.live c ≡ false → l.hi c ≤ l.lo b)
      ended_before q c a from to k counts =
          let d = down_to q b a alive_b to in
          let two = and_parts (not (c == b)) (bears choice (kind_at nodes c)) counts in
          let by = beside q d.child c d.holds d.live d.is k two.1 in
          (λ e. on_way d e two.0 by, λ e. ended_at d e by)
        where
          above_q : (d : Down q b) → rank q < rank d.child
          above_q d = child_above choice rank nodes q d.child ranked d.holds (element_bears _ d.is)

          on_way : (d : Down q b) → l.live c ≡ true → not (c == b) ≡ true
              → (c ≡ d.child) ⊎ (until limit l c ≤ l.lo d.child) → between c ≡ true
          on_way d e other (inr x) =
              absurd (let y = live_until c e in let z = h.span d.child in let w = h.high d.child in omega arith)
          on_way d e other (inl x) =
              let is : is_element (kind_at nodes c) ≡ true =
              subst (λ (y : ℕ). is_element (kind_at nodes y) ≡ true) (sym x) d.is in
              let r : rank c ≡ rank d.child = ap rank x in
              let at = d.rank_at in
              let up_q = above_q d in
              let apart_b = eqb-false c b (not-true (c == b) other) in
              test (rank c == rank b)
              (λ t. absurd (apart_b (same_node c b (record { live = e; either = inr is }) alive_b
              (eqb-true (rank c) (rank b) t))))
              (λ t. let ne = eqb-false (rank c) (rank b) t in
              and_from _ _ is (and_from _ _ (lt_true (rank p) (rank c) (omega arith))
              (lt_true (rank c) (rank b) (omega arith))))

          ended_at : (d : Down q b) → l.live c ≡ false
              → (c ≡ d.child) ⊎ (until limit l c ≤ l.lo d.child) → l.hi c ≤ l.lo b
          ended_at d e (inl x) = absurd (true≢false (sym d.live ∙ (ap l.live (sym x) ∙ e)))
          ended_at d e (inr x) =
              let y : until limit l c ≡ l.hi c = ap (λ (z : Bool). cond z limit (l.hi c)) e in
              let low = d.low in
              omega arith

      parts : (n : ℕ) → between n ≡ true
          → (is_element (kind_at nodes n) ≡ true) × ((rank p < rank n) × (rank n < rank b))
      parts n e =
          let a = and_parts (is_element (kind_at nodes n)) (above rank p n && nat_lt (rank n) (rank b)) e in
          let c = and_parts (above rank p n) (nat_lt (rank n) (rank b)) a.1 in
          (a.0, (lt_less (rank p) (rank n) c.0, lt_less (rank n) (rank b) c.1))

      ignoring : FitsBy choice apart letters nodes l
      ignoring = record {
        span = h.span;
        high = h.high;
        rows = λ bound big q.
            row_marks (marks choice none_out nodes bound l) (marks choice apart nodes bound l) (l.lo q)
            (children_at nodes q) (until bound l q)
            (λ c k e. (
              (and_parts (not (c == b)) (bears choice (kind_at nodes c)) e).1,
              omega arith,
              lo_until h bound big c,
              omega arith,
            )) (h.rows bound big q);
        texts = h.texts;
      }

      pub parted_fits : FitsBy choice apart letters nodes parted
      parted_fits =
          fits_ended choice apart between (l.lo b) letters nodes l (let x = h.span b in let y = h.high b in omega arith)
          (record {
            begins = λ n live e.
                let x = parts n e in begins_before n (record { live = live; either = inr x.0 }) x.1.1;
            inner = λ q c live e k counts.
                let x = parts q e in
                let y = x.1.0 in
                ended_before q c (record { live = live; either = inr x.0 }) (omega arith) x.1.1 k counts;
          }) ignoring

      -- so do all children of the outer one
      pub front_ends : (bound : ℕ) → length letters < bound
          → Row (marks choice apart nodes bound parted) (l.lo p) (children_at nodes p) (l.lo b)
      front_ends bound big =
          row_ends (marks choice apart nodes bound parted) (l.lo p) (children_at nodes p) (until bound parted p)
          (l.lo b) (begins_before p alive_p less)
          (λ c k counts. inner_end between (l.lo b) l bound c (l.live c) refl (between c) refl
          (ended_before p c alive_p (omega arith) less k counts)) (parted_fits.rows bound big p)
