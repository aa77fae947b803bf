-- Nodes whose texts stand in the order of the page's letters: what a node holds lies between two places among them.
use Rattle.std.proofs.Common.{◌≡◌, ◌∙◌, ℕ, ◌<◌, ◌≤◌, Bool, true, false, List, [], length, length-append, refl, sym, ap}
use Rattle.std.proofs.Common.{subst, arith, cond, Some, ⊎_elim, ◌∷◌, ◌⊎◌, ◌++◌}
use Rattle.std.specs.Prelude.{◌&&◌, not, nat_lt, IsUtf8}
use Rattle.std.proofs.Math.Bool.{and-false}
use Rattle.std.proofs.lemmas.Bool.{true≢false, and_parts, cond_both}
use Rattle.htmd_lexical.specs.CharacterClasses.{is_empty}
use Rattle.htmd_html5_state.specs.Nodes.{NodeValue, KindValue, text, element, kind_at, parent_at, children_at}
use Rattle.htmd_law_html5.proofs.NodeParts.{times}
use Rattle.htmd_law_html5.proofs.Forests.{IsForest, under_itself}
use Rattle.htmd_law_html5.proofs.HungNodes.{is_solid, AllHang}
use Rattle.htmd_law_html5.proofs.Sublists.{Sub, window, window_grown}
use Rattle.htmd_law_html5.proofs.ChildRows.{Marks, Row, row_ends, row_marks, cond_low}
use Rattle.htmd_law_html5.proofs.Counted.{Choice, counted_of}
use Rattle.htmd_law_html5.proofs.NodeTexts.{is_element}

module _ (choice : Choice) where
  -- ---- labels

  -- a text with a letter, or an element
  abbrev pub bears : KindValue → Bool
  bears (text t) = not (is_empty (counted_of choice t))
  bears (element name attributes) = true
  bears _ = false

-- where what a node holds begins and ends among the letters; what is live ends nowhere yet
pub record Labels : Type 0 where
  pub lo : ℕ → ℕ
  pub hi : ℕ → ℕ
  pub live : ℕ → Bool

-- with a place beyond all letters for the ends that are to come
abbrev pub until : ℕ → Labels → ℕ → ℕ
until limit l n = cond (l.live n) limit (l.hi n)

module _ (choice : Choice) where
  abbrev pub counted : (ℕ → Bool) → List NodeValue → ℕ → Bool
  counted out nodes n = not (out n) && bears choice (kind_at nodes n)

  abbrev pub marks : (ℕ → Bool) → List NodeValue → ℕ → Labels → Marks
  marks out nodes limit l = record { counts = counted out nodes; begin = l.lo; end = until limit l }

  -- the children of a node stand between its places
  abbrev pub RowAt : (ℕ → Bool) → List NodeValue → ℕ → Labels → ℕ → Type 0
  RowAt out nodes limit l q = Row (marks out nodes limit l) (l.lo q) (children_at nodes q) (until limit l q)

  -- what a text is like whose letters stand between two places
  pub record TextIn (letters : List ℕ) (l : Labels) (n : ℕ) (t : List ℕ) : Type 0 where
    pub closed : l.live n ≡ false
    pub utf8 : IsUtf8 t
    pub within : Sub (counted_of choice t) (window (l.lo n) (l.hi n) letters)

  -- these labels fit the nodes, but for those that are out
  pub record FitsBy (out : ℕ → Bool) (letters : List ℕ) (nodes : List NodeValue) (l : Labels) : Type 0 where
    pub span : (n : ℕ) → l.lo n ≤ l.hi n
    pub high : (n : ℕ) → l.hi n ≤ length letters
    pub rows : (limit : ℕ) → length letters < limit → (q : ℕ) → RowAt out nodes limit l q
    pub texts : (n : ℕ) (t : List ℕ) → kind_at nodes n ≡ text t → TextIn letters l n t

abbrev pub none_out : ℕ → Bool
none_out n = false

pub lo_until : {choice : Choice} {out : ℕ → Bool} {letters : List ℕ} {nodes : List NodeValue} {l : Labels}
    → FitsBy choice out letters nodes l → (limit : ℕ) → length letters < limit → (c : ℕ)
    → l.lo c ≤ until limit l c
lo_until {choice} {out} {letters} {nodes} {l} h limit big c =
    cond_both (l.live c) _ _ (λ x. l.lo c ≤ x) (λ e. let a = h.span c in let b = h.high c in omega arith)
    (λ e. h.span c)

-- with more letters after them
pub fits_grown : {choice : Choice} {out : ℕ → Bool} {letters : List ℕ} {nodes : List NodeValue} {l : Labels}
    (more : List ℕ) → FitsBy choice out letters nodes l → FitsBy choice out (letters ++ more) nodes l
fits_grown {choice} {out} {letters} {nodes} {l} more h = record {
  span = h.span;
  high = λ n. let a = h.high n in let b = length-append letters more in omega arith;
  rows = λ limit big q. h.rows limit (let b = length-append letters more in omega arith) q;
  texts = λ n t e. let x = h.texts n t e in record {
    closed = x.closed;
    utf8 = x.utf8;
    within = subst (λ (y : List ℕ). Sub (counted_of choice t) y)
        (sym (window_grown (l.lo n) (l.hi n) letters more (h.high n))) x.within;
  };
}

pub ended_until : {choice : Choice} {out : ℕ → Bool} {letters : List ℕ} {nodes : List NodeValue} {l : Labels}
    → FitsBy choice out letters nodes l → (limit c : ℕ) → l.live c ≡ false
    → until limit l c ≤ length letters
ended_until h limit c e = rw e (h.high c)

pub some_same : {a b : ℕ} → Some a ≡ Some b → a ≡ b
some_same e = cc

pub text_same : {s t : List ℕ} → text s ≡ text t → s ≡ t
text_same e = cc

-- ---- some that were live end

abbrev pub ended : (ℕ → Bool) → ℕ → Labels → Labels
ended ends at l =
    record { lo = l.lo; hi = λ n. cond (l.live n && ends n) at (l.hi n); live = λ n. l.live n && not (ends n) }

-- what has ended so ends at this place at the latest
pub inner_end : (ends : ℕ → Bool) (at : ℕ) (l : Labels) (limit c : ℕ) (b : Bool) → l.live c ≡ b
    → (d : Bool) → ends c ≡ d
    → (l.live c ≡ true → ends c ≡ true) × (l.live c ≡ false → l.hi c ≤ at)
    → cond (b && not d) limit (cond (b && d) at (l.hi c)) ≤ at
inner_end ends at l limit c true e true f x = omega arith
inner_end ends at l limit c true e false f x = absurd (true≢false (sym (x.0 e) ∙ f))
inner_end ends at l limit c false e d f x = x.1 e

module _ (choice : Choice) where
  -- where what they hold ends at this place
  pub record MayEnd (out ends : ℕ → Bool) (at : ℕ) (nodes : List NodeValue) (l : Labels) : Type 0 where
    pub begins : (n : ℕ) → l.live n ≡ true → ends n ≡ true → l.lo n ≤ at
    pub inner : (q c : ℕ) → l.live q ≡ true → ends q ≡ true → 1 ≤ times c (children_at nodes q)
        → counted choice out nodes c ≡ true
        → (l.live c ≡ true → ends c ≡ true) × (l.live c ≡ false → l.hi c ≤ at)

  pub fits_ended : (out ends : ℕ → Bool) (at : ℕ) (letters : List ℕ) (nodes : List NodeValue) (l : Labels)
      → at ≤ length letters → MayEnd out ends at nodes l → FitsBy choice out letters nodes l
      → FitsBy choice out letters nodes (ended ends at l)
  fits_ended out ends at letters nodes l within may h = record {
    span = λ n. cond_both (l.live n && ends n) _ _ (λ x. l.lo n ≤ x)
        (λ e. let both = and_parts _ _ e in may.begins n both.0 both.1) (λ e. h.span n);
    high = λ n. cond_low (l.live n && ends n) at (l.hi n) (length letters) within (h.high n);
    rows = λ limit big q. row limit big q (l.live q) refl (ends q) refl;
    texts = λ n t e. let x = h.texts n t e in record {
      closed = rw x.closed refl;
      utf8 = x.utf8;
      within = subst (λ (b : Bool). Sub (counted_of choice t)
          (window (l.lo n) (cond (b && ends n) at (l.hi n)) letters)) (sym x.closed) x.within;
    };
  }
    where
      ends_by : (limit : ℕ) → length letters < limit → (n : ℕ) (b : Bool) → l.live n ≡ b → (d : Bool)
          → ends n ≡ d → (l.lo n ≤ cond (b && not d) limit (cond (b && d) at (l.hi n)))
          × (cond (b && not d) limit (cond (b && d) at (l.hi n)) ≤ cond b limit (l.hi n))
      ends_by limit big n true e true f = (may.begins n e f, omega arith)
      ends_by limit big n true e false f = (let x = h.span n in let y = h.high n in omega arith, omega arith)
      ends_by limit big n false e d f = (h.span n, omega arith)

      lowered : (limit : ℕ) → length letters < limit → (q to : ℕ)
          → Row (marks choice out nodes limit l) (l.lo q) (children_at nodes q) to
          → Row (marks choice out nodes limit (ended ends at l)) (l.lo q) (children_at nodes q) to
      lowered limit big q to r =
          row_marks (marks choice out nodes limit l) (marks choice out nodes limit (ended ends at l)) (l.lo q)
          (children_at nodes q) to
          (λ c k b. let x = ends_by limit big c (l.live c) refl (ends c) refl in (b, omega arith, x.0, x.1)) r

      row : (limit : ℕ) → length letters < limit → (q : ℕ) (b : Bool) → l.live q ≡ b → (d : Bool)
          → ends q ≡ d → Row (marks choice out nodes limit (ended ends at l)) (l.lo q) (children_at nodes q)
          (cond (b && not d) limit (cond (b && d) at (l.hi q)))
      row limit big q true e true f =
          row_ends (marks choice out nodes limit (ended ends at l)) (l.lo q) (children_at nodes q) (until limit l q) at
          (may.begins q e f)
          (λ c k b. inner_end ends at l limit c (l.live c) refl (ends c) refl (may.inner q c e f k b))
          (lowered limit big q (until limit l q) (h.rows limit big q))
      row limit big q true e false f =
          lowered limit big q limit
          (subst (λ (b : Bool). Row (marks choice out nodes limit l) (l.lo q) (children_at nodes q)
          (cond b limit (l.hi q))) e (h.rows limit big q))
      row limit big q false e d f =
          lowered limit big q (l.hi q)
          (subst (λ (b : Bool). Row (marks choice out nodes limit l) (l.lo q) (children_at nodes q)
          (cond b limit (l.hi q))) e (h.rows limit big q))

-- ---- what a node holds ends with the letters that there are

-- nodes in a forest, each above its parent
pub record Ranked (rank : ℕ → ℕ) (nodes : List NodeValue) : Type 0 where
  pub hangs : AllHang rank nodes
  pub forest : IsForest nodes
  pub root : is_solid (kind_at nodes 0) ≡ false

module _ (choice : Choice) where
  -- what bears none
  pub no_letters : (s : List ℕ) (k : KindValue) → k ≡ text s → bears choice k ≡ false → counted_of choice s
      ≡ []
  no_letters s k is e = nothing (counted_of choice s) (sym (ap (bears choice) is) ∙ e)
    where
      nothing : (x : List ℕ) → not (is_empty x) ≡ false → x ≡ []
      nothing [] f = refl
      nothing (y ∷ x) f = absurd (true≢false f)

  pub bears_solid : (k : KindValue) → bears choice k ≡ true → is_solid k ≡ true
  bears_solid (text t) e = refl
  bears_solid (element name attributes) e = refl
  bears_solid _ e = e

pub child_parent : (nodes : List NodeValue) (q c : ℕ) → IsForest nodes → 1 ≤ times c (children_at nodes q)
    → parent_at nodes c ≡ Some q
child_parent nodes q c forest l = under_itself (parent_at nodes c) q (let a = forest.once c q in omega arith)

module _ (choice : Choice) where
  -- it is above its parent, the Document or an element
  pub child_held : (rank : ℕ → ℕ) (nodes : List NodeValue) (q c : ℕ) → Ranked rank nodes
      → 1 ≤ times c (children_at nodes q) → bears choice (kind_at nodes c) ≡ true
      → (rank q < rank c) × ((q ≡ 0) ⊎ (is_element (kind_at nodes q) ≡ true))
  child_held rank nodes q c h l b =
      let solid = bears_solid choice (kind_at nodes c) b in
      ⊎_elim
      (λ z. absurd (true≢false (sym solid ∙ (ap (λ (x : ℕ). is_solid (kind_at nodes x)) z ∙ h.root))))
      (λ g. let same : g.by ≡ q = some_same (sym g.parent ∙ child_parent nodes q c h.forest l) in (
        let less = g.less in let e : rank g.by ≡ rank q = ap rank same in omega arith,
        subst (λ (x : ℕ). (x ≡ 0) ⊎ (is_element (kind_at nodes x) ≡ true)) same g.holder.either,
      )) (h.hangs c solid)

  pub child_above : (rank : ℕ → ℕ) (nodes : List NodeValue) (q c : ℕ) → Ranked rank nodes
      → 1 ≤ times c (children_at nodes q) → bears choice (kind_at nodes c) ≡ true → rank q < rank c
  child_above rank nodes q c h l b = (child_held rank nodes q c h l b).0

abbrev pub above : (ℕ → ℕ) → ℕ → ℕ → Bool
above rank p n = nat_lt (rank p) (rank n)

pub lt_true : (a b : ℕ) → a < b → nat_lt a b ≡ true
lt_true a b l = grind (arith, l)

pub lt_false : (a b : ℕ) → b ≤ a → nat_lt a b ≡ false
lt_false a b l = grind (arith, l)

pub lt_less : (a b : ℕ) → nat_lt a b ≡ true → a < b
lt_less a b e = grind (arith, e)

module _ (choice : Choice) where
  -- labels with which all that stands above a node has ended
  pub record EndedAbove (rank : ℕ → ℕ) (p : ℕ) (letters : List ℕ) (nodes : List NodeValue)
      (old : Labels) : Type 0 where
    pub labels : Labels
    pub fits : FitsBy choice none_out letters nodes labels
    pub still : (n : ℕ) → old.live n ≡ true → rank n ≤ rank p → labels.live n ≡ true
    pub children : (c : ℕ) → 1 ≤ times c (children_at nodes p) → bears choice (kind_at nodes c) ≡ true
        → labels.live c ≡ false

  pub ended_above : (rank : ℕ → ℕ) (p : ℕ) (letters : List ℕ) (nodes : List NodeValue) (l : Labels)
      → Ranked rank nodes → FitsBy choice none_out letters nodes l → EndedAbove rank p letters nodes l
  ended_above rank p letters nodes l ranked h = record {
    labels = ended (above rank p) (length letters) l;
    fits = fits_ended choice none_out (above rank p) (length letters) letters nodes l (omega arith) (record {
      begins = λ n e f. let a = h.span n in let b = h.high n in omega arith;
      inner = λ q c e f k b. (
        λ g. let less = child_above choice rank nodes q c ranked k b in
            let m = lt_less (rank p) (rank q) f in
            lt_true (rank p) (rank c) (omega arith),
        λ g. h.high c,
      );
    }) h;
    still = λ n e m. rw (e, lt_false (rank p) (rank n) m) refl;
    children = λ c k b.
        rw (lt_true (rank p) (rank c) (child_above choice rank nodes p c ranked k b), and-false (l.live c)) refl;
  }
