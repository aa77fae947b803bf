-- Children that stand in a row: where each begins and ends, one after another.
use Rattle.std.proofs.Common.{◌≡◌, ◌∙◌, ℕ, zero, suc, ◌<◌, ◌≤◌, Bool, true, false, List, [], ◌∷◌, ◌++◌, refl, sym, ap}
use Rattle.std.proofs.Common.{subst, arith, cond, inl, inr, ◌⊎◌}
use Rattle.std.specs.Prelude.{◌==◌, remove}
use Rattle.std.proofs.lemmas.Bool.{true≢false, eqb-true, eqb-false, eq-eqb}
use Rattle.htmd_lexical.proofs.Cases.{test}
use Rattle.htmd_law_html5.proofs.NodeParts.{times}

-- ---- rows

-- which nodes count, where each begins, and where it ends
pub record Marks : Type 0 where
  pub counts : ℕ → Bool
  pub begin : ℕ → ℕ
  pub end : ℕ → ℕ

abbrev pub after : Marks → ℕ → ℕ → ℕ
after m at c = cond (m.counts c) (m.end c) at

abbrev pub Stands : Marks → ℕ → ℕ → Type 0
Stands m at c = m.counts c ≡ true → (at ≤ m.begin c) × (m.begin c ≤ m.end c)

-- from one place up to another
abbrev pub Row : Marks → ℕ → List ℕ → ℕ → Type 0
Row m at [] to = at ≤ to
Row m at (c ∷ cs) to = Stands m at c × Row m (after m at c) cs to

pub times_own : (c : ℕ) (cs : List ℕ) → 1 ≤ times c (c ∷ cs)
times_own c cs = let o : ◌≡◌ {A = ℕ} (cond (c == c) 1 0) 1 = rw (eq-eqb c c refl) refl in omega arith

-- one of two numbers, or another
pub by_two : (P : ℕ → Type 0) (n p q : ℕ) → P n → P p → ((n ≡ q → ⊥) → (p ≡ q → ⊥) → P q)
    → P q
by_two P n p q a b f =
    test (n == q) (λ t. subst P (eqb-true n q t) a)
    (λ t. test (p == q) (λ u. subst P (eqb-true p q u) b) (λ u. f (eqb-false n q t) (eqb-false p q u)))

pub row_as : (m : Marks) {at at' to to' : ℕ} {cs cs' : List ℕ} → at' ≡ at → cs' ≡ cs → to' ≡ to
    → Row m at cs to → Row m at' cs' to'
row_as m e f g r = rw (e, f, g) r

pub cond_low : (b : Bool) (x y z : ℕ) → x ≤ z → y ≤ z → cond b x y ≤ z
cond_low true x y z f g = f
cond_low false x y z f g = g

module _ (m : Marks) where
  pub row_from : (at low : ℕ) (cs : List ℕ) (to : ℕ) → low ≤ at → Row m at cs to → Row m low cs to
  row_from at low [] to l h = omega arith
  row_from at low (c ∷ cs) to l h = (
    λ b. let s = h.0 b in let x = s.0 in (omega arith, s.1),
    row_from (after m at c) (after m low c) cs to (lower (m.counts c)) h.1,
  )
    where
      lower : (b : Bool) → cond b (m.end c) low ≤ cond b (m.end c) at
      lower true = omega arith
      lower false = l

  pub row_low : (at : ℕ) (cs : List ℕ) (to : ℕ) → Row m at cs to → at ≤ to
  row_low at [] to h = h
  row_low at (c ∷ cs) to h =
      test (m.counts c)
      (λ t. let s = h.0 t in let x = s.0 in let y = s.1 in
      let k : Row m (m.end c) cs to = subst (λ (b : Bool). Row m (cond b (m.end c) at) cs to) t h.1 in
      let z = row_low (m.end c) cs to k in omega arith)
      (λ t. let k : Row m at cs to = subst (λ (b : Bool). Row m (cond b (m.end c) at) cs to) t h.1 in
      row_low at cs to k)

  pub row_to : (at : ℕ) (cs : List ℕ) (to high : ℕ) → to ≤ high → Row m at cs to → Row m at cs high
  row_to at [] to high l h = omega arith
  row_to at (c ∷ cs) to high l h = (h.0, row_to (after m at c) cs to high l h.1)

  -- what stands in a row
  pub row_member : (c at : ℕ) (cs : List ℕ) (to : ℕ) → 1 ≤ times c cs → m.counts c ≡ true
      → Row m at cs to → (at ≤ m.begin c) × (m.begin c ≤ m.end c) × (m.end c ≤ to)
  row_member c at [] to l b h = absurd (omega arith)
  row_member c at (d ∷ cs) to l b h =
      test (d == c) (λ t. here (eqb-true d c t))
      (λ t. there (row_member c (after m at d) cs to (let f = rw t at l in omega arith) b h.1))
    where
      here : d ≡ c → (at ≤ m.begin c) × (m.begin c ≤ m.end c) × (m.end c ≤ to)
      here e = subst (λ (x : ℕ). (at ≤ m.begin x) × (m.begin x ≤ m.end x) × (m.end x ≤ to)) e
          (let bd : m.counts d ≡ true = ap m.counts e ∙ b in
          let s = h.0 bd in
          let k : Row m (m.end d) cs to = subst (λ (x : Bool). Row m (cond x (m.end d) at) cs to) bd h.1 in
          (s.0, s.1, row_low (m.end d) cs to k))

      low : (b : Bool) → m.counts d ≡ b → at ≤ cond b (m.end d) at
      low true e = let s = h.0 e in let x = s.0 in let y = s.1 in omega arith
      low false e = omega arith

      there : (after m at d ≤ m.begin c) × (m.begin c ≤ m.end c) × (m.end c ≤ to)
          → (at ≤ m.begin c) × (m.begin c ≤ m.end c) × (m.end c ≤ to)
      there r = let x = low (m.counts d) refl in let y = r.0 in (omega arith, r.1, r.2)

  pub row_append : (at : ℕ) (cs : List ℕ) (mid : ℕ) (ds : List ℕ) (to : ℕ) → Row m at cs mid
      → Row m mid ds to → Row m at (cs ++ ds) to
  row_append at [] mid ds to h g = row_from mid at ds to h g
  row_append at (c ∷ cs) mid ds to h g = (h.0, row_append (after m at c) cs mid ds to h.1 g)

  -- and one more
  pub row_end : (at : ℕ) (cs : List ℕ) (mid c to : ℕ) → mid ≤ m.begin c → m.begin c ≤ m.end c
      → m.end c ≤ to → mid ≤ to → Row m at cs mid → Row m at (cs ++ c ∷ []) to
  row_end at cs mid c to low span high all r =
      row_append at cs mid (c ∷ []) to r (λ b. (low, span), cond_low (m.counts c) (m.end c) mid to high all)

  -- up to a place before which all end
  pub row_ends : (at : ℕ) (cs : List ℕ) (to high : ℕ) → at ≤ high
      → ((c : ℕ) → 1 ≤ times c cs → m.counts c ≡ true → m.end c ≤ high) → Row m at cs to
      → Row m at cs high
  row_ends at [] to high l f h = l
  row_ends at (c ∷ cs) to high l f h = (
    h.0,
    row_ends (after m at c) cs to high (low (m.counts c) refl) (λ d k b. f d (omega arith) b) h.1,
  )
    where
      low : (b : Bool) → m.counts c ≡ b → cond b (m.end c) at ≤ high
      low true e = f c (times_own c cs) e
      low false e = l

  -- one goes
  pub row_without : (at : ℕ) (cs : List ℕ) (to i : ℕ) → Row m at cs to → Row m at (remove cs i) to
  row_without at [] to zero h = h
  row_without at [] to (suc i) h = h
  row_without at (c ∷ cs) to zero h = row_from (after m at c) at cs to (low (m.counts c) refl) h.1
    where
      low : (b : Bool) → m.counts c ≡ b → at ≤ cond b (m.end c) at
      low true e = let s = h.0 e in let x = s.0 in let y = s.1 in omega arith
      low false e = omega arith
  row_without at (c ∷ cs) to (suc i) h = (h.0, row_without (after m at c) cs to i h.1)

  -- what ends beyond all beginnings is the last that counts
  pub row_last : (c d at : ℕ) (cs : List ℕ) (to limit : ℕ) → 1 ≤ times c cs → m.counts c ≡ true
      → 1 ≤ times d cs → m.counts d ≡ true → limit < m.end c → ((x : ℕ) → m.begin x ≤ limit)
      → Row m at cs to → (d ≡ c) ⊎ (m.end d ≤ m.begin c)
  row_last c d at [] to limit l b k e big low h = absurd (omega arith)
  row_last c d at (x ∷ cs) to limit l b k e big low h =
      test (x == d) (λ t. test (x == c) (λ u. inl (sym (eqb-true x d t) ∙ eqb-true x c u))
      (λ u. let f = rw u at l in
      let same = eqb-true x d t in
      let bx : m.counts x ≡ true = ap m.counts same ∙ e in
      let g : Row m (m.end x) cs to = subst (λ (y : Bool). Row m (cond y (m.end x) at) cs to) bx h.1 in
      let r = row_member c (m.end x) cs to (omega arith) b g in
      inr (let p = r.0 in let q : m.end x ≡ m.end d = ap m.end same in omega arith)))
      (λ t. let f = rw t at k in
      test (x == c)
      (λ u. let same = eqb-true x c u in
      let bx : m.counts x ≡ true = ap m.counts same ∙ b in
      let g : Row m (m.end x) cs to = subst (λ (y : Bool). Row m (cond y (m.end x) at) cs to) bx h.1 in
      let r = row_member d (m.end x) cs to (omega arith) e g in
      absurd (let p = r.0 in let q = low d in let z : m.end x ≡ m.end c = ap m.end same in omega arith))
      (λ u. let v = rw u at l in
      row_last c d (after m at x) cs to limit (omega arith) b (omega arith) e big low h.1))

-- ---- other marks

-- what is begun and ended alike, or ends earlier
pub row_marks : (m m' : Marks) (at : ℕ) (cs : List ℕ) (to : ℕ)
    → ((c : ℕ) → 1 ≤ times c cs → m'.counts c ≡ true → (m.counts c ≡ true) × (m.begin c ≤ m'.begin c)
    × (m'.begin c ≤ m'.end c) × (m'.end c ≤ m.end c)) → Row m at cs to → Row m' at cs to
row_marks m m' at [] to f h = h
row_marks m m' at (c ∷ cs) to f h = (
  λ b. let r = f c (times_own c cs) b in let s = h.0 r.0 in let x = s.0 in let y = r.1 in (omega arith, r.2),
  row_marks m m' (after m' at c) cs to (λ d k b. f d (omega arith) b)
      (row_from m (after m at c) (after m' at c) cs to (low (m'.counts c) refl (m.counts c) refl) h.1),
)
  where
    low : (b : Bool) → m'.counts c ≡ b → (d : Bool) → m.counts c ≡ d → cond b (m'.end c) at
        ≤ cond d (m.end c) at
    low true e true g = (f c (times_own c cs) e).3
    low true e false g = absurd (true≢false (sym (f c (times_own c cs) e).0 ∙ g))
    low false e true g = let s = h.0 g in let x = s.0 in let y = s.1 in omega arith
    low false e false g = omega arith
