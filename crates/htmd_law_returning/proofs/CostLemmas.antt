-- What the links of a page cost, and that its budget has enough of it.
use Rattle.std.proofs.Common.{◌≡◌, ℕ, suc, ◌+◌, ◌-◌, ◌*◌, ◌≤◌, ◌<◌, Bool, true, false}
use Rattle.std.proofs.Common.{cond, List, ◌∷◌, ◌++◌, refl, subst}
use Rattle.std.proofs.Common.{sym, ap, ◌∙◌, arith, Option, Some, None}
use Rattle.std.specs.Prelude.{nat_le, nat_lt}
use Rattle.std.proofs.lemmas.Bool.Decides.{nat_tests}
use Rattle.htmd_lexical.specs.AttributePairs.{AttributePair}
use Rattle.htmd_shown.specs.declared.facts.Facts.{Facts}
use Rattle.htmd_shown.specs.declared.role.Role.{Role}
use Rattle.htmd_shown.specs.Facts.{made, leaves, leaves_among, one_unless}
use Rattle.htmd_shown.specs.Pieces.{greatest_count}
use Rattle.htmd_shown.specs.SimpleTrees.{Simple, text, image, formula, embedded, anchor, element, Simples, none, more}
use Rattle.htmd_shown.specs.Roles.{is_verbatim, is_among}
use Rattle.htmd_document_of_tree.specs.Limits.{size, paid, left_after, left_after_all, is_carrying, limited}
use Rattle.htmd_document_of_tree.specs.Limits.{always_written}
use Rattle.htmd_document_of_tree.specs.Limits.{link_cost, characters, Written, nothing_written, with_element, written}
use Rattle.htmd_document_of_tree.specs.Limits.{written_all, with_text, with_pair, address_in, title_text}
use Rattle.htmd_lexical.specs.Characters.{null}
use Rattle.htmd_law_returning.specs.SettledDocuments.{with_own}
use Rattle.htmd_document_of_tree.proofs.LimitsLemmas.{enough}

-- ---- what nodes say

-- the same pairs, and no more characters
abbrev pub IsLess : Written → Written → Type 0
IsLess v w = (v.pairs ≡ w.pairs) × (v.count ≤ w.count)

own-less : (v w : Written) (address title : List ℕ) → IsLess v w
    → IsLess (with_own v address title) (with_own w address title)
own-less v w address title l =
    subst (λ b. IsLess (with_own v address title) (cond b w (record {
      count = w.count + (characters address + characters title);
      pairs = (address ++ null ∷ title) ∷ w.pairs;
    }))) (ap (λ ps. is_among ps (address ++ null ∷ title)) l.0)
    (either (is_among v.pairs (address ++ null ∷ title)))
  where
    either : (b : Bool) → IsLess (cond b v (record {
      count = v.count + (characters address + characters title);
      pairs = (address ++ null ∷ title) ∷ v.pairs;
    })) (cond b w (record {
      count = w.count + (characters address + characters title);
      pairs = (address ++ null ∷ title) ∷ w.pairs;
    }))
    either true = l
    either false = (ap (λ ps. (address ++ null ∷ title) ∷ ps) l.0, omega (arith, l.1))

-- the address and title of a link or an abbreviation
own-pair : (w : Written) (r : Role) (attributes : List AttributePair) (address title : List ℕ)
    → address_in r attributes ≡ address → title_text attributes ≡ title
    → with_pair w r attributes ≡ with_own w address title
own-pair w r attributes address title e f =
    ap (λ s. with_these s (title_text attributes)) e ∙ ap (λ t. with_these address t) f
  where
    with_these : List ℕ → List ℕ → Written
    with_these s t = with_own w s t

pair-less : (v w : Written) (r : Role) (attributes : List AttributePair) → IsLess v w
    → IsLess (with_pair v r attributes) (with_pair w r attributes)
pair-less v w r attributes l = own-less v w (address_in r attributes) (title_text attributes) l

element-less : (v w : Written) (r : Role) (attributes : List AttributePair) → IsLess v w
    → IsLess (with_element v r attributes) (with_element w r attributes)
element-less v w r attributes l = either (is_carrying r)
  where
    either : (b : Bool)
        → IsLess (cond b (with_pair v r attributes) v) (cond b (with_pair w r attributes) w)
    either true = pair-less v w r attributes l
    either false = l

mutual
  written-less : (v w : Written) (t : Simple) → IsLess v w → IsLess (written v t) (written w t)
  written-less v w (text s) l = (l.0, omega (arith, l.1))
  written-less v w (element id r facts attributes content) l =
      all-less (with_element v r attributes) (with_element w r attributes) content (element-less v w r attributes l)
  written-less v w (image address attributes) l = l
  written-less v w (formula tex is_alone attributes) l = l
  written-less v w (embedded id address title attributes ids) l = l
  written-less v w (anchor id) l = l

  pub all-less : (v w : Written) (ts : Simples) → IsLess v w → IsLess (written_all v ts) (written_all w ts)
  all-less v w none l = l
  all-less v w (more t ts) l = all-less (written v t) (written w t) ts (written-less v w t l)

-- ---- costs

-- so much pays for nodes, and they say so much at least
abbrev pub Spends : ℕ → (Written → Written) → Simple → Type 0
Spends k h t =
    ((a : ℕ) → k ≤ a → (m : ℕ) × ((left_after (Some a) t ≡ Some m) × (a ≤ m + k)))
    × ((v w : Written) → IsLess v w → IsLess (h v) (written w t))

abbrev pub AllSpend : ℕ → (Written → Written) → Simples → Type 0
AllSpend k h ts =
    ((a : ℕ) → k ≤ a → (m : ℕ) × ((left_after_all (Some a) ts ≡ Some m) × (a ≤ m + k)))
    × ((v w : Written) → IsLess v w → IsLess (h v) (written_all w ts))

pub spend-none : AllSpend 0 (λ w. w) none
spend-none = (λ a h. (a, (refl, omega arith)), λ v w l. l)

-- a text counts, or is white space that doesn't
pub spend-words : (s : List ℕ) → Spends 0 (λ w. with_text w s) (text s)
spend-words s = (λ a h. (a, (refl, omega arith)), λ v w l. (l.0, omega (arith, l.1)))

pub spend-text : (s : List ℕ) → Spends 0 (λ w. w) (text s)
spend-text s = (λ a h. (a, (refl, omega arith)), λ v w l. (l.0, omega (arith, l.1)))

-- one that is no longer
pub spend-longer : (s t : List ℕ) → characters s ≤ characters t → Spends 0 (λ w. with_text w s) (text t)
spend-longer s t e = (λ a h. (a, (refl, omega arith)), λ v w l. (l.0, omega (arith, l.1, e)))

pub spend-image : (address : Option (List ℕ)) (attributes : List AttributePair)
    → Spends 0 (λ w. w) (image address attributes)
spend-image address attributes = (λ a h. (a, (refl, omega arith)), λ v w l. l)

-- with a greater cost
pub spend-within : {g : Written → Written} → (j k : ℕ) (ts : Simples) → j ≤ k → AllSpend j g ts
    → AllSpend k g ts
spend-within j k ts h own = (
  λ a l. let (i, found) = own.0 a (omega (arith, h, l)) in (i, (found.0, omega (arith, found.1, h))),
  own.1,
)

pub spend-more : {f g : Written → Written} → (j k : ℕ) (t : Simple) (ts : Simples) → Spends j f t
    → AllSpend k g ts → AllSpend (j + k) (λ w. g (f w)) (more t ts)
spend-more {f} {g} j k t ts own rest = (
  λ a h.
      let (i, first) = own.0 a (omega (arith, h)) in
      let (l, others) = rest.0 i (omega (arith, h, first.1)) in (
        l,
        (ap (λ s. left_after_all s ts) first.0 ∙ others.0, omega (arith, first.1, others.1)),
      ),
  λ v w l. rest.1 (f v) (written w t) (own.1 v w l),
)

-- a node that costs nothing
pub spend-past : {g : Written → Written} → (k : ℕ) (t : Simple) (ts : Simples) → Spends 0 (λ w. w) t
    → AllSpend k g ts → AllSpend k g (more t ts)
spend-past k t ts own rest = (
  λ a h.
      let (i, first) = own.0 a (omega arith) in
      let (l, others) = rest.0 i (omega (arith, h, first.1)) in (
        l,
        (ap (λ s. left_after_all s ts) first.0 ∙ others.0, omega (arith, first.1, others.1)),
      ),
  λ v w l. rest.1 v (written w t) (own.1 v w l),
)

paid-exact : (a k : ℕ) → k ≤ a → paid (Some a) (Some k) ≡ Some (a - k)
paid-exact a k h =
    let test : nat_le k a ≡ true = grind (arith, nat_tests) in
    ap (λ b. cond b (Some (a - k)) None) test

-- an element that carries nothing
pub spend-element : {g : Written → Written}
    → (k id : ℕ) (r : Role) (facts : Facts) (attributes : List AttributePair)
    (content : Simples)
    → is_carrying r ≡ false → AllSpend k g content → Spends k g (element id r facts attributes content)
spend-element {g} k id r facts attributes content free inner = (
  λ a h.
      let (m, found) = inner.0 (a - 0) (omega (arith, h)) in (
        m,
        (
          ap (λ c. left_after_all (paid (Some a) (cond c (link_cost (size r attributes) facts.leaves)
              (Some 0))) content) free
              ∙ (ap (λ s. left_after_all s content) (paid-exact a 0 (omega arith)) ∙ found.0),
          omega (arith, found.1),
        ),
      ),
  λ v w l. subst (λ (b : Bool). IsLess (g v) (written_all (cond b (with_pair w r attributes) w) content)) (sym free)
      (inner.1 v w l),
)

-- a link or an abbreviation
pub spend-carrying : {g : Written → Written} → (j k n id : ℕ) (r : Role) (attributes : List AttributePair)
    (content : Simples) (address title : List ℕ)
    → is_carrying r ≡ true → address_in r attributes ≡ address → title_text attributes ≡ title
    → size r attributes ≤ j → leaves_among content ≤ n → n < greatest_count → AllSpend k g content
    → Spends (j * n + k) (λ w. g (with_own w address title)) (made id r attributes content)
spend-carrying {g} j k n id r attributes content address title carries e f sized counted few inner = (
  λ a h.
      let s : ℕ = size r attributes in
      let l : ℕ = leaves_among content in
      let low : s * l ≤ j * n = times-le s j l n sized counted in
      let known : nat_lt l greatest_count ≡ true = grind (arith, nat_tests, counted, few) in
      let (m, found) = inner.0 (a - s * l) (omega (arith, h, low)) in (
        m,
        (
          ap (λ c. left_after_all (paid (Some a) (cond c (link_cost s l) (Some 0))) content) carries
              ∙ (ap (λ b. left_after_all (paid (Some a) (cond b (Some (s * l)) None)) content) known
              ∙ (ap (λ x. left_after_all x content) (paid-exact a (s * l) (omega (arith, h, low))) ∙ found.0)),
          omega (arith, found.1, low, h),
        ),
      ),
  λ v w l. subst (λ (b : Bool). IsLess (g (with_own v address title))
      (written_all (cond b (with_pair w r attributes) w) content)) (sym carries)
      (subst (λ (x : Written). IsLess (g (with_own v address title)) (written_all x content))
      (sym (own-pair w r attributes address title e f))
      (inner.1 (with_own v address title) (with_own w address title) (own-less v w address title l))),
)
  where
    times-le : (a b c d : ℕ) → a ≤ b → c ≤ d → a * c ≤ b * d
    times-le a b c d h e = grind (arith, h, e)

-- ---- all

pub within-budget : {g : Written → Written} → (k : ℕ) (ts : Simples)
    → k ≤ 16 * (g nothing_written).count + always_written → AllSpend k g ts → limited ts ≡ ts
within-budget k ts h own =
    let (m, found) = own.0 k (omega arith) in
    let written_least = (own.1 nothing_written nothing_written (refl, omega arith)).1 in
    sym (enough ts k (Some m) (omega (arith, h, written_least)) (sym found.0) refl)

-- ---- what shows in nodes

pub leaves-more : (j k : ℕ) (t : Simple) (ts : Simples) → leaves t ≤ j → leaves_among ts ≤ k
    → leaves_among (more t ts) ≤ j + k
leaves-more j k t ts h e = omega (arith, h, e)

pub one-leaf : (b : Bool) → one_unless b ≤ 1
one-leaf true = omega arith
one-leaf false = omega arith

leaves-bounded : (ts : Simples) → leaves_among ts ≤ greatest_count
leaves-bounded none = omega arith
leaves-bounded (more t ts) = omega arith

pub leaves-behind : (t : Simple) (ts : Simples) → leaves_among ts ≤ leaves_among (more t ts)
leaves-behind t ts = let h = leaves-bounded ts in omega (arith, h)

pub inline-leaves : (id : ℕ) (r : Role) (facts : Facts) (attributes : List AttributePair) (content : Simples)
    → is_verbatim r ≡ false → leaves (element id r facts attributes content) ≡ leaves_among content
inline-leaves id r facts attributes content h = ap (λ b. cond b 1 (leaves_among content)) h

-- what is weighed is counted
pub count-light : (k c : ℕ) → suc k * c < greatest_count → c < greatest_count
count-light k c h = few c (suc k * c) (less k c) h
  where
    less : (k c : ℕ) → c ≤ suc k * c
    less k c = grind arith

    few : (c n : ℕ) → c ≤ n → n < greatest_count → c < greatest_count
    few c n h e = omega (arith, h, e)
