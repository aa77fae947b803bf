-- Where the copies hang that the adoption agency makes of the elements between the formatting element and the furthest
-- block. All ranks are multiplied by 8, which leaves room for those of the copies.
use Rattle.std.proofs.Common.{◌≡◌, ◌∙◌, ℕ, suc, ◌+◌, ◌-◌, ◌*◌, ◌<◌, ◌≤◌, true}
use Rattle.std.proofs.Common.{List, [], ◌∷◌, ◌++◌, length, refl}
use Rattle.std.proofs.Common.{sym, ap, subst, arith, Option, Some, None, inl, inr, ◌⊎◌, ⊎_elim}
use Rattle.std.specs.Prelude.{◌==◌}
use Rattle.std.proofs.lemmas.Bool.{true≢false, eqb-true, eqb-false}
use Rattle.std.proofs.lemmas.List.{length-set}
use Rattle.htmd_lexical.proofs.Cases.{test}
use Rattle.htmd_html5_state.specs.Nodes.{NodeValue, KindValue, kind_at, parent_at, children_at, new_node, last_in}
use Rattle.htmd_html5_state.specs.Nodes.{detach, detach_from, remove_child}
use Rattle.htmd_html5_state.specs.OpenElements.{OpenValue, is_open_node, inside, around}
use Rattle.htmd_html5_state.specs.State.{StateValue, on_formatting}
use Rattle.htmd_html5_state.specs.Insertion.{opened}
use Rattle.htmd_html5_state.specs.Formatting.{without_entry}
use Rattle.htmd_html5_state.specs.Adoption.{is_special_element, Furthest, furthest_with, furthest_block, Chain}
use Rattle.htmd_html5_state.specs.Adoption.{begin_chain, with_copy}
use Rattle.htmd_law_html5.proofs.NodeTexts.{is_element, kinds_detach}
use Rattle.htmd_law_html5.proofs.Forests.{IsForest, length_new, forest_new, forest_attach}
use Rattle.htmd_law_html5.proofs.OpenNodes.{EachOpen, Below, below_more, each_more, each_append}
use Rattle.htmd_law_html5.proofs.HungNodes.{HangsBy, Torn, torn_less, AllHang, put_at, put_kind, put_size}
use Rattle.htmd_law_html5.proofs.HungNodes.{put_torn, appended_torn, detached_torn, kind_by_kinds, kind_with_new}
use Rattle.htmd_law_html5.proofs.HungNodes.{kind_new_at}
use Rattle.htmd_law_html5.proofs.HungStates.{ElementOpen, element_number, raised, raised_own, raised_other}
use Rattle.htmd_law_html5.proofs.HungStates.{raised_order}

-- ---- ranks of what is open between two bounds

abbrev pub Within : (ℕ → ℕ) → ℕ → List OpenValue → ℕ → Type 0
Within rank high [] low = low ≤ high
Within rank high (e ∷ es) low = (rank e.node < high) × Within rank (rank e.node) es low

pub within_low : (rank : ℕ → ℕ) (high : ℕ) (es : List OpenValue) (low : ℕ) → Within rank high es low
    → low ≤ high
within_low rank high [] low h = h
within_low rank high (e ∷ es) low h =
    let a = within_low rank (rank e.node) es low h.1 in let b = h.0 in omega arith

pub within_append : (rank : ℕ → ℕ) (high : ℕ) (es : List OpenValue) (low : ℕ) (fs : List OpenValue)
    → Within rank high es low → Below rank low fs → Below rank high (es ++ fs)
within_append rank high [] low fs h g = below_more rank low high fs h g
within_append rank high (e ∷ es) low fs h g = (h.0, within_append rank (rank e.node) es low fs h.1 g)

within_push : (rank : ℕ → ℕ) (high : ℕ) (es : List OpenValue) (low : ℕ) (e : OpenValue)
    → Within rank high es low → rank e.node < low → Within rank high (es ++ e ∷ []) (rank e.node)
within_push rank high [] low e h l = (omega arith, omega arith)
within_push rank high (x ∷ es) low e h l = (h.0, within_push rank (rank x.node) es low e h.1 l)

-- mapped, with the same order
pub within_mapped : (f : ℕ → ℕ) → ((a b : ℕ) → a < b → f a < f b)
    → ((a b : ℕ) → a ≤ b → f a ≤ f b) → (rank new : ℕ → ℕ) (high : ℕ) (es : List OpenValue)
    (low : ℕ) → EachOpen (λ e. new e.node ≡ f (rank e.node)) es → Within rank high es low
    → Within new (f high) es (f low)
within_mapped f order least rank new high [] low same h = least low high h
within_mapped f order least rank new high (e ∷ es) low same h =
    let a = same.0 in
    let b = order (rank e.node) high h.0 in (
      omega arith,
      subst (λ (x : ℕ). Within new x es (f low)) (sym a)
          (within_mapped f order least rank new (rank e.node) es low same.1 h.1),
    )

-- ---- what is open inside the formatting element, and around it

pub around_below : (rank : ℕ → ℕ) (limit m : ℕ) (stack : List OpenValue) → is_open_node m stack ≡ true
    → Below rank limit stack → Below rank (rank m) (around m stack)
around_below rank limit m [] l h = absurd (true≢false (sym l))
around_below rank limit m (e ∷ es) l h =
    test (e.node == m) (λ t. rw t (subst (λ (x : ℕ). Below rank (rank x) es) (eqb-true e.node m t) h.1))
    (λ t. rw t (around_below rank (rank e.node) m es (rw t at l) h.1))

pub inside_within : (rank : ℕ → ℕ) (limit m : ℕ) (stack : List OpenValue) → is_open_node m stack ≡ true
    → Below rank limit stack → Within rank limit (inside m stack) (suc (rank m))
inside_within rank limit m [] l h = absurd (true≢false (sym l))
inside_within rank limit m (e ∷ es) l h =
    test (e.node == m)
    (λ t. let a : rank e.node ≡ rank m = ap rank (eqb-true e.node m t) in
    let b = h.0 in
    rw t (omega arith)) (λ t. rw t (h.0, inside_within rank (rank e.node) m es (rw t at l) h.1))

-- the furthest block, and what is inside it
pub record FurthestRanks (rank : ℕ → ℕ) (high low : ℕ) (f : Furthest) : Type 0 where
  pub inner : Within rank high f.inner (suc (rank f.block.node))
  pub block : low ≤ rank f.block.node

abbrev SomeRanks : (ℕ → ℕ) → ℕ → ℕ → Option Furthest → Type 0
SomeRanks rank high low None = Unit {0}
SomeRanks rank high low (Some f) = FurthestRanks rank high low f

some_ranks : (rank : ℕ → ℕ) (high : ℕ) (es : List OpenValue) (low : ℕ) → Within rank high es low
    → SomeRanks rank high low (furthest_block es)
some_ranks rank high [] low h = tt
some_ranks rank high (e ∷ es) low h =
    more (furthest_block es) (some_ranks rank (rank e.node) es low h.1)
  where
    more : (f : Option Furthest) → SomeRanks rank (rank e.node) low f
        → SomeRanks rank high low (furthest_with e es f)
    more None g =
        let a = h.0 in
        test (is_special_element e)
        (λ t. rw t (record { inner = omega arith; block = within_low rank (rank e.node) es low h.1 })) (λ t. rw t tt)
    more (Some f) g = record { inner = (h.0, g.inner); block = g.block }

pub furthest_ranks : (rank : ℕ → ℕ) (high : ℕ) (es : List OpenValue) (low : ℕ) (f : Furthest)
    → furthest_block es ≡ Some f → Within rank high es low → FurthestRanks rank high low f
furthest_ranks rank high es low f e h = subst (SomeRanks rank high low) e (some_ranks rank high es low h)

-- ---- the elements between

pub detach_size : (n : ℕ) (nodes : List NodeValue) → length (detach n nodes) ≡ length nodes
detach_size n nodes = by_parent (parent_at nodes n)
  where
    by_parent : (o : Option ℕ) → length (detach_from o n nodes) ≡ length nodes
    by_parent None = refl
    by_parent (Some p) = length-set (remove_child p n nodes) n _ ∙ length-set nodes p _

pub detach_kind : (n : ℕ) (nodes : List NodeValue) (m : ℕ) → kind_at (detach n nodes) m ≡ kind_at nodes m
detach_kind n nodes m = kind_by_kinds nodes (detach n nodes) m (kinds_detach n nodes)

-- what is made between hangs, but for what was made last: `r` is the rank of the furthest block, and `old` the ranks
-- before
pub record ChainHung (s : StateValue) (old : ℕ → ℕ) (r left : ℕ) (c : Chain) : Type 0 where
  pub some : 1 ≤ r
  pub rank : ℕ → ℕ
  pub torn : Torn (λ m. m ≡ c.last) rank c.state.nodes
  pub last_at : is_element (kind_at c.state.nodes c.last) ≡ true
  pub low : 8 * r + left ≤ rank c.last + 3
  pub high : rank c.last ≤ 8 * r
  pub copies : Within rank (8 * r) c.copies (rank c.last)
  pub copies_at : EachOpen (ElementOpen c.state.nodes) c.copies
  pub before : (m : ℕ) → m < length s.nodes → rank m ≡ 8 * old m
  pub spaced : (m : ℕ) → 8 * r < rank m → 8 * r + 8 ≤ rank m
  pub grows : (m : ℕ) → m < length s.nodes → kind_at c.state.nodes m ≡ kind_at s.nodes m
  pub size : length s.nodes ≤ length c.state.nodes
  pub forest : IsForest c.state.nodes
  pub same_stack : c.state.stack ≡ s.stack
  pub same_head : c.state.head ≡ s.head

module _ (s : StateValue) (old : ℕ → ℕ) (r : ℕ) where
  pub copied : (left : ℕ) (e : OpenValue) (c : Chain) → 1 ≤ left → is_element (kind_at c.state.nodes e.node)
      ≡ true → ChainHung s old r left c → ChainHung s old r (left - 1) (with_copy e c)
  copied left e c more_left at h = record {
    some = h.some;
    rank = rank;
    torn = put_torn (λ m. m ≡ n) rank c.last n (length (children_at out n)) out regrouped
        (let a = detach_size c.last more in
        let b = length_new k c.state.nodes in
        let w = element_number c.last c.state.nodes h.last_at in
        omega arith)
        (let a = detach_size c.last more in let b = length_new k c.state.nodes in (omega arith, inr new_element))
        (let a = own in let b = last_rank in let l = h.low in let z = h.some in omega arith);
    last_at = ap is_element (put_kind c.last n (length (children_at out n)) out n) ∙ new_element;
    low = let a = own in let z = h.some in omega arith;
    high = let a = own in let l = h.low in let g = h.high in let z = h.some in omega arith;
    copies = within_push rank (8 * r) c.copies (h.rank c.last) (opened n e.name)
        (within_mapped (λ n. n) (λ a b l. l) (λ a b l. l) h.rank rank (8 * r) c.copies (h.rank c.last)
        (each_more c.copies (λ x o. others x.node (element_number x.node c.state.nodes o)) h.copies_at) h.copies)
        (let a = own in let l = h.low in let z = h.some in omega arith);
    copies_at = each_append (ElementOpen new) c.copies (opened n e.name ∷ []) (each_more c.copies
        (λ x o. ap is_element (kept x.node (element_number x.node c.state.nodes o)) ∙ o) h.copies_at)
        (ap is_element (put_kind c.last n (length (children_at out n)) out n) ∙ new_element, tt);
    before = λ m l. let z = h.size in others m (omega arith) ∙ h.before m l;
    spaced = λ m l.
        test (m == n)
        (λ t. absurd (let a : rank m ≡ rank n = ap rank (eqb-true m n t) in
        let b = own in let x = h.low in let y = h.high in let z = h.some in omega arith))
        (λ t. let a = raised_other n (8 * r + left - 4) h.rank m (eqb-false m n t) in
        let b = h.spaced m (omega arith) in
        omega arith);
    grows = λ m l. let z = h.size in kept m (omega arith) ∙ h.grows m l;
    size =
        let a = put_size c.last n (length (children_at out n)) out in
        let b = detach_size c.last more in
        let d = length_new k c.state.nodes in
        let z = h.size in
        omega arith;
    forest = forest_attach c.last (last_in n) more
        (let w = element_number c.last c.state.nodes h.last_at in let d = length_new k c.state.nodes in omega arith)
        (forest_new k c.state.nodes h.forest);
    same_stack = h.same_stack;
    same_head = h.same_head;
  }
    where
      n : ℕ
      n = length c.state.nodes

      k : KindValue
      k = kind_at c.state.nodes e.node

      more : List NodeValue
      more = c.state.nodes ++ new_node k ∷ []

      out : List NodeValue
      out = detach c.last more

      new : List NodeValue
      new = put_at c.last n (length (children_at out n)) out

      rank : ℕ → ℕ
      rank = raised n (8 * r + left - 4) h.rank

      own : rank n ≡ 8 * r + left - 4
      own = raised_own n (8 * r + left - 4) h.rank

      others : (m : ℕ) → m < n → rank m ≡ h.rank m
      others m l = raised_other n (8 * r + left - 4) h.rank m (λ f. omega arith)

      last_rank : rank c.last ≡ h.rank c.last
      last_rank = others c.last (element_number c.last c.state.nodes h.last_at)

      new_element : is_element (kind_at out n) ≡ true
      new_element = ap is_element (detach_kind c.last more n ∙ kind_new_at k c.state.nodes) ∙ at

      kept : (m : ℕ) → m < n → kind_at new m ≡ kind_at c.state.nodes m
      kept m l =
          put_kind c.last n (length (children_at out n)) out m
          ∙ (detach_kind c.last more m ∙ kind_with_new m k c.state.nodes (λ f. omega arith))

      regrouped : Torn (λ m. (m ≡ c.last) ⊎ (m ≡ n)) rank out
      regrouped =
          torn_less (λ m. ⊎_elim (λ a. inl a) (⊎_elim (λ a. inr a) (λ a. inl a)))
          (detached_torn (λ m. (m ≡ n) ⊎ (m ≡ c.last)) rank c.last more
          (appended_torn (λ m. m ≡ c.last) h.rank rank k c.state.nodes
          (raised_order n (8 * r + left - 4) h.rank) h.torn))

  -- what isn't copied only goes from the list
  pub passed : (left : ℕ) (e : OpenValue) (c : Chain) → ChainHung s old r left c
      → ChainHung s old r (left - 1) (record c { state = on_formatting (without_entry e.node) c.state })
  passed left e c h = record {
    some = h.some;
    rank = h.rank;
    torn = h.torn;
    last_at = h.last_at;
    low = let l = h.low in omega arith;
    high = h.high;
    copies = h.copies;
    copies_at = h.copies_at;
    before = h.before;
    spaced = h.spaced;
    grows = h.grows;
    size = h.size;
    forest = h.forest;
    same_stack = h.same_stack;
    same_head = h.same_head;
  }

pub begun : (s : StateValue) (b : OpenValue) (rank : ℕ → ℕ) → AllHang rank s.nodes
    → is_element (kind_at s.nodes b.node) ≡ true → IsForest s.nodes → 1 ≤ rank b.node
    → ChainHung s rank (rank b.node) 3 (begin_chain b.node s)
begun s b rank all at forest some = record {
  some = some;
  rank = λ m. 8 * rank m;
  torn = λ m solid. inr (⊎_elim (λ z. inl z) (λ (h : HangsBy rank s.nodes m). inr (record {
    by = h.by;
    parent = h.parent;
    holder = h.holder;
    less = let l = h.less in omega arith;
  })) (all m solid));
  last_at = at;
  low = omega arith;
  high = omega arith;
  copies = omega arith;
  copies_at = tt;
  before = λ m l. refl;
  spaced = λ m l. omega arith;
  grows = λ m l. refl;
  size = omega arith;
  forest = forest;
  same_stack = refl;
  same_head = refl;
}
