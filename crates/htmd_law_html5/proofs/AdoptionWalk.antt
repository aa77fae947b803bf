-- One walk over the adoption agency algorithm: what holds of each of its steps holds of all of it.
use Rattle.std.proofs.Common.{◌≡◌, ℕ, zero, suc, ◌≤◌, Bool, true, false, List, [], ◌∷◌, Option, Some, None, refl, sym}
use Rattle.std.proofs.Common.{subst, arith}
use Rattle.std.specs.Prelude.{◌&&◌, ◌-◌, not, nat_lt}
use Rattle.std.specs.List.{list_any}
use Rattle.std.proofs.lemmas.Bool.{true≢false, and_parts, cond_both}
use Rattle.htmd_lexical.proofs.Cases.{test}
use Rattle.htmd_html5_state.specs.Names.{known}
use Rattle.htmd_html5_state.specs.OpenElements.{OpenValue, is_open_node, pop, close_name, inside, around, is_in}
use Rattle.htmd_html5_state.specs.OpenElements.{current_is}
use Rattle.htmd_html5_state.specs.Insertion.{current}
use Rattle.htmd_html5_state.specs.declared.sets.NameSet.TheVariants.{Only}
use Rattle.htmd_html5_state.specs.State.{StateValue, on_stack, on_formatting}
use Rattle.htmd_html5_state.specs.Formatting.{is_listed, without_entry}
use Rattle.htmd_html5_state.specs.Adoption.{formatting_element, bounds_any, is_special_element, Furthest, furthest_with}
use Rattle.htmd_html5_state.specs.Adoption.{furthest_block, Chain, with_copy, with_next, chain, adopt, Round}
use Rattle.htmd_html5_state.specs.Adoption.{last_round, goes_on, round_by, round_with, round_of, round, go_on, rounds}
use Rattle.htmd_html5_state.specs.Adoption.{closes_at_once, adoption_agency}
use Rattle.htmd_html5_state.specs.declared.names.TagName.{TagName}
use Rattle.htmd_law_html5.proofs.OpenNodes.{EachOpen}

-- ---- what is open inside the formatting element

pub record FurthestAt (P : OpenValue → Type 0) (f : Furthest) : Type 0 where
  pub inner : EachOpen P f.inner
  pub block : P f.block
  pub between : EachOpen P f.between

abbrev SomeAt : (OpenValue → Type 0) → Option Furthest → Type 0
SomeAt P None = Unit {0}
SomeAt P (Some f) = FurthestAt P f

some_at : (P : OpenValue → Type 0) (es : List OpenValue) → EachOpen P es → SomeAt P (furthest_block es)
some_at P [] h = tt
some_at P (e ∷ es) h = more (furthest_block es) (some_at P es h.1)
  where
    more : (f : Option Furthest) → SomeAt P f → SomeAt P (furthest_with e es f)
    more None g =
        test (is_special_element e) (λ t. rw t (record { inner = tt; block = h.0; between = h.1 })) (λ t. rw t tt)
    more (Some f) g = record { inner = (h.0, g.inner); block = g.block; between = g.between }

pub furthest_at : (P : OpenValue → Type 0) (es : List OpenValue) (f : Furthest) → furthest_block es ≡ Some f
    → EachOpen P es → FurthestAt P f
furthest_at P es f e h = subst (SomeAt P) e (some_at P es h)

-- ---- the elements between

-- what holds of what has been made of them (C), where so many may still be copied, if this holds of each of them (Q)
pub record ChainSteps (Q : OpenValue → Type 0) (C : ℕ → Chain → Type 0) : Type 0 where
  pub copied : (left : ℕ) (e : OpenValue) (c : Chain) → Q e → 1 ≤ left
      → is_listed e.node c.state.formatting ≡ true → C left c → C (left - 1) (with_copy e c)
  pub passed : (left : ℕ) (e : OpenValue) (c : Chain) → C left c
      → C (left - 1) (record c { state = on_formatting (without_entry e.node) c.state })

positive : (left : ℕ) → nat_lt 0 left ≡ true → 1 ≤ left
positive zero e = absurd (true≢false (sym e))
positive (suc left) e = omega arith

module _ {Q : OpenValue → Type 0} {C : ℕ → Chain → Type 0} (i : ChainSteps Q C) where
  next_holds : (left : ℕ) (e : OpenValue) (c : Chain) → Q e → C left c → C (left - 1) (with_next left e c)
  next_holds left e c q h =
      cond_both (nat_lt 0 left && is_listed e.node c.state.formatting) _ _ (λ x. C (left - 1) x)
      (λ t. let both = and_parts (nat_lt 0 left) (is_listed e.node c.state.formatting) t in
      i.copied left e c q (positive left both.0) both.1 h) (λ t. i.passed left e c h)

  pub chain_holds : (left : ℕ) (es : List OpenValue) (c : Chain) → EachOpen Q es → C left c
      → (still : ℕ) × C still (chain left es c)
  chain_holds left [] c q h = (left, h)
  chain_holds left (e ∷ es) c q h = chain_holds (left - 1) es (with_next left e c) q.1 (next_holds left e c q.0 h)

-- ---- the rounds

-- a formatting element that is open, and in scope
pub record InReach (tag : TagName) (formatting : ℕ) (s : StateValue) : Type 0 where
  pub found : formatting_element tag s ≡ Some formatting
  pub opened : is_open_node formatting s.stack ≡ true
  pub unbounded : list_any bounds_any (inside formatting s.stack) ≡ false

-- what holds of a state (P), and of what a step leaves of it (R)
pub record AdoptionSteps (tag : TagName) (P : StateValue → Type 0) (R : StateValue → StateValue → Type 0)
    : Type 0 where
  pub same : (s : StateValue) → P s → R s s
  pub after : {s t u : StateValue} → R s t → R t u → R s u
  pub holds : {s t : StateValue} → R s t → P t
  pub removed : (formatting : ℕ) (s : StateValue) → P s → R s (on_formatting (without_entry formatting) s)
  pub popped : (s : StateValue) → P s → closes_at_once tag s ≡ true → R s (on_stack pop s)
  pub closed : (s : StateValue) → P s → R s (on_stack (close_name (known tag)) s)
  pub left_around : (formatting : ℕ) (s : StateValue) → P s → InReach tag formatting s
      → R s (on_stack (around formatting) s)
  pub adopts : (formatting : ℕ) (s : StateValue) → P s → InReach tag formatting s → (f : Furthest)
      → furthest_block (inside formatting s.stack) ≡ Some f
      → R s (adopt formatting tag f (on_stack (around formatting) s))

unfoldable pub after_round : Round → StateValue
after_round (last_round s) = s
after_round (goes_on s) = s

module _ {tag : TagName} {P : StateValue → Type 0} {R : StateValue → StateValue → Type 0}
    (i : AdoptionSteps tag P R) where
  by_holds : (formatting : ℕ) (s : StateValue) → P s → InReach tag formatting s → (f : Option Furthest)
      → furthest_block (inside formatting s.stack) ≡ f
      → R s (after_round (round_by formatting tag f (on_stack (around formatting) s)))
  unfolding after_round
  by_holds formatting s h o None e =
      let a = i.left_around formatting s h o in
      i.after a (i.removed formatting (on_stack (around formatting) s) (i.holds a))
  by_holds formatting s h o (Some f) e = i.adopts formatting s h o f e

  with_holds : (formatting : ℕ) (s : StateValue) → P s → formatting_element tag s ≡ Some formatting
      → R s (after_round (round_with tag formatting s))
  unfolding after_round
  with_holds formatting s h e =
      cond_both (not (is_open_node formatting s.stack)) _ _ (λ r. R s (after_round r)) (λ l. i.removed formatting s h)
      (λ l. cond_both (list_any bounds_any (inside formatting s.stack)) _ _ (λ r. R s (after_round r))
      (λ o. i.same s h) (λ o. by_holds formatting s h (record
      { found = e; opened = opened (is_open_node formatting s.stack) l; unbounded = o })
      (furthest_block (inside formatting s.stack)) refl))
    where
      opened : (b : Bool) → not b ≡ false → b ≡ true
      opened true l = refl
      opened false l = absurd (true≢false l)

  of_holds : (o : Option ℕ) (s : StateValue) → P s → formatting_element tag s ≡ o
      → R s (after_round (round_of tag o s))
  unfolding after_round
  of_holds None s h e = i.closed s h
  of_holds (Some formatting) s h e = with_holds formatting s h e

  go_on_holds : (s : StateValue) (more : StateValue → StateValue) (r : Round)
      → ((t : StateValue) → P t → R t (more t)) → R s (after_round r) → R s (go_on more r)
  unfolding after_round
  go_on_holds s more (last_round t) f h = h
  go_on_holds s more (goes_on t) f h = i.after h (f t (i.holds h))

  rounds_hold : (k : ℕ) (s : StateValue) → P s → R s (rounds k tag s)
  rounds_hold zero s h = i.same s h
  rounds_hold (suc k) s h =
      go_on_holds s (rounds k tag) (round tag s) (λ t g. rounds_hold k t g)
      (of_holds (formatting_element tag s) s h refl)

  pub agency_holds : (s : StateValue) → P s → R s (adoption_agency tag s)
  agency_holds s h = cond_both (closes_at_once tag s) _ _ (λ x. R s x) (λ e. i.popped s h e) (λ e. rounds_hold 8 s h)

-- an element that is popped at once is the current node
pub current_in : (tag : TagName) (stack : List OpenValue) → is_in (Only tag) (current stack) ≡ true
    → current_is (Only tag) stack ≡ true
current_in tag [] e = e
current_in tag (x ∷ xs) e = e
