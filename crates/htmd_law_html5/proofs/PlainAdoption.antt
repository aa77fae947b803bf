-- The adoption agency leaves a plain state plain.
use Rattle.std.proofs.Common.{◌≡◌, ◌∙◌, ℕ, suc, Bool, true, List, [], ◌∷◌, ◌++◌, length, Option}
use Rattle.std.proofs.Common.{Some, None, refl, sym, ap, subst, arith}
use Rattle.std.specs.Prelude.{find}
use Rattle.std.proofs.lemmas.Bool.{true≢false, eq-eqb}
use Rattle.htmd_lexical.proofs.Cases.{test}
use Rattle.htmd_html5_state.specs.Names.{known, html}
use Rattle.htmd_html5_state.specs.Nodes.{NodeValue, KindValue, element, kind_at, new_node, last_in, detach}
use Rattle.htmd_html5_state.specs.OpenElements.{pop, close_name, inside, around}
use Rattle.htmd_html5_state.specs.State.{StateValue, on_nodes, on_stack}
use Rattle.htmd_html5_state.specs.Insertion.{opened, place}
use Rattle.htmd_html5_state.specs.Formatting.{is_listed, since_marker}
use Rattle.htmd_html5_state.specs.Adoption.{node_is, Furthest, furthest_block, Chain, begin_chain, copy_into, chain}
use Rattle.htmd_html5_state.specs.Adoption.{move_last, finish, adopt, adoption_agency}
use Rattle.htmd_html5_state.specs.declared.names.TagName.{TagName}
use Rattle.htmd_law_html5.proofs.NodeTexts.{kinds, is_element, kinds_new, kinds_put, kinds_attach, kinds_detach}
use Rattle.htmd_law_html5.proofs.NodeTexts.{kind_read}
use Rattle.htmd_law_html5.proofs.NamedKinds.{grows_new}
use Rattle.htmd_law_html5.proofs.KeepingInsertion.{listed_more, listed_replaced}
use Rattle.htmd_law_html5.proofs.KeepingAdoption.{wrap_kinds, listed_marked}
use Rattle.htmd_law_html5.proofs.OpenNodes.{each_append, pop_fewer, close_name_fewer, inside_fewer, around_fewer}
use Rattle.htmd_law_html5.proofs.PlainNames.{is_plain, is_plain_element, is_plain_kind, PlainOpen, is_plain_open}
use Rattle.htmd_law_html5.proofs.PlainNames.{PlainStack}
use Rattle.htmd_law_html5.proofs.PlainStates.{PlainAt, Plain, Stays, on_stack_stays, plain_kinds, plain_stack}
use Rattle.htmd_law_html5.proofs.PlainStates.{plain_added, plain_new, plain_listed, without_entry_stays, Grown}
use Rattle.htmd_law_html5.proofs.PlainStates.{grown_then}
use Rattle.htmd_law_html5.proofs.HungChains.{furthest_ranks, around_below, inside_within, ChainHung, begun, copied}
use Rattle.htmd_law_html5.proofs.HungChains.{passed}
use Rattle.htmd_law_html5.proofs.HungAdoption.{RoundHung, finish_hung}
use Rattle.htmd_law_html5.proofs.HungStates.{ElementOpen, is_element_open, Hung, hung_fewer}
use Rattle.htmd_law_html5.proofs.AdoptionWalk.{FurthestAt, furthest_at, ChainSteps, chain_holds, InReach}
use Rattle.htmd_law_html5.proofs.AdoptionWalk.{AdoptionSteps, agency_holds}

-- ---- the elements between

-- what a chain has made of a state is plain
pub record Chained (s : StateValue) (c : Chain) : Type 0 where
  pub grown : Grown s c.state
  pub copies : PlainStack c.copies

pub copy_kinds : (n last : ℕ) (s : StateValue)
    → kinds (copy_into n last s).nodes ≡ kinds s.nodes ++ kind_at s.nodes n ∷ []
copy_kinds n last s =
    kinds_attach last (last_in (length s.nodes)) (s.nodes ++ new_node (kind_at s.nodes n) ∷ [])
    ∙ kinds_new s.nodes (kind_at s.nodes n)

copy_grown : (n last : ℕ) (s : StateValue) → PlainAt (kinds s.nodes) n → Plain s → Grown s (copy_into n last s)
copy_grown n last s p h = record {
  plain = plain_listed (length s.nodes)
      (plain_added s.nodes (kind_at s.nodes n) (copy_kinds n last s) (ap is_plain_kind (kind_read s.nodes n) ∙ p))
      (λ m l. listed_replaced m n (length s.nodes) s.formatting l)
      (plain_new (kind_at s.nodes n) (copy_kinds n last s) h);
  grows = (grows_new (kind_at s.nodes n) (copy_kinds n last s)).names is_plain_element;
}

pub plain_chain : (s : StateValue) → ChainSteps PlainOpen (λ left c. Chained s c)
plain_chain s = record {
  copied = λ left e c p more listed h. record {
    grown = grown_then h.grown
        (copy_grown e.node c.last c.state (h.grown.plain.entries_at e.node listed) h.grown.plain);
    copies = each_append PlainOpen c.copies (opened (length c.state.nodes) e.name ∷ []) h.copies (p, tt);
  };
  passed = λ left e c h. record {
    grown = grown_then h.grown
        (record { plain = (without_entry_stays e.node).stays c.state h.grown.plain; grows = λ n q. q });
    copies = h.copies;
  };
}

-- ---- a round

move_grown : (last : ℕ) (s : StateValue) → Plain s → Grown s (move_last last s)
unfolding move_last
move_grown last s h =
    record { plain = plain_kinds same h; grows = λ n p. subst (λ (ks : List KindValue). PlainAt ks n) (sym same) p }
  where
    same : kinds (move_last last s).nodes ≡ kinds s.nodes
    same = kinds_put last (place (on_nodes (detach last) s)) (detach last s.nodes) ∙ kinds_detach last s.nodes

finish_plain : (formatting : ℕ) (tag : TagName) (f : Furthest) (c : Chain) (s : StateValue) → is_plain tag ≡ true
    → PlainAt (kinds s.nodes) formatting → FurthestAt PlainOpen f → PlainStack c.copies → Plain s
    → Plain (finish formatting tag f c s)
finish_plain formatting tag f c s p at names copies h =
    plain_listed (length s.nodes)
    (plain_added s.nodes (kind_at s.nodes formatting) (wrap_kinds formatting f.block.node s.nodes)
    (ap is_plain_kind (kind_read s.nodes formatting) ∙ at))
    (λ n l. listed_marked n formatting (length s.nodes) c.bookmark s.formatting l)
    (plain_stack (f.inner ++ opened (length s.nodes) (html (known tag)) ∷ f.block ∷ (c.copies ++ s.stack))
    (each_append PlainOpen f.inner
    (opened (length s.nodes) (html (known tag)) ∷ f.block ∷ (c.copies ++ s.stack)) names.inner
    (p, (names.block, each_append PlainOpen c.copies s.stack copies h.names)))
    (plain_new (kind_at s.nodes formatting) (wrap_kinds formatting f.block.node s.nodes) h))

pub adopt_plain : (formatting : ℕ) (tag : TagName) (f : Furthest) (s : StateValue) → is_plain tag ≡ true
    → PlainAt (kinds s.nodes) formatting → FurthestAt PlainOpen f → Plain s → Plain (adopt formatting tag f s)
adopt_plain formatting tag f s p at names h =
    let chained : Chained s (chain 3 f.between (begin_chain f.block.node s)) =
    (chain_holds (plain_chain s) 3 f.between (begin_chain f.block.node s) names.between
    (record { grown = record { plain = h; grows = λ n q. q }; copies = tt })).1 in
    let moved : Grown s (move_last (chain 3 f.between (begin_chain f.block.node s)).last
    (chain 3 f.between (begin_chain f.block.node s)).state) =
    grown_then chained.grown (move_grown (chain 3 f.between (begin_chain f.block.node s)).last
    (chain 3 f.between (begin_chain f.block.node s)).state chained.grown.plain) in
    finish_plain formatting tag f (chain 3 f.between (begin_chain f.block.node s))
    (move_last (chain 3 f.between (begin_chain f.block.node s)).last
    (chain 3 f.between (begin_chain f.block.node s)).state) p (moved.grows formatting at) names chained.copies
    moved.plain

-- what is found after the last marker is listed
pub found_listed : (p : ℕ → Bool) (entries : List (Option ℕ)) (n : ℕ)
    → find p (since_marker entries) ≡ Some n → is_listed n entries ≡ true
found_listed p [] n e = absurd (cc)
found_listed p (None ∷ entries) n e = absurd (cc)
found_listed p (Some m ∷ entries) n e =
    test (p m) (λ t. let same : m ≡ n = first m n (rw t at e) in rw (eq-eqb m n same) refl)
    (λ t. listed_more n (Some m) entries (found_listed p entries n (rw t at e)))
  where
    first : (m n : ℕ) → Some m ≡ Some n → m ≡ n
    first m n e = cc

pub names_at : (formatting : ℕ) (f : Furthest) (s : StateValue)
    → furthest_block (inside formatting s.stack) ≡ Some f → Plain s → FurthestAt PlainOpen f
names_at formatting f s e h =
    furthest_at PlainOpen (inside formatting s.stack) f e ((inside_fewer formatting s.stack).each is_plain_open h.names)

plain_steps : (tag : TagName) → is_plain tag ≡ true → AdoptionSteps tag Plain (λ s t. Plain t)
plain_steps tag p = record {
  same = λ s h. h;
  after = λ a b. b;
  holds = λ h. h;
  removed = λ formatting s h. (without_entry_stays formatting).stays s h;
  popped = λ s h e. (on_stack_stays pop pop_fewer).stays s h;
  closed = λ s h. (on_stack_stays (close_name (known tag)) (close_name_fewer (known tag))).stays s h;
  left_around = λ formatting s h o. (on_stack_stays (around formatting) (around_fewer formatting)).stays s h;
  adopts = λ formatting s h o f e.
      adopt_plain formatting tag f (on_stack (around formatting) s) p
      (h.entries_at formatting (found_listed (node_is s.nodes tag) s.formatting formatting o.found))
      (names_at formatting f s e h) ((on_stack_stays (around formatting) (around_fewer formatting)).stays s h);
}

-- ---- what hangs under the Document hangs there still

plain_is_element : (k : KindValue) → is_plain_kind k ≡ true → is_element k ≡ true
plain_is_element (element name attributes) p = refl
plain_is_element _ p = absurd (true≢false (sym p))

pub element_at : (nodes : List NodeValue) (n : ℕ) → PlainAt (kinds nodes) n → is_element (kind_at nodes n)
    ≡ true
element_at nodes n p = plain_is_element (kind_at nodes n) (ap is_plain_kind (kind_read nodes n) ∙ p)

pub hung_chain : (s : StateValue) (old : ℕ → ℕ) (r : ℕ)
    → ChainSteps PlainOpen (λ left c. Chained s c × ChainHung s old r left c)
hung_chain s old r = record {
  copied = λ left e c p more listed h. (
    (plain_chain s).copied left e c p more listed h.0,
    copied s old r left e c more (element_at c.state.nodes e.node (h.0.grown.plain.entries_at e.node listed)) h.1,
  );
  passed = λ left e c h. ((plain_chain s).passed left e c h.0, passed s old r left e c h.1);
}

pub made_hung : (formatting : ℕ) (f : Furthest) (s : StateValue) → FurthestAt PlainOpen f → Plain s
    → (x : RoundHung formatting f s)
    → (left : ℕ) × ChainHung s x.rank (x.rank f.block.node) left (chain 3 f.between (begin_chain f.block.node s))
made_hung formatting f s names h x =
    let made = chain_holds (hung_chain s x.rank (x.rank f.block.node)) 3 f.between (begin_chain f.block.node s)
    names.between (
      record { grown = record { plain = h; grows = λ n q. q }; copies = tt },
      begun s f.block x.rank x.hangs x.furthest.block x.forest (let a = x.ranks.block in omega arith),
    ) in
    (made.0, (made.1).1)

-- a round finds these
pub round_hung : (formatting : ℕ) (tag : TagName) (f : Furthest) (s : StateValue) → InReach tag formatting s
    → furthest_block (inside formatting s.stack) ≡ Some f → Plain s → Hung s
    → RoundHung formatting f (on_stack (around formatting) s)
round_hung formatting tag f s o e h x = record {
  rank = x.rank;
  limit = x.limit;
  at_root = x.at_root;
  order = around_below x.rank x.limit formatting s.stack o.opened x.order;
  ranks = furthest_ranks x.rank x.limit (inside formatting s.stack) (suc (x.rank formatting)) f e
      (inside_within x.rank x.limit formatting s.stack o.opened x.order);
  hangs = x.hangs;
  opened_at = (around_fewer formatting s.stack).each (is_element_open s.nodes) x.opened_at;
  furthest = furthest_at (ElementOpen s.nodes) (inside formatting s.stack) f e
      ((inside_fewer formatting s.stack).each (is_element_open s.nodes) x.opened_at);
  formatting_at = element_at s.nodes formatting
      (h.entries_at formatting (found_listed (node_is s.nodes tag) s.formatting formatting o.found));
  head_at = x.head_at;
  forest = x.forest;
  filled = x.filled;
  root = x.root;
}

pub hung_steps : (tag : TagName) → is_plain tag ≡ true
    → AdoptionSteps tag (λ s. Plain s × Hung s) (λ s t. Plain t × Hung t)
hung_steps tag p =
    let plain = plain_steps tag p in
    record {
      same = λ s h. h;
      after = λ a b. b;
      holds = λ h. h;
      removed = λ formatting s h. (plain.removed formatting s h.0, h.1);
      popped = λ s h e. (plain.popped s h.0 e, hung_fewer (pop s.stack) (pop_fewer s.stack) h.1);
      closed = λ s h.
          (plain.closed s h.0, hung_fewer (close_name (known tag) s.stack) (close_name_fewer (known tag) s.stack) h.1);
      left_around = λ formatting s h o. (
        plain.left_around formatting s h.0 o,
        hung_fewer (around formatting s.stack) (around_fewer formatting s.stack) h.1,
      );
      adopts = λ formatting s h o f e.
          let around_plain = plain.left_around formatting s h.0 o in
          let round = round_hung formatting tag f s o e h.0 h.1 in
          let made = made_hung formatting f (on_stack (around formatting) s) (names_at formatting f s e h.0)
          around_plain
          round in (
            plain.adopts formatting s h.0 o f e,
            finish_hung formatting tag f (on_stack (around formatting) s) round made.0
                (chain 3 f.between (begin_chain f.block.node (on_stack (around formatting) s))) made.1,
          );
    }

pub adoption_agency_stays : (tag : TagName) → is_plain tag ≡ true → Stays (adoption_agency tag)
adoption_agency_stays tag p = record {
  stays = λ s h. agency_holds (plain_steps tag p) s h;
  hangs = λ s h x. (agency_holds (hung_steps tag p) s (h, x)).1;
}
