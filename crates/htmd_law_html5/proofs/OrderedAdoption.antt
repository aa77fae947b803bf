-- The adoption agency leaves the letters in order.
use Rattle.std.proofs.Common.{◌≡◌, ◌∙◌, ℕ, suc, ◌<◌, ◌≤◌, Bool, true, false, List, [], ◌∷◌, ◌++◌, length, refl, sym, ap}
use Rattle.std.proofs.Math.Bool.{and-false}
use Rattle.std.proofs.Common.{subst, arith, inl, inr, ◌⊎◌, ⊎_elim}
use Rattle.std.specs.Prelude.{◌&&◌, nat_lt}
use Rattle.std.proofs.lemmas.Bool.{eq-eqb, ne_eqb}
use Rattle.htmd_html5_state.specs.Names.{known, html}
use Rattle.htmd_html5_state.specs.Nodes.{NodeValue, kind_at, children_at, new_node, last_in, detach, put}
use Rattle.htmd_html5_state.specs.OpenElements.{OpenValue, pop, close_name, inside, around}
use Rattle.htmd_html5_state.specs.State.{StateValue, on_nodes, on_stack}
use Rattle.htmd_html5_state.specs.Insertion.{opened, current, place}
use Rattle.htmd_html5_state.specs.Adoption.{Furthest, Chain, begin_chain, with_copy, chain, move_last, wrap_children}
use Rattle.htmd_html5_state.specs.Adoption.{adopt, adoption_agency}
use Rattle.htmd_html5_state.specs.declared.names.TagName.{TagName}
use Rattle.htmd_law_html5.proofs.NodeTexts.{is_element}
use Rattle.htmd_law_html5.proofs.Forests.{IsForest, length_new, forest_new, forest_attach, forest_detached_put}
use Rattle.htmd_law_html5.proofs.OpenNodes.{EachOpen, Below, each_more, each_append, pop_fewer, close_name_fewer}
use Rattle.htmd_law_html5.proofs.OpenNodes.{inside_fewer, around_fewer}
use Rattle.htmd_law_html5.proofs.HungNodes.{put_kind, put_size}
use Rattle.htmd_law_html5.proofs.HungStates.{ElementOpen, Hung, element_number}
use Rattle.htmd_law_html5.proofs.HungChains.{Within, within_low, ChainHung, begun, detach_size, detach_kind}
use Rattle.htmd_law_html5.proofs.HungAdoption.{RoundHung, each_both}
use Rattle.htmd_law_html5.proofs.PlainNames.{is_plain, PlainOpen}
use Rattle.htmd_law_html5.proofs.PlainStates.{Plain}
use Rattle.htmd_law_html5.proofs.PlainAdoption.{Chained, element_at, hung_chain, hung_steps, names_at, round_hung}
use Rattle.htmd_law_html5.proofs.PlainAdoption.{adoption_agency_stays}
use Rattle.htmd_law_html5.proofs.OrderedNodes.{Labels, FitsBy, none_out, Ranked, lt_false}
use Rattle.htmd_law_html5.proofs.OrderedPaths.{Alive, parted, parted_fits, front_ends}
use Rattle.htmd_law_html5.proofs.OrderedMoves.{Apart, apart_copied, copied_labels, fits_placed, fits_wrapped}
use Rattle.htmd_law_html5.proofs.OrderedMoves.{wrapped_labels}
use Rattle.htmd_law_html5.proofs.OrderedStates.{current_live, stack_still, opens_still, OrderedIn, Ordered, Orders}
use Rattle.htmd_law_html5.proofs.OrderedStates.{ordered_fewer, low_ranks, place_last}
use Rattle.htmd_law_html5.proofs.Counted.{Choice}
use Rattle.htmd_law_html5.proofs.AdoptionWalk.{FurthestAt, furthest_at, ChainSteps, chain_holds, AdoptionSteps}
use Rattle.htmd_law_html5.proofs.AdoptionWalk.{agency_holds}

module _ (choice : Choice) where
  -- ---- the elements between

  -- what was made last is apart from the nodes, and what is open is live
  record ChainApart (letters : List ℕ) (s : StateValue) (p : ℕ) (base : Labels) (c : Chain) : Type 0 where
    labels : Labels
    apart : Apart choice letters c.state.nodes p c.last labels
    copies : EachOpen (λ e. labels.live e.node ≡ true) c.copies
    still : (m : ℕ) → m < length s.nodes → base.live m ≡ true → labels.live m ≡ true
    other : p ≡ c.last → ⊥
    within : p < length c.state.nodes
    no_fostering : c.state.foster_parenting ≡ false

  module _ (letters : List ℕ) (s : StateValue) (p : ℕ) (base : Labels) (old : ℕ → ℕ) (r : ℕ) where
    copy_apart : (left : ℕ) (e : OpenValue) (c : Chain) → is_element (kind_at c.state.nodes e.node) ≡ true
        → ChainHung s old r left c → ChainApart letters s p base c → ChainApart letters s p base (with_copy e c)
    copy_apart left e c is h a =
        let last_in_nodes = element_number c.last c.state.nodes h.last_at in
        let k = kind_at c.state.nodes e.node in
        let forest = forest_attach c.last (last_in (length c.state.nodes)) (c.state.nodes ++ new_node k ∷ [])
        (let w = length_new k c.state.nodes in omega arith) (forest_new k c.state.nodes h.forest) in
        record {
          labels = copied_labels choice letters c.state.nodes a.labels p c.last a.apart a.within last_in_nodes a.other
              k is forest;
          apart = apart_copied choice letters c.state.nodes a.labels p c.last a.apart a.within last_in_nodes a.other k
              is forest;
          copies = each_append
              (λ x. (copied_labels choice letters c.state.nodes a.labels p c.last a.apart a.within last_in_nodes
              a.other k is forest).live x.node ≡ true) c.copies (opened (length c.state.nodes) e.name ∷ [])
              (stack_still a.labels.live _ c.state.nodes c.copies
              (λ m l e. rw (ne_eqb m (length c.state.nodes) (λ f. omega arith)) e) h.copies_at a.copies)
              (rw (eq-eqb (length c.state.nodes) (length c.state.nodes) refl) refl, tt);
          still = λ m l e.
              let size = h.size in rw (ne_eqb m (length c.state.nodes) (λ f. omega arith)) (a.still m l e);
          other = λ f. let w = a.within in omega arith;
          within =
              let x = put_size c.last (length c.state.nodes)
              (length (children_at (detach c.last (c.state.nodes ++ new_node k ∷ [])) (length c.state.nodes)))
              (detach c.last (c.state.nodes ++ new_node k ∷ [])) in
              let y = detach_size c.last (c.state.nodes ++ new_node k ∷ []) in
              let z = length_new k c.state.nodes in
              let w = a.within in
              omega arith;
          no_fostering = a.no_fostering;
        }

    apart_chain : ChainSteps PlainOpen
        (λ left c. (Chained s c × ChainHung s old r left c) × ChainApart letters s p base c)
    apart_chain =
        let hung = hung_chain s old r in
        record {
          copied = λ left e c q more listed h. (
            hung.copied left e c q more listed h.0,
            copy_apart left e c (element_at c.state.nodes e.node (h.0.0.grown.plain.entries_at e.node listed)) h.0.1
                h.1,
          );
          passed = λ left e c h. (
            hung.passed left e c h.0,
            record {
              labels = h.1.labels;
              apart = h.1.apart;
              copies = h.1.copies;
              still = h.1.still;
              other = h.1.other;
              within = h.1.within;
              no_fostering = h.1.no_fostering;
            },
          );
        }

  -- ---- a round

  module _ (letters : List ℕ) (formatting : ℕ) (tag : TagName) (f : Furthest) (s : StateValue)
      (names : FurthestAt PlainOpen f) (plain : Plain s) (x : RoundHung formatting f s) (o : Ordered choice letters s)
      (inner : EachOpen (λ e. o.labels.live e.node ≡ true) f.inner)
      (block : o.labels.live f.block.node ≡ true) where
    abbrev b : ℕ
    b = f.block.node

    abbrev p : ℕ
    p = (current s.stack).node

    ranked : Ranked x.rank s.nodes
    ranked = record { hangs = x.hangs; forest = x.forest; root = x.root }

    less : x.rank p < x.rank b
    less = by_stack s.stack x.order
      where
        by_stack : (stack : List OpenValue) → Below x.rank (x.rank formatting) stack
            → x.rank (current stack).node < x.rank b
        by_stack [] order = let z = x.at_root in let y = x.ranks.block in omega arith
        by_stack (e ∷ es) order = let z = order.0 in let y = x.ranks.block in omega arith

    alive : Alive choice x.rank letters s.nodes o.labels o.fits ranked x.at_root p
    alive = record {
      live = current_live o.labels.live s.stack o.root o.opens;
      either = either s.stack x.opened_at;
    }
      where
        either : (stack : List OpenValue) → EachOpen (ElementOpen s.nodes) stack
            → ((current stack).node ≡ 0) ⊎ (is_element (kind_at s.nodes (current stack).node) ≡ true)
        either [] opens = inl refl
        either (e ∷ es) opens = inr opens.0

    p_within : p < length s.nodes
    p_within =
        ⊎_elim (λ z. subst (λ (n : ℕ). n < length s.nodes) (sym z) x.filled) (λ e. element_number p s.nodes e)
        alive.either

    abbrev base : Labels
    base = parted choice x.rank letters s.nodes o.labels o.fits ranked x.at_root p b alive block x.furthest.block less

    -- at most as deep as the common ancestor, or as deep as the block
    live_low : (m : ℕ) → o.labels.live m ≡ true → x.rank m ≤ x.rank p → base.live m ≡ true
    live_low m e l =
        rw (e, lt_false (x.rank p) (x.rank m) l, and-false (is_element (kind_at s.nodes m))) refl

    live_high : (m : ℕ) → o.labels.live m ≡ true → x.rank b ≤ x.rank m → base.live m ≡ true
    live_high m e l =
        rw (
          e,
          lt_false (x.rank m) (x.rank b) l,
          and-false (nat_lt (x.rank p) (x.rank m)),
          and-false (is_element (kind_at s.nodes m)),
        ) refl

    begun_apart : ChainApart letters s p base (begin_chain b s)
    begun_apart = record {
      labels = base;
      apart = record {
        fits = parted_fits choice x.rank letters s.nodes o.labels o.fits ranked x.at_root p b alive block
            x.furthest.block less;
        front =
            front_ends choice x.rank letters s.nodes o.labels o.fits ranked x.at_root p b alive block x.furthest.block
            less;
        live_last = live_high b block (omega arith);
        live_at = live_low p alive.live (omega arith);
      };
      copies = tt;
      still = λ m l e. e;
      other = λ e. let y = less in let z : x.rank p ≡ x.rank b = ap x.rank e in omega arith;
      within = p_within;
      no_fostering = o.no_fostering;
    }

    abbrev made : Chain
    made = chain 3 f.between (begin_chain b s)

    all_made : (left : ℕ) × ((Chained s made × ChainHung s x.rank (x.rank b) left made)
        × ChainApart letters s p base made)
    all_made =
        chain_holds (apart_chain letters s p base x.rank (x.rank b)) 3 f.between (begin_chain b s) names.between (
          (
            record { grown = record { plain = plain; grows = λ n q. q }; copies = tt },
            begun s f.block x.rank x.hangs x.furthest.block x.forest (let a = x.ranks.block in omega arith),
          ),
          begun_apart,
        )

    made_apart : ChainApart letters s p base made
    made_apart = (all_made.1).1

    made_hung : ChainHung s x.rank (x.rank b) all_made.0 made
    made_hung = ((all_made.1).0).1

    last_within : made.last < length made.state.nodes
    last_within = element_number made.last made.state.nodes made_hung.last_at

    abbrev back : List NodeValue
    back = put made.last (last_in p) (detach made.last made.state.nodes)

    back_forest : IsForest back
    back_forest = forest_detached_put made.last (last_in p) made.state.nodes last_within made_hung.forest

    back_fits : FitsBy choice none_out letters back made_apart.labels
    back_fits =
        fits_placed choice letters made.state.nodes made_apart.labels p made.last made_apart.apart made_apart.within
        last_within made_apart.other back_forest

    back_kind : (m : ℕ) → m < length s.nodes → kind_at back m ≡ kind_at s.nodes m
    back_kind m l =
        put_kind made.last p _ (detach made.last made.state.nodes) m
        ∙ (detach_kind made.last made.state.nodes m ∙ made_hung.grows m l)

    back_size : length back ≡ length made.state.nodes
    back_size = put_size made.last p _ (detach made.last made.state.nodes) ∙ detach_size made.last made.state.nodes

    formatting_at : is_element (kind_at back formatting) ≡ true
    formatting_at =
        ap is_element (back_kind formatting (element_number formatting s.nodes x.formatting_at)) ∙ x.formatting_at

    block_within : b < length back
    block_within =
        let a = element_number b s.nodes x.furthest.block in
        let c = back_size in
        let d = made_hung.size in
        omega arith

    block_live : made_apart.labels.live b ≡ true
    block_live = made_apart.still b (element_number b s.nodes x.furthest.block) (live_high b block (omega arith))

    abbrev after_labels : Labels
    after_labels =
        wrapped_labels choice letters back made_apart.labels back_fits back_forest formatting b formatting_at
        block_within block_live

    after_fits : FitsBy choice none_out letters (wrap_children formatting b back) after_labels
    after_fits =
        fits_wrapped choice letters back made_apart.labels back_fits back_forest formatting b formatting_at block_within
        block_live

    old_live : (m : ℕ) → m < length s.nodes → base.live m ≡ true → after_labels.live m ≡ true
    old_live m l e =
        let c = back_size in
        let d = made_hung.size in
        rw (ne_eqb m (length back) (λ g. omega arith)) (made_apart.still m l e)

    inner_live : EachOpen (λ e. after_labels.live e.node ≡ true) f.inner
    inner_live =
        each_more f.inner (λ e y. old_live e.node (element_number e.node s.nodes y.0) (live_high e.node y.1.0 y.1.1))
        (each_both (ElementOpen s.nodes) (λ e. (o.labels.live e.node ≡ true) × (x.rank b ≤ x.rank e.node)) f.inner
        x.furthest.inner
        (each_both (λ e. o.labels.live e.node ≡ true) (λ e. x.rank b ≤ x.rank e.node) f.inner inner
        (each_more f.inner (λ e l. omega arith) (within_above x.rank x.limit (suc (x.rank b)) f.inner x.ranks.inner))))
      where
        within_above : (rank : ℕ → ℕ) (high low : ℕ) (es : List OpenValue) → Within rank high es low
            → EachOpen (λ e. low ≤ rank e.node) es
        within_above rank high low [] h = tt
        within_above rank high low (e ∷ es) h =
            (within_low rank (rank e.node) es low h.1, within_above rank (rank e.node) low es h.1)

    copies_live : EachOpen (λ e. after_labels.live e.node ≡ true) made.copies
    copies_live =
        stack_still made_apart.labels.live after_labels.live made.state.nodes made.copies
        (λ m l e. let c = back_size in rw (ne_eqb m (length back) (λ g. omega arith)) e) made_hung.copies_at
        made_apart.copies

    around_live : EachOpen (λ e. after_labels.live e.node ≡ true) s.stack
    around_live =
        opens_still o.labels.live after_labels.live x.rank p s.nodes s.stack
        (λ m l e low. old_live m l (live_low m e low)) x.opened_at
        (low_ranks x.rank (x.rank formatting) s.stack x.order)
        o.opens

    whole_live : EachOpen (λ e. after_labels.live e.node ≡ true)
        (f.inner ++ opened (length back) (html (known tag)) ∷ f.block ∷ (made.copies ++ s.stack))
    whole_live =
        each_append (λ e. after_labels.live e.node ≡ true) f.inner
        (opened (length back) (html (known tag)) ∷ f.block ∷ (made.copies ++ s.stack)) inner_live (
          rw (eq-eqb (length back) (length back) refl) refl,
          (
            old_live b (element_number b s.nodes x.furthest.block) (live_high b block (omega arith)),
            each_append (λ e. after_labels.live e.node ≡ true) made.copies s.stack copies_live around_live,
          ),
        )

    adopted : OrderedIn choice letters (wrap_children formatting b back)
        (f.inner ++ opened (length back) (html (known tag)) ∷ f.block ∷ (made.copies ++ s.stack)) false
    adopted = record {
      labels = after_labels;
      fits = after_fits;
      root = old_live 0 x.filled (live_low 0 o.root (let z = x.at_root in omega arith));
      opens = whole_live;
      no_fostering = refl;
    }

    -- where it is put
    there : place (on_nodes (detach made.last) made.state) ≡ last_in p
    there =
        place_last (on_nodes (detach made.last) made.state) made_apart.no_fostering
        ∙ ap (λ (stack : List OpenValue). last_in (current stack).node) made_hung.same_stack

    adopt_ordered : Ordered choice letters (adopt formatting tag f s)
    unfolding move_last
    adopt_ordered =
        subst (λ (fosters : Bool). OrderedIn choice letters (adopt formatting tag f s).nodes
        (adopt formatting tag f s).stack fosters) (sym made_apart.no_fostering)
        (subst (λ (at : _). OrderedIn choice letters
        (wrap_children formatting b (put made.last at (detach made.last made.state.nodes)))
        (f.inner ++ opened (length (put made.last at (detach made.last made.state.nodes))) (html (known tag))
        ∷ f.block ∷ (made.copies ++ made.state.stack)) false) (sym there)
        (subst (λ (stack : List OpenValue). OrderedIn choice letters (wrap_children formatting b back)
        (f.inner ++ opened (length back) (html (known tag)) ∷ f.block ∷ (made.copies ++ stack)) false)
        (sym made_hung.same_stack) adopted))

  -- ---- the rounds

  ordered_steps : (letters : List ℕ) (tag : TagName) → is_plain tag ≡ true
      → AdoptionSteps tag (λ s. (Plain s × Hung s) × Ordered choice letters s)
      (λ s t. (Plain t × Hung t) × Ordered choice letters t)
  ordered_steps letters tag p =
      let hung = hung_steps tag p in
      record {
        same = λ s h. h;
        after = λ a b. b;
        holds = λ h. h;
        removed = λ formatting s h. (hung.removed formatting s h.0, h.1);
        popped = λ s h e.
            (hung.popped s h.0 e, ordered_fewer choice (pop s.stack) (pop_fewer s.stack) h.1);
        closed = λ s h. (
          hung.closed s h.0,
          ordered_fewer choice (close_name (known tag) s.stack) (close_name_fewer (known tag) s.stack) h.1,
        );
        left_around = λ formatting s h o. (
          hung.left_around formatting s h.0 o,
          ordered_fewer choice (around formatting s.stack) (around_fewer formatting s.stack) h.1,
        );
        adopts = λ formatting s h o f e.
            let labels = h.1.labels in
            let live = furthest_at (λ x. labels.live x.node ≡ true) (inside formatting s.stack) f e
            ((inside_fewer formatting s.stack).each (λ x. labels.live x.node) h.1.opens) in (
              hung.adopts formatting s h.0 o f e,
              adopt_ordered letters formatting tag f (on_stack (around formatting) s) (names_at formatting f s e h.0.0)
                  (hung.left_around formatting s h.0 o).0 (round_hung formatting tag f s o e h.0.0 h.0.1)
                  (record {
                    labels = labels;
                    fits = h.1.fits;
                    root = h.1.root;
                    opens = (around_fewer formatting s.stack).each (λ x. labels.live x.node) h.1.opens;
                    no_fostering = h.1.no_fostering;
                  }) live.inner live.block,
            );
      }

  pub adoption_agency_orders : (tag : TagName) → is_plain tag ≡ true → Orders choice (adoption_agency tag)
  adoption_agency_orders tag p = record {
    stays = adoption_agency_stays tag p;
    orders = λ letters s h x o. (agency_holds (ordered_steps letters tag p) s ((h, x), o)).1;
  }
