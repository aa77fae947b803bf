-- The adoption agency leaves the root and cells open.
use Rattle.std.proofs.Common.{List, ap, inr, length, refl, subst, sym, true, ℕ, [], ◌++◌, ◌∙◌, ◌∷◌, ◌≡◌}
use Rattle.std.proofs.lemmas.Bool.{and_parts}
use Rattle.htmd_law_html5.proofs.EndedStacks.{Anchor, Has, around_has, both_firm, close_name_has, is_any, is_common}
use Rattle.htmd_law_html5.proofs.EndedStacks.{is_common_tag, is_firm, popped_has, spares, spares_name, tag_spares}
use Rattle.htmd_law_html5.proofs.EndedStates.{CommonAt, Ends, Guarded, Whole, apart, common_named, grown_guarded}
use Rattle.htmd_law_html5.proofs.EndedStates.{is_guarded, manner, whole_fewer, whole_grown, whole_listed, whole_stack}
use Rattle.htmd_law_html5.proofs.EndedStates.{without_entry_ends}
use Rattle.htmd_law_html5.proofs.KeepingAdoption.{listed_marked, wrap_kinds}
use Rattle.htmd_law_html5.proofs.KeepingInsertion.{listed_replaced}
use Rattle.htmd_law_html5.proofs.NamedKinds.{Grows, grows_new, grows_same, grows_then, is_named, named_added}
use Rattle.htmd_law_html5.proofs.NodeTexts.{kind_read, kinds, kinds_detach, kinds_put}
use Rattle.htmd_law_html5.proofs.OpenNodes.{EachOpen, Fewer, around_fewer, close_name_fewer, each_append, each_more}
use Rattle.htmd_law_html5.proofs.OpenNodes.{inside_fewer, pop_fewer}
use Rattle.htmd_law_html5.proofs.AdoptionWalk.{FurthestAt, furthest_at, ChainSteps, chain_holds, InReach}
use Rattle.htmd_law_html5.proofs.AdoptionWalk.{AdoptionSteps, agency_holds, current_in}
use Rattle.htmd_law_html5.proofs.PlainAdoption.{copy_kinds, found_listed}
use Rattle.htmd_html5_state.specs.Adoption.{Chain, Furthest, adopt, adoption_agency, begin_chain, chain, copy_into}
use Rattle.htmd_html5_state.specs.Adoption.{finish, move_last, node_is, wrap_children}
use Rattle.htmd_html5_state.specs.Insertion.{current, opened, place}
use Rattle.htmd_html5_state.specs.Names.{html, known}
use Rattle.htmd_html5_state.specs.Nodes.{KindValue, detach, kind_at}
use Rattle.htmd_html5_state.specs.OpenElements.{OpenValue, around, close_name, inside, is_in, pop}
use Rattle.htmd_html5_state.specs.State.{StateValue, on_nodes, on_stack}
use Rattle.htmd_html5_state.specs.declared.names.TagName.{TagName}
use Rattle.htmd_html5_state.specs.declared.sets.NameSet.TheVariants.{Only}

-- ---- the elements between

abbrev CommonOpen : OpenValue → Type 0
CommonOpen e = is_common e.name ≡ true

common_guarded : (ks : List KindValue) (e : OpenValue) → is_common e.name ≡ true → is_guarded ks e ≡ true
common_guarded ks e c = rw c refl

-- what a chain has made of a state
record ChainEnded (s : StateValue) (c : Chain) : Type 0 where
  whole : Whole c.state
  grows : Grows (kinds s.nodes) (kinds c.state.nodes)
  copies : EachOpen CommonOpen c.copies
  same : manner c.state ≡ manner s
  stack : c.state.stack ≡ s.stack

copy_whole : (n last : ℕ) (s : StateValue) → CommonAt (kinds s.nodes) n → Whole s → Whole (copy_into n last s)
copy_whole n last s p h =
    whole_listed (length s.nodes) (named_added is_common s.nodes (kind_at s.nodes n) (copy_kinds n last s)
    (ap (is_named is_common) (kind_read s.nodes n) ∙ p)) (λ m l. listed_replaced m n (length s.nodes) s.formatting l)
    (whole_grown (grows_new (kind_at s.nodes n) (copy_kinds n last s)) h)

chain_ended : (s : StateValue) → ChainSteps (λ e. is_guarded (kinds s.nodes) e ≡ true) (λ left c. ChainEnded s c)
chain_ended s = record {
  copied = λ left e c p more listed h.
      let at = h.whole.entries_at e.node listed in
      record {
        whole = copy_whole e.node c.last c.state at h.whole;
        grows = grows_then h.grows (grows_new (kind_at c.state.nodes e.node) (copy_kinds e.node c.last c.state));
        copies = each_append CommonOpen c.copies (opened (length c.state.nodes) e.name ∷ []) h.copies
            (common_named (kinds c.state.nodes) e (grown_guarded h.grows e p) at, tt);
        same = h.same;
        stack = h.stack;
      };
  passed = λ left e c h. record {
    whole = (without_entry_ends {p = is_any} e.node).whole c.state h.whole;
    grows = h.grows;
    copies = h.copies;
    same = h.same;
    stack = h.stack;
  };
}

-- ---- a round

-- what is left of a state
pub record AgencyLeft (s new : StateValue) : Type 0 where
  pub whole : Whole new
  pub keeps : (a : Anchor) → is_firm a ≡ true → Has a s.stack → Has a new.stack
  pub same : manner new ≡ manner s
  pub grows : Grows (kinds s.nodes) (kinds new.nodes)

move_same : (last : ℕ) (s : StateValue) → kinds (move_last last s).nodes ≡ kinds s.nodes
unfolding move_last
move_same last s = kinds_put last (place (on_nodes (detach last) s)) (detach last s.nodes) ∙ kinds_detach last s.nodes

move_whole : (last : ℕ) (s : StateValue) → Whole s → Whole (move_last last s)
unfolding move_last
move_whole last s h =
    whole_grown (grows_same
    (kinds_put last (place (on_nodes (detach last) s)) (detach last s.nodes) ∙ kinds_detach last s.nodes)) h

has_under : (a : Anchor) (es stack : List OpenValue) → Has a stack → Has a (es ++ stack)
has_under a [] stack h = h
has_under a (e ∷ es) stack h = inr (has_under a es stack h)

finish_whole : (formatting : ℕ) (tag : TagName) (f : Furthest) (c : Chain) (s : StateValue)
    → is_common_tag tag ≡ true → CommonAt (kinds s.nodes) formatting → Guarded (kinds s.nodes) f.inner
    → is_guarded (kinds s.nodes) f.block ≡ true → EachOpen CommonOpen c.copies → Whole s
    → Whole (finish formatting tag f c s)
finish_whole formatting tag f c s p at inner block copies h =
    whole_listed (length s.nodes) (named_added is_common s.nodes (kind_at s.nodes formatting) made
    (ap (is_named is_common) (kind_read s.nodes formatting) ∙ at))
    (λ n l. listed_marked n formatting (length s.nodes) c.bookmark s.formatting l)
    (whole_stack (f.inner ++ opened (length s.nodes) (html (known tag)) ∷ f.block ∷ (c.copies ++ s.stack)) all
    (whole_grown grown h))
  where
    made : kinds (wrap_children formatting f.block.node s.nodes) ≡ kinds s.nodes ++ kind_at s.nodes formatting ∷ []
    made = wrap_kinds formatting f.block.node s.nodes

    ks : List KindValue
    ks = kinds (wrap_children formatting f.block.node s.nodes)

    grown : Grows (kinds s.nodes) (kinds (wrap_children formatting f.block.node s.nodes))
    grown = grows_new (kind_at s.nodes formatting) made

    new : is_guarded ks (opened (length s.nodes) (html (known tag))) ≡ true
    new = rw p refl

    all : Guarded ks (f.inner ++ opened (length s.nodes) (html (known tag)) ∷ f.block ∷ (c.copies ++ s.stack))
    all =
        each_append (λ e. is_guarded ks e ≡ true) f.inner
        (opened (length s.nodes) (html (known tag)) ∷ f.block ∷ (c.copies ++ s.stack))
        (each_more f.inner (λ e k. grown_guarded grown e k) inner) (
          new,
          (
            grown_guarded grown f.block block,
            each_append (λ e. is_guarded ks e ≡ true) c.copies s.stack
                (each_more c.copies (λ e k. common_guarded ks e k) copies)
                (each_more s.stack (λ e k. grown_guarded grown e k) h.guarded),
          ),
        )

adopt_ended : (formatting : ℕ) (tag : TagName) (f : Furthest) (s : StateValue) → is_common_tag tag ≡ true
    → CommonAt (kinds s.nodes) formatting → FurthestAt (λ e. is_guarded (kinds s.nodes) e ≡ true) f → Whole s
    → AgencyLeft s (adopt formatting tag f s)
unfolding move_last
adopt_ended formatting tag f s p at names h = record {
  whole = finish_whole formatting tag f made (move_last made.last made.state) p (grown.names is_common formatting at)
      (each_more f.inner (λ e k. grown_guarded grown e k) names.inner)
      (grown_guarded grown f.block names.block) chained.copies (move_whole made.last made.state chained.whole);
  keeps = λ a k l. has_under a f.inner _ (inr (inr (has_under a made.copies made.state.stack
      (subst (λ (es : List OpenValue). Has a es) (sym chained.stack) l))));
  same = chained.same;
  grows = grows_then grown (grows_new (kind_at (move_last made.last made.state).nodes formatting)
      (wrap_kinds formatting f.block.node (move_last made.last made.state).nodes));
}
  where
    made : Chain
    made = chain 3 f.between (begin_chain f.block.node s)

    chained : ChainEnded s (chain 3 f.between (begin_chain f.block.node s))
    chained =
        (chain_holds (chain_ended s) 3 f.between (begin_chain f.block.node s) names.between
        (record { whole = h; grows = grows_same refl; copies = tt; same = refl; stack = refl })).1

    grown : Grows (kinds s.nodes) (kinds (move_last made.last made.state).nodes)
    grown = grows_then chained.grows (grows_same (move_same made.last made.state))

-- ---- the rounds

-- elements are closed
stack_left : (f : List OpenValue → List OpenValue) (s : StateValue) → Fewer (f s.stack) s.stack
    → ((a : Anchor) → is_firm a ≡ true → Has a s.stack → Has a (f s.stack)) → Whole s
    → AgencyLeft s (on_stack f s)
stack_left f s fewer k h =
    record { whole = whole_fewer (f s.stack) fewer h; keeps = k; same = refl; grows = grows_same refl }

left_then : {s t u : StateValue} → AgencyLeft s t → AgencyLeft t u → AgencyLeft s u
left_then x y = record {
  whole = y.whole;
  keeps = λ a k l. y.keeps a k (x.keeps a k l);
  same = y.same ∙ x.same;
  grows = grows_then x.grows y.grows;
}

agency_steps : (tag : TagName) → is_common_tag tag ≡ true → AdoptionSteps tag Whole AgencyLeft
agency_steps tag p = record {
  same = λ s h. record { whole = h; keeps = λ a k l. l; same = refl; grows = grows_same refl };
  after = λ x y. left_then x y;
  holds = λ x. x.whole;
  removed = λ formatting s h. record {
    whole = (without_entry_ends {p = is_any} formatting).whole s h;
    keeps = λ a k l. l;
    same = refl;
    grows = grows_same refl;
  };
  popped = λ s h e. stack_left pop s (pop_fewer s.stack)
      (λ a k l. popped_has (Only tag) a (both_firm (spares (Only tag)) (tag_spares tag p).0 a k) s.stack l
      (current_in tag s.stack (and_parts (is_in (Only tag) (current s.stack)) _ e).0)) h;
  closed = λ s h. stack_left (close_name (known tag)) s (close_name_fewer (known tag) s.stack)
      (λ a k l. close_name_has (known tag) a (both_firm (spares_name (known tag)) (tag_spares tag p).1 a k) s.stack l)
      h;
  left_around = λ formatting s h o. left formatting s h o;
  adopts = λ formatting s h o f e.
      left_then (left formatting s h o)
      (adopt_ended formatting tag f (on_stack (around formatting) s) p (common formatting s h o)
      (furthest_at (λ x. is_guarded (kinds s.nodes) x ≡ true) (inside formatting s.stack) f e
      ((inside_fewer formatting s.stack).each (is_guarded (kinds s.nodes)) h.guarded)) (left formatting s h o).whole);
}
  where
    common : (formatting : ℕ) (s : StateValue) → Whole s → InReach tag formatting s
        → CommonAt (kinds s.nodes) formatting
    common formatting s h o =
        h.entries_at formatting (found_listed (node_is s.nodes tag) s.formatting formatting o.found)

    left : (formatting : ℕ) (s : StateValue) → Whole s → InReach tag formatting s
        → AgencyLeft s (on_stack (around formatting) s)
    left formatting s h o =
        stack_left (around formatting) s (around_fewer formatting s.stack) (λ a k l. around_has a k formatting s.stack
        (apart (kinds s.nodes) formatting (common formatting s h o) s.stack h.guarded) o.unbounded l) h

pub agency_left : (tag : TagName) → is_common_tag tag ≡ true → (s : StateValue) → Whole s
    → AgencyLeft s (adoption_agency tag s)
agency_left tag p s h = agency_holds (agency_steps tag p) s h

pub adoption_agency_ends : (tag : TagName) → is_common_tag tag ≡ true → Ends is_firm (adoption_agency tag)
adoption_agency_ends tag p = record {
  whole = λ s h. (agency_left tag p s h).whole;
  keeps = λ a k s h l. (agency_left tag p s h).keeps a k l;
  same = λ s h. (agency_left tag p s h).same;
}
