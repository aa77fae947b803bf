-- The adoption agency leaves the body open.
use Rattle.std.proofs.Common.{◌≡◌, ◌∙◌, ℕ, ◌<◌, true, [], ◌∷◌, ◌++◌, length, refl, ap, inr}
use Rattle.std.specs.Prelude.{not}
use Rattle.std.proofs.lemmas.Bool.{and_parts}
use Rattle.htmd_html5_state.specs.Names.{known, html}
use Rattle.htmd_html5_state.specs.Nodes.{kind_at, detach}
use Rattle.htmd_html5_state.specs.OpenElements.{is_in, pop, close_name, inside, around}
use Rattle.htmd_html5_state.specs.State.{StateValue, on_nodes, on_stack}
use Rattle.htmd_html5_state.specs.Insertion.{opened, current, place}
use Rattle.htmd_html5_state.specs.Formatting.{is_listed}
use Rattle.htmd_html5_state.specs.Adoption.{node_is, Furthest, Chain, begin_chain, copy_into, chain, move_last, finish}
use Rattle.htmd_html5_state.specs.Adoption.{adopt, adoption_agency}
use Rattle.htmd_html5_state.specs.declared.names.TagName.{TagName}
use Rattle.htmd_html5_state.specs.declared.sets.NameSet.TheVariants.{Only}
use Rattle.htmd_law_html5.proofs.NodeTexts.{kinds, kinds_put, kinds_detach, kind_read}
use Rattle.htmd_law_html5.proofs.NamedKinds.{is_named, Grows, grows_same, grows_then, grows_new, named_added}
use Rattle.htmd_law_html5.proofs.KeepingInsertion.{listed_replaced}
use Rattle.htmd_law_html5.proofs.KeepingAdoption.{wrap_kinds, listed_marked}
use Rattle.htmd_law_html5.proofs.OpenNodes.{EachOpen, each_append}
use Rattle.htmd_law_html5.proofs.PlainAdoption.{copy_kinds, found_listed}
use Rattle.htmd_law_html5.proofs.RootedStacks.{is_inner, is_inner_tag, InnerOpen, rooted_under, not_body}
use Rattle.htmd_law_html5.proofs.RootedStacks.{close_name_rooted, popped_rooted, around_rooted, inside_inner}
use Rattle.htmd_law_html5.proofs.RootedStates.{InnerAt, RootedAt, Roots, rooted_grown, rooted_stack, rooted_listed}
use Rattle.htmd_law_html5.proofs.RootedStates.{number_after, without_entry_roots}
use Rattle.htmd_law_html5.proofs.AdoptionWalk.{FurthestAt, furthest_at, ChainSteps, chain_holds, InReach}
use Rattle.htmd_law_html5.proofs.AdoptionWalk.{AdoptionSteps, agency_holds, current_in}

-- ---- the elements between

-- what a chain has made of a state
record ChainRooted (body : ℕ) (s : StateValue) (c : Chain) : Type 0 where
  rooted : RootedAt body c.state
  grows : Grows (kinds s.nodes) (kinds c.state.nodes)
  copies : EachOpen InnerOpen c.copies
  content : c.state.content ≡ s.content

copy_rooted : (body n last : ℕ) (s : StateValue) → InnerAt (kinds s.nodes) n → RootedAt body s
    → RootedAt body (copy_into n last s)
copy_rooted body n last s p h =
    rooted_listed (length s.nodes) (
      number_after body s h,
      named_added is_inner s.nodes (kind_at s.nodes n) (copy_kinds n last s)
          (ap (is_named is_inner) (kind_read s.nodes n) ∙ p),
    ) (λ m l. listed_replaced m n (length s.nodes) s.formatting l)
    (rooted_grown (grows_new (kind_at s.nodes n) (copy_kinds n last s)) h)

rooted_chain : (body : ℕ) (s : StateValue) → ChainSteps InnerOpen (λ left c. ChainRooted body s c)
rooted_chain body s = record {
  copied = λ left e c p more listed h. record {
    rooted = copy_rooted body e.node c.last c.state (h.rooted.entries_at e.node listed).1 h.rooted;
    grows = grows_then h.grows (grows_new (kind_at c.state.nodes e.node) (copy_kinds e.node c.last c.state));
    copies = each_append InnerOpen c.copies (opened (length c.state.nodes) e.name ∷ []) h.copies (p, tt);
    content = h.content;
  };
  passed = λ left e c h. record {
    rooted = (without_entry_roots e.node).rooted body c.state h.rooted;
    grows = h.grows;
    copies = h.copies;
    content = h.content;
  };
}

-- ---- a round

-- what is left of a state
record LeftOf (body : ℕ) (s new : StateValue) : Type 0 where
  rooted : RootedAt body new
  content : new.content ≡ s.content

move_grows : (last : ℕ) (s : StateValue) → Grows (kinds s.nodes) (kinds (move_last last s).nodes)
unfolding move_last
move_grows last s =
    grows_same (kinds_put last (place (on_nodes (detach last) s)) (detach last s.nodes) ∙ kinds_detach last s.nodes)

move_rooted : (body last : ℕ) (s : StateValue) → RootedAt body s → RootedAt body (move_last last s)
unfolding move_last
move_rooted body last s h =
    rooted_grown (grows_same
    (kinds_put last (place (on_nodes (detach last) s)) (detach last s.nodes) ∙ kinds_detach last s.nodes)) h

finish_rooted : (body formatting : ℕ) (tag : TagName) (f : Furthest) (c : Chain) (s : StateValue)
    → is_inner_tag tag ≡ true → InnerAt (kinds s.nodes) formatting → FurthestAt InnerOpen f
    → EachOpen InnerOpen c.copies → RootedAt body s → RootedAt body (finish formatting tag f c s)
finish_rooted body formatting tag f c s p at names copies h =
    rooted_listed (length s.nodes) (
      number_after body s h,
      named_added is_inner s.nodes (kind_at s.nodes formatting) (wrap_kinds formatting f.block.node s.nodes)
          (ap (is_named is_inner) (kind_read s.nodes formatting) ∙ at),
    ) (λ n l. listed_marked n formatting (length s.nodes) c.bookmark s.formatting l)
    (rooted_stack (f.inner ++ opened (length s.nodes) (html (known tag)) ∷ f.block ∷ (c.copies ++ s.stack))
    (rooted_under body f.inner (opened (length s.nodes) (html (known tag)) ∷ f.block ∷ (c.copies ++ s.stack))
    names.inner (inr (p, inr (names.block, rooted_under body c.copies s.stack copies h.rooted))))
    (rooted_grown (grows_new (kind_at s.nodes formatting) (wrap_kinds formatting f.block.node s.nodes)) h))

adopt_rooted : (body formatting : ℕ) (tag : TagName) (f : Furthest) (s : StateValue) → is_inner_tag tag ≡ true
    → InnerAt (kinds s.nodes) formatting → FurthestAt InnerOpen f → RootedAt body s
    → LeftOf body s (adopt formatting tag f s)
unfolding move_last
adopt_rooted body formatting tag f s p at names h = record {
  rooted = finish_rooted body formatting tag f made (move_last made.last made.state) p
      ((move_grows made.last made.state).names is_inner formatting
      (chained.grows.names is_inner formatting at)) names chained.copies
      (move_rooted body made.last made.state chained.rooted);
  content = chained.content;
}
  where
    made : Chain
    made = chain 3 f.between (begin_chain f.block.node s)

    chained : ChainRooted body s (chain 3 f.between (begin_chain f.block.node s))
    chained =
        (chain_holds (rooted_chain body s) 3 f.between (begin_chain f.block.node s) names.between
        (record { rooted = h; grows = grows_same refl; copies = tt; content = refl })).1

-- ---- the rounds

rooted_steps : (body : ℕ) (tag : TagName) → is_inner_tag tag ≡ true
    → AdoptionSteps tag (RootedAt body) (LeftOf body)
rooted_steps body tag p = record {
  same = λ s h. record { rooted = h; content = refl };
  after = λ a b. record { rooted = b.rooted; content = b.content ∙ a.content };
  holds = λ h. h.rooted;
  removed = λ formatting s h. record { rooted = (without_entry_roots formatting).rooted body s h; content = refl };
  popped = λ s h e. record {
    rooted = rooted_stack (pop s.stack) (popped_rooted (Only tag) (not_body tag p).1 body s.stack h.rooted
        (current_in tag s.stack
        (and_parts (is_in (Only tag) (current s.stack)) (not (is_listed (current s.stack).node s.formatting)) e).0)) h;
    content = refl;
  };
  closed = λ s h. record {
    rooted = rooted_stack (close_name (known tag) s.stack)
        (close_name_rooted (known tag) (not_body tag p).0 body s.stack h.rooted) h;
    content = refl;
  };
  left_around = λ formatting s h o. record { rooted = left formatting s h o; content = refl };
  adopts = λ formatting s h o f e.
      let at = listed formatting s h o in
      let x = adopt_rooted body formatting tag f (on_stack (around formatting) s) p at.1
      (furthest_at InnerOpen (inside formatting s.stack) f e
      (inside_inner body formatting at.0 s.stack h.rooted o.opened)) (left formatting s h o) in
      record { rooted = x.rooted; content = x.content };
}
  where
    listed : (formatting : ℕ) (s : StateValue) → RootedAt body s → InReach tag formatting s
        → (body < formatting) × InnerAt (kinds s.nodes) formatting
    listed formatting s h o =
        h.entries_at formatting (found_listed (node_is s.nodes tag) s.formatting formatting o.found)

    left : (formatting : ℕ) (s : StateValue) → RootedAt body s → InReach tag formatting s
        → RootedAt body (on_stack (around formatting) s)
    left formatting s h o =
        rooted_stack (around formatting s.stack)
        (around_rooted body formatting (listed formatting s h o).0 s.stack h.rooted o.opened) h

pub adoption_agency_roots : (tag : TagName) → is_inner_tag tag ≡ true → Roots (adoption_agency tag)
adoption_agency_roots tag p = record {
  rooted = λ body s h. (agency_holds (rooted_steps body tag p) s h).rooted;
  content = λ body s h. (agency_holds (rooted_steps body tag p) s h).content;
}
