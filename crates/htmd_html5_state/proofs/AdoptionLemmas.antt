-- The steps of a round of the adoption agency algorithm, put together.
use Rattle.std.proofs.Common.{◌≡◌, ℕ, Bool, true, false, List, [], ◌∷◌, ◌++◌, length, Option, Some, None}
use Rattle.std.proofs.Common.{refl, sym, ap, ◌∙◌, subst}
use Rattle.std.proofs.lemmas.Bool.{true≢false, and_parts, eq-eqb, eqb-true}
use Rattle.std.specs.Prelude.{◌==◌, if◌then◌else◌}
use Rattle.htmd_lexical.proofs.Cases.{test}
use Rattle.htmd_html5_state.specs.Names.{html, known}
use Rattle.htmd_html5_state.specs.OpenElements.{OpenValue, is_in, pop}
use Rattle.htmd_html5_state.specs.State.{StateValue, on_nodes, on_formatting, on_stack}
use Rattle.htmd_html5_state.specs.Insertion.{current, opened}
use Rattle.htmd_html5_state.specs.Formatting.{without_entry}
use Rattle.htmd_html5_state.specs.Adoption.{Furthest, Chain, chain, begin_chain, move_last, wrap_children}
use Rattle.htmd_html5_state.specs.Adoption.{with_bookmark}
use Rattle.htmd_html5_state.specs.Adoption.{adopt, adopt_by, finish, adoption_agency, node_is, closes_at_once, rounds}
use Rattle.htmd_html5_state.specs.Adoption.{formatting_element, round_of, round_with, last_round, go_on}
use Rattle.htmd_html5_state.specs.AdoptionViews.{closes_newest}
use Rattle.htmd_html5_state.specs.declared.names.TagName.{TagName}
use Rattle.htmd_html5_state.specs.declared.sets.NameSet.TheVariants.{Only}

abbrev chain_with : StateValue → List OpenValue → ℕ → Option ℕ → Chain
chain_with s copies last bookmark = record { state = s; copies = copies; last = last; bookmark = bookmark }

module _ (formatting : ℕ) (tag : TagName) (f : Furthest) (s made moved wrapped listed : StateValue)
    (copies : List OpenValue) (last : ℕ) (bookmark : Option ℕ) (copy : ℕ) where
  -- the new stack
  abbrev stacked : ℕ → StateValue → StateValue
  stacked k x = record x { stack = f.inner ++ opened k (html (known tag)) ∷ f.block ∷ (copies ++ x.stack) }

  pub adopted : chain_with made copies last bookmark ≡ chain 3 f.between (begin_chain f.block.node s)
      → moved ≡ move_last last made → copy ≡ length moved.nodes
      → wrapped ≡ on_nodes (wrap_children formatting f.block.node) moved
      → listed ≡ on_formatting (with_bookmark formatting copy bookmark) wrapped
      → stacked copy listed ≡ adopt formatting tag f s
  adopted chained moving number wrapping listing =
      ap (stacked copy) listing
      ∙ (ap (λ (x : StateValue). stacked copy (on_formatting (with_bookmark formatting copy bookmark) x)) wrapping
      ∙ (ap (λ (k : ℕ). stacked k (on_formatting (with_bookmark formatting k bookmark)
      (on_nodes (wrap_children formatting f.block.node) moved))) number
      ∙ (ap (finish formatting tag f (chain_with made copies last bookmark)) moving
      ∙ ap (adopt_by formatting tag f) chained)))

-- ---- the current node is the newest on the list

module _ (tag : TagName) (s : StateValue) (e : OpenValue) (es : List OpenValue) (entries : List (Option ℕ)) where
  abbrev listed_newest : StateValue
  listed_newest = record s { stack = e ∷ es; formatting = Some e.node ∷ entries }

  same_node : (e.node == e.node) ≡ true
  same_node = eq-eqb e.node e.node refl

  not_at_once : closes_at_once tag listed_newest ≡ false
  not_at_once = test (is_in (Only tag) e) (λ t. rw (t, same_node) refl) (λ t. rw t refl)

  last : round_with tag e.node listed_newest ≡ last_round (record s { stack = es; formatting = entries })
  last = simp same_node refl

  at_node : node_is s.nodes tag e.node ≡ true
      → record s { stack = es; formatting = entries } ≡ adoption_agency tag listed_newest
  at_node h =
      let found : formatting_element tag listed_newest ≡ Some e.node = rw h refl in
      sym (ap (λ (b : Bool). if b then on_stack pop listed_newest else rounds 8 tag listed_newest) not_at_once
      ∙ ap (go_on (rounds 7 tag)) (ap (λ (o : Option ℕ). round_of tag o listed_newest) found ∙ last))

by_parts : (tag : TagName) (s : StateValue) (stack : List OpenValue) (entries : List (Option ℕ))
    → closes_newest tag (record s { stack = stack; formatting = entries }) ≡ true
    → record s { stack = pop stack; formatting = without_entry (current stack).node entries }
    ≡ adoption_agency tag (record s { stack = stack; formatting = entries })
by_parts tag s [] entries h = absurd (true≢false (sym h))
by_parts tag s (e ∷ es) [] h = absurd (true≢false (sym h))
by_parts tag s (e ∷ es) (None ∷ entries) h = absurd (true≢false (sym h))
by_parts tag s (e ∷ es) (Some m ∷ entries) h =
    let parts = and_parts (m == e.node) (node_is s.nodes tag e.node) h in
    subst (λ (k : ℕ). record s { stack = es; formatting = without_entry e.node (Some k ∷ entries) }
    ≡ adoption_agency tag (record s { stack = e ∷ es; formatting = Some k ∷ entries }))
    (sym (eqb-true m e.node parts.0))
    (ap (λ (x : List (Option ℕ)). record s { stack = es; formatting = x }) gone
    ∙ at_node tag s e es entries parts.1)
  where
    gone : without_entry e.node (Some e.node ∷ entries) ≡ entries
    gone = rw (eq-eqb e.node e.node refl) refl

-- it is closed, and goes from the list
pub newest_closed : (tag : TagName) (s : StateValue) → closes_newest tag s ≡ true
    → record s { stack = pop s.stack; formatting = without_entry (current s.stack).node s.formatting }
    ≡ adoption_agency tag s
newest_closed tag s h = by_parts tag s s.stack s.formatting h
