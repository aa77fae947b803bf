-- After a round of the adoption agency each text and each element hangs under the Document still.
use Rattle.std.proofs.Common.{◌≡◌, ◌∙◌, ℕ, suc, ◌+◌, ◌-◌, ◌*◌, ◌<◌, ◌≤◌, true, false, List, [], ◌∷◌, ◌++◌, length, sym}
use Rattle.std.proofs.Common.{ap, subst, arith, Option, Some, inl, inr, ◌⊎◌, ⊎_elim}
use Rattle.std.specs.Prelude.{◌==◌}
use Rattle.std.proofs.lemmas.Bool.{eqb-true, eqb-false}
use Rattle.htmd_lexical.proofs.Cases.{test}
use Rattle.htmd_html5_state.specs.Names.{known, html}
use Rattle.htmd_html5_state.specs.Nodes.{NodeValue, KindValue, kind_at, parent_at, children_at, new_node, place_index}
use Rattle.htmd_html5_state.specs.Nodes.{detach, move_children}
use Rattle.htmd_html5_state.specs.OpenElements.{OpenValue}
use Rattle.htmd_html5_state.specs.State.{StateValue, on_nodes}
use Rattle.htmd_html5_state.specs.Insertion.{opened, place}
use Rattle.htmd_html5_state.specs.Adoption.{Furthest, Chain, move_last, wrap_children, finish}
use Rattle.htmd_html5_state.specs.declared.names.TagName.{TagName}
use Rattle.htmd_law_html5.proofs.NodeTexts.{is_element, kinds_new, kinds_move_children}
use Rattle.htmd_law_html5.proofs.Forests.{IsForest, length_new, new_is_free, forest_new, forest_detached_put}
use Rattle.htmd_law_html5.proofs.Forests.{length_moved}
use Rattle.htmd_law_html5.proofs.KeepingAdoption.{wrap_kinds, wrap_forest}
use Rattle.htmd_law_html5.proofs.OpenNodes.{EachOpen, Below, below_more, each_more, each_append}
use Rattle.htmd_law_html5.proofs.HungNodes.{is_solid, element_solid, Torn, AllHang, put_at, put_kind, put_size}
use Rattle.htmd_law_html5.proofs.HungNodes.{torn_less, put_torn, appended_torn, detached_torn, moved_torn}
use Rattle.htmd_law_html5.proofs.HungNodes.{kind_by_kinds}
use Rattle.htmd_law_html5.proofs.HungNodes.{kind_with_new, kind_new_at}
use Rattle.htmd_law_html5.proofs.HungStates.{ElementOpen, HungIn, Hung, element_number, below_mapped, raised}
use Rattle.htmd_law_html5.proofs.HungStates.{raised_own, raised_other, raised_order, none_out, HangsOpen, PlaceOk}
use Rattle.htmd_law_html5.proofs.HungStates.{place_ok}
use Rattle.htmd_law_html5.proofs.HungChains.{within_append, within_mapped, FurthestRanks}
use Rattle.htmd_law_html5.proofs.HungChains.{detach_size, detach_kind, ChainHung}
use Rattle.htmd_law_html5.proofs.AdoptionWalk.{FurthestAt}

-- ---- the furthest block's children are wrapped

wrapped_hang : (formatting block r : ℕ) (rank : ℕ → ℕ) (nodes : List NodeValue) → AllHang rank nodes
    → IsForest nodes → is_element (kind_at nodes formatting) ≡ true → is_element (kind_at nodes block) ≡ true
    → rank block ≡ 8 * r → ((m : ℕ) → 8 * r < rank m → 8 * r + 8 ≤ rank m)
    → AllHang (raised (length nodes) (8 * r + 1) rank) (wrap_children formatting block nodes)
unfolding wrap_children
wrapped_hang formatting block r rank nodes all forest at block_at own spaced =
    none_out new (wrap_children formatting block nodes)
    (put_torn (λ m. ⊥) new n block (length (children_at moved block)) moved
    (moved_torn (λ m. (m ≡ n) ⊎ ⊥) new block n more (forest_new k nodes forest)
    (λ e. let w = within in omega arith)
    (let e = longer in (omega arith, inr new_element)) above
    (appended_torn (λ m. ⊥) rank new k nodes (raised_order n (8 * r + 1) rank) (λ m solid. inr (all m solid))))
    (let e = size in omega arith) (let e = size in let w = within in (omega arith, inr block_element))
    (let a = raised_own n (8 * r + 1) rank in let b = block_rank in omega arith))
  where
    n : ℕ
    n = length nodes

    k : KindValue
    k = kind_at nodes formatting

    more : List NodeValue
    more = nodes ++ new_node k ∷ []

    moved : List NodeValue
    moved = move_children block n more

    new : ℕ → ℕ
    new = raised n (8 * r + 1) rank

    within : block < length nodes
    within = element_number block nodes block_at

    longer : length more ≡ suc (length nodes)
    longer = length_new k nodes

    size : length moved ≡ suc (length nodes)
    size = length_moved block n more ∙ longer

    new_element : is_element (kind_at more n) ≡ true
    new_element = ap is_element (kind_new_at k nodes) ∙ at

    block_element : is_element (kind_at moved block) ≡ true
    block_element =
        ap is_element (kind_by_kinds more moved block (kinds_move_children block n more)
        ∙ kind_with_new block k nodes (λ e. let w = within in omega arith)) ∙ block_at

    block_rank : new block ≡ 8 * r
    block_rank = raised_other n (8 * r + 1) rank block (λ e. let w = within in omega arith) ∙ own

    above : (m : ℕ) → parent_at more m ≡ Some block → new block < new m → new n < new m
    above m e less =
        test (m == n) (λ t. absurd
        (let f = sym (ap (λ (x : ℕ). parent_at more x) (eqb-true m n t) ∙ new_is_free k nodes) ∙ e in cc))
        (λ t. let a = raised_other n (8 * r + 1) rank m (eqb-false m n t) in
        let b = raised_own n (8 * r + 1) rank in
        let d = block_rank in
        let f = spaced m (omega arith) in
        omega arith)

-- ---- a round

pub below_each : (rank : ℕ → ℕ) (limit : ℕ) (es : List OpenValue) → Below rank limit es
    → EachOpen (λ e. rank e.node < limit) es
below_each rank limit [] h = tt
below_each rank limit (e ∷ es) h =
    let a = h.0 in
    (h.0, each_more es (λ x l. omega arith) (below_each rank (rank e.node) es h.1))

pub each_both : (P Q : OpenValue → Type 0) (es : List OpenValue) → EachOpen P es → EachOpen Q es
    → EachOpen (λ e. P e × Q e) es
each_both P Q [] h g = tt
each_both P Q (e ∷ es) h g = ((h.0, g.0), each_both P Q es h.1 g.1)

-- what is around the formatting element, and the furthest block
pub record RoundHung (formatting : ℕ) (f : Furthest) (s : StateValue) : Type 0 where
  pub rank : ℕ → ℕ
  pub limit : ℕ
  pub at_root : rank 0 ≡ 0
  pub order : Below rank (rank formatting) s.stack
  pub ranks : FurthestRanks rank limit (suc (rank formatting)) f
  pub hangs : AllHang rank s.nodes
  pub opened_at : EachOpen (ElementOpen s.nodes) s.stack
  pub furthest : FurthestAt (ElementOpen s.nodes) f
  pub formatting_at : is_element (kind_at s.nodes formatting) ≡ true
  pub head_at : (n : ℕ) → s.head ≡ Some n → is_element (kind_at s.nodes n) ≡ true
  pub forest : IsForest s.nodes
  pub filled : 0 < length s.nodes
  pub root : is_solid (kind_at s.nodes 0) ≡ false

module _ (formatting : ℕ) (tag : TagName) (f : Furthest) (s : StateValue) (h : RoundHung formatting f s) (left : ℕ)
    (c : Chain) (ch : ChainHung s h.rank (h.rank f.block.node) left c) where
  abbrev r : ℕ
  r = h.rank f.block.node

  above_formatting : suc (h.rank formatting) ≤ r
  above_formatting = h.ranks.block

  abbrev out : List NodeValue
  out = detach c.last c.state.nodes

  abbrev moved : StateValue
  moved = on_nodes (detach c.last) c.state

  kept : (m : ℕ) → m < length s.nodes → kind_at out m ≡ kind_at s.nodes m
  kept m l = detach_kind c.last c.state.nodes m ∙ ch.grows m l

  scaled : (es : List OpenValue) → EachOpen (ElementOpen s.nodes) es
      → EachOpen (λ e. ch.rank e.node ≡ 8 * h.rank e.node) es
  scaled es opens = each_more es (λ e o. ch.before e.node (element_number e.node s.nodes o)) opens

  around_low : Below ch.rank (8 * r - 7) s.stack
  around_low =
      let a = above_formatting in
      below_more ch.rank (8 * h.rank formatting) (8 * r - 7) s.stack (omega arith)
      (below_mapped (λ n. 8 * n) (λ a b l. omega arith) h.rank ch.rank (h.rank formatting) s.stack
      (scaled s.stack h.opened_at) h.order)

  torn_out : Torn (λ m. (m ≡ c.last) ⊎ ⊥) ch.rank out
  torn_out =
      torn_less (λ m. ⊎_elim (λ a. inl a) (λ a. inl a))
      (detached_torn (λ m. m ≡ c.last) ch.rank c.last c.state.nodes ch.torn)

  opens_out : EachOpen (HangsOpen ch.rank out) s.stack
  opens_out =
      each_more s.stack (λ e o. let element = ap is_element (kept e.node (element_number e.node s.nodes o.0))
      ∙ o.0 in (
        element,
        ⊎_elim (⊎_elim (λ a. absurd (let b : ch.rank e.node ≡ ch.rank c.last = ap ch.rank a in
            let d = ch.low in let l = o.1 in omega arith)) (λ o. absurd o)) (λ a. a)
            (torn_out e.node (element_solid (kind_at out e.node) element)),
      ))
      (each_both (ElementOpen s.nodes) (λ e. ch.rank e.node < 8 * r - 7) s.stack h.opened_at
      (below_each ch.rank (8 * r - 7) s.stack around_low))

  out_size : length out ≡ length c.state.nodes
  out_size = detach_size c.last c.state.nodes

  zero_rank : ch.rank 0 ≡ 0
  zero_rank = let a = ch.before 0 h.filled in let b = h.at_root in omega arith

  place_found : PlaceOk ch.rank out c.state.stack (place moved).parent
  place_found =
      place_ok ch.rank moved zero_rank (let a = out_size in let b = ch.size in let d = h.filled in omega arith)
      (ap is_solid (kept 0 h.filled) ∙ h.root)
      (subst (EachOpen (HangsOpen ch.rank out)) (sym ch.same_stack) opens_out)

  last_within : c.last < length c.state.nodes
  last_within = element_number c.last c.state.nodes ch.last_at

  abbrev index : ℕ
  index = place_index (place moved).next (children_at out (place moved).parent)

  abbrev put_back : List NodeValue
  put_back = put_at c.last (place moved).parent index out

  put_back_hangs : AllHang ch.rank put_back
  put_back_hangs =
      none_out ch.rank put_back (put_torn (λ m. ⊥) ch.rank c.last (place moved).parent index out torn_out
      (let a = out_size in let b = last_within in omega arith) place_found.fits
      (let a = above_formatting in
      let b = place_found.low (8 * r - 7) (subst (Below ch.rank (8 * r - 7)) (sym ch.same_stack) around_low)
      (omega arith) in
      let d = ch.low in
      omega arith))

  back_kind : (m : ℕ) → kind_at put_back m ≡ kind_at c.state.nodes m
  back_kind m = put_kind c.last (place moved).parent index out m ∙ detach_kind c.last c.state.nodes m

  back_kept : (m : ℕ) → m < length s.nodes → kind_at put_back m ≡ kind_at s.nodes m
  back_kept m l = back_kind m ∙ ch.grows m l

  back_size : length put_back ≡ length c.state.nodes
  back_size = put_size c.last (place moved).parent index out ∙ out_size

  back_forest : IsForest put_back
  back_forest = forest_detached_put c.last (place moved) c.state.nodes last_within ch.forest

  abbrev n : ℕ
  n = length put_back

  abbrev rank : ℕ → ℕ
  rank = raised n (8 * r + 1) ch.rank

  block_within : f.block.node < length s.nodes
  block_within = element_number f.block.node s.nodes h.furthest.block

  formatting_within : formatting < length s.nodes
  formatting_within = element_number formatting s.nodes h.formatting_at

  block_rank : ch.rank f.block.node ≡ 8 * r
  block_rank = ch.before f.block.node block_within

  abbrev wrapped : List NodeValue
  wrapped = wrap_children formatting f.block.node put_back

  wrapped_all : AllHang rank wrapped
  wrapped_all =
      wrapped_hang formatting f.block.node r ch.rank put_back put_back_hangs back_forest
      (ap is_element (back_kept formatting formatting_within) ∙ h.formatting_at)
      (ap is_element (back_kept f.block.node block_within) ∙ h.furthest.block) block_rank ch.spaced

  abbrev k : KindValue
  k = kind_at put_back formatting

  wrapped_kind : (m : ℕ) → kind_at wrapped m ≡ kind_at (put_back ++ new_node k ∷ []) m
  wrapped_kind m =
      kind_by_kinds (put_back ++ new_node k ∷ []) wrapped m
      (wrap_kinds formatting f.block.node put_back ∙ sym (kinds_new put_back k))

  stays : (m : ℕ) → is_element (kind_at c.state.nodes m) ≡ true → is_element (kind_at wrapped m) ≡ true
  stays m e =
      let w = element_number m c.state.nodes e in
      let z = back_size in
      ap is_element (wrapped_kind m ∙ (kind_with_new m k put_back (λ g. omega arith) ∙ back_kind m)) ∙ e

  from_old : (m : ℕ) → is_element (kind_at s.nodes m) ≡ true → is_element (kind_at wrapped m) ≡ true
  from_old m e = stays m (ap is_element (ch.grows m (element_number m s.nodes e)) ∙ e)

  moved_ranks : (es : List OpenValue) → EachOpen (ElementOpen c.state.nodes) es
      → EachOpen (λ e. rank e.node ≡ ch.rank e.node) es
  moved_ranks es opens =
      each_more es (λ e o. raised_other n (8 * r + 1) ch.rank e.node
      (λ g. let w = element_number e.node c.state.nodes o in let z = back_size in omega arith)) opens

  in_chain : (es : List OpenValue) → EachOpen (ElementOpen s.nodes) es → EachOpen (ElementOpen c.state.nodes) es
  in_chain es opens =
      each_more es (λ e o. ap is_element (ch.grows e.node (element_number e.node s.nodes o)) ∙ o) opens

  abbrev new_open : OpenValue
  new_open = opened n (html (known tag))

  outer_order : Below rank (8 * r) (c.copies ++ s.stack)
  outer_order =
      let a = ch.low in
      within_append rank (8 * r) c.copies (ch.rank c.last) s.stack
      (within_mapped (λ n. n) (λ a b l. l) (λ a b l. l) ch.rank rank (8 * r) c.copies (ch.rank c.last)
      (moved_ranks c.copies ch.copies_at) ch.copies)
      (below_mapped (λ n. n) (λ a b l. l) ch.rank rank (ch.rank c.last) s.stack
      (moved_ranks s.stack (in_chain s.stack h.opened_at))
      (below_more ch.rank (8 * r - 7) (ch.rank c.last) s.stack (omega arith) around_low))

  new_rank : rank n ≡ 8 * r + 1
  new_rank = raised_own n (8 * r + 1) ch.rank

  block_new_rank : rank f.block.node ≡ 8 * r
  block_new_rank =
      raised_other n (8 * r + 1) ch.rank f.block.node
      (λ g. let w = block_within in let z = ch.size in let y = back_size in omega arith) ∙ block_rank

  middle_order : Below rank (8 * suc r) (new_open ∷ f.block ∷ (c.copies ++ s.stack))
  middle_order =
      let a = new_rank in
      let b = block_new_rank in
      let outer = subst (λ (x : ℕ). Below rank x (c.copies ++ s.stack)) (sym block_new_rank) outer_order in
      (omega arith, (omega arith, outer))

  inner_scaled : EachOpen (λ e. rank e.node ≡ 8 * h.rank e.node) f.inner
  inner_scaled =
      each_more f.inner (λ e o. o.0 ∙ o.1)
      (each_both (λ e. rank e.node ≡ ch.rank e.node) (λ e. ch.rank e.node ≡ 8 * h.rank e.node) f.inner
      (moved_ranks f.inner (in_chain f.inner h.furthest.inner)) (scaled f.inner h.furthest.inner))

  whole_order : Below rank (8 * h.limit) (f.inner ++ new_open ∷ f.block ∷ (c.copies ++ s.stack))
  whole_order =
      within_append rank (8 * h.limit) f.inner (8 * suc r) (new_open ∷ f.block ∷ (c.copies ++ s.stack))
      (within_mapped (λ n. 8 * n) (λ a b l. omega arith) (λ a b l. omega arith) h.rank rank h.limit f.inner (suc r)
      inner_scaled h.ranks.inner) middle_order

  new_at : is_element (kind_at wrapped n) ≡ true
  new_at =
      ap is_element (wrapped_kind n ∙ (kind_new_at k put_back ∙ back_kept formatting formatting_within))
      ∙ h.formatting_at

  whole_opened : EachOpen (ElementOpen wrapped) (f.inner ++ new_open ∷ f.block ∷ (c.copies ++ s.stack))
  whole_opened =
      each_append (ElementOpen wrapped) f.inner (new_open ∷ f.block ∷ (c.copies ++ s.stack))
      (each_more f.inner (λ e o. from_old e.node o) h.furthest.inner) (
        new_at,
        (
          from_old f.block.node h.furthest.block,
          each_append (ElementOpen wrapped) c.copies s.stack (each_more c.copies (λ e o. stays e.node o) ch.copies_at)
              (each_more s.stack (λ e o. from_old e.node o) h.opened_at),
        ),
      )

  adopted : HungIn wrapped (f.inner ++ new_open ∷ f.block ∷ (c.copies ++ s.stack)) s.head
  adopted = record {
    rank = rank;
    limit = 8 * h.limit;
    at_root =
        raised_other n (8 * r + 1) ch.rank 0
        (λ g. let a = back_size in let b = ch.size in let d = h.filled in omega arith)
        ∙ zero_rank;
    order = whole_order;
    hangs = wrapped_all;
    opened_at = whole_opened;
    head_at = λ m e. from_old m (h.head_at m e);
    forest = wrap_forest formatting f.block.node put_back back_forest;
    filled = let w = element_number n wrapped new_at in omega arith;
    root = ap is_solid (wrapped_kind 0
        ∙ (kind_with_new 0 k put_back (λ g. let a = back_size in let b = ch.size in let d = h.filled in omega arith)
        ∙ back_kept 0 h.filled)) ∙ h.root;
  }

pub finish_hung : (formatting : ℕ) (tag : TagName) (f : Furthest) (s : StateValue) (h : RoundHung formatting f s)
    (left : ℕ) (c : Chain) → ChainHung s h.rank (h.rank f.block.node) left c
    → Hung (finish formatting tag f c (move_last c.last c.state))
unfolding move_last
finish_hung formatting tag f s h left c ch =
    subst (λ (stack : List OpenValue). HungIn (wrapped formatting tag f s h left c ch)
    (f.inner ++ new_open formatting tag f s h left c ch ∷ f.block ∷ (c.copies ++ stack)) c.state.head)
    (sym ch.same_stack) (subst (λ (head : Option ℕ). HungIn (wrapped formatting tag f s h left c ch)
    (f.inner ++ new_open formatting tag f s h left c ch ∷ f.block ∷ (c.copies ++ s.stack)) head) (sym ch.same_head)
    (adopted formatting tag f s h left c ch))
