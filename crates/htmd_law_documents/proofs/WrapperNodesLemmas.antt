-- What follows each other, and lists, keep the wrappers of their nodes.
use Rattle.std.proofs.Common.{◌≡◌, ℕ, Bool, true, false, cond, List, [], ◌∷◌, ◌++◌, refl, sym, ap, ◌∙◌}
use Rattle.std.proofs.Common.{append_assoc, subst, Option, None}
use Rattle.std.specs.Prelude.{ℤ, if◌then◌else◌, nat_le, ◌&&◌}
use Rattle.std.specs.List.{flat_map}
use Rattle.htmd_lexical.proofs.Cases.{test}
use Rattle.htmd_shown.specs.AllTexts.{all_text_among}
use Rattle.htmd_shown.specs.Kinds.{has, content_of}
use Rattle.htmd_shown.specs.SimpleTrees.{Simple, text, image, formula, embedded, anchor, element, Simples}
use Rattle.htmd_flow.specs.Contexts.{Context, is_lined, deeper, apart, has_elements, is_link, is_linked_to_part}
use Rattle.htmd_flow.specs.Contexts.{unlinked, without_link}
use Rattle.htmd_document.specs.DocumentLimits.{most_nested}
use Rattle.htmd_flow.specs.Flows.{Node, is_item, blocks_of, before_items, behind_item, item_of, items_of}
use Rattle.htmd_flow.specs.Flows.{each_whole}
use Rattle.htmd_flow.specs.Flows.{list_parts, goes_on, items_in_a_row, flow_all, flow_after}
use Rattle.htmd_flow.specs.Flows.{is_grid_of, around_title, around_node}
use Rattle.htmd_flow.specs.Lists.{ListItem, lists_if_filled}
use Rattle.htmd_flow.specs.Parts.{Around, Part, edge}
use Rattle.htmd_shown.specs.declared.role.Role.{Role}
use Rattle.htmd_shown.specs.declared.role.Role.TheVariants as role
use Rattle.htmd_shown.specs.Roles as roles
use Rattle.htmd_shown.specs.Showings.{show_usual_sign}
use Rattle.htmd_law_documents.proofs.NormalTextLemmas.{neither, false-true}
use Rattle.htmd_law_documents.proofs.Readers.{Reader, read_blocks, read_tree, read_trees}
use Rattle.htmd_law_documents.proofs.WrapperWritingLemmas.{AllAgree}
use Rattle.htmd_law_documents.proofs.WrapperPartsLemmas.{Keep, keep-nil, keep-append, keep-same, keep-edge, keep-edges}
use Rattle.htmd_law_documents.proofs.WrapperPartsLemmas.{keep-after, keep-apart, blocks-keep}
use Rattle.htmd_law_documents.proofs.WrapperListLemmas.{items_wrapped, lists-keep}
use Rattle.htmd_law_documents.proofs.WrapperKindLemmas.{IsInner, item-inner, meaning-inner}

-- marks don't depend on how many lists and quotes there are, and what elements are near
abbrev pub shallow : Context → Context
shallow c = record c { nested = 0; near = [] }

pub not-flat : (c : Context) → is_lined c ≡ false → c.is_flat ≡ false
not-flat c e = (neither c.is_flat (nat_le most_nested c.nested) e).0

-- ---- around titles

pub item-untitled : (r : Role) → roles.is_item r ≡ true → roles.is_title r ≡ false
item-untitled role.Item e = refl
item-untitled r e = false-true e

pub meaning-untitled : (r : Role) → roles.is_meaning r ≡ true → roles.is_title r ≡ false
meaning-untitled role.Meaning e = refl
meaning-untitled r e = false-true e

-- nothing changes around what is no title
pub untitled : (kind : Role → Bool) → ((r : Role) → kind r ≡ true → roles.is_title r ≡ false)
    → (t : Simple)
    (c : Context) → has kind t ≡ true → around_node t c ≡ c
untitled kind h (text s) c e = refl
untitled kind h (image address attributes) c e = refl
untitled kind h (formula tex is_alone attributes) c e = refl
untitled kind h (embedded id address title attributes anchors) c e = refl
untitled kind h (anchor id) c e = refl
untitled kind h (element id r facts attributes content) c e = ap (λ b. cond b (around_title content c) c) (h r e)

-- nor where no block is an element
pub no-elements : (t : Simple) (c : Context) → has_elements c ≡ false → around_node t c ≡ c
no-elements t c e = either (has roles.is_title t)
  where
    either : (b : Bool) → cond b (around_title (content_of t) c) c ≡ c
    either true = ap (λ b. cond (b && is_linked_to_part c && show_usual_sign (content_of t)) (unlinked c) c) e
    either false = refl

pub title-flat : (content : Simples) (c : Context) → (around_title content c).is_flat ≡ c.is_flat
title-flat content c = either (has_elements c && is_linked_to_part c && show_usual_sign content)
  where
    either : (b : Bool) → (cond b (unlinked c) c).is_flat ≡ c.is_flat
    either true = refl
    either false = refl

pub title-alike : (content : Simples) (c : Context)
    → shallow (around_title content c) ≡ around_title content (shallow c)
title-alike content c = either (has_elements c && is_linked_to_part c && show_usual_sign content)
  where
    either : (b : Bool) → shallow (cond b (unlinked c) c) ≡ cond b (unlinked (shallow c)) (shallow c)
    either true = refl
    either false = refl

pub around-flat : (t : Simple) (c : Context) → (around_node t c).is_flat ≡ c.is_flat
around-flat t c = either (has roles.is_title t)
  where
    either : (b : Bool) → (cond b (around_title (content_of t) c) c).is_flat ≡ c.is_flat
    either true = title-flat (content_of t) c
    either false = refl

pub around-alike : (t : Simple) (c : Context) → shallow (around_node t c) ≡ around_node t (shallow c)
around-alike t c = either (has roles.is_title t)
  where
    either : (b : Bool)
        → shallow (cond b (around_title (content_of t) c) c)
        ≡ cond b (around_title (content_of t) (shallow c)) (shallow c)
    either true = title-alike (content_of t) c
    either false = refl

module _ (R : Reader) where
  abbrev pub wrappers_in : Simple → Context → List R.Seen
  wrappers_in t c = read_trees R (content_of t) c false

  abbrev pub node_wrapped : Context → Node → List R.Seen
  node_wrapped c n = read_tree R n.tree c false

  abbrev pub nodes_wrapped : List Node → Context → List R.Seen
  nodes_wrapped nodes c = flat_map (node_wrapped c) nodes

  -- a node of a kind says what is in it
  pub inner-wrappers : (kind : Role → Bool)
      → ((r : Role) → kind r ≡ true → IsInner R r) → (t : Simple) (c : Context) → has kind t ≡ true
      → read_tree R t c false ≡ wrappers_in t (around_node t c)
  inner-wrappers kind inner (text s) c e = false-true e
  inner-wrappers kind inner (image address attributes) c e = false-true e
  inner-wrappers kind inner (formula tex is_alone attributes) c e = false-true e
  inner-wrappers kind inner (embedded id address title attributes anchors) c e = false-true e
  inner-wrappers kind inner (anchor id) c e = false-true e
  inner-wrappers kind inner (element id r facts attributes content) c e =
      inner r e id facts attributes (all_text_among content) (is_grid_of content) (read_trees R content)
      (around_node (element id r facts attributes content) c) false

  pub item-wrappers : (t : Simple) (c : Context) → has roles.is_item t ≡ true → read_tree R t c false
      ≡ wrappers_in t c
  item-wrappers t c e =
      inner-wrappers roles.is_item (item-inner R) t c e
      ∙ ap (wrappers_in t) (untitled roles.is_item item-untitled t c e)

  pub meaning-wrappers : (t : Simple) (c : Context) → has roles.is_meaning t ≡ true → read_tree R t c false
      ≡ wrappers_in t c
  meaning-wrappers t c e =
      inner-wrappers roles.is_meaning (meaning-inner R) t c e
      ∙ ap (wrappers_in t) (untitled roles.is_meaning meaning-untitled t c e)

  -- from the first item on
  abbrev from_item : List Node → List Node
  from_item [] = []
  from_item (n ∷ nodes) = if is_item n then n ∷ nodes else from_item nodes

  -- the wrappers before it
  abbrev wrapped_before : List Node → Context → List R.Seen
  wrapped_before [] c = []
  wrapped_before (n ∷ nodes) c = if is_item n then [] else node_wrapped c n ++ wrapped_before nodes c

  parted-wrappers : (nodes : List Node) (c : Context)
      → nodes_wrapped nodes c ≡ wrapped_before nodes c ++ nodes_wrapped (from_item nodes) c
  parted-wrappers [] c = refl
  parted-wrappers (n ∷ nodes) c =
      let rest : nodes_wrapped nodes c ≡ wrapped_before nodes c
      ++ nodes_wrapped (from_item nodes) c = parted-wrappers nodes
      c in
      test (is_item n)
      (λ e. sym (ap (λ b. cond b [] (node_wrapped c n ++ wrapped_before nodes c)
      ++ nodes_wrapped (cond b (n ∷ nodes) (from_item nodes)) c) e))
      (λ e. ap (λ t. node_wrapped c n ++ t) rest
      ∙ (sym (append_assoc (node_wrapped c n) (wrapped_before nodes c) (nodes_wrapped (from_item nodes) c))
      ∙ sym (ap (λ b. cond b [] (node_wrapped c n ++ wrapped_before nodes c)
      ++ nodes_wrapped (cond b (n ∷ nodes) (from_item nodes)) c) e)))

  -- the wrappers after the items that began before
  abbrev wrapped_after : List Node → Context → List R.Seen
  wrapped_after [] c = []
  wrapped_after (n ∷ nodes) c = if goes_on n then wrapped_after nodes c else node_wrapped c n ++ nodes_wrapped nodes c

  row-wrappers : (nodes : List Node) (c : Context)
      → nodes_wrapped nodes c ≡ nodes_wrapped (items_in_a_row nodes) c ++ wrapped_after nodes c
  row-wrappers [] c = refl
  row-wrappers (n ∷ nodes) c =
      let rest : nodes_wrapped nodes c ≡ nodes_wrapped (items_in_a_row nodes) c ++ wrapped_after nodes c =
      row-wrappers nodes c in
      test (goes_on n)
      (λ e. ap (λ t. node_wrapped c n ++ t) rest
      ∙ (sym (append_assoc (node_wrapped c n) (nodes_wrapped (items_in_a_row nodes) c) (wrapped_after nodes c))
      ∙ sym (ap (λ b. nodes_wrapped (cond b (n ∷ items_in_a_row nodes) []) c
      ++ cond b (wrapped_after nodes c) (node_wrapped c n ++ nodes_wrapped nodes c)) e)))
      (λ e. sym (ap (λ b. nodes_wrapped (cond b (n ∷ items_in_a_row nodes) []) c
      ++ cond b (wrapped_after nodes c) (node_wrapped c n ++ nodes_wrapped nodes c)) e))

  module _ (addr : ℕ → R.Wrap) where
    -- the links around have their addresses
    abbrev pub Agree : Context → Type 0
    Agree c = AllAgree R addr c.around

    either-link : (k : Bool) (b : Around) (around rest : List Around) → AllAgree R addr (b ∷ around)
        → AllAgree R addr rest → AllAgree R addr (cond k around (b ∷ rest))
    either-link true b around rest h r = h.1
    either-link false b around rest h r = (h.0, r)

    without-agree : (around : List Around) → AllAgree R addr around → AllAgree R addr (without_link around)
    without-agree [] h = tt
    without-agree (b ∷ around) h =
        either-link (is_link b) b around (without_link around) h (without-agree around h.1)

    pub unlinked-agrees : (c : Context) → Agree c → Agree (unlinked c)
    unlinked-agrees c h = without-agree c.around h

    pub title-agrees : (content : Simples) (c : Context) → Agree c → Agree (around_title content c)
    title-agrees content c h = either (has_elements c && is_linked_to_part c && show_usual_sign content)
      where
        either : (b : Bool) → Agree (cond b (unlinked c) c)
        either true = unlinked-agrees c h
        either false = h

    pub around-agrees : (t : Simple) (c : Context) → Agree c → Agree (around_node t c)
    around-agrees t c h = either (has roles.is_title t)
      where
        either : (b : Bool) → Agree (cond b (around_title (content_of t) c) c)
        either true = title-agrees (content_of t) c h
        either false = h

    -- all is one line or not, or not alone
    abbrev pub Fits : Bool → Context → Type 0
    Fits only c = only ≡ true → c.is_flat ≡ false

    -- what a node gives keeps its wrappers, in any context, or only where all isn't one line
    pub record NodeKeepsIn (only : Bool) (n : Node) : Type 0 where
      pub whole : (c : Context) → Agree c → Fits only c
          → Keep R addr c.is_flat (n.whole c) (node_wrapped (shallow c) n)
      pub content : (c : Context) → Agree c → Keep R addr c.is_flat (n.content c) (wrappers_in n.tree (shallow c))

    abbrev pub NodeKeeps : Node → Type 0
    NodeKeeps n = NodeKeepsIn false n

    abbrev pub NodesKeepIn : Bool → List Node → Type 0
    NodesKeepIn only [] = Unit {0}
    NodesKeepIn only (n ∷ nodes) = NodeKeepsIn only n × NodesKeepIn only nodes

    abbrev pub NodesKeep : List Node → Type 0
    NodesKeep nodes = NodesKeepIn false nodes

    pub fits : (c : Context) → Fits false c
    fits c e = false-true e

    pub keep-either : (b : Bool) (in_line : Bool) (ps qs : List Part) (cs : List R.Seen)
        → (b ≡ true → Keep R addr in_line ps cs)
        → (b ≡ false → Keep R addr in_line qs cs) → Keep R addr in_line (cond b ps qs) cs
    keep-either true in_line ps qs cs g h = g refl
    keep-either false in_line ps qs cs g h = h refl

    pub keep-in : (b d : Bool) (ps : List Part) (cs : List R.Seen) → b ≡ d → Keep R addr d ps cs
        → Keep R addr b ps cs
    keep-in b d ps cs e h = subst (λ (x : Bool). Keep R addr x ps cs) (sym e) h

    module _ (only : Bool) where
      each-keeps : (nodes : List Node) → NodesKeepIn only nodes → (c : Context)
          → Agree c → Fits only c
          → Keep R addr c.is_flat (each_whole nodes c) (nodes_wrapped nodes (shallow c))
      each-keeps [] h c a o = keep-nil R addr c.is_flat
      each-keeps (n ∷ nodes) h c a o =
          keep-append R addr c.is_flat (n.whole c) (each_whole nodes c) (node_wrapped (shallow c) n)
          (nodes_wrapped nodes (shallow c)) (h.0.whole c a o) (each-keeps nodes h.1 c a o)

      -- ---- lists

      if-item : (b : Bool) (in_line : Bool) (ps : List Part) (cs : List R.Seen) → Keep R addr in_line ps cs
          → Keep R addr in_line (cond b [] ps) (cond b [] cs)
      if-item true in_line ps cs h = keep-nil R addr in_line
      if-item false in_line ps cs h = h

      before-keeps : (nodes : List Node) → NodesKeepIn only nodes → (c : Context)
          → Agree c → Fits only c
          → Keep R addr c.is_flat (before_items nodes c) (wrapped_before nodes (shallow c))
      before-keeps [] h c a o = keep-nil R addr c.is_flat
      before-keeps (n ∷ nodes) h c a o =
          if-item (is_item n) c.is_flat (n.whole c ++ before_items nodes c)
          (node_wrapped (shallow c) n ++ wrapped_before nodes (shallow c))
          (keep-append R addr c.is_flat (n.whole c) (before_items nodes c) (node_wrapped (shallow c) n)
          (wrapped_before nodes (shallow c)) (h.0.whole c a o) (before-keeps nodes h.1 c a o))

      behind-keeps : (nodes : List Node) → NodesKeepIn only nodes → (c : Context)
          → Agree c → Fits only c
          → Keep R addr c.is_flat (behind_item nodes c) (wrapped_before nodes (shallow c))
      behind-keeps [] h c a o = keep-nil R addr c.is_flat
      behind-keeps (n ∷ nodes) h c a o =
          let cs : List R.Seen = node_wrapped (shallow c) n ++ wrapped_before nodes (shallow c) in
          if-item (is_item n) c.is_flat (edge ∷ n.whole c ++ behind_item nodes c) cs
          (keep-edge R addr c.is_flat (n.whole c ++ behind_item nodes c) cs
          (keep-append R addr c.is_flat (n.whole c) (behind_item nodes c) (node_wrapped (shallow c) n)
          (wrapped_before nodes (shallow c)) (h.0.whole c a o) (behind-keeps nodes h.1 c a o)))

      either-items : (b : Bool) (xs ys : List ListItem) (ns ms : List Node) (c : Context)
          → (b ≡ true → items_wrapped R xs ≡ nodes_wrapped ns c)
          → (b ≡ false → items_wrapped R ys ≡ nodes_wrapped ms c)
          → items_wrapped R (cond b xs ys) ≡ nodes_wrapped (cond b ns ms) c
      either-items true xs ys ns ms c g h = g refl
      either-items false xs ys ns ms c g h = h refl

      items-keep : (nodes : List Node) → NodesKeepIn only nodes → (c : Context)
          → Agree c → Fits only c
          → c.is_flat ≡ false
          → items_wrapped R (items_of nodes c) ≡ nodes_wrapped (from_item nodes) (shallow c)
      items-keep [] h c a o e = refl
      items-keep (n ∷ nodes) h c a o e =
          let s : Context = shallow c in
          let rest : items_wrapped R (items_of nodes c) ≡ nodes_wrapped
          (from_item nodes) s = items-keep nodes h.1 c a o e in
          let parts : List Part = n.content c ++ behind_item nodes c in
          let cs : List R.Seen = wrappers_in n.tree s ++ wrapped_before nodes s in
          let keeps : Keep R addr c.is_flat parts cs =
          keep-append R addr c.is_flat (n.content c) (behind_item nodes c) (wrappers_in n.tree s)
          (wrapped_before nodes s)
          (h.0.content c a) (behind-keeps nodes h.1 c a o) in
          let is : read_blocks R (blocks_of true parts) ≡ cs =
          blocks-keep R addr true parts cs (keep-in false c.is_flat parts cs (sym e) keeps) in
          either-items (is_item n) (item_of n parts ∷ items_of nodes c) (items_of nodes c) (n ∷ nodes)
          (from_item nodes) s
          (λ i. ap (λ t. t ++ items_wrapped R (items_of nodes c)) is
          ∙ (ap (λ t. cs ++ t) rest
          ∙ (append_assoc (wrappers_in n.tree s) (wrapped_before nodes s) (nodes_wrapped (from_item nodes) s)
          ∙ (ap (λ t. wrappers_in n.tree s ++ t) (sym (parted-wrappers nodes s))
          ∙ ap (λ t. t ++ nodes_wrapped nodes s) (sym (item-wrappers n.tree s i))))))
          (λ i. rest)

      pub list-parts-keep-in : (start : Option ℤ) (nodes : List Node) → NodesKeepIn only nodes → (c : Context)
          → Agree c → Fits only c
          → Keep R addr c.is_flat (list_parts start nodes c) (nodes_wrapped nodes (shallow c))
      list-parts-keep-in start nodes h c a o =
          let s : Context = shallow c in
          let items : List ListItem = items_of nodes (deeper c) in
          let lists : List Part = lists_if_filled c.nested start items in
          let front : List Part = edge ∷ before_items nodes c in
          let cs : List R.Seen = wrapped_before nodes s in
          let ds : List R.Seen = nodes_wrapped (from_item nodes) s in
          keep-either (is_lined c) c.is_flat (apart (each_whole nodes c)) (front ++ edge ∷ lists ++ edge ∷ [])
          (nodes_wrapped nodes s)
          (λ e. keep-apart R addr c.is_flat (each_whole nodes c) (nodes_wrapped nodes s) (each-keeps nodes h c a o))
          (λ e.
          let flat : c.is_flat ≡ false = not-flat c e in
          let all : items_wrapped R items ≡ ds = items-keep nodes h (deeper c) a o flat in
          keep-same R addr c.is_flat (front ++ edge ∷ lists ++ edge ∷ []) (cs ++ ds) (nodes_wrapped nodes s)
          (sym (parted-wrappers nodes s))
          (keep-after R addr c.is_flat (front ++ edge ∷ lists) (edge ∷ []) (cs ++ ds)
          (keep-append R addr c.is_flat front (edge ∷ lists) cs ds
          (keep-edge R addr c.is_flat (before_items nodes c) cs (before-keeps nodes h c a o))
          (keep-edge R addr c.is_flat lists ds
          (keep-in c.is_flat false lists ds flat
          (keep-same R addr false lists (items_wrapped R items) ds all (lists-keep R addr c.nested start items)))))
          (keep-edges R addr c.is_flat)))

      -- ---- what follows each other

      either-row : (b : Bool) (n : Node) (nodes : List Node) → NodeKeepsIn only n → NodesKeepIn only nodes
          → NodesKeepIn only (cond b (n ∷ nodes) [])
      either-row true n nodes g h = (g, h)
      either-row false n nodes g h = tt

      row-keeps : (nodes : List Node) → NodesKeepIn only nodes → NodesKeepIn only (items_in_a_row nodes)
      row-keeps [] h = tt
      row-keeps (n ∷ nodes) h = either-row (goes_on n) n (items_in_a_row nodes) h.0 (row-keeps nodes h.1)

      either-after : (b : Bool) (in_line : Bool) (ps qs : List Part) (cs ds : List R.Seen) → Keep R addr in_line ps cs
          → Keep R addr in_line qs ds → Keep R addr in_line (cond b ps qs) (cond b cs ds)
      either-after true in_line ps qs cs ds g h = g
      either-after false in_line ps qs cs ds g h = h

      mutual
        pub flow-keeps-in : (nodes : List Node) → NodesKeepIn only nodes → (c : Context)
            → Agree c → Fits only c
            → Keep R addr c.is_flat (flow_all nodes c) (nodes_wrapped nodes (shallow c))
        flow-keeps-in [] h c a o = keep-nil R addr c.is_flat
        flow-keeps-in (n ∷ nodes) h c a o =
            let s : Context = shallow c in
            let items : List Node = n ∷ items_in_a_row nodes in
            keep-either (is_item n) c.is_flat (list_parts None items c ++ flow_after nodes c)
            (n.whole c ++ flow_all nodes c) (nodes_wrapped (n ∷ nodes) s)
            (λ e. keep-same R addr c.is_flat (list_parts None items c ++ flow_after nodes c)
            (nodes_wrapped items s ++ wrapped_after nodes s) (nodes_wrapped (n ∷ nodes) s)
            (append_assoc (node_wrapped s n) (nodes_wrapped (items_in_a_row nodes) s) (wrapped_after nodes s)
            ∙ ap (λ t. node_wrapped s n ++ t) (sym (row-wrappers nodes s)))
            (keep-append R addr c.is_flat (list_parts None items c) (flow_after nodes c) (nodes_wrapped items s)
            (wrapped_after nodes s) (list-parts-keep-in None items (h.0, row-keeps nodes h.1) c a o)
            (after-keeps nodes h.1 c a o)))
            (λ e. keep-append R addr c.is_flat (n.whole c) (flow_all nodes c) (node_wrapped s n)
            (nodes_wrapped nodes s)
            (h.0.whole c a o) (flow-keeps-in nodes h.1 c a o))

        after-keeps : (nodes : List Node) → NodesKeepIn only nodes → (c : Context)
            → Agree c → Fits only c
            → Keep R addr c.is_flat (flow_after nodes c) (wrapped_after nodes (shallow c))
        after-keeps [] h c a o = keep-nil R addr c.is_flat
        after-keeps (n ∷ nodes) h c a o =
            let s : Context = shallow c in
            either-after (goes_on n) c.is_flat (flow_after nodes c) (n.whole c ++ flow_all nodes c)
            (wrapped_after nodes s)
            (node_wrapped s n ++ nodes_wrapped nodes s) (after-keeps nodes h.1 c a o)
            (keep-append R addr c.is_flat (n.whole c) (flow_all nodes c) (node_wrapped s n) (nodes_wrapped nodes s)
            (h.0.whole c a o) (flow-keeps-in nodes h.1 c a o))

    pub list-parts-keep : (start : Option ℤ) (nodes : List Node) → NodesKeep nodes → (c : Context) → Agree c
        → Keep R addr c.is_flat (list_parts start nodes c) (nodes_wrapped nodes (shallow c))
    list-parts-keep start nodes h c a = list-parts-keep-in false start nodes h c a (fits c)

    pub flow-keeps : (nodes : List Node) → NodesKeep nodes → (c : Context) → Agree c
        → Keep R addr c.is_flat (flow_all nodes c) (nodes_wrapped nodes (shallow c))
    flow-keeps nodes h c a = flow-keeps-in false nodes h c a (fits c)
