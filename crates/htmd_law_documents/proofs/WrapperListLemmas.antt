-- Lists keep the wrappers of their items, in order.
use Rattle.std.proofs.Common.{◌≡◌, ℕ, Bool, true, false, cond, List, [], ◌∷◌, ◌++◌, map, refl, sym, ◌∙◌, ap}
use Rattle.std.proofs.Common.{append_assoc}
use Rattle.std.proofs.Common.{Option, Some, None, fold, length, ◌||◌}
use Rattle.std.specs.Prelude.{ℤ}
use Rattle.std.specs.List.{flat_map}
use Rattle.std.proofs.lemmas.List.{append-nil}
use Rattle.std.proofs.lemmas.Grind.{flat_map-append}
use Rattle.htmd_lexical.proofs.Cases.{test}
use Rattle.htmd_document.specs.Documents.{Blocks, no_blocks, block, items_of, list}
use Rattle.htmd_flow.specs.Lists.{ListItem, are_filled, is_tight, list_of, numbered, new_number, Groups}
use Rattle.htmd_document.specs.TightItems.{is_filled}
use Rattle.htmd_flow.specs.Lists.{groups_at, with_number, with_item, ended, numbered_lists, lists_of}
use Rattle.htmd_flow.specs.Lists.{lists_if_filled}
use Rattle.htmd_flow.specs.Lists.{start_of}
use Rattle.htmd_flow.specs.Parts.{Part}
use Rattle.htmd_law_documents.proofs.Readers.{Reader, read_blocks, read_items}
use Rattle.htmd_law_documents.proofs.WrapperPartsLemmas.{Keep, keep-nil, keep-append, keep-same, keep-whole}

module _ (R : Reader) where
  abbrev pub item_wrapped : ListItem → List R.Seen
  item_wrapped i = read_blocks R i.blocks

  abbrev pub items_wrapped : List ListItem → List R.Seen
  items_wrapped items = flat_map item_wrapped items

  list-wrappers : (items : List ListItem)
      → read_items R (items_of (map (λ (i : ListItem). i.blocks) items)) ≡ items_wrapped items
  list-wrappers [] = refl
  list-wrappers (i ∷ items) = ap (λ t. item_wrapped i ++ t) (list-wrappers items)

  empty-item : (bs : Blocks) → is_filled bs ≡ false → read_blocks R bs ≡ []
  empty-item no_blocks e = refl
  empty-item (block b bs) e = absurd (clash e)
    where
      clash : true ≡ false → ⊥
      clash p = (cc)

  empty-items : (items : List ListItem) → are_filled items ≡ false → items_wrapped items ≡ []
  empty-items [] e = refl
  empty-items (i ∷ items) e = test (is_filled i.blocks)
      (λ h. absurd (clash (sym (ap (λ b. b || are_filled items) h) ∙ e)))
      (λ h. ap (λ t. t ++ items_wrapped items) (empty-item i.blocks h)
      ∙ empty-items items (sym (ap (λ b. b || are_filled items) h) ∙ e))
    where
      clash : true ≡ false → ⊥
      clash p = (cc)

  more-in_wrappers : (xs : List ListItem) (i : ListItem) → items_wrapped (xs ++ i ∷ []) ≡ items_wrapped xs
      ++ item_wrapped i
  more-in_wrappers xs i = flat_map-append item_wrapped xs (i ∷ [])
      ∙ ap (λ t. items_wrapped xs ++ t) (append-nil (item_wrapped i))

  module _ (addr : ℕ → R.Wrap) where
    list-keeps : (start : Option ℕ) (items : List ListItem)
        → Keep R addr false (list_of start items ∷ []) (items_wrapped items)
    list-keeps start items =
        keep-whole R addr (list start (is_tight items) (items_of (map (λ (i : ListItem). i.blocks) items)))
        (items_wrapped items) (list-wrappers items)

    if-filled : (b : Bool) (items : List ListItem) (ps : List Part) → are_filled items ≡ b
        → Keep R addr false ps (items_wrapped items) → Keep R addr false (cond b ps []) (items_wrapped items)
    if-filled true items ps e h = h
    if-filled false items ps e h =
        keep-same R addr false [] [] (items_wrapped items) (sym (empty-items items e)) (keep-nil R addr false)

    numbered-keeps : (nested : ℕ) (start : ℤ) (items : List ListItem)
        → Keep R addr false (numbered nested start items) (items_wrapped items)
    numbered-keeps nested start items =
        if-filled (are_filled items) items (list_of (start_of nested start (length items)) items ∷ []) refl
        (list-keeps (start_of nested start (length items)) items)

    record GroupsKeep (g : Groups) (cs : List R.Seen) : Type 0 where
      before : List R.Seen
      done : Keep R addr false g.done before
      is : cs ≡ before ++ items_wrapped g.group

    number-keeps : (o : Option ℤ) (g : Groups) (i : ListItem) (cs : List R.Seen) → GroupsKeep g cs
        → GroupsKeep (with_number g i o) (cs ++ item_wrapped i)
    number-keeps None g i cs h = record {
      before = h.before;
      done = h.done;
      is = ap (λ t. t ++ item_wrapped i) h.is
          ∙ (append_assoc h.before (items_wrapped g.group) (item_wrapped i)
          ∙ ap (λ t. h.before ++ t) (sym (more-in_wrappers g.group i)));
    }
    number-keeps (Some v) g i cs h = record {
      before = h.before ++ items_wrapped g.group;
      done = keep-append R addr false g.done (numbered g.nested g.start g.group) h.before
          (items_wrapped g.group) h.done (numbered-keeps g.nested g.start g.group);
      is = ap (λ t. t ++ item_wrapped i) h.is
          ∙ ap (λ t. (h.before ++ items_wrapped g.group) ++ t) (sym (append-nil (item_wrapped i)));
    }

    groups-keep : (items : List ListItem) (g : Groups) (cs : List R.Seen) → GroupsKeep g cs
        → GroupsKeep (fold with_item g items) (cs ++ items_wrapped items)
    groups-keep [] g cs h = record { before = h.before; done = h.done; is = append-nil cs ∙ h.is }
    groups-keep (i ∷ items) g cs h =
        let next : GroupsKeep (fold with_item (with_item g i) items) ((cs ++ item_wrapped i) ++ items_wrapped items) =
        groups-keep items (with_item g i) (cs ++ item_wrapped i) (number-keeps (new_number g.next i.value) g i cs h) in
        record {
          before = next.before;
          done = next.done;
          is = sym (append_assoc cs (item_wrapped i) (items_wrapped items)) ∙ next.is;
        }

    numbered_lists-keep : (nested : ℕ) (start : ℤ) (items : List ListItem)
        → Keep R addr false (numbered_lists nested start items) (items_wrapped items)
    numbered_lists-keep nested start items =
        let empty : GroupsKeep (groups_at nested start) [] =
        record { before = []; done = keep-nil R addr false; is = refl } in
        let g : Groups = fold with_item (groups_at nested start) items in
        let all : GroupsKeep g (items_wrapped items) = groups-keep items (groups_at nested start) [] empty in
        keep-same R addr false (ended g) (all.before ++ items_wrapped g.group) (items_wrapped items) (sym all.is)
        (keep-append R addr false g.done (numbered g.nested g.start g.group) all.before (items_wrapped g.group) all.done
        (numbered-keeps g.nested g.start g.group))

    lists_of-keep : (nested : ℕ) (start : Option ℤ) (items : List ListItem)
        → Keep R addr false (lists_of nested start items) (items_wrapped items)
    lists_of-keep nested None items = list-keeps None items
    lists_of-keep nested (Some start) items = numbered_lists-keep nested start items

    pub lists-keep : (nested : ℕ) (start : Option ℤ) (items : List ListItem)
        → Keep R addr false (lists_if_filled nested start items) (items_wrapped items)
    lists-keep nested start items =
        if-filled (are_filled items) items (lists_of nested start items) refl (lists_of-keep nested start items)
