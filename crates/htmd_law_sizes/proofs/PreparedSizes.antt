-- How big a simpler tree is within its budget, with its anchors, and with each link around its first pieces.
use Rattle.std.proofs.Common.{◌≡◌, refl, ℕ, suc, ◌+◌, ◌*◌, ◌≤◌, Bool, true, false, List, [], ◌∷◌, ◌++◌, length, arith}
use Rattle.std.specs.Prelude.{not, ◌&&◌, nat_le, nat_lt, filter, if◌then◌else◌, codes, Option, Some, None, is_some}
use Rattle.htmd_lexical.specs.AttributePairs.{AttributePair}
use Rattle.htmd_shown.specs.Attributes.{text_of, in_line, is_filled}
use Rattle.htmd_shown.specs.declared.role.Role.{Role}
use Rattle.htmd_shown.specs.declared.role.Role.TheVariants as role
use Rattle.htmd_shown.specs.Pieces.{Pieces, no_pieces, is_unseen, at_edge, pieces_after}
use Rattle.htmd_shown.specs.Pieces as pieces
use Rattle.htmd_shown.specs.Roles.{is_anchor, is_line_break, is_link, is_verbatim}
use Rattle.htmd_shown.specs.Shown.{followed_by}
use Rattle.htmd_shown.specs.SimpleTrees.{Simple, text, image, formula, embedded, anchor, element, Simples, none, more}
use Rattle.htmd_shown.specs.Spaces.{is_blank_text}
use Rattle.htmd_document_of_tree.specs.declared.anchors.Anchors.{Anchors}
use Rattle.htmd_document_of_tree.specs.declared.anchors.Anchors.TheVariants as which
use Rattle.htmd_document_of_tree.specs.Anchors.{targets_by, anchors, apart, before, stands_apart}
use Rattle.htmd_document_of_tree.specs.Anchors.{put_before, is_embedded, with_ids, after_anchors, preceded, Placing}
use Rattle.htmd_document_of_tree.specs.Anchors.{ids_up_to, targets_past, placed_before, after_leaf, placing_after}
use Rattle.htmd_document_of_tree.specs.Anchors.{placing_after_all, placed, all_placed, values_of, last_anchors}
use Rattle.htmd_document_of_tree.specs.Anchors.{anchored}
use Rattle.htmd_document_of_tree.specs.FirstPieces.{most_linked, unlinked, cut_leaf, cut, cut_all, pieced}
use Rattle.htmd_document_of_tree.specs.FirstPieces.{pieced_all}
use Rattle.htmd_document_of_tree.specs.Leadings.{all_leadings, is_linked_to, is_led_to}
use Rattle.htmd_document_of_tree.specs.Limits.{is_carrying, size, budget, cost, paid, affordable, within, all_within}
use Rattle.htmd_document_of_tree.specs.Limits.{left_after, limited}
use Rattle.htmd_shown.specs.Showings.{image_shows, code_shows}
use Rattle.htmd_document_of_tree.specs.Seen.{seen}
use Rattle.htmd_document_of_tree.specs.Targets.{Target, target_by, id_target, name_target, whole_in, own_targets}
use Rattle.htmd_document_of_tree.specs.Targets.{targets_inside, targets_among, ids_among, is_first, firsts_after}
use Rattle.htmd_document_of_tree.specs.Targets.{all_targets}
use Rattle.std.specs.Option.{unwrap_or}
use Rattle.htmd_law_sizes.specs.SimpleSizes.{size_of_ids, level_of, size_of_simple, size_of_simples}
use Rattle.htmd_law_sizes.specs.SizeLaws.{PreparedIsBounded}
use Rattle.htmd_law_sizes.specs.TreeSizes.{size_of_values}
use Rattle.htmd_document_of_tree.proofs.TextLengths.{line_le}
use Rattle.htmd_law_sizes.proofs.TextCosts.{text_le}

-- ---- within a budget

level_within : (left : Option ℕ) (r : Role) (attributes : List AttributePair)
    → level_of (affordable left r attributes) ≤ level_of r
level_within left r attributes =
    go (not (is_some left) && is_carrying r && nat_lt 0 (size r attributes)) (is_link r)
  where
    go : (t b : Bool) → level_of (if t then (if b then role.Target else role.Plain) else r) ≤ level_of r
    go true true = omega arith
    go true false = omega arith
    go false b = omega arith

mutual
  within_le : (left : Option ℕ) (t : Simple) → size_of_simple (within left t) ≤ size_of_simple t
  within_le left (text s) = omega arith
  within_le left (image address attributes) = omega arith
  within_le left (formula tex is_alone attributes) = omega arith
  within_le left (embedded id address title attributes ids) = omega arith
  within_le left (anchor id) = omega arith
  within_le left (element id r facts attributes content) =
      let now = paid left (cost r facts attributes) in
      omega (arith, level_within now r attributes, all_within_le now content)

  all_within_le : (left : Option ℕ) (ts : Simples) → size_of_simples (all_within left ts) ≤ size_of_simples ts
  all_within_le left none = omega arith
  all_within_le left (more t ts) = omega (arith, within_le left t, all_within_le (left_after left t) ts)

-- ---- targets

abbrev targets_size : List Target → ℕ
targets_size [] = 0
targets_size (t ∷ targets) = suc (length t.value) + targets_size targets

targets_append : (a b : List Target) → targets_size (a ++ b) ≡ targets_size a + targets_size b
targets_append [] b = omega arith
targets_append (t ∷ a) b = omega (arith, targets_append a b)

by_le : (counts : List ℕ → Bool) (n : ℕ) (is_name : Bool) (s : List ℕ)
    → targets_size (target_by counts n is_name s) ≤ 2 + 2 * length s
by_le counts n is_name s = go (is_filled (in_line s) && counts (in_line s))
  where
    go : (t : Bool)
        → targets_size (if t then record { value = in_line s; is_name = is_name; seen = n } ∷ [] else [])
        ≤ 2 + 2 * length s
    go true = omega (arith, line_le s)
    go false = omega arith

id_le : (counts : List ℕ → Bool) (n : ℕ) (attributes : List AttributePair)
    → targets_size (id_target counts n attributes) ≤ 2 + 2 * size_of_values attributes
id_le counts n attributes =
    omega (
      arith,
      by_le counts n false (text_of (codes "id") attributes),
      text_le (codes "id") attributes,
    )

name_le : (counts : List ℕ → Bool) (n : ℕ) (r : Role) (attributes : List AttributePair)
    → targets_size (name_target counts n r attributes) ≤ 2 + 2 * size_of_values attributes
name_le counts n r attributes = go (is_anchor r)
  where
    go : (t : Bool)
        → targets_size (if t then target_by counts n true (text_of (codes "name") attributes) else [])
        ≤ 2 + 2 * size_of_values attributes
    go true =
        omega (
          arith,
          by_le counts n true (text_of (codes "name") attributes),
          text_le (codes "name") attributes,
        )
    go false = omega arith

mutual
  targets_le : (counts : List ℕ → Bool) (whole : Option ℕ) (m n : ℕ) (t : Simple)
      → targets_size (own_targets counts m t) + targets_size (targets_inside counts whole n t) ≤ 4 * size_of_simple
      t
  targets_le counts whole m n (text s) = omega arith
  targets_le counts whole m n (image address attributes) = omega (arith, id_le counts m attributes)
  targets_le counts whole m n (formula tex is_alone attributes) = omega (arith, id_le counts m attributes)
  targets_le counts whole m n (embedded id address title attributes ids) = omega (arith, id_le counts m attributes)
  targets_le counts whole m n (anchor id) = omega arith
  targets_le counts whole m n (element id r facts attributes content) =
      omega (
        arith,
        targets_append (id_target counts m attributes) (name_target counts m r attributes),
        id_le counts m attributes,
        name_le counts m r attributes,
        all_targets_le counts (whole_in whole n r) n content,
      )

  all_targets_le : (counts : List ℕ → Bool) (whole : Option ℕ) (n : ℕ) (ts : Simples)
      → targets_size (targets_among counts whole n ts) ≤ 4 * size_of_simples ts
  all_targets_le counts whole n none = omega arith
  all_targets_le counts whole n (more t ts) =
      let a = own_targets counts (unwrap_or whole n) t in
      let b = targets_inside counts whole n t in
      let c = targets_among counts whole (n + seen t) ts in
      omega (
        arith,
        targets_append (a ++ b) c,
        targets_append a b,
        targets_append a (b ++ c),
        targets_append b c,
        targets_le counts whole (unwrap_or whole n) n t,
        all_targets_le counts whole (n + seen t) ts,
      )

firsts_le : (ids known : List (List ℕ)) (found : List Target)
    → targets_size (firsts_after ids known found) ≤ targets_size found
firsts_le ids known [] = omega arith
firsts_le ids known (t ∷ found) =
    go (is_first ids known t) (firsts_le ids (t.value ∷ known) found) (firsts_le ids known found)
  where
    go : (b : Bool)
        → targets_size (firsts_after ids (t.value ∷ known) found) ≤ targets_size found
        → targets_size (firsts_after ids known found) ≤ targets_size found
        → targets_size
        (if b then t ∷ firsts_after ids (t.value ∷ known) found else firsts_after ids known found)
        ≤ suc (length t.value) + targets_size found
    go true h i = omega (arith, h)
    go false h i = omega (arith, i)

kept_le : (p : Target → Bool) (found : List Target) → targets_size (filter p found) ≤ targets_size found
kept_le p [] = omega arith
kept_le p (t ∷ found) = go (p t) (kept_le p found)
  where
    go : (b : Bool) → targets_size (filter p found) ≤ targets_size found
        → targets_size (if b then t ∷ filter p found else filter p found) ≤ suc (length t.value) + targets_size
        found
    go true h = omega (arith, h)
    go false h = omega (arith, h)

found_le : (counts : List ℕ → Bool) (ts : Simples)
    → targets_size (all_targets counts ts) ≤ 4 * size_of_simples ts
found_le counts ts =
    let found = targets_among counts None 0 ts in
    omega (arith, firsts_le (ids_among found) [] found, all_targets_le counts None 0 ts)

by_which_le : (w : Anchors) (t : Bool) (ts : Simples) → targets_size (targets_by w t ts) ≤ 4 * size_of_simples ts
by_which_le which.Linked t ts =
    let l = all_leadings t ts in
    omega (
      arith,
      kept_le (λ (x : Target). is_led_to l x.value x.seen) (all_targets (is_linked_to l) ts),
      found_le (is_linked_to l) ts,
    )
by_which_le which.All t ts = found_le (λ s. true) ts
by_which_le which.None t ts = omega arith

-- ---- anchors

anchors_size : (ids : List (List ℕ)) → size_of_simples (anchors ids) ≡ size_of_ids ids
anchors_size [] = refl
anchors_size (id ∷ ids) = omega (arith, anchors_size ids)

followed_size : (a b : Simples) → size_of_simples (followed_by a b) ≡ size_of_simples a + size_of_simples b
followed_size none b = omega arith
followed_size (more t a) b = omega (arith, followed_size a b)

ids_append : (a b : List (List ℕ)) → size_of_ids (a ++ b) ≡ size_of_ids a + size_of_ids b
ids_append [] b = omega arith
ids_append (x ∷ a) b = omega (arith, ids_append a b)

put_le : (found : Simples) (t : Simple) → size_of_simple (put_before found t)
    ≤ 2 + size_of_simples found + size_of_simple t
put_le found t = go (stands_apart t)
  where
    go : (b : Bool)
        → size_of_simple (before (if b then more (apart found) none else found) t)
        ≤ 2 + size_of_simples found + size_of_simple t
    go true = omega arith
    go false = omega (arith, followed_size found (more t none))

after_le : (ids : List (List ℕ)) (t : Simple) → size_of_simple (after_anchors ids t)
    ≤ size_of_simple t + 3 * size_of_ids ids
after_le [] t = omega arith
after_le (id ∷ ids) t = omega (arith, put_le (anchors (id ∷ ids)) t, anchors_size (id ∷ ids))

with_le : (ids : List (List ℕ)) (t : Simple)
    → size_of_simple (with_ids ids t) ≤ size_of_simple t + size_of_ids ids
with_le ids (text s) = omega arith
with_le ids (image address attributes) = omega arith
with_le ids (formula tex is_alone attributes) = omega arith
with_le ids (embedded id address title attributes found) = omega (arith, ids_append found ids)
with_le ids (anchor id) = omega arith
with_le ids (element id r facts attributes content) = omega arith

preceded_le : (ids : List (List ℕ)) (t : Simple) → size_of_simple (preceded ids t)
    ≤ size_of_simple t + 3 * size_of_ids ids
preceded_le ids t = go (is_embedded t)
  where
    go : (b : Bool)
        → size_of_simple (if b then with_ids ids t else after_anchors ids t) ≤ size_of_simple t + 3 * size_of_ids
        ids
    go true = omega (arith, with_le ids t)
    go false = after_le ids t

-- those that are put and those that are left
cut_targets : (n : ℕ) (targets : List Target)
    → size_of_ids (ids_up_to n targets) + targets_size (targets_past n targets) ≤ targets_size targets
cut_targets n [] = omega arith
cut_targets n (t ∷ targets) = go (nat_le t.seen n) (cut_targets n targets)
  where
    go : (b : Bool) → size_of_ids (ids_up_to n targets) + targets_size (targets_past n targets) ≤ targets_size
        targets
        → size_of_ids (if b then t.value ∷ ids_up_to n targets else [])
        + targets_size (if b then targets_past n targets else t ∷ targets)
        ≤ suc (length t.value) + targets_size targets
    go true h = omega (arith, h)
    go false h = omega arith

leaf_le : (p : Placing) (shows : Bool) (t : Simple)
    → size_of_simple (placed_before p shows t) + 3 * targets_size (after_leaf p shows).targets
    ≤ size_of_simple t + 3 * targets_size p.targets
leaf_le p true t =
    omega (arith, preceded_le (ids_up_to p.seen p.targets) t, cut_targets p.seen p.targets)
leaf_le p false t = omega arith

mutual
  placed_le : (p : Placing) (t : Simple)
      → size_of_simple (placed p t) + 3 * targets_size (placing_after p t).targets
      ≤ size_of_simple t + 3 * targets_size p.targets
  placed_le p (text s) = leaf_le p (not (is_blank_text s)) (text s)
  placed_le p (image address attributes) = leaf_le p (image_shows address attributes) (image address attributes)
  placed_le p (formula tex is_alone attributes) = leaf_le p true (formula tex is_alone attributes)
  placed_le p (embedded id address title attributes found) = leaf_le p true (embedded id address title attributes found)
  placed_le p (anchor id) = omega arith
  placed_le p (element id r facts attributes content) = go (is_verbatim r) (all_placed_le p content)
    where
      t : Simple
      t = element id r facts attributes content

      go : (b : Bool)
          → size_of_simples (all_placed p content) + 3 * targets_size (placing_after_all p content).targets
          ≤ size_of_simples content + 3 * targets_size p.targets
          → size_of_simple
          (if b then placed_before p (code_shows content) t else element id r facts attributes (all_placed p content))
          + 3 * targets_size (if b then after_leaf p (code_shows content) else placing_after_all p content).targets
          ≤ size_of_simple t + 3 * targets_size p.targets
      go true h = leaf_le p (code_shows content) t
      go false h = omega (arith, h)

  all_placed_le : (p : Placing) (ts : Simples)
      → size_of_simples (all_placed p ts) + 3 * targets_size (placing_after_all p ts).targets
      ≤ size_of_simples ts + 3 * targets_size p.targets
  all_placed_le p none = omega arith
  all_placed_le p (more t ts) = omega (arith, placed_le p t, all_placed_le (placing_after p t) ts)

values_size : (targets : List Target) → size_of_ids (values_of targets) ≡ targets_size targets
values_size [] = refl
values_size (t ∷ targets) = omega (arith, values_size targets)

last_le : (targets : List Target) → size_of_simples (last_anchors targets) ≤ 3 * targets_size targets
last_le [] = omega arith
last_le (t ∷ targets) =
    omega (arith, anchors_size (values_of (t ∷ targets)), values_size (t ∷ targets))

anchored_le : (w : Anchors) (t : Bool) (ts : Simples) → size_of_simples (anchored w t ts) ≤ 13 * size_of_simples ts
anchored_le w t ts =
    let p : Placing = record { seen = 0; targets = targets_by w t ts } in
    let l = (placing_after_all p ts).targets in
    omega (
      arith,
      followed_size (all_placed p ts) (last_anchors l),
      all_placed_le p ts,
      last_le l,
      by_which_le w t ts,
    )

-- ---- first pieces

positive : (t : Simple) → 1 ≤ size_of_simple t
positive (text s) = omega arith
positive (image address attributes) = omega arith
positive (formula tex is_alone attributes) = omega arith
positive (embedded id address title attributes found) = omega arith
positive (anchor id) = omega arith
positive (element id r facts attributes content) = omega arith

leaf_cut : (p : Pieces) (t : Simple) → size_of_simple (cut_leaf p t) ≤ 2 * size_of_simple t
leaf_cut p t = go (not (is_unseen t) && nat_lt most_linked (pieces.after_leaf p t).count)
  where
    go : (b : Bool) → size_of_simple (if b then unlinked t else t) ≤ 2 * size_of_simple t
    go true = omega (arith, positive t)
    go false = omega arith

mutual
  cut_le : (p : Pieces) (t : Simple) → size_of_simple (cut p t) ≤ 2 * size_of_simple t
  cut_le p (text s) = leaf_cut p (text s)
  cut_le p (image address attributes) = leaf_cut p (image address attributes)
  cut_le p (formula tex is_alone attributes) = leaf_cut p (formula tex is_alone attributes)
  cut_le p (embedded id address title attributes found) = leaf_cut p (embedded id address title attributes found)
  cut_le p (anchor id) = omega arith
  cut_le p (element id r facts attributes content) =
      go (is_verbatim r) (is_line_break r) (cut_all_le (at_edge r p) content)
    where
      t : Simple
      t = element id r facts attributes content

      go : (a b : Bool) → size_of_simples (cut_all (at_edge r p) content) ≤ 2 * size_of_simples content
          → size_of_simple
          (if a then cut_leaf p t
          else element id r facts attributes (if b then content else cut_all (at_edge r p) content))
          ≤ 2 * size_of_simple t
      go true b h = leaf_cut p t
      go false true h = omega arith
      go false false h = omega (arith, h)

  cut_all_le : (p : Pieces) (ts : Simples) → size_of_simples (cut_all p ts) ≤ 2 * size_of_simples ts
  cut_all_le p none = omega arith
  cut_all_le p (more t ts) = omega (arith, cut_le p t, cut_all_le (pieces_after p t) ts)

mutual
  pieced_le : (t : Simple) → size_of_simple (pieced t) ≤ 2 * size_of_simple t
  pieced_le (text s) = omega arith
  pieced_le (image address attributes) = omega arith
  pieced_le (formula tex is_alone attributes) = omega arith
  pieced_le (embedded id address title attributes found) = omega arith
  pieced_le (anchor id) = omega arith
  pieced_le (element id r facts attributes content) =
      go (is_link r) (cut_all_le no_pieces content) (all_pieced_le content)
    where
      go : (b : Bool) → size_of_simples (cut_all no_pieces content) ≤ 2 * size_of_simples content
          → size_of_simples (pieced_all content) ≤ 2 * size_of_simples content
          → size_of_simple
          (element id r facts attributes (if b then cut_all no_pieces content else pieced_all content))
          ≤ 2 * size_of_simple (element id r facts attributes content)
      go true h i = omega (arith, h)
      go false h i = omega (arith, i)

  all_pieced_le : (ts : Simples) → size_of_simples (pieced_all ts) ≤ 2 * size_of_simples ts
  all_pieced_le none = omega arith
  all_pieced_le (more t ts) = omega (arith, pieced_le t, all_pieced_le ts)

pub prepared_is_bounded : PreparedIsBounded
prepared_is_bounded w t trees =
    let l = limited trees in
    omega (
      arith,
      all_pieced_le (anchored w t l),
      anchored_le w t l,
      all_within_le (Some (budget trees)) trees,
    )
