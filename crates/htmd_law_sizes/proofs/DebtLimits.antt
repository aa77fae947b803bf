-- What the links and abbreviations of a simpler tree say for each leaf in them: within the budget, and not more with
-- anchors and in pieces.
use Rattle.std.proofs.Common.{◌≡◌, ◌∙◌, refl, sym, ap, ℕ, suc, ◌+◌, ◌-◌, ◌*◌, ◌≤◌, Bool, true, false, List, [], ◌∷◌}
use Rattle.std.proofs.Common.{length, zero-mul, mul-le-mul_left, arith}
use Rattle.std.proofs.lemmas.Bool.Decides.{nat_tests}
use Rattle.std.specs.Prelude.{not, ◌&&◌, min, nat_le, nat_lt, if◌then◌else◌, codes, Option, Some, None, is_some}
use Rattle.htmd_lexical.specs.AttributePairs.{AttributePair}
use Rattle.htmd_shown.specs.declared.facts.Facts.{Facts}
use Rattle.htmd_shown.specs.declared.role.Role.{Role}
use Rattle.htmd_shown.specs.declared.role.Role.TheVariants as role
use Rattle.htmd_shown.specs.Pieces.{Pieces, no_pieces, greatest_count, is_unseen, at_edge, pieces_after}
use Rattle.htmd_shown.specs.Pieces as pieces
use Rattle.htmd_shown.specs.Roles.{is_among, is_line_break, is_link, is_verbatim}
use Rattle.htmd_shown.specs.Shown.{followed_by}
use Rattle.htmd_shown.specs.SimpleTrees.{Simple, text, image, formula, embedded, anchor, element, Simples, none, more}
use Rattle.htmd_shown.specs.Spaces.{is_blank_text}
use Rattle.htmd_document_of_tree.specs.declared.anchors.Anchors.{Anchors}
use Rattle.htmd_document_of_tree.specs.Anchors.{targets_by, anchors, apart, before, stands_apart, put_before, is_embedded}
use Rattle.htmd_document_of_tree.specs.Anchors.{with_ids, after_anchors, preceded, Placing, ids_up_to, placed_before}
use Rattle.htmd_document_of_tree.specs.Anchors.{placing_after, placing_after_all, placed, all_placed, values_of}
use Rattle.htmd_document_of_tree.specs.Anchors.{last_anchors, anchored}
use Rattle.htmd_document_of_tree.specs.FirstPieces.{most_linked, unlinked, cut_leaf, cut, cut_all, pieced, pieced_all}
use Rattle.htmd_document_of_tree.specs.Limits.{is_carrying, size, pair_of, Written, nothing_written, with_pair}
use Rattle.htmd_document_of_tree.specs.Limits.{with_element, written, written_all, budget, link_cost, cost, paid}
use Rattle.htmd_document_of_tree.specs.Limits.{left_after, left_after_all, affordable, within, all_within, limited}
use Rattle.htmd_shown.specs.Showings.{image_shows, code_shows}
use Rattle.htmd_document_of_tree.specs.Targets.{Target}
use Rattle.htmd_law_sizes.specs.SimpleSizes.{size_of_simple, size_of_simples}
use Rattle.htmd_law_sizes.specs.TreeSizes.{size_of_values}
use Rattle.htmd_document_of_tree.proofs.TextLengths.{characters_le}
use Rattle.htmd_law_sizes.proofs.Debts.{link_size}
use Rattle.htmd_law_sizes.proofs.Leaves.{leaves, leaves_among, said_by, named_by, own, own_among}
use Rattle.htmd_document_of_tree.proofs.TextLengths.{size_le}
use Rattle.htmd_law_sizes.proofs.TextCosts.{text_le}

-- ---- links and the rest

abbrev mutual
  pub links : Simple → ℕ
  links (text s) = 0
  links (image address attributes) = 0
  links (formula tex is_alone attributes) = 0
  links (embedded id address title attributes ids) = 0
  links (anchor id) = 0
  links (element id r facts attributes content) = said_by r attributes content + links_among content

  pub links_among : Simples → ℕ
  links_among none = 0
  links_among (more t ts) = links t + links_among ts

named_le : (r : Role) → named_by r ≤ 64
named_le r = go (is_verbatim r)
  where
    go : (t : Bool) → (if t then 64 else 0) ≤ 64
    go true = omega arith
    go false = omega arith

embedded_le : (address : List ℕ) → link_size address None ≤ length address
embedded_le address = omega (arith, characters_le address, characters_le [])

mutual
  own_parts : (t : Simple) → own t ≤ links t + 64 * size_of_simple t
  own_parts (text s) = omega arith
  own_parts (image address attributes) = omega arith
  own_parts (formula tex is_alone attributes) = omega arith
  own_parts (embedded id address title attributes ids) = omega (arith, embedded_le address)
  own_parts (anchor id) = omega arith
  own_parts (element id r facts attributes content) = omega (arith, all_parts content, named_le r)

  pub all_parts : (ts : Simples) → own_among ts ≤ links_among ts + 64 * size_of_simples ts
  all_parts none = omega arith
  all_parts (more t ts) = omega (arith, own_parts t, all_parts ts)

-- ---- the budget

said_le : (r : Role) (attributes : List AttributePair) → size r attributes ≤ 1 + 4 * size_of_values attributes
said_le r attributes =
    omega (arith, size_le r attributes, text_le (codes "href") attributes, text_le (codes "title") attributes)

pair_le : (w : Written) (r : Role) (attributes : List AttributePair)
    → (with_pair w r attributes).count ≤ w.count + 1 + 4 * size_of_values attributes
pair_le w r attributes = go (is_among w.pairs (pair_of r attributes))
  where
    go : (t : Bool)
        → (if t then w else record {
          count = w.count + size r attributes;
          pairs =
              pair_of r attributes ∷ w.pairs;
        }).count
        ≤ w.count + 1 + 4 * size_of_values attributes
    go true = omega arith
    go false = omega (arith, said_le r attributes)

element_le : (w : Written) (r : Role) (attributes : List AttributePair)
    → (with_element w r attributes).count ≤ w.count + 1 + 4 * size_of_values attributes
element_le w r attributes = go (is_carrying r)
  where
    go : (t : Bool)
        → (if t then with_pair w r attributes else w).count ≤ w.count + 1 + 4 * size_of_values attributes
    go true = pair_le w r attributes
    go false = omega arith

mutual
  written_le : (w : Written) (t : Simple) → (written w t).count ≤ w.count + 4 * size_of_simple t
  written_le w (text s) = omega (arith, characters_le s)
  written_le w (image address attributes) = omega arith
  written_le w (formula tex is_alone attributes) = omega arith
  written_le w (embedded id address title attributes ids) = omega arith
  written_le w (anchor id) = omega arith
  written_le w (element id r facts attributes content) =
      omega (arith, written_all_le (with_element w r attributes) content, element_le w r attributes)

  written_all_le : (w : Written) (ts : Simples) → (written_all w ts).count ≤ w.count + 4 * size_of_simples ts
  written_all_le w none = omega arith
  written_all_le w (more t ts) = omega (arith, written_all_le (written w t) ts, written_le w t)

budget_le : (ts : Simples) → budget ts ≤ 64 * size_of_simples ts + 65536
budget_le ts = omega (arith, written_all_le nothing_written ts)

-- ---- within the budget

-- an element knows how many leaves are in it, as far as they can be counted
abbrev mutual
  pub Counted : Simple → Type 0
  Counted (text s) = Unit {0}
  Counted (image address attributes) = Unit {0}
  Counted (formula tex is_alone attributes) = Unit {0}
  Counted (embedded id address title attributes ids) = Unit {0}
  Counted (anchor id) = Unit {0}
  Counted (element id r facts attributes content) =
      (min greatest_count (leaves_among content) ≤ facts.leaves) × AllCounted content

  pub AllCounted : Simples → Type 0
  AllCounted none = Unit {0}
  AllCounted (more t ts) = Counted t × AllCounted ts

carrying_plain : (r : Role) → is_carrying r ≡ true → is_verbatim r ≡ false
carrying_plain (role.Format f) h = refl
carrying_plain (role.Element f) h = refl
carrying_plain role.Abbreviation h = refl
carrying_plain role.Code h = refl
carrying_plain role.Typed h = refl
carrying_plain role.Link h = refl
carrying_plain role.Target h = refl
carrying_plain role.Apart h = refl
carrying_plain role.LineBreak h = refl
carrying_plain role.Input h = refl
carrying_plain (role.Heading level) h = refl
carrying_plain role.Paragraph h = refl
carrying_plain role.Preformatted h = absurd (cc)
carrying_plain role.Verbatim h = absurd (cc)
carrying_plain role.BlockQuote h = refl
carrying_plain role.ThematicBreak h = refl
carrying_plain role.BulletList h = refl
carrying_plain role.NumberedList h = refl
carrying_plain role.Item h = refl
carrying_plain role.Terms h = refl
carrying_plain role.Term h = refl
carrying_plain role.Meaning h = refl
carrying_plain role.Table h = refl
carrying_plain role.LayoutTable h = refl
carrying_plain role.Caption h = refl
carrying_plain role.TableHead h = refl
carrying_plain role.TableBody h = refl
carrying_plain role.Row h = refl
carrying_plain role.Cell h = refl
carrying_plain role.HeaderCell h = refl
carrying_plain role.Division h = refl
carrying_plain role.Figure h = refl
carrying_plain role.FigureCaption h = refl
carrying_plain role.Details h = refl
carrying_plain role.Summary h = refl
carrying_plain role.Legend h = refl
carrying_plain role.Block h = refl
carrying_plain role.Plain h = refl
carrying_plain role.Anchors h = refl
carrying_plain role.Unlinked h = refl

plain_verbatim : (left : Option ℕ) (r : Role) (attributes : List AttributePair)
    → is_verbatim (affordable left r attributes) ≡ is_verbatim r
plain_verbatim left r attributes =
    go (not (is_some left)) (is_carrying r) refl (nat_lt 0 (size r attributes)) (is_link r)
  where
    go : (a b : Bool) → is_carrying r ≡ b → (c d : Bool)
        → is_verbatim (if a && b && c then (if d then role.Target else role.Plain) else r) ≡ is_verbatim r
    go true true e true true = sym (carrying_plain r e)
    go true true e true false = sym (carrying_plain r e)
    go true true e false d = refl
    go true false e c d = refl
    go false b e c d = refl

mutual
  leaves_within : (left : Option ℕ) (t : Simple) → leaves (within left t) ≡ leaves t
  leaves_within left (text s) = refl
  leaves_within left (image address attributes) = refl
  leaves_within left (formula tex is_alone attributes) = refl
  leaves_within left (embedded id address title attributes ids) = refl
  leaves_within left (anchor id) = refl
  leaves_within left (element id r facts attributes content) =
      let now = paid left (cost r facts attributes) in
      ap (λ (b : Bool). if b then 1 else leaves_among (all_within now content)) (plain_verbatim now r attributes)
      ∙ ap (λ (n : ℕ). if is_verbatim r then 1 else n) (all_leaves_within now content)

  all_leaves_within : (left : Option ℕ) (ts : Simples) → leaves_among (all_within left ts) ≡ leaves_among ts
  all_leaves_within left none = refl
  all_leaves_within left (more t ts) =
      omega (arith, leaves_within left t, all_leaves_within (left_after left t) ts)

abbrev value : Option ℕ → ℕ
value None = 0
value (Some n) = n

positive : (n : ℕ) → nat_lt 0 n ≡ false → n ≡ 0
positive n h = grind (arith, nat_tests)

at_most : (a b : ℕ) → nat_le a b ≡ true → a ≤ b
at_most a b h = grind (arith, nat_tests)

below : (a b : ℕ) → nat_lt a b ≡ true → suc a ≤ b
below a b h = grind (arith, nat_tests)

-- what an element says by a test of whether it says something
abbrev said_if : Bool → Role → List AttributePair → Simples → ℕ
said_if b r attributes content = if b then size r attributes * leaves_among content else 0

-- a link or an abbreviation that can't be paid is none
unpaid : (r : Role) (attributes : List AttributePair) (content : Simples)
    → said_by (affordable None r attributes) attributes content ≡ 0
unpaid r attributes content = go (is_carrying r) refl (nat_lt 0 (size r attributes)) refl (is_link r)
  where
    go : (b : Bool) → is_carrying r ≡ b → (c : Bool) → nat_lt 0 (size r attributes) ≡ c → (d : Bool)
        → said_by (if true && b && c then (if d then role.Target else role.Plain) else r) attributes content ≡ 0
    go true e true f true = refl
    go true e true f false = refl
    go true e false f d =
        ap (λ (x : Bool). said_if x r attributes content) e
        ∙ (ap (λ (n : ℕ). n * leaves_among content) (positive (size r attributes) f)
        ∙ zero-mul (leaves_among content))
    go false e c f d = ap (λ (x : Bool). said_if x r attributes content) e

-- what it says is what it costs
paid_le : (left : Option ℕ) (r : Role) (facts : Facts) (attributes : List AttributePair) (content : Simples)
    → min greatest_count (leaves_among content) ≤ facts.leaves
    → said_by (affordable (paid left (cost r facts attributes)) r attributes) attributes content
    + value (paid left (cost r facts attributes)) ≤ value left
paid_le None r facts attributes content h = omega (arith, unpaid r attributes content)
paid_le (Some n) r facts attributes content h = go (is_carrying r) refl
  where
    m : ℕ
    m = size r attributes * facts.leaves

    says : (b : Bool) → is_carrying r ≡ b → said_by r attributes content ≡ said_if b r attributes content
    says b e = ap (λ (x : Bool). said_if x r attributes content) e

    priced : (x : Bool) → nat_le m n ≡ x → is_carrying r ≡ true → suc facts.leaves ≤ greatest_count
        → said_by (affordable (if x then Some (n - m) else None) r attributes) attributes content
        + value (if x then Some (n - m) else None) ≤ n
    priced true f e g =
        let i : leaves_among content ≤ facts.leaves = omega (arith, h, g) in
        omega (arith, says true e, mul-le-mul_left (size r attributes) i, at_most m n f)
    priced false f e g = omega (arith, unpaid r attributes content)

    counted : (x : Bool) → nat_lt facts.leaves greatest_count ≡ x → is_carrying r ≡ true
        → said_by (affordable (paid (Some n) (if x then Some m else None)) r attributes) attributes content
        + value (paid (Some n) (if x then Some m else None)) ≤ n
    counted true f e = priced (nat_le m n) refl e (below facts.leaves greatest_count f)
    counted false f e = omega (arith, unpaid r attributes content)

    free : (x : Bool) → is_carrying r ≡ false
        → said_by (affordable (if x then Some (n - 0) else None) r attributes) attributes content
        + value (if x then Some (n - 0) else None) ≤ n
    free true e = omega (arith, says false e)
    free false e = omega (arith, unpaid r attributes content)

    go : (b : Bool) → is_carrying r ≡ b
        → said_by
        (affordable (paid (Some n) (if b then link_cost (size r attributes) facts.leaves else Some 0)) r attributes)
        attributes content
        + value (paid (Some n) (if b then link_cost (size r attributes) facts.leaves else Some 0)) ≤ n
    go true e = counted (nat_lt facts.leaves greatest_count) refl e
    go false e = free (nat_le 0 n) e

same_leaves : (r : Role) (attributes : List AttributePair) (a b : Simples) → leaves_among a ≡ leaves_among b
    → said_by r attributes a ≡ said_by r attributes b
same_leaves r attributes a b e = ap (λ (n : ℕ). if is_carrying r then size r attributes * n else 0) e

mutual
  links_within : (left : Option ℕ) (t : Simple) → Counted t
      → links (within left t) + value (left_after left t) ≤ value left
  links_within left (text s) h = omega arith
  links_within left (image address attributes) h = omega arith
  links_within left (formula tex is_alone attributes) h = omega arith
  links_within left (embedded id address title attributes ids) h = omega arith
  links_within left (anchor id) h = omega arith
  links_within left (element id r facts attributes content) h =
      let now = paid left (cost r facts attributes) in
      omega (
        arith,
        same_leaves (affordable now r attributes) attributes (all_within now content) content
            (all_leaves_within now content),
        paid_le left r facts attributes content h.0,
        all_links_within now content h.1,
      )

  all_links_within : (left : Option ℕ) (ts : Simples) → AllCounted ts
      → links_among (all_within left ts) + value (left_after_all left ts) ≤ value left
  all_links_within left none h = omega arith
  all_links_within left (more t ts) h =
      omega (arith, links_within left t h.0, all_links_within (left_after left t) ts h.1)

-- ---- anchors

anchors_none : (ids : List (List ℕ)) → (leaves_among (anchors ids) ≡ 0) × (links_among (anchors ids) ≡ 0)
anchors_none [] = (refl, refl)
anchors_none (id ∷ ids) = let i = anchors_none ids in (omega (arith, i.0), omega (arith, i.1))

-- the same leaves, and the same links
record Kept (a b : Simple) : Type 0 where
  leaf : leaves a ≡ leaves b
  link : links a ≡ links b

record AllKept (a b : Simples) : Type 0 where
  leaf : leaves_among a ≡ leaves_among b
  link : links_among a ≡ links_among b

followed : (a b : Simples)
    → (leaves_among (followed_by a b) ≡ leaves_among a + leaves_among b)
    × (links_among (followed_by a b) ≡ links_among a + links_among b)
followed none b = (omega arith, omega arith)
followed (more t a) b = let i = followed a b in (omega (arith, i.0), omega (arith, i.1))

put_kept : (ids : List (List ℕ)) (t : Simple) → Kept (put_before (anchors ids) t) t
put_kept ids t = go (stands_apart t)
  where
    a : (leaves_among (anchors ids) ≡ 0) × (links_among (anchors ids) ≡ 0)
    a = anchors_none ids

    go : (b : Bool) → Kept (before (if b then more (apart (anchors ids)) none else anchors ids) t) t
    go true = record { leaf = omega (arith, a.0); link = omega (arith, a.1) }
    go false =
        let i = followed (anchors ids) (more t none) in
        record { leaf = omega (arith, a.0, i.0); link = omega (arith, a.1, i.1) }

after_kept : (ids : List (List ℕ)) (t : Simple) → Kept (after_anchors ids t) t
after_kept [] t = record { leaf = refl; link = refl }
after_kept (id ∷ ids) t = put_kept (id ∷ ids) t

ids_kept : (ids : List (List ℕ)) (t : Simple) → Kept (with_ids ids t) t
ids_kept ids (text s) = record { leaf = refl; link = refl }
ids_kept ids (image address attributes) = record { leaf = refl; link = refl }
ids_kept ids (formula tex is_alone attributes) = record { leaf = refl; link = refl }
ids_kept ids (embedded id address title attributes found) = record { leaf = refl; link = refl }
ids_kept ids (anchor id) = record { leaf = refl; link = refl }
ids_kept ids (element id r facts attributes content) = record { leaf = refl; link = refl }

preceded_kept : (ids : List (List ℕ)) (t : Simple) → Kept (preceded ids t) t
preceded_kept ids t = go (is_embedded t)
  where
    go : (b : Bool) → Kept (if b then with_ids ids t else after_anchors ids t) t
    go true = ids_kept ids t
    go false = after_kept ids t

leaf_kept : (p : Placing) (shows : Bool) (t : Simple) → Kept (placed_before p shows t) t
leaf_kept p true t = preceded_kept (ids_up_to p.seen p.targets) t
leaf_kept p false t = record { leaf = refl; link = refl }

-- an element with the same in it
element_kept : (id : ℕ) (r : Role) (facts : Facts) (attributes : List AttributePair) (a b : Simples) → AllKept a b
    → Kept (element id r facts attributes a) (element id r facts attributes b)
element_kept id r facts attributes a b k = record {
  leaf = ap (λ (n : ℕ). if is_verbatim r then 1 else n) k.leaf;
  link = omega (arith, same_leaves r attributes a b k.leaf, k.link);
}

mutual
  placed_kept : (p : Placing) (t : Simple) → Kept (placed p t) t
  placed_kept p (text s) = leaf_kept p (not (is_blank_text s)) (text s)
  placed_kept p (image address attributes) = leaf_kept p (image_shows address attributes) (image address attributes)
  placed_kept p (formula tex is_alone attributes) = leaf_kept p true (formula tex is_alone attributes)
  placed_kept p (embedded id address title attributes found) =
      leaf_kept p true (embedded id address title attributes found)
  placed_kept p (anchor id) = record { leaf = refl; link = refl }
  placed_kept p (element id r facts attributes content) = go (is_verbatim r) (all_placed_kept p content)
    where
      t : Simple
      t = element id r facts attributes content

      go : (b : Bool) → AllKept (all_placed p content) content
          → Kept
          (if b then placed_before p (code_shows content) t
          else element id r facts attributes (all_placed p content)) t
      go true h = leaf_kept p (code_shows content) t
      go false h = element_kept id r facts attributes (all_placed p content) content h

  all_placed_kept : (p : Placing) (ts : Simples) → AllKept (all_placed p ts) ts
  all_placed_kept p none = record { leaf = refl; link = refl }
  all_placed_kept p (more t ts) =
      let i = placed_kept p t in
      let j = all_placed_kept (placing_after p t) ts in
      record { leaf = omega (arith, i.leaf, j.leaf); link = omega (arith, i.link, j.link) }

last_none : (targets : List Target) → links_among (last_anchors targets) ≡ 0
last_none [] = refl
last_none (t ∷ targets) = let a = anchors_none (values_of (t ∷ targets)) in omega (arith, a.1)

anchored_links : (w : Anchors) (t : Bool) (ts : Simples) → links_among (anchored w t ts) ≡ links_among ts
anchored_links w t ts =
    let p : Placing = record { seen = 0; targets = targets_by w t ts } in
    let l = (placing_after_all p ts).targets in
    let i = followed (all_placed p ts) (last_anchors l) in
    let k = all_placed_kept p ts in
    omega (arith, i.1, k.link, last_none l)

-- ---- first pieces

leaf_cut : (p : Pieces) (t : Simple) → Kept (cut_leaf p t) t
leaf_cut p t = go (not (is_unseen t) && nat_lt most_linked (pieces.after_leaf p t).count)
  where
    go : (b : Bool) → Kept (if b then unlinked t else t) t
    go true = record { leaf = omega arith; link = omega arith }
    go false = record { leaf = refl; link = refl }

mutual
  cut_kept : (p : Pieces) (t : Simple) → Kept (cut p t) t
  cut_kept p (text s) = leaf_cut p (text s)
  cut_kept p (image address attributes) = leaf_cut p (image address attributes)
  cut_kept p (formula tex is_alone attributes) = leaf_cut p (formula tex is_alone attributes)
  cut_kept p (embedded id address title attributes found) = leaf_cut p (embedded id address title attributes found)
  cut_kept p (anchor id) = record { leaf = refl; link = refl }
  cut_kept p (element id r facts attributes content) =
      go (is_verbatim r) (is_line_break r) (cut_all_kept (at_edge r p) content)
    where
      t : Simple
      t = element id r facts attributes content

      go : (a b : Bool) → AllKept (cut_all (at_edge r p) content) content
          → Kept
          (if a then cut_leaf p t
          else element id r facts attributes (if b then content else cut_all (at_edge r p) content)) t
      go true b h = leaf_cut p t
      go false true h = record { leaf = refl; link = refl }
      go false false h = element_kept id r facts attributes (cut_all (at_edge r p) content) content h

  cut_all_kept : (p : Pieces) (ts : Simples) → AllKept (cut_all p ts) ts
  cut_all_kept p none = record { leaf = refl; link = refl }
  cut_all_kept p (more t ts) =
      let i = cut_kept p t in
      let j = cut_all_kept (pieces_after p t) ts in
      record { leaf = omega (arith, i.leaf, j.leaf); link = omega (arith, i.link, j.link) }

mutual
  pieced_kept : (t : Simple) → Kept (pieced t) t
  pieced_kept (text s) = record { leaf = refl; link = refl }
  pieced_kept (image address attributes) = record { leaf = refl; link = refl }
  pieced_kept (formula tex is_alone attributes) = record { leaf = refl; link = refl }
  pieced_kept (embedded id address title attributes found) = record { leaf = refl; link = refl }
  pieced_kept (anchor id) = record { leaf = refl; link = refl }
  pieced_kept (element id r facts attributes content) =
      go (is_link r) (cut_all_kept no_pieces content) (all_pieced_kept content)
    where
      t : Simple
      t = element id r facts attributes content

      go : (b : Bool) → AllKept (cut_all no_pieces content) content → AllKept (pieced_all content) content
          → Kept (element id r facts attributes (if b then cut_all no_pieces content else pieced_all content)) t
      go true h i = element_kept id r facts attributes (cut_all no_pieces content) content h
      go false h i = element_kept id r facts attributes (pieced_all content) content i

  all_pieced_kept : (ts : Simples) → AllKept (pieced_all ts) ts
  all_pieced_kept none = record { leaf = refl; link = refl }
  all_pieced_kept (more t ts) =
      let i = pieced_kept t in
      let j = all_pieced_kept ts in
      record { leaf = omega (arith, i.leaf, j.leaf); link = omega (arith, i.link, j.link) }

-- all that the links and abbreviations of a document's simpler tree say
pub links_le : (w : Anchors) (t : Bool) (ts : Simples) → AllCounted ts
    → links_among (pieced_all (anchored w t (limited ts))) ≤ 64 * size_of_simples ts + 65536
links_le w t ts h =
    let l = limited ts in
    let p = all_pieced_kept (anchored w t l) in
    omega (
      arith,
      p.link,
      anchored_links w t l,
      all_links_within (Some (budget ts)) ts h,
      budget_le ts,
    )
