-- Where the targets of nodes stand at their beginning.
use Rattle.std.proofs.Common.{◌≡◌, ℕ, ◌+◌, Bool, true, false, not, ◌&&◌, ◌||◌, cond, List, [], ◌∷◌, ◌++◌, refl, sym, ap}
use Rattle.std.proofs.Common.{◌∙◌}
use Rattle.std.proofs.Common.{Option, None, codes, arith}
use Rattle.std.specs.Option.{unwrap_or}
use Rattle.std.specs.Prelude.{nat_le}
use Rattle.std.proofs.lemmas.Bool.{and_parts, and_from}
use Rattle.htmd_lexical.proofs.Cases.{test}
use Rattle.htmd_document.specs.Documents.{Block, Blocks, block}
use Rattle.htmd_document_of_tree.specs.Anchors.{values_of}
use Rattle.htmd_document_of_tree.specs.Seen.{seen, all_seen, one_if}
use Rattle.htmd_document_of_tree.specs.Targets.{is_whole, own_targets, targets_among, targets_inside, whole_in}
use Rattle.htmd_shown.specs.Attributes.{in_line, text_of}
use Rattle.htmd_shown.specs.Roles.{is_headed}
use Rattle.htmd_shown.specs.SimpleTrees.{Simple, Simples, text, image, formula, embedded, anchor, element, none, more}
use Rattle.htmd_law_returning.specs.LastingAnchors.{Line, lines_in, is_unseen, are_unseen, block_leads, title_keeps}
use Rattle.htmd_law_returning.specs.NoAnchors.{blocks_have_no_anchors}
use Rattle.htmd_law_returning.proofs.BareLemmas.{has_no_name}
use Rattle.htmd_law_returning.proofs.HomeAnchors.{none-in-blocks}
use Rattle.htmd_law_returning.proofs.KindLemmas.{line_tree, line-blank}
use Rattle.htmd_law_returning.proofs.LineIds.{ids_in_lines}
use Rattle.htmd_law_returning.proofs.LocalAnchors.{all-nameless-first, are_marked, are_nameless, come_first}
use Rattle.htmd_law_returning.proofs.LocalAnchors.{comes_first}
use Rattle.htmd_law_returning.proofs.LocalAnchors.{every, is_marked, is_nameless, is_place, nameless-first, own_id}
use Rattle.htmd_law_returning.proofs.LocalAnchors.{place-own, values-both}
use Rattle.htmd_law_returning.proofs.SoundBlocks.{AreSound, IsSound}
use Rattle.htmd_law_returning.proofs.StartLemmas.{false-true}

-- ---- nodes without targets

none-first : (xs ys : List (List ℕ)) → xs ++ ys ≡ [] → (xs ≡ []) × (ys ≡ [])
none-first [] ys h = (refl, h)
none-first (x ∷ xs) ys h = absurd (cc)

or-rest : (a b : Bool) → (a || b) ≡ true → (a ≡ true → ⊥) → b ≡ true
or-rest true b h k = absurd (k refl)
or-rest false b h k = h

-- a place is a target
no-place : (t : Simple) (n : ℕ) → is_place t ≡ true → values_of (own_targets every n t) ≡ [] → ⊥
no-place (element id r facts attributes content) n h e =
    let t : Simple = element id r facts attributes content in
    let s : List ℕ = in_line (text_of (codes "id") attributes) in
    let own : own_id t ≡ s ∷ [] = ap (λ b. cond b (s ∷ []) []) h in
    let values : s ∷ [] ≡ [] = sym (ap values_of (place-own n t h s own)) ∙ e in
    (cc)
no-place t n h e = false-true h

-- content that is marked by its element
by-role : (whole headed first nameless marked : Bool)
    → cond whole (cond headed (first && marked) nameless) marked ≡ true → (marked ≡ true → nameless ≡ true)
    → nameless ≡ true
by-role true true first nameless marked h k = k (and_parts first marked h).1
by-role true false first nameless marked h k = h
by-role false headed first nameless marked h k = k h

mutual
  marked-nameless : (whole : Option ℕ) (n : ℕ) (t : Simple) → is_marked t ≡ true
      → values_of (own_targets every (unwrap_or whole n) t) ≡ []
      → values_of (targets_inside every whole n t) ≡ [] → is_nameless t ≡ true
  marked-nameless whole n (text s) h own inside = h
  marked-nameless whole n (image address attributes) h own inside = h
  marked-nameless whole n (formula tex is_alone attributes) h own inside = h
  marked-nameless whole n (embedded id address title attributes anchors) h own inside = h
  marked-nameless whole n (anchor id) h own inside = h
  marked-nameless whole n (element id r facts attributes content) h own inside =
      let t : Simple = element id r facts attributes content in
      let marked : Bool = cond (is_whole r) (cond (is_headed r) (come_first content && are_marked content)
      (are_nameless content)) (are_marked content) in
      let rest = or-rest (is_place t) (has_no_name attributes && marked) h
      (λ e. no-place t (unwrap_or whole n) e own) in
      let parts = and_parts (has_no_name attributes) marked rest in
      and_from (has_no_name attributes) (are_nameless content) parts.0
      (by-role (is_whole r) (is_headed r) (come_first content) (are_nameless content) (are_marked content) parts.1
      (λ m. all-marked-nameless (whole_in whole n r) n content m inside))

  all-marked-nameless : (whole : Option ℕ) (n : ℕ) (ts : Simples) → are_marked ts ≡ true
      → values_of (targets_among every whole n ts) ≡ [] → are_nameless ts ≡ true
  all-marked-nameless whole n none h values = refl
  all-marked-nameless whole n (more t ts) h values =
      let marks = and_parts (is_marked t) (are_marked ts) h in
      let own = own_targets every (unwrap_or whole n) t in
      let inside = targets_inside every whole n t in
      let later = targets_among every whole (n + seen t) ts in
      let both = none-first (values_of (own ++ inside)) (values_of later)
      (sym (values-both (own ++ inside) later) ∙ values) in
      let first = none-first (values_of own) (values_of inside) (sym (values-both own inside) ∙ both.0) in
      and_from (is_nameless t) (are_nameless ts) (marked-nameless whole n t marks.0 first.0 first.1)
      (all-marked-nameless whole (n + seen t) ts marks.1 both.1)

-- nodes of lines without anchors
pub plain-nameless : (ts : Simples) (ls : List Line) → AreSound ts ls → ids_in_lines ls ≡ []
    → are_nameless ts ≡ true
plain-nameless ts ls sound h =
    all-marked-nameless None 0 ts sound.placed.marked ((sound.placed.places 0).values ∙ h)

pub plain-first : (t : Simple) (ls : List Line) → IsSound t ls → ids_in_lines ls ≡ [] → comes_first t ≡ true
plain-first t ls sound h =
    nameless-first t (and_parts (is_nameless t) true (plain-nameless (more t none) ls sound h)).0

-- ---- what stands at the beginning

pub line-first : (ts : Simples) → come_first (more line_tree ts) ≡ come_first ts
line-first ts = ap (λ b. cond (nat_le (one_if (not b)) 0) (come_first ts) (are_nameless ts)) line-blank

pub zero-plus : (k : ℕ) → 0 + k ≡ k
zero-plus k = omega arith

pub line-seen-none : (ts : Simples) → all_seen (more line_tree ts) ≡ all_seen ts
line-seen-none ts = ap (λ b. one_if (not b) + all_seen ts) line-blank ∙ zero-plus (all_seen ts)

-- before nodes without targets
pub first-behind : (t : Simple) (ts : Simples) → comes_first t ≡ true → are_nameless ts ≡ true
    → come_first (more t ts) ≡ true
first-behind t ts first h =
    and_from (comes_first t) (cond (nat_le (seen t) 0) (come_first ts) (are_nameless ts)) first
    (either (nat_le (seen t) 0) (come_first ts) (are_nameless ts) (all-nameless-first ts h) h)
  where
    either : (b x y : Bool) → x ≡ true → y ≡ true → cond b x y ≡ true
    either true x y e f = e
    either false x y e f = f

-- the node of a block
pub record IsLead (b : Block) (tree : Simple) : Type 0 where
  pub first : block_leads b ≡ true → comes_first tree ≡ true
  pub unseen : is_unseen b ≡ true → seen tree ≡ 0

pub unseen-more : (b : Block) (d : Blocks) (tree : Simple) (ts : Simples) → IsLead b tree
    → (are_unseen d ≡ true → all_seen ts ≡ 0) → are_unseen (block b d) ≡ true
    → all_seen (more tree (more line_tree ts)) ≡ 0
unseen-more b d tree ts own later h =
    let p = and_parts (is_unseen b) (are_unseen d) h in
    ap (λ k. k + all_seen (more line_tree ts)) (own.unseen p.0)
    ∙ (zero-plus (all_seen (more line_tree ts)) ∙ (line-seen-none ts ∙ later p.1))

-- a block, and those behind it
pub first-more : (b : Block) (d : Blocks) (tree : Simple) (ts : Simples) → IsLead b tree → AreSound ts (lines_in d)
    → (title_keeps d ≡ true → come_first ts ≡ true) → title_keeps (block b d) ≡ true
    → come_first (more tree (more line_tree ts)) ≡ true
first-more b d tree ts own sound later h =
    let lines : Simples = more line_tree ts in
    let p = and_parts (block_leads b) (cond (is_unseen b) (title_keeps d) (blocks_have_no_anchors d)) h in
    test (is_unseen b)
    (λ r. and_from (comes_first tree) (cond (nat_le (seen tree) 0) (come_first lines) (are_nameless lines))
    (own.first p.0) (ap (λ n. cond (nat_le n 0) (come_first lines) (are_nameless lines)) (own.unseen r)
    ∙ (line-first ts ∙ later (sym (ap (λ x. cond x (title_keeps d) (blocks_have_no_anchors d)) r) ∙ p.1))))
    (λ r. first-behind tree lines (own.first p.0)
    (plain-nameless ts (lines_in d) sound
    (none-in-blocks d (sym (ap (λ x. cond x (title_keeps d) (blocks_have_no_anchors d)) r) ∙ p.1))))
