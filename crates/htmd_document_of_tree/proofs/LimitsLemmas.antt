-- Lemmas on the budget of links.
use Rattle.std.proofs.Common.{◌≡◌, ℕ, ◌+◌, ◌-◌, ◌≤◌, ◌<◌, Bool, true, false, not, cond}
use Rattle.std.proofs.Common.{nat_le, nat_lt, length, filter, encode_utf8_all, List, [], ◌∷◌, Option, Some, None, is_some}
use Rattle.std.proofs.Common.{refl, sym, ◌∙◌, ap, arith}
use Rattle.std.proofs.lemmas.Bool.Decides.{nat_tests}
use Rattle.std.proofs.lemmas.Str.{chars-encodes, scalars-chars}
use Rattle.std.specs.List.{list_any}
use Rattle.std.specs.Str.{chars, IsUtf8}
use Rattle.htmd_lexical.proofs.Cases.{test}
use Rattle.htmd_shown.proofs.BlanksLemmas.{scalars-filter}
use Rattle.htmd_shown.specs.Attributes.{address, is_in_address, is_space_or_control}
use Rattle.htmd_text.specs.Trims.{trimmed_text}
use Rattle.htmd_shown.specs.SimpleTrees.{Simple, text, image, formula, embedded, anchor, element, Simples, none, more, simples_of}
use Rattle.htmd_document_of_tree.specs.Limits.{Written, written, written_all, paid, cost, left_after, left_after_all}
use Rattle.htmd_document_of_tree.specs.Limits.{within, all_within, budget, limited, characters}
use Rattle.htmd_document_of_tree.specs.Limits.{paid_for, is_too_dear, without_address, affordable}
use Rattle.htmd_document_of_tree.specs.FirstPieces.{with_content}
use Rattle.htmd_shown.specs.Kinds.{content_of}
use Rattle.htmd_document_of_tree.proofs.WalksLemmas.{walk, gone}
use Rattle.std.proofs.Common.{subst, ◌||◌}
use Rattle.std.specs.HashSet.{HashSet, contains_text}
use Rattle.std.specs.Prelude.{String}
use Rattle.htmd_lexical.proofs.BytesLemmas.{same_bytes}
use Rattle.std.specs.Str.{bytes_eq}
use Rattle.htmd_lexical.specs.AttributePairs.{AttributePair}
use Rattle.htmd_shown.specs.Roles.{is_among}
use Rattle.htmd_shown.specs.declared.role.Role.{Role}
use Rattle.htmd_document_of_tree.specs.declared.limits.Written as code
use Rattle.htmd_document_of_tree.specs.Limits.{emptied, pair_of, size, with_pair}
use Rattle.htmd_document_of_tree.specs.WrittenViews.{Counts}

pub left_after_all-gone : (s : Option ℕ) (ts : List Simple)
    → left_after_all s (simples_of ts) ≡ gone left_after s ts
left_after_all-gone s [] = refl
left_after_all-gone s (t ∷ ts) = left_after_all-gone (left_after s t) ts

pub all_within-walk : (s : Option ℕ) (ts : List Simple)
    → all_within s (simples_of ts) ≡ simples_of (walk within left_after s ts)
all_within-walk s [] = refl
all_within-walk s (t ∷ ts) = ap (λ r. more (within s t) r) (all_within-walk (left_after s t) ts)

pub written_all-gone : (w : Written) (ts : List Simple) → written_all w (simples_of ts) ≡ gone written w ts
written_all-gone w [] = refl
written_all-gone w (t ∷ ts) = written_all-gone (written w t) ts

-- ---- where the budget suffices

mutual
  none-stays : (t : Simple) → left_after None t ≡ None
  none-stays (text s) = refl
  none-stays (image address attributes) = refl
  none-stays (formula tex is_alone attributes) = refl
  none-stays (embedded id address title attributes anchors) = refl
  none-stays (anchor id) = refl
  none-stays (element id role facts attributes content) = none-stays-all content

  none-stays-all : (ts : Simples) → left_after_all None ts ≡ None
  none-stays-all none = refl
  none-stays-all (more t ts) = ap (λ s. left_after_all s ts) (none-stays t) ∙ none-stays-all ts

-- what is left of a greater budget is greater by as much, and no link is taken away
pub record Kept (a d m : ℕ) (t : Simple) : Type 0 where
  pub left : left_after (Some (a + d)) t ≡ Some (m + d)
  pub same : within (Some (a + d)) t ≡ t

pub record AllKept (a d m : ℕ) (ts : Simples) : Type 0 where
  pub left : left_after_all (Some (a + d)) ts ≡ Some (m + d)
  pub same : all_within (Some (a + d)) ts ≡ ts

some-same : (m n : ℕ) → Some m ≡ Some n → m ≡ n
some-same m n e = cc

paid-more : (a d k : ℕ) → k ≤ a → paid (Some (a + d)) (Some k) ≡ Some ((a - k) + d)
paid-more a d k h =
    let test : nat_le k (a + d) ≡ true = grind (arith, nat_tests) in
    let left : (a + d) - k ≡ (a - k) + d = omega arith in
    ap (λ b. cond b (Some ((a + d) - k)) None) test ∙ ap (λ n. Some n) left

paid-exact : (a k : ℕ) → k ≤ a → paid (Some a) (Some k) ≡ Some (a - k)
paid-exact a k h =
    let test : nat_le k a ≡ true = grind (arith, nat_tests) in
    ap (λ b. cond b (Some (a - k)) None) test

paid-short : (a k : ℕ) → a < k → paid (Some a) (Some k) ≡ None
paid-short a k h =
    let test : nat_le k a ≡ false = grind (arith, nat_tests) in
    ap (λ b. cond b (Some (a - k)) None) test

two : (a m : ℕ) → Some a ≡ Some m → (d : ℕ) → Some (a + d) ≡ Some (m + d)
two a m e d = ap (λ n. Some (n + d)) (some-same a m e)

mutual
  pub kept : (t : Simple) (a d m : ℕ) → left_after (Some a) t ≡ Some m → Kept a d m t
  kept (text s) a d m e = record { left = two a m e d; same = refl }
  kept (image address attributes) a d m e = record { left = two a m e d; same = refl }
  kept (formula tex is_alone attributes) a d m e = record { left = two a m e d; same = refl }
  kept (embedded id address title attributes anchors) a d m e = record { left = two a m e d; same = refl }
  kept (anchor id) a d m e = record { left = two a m e d; same = refl }
  kept (element id role facts attributes content) a d m e =
      let tree = element id role facts attributes content in
      let P = λ (k : Option ℕ). cost role facts attributes ≡ k → Kept a d m tree in
      elim (cost role facts attributes) as P [
        | None ↦ λ is.
            let never : None ≡ Some m =
            sym (ap (λ k. left_after_all (paid (Some a) k) content) is ∙ none-stays-all content) ∙ e in
            cc
        | Some k ↦ λ is.
            test (nat_le k a)
            (λ yes.
            let h : k ≤ a = grind (arith, nat_tests, yes) in
            let inner : AllKept (a - k) d m content =
            all-kept content (a - k) d m
            (sym (ap (λ c. left_after_all (paid (Some a) c) content) is
            ∙ ap (λ s. left_after_all s content) (paid-exact a k h)) ∙ e) in
            let now : paid (Some (a + d)) (cost role facts attributes) ≡ Some ((a - k) + d) =
            ap (λ c. paid (Some (a + d)) c) is ∙ paid-more a d k h in
            record {
              left = ap (λ s. left_after_all s content) now ∙ inner.left;
              same = ap (λ s. element id (affordable s role attributes) facts attributes (all_within s content)) now
                  ∙ ap (λ c. element id role facts attributes c) inner.same;
            })
            (λ no.
            let h : a < k = grind (arith, nat_tests, no) in
            let never : None ≡ Some m =
            sym (ap (λ c. left_after_all (paid (Some a) c) content) is
            ∙ (ap (λ s. left_after_all s content) (paid-short a k h) ∙ none-stays-all content)) ∙ e in
            cc)
      ] refl

  pub all-kept : (ts : Simples) (a d m : ℕ) → left_after_all (Some a) ts ≡ Some m → AllKept a d m ts
  all-kept none a d m e = record { left = two a m e d; same = refl }
  all-kept (more t ts) a d m e =
      let P = λ (s : Option ℕ). (left_after (Some a) t ≡ s) → AllKept a d m (more t ts) in
      elim (left_after (Some a) t) as P [
        | None ↦ λ first.
            let never : None ≡ Some m =
            sym (ap (λ s. left_after_all s ts) first ∙ none-stays-all ts) ∙ e in
            cc
        | Some n ↦ λ first.
            let head = kept t a d n first in
            let rest = all-kept ts n d m (sym (ap (λ s. left_after_all s ts) first) ∙ e) in
            record {
              left = ap (λ s. left_after_all s ts) head.left ∙ rest.left;
              same = ap (λ u. more u (all_within (left_after (Some (a + d)) t) ts)) head.same
                  ∙ (ap (λ s. more t (all_within s ts)) head.left ∙ ap (λ us. more t us) rest.same);
            }
      ] refl

-- a page whose links cost no more than a part of the budget keeps them
pub enough : (ts : Simples) (n : ℕ) (m : Option ℕ) → n ≤ budget ts → m ≡ left_after_all (Some n) ts
    → is_some m ≡ true → ts ≡ limited ts
enough ts n None l e h = cc
enough ts n (Some m) l e h =
    let swap : budget ts ≡ n + (budget ts - n) = omega (arith, l) in
    sym (ap (λ k. all_within (Some k) ts) swap ∙ (all-kept ts n (budget ts - n) m (sym e)).same)

-- ---- characters

pub address-len : (s t : List ℕ) → t ≡ trimmed_text is_space_or_control s → IsUtf8 t
    → length (filter is_in_address (chars t)) ≡ characters (address s)
address-len s t e u =
    sym (ap length (chars-encodes (filter is_in_address (chars t))
    (scalars-filter is_in_address (chars t) (scalars-chars t u))))
    ∙ ap (λ x. characters (encode_utf8_all (filter is_in_address (chars x)))) e

any-more : (b : Bool) (x : ℕ) (ys : List ℕ) (r : Bool) → r ≡ nat_lt 0 (length ys)
    → (b || r) ≡ nat_lt 0 (length (cond b (x ∷ ys) ys))
any-more true x ys r e = grind (arith, nat_tests)
any-more false x ys r e = e

any-counted : (p : ℕ → Bool) (xs : List ℕ) → list_any p xs ≡ nat_lt 0 (length (filter p xs))
any-counted p [] = refl
any-counted p (x ∷ xs) = any-more (p x) x (filter p xs) (list_any p xs) (any-counted p xs)

pub has-address : (s t : List ℕ) → t ≡ trimmed_text is_space_or_control s → IsUtf8 t
    → list_any is_in_address (chars t) ≡ nat_lt 0 (characters (address s))
has-address s t e u = any-counted is_in_address (chars t) ∙ ap (nat_lt 0) (address-len s t e u)

-- ---- a node, and what is in it

pub left_in : (left now : Option ℕ) (t : Simple) → now ≡ paid_for left t
    → left_after_all now (content_of t) ≡ left_after left t
left_in left now (text s) e = e
left_in left now (image address attributes) e = e
left_in left now (formula tex is_alone attributes) e = e
left_in left now (embedded id address title attributes anchors) e = e
left_in left now (anchor id) e = e
left_in left now (element id role facts attributes content) e = ap (λ s. left_after_all s content) e

pub within_dear : (left now : Option ℕ) (t : Simple) → now ≡ paid_for left t → is_too_dear now t ≡ true
    → without_address (with_content t (all_within now (content_of t))) ≡ within left t
within_dear left now (text s) e h = cc
within_dear left now (image address attributes) e h = cc
within_dear left now (formula tex is_alone attributes) e h = cc
within_dear left now (embedded id address title attributes anchors) e h = cc
within_dear left now (anchor id) e h = cc
within_dear left now (element id role facts attributes content) e h =
    ap (λ r. element id r facts attributes (all_within now content)) (sym (ap (λ b. cond b (emptied role) role) h))
    ∙ ap (λ s. element id (affordable s role attributes) facts attributes (all_within s content)) e

pub within_kept : (left now : Option ℕ) (t : Simple) → now ≡ paid_for left t → is_too_dear now t ≡ false
    → with_content t (all_within now (content_of t)) ≡ within left t
within_kept left now (text s) e h = refl
within_kept left now (image address attributes) e h = refl
within_kept left now (formula tex is_alone attributes) e h = refl
within_kept left now (embedded id address title attributes anchors) e h = refl
within_kept left now (anchor id) e h = refl
within_kept left now (element id role facts attributes content) e h =
    ap (λ r. element id r facts attributes (all_within now content)) (sym (ap (λ b. cond b (emptied role) role) h))
    ∙ ap (λ s. element id (affordable s role attributes) facts attributes (all_within s content)) e

-- ---- pairs

-- with a pair that is new
abbrev with_new : Written → Role → List AttributePair → Written
with_new w role attributes =
    record { count = w.count + size role attributes; pairs = pair_of role attributes ∷ w.pairs }

-- a pair that is known already
pub counts-known : (old new : code.Written) (w : Written) (role : Role) (attributes : List AttributePair)
    → new.count ≡ old.count → ((s : List ℕ) → contains_text new.pairs s ≡ contains_text old.pairs s)
    → is_among w.pairs (pair_of role attributes) ≡ true → Counts old w
    → Counts new (with_pair w role attributes)
counts-known old new w role attributes count pairs among known =
    let e : with_pair w role attributes ≡ w = ap (λ b. cond b w (with_new w role attributes)) among in
    subst (λ (v : Written). Counts new v) (sym e)
    (record { count = count ∙ known.count; pairs = λ s. pairs s ∙ known.pairs s })

or-cond : (a b : Bool) → cond a true b ≡ (a || b)
or-cond true b = refl
or-cond false b = refl

-- one that is new
pub counts-new : (old new : code.Written) (w : Written) (role : Role) (attributes : List AttributePair)
    → new.count ≡ old.count + size role attributes
    → ((s : List ℕ) → contains_text new.pairs s
    ≡ cond (bytes_eq (pair_of role attributes) s) true (contains_text old.pairs s))
    → is_among w.pairs (pair_of role attributes) ≡ false → Counts old w
    → Counts new (with_pair w role attributes)
counts-new old new w role attributes count pairs among known =
    let e : with_pair w role attributes ≡ with_new w role attributes =
    ap (λ b. cond b w (with_new w role attributes)) among in
    subst (λ (v : Written). Counts new v) (sym e) (record {
      count = count ∙ ap (λ n. n + size role attributes) known.count;
      pairs = λ s. pairs s ∙ (or-cond (bytes_eq (pair_of role attributes) s) (contains_text old.pairs s)
          ∙ ap (λ b. bytes_eq (pair_of role attributes) s || b) (known.pairs s));
    })

pub not-false : (b : Bool) → not b ≡ true → b ≡ false
not-false true e = cc
not-false false e = refl

pub not-true : (b : Bool) → not b ≡ false → b ≡ true
not-true true e = refl
not-true false e = cc

-- what a set has already is put in again
pub again : {Y S : Type 0} (found : HashSet (String Y) S) (key s : List ℕ) → contains_text found key ≡ true
    → cond (bytes_eq key s) true (contains_text found s) ≡ contains_text found s
again found key s held = test (bytes_eq key s)
    (λ h. ap (λ b. cond b true (contains_text found s)) h
    ∙ (sym held ∙ ap (λ k. contains_text found k) (same_bytes key s h)))
    (λ h. ap (λ b. cond b true (contains_text found s)) h)
