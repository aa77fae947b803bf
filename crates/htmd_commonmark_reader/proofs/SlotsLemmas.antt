-- Writing into a list of slots.
use Rattle.std.proofs.Common.{◌≡◌, ◌∙◌, ℕ, zero, suc, ◌+◌, ◌-◌, ◌<◌, ◌≤◌, List, [], ◌∷◌, ◌++◌, length, take, drop}
use Rattle.std.proofs.Common.{get_or, set, replicate, refl, ap, sym, append_assoc, arith}
use Rattle.std.proofs.lemmas.List.{drop_more, take-append-drop, length-take-le, length-append, length-replicate}
use Rattle.std.proofs.lemmas.List.{replicate-append-replicate}
use Rattle.std.proofs.lemmas.List.Prefix.{front_rest}
use Rattle.std.proofs.Math.Seq.{take-append_seam}
use Rattle.htmd_document.specs.declared.document.Format.{Format}
use Rattle.htmd_commonmark_reader.specs.Openers.{put_at}
use Rattle.htmd_commonmark_reader.specs.Slots.{format_slots}
use Rattle.htmd_commonmark_reader.specs.declared.slots.Slot.{Slot}
use Rattle.htmd_commonmark_reader.specs.declared.slots.Slot.TheVariants.{Nothing, Sign, Begin, End}

pub set_seam : {A : Type 0} (p : List A) (x : A) (q : List A) (v : A)
    → set (p ++ (x ∷ q)) (length p) v ≡ p ++ (v ∷ q)
set_seam [] x q v = refl
set_seam (y ∷ p) x q v = ap (λ l. y ∷ l) (set_seam p x q v)

-- one place more
put_next : {A : Type 0} (p old : List A) (i : ℕ) (v : A) → i < length old → length p ≡ i
    → set (p ++ drop i old) i v ≡ (p ++ (v ∷ [])) ++ drop (i + 1) old
put_next p old i v l e =
    ap (λ x. set (p ++ x) i v) (drop_more old i v l)
    ∙ ap (λ k. set (p ++ (get_or old i v ∷ drop (i + 1) old)) k v) (sym e)
    ∙ set_seam p (get_or old i v) (drop (i + 1) old) v
    ∙ sym (append_assoc p (v ∷ []) (drop (i + 1) old))

replicate_more : {A : Type 0} (n : ℕ) (v : A) → replicate n v ++ (v ∷ []) ≡ replicate (suc n) v
replicate_more zero v = refl
replicate_more (suc n) v = ap (λ l. v ∷ l) (replicate_more n v)

pub put_begin : (s : List Slot) (from : ℕ) (v w : Slot) → from < length s
    → set s from v ≡ take from s ++ (v ∷ replicate ((from + 1) - (from + 1)) w) ++ drop (from + 1) s
put_begin s from v w l =
    let z : 0 ≡ (from + 1) - (from + 1) = omega arith in
    ap (λ x. set x from v) (sym (take-append-drop from s))
    ∙ put_next (take from s) s from v l (length-take-le from s (omega arith))
    ∙ ap (λ k. take from s ++ (v ∷ replicate k w) ++ drop (from + 1) s) z

pub put_more : (s now : List Slot) (from place : ℕ) (v w : Slot) → place < length s → from + 1 ≤ place
    → now ≡ take from s ++ (v ∷ replicate (place - (from + 1)) w) ++ drop place s
    → set now place w ≡ take from s ++ (v ∷ replicate ((place + 1) - (from + 1)) w) ++ drop (place + 1) s
put_more s now from place v w l m e =
    let k = place - (from + 1) in
    let j : suc k ≡ (place + 1) - (from + 1) = omega arith in
    let size : length (take from s ++ (v ∷ replicate k w)) ≡ place =
    omega (
      arith,
      length-append (take from s) (v ∷ replicate k w),
      length-take-le from s (omega arith),
      length-replicate k w,
    ) in
    ap (λ x. set x place w) e
    ∙ put_next (take from s ++ (v ∷ replicate k w)) s place w l size
    ∙ ap (λ x. x ++ drop (place + 1) s)
    (append_assoc (take from s) (v ∷ replicate k w) (w ∷ [])
    ∙ ap (λ x. take from s ++ (v ∷ x)) (replicate_more k w)
    ∙ ap (λ i. take from s ++ (v ∷ replicate i w)) j)

put_in : (old p m q : List Slot) (from n : ℕ) (first : Slot) → old ≡ p ++ (m ++ q) → length p ≡ from
    → length m ≡ n → put_at from n first old ≡ p ++ ((first ∷ replicate (n - 1) Nothing) ++ q)
put_in old p m q from n first e f g =
    let x = first ∷ replicate (n - 1) Nothing in
    let size : length (p ++ m) ≡ from + n = omega (arith, length-append p m) in
    let front : take from old ≡ p =
    ap (λ k. take k old) (sym f) ∙ ap (take (length p)) e ∙ take-append_seam p (m ++ q) in
    let back : drop (from + n) old ≡ q =
    ap (λ k. drop k old) (sym size) ∙ front_rest old (p ++ m) q (e ∙ sym (append_assoc p m q)) in
    ap (λ y. y ++ x ++ drop (from + n) old) front ∙ ap (λ y. p ++ x ++ y) back ∙ append_assoc p x q

split_signs : (u n : ℕ) (v : Slot) → n ≤ u → replicate u v ≡ replicate (u - n) v ++ replicate n v
split_signs u n v l =
    let k : u ≡ (u - n) + n = omega arith in
    ap (λ j. replicate j v) k ∙ sym (replicate-append-replicate (u - n) n v)

split_ahead : (u n : ℕ) (v : Slot) → n ≤ u → replicate u v ≡ replicate n v ++ replicate (u - n) v
split_ahead u n v l =
    let k : u ≡ n + (u - n) = omega arith in
    ap (λ j. replicate j v) k ∙ sym (replicate-append-replicate n (u - n) v)

group_first : (front a b inner c tail : List Slot)
    → (front ++ ((a ++ b) ++ inner)) ++ (c ++ tail) ≡ (front ++ a) ++ (b ++ (inner ++ (c ++ tail)))
group_first front a b inner c tail = simp append_assoc

group_second : (p x inner a b tail : List Slot)
    → p ++ (x ++ (inner ++ ((a ++ b) ++ tail))) ≡ ((p ++ x) ++ inner) ++ (a ++ (b ++ tail))
group_second p x inner a b tail = simp append_assoc

group_last : (p : List Slot) (begin : Slot) (used inner x rest : List Slot)
    → ((p ++ (begin ∷ used)) ++ inner) ++ (x ++ rest) ≡ (p ++ (begin ∷ (used ++ (inner ++ x)))) ++ rest
group_last p begin used inner x rest = simp append_assoc

-- what closing an opener leaves
pub record Closes (old front inner tail : List Slot) (u v n c k from1 from2 : ℕ) : Type 0 where
  pub is : old ≡ (front ++ (replicate u (Sign c) ++ inner)) ++ (replicate v (Sign k) ++ tail)
  pub of_opener : n ≤ u
  pub of_closing : n ≤ v
  pub some : 0 < n
  pub from : length front ≡ from1
  pub end : length (front ++ (replicate u (Sign c) ++ inner)) ≡ from2

pub closed_slots : (old front inner tail : List Slot) (u v n c k from1 from2 : ℕ) (f : Format)
    → Closes old front inner tail u v n c k from1 from2
    → put_at from2 n (End f) (put_at (from1 + (u - n)) n (Begin f) old)
    ≡ ((front ++ replicate (u - n) (Sign c)) ++ format_slots f n inner) ++ (replicate (v - n) (Sign k) ++ tail)
closed_slots old front inner tail u v n c k from1 from2 f h =
    let s = Sign c in
    let z = Sign k in
    let used = replicate (n - 1) Nothing in
    let p = front ++ replicate (u - n) s in
    let l1 = h.of_opener in
    let l2 = h.of_closing in
    let l3 = h.some in
    let first : old ≡ p ++ (replicate n s ++ (inner ++ (replicate v z ++ tail))) =
    h.is ∙ ap (λ r. (front ++ (r ++ inner)) ++ (replicate v z ++ tail)) (split_signs u n s l1)
    ∙ group_first front (replicate (u - n) s) (replicate n s) inner (replicate v z) tail in
    let size1 : length p ≡ from1 + (u - n) =
    omega (arith, h.from, length-append front (replicate (u - n) s), length-replicate (u - n) s) in
    let begun = put_in old p (replicate n s) (inner ++ (replicate v z ++ tail)) (from1 + (u - n)) n (Begin f) first
    size1 (length-replicate n s) in
    let second : put_at (from1 + (u - n)) n (Begin f) old
    ≡ ((p ++ (Begin f ∷ used)) ++ inner) ++ (replicate n z ++ (replicate (v - n) z ++ tail)) =
    begun ∙ ap (λ r. p ++ ((Begin f ∷ used) ++ (inner ++ (r ++ tail)))) (split_ahead v n z l2)
    ∙ group_second p (Begin f ∷ used) inner (replicate n z) (replicate (v - n) z) tail in
    let size2 : length ((p ++ (Begin f ∷ used)) ++ inner) ≡ from2 =
    omega (
      arith,
      h.from,
      h.end,
      size1,
      length-append (p ++ (Begin f ∷ used)) inner,
      length-append p (Begin f ∷ used),
      length-replicate (n - 1) Nothing,
      length-append front (replicate u s ++ inner),
      length-append (replicate u s) inner,
      length-replicate u s,
    ) in
    put_in (put_at (from1 + (u - n)) n (Begin f) old) ((p ++ (Begin f ∷ used)) ++ inner) (replicate n z)
    (replicate (v - n) z ++ tail) from2 n (End f) second size2 (length-replicate n z)
    ∙ group_last p (Begin f) used inner (End f ∷ used) (replicate (v - n) z ++ tail)
