-- What a closing bracket does to the last bracket that is open.
use Rattle.std.proofs.Common.{◌≡◌, ◌∙◌, ℕ, suc, ◌+◌, ◌-◌, ◌<◌, Bool, true, false, List, [], ◌∷◌, ◌++◌, length}
use Rattle.std.proofs.Common.{take, get_or}
use Rattle.std.proofs.Common.{refl, ap, sym, subst, arith, Some, None}
use Rattle.std.specs.Prelude.{nat_le, nat_lt, ◌||◌, reverse}
use Rattle.std.proofs.lemmas.Bool.{leb-true, leb-false, le-ltb, lt-ltb}
use Rattle.std.proofs.lemmas.List.{length-append, length-reverse, reverse-append, take_more, take_all}
use Rattle.htmd_lexical.proofs.Cases.{test}
use Rattle.htmd_commonmark_reading.specs.Markup.{no_inlines, letter}
use Rattle.htmd_commonmark_reading.specs.DelimiterRuns.{Token, finished}
use Rattle.htmd_commonmark_reading.specs.Brackets.{References, Brackets, outermost, bracket, and_tokens, as_text}
use Rattle.htmd_commonmark_reading.specs.Brackets.{closing_step, linked, target, before_end}
use Rattle.htmd_commonmark_reader.specs.References.{found_of}
use Rattle.htmd_commonmark_reader.specs.Scans.{AreOpen, IsScan, linked_of}
use Rattle.htmd_commonmark_reader.specs.Steps.{IsEnd, EndIn, IsLastOf, IsStep}
use Rattle.htmd_commonmark_reader.specs.declared.brackets.Bracket.{Bracket}
use Rattle.htmd_commonmark_reader.specs.declared.brackets.Scan.{Scan}
use Rattle.htmd_commonmark_reader.specs.declared.emphasis.Delimiter.{Delimiter}
use Rattle.htmd_commonmark_reader.specs.declared.targets.Found.{Found}
use Rattle.htmd_commonmark_reader.specs.declared.slots.Slot.{Slot}
use Rattle.htmd_commonmark_reader.proofs.RestsLemmas.{rest_by_length}
use Rattle.htmd_commonmark_reader.proofs.TargetsLemmas.{target_end}

-- the stack has this bracket last
pub record IsLast (b : Brackets) (k : Bracket) (is_active : Bool) : Type 0 where
  pub tokens : List Token
  pub below : Brackets
  pub is : b ≡ bracket k.is_image is_active k.text.now tokens below

last_open : (a : ℕ) (b : Brackets) (k : Bracket) (ks : List Bracket) (slots : List Slot) (runs : List Delimiter)
    → AreOpen a b (k ∷ ks) slots runs → IsLast b k (k.is_image || nat_le a (length ks))
last_open a (outermost ts) k ks slots runs h = absurd h
last_open a (bracket i v text ts below) k ks slots runs h = record {
  tokens = ts;
  below = below;
  is = ap (λ j. bracket j v text ts below) (sym h.image)
      ∙ ap (λ w. bracket k.is_image w text ts below)
      (h.activity ∙ ap (λ j. j || nat_le a (length ks)) (sym h.image))
      ∙ ap (λ t. bracket k.is_image (k.is_image || nat_le a (length ks)) t ts below) h.text_is;
}

pub last_split : (ks : List Bracket) (d : Bracket) → 0 < length ks
    → ks ≡ take (length ks - 1) ks ++ (get_or ks (length ks - 1) d ∷ [])
last_split ks d l =
    let i = length ks - 1 in
    let all : i + 1 ≡ length ks = omega arith in
    sym (ap (λ n. take n ks) all ∙ take_all (length ks) ks (omega arith)) ∙ take_more ks i d (omega arith)

fewer : (a m n : ℕ) → n ≡ suc m → nat_lt a n ≡ nat_le a m
fewer a m n e =
    test (nat_le a m) (λ q. let l = leb-true a m q in lt-ltb a n (omega (arith, e)) ∙ sym q)
    (λ q. let l = leb-false a m q in le-ltb a n (omega (arith, e)) ∙ sym q)

pub last_of : (b : Brackets) (scan : Scan) (k : Bracket) (v : Bool) → IsScan b scan
    → IsLastOf scan.brackets.items k → v ≡ (k.is_image || nat_lt scan.active (length scan.brackets.items))
    → IsLast b k v
last_of b scan k v h l e =
    let last : reverse scan.brackets.items ≡ k ∷ reverse l.0 = ap reverse l.1 ∙ reverse-append l.0 (k ∷ []) in
    let size : length scan.brackets.items ≡ suc (length (reverse l.0)) =
    omega (arith, ap length l.1, length-append l.0 (k ∷ []), length-reverse l.0) in
    let active =
    e ∙ ap (λ w. k.is_image || w) (fewer scan.active (length (reverse l.0)) (length scan.brackets.items) size) in
    subst (IsLast b k) (sym active)
    (last_open scan.active b k (reverse l.0) scan.slots.items scan.runs.items
    (subst (λ (x : List Bracket). AreOpen scan.active b x scan.slots.items scan.runs.items) last h.open_are))

outer_open : (a : ℕ) (b : Brackets) (slots : List Slot) (runs : List Delimiter) → AreOpen a b [] slots runs
    → (ts : List Token) × (b ≡ outermost ts)
outer_open a (outermost ts) slots runs h = (ts, refl)
outer_open a (bracket i v text ts below) slots runs h = absurd h

outer_of : (b : Brackets) (scan : Scan) → IsScan b scan → scan.brackets.items ≡ []
    → (ts : List Token) × (b ≡ outermost ts)
outer_of b scan h e =
    outer_open scan.active b scan.slots.items scan.runs.items
    (subst (λ (l : List Bracket). AreOpen scan.active b (reverse l) scan.slots.items scan.runs.items) e h.open_are)

-- the text behind the last bracket ends here
pub last_ends : (here : List ℕ) (b : Brackets) (k : Bracket) (v : Bool) → IsLast b k v → EndIn here b
    → IsEnd k.text.now here
last_ends here b k v l h = (subst (EndIn here) l.is h).0

-- no bracket is open
pub outer_closed : (refs : References) (b : Brackets) (after : List ℕ) (o n : Scan) → IsScan b o
    → o.brackets.items ≡ [] → IsScan (and_tokens b (finished (letter 93 no_inlines) ∷ [])) n
    → IsStep (closing_step refs b after) after after n
outer_closed refs b after o n h e k =
    let w = outer_of b o h e in
    subst (λ x. IsStep (closing_step refs x after) after after n) (sym w.1)
    (record {
      stack = subst (λ x. IsScan (and_tokens x (finished (letter 93 no_inlines) ∷ [])) n) w.1 k;
      behind = refl;
    })

-- the last bracket begins nothing
pub text_step : (refs : References) (b : Brackets) (after : List ℕ) (k : Bracket) (v : Bool) (n : Scan)
    (l : IsLast b k v) → v ≡ false → IsScan (as_text k.is_image l.tokens l.below).brackets n
    → IsStep (closing_step refs b after) after after n
text_step refs b after k v n l e h =
    subst (λ x. IsStep (closing_step refs x after) after after n)
    (sym (l.is ∙ ap (λ w. bracket k.is_image w k.text.now l.tokens l.below) e))
    (record { stack = h; behind = refl })

pub none_step : (refs : References) (b : Brackets) (after : List ℕ) (k : Bracket) (v : Bool) (n : Scan)
    (l : IsLast b k v) → v ≡ true → None ≡ target refs (before_end k.text.now (93 ∷ after)) after
    → IsScan (as_text k.is_image l.tokens l.below).brackets n
    → IsStep (closing_step refs b after) after after n
none_step refs b after k v n l e t h =
    subst (λ x. IsStep (closing_step refs x after) after after n)
    (sym (l.is ∙ ap (λ w. bracket k.is_image w k.text.now l.tokens l.below) e))
    (subst (λ o. IsStep (linked k.is_image l.tokens l.below after o) after after n) t
    (record { stack = h; behind = refl }))

-- it begins an image or a link
linked_step : (i : Bool) (ts : List Token) (below : Brackets) (after : List ℕ) (f : Found) (n : Scan)
    → IsEnd after f.rest.now → IsScan (linked_of i f.target ts below) n
    → IsStep (linked i ts below after (Some (found_of f))) after f.rest.now n
linked_step true ts below after f n e h = record { stack = h; behind = (rest_by_length after f.rest.now e).1 }
linked_step false ts below after f n e h = record { stack = h; behind = (rest_by_length after f.rest.now e).1 }

pub link_step : (refs : References) (b : Brackets) (after : List ℕ) (k : Bracket) (v : Bool) (f : Found) (n : Scan)
    (l : IsLast b k v) → v ≡ true → Some (found_of f) ≡ target refs (before_end k.text.now (93 ∷ after)) after
    → IsScan (linked_of k.is_image f.target l.tokens l.below) n
    → IsStep (closing_step refs b after) after f.rest.now n
link_step refs b after k v f n l e t h =
    let end = target_end refs (before_end k.text.now (93 ∷ after)) after (found_of f) (sym t) in
    subst (λ x. IsStep (closing_step refs x after) after f.rest.now n)
    (sym (l.is ∙ ap (λ w. bracket k.is_image w k.text.now l.tokens l.below) e))
    (subst (λ o. IsStep (linked k.is_image l.tokens l.below after o) after f.rest.now n) t
    (linked_step k.is_image l.tokens l.below after f n end h))
