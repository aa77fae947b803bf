-- Openers from the last one on.
use Rattle.std.proofs.Common.{◌≡◌, ◌∙◌, ℕ, zero, suc, ◌+◌, ◌<◌, ◌≤◌, List, [], ◌∷◌, ◌++◌, length, take}
use Rattle.std.proofs.Common.{drop, get_or, refl, ap, sym, subst, append_assoc, arith}
use Rattle.std.proofs.lemmas.Bool.{ltb-true, ltb-false}
use Rattle.std.specs.Prelude.{reverse, slice_index_or, nat_lt, ◌-◌}
use Rattle.std.specs.List.{AllWithin}
use Rattle.std.proofs.lemmas.List.{reverse-append, get_or-drop, length-drop}
use Rattle.std.proofs.Math.Seq.{split_at}
use Rattle.htmd_lexical.proofs.Cases.{test}
use Rattle.htmd_commonmark_reading.specs.DelimiterRuns.{Run}
use Rattle.htmd_commonmark_reader.specs.Openers.{IsUnfit, AllUnfit, AreOrdered, IsSearched}
use Rattle.htmd_commonmark_reader.specs.declared.emphasis.Delimiter.{Delimiter}

pub reverse_first : {A : Type 0} (x : A) (xs : List A) → reverse (x ∷ xs) ≡ reverse xs ++ (x ∷ [])
reverse_first x xs = reverse-append (x ∷ []) xs

-- around an opener
pub from_last : (ds : List Delimiter) (i : ℕ) (d : Delimiter) → i < length ds
    → reverse ds ≡ reverse (drop (i + 1) ds) ++ (slice_index_or ds i d ∷ reverse (take i ds))
from_last ds i d l =
    let x = get_or ds i d in
    let k : suc i ≡ i + 1 = omega arith in
    ap reverse (split_at ds i d l ∙ ap (λ n. take i ds ++ (x ∷ drop n ds)) k)
    ∙ reverse-append (take i ds) (x ∷ drop (i + 1) ds)
    ∙ ap (λ q. q ++ reverse (take i ds)) (reverse_first x (drop (i + 1) ds))
    ∙ append_assoc (reverse (drop (i + 1) ds)) (x ∷ []) (reverse (take i ds))

unfit_append : (r : Run) (a b : List Delimiter) → AllUnfit r a → AllUnfit r b → AllUnfit r (a ++ b)
unfit_append r [] b h k = k
unfit_append r (d ∷ a) b h k = (h.0, unfit_append r a b h.1 k)

unfit_reverse : (r : Run) (ds : List Delimiter) → AllUnfit r ds → AllUnfit r (reverse ds)
unfit_reverse r [] h = h
unfit_reverse r (d ∷ ds) h =
    subst (AllUnfit r) (sym (reverse_first d ds))
    (unfit_append r (reverse ds) (d ∷ []) (unfit_reverse r ds h.1) (h.0, tt))

by_places : (r : Run) (ds : List Delimiter)
    → ((k : ℕ) (d : Delimiter) → k < length ds → IsUnfit r (get_or ds k d))
    → AllUnfit r ds
by_places r [] h = tt
by_places r (x ∷ ds) h = (h 0 x (omega arith), by_places r ds (λ k d l. h (suc k) d (omega arith)))

pub unfit_from_last : (r : Run) (ds : List Delimiter) (i : ℕ) → AllWithin (IsUnfit r) ds i (length ds)
    → AllUnfit r (reverse (drop i ds))
unfit_from_last r ds i h =
    unfit_reverse r (drop i ds)
    (by_places r (drop i ds)
    (λ k d l. subst (IsUnfit r) (sym (get_or-drop i ds k d))
    (h (i + k) d (omega arith) (omega (arith, length-drop i ds)))))

-- ---- a search, one opener at a time

pub same_item : (ds : List Delimiter) (i : ℕ) (d e : Delimiter) → i < length ds → get_or ds i d ≡ get_or ds i e
same_item [] i d e l = absurd (omega arith)
same_item (x ∷ ds) zero d e l = refl
same_item (x ∷ ds) (suc i) d e l = same_item ds i d e (omega arith)

-- what an earlier search has passed
pub passed_searched : (r : Run) (ds : List Delimiter) (index place count : ℕ) (e : Delimiter) → AreOrdered ds
    → IsSearched r ds index place → AllWithin (IsUnfit r) ds count (length ds) → 0 < count → count ≤ length ds
    → (get_or ds (count - 1) e).from < place → AllWithin (IsUnfit r) ds index (length ds)
passed_searched r ds index place count e o s h some within before k d low high =
    test (nat_lt k count)
    (λ b.
    let l = ltb-true k count b in
    let last : (get_or ds (count - 1) d).from < place =
    subst (λ (x : Delimiter). x.from < place) (same_item ds (count - 1) e d (omega arith)) before in
    let here = o k (count - 1) d (omega arith) (omega arith) in
    s k d low high (omega arith))
    (λ b. h k d (ltb-false k count b) high)

-- one that doesn't fit
pub passed_one : (r : Run) (ds : List Delimiter) (count : ℕ) (e : Delimiter)
    → AllWithin (IsUnfit r) ds count (length ds) → 0 < count → count ≤ length ds
    → IsUnfit r (get_or ds (count - 1) e) → AllWithin (IsUnfit r) ds (count - 1) (length ds)
passed_one r ds count e h some within unfit k d low high =
    test (nat_lt k count)
    (λ b.
    let l = ltb-true k count b in
    let here : count - 1 ≡ k = omega arith in
    subst (λ j. IsUnfit r (get_or ds j d)) here
    (subst (IsUnfit r) (same_item ds (count - 1) e d (omega arith)) unfit))
    (λ b. h k d (ltb-false k count b) high)
