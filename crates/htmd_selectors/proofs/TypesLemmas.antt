-- How often names are seen in a row.
use Rattle.std.proofs.Common.{◌≡◌, ℕ, ◌+◌, ◌-◌, ◌<◌, ◌≤◌, List, [], ◌∷◌, ◌++◌, length, drop, get_or, refl, sym, ap, ◌∙◌}
use Rattle.std.proofs.Common.{subst}
use Rattle.std.proofs.Common.{Option, Some, Bool, true, false, cond, Ordering, ⊎_elim, arith, append_assoc}
use Rattle.std.specs.Borrow.{Bor}
use Rattle.std.specs.BTreeMap.{BTreeMap, UpdatesBy, get_by}
use Rattle.std.specs.Cmp.{eq_by_cmp_equiv}
use Rattle.std.specs.Cmp.Lexicographic.{slice_cmp, bytes_decides, nat_list_cmp_total, nat_list_eq_equiv, texts_ties}
use Rattle.std.specs.Map.{AreApart, IsKeyTest, KeepsOthers, lookup}
use Rattle.std.specs.Ordering.{eq_by_cmp, is_eq, nat_cmp}
use Rattle.std.specs.Str.{bytes_eq}
use Rattle.std.proofs.lemmas.Bool.{cases_Bool, cond-true, cond-false}
use Rattle.std.proofs.lemmas.List.{drop_more}
use Rattle.htmd_lexical.proofs.Cases.{test}
use Rattle.htmd_selectors.specs.declared.matching.Counts.{Counts}
use Rattle.htmd_selectors.specs.Types.{occurrences, type_counts}
use Rattle.htmd_selectors.specs.TypeViews.{count_or_none, names_of, seen_of}

abbrev Key : Type 0
Key = Bor (List ℕ)

abbrev key_cmp : Key → Key → Ordering
key_cmp a b = slice_cmp nat_cmp a.now b.now

abbrev is_at : List ℕ → Key → Bool
is_at name key = is_eq (slice_cmp nat_cmp name key.now)

kept-others : {X : Type 0} (test : Key → Bool) (old new : List (Key × X))
    → KeepsOthers (eq_by_cmp key_cmp) test old new → (other : Key → Bool)
    → IsKeyTest (eq_by_cmp key_cmp) other → AreApart test other → lookup other new ≡ lookup other old
unfolding KeepsOthers
kept-others test old new h = h

-- no key is two names
at-one : (a b : List ℕ) (key : Key) → bytes_eq a b ≡ false → is_at a key ≡ true → is_at b key ≡ false
at-one a b key differ here =
    sym (texts_ties b key.now)
    ∙ (nat_list_eq_equiv.symm b key.now
    ∙ (sym (nat_list_eq_equiv.congr a key.now b (texts_ties a key.now ∙ here)) ∙ differ))

-- what is kept at a name after a value was put at a key
put-at : {X : Type 0} (old new : BTreeMap Key X) (key : Key) (w : Option X)
    → UpdatesBy key_cmp (key_cmp key) old new w → (name : List ℕ)
    → get_by (λ k. slice_cmp nat_cmp name k.now) new
    ≡ cond (bytes_eq key.now name) w (get_by (λ k. slice_cmp nat_cmp name k.now) old)
put-at old new key w h name =
    ⊎_elim
    (λ same. subst (λ l. get_by (λ k. slice_cmp nat_cmp l k.now) new ≡ w)
    ((bytes_decides key.now name).0 same) h.1
    ∙ sym (cond-true _ _ _ same))
    (λ differ. kept-others (is_at key.now) old.entries new.entries h.3 (is_at name)
    (λ x y. (eq_by_cmp_equiv nat_list_cmp_total).congr name x.now y.now)
    (λ k. at-one key.now name k differ)
    ∙ sym (cond-false _ _ _ differ))
    (cases_Bool (bytes_eq key.now name))

count-cond : (b : Bool) (n : ℕ) (other : Option ℕ)
    → count_or_none (cond b (Some n) other) ≡ cond b n (count_or_none other)
count-cond true n other = refl
count-cond false n other = refl

-- a name is seen once more
pub seen-once : (old new : BTreeMap Key ℕ) (key : Key) (count : ℕ) → count ≡ seen_of old key.now + 1
    → UpdatesBy key_cmp (key_cmp key) old new (Some count) → (name : List ℕ)
    → seen_of new name ≡ cond (bytes_eq key.now name) 1 0 + seen_of old name
seen-once old new key count is h name =
    ap count_or_none (put-at old new key (Some count) h name)
    ∙ (count-cond (bytes_eq key.now name) count (get_by (λ k. slice_cmp nat_cmp name k.now) old)
    ∙ test (bytes_eq key.now name)
    (λ y. let here : seen_of old key.now ≡ seen_of old name = ap (seen_of old) ((bytes_decides key.now name).0 y) in
    let more : count ≡ 1 + seen_of old name = omega (arith, is, here) in
    cond-true _ count (seen_of old name) y ∙ (more ∙ ap (λ m. m + seen_of old name) (sym (cond-true _ 1 0 y))))
    (λ n. let none : seen_of old name ≡ 0 + seen_of old name = omega arith in
    cond-false _ count (seen_of old name) n
    ∙ (none ∙ ap (λ m. m + seen_of old name) (sym (cond-false _ 1 0 n)))))

-- the names from a place on
pub names-turn : (names : List Key) (i : ℕ) (d : Key) → i < length names
    → names_of (drop i names) ≡ (get_or names i d).now ∷ names_of (drop (i + 1) names)
names-turn names i d l = ap names_of (drop_more names i d l)

-- a name more of those that are seen
pub seen-turn : (names : List Key) (i : ℕ) (d : Key) (old new : BTreeMap Key ℕ) (name : List ℕ)
    → i < length names
    → seen_of new name ≡ cond (bytes_eq (get_or names i d).now name) 1 0 + seen_of old name
    → occurrences name (names_of (drop i names)) + seen_of old name ≡ occurrences name (names_of names)
    → occurrences name (names_of (drop (i + 1) names)) + seen_of new name ≡ occurrences name (names_of names)
seen-turn names i d old new name l more sum =
    omega (arith, ap (occurrences name) (names-turn names i d l), more, sum)

one-or-none : (b : Bool) → cond b 1 0 ≤ 1
one-or-none true = omega arith
one-or-none false = omega arith

-- a name is seen at most as often as there were names
pub seen-few : (old new : BTreeMap Key ℕ) (key : List ℕ) (name : List ℕ) (i : ℕ)
    → seen_of new name ≡ cond (bytes_eq key name) 1 0 + seen_of old name → seen_of old name ≤ i
    → seen_of new name ≤ i + 1
seen-few old new key name i more few =
    let one : cond (bytes_eq key name) 1 0 ≤ 1 = one-or-none (bytes_eq key name) in
    omega (arith, one, more, few)

-- a name more, before others
pub names-push : (names : List Key) (name : Key) (rest : List (List ℕ))
    → names_of (names ++ name ∷ []) ++ rest ≡ names_of names ++ name.now ∷ rest
names-push [] name rest = refl
names-push (other ∷ names) name rest = ap (λ x. other.now ∷ x) (names-push names name rest)

-- the counts of one name more, after those before it
pub counts-turn : (before : List (List ℕ)) (names : List Key) (i : ℕ) (d : Key) (all : List (List ℕ))
    (old : List Counts) (total seen : ℕ) → i < length names
    → ((n : List ℕ) → occurrences n before + occurrences n (names_of (drop i names)) ≡ occurrences n all)
    → old ++ type_counts before (names_of (drop i names)) ≡ type_counts [] all
    → total ≡ occurrences (get_or names i d).now all → seen ≡ occurrences (get_or names i d).now before
    → (old ++ (record { before = seen; after = total - seen - 1 }) ∷ [])
    ++ type_counts ((get_or names i d).now ∷ before) (names_of (drop (i + 1) names)) ≡ type_counts [] all
counts-turn before names i d all old total seen l sum rest t s =
    let name : List ℕ = (get_or names i d).now in
    let later : List (List ℕ) = names_of (drop (i + 1) names) in
    let turn = names-turn names i d l in
    let one : occurrences name (names_of (drop i names)) ≡ 1 + occurrences name later =
    ap (occurrences name) turn
    ∙ ap (λ b. cond b 1 0 + occurrences name later) ((bytes_decides name name).1 refl) in
    let after : total - seen - 1 ≡ occurrences name later = omega (arith, one, sum name, t, s) in
    append_assoc old ((record { before = seen; after = total - seen - 1 }) ∷ []) (type_counts (name ∷ before) later)
    ∙ (ap (λ n. old ++ (record { before = n; after = total - seen - 1 }) ∷ type_counts (name ∷ before) later) s
    ∙ (ap (λ n. old ++ (record { before = occurrences name before; after = n })
    ∷ type_counts (name ∷ before) later) after
    ∙ (ap (λ x. old ++ type_counts before x) (sym turn) ∙ rest)))
