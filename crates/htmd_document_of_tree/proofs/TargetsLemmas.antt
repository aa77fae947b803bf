-- Lemmas on what links can lead to.
use Rattle.std.proofs.Common.{◌≡◌, ℕ, suc, ◌+◌, ◌<◌, ◌≤◌, Bool, true, false, not, cond, ◌||◌, ◌&&◌, List, [], ◌∷◌, ◌++◌}
use Rattle.std.proofs.Common.{length, map, filter, take, drop, get_or, Option, refl, ap, sym, ◌∙◌, add-one, append_assoc}
use Rattle.std.proofs.Common.{arith}
use Rattle.std.proofs.lemmas.List.{append-nil}
use Rattle.std.proofs.lemmas.List.Folds.{list_any_at}
use Rattle.std.specs.Str.{bytes_eq, chars}
use lib.Utf8.{encode}
use Rattle.htmd_lexical.proofs.Cases.{test}
use Rattle.htmd_shown.specs.Roles.{is_among}
use Rattle.std.specs.Borrow.{Bor}
use Rattle.std.specs.HashSet.{HashSet, UpdatesBy}
use Rattle.std.specs.List.{list_any}
use Rattle.htmd_document_of_tree.specs.declared.targets.Target as held
use Rattle.htmd_document_of_tree.specs.TargetViews.{chosen, firsts_of, holds, is_name, target_of, turned}
use Rattle.htmd_document_of_tree.specs.Targets.{firsts_after, ids_among, is_first, target_by}
use Rattle.htmd_document_of_tree.proofs.WalksLemmas.{gone}
use Rattle.std.specs.Option.{unwrap_or}
use Rattle.htmd_shown.specs.declared.simple.Simple as code
use Rattle.htmd_shown.specs.SimpleTrees.{simples_of}
use Rattle.htmd_shown.specs.SimpleViews.{simple_of}
use Rattle.htmd_document_of_tree.specs.Seen.{seen}
use Rattle.htmd_document_of_tree.specs.Targets.{Target, own_targets, targets_inside, targets_among}
use Rattle.htmd_document_of_tree.proofs.WalksLemmas.{drop-item, drop-end, take-item}

abbrev pub targets-from : (List ℕ → Bool) → Option ℕ → ℕ → List code.Simple → ℕ → List Target
targets-from counts whole n zs i = targets_among counts whole n (simples_of (drop i (map simple_of zs)))

pub targets-drop : (counts : List ℕ → Bool) (whole : Option ℕ) (n : ℕ) (zs : List code.Simple) (i : ℕ)
    (x : code.Simple) → i < length zs → x ≡ get_or zs i x
    → targets-from counts whole n zs i
    ≡ own_targets counts (unwrap_or whole n) (simple_of x) ++ targets_inside counts whole n (simple_of x)
    ++ targets-from counts whole (n + seen (simple_of x)) zs (i + 1)
targets-drop counts whole n zs i x h is =
    rw add-one (ap (λ vs. targets_among counts whole n (simples_of vs)) (drop-item simple_of zs i x h is))

pub targets-end : (counts : List ℕ → Bool) (whole : Option ℕ) (n : ℕ) (zs : List code.Simple) (i : ℕ)
    → length zs ≤ i
    → targets-from counts whole n zs i ≡ []
targets-end counts whole n zs i h =
    ap (λ vs. targets_among counts whole n (simples_of vs)) (drop-end simple_of zs i h)

-- those of a node after those so far
pub targets-more : (before own inside rest all : List Target) → before ++ ((own ++ inside) ++ rest) ≡ all
    → ((before ++ own) ++ inside) ++ rest ≡ all
targets-more before own inside rest all e = simp append_assoc (simp append_assoc at e)

pub targets-turn : (counts : List ℕ → Bool) (whole : Option ℕ) (n : ℕ) (zs : List code.Simple) (i : ℕ)
    (x : code.Simple) (before one two all : List Target) → i < length zs → x ≡ get_or zs i x
    → one ≡ before ++ own_targets counts (unwrap_or whole n) (simple_of x)
    → two ≡ one ++ targets_inside counts whole n (simple_of x)
    → before ++ targets-from counts whole n zs i ≡ all
    → two ++ targets-from counts whole (n + seen (simple_of x)) zs (i + 1) ≡ all
targets-turn counts whole n zs i x before one two all h is own inside e =
    let v = simple_of x in
    let rest = targets-from counts whole (n + seen v) zs (i + 1) in
    ap (λ x. x ++ rest) (inside ∙ ap (λ x. x ++ targets_inside counts whole n v) own)
    ∙ targets-more before (own_targets counts (unwrap_or whole n) v) (targets_inside counts whole n v) rest all
    (ap (λ x. before ++ x) (sym (targets-drop counts whole n zs i x h is)) ∙ e)

-- ---- names

-- what is known where a name is among targets counts for each name
pub if_named : (zs : List held.Target) (i : ℕ) (x : held.Target) (a b : Bool) → i < length zs
    → x ≡ get_or zs i x → (list_any is_name zs ≡ true → a ≡ b) → (x.is_name && a) ≡ (x.is_name && b)
if_named zs i x a b h is same = test x.is_name
    (λ named. ap (λ n. n && a) named
    ∙ (same (list_any_at is_name zs i x h (ap is_name (sym is) ∙ named)) ∙ sym (ap (λ n. n && b) named)))
    (λ other. ap (λ n. n && a) other ∙ sym (ap (λ n. n && b) other))

-- ---- the first of each value

pub length-firsts : (ids known : List (List ℕ)) (ts : List Target) → length (firsts_of ids known ts) ≡ length ts
length-firsts ids known [] = refl
length-firsts ids known (t ∷ ts) =
    let yes = true ∷ firsts_of ids (t.value ∷ known) ts in
    let no = false ∷ firsts_of ids known ts in
    test (is_first ids known t)
    (λ h. ap (λ b. length (cond b yes no)) h ∙ ap suc (length-firsts ids (t.value ∷ known) ts))
    (λ h. ap (λ b. length (cond b yes no)) h ∙ ap suc (length-firsts ids known ts))

pub chosen-firsts : (ids known : List (List ℕ)) (ts : List Target)
    → chosen (firsts_of ids known ts) ts ≡ firsts_after ids known ts
chosen-firsts ids known [] = refl
chosen-firsts ids known (t ∷ ts) =
    let yes = true ∷ firsts_of ids (t.value ∷ known) ts in
    let no = false ∷ firsts_of ids known ts in
    let taken = t ∷ firsts_after ids (t.value ∷ known) ts in
    let left = firsts_after ids known ts in
    test (is_first ids known t)
    (λ h. ap (λ b. chosen (cond b yes no) (t ∷ ts)) h
    ∙ (ap (λ r. t ∷ r) (chosen-firsts ids (t.value ∷ known) ts) ∙ sym (ap (λ b. cond b taken left) h)))
    (λ h. ap (λ b. chosen (cond b yes no) (t ∷ ts)) h
    ∙ (chosen-firsts ids known ts ∙ sym (ap (λ b. cond b taken left) h)))

-- the values that are known after a target
abbrev pub next_known : List (List ℕ) → List (List ℕ) → Target → List (List ℕ)
next_known ids known t = cond (is_first ids known t) (t.value ∷ known) known

abbrev pub known_after : List (List ℕ) → List (List ℕ) → List Target → List (List ℕ)
known_after ids known found = gone (next_known ids) known found

pub firsts-more : (ids known : List (List ℕ)) (t : Target) (ts : List Target)
    → firsts_of ids known (t ∷ ts) ≡ is_first ids known t ∷ firsts_of ids (next_known ids known t) ts
firsts-more ids known t ts =
    let yes = true ∷ firsts_of ids (t.value ∷ known) ts in
    let no = false ∷ firsts_of ids known ts in
    test (is_first ids known t)
    (λ h. ap (λ b. cond b yes no) h
    ∙ sym (ap (λ b. b ∷ firsts_of ids (cond b (t.value ∷ known) known) ts) h))
    (λ h. ap (λ b. cond b yes no) h
    ∙ sym (ap (λ b. b ∷ firsts_of ids (cond b (t.value ∷ known) known) ts) h))

-- what is known after a target
pub known-more : (ids known : List (List ℕ)) (t : Target) (first : Bool) (s : List ℕ)
    → first ≡ is_first ids known t
    → cond first (bytes_eq t.value s || is_among known s) (is_among known s) ≡ is_among (next_known ids known t) s
known-more ids known t true s e = ap (λ b. is_among (cond b (t.value ∷ known) known) s) e
known-more ids known t false s e = ap (λ b. is_among (cond b (t.value ∷ known) known) s) e

-- the first ones up to a target, and that one
pub firsts-turn : (ids : List (List ℕ)) (zs : List held.Target) (i : ℕ) (x : held.Target) (before : List Bool)
    (first : Bool) (all : List Bool) → i < length zs → x ≡ get_or zs i x
    → first ≡ is_first ids (known_after ids [] (take i (map target_of zs))) (target_of x)
    → before ++ firsts_of ids (known_after ids [] (take i (map target_of zs))) (drop i (map target_of zs)) ≡ all
    → (before ++ first ∷ [])
    ++ firsts_of ids (known_after ids [] (take (i + 1) (map target_of zs))) (drop (i + 1) (map target_of zs)) ≡ all
firsts-turn ids zs i x before first all h at is e =
    let ts = map target_of zs in
    let k = known_after ids [] (take i ts) in
    let v = target_of x in
    let rest = drop (suc i) ts in
    let one : first ∷ firsts_of ids (next_known ids k v) rest ≡ firsts_of ids k (drop i ts) =
    ap (λ b. b ∷ firsts_of ids (next_known ids k v) rest) is
    ∙ (sym (firsts-more ids k v rest) ∙ sym (ap (λ vs. firsts_of ids k vs) (drop-item target_of zs i x h at))) in
    let more : known_after ids [] (take (i + 1) ts) ≡ next_known ids k v =
    take-item (next_known ids) target_of zs i [] x h at in
    ap (λ kn. (before ++ first ∷ []) ++ firsts_of ids kn (drop (i + 1) ts)) more
    ∙ rw add-one (append_assoc before (first ∷ []) (firsts_of ids (next_known ids k v) rest)
    ∙ (ap (λ bs. before ++ bs) one ∙ e))

pub known-turn : (ids : List (List ℕ)) (zs : List held.Target) (i : ℕ) (x : held.Target) (first now before : Bool)
    (s : List ℕ) → i < length zs → x ≡ get_or zs i x
    → first ≡ is_first ids (known_after ids [] (take i (map target_of zs))) (target_of x)
    → now ≡ cond first (bytes_eq (target_of x).value s || before) before
    → before ≡ is_among (known_after ids [] (take i (map target_of zs))) s
    → now ≡ is_among (known_after ids [] (take (i + 1) (map target_of zs))) s
known-turn ids zs i x first now before s h at is e known =
    let k = known_after ids [] (take i (map target_of zs)) in
    let v = target_of x in
    e ∙ (ap (λ b. cond first (bytes_eq v.value s || b) b) known
    ∙ (known-more ids k v first s is
    ∙ sym (ap (λ kn. is_among kn s) (take-item (next_known ids) target_of zs i [] x h at))))

pub firsts-end : (ids known : List (List ℕ)) (zs : List held.Target) (i : ℕ) (before all : List Bool)
    → length zs ≤ i
    → before ++ firsts_of ids known (drop i (map target_of zs)) ≡ all → before ≡ all
firsts-end ids known zs i before all h e =
    sym (append-nil before)
    ∙ (sym (ap (λ vs. before ++ firsts_of ids known vs) (drop-end target_of zs i h)) ∙ e)

pub holds-none : {S : Type 0} (found : HashSet (Bor (List ℕ)) S) (s : List ℕ) → found.keys ≡ []
    → holds found s ≡ false
holds-none found s e = ap (λ ks. list_any (λ k. bytes_eq s k.now) ks) e

-- ---- what stays

-- one after the other comes off the front
abbrev pub turning : (Target → Bool) → List Target → Bool → List Target
turning stays found first = turned stays first found

pub gone-turning : (stays : Target → Bool) (firsts : List Bool) (ts kept : List Target)
    → length firsts ≡ length ts
    → gone (turning stays) (ts ++ kept) firsts ≡ kept ++ filter stays (chosen firsts ts)
gone-turning stays [] [] kept e = sym (append-nil kept)
gone-turning stays [] (t ∷ ts) kept e = absurd (omega arith)
gone-turning stays (b ∷ bs) [] kept e = absurd (omega arith)
gone-turning stays (true ∷ bs) (t ∷ ts) kept e =
    let next : length bs ≡ length ts = omega arith in
    let moved = (ts ++ kept) ++ t ∷ [] in
    let rest = filter stays (chosen bs ts) in
    test (stays t)
    (λ h. ap (λ c. gone (turning stays) (cond c moved (ts ++ kept)) bs) h
    ∙ (ap (λ vs. gone (turning stays) vs bs) (append_assoc ts kept (t ∷ []))
    ∙ (gone-turning stays bs ts (kept ++ t ∷ []) next
    ∙ (append_assoc kept (t ∷ []) rest ∙ ap (λ vs. kept ++ vs) (sym (ap (λ c. cond c (t ∷ rest) rest) h))))))
    (λ h. ap (λ c. gone (turning stays) (cond c moved (ts ++ kept)) bs) h
    ∙ (gone-turning stays bs ts kept next ∙ ap (λ vs. kept ++ vs) (sym (ap (λ c. cond c (t ∷ rest) rest) h))))
gone-turning stays (false ∷ bs) (t ∷ ts) kept e = gone-turning stays bs ts kept (omega arith)

-- all that stay, once each came off the front
pub all-turned : (stays : Target → Bool) (firsts : List Bool) (ts : List Target) → length firsts ≡ length ts
    → gone (turning stays) ts firsts ≡ filter stays (chosen firsts ts)
all-turned stays firsts ts e =
    ap (λ vs. gone (turning stays) vs firsts) (sym (append-nil ts)) ∙ gone-turning stays firsts ts [] e

-- ---- ids

pub ids-more : (t : Target) (ts : List Target) (s : List ℕ) (held : Bool)
    → ((held || (not t.is_name && bytes_eq t.value s)) || is_among (ids_among ts) s)
    ≡ (held || is_among (ids_among (t ∷ ts)) s)
ids-more t ts s true = refl
ids-more t ts s false = by_kind t.is_name refl
  where
    by_kind : (b : Bool) → t.is_name ≡ b
        → ((not t.is_name && bytes_eq t.value s) || is_among (ids_among ts) s) ≡ is_among (ids_among (t ∷ ts)) s
    by_kind true e = rw e refl
    by_kind false e = rw e refl

or-false : (a : Bool) → a ≡ (a || false)
or-false true = refl
or-false false = refl

pub ids-turn : (zs : List held.Target) (i : ℕ) (x : held.Target) (now before all : Bool) (s : List ℕ)
    → i < length zs
    → x ≡ get_or zs i x → now ≡ (before || (not x.is_name && bytes_eq (target_of x).value s))
    → (before || is_among (ids_among (drop i (map target_of zs))) s) ≡ all
    → (now || is_among (ids_among (drop (i + 1) (map target_of zs))) s) ≡ all
ids-turn zs i x now before all s h at is e =
    let v = target_of x in
    let rest = drop (suc i) (map target_of zs) in
    rw add-one (ap (λ b. b || is_among (ids_among rest) s) is
    ∙ (ids-more v rest s before
    ∙ (sym (ap (λ vs. before || is_among (ids_among vs) s) (drop-item target_of zs i x h at)) ∙ e)))

pub ids-end : (zs : List held.Target) (i : ℕ) (before all : Bool) (s : List ℕ) → length zs ≤ i
    → (before || is_among (ids_among (drop i (map target_of zs))) s) ≡ all → before ≡ all
ids-end zs i before all s h e =
    or-false before
    ∙ (sym (ap (λ vs. before || is_among (ids_among vs) s) (drop-end target_of zs i h)) ∙ e)

-- ---- a set of texts that are lent

-- after a key is put in
pub held-after : {S : Type 0} (bs : List ℕ) (old new : HashSet (Bor (List ℕ)) S) (b : Bool)
    → UpdatesBy (λ x y. bytes_eq x.now y.now) (λ k. bytes_eq bs k.now) old new b
    → (s : List ℕ) → holds new s ≡ cond (bytes_eq bs s) b (holds old s)
held-after bs old new b h s = h.0 (record { ref_ptr = (0, 0); now = s })

-- r: the key was not there
pub first-held : (r same before was : Bool) → r ≡ not was → (same ≡ true → before ≡ was)
    → cond same true before ≡ cond r (same || before) before
first-held r true before true e h = sym (ap (λ b. cond b true before) e ∙ h refl)
first-held r false before true e h = sym (ap (λ b. cond b before before) e)
first-held r true before false e h = sym (ap (λ b. cond b true before) e)
first-held r false before false e h = sym (ap (λ b. cond b before before) e)

pub held-more : (same before : Bool) → cond same true before ≡ (before || same)
held-more true true = refl
held-more true false = refl
held-more false true = refl
held-more false false = refl

-- ---- an attribute without a value

pub no-target : (counts : List ℕ → Bool) (n : ℕ) (is_name : Bool) → target_by counts n is_name [] ≡ []
unfolding chars encode
no-target counts n is_name = refl
