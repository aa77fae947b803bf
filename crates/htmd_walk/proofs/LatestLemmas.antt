-- From a tag's newest registration to the older ones, and one registration more.
use Rattle.std.proofs.Common.{◌≡◌, ℕ, suc, ◌<◌, ◌≤◌, Bool, true, false, cond, List, [], ◌∷◌, ◌++◌, length, map}
use Rattle.std.proofs.Common.{get_or, take, Option, Some, None, refl, sym, ap, ◌∙◌, arith, subst, slice_get}
use Rattle.std.proofs.Common.{string_bytes, ⊎_elim}
use Rattle.std.specs.Str.{bytes_eq}
use Rattle.std.proofs.Common.{◌⊎◌, inl, inr, String}
use Rattle.std.specs.Map.{update, lookup}
use Rattle.std.specs.String.{string_eq}
use Rattle.std.specs.HashMap.{HashMap, get, get_by_text}
use Rattle.std.proofs.Math.ListN.{get_or-append, get_or-map}
use Rattle.std.proofs.Math.Seq.{get_or-append_seam}
use Rattle.std.proofs.lemmas.Bool.{cases_lt}
use Rattle.std.proofs.lemmas.List.{take-take, take_all, length-take, get_or-take, length-map, map-append}
use Rattle.std.proofs.lemmas.List.{take-append-le, length-append}
use Rattle.std.proofs.lemmas.Slice.Eq.{bytes_eq-Decides}
use Rattle.htmd_walk.specs.declared.element_handler.registrations.Registration.{Registration}
use Rattle.htmd_walk.specs.Choice.{TagIndex, indexes}
use Rattle.htmd_walk.specs.TagIndexes.{tag_index}
use Rattle.htmd_walk.specs.Latest.{position_behind, latest, IsChained}

-- the registration at a position is the newest one of a tag
pub record IsNewest (tag : List ℕ) (rs : List TagIndex) (position : ℕ) : Type 0 where
  pub within : position < length rs
  pub tagged : (d : TagIndex) → bytes_eq (get_or rs position d).tag tag ≡ true
  pub first : (d : TagIndex) → indexes tag rs ≡ (get_or rs position d).index ∷ indexes tag (take position rs)

abbrev pub IsLatest : List ℕ → List TagIndex → Option ℕ → Type 0
IsLatest tag rs None = indexes tag rs ≡ []
IsLatest tag rs (Some position) = IsNewest tag rs position

behind : (tag : List ℕ) (r : TagIndex) (rs : List TagIndex) (o : Option ℕ) (b : Bool) → bytes_eq r.tag tag ≡ b
    → IsLatest tag rs o → IsLatest tag (r ∷ rs) (position_behind o b)
behind tag r rs None false e h =
    ap (λ x. x ++ cond (bytes_eq r.tag tag) (r.index ∷ []) []) h ∙ ap (λ b. cond b (r.index ∷ []) []) e
behind tag r rs None true e h = record {
  within = omega arith;
  tagged = λ d. e;
  first = λ d. ap (λ x. x ++ cond (bytes_eq r.tag tag) (r.index ∷ []) []) h
      ∙ ap (λ b. cond b (r.index ∷ []) []) e;
}
behind tag r rs (Some position) b e h =
    let l = h.within in record {
      within = omega arith;
      tagged = λ d. h.tagged d;
      first = λ d. ap (λ x. x ++ cond (bytes_eq r.tag tag) (r.index ∷ []) []) (h.first d);
    }

pub latest_is : (tag : List ℕ) (rs : List TagIndex) → IsLatest tag rs (latest tag rs)
latest_is tag [] = refl
latest_is tag (r ∷ rs) = behind tag r rs (latest tag rs) (bytes_eq r.tag tag) refl (latest_is tag rs)

-- ---- one registration more

at_start : (b : Bool) → position_behind None b ≡ cond b (Some 0) None
at_start true = refl
at_start false = refl

further : (b : Bool) (n : ℕ) (o : Option ℕ) (c : Bool) → position_behind (cond b (Some n) o) c
    ≡ cond b (Some (suc n)) (position_behind o c)
further true n o c = refl
further false n o c = refl

pub latest-push : (tag : List ℕ) (rs : List TagIndex) (r : TagIndex) → latest tag (rs ++ r ∷ [])
    ≡ cond (bytes_eq r.tag tag) (Some (length rs)) (latest tag rs)
latest-push tag [] r = at_start (bytes_eq r.tag tag)
latest-push tag (x ∷ rs) r =
    ap (λ o. position_behind o (bytes_eq x.tag tag)) (latest-push tag rs r)
    ∙ further (bytes_eq r.tag tag) (length rs) (latest tag rs) (bytes_eq x.tag tag)

-- ---- a search

-- a search that passed some registrations: the indexes that are left begin at this position
pub record Searching (tag : List ℕ) (rs : List TagIndex) (skipped left : ℕ) (position : Option ℕ) : Type 0 where
  pub count : ℕ
  pub position_is : position ≡ latest tag (take count rs)
  pub same : slice_get (indexes tag (take count rs)) left ≡ slice_get (indexes tag rs) skipped

pub search_begins : (tag : List ℕ) (rs : List TagIndex) (skipped : ℕ) (position : Option ℕ)
    → position ≡ latest tag rs
    → Searching tag rs skipped skipped position
search_begins tag rs skipped position e =
    let whole = sym (take_all (length rs) rs (omega arith)) in record {
      count = length rs;
      position_is = e ∙ ap (latest tag) whole;
      same = ap (λ xs. slice_get (indexes tag xs) skipped) (sym whole);
    }

pub search_fails : (tag : List ℕ) (rs : List TagIndex) (skipped left : ℕ) (position : Option ℕ)
    → position ≡ None
    → Searching tag rs skipped left position → None ≡ slice_get (indexes tag rs) skipped
search_fails tag rs skipped left position e s =
    let none =
    subst (λ o. IsLatest tag (take s.count rs) o) (sym s.position_is ∙ e) (latest_is tag (take s.count rs)) in
    ap (λ xs. slice_get xs left) (sym none) ∙ s.same

-- what is at the position of a search
pub record Found (tag : List ℕ) (rs : List TagIndex) (skipped left at : ℕ) : Type 0 where
  pub within : at < length rs
  pub tagged : (d : TagIndex) → (get_or rs at d).tag ≡ tag
  pub same : (d : TagIndex) → slice_get ((get_or rs at d).index ∷ indexes tag (take at rs)) left
      ≡ slice_get (indexes tag rs) skipped

pub search_finds : (tag : List ℕ) (rs : List TagIndex) (skipped left at : ℕ) (position : Option ℕ)
    → position ≡ Some at
    → Searching tag rs skipped left position → Found tag rs skipped left at
search_finds tag rs skipped left at position e s =
    let here =
    subst (λ o. IsLatest tag (take s.count rs) o) (sym s.position_is ∙ e) (latest_is tag (take s.count rs)) in
    let shorter = here.within in
    let l : at < s.count = omega (arith, length-take s.count rs) in
    let k : at ≤ s.count = omega arith in
    record {
      within = omega (arith, length-take s.count rs);
      tagged = λ d. (bytes_eq-Decides (get_or rs at d).tag tag).0
          (ap (λ (x : TagIndex). bytes_eq x.tag tag) (sym (get_or-take s.count rs at d l)) ∙ here.tagged d);
      same = λ d.
          ap (λ xs. slice_get xs left) (ap (λ (x : TagIndex). x.index ∷ indexes tag (take at rs))
          (sym (get_or-take s.count rs at d l))
          ∙ ap (λ xs. (get_or (take s.count rs) at d).index ∷ indexes tag xs) (sym (take-take at s.count rs k))
          ∙ sym (here.first d)) ∙ s.same;
    }

pub search_ends : (tag : List ℕ) (rs : List TagIndex) (skipped left at : ℕ) (d : TagIndex)
    → Found tag rs skipped left at → left ≡ 0
    → Some (get_or rs at d).index ≡ slice_get (indexes tag rs) skipped
search_ends tag rs skipped left at d f e =
    ap (slice_get ((get_or rs at d).index ∷ indexes tag (take at rs))) (sym e) ∙ f.same d

pub search_goes_on : (tag : List ℕ) (rs : List TagIndex) (skipped left less at : ℕ) (d : TagIndex)
    (older : Option ℕ)
    → Found tag rs skipped left at → suc less ≡ left → older ≡ latest (get_or rs at d).tag (take at rs)
    → Searching tag rs skipped less older
search_goes_on tag rs skipped left less at d older f e o = record {
  count = at;
  position_is = o ∙ ap (λ t. latest t (take at rs)) (f.tagged d);
  same = ap (slice_get ((get_or rs at d).index ∷ indexes tag (take at rs))) e ∙ f.same d;
}

-- how far a search has still to go at most
abbrev pub bound : Option ℕ → ℕ
bound None = 0
bound (Some position) = suc position

bound_of_latest : (tag : List ℕ) (rs : List TagIndex) (o : Option ℕ) → IsLatest tag rs o → bound o ≤ length rs
bound_of_latest tag rs None h = omega arith
bound_of_latest tag rs (Some position) h = let l = h.within in omega arith

pub bound_begins : (tag : List ℕ) (rs : List TagIndex) (o : Option ℕ) → o ≡ latest tag rs
    → bound o ≤ length rs
bound_begins tag rs o e = bound_of_latest tag rs o (subst (λ x. IsLatest tag rs x) (sym e) (latest_is tag rs))

pub bound_falls : (tag : List ℕ) (rs : List TagIndex) (at : ℕ) (o : Option ℕ) → o ≡ latest tag (take at rs)
    → bound o ≤ at
bound_falls tag rs at o e =
    let b = bound_begins tag (take at rs) o e in
    omega (arith, length-take at rs)

-- ---- what the registry keeps, with one registration more

pub newest-push : (old new : List ℕ → Option ℕ) (rs : List Registration) (r : Registration) (position : ℕ)
    → ((q : List ℕ) → old q ≡ latest q (map tag_index rs))
    → ((q : List ℕ) → new q ≡ update bytes_eq old (string_bytes r.tag) (Some position) q)
    → position ≡ length rs
    → (q : List ℕ) → new q ≡ latest q (map tag_index (rs ++ r ∷ []))
newest-push old new rs r position was is e q =
    let here = bytes_eq (string_bytes r.tag) q in
    is q ∙ ap (λ o. cond here (Some position) o) (was q)
    ∙ ap (λ (k : ℕ). cond here (Some k) (latest q (map tag_index rs))) (e ∙ sym (length-map rs tag_index))
    ∙ sym (latest-push q (map tag_index rs) (tag_index r))
    ∙ sym (ap (latest q) (map-append tag_index rs (r ∷ [])))

chained_at : (x y : Registration) (before after : List TagIndex) → x ≡ y → before ≡ after
    → y.older ≡ latest (string_bytes y.tag) after → x.older ≡ latest (string_bytes x.tag) before
chained_at x y before after e f h =
    ap (λ (z : Registration). z.older) e ∙ h
    ∙ sym (ap (λ (z : Registration). latest (string_bytes z.tag) after) e)
    ∙ sym (ap (latest (string_bytes x.tag)) f)

pub chained-push : (rs : List Registration) (r : Registration) → IsChained rs
    → r.older ≡ latest (string_bytes r.tag) (map tag_index rs) → IsChained (rs ++ r ∷ [])
chained-push rs r was new k d l =
    let whole = map-append tag_index rs (r ∷ []) in
    let size = length-map rs tag_index in
    ⊎_elim
    (λ (m : k < length rs). chained_at (get_or (rs ++ r ∷ []) k d) (get_or rs k d)
    (take k (map tag_index (rs ++ r ∷ []))) (take k (map tag_index rs)) (get_or-append rs (r ∷ []) d k m)
    (ap (take k) whole ∙ take-append-le k (map tag_index rs) (tag_index r ∷ []) (omega arith)) (was k d m))
    (λ (m : length rs ≤ k).
    let last : k ≡ length rs = omega (arith, length-append rs (r ∷ [])) in
    chained_at (get_or (rs ++ r ∷ []) k d) r (take k (map tag_index (rs ++ r ∷ []))) (map tag_index rs)
    (ap (λ n. get_or (rs ++ r ∷ []) n d) last ∙ get_or-append_seam rs r [] d)
    (ap (take k) whole ∙ take-append-le k (map tag_index rs) (tag_index r ∷ []) (omega arith)
    ∙ take_all k (map tag_index rs) (omega arith)) new)
    (cases_lt k (length rs))

-- what is read of a registration
pub registered_at : (rs : List Registration) (at : ℕ) (r : Registration) → r ≡ get_or rs at r
    → tag_index r ≡ get_or (map tag_index rs) at (tag_index r)
registered_at rs at r e = ap tag_index e ∙ sym (get_or-map tag_index rs at r)

pub older_at : (rs : List Registration) (at : ℕ) (r : Registration) → r ≡ get_or rs at r → IsChained rs
    → at < length rs → r.older
    ≡ latest (get_or (map tag_index rs) at (tag_index r)).tag (take at (map tag_index rs))
older_at rs at r e h l =
    ap (λ (x : Registration). x.older) e ∙ h at r l
    ∙ ap (λ (x : Registration). latest (string_bytes x.tag) (take at (map tag_index rs))) (sym e)
    ∙ ap (λ (x : TagIndex). latest x.tag (take at (map tag_index rs))) (registered_at rs at r e)

-- ---- look-ups by text, where each key finds the same

found_first : {K X : Type 0} (test : K → Bool) (e : K × X) (es : List (K × X)) (b : Bool) → test e.0 ≡ b
    → (lookup test es ≡ None) ⊎ ((k : K) × (test k ≡ true))
    → (cond b (Some e.1) (lookup test es) ≡ None) ⊎ ((k : K) × (test k ≡ true))
found_first test e es true p h = inr (e.0, p)
found_first test e es false p h = h

found : {K X : Type 0} (test : K → Bool) (es : List (K × X))
    → (lookup test es ≡ None) ⊎ ((k : K) × (test k ≡ true))
found test [] = inl refl
found test (e ∷ es) = found_first test e es (test e.0) refl (found test es)

at_key : {Y X S : Type 0} (m n : HashMap (String Y) X S)
    → ((k : String Y) → get string_eq n k ≡ get string_eq m k)
    → (s : List ℕ) (k : String Y) → bytes_eq s (string_bytes k) ≡ true → get_by_text n s ≡ get_by_text m s
at_key m n h s k p =
    let e = (bytes_eq-Decides s (string_bytes k)).0 p in
    ap (get_by_text n) e ∙ h k ∙ sym (ap (get_by_text m) e)

pub same_text : {Y X S : Type 0} (m n : HashMap (String Y) X S)
    → ((k : String Y) → get string_eq n k ≡ get string_eq m k)
    → (s : List ℕ) → get_by_text n s ≡ get_by_text m s
same_text m n h s =
    ⊎_elim (λ none. ⊎_elim (λ other. other ∙ sym none) (λ w. at_key m n h s w.0 w.1)
    (found (λ k. bytes_eq s (string_bytes k)) n.entries)) (λ w. at_key m n h s w.0 w.1)
    (found (λ k. bytes_eq s (string_bytes k)) m.entries)
