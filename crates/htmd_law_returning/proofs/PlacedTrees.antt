-- Trees whose targets are the anchors of lines: they stand where these do, in the same order.
use Rattle.std.proofs.Common.{◌≡◌, ℕ, ◌+◌, Bool, true, false, not, ◌&&◌, ◌||◌, cond, List, []}
use Rattle.std.proofs.Common.{◌∷◌, ◌++◌}
use Rattle.std.proofs.Common.{refl, sym, ap, ◌∙◌, subst, Some, None, arith}
use Rattle.std.specs.Prelude.{if◌then◌else◌}
use Rattle.std.specs.List.{list_all}
use Rattle.std.specs.Str.{chars}
use Rattle.std.proofs.lemmas.Bool.{and_parts, and_from}
use Rattle.std.proofs.lemmas.Bool.Decides.{nat_tests}
use Rattle.htmd_lexical.specs.AttributePairs.{AttributePair}
use Rattle.htmd_document.specs.NormalInlines.{is_text, is_line, has_double_space}
use Rattle.htmd_shown.specs.declared.role.Role.{Role}
use Rattle.htmd_shown.specs.declared.role.Role.TheVariants as role
use Rattle.htmd_shown.specs.declared.facts.Facts.{Facts}
use Rattle.htmd_shown.specs.Attributes.{in_line, is_filled}
use Rattle.htmd_shown.specs.Facts.{made}
use Rattle.htmd_shown.specs.Pieces.{no_pieces}
use Rattle.htmd_shown.specs.Roles.{is_link, is_headed}
use Rattle.htmd_shown.specs.SimpleTrees.{Simple, image, formula, embedded, element, Simples, none, more}
use Rattle.htmd_shown.specs.SimpleTrees as simple
use Rattle.htmd_document_of_tree.specs.Anchors.{values_of}
use Rattle.htmd_document_of_tree.specs.Seen.{seen}
use Rattle.htmd_document_of_tree.specs.Targets.{Target, targets_inside, targets_among, is_whole}
use Rattle.htmd_law_returning.specs.SettledDocuments.{is_one_line}
use Rattle.htmd_law_returning.proofs.AddressLemmas.{line-stays}
use Rattle.htmd_law_returning.proofs.BareLemmas.{has_no_name, is_bare, are_bare, are_joined, is_right_content}
use Rattle.htmd_law_returning.proofs.LocalAnchors.{every, is_nameless, are_nameless, is_place, is_marked, are_marked}
use Rattle.htmd_law_returning.proofs.LocalAnchors.{are_led, come_first, targets_of, none-own, none-inside}
use Rattle.htmd_law_returning.proofs.LocalAnchors.{values-both, place-own, place-marked, led-first, whole-first}
use Rattle.htmd_law_returning.proofs.LocalAnchors.{nameless-marked, element-own, local, local_all, pending, pending_all}
use Rattle.htmd_law_returning.proofs.LocalAnchors.{nameless-local, nameless-all-local}
use Rattle.htmd_law_returning.proofs.LocalPieces.{has_right_links, have_right_links}
use Rattle.htmd_law_returning.proofs.StartLemmas.{false-true}
use Rattle.htmd_law_returning.proofs.TreesLemmas.{pairs_of_anchor}
use lib.Utf8.{encode}

-- ---- targets of these ids

-- one line that is filled
abbrev pub is_id : List ℕ → Bool
is_id s = is_one_line s && is_filled s

pub record ArePlaces (found : List Target) (ids : List (List ℕ)) : Type 0 where
  pub values : values_of found ≡ ids
  pub lined : list_all is_id ids ≡ true
  pub unnamed : list_all (λ (t : Target). not t.is_name) found ≡ true

pub all-both : {A : Type 0} → (f : A → Bool) (xs ys : List A) → list_all f xs ≡ true → list_all f ys ≡ true
    → list_all f (xs ++ ys) ≡ true
all-both f [] ys h k = k
all-both f (x ∷ xs) ys h k =
    let p = and_parts (f x) (list_all f xs) h in
    and_from (f x) (list_all f (xs ++ ys)) p.0 (all-both f xs ys p.1 k)

pub both-places : (xs ys : List Target) (is js : List (List ℕ)) → ArePlaces xs is → ArePlaces ys js
    → ArePlaces (xs ++ ys) (is ++ js)
both-places xs ys is js h k = record {
  values = values-both xs ys ∙ (ap (λ us. us ++ values_of ys) h.values ∙ ap (λ us. is ++ us) k.values);
  lined = all-both is_id is js h.lined k.lined;
  unnamed = all-both (λ (t : Target). not t.is_name) xs ys h.unnamed k.unnamed;
}

-- ---- trees with them

pub record IsPlaced (ids : List (List ℕ)) (t : Simple) : Type 0 where
  pub marked : is_marked t ≡ true
  pub right : has_right_links t ≡ true
  pub places : (n : ℕ) → ArePlaces (targets_of n t) ids

pub record ArePlaced (ids : List (List ℕ)) (ts : Simples) : Type 0 where
  pub marked : are_marked ts ≡ true
  pub right : have_right_links ts ≡ true
  pub places : (n : ℕ) → ArePlaces (targets_among every None n ts) ids

pub placed-none : ArePlaced [] none
placed-none = record {
  marked = refl;
  right = refl;
  places =
      λ n. record { values = refl; lined = refl; unnamed = refl };
}

pub placed-more : (is js : List (List ℕ)) (t : Simple) (ts : Simples) → IsPlaced is t → ArePlaced js ts
    → ArePlaced (is ++ js) (more t ts)
placed-more is js t ts h k = record {
  marked = and_from (is_marked t) (are_marked ts) h.marked k.marked;
  right = and_from (has_right_links t) (have_right_links ts) h.right k.right;
  places = λ n. both-places (targets_of n t) (targets_among every None (n + seen t) ts) is js (h.places n)
      (k.places (n + seen t));
}

pub placed-nameless : (t : Simple) → is_nameless t ≡ true → has_right_links t ≡ true → IsPlaced [] t
placed-nameless t h r = record {
  marked = nameless-marked t h;
  right = r;
  places = λ n. subst (λ found. ArePlaces found [])
      (sym (ap (λ xs. xs ++ targets_inside every None n t) (none-own n t h) ∙ none-inside None n t h))
      (record { values = refl; lined = refl; unnamed = refl });
}

either-marked : (a b c : Bool) → b ≡ true → c ≡ true → (a || (b && c)) ≡ true
either-marked true b c e f = refl
either-marked false b c e f = rw (e, f) refl

abbrev marked_in : Role → Simples → Bool
marked_in r content =
    if is_whole r then (if is_headed r then come_first content && are_marked content else are_nameless content)
    else are_marked content

-- in an element
placed-in : (ids : List (List ℕ)) (id : ℕ) (r : Role) (facts : Facts) (attributes : List AttributePair)
    (content : Simples) → has_no_name attributes ≡ true → is_link r ≡ false
    → marked_in r content ≡ true
    → ((n : ℕ) → targets_among every (cond (is_whole r) (Some n) None) n content
    ≡ targets_among every None n content)
    → ArePlaced ids content → IsPlaced ids (element id r facts attributes content)
placed-in ids id r facts attributes content h l marked same k = record {
  marked = either-marked (is_place (element id r facts attributes content)) (has_no_name attributes)
      (marked_in r content) h marked;
  right = ap (λ b. cond b (are_joined no_pieces content) true && have_right_links content) l ∙ k.right;
  places = λ n. subst (λ found. ArePlaces found ids)
      (sym (ap (λ xs. xs ++ targets_inside every None n (element id r facts attributes content))
      (element-own n id r facts attributes content h) ∙ same n))
      (k.places n);
}

-- one that is no whole
pub placed-inside : (ids : List (List ℕ)) (id : ℕ) (r : Role) (facts : Facts) (attributes : List AttributePair)
    (content : Simples) → is_whole r ≡ false → is_link r ≡ false → has_no_name attributes ≡ true
    → ArePlaced ids content
    → IsPlaced ids (element id r facts attributes content)
placed-inside ids id r facts attributes content w l h k =
    placed-in ids id r facts attributes content h l
    (ap (λ b. cond b (cond (is_headed r) (come_first content && are_marked content) (are_nameless content))
    (are_marked content)) w ∙ k.marked)
    (λ n. ap (λ b. targets_among every (cond b (Some n) None) n content) w) k

-- a heading or a title
pub placed-headed : (ids : List (List ℕ)) (id : ℕ) (r : Role) (facts : Facts) (content : Simples)
    → is_headed r ≡ true → is_link r ≡ false → come_first content ≡ true → ArePlaced ids content
    → IsPlaced ids (element id r facts [] content)
placed-headed ids id r facts content head l h k =
    let w : is_whole r ≡ true = rw (l, head) refl in
    placed-in ids id r facts [] content refl l
    (rw (w, head) (and_from (come_first content) (are_marked content) h k.marked))
    (λ n. ap (λ b. targets_among every (cond b (Some n) None) n content) w ∙ whole-first n content h) k

pub placed-heading : (ids : List (List ℕ)) (id level : ℕ) (facts : Facts) (content : Simples)
    → are_led content ≡ true → ArePlaced ids content
    → IsPlaced ids (element id (role.Heading level) facts [] content)
placed-heading ids id level facts content h k =
    placed-headed ids id (role.Heading level) facts content refl refl (led-first content h) k

-- ---- a place

text-filled : (s : List ℕ) → is_text s ≡ true → is_filled s ≡ true
text-filled [] h =
    false-true (and_parts (is_line []) false (and_parts (is_line [] && false) (not (has_double_space [])) h).0).1
text-filled (b ∷ s) h = grind (arith, nat_tests)

pub place-is : (id : ℕ) (s : List ℕ) → is_one_line s ≡ true → is_text s ≡ true
    → is_place (made id role.Target (pairs_of_anchor s) none) ≡ true
unfolding chars encode
place-is id s h e = ap (λ u. is_filled u && true) (line-stays s h) ∙ ap (λ b. b && true) (text-filled s e)

pub placed-place : (id : ℕ) (s : List ℕ) → is_one_line s ≡ true → is_text s ≡ true
    → IsPlaced (s ∷ []) (made id role.Target (pairs_of_anchor s) none)
unfolding chars encode
placed-place id s h e =
    let t : Simple = made id role.Target (pairs_of_anchor s) none in
    let is = place-is id s h e in record {
      marked = place-marked t is;
      right = refl;
      places = λ n. subst (λ found. ArePlaces found (s ∷ []))
          (sym (ap (λ xs. xs ++ []) (place-own n t is s
          (ap (λ b. cond b (in_line s ∷ []) []) is ∙ ap (λ u. u ∷ []) (line-stays s h)))))
          (record {
            values = refl;
            lined = ap (λ b. b && true) (and_from (is_one_line s) (is_filled s) h (text-filled s e));
            unnamed = refl;
          });
    }

-- ---- bare trees

mutual
  pub bare-nameless : (t : Simple) → is_bare t ≡ true → (is_nameless t ≡ true) × (has_right_links t ≡ true)
  bare-nameless (simple.text s) h = (refl, refl)
  bare-nameless (image address attributes) h = (h, refl)
  bare-nameless (formula tex is_alone attributes) h = false-true h
  bare-nameless (embedded id address title attributes anchors) h = false-true h
  bare-nameless (simple.anchor id) h = false-true h
  bare-nameless (element id r facts attributes content) h =
      let p = and_parts (is_right_content r content && has_no_name attributes) (are_bare content) h in
      let q = and_parts (is_right_content r content) (has_no_name attributes) p.0 in
      let i = all-bare-nameless content p.1 in (
        and_from (has_no_name attributes) (are_nameless content) q.1 i.0,
        and_from (is_right_content r content) (have_right_links content) q.0 i.1,
      )

  pub all-bare-nameless : (ts : Simples) → are_bare ts ≡ true
      → (are_nameless ts ≡ true) × (have_right_links ts ≡ true)
  all-bare-nameless none h = (refl, refl)
  all-bare-nameless (more t ts) h =
      let p = and_parts (is_bare t) (are_bare ts) h in
      let i = bare-nameless t p.0 in
      let j = all-bare-nameless ts p.1 in (
        and_from (is_nameless t) (are_nameless ts) i.0 j.0,
        and_from (has_right_links t) (have_right_links ts) i.1 j.1,
      )

pub bare-local : (t : Simple) → is_bare t ≡ true → (local [] t ≡ t) × (pending [] t ≡ [])
bare-local t h = nameless-local t (bare-nameless t h).0

pub bare-all-local : (ts : Simples) → are_bare ts ≡ true → (local_all [] ts ≡ ts) × (pending_all [] ts ≡ [])
bare-all-local ts h = nameless-all-local ts (all-bare-nameless ts h).0
