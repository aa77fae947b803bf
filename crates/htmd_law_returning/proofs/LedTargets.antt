-- Where links lead to each target, those that are led to are all.
use Rattle.std.proofs.Common.{◌≡◌, ℕ, ◌+◌, Bool, true, false, not, ◌&&◌, ◌||◌, List, [], ◌∷◌}
use Rattle.std.proofs.Common.{◌++◌, refl, sym, ap, ◌∙◌}
use Rattle.std.proofs.Common.{filter, codes, Option, None}
use Rattle.std.specs.List.{list_all}
use Rattle.std.specs.Option.{unwrap_or}
use Rattle.std.specs.Str.{bytes_eq}
use Rattle.std.proofs.lemmas.Bool.{and_parts}
use Rattle.std.proofs.lemmas.List.Elements.{filter-append}
use Rattle.htmd_lexical.proofs.Cases.{test}
use Rattle.htmd_lexical.specs.AttributePairs.{AttributePair}
use Rattle.htmd_shown.specs.declared.role.Role.{Role}
use Rattle.htmd_shown.specs.Attributes.{text_of, in_line, is_filled}
use Rattle.htmd_shown.specs.Roles.{is_anchor}
use Rattle.htmd_shown.specs.SimpleTrees.{Simple, text, image, formula, embedded, anchor, element, Simples, none, more}
use Rattle.htmd_document_of_tree.specs.Anchors.{with_targets, anchored}
use Rattle.htmd_document_of_tree.specs.declared.anchors.Anchors.TheVariants as which
use Rattle.htmd_document_of_tree.specs.Leadings.{Leading, all_leadings, is_linked_to, is_led_to, is_in}
use Rattle.htmd_document_of_tree.specs.Seen.{seen}
use Rattle.htmd_document_of_tree.specs.Targets.{Target, target_by, id_target, name_target, own_targets, targets_inside}
use Rattle.htmd_document_of_tree.specs.Targets.{targets_among, whole_in, firsts}

-- all targets of a page
abbrev pub targets_of : Simples → List Target
targets_of ts = targets_among (λ s. true) None 0 ts

filter-all : (f : Target → Bool) (xs : List Target) → list_all f xs ≡ true → filter f xs ≡ xs
filter-all f [] h = refl
filter-all f (x ∷ xs) h =
    let p = and_parts (f x) (list_all f xs) h in rw p.0 (ap (λ ys. x ∷ ys) (filter-all f xs p.1))

-- ---- those whose values count

module _ (counts : List ℕ → Bool) where
  abbrev counted : List Target → List Target
  counted found = filter (λ (t : Target). counts t.value) found

  by-counted : (n : ℕ) (is_name : Bool) (s : List ℕ)
      → target_by counts n is_name s ≡ counted (target_by (λ s. true) n is_name s)
  by-counted n is_name s = test (is_filled (in_line s))
      (λ e. test (counts (in_line s)) (λ c. rw (e, c) refl) (λ c. rw (e, c) refl))
      (λ e. rw e refl)

  id-counted : (n : ℕ) (attributes : List AttributePair)
      → id_target counts n attributes ≡ counted (id_target (λ s. true) n attributes)
  id-counted n attributes = by-counted n false (text_of (codes "id") attributes)

  name-counted : (n : ℕ) (r : Role) (attributes : List AttributePair)
      → name_target counts n r attributes ≡ counted (name_target (λ s. true) n r attributes)
  name-counted n r attributes = test (is_anchor r)
      (λ e. rw e (by-counted n true (text_of (codes "name") attributes)))
      (λ e. rw e refl)

  own-counted : (n : ℕ) (t : Simple) → own_targets counts n t ≡ counted (own_targets (λ s. true) n t)
  own-counted n (text s) = refl
  own-counted n (image address attributes) = id-counted n attributes
  own-counted n (formula tex is_alone attributes) = id-counted n attributes
  own-counted n (embedded id address title attributes found) = id-counted n attributes
  own-counted n (anchor id) = refl
  own-counted n (element id r facts attributes content) =
      let ids : List Target = id_target (λ s. true) n attributes in
      let names : List Target = name_target (λ s. true) n r attributes in
      ap (λ xs. xs ++ name_target counts n r attributes) (id-counted n attributes)
      ∙ (ap (λ xs. counted ids ++ xs) (name-counted n r attributes)
      ∙ sym (filter-append (λ (t : Target). counts t.value) ids names))

  mutual
    inside-counted : (whole : Option ℕ) (n : ℕ) (t : Simple)
        → targets_inside counts whole n t ≡ counted (targets_inside (λ s. true) whole n t)
    inside-counted whole n (text s) = refl
    inside-counted whole n (image address attributes) = refl
    inside-counted whole n (formula tex is_alone attributes) = refl
    inside-counted whole n (embedded id address title attributes found) = refl
    inside-counted whole n (anchor id) = refl
    inside-counted whole n (element id r facts attributes content) = among-counted (whole_in whole n r) n content

    among-counted : (whole : Option ℕ) (n : ℕ) (ts : Simples)
        → targets_among counts whole n ts ≡ counted (targets_among (λ s. true) whole n ts)
    among-counted whole n none = refl
    among-counted whole n (more t ts) =
        let f : Target → Bool = λ t. counts t.value in
        let own : List Target = own_targets (λ s. true) (unwrap_or whole n) t in
        let inside : List Target = targets_inside (λ s. true) whole n t in
        let later : List Target = targets_among (λ s. true) whole (n + seen t) ts in
        ap (λ xs. xs ++ targets_inside counts whole n t ++ targets_among counts whole (n + seen t) ts)
        (own-counted (unwrap_or whole n) t)
        ∙ (ap (λ xs. counted own ++ xs ++ targets_among counts whole (n + seen t) ts) (inside-counted whole n t)
        ∙ (ap (λ xs. counted own ++ counted inside ++ xs) (among-counted whole (n + seen t) ts)
        ∙ sym (filter-append f (own ++ inside) later
        ∙ ap (λ xs. xs ++ counted later) (filter-append f own inside))))

-- ---- those that links lead to

led-linked : (leadings : List Leading) (s : List ℕ) (n : ℕ) → is_led_to leadings s n ≡ true
    → is_linked_to leadings s ≡ true
led-linked [] s n h = h
led-linked (l ∷ leadings) s n h = test (bytes_eq l.to s)
    (λ e. rw e refl)
    (λ e. rw e
    (led-linked leadings s n (sym (ap (λ b. (b && not (is_in l.heading n)) || is_led_to leadings s n) e) ∙ h)))

led-all : (leadings : List Leading) (found : List Target)
    → list_all (λ (t : Target). is_led_to leadings t.value t.seen) found ≡ true
    → list_all (λ (t : Target). is_linked_to leadings t.value) found ≡ true
led-all leadings [] h = refl
led-all leadings (t ∷ found) h =
    let p = and_parts (is_led_to leadings t.value t.seen)
    (list_all (λ (t : Target). is_led_to leadings t.value t.seen) found) h in
    rw (led-linked leadings t.value t.seen p.0) (led-all leadings found p.1)

-- no value comes twice, and links lead to each
pub anchored-linked : (is_rich : Bool) (ts : Simples) → firsts (targets_of ts) ≡ targets_of ts
    → list_all (λ (t : Target). is_led_to (all_leadings is_rich ts) t.value t.seen) (targets_of ts) ≡ true
    → anchored which.Linked is_rich ts ≡ anchored which.All is_rich ts
anchored-linked is_rich ts once led =
    let ls : List Leading = all_leadings is_rich ts in
    let is_led : Target → Bool = λ t. is_led_to ls t.value t.seen in
    let linked : targets_among (is_linked_to ls) None 0 ts ≡ targets_of ts =
    among-counted (is_linked_to ls) None 0 ts
    ∙ filter-all (λ (t : Target). is_linked_to ls t.value) (targets_of ts) (led-all ls (targets_of ts) led) in
    ap (λ found. with_targets (record { seen = 0; targets = found }) ts)
    (ap (λ found. filter is_led (firsts found)) linked
    ∙ (ap (filter is_led) once ∙ (filter-all is_led (targets_of ts) led ∙ sym once)))
