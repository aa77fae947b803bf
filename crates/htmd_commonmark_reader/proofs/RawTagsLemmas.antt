-- How raw tags go on, character by character.
use Rattle.std.proofs.Common.{◌≡◌, ◌≢◌, ◌∙◌, ℕ, ◌+◌, ◌<◌, ◌≤◌, true, false, List, [], ◌∷◌, ◌++◌, length, take}
use Rattle.std.proofs.Common.{drop, get_or, Option, Some, None, refl, ap, sym, append_assoc, arith}
use Rattle.std.proofs.lemmas.List.{drop_more, take_more, length-drop, length-append}
use Rattle.std.proofs.Math.Seq.{take-add}
use Rattle.htmd_lexical.specs.CharacterClasses.{first_is, begins_with, leading_run, behind_run}
use Rattle.htmd_lexical.proofs.Cases.{test}
use Rattle.htmd_lexical.proofs.LeadingRunsLemmas.{back_split}
use Rattle.htmd_scanning.proofs.BeginningsLemmas.{begins_front}
use Rattle.htmd_commonmark_reading.specs.Characters.{is_white, one_more, in_front_of}
use Rattle.htmd_commonmark_reading.specs.RawTags as spec
use Rattle.htmd_commonmark_reader.specs.Tags.{place_of, enclosed}
use Rattle.htmd_commonmark_reader.proofs.BeginningsLemmas.{IsBeginning, is_beginning, first_sign, front_step}
use Rattle.htmd_commonmark_reader.proofs.BeginningsLemmas.{front_signs}
use Rattle.htmd_commonmark_reader.specs.declared.raw_tags.Place.{Place}
use Rattle.htmd_commonmark_reader.specs.declared.raw_tags.Place.TheVariants.{TagName, AfterSpace, AttributeName}
use Rattle.htmd_commonmark_reader.specs.declared.raw_tags.Place.TheVariants.{AfterAttributeName, BeforeValue}
use Rattle.htmd_commonmark_reader.specs.declared.raw_tags.Place.TheVariants.{UnquotedValue, Quotes, AfterQuotes}
use Rattle.htmd_commonmark_reader.specs.declared.raw_tags.Place.TheVariants.{AfterSlash, End, Refused}

-- ---- open tags

-- what the rest of a tag is, from a place on
pub rest_from : (s : List ℕ) (i : ℕ) (p q : spec.Place) → i < length s → q ≡ spec.place_after (get_or s i 0) p
    → in_front_of (take i s) (spec.tag_rest p (drop i s))
    ≡ in_front_of (take i s) (spec.with_place q (get_or s i 0) (spec.tag_rest q (drop (i + 1) s)))
rest_from s i p q l e = rw (drop_more s i 0 l, e) refl

pub rest_ends : (s : List ℕ) (i : ℕ) (p : spec.Place) → i < length s
    → spec.at_end ≡ spec.place_after (get_or s i 0) p
    → in_front_of (take i s) (spec.tag_rest p (drop i s)) ≡ Some (take (i + 1) s)
rest_ends s i p l e = rest_from s i p spec.at_end l e ∙ ap Some (sym (take_more s i 0 l))

pub rest_refused : (s : List ℕ) (i : ℕ) (p : spec.Place) → i < length s
    → spec.refused ≡ spec.place_after (get_or s i 0) p
    → in_front_of (take i s) (spec.tag_rest p (drop i s)) ≡ None
rest_refused s i p l e = rest_from s i p spec.refused l e

goes_on : (q : Place) (c : ℕ) (o : Option (List ℕ)) → q ≢ End → q ≢ Refused
    → spec.with_place (place_of q) c o ≡ one_more c o
goes_on TagName c o h k = refl
goes_on AfterSpace c o h k = refl
goes_on AttributeName c o h k = refl
goes_on AfterAttributeName c o h k = refl
goes_on BeforeValue c o h k = refl
goes_on UnquotedValue c o h k = refl
goes_on (Quotes quote) c o h k = refl
goes_on AfterQuotes c o h k = refl
goes_on AfterSlash c o h k = refl
goes_on End c o h k = absurd (h refl)
goes_on Refused c o h k = absurd (k refl)

pub rest_goes_on : (s : List ℕ) (i : ℕ) (p q : Place) → i < length s
    → place_of q ≡ spec.place_after (get_or s i 0) (place_of p) → q ≢ End → q ≢ Refused
    → in_front_of (take i s) (spec.tag_rest (place_of p) (drop i s))
    ≡ in_front_of (take (i + 1) s) (spec.tag_rest (place_of q) (drop (i + 1) s))
rest_goes_on s i p q l e h k =
    rest_from s i (place_of p) (place_of q) l e
    ∙ ap (in_front_of (take i s)) (goes_on q (get_or s i 0) (spec.tag_rest (place_of q) (drop (i + 1) s)) h k)
    ∙ front_step s i (spec.tag_rest (place_of q) (drop (i + 1) s)) l

-- ---- signs that end

through_here : (signs s : List ℕ) (i : ℕ) → i < length s
    → spec.through signs (drop i s)
    ≡ spec.through signs (get_or s i 0 ∷ drop (i + 1) s)
through_here signs s i l = ap (spec.through signs) (drop_more s i 0 l)

pub through_found : (signs s : List ℕ) (i : ℕ) → i < length s → begins_with signs (drop i s) ≡ true
    → in_front_of (take i s) (spec.through signs (drop i s)) ≡ Some (take (i + length signs) s)
through_found signs s i l e =
    let b : begins_with signs (get_or s i 0 ∷ drop (i + 1) s) ≡ true = rw (drop_more s i 0 l) at e in
    let here : spec.through signs (drop i s) ≡ Some signs = through_here signs s i l ∙ signs_first b in
    ap (in_front_of (take i s)) here ∙ ap Some (front_signs signs s i e)
  where
    signs_first : begins_with signs (get_or s i 0 ∷ drop (i + 1) s) ≡ true
        → spec.through signs (get_or s i 0 ∷ drop (i + 1) s) ≡ Some signs
    signs_first b = rw b refl

pub through_later : (signs s : List ℕ) (i : ℕ) → i < length s → begins_with signs (drop i s) ≡ false
    → in_front_of (take i s) (spec.through signs (drop i s))
    ≡ in_front_of (take (i + 1) s) (spec.through signs (drop (i + 1) s))
through_later signs s i l e =
    let b : begins_with signs (get_or s i 0 ∷ drop (i + 1) s) ≡ false = rw (drop_more s i 0 l) at e in
    let here : spec.through signs (drop i s) ≡ one_more (get_or s i 0) (spec.through signs (drop (i + 1) s)) =
    through_here signs s i l ∙ signs_later b in
    ap (in_front_of (take i s)) here ∙ front_step s i (spec.through signs (drop (i + 1) s)) l
  where
    signs_later : begins_with signs (get_or s i 0 ∷ drop (i + 1) s) ≡ false
        → spec.through signs (get_or s i 0 ∷ drop (i + 1) s)
        ≡ one_more (get_or s i 0) (spec.through signs (drop (i + 1) s))
    signs_later b = rw b refl

pub signs_within : (signs s : List ℕ) (i : ℕ) → i ≤ length s → begins_with signs (drop i s) ≡ true
    → i + length signs ≤ length s
signs_within signs s i l e =
    let f = begins_front signs (drop i s) e in omega (arith, f.0, length-drop i s)

-- what stands between signs
pub enclosed_found : (begin end s : List ℕ) (n : ℕ) → begins_with begin s ≡ true
    → Some (take n (drop (length begin) s)) ≡ spec.through end (drop (length begin) s)
    → Some (take (length begin + n) s) ≡ enclosed begin end s
enclosed_found begin end s n b e =
    let f = begins_front begin s b in
    ap Some (take-add (length begin) n s ∙ ap (λ t. t ++ take n (drop (length begin) s)) f.1)
    ∙ ap (in_front_of begin) e ∙ rw b refl

pub enclosed_missing : (begin end s : List ℕ) → None ≡ spec.through end (drop (length begin) s)
    → None ≡ enclosed begin end s
enclosed_missing begin end s e =
    test (begins_with begin s) (λ b. rw (b, ← e) refl) (λ b. rw b refl)

-- ---- closing tags

pub closing_found : (text after name rest white end : List ℕ) → text ≡ 47 ∷ after
    → spec.begins_with_letter after ≡ true → name ≡ leading_run spec.is_in_tag_name after
    → rest ≡ behind_run spec.is_in_tag_name after → white ≡ leading_run is_white rest
    → end ≡ behind_run is_white rest → first_is 62 end ≡ true
    → IsBeginning text (length name + length white + 2) (spec.closing_tag text)
closing_found text after name rest white end t b n r w e f =
    let a : after ≡ name ++ rest =
    back_split spec.is_in_tag_name after ∙ ap (λ x. x ++ behind_run spec.is_in_tag_name after) (sym n)
    ∙ ap (λ x. name ++ x) (sym r) in
    let v : rest ≡ white ++ end =
    back_split is_white rest ∙ ap (λ x. x ++ behind_run is_white rest) (sym w) ∙ ap (λ x. white ++ x) (sym e) in
    let z : end ≡ 62 ∷ drop 1 end = first_sign 62 end f in
    let whole : text ≡ (47 ∷ (name ++ white ++ (62 ∷ []))) ++ drop 1 end =
    t ∙ ap (λ x. 47 ∷ x) (a ∙ ap (λ x. name ++ x) (v ∙ ap (λ x. white ++ x) z)
    ∙ sym (append_assoc name white (62 ∷ drop 1 end))
    ∙ sym (append_assoc (name ++ white) (62 ∷ []) (drop 1 end))) in
    let g : first_is 62 (behind_run is_white (behind_run spec.is_in_tag_name after)) ≡ true =
    ap (λ x. first_is 62 (behind_run is_white x)) (sym r) ∙ ap (first_is 62) (sym e) ∙ f in
    let value : spec.closing_tag (47 ∷ after)
    ≡ Some (47 ∷ (leading_run spec.is_in_tag_name after
    ++ leading_run is_white (behind_run spec.is_in_tag_name after) ++ (62 ∷ []))) = rw (b, g) refl in
    is_beginning text (47 ∷ (name ++ white ++ (62 ∷ []))) (drop 1 end) (length name + length white + 2)
    (spec.closing_tag text) whole
    (omega (arith, length-append name white, length-append (name ++ white) (62 ∷ [])))
    (ap spec.closing_tag t ∙ value
    ∙ ap (λ x. Some (47 ∷ (x ++ leading_run is_white (behind_run spec.is_in_tag_name after) ++ (62 ∷ []))))
    (sym n)
    ∙ ap (λ x. Some (47 ∷ (name ++ leading_run is_white x ++ (62 ∷ [])))) (sym r)
    ∙ ap (λ x. Some (47 ∷ (name ++ x ++ (62 ∷ [])))) (sym w))
