-- The laws of the part of a page that is converted.
use Rattle.std.proofs.Common.{◌≡◌, ℕ, suc, ◌+◌, ◌-◌, ◌≤◌, Bool, true, false, ◌&&◌, List, [], ◌∷◌, ◌++◌}
use Rattle.std.proofs.Common.{length, map, eqb, refl, sym, ◌∙◌, ap, subst, arith, append_assoc, append-nil}
use Rattle.std.proofs.Common.{length-append, Option, Some, None, codes}
use Rattle.std.specs.List.{list_all}
use Rattle.std.specs.Str.{bytes_eq}
use Rattle.std.specs.Char.{to_ascii_lowercase, is_ascii_alphabetic}
use Rattle.std.proofs.lemmas.Bool.{eqb-true, and_parts}
use Rattle.std.proofs.lemmas.Bool.Decides.{nat_tests}
use Rattle.std.proofs.lemmas.Slice.Eq.{bytes_eq-Decides}
use Rattle.std.specs.Prelude.{if◌then◌else◌}
use Rattle.std.proofs.Math.Bool.{and-false, or-true}
use Rattle.htmd_lexical.specs.Characters.{less_than_sign, greater_than_sign, slash}
use Rattle.htmd_lexical.specs.WhiteSpace.{is_ascii_white_space}
use Rattle.htmd_lexical.specs.CharacterClasses.{first_is, begins_with, leading_run, behind_run, is_tag_name}
use Rattle.htmd_lexical.specs.CharacterClasses.{is_tag_name_byte}
use Rattle.htmd_lexical.specs.AttributePairs.{AttributePair}
use Rattle.htmd_grammar.specs.Faults.{HasEndTag}
use Rattle.htmd_lexical.specs.TagReading.{TagForm, no_form, form, form_within}
use Rattle.htmd_grammar.proofs.FaultPieces.{end_is_read, end_tag_there, form_read_behind, name_read}
use Rattle.htmd_lexical.proofs.LeadingRunsLemmas.{back_split, front_all}
use Rattle.htmd_grammar.proofs.TagReadingLemmas.{form_read, halts_name, rest_halts}
use Rattle.htmd_grammar.proofs.TagSpellingLemmas.{tag_spelled}
use Rattle.htmd_grammar.proofs.TextLemmas.{name_cut}
use Rattle.htmd_tree.specs.Bodies.{is_body_name, behind_form, behind_name, behind_start_tag, first_of}
use Rattle.htmd_tree.specs.Bodies.{behind_first_start_tag, begins_end_tag, holds_end_tag, before_last_end_tag}
use Rattle.htmd_tree.specs.Bodies.{body_part, body_place}
use Rattle.htmd_tree.specs.Bodies.{part_behind, place_behind, StandsAt}
use Rattle.htmd_tree.specs.BodyLaws.{LacksStartTag, IsPart, StartTagsAreForms, FormsAreStartTags, EndTagsAreForms}
use Rattle.htmd_tree.specs.BodyLaws.{BodyStandsBetween, BodyRunsToTheEnd, NoBodyIsAll}
use Rattle.htmd_tree.proofs.BodiesLemmas.{none_cut, ends_cut}

-- ---- the tags

lower_letter : (b : ℕ) → to_ascii_lowercase b ≡ 98 → is_ascii_alphabetic b ≡ true
lower_letter b e = grind (arith, nat_tests)

is_body : (name : List ℕ) → bytes_eq name (codes "body") ≡ true → name ≡ codes "body"
is_body name e = (bytes_eq-Decides name (codes "body")).0 e

-- `body` in any case is the name of a tag
body_is_name : (name : List ℕ) → list_all is_tag_name_byte name ≡ true
    → map to_ascii_lowercase name ≡ codes "body"
    → is_tag_name name ≡ true
body_is_name [] a e = absurd (cc)
body_is_name (b ∷ name) a e =
    let k : to_ascii_lowercase b ≡ 98 = cc in
    rw (lower_letter b k) (and_parts (is_tag_name_byte b) (list_all is_tag_name_byte name) a).1

of_form : (f : TagForm) (rest : List ℕ) → behind_form f ≡ Some rest
    → (spelled : List AttributePair) × (present : Bool) × (f ≡ form spelled present rest)
of_form no_form rest e = absurd (cc)
of_form (form spelled present s) rest e =
    let k : s ≡ rest = cc in (spelled, present, ap (λ x. form spelled present x) k)

if_some : (b : Bool) (o : Option (List ℕ)) (rest : List ℕ) → (if b then o else None) ≡ Some rest
    → (b ≡ true) × (o ≡ Some rest)
if_some true o rest e = (refl, e)
if_some false o rest e = (absurd (cc), absurd (cc))

pub start_tags_are_forms : StartTagsAreForms
start_tags_are_forms [] rest e = absurd (cc)
start_tags_are_forms (b ∷ w) rest e =
    let p = if_some (eqb b 60) (behind_name w) rest e in
    let q = if_some (is_body_name w) (behind_form (form_read_behind w)) rest p.1 in
    let name : List ℕ = leading_run is_tag_name_byte w in
    let r : List ℕ = behind_run is_tag_name_byte w in
    let f = of_form (form_read_behind w) rest q.1 in
    let i = tag_spelled (suc (length r)) r rest f.0 f.1 f.2 in
    let n : map to_ascii_lowercase name ≡ codes "body" = is_body (map to_ascii_lowercase name) q.0 in
    let s : b ≡ less_than_sign = eqb-true b 60 p.0 in (
      less_than_sign ∷ (name ++ i.0),
      f.0,
      f.1,
      ap (λ (x : ℕ). x ∷ w) s ∙ ap (λ (y : List ℕ). less_than_sign ∷ y) (back_split is_tag_name_byte w
          ∙ (ap (λ (y : List ℕ). name ++ y) i.1 ∙ sym (append_assoc name i.0 rest))),
      (name, i.0, refl, body_is_name name (front_all is_tag_name_byte w) n, n, i.2),
    )

pub forms_are_start_tags : FormsAreStartTags
forms_are_start_tags tag rest spelled present t =
    let y : List ℕ = t.1 ++ rest in
    let c = name_cut t.0 y t.3 (halts_name y (rest_halts spelled present t.1 rest t.5).0) in
    let e : tag ++ rest ≡ less_than_sign ∷ (t.0 ++ y) =
    ap (λ (x : List ℕ). x ++ rest) t.2
    ∙ ap (λ (x : List ℕ). less_than_sign ∷ x) (append_assoc t.0 t.1 rest) in
    let n : is_body_name (t.0 ++ y) ≡ true =
    ap (λ (x : List ℕ). bytes_eq (map to_ascii_lowercase x) (codes "body")) c.0
    ∙ ap (λ (x : List ℕ). bytes_eq x (codes "body")) t.4 in
    let f : behind_form (form_within (suc (length (behind_run is_tag_name_byte (t.0 ++ y))))
    (behind_run is_tag_name_byte (t.0 ++ y))) ≡ Some rest =
    ap (λ (x : List ℕ). behind_form (form_within (suc (length x)) x)) c.1
    ∙ ap behind_form (form_read spelled present t.1 rest t.5) in
    rw (e, n) f

-- what follows the name ends an end tag
ends_name : List ℕ → Bool
ends_name w = first_is greater_than_sign (behind_run is_ascii_white_space (behind_run is_tag_name_byte w))

end_tag_has : (s : List ℕ) → begins_end_tag s ≡ true → HasEndTag s (codes "body")
unfolding ends_name
end_tag_has [] e = absurd (cc)
end_tag_has (b ∷ []) e =
    let p = and_parts (begins_with (codes "</") (b ∷ []) && is_body_name []) (ends_name []) e in
    let q = and_parts (begins_with (codes "</") (b ∷ [])) (is_body_name []) p.0 in
    let z = and_parts (eqb b 60) false q.0 in
    absurd (let k = z.1 in cc)
end_tag_has (b ∷ c ∷ w) e =
    let p = and_parts (begins_with (codes "</") (b ∷ c ∷ w) && is_body_name w) (ends_name w) e in
    let q = and_parts (begins_with (codes "</") (b ∷ c ∷ w)) (is_body_name w) p.0 in
    let r = and_parts (eqb b 60) (eqb c 47 && true) q.0 in
    let t = and_parts (eqb c 47) true r.1 in
    let n : name_read w ≡ codes "body" = is_body (name_read w) q.1 in
    let i = body_is_name (leading_run is_tag_name_byte w) (front_all is_tag_name_byte w) n in
    rw (eqb-true b 60 r.0, eqb-true c 47 t.0)
    (subst (HasEndTag (less_than_sign ∷ slash ∷ w)) n (end_tag_there w i p.1))

end_tag_begins : (s : List ℕ) → HasEndTag s (codes "body") → begins_end_tag s ≡ true
end_tag_begins s h =
    let t = h.3 in
    let w : List ℕ = (t.0 ++ (t.1 ++ greater_than_sign ∷ [])) ++ h.1 in
    let e : s ≡ less_than_sign ∷ slash ∷ w = h.2 ∙ ap (λ (x : List ℕ). x ++ h.1) t.2 in
    let i = end_is_read slash w (codes "body") (subst (λ (x : List ℕ). HasEndTag x (codes "body")) e h) in
    let n : is_body_name w ≡ true = ap (λ (x : List ℕ). bytes_eq x (codes "body")) i.3 in
    rw (e, n) i.2

pub end_tags_are_forms : EndTagsAreForms
end_tags_are_forms s = (end_tag_has s, end_tag_begins s)

-- ---- the part

-- what follows the first start tag is the end of the text
pub start_split : (s rest : List ℕ) → behind_first_start_tag s ≡ Some rest
    → (front : List ℕ) × (s ≡ front ++ rest)
start_split [] rest e = absurd (cc)
start_split (b ∷ s) rest e =
    either (behind_start_tag (b ∷ s)) e (λ q. let t = start_tags_are_forms (b ∷ s) rest q in (t.0, t.3))
    (λ q. let i = start_split s rest q in (b ∷ i.0, ap (λ (x : List ℕ). b ∷ x) i.1))
  where
    either : (o : Option (List ℕ)) → first_of o (behind_first_start_tag s) ≡ Some rest
        → (o ≡ Some rest → (front : List ℕ) × (b ∷ s ≡ front ++ rest))
        → (behind_first_start_tag s ≡ Some rest → (front : List ℕ) × (b ∷ s ≡ front ++ rest))
        → (front : List ℕ) × (b ∷ s ≡ front ++ rest)
    either None q h g = g q
    either (Some r) q h g = h q

pub start_within : (s rest : List ℕ) → behind_first_start_tag s ≡ Some rest → length rest ≤ length s
start_within s rest e =
    let i = start_split s rest e in
    let l : length s ≡ length i.0 + length rest = ap length i.1 ∙ length-append i.0 rest in
    omega arith

-- the part stands at its place
pub part_stands : (html : List ℕ) → StandsAt (body_part html) (body_place html) html
unfolding body_part body_place
part_stands html = go (behind_first_start_tag html) refl
  where
    go : (o : Option (List ℕ)) → behind_first_start_tag html ≡ o
        → StandsAt (part_behind html o) (place_behind html o) html
    go None e = record { before = []; behind = []; text_is = sym (append-nil html); place_is = refl }
    go (Some rest) e =
        let i = start_split html rest e in
        let c = ends_cut rest in
        let l : length html ≡ length i.0 + length rest = ap length i.1 ∙ length-append i.0 rest in
        record {
          before = i.0;
          behind = c.0;
          text_is = i.1 ∙ ap (λ (x : List ℕ). i.0 ++ x) c.1;
          place_is = omega arith;
        }

-- before the first start tag nothing is lost
passed_before : (before rest : List ℕ) → LacksStartTag before rest
    → behind_first_start_tag (before ++ rest) ≡ behind_first_start_tag rest
passed_before [] rest h = refl
passed_before (b ∷ before) rest h =
    let k : behind_start_tag (b ∷ (before ++ rest)) ≡ None = h [] (b ∷ before) refl (λ e. let z = e in cc) in
    rw k (passed_before before rest
    (λ front back e n. h (b ∷ front) back (ap (λ (x : List ℕ). b ∷ x) e) n))

behind_body : (x : List ℕ) → behind_first_start_tag (codes "<body>" ++ x) ≡ Some x
behind_body x = refl

holds_body_end : (text behind : List ℕ) → holds_end_tag (text ++ (codes "</body>" ++ behind)) ≡ true
holds_body_end [] behind = refl
holds_body_end (b ∷ text) behind =
    rw (holds_body_end text behind) (or-true (begins_end_tag (b ∷ (text ++ (codes "</body>" ++ behind)))))

before_end : (text behind : List ℕ) → holds_end_tag behind ≡ false
    → before_last_end_tag (text ++ (codes "</body>" ++ behind)) ≡ text
before_end [] behind e = rw e refl
before_end (b ∷ text) behind e =
    rw (holds_body_end text behind, and-false (begins_end_tag (b ∷ (text ++ (codes "</body>" ++ behind)))))
    (ap (λ (x : List ℕ). b ∷ x) (before_end text behind e))

found : (before x : List ℕ) → LacksStartTag before (codes "<body>" ++ x)
    → IsPart (before ++ (codes "<body>" ++ x)) (before_last_end_tag x) (length before + 6)
unfolding body_part body_place
found before x h =
    let page : List ℕ = before ++ (codes "<body>" ++ x) in
    let e : behind_first_start_tag page ≡ Some x = passed_before before (codes "<body>" ++ x) h ∙ behind_body x in
    let l : length page ≡ length before + length (codes "<body>" ++ x) =
    length-append before (codes "<body>" ++ x) in
    record {
      part_is = ap (part_behind page) e;
      place_is = ap (place_behind page) e ∙ (let m : length page - length x ≡ length before + 6 = omega arith in m);
    }

pub body_stands_between : BodyStandsBetween
body_stands_between before text behind h e =
    let f = found before (text ++ (codes "</body>" ++ behind)) h in
    record { part_is = f.part_is ∙ before_end text behind e; place_is = f.place_is }

pub body_runs_to_the_end : BodyRunsToTheEnd
body_runs_to_the_end before text h e =
    let f = found before text h in record { part_is = f.part_is ∙ none_cut text e; place_is = f.place_is }

pub no_body_is_all : NoBodyIsAll
unfolding body_part body_place
no_body_is_all html h =
    let e : behind_first_start_tag html ≡ None =
    ap behind_first_start_tag (sym (append-nil html)) ∙ passed_before html [] h in
    record { part_is = ap (part_behind html) e; place_is = ap (place_behind html) e }
