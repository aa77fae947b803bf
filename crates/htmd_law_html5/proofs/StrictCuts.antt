-- A part of an unambiguous text is unambiguous, if it ends where no reference goes on.
use Rattle.std.proofs.Common.{◌≡◌, ℕ, Bool, true, false, not, ◌&&◌, List, [], ◌∷◌, ◌++◌, Option, Some, None, length}
use Rattle.std.proofs.Common.{drop, map, refl, sym, ap, ◌∙◌, codes, append_assoc, subst, arith}
use Rattle.std.specs.Prelude.{◌==◌, if◌then◌else◌}
use Rattle.std.specs.Char.{is_ascii_alphanumeric, is_ascii_alphabetic, to_ascii_lowercase}
use Rattle.std.specs.List.{list_all}
use Rattle.std.specs.Str.{bytes_eq}
use Rattle.std.proofs.lemmas.Bool.{and_parts, or_parts, not-true, eqb-true, true≢false, eq-eqb}
use Rattle.std.proofs.lemmas.Bool.Decides.{nat_tests}
use Rattle.htmd_lexical.proofs.Cases.{test}
use Rattle.htmd_lexical.specs.CharacterClasses.{first_is, begins_with, begins_in_any_case, behind_run, lacks, up_to}
use Rattle.htmd_lexical.specs.CharacterClasses.{is_tag_name}
use Rattle.htmd_grammar.specs.RawContent.{begins_markup}
use Rattle.htmd_grammar.specs.Rules.{named_characters}
use Rattle.htmd_grammar.specs.Tags.{IsStartTag, IsEndTag, IsTagRest, optional_slash}
use Rattle.htmd_lexical.specs.AttributePairs.{AttributePair}
use Rattle.htmd_lexical.proofs.BytesLemmas.{same_bytes}
use Rattle.htmd_lexical.proofs.LeadingRunsLemmas.{halts}
use Rattle.htmd_grammar.proofs.TextLemmas.{run_head, stops_not}
use Rattle.htmd_html5_tokens.specs.NamedReferences.{NamedReference, first_in, old_names, longest_old}
use Rattle.htmd_html5_tokens.specs.References.{goes_on}
use Rattle.htmd_law_html5.specs.StrictReferences.{Place, outside, in_tag, after_title, is_in_tag, begins_letter}
use Rattle.htmd_law_html5.specs.StrictReferences.{place_after, counts, is_bare_reference, has_bare_reference}
use Rattle.htmd_law_html5.specs.StrictReferences.{IsUnambiguousAt, IsUnambiguous}
use Rattle.htmd_law_html5.proofs.StrictPlaces.{covers, covers_tag, covers_itself, place_covered, bare_covered, covered}
use Rattle.htmd_law_html5.proofs.StrictPlaces.{stays_outside}
use Rattle.htmd_law_html5.proofs.StrictReferencesLemmas.{Ending, ending_for_both}

pub lacks_cut : (c : ℕ) (s t : List ℕ) → lacks c (s ++ t) ≡ true → (lacks c s ≡ true) ×
    (lacks c t ≡ true)
lacks_cut c [] t e = (refl, e)
lacks_cut c (b ∷ s) t e =
    let k = and_parts (not (b == c)) (lacks c (s ++ t)) e in
    let i = lacks_cut c s t k.1 in
    (rw (k.0, i.0) refl, i.1)

-- ---- names

begins_cut : (n s t : List ℕ) → list_all is_ascii_alphanumeric n ≡ true → halts is_ascii_alphanumeric t ≡ true
    → begins_with n (s ++ t) ≡ begins_with n s
begins_cut [] s t a h = refl
begins_cut (c ∷ n) [] [] a h = refl
begins_cut (c ∷ n) [] (b ∷ t) a h =
    test (b == c)
    (λ x. absurd (true≢false (sym (and_parts (is_ascii_alphanumeric c) (list_all is_ascii_alphanumeric n) a).0
    ∙ ap is_ascii_alphanumeric (sym (eqb-true b c x)) ∙ not-true (is_ascii_alphanumeric b) h))) (λ x. rw x refl)
begins_cut (c ∷ n) (b ∷ s) t a h =
    let k = and_parts (is_ascii_alphanumeric c) (list_all is_ascii_alphanumeric n) a in
    test (b == c) (λ x. rw x (begins_cut n s t k.1 h)) (λ x. rw x refl)

abbrev has_letters : NamedReference → Bool
has_letters r = list_all is_ascii_alphanumeric r.name

old_letters : list_all has_letters old_names ≡ true
unfolding old_names
old_letters = refl

names_cut : (rows : List NamedReference) (s t : List ℕ) → list_all has_letters rows ≡ true
    → halts is_ascii_alphanumeric t ≡ true → first_in rows (s ++ t) ≡ first_in rows s
names_cut [] s t a h = refl
names_cut (r ∷ rows) s t a h =
    let k = and_parts (has_letters r) (list_all has_letters rows) a in
    rw (begins_cut r.name s t k.0 h, names_cut rows s t k.1 h) refl

first_begins : (rows : List NamedReference) (s : List ℕ) (r : NamedReference) → first_in rows s ≡ Some r
    → begins_with r.name s ≡ true
first_begins [] s r e = absurd (cc)
first_begins (q ∷ rows) s r e =
    test (begins_with q.name s)
    (λ x. let f : Some q ≡ Some r = rw x at e in
    let k : q ≡ r = cc in
    ap (λ (y : NamedReference). begins_with y.name s) (sym k) ∙ x)
    (λ x. let f = rw x at e in first_begins rows s r f)

goes_cut : (n s t : List ℕ) → begins_with n s ≡ true → goes_on t ≡ false
    → goes_on (drop (length n) (s ++ t)) ≡ goes_on (drop (length n) s)
goes_cut [] [] t b g = g
goes_cut [] (c ∷ s) t b g = refl
goes_cut (c ∷ n) [] t b g = absurd (cc)
goes_cut (c ∷ n) (d ∷ s) t b g = goes_cut n s t (and_parts (d == c) (begins_with n s) b).1 g

counts_cut : (z : Bool) (o : Option NamedReference) (s t : List ℕ)
    → ((r : NamedReference) → o ≡ Some r → begins_with r.name s ≡ true) → goes_on t ≡ false
    → counts z o (s ++ t) ≡ counts z o s
counts_cut z None s t f g = refl
counts_cut z (Some r) s t f g = rw (goes_cut r.name s t (f r refl) g) refl

semicolon_cut : (p : ℕ → Bool) (s t : List ℕ) → halts p t ≡ true → first_is 59 t ≡ false
    → first_is 59 (behind_run p (s ++ t)) ≡ first_is 59 (behind_run p s)
semicolon_cut p [] [] h e = refl
semicolon_cut p [] (b ∷ t) h e = rw (not-true (p b) h, e) refl
semicolon_cut p (b ∷ s) t h e = test (p b) (λ q. rw q (semicolon_cut p s t h e)) (λ q. rw q refl)

reference_cut : (z : Bool) (s t : List ℕ) → halts is_ascii_alphanumeric t ≡ true → first_is 59 t ≡ false
    → goes_on t ≡ false → is_bare_reference z (s ++ t) ≡ is_bare_reference z s
reference_cut z s t h e g =
    let same = names_cut old_names s t old_letters h in
    let count = counts_cut z (longest_old s) s t (λ r w. first_begins old_names s r w) g in
    rw (same, semicolon_cut is_ascii_alphanumeric s t h e, count) refl

letter_cut : (s t : List ℕ) → halts is_ascii_alphanumeric t ≡ true → begins_letter (s ++ t) ≡ begins_letter s
letter_cut [] [] h = refl
letter_cut [] (b ∷ t) h =
    let k = not-true (is_ascii_alphanumeric b) h in
    let no_letter : is_ascii_alphabetic b ≡ false = grind (arith, nat_tests, k) in
    no_letter
letter_cut (b ∷ s) t h = refl

title_longer : (p s t : List ℕ) → begins_in_any_case p s ≡ true → begins_in_any_case p (s ++ t) ≡ true
title_longer [] s t e = refl
title_longer (c ∷ p) [] t e = absurd (cc)
title_longer (c ∷ p) (b ∷ s) t e =
    let k = and_parts (to_ascii_lowercase b == c) (begins_in_any_case p s) e in
    rw (k.0, title_longer p s t k.1) refl

references_cut : (q p : Place) (s t : List ℕ) → covers q p ≡ true → halts is_ascii_alphanumeric t ≡ true
    → first_is 59 t ≡ false → goes_on t ≡ false
    → has_bare_reference q (s ++ t) ≡ false → has_bare_reference p s ≡ false
references_cut q p [] t c h e g f = refl
references_cut q p (b ∷ s) t c h e g f =
    let k = or_parts (b == 38 && is_bare_reference (is_in_tag q) (s ++ t))
    (has_bare_reference (place_after q b (s ++ t)) (s ++ t)) f in
    let place = place_covered q p b (s ++ t) s c (letter_cut s t h) (λ x. title_longer (codes "title") s t x) in
    let i = references_cut (place_after q b (s ++ t)) (place_after p b s) s t place h e g k.1 in
    test (b == 38)
    (λ x. let w = rw (x, reference_cut (is_in_tag q) s t h e g) at k.0 in rw (x, bare_covered q p s c w, i) refl)
    (λ x. rw (x, i) refl)

references_after : (here : Place) (s t : List ℕ) → has_bare_reference here (s ++ t) ≡ false
    → has_bare_reference in_tag t ≡ false
references_after here [] t e = covered here in_tag t (covers_tag here) e
references_after here (b ∷ s) t e =
    references_after (place_after here b (s ++ t)) s t
    (or_parts (b == 38 && is_bare_reference (is_in_tag here) (s ++ t)) _ e).1

-- ---- parts

-- the end of an unambiguous text, where its references end
unambiguous_end : {here there : Place} (s t : List ℕ) → IsUnambiguousAt here (s ++ t)
    → has_bare_reference there t ≡ false → IsUnambiguousAt there t
unambiguous_end s t h e = record {
  line_feeds = (lacks_cut 13 s t h.line_feeds).1;
  no_null = (lacks_cut 0 s t h.no_null).1;
  references_end = e;
}

-- which may begin in a tag
pub unambiguous_back : {here : Place} (s t : List ℕ) → IsUnambiguousAt here (s ++ t) → IsUnambiguousAt in_tag t
unambiguous_back s t h = unambiguous_end s t h (references_after _ s t h.references_end)

-- its beginning, before what is no letter, digit, `;` or `=`
pub unambiguous_front : {here : Place} (s t : List ℕ) → IsUnambiguousAt here (s ++ t)
    → halts is_ascii_alphanumeric t ≡ true → first_is 59 t ≡ false → goes_on t ≡ false
    → IsUnambiguousAt here s
unambiguous_front s t h k e g = record {
  line_feeds = (lacks_cut 13 s t h.line_feeds).0;
  no_null = (lacks_cut 0 s t h.no_null).0;
  references_end = references_cut _ _ s t (covers_itself _) k e g h.references_end;
}

-- what counts at a place counts where less does
pub unambiguous_less : (q p : Place) (s : List ℕ) → covers q p ≡ true → IsUnambiguousAt q s
    → IsUnambiguousAt p s
unambiguous_less q p s c h =
    record { line_feeds = h.line_feeds; no_null = h.no_null; references_end = covered q p s c h.references_end }

pub unambiguous_in_tag : {here : Place} (s : List ℕ) → IsUnambiguousAt here s → IsUnambiguousAt in_tag s
unambiguous_in_tag s h = unambiguous_less _ in_tag s (covers_tag _) h

-- ---- what follows a text

past_text : (s t : List ℕ) → up_to begins_markup s ≡ s → Ending t
    → has_bare_reference outside (s ++ t) ≡ false → has_bare_reference outside t ≡ false
past_text [] t l h e = e
past_text (b ∷ s) t l h e =
    let p = run_head begins_markup b s l in
    let stays = stays_outside b (s ++ t) (stops_not false [] b s t (ending_for_both t h) p.0) in
    let w = rw stays at (or_parts (b == 38 && is_bare_reference false (s ++ t)) _ e).1 in
    past_text s t p.1 h w

pub unambiguous_past : (s t : List ℕ) → up_to begins_markup s ≡ s → Ending t → IsUnambiguous (s ++ t)
    → IsUnambiguous t
unambiguous_past s t l e h = unambiguous_end s t h (past_text s t l e h.references_end)

-- ---- what follows `>`

abbrev pub EndsInSign : List ℕ → Type 0
EndsInSign s = (h : List ℕ) × (s ≡ h ++ (62 ∷ []))

sign_covers : (here : Place) (t : List ℕ) → covers (place_after here 62 t) outside ≡ true
sign_covers outside t = refl
sign_covers _ t = refl

past_sign : (here : Place) (s t : List ℕ) → has_bare_reference here (s ++ (62 ∷ t)) ≡ false
    → has_bare_reference outside t ≡ false
past_sign here [] t e = covered (place_after here 62 t) outside t (sign_covers here t) e
past_sign here (b ∷ s) t e =
    past_sign (place_after here b (s ++ (62 ∷ t))) s t
    (or_parts (b == 38 && is_bare_reference (is_in_tag here) (s ++ (62 ∷ t))) _ e).1

pub unambiguous_after_sign : (s t : List ℕ) → EndsInSign s → IsUnambiguous (s ++ t) → IsUnambiguous t
unambiguous_after_sign s t g h =
    let e : s ++ t ≡ g.0 ++ (62 ∷ t) = ap (λ (y : List ℕ). y ++ t) g.1 ∙ append_assoc g.0 (62 ∷ []) t in
    unambiguous_end s t h (past_sign outside g.0 t (ap (has_bare_reference outside) (sym e) ∙ h.references_end))

pub sign_before : (x s : List ℕ) → EndsInSign s → EndsInSign (x ++ s)
sign_before x s g = (x ++ g.0, ap (λ (y : List ℕ). x ++ y) g.1 ∙ sym (append_assoc x g.0 (62 ∷ [])))

rest_sign : (attributes : List AttributePair) (present : Bool) (s : List ℕ) → IsTagRest attributes present s
    → EndsInSign s
rest_sign [] present s h =
    (h.0 ++ optional_slash present, h.1 ∙ sym (append_assoc h.0 (optional_slash present) (62 ∷ [])))
rest_sign (a ∷ attributes) present s h =
    subst EndsInSign (sym h.4) (sign_before h.0 (h.1 ++ (h.2 ++ h.3)) (sign_before h.1 (h.2 ++ h.3)
    (sign_before h.2 h.3 (rest_sign attributes present h.3 h.10))))

pub start_sign : (tag n : List ℕ) (attributes : List AttributePair) → IsStartTag named_characters tag n attributes
    → EndsInSign tag
start_sign tag n attributes h =
    let f = h.2 in
    subst EndsInSign (sym f.2) (sign_before (60 ∷ []) (f.0 ++ f.1) (sign_before f.0 f.1 (rest_sign h.0 h.1 f.1 f.5)))

pub end_sign : (tag n : List ℕ) → IsEndTag tag n → EndsInSign tag
end_sign tag n h =
    subst EndsInSign (sym h.2)
    (sign_before (60 ∷ 47 ∷ []) (h.0 ++ (h.1 ++ (62 ∷ []))) (sign_before h.0 (h.1 ++ (62 ∷ [])) (h.1, refl)))

-- ---- what a start tag opens

-- where the content of an element with this name stands
abbrev pub content_place : List ℕ → Place
content_place n = if bytes_eq n (codes "title") then after_title else outside

named_so : (p name x : List ℕ) → map to_ascii_lowercase name ≡ p → begins_in_any_case p (name ++ x) ≡ true
named_so [] name x e = refl
named_so (c ∷ p) [] x e = absurd (cc)
named_so (c ∷ p) (b ∷ name) x e =
    let k : to_ascii_lowercase b ≡ c = cc in
    let l : map to_ascii_lowercase name ≡ p = cc in
    rw (k, eq-eqb c c refl, named_so p name x l) refl

name_letter : (name x : List ℕ) → is_tag_name name ≡ true → begins_letter (name ++ x) ≡ true
name_letter [] x e = absurd (cc)
name_letter (b ∷ name) x e = (and_parts (is_ascii_alphabetic b) _ e).0

past_title : (s t : List ℕ) → has_bare_reference after_title (s ++ t) ≡ false
    → has_bare_reference after_title t ≡ false
past_title [] t e = e
past_title (b ∷ s) t e = past_title s t (or_parts (b == 38 && is_bare_reference false (s ++ t)) _ e).1

title_opened : (name rest x : List ℕ) → is_tag_name name ≡ true → map to_ascii_lowercase name ≡ codes "title"
    → has_bare_reference outside (60 ∷ (name ++ (rest ++ x))) ≡ false
    → has_bare_reference after_title x ≡ false
title_opened name rest x t n e =
    let w = rw (name_letter name (rest ++ x) t, named_so (codes "title") name (rest ++ x) n) at e in
    past_title rest x (past_title name (rest ++ x) w)

-- what follows a start tag
pub unambiguous_inside : (tag n x : List ℕ) (attributes : List AttributePair)
    → IsStartTag named_characters tag n attributes → IsUnambiguous (tag ++ x)
    → IsUnambiguousAt (content_place n) x
unambiguous_inside tag n x attributes h k =
    test (bytes_eq n (codes "title"))
    (λ t. let f = h.2 in
    let e = ap (λ (y : List ℕ). y ++ x) f.2 ∙ ap (λ (y : List ℕ). 60 ∷ y) (append_assoc f.0 f.1 x) in
    rw t (unambiguous_end tag x k (title_opened f.0 f.1 x f.3 (f.4 ∙ same_bytes n (codes "title") t)
    (ap (has_bare_reference outside) (sym e) ∙ k.references_end))))
    (λ t. rw t (unambiguous_after_sign tag x (start_sign tag n attributes h) k))

pub unambiguous_outside : (n x : List ℕ) → IsUnambiguousAt (content_place n) x → IsUnambiguous x
unambiguous_outside n x k =
    test (bytes_eq n (codes "title")) (λ t. unambiguous_less after_title outside x refl (rw t at k))
    (λ t. (rw t at k))
