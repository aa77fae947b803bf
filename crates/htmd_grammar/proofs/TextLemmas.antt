-- Texts and the names of tags, before what follows them.
use Rattle.std.proofs.Common.{Bool, List, [], arith, false, inl, inr, map, not, refl, true, ℕ, ◌&&◌, ◌++◌, ◌||◌, ◌∙◌}
use Rattle.std.proofs.Common.{◌∷◌, ◌≡◌, ◌≢◌, ◌⊎◌}
use Rattle.std.proofs.lemmas.Bool.Decides.{nat_tests}
use Rattle.std.proofs.lemmas.List.{append-nil}
use Rattle.std.specs.Char.{is_ascii_alphabetic, to_ascii_lowercase}
use Rattle.std.specs.List.{list_all}
use Rattle.std.specs.Prelude.{◌==◌}
use Rattle.std.proofs.lemmas.Bool.{not-true, and_parts, or_parts, eqb-true}
use Rattle.htmd_lexical.specs.WhiteSpace.{is_ascii_white_space}
use Rattle.htmd_lexical.proofs.Cases.{test}
use Rattle.htmd_lexical.specs.CharacterClasses.{behind_run, is_tag_name, is_tag_name_byte, lacks, leading_run, onward}
use Rattle.htmd_lexical.specs.CharacterClasses.{up_to}
use Rattle.htmd_grammar.specs.Grammar.{tag_name_at}
use Rattle.htmd_grammar.specs.RawContent.{begins_markup, ends_text, holds_text_alone}
use Rattle.htmd_lexical.specs.EndTags.{begins_own_end, goes_on_with_name}
use Rattle.htmd_grammar.specs.ReaderSteps.{end_tag_name_at, ends_rows}
use Rattle.htmd_lexical.proofs.BooleanLemmas.{and_false, if_then}
use Rattle.htmd_grammar.proofs.NestingLemmas.{text_alone_passes}
use Rattle.htmd_lexical.proofs.LeadingRunsLemmas.{front_cut, halts}

-- nothing follows, or what ends a text under this parent
abbrev pub Stops : Bool → List ℕ → List ℕ → Type 0
Stops z n s = (s ≡ []) ⊎ (ends_text z n s ≡ true)

pub markup_head : (s : List ℕ) → begins_markup s ≡ true → (t : List ℕ) × (s ≡ 60 ∷ t)
markup_head [] e = absurd (cc)
markup_head (b ∷ []) e = absurd (cc)
markup_head (b ∷ c ∷ s) e = (c ∷ s, grind (arith, nat_tests, and_parts))

pub end_head : (n s : List ℕ) → begins_own_end n s ≡ true → (t : List ℕ) × (s ≡ 60 ∷ 47 ∷ t)
    × (goes_on_with_name n t ≡ true)
end_head n [] e = absurd (cc)
end_head n (b ∷ []) e = absurd (cc)
end_head n (b ∷ c ∷ s) e =
    let p = and_parts ((b == 60) && (c == 47)) (goes_on_with_name n s) e in
    let q = and_parts (b == 60) (c == 47) p.0 in
    (s, rw (eqb-true b 60 q.0, eqb-true c 47 q.1) refl, p.1)

-- what ends a text begins with `<`
pub stop_head : (z : Bool) (n s : List ℕ) → ends_text z n s ≡ true → (t : List ℕ) × (s ≡ 60 ∷ t)
stop_head z n s e = test (holds_text_alone z n)
    (λ t. let w = rw t at e in let h = end_head n s w in (47 ∷ h.0, h.1))
    (λ t. let w = rw t at e in markup_head s w)

no_end_name : (ps s t : List ℕ) → lacks 60 ps ≡ true → goes_on_with_name ps s ≡ false
    → goes_on_with_name ps (s ++ (60 ∷ t)) ≡ false
no_end_name [] [] t l e = refl
no_end_name [] (b ∷ s) t l e = e
no_end_name (p ∷ ps) [] t l e = let k = and_parts (not (p == 60)) (lacks 60 ps) l in let q : (60 == p) ≡ false =
    other p (not-true (p == 60) k.0) in rw q refl
  where
    other : (p : ℕ) → (p == 60) ≡ false → (60 == p) ≡ false
    other p e = grind (arith, nat_tests)
no_end_name (p ∷ ps) (b ∷ s) t l e =
    let k = and_parts (not (p == 60)) (lacks 60 ps) l in
    test (to_ascii_lowercase b == p) (λ q. let w = rw q at e in rw q (no_end_name ps s t k.1 w)) (λ q. rw q refl)

no_end_yet : (n : List ℕ) (b : ℕ) (s t : List ℕ) → lacks 60 n ≡ true → begins_own_end n (b ∷ s) ≡ false
    → begins_own_end n (b ∷ (s ++ (60 ∷ t))) ≡ false
no_end_yet n b [] t l e = rw (and_false (b == 60)) refl
no_end_yet n b (c ∷ s) t l e = test ((b == 60) && (c == 47)) (λ q. let w = rw q at e in rw q (no_end_name n s t l w))
    (λ q. rw q refl)

no_markup_yet : (b : ℕ) (s t : List ℕ) → begins_markup (b ∷ s) ≡ false
    → begins_markup (b ∷ (s ++ (60 ∷ t))) ≡ false
no_markup_yet b [] t e = and_false (b == 60)
no_markup_yet b (c ∷ s) t e = e

title_lacks : (z : Bool) (n : List ℕ) → holds_text_alone z n ≡ true → lacks 60 n ≡ true
title_lacks z n e = text_alone_passes (lacks 60) z n e refl

-- a text doesn't end earlier for what follows it
pub stops_not : (z : Bool) (n : List ℕ) (b : ℕ) (s after : List ℕ) → Stops z n after
    → ends_text z n (b ∷ s) ≡ false
    → ends_text z n (b ∷ (s ++ after)) ≡ false
stops_not z n b s after (inl w) e = rw (w, Rattle.std.proofs.lemmas.List.append-nil s) e
stops_not z n b s after (inr w) e =
    let h = stop_head z n after w in
    rw h.1 (test (holds_text_alone z n)
    (λ t. let f = rw t at e in rw t (no_end_yet n b s h.0 (title_lacks z n t) f))
    (λ t. let f = rw t at e in rw t (no_markup_yet b s h.0 f)))

-- nor for `&`
no_end_name-and : (ps s t : List ℕ) → lacks 38 ps ≡ true → goes_on_with_name ps s ≡ false
    → goes_on_with_name ps (s ++ (38 ∷ t)) ≡ false
no_end_name-and [] [] t l e = refl
no_end_name-and [] (b ∷ s) t l e = e
no_end_name-and (p ∷ ps) [] t l e =
    let k = and_parts (not (p == 38)) (lacks 38 ps) l in
    let q : (38 == p) ≡ false = other p (not-true (p == 38) k.0) in rw q refl
  where
    other : (p : ℕ) → (p == 38) ≡ false → (38 == p) ≡ false
    other p e = grind (arith, nat_tests)
no_end_name-and (p ∷ ps) (b ∷ s) t l e =
    let k = and_parts (not (p == 38)) (lacks 38 ps) l in
    test (to_ascii_lowercase b == p) (λ q. let w = rw q at e in rw q (no_end_name-and ps s t k.1 w))
    (λ q. rw q refl)

no_end_yet-and : (n : List ℕ) (b : ℕ) (s t : List ℕ) → lacks 38 n ≡ true
    → begins_own_end n (b ∷ s) ≡ false
    → begins_own_end n (b ∷ (s ++ (38 ∷ t))) ≡ false
no_end_yet-and n b [] t l e = rw (and_false (b == 60)) refl
no_end_yet-and n b (c ∷ s) t l e =
    test ((b == 60) && (c == 47)) (λ q. let w = rw q at e in rw q (no_end_name-and n s t l w)) (λ q. rw q refl)

no_markup_yet-and : (b : ℕ) (s t : List ℕ) → begins_markup (b ∷ s) ≡ false
    → begins_markup (b ∷ (s ++ (38 ∷ t))) ≡ false
no_markup_yet-and b [] t e = and_false (b == 60)
no_markup_yet-and b (c ∷ s) t e = e

pub stops_not-and : (z : Bool) (n : List ℕ) (b : ℕ) (s t : List ℕ) → ends_text z n (b ∷ s) ≡ false
    → ends_text z n (b ∷ (s ++ (38 ∷ t))) ≡ false
stops_not-and z n b s t e = test (holds_text_alone z n)
    (λ q. let f = rw q at e in rw q (no_end_yet-and n b s t (text_alone_passes (lacks 38) z n q refl) f))
    (λ q. let f = rw q at e in rw q (no_markup_yet-and b s t f))

pub run_head : (stop : List ℕ → Bool) (b : ℕ) (s : List ℕ) → up_to stop (b ∷ s) ≡ b ∷ s
    → (stop (b ∷ s) ≡ false) × (up_to stop s ≡ s)
run_head stop b s e = elim (if_then (stop (b ∷ s)) [] (b ∷ up_to stop s) (b ∷ s) e) [
  | inl w ↦ absurd (let z = w.1 in cc)
  | inr w ↦ (w.0, let z = w.1 in cc)
]

pub run_stops : (stop : List ℕ → Bool) (s : List ℕ) → stop s ≡ true
    → (up_to stop s ≡ []) × (onward stop s ≡ s)
run_stops stop [] e = (refl, refl)
run_stops stop (b ∷ s) e = (rw e refl, rw e refl)

pub run_of-append : (z : Bool) (n s after : List ℕ) → up_to (ends_text z n) s ≡ s → Stops z n after
    → (up_to (ends_text z n) (s ++ after) ≡ s) × (onward (ends_text z n) (s ++ after) ≡ after)
run_of-append z n [] after e (inl w) = (rw w refl, rw w refl)
run_of-append z n [] after e (inr w) = run_stops (ends_text z n) after w
run_of-append z n (b ∷ s) after e h =
    let p = run_head (ends_text z n) b s e in
    let q = stops_not z n b s after h p.0 in
    let r = run_of-append z n s after p.1 h in
    (rw (q, r.0) refl, rw (q, r.1) refl)

pub run_not_stop : (z : Bool) (n s after : List ℕ) → s ≢ [] → up_to (ends_text z n) s ≡ s → Stops z n after
    → ends_text z n (s ++ after) ≡ false
run_not_stop z n [] after k e h = absurd (k refl)
run_not_stop z n (b ∷ s) after k e h = stops_not z n b s after h (run_head (ends_text z n) b s e).0

-- what begins no markup begins no tag
pub no_tag : (s : List ℕ) → begins_markup s ≡ false → (tag_name_at s ≡ []) × (end_tag_name_at s ≡ [])
no_tag [] e = (refl, refl)
no_tag (b ∷ []) e = (refl, refl)
no_tag (b ∷ c ∷ s) e = test (b == 60)
    (λ q. let f = rw q at e in
    let k = or_parts (is_ascii_alphabetic c || (c == 47) || (c == 33)) (c == 63) f in
    let g = or_parts (is_ascii_alphabetic c || (c == 47)) (c == 33) k.0 in
    let h = or_parts (is_ascii_alphabetic c) (c == 47) g.0 in
    (rw (q, h.0) refl, rw (q, h.1) refl))
    (λ q. (rw q refl, rw q refl))

-- no tag here, so no implied `tbody` ends here
pub rows_go_on : (i : Bool) (s : List ℕ) → begins_markup s ≡ false → (i && ends_rows s) ≡ false
rows_go_on i s e = let p = no_tag s e in rw (p.0, p.1) (and_false i)

pub rows_stop : (s : List ℕ) → ends_rows s ≡ true → begins_markup s ≡ true
rows_stop s e = test (begins_markup s) (λ m. m) (λ m. let q = rows_go_on true s m in absurd (cc))

pub letter_not : (b : ℕ) → is_ascii_alphabetic b ≡ true → ((b == 47) ≡ false) × ((b == 33) ≡ false)
    × (is_tag_name_byte b ≡ true) × ((b == 63) ≡ false)
letter_not b e = (
  grind (arith, nat_tests),
  grind (arith, nat_tests),
  grind (arith, nat_tests),
  grind (arith, nat_tests),
)

pub name_head : (w : List ℕ) → is_tag_name w ≡ true → (b : ℕ) × (s : List ℕ) × (w ≡ b ∷ s)
    × (is_ascii_alphabetic b ≡ true)
name_head [] e = absurd (cc)
name_head (b ∷ s) e = (b, s, refl, (and_parts (is_ascii_alphabetic b) (list_all is_tag_name_byte s) e).0)

pub name_bytes : (w : List ℕ) → is_tag_name w ≡ true → list_all is_tag_name_byte w ≡ true
name_bytes [] e = absurd (cc)
name_bytes (b ∷ s) e = let k = and_parts (is_ascii_alphabetic b) (list_all is_tag_name_byte s) e in
    rw ((letter_not b k.0).2, k.1) refl

-- a name and what follows it
pub name_cut : (name r : List ℕ) → is_tag_name name ≡ true → halts is_tag_name_byte r ≡ true
    → (leading_run is_tag_name_byte (name ++ r) ≡ name) × (behind_run is_tag_name_byte (name ++ r) ≡ r)
name_cut name r e h = front_cut is_tag_name_byte name r (name_bytes name e) h

pub markup-append : (s x : List ℕ) → begins_markup s ≡ true → begins_markup (s ++ x) ≡ true
markup-append [] x e = absurd (cc)
markup-append (b ∷ []) x e = absurd (cc)
markup-append (b ∷ c ∷ s) x e = e

begins_name-append : (ps s x : List ℕ) → goes_on_with_name ps s ≡ true → goes_on_with_name ps (s ++ x) ≡ true
begins_name-append [] [] x e = absurd (cc)
begins_name-append [] (b ∷ s) x e = e
begins_name-append (p ∷ ps) [] x e = absurd (cc)
begins_name-append (p ∷ ps) (b ∷ s) x e = let k = and_parts (to_ascii_lowercase b == p)
    (goes_on_with_name ps s) e in
    rw (k.0, begins_name-append ps s x k.1) refl

pub stops-append : (z : Bool) (n s x : List ℕ) → ends_text z n s ≡ true → ends_text z n (s ++ x) ≡ true
stops-append z n s x e = test (holds_text_alone z n)
    (λ t. let w = rw t at e in let h = end_head n s w in rw (t, h.1, begins_name-append n h.0 x h.2) refl)
    (λ t. let w = rw t at e in rw t (markup-append s x w))

-- the end tag of the parent ends a text
pub begins_name-lower : (name r : List ℕ) → goes_on_with_name (map to_ascii_lowercase name) (name ++ r)
    ≡ goes_on_with_name [] r
begins_name-lower [] r = refl
begins_name-lower (b ∷ name) r = rw (self (to_ascii_lowercase b)) (begins_name-lower name r)
  where
    self : (b : ℕ) → (b == b) ≡ true
    self b = grind (arith, nat_tests)

gap_ends : (gap x : List ℕ) → list_all is_ascii_white_space gap ≡ true
    → goes_on_with_name [] (gap ++ (62 ∷ x)) ≡ true
gap_ends [] x l = refl
gap_ends (b ∷ gap) x l = let k =
    and_parts (is_ascii_white_space b) (list_all is_ascii_white_space gap) l in rw k.0 refl

pub end_stops : (z : Bool) (n name gap x : List ℕ) → map to_ascii_lowercase name ≡ n
    → list_all is_ascii_white_space gap ≡ true
    → ends_text z n (60 ∷ 47 ∷ (name ++ (gap ++ (62 ∷ x)))) ≡ true
end_stops z n name gap x d l =
    test (holds_text_alone z n) (λ t. rw (t, ← d) (begins_name-lower name (gap ++ (62 ∷ x)) ∙ gap_ends gap x l))
    (λ t. rw t refl)

pub white_no_name : (b : ℕ) → is_ascii_white_space b ≡ true → is_tag_name_byte b ≡ false
white_no_name b e = grind (arith, nat_tests)

pub gap_no_name : (gap x : List ℕ) → list_all is_ascii_white_space gap ≡ true
    → halts is_tag_name_byte (gap ++ (62 ∷ x))
    ≡ true
gap_no_name [] x l = refl
gap_no_name (b ∷ gap) x l = let k = and_parts (is_ascii_white_space b) (list_all is_ascii_white_space gap) l in
    rw (white_no_name b k.0) refl

pub front_stops : (z : Bool) (n s after : List ℕ) → Stops z n after → leading_run is_tag_name_byte (s ++ after)
    ≡ leading_run is_tag_name_byte s
front_stops z n [] after (inl w) = rw w refl
front_stops z n [] after (inr w) = let m = stop_head z n after w in rw m.1 refl
front_stops z n (b ∷ s) after h = rw (front_stops z n s after h) refl
