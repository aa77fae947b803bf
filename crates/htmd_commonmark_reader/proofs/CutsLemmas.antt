-- Where code spans, autolinks and raw HTML end a text may be cut.
use Rattle.std.proofs.Common.{◌≡◌, ◌∙◌, ℕ, zero, suc, ◌+◌, ◌<◌, ◌≤◌, true, List, [], ◌∷◌, ◌++◌}
use Rattle.std.proofs.Common.{length, drop, take, get_or, refl, ap, sym, subst, append_assoc, arith, Option, Some, None}
use Rattle.std.specs.Prelude.{◌==◌, ◌&&◌, if◌then◌else◌}
use Rattle.std.specs.Option.{option_or}
use Rattle.std.specs.Str.{IsUtf8, IsCharBoundary}
use Rattle.std.proofs.lemmas.Bool.{eqb-true}
use Rattle.std.proofs.lemmas.Bool.Decides.{nat_tests}
use Rattle.std.proofs.lemmas.List.{length-append, length-replicate, length-take, take-append-drop}
use Rattle.std.proofs.lemmas.Str.{IsCharBoundary-before_ascii, IsCharBoundary-after_ascii, IsCharBoundary-from_rest}
use Rattle.std.proofs.Math.Seq.{get_or-append_seam}
use Rattle.htmd_lexical.proofs.Cases.{test}
use Rattle.htmd_lexical.specs.CharacterClasses.{begins_with, first_is, leading_run, behind_run}
use Rattle.htmd_commonmark_reader.proofs.BeginningsLemmas.{first_sign}
use Rattle.htmd_commonmark_reading.specs.Characters.{in_front_of, one_more, is_white}
use Rattle.htmd_commonmark_reading.specs.InlineTokens.{graves, before_graves}
use Rattle.htmd_commonmark_reading.specs.RawTags as raw
use Rattle.htmd_commonmark_reading.specs.RawTags.{Place, place_after, with_place}

-- ---- a sign at a place

pub sign_at : (s p q : List ℕ) (c : ℕ) → s ≡ p ++ (c ∷ q)
    → (length p < length s) × (get_or s (length p) 0 ≡ c)
sign_at s p q c e = (
  omega (arith, ap length e, length-append p (c ∷ q)),
  ap (λ l. get_or l (length p) 0) e ∙ get_or-append_seam p c q 0,
)

pub before_sign : (s p q : List ℕ) (c n : ℕ) → s ≡ p ++ (c ∷ q) → c < 128 → length p ≡ n
    → IsCharBoundary s n
before_sign s p q c n e a l =
    let k = sign_at s p q c e in
    let w = k.0 in
    let g = k.1 in
    subst (IsCharBoundary s) l (IsCharBoundary-before_ascii s (length p) w (omega (arith, g)))

pub behind_sign_at : (s p q : List ℕ) (c n : ℕ) → IsUtf8 s → s ≡ p ++ (c ∷ q) → c < 128
    → length p + 1 ≡ n
    → IsCharBoundary s n
behind_sign_at s p q c n u e a l =
    let k = sign_at s p q c e in
    let w = k.0 in
    let g = k.1 in
    subst (IsCharBoundary s) l (IsCharBoundary-after_ascii s (length p) u w (omega (arith, g)))

-- ---- addresses

pub record AddressCut (s : List ℕ) (n : ℕ) : Type 0 where
  pub before : IsCharBoundary s n
  pub behind : IsCharBoundary s (n + 1)

-- an address in front of `>`
pub address_cut : (s : List ℕ) (n : ℕ) → IsUtf8 s → n < length s → first_is 62 (drop n s) ≡ true
    → AddressCut s n
address_cut s n u l e =
    let whole : s ≡ take n s ++ (62 ∷ drop 1 (drop n s)) =
    sym (take-append-drop n s) ∙ ap (λ t. take n s ++ t) (first_sign 62 (drop n s) e) in
    let size : length (take n s) ≡ n = omega (arith, length-take n s) in
    record {
      before = before_sign s (take n s) (drop 1 (drop n s)) 62 n whole (omega arith) size;
      behind = behind_sign_at s (take n s) (drop 1 (drop n s)) 62 (n + 1) u whole (omega arith)
          (omega (arith, size));
    }

-- ---- rows of grave accents

front_some : (a : List ℕ) (o : Option (List ℕ)) (t : List ℕ) → in_front_of a o ≡ Some t
    → (u : List ℕ) × (o ≡ Some u) × (t ≡ a ++ u)
front_some a None t e = absurd (cc)
front_some a (Some u) t e = (u, refl, cc)

row_more : (k : ℕ) (s : List ℕ) → graves k ++ (96 ∷ s) ≡ 96 ∷ (graves k ++ s)
row_more zero s = refl
row_more (suc k) s = ap (λ l. 96 ∷ l) (row_more k s)

-- behind what stands before a row of so many grave accents, that row stands
abbrev IsRowBehind : ℕ → List ℕ → List ℕ → Type 0
IsRowBehind n s t = (r : List ℕ) × (s ≡ t ++ (graves n ++ r))

-- behind a character that is no grave accent
row_apart : (n k c : ℕ) (s t : List ℕ)
    → ((u : List ℕ) → before_graves n 0 s ≡ Some u → IsRowBehind n s u)
    → (if n == k then Some [] else in_front_of (graves k) (in_front_of (c ∷ []) (before_graves n 0 s))) ≡ Some t
    → IsRowBehind n (graves k ++ (c ∷ s)) t
row_apart n k c s t rest f =
    test (n == k)
    (λ w.
    let none : [] ≡ t = let g = rw w at f in cc in
    (c ∷ s, ap (λ j. graves j ++ (c ∷ s)) (sym (eqb-true n k w)) ∙ ap (λ l. l ++ (graves n ++ (c ∷ s))) none))
    (λ w.
    let g = rw w at f in
    let one = front_some (graves k) (in_front_of (c ∷ []) (before_graves n 0 s)) t g in
    let two = front_some (c ∷ []) (before_graves n 0 s) one.0 one.1 in
    let h = rest two.0 two.1 in (
      h.0,
      ap (λ l. graves k ++ (c ∷ l)) h.1 ∙ sym (append_assoc (graves k) (c ∷ two.0) (graves n ++ h.0))
          ∙ ap (λ l. (graves k ++ l) ++ (graves n ++ h.0)) (sym two.2)
          ∙ ap (λ l. l ++ (graves n ++ h.0)) (sym one.2),
    ))

row_behind : (n k : ℕ) (s t : List ℕ) → before_graves n k s ≡ Some t → IsRowBehind n (graves k ++ s) t
row_behind n k [] t e =
    test (n == k)
    (λ q.
    let none : [] ≡ t = let f = rw q at e in cc in
    ([], ap (λ j. graves j ++ []) (sym (eqb-true n k q)) ∙ ap (λ l. l ++ (graves n ++ [])) none))
    (λ q. let f = rw q at e in absurd (cc))
row_behind n k (c ∷ s) t e =
    test (c == 96)
    (λ q.
    let f : before_graves n (suc k) s ≡ Some t = rw q at e in
    let h = row_behind n (suc k) s t f in
    (h.0, ap (λ x. graves k ++ (x ∷ s)) (eqb-true c 96 q) ∙ row_more k s ∙ h.1))
    (λ q. row_apart n k c s t (λ u f. row_behind n 0 s u f) (rw q at e))

pub record RowCut (s : List ℕ) (len n : ℕ) : Type 0 where
  pub before : IsCharBoundary s len
  pub behind : IsCharBoundary s (len + suc n)

pub row_cut : (s : List ℕ) (len n : ℕ) → IsUtf8 s → len ≤ length s
    → Some (take len s) ≡ before_graves (suc n) 0 s
    → RowCut s len n
row_cut s len n u l e =
    let h = row_behind (suc n) 0 s (take len s) (sym e) in
    let first : s ≡ take len s ++ (96 ∷ (graves n ++ h.0)) = h.1 in
    let last : s ≡ (take len s ++ graves n) ++ (96 ∷ h.0) =
    first ∙ ap (λ t. take len s ++ t) (sym (row_more n h.0))
    ∙ sym (append_assoc (take len s) (graves n) (96 ∷ h.0)) in
    let size : length (take len s) ≡ len = omega (arith, length-take len s) in
    record {
      before = before_sign s (take len s) (graves n ++ h.0) 96 len first (omega arith) size;
      behind = behind_sign_at s (take len s ++ graves n) h.0 96 (len + suc n) u last (omega arith)
          (omega (arith, size, length-append (take len s) (graves n), length-replicate {A = ℕ} n 96));
    }

-- ---- raw HTML

-- the text ends with `>`
abbrev IsPointed : List ℕ → Type 0
IsPointed t = (u : List ℕ) × (t ≡ u ++ (62 ∷ []))

at_end_is : (c : ℕ) (p : Place) → place_after c p ≡ raw.at_end → c ≡ 62
at_end_is c raw.in_tag_name e = grind (arith, nat_tests)
at_end_is c raw.after_space e = grind (arith, nat_tests)
at_end_is c raw.in_attribute_name e = grind (arith, nat_tests)
at_end_is c raw.after_attribute_name e = grind (arith, nat_tests)
at_end_is c raw.before_value e = grind (arith, nat_tests)
at_end_is c raw.in_unquoted_value e = grind (arith, nat_tests)
at_end_is c (raw.in_quotes quote) e = grind (arith, nat_tests)
at_end_is c raw.after_quotes e = grind (arith, nat_tests)
at_end_is c raw.after_slash e = grind (arith, nat_tests)
at_end_is c raw.at_end e = absurd (cc)
at_end_is c raw.refused e = absurd (cc)

more_pointed : (c : ℕ) (o : Option (List ℕ)) (t : List ℕ) → ((u : List ℕ) → o ≡ Some u → IsPointed u)
    → one_more c o ≡ Some t → IsPointed t
more_pointed c None t h e = absurd (cc)
more_pointed c (Some u) t h e =
    let k = h u refl in
    (c ∷ k.0, let f : t ≡ c ∷ u = cc in f ∙ ap (λ l. c ∷ l) k.1)

front_pointed : (a : List ℕ) (o : Option (List ℕ)) (t : List ℕ)
    → ((u : List ℕ) → o ≡ Some u → IsPointed u)
    → in_front_of a o ≡ Some t → IsPointed t
front_pointed a o t h e =
    let f = front_some a o t e in
    let k = h f.0 f.1 in
    (a ++ k.0, f.2 ∙ ap (λ l. a ++ l) k.1 ∙ sym (append_assoc a k.0 (62 ∷ [])))

either_pointed : (o p : Option (List ℕ)) → ((t : List ℕ) → o ≡ Some t → IsPointed t)
    → ((t : List ℕ) → p ≡ Some t → IsPointed t) → (t : List ℕ) → option_or o p ≡ Some t
    → IsPointed t
either_pointed None p h k t e = k t e
either_pointed (Some u) p h k t e = h t e

place_pointed : (c : ℕ) (p : Place) (s t : List ℕ)
    → ((q : Place) (u : List ℕ) → raw.tag_rest q s ≡ Some u → IsPointed u)
    → (q : Place) → place_after c p ≡ q → with_place q c (raw.tag_rest q s) ≡ Some t → IsPointed t
place_pointed c p s t k raw.at_end w f =
    let here : t ≡ c ∷ [] = cc in
    ([], here ∙ ap (λ x. x ∷ []) (at_end_is c p w))
place_pointed c p s t k raw.refused w f = absurd (cc)
place_pointed c p s t k raw.in_tag_name w f = more_pointed c _ t (k raw.in_tag_name) f
place_pointed c p s t k raw.after_space w f = more_pointed c _ t (k raw.after_space) f
place_pointed c p s t k raw.in_attribute_name w f = more_pointed c _ t (k raw.in_attribute_name) f
place_pointed c p s t k raw.after_attribute_name w f = more_pointed c _ t (k raw.after_attribute_name) f
place_pointed c p s t k raw.before_value w f = more_pointed c _ t (k raw.before_value) f
place_pointed c p s t k raw.in_unquoted_value w f = more_pointed c _ t (k raw.in_unquoted_value) f
place_pointed c p s t k (raw.in_quotes quote) w f = more_pointed c _ t (k (raw.in_quotes quote)) f
place_pointed c p s t k raw.after_quotes w f = more_pointed c _ t (k raw.after_quotes) f
place_pointed c p s t k raw.after_slash w f = more_pointed c _ t (k raw.after_slash) f

tag_pointed : (p : Place) (s t : List ℕ) → raw.tag_rest p s ≡ Some t → IsPointed t
tag_pointed p [] t e = absurd (cc)
tag_pointed p (c ∷ s) t e = place_pointed c p s t (λ q u f. tag_pointed q s u f) (place_after c p) refl e

open_pointed : (s t : List ℕ) → raw.open_tag s ≡ Some t → IsPointed t
open_pointed s t e =
    test (raw.begins_with_letter s) (λ q. tag_pointed raw.in_tag_name s t (rw q at e))
    (λ q. let f = rw q at e in absurd (cc))

closing_end : (name rest t : List ℕ) → raw.closing_tag_end name rest ≡ Some t → IsPointed t
closing_end name rest t e =
    test (first_is 62 (behind_run is_white rest))
    (λ q.
    let f : Some ((name ++ leading_run is_white rest) ++ (62 ∷ [])) ≡ Some t = rw q at e in
    let here : t ≡ (name ++ leading_run is_white rest) ++ (62 ∷ []) = cc in
    (name ++ leading_run is_white rest, here))
    (λ q. let f = rw q at e in absurd (cc))

closing_pointed : (s t : List ℕ) → raw.closing_tag s ≡ Some t → IsPointed t
closing_pointed s t e =
    test (first_is 47 s && raw.begins_with_letter (drop 1 s))
    (λ q. front_pointed (47 ∷ []) _ t (closing_end (leading_run raw.is_in_tag_name (drop 1 s))
    (behind_run raw.is_in_tag_name (drop 1 s))) (rw q at e))
    (λ q. let f = rw q at e in absurd (cc))

through_pointed : (signs s : List ℕ) → IsPointed signs → (t : List ℕ) → raw.through signs s ≡ Some t
    → IsPointed t
through_pointed signs [] h t e = absurd (cc)
through_pointed signs (c ∷ s) h t e =
    test (begins_with signs (c ∷ s))
    (λ q. let f : Some signs ≡ Some t = rw q at e in let here : t ≡ signs = cc in (h.0, here ∙ h.1))
    (λ q. more_pointed c (raw.through signs s) t (through_pointed signs s h) (rw q at e))

comment_pointed : (s t : List ℕ) → raw.comment s ≡ Some t → IsPointed t
comment_pointed s t e =
    test (begins_with (33 ∷ 45 ∷ 45 ∷ 62 ∷ []) s)
    (λ q. let f = rw q at e in let here : t ≡ 33 ∷ 45 ∷ 45 ∷ 62 ∷ [] = cc in (33 ∷ 45 ∷ 45 ∷ [], here))
    (λ q.
    test (begins_with (33 ∷ 45 ∷ 45 ∷ 45 ∷ 62 ∷ []) s)
    (λ w.
    let f = rw (q, w) at e in
    let here : t ≡ 33 ∷ 45 ∷ 45 ∷ 45 ∷ 62 ∷ [] = cc in
    (33 ∷ 45 ∷ 45 ∷ 45 ∷ [], here))
    (λ w.
    test (begins_with (33 ∷ 45 ∷ 45 ∷ []) s)
    (λ v.
    front_pointed (33 ∷ 45 ∷ 45 ∷ []) _ t
    (through_pointed (45 ∷ 45 ∷ 62 ∷ []) (drop 3 s) (45 ∷ 45 ∷ [], refl)) (rw (q, w, v) at e))
    (λ v. let f = rw (q, w, v) at e in absurd (cc))))

instruction_pointed : (s t : List ℕ) → raw.instruction s ≡ Some t → IsPointed t
instruction_pointed s t e =
    test (first_is 63 s)
    (λ q. front_pointed (63 ∷ []) _ t (through_pointed (63 ∷ 62 ∷ []) (drop 1 s) (63 ∷ [], refl)) (rw q at e))
    (λ q. let f = rw q at e in absurd (cc))

declaration_pointed : (s t : List ℕ) → raw.declaration s ≡ Some t → IsPointed t
declaration_pointed s t e =
    test (begins_with (33 ∷ []) s && raw.begins_with_letter (drop 1 s))
    (λ q. through_pointed (62 ∷ []) s ([], refl) t (rw q at e))
    (λ q. let f = rw q at e in absurd (cc))

cdata_pointed : (s t : List ℕ) → raw.cdata_section s ≡ Some t → IsPointed t
cdata_pointed s t e =
    test (begins_with (33 ∷ 91 ∷ 67 ∷ 68 ∷ 65 ∷ 84 ∷ 65 ∷ 91 ∷ []) s)
    (λ q.
    front_pointed (33 ∷ 91 ∷ 67 ∷ 68 ∷ 65 ∷ 84 ∷ 65 ∷ 91 ∷ []) _ t
    (through_pointed (93 ∷ 93 ∷ 62 ∷ []) (drop 8 s) (93 ∷ 93 ∷ [], refl)) (rw q at e))
    (λ q. let f = rw q at e in absurd (cc))

raw_pointed : (s t : List ℕ) → raw.raw_tag s ≡ Some t → IsPointed t
raw_pointed s =
    either_pointed (raw.open_tag s) _ (open_pointed s)
    (either_pointed (raw.closing_tag s) _ (closing_pointed s)
    (either_pointed (raw.comment s) _ (comment_pointed s)
    (either_pointed (raw.instruction s) _ (instruction_pointed s)
    (either_pointed (raw.declaration s) _ (declaration_pointed s) (cdata_pointed s)))))

pub raw_cut : (s : List ℕ) (n : ℕ) → IsUtf8 s → n ≤ length s → Some (take n s) ≡ raw.raw_tag s
    → IsCharBoundary s n
raw_cut s n u l e =
    let h = raw_pointed s (take n s) (sym e) in
    let whole : s ≡ h.0 ++ (62 ∷ drop n s) =
    sym (take-append-drop n s) ∙ ap (λ t. t ++ drop n s) h.1 ∙ append_assoc h.0 (62 ∷ []) (drop n s) in
    behind_sign_at s h.0 (drop n s) 62 n u whole (omega arith)
    (omega (arith, ap length h.1, length-append h.0 (62 ∷ []), length-take n s))

-- the same behind `<`
pub tag_cut : (here s : List ℕ) (n : ℕ) → IsUtf8 s → here ≡ 60 ∷ s → n ≤ length s
    → Some (take n s) ≡ raw.raw_tag s
    → IsCharBoundary here (n + 1)
tag_cut here s n u f l e =
    let cut = raw_cut s n u l e in
    subst (λ t. IsCharBoundary t (n + 1)) (sym f)
    (subst (IsCharBoundary (60 ∷ s)) (omega arith) (IsCharBoundary-from_rest (60 ∷ s) 1 n (omega arith) cut))
