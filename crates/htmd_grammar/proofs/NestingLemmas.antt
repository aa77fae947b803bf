-- Which names may stand where.
use Rattle.std.proofs.Common.{Bool, List, [], ap, codes, false, not, refl, sym, true, ℕ, ◌&&◌, ◌∙◌, ◌∷◌, ◌≡◌}
use Rattle.std.specs.List.{list_all}
use Rattle.std.specs.Str.{bytes_eq}
use Rattle.std.proofs.lemmas.Bool.{not-true, and_parts}
use Rattle.std.proofs.Math.Bool.{or-false}
use Rattle.htmd_lexical.specs.CharacterClasses.{is_among}
use Rattle.htmd_grammar.specs.Nesting.{Context, fits_lists, fits_open_elements, fits_select, fits_table, is_allowed}
use Rattle.htmd_grammar.specs.Nesting.{is_outside, is_row, is_table, is_table_part, is_tbody, parent_name}
use Rattle.htmd_grammar.specs.RawContent.{holds_text_alone}
use Rattle.htmd_values.specs.Serialisation.{is_void}
use Rattle.htmd_lexical.proofs.BooleanLemmas.{and_false}
use Rattle.htmd_lexical.proofs.Cases.{test}
use Rattle.htmd_lexical.proofs.BytesLemmas.{same_bytes}

pub one_name : (m n : List ℕ) → is_among (m ∷ []) n ≡ true → n ≡ m
one_name m n e = same_bytes n m (sym (or-false (bytes_eq n m)) ∙ e)

-- what each of some names passes
pub among_passes : (P : List ℕ → Bool) (names : List (List ℕ)) (n : List ℕ) → is_among names n ≡ true
    → list_all P names ≡ true → P n ≡ true
among_passes P [] n e l = absurd (cc)
among_passes P (m ∷ names) n e l =
    let k = and_parts (P m) (list_all P names) l in
    test (bytes_eq n m) (λ t. ap P (same_bytes n m t) ∙ k.0)
    (λ t. let w = rw t at e in among_passes P names n w k.1)

-- the elements that hold only text, with scripting on or off
abbrev pub text_alone_names : List (List ℕ)
text_alone_names =
    codes "title" ∷ codes "textarea" ∷ codes "script" ∷ codes "style" ∷ codes "iframe" ∷ codes "noembed"
    ∷ codes "noframes" ∷ codes "xmp" ∷ codes "noscript" ∷ []

pub text_alone_passes : (P : List ℕ → Bool) (z : Bool) (n : List ℕ) → holds_text_alone z n ≡ true
    → list_all P text_alone_names ≡ true → P n ≡ true
text_alone_passes P z n e l = among_passes P text_alone_names n (named e) l
  where
    named : holds_text_alone z n ≡ true → is_among text_alone_names n ≡ true
    named e =
        test (bytes_eq n (codes "title")) (λ t. rw t refl)
        (λ a. test (bytes_eq n (codes "textarea")) (λ t. rw (a, t) refl)
        (λ b. test (bytes_eq n (codes "script")) (λ t. rw (a, b, t) refl)
        (λ c. test (bytes_eq n (codes "style")) (λ t. rw (a, b, c, t) refl)
        (λ d. test (bytes_eq n (codes "iframe")) (λ t. rw (a, b, c, d, t) refl)
        (λ f. test (bytes_eq n (codes "noembed")) (λ t. rw (a, b, c, d, f, t) refl)
        (λ g. test (bytes_eq n (codes "noframes")) (λ t. rw (a, b, c, d, f, g, t) refl)
        (λ h. test (bytes_eq n (codes "xmp")) (λ t. rw (a, b, c, d, f, g, h, t) refl)
        (λ i. test (bytes_eq n (codes "noscript")) (λ t. rw (a, b, c, d, f, g, h, i, t) refl)
        (λ j. absurd (let w = rw (a, b, c, d, f, g, h, i, j, and_false z) at e in cc))))))))))

pub tbody_not_table : (p : List ℕ) → is_tbody p ≡ true → is_table p ≡ true → ⊥
tbody_not_table p t e = let q = one_name (codes "table") p e in let r = rw q at t in cc

-- what the innermost element asks, apart from what is open further out
pub allowed_parts : (z : Bool) (c : Context) (n : List ℕ) → is_allowed z c n ≡ true
    → (is_outside n ≡ false) × (holds_text_alone z (parent_name c) ≡ false)
    × (fits_table (parent_name c) n ≡ true)
unfolding is_allowed
allowed_parts z c n a =
    let e = and_parts (not (is_outside n) && not (holds_text_alone z (parent_name c)) && fits_table (parent_name c) n
    && fits_select (parent_name c) n && fits_open_elements c n) (fits_lists c n) a in
    let f = and_parts (not (is_outside n) && not (holds_text_alone z (parent_name c)) && fits_table (parent_name c) n
    && fits_select (parent_name c) n) (fits_open_elements c n) e.0 in
    let g = and_parts (not (is_outside n) && not (holds_text_alone z (parent_name c)) && fits_table (parent_name c) n)
    (fits_select (parent_name c) n) f.0 in
    let h =
    and_parts (not (is_outside n) && not (holds_text_alone z (parent_name c))) (fits_table (parent_name c) n) g.0
    in
    let i = and_parts (not (is_outside n)) (not (holds_text_alone z (parent_name c))) h.0 in
    (not-true (is_outside n) i.0, not-true (holds_text_alone z (parent_name c)) i.1, h.1)

-- a row that stands in its place isn't right in a table
pub row_place : (z : Bool) (p : List ℕ) (c : Context) (n : List ℕ) → is_allowed z (p ∷ c) n ≡ true
    → (is_row n && bytes_eq p (codes "table")) ≡ false
row_place z p c n a = test (is_row n) (λ r. test (bytes_eq p (codes "table")) (λ t. absurd (no r t))
    (λ t. rw t (and_false (is_row n)))) (λ r. rw r refl)
  where
    no : is_row n ≡ true → bytes_eq p (codes "table") ≡ true → ⊥
    no r t =
        let e = one_name (codes "tr") n r in
        let q = same_bytes p (codes "table") t in
        let h = (allowed_parts z (p ∷ c) n a).2 in
        let b = rw (e, q) at h in cc

-- a part of a table stands in a table only
pub part_place : (z : Bool) (p : List ℕ) (c : Context) (n : List ℕ) (i : Bool)
    → (i ≡ true → is_tbody p ≡ true)
    → is_allowed z (p ∷ c) n ≡ true → (i && is_table_part n) ≡ false
part_place z p c n i h a = test i (λ t. test (is_table_part n) (λ r. absurd (no (h t) r)) (λ r. rw r (and_false i)))
    (λ t. rw t refl)
  where
    no : is_tbody p ≡ true → is_table_part n ≡ true → ⊥
    no t r = let g = (allowed_parts z (p ∷ c) n a).2 in let b = rw r at g in tbody_not_table p t b

-- a `tbody` stands in a table
pub tbody_place : (z : Bool) (p : List ℕ) (c : Context) (n : List ℕ) → is_tbody n ≡ true
    → is_allowed z (p ∷ c) n ≡ true
    → is_table p ≡ true
tbody_place z p c n t a = let e = one_name (codes "tbody") n t in let g = (allowed_parts z (p ∷ c) n a).2 in rw e at g

pub row_is_no_tbody : (n : List ℕ) → is_row n ≡ true → is_tbody n ≡ false
row_is_no_tbody n r = let e = one_name (codes "tr") n r in rw e refl

pub table_takes : (z : Bool) (p : List ℕ) (c : Context) → is_table p ≡ true
    → is_allowed z (p ∷ c) (codes "tbody") ≡ true
unfolding is_allowed
table_takes z p c q = let e = one_name (codes "table") p q in rw (e, and_false z) refl

-- a row stands in an implied `tbody`
pub row_fits : (z : Bool) (c : Context) → is_allowed z (codes "tbody" ∷ c) (codes "tr") ≡ true
unfolding is_allowed
row_fits z c = rw (and_false z) refl

pub row_not_void : is_void (codes "tr") ≡ false
unfolding is_void
row_not_void = refl

pub tbody_not_void : is_void (codes "tbody") ≡ false
unfolding is_void
tbody_not_void = refl

-- an element that holds only text has only text in it
pub no_text_alone : (z : Bool) (p : List ℕ) (c : Context) (n : List ℕ) → is_allowed z (p ∷ c) n ≡ true
    → holds_text_alone z p ≡ false
no_text_alone z p c n a = (allowed_parts z (p ∷ c) n a).1

pub tbody_no_text_alone : (z : Bool) (n : List ℕ) → is_tbody n ≡ true → holds_text_alone z n ≡ false
tbody_no_text_alone z n t = rw (one_name (codes "tbody") n t, and_false z) refl
