-- Values of attributes and texts, character by character; names of attributes, one by one.
use Rattle.std.proofs.Common.{◌≡◌, ℕ, ◌+◌, ◌/◌, ◌%◌, ◌≤◌, ◌<◌, true, false, eqb, ltb, List, [], ◌∷◌, ◌++◌, refl, sym}
use Rattle.std.proofs.Common.{ap, ◌∙◌, arith, inl, inr, if◌then◌else◌, length, drop, get_or, map}
use Rattle.std.specs.List.{flat_map}
use Rattle.std.proofs.lemmas.Bool.Decides.{nat_tests}
use Rattle.std.proofs.lemmas.Bool.{cases_lt}
use Rattle.std.proofs.lemmas.Grind.{flat_map-append}
use Rattle.std.proofs.lemmas.List.{append_assoc, append-nil, drop_more, drop_all}
use Rattle.std.proofs.lemmas.Str.{encode_ascii}
use Rattle.htmd_lexical.proofs.Cases.{test}
use Rattle.htmd_document.specs.Tags.{in_value, in_value_char, escaped_value, in_text, in_text_char, escaped_text}
use lib.Utf8.{encode}

high-value : (b : ℕ) → 0x80 ≤ b → in_value b ≡ b ∷ []
high-value b l =
    let e1 : eqb b 0x26 ≡ false = grind (arith, nat_tests) in
    let e2 : eqb b 0x3C ≡ false = grind (arith, nat_tests) in
    let e3 : eqb b 0x3E ≡ false = grind (arith, nat_tests) in
    let e4 : eqb b 0x22 ≡ false = grind (arith, nat_tests) in
    let e5 : eqb b 0x7C ≡ false = grind (arith, nat_tests) in
    let e6 : eqb b 0x5D ≡ false = grind (arith, nat_tests) in
    rw (e1, e2, e3, e4, e5, e6) refl

high-text : (b : ℕ) → 0x80 ≤ b → in_text b ≡ b ∷ []
high-text b l =
    let e1 : eqb b 0x26 ≡ false = grind (arith, nat_tests) in
    let e2 : eqb b 0x3C ≡ false = grind (arith, nat_tests) in
    rw (e1, e2) refl

encode-two : (c : ℕ) → ltb c 0x80 ≡ false → ltb c 0x800 ≡ true
    → encode c ≡ (192 + c / 64) ∷ (128 + c % 64) ∷ []
unfolding encode
encode-two c n y = rw (n, y) refl

encode-three : (c : ℕ) → ltb c 0x80 ≡ false → ltb c 0x800 ≡ false → ltb c 0x1_0000 ≡ true
    → encode c ≡ (224 + c / 4096) ∷ (128 + c / 64 % 64) ∷ (128 + c % 64) ∷ []
unfolding encode
encode-three c n m y = rw (n, m, y) refl

encode-four : (c : ℕ) → ltb c 0x80 ≡ false → ltb c 0x800 ≡ false → ltb c 0x1_0000 ≡ false
    → encode c ≡ (240 + c / 262144) ∷ (128 + c / 4096 % 64) ∷ (128 + c / 64 % 64) ∷ (128 + c % 64) ∷ []
unfolding encode
encode-four c n m o = rw (n, m, o) refl

-- what leaves bytes past ASCII as they are leaves characters past ASCII as they are

abbrev KeepsHigh : (ℕ → List ℕ) → Type 0
KeepsHigh f = (b : ℕ) → 0x80 ≤ b → f b ≡ b ∷ []

high-first : (f : ℕ → List ℕ) → KeepsHigh f → (b : ℕ) (s t : List ℕ) → 0x80 ≤ b → flat_map f s ≡ t
    → flat_map f (b ∷ s) ≡ b ∷ t
high-first f keeps b s t l h = ap (λ x. x ++ flat_map f s) (keeps b l) ∙ ap (λ x. b ∷ x) h

one : (f : ℕ → List ℕ) → KeepsHigh f → (b : ℕ) → 0x80 ≤ b → flat_map f (b ∷ []) ≡ b ∷ []
one f keeps b l = high-first f keeps b [] [] l refl

two : (f : ℕ → List ℕ) → KeepsHigh f → (a b : ℕ) → 0x80 ≤ a → 0x80 ≤ b
    → flat_map f (a ∷ b ∷ []) ≡ a ∷ b ∷ []
two f keeps a b k l = high-first f keeps a (b ∷ []) (b ∷ []) k (one f keeps b l)

three : (f : ℕ → List ℕ) → KeepsHigh f → (a b c : ℕ) → 0x80 ≤ a → 0x80 ≤ b → 0x80 ≤ c
    → flat_map f (a ∷ b ∷ c ∷ []) ≡ a ∷ b ∷ c ∷ []
three f keeps a b c k l m = high-first f keeps a (b ∷ c ∷ []) (b ∷ c ∷ []) k (two f keeps b c l m)

four : (f : ℕ → List ℕ) → KeepsHigh f → (a b c d : ℕ) → 0x80 ≤ a → 0x80 ≤ b → 0x80 ≤ c
    → 0x80 ≤ d
    → flat_map f (a ∷ b ∷ c ∷ d ∷ []) ≡ a ∷ b ∷ c ∷ d ∷ []
four f keeps a b c d k l m n =
    high-first f keeps a (b ∷ c ∷ d ∷ []) (b ∷ c ∷ d ∷ []) k (three f keeps b c d l m n)

-- a character that isn't ASCII is written by itself
wide : (f : ℕ → List ℕ) → KeepsHigh f → (c : ℕ) → 0x80 ≤ c → flat_map f (encode c) ≡ encode c
wide f keeps c l =
    let low : ltb c 0x80 ≡ false = grind (arith, nat_tests) in
    test (ltb c 0x800)
    (λ y. rw (encode-two c low y) (two f keeps (192 + c / 64) (128 + c % 64) (omega arith) (omega arith)))
    (λ m. test (ltb c 0x1_0000)
    (λ y. rw (encode-three c low m y)
    (three f keeps (224 + c / 4096) (128 + c / 64 % 64) (128 + c % 64) (omega arith) (omega arith) (omega arith)))
    (λ o. rw (encode-four c low m o)
    (four f keeps (240 + c / 262144) (128 + c / 4096 % 64) (128 + c / 64 % 64) (128 + c % 64) (omega arith)
    (omega arith) (omega arith) (omega arith))))

encoded-by : (f : ℕ → List ℕ) → KeepsHigh f → (c : ℕ)
    → flat_map f (encode c) ≡ (if ltb c 0x80 then f c else encode c)
encoded-by f keeps c = elim (cases_lt c 0x80) [
  | inl l ↦
      let y : ltb c 0x80 ≡ true = grind (arith, nat_tests) in
      rw y (ap (flat_map f) (encode_ascii c l) ∙ append-nil (f c))
  | inr l ↦ let low : ltb c 0x80 ≡ false = grind (arith, nat_tests) in rw low (wide f keeps c l)
]

-- what is written for a character
pub encoded : (c : ℕ) → escaped_value (encode c) ≡ in_value_char c
encoded c = encoded-by in_value high-value c

pub text-encoded : (c : ℕ) → escaped_text (encode c) ≡ in_text_char c
text-encoded c = encoded-by in_text high-text c

-- one more character, of which this is written
turn : (f : ℕ → List ℕ) (out new rest after total : List ℕ) (c : ℕ) (t : List ℕ)
    → flat_map f (encode c) ≡ t
    → new ≡ out ++ t → rest ≡ encode c ++ after → out ++ flat_map f rest ≡ total
    → new ++ flat_map f after ≡ total
turn f out new rest after total c t is e g h =
    let split : flat_map f rest ≡ t ++ flat_map f after =
    ap (flat_map f) g ∙ flat_map-append f (encode c) after ∙ ap (λ x. x ++ flat_map f after) is in
    ap (λ x. x ++ flat_map f after) e
    ∙ (append_assoc out t (flat_map f after) ∙ (ap (λ x. out ++ x) (sym split) ∙ h))

pub value-turn : (out new rest after total : List ℕ) (c : ℕ) → new ≡ out ++ in_value_char c
    → rest ≡ encode c ++ after → out ++ escaped_value rest ≡ total → new ++ escaped_value after ≡ total
value-turn out new rest after total c e f h =
    turn in_value out new rest after total c (in_value_char c) (encoded c) e f h

pub text-turn : (out new rest after total : List ℕ) (c : ℕ) → new ≡ out ++ in_text_char c
    → rest ≡ encode c ++ after → out ++ escaped_text rest ≡ total → new ++ escaped_text after ≡ total
text-turn out new rest after total c e f h =
    turn in_text out new rest after total c (in_text_char c) (text-encoded c) e f h

-- ---- attributes, one by one

-- with those to come, all are written
pub attributes-turn : {A B : Type 0} (f : B → List ℕ) (g : A → B) (xs : List A) (i : ℕ) (x : A)
    (out new total : List ℕ) → i < length xs → x ≡ get_or xs i x → new ≡ out ++ f (g x)
    → out ++ flat_map f (map g (drop i xs)) ≡ total → new ++ flat_map f (map g (drop (i + 1) xs)) ≡ total
attributes-turn f g xs i x out new total within is e h =
    let split : drop i xs ≡ x ∷ drop (i + 1) xs =
    drop_more xs i x within ∙ ap (λ y. y ∷ drop (i + 1) xs) (sym is) in
    ap (λ s. s ++ flat_map f (map g (drop (i + 1) xs))) e
    ∙ append_assoc out (f (g x)) (flat_map f (map g (drop (i + 1) xs)))
    ∙ ap (λ ys. out ++ flat_map f (map g ys)) (sym split) ∙ h

pub attributes-end : {A B : Type 0} (f : B → List ℕ) (g : A → B) (xs : List A) (i : ℕ) (out total : List ℕ)
    → length xs ≤ i → out ++ flat_map f (map g (drop i xs)) ≡ total → out ≡ total
attributes-end f g xs i out total past h =
    sym (append-nil out) ∙ ap (λ ys. out ++ flat_map f (map g ys)) (sym (drop_all i xs past)) ∙ h
