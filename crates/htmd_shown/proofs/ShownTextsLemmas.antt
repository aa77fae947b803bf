-- Lemmas on the texts that show.
use Rattle.std.proofs.Common.{◌≡◌, ℕ, suc, ◌<◌, Bool, true, false, cond, List, [], ◌∷◌, ◌++◌, ◌||◌, ◌==◌, length}
use Rattle.std.proofs.Common.{MatchBool}
use Rattle.std.proofs.Common.{refl, sym, subst, ◌∙◌, ap, filter, encode_utf8_all, HoldsAt, arith}
use Rattle.std.specs.List.{AllWithin, list_any}
use Rattle.std.specs.Str.{chars, IsUtf8}
use Rattle.std.specs.Char.{encode_utf8}
use Rattle.std.proofs.lemmas.List.Elements.{filter-append}
use Rattle.std.proofs.lemmas.List.{append-nil}
use Rattle.std.proofs.lemmas.Str.{encodes-append, encodes-chars}
use Rattle.std.proofs.lemmas.Bool.Decides.{nat_tests}
use Rattle.htmd_lexical.specs.Characters.{null}
use Rattle.htmd_lexical.proofs.Cases.{test}
use Rattle.htmd_shown.specs.ShownTexts.{is_shown, shown_text, byte_order_mark}
use Rattle.htmd_shown.specs.TextViews.{is_unshown_byte}

-- one more character that shows
pub shown-push : (cs : List ℕ) (c : ℕ) (before after : List ℕ) → true ≡ is_shown c
    → after ≡ before ++ encode_utf8 c
    → before ≡ encode_utf8_all (filter is_shown cs) → after ≡ encode_utf8_all (filter is_shown (cs ++ c ∷ []))
shown-push cs c before after h e p =
    let one : filter is_shown (c ∷ []) ≡ c ∷ [] = ap (λ b. cond b (c ∷ []) []) (sym h) in
    let more : encode_utf8_all (filter is_shown (cs ++ c ∷ []))
    ≡ encode_utf8_all (filter is_shown cs) ++ encode_utf8
    c =
    ap encode_utf8_all (filter-append is_shown cs (c ∷ []) ∙ ap (λ xs. filter is_shown cs ++ xs) one)
    ∙ (encodes-append (filter is_shown cs) (c ∷ []) ∙ ap (λ xs. encode_utf8_all (filter is_shown cs) ++ xs)
    (append-nil (encode_utf8 c))) in
    e ∙ (ap (λ xs. xs ++ encode_utf8 c) p ∙ sym more)

filter-whole : (cs : List ℕ) → AllWithin (λ c. is_shown c ≡ true) cs 0 (length cs) → filter is_shown cs ≡ cs
filter-whole [] all = refl
filter-whole (c ∷ cs) all =
    ap (λ b. cond b (c ∷ filter is_shown cs) (filter is_shown cs)) (all 0 0 (omega arith) (omega arith))
    ∙ ap (λ xs. c ∷ xs) (filter-whole cs (λ k d low high. all (suc k) d (omega arith) (omega arith)))

pub shown-all : (s : List ℕ) (r : Bool) → IsUtf8 s
    → MatchBool r (AllWithin (λ c. is_shown c ≡ true) (chars s) 0 (length (chars s)))
    ((k : ℕ) × (k < length (chars s)) × HoldsAt (λ c. is_shown c ≡ false) (chars s) k)
    → r ≡ true → shown_text s ≡ s
shown-all s true text all h = ap encode_utf8_all (filter-whole (chars s) all) ∙ encodes-chars s text
shown-all s false text all h = cc

-- ---- bytes that tell

neither : (a b : Bool) → (a || b) ≡ false → (a ≡ false) × (b ≡ false)
neither true b h = cc
neither false b h = (refl, h)

either-false : (a b : Bool) → a ≡ false → b ≡ false → (a || b) ≡ false
either-false true b e h = cc
either-false false b e h = h

-- a test that no byte of two texts passes
pub none-of-both : (p : ℕ → Bool) (s t : List ℕ) → list_any p (s ++ t) ≡ false
    → (list_any p s ≡ false) × (list_any p t ≡ false)
none-of-both p [] t h = (refl, h)
none-of-both p (b ∷ s) t h =
    let parts = neither (p b) (list_any p (s ++ t)) h in
    let rest = none-of-both p s t parts.1 in
    (either-false (p b) (list_any p s) parts.0 rest.0, rest.1)

null-told : list_any is_unshown_byte (encode_utf8 null) ≡ true
unfolding encode_utf8
null-told = refl

wrapper-told : list_any is_unshown_byte (encode_utf8 byte_order_mark) ≡ true
unfolding encode_utf8
wrapper-told = refl

shown-character : (c : ℕ) → list_any is_unshown_byte (encode_utf8 c) ≡ false → is_shown c ≡ true
shown-character c h = test (c == null)
    (λ e.
    let same : c ≡ null = grind (arith, nat_tests, e) in
    let no : true ≡ false =
    sym null-told ∙ subst (λ (x : ℕ). list_any is_unshown_byte (encode_utf8 x) ≡ false) same h in
    cc)
    (λ e. test (c == byte_order_mark)
    (λ f.
    let same : c ≡ byte_order_mark = grind (arith, nat_tests, f) in
    let no : true ≡ false =
    sym wrapper-told ∙ subst (λ (x : ℕ). list_any is_unshown_byte (encode_utf8 x) ≡ false) same h in
    cc)
    (λ f. rw (e, f) refl))

filter-shown : (cs : List ℕ) → list_any is_unshown_byte (encode_utf8_all cs) ≡ false → filter is_shown cs ≡ cs
filter-shown [] h = refl
filter-shown (c ∷ cs) h =
    let parts = none-of-both is_unshown_byte (encode_utf8 c) (encode_utf8_all cs) h in
    ap (λ b. cond b (c ∷ filter is_shown cs) (filter is_shown cs)) (shown-character c parts.0)
    ∙ ap (λ xs. c ∷ xs) (filter-shown cs parts.1)

-- all of a text shows that has none of the bytes of what doesn't
pub shown-bytes : (s : List ℕ) → IsUtf8 s → list_any is_unshown_byte s ≡ false → shown_text s ≡ s
shown-bytes s text h =
    ap encode_utf8_all (filter-shown (chars s) (ap (list_any is_unshown_byte) (encodes-chars s text) ∙ h))
    ∙ encodes-chars s text
