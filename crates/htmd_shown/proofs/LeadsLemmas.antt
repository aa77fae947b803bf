-- An address leads to a part of the page where its text, without what is at its ends, begins so.
use Rattle.std.proofs.Common.{◌≡◌, ℕ, zero, suc, ◌+◌, ◌≤◌, ◌==◌, Bool, true, false, cond, List, [], ◌∷◌, ◌++◌, ◌||◌, length}
use Rattle.std.proofs.Common.{take, drop, filter, encode_utf8_all, refl, sym, ap, ◌∙◌, arith, rules}
use Rattle.std.specs.Char.{encode_utf8, len_utf8}
use Rattle.std.specs.List.{list_any, prefix_len}
use Rattle.std.specs.Str.{chars, IsUtf8}
use Rattle.std.proofs.lemmas.Bool.Decides.{nat_tests}
use Rattle.std.proofs.lemmas.Str.{encodes-chars, length-encode}
use Rattle.htmd_lexical.specs.Characters.{null, tab, line_feed, carriage_return}
use Rattle.htmd_lexical.proofs.Cases.{test}
use Rattle.htmd_text.specs.Trims.{trimmed_start, trimmed_text}
use Rattle.htmd_shown.specs.Attributes.{address, is_in_address, is_space_or_control, is_to_part}
use Rattle.htmd_shown.proofs.ShownTextsLemmas.{none-of-both}

-- what is left begins with nothing that was cut
stops : (p : ℕ → Bool) (s : List ℕ) (b : ℕ) (rest : List ℕ) → trimmed_start p s ≡ b ∷ rest
    → p b ≡ false
stops p [] b rest e = cc
stops p (c ∷ s) b rest e = test (p c)
    (λ h. stops p s b rest (ap (λ n. drop n (c ∷ s)) (sym (one_more (prefix_len p s)))
    ∙ ap (λ x. drop (cond x (1 + prefix_len p s) 0) (c ∷ s)) (sym h) ∙ e))
    (λ h.
    let f : c ∷ s ≡ b ∷ rest = ap (λ x. drop (cond x (1 + prefix_len p s) 0) (c ∷ s)) (sym h) ∙ e in
    let g : c ≡ b = cc in
    ap p (sym g) ∙ h)
  where
    one_more : (n : ℕ) → 1 + n ≡ suc n
    one_more n = omega arith

front : (p : ℕ → Bool) (n : ℕ) (s : List ℕ) (b : ℕ) (rest : List ℕ) → take n s ≡ b ∷ rest
    → ((x : ℕ) (xs : List ℕ) → s ≡ x ∷ xs → p x ≡ false) → p b ≡ false
front p zero s b rest e h = cc
front p (suc n) [] b rest e h = cc
front p (suc n) (c ∷ s) b rest e h = let g : c ≡ b = cc in ap p (sym g) ∙ h c s refl

first_kept : (p : ℕ → Bool) (s : List ℕ) (b : ℕ) (rest : List ℕ) → trimmed_text p s ≡ b ∷ rest
    → p b ≡ false
first_kept p s b rest e = front p _ (trimmed_start p s) b rest e (stops p s)

begins : (es xs ys : List ℕ) → 1 ≤ length es → is_to_part (es ++ xs) ≡ is_to_part (es ++ ys)
begins [] xs ys l = absurd (omega arith)
begins (e ∷ es) xs ys l = refl

some_bytes : (c : ℕ) → 1 ≤ length (encode_utf8 c)
some_bytes c = let e = length-encode c in let h : 1 ≤ len_utf8 c = (search rules) in omega (arith, e, h)

-- a control is one byte, which was cut
no_control : (v c : ℕ) (t rest : List ℕ) → encode_utf8 v ≡ v ∷ [] → is_space_or_control v ≡ true
    → t ≡ encode_utf8 c ++ rest
    → ((b : ℕ) (xs : List ℕ) → t ≡ b ∷ xs → is_space_or_control b ≡ false)
    → (c == v) ≡ false
no_control v c t rest one control e h = test (c == v)
    (λ f.
    let same : c ≡ v = grind (arith, nat_tests, f) in
    let begun : t ≡ v ∷ rest = e ∙ ap (λ x. encode_utf8 x ++ rest) same ∙ ap (λ x. x ++ rest) one in
    let no : true ≡ false = sym control ∙ h v rest begun in
    cc)
    (λ f. f)

null-one : encode_utf8 null ≡ null ∷ []
unfolding encode_utf8
null-one = refl

tab-one : encode_utf8 tab ≡ tab ∷ []
unfolding encode_utf8
tab-one = refl

feed-one : encode_utf8 line_feed ≡ line_feed ∷ []
unfolding encode_utf8
feed-one = refl

return-one : encode_utf8 carriage_return ≡ carriage_return ∷ []
unfolding encode_utf8
return-one = refl

kept : (c : ℕ) (t rest : List ℕ) → t ≡ encode_utf8 c ++ rest
    → ((b : ℕ) (xs : List ℕ) → t ≡ b ∷ xs → is_space_or_control b ≡ false) → is_in_address c ≡ true
kept c t rest e h = rw (
  no_control null c t rest null-one refl e h,
  no_control tab c t rest tab-one refl e h,
  no_control line_feed c t rest feed-one refl e h,
  no_control carriage_return c t rest return-one refl e h,
) refl

same_part : (t cs : List ℕ) → encode_utf8_all cs ≡ t
    → ((b : ℕ) (xs : List ℕ) → t ≡ b ∷ xs → is_space_or_control b ≡ false)
    → is_to_part t ≡ is_to_part (encode_utf8_all (filter is_in_address cs))
same_part t [] e h = ap is_to_part (sym e)
same_part t (c ∷ cs) e h =
    let rest = encode_utf8_all cs in
    let others = filter is_in_address cs in
    ap is_to_part (sym e)
    ∙ begins (encode_utf8 c) rest (encode_utf8_all others) (some_bytes c)
    ∙ ap (λ b. is_to_part (encode_utf8_all (cond b (c ∷ others) others))) (sym (kept c t rest (sym e) h))

pub leads_there : (s t : List ℕ) → t ≡ trimmed_text is_space_or_control s → IsUtf8 t
    → is_to_part t ≡ is_to_part (address s)
leads_there s t e u =
    same_part t (chars t) (encodes-chars t u)
    (λ b xs f. first_kept is_space_or_control s b xs (sym e ∙ f))
    ∙ ap (λ x. is_to_part (encode_utf8_all (filter is_in_address (chars x)))) e

-- a text without spaces and controls stays whole
neither : (a b : Bool) → (a || b) ≡ false → (a ≡ false) × (b ≡ false)
neither true b h = cc
neither false b h = (refl, h)

first_no_control : (t : List ℕ) → list_any is_space_or_control t ≡ false → (b : ℕ) (xs : List ℕ)
    → t ≡ b ∷ xs
    → is_space_or_control b ≡ false
first_no_control [] h b xs e = cc
first_no_control (a ∷ s) h b xs e =
    let same : a ≡ b = cc in
    ap is_space_or_control (sym same) ∙ (neither (is_space_or_control a) (list_any is_space_or_control s) h).0

all_in_address : (cs : List ℕ) → list_any is_space_or_control (encode_utf8_all cs) ≡ false
    → filter is_in_address cs ≡ cs
all_in_address [] h = refl
all_in_address (c ∷ cs) h =
    let rest : List ℕ = encode_utf8_all cs in
    let parts = none-of-both is_space_or_control (encode_utf8 c) rest h in
    ap (λ b. cond b (c ∷ filter is_in_address cs) (filter is_in_address cs))
    (kept c (encode_utf8 c ++ rest) rest refl (first_no_control (encode_utf8 c ++ rest) h))
    ∙ ap (λ xs. c ∷ xs) (all_in_address cs parts.1)

pub address_whole : (s t : List ℕ) → t ≡ trimmed_text is_space_or_control s → IsUtf8 t
    → list_any is_space_or_control t ≡ false → t ≡ address s
address_whole s t e u h =
    sym (ap encode_utf8_all (all_in_address (chars t) (ap (list_any is_space_or_control) (encodes-chars t u) ∙ h))
    ∙ encodes-chars t u)
    ∙ ap (λ x. encode_utf8_all (filter is_in_address (chars x))) e
