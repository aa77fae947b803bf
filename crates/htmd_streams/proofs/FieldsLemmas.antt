-- Fields, escape by escape.
use Rattle.std.proofs.Common.{◌≡◌, ◌∙◌, sym, ap, refl, ℕ, zero, suc, ◌+◌, ◌-◌, ◌*◌, ◌%◌, ◌<◌, ◌≤◌, ◌==◌}
use Rattle.std.proofs.Common.{Bool, true, false, append-nil, if◌then◌else◌, List, [], ◌∷◌, ◌++◌, length, take, drop}
use Rattle.std.proofs.Common.{get_or, arith, append_assoc}
use Rattle.std.proofs.lemmas.List.{drop_more, drop_all, take_all, take_more, take_rest}
use Rattle.std.proofs.lemmas.Bool.{lt-ltb, le-ltb}
use Rattle.std.specs.Prelude.{nat_lt}
use Rattle.htmd_lexical.specs.Characters.{backslash}
use Rattle.htmd_streams.specs.Fields.{digit_value, digits, number_behind, escaped, escape_length}
use Rattle.htmd_streams.specs.Fields.{read_behind, read_field, written_byte, written_field}
use Rattle.htmd_streams.specs.Lines.{lacks}
use Rattle.htmd_streams.proofs.LinesLemmas.{unless}

-- ---- digits

-- one digit more
pub number-more : (v base most : ℕ) (s : List ℕ) (i b d digit whole : ℕ) → i < most → i < length s
    → digit ≡ digit_value (get_or s i 0) → digit < base → b ≡ base → d ≡ digit
    → number_behind v base (most - i) (drop i s) ≡ whole
    → number_behind ((v * b + d) % 256) base (most - (i + 1)) (drop (i + 1) s) ≡ whole
number-more v base most s i b d digit whole l some e t f g h =
    let left : most - i ≡ suc (most - (i + 1)) = omega arith in
    let test : nat_lt (digit_value (get_or s i 0)) base ≡ true = rw (← e) (lt-ltb digit base t) in
    let more : number_behind v base (most - i) (drop i s)
    ≡ number_behind ((v * b + d) % 256) base (most - (i + 1)) (drop (i + 1) s) =
    rw (left, drop_more s i 0 some, test, f, g, e) refl in
    sym more ∙ h

pub digits-more : (base most : ℕ) (s : List ℕ) (i digit whole : ℕ) → i < most → i < length s
    → digit ≡ digit_value (get_or s i 0) → digit < base → i + digits base (most - i) (drop i s) ≡ whole
    → i + 1 + digits base (most - (i + 1)) (drop (i + 1) s) ≡ whole
digits-more base most s i digit whole l some e t h =
    let left : most - i ≡ suc (most - (i + 1)) = omega arith in
    let test : nat_lt (digit_value (get_or s i 0)) base ≡ true = rw (← e) (lt-ltb digit base t) in
    let more : digits base (most - i) (drop i s) ≡ suc (digits base (most - (i + 1)) (drop (i + 1) s)) =
    rw (left, drop_more s i 0 some, test) refl in
    omega arith

-- no digit more
pub number-ends : (v base n : ℕ) (s : List ℕ) (i digit : ℕ) → i < length s
    → digit ≡ digit_value (get_or s i 0) → base ≤ digit → number_behind v base n (drop i s) ≡ v
number-ends v base zero s i digit l e d = refl
number-ends v base (suc n) s i digit l e d =
    let test : nat_lt (digit_value (get_or s i 0)) base ≡ false = rw (← e) (le-ltb digit base d) in
    rw (drop_more s i 0 l, test) refl

pub digits-ends : (base n : ℕ) (s : List ℕ) (i digit : ℕ) → i < length s
    → digit ≡ digit_value (get_or s i 0) → base ≤ digit → digits base n (drop i s) ≡ 0
digits-ends base zero s i digit l e d = refl
digits-ends base (suc n) s i digit l e d =
    let test : nat_lt (digit_value (get_or s i 0)) base ≡ false = rw (← e) (le-ltb digit base d) in
    rw (drop_more s i 0 l, test) refl

pub number-most : (v base n : ℕ) (s : List ℕ) → n ≡ 0 → number_behind v base n s ≡ v
number-most v base zero s e = refl
number-most v base (suc n) s e = absurd (omega arith)

pub digits-most : (base n : ℕ) (s : List ℕ) → n ≡ 0 → digits base n s ≡ 0
digits-most base zero s e = refl
digits-most base (suc n) s e = absurd (omega arith)

number-nil : (v base n : ℕ) → number_behind v base n [] ≡ v
number-nil v base zero = refl
number-nil v base (suc n) = refl

digits-nil : (base n : ℕ) → digits base n [] ≡ 0
digits-nil base zero = refl
digits-nil base (suc n) = refl

pub number-out : (v base n : ℕ) (s : List ℕ) (i : ℕ) → length s ≤ i
    → number_behind v base n (drop i s) ≡ v
number-out v base n s i l = rw (drop_all i s l) (number-nil v base n)

pub digits-out : (base n : ℕ) (s : List ℕ) (i : ℕ) → length s ≤ i → digits base n (drop i s) ≡ 0
digits-out base n s i l = rw (drop_all i s l) (digits-nil base n)

within : (t : Bool) (n m : ℕ) → n ≤ m → (if t then suc n else 0) ≤ suc m
within true n m l = omega arith
within false n m l = omega arith

pub digits-within : (base n : ℕ) (s : List ℕ) → digits base n s ≤ length s
digits-within base zero s = omega arith
digits-within base (suc n) [] = omega arith
digits-within base (suc n) (b ∷ s) =
    within (nat_lt (digit_value b) base) (digits base n s) (length s) (digits-within base n s)

-- ---- what is read

read_behind-drop : (n : ℕ) (s : List ℕ) → read_behind n s ≡ read_behind 0 (drop n s)
read_behind-drop zero s = refl
read_behind-drop (suc n) [] = refl
read_behind-drop (suc n) (b ∷ s) = read_behind-drop n s

-- bytes without a backslash stand for themselves
pub read-plain : (f s : List ℕ) → lacks backslash f ≡ true → read_field (f ++ s) ≡ f ++ read_field s
read-plain [] s p = refl
read-plain (b ∷ f) s p =
    unless (b == backslash) (lacks backslash f) _ _ _ p (λ e. ap (λ t. b ∷ t) (read-plain f s e))

read-whole : (f : List ℕ) → lacks backslash f ≡ true → read_field f ≡ f
read-whole [] p = refl
read-whole (b ∷ f) p = unless (b == backslash) (lacks backslash f) _ _ _ p (λ e. ap (λ t. b ∷ t) (read-whole f e))

-- an escape, and what follows it
pub read-escape : (s : List ℕ)
    → read_field (backslash ∷ s) ≡ escaped s ∷ read_field (drop (escape_length s) s)
read-escape s = ap (λ t. escaped s ∷ t) (read_behind-drop (escape_length s) s)

-- a page with the bytes before the next escape, and with that one
read-on : (page front behind : List ℕ) → lacks backslash front ≡ true
    → page ++ read_field (front ++ backslash ∷ behind)
    ≡ ((page ++ front) ++ escaped behind ∷ []) ++ read_field (drop (escape_length behind) behind)
read-on page front behind p =
    ap (λ t. page ++ t) (read-plain front (backslash ∷ behind) p ∙ ap (λ t. front ++ t) (read-escape behind))
    ∙ (sym (append_assoc page front (escaped behind ∷ read_field (drop (escape_length behind) behind)))
    ∙ sym (append_assoc (page ++ front) (escaped behind ∷ []) (read_field (drop (escape_length behind) behind))))

pub read-step : (page page1 page2 front behind rest whole : List ℕ) (byte n : ℕ)
    → (lacks backslash front ≡ true) × (rest ≡ front ++ backslash ∷ behind) → byte ≡ escaped behind
    → n ≡ escape_length behind → page1 ≡ page ++ front → page2 ≡ page1 ++ byte ∷ []
    → page ++ read_field rest ≡ whole
    → page2 ++ read_field (take (length behind - n) (drop n behind)) ≡ whole
read-step page page1 page2 front behind rest whole byte n found b l p q h =
    let so_far : page2 ≡ (page ++ front) ++ escaped behind ∷ [] =
    q ∙ (ap (λ t. t ++ byte ∷ []) p ∙ ap (λ t. (page ++ front) ++ t ∷ []) b) in
    let left : take (length behind - n) (drop n behind) ≡ drop (escape_length behind) behind =
    take_rest behind n ∙ ap (λ k. drop k behind) l in
    ap (λ t. page2 ++ read_field t) left
    ∙ (ap (λ t. t ++ read_field (drop (escape_length behind) behind)) so_far
    ∙ (sym (read-on page front behind found.0) ∙ (ap (λ t. page ++ read_field t) (sym found.1) ∙ h)))

-- a page with all that is left, if that has no escape
pub read-end : (page page1 rest whole : List ℕ) → lacks backslash rest ≡ true → page1 ≡ page ++ rest
    → page ++ read_field rest ≡ whole → page1 ≡ whole
read-end page page1 rest whole p e h = e ∙ (ap (λ t. page ++ t) (sym (read-whole rest p)) ∙ h)

-- ---- what is written

-- one byte more that isn't escaped
pub written-plain : (text : List ℕ) (place : ℕ) → place < length text
    → written_byte (get_or text place 0) ≡ get_or text place 0 ∷ []
    → written_field text ≡ take place text ++ written_field (drop place text)
    → written_field text ≡ take (place + 1) text ++ written_field (drop (place + 1) text)
written-plain text place l e h =
    let rest = drop (place + 1) text in
    h ∙ (ap (λ t. take place text ++ written_field t) (drop_more text place 0 l)
    ∙ (ap (λ t. take place text ++ (t ++ written_field rest)) e
    ∙ (sym (append_assoc (take place text) (get_or text place 0 ∷ []) (written_field rest))
    ∙ sym (ap (λ t. t ++ written_field rest) (take_more text place 0 l)))))

-- a byte that is
pub written-escape : (text escape : List ℕ) (place : ℕ) → place < length text
    → written_byte (get_or text place 0) ≡ escape
    → written_field text ≡ take place text ++ written_field (drop place text)
    → written_field text
    ≡ take place text ++ (escape ++ written_field (take (length text - (place + 1)) (drop (place + 1) text)))
written-escape text escape place l e h =
    h ∙ (ap (λ t. take place text ++ written_field t) (drop_more text place 0 l)
    ∙ (ap (λ t. take place text ++ (t ++ written_field (drop (place + 1) text))) e
    ∙ ap (λ t. take place text ++ (escape ++ written_field t)) (sym (take_rest text (place + 1)))))

-- no byte is escaped
pub written-whole : (text : List ℕ) (place : ℕ) → length text ≤ place
    → written_field text ≡ take place text ++ written_field (drop place text) → written_field text ≡ text
written-whole text place l h =
    h ∙ (ap (λ t. take place text ++ written_field t) (drop_all place text l)
    ∙ (append-nil (take place text) ∙ take_all place text l))

-- a row with what comes before the next escape, and with that one
pub written-step : (row row1 row2 plain escape behind rest whole : List ℕ)
    → written_field rest ≡ plain ++ (escape ++ written_field behind)
    → row1 ≡ row ++ plain → row2 ≡ row1 ++ escape → row ++ written_field rest ≡ whole
    → row2 ++ written_field behind ≡ whole
written-step row row1 row2 plain escape behind rest whole e p q h =
    ap (λ t. t ++ written_field behind) (q ∙ ap (λ t. t ++ escape) p)
    ∙ (append_assoc (row ++ plain) escape (written_field behind)
    ∙ (append_assoc row plain (escape ++ written_field behind) ∙ (ap (λ t. row ++ t) (sym e) ∙ h)))

-- a row with all that is left
pub written-end : (row row1 rest whole : List ℕ) → written_field rest ≡ rest → row1 ≡ row ++ rest
    → row ++ written_field rest ≡ whole → row1 ≡ whole
written-end row row1 rest whole e p h = p ∙ (ap (λ t. row ++ t) (sym e) ∙ h)
