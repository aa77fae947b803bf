-- The markers of items begin items.
use Rattle.std.proofs.Common.{◌≡◌, ◌∙◌, refl, ap, ℕ, zero, suc, ◌≤◌, Bool, true, false, List, [], ◌∷◌, ◌+◌, ◌++◌}
use Rattle.std.proofs.Common.{length, drop, length-append, append_assoc, arith}
use Rattle.std.proofs.lemmas.Bool.Decides.{nat_tests}
use Rattle.std.specs.Prelude.{◌&&◌, ◌==◌, nat_le, if◌then◌else◌, codes, Option, Some, None}
use Rattle.std.specs.List.{list_all}
use Rattle.std.specs.Char.{is_ascii_digit}
use Rattle.htmd_lexical.specs.Characters.{greater_than_sign, is_one_of}
use Rattle.htmd_lexical.specs.CharacterClasses.{leading_run, behind_run}
use Rattle.htmd_lexical.specs.Numbers.{number}
use Rattle.htmd_commonmark_reading.specs.Characters.{is_space_or_tab, stripped, stripped_end}
use Rattle.htmd_commonmark_reading.specs.Lines.{Line, line, is_blank, is_blank_text, cut_at, cut, indent, spaces, marks}
use Rattle.htmd_commonmark_reading.specs.Lines.{after_marker}
use Rattle.htmd_commonmark_reading.specs.Boxes.{listing, no_closed_blocks, nothing, within}
use Rattle.htmd_commonmark_reading.specs.BlockStarts.{After, alone, under, lazy, Start, no_start, first_line, started}
use Rattle.htmd_commonmark_reading.specs.BlockStarts.{started_by, is_same, is_rule, fresh, padding, behind_padding}
use Rattle.htmd_commonmark_reading.specs.BlockStarts.{may_begin, item_start, unless_rule, if_numbered, digits}
use Rattle.htmd_commonmark_reading.specs.BlockStarts.{number_of, delimiter, digit, sign}
use Rattle.htmd_commonmark_reading.specs.LeafBlocks.{underline, underline_of}
use Rattle.htmd_law_blocks.specs.LineTexts.{IsBlack, IsNotOf}
use Rattle.htmd_law_blocks.proofs.LinesLemmas.{not_blank, black_indent, spaces_blank, spaces_marks, spaces_indent}
use Rattle.htmd_law_blocks.proofs.LinesLemmas.{spaces_cut, steps}
use Rattle.htmd_law_blocks.proofs.EndsLemmas.{stripped_black, not_all}
use Rattle.htmd_law_blocks.proofs.PiecesLemmas.{Marker, columns, Allowed, IsNotUnder, IsMarker}

-- ---- what follows a marker

may_begin_filled : (a : After) (number : Option ℕ) (x : Line) → is_blank x ≡ false → Allowed a number
    → may_begin a number x ≡ true
may_begin_filled alone None x e h = refl
may_begin_filled lazy None x e h = refl
may_begin_filled under None x e h = rw e refl
may_begin_filled alone (Some n) x e h = refl
may_begin_filled lazy (Some n) x e h = refl
may_begin_filled under (Some n) x e h = rw (e, h) refl

spaces_padding : (n j : ℕ) (l : List ℕ) → n ≤ 3 → IsBlack l → padding (line j (spaces (suc n) l)) ≡ suc n
spaces_padding n j l w h =
    let b : is_blank_text (spaces n l) ≡ false = spaces_blank n l ∙ not_blank l h in
    let f : nat_le (suc n) 4 ≡ true = grind (arith, nat_tests) in
    rw (b, spaces_indent n (suc j) l h, f) refl

pub item_started : (a : After) (c : ℕ) (number : Option ℕ) (before n j : ℕ) (l : List ℕ) (s : Start) → n ≤ 3
    → IsBlack l → Allowed a number
    → item_start a c number before (line j (spaces (suc n) l)) s
    ≡ first_line (fresh (listing c number (before + suc n)) (line (steps (suc n) j) l) s)
item_started a c number before n j l s w h q =
    let x = line j (spaces (suc n) l) in
    let b : is_blank x ≡ false = spaces_blank (suc n) l ∙ not_blank l h in
    let p = spaces_padding n j l w h in
    let m = may_begin_filled a number x b q in
    let e : behind_padding x ≡ line (steps (suc n) j) l =
    ap (λ (i : ℕ). cut_at j i (spaces (suc n) l)) p ∙ spaces_cut (suc n) j l in
    rw (m, p) (ap (λ (y : Line). first_line (fresh (listing c number (before + suc n)) y s)) (spaces_cut (suc n) j l))

may_begin_empty : (a : After) (number : Option ℕ) (x : Line) → IsNotUnder a → may_begin a number x ≡ true
may_begin_empty alone None x h = refl
may_begin_empty lazy None x h = refl
may_begin_empty under number x h = absurd h
may_begin_empty alone (Some n) x h = refl
may_begin_empty lazy (Some n) x h = refl

empty_started : (a : After) (c : ℕ) (number : Option ℕ) (before j : ℕ) (s : Start) → IsNotUnder a
    → item_start a c number before (line j []) s ≡ first_line
    (within (listing c number (before + 1)) no_closed_blocks false nothing)
empty_started a c number before j s h = rw (may_begin_empty a number (line j []) h) refl

-- ---- bullets

abbrev pub bullet_marker : ℕ → Marker
bullet_marker c = record { text = c ∷ []; sign = c; number = None }

abbrev IsBulletSign : ℕ → Type 0
IsBulletSign c = (a : After) (k : ℕ) (t : List ℕ)
    → started a (line k (c ∷ t))
    ≡ unless_rule c (c ∷ t) (item_start a c None 1 (line (k + 1) t)
    (started_by (marks t) zero alone (behind_padding (line (k + 1) t))))

asterisk_sign : IsBulletSign 42
asterisk_sign a k t = refl

hyphen_sign : IsBulletSign 45
hyphen_sign a k t = refl

is_itself : (c : ℕ) → is_same c c ≡ true
is_itself c = grind (arith, nat_tests)

no_rule : (c n : ℕ) (l : List ℕ) → is_space_or_tab c ≡ false → IsNotOf c l → is_rule c
    (c ∷ spaces n l) ≡ false
no_rule c n l b q = rw (b, spaces_marks n l) (rw (is_itself c) (rw q refl))

unless_no_rule : (c : ℕ) (s : List ℕ) (x : Start) → is_rule c s ≡ false → unless_rule c s x ≡ x
unless_no_rule c s x e = rw e refl

marker_filled : (c : ℕ) → IsBulletSign c → is_space_or_tab c ≡ false → (a : After) (k n : ℕ) (l : List ℕ)
    → n ≤ 3
    → IsBlack l → IsNotOf c l
    → started a (line k (c ∷ spaces (suc n) l))
    ≡ first_line (fresh (listing c None (columns (bullet_marker c) n)) (line (steps (suc n) (k + 1)) l)
    (started alone (line (steps (suc n) (k + 1)) l)))
marker_filled c i b a k n l w h q =
    let t = spaces (suc n) l in
    let j = k + 1 in
    let y = line (steps (suc n) j) l in
    let s = started_by (marks t) zero alone (behind_padding (line j t)) in
    let p : behind_padding (line j t) ≡ y =
    ap (λ (m : ℕ). cut_at j m t) (spaces_padding n j l w h) ∙ spaces_cut (suc n) j l in
    let e : 1 + suc n ≡ suc (1 + n) = omega arith in
    i a k t ∙ unless_no_rule c (c ∷ t) (item_start a c None 1 (line j t) s) (no_rule c (suc n) l b q)
    ∙ item_started a c None 1 n j l s w h (allowed a)
    ∙ ap (λ (m : ℕ). first_line (fresh (listing c None m) y s)) e
    ∙ ap (λ (x : Line). first_line (fresh (listing c None (suc (1 + n))) y (started_by (marks t) zero alone x))) p
    ∙ ap (λ (m : List ℕ). first_line (fresh (listing c None (suc (1 + n))) y (started_by m zero alone y)))
    (spaces_marks (suc n) l)
  where
    allowed : (a : After) → Allowed a None
    allowed alone = tt
    allowed lazy = tt
    allowed under = tt

marker_empty : (c : ℕ) → IsBulletSign c → is_rule c (c ∷ []) ≡ false → (a : After) (k : ℕ) → IsNotUnder
    a
    → started a (line k (c ∷ []))
    ≡ first_line (within (listing c None (columns (bullet_marker c) 0)) no_closed_blocks false nothing)
marker_empty c i r a k h =
    let s = started_by [] zero alone (behind_padding (line (k + 1) [])) in
    i a k [] ∙ unless_no_rule c (c ∷ []) (item_start a c None 1 (line (k + 1) []) s) r
    ∙ empty_started a c None 1 (k + 1) s h

hyphen_line : (k n : ℕ) (l : List ℕ) → IsNotOf 45 l → underline_of (line k (45 ∷ spaces (suc n) l)) ≡ None
hyphen_line k n l q =
    let t = spaces (suc n) l in
    let u = stripped_end is_space_or_tab t in
    let e : list_all (is_same 45) u ≡ false =
    not_all (is_same 45) t (ap (list_all (is_same 45)) (spaces_marks (suc n) l) ∙ q) in
    ap underline (stripped_black 45 t refl) ∙ rw e refl

asterisk_line : (k n : ℕ) (l : List ℕ) → underline_of (line k (42 ∷ spaces (suc n) l)) ≡ None
asterisk_line k n l = ap underline (stripped_black 42 (spaces (suc n) l) refl)

pub asterisk_is_marker : IsMarker (bullet_marker 42)
asterisk_is_marker = record {
  column = λ k n. steps (suc n) (k + 1);
  black = λ t. refl;
  no_quote = λ t. refl;
  filled = λ a k n l w h q f. marker_filled 42 asterisk_sign refl a k n l w h q;
  empty = λ a k h. marker_empty 42 asterisk_sign refl a k h;
  no_underline = λ k n l h q. asterisk_line k n l;
}

pub hyphen_is_marker : IsMarker (bullet_marker 45)
hyphen_is_marker = record {
  column = λ k n. steps (suc n) (k + 1);
  black = λ t. refl;
  no_quote = λ t. refl;
  filled = λ a k n l w h q f. marker_filled 45 hyphen_sign refl a k n l w h q;
  empty = λ a k h. marker_empty 45 hyphen_sign refl a k h;
  no_underline = λ k n l h q. hyphen_line k n l q;
}

-- ---- numbers

abbrev pub number_marker : List ℕ → ℕ → Marker
number_marker ds d = record { text = ds ++ (d ∷ []); sign = d; number = Some (number 10 0 ds) }

abbrev AreDigits : List ℕ → Type 0
AreDigits ds = list_all is_ascii_digit ds ≡ true

digit_black : (c : ℕ) → is_ascii_digit c ≡ true → is_space_or_tab c ≡ false
digit_black c h =
    let a : (c == 32) ≡ false = grind (arith, nat_tests) in
    let b : (c == 9) ≡ false = grind (arith, nat_tests) in
    rw (a, b) refl

digit_sign : (c : ℕ) → is_ascii_digit c ≡ true → sign c ≡ digit
digit_sign c h =
    let a : (c == 62) ≡ false = grind (arith, nat_tests) in
    let b : (c == 35) ≡ false = grind (arith, nat_tests) in
    let d : (c == 96) ≡ false = grind (arith, nat_tests) in
    let e : (c == 126) ≡ false = grind (arith, nat_tests) in
    let f : (c == 60) ≡ false = grind (arith, nat_tests) in
    let g : (c == 95) ≡ false = grind (arith, nat_tests) in
    let i : (c == 42) ≡ false = grind (arith, nat_tests) in
    let j : (c == 45) ≡ false = grind (arith, nat_tests) in
    let k : (c == 43) ≡ false = grind (arith, nat_tests) in
    rw (a, b, d, e, f, g, i, j, k, h) refl

all_first : (p : ℕ → Bool) (c : ℕ) (s : List ℕ) → list_all p (c ∷ s) ≡ true → p c ≡ true
all_first p c s h = go (p c) refl
  where
    go : (b : Bool) → p c ≡ b → p c ≡ true
    go true e = e
    go false e = absurd (let w = rw e at h in cc)

all_rest : (p : ℕ → Bool) (c : ℕ) (s : List ℕ) → list_all p (c ∷ s) ≡ true → list_all p s ≡ true
all_rest p c s h = let w = rw (all_first p c s h) at h in w

digits_run : (ds : List ℕ) (d : ℕ) (t : List ℕ) → AreDigits ds → is_ascii_digit d ≡ false
    → leading_run is_ascii_digit (ds ++ (d ∷ t)) ≡ ds
digits_run [] d t h f = rw f refl
digits_run (c ∷ ds) d t h f =
    rw (all_first is_ascii_digit c ds h) (ap (◌∷◌ c) (digits_run ds d t (all_rest is_ascii_digit c ds h) f))

behind_digits : (ds : List ℕ) (d : ℕ) (t : List ℕ) → AreDigits ds → is_ascii_digit d ≡ false
    → behind_run is_ascii_digit (ds ++ (d ∷ t)) ≡ d ∷ t
behind_digits [] d t h f = rw f refl
behind_digits (c ∷ ds) d t h f =
    rw (all_first is_ascii_digit c ds h) (behind_digits ds d t (all_rest is_ascii_digit c ds h) f)

drop_marker : (ds : List ℕ) (d : ℕ) (t : List ℕ) → drop (suc (length ds)) (ds ++ (d ∷ t)) ≡ t
drop_marker [] d t = refl
drop_marker (c ∷ ds) d t = drop_marker ds d t

-- what a marker's characters leave of those of the line
past_marker : (ds : List ℕ) (d : ℕ) (t : List ℕ) (x : Line) → AreDigits ds → is_space_or_tab d ≡ false
    → started_by (marks (ds ++ (d ∷ t))) (suc (length ds)) alone x ≡ started_by (marks t) zero alone x
past_marker [] d t x h f = rw f refl
past_marker (c ∷ ds) d t x h f =
    rw (digit_black c (all_first is_ascii_digit c ds h)) (past_marker ds d t x (all_rest is_ascii_digit c ds h) f)

-- where a line begins with a digit
abbrev digit_start : After → ℕ → ℕ → List ℕ → Line → Start
digit_start a i c m l =
    let b = cut i l in
    let n = length (digits b.text) in
    let r = after_marker (suc n) b in
    if_numbered b.text
    (item_start a (delimiter b.text) (Some (number_of b.text)) (suc n + i) r (started_by m n alone (behind_padding r)))

at_digit : (a : After) (c : ℕ) (m : List ℕ) (l : Line) → nat_le (indent l) 3 ≡ true → sign c ≡ digit
    → started_by (c ∷ m) zero a l ≡ digit_start a (indent l) c m l
at_digit a c m l e f = rw (e, f, started_by) refl

digit_started : (a : After) (k c : ℕ) (s : List ℕ) → is_ascii_digit c ≡ true
    → started a (line k (c ∷ s)) ≡ digit_start a 0 c (marks s) (line k (c ∷ s))
digit_started a k c s h =
    let b = digit_black c h in
    let l = line k (c ∷ s) in
    let e : marks (c ∷ s) ≡ c ∷ marks s = rw b refl in
    let i : indent l ≡ 0 = black_indent k (c ∷ s) b in
    ap (λ (m : List ℕ). started_by m zero a l) e
    ∙ at_digit a c (marks s) l (ap (λ (j : ℕ). nat_le j 3) i) (digit_sign c h)
    ∙ ap (λ (j : ℕ). digit_start a j c (marks s) l) i

-- a number of one to nine digits, and `.` or `)`
pub record IsNumber (ds : List ℕ) (d : ℕ) : Type 0 where
  pub filled : ds ≡ [] → ⊥
  pub digits : list_all is_ascii_digit ds ≡ true
  pub short : nat_le (length ds) 9 ≡ true
  pub delimiter : is_one_of (codes ".)") d ≡ true

delimiter_facts : (d : ℕ) → is_one_of (codes ".)") d ≡ true → (is_ascii_digit d ≡ false) ×
    (is_space_or_tab d ≡ false)
delimiter_facts d h = go (d == 46) (d == 41) refl refl
  where
    go : (a b : Bool) → (d == 46) ≡ a → (d == 41) ≡ b → (is_ascii_digit d ≡ false) ×
        (is_space_or_tab d ≡ false)
    go true b e f =
        let w : d ≡ 46 = grind (arith, nat_tests) in
        (ap is_ascii_digit w, ap is_space_or_tab w)
    go false true e f =
        let w : d ≡ 41 = grind (arith, nat_tests) in
        (ap is_ascii_digit w, ap is_space_or_tab w)
    go false false e f = absurd (let w = rw (e, f) at h in cc)

numbered_if : (s ds : List ℕ) (d : ℕ) (o : Start) → digits s ≡ ds → delimiter s ≡ d → nat_le (length ds)
    9 ≡ true
    → is_one_of (codes ".)") d ≡ true → if_numbered s o ≡ o
numbered_if s ds d o e f h i =
    let w : (nat_le (length (digits s)) 9 && is_one_of (codes ".)") (delimiter s)) ≡ true =
    ap (λ (x : List ℕ). nat_le (length x) 9 && is_one_of (codes ".)") (delimiter s)) e
    ∙ ap (λ (x : ℕ). nat_le (length ds) 9 && is_one_of (codes ".)") x) f
    ∙ both (nat_le (length ds) 9) (is_one_of (codes ".)") d) h i in
    ap (λ (b : Bool). if b then o else no_start) w
  where
    both : (a b : Bool) → a ≡ true → b ≡ true → (a && b) ≡ true
    both a b e f = rw (e, f) refl

-- an item's start by its sign, its number and its number's length
abbrev numbered_start : After → ℕ → List ℕ → List ℕ → ℕ → ℕ → ℕ → Start
numbered_start a k x m d q n =
    let r = after_marker (suc n) (line k x) in
    item_start a d (Some q) (suc n + 0) r (started_by m n alone (behind_padding r))

-- what a number's marker starts, by what follows it
number_started : (a : After) (k c d : ℕ) (cs t : List ℕ) → IsNumber (c ∷ cs) d
    → (let n = length (c ∷ cs) in
    let r = line (k + suc n) t in
    started a (line k ((c ∷ cs) ++ (d ∷ t)))
    ≡ item_start a d (Some (number 10 0 (c ∷ cs))) (suc n + 0) r
    (started_by (marks t) zero alone (behind_padding r)))
number_started a k c d cs t n =
    let x = (c ∷ cs) ++ (d ∷ t) in
    let m = marks (cs ++ (d ∷ t)) in
    let f = delimiter_facts d n.delimiter in
    let g = all_first is_ascii_digit c cs n.digits in
    let run : digits x ≡ c ∷ cs = digits_run (c ∷ cs) d t n.digits f.0 in
    let behind : behind_run is_ascii_digit x ≡ d ∷ t = behind_digits (c ∷ cs) d t n.digits f.0 in
    let sign : delimiter x ≡ d = rw (behind, delimiter) refl in
    let v = number 10 0 (c ∷ cs) in
    let w = length (c ∷ cs) in
    let j = k + suc w in
    digit_started a k c (cs ++ (d ∷ t)) g
    ∙ numbered_if x (c ∷ cs) d (numbered_start a k x m (delimiter x) (number_of x) (length (digits x))) run sign
    n.short n.delimiter
    ∙ ap (λ (y : ℕ). numbered_start a k x m y (number_of x) (length (digits x))) sign
    ∙ ap (λ (ds : List ℕ). numbered_start a k x m d (number 10 0 ds) (length ds)) run
    ∙ ap (λ (y : List ℕ). item_start a d (Some v) (suc w + 0) (line j y)
    (started_by m w alone (behind_padding (line j y))))
    (drop_marker (c ∷ cs) d t)
    ∙ ap (λ (s : Start). item_start a d (Some v) (suc w + 0) (line j t) s)
    (past_marker cs d t (behind_padding (line j t)) (all_rest is_ascii_digit c cs n.digits) f.1)

number_columns : (ds : List ℕ) (d n : ℕ) → suc (length ds) + 0 + suc n ≡ columns (number_marker ds d) n
number_columns ds d n =
    let e : length (ds ++ (d ∷ [])) ≡ length ds + 1 = length-append ds (d ∷ []) in
    grind (arith, e)

number_filled : (a : After) (k n c d : ℕ) (cs l : List ℕ) → IsNumber (c ∷ cs) d → n ≤ 3 → IsBlack l
    → Allowed a (Some (number 10 0 (c ∷ cs)))
    → (let m = number_marker (c ∷ cs) d in
    let y = line (steps (suc n) (k + suc (length (c ∷ cs)))) l in
    started a (line k (m.text ++ spaces (suc n) l))
    ≡ first_line (fresh (listing d m.number (columns m n)) y (started alone y)))
number_filled a k n c d cs l i w h q =
    let t = spaces (suc n) l in
    let m = number_marker (c ∷ cs) d in
    let j = k + suc (length (c ∷ cs)) in
    let y = line (steps (suc n) j) l in
    let v = Some (number 10 0 (c ∷ cs)) in
    let s = started_by (marks t) zero alone (behind_padding (line j t)) in
    let p : behind_padding (line j t) ≡ y =
    ap (λ (u : ℕ). cut_at j u t) (spaces_padding n j l w h) ∙ spaces_cut (suc n) j l in
    let e : suc (length (c ∷ cs)) + 0 + suc n ≡ columns m n = number_columns (c ∷ cs) d n in
    ap (λ (x : List ℕ). started a (line k x)) (append_assoc (c ∷ cs) (d ∷ []) t)
    ∙ number_started a k c d cs t i
    ∙ item_started a d v (suc (length (c ∷ cs)) + 0) n j l s w h q
    ∙ ap (λ (u : ℕ). first_line (fresh (listing d v u) y s)) e
    ∙ ap (λ (x : Line). first_line (fresh (listing d v (columns m n)) y (started_by (marks t) zero alone x))) p
    ∙ ap (λ (x : List ℕ). first_line (fresh (listing d v (columns m n)) y (started_by x zero alone y)))
    (spaces_marks (suc n) l)

number_empty : (a : After) (k c d : ℕ) (cs : List ℕ) → IsNumber (c ∷ cs) d → IsNotUnder a
    → (let m = number_marker (c ∷ cs) d in
    started a (line k m.text) ≡ first_line (within (listing d m.number (columns m 0)) no_closed_blocks false nothing))
number_empty a k c d cs i h =
    let m = number_marker (c ∷ cs) d in
    let j = k + suc (length (c ∷ cs)) in
    let v = Some (number 10 0 (c ∷ cs)) in
    let e : suc (length (c ∷ cs)) + 0 + 1 ≡ columns m 0 = number_columns (c ∷ cs) d 0 in
    number_started a k c d cs [] i
    ∙ empty_started a d v (suc (length (c ∷ cs)) + 0) j (started_by [] zero alone (behind_padding (line j []))) h
    ∙ ap (λ (u : ℕ). first_line (within (listing d v u) no_closed_blocks false nothing)) e

digit_line : (k c : ℕ) (s : List ℕ) → is_ascii_digit c ≡ true → underline_of (line k (c ∷ s)) ≡ None
digit_line k c s h =
    let b = digit_black c h in
    let e : (c == 61) ≡ false = grind (arith, nat_tests) in
    let f : (c == 45) ≡ false = grind (arith, nat_tests) in
    let u = stripped_end is_space_or_tab s in
    let v : underline (c ∷ u) ≡ None = rw (e, f) refl in
    let i : nat_le (indent (line k (c ∷ s))) 3 ≡ true =
    ap (λ (j : ℕ). nat_le j 3) (black_indent k (c ∷ s) b) in
    ap (λ (t : Bool). if t then underline (stripped (c ∷ s)) else None) i
    ∙ ap underline (stripped_black c s b) ∙ v

pub number_is_marker : (ds : List ℕ) (d : ℕ) → IsNumber ds d → IsMarker (number_marker ds d)
number_is_marker [] d i = absurd (i.filled refl)
number_is_marker (c ∷ cs) d i = record {
  column = λ k n. steps (suc n) (k + suc (length (c ∷ cs)));
  black = λ t. digit_black c (all_first is_ascii_digit c cs i.digits);
  no_quote = λ t. no_angle c (all_first is_ascii_digit c cs i.digits);
  filled = λ a k n l w h q f. number_filled a k n c d cs l i w h f;
  empty = λ a k h. number_empty a k c d cs i h;
  no_underline = λ k n l h q. digit_line k c ((cs ++ (d ∷ [])) ++ spaces (suc n) l)
      (all_first is_ascii_digit c cs i.digits);
}
  where
    no_angle : (c : ℕ) → is_ascii_digit c ≡ true → (c == greater_than_sign) ≡ false
    no_angle c h = grind (arith, nat_tests)
