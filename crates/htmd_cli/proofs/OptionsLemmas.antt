-- Options, their values and what they ask for, step by step.
use Rattle.std.proofs.Common.{◌≡◌, ℕ, zero, suc, ◌+◌, ◌-◌, ◌*◌, ◌^◌, ◌<◌, ◌≤◌, Bool, true, false, ◌&&◌, ◌||◌, List, []}
use Rattle.std.proofs.Common.{◌∷◌, ◌++◌}
use Rattle.std.proofs.Common.{length, drop, get_or, eqb, refl, sym, ◌∙◌, ap, subst, arith}
use Rattle.std.proofs.Common.{Option, Some, None, MatchOption, option_map, is_some, ◌⊎◌, inl, inr}
use Rattle.std.specs.Borrow.{Bor}
use Rattle.std.specs.Str.Pattern.{LacksTextAt, StripsPrefix, FindsTextPrefix}
use Rattle.std.specs.Prelude.{nat_lt}
use Rattle.std.specs.Char.{is_ascii_digit}
use Rattle.std.specs.List.{list_any}
use Rattle.std.specs.declared.alloc.Global.{Global}
use Rattle.std.specs.declared.string.String.{String}
use Rattle.std.proofs.lemmas.List.{drop_all, drop_more}
use Rattle.std.proofs.lemmas.Bool.{eqb-true}
use Rattle.std.proofs.lemmas.Bool.Decides.{nat_tests}
use Rattle.htmd.specs.Characters.{digit_zero}
use Rattle.htmd.specs.CharacterClasses.{begins_with}
use Rattle.htmd_cli.specs.Options.{Request, is_given, request_after, request_by, default_request}
use Rattle.htmd.specs.PageValues.{selectors}
use Rattle.htmd_cli.specs.Options.{below, number_behind, with_digit, are_known, is_known}
use Rattle.htmd_cli.specs.Options.{takes_memory}
use Rattle.htmd_cli.specs.OptionRows.{IsOptionFault}
use Rattle.htmd_cli.specs.declared.requests.OptionFault.{OptionFault}
use Rattle.htmd_cli.specs.declared.requests.OptionFault.TheVariants as fault
use Rattle.htmd_selectors.specs.SelectorSteps.{Step}

-- either way, with what the test says
test : {P : Type 0} (b : Bool) → (b ≡ true → P) → (b ≡ false → P) → P
test true f g = f refl
test false f g = g refl

-- ---- numbers

pub no_number : (s : List ℕ) → number_behind None s ≡ None
no_number [] = refl
no_number (b ∷ s) = no_number s

-- no digit is left
pub number_is : (n : ℕ) (s : List ℕ) (i : ℕ) → n < 2 ^ 64 → length s ≤ i
    → Some n ≡ below (2 ^ 64) (number_behind (Some n) (drop i s))
number_is n s i l e =
    let fits : nat_lt n (2 ^ 64) ≡ true = grind (arith, nat_tests) in
    rw (drop_all i s e, fits) refl

-- a number that is too large stays so
stays_large : (n : ℕ) (s : List ℕ) → nat_lt n (2 ^ 64) ≡ false
    → below (2 ^ 64) (number_behind (Some n) s) ≡ None
stays_large n [] e = rw e refl
stays_large n (b ∷ s) e =
    test (is_ascii_digit b) (λ q. rw q (stays_large (n * 10 + (b - digit_zero)) s (grind (arith, nat_tests))))
    (λ q. rw (q, no_number s) refl)

-- what isn't a digit, or one digit too many
pub number_ends : (n : ℕ) (s : List ℕ) (i : ℕ) → i < length s
    → None ≡ below (2 ^ 64) (with_digit n (get_or s i 0))
    → below (2 ^ 64) (number_behind (Some n) (drop i s)) ≡ None
number_ends n s i l e = rw (drop_more s i 0 l) (ends (get_or s i 0) (drop (i + 1) s) e)
  where
    ends : (b : ℕ) (s : List ℕ) → None ≡ below (2 ^ 64) (with_digit n b)
        → below (2 ^ 64) (number_behind (with_digit n b) s) ≡ None
    ends b s e =
        test (is_ascii_digit b)
        (λ q. test (nat_lt (n * 10 + (b - digit_zero)) (2 ^ 64)) (λ t. let z = rw (q, t) at e in absurd (cc))
        (λ t. rw q (stays_large (n * 10 + (b - digit_zero)) s t)))
        (λ q. rw (q, no_number s) refl)

-- ---- the rows of the source's table

begins_append : (n s : List ℕ) → begins_with n (n ++ s) ≡ true
begins_append [] s = refl
begins_append (b ∷ n) s = rw (same b) (begins_append n s)
  where
    same : (b : ℕ) → eqb b b ≡ true
    same b = grind (arith, nat_tests)

begins_split : (n s : List ℕ) → begins_with n s ≡ true → s ≡ n ++ drop (length n) s
begins_split [] s e = refl
begins_split (b ∷ n) [] e = absurd (cc)
begins_split (b ∷ n) (c ∷ s) e =
    test (eqb c b)
    (λ q. let z = rw q at e in rw (eqb-true c b q) (ap (λ x. b ∷ x) (begins_split n s z)))
    (λ q. let z = rw q at e in absurd (cc))

pub value_behind : (n s : List ℕ) (takes : Bool) (r : Option (Bor (List ℕ))) → takes ≡ true
    → MatchOption r (LacksTextAt n s 0) (λ x. StripsPrefix (FindsTextPrefix n) s x.now)
    → MatchOption r (is_given n takes s ≡ false) (λ v. (is_given n takes s ≡ true) × (v.now
    ≡ drop (length n) s))
value_behind n s false r e h = absurd (cc)
value_behind n s true None e h =
    test (begins_with n s) (λ q. absurd (h (drop (length n) s) (begins_split n s q))) (λ q. q)
value_behind n s true (Some x) e h =
    (ap (begins_with n) h.1.1 ∙ begins_append n (drop h.0 s), h.2 ∙ ap (λ k. drop k s) h.1.0)

-- ---- all options

pub asked_first : (request : Request) (given : List (String Global)) → request ≡ default_request
    → request_after request given ≡ request_by given
unfolding request_by
asked_first request given e = ap (λ x. request_after x given) e

-- ---- selectors

-- the fault of an option whose value is selectors
pub selector_fault : (f : List Step → Request → Request) (e : OptionFault) (value : List ℕ)
    → (selectors value ≡ None) ⊎ (e ≡ fault.Memory)
    → IsOptionFault e (is_some (option_map f (selectors value))) true
selector_fault f fault.Memory value h = refl
selector_fault f (fault.Unknown option) value (inl n) = rw n refl
selector_fault f (fault.Unknown option) value (inr m) = absurd (cc)
selector_fault f (fault.Selector option error) value (inl n) = rw n refl
selector_fault f (fault.Selector option error) value (inr m) = absurd (cc)

-- ---- options that are left

-- one that isn't known among the last ones isn't known
pub unknown_later : (options : List (String Global)) (i : ℕ) → are_known (drop i options) ≡ false
    → are_known options ≡ false
unknown_later options zero e = e
unknown_later [] (suc i) e = e
unknown_later (x ∷ s) (suc i) e =
    let n : are_known s ≡ false = unknown_later s i e in
    test (is_known x) (λ q. rw (q, n) refl) (λ q. rw q refl)

-- if no value of all is read in memory, none of the last ones is
pub untaken_later : (options : List (String Global)) (i : ℕ) → list_any takes_memory options ≡ false
    → list_any takes_memory (drop i options) ≡ false
untaken_later options zero e = e
untaken_later [] (suc i) e = e
untaken_later (x ∷ s) (suc i) e =
    test (takes_memory x) (λ q. let z = rw q at e in absurd (cc))
    (λ q. let z = rw q at e in untaken_later s i z)

-- the option at a place, with those after it
option_at : (options : List (String Global)) (x : String Global) (i : ℕ) → i < length options
    → x ≡ get_or options i x → drop i options ≡ x ∷ drop (i + 1) options
option_at options x i l e = drop_more options i x l ∙ ap (λ y. y ∷ drop (i + 1) options) (sym e)

-- one known option more
pub known_more : (options : List (String Global)) (x : String Global) (i : ℕ) → i < length options
    → x ≡ get_or options i x → is_known x ≡ true → are_known (drop i options) ≡ are_known options
    → are_known (drop (i + 1) options) ≡ are_known options
known_more options x i l e k h =
    sym (ap are_known (option_at options x i l e) ∙ ap (λ b. b && are_known (drop (i + 1) options)) k) ∙ h

no_first : (a b : Bool) → (a || b) ≡ false → a ≡ false
no_first true b e = absurd (cc)
no_first false b e = refl

pub untaken_at : (options : List (String Global)) (x : String Global) (i : ℕ) → i < length options
    → x ≡ get_or options i x → list_any takes_memory (drop i options) ≡ false → takes_memory x ≡ false
untaken_at options x i l e h =
    no_first (takes_memory x) (list_any takes_memory (drop (i + 1) options))
    (sym (ap (list_any takes_memory) (option_at options x i l e)) ∙ h)

pub second : (a b : Bool) → (a || b) ≡ true → a ≡ false → b ≡ true
second true b e f = absurd (cc)
second false b e f = e

pub memory_fault : (e : OptionFault) (known takes : Bool) → e ≡ fault.Memory → IsOptionFault e known takes
    → (takes || known) ≡ true
memory_fault e known takes m h = subst (λ e. IsOptionFault e known takes) m h
