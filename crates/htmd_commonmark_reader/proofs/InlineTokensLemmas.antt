-- Code in one line, and addresses.
use Rattle.std.proofs.Common.{◌≡◌, ◌≢◌, ◌∙◌, ℕ, zero, suc, ◌+◌, ◌-◌, ◌<◌, ◌≤◌, Bool, true, false, List, [], ◌∷◌, ◌++◌}
use Rattle.std.proofs.Common.{length, take, drop, get_or, Some, refl, ap, sym, append_assoc, arith}
use Rattle.std.specs.Prelude.{◌==◌, if◌then◌else◌, reverse}
use Rattle.std.specs.List.{list_all}
use Rattle.std.proofs.lemmas.Bool.{eqb-true, ne_eqb}
use Rattle.std.proofs.lemmas.List.{length-append, reverse-append, reverse-reverse, length-drop}
use Rattle.std.proofs.lemmas.List.Prefix.{front_rest}
use Rattle.std.proofs.Math.Seq.{take-append_seam}
use Rattle.htmd_lexical.specs.CharacterClasses.{is_empty, first_is, leading_run, behind_run}
use Rattle.htmd_lexical.proofs.Cases.{test}
use Rattle.htmd_lexical.proofs.LeadingRunsLemmas.{back_split}
use Rattle.htmd_commonmark_reading.specs.InlineTokens as spec
use Rattle.htmd_commonmark_reading.specs.InlineTokens.{in_one_line, code_text, is_space, without_last}
use Rattle.htmd_commonmark_reader.proofs.BeginningsLemmas.{is_beginning, first_sign}

-- ---- line endings as spaces

abbrev pub HasNoEnd : List ℕ → Type 0
HasNoEnd s = (i : ℕ) → i < length s → get_or s i 0 ≢ 10

behind_first : (b : ℕ) (s : List ℕ) → HasNoEnd (b ∷ s) → HasNoEnd s
behind_first b s h i l = h (suc i) (omega arith)

one_line-append : (s t : List ℕ) → HasNoEnd s → in_one_line (s ++ t) ≡ s ++ in_one_line t
one_line-append [] t h = refl
one_line-append (b ∷ s) t h =
    let q : (b == 10) ≡ false = ne_eqb b 10 (h 0 (omega arith)) in
    rw q (ap (λ x. b ∷ x) (one_line-append s t (behind_first b s h)))

pub one_line_same : (s : List ℕ) → HasNoEnd s → in_one_line s ≡ s
one_line_same [] h = refl
one_line_same (b ∷ s) h =
    let q : (b == 10) ≡ false = ne_eqb b 10 (h 0 (omega arith)) in
    rw q (ap (λ x. b ∷ x) (one_line_same s (behind_first b s h)))

-- one more line
pub line_more : (line before more rest after text : List ℕ) → line ++ in_one_line rest ≡ in_one_line text
    → rest ≡ before ++ (10 ∷ after) → HasNoEnd before → more ≡ (line ++ before) ++ (32 ∷ [])
    → more ++ in_one_line after ≡ in_one_line text
line_more line before more rest after text i e h m =
    ap (λ x. x ++ in_one_line after) m ∙ append_assoc (line ++ before) (32 ∷ []) (in_one_line after)
    ∙ append_assoc line before (32 ∷ in_one_line after)
    ∙ ap (λ x. line ++ x) (sym (one_line-append before (10 ∷ after) h) ∙ ap in_one_line (sym e)) ∙ i

pub one_line_length : (s : List ℕ) → length (in_one_line s) ≡ length s
one_line_length [] = refl
one_line_length (b ∷ s) = ap suc (one_line_length s)

one_line-take : (n : ℕ) (s : List ℕ) → in_one_line (take n s) ≡ take n (in_one_line s)
one_line-take zero s = refl
one_line-take (suc n) [] = refl
one_line-take (suc n) (b ∷ s) = ap (λ x. (if b == 10 then 32 else b) ∷ x) (one_line-take n s)

one_line-drop : (n : ℕ) (s : List ℕ) → in_one_line (drop n s) ≡ drop n (in_one_line s)
one_line-drop zero s = refl
one_line-drop (suc n) [] = refl
one_line-drop (suc n) (b ∷ s) = one_line-drop n s

-- ---- code without the spaces at its ends

record Snoc (s : List ℕ) : Type 0 where
  front : List ℕ
  last : ℕ
  is : s ≡ front ++ (last ∷ [])

snoc : (b : ℕ) (s : List ℕ) → Snoc (b ∷ s)
snoc b [] = record { front = []; last = b; is = refl }
snoc b (c ∷ s) = let t = snoc c s in record { front = b ∷ t.front; last = t.last; is = ap (λ l. b ∷ l) t.is }

last_cut : (s : List ℕ) → without_last s ≡ take (length s - 1) s
last_cut [] = refl
last_cut (b ∷ s) =
    let t = snoc b s in
    let n : length (b ∷ s) - 1 ≡ length t.front =
    omega (arith, ap length t.is, length-append t.front (t.last ∷ [])) in
    ap without_last t.is
    ∙ ap (λ x. reverse (drop 1 x)) (reverse-append t.front (t.last ∷ []))
    ∙ reverse-reverse t.front
    ∙ sym (ap (λ k. take k (b ∷ s)) n ∙ ap (take (length t.front)) t.is
    ∙ take-append_seam t.front (t.last ∷ []))

-- the last character, from either side
last_first : (s : List ℕ) (c : ℕ) → 0 < length s → first_is c (reverse s) ≡ (get_or s (length s - 1) 0 == c)
last_first [] c l = absurd (omega arith)
last_first (b ∷ s) c l =
    let t = snoc b s in
    let n : length (b ∷ s) - 1 ≡ length t.front =
    omega (arith, ap length t.is, length-append t.front (t.last ∷ [])) in
    ap (λ x. first_is c (reverse x)) t.is ∙ ap (first_is c) (reverse-append t.front (t.last ∷ []))
    ∙ sym (ap (λ k. get_or (b ∷ s) k 0 == c) n ∙ ap (λ x. get_or x (length t.front) 0 == c) t.is
    ∙ ap (λ x. x == c) (get_or-push t.front t.last))
  where
    get_or-push : (l : List ℕ) (d : ℕ) → get_or (l ++ d ∷ []) (length l) 0 ≡ d
    get_or-push [] d = refl
    get_or-push (e ∷ l) d = get_or-push l d

one_line_at : (s : List ℕ) (i : ℕ) → i < length s
    → get_or (in_one_line s) i 0 ≡ (if get_or s i 0 == 10 then 32 else get_or s i 0)
one_line_at [] i l = absurd (omega arith)
one_line_at (b ∷ s) zero l = refl
one_line_at (b ∷ s) (suc i) l = one_line_at s i (omega arith)

last_space : (s : List ℕ) → 0 < length s
    → first_is 32 (reverse (in_one_line s))
    ≡ is_space (if get_or s (length s - 1) 0 == 10 then 32 else get_or s (length s - 1) 0)
last_space s l =
    let k = one_line_length s in
    last_first (in_one_line s) 32 (omega arith)
    ∙ ap (λ n. get_or (in_one_line s) (n - 1) 0 == 32) k
    ∙ ap (λ d. d == 32) (one_line_at s (length s - 1) (omega arith))

one_code : (d : ℕ) → d ∷ [] ≡ code_text (d ∷ [])
one_code d = test (d == 32) (λ e. rw e refl) (λ e. rw e refl)

pub short_code : (s : List ℕ) → length s < 2 → in_one_line s ≡ code_text (in_one_line s)
short_code [] l = refl
short_code (b ∷ []) l = one_code (if b == 10 then 32 else b)
short_code (b ∷ c ∷ s) l = absurd (omega arith)

pub whole_code : (s : List ℕ) → 0 < length s
    → is_space (if get_or s (length s - 1) 0 == 10 then 32 else get_or s (length s - 1) 0) ≡ false
    → in_one_line s ≡ code_text (in_one_line s)
whole_code s l e = whole (in_one_line s) (last_space s l ∙ e)
  where
    whole : (t : List ℕ) → first_is 32 (reverse t) ≡ false → t ≡ code_text t
    whole t h = test (first_is 32 t) (λ f. rw (f, h) refl) (λ f. rw f refl)

pub cut_code : (s r : List ℕ) → 2 ≤ length s → r ≡ take (length s - 1 - 1) (drop 1 s)
    → is_space (if get_or s 0 0 == 10 then 32 else get_or s 0 0) ≡ true
    → is_space (if get_or s (length s - 1) 0 == 10 then 32 else get_or s (length s - 1) 0) ≡ true
    → list_all is_space (in_one_line s) ≡ false → in_one_line r ≡ code_text (in_one_line s)
cut_code s r l q a b n =
    let t = in_one_line s in
    let k = one_line_length s in
    let first : first_is 32 t ≡ true = first_space s (omega arith) ∙ a in
    let last : first_is 32 (reverse t) ≡ true = last_space s (omega arith) ∙ b in
    let size : length s - 1 - 1 ≡ length (drop 1 t) - 1 = omega (arith, length-drop 1 t, k) in
    ap in_one_line q ∙ one_line-take (length s - 1 - 1) (drop 1 s)
    ∙ ap (take (length s - 1 - 1)) (one_line-drop 1 s)
    ∙ ap (λ j. take j (drop 1 t)) size
    ∙ sym (last_cut (drop 1 t))
    ∙ both t first last n
  where
    first_space : (u : List ℕ) → 0 < length u
        → first_is 32 (in_one_line u) ≡ is_space (if get_or u 0 0 == 10 then 32 else get_or u 0 0)
    first_space [] l = absurd (omega arith)
    first_space (c ∷ u) l = refl

    both : (t : List ℕ) → first_is 32 t ≡ true → first_is 32 (reverse t) ≡ true
        → list_all is_space t ≡ false
        → without_last (drop 1 t) ≡ code_text t
    both t f g h = rw (f, g, h) refl

pub space_is_ascii : (b : ℕ) → is_space (if b == 10 then 32 else b) ≡ true → b < 128
space_is_ascii b h =
    test (b == 10) (λ e. let k = eqb-true b 10 e in omega arith)
    (λ e. let k : (b == 32) ≡ true = rw e at h in let j = eqb-true b 32 k in omega arith)

-- ---- autolinks

-- a run with a sign behind it
pub run_before : (p : ℕ → Bool) (s run rest : List ℕ) (c : ℕ) → run ≡ leading_run p s
    → rest ≡ behind_run p s
    → first_is c rest ≡ true → length run < length s
run_before p s run rest c e f h =
    let z = first_sign c rest h in
    omega (
      arith,
      ap length (back_split p s),
      ap length e,
      ap length f,
      ap length z,
      length-append (leading_run p s) (behind_run p s),
    )

pub uri_found : (s scheme after address rest : List ℕ) → scheme ≡ leading_run spec.is_in_scheme s
    → after ≡ behind_run spec.is_in_scheme s → spec.is_scheme scheme ≡ true → first_is 58 after ≡ true
    → address ≡ leading_run spec.is_in_uri s → rest ≡ behind_run spec.is_in_uri s → first_is 62 rest ≡ true
    → Some (take (length address) s) ≡ spec.uri s
uri_found s scheme after address rest e f g h i j k =
    let all : s ≡ address ++ rest =
    back_split spec.is_in_uri s ∙ ap (λ x. x ++ behind_run spec.is_in_uri s) (sym i)
    ∙ ap (λ x. address ++ x) (sym j) in
    let g' : spec.is_scheme (leading_run spec.is_in_scheme s) ≡ true = ap spec.is_scheme (sym e) ∙ g in
    let h' : first_is 58 (behind_run spec.is_in_scheme s) ≡ true = ap (first_is 58) (sym f) ∙ h in
    let k' : first_is 62 (behind_run spec.is_in_uri s) ≡ true = ap (first_is 62) (sym j) ∙ k in
    let value : spec.uri s ≡ Some (leading_run spec.is_in_uri s) = closed s g' h' k' in
    (is_beginning s address rest (length address) (spec.uri s) all refl (value ∙ ap Some (sym i))).value
  where
    closed : (s : List ℕ) → spec.is_scheme (leading_run spec.is_in_scheme s) ≡ true
        → first_is 58 (behind_run spec.is_in_scheme s) ≡ true → first_is 62 (behind_run spec.is_in_uri s) ≡ true
        → spec.uri s ≡ Some (leading_run spec.is_in_uri s)
    closed s a b c = rw (a, b, c) refl

pub record EmailFound (s : List ℕ) (n : ℕ) : Type 0 where
  pub within : n < length s
  pub value : Some (take n s) ≡ spec.email s
  pub end : first_is 62 (drop n s) ≡ true

pub email_found : (s local rest after host end : List ℕ) → local ≡ leading_run spec.is_in_local_part s
    → rest ≡ behind_run spec.is_in_local_part s → rest ≡ 64 ∷ after
    → host ≡ leading_run spec.is_in_host after
    → end ≡ behind_run spec.is_in_host after → is_empty local ≡ false → spec.is_host host ≡ true
    → first_is 62 end ≡ true → EmailFound s (length local + 1 + length host)
email_found s local rest after host end e f g h i j k l =
    let front : s ≡ local ++ (64 ∷ after) =
    back_split spec.is_in_local_part s ∙ ap (λ x. x ++ behind_run spec.is_in_local_part s) (sym e)
    ∙ ap (λ x. local ++ x) (sym f ∙ g) in
    let back : after ≡ host ++ end =
    back_split spec.is_in_host after ∙ ap (λ x. x ++ behind_run spec.is_in_host after) (sym h)
    ∙ ap (λ x. host ++ x) (sym i) in
    let whole : s ≡ (local ++ (64 ∷ []) ++ host) ++ end =
    front ∙ ap (λ x. local ++ (64 ∷ x)) back ∙ sym (append_assoc local (64 ∷ []) (host ++ end))
    ∙ sym (append_assoc (local ++ (64 ∷ [])) host end) in
    let size : length local + 1 + length host ≡ length (local ++ (64 ∷ []) ++ host) =
    omega (arith, length-append local (64 ∷ []), length-append (local ++ (64 ∷ [])) host) in
    let here : spec.email s ≡ spec.email_host local (64 ∷ after) =
    ap (λ x. spec.email_host x (behind_run spec.is_in_local_part s)) (sym e)
    ∙ ap (spec.email_host local) (sym f ∙ g) in
    let value : spec.email s ≡ Some (local ++ (64 ∷ []) ++ host) =
    here ∙ ap (λ x. spec.email_with local x (behind_run spec.is_in_host after)) (sym h)
    ∙ ap (spec.email_with local host) (sym i) ∙ closed local host end j k l in
    let z = first_sign 62 end l in
    let b = is_beginning s (local ++ (64 ∷ []) ++ host) end (length local + 1 + length host) (spec.email s) whole size
    value in
    record {
      within = omega (arith, ap length whole, length-append (local ++ (64 ∷ []) ++ host) end, ap length z, size);
      value = b.value;
      end = ap (λ k. first_is 62 (drop k s)) size
          ∙ ap (first_is 62) (front_rest s (local ++ (64 ∷ []) ++ host) end whole) ∙ l;
    }
  where
    closed : (local host end : List ℕ) → is_empty local ≡ false → spec.is_host host ≡ true
        → first_is 62 end ≡ true → spec.email_with local host end ≡ Some (local ++ (64 ∷ []) ++ host)
    closed local host end a b c = rw (a, b, c) refl
