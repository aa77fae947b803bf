-- References by number and by name, and where a text may be cut after one.
use Rattle.std.proofs.Common.{◌≡◌, ◌⊎◌, ℕ, suc, ◌+◌, ◌-◌, ◌<◌, ◌≤◌, min, Bool, true, false, List, [], ◌∷◌, length, take}
use Rattle.std.proofs.Common.{drop, get_or, refl, ap, sym, ◌∙◌, arith, inl, inr, subst, Some, None}
use Rattle.std.proofs.lemmas.Bool.{cases_lt, and_parts}
use Rattle.std.proofs.lemmas.Bool.Decides.{nat_tests}
use Rattle.std.proofs.lemmas.List.{drop-drop, get_or-drop, length-drop}
use Rattle.std.proofs.lemmas.Slice.{between_to_end}
use Rattle.std.proofs.lemmas.Str.{IsCharBoundary-after_ascii}
use Rattle.std.specs.Char.{encode_utf8, InScalarRange, OutOfScalarRange, is_ascii_alphanumeric}
use Rattle.std.specs.List.{list_all, slice_index}
use Rattle.std.specs.Prelude.{nat_lt}
use Rattle.std.specs.Str.{IsUtf8, IsCharBoundary}
use Rattle.htmd_lexical.proofs.Cases.{test}
use Rattle.htmd_lexical.specs.CharacterClasses.{is_empty, first_is, begins_with, leading_run}
use Rattle.htmd_lexical.specs.CharacterClasses.{behind_run}
use Rattle.htmd_lexical.specs.Numbers.{number, is_between}
use Rattle.htmd_lexical.proofs.CharacterClassesLemmas.{take_leading_run, drop_leading_run}
use Rattle.htmd_lexical.proofs.RunsLemmas.{last_of, run_within}
use Rattle.htmd_html5_tokens.specs.NamedReferences.{NamedReference, named, first_in, old_names, longest_old}
use Rattle.htmd_html5_tokens.specs.References.{Piece, character_numbered, is_no_character, windows_characters}
use Rattle.htmd_html5_tokens.specs.References.{semicolon_len, numbered, old_reference, reference_by_name}
use Rattle.htmd_html5_tokens.specs.ReferenceViews.{IsAsciiTest}
use Rattle.htmd_scanning.proofs.BeginningsLemmas.{begins_front, cut_after_beginning}

-- ---- the character of a number

pub numbered_zero : (n : ℕ) → n ≡ 0 → 0xFFFD ≡ character_numbered n
unfolding character_numbered
numbered_zero n e = rw e refl

pub numbered_windows : (n : ℕ) → is_between 0x80 0x9F n ≡ true
    → slice_index windows_characters (n - 0x80) ≡ character_numbered n
unfolding character_numbered
numbered_windows n e =
    let off : is_no_character n ≡ false = grind (arith, nat_tests) in
    rw (off, e) refl

pub numbered_scalar : (n v : ℕ) → (n ≡ 0 → ⊥) → is_between 0x80 0x9F n ≡ false → InScalarRange n
    → v ≡ n
    → v ≡ character_numbered n
unfolding character_numbered
numbered_scalar n v z e i s =
    let off : is_no_character n ≡ false = grind (arith, nat_tests) in
    rw (off, e) s

pub numbered_none : (n : ℕ) → OutOfScalarRange n → 0xFFFD ≡ character_numbered n
unfolding character_numbered
numbered_none n o =
    let on : is_no_character n ≡ true = grind (arith, nat_tests) in
    rw on refl

abbrev limit : ℕ
limit = 0x11_0000

beyond : (n : ℕ) → limit ≤ n → 0xFFFD ≡ character_numbered n
unfolding character_numbered
beyond n l =
    let on : is_no_character n ≡ true = grind (arith, nat_tests) in
    rw on refl

-- numbers from the limit on are all alike
limited : (n : ℕ) → character_numbered (min n limit) ≡ character_numbered n
limited n = go (cases_lt n limit)
  where
    go : (n < limit) ⊎ (limit ≤ n) → character_numbered (min n limit) ≡ character_numbered n
    go (inl l) = let same : min n limit ≡ n = omega arith in ap character_numbered same
    go (inr l) =
        let same : min n limit ≡ limit = omega arith in
        ap character_numbered same ∙ sym (beyond limit (omega arith)) ∙ beyond n l

-- ---- digits

pub empty_zero : (s : List ℕ) → length s ≡ 0 → is_empty s ≡ true
empty_zero [] e = refl
empty_zero (b ∷ s) e = absurd (omega arith)

pub filled_more : (s : List ℕ) → 0 < length s → is_empty s ≡ false
filled_more [] l = absurd (omega arith)
filled_more (b ∷ s) l = refl

pub head_is : (b : ℕ) (s : List ℕ) → first_is b s ≡ true → (0 < length s) × (get_or s 0 0 ≡ b)
head_is b [] e = absurd (cc)
head_is b (c ∷ s) e = (omega arith, same)
  where
    same : c ≡ b
    same = grind (arith, nat_tests)

-- the text may be cut after an ASCII character
pub cut_after_first : (s : List ℕ) (i b : ℕ) → IsUtf8 s → b < 128 → first_is b (drop i s) ≡ true
    → IsCharBoundary s (i + 1)
cut_after_first s i b u l e =
    let h = head_is b (drop i s) e in
    let w : i < length s = omega (arith, h.0, length-drop i s) in
    let z : i + 0 ≡ i = omega arith in
    let at : get_or s i 0 ≡ b = ap (λ n. get_or s n 0) (sym z) ∙ sym (get_or-drop i s 0 0) ∙ h.1 in
    IsCharBoundary-after_ascii s i u w (omega (arith, at))

-- and after a run of such that isn't empty
cut_after_run : (p : ℕ → Bool) (s : List ℕ) (from len : ℕ) → IsUtf8 s → IsAsciiTest p
    → len ≡ length (leading_run p (drop from s)) → (len ≡ 0 → ⊥) → IsCharBoundary s (from + len)
cut_after_run p s from len u a run z =
    let k : length (leading_run p (drop from s)) ≡ suc (len - 1) = omega (arith, run) in
    let last = a (get_or (drop from s) (len - 1) 0) (last_of p (drop from s) (len - 1) k) in
    let at : get_or s (from + (len - 1)) 0 < 128 = omega (arith, get_or-drop from s (len - 1) 0, last) in
    let w : from + (len - 1) < length s = omega (arith, run_within p (drop from s), length-drop from s) in
    let e : from + (len - 1) + 1 ≡ from + len = omega arith in
    subst (IsCharBoundary s) e (IsCharBoundary-after_ascii s (from + (len - 1)) u w at)

pub tail_of : (p : ℕ → Bool) (s : List ℕ) (from len : ℕ) → len ≡ length (leading_run p (drop from s))
    → take (length s - (from + len)) (drop (from + len) s) ≡ behind_run p (drop from s)
tail_of p s from len e =
    between_to_end s (from + len) (length s) (omega arith) ∙ sym (drop-drop len from s)
    ∙ ap (λ n. drop n (drop from s)) e ∙ drop_leading_run p (drop from s)

front_of : (p : ℕ → Bool) (s : List ℕ) (from len : ℕ) → len ≡ length (leading_run p (drop from s))
    → take (from + len - from) (drop from s) ≡ leading_run p (drop from s)
front_of p s from len e =
    let q : from + len - from ≡ length (leading_run p (drop from s)) = omega arith in
    ap (λ n. take n (drop from s)) q ∙ take_leading_run p (drop from s)

module _ (p : ℕ → Bool) (base from len : ℕ) (s : List ℕ)
    (run : len ≡ length (leading_run p (drop from s))) where
  pub number_piece : (n v more : ℕ) → (len ≡ 0 → ⊥)
      → more ≡ semicolon_len (take (length s - (from + len)) (drop (from + len) s))
      → n ≡ min (number base 0 (take (from + len - from) (drop from s))) limit
      → v ≡ character_numbered n
      → ◌≡◌ {A = Piece} (record { following = from + len + more; characters = encode_utf8 v })
      (numbered p base from (drop from s))
  number_piece n v more z m e q =
      let filled : is_empty (leading_run p (drop from s)) ≡ false = filled_more _ (omega (arith, run)) in
      let digits : character_numbered (number base 0 (leading_run p (drop from s))) ≡ v =
      ap (λ t. character_numbered (number base 0 t)) (sym (front_of p s from len run))
      ∙ sym (limited (number base 0 (take (from + len - from) (drop from s))))
      ∙ ap character_numbered (sym e) ∙ sym q in
      let end : semicolon_len (behind_run p (drop from s)) ≡ more =
      ap semicolon_len (sym (tail_of p s from len run)) ∙ sym m in
      rw (filled, digits, end, sym run) refl

  pub number_cut : (more : ℕ) → IsUtf8 s → IsAsciiTest p → (len ≡ 0 → ⊥)
      → more ≡ semicolon_len (take (length s - (from + len)) (drop (from + len) s))
      → IsCharBoundary s (from + len + more)
  number_cut more u a z m =
      let w : from + len ≤ length s = omega (arith, run, run_within p (drop from s), length-drop from s) in
      let e : more ≡ semicolon_len (drop (from + len) s) =
      m ∙ ap semicolon_len (between_to_end s (from + len) (length s) (omega arith)) in
      test (first_is 59 (drop (from + len) s))
      (λ t. let one = rw t at e in
      let k : from + len + 1 ≡ from + len + more = omega arith in
      subst (IsCharBoundary s) k (cut_after_first s (from + len) 59 u (omega arith) t))
      (λ t. let none = rw t at e in
      let k : from + len ≡ from + len + more = omega arith in
      subst (IsCharBoundary s) k (cut_after_run p s from len u a run z))

-- ---- names

abbrev is_ascii_name : NamedReference → Bool
is_ascii_name r = list_all (λ b. nat_lt b 128) r.name

old_names_are_ascii : list_all is_ascii_name old_names ≡ true
unfolding old_names
old_names_are_ascii = refl

found_in : (rows : List NamedReference) (s : List ℕ) (r : NamedReference) → list_all is_ascii_name rows ≡ true
    → first_in rows s ≡ Some r → (begins_with r.name s ≡ true) × (is_ascii_name r ≡ true)
found_in [] s r a e = absurd (cc)
found_in (q ∷ rows) s r a e =
    let h = and_parts (is_ascii_name q) (list_all is_ascii_name rows) a in
    test (begins_with q.name s)
    (λ t. let f : Some q ≡ Some r = rw t at e in
    let k : q ≡ r = cc in
    (ap (λ (x : NamedReference). begins_with x.name s) (sym k) ∙ t, ap is_ascii_name (sym k) ∙ h.0))
    (λ t. let f = rw t at e in found_in rows s r h.1 f)

-- the old name with which a text begins stands in it, and the text may be cut after it
pub old_front : (s : List ℕ) (r : NamedReference) → Some r ≡ longest_old s → IsUtf8 s
    → (length r.name ≤ length s) × IsCharBoundary s (length r.name)
old_front s r e u =
    let h = found_in old_names s r old_names_are_ascii (sym e) in
    ((begins_front r.name s h.0).0, cut_after_beginning r.name s u h.0 h.1)

-- ---- a name with `;`

module _ (in_value : Bool) (s : List ℕ) (n : ℕ) (run : n ≡ length (leading_run is_ascii_alphanumeric s)) where
  tail_here : take (length s - n) (drop n s) ≡ behind_run is_ascii_alphanumeric s
  tail_here =
      between_to_end s n (length s) (omega arith) ∙ ap (λ k. drop k s) run
      ∙ drop_leading_run is_ascii_alphanumeric s

  front_here : leading_run is_ascii_alphanumeric s ≡ take n s
  front_here = sym (ap (λ k. take k s) run ∙ take_leading_run is_ascii_alphanumeric s)

  semicolon_here : (b : Bool) → b ≡ first_is 59 (take (length s - n) (drop n s))
      → first_is 59 (behind_run is_ascii_alphanumeric s) ≡ b
  semicolon_here b e = ap (first_is 59) (sym tail_here) ∙ sym e

  pub no_semicolon : (b : Bool) (piece : Piece) → b ≡ first_is 59 (take (length s - n) (drop n s)) → b ≡ false
      → piece ≡ old_reference in_value (longest_old s) s → piece ≡ reference_by_name in_value s
  no_semicolon b piece e f same = rw (semicolon_here b e ∙ f) same

  pub name_missing : (b : Bool) (piece : Piece) → b ≡ first_is 59 (take (length s - n) (drop n s)) → b ≡ true
      → None ≡ named (take n s)
      → piece ≡ old_reference in_value (longest_old s) s → piece ≡ reference_by_name in_value s
  name_missing b piece e f none_ same =
      let missing : named (leading_run is_ascii_alphanumeric s) ≡ None = ap named front_here ∙ sym none_ in
      rw (semicolon_here b e ∙ f, missing) same

  pub name_known : (b : Bool) (characters : List ℕ) → b ≡ first_is 59 (take (length s - n) (drop n s))
      → b ≡ true
      → Some characters ≡ named (take n s)
      → ◌≡◌ {A = Piece} (record { following = n + 1; characters = characters }) (reference_by_name in_value s)
  name_known b characters e f some_ =
      let known : named (leading_run is_ascii_alphanumeric s) ≡ Some characters = ap named front_here ∙ sym some_ in
      let k : suc (length (leading_run is_ascii_alphanumeric s)) ≡ n + 1 = omega (arith, run) in
      rw (semicolon_here b e ∙ f, known, k) refl

  pub name_cut : (b : Bool) → b ≡ first_is 59 (take (length s - n) (drop n s)) → b ≡ true → IsUtf8 s
      → n ≤ length s
      → IsCharBoundary s (n + 1)
  name_cut b e f u l =
      cut_after_first s n 59 u (omega arith)
      (ap (first_is 59) (sym (between_to_end s n (length s) (omega arith))) ∙ sym e ∙ f)
