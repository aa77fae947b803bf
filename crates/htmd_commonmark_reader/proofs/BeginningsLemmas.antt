-- Beginnings of a text, piece by piece.
use Rattle.std.proofs.Common.{◌≡◌, ◌∙◌, ℕ, ◌+◌, ◌<◌, ◌≤◌, true, List, [], ◌∷◌, ◌++◌, length, take, drop, get_or}
use Rattle.std.proofs.Common.{Option, Some, None, refl, ap, sym, subst, append_assoc, arith}
use Rattle.std.proofs.lemmas.Bool.{eqb-true}
use Rattle.std.proofs.lemmas.List.{take_more, length-append}
use Rattle.std.proofs.lemmas.List.Prefix.{front_reads, front_rest, front_fits}
use Rattle.std.proofs.lemmas.Str.{IsUtf8-drop, IsCharBoundary-after_ascii}
use Rattle.std.proofs.Math.Seq.{take-add, take-append_seam}
use Rattle.std.specs.Str.{IsUtf8}
use Rattle.htmd_lexical.specs.CharacterClasses.{first_is, begins_with}
use Rattle.htmd_scanning.proofs.BeginningsLemmas.{begins_front}
use Rattle.htmd_commonmark_reading.specs.Characters.{one_more, in_front_of}

pub front_nothing : (o : Option (List ℕ)) → in_front_of [] o ≡ o
front_nothing None = refl
front_nothing (Some s) = refl

pub front_one_more : (a : List ℕ) (c : ℕ) (o : Option (List ℕ))
    → in_front_of a (one_more c o) ≡ in_front_of (a ++ (c ∷ [])) o
front_one_more a c None = refl
front_one_more a c (Some s) = ap Some (sym (append_assoc a (c ∷ []) s))

pub front_twice : (a b : List ℕ) (o : Option (List ℕ))
    → in_front_of a (in_front_of b o) ≡ in_front_of (a ++ b) o
front_twice a b None = refl
front_twice a b (Some s) = ap Some (sym (append_assoc a b s))

-- one more character of a text before what follows
pub front_step : (s : List ℕ) (i : ℕ) (o : Option (List ℕ)) → i < length s
    → in_front_of (take i s) (one_more (get_or s i 0) o) ≡ in_front_of (take (i + 1) s) o
front_step s i o l =
    front_one_more (take i s) (get_or s i 0) o ∙ ap (λ t. in_front_of t o) (sym (take_more s i 0 l))

-- signs that stand at a place
pub front_signs : (signs s : List ℕ) (i : ℕ) → begins_with signs (drop i s) ≡ true
    → take i s ++ signs ≡ take (i + length signs) s
front_signs signs s i e =
    let f = begins_front signs (drop i s) e in
    ap (λ t. take i s ++ t) (sym f.1) ∙ sym (take-add i (length signs) s)

pub first_sign : (c : ℕ) (s : List ℕ) → first_is c s ≡ true → s ≡ c ∷ drop 1 s
first_sign c [] e = absurd (cc)
first_sign c (d ∷ s) e = ap (λ x. x ∷ s) (eqb-true d c e)

-- so many characters at the beginning of a text are what was to be found there
pub record IsBeginning (s : List ℕ) (n : ℕ) (found : Option (List ℕ)) : Type 0 where
  pub within : n ≤ length s
  pub value : Some (take n s) ≡ found

pub is_beginning : (s p rest : List ℕ) (n : ℕ) (found : Option (List ℕ)) → s ≡ p ++ rest → n ≡ length p
    → found ≡ Some p → IsBeginning s n found
is_beginning s p rest n found e m f = record {
  within = omega (arith, e, ap length e, length-append p rest);
  value = ap (λ k. Some (take k s)) m ∙ ap (λ t. Some (take (length p) t)) e ∙ ap Some (take-append_seam p rest)
      ∙ sym f;
}

-- what follows an ASCII character of a text is a text
pub behind_sign : (c : ℕ) (rest front behind : List ℕ) → c < 128 → IsUtf8 rest
    → rest ≡ front ++ (c ∷ behind)
    → IsUtf8 behind
behind_sign c rest front behind low u e =
    let size = length-append front (c ∷ []) in
    let all : rest ≡ (front ++ c ∷ []) ++ behind = e ∙ sym (append_assoc front (c ∷ []) behind) in
    let at : get_or rest (length front) 0 ≡ c =
    front_reads 0 rest (front ++ c ∷ []) behind all (length front) (omega arith) ∙ get_or-push front c in
    let within : length front < length rest = omega (arith, front_fits rest (front ++ c ∷ []) behind all) in
    let cut = IsCharBoundary-after_ascii rest (length front) u within (omega arith) in
    let k : length front + 1 ≡ length (front ++ c ∷ []) = omega arith in
    subst IsUtf8 (ap (λ n. drop n rest) k ∙ front_rest rest (front ++ c ∷ []) behind all)
    (IsUtf8-drop rest (length front + 1) u cut)
  where
    get_or-push : (l : List ℕ) (b : ℕ) → get_or (l ++ b ∷ []) (length l) 0 ≡ b
    get_or-push [] b = refl
    get_or-push (d ∷ l) b = get_or-push l b
