-- What is missing at the end of a text is missing at its ends.
use Rattle.std.proofs.Common.{◌≡◌, ◌∙◌, ℕ, zero, suc, ◌+◌, ◌-◌, ◌<◌, ◌≤◌, List, [], ◌∷◌, length, drop, refl, ap}
use Rattle.std.proofs.Common.{sym, subst, arith, inl, inr, Option, Some, None}
use Rattle.std.specs.Prelude.{codes}
use Rattle.std.proofs.lemmas.List.{drop-drop}
use Rattle.htmd_lexical.proofs.Cases.{test}
use Rattle.htmd_lexical.specs.CharacterClasses.{begins_with}
use Rattle.htmd_commonmark_reading.specs.Characters.{one_more}
use Rattle.htmd_commonmark_reading.specs.RawTags.{through}
use Rattle.htmd_commonmark_reader.specs.Missing.{IsMissing, IsNoted, AreMissing}
use Rattle.htmd_commonmark_reader.specs.Steps.{IsEnd}
use Rattle.htmd_commonmark_reader.specs.declared.raw_tags.Missing.{Missing}
use Rattle.htmd_commonmark_reader.proofs.RestsLemmas.{rest_by_length, then}

none_more : (c : ℕ) (o : Option (List ℕ)) → one_more c o ≡ None → o ≡ None
none_more c None e = refl
none_more c (Some s) e = absurd (cc)

through_drop : (signs : List ℕ) (n : ℕ) (s : List ℕ) → through signs s ≡ None
    → through signs (drop n s) ≡ None
through_drop signs zero [] e = refl
through_drop signs (suc n) [] e = refl
through_drop signs zero (c ∷ s) e = e
through_drop signs (suc n) (c ∷ s) e =
    test (begins_with signs (c ∷ s)) (λ b. let f = rw b at e in absurd (cc))
    (λ b. through_drop signs n s (none_more c (through signs s) (rw b at e)))

-- the shorter one of two ends of a text is an end of the other
shorter_end : (s e f : List ℕ) → IsEnd s e → IsEnd s f → length f ≤ length e → IsEnd e f
shorter_end s e f h k l =
    let a = rest_by_length s e h in
    let b = rest_by_length s f k in
    let m = length s - length e in
    let n = length e - length f in
    let all : m + n ≡ length s - length f = omega (arith, a.0, b.0) in
    (n, b.1 ∙ ap (λ j. drop j s) (sym all) ∙ sym (drop-drop n m s) ∙ ap (drop n) (sym a.1))

pub missing_behind : (signs s e : List ℕ) (n : ℕ) → IsMissing signs s n → IsEnd s e → IsMissing signs e n
missing_behind signs s e n k h = λ f g l. k f (then s e f h g) l

pub all_behind : (s e : List ℕ) (m : Missing) → AreMissing s m → IsEnd s e → AreMissing e m
all_behind s e m k h = record {
  comment = missing_behind (codes "-->") s e m.comment k.comment h;
  instruction = missing_behind (codes "?>") s e m.instruction k.instruction h;
  declaration = missing_behind (codes ">") s e m.declaration k.declaration h;
  section = missing_behind (codes "]]>") s e m.section k.section h;
}

pub noted_more : (signs s e : List ℕ) (old new : ℕ) → IsMissing signs s old → IsEnd s e
    → IsNoted signs e old new → IsMissing signs s new
noted_more signs s e old new k h (inl q) = subst (IsMissing signs s) (sym q) k
noted_more signs s e old new k h (inr (q, z)) = λ f g l.
    let i = shorter_end s e f h g (omega (arith, q, l)) in
    ap (through signs) i.1 ∙ through_drop signs i.0 e z

pub nothing_missing : (signs s : List ℕ) → IsMissing signs s 0
nothing_missing signs s = λ e h l. go e l
  where
    go : (e : List ℕ) → length e ≤ 0 → through signs e ≡ None
    go [] l = refl
    go (c ∷ e) l = absurd (omega arith)

-- behind a character
pub missing_next : (m : Missing) (here next : List ℕ) → AreMissing (drop 1 here) m → IsEnd here next
    → length next < length here → AreMissing next m
missing_next m [] next k h l = absurd (omega arith)
missing_next m (c ∷ s) next k h l = all_behind s next m k (end_of c s next h l)
  where
    end_of : (c : ℕ) (s next : List ℕ) → IsEnd (c ∷ s) next → length next < length (c ∷ s) → IsEnd s next
    end_of c s next (zero, e) l = absurd (omega (arith, ap length e))
    end_of c s next (suc n, e) l = (n, e)
