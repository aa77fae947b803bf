-- Values with references, piece by piece.
use Rattle.std.proofs.Common.{◌≡◌, ℕ, zero, suc, ◌+◌, ◌<◌, true, false, List, []}
use Rattle.std.proofs.Common.{◌∷◌, ◌++◌, length, take, drop, get_or}
use Rattle.std.proofs.Common.{Option, None, Some, Ok, refl, ap, sym, subst, ◌∙◌, arith, append_assoc}
use Rattle.std.proofs.lemmas.Bool.Decides.{nat_tests}
use Rattle.std.proofs.lemmas.List.{drop-drop, get_or-drop}
use Rattle.std.specs.Char.{encode_utf8}
use Rattle.std.specs.Prelude.{◌==◌, slice_index}
use Rattle.std.specs.Str.{IsCharBoundary}
use Rattle.htmd_lexical.proofs.Cases.{test}
use Rattle.htmd_lexical.specs.CharacterClasses.{leading_run, behind_run}
use Rattle.htmd_grammar.specs.References.{stands, piece_at, behind, put, decode}
use Rattle.htmd_grammar.specs.Rules.{named_characters}
use Rattle.htmd_grammar.proofs.Readings.{behind_nothing}
use Rattle.htmd_tree.specs.DecodedCharacters.{is_itself, piece_of, HasPushed}
use Rattle.htmd_tree.specs.declared.reader.references.Character.{Character}
use Rattle.htmd_lexical.proofs.CharacterClassesLemmas.{take_leading_run, drop_leading_run, behind_leading_run}
use Rattle.htmd_tree.proofs.TextRunsLemmas.{before_others}

behind_both : (v w : List ℕ) (o : Option (List ℕ)) → behind (v ++ w) o ≡ behind v (behind w o)
behind_both v w None = refl
behind_both v w (Some u) = ap Some (append_assoc v w u)

-- what belongs to a piece that began before is passed over
pub decode_passes : (n : ℕ) (s : List ℕ) → decode named_characters n s ≡ decode named_characters 0 (drop n s)
decode_passes zero s = refl
decode_passes (suc n) [] = refl
decode_passes (suc n) (b ∷ s) = decode_passes n s

itself : (b : ℕ) → is_itself b ≡ true → ((b == 38) ≡ false) × ((b == 13) ≡ false)
itself b e = (grind (arith, nat_tests), grind (arith, nat_tests))

itself_piece : (b : ℕ) (s : List ℕ) → is_itself b ≡ true
    → piece_at named_characters b s ≡ stands 0 (b ∷ [])
itself_piece b s e = let k = itself b e in rw (k.0, k.1) refl

literal : (s : List ℕ) → behind (leading_run is_itself s) (decode named_characters 0 (behind_run is_itself s))
    ≡ decode named_characters 0 s
literal [] = refl
literal (b ∷ s) =
    test (is_itself b)
    (λ q. let p = itself_piece b s q in
    rw (q, p) (behind_both (b ∷ []) (leading_run is_itself s) (decode named_characters 0 (behind_run is_itself s))
    ∙ ap (behind (b ∷ [])) (literal s)))
    (λ q. rw q (behind_nothing (decode named_characters 0 (b ∷ s))))

-- the characters that stand for themselves
pub literal_pushed : (before s front rest after : List ℕ) (len : ℕ) → len ≡ length (leading_run is_itself s)
    → front ≡ take len s → rest ≡ drop len s → after ≡ before ++ front → HasPushed before s after rest
literal_pushed before s front rest after len e f r a =
    let g : after ≡ before ++ leading_run is_itself s =
    a ∙ ap (λ x. before ++ x) (f ∙ ap (λ m. take m s) e ∙ take_leading_run is_itself s) in
    let h : rest ≡ behind_run is_itself s = r ∙ ap (λ m. drop m s) e ∙ drop_leading_run is_itself s in
    ap (λ x. behind x (decode named_characters 0 rest)) g
    ∙ ap (λ x. behind (before ++ leading_run is_itself s) (decode named_characters 0 x)) h
    ∙ behind_both before (leading_run is_itself s) (decode named_characters 0 (behind_run is_itself s))
    ∙ ap (behind before) (literal s)

low : (b : ℕ) → is_itself b ≡ false → b < 128
low b e = grind (arith, nat_tests)

pub literal_cut : (s : List ℕ) (n : ℕ) → n ≡ length (leading_run is_itself s) → IsCharBoundary s n
literal_cut s n e = subst (IsCharBoundary s) (sym e) (before_others is_itself s low)

-- an ASCII character comes after them
pub literal_end : (s rest : List ℕ) (n : ℕ) → n ≡ length (leading_run is_itself s) → rest ≡ drop n s
    → length rest + n ≡ length s → 0 < length rest → slice_index rest 0 < 128
literal_end s rest n e r l m =
    let at : length (leading_run is_itself s) < length s = omega arith in
    let q = low (get_or s (length (leading_run is_itself s)) 0) (behind_leading_run is_itself s at) in
    let z : n + 0 ≡ length (leading_run is_itself s) = omega arith in
    subst (λ v. v < 128) (sym (ap (λ x. get_or x 0 0) r ∙ get_or-drop n s 0 0 ∙ ap (λ m. get_or s m 0) z)) q

-- ---- a character

special : (b : ℕ) (s before after : List ℕ) (character : Character)
    → piece_at named_characters b s ≡ stands character.behind (encode_utf8 character.value)
    → after ≡ before ++ encode_utf8 character.value
    → HasPushed before (b ∷ s) after (drop character.behind s)
special b s before after character p a =
    ap (λ x. behind x (decode named_characters 0 (drop character.behind s))) a
    ∙ behind_both before (encode_utf8 character.value) (decode named_characters 0 (drop character.behind s))
    ∙ ap (λ o. behind before (behind (encode_utf8 character.value) o)) (sym (decode_passes character.behind s))
    ∙ ap (λ q. behind before (put q (λ n. decode named_characters n s))) (sym p)

pub character_pushed : (s x before after rest : List ℕ) (character : Character) → 0 < length s → x ≡ drop 1 s
    → piece_of (Ok character) ≡ piece_at named_characters (slice_index s 0) x
    → after ≡ before ++ encode_utf8 character.value → rest ≡ drop (1 + character.behind) s
    → HasPushed before s after rest
character_pushed [] x before after rest character l e p a r = absurd (omega arith)
character_pushed (b ∷ s) x before after rest character l e p a r =
    let q : piece_at named_characters b s ≡ stands character.behind (encode_utf8 character.value) =
    ap (piece_at named_characters b) (sym e) ∙ sym p in
    let k : rest ≡ drop character.behind s = r ∙ sym (drop-drop character.behind 1 (b ∷ s)) in
    subst (λ y. HasPushed before (b ∷ s) after y) (sym k) (special b s before after character q a)
