-- The line feed that `pre` and `textarea` drop: no name of a reference stands for one.
use Rattle.std.proofs.Common.{◌≡◌, ℕ, zero, suc, ◌+◌, ◌-◌, ◌<◌, ◌≤◌, Bool, true, false, not, ◌&&◌, List, [], ◌∷◌, ◌++◌}
use Rattle.std.proofs.Common.{length, take, drop, get_or, refl, sym, ◌∙◌, ap, subst, arith, eqb, length-drop}
use Rattle.std.proofs.Common.{Option, Some, None}
use Rattle.std.specs.List.{list_all}
use Rattle.std.specs.Char.{encode_utf8, is_ascii_alphanumeric}
use Rattle.std.specs.Str.{bytes_eq, IsUtf8, IsCharBoundary}
use Rattle.std.proofs.lemmas.List.{append-nil, take_all}
use Rattle.std.proofs.lemmas.Slice.Eq.{bytes_eq-Decides}
use Rattle.std.proofs.lemmas.Str.{IsCharBoundary-start, IsCharBoundary-after_ascii, char_from_byte, encode_ascii}
use Rattle.htmd_lexical.proofs.Cases.{test}
use Rattle.htmd_lexical.specs.Characters.{line_feed}
use Rattle.htmd_lexical.specs.CharacterClasses.{first_is, leading_run, behind_run}
use Rattle.htmd_grammar.specs.Rules.{NamedCharacter, character_named, named_characters}
use Rattle.htmd_grammar.specs.References.{Piece, stands, wrong, named, behind_ampersand, piece_at, less_line_feed}
use Rattle.htmd_grammar.specs.References.{after_line_feed}
use Rattle.htmd_grammar.specs.declared.fault.FaultKind.{FaultKind}
use Rattle.htmd_tree.specs.DecodedCharacters.{IsPieceEnd}

both_left : (x y : Bool) → (x && y) ≡ true → x ≡ true
both_left true y e = refl
both_left false y e = e

-- ---- no name stands for a line feed

abbrev is_line_feed : List ℕ → Bool
is_line_feed v = bytes_eq v (line_feed ∷ [])

named_other : (names : List NamedCharacter) (n : List ℕ) (c : ℕ)
    → list_all (λ e. not (is_line_feed (encode_utf8 e.character))) names ≡ true
    → character_named names n ≡ Some c
    → is_line_feed (encode_utf8 c) ≡ false
named_other [] n c a e = absurd (cc)
named_other (x ∷ names) n c a e =
    test (bytes_eq n x.name)
    (λ f. let g : Some x.character ≡ Some c = rw f at e in let k : x.character ≡ c = cc in
    let h : not (is_line_feed (encode_utf8 x.character)) ≡ true = both_left _ _ a in rw k at (not_true _ h))
    (λ f. named_other names n c (both_right _ _ a) (rw f at e))
  where
    both_right : (x y : Bool) → (x && y) ≡ true → y ≡ true
    both_right true y e = e
    both_right false y e = absurd (cc)

    not_true : (x : Bool) → not x ≡ true → x ≡ false
    not_true true e = sym e
    not_true false e = refl

names_pass : list_all (λ e. not (is_line_feed (encode_utf8 e.character))) named_characters ≡ true
unfolding encode_utf8
names_pass = refl

same_named : (n b : ℕ) (s name : List ℕ)
    → less_line_feed (named n (character_named named_characters name)) b s ≡ b ∷ s
same_named n b s name = by_character (character_named named_characters name) refl
  where
    by_character : (o : Option ℕ) → character_named named_characters name ≡ o
        → less_line_feed (named n o) b s ≡ b ∷ s
    by_character None e = refl
    by_character (Some c) e = rw (named_other named_characters name c names_pass e) refl

same_ampersand : (b : ℕ) (s : List ℕ)
    → less_line_feed (behind_ampersand named_characters s) b s ≡ less_line_feed (behind_ampersand [] s) b s
same_ampersand b s =
    test (first_is 35 s) (λ e. rw e refl)
    (λ e. test (first_is 59 (behind_run is_ascii_alphanumeric s) && not (first_is 59 s))
    (λ f. rw (e, f) (same_named (suc (length (leading_run is_ascii_alphanumeric s))) b s
    (leading_run is_ascii_alphanumeric s)))
    (λ f. rw (e, f) refl))

same_less : (b : ℕ) (s : List ℕ)
    → less_line_feed (piece_at named_characters b s) b s ≡ after_line_feed [] (b ∷ s)
same_less b s = test (eqb b 38) (λ e. rw e (same_ampersand b s)) (λ e. rw e refl)

-- ---- what is left

line_feed_dropped : (b n c : ℕ) (s : List ℕ) → stands n (encode_utf8 c) ≡ piece_at named_characters b s
    → c ≡ 10
    → drop n s ≡ after_line_feed [] (b ∷ s)
line_feed_dropped b n c s e k =
    let v : encode_utf8 c ≡ 10 ∷ [] = ap encode_utf8 k ∙ encode_ascii 10 (omega arith) in
    let p : stands n (10 ∷ []) ≡ piece_at named_characters b s = ap (λ (x : List ℕ). stands n x) (sym v) ∙ e in
    ap (λ (x : Piece). less_line_feed x b s) p ∙ same_less b s

nothing_dropped : (b n c : ℕ) (s : List ℕ) → stands n (encode_utf8 c) ≡ piece_at named_characters b s
    → (c ≡ 10 → ⊥)
    → b ∷ s ≡ after_line_feed [] (b ∷ s)
nothing_dropped b n c s e k =
    let f : is_line_feed (encode_utf8 c) ≡ false = other c k in
    let g : less_line_feed (stands n (encode_utf8 c)) b s ≡ b ∷ s = rw f refl in
    sym g ∙ (ap (λ (x : Piece). less_line_feed x b s) e ∙ same_less b s)
  where
    other : (c : ℕ) → (c ≡ 10 → ⊥) → is_line_feed (encode_utf8 c) ≡ false
    other c k =
        test (is_line_feed (encode_utf8 c))
        (λ t. let w : encode_utf8 c ≡ 10 ∷ [] = (bytes_eq-Decides (encode_utf8 c) (10 ∷ [])).0 t in
        let x : 10 ∷ [] ≡ encode_utf8 c ++ [] = sym (append-nil (encode_utf8 c) ∙ w) in
        absurd (k (char_from_byte (10 ∷ []) [] c x (omega arith) (omega arith))))
        (λ t. t)

-- the piece with which a text begins
first_piece : (text bytes : List ℕ) (p : Piece) → bytes ≡ text → 1 ≤ length bytes
    → p ≡ piece_at named_characters (get_or bytes 0 0) (take (length bytes - 1) (drop 1 bytes))
    → (b : ℕ) × (s : List ℕ) × (text ≡ b ∷ s) × (p ≡ piece_at named_characters b s)
first_piece [] bytes p q l e = let k = ap length q in absurd (omega arith)
first_piece (b ∷ s) bytes p q l e =
    let t : take (length (b ∷ s) - 1) s ≡ s = take_all (length (b ∷ s) - 1) s (omega arith) in
    let f : p ≡ piece_at named_characters b (take (length (b ∷ s) - 1) s) = rw q at e in
    (b, s, refl, f ∙ ap (λ (x : List ℕ). piece_at named_characters b x) t)

-- a text may be cut where a piece ends
cut_at_end : (s : List ℕ) (n : ℕ) → IsUtf8 s → IsPieceEnd s n → IsCharBoundary s n
cut_at_end s zero u h = IsCharBoundary-start s u
cut_at_end s (suc n) u h =
    let k : n + 1 ≡ suc n = omega arith in
    let j : suc n - 1 ≡ n = omega arith in
    let b : get_or s n 0 < 128 = subst (λ (m : ℕ). get_or s m 0 < 128) j (h.1 (omega arith)) in
    subst (λ (m : ℕ). IsCharBoundary s m) k (IsCharBoundary-after_ascii s n u (omega arith) b)

pub content_cut : (text bytes tail : List ℕ) (n : ℕ) → bytes ≡ text
    → IsPieceEnd (take (length bytes - 1) (drop 1 bytes)) n → tail ≡ drop 1 text → IsUtf8 tail
    → IsCharBoundary tail n
content_cut text bytes tail n q e t u =
    let d = length-drop 1 bytes in
    let w : take (length bytes - 1) (drop 1 bytes) ≡ drop 1 bytes =
    take_all (length bytes - 1) (drop 1 bytes) (omega arith) in
    let g : take (length bytes - 1) (drop 1 bytes) ≡ tail = w ∙ (ap (drop 1) q ∙ sym t) in
    cut_at_end tail n u (subst (λ (x : List ℕ). IsPieceEnd x n) g e)

pub content_dropped : (text bytes tail rest : List ℕ) (n c : ℕ) → bytes ≡ text → 1 ≤ length bytes
    → stands n (encode_utf8 c)
    ≡ piece_at named_characters (get_or bytes 0 0) (take (length bytes - 1) (drop 1 bytes))
    → c ≡ 10 → tail ≡ drop 1 text → rest ≡ drop n tail → rest ≡ after_line_feed [] text
content_dropped text bytes tail rest n c q l e k t d =
    let f = first_piece text bytes (stands n (encode_utf8 c)) q l e in
    d ∙ (ap (λ (x : List ℕ). drop n x) (t ∙ ap (drop 1) f.2)
    ∙ (line_feed_dropped f.0 n c f.1 f.3 k ∙ ap (after_line_feed []) (sym f.2)))

pub content_other : (text bytes : List ℕ) (n c : ℕ) → bytes ≡ text → 1 ≤ length bytes
    → stands n (encode_utf8 c)
    ≡ piece_at named_characters (get_or bytes 0 0) (take (length bytes - 1) (drop 1 bytes))
    → (c ≡ 10 → ⊥) → text ≡ after_line_feed [] text
content_other text bytes n c q l e k =
    let f = first_piece text bytes (stands n (encode_utf8 c)) q l e in
    f.2 ∙ (nothing_dropped f.0 n c f.1 f.3 k ∙ ap (after_line_feed []) (sym f.2))

pub content_wrong : (text bytes : List ℕ) (kind : FaultKind) → bytes ≡ text → 1 ≤ length bytes
    → wrong kind ≡ piece_at named_characters (get_or bytes 0 0) (take (length bytes - 1) (drop 1 bytes))
    → text ≡ after_line_feed [] text
content_wrong text bytes kind q l e =
    let f = first_piece text bytes (wrong kind) q l e in
    f.2 ∙ (ap (λ (x : Piece). less_line_feed x f.0 f.1) f.3
    ∙ (same_less f.0 f.1 ∙ ap (after_line_feed []) (sym f.2)))
