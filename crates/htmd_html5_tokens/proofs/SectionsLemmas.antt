-- Pieces that denote nothing.
use Rattle.std.proofs.Common.{◌≡◌, ℕ, zero, suc, ◌<◌, ◌≤◌, Bool, List, [], ◌∷◌, length, drop, refl, sym, ap, ◌∙◌}
use Rattle.std.proofs.Common.{arith, codes, Option, Some, None, length-drop}
use Rattle.std.proofs.lemmas.Bool.{and_parts}
use Rattle.htmd_lexical.proofs.Cases.{test}
use Rattle.htmd_lexical.specs.CharacterClasses.{begins_with, is_empty}
use Rattle.htmd_html5_tokens.specs.NextToken.{begins_section, after_empty_section, after_empty_piece, or_else}
use Rattle.htmd_html5_tokens.specs.NextToken.{after_pieces}
use Rattle.htmd_scanning.proofs.BeginningsLemmas.{begins_front}

module _ (foreign : Bool) where
  section_within : (s rest : List ℕ) → Some rest ≡ after_empty_section s → length rest ≤ length s
  section_within s rest e =
      test (is_empty s) (λ q. let f : Some rest ≡ Some s = rw q at e in
      let g : rest ≡ s = cc in rw g (omega arith))
      (λ q. let f = rw q at e in test (begins_with (codes "]]>") s)
      (λ r. let g : Some rest ≡ Some (drop 3 s) = rw r at f in
      let h : rest ≡ drop 3 s = cc in rw h (omega (arith, length-drop 3 s)))
      (λ r. absurd (let g : Some rest ≡ None = rw r at f in cc)))

  -- each has at least one character
  pub piece_shorter : (s rest : List ℕ) → Some rest ≡ after_empty_piece foreign s → length rest < length s
  piece_shorter s rest e =
      test (begins_with (codes "</>") s)
      (λ q. let f : Some rest ≡ Some (drop 3 s) = rw q at e in
      let g : rest ≡ drop 3 s = cc in
      rw g (omega (arith, length-drop 3 s, (begins_front (codes "</>") s q).0)))
      (λ q. let f = rw q at e in test (begins_section foreign s)
      (λ r. let g : Some rest ≡ after_empty_section (drop 9 s) = rw r at f in
      let h = and_parts foreign (begins_with (codes "<![CDATA[") s) r in
      omega (arith, section_within (drop 9 s) rest g, length-drop 9 s, (begins_front (codes "<![CDATA[") s h.1).0))
      (λ r. absurd (let g : Some rest ≡ None = rw r at f in cc)))

  -- how many may stand there doesn't matter, once it is no less than that of characters
  pieces_same : (j k : ℕ) (s : List ℕ) → length s ≤ j → length s ≤ k
      → after_pieces j s foreign ≡ after_pieces k s foreign
  pieces_same zero zero s a b = refl
  pieces_same zero (suc k) s a b = by_piece (after_empty_piece foreign s) refl
    where
      by_piece : (o : Option (List ℕ)) → o ≡ after_empty_piece foreign s
          → s ≡ or_else s o (λ rest. after_pieces k rest foreign)
      by_piece None e = refl
      by_piece (Some rest) e = absurd (let l = piece_shorter s rest e in omega arith)
  pieces_same (suc j) zero s a b = by_piece (after_empty_piece foreign s) refl
    where
      by_piece : (o : Option (List ℕ)) → o ≡ after_empty_piece foreign s
          → or_else s o (λ rest. after_pieces j rest foreign) ≡ s
      by_piece None e = refl
      by_piece (Some rest) e = absurd (let l = piece_shorter s rest e in omega arith)
  pieces_same (suc j) (suc k) s a b =
      by_piece (after_empty_piece foreign s) refl (λ rest l. pieces_same j k rest (omega arith) (omega arith))
    where
      by_piece : (o : Option (List ℕ)) → o ≡ after_empty_piece foreign s
          → ((rest : List ℕ) → length rest < length s
          → after_pieces j rest foreign ≡ after_pieces k rest foreign)
          → or_else s o (λ rest. after_pieces j rest foreign) ≡ or_else s o (λ rest. after_pieces k rest foreign)
      by_piece None e go = refl
      by_piece (Some rest) e go = go rest (piece_shorter s rest e)

  -- one more
  pub nothing_more : (s rest : List ℕ) → Some rest ≡ after_empty_piece foreign s
      → after_pieces (length rest) rest foreign ≡ after_pieces (length s) s foreign
  nothing_more [] rest e = absurd (let l = piece_shorter [] rest e in omega arith)
  nothing_more (b ∷ s) rest e =
      let l = piece_shorter (b ∷ s) rest e in
      let f : after_pieces (length (b ∷ s)) (b ∷ s) foreign ≡ after_pieces (length s) rest foreign =
      sym (ap (λ (o : Option (List ℕ)). or_else (b ∷ s) o (λ r. after_pieces (length s) r foreign)) e) in
      pieces_same (length rest) (length s) rest (omega arith) (omega arith) ∙ sym f

  -- no more
  pub nothing_ends : (s : List ℕ) → None ≡ after_empty_piece foreign s
      → s ≡ after_pieces (length s) s foreign
  nothing_ends [] e = refl
  nothing_ends (b ∷ s) e =
      ap (λ (o : Option (List ℕ)). or_else (b ∷ s) o (λ r. after_pieces (length s) r foreign)) e
