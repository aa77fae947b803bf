-- Bytes that are eaten already, and one sequence more.
use Rattle.std.proofs.Common.{◌≡◌, ◌∙◌, ap, sym, refl, ℕ, zero, suc, Bool, List, [], ◌∷◌, ◌++◌, drop, append_assoc, ◌-◌, ◌≤◌}
use Rattle.std.proofs.Common.{encode_utf8_all, length, get_or, take, arith}
use Rattle.std.proofs.lemmas.List.{take_rest}
use Rattle.std.proofs.lemmas.Str.{encodes-append}
use Rattle.htmd_encodings.specs.declared.iso_2022_jp.Mode.{Mode}
use Rattle.htmd_encodings.specs.declared.iso_2022_jp.Step.{Step}
use Rattle.htmd_encodings.specs.declared.sequences.Sequence.{Sequence}
use Rattle.htmd_encodings.specs.Iso2022Jp.{characters_in, step_of}
use Rattle.htmd_encodings.specs.Sequences.{characters_after, characters_of}

-- the bytes that are eaten already are left out
after_eaten : (f : ℕ → List ℕ → Sequence) (n : ℕ) (s : List ℕ)
    → characters_after f n s ≡ characters_after f 0 (drop n s)
after_eaten f zero s = refl
after_eaten f (suc n) [] = refl
after_eaten f (suc n) (b ∷ s) = after_eaten f n s

-- the text so far, and then that of a sequence and of what follows it
sequence_more : (done characters following whole : List ℕ)
    → done ++ encode_utf8_all (characters ++ following) ≡ whole
    → (done ++ encode_utf8_all characters) ++ encode_utf8_all following ≡ whole
sequence_more done characters following whole h =
    append_assoc done (encode_utf8_all characters) (encode_utf8_all following)
    ∙ ap (λ text. done ++ text) (sym (encodes-append characters following)) ∙ h

-- one sequence more of an encoding with characters of several bytes
pub sequences_more : (f : ℕ → List ℕ → Sequence) (rest done done_then rest_then whole : List ℕ) (q : Sequence)
    → 1 ≤ length rest → q ≡ f (get_or rest 0 0) (take (length rest - 1) (drop 1 rest))
    → done_then ≡ done ++ encode_utf8_all (characters_of q.characters)
    → rest_then ≡ drop q.further (take (length rest - 1) (drop 1 rest))
    → done ++ encode_utf8_all (characters_after f 0 rest) ≡ whole
    → done_then ++ encode_utf8_all (characters_after f 0 rest_then) ≡ whole
sequences_more f [] done done_then rest_then whole q some e d r h = absurd (omega arith)
sequences_more f (b ∷ s) done done_then rest_then whole q some e d r h =
    rw (d, r, e, take_rest (b ∷ s) 1)
    (sequence_more done (characters_of (f b s).characters) (characters_after f 0 (drop (f b s).further s)) whole
    (rw (sym (after_eaten f (f b s).further s)) h))

-- ---- ISO-2022-JP

after_eaten_in : (mode : Mode) (is_escaped : Bool) (n : ℕ) (s : List ℕ)
    → characters_in mode is_escaped n s ≡ characters_in mode is_escaped 0 (drop n s)
after_eaten_in mode is_escaped zero s = refl
after_eaten_in mode is_escaped (suc n) [] = refl
after_eaten_in mode is_escaped (suc n) (b ∷ s) = after_eaten_in mode is_escaped n s

-- one sequence more of ISO-2022-JP
pub steps_more : (mode : Mode) (is_escaped : Bool) (rest done done_then rest_then whole : List ℕ) (q : Step)
    → 1 ≤ length rest → q ≡ step_of mode is_escaped (get_or rest 0 0) (take (length rest - 1) (drop 1 rest))
    → done_then ≡ done ++ encode_utf8_all (characters_of q.characters)
    → rest_then ≡ drop q.further (take (length rest - 1) (drop 1 rest))
    → done ++ encode_utf8_all (characters_in mode is_escaped 0 rest) ≡ whole
    → done_then ++ encode_utf8_all (characters_in q.mode q.is_escaped 0 rest_then) ≡ whole
steps_more mode is_escaped [] done done_then rest_then whole q some e d r h = absurd (omega arith)
steps_more mode is_escaped (b ∷ s) done done_then rest_then whole q some e d r h =
    let step = step_of mode is_escaped b s in
    rw (d, r, e, take_rest (b ∷ s) 1)
    (sequence_more done (characters_of step.characters)
    (characters_in step.mode step.is_escaped 0 (drop step.further s)) whole
    (rw (sym (after_eaten_in step.mode step.is_escaped step.further s)) h))
