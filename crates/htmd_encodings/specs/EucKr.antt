-- EUC-KR: the Encoding Standard, 13.1.1, "EUC-KR decoder".
use Rattle.std.specs.Prelude.{ℕ, ◌+◌, ◌-◌, ◌*◌, if◌then◌else◌, List, [], ◌∷◌, ◌++◌}
use Rattle.std.specs.Char.{is_ascii}
use Rattle.htmd_lexical.specs.Numbers.{is_between}
use Rattle.htmd_encodings.specs.declared.indexes.euc_kr_first.TheConstants.{EUC_KR_FIRST}
use Rattle.htmd_encodings.specs.declared.indexes.euc_kr_rest.TheConstants.{EUC_KR_REST}
use Rattle.htmd_encodings.specs.declared.sequences.Sequence.{Sequence}
use Rattle.htmd_encodings.specs.Sequences.{character_at, error, pair, reads}

-- the character of two bytes
abbrev pub character : ℕ → ℕ → ℕ
character lead b =
    if is_between 0x41 0xFE b
    then character_at (EUC_KR_FIRST ++ EUC_KR_REST) ((lead - 0x81) * 190 + (b - 0x41))
    else 0xFFFD

-- after a lead byte
abbrev pub after_lead : ℕ → List ℕ → Sequence
after_lead lead [] = error 0
after_lead lead (b ∷ s) = pair (character lead b) b

abbrev pub sequence_of : ℕ → List ℕ → Sequence
sequence_of b s =
    if is_ascii b then reads b 0 else if is_between 0x81 0xFE b then after_lead b s else error 0
