-- The text in an encoding whose characters are of several bytes: the Encoding Standard, 10 to 13.
use Rattle.std.specs.Prelude.{ℕ, List, encode_utf8_all}
use Rattle.htmd_encodings.specs.declared.encodings.MultiByte.{MultiByte}
use Rattle.htmd_encodings.specs.declared.encodings.MultiByte.TheVariants.{Gbk, Gb18030, Big5, EucJp, ShiftJis, EucKr}
use Rattle.htmd_encodings.specs.declared.sequences.Sequence.{Sequence}
use Rattle.htmd_encodings.specs.Sequences.{characters_after}
use Rattle.htmd_encodings.specs.Gb18030 as gb18030
use Rattle.htmd_encodings.specs.Big5 as big5
use Rattle.htmd_encodings.specs.EucJp as euc_jp
use Rattle.htmd_encodings.specs.ShiftJis as shift_jis
use Rattle.htmd_encodings.specs.EucKr as euc_kr

-- what an encoding's decoder makes of a byte and of those after it
abbrev pub sequence_of : MultiByte → ℕ → List ℕ → Sequence
sequence_of Gbk = gb18030.sequence_of
sequence_of Gb18030 = gb18030.sequence_of
sequence_of Big5 = big5.sequence_of
sequence_of EucJp = euc_jp.sequence_of
sequence_of ShiftJis = shift_jis.sequence_of
sequence_of EucKr = euc_kr.sequence_of

abbrev pub multi_byte_text : MultiByte → List ℕ → List ℕ
multi_byte_text encoding bytes = encode_utf8_all (characters_after (sequence_of encoding) 0 bytes)
