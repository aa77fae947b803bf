-- How places in a row are written: `odd`, `even`, `3` or `2n+1` (CSS Syntax Level 3, 6).
use Rattle.std.specs.Prelude.{ℕ, ◌+◌, ◌-◌, ◌*◌, min, Bool, false, true, ◌==◌, if◌then◌else◌}
use Rattle.std.specs.Prelude.{List, [], ◌∷◌, length, take, drop, codes, Option, Some, None}
use Rattle.std.specs.Char.{is_ascii_digit, to_ascii_lowercase}
use Rattle.std.specs.List.{prefix_len, suffix_len}
use Rattle.htmd_lexical.specs.Characters.{plus_sign, hyphen, digit_zero}
use Rattle.htmd_lexical.specs.WhiteSpace.{is_ascii_white_space}
use Rattle.htmd_selectors.specs.Matching.{same_name}
use Rattle.htmd_selectors.specs.declared.series.Notation.{Notation}
use Rattle.htmd_selectors.specs.declared.series.Series.{Series}
use Rattle.htmd_selectors.specs.declared.series.Stage.{Stage}
use Rattle.htmd_selectors.specs.declared.series.Stage.TheVariants as stage

abbrev pub small_letter_n : ℕ
small_letter_n = 0x6E

-- a greater number counts as this one
abbrev pub greatest : ℕ
greatest = 0x7FFF_FFFF

abbrev pub with_digit : ℕ → ℕ → ℕ
with_digit n b = min (n * 10 + (b - digit_zero)) greatest

abbrev pub is_letter : ℕ → Bool
is_letter b = to_ascii_lowercase b == small_letter_n

abbrev pub in_stage : Stage → Notation → Notation
in_stage next r = record r { stage = next }

-- the digits of the first number go on
abbrev pub extend_first : ℕ → Notation → Option Notation
extend_first b r =
    if is_ascii_digit b then Some (record r { stage = stage.InFirst; first = with_digit r.first b }) else None

-- the first number begins; `n` alone stands for `1n`
abbrev pub begin_first : ℕ → Notation → Option Notation
begin_first b r = if is_letter b then Some (record r { stage = stage.AfterLetter; first = 1 }) else extend_first b r

-- it has a sign
abbrev pub begin : ℕ → Notation → Option Notation
begin b r =
    if b == plus_sign then Some (in_stage stage.Signed r)
    else (if b == hyphen then Some (record r { stage = stage.Signed; falls = true }) else begin_first b r)

abbrev pub in_first : ℕ → Notation → Option Notation
in_first b r = if is_letter b then Some (in_stage stage.AfterLetter r) else extend_first b r

-- the second number has a sign, and white space around that
abbrev pub after_letter : ℕ → Notation → Option Notation
after_letter b r =
    if b == plus_sign then Some (in_stage stage.AfterSign r)
    else (if b == hyphen then Some (record r { stage = stage.AfterSign; is_below = true })
    else (if is_ascii_white_space b then Some r else None))

abbrev pub in_second : ℕ → Notation → Option Notation
in_second b r =
    if is_ascii_digit b then Some (record r { stage = stage.InSecond; second = with_digit r.second b }) else None

abbrev pub after_sign : ℕ → Notation → Option Notation
after_sign b r = if is_ascii_white_space b then Some r else in_second b r

abbrev pub read_by : Stage → ℕ → Notation → Option Notation
read_by stage.Begun b r = begin b r
read_by stage.Signed b r = begin_first b r
read_by stage.InFirst b r = in_first b r
read_by stage.AfterLetter b r = after_letter b r
read_by stage.AfterSign b r = after_sign b r
read_by stage.InSecond b r = in_second b r

abbrev pub read_next : ℕ → Option Notation → Option Notation
read_next b (Some r) = read_by r.stage b r
read_next b None = None

abbrev pub read_all : List ℕ → Option Notation → Option Notation
read_all [] r = r
read_all (b ∷ s) r = read_all s (read_next b r)

-- a number alone is one place
abbrev pub finished : Stage → Notation → Option Series
finished stage.Begun r = None
finished stage.Signed r = None
finished stage.InFirst r =
    Some (record { step = 0; falls = false; offset = r.first; is_below = r.falls })
finished stage.AfterLetter r =
    Some (record { step = r.first; falls = r.falls; offset = r.second; is_below = r.is_below })
finished stage.AfterSign r = None
finished stage.InSecond r =
    Some (record { step = r.first; falls = r.falls; offset = r.second; is_below = r.is_below })

abbrev pub series_read : Option Notation → Option Series
series_read (Some r) = finished r.stage r
series_read None = None

abbrev pub nothing_read : Notation
nothing_read = record { stage = stage.Begun; falls = false; first = 0; is_below = false; second = 0 }

abbrev pub numbered : List ℕ → Option Series
numbered s = series_read (read_all s (Some nothing_read))

abbrev pub by_two : ℕ → Series
by_two offset = record { step = 2; falls = false; offset = offset; is_below = false }

-- a text without the white space at its start, and at its end
abbrev pub without_start : List ℕ → List ℕ
without_start s = drop (prefix_len is_ascii_white_space s) s

abbrev pub without_end : List ℕ → List ℕ
without_end s = take (length s - suffix_len is_ascii_white_space s) s

abbrev pub named_series : List ℕ → Option Series
named_series s =
    if same_name s (codes "odd") then Some (by_two 1)
    else (if same_name s (codes "even") then Some (by_two 0) else numbered s)

-- the places that a text names
abbrev pub series_of : List ℕ → Option Series
series_of s = named_series (without_end (without_start s))
