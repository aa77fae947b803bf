-- Steps of the scan of a text.
use Rattle.std.specs.Prelude.{◌≡◌, ℕ, ◌<◌, Bool, false, true, if◌then◌else◌, List, [], ◌∷◌, ◌++◌}
use Rattle.std.specs.Prelude.{codes, length, drop, reverse}
use Rattle.htmd_lexical.specs.Characters.{space}
use Rattle.htmd_lexical.specs.CharacterClasses.{begins_with}
use Rattle.htmd_commonmark_reading.specs.Markup.{Inlines, no_inlines, letter, line_break}
use Rattle.htmd_commonmark_reading.specs.Brackets.{References, Brackets, outermost, bracket, Step, Kind, kind}
use Rattle.htmd_commonmark_reading.specs.Brackets.{scanned, before_end}
use Rattle.htmd_commonmark_reading.specs.Brackets as spec
use Rattle.htmd_commonmark_reader.specs.Scans.{IsScan}
use Rattle.htmd_commonmark_reader.specs.declared.brackets.Bracket.{Bracket}
use Rattle.htmd_commonmark_reader.specs.declared.brackets.Scan.{Scan}

abbrev pub is_other_kind : Kind → Bool
is_other_kind spec.other = true
is_other_kind _ = false

-- a byte that begins nothing
abbrev pub is_other : ℕ → Bool
is_other c = is_other_kind (kind c)

-- a line's end, by the text before it
abbrev pub break_inlines : List ℕ → Inlines
break_inlines before =
    if begins_with (codes "  ") before then line_break no_inlines else letter space no_inlines

-- the end of a text
abbrev pub IsEnd : List ℕ → List ℕ → Type 0
IsEnd s end = (n : ℕ) × (end ≡ drop n s)

-- the text behind each open bracket ends so
abbrev pub EndIn : List ℕ → Brackets → Type 0
EndIn end (outermost ts) = Unit {0}
EndIn end (bracket i a s ts below) = IsEnd s end × EndIn end below

-- a step of the definition, and what follows its characters
pub record IsStep (step : Step) (after rest : List ℕ) (scan : Scan) : Type 0 where
  pub stack : IsScan step.brackets scan
  pub behind : rest ≡ drop step.more after

-- the last bracket that is open
abbrev pub IsLastOf : List Bracket → Bracket → Type 0
IsLastOf ks k = (others : List Bracket) × (ks ≡ others ++ (k ∷ []))

-- From one place of a text to another the scan goes on as the definition does.
pub record GoesOn (refs : References) (source here : List ℕ) (b : Brackets) (next : List ℕ) (scan : Scan) : Type 0
  where
    pub brackets : Brackets
    pub stack : IsScan brackets scan
    pub ends : EndIn next brackets
    pub rest : IsEnd here next
    pub shorter : length next < length here
    pub same : scanned refs here 0 (reverse (before_end source here)) b
        ≡ scanned refs next 0 (reverse (before_end source next)) brackets

abbrev pub Goes : References → List ℕ → Scan → List ℕ → Scan → Type 0
Goes refs here old next new =
    (source : List ℕ) (b : Brackets) → IsScan b old → EndIn here b → IsEnd source here
    → GoesOn refs source here b next new
