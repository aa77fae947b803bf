-- Standard output and standard error of a run.
use Rattle.std.specs.Prelude.{◌≡◌, ◌≢◌, ◌++◌, ◌∷◌, [], ℕ, Bool, true, false, List, Option, codes}
use Rattle.std.specs.Io.KnownBytes.{Appends}
use Rattle.htmd.specs.Characters.{line_feed}
use Rattle.htmd_cli.specs.Options.{Request}
use Rattle.htmd_cli.specs.Rows.{AnswersSome, Succeeds}

-- a stream that is written to, before and after a run: what it holds, if that is known, and whether a write failed
pub record Stream (W : Type 0) : Type 0 where
  pub contents : W → Option (List ℕ)
  pub has_failed : W → Bool
  pub before : W
  pub after : W

abbrev pub stream : {W : Type 0} → (W → Option (List ℕ)) → (W → Bool) → W → W → Stream W
stream contents has_failed before after =
    record { contents = contents; has_failed = has_failed; before = before; after = after }

-- nothing was written to it
abbrev pub IsUntouched : {W : Type 0} → Stream W → Type 0
IsUntouched stream = stream.after ≡ stream.before

-- the last thing that was written to it is this line, unless a write failed
abbrev pub EndsWithLine : {W : Type 0} → Stream W → List ℕ → Type 0
EndsWithLine {W} stream line = stream.has_failed stream.after ≡ false
    → (sooner : W) × Appends (stream.contents sooner) (stream.contents stream.after) (line ++ line_feed ∷ [])

-- memory ran out, and standard error says so
abbrev pub SaysMemory : {E : Type 0} → Stream E → Type 0
SaysMemory errors = EndsWithLine errors (codes "htmd: out of memory")

-- What standard output gets of an input by what is asked for, unless that is the help or the like. Status 0: what the
-- whole input becomes. Otherwise nothing, or with `--rows` the answers to the rows before the faulty one, unless a
-- write failed.
pub record Shows {W : Type 0} (request : Request) (input : Option (List ℕ)) (output : Stream W) (status : ℕ)
    : Type 0 where
  pub whole : status ≡ 0 → request.shows ≡ false
      → Succeeds request input (output.contents output.before) (output.contents output.after)
  pub nothing : status ≢ 0 → request.rows ≡ false → output.has_failed output.after ≡ false
      → IsUntouched output
  pub rows : status ≢ 0 → request.rows ≡ true → output.has_failed output.after ≡ false
      → AnswersSome request input (output.contents output.before) (output.contents output.after)
