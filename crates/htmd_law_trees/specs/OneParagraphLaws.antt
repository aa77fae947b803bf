-- The law of the one paragraph.
use Rattle.std.specs.Prelude.{◌≡◌, ℕ, List, [], ◌∷◌}
use Rattle.htmd_walk.specs.declared.options.Options.{Options}
use Rattle.htmd_walk.specs.BuiltIn.{built_in}
use Rattle.htmd_walk.specs.ParagraphLaws.{texts_read, texts_shown}
use Rattle.htmd.specs.PageOutputs.{paragraph_markdown}

-- With all options, the Markdown of the paragraph reads back as its text, as that is shown, or as nothing if that is
-- empty.
abbrev pub ParagraphReadsBack : Type 0
ParagraphReadsBack =
    (options : Options) (text : List ℕ)
    → texts_read (paragraph_markdown (built_in options) text) ≡ texts_shown (text ∷ [])
