use Rattle.std.proofs.Common.{◌≡◌, ◌++◌, drop}
use Rattle.std.specs.Option.{option_copied}
use Rattle.htmd_lexical.specs.Attributes.{pairs_of}
use Rattle.htmd_trimming.specs.Fates.{without}
use Rattle.htmd_trimming.proofs.copying.attributes_without.Given as goal

abbrev pub invariant-loop-attribute : goal.invariant-loop-attribute
invariant-loop-attribute l =
    pairs_of l.copies.items ++ without (option_copied l.lost) (pairs_of (drop l.attribute-index l.attrs))
    ≡ without (option_copied l.lost) (pairs_of l.attrs)
