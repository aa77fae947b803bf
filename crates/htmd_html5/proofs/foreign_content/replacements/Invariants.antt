-- The replacements so far, and those of what is left.
use Rattle.std.proofs.Common.{◌≡◌, ◌++◌, drop}
use Rattle.std.specs.String.{string_bytes}
use Rattle.htmd_html5.specs.ForeignContent.{replacements}
use Rattle.htmd_html5.proofs.foreign_content.replacements.Given as goal

abbrev pub invariant-loop-byte : goal.invariant-loop-byte
invariant-loop-byte l =
    string_bytes l.replaced ++ replacements (drop l._byte-index l.bytes) ≡ replacements l.bytes
