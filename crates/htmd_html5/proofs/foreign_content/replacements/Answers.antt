-- One more character is replaced.
use Rattle.std.proofs.Common.{arith}
use Rattle.std.specs.String.{string_bytes}
use Rattle.htmd_html5.proofs.ForeignContentLemmas.{replaced_more}
use Rattle.htmd_html5.specs.ForeignContent.{replacements}
use Rattle.htmd_html5.proofs.foreign_content.replacements.Goals as goal

pub loop-byte-preserved : goal.loop-byte-preserved
loop-byte-preserved c =
    replaced_more (string_bytes c.loop-byte.replaced) (string_bytes c.push.new.self) c.as_bytes-bytes.result.now
    (replacements c.as_bytes-bytes.result.now) c.loop-byte._byte-index (omega arith) c.in_ok-push.ensures.bytes
    c.loop-byte.invariant
