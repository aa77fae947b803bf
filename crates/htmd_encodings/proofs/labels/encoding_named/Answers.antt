-- The labels of the source's table are those of the definition.
use Rattle.std.proofs.Common.{◌∙◌, ap}
use Rattle.htmd_encodings.specs.Labels.{labels, named_in}
use Rattle.htmd_encodings.proofs.labels.encoding_named.Goals as goal

pub returns : goal.returns
unfolding labels
returns c = c.named_in.ensures ∙ ap (named_in labels) c.trimmed.ensures
