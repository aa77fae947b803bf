use Rattle.std.proofs.Common.{◌≡◌, cond, [], drop, map}
use Rattle.htmd_lexical.specs.Attributes.{pairs_of}
use Rattle.htmd_shown.specs.SimpleViews.{simple_of}
use Rattle.htmd_flow.specs.LanguageViews.{code_among, code_attributes}
use Rattle.htmd_flow.proofs.language.attributes_of_code.Given as goal

abbrev pub invariant-loop-node : goal.invariant-loop-node
invariant-loop-node l = record {
  value : code_among l.is_first (pairs_of l.found) (map simple_of (drop l.node-index l.content))
      ≡ code_attributes (map simple_of l.content);
  bare : cond l.is_first (pairs_of l.found) [] ≡ [];
}
