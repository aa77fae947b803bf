use Rattle.htmd_grammar.specs.Rules.{project}
use Rattle.htmd_grammar.proofs.Subtrees.{project_has, reads_back, raw_block_reads_back}
use Rattle.htmd_grammar.proofs.laws.raw_html_reads_back.Goals as goal

pub returns : goal.returns
returns c = record {
  serialisation = λ z. reads_back (project z) (project_has z);
  block = λ z. raw_block_reads_back (project z) (project_has z);
}
