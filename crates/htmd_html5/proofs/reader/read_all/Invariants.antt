-- What is left to read is the same in each turn.
use Rattle.htmd_html5.proofs.Html5DocumentsLemmas.{Reads}
use Rattle.htmd_html5.proofs.reader.read_all.Given as goal

abbrev pub invariant-loop-token : goal.invariant-loop-token
invariant-loop-token l = Reads l.text l.fn.state l.tokenizer l.state l._token l._token-end
