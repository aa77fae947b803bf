-- ASCII takes one column.
use Rattle.std.proofs.Common.{sym, arith}
use Rattle.std.proofs.lemmas.Bool.Decides.{nat_tests}
use Rattle.htmd_commonmark.proofs.ColumnsLemmas.{of-ascii}
use Rattle.htmd_commonmark.proofs.columns.columns_of.Goals as goal

pub returns-then-is_ascii : goal.returns-then-is_ascii
returns-then-is_ascii c = sym (of-ascii c.args.c (grind (arith, nat_tests)))
