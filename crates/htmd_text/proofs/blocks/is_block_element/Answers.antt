-- What is left to prove of `is_block_element`.
use Rattle.std.proofs.Common.{◌≡◌, true, sym, ◌∙◌, length, arith}
use Rattle.std.proofs.lemmas.Bool.Decides.{nat_tests}
use Rattle.htmd_text.proofs.BlocksLemmas.{block_of_length, block_of_other_length, is_other_length}
use Rattle.htmd_text.proofs.blocks.is_block_element.Goals as goal

pub returns-in-1 : goal.returns-in-1
returns-in-1 c = c.is_among.ensures ∙ sym (block_of_length c.args.name.now 1 c.in-1.is)

pub returns-in-2 : goal.returns-in-2
returns-in-2 c = c.is_among-in-2.ensures ∙ sym (block_of_length c.args.name.now 2 c.in-2.is)

pub returns-in-3 : goal.returns-in-3
returns-in-3 c = c.is_among-in-3.ensures ∙ sym (block_of_length c.args.name.now 3 c.in-3.is)

pub returns-in-4 : goal.returns-in-4
returns-in-4 c = c.is_among-in-4.ensures ∙ sym (block_of_length c.args.name.now 4 c.in-4.is)

pub returns-in-5 : goal.returns-in-5
returns-in-5 c = c.is_among-in-5.ensures ∙ sym (block_of_length c.args.name.now 5 c.in-5.is)

pub returns-in-6 : goal.returns-in-6
returns-in-6 c = c.is_among-in-6.ensures ∙ sym (block_of_length c.args.name.now 6 c.in-6.is)

pub returns-in-7 : goal.returns-in-7
returns-in-7 c = c.is_among-in-7.ensures ∙ sym (block_of_length c.args.name.now 7 c.in-7.is)

pub returns-in-8 : goal.returns-in-8
returns-in-8 c = c.is_among-in-8.ensures ∙ sym (block_of_length c.args.name.now 8 c.in-8.is)

pub returns-in-10 : goal.returns-in-10
returns-in-10 c = c.is_among-in-10.ensures ∙ sym (block_of_length c.args.name.now 10 c.in-10.is)

pub returns-in_default : goal.returns-in_default
returns-in_default c =
    let other : is_other_length (length c.args.name.now) ≡ true = grind (arith, nat_tests) in
    sym (block_of_other_length c.args.name.now other)
