use Rattle.htmd_shown.proofs.WordsLemmas.{digits-front}
use Rattle.htmd_shown.proofs.attributes.leading_number.Goals as goal

pub number_of_digits-requires : goal.number_of_digits-requires
number_of_digits-requires c = digits-front c.args.text.now c.digits_len.result c.digits_len.ensures.value
