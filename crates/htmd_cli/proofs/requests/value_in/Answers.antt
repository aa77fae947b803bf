-- What follows the name.
use Rattle.std.proofs.Common.{sym, ◌∙◌}
use Rattle.htmd_cli.specs.OptionRows.{takes_value}
use Rattle.htmd_cli.proofs.OptionsLemmas.{value_behind}
use Rattle.htmd_cli.proofs.requests.value_in.Goals as goal

pub returns-then-takes_value : goal.returns-then-takes_value
returns-then-takes_value c =
    value_behind c.args.name.now c.args.given.now (takes_value c.args.setting) c.strip_prefix.result
    (sym c.takes_value.ensures ∙ c.if-takes_value.true) c.strip_prefix.ensures.cases
