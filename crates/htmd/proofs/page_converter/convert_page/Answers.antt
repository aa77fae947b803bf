-- The converter goes by the settings.
use Rattle.std.proofs.Common.{subst, string_bytes, IfErr, IfOk}
use Rattle.htmd.specs.PageOutputs.{IsFaultOf, IsOutputOf}
use Rattle.htmd.specs.PageSettings.{Settings}
use Rattle.htmd.specs.PageSights.{IsSeen}
use Rattle.htmd.proofs.page_converter.convert_page.Goals as goal

pub returns-clause-ok : goal.returns-clause-ok
returns-clause-ok c =
    subst (λ (s : Settings). IfOk c.convert_alone.result (λ output.
    IsOutputOf s c.args.bytes.now (string_bytes output))) c.in_ok-converter.ensures.settings
    c.convert_alone.ensures.ok

pub returns-clause-seen : goal.returns-clause-seen
returns-clause-seen c =
    subst (λ (s : Settings). IfOk c.convert_alone.result (λ output.
    IsSeen s c.args.bytes.now (string_bytes output))) c.in_ok-converter.ensures.settings
    c.convert_alone.ensures.seen

pub returns-clause-fault : goal.returns-clause-fault
returns-clause-fault c =
    subst (λ (s : Settings). IfErr c.convert_alone.result (IsFaultOf s c.args.bytes.now))
    c.in_ok-converter.ensures.settings c.convert_alone.ensures.fault
