-- A page by itself has nothing added.
use Rattle.std.proofs.Common.{subst, string_bytes, IfErr, IfOk}
use Rattle.htmd.specs.PageConverters.{settings_of}
use Rattle.htmd.specs.PageOutputs.{IsFaultOf, IsOutputOf}
use Rattle.htmd.specs.PageSettings.{Settings, page_in}
use Rattle.htmd.specs.PageSights.{IsSeen}
use Rattle.htmd.proofs.PageOutputsLemmas.{alone_adds_nothing}
use Rattle.htmd.proofs.page_converter.PageConverter.convert_alone.Goals as goal

pub returns-clause-ok : goal.returns-clause-ok
returns-clause-ok g c =
    subst (λ (s : Settings). IfOk c.convert.result (λ output. IsOutputOf s c.args.bytes.now (string_bytes output)))
    (alone_adds_nothing (page_in c.alone.result) (settings_of c.args.self.now) c.alone.ensures) c.convert.ensures.ok

pub returns-clause-seen : goal.returns-clause-seen
returns-clause-seen g c =
    subst (λ (s : Settings). IfOk c.convert.result (λ output. IsSeen s c.args.bytes.now (string_bytes output)))
    (alone_adds_nothing (page_in c.alone.result) (settings_of c.args.self.now) c.alone.ensures) c.convert.ensures.seen

pub returns-clause-fault : goal.returns-clause-fault
returns-clause-fault g c =
    subst (λ (s : Settings). IfErr c.convert.result (IsFaultOf s c.args.bytes.now))
    (alone_adds_nothing (page_in c.alone.result) (settings_of c.args.self.now) c.alone.ensures) c.convert.ensures.fault
