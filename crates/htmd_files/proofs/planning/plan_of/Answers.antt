-- What the definition of the plan keeps.
use Rattle.std.proofs.Common.{map, sym, subst, List, Option, Some}
use Rattle.std.specs.Prelude.{option_map}
use Rattle.htmd_files.specs.declared.planning.Destination.{Destination}
use Rattle.htmd_files.specs.FilePlans as spec
use Rattle.htmd_files.specs.PlanViews.{operand_of, destination_of, pages_of}
use Rattle.htmd_files.specs.Promises.{AreBelow, AreNamed}
use Rattle.htmd_files.proofs.PromisesLemmas.{plan_keeps}
use Rattle.htmd_files.proofs.NamedLemmas.{plan_named}
use Rattle.htmd_files.proofs.planning.plan_of.Goals as goal

pub returns-in_ok-files-in-Some-clause-apart : goal.returns-in_ok-files-in-Some-clause-apart
returns-in_ok-files-in-Some-clause-apart c =
    (plan_keeps (map operand_of c.args.operands.now) (Some (destination_of c.in-Some.out))
    (spec.files (pages_of c.in_ok-files-in-Some.field-0.items)) c.in_ok-files-in-Some.ensures.ok).0

pub returns-in_ok-files-in-Some-clause-inputs : goal.returns-in_ok-files-in-Some-clause-inputs
returns-in_ok-files-in-Some-clause-inputs c =
    (plan_keeps (map operand_of c.args.operands.now) (Some (destination_of c.in-Some.out))
    (spec.files (pages_of c.in_ok-files-in-Some.field-0.items)) c.in_ok-files-in-Some.ensures.ok).1.0

pub returns-in_ok-files-in-Some-clause-below : goal.returns-in_ok-files-in-Some-clause-below
returns-in_ok-files-in-Some-clause-below c =
    let operands : List spec.Operand = map operand_of c.args.operands.now in
    let pages : List spec.Page = pages_of c.in_ok-files-in-Some.field-0.items in
    subst (λ (o : Option Destination). AreBelow (option_map destination_of o) operands pages) (sym c.in-Some.is)
    (plan_keeps operands (Some (destination_of c.in-Some.out)) (spec.files pages) c.in_ok-files-in-Some.ensures.ok).1.1

pub returns-in_ok-files-in-Some-clause-named : goal.returns-in_ok-files-in-Some-clause-named
returns-in_ok-files-in-Some-clause-named c =
    let operands : List spec.Operand = map operand_of c.args.operands.now in
    let pages : List spec.Page = pages_of c.in_ok-files-in-Some.field-0.items in
    subst (λ (o : Option Destination). AreNamed (option_map destination_of o) pages) (sym c.in-Some.is)
    (plan_named operands (Some (destination_of c.in-Some.out)) (spec.files pages) c.in_ok-files-in-Some.ensures.ok)
