-- What is known of faults.
use Rattle.std.proofs.Common.{◌≡◌, ◌≢◌, ◌∙◌, ◌+◌, ◌↔◌, Bool, false, refl, sym, ℕ, List, [], length, append-nil}
use Rattle.std.proofs.Common.{Option, Some, None, Result, Ok, Err, OnOk, IfErr, IsErrAnd, IsTrue}
use Rattle.std.proofs.lemmas.Bool.{false≢true}
use Rattle.htmd.specs.PageSettings.{Settings}
use Rattle.htmd_streams.specs.Lines.{rows}
use Rattle.htmd_cli.specs.declared.faults.RowFault.{RowFault}
use Rattle.htmd_cli.specs.declared.faults.RunError.TheVariants.{Write}
use Rattle.htmd_cli.specs.declared.requests.OptionFault.{OptionFault}
use Rattle.htmd_cli.specs.declared.requests.OptionFault.TheVariants as fault
use Rattle.htmd_cli.specs.OptionRows.{IsOptionFault}
use Rattle.htmd_cli.specs.Rows.{AnswersFirst, ConvertsRows, StopsAtRow, counted}

-- an option isn't known
pub is_unknown : (e : OptionFault) (known takes : Bool) → e ≢ fault.Memory → IsOptionFault e known takes
    → known ≡ false
is_unknown (fault.Unknown option) known takes m h = h
is_unknown (fault.Selector option error) known takes m h = h
is_unknown fault.Memory known takes m h = absurd (m refl)

-- the first rows are answered, or all, if the sink didn't fail
pub answers_some : (settings : Settings) (input before after : Option (List ℕ)) (failed : Bool)
    (r : Result (Unit {0}) RowFault) → OnOk r (ConvertsRows settings input before after)
    → IfErr r (λ e. e.error ≢ Write → StopsAtRow settings e.row input before after)
    → (IsErrAnd r (λ e. e.error ≡ Write) ↔ IsTrue failed) → failed ≡ false
    → AnswersFirst settings input before after
answers_some settings None before after failed (Ok done) all stops write u = (0, tt)
answers_some settings (Some bytes) before after failed (Ok done) all stops write u = (
  counted (length (rows bytes) + 1),
  (length (rows bytes), all.0, (rows bytes, [], sym (append-nil (rows bytes)), refl, all.1), refl, all.2),
)
answers_some settings input before after failed (Err e) all stops write u =
    (e.row, stops (λ w. false≢true (sym u ∙ write.0 w)))
