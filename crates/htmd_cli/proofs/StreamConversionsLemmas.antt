-- A run from its input to how it ends.
use Rattle.std.proofs.Common.{◌≡◌, subst, refl, ℕ, List, [], ◌++◌, Option, Some}
use Rattle.std.proofs.Common.{Result, Ok, Err}
use Rattle.std.proofs.KnownBytes.{Consumes-whole}
use Rattle.std.specs.Str.{IsUtf8}
use Rattle.std.specs.Io.KnownBytes.{Appends, Consumes, IsAtEnd}
use Rattle.htmd_cli.specs.declared.faults.RunError.{RunError}
use Rattle.htmd_cli.specs.declared.faults.RunError.TheVariants as run
use Rattle.htmd.specs.declared.page_error.PageError.{PageError}
use Rattle.htmd.specs.declared.page_error.PageError.TheVariants.{NotUtf8, Refused, NothingSelected, Memory}
use Rattle.htmd_cli.specs.declared.faults.StreamError.{StreamError}
use Rattle.htmd_cli.specs.declared.faults.StreamError.TheVariants.{Page, Read, Write}
use Rattle.htmd.specs.PageSettings.{Settings}
use Rattle.htmd_cli.specs.Failures.{IsReadFault, stream_error}
use Rattle.htmd.specs.PageOutputs.{IsFaultOf, IsOutputOf, IsRefusedBy, IsUnselected}
use Rattle.htmd_cli.specs.StreamConversions.{Ends, IsConvertible, Writes, ending}

-- the whole input was converted, and that was written
pub ends_well : {W : Type 0} (T : Type 0) (settings : Settings) (contents : W → Option (List ℕ)) (before after : W)
    (done : T) (input output written end : List ℕ) → IsOutputOf settings input output → written ≡ output
    → end ≡ ending settings → Appends (contents before) (contents after) (written ++ end)
    → Ends settings (Some input) (Some []) contents before after (Ok done)
ends_well T settings contents before after done input output written end m w e a =
    let A : List ℕ → Type 0 = Appends (contents before) (contents after) in
    (refl, (output, m, subst (λ z. A (output ++ z)) e (subst (λ z. A (z ++ end)) w a)))

-- the whole input becomes something, and the sink failed
pub ends_at_sink : {W : Type 0} (T : Type 0) (settings : Settings) (contents : W → Option (List ℕ))
    (before after : W) (input output : List ℕ) → IsOutputOf settings input output
    → Ends {T = T} settings (Some input) (Some []) contents before after (Err Write)
ends_at_sink T settings contents before after input output m = (refl, (output, m))

-- the whole input becomes nothing, and nothing is written
pub ends_early : {W : Type 0} (T : Type 0) (settings : Settings) (contents : W → Option (List ℕ)) (before after : W)
    (input : List ℕ) (e : PageError) → IsFaultOf settings input e → after ≡ before
    → Ends {T = T} settings (Some input) (Some []) contents before after (Err (Page e))
ends_early T settings contents before after input NotUtf8 (s, n) k = (refl, s, n, k)
ends_early T settings contents before after input (Refused place kind) (x, h, u, r) k = (refl, x, h, (u, r), k)
ends_early T settings contents before after input NothingSelected l k = (refl, l, k)
ends_early T settings contents before after input Memory f k = k

-- a run whose source or memory failed while it was read
pub ends_unread : {W : Type 0} (T : Type 0) (settings : Settings) (old new : Option (List ℕ))
    (contents : W → Option (List ℕ)) (before after : W) (e : RunError) → IsReadFault e → after ≡ before
    → Ends {T = T} settings old new contents before after (Err (stream_error e))
ends_unread T settings old new contents before after run.Memory f k = k
ends_unread T settings old new contents before after run.Read f k = k
ends_unread T settings old new contents before after run.NotUtf8 f k = absurd f
ends_unread T settings old new contents before after (run.Refused place kind) f k = absurd f
ends_unread T settings old new contents before after run.Write f k = absurd f

-- how a run ends that has read its whole source, by what that held
pub ends_over : {W T : Type 0} (settings : Settings) (old new : Option (List ℕ)) (items input : List ℕ)
    (contents : W → Option (List ℕ)) (before after : W) (r : Result T StreamError) → Consumes old new items
    → IsAtEnd new → input ≡ items → Ends settings (Some input) (Some []) contents before after r
    → Ends settings old new contents before after r
ends_over settings old new items input contents before after (Ok done) c e i h = (
  e,
  Consumes-whole old new items (Writes settings (contents before) (contents after)) c e
      (subst (Writes settings (contents before) (contents after)) i h.1),
)
ends_over settings old new items input contents before after (Err (Page NotUtf8)) c e i h = (
  e,
  h.1,
  Consumes-whole old new items (λ bytes. ¬ IsUtf8 bytes) c e
      (subst (λ bytes. ¬ IsUtf8 bytes) i h.2),
  h.3,
)
ends_over settings old new items input contents before after (Err (Page (Refused place kind))) c e i h =
    let P : List ℕ → Type 0 = λ bytes. IsUtf8 bytes × IsRefusedBy settings bytes place kind in
    (e, h.1, h.2, Consumes-whole old new items P c e (subst P i h.3), h.4)
ends_over settings old new items input contents before after (Err (Page NothingSelected)) c e i h =
    let P : List ℕ → Type 0 = IsUnselected settings in
    (e, Consumes-whole old new items P c e (subst P i h.1), h.2)
ends_over settings old new items input contents before after (Err (Page Memory)) c e i h = h
ends_over settings old new items input contents before after (Err Read) c e i h = h
ends_over settings old new items input contents before after (Err Write) c e i h =
    (e, Consumes-whole old new items (IsConvertible settings) c e (subst (IsConvertible settings) i h.1))
