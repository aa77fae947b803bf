-- A page that names no base is as one with an empty base.
use Rattle.std.proofs.Common.{◌≡◌, ◌∙◌, Bor, List, [], ℕ, None, Option, Some}
use Rattle.std.proofs.Common.{ap, refl}
use Rattle.std.specs.Option.{option_copied, unwrap_or}
use Rattle.std.proofs.lemmas.Str.Ascii.{trim_ascii_is}
use Rattle.htmd_addresses.specs.Leads.{trimmed, without_start}
use Rattle.htmd_addresses.proofs.leads.base_address.Goals as goal

or-empty : (named : Option (Bor (List ℕ))) (empty : Bor (List ℕ)) → empty.now ≡ []
    → (unwrap_or named empty).now ≡ unwrap_or (option_copied named) []
or-empty None empty is = is
or-empty (Some base) empty is = refl

pub returns : goal.returns
returns c =
    let base : List ℕ = c.unwrap_or.result.now in
    trim_ascii_is base c.trim_ascii.result.now (without_start base) refl c.trim_ascii.ensures.value
    ∙ ap trimmed (ap (λ (b : Bor (List ℕ)). b.now) c.unwrap_or.ensures ∙ or-empty c.args.named _ refl)
