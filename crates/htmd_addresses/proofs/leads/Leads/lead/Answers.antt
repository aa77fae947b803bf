-- An address that leads to a page, and one that leads to none.
use Rattle.std.proofs.Common.{◌≡◌, ◌++◌, ◌∙◌, ℕ, List, IfOk, None, Some, ap, drop, refl, string_bytes, subst, sym}
use Rattle.std.specs.Option.{option_copied}
use Rattle.std.proofs.lemmas.Str.Ascii.{trim_ascii_is}
use Rattle.htmd_addresses.specs.Leads.{relative, without_start}
use Rattle.htmd_addresses.specs.PageViews.{names_of}
use Rattle.htmd_addresses.specs.RunViews.{folders_in, pages_in}
use Rattle.htmd_addresses.proofs.LeadsLemmas.{lead-at}
use Rattle.htmd_addresses.proofs.leads.Leads.lead.Goals as goal

pub returns-in_default : goal.returns-in_default
returns-in_default c =
    let address = c.args.address.now in
    let inner = c.trim_ascii-inner.result.now in
    let self = c.args.self.now in
    let P : List ℕ → Type 0 = λ x. IfOk c.resolved_by.result (λ s. string_bytes s ≡ x) in
    subst P
    (lead-at (pages_in self.pages.now) (folders_in self.folders) (names_of self.output_folder.items)
    (option_copied self.base) address inner
    (trim_ascii_is address inner (without_start address) refl c.trim_ascii-inner.ensures.value)
    None (sym (ap option_copied c.in_default.is) ∙ c.in_ok-output.ensures))
    c.resolved_by.ensures

pub returns : goal.returns
returns c =
    let self = c.args.self.now in
    let address = c.args.address.now in
    let inner = c.trim_ascii-inner.result.now in
    let ending = c.split_at.result.1.now in
    c.in_ok-push_str.ensures.bytes
    ∙ (ap (λ x. x ++ ending)
    (c.in_ok-lead.ensures ∙ ap (λ x. relative (names_of x) c.in-Some.output.now) c.as_slice.ensures.value)
    ∙ (ap (λ x. relative (names_of self.output_folder.items) c.in-Some.output.now ++ x)
    (c.split_at.ensures.back ∙ ap (λ n. drop n inner) c.path_len.ensures.value)
    ∙ lead-at (pages_in self.pages.now) (folders_in self.folders) (names_of self.output_folder.items)
    (option_copied self.base) address inner
    (trim_ascii_is address inner (without_start address) refl c.trim_ascii-inner.ensures.value)
    (Some c.in-Some.output.now) (sym (ap option_copied c.in-Some.is) ∙ c.in_ok-output.ensures)))
