-- The address of a file is a way up, a way down, and a name.
use Rattle.std.proofs.Common.{◌∙◌, ◌++◌, ap, arith, drop, length, string_bytes}
use Rattle.std.specs.List.{common_prefix_len}
use Rattle.std.specs.Str.{bytes_eq}
use Rattle.std.proofs.lemmas.Slice.{between_to_end}
use Rattle.percent_encoding.specs.Percent.{percent_encode}
use Rattle.htmd_addresses.specs.Paths.{folder_of, name_of}
use Rattle.htmd_addresses.specs.PageViews.{names_of}
use Rattle.htmd_addresses.specs.declared.leads.TheConstants.{SEGMENT}
use Rattle.htmd_addresses.specs.Leads.{escaped}
use Rattle.htmd_addresses.proofs.LeadsLemmas.{parents, relative-at}
use Rattle.htmd_addresses.proofs.leads.relative.Goals as goal

pub returns : goal.returns
returns c =
    relative-at c.args.from.now c.in_ok-folder.folder.items c.args.to.now (string_bytes c.new-address.result)
    (string_bytes c.push_parents.new.address) (string_bytes c.push_names.new.address)
    (string_bytes c.push_name.new.address) c.same_names-same.result
    (c.in_ok-folder.ensures ∙ ap folder_of c.as_bytes-to.ensures.value)
    (c.same_names-same.ensures.value
    ∙ ap (λ l. common_prefix_len bytes_eq (names_of c.args.from.now) (names_of l)) c.as_slice.ensures.value)
    c.new-address.ensures.bytes
    (c.in_ok-push_parents.ensures
    ∙ ap (λ l. string_bytes c.new-address.result ++ escaped (parents l))
    (between_to_end c.args.from.now c.same_names-same.result (length c.args.from.now) (omega arith)))
    (c.in_ok-push_names.ensures
    ∙ ap (λ l. string_bytes c.push_parents.new.address ++ escaped (names_of l))
    (between_to_end c.as_slice-2.result.now c.same_names-same.result (length c.as_slice-2.result.now) (omega arith)
    ∙ ap (drop c.same_names-same.result) c.as_slice-2.ensures.value))
    (c.in_ok-push_name.ensures
    ∙ ap (λ x. string_bytes c.push_names.new.address ++ percent_encode SEGMENT x)
    (c.name_of.ensures ∙ ap name_of c.as_bytes-to.ensures.value))
