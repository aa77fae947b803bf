-- The tag has its form: what its attributes and its name make of it.
use Rattle.std.proofs.Common.{◌≡◌, ◌<◌, ◌≤◌, rules, suc, length, map, refl, sym, ◌∙◌, ap, arith, Ok, Err, None}
use Rattle.std.specs.Char.{to_ascii_lowercase}
use Rattle.htmd_lexical.specs.CharacterClasses.{is_tag_name_byte}
use Rattle.htmd_grammar.specs.HtmlDocuments.{above_body}
use Rattle.htmd_grammar.specs.ReaderSteps.{place_step}
use Rattle.htmd_lexical.specs.TagReading.{form, form_within}
use Rattle.htmd_tree.specs.Advances.{rules_of}
use Rattle.htmd_tree.specs.TagParts.{all_spelled_of, read_attributes, fault_of_name}
use Rattle.htmd_lexical.specs.Attributes.{pairs_of}
use Rattle.htmd_lexical.proofs.RunsLemmas.{behind_within}
use Rattle.htmd_tree.proofs.TagPartsLemmas.{form_size}
use Rattle.htmd_tree.proofs.TagStepsLemmas.{start_read, named_step, place_within}
use Rattle.htmd_tree.proofs.TagAnswersLemmas.{refused_follows, same_follows, shorter_follows}
use Rattle.htmd_tree.proofs.reader.Reader.read_start_tag.Goals as goal

pub returns-in-Err-clause-follows : goal.returns-in-Err-clause-follows
returns-in-Err-clause-follows c =
    λ has_doctype fs h.
    let read = c.in-Some-2.form in
    let behind = c.in-Some.behind_name.now in
    let spelled = all_spelled_of read.attributes.items in
    let g : form_within (suc (length behind)) behind ≡ form spelled read.slash read.rest.now =
    rw c.in-Some-2.is at c.in_ok-form.ensures in
    let r : read_attributes spelled ≡ Err c.in-Err.kind =
    rw (c.as_slice.ensures.value, c.in-Err.is) at c.in_ok-attrs.ensures in
    refused_follows c.args.self.now c.args.self.now has_doctype c.refused-in-Err.result c.in-Err.kind _
    c.refused-in-Err.ensures
    (start_read c.args.self.now.scripting above_body fs c.args.behind.now c.in-Some.spelled.now
    (map to_ascii_lowercase c.in-Some.spelled.now) behind spelled read.slash read.rest.now (Err c.in-Err.kind)
    c.in-Some.ensures.0 c.in-Some.ensures.1 c.in-Some.ensures.2 g refl r)

pub returns-in-Some-fault_of_name-clause-follows : goal.returns-in-Some-fault_of_name-clause-follows
returns-in-Some-fault_of_name-clause-follows c =
    λ has_doctype fs h.
    let read = c.in-Some-2.form in
    let behind = c.in-Some.behind_name.now in
    let spelled = all_spelled_of read.attributes.items in
    let g : form_within (suc (length behind)) behind ≡ form spelled read.slash read.rest.now =
    rw c.in-Some-2.is at c.in_ok-form.ensures in
    let r : read_attributes spelled ≡ Ok (pairs_of c.in-Ok.attrs.items) =
    rw (c.as_slice.ensures.value, c.in-Ok.is) at c.in_ok-attrs.ensures in
    let name = c.as_str-name.result.now in
    let n : name ≡ map to_ascii_lowercase c.in-Some.spelled.now =
    c.as_str-name.ensures.value ∙ c.in_ok-lowered.ensures in
    refused_follows c.args.self.now c.args.self.now has_doctype _ c.in-Some-fault_of_name.kind _
    c.refused-in-Some-fault_of_name.ensures
    (start_read c.args.self.now.scripting above_body fs c.args.behind.now c.in-Some.spelled.now name
    behind spelled read.slash read.rest.now (Ok (pairs_of c.in-Ok.attrs.items))
    c.in-Some.ensures.0 c.in-Some.ensures.1 c.in-Some.ensures.2 g n r
    ∙ ap (named_step c.args.self.now.scripting above_body fs name (pairs_of c.in-Ok.attrs.items)
    read.rest.now) (sym c.in-Some-fault_of_name.ensures))

pub returns-clause-follows : goal.returns-clause-follows
returns-clause-follows c =
    λ has_doctype fs h.
    let read = c.in-Some-2.form in
    let behind = c.in-Some.behind_name.now in
    let spelled = all_spelled_of read.attributes.items in
    let attributes = pairs_of c.in-Ok.attrs.items in
    let g : form_within (suc (length behind)) behind ≡ form spelled read.slash read.rest.now =
    rw c.in-Some-2.is at c.in_ok-form.ensures in
    let r : read_attributes spelled ≡ Ok attributes =
    rw (c.as_slice.ensures.value, c.in-Ok.is) at c.in_ok-attrs.ensures in
    let name = c.as_str-name.result.now in
    let n : name ≡ map to_ascii_lowercase c.in-Some.spelled.now =
    c.as_str-name.ensures.value ∙ c.in_ok-lowered.ensures in
    let f : fault_of_name name read.slash ≡ None = first_of (search rules, cc) in
    same_follows c.args.self.now c.place_tag.new.self has_doctype c.place_tag.result _ _
    (start_read c.args.self.now.scripting above_body fs c.args.behind.now c.in-Some.spelled.now
    name behind spelled read.slash read.rest.now (Ok attributes) c.in-Some.ensures.0
    c.in-Some.ensures.1 c.in-Some.ensures.2 g n r
    ∙ ap (named_step c.args.self.now.scripting above_body fs name attributes
    read.rest.now) f) (c.place_tag.ensures.follows has_doctype fs h)

pub returns-clause-shorter : goal.returns-clause-shorter
returns-clause-shorter c =
    let old = c.args.self.now in
    let read = c.in-Some-2.form in
    let behind = c.in-Some.behind_name.now in
    let spelled = all_spelled_of read.attributes.items in
    let g : form_within (suc (length behind)) behind ≡ form spelled read.slash read.rest.now =
    rw c.in-Some-2.is at c.in_ok-form.ensures in
    let a = behind_within is_tag_name_byte c.args.behind.now in
    let e = ap length c.in-Some.ensures.2 in
    let s : length read.rest.now ≤ length behind = rw g at (form_size (suc (length behind)) behind) in
    let l : length read.rest.now < length old.rest.now = omega arith in
    shorter_follows old c.place_tag.new.self c.place_tag.result
    (λ fs. place_step (rules_of old) above_body fs c.as_str-name.result.now (pairs_of c.in-Ok.attrs.items)
    read.rest.now) (length read.rest.now) c.requires.reading c.place_tag.ensures.follows
    (λ fs. place_within (rules_of old) above_body fs c.as_str-name.result.now (pairs_of c.in-Ok.attrs.items)
    read.rest.now) l
