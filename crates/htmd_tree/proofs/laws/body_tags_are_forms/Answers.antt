use Rattle.htmd_tree.proofs.BodyLawsLemmas.{start_tags_are_forms, forms_are_start_tags, end_tags_are_forms}
use Rattle.htmd_tree.proofs.laws.body_tags_are_forms.Goals as goal

pub returns-clause-sound : goal.returns-clause-sound
returns-clause-sound c = start_tags_are_forms

pub returns-clause-complete : goal.returns-clause-complete
returns-clause-complete c = forms_are_start_tags

pub returns-clause-end_tags : goal.returns-clause-end_tags
returns-clause-end_tags c = end_tags_are_forms
