-- What is kept of an element and its ancestors tells what may stand there.
use Rattle.std.proofs.Common.{◌≡◌, ℕ, Bool, true, false, ◌&&◌, ◌||◌, List, [], ◌∷◌, refl, sym, ap, ◌∙◌}
use Rattle.std.proofs.Common.{subst, codes}
use Rattle.std.specs.Prelude.{if◌then◌else◌}
use Rattle.std.specs.Str.{bytes_eq}
use Rattle.htmd_lexical.proofs.Cases.{test}
use Rattle.htmd_lexical.specs.CharacterClasses.{is_among}
use Rattle.htmd_grammar.specs.Nesting.{Context, is_open, excludes_itself, is_allowed}
use Rattle.htmd_grammar.proofs.NestingLemmas.{one_name}
use Rattle.htmd_tree.specs.KnownNames.{known_name}
use Rattle.htmd_tree.specs.Surroundings.{surroundings_of, own_flag, flags_allow, flags_inside}
use Rattle.htmd_tree.proofs.KnownNamesLemmas.{outside-is, text-is, raw_text-is, no_script-is, parts-is, table-is}
use Rattle.htmd_tree.proofs.KnownNamesLemmas.{table_part-is, rows-is, row-is, cell-is, column-is, column_group-is}
use Rattle.htmd_tree.proofs.KnownNamesLemmas.{select-is, option_group-is, option-is, part_of_select-is, closer-is}
use Rattle.htmd_tree.proofs.KnownNamesLemmas.{heading-is, paragraph-is, anchor-is, button-is, form-is, nobr-is, item-is}
use Rattle.htmd_tree.proofs.KnownNamesLemmas.{item_list-is, description-is, description_list-is}
use Rattle.htmd_tree.specs.declared.reader.surroundings.Surroundings.{Surroundings}

-- what is kept is its flags
pub same_surroundings : (p q : Surroundings)
    → p.text_alone ≡ q.text_alone
    → p.raw_text ≡ q.raw_text
    → p.parts ≡ q.parts
    → p.table ≡ q.table
    → p.rows ≡ q.rows
    → p.row ≡ q.row
    → p.columns ≡ q.columns
    → p.select ≡ q.select
    → p.option_group ≡ q.option_group
    → p.option ≡ q.option
    → p.heading ≡ q.heading
    → p.open_p ≡ q.open_p
    → p.open_a ≡ q.open_a
    → p.open_button ≡ q.open_button
    → p.open_form ≡ q.open_form
    → p.open_nobr ≡ q.open_nobr
    → p.open_select ≡ q.open_select
    → p.open_option ≡ q.open_option
    → p.open_options ≡ q.open_options
    → p.item ≡ q.item
    → p.description ≡ q.description
    → p ≡ q
same_surroundings p q h1 h2 h3 h4 h5 h6 h7 h8 h9 h10 h11 h12 h13 h14 h15 h16 h17 h18 h19 h20 h21 =
    let p1 : Surroundings = record p { text_alone = q.text_alone } in
    let p2 : Surroundings = record p1 { raw_text = q.raw_text } in
    let p3 : Surroundings = record p2 { parts = q.parts } in
    let p4 : Surroundings = record p3 { table = q.table } in
    let p5 : Surroundings = record p4 { rows = q.rows } in
    let p6 : Surroundings = record p5 { row = q.row } in
    let p7 : Surroundings = record p6 { columns = q.columns } in
    let p8 : Surroundings = record p7 { select = q.select } in
    let p9 : Surroundings = record p8 { option_group = q.option_group } in
    let p10 : Surroundings = record p9 { option = q.option } in
    let p11 : Surroundings = record p10 { heading = q.heading } in
    let p12 : Surroundings = record p11 { open_p = q.open_p } in
    let p13 : Surroundings = record p12 { open_a = q.open_a } in
    let p14 : Surroundings = record p13 { open_button = q.open_button } in
    let p15 : Surroundings = record p14 { open_form = q.open_form } in
    let p16 : Surroundings = record p15 { open_nobr = q.open_nobr } in
    let p17 : Surroundings = record p16 { open_select = q.open_select } in
    let p18 : Surroundings = record p17 { open_option = q.open_option } in
    let p19 : Surroundings = record p18 { open_options = q.open_options } in
    let p20 : Surroundings = record p19 { item = q.item } in
    ap (λ (x : Bool). record p { text_alone = x }) h1
    ∙ (ap (λ (x : Bool). record p1 { raw_text = x }) h2
    ∙ (ap (λ (x : Bool). record p2 { parts = x }) h3
    ∙ (ap (λ (x : Bool). record p3 { table = x }) h4
    ∙ (ap (λ (x : Bool). record p4 { rows = x }) h5
    ∙ (ap (λ (x : Bool). record p5 { row = x }) h6
    ∙ (ap (λ (x : Bool). record p6 { columns = x }) h7
    ∙ (ap (λ (x : Bool). record p7 { select = x }) h8
    ∙ (ap (λ (x : Bool). record p8 { option_group = x }) h9
    ∙ (ap (λ (x : Bool). record p9 { option = x }) h10
    ∙ (ap (λ (x : Bool). record p10 { heading = x }) h11
    ∙ (ap (λ (x : Bool). record p11 { open_p = x }) h12
    ∙ (ap (λ (x : Bool). record p12 { open_a = x }) h13
    ∙ (ap (λ (x : Bool). record p13 { open_button = x }) h14
    ∙ (ap (λ (x : Bool). record p14 { open_form = x }) h15
    ∙ (ap (λ (x : Bool). record p15 { open_nobr = x }) h16
    ∙ (ap (λ (x : Bool). record p16 { open_select = x }) h17
    ∙ (ap (λ (x : Bool). record p17 { open_option = x }) h18
    ∙ (ap (λ (x : Bool). record p18 { open_options = x }) h19
    ∙ (ap (λ (x : Bool). record p19 { item = x }) h20
    ∙ (ap (λ (x : Bool). record p20 { description = x }) h21))))))))))))))))))))

not_named : (m n : List ℕ) → is_among (m ∷ []) n ≡ false → bytes_eq n m ≡ false
not_named m n e = or_left (bytes_eq n m) e
  where
    or_left : (b : Bool) → (b || false) ≡ false → b ≡ false
    or_left true e = e
    or_left false e = refl

-- an element that may not stand in itself is open, by its name
abbrev own_name_flag : Surroundings → List ℕ → Bool
own_name_flag around n =
    if is_among (codes "a" ∷ []) n then around.open_a
    else if is_among (codes "button" ∷ []) n then around.open_button
    else if is_among (codes "form" ∷ []) n then around.open_form
    else if is_among (codes "nobr" ∷ []) n then around.open_nobr
    else if is_among (codes "select" ∷ []) n then around.open_select
    else if is_among (codes "option" ∷ []) n then around.open_option
    else false

own_flag-known : (around : Surroundings) (n : List ℕ) → own_flag around (known_name n) ≡ own_name_flag around n
own_flag-known around n = rw (anchor-is n, button-is n, form-is n, nobr-is n, select-is n, option-is n) refl

module _ (scripting : Bool) (c : Context) where
  abbrev OwnFlag : List ℕ → Type 0
  OwnFlag n = own_name_flag (surroundings_of scripting c) n ≡ (excludes_itself n && is_open (n ∷ []) c)

  by_name : (m n : List ℕ) → OwnFlag m → is_among (m ∷ []) n ≡ true → OwnFlag n
  by_name m n h e = subst OwnFlag (sym (one_name m n e)) h

  own_flag-is : (n : List ℕ) → OwnFlag n
  own_flag-is n =
      test (is_among (codes "a" ∷ []) n) (by_name (codes "a") n refl)
      (λ q. test (is_among (codes "button" ∷ []) n) (by_name (codes "button") n refl)
      (λ r. test (is_among (codes "form" ∷ []) n) (by_name (codes "form") n refl)
      (λ s. test (is_among (codes "nobr" ∷ []) n) (by_name (codes "nobr") n refl)
      (λ t. test (is_among (codes "select" ∷ []) n) (by_name (codes "select") n refl)
      (λ u. test (is_among (codes "option" ∷ []) n) (by_name (codes "option") n refl)
      (λ v. rw (
        not_named (codes "a") n q,
        not_named (codes "button") n r,
        not_named (codes "form") n s,
        not_named (codes "nobr") n t,
        not_named (codes "select") n u,
        not_named (codes "option") n v,
      ) refl))))))

  allowed_there : (n : List ℕ)
      → flags_allow (surroundings_of scripting c) (known_name n) ≡ is_allowed scripting c n
  unfolding is_allowed
  allowed_there n = rw (
    own_flag-known (surroundings_of scripting c) n,
    own_flag-is n,
    outside-is n,
    table_part-is n,
    row-is n,
    cell-is n,
    column-is n,
    option-is n,
    option_group-is n,
    closer-is n,
    heading-is n,
    item-is n,
    description-is n,
  ) refl

  pub flags_allow-is : (around : Surroundings) (n : List ℕ) → around ≡ surroundings_of scripting c
      → flags_allow around (known_name n) ≡ is_allowed scripting c n
  flags_allow-is around n e = ap (λ (p : Surroundings). flags_allow p (known_name n)) e ∙ allowed_there n

  inside_there : (n : List ℕ)
      → flags_inside scripting (known_name n) (surroundings_of scripting c) ≡ surroundings_of scripting (n ∷ c)
  inside_there n = rw (
    text-is n,
    raw_text-is n,
    no_script-is n,
    parts-is n,
    table-is n,
    rows-is n,
    row-is n,
    column_group-is n,
    select-is n,
    option_group-is n,
    option-is n,
    heading-is n,
    paragraph-is n,
    anchor-is n,
    button-is n,
    form-is n,
    nobr-is n,
    part_of_select-is n,
    item-is n,
    item_list-is n,
    description-is n,
    description_list-is n,
  ) refl

  pub flags_inside-is : (around : Surroundings) (n : List ℕ) → around ≡ surroundings_of scripting c
      → flags_inside scripting (known_name n) around ≡ surroundings_of scripting (n ∷ c)
  flags_inside-is around n e = ap (λ (p : Surroundings). flags_inside scripting (known_name n) p) e ∙ inside_there n
