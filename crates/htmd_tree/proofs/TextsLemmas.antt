-- A text, read in one call, against the grammar's steps.
use Rattle.std.proofs.Common.{◌≡◌, ℕ, ◌<◌, Bool, true, false, cond, List, [], ◌∷◌, length, Ok, Err, refl, ap, sym}
use Rattle.std.proofs.Common.{subst, ◌∙◌, arith, codes, take, drop}
use Rattle.std.proofs.lemmas.Bool.{or_right}
use Rattle.std.specs.Prelude.{◌&&◌, ◌||◌}
use Rattle.std.specs.Str.{bytes_eq}
use Rattle.htmd_lexical.proofs.Cases.{test}
use Rattle.htmd_values.specs.ValueTrees.{text}
use Rattle.htmd_lexical.specs.CharacterClasses.{is_empty, is_among, up_to, onward}
use Rattle.htmd_lexical.specs.LineEnds.{normalized}
use Rattle.htmd_grammar.specs.HtmlDocuments.{above_body}
use Rattle.htmd_grammar.specs.Nesting.{parent_name}
use Rattle.htmd_grammar.specs.RawContent.{begins_markup, ends_text, holds_raw_text, holds_text_alone}
use Rattle.htmd_lexical.specs.EndTags.{begins_own_end}
use Rattle.htmd_grammar.specs.RawContent.{has_script_escape, raw_text_of, text_of}
use Rattle.htmd_grammar.specs.References.{decode}
use Rattle.htmd_grammar.specs.Rules.{project, named_characters}
use Rattle.htmd_grammar.specs.ReaderSteps.{OpenElement, Reaches, here, via, step, names_of, is_too_deep}
use Rattle.htmd_grammar.specs.ReaderSteps.{Step, add, between, fault, with_tree, raw_text_step}
use Rattle.htmd_grammar.specs.declared.fault.FaultKind.TheVariants.{ScriptEscape, TooDeep}
use Rattle.htmd_grammar.proofs.NestingLemmas.{tbody_no_text_alone}
use Rattle.htmd_tree.specs.OpenNodes.{Holds, AreOpen, innermost_name, open_node}
use Rattle.htmd_tree.specs.Advances.{Answer, rules_of, Follows, Advances, IsAtText}
use Rattle.htmd_tree.specs.TextRuns.{TellsOfText, in_run, is_run_end, StopsRun}
use Rattle.htmd_tree.specs.declared.reader.OpenNode.{OpenNode}
use Rattle.htmd_tree.specs.declared.reader.Reader.{Reader}
use Rattle.htmd_tree.specs.declared.reader.Stop.{Stop}
use Rattle.htmd_tree.specs.declared.reader.Stop.TheVariants.{Memory, Refused}
use Rattle.htmd_tree.specs.declared.reader.texts.TextSurroundings.{TextSurroundings}
use Rattle.htmd_lexical.proofs.CharacterClassesLemmas.{take_up_to, drop_up_to}
use Rattle.htmd_tree.proofs.PiecesLemmas.{reaches_then}

-- ---- the place of a text

implied_holds_more : (scripting : Bool) (f : OpenElement) (fs : List OpenElement) → AreOpen (f ∷ fs)
    → (f.implied && holds_text_alone scripting f.name) ≡ false
implied_holds_more scripting f [] o = rw o.2 refl
implied_holds_more scripting f (g ∷ fs) o =
    test f.implied (λ q. rw q (tbody_no_text_alone scripting f.name (o.0 q).0)) (λ q. rw q refl)

pub tells_of_text : (reader : Reader) (has_doctype : Bool) (fs : List OpenElement) (o : OpenNode) (deep : Bool)
    → ((h : Bool) (f : OpenElement) (gs : List OpenElement) → Holds reader h (f ∷ gs)
    → o ≡ open_node reader.scripting h f gs)
    → Holds reader has_doctype fs → IsAtText reader fs → deep ≡ is_too_deep (rules_of reader) above_body fs
    → TellsOfText reader.scripting
    (record { alone = o.surroundings.text_alone; parts = o.surroundings.parts; too_deep = deep })
    (innermost_name fs) fs
tells_of_text reader has_doctype [] o deep t h i e = absurd h.are_open
tells_of_text reader has_doctype (f ∷ gs) o deep t h i e =
    let q = t has_doctype f gs h in
    record {
      name_is = refl;
      alone_is = ap (λ (x : OpenNode). x.surroundings.text_alone) q;
      parts_is = ap (λ (x : OpenNode). x.surroundings.parts) q;
      deep_is = e;
      no_raw_text = i.no_raw_text;
      no_rows = ap (λ (x : OpenNode). f.implied && x.surroundings.text_alone) q
          ∙ implied_holds_more reader.scripting f gs h.are_open;
    }

-- ---- a text and its end

run_goes_on : (scripting : Bool) (p : TextSurroundings) (n s : List ℕ) (fs : List OpenElement)
    → TellsOfText scripting p n fs
    → is_empty s ≡ false → ends_text scripting (parent_name (names_of above_body fs)) s ≡ false
    → is_run_end p.alone n s ≡ false
run_goes_on scripting p n [] fs t e f = absurd (cc)
run_goes_on scripting p n (b ∷ s) fs t e f =
    subst (λ z. cond z (begins_own_end n (b ∷ s)) (begins_markup (b ∷ s)) ≡ false) (sym t.alone_is)
    (subst (λ m. ends_text scripting m (b ∷ s) ≡ false) (sym t.name_is) f)

pub text_goes_on : (reader : Reader) (p : TextSurroundings) (n : List ℕ) (fs : List OpenElement)
    → TellsOfText reader.scripting p n fs → IsAtText reader fs → is_run_end p.alone n reader.rest.now ≡ false
text_goes_on reader p n fs t i =
    run_goes_on reader.scripting p n reader.rest.now fs t i.more_text i.no_markup

flush : (scripting : Bool) (p : TextSurroundings) (n run s : List ℕ) (fs : List OpenElement)
    → TellsOfText scripting p n fs
    → 0 < length run → is_run_end p.alone n s ≡ true
    → step (project scripting) above_body (in_run fs run s) ≡ between (with_tree fs (text run)) s
unfolding step
flush scripting p n [] s fs t l e = absurd (omega arith)
flush scripting p n (b ∷ run) [] fs t l e =
    rw (or_true (ends_text scripting (parent_name (names_of above_body fs)) [])) refl
  where
    or_true : (x : Bool) → (x || true) ≡ true
    or_true true = refl
    or_true false = refl
flush scripting p n (b ∷ run) (d ∷ s) fs t l e =
    let q : ends_text scripting (parent_name (names_of above_body fs)) (d ∷ s) ≡ true =
    subst (λ m. ends_text scripting m (d ∷ s) ≡ true) t.name_is
    (subst (λ z. cond z (begins_own_end n (d ∷ s)) (begins_markup (d ∷ s)) ≡ true) t.alone_is e) in
    rw q refl

-- the text was added, and the reader is after it
pub text_read : (old new : Reader) (has_doctype : Bool) (fs : List OpenElement) (answer : Answer) (p : TextSurroundings)
    (n run rest : List ℕ) → TellsOfText old.scripting p n fs → p.too_deep ≡ false → 0 < length run
    → Reaches (rules_of old) above_body (in_run fs [] old.rest.now) (in_run fs run rest)
    → is_run_end p.alone n rest ≡ true
    → Follows old new has_doctype answer (add (rules_of old) above_body fs (text run) rest)
    → Advances old new has_doctype fs answer
text_read old new has_doctype fs answer p n run rest t d l r e f =
    go answer (subst (λ b. Follows old new has_doctype answer
    (cond b (Err TooDeep)
    (between (with_tree fs (text run)) rest))) (sym t.deep_is ∙ d) f)
  where
    go : (a : Answer) → Follows old new has_doctype a (between (with_tree fs (text run)) rest)
        → Advances old new has_doctype fs a
    go (Ok x) w = (
      record { stack = with_tree fs (text run); run = []; rest = rest },
      w,
      reaches_then r (via (flush old.scripting p n run rest fs t l e) here),
    )
    go (Err Memory) w = tt
    go (Err (Refused left kind)) w = absurd w

-- a fault in the run
pub text_stops : (old new : Reader) (has_doctype : Bool) (fs : List OpenElement) (stop : Stop)
    → StopsRun old.scripting fs old.rest.now stop → Advances old new has_doctype fs (Err stop)
text_stops old new has_doctype fs Memory w = tt
text_stops old new has_doctype fs (Refused left kind) w = w

-- ---- text without references

raw_is_alone : (scripting : Bool) (n : List ℕ) → holds_raw_text scripting n ≡ true
    → holds_text_alone scripting n ≡ true
raw_is_alone scripting n e =
    or_right (is_among (codes "title" ∷ codes "textarea" ∷ []) n) (holds_raw_text scripting n) e

raw_front : (scripting : Bool) (n s : List ℕ) → holds_raw_text scripting n ≡ true
    → up_to (begins_own_end n) s ≡ up_to (ends_text scripting n) s
raw_front scripting n s e =
    ap (λ z. up_to (λ x. cond z (begins_own_end n x) (begins_markup x)) s) (sym (raw_is_alone scripting n e))

raw_rest : (scripting : Bool) (n s : List ℕ) → holds_raw_text scripting n ≡ true
    → onward (begins_own_end n) s ≡ onward (ends_text scripting n) s
raw_rest scripting n s e =
    ap (λ z. onward (λ x. cond z (begins_own_end n x) (begins_markup x)) s) (sym (raw_is_alone scripting n e))

-- what a step does with raw content
module _ (scripting : Bool) (fs : List OpenElement) (s content rest : List ℕ) (len : ℕ)
    (raw : holds_raw_text scripting (innermost_name fs) ≡ true)
    (size : len ≡ length (up_to (begins_own_end (innermost_name fs)) s))
    (front : content ≡ take len s) (back : rest ≡ drop len s) where
  content_is : content ≡ up_to (ends_text scripting (innermost_name fs)) s
  content_is =
      front ∙ ap (λ m. take m s) size ∙ take_up_to (begins_own_end (innermost_name fs)) s
      ∙ raw_front scripting (innermost_name fs) s raw

  rest_is : rest ≡ onward (ends_text scripting (innermost_name fs)) s
  rest_is =
      back ∙ ap (λ m. drop m s) size ∙ drop_up_to (begins_own_end (innermost_name fs)) s
      ∙ raw_rest scripting (innermost_name fs) s raw

  abbrev RawStep : Step
  RawStep =
      raw_text_step (project scripting) above_body fs
      (text_of (project scripting) (innermost_name fs) (up_to (ends_text scripting (innermost_name fs)) s))
      (onward (ends_text scripting (innermost_name fs)) s)

  moved : raw_text_step (project scripting) above_body fs (raw_text_of (innermost_name fs) content) rest ≡ RawStep
  moved =
      ap (λ x. raw_text_step (project scripting) above_body fs (raw_text_of (innermost_name fs) x) rest) content_is
      ∙ ap (raw_text_step (project scripting) above_body fs
      (raw_text_of (innermost_name fs) (up_to (ends_text scripting (innermost_name fs)) s))) rest_is
      ∙ ap (λ z. raw_text_step (project scripting) above_body fs
      (cond z (raw_text_of (innermost_name fs) (up_to (ends_text scripting (innermost_name fs)) s))
      (decode named_characters 0 (up_to (ends_text scripting (innermost_name fs)) s)))
      (onward (ends_text scripting (innermost_name fs)) s)) (sym raw)

  pub raw_text_is : (is_among (codes "script" ∷ []) (innermost_name fs) && has_script_escape content) ≡ false
      → add (project scripting) above_body fs (text (normalized content)) rest ≡ RawStep
  raw_text_is e = (let k = e in rw e refl) ∙ moved

  pub raw_text_escapes : (is_among (codes "script" ∷ []) (innermost_name fs) && has_script_escape content) ≡ true
      → fault ScriptEscape ≡ RawStep
  raw_text_escapes e = (rw e refl) ∙ moved

pub script_with : (n content : List ℕ) (h : Bool) → bytes_eq n (codes "script") ≡ true
    → has_script_escape content ≡ h
    → (is_among (codes "script" ∷ []) n && has_script_escape content) ≡ h
script_with n content h e f = rw e f

pub no_script : (n content : List ℕ) → bytes_eq n (codes "script") ≡ false
    → (is_among (codes "script" ∷ []) n && has_script_escape content) ≡ false
no_script n content e = rw e refl
