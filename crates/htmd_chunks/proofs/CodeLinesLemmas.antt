-- The parts of a code block are its lines.
use Rattle.std.proofs.Common.{◌≡◌, ℕ, Bool, true, false, not, cond, List, [], ◌∷◌, ◌++◌, map, refl}
use Rattle.std.proofs.Common.{sym, ap, ◌∙◌}
use Rattle.std.proofs.Common.{append_assoc, subst}
use Rattle.std.specs.Prelude.{◌&&◌, ◌==◌, Option}
use Rattle.std.specs.List.{flat_map, list_all, onto_first, slice_split}
use Rattle.std.proofs.lemmas.Bool.{eqb-true}
use Rattle.std.proofs.lemmas.List.{append-nil}
use Rattle.htmd_lexical.specs.Characters.{line_feed}
use Rattle.htmd_text.specs.Trims.{is_line_feed}
use Rattle.htmd_document.specs.Documents.{Block, code_block}
use Rattle.htmd_chunks.specs.CodeLines.{is_blank, units_from, line_units, joined_lines, lines_cost, fences_size}
use Rattle.htmd_chunks.specs.CodeLines.{code_parts}
use Rattle.htmd_chunks.specs.Cuts.{block_part, leaf_parts}
use Rattle.htmd_chunks.specs.Runs.{runs_from, runs, together}
use Rattle.htmd_chunks.specs.Sizes.{cost}
use Rattle.htmd_chunks.specs.declared.bounds.Bounds.{Bounds}
use Rattle.htmd_chunks.specs.declared.joint.Joint.TheVariants as joint
use Rattle.htmd_chunks.specs.declared.size.Margin.{Margin}
use Rattle.htmd_chunks.proofs.FillingsLemmas.{merged, AreParts, parts_of, go_on-so}
use Rattle.htmd_chunks.proofs.RunsLemmas.{together-append, runs_from-together}
use Rattle.htmd_chunks.proofs.RunsLemmas.{HaveItems, no_units, unit_of, RunsHave, no_runs, run_of, runs-have}

abbrev Line : Type 0
Line = List ℕ

-- ---- lines joined

flat-append : (f : Line → Line) (ks ls : List Line) → flat_map f (ks ++ ls) ≡ flat_map f ks ++ flat_map f ls
flat-append f [] ls = refl
flat-append f (k ∷ ks) ls =
    ap (λ l. f k ++ l) (flat-append f ks ls) ∙ sym (append_assoc (f k) (flat_map f ks) (flat_map f ls))

pub lines-behind : (k : Line) (ks : List Line) (l : Line) (ls : List Line)
    → joined_lines ((k ∷ ks) ++ (l ∷ ls)) ≡ joined_lines (k ∷ ks) ++ line_feed ∷ joined_lines (l ∷ ls)
lines-behind k ks l ls =
    let f : Line → Line = λ next. (line_feed ∷ []) ++ next in
    ap (λ t. k ++ t) (flat-append f ks (l ∷ ls))
    ∙ sym (append_assoc k (flat_map f ks) (line_feed ∷ (l ++ flat_map f ls)))

-- these are the lines of a text
pub data AreLines : Line → List Line → Type 0 where
  lines_of : (l : Line) (ls : List Line) → AreLines (joined_lines (l ∷ ls)) (l ∷ ls)

line_more : (b : ℕ) (s : Line) (ls : List Line) → AreLines s ls → (e : Bool) → (b == line_feed) ≡ e
    → AreLines (b ∷ s) (cond e ([] ∷ ls) (onto_first b ls))
line_more b s ls (lines_of l rest) true e =
    subst (λ (x : ℕ). AreLines (x ∷ joined_lines (l ∷ rest)) ([] ∷ l ∷ rest)) (sym (eqb-true b line_feed e))
    (lines_of [] (l ∷ rest))
line_more b s ls (lines_of l rest) false e = lines_of (b ∷ l) rest

pub split-lines : (s : Line) → AreLines s (slice_split is_line_feed s)
split-lines [] = lines_of [] []
split-lines (b ∷ s) = line_more b s (slice_split is_line_feed s) (split-lines s) (b == line_feed) refl

-- ---- units

pub units_from-together : (unit lines : List Line) → together (units_from unit lines) ≡ unit ++ lines
units_from-together unit [] = refl
units_from-together unit (line ∷ lines) =
    elim (not (is_blank line) && not (list_all is_blank unit))
    as (λ b. together (cond b (unit ∷ units_from (line ∷ []) lines) (units_from (unit ++ line ∷ []) lines))
    ≡ unit ++ line ∷ lines) [
      | true ↦ ap (λ l. unit ++ l) (units_from-together (line ∷ []) lines)
      | false ↦ units_from-together (unit ++ line ∷ []) lines ∙ append_assoc unit (line ∷ []) lines
    ]

units-have : (l : Line) (ls lines : List Line) → HaveItems (units_from (l ∷ ls) lines)
units-have l ls [] = unit_of l ls [] no_units
units-have l ls (line ∷ lines) =
    elim (not (is_blank line) && not (list_all is_blank (l ∷ ls)))
    as (λ b. HaveItems (cond b ((l ∷ ls) ∷ units_from (line ∷ []) lines)
    (units_from (l ∷ ls ++ line ∷ []) lines))) [
      | true ↦ unit_of l ls (units_from (line ∷ []) lines) (units-have line [] lines)
      | false ↦ units-have l (ls ++ line ∷ []) lines
    ]

first-unit : (l : Line) (ls : List Line) (blank : Bool)
    → HaveItems (cond (blank && false) ([] ∷ units_from (l ∷ []) ls) (units_from (l ∷ []) ls))
first-unit l ls true = units-have l [] ls
first-unit l ls false = units-have l [] ls

pub units-of-lines : (s : Line) (ls : List Line) → AreLines s ls → HaveItems (units_from [] ls)
units-of-lines s ls (lines_of l rest) = first-unit l rest (not (is_blank l))

-- ---- parts

code-merged : (language : Option (List ℕ)) (l : Line) (ls : List Line) (rest : List (List (List Line)))
    → RunsHave rest
    → merged (code_block language (joined_lines (l ∷ ls)))
    (map (block_part (joint.Code ∷ []))
    (map (code_block language) (map (λ units. joined_lines (together units)) rest)))
    ≡ code_block language (joined_lines ((l ∷ ls) ++ together (together rest)))
code-merged language l ls rest no_runs =
    ap (λ t. code_block language (joined_lines t)) (sym (append-nil (l ∷ ls)))
code-merged language l ls rest (run_of k ks units others have) =
    let run = k ∷ (ks ++ together units) in
    ap (λ t. merged (code_block language t) (map (block_part (joint.Code ∷ []))
    (map (code_block language) (map (λ us. joined_lines (together us)) others))))
    (sym (lines-behind l ls k (ks ++ together units)))
    ∙ code-merged language l (ls ++ run) others have
    ∙ ap (λ t. code_block language (joined_lines t))
    (append_assoc (l ∷ ls) run (together (together others))
    ∙ ap (λ t. (l ∷ ls) ++ t) (sym (together-append ((k ∷ ks) ∷ units) (together others))))

code-runs : (language : Option (List ℕ)) (l : Line) (ls : List Line) (parts : List (List (List Line)))
    → RunsHave parts → together (together parts) ≡ l ∷ ls
    → AreParts (code_block language (joined_lines (l ∷ ls)))
    (leaf_parts joint.Code (map (code_block language) (map (λ units. joined_lines (together units)) parts)))
code-runs language l ls parts no_runs is = absurd (cc)
code-runs language l ls parts (run_of k ks units rest have) is =
    let bs = map (code_block language) (map (λ us. joined_lines (together us)) rest) in
    let b = code_block language (joined_lines (k ∷ (ks ++ together units))) in
    subst (λ (x : Block). AreParts x (block_part [] b ∷ map (block_part (joint.Code ∷ [])) bs))
    (code-merged language k (ks ++ together units) rest have
    ∙ ap (λ t. code_block language (joined_lines t))
    (sym (together-append ((k ∷ ks) ∷ units) (together rest)) ∙ is))
    (parts_of (block_part [] b) (map (block_part (joint.Code ∷ [])) bs) (go_on-so joint.Code bs))

code-of : (language : Option (List ℕ)) (taken : List (List Line) → ℕ) (most first : ℕ) (s : Line)
    (lines : List Line)
    (units : List (List Line)) → AreLines s lines → HaveItems units → together units ≡ lines
    → AreParts (code_block language s) (leaf_parts joint.Code
    (map (code_block language) (map (λ us. joined_lines (together us)) (runs taken most first units))))
code-of language taken most first s lines units (lines_of l ls) no_units is = absurd (cc)
code-of language taken most first s lines units (lines_of l ls) (unit_of k ks rest have) is =
    code-runs language l ls (runs_from taken most first ((k ∷ ks) ∷ []) rest)
    (runs-have taken most first k ks [] rest have)
    (ap together (runs_from-together taken most first ((k ∷ ks) ∷ []) rest) ∙ is)

-- the parts of a code block are joined to it
pub code-parts : (c : Bounds) (m : Margin) (first : ℕ) (language : Option (List ℕ)) (s : List ℕ)
    → AreParts (code_block language s)
    (leaf_parts joint.Code (map (code_block language) (code_parts c m first language s)))
code-parts c m first language s =
    let lines = slice_split is_line_feed s in
    code-of language (lines_cost (cost m (fences_size c.options language s)) m) c.most first s lines (line_units s)
    (split-lines s) (units-of-lines s lines (split-lines s)) (units_from-together [] lines)
