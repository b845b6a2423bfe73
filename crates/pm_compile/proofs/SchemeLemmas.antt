-- The code of lists of terms.
use Rattle.std.proofs.Common.{◌≡◌, ℕ, Bool, true, false, List, [], ◌∷◌, ◌++◌, length, map, sym, ◌∙◌, ap, append_assoc}
use Rattle.std.specs.Prelude.{if◌then◌else◌}
use Rattle.std.proofs.lemmas.List.{append-nil, map-append, length-map}
use Rattle.pm_logic.specs.Term.{Term, Terms, var, app, as_terms, tree_at}
use Rattle.pm_logic.specs.Variables.{variables, variables_among}
use Rattle.pm_logic.proofs.TableLemmas.{list_of-as_terms}
use Rattle.pm_compile.specs.Instructions.{Instruction, GROUND, MEET, CONST, MAKE}
use Rattle.pm_compile.specs.Scheme.{is_ground, are_ground, count, occurrence, head_code, head_code_among, building_code, building_code_among}
use Rattle.pm_compile.specs.Inside.Heads.{head_of}
use Rattle.pm_compile.proofs.GroundLemmas.{no_variables}

-- how many terms the rows give
pub count-rows : (terms : List Term) (rows : List ℕ) → count (as_terms (map (tree_at terms) rows)) ≡ length rows
count-rows terms rows = ap length (list_of-as_terms (map (tree_at terms) rows)) ∙ length-map rows (tree_at terms)

pub head_code_among-append : (seen : List ℕ) (ts us : List Term)
    → head_code_among seen (as_terms (ts ++ us))
    ≡ head_code_among seen (as_terms ts) ++ head_code_among (seen ++ variables_among (as_terms ts)) (as_terms us)
head_code_among-append seen [] us = ap (λ (s : List ℕ). head_code_among s (as_terms us)) (sym (append-nil seen))
head_code_among-append seen (t ∷ ts) us =
    let after : List ℕ = seen ++ variables t in
    let last : List Instruction = head_code_among (after ++ variables_among (as_terms ts)) (as_terms us) in
    ap (λ (c : List Instruction). head_code seen t ++ c) (head_code_among-append after ts us)
    ∙ sym (append_assoc (head_code seen t) (head_code_among after (as_terms ts)) last)
    ∙ ap (λ (s : List ℕ). (head_code seen t ++ head_code_among after (as_terms ts)) ++ head_code_among s (as_terms us))
    (append_assoc seen (variables t) (variables_among (as_terms ts)))

pub head_code-ground : (seen : List ℕ) (t : Term) → is_ground t ≡ true → head_code seen t ≡ GROUND t ∷ []
head_code-ground seen (var n) ground = cc
head_code-ground seen (app f ts) ground =
    ap (λ (b : Bool). if b then GROUND (app f ts) ∷ [] else (MEET f (count ts) ∷ head_code_among seen ts)) ground

head_code-open : (seen : List ℕ) (f : ℕ) (ts : Terms) → are_ground ts ≡ false
    → head_code seen (app f ts) ≡ MEET f (count ts) ∷ head_code_among seen ts
head_code-open seen f ts not_ground =
    ap (λ (b : Bool). if b then GROUND (app f ts) ∷ [] else (MEET f (count ts) ∷ head_code_among seen ts)) not_ground

-- a ground term is the next of a head
pub head_of-ground : (terms : List Term) (before : List ℕ) (row : ℕ) (rows : List ℕ) → is_ground (tree_at terms row) ≡ true
    → GROUND (tree_at terms row) ∷ head_of terms before rows ≡ head_of terms before (row ∷ rows)
head_of-ground terms before row rows ground =
    let t : Term = tree_at terms row in
    ap (λ (s : List ℕ). GROUND t ∷ head_code_among s (as_terms (map (tree_at terms) rows)))
    (sym (append-nil before) ∙ ap (λ (vs : List ℕ). before ++ vs) (sym (no_variables t ground)))
    ∙ ap (λ (c : List Instruction). c ++ head_code_among (before ++ variables t) (as_terms (map (tree_at terms) rows)))
    (sym (head_code-ground before t ground))

-- a variable is the next of a head
pub head_of-variable : (terms : List Term) (before : List ℕ) (row x : ℕ) (rows : List ℕ) → tree_at terms row ≡ var x
    → occurrence before x ∷ head_of terms (before ++ x ∷ []) rows ≡ head_of terms before (row ∷ rows)
head_of-variable terms before row x rows is =
    ap (λ (t : Term). head_code before t ++ head_code_among (before ++ variables t) (as_terms (map (tree_at terms) rows))) (sym is)

-- an application that isn't ground is the next of a head
pub head_of-application : (terms : List Term) (before : List ℕ) (row f n : ℕ) (args rows : List ℕ)
    → tree_at terms row ≡ app f (as_terms (map (tree_at terms) args)) → is_ground (tree_at terms row) ≡ false → n ≡ length args
    → MEET f n ∷ head_of terms before (args ++ rows) ≡ head_of terms before (row ∷ rows)
head_of-application terms before row f n args rows is not_ground counted =
    let ts : List Term = map (tree_at terms) args in
    let us : List Term = map (tree_at terms) rows in
    ap (λ (k : ℕ). MEET f k ∷ head_of terms before (args ++ rows)) (counted ∙ sym (count-rows terms args))
    ∙ ap (λ (vs : List Term). MEET f (count (as_terms ts)) ∷ head_code_among before (as_terms vs)) (map-append (tree_at terms) args rows)
    ∙ ap (λ (c : List Instruction). MEET f (count (as_terms ts)) ∷ c) (head_code_among-append before ts us)
    ∙ ap (λ (c : List Instruction). c ++ head_code_among (before ++ variables_among (as_terms ts)) (as_terms us))
    (sym (head_code-open before f (as_terms ts) (ap is_ground (sym is) ∙ not_ground)))
    ∙ ap (λ (t : Term). head_code before t ++ head_code_among (before ++ variables t) (as_terms us)) (sym is)

pub building_code-ground : (t : Term) → is_ground t ≡ true → building_code t ≡ CONST t ∷ []
building_code-ground (var n) ground = cc
building_code-ground (app f ts) ground =
    ap (λ (b : Bool). if b then CONST (app f ts) ∷ [] else (building_code_among ts ++ MAKE f (count ts) ∷ [])) ground

-- an application that isn't ground is built of its arguments
pub building_code-application : (terms : List Term) (row f n : ℕ) (args : List ℕ)
    → tree_at terms row ≡ app f (as_terms (map (tree_at terms) args)) → is_ground (tree_at terms row) ≡ false → n ≡ length args
    → building_code (tree_at terms row) ≡ building_code_among (as_terms (map (tree_at terms) args)) ++ MAKE f n ∷ []
building_code-application terms row f n args is not_ground counted =
    let ts : Terms = as_terms (map (tree_at terms) args) in
    ap building_code is
    ∙ ap (λ (b : Bool). if b then CONST (app f ts) ∷ [] else (building_code_among ts ++ MAKE f (count ts) ∷ [])) (ap is_ground (sym is) ∙ not_ground)
    ∙ ap (λ (k : ℕ). building_code_among ts ++ MAKE f k ∷ []) (count-rows terms args ∙ sym counted)
