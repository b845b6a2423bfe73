-- The code of a valid problem can be written, and the texts of lists that get one more.
use Rattle.std.proofs.Common.{◌≡◌, ℕ, zero, suc, ◌+◌, ◌<◌, ◌≤◌, inl, inr, List, [], ◌∷◌, ◌++◌, All, Some, length, take, slice_get, refl, sym, ◌∙◌, ap, subst, arith, append_assoc, add-zero}
use Rattle.std.specs.List.{flat_map}
use Rattle.std.proofs.lemmas.Bool.{cond_both}
use Rattle.std.proofs.lemmas.List.{append-nil, take_more, take_all, length-take-le}
use Rattle.std.proofs.lemmas.List.Folds.{flat_map-map}
use Rattle.std.proofs.lemmas.List.Elements.{All-nil, All-cons, All-append, All-head, All-tail}
use Rattle.std.proofs.lemmas.Option.{slice_get_within, get_or_from_slice_get}
use Rattle.pm_logic.specs.Problem.{Symbol, Literal, Clause, Problem, IsTermOver, AreTermsOver, IsLiteralOver, IsClauseOver, IsValid}
use Rattle.pm_logic.specs.Term.{Term, Terms, var, app, no_terms, more_terms, as_terms}
use Rattle.pm_compile.specs.declared.instr.Instr.{Instr}
use Rattle.pm_compile.specs.Instructions.{Instruction, FIRST, AGAIN, MEET, GROUND, NEW, MAKE, CONST, PUSH, GOAL, BODY, RETURN, CLOSE, DONE, instruction_of}
use Rattle.pm_compile.specs.Scheme.{is_among, are_ground, count, occurrence, head_code, head_code_among, building_code, building_code_among, goal_code, body_code, start_code, extension_code}
use Rattle.pm_compile.specs.Code.{instructions, ClauseCode, IsCodeOf, body_at, start_at, extensions_at, extension_at}
use Rattle.pm_compile.specs.Laws.{Says, FollowsScheme}
use Rattle.pm_compile.specs.Listing.{line, lines, section, instruction_text, clause_listing, extension_listing, extensions_listing, listing_from}
use Rattle.pm_compile.specs.Inside.Lines.{IsInstructionOver, IsWritable}
use Rattle.pm_compile.proofs.LawLemmas.{code_follows, one_further}
use Rattle.pm_compile.proofs.OverLemmas.{All-images, clause-over, shape_within}

one : (symbols : List Symbol) (i : Instruction) → IsInstructionOver symbols i → All (IsInstructionOver symbols) (i ∷ [])
one symbols i over = All-cons (IsInstructionOver symbols) i [] over (All-nil (IsInstructionOver symbols))

occurrence-over : (symbols : List Symbol) (seen : List ℕ) (x : ℕ) → All (IsInstructionOver symbols) (occurrence seen x ∷ [])
occurrence-over symbols seen x =
    let P : Instruction → Type 0 = λ i. All (IsInstructionOver symbols) (i ∷ []) in
    cond_both (is_among x seen) (AGAIN x) (FIRST x) P (λ _. one symbols (AGAIN x) tt) (λ _. one symbols (FIRST x) tt)

mutual
  head_code-over : (symbols : List Symbol) (vars : ℕ) (seen : List ℕ) (t : Term) → IsTermOver symbols vars t
      → All (IsInstructionOver symbols) (head_code seen t)
  head_code-over symbols vars seen (var x) over = occurrence-over symbols seen x
  head_code-over symbols vars seen (app f ts) over =
      let P : List Instruction → Type 0 = All (IsInstructionOver symbols) in
      cond_both (are_ground ts) (GROUND (app f ts) ∷ []) (MEET f (count ts) ∷ head_code_among seen ts) P
      (λ _. one symbols (GROUND (app f ts)) (vars, over))
      (λ _. All-cons (IsInstructionOver symbols) (MEET f (count ts)) (head_code_among seen ts)
      (shape_within symbols f (count ts) _ over.0) (head_code_among-over symbols vars seen ts over.1))

  head_code_among-over : (symbols : List Symbol) (vars : ℕ) (seen : List ℕ) (ts : Terms) → AreTermsOver symbols vars ts
      → All (IsInstructionOver symbols) (head_code_among seen ts)
  head_code_among-over symbols vars seen no_terms over = All-nil (IsInstructionOver symbols)
  head_code_among-over symbols vars seen (more_terms t ts) over =
      All-append (IsInstructionOver symbols) (head_code seen t) _ (head_code-over symbols vars seen t over.0)
      (head_code_among-over symbols vars _ ts over.1)

mutual
  building_code-over : (symbols : List Symbol) (vars : ℕ) (t : Term) → IsTermOver symbols vars t
      → All (IsInstructionOver symbols) (building_code t)
  building_code-over symbols vars (var x) over = one symbols (PUSH x) tt
  building_code-over symbols vars (app f ts) over =
      let P : List Instruction → Type 0 = All (IsInstructionOver symbols) in
      cond_both (are_ground ts) (CONST (app f ts) ∷ []) (building_code_among ts ++ MAKE f (count ts) ∷ []) P
      (λ _. one symbols (CONST (app f ts)) (vars, over))
      (λ _. All-append (IsInstructionOver symbols) (building_code_among ts) (MAKE f (count ts) ∷ [])
      (building_code_among-over symbols vars ts over.1) (one symbols (MAKE f (count ts)) (shape_within symbols f (count ts) _ over.0)))

  building_code_among-over : (symbols : List Symbol) (vars : ℕ) (ts : Terms) → AreTermsOver symbols vars ts
      → All (IsInstructionOver symbols) (building_code_among ts)
  building_code_among-over symbols vars no_terms over = All-nil (IsInstructionOver symbols)
  building_code_among-over symbols vars (more_terms t ts) over =
      All-append (IsInstructionOver symbols) (building_code t) (building_code_among ts)
      (building_code-over symbols vars t over.0) (building_code_among-over symbols vars ts over.1)

terms-over : (symbols : List Symbol) (vars : ℕ) (ts : List Term) → All (IsTermOver symbols vars) ts → AreTermsOver symbols vars (as_terms ts)
terms-over symbols vars [] over = tt
terms-over symbols vars (t ∷ ts) over =
    (All-head (IsTermOver symbols vars) t ts over, terms-over symbols vars ts (All-tail (IsTermOver symbols vars) t ts over))

goal_code-over : (symbols : List Symbol) (vars : ℕ) (literal : Literal) → IsLiteralOver symbols vars literal
    → All (IsInstructionOver symbols) (goal_code literal)
goal_code-over symbols vars literal over =
    let there : literal.predicate < length symbols =
    elim over.predicate [
      | inl shape ↦ shape_within symbols literal.predicate (length literal.args) _ shape
      | inr shape ↦ shape_within symbols literal.predicate (length literal.args) _ shape
    ] in
    All-append (IsInstructionOver symbols) (building_code_among (as_terms literal.args)) (GOAL literal.positive literal.predicate (length literal.args) ∷ [])
    (building_code_among-over symbols vars (as_terms literal.args) (terms-over symbols vars literal.args over.args))
    (one symbols (GOAL literal.positive literal.predicate (length literal.args)) there)

goals-over : (symbols : List Symbol) (vars : ℕ) (literals : List Literal) → All (IsLiteralOver symbols vars) literals
    → All (IsInstructionOver symbols) (flat_map goal_code literals)
goals-over symbols vars [] over = All-nil (IsInstructionOver symbols)
goals-over symbols vars (literal ∷ literals) over =
    All-append (IsInstructionOver symbols) (goal_code literal) (flat_map goal_code literals)
    (goal_code-over symbols vars literal (All-head (IsLiteralOver symbols vars) literal literals over))
    (goals-over symbols vars literals (All-tail (IsLiteralOver symbols vars) literal literals over))

-- what the code says can be written
writable : (problem : Problem) (instrs : List Instr) (code : List Instruction) → Says problem instrs code
    → All (IsInstructionOver problem.symbols) code → All (IsWritable problem.symbols problem.terms) instrs
writable problem instrs code says over k d lt = (
  says.rows k d lt,
  All-images (IsInstructionOver problem.symbols) (instruction_of problem.terms) instrs
      (subst (All (IsInstructionOver problem.symbols)) (sym says.says) over) k d lt,
)

pub slice_there : {X : Type 0} (xs : List X) (i : ℕ) → i < length xs → (x : X) × (slice_get xs i ≡ Some x)
slice_there [] i lt = absurd (omega (arith, lt))
slice_there (x ∷ xs) zero lt = (x, refl)
slice_there (x ∷ xs) (suc i) lt = slice_there xs i (omega (arith, lt))

pub body-writable : (problem : Problem) (code : List ClauseCode) (c : ℕ) → IsCodeOf problem code → IsValid problem → c < length problem.clauses
    → All (IsWritable problem.symbols problem.terms) (body_at code c)
body-writable problem code c is valid within =
    let there = slice_there problem.clauses c within in
    let clause : Clause = there.0 in
    let over : IsClauseOver problem.symbols clause = clause-over problem.symbols problem.clauses c clause valid.clauses there.1 in
    writable problem (body_at code c) (body_code clause.literals) (code_follows problem code is c clause there.1).body
    (All-append (IsInstructionOver problem.symbols) (flat_map goal_code clause.literals) (RETURN ∷ [])
    (goals-over problem.symbols clause.vars clause.literals over.literals) (one problem.symbols RETURN tt))

start_code-over : (symbols : List Symbol) (c : ℕ) → All (IsInstructionOver symbols) (start_code c)
start_code-over symbols c =
    let P : Instruction → Type 0 = IsInstructionOver symbols in
    All-cons P NEW (BODY c ∷ DONE ∷ []) tt (All-cons P (BODY c) (DONE ∷ []) tt (one symbols DONE tt))

pub start-writable : (problem : Problem) (code : List ClauseCode) (c : ℕ) → IsCodeOf problem code → c < length problem.clauses
    → All (IsWritable problem.symbols problem.terms) (start_at code c)
start-writable problem code c is within =
    let there = slice_there problem.clauses c within in
    writable problem (start_at code c) (start_code c) (code_follows problem code is c there.0 there.1).start (start_code-over problem.symbols c)

pub extension-writable : (problem : Problem) (code : List ClauseCode) (c j : ℕ) → IsCodeOf problem code → IsValid problem → c < length problem.clauses
    → ((clause : Clause) → slice_get problem.clauses c ≡ Some clause → j < length clause.literals)
    → All (IsWritable problem.symbols problem.terms) (extension_at code c j)
extension-writable problem code c j is valid within few =
    let there = slice_there problem.clauses c within in
    let clause : Clause = there.0 in
    let P : Instruction → Type 0 = IsInstructionOver problem.symbols in
    let over : IsClauseOver problem.symbols clause = clause-over problem.symbols problem.clauses c clause valid.clauses there.1 in
    let here = slice_there clause.literals j (few clause there.1) in
    let literal : Literal = here.0 in
    let its : IsLiteralOver problem.symbols clause.vars literal =
    subst (IsLiteralOver problem.symbols clause.vars) (get_or_from_slice_get clause.literals j literal literal here.1)
    (over.literals j literal (slice_get_within clause.literals j literal here.1)) in
    writable problem (extension_at code c j) (extension_code c j literal)
    ((code_follows problem code is c clause there.1).extension j literal here.1)
    (All-append P (head_code_among [] (as_terms literal.args)) (NEW ∷ BODY c ∷ CLOSE j ∷ DONE ∷ [])
    (head_code_among-over problem.symbols clause.vars [] (as_terms literal.args) (terms-over problem.symbols clause.vars literal.args its.args))
    (All-cons P NEW (BODY c ∷ CLOSE j ∷ DONE ∷ []) tt
    (All-cons P (BODY c) (CLOSE j ∷ DONE ∷ []) tt (All-cons P (CLOSE j) (DONE ∷ []) tt (one problem.symbols DONE tt)))))

-- a literal, or a clause, has an extension code there
pub extension-there : (problem : Problem) (code : List ClauseCode) (c j : ℕ) → IsCodeOf problem code → c < length problem.clauses
    → ((clause : Clause) → slice_get problem.clauses c ≡ Some clause → j < length clause.literals)
    → (c < length code) × (j < length (extensions_at code c))
extension-there problem code c j is within few =
    let there = slice_there problem.clauses c within in
    let follows : FollowsScheme problem code c there.0 = code_follows problem code is c there.0 there.1 in
    (follows.within, omega (arith, follows.count, few there.0 there.1))

-- a title and lines are a section
pub section-written : (problem : Problem) (title : List ℕ) (code : List Instruction) (old titled new : List ℕ) (instrs its : List Instr)
    → titled ≡ old ++ line title → new ≡ titled ++ lines problem.symbols (instructions problem.terms instrs)
    → instrs ≡ its → Says problem its code → new ≡ old ++ section problem.symbols title code
section-written problem title code old titled new instrs its top below are says =
    let symbols : List Symbol = problem.symbols in
    below
    ∙ ap (λ (t : List ℕ). t ++ lines symbols (instructions problem.terms instrs)) top
    ∙ append_assoc old (line title) (lines symbols (instructions problem.terms instrs))
    ∙ ap (λ (is : List Instr). old ++ (line title ++ lines symbols (instructions problem.terms is))) are
    ∙ ap (λ (c : List Instruction). old ++ section symbols title c) says.says

-- three texts one after another
pub texts-join : (old first second new a b c : List ℕ) → first ≡ old ++ a → second ≡ first ++ b → new ≡ second ++ c → new ≡ old ++ (a ++ (b ++ c))
texts-join old first second new a b c one_more two_more three_more = simp (three_more, two_more, one_more, append_assoc) refl

-- a line for each instruction
pub lines-all : (symbols : List Symbol) (terms : List Term) (instrs : List Instr) (i : ℕ) (old new : List ℕ) → length instrs ≤ i
    → new ≡ old ++ flat_map (λ k. line (instruction_text symbols (instruction_of terms k))) (take i instrs)
    → new ≡ old ++ lines symbols (instructions terms instrs)
lines-all symbols terms instrs i old new done so_far =
    so_far
    ∙ ap (λ (is : List Instr). old ++ flat_map (λ k. line (instruction_text symbols (instruction_of terms k))) is) (take_all i instrs done)
    ∙ ap (λ (t : List ℕ). old ++ t) (sym (flat_map-map (λ (k : Instruction). line (instruction_text symbols k)) (instruction_of terms) instrs))

pub extensions_listing-push : (symbols : List Symbol) (c j : ℕ) (literals : List Literal) (literal : Literal)
    → extensions_listing symbols c j (literals ++ literal ∷ [])
    ≡ extensions_listing symbols c j literals ++ extension_listing symbols c (j + length literals) literal
extensions_listing-push symbols c j [] literal =
    append-nil (extension_listing symbols c j literal) ∙ ap (λ n. extension_listing symbols c n literal) (sym (add-zero j))
extensions_listing-push symbols c j (l ∷ ls) literal =
    let first : List ℕ = extension_listing symbols c j l in
    let last : List ℕ = extension_listing symbols c (j + suc (length ls)) literal in
    ap (λ (t : List ℕ). first ++ t)
    (extensions_listing-push symbols c (j + 1) ls literal
    ∙ ap (λ n. extensions_listing symbols c (j + 1) ls ++ extension_listing symbols c n literal) (one_further j (length ls)))
    ∙ sym (append_assoc first (extensions_listing symbols c (j + 1) ls) last)

-- one more extension is listed
pub extensions_listing-more : (symbols : List Symbol) (c j : ℕ) (literals : List Literal) (literal : Literal) (start old new : List ℕ)
    → slice_get literals j ≡ Some literal → old ≡ start ++ extensions_listing symbols c 0 (take j literals)
    → new ≡ old ++ extension_listing symbols c j literal
    → new ≡ start ++ extensions_listing symbols c 0 (take (j + 1) literals)
extensions_listing-more symbols c j literals literal start old new stands so_far added =
    let within : j < length literals = slice_get_within literals j literal stands in
    let before : List ℕ = extensions_listing symbols c 0 (take j literals) in
    let counted : 0 + length (take j literals) ≡ j = omega (arith, length-take-le j literals (omega (arith, within))) in
    added ∙ ap (λ (t : List ℕ). t ++ extension_listing symbols c j literal) so_far
    ∙ append_assoc start before (extension_listing symbols c j literal)
    ∙ ap (λ n. start ++ (before ++ extension_listing symbols c n literal)) (sym counted)
    ∙ ap (λ (t : List ℕ). start ++ t) (sym (extensions_listing-push symbols c 0 (take j literals) literal))
    ∙ ap (λ (l : Literal). start ++ extensions_listing symbols c 0 (take j literals ++ l ∷ [])) (sym (get_or_from_slice_get literals j literal literal stands))
    ∙ ap (λ (ls : List Literal). start ++ extensions_listing symbols c 0 ls) (sym (take_more literals j literal within))

listing_from-push : (symbols : List Symbol) (c : ℕ) (clauses : List Clause) (clause : Clause)
    → listing_from symbols c (clauses ++ clause ∷ []) ≡ listing_from symbols c clauses ++ clause_listing symbols (c + length clauses) clause
listing_from-push symbols c [] clause =
    append-nil (clause_listing symbols c clause) ∙ ap (λ n. clause_listing symbols n clause) (sym (add-zero c))
listing_from-push symbols c (k ∷ ks) clause =
    let first : List ℕ = clause_listing symbols c k in
    let last : List ℕ = clause_listing symbols (c + suc (length ks)) clause in
    ap (λ (t : List ℕ). first ++ t)
    (listing_from-push symbols (c + 1) ks clause
    ∙ ap (λ n. listing_from symbols (c + 1) ks ++ clause_listing symbols n clause) (one_further c (length ks)))
    ∙ sym (append_assoc first (listing_from symbols (c + 1) ks) last)

-- one more clause is listed
pub listing-more : (symbols : List Symbol) (c : ℕ) (clauses : List Clause) (clause : Clause) (old new : List ℕ)
    → slice_get clauses c ≡ Some clause → old ≡ listing_from symbols 0 (take c clauses) → new ≡ old ++ clause_listing symbols c clause
    → new ≡ listing_from symbols 0 (take (c + 1) clauses)
listing-more symbols c clauses clause old new stands so_far added =
    let within : c < length clauses = slice_get_within clauses c clause stands in
    let before : List ℕ = listing_from symbols 0 (take c clauses) in
    let counted : 0 + length (take c clauses) ≡ c = omega (arith, length-take-le c clauses (omega (arith, within))) in
    added ∙ ap (λ (t : List ℕ). t ++ clause_listing symbols c clause) so_far
    ∙ ap (λ n. before ++ clause_listing symbols n clause) (sym counted)
    ∙ sym (listing_from-push symbols 0 (take c clauses) clause)
    ∙ ap (λ (k : Clause). listing_from symbols 0 (take c clauses ++ k ∷ [])) (sym (get_or_from_slice_get clauses c clause clause stands))
    ∙ ap (listing_from symbols 0) (sym (take_more clauses c clause within))
