-- The code of a clause is added to that of the clauses before.
use Rattle.std.proofs.Common.{◌≡◌, ℕ, ◌+◌, ◌<◌, ◌≤◌, inl, inr, List, [], ◌∷◌, ◌++◌, All, Option, Some, None, length, map, take, drop, get_or, slice_get, refl, sym, ◌∙◌, ap, subst, arith, append_assoc, add-zero}
use Rattle.std.specs.Option.{option_map}
use Rattle.std.specs.List.{flat_map}
use Rattle.std.proofs.lemmas.List.{length-append, length-map, map_more, flat_map_more, length-take-le}
use Rattle.std.proofs.lemmas.List.Elements.{All-append, All-head, All-tail, All-weaker, All-take, All-drop, All-map}
use Rattle.std.proofs.lemmas.Option.{slice_get-map, slice_get-get_or, slice_get_within, same_Some}
use Rattle.pm_logic.specs.declared.problem.Literal as declared
use Rattle.pm_logic.specs.Problem.{Literal, Clause, Problem}
use Rattle.pm_logic.specs.Term.{Term, as_terms, tree_at}
use Rattle.pm_logic.specs.View.{literal_of}
use Rattle.pm_logic.proofs.ListLemmas.{slice_get-push, slice_get-last, below_or_last}
use Rattle.pm_compile.specs.declared.code.Span.{Span}
use Rattle.pm_compile.specs.declared.code.ClauseSpans.{ClauseSpans}
use Rattle.pm_compile.specs.declared.instr.Instr.{Instr}
use Rattle.pm_compile.specs.Instructions.{Instruction, HasRowBelow, NEW, GOAL, BODY, CLOSE, DONE}
use Rattle.pm_compile.specs.Scheme.{building_code_among, goal_code, body_code, start_code, extension_code, extension_codes_from, extension_codes}
use Rattle.pm_compile.specs.Code.{ClauseCode, IsClauseCode, HasRowsBelow, IsCodeOf, instructions}
use Rattle.pm_compile.specs.Inside.Appended.{Appends}
use Rattle.pm_compile.specs.Inside.Spans.{part, clause_code_of, code_of, IsSpanIn, IsPart, ArePartsOf, AreSpansIn, IsLaidOut, IsCompiled, AreCompiled}
use Rattle.pm_compile.specs.declared.heads.Seen.{Seen}
use Rattle.pm_compile.specs.declared.instr.Instr.TheVariants.{Goal}
use Rattle.pm_compile.specs.Inside.Heads.{IsReadyFor}
use Rattle.pm_compile.specs.Inside.Clauses.{Grows, AddsExtensions, AddsClause}
use Rattle.pm_compile.proofs.AppendLemmas.{Appends-then, Appends-join, length-Appends}
use Rattle.pm_compile.proofs.LawLemmas.{one_further}
use Rattle.pm_compile.proofs.SpanLemmas.{part-more, part-last, IsSpanIn-more, IsPart-more, IsPart-appended, ArePartsOf-more, ArePartsOf-push, parts-say, parts-rows, parts-within}

pub Grows-appended : (terms : List Term) (old new : List Instr) (code : List Instruction) → Appends terms old new code → Grows old new
Grows-appended terms old new code a = (a.more, a.grown)

pub Grows-join : {A : Type 0} (xs ys zs : List A) → Grows xs ys → Grows ys zs → Grows xs zs
Grows-join xs ys zs a b = (a.0 ++ b.0, b.1 ∙ ap (λ us. us ++ b.0) a.1 ∙ append_assoc xs a.0 b.0)

length-Grows : {A : Type 0} (xs ys : List A) → Grows xs ys → length xs ≤ length ys
length-Grows xs ys g = omega (arith, ap length g.1, length-append xs g.0)

IsPart-grown : (terms : List Term) (old new : List Instr) (span : Span) (code : List Instruction) → Grows old new
    → IsPart terms old span code → IsPart terms new span code
IsPart-grown terms old new span code g is = subst (λ (xs : List Instr). IsPart terms xs span code) (sym g.1) (IsPart-more terms old g.0 span code is)

extension_codes-push : (c j : ℕ) (literals : List Literal) (literal : Literal)
    → extension_codes_from c j (literals ++ literal ∷ []) ≡ extension_codes_from c j literals ++ extension_code c (j + length literals) literal ∷ []
extension_codes-push c j [] literal = ap (λ n. extension_code c n literal ∷ []) (sym (add-zero j))
extension_codes-push c j (l ∷ ls) literal =
    ap (λ (cs : List (List Instruction)). extension_code c j l ∷ cs)
    (extension_codes-push c (j + 1) ls literal
    ∙ ap (λ n. extension_codes_from c (j + 1) ls ++ extension_code c n literal ∷ []) (one_further j (length ls)))

extension_codes-more : (terms : List Term) (c j : ℕ) (literals : List declared.Literal) (literal : declared.Literal)
    → j < length literals → literal ≡ get_or literals j literal
    → extension_codes c (map (literal_of terms) (take (j + 1) literals))
    ≡ extension_codes c (map (literal_of terms) (take j literals)) ++ extension_code c j (literal_of terms literal) ∷ []
extension_codes-more terms c j literals literal within is =
    let so_far : List Literal = map (literal_of terms) (take j literals) in
    let counted : 0 + length so_far ≡ j =
    omega (arith, length-map (take j literals) (literal_of terms), length-take-le j literals (omega (arith, within))) in
    ap (extension_codes c) (map_more (literal_of terms) literals j literal within)
    ∙ ap (λ (l : declared.Literal). extension_codes c (so_far ++ literal_of terms l ∷ [])) (sym is)
    ∙ extension_codes-push c 0 so_far (literal_of terms literal)
    ∙ ap (λ n. extension_codes c so_far ++ extension_code c n (literal_of terms literal) ∷ []) counted

-- the child of a literal is appended
pub goal-added : (terms : List Term) (literal : declared.Literal) (rows : List ℕ) (n : ℕ) (old middle new : List Instr)
    → rows ≡ literal.args.items → n ≡ length (literal_of terms literal).args
    → Appends terms old middle (building_code_among (as_terms (map (tree_at terms) rows)))
    → new ≡ middle ++ Goal literal.positive literal.predicate n ∷ []
    → Appends terms old new (goal_code (literal_of terms literal))
goal-added terms literal rows n old middle new are counted built pushed =
    let code : List Instruction = building_code_among (as_terms (map (tree_at terms) literal.args.items)) in
    let all_built : Appends terms old middle code =
    subst (λ (rs : List ℕ). Appends terms old middle (building_code_among (as_terms (map (tree_at terms) rs)))) are built in
    subst (λ k. Appends terms old new (code ++ GOAL literal.positive literal.predicate k ∷ [])) counted
    (Appends-then terms old middle new code (Goal literal.positive literal.predicate n) all_built pushed tt)

-- one literal more has its child
pub body-more : (terms : List Term) (literals : List declared.Literal) (i : ℕ) (literal : declared.Literal) (first old new : List Instr)
    → i < length literals → literal ≡ get_or literals i literal
    → Appends terms first old (flat_map goal_code (map (literal_of terms) (take i literals)))
    → Appends terms old new (goal_code (literal_of terms literal))
    → Appends terms first new (flat_map goal_code (map (literal_of terms) (take (i + 1) literals)))
body-more terms literals i literal first old new within is so_far added =
    let before : List Literal = map (literal_of terms) (take i literals) in
    let whole : flat_map goal_code before ++ goal_code (literal_of terms literal) ≡ flat_map goal_code (map (literal_of terms) (take (i + 1) literals)) =
    flat_map_more goal_code [] before (literal_of terms literal)
    ∙ ap (λ (l : declared.Literal). flat_map goal_code (before ++ literal_of terms l ∷ [])) is
    ∙ ap (flat_map goal_code) (sym (map_more (literal_of terms) literals i literal within)) in
    subst (Appends terms first new) whole
    (Appends-join terms first old new (flat_map goal_code before) (goal_code (literal_of terms literal)) so_far added)

-- the next head may begin after an extension
pub ready-after : (terms : List Term) (old middle new : List Instr) (code : List Instruction) (c j : ℕ) (seen next : Seen)
    → Appends terms old middle code → Appends terms middle new (NEW ∷ BODY c ∷ CLOSE j ∷ DONE ∷ [])
    → length terms ≤ length seen.heads.items → length next.heads.items ≡ length seen.heads.items
    → All (λ h. h ≤ length old) next.heads.items → IsReadyFor terms (length new) next
ready-after terms old middle new code c j seen next head closing enough same past =
    let longer : length new ≡ length old + length code + 4 =
    omega (arith, length-Appends terms old middle code head, length-Appends terms middle new (NEW ∷ BODY c ∷ CLOSE j ∷ DONE ∷ []) closing) in
    record {
      count = omega (arith, enough, same);
      some = omega (arith, longer);
      before = All-weaker (λ h. h ≤ length old) (λ h. h < length new) (λ h le. omega (arith, le, longer)) next.heads.items past;
    }

-- a head may begin after the start
pub ready-later : (terms : List Term) (first second third : List Instr) (body : List Instruction) (c : ℕ) (seen : Seen)
    → Appends terms first second body → Appends terms second third (start_code c) → IsReadyFor terms (length first + 1) seen
    → IsReadyFor terms (length third) seen
ready-later terms first second third body c seen before start ready =
    let longer : length third ≡ length first + length body + 3 =
    omega (arith, length-Appends terms first second body before, length-Appends terms second third (start_code c) start) in
    record {
      count = ready.count;
      some = omega (arith, longer);
      before = All-weaker (λ h. h < length first + 1) (λ h. h < length third) (λ h lt. omega (arith, lt, longer)) seen.heads.items ready.before;
    }

-- one more extension
pub extension-added : (terms : List Term) (c j from to : ℕ) (literals : List declared.Literal) (literal : declared.Literal)
    (instrs old new : List Instr) (extensions spans spans' : List Span)
    → j < length literals → literal ≡ get_or literals j literal
    → Appends terms old new (extension_code c j (literal_of terms literal))
    → from ≡ length old → to ≡ length new → spans' ≡ spans ++ record { from = from; to = to } ∷ []
    → AddsExtensions terms c (map (literal_of terms) (take j literals)) instrs extensions old spans
    → AddsExtensions terms c (map (literal_of terms) (take (j + 1) literals)) instrs extensions new spans'
extension-added terms c j from to literals literal instrs old new extensions spans spans' within is appended begin end pushed so_far =
    let span : Span = record { from = from; to = to } in
    let codes : List (List Instruction) = extension_codes c (map (literal_of terms) (take j literals)) in
    let code : List Instruction = extension_code c j (literal_of terms literal) in
    record {
      code = Grows-join instrs old new so_far.code (Grows-appended terms old new code appended);
      spans = so_far.spans ++ span ∷ [];
      grown =
          pushed ∙ ap (λ (ss : List Span). ss ++ span ∷ []) so_far.grown ∙ append_assoc extensions so_far.spans (span ∷ []);
      parts =
          subst (ArePartsOf terms new (so_far.spans ++ span ∷ [])) (sym (extension_codes-more terms c j literals literal within is))
          (ArePartsOf-push terms new so_far.spans codes span code
          (subst (λ (xs : List Instr). ArePartsOf terms xs so_far.spans codes) (sym appended.grown)
          (ArePartsOf-more terms old appended.more so_far.spans codes so_far.parts))
          (IsPart-appended terms old new from to code appended begin end));
    }

-- the body, the start and the extensions are the code of the clause
pub clause-added : (problem : Problem) (c : ℕ) (clause : Clause) (first second third last : List Instr) (extensions extended : List Span)
    (from middle to : ℕ) (span : Span)
    → slice_get problem.clauses c ≡ Some clause
    → Appends problem.terms first second (body_code clause.literals) → Appends problem.terms second third (start_code c)
    → AddsExtensions problem.terms c clause.literals third extensions last extended
    → from ≡ length first → middle ≡ length second → to ≡ length third
    → span ≡ record { from = length extensions; to = length extended }
    → AddsClause problem c first extensions last extended
    (record { body = record { from = from; to = middle }; start = record { from = middle; to = to }; extensions = span })
clause-added problem c clause first second third last extensions extended from middle to span stands body start added begin mid end place =
    let terms : List Term = problem.terms in
    let after_body : Grows second last = Grows-join second third last (Grows-appended terms second third (start_code c) start) added.code in
    let body_part : IsPart terms last (record { from = from; to = middle }) (body_code clause.literals) =
    IsPart-grown terms second last (record { from = from; to = middle }) (body_code clause.literals) after_body
    (IsPart-appended terms first second from middle (body_code clause.literals) body begin mid) in
    let start_part : IsPart terms last (record { from = middle; to = to }) (start_code c) =
    IsPart-grown terms third last (record { from = middle; to = to }) (start_code c) added.code
    (IsPart-appended terms second third middle to (start_code c) start mid end) in
    let codes : List (List Instruction) = extension_codes c clause.literals in
    let there : part extended span ≡ added.spans =
    ap (part extended) place ∙ part-last extensions added.spans extended (length extended) added.grown refl in
    let its : ClauseSpans = record { body = record { from = from; to = middle }; start = record { from = middle; to = to }; extensions = span } in
    let whole : IsClauseCode terms c clause (clause_code_of last extended its) =
    record {
      body = body_part.says;
      start = start_part.says;
      extensions =
          ap (λ (ss : List Span). map (instructions terms) (map (part last) ss)) there
          ∙ parts-say terms last added.spans codes added.parts;
    } in
    let more : length extensions ≤ length extended = omega (arith, ap length added.grown, length-append extensions added.spans) in
    let to_all : Grows first last = Grows-join first second last (Grows-appended terms first second (body_code clause.literals) body) after_body in
    record {
      code = to_all;
      parts = (added.spans, added.grown);
      compiled = record {
        spans = record {
          body = body_part.within;
          start = start_part.within;
          extensions = subst (IsSpanIn (length extended)) (sym place) (more, omega arith);
        };
        code = λ other here.
            subst (λ (k : Clause). IsClauseCode terms c k (clause_code_of last extended its))
            (same_Some clause other (sym stands ∙ here)) whole;
        rows = record {
          body = body_part.rows;
          start = start_part.rows;
          extensions =
              subst (λ (ss : List Span). All (All (HasRowBelow (length terms))) (map (part last) ss)) (sym there)
              (parts-rows terms last added.spans codes added.parts);
        };
      };
      laid = λ in_old.
          subst (All (IsSpanIn (length last))) (sym added.grown)
          (All-append (IsSpanIn (length last)) extensions added.spans
          (All-weaker (IsSpanIn (length first)) (IsSpanIn (length last))
          (λ s h. IsSpanIn-more (length first) (length last) s (length-Grows first last to_all) h) extensions in_old)
          (parts-within terms last added.spans codes added.parts));
    }

-- spans stay what they are
map-part-more : (xs ys : List Instr) (spans : List Span) → All (IsSpanIn (length xs)) spans → map (part (xs ++ ys)) spans ≡ map (part xs) spans
map-part-more xs ys [] within = refl
map-part-more xs ys (s ∷ ss) within =
    ap (λ (i : List Instr). i ∷ map (part (xs ++ ys)) ss) (part-more xs ys s (All-head (IsSpanIn (length xs)) s ss within))
    ∙ ap (λ (is : List (List Instr)). part xs s ∷ is) (map-part-more xs ys ss (All-tail (IsSpanIn (length xs)) s ss within))

clause_code-more : (instrs more : List Instr) (extensions further : List Span) (its : ClauseSpans)
    → AreSpansIn (length instrs) (length extensions) its → All (IsSpanIn (length instrs)) extensions
    → clause_code_of (instrs ++ more) (extensions ++ further) its ≡ clause_code_of instrs extensions its
clause_code-more instrs more extensions further its within all =
    let body : part (instrs ++ more) its.body ≡ part instrs its.body = part-more instrs more its.body within.body in
    let start : part (instrs ++ more) its.start ≡ part instrs its.start = part-more instrs more its.start within.start in
    let own : List Span = part extensions its.extensions in
    let spans : part (extensions ++ further) its.extensions ≡ own = part-more extensions further its.extensions within.extensions in
    let P : Span → Type 0 = IsSpanIn (length instrs) in
    let extended : map (part (instrs ++ more)) (part (extensions ++ further) its.extensions) ≡ map (part instrs) own =
    ap (map (part (instrs ++ more))) spans
    ∙ map-part-more instrs more own (All-take P _ (drop its.extensions.from extensions) (All-drop P its.extensions.from extensions all)) in
    ap (λ (b : List Instr). record { body = b; start = part (instrs ++ more) its.start; extensions = map (part (instrs ++ more)) (part (extensions ++ further) its.extensions) }) body
    ∙ ap (λ (s : List Instr). record { body = part instrs its.body; start = s; extensions = map (part (instrs ++ more)) (part (extensions ++ further) its.extensions) }) start
    ∙ ap (λ (e : List (List Instr)). record { body = part instrs its.body; start = part instrs its.start; extensions = e }) extended

IsCompiled-more : (problem : Problem) (instrs more : List Instr) (extensions further : List Span) (c : ℕ) (its : ClauseSpans)
    → All (IsSpanIn (length instrs)) extensions → IsCompiled problem instrs extensions c its
    → IsCompiled problem (instrs ++ more) (extensions ++ further) c its
IsCompiled-more problem instrs more extensions further c its all is =
    let same : clause_code_of (instrs ++ more) (extensions ++ further) its ≡ clause_code_of instrs extensions its =
    clause_code-more instrs more extensions further its is.spans all in
    let longer : length instrs ≤ length (instrs ++ more) = omega (arith, length-append instrs more) in
    let further_on : length extensions ≤ length (extensions ++ further) = omega (arith, length-append extensions further) in
    record {
      spans = record {
        body = IsSpanIn-more (length instrs) (length (instrs ++ more)) its.body longer is.spans.body;
        start = IsSpanIn-more (length instrs) (length (instrs ++ more)) its.start longer is.spans.start;
        extensions = IsSpanIn-more (length extensions) (length (extensions ++ further)) its.extensions further_on is.spans.extensions;
      };
      code = λ clause stands. subst (IsClauseCode problem.terms c clause) (sym same) (is.code clause stands);
      rows = subst (HasRowsBelow (length problem.terms)) (sym same) is.rows;
    }

-- one more clause
pub compiled-push : (problem : Problem) (c : ℕ) (old new : List Instr) (extensions extended : List Span) (clauses clauses' : List ClauseSpans) (spans : ClauseSpans)
    → length clauses ≡ c → AddsClause problem c old extensions new extended spans → clauses' ≡ clauses ++ spans ∷ []
    → AreCompiled problem old extensions clauses → AreCompiled problem new extended clauses'
compiled-push problem c old new extensions extended clauses clauses' spans counted adds pushed are = record {
  extensions = adds.laid are.extensions;
  clauses = λ k its stands.
      let here : slice_get (clauses ++ spans ∷ []) k ≡ Some its = ap (λ (cs : List ClauseSpans). slice_get cs k) (sym pushed) ∙ stands in
      elim (below_or_last clauses spans k (slice_get_within (clauses ++ spans ∷ []) k its here)) [
        | inl below ↦
            let before : IsCompiled problem old extensions k its = are.clauses k its (sym (slice_get-push clauses spans k below) ∙ here) in
            subst (λ (is : List Instr). IsCompiled problem is extended k its) (sym adds.code.1)
            (subst (λ (es : List Span). IsCompiled problem (old ++ adds.code.0) es k its) (sym adds.parts.1)
            (IsCompiled-more problem old adds.code.0 extensions adds.parts.0 k its are.extensions before))
        | inr last ↦
            let same : spans ≡ its = same_Some spans its (sym (slice_get-last clauses spans) ∙ ap (slice_get (clauses ++ spans ∷ [])) (sym last) ∙ here) in
            subst (IsCompiled problem new extended k) same
            (subst (λ n. IsCompiled problem new extended n spans) (sym counted ∙ sym last) adds.compiled)
      ];
}

-- all clauses are compiled
pub laid-out : (problem : Problem) (instrs : List Instr) (extensions : List Span) (clauses : List ClauseSpans)
    → AreCompiled problem instrs extensions clauses → IsLaidOut instrs extensions clauses
laid-out problem instrs extensions clauses are = record {
  extensions = are.extensions;
  clauses = λ k d lt. (are.clauses k (get_or clauses k d) (slice_get-get_or clauses k d lt)).spans;
}

there-is : (instrs : List Instr) (extensions : List Span) (its : ClauseCode) (o : Option ClauseSpans)
    → option_map (clause_code_of instrs extensions) o ≡ Some its → (spans : ClauseSpans) × (o ≡ Some spans) × (clause_code_of instrs extensions spans ≡ its)
there-is instrs extensions its None is = cc
there-is instrs extensions its (Some spans) is = (spans, refl, same_Some (clause_code_of instrs extensions spans) its is)

pub compiled-all : (problem : Problem) (instrs : List Instr) (extensions : List Span) (clauses : List ClauseSpans)
    → length clauses ≡ length problem.clauses → AreCompiled problem instrs extensions clauses
    → IsCodeOf problem (code_of instrs extensions clauses)
compiled-all problem instrs extensions clauses counted are = record {
  count = length-map clauses (clause_code_of instrs extensions) ∙ counted;
  each = λ c clause its stands here.
      let there = there-is instrs extensions its (slice_get clauses c) (sym (slice_get-map (clause_code_of instrs extensions) clauses c) ∙ here) in
      subst (IsClauseCode problem.terms c clause) there.2 ((are.clauses c there.0 there.1).code clause stands);
  rows =
      All-map (HasRowsBelow (length problem.terms)) (clause_code_of instrs extensions) clauses
      (λ k d lt. (are.clauses k (get_or clauses k d) (slice_get-get_or clauses k d lt)).rows);
}
