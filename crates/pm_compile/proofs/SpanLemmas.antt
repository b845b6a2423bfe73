-- Parts of a list that grows.
use Rattle.std.proofs.Common.{◌≡◌, ℕ, ◌-◌, ◌≤◌, List, [], ◌∷◌, ◌++◌, All, length, map, take, drop, refl, sym, ◌∙◌, ap, subst, arith}
use Rattle.std.proofs.lemmas.List.{length-append, length-drop, take-append-le, drop-append-le, drop_at, take_all}
use Rattle.std.proofs.lemmas.List.Elements.{All-nil, All-cons}
use Rattle.pm_logic.specs.Term.{Term}
use Rattle.pm_compile.specs.declared.code.Span.{Span}
use Rattle.pm_compile.specs.declared.instr.Instr.{Instr}
use Rattle.pm_compile.specs.Instructions.{Instruction, HasRowBelow}
use Rattle.pm_compile.specs.Inside.Appended.{Appends}
use Rattle.pm_compile.specs.Code.{instructions}
use Rattle.pm_compile.specs.Inside.Spans.{part, IsPart, ArePartsOf, IsSpanIn}
use Rattle.pm_compile.proofs.AppendLemmas.{length-Appends}

-- a part stays when the list gets more
pub part-more : {A : Type 0} (xs ys : List A) (span : Span) → IsSpanIn (length xs) span → part (xs ++ ys) span ≡ part xs span
part-more xs ys span within =
    ap (take (span.to - span.from)) (drop-append-le span.from xs ys (omega (arith, within.0, within.1)))
    ∙ take-append-le (span.to - span.from) (drop span.from xs) ys (omega (arith, length-drop span.from xs, within.0, within.1))

-- what was appended is a part
pub part-last : {A : Type 0} (xs ys all : List A) (to : ℕ) → all ≡ xs ++ ys → to ≡ length all → part all (record { from = length xs; to = to }) ≡ ys
part-last xs ys all to is end =
    let count : to - length xs ≡ length ys = omega (arith, end, ap length is, length-append xs ys) in
    ap (take (to - length xs)) (ap (drop (length xs)) is ∙ drop_at xs ys (length xs) refl)
    ∙ ap (λ n. take n ys) count
    ∙ take_all (length ys) ys (omega arith)

pub IsSpanIn-more : (few many : ℕ) (span : Span) → few ≤ many → IsSpanIn few span → IsSpanIn many span
IsSpanIn-more few many span le within = (within.0, omega (arith, within.1, le))

pub IsPart-more : (terms : List Term) (instrs more : List Instr) (span : Span) (code : List Instruction)
    → IsPart terms instrs span code → IsPart terms (instrs ++ more) span code
IsPart-more terms instrs more span code is =
    let same : part (instrs ++ more) span ≡ part instrs span = part-more instrs more span is.within in
    record {
      within = IsSpanIn-more (length instrs) (length (instrs ++ more)) span (omega (arith, length-append instrs more)) is.within;
      says = ap (instructions terms) same ∙ is.says;
      rows = subst (All (HasRowBelow (length terms))) (sym same) is.rows;
    }

pub IsPart-appended : (terms : List Term) (old new : List Instr) (from to : ℕ) (code : List Instruction) → Appends terms old new code
    → from ≡ length old → to ≡ length new → IsPart terms new (record { from = from; to = to }) code
IsPart-appended terms old new from to code a begin end =
    let same : part new (record { from = from; to = to }) ≡ a.more =
    ap (λ n. part new (record { from = n; to = to })) begin ∙ part-last old a.more new to a.grown end in
    record {
      within = (omega (arith, begin, end, length-Appends terms old new code a), omega (arith, end));
      says = ap (instructions terms) same ∙ a.says;
      rows = subst (All (HasRowBelow (length terms))) (sym same) a.rows;
    }

pub ArePartsOf-more : (terms : List Term) (instrs more : List Instr) (spans : List Span) (codes : List (List Instruction))
    → ArePartsOf terms instrs spans codes → ArePartsOf terms (instrs ++ more) spans codes
ArePartsOf-more terms instrs more [] [] are = tt
ArePartsOf-more terms instrs more [] (c ∷ cs) are = absurd are
ArePartsOf-more terms instrs more (s ∷ ss) [] are = absurd are
ArePartsOf-more terms instrs more (s ∷ ss) (c ∷ cs) are =
    (IsPart-more terms instrs more s c are.0, ArePartsOf-more terms instrs more ss cs are.1)

pub ArePartsOf-push : (terms : List Term) (instrs : List Instr) (spans : List Span) (codes : List (List Instruction)) (span : Span) (code : List Instruction)
    → ArePartsOf terms instrs spans codes → IsPart terms instrs span code → ArePartsOf terms instrs (spans ++ span ∷ []) (codes ++ code ∷ [])
ArePartsOf-push terms instrs [] [] span code are is = (is, tt)
ArePartsOf-push terms instrs [] (c ∷ cs) span code are is = absurd are
ArePartsOf-push terms instrs (s ∷ ss) [] span code are is = absurd are
ArePartsOf-push terms instrs (s ∷ ss) (c ∷ cs) span code are is = (are.0, ArePartsOf-push terms instrs ss cs span code are.1 is)

-- what the spans cover says what it should
pub parts-say : (terms : List Term) (instrs : List Instr) (spans : List Span) (codes : List (List Instruction))
    → ArePartsOf terms instrs spans codes → map (instructions terms) (map (part instrs) spans) ≡ codes
parts-say terms instrs [] [] are = refl
parts-say terms instrs [] (c ∷ cs) are = absurd are
parts-say terms instrs (s ∷ ss) [] are = absurd are
parts-say terms instrs (s ∷ ss) (c ∷ cs) are =
    ap (λ (i : List Instruction). i ∷ map (instructions terms) (map (part instrs) ss)) are.0.says
    ∙ ap (λ (is : List (List Instruction)). c ∷ is) (parts-say terms instrs ss cs are.1)

pub parts-rows : (terms : List Term) (instrs : List Instr) (spans : List Span) (codes : List (List Instruction))
    → ArePartsOf terms instrs spans codes → All (All (HasRowBelow (length terms))) (map (part instrs) spans)
parts-rows terms instrs [] [] are = All-nil (All (HasRowBelow (length terms)))
parts-rows terms instrs [] (c ∷ cs) are = absurd are
parts-rows terms instrs (s ∷ ss) [] are = absurd are
parts-rows terms instrs (s ∷ ss) (c ∷ cs) are =
    All-cons (All (HasRowBelow (length terms))) (part instrs s) (map (part instrs) ss) are.0.rows (parts-rows terms instrs ss cs are.1)

pub parts-within : (terms : List Term) (instrs : List Instr) (spans : List Span) (codes : List (List Instruction))
    → ArePartsOf terms instrs spans codes → All (IsSpanIn (length instrs)) spans
parts-within terms instrs [] [] are = All-nil (IsSpanIn (length instrs))
parts-within terms instrs [] (c ∷ cs) are = absurd are
parts-within terms instrs (s ∷ ss) [] are = absurd are
parts-within terms instrs (s ∷ ss) (c ∷ cs) are =
    All-cons (IsSpanIn (length instrs)) s ss are.0.within (parts-within terms instrs ss cs are.1)
