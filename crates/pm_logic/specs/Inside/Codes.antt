-- How problems and tableaux are stored, as a proof may ask of a value: a record as the tuple of its
-- parts.
use Rattle.std.specs.Prelude.{◌≡◌, ℕ, zero, suc, ◌⊎◌, List, refl}
use Rattle.std.specs.Coded.{Coded, code_by, coded_list, coded×, coded⊎, coded_ℕ}
use Rattle.std.proofs.Common.{inl, inr}
use Rattle.pm_logic.specs.declared.symbols.Kind.{Kind}
use Rattle.pm_logic.specs.declared.symbols.Kind.TheVariants.{Predicate, Function, Equality}
use Rattle.pm_logic.specs.Term.{Term}
use Rattle.pm_logic.specs.TermCode.{term_code}
use Rattle.pm_logic.specs.Problem.{Symbol, Literal, Label, word, integer, Clause, Problem}
use Rattle.pm_logic.specs.Inside.LiteralCode.{literal_code}
use Rattle.pm_logic.specs.Inside.NodeCode.{nodes_code}
use Rattle.pm_logic.specs.Tableau.{Nodes, TableauWithTerms}

abbrev kind_number : Kind → ℕ
kind_number Predicate = 0
kind_number Function = 1
kind_number Equality = 2

abbrev kind_from : ℕ → Kind
kind_from zero = Predicate
kind_from (suc zero) = Function
kind_from (suc (suc n)) = Equality

pub kind_from-kind_number : (k : Kind) → kind_from (kind_number k) ≡ k
kind_from-kind_number Predicate = refl
kind_from-kind_number Function = refl
kind_from-kind_number Equality = refl

abbrev kind_code : Coded Kind
kind_code = code_by ℕ coded_ℕ kind_number kind_from kind_from-kind_number

abbrev symbol_code : Coded Symbol
symbol_code =
    code_by (List ℕ × (ℕ × Kind)) (coded× (coded_list coded_ℕ) (coded× coded_ℕ kind_code))
    (λ s. (s.text, (s.arity, s.kind))) (λ p. record { text = p.0; arity = p.1.0; kind = p.1.1 })
    (λ _. refl)

abbrev label_sum : Label → List ℕ ⊎ List ℕ
label_sum (word text) = inl text
label_sum (integer text) = inr text

abbrev label_from : List ℕ ⊎ List ℕ → Label
label_from (inl text) = word text
label_from (inr text) = integer text

pub label_from-label_sum : (l : Label) → label_from (label_sum l) ≡ l
label_from-label_sum (word text) = refl
label_from-label_sum (integer text) = refl

abbrev label_code : Coded Label
label_code =
    code_by (List ℕ ⊎ List ℕ)
    (coded⊎ (coded_list coded_ℕ) (coded_list coded_ℕ)) label_sum label_from label_from-label_sum

abbrev clause_code : Coded Clause
clause_code =
    code_by (Label × (List ℕ × (ℕ × List Literal)))
    (coded× label_code (coded× (coded_list coded_ℕ) (coded× coded_ℕ (coded_list literal_code))))
    (λ c. (c.name, (c.role, (c.vars, c.literals))))
    (λ p. record { name = p.0; role = p.1.0; vars = p.1.1.0; literals = p.1.1.1 }) (λ _. refl)

abbrev pub problem_code : Coded Problem
problem_code =
    code_by (List Symbol × (List Term × List Clause))
    (coded× (coded_list symbol_code) (coded× (coded_list term_code) (coded_list clause_code)))
    (λ p. (p.symbols, (p.terms, p.clauses)))
    (λ p. record { symbols = p.0; terms = p.1.0; clauses = p.1.1 }) (λ _. refl)

abbrev pub tableau_code : Coded TableauWithTerms
tableau_code =
    code_by (List Term × (ℕ × Nodes)) (coded× (coded_list term_code) (coded× coded_ℕ nodes_code))
    (λ t. (t.terms, (t.tableau.root, t.tableau.children)))
    (λ p. record { terms = p.0; tableau = record { root = p.1.0; children = p.1.1 } }) (λ _. refl)
