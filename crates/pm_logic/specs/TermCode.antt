-- How a term is stored, as a proof may ask of a value.
use Rattle.std.specs.Prelude.{◌≡◌, ℕ, ◌⊎◌, List, [], ◌∷◌, ◌++◌, refl}
use Rattle.std.specs.Coded.{Coded, code_by, coded_list, coded⊎, coded_ℕ}
use Rattle.std.proofs.Common.{inl, inr, ◌∙◌, ap}
use Rattle.pm_logic.specs.Term.{Term, Terms, var, app, no_terms, more_terms}

-- A term is stored as marks, its arguments' before its own: a variable, a symbol whose arguments
-- come before, or the end of a list of arguments.
abbrev pub Mark : Type 0
Mark = ℕ ⊎ (ℕ ⊎ ℕ)

abbrev mutual
  pub marks : Term → List Mark
  marks (var n) = inl n ∷ []
  marks (app f ts) = marks_all ts ++ inr (inl f) ∷ []

  pub marks_all : Terms → List Mark
  marks_all no_terms = inr (inr 0) ∷ []
  marks_all (more_terms t ts) = marks_all ts ++ marks t

-- the lists of terms that stand on the stack after a mark
abbrev pub after_mark : Mark → List Terms → List Terms
after_mark (inl n) [] = []
after_mark (inl n) (ts ∷ more) = more_terms (var n) ts ∷ more
after_mark (inr (inl f)) [] = []
after_mark (inr (inl f)) (ts ∷ []) = []
after_mark (inr (inl f)) (ts ∷ us ∷ more) = more_terms (app f ts) us ∷ more
after_mark (inr (inr n)) stack = no_terms ∷ stack

abbrev pub after_marks : List Mark → List Terms → List Terms
after_marks [] stack = stack
after_marks (m ∷ ms) stack = after_marks ms (after_mark m stack)

after_marks-append :
    (ms ns : List Mark) (stack : List Terms)
    → after_marks (ms ++ ns) stack ≡ after_marks ns (after_marks ms stack)
after_marks-append [] ns stack = refl
after_marks-append (m ∷ ms) ns stack = after_marks-append ms ns (after_mark m stack)

mutual
  after_marks-marks :
      (t : Term) (us : Terms) (more : List Terms)
      → after_marks (marks t) (us ∷ more) ≡ more_terms t us ∷ more
  after_marks-marks (var n) us more = refl
  after_marks-marks (app f ts) us more =
      after_marks-append (marks_all ts) (inr (inl f) ∷ []) (us ∷ more)
      ∙ ap (after_marks (inr (inl f) ∷ [])) (after_marks-marks_all ts (us ∷ more))

  after_marks-marks_all :
      (ts : Terms) (more : List Terms) → after_marks (marks_all ts) more ≡ ts ∷ more
  after_marks-marks_all no_terms more = refl
  after_marks-marks_all (more_terms t ts) more =
      after_marks-append (marks_all ts) (marks t) more
      ∙ ap (after_marks (marks t)) (after_marks-marks_all ts more)
      ∙ after_marks-marks t ts more

abbrev pub first_term : List Terms → Term
first_term [] = var 0
first_term (no_terms ∷ more) = var 0
first_term (more_terms t ts ∷ more) = t

-- the term of these marks
abbrev pub read_term : List Mark → Term
read_term ms = first_term (after_marks ms (no_terms ∷ []))

pub read_term-marks : (t : Term) → read_term (marks t) ≡ t
read_term-marks t = ap first_term (after_marks-marks t no_terms [])

abbrev pub term_code : Coded Term
term_code =
    code_by (List Mark)
    (coded_list (coded⊎ coded_ℕ (coded⊎ coded_ℕ coded_ℕ))) marks read_term read_term-marks
