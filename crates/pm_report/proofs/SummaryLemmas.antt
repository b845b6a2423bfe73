-- The line for the end of a search, and that it is determined.
use Rattle.std.proofs.Common.{◌≡◌, ◌∙◌, ◌+◌, ℕ, List, [], ◌∷◌, ◌++◌, Option, Some, None, refl, sym, ap, length, ap₂, codes, decimal, append_assoc, Bor, arith}
use Rattle.std.specs.Option.{option_map}
use Rattle.pm_deepen.specs.declared.DeepEnd.{DeepEnd}
use Rattle.pm_deepen.specs.declared.DeepEnd.TheVariants.{Proof, DepthReached, BudgetOut}
use Rattle.pm_logic.specs.Tableau.{TableauWithTerms, depth, preorder}
use Rattle.pm_logic.specs.Term.{Term}
use Rattle.pm_report.specs.Summary.{AreTermsIn, IsEndLine, SummaryIsDetermined, attempts, last_attempts, proof_line, sample_line}
use Rattle.pm_report.specs.Text.{Line, text_of}
use Rattle.pm_report.proofs.MarkLemmas.{same_count}

pub proof_joined : (text a d b n c t e s z : List ℕ) → ((((text ++ (a ++ d)) ++ (b ++ n)) ++ (c ++ t)) ++ (e ++ s)) ++ z
    ≡ text ++ ((a ++ (d ++ (b ++ (n ++ (c ++ (t ++ (e ++ s))))))) ++ z)
proof_joined text a d b n c t e s z = simp append_assoc

abbrev field : List ℕ → ℕ → List ℕ
field label number = label ++ decimal number

pub fields_join : (text one two three four la lb lc ld z : List ℕ) (a a' b b' c c' d : ℕ) → a ≡ a' → b ≡ b' → c ≡ c'
    → one ≡ text ++ field la a → two ≡ one ++ field lb b → three ≡ two ++ field lc c → four ≡ three ++ field ld d
    → four ++ z ≡ text ++ ((la ++ (decimal a' ++ (lb ++ (decimal b' ++ (lc ++ (decimal c' ++ field ld d)))))) ++ z)
fields_join text one two three four la lb lc ld z a a' b b' c c' d ea eb ec e1 e2 e3 e4 =
    let first : one ≡ text ++ field la a' = e1 ∙ ap (λ (n : ℕ). text ++ field la n) ea in
    let second : two ≡ (text ++ field la a') ++ field lb b' = e2 ∙ ap₂ (λ (t : List ℕ) (n : ℕ). t ++ field lb n) first eb in
    let third : three ≡ ((text ++ field la a') ++ field lb b') ++ field lc c' = e3 ∙ ap₂ (λ (t : List ℕ) (n : ℕ). t ++ field lc n) second ec in
    let fourth : four ≡ (((text ++ field la a') ++ field lb b') ++ field lc c') ++ field ld d = e4 ∙ ap (λ (t : List ℕ). t ++ field ld d) third in
    ap (λ (t : List ℕ). t ++ z) fourth ∙ proof_joined text la (decimal a') lb (decimal b') lc (decimal c') ld (decimal d) z

module _ (end : DeepEnd) (sum : ℕ) (opt : Option (Bor TableauWithTerms)) (old new : List ℕ) where
  pub proof_told : (level work total : ℕ) (path : List ℕ) (t : Bor TableauWithTerms) → end ≡ Proof level path work → opt ≡ Some t → total ≡ sum + work
      → (terms : List Term) × AreTermsIn t.now.tableau terms × (new ≡ old ++ text_of (proof_line t.now.tableau terms total ∷ []))
      → (line : Line) × IsEndLine end (sum + last_attempts end) (option_map (λ t. t.now) opt) line × (new ≡ old ++ text_of (line ∷ []))
  proof_told level work total path t is some count h =
      rw (is, some) (proof_line t.now.tableau h.0 (sum + work), (h.0, h.1, refl), h.2 ∙ ap (λ (n : ℕ). old ++ text_of (proof_line t.now.tableau h.0 n ∷ [])) count)

  pub depth_told : (total : ℕ) → end ≡ DepthReached → total ≡ sum → new ≡ old ++ text_of ((codes "depth reached attempts " ++ decimal total) ∷ [])
      → (line : Line) × IsEndLine end (sum + last_attempts end) (option_map (λ t. t.now) opt) line × (new ≡ old ++ text_of (line ∷ []))
  depth_told total is count h =
      let all : total ≡ sum + 0 = omega arith in
      rw is (codes "depth reached attempts " ++ decimal total, ap (λ (n : ℕ). codes "depth reached attempts " ++ decimal n) all, h)

  pub budget_told : (level printed : ℕ) → end ≡ BudgetOut level → printed ≡ level → new ≡ old ++ text_of ((codes "budget at level " ++ decimal printed) ∷ [])
      → (line : Line) × IsEndLine end (sum + last_attempts end) (option_map (λ t. t.now) opt) line × (new ≡ old ++ text_of (line ∷ []))
  budget_told level printed is same h =
      rw is (codes "budget at level " ++ decimal printed, ap (λ (n : ℕ). codes "budget at level " ++ decimal n) same, h)

same_proof_line : (t : TableauWithTerms) (terms others : List Term) (total : ℕ) → length terms ≡ length others → proof_line t.tableau terms total ≡ proof_line t.tableau others total
same_proof_line t terms others total count = ap (λ (n : ℕ). codes "proof depth " ++ (decimal (depth t.tableau) ++ (codes " nodes "
    ++ (decimal (length (preorder t.tableau)) ++ (codes " terms " ++ (decimal n ++ (codes " attempts " ++ decimal total))))))) count

same_line : (end : DeepEnd) (total : ℕ) (t : Option TableauWithTerms) (line other : Line) → IsEndLine end total t line → IsEndLine end total t other → line ≡ other
same_line (Proof level path work) total (Some t) line other h g =
    h.2 ∙ same_proof_line t h.0 g.0 total (same_count t.tableau h.0 g.0 h.1 g.1) ∙ sym g.2
same_line (Proof level path work) total None line other h g = absurd h
same_line DepthReached total t line other h g = h ∙ sym g
same_line (BudgetOut level) total t line other h g = h ∙ sym g

pub summary_determined : SummaryIsDetermined
summary_determined n clauses outcome t text other h g =
    h.2 ∙ ap (λ (line : Line). text_of (sample_line n clauses ∷ line ∷ [])) (same_line outcome.end (attempts outcome) t h.0 g.0 h.1 g.1) ∙ sym g.2
