-- How the search of a problem ends, and what follows of its answer.
use Rattle.std.proofs.Common.{◌≡◌, ℕ, ◌+◌, ◌^◌, ◌<◌, ◌≤◌, inl, inr, List, length, Option, Some, None, refl, sym, ◌∙◌, ap, subst, arith}
use Rattle.std.specs.Option.{option_map}
use Rattle.std.specs.Prelude.{◌≢◌, slice_get, slice_index}
use Rattle.std.proofs.lemmas.Bool.{cases_lt}
use Rattle.pm_logic.specs.Problem.{Problem, IsValid}
use Rattle.pm_logic.specs.Tableau.{Tableau, TableauWithTerms, size}
use Rattle.pm_calculus.specs.Connection.{Level, IsClosed, IsOverSymbols, IsInClass}
use Rattle.pm_calculus.specs.Choices.{IsComplete, IsGeneral}
use Rattle.pm_calculus.specs.Truth.{HasFalseInstance}
use Rattle.pm_calculus.proofs.General.{general_in_class}
use Rattle.pm_calculus.proofs.OverSymbols.{general_over_symbols}
use Rattle.pm_calculus.proofs.Refutation.{refuted}
use Rattle.pm_calculus.proofs.TreesToLists.{tableau_follows}
use Rattle.pm_deepen.specs.declared.DeepEnd.{DeepEnd}
use Rattle.pm_deepen.specs.declared.DeepEnd.TheVariants.{Proof, DepthReached, BudgetOut}
use Rattle.pm_deepen.specs.Answer.{AreExhausted, IsAnswer}
use Rattle.pm_deepen.specs.Levels.{key_of, level_at, GoesWith, IsAnswerOf}
use Rattle.pm_search.specs.Work.{IsWork, Exceeds}
use Rattle.pm_tab.specs.Searched.{Searched}
use Rattle.pm_tab.specs.Searched.{level_of as searched_level}
use Rattle.pm_cert.specs.Text.{IsDocument}
use Rattle.pm_cert.specs.Laws.{IsCertifiable, HasSmallNumbers, IsCertificateFor}
use Rattle.pm_cert.proofs.CertifiableLemmas.{certifiable}
use Rattle.pm_cert.proofs.ReadBackLemmas.{read_back}
use Rattle.pm_certread.specs.Certificate.{Certificate}
use Rattle.pm_certread.specs.Reading.{accepted, Reads}
use Rattle.pm_args.specs.declared.job.Options.{Options}
use Rattle.pm_top.specs.declared.status.Status.{Status}
use Rattle.pm_top.specs.declared.status.Status.TheVariants as ends
use Rattle.pm_top.specs.Output.{searched_with, status_of, report}
use Rattle.pm_top.specs.Inside.Found.{searched_of}
use Rattle.pm_top.specs.Run.{IsExhausted, IsLeast, IsRefutedBy, IsSolvable}

module _ (problem : Problem) (options : Options) where
  abbrev level_of : ℕ → Level
  level_of bound = level_at problem (searched_with options) bound

  -- an exhausted level has no tableau
  exhausted_empty : (works : List ℕ) → AreExhausted (λ bound. key_of (level_of bound)) options.budget works → (level : ℕ) → level < length works
      → (t : Tableau) → ¬ IsInClass (level_of level) t
  exhausted_empty works exhausted level lt t member =
      let follows = tableau_follows (level_of level) t member in
      (exhausted.closes level lt).none follows.0 follows.1 (record { not_below = λ before. before; below = tt })

  pub exhausted_level : (works : List ℕ) → AreExhausted (λ bound. key_of (level_of bound)) options.budget works → (level : ℕ) → level < length works
      → IsExhausted problem options level (slice_index works level)
  exhausted_level works exhausted level lt = record { none = exhausted_empty works exhausted level lt; attempts = exhausted.closes level lt }

  at_own_size : (level : ℕ) (t : Tableau) → IsInClass (level_of level) t → IsInClass (level_of (size options.bound t)) t
  at_own_size level t h = record {
    start = h.start;
    over = h.over;
    closed = h.closed;
    connected = h.connected;
    regular = h.regular;
    within = omega arith;
  }

  -- the tableau of a proof is as large as its level
  pub own_size : (works : List ℕ) (level : ℕ) (t : Tableau) → AreExhausted (λ bound. key_of (level_of bound)) options.budget works → level ≡ length works
      → IsInClass (level_of level) t → size options.bound t ≡ level
  own_size works level t exhausted is member =
      elim (cases_lt (size options.bound t) level) [
        | inl less ↦ absurd (exhausted_empty works exhausted (size options.bound t) (omega (arith, less, is)) t (at_own_size level t member))
        | inr more ↦ omega (arith, more, member.within)
      ]

  -- the answer's general tableau
  module _ (works : List ℕ) (level work : ℕ) (path : List ℕ) (t : Tableau) (valid : IsValid problem)
      (answer : IsAnswer (λ bound. key_of (level_of bound)) options.depth options.budget works (Proof level path work)) (general : IsGeneral (level_of level) path t) where
    pub found_member : IsInClass (level_of level) t
    found_member = general_in_class (level_of level) path t answer.ends.2.first.marked general

    pub found_symbols : IsOverSymbols problem.symbols t
    found_symbols = general_over_symbols (level_of level) path t valid general

    pub found_certifiable : options.depth ≤ 250 → IsCertifiable problem t
    found_certifiable depth = certifiable (level_of level) t valid (omega (arith, answer.ends.1, depth)) found_member found_symbols general.numbered

    -- its document refutes the problem
    pub found_refuted : options.depth ≤ 250 → (text : List ℕ) → IsDocument problem.symbols (report options works work) t text → HasSmallNumbers (report options works work) t
        → IsRefutedBy problem options level text
    found_refuted depth text document numbers =
        let back = read_back problem (report options works work) t text (found_certifiable depth) numbers document in
        let is = answer.ends.0 in
        let same : back.0.tableau.tableau ≡ t = back.2.tree in
        record {
          certificate = back.0;
          reads = back.1;
          size_is = subst (λ (u : Tableau). size options.bound u ≡ level) (sym same) (own_size works level t answer.exhausted is found_member);
          member = subst (λ (u : Tableau). IsInClass (level_of level) u) (sym same) found_member;
          least = λ lower lt other. exhausted_empty works answer.exhausted lower (omega (arith, lt, is)) other;
          refuted = λ atoms. subst (λ (u : Tableau). HasFalseInstance problem.clauses u atoms) (sym same) (refuted problem.clauses t found_member.over found_member.closed atoms);
        }

  -- ---- what can be solved is

  pub no_depth : (works : List ℕ) (level : ℕ) → IsAnswer (λ bound. key_of (level_of bound)) options.depth options.budget works DepthReached → IsSolvable problem options level → ⊥
  no_depth works level answer solvable =
      exhausted_empty works answer.exhausted level (omega (arith, answer.ends, solvable.reached)) solvable.tableau solvable.member

  solved_within : (works : List ℕ) (level : ℕ) → AreExhausted (λ bound. key_of (level_of bound)) options.budget works → IsSolvable problem options level → length works ≤ level
  solved_within works level exhausted solvable =
      elim (cases_lt level (length works)) [
        | inl less ↦ absurd (exhausted_empty works exhausted level less solvable.tableau solvable.member)
        | inr more ↦ more
      ]

  pub no_budget : (works : List ℕ) (level at_level : ℕ) → IsAnswer (λ bound. key_of (level_of bound)) options.depth options.budget works (BudgetOut at_level) → IsSolvable problem options level → ⊥
  no_budget works level at_level answer solvable =
      solvable.within at_level (omega (arith, answer.ends.0, solved_within works level answer.exhausted solvable)) answer.ends.2

  pub solved_level : (works : List ℕ) (level at_level work : ℕ) (path : List ℕ) (t : Tableau) → IsAnswer (λ bound. key_of (level_of bound)) options.depth options.budget works (Proof at_level path work)
      → IsGeneral (level_of at_level) path t → IsSolvable problem options level → at_level ≡ level
  solved_level works level at_level work path t answer general solvable =
      elim (cases_lt at_level level) [
        | inl less ↦ absurd (solvable.least at_level less t (general_in_class (level_of at_level) path t answer.ends.2.first.marked general))
        | inr more ↦ omega (arith, more, answer.ends.0, solved_within works level answer.exhausted solvable)
      ]

-- ---- what was searched

-- the answer of a search over a space for it
module _ (problem : Problem) (options : Options) (searched : Searched) (is : searched ≡ searched_of problem options) (works : List ℕ) (end : DeepEnd)
    (answer : IsAnswer (λ bound. key_of (searched_level searched bound)) options.depth options.budget works end) where
  own_answer : IsAnswer (λ bound. key_of (level_at problem (searched_with options) bound)) options.depth options.budget works end
  own_answer = subst (λ (s : Searched). IsAnswer (λ bound. key_of (searched_level s bound)) options.depth options.budget works end) is answer

  -- a search without a tableau
  pub found_none : ((level : ℕ) (path : List ℕ) (work : ℕ) → end ≢ Proof level path work) → IsAnswerOf problem (searched_with options) works end None
  found_none unproved = record { search = own_answer; goes = no_tableau end unproved }
    where
      no_tableau : (e : DeepEnd) → ((level : ℕ) (path : List ℕ) (work : ℕ) → e ≢ Proof level path work) → GoesWith problem (searched_with options) e None
      no_tableau (Proof level path work) unproved = absurd (unproved level path work refl)
      no_tableau DepthReached unproved = tt
      no_tableau (BudgetOut level) unproved = tt

  module _ (level work : ℕ) (path taken : List ℕ) (ended : end ≡ Proof level path work) (taken_is : taken ≡ path) where
    pub found_complete : IsComplete (searched_level searched level) taken
    found_complete =
        let proof = subst (λ (e : DeepEnd). IsAnswer (λ bound. key_of (searched_level searched bound)) options.depth options.budget works e) ended answer in
        subst (λ (choices : List ℕ). IsComplete (searched_level searched level) choices) (sym taken_is) proof.ends.2.first.marked

    pub found_tableau : (t : Tableau) → IsGeneral (searched_level searched level) taken t → IsAnswerOf problem (searched_with options) works end (Some t)
    found_tableau t general =
        let own = subst (λ (s : Searched). IsGeneral (searched_level s level) taken t) is general in
        let goes = subst (λ (choices : List ℕ). IsGeneral (level_at problem (searched_with options) level) choices t) taken_is own in
        record { search = own_answer; goes = subst (λ (e : DeepEnd). GoesWith problem (searched_with options) e (Some t)) (sym ended) goes }
