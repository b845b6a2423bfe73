-- What the texts of searches say is so.
use Rattle.std.proofs.Common.{◌≡◌, ◌≢◌, ℕ, ◌+◌, ◌^◌, ◌<◌, ◌≤◌, List, length, get_or, Option, Some, None, refl, sym, ap, subst, ◌∙◌, arith, Bor}
use Rattle.std.specs.List.{All}
use Rattle.std.specs.Option.{option_map}
use Rattle.std.specs.Prelude.{slice_get, slice_index}
use Rattle.std.proofs.lemmas.Option.{slice_get_within, slice_get-get_or}
use Rattle.std.proofs.lemmas.Grind.{get_or_default_zero}
use Rattle.pm_logic.specs.Problem.{Problem, IsValid}
use Rattle.pm_logic.specs.Tableau.{Tableau, TableauWithTerms}
use Rattle.pm_calculus.specs.Connection.{IsClosed, IsOverSymbols}
use Rattle.pm_deepen.specs.declared.DeepEnd.{DeepEnd}
use Rattle.pm_deepen.specs.declared.DeepEnd.TheVariants.{Proof, DepthReached, BudgetOut}
use Rattle.pm_deepen.specs.Answer.{AreExhausted, IsAnswer}
use Rattle.pm_deepen.specs.Levels.{key_of, level_at, IsAnswerOf}
use Rattle.pm_certread.specs.Lines.{text_of, status_line, level_line, level_lines}
use Rattle.pm_cert.specs.Text.{IsDocument}
use Rattle.pm_cert.specs.Laws.{HasSmallNumbers}
use Rattle.pm_cert.proofs.SaysLemmas.{says_level}
use Rattle.pm_report.specs.Text.{gave_up_lines, resource_out_lines}
use Rattle.pm_args.specs.declared.job.Options.{Options}
use Rattle.pm_top.specs.declared.status.Status.{Status}
use Rattle.pm_top.specs.declared.status.Status.TheVariants as ends
use Rattle.pm_top.specs.Output.{searched_with, status_of, report, IsTextOf, EndsSearch}
use Rattle.pm_top.specs.Run.{IsExhausted, IsRefutedBy, IsSolvable}
use Rattle.pm_top.specs.Inside.Says.{HasLine, Says}
use Rattle.pm_top.specs.Inside.Stops.{AreWithinLimits}
use Rattle.pm_top.proofs.Searches.{exhausted_level, found_member, found_symbols, found_certifiable, found_refuted, no_depth, no_budget, solved_level}
use Rattle.pm_top.proofs.Lines.{said_work, gave_up_says, gave_up_no_status, resource_out_says, resource_out_no_status}

module _ (problem : Problem) (options : Options) (limits : AreWithinLimits options) (works : List ℕ) (end : DeepEnd) (tableau : Option Tableau)
    (answer : IsAnswerOf problem (searched_with options) works end tableau) where
  pub few : length works < 2 ^ 64
  few = omega (arith, answer.search.few, limits.0)

  pub small : All (λ w. w < 2 ^ 64) works
  small = λ k d lt. (let within = answer.search.exhausted.within k lt in let same = get_or_default_zero works k d lt in omega (arith, within, same, limits.1))

  -- a level that is among the works is exhausted
  exhausted_at : (level work : ℕ) → slice_get works level ≡ Some work → IsExhausted problem options level work
  exhausted_at level work stands =
      let lt : level < length works = slice_get_within works level work stands in
      let some : Some (slice_index works level) ≡ Some work = sym (slice_get-get_or works level 0 lt) ∙ stands in
      let same : slice_index works level ≡ work = cc in
      subst (IsExhausted problem options level) same (exhausted_level problem options works answer.search.exhausted level lt)

  -- what a text that isn't a proof's says
  says_works : (status : Status) (text : List ℕ) → status ≢ ends.Done
      → ((level work : ℕ) → level < 2 ^ 64 → work < 2 ^ 64 → HasLine text (level_line level work) → slice_get works level ≡ Some work) → ¬ HasLine text status_line
      → ((level : ℕ) → ¬ IsSolvable problem options level) → Says (λ holds. holds problem) options status text
  says_works status text not_done works_said no_status unsolved = record {
    exhausted = λ level work small_level small_work h. exhausted_at level work (works_said level work small_level small_work h);
    refuted = λ h. absurd (no_status h);
    done = λ is. absurd (not_done is);
    solvable = λ level h. absurd (unsolved level h);
  }

  module _ (text : List ℕ) (is : end ≡ DepthReached) (text_is : text ≡ text_of (gave_up_lines works)) where
    depth_search : IsAnswer (λ bound. key_of (level_at problem (searched_with options) bound)) options.depth options.budget works DepthReached
    depth_search = subst (λ (e : DeepEnd). IsAnswer (λ bound. key_of (level_at problem (searched_with options) bound)) options.depth options.budget works e) is answer.search

    pub depth_answer : EndsSearch options problem ends.DepthReached text × Says (λ holds. holds problem) options ends.DepthReached text
    depth_answer = (
      record {
        works = works;
        end = end;
        tableau = tableau;
        answer = answer;
        status_is = sym (ap status_of is);
        text_is = subst (λ (e : DeepEnd). IsTextOf problem options works e tableau text) (sym is) text_is;
      },
      says_works ends.DepthReached text (λ e. absurd cc)
          (λ level work small_level small_work h. gave_up_says works few small level work small_level small_work (subst (λ (t : List ℕ). HasLine t (level_line level work)) text_is h))
          (λ h. gave_up_no_status works few small (subst (λ (t : List ℕ). HasLine t status_line) text_is h))
          (λ level h. no_depth problem options works level depth_search h),
    )

  module _ (at_level : ℕ) (text : List ℕ) (is : end ≡ BudgetOut at_level) (text_is : text ≡ text_of (resource_out_lines works)) where
    budget_search : IsAnswer (λ bound. key_of (level_at problem (searched_with options) bound)) options.depth options.budget works (BudgetOut at_level)
    budget_search = subst (λ (e : DeepEnd). IsAnswer (λ bound. key_of (level_at problem (searched_with options) bound)) options.depth options.budget works e) is answer.search

    pub budget_answer : EndsSearch options problem ends.Budget text × Says (λ holds. holds problem) options ends.Budget text
    budget_answer = (
      record {
        works = works;
        end = end;
        tableau = tableau;
        answer = answer;
        status_is = sym (ap status_of is);
        text_is = subst (λ (e : DeepEnd). IsTextOf problem options works e tableau text) (sym is) text_is;
      },
      says_works ends.Budget text (λ e. absurd cc)
          (λ level work small_level small_work h. resource_out_says works few small level work small_level small_work (subst (λ (t : List ℕ). HasLine t (level_line level work)) text_is h))
          (λ h. resource_out_no_status works few small (subst (λ (t : List ℕ). HasLine t status_line) text_is h))
          (λ level h. no_budget problem options works level at_level budget_search h),
    )

  module _ (valid : IsValid problem) (at_level last : ℕ) (path : List ℕ) (t : Tableau) (is : end ≡ Proof at_level path last) (drawn : tableau ≡ Some t) where
    moved : IsAnswerOf problem (searched_with options) works (Proof at_level path last) (Some t)
    moved = subst (λ (o : Option Tableau). IsAnswerOf problem (searched_with options) works (Proof at_level path last) o) drawn
        (subst (λ (e : DeepEnd). IsAnswerOf problem (searched_with options) works e tableau) is answer)

    pub proof_closed : IsClosed t
    proof_closed = (found_member problem options works at_level last path t valid moved.search moved.goes).closed

    pub proof_symbols : IsOverSymbols problem.symbols t
    proof_symbols = found_symbols problem options works at_level last path t valid moved.search moved.goes

    module _ (text : List ℕ) (document : IsDocument problem.symbols (report options works last) t text) (numbers : HasSmallNumbers (report options works last) t) where
      refutes : IsRefutedBy problem options at_level text
      refutes = found_refuted problem options works at_level last path t valid moved.search moved.goes limits.0 text document numbers

      pub proof_answer : EndsSearch options problem ends.Done text × Says (λ holds. holds problem) options ends.Done text
      proof_answer = (
        record { works = works; end = Proof at_level path last; tableau = Some t; answer = moved; status_is = refl; text_is = document },
        record {
          exhausted = λ level work small_level small_work h. exhausted_at level work
              (said_work works few small level work small_level small_work
              (says_level level work small_level small_work problem (report options works last) t text
              (found_certifiable problem options works at_level last path t valid moved.search moved.goes limits.0) numbers document h));
          refuted = λ h. refl;
          done = λ e. (at_level, refutes);
          solvable = λ level h.
              (refl, subst (λ (n : ℕ). IsRefutedBy problem options n text) (solved_level problem options works level at_level last path t moved.search moved.goes h) refutes);
        },
      )
