-- How a line bears on the lines before it.
use Rattle.std.proofs.Common.{Result, Ok, Err, ◌≡◌, ◌+◌, inl, inr, ℕ, List, [], ◌∷◌, length, sym, ap, subst, refl}
use Rattle.pm_logic.specs.Problem.{Problem}
use Rattle.pm_certread.specs.declared.error.CertKind.{CertKind}
use Rattle.pm_certread.specs.declared.error.CertKind.TheVariants.{Syntax}
use Rattle.pm_certread.specs.declared.error.CertError.{CertError}
use Rattle.pm_certread.specs.declared.error.CertError.TheVariants.{At, Memory}
use Rattle.pm_certread.specs.declared.fault.Fault.{Fault}
use Rattle.pm_certread.specs.declared.fault.Fault.TheVariants as faults
use Rattle.pm_certread.specs.declared.lines.Lines.{Lines}
use Rattle.pm_certread.specs.Lines.{cut_lines}
use Rattle.pm_certread.specs.Certificate.{Certificate}
use Rattle.std.specs.Result.{IfErr, IsErrAnd}
use Rattle.pm_certread.specs.Reading.{opening, Stage, Outcome, accepted, refused, Leads, Offends, Ends, ReadsFrom}
use Rattle.pm_certread.specs.Inside.Progress.{Comes, Continues, RefusesFrom}
use Rattle.pm_certread.specs.Refusals.{Refuses}
use Rattle.pm_certread.specs.Inside.Terms.{IsFault, error_at}

-- these lines are a line and what is left
pub record Takes (old new : Lines) (raw : List ℕ) : Type 0 where
  pub cut : cut_lines old.rest.now ≡ raw ∷ cut_lines new.rest.now
  pub count : new.taken ≡ old.taken + 1

abbrev reads_on : (over : Problem) (stage : Stage) (old new : Lines) (raw : List ℕ) (outcome : Outcome) → Takes old new raw
    → ReadsFrom over stage old.taken (raw ∷ cut_lines new.rest.now) outcome → Comes over stage old outcome
reads_on over stage old new raw outcome takes h =
    subst (λ (ls : List (List ℕ)). ReadsFrom over stage old.taken ls outcome) (sym takes.cut) h

pub leads_on : (over : Problem) (stage next : Stage) (old new : Lines) (raw : List ℕ) → Takes old new raw
    → Leads over old.taken (length (cut_lines new.rest.now)) stage raw next → Continues over stage old next new
leads_on over stage next old new raw takes leads outcome h =
    reads_on over stage old new raw outcome takes
    (inl (next, leads, subst (λ (n : ℕ). ReadsFrom over next n (cut_lines new.rest.now) outcome) takes.count h))

pub offends_here : (over : Problem) (stage : Stage) (old new : Lines) (raw : List ℕ) (kind : CertKind) → Takes old new raw
    → Offends over (length (cut_lines new.rest.now)) stage raw kind → RefusesFrom over stage old (At new.taken kind)
offends_here over stage old new raw kind takes bad =
    reads_on over stage old new raw (refused new.taken kind) takes (inr (inl (kind, bad, ap (λ (n : ℕ). refused n kind) takes.count)))

pub ends_here : (over : Problem) (stage : Stage) (old new : Lines) (raw : List ℕ) (certificate : Certificate) → Takes old new raw
    → Ends stage raw certificate → Comes over stage old (accepted certificate)
ends_here over stage old new raw certificate takes ends =
    reads_on over stage old new raw (accepted certificate) takes (inr (inr (certificate, ends, refl)))

pub missing : (over : Problem) (stage : Stage) (old : Lines) (error : CertError) → cut_lines old.rest.now ≡ [] → error ≡ At (old.taken + 1) Syntax → RefusesFrom over stage old error
missing over stage old error none is =
    subst (RefusesFrom over stage old) (sym is)
    (subst (λ (ls : List (List ℕ)). ReadsFrom over stage old.taken ls (refused (old.taken + 1) Syntax)) (sym none) refl)

pub refuses_before : (over : Problem) (stage next : Stage) (old new : Lines) (error : CertError) → Continues over stage old next new → RefusesFrom over next new error → RefusesFrom over stage old error
refuses_before over stage next old new (At line kind) on bad = on (refused line kind) bad
refuses_before over stage next old new Memory on bad = tt

-- what is wrong with a line refuses the lines before it
pub fault_refuses : (over : Problem) (stage : Stage) (old new : Lines) (raw : List ℕ) (offends : CertKind → Type 0) (fault : Fault) (error : CertError) → Takes old new raw
    → ((kind : CertKind) → offends kind → Offends over (length (cut_lines new.rest.now)) stage raw kind) → IsFault offends fault → error ≡ error_at new.taken fault → RefusesFrom over stage old error
fault_refuses over stage old new raw offends fault error takes lifts bad is = subst (RefusesFrom over stage old) (sym is) (go fault bad)
  where
    go : (f : Fault) → IsFault offends f → RefusesFrom over stage old (error_at new.taken f)
    go (faults.Kind kind) h = offends_here over stage old new raw kind takes (lifts kind h)
    go faults.Memory h = tt

-- ---- the whole document

-- an error that goes on unchanged
pub goes_on : {T E : Type 0} (r : Result T E) (e : E) (P : E → Type 0) → IsErrAnd r (λ x. x ≡ e) → P e → IfErr r P
goes_on {E = E} (Ok x) e P is h = tt
goes_on {E = E} (Err x) e P is h = subst P (sym is) h

pub from_start : (over : Problem) (lines : Lines) (bytes : List ℕ) (error : CertError) → lines.rest.now ≡ bytes → lines.taken ≡ 0 → RefusesFrom over opening lines error → Refuses over bytes error
from_start over lines bytes (At line kind) same none h =
    subst (λ (n : ℕ). ReadsFrom over opening n (cut_lines bytes) (refused line kind)) none
    (subst (λ (bs : List ℕ). ReadsFrom over opening lines.taken (cut_lines bs) (refused line kind)) same h)
from_start over lines bytes Memory same none h = tt
